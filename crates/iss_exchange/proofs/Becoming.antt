-- What each move comes to, from what the code does.
use Rattle.std.proofs.Common.{Bor, Vec, Global, ◌≡◌, ℕ, zero, suc, ◌+◌, ◌-◌, ◌≤◌, ◌<◌, Bool, true, false, cond, ◌&&◌, nat_eq, nat_lt, nat_le, List, [], ◌∷◌, ◌++◌, get_or, length, map, refl, sym, ap, ap₂, subst, ◌∙◌, arith}
use Rattle.std.specs.Prelude.{Result, Ok, Err, IfOk, Option, Some, None, IfSome, is_some, option_to_list, slice_get, take}
use Rattle.std.specs.List.{filter_map}
use Rattle.std.specs.Option.{option_copied, option_map}
use Rattle.std.proofs.lemmas.Bool.Decides.{nat_tests}
use Rattle.std.proofs.lemmas.List.{append-nil}
use Rattle.std.proofs.lemmas.List.Folds.{list_all-append}
use Rattle.std.proofs.lemmas.Option.{slice_get-get_or, slice_get-map, slice_get_past}
use Rattle.iss_model.specs.declared.entry.Entry.{Entry}
use Rattle.iss_model.specs.declared.input.Input.{Input}
use Rattle.iss_model.specs.declared.input.Record.{Record}
use Rattle.iss_model.specs.declared.decision.Judged.{Judged}
use Rattle.iss_model.specs.declared.decision.Judged.TheVariants as judged
use Rattle.iss_model.specs.Forms.{is_stamp}
use Rattle.iss_model.specs.rules.Histories.{Follows, history_keeper, history_of}
use Rattle.iss_model.specs.rules.Judging.{judge}
use Rattle.iss_model.specs.rules.Stepping.{step}
use Rattle.iss_model.specs.run.Rooms.{record_made}
use Rattle.iss_agreement.proofs.RunLaws.{clock_follows, new_follows}
use Rattle.iss_core.specs.Values.{CoreNow, CoreStandsFor}
use Rattle.iss_model.specs.texts.CallTokens.{call_uuid}
use Rattle.iss_delivery.specs.Delivering.{AllAreSendable, IsSendable}
use Rattle.iss_exchange_laws.specs.Exchanges.{Answered, Exchange, at_place, may_come, with_answer, with_crash, with_input, with_input_of, with_release}
use Rattle.iss_exchange_laws.specs.declared.moves.Sent.{Sent}
use Rattle.iss_exchange_laws.specs.Messages.{input_given, message_sent, sent_by}
use Rattle.iss_exchange_laws.proofs.Records.{all_fewer, take_fewer, take_longer, take_next}
use Rattle.iss_exchange.specs.declared.sides.Answer.{Answer}
use Rattle.iss_exchange.specs.declared.sides.Sides.{Sides}
use Rattle.iss_exchange.specs.Standing.{AreStanding, AreStamped, Becomes, IsOrderly, answered, delivered_in, exchange_in, heard_in, with_record}

-- nothing changes ----

pub stays : (s : Sides) (x : Exchange) → AreStanding s → exchange_in s ≡ x → Becomes s x s
stays s x h e = record { is = e; standing = h; instance = refl; most = refl; limit = refl }

pub stays_not : (s : Sides) (x : Exchange) (b : Bool) → b ≡ false → AreStanding s → Becomes s (cond b x (exchange_in s)) s
stays_not s x true e h = cc
stays_not s x false e h = stays s (exchange_in s) h refl

pub stays_yes : (s : Sides) (x : Exchange) (b : Bool) → b ≡ true → AreStanding s → Becomes s (cond b (exchange_in s) x) s
stays_yes s x true e h = stays s (exchange_in s) h refl
stays_yes s x false e h = cc

pub goes_on : (s later : Sides) (x y : Exchange) (b : Bool) → b ≡ false → Becomes s y later → Becomes s (cond b x y) later
goes_on s later x y true e h = cc
goes_on s later x y false e h = h

-- what comes to one comes to what is equal to it
pub becomes_same : (s later : Sides) (x y : Exchange) → x ≡ y → Becomes s x later → Becomes s y later
becomes_same s later x y e h = subst (λ (z : Exchange). Becomes s z later) e h

pub becomes_same_if : {E : Type 0} (s : Sides) (result : Result Sides E) (x y : Exchange) → x ≡ y → IfOk result (Becomes s x) → IfOk result (Becomes s y)
becomes_same_if s (Ok later) x y e h = becomes_same s later x y e h
becomes_same_if s (Err why) x y e h = tt

pub goes_on_if : {E : Type 0} (s : Sides) (result : Result Sides E) (x y : Exchange) (b : Bool) → b ≡ false → IfOk result (Becomes s y) → IfOk result (Becomes s (cond b x y))
goes_on_if s (Ok later) x y b e h = goes_on s later x y b e h
goes_on_if s (Err why) x y b e h = tt

-- an input ----

-- an input that may come makes the record that judging returns, if it returns one
pub input_judged : (x : Exchange) (i : Input) (at : ℕ) (j : Judged) → may_come x.records i at ≡ true → j ≡ judge history_keeper (history_of x.records) i at
    → record x { records = x.records ++ option_to_list (record_made j) } ≡ with_input x i at
input_judged x i at j may e =
    ap (λ (j : Judged). record x { records = x.records ++ option_to_list (record_made j) }) e
    ∙ ap (λ (b : Bool). cond b (record x { records = x.records ++ option_to_list (record_made (judge history_keeper (history_of x.records) i at)) }) x) (sym may)

pub input_new : (x : Exchange) (i : Input) (at : ℕ) (r : Record) → may_come x.records i at ≡ true → judged.New r ≡ judge history_keeper (history_of x.records) i at
    → with_record x r ≡ with_input x i at
input_new x i at r may e = input_judged x i at (judged.New r) may e

pub input_clock : (x : Exchange) (i : Input) (at : ℕ) (r : Record) → may_come x.records i at ≡ true → judged.Clock r ≡ judge history_keeper (history_of x.records) i at
    → with_record x r ≡ with_input x i at
input_clock x i at r may e = input_judged x i at (judged.Clock r) may e

pub input_told : (s : Sides) (i : Input) (at : ℕ) (j : Judged) → may_come s.records.items i at ≡ true → j ≡ judge history_keeper (history_of s.records.items) i at → record_made j ≡ None
    → AreStanding s → Becomes s (with_input (exchange_in s) i at) s
input_told s i at j may e none h =
    stays s (with_input (exchange_in s) i at) h
    (ap (λ (rs : List Record). record (exchange_in s) { records = rs }) (sym (append-nil s.records.items))
    ∙ ap (λ (o : Option Record). record (exchange_in s) { records = s.records.items ++ option_to_list o }) (sym none) ∙ input_judged (exchange_in s) i at j may e)

pub new_so : (rs : List Record) (i : Input) (at : ℕ) (r : Record) → judged.New r ≡ judge history_keeper (history_of rs) i at → Follows (history_of rs) r
new_so rs i at r e = new_follows (history_of rs) i at r (sym e)

pub clock_so : (rs : List Record) (i : Input) (at : ℕ) (r : Record) → judged.Clock r ≡ judge history_keeper (history_of rs) i at → Follows (history_of rs) r
clock_so rs i at r e = clock_follows (history_of rs) i at r (sym e)

-- a record is kept
pub kept : (s : Sides) (core : CoreNow) (records : Vec Record Global) (r : Record) → AreStanding s → IsOrderly (exchange_in s) → is_stamp r.at ≡ true → records.items ≡ s.records.items ++ r ∷ []
    → CoreStandsFor core (s.records.items ++ r ∷ []) → Becomes s (with_record (exchange_in s) r) (record s { core = core; records = records })
kept s core records r h orderly stamp e stands =
    record {
      is = ap (λ (rs : List Record). record (exchange_in s) { records = rs }) e;
      standing = record {
        instance_fits = h.instance_fits;
        core = subst (CoreStandsFor core) (sym e) stands;
        released_core = subst (λ (rs : List Record). CoreStandsFor s.released_core (take s.released rs)) (sym e)
            (subst (CoreStandsFor s.released_core) (sym (take_longer s.released s.records.items (r ∷ []) orderly.few)) h.released_core);
        stamps = subst AreStamped (sym e)
            (list_all-append (λ (r : Record). is_stamp r.at) s.records.items (r ∷ []) ∙ ap₂ (λ (a b : Bool). a && (b && true)) h.stamps stamp);
      };
      instance = refl;
      most = refl;
      limit = refl;
    }

-- a release ----

pub unreleased : (s : Sides) → length s.records.items ≤ s.released → AreStanding s → Becomes s (with_release (exchange_in s) (slice_get s.records.items s.released)) s
unreleased s h standing =
    stays s (with_release (exchange_in s) (slice_get s.records.items s.released)) standing (ap (with_release (exchange_in s)) (sym (slice_get_past s.records.items s.released h)))

pub released : (s : Sides) (core : CoreNow) (sent : Vec Sent Global) (r : Record) (es : List Entry) → slice_get s.records.items s.released ≡ Some r → AreStanding s
    → CoreStandsFor core (take s.released s.records.items ++ r ∷ []) → es ≡ (step history_keeper (history_of (take s.released s.records.items)) r).entries
    → sent.items ≡ s.sent.items ++ filter_map sent_by es
    → Becomes s (with_release (exchange_in s) (slice_get s.records.items s.released)) (record s { released_core = core; released = s.released + 1; sent = sent })
released s core sent r es e h stands made put =
    record {
      is = ap (λ (whats : List Sent). record (exchange_in s) { released = s.released + 1; sent = whats }) (put ∙ ap (λ (es : List Entry). s.sent.items ++ filter_map sent_by es) made)
          ∙ ap (with_release (exchange_in s)) (sym e);
      standing = record {
        instance_fits = h.instance_fits;
        core = h.core;
        released_core = subst (CoreStandsFor core) (sym (take_next s.released s.records.items r e)) stands;
        stamps = h.stamps;
      };
      instance = refl;
      most = refl;
      limit = refl;
    }

-- a crash ----

pub crashed : (s : Sides) (kept : ℕ) (core : CoreNow) (records : Vec Record Global) → s.released ≤ kept → AreStanding s → records.items ≡ take kept s.records.items
    → CoreStandsFor core records.items → Becomes s (with_crash (exchange_in s) kept) (record s { core = core; records = records })
crashed s kept core records less h e stands =
    record {
      is = ap (λ (rs : List Record). record (exchange_in s) { records = rs }) e
          ∙ ap (λ (b : Bool). cond b (record (exchange_in s) { records = take kept s.records.items }) (exchange_in s)) (sym (within s.released kept less));
      standing = record {
        instance_fits = h.instance_fits;
        core = stands;
        released_core = subst (λ (rs : List Record). CoreStandsFor s.released_core (take s.released rs)) (sym e)
            (subst (CoreStandsFor s.released_core) (sym (take_fewer s.released kept s.records.items less)) h.released_core);
        stamps = subst AreStamped (sym e) (all_fewer (λ (r : Record). is_stamp r.at) kept s.records.items h.stamps);
      };
      instance = refl;
      most = refl;
      limit = refl;
    }
  where
    within : (a b : ℕ) → a ≤ b → nat_le a b ≡ true
    within a b h = grind (arith, nat_tests)

-- a place ----

pub not_first : {A : Type 0} (place : ℕ) (xs : List A) → nat_eq place 0 ≡ false → slice_get xs (place - 1) ≡ at_place place xs
not_first place xs e = ap (λ (b : Bool). cond b None (slice_get xs (place - 1))) (sym e)

-- what a look-up in a list returns is what the list has
pub got : {A : Type 0} (xs : List A) (i : ℕ) (r : Option (Bor A)) → is_some r ≡ nat_lt i (length xs) → IfSome r (λ x. x.now ≡ get_or xs i x.now) → option_copied r ≡ slice_get xs i
got xs i None e h = sym (slice_get_past xs i (past i (length xs) e))
  where
    past : (i n : ℕ) → false ≡ nat_lt i n → n ≤ i
    past i n e = grind (arith, nat_tests)
got xs i (Some b) e h = ap Some h ∙ sym (slice_get-get_or xs i b.now (within i (length xs) e))
  where
    within : (i n : ℕ) → true ≡ nat_lt i n → i < n
    within i n e = grind (arith, nat_tests)

-- what was found there
pub found_there : {A : Type 0} (place : ℕ) (xs slice : List A) (o found : Option A) → slice ≡ xs → o ≡ at_place place slice → o ≡ found → at_place place xs ≡ found
found_there {A} place xs slice o found same e is = ap (λ (ys : List A). at_place place ys) (sym same) ∙ sym e ∙ is

-- an answer ----

-- what stands at a place, as definitions have it
pub place_mapped : (place : ℕ) (xs : List Answer) → at_place place (map answered xs) ≡ option_map answered (at_place place xs)
place_mapped place xs = by (nat_eq place 0)
  where
    by : (b : Bool) → cond b None (slice_get (map answered xs) (place - 1)) ≡ option_map answered (cond b None (slice_get xs (place - 1)))
    by true = refl
    by false = slice_get-map answered xs (place - 1)

pub answer_input : (s : Sides) (at : ℕ) (o : Option Input) (i : Input) → o ≡ Some i → with_input (exchange_in s) i at ≡ with_input_of (exchange_in s) o at
answer_input s at o i gives = ap (λ (o : Option Input). with_input_of (exchange_in s) o at) (sym gives)

pub no_input : (s : Sides) (at : ℕ) (o : Option Input) → o ≡ None → AreStanding s → Becomes s (with_input_of (exchange_in s) o at) s
no_input s at o gives h = stays s (with_input_of (exchange_in s) o at) h (ap (λ (o : Option Input). with_input_of (exchange_in s) o at) (sym gives))

-- what was given at a place, as definitions have it
given_there : (s : Sides) (place at : ℕ) (o : Option Answer) → at_place place s.given.items ≡ o
    → with_answer (exchange_in s) (option_map answered o) at ≡ with_answer (exchange_in s) (at_place place (map answered s.given.items)) at
given_there s place at o there =
    ap (λ (o : Option Answer). with_answer (exchange_in s) (option_map answered o) at) (sym there)
    ∙ ap (λ (o : Option Answered). with_answer (exchange_in s) o at) (sym (place_mapped place s.given.items))

pub answer_taken : (s : Sides) (place at : ℕ) (a : Answer) → at_place place s.given.items ≡ Some a
    → with_input_of (exchange_in s) (input_given a.what a.given) at ≡ with_answer (exchange_in s) (at_place place (map answered s.given.items)) at
answer_taken s place at a there = given_there s place at (Some a) there

pub no_answer : (s : Sides) (place at : ℕ) → at_place place s.given.items ≡ None → AreStanding s → Becomes s (with_answer (exchange_in s) (at_place place (map answered s.given.items)) at) s
no_answer s place at there h = stays s (with_answer (exchange_in s) (at_place place (map answered s.given.items)) at) h (given_there s place at None there)

-- what was sent ----

sendable_get : (xs : List Sent) (n : ℕ) (what : Sent) → slice_get xs n ≡ Some what → AllAreSendable xs → IsSendable what
sendable_get [] n what e h = cc
sendable_get (x ∷ xs) zero what e h = let same : x ≡ what = cc in subst IsSendable same h.0
sendable_get (x ∷ xs) (suc n) what e h = sendable_get xs n what e h.1

pub sendable_at : (place : ℕ) (xs : List Sent) (what : Sent) → at_place place xs ≡ Some what → AllAreSendable xs → IsSendable what
sendable_at place xs what e h = by (nat_eq place 0) e
  where
    by : (b : Bool) → cond b None (slice_get xs (place - 1)) ≡ Some what → IsSendable what
    by true e = cc
    by false e = sendable_get xs (place - 1) what e h

pub comes_there : (s : Sides) (place : ℕ) (what : Sent) → at_place place s.sent.items ≡ Some what
    → heard_in s what (message_sent (call_uuid s.instance) what) ≡ delivered_in s (at_place place s.sent.items)
comes_there s place what e = ap (delivered_in s) (sym e)

pub nothing_comes : (s : Sides) (place : ℕ) → at_place place s.sent.items ≡ None → AreStanding s → Becomes s (delivered_in s (at_place place s.sent.items)) s
nothing_comes s place e h = stays s (delivered_in s (at_place place s.sent.items)) h (ap (delivered_in s) (sym e))
