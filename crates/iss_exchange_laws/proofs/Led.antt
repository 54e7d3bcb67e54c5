-- Each move with an honest gateway keeps what holds of an exchange.
use Rattle.std.proofs.Common.{◌≡◌, ℕ, zero, suc, ◌+◌, ◌-◌, ◌≤◌, ◌<◌, Bool, true, false, cond, ◌&&◌, nat_eq, nat_le, nat_lt, List, [], ◌∷◌, ◌++◌, length, refl, sym, subst, arith, length-append}
use Rattle.std.specs.Prelude.{Option, Some, None, option_to_list, take, slice_get}
use Rattle.std.proofs.lemmas.List.{append-nil}
use Rattle.std.proofs.lemmas.Bool.{and_parts}
use Rattle.std.proofs.lemmas.Bool.Decides.{nat_tests}
use Rattle.iss_model.specs.declared.limits.TheConstants.{MOST_RECORDS}
use Rattle.iss_model.specs.declared.decision.Judged.{Judged}
use Rattle.iss_model.specs.declared.decision.Judged.TheVariants as judged
use Rattle.iss_model.specs.declared.entry.Row.{Row}
use Rattle.iss_model.specs.declared.input.Input.{Input}
use Rattle.iss_model.specs.declared.input.Input.TheVariants as input
use Rattle.iss_model.specs.declared.input.Outcome.TheVariants as outcome
use Rattle.iss_model.specs.declared.input.Record.{Record}
use Rattle.iss_model.specs.Forms.{is_in_form, is_stamp}
use Rattle.iss_model.specs.rules.Histories.{Follows, history_keeper, history_of}
use Rattle.iss_model.specs.rules.Judging.{judge}
use Rattle.iss_model.specs.run.Rooms.{record_made}
use Rattle.iss_agreement.proofs.JudgedAgain.{clock_input, new_input}
use Rattle.iss_agreement.proofs.RunLaws.{clock_follows, new_follows}
use Rattle.iss_state.proofs.docket.Lists.{Each, each_weaker}
use Rattle.iss_gateway.specs.declared.message.Given.{Given}
use Rattle.iss_gateway.specs.declared.message.Message.{Message}
use Rattle.iss_gateway.specs.Books.{Books}
use Rattle.iss_gateway_laws.proofs.Lists.{each_append}
use Rattle.iss_exchange_laws.specs.declared.moves.Move.{Move}
use Rattle.iss_exchange_laws.specs.declared.moves.Move.TheVariants as moves
use Rattle.iss_exchange_laws.specs.declared.moves.Sent.{Sent}
use Rattle.iss_exchange_laws.specs.Exchanges.{Answered, Exchange, at_place, is_gateways, may_come, new_exchange, records_after, sent_after, with_answer, with_heard, with_input, with_input_of, with_release}
use Rattle.iss_exchange_laws.specs.Honest.{Delivers, HearsIf, Hears, LeadBy, Leads}
use Rattle.iss_exchange_laws.specs.Messages.{input_given, message_sent}
use Rattle.iss_exchange_laws.proofs.Hearing.{Grow, IsHeard, backed_on, backed_still, fair_still, given_backed, kept_still, made_still, right_still, sent_heard}
use Rattle.iss_exchange_laws.proofs.Records.{all_fewer, each_fewer, form_more, legal_fewer, legal_more, length_fewer, more_released, next_grows, sent_after_made, take_fewer, take_longer, take_next, take_shorter}
use Rattle.iss_exchange_laws.proofs.Sound.{AreFair, IsBacked, IsMade, IsRight, IsSound, rows_of}

module _ (token : ℕ → List ℕ) where
  abbrev released_rows : Exchange → List Row
  released_rows x = rows_of (take x.released x.records)

  -- without a move ----

  pub nothing_sound : IsSound token new_exchange
  nothing_sound =
      record {
        legal = tt;
        form = refl;
        room = omega arith;
        few = omega arith;
        sent = tt;
        fair = record { promises = tt; notes = tt; tokens = tt; numbers = tt };
        given = tt;
        backed = tt;
      }

  -- an input ----

  record_sound : (x : Exchange) (r : Record) → length x.records < MOST_RECORDS → IsSound token x → Follows (history_of x.records) r → is_in_form r.input ≡ true → IsBacked token (released_rows x) x.books r.input
      → IsSound token (record x { records = x.records ++ r ∷ [] })
  record_sound x r less h follows form backed =
      let same : take x.released (x.records ++ r ∷ []) ≡ take x.released x.records = take_longer x.released x.records (r ∷ []) h.few in
      record {
        legal = legal_more x.records r h.legal follows;
        form = form_more x.records r h.form form;
        room = within (length x.records) (length (x.records ++ r ∷ [])) MOST_RECORDS (length-append x.records (r ∷ [])) less;
        few = more x.released (length x.records) (length (x.records ++ r ∷ [])) (length-append x.records (r ∷ [])) h.few;
        sent = subst (λ (rs : List Record). Each (IsMade (rows_of rs)) x.sent) (sym same) h.sent;
        fair = subst (λ (rs : List Record). AreFair token (rows_of rs) x.books) (sym same) h.fair;
        given = subst (λ (rs : List Record). Each (IsRight token (rows_of rs) x.books) x.given) (sym same) h.given;
        backed = subst (λ (rs : List Record). Each (λ (r : Record). IsBacked token (rows_of rs) x.books r.input) (x.records ++ r ∷ [])) (sym same)
            (each_append (λ (r : Record). IsBacked token (released_rows x) x.books r.input) x.records (r ∷ []) h.backed (backed, tt));
      }
    where
      more : (a b c : ℕ) → c ≡ b + 1 → a ≤ b → a ≤ c
      more a b c e h = omega (arith, e, h)

      within : (a b m : ℕ) → b ≡ a + 1 → a < m → b ≤ m
      within a b m e h = omega (arith, e, h)

  judged_sound : (x : Exchange) (i : Input) (at : ℕ) (j : Judged) → judge history_keeper (history_of x.records) i at ≡ j → length x.records < MOST_RECORDS → IsSound token x → is_in_form i ≡ true
      → IsBacked token (released_rows x) x.books i → IsSound token (record x { records = x.records ++ option_to_list (record_made j) })
  judged_sound x i at (judged.New r) e less h form backed =
      let same : i ≡ r.input = new_input history_keeper (history_of x.records) i at r e in
      record_sound x r less h (new_follows (history_of x.records) i at r e) (subst (λ (i : Input). is_in_form i ≡ true) same form) (subst (IsBacked token (released_rows x) x.books) same backed)
  judged_sound x i at (judged.Clock r) e less h form backed =
      let same : input.Time ≡ r.input = clock_input history_keeper (history_of x.records) i at r e in
      record_sound x r less h (clock_follows (history_of x.records) i at r e) (subst (λ (i : Input). is_in_form i ≡ true) same refl) (subst (IsBacked token (released_rows x) x.books) same tt)
  judged_sound x i at (judged.Told a) e less h form backed =
      subst (λ (rs : List Record). IsSound token (record x { records = rs })) (sym (append-nil x.records)) h

  with_input_sound : (x : Exchange) (i : Input) (at : ℕ) → IsSound token x → IsBacked token (released_rows x) x.books i → IsSound token (with_input x i at)
  with_input_sound x i at h backed = by (may_come x.records i at) refl
    where
      less : (a b : ℕ) → nat_lt a b ≡ true → a < b
      less a b e = grind (arith, nat_tests)

      by : (b : Bool) → may_come x.records i at ≡ b → IsSound token (cond b (record x { records = records_after x.records i at }) x)
      by true may =
          let parts = and_parts (is_in_form i && is_stamp at) (nat_lt (length x.records) MOST_RECORDS) may in
          judged_sound x i at (judge history_keeper (history_of x.records) i at) refl (less (length x.records) MOST_RECORDS parts.1) h (and_parts (is_in_form i) (is_stamp at) parts.0).0 backed
      by false may = h

  -- what comes by itself is backed by itself
  own_backed : (rows : List Row) (b : Books) (i : Input) → is_gateways i ≡ false → IsBacked token rows b i
  own_backed rows b (input.Answer call outcome.Funded) h = cc
  own_backed rows b (input.Answer call (outcome.Partial currency amount)) h = cc
  own_backed rows b (input.Answer call outcome.Refused) h = cc
  own_backed rows b (input.Answer call outcome.Connection) h = tt
  own_backed rows b (input.Answer call outcome.Application) h = tt
  own_backed rows b (input.Ack number) h = cc
  own_backed rows b _ h = tt

  input_sound : (x : Exchange) (i : Input) (at : ℕ) (b : Bool) → is_gateways i ≡ b → IsSound token x → IsSound token (cond b x (with_input x i at))
  input_sound x i at true e h = h
  input_sound x i at false e h = with_input_sound x i at h (own_backed (released_rows x) x.books i e)

  -- a release ----

  release_sound : (x : Exchange) (o : Option Record) → slice_get x.records x.released ≡ o → IsSound token x → IsSound token (with_release x o)
  release_sound x None e h = h
  release_sound x (Some r) e h =
      let before : List Record = take x.released x.records in
      let next : take (x.released + 1) x.records ≡ before ++ r ∷ [] = take_next x.released x.records r e in
      let grow : Grow (rows_of before) (rows_of (before ++ r ∷ [])) = next_grows before r in
      let sent : Each (IsMade (rows_of (before ++ r ∷ []))) (x.sent ++ sent_after before r) =
      each_append (IsMade (rows_of (before ++ r ∷ []))) x.sent (sent_after before r)
      (each_weaker (IsMade (rows_of before)) (IsMade (rows_of (before ++ r ∷ []))) (made_still (rows_of before) (rows_of (before ++ r ∷ [])) grow) x.sent h.sent) (sent_after_made before r)
      in
      record {
        legal = h.legal;
        form = h.form;
        room = h.room;
        few = more_released x.released x.records r e;
        sent = subst (λ (rs : List Record). Each (IsMade (rows_of rs)) (x.sent ++ sent_after before r)) (sym next) sent;
        fair = subst (λ (rs : List Record). AreFair token (rows_of rs) x.books) (sym next) (fair_still token (rows_of before) (rows_of (before ++ r ∷ [])) grow x.books h.fair);
        given = subst (λ (rs : List Record). Each (IsRight token (rows_of rs) x.books) x.given) (sym next)
            (each_weaker (IsRight token (rows_of before) x.books) (IsRight token (rows_of (before ++ r ∷ [])) x.books) (right_still token (rows_of before) (rows_of (before ++ r ∷ [])) x.books grow) x.given h.given);
        backed = subst (λ (rs : List Record). Each (λ (r : Record). IsBacked token (rows_of rs) x.books r.input) x.records) (sym next)
            (each_weaker (λ (r : Record). IsBacked token (rows_of before) x.books r.input) (λ (q : Record). IsBacked token (rows_of (before ++ r ∷ [])) x.books q.input)
            (λ q backed. backed_on token (rows_of before) (rows_of (before ++ r ∷ [])) x.books grow q.input backed) x.records h.backed);
      }

  -- a crash ----

  crash_sound : (x : Exchange) (kept : ℕ) → x.released ≤ kept → IsSound token x → IsSound token (record x { records = take kept x.records })
  crash_sound x kept less h =
      let same : take x.released (take kept x.records) ≡ take x.released x.records = take_fewer x.released kept x.records less in
      record {
        legal = legal_fewer kept x.records h.legal;
        form = all_fewer (λ (r : Record). is_in_form r.input) kept x.records h.form;
        room = shorter (length (take kept x.records)) (length x.records) MOST_RECORDS (take_shorter kept x.records) h.room;
        few = length_fewer x.released kept x.records less h.few;
        sent = subst (λ (rs : List Record). Each (IsMade (rows_of rs)) x.sent) (sym same) h.sent;
        fair = subst (λ (rs : List Record). AreFair token (rows_of rs) x.books) (sym same) h.fair;
        given = subst (λ (rs : List Record). Each (IsRight token (rows_of rs) x.books) x.given) (sym same) h.given;
        backed = subst (λ (rs : List Record). Each (λ (r : Record). IsBacked token (rows_of rs) x.books r.input) (take kept x.records)) (sym same)
            (each_fewer (λ (r : Record). IsBacked token (released_rows x) x.books r.input) kept x.records h.backed);
      }
    where
      shorter : (a b m : ℕ) → a ≤ b → b ≤ m → a ≤ m
      shorter a b m h k = omega (arith, h, k)

  crash_if : (x : Exchange) (kept : ℕ) (b : Bool) → nat_le x.released kept ≡ b → IsSound token x → IsSound token (cond b (record x { records = take kept x.records }) x)
  crash_if x kept true e h = crash_sound x kept (less x.released kept e) h
    where
      less : (a b : ℕ) → nat_le a b ≡ true → a ≤ b
      less a b e = grind (arith, nat_tests)
  crash_if x kept false e h = h

  -- a delivery ----

  placed : {A : Type 0} (P : A → Type 0) (xs : List A) (n : ℕ) (a : A) → Each P xs → slice_get xs n ≡ Some a → P a
  placed P [] n a each e = cc
  placed P (y ∷ ys) zero a each e = let same : y ≡ a = cc in subst P same each.0
  placed P (y ∷ ys) (suc n) a each e = placed P ys n a each.1 e

  placed_from : {A : Type 0} (P : A → Type 0) (xs : List A) (i : ℕ) (a : A) → Each P xs → at_place i xs ≡ Some a → P a
  placed_from P xs i a each e = by (nat_eq i 0) e
    where
      by : (b : Bool) → cond b None (slice_get xs (i - 1)) ≡ Some a → P a
      by true e = cc
      by false e = placed P xs (i - 1) a each e

  heard_sound : (x : Exchange) (what : Sent) (m : Message) → message_sent token what ≡ Some m → IsMade (released_rows x) what → (given : Given) (b : Books) → Hears x.books m given b → IsSound token x
      → IsSound token (with_heard x what m given b)
  heard_sound x what m e made given b hears h =
      let heard : IsHeard token (released_rows x) x.books what given b = sent_heard token (released_rows x) x.books what m e made h.fair given b hears in
      record {
        legal = h.legal;
        form = h.form;
        room = h.room;
        few = h.few;
        sent = h.sent;
        fair = heard.fair;
        given = each_append (IsRight token (released_rows x) b) x.given (record { what = what; given = given } ∷ [])
            (each_weaker (IsRight token (released_rows x) x.books) (IsRight token (released_rows x) b) (λ a right. (right.0, kept_still token x.books b heard.keeps a.what a.given right.1)) x.given h.given)
            ((made, heard.kept), tt);
        backed = each_weaker (λ (r : Record). IsBacked token (released_rows x) x.books r.input) (λ (r : Record). IsBacked token (released_rows x) b r.input)
            (λ r backed. backed_still token (released_rows x) x.books b heard.keeps r.input backed) x.records h.backed;
      }

  heard_if_sound : (x : Exchange) (what : Sent) (o : Option Message) → message_sent token what ≡ o → IsMade (released_rows x) what → (later : Exchange) → HearsIf x what o later → IsSound token x → IsSound token later
  heard_if_sound x what None e made later h sound = subst (IsSound token) (sym h) sound
  heard_if_sound x what (Some m) e made later h sound = subst (IsSound token) (sym h.3) (heard_sound x what m e made h.0 h.1 h.2 sound)

  delivered_sound : (x : Exchange) (i : ℕ) (o : Option Sent) → at_place i x.sent ≡ o → (later : Exchange) → Delivers token x o later → IsSound token x → IsSound token later
  delivered_sound x i None e later h sound = subst (IsSound token) (sym h) sound
  delivered_sound x i (Some what) e later h sound = heard_if_sound x what (message_sent token what) refl (placed_from (IsMade (released_rows x)) x.sent i what sound.sent e) later h sound

  -- an answer ----

  input_of_sound : (x : Exchange) (a : Answered) (o : Option Input) (at : ℕ) → input_given a.what a.given ≡ o → IsRight token (released_rows x) x.books a → IsSound token x → IsSound token (with_input_of x o at)
  input_of_sound x a None at e right h = h
  input_of_sound x a (Some i) at e right h = with_input_sound x i at h (given_backed token (released_rows x) x.books a.what a.given i right.0 right.1 e)

  answer_sound : (x : Exchange) (i : ℕ) (o : Option Answered) (at : ℕ) → at_place i x.given ≡ o → IsSound token x → IsSound token (with_answer x o at)
  answer_sound x i None at e h = h
  answer_sound x i (Some a) at e h =
      input_of_sound x a (input_given a.what a.given) at refl (placed_from (IsRight token (released_rows x) x.books) x.given i a h.given e) h

  -- all moves ----

  pub led_sound : (x : Exchange) (m : Move) (later : Exchange) → Leads token x m later → IsSound token x → IsSound token later
  led_sound x (moves.Input i at) later h sound = subst (IsSound token) (sym h) (input_sound x i at (is_gateways i) refl sound)
  led_sound x moves.Release later h sound = subst (IsSound token) (sym h) (release_sound x (slice_get x.records x.released) refl sound)
  led_sound x (moves.Crash kept) later h sound = subst (IsSound token) (sym h) (crash_if x kept (nat_le x.released kept) refl sound)
  led_sound x (moves.ToGateway i) later h sound = delivered_sound x i (at_place i x.sent) refl later h sound
  led_sound x (moves.ToProcessor i at) later h sound = subst (IsSound token) (sym h) (answer_sound x i (at_place i x.given) at refl sound)

  pub all_sound : (ms : List Move) (x last : Exchange) → LeadBy token ms x last → IsSound token x → IsSound token last
  all_sound [] x last h sound = subst (IsSound token) (sym h) sound
  all_sound (m ∷ ms) x last h sound = all_sound ms h.0 last h.2 (led_sound x m h.0 h.1 sound)
