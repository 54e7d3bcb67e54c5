-- A step with a record that is new keeps the events in order.
use Rattle.std.proofs.Common.{◌≡◌, ℕ, ◌+◌, ◌≤◌, max, Bool, true, false, not, cond, ◌&&◌, ◌||◌, nat_le, nat_lt, List, [], ◌∷◌, ◌++◌, map, refl, sym, ap, ap₂, subst, ◌∙◌, arith, append-nil}
use Rattle.std.specs.Prelude.{Option, Some, None, is_some, unwrap_or}
use Rattle.std.specs.List.{list_all, list_any}
use Rattle.std.specs.Str.{bytes_eq}
use Rattle.std.proofs.lemmas.Bool.{and_parts}
use Rattle.std.proofs.lemmas.Bool.Decides.{nat_tests}
use Rattle.iss_model.specs.declared.input.Input.{Input}
use Rattle.iss_model.specs.declared.input.Record.{Record}
use Rattle.iss_model.specs.declared.limits.TheConstants.{MOST_RECORDS}
use Rattle.iss_model.specs.Forms.{is_stamp}
use Rattle.iss_model.specs.Inputs.{event_token, is_event}
use Rattle.iss_model.specs.texts.Spelling.{has_spelling, is_record}
use Rattle.iss_model.specs.rules.Facts.{Accepted}
use Rattle.iss_model.specs.rules.Stepping.{step}
use Rattle.iss_model.specs.state.Cores.{CoreState, core_keeper, with_record}
use Rattle.iss_model.proofs.Names.{name-sym}
use Rattle.iss_model.proofs.Lists.{neither}
use Rattle.iss_state.specs.Sound.{IsNewEvent, is_accepted}
use Rattle.iss_state.proofs.invariants.NewEvents.{judged_new}
use Rattle.iss_model.specs.declared.state.Seen.{Seen}
use Rattle.iss_model.specs.declared.state.State.{State}
use Rattle.iss_states.specs.Showing.{accepted_of_seen, shown, token_of_event}
use Rattle.iss_states.specs.Rebuilding.{rebuilt, state_after}
use Rattle.iss_states.specs.Order.{AreInOrder, IsNewOnState, do_numbers_rise, do_stamps_rise, has_event_token, have_tokens_of_their_own, is_event_record}
use Rattle.iss_states.proofs.Shown.{accepted_again, events_shown}
use Rattle.iss_states.proofs.Decided.{step_takes_up}
use Rattle.iss_states.proofs.SetAgain.{unaccepted_any}

-- the same of events as they were accepted ----

abbrev numbers_rise : ℕ → ℕ → List Accepted → Bool
numbers_rise last records [] = true
numbers_rise last records (a ∷ xs) = nat_lt last a.number && nat_le a.number records && numbers_rise a.number records xs

abbrev stamps_rise : ℕ → ℕ → List Accepted → Bool
stamps_rise last now [] = true
stamps_rise last now (a ∷ xs) = nat_le last a.at && nat_le a.at now && stamps_rise a.at now xs

abbrev own_tokens : List Accepted → Bool
own_tokens [] = true
own_tokens (a ∷ xs) = not (list_any (λ b. is_event (token_of_event a) b.input) xs) && own_tokens xs

abbrev is_of_record : Accepted → Bool
is_of_record a = is_some (event_token a.input) && is_record (record { at = a.at; input = a.input })

numbers_of : (last records : ℕ) (es : List Seen) → do_numbers_rise last records es ≡ numbers_rise last records (map accepted_of_seen es)
numbers_of last records [] = refl
numbers_of last records (e ∷ es) = ap (λ (b : Bool). nat_lt last e.number && nat_le e.number records && b) (numbers_of e.number records es)

stamps_of : (last now : ℕ) (es : List Seen) → do_stamps_rise last now es ≡ stamps_rise last now (map accepted_of_seen es)
stamps_of last now [] = refl
stamps_of last now (e ∷ es) = ap (λ (b : Bool). nat_le last e.body.at && nat_le e.body.at now && b) (stamps_of e.body.at now es)

any_of : (token : List ℕ) (es : List Seen) → list_any (has_event_token token) es ≡ list_any (λ b. is_event token b.input) (map accepted_of_seen es)
any_of token [] = refl
any_of token (e ∷ es) = ap (λ (b : Bool). is_event token e.body.input || b) (any_of token es)

tokens_of : (es : List Seen) → have_tokens_of_their_own es ≡ own_tokens (map accepted_of_seen es)
tokens_of [] = refl
tokens_of (e ∷ es) = ap₂ (λ (a b : Bool). not a && b) (any_of (unwrap_or (event_token e.body.input) []) es) (tokens_of es)

records_of : (es : List Seen) → list_all is_event_record es ≡ list_all is_of_record (map accepted_of_seen es)
records_of [] = refl
records_of (e ∷ es) = ap (λ (b : Bool). is_event_record e && b) (records_of es)

-- one more, or none ----

numbers_more : (last n : ℕ) (xs : List Accepted) (a : Accepted) (b : Bool) → last ≤ n → a.number ≡ n + 1 → numbers_rise last n xs ≡ true → numbers_rise last (n + 1) (xs ++ cond b (a ∷ []) []) ≡ true
numbers_more last n [] a true le e h =
    ap₂ (λ (x y : Bool). x && y && true) (ap (λ (m : ℕ). nat_lt last m) e ∙ above last n le) (ap (λ (m : ℕ). nat_le m (n + 1)) e ∙ itself (n + 1))
  where
    above : (l n : ℕ) → l ≤ n → nat_lt l (n + 1) ≡ true
    above l n h = grind (arith, nat_tests)

    itself : (n : ℕ) → nat_le n n ≡ true
    itself n = grind (arith, nat_tests)
numbers_more last n [] a false le e h = refl
numbers_more last n (x ∷ xs) a b le e h =
    let parts = and_parts (nat_lt last x.number && nat_le x.number n) (numbers_rise x.number n xs) h in
    let first = and_parts (nat_lt last x.number) (nat_le x.number n) parts.0 in
    ap₂ (λ (p q : Bool). p && q) (ap₂ (λ (p q : Bool). p && q) first.0 (later x.number n first.1)) (numbers_more x.number n xs a b (within x.number n first.1) e parts.1)
  where
    later : (m n : ℕ) → nat_le m n ≡ true → nat_le m (n + 1) ≡ true
    later m n h = grind (arith, nat_tests)

    within : (m n : ℕ) → nat_le m n ≡ true → m ≤ n
    within m n h = grind (arith, nat_tests)

stamps_more : (last now later : ℕ) (xs : List Accepted) (a : Accepted) (b : Bool) → last ≤ now → now ≤ later → a.at ≡ later → stamps_rise last now xs ≡ true → stamps_rise last later (xs ++ cond b (a ∷ []) []) ≡ true
stamps_more last now later [] a true le up e h =
    ap₂ (λ (x y : Bool). x && y && true) (ap (λ (m : ℕ). nat_le last m) e ∙ above last now later le up) (ap (λ (m : ℕ). nat_le m later) e ∙ itself later)
  where
    above : (l m n : ℕ) → l ≤ m → m ≤ n → nat_le l n ≡ true
    above l m n h k = grind (arith, nat_tests)

    itself : (n : ℕ) → nat_le n n ≡ true
    itself n = grind (arith, nat_tests)
stamps_more last now later [] a false le up e h = refl
stamps_more last now later (x ∷ xs) a b le up e h =
    let parts = and_parts (nat_le last x.at && nat_le x.at now) (stamps_rise x.at now xs) h in
    let first = and_parts (nat_le last x.at) (nat_le x.at now) parts.0 in
    ap₂ (λ (p q : Bool). p && q) (ap₂ (λ (p q : Bool). p && q) first.0 (after x.at now later first.1 up)) (stamps_more x.at now later xs a b (within x.at now first.1) up e parts.1)
  where
    after : (m n k : ℕ) → nat_le m n ≡ true → n ≤ k → nat_le m k ≡ true
    after m n k h le = grind (arith, nat_tests)

    within : (m n : ℕ) → nat_le m n ≡ true → m ≤ n
    within m n h = grind (arith, nat_tests)

any_more : (p : Accepted → Bool) (xs : List Accepted) (a : Accepted) → list_any p xs ≡ false → p a ≡ false → list_any p (xs ++ a ∷ []) ≡ false
any_more p [] a h k = ap (λ (b : Bool). b || false) k
any_more p (x ∷ xs) a h k = by (p x) (list_any p xs) refl refl h (λ rest. any_more p xs a rest k)
  where
    by : (b c : Bool) → p x ≡ b → list_any p xs ≡ c → (b || c) ≡ false → (list_any p xs ≡ false → list_any p (xs ++ a ∷ []) ≡ false) → (p x || list_any p (xs ++ a ∷ [])) ≡ false
    by true c e f h rest = cc
    by false true e f h rest = cc
    by false false e f h rest = ap₂ (λ (x y : Bool). x || y) e (rest f)

-- what is no event of a token has another one
other_token : (i j : Input) (token : List ℕ) → event_token j ≡ Some token → is_some (event_token i) ≡ true → is_event token i ≡ false → is_event (unwrap_or (event_token i) []) j ≡ false
other_token i j token e some other = by (event_token i) refl some other
  where
    by : (o : Option (List ℕ)) → event_token i ≡ o → is_some o ≡ true → is_event token i ≡ false → is_event (unwrap_or (event_token i) []) j ≡ false
    by None f some other = cc
    by (Some name) f some other =
        ap₂ (λ (o p : Option (List ℕ)). is_text_of (unwrap_or o []) p) f e
        ∙ name-sym token name
        ∙ sym (ap (λ (o : Option (List ℕ)). is_text_of token o) f) ∙ other
      where
        is_text_of : List ℕ → Option (List ℕ) → Bool
        is_text_of text None = false
        is_text_of text (Some other) = bytes_eq other text

not_true : (b : Bool) → not b ≡ true → b ≡ false
not_true true h = cc
not_true false h = refl

tokens_more : (xs : List Accepted) (a : Accepted) (token : List ℕ) → event_token a.input ≡ Some token → list_any (λ b. is_event token b.input) xs ≡ false → list_all is_of_record xs ≡ true → own_tokens xs ≡ true
    → own_tokens (xs ++ a ∷ []) ≡ true
tokens_more [] a token e none all h = refl
tokens_more (x ∷ xs) a token e none all h =
    let recs = and_parts (is_of_record x) (list_all is_of_record xs) all in
    let some = (and_parts (is_some (event_token x.input)) (is_record (record { at = x.at; input = x.input })) recs.0).0 in
    let own = and_parts (not (list_any (λ b. is_event (token_of_event x) b.input) xs)) (own_tokens xs) h in
    let none_now = neither (is_event token x.input) (list_any (λ b. is_event token b.input) xs) none in
    ap₂ (λ (p q : Bool). not p && q)
    (any_more (λ b. is_event (token_of_event x) b.input) xs a (not_true (list_any (λ b. is_event (token_of_event x) b.input) xs) own.0) (other_token x.input a.input token e some none_now.0))
    (tokens_more xs a token e none_now.1 recs.1 own.1)

records_more : (xs : List Accepted) (a : Accepted) (b : Bool) → (b ≡ true → is_of_record a ≡ true) → list_all is_of_record xs ≡ true → list_all is_of_record (xs ++ cond b (a ∷ []) []) ≡ true
records_more [] a true h k = ap (λ (b : Bool). b && true) (h refl)
records_more [] a false h k = refl
records_more (x ∷ xs) a b h k =
    let parts = and_parts (is_of_record x) (list_all is_of_record xs) k in
    ap₂ (λ (p q : Bool). p && q) parts.0 (records_more xs a b h parts.1)

tokens_kept : (xs : List Accepted) (a : Accepted) (o : Option (List ℕ)) → event_token a.input ≡ o → ((token : List ℕ) → event_token a.input ≡ Some token → is_accepted xs token ≡ false)
    → list_all is_of_record xs ≡ true → own_tokens xs ≡ true → own_tokens (xs ++ cond (is_some o) (a ∷ []) []) ≡ true
tokens_kept xs a None e new all h = ap own_tokens (append-nil xs) ∙ h
tokens_kept xs a (Some token) e new all h = tokens_more xs a token e (unaccepted_any xs token (new token e)) all h

-- the sentence, of accepted events
record InOrder (records now : ℕ) (xs : List Accepted) : Type 0 where
  few : nat_le records MOST_RECORDS ≡ true
  time : is_stamp now ≡ true
  numbers : numbers_rise 0 records xs ≡ true
  stamps : stamps_rise 0 now xs ≡ true
  tokens : own_tokens xs ≡ true
  all : list_all is_of_record xs ≡ true

in_order : (s : State) → AreInOrder s → InOrder s.records s.now (map accepted_of_seen s.events)
in_order s h =
    record {
      few = h.few;
      time = h.time;
      numbers = sym (numbers_of 0 s.records s.events) ∙ h.numbers;
      stamps = sym (stamps_of 0 s.now s.events) ∙ h.stamps;
      tokens = sym (tokens_of s.events) ∙ h.tokens;
      all = sym (records_of s.events) ∙ h.records;
    }

order_of : (s : State) → InOrder s.records s.now (map accepted_of_seen s.events) → AreInOrder s
order_of s h =
    record {
      few = h.few;
      time = h.time;
      numbers = numbers_of 0 s.records s.events ∙ h.numbers;
      stamps = stamps_of 0 s.now s.events ∙ h.stamps;
      tokens = tokens_of s.events ∙ h.tokens;
      records = records_of s.events ∙ h.all;
    }

-- a record that is new is taken up in order
taken_in_order : (c : CoreState) (r : Record) → InOrder c.count c.now c.accepted → nat_lt c.count MOST_RECORDS ≡ true → c.now ≤ r.at → is_record r ≡ true → IsNewEvent c r.input
    → InOrder (c.count + 1) (max c.now r.at) (with_record c r).accepted
taken_in_order c r h room up form new =
    let row : Accepted = record { number = c.count + 1; at = r.at; input = r.input } in
    let b : Bool = is_some (event_token r.input) in
    let last : max c.now r.at ≡ r.at = later c.now r.at up in
    record {
      few = next c.count MOST_RECORDS room;
      time = ap is_stamp last ∙ (and_parts (is_stamp r.at) (has_spelling r.input) form).0;
      numbers = numbers_more 0 c.count c.accepted row b (least c.count) refl h.numbers;
      stamps = stamps_more 0 c.now (max c.now r.at) c.accepted row b (least c.now) (before c.now r.at) (sym last) h.stamps;
      tokens = tokens_kept c.accepted row (event_token r.input) refl new h.all h.tokens;
      all = records_more c.accepted row b (λ some. ap₂ (λ (p q : Bool). p && q) some form) h.all;
    }
  where
    later : (m n : ℕ) → m ≤ n → max m n ≡ n
    later m n h = omega (arith, h)

    least : (n : ℕ) → 0 ≤ n
    least n = omega arith

    before : (m n : ℕ) → m ≤ max m n
    before m n = omega arith

    next : (m n : ℕ) → nat_lt m n ≡ true → nat_le (m + 1) n ≡ true
    next m n h = grind (arith, nat_tests)

pub order_after : (s : State) (r : Record) → AreInOrder s → IsNewOnState s r → AreInOrder (state_after s r)
order_after s r h now =
    let c : CoreState = rebuilt s in
    let w : CoreState = (step core_keeper c r).world in
    let takes = step_takes_up c r in
    let first : InOrder s.records s.now c.accepted = subst (InOrder s.records s.now) (sym (accepted_again s)) (in_order s h) in
    let taken : InOrder (s.records + 1) (max s.now r.at) (with_record c r).accepted = taken_in_order c r first now.room now.later now.form (judged_new c r now.new) in
    let numbered : InOrder w.count (max s.now r.at) (with_record c r).accepted = subst (λ (n : ℕ). InOrder n (max s.now r.at) (with_record c r).accepted) (sym takes.count) taken in
    let timed : InOrder w.count w.now (with_record c r).accepted = subst (λ (n : ℕ). InOrder w.count n (with_record c r).accepted) (sym takes.now) numbered in
    let of_world : InOrder w.count w.now w.accepted = subst (InOrder w.count w.now) (sym takes.accepted) timed in
    order_of (shown w) (subst (InOrder w.count w.now) (sym (events_shown w)) of_world)
