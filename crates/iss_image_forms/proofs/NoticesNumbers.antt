-- The numbers of notices and calls have room, and a call that a notice names has a number from 1 on.
use Rattle.std.proofs.Common.{◌≡◌, ◌∷◌, ◌&&◌, ◌+◌, ◌*◌, ◌≤◌, ◌<◌, ◌==◌, ℕ, arith, Bool, cond, false, length, List, [], nat_eq, nat_le, nat_lt, not, refl, suc, true}
use Rattle.std.specs.Prelude.{Option, Some, None}
use Rattle.std.specs.Str.{bytes_eq}
use Rattle.std.proofs.lemmas.Bool.{and_parts}
use Rattle.std.proofs.lemmas.Bool.Decides.{nat_tests}
use Rattle.iss_model.specs.declared.call.CallId.{CallId}
use Rattle.iss_model.specs.declared.call.Method.{Method}
use Rattle.iss_model.specs.declared.call.Method.TheVariants as method
use Rattle.iss_model.specs.declared.call.Notice.{Notice}
use Rattle.iss_model.specs.declared.limits.TheConstants.{MOST_RECORDS}
use Rattle.iss_model.specs.declared.state.State.{State}
use Rattle.iss_model.specs.rules.Activity.{CallNow, call_numbered}
use Rattle.iss_model.specs.rules.Reasons.{is_some_with}
use Rattle.iss_state.specs.Numbers.{CallsNumberedFrom}
use Rattle.iss_state.proofs.docket.Lists.{both_so}
use Rattle.iss_state.proofs.effects.Finds.{number_is}
use Rattle.iss_states.specs.Order.{AreInOrder}
use Rattle.iss_states.specs.Rebuilding.{rebuilt}
use Rattle.iss_well_formed.specs.Notices.{do_notices_rise}
use Rattle.iss_well_formed.specs.Notices as told
use Rattle.iss_well_formed.specs.WellFormed.{HasFewNotices}
use Rattle.iss_well_formed.proofs.GrownAgain.{grown_again}
use Rattle.iss_noticed.specs.Addressed.{is_call_of}
use Rattle.iss_image_lists.specs.Forms.{has_room, is_call, is_notice_method}
use Rattle.iss_image_forms.proofs.TxnsCount.{next_to, up_to}
use Rattle.iss_image_forms.proofs.TxnsSums.{room_of_count}

-- notices ----

notices_above : (last made : ℕ) (ns : List Notice) → do_notices_rise last made ns ≡ true → last ≤ made → length ns + last ≤ made
notices_above last made [] rise le = omega (arith, le)
notices_above last made (n ∷ ns) rise le =
    let parts = and_parts (nat_lt last n.number && nat_le n.number made) (do_notices_rise n.number made ns) rise in
    let numbers = and_parts (nat_lt last n.number) (nat_le n.number made) parts.0 in
    one_more (length ns) last n.number made (next_to last n.number numbers.0) (notices_above n.number made ns parts.1 (up_to n.number made numbers.1))
  where
    one_more : (k last number made : ℕ) → last + 1 ≤ number → k + number ≤ made → suc k + last ≤ made
    one_more k last number made h e = omega (arith, h, e)

-- numbers of notices rise, so there are no more than were made
pub notices_few : (made : ℕ) (ns : List Notice) → do_notices_rise 0 made ns ≡ true → length ns ≤ made
notices_few made ns rise = so (length ns) made (notices_above 0 made ns rise (none made))
  where
    none : (n : ℕ) → 0 ≤ n
    none n = omega arith

    so : (n m : ℕ) → n + 0 ≤ m → n ≤ m
    so n m h = omega (arith, h)

-- the notices that were made are at most four for each record
pub made_few : (s : State) → AreInOrder s → HasFewNotices s → s.made ≤ 4 * MOST_RECORDS
made_few s order few = so s.made _ _ s.records few.notices (up_to s.records MOST_RECORDS order.few)
  where
    so : (made asked live records : ℕ) → made + asked + live ≤ 4 * records → records ≤ MOST_RECORDS → made ≤ 4 * MOST_RECORDS
    so made asked live records h k = omega (arith, h, k)

-- Their number has room in four bytes.
pub made_in_form : (s : State) → AreInOrder s → HasFewNotices s → has_room 4 s.made ≡ true
made_in_form s order few = room_of_count s.made (made_few s order few)

-- methods ----

-- what a notice may be about is so by both definitions
pub method_in_form : (m : Method) → told.is_notice_method m ≡ true → is_notice_method m ≡ true
method_in_form method.Authorization h = cc
method_in_form method.Incremental h = cc
method_in_form method.Void h = refl
method_in_form method.StandIn h = refl
method_in_form method.Reversal h = refl
method_in_form method.Capture h = refl
method_in_form method.Refund h = refl
method_in_form method.Expiry h = refl

-- calls ----

-- A number is one of those from this one on, of which there are so many.
record IsFrom (first many number : ℕ) : Type 0 where
  low : first ≤ number
  high : number < first + many

found_from : (first number : ℕ) (calls : List CallNow) (x : CallNow) → CallsNumberedFrom first calls → call_numbered number calls ≡ Some x → IsFrom first (length calls) number
found_from first number [] x h e = cc
found_from first number (y ∷ calls) x h e = by (nat_eq y.opened.call.0 number) refl e (λ f. found_from (first + 1) number calls x h.1 f)
  where
    here : (n first number many : ℕ) → n ≡ first → n ≡ number → IsFrom first (suc many) number
    here n first number many e f = record { low = omega (arith, e, f); high = omega (arith, e, f) }

    later : (first number many : ℕ) → IsFrom (first + 1) many number → IsFrom first (suc many) number
    later first number many k = record { low = omega (arith, k.low); high = omega (arith, k.high) }

    by : (b : Bool) → nat_eq y.opened.call.0 number ≡ b → cond b (Some y) (call_numbered number calls) ≡ Some x
        → (call_numbered number calls ≡ Some x → IsFrom (first + 1) (length calls) number) → IsFrom first (suc (length calls)) number
    by true same e rest = here y.opened.call.0 first number (length calls) h.0 (number_is y.opened.call.0 number same)
    by false same e rest = later first number (length calls) (rest e)

not_zero : (n : ℕ) → 1 ≤ n → not (n == 0) ≡ true
not_zero n h = grind (arith, nat_tests)

call_among : (calls : List CallNow) (txn : List ℕ) (call : Option CallId) → CallsNumberedFrom 1 calls → length calls ≤ MOST_RECORDS → is_call_of calls txn call ≡ true → is_call call ≡ true
call_among calls txn None numbers few h = refl
call_among calls txn (Some call) numbers few h = by (call_numbered call.0 calls) refl h
  where
    small : (n many : ℕ) → n < 1 + many → many ≤ MOST_RECORDS → n ≤ 4 * MOST_RECORDS
    small n many h k = omega (arith, h, k)

    by : (o : Option CallNow) → call_numbered call.0 calls ≡ o → is_some_with (λ c. bytes_eq c.opened.txn txn) o ≡ true → is_call (Some call) ≡ true
    by None e g = cc
    by (Some x) e g =
        let its = found_from 1 call.0 calls x numbers e in
        both_so (not (call.0 == 0)) (has_room 4 call.0) (not_zero call.0 its.low) (room_of_count call.0 (small call.0 (length calls) its.high few))

-- a call of the core that is made again has a number that isn't 0, and has room
pub call_in_form : (s : State) → AreInOrder s → HasFewNotices s → (txn : List ℕ) (call : Option CallId) → is_call_of (rebuilt s).calls txn call ≡ true → is_call call ≡ true
call_in_form s order few txn call h =
    call_among (rebuilt s).calls txn call (grown_again s order.tokens order.records).calls.numbers
    (through (length (rebuilt s).calls) s.records few.calls (up_to s.records MOST_RECORDS order.few)) h
  where
    through : (n m : ℕ) → n ≤ m → m ≤ MOST_RECORDS → n ≤ MOST_RECORDS
    through n m h k = omega (arith, h, k)
