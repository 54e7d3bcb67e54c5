-- The sums of transactions have room: none is more than what the events were approved for and have moved.
use Rattle.std.proofs.Common.{◌≡◌, ◌∷◌, ◌&&◌, ◌+◌, ◌*◌, ◌≤◌, ◌^◌, ℕ, arith, Bool, cond, false, List, [], true}
use Rattle.std.specs.Str.{bytes_eq}
use Rattle.std.proofs.lemmas.Bool.{lt-ltb}
use Rattle.iss_model.specs.declared.input.Input.{Input}
use Rattle.iss_model.specs.declared.input.Input.TheVariants as input
use Rattle.iss_model.specs.declared.limits.TheConstants.{GREATEST_AMOUNT, MOST_RECORDS}
use Rattle.iss_model.specs.declared.state.Carried.{Carried}
use Rattle.iss_model.specs.declared.state.Seen.{Seen}
use Rattle.iss_model.specs.declared.state.TxnSums.{TxnSums}
use Rattle.iss_state.proofs.docket.Lists.{Each, both_so}
use Rattle.iss_well_formed.specs.Txns.{AreWhatWasDone, cleared_amount, refunded_amount}
use Rattle.iss_decided.specs.Approved.{AreWithinApproved, approved_amount, approved_total, is_ask_of}
use Rattle.iss_least.proofs.EventWeights.{approved_by, done_by, done_most, moved_amount, total_by}
use Rattle.iss_image_lists.specs.Forms.{are_sums, has_room}

-- room ----

-- what fits the greatest amount for each of the most records has room in eight bytes
pub room_of_amount : (n : ℕ) → n ≤ MOST_RECORDS * GREATEST_AMOUNT → has_room 8 n ≡ true
room_of_amount n h = lt-ltb n (256 ^ 8) (omega (arith, h))

-- four for each of the most records have room in four bytes
pub room_of_count : (n : ℕ) → n ≤ 4 * MOST_RECORDS → has_room 4 n ≡ true
room_of_count n h = lt-ltb n (256 ^ 4) (omega (arith, h))

-- one transaction ----

-- No sum of a transaction is more than this.
pub record HasSumsWithin (most : ℕ) (t : Carried) : Type 0 where
  pub g : t.sums.g ≤ most
  pub p : t.sums.p ≤ most
  pub s : t.sums.s ≤ most
  pub cleared : t.sums.cleared ≤ most
  pub refunded : t.sums.refunded ≤ most
  pub paid : t.sums.paid ≤ most

one_approved : (token : List ℕ) (es : List Seen) → approved_total token es ≤ total_by approved_by es
one_approved token [] = omega arith
one_approved token (e ∷ es) =
    by (is_ask_of token e.body.input) (approved_amount e.verdict e.body.input) (approved_total token es) (total_by approved_by es) (one_approved token es)
  where
    by : (b : Bool) (n ms ns : ℕ) → ms ≤ ns → cond b n 0 + ms ≤ n + ns
    by true n ms ns h = omega (arith, h)
    by false n ms ns h = omega (arith, h)

if_most : (b : Bool) (n : ℕ) → cond b n 0 ≤ n
if_most true n = omega arith
if_most false n = omega arith

least : (n : ℕ) → 0 ≤ n
least n = omega arith

cleared_part : (token : List ℕ) (i : Input) → cleared_amount token i ≤ moved_amount i
cleared_part token (input.Clearing event txn currency amount last) = if_most (bytes_eq txn token) amount
cleared_part token i = least (moved_amount i)

refunded_part : (token : List ℕ) (i : Input) → refunded_amount token i ≤ moved_amount i
refunded_part token (input.Refund event txn currency amount) = if_most (bytes_eq txn token) amount
refunded_part token i = least (moved_amount i)

-- what is no more than part of a bound is no more than the bound
part_of_held : (n held own all done most : ℕ) → n ≤ held → held ≤ own → own ≤ all → all + done ≤ most → n ≤ most
part_of_held n held own all done most a b d e = omega (arith, a, b, d, e)

part_of_done : (n own done all most : ℕ) → n ≡ own → own ≤ done → all + done ≤ most → n ≤ most
part_of_done n own done all most a b d = omega (arith, a, b, d)

part_of_paid : (n own cleared done_own all done most : ℕ) → n ≤ own + cleared → cleared ≡ done_own → own ≤ all → done_own ≤ done → all + done ≤ most → n ≤ most
part_of_paid n own cleared done_own all done most a b d e f = omega (arith, a, b, d, e, f)

first_part : (a b d : ℕ) → a ≤ a + b + d
first_part a b d = omega arith

second_part : (a b d : ℕ) → b ≤ a + b + d
second_part a b d = omega arith

third_part : (a b d : ℕ) → d ≤ a + b + d
third_part a b d = omega arith

-- each transaction ----

pub sums_within : (most : ℕ) (es : List Seen) (ts : List Carried) → total_by approved_by es + total_by done_by es ≤ most → AreWithinApproved es ts → AreWhatWasDone es ts
    → Each (HasSumsWithin most) ts
sums_within most es [] fits h k = tt
sums_within most es (t ∷ ts) fits h k =
    let approved : ℕ = total_by approved_by es in
    let done : ℕ = total_by done_by es in
    let own : ℕ = approved_total t.txn es in
    let held : ℕ = t.sums.g + t.sums.p + t.sums.s in
    let one : own ≤ approved = one_approved t.txn es in
    let cleared = done_most (cleared_amount t.txn) (cleared_part t.txn) es in
    let refunded = done_most (refunded_amount t.txn) (refunded_part t.txn) es in (
      record {
        g = part_of_held t.sums.g held own approved done most (first_part t.sums.g t.sums.p t.sums.s) h.0.held one fits;
        p = part_of_held t.sums.p held own approved done most (second_part t.sums.g t.sums.p t.sums.s) h.0.held one fits;
        s = part_of_held t.sums.s held own approved done most (third_part t.sums.g t.sums.p t.sums.s) h.0.held one fits;
        cleared = part_of_done t.sums.cleared _ done approved most k.0.cleared cleared fits;
        refunded = part_of_done t.sums.refunded _ done approved most k.0.refunded refunded fits;
        paid = part_of_paid t.sums.paid own t.sums.cleared _ approved done most h.0.paid k.0.cleared one cleared fits;
      },
      sums_within most es ts fits h.1 k.1,
    )

-- sums within what fits have room
pub sums_have_room : (most : ℕ) (t : Carried) → most ≤ MOST_RECORDS * GREATEST_AMOUNT → HasSumsWithin most t → are_sums t.sums ≡ true
sums_have_room most t small h =
    let x : TxnSums = t.sums in
    both_so (has_room 8 x.g && has_room 8 x.p && has_room 8 x.s && has_room 8 x.cleared && has_room 8 x.refunded) (has_room 8 x.paid)
    (both_so (has_room 8 x.g && has_room 8 x.p && has_room 8 x.s && has_room 8 x.cleared) (has_room 8 x.refunded)
    (both_so (has_room 8 x.g && has_room 8 x.p && has_room 8 x.s) (has_room 8 x.cleared)
    (both_so (has_room 8 x.g && has_room 8 x.p) (has_room 8 x.s) (both_so (has_room 8 x.g) (has_room 8 x.p) (room x.g h.g) (room x.p h.p)) (room x.s h.s)) (room x.cleared h.cleared))
    (room x.refunded h.refunded))
    (room x.paid h.paid)
  where
    through : (n : ℕ) → n ≤ most → n ≤ MOST_RECORDS * GREATEST_AMOUNT
    through n le = omega (arith, le, small)

    room : (n : ℕ) → n ≤ most → has_room 8 n ≡ true
    room n le = room_of_amount n (through n le)
