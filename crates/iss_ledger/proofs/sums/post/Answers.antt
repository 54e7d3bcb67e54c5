use Rattle.std.proofs.Common.{◌≡◌, ℕ, ◌<◌, ◌^◌, ℤ, pos, neg_ℤ, ◌-ℤ◌, w64, to_z, of_z, ap, ◌∙◌, sym, arith}
use Rattle.std.proofs.lemmas.Int.{ints, to_z-of_z}
use Rattle.iss_ledger.specs.Trees.{kept_in}
use Rattle.iss_ledger.specs.Posts.{moved_amount}
use Rattle.iss_ledger.proofs.TreeSums.{same_sums, still_stands}
use Rattle.iss_ledger.proofs.PostSums.{moved_fits, credit_small, debit_small, posted_so, undone, back_small}
use Rattle.iss_ledger.proofs.sums.post.Goals as goal

-- an amount and its negative as numbers of 64 bits
as_bits : (amount : ℤ) (n : ℕ) → amount ≡ pos n → n < 2 ^ 63 → to_z w64 (of_z w64 amount) ≡ pos n
as_bits amount n e h = grind (arith, to_z-of_z)

less_as_bits : (amount : ℤ) (n : ℕ) → amount ≡ pos n → n < 2 ^ 63 → to_z w64 (of_z w64 (pos 0 -ℤ to_z w64 (of_z w64 amount))) ≡ neg_ℤ (pos n)
less_as_bits amount n e h =
    ap (λ (z : ℤ). to_z w64 (of_z w64 (pos 0 -ℤ z))) (as_bits amount n e h) ∙ grind (arith, ints, to_z-of_z)

pub moved-amount-requires : goal.moved-amount-requires
moved-amount-requires c = moved_fits (kept_in c.args.sums.now) c.args.from.now c.args.to.now c.args.amount c.requires.before c.requires.small

pub change-requires-clause-small : goal.change-requires-clause-small
change-requires-clause-small c =
    let fits = moved_fits (kept_in c.args.sums.now) c.args.from.now c.args.to.now c.args.amount c.requires.before c.requires.small in
    credit_small (kept_in c.args.sums.now) c.args.from.now c.args.to.now c.args.amount c.new.result (to_z w64 (of_z w64 c.moved-amount.result)) c.new.ensures
    (as_bits c.moved-amount.result (moved_amount c.args.from.now c.args.to.now c.args.amount) c.moved-amount.ensures fits)
    c.requires.before c.requires.small

pub change-requires-2-clause-small : goal.change-requires-2-clause-small
change-requires-2-clause-small c =
    let fits = moved_fits (kept_in c.args.sums.now) c.args.from.now c.args.to.now c.args.amount c.requires.before c.requires.small in
    let amount = moved_amount c.args.from.now c.args.to.now c.args.amount in
    debit_small (kept_in c.args.sums.now) (kept_in c.change.new.sums) c.args.from.now c.args.to.now c.args.amount c.new-2.result c.new.result
    (to_z w64 (of_z w64 (pos 0 -ℤ to_z w64 (of_z w64 c.moved-amount.result)))) (to_z w64 (of_z w64 c.moved-amount.result))
    c.new.ensures c.new-2.ensures
    (as_bits c.moved-amount.result amount c.moved-amount.ensures fits) (less_as_bits c.moved-amount.result amount c.moved-amount.ensures fits)
    c.in_ok-stood.ensures.changed c.requires.small

pub take_back-requires-clause-stands : goal.take_back-requires-clause-stands
take_back-requires-clause-stands c =
    still_stands c.change.new.sums c.change-2.new.sums c.new.result c.new-in-Err.result c.in-Err.ensures.unchanged (c.new-in-Err.ensures ∙ sym c.new.ensures) c.in_ok-stood.ensures.stands

pub take_back-requires-clause-small : goal.take_back-requires-clause-small
take_back-requires-clause-small c =
    back_small (kept_in c.args.sums.now) (kept_in c.change.new.sums) (kept_in c.change-2.new.sums) c.new.result c.new-in-Err.result (to_z w64 (of_z w64 c.moved-amount.result))
    c.in_ok-stood.ensures.changed (same_sums c.change.new.sums c.change-2.new.sums c.in-Err.ensures.unchanged) (c.new-in-Err.ensures ∙ sym c.new.ensures) c.requires.before

pub returns-in-Err-clause-unchanged : goal.returns-in-Err-clause-unchanged
returns-in-Err-clause-unchanged c =
    undone (kept_in c.args.sums.now) (kept_in c.change.new.sums) (kept_in c.change-2.new.sums) c.new.result c.new-in-Err.result (to_z w64 (of_z w64 c.moved-amount.result))
    c.in_ok-stood.ensures.changed (same_sums c.change.new.sums c.change-2.new.sums c.in-Err.ensures.unchanged) (c.new-in-Err.ensures ∙ sym c.new.ensures)
    (kept_in c.take_back.new.sums) c.in_ok-stood.stood c.in_ok-stood.ensures.stood c.take_back.ensures.sums

pub returns-in-Ok-clause-posted : goal.returns-in-Ok-clause-posted
returns-in-Ok-clause-posted c =
    let fits = moved_fits (kept_in c.args.sums.now) c.args.from.now c.args.to.now c.args.amount c.requires.before c.requires.small in
    let amount = moved_amount c.args.from.now c.args.to.now c.args.amount in
    posted_so (kept_in c.args.sums.now) (kept_in c.change.new.sums) c.args.from.now c.args.to.now c.args.amount c.new-2.result c.new.result
    (to_z w64 (of_z w64 (pos 0 -ℤ to_z w64 (of_z w64 c.moved-amount.result)))) (to_z w64 (of_z w64 c.moved-amount.result))
    c.new.ensures c.new-2.ensures
    (as_bits c.moved-amount.result amount c.moved-amount.ensures fits) (less_as_bits c.moved-amount.result amount c.moved-amount.ensures fits)
    c.in_ok-stood.ensures.changed (kept_in c.change-2.new.sums) c.in-Ok.ensures.changed
