use Rattle.std.proofs.Common.{rules, ◌≡◌, ℕ, ◌&&◌, nat_le, true, false, List, length, Some, option_map, sym, ap, ◌∙◌}
use Rattle.std.specs.BTreeSet.{BTreeSet}
use Rattle.iss_model.specs.declared.limits.TheConstants.{MOST_MCCS}
use Rattle.iss_field.proofs.RisingCodes.{counted}
use Rattle.iss_field.proofs.codes.mccs_of_items.Goals as goal

pub returns-then-not-is_count : goal.returns-then-not-is_count
returns-then-not-is_count c =
    let no : (nat_le 1 (length c.args.items.now) && nat_le (length c.args.items.now) MOST_MCCS) ≡ false = search rules in
    sym (counted c.args.items.now false no)

pub returns-in_ok-listed-in-Some : goal.returns-in_ok-listed-in-Some
returns-in_ok-listed-in-Some c =
    let yes : (nat_le 1 (length c.args.items.now) && nat_le (length c.args.items.now) MOST_MCCS) ≡ true = search rules in
    ap (λ (codes : List ℕ). Some codes) (c.from_rising.ensures ∙ c.in_ok-listed-in-Some.ensures)
    ∙ ap (option_map (λ (set : BTreeSet ℕ). set.keys)) (sym c.in-Some.is) ∙ c.in_ok-codes.ensures ∙ sym (counted c.args.items.now true yes)

pub returns-in-None : goal.returns-in-None
returns-in-None c =
    let yes : (nat_le 1 (length c.args.items.now) && nat_le (length c.args.items.now) MOST_MCCS) ≡ true = search rules in
    ap (option_map (λ (set : BTreeSet ℕ). set.keys)) (sym c.in-None.is) ∙ c.in_ok-codes.ensures ∙ sym (counted c.args.items.now true yes)
