use Rattle.std.proofs.Common.{◌≡◌, sym, length, nat_eq, false, rules}
use Rattle.iss_known.proofs.ListedAs.{other_length}
use Rattle.iss_known.proofs.txns.are_listed.Goals as goal

pub returns-then-listed-begun : goal.returns-then-listed-begun
returns-then-listed-begun c =
    let apart : nat_eq (length c.args.listed.now) (length c.args.begun.now) ≡ false = search rules in
    sym (other_length c.args.listed.now c.args.begun.now apart)
