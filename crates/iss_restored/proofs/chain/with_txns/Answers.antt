use Rattle.std.proofs.Common.{◌∙◌, sym}
use Rattle.std.proofs.lemmas.Slice.Zip.{either_empty_from_Zip}
use Rattle.iss_restored.proofs.AtOnce.{none_left}
use Rattle.iss_restored.proofs.chain.with_txns.Goals as goal

pub returns : goal.returns
returns c = sym (none_left c.loop-known.chain _ _ (either_empty_from_Zip _ c.next.new.self _ c.in-None.is c.next.ensures.steps))
    ∙ c.loop-known.invariant.restored
