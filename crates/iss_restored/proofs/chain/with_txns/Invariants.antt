use Rattle.std.proofs.Common.{◌≡◌}
use Rattle.std.specs.Iterator.Adapters.{zip_first, zip_second}
use Rattle.std.specs.Slice.Iter.{iter_rest}
use Rattle.iss_restored.specs.Again.{AreRestorable, restored_from}
use Rattle.iss_restored.proofs.chain.with_txns.Given as goal

-- what all transactions come to is what the rest comes to on what stands now, and the rest can be taken up again
abbrev pub invariant-loop-known : goal.invariant-loop-known
invariant-loop-known l = record {
  restorable : AreRestorable l.chain (iter_rest (zip_first l.known-iterator)) (iter_rest (zip_second l.known-iterator));
  restored : restored_from l.chain (iter_rest (zip_first l.known-iterator)) (iter_rest (zip_second l.known-iterator))
      ≡ restored_from l.fn.chain l.txns l.carried;
}
