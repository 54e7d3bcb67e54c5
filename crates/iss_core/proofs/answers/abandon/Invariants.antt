use Rattle.std.proofs.Common.{◌≡◌, ◌+◌, ◌^◌, ◌++◌, true, nat_lt, drop, length}
use Rattle.std.specs.List.{list_all}
use Rattle.iss_core.specs.Answers.{abandoned_entries}
use Rattle.iss_core.proofs.answers.abandon.Given as goal

abbrev pub invariant-loop-opened : goal.invariant-loop-opened
invariant-loop-opened l = record {
  entries : l.out.items ++ abandoned_entries l.next l.txn l.why (drop l.opened-index l.asked) ≡ l.fn.out.items ++ abandoned_entries l.number l.txn l.why l.asked;
  next : l.next + length (drop l.opened-index l.asked) ≡ l.number + length l.asked;
  amounts : list_all (λ o. nat_lt o.amount (2 ^ 62)) (drop l.opened-index l.asked) ≡ true;
}
