use Rattle.std.proofs.Common.{ℕ, List, subst}
use Rattle.std.specs.Prelude.{IsSome}
use Rattle.std.specs.BTreeMap as tree
use Rattle.iss_hold.specs.Indexes.{names, by_user}
use Rattle.iss_hold.proofs.IndexesKept.{no_place_yet, indexed_started}
use Rattle.iss_hold.proofs.table.Table.start.Goals as goal

pub start-requires-clause-unknown : goal.start-requires-clause-unknown
start-requires-clause-unknown c =
    let b = c.args.self.now in
    no_place_yet b.holds (names b.holds) b.sums b.expiries.places.items b.expiries.late c.args.txn.now.token c.requires.indexed c.requires.unknown

pub returns-clause-indexed : goal.returns-clause-indexed
returns-clause-indexed c =
    let b = c.args.self.now in
    indexed_started c.start.result c.args.txn.now c.requires.indexed c.requires.unknown c.requires.origin
    c.begin_sum.ensures.same c.begin_sum.ensures.stay
    (subst (λ (key : List ℕ × ℕ). IsSome (tree.get by_user c.begin_sum.new.sums key)) c.user_key.ensures c.in_ok-begin_sum.ensures.stands)
    c.start.ensures.added c.start.ensures.holds_stay c.start.ensures.order c.start.ensures.first
