use Rattle.std.proofs.Common.{sym}
use Rattle.iss_velocity.proofs.Walks.{goes_on_behind, goes_on_before}
use Rattle.iss_velocity.proofs.counters.next_after.Goals as goal

pub returns-in-Some : goal.returns-in-Some
returns-in-Some c = goes_on_behind c.args.counters.now c.args.next c.args.place c.requires c.in-Some.field-0.now (sym c.in-Some.ensures)

pub returns-in-None : goal.returns-in-None
returns-in-None c = goes_on_before c.args.counters.now c.args.next c.args.place c.requires (sym c.in-None.ensures)
