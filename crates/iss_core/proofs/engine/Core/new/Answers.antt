use Rattle.std.proofs.Common.{subst, sym, ap, ◌∙◌}
use Rattle.iss_core.specs.Sound.{IsSound}
use Rattle.iss_core.specs.States.{kept_state}
use Rattle.iss_core.proofs.OnBook.{stands_at_first}
use Rattle.iss_core.proofs.Upheld.{sound_at_first}
use Rattle.iss_core.proofs.engine.Core.new.Goals as goal

pub invariant_of-result : goal.invariant_of-result
invariant_of-result c = subst IsSound (sym (ap kept_state c.in_ok-new-2.ensures.ok ∙ c.in_ok-new.ensures)) sound_at_first

pub returns-clause-stands : goal.returns-clause-stands
returns-clause-stands c = stands_at_first _ (ap kept_state c.in_ok-new-2.ensures.ok ∙ c.in_ok-new.ensures)
