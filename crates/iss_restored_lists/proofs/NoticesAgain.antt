-- Notices that are told well are numbered as they are taken up again.
use Rattle.std.proofs.Common.{◌≡◌, ◌∙◌, ◌&&◌, ◌+◌, ◌∷◌, ℕ, suc, ap, ap₂, arith, Bool, List, [], nat_le, nat_lt, refl, sym, true}
use Rattle.std.specs.Prelude.{IsTrue}
use Rattle.std.proofs.lemmas.Bool.Decides.{nat_tests}
use Rattle.iss_model.specs.declared.call.Notice.{Notice}
use Rattle.iss_model.specs.declared.state.State.{State}
use Rattle.iss_notice.specs.Pending.{are_numbered, rise_within}
use Rattle.iss_well_formed.specs.Notices.{AreToldWell, do_notices_rise}

above : (last n : ℕ) → nat_le (last + 1) n ≡ nat_lt last n
above last n = grind (arith, nat_tests)

rise_so : (last made : ℕ) (ns : List Notice) → rise_within (last + 1) made ns ≡ do_notices_rise last made ns
rise_so last made [] = refl
rise_so last made (n ∷ ns) =
    ap₂ (λ (a b : Bool). a && nat_le n.number made && b) (above last n.number) (rise_so n.number made ns)

pub told_numbered : (s : State) → AreToldWell s → IsTrue (are_numbered s.made s.notices)
told_numbered s told = rise_so 0 s.made s.notices ∙ told.numbers
