-- A control that alone was put has counted nothing.
use Rattle.std.proofs.Common.{◌≡◌, ℤ, Bool, true, cond, ℕ, List, [], ◌∷◌, ap, ◌∙◌}
use Rattle.std.specs.Prelude.{Option, Some, None, is_none}
use Rattle.std.specs.Ordering.{nat_cmp}
use Rattle.std.specs.Str.{bytes_eq}
use Rattle.std.specs.Cmp.Lexicographic.{slice_cmp}
use Rattle.std.specs.FinMap as finite
use Rattle.iss_model.specs.rules.Controls.{ControlPut, counter_key}
use Rattle.iss_model.specs.state.Cores.{ControlKept, with_control}
use Rattle.iss_model.specs.state.Kept.{nothing_kept}
use Rattle.iss_model.proofs.Names.{its_name}
use Rattle.iss_velocity.specs.Puts.{kept_named}
use Rattle.iss_velocity.specs.Showing.{may_restore}

pub none_counted : (controls : List ControlKept) (put : ControlPut) (name user : List ℕ) (number : ℤ) → controls ≡ with_control [] put → put.control.name ≡ name
    → may_restore user number (kept_named name controls) ≡ true
none_counted controls put name user number e same =
    let fresh : ControlKept = record { first = put.number; control = put.control; amounts = nothing_kept; times = nothing_kept } in
    ap (λ (cs : List ControlKept). may_restore user number (kept_named name cs)) e
    ∙ ap (λ (b : Bool). may_restore user number (cond b (Some fresh) None)) (ap (λ (n : List ℕ). bytes_eq n name) same ∙ its_name name)
    ∙ ap (λ (o : Option ℤ). is_none o) (finite.get-empty (slice_cmp nat_cmp) (counter_key user number))
