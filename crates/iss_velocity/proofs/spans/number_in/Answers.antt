use Rattle.std.proofs.Common.{◌≡◌, ℕ, ℤ, FitsSigned, w16, w64, to_z, of_z, sym, ap, ◌∙◌, rules}
use Rattle.std.proofs.lemmas.Int.{to_z-of_z}
use Rattle.iss_model.specs.declared.setting.Window.{Window}
use Rattle.iss_model.specs.declared.setting.Window.TheVariants.{Month}
use Rattle.iss_model.specs.Calendar.{window_at}
use Rattle.iss_velocity.specs.Spanning.{number_in}
use Rattle.iss_velocity.proofs.spans.number_in.Goals as goal

month_number : (w : Window) (offset : ℤ) (at origin : ℕ) (found : ℤ) → w ≡ Month → found ≡ window_at Month at offset → found ≡ number_in w offset at origin
unfolding number_in
month_number w offset at origin found is e = e ∙ ap (λ (x : Window). number_in x offset at origin) (sym is)

pub returns-in-Month : goal.returns-in-Month
returns-in-Month c =
    let fits : FitsSigned w64 c.window-in-Month.result = search rules in
    month_number c.args.kind c.args.offset c.args.at c.args.origin (to_z w64 (of_z w64 c.window-in-Month.result)) c.in-Month.is
    (to_z-of_z w64 c.window-in-Month.result fits ∙ c.window-in-Month.ensures.number ∙ ap (window_at Month c.args.at) (to_z-of_z w16 c.args.offset c.ranges.offset))
