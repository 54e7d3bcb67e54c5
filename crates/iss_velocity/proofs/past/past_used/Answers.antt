use Rattle.std.proofs.Common.{ℤ, ◌∙◌, ap, w64}
use Rattle.std.proofs.lemmas.Int.{to_z-of_z}
use Rattle.iss_velocity.specs.Counting.{past_at}
use Rattle.iss_velocity.proofs.past.past_used.Goals as goal

pub returns : goal.returns
returns c =
    c.copied.ensures ∙ c.get.ensures.value
    ∙ ap (λ (n : ℤ). past_at c.args.past.now c.args.user.now c.args.place n) (to_z-of_z w64 c.args.number c.ranges.number)
