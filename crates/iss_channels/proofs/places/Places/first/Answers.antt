use Rattle.std.proofs.Common.{◌≡◌, None}
use Rattle.iss_channels.proofs.Firsts.{no_first, has_first}
use Rattle.iss_channels.proofs.places.Places.first.Goals as goal

pub returns-in_err-place-clause-none : goal.returns-in_err-place-clause-none
returns-in_err-place-clause-none g c =
    let none : c.from_residual.result ≡ None = c.from_residual.ensures in
    rw none
    (rw (← c.self.view_is)
    (no_first g.K.Ord.cmp g.met.K.Ord.total c.self.inside.places c.args.key.now c.new.result.start c.new.result.end c.range.result c.new.ensures.start c.new.ensures.end
    (c.range.ensures.in_range c.new.ensures.exhausted) c.in_err-place.ensures.steps.0))

pub returns-clause-first : goal.returns-clause-first
returns-clause-first g c =
    rw (← c.self.view_is)
    (has_first g.K.Ord.cmp g.met.K.Ord.total c.self.inside.places c.args.key.now c.new.result.start c.new.result.end c.in_ok-place.field-0.now c.next.new.self c.range.result
    c.new.ensures.start c.new.ensures.end c.in_ok-place.ensures.steps (c.range.ensures.in_range c.new.ensures.exhausted))
