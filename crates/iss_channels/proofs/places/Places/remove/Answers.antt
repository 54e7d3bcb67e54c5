use Rattle.iss_channels.proofs.places.Places.remove.Goals as goal

pub returns : goal.returns
returns g c = λ key place. rw (← c.self.view_is) (c.remove.ensures.updates.0 (key, place))
