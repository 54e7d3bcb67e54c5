use Rattle.iss_channels.proofs.places.Places.add.Goals as goal

pub returns-clause-added : goal.returns-clause-added
returns-clause-added g c = λ key place. rw (← c.self.view_is) (c.in_ok-insert.ensures.updates.0 (key, place))
