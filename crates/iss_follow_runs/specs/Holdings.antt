-- What a store that was opened on a device holds.
use Rattle.std.specs.Prelude.{ℕ, List}
use Rattle.iss_states.specs.Showing.{shown}
use Rattle.iss_image.specs.States.{image_of_state}
use Rattle.iss_core.specs.Values.{CoreNow}

-- the image of what a core keeps
abbrev pub image_of : CoreNow → List ℕ
image_of c = image_of_state (shown c.state)
