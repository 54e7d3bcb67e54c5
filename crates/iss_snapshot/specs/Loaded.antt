-- A core that an image makes again.
use Rattle.std.specs.Prelude.{◌≡◌, ◌≤◌, ℕ, List, length, Option, Some, None, IsTrue}
use Rattle.iss_model.specs.declared.input.Record.{Record}
use Rattle.iss_model.specs.declared.limits.TheConstants.{MOST_RECORDS}
use Rattle.iss_model.specs.declared.state.State.{State}
use Rattle.iss_model.specs.rules.Histories.{IsLegal, history_of}
use Rattle.iss_states.specs.OverBook.{state_of}
use Rattle.iss_states.specs.Rebuilding.{rebuilt}
use Rattle.iss_states.specs.Showing.{shown}
use Rattle.iss_rebuilt.specs.Sums.{AreRecords}
use Rattle.iss_sound.specs.Sound.{IsSoundState}
use Rattle.iss_image.specs.States.{IsImageOf, image_of_state}
use Rattle.iss_image_forms.specs.Spans.{are_spans_of_64_bits}
use Rattle.iss_core.specs.Values.{CoreNow, CoreStandsFor}

-- these bytes are the image of the state of these records, told over their whole book
abbrev pub IsImageOfBook : List Record → List ℕ → Type 0
IsImageOfBook rs bytes = bytes ≡ image_of_state (state_of (history_of rs))

-- A core is made again from these bytes, for the device of this instance. They are the image of what it shows, which is a sound state, and
-- it is as that state makes it.
pub record IsLoaded (bytes : List ℕ) (own : ℕ) (c : CoreNow) : Type 0 where
  pub instance : c.instance ≡ own
  pub sound : IsSoundState (shown c.state)
  pub image : IsImageOf (shown c.state) bytes
  pub again : c.state ≡ rebuilt (shown c.state)

-- These bytes are the image of no sound state. The numbers among its counters' spans have 64 bits, as the type of a state has them.
abbrev pub IsOfNoState : List ℕ → Type 0
IsOfNoState bytes = (s : State) → IsSoundState s → IsTrue (are_spans_of_64_bits s.counters) → bytes ≡ image_of_state s → ⊥

-- These bytes are the image of a history. Its records are legal, each has a spelling, and they are no more than there may be.
pub record IsImageOfHistory (rs : List Record) (bytes : List ℕ) : Type 0 where
  pub legal : IsLegal rs
  pub spelled : AreRecords rs
  pub few : length rs ≤ MOST_RECORDS
  pub image : IsImageOfBook rs bytes

-- These bytes are the image of a sound state, which is in image form.
pub record IsImageOfSound (s : State) (bytes : List ℕ) : Type 0 where
  pub sound : IsSoundState s
  pub spans : IsTrue (are_spans_of_64_bits s.counters)
  pub image : IsImageOf s bytes

-- a core is made, and it stands for these records
abbrev pub IsMadeFor : List Record → Option CoreNow → Type 0
IsMadeFor rs None = ⊥
IsMadeFor rs (Some c) = CoreStandsFor c rs

-- If these bytes are the image of a history, a core is made, and it stands for that history. So it is of each history with this image.
abbrev pub MakesHistory : List ℕ → Option CoreNow → Type 0
MakesHistory bytes made = (rs : List Record) → IsImageOfHistory rs bytes → IsMadeFor rs made

-- each history's image is that of a sound state, that of its whole book
abbrev pub ImagesAreSound : Type 0
ImagesAreSound = (rs : List Record) (bytes : List ℕ) → IsImageOfHistory rs bytes → IsImageOfSound (state_of (history_of rs)) bytes

-- histories with one image have equally many records
abbrev pub EqualImagesCountAlike : Type 0
EqualImagesCountAlike =
    (rs more : List Record) (bytes : List ℕ) → IsImageOfHistory rs bytes → IsImageOfHistory more bytes → length rs ≡ length more
