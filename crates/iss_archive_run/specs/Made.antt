-- The records of a device after its image, each with what it makes.
use Rattle.std.specs.Prelude.{◌≡◌, ℕ, ◌+◌, true, List, [], ◌∷◌, length}
use Rattle.iss_edge.specs.World.{World}
use Rattle.iss_model.specs.declared.input.Record.{Record}
use Rattle.iss_model.specs.rules.Stepping.{step}
use Rattle.iss_model.specs.state.Cores.{core_keeper}
use Rattle.iss_archive.specs.declared.source.Stepped.{Stepped}
use Rattle.iss_archive.specs.Steps.{are_next}
use Rattle.iss_core.specs.Values.{CoreNow}
use Rattle.iss_opening.specs.declared.taking.Taken.{Taken}
use Rattle.iss_opening.specs.Values.{StoreNow}
use Rattle.iss_opening.specs.Reading.{core_after}
use Rattle.iss_opening.specs.Opening.{OpensStore, OpenedAs}
use Rattle.iss_opening.specs.Progress.{HasReadAll}

-- a record that was taken up, with what it made
abbrev pub step_of : Taken → Stepped
step_of t = record { number = t.number; at = t.accepted.at; entries = t.entries }

-- this is the record's number after those of the core, its stamp, and what it makes on the core
pub record IsMadeOn (c : CoreNow) (r : Record) (s : Stepped) : Type 0 where
  pub number : s.number ≡ c.state.count + 1
  pub at : s.at ≡ r.at
  pub entries : s.entries.items ≡ (step core_keeper c.state r).entries

-- each of these records with what it makes on the core after those before it
abbrev pub AreMadeOn : CoreNow → List Record → List Stepped → Type 0
AreMadeOn c [] [] = Unit {0}
AreMadeOn c [] (s ∷ steps) = ⊥
AreMadeOn c (r ∷ rs) [] = ⊥
AreMadeOn c (r ∷ rs) (s ∷ steps) = IsMadeOn c r s × AreMadeOn (core_after c (r ∷ [])) rs steps

-- there are as many as come after the first ones, each is next after those before it, and no post goes between two currencies
abbrev pub fits : ℕ → ℕ → List Stepped → Type 0
fits point count steps = (point + length steps ≡ count) × (are_next point steps ≡ true)

-- all of a device was read, and these are the records after the image
pub record HasAllSteps (s : StoreNow) (steps : List Stepped) (a b : World) : Type 0 where
  pub all : HasReadAll s a b
  pub made : AreMadeOn all.read.start all.read.rs steps

-- a store that was opened on a device, and the records after the image there
pub record StepsOn (s : StoreNow) (steps : List Stepped) (device : List ℕ) : Type 0 where
  pub opens : OpensStore s device
  pub made : AreMadeOn opens.start opens.rs steps

-- the device was opened, and these are the records after its image
pub record OpensSteps (s : StoreNow) (steps : List Stepped) (a b : World) : Type 0 where
  pub opening : OpenedAs s a b
  pub there : StepsOn s steps a.device
