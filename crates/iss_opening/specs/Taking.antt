-- One record of a device, taken up on what stands before it.
use Rattle.std.specs.Prelude.{◌≡◌, ℕ, ◌+◌, ◌<◌, List, [], ◌∷◌, Result, Ok, Err}
use Rattle.iss_model.specs.declared.input.Record.{Record}
use Rattle.iss_model.specs.declared.limits.TheConstants.{MOST_RECORDS}
use Rattle.iss_model.specs.rules.Stepping.{step}
use Rattle.iss_model.specs.state.Cores.{core_keeper}
use Rattle.iss_codec.specs.Meanings.{IsSpellingOf}
use Rattle.iss_core.specs.Values.{CoreNow, IsNext}
use Rattle.iss_opening.specs.declared.fault.OpenFault.{OpenFault}
use Rattle.iss_opening.specs.declared.fault.OpenFault.TheVariants.{Disk, NotFormatted, BadImage, BadRecord, BadSpelling, BadHistory, OutOfMemory}
use Rattle.iss_opening.specs.declared.taking.Taken.{Taken}
use Rattle.iss_opening.specs.Reading.{core_after, IsNotNext}

-- A record was taken up: this body spells it, it is the next one, and there may be one more. This is the record with its number and the
-- entries that it makes.
pub record TakesUp (before after : CoreNow) (body : List ℕ) (t : Taken) : Type 0 where
  pub r : Record
  pub spelled : IsSpellingOf r body
  pub next : IsNext before r
  pub room : before.state.count < MOST_RECORDS
  pub core : after ≡ core_after before (r ∷ [])
  pub number : t.number ≡ before.state.count + 1
  pub accepted : t.accepted ≡ r
  pub entries : t.entries.items ≡ (step core_keeper before.state r).entries

-- the body spells a record that isn't taken up
pub record FollowsNot (before : CoreNow) (body : List ℕ) : Type 0 where
  pub r : Record
  pub spelled : IsSpellingOf r body
  pub not_next : IsNotNext before r

-- the body was taken up, or has a fault, which is named by the gate before it
abbrev pub TakesIn : CoreNow → ℕ → List ℕ → Result (CoreNow × Taken) OpenFault → Type 0
TakesIn before gate body (Ok x) = TakesUp before x.0 body x.1
TakesIn before gate body (Err (BadSpelling at)) = (at ≡ gate) × ((r : Record) → IsSpellingOf r body → ⊥)
TakesIn before gate body (Err (BadHistory at)) = (at ≡ gate) × FollowsNot before body
TakesIn before gate body (Err OutOfMemory) = Unit {0}
TakesIn before gate body (Err Disk) = ⊥
TakesIn before gate body (Err NotFormatted) = ⊥
TakesIn before gate body (Err (BadImage place)) = ⊥
TakesIn before gate body (Err (BadRecord at)) = ⊥
