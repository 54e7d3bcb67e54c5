-- Reading a device: the core that its image makes, and the records after the image, which follow on it one after the other.
use Rattle.std.specs.Prelude.{◌≡◌, ℕ, ◌+◌, ◌≤◌, ◌⊎◌, true, List, [], ◌∷◌, fold, length, IsTrue}
use Rattle.std.specs.List.{list_all}
use Rattle.iss_journal.specs.Place.{Place}
use Rattle.iss_journal.specs.Opening.{RecordAt, BadAt}
use Rattle.iss_journal.specs.Reading.{ReadUpTo}
use Rattle.iss_halves.specs.Forms.{Layout}
use Rattle.iss_halves.specs.Halves.{half_start}
use Rattle.iss_halves.specs.Finding.{BadImageAt, HasLayout, found_region}
use Rattle.iss_halves.specs.Opening.{IsFound}
use Rattle.iss_model.specs.declared.input.Record.{Record}
use Rattle.iss_model.specs.declared.limits.TheConstants.{MOST_RECORDS}
use Rattle.iss_model.specs.rules.Stepping.{step}
use Rattle.iss_model.specs.state.Cores.{CoreState, core_keeper}
use Rattle.iss_model.specs.texts.Spelling.{is_record}
use Rattle.iss_codec.specs.Meanings.{IsSpellingOf}
use Rattle.iss_core.specs.Values.{CoreNow, IsNext}
use Rattle.iss_snapshot.specs.Loaded.{IsLoaded, IsOfNoState}
use Rattle.iss_standing.specs.Standing.{bodies_of}

-- the core after these records
abbrev pub core_after : CoreNow → List Record → CoreNow
core_after c rs = record { instance = c.instance; state = fold (λ (s : CoreState) (r : Record). (step core_keeper s r).world) c.state rs }

-- each of these records is next on the core after those before it
abbrev pub AreNext : CoreNow → List Record → Type 0
AreNext c [] = Unit {0}
AreNext c (r ∷ rs) = IsNext c r × AreNext (core_after c (r ∷ [])) rs

-- a record isn't next on a core, or it would be one more than there may be
abbrev pub IsNotNext : CoreNow → Record → Type 0
IsNotNext c r = (IsNext c r → ⊥) ⊎ (c.state.count ≡ MOST_RECORDS)

-- On this device an image was found, and this core is made of it. One journal has no image: its core is that of no bytes.
pub record BeginsWith (layout : Layout) (image : List ℕ) (start : CoreNow) (device : List ℕ) : Type 0 where
  pub found : IsFound layout image device
  pub loaded : IsLoaded image layout.instance start

-- After the image, up to this gate, these records stand on the device. Each is next on the core after those before it, and there are at most
-- as many as there may be.
pub record ReadsOn (layout : Layout) (image : List ℕ) (start : CoreNow) (rs : List Record) (place : Place) (device : List ℕ) : Type 0 where
  pub begins : BeginsWith layout image start device
  pub spelled : IsTrue (list_all is_record rs)
  pub next : AreNext start rs
  pub few : start.state.count + length rs ≤ MOST_RECORDS
  pub read : ReadUpTo (found_region layout image device) (bodies_of rs) place device

-- what was read of a device up to this gate
pub record ReadTo (gate : ℕ) (device : List ℕ) : Type 0 where
  pub layout : Layout
  pub image : List ℕ
  pub start : CoreNow
  pub rs : List Record
  pub place : Place
  pub here : place.gate ≡ gate
  pub reads : ReadsOn layout image start rs place device

-- the record that follows this gate, after those that were read
pub record BodyAfter (gate : ℕ) (device : List ℕ) : Type 0 where
  pub before : ReadTo gate device
  pub body : List ℕ
  pub there : RecordAt before.place body device

-- the current half begins here, with a length that is too long
pub record HalfTooLong (place : ℕ) (device : List ℕ) : Type 0 where
  pub layout : Layout
  pub has : HasLayout layout device
  pub size : layout.size ≡ length device
  pub bad : BadImageAt layout place device

-- the length after this open gate is wrong
pub record RecordTooLong (gate : ℕ) (device : List ℕ) : Type 0 where
  pub before : ReadTo gate device
  pub bad : BadAt before.place device

-- At this place no record or image can stand: the length of the half there is too long, or that after an open gate is wrong.
abbrev pub BadRecordAt : ℕ → List ℕ → Type 0
BadRecordAt place device = HalfTooLong place device ⊎ RecordTooLong place device

-- the bytes that follow this gate spell no record
pub record BadSpellingAt (gate : ℕ) (device : List ℕ) : Type 0 where
  pub after : BodyAfter gate device
  pub none : (r : Record) → IsSpellingOf r after.body → ⊥

-- The record that follows this gate isn't next on the core after those that were read, or it would be one more than there may be.
pub record BadHistoryAt (gate : ℕ) (device : List ℕ) : Type 0 where
  pub after : BodyAfter gate device
  pub r : Record
  pub spelled : IsSpellingOf r after.body
  pub not_next : IsNotNext (core_after after.before.start after.before.rs) r

-- the current half begins here, and its image is that of no sound state
pub record BadImageIs (place : ℕ) (device : List ℕ) : Type 0 where
  pub layout : Layout
  pub image : List ℕ
  pub halved : layout.halved ≡ true
  pub here : place ≡ half_start layout.size layout.second
  pub found : IsFound layout image device
  pub none : IsOfNoState image
