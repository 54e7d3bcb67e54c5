-- The record that an input makes on a store.
use Rattle.std.specs.Prelude.{◌≡◌, ℕ, ◌-◌, ◌<◌, ◌≤◌, max, Bool, not, ◌&&◌, List, length, nat_le, Option, Some, None, IfSome, Result, Ok, Err, IsTrue, if◌then◌else◌}
use Rattle.iss_journal.specs.Place.{free_at}
use Rattle.iss_halves.specs.declared.layout.TheConstants.{BESIDE_IMAGE}
use Rattle.iss_halves.specs.Halves.{half_size}
use Rattle.iss_halves.specs.Turning.{half_bytes, turned_place}
use Rattle.iss_halves.specs.Forms.{turned}
use Rattle.iss_model.specs.declared.input.Input.{Input}
use Rattle.iss_model.specs.declared.decision.Answer.TheVariants as answer
use Rattle.iss_model.specs.declared.decision.Judged.{Judged}
use Rattle.iss_model.specs.declared.decision.Judged.TheVariants as judged
use Rattle.iss_model.specs.declared.limits.TheConstants.{MOST_RECORDS}
use Rattle.iss_model.specs.Forms.{is_in_form, is_stamp}
use Rattle.iss_model.specs.declared.input.Record.{Record}
use Rattle.iss_model.specs.rules.Histories.{history_keeper, history_of}
use Rattle.iss_model.specs.rules.Judging.{judge}
use Rattle.iss_model.specs.state.Cores.{core_keeper}
use Rattle.iss_model.specs.run.Rooms.{need_of, unless_spent, judgement_within}
use Rattle.iss_states.specs.Showing.{shown}
use Rattle.iss_image.specs.States.{image_of_state}
use Rattle.iss_core.specs.Values.{IsNext}
use Rattle.iss_opening.specs.Values.{StoreNow, IsStore, room_of}
use Rattle.iss_opening.specs.Standing.{StandsFor}
use Rattle.iss_store.specs.declared.store.Turn.{Turn}
use Rattle.iss_store.specs.declared.store.Turn.TheVariants.{To, Short}
use Rattle.iss_store.specs.declared.fault.PlanFault.{PlanFault}
use Rattle.iss_store.specs.declared.fault.PlanFault.TheVariants as plan_fault
use Rattle.iss_store.specs.Values.{Plan}

-- the image of what a store keeps
abbrev pub image_now : StoreNow → List ℕ
image_now s = image_of_state (shown s.core.state)

-- The bytes that a turn would leave free in the other half: what that has beside the new image, its length and a gate.
abbrev pub free_turned_at : StoreNow → ℕ
free_turned_at s = half_size s.layout.size - BESIDE_IMAGE - length (image_now s)

-- how much a turn would leave free is as it was kept, if it was
pub record IsKept (s : StoreNow) (kept : Option ℕ) : Type 0 where
  pub store : IsStore s
  pub free : IfSome kept (λ n. n ≡ free_turned_at s)

-- a turn makes room for a record with this need, and leads to the half with the image of what the store keeps; or it leaves too little free
abbrev pub TurnsFor : StoreNow → ℕ → Turn → Type 0
TurnsFor s need (To half) = (half ≡ half_bytes (image_now s)) × (need ≤ free_turned_at s)
TurnsFor s need (Short free) = (free ≡ free_turned_at s) × (free < need)

-- the most bytes that one more record may need: those that are free after the gate, or in halves those that a turn would leave if more
abbrev pub most_free_at : StoreNow → ℕ
most_free_at s = if s.layout.halved then max (free_at s.place) (free_turned_at s) else free_at s.place

-- a record that fits is put after a turn: the device is in halves, and it doesn't fit after the gate
abbrev pub turns_for : StoreNow → Record → Bool
turns_for s r = s.layout.halved && not (nat_le (need_of r) (free_at s.place))

-- the bytes that the turn for a record writes, if it needs one: those of a half with the image of what the store keeps
abbrev pub half_for : StoreNow → Record → Option (List ℕ)
half_for s r = if turns_for s r then Some (half_bytes (image_now s)) else None

-- the store once its device was turned: the other half is current, and all records are in its image
abbrev pub store_turned : StoreNow → StoreNow
store_turned s =
    record {
      core = s.core;
      place = turned_place s.layout.size s.layout.second (half_bytes (image_now s));
      layout = turned s.layout;
      point = s.core.state.count;
    }

-- the store to whose end gate a record is put: turned, if the record needs it
abbrev pub store_for : StoreNow → Record → StoreNow
store_for s r = if turns_for s r then store_turned s else s

-- a record that is to be made, as judging returns it: a time record before an answer, or one that is new
abbrev pub judged_plan : Record → Bool → Judged
judged_plan r is_clock = if is_clock then judged.Clock r else judged.New r

-- the same of a plan
abbrev pub judged_as : Plan → Judged
judged_as p = judged_plan p.accepted p.is_clock

-- A record is made if it fits; else its input is told how much is free, and how much it needs. After as many records as there may be, its
-- input is just told that they are spent.
abbrev pub made_on : StoreNow → Record → Judged → Judged
made_on s r made =
    unless_spent s.core.state.count
    (if nat_le (need_of r) (most_free_at s) then made else judged.Told (answer.Full (most_free_at s) (need_of r)))

-- what judging comes to if a record has to fit on this store's device
abbrev pub judged_within : StoreNow → Judged → Judged
judged_within s (judged.New r) = made_on s r (judged.New r)
judged_within s (judged.Clock r) = made_on s r (judged.Clock r)
judged_within s (judged.Told a) = judged.Told a

-- what an input comes to on a store, at a stamp
abbrev pub judged_at : StoreNow → Input → ℕ → Judged
judged_at s i at = judged_within s (judge core_keeper s.core.state i at)

-- The result is a plan of exactly the record that is to be made, or exactly what the input is told; else an allocation failed.
abbrev pub Plans : Judged → Result Plan PlanFault → Type 0
Plans j (Ok p) = judged_as p ≡ j
Plans j (Err (plan_fault.Told b)) = judged.Told b ≡ j
Plans j (Err plan_fault.OutOfMemory) = Unit {0}

-- whatever records the store stands for, this is what judging the input at this time by the book comes to
abbrev pub PlansOnBook : StoreNow → Input → ℕ → Result Plan PlanFault → Type 0
PlansOnBook s i at result =
    (rs : List Record) → StandsFor s rs → Plans (judgement_within (room_of s) rs (judge history_keeper (history_of rs) i at)) result

-- A plan of this store. Its record is next on the store's core, in form, and not one more than there may be. It fits, and if it doesn't
-- fit after the gate, the plan has the half for a turn.
pub record IsPlanOf (s : StoreNow) (p : Plan) : Type 0 where
  pub next : IsNext s.core p.accepted
  pub input_form : IsTrue (is_in_form p.accepted.input)
  pub stamp_form : IsTrue (is_stamp p.accepted.at)
  pub few : s.core.state.count < MOST_RECORDS
  pub fits : need_of p.accepted ≤ most_free_at s
  pub half : p.half ≡ half_for s p.accepted
