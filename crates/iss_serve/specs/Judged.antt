-- What judging an input leaves, and what it is planned for.
use Rattle.std.specs.Prelude.{◌≡◌, ◌⊎◌, ◌<◌, ℕ, Bool, true, false, List, [], ◌∷◌, ◌++◌, Ok}
use Rattle.iss_model.specs.declared.input.Input.{Input}
use Rattle.iss_model.specs.declared.input.Record.{Record}
use Rattle.iss_model.specs.Inputs.{event_token}
use Rattle.iss_model.specs.rules.Histories.{history_keeper, history_of}
use Rattle.iss_model.specs.rules.Judging.{judge}
use Rattle.iss_model.specs.run.Rooms.{judgement_within}
use Rattle.iss_session.specs.Judgements.{waiters_of}
use Rattle.iss_session.specs.Sessions.{Queued}
use Rattle.iss_opening.specs.Values.{StoreNow, room_of}
use Rattle.iss_store.specs.Values.{Plan}
use Rattle.iss_store.specs.Planning.{Plans}
use Rattle.iss_opening.specs.Standing.{StandsFor}
use Rattle.iss_serve.specs.declared.held.Held.{Held}
use Rattle.iss_serve.specs.Held.{HeldNow, IsHeld, IsOf, records_left}

-- An input was judged. Either a record was made, so that fewer may still come, or no further call has an answer that is to be judged.
pub record Judges (store next : StoreNow) (before after : Held) : Type 0 where
  pub held : IsHeld after
  pub instance : IsOf next after
  pub turns : after.turns ≡ before.turns
  pub size : next.layout.size ≡ store.layout.size
  pub moves : (records_left next < records_left store) ⊎ ((records_left next ≡ records_left store) × (after.unreached.items ≡ before.unreached.items))

-- All inputs were judged: no call has an answer that is to be judged.
pub record Settles (store next : StoreNow) (before after : Held) : Type 0 where
  pub held : IsHeld after
  pub instance : IsOf next after
  pub turns : after.turns ≡ before.turns
  pub size : next.layout.size ≡ store.layout.size
  pub settled : after.unreached.items ≡ []

-- an input is to be judged again before these, or no more
abbrev pub judged_again : Bool → Queued → List Queued → List Queued
judged_again true q rest = q ∷ rest
judged_again false q rest = rest

-- the client of a new event waits; if a time record goes before an answer, nobody does
abbrev pub waiting_for : Queued → Bool → HeldNow → HeldNow
waiting_for q true h = h
waiting_for q false h = record h { served = h.served ++ waiters_of q.client (event_token q.input) }

-- whatever records the store stands for, this plan is what judging the input at this time comes to
pub record IsPlannedFor (s : StoreNow) (at : ℕ) (i : Input) (p : Plan) : Type 0 where
  pub on_book : (rs : List Record) → StandsFor s rs
      → Plans (judgement_within (room_of s) rs (judge history_keeper (history_of rs) i at)) (Ok p)
