-- Events in order: numbers rise, stamps don't fall, and tokens are their own.
use Rattle.std.specs.Prelude.{◌≡◌, ◌≤◌, ℕ, Bool, true, not, ◌&&◌, nat_le, nat_lt, List, [], ◌∷◌, is_some, unwrap_or}
use Rattle.std.specs.List.{list_all, list_any}
use Rattle.iss_model.specs.declared.decision.Judged.TheVariants.{New}
use Rattle.iss_model.specs.declared.input.Record.{Record}
use Rattle.iss_model.specs.declared.limits.TheConstants.{MOST_RECORDS}
use Rattle.iss_model.specs.declared.state.Seen.{Seen}
use Rattle.iss_model.specs.declared.state.State.{State}
use Rattle.iss_model.specs.Forms.{is_stamp}
use Rattle.iss_model.specs.Inputs.{event_token, is_event}
use Rattle.iss_model.specs.rules.Judging.{judge}
use Rattle.iss_model.specs.state.Cores.{core_keeper}
use Rattle.iss_model.specs.texts.Spelling.{is_record}
use Rattle.iss_states.specs.Rebuilding.{rebuilt}

-- the numbers of events rise from above this one, up to the number of records
abbrev pub do_numbers_rise : ℕ → ℕ → List Seen → Bool
do_numbers_rise last records [] = true
do_numbers_rise last records (e ∷ es) = nat_lt last e.number && nat_le e.number records && do_numbers_rise e.number records es

-- the stamps of events don't fall from this one on, up to the time
abbrev pub do_stamps_rise : ℕ → ℕ → List Seen → Bool
do_stamps_rise last now [] = true
do_stamps_rise last now (e ∷ es) = nat_le last e.body.at && nat_le e.body.at now && do_stamps_rise e.body.at now es

-- an event has this token
abbrev pub has_event_token : List ℕ → Seen → Bool
has_event_token token e = is_event token e.body.input

-- no later event has the token of an earlier one
abbrev pub have_tokens_of_their_own : List Seen → Bool
have_tokens_of_their_own [] = true
have_tokens_of_their_own (e ∷ es) =
    not (list_any (has_event_token (unwrap_or (event_token e.body.input) [])) es) && have_tokens_of_their_own es

-- the record of an event is in form, and it is of an event
abbrev pub is_event_record : Seen → Bool
is_event_record e = is_some (event_token e.body.input) && is_record e.body

-- The events of a state are in order, within its records and its time.
pub record AreInOrder (s : State) : Type 0 where
  pub few : nat_le s.records MOST_RECORDS ≡ true
  pub time : is_stamp s.now ≡ true
  pub numbers : do_numbers_rise 0 s.records s.events ≡ true
  pub stamps : do_stamps_rise 0 s.now s.events ≡ true
  pub tokens : have_tokens_of_their_own s.events ≡ true
  pub records : list_all is_event_record s.events ≡ true

-- A record is new on a state: records are left, its stamp isn't before the time, it is in form, and a core that is made again judges it as new.
pub record IsNewOnState (s : State) (r : Record) : Type 0 where
  pub room : nat_lt s.records MOST_RECORDS ≡ true
  pub later : s.now ≤ r.at
  pub form : is_record r ≡ true
  pub new : judge core_keeper (rebuilt s) r.input r.at ≡ New r
