-- The image of a state, and the state that bytes spell.
use Rattle.std.specs.Prelude.{◌≡◌, ℕ, Bool, true, false, ◌&&◌, ◌==◌, List, [], ◌∷◌, ◌++◌, Option, Some, None, if◌then◌else◌}
use Rattle.std.specs.Cmp.Lexicographic.{pointwise}
use Rattle.std.specs.Str.{bytes_eq}
use Rattle.iss_model.specs.declared.state.Seen.{Seen}
use Rattle.iss_model.specs.declared.state.State.{State}
use Rattle.iss_model.specs.Inputs.{with_length}
use Rattle.iss_model.specs.Tokens.{is_token}
use Rattle.iss_model.specs.texts.Spelling.{number_bytes}
use Rattle.iss_codec.specs.Taking.{◌>>=◌, only, take_number, take_token}
use Rattle.iss_states.specs.Showing.{no_state}
use Rattle.iss_image_lists.specs.Spelling.{list_bytes, txns_bytes, balances_bytes, counters_bytes, sums_bytes, notices_bytes}
use Rattle.iss_image_lists.specs.Taking.{take_list, take_txns, take_balances, take_counters, take_sums, take_notices}
use Rattle.iss_image_lists.specs.Forms.{has_room, is_list, are_txns, are_balances, are_counters, are_sums_of_stand_ins, are_notices}
use Rattle.iss_image.specs.Images.{seen_bytes, tokens_first}
use Rattle.iss_image.specs.Forms.{is_seen}
use Rattle.iss_image.specs.Lookups.{window_in, holder_in}
use Rattle.iss_codec.specs.Places.{place_bytes, take_place, is_listed}
use Rattle.iss_image.specs.TakingEvents.{take_seen}
use Rattle.iss_image.specs.declared.lists.Lists.{Lists}

-- what a state has beside its events
abbrev pub lists_of : State → Lists
lists_of s = record { txns = s.txns; balances = s.balances; counters = s.counters; sums = s.sums; made = s.made; notices = s.notices }

-- a state of these parts
abbrev pub state_of_parts : ℕ → ℕ → List Seen → Lists → State
state_of_parts records now events lists =
    record {
      records = records;
      now = now;
      events = events;
      txns = lists.txns;
      balances = lists.balances;
      counters = lists.counters;
      sums = lists.sums;
      made = lists.made;
      notices = lists.notices;
    }

-- the list has nothing
abbrev pub has_none : {A : Type 0} → List A → Bool
has_none [] = true
has_none (x ∷ xs) = false

-- lists have nothing, and no notice was made
abbrev pub are_bare : Lists → Bool
are_bare l = has_none l.txns && has_none l.balances && has_none l.counters && has_none l.sums && l.made == 0 && has_none l.notices

-- a state is the one without a record
abbrev pub is_bare : State → Bool
is_bare s = s.records == 0 && s.now == 0 && has_none s.events && are_bare (lists_of s)

-- what a state has beside its events, with each token as `token_bytes` spells it
abbrev pub lists_bytes : (List ℕ → List ℕ) → Lists → List ℕ
lists_bytes token_bytes l =
    txns_bytes token_bytes l.txns ++ balances_bytes token_bytes l.balances ++ counters_bytes token_bytes l.counters ++ sums_bytes token_bytes l.sums
    ++ number_bytes 4 l.made ++ notices_bytes token_bytes l.notices

-- the parts of a state, with each token as its place among these
abbrev pub parts_bytes : List (List ℕ) → State → List ℕ
parts_bytes tokens s =
    number_bytes 4 s.records ++ number_bytes 8 s.now ++ list_bytes with_length tokens ++ list_bytes (seen_bytes (place_bytes tokens)) s.events
    ++ lists_bytes (place_bytes tokens) (lists_of s)

-- The image of a state: nothing for the state without a record, and else its parts.
unfoldable pub image_of_state : State → List ℕ
image_of_state s = if is_bare s then [] else parts_bytes (tokens_first s.events) s

-- these are the tokens of the events, each once, in the order in which they first stand
abbrev pub have_tokens : List (List ℕ) → List Seen → Bool
have_tokens tokens es = pointwise bytes_eq tokens (tokens_first es)

-- what a state has beside its events, with each token as its place among these
abbrev pub lists_by_place : List (List ℕ) → State → List ℕ
lists_by_place tokens s = lists_bytes (place_bytes tokens) (lists_of s)

-- events, if these are their tokens
unfoldable pub take_events : List (List ℕ) → List ℕ → Option (List Seen × List ℕ)
take_events tokens bytes = do
  events ← take_list (take_seen (take_place tokens)) bytes
  only (have_tokens tokens) events

-- what a state has beside these events, with each token as `take_name` takes it
unfoldable pub take_lists : (List ℕ → Option (List ℕ × List ℕ)) → List Seen → List ℕ → Option (Lists × List ℕ)
take_lists take_name events bytes = do
  txns ← take_txns take_name bytes
  balances ← take_balances take_name txns.1
  counters ← take_counters take_name (window_in events) balances.1
  sums ← take_sums take_name counters.1
  made ← take_number 4 sums.1
  notices ← take_notices take_name (holder_in events) made.1
  Some (record { txns = txns.0; balances = balances.0; counters = counters.0; sums = sums.0; made = made.0; notices = notices.0 }, notices.1)

-- what a state has beside these events, with each token by its place among those
abbrev pub lists_in : List (List ℕ) → List Seen → List ℕ → Option (Lists × List ℕ)
lists_in tokens events bytes = take_lists (take_place tokens) events bytes

-- the parts of a state
unfoldable pub take_state : List ℕ → Option (State × List ℕ)
take_state bytes = do
  records ← take_number 4 bytes
  now ← take_number 8 records.1
  tokens ← take_list take_token now.1
  events ← take_events tokens.0 tokens.1
  lists ← take_lists (take_place tokens.0) events.0 events.1
  Some (state_of_parts records.0 now.0 events.0 lists.0, lists.1)

-- a state with a record, if nothing is after it
abbrev pub whole : State → List ℕ → Option State
whole s [] = if is_bare s then None else Some s
whole s (byte ∷ rest) = None

-- The state that these bytes spell, or none.
unfoldable pub state_spelled : List ℕ → Option State
state_spelled [] = Some no_state
state_spelled (byte ∷ bytes) = do
  taken ← take_state (byte ∷ bytes)
  whole taken.0 taken.1

-- events are few, and each is read again, with a token as its place among these
abbrev pub are_events : List (List ℕ) → List Seen → Bool
are_events tokens es = is_list (is_seen (is_listed tokens)) es

-- lists are read again after these events, with each token a name that passes this test
abbrev pub are_lists : (List ℕ → Bool) → List Seen → Lists → Bool
are_lists is_name events l =
    are_txns is_name l.txns && are_balances is_name l.balances && are_counters is_name (window_in events) l.counters
    && are_sums_of_stand_ins is_name l.sums && has_room 4 l.made && are_notices is_name (holder_in events) l.notices

-- A state is in image form: its image is read again.
abbrev pub is_in_image_form : State → Bool
is_in_image_form s =
    let tokens = tokens_first s.events in
    has_room 4 s.records && has_room 8 s.now && is_list is_token tokens && are_events tokens s.events && are_lists (is_listed tokens) s.events (lists_of s)

-- these bytes are the image of this state, which is in image form
abbrev pub IsImageOf : State → List ℕ → Type 0
IsImageOf s bytes = (is_in_image_form s ≡ true) × (bytes ≡ image_of_state s)
