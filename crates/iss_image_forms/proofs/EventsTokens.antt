-- The tokens of a state's events are tokens, and few, and so are its numbers: the record of each event is in form, and there are few records.
use Rattle.std.proofs.Common.{◌≡◌, ◌∷◌, ◌&&◌, ◌+◌, ◌*◌, ◌≤◌, ℕ, arith, length, List, [], nat_le, nat_lt, refl, suc, true}
use Rattle.std.specs.Prelude.{◌^◌, is_some}
use Rattle.std.specs.List.{list_all}
use Rattle.std.proofs.lemmas.Bool.{and_parts}
use Rattle.std.proofs.lemmas.Bool.Decides.{nat_tests}
use Rattle.iss_model.specs.declared.limits.TheConstants.{GREATEST_AMOUNT, LAST_STAMP, MOST_RECORDS}
use Rattle.iss_model.specs.declared.state.Seen.{Seen}
use Rattle.iss_model.specs.declared.state.State.{State}
use Rattle.iss_model.specs.Forms.{is_in_form, is_stamp}
use Rattle.iss_model.specs.Inputs.{event_token}
use Rattle.iss_model.specs.Tokens.{is_token}
use Rattle.iss_model.specs.texts.Spelling.{has_spelling, is_record, tokens_of}
use Rattle.iss_model.proofs.Lists.{all_weaker}
use Rattle.iss_state.proofs.docket.Lists.{both_so}
use Rattle.iss_states.specs.Order.{AreInOrder, do_numbers_rise, is_event_record}
use Rattle.iss_image_lists.specs.Forms.{has_room, is_list}
use Rattle.iss_image.specs.Images.{tokens_first}
use Rattle.iss_image.proofs.TokensFirst.{all_formed, four_at_most, have_all}

-- numbers ----

pub up_to : (n m : ℕ) → nat_le n m ≡ true → n ≤ m
up_to n m h = grind (arith, nat_tests)

next_to : (n m : ℕ) → nat_lt n m ≡ true → n + 1 ≤ m
next_to n m h = grind (arith, nat_tests)

below : (n most bound : ℕ) → n ≤ most → nat_lt most bound ≡ true → nat_lt n bound ≡ true
below n most bound h k = grind (arith, nat_tests)

-- what four bytes can hold: four times the number of records
room_of_four : (n : ℕ) → n ≤ 4 * MOST_RECORDS → has_room 4 n ≡ true
room_of_four n h = below n (4 * MOST_RECORDS) (256 ^ 4) h refl

pub room_of_amount : (n : ℕ) → n ≤ GREATEST_AMOUNT → has_room 8 n ≡ true
room_of_amount n h = below n GREATEST_AMOUNT (256 ^ 8) h refl

room_of_stamp : (n : ℕ) → n ≤ LAST_STAMP → has_room 8 n ≡ true
room_of_stamp n h = below n LAST_STAMP (256 ^ 8) h refl

within : (n m most : ℕ) → n ≤ m → m ≤ most → n ≤ 4 * most
within n m most h k = omega (arith, h, k)

-- a number of a record has room
pub room_of_number : (n records : ℕ) → n ≤ records → records ≤ MOST_RECORDS → has_room 4 n ≡ true
room_of_number n records h few = room_of_four n (within n records MOST_RECORDS h few)

-- the number of a state's records has room, and its time has
pub records_have_room : (s : State) → AreInOrder s → has_room 4 s.records ≡ true
records_have_room s order = room_of_number s.records s.records (itself s.records) (up_to s.records MOST_RECORDS order.few)
  where
    itself : (n : ℕ) → n ≤ n
    itself n = omega arith

pub time_has_room : (s : State) → AreInOrder s → has_room 8 s.now ≡ true
time_has_room s order = room_of_stamp s.now (up_to s.now LAST_STAMP order.time)

-- events ----

-- there are no more events than records
few_events : (last records : ℕ) (es : List Seen) → last ≤ records → do_numbers_rise last records es ≡ true → length es + last ≤ records
few_events last records [] le rise = omega (arith, le)
few_events last records (e ∷ es) le rise =
    let parts = and_parts (nat_lt last e.number && nat_le e.number records) (do_numbers_rise e.number records es) rise in
    let numbers = and_parts (nat_lt last e.number) (nat_le e.number records) parts.0 in
    one_more (length es) last e.number records (next_to last e.number numbers.0) (few_events e.number records es (up_to e.number records numbers.1) parts.1)
  where
    one_more : (len last n records : ℕ) → last + 1 ≤ n → len + n ≤ records → suc len + last ≤ records
    one_more len last n records h k = omega (arith, h, k)

pub events_few : (s : State) → AreInOrder s → length s.events ≤ MOST_RECORDS
events_few s order =
    through (length s.events) s.records MOST_RECORDS (few_events 0 s.records s.events (least s.records) order.numbers) (up_to s.records MOST_RECORDS order.few)
  where
    least : (n : ℕ) → 0 ≤ n
    least n = omega arith

    through : (n m most : ℕ) → n + 0 ≤ m → m ≤ most → n ≤ most
    through n m most h k = omega (arith, h, k)

-- their tokens ----

tokens_in_form : (e : Seen) → is_event_record e ≡ true → have_all is_token e ≡ true
tokens_in_form e h =
    let form : is_record e.body ≡ true = (and_parts (is_some (event_token e.body.input)) (is_record e.body) h).1 in
    (and_parts (is_in_form e.body.input) (list_all is_token (tokens_of e.body.input)) (and_parts (is_stamp e.body.at) (has_spelling e.body.input) form).1).1

-- The tokens of a state's events are few, and each is a token.
pub tokens_are_list : (s : State) → AreInOrder s → is_list is_token (tokens_first s.events) ≡ true
tokens_are_list s order =
    both_so (has_room 4 (length (tokens_first s.events))) (list_all is_token (tokens_first s.events))
    (room_of_four (length (tokens_first s.events)) (times (length (tokens_first s.events)) (length s.events) MOST_RECORDS (four_at_most s.events) (events_few s order)))
    (all_formed is_token s.events (all_weaker is_event_record (have_all is_token) tokens_in_form s.events order.records))
  where
    times : (n m most : ℕ) → n ≤ 4 * m → m ≤ most → n ≤ 4 * most
    times n m most h k = omega (arith, h, k)
