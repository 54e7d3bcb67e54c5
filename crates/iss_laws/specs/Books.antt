-- Books of worked scripts, on which laws are computed.
use Rattle.std.specs.Prelude.{◌≡◌, Bool, true, List, [], ◌∷◌, map}
use Rattle.std.specs.List.{list_all}
use Rattle.iss_model.specs.rules.Histories.{History, nothing_yet}
use Rattle.iss_book_examples.specs.Scripts.{Script, history_after}
use Rattle.iss_book_examples.specs.WorkedPurchases.{repeated_purchase, raised_reversed_cleared, refunded_once, after_expiry, cleared_after_expiry, states_of_a_card, loads_in_three_currencies}
use Rattle.iss_book_examples.specs.WorkedControls.{limit_of_a_day, limit_of_a_transaction}
use Rattle.iss_book_examples.specs.WorkedCalls.{funded_by_the_gateway, refused_by_the_gateway, open_call, answer_too_late, reversed_while_pending, cleared_in_parts, cleared_for_less}
use Rattle.iss_book_examples.specs.WorkedFundedParts.{funded_in_part, part_not_permitted, part_of_the_whole, cleared_beyond_its_part}
use Rattle.iss_book_examples.specs.WorkedStandIns.{stand_in, gateway_switched_off}
use Rattle.iss_book_examples.specs.WorkedDay.{a_day}
use Rattle.iss_book_examples.specs.WorkedDue.{clearing_of_a_pending_purchase, two_timeouts_and_an_expiry, expired_call, raised_by_the_gateway}
use Rattle.iss_book_examples.specs.WorkedSettings.{use_given_back}
use Rattle.iss_laws.specs.Decisions.{made_in, wanted_in}
use Rattle.iss_book_examples.specs.WorkedRefunds.{refund_of_a_stand_in, partly_released_stand_in}

-- scripts of every kind
abbrev pub scripts : List Script
scripts =
    repeated_purchase
    ∷ raised_reversed_cleared
    ∷ refunded_once
    ∷ after_expiry
    ∷ cleared_after_expiry
    ∷ states_of_a_card
    ∷ loads_in_three_currencies
    ∷ limit_of_a_day
    ∷ limit_of_a_transaction
    ∷ funded_by_the_gateway
    ∷ refused_by_the_gateway
    ∷ open_call
    ∷ answer_too_late
    ∷ reversed_while_pending
    ∷ cleared_in_parts
    ∷ cleared_for_less
    ∷ funded_in_part
    ∷ part_not_permitted
    ∷ part_of_the_whole
    ∷ cleared_beyond_its_part
    ∷ stand_in
    ∷ gateway_switched_off
    ∷ clearing_of_a_pending_purchase
    ∷ two_timeouts_and_an_expiry
    ∷ expired_call
    ∷ raised_by_the_gateway
    ∷ use_given_back
    ∷ refund_of_a_stand_in
    ∷ partly_released_stand_in
    ∷ a_day
    ∷ []

-- a law holds of the book of each of these scripts
abbrev pub HoldsOfBooks : (History → Bool) → Type 0
HoldsOfBooks law = list_all (λ script. law (history_after nothing_yet script.steps)) scripts ≡ true

-- the books of these scripts
abbrev pub books : List History
books = map (λ script. history_after nothing_yet script.steps) scripts

-- each record of each of these books decides by the rules
abbrev pub DecidesInBooks : Type 0
DecidesInBooks = map made_in books ≡ map wanted_in books
