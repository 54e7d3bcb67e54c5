-- The ask of an input in form is of no more than the greatest amount.
use Rattle.std.proofs.Common.{◌≡◌, ◌∙◌, ◌≤◌, ℕ, ap, arith, subst, sym, true}
use Rattle.std.specs.List.{list_all}
use Rattle.std.proofs.lemmas.Bool.{and_parts}
use Rattle.iss_model.specs.declared.input.Input.{Input}
use Rattle.iss_model.specs.declared.input.Input.TheVariants as input
use Rattle.iss_model.specs.declared.input.Record.{Record}
use Rattle.iss_model.specs.declared.limits.TheConstants.{GREATEST_AMOUNT}
use Rattle.iss_model.specs.Forms.{is_amount, is_in_form, is_mcc, is_stamp}
use Rattle.iss_model.specs.Tokens.{is_token}
use Rattle.iss_model.specs.rules.Asks.{Ask}
use Rattle.iss_model.specs.rules.CardReasons.{first_ask, txn_asked}
use Rattle.iss_model.specs.rules.Facts.{Facts}
use Rattle.iss_model.specs.texts.Spelling.{has_spelling, is_record, tokens_of}
use Rattle.iss_acts.specs.Causes.{ComesOf}
use Rattle.iss_acts.specs.Sources.{IsFirstAsk, IsFurtherAsk, IsOwnAsk}
use Rattle.iss_state.proofs.docket.Lists.{by_either, mapped_is}
use Rattle.iss_state.proofs.invariants.OwnEntries.{most_amount}
use Rattle.iss_states.specs.Again.{amount_of_event}

same_input : (i j : Input) → ComesOf i ≡ ComesOf j → i ≡ j
same_input i j e = cc

-- an ask is of its event's amount
pub own_amount : (f : Facts) (i : Input) (at : ℕ) (ask : Ask) → IsOwnAsk f (ComesOf i) at ask → ask.amount ≡ amount_of_event i
own_amount f i at ask own = by_either first further own
  where
    first : IsFirstAsk f (ComesOf i) at ask → ask.amount ≡ amount_of_event i
    first x =
        let its = mapped_is (first_ask x.token x.amount x.partial at) (txn_asked f x.token x.card x.currency x.mcc x.mid at) ask x.made in
        ap (λ (a : Ask). a.amount) (sym its.2) ∙ ap amount_of_event (sym (same_input i (input.Authorization x.token x.card x.currency x.amount x.mcc x.mid x.partial) x.its_input))

    further : IsFurtherAsk f (ComesOf i) at ask → ask.amount ≡ amount_of_event i
    further x = ap (λ (a : Ask). a.amount) x.made ∙ ap amount_of_event (sym (same_input i (input.Increment x.token x.txn x.currency x.amount) x.its_input))

event_small : (i : Input) → is_in_form i ≡ true → amount_of_event i ≤ GREATEST_AMOUNT
event_small (input.Authorization token card currency amount mcc mid partial) h = most_amount amount (and_parts (is_amount amount) (is_mcc mcc) h).0
event_small (input.Increment token txn currency amount) h = most_amount amount h
event_small _ h = omega arith

pub ask_small : (r : Record) → is_record r ≡ true → (f : Facts) (ask : Ask) → IsOwnAsk f (ComesOf r.input) r.at ask → ask.amount ≤ GREATEST_AMOUNT
ask_small r form f ask own =
    subst (λ (n : ℕ). n ≤ GREATEST_AMOUNT) (sym (own_amount f r.input r.at ask own))
    (event_small r.input (and_parts (is_in_form r.input) (list_all is_token (tokens_of r.input)) (and_parts (is_stamp r.at) (has_spelling r.input) form).1).0)
