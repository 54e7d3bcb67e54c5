-- A transaction begins by a purchase in its product's currency.
use Rattle.std.proofs.Common.{◌≡◌, ◌∷◌, ◌&&◌, ℕ, ap, Bool, false, List, [], not, refl, subst, sym, true}
use Rattle.std.specs.Prelude.{Option, Some, None, is_none, option_and_then}
use Rattle.std.specs.Str.{bytes_eq}
use Rattle.iss_model.specs.declared.currency.Currency.{Currency}
use Rattle.iss_model.specs.declared.decision.Reason.TheVariants as reason
use Rattle.iss_model.specs.declared.entry.Entry.{Entry}
use Rattle.iss_model.specs.declared.entry.Entry.TheVariants as entry
use Rattle.iss_model.specs.declared.setting.Card.{Card}
use Rattle.iss_model.specs.rules.Acts.{Act, Begins, act_entries}
use Rattle.iss_model.specs.rules.Asks.{Ask, breach}
use Rattle.iss_model.specs.rules.Facts.{Facts}
use Rattle.iss_model.specs.rules.Reasons.{first_reason, is_some_with, user_is}
use Rattle.iss_model.specs.rules.CardReasons.{authorization_reason, control_breach, is_in_currency, lacks_funds}
use Rattle.iss_model.specs.rules.Settings.{card_named, is_active_card, is_active_user}
use Rattle.iss_model.proofs.Names.{same_name}
use Rattle.iss_acts.specs.Causes.{Cause, ComesOf, FallsDue, is_of_event}
use Rattle.iss_acts.specs.Items.{Beginning, Item, has_item, item_entry}
use Rattle.iss_acts.specs.Sources.{IsFirstAsk, IsMade}
use Rattle.iss_acts.specs.Stages.{Stage}
use Rattle.iss_acts.proofs.Begun.{is_begun}
use Rattle.iss_acts.proofs.Passing.{EachPasses, act_passes, both_pass, none_passes, one_passes, two_pass}
use Rattle.iss_acts.proofs.Walk.{Holds}
use Rattle.iss_state.proofs.docket.Lists.{both_so}
use Rattle.iss_reasoned.specs.Origins.{is_purchase}

-- a cause is a purchase in the currency of its product
abbrev pub buys : Facts → Cause → Bool
buys f FallsDue = false
buys f (ComesOf i) = is_purchase f i

-- an entry begins a transaction of its cause's event, if it begins one, and the cause is such a purchase
abbrev pub begins_well : Facts → Cause → Entry → Bool
begins_well f by (entry.Began t) = is_of_event by t.token && buys f by
begins_well f by _ = true

abbrev is_beginning : Act → Bool
is_beginning (Begins ask) = true
is_beginning _ = false

other_item : (f : Facts) (by : Cause) (a : Act) → is_beginning a ≡ false → (x : Item) → has_item a x ≡ true → begins_well f by (item_entry x) ≡ true
other_item f by (Begins ask) plain x has = cc
other_item f by a plain (Beginning t) has = cc
other_item f by a plain _ has = refl

-- an authorisation that there is no reason to decline is in the currency of its card's product
in_its_currency : (f : Facts) (card : List ℕ) (currency : Currency) (ask : Option Ask) → authorization_reason f card currency ask ≡ None → is_some_with (is_in_currency f currency) (card_named card f.cards) ≡ true
in_its_currency f card currency ask none =
    let known : Option Card = card_named card f.cards in
    by (is_none known) (not (is_some_with (λ c. is_active_card c.state) known)) (not (is_some_with (λ c. user_is is_active_user f c.user) known)) (is_some_with (is_in_currency f currency) known) none
  where
    by : (a b c d : Bool)
        → first_reason ((a, reason.CardUnknown) ∷ (b, reason.CardState) ∷ (c, reason.UserState) ∷ (not d, reason.Currency) ∷ control_breach (option_and_then (breach f) ask) ∷ (is_some_with (lacks_funds f) ask, reason.InsufficientFunds) ∷ []) ≡ None
        → d ≡ true
    by true b c d h = cc
    by false true c d h = cc
    by false false true d h = cc
    by false false false true h = refl
    by false false false false h = cc

module _ {f : Facts} {by : Cause} {at : ℕ} where
  begins_its : (ask : Ask) → IsFirstAsk f by at ask → begins_well f by (entry.Began ask.txn) ≡ true
  begins_its ask first =
      let begun = is_begun first in
      let same : first.token ≡ ask.txn.token = ap (λ (a : Ask). a.txn.token) (sym begun.same) in
      let sold : is_some_with (is_in_currency f first.currency) (card_named first.card f.cards) ≡ true = in_its_currency f first.card first.currency (Some ask) first.none in
      subst (λ (b : Cause). (is_of_event b ask.txn.token && buys f b) ≡ true) (sym first.its_input) (both_so (bytes_eq first.token ask.txn.token) (is_some_with (is_in_currency f first.currency) (card_named first.card f.cards)) (same_name first.token ask.txn.token same) sold)

  act_begins : (g : Stage) (a : Act) → IsMade f by at g a → EachPasses (begins_well f by) (act_entries a)
  act_begins g (Begins ask) made = two_pass (begins_its ask made.from.1) (one_passes refl)
  act_begins g a made = act_passes a (other_item f by a refl)

  pub all_begin : Holds f by at (EachPasses (begins_well f by))
  all_begin = record { none = none_passes; then = both_pass; act = act_begins }
