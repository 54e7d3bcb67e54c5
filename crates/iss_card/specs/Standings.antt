-- What a card stands for, and the reasons of refusals.
use Rattle.std.specs.Prelude.{ℕ, Bool, true, false, List, Option, Some, None, is_some, Result, Ok, Err}
use Rattle.std.specs.List.{list_all}
use Rattle.iss_model.specs.declared.setting.User.{User}
use Rattle.iss_model.specs.declared.setting.Card.{Card}
use Rattle.iss_model.specs.declared.decision.Reason.{Reason}
use Rattle.iss_model.specs.declared.decision.Reason.TheVariants as reason
use Rattle.iss_model.specs.rules.Settings.{user_named, card_named}
use Rattle.iss_model.specs.state.Cores.{Cardholders}
use Rattle.iss_card.specs.declared.standing.Standing.{Standing}
use Rattle.iss_card.specs.declared.standing.Standing.TheVariants.{Unknown, Known}
use Rattle.iss_card.specs.declared.cards.CardFault.{CardFault}
use Rattle.iss_card.specs.declared.cards.CardFault.TheVariants as fault

-- a card with its holder
abbrev pub standing_with : Card → Option User → Standing
standing_with card None = Unknown
standing_with card (Some holder) = Known card.user card.product card.state holder.state

-- a card with the user that it names
abbrev pub standing_of : List User → Option Card → Standing
standing_of users None = Unknown
standing_of users (Some card) = standing_with card (user_named card.user users)

-- what the card of this name stands for
abbrev pub standing_in : Cardholders → List ℕ → Standing
standing_in c name = standing_of c.users (card_named name c.cards)

-- no card is known
abbrev pub is_unknown : Standing → Bool
is_unknown Unknown = true
is_unknown (Known user product card holder) = false

-- the user of each card stands
abbrev pub have_holders : List User → List Card → Bool
have_holders users cards = list_all (λ card. is_some (user_named card.user users)) cards

-- the reason of a fault; a failed allocation has none
abbrev pub card_fault_reason : CardFault → Option Reason
card_fault_reason fault.UserUnknown = Some reason.UserUnknown
card_fault_reason fault.CardUnknown = Some reason.CardUnknown
card_fault_reason fault.Exists = Some reason.Exists
card_fault_reason (fault.MoveUser from to) = Some (reason.MoveUser from to)
card_fault_reason (fault.MoveCard from to) = Some (reason.MoveCard from to)
card_fault_reason fault.OutOfMemory = None

-- the reason of a result
abbrev pub card_result_reason : {A : Type 0} → Result A CardFault → Option Reason
card_result_reason (Ok x) = None
card_result_reason (Err fault) = card_fault_reason fault
