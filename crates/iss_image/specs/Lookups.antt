-- What the events of a state say of controls and transactions, for the lists that leave it out.
use Rattle.std.specs.Prelude.{ℕ, Bool, false, ◌==◌, List, [], ◌∷◌, ◌++◌, find, filter_map, fold, Option, Some, None, option_map, is_some, if◌then◌else◌}
use Rattle.std.specs.Str.{bytes_eq}
use Rattle.iss_model.specs.declared.currency.Currency.{Currency}
use Rattle.iss_model.specs.declared.decision.Verdict.{Verdict}
use Rattle.iss_model.specs.declared.decision.Verdict.TheVariants as verdict
use Rattle.iss_model.specs.declared.input.Input.{Input}
use Rattle.iss_model.specs.declared.input.Input.TheVariants as input
use Rattle.iss_model.specs.declared.setting.Window.{Window}
use Rattle.iss_model.specs.declared.state.Seen.{Seen}
use Rattle.iss_codec.specs.Taking.{◌>>=◌}
use Rattle.iss_image.specs.declared.lookups.WindowSet.{WindowSet}
use Rattle.iss_image.specs.declared.lookups.CardMade.{CardMade}
use Rattle.iss_image.specs.declared.lookups.Purchase.{Purchase}

-- the control that an event sets, if it is done
abbrev pub window_set : Option Verdict → Input → Option WindowSet
window_set (Some verdict.Done) (input.Control token control currency window amount_limit usage_limit association scope offset active) =
    Some (record { control = control; window = window })
window_set _ _ = None

-- the card that an event makes, if it is done
abbrev pub card_made : Option Verdict → Input → Option CardMade
card_made (Some verdict.Done) (input.Card token card user product active) = Some (record { card = card; user = user })
card_made _ _ = None

-- the purchase that an event asks for
abbrev pub purchase_asked : Input → Option Purchase
purchase_asked (input.Authorization token card currency amount mcc mid partial) = Some (record { txn = token; card = card; currency = currency })
purchase_asked _ = None

-- the control that an event sets
abbrev pub window_told : Seen → Option WindowSet
window_told e = window_set e.verdict e.body.input

-- the card that an event makes
abbrev pub card_told : Seen → Option CardMade
card_told e = card_made e.verdict e.body.input

-- the purchase that an event asks for
abbrev pub purchase_told : Seen → Option Purchase
purchase_told e = purchase_asked e.body.input

-- the controls that events set
abbrev pub windows_set : List Seen → List WindowSet
windows_set es = filter_map window_told es

-- the cards that events make
abbrev pub cards_made : List Seen → List CardMade
cards_made es = filter_map card_told es

-- the purchases that events ask for
abbrev pub purchases : List Seen → List Purchase
purchases es = filter_map purchase_told es

-- the first thing of a name
abbrev pub named : {A : Type 0} → (A → List ℕ) → List ℕ → List A → Option A
named name_of name xs = find (λ x. bytes_eq (name_of x) name) xs

-- the window of a control among these
abbrev pub window_by : List WindowSet → List ℕ → Option Window
window_by windows control = option_map (λ w. w.window) (named (λ w. w.control) control windows)

-- The window of a control, by the first event that set it.
abbrev pub window_in : List Seen → List ℕ → Option Window
window_in es control = window_by (windows_set es) control

-- the user of a purchase's card and its currency, if the card is among these
abbrev pub holder_by : List CardMade → Purchase → Option (List ℕ × Currency)
holder_by cards p = option_map (λ c. (c.user, p.currency)) (named (λ c. c.card) p.card cards)

-- the user and the currency of a transaction, by these purchases and cards
abbrev pub holder_among : List Purchase → List CardMade → List ℕ → Option (List ℕ × Currency)
holder_among purchases cards txn = do
  p ← named (λ p. p.txn) txn purchases
  holder_by cards p

-- The user and the currency of a transaction, by the first event that asked for it. The user is that of its card, by the first event that
-- made the card.
abbrev pub holder_in : List Seen → List ℕ → Option (List ℕ × Currency)
holder_in es txn = holder_among (purchases es) (cards_made es) txn

-- things with this one, the first of each name
abbrev pub with_first : {A : Type 0} → (A → List ℕ) → List A → A → List A
with_first name_of xs x = if is_some (named name_of (name_of x) xs) then xs else xs ++ x ∷ []

-- things with the one that was told of, if there is one: the first of each name
abbrev pub with_told : {A : Type 0} → (A → List ℕ) → List A → Option A → List A
with_told name_of xs None = xs
with_told name_of xs (Some x) = with_first name_of xs x

-- things with those that events tell of, the first of each name
abbrev pub with_firsts : {A : Type 0} → (A → List ℕ) → (Seen → Option A) → List A → List Seen → List A
with_firsts name_of told xs es = fold (λ ys e. with_told name_of ys (told e)) xs es

-- the controls that events set, the first of each name
abbrev pub first_windows : List Seen → List WindowSet
first_windows es = with_firsts (λ w. w.control) window_told [] es

-- the cards that events make, the first of each name
abbrev pub first_cards : List Seen → List CardMade
first_cards es = with_firsts (λ c. c.card) card_told [] es

-- the purchases that events ask for, the first of each transaction
abbrev pub first_purchases : List Seen → List Purchase
first_purchases es = with_firsts (λ p. p.txn) purchase_told [] es

-- a number was taken, and it is 0
abbrev pub is_zero_taken : Option (ℕ × List ℕ) → Bool
is_zero_taken None = false
is_zero_taken (Some x) = x.0 == 0
