-- The calls that are asked, by their transactions.
use Rattle.std.specs.Prelude.{◌≡◌, ℕ, Bool, true, false, not, ◌&&◌, ◌||◌, List, find, Option, Some, None, is_some, option_map, if◌then◌else◌}
use Rattle.std.specs.BTreeMap.{BTreeMap, get}
use Rattle.std.specs.Cmp.Lexicographic.{slice_cmp}
use Rattle.std.specs.Ordering.{nat_cmp}
use Rattle.std.specs.Str.{bytes_eq}
use Rattle.iss_model.specs.rules.Activity.{CallNow, is_asked}
use Rattle.iss_model.specs.rules.Asks.{is_authorization}
use Rattle.iss_sound_parts.specs.declared.asked.Asked.{Asked}

-- a call is asked, and is an authorisation's if only those are looked for
abbrev pub is_looked_for : Bool → CallNow → Bool
is_looked_for only x = is_asked x && (not only || is_authorization x.opened.method)

-- the event of the first such call of a transaction
abbrev pub event_asked : Bool → List CallNow → List ℕ → Option (List ℕ)
event_asked only calls token =
    option_map (λ x. x.opened.event) (find (λ x. is_looked_for only x && bytes_eq x.opened.txn token) calls)

-- the event that a map has for a transaction
abbrev pub event_in : BTreeMap (List ℕ) (List ℕ) → List ℕ → Option (List ℕ)
event_in events token = get (slice_cmp nat_cmp) events token

-- a map has the event of the first such call of each transaction
abbrev pub AreEventsAsked : Bool → List CallNow → BTreeMap (List ℕ) (List ℕ) → Type 0
AreEventsAsked only calls events = (token : List ℕ) → event_in events token ≡ event_asked only calls token

-- What is told of asked calls is told of these: the event of the first authorisation and of the first call of each transaction.
pub record IsAskedOf (xs : List CallNow) (a : Asked) : Type 0 where
  pub authorizations : AreEventsAsked true xs a.authorizations
  pub calls : AreEventsAsked false xs a.calls

-- there is no event, or it is this one
abbrev pub is_none_or_event : List ℕ → Option (List ℕ) → Bool
is_none_or_event event None = true
is_none_or_event event (Some e) = bytes_eq event e

-- a call isn't asked, or its event is that of its transaction's asked authorisation, if there is one
abbrev pub is_alone_by : (List ℕ → Option (List ℕ)) → CallNow → Bool
is_alone_by authorization x = not (is_asked x) || is_none_or_event x.opened.event (authorization x.opened.txn)

-- there is an event for a transaction
abbrev pub has_event : BTreeMap (List ℕ) (List ℕ) → List ℕ → Bool
has_event events token = is_some (event_in events token)

-- a call's event is entered for its transaction, if the call is looked for
abbrev pub IsEntered : Bool → CallNow → BTreeMap (List ℕ) (List ℕ) → BTreeMap (List ℕ) (List ℕ) → Type 0
IsEntered only x before after =
    (token : List ℕ)
    → event_in after token ≡ (if is_looked_for only x && bytes_eq x.opened.txn token then Some x.opened.event else event_in before token)
