-- How what is known grows with each event of a state.
use Rattle.std.specs.Prelude.{◌≡◌, ℕ, suc, Bool, true, false, ◌&&◌, List, [], ◌∷◌, ◌++◌, find, Option, Some, None, is_some, length, option_and_then, option_map, slice_get, unwrap_or, if◌then◌else◌}
use Rattle.std.specs.Str.{bytes_eq}
use Rattle.iss_model.specs.declared.call.CallState.{CallState}
use Rattle.iss_model.specs.declared.decision.Verdict.{Verdict}
use Rattle.iss_model.specs.declared.input.Input.{Input}
use Rattle.iss_model.specs.declared.input.Input.TheVariants as input
use Rattle.iss_model.specs.declared.setting.Card.{Card}
use Rattle.iss_model.specs.declared.setting.Product.{Product}
use Rattle.iss_model.specs.declared.state.Carried.{Carried}
use Rattle.iss_model.specs.declared.state.Seen.{Seen}
use Rattle.iss_model.specs.rules.Activity.{CallNow, TxnNow}
use Rattle.iss_model.specs.rules.Asks.{Ask, txn_begun}
use Rattle.iss_model.specs.rules.CardReasons.{first_ask}
use Rattle.iss_model.specs.rules.Facts.{Facts}
use Rattle.iss_model.specs.rules.Settings.{default_product, first_card_state, product_named}
use Rattle.iss_model.specs.rules.Stepping.{authorization_ask}
use Rattle.iss_model.specs.state.Cores.{core_facts, no_core}
use Rattle.iss_index.specs.Places.{place_of}
use Rattle.iss_states.specs.Rebuilding.{ask_of_event, calls_marked, carried_named, is_done}
use Rattle.iss_well_formed.specs.Events.{both_or_neither}
use Rattle.iss_known.specs.declared.asks.Asked.{Asked}
use Rattle.iss_known.specs.declared.asks.Purchase.{Purchase}
use Rattle.iss_known.specs.declared.controls.ControlKnown.{ControlKnown}
use Rattle.iss_known.specs.declared.parts.Parts.{Parts}
use Rattle.iss_known.specs.Known.{KnownNow}

-- calls are numbered one after the other, the first by this number
abbrev pub AreNumbered : ℕ → List CallNow → Type 0
AreNumbered first [] = Unit {0}
AreNumbered first (c ∷ cs) = (c.opened.call.0 ≡ first) × AreNumbered (suc first) cs

-- names with this one, each once
abbrev pub with_name : List (List ℕ) → List ℕ → List (List ℕ)
with_name names name = if is_some (place_of name names) then names else names ++ name ∷ []

-- things with this one, the first of each name
abbrev pub with_first : {A : Type 0} → (A → List ℕ) → List A → A → List A
with_first name_of xs x =
    if is_some (find (λ y. bytes_eq (name_of y) (name_of x)) xs) then xs else xs ++ x ∷ []

-- controls with this one, the first of each name
abbrev pub with_control_known : List ControlKnown → ControlKnown → List ControlKnown
with_control_known controls control = with_first (λ k. k.name) controls control

-- what is known without an event: the built-in product
abbrev pub nothing_known : KnownNow
nothing_known =
    record { users = []; cards = []; products = default_product ∷ []; controls = []; sets = []; txns = []; calls = [] }

-- what a setting makes known
abbrev pub with_setting_known : KnownNow → Input → KnownNow
with_setting_known k (input.User token user) = record k { users = with_name k.users user }
with_setting_known k (input.Card token card user product active) =
    record k { cards = with_first (λ c. c.name) k.cards (record { name = card; user = user; product = product; state = first_card_state active }) }
with_setting_known k (input.Product token product currency funding timeout_ms hold_ms) =
    record k {
      products = with_first (λ p. p.name) k.products
          (record { name = product; currency = currency; funding = funding; timeout_ms = timeout_ms; hold_ms = hold_ms });
    }
with_setting_known k (input.Control token control currency window amount_limit usage_limit association scope offset active) =
    record k { controls = with_control_known k.controls (record { name = control; window = window }) }
with_setting_known k (input.Set token set product currency connection timeout application max day_limit active) =
    record k { sets = with_name k.sets set }
with_setting_known k _ = k

-- what is known with an event's setting, if it is done
abbrev pub settled_known : KnownNow → Option Verdict → Input → KnownNow
settled_known k verdict i = if is_done verdict then with_setting_known k i else k

-- what is known as facts, at the record of this number
abbrev pub facts_known : KnownNow → ℕ → Facts
facts_known k number =
    record (core_facts no_core) { count = number; cards = k.cards; products = k.products; txns = k.txns; calls = k.calls }

-- an ask as the pass makes it
abbrev pub ask_made : Asked → Ask
ask_made a = record { event = a.event; txn = a.txn; amount = a.amount; is_first = a.first; partial = a.partial; at = a.at }

-- a purchase as an ask, on a card of a product
abbrev pub purchase_ask : Purchase → Card → Product → Ask
purchase_ask p card product =
    first_ask p.token p.amount p.partial p.at (txn_begun (facts_known nothing_known p.number) card product p.token p.currency p.mcc p.mid p.at)

-- a purchase as an ask, if its card and the product of that are known
abbrev pub first_ask_known : KnownNow → Purchase → Option Ask
first_ask_known k p = authorization_ask (facts_known k p.number) p.token p.card p.currency p.amount p.mcc p.mid p.partial p.at

-- whether a transaction is live, if it is carried
abbrev pub live_among : List Carried → List ℕ → Option Bool
live_among ts token = option_map (λ t. t.sums.live) (carried_named token ts)

-- whether a transaction is live, if it has this token
abbrev pub live_if_named : List ℕ → Carried → Option Bool
live_if_named token t = if bytes_eq t.txn token then Some t.sums.live else None

-- whether the transaction at this place is live, if it has this token
abbrev pub live_at : List Carried → ℕ → List ℕ → Option Bool
live_at ts place token = option_and_then (live_if_named token) (slice_get ts place)

-- the transaction that an ask begins, by what is said of each token
abbrev pub begun_by : (List ℕ → Option Bool) → Ask → List TxnNow
begun_by live ask =
    if ask.is_first then unwrap_or (option_map (λ l. record { txn = ask.txn; live = l } ∷ []) (live ask.txn.token)) [] else []

-- the call of an ask, if it has a mark and its product is known
abbrev pub called_by : KnownNow → Option CallState → Ask → List CallNow
called_by k mark ask = calls_marked (facts_known k 0) mark (Some ask)

-- what is known with the transaction that an ask begins
abbrev pub with_begun : (List ℕ → Option Bool) → KnownNow → Ask → KnownNow
with_begun live k ask = record k { txns = k.txns ++ begun_by live ask }

-- what is known with the call of an ask, if it has a mark and its product is known
abbrev pub with_called : KnownNow → Option CallState → Ask → KnownNow
with_called k mark ask = record k { calls = k.calls ++ called_by k mark ask }

-- what is known with an ask's transaction and its call
abbrev pub with_ask : (List ℕ → Option Bool) → KnownNow → Option CallState → Option Ask → KnownNow
with_ask live k mark None = k
with_ask live k mark (Some ask) = record k { txns = k.txns ++ begun_by live ask; calls = k.calls ++ called_by k mark ask }

-- what an event asks, by what is known
abbrev pub ask_known : KnownNow → Seen → Option Ask
ask_known k e = ask_of_event (facts_known k e.number) e.body.at e.body.input

-- what is known after an event
abbrev pub known_after : (List ℕ → Option Bool) → KnownNow → Seen → KnownNow
known_after live k e = let settled = settled_known k e.verdict e.body.input in with_ask live settled e.mark (ask_known settled e)

-- a mark is that of a call: there is an ask, and its product is known
abbrev pub is_of_call : KnownNow → Option CallState → Option Ask → Bool
is_of_call k None ask = true
is_of_call k (Some mark) None = false
is_of_call k (Some mark) (Some ask) = is_some (product_named ask.txn.product k.products)

-- an event's mark is that of its call, if it has one
abbrev pub makes_its_call : KnownNow → Seen → Bool
makes_its_call k e = let settled = settled_known k e.verdict e.body.input in is_of_call settled e.mark (ask_known settled e)

-- what is known after events, if each mark is that of a call
abbrev pub known_from : (List ℕ → Option Bool) → KnownNow → List Seen → Option KnownNow
known_from live k [] = Some k
known_from live k (e ∷ es) = if makes_its_call k e then known_from live (known_after live k e) es else None

-- the same, but a transaction only begins if it is the next listed one
abbrev pub known_in_turn : List Carried → KnownNow → List Seen → Option KnownNow
known_in_turn ts k [] = Some k
known_in_turn ts k (e ∷ es) =
    if makes_its_call k e then known_in_turn ts (known_after (live_at ts (length k.txns)) k e) es else None

-- a transaction is the listed one, and live as it is there
abbrev pub is_listed_as : Carried → TxnNow → Bool
is_listed_as t x = bytes_eq t.txn x.txn.token && both_or_neither t.sums.live x.live

-- transactions are the listed ones in their order, each live as it is there
abbrev pub are_listed : List Carried → List TxnNow → Bool
are_listed [] [] = true
are_listed [] (x ∷ xs) = false
are_listed (t ∷ ts) [] = false
are_listed (t ∷ ts) (x ∷ xs) = is_listed_as t x && are_listed ts xs

-- what is known so far, as contracts see it
abbrev pub known_in : Parts → KnownNow
known_in p =
    record {
      users = p.users;
      cards = p.cards;
      products = p.products;
      controls = p.controls;
      sets = p.sets;
      txns = p.txns;
      calls = p.calls;
    }

-- what is known, if its transactions are the listed ones
abbrev pub if_listed : List Carried → Option KnownNow → Option KnownNow
if_listed ts None = None
if_listed ts (Some k) = if are_listed ts k.txns then Some k else None

-- what events make known, if each mark is that of a call, and the transactions that they begin are the listed ones
abbrev pub read_by : List Seen → List Carried → Option KnownNow
read_by es ts = if_listed ts (known_from (live_among ts) nothing_known es)
