-- Whatever is approved was asked for: each ask, and each call, is of an accepted event that asks for its transaction and its amount.
use Rattle.std.proofs.Common.{◌≡◌, ◌∙◌, ◌++◌, ◌∷◌, ◌⊎◌, ◌+◌, ℕ, ap, Bool, cond, false, fold, inl, inr, List, [], nat_eq, refl, subst, sym, true}
use Rattle.std.specs.Prelude.{Option, Some, None, is_some, option_map, unwrap_or}
use Rattle.std.specs.List.{list_all}
use Rattle.std.specs.Str.{bytes_eq}
use Rattle.iss_model.specs.declared.call.CallState.{CallState}
use Rattle.iss_model.specs.declared.call.Opened.{Opened}
use Rattle.iss_model.specs.declared.entry.Entry.{Entry}
use Rattle.iss_model.specs.declared.entry.Entry.TheVariants as entry
use Rattle.iss_model.specs.declared.input.Input.{Input}
use Rattle.iss_model.specs.declared.input.Input.TheVariants as input
use Rattle.iss_model.specs.declared.input.Record.{Record}
use Rattle.iss_model.specs.declared.setting.Product.{Product}
use Rattle.iss_model.specs.declared.state.Carried.{Carried}
use Rattle.iss_model.specs.declared.state.Seen.{Seen}
use Rattle.iss_model.specs.declared.state.State.{State}
use Rattle.iss_model.specs.declared.txn.Txn.{Txn}
use Rattle.iss_model.specs.Inputs.{event_token}
use Rattle.iss_model.specs.rules.Activity.{CallNow, TxnNow, call_numbered, txn_named}
use Rattle.iss_model.specs.rules.Acts.{Act, Asks, act_entries}
use Rattle.iss_model.specs.rules.Asks.{Ask}
use Rattle.iss_model.specs.rules.CardReasons.{first_ask, further_ask, txn_asked}
use Rattle.iss_model.specs.rules.Facts.{Accepted, Facts}
use Rattle.iss_model.specs.rules.Pieces.{call_for}
use Rattle.iss_model.specs.rules.Settings.{product_named}
use Rattle.iss_model.specs.state.Cores.{CoreState, after_entry, after_setting, core_facts, no_core, with_record}
use Rattle.iss_model.proofs.Names.{its_name, same_name}
use Rattle.iss_acts.specs.Causes.{Cause, ComesOf}
use Rattle.iss_acts.specs.Items.{Item, Opening, has_item, item_entry}
use Rattle.iss_acts.specs.Sources.{IsAskedCall, IsMade, IsOwnAsk, IsSettledAsk}
use Rattle.iss_acts.specs.Stages.{Stage}
use Rattle.iss_acts.proofs.Passing.{EachPasses, act_passes}
use Rattle.iss_acts.proofs.Walk.{Holds, of_asked}
use Rattle.iss_state.proofs.calls.Due.{its_token}
use Rattle.iss_state.proofs.docket.Closing.{opened_before}
use Rattle.iss_state.proofs.docket.Entering.{call_more}
use Rattle.iss_state.proofs.docket.Lists.{Each, by_either, each_weaker, either_found, inside}
use Rattle.iss_state.proofs.effects.Effects.{setting_calls}
use Rattle.iss_state.proofs.held.Begun.{authorization_token}
use Rattle.iss_state.proofs.invariants.Kept.{entries_accepted}
use Rattle.iss_states.specs.Again.{amount_of_event}
use Rattle.iss_states.specs.Rebuilding.{ask_of_event, calls_marked, how_of_mark, is_done, rebuilt, with_event, with_seen}
use Rattle.iss_states.specs.Showing.{accepted_of_seen}
use Rattle.iss_well_formed.proofs.OwnEvents.{each_append}
use Rattle.iss_decided.specs.Approved.{is_ask_of}

-- events among those that were accepted ----

-- one of these events has a property
abbrev pub Among : (Input → Type 0) → List Accepted → Type 0
Among P [] = ⊥
Among P (a ∷ xs) = P a.input ⊎ Among P xs

among_weaker : (P Q : Input → Type 0) → ((i : Input) → P i → Q i) → (xs : List Accepted) → Among P xs → Among Q xs
among_weaker P Q so [] h = h
among_weaker P Q so (a ∷ xs) (inl h) = inl (so a.input h)
among_weaker P Q so (a ∷ xs) (inr h) = inr (among_weaker P Q so xs h)

pub among_still : (P : Input → Type 0) (xs ys : List Accepted) → Among P xs → Among P (xs ++ ys)
among_still P [] ys h = absurd h
among_still P (a ∷ xs) ys (inl h) = inl h
among_still P (a ∷ xs) ys (inr h) = inr (among_still P xs ys h)

among_last : (P : Input → Type 0) (xs : List Accepted) (a : Accepted) → P a.input → Among P (xs ++ a ∷ [])
among_last P [] a h = inl h
among_last P (x ∷ xs) a h = inr (among_last P xs a h)

-- an input is an event that asks for an amount for a transaction
pub record IsAskFor (event txn : List ℕ) (amount : ℕ) (i : Input) : Type 0 where
  pub its : bytes_eq event (unwrap_or (event_token i) []) ≡ true
  pub of_txn : is_ask_of txn i ≡ true
  pub asks : amount_of_event i ≡ amount

-- such an event was accepted
abbrev pub WasAsked : List Accepted → List ℕ → List ℕ → ℕ → Type 0
WasAsked xs event txn amount = Among (IsAskFor event txn amount) xs

-- the event of an input was accepted, if it has one
abbrev pub IsTakenIn : Input → List Accepted → Type 0
IsTakenIn i xs = (token : List ℕ) → event_token i ≡ Some token → Among (λ j. j ≡ i) xs

pub taken_in : (c : CoreState) (r : Record) → IsTakenIn r.input (with_record c r).accepted
taken_in c r token e =
    let row : Accepted = record { number = c.count + 1; at = r.at; input = r.input } in
    subst (λ (o : Option (List ℕ)). Among (λ j. j ≡ r.input) (c.accepted ++ cond (is_some o) (row ∷ []) [])) (sym e) (among_last (λ j. j ≡ r.input) c.accepted row refl)

-- asks ----

-- what an input asks for
pub is_its_ask : (f : Facts) (at : ℕ) (i : Input) (x : Ask) → ask_of_event f at i ≡ Some x → IsAskFor x.event x.txn.token x.amount i
is_its_ask f at (input.Authorization token card currency amount mcc mid partial) x e =
    let its = by (txn_asked f token card currency mcc mid at) e in
    record {
      its = same_name x.event token its.0;
      of_txn = same_name token x.txn.token (sym (authorization_token f token card currency amount mcc mid partial at x e));
      asks = sym its.1;
    }
  where
    by : (o : Option Txn) → option_map (first_ask token amount partial at) o ≡ Some x → (x.event ≡ token) × (x.amount ≡ amount)
    by None e = cc
    by (Some t) e = (ap (λ (y : Ask). y.event) (sym (inside e)), ap (λ (y : Ask). y.amount) (sym (inside e)))
is_its_ask f at (input.Increment token txn currency amount) x e = by (txn_named txn f.txns) refl e
  where
    by : (o : Option TxnNow) → txn_named txn f.txns ≡ o → option_map (λ now. further_ask token amount at now.txn) o ≡ Some x → IsAskFor x.event x.txn.token x.amount (input.Increment token txn currency amount)
    by None g e = cc
    by (Some now) g e =
        subst (λ (y : Ask). IsAskFor y.event y.txn.token y.amount (input.Increment token txn currency amount)) (inside e)
        (record { its = its_name token; of_txn = same_name txn now.txn.token (sym (its_token f.txns txn now g)); asks = refl })
is_its_ask f at _ x e = cc

-- a cause's own ask
pub own_asked : {by : Cause} {at : ℕ} {ask : Ask} (s : CoreState) → ((i : Input) → by ≡ ComesOf i → IsTakenIn i s.accepted) → IsOwnAsk (core_facts s) by at ask → WasAsked s.accepted ask.event ask.txn.token ask.amount
own_asked {at = at} {ask = ask} s taken (inl first) =
    let i : Input = input.Authorization first.token first.card first.currency first.amount first.mcc first.mid first.partial in
    among_weaker (λ j. j ≡ i) (IsAskFor ask.event ask.txn.token ask.amount)
    (λ j e. subst (IsAskFor ask.event ask.txn.token ask.amount) (sym e) (is_its_ask (core_facts s) at i ask first.made))
    s.accepted (taken i first.its_input first.token refl)
own_asked {at = at} {ask = ask} s taken (inr more) =
    let i : Input = input.Increment more.token more.txn more.currency more.amount in
    let made : ask_of_event (core_facts s) at i ≡ Some ask =
    ap (option_map (λ (now : TxnNow). further_ask more.token more.amount at now.txn)) more.stands ∙ ap (λ (x : Ask). Some x) (sym more.made)
    in
    among_weaker (λ j. j ≡ i) (IsAskFor ask.event ask.txn.token ask.amount)
    (λ j e. subst (IsAskFor ask.event ask.txn.token ask.amount) (sym e) (is_its_ask (core_facts s) at i ask made))
    s.accepted (taken i more.its_input more.token refl)

-- calls ----

-- each call is of such an event
abbrev pub CallsWereAsked : CoreState → Type 0
CallsWereAsked c = (n : ℕ) (x : CallNow) → call_numbered n c.calls ≡ Some x → WasAsked c.accepted x.opened.event x.opened.txn x.opened.amount

pub call_asked : {o : Opened} {t : Txn} (s : CoreState) → CallsWereAsked s → IsAskedCall (core_facts s) o t → WasAsked s.accepted o.event t.token o.amount
call_asked s h asked =
    of_asked (λ (o : Opened) (t : Txn). WasAsked s.accepted o.event t.token o.amount) asked
    (subst (λ (k : List ℕ). WasAsked s.accepted asked.its.opened.event k asked.its.opened.amount) (sym (its_token s.holdings.txns asked.its.opened.txn asked.now asked.txn_stands)) (h asked.number asked.its asked.stands))

pub settled_asked : {by : Cause} {at : ℕ} {ask : Ask} (s : CoreState) → ((i : Input) → by ≡ ComesOf i → IsTakenIn i s.accepted) → CallsWereAsked s → IsSettledAsk (core_facts s) by at ask
    → WasAsked s.accepted ask.event ask.txn.token ask.amount
settled_asked s taken h (inl call) = subst (λ (x : Ask). WasAsked s.accepted x.event x.txn.token x.amount) (sym call.is) (call_asked s h call.asked)
settled_asked s taken h (inr own) = own_asked s taken own.0

-- entries ----

-- a call that an entry opens is of such an event
abbrev OpensAsked : List Accepted → Entry → Type 0
OpensAsked xs (entry.Opened o) = WasAsked xs o.event o.txn o.amount
OpensAsked xs _ = Unit {0}

pub record AllOpenAsked (xs : List Accepted) (es : List Entry) : Type 0 where
  pub all : Each (OpensAsked xs) es

abbrev opens_none : Entry → Bool
opens_none (entry.Opened o) = false
opens_none _ = true

none_opened : (xs : List Accepted) (es : List Entry) → list_all opens_none es ≡ true → Each (OpensAsked xs) es
none_opened xs [] h = tt
none_opened xs (entry.Opened o ∷ es) h = cc
none_opened xs (e ∷ es) h = (tt, none_opened xs es h)

abbrev is_no_call : Act → Bool
is_no_call (Asks f product ask) = false
is_no_call _ = true

no_opening : (a : Act) → is_no_call a ≡ true → (x : Item) → has_item a x ≡ true → opens_none (item_entry x) ≡ true
no_opening (Asks f product ask) plain x has = cc
no_opening a plain (Opening o) has = cc
no_opening a plain _ has = refl

opening_none : (a : Act) → is_no_call a ≡ true → EachPasses opens_none (act_entries a)
opening_none a plain = act_passes a (no_opening a plain)

both_open : {xs : List Accepted} {es fs : List Entry} → AllOpenAsked xs es → AllOpenAsked xs fs → AllOpenAsked xs (es ++ fs)
both_open {xs} {es} {fs} h k = record { all = each_append (OpensAsked xs) es fs h.all k.all }

act_asked : {by : Cause} {at : ℕ} (s : CoreState) → ((i : Input) → by ≡ ComesOf i → IsTakenIn i s.accepted) → (g : Stage) (a : Act) → IsMade (core_facts s) by at g a → AllOpenAsked s.accepted (act_entries a)
act_asked s taken g (Asks f product ask) made = record { all = (own_asked s taken made.from.2, tt) }
act_asked s taken g a made = record { all = none_opened s.accepted (act_entries a) (opening_none a refl).all }

pub act_opens : {by : Cause} {at : ℕ} (s : CoreState) → ((i : Input) → by ≡ ComesOf i → IsTakenIn i s.accepted) → Holds (core_facts s) by at (AllOpenAsked s.accepted)
act_opens s taken = record { none = record { all = tt }; then = both_open; act = act_asked s taken }

entry_asked : (s : CoreState) (e : Entry) → OpensAsked s.accepted e → CallsWereAsked s → CallsWereAsked (after_entry s e)
entry_asked s (entry.Conf i) opens h = λ n x e.
    subst (λ (xs : List Accepted). WasAsked xs x.opened.event x.opened.txn x.opened.amount) (sym (entries_accepted s (entry.Conf i ∷ []))) (h n x (ap (call_numbered n) (sym (setting_calls s i)) ∙ e))
entry_asked s (entry.Opened o) opens h = λ n x e.
    let new : CallNow = record { opened = o; how = None } in
    by_either {C = WasAsked s.accepted x.opened.event x.opened.txn x.opened.amount} (λ old. h n x old)
    (λ same. subst (λ (y : CallNow). WasAsked s.accepted y.opened.event y.opened.txn y.opened.amount) same.1 opens)
    (either_found (call_numbered n s.calls) new x (nat_eq o.call.0 n) (sym (call_more n s.calls new) ∙ e))
entry_asked s (entry.Closed call how) opens h = λ n x e.
    let was = opened_before s.calls call.0 how n x e in
    subst (λ (o : Opened). WasAsked s.accepted o.event o.txn o.amount) was.2 (h n was.0 was.1)
entry_asked s a opens h = h

pub entries_asked : (s : CoreState) (es : List Entry) → AllOpenAsked s.accepted es → CallsWereAsked s → CallsWereAsked (fold after_entry s es)
entries_asked s es opens h = all s es opens.all h
  where
    all : (s : CoreState) (es : List Entry) → Each (OpensAsked s.accepted) es → CallsWereAsked s → CallsWereAsked (fold after_entry s es)
    all s [] opens h = h
    all s (e ∷ es) opens h =
        all (after_entry s e) es (subst (λ (xs : List Accepted). Each (OpensAsked xs) es) (sym (entries_accepted s (e ∷ []))) opens.1) (entry_asked s e opens.0 h)

-- a core that is made again ----

abbrev IsOfAsk : List Accepted → CallNow → Type 0
IsOfAsk xs x = WasAsked xs x.opened.event x.opened.txn x.opened.amount

settled_accepted : (b : Bool) (c : CoreState) (i : Input) → (cond b (after_setting c i) c).accepted ≡ c.accepted
settled_accepted true c i = entries_accepted c (entry.Conf i ∷ [])
settled_accepted false c i = refl

settled_calls : (b : Bool) (c : CoreState) (i : Input) → (cond b (after_setting c i) c).calls ≡ c.calls
settled_calls true c i = setting_calls c i
settled_calls false c i = refl

marked_asked : (f : Facts) (mark : Option CallState) (e : Seen) (xs : List Accepted) → Each (IsOfAsk (xs ++ accepted_of_seen e ∷ [])) (calls_marked f mark (ask_of_event f e.body.at e.body.input))
marked_asked f None e xs = tt
marked_asked f (Some mark) e xs = by (ask_of_event f e.body.at e.body.input) refl
  where
    sold : (x : Ask) → ask_of_event f e.body.at e.body.input ≡ Some x → (o : Option Product)
        → Each (IsOfAsk (xs ++ accepted_of_seen e ∷ [])) (unwrap_or (option_map (λ product. record { opened = call_for f product x; how = how_of_mark mark } ∷ []) o) [])
    sold x g None = tt
    sold x g (Some product) = (among_last (IsAskFor x.event x.txn.token x.amount) xs (accepted_of_seen e) (is_its_ask f e.body.at e.body.input x g), tt)

    by : (o : Option Ask) → ask_of_event f e.body.at e.body.input ≡ o → Each (IsOfAsk (xs ++ accepted_of_seen e ∷ [])) (calls_marked f (Some mark) o)
    by None g = tt
    by (Some x) g = sold x g (product_named x.txn.product f.products)

seen_asked : (ts : List Carried) (c : CoreState) (e : Seen) → Each (IsOfAsk c.accepted) c.calls → Each (IsOfAsk (with_seen ts c e).accepted) (with_seen ts c e).calls
seen_asked ts c e h =
    let settled : CoreState = cond (is_done e.verdict) (after_setting (with_event c e) e.body.input) (with_event c e) in
    let f : Facts = core_facts settled in
    let later : List Accepted = c.accepted ++ accepted_of_seen e ∷ [] in
    let accepted : settled.accepted ≡ later = settled_accepted (is_done e.verdict) (with_event c e) e.body.input in
    let calls : settled.calls ≡ c.calls = settled_calls (is_done e.verdict) (with_event c e) e.body.input in
    let marked : List CallNow = calls_marked f e.mark (ask_of_event f e.body.at e.body.input) in
    let still : Each (IsOfAsk later) c.calls =
    each_weaker (IsOfAsk c.accepted) (IsOfAsk later) (λ x k. among_still (IsAskFor x.opened.event x.opened.txn x.opened.amount) c.accepted (accepted_of_seen e ∷ []) k) c.calls h
    in
    subst (λ (xs : List Accepted). Each (IsOfAsk xs) (settled.calls ++ marked)) (sym accepted)
    (each_append (IsOfAsk later) settled.calls marked (subst (Each (IsOfAsk later)) (sym calls) still) (marked_asked f e.mark e c.accepted))

all_seen_asked : (ts : List Carried) (c : CoreState) (es : List Seen) → Each (IsOfAsk c.accepted) c.calls → Each (IsOfAsk (fold (with_seen ts) c es).accepted) (fold (with_seen ts) c es).calls
all_seen_asked ts c [] h = h
all_seen_asked ts c (e ∷ es) h = all_seen_asked ts (with_seen ts c e) es (seen_asked ts c e h)

numbered_of_each : (P : CallNow → Type 0) (n : ℕ) (xs : List CallNow) (c : CallNow) → Each P xs → call_numbered n xs ≡ Some c → P c
numbered_of_each P n [] c h e = cc
numbered_of_each P n (x ∷ xs) c h e = by (nat_eq x.opened.call.0 n) e (λ f. numbered_of_each P n xs c h.1 f)
  where
    by : (b : Bool) → cond b (Some x) (call_numbered n xs) ≡ Some c → (call_numbered n xs ≡ Some c → P c) → P c
    by true e rest = subst P (inside e) h.0
    by false e rest = rest e

pub asked_again : (s : State) → CallsWereAsked (rebuilt s)
asked_again s n x e = numbered_of_each (IsOfAsk (rebuilt s).accepted) n (rebuilt s).calls x (all_seen_asked s.txns no_core s.events tt) e
