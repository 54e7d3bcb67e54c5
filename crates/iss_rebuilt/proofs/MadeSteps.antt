-- A step makes of its event what is made of it again, and so do all legal records.
use Rattle.std.proofs.Common.{◌≡◌, ◌∙◌, ◌++◌, ◌∷◌, ◌&&◌, ◌+◌, ℕ, ap, append-nil, Bool, cond, false, find, fold, length, List, [], map, refl, subst, sym, true}
use Rattle.std.specs.Prelude.{Option, Some, None, is_some, unwrap_or}
use Rattle.std.specs.List.{list_any}
use Rattle.std.specs.Str.{bytes_eq}
use Rattle.std.proofs.lemmas.Bool.{false_from_ne_true}
use Rattle.std.proofs.lemmas.List.Sums.{fold-append}
use Rattle.iss_model.specs.declared.call.Opened.{Opened}
use Rattle.iss_model.specs.declared.entry.Entry.{Entry}
use Rattle.iss_model.specs.declared.input.Input.{Input}
use Rattle.iss_model.specs.declared.input.Input.TheVariants as input
use Rattle.iss_model.specs.declared.input.Record.{Record}
use Rattle.iss_model.specs.declared.txn.Txn.{Txn}
use Rattle.iss_model.specs.Inputs.{event_token, is_event, is_text}
use Rattle.iss_model.specs.rules.Activity.{CallNow, TxnNow, txn_named}
use Rattle.iss_model.specs.rules.Asks.{Ask}
use Rattle.iss_model.specs.rules.Due.{DueItem, DueThing, due_items, thing_entries}
use Rattle.iss_model.specs.rules.Facts.{Accepted, Decision, Facts, verdict_in}
use Rattle.iss_model.specs.rules.Histories.{IsLegal}
use Rattle.iss_model.specs.rules.Keeper.{Growth}
use Rattle.iss_model.specs.rules.Stepping.{after_due, own_entries, step}
use Rattle.iss_model.specs.state.Cores.{CoreState, ProductNow, after_entry, after_setting, core_facts, core_keeper, core_of, no_core, with_record}
use Rattle.iss_model.proofs.Lists.{map-map, map-same, neither}
use Rattle.iss_model.proofs.Names.{name-sym, one_name}
use Rattle.iss_acts.proofs.Stepping.{due_stays}
use Rattle.iss_state.specs.Pending.{IsWell}
use Rattle.iss_state.specs.Sound.{IsNewEvent, is_accepted}
use Rattle.iss_state.proofs.calls.Legal.{nothing_well}
use Rattle.iss_state.proofs.calls.Steps.{ready_taken, step_well}
use Rattle.iss_state.proofs.docket.Closing.{StandsItself, all_stand}
use Rattle.iss_state.proofs.docket.Lists.{Each, each_weaker, not_both, some_mapped}
use Rattle.iss_state.proofs.effects.Finds.{find-map}
use Rattle.iss_state.proofs.invariants.Legal.{legal_induction}
use Rattle.iss_states.specs.Rebuilding.{ask_of_event, is_done}
use Rattle.iss_states.specs.Settled.{WereJudged, set_again, set_part, sets_something, with_done}
use Rattle.iss_states.specs.Showing.{token_of_event}
use Rattle.iss_states.proofs.Decided.{due_count, step_takes_up}
use Rattle.iss_states.proofs.Judged.{step_judged}
use Rattle.iss_states.proofs.Purchases.{due_makes_none}
use Rattle.iss_states.proofs.SetAgain.{unaccepted_any}
use Rattle.iss_states.proofs.SetSteps.{StandsSet, step_set, swept}
use Rattle.iss_rebuilt.specs.Purchases.{HasCallsAgain, HasTxnsAgain}
use Rattle.iss_rebuilt.proofs.Made.{AskAlike, Made, Words, as_asked, as_live, first_calls, first_txns, has_call, has_txn, length_map, made_again, made_facts, made_set, nothing_made, same_ask, same_calls, with_made_of, words_of}
use Rattle.iss_rebuilt.proofs.MadeEntries.{Grows, Makes, begun_in, entries_grow, grows_then, none_begun, none_opened, opened_in, own_makes, stays}
use Rattle.iss_rebuilt.proofs.MadeShown.{IsMade, calls_rebuilt, txns_rebuilt}
use Rattle.iss_rebuilt.proofs.MadeWords.{sets_stay, no_ask, Untouched, made_stays, begun_told, begun_other, opened_told, opened_other, ask_of}

-- a new event has no words ----

no_txn_yet : (c : CoreState) (token : List ℕ) → IsWell c → is_accepted c.accepted token ≡ false → has_txn (words_of c).txns token ≡ false
no_txn_yet c token well new =
    ap is_some (find-map (λ (t : Txn). bytes_eq t.token token) (λ (t : TxnNow). bytes_eq t.txn.token token) (λ (t : TxnNow). t.txn) (λ t. refl) c.holdings.txns)
    ∙ some_mapped (λ (t : TxnNow). t.txn) (txn_named token c.holdings.txns)
    ∙ false_from_ne_true (is_some (txn_named token c.holdings.txns)) (λ h. not_both (is_accepted c.accepted token) (well.docket.txns.events token h) new)

none_passes : {A : Type 0} (p : A → Bool) (xs : List A) → Each (λ x. p x ≡ false) xs → find p xs ≡ None
none_passes p [] h = refl
none_passes p (x ∷ xs) h = ap (λ (b : Bool). cond b (Some x) (find p xs)) h.0 ∙ none_passes p xs h.1

no_call_yet : (c : CoreState) (token : List ℕ) → IsWell c → is_accepted c.accepted token ≡ false → has_call (words_of c).calls token ≡ false
no_call_yet c token well new =
    ap is_some (find-map (λ (o : Opened). bytes_eq o.event token) (λ (x : CallNow). bytes_eq x.opened.event token) (λ (x : CallNow). x.opened) (λ x. refl) c.calls)
    ∙ some_mapped (λ (x : CallNow). x.opened) (find (λ x. bytes_eq x.opened.event token) c.calls)
    ∙ ap is_some (none_passes (λ (x : CallNow). bytes_eq x.opened.event token) c.calls (each_weaker (StandsItself c.calls) (λ x. bytes_eq x.opened.event token ≡ false) other c.calls (all_stand c.calls well.docket.calls.numbers)))
  where
    other : (x : CallNow) → StandsItself c.calls x → bytes_eq x.opened.event token ≡ false
    other x stands =
        false_from_ne_true (bytes_eq x.opened.event token)
        (λ h. not_both (is_accepted c.accepted token) (ap (is_accepted c.accepted) (sym (one_name x.opened.event token h)) ∙ well.docket.calls.events x.opened.call.0 x stands) new)

-- the tokens of these events are others
apart_events : (token : List ℕ) (xs : List Accepted) → list_any (λ a. is_event token a.input) xs ≡ false → Each (λ a. (k : List ℕ) → event_token a.input ≡ Some k → bytes_eq token k ≡ false) xs
apart_events token [] h = tt
apart_events token (a ∷ xs) h =
    let parts = neither (is_event token a.input) (list_any (λ a. is_event token a.input) xs) h in
    (λ k e. name-sym token k ∙ sym (ap (is_text token) e) ∙ parts.0, apart_events token xs parts.1)

-- the record's own event ----

abbrev row_of : CoreState → Record → Accepted
row_of c r = record { number = c.count + 1; at = r.at; input = r.input }

-- an event asks alike on two facts, and its call is alike
record AsksAlike (g f : Facts) (at : ℕ) (i : Input) : Type 0 where
  asked : ask_of_event g at i ≡ ask_of_event f at i
  called : (b : Bool) → first_calls g b (ask_of_event g at i) ≡ first_calls f b (ask_of_event f at i)

asks_alike : (g f : Facts) (at : ℕ) (i : Input) → AskAlike g f → AsksAlike g f at i
asks_alike g f at i h =
    record { asked = same_ask g f at i h; called = λ b. ap (first_calls g b) (same_ask g f at i h) ∙ same_calls g f b (ask_of_event f at i) h }

asks_nothing : (g f : Facts) (at : ℕ) (i : Input) → sets_something i ≡ true → AsksAlike g f at i
asks_nothing g f at (input.Authorization token card currency amount mcc mid partial) h = cc
asks_nothing g f at (input.Increment token txn currency amount) h = cc
asks_nothing g f at _ h = record { asked = refl; called = λ b. refl }

map_live : (ts : List Txn) → map (λ (t : TxnNow). t.txn) (map as_live ts) ≡ ts
map_live ts = map-map as_live (λ (t : TxnNow). t.txn) ts ∙ map-same (λ (t : Txn). t) (λ t. refl) ts

each_of : {A : Type 0} (P : A → Type 0) → ((x : A) → P x) → (xs : List A) → Each P xs
each_of P h [] = tt
each_of P h (x ∷ xs) = (h x, each_of P h xs)

-- What stands when a record's own entries have come: what is due is settled, and made nothing.
record IsTaken (c : CoreState) (r : Record) (due w : CoreState) (es : List Entry) : Type 0 where
  grown : Grows c due [] []
  set : set_again c.decisions c.accepted ≡ set_part due
  count : due.count ≡ c.count + 1
  own : Grows due w (begun_in es) (opened_in es)
  makes : Makes (core_facts due) (ask_of_event (core_facts due) r.at r.input) es

module _ (c due w : CoreState) (r : Record) (es : List Entry) (well : IsWell c) (judged : WereJudged c.decisions no_core c.accepted) (made : IsMade (words_of c) c.accepted) (now : IsTaken c r due w es) where
  abbrev T : List Txn
  T = (words_of c).txns

  abbrev O : List Opened
  O = (words_of c).calls

  abbrev W : Words
  W = words_of w

  abbrev f : Facts
  f = core_facts due

  abbrev ask : Option Ask
  ask = ask_of_event (core_facts due) r.at r.input

  abbrev M : Made
  M = made_again (words_of c) c.accepted

  all : Grows c w (begun_in es) (opened_in es)
  all = grows_then now.grown now.own

  txns_after : W.txns ≡ T ++ first_txns now.makes.begins ask
  txns_after = all.txns ∙ ap (λ (ts : List Txn). T ++ ts) now.makes.begun

  calls_after : W.calls ≡ O ++ first_calls f now.makes.opens ask
  calls_after = all.calls ∙ ap (λ (os : List Opened). O ++ os) now.makes.opened

  abbrev s : CoreState
  s = with_done w.decisions M.set (row_of c r)

  abbrev g : Facts
  g = made_facts s M.txns M.calls (c.count + 1)

  set_made : M.set ≡ set_part due
  set_made = made_set (words_of c) nothing_made c.accepted ∙ now.set

  alike : s ≡ M.set → AskAlike g f
  alike plain =
      record {
        cards = ap (λ (x : CoreState). x.cardholders.cards) (plain ∙ set_made);
        products = ap (λ (x : CoreState). map (λ (p : ProductNow). p.product) x.products) (plain ∙ set_made);
        count = sym now.count;
        txns = map_live M.txns ∙ made.txns ∙ sym (now.grown.txns ∙ append-nil T);
        calls =
            length_map as_asked M.calls ∙ ap (λ (os : List Opened). length os) (made.calls ∙ sym (now.grown.calls ∙ append-nil O)) ∙ length_map (λ (x : CallNow). x.opened) due.calls;
      }

  asks : AsksAlike g f r.at r.input
  asks = by (sets_something r.input) refl
    where
      plain : (done b : Bool) → b ≡ false → cond (done && b) (set_part (after_setting (record (M.set) { count = c.count + 1 }) r.input)) M.set ≡ M.set
      plain true true e = cc
      plain true false e = refl
      plain false b e = refl

      by : (b : Bool) → sets_something r.input ≡ b → AsksAlike g f r.at r.input
      by true e = asks_nothing g f r.at r.input e
      by false e = asks_alike g f r.at r.input (alike (plain (is_done (verdict_in w.decisions (token_of_event (row_of c r)))) (sets_something r.input) e))

  before_stays : Untouched (words_of c) W c.accepted → made_again W c.accepted ≡ M
  before_stays same = made_stays (words_of c) W all.more no_core nothing_made c.accepted all.decisions judged same

  none_after : event_token r.input ≡ None → IsMade W c.accepted
  none_after e =
      let none : ask ≡ None = no_ask f r.at r.input e in
      let same_txns : W.txns ≡ T = txns_after ∙ ap (λ (x : Option Ask). T ++ first_txns now.makes.begins x) none ∙ append-nil T in
      let same_calls_of : W.calls ≡ O = calls_after ∙ ap (λ (x : Option Ask). O ++ first_calls f now.makes.opens x) none ∙ append-nil O in
      let same = before_stays (each_of (λ a. (k : List ℕ) → event_token a.input ≡ Some k → (has_txn W.txns k ≡ has_txn T k) × (has_call W.calls k ≡ has_call O k))
      (λ a k e. (ap (λ (ts : List Txn). has_txn ts k) same_txns, ap (λ (os : List Opened). has_call os k) same_calls_of)) c.accepted) in
      record { txns = ap (λ (m : Made). m.txns) same ∙ made.txns ∙ sym same_txns; calls = ap (λ (m : Made). m.calls) same ∙ made.calls ∙ sym same_calls_of }

  module _ (token : List ℕ) (e : event_token r.input ≡ Some token) (new : is_accepted c.accepted token ≡ false) where
    its : token_of_event (row_of c r) ≡ token
    its = ap (λ (o : Option (List ℕ)). unwrap_or o []) e

    untouched : Untouched (words_of c) W c.accepted
    untouched =
        each_weaker (λ a. (k : List ℕ) → event_token a.input ≡ Some k → bytes_eq token k ≡ false)
        (λ a. (k : List ℕ) → event_token a.input ≡ Some k → (has_txn W.txns k ≡ has_txn T k) × (has_call W.calls k ≡ has_call O k))
        (λ a other k is. (
          ap (λ (ts : List Txn). has_txn ts k) txns_after ∙ begun_other T token ask (ask_of f r.at r.input token e) now.makes.begins k (other k is),
          ap (λ (os : List Opened). has_call os k) calls_after ∙ opened_other f O token ask (ask_of f r.at r.input token e) now.makes.opens k (other k is),
        )) c.accepted (apart_events token c.accepted (unaccepted_any c.accepted token new))

    last : made_again W (c.accepted ++ row_of c r ∷ []) ≡ with_made_of W M (row_of c r)
    last = fold-append (with_made_of W) nothing_made c.accepted (row_of c r ∷ []) ∙ ap (λ (m : Made). with_made_of W m (row_of c r)) (before_stays untouched)

    last_txns : (with_made_of W M (row_of c r)).txns ≡ W.txns
    last_txns =
        ap (λ (ts : List Txn). ts ++ first_txns (has_txn W.txns (token_of_event (row_of c r))) (ask_of_event g r.at r.input)) made.txns
        ∙ ap (λ (x : Option Ask). T ++ first_txns (has_txn W.txns (token_of_event (row_of c r))) x) asks.asked
        ∙ ap (λ (k : List ℕ). T ++ first_txns (has_txn W.txns k) ask) its
        ∙ ap (λ (ts : List Txn). T ++ first_txns (has_txn ts token) ask) txns_after
        ∙ ap (λ (ts : List Txn). T ++ ts) (begun_told T token ask (ask_of f r.at r.input token e) now.makes.begins (no_txn_yet c token well new))
        ∙ sym txns_after

    last_calls : (with_made_of W M (row_of c r)).calls ≡ W.calls
    last_calls =
        ap (λ (os : List Opened). os ++ first_calls g (has_call W.calls (token_of_event (row_of c r))) (ask_of_event g r.at r.input)) made.calls
        ∙ ap (λ (os : List Opened). O ++ os) (asks.called (has_call W.calls (token_of_event (row_of c r))))
        ∙ ap (λ (k : List ℕ). O ++ first_calls f (has_call W.calls k) ask) its
        ∙ ap (λ (os : List Opened). O ++ first_calls f (has_call os token) ask) calls_after
        ∙ ap (λ (os : List Opened). O ++ os) (opened_told f O token ask (ask_of f r.at r.input token e) now.makes.opens (no_call_yet c token well new))
        ∙ sym calls_after

    some_after : IsMade W (c.accepted ++ row_of c r ∷ [])
    some_after = record { txns = ap (λ (m : Made). m.txns) last ∙ last_txns; calls = ap (λ (m : Made). m.calls) last ∙ last_calls }

  made_after : IsNewEvent c r.input → (o : Option (List ℕ)) → event_token r.input ≡ o → IsMade W (c.accepted ++ cond (is_some o) (row_of c r ∷ []) [])
  made_after new None e = subst (IsMade W) (sym (append-nil c.accepted)) (none_after e)
  made_after new (Some token) e = some_after token e (new token e)

-- a step ----

settled_grows : (c : CoreState) (at : ℕ) (d : CoreState) (thing : DueThing) → Grows c d [] [] → Grows c (fold after_entry d (thing_entries thing at (core_facts d))) [] []
settled_grows c at d thing h =
    let es : List Entry = thing_entries thing at (core_facts d) in
    let none = (due_makes_none (core_facts d) thing at).all in
    subst (λ (ts : List Txn). Grows c (fold after_entry d es) ts []) (none_begun es none)
    (subst (λ (os : List Opened). Grows c (fold after_entry d es) (begun_in es) os) (none_opened es none) (grows_then h (entries_grow d es)))

pub step_made : (c : CoreState) (r : Record) → IsNewEvent c r.input → IsWell c → set_part c ≡ set_again c.decisions c.accepted → WereJudged c.decisions no_core c.accepted → IsMade (words_of c) c.accepted
    → IsMade (words_of (step core_keeper c r).world) (step core_keeper c r).world.accepted
unfolding step
step_made c r new well same judged made =
    let up : CoreState = with_record c r in
    let start : Growth CoreState = record { world = up; entries = [] } in
    let items : List DueItem = due_items (core_facts up) r.at in
    let due : CoreState = (after_due core_keeper up r.at).world in
    let stands : StandsSet c.accepted r.input due = swept c.accepted r.input r.at start items (record { ready = ready_taken c r well new; set = same }) in
    let grown : Grows c due [] [] = due_stays (λ d. Grows c d [] []) r.at (settled_grows c r.at) up (stays c up refl refl refl) in
    let es : List Entry = own_entries r (core_facts due) in
    let w : CoreState = fold after_entry due es in
    let taken : IsTaken c r due w es = record {
      grown = grown;
      set = sym (stands.set ∙ ap (λ (ds : List Decision). set_again ds c.accepted) grown.decisions ∙ sets_stay c.decisions grown.more no_core no_core c.accepted judged);
      count = due_count r.at start items;
      own = entries_grow due es;
      makes = own_makes (core_facts due) r.at r.input;
    } in
    subst (IsMade (words_of w)) (sym (step_takes_up c r).accepted) (made_after c due w r es well judged made taken new (event_token r.input) refl)

-- all records ----

record IsMadeWell (rs : List Record) (c : CoreState) : Type 0 where
  well : IsWell c
  set : set_part c ≡ set_again c.decisions c.accepted
  judged : WereJudged c.decisions no_core c.accepted
  made : IsMade (words_of c) c.accepted

legal_made : (rs : List Record) → IsLegal rs → IsMadeWell rs (core_of rs)
legal_made rs legal =
    legal_induction IsMadeWell (record { well = nothing_well; set = refl; judged = tt; made = record { txns = refl; calls = refl } })
    (λ rs r new h. record {
      well = step_well (core_of rs) r new h.well;
      set = step_set (core_of rs) r new h.well h.set;
      judged = step_judged (core_of rs) r new h.well h.set h.judged;
      made = step_made (core_of rs) r new h.well h.set h.judged h.made;
    }) rs legal

pub legal_txns_rebuilt : (rs : List Record) → IsLegal rs → HasTxnsAgain (core_of rs)
legal_txns_rebuilt rs legal = let h = legal_made rs legal in txns_rebuilt (core_of rs) h.well h.made

pub legal_calls_rebuilt : (rs : List Record) → IsLegal rs → HasCallsAgain (core_of rs)
legal_calls_rebuilt rs legal = let h = legal_made rs legal in calls_rebuilt (core_of rs) h.well h.made
