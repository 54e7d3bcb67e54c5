-- What each act tells is of a transaction that stands and that the gateway pays, and what it voids is a call of that.
use Rattle.std.proofs.Common.{◌≡◌, ◌∙◌, ◌+◌, ◌∷◌, ◌&&◌, ℕ, ap, Bool, cond, false, filter, fold, List, [], nat_eq, not, refl, subst, sym, true}
use Rattle.std.specs.Prelude.{Option, Some, None}
use Rattle.std.specs.Str.{bytes_eq}
use Rattle.std.proofs.lemmas.Bool.{and_parts}
use Rattle.iss_model.specs.declared.call.CallId.{CallId}
use Rattle.iss_model.specs.declared.call.Method.{Method}
use Rattle.iss_model.specs.declared.call.Method.TheVariants as method
use Rattle.iss_model.specs.declared.call.Notice.{Notice}
use Rattle.iss_model.specs.declared.call.Opened.{Opened}
use Rattle.iss_model.specs.declared.decision.Reason.{Reason}
use Rattle.iss_model.specs.declared.entry.Entry.{Entry}
use Rattle.iss_model.specs.declared.entry.Entry.TheVariants as entry
use Rattle.iss_model.specs.declared.txn.Txn.{Txn}
use Rattle.iss_model.specs.Currencies.{iso_number}
use Rattle.iss_model.specs.rules.Activity.{CallNow, TxnNow, call_numbered, is_asked, txn_named}
use Rattle.iss_model.specs.rules.Acts.{Abandons, Act, Begins, Fails, StandsIn, Tells, Uses, act_entries, news_method}
use Rattle.iss_model.specs.rules.Asks.{Ask}
use Rattle.iss_model.specs.rules.CardReasons.{is_account_funded}
use Rattle.iss_model.specs.rules.Facts.{asked_calls_of}
use Rattle.iss_model.specs.rules.Pieces.{abandoned_calls_entries}
use Rattle.iss_model.specs.rules.Reasons.{is_some_with}
use Rattle.iss_model.specs.state.Cores.{CoreState, after_entry, call_after_close, core_facts, is_live}
use Rattle.iss_model.proofs.Names.{one_name, same_name}
use Rattle.iss_acts.specs.Causes.{Cause}
use Rattle.iss_acts.specs.Sources.{IsAskedCall, IsFirstAsk, IsMade, IsStart, IsTxnOf}
use Rattle.iss_acts.specs.Stages.{Fresh, Seeks, Stage, stage_after}
use Rattle.iss_acts.proofs.Passing.{EachPasses, both_pass, none_passes, one_passes, two_pass, where_passes}
use Rattle.iss_acts.proofs.Walk.{Goes, from_start, txn_of_ask, txn_of_call}
use Rattle.iss_state.proofs.calls.Due.{its_token}
use Rattle.iss_state.proofs.docket.Closing.{StandsItself, all_stand, its_number, same_opened, stands_after}
use Rattle.iss_state.proofs.docket.Lists.{Each, both_so}
use Rattle.iss_state.proofs.effects.Effects.{setting_calls}
use Rattle.iss_state.proofs.effects.Finds.{same_number}
use Rattle.iss_state.proofs.held.Acts.{IsReadyFor, ask_of_gateway, call_of_gateway}
use Rattle.iss_state.proofs.held.Begun.{begun_stands, first_unnamed}
use Rattle.iss_states.proofs.Found.{entry_keeps, find_stays}
use Rattle.iss_noticed.specs.Addressed.{is_call_of, is_of_gateway_txn, names_its_call, names_its_txn}
use Rattle.iss_noticed.proofs.KeptNotices.{AllTold, Lasts, lasts_on, passes_told, silent_passes, tells, told_append}

-- a notice is addressed, by the transactions and the calls of a core
abbrev pub is_addressed : CoreState → Notice → Bool
is_addressed s n = names_its_txn s.holdings.txns n && names_its_call s.calls n

-- what is addressed stays so ----

calls_stay : (s : CoreState) (e : Entry) (k : ℕ) (c : CallNow) → call_numbered k s.calls ≡ Some c → (d : CallNow) × (call_numbered k (after_entry s e).calls ≡ Some d) × (d.opened ≡ c.opened)
calls_stay s (entry.Conf i) k c h = (c, ap (call_numbered k) (setting_calls s i) ∙ h, refl)
calls_stay s (entry.Opened o) k c h = (c, find_stays (λ (x : CallNow). nat_eq x.opened.call.0 k) s.calls (record { opened = o; how = None } ∷ []) c h, refl)
calls_stay s (entry.Closed call how) k c h = (call_after_close call.0 how c, stands_after s.calls call.0 how k c h, same_opened call.0 how c)
calls_stay s _ k c h = (c, h, refl)

txn_lasts : (s : CoreState) (e : Entry) (n : Notice) → names_its_txn s.holdings.txns n ≡ true → names_its_txn (after_entry s e).holdings.txns n ≡ true
txn_lasts s e n h = by (txn_named n.txn s.holdings.txns) refl h
  where
    by : (o : Option TxnNow) → txn_named n.txn s.holdings.txns ≡ o → is_some_with (λ now. is_of_gateway_txn n now.txn) o ≡ true → names_its_txn (after_entry s e).holdings.txns n ≡ true
    by None f g = cc
    by (Some now) f g =
        let later = (entry_keeps s e).txns n.txn now f in
        ap (is_some_with (λ (now : TxnNow). is_of_gateway_txn n now.txn)) later.1 ∙ ap (is_of_gateway_txn n) later.2 ∙ g

call_lasts : (s : CoreState) (e : Entry) (txn : List ℕ) (o : Option CallId) → is_call_of s.calls txn o ≡ true → is_call_of (after_entry s e).calls txn o ≡ true
call_lasts s e txn None h = refl
call_lasts s e txn (Some call) h = by (call_numbered call.0 s.calls) refl h
  where
    by : (o : Option CallNow) → call_numbered call.0 s.calls ≡ o → is_some_with (λ c. bytes_eq c.opened.txn txn) o ≡ true
        → is_some_with (λ c. bytes_eq c.opened.txn txn) (call_numbered call.0 (after_entry s e).calls) ≡ true
    by None f g = cc
    by (Some c) f g =
        let later = calls_stay s e call.0 c f in
        ap (is_some_with (λ (c : CallNow). bytes_eq c.opened.txn txn)) later.1 ∙ ap (λ (o : Opened). bytes_eq o.txn txn) later.2 ∙ g

pub address_lasts : Lasts is_addressed
address_lasts s e n h =
    let both = and_parts (names_its_txn s.holdings.txns n) (names_its_call s.calls n) h in
    both_so (names_its_txn (after_entry s e).holdings.txns n) (names_its_call (after_entry s e).calls n) (txn_lasts s e n both.0) (call_lasts s e n.txn n.call both.1)

-- a notice of a transaction that stands ----

-- a transaction stands in a core
pub record Stands (s : CoreState) (t : Txn) : Type 0 where
  pub now : TxnNow
  pub named : txn_named t.token s.holdings.txns ≡ Some now
  pub same : now.txn ≡ t

of_facts : (s : CoreState) (t : Txn) → IsTxnOf (core_facts s) t → Stands s t
of_facts s t its =
    record {
      now = its.now;
      named = ap (λ (k : List ℕ). txn_named k s.holdings.txns) (sym (ap (λ (x : Txn). x.token) its.same) ∙ its_token s.holdings.txns its.token its.now its.stands) ∙ its.stands;
      same = its.same;
    }

-- a notice as it is made for a transaction
abbrev notice_of : ℕ → Method → Txn → Option CallId → ℕ → ℕ → Notice
notice_of number m t call amount gateway =
    record { number = number; method = m; txn = t.token; user = t.user; currency = t.currency; call = call; amount = amount; gateway = gateway }

names_txn : (s : CoreState) (n : Notice) (t : Txn) → Stands s t → is_account_funded t.funding ≡ false → n.txn ≡ t.token → n.user ≡ t.user → iso_number n.currency ≡ iso_number t.currency
    → names_its_txn s.holdings.txns n ≡ true
names_txn s n t stands paid of_txn of_user of_currency =
    ap (λ (k : List ℕ). is_some_with (λ (now : TxnNow). is_of_gateway_txn n now.txn) (txn_named k s.holdings.txns)) of_txn
    ∙ ap (is_some_with (λ (now : TxnNow). is_of_gateway_txn n now.txn)) stands.named
    ∙ ap (is_of_gateway_txn n) stands.same
    ∙ both_so (not (is_account_funded t.funding) && bytes_eq t.user n.user) (nat_eq (iso_number t.currency) (iso_number n.currency))
    (both_so (not (is_account_funded t.funding)) (bytes_eq t.user n.user) (ap not paid) (same_name t.user n.user (sym of_user)))
    (ap (λ (c : ℕ). nat_eq (iso_number t.currency) c) of_currency ∙ same_number (iso_number t.currency))

-- without a call
addressed : (s : CoreState) (number : ℕ) (m : Method) (t : Txn) (amount gateway : ℕ) → Stands s t → is_account_funded t.funding ≡ false → is_addressed s (notice_of number m t None amount gateway) ≡ true
addressed s number m t amount gateway stands paid =
    both_so (names_its_txn s.holdings.txns (notice_of number m t None amount gateway)) true (names_txn s (notice_of number m t None amount gateway) t stands paid refl refl refl) refl

-- with an asked call
voided : (s : CoreState) (number : ℕ) (t : Txn) (o : Opened) → IsAskedCall (core_facts s) o t → is_account_funded t.funding ≡ false
    → is_addressed s (notice_of number method.Void t (Some o.call) o.amount 0) ≡ true
voided s number t o asked paid =
    both_so (names_its_txn s.holdings.txns n) (names_its_call s.calls n) (names_txn s n t (of_facts s t (txn_of_call asked)) paid refl refl refl)
    (ap (λ (k : ℕ). is_some_with (λ (c : CallNow). bytes_eq c.opened.txn t.token) (call_numbered k s.calls)) number_is_its
    ∙ ap (is_some_with (λ (c : CallNow). bytes_eq c.opened.txn t.token)) asked.stands
    ∙ same_name asked.its.opened.txn t.token (sym (its_token s.holdings.txns asked.its.opened.txn asked.now asked.txn_stands) ∙ ap (λ (x : Txn). x.token) asked.same))
  where
    n : Notice
    n = notice_of number method.Void t (Some o.call) o.amount 0

    number_is_its : o.call.0 ≡ asked.number
    number_is_its = ap (λ (x : Opened). x.call.0) (sym asked.opened) ∙ its_number s.calls asked.number asked.its asked.stands

-- calls of a transaction that are abandoned ----

module _ (by : Cause) (at : ℕ) (s : CoreState) (ready : IsReadyFor by s) where
  asked_call : (t : Txn) → IsTxnOf (core_facts s) t → (c : CallNow) → StandsItself s.calls c → (is_asked c && bytes_eq c.opened.txn t.token) ≡ true → IsAskedCall (core_facts s) c.opened t
  asked_call t its c stands h =
      let both = and_parts (is_asked c) (bytes_eq c.opened.txn t.token) h in
      let here : Stands s t = of_facts s t its in
      record {
        number = c.opened.call.0;
        its = c;
        stands = stands;
        asked = both.0;
        opened = refl;
        now = here.now;
        txn_stands = ap (λ (k : List ℕ). txn_named k s.holdings.txns) (one_name c.opened.txn t.token both.1) ∙ here.named;
        same = here.same;
      }

  -- the asked calls of a transaction, among calls that stand
  each_asked : (t : Txn) → IsTxnOf (core_facts s) t → (xs : List CallNow) → Each (StandsItself s.calls) xs → Each (λ c. IsAskedCall (core_facts s) c.opened t) (filter (λ c. is_asked c && bytes_eq c.opened.txn t.token) xs)
  each_asked t its [] h = tt
  each_asked t its (c ∷ xs) h = by_test (is_asked c && bytes_eq c.opened.txn t.token) refl (each_asked t its xs h.1)
    where
      by_test : (b : Bool) → (is_asked c && bytes_eq c.opened.txn t.token) ≡ b → Each (λ c. IsAskedCall (core_facts s) c.opened t) (filter (λ c. is_asked c && bytes_eq c.opened.txn t.token) xs)
          → Each (λ c. IsAskedCall (core_facts s) c.opened t)
          (cond b (c ∷ filter (λ c. is_asked c && bytes_eq c.opened.txn t.token) xs) (filter (λ c. is_asked c && bytes_eq c.opened.txn t.token) xs))
      by_test true e rest = (asked_call t its c h.0 e, rest)
      by_test false e rest = rest

  pub abandoned_asked : (t : Txn) → IsTxnOf (core_facts s) t → (calls : List CallNow) → calls ≡ asked_calls_of (core_facts s) t.token → Each (λ c. IsAskedCall (core_facts s) c.opened t) calls
  abandoned_asked t its calls same =
      subst (λ (cs : List CallNow). Each (λ c. IsAskedCall (core_facts s) c.opened t) cs) (sym same) (each_asked t its s.calls (all_stand s.calls ready.well.calls.numbers))

  abandoned : (number : ℕ) (t : Txn) (why : Reason) (calls : List CallNow) (q : CoreState) → ((n : Notice) → is_addressed s n ≡ true → is_addressed q n ≡ true)
      → Each (λ c. IsAskedCall (core_facts s) c.opened t) calls → EachPasses (tells (is_addressed q)) (abandoned_calls_entries number t why calls)
  abandoned number t why [] q later h = none_passes
  abandoned number t why (c ∷ calls) q later h =
      two_pass refl (two_pass (later (notice_of number method.Void t (Some c.opened.call) c.opened.amount 0) (voided s number t c.opened h.0 (call_of_gateway s ready.held h.0))) (two_pass refl (two_pass refl (abandoned (number + 1) t why calls q later h.1))))

  -- stages ----

  -- what is known at each stage: nothing is made yet, or an ask's transaction stands
  abbrev pub IsAskKnown : Stage → CoreState → Type 0
  IsAskKnown Fresh q = q ≡ s
  IsAskKnown (Seeks ask) q = Stands q ask.txn
  IsAskKnown _ q = Unit {0}

  -- what is addressed at a row's start is addressed at each stage
  pub record IsKnown (g : Stage) (q : CoreState) : Type 0 where
    pub later : (n : Notice) → is_addressed s n ≡ true → is_addressed q n ≡ true
    pub ask : IsAskKnown g q

  fresh : {g : Stage} (q : CoreState) → g ≡ Fresh → IsKnown g q → q ≡ s
  fresh q e k = subst (λ (g : Stage). IsAskKnown g q) e k.ask

  begun : (ask : Ask) → IsFirstAsk (core_facts s) by at ask → Stands (fold after_entry s (act_entries (Begins ask))) ask.txn
  begun ask first = record { now = record { txn = ask.txn; live = is_live s.holdings.txns ask.txn.token }; named = begun_stands s.holdings.txns ask.txn (first_unnamed s ask ready.taken first); same = refl }

  ask_next : (g : Stage) (q : CoreState) (a : Act) → IsMade (core_facts s) by at g a → IsKnown g q → IsAskKnown (stage_after g a) (fold after_entry q (act_entries a))
  ask_next g q (Begins ask) made k = subst (λ (q : CoreState). Stands (fold after_entry q (act_entries (Begins ask))) ask.txn) (sym (fresh q made.from.0 k)) (begun ask made.from.1)
  ask_next g q (Uses ask) made k = subst (λ (q : CoreState). Stands (fold after_entry q (act_entries (Uses ask))) ask.txn) (sym (fresh q made.from.0 k)) (raised (of_facts s ask.txn (txn_of_ask made.from.1)))
    where
      raised : Stands s ask.txn → Stands (fold after_entry s (act_entries (Uses ask))) ask.txn
      raised here = record { now = here.now; named = here.named; same = here.same }
  ask_next g q (Fails number o t why) made k = subst (λ (q : CoreState). Stands (fold after_entry q (act_entries (Fails number o t why))) t) (sym (fresh q made.from.0 k)) (asked_for (of_facts s t (txn_of_call made.from.1)))
    where
      asked_for : Stands s t → Stands (fold after_entry s (act_entries (Fails number o t why))) t
      asked_for here = record { now = here.now; named = here.named; same = here.same }
  ask_next g q _ made k = tt

  known_next : (g : Stage) (q : CoreState) (a : Act) → IsMade (core_facts s) by at g a → IsKnown g q → IsKnown (stage_after g a) (fold after_entry q (act_entries a))
  known_next g q a made k = record { later = λ n h. lasts_on is_addressed address_lasts q (act_entries a) n (k.later n h); ask = ask_next g q a made k }

  act_tells : (g : Stage) (q : CoreState) (a : Act) → IsMade (core_facts s) by at g a → IsKnown g q → EachPasses (tells (is_addressed q)) (act_entries a)
  act_tells g q (Fails number o t why) made k =
      two_pass refl (one_passes (k.later (notice_of number method.Void t (Some o.call) o.amount 0) (voided s number t o made.from.1 (call_of_gateway s ready.held made.from.1))))
  act_tells g q (StandsIn number ask when set) made k =
      let here : Stands q ask.txn = subst (λ (g : Stage). IsAskKnown g q) made.from.0 k.ask in
      two_pass refl
      (both_pass (both_pass (where_passes ask.amount (one_passes refl)) (where_passes ask.amount (one_passes refl)))
      (two_pass (addressed q number method.StandIn ask.txn ask.amount 0 here (ask_of_gateway s ready.held made.from.1)) (one_passes refl)))
  act_tells g q (Abandons number t why calls parts) made k =
      abandoned number t why calls q k.later (abandoned_asked t made.from.1 calls made.from.2)
  act_tells g q (Tells number news t amount gateway) made k =
      one_passes (k.later (notice_of number (news_method news) t None amount gateway) (addressed s number (news_method news) t amount gateway (of_facts s t made.from.0) made.from.1))
  act_tells g q a made k = silent_passes (is_addressed q) a refl refl refl

  pub all_addressed : Goes (fold after_entry) (core_facts s) by at IsKnown (λ g q es. AllTold is_addressed q es)
  all_addressed = record { none = λ g q k. tt; next = known_next; then = λ g q a es made k rest. told_append is_addressed q (act_entries a) es (passes_told is_addressed address_lasts q (act_entries a) (act_tells g q a made k)) rest }

  -- a row starts with what is known of the state
  pub start_known : (g : Stage) → IsStart (core_facts s) g → IsKnown g s
  start_known = from_start (λ g. IsKnown g s) (record { later = λ n h. h; ask = refl }) (λ t its. record { later = λ n h. h; ask = tt })
