-- What is known of holdings at each stage of a row of acts, and that the entries of each act find there what they need.
use Rattle.std.proofs.Common.{List, [], ap, fold, not, refl, subst, sym, false, ℕ, ◌++◌, ◌∙◌, ◌∷◌, ◌≡◌, ◌≤◌, ◌-◌, inl, inr}
use Rattle.std.specs.Prelude.{None, Some}
use Rattle.iss_model.specs.declared.account.Account.TheVariants as account
use Rattle.iss_model.specs.declared.account.Part.TheVariants as part
use Rattle.iss_model.specs.declared.call.How.TheVariants as how
use Rattle.iss_model.specs.declared.call.How.{How}
use Rattle.iss_model.specs.declared.call.Method.TheVariants as method
use Rattle.iss_model.specs.declared.call.Opened.{Opened}
use Rattle.iss_model.specs.declared.decision.Reason.TheVariants as reason
use Rattle.iss_model.specs.declared.decision.Verdict.TheVariants as verdict
use Rattle.iss_model.specs.declared.entry.Entry.TheVariants as entry
use Rattle.iss_model.specs.declared.entry.Entry.{Entry}
use Rattle.iss_model.specs.declared.input.Input.{Input}
use Rattle.iss_model.specs.declared.txn.Txn.{Txn}
use Rattle.iss_model.specs.rules.Activity.{TxnNow, txn_named}
use Rattle.iss_model.specs.rules.Asks.{Ask, call_ask}
use Rattle.iss_model.specs.rules.CardReasons.{is_account_funded}
use Rattle.iss_model.specs.rules.Pieces.{Parts, abandoned_calls_entries, hold_entries, notice_entry, parts_held, post_entries, user_account}
use Rattle.iss_model.specs.rules.Reasons.{is_some_with}
use Rattle.iss_model.specs.state.Cores.{CoreState, after_entry, core_facts}
use Rattle.iss_model.specs.rules.Acts.{Abandons, Act, Asks, Begins, Clears, Ends, Fails, Funds, FundsPart, GivesBack, HoldsOwn, LetsGo, Refuses, StandsIn, TurnsDown, Uses, act_entries}
use Rattle.iss_acts.specs.Causes.{Cause, ComesOf}
use Rattle.iss_acts.specs.Sources.{IsAskedCall, IsFirstAsk, IsFurtherAsk, IsMade, IsSettledAsk, IsStart}
use Rattle.iss_acts.specs.Stages.{Frees, Fresh, Keeps, Leaves, Over, Seeks, Stage, stage_after}
use Rattle.iss_acts.proofs.Walk.{Goes, from_start, of_asked}
use Rattle.iss_acts.proofs.Passing.{both_pass, gateway_passes, passing}
use Rattle.iss_state.proofs.docket.Lists.{never}
use Rattle.iss_state.specs.Dockets.{docket_after, docket_of}
use Rattle.iss_state.specs.Well.{IsWellAmong, Known, has_live}
use Rattle.iss_state.proofs.calls.Due.{its_token}
use Rattle.iss_state.proofs.calls.Own.{begun_may, first_method, raised_may}
use Rattle.iss_state.specs.Pending.{HasTakenUp}
use Rattle.iss_state.specs.Holdings.{AllKeepHeld, IsHeldWell, is_part_of}
use Rattle.iss_state.proofs.held.Asks.{MaySettle, asked_gateway, closed_settles, declined_keeps, funded_keeps, hold_keeps, paid_keeps, part_keeps}
use Rattle.iss_state.proofs.held.Begun.{authorization_stamp, begun_stands, first_unnamed, not_live}
use Rattle.iss_state.proofs.held.Changes.{begun_sum, keep_append}
use Rattle.iss_state.proofs.held.Pieces.{HoldsJust, abandoned_calm, calm_keep, calm_leaves, clearing_leaves, its_parts, nothing_left, post_calm, release_leaves}

-- a state is well and all is held well in it, and if a cause is an input, the state has taken up its record
pub record IsReadyFor (by : Cause) (s : CoreState) : Type 0 where
  pub known : Known
  pub well : IsWellAmong known (docket_of s)
  pub held : IsHeldWell s
  pub taken : (i : Input) → by ≡ ComesOf i → HasTakenUp s i

-- What is known at each stage: who may hold more, and what a transaction holds.
abbrev pub IsKnown : CoreState → Stage → CoreState → Type 0
IsKnown s Fresh q = q ≡ s
IsKnown s (Seeks ask) q = MaySettle (docket_of q) q.holdings.parts ask
IsKnown s (Keeps t parts) q = HoldsJust q.holdings.parts t.token parts
IsKnown s (Frees t parts) q = HoldsJust q.holdings.parts t.token parts
IsKnown s (Leaves t parts) q = HoldsJust q.holdings.parts t.token parts
IsKnown s Over q = Unit {0}

-- the gateway pays the transaction of an asked call, and that of an ask which is settled without its answer
pub call_of_gateway : {o : Opened} {t : Txn} (s : CoreState) → IsHeldWell s → IsAskedCall (core_facts s) o t → is_account_funded t.funding ≡ false
call_of_gateway s held asked =
    of_asked (λ o t. is_account_funded t.funding ≡ false) asked
    (asked_gateway s asked.number asked.its asked.now held (record { stands = asked.stands; asked = asked.asked }) asked.txn_stands)

pub ask_of_gateway : {by : Cause} {at : ℕ} {ask : Ask} (s : CoreState) → IsHeldWell s → IsSettledAsk (core_facts s) by at ask → is_account_funded ask.txn.funding ≡ false
ask_of_gateway s held (inl call) = ap (λ (ask : Ask). is_account_funded ask.txn.funding) call.is ∙ call_of_gateway s held call.asked
ask_of_gateway s held (inr own) = own.1

module _ (by : Cause) (at : ℕ) (s : CoreState) (ready : IsReadyFor by s) (early : (i : Input) → by ≡ ComesOf i → at ≤ s.now) where
  -- what is known at the stage that this is
  known_at : (q : CoreState) {g h : Stage} → g ≡ h → IsKnown s g q → IsKnown s h q
  known_at q e k = subst (λ (g : Stage). IsKnown s g q) e k

  -- asks ----

  begun_settles : (ask : Ask) → IsFirstAsk (core_facts s) by at ask → IsKnown s (Seeks ask) (fold after_entry s (act_entries (Begins ask)))
  begun_settles ask first =
      record {
        its = λ p. ap (is_some_with (λ (t : TxnNow). is_part_of p t.txn.funding)) (begun_stands s.holdings.txns ask.txn none);
        may = begun_may ready.known (docket_of s) ask.txn ready.well none;
        nothing = λ first p. begun_sum s.holdings.parts ask.txn _ ∙ ready.held.ended ask.txn.token dead p;
      }
    where
      none : txn_named ask.txn.token s.holdings.txns ≡ None
      none = first_unnamed s ask ready.taken first

      dead : has_live s.holdings.txns ask.txn.token ≡ false
      dead = not_live (txn_named ask.txn.token s.holdings.txns) none

  raised_settles : (ask : Ask) → IsFurtherAsk (core_facts s) by at ask → IsKnown s (Seeks ask) (fold after_entry s (act_entries (Uses ask)))
  raised_settles ask more =
      let now : TxnNow = more.now in
      subst (λ (ask : Ask). IsKnown s (Seeks ask) (fold after_entry s (act_entries (Uses ask)))) (sym more.made)
      (record {
        its = λ p. ap (is_some_with (λ (t : TxnNow). is_part_of p t.txn.funding)) (ap (λ (k : List ℕ). txn_named k s.holdings.txns) (its_token s.holdings.txns more.txn now more.stands) ∙ more.stands);
        may = raised_may more.currency (Some ask) s more.txn now more.stands more.none;
        nothing = never;
      })

  closed : (o : Opened) (t : Txn) → IsAskedCall (core_facts s) o t → (w : How) → MaySettle (docket_after (docket_of s) (entry.Closed o.call w)) s.holdings.parts (call_ask o t)
  closed o t asked w =
      of_asked (λ o t. MaySettle (docket_after (docket_of s) (entry.Closed o.call w)) s.holdings.parts (call_ask o t)) asked
      (closed_settles ready.known s asked.number asked.its asked.now w ready.well ready.held (record { stands = asked.stands; asked = asked.asked }) asked.txn_stands)

  -- each act ----

  known_next : (g : Stage) (q : CoreState) (a : Act) → IsMade (core_facts s) by at g a → IsKnown s g q → IsKnown s (stage_after g a) (fold after_entry q (act_entries a))
  known_next g q (Begins ask) made k = subst (λ (q : CoreState). IsKnown s (Seeks ask) (fold after_entry q (act_entries (Begins ask)))) (sym (known_at q made.from.0 k)) (begun_settles ask made.from.1)
  known_next g q (Uses ask) made k = subst (λ (q : CoreState). IsKnown s (Seeks ask) (fold after_entry q (act_entries (Uses ask)))) (sym (known_at q made.from.0 k)) (raised_settles ask made.from.1)
  known_next g q (Fails number o t why) made k =
      subst (λ (q : CoreState). IsKnown s (Seeks (call_ask o t)) (fold after_entry q (act_entries (Fails number o t why)))) (sym (known_at q made.from.0 k)) (closed o t made.from.1 (how.Failed why))
  known_next g q (Clears t parts amount when) made k = (clearing_leaves q t parts amount when (its_parts_at q t parts made.from.2 (known_at q made.from.0 k))).just
    where
      its_parts_at : (q : CoreState) (t : Txn) (parts : Parts) → parts ≡ parts_held (core_facts s) t → q ≡ s → HoldsJust q.holdings.parts t.token parts
      its_parts_at q t parts e same = subst (λ (q : CoreState). HoldsJust q.holdings.parts t.token parts) (sym same) (subst (HoldsJust s.holdings.parts t.token) (sym e) (its_parts s t ready.held))
  known_next g q (Abandons number t why calls parts) made k = (calm_leaves q (abandoned_calls_entries number t why calls) t.token parts (abandoned_calm number t why calls) (known_at q made.from.0 k)).just
  known_next g q (LetsGo t parts amount) made k = (release_leaves q t parts amount (known_at q made.from.0 k)).just
  known_next g q _ made k = tt

  act_keeps : (g : Stage) (q : CoreState) (a : Act) → IsMade (core_facts s) by at g a → IsKnown s g q → AllKeepHeld q (act_entries a)
  act_keeps g q (Begins ask) made k = (subst (λ (q : CoreState). ask.txn.at ≤ q.now) (sym (known_at q made.from.0 k)) (stamp made.from.1), (tt, tt))
    where
      stamp : IsFirstAsk (core_facts s) by at ask → ask.txn.at ≤ s.now
      stamp first =
          subst (λ (n : ℕ). n ≤ s.now) (sym (authorization_stamp (core_facts s) first.token first.card first.currency first.amount first.mcc first.mid first.partial at ask first.made)) (early _ first.its_input)
  act_keeps g q (HoldsOwn ask) made k =
      let settles = known_at q made.from.0 k in
      keep_append q (hold_entries ask.txn part.S ask.amount) (entry.Decided ask.event verdict.Approved ∷ []) (hold_keeps q ask.txn part.S ask.amount settles.may (settles.its part.S ∙ made.from.2)) (tt, tt)
  act_keeps g q (Asks f product ask) made k =
      let settles = known_at q made.from.0 k in
      ((λ h. settles.nothing (first_method ask.is_first h), settles.its part.G ∙ ap not made.from.3), tt)
  act_keeps g q (Funds o t) made k =
      subst (λ (q : CoreState). AllKeepHeld q (act_entries (Funds o t))) (sym (known_at q made.from.0 k))
      (tt, funded_keeps _ (call_ask o t) (account.Gateway t.currency) part.G (closed o t made.from.1 how.Funded) (ap not (call_of_gateway s ready.held made.from.1)))
  act_keeps g q (FundsPart o t amount) made k =
      subst (λ (q : CoreState). AllKeepHeld q (act_entries (FundsPart o t amount))) (sym (known_at q made.from.0 k))
      (tt, part_keeps _ o t amount (closed o t made.from.1 (how.Partial amount)) (ap not (call_of_gateway s ready.held made.from.1)))
  act_keeps g q (Refuses o t) made k =
      subst (λ (q : CoreState). AllKeepHeld q (act_entries (Refuses o t))) (sym (known_at q made.from.0 k)) (tt, declined_keeps _ (call_ask o t) reason.GatewayDeclined (closed o t made.from.1 how.Refused))
  act_keeps g q (StandsIn number ask when set) made k =
      let stood : Entry = entry.Stood set.name ask.txn.product ask.txn.user ask.amount when in
      let t : Txn = ask.txn in
      let settles = known_at q made.from.0 k in (
        tt,
        keep_append (after_entry q stood) (post_entries t (account.Programme t.currency) (user_account t) ask.amount ++ hold_entries t part.P ask.amount)
            (notice_entry number method.StandIn t None ask.amount 0 ∷ entry.Decided ask.event verdict.Approved ∷ [])
            (paid_keeps (after_entry q stood) t (account.Programme t.currency) part.P ask.amount settles.may (settles.its part.P ∙ ap not (ask_of_gateway s ready.held made.from.1))) (tt, (tt, tt)),
      )
  act_keeps g q (TurnsDown ask why) made k = declined_keeps q ask why (known_at q made.from.0 k)
  act_keeps g q (Abandons number t why calls parts) made k = calm_keep q (abandoned_calls_entries number t why calls) (abandoned_calm number t why calls)
  act_keeps g q (LetsGo t parts amount) made k = (release_leaves q t parts amount (known_at q made.from.0 k)).keeps
  act_keeps g q (Ends t) made k = (nothing_left q.holdings.parts t.token made.from.0.parts made.from.0.none (known_at q made.from.0.here k), tt)
  act_keeps g q (Clears t parts amount when) made k =
      (clearing_leaves q t parts amount when
      (subst (λ (q : CoreState). HoldsJust q.holdings.parts t.token parts) (sym (known_at q made.from.0 k)) (subst (HoldsJust s.holdings.parts t.token) (sym made.from.2) (its_parts s t ready.held)))).keeps
  act_keeps g q (GivesBack t amount programme) made k =
      calm_keep q (act_entries (GivesBack t amount programme))
      (both_pass (post_calm t (account.Network t.currency) (user_account t) amount)
      (gateway_passes t (both_pass (post_calm t (user_account t) (account.Programme t.currency) programme) (post_calm t (user_account t) (account.Gateway t.currency) (amount - programme)))))
  act_keeps g q a made k = calm_keep q (act_entries a) (passing refl)

  pub all_keep : Goes (fold after_entry) (core_facts s) by at (IsKnown s) (λ g q es. AllKeepHeld q es)
  all_keep = record { none = λ g q k. tt; next = known_next; then = λ g q a es made k rest. keep_append q (act_entries a) es (act_keeps g q a made k) rest }

  -- a row starts with what is known of the state
  pub start_known : (g : Stage) → IsStart (core_facts s) g → IsKnown s g s
  start_known = from_start (λ g. IsKnown s g s) refl (λ t its. its_parts s t ready.held)
