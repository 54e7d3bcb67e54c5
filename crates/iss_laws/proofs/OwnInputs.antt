-- What is due and what each kind of input makes adds to a user's balance what it adds to what the user owns.
use Rattle.std.proofs.Common.{subst, ◌≡◌, ℕ, ℤ, pos, neg_ℤ, ◌+ℤ◌, ◌+◌, ◌-◌, min, Bool, true, false, not, cond, List, [], ◌∷◌, ◌++◌, fold, refl, sym, ap, ◌∙◌, arith}
use Rattle.std.proofs.lemmas.Int.{ints}
use Rattle.std.specs.Prelude.{Option, Some, None, option_map}
use Rattle.std.specs.List.{list_all}
use Rattle.std.specs.Option.{option_or}
use Rattle.std.specs.Str.{bytes_eq}
use Rattle.iss_model.specs.declared.account.Account.TheVariants as account
use Rattle.iss_model.specs.declared.account.Part.{Part}
use Rattle.iss_model.specs.declared.account.Part.TheVariants as part
use Rattle.iss_model.specs.declared.call.How.TheVariants as how
use Rattle.iss_model.specs.declared.call.Method.TheVariants as method
use Rattle.iss_model.specs.declared.currency.Currency.{Currency}
use Rattle.iss_model.specs.declared.decision.Reason.{Reason}
use Rattle.iss_model.specs.declared.decision.Reason.TheVariants as reason
use Rattle.iss_model.specs.declared.decision.Verdict.TheVariants as verdict
use Rattle.iss_model.specs.declared.entry.Entry.{Entry}
use Rattle.iss_model.specs.declared.entry.Entry.TheVariants as entry
use Rattle.iss_model.specs.declared.input.Input.{Input}
use Rattle.iss_model.specs.declared.input.Input.TheVariants as input
use Rattle.iss_model.specs.declared.setting.Funding.{Funding}
use Rattle.iss_model.specs.declared.setting.Moved.TheVariants as moved
use Rattle.iss_model.specs.declared.txn.Txn.{Txn}
use Rattle.iss_model.specs.Sums.{user_key}
use Rattle.iss_model.specs.rules.Activity.{TxnNow, CallNow, txn_named}
use Rattle.iss_model.specs.rules.Asks.{Ask, ask_given_back, call_ask, rest_given_back}
use Rattle.iss_model.specs.rules.Pieces.{owed_to_programme, abandoned_calls_entries, declined_ask_entries, hold_entries, notice_entry, parts_held, post_entries, user_account, load_entries}
use Rattle.iss_model.specs.rules.CardReasons.{is_account_funded}
use Rattle.iss_model.specs.rules.Due.{DueThing, thing_entries}
use Rattle.iss_model.specs.rules.Facts.{not_below}
use Rattle.iss_model.specs.rules.Reasons.{is_some_with}
use Rattle.iss_model.specs.rules.Stepping.{entries_of}
use Rattle.iss_model.specs.state.Cores.{CoreState, after_entry, after_setting, core_facts, is_live, txn_after_end}
use Rattle.iss_state.proofs.docket.Entering.{same_txn, txn_more}
use Rattle.iss_state.specs.Pending.{HasTakenUp}
use Rattle.iss_state.proofs.calls.Due.{its_token}
use Rattle.iss_state.specs.Holdings.{IsHeldWell, is_part_of, part_sum}
use Rattle.std.proofs.lemmas.List.Sums.{fold-append}
use Rattle.iss_model.specs.declared.account.Account.{Account}
use Rattle.iss_model.specs.rules.Acts.{Abandons, Act, Begins, Clears, Fails, Funds, FundsPart, GivesBack, HoldsOwn, LetsGo, Loads, Refuses, StandsIn, TurnsDown, Uses, act_entries}
use Rattle.iss_acts.specs.Causes.{Cause, ComesOf, FallsDue}
use Rattle.iss_acts.specs.Sources.{IsMade, IsStart, IsTxnOf}
use Rattle.iss_acts.specs.Stages.{Fresh, Seeks, Stage, stage_after}
use Rattle.iss_acts.proofs.Walk.{Goes, due_goes, from_start, own_goes, txn_of_ask, txn_of_call}
use Rattle.iss_state.proofs.docket.Lists.{inside}
use Rattle.iss_state.specs.Dockets.{docket_of}
use Rattle.iss_state.specs.Well.{IsWellAmong, Known}
use Rattle.iss_state.proofs.held.Acts.{IsReadyFor, ask_of_gateway, call_of_gateway}
use Rattle.iss_state.proofs.held.Begun.{begun_stands, first_unnamed}
use Rattle.iss_state.proofs.held.Changes.{txn_ended}
use Rattle.iss_state.proofs.held.Inputs.{due_ready, input_ready}
use Rattle.iss_laws.proofs.OwnPieces.{Adds, AddsSame, AreOfFunding, amount_where, back_to_gateway, back_to_programme, both_add, both_same, calm_adds, calm_same, clearing_same, comes_same, either_same, from_gateway, from_network, from_programme, more_held, moves_nothing, none_same, release_same, within_funding}

-- the funding of transactions ----

-- the funding of the transaction of a token
abbrev pub funding_of : List TxnNow → List ℕ → Option Funding
funding_of txns token = option_map (λ t. t.txn.funding) (txn_named token txns)

-- a test of tokens tells of each transaction that stands whether the user's own balance pays it
pub record Agrees (own : List ℕ → Bool) (txns : List TxnNow) : Type 0 where
  pub at : (token : List ℕ) (f : Funding) → funding_of txns token ≡ Some f → own token ≡ is_account_funded f

mapped_or : (o more : Option TxnNow) (f : Funding) → option_map (λ t. t.txn.funding) o ≡ Some f → option_map (λ t. t.txn.funding) (option_or o more) ≡ Some f
mapped_or None more f e = cc
mapped_or (Some t) more f e = e

mapped_end : (token : List ℕ) (o : Option TxnNow) → option_map (λ t. t.txn.funding) (option_map (txn_after_end token) o) ≡ option_map (λ t. t.txn.funding) o
mapped_end token None = refl
mapped_end token (Some t) = ap (λ (x : Txn). Some x.funding) (same_txn token t)

setting_funding : (s : CoreState) (i : Input) (token : List ℕ) (f : Funding) → funding_of s.holdings.txns token ≡ Some f → funding_of (after_setting s i).holdings.txns token ≡ Some f
setting_funding s (input.Move event (moved.Card card to)) token f e = e
setting_funding s (input.Move event (moved.User user to)) token f e = e
setting_funding s _ token f e = e

entry_funding : (s : CoreState) (e : Entry) (token : List ℕ) (f : Funding) → funding_of s.holdings.txns token ≡ Some f → funding_of (after_entry s e).holdings.txns token ≡ Some f
entry_funding s (entry.Conf i) token f e = setting_funding s i token f e
entry_funding s (entry.Began t) token f e =
    let x : TxnNow = record { txn = t; live = is_live s.holdings.txns t.token } in
    ap (option_map (λ (t : TxnNow). t.txn.funding)) (txn_more token s.holdings.txns x) ∙ mapped_or (txn_named token s.holdings.txns) (cond (bytes_eq t.token token) (Some x) None) f e
entry_funding s (entry.Ended txn) token f e = ap (option_map (λ (t : TxnNow). t.txn.funding)) (txn_ended txn token s.holdings.txns) ∙ mapped_end txn (txn_named token s.holdings.txns) ∙ e
entry_funding s _ token f e = e

entries_funding : (s : CoreState) (es : List Entry) (token : List ℕ) (f : Funding) → funding_of s.holdings.txns token ≡ Some f → funding_of (fold after_entry s es).holdings.txns token ≡ Some f
entries_funding s [] token f e = e
entries_funding s (e ∷ es) token f h = entries_funding (after_entry s e) es token f (entry_funding s e token f h)

-- what agrees after entries agrees before them
pub agrees_before : (own : List ℕ → Bool) (s : CoreState) (es : List Entry) → Agrees own (fold after_entry s es).holdings.txns → Agrees own s.holdings.txns
agrees_before own s es h = record { at = λ token f e. h.at token f (entries_funding s es token f e) }

-- a transaction of the facts stands with its funding
its_funding : (s : CoreState) (t : Txn) → IsTxnOf (core_facts s) t → funding_of s.holdings.txns t.token ≡ Some t.funding
its_funding s t its =
    subst (λ (t : Txn). funding_of s.holdings.txns t.token ≡ Some t.funding) its.same
    (ap (funding_of s.holdings.txns) (its_token s.holdings.txns its.token its.now its.stands) ∙ ap (option_map (λ (t : TxnNow). t.txn.funding)) its.stands)

module _ (own : List ℕ → Bool) (key : List ℕ) where
  -- what a transaction of the facts holds is such as its funding makes it
  parts_of_funding : (s : CoreState) (t : Txn) → IsHeldWell s → IsTxnOf (core_facts s) t → own t.token ≡ is_account_funded t.funding → AreOfFunding own key t (parts_held (core_facts s) t)
  parts_of_funding s t held of_facts its =
      record {
        own_alone = λ e. omega (arith, none part.G (ap not (sym its ∙ e)), none part.P (ap not (sym its ∙ e)));
        others = λ e. none part.S (sym its ∙ e);
      }
    where
      found : (p : Part) (now : Option TxnNow) → option_map (λ t. t.txn.funding) now ≡ Some t.funding → is_some_with (λ (t : TxnNow). is_part_of p t.txn.funding) now ≡ is_part_of p t.funding
      found p None e = cc
      found p (Some now) e = ap (is_part_of p) (inside e)

      none : (p : Part) → is_part_of p t.funding ≡ false → not_below (part_sum s.holdings.parts t.token p) ≡ 0
      none p e = ap not_below (held.funded t.token p (found p (txn_named t.token s.holdings.txns) (its_funding s t of_facts) ∙ e))

  -- asks ----

  declined_same : (ask : Ask) (why : Reason) → AddsSame own key (declined_ask_entries ask why)
  declined_same ask why =
      both_same {xs = entry.Usage (ask_given_back ask) ∷ []} (calm_same refl)
      (both_same (either_same ask.is_first {xs = entry.Ended ask.txn.token ∷ []} (calm_same refl) none_same) (calm_same {es = entry.Decided ask.event (verdict.Declined why) ∷ []} refl))

  paid_sum : (a b : Bool) (n : ℕ) → a ≡ false → (amount_where b (pos n) +ℤ pos 0) ≡ (pos 0 +ℤ amount_where (not a) (amount_where b (pos n)))
  paid_sum true b n e = cc
  paid_sum false true n e = omega (arith, ints)
  paid_sum false false n e = refl

  paid_same : (t : Txn) (from : Account) (p : Part) (n : ℕ) → Adds own key (post_entries t from (user_account t) n) (amount_where (bytes_eq (user_key t.user t.currency) key) (pos n)) (pos 0) → own t.token ≡ false
      → AddsSame own key (post_entries t from (user_account t) n ++ hold_entries t p n)
  paid_same t from p n pays e = comes_same (both_add pays (more_held own key t p n)) (paid_sum (own t.token) (bytes_eq (user_key t.user t.currency) key) n e)

  own_held_sum : (a : Bool) (z : ℤ) → a ≡ true → pos 0 ≡ amount_where (not a) z
  own_held_sum true z e = refl
  own_held_sum false z e = cc

  -- refunds and loads ----

  refund_sum : (a c b : Bool) (owed amount : ℕ) → a ≡ c
      → (amount_where b (pos amount) +ℤ amount_where (not c) (amount_where b (neg_ℤ (pos (min amount owed))) +ℤ amount_where b (neg_ℤ (pos (amount - min amount owed)))))
      ≡ (amount_where a (amount_where b (pos amount)) +ℤ pos 0)
  refund_sum true true b owed amount e = refl
  refund_sum false false true owed amount e =
      let whole : min amount owed + (amount - min amount owed) ≡ amount = omega arith in
      omega (arith, ints, whole)
  refund_sum false false false owed amount e = refl
  refund_sum true false b owed amount e = cc
  refund_sum false true b owed amount e = cc

  back_paid : (t : Txn) (amount programme : ℕ) (a : Bool)
      → Adds own key (cond a [] (post_entries t (user_account t) (account.Programme t.currency) programme ++ post_entries t (user_account t) (account.Gateway t.currency) (amount - programme)))
      (amount_where (not a) (amount_where (bytes_eq (user_key t.user t.currency) key) (neg_ℤ (pos programme)) +ℤ amount_where (bytes_eq (user_key t.user t.currency) key) (neg_ℤ (pos (amount - programme))))) (pos 0)
  back_paid t amount programme true = calm_adds {es = []} refl
  back_paid t amount programme false = both_add (back_to_programme own key t programme) (back_to_gateway own key t (amount - programme))

  refunded_same : (t : Txn) (amount owed : ℕ) → own t.token ≡ is_account_funded t.funding → AddsSame own key (act_entries (GivesBack t amount (min amount owed)))
  refunded_same t amount owed e =
      comes_same (both_add (from_network own key t amount) (back_paid t amount (min amount owed) (is_account_funded t.funding)))
      (refund_sum (own t.token) (is_account_funded t.funding) (bytes_eq (user_key t.user t.currency) key) owed amount e)

  loaded_same : (token user : List ℕ) (c : Currency) (n : ℕ) → AddsSame own key (load_entries token user c n)
  loaded_same token user c n = by (bytes_eq (user_key user c) key) refl
    where
      by : (b : Bool) → bytes_eq (user_key user c) key ≡ b → AddsSame own key (load_entries token user c n)
      by b e = record { same = omega (arith, ints) }

  abandoned_same : (number : ℕ) (t : Txn) (why : Reason) (calls : List CallNow) → AddsSame own key (abandoned_calls_entries number t why calls)
  abandoned_same number t why calls = calm_same (nothing number calls)
    where
      nothing : (number : ℕ) (calls : List CallNow) → list_all moves_nothing (abandoned_calls_entries number t why calls) ≡ true
      nothing number [] = refl
      nothing number (c ∷ calls) = nothing (number + 1) calls

-- What stands at each stage: an ask that is to be settled is of a transaction with its funding.
abbrev StandsAt : CoreState → Stage → CoreState → Type 0
StandsAt s Fresh q = q ≡ s
StandsAt s (Seeks ask) q = funding_of q.holdings.txns ask.txn.token ≡ Some ask.txn.funding
StandsAt s _ q = Unit {0}

-- what agrees there agrees with the first state too
record IsKnown (own : List ℕ → Bool) (s : CoreState) (g : Stage) (q : CoreState) : Type 0 where
  back : Agrees own q.holdings.txns → Agrees own s.holdings.txns
  stands : StandsAt s g q

module _ (own : List ℕ → Bool) (key : List ℕ) (by : Cause) (at : ℕ) (s : CoreState) (ready : IsReadyFor by s) where
  -- what stands at the stage that this is
  here : {g : Stage} (q : CoreState) (h : Stage) → g ≡ h → IsKnown own s g q → StandsAt s h q
  here q h e k = subst (λ (g : Stage). StandsAt s g q) e k.stands

  stands_next : (g : Stage) (q : CoreState) (a : Act) → IsMade (core_facts s) by at g a → IsKnown own s g q → StandsAt s (stage_after g a) (fold after_entry q (act_entries a))
  stands_next g q (Begins ask) made k =
      subst (λ (q : CoreState). funding_of (fold after_entry q (act_entries (Begins ask))).holdings.txns ask.txn.token ≡ Some ask.txn.funding) (sym (here q Fresh made.from.0 k))
      (ap (option_map (λ (t : TxnNow). t.txn.funding)) (begun_stands s.holdings.txns ask.txn (first_unnamed s ask ready.taken made.from.1)))
  stands_next g q (Uses ask) made k =
      subst (λ (q : CoreState). funding_of q.holdings.txns ask.txn.token ≡ Some ask.txn.funding) (sym (here q Fresh made.from.0 k)) (its_funding s ask.txn (txn_of_ask made.from.1))
  stands_next g q (Fails number o t why) made k =
      subst (λ (q : CoreState). funding_of q.holdings.txns t.token ≡ Some t.funding) (sym (here q Fresh made.from.0 k)) (its_funding s t (txn_of_call made.from.1))
  stands_next g q _ made k = tt

  known_next : (g : Stage) (q : CoreState) (a : Act) → IsMade (core_facts s) by at g a → IsKnown own s g q → IsKnown own s (stage_after g a) (fold after_entry q (act_entries a))
  known_next g q a made k = record { back = λ agrees. k.back (agrees_before own q (act_entries a) agrees); stands = stands_next g q a made k }

  its_own : (t : Txn) → Agrees own s.holdings.txns → IsTxnOf (core_facts s) t → own t.token ≡ is_account_funded t.funding
  its_own t agrees its = agrees.at t.token t.funding (its_funding s t its)

  act_same : (g : Stage) (q : CoreState) (a : Act) → IsMade (core_facts s) by at g a → IsKnown own s g q → Agrees own q.holdings.txns → AddsSame own key (act_entries a)
  act_same g q (Loads event user currency amount) made k agrees = loaded_same own key event user currency amount
  act_same g q (HoldsOwn ask) made k agrees =
      let t : Txn = ask.txn in
      let its : own t.token ≡ true = agrees.at t.token t.funding (here q (Seeks ask) made.from.0 k) ∙ made.from.2 in
      both_same (comes_same (more_held own key t part.S ask.amount) (own_held_sum own key (own t.token) (amount_where (bytes_eq (user_key t.user t.currency) key) (pos ask.amount)) its))
      (calm_same {es = entry.Decided ask.event verdict.Approved ∷ []} refl)
  act_same g q (Funds o t) made k agrees =
      both_same {xs = entry.Closed o.call how.Funded ∷ []} (calm_same refl)
      (both_same (paid_same own key t (account.Gateway t.currency) part.G o.amount (from_gateway own key t o.amount) (its_own t (k.back agrees) (txn_of_call made.from.1) ∙ call_of_gateway s ready.held made.from.1))
      (calm_same {es = entry.Decided o.event verdict.Approved ∷ []} refl))
  act_same g q (FundsPart o t amount) made k agrees =
      both_same {xs = entry.Closed o.call (how.Partial amount) ∷ []} (calm_same refl)
      (both_same {xs = entry.Usage (rest_given_back o t amount) ∷ []} (calm_same refl)
      (both_same (paid_same own key t (account.Gateway t.currency) part.G amount (from_gateway own key t amount) (its_own t (k.back agrees) (txn_of_call made.from.1) ∙ call_of_gateway s ready.held made.from.1))
      (calm_same {es = entry.Decided o.event (verdict.Partial t.currency amount) ∷ []} refl)))
  act_same g q (Refuses o t) made k agrees = both_same {xs = entry.Closed o.call how.Refused ∷ []} (calm_same refl) (declined_same own key (call_ask o t) reason.GatewayDeclined)
  act_same g q (StandsIn number ask when set) made k agrees =
      let t : Txn = ask.txn in
      both_same {xs = entry.Stood set.name t.product t.user ask.amount when ∷ []} (calm_same refl)
      (both_same (paid_same own key t (account.Programme t.currency) part.P ask.amount (from_programme own key t ask.amount)
      (agrees.at t.token t.funding (here q (Seeks ask) made.from.0 k) ∙ ask_of_gateway s ready.held made.from.1))
      (calm_same {es = notice_entry number method.StandIn t None ask.amount 0 ∷ entry.Decided ask.event verdict.Approved ∷ []} refl))
  act_same g q (TurnsDown ask why) made k agrees = declined_same own key ask why
  act_same g q (Abandons number t why calls parts) made k agrees = abandoned_same own key number t why calls
  act_same g q (LetsGo t parts amount) made k agrees =
      let its = its_own t (k.back agrees) made.from.1 in
      release_same own key t parts amount (within_funding own key t parts (parts_held (core_facts s) t) made.from.2 (parts_of_funding own key s t ready.held made.from.1 its))
  act_same g q (Clears t parts amount when) made k agrees =
      let its = its_own t (k.back agrees) made.from.1 in
      clearing_same own key t parts amount when its (subst (AreOfFunding own key t) (sym made.from.2) (parts_of_funding own key s t ready.held made.from.1 its))
  act_same g q (GivesBack t amount programme) made k agrees =
      subst (λ (n : ℕ). AddsSame own key (act_entries (GivesBack t amount n))) (sym made.from.1) (refunded_same own key t amount (owed_to_programme (core_facts s) t) (its_own t (k.back agrees) made.from.0))
  act_same g q a made k agrees = calm_same {es = act_entries a} refl

  -- entries add the same, if the test agrees with what stands after them
  record AddsIfAgreed (q : CoreState) (es : List Entry) : Type 0 where
    same : Agrees own (fold after_entry q es).holdings.txns → AddsSame own key es

  all_same : Goes (fold after_entry) (core_facts s) by at (IsKnown own s) (λ g q es. AddsIfAgreed q es)
  all_same =
      record {
        none = λ g q k. record { same = λ agrees. none_same };
        next = known_next;
        then = λ g q a es made k rest. record {
          same = λ agrees.
              let later : Agrees own (fold after_entry (fold after_entry q (act_entries a)) es).holdings.txns =
              subst (λ (q : CoreState). Agrees own q.holdings.txns) (fold-append after_entry q (act_entries a) es) agrees
              in
              both_same (act_same g q a made k (agrees_before own q (act_entries a ++ es) agrees)) (rest.same later);
        };
      }

  start_known : (g : Stage) → IsStart (core_facts s) g → IsKnown own s g s
  start_known = from_start (λ g. IsKnown own s g s) (record { back = λ agrees. agrees; stands = refl }) (λ t its. record { back = λ agrees. agrees; stands = tt })

module _ (own : List ℕ → Bool) (key : List ℕ) where
  pub thing_same : {known : Known} (s : CoreState) (thing : DueThing) (at : ℕ) → IsWellAmong known (docket_of s) → IsHeldWell s → Agrees own (fold after_entry s (thing_entries thing at (core_facts s))).holdings.txns
      → AddsSame own key (thing_entries thing at (core_facts s))
  thing_same s thing at well held agrees =
      let ready = due_ready well held in (due_goes (core_facts s) thing at s (all_same own key FallsDue at s ready) (start_known own key FallsDue at s ready)).holds.same agrees

  pub input_same : (s : CoreState) (i : Input) (at : ℕ) → HasTakenUp s i → IsHeldWell s → Agrees own (fold after_entry s (entries_of i at (core_facts s))).holdings.txns
      → AddsSame own key (entries_of i at (core_facts s))
  input_same s i at taken held agrees =
      let ready = input_ready taken held in (own_goes (core_facts s) i at s (all_same own key (ComesOf i) at s ready) (start_known own key (ComesOf i) at s ready)).holds.same agrees
