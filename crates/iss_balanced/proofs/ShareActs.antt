-- What each act changes of an account's balance is what it changes of what transactions give to the account, and what it loads.
use Rattle.std.proofs.Common.{◌≡◌, ◌∙◌, ◌++◌, ◌∷◌, ◌&&◌, ◌+ℤ◌, ◌+◌, ◌-◌, ◌≤◌, min, ℕ, ℤ, pos, neg_ℤ, ap, arith, Bool, cond, false, fold, List, [], nat_eq, not, refl, subst, sym, true}
use Rattle.std.specs.Prelude.{None}
use Rattle.std.specs.List.{list_all}
use Rattle.std.proofs.lemmas.Int.{ints}
use Rattle.std.proofs.lemmas.List.Sums.{fold-append}
use Rattle.iss_model.specs.declared.account.Account.{Account}
use Rattle.iss_model.specs.declared.account.Account.TheVariants as account
use Rattle.iss_model.specs.declared.account.Part.{Part}
use Rattle.iss_model.specs.declared.account.Part.TheVariants as part
use Rattle.iss_model.specs.declared.call.How.TheVariants as how
use Rattle.iss_model.specs.declared.call.Method.TheVariants as method
use Rattle.iss_model.specs.declared.currency.Currency.{Currency}
use Rattle.iss_model.specs.declared.decision.Reason.{Reason}
use Rattle.iss_model.specs.declared.decision.Reason.TheVariants as reason
use Rattle.iss_model.specs.declared.decision.Verdict.TheVariants as verdict
use Rattle.iss_model.specs.declared.entry.Entry.{Entry}
use Rattle.iss_model.specs.declared.entry.Entry.TheVariants as entry
use Rattle.iss_model.specs.declared.input.Input.{Input}
use Rattle.iss_model.specs.declared.txn.Txn.{Txn}
use Rattle.iss_model.specs.Sums.{account_key}
use Rattle.iss_model.specs.rules.Activity.{CallNow, TxnNow, txn_named}
use Rattle.iss_model.specs.rules.Acts.{Abandons, Act, Begins, Clears, Fails, Funds, FundsPart, GivesBack, HoldsOwn, LetsGo, Loads, Refuses, StandsIn, TurnsDown, Uses, act_entries}
use Rattle.iss_model.specs.rules.Asks.{Ask, ask_given_back, call_ask, rest_given_back, usage_of}
use Rattle.iss_model.specs.rules.CardReasons.{is_account_funded}
use Rattle.iss_model.specs.rules.Due.{DueThing, thing_entries}
use Rattle.iss_model.specs.rules.Facts.{not_below}
use Rattle.iss_model.specs.rules.Pieces.{Parts, abandoned_calls_entries, clearing_money_entries, declined_ask_entries, hold_entries, in_all, load_entries, notice_entry, only_where, owed_to_programme, parts_held, post_entries, release_entries, taken_to_clear, taken_to_release, user_account}
use Rattle.iss_model.specs.rules.Reasons.{is_some_with}
use Rattle.iss_model.specs.rules.Stepping.{entries_of}
use Rattle.iss_model.specs.state.Cores.{CoreState, after_entry, core_facts}
use Rattle.iss_acts.specs.Causes.{Cause, ComesOf, FallsDue}
use Rattle.iss_acts.specs.Sources.{AreWithin, IsMade, IsStart, IsTxnOf}
use Rattle.iss_acts.specs.Stages.{Fresh, Seeks, Stage, stage_after}
use Rattle.iss_acts.proofs.Walk.{Goes, due_goes, from_start, own_goes, txn_of_ask, txn_of_call}
use Rattle.iss_state.specs.Dockets.{docket_of}
use Rattle.iss_state.specs.Holdings.{IsHeldWell, is_part_of, part_sum}
use Rattle.iss_state.specs.Pending.{HasTakenUp}
use Rattle.iss_state.specs.Well.{HaveOwnTokens, IsWellAmong, Known}
use Rattle.iss_state.proofs.calls.Due.{its_token}
use Rattle.iss_state.proofs.held.Acts.{IsReadyFor, ask_of_gateway, call_of_gateway}
use Rattle.iss_state.proofs.held.Begun.{begun_stands, first_unnamed}
use Rattle.iss_state.proofs.held.Inputs.{due_ready, input_ready}
use Rattle.iss_states.specs.Fairness.{changed_among}
use Rattle.iss_states.proofs.Found.{entry_keeps}
use Rattle.iss_balanced.proofs.SharePieces.{from_gateway, from_network, from_programme, less_held, more_held, to_gateway, to_have, to_network, to_programme, unless}
use Rattle.iss_balanced.proofs.ShareSums.{Adds, Gaps, IsAmong, as_gap, both_add, both_gap, is_still, load_changes, no_gap, none_adds, over_nothing, still_adds}

-- transactions stay ----

-- those that stand in a core are among these
abbrev pub AreAmong : CoreState → List TxnNow → Type 0
AreAmong s txns = (t : Txn) → IsAmong s.holdings.txns t → IsAmong txns t

entry_stays : (s : CoreState) (e : Entry) (t : Txn) → IsAmong s.holdings.txns t → IsAmong (after_entry s e).holdings.txns t
entry_stays s e t its = let later = (entry_keeps s e).txns t.token its.now its.stands in record { now = later.0; stands = later.1; same = later.2 ∙ its.same }

pub entries_stay : (s : CoreState) (es : List Entry) (t : Txn) → IsAmong s.holdings.txns t → IsAmong (fold after_entry s es).holdings.txns t
entries_stay s [] t its = its
entries_stay s (e ∷ es) t its = entries_stay (after_entry s e) es t (entry_stays s e t its)

-- a transaction of the facts stands
pub of_facts : (s : CoreState) (t : Txn) → IsTxnOf (core_facts s) t → IsAmong s.holdings.txns t
of_facts s t its =
    record {
      now = its.now;
      stands = ap (λ (k : List ℕ). txn_named k s.holdings.txns) (ap (λ (x : Txn). x.token) (sym its.same) ∙ its_token s.holdings.txns its.token its.now its.stands) ∙ its.stands;
      same = its.same;
    }

-- what a transaction of the facts holds, by its funding ----

pub record AreFunded (own : Bool) (x : Parts) : Type 0 where
  pub no_gateway : own ≡ true → x.g ≡ 0
  pub no_programme : own ≡ true → x.p ≡ 0
  pub no_own : own ≡ false → x.s ≡ 0

parts_funded : (s : CoreState) (t : Txn) → IsHeldWell s → IsTxnOf (core_facts s) t → AreFunded (is_account_funded t.funding) (parts_held (core_facts s) t)
parts_funded s t held of =
    record {
      no_gateway = λ e. none part.G (ap not e);
      no_programme = λ e. none part.P (ap not e);
      no_own = λ e. none part.S e;
    }
  where
    its : IsAmong s.holdings.txns t
    its = of_facts s t of

    found : (p : Part) → is_some_with (λ (t : TxnNow). is_part_of p t.txn.funding) (txn_named t.token s.holdings.txns) ≡ is_part_of p t.funding
    found p = ap (is_some_with (λ (t : TxnNow). is_part_of p t.txn.funding)) its.stands ∙ ap (λ (x : Txn). is_part_of p x.funding) its.same

    none : (p : Part) → is_part_of p t.funding ≡ false → not_below (part_sum s.holdings.parts t.token p) ≡ 0
    none p e = ap not_below (held.funded t.token p (found p ∙ e))

within_funded : (own : Bool) (small large : Parts) → AreWithin small large → AreFunded own large → AreFunded own small
within_funded own small large within h =
    record {
      no_gateway = λ e. least small.g large.g within.of_gateway (h.no_gateway e);
      no_programme = λ e. least small.p large.p within.of_programme (h.no_programme e);
      no_own = λ e. least small.s large.s within.of_user (h.no_own e);
    }
  where
    least : (m n : ℕ) → m ≤ n → n ≡ 0 → m ≡ 0
    least m n h e = omega (arith, h, e)

module _ (txns : List TxnNow) (own : HaveOwnTokens txns) (a : Account) where
  -- pieces ----

  loaded_add : (token user : List ℕ) (c : Currency) (n : ℕ) → Adds txns a (load_entries token user c n)
  loaded_add token user c n = record {
    same = last (changed_among load_changes (account_key a) (load_entries token user c n)) ∙ ap (λ (z : ℤ). changed_among load_changes (account_key a) (load_entries token user c n) +ℤ z) (sym (over_nothing a txns));
    others = λ k none. refl;
  }
    where
      last : (z : ℤ) → z ≡ z +ℤ pos 0
      last z = omega (arith, ints)

  declined_add : (ask : Ask) (why : Reason) → Adds txns a (declined_ask_entries ask why)
  declined_add ask why =
      both_add {xs = entry.Usage (ask_given_back ask) ∷ []} (still_adds (entry.Usage (ask_given_back ask) ∷ []) refl)
      (both_add (by ask.is_first) (still_adds (entry.Decided ask.event (verdict.Declined why) ∷ []) refl))
    where
      by : (b : Bool) → Adds txns a (cond b (entry.Ended ask.txn.token ∷ []) [])
      by true = still_adds (entry.Ended ask.txn.token ∷ []) refl
      by false = none_adds

  abandoned_add : (number : ℕ) (t : Txn) (why : Reason) (calls : List CallNow) → Adds txns a (abandoned_calls_entries number t why calls)
  abandoned_add number t why calls = still_adds (abandoned_calls_entries number t why calls) (nothing number calls)
    where
      nothing : (number : ℕ) (calls : List CallNow) → list_all is_still (abandoned_calls_entries number t why calls) ≡ true
      nothing number [] = refl
      nothing number (c ∷ calls) = nothing (number + 1) calls

  where_still : (n : ℕ) (e : Entry) → is_still e ≡ true → Adds txns a (only_where n (e ∷ []))
  where_still n e h = by (nat_eq n 0)
    where
      by : (b : Bool) → Adds txns a (cond b [] (e ∷ []))
      by true = none_adds
      by false = still_adds (e ∷ []) (ap (λ (b : Bool). b && true) h)

  module _ (t : Txn) (its : IsAmong txns t) where
    abbrev funded : Bool
    funded = is_account_funded t.funding

    opposite : (f : Bool) (p : Part) (n : ℕ) → f ≡ false → to_have p (pos n) ≡ neg_ℤ (pos n) → pos n +ℤ unless f (to_have p (pos n)) ≡ pos 0
    opposite true p n e h = cc
    opposite false p n e h = omega (arith, ints, h)

    pub paid_add : (from : Account) (p : Part) (n : ℕ) → Gaps txns a t (post_entries t from (user_account t) n) (pos n) → funded ≡ false → to_have p (pos n) ≡ neg_ℤ (pos n)
        → Adds txns a (post_entries t from (user_account t) n ++ hold_entries t p n)
    paid_add from p n pays f part = no_gap (both_gap pays (more_held txns own a t its p n)) (opposite funded p n f part)

    own_held_add : (n : ℕ) → Adds txns a (hold_entries t part.S n)
    own_held_add n = no_gap (more_held txns own a t its part.S n) (by funded)
      where
        by : (f : Bool) → unless f (pos 0) ≡ pos 0
        by true = refl
        by false = refl

    -- a part is let go, and what was paid goes back
    back_programme : (f : Bool) (n : ℕ) → funded ≡ f → (f ≡ true → n ≡ 0) → Gaps txns a t (post_entries t (user_account t) (account.Programme t.currency) n) (unless f (neg_ℤ (pos n)))
    back_programme true n e zero = subst (λ (n : ℕ). Gaps txns a t (post_entries t (user_account t) (account.Programme t.currency) n) (pos 0)) (sym (zero refl)) (as_gap none_adds)
    back_programme false n e zero = to_programme txns own a t its n e

    back_gateway : (f : Bool) (n : ℕ) → funded ≡ f → (f ≡ true → n ≡ 0) → Gaps txns a t (post_entries t (user_account t) (account.Gateway t.currency) n) (unless f (neg_ℤ (pos n)))
    back_gateway true n e zero = subst (λ (n : ℕ). Gaps txns a t (post_entries t (user_account t) (account.Gateway t.currency) n) (pos 0)) (sym (zero refl)) (as_gap none_adds)
    back_gateway false n e zero = to_gateway txns own a t its n e

    release_add : (x : Parts) (amount : ℕ) → AreFunded funded x → Adds txns a (release_entries t x amount)
    release_add x amount h =
        let taken : Parts = taken_to_release x amount in
        no_gap
        (both_gap (both_gap (both_gap (both_gap (both_gap (less_held txns own a t its part.P taken.p) (back_programme funded taken.p refl (λ e. from amount x.p (h.no_programme e)))) (less_held txns own a t its part.G taken.g))
        (back_gateway funded taken.g refl (λ e. from (amount - taken.p) x.g (h.no_gateway e)))) (less_held txns own a t its part.S taken.s))
        (as_gap (where_still amount (entry.Usage (usage_of t (neg_ℤ (pos amount)) (pos 0) t.at)) refl)))
        (sum funded taken.p taken.g)
      where
        from : (a x : ℕ) → x ≡ 0 → min a x ≡ 0
        from a x e = omega (arith, e)

        sum : (f : Bool) (p g : ℕ)
            → ((((unless f (neg_ℤ (neg_ℤ (pos p))) +ℤ unless f (neg_ℤ (pos p))) +ℤ unless f (neg_ℤ (neg_ℤ (pos g)))) +ℤ unless f (neg_ℤ (pos g))) +ℤ unless f (pos 0)) +ℤ pos 0 ≡ pos 0
        sum true p g = refl
        sum false p g = omega (arith, ints)

    clearing_add : (x : Parts) (amount at : ℕ) → AreFunded funded x → Adds txns a (clearing_money_entries t (taken_to_clear x amount) amount at)
    clearing_add x amount at h =
        let taken : Parts = taken_to_clear x amount in
        no_gap
        (both_gap (both_gap (both_gap (both_gap (both_gap (less_held txns own a t its part.G taken.g) (less_held txns own a t its part.P taken.p)) (less_held txns own a t its part.S taken.s))
        (excess_paid funded refl)) (to_network txns own a t its amount))
        (as_gap (where_still excess (entry.Usage (usage_of t (pos excess) (pos 0) at)) refl)))
        (by funded refl)
      where
        excess : ℕ
        excess = amount - in_all (taken_to_clear x amount)

        excess_paid : (f : Bool) → funded ≡ f → Gaps txns a t (cond f [] (post_entries t (account.Programme t.currency) (user_account t) (amount - in_all (taken_to_clear x amount)))) (unless f (pos (amount - in_all (taken_to_clear x amount))))
        excess_paid true e = as_gap none_adds
        excess_paid false e = from_programme txns own a t its (amount - in_all (taken_to_clear x amount)) e

        sum : (g p s n : ℕ) → (taken : g + p + s + (n - (g + p + s)) ≡ n) → s ≡ 0
            → ((((neg_ℤ (neg_ℤ (pos g)) +ℤ neg_ℤ (neg_ℤ (pos p))) +ℤ pos 0) +ℤ pos (n - (g + p + s))) +ℤ neg_ℤ (pos n)) +ℤ pos 0 ≡ pos 0
        sum g p s n e none = omega (arith, ints, e, none)

        from : (a x : ℕ) → x ≡ 0 → min a x ≡ 0
        from a x e = omega (arith, e)

        by : (f : Bool) → funded ≡ f
            → ((((unless f (neg_ℤ (neg_ℤ (pos (taken_to_clear x amount).g))) +ℤ unless f (neg_ℤ (neg_ℤ (pos (taken_to_clear x amount).p)))) +ℤ unless f (pos 0)) +ℤ unless f (pos (amount - in_all (taken_to_clear x amount))))
            +ℤ unless f (neg_ℤ (pos amount))) +ℤ pos 0 ≡ pos 0
        by true e = refl
        by false e =
            sum (taken_to_clear x amount).g (taken_to_clear x amount).p (taken_to_clear x amount).s amount (omega arith)
            (from (amount - (taken_to_clear x amount).g - (taken_to_clear x amount).p) x.s (h.no_own e))

    refunded_add : (amount owed : ℕ) → Adds txns a (act_entries (GivesBack t amount (min amount owed)))
    refunded_add amount owed = no_gap (both_gap (from_network txns own a t its amount) (back_paid funded refl)) (sum funded)
      where
        back_paid : (f : Bool) → funded ≡ f
            → Gaps txns a t (cond f [] (post_entries t (user_account t) (account.Programme t.currency) (min amount owed) ++ post_entries t (user_account t) (account.Gateway t.currency) (amount - min amount owed)))
            (unless f (neg_ℤ (pos (min amount owed)) +ℤ neg_ℤ (pos (amount - min amount owed))))
        back_paid true e = as_gap none_adds
        back_paid false e = both_gap (to_programme txns own a t its (min amount owed) e) (to_gateway txns own a t its (amount - min amount owed) e)

        sum : (f : Bool) → unless f (pos amount) +ℤ unless f (neg_ℤ (pos (min amount owed)) +ℤ neg_ℤ (pos (amount - min amount owed))) ≡ pos 0
        sum true = refl
        sum false =
            let whole : min amount owed + (amount - min amount owed) ≡ amount = omega arith in
            omega (arith, ints, whole)

  -- an entry that is still, and then more
  after_still : (e : Entry) (es : List Entry) → is_still e ≡ true → Adds txns a es → Adds txns a (e ∷ es)
  after_still e es h k = both_add {xs = e ∷ []} {ys = es} (still_adds (e ∷ []) (ap (λ (b : Bool). b && true) h)) k

-- What stands at each stage: an ask that is to be settled is of a transaction that stands.
abbrev StandsAt : CoreState → Stage → CoreState → Type 0
StandsAt s Fresh q = q ≡ s
StandsAt s (Seeks ask) q = IsAmong q.holdings.txns ask.txn
StandsAt s _ q = Unit {0}

-- what stands there stood before too
record IsKnown (s : CoreState) (g : Stage) (q : CoreState) : Type 0 where
  back : (t : Txn) → IsAmong s.holdings.txns t → IsAmong q.holdings.txns t
  stands : StandsAt s g q

module _ (by : Cause) (at : ℕ) (s : CoreState) (ready : IsReadyFor by s) where
  here : {g : Stage} (q : CoreState) (h : Stage) → g ≡ h → IsKnown s g q → StandsAt s h q
  here q h e k = subst (λ (g : Stage). StandsAt s g q) e k.stands

  stands_next : (g : Stage) (q : CoreState) (a : Act) → IsMade (core_facts s) by at g a → IsKnown s g q → StandsAt s (stage_after g a) (fold after_entry q (act_entries a))
  stands_next g q (Begins ask) made k =
      subst (λ (q : CoreState). IsAmong (fold after_entry q (act_entries (Begins ask))).holdings.txns ask.txn) (sym (here q Fresh made.from.0 k))
      (record { now = _; stands = begun_stands s.holdings.txns ask.txn (first_unnamed s ask ready.taken made.from.1); same = refl })
  stands_next g q (Uses ask) made k =
      subst (λ (q : CoreState). IsAmong q.holdings.txns ask.txn) (sym (here q Fresh made.from.0 k)) (of_facts s ask.txn (txn_of_ask made.from.1))
  stands_next g q (Fails number o t why) made k =
      subst (λ (q : CoreState). IsAmong q.holdings.txns t) (sym (here q Fresh made.from.0 k)) (of_facts s t (txn_of_call made.from.1))
  stands_next g q _ made k = tt

  known_next : (g : Stage) (q : CoreState) (a : Act) → IsMade (core_facts s) by at g a → IsKnown s g q → IsKnown s (stage_after g a) (fold after_entry q (act_entries a))
  known_next g q a made k = record { back = λ t its. entries_stay q (act_entries a) t (k.back t its); stands = stands_next g q a made k }

  module _ (txns : List TxnNow) (own : HaveOwnTokens txns) (acc : Account) where
    act_adds : (g : Stage) (q : CoreState) (a : Act) → IsMade (core_facts s) by at g a → IsKnown s g q → AreAmong q txns → Adds txns acc (act_entries a)
    act_adds g q (Loads event user currency amount) made k all = loaded_add txns own acc event user currency amount
    act_adds g q (HoldsOwn ask) made k all =
        both_add (own_held_add txns own acc ask.txn (all ask.txn (here q (Seeks ask) made.from.0 k)) ask.amount) (still_adds (entry.Decided ask.event verdict.Approved ∷ []) refl)
    act_adds g q (Funds o t) made k all =
        let its = all t (k.back t (of_facts s t (txn_of_call made.from.1))) in
        let f = call_of_gateway s ready.held made.from.1 in
        both_add {xs = entry.Closed o.call how.Funded ∷ []} (still_adds (entry.Closed o.call how.Funded ∷ []) refl)
        (both_add (paid_add txns own acc t its (account.Gateway t.currency) part.G o.amount (from_gateway txns own acc t its o.amount f) f refl) (still_adds (entry.Decided o.event verdict.Approved ∷ []) refl))
    act_adds g q (FundsPart o t amount) made k all =
        let its = all t (k.back t (of_facts s t (txn_of_call made.from.1))) in
        let f = call_of_gateway s ready.held made.from.1 in
        both_add {xs = entry.Closed o.call (how.Partial amount) ∷ []} (still_adds (entry.Closed o.call (how.Partial amount) ∷ []) refl)
        (both_add {xs = entry.Usage (rest_given_back o t amount) ∷ []} (still_adds (entry.Usage (rest_given_back o t amount) ∷ []) refl)
        (both_add (paid_add txns own acc t its (account.Gateway t.currency) part.G amount (from_gateway txns own acc t its amount f) f refl) (still_adds (entry.Decided o.event (verdict.Partial t.currency amount) ∷ []) refl)))
    act_adds g q (Refuses o t) made k all =
        both_add {xs = entry.Closed o.call how.Refused ∷ []} (still_adds (entry.Closed o.call how.Refused ∷ []) refl) (declined_add txns own acc (call_ask o t) reason.GatewayDeclined)
    act_adds g q (StandsIn number ask when set) made k all =
        let t : Txn = ask.txn in
        let its = all t (here q (Seeks ask) made.from.0 k) in
        let f = ask_of_gateway s ready.held made.from.1 in
        both_add {xs = entry.Stood set.name t.product t.user ask.amount when ∷ []} (still_adds (entry.Stood set.name t.product t.user ask.amount when ∷ []) refl)
        (both_add (paid_add txns own acc t its (account.Programme t.currency) part.P ask.amount (from_programme txns own acc t its ask.amount f) f refl)
        (still_adds (notice_entry number method.StandIn t None ask.amount 0 ∷ entry.Decided ask.event verdict.Approved ∷ []) refl))
    act_adds g q (TurnsDown ask why) made k all = declined_add txns own acc ask why
    act_adds g q (Abandons number t why calls parts) made k all = abandoned_add txns own acc number t why calls
    act_adds g q (LetsGo t parts amount) made k all =
        release_add txns own acc t (all t (k.back t (of_facts s t made.from.1))) parts amount
        (within_funded (is_account_funded t.funding) parts (parts_held (core_facts s) t) made.from.2 (parts_funded s t ready.held made.from.1))
    act_adds g q (Clears t parts amount when) made k all =
        clearing_add txns own acc t (all t (k.back t (of_facts s t made.from.1))) parts amount when
        (subst (AreFunded (is_account_funded t.funding)) (sym made.from.2) (parts_funded s t ready.held made.from.1))
    act_adds g q (GivesBack t amount programme) made k all =
        subst (λ (n : ℕ). Adds txns acc (act_entries (GivesBack t amount n))) (sym made.from.1)
        (refunded_add txns own acc t (all t (k.back t (of_facts s t made.from.0))) amount (owed_to_programme (core_facts s) t))
    act_adds g q a made k all = still_adds (act_entries a) refl

    -- entries add so, if these are among the transactions after them
    record AddsThere (q : CoreState) (es : List Entry) : Type 0 where
      adds : AreAmong (fold after_entry q es) txns → Adds txns acc es

    all_add : Goes (fold after_entry) (core_facts s) by at (IsKnown s) (λ g q es. AddsThere q es)
    all_add =
        record {
          none = λ g q k. record { adds = λ all. none_adds };
          next = known_next;
          then = λ g q a es made k rest. record {
            adds = λ all.
                let later : AreAmong (fold after_entry (fold after_entry q (act_entries a)) es) txns =
                subst (λ (q : CoreState). AreAmong q txns) (fold-append after_entry q (act_entries a) es) all
                in
                both_add (act_adds g q a made k (λ t its. later t (entries_stay (fold after_entry q (act_entries a)) es t (entries_stay q (act_entries a) t its)))) (rest.adds later);
          };
        }

  start_known : (g : Stage) → IsStart (core_facts s) g → IsKnown s g s
  start_known = from_start (λ g. IsKnown s g s) (record { back = λ t its. its; stands = refl }) (λ t its. record { back = λ t its. its; stands = tt })

-- what is due, and what an input makes, on the transactions that stand after it
pub thing_adds : {known : Known} (s : CoreState) (thing : DueThing) (at : ℕ) (a : Account) → IsWellAmong known (docket_of s) → IsHeldWell s
    → HaveOwnTokens (fold after_entry s (thing_entries thing at (core_facts s))).holdings.txns
    → Adds (fold after_entry s (thing_entries thing at (core_facts s))).holdings.txns a (thing_entries thing at (core_facts s))
thing_adds s thing at a well held own =
    let ready = due_ready well held in
    let txns : List TxnNow = (fold after_entry s (thing_entries thing at (core_facts s))).holdings.txns in
    (due_goes (core_facts s) thing at s (all_add FallsDue at s ready txns own a) (start_known FallsDue at s ready)).holds.adds (λ t its. its)

pub input_adds : (s : CoreState) (i : Input) (at : ℕ) (a : Account) → HasTakenUp s i → IsHeldWell s
    → HaveOwnTokens (fold after_entry s (entries_of i at (core_facts s))).holdings.txns
    → Adds (fold after_entry s (entries_of i at (core_facts s))).holdings.txns a (entries_of i at (core_facts s))
input_adds s i at a taken held own =
    let ready = input_ready taken held in
    let txns : List TxnNow = (fold after_entry s (entries_of i at (core_facts s))).holdings.txns in
    (own_goes (core_facts s) i at s (all_add (ComesOf i) at s ready txns own a) (start_known (ComesOf i) at s ready)).holds.adds (λ t its. its)
