-- What a record clears or refunds of a transaction is what its event comes to if it is done.
use Rattle.std.proofs.Common.{◌≡◌, ◌∙◌, ◌++◌, ◌∷◌, ◌&&◌, ◌||◌, ◌+ℤ◌, ◌-◌, ◌==◌, ℕ, ℤ, pos, ap, arith, Bool, cond, false, fold, List, [], min, nat_eq, not, refl, subst, sym, true}
use Rattle.std.specs.Prelude.{Option, Some, None, unwrap_or}
use Rattle.std.specs.List.{list_all}
use Rattle.std.specs.Str.{bytes_eq}
use Rattle.std.proofs.lemmas.Bool.{and_parts}
use Rattle.std.proofs.lemmas.Int.{ints}
use Rattle.iss_model.specs.declared.account.Account.{Account}
use Rattle.iss_model.specs.declared.account.Account.TheVariants as account
use Rattle.iss_model.specs.declared.account.Part.TheVariants as part
use Rattle.iss_model.specs.declared.currency.Currency.{Currency}
use Rattle.iss_model.specs.declared.decision.Reason.{Reason}
use Rattle.iss_model.specs.declared.decision.Reason.TheVariants as reason
use Rattle.iss_model.specs.declared.decision.Verdict.{Verdict}
use Rattle.iss_model.specs.declared.decision.Verdict.TheVariants as verdict
use Rattle.iss_model.specs.declared.entry.Entry.{Entry}
use Rattle.iss_model.specs.declared.entry.Entry.TheVariants as entry
use Rattle.iss_model.specs.declared.input.Input.{Input}
use Rattle.iss_model.specs.declared.input.Input.TheVariants as input
use Rattle.iss_model.specs.declared.txn.Txn.{Txn}
use Rattle.iss_model.specs.Currencies.{same_currency}
use Rattle.iss_model.specs.Inputs.{event_token}
use Rattle.iss_model.specs.Sums.{changed_at, cleared_by, refunded_by, txn_changes}
use Rattle.iss_model.specs.rules.Activity.{TxnNow, txn_named}
use Rattle.iss_model.specs.rules.Acts.{Abandons, Act, Clears, Does, Ends, GivesBack, LetsGo, Tells, act_entries, captured, entries_of_acts, refunded}
use Rattle.iss_model.specs.rules.CardActs.{after_clearing_acts, clearing_acts, end_acts, refund_acts}
use Rattle.iss_model.specs.rules.CardReasons.{clearing_reason, is_account_funded, passes_cleared, refund_reason}
use Rattle.iss_model.specs.rules.Due.{DueThing, thing_entries}
use Rattle.iss_model.specs.rules.Asks.{usage_of}
use Rattle.iss_model.specs.rules.Facts.{Facts, asked_calls_of, next_notice, verdict_in}
use Rattle.iss_model.specs.rules.Pieces.{Parts, in_all, left_of, notice_after_abandonment, only_gateway, only_where, parts_held, post_entries, taken_to_clear, owed_to_programme, unhold_entries, user_account}
use Rattle.iss_model.specs.rules.Stepping.{acts_unless, entries_of}
use Rattle.iss_model.specs.state.Cores.{CoreState, after_entry, core_facts}
use Rattle.iss_model.proofs.Names.{one_name}
use Rattle.iss_acts.specs.Causes.{Cause, clears, may_act, refunds}
use Rattle.iss_acts.specs.Items.{FromNetwork, Item, Paying, ToNetwork, has_item, item_entry, may_pay}
use Rattle.iss_acts.proofs.Passing.{EachPasses, act_passes, both_pass, gateway_passes, none_passes, one_passes, where_passes}
use Rattle.iss_acts.proofs.Walk.{Holds, acts_append, due_holds, own_holds}
use Rattle.iss_state.specs.Pending.{AreAllowed, HasTakenUp}
use Rattle.iss_state.proofs.calls.Steps.{own_allowed}
use Rattle.iss_state.proofs.docket.Lists.{not_both}
use Rattle.iss_state.proofs.effects.Finds.{found_passes, number_is}
use Rattle.iss_states.specs.Fairness.{changed_among}
use Rattle.iss_states.specs.Rebuilding.{is_done}
use Rattle.iss_states.proofs.FairSums.{among_append}
use Rattle.iss_states.proofs.SetSteps.{now_decided, undecided}
use Rattle.iss_well_formed.specs.Txns.{cleared_amount, refunded_amount}
use Rattle.iss_well_formed.proofs.DoneSums.{last_done, worth_if}

-- entries without a post of a kind ----

-- an entry posts nothing between such accounts
abbrev posts_no : (Account → Account → Bool) → Entry → Bool
posts_no moves (entry.Post from to amount txn) = not (moves from to)
posts_no moves _ = true

module _ (moves : Account → Account → Bool) (by : Account → Account → ℕ → ℤ) (still : (from to : Account) (n : ℕ) → moves from to ≡ false → by from to n ≡ pos 0) where
  entry_still : (key : List ℕ) (e : Entry) → posts_no moves e ≡ true → changed_at key (txn_changes by e) ≡ pos 0
  entry_still key (entry.Post from to amount (Some txn)) h = zero (bytes_eq txn key) (by from to amount) (still from to amount (turned (moves from to) h))
    where
      turned : (b : Bool) → not b ≡ true → b ≡ false
      turned true h = cc
      turned false h = refl

      zero : (b : Bool) (z : ℤ) → z ≡ pos 0 → cond b z (pos 0) +ℤ pos 0 ≡ pos 0
      zero true z e = omega (arith, ints, e)
      zero false z e = omega (arith, ints)
  entry_still key (entry.Post from to amount None) h = refl
  entry_still key _ h = refl

  list_still : (key : List ℕ) (es : List Entry) → list_all (posts_no moves) es ≡ true → changed_among (txn_changes by) key es ≡ pos 0
  list_still key [] h = refl
  list_still key (e ∷ es) h =
      let both = and_parts (posts_no moves e) (list_all (posts_no moves) es) h in sum (changed_at key (txn_changes by e)) (changed_among (txn_changes by) key es) (entry_still key e both.0) (list_still key es both.1)
    where
      sum : (x y : ℤ) → x ≡ pos 0 → y ≡ pos 0 → x +ℤ y ≡ pos 0
      sum x y e f = omega (arith, ints, e, f)

  still_passes : {es : List Entry} (key : List ℕ) → EachPasses (posts_no moves) es → changed_among (txn_changes by) key es ≡ pos 0
  still_passes {es} key h = list_still key es h.all

  -- what entries post of a transaction, if its event is done
  abbrev Counts : CoreState → List ℕ → List ℕ → List ℕ → ℕ → List Entry → Type 0
  Counts s token txn key amount es = changed_among (txn_changes by) key es ≡ pos (worth_if (verdict_in (fold after_entry s es).decisions token) (cond (bytes_eq txn key) amount 0))

  declined_counts : (s : CoreState) (token txn key : List ℕ) (amount : ℕ) (why : Reason) → verdict_in s.decisions token ≡ None → Counts s token txn key amount (entry.Decided token (verdict.Declined why) ∷ [])
  declined_counts s token txn key amount why fresh =
      list_still key (entry.Decided token (verdict.Declined why) ∷ []) refl
      ∙ ap (λ (v : Option Verdict). pos (worth_if v (cond (bytes_eq txn key) amount 0))) (sym (now_decided s.decisions token (verdict.Declined why) fresh))

  row_counts : (s : CoreState) (token txn key : List ℕ) (amount : ℕ) (t : Txn) (a : Act) (more : List Act) → t.token ≡ txn
      → changed_among (txn_changes by) key (act_entries a) ≡ cond (bytes_eq t.token key) (pos amount) (pos 0) → EachPasses (posts_no moves) (entries_of_acts more)
      → AreAllowed s (entries_of_acts (a ∷ more ++ Does token ∷ [])) → Counts s token txn key amount (entries_of_acts (a ∷ more ++ Does token ∷ []))
  row_counts s token txn key amount t a more its first rest allowed =
      let whole : entries_of_acts (a ∷ more ++ Does token ∷ []) ≡ entries_of_acts (a ∷ more) ++ entry.Decided token verdict.Done ∷ [] = acts_append (a ∷ more) (Does token ∷ []) in
      let done = last_done s token (entries_of_acts (a ∷ more)) (subst (AreAllowed s) whole allowed) in
      let told = ap (λ (es : List Entry). verdict_in (fold after_entry s es).decisions token) whole ∙ done in
      among_append (txn_changes by) key (act_entries a) (entries_of_acts (more ++ Does token ∷ []))
      ∙ sum (changed_among (txn_changes by) key (act_entries a)) (changed_among (txn_changes by) key (entries_of_acts (more ++ Does token ∷ []))) (cond (bytes_eq t.token key) (pos amount) (pos 0)) first
      (ap (changed_among (txn_changes by) key) (acts_append more (Does token ∷ [])) ∙ still_passes key (both_pass rest (one_passes {e = entry.Decided token verdict.Done} refl)))
      ∙ ap (λ (k : List ℕ). cond (bytes_eq k key) (pos amount) (pos 0)) its
      ∙ inside (bytes_eq txn key)
      ∙ ap (λ (v : Option Verdict). pos (worth_if v (cond (bytes_eq txn key) amount 0))) (sym told)
    where
      sum : (x y z : ℤ) → x ≡ z → y ≡ pos 0 → x +ℤ y ≡ z
      sum x y z e f = omega (arith, ints, e, f)

      inside : (b : Bool) → cond b (pos amount) (pos 0) ≡ pos (cond b amount 0)
      inside true = refl
      inside false = refl

  -- one post of the kind
  post_sum : (key : List ℕ) (t : Txn) (from to : Account) (amount : ℕ) → by from to amount ≡ pos amount → changed_among (txn_changes by) key (post_entries t from to amount) ≡ cond (bytes_eq t.token key) (pos amount) (pos 0)
  post_sum key t from to amount e = with_test (nat_eq amount 0) refl
    where
      none : (n : ℕ) (b : Bool) → n ≡ 0 → pos 0 ≡ cond b (pos n) (pos 0)
      none n true e = ap (λ (n : ℕ). pos n) (sym e)
      none n false e = refl

      one : (b : Bool) (z : ℤ) → z ≡ pos amount → (cond b z (pos 0) +ℤ pos 0) +ℤ pos 0 ≡ cond b (pos amount) (pos 0)
      one true z e = omega (arith, ints, e)
      one false z e = omega (arith, ints)

      with_test : (z : Bool) → nat_eq amount 0 ≡ z → changed_among (txn_changes by) key (cond z [] (entry.Post from to amount (Some t.token) ∷ [])) ≡ cond (bytes_eq t.token key) (pos amount) (pos 0)
      with_test true f = none amount (bytes_eq t.token key) (number_is amount 0 f)
      with_test false f = one (bytes_eq t.token key) (by from to amount) e

-- clearings ----

abbrev clears_money : Account → Account → Bool
clears_money (account.User user c) (account.Network d) = true
clears_money _ _ = false

clears_none : (from to : Account) (n : ℕ) → clears_money from to ≡ false → cleared_by from to n ≡ pos 0
clears_none (account.User user c) (account.Network d) n h = cc
clears_none _ _ n h = refl

unclearing_item : (a : Act) → may_pay a ToNetwork ≡ false → (x : Item) → has_item a x ≡ true → posts_no clears_money (item_entry x) ≡ true
unclearing_item a plain (Paying ToNetwork t n) has = not_both (may_pay a ToNetwork) has plain
unclearing_item a plain _ has = refl

unclearing : (a : Act) → may_pay a ToNetwork ≡ false → EachPasses (posts_no clears_money) (act_entries a)
unclearing a plain = act_passes a (unclearing_item a plain)

no_clearing : {f : Facts} {by : Cause} {at : ℕ} → ((t : Txn) (amount : ℕ) → clears by t.token amount ≡ false) → Holds f by at (EachPasses (posts_no clears_money))
no_clearing {by = by} none = record { none = none_passes; then = both_pass; act = λ g a made. unclearing a (plain a made.cause) }
  where
    plain : (a : Act) → may_act by a ≡ true → may_pay a ToNetwork ≡ false
    plain (Clears t parts amount at) may = not_both (clears by t.token amount) may (none t amount)
    plain _ may = refl

pub due_clears : (s : CoreState) (thing : DueThing) (at : ℕ) (key : List ℕ) → changed_among (txn_changes cleared_by) key (thing_entries thing at (core_facts s)) ≡ pos 0
due_clears s thing at key = still_passes clears_money cleared_by clears_none key (due_holds (core_facts s) thing at (no_clearing (λ t amount. refl)))

clearing_sum : (key : List ℕ) (t : Txn) (parts : Parts) (amount at : ℕ) → changed_among (txn_changes cleared_by) key (act_entries (Clears t parts amount at)) ≡ cond (bytes_eq t.token key) (pos amount) (pos 0)
clearing_sum key t parts amount at =
    let taken = taken_to_clear parts amount in
    let excess = amount - in_all taken in
    let before : List Entry =
    unhold_entries t part.G taken.g ++ unhold_entries t part.P taken.p ++ unhold_entries t part.S taken.s ++ only_gateway t (post_entries t (account.Programme t.currency) (user_account t) excess)
    in
    let paid : List Entry = post_entries t (user_account t) (account.Network t.currency) amount in
    let used : List Entry = only_where excess (entry.Usage (usage_of t (pos excess) (pos 0) at) ∷ []) in
    among_append (txn_changes cleared_by) key (before ++ paid) used
    ∙ sum (changed_among (txn_changes cleared_by) key (before ++ paid)) (changed_among (txn_changes cleared_by) key used) (cond (bytes_eq t.token key) (pos amount) (pos 0))
    (among_append (txn_changes cleared_by) key before paid
    ∙ after (changed_among (txn_changes cleared_by) key before) (changed_among (txn_changes cleared_by) key paid) (cond (bytes_eq t.token key) (pos amount) (pos 0))
    (still_passes clears_money cleared_by clears_none key
    (both_pass (both_pass (both_pass (where_passes taken.g (one_passes refl)) (where_passes taken.p (one_passes refl))) (where_passes taken.s (one_passes refl))) (gateway_passes t (where_passes excess (one_passes refl)))))
    (post_sum clears_money cleared_by clears_none key t (user_account t) (account.Network t.currency) amount refl))
    (still_passes clears_money cleared_by clears_none key (where_passes excess (one_passes {e = entry.Usage (usage_of t (pos excess) (pos 0) at)} refl)))
  where
    sum : (x y z : ℤ) → x ≡ z → y ≡ pos 0 → x +ℤ y ≡ z
    sum x y z e f = omega (arith, ints, e, f)

    after : (x y z : ℤ) → x ≡ pos 0 → y ≡ z → x +ℤ y ≡ z
    after x y z e f = omega (arith, ints, e, f)

-- what follows on a clearing's money clears nothing
rest_unclearing : (f : Facts) (t : Txn) (rest : Parts) (amount : ℕ) (ends : Bool) → EachPasses (posts_no clears_money) (entries_of_acts (after_clearing_acts f t rest amount ends))
rest_unclearing f t rest amount true = with_gateway (is_account_funded t.funding)
  where
    told : ℕ
    told = notice_after_abandonment (next_notice f) f t

    ended : EachPasses (posts_no clears_money) (entries_of_acts (end_acts (next_notice f) f t rest reason.Cleared))
    ended =
        both_pass (unclearing (Abandons (next_notice f) t reason.Cleared (asked_calls_of f t.token) rest) refl)
        (both_pass (unclearing (LetsGo t rest (in_all rest)) refl) (both_pass (unclearing (Ends t) refl) none_passes))

    with_gateway : (own : Bool) → EachPasses (posts_no clears_money) (entries_of_acts (end_acts (next_notice f) f t rest reason.Cleared ++ cond own [] (Tells told captured t amount rest.g ∷ [])))
    with_gateway own =
        subst (EachPasses (posts_no clears_money)) (sym (acts_append (end_acts (next_notice f) f t rest reason.Cleared) (cond own [] (Tells told captured t amount rest.g ∷ [])))) (both_pass ended (tells own))
      where
        tells : (own : Bool) → EachPasses (posts_no clears_money) (entries_of_acts (cond own [] (Tells told captured t amount rest.g ∷ [])))
        tells true = none_passes
        tells false = both_pass (unclearing (Tells told captured t amount rest.g) refl) none_passes
rest_unclearing f t rest amount false = tells (is_account_funded t.funding)
  where
    tells : (own : Bool) → EachPasses (posts_no clears_money) (entries_of_acts (cond own [] (Tells (next_notice f) captured t amount 0 ∷ [])))
    tells true = none_passes
    tells false = both_pass (unclearing (Tells (next_notice f) captured t amount 0) refl) none_passes

-- a token is that of the transaction that it finds
its_token : (txn : List ℕ) (ts : List TxnNow) (now : TxnNow) → txn_named txn ts ≡ Some now → now.txn.token ≡ txn
its_token txn ts now e = one_name now.txn.token txn (found_passes (λ (t : TxnNow). bytes_eq t.txn.token txn) ts now e)

zero_if : (b : Bool) → pos 0 ≡ pos (cond b 0 0)
zero_if true = refl
zero_if false = refl

module _ (s : CoreState) (token txn : List ℕ) (currency : Currency) (amount : ℕ) (key : List ℕ) (fresh : verdict_in s.decisions token ≡ None) where
  clearing_counts : (last : Bool) (at : ℕ) (o : Option TxnNow) → txn_named txn s.holdings.txns ≡ o
      → AreAllowed s (entries_of_acts (acts_unless (clearing_reason o currency) token (clearing_acts (core_facts s) token amount last at o)))
      → Counts clears_money cleared_by clears_none s token txn key amount (entries_of_acts (acts_unless (clearing_reason o currency) token (clearing_acts (core_facts s) token amount last at o)))
  clearing_counts last at None e allowed = declined_counts clears_money cleared_by clears_none s token txn key amount reason.TxnUnknown fresh
  clearing_counts last at (Some now) e allowed = judged (not (same_currency now.txn.currency currency)) allowed
    where
      f : Facts
      f = core_facts s

      judged : (other : Bool) → AreAllowed s (entries_of_acts (acts_unless (cond other (Some reason.Currency) None) token (clearing_acts f token amount last at (Some now))))
          → Counts clears_money cleared_by clears_none s token txn key amount (entries_of_acts (acts_unless (cond other (Some reason.Currency) None) token (clearing_acts f token amount last at (Some now))))
      judged true allowed = declined_counts clears_money cleared_by clears_none s token txn key amount reason.Currency fresh
      judged false allowed =
          let parts : Parts = parts_held f now.txn in
          let rest : Parts = left_of parts (taken_to_clear parts amount) in
          let ends : Bool = now.live && (last || in_all rest == 0) in
          row_counts clears_money cleared_by clears_none s token txn key amount now.txn (Clears now.txn parts amount at) (after_clearing_acts f now.txn rest amount ends) (its_token txn s.holdings.txns now e)
          (clearing_sum key now.txn parts amount at) (rest_unclearing f now.txn rest amount ends) allowed

-- what an input clears, if its event is done
pub own_clears : (s : CoreState) (i : Input) (at : ℕ) (key : List ℕ) → HasTakenUp s i
    → changed_among (txn_changes cleared_by) key (entries_of i at (core_facts s)) ≡ pos (worth_if (verdict_in (fold after_entry s (entries_of i at (core_facts s))).decisions (unwrap_or (event_token i) [])) (cleared_amount key i))
own_clears s (input.Clearing token txn currency amount last) at key ready =
    clearing_counts s token txn currency amount key (undecided (input.Clearing token txn currency amount last) s ready token refl) last at (txn_named txn s.holdings.txns) refl (own_allowed s (input.Clearing token txn currency amount last) at ready)
own_clears s i at key ready =
    still_passes clears_money cleared_by clears_none key (own_holds (core_facts s) i at (no_clearing (λ t amount. refl)))
    ∙ zero_if (is_done (verdict_in (fold after_entry s (entries_of i at (core_facts s))).decisions (unwrap_or (event_token i) [])))

pub unclearing_silent : (i : Input) (key : List ℕ) → event_token i ≡ None → cleared_amount key i ≡ 0
unclearing_silent (input.Clearing token txn currency amount last) key e = cc
unclearing_silent i key e = refl

-- refunds ----

abbrev refunds_money : Account → Account → Bool
refunds_money (account.Network c) (account.User user d) = true
refunds_money _ _ = false

refunds_none : (from to : Account) (n : ℕ) → refunds_money from to ≡ false → refunded_by from to n ≡ pos 0
refunds_none (account.Network c) (account.User user d) n h = cc
refunds_none _ _ n h = refl

unrefunding_item : (a : Act) → may_pay a FromNetwork ≡ false → (x : Item) → has_item a x ≡ true → posts_no refunds_money (item_entry x) ≡ true
unrefunding_item a plain (Paying FromNetwork t n) has = not_both (may_pay a FromNetwork) has plain
unrefunding_item a plain _ has = refl

unrefunding : (a : Act) → may_pay a FromNetwork ≡ false → EachPasses (posts_no refunds_money) (act_entries a)
unrefunding a plain = act_passes a (unrefunding_item a plain)

no_refund : {f : Facts} {by : Cause} {at : ℕ} → ((t : Txn) (amount : ℕ) → refunds by t.token amount ≡ false) → Holds f by at (EachPasses (posts_no refunds_money))
no_refund {by = by} none = record { none = none_passes; then = both_pass; act = λ g a made. unrefunding a (plain a made.cause) }
  where
    plain : (a : Act) → may_act by a ≡ true → may_pay a FromNetwork ≡ false
    plain (GivesBack t amount programme) may = not_both (refunds by t.token amount) may (none t amount)
    plain _ may = refl

pub due_refunds : (s : CoreState) (thing : DueThing) (at : ℕ) (key : List ℕ) → changed_among (txn_changes refunded_by) key (thing_entries thing at (core_facts s)) ≡ pos 0
due_refunds s thing at key = still_passes refunds_money refunded_by refunds_none key (due_holds (core_facts s) thing at (no_refund (λ t amount. refl)))

giving_sum : (key : List ℕ) (t : Txn) (amount programme : ℕ) → changed_among (txn_changes refunded_by) key (act_entries (GivesBack t amount programme)) ≡ cond (bytes_eq t.token key) (pos amount) (pos 0)
giving_sum key t amount programme =
    let first : List Entry = post_entries t (account.Network t.currency) (user_account t) amount in
    let rest : List Entry =
    only_gateway t (post_entries t (user_account t) (account.Programme t.currency) programme ++ post_entries t (user_account t) (account.Gateway t.currency) (amount - programme))
    in
    among_append (txn_changes refunded_by) key first rest
    ∙ sum (changed_among (txn_changes refunded_by) key first) (changed_among (txn_changes refunded_by) key rest) (cond (bytes_eq t.token key) (pos amount) (pos 0))
    (post_sum refunds_money refunded_by refunds_none key t (account.Network t.currency) (user_account t) amount refl)
    (still_passes refunds_money refunded_by refunds_none key (gateway_passes t (both_pass (where_passes programme (one_passes refl)) (where_passes (amount - programme) (one_passes refl)))))
  where
    sum : (x y z : ℤ) → x ≡ z → y ≡ pos 0 → x +ℤ y ≡ z
    sum x y z e f = omega (arith, ints, e, f)

module _ (s : CoreState) (token txn : List ℕ) (currency : Currency) (amount : ℕ) (key : List ℕ) (fresh : verdict_in s.decisions token ≡ None) where
  refund_counts : (o : Option TxnNow) → txn_named txn s.holdings.txns ≡ o
      → AreAllowed s (entries_of_acts (acts_unless (refund_reason (core_facts s) o currency amount) token (refund_acts (core_facts s) token amount o)))
      → Counts refunds_money refunded_by refunds_none s token txn key amount (entries_of_acts (acts_unless (refund_reason (core_facts s) o currency amount) token (refund_acts (core_facts s) token amount o)))
  refund_counts None e allowed = declined_counts refunds_money refunded_by refunds_none s token txn key amount reason.TxnUnknown fresh
  refund_counts (Some now) e allowed = judged (not (same_currency now.txn.currency currency)) (passes_cleared (core_facts s) amount now) allowed
    where
      f : Facts
      f = core_facts s

      judged : (other over : Bool) → AreAllowed s (entries_of_acts (acts_unless (cond other (Some reason.Currency) (cond over (Some reason.RefundOver) None)) token (refund_acts f token amount (Some now))))
          → Counts refunds_money refunded_by refunds_none s token txn key amount (entries_of_acts (acts_unless (cond other (Some reason.Currency) (cond over (Some reason.RefundOver) None)) token (refund_acts f token amount (Some now))))
      judged true over allowed = declined_counts refunds_money refunded_by refunds_none s token txn key amount reason.Currency fresh
      judged false true allowed = declined_counts refunds_money refunded_by refunds_none s token txn key amount reason.RefundOver fresh
      judged false false allowed = with_gateway (is_account_funded now.txn.funding) allowed
        where
          programme : ℕ
          programme = min amount (owed_to_programme f now.txn)

          with_gateway : (own : Bool) → AreAllowed s (entries_of_acts (GivesBack now.txn amount programme ∷ cond own [] (Tells (next_notice f) refunded now.txn amount (amount - programme) ∷ []) ++ Does token ∷ []))
              → Counts refunds_money refunded_by refunds_none s token txn key amount (entries_of_acts (GivesBack now.txn amount programme ∷ cond own [] (Tells (next_notice f) refunded now.txn amount (amount - programme) ∷ []) ++ Does token ∷ []))
          with_gateway true allowed =
              row_counts refunds_money refunded_by refunds_none s token txn key amount now.txn (GivesBack now.txn amount programme) [] (its_token txn s.holdings.txns now e) (giving_sum key now.txn amount programme) none_passes allowed
          with_gateway false allowed =
              row_counts refunds_money refunded_by refunds_none s token txn key amount now.txn (GivesBack now.txn amount programme) (Tells (next_notice f) refunded now.txn amount (amount - programme) ∷ [])
              (its_token txn s.holdings.txns now e) (giving_sum key now.txn amount programme) (both_pass (unrefunding (Tells (next_notice f) refunded now.txn amount (amount - programme)) refl) none_passes) allowed

-- what an input refunds, if its event is done
pub own_refunds : (s : CoreState) (i : Input) (at : ℕ) (key : List ℕ) → HasTakenUp s i
    → changed_among (txn_changes refunded_by) key (entries_of i at (core_facts s)) ≡ pos (worth_if (verdict_in (fold after_entry s (entries_of i at (core_facts s))).decisions (unwrap_or (event_token i) [])) (refunded_amount key i))
own_refunds s (input.Refund token txn currency amount) at key ready =
    refund_counts s token txn currency amount key (undecided (input.Refund token txn currency amount) s ready token refl) (txn_named txn s.holdings.txns) refl (own_allowed s (input.Refund token txn currency amount) at ready)
own_refunds s i at key ready =
    still_passes refunds_money refunded_by refunds_none key (own_holds (core_facts s) i at (no_refund (λ t amount. refl)))
    ∙ zero_if (is_done (verdict_in (fold after_entry s (entries_of i at (core_facts s))).decisions (unwrap_or (event_token i) [])))

pub unrefunding_silent : (i : Input) (key : List ℕ) → event_token i ≡ None → refunded_amount key i ≡ 0
unrefunding_silent (input.Refund token txn currency amount) key e = cc
unrefunding_silent i key e = refl
