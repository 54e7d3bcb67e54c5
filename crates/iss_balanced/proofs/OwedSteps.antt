-- A step keeps each account's balance what done loads and transactions give to it.
use Rattle.std.proofs.Common.{◌≡◌, ◌∙◌, ◌++◌, ◌∷◌, ◌+◌, ◌+ℤ◌, ℕ, ℤ, pos, neg_ℤ, ap, ap₂, arith, false, fold, List, [], map, refl, sym, true}
use Rattle.std.specs.Prelude.{Option, Some, None}
use Rattle.std.specs.List.{list_all}
use Rattle.std.proofs.lemmas.Int.{ints}
use Rattle.iss_model.specs.declared.account.Account.{Account}
use Rattle.iss_model.specs.declared.account.Account.TheVariants as account
use Rattle.iss_model.specs.declared.account.Part.TheVariants as part
use Rattle.iss_model.specs.declared.currency.Currency.TheVariants.{Usd}
use Rattle.iss_model.specs.declared.entry.Entry.{Entry}
use Rattle.iss_model.specs.declared.entry.Entry.TheVariants as entry
use Rattle.iss_model.specs.declared.input.Input.{Input}
use Rattle.iss_model.specs.declared.input.Input.TheVariants as input
use Rattle.iss_model.specs.declared.input.Record.{Record}
use Rattle.iss_model.specs.declared.setting.Moved.TheVariants as moved
use Rattle.iss_model.specs.declared.txn.Txn.{Txn}
use Rattle.iss_model.specs.Inputs.{event_token, is_text}
use Rattle.iss_model.specs.Sums.{account_key, balance_changes, changed_at, cleared_by, paid_by, part_changes, part_key, refunded_by, txn_changes}
use Rattle.iss_model.specs.rules.Activity.{TxnNow, txn_named}
use Rattle.iss_model.specs.rules.Due.{DueItem, DueThing, due_items, thing_entries}
use Rattle.iss_model.specs.rules.Facts.{Accepted}
use Rattle.iss_model.specs.rules.Keeper.{Growth}
use Rattle.iss_model.specs.rules.Stepping.{after_due, entries_of, step}
use Rattle.iss_model.specs.state.Cores.{CoreState, after_entry, after_setting, core_facts, core_keeper, is_live, no_core, txn_after_end, with_record}
use Rattle.iss_model.specs.state.Kept.{Kept, kept_at}
use Rattle.iss_model.proofs.KeptSums.{kept_at-after_changes}
use Rattle.iss_model.proofs.Names.{one_name}
use Rattle.iss_acts.specs.Causes.{Cause, ComesOf, FallsDue}
use Rattle.iss_acts.proofs.Stepping.{settled_stays}
use Rattle.iss_acts.proofs.Walk.{due_holds, own_holds}
use Rattle.iss_state.specs.Allowed.{IsAllowed}
use Rattle.iss_state.specs.Dockets.{docket_of}
use Rattle.iss_state.specs.Holdings.{IsHeldWell}
use Rattle.iss_state.specs.Pending.{AreAllowed, HasTakenUp, IsWell}
use Rattle.iss_state.specs.Sound.{IsNewEvent, is_accepted}
use Rattle.iss_state.proofs.calls.Steps.{due_allowed, own_allowed, ready_settled, ready_taken, step_well}
use Rattle.iss_state.proofs.docket.Entering.{same_txn}
use Rattle.iss_state.proofs.docket.Lists.{Each}
use Rattle.iss_state.proofs.held.Changes.{begun_sum}
use Rattle.iss_state.proofs.held.Steps.{thing_held}
use Rattle.iss_states.specs.Fairness.{changed_among}
use Rattle.iss_states.proofs.Decided.{step_takes_up}
use Rattle.iss_states.proofs.FairSums.{entries_sum, entry_cleared, entry_paid, entry_refunded}
use Rattle.iss_well_formed.proofs.DoneSums.{NotAmong, all_decide, decides_own, entries_done, none_of}
use Rattle.iss_well_formed.proofs.ListedSums.{unlisted_before}
use Rattle.iss_well_formed.proofs.OwnEvents.{IsOwn}
use Rattle.iss_well_formed.proofs.SumSteps.{none_kept}
use Rattle.iss_balanced.specs.Owed.{loaded_in, loaded_to}
use Rattle.iss_balanced.proofs.Loads.{due_loads, loads_of, loads_with, own_loads}
use Rattle.iss_balanced.proofs.ShareActs.{input_adds, thing_adds}
use Rattle.iss_balanced.proofs.Shares.{Amounts, share}
use Rattle.iss_balanced.proofs.ShareSums.{Adds, added, load_changes, moved_among, nothing_of, over, over_added, over_same, share_nothing}

-- what entries do to sums ----

pub setting_balances : (s : CoreState) (i : Input) → (after_setting s i).balances ≡ s.balances
setting_balances s (input.Move token (moved.Card card to)) = refl
setting_balances s (input.Move token (moved.User user to)) = refl
setting_balances s _ = refl

setting_parts : (s : CoreState) (i : Input) → (after_setting s i).holdings.parts ≡ s.holdings.parts
setting_parts s (input.Move token (moved.Card card to)) = refl
setting_parts s (input.Move token (moved.User user to)) = refl
setting_parts s _ = refl

setting_txns : (s : CoreState) (i : Input) → (after_setting s i).holdings.txns ≡ s.holdings.txns
setting_txns s (input.Move token (moved.Card card to)) = refl
setting_txns s (input.Move token (moved.User user to)) = refl
setting_txns s _ = refl

nothing_more : (z : ℤ) → z ≡ z +ℤ pos 0
nothing_more z = omega (arith, ints)

entry_balances : (s : CoreState) (e : Entry) (key : List ℕ) → kept_at (after_entry s e).balances key ≡ kept_at s.balances key +ℤ changed_at key (balance_changes e)
entry_balances s (entry.Conf i) key = ap (λ (x : Kept). kept_at x key) (setting_balances s i) ∙ nothing_more (kept_at s.balances key)
entry_balances s (entry.Post from to amount txn) key = kept_at-after_changes s.balances (balance_changes (entry.Post from to amount txn)) key
entry_balances s _ key = nothing_more (kept_at s.balances key)

entry_parts : (s : CoreState) (e : Entry) (key : List ℕ) → kept_at (after_entry s e).holdings.parts key ≡ kept_at s.holdings.parts key +ℤ changed_at key (part_changes e)
entry_parts s (entry.Conf i) key = ap (λ (x : Kept). kept_at x key) (setting_parts s i) ∙ nothing_more (kept_at s.holdings.parts key)
entry_parts s (entry.Began t) key = begun_sum s.holdings.parts t key ∙ nothing_more (kept_at s.holdings.parts key)
entry_parts s (entry.Hold txn user currency p amount) key = kept_at-after_changes s.holdings.parts (part_changes (entry.Hold txn user currency p amount)) key
entry_parts s _ key = nothing_more (kept_at s.holdings.parts key)

-- what a core keeps of a transaction
abbrev pub kept_of_txn : CoreState → List ℕ → Amounts
kept_of_txn c k =
    record {
      g = kept_at c.holdings.parts (part_key k part.G);
      p = kept_at c.holdings.parts (part_key k part.P);
      cleared = kept_at c.txn_sums.cleared k;
      refunded = kept_at c.txn_sums.refunded k;
      paid = kept_at c.txn_sums.paid k;
    }

kept_after : (s : CoreState) (es : List Entry) (k : List ℕ) → kept_of_txn (fold after_entry s es) k ≡ added (kept_of_txn s k) (moved_among es k)
kept_after s es k =
    λ i. record {
      g = entries_sum (λ (c : CoreState) (key : List ℕ). kept_at c.holdings.parts key) part_changes entry_parts s es (part_key k part.G) i;
      p = entries_sum (λ (c : CoreState) (key : List ℕ). kept_at c.holdings.parts key) part_changes entry_parts s es (part_key k part.P) i;
      cleared = entries_sum (λ (c : CoreState) (key : List ℕ). kept_at c.txn_sums.cleared key) (txn_changes cleared_by) entry_cleared s es k i;
      refunded = entries_sum (λ (c : CoreState) (key : List ℕ). kept_at c.txn_sums.refunded key) (txn_changes refunded_by) entry_refunded s es k i;
      paid = entries_sum (λ (c : CoreState) (key : List ℕ). kept_at c.txn_sums.paid key) (txn_changes paid_by) entry_paid s es k i;
    }

-- transactions that begin have nothing yet ----

over_more : (a : Account) (f : List ℕ → Amounts) (xs : List TxnNow) (x : TxnNow) → f x.txn.token ≡ nothing_of → over a f (xs ++ x ∷ []) ≡ over a f xs
over_more a f [] x e = ap (λ (y : Amounts). share a x.txn y +ℤ pos 0) e ∙ ap (λ (z : ℤ). z +ℤ pos 0) (share_nothing a x.txn)
over_more a f (y ∷ ys) x e = ap (λ (z : ℤ). share a y.txn (f y.txn.token) +ℤ z) (over_more a f ys x e)

over_ended : (a : Account) (f : List ℕ → Amounts) (token : List ℕ) (xs : List TxnNow) → over a f (map (txn_after_end token) xs) ≡ over a f xs
over_ended a f token [] = refl
over_ended a f token (x ∷ xs) = ap₂ (λ (t : Txn) (z : ℤ). share a t (f t.token) +ℤ z) (same_txn token x) (over_ended a f token xs)

over_kept : (a : Account) (f : List ℕ → Amounts) (s : CoreState) (es : List Entry) → AreAllowed s es → ((k : List ℕ) → txn_named k s.holdings.txns ≡ None → f k ≡ nothing_of)
    → over a f (fold after_entry s es).holdings.txns ≡ over a f s.holdings.txns
over_kept a f s [] allowed none = refl
over_kept a f s (e ∷ es) allowed none = over_kept a f (after_entry s e) es allowed.1 (λ k out. none k (unlisted_before s (e ∷ []) k out)) ∙ one e allowed.0
  where
    one : (e : Entry) → IsAllowed (docket_of s) e → over a f (after_entry s e).holdings.txns ≡ over a f s.holdings.txns
    one (entry.Conf i) h = ap (over a f) (setting_txns s i)
    one (entry.Began t) h = over_more a f s.holdings.txns (record { txn = t; live = is_live s.holdings.txns t.token }) (none t.token h)
    one (entry.Ended txn) h = over_ended a f txn s.holdings.txns
    one _ h = refl

-- rows ----

-- Each account has what done loads and transactions give to it, and nothing is kept of a transaction that doesn't stand.
pub record Owes (c : CoreState) (xs : List Accepted) : Type 0 where
  pub each : (a : Account) → kept_at c.balances (account_key a) ≡ loads_of c.decisions xs a +ℤ over a (kept_of_txn c) c.holdings.txns
  pub unkept : (k : List ℕ) → txn_named k c.holdings.txns ≡ None → kept_of_txn c k ≡ nothing_of

row_unkept : (s : CoreState) (es : List Entry) (a : Account) → Adds (fold after_entry s es).holdings.txns a es → ((k : List ℕ) → txn_named k s.holdings.txns ≡ None → kept_of_txn s k ≡ nothing_of)
    → (k : List ℕ) → txn_named k (fold after_entry s es).holdings.txns ≡ None → kept_of_txn (fold after_entry s es) k ≡ nothing_of
row_unkept s es a adds none k out = kept_after s es k ∙ ap₂ added (none k (unlisted_before s es k out)) (adds.others k out)

row_each : (s : CoreState) (es : List Entry) (xs : List Accepted) (a : Account) → Adds (fold after_entry s es).holdings.txns a es → AreAllowed s es → Owes s xs
    → kept_at (fold after_entry s es).balances (account_key a)
    ≡ (loads_of s.decisions xs a +ℤ changed_among load_changes (account_key a) es) +ℤ over a (kept_of_txn (fold after_entry s es)) (fold after_entry s es).holdings.txns
row_each s es xs a adds allowed h =
    let w : CoreState = fold after_entry s es in
    all (loads_of s.decisions xs a) (changed_among load_changes (account_key a) es) (over a (kept_of_txn s) s.holdings.txns) (over a (moved_among es) w.holdings.txns)
    (entries_sum (λ (c : CoreState) (key : List ℕ). kept_at c.balances key) balance_changes entry_balances s es (account_key a)) (h.each a) adds.same
    (over_same a (kept_of_txn w) (λ k. added (kept_of_txn s k) (moved_among es k)) (kept_after s es) w.holdings.txns
    ∙ over_added a (kept_of_txn s) (moved_among es) w.holdings.txns
    ∙ ap (λ (z : ℤ). z +ℤ over a (moved_among es) w.holdings.txns) (over_kept a (kept_of_txn s) s es allowed h.unkept))
  where
    all : (l x o m : ℤ) {b c d u : ℤ} → b ≡ c +ℤ d → c ≡ l +ℤ o → d ≡ x +ℤ m → u ≡ o +ℤ m → b ≡ (l +ℤ x) +ℤ u
    all l x o m e f g h = omega (arith, ints, e, f, g, h)

-- events before are decided as they were
loads_kept : (by : Cause) (s : CoreState) (es : List Entry) (xs : List Accepted) (a : Account) → NotAmong by xs → list_all (decides_own by) es ≡ true → loads_of (fold after_entry s es).decisions xs a ≡ loads_of s.decisions xs a
loads_kept by s es xs (account.Programme c) new h = ap (λ (n : ℕ). neg_ℤ (pos n)) (entries_done by s es (loaded_in c) xs new h)
loads_kept by s es xs (account.User user c) new h = ap (λ (n : ℕ). pos n) (entries_done by s es (loaded_to user c) xs new h)
loads_kept by s es xs (account.Gateway c) new h = refl
loads_kept by s es xs (account.Network c) new h = refl

not_among : (i : Input) (before : List Accepted) → ((token : List ℕ) → event_token i ≡ Some token → is_accepted before token ≡ false) → Each (IsOwn before) before → NotAmong (ComesOf i) before
not_among i before new each event h = none_of before before event (new event (named (event_token i) refl h)) each
  where
    named : (o : Option (List ℕ)) → event_token i ≡ o → is_text event o ≡ true → event_token i ≡ Some event
    named None e h = cc
    named (Some token) e h = e ∙ ap (λ (t : List ℕ). Some t) (one_name token event h)

-- a step ----

record IsOwedReady (i : Input) (xs : List Accepted) (s : CoreState) : Type 0 where
  taken : HasTakenUp s i
  held : IsHeldWell s
  owes : Owes s xs

thing_owes : (i : Input) (at : ℕ) (xs : List Accepted) (s : CoreState) (thing : DueThing) → IsOwedReady i xs s → IsOwedReady i xs (fold after_entry s (thing_entries thing at (core_facts s)))
thing_owes i at xs s thing now =
    let es : List Entry = thing_entries thing at (core_facts s) in
    let w : CoreState = fold after_entry s es in
    let taken : HasTakenUp w i = ready_settled s i thing at now.taken in
    let adds : (a : Account) → Adds w.holdings.txns a es = λ a. thing_adds s thing at a now.taken.well now.held taken.well.txns.tokens in
    record {
      taken = taken;
      held = thing_held s i thing at now.taken now.held;
      owes = record {
        each = λ a.
            row_each s es xs a (adds a) (due_allowed s i thing at now.taken) now.owes
            ∙ ap (λ (z : ℤ). z +ℤ over a (kept_of_txn w) w.holdings.txns)
            (ap (λ (z : ℤ). loads_of s.decisions xs a +ℤ z) (due_loads s thing at (account_key a))
            ∙ sym (nothing_more (loads_of s.decisions xs a))
            ∙ sym (loads_kept FallsDue s es xs a (λ event h. never h) (due_holds (core_facts s) thing at all_decide).all));
        unkept = row_unkept s es (account.Gateway Usd) (adds (account.Gateway Usd)) now.owes.unkept;
      };
    }
  where
    never : {P : Type 0} → false ≡ true → P
    never h = cc

pub step_owes : (c : CoreState) (r : Record) → IsNewEvent c r.input → IsWell c → IsHeldWell c → Each (IsOwn c.accepted) c.accepted → Owes c c.accepted → Owes (step core_keeper c r).world (step core_keeper c r).world.accepted
unfolding step
step_owes c r new well held each h =
    let up : CoreState = with_record c r in
    let start : Growth CoreState = record { world = up; entries = [] } in
    let items : List DueItem = due_items (core_facts up) r.at in
    let later : CoreState = (after_due core_keeper up r.at).world in
    let now : IsOwedReady r.input c.accepted later =
    settled_stays (IsOwedReady r.input c.accepted) r.at (thing_owes r.input r.at c.accepted) start items (record { taken = ready_taken c r well new; held = held; owes = record { each = h.each; unkept = h.unkept } })
    in
    let es : List Entry = entries_of r.input r.at (core_facts later) in
    let w : CoreState = fold after_entry later es in
    let row : Accepted = record { number = c.count + 1; at = r.at; input = r.input } in
    let adds : (a : Account) → Adds w.holdings.txns a es = λ a. input_adds later r.input r.at a now.taken now.held (step_well c r new well).docket.txns.tokens in
    record {
      each = λ a.
          row_each later es c.accepted a (adds a) (own_allowed later r.input r.at now.taken) now.owes
          ∙ ap (λ (z : ℤ). z +ℤ over a (kept_of_txn w) w.holdings.txns)
          (ap₂ (λ (x y : ℤ). x +ℤ y)
          (sym (loads_kept (ComesOf r.input) later es c.accepted a (not_among r.input c.accepted new each) (own_holds (core_facts later) r.input r.at all_decide).all))
          (own_loads later r.input r.at a now.taken)
          ∙ sym (loads_with w.decisions c.accepted row a)
          ∙ ap (λ (xs : List Accepted). loads_of w.decisions xs a) (sym (step_takes_up c r).accepted));
      unkept = row_unkept later es (account.Gateway Usd) (adds (account.Gateway Usd)) now.owes.unkept;
    }

-- without a record ----

pub nothing_owes : Owes no_core []
nothing_owes =
    record {
      each = λ a. none_kept (account_key a) ∙ by a;
      unkept = λ k out. λ i. record {
        g = none_kept (part_key k part.G) i;
        p = none_kept (part_key k part.P) i;
        cleared = none_kept k i;
        refunded = none_kept k i;
        paid = none_kept k i;
      };
    }
  where
    by : (a : Account) → pos 0 ≡ loads_of [] [] a +ℤ pos 0
    by (account.Programme c) = refl
    by (account.User user c) = refl
    by (account.Gateway c) = refl
    by (account.Network c) = refl
