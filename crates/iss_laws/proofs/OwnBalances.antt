-- On the book of every legal list of records a user's balance is what the user owns.
use Rattle.std.proofs.Common.{◌≡◌, ℕ, ℤ, ◌+ℤ◌, Bool, true, ◌&&◌, List, [], ◌∷◌, ◌++◌, refl, sym, ap, ap₂, subst, ◌∙◌}
use Rattle.std.proofs.lemmas.Bool.Decides.{Decides-int_eq}
use Rattle.std.specs.Prelude.{Option, Some, None, option_map}
use Rattle.std.specs.List.{list_all}
use Rattle.iss_model.specs.declared.account.Account.{Account}
use Rattle.iss_model.specs.declared.account.Account.TheVariants as account
use Rattle.iss_model.specs.declared.entry.Entry.{Entry}
use Rattle.iss_model.specs.declared.entry.Row.{Row}
use Rattle.iss_model.specs.declared.input.Input.{Input}
use Rattle.iss_model.specs.declared.input.Record.{Record}
use Rattle.iss_model.specs.declared.setting.Funding.{Funding}
use Rattle.iss_model.specs.Sums.{balance_changes, sum_at, user_key}
use Rattle.iss_model.specs.rules.Activity.{TxnNow, txn_named}
use Rattle.iss_model.specs.rules.CardReasons.{is_account_funded}
use Rattle.iss_model.specs.rules.Due.{thing_entries}
use Rattle.iss_model.specs.rules.Facts.{Facts, balance_in}
use Rattle.iss_model.specs.rules.Histories.{History, IsLegal, history_facts, history_of}
use Rattle.iss_model.specs.rules.Stepping.{entries_of, step}
use Rattle.iss_model.specs.state.Cores.{CoreState, core_facts, core_keeper, core_of, with_record}
use Rattle.iss_agreement.proofs.CoreOfBook.{facts_history}
use Rattle.iss_state.specs.Sound.{IsNewEvent}
use Rattle.iss_state.proofs.invariants.Legal.{legal_induction}
use Rattle.iss_state.proofs.docket.Lists.{inside}
use Rattle.iss_state.specs.Pending.{HasTakenUp, IsWell}
use Rattle.iss_state.proofs.calls.Legal.{nothing_well}
use Rattle.iss_state.proofs.calls.Steps.{ready_settled, ready_taken, step_well}
use Rattle.iss_state.specs.Holdings.{IsHeldWell}
use Rattle.iss_state.proofs.held.Steps.{HoldsWell, nothing_held, step_held, thing_held}
use Rattle.iss_laws.specs.UserBalances.{EachBalanceIsOwn, accounts_named, balances_are_own, has_own_balance, is_own, own_changes, owned_in, pays_itself}
use Rattle.iss_acts.proofs.Stepping.{GoesThrough, step_leads}
use Rattle.iss_laws.proofs.OwnInputs.{Agrees, agrees_before, input_same, thing_same}
use Rattle.iss_laws.proofs.OwnPieces.{AddsSame, both_same, none_same}
use Rattle.iss_laws.proofs.Rows.{next_summed}

-- what agrees with the later state agrees with the earlier one, and the entries between them add the same
record AddsAsAgreed (own : List ℕ → Bool) (key : List ℕ) (s : CoreState) (es : List Entry) (later : CoreState) : Type 0 where
  back : Agrees own later.holdings.txns → Agrees own s.holdings.txns
  same : Agrees own later.holdings.txns → AddsSame own key es

-- a record was taken up, and all is held well
record IsHeldReady (i : Input) (s : CoreState) : Type 0 where
  taken : HasTakenUp s i
  held : IsHeldWell s

adds_through : (own : List ℕ → Bool) (key : List ℕ) (i : Input) (at : ℕ) → GoesThrough (IsHeldReady i) (AddsAsAgreed own key) i at
adds_through own key i at =
    record {
      none = λ s. record { back = λ agrees. agrees; same = λ agrees. none_same };
      then = λ s t u xs ys h k. record { back = λ agrees. h.back (k.back agrees); same = λ agrees. both_same (h.same (k.back agrees)) (k.same agrees) };
      due = λ s thing ready. record { back = agrees_before own s (thing_entries thing at (core_facts s)); same = thing_same own key s thing at ready.taken.well ready.held };
      own = λ s ready. record { back = agrees_before own s (entries_of i at (core_facts s)); same = input_same own key s i at ready.taken ready.held };
      stays = λ s thing ready. record { taken = ready_settled s i thing at ready.taken; held = thing_held s i thing at ready.taken ready.held };
    }

step_adds : (own : List ℕ → Bool) (key : List ℕ) (s : CoreState) (r : Record) → IsNewEvent s r.input → IsWell s → IsHeldWell s
    → AddsAsAgreed own key (with_record s r) (step core_keeper s r).entries (step core_keeper s r).world
step_adds own key s r new well held = step_leads s r (adds_through own key r.input r.at) (record { taken = ready_taken s r well new; held = held })

-- over all records ----

record IsOwned (rs : List Record) (s : CoreState) : Type 0 where
  holds : HoldsWell s
  same : (own : List ℕ → Bool) (key : List ℕ) → Agrees own s.holdings.txns → sum_at balance_changes (4 ∷ key) (history_of rs).rows ≡ sum_at (own_changes own) key (history_of rs).rows

same_more : (rs : List Record) (r : Record) (own : List ℕ → Bool) (key : List ℕ) → IsNewEvent (core_of rs) r.input → IsOwned rs (core_of rs) → Agrees own (step core_keeper (core_of rs) r).world.holdings.txns
    → sum_at balance_changes (4 ∷ key) (history_of (rs ++ r ∷ [])).rows ≡ sum_at (own_changes own) key (history_of (rs ++ r ∷ [])).rows
same_more rs r own key new h agrees =
    let adds = step_adds own key (core_of rs) r new h.holds.well h.holds.held in
    let before = h.same own key (adds.back agrees) in
    next_summed balance_changes (4 ∷ key) rs r ∙ ap₂ (λ (x y : ℤ). x +ℤ y) before (adds.same agrees).same ∙ sym (next_summed (own_changes own) key rs r)

all_owned : (rs : List Record) → IsLegal rs → IsOwned rs (core_of rs)
all_owned rs legal =
    legal_induction IsOwned (record { holds = record { well = nothing_well; held = nothing_held }; same = λ own key agrees. refl })
    (λ rs r new h. record {
      holds = record { well = step_well (core_of rs) r new h.holds.well; held = step_held (core_of rs) r new h.holds.well h.holds.held };
      same = λ own key agrees. same_more rs r own key new h agrees;
    }) rs legal

-- the facts tell which transactions the user's own balance pays
facts_agree : (s : CoreState) → Agrees (is_own (core_facts s)) s.holdings.txns
facts_agree s = record { at = λ token f e. by (txn_named token s.holdings.txns) f e }
  where
    by : (o : Option TxnNow) (f : Funding) → option_map (λ (t : TxnNow). t.txn.funding) o ≡ Some f → pays_itself o ≡ is_account_funded f
    by None f e = cc
    by (Some now) f e = ap is_account_funded (inside e)

pub law_owned : (rs : List Record) → IsLegal rs → EachBalanceIsOwn (history_of rs)
law_owned rs legal user c =
    (all_owned rs legal).same (is_own (history_facts (history_of rs))) (user_key user c)
    (subst (λ (f : Facts). Agrees (is_own f) (core_of rs).holdings.txns) (facts_history rs) (facts_agree (core_of rs)))

-- as a test ----

all_true : {A : Type 0} (q : A → Bool) → ((x : A) → q x ≡ true) → (xs : List A) → list_all q xs ≡ true
all_true q each [] = refl
all_true q each (x ∷ xs) = ap (λ (b : Bool). b && list_all q xs) (each x) ∙ all_true q each xs

has_it : (h : History) → EachBalanceIsOwn h → (a : Account) → has_own_balance h a ≡ true
has_it h each (account.User user c) = (Decides-int_eq (balance_in (history_facts h) (account.User user c)) (owned_in h user c)).1 (each user c)
has_it h each (account.Gateway c) = refl
has_it h each (account.Programme c) = refl
has_it h each (account.Network c) = refl

pub law_balances : (rs : List Record) → IsLegal rs → balances_are_own (history_of rs) ≡ true
law_balances rs legal =
    let h : History = history_of rs in
    all_true (λ (row : Row). list_all (has_own_balance h) (accounts_named row.entry)) (λ row. all_true (has_own_balance h) (has_it h (law_owned rs legal)) (accounts_named row.entry)) h.rows
