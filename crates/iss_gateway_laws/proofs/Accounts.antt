-- The gateway's account has what notices gave back, less what funded calls cost.
use Rattle.std.proofs.Common.{◌≡◌, ℕ, ℤ, pos, neg_ℤ, ◌+ℤ◌, Bool, true, false, cond, ◌&&◌, nat_eq, List, [], ◌∷◌, ◌++◌, fold, map, refl, sym, ap, ap₂, subst, ◌∙◌, arith}
use Rattle.std.specs.Prelude.{Some, ◌-ℤ◌}
use Rattle.std.specs.List.{cons_option, list_all}
use Rattle.std.specs.Str.{bytes_eq}
use Rattle.std.proofs.lemmas.Bool.{and_parts}
use Rattle.std.proofs.lemmas.Int.{ints}
use Rattle.std.proofs.lemmas.List.{append-nil}
use Rattle.std.proofs.lemmas.List.Folds.{list_all-append}
use Rattle.iss_model.specs.declared.account.Account.TheVariants as account
use Rattle.iss_model.specs.declared.account.Part.TheVariants as part
use Rattle.iss_model.specs.declared.call.CallId.{CallId}
use Rattle.iss_model.specs.declared.call.Failure.TheVariants as failure
use Rattle.iss_model.specs.declared.call.How.{How}
use Rattle.iss_model.specs.declared.call.How.TheVariants as how
use Rattle.iss_model.specs.declared.call.Opened.{Opened}
use Rattle.iss_model.specs.declared.currency.Currency.{Currency}
use Rattle.iss_model.specs.declared.decision.Verdict.{Verdict}
use Rattle.iss_model.specs.declared.decision.Verdict.TheVariants as verdict
use Rattle.iss_model.specs.declared.entry.Entry.{Entry}
use Rattle.iss_model.specs.declared.entry.Entry.TheVariants as entry
use Rattle.iss_model.specs.declared.entry.Row.{Row}
use Rattle.iss_model.specs.declared.input.Input.{Input}
use Rattle.iss_model.specs.declared.input.Input.TheVariants as input
use Rattle.iss_model.specs.declared.input.Outcome.{Outcome}
use Rattle.iss_model.specs.declared.input.Outcome.TheVariants as outcome
use Rattle.iss_model.specs.declared.input.Record.{Record}
use Rattle.iss_model.specs.declared.txn.Txn.{Txn}
use Rattle.iss_model.specs.Currencies.{iso_number, same_currency}
use Rattle.iss_model.specs.Forms.{is_in_form}
use Rattle.iss_model.specs.Sums.{account_key, balance_changes, changed_at, sum_at}
use Rattle.iss_model.specs.rules.Activity.{CallNow, TxnNow, call_numbered, calls_of, is_asked, notice_made, notices_of, txn_named}
use Rattle.iss_model.specs.rules.Acts.{Act, Funds, FundsPart, Refuses, act_entries, entries_of_acts}
use Rattle.iss_model.specs.rules.Asks.{rest_given_back}
use Rattle.iss_model.specs.rules.CardActs.{counts_as_part, failed_acts, outcome_acts}
use Rattle.iss_model.specs.rules.Due.{DueThing, thing_entries}
use Rattle.iss_model.specs.rules.Facts.{Facts}
use Rattle.iss_model.specs.rules.Histories.{IsLegal, history_of}
use Rattle.iss_model.specs.rules.Pieces.{hold_entries, post_entries, user_account}
use Rattle.iss_model.specs.rules.Stepping.{entries_of, step}
use Rattle.iss_model.specs.state.Cores.{CoreState, after_entry, call_after_close, core_facts, core_keeper, core_of}
use Rattle.iss_acts.specs.Causes.{ComesOf, FallsDue}
use Rattle.iss_acts.proofs.Passing.{EachPasses, both_pass, none_passes, one_passes, where_passes}
use Rattle.iss_acts.proofs.Stepping.{GoesThrough, step_leads}
use Rattle.iss_acts.proofs.Walk.{Holds, due_holds, own_holds}
use Rattle.iss_agreement.specs.Laws.{sum_among}
use Rattle.iss_agreement.proofs.CoreOfBook.{facts_history}
use Rattle.iss_agreement.proofs.StepSums.{among_summed}
use Rattle.iss_state.specs.Holdings.{IsHeldWell}
use Rattle.iss_state.specs.Numbers.{CallsNumberedFrom}
use Rattle.iss_state.specs.Pending.{HasTakenUp, IsWell}
use Rattle.iss_state.specs.Sound.{AreInForm, IsNewEvent}
use Rattle.iss_state.specs.Well.{IsAsked}
use Rattle.iss_state.proofs.calls.Due.{if_asked}
use Rattle.iss_state.proofs.calls.Legal.{nothing_well}
use Rattle.iss_state.proofs.calls.Steps.{ready_settled, ready_taken, step_well}
use Rattle.iss_state.proofs.docket.Closing.{its_number}
use Rattle.iss_state.proofs.docket.Lists.{inside}
use Rattle.iss_state.proofs.effects.Finds.{number_is}
use Rattle.iss_state.proofs.held.Steps.{HoldsWell, nothing_held, step_held, thing_held}
use Rattle.iss_state.proofs.invariants.Legal.{legal_induction}
use Rattle.iss_laws.specs.Payable.{ArePayable, IsPayable}
use Rattle.iss_laws.proofs.CallActs.{all_open_none}
use Rattle.iss_laws.proofs.CallSteps.{nothing_payable, step_pays}
use Rattle.iss_laws.proofs.Payable.{entries_payable, none_needed}
use Rattle.iss_laws.proofs.Rows.{entries_of_next, next_summed}
use Rattle.iss_gateway_laws.specs.Accounts.{IsEvenAccount, back_by, cost_of, sum_over}
use Rattle.iss_gateway_laws.proofs.Costs.{calm_plain, costs, entries_cost, funded_cost, is_other, is_plain, other_plain}
use Rattle.iss_gateway_laws.proofs.Money.{Adds, Repays, both_add, calm_adds, calm_row, comes_repaid, is_calm_act, key, notice_changes, where_calm}
use Rattle.iss_gateway_laws.proofs.Rows.{failed_calm, own_repays, thing_repays}

-- one account is one currency's ----

same_key : (d c : Currency) → bytes_eq (account_key (account.Gateway d)) (key c) ≡ same_currency d c
same_key d c = last (nat_eq (iso_number d) (iso_number c))
  where
    last : (b : Bool) → (b && true) ≡ b
    last true = refl
    last false = refl

-- What entries take from the account is what calls cost more, and what they give back is what notices say.
record Accounts (c : Currency) (before : List CallNow) (es : List Entry) (after : List CallNow) : Type 0 where
  even : sum_among balance_changes (key c) es +ℤ costs c after ≡ sum_among notice_changes (key c) es +ℤ costs c before

abbrev RowAccounts : Currency → CoreState → List Act → Type 0
RowAccounts c s acts = Accounts c s.calls (entries_of_acts acts) (fold after_entry s (entries_of_acts acts)).calls

plain_accounts : (c : Currency) (s : CoreState) (es : List Entry) → Repays c es → list_all is_plain es ≡ true → Accounts c s.calls es (fold after_entry s es).calls
plain_accounts c s es repays plain = record { even = ap₂ (λ (a b : ℤ). a +ℤ b) repays.same (entries_cost c s es plain) }

none_accounts : (c : Currency) (calls : List CallNow) → Accounts c calls [] calls
none_accounts c calls = record { even = refl }

-- an answer that funds a call, in part or whole ----

from_gateway : (c : Currency) (t : Txn) (n : ℕ) → Adds c (post_entries t (account.Gateway t.currency) (user_account t) n) (cond (same_currency t.currency c) (neg_ℤ (pos n)) (pos 0)) (pos 0)
from_gateway c t n = by (nat_eq n 0) refl
  where
    left_out : (b : Bool) → nat_eq n 0 ≡ true → pos 0 ≡ cond b (neg_ℤ (pos n)) (pos 0)
    left_out true e = ap (λ (m : ℕ). neg_ℤ (pos m)) (sym (number_is n 0 e))
    left_out false e = refl

    alone : (z : ℤ) → (pos 0 +ℤ (z +ℤ pos 0)) +ℤ pos 0 ≡ z
    alone z = omega (arith, ints)

    by : (b : Bool) → nat_eq n 0 ≡ b
        → Adds c (cond b [] (entry.Post (account.Gateway t.currency) (user_account t) n (Some t.token) ∷ [])) (cond (same_currency t.currency c) (neg_ℤ (pos n)) (pos 0)) (pos 0)
    by true e = record { to_balance = left_out (same_currency t.currency c) e; to_told = refl }
    by false e =
        record {
          to_balance = alone (cond (bytes_eq (account_key (account.Gateway t.currency)) (key c)) (neg_ℤ (pos n)) (pos 0))
              ∙ ap (λ (b : Bool). cond b (neg_ℤ (pos n)) (pos 0)) (same_key t.currency c);
          to_told = refl;
        }

-- the post, what is held and the decision
abbrev money_of : List ℕ → Txn → ℕ → Verdict → List Entry
money_of event t n v = post_entries t (account.Gateway t.currency) (user_account t) n ++ hold_entries t part.G n ++ entry.Decided event v ∷ []

money_adds : (c : Currency) (event : List ℕ) (t : Txn) (n : ℕ) (v : Verdict) → Adds c (money_of event t n v) (cond (same_currency t.currency c) (neg_ℤ (pos n)) (pos 0)) (pos 0)
money_adds c event t n v =
    let all = both_add c (both_add c (from_gateway c t n) (where_calm c n (entry.Hold t.token t.user t.currency part.G (pos n)) refl)) (calm_adds c (entry.Decided event v ∷ []) refl) in
    record { to_balance = all.to_balance ∙ alone (cond (same_currency t.currency c) (neg_ℤ (pos n)) (pos 0)); to_told = all.to_told }
  where
    alone : (z : ℤ) → (z +ℤ pos 0) +ℤ pos 0 ≡ z
    alone z = omega (arith, ints)

-- none of these entries opens or closes a call
abbrev leaves_calls : Entry → Bool
leaves_calls (entry.Conf i) = false
leaves_calls (entry.Opened o) = false
leaves_calls (entry.Closed call how) = false
leaves_calls _ = true

calls_left : (s : CoreState) (es : List Entry) → list_all leaves_calls es ≡ true → (fold after_entry s es).calls ≡ s.calls
calls_left s [] h = refl
calls_left s (e ∷ es) h =
    let parts = and_parts (leaves_calls e) (list_all leaves_calls es) h in calls_left (after_entry s e) es parts.1 ∙ one e parts.0
  where
    one : (e : Entry) → leaves_calls e ≡ true → (after_entry s e).calls ≡ s.calls
    one (entry.Conf i) h = cc
    one (entry.Opened o) h = cc
    one (entry.Closed call how) h = cc
    one _ h = refl

money_left : (event : List ℕ) (t : Txn) (n : ℕ) (v : Verdict) → list_all leaves_calls (money_of event t n v) ≡ true
money_left event t n v =
    let all : EachPasses leaves_calls (money_of event t n v) = both_pass (both_pass (where_passes n (one_passes refl)) (where_passes n (one_passes refl))) (one_passes refl) in
    all.all

-- a call is closed, and its money comes
paid_accounts : (c : Currency) (s : CoreState) (n : ℕ) (x : CallNow) (t : Txn) (closed : How) (amount : ℕ) (rest : List Entry) → CallsNumberedFrom 1 s.calls → call_numbered n s.calls ≡ Some x → is_asked x ≡ true
    → t.currency ≡ x.opened.currency → cost_of x.opened.amount (Some closed) ≡ amount → Adds c rest (cond (same_currency t.currency c) (neg_ℤ (pos amount)) (pos 0)) (pos 0) → list_all leaves_calls rest ≡ true
    → Accounts c s.calls (entry.Closed x.opened.call closed ∷ rest) (fold after_entry s (entry.Closed x.opened.call closed ∷ rest)).calls
paid_accounts c s n x t closed amount rest numbers found asked currency paid adds left =
    let after : CoreState = after_entry s (entry.Closed x.opened.call closed) in
    record {
      even = sum (sum_among balance_changes (key c) rest) (sum_among notice_changes (key c) rest) (costs c (fold after_entry after rest).calls) (costs c s.calls)
          (same_currency x.opened.currency c) amount
          (adds.to_balance ∙ ap (λ (d : Currency). cond (same_currency d c) (neg_ℤ (pos amount)) (pos 0)) currency) adds.to_told
          (ap (costs c) (calls_left after rest left) ∙ ap (λ (m : ℕ). costs c (map (call_after_close m closed) s.calls)) (its_number s.calls n x found)
          ∙ funded_cost c s.calls numbers n x found asked closed amount paid);
    }
  where
    sum : (balance told after before : ℤ) (b : Bool) (m : ℕ) → balance ≡ cond b (neg_ℤ (pos m)) (pos 0) → told ≡ pos 0 → after ≡ cond b (pos m) (pos 0) +ℤ before
        → (pos 0 +ℤ balance) +ℤ after ≡ (pos 0 +ℤ told) +ℤ before
    sum balance told after before true m e h k = omega (arith, ints, e, h, k)
    sum balance told after before false m e h k = omega (arith, ints, e, h, k)

nothing_more : (c : Currency) (s : CoreState) (a : Act) → Accounts c s.calls (act_entries a) (fold after_entry s (act_entries a)).calls → RowAccounts c s (a ∷ [])
nothing_more c s a h = subst (λ (es : List Entry). Accounts c s.calls es (fold after_entry s es).calls) (sym (append-nil (act_entries a))) h

calm_accounts : (c : Currency) (s : CoreState) (acts : List Act) → list_all is_calm_act acts ≡ true → RowAccounts c s acts
calm_accounts c s acts h = plain_accounts c s (entries_of_acts acts) (comes_repaid c (calm_row c acts h) refl) (all_plain acts h).all
  where
    all_plain : (acts : List Act) → list_all is_calm_act acts ≡ true → EachPasses is_plain (entries_of_acts acts)
    all_plain [] h = none_passes
    all_plain (a ∷ acts) h =
        let parts = and_parts (is_calm_act a) (list_all is_calm_act acts) h in both_pass (calm_plain a parts.0) (all_plain acts parts.1)

part_accounts : (c : Currency) (s : CoreState) (n : ℕ) (x : CallNow) (t : Txn) (amount : ℕ) → CallsNumberedFrom 1 s.calls → call_numbered n s.calls ≡ Some x → is_asked x ≡ true → t.currency ≡ x.opened.currency
    → RowAccounts c s (FundsPart x.opened t amount ∷ [])
part_accounts c s n x t amount numbers found asked currency =
    let rest : List Entry = money_of x.opened.event t amount (verdict.Partial t.currency amount) in
    let used = both_add c (calm_adds c (entry.Usage (rest_given_back x.opened t amount) ∷ []) refl) (money_adds c x.opened.event t amount (verdict.Partial t.currency amount)) in
    nothing_more c s (FundsPart x.opened t amount)
    (paid_accounts c s n x t (how.Partial amount) amount (entry.Usage (rest_given_back x.opened t amount) ∷ rest) numbers found asked currency refl
    (record { to_balance = used.to_balance ∙ alone (cond (same_currency t.currency c) (neg_ℤ (pos amount)) (pos 0)); to_told = used.to_told })
    (money_left x.opened.event t amount (verdict.Partial t.currency amount)))
  where
    alone : (z : ℤ) → pos 0 +ℤ z ≡ z
    alone z = omega (arith, ints)

outcome_accounts : (what : Outcome) (c : Currency) (s : CoreState) (n : ℕ) (x : CallNow) (t : Txn) (at : ℕ) → CallsNumberedFrom 1 s.calls → call_numbered n s.calls ≡ Some x → is_asked x ≡ true
    → t.currency ≡ x.opened.currency → RowAccounts c s (outcome_acts what (core_facts s) x.opened t at)
outcome_accounts outcome.Funded c s n x t at numbers found asked currency =
    nothing_more c s (Funds x.opened t)
    (paid_accounts c s n x t how.Funded x.opened.amount (money_of x.opened.event t x.opened.amount verdict.Approved) numbers found asked currency refl
    (money_adds c x.opened.event t x.opened.amount verdict.Approved) (money_left x.opened.event t x.opened.amount verdict.Approved))
outcome_accounts outcome.Refused c s n x t at numbers found asked currency = calm_accounts c s (Refuses x.opened t ∷ []) refl
outcome_accounts outcome.Connection c s n x t at numbers found asked currency =
    calm_accounts c s (failed_acts (core_facts s) x.opened t failure.Connection at) (failed_calm (core_facts s) x.opened t failure.Connection at)
outcome_accounts outcome.Application c s n x t at numbers found asked currency =
    calm_accounts c s (failed_acts (core_facts s) x.opened t failure.Application at) (failed_calm (core_facts s) x.opened t failure.Application at)
outcome_accounts (outcome.Partial d amount) c s n x t at numbers found asked currency = by (counts_as_part x.opened d amount)
  where
    by : (b : Bool) → RowAccounts c s (cond b (FundsPart x.opened t amount ∷ []) (failed_acts (core_facts s) x.opened t failure.Application at))
    by true = part_accounts c s n x t amount numbers found asked currency
    by false = calm_accounts c s (failed_acts (core_facts s) x.opened t failure.Application at) (failed_calm (core_facts s) x.opened t failure.Application at)

answer_accounts : (c : Currency) (s : CoreState) (call : CallId) (what : Outcome) (at : ℕ) → CallsNumberedFrom 1 s.calls → ArePayable s
    → Accounts c s.calls (entries_of (input.Answer call what) at (core_facts s)) (fold after_entry s (entries_of (input.Answer call what) at (core_facts s))).calls
answer_accounts c s call what at numbers payable =
    if_asked (RowAccounts c s) s (λ (o : Opened) (t : Txn). outcome_acts what (core_facts s) o t at) call.0 (λ none. none_accounts c s.calls)
    (λ x now asked stands. outcome_accounts what c s call.0 x now.txn at numbers asked.stands asked.asked (its_currency x now asked stands))
  where
    its_currency : (x : CallNow) (now : TxnNow) → IsAsked s.calls call.0 x → txn_named x.opened.txn s.holdings.txns ≡ Some now → now.txn.currency ≡ x.opened.currency
    its_currency x now asked stands =
        let its : IsPayable s.holdings.txns x.opened = payable call.0 x asked.stands in
        let same : its.its ≡ now = inside (sym its.stands ∙ stands) in
        ap (λ (y : TxnNow). y.txn.currency) (sym same) ∙ its.of_currency

-- a step ----

due_plain : (f : Facts) (thing : DueThing) (at : ℕ) → list_all is_plain (thing_entries thing at f) ≡ true
due_plain f thing at = (due_holds f thing at holds).all
  where
    holds : Holds f FallsDue at (EachPasses is_plain)
    holds = record { none = none_passes; then = both_pass; act = λ g a made. other_plain FallsDue a refl made.cause }

own_plain : (f : Facts) (i : Input) (at : ℕ) → is_other (ComesOf i) ≡ true → list_all is_plain (entries_of i at f) ≡ true
own_plain f i at other = (own_holds f i at holds).all
  where
    holds : Holds f (ComesOf i) at (EachPasses is_plain)
    holds = record { none = none_passes; then = both_pass; act = λ g a made. other_plain (ComesOf i) a other made.cause }

own_accounts : (c : Currency) (s : CoreState) (i : Input) (at : ℕ) → CallsNumberedFrom 1 s.calls → IsHeldWell s → ArePayable s → Accounts c s.calls (entries_of i at (core_facts s)) (fold after_entry s (entries_of i at (core_facts s))).calls
own_accounts c s (input.Answer call what) at numbers held payable = answer_accounts c s call what at numbers payable
own_accounts c s i at numbers held payable = plain_accounts c s (entries_of i at (core_facts s)) (own_repays c s i at refl held) (own_plain (core_facts s) i at refl)

-- a record was taken up, all is held well, and each call is payable
record IsDueReady (i : Input) (s : CoreState) : Type 0 where
  taken : HasTakenUp s i
  held : IsHeldWell s
  payable : ArePayable s

abbrev StepAccounts : Currency → CoreState → List Entry → CoreState → Type 0
StepAccounts c s es later = Accounts c s.calls es later.calls

accounts_then : (c : Currency) (a b d : List CallNow) (xs ys : List Entry) → Accounts c a xs b → Accounts c b ys d → Accounts c a (xs ++ ys) d
accounts_then c a b d xs ys h k =
    record {
      even = sum (sum_among balance_changes (key c) (xs ++ ys)) (sum_among balance_changes (key c) xs) (sum_among balance_changes (key c) ys)
          (sum_among notice_changes (key c) (xs ++ ys)) (sum_among notice_changes (key c) xs) (sum_among notice_changes (key c) ys) (costs c a) (costs c b) (costs c d)
          (among_summed balance_changes (key c) xs ys) (among_summed notice_changes (key c) xs ys) h.even k.even;
    }
  where
    sum : (all x y told u v a b d : ℤ) → all ≡ x +ℤ y → told ≡ u +ℤ v → x +ℤ b ≡ u +ℤ a → y +ℤ d ≡ v +ℤ b → all +ℤ d ≡ told +ℤ a
    sum all x y told u v a b d e h k l = omega (arith, ints, e, h, k, l)

accounts_through : (c : Currency) (i : Input) (at : ℕ) → GoesThrough (IsDueReady i) (StepAccounts c) i at
accounts_through c i at =
    record {
      none = λ s. none_accounts c s.calls;
      then = λ s t u xs ys h k. accounts_then c s.calls t.calls u.calls xs ys h k;
      due = λ s thing ready. plain_accounts c s (thing_entries thing at (core_facts s)) (thing_repays c s thing at ready.held) (due_plain (core_facts s) thing at);
      own = λ s ready. own_accounts c s i at ready.taken.well.calls.numbers ready.held ready.payable;
      stays = λ s thing ready.
          let es : List Entry = thing_entries thing at (core_facts s) in
          record {
            taken = ready_settled s i thing at ready.taken;
            held = thing_held s i thing at ready.taken ready.held;
            payable = entries_payable s es (none_needed s es (due_holds (core_facts s) thing at (all_open_none FallsDue refl)).all) ready.payable;
          };
    }

step_accounts : (c : Currency) (s : CoreState) (r : Record) → IsNewEvent s r.input → IsWell s → IsHeldWell s → ArePayable s → Accounts c s.calls (step core_keeper s r).entries (step core_keeper s r).world.calls
step_accounts c s r new well held payable = step_leads s r (accounts_through c r.input r.at) (record { taken = ready_taken s r well new; held = held; payable = payable })

-- over all records ----

record AreAccounted (rs : List Record) (s : CoreState) : Type 0 where
  payable : ArePayable s
  even : (c : Currency) → sum_at balance_changes (key c) (history_of rs).rows +ℤ costs c s.calls ≡ sum_at notice_changes (key c) (history_of rs).rows

record IsAccounted (rs : List Record) (s : CoreState) : Type 0 where
  holds : HoldsWell s
  even : AreInForm rs → AreAccounted rs s

even_more : (rs : List Record) (r : Record) → IsNewEvent (core_of rs) r.input → HoldsWell (core_of rs) → is_in_form r.input ≡ true → AreAccounted rs (core_of rs)
    → AreAccounted (rs ++ r ∷ []) (step core_keeper (core_of rs) r).world
even_more rs r new holds form h =
    let s : CoreState = core_of rs in
    record {
      payable = (step_pays (core_facts s) 0 s r form new holds.well).payable h.payable;
      even = λ c.
          sum (sum_at balance_changes (key c) (history_of (rs ++ r ∷ [])).rows) (sum_at balance_changes (key c) (history_of rs).rows) (sum_among balance_changes (key c) (entries_of_next rs r))
          (sum_at notice_changes (key c) (history_of (rs ++ r ∷ [])).rows) (sum_at notice_changes (key c) (history_of rs).rows) (sum_among notice_changes (key c) (entries_of_next rs r))
          (costs c s.calls) (costs c (step core_keeper s r).world.calls)
          (next_summed balance_changes (key c) rs r) (next_summed notice_changes (key c) rs r) (h.even c) (step_accounts c s r new holds.well holds.held h.payable).even;
    }
  where
    sum : (all x y told u v before after : ℤ) → all ≡ x +ℤ y → told ≡ u +ℤ v → x +ℤ before ≡ u → y +ℤ after ≡ v +ℤ before → all +ℤ after ≡ told
    sum all x y told u v before after e h k l = omega (arith, ints, e, h, k, l)

all_accounted : (rs : List Record) → IsLegal rs → IsAccounted rs (core_of rs)
all_accounted rs legal =
    legal_induction IsAccounted (record { holds = record { well = nothing_well; held = nothing_held }; even = λ form. record { payable = nothing_payable; even = λ c. refl } })
    (λ rs r new h. record {
      holds = record { well = step_well (core_of rs) r new h.holds.well; held = step_held (core_of rs) r new h.holds.well h.holds.held };
      even = λ form.
          let both = and_parts (list_all (λ (x : Record). is_in_form x.input) rs) (is_in_form r.input && true) (sym (list_all-append (λ (x : Record). is_in_form x.input) rs (r ∷ [])) ∙ form) in
          even_more rs r new h.holds (and_parts (is_in_form r.input) true both.1).0 (h.even both.0);
    }) rs legal

-- what rows' notices say ----

rows_said : (c : Currency) (rows : List Row) (z : ℤ) → fold (λ sum row. sum +ℤ changed_at (key c) (notice_changes row.entry)) z rows ≡ z +ℤ sum_over (back_by c) (notices_of rows)
rows_said c [] z = none z
  where
    none : (z : ℤ) → z ≡ z +ℤ pos 0
    none z = omega (arith, ints)
rows_said c (row ∷ rows) z = rows_said c rows (z +ℤ changed_at (key c) (notice_changes row.entry)) ∙ by row.entry
  where
    here : (z a b rest : ℤ) → a ≡ b → (z +ℤ (a +ℤ pos 0)) +ℤ rest ≡ z +ℤ (b +ℤ rest)
    here z a b rest e = omega (arith, ints, e)

    none : (z rest : ℤ) → (z +ℤ pos 0) +ℤ rest ≡ z +ℤ rest
    none z rest = omega (arith, ints)

    by : (e : Entry) → (z +ℤ changed_at (key c) (notice_changes e)) +ℤ sum_over (back_by c) (notices_of rows) ≡ z +ℤ sum_over (back_by c) (cons_option (notice_made e) (notices_of rows))
    by (entry.Notice n) =
        here z (cond (bytes_eq (account_key (account.Gateway n.currency)) (key c)) (pos n.gateway) (pos 0)) (back_by c n) (sum_over (back_by c) (notices_of rows))
        (ap (λ (b : Bool). cond b (pos n.gateway) (pos 0)) (same_key n.currency c))
    by _ = none z (sum_over (back_by c) (notices_of rows))

pub account_balance : (rs : List Record) → IsLegal rs → AreInForm rs → IsEvenAccount (history_of rs)
account_balance rs legal form c =
    let even : AreAccounted rs (core_of rs) = (all_accounted rs legal).even form in
    sum (sum_at balance_changes (key c) (history_of rs).rows) (costs c (core_of rs).calls) (sum_at notice_changes (key c) (history_of rs).rows) (sum_over (back_by c) (notices_of (history_of rs).rows)) (costs c (calls_of (history_of rs).rows))
    (even.even c) (rows_said c (history_of rs).rows (pos 0)) (ap (λ (f : Facts). costs c f.calls) (facts_history rs))
  where
    sum : (balance paid told back cost : ℤ) → balance +ℤ paid ≡ told → told ≡ pos 0 +ℤ back → paid ≡ cost → balance ≡ back -ℤ cost
    sum balance paid told back cost e h k = omega (arith, ints, e, h, k)
