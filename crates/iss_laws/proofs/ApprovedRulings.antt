-- Rulings that approve an event, and the reply of an event that is decided once.
use Rattle.std.proofs.Common.{◌≡◌, ℕ, ◌≤◌, Bool, true, false, not, cond, ◌&&◌, ◌||◌, List, [], ◌∷◌, length, filter, refl, sym, ap, ap₂, ◌∙◌, arith}
use Rattle.std.specs.Prelude.{Option, Some, None, find, option_map, option_and_then}
use Rattle.std.specs.List.{list_any, filter_map, cons_option}
use Rattle.std.specs.Str.{bytes_eq}
use Rattle.iss_model.specs.declared.call.Failure.{Failure}
use Rattle.iss_model.specs.declared.call.Failure.TheVariants as failure
use Rattle.iss_model.specs.declared.call.How.{How}
use Rattle.iss_model.specs.declared.call.How.TheVariants as how
use Rattle.iss_model.specs.declared.call.Opened.{Opened}
use Rattle.iss_model.specs.declared.currency.Currency.{Currency}
use Rattle.iss_model.specs.declared.decision.Reason.{Reason}
use Rattle.iss_model.specs.declared.decision.Reason.TheVariants as reason
use Rattle.iss_model.specs.declared.decision.Verdict.{Verdict}
use Rattle.iss_model.specs.declared.decision.Verdict.TheVariants as verdict
use Rattle.iss_model.specs.declared.entry.Entry.{Entry}
use Rattle.iss_model.specs.declared.entry.Entry.TheVariants as entry
use Rattle.iss_model.specs.declared.entry.Row.{Row}
use Rattle.iss_model.specs.declared.input.Input.{Input}
use Rattle.iss_model.specs.declared.input.Input.TheVariants as input
use Rattle.iss_model.specs.declared.input.Outcome.TheVariants as outcome
use Rattle.iss_model.specs.declared.input.Record.{Record}
use Rattle.iss_model.specs.declared.txn.Txn.{Txn}
use Rattle.iss_model.specs.Inputs.{event_token}
use Rattle.iss_model.specs.rules.Asks.{Ask, call_ask}
use Rattle.iss_model.specs.rules.CardReasons.{is_account_funded, authorization_reason, increment_reason, first_ask, further_ask, txn_asked}
use Rattle.iss_model.specs.rules.Activity.{TxnNow}
use Rattle.iss_model.specs.rules.Facts.{Decision, Facts, decision_of, reply_of_verdict, txn_in, verdict_in}
use Rattle.iss_model.specs.rules.Histories.{History, history_facts, numbered_rows}
use Rattle.iss_model.specs.rules.Reasons.{is_some_with}
use Rattle.iss_model.specs.rules.Settings.{is_named_in}
use Rattle.iss_model.specs.rules.StandIns.{Stand, allowed, over_limit, uncovered, stand}
use Rattle.iss_model.specs.rules.Stepping.{authorization_ask, increment_ask}
use Rattle.iss_model.proofs.Names.{its_name}
use Rattle.iss_state.specs.Well.{decided_times}
use Rattle.iss_laws.specs.Rulings.{Ruling, decided_as, asked_about, ask_rulings, begun_in, call_ruling, closing_ruling, closing_rulings, closing_verdict, abandonment_reason, funding_ruling, is_answer, is_part_answer, may_fail, only_if, opened_in, own_rulings, rulings_of, ruling_of, verdict_of_sets, with_entries, event_rulings, event_reason, done_unless}
use Rattle.iss_laws.specs.Approvals.{Extent, entries_pay_for, in_full, in_part, is_approval, is_approved, is_paid_at_once, is_paid_closing, pays_for, stands_in}

-- rulings that approve ----

-- a ruling and an entry give an event a verdict of which a test holds
abbrev pub rules_so : (Verdict → Bool) → List ℕ → Ruling → Bool
rules_so test event (decided_as other v) = bytes_eq other event && test v
rules_so test event (asked_about other) = false

abbrev pub decides_so : (Verdict → Bool) → List ℕ → Entry → Bool
decides_so test event (entry.Decided other v) = bytes_eq other event && test v
decides_so test event _ = false

abbrev pub approves : Extent → List ℕ → Ruling → Bool
approves extent event ruling = rules_so (is_approval extent) event ruling

pub row_rules : (test : Verdict → Bool) (event : List ℕ) (n : ℕ) (es : List Entry)
    → list_any (λ row. decides_so test event row.entry) (numbered_rows n es) ≡ list_any (rules_so test event) (rulings_of es)
row_rules test event n [] = refl
row_rules test event n (e ∷ es) = ap (λ (b : Bool). decides_so test event e || b) (row_rules test event n es) ∙ by e
  where
    by : (e : Entry) → (decides_so test event e || list_any (rules_so test event) (rulings_of es)) ≡ list_any (rules_so test event) (cons_option (ruling_of e) (rulings_of es))
    by (entry.Decided other v) = refl
    by (entry.Opened o) = refl
    by _ = refl

pub row_decisions : (test : Verdict → Bool) (event : List ℕ) (rows : List Row)
    → list_any (λ d. bytes_eq d.event event && test d.verdict) (filter_map (λ row. decision_of row.entry) rows) ≡ list_any (λ row. decides_so test event row.entry) rows
row_decisions test event [] = refl
row_decisions test event (row ∷ rows) = by row.entry ∙ ap (λ (b : Bool). decides_so test event row.entry || b) (row_decisions test event rows)
  where
    more : List Decision
    more = filter_map (λ (row : Row). decision_of row.entry) rows

    by : (e : Entry) → list_any (λ d. bytes_eq d.event event && test d.verdict) (cons_option (decision_of e) more)
        ≡ (decides_so test event e || list_any (λ d. bytes_eq d.event event && test d.verdict) more)
    by (entry.Decided other v) = refl
    by _ = refl

-- a ruling, if there is one, approves
abbrev option_approves : Extent → List ℕ → Option Ruling → Bool
option_approves extent event o = is_some_with (approves extent event) o

any_with : (extent : Extent) (event : List ℕ) (o : Option Ruling) (rest : List Ruling)
    → list_any (approves extent event) (cons_option o rest) ≡ (option_approves extent event o || list_any (approves extent event) rest)
any_with extent event None rest = refl
any_with extent event (Some x) rest = refl

and_false : (b : Bool) → (b && false) ≡ false
and_false true = refl
and_false false = refl

and_true : (b : Bool) → (b && true) ≡ b
and_true true = refl
and_true false = refl

only_approves : (extent : Extent) (event its : List ℕ) (b : Bool) (v : Verdict)
    → option_approves extent event (option_map (decided_as its) (only_if b v)) ≡ (bytes_eq its event && (b && is_approval extent v))
only_approves extent event its true v = refl
only_approves extent event its false v = sym (and_false (bytes_eq its event))

-- a verdict that doesn't approve to this extent, if it is given, approves nothing
only_declines : (extent : Extent) (event its : List ℕ) (b : Bool) (v : Verdict) → is_approval extent v ≡ false
    → option_approves extent event (option_map (decided_as its) (only_if b v)) ≡ (bytes_eq its event && false)
only_declines extent event its b v none =
    only_approves extent event its b v ∙ ap (λ (a : Bool). bytes_eq its event && (b && a)) none ∙ ap (λ (a : Bool). bytes_eq its event && a) (and_false b)

sets_approve : (s : Stand) (why : Failure) → is_approval in_full (verdict_of_sets s why) ≡ stands_in s
sets_approve (allowed s) why = refl
sets_approve (over_limit s) why = refl
sets_approve uncovered why = refl

-- sets approve no part
sets_part : (c : Currency) (n : ℕ) (s : Stand) (why : Failure) → is_approval (in_part c n) (verdict_of_sets s why) ≡ false
sets_part c n (allowed s) why = refl
sets_part c n (over_limit s) why = refl
sets_part c n uncovered why = refl

-- no decline approves anything
pub no_approval : (extent : Extent) (why : Reason) → is_approval extent (verdict.Declined why) ≡ false
no_approval in_full why = refl
no_approval (in_part c n) why = refl

abandoned_approves : (extent : Extent) (event its : List ℕ) (why : Option Reason)
    → option_approves extent event (option_map (decided_as its) (option_map (λ why. verdict.Declined why) why)) ≡ (bytes_eq its event && false)
abandoned_approves extent event its None = sym (and_false (bytes_eq its event))
abandoned_approves extent event its (Some why) = ap (λ (a : Bool). bytes_eq its event && a) (no_approval extent why)

closing_approves : (extent : Extent) (event : List ℕ) (r : Record) (f : Facts) (o : Opened) (t : Txn) (how : How)
    → option_approves extent event (option_map (decided_as o.event) (closing_verdict r f o t how)) ≡ (bytes_eq o.event event && is_paid_closing extent r f o t how)
closing_approves in_full event r f o t how.Funded =
    only_approves in_full event o.event (is_answer o.call.0 outcome.Funded r.input) verdict.Approved
    ∙ ap (λ (b : Bool). bytes_eq o.event event && b) (and_true (is_answer o.call.0 outcome.Funded r.input))
closing_approves in_full event r f o t (how.Partial part) = only_declines in_full event o.event (is_part_answer o part r.input) (verdict.Partial t.currency part) refl
closing_approves in_full event r f o t how.Refused = only_declines in_full event o.event (is_answer o.call.0 outcome.Refused r.input) (verdict.Declined reason.GatewayDeclined) refl
closing_approves in_full event r f o t (how.Failed why) =
    only_approves in_full event o.event (may_fail r o why) (verdict_of_sets (stand f (call_ask o t) why r.at) why)
    ∙ ap (λ (b : Bool). bytes_eq o.event event && (may_fail r o why && b)) (sets_approve (stand f (call_ask o t) why r.at) why)
closing_approves in_full event r f o t how.Abandoned = abandoned_approves in_full event o.event (abandonment_reason r t)
closing_approves (in_part c n) event r f o t how.Funded = only_declines (in_part c n) event o.event (is_answer o.call.0 outcome.Funded r.input) verdict.Approved refl
closing_approves (in_part c n) event r f o t (how.Partial part) = only_approves (in_part c n) event o.event (is_part_answer o part r.input) (verdict.Partial t.currency part)
closing_approves (in_part c n) event r f o t how.Refused =
    only_declines (in_part c n) event o.event (is_answer o.call.0 outcome.Refused r.input) (verdict.Declined reason.GatewayDeclined) refl
closing_approves (in_part c n) event r f o t (how.Failed why) =
    only_declines (in_part c n) event o.event (may_fail r o why) (verdict_of_sets (stand f (call_ask o t) why r.at) why) (sets_part c n (stand f (call_ask o t) why r.at) why)
closing_approves (in_part c n) event r f o t how.Abandoned = abandoned_approves (in_part c n) event o.event (abandonment_reason r t)

entry_pays : (extent : Extent) (event : List ℕ) (r : Record) (f : Facts) (e : Entry) → option_approves extent event (closing_ruling r f e) ≡ pays_for extent event r f e
entry_pays extent event r f (entry.Closed call how) = by_call (opened_in f call.0)
  where
    by_txn : (o : Opened) (t : Option Txn)
        → option_approves extent event (option_and_then (λ t. option_map (decided_as o.event) (closing_verdict r f o t how)) t) ≡ (bytes_eq o.event event && is_some_with (λ t. is_paid_closing extent r f o t how) t)
    by_txn o None = sym (and_false (bytes_eq o.event event))
    by_txn o (Some t) = closing_approves extent event r f o t how

    by_call : (o : Option Opened) → option_approves extent event (option_and_then (call_ruling r f how) o)
        ≡ is_some_with (λ o. bytes_eq o.event event && is_some_with (λ t. is_paid_closing extent r f o t how) (begun_in f o.txn)) o
    by_call None = refl
    by_call (Some o) = by_txn o (begun_in f o.txn)
entry_pays extent event r f _ = refl

pub entries_pay : (extent : Extent) (event : List ℕ) (r : Record) (h : History) (es : List Entry) → list_any (approves extent event) (closing_rulings r h es) ≡ entries_pay_for extent event r h es
entries_pay extent event r h [] = refl
entries_pay extent event r h (e ∷ es) =
    any_with extent event (closing_ruling r (history_facts h) e) (closing_rulings r (with_entries h (e ∷ [])) es)
    ∙ ap₂ (λ (a b : Bool). a || b) (entry_pays extent event r (history_facts h) e) (entries_pay extent event r (with_entries h (e ∷ [])) es)

-- a record's own rulings ----

one_other : (extent : Extent) (event token : List ℕ) (v : Verdict) → bytes_eq token event ≡ false → list_any (approves extent event) (decided_as token v ∷ []) ≡ false
one_other extent event token v h = ap (λ (b : Bool). (b && is_approval extent v) || false) h

-- how an ask that is put to nobody, to the sets or to the gateway is ruled
abbrev funding_by : Bool → Bool → Ask → Verdict → Ruling
funding_by own switched ask v = cond own (decided_as ask.event verdict.Approved) (cond switched (decided_as ask.event v) (asked_about ask.event))

-- a funding rules on its own ask's event alone
funding_other : (extent : Extent) (event : List ℕ) (f : Facts) (ask : Ask) → bytes_eq ask.event event ≡ false → approves extent event (funding_ruling f ask) ≡ false
funding_other extent event f ask h = by (is_account_funded ask.txn.funding) (is_named_in f.switched ask.txn.product)
  where
    v : Verdict
    v = verdict_of_sets (stand f ask failure.Switch ask.at) failure.Switch

    by : (a b : Bool) → approves extent event (funding_by a b ask v) ≡ false
    by true b = ap (λ (b : Bool). b && is_approval extent verdict.Approved) h
    by false true = ap (λ (b : Bool). b && is_approval extent v) h
    by false false = refl

funding_own : (extent : Extent) (f : Facts) (ask : Ask) → approves extent ask.event (funding_ruling f ask) ≡ is_paid_at_once extent f ask
funding_own in_full f ask = by (is_account_funded ask.txn.funding) (is_named_in f.switched ask.txn.product)
  where
    same : bytes_eq ask.event ask.event ≡ true
    same = its_name ask.event

    v : Verdict
    v = verdict_of_sets (stand f ask failure.Switch ask.at) failure.Switch

    by : (a b : Bool) → approves in_full ask.event (funding_by a b ask v) ≡ (a || (b && stands_in (stand f ask failure.Switch ask.at)))
    by true b = ap (λ (b : Bool). b && true) same
    by false true = ap (λ (b : Bool). b && is_approval in_full v) same ∙ sets_approve (stand f ask failure.Switch ask.at) failure.Switch
    by false false = refl
funding_own (in_part c n) f ask = by (is_account_funded ask.txn.funding) (is_named_in f.switched ask.txn.product)
  where
    v : Verdict
    v = verdict_of_sets (stand f ask failure.Switch ask.at) failure.Switch

    by : (a b : Bool) → approves (in_part c n) ask.event (funding_by a b ask v) ≡ false
    by true b = and_false (bytes_eq ask.event ask.event)
    by false true = ap (λ (b : Bool). bytes_eq ask.event ask.event && b) (sets_part c n (stand f ask failure.Switch ask.at) failure.Switch) ∙ and_false (bytes_eq ask.event ask.event)
    by false false = refl

pub or_false : (b : Bool) → (b || false) ≡ b
or_false true = refl
or_false false = refl

-- the ask of an event, if there is one
abbrev pub IsOf : List ℕ → Option Ask → Type 0
IsOf token ask = (x : Ask) → ask ≡ Some x → x.event ≡ token

pub mapped_of : {A : Type 0} (make : A → Ask) (token : List ℕ) → ((x : A) → (make x).event ≡ token) → (o : Option A) → IsOf token (option_map make o)
mapped_of make token its None x e = cc
mapped_of make token its (Some y) x e = let one : make y ≡ x = cc in ap (λ (a : Ask). a.event) (sym one) ∙ its y

ask_other : (extent : Extent) (event token : List ℕ) (f : Facts) (why : Option Reason) (ask : Option Ask) → IsOf token ask → bytes_eq token event ≡ false → list_any (approves extent event) (ask_rulings f token why ask) ≡ false
ask_other extent event token f (Some why) ask its h = one_other extent event token (verdict.Declined why) h
ask_other extent event token f None None its h = refl
ask_other extent event token f None (Some x) its h =
    ap (λ (b : Bool). b || false) (funding_other extent event f x (ap (λ (t : List ℕ). bytes_eq t event) (its x refl) ∙ h))

-- an ask's rulings approve its event exactly if no reason held and it is paid at once
pub ask_own : (extent : Extent) (token : List ℕ) (f : Facts) (ask : Option Ask) → IsOf token ask → list_any (approves extent token) (ask_rulings f token None ask) ≡ is_some_with (is_paid_at_once extent f) ask
ask_own extent token f None its = refl
ask_own extent token f (Some x) its =
    or_false (approves extent token (funding_ruling f x))
    ∙ ap (λ (t : List ℕ). approves extent t (funding_ruling f x)) (sym (its x refl)) ∙ funding_own extent f x

-- a record doesn't approve an event of another name
event_other : (extent : Extent) (event : List ℕ) (o : Option (List ℕ)) (why : Option Reason) → ((token : List ℕ) → o ≡ Some token → bytes_eq token event ≡ false) → list_any (approves extent event) (event_rulings o why) ≡ false
event_other extent event (Some token) why h = one_other extent event token (done_unless why) (h token refl)
event_other extent event None why h = refl

pub own_other : (extent : Extent) (event : List ℕ) (i : Input) (at : ℕ) (f : Facts) → ((token : List ℕ) → event_token i ≡ Some token → bytes_eq token event ≡ false) → list_any (approves extent event) (own_rulings i at f) ≡ false
own_other extent event (input.Authorization token card currency amount mcc mid partial) at f h =
    let ask : Option Ask = authorization_ask f token card currency amount mcc mid partial at in
    ask_other extent event token f (authorization_reason f card currency ask) ask (mapped_of (first_ask token amount partial at) token (λ t. refl) (txn_asked f token card currency mcc mid at)) (h token refl)
own_other extent event (input.Increment token txn currency amount) at f h =
    let ask : Option Ask = increment_ask f token txn amount at in
    ask_other extent event token f (increment_reason f (txn_in f txn) currency ask) ask (mapped_of (λ (now : TxnNow). further_ask token amount at now.txn) token (λ t. refl) (txn_in f txn)) (h token refl)
own_other extent event i at f h = event_other extent event (event_token i) (event_reason i at f) h

-- the reply of an event that is decided once ----

-- a decision approves an event
abbrev pub decision_approves : Extent → List ℕ → Decision → Bool
decision_approves extent event d = bytes_eq d.event event && is_approval extent d.verdict

-- an event that isn't decided has no verdict, whatever its test
none_decided : (test : Verdict → Bool) (event : List ℕ) (ds : List Decision) → decided_times ds event ≡ 0 → list_any (λ d. bytes_eq d.event event && test d.verdict) ds ≡ false
none_decided test event [] h = refl
none_decided test event (d ∷ ds) h = by (bytes_eq d.event event) (none_decided test event ds) h
  where
    by : (b : Bool) → (decided_times ds event ≡ 0 → list_any (λ d. bytes_eq d.event event && test d.verdict) ds ≡ false)
        → length (cond b (d ∷ filter (λ (d : Decision). bytes_eq d.event event) ds) (filter (λ (d : Decision). bytes_eq d.event event) ds)) ≡ 0
        → ((b && test d.verdict) || list_any (λ d. bytes_eq d.event event && test d.verdict) ds) ≡ false
    by true rest h = absurd (omega (arith, h))
    by false rest h = rest h

-- an event that is decided once at most has the verdict that a test finds
its_verdict : (test : Verdict → Bool) (event : List ℕ) (ds : List Decision) → decided_times ds event ≤ 1
    → list_any (λ d. bytes_eq d.event event && test d.verdict) ds ≡ is_some_with test (verdict_in ds event)
its_verdict test event [] h = refl
its_verdict test event (d ∷ ds) h = by (bytes_eq d.event event) (its_verdict test event ds) h
  where
    by : (b : Bool) → (decided_times ds event ≤ 1 → list_any (λ d. bytes_eq d.event event && test d.verdict) ds ≡ is_some_with test (verdict_in ds event))
        → length (cond b (d ∷ filter (λ (d : Decision). bytes_eq d.event event) ds) (filter (λ (d : Decision). bytes_eq d.event event) ds)) ≤ 1
        → ((b && test d.verdict) || list_any (λ d. bytes_eq d.event event && test d.verdict) ds)
        ≡ is_some_with test (option_map (λ (d : Decision). d.verdict) (cond b (Some d) (find (λ d. bytes_eq d.event event) ds)))
    by true rest h =
        let none : decided_times ds event ≡ 0 = omega (arith, h) in
        ap (λ (b : Bool). test d.verdict || b) (none_decided test event ds none) ∙ or_false (test d.verdict)
    by false rest h = rest h

pub reply_approves : (extent : Extent) (event : List ℕ) (ds : List Decision) → decided_times ds event ≤ 1
    → is_approved extent (reply_of_verdict (verdict_in ds event)) ≡ list_any (decision_approves extent event) ds
reply_approves extent event ds h = by (verdict_in ds event) ∙ sym (its_verdict (is_approval extent) event ds h)
  where
    by : (v : Option Verdict) → is_approved extent (reply_of_verdict v) ≡ is_some_with (is_approval extent) v
    by None = refl
    by (Some v) = refl

-- an event that is declined isn't approved
pub declined_once : (extent : Extent) (event : List ℕ) (ds : List Decision) → decided_times ds event ≤ 1 → list_any (λ d. bytes_eq d.event event && not (is_approval extent d.verdict)) ds ≡ true
    → list_any (decision_approves extent event) ds ≡ false
declined_once extent event ds h k =
    its_verdict (is_approval extent) event ds h ∙ by (verdict_in ds event) (sym (its_verdict (λ v. not (is_approval extent v)) event ds h) ∙ k)
  where
    by : (v : Option Verdict) → is_some_with (λ v. not (is_approval extent v)) v ≡ true → is_some_with (is_approval extent) v ≡ false
    by None e = cc
    by (Some v) e = not_so (is_approval extent v) e
      where
        not_so : (b : Bool) → not b ≡ true → b ≡ false
        not_so true e = cc
        not_so false e = refl
