-- A record's own acts rule what goes with the calls that they close. Then they rule its own event, as the rules of its kind have it.
use Rattle.std.proofs.Common.{subst, ◌≡◌, ℕ, min, Bool, true, false, not, cond, ◌&&◌, ◌||◌, nat_eq, nat_le, List, [], ◌∷◌, refl, sym, ap, ◌∙◌}
use Rattle.std.specs.Prelude.{Option, Some, None, is_some, option_map, option_and_then}
use Rattle.std.specs.Str.{bytes_eq}
use Rattle.iss_model.specs.declared.account.Account.TheVariants as account
use Rattle.iss_model.specs.declared.call.CallId.{CallId}
use Rattle.iss_model.specs.declared.call.Failure.TheVariants as failure
use Rattle.iss_model.specs.declared.call.How.TheVariants as how
use Rattle.iss_model.specs.declared.call.Opened.{Opened}
use Rattle.iss_model.specs.declared.currency.Currency.{Currency}
use Rattle.iss_model.specs.declared.decision.Reason.{Reason}
use Rattle.iss_model.specs.declared.decision.Reason.TheVariants as reason
use Rattle.iss_model.specs.declared.decision.Verdict.{Verdict}
use Rattle.iss_model.specs.declared.decision.Verdict.TheVariants as verdict
use Rattle.iss_model.specs.declared.input.Input.{Input}
use Rattle.iss_model.specs.declared.input.Input.TheVariants as input
use Rattle.iss_model.specs.declared.input.Outcome.{Outcome}
use Rattle.iss_model.specs.declared.input.Outcome.TheVariants as outcome
use Rattle.iss_model.specs.declared.input.Record.{Record}
use Rattle.iss_model.specs.declared.setting.Card.{Card}
use Rattle.iss_model.specs.declared.setting.Product.{Product}
use Rattle.iss_model.specs.declared.txn.Txn.{Txn}
use Rattle.iss_model.specs.Inputs.{outcome_number}
use Rattle.iss_model.specs.rules.Activity.{TxnNow, CallNow, is_asked}
use Rattle.iss_model.specs.rules.Asks.{Ask, call_ask, txn_begun}
use Rattle.iss_model.specs.rules.CardReasons.{authorization_reason, first_ask, further_ask, is_account_funded, increment_reason, reversal_reason, clearing_reason, refund_reason}
use Rattle.iss_model.specs.rules.Facts.{Facts, txn_in, call_in, asked_calls_of, next_notice, is_notice}
use Rattle.iss_model.specs.rules.Histories.{History, history_facts}
use Rattle.iss_model.specs.rules.Pieces.{Parts, parts_held, in_all, left_of, taken_to_clear}
use Rattle.iss_model.specs.rules.Reasons.{user_reason, card_reason, move_reason, product_reason, group_reason, control_reason, set_reason, switch_reason, load_reason}
use Rattle.iss_model.specs.rules.Settings.{card_named, product_named, is_named_in}
use Rattle.iss_model.specs.rules.StandIns.{stand}
use Rattle.iss_model.specs.rules.Stepping.{authorization_ask, increment_ask, entries_of, acts_of, acts_unless}
use Rattle.iss_model.proofs.Names.{one_name, same_name}
use Rattle.iss_model.specs.rules.Acts.{Act, Acknowledges, Asks, Begins, Clears, Declines, Does, Ends, Funds, FundsPart, GivesBack, HoldsOwn, LetsGo, Loads, Refuses, Sets, Uses}
use Rattle.iss_model.specs.rules.CardActs.{authorization_acts, clearing_acts, counts_as_part, failed_acts, funding_acts, gateway_acts, increment_acts, outcome_acts, refund_acts, reversal_acts, stand_acts}
use Rattle.iss_agreement.proofs.CoreOfBook.{core_shows}
use Rattle.iss_state.proofs.effects.Finds.{found_passes, same_number}
use Rattle.iss_state.proofs.docket.Closing.{StandsItself, its_number}
use Rattle.iss_state.proofs.docket.Lists.{Each, both_so, or_true}
use Rattle.iss_state.proofs.calls.Due.{its_token}
use Rattle.iss_laws.specs.Rulings.{Ruling, decided_as, asked_about, abandoned_by, abandonment_reason, ask_rulings, done_unless, funding_ruling, is_answer, is_part_answer, is_uncounted_part, only_if, own_rulings, verdict_of_sets}
use Rattle.iss_laws.proofs.Ruled.{Rules, alone_rules}
use Rattle.iss_laws.proofs.ClosedCalls.{IsAbandoned, RulesRow, abandons_first, asked_closed, both_acts, declined_alone, either_acts, ends_acts, failed_rules, first_act, for_gateway, funded_alone, last_act, no_act, only_act, part_alone, stand_alone, still_abandoned}
use Rattle.iss_laws.proofs.DueRulings.{IsReady, asked_abandoned, asked_rules}

-- What was due is settled: the transaction of an asked call hasn't expired.
abbrev pub IsSettled : Facts → ℕ → Type 0
IsSettled f at = (c : CallNow) (now : TxnNow) → is_asked c ≡ true → StandsItself f.calls c → txn_in f c.opened.txn ≡ Some now → nat_le now.txn.expires at ≡ false

-- an event is declined, or decided by its acts ----

abbrev one : List ℕ → Verdict → List Ruling
one token v = decided_as token v ∷ []

unless_rules : {r : Record} {h : History} (why : Option Reason) (token : List ℕ) {acts : List Act} → RulesRow r h acts (one token verdict.Done)
    → RulesRow r h (acts_unless why token acts) (one token (done_unless why))
unless_rules None token row = row
unless_rules (Some why) token row = last_act (Declines token why) refl

set_rules : {r : Record} {h : History} (i : Input) (why : Option Reason) (token : List ℕ) → RulesRow r h (acts_unless why token (Sets i token ∷ [])) (one token (done_unless why))
set_rules i why token = unless_rules why token (last_act (Sets i token) refl)

-- an ask seeks its funding ----

-- the product of an ask's transaction stands, if there is an ask
abbrev has_product : Facts → Option Ask → Bool
has_product f None = true
has_product f (Some x) = is_some (product_named x.txn.product f.products)

funding_rules : {r : Record} {h : History} (f : Facts) (ask : Ask) → has_product f (Some ask) ≡ true → RulesRow r h (funding_acts f ask) (funding_ruling f ask ∷ [])
funding_rules {r} {h} f ask stands = by (is_account_funded ask.txn.funding) (product_named ask.txn.product f.products) refl stands
  where
    switched : Bool → Ruling
    switched on = cond on (decided_as ask.event (verdict_of_sets (stand f ask failure.Switch ask.at) failure.Switch)) (asked_about ask.event)

    by_switch : (product : Product) (on : Bool) → RulesRow r h (cond on (stand_acts (stand f ask failure.Switch ask.at) (next_notice f) ask failure.Switch ask.at) (Asks f product ask ∷ [])) (switched on ∷ [])
    by_switch product true = record { rules = alone_rules (stand_alone (stand f ask failure.Switch ask.at) (next_notice f) ask failure.Switch ask.at) }
    by_switch product false = last_act (Asks f product ask) refl

    by : (own : Bool) (product : Option Product) → product_named ask.txn.product f.products ≡ product → is_some product ≡ true
        → RulesRow r h (cond own (HoldsOwn ask ∷ []) (gateway_acts product f ask)) (cond own (decided_as ask.event verdict.Approved) (switched (is_named_in f.switched ask.txn.product)) ∷ [])
    by true product e stands = last_act (HoldsOwn ask) refl
    by false None e stands = cc
    by false (Some product) e stands =
        subst (λ (name : List ℕ). RulesRow r h (gateway_acts (Some product) f ask) (switched (is_named_in f.switched name) ∷ []))
        (one_name product.name ask.txn.product (found_passes (λ (p : Product). bytes_eq p.name ask.txn.product) f.products product e))
        (by_switch product (is_named_in f.switched product.name))

authorization_rules : (r : Record) (h : History) (token : List ℕ) (why : Option Reason) (ask : Option Ask) → has_product (history_facts h) ask ≡ true
    → RulesRow r h (acts_unless why token (authorization_acts (history_facts h) ask)) (ask_rulings (history_facts h) token why ask)
authorization_rules r h token (Some why) ask stands = last_act (Declines token why) refl
authorization_rules r h token None None stands = no_act
authorization_rules r h token None (Some x) stands = first_act (Begins x) refl refl (λ es. funding_rules (history_facts h) x stands)

increment_rules : (r : Record) (h : History) (token : List ℕ) (why : Option Reason) (ask : Option Ask) → has_product (history_facts h) ask ≡ true
    → RulesRow r h (acts_unless why token (increment_acts (history_facts h) ask)) (ask_rulings (history_facts h) token why ask)
increment_rules r h token (Some why) ask stands = last_act (Declines token why) refl
increment_rules r h token None None stands = no_act
increment_rules r h token None (Some x) stands = first_act (Uses x) refl refl (λ es. funding_rules (history_facts h) x stands)

authorization_product : (f : Facts) (token card : List ℕ) (currency : Currency) (amount mcc : ℕ) (mid : List ℕ) (partial : Bool) (at : ℕ)
    → has_product f (authorization_ask f token card currency amount mcc mid partial at) ≡ true
authorization_product f token card currency amount mcc mid partial at = by_card (card_named card f.cards)
  where
    by_product : (c : Card) (product : Option Product) → product_named c.product f.products ≡ product
        → has_product f (option_map (first_ask token amount partial at) (option_map (λ product. txn_begun f c product token currency mcc mid at) product)) ≡ true
    by_product c None e = refl
    by_product c (Some product) e = ap (λ (o : Option Product). is_some o) e

    by_card : (c : Option Card)
        → has_product f (option_map (first_ask token amount partial at) (option_and_then (λ c. option_map (λ product. txn_begun f c product token currency mcc mid at) (product_named c.product f.products)) c)) ≡ true
    by_card None = refl
    by_card (Some c) = by_product c (product_named c.product f.products) refl

-- the product of a transaction that stands does too
increment_product : (h : History) (i : Input) (token txn : List ℕ) (amount at : ℕ) → IsReady h i → (now : Option TxnNow) → txn_in (history_facts h) txn ≡ now
    → has_product (history_facts h) (option_map (λ now. further_ask token amount at now.txn) now) ≡ true
increment_product h i token txn amount at ready None e = refl
increment_product h i token txn amount at ready (Some now) e =
    ap (λ (f : Facts). is_some (product_named now.txn.product f.products)) (sym (core_shows.facts h ready.good))
    ∙ ready.taken.products_stay now.txn.product (ready.taken.well.txns.products txn now e)

-- a reversal, a clearing, a refund ----

-- why an input of its own abandons what is asked of a transaction
own_reason : (r : Record) (f : Facts) (t : Txn) (why : Reason) → nat_le t.expires r.at ≡ false → abandoned_by t.token r.input ≡ Some why → abandonment_reason r t ≡ Some why
own_reason r f t why later by_input = ap (λ (b : Bool). cond b (Some reason.Expired) (abandoned_by t.token r.input)) later ∙ by_input

-- the calls asked of a transaction once what is due is settled are abandoned by the input
settled_abandoned : (r : Record) (h : History) (token : List ℕ) (now : TxnNow) (why : Reason) → IsReady h r.input → IsSettled (history_facts h) r.at → txn_in (history_facts h) token ≡ Some now
    → abandoned_by now.txn.token r.input ≡ Some why → Each (IsAbandoned r h now.txn why) (asked_calls_of (history_facts h) now.txn.token)
settled_abandoned r h token now why ready settled stands by_input =
    let f : Facts = history_facts h in
    asked_abandoned r h r.input token now why ready stands (λ c asked itself same.
    own_reason r f now.txn why (settled c now asked itself (ap (txn_in f) (same ∙ its_token f.txns token now stands) ∙ stands)) by_input)

reversal_rules : (r : Record) (h : History) (token txn : List ℕ) (currency : Currency) (amount : ℕ) → r.input ≡ input.Reversal token txn currency amount
    → IsReady h r.input → IsSettled (history_facts h) r.at → (known : Option TxnNow) → txn_in (history_facts h) txn ≡ known
    → RulesRow r h (acts_unless (reversal_reason known currency) token (reversal_acts (history_facts h) token amount known)) (one token (done_unless (reversal_reason known currency)))
reversal_rules r h token txn currency amount is ready settled None e = last_act (Declines token reason.TxnUnknown) refl
reversal_rules r h token txn currency amount is ready settled (Some now) e =
    let f : Facts = history_facts h in
    let t : Txn = now.txn in
    let freed : ℕ = min amount (in_all (parts_held f t)) in
    let calls = settled_abandoned r h txn now reason.Reversed ready settled e
    (ap (abandoned_by t.token) is ∙ ap (λ (b : Bool). cond b (Some reason.Reversed) None) (same_name txn t.token (sym (its_token f.txns txn now e)))) in
    unless_rules (reversal_reason (Some now) currency) token
    (both_acts
    (both_acts (abandons_first calls (λ es. first_act (LetsGo t (parts_held f t) freed) refl refl (λ more. either_acts (nat_eq freed (in_all (parts_held f t))) (last_act (Ends t) refl) no_act)))
    (λ es. for_gateway t (either_acts (nat_eq freed 0) no_act (last_act _ refl))))
    (λ es. last_act (Does token) refl))

clearing_rules : (r : Record) (h : History) (token txn : List ℕ) (currency : Currency) (amount : ℕ) (last : Bool) → r.input ≡ input.Clearing token txn currency amount last
    → IsReady h r.input → IsSettled (history_facts h) r.at → (known : Option TxnNow) → txn_in (history_facts h) txn ≡ known
    → RulesRow r h (acts_unless (clearing_reason known currency) token (clearing_acts (history_facts h) token amount last r.at known)) (one token (done_unless (clearing_reason known currency)))
clearing_rules r h token txn currency amount last is ready settled None e = last_act (Declines token reason.TxnUnknown) refl
clearing_rules r h token txn currency amount last is ready settled (Some now) e =
    let f : Facts = history_facts h in
    let t : Txn = now.txn in
    let rest : Parts = left_of (parts_held f t) (taken_to_clear (parts_held f t) amount) in
    let calls = settled_abandoned r h txn now reason.Cleared ready settled e
    (ap (abandoned_by t.token) is ∙ ap (λ (b : Bool). cond b (Some reason.Cleared) None) (same_name txn t.token (sym (its_token f.txns txn now e)))) in
    unless_rules (clearing_reason (Some now) currency) token
    (first_act (Clears t (parts_held f t) amount r.at) refl refl
    (λ es. both_acts
    (either_acts (now.live && (last || nat_eq (in_all rest) 0))
    (both_acts (ends_acts (next_notice f) f t rest reason.Cleared (still_abandoned r h es t reason.Cleared (asked_calls_of f t.token) calls)) (λ more. for_gateway t (last_act _ refl)))
    (for_gateway t (last_act _ refl)))
    (λ more. last_act (Does token) refl)))

refund_rules : {r : Record} {h : History} (f : Facts) (token : List ℕ) (currency : Currency) (amount : ℕ) (known : Option TxnNow)
    → RulesRow r h (acts_unless (refund_reason f known currency amount) token (refund_acts f token amount known)) (one token (done_unless (refund_reason f known currency amount)))
refund_rules f token currency amount None = last_act (Declines token reason.TxnUnknown) refl
refund_rules f token currency amount (Some now) =
    unless_rules (refund_reason f (Some now) currency amount) token
    (first_act (GivesBack now.txn amount _) refl refl (λ es. both_acts (for_gateway now.txn (last_act _ refl)) (λ more. last_act (Does token) refl)))

-- an answer ----

-- the answer to a call is the answer of its number
its_answer : (call : CallId) (n : ℕ) (what : Outcome) → n ≡ call.0 → is_answer n what (input.Answer call what) ≡ true
its_answer call n what same = both_so (nat_eq call.0 n) (nat_eq (outcome_number what) (outcome_number what)) (ap (nat_eq call.0) same ∙ same_number call.0) (same_number (outcome_number what))

-- the answer to a call, as a record's input, is the answer of its number
input_answer : (r : Record) (call : CallId) (n : ℕ) (what : Outcome) → r.input ≡ input.Answer call what → n ≡ call.0 → is_answer n what r.input ≡ true
input_answer r call n what is same = ap (is_answer n what) is ∙ its_answer call n what same

-- an answer with a part is one of that part if it counts, and else none
part_answer : (r : Record) (call : CallId) (o : Opened) (currency : Currency) (amount : ℕ) → r.input ≡ input.Answer call (outcome.Partial currency amount) → o.call.0 ≡ call.0
    → counts_as_part o currency amount ≡ true → is_part_answer o amount r.input ≡ true
part_answer r call o currency amount is same counts =
    ap (is_part_answer o amount) is
    ∙ both_so _ _ (both_so (nat_eq call.0 o.call.0) (nat_eq amount amount) (ap (nat_eq call.0) same ∙ same_number call.0) (same_number amount)) counts

no_part_answer : (r : Record) (call : CallId) (o : Opened) (currency : Currency) (amount : ℕ) → r.input ≡ input.Answer call (outcome.Partial currency amount) → o.call.0 ≡ call.0
    → counts_as_part o currency amount ≡ false → is_uncounted_part o r.input ≡ true
no_part_answer r call o currency amount is same none =
    ap (is_uncounted_part o) is
    ∙ both_so (nat_eq call.0 o.call.0) (not (counts_as_part o currency amount)) (ap (nat_eq call.0) same ∙ same_number call.0) (ap not none)

outcome_rules : (r : Record) (h : History) (call : CallId) (what : Outcome) (n : ℕ) (c : CallNow) (now : TxnNow) → r.input ≡ input.Answer call what → c.opened.call.0 ≡ call.0
    → call_in (history_facts h) n ≡ Some c → txn_in (history_facts h) c.opened.txn ≡ Some now → RulesRow r h (outcome_acts what (history_facts h) c.opened now.txn r.at) []
outcome_rules r h call outcome.Funded n c now is same stands its =
    let answers = input_answer r call c.opened.call.0 outcome.Funded is same in
    only_act (Funds c.opened now.txn)
    (asked_closed r h n c now how.Funded verdict.Approved stands its (ap (λ (b : Bool). only_if b verdict.Approved) answers) (funded_alone (call_ask c.opened now.txn) (account.Gateway now.txn.currency)))
outcome_rules r h call outcome.Refused n c now is same stands its =
    let answers = input_answer r call c.opened.call.0 outcome.Refused is same in
    only_act (Refuses c.opened now.txn)
    (asked_closed r h n c now how.Refused (verdict.Declined reason.GatewayDeclined) stands its (ap (λ (b : Bool). only_if b (verdict.Declined reason.GatewayDeclined)) answers)
    (declined_alone (call_ask c.opened now.txn) reason.GatewayDeclined))
outcome_rules r h call outcome.Connection n c now is same stands its =
    failed_rules r h n c now failure.Connection stands its (input_answer r call c.opened.call.0 outcome.Connection is same)
outcome_rules r h call outcome.Application n c now is same stands its =
    failed_rules r h n c now failure.Application stands its
    (ap (λ (b : Bool). b || is_uncounted_part c.opened r.input) (input_answer r call c.opened.call.0 outcome.Application is same))
outcome_rules r h call (outcome.Partial currency amount) n c now is same stands its = by (counts_as_part c.opened currency amount) refl
  where
    o : Opened
    o = c.opened

    by : (b : Bool) → counts_as_part o currency amount ≡ b
        → RulesRow r h (cond b (FundsPart o now.txn amount ∷ []) (failed_acts (history_facts h) o now.txn failure.Application r.at)) []
    by true counts =
        only_act (FundsPart o now.txn amount)
        (asked_closed r h n c now (how.Partial amount) (verdict.Partial now.txn.currency amount) stands its
        (ap (λ (b : Bool). only_if b (verdict.Partial now.txn.currency amount)) (part_answer r call o currency amount is same counts)) (part_alone o now.txn amount))
    by false none =
        failed_rules r h n c now failure.Application stands its
        (or_true (is_answer o.call.0 outcome.Application r.input) (is_uncounted_part o r.input) (no_part_answer r call o currency amount is same none))

-- all kinds ----

acts_rule : (r : Record) (h : History) → IsReady h r.input → IsSettled (history_facts h) r.at → (i : Input) → r.input ≡ i → RulesRow r h (acts_of i r.at (history_facts h)) (own_rulings i r.at (history_facts h))
acts_rule r h ready settled (input.User token user) is = set_rules _ (user_reason (history_facts h) user) token
acts_rule r h ready settled (input.Card token card user product active) is = set_rules _ (card_reason (history_facts h) card user product) token
acts_rule r h ready settled (input.Move token who) is = set_rules _ (move_reason (history_facts h) who) token
acts_rule r h ready settled (input.Product token product currency funding timeout_ms hold_ms) is = set_rules _ (product_reason (history_facts h) product) token
acts_rule r h ready settled (input.Group token group mccs) is = set_rules _ (group_reason (history_facts h) group) token
acts_rule r h ready settled (input.Control token control currency window amount_limit usage_limit association scope offset active) is =
    set_rules _ (control_reason (history_facts h) control currency window association scope offset) token
acts_rule r h ready settled (input.Set token set product currency connection timeout application max day_limit active) is =
    set_rules _ (set_reason (history_facts h) set product currency) token
acts_rule r h ready settled (input.Switch token product on) is = set_rules _ (switch_reason (history_facts h) product) token
acts_rule r h ready settled (input.Load token user currency amount) is = unless_rules (load_reason (history_facts h) user) token (last_act (Loads token user currency amount) refl)
acts_rule r h ready settled (input.Authorization token card currency amount mcc mid partial) is =
    let f : Facts = history_facts h in
    let ask : Option Ask = authorization_ask f token card currency amount mcc mid partial r.at in
    authorization_rules r h token (authorization_reason f card currency ask) ask (authorization_product f token card currency amount mcc mid partial r.at)
acts_rule r h ready settled (input.Increment token txn currency amount) is =
    let f : Facts = history_facts h in
    let ask : Option Ask = increment_ask f token txn amount r.at in
    increment_rules r h token (increment_reason f (txn_in f txn) currency ask) ask (increment_product h r.input token txn amount r.at ready (txn_in f txn) refl)
acts_rule r h ready settled (input.Reversal token txn currency amount) is = reversal_rules r h token txn currency amount is ready settled (txn_in (history_facts h) txn) refl
acts_rule r h ready settled (input.Clearing token txn currency amount last) is = clearing_rules r h token txn currency amount last is ready settled (txn_in (history_facts h) txn) refl
acts_rule r h ready settled (input.Refund token txn currency amount) is = refund_rules (history_facts h) token currency amount (txn_in (history_facts h) txn)
acts_rule r h ready settled (input.Answer call what) is =
    asked_rules (λ (o : Opened) (t : Txn). outcome_acts what (history_facts h) o t r.at) call.0
    (λ c now e its. outcome_rules r h call what call.0 c now is (its_number (history_facts h).calls call.0 c e) e its)
acts_rule r h ready settled (input.Ack notice) is = either_acts (is_notice (history_facts h) notice) (last_act (Acknowledges notice) refl) no_act
acts_rule r h ready settled input.Time is = no_act

pub own_rules : (r : Record) (h : History) → IsReady h r.input → IsSettled (history_facts h) r.at → Rules r h (entries_of r.input r.at (history_facts h)) (own_rulings r.input r.at (history_facts h))
own_rules r h ready settled =
    (acts_rule r h ready settled r.input refl).rules
