-- What a core that is made again from a state in order keeps is of its form, and its transactions began with its records.
use Rattle.std.proofs.Common.{◌≡◌, ◌∙◌, ◌++◌, ◌∷◌, ◌&&◌, ◌==◌, ℕ, ap, ap₂, arith, Bool, cond, false, fold, List, [], map, nat_le, nat_lt, refl, sym, true, ◌≤◌}
use Rattle.std.specs.Prelude.{Option, Some, None, option_map, unwrap_or}
use Rattle.std.specs.List.{list_all}
use Rattle.std.specs.Str.{bytes_eq}
use Rattle.std.proofs.lemmas.Bool.{and_parts}
use Rattle.std.proofs.lemmas.Bool.Decides.{nat_tests}
use Rattle.std.proofs.lemmas.List.Folds.{list_all-append}
use Rattle.iss_model.specs.declared.call.CallState.{CallState}
use Rattle.iss_model.specs.declared.call.CallState.TheVariants as call_state
use Rattle.iss_model.specs.declared.call.How.TheVariants as how
use Rattle.iss_model.specs.declared.decision.Verdict.{Verdict}
use Rattle.iss_model.specs.declared.decision.Verdict.TheVariants as verdict
use Rattle.iss_model.specs.declared.input.Input.{Input}
use Rattle.iss_model.specs.declared.input.Input.TheVariants as input
use Rattle.iss_model.specs.declared.limits.TheConstants.{GREATEST_AMOUNT, LEAST_AMOUNT}
use Rattle.iss_model.specs.declared.setting.Moved.TheVariants as moved
use Rattle.iss_model.specs.declared.setting.Product.{Product}
use Rattle.iss_model.specs.declared.state.Carried.{Carried}
use Rattle.iss_model.specs.declared.state.Seen.{Seen}
use Rattle.iss_model.specs.declared.state.State.{State}
use Rattle.iss_model.specs.Forms.{is_amount, is_in_form, is_stamp}
use Rattle.iss_model.specs.Inputs.{event_token}
use Rattle.iss_model.specs.rules.Activity.{TxnNow}
use Rattle.iss_model.specs.rules.Asks.{Ask}
use Rattle.iss_model.specs.rules.Facts.{Facts}
use Rattle.iss_model.specs.rules.Pieces.{call_for}
use Rattle.iss_model.specs.rules.Settings.{product_named}
use Rattle.iss_model.specs.state.Cores.{CoreState, ProductNow, after_setting, core_facts, no_core, product_after_switch}
use Rattle.iss_state.specs.InForm.{IsInForm, are_times, is_begun_at_stamp, is_closed_in_form, is_decided_in_form, is_end_in_form, is_opened_at_stamp, is_verdict_in_form}
use Rattle.iss_state.proofs.docket.Lists.{both_so}
use Rattle.iss_state.proofs.effects.Finds.{number_is}
use Rattle.iss_states.specs.Order.{AreInOrder, do_numbers_rise, is_event_record}
use Rattle.iss_states.specs.Rebuilding.{ask_of_event, calls_marked, carried_named, decisions_of_event, events_again, how_of_mark, is_done, rebuilt, txns_begun, with_event, with_seen}
use Rattle.iss_states.proofs.Decided.{setting_decisions}
use Rattle.iss_well_formed.proofs.GrownAgain.{settled_calls, settled_txns}
use Rattle.iss_decided.specs.Verdicts.{do_parts_agree, goes_with_part, permits_this_part}
use Rattle.iss_least.specs.Least.{ArePartsOfLeast, is_of_least}
use Rattle.iss_least.proofs.AskedAgain.{IsAskOf, ask_is}
use Rattle.iss_least.proofs.EventWeights.{form_of_event, part_most, stamp_of_event}

-- lists ----

all_joined : {A : Type 0} (p : A → Bool) (xs ys : List A) → list_all p xs ≡ true → list_all p ys ≡ true → list_all p (xs ++ ys) ≡ true
all_joined p xs ys h k = list_all-append p xs ys ∙ ap₂ (λ (a b : Bool). a && b) h k

one_passes : {A : Type 0} (p : A → Bool) (x : A) → p x ≡ true → list_all p (x ∷ []) ≡ true
one_passes p x h = both_so (p x) true h refl

-- settings ----

switched_times : (name : List ℕ) (on : Bool) (p : ProductNow) → are_times (product_after_switch name on p) ≡ are_times p
switched_times name on p = by (bytes_eq name p.product.name)
  where
    by : (b : Bool) → are_times (cond b (record p { on = on }) p) ≡ are_times p
    by true = refl
    by false = refl

all_switched : (name : List ℕ) (on : Bool) (ps : List ProductNow) → list_all are_times (map (product_after_switch name on) ps) ≡ list_all are_times ps
all_switched name on [] = refl
all_switched name on (p ∷ ps) = ap₂ (λ (a b : Bool). a && b) (switched_times name on p) (all_switched name on ps)

setting_times : (c : CoreState) (i : Input) → is_in_form i ≡ true → list_all are_times c.products ≡ true → list_all are_times (after_setting c i).products ≡ true
setting_times c (input.Product token product currency funding timeout_ms hold_ms) form h =
    all_joined are_times c.products
    (record { product = record { name = product; currency = currency; funding = funding; timeout_ms = timeout_ms; hold_ms = hold_ms }; on = false } ∷ []) h
    (one_passes are_times (record { product = record { name = product; currency = currency; funding = funding; timeout_ms = timeout_ms; hold_ms = hold_ms }; on = false }) form)
setting_times c (input.Switch token product on) form h = all_switched product on c.products ∙ h
setting_times c (input.Move token (moved.Card card to)) form h = h
setting_times c (input.Move token (moved.User user to)) form h = h
setting_times c _ form h = h

settled_times : (b : Bool) (c : CoreState) (i : Input) → is_in_form i ≡ true → list_all are_times c.products ≡ true → list_all are_times (cond b (after_setting c i) c).products ≡ true
settled_times true c i form h = setting_times c i form h
settled_times false c i form h = h

pub settled_count : (b : Bool) (c : CoreState) (i : Input) → (cond b (after_setting c i) c).count ≡ c.count
settled_count false c i = refl
settled_count true c (input.Move token (moved.Card card to)) = refl
settled_count true c (input.Move token (moved.User user to)) = refl
settled_count true c _ = refl

settled_decisions : (b : Bool) (c : CoreState) (i : Input) → (cond b (after_setting c i) c).decisions ≡ c.decisions
settled_decisions true c i = setting_decisions c i
settled_decisions false c i = refl

-- times and stamps ----

-- a transaction began at a stamp, with a record up to this number
abbrev pub is_begun_well : ℕ → TxnNow → Bool
is_begun_well records t = is_begun_at_stamp t && nat_le t.txn.origin records

-- What is made of events is of its form, as to its times and stamps.
record HasStamps (records : ℕ) (c : CoreState) : Type 0 where
  products : list_all are_times c.products ≡ true
  txns : list_all (is_begun_well records) c.holdings.txns ≡ true
  calls : list_all is_opened_at_stamp c.calls ≡ true

begun_stamps : (records : ℕ) (f : Facts) (ts : List Carried) (at : ℕ) (i : Input) → is_stamp at ≡ true → nat_le f.count records ≡ true → list_all (is_begun_well records) (txns_begun ts (ask_of_event f at i)) ≡ true
begun_stamps records f ts at i stamp before = by (ask_of_event f at i) refl
  where
    carried : (x : Ask) → is_stamp x.txn.at ≡ true → nat_le x.txn.origin records ≡ true → (o : Option Carried)
        → list_all (is_begun_well records) (unwrap_or (option_map (λ t. record { txn = x.txn; live = t.sums.live } ∷ []) o) []) ≡ true
    carried x h k None = refl
    carried x h k (Some t) = one_passes (is_begun_well records) (record { txn = x.txn; live = t.sums.live }) (both_so (is_stamp x.txn.at) (nat_le x.txn.origin records) h k)

    begins : (x : Ask) → IsAskOf f at i x → (b : Bool) → x.is_first ≡ b
        → list_all (is_begun_well records) (cond b (unwrap_or (option_map (λ t. record { txn = x.txn; live = t.sums.live } ∷ []) (carried_named x.txn.token ts)) []) []) ≡ true
    begins x its false first = refl
    begins x its true first = carried x (ap is_stamp (its.begun first) ∙ stamp) (ap (λ (n : ℕ). nat_le n records) (its.origin first) ∙ before) (carried_named x.txn.token ts)

    by : (o : Option Ask) → ask_of_event f at i ≡ o → list_all (is_begun_well records) (txns_begun ts o) ≡ true
    by None e = refl
    by (Some x) e = begins x (ask_is f at i x e) x.is_first refl

marked_stamps : (f : Facts) (mark : Option CallState) (at : ℕ) (i : Input) → is_stamp at ≡ true → list_all is_opened_at_stamp (calls_marked f mark (ask_of_event f at i)) ≡ true
marked_stamps f None at i stamp = refl
marked_stamps f (Some mark) at i stamp = by (ask_of_event f at i) refl
  where
    sold : (x : Ask) → is_stamp x.at ≡ true → (o : Option Product) → list_all is_opened_at_stamp (unwrap_or (option_map (λ product. record { opened = call_for f product x; how = how_of_mark mark } ∷ []) o) []) ≡ true
    sold x h None = refl
    sold x h (Some product) = one_passes is_opened_at_stamp (record { opened = call_for f product x; how = how_of_mark mark }) h

    by : (o : Option Ask) → ask_of_event f at i ≡ o → list_all is_opened_at_stamp (calls_marked f (Some mark) o) ≡ true
    by None e = refl
    by (Some x) e = sold x (ap is_stamp (ask_is f at i x e).moment ∙ stamp) (product_named x.txn.product f.products)

seen_stamps : (records : ℕ) (ts : List Carried) (c : CoreState) (e : Seen) → is_event_record e ≡ true → nat_le e.number records ≡ true → HasStamps records c → HasStamps records (with_seen ts c e)
seen_stamps records ts c e form before h =
    let settled : CoreState = cond (is_done e.verdict) (after_setting (with_event c e) e.body.input) (with_event c e) in
    let f : Facts = core_facts settled in
    let count : f.count ≡ e.number = settled_count (is_done e.verdict) (with_event c e) e.body.input in
    record {
      products = settled_times (is_done e.verdict) (with_event c e) e.body.input (form_of_event e form) h.products;
      txns = all_joined (is_begun_well records) settled.holdings.txns (txns_begun ts (ask_of_event f e.body.at e.body.input))
          (ap (list_all (is_begun_well records)) (settled_txns (is_done e.verdict) (with_event c e) e.body.input) ∙ h.txns)
          (begun_stamps records f ts e.body.at e.body.input (stamp_of_event e form) (ap (λ (n : ℕ). nat_le n records) count ∙ before));
      calls = all_joined is_opened_at_stamp settled.calls (calls_marked f e.mark (ask_of_event f e.body.at e.body.input))
          (ap (list_all is_opened_at_stamp) (settled_calls (is_done e.verdict) (with_event c e) e.body.input) ∙ h.calls)
          (marked_stamps f e.mark e.body.at e.body.input (stamp_of_event e form));
    }

all_stamps : (last records : ℕ) (ts : List Carried) (c : CoreState) (es : List Seen) → list_all is_event_record es ≡ true → do_numbers_rise last records es ≡ true → HasStamps records c → HasStamps records (fold (with_seen ts) c es)
all_stamps last records ts c [] form rise h = h
all_stamps last records ts c (e ∷ es) form rise h =
    let forms = and_parts (is_event_record e) (list_all is_event_record es) form in
    let parts = and_parts (nat_lt last e.number && nat_le e.number records) (do_numbers_rise e.number records es) rise in
    all_stamps e.number records ts (with_seen ts c e) es forms.1 parts.1 (seen_stamps records ts c e forms.0 (and_parts (nat_lt last e.number) (nat_le e.number records) parts.0).1 h)

stamps_again : (s : State) → AreInOrder s → HasStamps s.records (events_again s)
stamps_again s order = all_stamps 0 s.records s.txns no_core s.events order.records order.numbers (record { products = refl; txns = refl; calls = refl })

first_of_both : (records : ℕ) (ts : List TxnNow) → list_all (is_begun_well records) ts ≡ true → list_all is_begun_at_stamp ts ≡ true
first_of_both records [] h = refl
first_of_both records (t ∷ ts) h =
    let both = and_parts (is_begun_well records t) (list_all (is_begun_well records) ts) h in
    both_so (is_begun_at_stamp t) (list_all is_begun_at_stamp ts) (and_parts (is_begun_at_stamp t) (nat_le t.txn.origin records) both.0).0 (first_of_both records ts both.1)

last_of_both : (records : ℕ) (ts : List TxnNow) → list_all (is_begun_well records) ts ≡ true → list_all (λ t. nat_le t.origin records) (map (λ (t : TxnNow). t.txn) ts) ≡ true
last_of_both records [] h = refl
last_of_both records (t ∷ ts) h =
    let both = and_parts (is_begun_well records t) (list_all (is_begun_well records) ts) h in
    both_so (nat_le t.txn.origin records) (list_all (λ t. nat_le t.origin records) (map (λ (t : TxnNow). t.txn) ts)) (and_parts (is_begun_at_stamp t) (nat_le t.txn.origin records) both.0).1 (last_of_both records ts both.1)

-- each transaction began with one of the records
pub origins_again : (s : State) → AreInOrder s → list_all (λ t. nat_le t.origin s.records) (map (λ (t : TxnNow). t.txn) (rebuilt s).holdings.txns) ≡ true
origins_again s order = last_of_both s.records (events_again s).holdings.txns (stamps_again s order).txns

-- parts ----

-- What is made of events is of its form, as to the parts that it tells.
record HasParts (c : CoreState) : Type 0 where
  closed : list_all is_closed_in_form c.calls ≡ true
  decided : list_all is_decided_in_form c.decisions ≡ true

part_amount : (n : ℕ) → nat_le LEAST_AMOUNT n ≡ true → n ≤ GREATEST_AMOUNT → is_amount n ≡ true
part_amount n h k = both_so (nat_le LEAST_AMOUNT n) (nat_le n GREATEST_AMOUNT) h (tested n k)
  where
    tested : (n : ℕ) → n ≤ GREATEST_AMOUNT → nat_le n GREATEST_AMOUNT ≡ true
    tested n k = grind (arith, nat_tests)

verdict_form : (v : Verdict) (m : Option CallState) (i : Input) → is_in_form i ≡ true → goes_with_part i (Some v) m ≡ true → is_of_least (Some v) ≡ true → is_verdict_in_form v ≡ true
verdict_form verdict.Done m i form parts least = refl
verdict_form verdict.Approved m i form parts least = refl
verdict_form (verdict.Declined why) m i form parts least = refl
verdict_form (verdict.Partial currency amount) m i form parts least = part_amount amount least (part_most i currency amount m form parts)

mark_form : (v : Option Verdict) (m : CallState) (i : Input) → is_in_form i ≡ true → goes_with_part i v (Some m) ≡ true → is_of_least v ≡ true → is_end_in_form (how_of_mark m) ≡ true
mark_form v call_state.Asked i form parts least = refl
mark_form v call_state.Unknown i form parts least = refl
mark_form v (call_state.Closed how.Funded) i form parts least = refl
mark_form v (call_state.Closed how.Refused) i form parts least = refl
mark_form v (call_state.Closed (how.Failed why)) i form parts least = refl
mark_form v (call_state.Closed how.Abandoned) i form parts least = refl
mark_form None (call_state.Closed (how.Partial part)) i form parts least = cc
mark_form (Some verdict.Done) (call_state.Closed (how.Partial part)) i form parts least = cc
mark_form (Some verdict.Approved) (call_state.Closed (how.Partial part)) i form parts least = cc
mark_form (Some (verdict.Declined why)) (call_state.Closed (how.Partial part)) i form parts least = cc
mark_form (Some (verdict.Partial currency amount)) (call_state.Closed (how.Partial part)) i form parts least =
    ap is_amount (sym (number_is amount part (and_parts (amount == part) (permits_this_part i currency amount) parts).0))
    ∙ part_amount amount least (part_most i currency amount (Some (call_state.Closed (how.Partial part))) form parts)

marked_parts : (f : Facts) (v : Option Verdict) (m : Option CallState) (o : Option Ask) (i : Input) → is_in_form i ≡ true → goes_with_part i v m ≡ true → is_of_least v ≡ true → list_all is_closed_in_form (calls_marked f m o) ≡ true
marked_parts f v None o i form parts least = refl
marked_parts f v (Some mark) None i form parts least = refl
marked_parts f v (Some mark) (Some x) i form parts least = by (product_named x.txn.product f.products)
  where
    by : (o : Option Product) → list_all is_closed_in_form (unwrap_or (option_map (λ product. record { opened = call_for f product x; how = how_of_mark mark } ∷ []) o) []) ≡ true
    by None = refl
    by (Some product) = one_passes is_closed_in_form (record { opened = call_for f product x; how = how_of_mark mark }) (mark_form v mark i form parts least)

decided_parts : (token : List ℕ) (v : Option Verdict) (m : Option CallState) (i : Input) → is_in_form i ≡ true → goes_with_part i v m ≡ true → is_of_least v ≡ true
    → list_all is_decided_in_form (unwrap_or (option_map (λ v. record { event = token; verdict = v } ∷ []) v) []) ≡ true
decided_parts token None m i form parts least = refl
decided_parts token (Some v) m i form parts least = one_passes is_decided_in_form (record { event = token; verdict = v }) (verdict_form v m i form parts least)

seen_parts : (ts : List Carried) (c : CoreState) (e : Seen) → is_event_record e ≡ true → do_parts_agree e ≡ true → is_of_least e.verdict ≡ true → HasParts c → HasParts (with_seen ts c e)
seen_parts ts c e form parts least h =
    let settled : CoreState = cond (is_done e.verdict) (after_setting (with_event c e) e.body.input) (with_event c e) in
    let f : Facts = core_facts settled in
    record {
      closed = all_joined is_closed_in_form settled.calls (calls_marked f e.mark (ask_of_event f e.body.at e.body.input))
          (ap (list_all is_closed_in_form) (settled_calls (is_done e.verdict) (with_event c e) e.body.input) ∙ h.closed)
          (marked_parts f e.verdict e.mark (ask_of_event f e.body.at e.body.input) e.body.input (form_of_event e form) parts least);
      decided = all_joined is_decided_in_form settled.decisions (decisions_of_event e)
          (ap (list_all is_decided_in_form) (settled_decisions (is_done e.verdict) (with_event c e) e.body.input) ∙ h.decided)
          (decided_parts (unwrap_or (event_token e.body.input) []) e.verdict e.mark e.body.input (form_of_event e form) parts least);
    }

all_parts : (ts : List Carried) (c : CoreState) (es : List Seen) → list_all is_event_record es ≡ true → list_all do_parts_agree es ≡ true → list_all (λ e. is_of_least e.verdict) es ≡ true → HasParts c → HasParts (fold (with_seen ts) c es)
all_parts ts c [] form parts least h = h
all_parts ts c (e ∷ es) form parts least h =
    let forms = and_parts (is_event_record e) (list_all is_event_record es) form in
    let agree = and_parts (do_parts_agree e) (list_all do_parts_agree es) parts in
    let some = and_parts (is_of_least e.verdict) (list_all (λ e. is_of_least e.verdict) es) least in
    all_parts ts (with_seen ts c e) es forms.1 agree.1 some.1 (seen_parts ts c e forms.0 agree.0 some.0 h)

pub forms_again : (s : State) → AreInOrder s → list_all do_parts_agree s.events ≡ true → ArePartsOfLeast s → IsInForm (rebuilt s)
forms_again s order parts least =
    let stamps : HasStamps s.records (events_again s) = stamps_again s order in
    let told : HasParts (events_again s) = all_parts s.txns no_core s.events order.records parts least (record { closed = refl; decided = refl }) in
    record {
      now = order.time;
      products = stamps.products;
      txns = first_of_both s.records (events_again s).holdings.txns stamps.txns;
      calls = stamps.calls;
      closed = told.closed;
      decided = told.decided;
    }
