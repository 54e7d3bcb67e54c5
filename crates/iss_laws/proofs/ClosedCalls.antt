-- The rulings that go with calls which a record closes, and what acts rule in a row. One call failed or was answered, and those of a
-- transaction are abandoned.
use Rattle.std.proofs.Common.{◌-◌, ◌≡◌, ℕ, ◌+◌, Bool, true, false, cond, nat_eq, List, [], ◌∷◌, ◌++◌, append-nil, refl, subst, sym, ap, ◌∙◌}
use Rattle.std.specs.Prelude.{Option, Some, None, option_map, option_and_then, find}
use Rattle.std.specs.List.{filter_map, cons_option}
use Rattle.std.specs.Option.{option_or}
use Rattle.std.specs.Str.{bytes_eq}
use Rattle.std.proofs.lemmas.List.Elements.{filter_map-append}
use Rattle.std.proofs.lemmas.List.Folds.{find-append}
use Rattle.iss_model.specs.declared.account.Account.{Account}
use Rattle.iss_model.specs.declared.account.Account.TheVariants as account
use Rattle.iss_model.specs.declared.account.Part.{Part}
use Rattle.iss_model.specs.declared.account.Part.TheVariants as part
use Rattle.iss_model.specs.declared.call.CallId.{CallId}
use Rattle.iss_model.specs.declared.call.Failure.{Failure}
use Rattle.iss_model.specs.declared.call.How.{How}
use Rattle.iss_model.specs.declared.call.How.TheVariants as how
use Rattle.iss_model.specs.declared.call.Method.TheVariants as method
use Rattle.iss_model.specs.declared.call.Opened.{Opened}
use Rattle.iss_model.specs.declared.decision.Reason.{Reason}
use Rattle.iss_model.specs.declared.decision.Reason.TheVariants as reason
use Rattle.iss_model.specs.declared.decision.Verdict.{Verdict}
use Rattle.iss_model.specs.declared.decision.Verdict.TheVariants as verdict
use Rattle.iss_model.specs.declared.entry.Entry.{Entry}
use Rattle.iss_model.specs.declared.entry.Entry.TheVariants as entry
use Rattle.iss_model.specs.declared.entry.Row.{Row}
use Rattle.iss_model.specs.declared.input.Record.{Record}
use Rattle.iss_model.specs.declared.txn.Txn.{Txn}
use Rattle.iss_model.specs.rules.Activity.{TxnNow, CallNow, txn_now, txn_began, call_now, call_opened}
use Rattle.iss_model.specs.rules.Asks.{Ask, ask_given_back, call_ask, rest_given_back}
use Rattle.iss_model.specs.rules.CardReasons.{is_account_funded}
use Rattle.iss_model.specs.rules.Facts.{Facts, txn_in, call_in, asked_calls_of, next_notice}
use Rattle.iss_model.specs.rules.Histories.{History, history_facts, numbered_rows}
use Rattle.iss_model.specs.rules.Pieces.{Parts, abandoned_call_entries, abandoned_calls_entries, declined_ask_entries, failure_reason, funded_ask_entries, hold_entries, in_all, notice_entry, part_funded_entries, post_entries, taken_to_clear, user_account, void_entry, give_back_entries}
use Rattle.iss_model.specs.rules.StandIns.{Stand, allowed, over_limit, uncovered, stand}
use Rattle.iss_model.specs.rules.Acts.{Abandons, Act, Asks, Clears, Declines, Does, Ends, Fails, Funds, FundsPart, GivesBack, HoldsOwn, LetsGo, Loads, Refuses, Sets, StandsIn, TurnsDown, act_entries, entries_of_acts}
use Rattle.iss_model.specs.rules.CardActs.{acts_for_gateway, end_acts, failed_acts, stand_acts}
use Rattle.iss_acts.proofs.Walk.{acts_append}
use Rattle.iss_state.proofs.effects.Finds.{find-map}
use Rattle.iss_state.proofs.docket.Closing.{its_number}
use Rattle.iss_state.proofs.docket.Docketed.{AreSilent, both_silent, clearing_silent, gateway_silent, hold_silent, post_silent, release_silent}
use Rattle.iss_state.proofs.docket.Lists.{Each, each_weaker}
use Rattle.iss_laws.specs.Rulings.{Ruling, asked_about, decided_as, abandonment_reason, begun_in, call_ruling, closing_ruling, closing_rulings, closing_verdict, may_fail, only_if, opened_in, verdict_of_sets, with_entries}
use Rattle.iss_laws.proofs.Ruled.{Rules, RulesAlone, alone_rules, both_alone, none_closed, rules_alone, rules_none, rules_then, silent_alone}

-- what was opened and begun stays ----

-- the calls and the transactions that rows opened and began
abbrev openings : List Row → List Opened
openings rows = filter_map (λ row. call_opened row.entry) rows

abbrev beginnings : List Row → List Txn
beginnings rows = filter_map (λ row. txn_began row.entry) rows

opened_again : (rows : List Row) (o : Option Opened) → option_map (λ (c : CallNow). c.opened) (option_map (call_now rows) o) ≡ o
opened_again rows None = refl
opened_again rows (Some o) = refl

begun_again : (rows : List Row) (t : Option Txn) → option_map (λ (now : TxnNow). now.txn) (option_map (txn_now rows) t) ≡ t
begun_again rows None = refl
begun_again rows (Some t) = refl

opened_by_rows : (h : History) (n : ℕ) → opened_in (history_facts h) n ≡ find (λ o. nat_eq o.call.0 n) (openings h.rows)
opened_by_rows h n =
    ap (option_map (λ (c : CallNow). c.opened)) (find-map (λ (c : CallNow). nat_eq c.opened.call.0 n) (λ (o : Opened). nat_eq o.call.0 n) (call_now h.rows) (λ o. refl) (openings h.rows))
    ∙ opened_again h.rows (find (λ (o : Opened). nat_eq o.call.0 n) (openings h.rows))

begun_by_rows : (h : History) (token : List ℕ) → begun_in (history_facts h) token ≡ find (λ t. bytes_eq t.token token) (beginnings h.rows)
begun_by_rows h token =
    ap (option_map (λ (now : TxnNow). now.txn)) (find-map (λ (now : TxnNow). bytes_eq now.txn.token token) (λ (t : Txn). bytes_eq t.token token) (txn_now h.rows) (λ t. refl) (beginnings h.rows))
    ∙ begun_again h.rows (find (λ (t : Txn). bytes_eq t.token token) (beginnings h.rows))

-- what is found in a list is found first in a longer one
found_still : {A : Type 0} (p : A → Bool) (xs ys : List A) (x : A) → find p xs ≡ Some x → find p (xs ++ ys) ≡ Some x
found_still p xs ys x e = find-append p xs ys ∙ ap (λ o. option_or o (find p ys)) e

pub opened_stays : (h : History) (es : List Entry) (n : ℕ) (o : Opened) → opened_in (history_facts h) n ≡ Some o → opened_in (history_facts (with_entries h es)) n ≡ Some o
opened_stays h es n o e =
    opened_by_rows (with_entries h es) n
    ∙ ap (find (λ (o : Opened). nat_eq o.call.0 n)) (filter_map-append (λ (row : Row). call_opened row.entry) h.rows (numbered_rows _ es))
    ∙ found_still (λ (o : Opened). nat_eq o.call.0 n) (openings h.rows) (openings (numbered_rows _ es)) o (sym (opened_by_rows h n) ∙ e)

pub begun_stays : (h : History) (es : List Entry) (token : List ℕ) (t : Txn) → begun_in (history_facts h) token ≡ Some t → begun_in (history_facts (with_entries h es)) token ≡ Some t
begun_stays h es token t e =
    begun_by_rows (with_entries h es) token
    ∙ ap (find (λ (t : Txn). bytes_eq t.token token)) (filter_map-append (λ (row : Row). txn_began row.entry) h.rows (numbered_rows _ es))
    ∙ found_still (λ (t : Txn). bytes_eq t.token token) (beginnings h.rows) (beginnings (numbered_rows _ es)) t (sym (begun_by_rows h token) ∙ e)

-- one call ----

-- the ruling that goes with a call's closing
closing_is : (r : Record) (f : Facts) (call : CallId) (how : How) (o : Opened) (t : Txn) (v : Verdict) → opened_in f call.0 ≡ Some o → begun_in f o.txn ≡ Some t
    → closing_verdict r f o t how ≡ Some v → closing_ruling r f (entry.Closed call how) ≡ Some (decided_as o.event v)
closing_is r f call how o t v opened begun decided =
    ap (option_and_then (call_ruling r f how)) opened
    ∙ ap (option_and_then (λ (t : Txn). option_map (decided_as o.event) (closing_verdict r f o t how))) begun
    ∙ ap (option_map (decided_as o.event)) decided

-- A call is closed, and entries that close none decide its event as the rules have it.
closed_rules : (r : Record) (h : History) (how : How) (o : Opened) (t : Txn) (v : Verdict) {es : List Entry} → opened_in (history_facts h) o.call.0 ≡ Some o → begun_in (history_facts h) o.txn ≡ Some t
    → closing_verdict r (history_facts h) o t how ≡ Some v → RulesAlone es (decided_as o.event v ∷ []) → Rules r h (entry.Closed o.call how ∷ es) []
closed_rules r h how o t v {es} opened begun decided alone =
    let after : History = with_entries h (entry.Closed o.call how ∷ []) in
    record {
      made = alone.made
          ∙ sym (ap (λ (x : Option Ruling). cons_option x (closing_rulings r after es) ++ []) (closing_is r (history_facts h) o.call how o t v opened begun decided)
          ∙ ap (λ (rs : List Ruling). (decided_as o.event v ∷ rs) ++ []) (none_closed r after es alone.none));
    }

-- a call that stands was opened under its own number
pub its_opening : (f : Facts) (n : ℕ) (c : CallNow) → call_in f n ≡ Some c → opened_in f c.opened.call.0 ≡ Some c.opened
its_opening f n c e = ap (opened_in f) (its_number f.calls n c e) ∙ ap (option_map (λ (c : CallNow). c.opened)) e

pub its_beginning : (f : Facts) (token : List ℕ) (now : TxnNow) → txn_in f token ≡ Some now → begun_in f token ≡ Some now.txn
its_beginning f token now e = ap (option_map (λ (now : TxnNow). now.txn)) e

-- a call that is asked is closed so
pub asked_closed : (r : Record) (h : History) (n : ℕ) (c : CallNow) (now : TxnNow) (how : How) (v : Verdict) {es : List Entry} → call_in (history_facts h) n ≡ Some c
    → txn_in (history_facts h) c.opened.txn ≡ Some now → closing_verdict r (history_facts h) c.opened now.txn how ≡ Some v → RulesAlone es (decided_as c.opened.event v ∷ [])
    → Rules r h (entry.Closed c.opened.call how ∷ es) []
asked_closed r h n c now how v stands its decided alone =
    closed_rules r h how c.opened now.txn v (its_opening (history_facts h) n c stands) (its_beginning (history_facts h) c.opened.txn now its) decided alone

-- calls that are abandoned ----

-- a call may be abandoned by a record for a reason: it stands under its own number, and is of this transaction
pub record IsAbandoned (r : Record) (h : History) (t : Txn) (why : Reason) (c : CallNow) : Type 0 where
  pub stands : opened_in (history_facts h) c.opened.call.0 ≡ Some c.opened
  pub its_txn : begun_in (history_facts h) c.opened.txn ≡ Some t
  pub its_reason : abandonment_reason r t ≡ Some why

pub still_abandoned : (r : Record) (h : History) (es : List Entry) (t : Txn) (why : Reason) (cs : List CallNow) → Each (IsAbandoned r h t why) cs → Each (IsAbandoned r (with_entries h es) t why) cs
still_abandoned r h es t why = each_weaker (IsAbandoned r h t why) (IsAbandoned r (with_entries h es) t why) still
  where
    still : (c : CallNow) → IsAbandoned r h t why c → IsAbandoned r (with_entries h es) t why c
    still c is =
        record {
          stands = opened_stays h es c.opened.call.0 c.opened is.stands;
          its_txn = begun_stays h es c.opened.txn t is.its_txn;
          its_reason = is.its_reason;
        }

one_abandoned : (r : Record) (h : History) (number : ℕ) (t : Txn) (why : Reason) (c : CallNow) → IsAbandoned r h t why c → Rules r h (abandoned_call_entries number t why c.opened) []
one_abandoned r h number t why c is =
    closed_rules r h how.Abandoned c.opened t (verdict.Declined why) is.stands is.its_txn (ap (option_map (λ (why : Reason). verdict.Declined why)) is.its_reason) (rules_alone refl refl)

abandoned_rules : (r : Record) (h : History) (number : ℕ) (t : Txn) (why : Reason) (cs : List CallNow) → Each (IsAbandoned r h t why) cs → Rules r h (abandoned_calls_entries number t why cs) []
abandoned_rules r h number t why [] each = rules_none
abandoned_rules r h number t why (c ∷ cs) each =
    let first : List Entry = abandoned_call_entries number t why c.opened in
    rules_then first (abandoned_calls_entries (number + 1) t why cs) (one_abandoned r h number t why c each.0)
    (abandoned_rules r (with_entries h first) (number + 1) t why cs (still_abandoned r h first t why cs each.1))

-- acts that close no call ----

abbrev pub closes_call : Act → Bool
closes_call (Funds o t) = true
closes_call (FundsPart o t amount) = true
closes_call (Refuses o t) = true
closes_call (Fails number o t why) = true
closes_call (Abandons number t why calls parts) = true
closes_call _ = false

-- what they rule
abbrev pub act_rulings : Act → List Ruling
act_rulings (Declines event why) = decided_as event (verdict.Declined why) ∷ []
act_rulings (Sets i event) = decided_as event verdict.Done ∷ []
act_rulings (Loads event user currency amount) = decided_as event verdict.Done ∷ []
act_rulings (HoldsOwn ask) = decided_as ask.event verdict.Approved ∷ []
act_rulings (Asks f product ask) = asked_about ask.event ∷ []
act_rulings (StandsIn number ask at set) = decided_as ask.event verdict.Approved ∷ []
act_rulings (TurnsDown ask why) = decided_as ask.event (verdict.Declined why) ∷ []
act_rulings (Does event) = decided_as event verdict.Done ∷ []
act_rulings _ = []

pub declined_alone : (ask : Ask) (why : Reason) → RulesAlone (declined_ask_entries ask why) (decided_as ask.event (verdict.Declined why) ∷ [])
declined_alone ask why = both_alone {xs = entry.Usage (ask_given_back ask) ∷ []} (rules_alone refl refl) (by ask.is_first)
  where
    by : (b : Bool) → RulesAlone (cond b (entry.Ended ask.txn.token ∷ []) [] ++ entry.Decided ask.event (verdict.Declined why) ∷ []) (decided_as ask.event (verdict.Declined why) ∷ [])
    by true = rules_alone refl refl
    by false = rules_alone refl refl

-- an ask is paid and held
paid_silent : (t : Txn) (from : Account) (p : Part) (amount : ℕ) → AreSilent (post_entries t from (user_account t) amount ++ hold_entries t p amount)
paid_silent t from p amount = both_silent (post_silent t from (user_account t) amount) (hold_silent t p amount)

pub funded_alone : (ask : Ask) (from : Account) → RulesAlone (funded_ask_entries ask from part.G) (decided_as ask.event verdict.Approved ∷ [])
funded_alone ask from = both_alone {ys = entry.Decided ask.event verdict.Approved ∷ []} (silent_alone (paid_silent ask.txn from part.G ask.amount)) (rules_alone refl refl)

pub part_alone : (o : Opened) (t : Txn) (amount : ℕ) → RulesAlone (part_funded_entries o t amount) (decided_as o.event (verdict.Partial t.currency amount) ∷ [])
part_alone o t amount =
    both_alone {xs = entry.Usage (rest_given_back o t amount) ∷ []} (rules_alone refl refl)
    (both_alone {ys = entry.Decided o.event (verdict.Partial t.currency amount) ∷ []} (silent_alone (paid_silent t (account.Gateway t.currency) part.G amount)) (rules_alone refl refl))

act_alone : (a : Act) → closes_call a ≡ false → RulesAlone (act_entries a) (act_rulings a)
act_alone (Funds o t) none = cc
act_alone (FundsPart o t amount) none = cc
act_alone (Refuses o t) none = cc
act_alone (Fails number o t why) none = cc
act_alone (Abandons number t why calls parts) none = cc
act_alone (HoldsOwn ask) none = both_alone {ys = entry.Decided ask.event verdict.Approved ∷ []} (silent_alone (hold_silent ask.txn part.S ask.amount)) (rules_alone refl refl)
act_alone (StandsIn number ask at set) none =
    let t : Txn = ask.txn in
    both_alone {xs = entry.Stood set.name t.product t.user ask.amount at ∷ []} (rules_alone refl refl)
    (both_alone {ys = notice_entry number method.StandIn t None ask.amount 0 ∷ entry.Decided ask.event verdict.Approved ∷ []} (silent_alone (paid_silent t (account.Programme t.currency) part.P ask.amount)) (rules_alone refl refl))
act_alone (TurnsDown ask why) none = declined_alone ask why
act_alone (LetsGo t parts amount) none = silent_alone (release_silent t parts amount)
act_alone (Clears t parts amount at) none = silent_alone (clearing_silent t (taken_to_clear parts amount) amount at)
act_alone (GivesBack t amount programme) none =
    silent_alone {es = give_back_entries t amount programme}
    (both_silent (post_silent t (account.Network t.currency) (user_account t) amount)
    (gateway_silent t {es = post_entries t (user_account t) (account.Programme t.currency) programme ++ post_entries t (user_account t) (account.Gateway t.currency) (amount - programme)}
    (both_silent (post_silent t (user_account t) (account.Programme t.currency) programme) (post_silent t (user_account t) (account.Gateway t.currency) (amount - programme)))))
act_alone _ none = rules_alone refl refl

one_alone : (a : Act) → closes_call a ≡ false → RulesAlone (entries_of_acts (a ∷ [])) (act_rulings a)
one_alone a none = subst (λ (es : List Entry). RulesAlone es (act_rulings a)) (sym (append-nil (act_entries a))) (act_alone a none)

-- the sets decide an ask
pub stand_alone : (s : Stand) (number : ℕ) (ask : Ask) (why : Failure) (at : ℕ) → RulesAlone (entries_of_acts (stand_acts s number ask why at)) (decided_as ask.event (verdict_of_sets s why) ∷ [])
stand_alone (allowed s) number ask why at = one_alone (StandsIn number ask at s) refl
stand_alone (over_limit s) number ask why at = one_alone (TurnsDown ask (reason.StandInLimit s.name)) refl
stand_alone uncovered number ask why at = one_alone (TurnsDown ask (failure_reason why)) refl

-- rows of acts ----

-- What acts rule on a book is what goes with the calls that they close, and then these rulings.
pub record RulesRow (r : Record) (h : History) (acts : List Act) (own : List Ruling) : Type 0 where
  pub rules : Rules r h (entries_of_acts acts) own

module _ {r : Record} {h : History} where
  pub no_act : RulesRow r h [] []
  no_act = record { rules = rules_none }

  -- an act, and then others on the book with its entries
  next_act : {a : Act} {acts : List Act} {own : List Ruling} → Rules r h (act_entries a) [] → ((es : List Entry) → RulesRow r (with_entries h es) acts own) → RulesRow r h (a ∷ acts) own
  next_act {a} {acts} first rest = record { rules = rules_then (act_entries a) (entries_of_acts acts) first (rest (act_entries a)).rules }

  pub first_act : (a : Act) {acts : List Act} {own : List Ruling} → closes_call a ≡ false → act_rulings a ≡ [] → ((es : List Entry) → RulesRow r (with_entries h es) acts own) → RulesRow r h (a ∷ acts) own
  first_act a none silent rest = next_act {a = a} (alone_rules (subst (RulesAlone (act_entries a)) silent (act_alone a none))) rest

  pub abandons_first : {number : ℕ} {t : Txn} {why : Reason} {calls : List CallNow} {parts : Parts} {acts : List Act} {own : List Ruling}
      → Each (IsAbandoned r h t why) calls → ((es : List Entry) → RulesRow r (with_entries h es) acts own) → RulesRow r h (Abandons number t why calls parts ∷ acts) own
  abandons_first {number} {t} {why} {calls} {parts} each rest = next_act {a = Abandons number t why calls parts} (abandoned_rules r h number t why calls each) rest

  -- an act alone
  pub only_act : (a : Act) {own : List Ruling} → Rules r h (act_entries a) own → RulesRow r h (a ∷ []) own
  only_act a {own} alone = record { rules = subst (λ (es : List Entry). Rules r h es own) (sym (append-nil (act_entries a))) alone }

  pub last_act : (a : Act) → closes_call a ≡ false → RulesRow r h (a ∷ []) (act_rulings a)
  last_act a none = record { rules = alone_rules (one_alone a none) }

  pub both_acts : {xs ys : List Act} {own : List Ruling} → RulesRow r h xs [] → ((es : List Entry) → RulesRow r (with_entries h es) ys own) → RulesRow r h (xs ++ ys) own
  both_acts {xs} {ys} {own} first rest =
      record {
        rules = subst (λ (es : List Entry). Rules r h es own) (sym (acts_append xs ys)) (rules_then (entries_of_acts xs) (entries_of_acts ys) first.rules (rest (entries_of_acts xs)).rules);
      }

  pub either_acts : (b : Bool) {xs ys : List Act} {own : List Ruling} → RulesRow r h xs own → RulesRow r h ys own → RulesRow r h (cond b xs ys) own
  either_acts true first second = first
  either_acts false first second = second

  -- what only a gateway transaction makes
  pub for_gateway : (t : Txn) {acts : List Act} → RulesRow r h acts [] → RulesRow r h (acts_for_gateway t acts) []
  for_gateway t row = either_acts (is_account_funded t.funding) no_act row

-- a transaction ends
pub ends_acts : {r : Record} {h : History} (number : ℕ) (f : Facts) (t : Txn) (parts : Parts) (why : Reason) → Each (IsAbandoned r h t why) (asked_calls_of f t.token)
    → RulesRow r h (end_acts number f t parts why) []
ends_acts number f t parts why each = abandons_first each (λ es. first_act (LetsGo t parts (in_all parts)) refl refl (λ more. last_act (Ends t) refl))

-- a call fails, and the sets decide
pub failed_rules : (r : Record) (h : History) (n : ℕ) (c : CallNow) (now : TxnNow) (why : Failure) → call_in (history_facts h) n ≡ Some c → txn_in (history_facts h) c.opened.txn ≡ Some now
    → may_fail r c.opened why ≡ true → RulesRow r h (failed_acts (history_facts h) c.opened now.txn why r.at) []
failed_rules r h n c now why stands its cause =
    let f : Facts = history_facts h in
    let o : Opened = c.opened in
    let s : Stand = stand f (call_ask o now.txn) why r.at in
    record {
      rules = asked_closed r h n c now (how.Failed why) (verdict_of_sets s why) stands its (ap (λ (b : Bool). only_if b (verdict_of_sets s why)) cause)
          (both_alone {xs = void_entry (next_notice f) now.txn o ∷ []} (rules_alone refl refl) (stand_alone s (next_notice f + 1) (call_ask o now.txn) why r.at));
    }
