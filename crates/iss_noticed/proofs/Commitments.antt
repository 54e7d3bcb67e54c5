-- What an input adds to what transactions hold and calls ask is what it asks for, and what falls due adds nothing.
use Rattle.std.proofs.Common.{◌≡◌, ◌∙◌, ◌++◌, ◌∷◌, ◌&&◌, ◌+◌, ◌≤◌, ℕ, ap, arith, false, fold, length, List, [], nat_lt, refl, subst, sym, true}
use Rattle.std.specs.Prelude.{None}
use Rattle.std.specs.Str.{bytes_eq}
use Rattle.std.proofs.lemmas.Bool.{and_parts}
use Rattle.std.proofs.lemmas.Bool.Decides.{nat_tests}
use Rattle.std.proofs.lemmas.List.{map-append}
use Rattle.std.proofs.lemmas.List.Sums.{fold-append}
use Rattle.iss_model.specs.declared.account.Account.TheVariants as account
use Rattle.iss_model.specs.declared.account.Part.TheVariants as part
use Rattle.iss_model.specs.declared.call.How.TheVariants as how
use Rattle.iss_model.specs.declared.call.Opened.{Opened}
use Rattle.iss_model.specs.declared.call.Method.TheVariants as method
use Rattle.iss_model.specs.declared.decision.Reason.{Reason}
use Rattle.iss_model.specs.declared.decision.Reason.TheVariants as reason
use Rattle.iss_model.specs.declared.decision.Verdict.TheVariants as verdict
use Rattle.iss_model.specs.declared.entry.Entry.{Entry}
use Rattle.iss_model.specs.declared.entry.Entry.TheVariants as entry
use Rattle.iss_model.specs.declared.input.Input.{Input}
use Rattle.iss_model.specs.declared.input.Input.TheVariants as input
use Rattle.iss_model.specs.declared.setting.Set.{Set}
use Rattle.iss_model.specs.declared.txn.Txn.{Txn}
use Rattle.iss_model.specs.Currencies.{same_currency}
use Rattle.iss_model.specs.rules.Activity.{CallNow, TxnNow, txn_named}
use Rattle.iss_model.specs.rules.Acts.{Abandons, Act, Asks, Begins, Clears, Fails, Funds, FundsPart, HoldsOwn, LetsGo, Refuses, StandsIn, TurnsDown, Uses, act_entries}
use Rattle.iss_model.specs.rules.Asks.{Ask, call_ask, rest_given_back}
use Rattle.iss_model.specs.rules.Due.{DueThing, thing_entries}
use Rattle.iss_model.specs.rules.Facts.{Facts, asked_calls_of}
use Rattle.iss_model.specs.rules.Pieces.{Parts, call_for, declined_ask_entries, hold_entries, notice_entry, parts_held, post_entries, user_account, void_entry}
use Rattle.iss_model.specs.rules.Settings.{is_named_in}
use Rattle.iss_model.specs.rules.Stepping.{entries_of}
use Rattle.iss_model.specs.state.Cores.{CoreState, after_entry, core_facts, is_live}
use Rattle.iss_acts.specs.Causes.{Cause, ComesOf, FallsDue}
use Rattle.iss_acts.specs.Sources.{IsAskedCall, IsFirstAsk, IsFundedPart, IsFurtherAsk, IsMade, IsStart, IsTxnOf}
use Rattle.iss_acts.specs.Stages.{Fresh, Keeps, Seeks, Stage, stage_after}
use Rattle.iss_acts.proofs.Begun.{is_begun}
use Rattle.iss_acts.proofs.Passing.{both_pass, either_passes, none_passes, one_passes, two_pass}
use Rattle.iss_acts.proofs.Walk.{FromStart, Goes, due_goes, own_goes, txn_of_call}
use Rattle.iss_state.specs.Costs.{IsPayable}
use Rattle.iss_state.specs.Effects.{HoldsParts}
use Rattle.iss_state.specs.Needs.{Stands}
use Rattle.iss_state.specs.Stakes.{IsOrderly, IsOrderlyState, at_least_one, total_asked, total_held, txn_tokens}
use Rattle.iss_state.proofs.docket.Lists.{any_mapped, none_found}
use Rattle.iss_state.proofs.effects.Abandonment.{abandonment_effect, abandonment_holdings, least_one}
use Rattle.iss_state.proofs.effects.Effects.{open_effect, stands_then}
use Rattle.iss_state.proofs.effects.Taking.{clearing_takes, release_effect}
use Rattle.iss_state.proofs.effects.TransactionsHeld.{held_after_begin, orderly_after_begin}
use Rattle.iss_state.proofs.held.Acts.{IsReadyFor}
use Rattle.iss_state.proofs.held.Begun.{begun_stands, first_unnamed}
use Rattle.iss_state.proofs.invariants.Costs.{known_next, start_known, txn_stands}
use Rattle.iss_noticed.proofs.Weights.{Weighs, by_calls, by_holdings, calls_act, closing_effect, closing_weighs, hold_weighs, light_act, light_weighs, paid_weighs, weigh_as, weigh_then, weight}

-- what a cause adds: an authorisation and an increment ask for an amount
abbrev pub added_by : Cause → ℕ
added_by (ComesOf (input.Authorization token card currency amount mcc mid partial)) = at_least_one amount
added_by (ComesOf (input.Increment token txn currency amount)) = at_least_one amount
added_by _ = 0

-- what may still be added from a stage on
abbrev pub addable : Cause → Stage → ℕ
addable by Fresh = added_by by
addable by (Seeks ask) = at_least_one ask.amount
addable by _ = 0

-- an act adds no more than its stage leaves to the next one
record Adds (by : Cause) (g : Stage) (q : CoreState) (a : Act) : Type 0 where
  down : ℕ
  up : ℕ
  weighs : Weighs q (act_entries a) down up
  within : up + addable by (stage_after g a) ≤ down + addable by g

adds : {by : Cause} {g : Stage} {q : CoreState} {a : Act} {d u : ℕ} → Weighs q (act_entries a) d u → u + addable by (stage_after g a) ≤ d + addable by g → Adds by g q a
adds {d = d} {u = u} h le = record { down = d; up = u; weighs = h; within = le }

-- a part that counts is less than the call's amount
part_less : {by : Cause} {o : Opened} {amount : ℕ} → IsFundedPart by o amount → amount ≤ o.amount
part_less {o = o} {amount = amount} its = less amount o.amount (and_parts (o.partial && same_currency its.currency o.currency) (nat_lt amount o.amount) its.counts).1
  where
    less : (n m : ℕ) → nat_lt n m ≡ true → n ≤ m
    less n m h = grind (arith, nat_tests)

-- an ask that is declined: no hold, and no call
declined_weighs : (q : CoreState) (ask : Ask) (why : Reason) → Weighs q (declined_ask_entries ask why) 0 0
declined_weighs q ask why = light_weighs q (declined_ask_entries ask why) (two_pass refl (both_pass (either_passes ask.is_first (one_passes refl) none_passes) (one_passes refl)))

-- a transaction that isn't found has a token that no transaction has
pub unnamed_too : (ts : List TxnNow) (token : List ℕ) → txn_named token ts ≡ None → is_named_in (txn_tokens ts) token ≡ false
unnamed_too ts token none =
    any_mapped (λ (name : List ℕ). bytes_eq name token) (λ (t : TxnNow). t.txn.token) ts ∙ none_found (λ (t : TxnNow). bytes_eq t.txn.token token) ts none

module _ (by : Cause) (at : ℕ) (s : CoreState) (ready : IsReadyFor by s) (h : IsOrderlyState s) where
  at_stage : (q : CoreState) {g k : Stage} → g ≡ k → IsPayable s g q → IsPayable s k q
  at_stage q e known = subst (λ (g : Stage). IsPayable s g q) e known

  adds_at : {g k : Stage} (q : CoreState) (a : Act) → g ≡ k → Adds by k q a → Adds by g q a
  adds_at q a e it = subst (λ (g : Stage). Adds by g q a) (sym e) it

  adds_first : {g : Stage} (q : CoreState) (a : Act) → g ≡ Fresh → IsPayable s g q → Adds by Fresh s a → Adds by g q a
  adds_first q a e known it = adds_at q a e (subst (λ (q : CoreState). Adds by Fresh q a) (sym (at_stage q e known)) it)

  -- a transaction begins ----

  unknown : (ask : Ask) → IsFirstAsk (core_facts s) by at ask → is_named_in (txn_tokens s.holdings.txns) ask.txn.token ≡ false
  unknown ask first = unnamed_too s.holdings.txns ask.txn.token (first_unnamed s ask ready.taken first)

  begun_weight : (t : Txn) → is_named_in (txn_tokens s.holdings.txns) t.token ≡ false → weight (after_entry s (entry.Began t)) ≡ weight s
  begun_weight t none =
      let row : TxnNow = record { txn = t; live = is_live s.holdings.txns t.token } in
      ap (λ (names : List (List ℕ)). total_held names (after_entry s (entry.Began t)).holdings.parts + total_asked s.calls) (map-append (λ (t : TxnNow). t.txn.token) s.holdings.txns (row ∷ []))
      ∙ ap (λ (n : ℕ). n + total_asked s.calls) (held_after_begin (txn_tokens s.holdings.txns) s.holdings.parts t none h)

  begun_orderly : (t : Txn) → is_named_in (txn_tokens s.holdings.txns) t.token ≡ false → IsOrderlyState (after_entry s (entry.Began t))
  begun_orderly t none =
      let row : TxnNow = record { txn = t; live = is_live s.holdings.txns t.token } in
      subst (λ (names : List (List ℕ)). IsOrderly names (after_entry s (entry.Began t)).holdings.parts) (sym (map-append (λ (t : TxnNow). t.txn.token) s.holdings.txns (row ∷ [])))
      (orderly_after_begin (txn_tokens s.holdings.txns) s.holdings.parts t none h)

  begins_adds : (ask : Ask) → IsFirstAsk (core_facts s) by at ask → Adds by Fresh s (Begins ask)
  begins_adds ask first =
      let amount : ask.amount ≡ first.amount = ap (λ (ask : Ask). ask.amount) (is_begun first).same in
      adds {d = 0} {u = 0} (record { moves = omega (arith, begun_weight ask.txn (unknown ask first)) })
      (omega (arith, ap at_least_one amount, ap added_by first.its_input))

  begins_known : (ask : Ask) → IsFirstAsk (core_facts s) by at ask → IsPayable s (Seeks ask) (fold after_entry s (act_entries (Begins ask)))
  begins_known ask first =
      let later : CoreState = fold after_entry s (act_entries (Begins ask)) in
      let t : Txn = ask.txn in (
        begun_orderly t (unknown ask first),
        txn_stands later t (record { token = t.token; now = record { txn = t; live = is_live s.holdings.txns t.token }; stands = begun_stands s.holdings.txns t (first_unnamed s ask ready.taken first); same = refl }),
        refl,
      )

  -- each act ----

  uses_adds : (ask : Ask) → IsFurtherAsk (core_facts s) by at ask → Adds by Fresh s (Uses ask)
  uses_adds ask more =
      let amount : ask.amount ≡ more.amount = ap (λ (ask : Ask). ask.amount) more.made in
      adds (light_act s (Uses ask) refl refl (λ w. refl) refl refl) (omega (arith, ap at_least_one amount, ap added_by more.its_input))

  funds_adds : (o : Opened) (t : Txn) → IsAskedCall (core_facts s) o t → Adds by Fresh s (Funds o t)
  funds_adds o t asked =
      let e1 = closing_effect s o t how.Funded h asked in
      let s1 : CoreState = fold after_entry s (entry.Closed o.call how.Funded ∷ []) in
      let paid : List Entry = post_entries t (account.Gateway t.currency) (user_account t) o.amount ++ hold_entries t part.G o.amount in
      adds
      (weigh_then (closing_weighs s o t how.Funded h asked)
      (weigh_then (paid_weighs s1 t (account.Gateway t.currency) part.G o.amount e1.orderly (stands_then t e1 (txn_stands s t (txn_of_call asked))))
      (light_weighs (fold after_entry s1 paid) (entry.Decided o.event verdict.Approved ∷ []) (one_passes refl))))
      (omega (arith, least_one o.amount))

  funds_part_adds : (o : Opened) (t : Txn) (amount : ℕ) → IsAskedCall (core_facts s) o t → amount ≤ o.amount → Adds by Fresh s (FundsPart o t amount)
  funds_part_adds o t amount asked le =
      let e1 = closing_effect s o t (how.Partial amount) h asked in
      let s1 : CoreState = fold after_entry s (entry.Closed o.call (how.Partial amount) ∷ []) in
      let used : List Entry = entry.Usage (rest_given_back o t amount) ∷ [] in
      let s2 : CoreState = fold after_entry s1 used in
      let paid : List Entry = post_entries t (account.Gateway t.currency) (user_account t) amount ++ hold_entries t part.G amount in
      adds
      (weigh_then (closing_weighs s o t (how.Partial amount) h asked)
      (weigh_then (light_weighs s1 used (one_passes refl))
      (weigh_then (paid_weighs s2 t (account.Gateway t.currency) part.G amount e1.orderly (stands_then t e1 (txn_stands s t (txn_of_call asked))))
      (light_weighs (fold after_entry s2 paid) (entry.Decided o.event (verdict.Partial t.currency amount) ∷ []) (one_passes refl)))))
      (omega (arith, le, least_one o.amount))

  refuses_adds : (o : Opened) (t : Txn) → IsAskedCall (core_facts s) o t → Adds by Fresh s (Refuses o t)
  refuses_adds o t asked =
      adds (weigh_then (closing_weighs s o t how.Refused h asked) (declined_weighs (fold after_entry s (entry.Closed o.call how.Refused ∷ [])) (call_ask o t) reason.GatewayDeclined)) (omega arith)

  stands_in_weighs : (q : CoreState) (number : ℕ) (ask : Ask) (when : ℕ) (set : Set) → IsOrderlyState q → Stands q ask.txn → Weighs q (act_entries (StandsIn number ask when set)) 0 ask.amount
  stands_in_weighs q number ask when set orderly stands =
      let t : Txn = ask.txn in
      let stood : List Entry = entry.Stood set.name t.product t.user ask.amount when ∷ [] in
      let q1 : CoreState = fold after_entry q stood in
      let paid : List Entry = post_entries t (account.Programme t.currency) (user_account t) ask.amount ++ hold_entries t part.P ask.amount in
      let told : List Entry = notice_entry number method.StandIn t None ask.amount 0 ∷ entry.Decided ask.event verdict.Approved ∷ [] in
      weigh_as 0 ask.amount
      (weigh_then (light_weighs q stood (one_passes refl))
      (weigh_then (paid_weighs q1 t (account.Programme t.currency) part.P ask.amount orderly stands) (light_weighs (fold after_entry q1 paid) told (two_pass refl (one_passes refl)))))
      (omega arith) (omega arith)

  parts_there : (t : Txn) → HoldsParts s t (parts_held (core_facts s) t)
  parts_there t = record { of_gateway = omega arith; of_programme = omega arith; of_user = omega arith }

  clears_adds : (t : Txn) (parts : Parts) (amount when : ℕ) → IsTxnOf (core_facts s) t → parts ≡ parts_held (core_facts s) t → Adds by Fresh s (Clears t parts amount when)
  clears_adds t parts amount when its same =
      let took = clearing_takes s t parts amount when h (txn_stands s t its) (subst (HoldsParts s t) (sym same) (parts_there t)) in
      adds (by_holdings took.effect took.calls) (omega arith)

  abandons_adds : (q : CoreState) (number : ℕ) (t : Txn) (why : Reason) (calls : List CallNow) (parts : Parts) → calls ≡ asked_calls_of (core_facts s) t.token → IsPayable s (Keeps t parts) q
      → Adds by (Keeps t parts) q (Abandons number t why calls parts)
  abandons_adds q number t why calls parts same known =
      subst (λ (calls : List CallNow). Adds by (Keeps t parts) q (Abandons number t why calls parts)) (sym same)
      (adds (by_calls 0 0 (abandonment_effect q number (core_facts s) t why known.0 known.1 known.3) (omega arith) (omega arith) (abandonment_holdings q number t why (asked_calls_of (core_facts s) t.token))) (omega arith))

  act_adds : (g : Stage) (q : CoreState) (a : Act) → IsMade (core_facts s) by at g a → IsPayable s g q → Adds by g q a
  act_adds g q (Begins ask) made known = adds_first q (Begins ask) made.from.0 known (begins_adds ask made.from.1)
  act_adds g q (Uses ask) made known = adds_first q (Uses ask) made.from.0 known (uses_adds ask made.from.1)
  act_adds g q (HoldsOwn ask) made known =
      let k = at_stage q made.from.0 known in
      adds_at q (HoldsOwn ask) made.from.0
      (adds (weigh_then (hold_weighs q ask.txn part.S ask.amount k.0 k.1) (light_weighs (fold after_entry q (hold_entries ask.txn part.S ask.amount)) (entry.Decided ask.event verdict.Approved ∷ []) (one_passes refl)))
      (omega (arith, least_one ask.amount)))
  act_adds g q (Asks f product ask) made known =
      let k = at_stage q made.from.0 known in
      adds_at q (Asks f product ask) made.from.0
      (adds (by_calls (at_least_one ask.amount) 0 (open_effect q (call_for f product ask) k.0 (ap (λ (n : ℕ). n + 1) (ap (λ (f : Facts). length f.calls) made.from.1 ∙ sym k.2))) (omega arith) (omega arith) refl) (omega arith))
  act_adds g q (Funds o t) made known = adds_first q (Funds o t) made.from.0 known (funds_adds o t made.from.1)
  act_adds g q (FundsPart o t amount) made known = adds_first q (FundsPart o t amount) made.from.0 known (funds_part_adds o t amount made.from.1 (part_less made.from.2))
  act_adds g q (Refuses o t) made known = adds_first q (Refuses o t) made.from.0 known (refuses_adds o t made.from.1)
  act_adds g q (Fails number o t why) made known =
      adds_first q (Fails number o t why) made.from.0 known
      (adds (weigh_then (closing_weighs s o t (how.Failed why) h made.from.1) (light_weighs (fold after_entry s (entry.Closed o.call (how.Failed why) ∷ [])) (void_entry number t o ∷ []) (one_passes refl))) (omega arith))
  act_adds g q (StandsIn number ask when set) made known =
      let k = at_stage q made.from.0 known in
      adds_at q (StandsIn number ask when set) made.from.0 (adds (stands_in_weighs q number ask when set k.0 k.1) (omega (arith, least_one ask.amount)))
  act_adds g q (TurnsDown ask why) made known = adds_at q (TurnsDown ask why) made.from.0 (adds (declined_weighs q ask why) (omega arith))
  act_adds g q (Abandons number t why calls parts) made known = adds_at q (Abandons number t why calls parts) made.from.0 (abandons_adds q number t why calls parts made.from.2 (at_stage q made.from.0 known))
  act_adds g q (LetsGo t parts amount) made known =
      let k = at_stage q made.from.0 known in
      adds_at q (LetsGo t parts amount) made.from.0 (adds (by_holdings (release_effect q t parts amount k.0 k.1 k.2 made.from.3) (calls_act q (LetsGo t parts amount) refl (λ w. refl))) (omega arith))
  act_adds g q (Clears t parts amount when) made known = adds_first q (Clears t parts amount when) made.from.0 known (clears_adds t parts amount when made.from.1 made.from.2)
  act_adds g q a made known = adds (light_act q a refl refl (λ w. refl) refl refl) (omega arith)

  next : (g : Stage) (q : CoreState) (a : Act) → IsMade (core_facts s) by at g a → IsPayable s g q → IsPayable s (stage_after g a) (fold after_entry q (act_entries a))
  next g q (Begins ask) made known =
      subst (λ (q : CoreState). IsPayable s (Seeks ask) (fold after_entry q (act_entries (Begins ask)))) (sym (at_stage q made.from.0 known)) (begins_known ask made.from.1)
  next g q a made known = known_next by at s h g q a made refl known

  -- entries from a stage on add no more than it leaves
  pub record Within (g : Stage) (q : CoreState) (es : List Entry) : Type 0 where
    pub at_most : weight (fold after_entry q es) ≤ weight q + addable by g

  within_then : (g : Stage) (q : CoreState) (a : Act) (es : List Entry) → Adds by g q a → Within (stage_after g a) (fold after_entry q (act_entries a)) es → Within g q (act_entries a ++ es)
  within_then g q a es it rest = record { at_most = omega (arith, it.weighs.moves, it.within, rest.at_most, ap weight (fold-append after_entry q (act_entries a) es)) }

  all_within : Goes (fold after_entry) (core_facts s) by at (IsPayable s) Within
  all_within = record { none = λ g q known. record { at_most = omega arith }; next = next; then = λ g q a es made known rest. within_then g q a es (act_adds g q a made known) rest }

  row_within : {es : List Entry} → FromStart (core_facts s) Within s es → weight (fold after_entry s es) ≤ weight s + added_by by
  row_within {es} row = from row.first row.starts row.holds
    where
      from : (g : Stage) → IsStart (core_facts s) g → Within g s es → weight (fold after_entry s es) ≤ weight s + added_by by
      from Fresh starts it = it.at_most
      from (Keeps t parts) starts it = omega (arith, it.at_most)
      from _ starts it = elim starts [ ]

pub thing_adds : (s : CoreState) (thing : DueThing) (at : ℕ) → IsReadyFor FallsDue s → IsOrderlyState s → weight (fold after_entry s (thing_entries thing at (core_facts s))) ≤ weight s + 0
thing_adds s thing at ready h = row_within FallsDue at s ready h (due_goes (core_facts s) thing at s (all_within FallsDue at s ready h) (start_known FallsDue at s h))

pub own_adds : (s : CoreState) (i : Input) (at : ℕ) → IsReadyFor (ComesOf i) s → IsOrderlyState s → weight (fold after_entry s (entries_of i at (core_facts s))) ≤ weight s + added_by (ComesOf i)
own_adds s i at ready h = row_within (ComesOf i) at s ready h (own_goes (core_facts s) i at s (all_within (ComesOf i) at s ready h) (start_known (ComesOf i) at s h))
