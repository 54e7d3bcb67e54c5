-- What the gateway alone gives is told by the record of its row.
use Rattle.std.proofs.Common.{◌≡◌, ℕ, zero, suc, ◌+◌, ◌-◌, Bool, true, false, cond, ◌&&◌, nat_eq, List, [], ◌∷◌, ◌++◌, length, refl, sym, ap, ap₂, subst, ◌∙◌, append_assoc, arith}
use Rattle.std.specs.Prelude.{Option, Some, None, slice_get}
use Rattle.std.specs.List.{list_all}
use Rattle.std.proofs.lemmas.Bool.{and_parts}
use Rattle.std.proofs.lemmas.List.{append-nil, length-append}
use Rattle.std.proofs.lemmas.List.Folds.{list_all-append}
use Rattle.iss_model.specs.declared.call.CallId.{CallId}
use Rattle.iss_model.specs.declared.call.Failure.{Failure}
use Rattle.iss_model.specs.declared.call.Failure.TheVariants as failure
use Rattle.iss_model.specs.declared.call.Opened.{Opened}
use Rattle.iss_model.specs.declared.decision.Reason.{Reason}
use Rattle.iss_model.specs.declared.decision.Reason.TheVariants as reason
use Rattle.iss_model.specs.declared.entry.Entry.{Entry}
use Rattle.iss_model.specs.declared.entry.Row.{Row}
use Rattle.iss_model.specs.declared.input.Input.{Input}
use Rattle.iss_model.specs.declared.input.Input.TheVariants as input
use Rattle.iss_model.specs.declared.input.Outcome.{Outcome}
use Rattle.iss_model.specs.declared.input.Outcome.TheVariants as outcome
use Rattle.iss_model.specs.declared.input.Record.{Record}
use Rattle.iss_model.specs.declared.txn.Txn.{Txn}
use Rattle.iss_model.specs.rules.Activity.{CallNow}
use Rattle.iss_model.specs.rules.Acts.{Abandons, Acknowledges, Act, Asks, Begins, Clears, Declines, Does, Ends, Fails, Funds, FundsPart, GivesBack, HoldsOwn, LetsGo, Loads, Refuses, Sets, StandsIn, Tells, TurnsDown, Uses, act_entries, entries_of_acts}
use Rattle.iss_model.specs.rules.Asks.{Ask, call_ask}
use Rattle.iss_model.specs.rules.CardActs.{counts_as_part, failed_acts, outcome_acts, stand_acts}
use Rattle.iss_model.specs.rules.Due.{DueThing, thing_entries}
use Rattle.iss_model.specs.rules.Facts.{Facts, next_notice}
use Rattle.iss_model.specs.rules.Histories.{history_of, numbered_rows}
use Rattle.iss_model.specs.rules.Pieces.{abandoned_calls_entries, declined_ask_entries, in_all, taken_to_clear, taken_to_release}
use Rattle.iss_model.specs.rules.StandIns.{Stand, allowed, over_limit, stand, uncovered}
use Rattle.iss_model.specs.rules.Stepping.{entries_of, step}
use Rattle.iss_model.specs.state.Cores.{CoreState, core_facts, core_keeper, core_of}
use Rattle.iss_acts.specs.Causes.{Cause, ComesOf, FallsDue, acknowledges, funds_part, may_act, refuses_call}
use Rattle.iss_acts.proofs.Passing.{EachPasses, both_pass, either_passes, gateway_passes, none_passes, one_passes, passing, two_pass, where_passes}
use Rattle.iss_acts.proofs.Stepping.{GoesThrough, step_leads}
use Rattle.iss_acts.proofs.Walk.{Holds, due_holds, own_holds}
use Rattle.iss_agreement.proofs.Records.{records_history}
use Rattle.iss_state.proofs.calls.Due.{if_asked}
use Rattle.iss_state.proofs.docket.Closing.{its_number}
use Rattle.iss_state.proofs.docket.Lists.{both_so}
use Rattle.iss_state.proofs.effects.Finds.{same_number}
use Rattle.iss_laws.specs.Rulings.{is_answer}
use Rattle.iss_laws.proofs.Rows.{entries_of_next, next_number, next_rows}
use Rattle.iss_gateway_laws.specs.Told as told
use Rattle.iss_gateway_laws.specs.Told.{EachIsTold, acks, is_told, is_told_by, tells}
use Rattle.iss_gateway_laws.proofs.Costs.{is_other, never_funds, never_part}

module _ (i : Input) where
  abbrev Passes : List Entry → Type 0
  Passes es = EachPasses (tells i) es

  declined_pass : (ask : Ask) (why : Reason) → Passes (declined_ask_entries ask why)
  declined_pass ask why = two_pass refl (both_pass (either_passes ask.is_first (one_passes refl) none_passes) (one_passes refl))

  abandoned_pass : (number : ℕ) (t : Txn) (why : Reason) (calls : List CallNow) → Passes (abandoned_calls_entries number t why calls)
  abandoned_pass number t why [] = none_passes
  abandoned_pass number t why (c ∷ calls) = two_pass refl (two_pass refl (two_pass refl (two_pass refl (abandoned_pass (number + 1) t why calls))))

  -- what an input has to say for an act
  abbrev tells_act : Act → Bool
  tells_act (Funds o t) = is_answer o.call.0 outcome.Funded i
  tells_act (FundsPart o t amount) = told.funds_part o.call.0 amount i
  tells_act (Refuses o t) = is_answer o.call.0 outcome.Refused i
  tells_act (Acknowledges notice) = acks notice i
  tells_act _ = true

  act_told : (a : Act) → tells_act a ≡ true → Passes (act_entries a)
  act_told (Funds o t) h = two_pass h (both_pass (both_pass (where_passes o.amount (one_passes refl)) (where_passes o.amount (one_passes refl))) (one_passes refl))
  act_told (FundsPart o t amount) h = two_pass h (two_pass refl (both_pass (both_pass (where_passes amount (one_passes refl)) (where_passes amount (one_passes refl))) (one_passes refl)))
  act_told (Refuses o t) h = two_pass h (declined_pass (call_ask o t) reason.GatewayDeclined)
  act_told (Acknowledges notice) h = one_passes h
  act_told (Declines event why) h = passing refl
  act_told (Sets j event) h = passing refl
  act_told (Loads event user currency amount) h = passing refl
  act_told (Begins ask) h = passing refl
  act_told (Uses ask) h = passing refl
  act_told (HoldsOwn ask) h = both_pass (where_passes ask.amount (one_passes refl)) (one_passes refl)
  act_told (Asks f product ask) h = passing refl
  act_told (Fails number o t why) h = passing refl
  act_told (StandsIn number ask at s) h = two_pass refl (both_pass (both_pass (where_passes ask.amount (one_passes refl)) (where_passes ask.amount (one_passes refl))) (passing refl))
  act_told (TurnsDown ask why) h = declined_pass ask why
  act_told (Abandons number t why calls parts) h = abandoned_pass number t why calls
  act_told (LetsGo t parts amount) h =
      let taken = taken_to_release parts amount in
      both_pass (both_pass (both_pass (both_pass (both_pass (where_passes taken.p (one_passes refl)) (where_passes taken.p (one_passes refl))) (where_passes taken.g (one_passes refl))) (where_passes taken.g (one_passes refl)))
      (where_passes taken.s (one_passes refl))) (where_passes amount (one_passes refl))
  act_told (Ends t) h = passing refl
  act_told (Clears t parts amount at) h =
      let taken = taken_to_clear parts amount in
      let excess = amount - in_all taken in
      both_pass (both_pass (both_pass (both_pass (both_pass (where_passes taken.g (one_passes refl)) (where_passes taken.p (one_passes refl))) (where_passes taken.s (one_passes refl)))
      (gateway_passes t (where_passes excess (one_passes refl)))) (where_passes amount (one_passes refl))) (where_passes excess (one_passes refl))
  act_told (GivesBack t amount programme) h =
      both_pass (where_passes amount (one_passes refl)) (gateway_passes t (both_pass (where_passes programme (one_passes refl)) (where_passes (amount - programme) (one_passes refl))))
  act_told (Tells number news t amount gateway) h = passing refl
  act_told (Does event) h = passing refl

  acts_told : (acts : List Act) → list_all tells_act acts ≡ true → Passes (entries_of_acts acts)
  acts_told [] h = none_passes
  acts_told (a ∷ acts) h =
      let parts = and_parts (tells_act a) (list_all tells_act acts) h in both_pass (act_told a parts.0) (acts_told acts parts.1)

-- by its cause ----

never_refuses : {P : Type 0} (by : Cause) → is_other by ≡ true → refuses_call by ≡ true → P
never_refuses (ComesOf (input.Answer call outcome.Refused)) h may = cc
never_refuses _ h may = cc

never_acks : {P : Type 0} (notice : ℕ) → acknowledges FallsDue notice ≡ true → P
never_acks notice may = cc

acks_so : (i : Input) (notice : ℕ) → acknowledges (ComesOf i) notice ≡ true → acks notice i ≡ true
acks_so (input.Ack other) notice may = may
acks_so _ notice may = cc

due_act : (i : Input) (a : Act) → may_act FallsDue a ≡ true → tells_act i a ≡ true
due_act i (Funds o t) may = never_funds FallsDue refl may
due_act i (FundsPart o t amount) may = never_part FallsDue amount refl may
due_act i (Refuses o t) may = never_refuses FallsDue refl may
due_act i (Acknowledges notice) may = never_acks notice may
due_act i _ may = refl

own_act : (i : Input) (a : Act) → is_other (ComesOf i) ≡ true → may_act (ComesOf i) a ≡ true → tells_act i a ≡ true
own_act i (Funds o t) other may = never_funds (ComesOf i) other may
own_act i (FundsPart o t amount) other may = never_part (ComesOf i) amount other may
own_act i (Refuses o t) other may = never_refuses (ComesOf i) other may
own_act i (Acknowledges notice) other may = acks_so i notice may
own_act i _ other may = refl

due_told : (i : Input) (f : Facts) (thing : DueThing) (at : ℕ) → EachPasses (tells i) (thing_entries thing at f)
due_told i f thing at = due_holds f thing at holds
  where
    holds : Holds f FallsDue at (EachPasses (tells i))
    holds = record { none = none_passes; then = both_pass; act = λ g a made. act_told i a (due_act i a made.cause) }

other_told : (i : Input) (f : Facts) (at : ℕ) → is_other (ComesOf i) ≡ true → EachPasses (tells i) (entries_of i at f)
other_told i f at other = own_holds f i at holds
  where
    holds : Holds f (ComesOf i) at (EachPasses (tells i))
    holds = record { none = none_passes; then = both_pass; act = λ g a made. act_told i a (own_act i a other made.cause) }

-- the gateway's answer ----

stand_told : (i : Input) (x : Stand) (n : ℕ) (ask : Ask) (why : Failure) (at : ℕ) → list_all (tells_act i) (stand_acts x n ask why at) ≡ true
stand_told i (allowed s) n ask why at = refl
stand_told i (over_limit s) n ask why at = refl
stand_told i uncovered n ask why at = refl

failed_told : (i : Input) (f : Facts) (o : Opened) (t : Txn) (why : Failure) (at : ℕ) → list_all (tells_act i) (failed_acts f o t why at) ≡ true
failed_told i f o t why at = stand_told i (stand f (call_ask o t) why at) (next_notice f + 1) (call_ask o t) why at

its_own : (n m : ℕ) (b : Bool) → n ≡ m → b ≡ true → ((nat_eq m n && b) && true) ≡ true
its_own n m b e h = both_so (nat_eq m n && b) true (both_so (nat_eq m n) b (ap (nat_eq m) e ∙ same_number m) h) refl

outcome_told : (call : CallId) (what : Outcome) (f : Facts) (o : Opened) (t : Txn) (at : ℕ) → o.call.0 ≡ call.0 → list_all (tells_act (input.Answer call what)) (outcome_acts what f o t at) ≡ true
outcome_told call outcome.Funded f o t at e = its_own o.call.0 call.0 true e refl
outcome_told call outcome.Refused f o t at e = its_own o.call.0 call.0 true e refl
outcome_told call outcome.Connection f o t at e = failed_told (input.Answer call outcome.Connection) f o t failure.Connection at
outcome_told call outcome.Application f o t at e = failed_told (input.Answer call outcome.Application) f o t failure.Application at
outcome_told call (outcome.Partial currency amount) f o t at e = by (counts_as_part o currency amount)
  where
    i : Input
    i = input.Answer call (outcome.Partial currency amount)

    by : (b : Bool) → list_all (tells_act i) (cond b (FundsPart o t amount ∷ []) (failed_acts f o t failure.Application at)) ≡ true
    by true = its_own o.call.0 call.0 (nat_eq amount amount) e (same_number amount)
    by false = failed_told i f o t failure.Application at

answer_told : (s : CoreState) (call : CallId) (what : Outcome) (at : ℕ) → EachPasses (tells (input.Answer call what)) (entries_of (input.Answer call what) at (core_facts s))
answer_told s call what at =
    if_asked (λ (acts : List Act). EachPasses (tells (input.Answer call what)) (entries_of_acts acts)) s (λ (o : Opened) (t : Txn). outcome_acts what (core_facts s) o t at) call.0 (λ none. none_passes)
    (λ x now asked stands. acts_told (input.Answer call what) (outcome_acts what (core_facts s) x.opened now.txn at)
    (outcome_told call what (core_facts s) x.opened now.txn at (its_number s.calls call.0 x asked.stands)))

own_told : (s : CoreState) (i : Input) (at : ℕ) → EachPasses (tells i) (entries_of i at (core_facts s))
own_told s (input.Answer call what) at = answer_told s call what at
own_told s i at = other_told i (core_facts s) at refl

-- a step ----

told_through : (i : Input) (at : ℕ) → GoesThrough (λ s. Unit {0}) (λ s es later. EachPasses (tells i) es) i at
told_through i at =
    record {
      none = λ s. none_passes;
      then = λ s t u xs ys h k. both_pass h k;
      due = λ s thing ready. due_told i (core_facts s) thing at;
      own = λ s ready. own_told s i at;
      stays = λ s thing ready. tt;
    }

step_told : (s : CoreState) (r : Record) → list_all (tells r.input) (step core_keeper s r).entries ≡ true
step_told s r = (step_leads s r (told_through r.input r.at) tt).all

-- over all records ----

-- what holds of no record, and is kept by one more, holds of each list of them
grown : (P : List Record → Type 0) → ((rs : List Record) (r : Record) → P rs → P (rs ++ r ∷ [])) → (before rs : List Record) → P before → P (before ++ rs)
grown P more before [] h = subst P (sym (append-nil before)) h
grown P more before (r ∷ rs) h = subst P (append_assoc before (r ∷ []) rs) (grown P more (before ++ r ∷ []) rs (more before r h))

pub each_list : (P : List Record → Type 0) → P [] → ((rs : List Record) (r : Record) → P rs → P (rs ++ r ∷ [])) → (rs : List Record) → P rs
each_list P none more rs = grown P more [] rs none

still_there : {A : Type 0} (xs ys : List A) (n : ℕ) (x : A) → slice_get xs n ≡ Some x → slice_get (xs ++ ys) n ≡ Some x
still_there [] ys n x e = cc
still_there (z ∷ zs) ys zero x e = e
still_there (z ∷ zs) ys (suc n) x e = still_there zs ys n x e

last_there : {A : Type 0} (xs : List A) (x : A) → slice_get (xs ++ x ∷ []) (length xs) ≡ Some x
last_there [] x = refl
last_there (z ∷ zs) x = last_there zs x

told_still : (rs : List Record) (r : Record) (row : Row) → is_told rs row ≡ true → is_told (rs ++ r ∷ []) row ≡ true
told_still rs r row h = by (slice_get rs (row.number - 1)) refl h
  where
    by : (o : Option Record) → slice_get rs (row.number - 1) ≡ o → is_told_by o row.entry ≡ true → is_told_by (slice_get (rs ++ r ∷ []) (row.number - 1)) row.entry ≡ true
    by None e h = cc
    by (Some x) e h = ap (λ (o : Option Record). is_told_by o row.entry) (still_there rs (r ∷ []) (row.number - 1) x e) ∙ h

all_still : (rs : List Record) (r : Record) (rows : List Row) → list_all (is_told rs) rows ≡ true → list_all (is_told (rs ++ r ∷ [])) rows ≡ true
all_still rs r [] h = refl
all_still rs r (row ∷ rows) h =
    let parts = and_parts (is_told rs row) (list_all (is_told rs) rows) h in
    both_so (is_told (rs ++ r ∷ []) row) (list_all (is_told (rs ++ r ∷ [])) rows) (told_still rs r row parts.0) (all_still rs r rows parts.1)

last_told : (rs : List Record) (r : Record) (n : ℕ) → n ≡ length rs + 1 → (es : List Entry) → list_all (tells r.input) es ≡ true → list_all (is_told (rs ++ r ∷ [])) (numbered_rows n es) ≡ true
last_told rs r n own [] h = refl
last_told rs r n own (e ∷ es) h =
    let parts = and_parts (tells r.input e) (list_all (tells r.input) es) h in
    both_so (is_told_by (slice_get (rs ++ r ∷ []) (n - 1)) e) (list_all (is_told (rs ++ r ∷ [])) (numbered_rows n es))
    (ap (λ (m : ℕ). is_told_by (slice_get (rs ++ r ∷ []) m) e) (before n (length rs) own) ∙ ap (λ (o : Option Record). is_told_by o e) (last_there rs r) ∙ parts.0)
    (last_told rs r n own es parts.1)
  where
    before : (n m : ℕ) → n ≡ m + 1 → n - 1 ≡ m
    before n m e = omega (arith, e)

own_number : (rs : List Record) (r : Record) → next_number rs r ≡ length rs + 1
own_number rs r = ap (λ (xs : List Record). length (xs ++ r ∷ [])) (records_history rs) ∙ length-append rs (r ∷ [])

told_more : (rs : List Record) (r : Record) → EachIsTold rs → EachIsTold (rs ++ r ∷ [])
told_more rs r h =
    ap (list_all (is_told (rs ++ r ∷ []))) (next_rows rs r)
    ∙ list_all-append (is_told (rs ++ r ∷ [])) (history_of rs).rows (numbered_rows (next_number rs r) (entries_of_next rs r))
    ∙ ap₂ (λ (a b : Bool). a && b) (all_still rs r (history_of rs).rows h) (last_told rs r (next_number rs r) (own_number rs r) (entries_of_next rs r) (step_told (core_of rs) r))

pub all_told : (rs : List Record) → EachIsTold rs
all_told rs = each_list EachIsTold refl told_more rs
