-- What judging comes to, by what stands before anything due.
use Rattle.std.proofs.Common.{◌≡◌, ℕ, max, Bool, true, false, cond, ◌||◌, List, [], ◌∷◌, find, fold, refl, sym, ap, subst, ◌∙◌, arith}
use Rattle.std.specs.Prelude.{Option, Some, None, is_none, Result, Ok, Err, IfOk}
use Rattle.std.proofs.lemmas.Bool.Decides.{nat_tests}
use Rattle.iss_model.specs.declared.decision.Answer.{Answer}
use Rattle.iss_model.specs.declared.decision.Answer.TheVariants as answer
use Rattle.iss_model.specs.declared.decision.Judged.{Judged}
use Rattle.iss_model.specs.declared.decision.Judged.TheVariants as judged
use Rattle.iss_model.specs.declared.input.Input.{Input}
use Rattle.iss_model.specs.declared.input.Input.TheVariants as input
use Rattle.iss_model.specs.declared.input.Record.{Record}
use Rattle.iss_model.specs.Forms.{is_in_form, is_stamp}
use Rattle.iss_model.specs.Inputs.{event_token, is_event, same_contents}
use Rattle.iss_model.specs.rules.Facts.{Facts, Accepted, event_in, reply_in}
use Rattle.iss_model.specs.rules.Due.{DueItem, due_items, is_quiet}
use Rattle.iss_model.specs.rules.Keeper.{Growth}
use Rattle.iss_model.specs.rules.Stepping.{settle, after_due}
use Rattle.iss_model.specs.rules.Judging.{repeat_or_conflict, event_answer, token_answer, time_answer, notice_answer, refusal, is_ack, judgement_as, judgement_on, judgement_at, judge}
use Rattle.iss_model.specs.state.Cores.{CoreState, core_facts, core_keeper}
use Rattle.iss_agreement.proofs.JudgedAgain.{new_again, clock_again}
use Rattle.iss_state.proofs.invariants.Kept.{due_accepted}
use Rattle.iss_state.proofs.invariants.NewEvents.{refused_by_event}
use Rattle.iss_model.specs.rules.Activity.{TxnNow, txn_named}
use Rattle.iss_model.specs.rules.Reasons.{is_some_with}
use Rattle.iss_model.specs.rules.Histories.{history_keeper, history_of}
use Rattle.iss_state.specs.Well.{has_live}
use Rattle.iss_core.specs.Values.{CoreNow, CoreStandsFor, GivesNext, GivesInForm}
use Rattle.iss_core.proofs.OnBook.{judged_on_book}

-- ---- what is due

nothing_due : (items : List DueItem) → is_quiet items ≡ true → items ≡ []
nothing_due [] h = refl
nothing_due (item ∷ items) h = cc

-- if nothing is due, nothing is settled
pub settled_nothing : (s : CoreState) (at : ℕ) → is_quiet (due_items (core_facts s) at) ≡ true → after_due core_keeper s at ≡ record { world = s; entries = [] }
settled_nothing s at quiet =
    ap (λ (items : List DueItem). fold (settle core_keeper at) (record { world = s; entries = [] }) items) (nothing_due (due_items (core_facts s) at) quiet)

-- ---- events

event_no_ack : (i : Input) (token : List ℕ) → event_token i ≡ Some token → is_ack i ≡ false
event_no_ack (input.Ack notice) token h = cc
event_no_ack _ token h = refl

-- whatever the answer of an input, a time record goes before it if something is due
some_answer : (a b : Answer) (i : Input) (at : ℕ) → is_ack i ≡ false → judgement_as (Some a) false i at ≡ judgement_as (Some b) false i at
some_answer a b i at h =
    ap (λ (t : Bool). cond (false || t) (judged.Told a) (judged.Clock (record { at = at; input = input.Time }))) h
    ∙ sym (ap (λ (t : Bool). cond (false || t) (judged.Told b) (judged.Clock (record { at = at; input = input.Time }))) h)

-- an event that stands has an answer, on whatever facts
either_answer : (f g : Facts) (i : Input) (token : List ℕ) (o : Option Accepted) (at : ℕ) → is_ack i ≡ false
    → judgement_as (repeat_or_conflict f i token o) false i at ≡ judgement_as (repeat_or_conflict g i token o) false i at
either_answer f g i token None at h = refl
either_answer f g i token (Some first) at h = by (same_contents first.input i)
  where
    by : (b : Bool) → judgement_as (cond b (Some (answer.Repeat token (reply_in f token))) (Some (answer.Conflict token first.number))) false i at
        ≡ judgement_as (cond b (Some (answer.Repeat token (reply_in g token))) (Some (answer.Conflict token first.number))) false i at
    by true = some_answer (answer.Repeat token (reply_in f token)) (answer.Repeat token (reply_in g token)) i at h
    by false = refl

-- an event is judged by the events that stand
pub event_judged : (s : CoreState) (i : Input) (token : List ℕ) (at : ℕ) → event_token i ≡ Some token
    → judgement_at core_keeper s i at ≡ judgement_as (event_answer (core_facts s) i token) (is_quiet (due_items (core_facts s) at)) i at
event_judged s i token at named =
    let quiet : Bool = is_quiet (due_items (core_facts s) at) in
    let after : CoreState = (after_due core_keeper s at).world in
    ap (λ (o : Option Answer). judgement_as o quiet i at) (refused_by_event quiet (core_facts s) (core_facts after) i token named)
    ∙ by quiet refl
  where
    same : event_in (core_facts (after_due core_keeper s at).world) token ≡ event_in (core_facts s) token
    same = ap (λ (accepted : List Accepted). find (λ (a : Accepted). is_event token a.input) accepted) (due_accepted at (record { world = s; entries = [] }) (due_items (core_facts s) at))

    by : (b : Bool) → is_quiet (due_items (core_facts s) at) ≡ b
        → judgement_as (event_answer (core_facts (after_due core_keeper s at).world) i token) b i at ≡ judgement_as (event_answer (core_facts s) i token) b i at
    by true e = ap (λ (g : Growth CoreState). judgement_as (event_answer (core_facts g.world) i token) true i at) (settled_nothing s at e)
    by false e =
        ap (λ (o : Option Accepted). judgement_as (repeat_or_conflict (core_facts (after_due core_keeper s at).world) i token o) false i at) same
        ∙ either_answer (core_facts (after_due core_keeper s at).world) (core_facts s) i token (event_in (core_facts s) token) at (event_no_ack i token named)

-- ---- what isn't an event

-- an acknowledgement has its answer, or is new
pub ack_told : (s : CoreState) (notice : ℕ) (a : Answer) (at : ℕ) → Some a ≡ notice_answer (core_facts s) notice → judged.Told a ≡ judgement_at core_keeper s (input.Ack notice) at
ack_told s notice a at e =
    sym (whatever (is_quiet (due_items (core_facts s) at)))
    ∙ ap (λ (o : Option Answer). judgement_as o (is_quiet (due_items (core_facts s) at)) (input.Ack notice) at) e
  where
    whatever : (b : Bool) → judgement_as (Some a) b (input.Ack notice) at ≡ judged.Told a
    whatever true = refl
    whatever false = refl

pub ack_new : (s : CoreState) (notice at : ℕ) → None ≡ notice_answer (core_facts s) notice → judged.New (record { at = at; input = input.Ack notice }) ≡ judgement_at core_keeper s (input.Ack notice) at
ack_new s notice at e = ap (λ (o : Option Answer). judgement_as o (is_quiet (due_items (core_facts s) at)) (input.Ack notice) at) e

-- a time is new if something is due
pub time_judged : (s : CoreState) (at : ℕ) (b : Bool) → is_quiet (due_items (core_facts s) at) ≡ b
    → judgement_at core_keeper s input.Time at ≡ cond b (judged.Told answer.Idle) (judged.New (record { at = at; input = input.Time }))
time_judged s at b e =
    ap (λ (quiet : Bool). judgement_on quiet (core_facts s) (core_facts (after_due core_keeper s at).world) input.Time at) e ∙ by b
  where
    by : (b : Bool) → judgement_as (time_answer b) b input.Time at ≡ cond b (judged.Told answer.Idle) (judged.New (record { at = at; input = input.Time }))
    by true = refl
    by false = refl

-- ---- what judging returns

pub gives_next : (c : CoreNow) (i : Input) (stamp : ℕ) (j : Judged) → j ≡ judge core_keeper c.state i stamp → GivesNext c j
gives_next c i stamp (judged.New r) e = new_again core_keeper c.state i stamp r (sym e)
gives_next c i stamp (judged.Clock r) e = clock_again core_keeper c.state i stamp r (sym e)
gives_next c i stamp (judged.Told a) e = tt

later_stamp : (a b : ℕ) → is_stamp a ≡ true → is_stamp b ≡ true → is_stamp (max a b) ≡ true
later_stamp a b h k = grind (arith, nat_tests)

-- a record that judging returns is of the input or of a time, at that moment
formed_as : (o : Option Answer) (quiet : Bool) (i : Input) (at : ℕ) (j : Judged) → j ≡ judgement_as o quiet i at → is_in_form i ≡ true → is_stamp at ≡ true → GivesInForm j
formed_as None quiet i at j e form stamp = subst GivesInForm (sym e) (form, stamp)
formed_as (Some a) quiet i at j e form stamp = subst GivesInForm (sym e) (by (quiet || is_ack i))
  where
    by : (b : Bool) → GivesInForm (cond b (judged.Told a) (judged.Clock (record { at = at; input = input.Time })))
    by true = tt
    by false = (refl, stamp)

pub gives_formed : (s : CoreState) (i : Input) (stamp : ℕ) (j : Judged) → j ≡ judge core_keeper s i stamp → is_in_form i ≡ true → is_stamp stamp ≡ true → is_stamp s.now ≡ true → GivesInForm j
unfolding judge
gives_formed s i stamp j e form stamped now =
    let at : ℕ = max stamp s.now in
    let quiet : Bool = is_quiet (due_items (core_facts s) at) in
    formed_as (refusal quiet (core_facts s) (core_facts (after_due core_keeper s at).world) i) quiet i at j e form (later_stamp stamp s.now stamped now)

-- judging is on the later of the stamp and the time
pub judged_at : (s : CoreState) (i : Input) (stamp at : ℕ) (j : Judged) → at ≡ max stamp s.now → j ≡ judgement_at core_keeper s i at → j ≡ judge core_keeper s i stamp
unfolding judge
judged_at s i stamp at j moment e = e ∙ ap (λ (t : ℕ). judgement_at core_keeper s i t) moment

-- ---- judging, as its calls return it

pub judged_as : {A E : Type 0} (r : Result A E) (a b : A) → IfOk r (λ j. j ≡ a) → a ≡ b → IfOk r (λ j. j ≡ b)
judged_as (Ok j) a b h e = h ∙ e
judged_as (Err x) a b h e = tt

pub asked_of_none : {A : Type 0} (o : Option A) → o ≡ None → is_none o ≡ true
asked_of_none o e = ap is_none e

pub never_unknown : (txns : List TxnNow) (token : List ℕ) → txn_named token txns ≡ None → has_live txns token ≡ true → ⊥
never_unknown txns token none live = apart (sym (ap (is_some_with (λ (t : TxnNow). t.live)) none) ∙ live)
  where
    apart : false ≡ true → ⊥
    apart e = cc

-- an event is judged by its answer
pub answered_event : (s : CoreState) (i : Input) (token : List ℕ) (at : ℕ) (told : Option Answer) → event_token i ≡ Some token → told ≡ token_answer (core_facts s) i (event_token i)
    → judgement_as told (is_quiet (due_items (core_facts s) at)) i at ≡ judgement_at core_keeper s i at
answered_event s i token at told named e =
    ap (λ (o : Option Answer). judgement_as o (is_quiet (due_items (core_facts s) at)) i at) (e ∙ ap (token_answer (core_facts s) i) named)
    ∙ sym (event_judged s i token at named)

pub judged_now : {E : Type 0} (c : CoreNow) (s : CoreState) (r : Result Judged E) (i : Input) (stamp at : ℕ) → s ≡ c.state → at ≡ max stamp s.now
    → IfOk r (λ j. j ≡ judgement_at core_keeper s i at) → IfOk r (λ j. j ≡ judge core_keeper c.state i stamp)
judged_now c s (Ok j) i stamp at is moment h = judged_at s i stamp at j moment h ∙ ap (λ (x : CoreState). judge core_keeper x i stamp) is
judged_now c s (Err e) i stamp at is moment h = tt

pub all_next : {E : Type 0} (c : CoreNow) (r : Result Judged E) (i : Input) (stamp : ℕ) → IfOk r (λ j. j ≡ judge core_keeper c.state i stamp) → IfOk r (GivesNext c)
all_next c (Ok j) i stamp h = gives_next c i stamp j h
all_next c (Err e) i stamp h = tt

pub all_formed : {E : Type 0} (c : CoreNow) (r : Result Judged E) (i : Input) (stamp : ℕ) → IfOk r (λ j. j ≡ judge core_keeper c.state i stamp)
    → is_in_form i ≡ true → is_stamp stamp ≡ true → is_stamp c.state.now ≡ true → IfOk r GivesInForm
all_formed c (Ok j) i stamp h form stamped now = gives_formed c.state i stamp j h form stamped now
all_formed c (Err e) i stamp h form stamped now = tt

pub all_on_book : {E : Type 0} (c : CoreNow) (rs : List Record) (r : Result Judged E) (i : Input) (stamp : ℕ) → IfOk r (λ j. j ≡ judge core_keeper c.state i stamp)
    → CoreStandsFor c rs → IfOk r (λ j. j ≡ judge history_keeper (history_of rs) i stamp)
all_on_book c rs (Ok j) i stamp h stands = judged_on_book c rs i stamp j stands h
all_on_book c rs (Err e) i stamp h stands = tt
