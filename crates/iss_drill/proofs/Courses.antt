-- A drill on its way: the set-up, and then event after event.
use Rattle.std.proofs.Common.{◌≡◌, ℕ, suc, ◌+◌, ◌*◌, ◌/◌, ◌%◌, ◌≤◌, cond, ◌&&◌, nat_eq, nat_lt, List, [], ◌∷◌, ◌++◌, refl, sym, ap, subst, ◌∙◌, append_assoc, arith}
use Rattle.std.specs.Prelude.{Option, Some, None, IsTrue}
use Rattle.iss_model.specs.declared.call.CallId.{CallId}
use Rattle.iss_model.specs.declared.input.Input.{Input}
use Rattle.iss_model.specs.declared.input.Input.TheVariants as input
use Rattle.iss_model.specs.declared.input.Outcome.{Outcome}
use Rattle.iss_model.specs.Forms.{is_in_form}
use Rattle.iss_model.specs.run.Transcripts.{Reading, sound}
use Rattle.iss_model.specs.run.Runs.{Run, run_after}
use Rattle.iss_opening.specs.Values.{StoreNow}
use Rattle.iss_drill.specs.declared.tally.Tally.{Tally}
use Rattle.iss_drill.specs.Generated.{next_state, state_at, drawn}
use Rattle.iss_drill.specs.Setup.{setup_input}
use Rattle.iss_drill.specs.Events.{stamp_of, is_again, event_input, own_event, outcome_of}
use Rattle.iss_drill.specs.Drills.{call_opened_in, drill_run, setup_lines, answer_lines, event_lines, lines_up_to}
use Rattle.iss_drill.specs.Tallies.{IsFew}
use Rattle.iss_drill.specs.Giving.{HasGiven}

next_is : (n : ℕ) → suc n ≡ n + 1
next_is n = omega arith

-- ---- the set-up

-- this number of lines of the set-up was given since a store and a tally began, on a device of this size
pub record IsSetUp (number : ℕ) (t0 t : Tally) (s0 s : StoreNow) (size0 size : ℕ) : Type 0 where
  pub lines : t.lines ≡ number
  pub few : IsFew number t
  pub fits : size ≡ s.layout.size
  pub to : s.layout.size ≡ s0.layout.size
  pub kept : size ≡ size0
  pub given : (start : Run) → HasGiven start [] t0 s0 → HasGiven start (setup_lines number) t s

pub setup_begins : (t : Tally) (s : StoreNow) (size : ℕ) → t.lines ≡ 0 → IsFew 0 t → size ≡ s.layout.size → IsSetUp 0 t t s s size size
unfolding setup_lines
setup_begins t s size none few fits = record { lines = none; few = few; fits = fits; to = refl; kept = refl; given = λ start given. given }

setup_more : (number : ℕ) → setup_lines number ++ sound (setup_input (number + 1)) None ∷ [] ≡ setup_lines (number + 1)
unfolding setup_lines
setup_more number =
    ap (λ (n : ℕ). setup_lines number ++ sound (setup_input n) None ∷ []) (sym (next_is number)) ∙ ap (λ (n : ℕ). setup_lines n) (next_is number)

pub setup_next : (number : ℕ) (t0 t u : Tally) (s0 s s' : StoreNow) (size0 size size' : ℕ) → IsSetUp number t0 t s0 s size0 size
    → u.lines ≡ t.lines + 1 → IsFew (t.lines + 1) u → size' ≡ size → s'.layout.size ≡ s.layout.size
    → ((start : Run) (lines : List Reading) → HasGiven start lines t s → HasGiven start (lines ++ sound (setup_input (number + 1)) None ∷ []) u s')
    → IsSetUp (number + 1) t0 u s0 s' size0 size'
setup_next number t0 t u s0 s s' size0 size size' so lines few kept to given =
    record {
      lines = lines ∙ ap (λ (n : ℕ). n + 1) so.lines;
      few = subst (λ (n : ℕ). IsFew (n + 1) u) so.lines few;
      fits = kept ∙ so.fits ∙ sym to;
      to = to ∙ so.to;
      kept = kept ∙ so.kept;
      given = λ start begun. subst (λ (l : List Reading). HasGiven start l u s') (setup_more number) (given start (setup_lines number) (so.given start begun));
    }

-- ---- an event, and its answer

two_lines : (run : Run) (number : ℕ) (event : Input) (at : ℕ) (call : CallId) (outcome : Outcome) → event ≡ event_input number → at ≡ stamp_of number
    → call_opened_in run event at ≡ Some call → outcome ≡ outcome_of (drawn number)
    → sound event (Some at) ∷ sound (input.Answer call outcome) (Some at) ∷ [] ≡ event_lines run number
two_lines run number event at call outcome e a opened o =
    let called : call_opened_in run (event_input number) (stamp_of number) ≡ Some call = (λ i. call_opened_in run (sym e i) (sym a i)) ∙ opened in
    (λ i. sound (e i) (Some (a i)) ∷ sound (input.Answer call (o i)) (Some (a i)) ∷ [])
    ∙ ap (λ (c : Option CallId). sound (event_input number) (Some (stamp_of number)) ∷ answer_lines number c) (sym called)

one_line : (run : Run) (number : ℕ) (event : Input) (at : ℕ) → event ≡ event_input number → at ≡ stamp_of number
    → call_opened_in run event at ≡ None → sound event (Some at) ∷ [] ≡ event_lines run number
one_line run number event at e a opened =
    let called : call_opened_in run (event_input number) (stamp_of number) ≡ None = (λ i. call_opened_in run (sym e i) (sym a i)) ∙ opened in
    (λ i. sound (e i) (Some (a i)) ∷ []) ∙ ap (λ (c : Option CallId). sound (event_input number) (Some (stamp_of number)) ∷ answer_lines number c) (sym called)

pub event_answered : (start : Run) (lines : List Reading) (number : ℕ) (event : Input) (at : ℕ) (call : CallId) (outcome : Outcome) (opened : Option CallId) (t : Tally) (s : StoreNow)
    → event ≡ event_input number → at ≡ stamp_of number → opened ≡ call_opened_in (run_after start lines) event at → opened ≡ Some call → outcome ≡ outcome_of (drawn number)
    → HasGiven start ((lines ++ sound event (Some at) ∷ []) ++ sound (input.Answer call outcome) (Some at) ∷ []) t s
    → HasGiven start (lines ++ event_lines (run_after start lines) number) t s
event_answered start lines number event at call outcome opened t s e a is some o given =
    subst (λ (l : List Reading). HasGiven start l t s)
    (append_assoc lines (sound event (Some at) ∷ []) (sound (input.Answer call outcome) (Some at) ∷ [])
    ∙ ap (λ (l : List Reading). lines ++ l) (two_lines (run_after start lines) number event at call outcome e a (sym is ∙ some) o))
    given

pub event_alone : (start : Run) (lines : List Reading) (number : ℕ) (event : Input) (at : ℕ) (opened : Option CallId) (t : Tally) (s : StoreNow)
    → event ≡ event_input number → at ≡ stamp_of number → opened ≡ call_opened_in (run_after start lines) event at → opened ≡ None
    → HasGiven start (lines ++ sound event (Some at) ∷ []) t s
    → HasGiven start (lines ++ event_lines (run_after start lines) number) t s
event_alone start lines number event at opened t s e a is none given =
    subst (λ (l : List Reading). HasGiven start l t s)
    (ap (λ (l : List Reading). lines ++ l) (one_line (run_after start lines) number event at e a (sym is ∙ none))) given

-- ---- event after event

-- the first k events of a drill of n events were given, with their answers
pub record IsUnderWay (n k state : ℕ) (last : Input) (t0 t : Tally) (s0 s : StoreNow) (size : ℕ) : Type 0 where
  pub state_is : state ≡ state_at k
  pub last_is : last ≡ event_input k
  pub form : IsTrue (is_in_form last)
  pub lines : t.lines ≤ 23 + 2 * k
  pub few : IsFew t.lines t
  pub fits : size ≡ s.layout.size
  pub given : HasGiven (drill_run n) (setup_lines 23) t0 s0 → HasGiven (drill_run n) (lines_up_to n k) t s

pub events_begin : (n state : ℕ) (t : Tally) (s : StoreNow) (size : ℕ) → state ≡ 1 → t.lines ≡ 23 → IsFew 23 t → size ≡ s.layout.size → IsUnderWay n 0 state input.Time t t s s size
unfolding state_at event_input lines_up_to
events_begin n state t s size one lines few fits =
    record {
      state_is = one;
      last_is = refl;
      form = refl;
      lines = omega (arith, lines);
      few = subst (λ (k : ℕ). IsFew k t) (sym lines) few;
      fits = fits;
      given = λ given. given;
    }

drawn_next : (k state state' y : ℕ) → state ≡ state_at k → state' ≡ next_state state → y ≡ state' / 65536 → y ≡ drawn (k + 1)
unfolding state_at
drawn_next k state state' y so is drawn_so =
    drawn_so ∙ ap (λ (x : ℕ). x / 65536) (is ∙ ap (λ (x : ℕ). next_state x) so) ∙ ap (λ (n : ℕ). drawn n) (next_is k)

state_next : (k state state' : ℕ) → state ≡ state_at k → state' ≡ next_state state → state' ≡ state_at (k + 1)
unfolding state_at
state_next k state state' so is = is ∙ ap (λ (x : ℕ). next_state x) so ∙ ap (λ (n : ℕ). state_at n) (next_is k)

input_next : (k y : ℕ) (last next : Input) → last ≡ event_input k → y ≡ drawn (k + 1)
    → next ≡ cond (nat_eq (y % 8) 7 && nat_lt 1 (k + 1)) last (own_event (k + 1) y) → next ≡ event_input (k + 1)
unfolding event_input
input_next k y last next so d is =
    is
    ∙ (λ i. cond (nat_eq (d i % 8) 7 && nat_lt 1 (k + 1)) (so i) (own_event (k + 1) (d i)))
    ∙ ap (λ (n : ℕ). cond (is_again n) (event_input k) (own_event n (drawn n))) (sym (next_is k))
    ∙ ap (λ (n : ℕ). event_input n) (next_is k)

lines_next : (n k : ℕ) → lines_up_to n k ++ event_lines (run_after (drill_run n) (lines_up_to n k)) (k + 1) ≡ lines_up_to n (k + 1)
unfolding lines_up_to
lines_next n k =
    ap (λ (m : ℕ). lines_up_to n k ++ event_lines (run_after (drill_run n) (lines_up_to n k)) m) (sym (next_is k)) ∙ ap (λ (m : ℕ). lines_up_to n m) (next_is k)

pub event_next : (n k state state' y : ℕ) (last next : Input) (t0 t u : Tally) (s0 s s' : StoreNow) (size size' : ℕ) → IsUnderWay n k state last t0 t s0 s size
    → state' ≡ next_state state → y ≡ state' / 65536 → next ≡ cond (nat_eq (y % 8) 7 && nat_lt 1 (k + 1)) last (own_event (k + 1) y) → IsTrue (is_in_form next)
    → u.lines ≤ t.lines + 2 → IsFew u.lines u → size' ≡ size → s'.layout.size ≡ s.layout.size
    → ((start : Run) (lines : List Reading) → next ≡ event_input (k + 1) → y ≡ drawn (k + 1) → HasGiven start lines t s
    → HasGiven start (lines ++ event_lines (run_after start lines) (k + 1)) u s')
    → IsUnderWay n (k + 1) state' next t0 u s0 s' size'
event_next n k state state' y last next t0 t u s0 s s' size size' so is drawn_so next_so form lines few kept to given =
    let d : y ≡ drawn (k + 1) = drawn_next k state state' y so.state_is is drawn_so in
    let i : next ≡ event_input (k + 1) = input_next k y last next so.last_is d next_so in
    record {
      state_is = state_next k state state' so.state_is is;
      last_is = i;
      form = form;
      lines = omega (arith, lines, so.lines);
      few = few;
      fits = kept ∙ so.fits ∙ sym to;
      given =
          λ begun. subst (λ (l : List Reading). HasGiven (drill_run n) l u s') (lines_next n k)
          (given (drill_run n) (lines_up_to n k) i d (so.given begun));
    }
