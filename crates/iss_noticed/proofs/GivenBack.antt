-- A step makes notices that give back at most their amounts, save in a capture.
use Rattle.std.proofs.Common.{◌≡◌, ◌∷◌, ◌+◌, ◌≤◌, ℕ, arith, Bool, fold, List, [], nat_le, refl, subst, true}
use Rattle.std.proofs.lemmas.Bool.Decides.{nat_tests}
use Rattle.iss_model.specs.declared.call.Notice.{Notice}
use Rattle.iss_model.specs.declared.decision.Reason.{Reason}
use Rattle.iss_model.specs.declared.input.Record.{Record}
use Rattle.iss_model.specs.declared.state.State.{State}
use Rattle.iss_model.specs.declared.txn.Txn.{Txn}
use Rattle.iss_model.specs.rules.Activity.{CallNow}
use Rattle.iss_model.specs.rules.Acts.{Abandons, Act, Fails, StandsIn, Tells, act_entries, captured, entries_of_acts, expired, refunded, reversed}
use Rattle.iss_model.specs.rules.Due.{thing_acts}
use Rattle.iss_model.specs.rules.Facts.{Facts}
use Rattle.iss_model.specs.rules.Histories.{IsLegal, history_of}
use Rattle.iss_model.specs.rules.Pieces.{abandoned_calls_entries}
use Rattle.iss_model.specs.rules.Stepping.{acts_of, after_due, step}
use Rattle.iss_model.specs.state.Cores.{CoreState, after_entry, core_facts, core_keeper, core_of, with_record}
use Rattle.iss_acts.proofs.Passing.{EachPasses, both_pass, none_passes, one_passes, two_pass, where_passes}
use Rattle.iss_acts.proofs.Stepping.{due_stays}
use Rattle.iss_state.proofs.invariants.Legal.{legal_induction}
use Rattle.iss_states.specs.OverBook.{state_of}
use Rattle.iss_states.specs.Rebuilding.{rebuilt, state_after}
use Rattle.iss_states.proofs.StateOfBook.{state_shown}
use Rattle.iss_noticed.specs.GivenBack.{GiveBackWithin, gives_back_within}
use Rattle.iss_noticed.proofs.KeptNotices.{AllPass, Lasts, entries_pass, passes_told, silent_passes, tells}
use Rattle.iss_noticed.proofs.News.{AreSaid, IsSaid, own_said, said_pass, thing_said, told_amount}

-- acts ----

at_most : (m n : ℕ) → m ≤ n → nat_le m n ≡ true
at_most m n h = grind (arith, nat_tests)

none_back : (n : ℕ) → nat_le 0 n ≡ true
none_back n = grind (arith, nat_tests)

abandoned_within : (number : ℕ) (t : Txn) (why : Reason) (calls : List CallNow) → EachPasses (tells gives_back_within) (abandoned_calls_entries number t why calls)
abandoned_within number t why [] = none_passes
abandoned_within number t why (c ∷ calls) = two_pass refl (two_pass (none_back c.opened.amount) (two_pass refl (two_pass refl (abandoned_within (number + 1) t why calls))))

act_within : (f : Facts) (own : ℕ) (a : Act) → IsSaid f own a → EachPasses (tells gives_back_within) (act_entries a)
act_within f own (Fails number o t why) h = two_pass refl (one_passes (none_back o.amount))
act_within f own (StandsIn number ask at set) h =
    two_pass refl
    (both_pass (both_pass (where_passes ask.amount (one_passes refl)) (where_passes ask.amount (one_passes refl))) (two_pass (none_back ask.amount) (one_passes refl)))
act_within f own (Abandons number t why calls parts) h = abandoned_within number t why calls
act_within f own (Tells number reversed t amount gateway) h = one_passes (at_most gateway amount h.1)
act_within f own (Tells number captured t amount gateway) h = one_passes refl
act_within f own (Tells number refunded t amount gateway) h = one_passes (at_most gateway amount h.1)
act_within f own (Tells number expired t amount gateway) h = one_passes (at_most gateway amount h.1)
act_within f own a h = silent_passes gives_back_within a refl refl refl

-- a step ----

-- the test of a notice, whatever stands
abbrev is_within : CoreState → Notice → Bool
is_within s n = gives_back_within n

within_lasts : Lasts is_within
within_lasts s e n h = h

made_within : (s : CoreState) (f : Facts) (own : ℕ) (acts : List Act) → AreSaid f own acts → AllPass is_within s → AllPass is_within (fold after_entry s (entries_of_acts acts))
made_within s f own acts h =
    entries_pass is_within within_lasts s (entries_of_acts acts) (passes_told is_within within_lasts s (entries_of_acts acts) (said_pass f own (tells gives_back_within) (act_within f own) acts h))

step_within : (c : CoreState) (r : Record) → AllPass is_within c → AllPass is_within (step core_keeper c r).world
unfolding step
step_within c r h =
    let up : CoreState = with_record c r in
    let due : CoreState = (after_due core_keeper up r.at).world in
    made_within due (core_facts due) (told_amount r.input) (acts_of r.input r.at (core_facts due)) (own_said (core_facts due) r.input r.at)
    (due_stays (AllPass is_within) r.at (λ s thing now. made_within s (core_facts s) 0 (thing_acts thing r.at (core_facts s)) (thing_said (core_facts s) 0 thing r.at) now) up h)

pub within_after : (s : State) (r : Record) → GiveBackWithin s → GiveBackWithin (state_after s r)
within_after s r h = step_within (rebuilt s) r h

pub legal_within : (rs : List Record) → IsLegal rs → GiveBackWithin (state_of (history_of rs))
legal_within rs legal = subst GiveBackWithin (state_shown rs) (legal_induction (λ rs c. AllPass is_within c) refl (λ rs r new h. step_within (core_of rs) r h) rs legal)
