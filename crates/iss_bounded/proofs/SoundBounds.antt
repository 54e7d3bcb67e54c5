-- A step on a well-formed state keeps its sums within the records, and so do legal records in form.
use Rattle.std.proofs.Common.{◌≡◌, ◌+◌, ◌≤◌, ℕ, length, List, [], refl, subst, sym, true}
use Rattle.std.specs.List.{list_all}
use Rattle.iss_model.specs.declared.input.Record.{Record}
use Rattle.iss_model.specs.declared.state.State.{State}
use Rattle.iss_model.specs.rules.Activity.{CallNow}
use Rattle.iss_model.specs.rules.Histories.{IsLegal}
use Rattle.iss_model.specs.rules.Stepping.{step}
use Rattle.iss_model.specs.state.Cores.{CoreState, core_keeper, core_of}
use Rattle.iss_state.specs.Pending.{IsWell}
use Rattle.iss_state.specs.Sound.{IsNewEvent}
use Rattle.iss_state.proofs.invariants.NewEvents.{judged_new}
use Rattle.iss_states.specs.Order.{IsNewOnState}
use Rattle.iss_states.specs.Rebuilding.{rebuilt, state_after}
use Rattle.iss_states.specs.Showing.{no_state, shown}
use Rattle.iss_states.proofs.Decided.{step_takes_up}
use Rattle.iss_states.proofs.Nothing.{nothing_shown}
use Rattle.iss_rebuilt.specs.Purchases.{HasCallsAgain}
use Rattle.iss_rebuilt.specs.Sums.{AreRecords}
use Rattle.iss_rebuilt.proofs.MadeSteps.{legal_calls_rebuilt}
use Rattle.iss_well_formed.specs.WellFormed.{IsWellFormed}
use Rattle.iss_well_formed.proofs.HeldAgain.{held_again}
use Rattle.iss_well_formed.proofs.FormedSteps.{record_count}
use Rattle.iss_well_formed.proofs.WellAgain.{well_again}
use Rattle.iss_noticed.specs.Commitments.{most_of_records}
use Rattle.iss_bounded.specs.Bounds.{AreBetween, AreBounded, asked_amounts, asked_number, is_stood_within, open_amount}
use Rattle.iss_bounded.proofs.CounterBounds.{HasUseWithin, amount_up, counters_shown, legal_used, open_within, times_read, use_again, use_step}
use Rattle.iss_bounded.proofs.OpenAgain.{open_again, open_shown}
use Rattle.iss_bounded.proofs.OpenLoad.{open_load}
use Rattle.iss_bounded.proofs.UseKinds.{asked_load}
use Rattle.iss_bounded.proofs.StoodBounds.{HasRoom, calls_after, legal_rooms, room_again, room_step, stood_shown}

within_shown : (w : CoreState) → HasCallsAgain w → HasRoom w.count w → HasUseWithin w.count w → AreBounded (shown w)
within_shown w calls room used =
    let opened : open_amount (shown w) ≡ open_load w = open_shown w calls in
    record {
      opened = subst (λ (n : ℕ). n ≤ most_of_records w.count) (sym opened) (open_within w (most_of_records w.count) used.opened);
      sums = subst (λ (xs : List CallNow). list_all (is_stood_within (asked_amounts xs) (most_of_records w.count)) (shown w).sums ≡ true) (sym calls) (stood_shown w room);
      amounts = subst (λ (n : ℕ). AreBetween (λ k. k.used.amount) n (most_of_records w.count) (shown w).counters) (sym opened)
          (counters_shown (λ u. u.amount) amount_up open_load w (most_of_records w.count) (λ k key. refl) used.amounts used.opened);
      counts = subst (λ (xs : List CallNow). AreBetween (λ k. k.used.count) (asked_number xs) w.count (shown w).counters) (sym calls)
          (counters_shown (λ u. u.count) times_read (asked_load (λ m. 1)) w w.count (λ k key. refl) used.times used.asked);
    }

pub within_after : (s : State) (r : Record) → IsWellFormed s → AreBounded s → IsNewOnState s r → AreBounded (state_after s r)
within_after s r sound h now =
    let c : CoreState = rebuilt s in
    let w : CoreState = (step core_keeper c r).world in
    let well : IsWell c = well_again s sound.order sound.pending sound.own in
    let new : IsNewEvent c r.input = judged_new c r now.new in
    let count : w.count ≡ s.records + 1 = (step_takes_up c r).count in
    within_shown w (calls_after s r sound now) (subst (λ (n : ℕ). HasRoom n w) (sym count) (room_step s.records c r well new now.form (room_again s h)))
    (subst (λ (n : ℕ). HasUseWithin n w) (sym count) (use_step s.records c r well (held_again s sound.own sound.holds) new now.form (use_again s sound.few.calls (open_again s sound.own well) h)))

pub legal_within : (rs : List Record) → IsLegal rs → AreRecords rs → AreBounded (shown (core_of rs))
legal_within rs legal form =
    let count : (core_of rs).count ≡ length rs = record_count rs in
    within_shown (core_of rs) (legal_calls_rebuilt rs legal) (subst (λ (n : ℕ). HasRoom n (core_of rs)) (sym count) (legal_rooms rs legal form))
    (subst (λ (n : ℕ). HasUseWithin n (core_of rs)) (sym count) (legal_used rs legal form))

pub nothing_within : AreBounded no_state
nothing_within = subst AreBounded nothing_shown (legal_within [] tt refl)
