-- A step on a well-formed state keeps its balances those that are owed, and so do legal records.
use Rattle.std.proofs.Common.{◌≡◌, ◌∙◌, ◌∷◌, ◌&&◌, List, [], refl, subst, sym, true}
use Rattle.std.specs.List.{list_all}
use Rattle.std.proofs.lemmas.Bool.{and_parts}
use Rattle.std.proofs.lemmas.List.Folds.{list_all-append}
use Rattle.iss_model.specs.declared.currency.Currency.{Currency}
use Rattle.iss_model.specs.declared.input.Record.{Record}
use Rattle.iss_model.specs.declared.state.State.{State}
use Rattle.iss_model.specs.rules.Histories.{IsLegal}
use Rattle.iss_model.specs.rules.Stepping.{step}
use Rattle.iss_model.specs.state.Cores.{CoreState, core_keeper, core_of}
use Rattle.iss_model.specs.texts.Spelling.{is_record}
use Rattle.iss_state.specs.Holdings.{IsHeldWell}
use Rattle.iss_state.specs.Pending.{IsWell}
use Rattle.iss_state.specs.Sound.{IsNewEvent}
use Rattle.iss_state.proofs.calls.Legal.{nothing_well}
use Rattle.iss_state.proofs.calls.Steps.{step_well}
use Rattle.iss_state.proofs.docket.Lists.{Each}
use Rattle.iss_state.proofs.held.Steps.{nothing_held, step_held}
use Rattle.iss_state.proofs.invariants.Legal.{legal_induction}
use Rattle.iss_state.proofs.invariants.NewEvents.{judged_new}
use Rattle.iss_states.specs.Fairness.{IsFair}
use Rattle.iss_states.specs.Order.{IsNewOnState}
use Rattle.iss_states.specs.Rebuilding.{rebuilt, state_after}
use Rattle.iss_states.specs.Showing.{no_state, shown}
use Rattle.iss_states.proofs.FairSteps.{nothing_fair, step_fair}
use Rattle.iss_states.proofs.Nothing.{nothing_shown}
use Rattle.iss_rebuilt.specs.Sums.{AreRecords}
use Rattle.iss_rebuilt.proofs.Made.{words_of}
use Rattle.iss_rebuilt.proofs.MadeShown.{IsMade, txns_rebuilt}
use Rattle.iss_rebuilt.proofs.MadeSteps.{legal_txns_rebuilt, step_made}
use Rattle.iss_rebuilt.proofs.Tokens.{AreNamed, nothing_named}
use Rattle.iss_well_formed.specs.WellFormed.{IsWellFormed}
use Rattle.iss_well_formed.proofs.DoneAgain.{sums_again}
use Rattle.iss_well_formed.proofs.FairAgain.{fair_again}
use Rattle.iss_well_formed.proofs.GrownAgain.{own_again}
use Rattle.iss_well_formed.proofs.HeldAgain.{held_again}
use Rattle.iss_well_formed.proofs.MadeAgain.{judged_again, made_too, set_too}
use Rattle.iss_well_formed.proofs.OwnEvents.{IsOwn, step_own}
use Rattle.iss_well_formed.proofs.SumSteps.{HasDoneSums, none_kept, step_sums}
use Rattle.iss_well_formed.proofs.WellAgain.{well_again}
use Rattle.iss_balanced.specs.Owed.{AreOwed}
use Rattle.iss_balanced.proofs.ListedInOrder.{AddUp, nothing_adds_up, sum_again}
use Rattle.iss_balanced.proofs.OwedAgain.{owed_shown, owes_again}
use Rattle.iss_balanced.proofs.OwedSteps.{Owes, nothing_owes, step_owes}
use Rattle.iss_balanced.proofs.ReadKeys.{AreRead, named_again, nothing_read, read_again}
use Rattle.iss_balanced.proofs.ReadSteps.{step_read}

pub owed_after : (s : State) (r : Record) → IsWellFormed s → AreOwed s → IsNewOnState s r → AreOwed (state_after s r)
owed_after s r sound h now =
    let c : CoreState = rebuilt s in
    let w : CoreState = (step core_keeper c r).world in
    let new : IsNewEvent c r.input = judged_new c r now.new in
    let well : IsWell c = well_again s sound.order sound.pending sound.own in
    let own : Each (IsOwn c.accepted) c.accepted = own_again s sound.order in
    let held : IsHeldWell c = held_again s sound.own sound.holds in
    let later : IsWell w = step_well c r new well in
    let made : IsMade (words_of w) w.accepted = step_made c r new well (set_too s sound.own) (judged_again s sound.own sound.judged) (made_too s sound.own) in
    let stay = step_read c r now.form (named_again s sound.order.records) in
    owed_shown w later (txns_rebuilt w later made) (step_held c r new well held) (step_fair c r (fair_again s sound.fair))
    (step_sums c r new well own (sums_again s sound.own sound.done))
    (stay.read (read_again s h.named)) (λ d. stay.sums d (sum_again d s.balances h.named h.order ∙ h.sums d))
    (step_owes c r new well held own (owes_again s sound.own well h))

-- legal records ----

record IsOwedCore (c : CoreState) : Type 0 where
  well : IsWell c
  held : IsHeldWell c
  own : Each (IsOwn c.accepted) c.accepted
  sums : HasDoneSums c
  fair : IsFair c
  owes : Owes c c.accepted

legal_core : (rs : List Record) → IsLegal rs → IsOwedCore (core_of rs)
legal_core rs legal =
    legal_induction (λ rs c. IsOwedCore c)
    (record { well = nothing_well; held = nothing_held; own = tt; sums = record { cleared = none_kept; refunded = none_kept }; fair = nothing_fair; owes = nothing_owes })
    (λ rs r new h. record {
      well = step_well (core_of rs) r new h.well;
      held = step_held (core_of rs) r new h.well h.held;
      own = step_own (core_of rs) r new h.own;
      sums = step_sums (core_of rs) r new h.well h.own h.sums;
      fair = step_fair (core_of rs) r h.fair;
      owes = step_owes (core_of rs) r new h.well h.held h.own h.owes;
    }) rs legal

-- in form, names are tokens and keys are read again
record IsReadCore (c : CoreState) : Type 0 where
  names : AreNamed c
  read : AreRead c.balances
  sums : (d : Currency) → AddUp d c.balances

legal_read : (rs : List Record) → IsLegal rs → AreRecords rs → IsReadCore (core_of rs)
legal_read rs legal =
    legal_induction (λ xs c. list_all is_record xs ≡ true → IsReadCore c) (λ form. record { names = nothing_named; read = nothing_read; sums = nothing_adds_up })
    (λ xs r new h form.
    let both = and_parts (list_all is_record xs) (is_record r && true) (sym (list_all-append is_record xs (r ∷ [])) ∙ form) in
    let before : IsReadCore (core_of xs) = h both.0 in
    let stay = step_read (core_of xs) r (and_parts (is_record r) true both.1).0 before.names in
    record { names = stay.names (record { cards = before.names.cards; txns = before.names.txns }); read = stay.read before.read; sums = λ d. stay.sums d (before.sums d) }) rs legal

pub legal_owed : (rs : List Record) → IsLegal rs → AreRecords rs → AreOwed (shown (core_of rs))
legal_owed rs legal form =
    let h : IsOwedCore (core_of rs) = legal_core rs legal in
    let its : IsReadCore (core_of rs) = legal_read rs legal form in
    owed_shown (core_of rs) h.well (legal_txns_rebuilt rs legal) h.held h.fair h.sums its.read its.sums h.owes

-- no record ----

pub nothing_owed : AreOwed no_state
nothing_owed = subst AreOwed nothing_shown (legal_owed [] tt refl)
