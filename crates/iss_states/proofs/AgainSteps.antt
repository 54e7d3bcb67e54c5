-- A step leaves each call and each transaction as it is made again, and so do all legal records.
use Rattle.std.proofs.Common.{◌≡◌, ◌∙◌, ◌+◌, ◌++◌, ◌∷◌, ℕ, ap, ap₂, Bool, cond, false, find, fold, List, [], refl, sym}
use Rattle.std.specs.Prelude.{Option, Some, None, is_some}
use Rattle.std.specs.Option.{option_or}
use Rattle.std.proofs.lemmas.List.Folds.{find-append}
use Rattle.iss_model.specs.declared.entry.Entry.{Entry}
use Rattle.iss_model.specs.declared.input.Input.{Input}
use Rattle.iss_model.specs.declared.input.Record.{Record}
use Rattle.iss_model.specs.Inputs.{event_token, is_event, is_text}
use Rattle.iss_model.specs.rules.Due.{DueItem, DueThing, due_items, thing_entries}
use Rattle.iss_model.specs.rules.Facts.{Accepted}
use Rattle.iss_model.specs.rules.Histories.{IsLegal}
use Rattle.iss_model.specs.rules.Keeper.{Growth}
use Rattle.iss_model.specs.rules.Stepping.{after_due, entries_of, step}
use Rattle.iss_model.specs.state.Cores.{CoreState, after_entry, core_facts, core_keeper, core_of, no_core, with_record}
use Rattle.iss_model.proofs.Names.{its_name}
use Rattle.iss_acts.proofs.Stepping.{due_stays}
use Rattle.iss_state.specs.Pending.{HasTakenUp, IsWell}
use Rattle.iss_state.specs.Sound.{IsNewEvent, is_accepted}
use Rattle.iss_state.proofs.calls.Legal.{nothing_well}
use Rattle.iss_state.proofs.calls.Steps.{ready_settled, ready_taken, step_well}
use Rattle.iss_state.proofs.invariants.Kept.{due_accepted}
use Rattle.iss_state.proofs.invariants.Legal.{legal_induction}
use Rattle.iss_states.specs.Again.{AreCallsAgain, AreTxnsAgain}
use Rattle.iss_states.proofs.Again.{AreMadeAgain, entries_again, none_made}
use Rattle.iss_states.proofs.Decided.{due_count}
use Rattle.iss_states.proofs.Found.{call_stays, record_keeps, txn_stays}
use Rattle.iss_states.proofs.Purchases.{due_makes_none, own_again}

not_found : (xs : List Accepted) (token : List ℕ) → is_accepted xs token ≡ false → find (λ a. is_event token a.input) xs ≡ None
not_found xs token h = by (find (λ a. is_event token a.input) xs) h
  where
    by : (o : Option Accepted) → is_some o ≡ false → o ≡ None
    by None h = refl
    by (Some a) h = cc

-- the record's own event is found by its token
own_found : (c : CoreState) (r : Record) → IsNewEvent c r.input → (token : List ℕ) → event_token r.input ≡ Some token
    → find (λ a. is_event token a.input) (with_record c r).accepted ≡ Some (record { number = c.count + 1; at = r.at; input = r.input })
own_found c r new token e =
    let row : Accepted = record { number = c.count + 1; at = r.at; input = r.input } in
    ap (λ (o : Option (List ℕ)). find (λ a. is_event token a.input) (c.accepted ++ cond (is_some o) (row ∷ []) [])) e
    ∙ find-append (λ (a : Accepted). is_event token a.input) c.accepted (row ∷ [])
    ∙ ap₂ (λ (o : Option Accepted) (b : Bool). option_or o (cond b (Some row) None)) (not_found c.accepted token (new token e)) (ap (is_text token) e ∙ its_name token)

-- what stands while what is due is settled
pub record Stays (i : Input) (c : CoreState) : Type 0 where
  pub ready : HasTakenUp c i
  pub again : AreMadeAgain c

pub taken_again : (c : CoreState) (r : Record) → IsNewEvent c r.input → IsWell c → AreMadeAgain c → Stays r.input (with_record c r)
taken_again c r new well again =
    record {
      ready = ready_taken c r well new;
      again = record { calls = λ n x e. call_stays x.opened (record_keeps c r) (again.calls n x e); txns = λ token x e. txn_stays x.txn (record_keeps c r) (again.txns token x e) };
    }

pub stays_again : (i : Input) (at : ℕ) (c : CoreState) (thing : DueThing) → Stays i c → Stays i (fold after_entry c (thing_entries thing at (core_facts c)))
stays_again i at c thing now =
    let es : List Entry = thing_entries thing at (core_facts c) in
    record { ready = ready_settled c i thing at now.ready; again = entries_again c es (none_made c es (due_makes_none (core_facts c) thing at).all) now.again }

pub step_again : (c : CoreState) (r : Record) → IsNewEvent c r.input → IsWell c → AreMadeAgain c → AreMadeAgain (step core_keeper c r).world
unfolding step
step_again c r new well again =
    let up : CoreState = with_record c r in
    let start : Growth CoreState = record { world = up; entries = [] } in
    let items : List DueItem = due_items (core_facts up) r.at in
    let due : CoreState = (after_due core_keeper up r.at).world in
    let now : Stays r.input due = due_stays (Stays r.input) r.at (stays_again r.input r.at) up (taken_again c r new well again) in
    entries_again due (entries_of r.input r.at (core_facts due))
    (own_again due r.at r.input now.ready
    (λ token e. ap (λ (xs : List Accepted). find (λ a. is_event token a.input) xs) (due_accepted r.at start items)
    ∙ own_found c r new token e
    ∙ ap (λ (n : ℕ). Some (record { number = n; at = r.at; input = r.input })) (sym (due_count r.at start items)))) now.again

-- all records ----

record IsAgainWell (rs : List Record) (c : CoreState) : Type 0 where
  well : IsWell c
  again : AreMadeAgain c

pub nothing_again : AreMadeAgain no_core
nothing_again = record { calls = λ n x e. cc; txns = λ token x e. cc }

legal_again : (rs : List Record) → IsLegal rs → AreMadeAgain (core_of rs)
legal_again rs legal =
    (legal_induction IsAgainWell (record { well = nothing_well; again = nothing_again })
    (λ rs r new h. record { well = step_well (core_of rs) r new h.well; again = step_again (core_of rs) r new h.well h.again }) rs legal).again

pub legal_calls : (rs : List Record) → IsLegal rs → AreCallsAgain (core_of rs)
legal_calls rs legal = (legal_again rs legal).calls

pub legal_txns : (rs : List Record) → IsLegal rs → AreTxnsAgain (core_of rs)
legal_txns rs legal = (legal_again rs legal).txns
