-- A mark of a well-formed state stands on an authorisation or an increment.
use Rattle.std.proofs.Common.{◌≡◌, ◌∙◌, ◌||◌, ap, find, List, refl, sym, true, ℕ}
use Rattle.std.specs.Prelude.{Option, Some, None, is_none, option_map}
use Rattle.std.specs.List.{list_all}
use Rattle.std.specs.Str.{bytes_eq}
use Rattle.iss_model.specs.declared.state.Seen.{Seen}
use Rattle.iss_model.specs.declared.state.State.{State}
use Rattle.iss_model.specs.Inputs.{is_event}
use Rattle.iss_model.specs.rules.Activity.{CallNow}
use Rattle.iss_model.specs.rules.Facts.{Accepted}
use Rattle.iss_model.specs.rules.Reasons.{is_some_with}
use Rattle.iss_model.specs.state.Cores.{CoreState}
use Rattle.iss_state.proofs.docket.Lists.{Each}
use Rattle.iss_states.specs.Rebuilding.{rebuilt}
use Rattle.iss_states.specs.Showing.{mark_of, seen_in, token_of_event}
use Rattle.iss_well_formed.specs.Events.{AreMarksOfAsks, is_ask, is_marked_if_ask}
use Rattle.iss_well_formed.specs.WellFormed.{IsWellFormed}
use Rattle.iss_well_formed.proofs.GrownAgain.{IsAsking, grown_again, own_again}
use Rattle.iss_well_formed.proofs.OwnEvents.{IsOwn, all_of_each, own_token}
use Rattle.iss_well_formed.proofs.WellAgain.{all_mapped, found_each}

module _ (s : State) (h : IsWellFormed s) where
  abbrev c : CoreState
  c = rebuilt s

  asking : Each (IsAsking c.accepted) c.calls
  asking = (grown_again s h.order.tokens h.order.records).asks

  one : (a : Accepted) → IsOwn c.accepted a → is_marked_if_ask (seen_in c a) ≡ true
  one a own = by (find (λ x. bytes_eq x.opened.event (token_of_event a)) c.calls) refl
    where
      by : (o : Option CallNow) → find (λ x. bytes_eq x.opened.event (token_of_event a)) c.calls ≡ o → (is_none (option_map (λ x. mark_of x.how) o) || is_ask a.input) ≡ true
      by None e = refl
      by (Some x) e =
          let its = found_each (IsAsking c.accepted) (token_of_event a) c.calls x asking e in
          ap (is_some_with (λ (b : Accepted). is_ask b.input)) (sym own.found)
          ∙ ap (λ (k : List ℕ). is_some_with (λ (b : Accepted). is_ask b.input) (find (λ b. is_event k b.input) c.accepted)) (sym (its.1 ∙ own_token own)) ∙ its.0

  pub marks_of_asks : AreMarksOfAsks s
  marks_of_asks =
      ap (λ (es : List Seen). list_all is_marked_if_ask es) (sym h.own.events) ∙ all_mapped is_marked_if_ask (seen_in c) c.accepted
      ∙ all_of_each (IsOwn c.accepted) (λ (a : Accepted). is_marked_if_ask (seen_in c a)) one c.accepted (own_again s h.order)
