-- What a core of legal records shows of its events: each is judged by the rules, and its mark goes with its verdict.
use Rattle.std.proofs.Common.{◌≡◌, ◌∙◌, ◌∷◌, ℕ, ap, Bool, cond, false, find, List, [], map, nat_lt, not, refl, subst, sym, true}
use Rattle.std.specs.Prelude.{Option, Some, None, is_none}
use Rattle.std.specs.List.{list_all}
use Rattle.std.specs.Str.{bytes_eq}
use Rattle.std.proofs.lemmas.Bool.{and_parts}
use Rattle.iss_model.specs.declared.call.CallState.{CallState}
use Rattle.iss_model.specs.declared.call.CallState.TheVariants as call_state
use Rattle.iss_model.specs.declared.call.How.{How}
use Rattle.iss_model.specs.declared.call.How.TheVariants as how
use Rattle.iss_model.specs.declared.call.Opened.{Opened}
use Rattle.iss_model.specs.declared.input.Record.{Record}
use Rattle.iss_model.specs.Inputs.{is_event}
use Rattle.iss_model.specs.rules.Activity.{CallNow, call_numbered}
use Rattle.iss_model.specs.rules.Facts.{Accepted, verdict_in}
use Rattle.iss_model.specs.rules.Histories.{IsLegal}
use Rattle.iss_model.specs.state.Cores.{CoreState, core_of, no_core}
use Rattle.iss_model.proofs.Names.{one_name}
use Rattle.iss_state.specs.Sound.{is_accepted}
use Rattle.iss_state.specs.Pending.{IsWell}
use Rattle.iss_state.proofs.calls.Legal.{core_well}
use Rattle.iss_state.proofs.docket.Closing.{StandsItself, all_stand}
use Rattle.iss_state.proofs.docket.Lists.{Each, both_so, inside, mapped_is}
use Rattle.iss_states.specs.Again.{AreCallsAgain, amount_of_event}
use Rattle.iss_states.specs.Parts.{PartsAgree}
use Rattle.iss_states.specs.Settled.{WereJudged, with_done}
use Rattle.iss_states.specs.Showing.{is_asked_mark, mark_in, mark_of, seen_in, shown, token_of_event}
use Rattle.iss_states.proofs.AgainSteps.{legal_calls}
use Rattle.iss_states.proofs.Judged.{legal_judged}
use Rattle.iss_states.proofs.Marks.{call_mark, pending_asked}
use Rattle.iss_states.proofs.PartSteps.{legal_parts}
use Rattle.iss_well_formed.proofs.OwnEvents.{IsOwn, each_accepted, legal_own, own_token}
use Rattle.iss_well_formed.specs.Events.{AgreesOnPart, AgreeOnTheirParts, AreJudged, both_or_neither, is_pending_if_asked}

-- events are judged ----

pub judged_shown : (k c : CoreState) (xs : List Accepted) → WereJudged k.decisions c xs → AreJudged c (map (seen_in k) xs)
judged_shown k c [] h = tt
judged_shown k c (a ∷ xs) h = (h.0, judged_shown k (with_done k.decisions c a) xs h.1)

pub legal_events_judged : (rs : List Record) → IsLegal rs → AreJudged no_core (shown (core_of rs)).events
legal_events_judged rs legal = judged_shown (core_of rs) no_core (core_of rs).accepted (legal_judged rs legal)

-- an event is pending if it is asked ----

same_both : (a b : Bool) → a ≡ b → both_or_neither a b ≡ true
same_both true b e = sym e
same_both false b e = ap not (sym e)

-- each of these events was accepted
abbrev pub AreAccepted : CoreState → List Accepted → Type 0
AreAccepted c xs = list_all (λ a. is_accepted c.accepted (token_of_event a)) xs ≡ true

pub pending_shown : (c : CoreState) → IsWell c → (xs : List Accepted) → AreAccepted c xs → list_all is_pending_if_asked (map (seen_in c) xs) ≡ true
pending_shown c well [] h = refl
pending_shown c well (a ∷ xs) h =
    let both = and_parts (is_accepted c.accepted (token_of_event a)) (list_all (λ a. is_accepted c.accepted (token_of_event a)) xs) h in
    both_so (is_pending_if_asked (seen_in c a)) (list_all is_pending_if_asked (map (seen_in c) xs))
    (same_both (is_none (verdict_in c.decisions (token_of_event a))) (is_asked_mark (mark_in c.calls (token_of_event a))) (pending_asked c (token_of_event a) well both.0)) (pending_shown c well xs both.1)

pub legal_pending : (rs : List Record) → IsLegal rs → list_all is_pending_if_asked (shown (core_of rs)).events ≡ true
legal_pending rs legal = pending_shown (core_of rs) (core_well rs legal) (core_of rs).accepted (each_accepted (core_of rs).accepted (legal_own rs legal))

-- parts ----

-- what is found stands by itself, and is of its event
found_each : (P : CallNow → Type 0) (event : List ℕ) (xs : List CallNow) (c : CallNow) → Each P xs → find (λ x. bytes_eq x.opened.event event) xs ≡ Some c → P c × (c.opened.event ≡ event)
found_each P event [] c h e = cc
found_each P event (x ∷ xs) c h e = by (bytes_eq x.opened.event event) refl e (λ f. found_each P event xs c h.1 f)
  where
    by : (b : Bool) → bytes_eq x.opened.event event ≡ b → cond b (Some x) (find (λ x. bytes_eq x.opened.event event) xs) ≡ Some c
        → (find (λ x. bytes_eq x.opened.event event) xs ≡ Some c → P c × (c.opened.event ≡ event)) → P c × (c.opened.event ≡ event)
    by true same e rest = let is : x ≡ c = inside e in (subst P is h.0, ap (λ (y : CallNow). y.opened.event) (sym is) ∙ one_name x.opened.event event same)
    by false same e rest = rest e

-- a mark of a part says how the call was closed
marked_part : (o : Option How) (amount : ℕ) → mark_of o ≡ call_state.Closed (how.Partial amount) → o ≡ Some (how.Partial amount)
marked_part None amount e = cc
marked_part (Some how.Funded) amount e = cc
marked_part (Some (how.Partial part)) amount e = ap (λ (s : CallState). Some (how.Partial (part_of s))) e
  where
    part_of : CallState → ℕ
    part_of (call_state.Closed (how.Partial part)) = part
    part_of _ = 0
marked_part (Some how.Refused) amount e = cc
marked_part (Some (how.Failed why)) amount e = cc
marked_part (Some how.Abandoned) amount e = cc

-- a call with a mark, of an event
pub record IsMarkedAs (c : CoreState) (event : List ℕ) (amount : ℕ) : Type 0 where
  pub call : CallNow
  pub stands : call_numbered call.opened.call.0 c.calls ≡ Some call
  pub its_event : call.opened.event ≡ event
  pub closed : call.how ≡ Some (how.Partial amount)

pub marked_as : (c : CoreState) (event : List ℕ) (amount : ℕ) → IsWell c → mark_in c.calls event ≡ Some (call_state.Closed (how.Partial amount)) → IsMarkedAs c event amount
marked_as c event amount well e =
    let was = mapped_is (λ (x : CallNow). mark_of x.how) (find (λ x. bytes_eq x.opened.event event) c.calls) (call_state.Closed (how.Partial amount)) e in
    let its = found_each (StandsItself c.calls) event c.calls was.0 (all_stand c.calls well.docket.calls.numbers) was.1 in
    record { call = was.0; stands = its.0; its_event = its.1; closed = marked_part was.0.how amount was.2 }

part_shown : (c : CoreState) (a : Accepted) → IsWell c → AreCallsAgain c → PartsAgree c → IsOwn c.accepted a → AgreesOnPart (seen_in c a)
part_shown c a well again agree own =
    record {
      decided = λ currency amount e.
          let part = agree.decided (token_of_event a) currency amount e in
          ap (mark_in c.calls) (sym part.its_event) ∙ call_mark c part.number part.call well part.stands ∙ ap (λ (h : Option How). Some (mark_of h)) part.closed;
      marked = λ amount e.
          let x = marked_as c (token_of_event a) amount well e in (
            x.call.opened.currency,
            ap (verdict_in c.decisions) (sym x.its_event) ∙ (agree.closed x.call.opened.call.0 x.call amount x.stands x.closed).decided,
          );
      less = λ amount e.
          let x = marked_as c (token_of_event a) amount well e in
          let call = again x.call.opened.call.0 x.call x.stands in
          let event : call.event ≡ a = inside (sym call.was_accepted ∙ ap (λ (token : List ℕ). find (λ b. is_event token b.input) c.accepted) (x.its_event ∙ own_token own) ∙ own.found) in
          ap (nat_lt amount) (sym (ap (λ (o : Opened). o.amount) call.same ∙ ap (λ (b : Accepted). amount_of_event b.input) event))
          ∙ (agree.closed x.call.opened.call.0 x.call amount x.stands x.closed).less;
    }

parts_shown : (c : CoreState) (xs : List Accepted) → IsWell c → AreCallsAgain c → PartsAgree c → Each (IsOwn c.accepted) xs → AgreeOnTheirParts (map (seen_in c) xs)
parts_shown c [] well again agree own = tt
parts_shown c (a ∷ xs) well again agree own = (part_shown c a well again agree own.0, parts_shown c xs well again agree own.1)

pub legal_parts_shown : (rs : List Record) → IsLegal rs → AgreeOnTheirParts (shown (core_of rs)).events
legal_parts_shown rs legal = parts_shown (core_of rs) (core_of rs).accepted (core_well rs legal) (legal_calls rs legal) (legal_parts rs legal) (legal_own rs legal)
