-- A record that is judged new brings an event that wasn't accepted before, and is accepted once it is taken up.
use Rattle.std.specs.Prelude.{None, Option, Some, is_some}
use Rattle.std.proofs.Common.{Bool, List, [], ap, cond, false, find, max, refl, sym, true, ℕ, ◌++◌, ◌+◌, ◌||◌, ◌∙◌, ◌∷◌, ◌≡◌}
use Rattle.std.specs.List.{list_all}
use Rattle.std.specs.Str.{bytes_eq}
use Rattle.iss_model.specs.declared.decision.Answer.{Answer}
use Rattle.iss_model.specs.declared.decision.Answer.TheVariants as answer
use Rattle.iss_model.specs.declared.decision.Judged.TheVariants as judged
use Rattle.iss_model.specs.declared.input.Input.{Input}
use Rattle.iss_model.specs.declared.input.Input.TheVariants as input
use Rattle.iss_model.specs.declared.input.Record.{Record}
use Rattle.iss_model.specs.Inputs.{event_token, is_event, is_text, same_contents}
use Rattle.iss_model.specs.rules.Due.{due_items, is_quiet}
use Rattle.iss_model.specs.rules.Facts.{Accepted, Facts, event_in, reply_in}
use Rattle.iss_model.specs.rules.Judging.{event_answer, is_ack, judge, judgement_as, refusal, repeat_or_conflict, token_answer}
use Rattle.iss_model.specs.rules.Settings.{is_named_in}
use Rattle.iss_model.specs.rules.Stepping.{after_due}
use Rattle.iss_model.specs.state.Cores.{CoreState, core_facts, core_keeper, with_record}
use Rattle.iss_model.proofs.Lists.{none_any}
use Rattle.iss_model.proofs.Names.{its_name, one_name}
use Rattle.iss_state.proofs.effects.Finds.{found_grows, found_last}
use Rattle.iss_state.specs.Sound.{IsNewEvent, is_accepted}
use Rattle.iss_state.proofs.invariants.Kept.{due_accepted}

-- ---- a record is taken up

-- what was accepted still is
pub still_accepted : (s : CoreState) (r : Record) (token : List ℕ) → is_accepted s.accepted token ≡ true → is_accepted (with_record s r).accepted token ≡ true
still_accepted s r token h =
    found_grows (λ (a : Accepted). is_event token a.input) s.accepted
    (cond (is_some (event_token r.input)) (record { number = s.count + 1; at = r.at; input = r.input } ∷ []) []) h

-- the record's own event is accepted
pub accepted_with_record : (s : CoreState) (r : Record) (token : List ℕ) → event_token r.input ≡ Some token → is_accepted (with_record s r).accepted token ≡ true
accepted_with_record s r token its =
    let row : Accepted = record { number = s.count + 1; at = r.at; input = r.input } in
    ap (λ (o : Option (List ℕ)). is_some (find (λ (a : Accepted). is_event token a.input) (s.accepted ++ cond (is_some o) (row ∷ []) []))) its
    ∙ found_last (λ (a : Accepted). is_event token a.input) s.accepted row (ap (is_text token) its ∙ its_name token)

-- an event that wasn't accepted names none of those whose events were
pub unaccepted_unnamed : (accepted : List Accepted) (ts : List (List ℕ)) (token : List ℕ) → list_all (is_accepted accepted) ts ≡ true → is_accepted accepted token ≡ false → is_named_in ts token ≡ false
unaccepted_unnamed accepted ts token h none = none_any (is_accepted accepted) (λ t. bytes_eq t token) (λ t known. by t (bytes_eq t token) refl known) ts h
  where
    by : (t : List ℕ) (b : Bool) → bytes_eq t token ≡ b → is_accepted accepted t ≡ true → b ≡ false
    by t true e known = absurd (let bad : true ≡ false = sym known ∙ ap (is_accepted accepted) (one_name t token e) ∙ none in cc)
    by t false e known = refl

-- ---- a record is judged

new_is_none : (answer : Option Answer) (quiet : Bool) (i : Input) (at : ℕ) (r : Record) → judgement_as answer quiet i at ≡ judged.New r → answer ≡ None
new_is_none None quiet i at r h = refl
new_is_none (Some a) quiet i at r h = by (quiet || is_ack i) h
  where
    by : (b : Bool) → cond b (judged.Told a) (judged.Clock (record { at = at; input = input.Time })) ≡ judged.New r → Some a ≡ None
    by true h = cc
    by false h = cc

told_none : (f : Facts) (i : Input) (token : List ℕ) (o : Option Accepted) → repeat_or_conflict f i token o ≡ None → is_some o ≡ false
told_none f i token None h = refl
told_none f i token (Some first) h = by (same_contents first.input i) h
  where
    by : (b : Bool) → cond b (Some (answer.Repeat token (reply_in f token))) (Some (answer.Conflict token first.number)) ≡ None → true ≡ false
    by true h = cc
    by false h = cc

-- an input with an event is refused by its event alone
pub refused_by_event : (quiet : Bool) (f g : Facts) (i : Input) (token : List ℕ) → event_token i ≡ Some token → refusal quiet f g i ≡ event_answer g i token
refused_by_event quiet f g (input.Answer call outcome) token e = cc
refused_by_event quiet f g (input.Ack notice) token e = cc
refused_by_event quiet f g input.Time token e = cc
refused_by_event quiet f g i token e = ap (token_answer g i) e

-- the event of a record that is judged new wasn't accepted before
pub judged_new : (s : CoreState) (r : Record) → judge core_keeper s r.input r.at ≡ judged.New r → IsNewEvent s r.input
unfolding judge
judged_new s r h token its =
    let at : ℕ = max r.at s.now in
    let quiet : Bool = is_quiet (due_items (core_facts s) at) in
    let after : CoreState = (after_due core_keeper s at).world in
    let none : refusal quiet (core_facts s) (core_facts after) r.input ≡ None = new_is_none (refusal quiet (core_facts s) (core_facts after) r.input) quiet r.input at r h in
    let told : event_answer (core_facts after) r.input token ≡ None = sym (refused_by_event quiet (core_facts s) (core_facts after) r.input token its) ∙ none in
    ap (λ (accepted : List Accepted). is_accepted accepted token) (sym (due_accepted at (record { world = s; entries = [] }) (due_items (core_facts s) at)))
    ∙ told_none (core_facts after) r.input token (event_in (core_facts after) token) told
