-- What the rules ask of the events, by the standing that is found.
use Rattle.std.proofs.Common.{◌≡◌, ℕ, Bool, true, false, cond, List, [], ◌∷◌, map, find, Option, Some, None, refl, ap, ap₂, ◌∙◌}
use Rattle.std.specs.Prelude.{IsSome, option_map}
use Rattle.std.specs.List.{AllByRecursion}
use Rattle.std.specs.Option.{option_and_then}
use Rattle.std.specs.Str.{bytes_eq}
use Rattle.iss_model.specs.declared.decision.Answer.{Answer}
use Rattle.iss_model.specs.declared.decision.Answer.TheVariants as answer
use Rattle.iss_model.specs.declared.decision.Reply.{Reply}
use Rattle.iss_model.specs.declared.decision.Verdict.{Verdict}
use Rattle.iss_model.specs.declared.input.Input.{Input}
use Rattle.iss_model.specs.Inputs.{event_token, is_event, is_text, same_contents}
use Rattle.iss_model.specs.rules.Facts.{Accepted, Decision, reply_of_verdict, event_reply}
use Rattle.iss_model.specs.rules.Judging.{event_answer, repeat_or_conflict}
use Rattle.iss_accepted.specs.Values.{events_facts}
use Rattle.iss_accepted.specs.Standing.{Standing, IsNamed, name_of, token_or_none, standing_named, decision_made, decisions_at, decision_named, AreDecided}
use Rattle.iss_accepted.specs.Kept.{events_now}

-- the event of a standing
abbrev pub event_in : Standing → Accepted
event_in s = s.event

-- the test of an event is that of its name
test_named : (o : Option (List ℕ)) (token : List ℕ) → IsSome o → is_text token o ≡ bytes_eq (token_or_none o) token
test_named None token some_ = cc
test_named (Some other) token some_ = refl

-- the event that is found is that of the standing which is found
pub event_found : (token : List ℕ) (ss : List Standing) → AllByRecursion IsNamed ss
    → find (λ (a : Accepted). is_event token a.input) (map (λ (s : Standing). s.event) ss) ≡ option_map event_in (standing_named token ss)
event_found token [] named = refl
event_found token (s ∷ ss) named =
    ap₂ (λ (b : Bool) (o : Option Accepted). cond b (Some s.event) o) (test_named (event_token s.event.input) token named.0) (event_found token ss named.1)
    ∙ both (bytes_eq (name_of s) token) (standing_named token ss)
  where
    both : (b : Bool) (o : Option Standing) → cond b (Some s.event) (option_map event_in o) ≡ option_map event_in (cond b (Some s) o)
    both true o = refl
    both false o = refl

-- a verdict as the decision of a name
abbrev pub verdict_of : List ℕ → Verdict → Decision
verdict_of name v = record { event = name; verdict = v }

-- the reply by a decision, or that there is none
abbrev reply_by : Option Decision → Reply
reply_by o = reply_of_verdict (option_map (λ (d : Decision). d.verdict) o)

-- the reply to an event is by its verdict
made_told : (name : List ℕ) (o : Option Verdict) → reply_by (option_map (λ (v : Verdict). verdict_of name v) o) ≡ reply_of_verdict o
made_told name None = refl
made_told name (Some v) = refl

-- the answer to an event, by the standing of its token
abbrev pub standing_answer : Input → List ℕ → Option Standing → Option Answer
standing_answer i token None = None
standing_answer i token (Some s) = cond (same_contents s.event.input i) (Some (answer.Repeat token (reply_of_verdict s.verdict))) (Some (answer.Conflict token s.event.number))

module _ (ss : List Standing) (places : List ℕ) (token : List ℕ) (named : AllByRecursion IsNamed ss) (decided : AreDecided ss places) where
  pub reply_found : event_reply (events_facts (events_now ss places)) token ≡ option_map (λ (s : Standing). reply_of_verdict s.verdict) (standing_named token ss)
  reply_found =
      ap₂ (λ (o : Option Accepted) (d : Option Decision). option_map (λ (first : Accepted). reply_by d) o) (event_found token ss named) (decided.found token)
      ∙ by (standing_named token ss)
    where
      by : (o : Option Standing)
          → option_map (λ (first : Accepted). reply_by (option_and_then decision_made o)) (option_map event_in o) ≡ option_map (λ (s : Standing). reply_of_verdict s.verdict) o
      by None = refl
      by (Some s) = ap (λ (r : Reply). Some r) (made_told (name_of s) s.verdict)

  pub answer_found : (i : Input) → event_answer (events_facts (events_now ss places)) i token ≡ standing_answer i token (standing_named token ss)
  answer_found i =
      ap (repeat_or_conflict (events_facts (events_now ss places)) i token) (event_found token ss named)
      ∙ by (standing_named token ss) (decided.found token)
    where
      by : (o : Option Standing) → decision_named token (decisions_at ss places) ≡ option_and_then decision_made o
          → repeat_or_conflict (events_facts (events_now ss places)) i token (option_map event_in o) ≡ standing_answer i token o
      by None e = refl
      by (Some s) e =
          ap (λ (r : Reply). cond (same_contents s.event.input i) (Some (answer.Repeat token r)) (Some (answer.Conflict token s.event.number)))
          (ap reply_by e ∙ made_told (name_of s) s.verdict)
