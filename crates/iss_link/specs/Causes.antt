-- What each answer on a link comes by, in plain terms.
use Rattle.std.specs.Prelude.{◌≡◌, ◌⊎◌, ◌↔◌, ℕ, Bool, true, false, List, [], ◌∷◌, ◌++◌, Option, Some, None}
use Rattle.iss_model.specs.declared.call.Opened.{Opened}
use Rattle.iss_model.specs.declared.call.CallId.{CallId}
use Rattle.iss_model.specs.declared.currency.Currency.{Currency}
use Rattle.iss_model.specs.declared.input.Outcome.TheVariants.{Refused, Application, Connection, Partial}
use Rattle.iss_http.specs.declared.statuses.TheConstants.{OK}
use Rattle.iss_http.specs.Answers.{AnswerReading, more, ended, garbled, whole, answer_read}
use Rattle.iss_jit.specs.declared.answers.TheConstants.{REFUSED}
use Rattle.iss_jit.specs.Outcomes.{outcome_of}
use Rattle.iss_session.specs.Desks.{of_call, of_notice}
use Rattle.iss_session.specs.Links.{Link, LinkHeard, unfinished, outcome, acknowledged, dropped, link_reading, heard_as}

-- what is heard of a link after a take brought this
abbrev pub heard_then : ℕ → Link → Option (List ℕ) → Bool → LinkHeard
heard_then instance link got early = heard_as (outcome_of instance) link.subject (link_reading link got early)

-- at least one byte came, and with those before they are no answer yet
abbrev pub AreMore : Link → Option (List ℕ) → Type 0
AreMore link (Some (b ∷ piece)) = answer_read (link.bytes ++ b ∷ piece) false ≡ more
AreMore link _ = ⊥

-- nothing is heard only if bytes came and the answer isn't whole
abbrev pub UnfinishedOnlyAt : Type 0
UnfinishedOnlyAt =
    (instance : ℕ) (link : Link) (got : Option (List ℕ)) (early : Bool) → heard_then instance link got early ≡ unfinished → AreMore link got

-- the channel failed, or ended before an answer was whole
abbrev pub IsCutOff : Link → Option (List ℕ) → Type 0
IsCutOff link None = Unit {0}
IsCutOff link (Some []) = answer_read (link.bytes ++ []) true ≡ ended
IsCutOff link (Some (b ∷ piece)) = ⊥

-- a call isn't connected only if its channel failed or ended early
abbrev pub ConnectionOnlyAt : Type 0
ConnectionOnlyAt =
    (instance : ℕ) (link : Link) (call : CallId) (got : Option (List ℕ)) (early : Bool)
    → heard_then instance link got early ≡ outcome call Connection → IsCutOff link got

-- a whole answer comes to this for a call
pub record IsWholeAs (P : ℕ → List ℕ → Type 0) (reading : AnswerReading) : Type 0 where
  pub status : ℕ
  pub body : List ℕ
  pub is : reading ≡ whole status body
  pub so : P status body

-- an answer decides nothing exactly if it can't be understood, or is whole and neither funds the call nor refuses it
abbrev pub ApplicationExactly : Type 0
ApplicationExactly =
    (instance : ℕ) (o : Opened) (reading : AnswerReading)
    → (heard_as (outcome_of instance) (of_call o) reading ≡ outcome o.call Application)
    ↔ ((reading ≡ garbled) ⊎ IsWholeAs (λ status body. outcome_of instance o status body ≡ Application) reading)

-- a call is refused exactly by a whole answer of status `REFUSED`
abbrev pub RefusedExactly : Type 0
RefusedExactly =
    (instance : ℕ) (o : Opened) (reading : AnswerReading)
    → (heard_as (outcome_of instance) (of_call o) reading ≡ outcome o.call Refused) ↔ IsWholeAs (λ status body. status ≡ REFUSED) reading

-- a call is funded in part exactly by a whole answer that funds just this part of it
abbrev pub PartExactly : Type 0
PartExactly =
    (instance : ℕ) (o : Opened) (currency : Currency) (amount : ℕ) (reading : AnswerReading)
    → (heard_as (outcome_of instance) (of_call o) reading ≡ outcome o.call (Partial currency amount))
    ↔ IsWholeAs (λ status body. outcome_of instance o status body ≡ Partial currency amount) reading

-- a notice is acknowledged exactly by a whole answer of status `OK`
abbrev pub AcknowledgedExactly : Type 0
AcknowledgedExactly =
    (instance n : ℕ) (reading : AnswerReading)
    → (heard_as (outcome_of instance) (of_notice n) reading ≡ acknowledged n) ↔ IsWholeAs (λ status body. status ≡ OK) reading

-- A notice isn't acknowledged exactly if its channel failed, ended early, sent what can't be understood or a whole answer of another status.
abbrev pub DroppedExactly : Type 0
DroppedExactly =
    (instance n : ℕ) (reading : AnswerReading)
    → (heard_as (outcome_of instance) (of_notice n) reading ≡ dropped n)
    ↔ ((reading ≡ ended) ⊎ ((reading ≡ garbled) ⊎ IsWholeAs (λ status body. status ≡ OK → ⊥) reading))
