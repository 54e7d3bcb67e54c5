-- A record that judging returns is new if it is judged again.
use Rattle.std.proofs.Common.{◌≡◌, ℕ, ◌≤◌, max, Bool, true, false, ◌||◌, cond, refl, sym, ap, ◌∙◌, arith}
use Rattle.std.specs.Prelude.{Option, Some, None}
use Rattle.std.proofs.lemmas.Bool.Decides.{nat_tests}
use Rattle.iss_model.specs.declared.decision.Answer.{Answer}
use Rattle.iss_model.specs.declared.decision.Judged.TheVariants as judged
use Rattle.iss_model.specs.declared.input.Input.{Input}
use Rattle.iss_model.specs.declared.input.Input.TheVariants as input
use Rattle.iss_model.specs.declared.input.Record.{Record}
use Rattle.iss_model.specs.rules.Due.{due_items, is_quiet}
use Rattle.iss_model.specs.rules.Keeper.{Keeper}
use Rattle.iss_model.specs.rules.Stepping.{after_due}
use Rattle.iss_model.specs.rules.Judging.{time_answer, refusal, is_ack, judgement_as, judgement_at, judge}

max_again : (stamp now : ℕ) → max (max stamp now) now ≡ max stamp now
max_again stamp now = grind (arith, nat_tests)

-- what is judged new is the input at its moment
new_as : (answer : Option Answer) (quiet : Bool) (i : Input) (at : ℕ) (r : Record) → judgement_as answer quiet i at ≡ judged.New r → record { at = at; input = i } ≡ r
new_as None quiet i at r h = cc
new_as (Some a) quiet i at r h = by (quiet || is_ack i) h
  where
    by : (b : Bool) → cond b (judged.Told a) (judged.Clock (record { at = at; input = input.Time })) ≡ judged.New r → record { at = at; input = i } ≡ r
    by true h = cc
    by false h = cc

-- a clock is the time at the moment, and something is due then
clock_as : (answer : Option Answer) (quiet : Bool) (i : Input) (at : ℕ) (r : Record) → judgement_as answer quiet i at ≡ judged.Clock r → (record { at = at; input = input.Time } ≡ r) × (quiet ≡ false)
clock_as None quiet i at r h = cc
clock_as (Some a) true i at r h = cc
clock_as (Some a) false i at r h = by (is_ack i) h
  where
    by : (b : Bool) → cond b (judged.Told a) (judged.Clock (record { at = at; input = input.Time })) ≡ judged.Clock r → (record { at = at; input = input.Time } ≡ r) × (false ≡ false)
    by true h = cc
    by false h = (cc, refl)

module _ {W : Type 0} (k : Keeper W) where
  again : (w : W) (i : Input) (at : ℕ) → max at (k.facts w).now ≡ at → judge k w i at ≡ judgement_at k w i at
  unfolding judge
  again w i at e = ap (judgement_at k w i) e

  -- what stands when an input is judged at the later of its stamp and the time
  answer_at : W → Input → ℕ → Option Answer
  answer_at w i at = refusal (is_quiet (due_items (k.facts w) at)) (k.facts w) (k.facts (after_due k w at).world) i

  new_is : (w : W) (i : Input) (stamp : ℕ) (r : Record) → judge k w i stamp ≡ judged.New r → record { at = max stamp (k.facts w).now; input = i } ≡ r
  unfolding judge answer_at
  new_is w i stamp r h =
      let at : ℕ = max stamp (k.facts w).now in
      new_as (answer_at w i at) (is_quiet (due_items (k.facts w) at)) i at r h

  clock_is : (w : W) (i : Input) (stamp : ℕ) (r : Record) → judge k w i stamp ≡ judged.Clock r
      → (record { at = max stamp (k.facts w).now; input = input.Time } ≡ r) × (is_quiet (due_items (k.facts w) (max stamp (k.facts w).now)) ≡ false)
  unfolding judge answer_at
  clock_is w i stamp r h =
      let at : ℕ = max stamp (k.facts w).now in
      clock_as (answer_at w i at) (is_quiet (due_items (k.facts w) at)) i at r h

  -- a record that is judged is of that moment
  pub new_at : (w : W) (i : Input) (stamp : ℕ) (r : Record) → judge k w i stamp ≡ judged.New r → max stamp (k.facts w).now ≡ r.at
  new_at w i stamp r h = ap (λ (x : Record). x.at) (new_is w i stamp r h)

  pub clock_at : (w : W) (i : Input) (stamp : ℕ) (r : Record) → judge k w i stamp ≡ judged.Clock r → max stamp (k.facts w).now ≡ r.at
  clock_at w i stamp r h = ap (λ (x : Record). x.at) (clock_is w i stamp r h).0

  -- what is judged new is the input itself, and a clock is a time
  pub new_input : (w : W) (i : Input) (stamp : ℕ) (r : Record) → judge k w i stamp ≡ judged.New r → i ≡ r.input
  new_input w i stamp r h = ap (λ (x : Record). x.input) (new_is w i stamp r h)

  pub clock_input : (w : W) (i : Input) (stamp : ℕ) (r : Record) → judge k w i stamp ≡ judged.Clock r → input.Time ≡ r.input
  clock_input w i stamp r h = ap (λ (x : Record). x.input) (clock_is w i stamp r h).0

  -- which isn't before the time
  pub not_before : (w : W) (stamp at : ℕ) → max stamp (k.facts w).now ≡ at → (k.facts w).now ≤ at
  not_before w stamp at e = grind (arith, nat_tests)

  pub new_again : (w : W) (i : Input) (stamp : ℕ) (r : Record) → judge k w i stamp ≡ judged.New r → judge k w r.input r.at ≡ judged.New r
  unfolding judge
  new_again w i stamp r h =
      ap (λ (x : Record). judge k w x.input x.at) (sym (new_is w i stamp r h)) ∙ again w i (max stamp (k.facts w).now) (max_again stamp (k.facts w).now) ∙ h

  pub clock_again : (w : W) (i : Input) (stamp : ℕ) (r : Record) → judge k w i stamp ≡ judged.Clock r → judge k w r.input r.at ≡ judged.New r
  unfolding judge
  clock_again w i stamp r h =
      let at : ℕ = max stamp (k.facts w).now in
      let parts = clock_is w i stamp r h in
      ap (λ (x : Record). judge k w x.input x.at) (sym parts.0)
      ∙ again w input.Time at (max_again stamp (k.facts w).now)
      ∙ ap (λ (quiet : Bool). judgement_as (time_answer quiet) quiet input.Time at) parts.1
      ∙ ap (λ (x : Record). judged.New x) parts.0
