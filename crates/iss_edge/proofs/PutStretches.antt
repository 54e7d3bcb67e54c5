-- What holds at each moment of puts makes them a good stretch.
use Rattle.std.proofs.Common.{◌≡◌, ℕ, ◌≤◌, true, List, [], ◌∷◌, ◌++◌, refl, sym, ap, ◌∙◌, subst, arith}
use Rattle.iss_edge.specs.declared.outside.Action.{Action}
use Rattle.iss_edge.specs.declared.outside.Action.TheVariants.{Write, Sync}
use Rattle.iss_edge.specs.Disk.{Disk, after_actions, IsAtRest}
use Rattle.iss_edge.specs.Puts.{Put, after_puts, actions_of_puts, Ran, Holds}
use Rattle.iss_edge.specs.Stretches.{Step, actions_of, sent_level, SentUpTo, StandsUpTo, IsGood, GoesOn}
use Rattle.iss_edge.proofs.Images.{rests_after}
use Rattle.iss_edge.proofs.PutLemmas.{ran_front, ran_all, put_moments}
use Rattle.iss_edge.proofs.StretchLemmas.{actions_of-append}

no_text : (step : Step) (action : Action) (i : ℕ) → step.action ≡ action → sent_level action step.level ≡ 0 → sent_level step.action step.level ≤ i
no_text step action i is none =
    let same : sent_level step.action step.level ≡ 0 = ap (λ (a : Action). sent_level a step.level) is ∙ none in
    omega (arith, same)

-- puts send nothing
pub puts_silent : (puts : List Put) (steps : List Step) (i : ℕ) → Ran puts (actions_of steps) → SentUpTo i steps
puts_silent puts [] i ran = tt
puts_silent [] (s ∷ steps) i ran = absurd ran
puts_silent (put ∷ puts) (s ∷ []) i ran = (no_text s (Write put.at put.bytes ran.0) i ran.1 refl, tt)
puts_silent (put ∷ puts) (s ∷ t ∷ []) i ran =
    (no_text s (Write put.at put.bytes true) i ran.1 refl, (no_text t (Sync ran.0) i ran.2 refl, tt))
puts_silent (put ∷ puts) (s ∷ t ∷ u ∷ steps) i ran =
    (no_text s (Write put.at put.bytes true) i ran.0 refl, (no_text t (Sync true) i ran.1 refl, puts_silent puts (u ∷ steps) i ran.2))

-- puts of which a part was made
pub puts_good : (starts stands : List ℕ → ℕ → Type 0) (j k : ℕ) (puts : List Put) (steps : List Step) → ((bytes : List ℕ) → starts bytes j → Holds (λ n image. StandsUpTo stands j k image) 0 bytes puts) → Ran puts (actions_of steps) → IsGood starts stands j k steps
puts_good starts stands j k puts steps holds ran =
    record {
      each = λ d rest start before after cut image is.
          let actions : actions_of steps ≡ actions_of before ++ actions_of after = ap actions_of cut ∙ actions_of-append before after in
          let prefix : Ran puts (actions_of before) = ran_front puts (actions_of before) (actions_of after) (subst (λ (l : List Action). Ran puts l) actions ran) in
          let up : StandsUpTo stands j k image = put_moments (λ n image. StandsUpTo stands j k image) 0 puts d (actions_of before) rest (holds d.bytes start) prefix image is in
          record { i = up.i; low = up.low; high = up.high; stand = up.stand; told = puts_silent puts before up.i prefix };
    }

-- after puts a device at rest is at rest, with their bytes
pub puts_rest : (puts : List Put) (d : Disk) → IsAtRest d → IsAtRest (after_actions d (actions_of_puts puts))
puts_rest [] d rest = rest
puts_rest (put ∷ puts) d rest = puts_rest puts (after_actions d (Write put.at put.bytes true ∷ Sync true ∷ [])) (rests_after d put.at put.bytes rest)

pub puts_bytes : (puts : List Put) (d : Disk) → (after_actions d (actions_of_puts puts)).bytes ≡ after_puts d.bytes puts
puts_bytes [] d = refl
puts_bytes (put ∷ puts) d = puts_bytes puts (after_actions d (Write put.at put.bytes true ∷ Sync true ∷ []))

-- puts that were all made
pub puts_go_on : (starts stands ends : List ℕ → ℕ → Type 0) (j k : ℕ) (puts : List Put) (steps : List Step) → ((bytes : List ℕ) → starts bytes j → Holds (λ n image. StandsUpTo stands j k image) 0 bytes puts) → ((bytes : List ℕ) → starts bytes j → ends (after_puts bytes puts) k) → actions_of steps ≡ actions_of_puts puts → GoesOn starts stands ends j k steps
puts_go_on starts stands ends j k puts steps holds there all =
    record {
      good = puts_good starts stands j k puts steps holds (subst (λ (l : List Action). Ran puts l) (sym all) (ran_all puts));
      at_rest = λ d rest start. subst (λ (l : List Action). IsAtRest (after_actions d l)) (sym all) (puts_rest puts d rest);
      rest = λ d rest start.
          subst (λ (l : List Action). ends (after_actions d l).bytes k) (sym all) (subst (λ (l : List ℕ). ends l k) (sym (puts_bytes puts d)) (there d.bytes start));
    }
