-- Which of two devices is refused: the one that was opened first, the other, or none.
use Rattle.std.proofs.Common.{◌≡◌, ℕ, inl, inr, Err}
use Rattle.iss_edge.specs.World.{World}
use Rattle.iss_opening.specs.declared.fault.OpenFault.{OpenFault}
use Rattle.iss_opening.specs.declared.fault.OpenFault.TheVariants as open_fault
use Rattle.iss_opening.specs.Values.{StoreNow}
use Rattle.iss_opening.specs.Opening.{Opens, OpensGood, OpensStore}
use Rattle.iss_device.specs.Refusals.{IsNoStore}
use Rattle.iss_device.proofs.Refusals.{opens_alone, opened_refuses}
use Rattle.iss_follow_runs.specs.Refusals.{RefusesEither}
use Rattle.iss_follow_runs.proofs.Tellings.{status_of, one_of_three}

-- what is wrong with a device of which an opening told this
none_there : (fault : OpenFault) (a b : World) → status_of fault ≡ 4 → Opens (Err fault) a b → IsNoStore a.device
none_there open_fault.Disk a b e opens = absurd cc
none_there open_fault.OutOfMemory a b e opens = absurd cc
none_there open_fault.NotFormatted a b e opens = inl opens
none_there (open_fault.BadImage place) a b e opens = inr (place, inl opens)
none_there (open_fault.BadRecord place) a b e opens = inr (place, inr (inl opens))
none_there (open_fault.BadSpelling gate) a b e opens = inr (gate, inr (inr (inl opens)))
none_there (open_fault.BadHistory gate) a b e opens = inr (gate, inr (inr (inr opens)))

module _ (fault : OpenFault) (a b c d : World) (good : OpensGood a b) (other : OpensGood c d) where
  -- the first one wasn't opened
  pub first_refused : Opens (Err fault) a b → RefusesEither (status_of fault) a b c d
  first_refused opens =
      record {
        only = λ e. inl (none_there fault a b e opens);
        there = λ none. one_of_three fault;
        untouched = λ e. (opens_alone a b good, opens_alone c d other);
      }

  -- the second one wasn't
  pub second_refused : Opens (Err fault) c d → RefusesEither (status_of fault) a b c d
  second_refused opens =
      record {
        only = λ e. inr (none_there fault c d e opens);
        there = λ none. one_of_three fault;
        untouched = λ e. (opens_alone a b good, opens_alone c d other);
      }

-- both were
pub both_opened : (n : ℕ) (s t : StoreNow) (a b c d : World) → (n ≡ 4 → ⊥) → OpensStore s a.device → OpensStore t c.device → RefusesEither n a b c d
both_opened n s t a b c d other first second =
    record {
      only = λ e. absurd (other e);
      there = λ none. elim none [
        | inl x ↦ (opened_refuses n s a b other first).there x
        | inr y ↦ (opened_refuses n t c d other second).there y
      ];
      untouched = λ e. absurd (other e);
    }
