-- Which notices were made, and which aren't acknowledged yet.
use Rattle.std.specs.Prelude.{ℕ, ◌+◌, nat_le, ◌==◌, Bool, true, ◌&&◌, List, [], ◌∷◌, Option, find}
use Rattle.std.specs.List.{list_any}
use Rattle.iss_model.specs.declared.limits.TheConstants.{FIRST_NUMBER}
use Rattle.iss_model.specs.declared.call.Notice.{Notice}
use Rattle.iss_model.specs.state.Cores.{Outbox}

-- a notice of this number was made
abbrev pub is_made : ℕ → Outbox → Bool
is_made number o = nat_le 1 number && nat_le number o.made

-- a notice of this number was made and isn't acknowledged yet
abbrev pub is_pending : ℕ → Outbox → Bool
is_pending number o = list_any (λ notice. notice.number == number) o.pending

-- the notice of this number that isn't acknowledged yet
abbrev pub pending_notice : ℕ → Outbox → Option Notice
pending_notice number o = find (λ notice. notice.number == number) o.pending

-- the numbers of these notices rise, none twice, from at least this one to at most that one
abbrev pub rise_within : ℕ → ℕ → List Notice → Bool
rise_within low high [] = true
rise_within low high (notice ∷ notices) =
    nat_le low notice.number && nat_le notice.number high && rise_within (notice.number + 1) high notices

-- the numbers of these notices rise, none twice, within those that were made
abbrev pub are_numbered : ℕ → List Notice → Bool
are_numbered made notices = rise_within FIRST_NUMBER made notices
