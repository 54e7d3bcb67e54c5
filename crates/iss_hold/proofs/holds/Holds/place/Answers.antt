use Rattle.std.proofs.Common.{rules, ◌≡◌, ℕ, List, ap, subst, ◌∙◌}
use Rattle.std.specs.Prelude.{None}
use Rattle.std.specs.List.{IsDistinct}
use Rattle.std.specs.Str.{bytes_eq}
use Rattle.iss_hold.specs.Indexes.{place_in}
use Rattle.iss_hold.proofs.Places.{same_names, place_is}
use Rattle.iss_hold.proofs.holds.Holds.place.Goals as goal

pub returns-clause-place : goal.returns-clause-place
returns-clause-place c =
    c.in_ok-place.ensures ∙ place_is c.self.invariant.placed c.args.txn.now
    ∙ ap (λ (ns : List (List ℕ)). place_in c.args.txn.now ns) (same_names c.self.inside.table.holds c.self.view_is)

pub returns-clause-once : goal.returns-clause-once
returns-clause-once c = subst (λ (ns : List (List ℕ)). IsDistinct bytes_eq ns) (same_names c.self.inside.table.holds c.self.view_is) c.self.invariant.distinct

pub returns-in_err-place-clause-place : goal.returns-in_err-place-clause-place
returns-in_err-place-clause-place c =
    let failed : c.from_residual.result ≡ None = search rules in
    failed ∙ c.in_err-place.ensures ∙ place_is c.self.invariant.placed c.args.txn.now
    ∙ ap (λ (ns : List (List ℕ)). place_in c.args.txn.now ns) (same_names c.self.inside.table.holds c.self.view_is)

pub returns-in_err-place-clause-once : goal.returns-in_err-place-clause-once
returns-in_err-place-clause-once c = subst (λ (ns : List (List ℕ)). IsDistinct bytes_eq ns) (same_names c.self.inside.table.holds c.self.view_is) c.self.invariant.distinct
