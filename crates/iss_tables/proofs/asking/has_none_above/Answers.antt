use Rattle.std.proofs.Common.{◌≡◌, ◌∙◌, [], subst, rules}
use Rattle.iss_tables.proofs.Failing.{open_not_shut}
use Rattle.iss_tables.proofs.HeadReading.{none_above_by, none_shown_by}
use Rattle.iss_tables.proofs.asking.has_none_above.Goals as goal

pub returns-clause-found : goal.returns-clause-found
returns-clause-found g c clean =
    let same : c.as_slice.result.now ≡ c.in_ok-rows.rows.items = search rules in
    λ has none. none_above_by c.args.most.now _ _ (c.in_ok-rows.ensures.shown clean has) (subst (λ rows. rows ≡ []) same (c.is_empty.ensures.yes none))

pub returns-clause-missed : goal.returns-clause-missed
returns-clause-missed g c clean =
    let same : c.as_slice.result.now ≡ c.in_ok-rows.rows.items = search rules in
    λ has missed none. open_not_shut c.is_empty.result (c.is_empty.ensures.no (same ∙ none_shown_by c.args.most.now _ _ (c.in_ok-rows.ensures.shown clean has) none)) missed
