use Rattle.std.proofs.Common.{◌≡◌, ◌⊎◌, IfOk, IfErr, subst, rules}
use Rattle.sqlite.specs.declared.error.Error.TheVariants.{SqliteFailure}
use Rattle.sqlite.specs.declared.error.ErrorCode.TheVariants.{OutOfMemory}
use Rattle.iss_tables.specs.Steps.{IsOneHead, AreNoHead}
use Rattle.iss_tables.proofs.HeadReading.{head_read_by, head_cause_by}
use Rattle.iss_tables.proofs.Asked.{answered_anyway}
use Rattle.iss_tables.proofs.asking.read_head.Goals as goal

pub returns-clause-read : goal.returns-clause-read
returns-clause-read g c clean =
    let same : c.as_slice.result.now ≡ c.in_ok-rows.rows.items = search rules in
    head_read_by _ _ _ (c.in_ok-rows.ensures.shown clean) (subst (λ rows. IfOk c.head_of.result (λ head. IsOneHead head rows)) same c.head_of.ensures.read)

pub returns-clause-done : goal.returns-clause-done
returns-clause-done g c clean has = answered_anyway c.head_of.result _ _ (c.in_ok-rows.ensures.done clean has)

pub returns-clause-cause : goal.returns-clause-cause
returns-clause-cause g c clean has =
    let same : c.as_slice.result.now ≡ c.in_ok-rows.rows.items = search rules in
    head_cause_by _ _ _ c.head_of.result (c.in_ok-rows.ensures.shown clean)
    (subst (λ rows. IfErr c.head_of.result (λ e. (e ≡ SqliteFailure OutOfMemory) ⊎ AreNoHead rows)) same c.head_of.ensures.cause) has
