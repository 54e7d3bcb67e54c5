use Rattle.std.proofs.Common.{◌≡◌, pos, FitsSigned, w64, to_z, of_z, sym, subst, ◌∙◌, refl, arith, rules}
use Rattle.std.proofs.lemmas.Int.{to_z-of_z}
use Rattle.sqlite.specs.Held.{state}
use Rattle.iss_archive.specs.Archived.{posts_in}
use Rattle.iss_tables.specs.Calls.{HasNoneAbove}
use Rattle.iss_sql_keeper.proofs.TellingLemmas.{told_taken}
use Rattle.iss_sql_keeper.proofs.opening.is_counted.Goals as goal

pub returns-in_default-clause-untaken : goal.returns-in_default-clause-untaken
returns-in_default-clause-untaken g c clean ours fits above = absurd (omega (arith, fits, c.in_default.ensures.great refl))

pub returns-clause-untaken : goal.returns-clause-untaken
returns-clause-untaken g c clean ours fits above =
    let value : c.in-Some.posts ≡ pos (posts_in c.args.head.now) = search rules in
    let fit : FitsSigned w64 c.in-Some.posts = search rules in
    let same : to_z w64 (of_z w64 c.in-Some.posts) ≡ pos (posts_in c.args.head.now) = to_z-of_z w64 c.in-Some.posts fit ∙ value in
    c.is_none_above.ensures.untaken clean ours (subst (λ n. HasNoneAbove n (state g.S.Store c.args.conn.now).now.trees) (sym same) above)

pub returns-clause-told : goal.returns-clause-told
returns-clause-told g c = told_taken c.is_none_above.result (state g.S.Store c.is_none_above.new.conn) c.is_none_above.ensures.telling
