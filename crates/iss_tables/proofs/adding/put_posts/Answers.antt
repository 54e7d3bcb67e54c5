use Rattle.std.proofs.Common.{◌≡◌, Err, ◌∙◌, arith, rules}
use Rattle.sqlite.specs.State.{HasCleanDisk}
use Rattle.sqlite.specs.Held.{state}
use Rattle.sqlite.proofs.StateLemmas.{survives_then}
use Rattle.iss_tables.proofs.PostLemmas.{keeps_then}
use Rattle.iss_tables.proofs.Unput.{puts_more, put_failed}
use Rattle.iss_tables.proofs.adding.put_posts.Goals as goal

pub rows-preserved : goal.rows-preserved
rows-preserved g c =
    let inv = c.rows.invariant in
    let before : HasCleanDisk (state g.S.Store c.put_post.new.tx.conn.now) → HasCleanDisk (state g.S.Store c.rows.tx.conn.now) =
    λ clean. omega (arith, c.put_post.ensures.survives.clean) in (
      c.put_post.ensures.same_reference ∙ inv.0,
      survives_then _ _ _ (λ _. ⊥) (λ _. ⊥) (λ _. ⊥) (λ _ db n. n) (λ _ db n. n) inv.1 c.put_post.ensures.survives,
      λ clean. keeps_then _ _ _ (inv.2 (before clean)) (c.put_post.ensures.kept clean),
      λ clean inside. c.in_ok-put_post.ensures.stays clean,
      λ clean has.
          let was = inv.4 (before clean) has in
          puts_more c.args.rows.now c.rows.row-index _ _ _ _ (search rules) was (c.in_ok-put_post.ensures.puts clean was.schema) (c.in_ok-put_post.ensures.opened clean),
    )

pub returns-in_err-put_post-clause-cause : goal.returns-in_err-put_post-clause-cause
returns-in_err-put_post-clause-cause g c clean has within =
    let inv = c.rows.invariant in
    let before : HasCleanDisk (state g.S.Store c.rows.tx.conn.now) = omega (arith, c.put_post.ensures.survives.clean, clean) in
    let was = inv.4 before has in
    let why = c.in_err-put_post.ensures.cause clean was.schema (inv.3 before within) in
    let failed : c.from_residual.result ≡ Err c.in_err-put_post.field-0.0 = search rules in
    rw failed (put_failed c.args.rows.now c.rows.row-index _ _ _ _ _ (search rules) inv.1 was why)
