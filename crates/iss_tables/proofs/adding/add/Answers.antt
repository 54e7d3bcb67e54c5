use Rattle.std.proofs.Common.{◌≡◌, inr, false, Err, IsTrue, refl, sym, subst, arith, rules, map}
use Rattle.sqlite.specs.State.{HasCleanDisk, Survives}
use Rattle.sqlite.specs.Effect.{Database}
use Rattle.sqlite.specs.Tree.{Trees}
use Rattle.sqlite.specs.Held.{state}
use Rattle.sqlite.proofs.StateLemmas.{survives_then}
use Rattle.sqlite.proofs.Callers.{survives_begin}
use Rattle.iss_tables.specs.Rows.{columns_of}
use Rattle.iss_tables.specs.Steps.{AddsAll, PutsPosts}
use Rattle.iss_tables.specs.Causes.{FailsToSet}
use Rattle.iss_tables.proofs.Unput.{set_failed, set_before}
use Rattle.iss_tables.specs.Tables.{archive_schema}
use Rattle.iss_tables.proofs.PostLemmas.{puts_schema, on_ok}
use Rattle.iss_tables.proofs.adding.add.Goals as goal

pub returns-clause-added : goal.returns-clause-added
returns-clause-added g c clean =
    let old = c.args.conn.now in
    let mid = c.put_posts.new.tx.conn.now in
    let last = c.set_head.new.tx.conn.now in
    let ran = λ (clean : HasCleanDisk (state g.S.Store last)) (has : old.schema ≡ archive_schema).
    let posts = c.in_ok-put_posts.ensures.puts (omega (arith, c.set_head.ensures.survives.clean)) (rw c.transaction-tx.ensures.begun has) in
    let sets = c.in_ok-set_head.ensures.sets clean (puts_schema _ _ _ (rw c.transaction-tx.ensures.begun has) posts) in
    let all : AddsAll (map columns_of c.args.rows.now) c.args.head.now (state g.S.Store old).now (state g.S.Store last).now = record { mid = (state g.S.Store mid).now; posts = rw c.transaction-tx.ensures.begun at posts; sets = sets } in all in
    let end = c.commit.new.self.0 in
    let same : end ≡ c.conn-2-1.given.0 = search rules in
    let late : HasCleanDisk (state g.S.Store end) = search rules in
    on_ok c.commit.result (c.commit.ensures.ok late) (λ it has.
    subst (λ h. AddsAll (map columns_of c.args.rows.now) c.args.head.now (state g.S.Store old).now (state g.S.Store h).now) same
    (subst (AddsAll (map columns_of c.args.rows.now) c.args.head.now (state g.S.Store old).now) (sym it.1.now_is) (ran (omega (arith, c.commit.ensures.survives.clean)) has)))

pub returns-clause-survives : goal.returns-clause-survives
returns-clause-survives g c has =
    let old = c.args.conn.now in
    let mid = c.put_posts.new.tx.conn.now in
    let last = c.set_head.new.tx.conn.now in
    let ran = λ (clean : HasCleanDisk (state g.S.Store last)).
    let posts = c.in_ok-put_posts.ensures.puts (omega (arith, c.set_head.ensures.survives.clean)) (rw c.transaction-tx.ensures.begun has) in
    let sets = c.in_ok-set_head.ensures.sets clean (puts_schema _ _ _ (rw c.transaction-tx.ensures.begun has) posts) in
    let all : AddsAll (map columns_of c.args.rows.now) c.args.head.now (state g.S.Store old).now (state g.S.Store last).now = record { mid = (state g.S.Store mid).now; posts = rw c.transaction-tx.ensures.begun at posts; sets = sets } in all in
    let inside = survives_then (state g.S.Store c.transaction-tx.result.conn.now) (state g.S.Store mid) (state g.S.Store last) (λ _. ⊥) (λ _. ⊥) (λ _. ⊥) (λ _ db none. none) (λ _ db none. none)
    c.put_posts.ensures.survives c.set_head.ensures.survives in
    let opened = λ (clean : HasCleanDisk (state g.S.Store last)).
    let last_open : IsTrue (state g.S.Store last).is_open = c.in_ok-set_head.ensures.opened clean in
    let mid_open : IsTrue (state g.S.Store mid).is_open = (c.set_head.ensures.kept clean).was_open last_open in
    let first_open : IsTrue (state g.S.Store old).is_open = rw c.transaction-tx.ensures.begun at ((c.put_posts.ensures.kept (omega (arith, c.set_head.ensures.survives.clean))).was_open mid_open) in first_open in
    let P = λ (trees : Trees). IsTrue (state g.S.Store old).is_open × (db : Database) × AddsAll (map columns_of c.args.rows.now) c.args.head.now (state g.S.Store old).now db × (trees ≡ db.trees) in
    let whole = survives_then (state g.S.Store old) (state g.S.Store last) (state g.S.Store c.commit.new.self.0) _ _ P (λ _ db none. absurd none)
    (λ clean db is. (opened (omega (arith, c.commit.ensures.survives.clean)), _, ran (omega (arith, c.commit.ensures.survives.clean)), is)) (survives_begin g.S.Store old (state g.S.Store last) _ (rw c.transaction-tx.ensures.begun at inside)) c.commit.ensures.survives in
    let same : c.commit.new.self.0 ≡ c.conn-2-1.given.0 = search rules in
    subst (λ h. Survives (state g.S.Store old) (state g.S.Store h) P) same whole

pub returns-in_err-set_head-clause-cause : goal.returns-in_err-set_head-clause-cause
returns-in_err-set_head-clause-cause g c clean has =
    let old = c.args.conn.now in
    let mid = c.put_posts.new.tx.conn.now in
    let last = c.set_head.new.tx.conn.now in
    let end = c.drop-tx-in_err-set_head.new.self.0 in
    let begun = c.transaction-tx.ensures.begun in
    let same : end ≡ c.conn-in_err-set_head-1.given.0 = search rules in
    let late : HasCleanDisk (state g.S.Store end) = subst (λ h. HasCleanDisk (state g.S.Store h)) (sym same) clean in
    let last_clean : HasCleanDisk (state g.S.Store last) = omega (arith, c.drop-tx-in_err-set_head.ensures.survives.clean, late) in
    let mid_clean : HasCleanDisk (state g.S.Store mid) = omega (arith, c.set_head.ensures.survives.clean, last_clean) in
    let posts = c.in_ok-put_posts.ensures.puts mid_clean (rw begun has) in
    let puts : PutsPosts (map columns_of c.args.rows.now) (state g.S.Store old).now (state g.S.Store mid).now = rw begun at posts in
    let shut : (state g.S.Store mid).is_open ≡ false → (state g.S.Store old).is_open ≡ false = rw begun at (c.in_ok-put_posts.ensures.shut mid_clean (rw begun has)) in
    let inside : IsTrue (state g.S.Store mid).in_transaction = c.in_ok-put_posts.ensures.stays mid_clean (rw begun refl) in
    let why = c.in_err-set_head.ensures.cause last_clean (puts_schema _ _ _ (rw begun has) posts) inside in
    let went : Survives (state g.S.Store old) (state g.S.Store mid) (λ _. ⊥) =
    survives_begin g.S.Store old (state g.S.Store mid) (λ _. ⊥) (rw begun at c.put_posts.ensures.survives) in
    let unset = set_failed (map columns_of c.args.rows.now) c.args.head.now (state g.S.Store old) (state g.S.Store mid) (state g.S.Store last) _ went shut puts why in
    let whole = set_before c.args.head.now (state g.S.Store old) (state g.S.Store last) (state g.S.Store end) _ c.drop-tx-in_err-set_head.ensures.survives.counts unset in
    let failed : c.from_residual-in_err-set_head.result ≡ Err c.in_err-set_head.field-0.0 = search rules in
    rw failed (inr (subst (λ h. FailsToSet c.args.head.now (state g.S.Store old) (state g.S.Store h) c.in_err-set_head.field-0.0) same whole))
