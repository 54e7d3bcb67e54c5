use Rattle.std.proofs.Common.{◌≡◌, ◌≤◌, ◌<◌, length, ◌∙◌, arith, rules}
use Rattle.std.proofs.lemmas.Bool.{ltb-true, ltb-false}
use Rattle.std.proofs.lemmas.Bool.Decides.{nat_tests}
use Rattle.iss_archive_run.proofs.WordLaws.{said_of}
use Rattle.iss_archive_run.proofs.words.said.Goals as goal
use Rattle.iss_archive_run.proofs.words.said.Goals.{then-words-lt3, else-words-lt3+else-words-lt4}

pub returns-in-len2-up : goal.returns-in-len2-up
returns-in-len2-up c =
    let low : 2 ≤ length c.args.words.now = first_of (omega (arith, ltb-false), grind (arith, nat_tests), search rules) in
    let other : length c.args.words.now ≡ 3 → ⊥ =
    elim c.in-len2-up-1.branch [
      | then-words-lt3 w ↦ let few : length c.args.words.now < 3 = first_of (omega (arith, ltb-true), omega (arith, w, ltb-true), grind (arith, nat_tests), search rules) in λ e. omega (arith, few, e)
      | else-words-lt3+else-words-lt4 w ↦ let many : 4 ≤ length c.args.words.now = first_of (omega (arith, ltb-false), omega (arith, w, ltb-false), grind (arith, nat_tests), search rules) in λ e. omega (arith, many, e)
    ] in
    c.statement_said.ensures
    ∙ said_of c.args.words.now c.name-item-2.result c.database-item-2.result c.as_str-in-len2-up.result.now c.as_bytes-in-len2-up.result.now low other c.name-item-2.is c.database-item-2.is
    c.as_str-in-len2-up.ensures.value c.as_bytes-in-len2-up.ensures.value
