use Rattle.std.proofs.Common.{◌≤◌, ◌<◌, length, string_bytes, arith, rules}
use Rattle.std.proofs.lemmas.Bool.{ltb-true, ltb-false}
use Rattle.std.proofs.lemmas.Bool.Decides.{nat_tests}
use Rattle.iss_statement.proofs.Counts.{fewer, five_or_more}
use Rattle.iss_statement.proofs.words.statement_words.Goals as goal
use Rattle.iss_statement.proofs.words.statement_words.Goals.{in_default-via-then-words-lt4, in_default-via-else-words-lt4+else-words-lt5}

pub returns-in_default : goal.returns-in_default
returns-in_default c =
    elim c.in_default.branch [
      | in_default-via-then-words-lt4 w ↦ let few : length c.args.words.now < 4 = first_of (omega (arith, ltb-true), omega (arith, w, ltb-true), grind (arith, nat_tests), search rules) in fewer string_bytes c.args.words.now few
      | in_default-via-else-words-lt4+else-words-lt5 w ↦ let many : 5 ≤ length c.args.words.now = first_of (omega (arith, ltb-false), omega (arith, w, ltb-false), grind (arith, nat_tests), search rules) in five_or_more string_bytes c.args.words.now many
    ]
