use Rattle.sqlite.specs.Held.{state}
use Rattle.iss_sql_keeper.proofs.ShownLemmas.{head_told}
use Rattle.iss_sql_keeper.proofs.RefusedLemmas.{anyway_ok, head_is_read, head_was}
use Rattle.iss_sql_keeper.proofs.TellingLemmas.{told_anyway}
use Rattle.iss_sql_keeper.proofs.asking.head_in.Goals as goal

pub returns-clause-read : goal.returns-clause-read
returns-clause-read g c = head_told _ c.in_ok-columns.columns c.read.result c.read.ensures.value c.in_ok-columns.ensures.read

pub returns-clause-telling : goal.returns-clause-telling
returns-clause-telling g c = told_anyway c.read.result (state g.S.Store c.ask_head.new.conn) c.in_ok-columns.ensures.telling

pub returns-clause-was : goal.returns-clause-was
returns-clause-was g c clean ours = head_was (state g.S.Store c.args.conn.now).now.trees c.in_ok-columns.columns c.read.result c.read.ensures.value (c.in_ok-columns.ensures.was clean ours)

pub returns-clause-done : goal.returns-clause-done
returns-clause-done g c clean ours = anyway_ok c.read.result _ (c.in_ok-columns.ensures.done clean ours)

pub returns-clause-cause : goal.returns-clause-cause
returns-clause-cause g c holds clean ours = head_is_read (state g.S.Store c.args.conn.now).now.trees c.in_ok-columns.columns c.read.result _ holds (c.in_ok-columns.ensures.was clean ours) c.read.ensures.odd
