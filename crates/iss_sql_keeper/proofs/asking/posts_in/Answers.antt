use Rattle.std.proofs.Common.{◌≡◌, rules}
use Rattle.sqlite.specs.Held.{state}
use Rattle.iss_sql_keeper.proofs.ShownLemmas.{gives_held}
use Rattle.iss_sql_keeper.proofs.TellingLemmas.{told_anyway}
use Rattle.iss_sql_keeper.proofs.asking.posts_in.Goals as goal

pub returns-clause-read : goal.returns-clause-read
returns-clause-read g c =
    let same : c.as_slice.result.now ≡ c.in_ok-shown.shown.items = search rules in
    gives_held _ c.account_for.result c.args.user.now c.args.currency _ _ c.stated.result c.account_for.ensures same c.in_ok-shown.ensures.shown c.stated.ensures.read c.stated.ensures.users c.stated.ensures.statable

pub returns-clause-telling : goal.returns-clause-telling
returns-clause-telling g c = told_anyway c.stated.result (state g.S.Store c.ask_posts.new.conn) c.in_ok-shown.ensures.telling
