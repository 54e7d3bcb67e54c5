use Rattle.std.proofs.Common.{subst, inr}
use Rattle.iss_http.specs.declared.limits.TheConstants.{MOST_HEAD}
use Rattle.iss_http.specs.Answers.{IsHopelessAnswer}
use Rattle.iss_http.proofs.KeptAnswers.{hopeless_cut}
use Rattle.iss_http.proofs.answers.read.Goals as goal

pub returns-in-Hopeless : goal.returns-in-Hopeless
returns-in-Hopeless c = inr (hopeless_cut MOST_HEAD c.args.bytes.now (subst IsHopelessAnswer c.front-start.ensures c.in-Hopeless.ensures))
