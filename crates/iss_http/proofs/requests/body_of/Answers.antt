use Rattle.std.proofs.Common.{sym, ap, subst, ◌∙◌, Bor, List, ℕ}
use Rattle.iss_http.specs.declared.limits.TheConstants.{MOST_HEAD}
use Rattle.iss_http.specs.Heads.{request_head}
use Rattle.iss_http.specs.Requests.{IsHopelessRequest}
use Rattle.iss_http.proofs.Kept.{whole_fault, hopeless_cut}
use Rattle.iss_http.proofs.requests.body_of.Goals as goal

pub returns-in-Whole-clause-fault : goal.returns-in-Whole-clause-fault
returns-in-Whole-clause-fault c =
    whole_fault {A = Bor (List ℕ)} (λ text. text.now) c.args.path.now c.args.bytes.now _ c.body_behind.result
    (ap request_head (sym c.front-start.ensures) ∙ c.in-Whole.ensures.1) c.body_behind.ensures

pub returns-in-Hopeless-clause-fault : goal.returns-in-Hopeless-clause-fault
returns-in-Hopeless-clause-fault c = hopeless_cut MOST_HEAD c.args.bytes.now (subst IsHopelessRequest c.front-start.ensures c.in-Hopeless.ensures)
