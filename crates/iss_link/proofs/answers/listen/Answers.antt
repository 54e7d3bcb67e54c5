use Rattle.std.proofs.Common.{rules, ◌≡◌, Option, Err, subst}
use Rattle.iss_channels.specs.Placed.{things_of}
use Rattle.iss_http.specs.declared.answers.Answer.{Answer}
use Rattle.iss_link.specs.Values.{subject_of}
use Rattle.iss_link.specs.Hearing.{ReadsLink, got_in}
use Rattle.iss_link.proofs.Listening.{listens_err, listens_ok}
use Rattle.iss_link.proofs.answers.listen.Goals as goal

pub returns-in_err-answer-clause-listens : goal.returns-in_err-answer-clause-listens
returns-in_err-answer-clause-listens g c =
    let failed : c.from_residual.result ≡ Err c.in_err-answer.field-0.0 = search rules in
    listens_err _ _ c.args.ch c.from_residual.result c.in_err-answer.field-0.0 _ _ _ _ _ c.take-got.new.buffer c.take-got.result failed c.take-got.ensures.room c.take-got.ensures.bound
    c.take-got.ensures.failed c.take-got.ensures.told

pub returns-in_err-said-clause-listens : goal.returns-in_err-said-clause-listens
returns-in_err-said-clause-listens g c =
    let failed : c.from_residual-in_err-said.result ≡ Err c.in_err-said.field-0.0 = search rules in
    listens_err _ _ c.args.ch c.from_residual-in_err-said.result c.in_err-said.field-0.0 _ _ _ _ _ c.take-got.new.buffer c.take-got.result failed c.take-got.ensures.room c.take-got.ensures.bound
    c.take-got.ensures.failed c.take-got.ensures.told

pub returns-clause-listens : goal.returns-clause-listens
returns-clause-listens g c =
    let reads = subst (λ (said : Option Answer). ReadsLink c.args.ch (got_in c.take-got.new.buffer c.take-got.result) (things_of c.args.links.now) (things_of c.read.new.links) said) c.in-Some.is c.in_ok-answer.ensures.reads in
    listens_ok c.args.instance (things_of c.args.links.now) (things_of c.read.new.links) (things_of c.remove.new.self) c.args.ch c.in_ok-said.said c.in-Some.answer (subject_of c.about-about.result)
    (g.E.Edge.channels c.args.edge.now) (g.E.Edge.faults c.args.edge.now) (g.E.Edge.faults c.take-got.new.edge) (g.E.Edge.faults c.close.new.self)
    (g.E.Edge.told c.args.edge.now) (g.E.Edge.told c.take-got.new.edge) (g.E.Edge.told c.close.new.self)
    (g.E.Edge.heard c.args.edge.now) (g.E.Edge.heard c.take-got.new.edge) (g.E.Edge.heard c.close.new.self)
    c.take-got.new.buffer c.take-got.result c.take-got.ensures.room c.take-got.ensures.bound c.take-got.ensures.failed c.take-got.ensures.later c.close.ensures.later
    c.take-got.ensures.told c.close.ensures.noted c.close.ensures.heard reads c.about-about.ensures c.in_ok-said.ensures c.remove.ensures
