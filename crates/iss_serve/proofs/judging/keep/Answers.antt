use Rattle.std.proofs.Common.{◌≡◌, ◌∷◌, Bool, Err, inl, sym, ap, subst, ◌∙◌, rules}
use Rattle.iss_edge.specs.Outer.{outer_of}
use Rattle.iss_edge.specs.World.{Told}
use Rattle.iss_halves.specs.Forms.{Form}
use Rattle.iss_store.specs.Serving.{tasks_of_record}
use Rattle.iss_serve.specs.Causes.{fault_of_store, IsOfDisk}
use Rattle.iss_serve.specs.Held.{seen_held, queued_as, sending, to_judge}
use Rattle.iss_serve.specs.Judged.{judged_again, waiting_for}
use Rattle.iss_serve.specs.Runs.{ServesSome}
use Rattle.iss_serve.proofs.Causings.{anyhow, caused_commit}
use Rattle.iss_serve.proofs.Judgements.{same_form}
use Rattle.iss_serve.proofs.Keeps.{told_not_kept, told_unwaited, told_kept_some, told_kept, less_there}
use Rattle.iss_serve.proofs.Stages.{told_some_never}
use Rattle.iss_serve.proofs.Loops.{still_then, still_is}
use Rattle.iss_serve.proofs.judging.keep.Goals as goal

pub returns-in_err-next-clause-part : goal.returns-in_err-next-clause-part
returns-in_err-next-clause-part g c = λ rest.
    let h = seen_held c.args.held.now in
    let q = queued_as c.args.queued.now in
    let x = outer_of (g.E.Edge.told c.args.edge.now) (g.E.Edge.heard c.args.edge.now) in
    let y = outer_of (g.E.Edge.told c.commit.new.edge) (g.E.Edge.heard c.commit.new.edge) in
    let failed : c.from_residual.result ≡ Err (fault_of_store c.in_err-next.field-0.0) = search rules in
    rw failed
    (told_not_kept c.in_err-next.field-0.0 c.args.store h q rest c.args.planned c.requires.planned_for (g.E.Edge.told c.args.edge.now) (g.E.Edge.told c.commit.new.edge) (g.E.Edge.heard c.args.edge.now) (g.E.Edge.heard c.commit.new.edge)
    c.commit.ensures.heard c.in_err-next.ensures.moments c.in_err-next.ensures.lasts)

pub returns-in_err-next-clause-caused : goal.returns-in_err-next-clause-caused
returns-in_err-next-clause-caused g c =
    let failed : c.from_residual.result ≡ Err (fault_of_store c.in_err-next.field-0.0) = search rules in
    rw failed (caused_commit (g.E.Edge.faults c.args.edge.now) (g.E.Edge.faults c.commit.new.edge) c.in_err-next.field-0.0 _ c.in_err-next.ensures.cause c.in_err-next.ensures.lasts)

pub returns-in_err-wait_for-clause-part : goal.returns-in_err-wait_for-clause-part
returns-in_err-wait_for-clause-part g c = λ rest.
    let h = seen_held c.args.held.now in
    let q = queued_as c.args.queued.now in
    let x = outer_of (g.E.Edge.told c.args.edge.now) (g.E.Edge.heard c.args.edge.now) in
    let y = outer_of (g.E.Edge.told c.commit.new.edge) (g.E.Edge.heard c.commit.new.edge) in
    anyhow c.from_residual-in_err-wait_for.result (λ why. Told (ServesSome (IsOfDisk why) (to_judge c.args.store h (q ∷ rest))) x y)
    (λ why. told_unwaited c.args.store h q rest c.args.planned c.requires.planned_for (g.E.Edge.told c.args.edge.now) (g.E.Edge.told c.commit.new.edge) (g.E.Edge.heard c.args.edge.now) (g.E.Edge.heard c.commit.new.edge)
    c.commit.ensures.heard c.in_ok-next.next c.in_ok-next.durable c.in_ok-next.ensures.committed c.in_ok-next.ensures.on_book c.in_ok-next.ensures.lasts (IsOfDisk why))

pub returns-in_err-release-clause-part : goal.returns-in_err-release-clause-part
returns-in_err-release-clause-part g c = λ rest.
    let h = seen_held c.args.held.now in
    let q = queued_as c.args.queued.now in
    let waits = seen_held c.wait_for.new.self in
    let is = subst (λ (b : Bool). waits ≡ waiting_for q b h) c.more-more.ensures c.in_ok-wait_for.ensures.now in
    let x = outer_of (g.E.Edge.told c.args.edge.now) (g.E.Edge.heard c.args.edge.now) in
    let z = outer_of (g.E.Edge.told c.release.new.edge) (g.E.Edge.heard c.release.new.edge) in
    anyhow c.from_residual-in_err-release.result (λ why. Told (ServesSome (IsOfDisk why) (to_judge c.args.store h (q ∷ rest))) x z)
    (λ why. told_kept_some c.args.store h q rest c.args.planned c.requires.planned_for (g.E.Edge.told c.args.edge.now) (g.E.Edge.told c.commit.new.edge) (g.E.Edge.heard c.args.edge.now) (g.E.Edge.heard c.commit.new.edge)
    c.commit.ensures.heard c.in_ok-next.next c.in_ok-next.durable c.in_ok-next.ensures.committed c.in_ok-next.ensures.on_book c.in_ok-next.ensures.lasts waits is z (IsOfDisk why)
    (told_some_never (IsOfDisk why) (sending c.in_ok-next.next waits (judged_again c.args.planned.is_clock q rest) (tasks_of_record c.in_ok-next.next c.in_ok-next.durable waits.served)) _ z
    (c.in_err-release.ensures.part (judged_again c.args.planned.is_clock q rest))))

pub returns-clause-judged : goal.returns-clause-judged
returns-clause-judged g c = λ rest.
    let h = seen_held c.args.held.now in
    let q = queued_as c.args.queued.now in
    let waits = seen_held c.wait_for.new.self in
    let is = subst (λ (b : Bool). waits ≡ waiting_for q b h) c.more-more.ensures c.in_ok-wait_for.ensures.now in
    let z = outer_of (g.E.Edge.told c.release.new.edge) (g.E.Edge.heard c.release.new.edge) in
    told_kept c.args.store h q rest c.args.planned c.requires.planned_for (g.E.Edge.told c.args.edge.now) (g.E.Edge.told c.commit.new.edge) (g.E.Edge.heard c.args.edge.now) (g.E.Edge.heard c.commit.new.edge)
    c.commit.ensures.heard c.in_ok-next.next c.in_ok-next.durable c.in_ok-next.ensures.committed c.in_ok-next.ensures.on_book c.in_ok-next.ensures.lasts waits is z
    (seen_held c.release.new.held) (c.in_ok-release.ensures.released (judged_again c.args.planned.is_clock q rest))

pub returns-clause-judges : goal.returns-clause-judges
returns-clause-judges g c =
    let still = still_then c.args.held.now c.wait_for.new.self c.release.new.held c.in_ok-wait_for.ensures.still c.in_ok-release.ensures.still in
    record {
      held = still_is c.args.held.now c.release.new.held c.requires.held still;
      instance = still.instance ∙ c.requires.instance ∙ sym c.in_ok-next.ensures.committed.stepped.kept;
      turns = still.turns;
      size = ap (λ (form : Form). form.size) (same_form c.args.store c.in_ok-next.next c.args.planned c.in_ok-next.durable c.in_ok-next.ensures.committed);
      moves = inl (less_there c.args.store c.in_ok-next.next c.args.planned c.in_ok-next.durable c.in_ok-next.ensures.committed);
    }

pub returns-clause-less : goal.returns-clause-less
returns-clause-less g c = less_there c.args.store c.in_ok-next.next c.args.planned c.in_ok-next.durable c.in_ok-next.ensures.committed
