use Rattle.std.proofs.Common.{rules, ◌≡◌, ◌<◌, ◌≤◌, ◌-◌, length, Err, arith}
use Rattle.iss_journal.proofs.Formats.{Sized}
use Rattle.iss_halves.specs.Halves.{half_size}
use Rattle.iss_halves.specs.Making.{halves_tail}
use Rattle.iss_opening.specs.Values.{StoreNow}
use Rattle.iss_follow_runs.specs.declared.stop.Stop.TheVariants as stop
use Rattle.iss_follow_runs.specs.Statuses.{stop_of_opening}
use Rattle.iss_follow_runs.specs.Holdings.{image_of}
use Rattle.iss_follow_copy.proofs.Exits.{copy_other_size, copy_unopened, copy_no_memory, copy_no_room, copy_all, copy_failed}
use Rattle.iss_follow_copy.proofs.Tails.{tail_fits}
use Rattle.iss_follow_copy.proofs.copying.copy.Goals as goal

pub returns-then-size-clause-done : goal.returns-then-size-clause-done
returns-then-size-clause-done g c =
    let other : (g.T.Edge.extent c.args.to.now ≡ c.args.size → ⊥) = search rules in
    copy_other_size c.args.size (g.T.Edge.extent c.args.to.now) (g.F.Edge.faults c.args.from.now) (g.T.Edge.faults c.args.to.now) (g.F.Edge.told c.args.from.now) (g.T.Edge.told c.args.to.now) other

pub returns-in_err-opened-clause-done : goal.returns-in_err-opened-clause-done
returns-in_err-opened-clause-done g c =
    let same : g.T.Edge.extent c.args.to.now ≡ c.args.size = search rules in
    let failed : c.from_residual.result ≡ Err (stop_of_opening c.in_err-opened.field-0.0) = search rules in
    rw failed (
    copy_unopened StoreNow c.in_err-opened.field-0.0 c.args.size (g.T.Edge.extent c.args.to.now) (g.F.Edge.faults c.args.from.now) (g.F.Edge.faults c.open.new.edge) (g.T.Edge.faults c.args.to.now)
    (g.F.Edge.told c.args.from.now) (g.F.Edge.told c.open.new.edge) (g.T.Edge.told c.args.to.now) same
    c.in_err-opened.ensures.opens c.in_err-opened.ensures.moments c.in_err-opened.ensures.refused c.in_err-opened.ensures.cause
    )

pub returns-in_err-image-clause-done : goal.returns-in_err-image-clause-done
returns-in_err-image-clause-done g c =
    let same : g.T.Edge.extent c.args.to.now ≡ c.args.size = search rules in
    let failed : c.from_residual-in_err-image.result ≡ Err stop.Memory = search rules in
    rw failed (
    copy_no_memory c.in_ok-opened.opened c.args.size (g.T.Edge.extent c.args.to.now) (g.F.Edge.faults c.args.from.now) (g.F.Edge.faults c.open.new.edge)
    (g.F.Edge.told c.args.from.now) (g.F.Edge.told c.open.new.edge) same c.in_ok-opened.ensures.opened (g.T.Edge.faults c.args.to.now) (g.T.Edge.told c.args.to.now) c.in_ok-opened.ensures.cause.later
    )

pub returns-then-room_of-len-clause-done : goal.returns-then-room_of-len-clause-done
returns-then-room_of-len-clause-done g c =
    let same : g.T.Edge.extent c.args.to.now ≡ c.args.size = search rules in
    let is : c.in_ok-image.image.items ≡ image_of c.in_ok-opened.opened.core = search rules in
    let room : half_size c.args.size - 5 < length c.in_ok-image.image.items = search rules in
    copy_no_room c.in_ok-opened.opened c.args.size (g.T.Edge.extent c.args.to.now) (g.F.Edge.faults c.args.from.now) (g.F.Edge.faults c.open.new.edge)
    (g.F.Edge.told c.args.from.now) (g.F.Edge.told c.open.new.edge) same c.in_ok-opened.ensures.opened c.in_ok-image.image.items is (g.T.Edge.faults c.args.to.now) (g.T.Edge.told c.args.to.now) (omega (arith, room)) c.in_ok-opened.ensures.cause.later

pub returns-in_err-tail-clause-done : goal.returns-in_err-tail-clause-done
returns-in_err-tail-clause-done g c =
    let same : g.T.Edge.extent c.args.to.now ≡ c.args.size = search rules in
    let failed : c.from_residual-in_err-tail.result ≡ Err stop.Memory = search rules in
    rw failed (
    copy_no_memory c.in_ok-opened.opened c.args.size (g.T.Edge.extent c.args.to.now) (g.F.Edge.faults c.args.from.now) (g.F.Edge.faults c.open.new.edge)
    (g.F.Edge.told c.args.from.now) (g.F.Edge.told c.open.new.edge) same c.in_ok-opened.ensures.opened (g.T.Edge.faults c.args.to.now) (g.T.Edge.told c.args.to.now) c.in_ok-opened.ensures.cause.later
    )

pub make-requires : goal.make-requires
make-requires g c =
    let same : g.T.Edge.extent c.args.to.now ≡ c.args.size = search rules in
    let fits : length c.in_ok-image.image.items ≤ half_size c.args.size - 5 = search rules in
    let spelled : c.in_ok-tail.tail.items ≡ halves_tail c.in_ok-opened.opened.core.instance c.in_ok-image.image.items = search rules in
    record { room = omega (arith, same, tail_fits c.args.size c.in_ok-opened.opened.core.instance c.in_ok-image.image.items c.in_ok-tail.tail.items c.requires.least fits spelled) }

pub returns-in-Ok-clause-done : goal.returns-in-Ok-clause-done
returns-in-Ok-clause-done g c =
    let same : g.T.Edge.extent c.args.to.now ≡ c.args.size = search rules in
    let is : c.in_ok-image.image.items ≡ image_of c.in_ok-opened.opened.core = search rules in
    let fits : length c.in_ok-image.image.items ≤ half_size c.args.size - 5 = search rules in
    let spelled : c.as_slice-2.result.now ≡ halves_tail c.in_ok-opened.opened.core.instance c.in_ok-image.image.items = search rules in
    let sized : Sized (g.T.Edge.extent c.args.to.now) (g.T.Edge.told c.args.to.now) = search rules in
    copy_all c.in_ok-opened.opened c.args.size (g.T.Edge.extent c.args.to.now) (g.F.Edge.faults c.args.from.now) (g.F.Edge.faults c.open.new.edge)
    (g.F.Edge.told c.args.from.now) (g.F.Edge.told c.open.new.edge) same c.in_ok-opened.ensures.opened c.in_ok-image.image.items is c.as_slice-2.result.now
    (g.T.Edge.faults c.args.to.now) (g.T.Edge.faults c.make.new.edge) (g.T.Edge.told c.args.to.now) (g.T.Edge.told c.make.new.edge)
    c.requires.least c.requires.most (omega (arith, fits, c.requires.least)) spelled sized c.in_ok-opened.ensures.cause.later
    (rw c.in-Ok.is at c.make.ensures.cause) c.make.ensures.moments (rw c.in-Ok.is at c.make.ensures.made)

pub returns-clause-done : goal.returns-clause-done
returns-clause-done g c =
    let same : g.T.Edge.extent c.args.to.now ≡ c.args.size = search rules in
    let is : c.in_ok-image.image.items ≡ image_of c.in_ok-opened.opened.core = search rules in
    let fits : length c.in_ok-image.image.items ≤ half_size c.args.size - 5 = search rules in
    let spelled : c.as_slice-2.result.now ≡ halves_tail c.in_ok-opened.opened.core.instance c.in_ok-image.image.items = search rules in
    let sized : Sized (g.T.Edge.extent c.args.to.now) (g.T.Edge.told c.args.to.now) = search rules in
    copy_failed c.in_ok-opened.opened c.args.size (g.T.Edge.extent c.args.to.now) (g.F.Edge.faults c.args.from.now) (g.F.Edge.faults c.open.new.edge)
    (g.F.Edge.told c.args.from.now) (g.F.Edge.told c.open.new.edge) same c.in_ok-opened.ensures.opened c.in_ok-image.image.items is c.as_slice-2.result.now
    (g.T.Edge.faults c.args.to.now) (g.T.Edge.faults c.make.new.edge) (g.T.Edge.told c.args.to.now) (g.T.Edge.told c.make.new.edge)
    c.requires.least c.requires.most (omega (arith, fits, c.requires.least)) spelled sized c.in-Err.field-0 c.in_ok-opened.ensures.cause.later
    (rw c.in-Err.is at c.make.ensures.alone) (rw c.in-Err.is at c.make.ensures.cause) c.make.ensures.moments
