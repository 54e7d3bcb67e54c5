use Rattle.std.proofs.Common.{rules, ◌≡◌, false, Ok, Err, refl}
use Rattle.iss_archive_run.specs.declared.stop.Stop.TheVariants as stop
use Rattle.iss_archive_run.specs.Statuses.{stop_of_opening, stop_of_keeping}
use Rattle.iss_archive_run.specs.Lines.{archived_line}
use Rattle.iss_archive_run.proofs.Exits.{kept_on, no_memory, sent, unfit, unfit_so, unkept, unopened, unsent, untouched_keeping, untouched_opening}
use Rattle.iss_archive_run.proofs.Exact.{exactly}
use Rattle.iss_archive_run.proofs.keeping.keep.Goals as goal

pub returns-in_err-opened-clause-done : goal.returns-in_err-opened-clause-done
returns-in_err-opened-clause-done g c =
    let failed : c.from_residual.result ≡ Err (stop_of_opening c.in_err-opened.field-0.0) = search rules in
    rw failed (
    exactly (unopened c.in_err-opened.field-0.0 (g.E.Edge.faults c.args.edge.now) (g.E.Edge.faults c.open_steps.new.edge) (g.E.Edge.told c.args.edge.now) (g.E.Edge.told c.open_steps.new.edge)
    (g.K.Keeper.faults c.args.keeper.now) (g.K.Keeper.told c.args.keeper.now) (g.K.Keeper.left c.args.keeper.now)
    c.in_err-opened.ensures.fault c.in_err-opened.ensures.moments c.in_err-opened.ensures.refused c.in_err-opened.ensures.cause)
    )

pub returns-in_err-opened-clause-untouched : goal.returns-in_err-opened-clause-untouched
returns-in_err-opened-clause-untouched g c =
    let failed : c.from_residual.result ≡ Err (stop_of_opening c.in_err-opened.field-0.0) = search rules in
    rw failed (untouched_opening c.in_err-opened.field-0.0 _ refl)

pub returns-then-not-are_all-clause-done : goal.returns-then-not-are_all-clause-done
returns-then-not-are_all-clause-done g c =
    let s = c.in_ok-opened.opened in
    let list = c.in_ok-opened.steps.items in
    let x = g.E.Edge.told c.args.edge.now in
    let y = g.E.Edge.told c.open_steps.new.edge in
    let before = g.E.Edge.faults c.args.edge.now in
    let now = g.E.Edge.faults c.open_steps.new.edge in
    let told = c.in_ok-opened.ensures.opened in
    let later = c.in_ok-opened.ensures.cause.later in
    let point : c.into_parts-core.result.3 ≡ c.in_ok-opened.opened.point = search rules in
    let count : c.count.result ≡ c.in_ok-opened.opened.core.state.count = search rules in
    let same : c.as_slice.result.now ≡ c.in_ok-opened.steps.items = search rules in
    let unfitting : c.are_all.result ≡ false = search rules in
    exactly (unfit s list before now x y told later (g.K.Keeper.faults c.args.keeper.now) (g.K.Keeper.told c.args.keeper.now) (g.K.Keeper.left c.args.keeper.now)
    (unfit_so c.are_all.result c.into_parts-core.result.3 s.point c.count.result s.core.state.count c.as_slice.result.now list unfitting c.are_all.ensures.value point count same))

pub returns-in_err-head-clause-done : goal.returns-in_err-head-clause-done
returns-in_err-head-clause-done g c =
    let s = c.in_ok-opened.opened in
    let list = c.in_ok-opened.steps.items in
    let x = g.E.Edge.told c.args.edge.now in
    let y = g.E.Edge.told c.open_steps.new.edge in
    let before = g.E.Edge.faults c.args.edge.now in
    let now = g.E.Edge.faults c.open_steps.new.edge in
    let told = c.in_ok-opened.ensures.opened in
    let later = c.in_ok-opened.ensures.cause.later in
    let v = g.K.Keeper.told c.args.keeper.now in
    let w = g.K.Keeper.told c.keep_steps.new.keeper in
    let l = g.K.Keeper.left c.args.keeper.now in
    let m = g.K.Keeper.left c.keep_steps.new.keeper in
    let i = g.K.Keeper.faults c.args.keeper.now in
    let j = g.K.Keeper.faults c.keep_steps.new.keeper in
    let instance : c.instance.result ≡ c.in_ok-opened.opened.core.instance = search rules in
    let point : c.into_parts-core.result.3 ≡ c.in_ok-opened.opened.point = search rules in
    let same : c.as_slice-2.result.now ≡ c.in_ok-opened.steps.items = search rules in
    let k = kept_on c.instance.result s.core.instance c.into_parts-core.result.3 s.point c.as_slice-2.result.now list i j v w l m c.keep_steps.result instance point same (record {
      up = c.keep_steps.ensures.kept;
      leaves = c.keep_steps.ensures.stop;
      whole = c.keep_steps.ensures.whole;
      why = c.keep_steps.ensures.cause;
      later = c.keep_steps.ensures.later;
    }) in
    let failed : c.from_residual-in_err-head.result ≡ Err (stop_of_keeping c.in_err-head.field-0.0) = search rules in
    let fault : c.keep_steps.result ≡ Err c.in_err-head.field-0.0 = search rules in
    rw failed (exactly (unkept s list before now x y told later i j v w l m c.keep_steps.result k c.in_err-head.field-0.0 fault c.keep_steps.ensures.keeper))

pub returns-in_err-head-clause-untouched : goal.returns-in_err-head-clause-untouched
returns-in_err-head-clause-untouched g c =
    let failed : c.from_residual-in_err-head.result ≡ Err (stop_of_keeping c.in_err-head.field-0.0) = search rules in
    rw failed (untouched_keeping c.in_err-head.field-0.0 _)

pub returns-in_err-line-clause-done : goal.returns-in_err-line-clause-done
returns-in_err-line-clause-done g c =
    let s = c.in_ok-opened.opened in
    let list = c.in_ok-opened.steps.items in
    let x = g.E.Edge.told c.args.edge.now in
    let y = g.E.Edge.told c.open_steps.new.edge in
    let before = g.E.Edge.faults c.args.edge.now in
    let now = g.E.Edge.faults c.open_steps.new.edge in
    let told = c.in_ok-opened.ensures.opened in
    let later = c.in_ok-opened.ensures.cause.later in
    let v = g.K.Keeper.told c.args.keeper.now in
    let w = g.K.Keeper.told c.keep_steps.new.keeper in
    let l = g.K.Keeper.left c.args.keeper.now in
    let m = g.K.Keeper.left c.keep_steps.new.keeper in
    let i = g.K.Keeper.faults c.args.keeper.now in
    let j = g.K.Keeper.faults c.keep_steps.new.keeper in
    let instance : c.instance.result ≡ c.in_ok-opened.opened.core.instance = search rules in
    let point : c.into_parts-core.result.3 ≡ c.in_ok-opened.opened.point = search rules in
    let same : c.as_slice-2.result.now ≡ c.in_ok-opened.steps.items = search rules in
    let k = kept_on c.instance.result s.core.instance c.into_parts-core.result.3 s.point c.as_slice-2.result.now list i j v w l m c.keep_steps.result instance point same (record {
      up = c.keep_steps.ensures.kept;
      leaves = c.keep_steps.ensures.stop;
      whole = c.keep_steps.ensures.whole;
      why = c.keep_steps.ensures.cause;
      later = c.keep_steps.ensures.later;
    }) in
    let head : c.keep_steps.result ≡ Ok c.in_ok-head.head = search rules in
    let failed : c.from_residual-in_err-line.result ≡ Err stop.Memory = search rules in
    rw failed (exactly (no_memory s list before now x y told later i j v w l m c.keep_steps.result k c.in_ok-head.head head))

pub returns-in-Ok-clause-done : goal.returns-in-Ok-clause-done
returns-in-Ok-clause-done g c =
    let s = c.in_ok-opened.opened in
    let list = c.in_ok-opened.steps.items in
    let x = g.E.Edge.told c.args.edge.now in
    let y = g.E.Edge.told c.open_steps.new.edge in
    let before = g.E.Edge.faults c.args.edge.now in
    let now = g.E.Edge.faults c.open_steps.new.edge in
    let told = c.in_ok-opened.ensures.opened in
    let later = c.in_ok-opened.ensures.cause.later in
    let v = g.K.Keeper.told c.args.keeper.now in
    let w = g.K.Keeper.told c.keep_steps.new.keeper in
    let l = g.K.Keeper.left c.args.keeper.now in
    let m = g.K.Keeper.left c.keep_steps.new.keeper in
    let i = g.K.Keeper.faults c.args.keeper.now in
    let j = g.K.Keeper.faults c.keep_steps.new.keeper in
    let instance : c.instance.result ≡ c.in_ok-opened.opened.core.instance = search rules in
    let point : c.into_parts-core.result.3 ≡ c.in_ok-opened.opened.point = search rules in
    let same : c.as_slice-2.result.now ≡ c.in_ok-opened.steps.items = search rules in
    let k = kept_on c.instance.result s.core.instance c.into_parts-core.result.3 s.point c.as_slice-2.result.now list i j v w l m c.keep_steps.result instance point same (record {
      up = c.keep_steps.ensures.kept;
      leaves = c.keep_steps.ensures.stop;
      whole = c.keep_steps.ensures.whole;
      why = c.keep_steps.ensures.cause;
      later = c.keep_steps.ensures.later;
    }) in
    let head : c.keep_steps.result ≡ Ok c.in_ok-head.head = search rules in
    let is : c.as_slice-3.result.now ≡ archived_line c.posts_in.result c.in_ok-opened.opened.core.state.count = search rules in
    exactly (sent s list before now x y told later i j v w l m c.keep_steps.result k c.in_ok-head.head head (record { 0 = 0 }) c.as_slice-3.result.now (g.E.Edge.faults c.emit.new.self) (g.E.Edge.told c.emit.new.self)
    c.emit.ensures.cause.later c.posts_in.result c.posts_in.ensures refl is (rw c.in-Ok.is at c.emit.ensures.emitted))

pub returns-clause-done : goal.returns-clause-done
returns-clause-done g c =
    let s = c.in_ok-opened.opened in
    let list = c.in_ok-opened.steps.items in
    let x = g.E.Edge.told c.args.edge.now in
    let y = g.E.Edge.told c.open_steps.new.edge in
    let before = g.E.Edge.faults c.args.edge.now in
    let now = g.E.Edge.faults c.open_steps.new.edge in
    let told = c.in_ok-opened.ensures.opened in
    let later = c.in_ok-opened.ensures.cause.later in
    let v = g.K.Keeper.told c.args.keeper.now in
    let w = g.K.Keeper.told c.keep_steps.new.keeper in
    let l = g.K.Keeper.left c.args.keeper.now in
    let m = g.K.Keeper.left c.keep_steps.new.keeper in
    let i = g.K.Keeper.faults c.args.keeper.now in
    let j = g.K.Keeper.faults c.keep_steps.new.keeper in
    let instance : c.instance.result ≡ c.in_ok-opened.opened.core.instance = search rules in
    let point : c.into_parts-core.result.3 ≡ c.in_ok-opened.opened.point = search rules in
    let same : c.as_slice-2.result.now ≡ c.in_ok-opened.steps.items = search rules in
    let k = kept_on c.instance.result s.core.instance c.into_parts-core.result.3 s.point c.as_slice-2.result.now list i j v w l m c.keep_steps.result instance point same (record {
      up = c.keep_steps.ensures.kept;
      leaves = c.keep_steps.ensures.stop;
      whole = c.keep_steps.ensures.whole;
      why = c.keep_steps.ensures.cause;
      later = c.keep_steps.ensures.later;
    }) in
    let head : c.keep_steps.result ≡ Ok c.in_ok-head.head = search rules in
    let is : c.as_slice-3.result.now ≡ archived_line c.posts_in.result c.in_ok-opened.opened.core.state.count = search rules in
    exactly (unsent s list before now x y told later i j v w l m c.keep_steps.result k c.in_ok-head.head head (record { 0 = 0 }) c.as_slice-3.result.now (g.E.Edge.faults c.emit.new.self) (g.E.Edge.told c.emit.new.self)
    c.emit.ensures.cause.later c.posts_in.result c.posts_in.ensures refl is (rw c.in-Err.is at c.emit.ensures.cause.failed) (rw c.in-Err.is at c.emit.ensures.part))
