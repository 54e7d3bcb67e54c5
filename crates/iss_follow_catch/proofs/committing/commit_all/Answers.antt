use Rattle.std.proofs.Common.{rules, ◌≡◌, ◌+◌, ◌<◌, List, [], length, take, drop, Err, sym, ap, subst, ◌∙◌, arith}
use Rattle.iss_edge.specs.World.{Told}
use Rattle.iss_edge.proofs.Tolds.{later_self, later_then, told_self}
use Rattle.iss_halves.specs.Forms.{Form}
use Rattle.iss_model.specs.declared.input.Record.{Record}
use Rattle.iss_opening.specs.Values.{StoreNow}
use Rattle.iss_follow_catch.specs.Committing.{Lasts, TakesUp}
use Rattle.iss_follow_catch.proofs.Commits.{all_taken, cut_next, lasts_none, takes_more, takes_none, taken_next, told_left, told_more, told_part, told_some_all, told_stopped, told_whole, told_whole_part, unplanned_so}
use Rattle.iss_follow_catch.proofs.committing.commit_all.Goals as goal

pub records-init : goal.records-init
records-init g c =
    record {
      takes = takes_none c.args.opened;
      lasts = told_self (Lasts c.args.opened c.args.opened []) (g.T.Edge.told c.args.to.now) (lasts_none c.args.opened);
      size = c.requires.size;
      later = later_self (g.T.Edge.faults c.args.to.now);
    }

pub returns-in_err-store-clause-ran : goal.returns-in_err-store-clause-ran
returns-in_err-store-clause-ran g c =
    let i = c.records.record-index in
    let rs = c.args.records.now in
    let within : c.records.record-index < length c.args.records.now = search rules in
    let failed : c.from_residual.result ≡ Err c.in_err-store.field-0.0 = search rules in
    rw failed (
    told_stopped c.args.opened c.records.store (take i rs) rs (drop (i + 1) rs) c.record-item.result (g.T.Edge.told c.args.to.now) (g.T.Edge.told c.records.to) (g.T.Edge.told c.commit_one.new.to)
    (cut_next rs i c.record-item.result within c.record-item.is) c.records.invariant.takes c.records.invariant.lasts c.commit_one.ensures.part c.in_err-store.field-0.0 c.in_err-store.ensures.stops
    (unplanned_so (Unit {0}) (Unit {0}) c.in_err-store.field-0.0 (c.commit_one.new.to ≡ c.records.to) (g.T.Edge.told c.commit_one.new.to ≡ g.T.Edge.told c.records.to) (ap g.T.Edge.told) c.in_err-store.ensures.unplanned)
    )

pub returns-in_err-store-clause-part : goal.returns-in_err-store-clause-part
returns-in_err-store-clause-part g c =
    let i = c.records.record-index in
    let rs = c.args.records.now in
    let within : c.records.record-index < length c.args.records.now = search rules in
    told_part c.args.opened c.records.store (take i rs) rs (drop (i + 1) rs) c.record-item.result (g.T.Edge.told c.args.to.now) (g.T.Edge.told c.records.to) (g.T.Edge.told c.commit_one.new.to)
    (cut_next rs i c.record-item.result within c.record-item.is) c.records.invariant.takes c.records.invariant.lasts c.commit_one.ensures.part

pub returns-in_err-store-clause-left : goal.returns-in_err-store-clause-left
returns-in_err-store-clause-left g c =
    let i = c.records.record-index in
    let rs = c.args.records.now in
    let failed : c.from_residual.result ≡ Err c.in_err-store.field-0.0 = search rules in
    rw failed (
    told_left c.args.opened c.records.store (take i rs) (g.T.Edge.told c.args.to.now) (g.T.Edge.told c.records.to) (g.T.Edge.told c.commit_one.new.to)
    c.records.invariant.takes c.records.invariant.lasts StoreNow (Unit {0}) c.in_err-store.field-0.0 c.in_err-store.ensures.left
    )

pub records-preserved : goal.records-preserved
records-preserved g c =
    let i = c.records.record-index in
    let rs = c.args.records.now in
    let within : c.records.record-index < length c.args.records.now = search rules in
    let taken = sym (taken_next rs i c.record-item.result within c.record-item.is) in
    record {
      takes =
          subst (λ (l : List Record). TakesUp c.args.opened c.in_ok-store.store l) taken
          (takes_more c.args.opened c.records.store c.in_ok-store.store (take i rs) c.record-item.result c.records.invariant.takes c.in_ok-store.ensures.takes);
      lasts =
          subst (λ (l : List Record). Told (Lasts c.args.opened c.in_ok-store.store l) (g.T.Edge.told c.args.to.now) (g.T.Edge.told c.commit_one.new.to)) taken
          (told_more c.args.opened c.records.store c.in_ok-store.store (take i rs) c.record-item.result (g.T.Edge.told c.args.to.now) (g.T.Edge.told c.records.to) (g.T.Edge.told c.commit_one.new.to)
          c.records.invariant.takes c.records.invariant.lasts c.in_ok-store.ensures.lasts);
      size = c.commit_one.ensures.kept ∙ c.records.invariant.size ∙ sym (ap (λ (f : Form). f.size) c.in_ok-store.ensures.takes.form);
      later = later_then (g.T.Edge.faults c.args.to.now) (g.T.Edge.faults c.records.to) (g.T.Edge.faults c.commit_one.new.to) c.records.invariant.later c.commit_one.ensures.cause.later;
    }

pub returns-clause-ran : goal.returns-clause-ran
returns-clause-ran g c =
    told_whole c.args.opened c.records.store (take c.records.record-index c.args.records.now) c.args.records.now (g.T.Edge.told c.args.to.now) (g.T.Edge.told c.records.to)
    (all_taken c.args.records.now c.records.record-index (omega (arith, c.records-test.false))) c.records.invariant.takes c.records.invariant.lasts

pub returns-clause-part : goal.returns-clause-part
returns-clause-part g c =
    told_whole_part c.args.opened c.records.store (take c.records.record-index c.args.records.now) c.args.records.now (g.T.Edge.told c.args.to.now) (g.T.Edge.told c.records.to)
    (all_taken c.args.records.now c.records.record-index (omega (arith, c.records-test.false))) c.records.invariant.takes c.records.invariant.lasts

pub returns-clause-left : goal.returns-clause-left
returns-clause-left g c =
    told_some_all c.args.opened c.records.store (take c.records.record-index c.args.records.now) (g.T.Edge.told c.args.to.now) (g.T.Edge.told c.records.to) (g.T.Edge.told c.records.to)
    c.records.invariant.takes c.records.invariant.lasts
