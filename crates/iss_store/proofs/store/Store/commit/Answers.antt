use Rattle.std.proofs.Common.{◌≡◌, true, ap, subst, sym, rules, Err}
use Rattle.iss_model.specs.declared.input.Record.{Record}
use Rattle.iss_edge.specs.World.{Told}
use Rattle.iss_model.specs.texts.Spelling.{is_record}
use Rattle.iss_core.specs.Values.{Steps}
use Rattle.iss_opening.specs.Values.{StoreNow, IsStore}
use Rattle.iss_store.specs.declared.putting.Seat as put
use Rattle.iss_store.specs.Values.{Plan, DurableNow}
use Rattle.iss_store.specs.Planning.{IsPlanOf}
use Rattle.iss_store.specs.Committing.{Commits, Keeps}
use Rattle.iss_store.proofs.Commits.{committed, made_numbered, few_after, stays_store, not_kept}
use Rattle.iss_store.proofs.Histories.{stands_more}
use Rattle.iss_store.proofs.store.Store.commit.Goals as goal

pub returns-in_err-seat-clause-lasts : goal.returns-in_err-seat-clause-lasts
returns-in_err-seat-clause-lasts g c =
    let failed : c.from_residual.result ≡ Err c.in_err-seat.field-0.0 = search rules in
    rw failed (not_kept put.Seat (StoreNow × DurableNow) c.in_err-seat.field-0.0 (Told (Keeps c.args.self c.args.planned.accepted) (g.E.Edge.told c.args.edge.now) (g.E.Edge.told c.put.new.edge)) c.in_err-seat.ensures.alone)

pub invariant_of-store : goal.invariant_of-store
invariant_of-store g c =
    let v : StoreNow = record { core = c.self.inside.core; place = c.self.inside.journal; layout = c.self.inside.halves; point = c.self.inside.point } in
    let accepted = ap (λ (p : Plan). p.accepted) c.planned.view_is in
    let plan : IsPlanOf v c.args.planned = subst (λ (s : StoreNow). IsPlanOf s c.args.planned) (sym c.self.view_is) c.requires.plan in
    let steps : Steps v.core c.in_ok-core.core c.args.planned.accepted c.in_ok-core.entries.items = subst (λ (r : Record). Steps v.core c.in_ok-core.core r c.in_ok-core.entries.items) accepted c.in_ok-core.ensures.stepped in
    stays_store v c.in_ok-core.core c.args.planned c.in_ok-seat.seat c.in_ok-core.entries.items c.self.invariant.store plan c.in_ok-seat.ensures.put steps

pub invariant_of-durable : goal.invariant_of-durable
invariant_of-durable g c = made_numbered c.self.inside.core c.in_ok-core.core c.planned.inside.accepted c.in_ok-core.entries.items c.in_ok-core.ensures.stepped

pub returns-clause-committed : goal.returns-clause-committed
returns-clause-committed g c =
    let v : StoreNow = record { core = c.self.inside.core; place = c.self.inside.journal; layout = c.self.inside.halves; point = c.self.inside.point } in
    let accepted = ap (λ (p : Plan). p.accepted) c.planned.view_is in
    let plan : IsPlanOf v c.args.planned = subst (λ (s : StoreNow). IsPlanOf s c.args.planned) (sym c.self.view_is) c.requires.plan in
    let steps : Steps v.core c.in_ok-core.core c.args.planned.accepted c.in_ok-core.entries.items = subst (λ (r : Record). Steps v.core c.in_ok-core.core r c.in_ok-core.entries.items) accepted c.in_ok-core.ensures.stepped in
    let after : StoreNow = record { core = c.in_ok-core.core; place = c.in_ok-seat.seat.journal; layout = c.in_ok-seat.seat.halves; point = c.in_ok-seat.seat.point } in
    let made : DurableNow = record { number = c.count.result; entries = c.in_ok-core.entries.items; is_time = c.is_told_time.result } in
    subst (λ (s : StoreNow). Commits s c.args.planned after made) c.self.view_is
    (committed v c.in_ok-core.core c.args.planned c.in_ok-seat.seat c.in_ok-core.entries.items c.count.result c.is_told_time.result
    c.in_ok-seat.ensures.put steps c.count.ensures.value (few_after v c.in_ok-core.core c.args.planned c.in_ok-core.entries.items plan steps) c.is_told_time.ensures)

pub returns-clause-on_book : goal.returns-clause-on_book
returns-clause-on_book g c = λ rs stands.
    let v : StoreNow = record { core = c.self.inside.core; place = c.self.inside.journal; layout = c.self.inside.halves; point = c.self.inside.point } in
    let accepted = ap (λ (p : Plan). p.accepted) c.planned.view_is in
    let plan : IsPlanOf v c.args.planned = subst (λ (s : StoreNow). IsPlanOf s c.args.planned) (sym c.self.view_is) c.requires.plan in
    let steps : Steps v.core c.in_ok-core.core c.args.planned.accepted c.in_ok-core.entries.items = subst (λ (r : Record). Steps v.core c.in_ok-core.core r c.in_ok-core.entries.items) accepted c.in_ok-core.ensures.stepped in
    let after : StoreNow = record { core = c.in_ok-core.core; place = c.in_ok-seat.seat.journal; layout = c.in_ok-seat.seat.halves; point = c.in_ok-seat.seat.point } in
    let made : DurableNow = record { number = c.count.result; entries = c.in_ok-core.entries.items; is_time = c.is_told_time.result } in
    stands_more c.args.self after c.args.planned made rs (subst IsStore c.self.view_is c.self.invariant.store) c.requires.plan.next
    (subst (λ (r : Record). is_record r ≡ true) accepted c.planned.invariant.spelled) stands
    (subst (λ (s : StoreNow). Commits s c.args.planned after made) c.self.view_is
    (committed v c.in_ok-core.core c.args.planned c.in_ok-seat.seat c.in_ok-core.entries.items c.count.result c.is_told_time.result
    c.in_ok-seat.ensures.put steps c.count.ensures.value (few_after v c.in_ok-core.core c.args.planned c.in_ok-core.entries.items plan steps) c.is_told_time.ensures))
