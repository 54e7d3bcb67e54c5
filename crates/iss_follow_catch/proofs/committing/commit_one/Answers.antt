use Rattle.std.proofs.Common.{rules, ◌≡◌, List, [], ◌∷◌, Err, subst}
use Rattle.iss_edge.specs.World.{Told}
use Rattle.iss_edge.proofs.Tolds.{told_map, told_self}
use Rattle.iss_model.specs.declared.input.Record.{Record}
use Rattle.iss_opening.specs.Values.{StoreNow}
use Rattle.iss_opening.specs.Standing.{StandsFor}
use Rattle.iss_store.specs.Committing.{Commits, CommitsOnBook, Keeps, KeepsPart}
use Rattle.iss_follow_catch.specs.Committing.{Lasts, LastsInPart, LastsSome}
use Rattle.iss_follow_catch.proofs.Commits.{alone_caused, lasts_one, left_so, part_none, part_one, some_keeps, some_none, takes_one}
use Rattle.iss_follow_catch.proofs.committing.commit_one.Goals as goal

pub returns-in_err-planned-clause-part : goal.returns-in_err-planned-clause-part
returns-in_err-planned-clause-part g c =
    told_self (LastsInPart c.args.store (c.args.accepted.now ∷ [])) (g.T.Edge.told c.args.to.now) (part_none c.args.store (c.args.accepted.now ∷ []))

pub returns-in_err-planned-clause-cause : goal.returns-in_err-planned-clause-cause
returns-in_err-planned-clause-cause g c =
    let failed : c.from_residual.result ≡ Err c.in_err-planned.field-0.0 = search rules in
    rw failed (alone_caused (g.T.Edge.faults c.args.to.now) c.in_err-planned.field-0.0 c.in_err-planned.ensures.alone)

pub returns-in_err-planned-clause-left : goal.returns-in_err-planned-clause-left
returns-in_err-planned-clause-left g c =
    let failed : c.from_residual.result ≡ Err c.in_err-planned.field-0.0 = search rules in
    rw failed (
    left_so StoreNow c.in_err-planned.field-0.0 (Told (LastsSome c.args.store) (g.T.Edge.told c.args.to.now) (g.T.Edge.told c.args.to.now))
    (told_self (LastsSome c.args.store) (g.T.Edge.told c.args.to.now) (some_none c.args.store))
    )

pub returns-in-Ok-clause-left : goal.returns-in-Ok-clause-left
returns-in-Ok-clause-left g c =
    let lasts : Told (Keeps c.args.store c.in_ok-planned.planned.accepted) (g.T.Edge.told c.args.to.now) (g.T.Edge.told c.commit.new.edge) = search rules in
    told_map (Keeps c.args.store c.in_ok-planned.planned.accepted) (LastsSome c.args.store) (g.T.Edge.told c.args.to.now) (g.T.Edge.told c.commit.new.edge)
    (some_keeps c.args.store c.in_ok-planned.planned.accepted) lasts

pub returns-in-Err-OutOfMemory-clause-left : goal.returns-in-Err-OutOfMemory-clause-left
returns-in-Err-OutOfMemory-clause-left g c =
    let lasts : Told (Keeps c.args.store c.in_ok-planned.planned.accepted) (g.T.Edge.told c.args.to.now) (g.T.Edge.told c.commit.new.edge) = search rules in
    told_map (Keeps c.args.store c.in_ok-planned.planned.accepted) (LastsSome c.args.store) (g.T.Edge.told c.args.to.now) (g.T.Edge.told c.commit.new.edge)
    (some_keeps c.args.store c.in_ok-planned.planned.accepted) lasts

pub returns-in-Ok-clause-takes : goal.returns-in-Ok-clause-takes
returns-in-Ok-clause-takes g c =
    let commits : Commits c.args.store c.in_ok-planned.planned c.in-Ok.next c.in-Ok.field-0-1 = search rules in
    let book : (rs : List Record) → StandsFor c.args.store rs → CommitsOnBook c.args.store c.in-Ok.next rs c.in_ok-planned.planned c.in-Ok.field-0-1 =
    subst (λ (s : StoreNow). (rs : List Record) → StandsFor s rs → CommitsOnBook s c.in-Ok.next rs c.in_ok-planned.planned c.in-Ok.field-0-1) c.plan_of.ensures.kept c.in-Ok.ensures.on_book in
    takes_one c.args.store c.in-Ok.next c.in_ok-planned.planned c.in-Ok.field-0-1 c.args.accepted.now c.in_ok-planned.ensures.is commits book c.in_ok-planned.ensures.fits

pub returns-in-Ok-clause-lasts : goal.returns-in-Ok-clause-lasts
returns-in-Ok-clause-lasts g c =
    let commits : Commits c.args.store c.in_ok-planned.planned c.in-Ok.next c.in-Ok.field-0-1 = search rules in
    let lasts : Told (Keeps c.args.store c.in_ok-planned.planned.accepted) (g.T.Edge.told c.args.to.now) (g.T.Edge.told c.commit.new.edge) = search rules in
    told_map (Keeps c.args.store c.in_ok-planned.planned.accepted) (Lasts c.args.store c.in-Ok.next (c.args.accepted.now ∷ [])) (g.T.Edge.told c.args.to.now) (g.T.Edge.told c.commit.new.edge)
    (lasts_one c.args.store c.in-Ok.next c.in_ok-planned.planned c.in-Ok.field-0-1 c.args.accepted.now c.in_ok-planned.ensures.is commits) lasts

pub returns-in-Ok-clause-part : goal.returns-in-Ok-clause-part
returns-in-Ok-clause-part g c =
    let moments : Told (KeepsPart c.args.store c.in_ok-planned.planned.accepted) (g.T.Edge.told c.args.to.now) (g.T.Edge.told c.commit.new.edge) = search rules in
    told_map (KeepsPart c.args.store c.in_ok-planned.planned.accepted) (LastsInPart c.args.store (c.args.accepted.now ∷ [])) (g.T.Edge.told c.args.to.now) (g.T.Edge.told c.commit.new.edge)
    (λ a b. part_one c.args.store c.in_ok-planned.planned c.args.accepted.now a b c.in_ok-planned.ensures.is) moments

pub returns-in-Err-OutOfMemory-clause-part : goal.returns-in-Err-OutOfMemory-clause-part
returns-in-Err-OutOfMemory-clause-part g c =
    let moments : Told (KeepsPart c.args.store c.in_ok-planned.planned.accepted) (g.T.Edge.told c.args.to.now) (g.T.Edge.told c.commit.new.edge) = search rules in
    told_map (KeepsPart c.args.store c.in_ok-planned.planned.accepted) (LastsInPart c.args.store (c.args.accepted.now ∷ [])) (g.T.Edge.told c.args.to.now) (g.T.Edge.told c.commit.new.edge)
    (λ a b. part_one c.args.store c.in_ok-planned.planned c.args.accepted.now a b c.in_ok-planned.ensures.is) moments

pub returns-in-Err-Disk-clause-part : goal.returns-in-Err-Disk-clause-part
returns-in-Err-Disk-clause-part g c =
    let moments : Told (KeepsPart c.args.store c.in_ok-planned.planned.accepted) (g.T.Edge.told c.args.to.now) (g.T.Edge.told c.commit.new.edge) = search rules in
    told_map (KeepsPart c.args.store c.in_ok-planned.planned.accepted) (LastsInPart c.args.store (c.args.accepted.now ∷ [])) (g.T.Edge.told c.args.to.now) (g.T.Edge.told c.commit.new.edge)
    (λ a b. part_one c.args.store c.in_ok-planned.planned c.args.accepted.now a b c.in_ok-planned.ensures.is) moments
