use Rattle.std.proofs.Common.{◌≡◌, Err, rules}
use Rattle.iss_edge.specs.World.{Told}
use Rattle.iss_edge.specs.Outer.{outer_of}
use Rattle.iss_top.specs.Statuses.{stop_of_store}
use Rattle.iss_top.specs.Replaying.{IsOfDisk, TakesPartAs, response_to_plan}
use Rattle.iss_top.proofs.Lasting.{anyway, size_kept, told_kept, told_kept_part, told_not_kept}
use Rattle.iss_top.proofs.ToldHears.{told_says_lines, told_commits_silently, told_on_book_then}
use Rattle.iss_top.proofs.taking.keep.Goals as goal

pub returns-in_err-next-clause-heard : goal.returns-in_err-next-clause-heard
returns-in_err-next-clause-heard g c =
    told_commits_silently c.args.store c.args.planned.accepted (g.E.Edge.told c.args.edge.now) (g.E.Edge.told c.commit.new.edge) (g.E.Edge.heard c.args.edge.now) (g.E.Edge.heard c.commit.new.edge) c.in_err-next.ensures.moments c.in_err-next.ensures.heard

pub returns-in_err-release-clause-heard : goal.returns-in_err-release-clause-heard
returns-in_err-release-clause-heard g c =
    told_on_book_then c.args.store (outer_of (g.E.Edge.told c.args.edge.now) (g.E.Edge.heard c.args.edge.now)) (outer_of (g.E.Edge.told c.commit.new.edge) (g.E.Edge.heard c.commit.new.edge)) (outer_of (g.E.Edge.told c.release.new.edge) (g.E.Edge.heard c.release.new.edge))
    (told_commits_silently c.args.store c.args.planned.accepted (g.E.Edge.told c.args.edge.now) (g.E.Edge.told c.commit.new.edge) (g.E.Edge.heard c.args.edge.now) (g.E.Edge.heard c.commit.new.edge) c.in_ok-next.ensures.moments c.in_ok-next.ensures.heard)
    (told_says_lines g.E.Edge.told g.E.Edge.heard g.E.Edge.channels c.commit.new.edge c.release.new.edge _ _ _ _ (c.in_err-release.ensures.lines c.requires.lines) c.in_err-release.ensures.cause)

pub returns-clause-heard : goal.returns-clause-heard
returns-clause-heard g c =
    told_on_book_then c.args.store (outer_of (g.E.Edge.told c.args.edge.now) (g.E.Edge.heard c.args.edge.now)) (outer_of (g.E.Edge.told c.commit.new.edge) (g.E.Edge.heard c.commit.new.edge)) (outer_of (g.E.Edge.told c.release.new.edge) (g.E.Edge.heard c.release.new.edge))
    (told_commits_silently c.args.store c.args.planned.accepted (g.E.Edge.told c.args.edge.now) (g.E.Edge.told c.commit.new.edge) (g.E.Edge.heard c.args.edge.now) (g.E.Edge.heard c.commit.new.edge) c.in_ok-next.ensures.moments c.in_ok-next.ensures.heard)
    (told_says_lines g.E.Edge.told g.E.Edge.heard g.E.Edge.channels c.commit.new.edge c.release.new.edge _ _ _ _ (c.in_ok-release.ensures.lines c.requires.lines) c.in_ok-release.ensures.cause)

pub returns-in_err-next-clause-part : goal.returns-in_err-next-clause-part
returns-in_err-next-clause-part g c =
    let failed : c.from_residual.result ≡ Err (stop_of_store c.in_err-next.field-0.0) = search rules in
    rw failed (
    told_not_kept c.in_err-next.field-0.0 c.args.store c.args.planned (g.E.Edge.told c.args.edge.now) (g.E.Edge.told c.commit.new.edge) c.in_err-next.ensures.moments c.in_err-next.ensures.lasts
    )

pub returns-in_err-release-clause-part : goal.returns-in_err-release-clause-part
returns-in_err-release-clause-part g c =
    anyway c.from_residual-in_err-release.result
    (λ why. Told (TakesPartAs (IsOfDisk why) (response_to_plan c.args.planned) c.args.store) (g.E.Edge.told c.args.edge.now) (g.E.Edge.told c.release.new.edge))
    (λ why.
    told_kept_part (IsOfDisk why) c.args.store c.in_ok-next.next c.args.planned c.in_ok-next.durable
    (g.E.Edge.told c.args.edge.now) (g.E.Edge.told c.commit.new.edge) (g.E.Edge.told c.release.new.edge)
    (record { commits = c.in_ok-next.ensures.committed; on_book = c.in_ok-next.ensures.on_book })
    c.in_ok-next.ensures.lasts (c.in_err-release.ensures.lines c.requires.lines).part)

pub returns-clause-taken : goal.returns-clause-taken
returns-clause-taken g c =
    told_kept c.args.store c.in_ok-next.next c.args.planned c.in_ok-next.durable
    (g.E.Edge.told c.args.edge.now) (g.E.Edge.told c.commit.new.edge) (g.E.Edge.told c.release.new.edge)
    (record { commits = c.in_ok-next.ensures.committed; on_book = c.in_ok-next.ensures.on_book })
    c.in_ok-next.ensures.lasts (c.in_ok-release.ensures.lines c.requires.lines).says

pub returns-clause-size : goal.returns-clause-size
returns-clause-size g c = size_kept c.args.store c.in_ok-next.next c.args.planned c.in_ok-next.durable c.in_ok-next.ensures.committed
