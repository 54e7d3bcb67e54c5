use Rattle.std.proofs.Common.{◌≡◌, Option, Some, None, rules}
use Rattle.iss_known.specs.Known.{KnownNow}
use Rattle.iss_known.specs.Reading.{known_in, read_by}
use Rattle.iss_known.proofs.ReadBack.{reads}
use Rattle.iss_known.proofs.known.Known.of.Goals as goal

pub returns-in_default-clause-read : goal.returns-in_default-clause-read
returns-in_default-clause-read c =
    let same : ◌≡◌ {A = Option KnownNow} None (read_by c.args.state.now.events c.args.state.now.txns) = search rules in
    (reads c.args.state.now c.requires.order c.requires.marks None same).0

pub returns-clause-read : goal.returns-clause-read
returns-clause-read c =
    let same : ◌≡◌ {A = Option KnownNow} (Some (known_in c.in-Some.parts)) (read_by c.args.state.now.events c.args.state.now.txns) = search rules in
    (reads c.args.state.now c.requires.order c.requires.marks (Some (known_in c.in-Some.parts)) same).0

pub returns-clause-known : goal.returns-clause-known
returns-clause-known c =
    let same : ◌≡◌ {A = Option KnownNow} (Some (known_in c.in-Some.parts)) (read_by c.args.state.now.events c.args.state.now.txns) = search rules in
    (reads c.args.state.now c.requires.order c.requires.marks (Some (known_in c.in-Some.parts)) same).1
