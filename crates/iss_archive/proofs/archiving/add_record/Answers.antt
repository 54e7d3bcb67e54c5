use Rattle.std.proofs.Common.{◌≡◌, ◌+◌, length, rules}
use Rattle.iss_archive.specs.Archived.{posts_in}
use Rattle.iss_archive.specs.Archiving.{postings_next}
use Rattle.iss_archive.proofs.AddingLaws.{follows, plain_rows}
use Rattle.iss_archive.proofs.archiving.add_record.Goals as goal

pub add-requires-clause-next : goal.add-requires-clause-next
add-requires-clause-next g c =
    let rows : c.as_slice-2.result.now ≡ postings_next c.args.head.now c.args.stepped.now = search rules in
    let sum : c.posts_in-held.result + c.len.result ≡ posts_in c.args.head.now + length c.as_slice-2.result.now = search rules in
    follows _ c.args.head.now c.args.instance _ c.args.stepped.now _ c.requires.head c.requires.same c.requires.next sum rows

pub add-requires-clause-currency : goal.add-requires-clause-currency
add-requires-clause-currency g c =
    let rows : c.as_slice-2.result.now ≡ postings_next c.args.head.now c.args.stepped.now = search rules in
    plain_rows c.args.head.now c.args.stepped.now _ rows c.requires.plain
