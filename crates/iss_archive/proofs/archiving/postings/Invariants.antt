use Rattle.std.proofs.Common.{◌≡◌, ◌++◌, ◌+◌, ◌≤◌, drop}
use Rattle.iss_archive.specs.Postings.{postings_of_entries}
use Rattle.iss_archive.proofs.archiving.postings.Given as goal

abbrev pub invariant-entries : goal.invariant-entries
invariant-entries l =
    (postings_of_entries l.first l.number l.at l.entries ≡ l.rows.items ++ postings_of_entries l.seq l.number l.at (drop l.entry-index l.entries)) × (l.seq ≤ l.first + l.entry-index)
