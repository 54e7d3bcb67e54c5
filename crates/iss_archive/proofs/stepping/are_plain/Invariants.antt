use Rattle.std.proofs.Common.{◌≡◌, drop}
use Rattle.std.specs.List.{list_all}
use Rattle.iss_archive.specs.Archiving.{has_plain_post}
use Rattle.iss_archive.proofs.stepping.are_plain.Given as goal

abbrev pub invariant-entries : goal.invariant-entries
invariant-entries l = list_all has_plain_post l.entries ≡ list_all has_plain_post (drop l.entry-index l.entries)
