-- How many records an idle run has.
use Rattle.std.proofs.Common.{◌≡◌, ℕ, length, replicate, sym}
use Rattle.std.proofs.lemmas.List.{length-replicate}
use Rattle.iss_archive_tests.specs.Unread.{idle}

pub as_many : (count : ℕ) → count ≡ length (replicate count idle)
as_many count = sym (length-replicate count idle)
