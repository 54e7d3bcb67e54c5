-- One record more in an archive.
use Rattle.std.specs.Prelude.{◌≡◌, ◌+◌, List, length, Option, IfSome}
use Rattle.iss_archive.specs.declared.post.Head.{Head}
use Rattle.iss_archive.specs.declared.post.PostRow.{PostRow}
use Rattle.iss_archive.specs.Archived.{AreNumberedFrom, records_in, posts_in}

-- these are the head and the rows of one record more than a head counts
pub record IsNext (head : Option Head) (next : Head) (rows : List PostRow) : Type 0 where
  pub instance : IfSome head (λ held. next.instance ≡ held.instance)
  pub record_ : next.records ≡ records_in head + 1
  pub posts : next.posts ≡ posts_in head + length rows
  pub numbered : AreNumberedFrom (posts_in head + 1) rows
