-- The next record follows what is archived, whose head was read.
use Rattle.std.proofs.Common.{◌≡◌, Option, Some, None, IfSome, List, sym, subst}
use Rattle.iss_archive.specs.declared.post.Head.{Head}
use Rattle.iss_archive.specs.declared.post.PostRow.{PostRow}
use Rattle.iss_archive.specs.Archived.{Archived, Told, Same, Follows}
use Rattle.iss_archive_tests.specs.Next.{IsNext}

-- the head that was read is that of what is told
pub read_head : (head : Option Head) (was now : Option Archived) → Told (λ a b. Same a b × (head ≡ b.head)) was now → IfSome now (λ a. a.head ≡ head)
read_head head None None h = tt
read_head head (Some a) None h = tt
read_head head None (Some b) h = absurd h
read_head head (Some a) (Some b) h = sym h.1

pub follows_next : (told : Option Archived) (head : Option Head) (next : Head) (rows : List PostRow) → IfSome told (λ a. a.head ≡ head) → IsNext head next rows
    → IfSome told (λ a. Follows a next rows)
follows_next None head next rows is n = tt
follows_next (Some a) head next rows is n =
    let it : IsNext a.head next rows = subst (λ (h : Option Head). IsNext h next rows) (sym is) n in
    record { instance = it.instance; record_ = it.record_; posts = it.posts; numbered = it.numbered }
