-- What adding a record's postings needs, and what it leaves.
use Rattle.std.proofs.Common.{◌≡◌, ℕ, ◌+◌, List, length, Option, Some, None, true, IfSome, sym, ap, subst, ◌∙◌}
use Rattle.std.specs.List.{list_all}
use Rattle.iss_archive.specs.declared.post.Head.{Head}
use Rattle.iss_archive.specs.declared.post.PostRow.{PostRow}
use Rattle.iss_archive.specs.declared.source.Stepped.{Stepped}
use Rattle.iss_archive.specs.Archived.{Archived, Follows, AreNumberedFrom, has_one_currency, records_in, posts_in}
use Rattle.iss_archive.specs.Archiving.{has_plain_post, postings_next}
use Rattle.iss_archive.proofs.PostingLaws.{postings_rise, postings_plain}

sym_instance : (head : Option Head) (instance : ℕ) → IfSome head (λ h. h.instance ≡ instance) → IfSome head (λ h. instance ≡ h.instance)
sym_instance None instance same = tt
sym_instance (Some h) instance same = sym same

follows_held : (a : Archived) (head : Option Head) (instance number posts : ℕ) (s : Stepped) (rows : List PostRow) → a.head ≡ head → IfSome head (λ h. h.instance ≡ instance)
    → s.number ≡ records_in head + 1 → posts ≡ posts_in head + length rows → rows ≡ postings_next head s → Follows a (record { instance = instance; records = s.number; posts = posts }) rows
follows_held a head instance number posts s rows held same next sum are =
    record {
      instance = subst (λ (h : Option Head). IfSome h (λ k. instance ≡ k.instance)) (sym held) (sym_instance head instance same);
      record_ = next ∙ ap (λ (h : Option Head). records_in h + 1) (sym held);
      posts = sum ∙ ap (λ (h : Option Head). posts_in h + length rows) (sym held);
      numbered =
          subst (λ (h : Option Head). AreNumberedFrom (posts_in h + 1) rows) (sym held)
          (subst (AreNumberedFrom (posts_in head + 1)) (sym are) (postings_rise (posts_in head + 1) s.number s.at s.entries.items));
    }

-- the head and the rows that are given follow on what is told
pub follows : (told : Option Archived) (head : Option Head) (instance posts : ℕ) (s : Stepped) (rows : List PostRow) → IfSome told (λ a. a.head ≡ head) → IfSome head (λ h. h.instance ≡ instance)
    → s.number ≡ records_in head + 1 → posts ≡ posts_in head + length rows → rows ≡ postings_next head s
    → IfSome told (λ a. Follows a (record { instance = instance; records = s.number; posts = posts }) rows)
follows None head instance posts s rows held same next sum are = tt
follows (Some a) head instance posts s rows held same next sum are = follows_held a head instance 0 posts s rows held same next sum are

pub plain_rows : (head : Option Head) (s : Stepped) (rows : List PostRow) → rows ≡ postings_next head s → list_all has_plain_post s.entries.items ≡ true → list_all has_one_currency rows ≡ true
plain_rows head s rows are plain = ap (list_all has_one_currency) are ∙ postings_plain (posts_in head + 1) s.number s.at s.entries.items plain
