-- Records in their order: each follows on those before it, so it is next on a core that stands for them.
use Rattle.std.proofs.Common.{◌≡◌, ℕ, zero, suc, ◌+◌, ◌≤◌, ◌<◌, Bool, true, List, [], ◌∷◌, ◌++◌, get_or, length, fold, refl, sym, ap, subst, ◌∙◌, arith}
use Rattle.std.specs.Prelude.{Some, slice_get, take}
use Rattle.std.specs.List.{list_all}
use Rattle.std.proofs.lemmas.Bool.{and_parts}
use Rattle.std.proofs.lemmas.List.{take_more}
use Rattle.std.proofs.lemmas.Option.{slice_get_read}
use Rattle.iss_model.specs.declared.input.Record.{Record}
use Rattle.iss_model.specs.declared.limits.TheConstants.{MOST_RECORDS}
use Rattle.iss_model.specs.rules.Facts.{Facts}
use Rattle.iss_model.specs.rules.Histories.{Follows, History, IsLegal, IsLegalAfter, history_keeper, history_of, nothing_yet}
use Rattle.iss_model.specs.rules.Judging.{judge}
use Rattle.iss_model.specs.rules.Stepping.{step}
use Rattle.iss_model.specs.state.Cores.{core_keeper}
use Rattle.iss_core.specs.Values.{CoreNow, CoreStandsFor, IsNext}
use Rattle.iss_core.proofs.OnBook.{count_of_book, judged_on_book, told_on_book}

legal_at : (h : History) (rs : List Record) (n : ℕ) (r : Record) → IsLegalAfter h rs → slice_get rs n ≡ Some r → Follows (fold (λ h r. (step history_keeper h r).world) h (take n rs)) r
legal_at h [] n r legal e = cc
legal_at h (x ∷ xs) zero r legal e = let same : x ≡ r = cc in subst (Follows h) same legal.0
legal_at h (x ∷ xs) (suc n) r legal e = legal_at (step history_keeper h x).world xs n r legal.1 e

-- a record that follows on those that a core stands for is next
pub follows_next : (c : CoreNow) (rs : List Record) (r : Record) → CoreStandsFor c rs → Follows (history_of rs) r → IsNext c r
follows_next c rs r stands follows = judged_on_book c rs r.input r.at (judge core_keeper c.state r.input r.at) stands refl ∙ follows.is_new

-- so the record at a place is next on a core that stands for those before it
pub next_at : (c : CoreNow) (rs : List Record) (n : ℕ) (r : Record) → CoreStandsFor c (take n rs) → IsLegal rs → slice_get rs n ≡ Some r → IsNext c r
next_at c rs n r stands legal e = follows_next c (take n rs) r stands (legal_at nothing_yet rs n r legal e)

pub count_on_book : (c : CoreNow) (rs : List Record) → CoreStandsFor c rs → c.state.count ≡ length rs
count_on_book c rs stands = told_on_book c rs (λ (f : Facts). f.count) c.state.count stands refl ∙ count_of_book rs

pub passes_at : (p : Record → Bool) (rs : List Record) (n : ℕ) (r : Record) → list_all p rs ≡ true → slice_get rs n ≡ Some r → p r ≡ true
passes_at p [] n r h e = cc
passes_at p (x ∷ xs) zero r h e = let same : r ≡ x = cc in ap p same ∙ (and_parts (p x) (list_all p xs) h).0
passes_at p (x ∷ xs) (suc n) r h e = passes_at p xs n r (and_parts (p x) (list_all p xs) h).1 e

-- the element at a place, as a loop has it ----

pub here_so : {A : Type 0} (xs : List A) (n : ℕ) (x : A) → n < length xs → x ≡ get_or xs n x → slice_get xs n ≡ Some x
here_so xs n x within e = slice_get_read xs (length xs) n x refl within e

pub next_here : (c : CoreNow) (rs : List Record) (n : ℕ) (r : Record) → CoreStandsFor c (take n rs) → IsLegal rs → n < length rs → r ≡ get_or rs n r → IsNext c r
next_here c rs n r stands legal within here = next_at c rs n r stands legal (here_so rs n r within here)

pub passes_here : (p : Record → Bool) (rs : List Record) (n : ℕ) (r : Record) → list_all p rs ≡ true → n < length rs → r ≡ get_or rs n r → p r ≡ true
passes_here p rs n r h within here = passes_at p rs n r h (here_so rs n r within here)

take_short : {A : Type 0} (n : ℕ) (xs : List A) → length (take n xs) ≤ n
take_short zero xs = omega arith
take_short (suc n) [] = omega arith
take_short (suc n) (x ∷ xs) = more (length (take n xs)) n (take_short n xs)
  where
    more : (m n : ℕ) → m ≤ n → suc m ≤ suc n
    more m n h = omega (arith, h)

pub room_here : (c : CoreNow) (rs : List Record) (n : ℕ) → CoreStandsFor c (take n rs) → n < length rs → length rs ≤ MOST_RECORDS → c.state.count < MOST_RECORDS
room_here c rs n stands within room =
    less c.state.count (length (take n rs)) n (length rs) MOST_RECORDS (count_on_book c (take n rs) stands) (take_short n rs) within room
  where
    less : (a b n l m : ℕ) → a ≡ b → b ≤ n → n < l → l ≤ m → a < m
    less a b n l m e h k r = omega (arith, e, h, k, r)

pub stands_here : (c : CoreNow) (rs : List Record) (n : ℕ) (r : Record) → CoreStandsFor c (take n rs ++ r ∷ []) → n < length rs → r ≡ get_or rs n r → CoreStandsFor c (take (n + 1) rs)
stands_here c rs n r stands within here =
    subst (CoreStandsFor c) (sym (take_more rs n r within ∙ ap (λ (y : Record). take n rs ++ y ∷ []) (sym here))) stands
