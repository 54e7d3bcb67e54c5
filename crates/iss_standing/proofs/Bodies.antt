-- First records: their images, and the bodies after a point.
use Rattle.std.proofs.Common.{◌≡◌, ℕ, ◌+◌, ◌-◌, ◌≤◌, List, [], ◌∷◌, ◌++◌, length, take, drop, sym, ap, ◌∙◌, arith, append-nil, append_assoc, length-append}
use Rattle.std.proofs.lemmas.List.{take-map, map-append, drop-map, drop-take, take-append-le, take_all, length-map}
use Rattle.iss_model.specs.declared.input.Record.{Record}
use Rattle.iss_model.specs.texts.Spelling.{spelling}
use Rattle.iss_standing.specs.Standing.{bodies_of, image_after}
use Rattle.iss_standing.specs.Goings.{AreFirstOf}

-- ---- bodies

pub take_bodies : (j : ℕ) (rs : List Record) → take j (bodies_of rs) ≡ bodies_of (take j rs)
take_bodies j rs = take-map spelling j rs

pub drop_bodies : (j : ℕ) (rs : List Record) → drop j (bodies_of rs) ≡ bodies_of (drop j rs)
drop_bodies j rs = drop-map spelling j rs

pub bodies_more : (rs : List Record) (r : Record) → bodies_of (rs ++ r ∷ []) ≡ bodies_of rs ++ spelling r ∷ []
bodies_more rs r = map-append spelling rs (r ∷ [])

pub length-bodies : (rs : List Record) → length (bodies_of rs) ≡ length rs
length-bodies rs = length-map rs spelling

-- ---- records that come first

abbrev pub first_self : (rs : List Record) → AreFirstOf rs rs
first_self rs = record { later = []; cut = sym (append-nil rs) }

abbrev pub first_then : (xs ys zs : List Record) → AreFirstOf xs ys → AreFirstOf ys zs → AreFirstOf xs zs
first_then xs ys zs f g =
    record {
      later = f.later ++ g.later;
      cut = g.cut ∙ ap (λ (l : List Record). l ++ g.later) f.cut ∙ append_assoc xs f.later g.later;
    }

pub first_length : (rs all : List Record) → AreFirstOf rs all → length rs ≤ length all
first_length rs all first =
    let both : length all ≡ length (rs ++ first.later) = ap (λ (l : List Record). length l) first.cut in
    omega (arith, both, length-append {A = Record} rs first.later)

-- as many of the first records are the same
pub first_taken : (k : ℕ) (rs all : List Record) → AreFirstOf rs all → k ≤ length rs → take k all ≡ take k rs
first_taken k rs all first le = ap (λ (l : List Record). take k l) first.cut ∙ take-append-le k rs first.later le

-- and so is their image
pub first_image : (k : ℕ) (rs all : List Record) → AreFirstOf rs all → k ≤ length rs → image_after (take k all) ≡ image_after (take k rs)
first_image k rs all first le = ap image_after (first_taken k rs all first le)

-- ---- bodies after a point, up to a number

pub between : (p i : ℕ) (rs : List Record) → p ≤ i → take (i - p) (drop p (bodies_of rs)) ≡ bodies_of (drop p (take i rs))
between p i rs le =
    let whole : p + (i - p) ≡ i = omega (arith, le) in
    sym (drop-take p (i - p) (bodies_of rs))
    ∙ ap (λ (n : ℕ). drop p (take n (bodies_of rs))) whole
    ∙ ap (λ (l : List (List ℕ)). drop p l) (take_bodies i rs)
    ∙ drop_bodies p (take i rs)

pub first_between : (p i : ℕ) (rs all : List Record) → AreFirstOf rs all → p ≤ i → i ≤ length rs
    → take (i - p) (drop p (bodies_of all)) ≡ take (i - p) (drop p (bodies_of rs))
first_between p i rs all first low high =
    between p i all low ∙ ap (λ (l : List Record). bodies_of (drop p l)) (first_taken i rs all first high) ∙ sym (between p i rs low)

-- up to their end these are all of the bodies after the point
pub between_all : (p : ℕ) (rs : List Record) → p ≤ length rs → take (length rs - p) (drop p (bodies_of rs)) ≡ bodies_of (drop p rs)
between_all p rs le = between p (length rs) rs le ∙ ap (λ (l : List Record). bodies_of (drop p l)) (take_all (length rs) rs (omega arith))
