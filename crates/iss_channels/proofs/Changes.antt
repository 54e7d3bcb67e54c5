-- A list whose first thing that passes a test was changed.
use Rattle.std.proofs.Common.{◌≡◌, Bool, true, false, cond, not, List, [], ◌∷◌, ◌++◌, find, filter, sym, ap, ◌∙◌}
use Rattle.std.specs.Prelude.{Some}
use Rattle.std.specs.List.{AllByRecursion}
use Rattle.iss_channels.specs.Placed.{ChangesFirst}

module _ {T : Type 0} (test : T → Bool) where
  found_by : (front rest : List T) (x : T) → AllByRecursion (λ y. test y ≡ false) front → test x ≡ true → find test (front ++ x ∷ rest) ≡ Some x
  found_by [] rest x others own = ap (λ (b : Bool). cond b (Some x) (find test rest)) own
  found_by (y ∷ front) rest x others own = ap (λ (b : Bool). cond b (Some y) (find test (front ++ x ∷ rest))) others.0 ∙ found_by front rest x others.1 own

  others_by : (front rest : List T) (x y : T) → test x ≡ true → test y ≡ true → filter (λ z. not (test z)) (front ++ y ∷ rest) ≡ filter (λ z. not (test z)) (front ++ x ∷ rest)
  others_by [] rest x y own still =
      ap (λ (b : Bool). cond (not b) (y ∷ filter (λ z. not (test z)) rest) (filter (λ z. not (test z)) rest)) still
      ∙ sym (ap (λ (b : Bool). cond (not b) (x ∷ filter (λ z. not (test z)) rest) (filter (λ z. not (test z)) rest)) own)
  others_by (z ∷ front) rest x y own still = ap (λ (zs : List T). cond (not (test z)) (z ∷ zs) zs) (others_by front rest x y own still)

  module _ {R : T → T → Type 0} (before after : List T) (changes : ChangesFirst test R before after) where
    -- it is what was found
    pub was_found : find test before ≡ Some changes.was
    was_found = ap (find test) changes.found ∙ found_by changes.front changes.rest changes.was changes.others changes.own

    -- what was found, with its change, is what is found then
    pub is_found : find test after ≡ Some changes.is
    is_found = ap (find test) changes.then ∙ found_by changes.front changes.rest changes.is changes.others changes.still

    -- the things that don't pass are the same
    pub others_same : filter (λ x. not (test x)) after ≡ filter (λ x. not (test x)) before
    others_same =
        ap (filter (λ x. not (test x))) changes.then ∙ others_by changes.front changes.rest changes.was changes.is changes.own changes.still
        ∙ sym (ap (filter (λ x. not (test x))) changes.found)
