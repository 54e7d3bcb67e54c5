-- Names that are added to, and what stands at their places.
use Rattle.std.proofs.Common.{◌≡◌, ℕ, zero, suc, List, [], ◌∷◌, ◌++◌, length, refl, sym, ◌∙◌, ap₂, subst}
use Rattle.std.specs.Prelude.{Option, Some, None, Result, Ok, Err, OnOk, OnErr, IfOk, IsSome, slice_get}
use Rattle.iss_index.specs.Places.{place_of}
use Rattle.iss_index.specs.Grown.{IsGrown}
use Rattle.iss_index.proofs.Placed.{place_there}

-- ---- one thing more

pub there_before : {A : Type 0} (xs : List A) (x : A) (i : ℕ) (y : A) → slice_get xs i ≡ Some y → slice_get (xs ++ x ∷ []) i ≡ Some y
there_before [] x i y e = cc
there_before (a ∷ xs) x zero y e = e
there_before (a ∷ xs) x (suc i) y e = there_before xs x i y e

pub last_there : {A : Type 0} (xs : List A) (x : A) → slice_get (xs ++ x ∷ []) (length xs) ≡ Some x
last_there [] x = refl
last_there (a ∷ xs) x = last_there xs x

-- ---- one name more

grown_same : (ns : List (List ℕ)) → IsGrown ns ns
grown_same ns = record { stands = λ place name e. e }

grown_push : (ns : List (List ℕ)) (n : List ℕ) → IsGrown ns (ns ++ n ∷ [])
grown_push ns n = record { stands = λ place name e. there_before ns n place name e }

-- what an added name leaves as it was, and its own place
pub grown_by : {E : Type 0} (ns ms : List (List ℕ)) (n : List ℕ) (r : Result ℕ E) → OnOk r (ms ≡ ns ++ n ∷ []) → OnErr r (ms ≡ ns) → IsGrown ns ms
grown_by ns ms n (Ok place) added refused = subst (λ (xs : List (List ℕ)). IsGrown ns xs) (sym added) (grown_push ns n)
grown_by ns ms n (Err e) added refused = subst (λ (xs : List (List ℕ)). IsGrown ns xs) (sym refused) (grown_same ns)

pub there_by : {E : Type 0} (ns ms : List (List ℕ)) (n : List ℕ) (r : Result ℕ E) → OnOk r (ms ≡ ns ++ n ∷ []) → IfOk r (λ place. place ≡ length ns)
    → IfOk r (λ place. slice_get ms place ≡ Some n)
there_by ns ms n (Ok place) added is = ap₂ (λ (xs : List (List ℕ)) (i : ℕ). slice_get xs i) added is ∙ last_there ns n
there_by ns ms n (Err e) added is = tt

-- the name at its place
pub at_its_place : (ns : List (List ℕ)) (name : List ℕ) (place : ℕ) → Some place ≡ place_of name ns → slice_get ns place ≡ Some name
at_its_place ns name place is = place_there ns name place (sym is)

-- ---- what names that have grown leave as it was

stays_by : (o : Option (List ℕ)) (ms : List (List ℕ)) (place : ℕ) → IsSome o → ((n : List ℕ) → o ≡ Some n → slice_get ms place ≡ Some n) → slice_get ms place ≡ o
stays_by None ms place some h = cc
stays_by (Some n) ms place some h = h n refl

pub slot_stays : {ns ms : List (List ℕ)} (place : ℕ) → IsGrown ns ms → IsSome (slice_get ns place) → slice_get ms place ≡ slice_get ns place
slot_stays {ns} {ms} place g some = stays_by (slice_get ns place) ms place some (λ n e. g.stands place n e)

pub some_stays : {ns ms : List (List ℕ)} (place : ℕ) → IsGrown ns ms → IsSome (slice_get ns place) → IsSome (slice_get ms place)
some_stays place g some = subst (λ (o : Option (List ℕ)). IsSome o) (sym (slot_stays place g some)) some
