-- Sums of stand-ins sort by the product, then by the user, then by the day.
use Rattle.std.proofs.Common.{◌≡◌, ◌∙◌, ◌++◌, ◌∷◌, ℕ, ℤ, ap, ap₂, List, sym, true}
use Rattle.std.specs.Prelude.{IsTrue}
use Rattle.std.specs.Ordering.{int_cmp, is_lt, nat_cmp, ordering_then}
use Rattle.std.specs.Cmp.Lexicographic.{slice_cmp}
use Rattle.std.proofs.lemmas.List.{append_assoc}
use Rattle.iss_model.specs.declared.counted.Stood.{Stood}
use Rattle.iss_model.specs.Tokens.{is_token}
use Rattle.iss_model.specs.Sums.{int_key}
use Rattle.iss_named.specs.Known.{is_key_before}
use Rattle.iss_named.specs.Stood.{place_of_stood}
use Rattle.iss_sound_parts.proofs.KeyOrder.{has_no_zero, int_keys, regrouped, tails, token_plain}

by_parts : (p q u v : List ℕ) (m n : ℤ) → has_no_zero p ≡ true → has_no_zero q ≡ true → has_no_zero u ≡ true → has_no_zero v ≡ true
    → slice_cmp nat_cmp (p ++ 0 ∷ u ++ 0 ∷ int_key m) (q ++ 0 ∷ v ++ 0 ∷ int_key n)
    ≡ ordering_then (ordering_then (slice_cmp nat_cmp p q) (slice_cmp nat_cmp u v)) (int_cmp m n)
by_parts p q u v m n tp tq tu tv =
    ap₂ (slice_cmp nat_cmp) (append_assoc p (0 ∷ u) (0 ∷ int_key m)) (append_assoc q (0 ∷ v) (0 ∷ int_key n))
    ∙ tails p q (u ++ 0 ∷ int_key m) (v ++ 0 ∷ int_key n) tp tq
    ∙ ap (ordering_then (slice_cmp nat_cmp p q)) (tails u v (int_key m) (int_key n) tu tv ∙ ap (ordering_then (slice_cmp nat_cmp u v)) (int_keys m n))
    ∙ sym (regrouped (slice_cmp nat_cmp p q) (slice_cmp nat_cmp u v) (int_cmp m n))

pub stood_by_parts : (x y : Stood) → IsTrue (is_token x.product) → IsTrue (is_token y.product) → IsTrue (is_token x.user) → IsTrue (is_token y.user)
    → is_lt (ordering_then (ordering_then (slice_cmp nat_cmp x.product y.product) (slice_cmp nat_cmp x.user y.user)) (int_cmp x.day y.day))
    ≡ is_key_before (place_of_stood x) (place_of_stood y)
stood_by_parts x y p q u v =
    ap is_lt
    (sym (by_parts x.product y.product x.user y.user x.day y.day (token_plain x.product p) (token_plain y.product q) (token_plain x.user u) (token_plain y.user v)))
