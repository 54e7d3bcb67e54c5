-- The field of a list from the field of its things.
use Rattle.std.proofs.Common.{◌≡◌, ℕ, zero, suc, ◌<◌, Bool, true, List, [], ◌∷◌, ◌++◌, length, Option, Some, refl, sym, ap, subst, ◌∙◌, append_assoc}
use Rattle.std.specs.List.{flat_map, list_all}
use Rattle.std.proofs.lemmas.Bool.{lt-ltb, ltb-true, and_parts}
use Rattle.std.proofs.lemmas.Option.{same_Some}
use Rattle.std.proofs.lemmas.List.Concat.{flat_map-cons}
use Rattle.iss_model.specs.texts.Spelling.{AreBytes, number_bytes}
use Rattle.iss_codec.specs.Taking.{take_number}
use Rattle.iss_codec.proofs.NumberBytes.{wide_4}
use Rattle.iss_codec.proofs.TakenFields.{bind_some, IsSplit, IsField, split_on, number_takes, number_again}
use Rattle.iss_image_lists.specs.Spelling.{list_bytes}
use Rattle.iss_image_lists.specs.Taking.{take_things, take_list}
use Rattle.iss_image_lists.specs.Forms.{has_room, is_list}

-- n things that were taken
pub record AreTaken {A : Type 0} (thing_bytes : A → List ℕ) (form : A → Bool) (n : ℕ) (bytes : List ℕ) (x : List A × List ℕ) : Type 0 where
  pub split : IsSplit bytes (flat_map thing_bytes x.0) x.1
  pub count : length x.0 ≡ n
  pub each : list_all form x.0 ≡ true

module _ {A : Type 0} {take_thing : List ℕ → Option (A × List ℕ)} {thing_bytes : A → List ℕ} {form : A → Bool} (thing : IsField take_thing thing_bytes form) where
  things_take : (n : ℕ) (bytes : List ℕ) (x : List A × List ℕ) → AreBytes bytes → take_things take_thing n bytes ≡ Some x → AreTaken thing_bytes form n bytes x
  unfolding take_things
  things_take zero bytes x fits e =
      subst (AreTaken thing_bytes form 0 bytes) (same_Some ([], bytes) x e) (record { split = record { parts = refl; fits = fits }; count = refl; each = refl })
  things_take (suc n) bytes x fits e =
      let a = bind_some (take_thing bytes) _ x e in
      let b = bind_some (take_things take_thing n a.0.1) _ x a.2 in
      let first = thing.takes bytes a.0 fits a.1 in
      let others = things_take n a.0.1 b.0 first.0.fits b.1 in
      let both : IsSplit bytes (thing_bytes a.0.0 ++ flat_map thing_bytes b.0.0) b.0.1 = split_on bytes _ a.0.1 _ b.0.1 first.0 others.split in
      subst (AreTaken thing_bytes form (suc n) bytes) (same_Some (a.0.0 ∷ b.0.0, b.0.1) x b.2) (record {
        split = subst (λ (t : List ℕ). IsSplit bytes t b.0.1) (sym (flat_map-cons thing_bytes a.0.0 b.0.0)) both;
        count = ap suc others.count;
        each = rw (first.1, others.each) refl;
      })

  things_again : (things : List A) (rest : List ℕ) → list_all form things ≡ true → take_things take_thing (length things) (flat_map thing_bytes things ++ rest) ≡ Some (things, rest)
  unfolding take_things
  things_again [] rest h = refl
  things_again (x ∷ xs) rest h =
      let p = and_parts (form x) (list_all form xs) h in
      let regrouped : flat_map thing_bytes (x ∷ xs) ++ rest ≡ thing_bytes x ++ (flat_map thing_bytes xs ++ rest) =
      ap (λ (t : List ℕ). t ++ rest) (flat_map-cons thing_bytes x xs) ∙ append_assoc (thing_bytes x) (flat_map thing_bytes xs) rest in
      ap (take_things take_thing (suc (length xs))) regrouped
      ∙ rw (thing.again x (flat_map thing_bytes xs ++ rest) p.0, things_again xs rest p.1) refl

  -- A list is taken if its things are, and 4 bytes hold its length.
  pub list_field : IsField (take_list take_thing) (list_bytes thing_bytes) (is_list form)
  unfolding take_list
  list_field =
      record {
        takes = λ bytes x fits e.
            let n = bind_some (take_number 4 bytes) _ x e in
            let tn = number_takes 4 _ wide_4 bytes n.0 fits n.1 in
            let t = things_take n.0.0 n.0.1 x tn.0.fits n.2 in
            let both : IsSplit bytes (number_bytes 4 n.0.0 ++ flat_map thing_bytes x.0) x.1 = split_on bytes _ n.0.1 _ x.1 tn.0 t.split in
            let room : has_room 4 n.0.0 ≡ true = lt-ltb _ _ tn.1 in
            let long : has_room 4 (length x.0) ≡ true = ap (has_room 4) t.count ∙ room in
            (subst (λ (k : ℕ). IsSplit bytes (number_bytes 4 k ++ flat_map thing_bytes x.0) x.1) (sym t.count) both, rw (long, t.each) refl);
        again = λ things rest h.
            let p = and_parts (has_room 4 (length things)) (list_all form things) h in
            let short : length things < 4294967296 = ltb-true _ _ p.0 in
            ap (take_list take_thing) (append_assoc (number_bytes 4 (length things)) (flat_map thing_bytes things) rest)
            ∙ rw (number_again 4 _ wide_4 (length things) (flat_map thing_bytes things ++ rest) short) (things_again things rest p.1);
      }
