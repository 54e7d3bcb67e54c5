-- Notices in boxes: what is done with the boxes is done with the notices.
use Rattle.std.proofs.Common.{◌≡◌, ℕ, ◌∷◌, [], List, Bool, true, false, cond, refl, sym, ap, ◌∙◌, subst, map, length, suc}
use Rattle.std.specs.List.Sorted.{IsStrictlySortedBy}
use Rattle.std.specs.Global.{Box}
use Rattle.std.specs.Prelude.{Option, Some, None, is_some, box_value}
use Rattle.std.specs.Option.{option_map}
use Rattle.std.specs.declared.cmp.Ordering.{Ordering}
use Rattle.std.specs.declared.cmp.Ordering.TheVariants.{Less, Equal, Greater}
use Rattle.std.specs.Ordering.{nat_cmp, match_ordering}
use Rattle.std.specs.BTreeMap.{insert_entry}
use Rattle.std.specs.Map.{keys_of, values_of, lookup, remove_entry}
use Rattle.iss_model.specs.declared.call.Notice.{Notice}
use Rattle.iss_notice.specs.Kept.{unboxed}

abbrev Boxed : Type 0
Boxed = ℕ × Box Notice

pub unboxed_keys : (es : List Boxed) → keys_of (unboxed es) ≡ keys_of es
unboxed_keys [] = refl
unboxed_keys (x ∷ es) = ap (λ (ks : List ℕ). x.0 ∷ ks) (unboxed_keys es)

inserted : (r : Ordering) (n : ℕ) (boxed : Box Notice) (x : Boxed) (es : List Boxed) → unboxed (insert_entry nat_cmp es n boxed) ≡ insert_entry nat_cmp (unboxed es) n (box_value boxed)
    → unboxed (match_ordering r ((n, boxed) ∷ x ∷ es) ((x.0, boxed) ∷ es) (x ∷ insert_entry nat_cmp es n boxed))
    ≡ match_ordering r ((n, box_value boxed) ∷ (x.0, box_value x.1) ∷ unboxed es) ((x.0, box_value boxed) ∷ unboxed es) ((x.0, box_value x.1) ∷ insert_entry nat_cmp (unboxed es) n (box_value boxed))
inserted Less n boxed x es e = refl
inserted Equal n boxed x es e = refl
inserted Greater n boxed x es e = ap (λ (rest : List (ℕ × Notice)). (x.0, box_value x.1) ∷ rest) e

pub unboxed_insert : (es : List Boxed) (n : ℕ) (boxed : Box Notice) → unboxed (insert_entry nat_cmp es n boxed) ≡ insert_entry nat_cmp (unboxed es) n (box_value boxed)
unboxed_insert [] n boxed = refl
unboxed_insert (x ∷ es) n boxed = inserted (nat_cmp n x.0) n boxed x es (unboxed_insert es n boxed)

removed : (b : Bool) (test : ℕ → Bool) (x : Boxed) (es : List Boxed) → unboxed (remove_entry test es) ≡ remove_entry test (unboxed es)
    → unboxed (cond b es (x ∷ remove_entry test es)) ≡ cond b (unboxed es) ((x.0, box_value x.1) ∷ remove_entry test (unboxed es))
removed true test x es e = refl
removed false test x es e = ap (λ (rest : List (ℕ × Notice)). (x.0, box_value x.1) ∷ rest) e

pub unboxed_remove : (test : ℕ → Bool) (es : List Boxed) → unboxed (remove_entry test es) ≡ remove_entry test (unboxed es)
unboxed_remove test [] = refl
unboxed_remove test (x ∷ es) = removed (test x.0) test x es (unboxed_remove test es)

looked_up : (b : Bool) (x : Boxed) (o : Option (Box Notice)) (p : Option Notice) → option_map box_value o ≡ p → option_map box_value (cond b (Some x.1) o) ≡ cond b (Some (box_value x.1)) p
looked_up true x o p e = refl
looked_up false x o p e = e

pub unboxed_lookup : (test : ℕ → Bool) (es : List Boxed) → option_map box_value (lookup test es) ≡ lookup test (unboxed es)
unboxed_lookup test [] = refl
unboxed_lookup test (x ∷ es) = looked_up (test x.0) x (lookup test es) (lookup test (unboxed es)) (unboxed_lookup test es)

pub unboxed_found : (test : ℕ → Bool) (es : List Boxed) → is_some (lookup test es) ≡ is_some (lookup test (unboxed es))
unboxed_found test es = same (lookup test es) ∙ ap is_some (unboxed_lookup test es)
  where
    same : (o : Option (Box Notice)) → is_some o ≡ is_some (option_map box_value o)
    same None = refl
    same (Some x) = refl

pub unboxed_values : (es : List Boxed) → values_of (unboxed es) ≡ map box_value (values_of es)
unboxed_values [] = refl
unboxed_values (x ∷ es) = ap (λ (rest : List Notice). box_value x.1 ∷ rest) (unboxed_values es)

-- one more box
pub more_noted : (old new : List Boxed) (n : ℕ) (boxed : Box Notice) (notice : Notice) → box_value boxed ≡ notice → new ≡ insert_entry nat_cmp old n boxed → unboxed new ≡ insert_entry nat_cmp (unboxed old) n notice
more_noted old new n boxed notice same e = ap unboxed e ∙ unboxed_insert old n boxed ∙ ap (λ (x : Notice). insert_entry nat_cmp (unboxed old) n x) same

-- the numbers of boxes rise if those of their notices do
pub rising_noted : (es : List Boxed) → IsStrictlySortedBy nat_cmp (keys_of es) → IsStrictlySortedBy nat_cmp (keys_of (unboxed es))
rising_noted es rising = subst (λ (ks : List ℕ). IsStrictlySortedBy nat_cmp ks) (sym (unboxed_keys es)) rising

pub unboxed_length : (es : List Boxed) → length es ≡ length (values_of (unboxed es))
unboxed_length [] = refl
unboxed_length (x ∷ es) = ap suc (unboxed_length es)
