-- Notices are kept again, one after the other.
use Rattle.std.proofs.Common.{◌≡◌, ℕ, zero, suc, ◌+◌, ◌<◌, ◌≤◌, nat_le, true, ◌&&◌, List, [], ◌∷◌, ◌++◌, drop, length, get_or, refl, sym, ap, ◌∙◌, subst, append-nil, append_assoc, arith}
use Rattle.std.specs.Prelude.{Some, slice_get}
use Rattle.std.proofs.lemmas.Bool.{leb-true, and_parts}
use Rattle.std.proofs.lemmas.Option.{slice_get_read}
use Rattle.std.specs.List.{AllByRecursion}
use Rattle.std.specs.Ordering.{nat_cmp}
use Rattle.std.specs.List.Sorted.{IsStrictlySortedBy}
use Rattle.std.specs.Map.{keys_of, values_of}
use Rattle.std.specs.BTreeMap.{insert_entry}
use Rattle.iss_model.specs.declared.call.Notice.{Notice}
use Rattle.iss_notice.specs.Pending.{rise_within, are_numbered}
use Rattle.iss_notice.specs.Kept.{IsAtNumber, AreNoticesKept}
use Rattle.iss_notice.proofs.PendingNotices.{kept_more, kept_none, values_more}

-- the first notices of a list are kept, and the others have later numbers
pub record IsRestored (made : ℕ) (list : List Notice) (pending : List (ℕ × Notice)) (others : List Notice) : Type 0 where
  pub last : ℕ
  pub within : last ≤ made
  pub kept : AreNoticesKept last pending
  pub whole : values_of pending ++ others ≡ list
  pub rising : rise_within (last + 1) made others ≡ true

pub none_restored : (made : ℕ) (list : List Notice) (pending : List (ℕ × Notice)) → pending ≡ [] → IsStrictlySortedBy nat_cmp (keys_of pending)
    → are_numbered made list ≡ true → IsRestored made list pending list
none_restored made list pending e ordered h = record {
  last = 0;
  within = omega arith;
  kept = kept_none pending e ordered;
  whole = ap (λ (es : List (ℕ × Notice)). values_of es ++ list) e;
  rising = h;
}

one_more : (made : ℕ) (list : List Notice) (old new : List (ℕ × Notice)) (notice : Notice) (others : List Notice) → IsRestored made list old (notice ∷ others)
    → new ≡ insert_entry nat_cmp old notice.number notice → IsStrictlySortedBy nat_cmp (keys_of new) → IsRestored made list new others
one_more made list old new notice others r entries ordered =
    let parts = and_parts (nat_le (r.last + 1) notice.number && nat_le notice.number made) (rise_within (notice.number + 1) made others) r.rising in
    let bounds = and_parts (nat_le (r.last + 1) notice.number) (nat_le notice.number made) parts.0 in
    let later : r.last < notice.number = omega (arith, leb-true _ _ bounds.0) in
    record {
      last = notice.number;
      within = leb-true _ _ bounds.1;
      kept = kept_more r.last notice.number old new notice r.kept later refl entries ordered;
      whole =
          ap (λ (notices : List Notice). notices ++ others) (values_more r.last notice.number old new notice r.kept later entries)
          ∙ append_assoc (values_of old) (notice ∷ []) others
          ∙ r.whole;
      rising = parts.1;
    }

dropped : (list : List Notice) (i : ℕ) (notice : Notice) → slice_get list i ≡ Some notice → drop i list ≡ notice ∷ drop (i + 1) list
dropped [] i notice e = cc
dropped (x ∷ list) zero notice e = cc
dropped (x ∷ list) (suc i) notice e =
    dropped list i notice e ∙ ap (λ (n : ℕ). notice ∷ drop n (x ∷ list)) (later i)
  where
    later : (i : ℕ) → suc (i + 1) ≡ suc i + 1
    later i = omega arith

-- one more notice of the list is kept
pub more_restored : (made : ℕ) (list : List Notice) (i : ℕ) (old new : List (ℕ × Notice)) (notice : Notice) → IsRestored made list old (drop i list)
    → i < length list → notice ≡ get_or list i notice → new ≡ insert_entry nat_cmp old notice.number notice → IsStrictlySortedBy nat_cmp (keys_of new)
    → IsRestored made list new (drop (i + 1) list)
more_restored made list i old new notice r within e entries ordered =
    one_more made list old new notice (drop (i + 1) list)
    (subst (λ (others : List Notice). IsRestored made list old others) (dropped list i notice (slice_get_read list (length list) i notice refl within e)) r) entries ordered

wider : (last made : ℕ) (es : List (ℕ × Notice)) → last ≤ made → AllByRecursion (IsAtNumber last) es → AllByRecursion (IsAtNumber made) es
wider last made [] h all = tt
wider last made (x ∷ es) h all =
    (record { own = all.0.own; first = all.0.first; last = let below = all.0.last in omega (arith, below, h) }, wider last made es h all.1)

pub restored_kept : (made : ℕ) (list : List Notice) (pending : List (ℕ × Notice)) (others : List Notice) → IsRestored made list pending others → AreNoticesKept made pending
restored_kept made list pending others r =
    record { each = wider r.last made pending r.within r.kept.each; rising = r.kept.rising }

pub restored_all : (made : ℕ) (list : List Notice) (pending : List (ℕ × Notice)) → IsRestored made list pending [] → values_of pending ≡ list
restored_all made list pending r = sym (append-nil (values_of pending)) ∙ r.whole
