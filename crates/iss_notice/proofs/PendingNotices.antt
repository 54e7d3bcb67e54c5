-- The notices by number: one more, one less, and a notice that is found.
use Rattle.std.proofs.Common.{◌≡◌, ℕ, ◌<◌, ◌≤◌, nat_lt, nat_le, ◌==◌, Bool, true, false, cond, not, ◌&&◌, ◌||◌, List, [], ◌∷◌, ◌++◌, map, filter, refl, sym, ap, ◌∙◌, subst, true≢false, arith}
use Rattle.std.proofs.lemmas.Bool.Decides.{nat_tests}
use Rattle.std.specs.Prelude.{Option, Some, Ok, Err, IsTrue, IsErrOf, is_some, is_ok, find}
use Rattle.std.specs.List.{AllByRecursion, list_any}
use Rattle.std.specs.List.Sorted.{IsStrictlySortedBy}
use Rattle.std.specs.declared.cmp.Ordering.{Ordering}
use Rattle.std.specs.declared.cmp.Ordering.TheVariants.{Less, Equal, Greater}
use Rattle.std.specs.Ordering.{nat_cmp, match_ordering, is_eq}
use Rattle.std.specs.Cmp.{nat_cmp_total, unsigned_ties, Equal-is}
use Rattle.std.specs.BTreeMap.{insert_entry, is_at}
use Rattle.std.specs.Map.{keys_of, values_of, lookup, remove_entry}
use Rattle.iss_model.specs.declared.call.Notice.{Notice}
use Rattle.iss_model.specs.state.Cores.{Outbox, with_acked}
use Rattle.iss_notice.specs.declared.notices.NoticeFault.{NoticeFault}
use Rattle.iss_notice.specs.declared.notices.NoticeFault.TheVariants as fault
use Rattle.iss_notice.specs.Pending.{is_made, is_pending, pending_notice}
use Rattle.iss_notice.specs.Kept.{IsAtNumber, AreNoticesKept}

abbrev Entry : Type 0
Entry = ℕ × Notice

above : (n m : ℕ) → m < n → nat_cmp n m ≡ Greater
above n m h =
    ap (λ (t : Bool). cond t Less (cond (n == m) Equal Greater)) (not_less n m h)
    ∙ ap (λ (t : Bool). cond t Equal Greater) (not_equal n m h)
  where
    not_less : (n m : ℕ) → m < n → nat_lt n m ≡ false
    not_less n m h = grind (arith, nat_tests)

    not_equal : (n m : ℕ) → m < n → (n == m) ≡ false
    not_equal n m h = grind (arith, nat_tests)

-- a notice of a later number goes after the others
pub goes_last : (made : ℕ) (es : List Entry) (n : ℕ) (notice : Notice) → made < n → AllByRecursion (IsAtNumber made) es → insert_entry nat_cmp es n notice ≡ es ++ (n, notice) ∷ []
goes_last made [] n notice e all = refl
goes_last made (x ∷ es) n notice e all =
    ap (λ (r : Ordering). match_ordering r ((n, notice) ∷ x ∷ es) ((x.0, notice) ∷ es) (x ∷ insert_entry nat_cmp es n notice)) (above n x.0 (let last = all.0.last in omega arith))
    ∙ ap (λ (rest : List Entry). x ∷ rest) (goes_last made es n notice e all.1)

values_push : (es : List Entry) (n : ℕ) (notice : Notice) → values_of (es ++ (n, notice) ∷ []) ≡ values_of es ++ notice ∷ []
values_push [] n notice = refl
values_push (x ∷ es) n notice = ap (λ (rest : List Notice). x.1 ∷ rest) (values_push es n notice)

kept_push : (made : ℕ) (es : List Entry) (n : ℕ) (notice : Notice) → made < n → notice.number ≡ n → AllByRecursion (IsAtNumber made) es → AllByRecursion (IsAtNumber n) (es ++ (n, notice) ∷ [])
kept_push made [] n notice e own all = (record { own = own; first = omega arith; last = omega arith }, tt)
kept_push made (x ∷ es) n notice e own all =
    (record { own = all.0.own; first = all.0.first; last = let last = all.0.last in omega arith }, kept_push made es n notice e own all.1)

-- one more notice
pub kept_more : (made n : ℕ) (old new : List Entry) (notice : Notice) → AreNoticesKept made old → made < n → notice.number ≡ n
    → new ≡ insert_entry nat_cmp old n notice → IsStrictlySortedBy nat_cmp (keys_of new) → AreNoticesKept n new
kept_more made n old new notice a e own entries rising = record {
  each = subst (λ (es : List Entry). AllByRecursion (IsAtNumber n) es) (sym (entries ∙ goes_last made old n notice e a.each)) (kept_push made old n notice e own a.each);
  rising = rising;
}

pub values_more : (made n : ℕ) (old new : List Entry) (notice : Notice) → AreNoticesKept made old → made < n → new ≡ insert_entry nat_cmp old n notice
    → values_of new ≡ values_of old ++ notice ∷ []
values_more made n old new notice a e entries = ap (λ (es : List Entry). values_of es) (entries ∙ goes_last made old n notice e a.each) ∙ values_push old n notice

-- no notice, in an empty tree
pub kept_none : (pending : List Entry) → pending ≡ [] → IsStrictlySortedBy nat_cmp (keys_of pending) → AreNoticesKept 0 pending
kept_none pending e rising = record { each = subst (λ (es : List Entry). AllByRecursion (IsAtNumber 0) es) (sym e) tt; rising = rising }

all_without : (P : Entry → Type 0) (test : ℕ → Bool) (es : List Entry) → AllByRecursion P es → AllByRecursion P (remove_entry test es)
all_without P test [] all = tt
all_without P test (x ∷ es) all =
    elim (test x.0) as (λ t. AllByRecursion P (cond t es (x ∷ remove_entry test es))) [
      | true ↦ all.1
      | false ↦ (all.0, all_without P test es all.1)
    ]

-- one less notice
pub kept_less : (made n : ℕ) (old new : List Entry) → AreNoticesKept made old → new ≡ remove_entry (is_at (nat_cmp n)) old → IsStrictlySortedBy nat_cmp (keys_of new) → AreNoticesKept made new
kept_less made n old new a entries rising = record {
  each = subst (λ (es : List Entry). AllByRecursion (IsAtNumber made) es) (sym entries) (all_without (IsAtNumber made) (is_at (nat_cmp n)) old a.each);
  rising = rising;
}

-- whether a notice isn't of this number
abbrev pub is_other : ℕ → Notice → Bool
is_other n notice = not (n == notice.number)

others_stay : (made n m : ℕ) (es : List Entry) → nat_cmp n m ≡ Equal → AllByRecursion (λ k. nat_cmp m k ≡ Less) (keys_of es) → AllByRecursion (IsAtNumber made) es → filter (is_other n) (values_of es) ≡ values_of es
others_stay made n m [] e above all = refl
others_stay made n m (x ∷ es) e above all =
    let less : nat_cmp n x.0 ≡ Less = nat_cmp_total.congr n m x.0 e ∙ above.0 in
    let apart : (n == x.1.number) ≡ false = ap (λ (k : ℕ). n == k) all.0.own ∙ unsigned_ties n x.0 ∙ ap is_eq less in
    ap (λ (b : Bool). cond (not b) (x.1 ∷ filter (is_other n) (values_of es)) (filter (is_other n) (values_of es))) apart
    ∙ ap (λ (rest : List Notice). x.1 ∷ rest) (others_stay made n m es e above.1 all.1)

less_by : (made n : ℕ) (x : Entry) (es : List Entry) (b : Bool) → is_at (nat_cmp n) x.0 ≡ b → (n == x.1.number) ≡ b → AllByRecursion (λ k. nat_cmp x.0 k ≡ Less) (keys_of es)
    → AllByRecursion (IsAtNumber made) es → values_of (remove_entry (is_at (nat_cmp n)) es) ≡ filter (is_other n) (values_of es)
    → values_of (cond b es (x ∷ remove_entry (is_at (nat_cmp n)) es)) ≡ filter (is_other n) (x.1 ∷ values_of es)
less_by made n x es true at e above all rest =
    sym (ap (λ (b : Bool). cond (not b) (x.1 ∷ filter (is_other n) (values_of es)) (filter (is_other n) (values_of es))) e
    ∙ others_stay made n x.0 es ((Equal-is (nat_cmp n x.0)).0 at) above all)
less_by made n x es false at e above all rest =
    ap (λ (xs : List Notice). x.1 ∷ xs) rest
    ∙ sym (ap (λ (b : Bool). cond (not b) (x.1 ∷ filter (is_other n) (values_of es)) (filter (is_other n) (values_of es))) e)

-- to take a number out is to keep the notices of the others
less : (made n : ℕ) (es : List Entry) → AllByRecursion (IsAtNumber made) es → IsStrictlySortedBy nat_cmp (keys_of es) → values_of (remove_entry (is_at (nat_cmp n)) es) ≡ filter (is_other n) (values_of es)
unfolding IsStrictlySortedBy
less made n [] all rising = refl
less made n (x ∷ es) all rising =
    less_by made n x es (is_at (nat_cmp n) x.0) refl (ap (λ (k : ℕ). n == k) all.0.own ∙ unsigned_ties n x.0) rising.0 all.1 (less made n es all.1 rising.1)

pub values_less : (made n : ℕ) (old new : List Entry) → AreNoticesKept made old → new ≡ remove_entry (is_at (nat_cmp n)) old → values_of new ≡ filter (is_other n) (values_of old)
values_less made n old new a entries = ap (λ (es : List Entry). values_of es) entries ∙ less made n old a.each a.rising

turned : (n m : ℕ) → (n == m) ≡ (m == n)
turned n m = grind (arith, nat_tests)

own_test : (made n : ℕ) (x : Entry) → IsAtNumber made x → is_at (nat_cmp n) x.0 ≡ (x.1.number == n)
own_test made n x own = sym (unsigned_ties n x.0) ∙ turned n x.0 ∙ ap (λ (k : ℕ). k == n) (sym own.own)

-- what a number finds
found : (made n : ℕ) (es : List Entry) → AllByRecursion (IsAtNumber made) es → lookup (is_at (nat_cmp n)) es ≡ find (λ notice. notice.number == n) (values_of es)
found made n [] all = refl
found made n (x ∷ es) all =
    ap (λ (b : Bool). cond b (Some x.1) (lookup (is_at (nat_cmp n)) es)) (own_test made n x all.0)
    ∙ ap (λ (o : Option Notice). cond (x.1.number == n) (Some x.1) o) (found made n es all.1)

pub found_notice : (made n : ℕ) (pending : List Entry) → AreNoticesKept made pending → lookup (is_at (nat_cmp n)) pending ≡ pending_notice n (record { made = made; pending = values_of pending })
found_notice made n pending a = found made n pending a.each

some_any : (n : ℕ) (ns : List Notice) → is_some (find (λ notice. notice.number == n) ns) ≡ list_any (λ notice. notice.number == n) ns
some_any n [] = refl
some_any n (x ∷ ns) =
    elim (x.number == n) as (λ t. is_some (cond t (Some x) (find (λ notice. notice.number == n) ns)) ≡ (t || list_any (λ notice. notice.number == n) ns)) [
      | true ↦ refl
      | false ↦ some_any n ns
    ]

-- whether a number finds one
pub found_any : (made n : ℕ) (pending : List Entry) → AreNoticesKept made pending → is_some (lookup (is_at (nat_cmp n)) pending) ≡ is_pending n (record { made = made; pending = values_of pending })
found_any made n pending a = ap is_some (found made n pending a.each) ∙ some_any n (values_of pending)

pub numbers : (made : ℕ) (es : List Entry) → AllByRecursion (IsAtNumber made) es → keys_of es ≡ map (λ notice. notice.number) (values_of es)
numbers made [] all = refl
numbers made (x ∷ es) all = let rest = numbers made es all.1 in λ i. sym all.0.own i ∷ rest i

not_pending : (made n : ℕ) (es : List Entry) → (nat_le 1 n && nat_le n made) ≡ false → AllByRecursion (IsAtNumber made) es → list_any (λ notice. notice.number == n) (values_of es) ≡ false
not_pending made n [] h all = refl
not_pending made n (x ∷ es) h all =
    ap (λ (b : Bool). b || list_any (λ notice. notice.number == n) (values_of es)) (other x.1.number x.0 made n all.0.own all.0.first all.0.last h)
    ∙ not_pending made n es h all.1
  where
    other : (m k made n : ℕ) → m ≡ k → 0 < k → k ≤ made → (nat_le 1 n && nat_le n made) ≡ false → (m == n) ≡ false
    other m k made n e first last h = grind (arith, nat_tests)

-- a notice that wasn't made isn't pending
pub none_pending : (made n : ℕ) (pending : List Entry) → AreNoticesKept made pending → is_made n (record { made = made; pending = values_of pending }) ≡ false
    → is_pending n (record { made = made; pending = values_of pending }) ≡ false
none_pending made n pending a h = not_pending made n pending h a.each

-- in the outbox that contracts see, a notice is pending exactly if it is kept
pub pending_is : (made n : ℕ) (pending : List Entry) (o : Outbox) → AreNoticesKept made pending → record { made = made; pending = values_of pending } ≡ o
    → is_some (lookup (is_at (nat_cmp n)) pending) ≡ is_pending n o
pending_is made n pending o a e = found_any made n pending a ∙ ap (λ (x : Outbox). is_pending n x) e

pub unmade : (made n : ℕ) (pending : List Entry) (o : Outbox) → AreNoticesKept made pending → record { made = made; pending = values_of pending } ≡ o
    → is_made n o ≡ false → is_pending n o ≡ false
unmade made n pending o a e =
    subst (λ (x : Outbox). is_made n x ≡ false → is_pending n x ≡ false) e (none_pending made n pending a)

pub made_is : (made n : ℕ) (pending : List Entry) (o : Outbox) → record { made = made; pending = values_of pending } ≡ o → (n ≡ 0 → ⊥) → n ≤ made → is_made n o ≡ true
made_is made n pending o e some h = ap (λ (x : Outbox). is_made n x) (sym e) ∙ within made n some h
  where
    within : (made n : ℕ) → (n ≡ 0 → ⊥) → n ≤ made → (nat_le 1 n && nat_le n made) ≡ true
    within made n some h = grind (arith, nat_tests)

not_true : (b : Bool) → not b ≡ true → b ≡ false
not_true true e = sym e
not_true false e = refl

-- what acknowledging a notice that waits is
pub acked_unknown : (p m : Bool) → p ≡ true → (m ≡ false → p ≡ false)
    → (IsErrOf {T = Unit {0}} {E = NoticeFault} (Ok tt) fault.Unknown → IsTrue (not m)) × (IsTrue (not m) → IsErrOf {T = Unit {0}} {E = NoticeFault} (Ok tt) fault.Unknown)
acked_unknown p m h k = (λ e. absurd (true≢false (ap is_ok e)), λ e. absurd (true≢false (sym h ∙ k (not_true m e))))

pub acked_already : (p m : Bool) → p ≡ true
    → (IsErrOf {T = Unit {0}} {E = NoticeFault} (Ok tt) fault.Already → IsTrue (m && not p)) × (IsTrue (m && not p) → IsErrOf {T = Unit {0}} {E = NoticeFault} (Ok tt) fault.Already)
acked_already p m h = (λ e. absurd (true≢false (ap is_ok e)), λ e. absurd (true≢false (sym e ∙ ap (λ (b : Bool). m && not b) h ∙ neither m)))
  where
    neither : (m : Bool) → (m && false) ≡ false
    neither true = refl
    neither false = refl

-- acknowledging a notice that doesn't wait
pub refused_exactly : (p : Bool) → p ≡ false → (false ≡ true → IsTrue p) × (IsTrue p → false ≡ true)
refused_exactly p h = (λ e. absurd (true≢false (sym e)), λ e. sym h ∙ e)

pub refused_already : (p m : Bool) → p ≡ false → m ≡ true
    → (IsErrOf {T = Unit {0}} {E = NoticeFault} (Err fault.Already) fault.Already → IsTrue (m && not p)) × (IsTrue (m && not p) → IsErrOf {T = Unit {0}} {E = NoticeFault} (Err fault.Already) fault.Already)
refused_already p m h k = (λ e. ap (λ (b : Bool). m && not b) h ∙ ap (λ (b : Bool). b && true) k, λ e. refl)

-- the outbox after a number is taken out of what is kept
pub outbox_less : (made n : ℕ) (old new : List Entry) (o : Outbox) → AreNoticesKept made old → record { made = made; pending = values_of old } ≡ o
    → new ≡ remove_entry (is_at (nat_cmp n)) old → record { made = made; pending = values_of new } ≡ with_acked o n
outbox_less made n old new o a e entries =
    ap (λ (notices : List Notice). record { made = made; pending = notices }) (values_less made n old new a entries)
    ∙ ap (λ (x : Outbox). with_acked x n) e
