-- Changes of kept sums in another order, and two changes as one.
use Rattle.std.proofs.Common.{◌≡◌, ℕ, ℤ, pos, ◌+ℤ◌, Bool, true, false, cond, List, [], ◌∷◌, refl, sym, ap, ap₂, ◌∙◌, arith}
use Rattle.std.proofs.lemmas.Int.{ints}
use Rattle.std.specs.Prelude.{Option, Some}
use Rattle.std.specs.Str.{bytes_eq}
use Rattle.std.specs.Cmp.Lexicographic.{nat_list_cmp_total}
use Rattle.std.specs.FinMap as map
use Rattle.std.proofs.lemmas.Map.Text.{is_eq-slice_cmp}
use Rattle.iss_model.specs.Sums.{Change}
use Rattle.iss_model.specs.state.Kept.{Kept, kept_at, after_change, after_changes}
use Rattle.iss_model.proofs.Names.{one_name, its_name, name-sym}
use Rattle.iss_model.proofs.KeptSums.{kept_at-after_change}

same_kept : (m n : Kept) → ((key : List ℕ) → map.get m key ≡ map.get n key) → m ≡ n
same_kept m n h = map.same_map nat_list_cmp_total (map.slice_cmp-IsAntisymmetric map.nat_cmp-IsAntisymmetric) m n h

-- what a map has after a change
pub get_after : (m : Kept) (c : Change) (key : List ℕ) → map.get (after_change m c) key ≡ cond (bytes_eq c.key key) (Some (kept_at m c.key +ℤ c.by)) (map.get m key)
get_after m c key =
    map.get-insert nat_list_cmp_total m c.key (kept_at m c.key +ℤ c.by) key
    ∙ ap (λ (b : Bool). cond b (Some (kept_at m c.key +ℤ c.by)) (map.get m key)) (is_eq-slice_cmp key c.key ∙ name-sym key c.key)

swapped : (x b c : ℤ) → (x +ℤ b) +ℤ c ≡ (x +ℤ c) +ℤ b
swapped x b c = omega (arith, ints)

nothing_more : (x : ℤ) → x +ℤ pos 0 ≡ x
nothing_more x = omega (arith, ints)

elsewhere : (m : Kept) (d : Change) (key : List ℕ) → bytes_eq d.key key ≡ false → kept_at (after_change m d) key ≡ kept_at m key
elsewhere m d key e =
    kept_at-after_change m d key ∙ ap (λ (b : Bool). kept_at m key +ℤ cond b d.by (pos 0)) e ∙ nothing_more (kept_at m key)

there : (m : Kept) (d : Change) (key : List ℕ) → bytes_eq d.key key ≡ true → kept_at (after_change m d) key ≡ kept_at m key +ℤ d.by
there m d key e = kept_at-after_change m d key ∙ ap (λ (b : Bool). kept_at m key +ℤ cond b d.by (pos 0)) e

crossed : (m : Kept) (c d : Change) (key : List ℕ) (at_c at_d : Bool) → bytes_eq c.key key ≡ at_c → bytes_eq d.key key ≡ at_d
    → cond at_d (Some (kept_at (after_change m c) d.key +ℤ d.by)) (cond at_c (Some (kept_at m c.key +ℤ c.by)) (map.get m key))
    ≡ cond at_c (Some (kept_at (after_change m d) c.key +ℤ c.by)) (cond at_d (Some (kept_at m d.key +ℤ d.by)) (map.get m key))
crossed m c d key false false e f = refl
crossed m c d key true false e f =
    ap (λ (z : ℤ). Some (z +ℤ c.by)) (sym (elsewhere m d c.key (ap (λ (k : List ℕ). bytes_eq d.key k) (one_name c.key key e) ∙ f)))
crossed m c d key false true e f =
    ap (λ (z : ℤ). Some (z +ℤ d.by)) (elsewhere m c d.key (ap (λ (k : List ℕ). bytes_eq c.key k) (one_name d.key key f) ∙ e))
crossed m c d key true true e f =
    let one : c.key ≡ d.key = one_name c.key key e ∙ sym (one_name d.key key f) in
    ap (λ (z : ℤ). Some (z +ℤ d.by)) (there m c d.key (ap (λ (k : List ℕ). bytes_eq c.key k) (one_name d.key key f) ∙ e))
    ∙ ap (λ (z : ℤ). Some z) (swapped (kept_at m d.key) c.by d.by)
    ∙ ap (λ (k : List ℕ). Some ((kept_at m k +ℤ d.by) +ℤ c.by)) (sym one)
    ∙ ap (λ (z : ℤ). Some (z +ℤ c.by)) (sym (there m d c.key (ap (λ (k : List ℕ). bytes_eq d.key k) (one_name c.key key e) ∙ f)))

pub in_either_order : (m : Kept) (c d : Change) → after_change (after_change m c) d ≡ after_change (after_change m d) c
in_either_order m c d =
    same_kept (after_change (after_change m c) d) (after_change (after_change m d) c)
    (λ key. get_after (after_change m c) d key
    ∙ ap (λ (o : Option ℤ). cond (bytes_eq d.key key) (Some (kept_at (after_change m c) d.key +ℤ d.by)) o) (get_after m c key)
    ∙ crossed m c d key (bytes_eq c.key key) (bytes_eq d.key key) refl refl
    ∙ sym (get_after (after_change m d) c key
    ∙ ap (λ (o : Option ℤ). cond (bytes_eq c.key key) (Some (kept_at (after_change m d) c.key +ℤ c.by)) o) (get_after m d key)))

over : (b : Bool) (x y : Option ℤ) (o : Option ℤ) → cond b x (cond b y o) ≡ cond b x o
over true x y o = refl
over false x y o = refl

at_its_key : (m : Kept) (key : List ℕ) (a : ℤ) → kept_at (after_change m (record { key = key; by = a })) key ≡ kept_at m key +ℤ a
at_its_key m key a = kept_at-after_change m (record { key = key; by = a }) key ∙ ap (λ (b : Bool). kept_at m key +ℤ cond b a (pos 0)) (its_name key)

sums_up : (x a b c : ℤ) → a +ℤ b ≡ c → (x +ℤ a) +ℤ b ≡ x +ℤ c
sums_up x a b c e = omega (arith, ints)

-- two changes at one key are one
pub as_one : (m : Kept) (key : List ℕ) (a b c : ℤ) → a +ℤ b ≡ c
    → after_change (after_change m (record { key = key; by = a })) (record { key = key; by = b }) ≡ after_change m (record { key = key; by = c })
as_one m key a b c e =
    same_kept (after_change (after_change m (record { key = key; by = a })) (record { key = key; by = b })) (after_change m (record { key = key; by = c }))
    (λ q. get_after (after_change m (record { key = key; by = a })) (record { key = key; by = b }) q
    ∙ ap₂ (λ (z : ℤ) (o : Option ℤ). cond (bytes_eq key q) (Some (z +ℤ b)) o) (at_its_key m key a) (get_after m (record { key = key; by = a }) q)
    ∙ over (bytes_eq key q) (Some ((kept_at m key +ℤ a) +ℤ b)) (Some (kept_at m key +ℤ a)) (map.get m q)
    ∙ ap (λ (z : ℤ). cond (bytes_eq key q) (Some z) (map.get m q)) (sums_up (kept_at m key) a b c e)
    ∙ sym (get_after m (record { key = key; by = c }) q))

-- a change may come last
pub comes_last : (m : Kept) (d : Change) (cs : List Change) → after_changes (after_change m d) cs ≡ after_change (after_changes m cs) d
comes_last m d [] = refl
comes_last m d (c ∷ cs) = ap (λ (sums : Kept). after_changes sums cs) (in_either_order m d c) ∙ comes_last (after_change m c) d cs
