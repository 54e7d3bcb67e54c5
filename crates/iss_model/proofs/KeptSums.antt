-- A kept sum is the sum over all rows.
use Rattle.std.proofs.Common.{◌≡◌, ℕ, ℤ, pos, ◌+ℤ◌, Bool, true, false, cond, List, [], ◌∷◌, fold, refl, ap, ap₂, ◌∙◌, arith}
use Rattle.std.proofs.lemmas.Int.{ints}
use Rattle.std.specs.Prelude.{Option, Some, unwrap_or}
use Rattle.std.specs.Str.{bytes_eq}
use Rattle.std.specs.Ordering.{nat_cmp}
use Rattle.std.specs.Cmp.Lexicographic.{slice_cmp, nat_list_cmp_total}
use Rattle.std.specs.FinMap as map
use Rattle.std.proofs.lemmas.Map.Text.{is_eq-slice_cmp}
use Rattle.iss_model.specs.declared.entry.Entry.{Entry}
use Rattle.iss_model.specs.declared.entry.Row.{Row}
use Rattle.iss_model.specs.Sums.{Change, changed_at, sum_at}
use Rattle.iss_model.specs.state.Kept.{Kept, nothing_kept, kept_at, after_change, after_changes, kept_of}
use Rattle.iss_model.proofs.Names.{one_name, name-sym}

-- a change at a key is what it is by, elsewhere nothing
by_key : (sums : Kept) (c : Change) (key : List ℕ) (b : Bool) → bytes_eq c.key key ≡ b
    → unwrap_or (cond b (Some (kept_at sums c.key +ℤ c.by)) (map.get sums key)) (pos 0) ≡ kept_at sums key +ℤ cond b c.by (pos 0)
by_key sums c key true e = ap (λ (k : List ℕ). kept_at sums k +ℤ c.by) (one_name c.key key e)
by_key sums c key false e = omega (arith, ints)

pub kept_at-after_change : (sums : Kept) (c : Change) (key : List ℕ)
    → kept_at (after_change sums c) key ≡ kept_at sums key +ℤ cond (bytes_eq c.key key) c.by (pos 0)
kept_at-after_change sums c key =
    ap (λ (o : Option ℤ). unwrap_or o (pos 0)) (map.get-insert nat_list_cmp_total sums c.key (kept_at sums c.key +ℤ c.by) key)
    ∙ ap (λ (b : Bool). unwrap_or (cond b (Some (kept_at sums c.key +ℤ c.by)) (map.get sums key)) (pos 0)) (is_eq-slice_cmp key c.key ∙ name-sym key c.key)
    ∙ by_key sums c key (bytes_eq c.key key) refl

regrouped : (a b c : ℤ) → (a +ℤ b) +ℤ c ≡ a +ℤ (b +ℤ c)
regrouped a b c = omega (arith, ints)

pub kept_at-after_changes : (sums : Kept) (cs : List Change) (key : List ℕ) → kept_at (after_changes sums cs) key ≡ kept_at sums key +ℤ changed_at key cs
kept_at-after_changes sums [] key = omega (arith, ints)
kept_at-after_changes sums (c ∷ cs) key =
    kept_at-after_changes (after_change sums c) cs key
    ∙ ap (λ (z : ℤ). z +ℤ changed_at key cs) (kept_at-after_change sums c key)
    ∙ regrouped (kept_at sums key) (cond (bytes_eq c.key key) c.by (pos 0)) (changed_at key cs)

-- two definitions of what an entry changes, which come to the same at each key
abbrev pub ChangeAlike : (Entry → List Change) → (Entry → List Change) → Type 0
ChangeAlike f g = (e : Entry) (key : List ℕ) → changed_at key (f e) ≡ changed_at key (g e)

kept_from : (f g : Entry → List Change) → ChangeAlike f g → (sums : Kept) (z : ℤ) (key : List ℕ) (rows : List Row) → kept_at sums key ≡ z
    → kept_at (fold (λ s row. after_changes s (f row.entry)) sums rows) key ≡ fold (λ s row. s +ℤ changed_at key (g row.entry)) z rows
kept_from f g alike sums z key [] e = e
kept_from f g alike sums z key (row ∷ rows) e =
    kept_from f g alike (after_changes sums (f row.entry)) (z +ℤ changed_at key (g row.entry)) key rows
    (kept_at-after_changes sums (f row.entry) key ∙ ap₂ (λ (x y : ℤ). x +ℤ y) e (alike row.entry key))

-- what is kept at a key is the sum over all rows there
pub kept-sum : (f g : Entry → List Change) → ChangeAlike f g → (rows : List Row) (key : List ℕ) → kept_at (kept_of f rows) key ≡ sum_at g key rows
kept-sum f g alike rows key =
    kept_from f g alike nothing_kept (pos 0) key rows (ap (λ (o : Option ℤ). unwrap_or o (pos 0)) (map.get-empty (slice_cmp nat_cmp) key))

pub sum_kept : (f : Entry → List Change) (rows : List Row) (key : List ℕ) → kept_at (kept_of f rows) key ≡ sum_at f key rows
sum_kept f rows key = kept-sum f f (λ e k. refl) rows key

-- sums that change alike at each entry are kept alike
pub kept-alike : (f g : Entry → List Change) → ((e : Entry) → f e ≡ g e) → (sums : Kept) (rows : List Row)
    → fold (λ s row. after_changes s (f row.entry)) sums rows ≡ fold (λ s row. after_changes s (g row.entry)) sums rows
kept-alike f g alike sums [] = refl
kept-alike f g alike sums (row ∷ rows) =
    ap (λ (cs : List Change). fold (λ (s : Kept) (row : Row). after_changes s (f row.entry)) (after_changes sums cs) rows) (alike row.entry)
    ∙ kept-alike f g alike (after_changes sums (g row.entry)) rows
