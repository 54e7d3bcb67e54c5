-- Kept sums are made again if each of their keys is read again.
use Rattle.std.proofs.Common.{◌≡◌, ◌∙◌, ◌++◌, ◌∷◌, ◌&&◌, ℕ, zero, suc, ℤ, ap, Bool, cond, false, fold, List, [], map, refl, sym, true}
use Rattle.std.specs.List.{list_all}
use Rattle.std.specs.Ordering.{is_eq, is_lt, nat_cmp}
use Rattle.std.specs.Cmp.Lexicographic.{slice_cmp}
use Rattle.std.specs.FinMap as finite
use Rattle.std.proofs.lemmas.Bool.{and_parts}
use Rattle.iss_model.specs.declared.entry.Entry.{Entry}
use Rattle.iss_model.specs.declared.entry.Row.{Row}
use Rattle.iss_model.specs.Sums.{Change, sum_at}
use Rattle.iss_model.specs.state.Kept.{kept_of}
use Rattle.iss_model.proofs.Lists.{map-map, map-where}
use Rattle.iss_state.proofs.docket.Lists.{both_so}
use Rattle.iss_states.specs.Keys.{after_token, first_token, has_no_zero}
use Rattle.iss_states.specs.OverBook.{keys_changed, keys_with}
use Rattle.iss_states.proofs.KeptKeys.{entries_left}
use Rattle.iss_states.proofs.Rebuilt.{kept_again}

-- the first token of a key, and what comes after it ----

pub first_again : (text rest : List ℕ) → has_no_zero text ≡ true → first_token (text ++ 0 ∷ rest) ≡ text
first_again [] rest h = refl
first_again (zero ∷ text) rest h = cc
first_again (suc n ∷ text) rest h = ap (λ (t : List ℕ). suc n ∷ t) (first_again text rest h)

pub after_again : (text rest : List ℕ) → has_no_zero text ≡ true → after_token (text ++ 0 ∷ rest) ≡ rest
after_again [] rest h = refl
after_again (zero ∷ text) rest h = cc
after_again (suc n ∷ text) rest h = after_again text rest h

-- what the keys of rows pass ----

module _ (p : List ℕ → Bool) where
  key_passes : (ks : List (List ℕ)) (key : List ℕ) → p key ≡ true → list_all p ks ≡ true → list_all p (keys_with ks key) ≡ true
  key_passes [] key h all = ap (λ (b : Bool). b && true) h
  key_passes (k ∷ ks) key h all =
      let both = and_parts (p k) (list_all p ks) all in
      by (is_lt (slice_cmp nat_cmp key k)) (is_eq (slice_cmp nat_cmp key k)) (key_passes ks key h both.1) both.0
    where
      by : (first same : Bool) → list_all p (keys_with ks key) ≡ true → p k ≡ true → list_all p (cond first (key ∷ k ∷ ks) (cond same (k ∷ ks) (k ∷ keys_with ks key))) ≡ true
      by true same rest its = both_so (p key) (list_all p (k ∷ ks)) h all
      by false true rest its = all
      by false false rest its = both_so (p k) (list_all p (keys_with ks key)) its rest

  pub changes_pass : (ks : List (List ℕ)) (cs : List Change) → list_all (λ c. p c.key) cs ≡ true → list_all p ks ≡ true → list_all p (fold (λ ks c. keys_with ks c.key) ks cs) ≡ true
  changes_pass ks [] h all = all
  changes_pass ks (c ∷ cs) h all =
      let both = and_parts (p c.key) (list_all (λ (c : Change). p c.key) cs) h in
      changes_pass (keys_with ks c.key) cs both.1 (key_passes ks c.key both.0 all)

  rows_pass : (changes : Entry → List Change) (q : Entry → Bool) → ((e : Entry) → q e ≡ true → list_all (λ c. p c.key) (changes e) ≡ true) → (ks : List (List ℕ)) (rows : List Row)
      → list_all (λ row. q row.entry) rows ≡ true → list_all p ks ≡ true → list_all p (fold (λ keys row. fold (λ keys c. keys_with keys c.key) keys (changes row.entry)) ks rows) ≡ true
  rows_pass changes q each ks [] h all = all
  rows_pass changes q each ks (row ∷ rows) h all =
      let both = and_parts (q row.entry) (list_all (λ (row : Row). q row.entry) rows) h in
      rows_pass changes q each (fold (λ keys c. keys_with keys c.key) ks (changes row.entry)) rows both.1 (changes_pass ks (changes row.entry) (each row.entry both.0) all)

-- a test that the keys of each row pass all keys pass
pub keys_pass : (p : List ℕ → Bool) (changes : Entry → List Change) (q : Entry → Bool) → ((e : Entry) → q e ≡ true → list_all (λ c. p c.key) (changes e) ≡ true) → (rows : List Row)
    → list_all (λ row. q row.entry) rows ≡ true → list_all p (keys_changed changes rows) ≡ true
keys_pass p changes q each rows h = rows_pass p changes q each [] rows h refl

-- sums at the same keys are made again from those of another kind, if each is read so at a key that passes
pub sums_again : (p : List ℕ → Bool) (changes others : Entry → List Change) (rows : List Row) (read : List ℕ × ℤ → List ℕ × ℤ)
    → ((k : List ℕ) → p k ≡ true → read (k, sum_at changes k rows) ≡ (k, sum_at others k rows)) → keys_changed changes rows ≡ keys_changed others rows
    → list_all p (keys_changed changes rows) ≡ true → finite.from_entries (map read (finite.entries (kept_of changes rows))) ≡ kept_of others rows
sums_again p changes others rows read same keys all =
    let at : List ℕ → List ℕ × ℤ = λ (k : List ℕ). (k, sum_at changes k rows) in
    let then : List ℕ → List ℕ × ℤ = λ (k : List ℕ). (k, sum_at others k rows) in
    ap finite.from_entries
    (ap (λ (es : List (List ℕ × ℤ)). map read es) (entries_left changes rows)
    ∙ map-map at read (keys_changed changes rows)
    ∙ map-where p (λ (k : List ℕ). read (at k)) then same (keys_changed changes rows) all
    ∙ ap (λ (ks : List (List ℕ)). map then ks) keys
    ∙ sym (entries_left others rows))
    ∙ kept_again (kept_of others rows)
