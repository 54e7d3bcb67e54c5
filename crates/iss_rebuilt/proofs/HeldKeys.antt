-- The keys of what transactions hold, and when what is held of a user is the sum of it.
use Rattle.std.proofs.Common.{◌≡◌, ◌∙◌, ◌∷◌, ◌||◌, ◌+ℤ◌, ℕ, ℤ, pos, ap, Bool, cond, false, List, [], refl, true}
use Rattle.std.specs.Prelude.{Option, Some, None, is_some, unwrap_or, ◌≤ℤ◌}
use Rattle.std.specs.List.{list_any}
use Rattle.std.specs.Str.{bytes_eq}
use Rattle.std.specs.Cmp.Lexicographic.{nat_list_cmp_total, slice_cmp}
use Rattle.std.specs.FinMap as finite
use Rattle.std.specs.Ordering.{nat_cmp}
use Rattle.std.proofs.lemmas.Map.Text.{is_eq-slice_cmp}
use Rattle.iss_model.specs.declared.account.Part.TheVariants as part
use Rattle.iss_model.specs.declared.txn.Txn.{Txn}
use Rattle.iss_model.specs.Sums.{Change, part_key, user_key}
use Rattle.iss_model.specs.state.Cores.{CoreState, SumsByTxn}
use Rattle.iss_model.specs.state.Kept.{Kept, after_change, after_changes, kept_at, nothing_kept}
use Rattle.iss_model.proofs.Names.{name-sym}
use Rattle.iss_state.specs.Needs.{begun_txns}

-- keys ----

-- something was changed at a key
abbrev pub has_key : Kept → List ℕ → Bool
has_key m key = is_some (finite.get m key)

pub no_key : (m : Kept) (key : List ℕ) → has_key m key ≡ false → kept_at m key ≡ pos 0
no_key m key h = by (finite.get m key) h
  where
    by : (o : Option ℤ) → is_some o ≡ false → unwrap_or o (pos 0) ≡ pos 0
    by None h = refl
    by (Some z) h = cc

key_after : (m : Kept) (c : Change) (key : List ℕ) → has_key (after_change m c) key ≡ (bytes_eq c.key key || has_key m key)
key_after m c key =
    ap is_some (finite.get-insert nat_list_cmp_total m c.key (kept_at m c.key +ℤ c.by) key)
    ∙ ap (λ (b : Bool). is_some (cond b (Some (kept_at m c.key +ℤ c.by)) (finite.get m key))) (is_eq-slice_cmp key c.key ∙ name-sym key c.key)
    ∙ by (bytes_eq c.key key)
  where
    by : (b : Bool) → is_some (cond b (Some (kept_at m c.key +ℤ c.by)) (finite.get m key)) ≡ (b || has_key m key)
    by true = refl
    by false = refl

pub keys_after : (m : Kept) (cs : List Change) (key : List ℕ) → has_key (after_changes m cs) key ≡ (list_any (λ c. bytes_eq c.key key) cs || has_key m key)
keys_after m [] key = refl
keys_after m (c ∷ cs) key =
    keys_after (after_change m c) cs key ∙ ap (λ (b : Bool). list_any (λ c. bytes_eq c.key key) cs || b) (key_after m c key)
    ∙ by (list_any (λ c. bytes_eq c.key key) cs) (bytes_eq c.key key) (has_key m key)
  where
    by : (any b h : Bool) → (any || (b || h)) ≡ ((b || any) || h)
    by true true h = refl
    by true false h = refl
    by false true h = refl
    by false false h = refl

pub nothing_has : (key : List ℕ) → has_key nothing_kept key ≡ false
nothing_has key = ap is_some (finite.get-empty (slice_cmp nat_cmp) key)

pub nothing_at : (key : List ℕ) → kept_at nothing_kept key ≡ pos 0
nothing_at key = no_key nothing_kept key (nothing_has key)

-- what is kept of transactions ----

-- a key is of a part of the transaction of this token
abbrev pub has_part_key : List ℕ → List ℕ → Bool
has_part_key key token = bytes_eq (part_key token part.G) key || (bytes_eq (part_key token part.P) key || bytes_eq (part_key token part.S) key)

-- the user of a transaction with its currency
abbrev pub holder : Txn → List ℕ
holder t = user_key t.user t.currency

-- all that a transaction holds
abbrev pub whole : Kept → List ℕ → ℤ
whole parts token = kept_at parts (part_key token part.G) +ℤ (kept_at parts (part_key token part.P) +ℤ kept_at parts (part_key token part.S))

-- what transactions hold of a user in a currency
abbrev pub held_of : List ℕ → Kept → List Txn → ℤ
held_of key parts [] = pos 0
held_of key parts (t ∷ ts) = cond (bytes_eq (holder t) key) (whole parts t.token) (pos 0) +ℤ held_of key parts ts

-- no two of these transactions have one token
abbrev pub OwnTokens : List Txn → Type 0
OwnTokens [] = Unit {0}
OwnTokens (t ∷ ts) = (list_any (λ x. bytes_eq x.token t.token) ts ≡ false) × OwnTokens ts

-- who isn't among these transactions has no sum
abbrev pub IsOfBegun : List Txn → Kept → Type 0
IsOfBegun ts sums = (key : List ℕ) → list_any (λ x. bytes_eq x.token key) ts ≡ false → kept_at sums key ≡ pos 0

abbrev pub IsNotNegative : Kept → Type 0
IsNotNegative sums = (key : List ℕ) → pos 0 ≤ℤ kept_at sums key

-- Parts and held sums have the keys of these transactions, and what is held of a user is the sum of what they hold. Their other sums are theirs.
pub record IsSummedAs (ts : List Txn) (parts held : Kept) (sums : SumsByTxn) : Type 0 where
  pub own : OwnTokens ts
  pub part_keys : (key : List ℕ) → has_key parts key ≡ list_any (λ t. has_part_key key t.token) ts
  pub held_keys : (key : List ℕ) → has_key held key ≡ list_any (λ t. bytes_eq (holder t) key) ts
  pub held_sums : (key : List ℕ) → kept_at held key ≡ held_of key parts ts
  pub cleared : IsOfBegun ts sums.cleared
  pub refunded : IsOfBegun ts sums.refunded
  pub paid : IsOfBegun ts sums.paid
  pub some_cleared : IsNotNegative sums.cleared
  pub some_refunded : IsNotNegative sums.refunded

abbrev pub IsSummed : CoreState → Type 0
IsSummed s = IsSummedAs (begun_txns s) s.holdings.parts s.holdings.held s.txn_sums
