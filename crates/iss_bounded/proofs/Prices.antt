-- Prices of entries: a bound moves by the price of each entry, and the acts of a row are paid at their stages.
use Rattle.std.proofs.Common.{◌≡◌, ◌++◌, ◌+ℤ◌, ◌∷◌, ℕ, ℤ, pos, arith, Bool, fold, List, [], refl, subst, true}
use Rattle.std.specs.Prelude.{◌≤ℤ◌}
use Rattle.std.specs.List.{list_all}
use Rattle.std.proofs.lemmas.Bool.{and_parts}
use Rattle.std.proofs.lemmas.Int.{ints}
use Rattle.iss_model.specs.declared.entry.Entry.{Entry}
use Rattle.iss_model.specs.rules.Acts.{Act, act_entries, entries_of_acts}
use Rattle.iss_model.specs.rules.Asks.{Ask}
use Rattle.iss_model.specs.rules.Facts.{Facts}
use Rattle.iss_model.specs.state.Cores.{CoreState, after_entry}
use Rattle.iss_acts.specs.Causes.{Cause}
use Rattle.iss_acts.specs.Sources.{AllMade, IsMade, IsRow, IsStart}
use Rattle.iss_acts.specs.Stages.{Frees, Fresh, Keeps, Leaves, Over, Seeks, Stage, stage_after}
use Rattle.iss_state.specs.Allowed.{IsAllowed}
use Rattle.iss_state.specs.Dockets.{docket_of}
use Rattle.iss_state.specs.Pending.{AreAllowed}

-- what entries come to together
abbrev pub total_price : (Entry → ℤ) → List Entry → ℤ
total_price price [] = pos 0
total_price price (e ∷ es) = price e +ℤ total_price price es

pub price_append : (price : Entry → ℤ) (xs ys : List Entry) → total_price price (xs ++ ys) ≡ total_price price xs +ℤ total_price price ys
price_append price [] ys = omega (arith, ints)
price_append price (x ∷ xs) ys = omega (arith, ints, price_append price xs ys)

-- entries that pass a test are free if each that passes is
pub no_price : (price : Entry → ℤ) (p : Entry → Bool) → ((e : Entry) → p e ≡ true → price e ≡ pos 0) → (es : List Entry) → list_all p es ≡ true → total_price price es ≡ pos 0
no_price price p free [] h = refl
no_price price p free (e ∷ es) h =
    let both = and_parts (p e) (list_all p es) h in
    omega (arith, ints, free e both.0, no_price price p free es both.1)

-- each entry fits the core that it finds
abbrev pub AllFitting : (CoreState → Entry → Type 0) → CoreState → List Entry → Type 0
AllFitting Fit s [] = Unit {0}
AllFitting Fit s (e ∷ es) = Fit s e × AllFitting Fit (after_entry s e) es

-- an entry may come next
abbrev pub MayCome : CoreState → Entry → Type 0
MayCome s e = IsAllowed (docket_of s) e

pub all_may : (s : CoreState) (es : List Entry) → AreAllowed s es → AllFitting MayCome s es
all_may s [] h = tt
all_may s (e ∷ es) h = (h.0, all_may (after_entry s e) es h.1)

-- A bound on a core goes on by the prices of entries that fit, while something is known that was known before each entry.
pub record Goes (Fit : CoreState → Entry → Type 0) (Bound : ℤ → CoreState → Type 0) (Known : CoreState → Type 0) (price : Entry → ℤ) : Type 0 where
  pub knew : (s : CoreState) (e : Entry) → Known (after_entry s e) → Known s
  pub moves : (n : ℤ) (s : CoreState) (e : Entry) → Fit s e → Known s → Bound n s → Bound (n +ℤ price e) (after_entry s e)

module _ {Fit : CoreState → Entry → Type 0} {Bound : ℤ → CoreState → Type 0} {Known : CoreState → Type 0} {price : Entry → ℤ} (goes : Goes Fit Bound Known price) where
  pub all_knew : (s : CoreState) (es : List Entry) → Known (fold after_entry s es) → Known s
  all_knew s [] h = h
  all_knew s (e ∷ es) h = goes.knew s e (all_knew (after_entry s e) es h)

  pub all_go : (n : ℤ) (s : CoreState) (es : List Entry) → AllFitting Fit s es → Known (fold after_entry s es) → Bound n s → Bound (n +ℤ total_price price es) (fold after_entry s es)
  all_go n s [] fits known h = subst (λ (m : ℤ). Bound m s) (none n) h
    where
      none : (n : ℤ) → n ≡ n +ℤ pos 0
      none n = omega (arith, ints)
  all_go n s (e ∷ es) fits known h =
      subst (λ (m : ℤ). Bound m (fold after_entry s (e ∷ es))) (grouped n (price e) (total_price price es))
      (all_go (n +ℤ price e) (after_entry s e) es fits.1 known (goes.moves n s e fits.0 (all_knew s (e ∷ es) known) h))
    where
      grouped : (a b c : ℤ) → (a +ℤ b) +ℤ c ≡ a +ℤ (b +ℤ c)
      grouped a b c = omega (arith, ints)

-- what is left at each stage: at first what the cause brings, and then what the ask needs
abbrev pub left_at : ℕ → (Ask → ℕ) → Stage → ℕ
left_at brought needs Fresh = brought
left_at brought needs (Seeks ask) = needs ask
left_at brought needs _ = 0

-- each act costs no more than its stage leaves to the next one
pub record ArePaid (f : Facts) (by : Cause) (at : ℕ) (price : Entry → ℤ) (brought : ℕ) (needs : Ask → ℕ) : Type 0 where
  pub each : (g : Stage) (a : Act) → IsMade f by at g a → (total_price price (act_entries a) +ℤ pos (left_at brought needs (stage_after g a))) ≤ℤ pos (left_at brought needs g)

module _ {f : Facts} {by : Cause} {at : ℕ} {price : Entry → ℤ} {brought : ℕ} {needs : Ask → ℕ} (paid : ArePaid f by at price brought needs) where
  acts_paid : (g : Stage) (acts : List Act) → AllMade f by at g acts → total_price price (entries_of_acts acts) ≤ℤ pos (left_at brought needs g)
  acts_paid g [] made = some (left_at brought needs g)
    where
      some : (n : ℕ) → pos 0 ≤ℤ pos n
      some n = omega (arith, ints)
  acts_paid g (a ∷ acts) made =
      at_most (total_price price (act_entries a)) (total_price price (entries_of_acts acts)) (total_price price (act_entries a ++ entries_of_acts acts)) (left_at brought needs (stage_after g a)) (left_at brought needs g)
      (price_append price (act_entries a) (entries_of_acts acts)) (paid.each g a made.0) (acts_paid (stage_after g a) acts made.1)
    where
      at_most : (x y z : ℤ) (m n : ℕ) → z ≡ x +ℤ y → (x +ℤ pos m) ≤ℤ pos n → y ≤ℤ pos m → z ≤ℤ pos n
      at_most x y z m n e h k = omega (arith, ints, e, h, k)

  pub row_paid : (acts : List Act) → IsRow f by at acts → total_price price (entries_of_acts acts) ≤ℤ pos brought
  row_paid acts row = within row.first row.starts (acts_paid row.first acts row.made)
    where
      within : (g : Stage) → IsStart f g → total_price price (entries_of_acts acts) ≤ℤ pos (left_at brought needs g) → total_price price (entries_of_acts acts) ≤ℤ pos brought
      within Fresh starts h = h
      within (Keeps t parts) starts h = more (total_price price (entries_of_acts acts)) brought h
        where
          more : (z : ℤ) (n : ℕ) → z ≤ℤ pos 0 → z ≤ℤ pos n
          more z n h = omega (arith, ints, h)
      within (Seeks ask) starts h = elim starts [ ]
      within (Frees t parts) starts h = elim starts [ ]
      within (Leaves t parts) starts h = elim starts [ ]
      within Over starts h = elim starts [ ]
