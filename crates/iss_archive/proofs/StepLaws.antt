-- What is held while records of a list are added one after the other.
use Rattle.std.proofs.Common.{◌≡◌, ◌⊎◌, inr, ◌^◌, ℕ, ◌+◌, ◌<◌, ◌≤◌, true, ◌==◌, List, [], ◌∷◌, ◌++◌, length, take, drop, get_or, Option, Some, None, IfSome, sym, ap, subst, ◌∙◌, arith, eqb-true}
use Rattle.std.specs.Prelude.{Result, Err}
use Rattle.std.specs.List.{list_all}
use Rattle.std.proofs.lemmas.Bool.{and_parts}
use Rattle.std.proofs.lemmas.List.{take-append-drop, length-take-le, drop_more}
use Rattle.iss_model.specs.declared.input.Record.{Record}
use Rattle.iss_archive.specs.declared.archiving.ArchiveFault.{ArchiveFault}
use Rattle.iss_archive.specs.declared.archiving.ArchiveFault.TheVariants.{Gap, Strange, Keeper, OutOfMemory}
use Rattle.iss_archive.specs.declared.post.Head.{Head}
use Rattle.iss_archive.specs.declared.source.Stepped.{Stepped}
use Rattle.iss_archive.specs.Archived.{Archived, Told, records_in, posts_in}
use Rattle.iss_archive.specs.Archiving.{has_plain_post, IsStepOf, AddsRecord, MayAddRecord, head_next}
use Rattle.iss_archive.specs.Steps.{is_next, are_next, AreStepsOf, IsBehind, IsCalledFor}

-- ---- two calls, one after the other

pub told_then : (R S T : Archived → Archived → Type 0) (x y z : Option Archived) → ((a b c : Archived) → R a b → S b c → T a c) → Told R x y → Told S y z → Told T x z
told_then R S T None None None f p q = tt
told_then R S T (Some a) None None f p q = tt
told_then R S T None None (Some c) f p q = absurd q
told_then R S T (Some a) None (Some c) f p q = absurd q
told_then R S T None (Some b) z f p q = absurd p
told_then R S T (Some a) (Some b) None f p q = tt
told_then R S T (Some a) (Some b) (Some c) f p q = f a b c p q

-- ---- the records of a list

first_next : (n : ℕ) (s : Stepped) (steps : List Stepped) → are_next n (s ∷ steps) ≡ true → (s.number ≡ n + 1) × (are_next (n + 1) steps ≡ true)
first_next n s steps next =
    let parts = and_parts (is_next n s) (are_next (n + 1) steps) next in
    let own = and_parts (s.number == n + 1) (list_all has_plain_post s.entries.items) parts.0 in
    (eqb-true s.number (n + 1) own.0, parts.1)

-- the record of this place, and those after it
pub record AtStep (point i : ℕ) (all : List Stepped) (s : Stepped) : Type 0 where
  pub within : i < length all
  pub cut : drop i all ≡ s ∷ drop (i + 1) all
  pub number : s.number ≡ point + i + 1
  pub rest : are_next (point + (i + 1)) (drop (i + 1) all) ≡ true
  pub made : (rs : List Record) → AreStepsOf rs point all → IsStepOf rs (point + i) s
  pub rest_made : (rs : List Record) → AreStepsOf rs point all → AreStepsOf rs (point + (i + 1)) (drop (i + 1) all)

pub at_step : (point i : ℕ) (all : List Stepped) (s : Stepped) → i < length all → s ≡ get_or all i s → are_next (point + i) (drop i all) ≡ true → ((rs : List Record) → AreStepsOf rs point all → AreStepsOf rs (point + i) (drop i all))
    → AtStep point i all s
at_step point i all s within is next made =
    let rest : List Stepped = drop (i + 1) all in
    let cut : drop i all ≡ s ∷ rest = drop_more all i s within ∙ ap (λ (x : Stepped). x ∷ rest) (sym is) in
    let later : point + i + 1 ≡ point + (i + 1) = omega arith in
    let first = first_next (point + i) s rest (subst (λ (l : List Stepped). are_next (point + i) l ≡ true) cut next) in
    record {
      within = within;
      cut = cut;
      number = first.0;
      rest = subst (λ (n : ℕ). are_next n rest ≡ true) later first.1;
      made = λ rs all_made. (subst (AreStepsOf rs (point + i)) cut (made rs all_made)).0;
      rest_made = λ rs all_made. subst (λ (n : ℕ). AreStepsOf rs n rest) later (subst (AreStepsOf rs (point + i)) cut (made rs all_made)).1;
    }

-- there are as many as come after the first ones
pub steps_many : (rs : List Record) (n : ℕ) (steps : List Stepped) → AreStepsOf rs n steps → length rs ≡ n + length steps
steps_many rs n [] made = omega (arith, made)
steps_many rs n (s ∷ steps) made =
    let rest : length rs ≡ n + 1 + length steps = steps_many rs (n + 1) steps made.1 in
    omega (arith, rest)

-- ---- what is held at the start

-- the head at the start, and the one now
abbrev pub Begun : ℕ → ℕ → ℕ → Option Head → Archived → Archived → Type 0
Begun instance point count head a b = IsBehind instance point count a × ((records_in a.head ≡ records_in head) ⊎ (posts_in head < 2 ^ 63))

-- ---- one record more

pub begun_next : (instance point count : ℕ) (s : Stepped) (head next : Option Head) (was mid now : Option Archived) → posts_in next < 2 ^ 63 → Told (Begun instance point count head) was mid → Told (AddsRecord instance s) mid now
    → Told (Begun instance point count next) was now
begun_next instance point count s head next was mid now few begun adds =
    told_then (Begun instance point count head) (AddsRecord instance s) (Begun instance point count next) was mid now (λ a b c p q. (p.0, inr few)) begun adds

-- a record that can't be counted
filled : (instance point count : ℕ) (all : List Stepped) (i : ℕ) (s : Stepped) (head : Option Head) (was now : Option Archived) → i < length all → drop i all ≡ s ∷ drop (i + 1) all → point + i ≡ records_in head
    → IfSome now (λ b. b.head ≡ head) → 2 ^ 63 ≤ (head_next instance head s).posts → Told (Begun instance point count head) was now → Told (IsCalledFor instance point count all (Err Strange)) was now
filled instance point count all i s head None None lt is here held full begun = tt
filled instance point count all i s head (Some a) None lt is here held full begun = tt
filled instance point count all i s head None (Some b) lt is here held full begun = absurd begun
filled instance point count all i s head (Some a) (Some b) lt is here held full begun =
    inr (record {
      behind = begun.0;
      full = record {
        before = take i all;
        next = s;
        after = drop (i + 1) all;
        cut = cut_at i all s is;
        here = omega (arith, first_length i all lt, here, ap (λ (h : Option Head). records_in h) held);
        posts = subst (λ (h : Option Head). 2 ^ 63 ≤ (head_next instance h s).posts) (sym held) full;
      };
    })
  where
    cut_at : (i : ℕ) (all : List Stepped) (s : Stepped) → drop i all ≡ s ∷ drop (i + 1) all → all ≡ take i all ++ s ∷ drop (i + 1) all
    cut_at i all s is = sym (take-append-drop i all) ∙ ap (λ (l : List Stepped). take i all ++ l) is

    first_length : (i : ℕ) (all : List Stepped) → i < length all → length (take i all) ≡ i
    first_length i all lt = length-take-le i all (omega arith)

module _ (instance point count i : ℕ) (all : List Stepped) (s : Stepped) (head : Option Head) (was mid now : Option Archived) (at : AtStep point i all s) (here : point + i ≡ records_in head) (held : IfSome mid (λ b. b.head ≡ head)) (begun : Told (Begun instance point count head) was mid) (may : Told (MayAddRecord instance s) mid now) where
  -- why the archiving ended at this record
  pub fault_called : (fault : ArchiveFault) (added : Result Head ArchiveFault) → added ≡ Err fault → (added ≡ Err Gap → ⊥) → (added ≡ Err Strange → 2 ^ 63 ≤ (head_next instance head s).posts) → (added ≡ Err Strange → now ≡ mid)
      → Told (IsCalledFor instance point count all (Err fault)) was now
  fault_called Gap added is no_gap full untouched = absurd (no_gap is)
  fault_called Strange added is no_gap full untouched =
      subst (λ (x : Option Archived). Told (IsCalledFor instance point count all (Err Strange)) was x) (sym (untouched is))
      (filled instance point count all i s head was mid at.within at.cut here held (full is) begun)
  fault_called Keeper added is no_gap full untouched =
      told_then (Begun instance point count head) (MayAddRecord instance s) (IsCalledFor instance point count all (Err Keeper)) was mid now (λ a b c p q. tt) begun may
  fault_called OutOfMemory added is no_gap full untouched =
      told_then (Begun instance point count head) (MayAddRecord instance s) (IsCalledFor instance point count all (Err OutOfMemory)) was mid now (λ a b c p q. tt) begun may
