-- Controls that are put, changed and found.
use Rattle.std.proofs.Common.{◌≡◌, ℕ, zero, suc, ◌+◌, ◌<◌, ◌≤◌, nat_le, ℤ, Bool, true, false, cond, not, ◌||◌, List, [], ◌∷◌, ◌++◌, map, length, drop, find, slice_get, Option, Some, None, is_some, refl, sym, ap, ◌∙◌, arith}
use Rattle.std.specs.Option.{option_map}
use Rattle.std.specs.List.{list_any}
use Rattle.std.specs.Str.{bytes_eq}
use Rattle.std.proofs.lemmas.Bool.Decides.{nat_tests}
use Rattle.iss_model.specs.declared.limits.TheConstants.{MOST_OF_A_KIND}
use Rattle.iss_model.specs.declared.setting.Control.{Control}
use Rattle.iss_model.specs.declared.txn.UsageRow.{UsageRow}
use Rattle.iss_model.specs.declared.txn.Used.{Used}
use Rattle.iss_model.specs.rules.Controls.{Group, ControlNow}
use Rattle.iss_model.specs.rules.Asks.{used_by}
use Rattle.iss_model.specs.rules.Reasons.{is_full, is_same_control}
use Rattle.iss_model.specs.declared.decision.Reason.TheVariants as reason
use Rattle.iss_model.specs.state.Kept.{nothing_kept}
use Rattle.iss_model.specs.state.Cores.{ControlKept, control_after_put, control_facts, with_control}
use Rattle.iss_velocity.specs.declared.standing.Standing.{Standing}
use Rattle.iss_velocity.specs.declared.standing.Change.{Change}
use Rattle.iss_velocity.specs.Words.{declines_use, breach_of, used_of}
use Rattle.iss_velocity.specs.Puts.{kept_named, put_reason, standing_named, standing_after_change, kept_after_change, with_limits, with_activity}
use Rattle.iss_velocity.specs.Counting.{Users, Past, used_at}
use Rattle.iss_velocity.specs.Keeping.{sums_in, control_at, controls_from, AreKeyed}
use Rattle.iss_velocity.proofs.SumsKept.{no_sums}
use Rattle.iss_velocity.proofs.Controlling.{from_start, dropped}

-- a control is found as it stands
pub found_named : (users : Users) (past : Past) (name : List ℕ) (place : ℕ) (ss : List Standing)
    → option_map (λ (c : ControlKept). c.control) (kept_named name (controls_from users past place ss)) ≡ option_map (λ (s : Standing). s.control) (standing_named name ss)
found_named users past name place [] = refl
found_named users past name place (s ∷ ss) = at (bytes_eq s.control.name name) (found_named users past name (suc place) ss)
  where
    at : (b : Bool) → option_map (λ (c : ControlKept). c.control) (kept_named name (controls_from users past (suc place) ss)) ≡ option_map (λ (s : Standing). s.control) (standing_named name ss)
        → option_map (λ (c : ControlKept). c.control) (cond b (Some (control_at users past place s)) (kept_named name (controls_from users past (suc place) ss)))
        ≡ option_map (λ (s : Standing). s.control) (cond b (Some s) (standing_named name ss))
    at true rest = refl
    at false rest = rest

some_mapped : {A B : Type 0} (f : A → B) (o : Option A) → is_some (option_map f o) ≡ is_some o
some_mapped f None = refl
some_mapped f (Some x) = refl

pub is_named : (users : Users) (past : Past) (name : List ℕ) (ss : List Standing)
    → is_some (standing_named name ss) ≡ is_some (kept_named name (controls_from users past 0 ss))
is_named users past name ss =
    sym (some_mapped (λ (s : Standing). s.control) (standing_named name ss))
    ∙ ap is_some (sym (found_named users past name 0 ss))
    ∙ some_mapped (λ (c : ControlKept). c.control) (kept_named name (controls_from users past 0 ss))

any_found : {A : Type 0} (p : A → Bool) (xs : List A) → list_any p xs ≡ is_some (find p xs)
any_found p [] = refl
any_found p (x ∷ xs) = at (p x) (any_found p xs)
  where
    at : (b : Bool) → list_any p xs ≡ is_some (find p xs) → (b || list_any p xs) ≡ is_some (cond b (Some x) (find p xs))
    at true rest = refl
    at false rest = rest

lacking : {A : Type 0} (o : Option A) → is_some o ≡ false → o ≡ None
lacking None e = refl
lacking (Some x) e = cc

pub not_named : (users : Users) (past : Past) (name : List ℕ) (ss : List Standing) → standing_named name ss ≡ None → kept_named name (controls_from users past 0 ss) ≡ None
not_named users past name ss e =
    lacking (kept_named name (controls_from users past 0 ss)) (sym (is_named users past name ss) ∙ ap is_some e)

-- a control that stands, as it is kept
pub named_kept : (users : Users) (past : Past) (name : List ℕ) (ss : List Standing) (s : Standing) → standing_named name ss ≡ Some s
    → (P : Option ControlKept → Type 0) → ((c : ControlKept) → c.control ≡ s.control → P (Some c)) → P (kept_named name (controls_from users past 0 ss))
named_kept users past name ss s e P each =
    at (kept_named name (controls_from users past 0 ss)) (found_named users past name 0 ss ∙ ap (option_map (λ (t : Standing). t.control)) e)
  where
    at : (o : Option ControlKept) → option_map (λ (c : ControlKept). c.control) o ≡ Some s.control → P o
    at None f = cc
    at (Some c) f = (let one : c.control ≡ s.control = cc in each c one)

-- a change of the control of a name
pub changed_controls : (users : Users) (past : Past) (name : List ℕ) (change : Change) (ss : List Standing)
    → controls_from users past 0 (map (standing_after_change name change) ss) ≡ map (kept_after_change name change) (controls_from users past 0 ss)
changed_controls users past name change ss =
    from_start users users past past (standing_after_change name change) (kept_after_change name change) ss
    (λ i s e. at i s (bytes_eq name s.control.name))
  where
    at : (i : ℕ) (s : Standing) (b : Bool) → control_at users past i (cond b (record s { control = with_activity change.active (with_limits change.limits s.control) }) s)
        ≡ cond b (record (control_at users past i s) { control = with_activity change.active (with_limits change.limits s.control) }) (control_at users past i s)
    at i s true = refl
    at i s false = refl

-- a control that stands is put again
pub put_again : (cs : List ControlKept) (number : ℕ) (put : Control) → is_some (kept_named put.name cs) ≡ true
    → map (kept_after_change put.name (record { limits = Some (record { amount = put.amount_limit; usage = put.usage_limit }); active = Some put.active })) cs
    ≡ with_control cs (record { number = number; control = put })
put_again cs number put e =
    ap (λ (b : Bool). cond b (map (control_after_put (record { number = number; control = put })) cs)
    (cs ++ record { first = number; control = put; amounts = nothing_kept; times = nothing_kept } ∷ []))
    (sym (any_found (λ (c : ControlKept). bytes_eq c.control.name put.name) cs ∙ e))

-- a new control has counted nothing
pub put_last : (users : Users) (past : Past) (ss after : List Standing) (number : ℕ) (put : Control) → AreKeyed users past
    → ((user : List ℕ) (place : ℕ) (n : ℤ) → slice_get ss place ≡ None → used_at users past user place n ≡ None)
    → after ≡ ss ++ record { first = number; control = put } ∷ []
    → kept_named put.name (controls_from users past 0 ss) ≡ None
    → controls_from users past 0 after ≡ with_control (controls_from users past 0 ss) (record { number = number; control = put })
put_last users past ss after number put k beyond e new =
    ap (controls_from users past 0) e
    ∙ pushed 0 ss (λ i. (let same : 0 + (length ss + i) ≡ length ss + i = omega arith in ap (λ (n : ℕ). slice_get ss n) same ∙ none_behind ss i))
    ∙ ap (λ (b : Bool). cond b (map (control_after_put (record { number = number; control = put })) (controls_from users past 0 ss))
    (controls_from users past 0 ss ++ record { first = number; control = put; amounts = nothing_kept; times = nothing_kept } ∷ []))
    (sym (any_found (λ (c : ControlKept). bytes_eq c.control.name put.name) (controls_from users past 0 ss) ∙ ap is_some new))
  where
    none_behind : (xs : List Standing) (i : ℕ) → slice_get xs (length xs + i) ≡ None
    none_behind [] i = refl
    none_behind (x ∷ xs) i = (let same : suc (length xs) + i ≡ suc (length xs + i) = omega arith in ap (λ (n : ℕ). slice_get (x ∷ xs) n) same ∙ none_behind xs i)

    nothing : (place : ℕ) → slice_get ss place ≡ None → (w : Used → ℤ) → sums_in w users past place ≡ nothing_kept
    nothing place f w = no_sums w place users past k (λ user n p. beyond user place n f)

    pushed : (place : ℕ) (xs : List Standing) → ((i : ℕ) → slice_get ss (place + (length xs + i)) ≡ None)
        → controls_from users past place (xs ++ record { first = number; control = put } ∷ [])
        ≡ controls_from users past place xs ++ record { first = number; control = put; amounts = nothing_kept; times = nothing_kept } ∷ []
    pushed place [] none = λ i. record {
      first = number;
      control = put;
      amounts = nothing place at (λ u. u.amount) i;
      times = nothing place at (λ u. u.count) i;
    } ∷ []
      where
        at : slice_get ss place ≡ None
        at = (let same : place ≡ place + (0 + 0) = omega arith in ap (λ (n : ℕ). slice_get ss n) same ∙ none 0)
    pushed place (x ∷ xs) none =
        ap (λ (cs : List ControlKept). control_at users past place x ∷ cs)
        (pushed (suc place) xs (λ i. (let same : suc place + (length xs + i) ≡ place + (suc (length xs) + i) = omega arith in ap (λ (n : ℕ). slice_get ss n) same ∙ none i)))

-- what stands beyond the controls goes on to be nothing
pub beyond_more : (ss : List Standing) (s : Standing) (place : ℕ) → slice_get (ss ++ s ∷ []) place ≡ None → slice_get ss place ≡ None
beyond_more [] s place e = refl
beyond_more (x ∷ ss) s zero e = cc
beyond_more (x ∷ ss) s (suc place) e = beyond_more ss s place e

pub beyond_mapped : (f : Standing → Standing) (ss : List Standing) (place : ℕ) → slice_get (map f ss) place ≡ None → slice_get ss place ≡ None
beyond_mapped f [] place e = refl
beyond_mapped f (x ∷ ss) zero e = cc
beyond_mapped f (x ∷ ss) (suc place) e = beyond_mapped f ss place e

pub as_many_kept : (users : Users) (past : Past) (place : ℕ) (ss : List Standing) → length (controls_from users past place ss) ≡ length ss
as_many_kept users past place [] = refl
as_many_kept users past place (s ∷ ss) = ap suc (as_many_kept users past (suc place) ss)

-- a walk over the controls
module _ (users : Users) (past : Past) (ss : List Standing) (i : ℕ) (s : Standing) (here : slice_get ss i ≡ Some s) where
  from_here : controls_from users past i (drop i ss) ≡ control_at users past i s ∷ controls_from users past (suc i) (drop (i + 1) ss)
  from_here = ap (controls_from users past i) (dropped ss i s here)

  pub breach_step : (groups : List Group) (row : UsageRow) (first : Bool) (b : Bool) → declines_use groups row first (control_facts (control_at users past i s)) ≡ b
      → breach_of groups (map control_facts (controls_from users past i (drop i ss))) row first
      ≡ cond b (Some s.control.name) (breach_of groups (map control_facts (controls_from users past (suc i) (drop (i + 1) ss))) row first)
  breach_step groups row first b e =
      ap (λ (cs : List ControlKept). breach_of groups (map control_facts cs) row first) from_here
      ∙ ap (λ (x : Bool). option_map (λ (c : ControlNow). c.control.name) (cond x (Some (control_facts (control_at users past i s)))
      (find (declines_use groups row first) (map control_facts (controls_from users past (suc i) (drop (i + 1) ss)))))) e
      ∙ by b
    where
      by : (b : Bool) → option_map (λ (c : ControlNow). c.control.name) (cond b (Some (control_facts (control_at users past i s)))
          (find (declines_use groups row first) (map control_facts (controls_from users past (suc i) (drop (i + 1) ss)))))
          ≡ cond b (Some s.control.name) (breach_of groups (map control_facts (controls_from users past (suc i) (drop (i + 1) ss))) row first)
      by true = refl
      by false = refl

  pub used_step : (name user : List ℕ) (at : ℕ) (b : Bool) → bytes_eq s.control.name name ≡ b
      → used_of (map control_facts (controls_from users past i (drop i ss))) name user at
      ≡ cond b (Some (used_by (control_facts (control_at users past i s)) s.control.window user at)) (used_of (map control_facts (controls_from users past (suc i) (drop (i + 1) ss))) name user at)
  used_step name user at b e =
      ap (λ (cs : List ControlKept). used_of (map control_facts cs) name user at) from_here
      ∙ ap (λ (x : Bool). option_map (λ (c : ControlNow). used_by c c.control.window user at) (cond x (Some (control_facts (control_at users past i s)))
      (find (λ (c : ControlNow). bytes_eq c.control.name name) (map control_facts (controls_from users past (suc i) (drop (i + 1) ss)))))) e
      ∙ by b
    where
      by : (b : Bool) → option_map (λ (c : ControlNow). used_by c c.control.window user at) (cond b (Some (control_facts (control_at users past i s)))
          (find (λ (c : ControlNow). bytes_eq c.control.name name) (map control_facts (controls_from users past (suc i) (drop (i + 1) ss)))))
          ≡ cond b (Some (used_by (control_facts (control_at users past i s)) s.control.window user at)) (used_of (map control_facts (controls_from users past (suc i) (drop (i + 1) ss))) name user at)
      by true = refl
      by false = refl

-- after the last control there is none
pub no_more : {A : Type 0} (xs : List A) (n : ℕ) → n ≡ length xs → drop n xs ≡ []
no_more xs n e = ap (λ (k : ℕ). drop k xs) e ∙ all xs
  where
    all : {A : Type 0} (xs : List A) → drop (length xs) xs ≡ []
    all [] = refl
    all (x ∷ xs) = all xs

-- as many controls are kept as stand
pub full_so : (users : Users) (past : Past) (ss : List Standing) → MOST_OF_A_KIND ≤ length ss → is_full (controls_from users past 0 ss) ≡ true
full_so users past ss h =
    ap (λ (n : ℕ). nat_le MOST_OF_A_KIND n) (as_many_kept users past 0 ss) ∙ grind (arith, nat_tests)

pub not_full_so : (users : Users) (past : Past) (ss : List Standing) → length ss < MOST_OF_A_KIND → is_full (controls_from users past 0 ss) ≡ false
not_full_so users past ss h =
    ap (λ (n : ℕ). nat_le MOST_OF_A_KIND n) (as_many_kept users past 0 ss) ∙ grind (arith, nat_tests)

pub full_is : (users : Users) (past : Past) (ss : List Standing) → nat_le MOST_OF_A_KIND (length ss) ≡ is_full (controls_from users past 0 ss)
full_is users past ss = ap (λ (n : ℕ). nat_le MOST_OF_A_KIND n) (sym (as_many_kept users past 0 ss))

-- a table with one more control, or with others of as many places
pub table_more : (users : Users) (past : Past) (ss after : List Standing) (s : Standing)
    → ((user : List ℕ) (place : ℕ) (n : ℤ) → slice_get ss place ≡ None → used_at users past user place n ≡ None) → after ≡ ss ++ s ∷ []
    → (user : List ℕ) (place : ℕ) (n : ℤ) → slice_get after place ≡ None → used_at users past user place n ≡ None
table_more users past ss after s beyond e user place n f =
    beyond user place n (beyond_more ss s place (ap (λ (xs : List Standing). slice_get xs place) (sym e) ∙ f))

pub table_mapped : (users : Users) (past : Past) (ss after : List Standing) (g : Standing → Standing)
    → ((user : List ℕ) (place : ℕ) (n : ℤ) → slice_get ss place ≡ None → used_at users past user place n ≡ None) → after ≡ map g ss
    → (user : List ℕ) (place : ℕ) (n : ℤ) → slice_get after place ≡ None → used_at users past user place n ≡ None
table_mapped users past ss after g beyond e user place n f =
    beyond user place n (beyond_mapped g ss place (ap (λ (xs : List Standing). slice_get xs place) (sym e) ∙ f))

-- why a control that stands isn't put, by the control that is kept
pub reason_so : (users : Users) (past : Past) (ss : List Standing) (put : Control) (s : Standing) → Some s ≡ standing_named put.name ss
    → put_reason (kept_named put.name (controls_from users past 0 ss)) (controls_from users past 0 ss) put
    ≡ cond (not (is_same_control s.control put.currency put.window put.association put.scope put.offset)) (Some reason.ControlFixed) None
reason_so users past ss put s e =
    named_kept users past put.name ss s (sym e)
    (λ o. put_reason o (controls_from users past 0 ss) put ≡ cond (not (is_same_control s.control put.currency put.window put.association put.scope put.offset)) (Some reason.ControlFixed) None)
    (λ c f. ap (λ (x : Control). cond (not (is_same_control x put.currency put.window put.association put.scope put.offset)) (Some reason.ControlFixed) None) f)

pub known_so : (users : Users) (past : Past) (ss : List Standing) (name : List ℕ) (s : Standing) → Some s ≡ standing_named name ss
    → is_some (kept_named name (controls_from users past 0 ss)) ≡ true
known_so users past ss name s e = sym (is_named users past name ss) ∙ ap is_some (sym e)
