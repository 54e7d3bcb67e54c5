-- A row that is noted of one user, seen over the counters of all.
use Rattle.std.proofs.Common.{◌≡◌, ℕ, ℤ, Bool, true, false, cond, List, [], slice_get, Option, Some, None, is_some, refl, sym, ap, ap₂, ◌∙◌}
use Rattle.std.specs.Prelude.{unwrap_or, Result, Ok, Err, OnErr}
use Rattle.std.specs.List.{list_all}
use Rattle.std.specs.Map.{keys_of}
use Rattle.std.specs.Str.{bytes_eq}
use Rattle.std.specs.Ordering.{nat_cmp, is_eq}
use Rattle.std.specs.Cmp.Lexicographic.{slice_cmp}
use Rattle.std.specs.BTreeMap as tree
use Rattle.std.specs.BTreeMap.{insert_entry}
use Rattle.std.proofs.lemmas.Map.Text.{is_eq-slice_cmp}
use Rattle.iss_model.specs.declared.txn.UsageRow.{UsageRow}
use Rattle.iss_model.specs.declared.txn.Used.{Used}
use Rattle.iss_model.specs.rules.Controls.{Group}
use Rattle.iss_model.proofs.Names.{one_name, name-sym}
use Rattle.iss_velocity.specs.declared.counters.Counter.{Counter}
use Rattle.iss_velocity.specs.declared.standing.Standing.{Standing}
use Rattle.iss_velocity.specs.Counting.{Users, Past, by_name, at_place, in_span, or_else, counters_at, used_at_place, used_at, used_more, used_then, counts_in}
use Rattle.iss_velocity.specs.Keeping.{has_no_zero, is_users_plain, is_past_plain, AreKeyed, StaysSame, IsCounted}
use Rattle.iss_velocity.proofs.Turning.{keys_more}

-- room for a user's counters changes nobody's
pub begun_same : (users after : Users) (user : List ℕ) (new : List Counter) → is_some (tree.get by_name users user) ≡ false → new ≡ []
    → tree.Updates by_name users after user (Some new) → (u : List ℕ) → counters_at after u ≡ counters_at users u
begun_same users after user new none empty updates u =
    ap (λ (o : Option (List Counter)). unwrap_or o []) (updates.0 u)
    ∙ at (is_eq (slice_cmp nat_cmp user u)) refl
  where
    lacking : (o : Option (List Counter)) → is_some o ≡ false → unwrap_or o [] ≡ []
    lacking None e = refl
    lacking (Some x) e = cc

    at : (b : Bool) → is_eq (slice_cmp nat_cmp user u) ≡ b → unwrap_or (cond b (Some new) (tree.get by_name users u)) [] ≡ unwrap_or (tree.get by_name users u) []
    at true e =
        let one : user ≡ u = one_name user u (sym (is_eq-slice_cmp user u) ∙ e) in
        empty ∙ sym (ap (λ (x : List ℕ). unwrap_or (tree.get by_name users x) []) (sym one) ∙ lacking (tree.get by_name users user) none)
    at false e = refl

pub begun_plain : (users after : Users) (user : List ℕ) (new : List Counter) → is_users_plain users ≡ true → has_no_zero user ≡ true
    → after.entries ≡ insert_entry by_name users.entries user new → is_users_plain after ≡ true
begun_plain users after user new p q e =
    ap (λ (es : List (List ℕ × List Counter)). list_all has_no_zero (keys_of es)) e ∙ keys_more by_name has_no_zero users.entries user new p q

-- the counters of all, if those of one user are written
module _ (users begun after : Users) (past past' : Past) (user : List ℕ) (old new : List Counter) (keyed : AreKeyed users past)
    (same : (u : List ℕ) → counters_at begun u ≡ counters_at users u) (was : Some old ≡ tree.get by_name begun user)
    (written : tree.Updates by_name begun after user (Some new)) where
  pub own_old : old ≡ counters_at users user
  own_old = ap (λ (o : Option (List Counter)). unwrap_or o []) was ∙ same user

  pub written_at : (u : List ℕ) → counters_at after u ≡ cond (bytes_eq u user) new (counters_at users u)
  written_at u =
      ap (λ (o : Option (List Counter)). unwrap_or o []) (written.0 u)
      ∙ ap (λ (b : Bool). unwrap_or (cond b (Some new) (tree.get by_name begun u)) []) (is_eq-slice_cmp user u ∙ name-sym user u)
      ∙ at (bytes_eq u user)
    where
      at : (b : Bool) → unwrap_or (cond b (Some new) (tree.get by_name begun u)) [] ≡ cond b new (counters_at users u)
      at true = refl
      at false = same u

  looked_up : (u : List ℕ) (place : ℕ) (n : ℤ) → used_at after past' u place n ≡ used_at_place (cond (bytes_eq u user) new (counters_at users u)) past' u place n
  looked_up u place n = ap (λ (cs : List Counter). used_at_place cs past' u place n) (written_at u)

  pub all_counted : (controls : List Standing) (groups : List Group) (row : UsageRow) → row.user ≡ user → IsCounted controls groups row old past new past'
      → (u : List ℕ) (place : ℕ) (n : ℤ) → used_at after past' u place n
      ≡ cond (bytes_eq u row.user) (used_then controls groups row place n (used_at users past u place n)) (used_at users past u place n)
  all_counted controls groups row own c u place n = looked_up u place n ∙ at (bytes_eq u user) refl ∙ ap (λ (x : List ℕ). cond (bytes_eq u x) (used_then controls groups row place n (used_at users past u place n)) (used_at users past u place n)) (sym own)
    where
      at : (b : Bool) → bytes_eq u user ≡ b → used_at_place (cond b new (counters_at users u)) past' u place n
          ≡ cond b (used_then controls groups row place n (used_at users past u place n)) (used_at users past u place n)
      at true e =
          let one : u ≡ row.user = one_name u user e ∙ sym own in
          let two : old ≡ counters_at users u = own_old ∙ ap (counters_at users) (sym (one_name u user e)) in
          ap (λ (x : List ℕ). used_at_place new past' x place n) one
          ∙ c.counted place n
          ∙ ap₂ (λ (cs : List Counter) (x : List ℕ). used_then controls groups row place n (used_at_place cs past x place n)) two (sym one)
      at false e =
          ap (λ (o : Option Used). or_else (in_span n (at_place place (counters_at users u))) o) (c.others u place n (ap (bytes_eq u) own ∙ e))

  pub all_same : StaysSame user old past new past' → (u : List ℕ) (place : ℕ) (n : ℤ) → used_at after past' u place n ≡ used_at users past u place n
  all_same c u place n = looked_up u place n ∙ at (bytes_eq u user) refl
    where
      at : (b : Bool) → bytes_eq u user ≡ b → used_at_place (cond b new (counters_at users u)) past' u place n ≡ used_at users past u place n
      at true e =
          let two : old ≡ counters_at users u = own_old ∙ ap (counters_at users) (sym (one_name u user e)) in
          ap (λ (x : List ℕ). used_at_place new past' x place n) (one_name u user e)
          ∙ c.same place n
          ∙ ap₂ (λ (cs : List Counter) (x : List ℕ). used_at_place cs past x place n) two (sym (one_name u user e))
      at false e = ap (λ (o : Option Used). or_else (in_span n (at_place place (counters_at users u))) o) (c.others u place n e)

-- a table after a user's counters were written
pub after_keyed : (begun after : Users) (past' : Past) → is_users_plain begun ≡ true → tree.keys after ≡ tree.keys begun → tree.IsOrdered by_name after → is_past_plain past' ≡ true
    → AreKeyed after past'
after_keyed begun after past' p e o q =
    record { ordered = o; users_plain = ap (list_all has_no_zero) e ∙ p; past_plain = q }

pub beyond_counted : (controls : List Standing) (groups : List Group) (row : UsageRow) (users after : Users) (past past' : Past)
    → ((u : List ℕ) (place : ℕ) (n : ℤ) → used_at after past' u place n
    ≡ cond (bytes_eq u row.user) (used_then controls groups row place n (used_at users past u place n)) (used_at users past u place n))
    → ((u : List ℕ) (place : ℕ) (n : ℤ) → slice_get controls place ≡ None → used_at users past u place n ≡ None)
    → (u : List ℕ) (place : ℕ) (n : ℤ) → slice_get controls place ≡ None → used_at after past' u place n ≡ None
beyond_counted controls groups row users after past past' counted beyond u place n e =
    counted u place n
    ∙ ap (λ (o : Option Standing). cond (bytes_eq u row.user) (cond (counts_in groups o row n) (Some (used_more (used_at users past u place n) row)) (used_at users past u place n)) (used_at users past u place n)) e
    ∙ same (bytes_eq u row.user) (used_at users past u place n) ∙ beyond u place n e
  where
    same : (b : Bool) (o : Option Used) → cond b o o ≡ o
    same true o = refl
    same false o = refl

pub beyond_same : (controls : List Standing) (users after : Users) (past past' : Past)
    → ((u : List ℕ) (place : ℕ) (n : ℤ) → used_at after past' u place n ≡ used_at users past u place n)
    → ((u : List ℕ) (place : ℕ) (n : ℤ) → slice_get controls place ≡ None → used_at users past u place n ≡ None)
    → (u : List ℕ) (place : ℕ) (n : ℤ) → slice_get controls place ≡ None → used_at after past' u place n ≡ None
beyond_same controls users after past past' same beyond u place n e = same u place n ∙ beyond u place n e

pub begun_used : (users begun : Users) (past : Past) → ((u : List ℕ) → counters_at begun u ≡ counters_at users u)
    → (u : List ℕ) (place : ℕ) (n : ℤ) → used_at begun past u place n ≡ used_at users past u place n
begun_used users begun past same u place n = ap (λ (cs : List Counter). used_at_place cs past u place n) (same u)

-- a fact of a refused call
pub on_any_err : {A E : Type 0} (r : Result A E) {P : Type 0} → P → OnErr r P
on_any_err (Ok x) p = tt
on_any_err (Err e) p = p
