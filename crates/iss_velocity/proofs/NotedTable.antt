-- A table after a row was noted of one user, whose counters may have been begun just before.
use Rattle.std.proofs.Common.{◌≡◌, ℕ, Bool, true, false, List, ◌∷◌, map, refl, sym, ap, ◌∙◌, subst}
use Rattle.std.specs.Prelude.{Option, Some, IsSome, unwrap_or, [], Result, Ok, Err, OnOk, OnErr, if◌then◌else◌}
use Rattle.std.specs.List.{list_all}
use Rattle.std.specs.Map.{lookup, keys_of}
use Rattle.std.specs.Ordering.{nat_cmp, is_eq}
use Rattle.std.specs.Cmp.Lexicographic.{slice_cmp}
use Rattle.std.specs.BTreeMap as tree
use Rattle.std.specs.BTreeMap.{is_at}
use Rattle.std.proofs.lemmas.Bool.{and_parts}
use Rattle.std.proofs.lemmas.Map.Text.{is_eq-slice_cmp}
use Rattle.iss_model.specs.declared.entry.Entry.TheVariants as entry
use Rattle.iss_model.specs.declared.txn.UsageRow.{UsageRow}
use Rattle.iss_model.specs.rules.Controls.{Group}
use Rattle.iss_model.specs.state.Cores.{control_after_use}
use Rattle.iss_model.proofs.Names.{one_name}
use Rattle.iss_velocity.specs.declared.counters.Counter.{Counter}
use Rattle.iss_velocity.specs.declared.standing.Standing.{Standing}
use Rattle.iss_velocity.specs.declared.table.Table.{Table}
use Rattle.iss_velocity.specs.Counting.{Users, Past, by_name, counters_at}
use Rattle.iss_velocity.specs.Keeping.{has_no_zero, is_users_plain, controls_in, controls_from, HaveSmallSums, StaySmall, IsTable, StaysSame, IsCounted}
use Rattle.iss_velocity.proofs.Controlling.{fits, controls_stay, controls_then}
use Rattle.iss_velocity.proofs.Noting.{all_counted, all_same, after_keyed, beyond_counted, beyond_same}

-- a name that is a key has no byte 0, as all keys
key_plain : (es : List (List ℕ × List Counter)) (user : List ℕ) (old : List Counter) → list_all has_no_zero (keys_of es) ≡ true
    → Some old ≡ lookup (is_at (by_name user)) es → has_no_zero user ≡ true
key_plain [] user old all found = cc
key_plain (e ∷ es) user old all found =
    let parts = and_parts (has_no_zero e.0) (list_all has_no_zero (keys_of es)) all in
    at (is_eq (slice_cmp nat_cmp user e.0)) refl parts.0 (key_plain es user old parts.1) found
  where
    at : (b : Bool) → is_eq (slice_cmp nat_cmp user e.0) ≡ b → has_no_zero e.0 ≡ true → (Some old ≡ lookup (is_at (by_name user)) es → has_no_zero user ≡ true)
        → Some old ≡ (if b then Some e.1 else lookup (is_at (by_name user)) es) → has_no_zero user ≡ true
    at true t first rest f = ap has_no_zero (one_name user e.0 (sym (is_eq-slice_cmp user e.0) ∙ t)) ∙ first
    at false t first rest f = rest f

pub user_plain : (users : Users) (user : List ℕ) (old : List Counter) → is_users_plain users ≡ true → Some old ≡ tree.get by_name users user → has_no_zero user ≡ true
user_plain users user old all found = key_plain users.entries user old all found

pub is_begun : (o : Option (List Counter)) (old : List Counter) → Some old ≡ o → IsSome o
is_begun o old e = subst (λ (x : Option (List Counter)). IsSome x) e refl

-- facts of a call that is refused or not
pub either : {A E : Type 0} (r : Result A E) {P Q R : Type 0} → (P → R) → (Q → R) → OnOk r P → OnErr r Q → R
either (Ok x) f g p q = f p
either (Err e) f g p q = g q

pub on_ok : {A E : Type 0} (r : Result A E) {P Q : Type 0} → (P → Q) → OnOk r P → OnOk r Q
on_ok (Ok x) f p = f p
on_ok (Err e) f p = tt

pub on_err : {A E : Type 0} (r : Result A E) {P Q : Type 0} → (P → Q) → OnErr r P → OnErr r Q
on_err (Ok x) f p = tt
on_err (Err e) f p = f p

-- what a user has counted stays small with the row
pub stay_small : (table : Table) (groups : List Group) (row : UsageRow) (begun : Users) (old : List Counter) (controls : List Standing) → IsTable table
    → ((u : List ℕ) → counters_at begun u ≡ counters_at table.users u) → Some old ≡ tree.get by_name begun row.user → controls ≡ table.controls.items
    → has_no_zero row.user ≡ true → HaveSmallSums (map (control_after_use groups (entry.Usage row)) (controls_in table)) → StaySmall controls groups row old table.past
stay_small table groups row begun old controls is same was controls_are plain small =
    subst (λ (ss : List Standing). StaySmall ss groups row old table.past) (sym controls_are)
    (subst (λ (xs : List Counter). StaySmall table.controls.items groups row xs table.past) (sym (ap (λ o. unwrap_or o []) was ∙ same row.user))
    (fits table.controls.items groups row table.users table.past is.keyed plain small))

-- the table with one user's counters written
module _ (table : Table) (groups : List Group) (row : UsageRow) (begun after : Users) (past : Past) (old new : List Counter) (controls : List Standing)
    (is : IsTable table) (same : (u : List ℕ) → counters_at begun u ≡ counters_at table.users u) (was : Some old ≡ tree.get by_name begun row.user)
    (written : tree.Updates by_name begun after row.user (Some new)) (plain : is_users_plain begun ≡ true) (keys : tree.keys after ≡ tree.keys begun)
    (ordered : tree.IsOrdered by_name after) (controls_are : controls ≡ table.controls.items) where
  counted_all : IsCounted controls groups row old table.past new past → IsCounted table.controls.items groups row old table.past new past
  counted_all counted = subst (λ (ss : List Standing). IsCounted ss groups row old table.past new past) controls_are counted

  pub keyed_counted : IsCounted controls groups row old table.past new past → IsTable (record table { users = after; past = past })
  keyed_counted counted =
      record {
        keyed = after_keyed begun after past plain keys ordered (counted.plain is.keyed.past_plain);
        apart = is.apart;
        beyond = beyond_counted table.controls.items groups row table.users after table.past past
            (all_counted table.users begun after table.past past row.user old new is.keyed same was written table.controls.items groups row refl (counted_all counted)) is.beyond;
      }

  pub keyed_same : StaysSame row.user old table.past new past → IsTable (record table { users = after; past = past })
  keyed_same stays =
      record {
        keyed = after_keyed begun after past plain keys ordered (stays.plain is.keyed.past_plain);
        apart = is.apart;
        beyond = beyond_same table.controls.items table.users after table.past past
            (all_same table.users begun after table.past past row.user old new is.keyed same was written stays) is.beyond;
      }

  pub controls_counted : has_no_zero row.user ≡ true → IsCounted controls groups row old table.past new past
      → controls_from after past 0 table.controls.items ≡ map (control_after_use groups (entry.Usage row)) (controls_in table)
  controls_counted named counted =
      controls_then table.controls.items groups row table.users after table.past past is.keyed (after_keyed begun after past plain keys ordered (counted.plain is.keyed.past_plain)) named
      (all_counted table.users begun after table.past past row.user old new is.keyed same was written table.controls.items groups row refl (counted_all counted))

  pub controls_same : StaysSame row.user old table.past new past → controls_from after past 0 table.controls.items ≡ controls_in table
  controls_same stays =
      controls_stay table.users after table.past past table.controls.items is.keyed (after_keyed begun after past plain keys ordered (stays.plain is.keyed.past_plain))
      (λ u p n h. all_same table.users begun after table.past past row.user old new is.keyed same was written stays u p n)
