-- A core that is made again from a fair state is fair, so a step keeps a state fair.
use Rattle.std.proofs.Common.{◌≡◌, ◌∷◌, ◌≤◌, ℕ, ℤ, pos, ap, arith, Bool, cond, false, List, [], map, nat_le, refl, true}
use Rattle.std.specs.Prelude.{Option, Some, unwrap_or, ◌≤ℤ◌}
use Rattle.std.specs.List.{flat_map, list_all}
use Rattle.std.specs.Cmp.Lexicographic.{nat_list_cmp_total, slice_cmp}
use Rattle.std.specs.FinMap as finite
use Rattle.std.specs.FinMap.Entries.{find}
use Rattle.std.specs.Ordering.{is_eq, nat_cmp}
use Rattle.std.proofs.lemmas.Bool.{and_parts}
use Rattle.std.proofs.lemmas.Bool.Decides.{nat_tests}
use Rattle.std.proofs.lemmas.Int.{ints}
use Rattle.iss_model.specs.declared.account.Part.TheVariants as part
use Rattle.iss_model.specs.declared.input.Record.{Record}
use Rattle.iss_model.specs.declared.state.Carried.{Carried}
use Rattle.iss_model.specs.declared.state.State.{State}
use Rattle.iss_model.specs.Sums.{part_key}
use Rattle.iss_model.specs.rules.Stepping.{step}
use Rattle.iss_model.specs.state.Cores.{core_keeper}
use Rattle.iss_state.proofs.docket.Lists.{both_so}
use Rattle.iss_states.specs.Fairness.{IsFair}
use Rattle.iss_states.specs.Rebuilding.{part_sums, rebuilt, state_after}
use Rattle.iss_states.proofs.FairSteps.{step_fair}
use Rattle.iss_well_formed.specs.Txns.{AreFair, is_fair}
use Rattle.iss_well_formed.proofs.ShownTxns.{fair_shown}

-- what is found at a key of a list
abbrev pub found_at : List ℕ → List (List ℕ × ℤ) → ℤ
found_at key es = unwrap_or (find (slice_cmp nat_cmp) key es) (pos 0)

within : (m n : ℕ) → nat_le m n ≡ true → pos m ≤ℤ pos n
within m n h = omega (arith, ints, below m n h)
  where
    below : (m n : ℕ) → nat_le m n ≡ true → m ≤ n
    below m n h = grind (arith, nat_tests)

none : pos 0 ≤ℤ pos 0
none = omega (arith, ints)

-- sums of the same keys, each at most the other one
sums_at_most : (a b : Carried → ℕ) (key : List ℕ) (ts : List Carried) → list_all (λ t. nat_le (a t) (b t)) ts ≡ true → found_at key (map (λ t. (t.txn, pos (a t))) ts) ≤ℤ found_at key (map (λ t. (t.txn, pos (b t))) ts)
sums_at_most a b key [] h = none
sums_at_most a b key (t ∷ ts) h = let both = and_parts (nat_le (a t) (b t)) (list_all (λ t. nat_le (a t) (b t)) ts) h in by (is_eq (slice_cmp nat_cmp key t.txn)) both.0 (sums_at_most a b key ts both.1)
  where
    by : (same : Bool) → nat_le (a t) (b t) ≡ true → found_at key (map (λ t. (t.txn, pos (a t))) ts) ≤ℤ found_at key (map (λ t. (t.txn, pos (b t))) ts)
        → unwrap_or (cond same (Some (pos (a t))) (find (slice_cmp nat_cmp) key (map (λ t. (t.txn, pos (a t))) ts))) (pos 0) ≤ℤ unwrap_or (cond same (Some (pos (b t))) (find (slice_cmp nat_cmp) key (map (λ t. (t.txn, pos (b t))) ts))) (pos 0)
    by true its rest = within (a t) (b t) its
    by false its rest = rest

-- the programme's parts, by their keys
parts_at_most : (token : List ℕ) (ts : List Carried) → list_all (λ t. nat_le t.sums.p t.sums.paid) ts ≡ true → found_at (part_key token part.P) (flat_map part_sums ts) ≤ℤ found_at token (map (λ t. (t.txn, pos t.sums.paid)) ts)
parts_at_most token [] h = none
parts_at_most token (t ∷ ts) h =
    let both = and_parts (nat_le t.sums.p t.sums.paid) (list_all (λ t. nat_le t.sums.p t.sums.paid) ts) h in by (is_eq (slice_cmp nat_cmp token t.txn)) both.0 (parts_at_most token ts both.1)
  where
    by : (same : Bool) → nat_le t.sums.p t.sums.paid ≡ true → found_at (part_key token part.P) (flat_map part_sums ts) ≤ℤ found_at token (map (λ t. (t.txn, pos t.sums.paid)) ts)
        → unwrap_or (cond same (Some (pos t.sums.p)) (find (slice_cmp nat_cmp) (part_key token part.P) (flat_map part_sums ts))) (pos 0) ≤ℤ unwrap_or (cond same (Some (pos t.sums.paid)) (find (slice_cmp nat_cmp) token (map (λ t. (t.txn, pos t.sums.paid)) ts))) (pos 0)
    by true its rest = within t.sums.p t.sums.paid its
    by false its rest = rest

-- what a map of a list has at a key
pub got : (es : List (List ℕ × ℤ)) (key : List ℕ) → unwrap_or (finite.get (finite.from_entries {R = slice_cmp nat_cmp} es) key) (pos 0) ≡ found_at key es
got es key = ap (λ (o : Option ℤ). unwrap_or o (pos 0)) (finite.get-from_entries nat_list_cmp_total es key)

-- a fair state's transactions, one sentence at a time
fair_parts : (ts : List Carried) → list_all is_fair ts ≡ true → (list_all (λ t. nat_le t.sums.refunded t.sums.cleared) ts ≡ true) × (list_all (λ t. nat_le t.sums.p t.sums.paid) ts ≡ true)
fair_parts [] h = (refl, refl)
fair_parts (t ∷ ts) h =
    let both = and_parts (is_fair t) (list_all is_fair ts) h in
    let its = and_parts (nat_le t.sums.refunded t.sums.cleared) (nat_le t.sums.p t.sums.paid) both.0 in
    let rest = fair_parts ts both.1 in (
      both_so (nat_le t.sums.refunded t.sums.cleared) (list_all (λ t. nat_le t.sums.refunded t.sums.cleared) ts) its.0 rest.0,
      both_so (nat_le t.sums.p t.sums.paid) (list_all (λ t. nat_le t.sums.p t.sums.paid) ts) its.1 rest.1,
    )

pub fair_again : (s : State) → AreFair s → IsFair (rebuilt s)
fair_again s h =
    let both = fair_parts s.txns h in
    record {
      refunds = λ token.
          at_most (got (map (λ t. (t.txn, pos t.sums.refunded)) s.txns) token) (got (map (λ t. (t.txn, pos t.sums.cleared)) s.txns) token) (sums_at_most (λ t. t.sums.refunded) (λ t. t.sums.cleared) token s.txns both.0);
      holds = λ token.
          at_most (got (flat_map part_sums s.txns) (part_key token part.P)) (got (map (λ t. (t.txn, pos t.sums.paid)) s.txns) token) (parts_at_most token s.txns both.1);
    }
  where
    at_most : {x y a b : ℤ} → x ≡ a → y ≡ b → a ≤ℤ b → x ≤ℤ y
    at_most e f h = omega (arith, ints, e, f, h)

pub fair_after : (s : State) (r : Record) → AreFair s → AreFair (state_after s r)
fair_after s r h = fair_shown (step core_keeper (rebuilt s) r).world (step_fair (rebuilt s) r (fair_again s h))
