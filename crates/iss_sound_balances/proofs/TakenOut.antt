-- Listed balances, each compared with what is kept at its key and taken out there.
use Rattle.std.proofs.Common.{◌≡◌, ◌∙◌, ◌∷◌, ◌&&◌, ◌+◌, ◌<◌, ◌≤◌, ℕ, ℤ, pos, ap, Bool, cond, drop, false, get_or, length, List, [], map, refl, subst, sym, T, true}
use Rattle.std.specs.Prelude.{Option, Some, Result, Ok, Err, IfOk, find, option_map, unwrap_or}
use Rattle.std.specs.List.{list_all}
use Rattle.std.specs.declared.cmp.Ordering.{Ordering}
use Rattle.std.specs.declared.cmp.Ordering.TheVariants.{Less, Equal, Greater}
use Rattle.std.specs.Cmp.Lexicographic.{nat_list_cmp_total, slice_cmp}
use Rattle.std.specs.FinMap as finite
use Rattle.std.specs.FinMap.Entries as entries
use Rattle.std.specs.FinMap.Entries.{below_all, is_sorted}
use Rattle.std.specs.Ordering.{int_eq, is_eq, is_lt, nat_cmp}
use Rattle.std.specs.Str.{bytes_eq}
use Rattle.std.proofs.lemmas.Bool.{and_parts}
use Rattle.std.proofs.lemmas.Bool.Decides.{Decides-int_eq}
use Rattle.std.proofs.lemmas.List.{drop_all, drop_more}
use Rattle.std.proofs.lemmas.Map.Text.{is_eq-slice_cmp}
use Rattle.iss_model.specs.declared.account.Account.{Account}
use Rattle.iss_model.specs.declared.state.Saldo.{Saldo}
use Rattle.iss_model.specs.Sums.{account_key}
use Rattle.iss_model.specs.state.Kept.{Kept, kept_at}
use Rattle.iss_model.proofs.Names.{its_name, name-sym, one_name}
use Rattle.iss_ledger.specs.Saldos.{saldo_entry}
use Rattle.iss_state.proofs.docket.Lists.{both_so}
use Rattle.iss_well_formed.proofs.FairAgain.{found_at}
use Rattle.iss_balanced.specs.Owed.{are_in_key_order}
use Rattle.iss_sound_balances.specs.Listed.{IsLeft, SaysListed, SaysNothing, is_nothing, listed_at}

abbrev pub order : List ℕ → List ℕ → Ordering
order = slice_cmp nat_cmp

-- one balance ----

first_listed : (b : Saldo) (bs : List Saldo) (key : List ℕ) → listed_at (b ∷ bs) key ≡ cond (bytes_eq (account_key b.account) key) b.amount (listed_at bs key)
first_listed b bs key = by (bytes_eq (account_key b.account) key)
  where
    by : (t : Bool)
        → unwrap_or (option_map (λ (x : Saldo). x.amount) (cond t (Some b) (find (λ x. bytes_eq (account_key x.account) key) bs))) (pos 0) ≡ cond t b.amount (listed_at bs key)
    by true = refl
    by false = refl

-- a balance at its own key
pub its_own : (b : Saldo) (bs : List Saldo) → listed_at (b ∷ bs) (account_key b.account) ≡ b.amount
its_own b bs = first_listed b bs (account_key b.account) ∙ ap (λ (t : Bool). cond t b.amount (listed_at bs (account_key b.account))) (its_name (account_key b.account))

apart_from : (r : Ordering) → is_lt r ≡ true → is_eq r ≡ false
apart_from Less h = refl
apart_from Equal h = cc
apart_from Greater h = refl

-- what comes before all isn't listed
pub none_listed : (key : List ℕ) (bs : List Saldo) → list_all (λ x. is_lt (slice_cmp nat_cmp key (account_key x.account))) bs ≡ true → listed_at bs key ≡ pos 0
none_listed key [] h = refl
none_listed key (b ∷ bs) h =
    let both = and_parts (is_lt (slice_cmp nat_cmp key (account_key b.account))) (list_all (λ (x : Saldo). is_lt (slice_cmp nat_cmp key (account_key x.account))) bs) h in
    first_listed b bs key
    ∙ ap (λ (t : Bool). cond t b.amount (listed_at bs key))
    (name-sym (account_key b.account) key ∙ sym (is_eq-slice_cmp key (account_key b.account)) ∙ apart_from (slice_cmp nat_cmp key (account_key b.account)) both.0)
    ∙ none_listed key bs both.1

kept_taken : (m : Kept) (taken key : List ℕ) → kept_at (finite.insert m taken (pos 0)) key ≡ cond (bytes_eq taken key) (pos 0) (kept_at m key)
kept_taken m taken key =
    ap (λ (o : Option ℤ). unwrap_or o (pos 0)) (finite.get-insert nat_list_cmp_total m taken (pos 0) key)
    ∙ ap (λ (b : Bool). unwrap_or (cond b (Some (pos 0)) (finite.get m key)) (pos 0)) (is_eq-slice_cmp key taken ∙ name-sym key taken)
    ∙ by (bytes_eq taken key)
  where
    by : (b : Bool) → unwrap_or (cond b (Some (pos 0)) (finite.get m key)) (pos 0) ≡ cond b (pos 0) (kept_at m key)
    by true = refl
    by false = refl

-- What a list and what is kept agree on is the same after a balance that both have is taken out of both.
module _ (m : Kept) (b : Saldo) (rest : List Saldo) (has : kept_at m (account_key b.account) ≡ b.amount) (rising : are_in_key_order (b ∷ rest) ≡ true) where
  abbrev its : List ℕ
  its = account_key b.account

  later : listed_at rest its ≡ pos 0
  later = none_listed its rest (and_parts (list_all (λ (x : Saldo). is_lt (slice_cmp nat_cmp its (account_key x.account))) rest) (are_in_key_order rest) rising).0

  pub taken_back : (key : List ℕ) → listed_at rest key ≡ kept_at (finite.insert m its (pos 0)) key → listed_at (b ∷ rest) key ≡ kept_at m key
  taken_back key h = first_listed b rest key ∙ by (bytes_eq its key) refl (h ∙ kept_taken m its key)
    where
      by : (t : Bool) → bytes_eq its key ≡ t → listed_at rest key ≡ cond t (pos 0) (kept_at m key) → cond t b.amount (listed_at rest key) ≡ kept_at m key
      by true e h = sym has ∙ ap (kept_at m) (one_name its key e)
      by false e h = h

  pub taken_out : (key : List ℕ) → listed_at (b ∷ rest) key ≡ kept_at m key → listed_at rest key ≡ kept_at (finite.insert m its (pos 0)) key
  taken_out key h = by (bytes_eq its key) refl (sym (first_listed b rest key) ∙ h) ∙ sym (kept_taken m its key)
    where
      by : (t : Bool) → bytes_eq its key ≡ t → cond t b.amount (listed_at rest key) ≡ kept_at m key → listed_at rest key ≡ cond t (pos 0) (kept_at m key)
      by true e h = ap (listed_at rest) (sym (one_name its key e)) ∙ later
      by false e h = h

-- the loop ----

left_next : (bs : List Saldo) (m : Kept) (b : Saldo) (rest : List Saldo) (left next : Kept) → IsLeft bs m (b ∷ rest) left → kept_at left (account_key b.account) ≡ b.amount
    → next ≡ finite.insert left (account_key b.account) (pos 0) → IsLeft bs m rest next
left_next bs m b rest left next h has e =
    record {
      order = (and_parts (list_all (λ (x : Saldo). is_lt (slice_cmp nat_cmp (account_key b.account) (account_key x.account))) rest) (are_in_key_order rest) h.order).1;
      whole = λ key k. h.whole key (taken_back left b rest has h.order key (k ∙ ap (λ (x : Kept). kept_at x key) e));
      part = λ key k. taken_out left b rest has h.order key (h.part key k) ∙ ap (λ (x : Kept). kept_at x key) (sym e);
    }

-- the balance at a place comes first of those that are left there
here : (bs : List Saldo) (i : ℕ) (b : Saldo) → i < length bs → b ≡ get_or bs i b → drop i bs ≡ b ∷ drop (i + 1) bs
here bs i b below e = drop_more bs i b below ∙ ap (λ (x : Saldo). x ∷ drop (i + 1) bs) (sym e)

same_amount : (y z : ℤ) → int_eq y z ≡ true → y ≡ z
same_amount y z h = (Decides-int_eq y z).0 h

pub next_left : (bs : List Saldo) (m : Kept) (i : ℕ) (b : Saldo) (left next : Kept) → IsLeft bs m (drop i bs) left → i < length bs → b ≡ get_or bs i b
    → int_eq (kept_at left (account_key b.account)) b.amount ≡ true → next ≡ finite.insert left (account_key b.account) (pos 0) → IsLeft bs m (drop (i + 1) bs) next
next_left bs m i b left next h below its same e =
    left_next bs m b (drop (i + 1) bs) left next (subst (λ (rest : List Saldo). IsLeft bs m rest left) (here bs i b below its) h)
    (same_amount (kept_at left (account_key b.account)) b.amount same) e

-- a balance isn't what is kept
pub differs : (bs : List Saldo) (m : Kept) (i : ℕ) (b : Saldo) (left : Kept) → IsLeft bs m (drop i bs) left → i < length bs → b ≡ get_or bs i b
    → int_eq (kept_at left (account_key b.account)) b.amount ≡ false → SaysListed bs m false
differs bs m i b left h below its apart =
    let first : IsLeft bs m (b ∷ drop (i + 1) bs) left = subst (λ (rest : List Saldo). IsLeft bs m rest left) (here bs i b below its) h in
    record {
      all = λ e key. let bad : false ≡ true = e in cc;
      only = λ each.
          sym apart
          ∙ (Decides-int_eq (kept_at left (account_key b.account)) b.amount).1 (sym (first.part (account_key b.account) (each b.account)) ∙ its_own b (drop (i + 1) bs));
    }

none_left : (bs : List Saldo) (i : ℕ) → length bs ≤ i → drop i bs ≡ []
none_left bs i h = drop_all i bs h

-- all is taken out, and this says whether nothing is left
pub ends : (bs : List Saldo) (m : Kept) (i : ℕ) (left : Kept) (answer : Bool) → IsLeft bs m (drop i bs) left → length bs ≤ i → SaysNothing left answer → SaysListed bs m answer
ends bs m i left answer h over says =
    let last : IsLeft bs m [] left = subst (λ (rest : List Saldo). IsLeft bs m rest left) (none_left bs i over) h in
    record {
      all = λ e key. last.whole key (sym (says.all e key));
      only = λ each. says.only (λ a. sym (last.part (account_key a) (each a)));
    }

-- so if this could be said
pub ends_so : {E : Type 0} (bs : List Saldo) (m : Kept) (i : ℕ) (left : Kept) (result : Result Bool E) → IsLeft bs m (drop i bs) left → length bs ≤ i
    → IfOk result (λ answer. SaysNothing left answer) → IfOk result (λ answer. SaysListed bs m answer)
ends_so bs m i left (Ok answer) h over says = ends bs m i left answer h over says
ends_so bs m i left (Err why) h over says = tt

-- nothing is kept ----

pub less_is : (r : Ordering) → T (is_lt r) → r ≡ Less
less_is Less h = refl
less_is Equal h = absurd h
less_is Greater h = absurd h

pub parts_of : (a b : Bool) → T (a && b) → T a × T b
parts_of true true h = (tt, tt)
parts_of true false h = absurd h
parts_of false b h = absurd h

pub below_found : (x : List ℕ) (es : List (List ℕ × ℤ)) → T (below_all order x es) → found_at x es ≡ pos 0
below_found x [] h = refl
below_found x (e ∷ es) h =
    let both = parts_of (is_lt (order x e.0)) (below_all order x es) h in
    ap (λ (r : Ordering). unwrap_or (cond (is_eq r) (Some e.1) (entries.find order x es)) (pos 0)) (less_is (order x e.0) both.0) ∙ below_found x es both.1

first_found : (e : List ℕ × ℤ) (es : List (List ℕ × ℤ)) (key : List ℕ) → found_at key (e ∷ es) ≡ cond (bytes_eq key e.0) e.1 (found_at key es)
first_found e es key = ap (λ (t : Bool). unwrap_or (cond t (Some e.1) (entries.find order key es)) (pos 0)) (is_eq-slice_cmp key e.0) ∙ by (bytes_eq key e.0)
  where
    by : (t : Bool) → unwrap_or (cond t (Some e.1) (entries.find order key es)) (pos 0) ≡ cond t e.1 (found_at key es)
    by true = refl
    by false = refl

-- the first entry is found at its key
pub its_found : (e : List ℕ × ℤ) (es : List (List ℕ × ℤ)) → found_at e.0 (e ∷ es) ≡ e.1
its_found e es = first_found e es e.0 ∙ ap (λ (t : Bool). cond t e.1 (found_at e.0 es)) (its_name e.0)

-- if nothing is found at a key, nothing is after the first entry
pub later_nothing : (e : List ℕ × ℤ) (es : List (List ℕ × ℤ)) (key : List ℕ) → T (is_sorted order (e ∷ es)) → found_at key (e ∷ es) ≡ pos 0 → found_at key es ≡ pos 0
later_nothing e es key sorted h = by (bytes_eq key e.0) refl (sym (first_found e es key) ∙ h)
  where
    below : T (below_all order e.0 es)
    below = (parts_of (below_all order e.0 es) (is_sorted order es) sorted).0

    by : (t : Bool) → bytes_eq key e.0 ≡ t → cond t e.1 (found_at key es) ≡ pos 0 → found_at key es ≡ pos 0
    by true same g = ap (λ (k : List ℕ). found_at k es) (one_name key e.0 same) ∙ below_found e.0 es below
    by false same g = g

pub later_sorted : (e : List ℕ × ℤ) (es : List (List ℕ × ℤ)) → T (is_sorted order (e ∷ es)) → T (is_sorted order es)
later_sorted e es sorted = (parts_of (below_all order e.0 es) (is_sorted order es) sorted).1

int_same : (z : ℤ) → z ≡ pos 0 → int_eq z (pos 0) ≡ true
int_same z e = ap (λ (y : ℤ). int_eq y (pos 0)) e

int_is : (z : ℤ) → int_eq z (pos 0) ≡ true → z ≡ pos 0
int_is z h = (Decides-int_eq z (pos 0)).0 h

all_nothing : (items : List Saldo) → list_all is_nothing items ≡ true → (key : List ℕ) → found_at key (map saldo_entry items) ≡ pos 0
all_nothing [] h key = refl
all_nothing (b ∷ items) h key =
    let both = and_parts (is_nothing b) (list_all is_nothing items) h in
    first_found (saldo_entry b) (map saldo_entry items) key ∙ by (bytes_eq key (account_key b.account)) (int_is b.amount both.0) (all_nothing items both.1 key)
  where
    by : (t : Bool) → b.amount ≡ pos 0 → found_at key (map saldo_entry items) ≡ pos 0 → cond t b.amount (found_at key (map saldo_entry items)) ≡ pos 0
    by true e rest = e
    by false e rest = rest

each_nothing : (items : List Saldo) → T (is_sorted order (map saldo_entry items)) → ((a : Account) → found_at (account_key a) (map saldo_entry items) ≡ pos 0) → list_all is_nothing items ≡ true
each_nothing [] sorted h = refl
each_nothing (b ∷ items) sorted h =
    both_so (is_nothing b) (list_all is_nothing items)
    (int_same b.amount (sym (its_found (saldo_entry b) (map saldo_entry items)) ∙ h b.account))
    (each_nothing items (later_sorted (saldo_entry b) (map saldo_entry items) sorted) (λ a. later_nothing (saldo_entry b) (map saldo_entry items) (account_key a) sorted (h a)))

-- whether each listed entry is nothing says whether nothing is kept
pub says_nothing : (m : Kept) (items : List Saldo) (answer : Bool) → map saldo_entry items ≡ finite.entries m → answer ≡ list_all is_nothing items → SaysNothing m answer
says_nothing m items answer all e =
    record {
      all = λ h key. found key ∙ all_nothing items (sym e ∙ h) key;
      only = λ h. e ∙ each_nothing items (subst (λ (es : List (List ℕ × ℤ)). T (is_sorted order es)) (sym all) (finite.entries_sorted m)) (λ a. sym (found (account_key a)) ∙ h a);
    }
  where
    found : (key : List ℕ) → kept_at m key ≡ found_at key (map saldo_entry items)
    found key = ap (λ (o : Option ℤ). unwrap_or o (pos 0)) (finite.get-entries m key) ∙ ap (found_at key) (sym all)
