-- The place of a name, and what stands there.
use Rattle.std.proofs.Common.{◌≡◌, ℕ, zero, suc, ◌<◌, Bool, true, false, cond, List, [], ◌∷◌, ◌++◌, get_or, map, length, refl, sym, ap, ap₂, ◌∙◌, subst, arith}
use Rattle.std.proofs.lemmas.Option.{get_or_from_slice_get, slice_get-get_or}
use Rattle.std.specs.Prelude.{Option, Some, None, is_some, slice_get}
use Rattle.std.specs.Option.{option_map}
use Rattle.std.specs.List.{list_any}
use Rattle.std.specs.Str.{bytes_eq}
use Rattle.iss_model.proofs.Names.{one_name, name-sym}
use Rattle.iss_model.specs.rules.Activity.{TxnNow, txn_named}
use Rattle.iss_index.specs.Places.{place_of}
use Rattle.iss_hold.specs.declared.hold.Hold.{Hold}
use Rattle.iss_model.specs.state.Cores.{Holdings}
use Rattle.iss_model.proofs.Lists.{map-map}
use Rattle.iss_hold.specs.Holdings.{txn_of_hold, tokens, holdings_of}
use Rattle.iss_hold.specs.Indexes.{names, place_in, ArePlaced, IsAt}

-- the names of the holds are the tokens of the holdings that they make
pub same_names : (hs : List Hold) {s : Holdings} → holdings_of hs ≡ s → names hs ≡ tokens s.txns
same_names hs view = sym (map-map txn_of_hold (λ (t : TxnNow). t.txn.token) hs) ∙ ap (λ (h : Holdings). tokens h.txns) view

one_less : (o : Option ℕ) (i : ℕ) → option_map suc o ≡ Some (suc i) → o ≡ Some i
one_less None i e = cc
one_less (Some j) i e = cc

not_first : (o : Option ℕ) (P : Type 0) → option_map suc o ≡ Some 0 → P
not_first None P e = cc
not_first (Some j) P e = cc

inside_by : (b : Bool) (o : Option ℕ) (i n : ℕ) → ((j : ℕ) → o ≡ Some j → j < n) → cond b (Some 0) (option_map suc o) ≡ Some i → i < suc n
inside_by b o zero n rest p = omega arith
inside_by true o (suc i) n rest p = cc
inside_by false o (suc i) n rest p = let below = rest i (one_less o i p) in omega arith

inside_list : (name : List ℕ) (hs : List Hold) (i : ℕ) → place_in name (names hs) ≡ Some i → i < length hs
inside_list name [] i e = cc
inside_list name (x ∷ hs) i e = inside_by (bytes_eq x.txn.token name) (place_in name (names hs)) i (length hs) (λ j. inside_list name hs j) e

placed_in : (name : List ℕ) (ns : List (List ℕ)) → place_of name ns ≡ place_in name ns
placed_in name [] = refl
placed_in name (n ∷ ns) = ap₂ (λ (b : Bool) (o : Option ℕ). cond b (Some 0) (option_map suc o)) (name-sym name n) (placed_in name ns)

-- the place that is known of a name is its place among the holds
pub place_is : {hs : List Hold} {places : List (List ℕ)} → ArePlaced hs places → (name : List ℕ) → place_of name places ≡ place_in name (names hs)
place_is {hs} placed name = ap (place_of name) placed.same ∙ placed_in name (names hs)

-- a place is one of the list's
pub inside : {hs : List Hold} {places : List (List ℕ)} {i : ℕ} (name : List ℕ) → ArePlaced hs places → Some i ≡ place_of name places → i < length hs
inside {hs} {places} {i} name placed e = inside_list name hs i (sym (place_is placed name) ∙ sym e)

is_at_by : (name : List ℕ) (x : Hold) (hs : List Hold) (i : ℕ) (h : Hold) (b : Bool) → bytes_eq x.txn.token name ≡ b
    → ((j : ℕ) → place_in name (names hs) ≡ Some j → h ≡ get_or hs j h → IsAt name hs j h)
    → cond b (Some 0) (option_map suc (place_in name (names hs))) ≡ Some i → h ≡ get_or (x ∷ hs) i h → IsAt name (x ∷ hs) i h
is_at_by name x hs zero h true e rest p g =
    subst (λ (y : Hold). IsAt name (x ∷ hs) 0 y) (sym g)
    (record { is_there = refl; named = one_name x.txn.token name e; found = ap (λ (b : Bool). cond b (Some (txn_of_hold x)) (txn_named name (map txn_of_hold hs))) e })
is_at_by name x hs (suc i) h true e rest p g = cc
is_at_by name x hs zero h false e rest p g = not_first (place_in name (names hs)) (IsAt name (x ∷ hs) 0 h) p
is_at_by name x hs (suc i) h false e rest p g =
    let at = rest i (one_less (place_in name (names hs)) i p) g in
    record { is_there = at.is_there; named = at.named; found = ap (λ (b : Bool). cond b (Some (txn_of_hold x)) (txn_named name (map txn_of_hold hs))) e ∙ at.found }

is_at_list : (name : List ℕ) (hs : List Hold) (i : ℕ) (h : Hold) → place_in name (names hs) ≡ Some i → h ≡ get_or hs i h → IsAt name hs i h
is_at_list name [] i h e g = cc
is_at_list name (x ∷ hs) i h e g = is_at_by name x hs i h (bytes_eq x.txn.token name) refl (λ j. is_at_list name hs j h) e g

-- what stands at the place of a name
pub is_at : {name : List ℕ} {hs : List Hold} {places : List (List ℕ)} {i : ℕ} {h : Hold} → ArePlaced hs places → Some i ≡ place_of name places → slice_get hs i ≡ Some h → IsAt name hs i h
is_at {name} {hs} {places} {i} {h} placed e g = is_at_list name hs i h (sym (place_is placed name) ∙ sym e) (sym (get_or_from_slice_get hs i h h g))

-- a hold stands at a place that another of its transaction may take
pub record IsReplaced (hs : List Hold) (i : ℕ) (h k : Hold) : Type 0 where
  pub is_there : slice_get hs i ≡ Some h
  pub same : txn_of_hold h ≡ txn_of_hold k

unwrapped : {t u : TxnNow} → Some t ≡ Some u → t ≡ u
unwrapped f = cc

pub replaced : {hs : List Hold} {i : ℕ} {h : Hold} (k : Hold) → option_map txn_of_hold (slice_get hs i) ≡ Some (txn_of_hold k) → slice_get hs i ≡ Some h → IsReplaced hs i h k
replaced {hs} {i} {h} k e g = record { is_there = g; same = unwrapped (ap (λ (o : Option Hold). option_map txn_of_hold o) (sym g) ∙ e) }

pub stood_inside : (hs : List Hold) (i : ℕ) (t : TxnNow) → option_map txn_of_hold (slice_get hs i) ≡ Some t → i < length hs
stood_inside [] i t e = cc
stood_inside (x ∷ hs) zero t e = omega arith
stood_inside (x ∷ hs) (suc i) t e = let below = stood_inside hs i t e in omega arith

-- a hold stands there
pub stood : (hs : List Hold) (i : ℕ) (k : Hold) → option_map txn_of_hold (slice_get hs i) ≡ Some (txn_of_hold k) → IsReplaced hs i (get_or hs i k) k
stood hs i k e = replaced k e (slice_get-get_or hs i k (stood_inside hs i (txn_of_hold k) e))

has_place_by : (name : List ℕ) (h : Hold) (hs : List Hold) (b : Bool) → bytes_eq h.txn.token name ≡ b
    → is_some (place_in name (names hs)) ≡ is_some (txn_named name (map txn_of_hold hs))
    → is_some (cond b (Some 0) (option_map suc (place_in name (names hs)))) ≡ is_some (cond b (Some (txn_of_hold h)) (txn_named name (map txn_of_hold hs)))
has_place_by name h hs true e rest = refl
has_place_by name h hs false e rest = same_some (place_in name (names hs)) ∙ rest
  where
    same_some : (o : Option ℕ) → is_some (option_map suc o) ≡ is_some o
    same_some None = refl
    same_some (Some j) = refl

-- a name has a place if its transaction was started
pub has_place : (name : List ℕ) (hs : List Hold) → is_some (place_in name (names hs)) ≡ is_some (txn_named name (map txn_of_hold hs))
has_place name [] = refl
has_place name (h ∷ hs) = has_place_by name h hs (bytes_eq h.txn.token name) refl (has_place name hs)

-- the place of a name among one more
more_by : (b c : Bool) (o : Option ℕ) (n : ℕ) → cond b (Some 0) (option_map suc (cond (is_some o) o (cond c (Some n) None)))
    ≡ cond (is_some (cond b (Some 0) (option_map suc o))) (cond b (Some 0) (option_map suc o)) (cond c (Some (suc n)) None)
more_by true c o n = refl
more_by false true None n = refl
more_by false false None n = refl
more_by false c (Some j) n = refl

pub place_more : (name : List ℕ) (ns : List (List ℕ)) (new : List ℕ)
    → place_in name (ns ++ new ∷ []) ≡ cond (is_some (place_in name ns)) (place_in name ns) (cond (bytes_eq new name) (Some (length ns)) None)
place_more name [] new = refl
place_more name (n ∷ ns) new =
    ap (λ (o : Option ℕ). cond (bytes_eq n name) (Some 0) (option_map suc o)) (place_more name ns new)
    ∙ more_by (bytes_eq n name) (bytes_eq new name) (place_in name ns) (length ns)

-- a name without a place is no other's
no_place_by : (name n : List ℕ) (ns : List (List ℕ)) (b : Bool) → bytes_eq n name ≡ b → is_some (cond b (Some 0) (option_map suc (place_in name ns))) ≡ false
    → (is_some (place_in name ns) ≡ false → list_any (λ other. bytes_eq name other) ns ≡ false) → list_any (λ other. bytes_eq name other) (n ∷ ns) ≡ false
no_place_by name n ns true e p rest = cc
no_place_by name n ns false e p rest =
    let none = rest (sym (same_some (place_in name ns)) ∙ p) in
    let apart : bytes_eq name n ≡ false = name-sym name n ∙ e in
    rw (apart, none) refl
  where
    same_some : (o : Option ℕ) → is_some (option_map suc o) ≡ is_some o
    same_some None = refl
    same_some (Some j) = refl

pub no_place : (name : List ℕ) (ns : List (List ℕ)) → is_some (place_in name ns) ≡ false → list_any (λ other. bytes_eq name other) ns ≡ false
no_place name [] e = refl
no_place name (n ∷ ns) e = no_place_by name n ns (bytes_eq n name) refl e (no_place name ns)
