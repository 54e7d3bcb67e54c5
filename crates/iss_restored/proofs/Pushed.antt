-- Sums by key as a list gives them, when one that is new comes last.
use Rattle.std.proofs.Common.{◌≡◌, ◌∙◌, ◌++◌, ◌∷◌, ◌+ℤ◌, ℕ, ℤ, pos, ap, arith, Bool, cond, false, List, [], map, refl, sym, true}
use Rattle.std.specs.Prelude.{Option, Some, None, unwrap_or}
use Rattle.std.specs.List.{flat_map}
use Rattle.std.specs.Str.{bytes_eq}
use Rattle.std.specs.Cmp.Lexicographic.{nat_list_cmp_total, slice_cmp}
use Rattle.std.specs.FinMap as finite
use Rattle.std.specs.FinMap.Entries as entries
use Rattle.std.specs.Ordering.{eq_by_cmp, is_eq, nat_cmp}
use Rattle.std.proofs.lemmas.Grind.{flat_map-append}
use Rattle.std.proofs.lemmas.Int.{ints}
use Rattle.std.proofs.lemmas.List.{map-append}
use Rattle.std.proofs.lemmas.Map.Text.{is_eq-slice_cmp}
use Rattle.iss_model.specs.declared.account.Part.{Part}
use Rattle.iss_model.specs.declared.account.Part.TheVariants as part
use Rattle.iss_model.specs.declared.state.Carried.{Carried}
use Rattle.iss_model.specs.declared.txn.Txn.{Txn}
use Rattle.iss_model.specs.Sums.{part_key}
use Rattle.iss_model.specs.state.Kept.{Kept, after_change, after_changes}
use Rattle.iss_model.proofs.Names.{name-sym}
use Rattle.iss_hold.specs.Holdings as holds
use Rattle.iss_hold.specs.Restoring.{hold_with}
use Rattle.iss_states.specs.Rebuilding.{carried_named, kept_by, part_sums}
use Rattle.iss_well_formed.proofs.FairAgain.{got}

-- the sums of a list
abbrev pub sums_of : List (List ℕ × ℤ) → Kept
sums_of es = finite.from_entries es

-- what a list has at a key, if it has it
abbrev pub in_list : List ℕ → List (List ℕ × ℤ) → Option ℤ
in_list key es = entries.find (slice_cmp nat_cmp) key es

-- a sum that is set at a new key
pub set_pushed : (es : List (List ℕ × ℤ)) (key : List ℕ) (sum : ℤ) → in_list key es ≡ None
    → finite.insert (sums_of es) key sum ≡ sums_of (es ++ (key, sum) ∷ [])
set_pushed es key sum none = sym (finite.from_entries_push nat_list_cmp_total
    (finite.slice_cmp-IsAntisymmetric finite.nat_cmp-IsAntisymmetric) es key sum none)

nothing_more : (z : ℤ) → pos 0 +ℤ z ≡ z
nothing_more z = omega (arith, ints)

-- a sum that is added at a new key
change_pushed : (es : List (List ℕ × ℤ)) (key : List ℕ) (sum : ℤ) → in_list key es ≡ None
    → after_change (sums_of es) (record { key = key; by = sum }) ≡ sums_of (es ++ (key, sum) ∷ [])
change_pushed es key sum none =
    ap (λ (z : ℤ). finite.insert (sums_of es) key (z +ℤ sum)) (got es key ∙ ap (λ (o : Option ℤ). unwrap_or o (pos 0)) none)
    ∙ ap (λ (z : ℤ). finite.insert (sums_of es) key z) (nothing_more sum)
    ∙ set_pushed es key sum none

-- one that isn't in a list isn't after another one that comes last
still_none : (es : List (List ℕ × ℤ)) (key other : List ℕ) (sum : ℤ) → in_list other es ≡ None → in_list key es ≡ None
    → eq_by_cmp (slice_cmp nat_cmp) key other ≡ false → in_list key (es ++ (other, sum) ∷ []) ≡ None
still_none es key other sum none its apart =
    entries.find-append (slice_cmp nat_cmp) nat_list_cmp_total es other sum key none
    ∙ ap (λ (b : Bool). cond b (Some sum) (in_list key es)) apart ∙ its

-- one that isn't at the head isn't found, if it isn't found later
missed : {A B : Type 0} (same b : Bool) (x : A) (y : B) (o : Option A) (rest : Option B) → same ≡ b → cond b (Some x) o ≡ None
    → (o ≡ None → rest ≡ None) → cond same (Some y) rest ≡ None
missed true true x y o rest e none later = cc
missed true false x y o rest e none later = cc
missed false true x y o rest e none later = cc
missed false false x y o rest e none later = later none

same_key : (token : List ℕ) (t : Carried) → is_eq (slice_cmp nat_cmp token t.txn) ≡ bytes_eq t.txn token
same_key token t = is_eq-slice_cmp token t.txn ∙ name-sym token t.txn

-- parts ----

-- a transaction that isn't listed has no parts
parts_missed : (p : Part) (token : List ℕ) (ts : List Carried) → carried_named token ts ≡ None
    → in_list (part_key token p) (flat_map part_sums ts) ≡ None
parts_missed p token [] none = refl
parts_missed part.G token (t ∷ ts) none =
    missed (is_eq (slice_cmp nat_cmp token t.txn)) (bytes_eq t.txn token) t (pos t.sums.g) (carried_named token ts)
    (in_list (part_key token part.G) (flat_map part_sums ts)) (same_key token t) none (parts_missed part.G token ts)
parts_missed part.P token (t ∷ ts) none =
    missed (is_eq (slice_cmp nat_cmp token t.txn)) (bytes_eq t.txn token) t (pos t.sums.p) (carried_named token ts)
    (in_list (part_key token part.P) (flat_map part_sums ts)) (same_key token t) none (parts_missed part.P token ts)
parts_missed part.S token (t ∷ ts) none =
    missed (is_eq (slice_cmp nat_cmp token t.txn)) (bytes_eq t.txn token) t (pos t.sums.s) (carried_named token ts)
    (in_list (part_key token part.S) (flat_map part_sums ts)) (same_key token t) none (parts_missed part.S token ts)

three_more : {A : Type 0} (es : List A) (x y z : A) → ((es ++ x ∷ []) ++ y ∷ []) ++ z ∷ [] ≡ es ++ x ∷ y ∷ z ∷ []
three_more [] x y z = refl
three_more (e ∷ es) x y z = ap (λ (l : List _). e ∷ l) (three_more es x y z)

-- what a new transaction holds by part, with what those before it hold
pub parts_pushed : (t : Txn) (c : Carried) (before : List Carried) → t.token ≡ c.txn → carried_named t.token before ≡ None
    → after_changes (sums_of (flat_map part_sums before)) (holds.part_sums (hold_with t c.sums))
    ≡ sums_of (flat_map part_sums (before ++ c ∷ []))
parts_pushed t c before its none =
    let es : List (List ℕ × ℤ) = flat_map part_sums before in
    let g : List ℕ × ℤ = (part_key t.token part.G, pos c.sums.g) in
    let p : List ℕ × ℤ = (part_key t.token part.P, pos c.sums.p) in
    let s : List ℕ × ℤ = (part_key t.token part.S, pos c.sums.s) in
    let with_g : List (List ℕ × ℤ) = es ++ g ∷ [] in
    let with_p : List (List ℕ × ℤ) = with_g ++ p ∷ [] in
    let no_g = parts_missed part.G t.token before none in
    let no_p = parts_missed part.P t.token before none in
    let no_s = parts_missed part.S t.token before none in
    let p_later = still_none es (p.0) (g.0) (g.1) no_g no_p refl in
    let s_later = still_none with_g (s.0) (p.0) (p.1) p_later (still_none es (s.0) (g.0) (g.1) no_g no_s refl) refl in
    ap (λ (m : Kept). after_change (after_change m (record { key = p.0; by = p.1 })) (record { key = s.0; by = s.1 }))
    (change_pushed es (g.0) (g.1) no_g)
    ∙ ap (λ (m : Kept). after_change m (record { key = s.0; by = s.1 })) (change_pushed with_g (p.0) (p.1) p_later)
    ∙ change_pushed with_p (s.0) (s.1) s_later
    ∙ ap sums_of (three_more es g p s)
    ∙ ap (λ (token : List ℕ). sums_of (es ++ (part_key token part.G, pos c.sums.g) ∷ (part_key token part.P, pos c.sums.p) ∷
    (part_key token part.S, pos c.sums.s) ∷ [])) its
    ∙ ap sums_of (sym (flat_map-append part_sums before (c ∷ [])))

-- amounts by transaction ----

-- a transaction that isn't listed has no amount
amount_missed : (amount : Carried → ℕ) (token : List ℕ) (ts : List Carried) → carried_named token ts ≡ None
    → in_list token (map (λ (t : Carried). (t.txn, pos (amount t))) ts) ≡ None
amount_missed amount token [] none = refl
amount_missed amount token (t ∷ ts) none =
    missed (is_eq (slice_cmp nat_cmp token t.txn)) (bytes_eq t.txn token) t (pos (amount t)) (carried_named token ts)
    (in_list token (map (λ (t : Carried). (t.txn, pos (amount t))) ts)) (same_key token t) none
    (amount_missed amount token ts)

-- the amount of a new transaction, with those of the ones before it
pub amount_pushed : (amount : Carried → ℕ) (token : List ℕ) (c : Carried) (before : List Carried) → token ≡ c.txn
    → carried_named token before ≡ None
    → finite.insert (kept_by (λ (t : Carried). (t.txn, pos (amount t))) before) token (pos (amount c))
    ≡ kept_by (λ (t : Carried). (t.txn, pos (amount t))) (before ++ c ∷ [])
amount_pushed amount token c before its none =
    set_pushed (map (λ (t : Carried). (t.txn, pos (amount t))) before) token (pos (amount c))
    (amount_missed amount token before none)
    ∙ ap (λ (key : List ℕ). sums_of (map (λ (t : Carried). (t.txn, pos (amount t))) before ++ (key, pos (amount c)) ∷ [])) its
    ∙ ap sums_of (sym (map-append (λ (t : Carried). (t.txn, pos (amount t))) before (c ∷ [])))
