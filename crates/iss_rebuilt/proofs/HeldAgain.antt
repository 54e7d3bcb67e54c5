-- What transactions hold, and their other sums, are made again from what is shown.
use Rattle.std.proofs.Common.{◌≡◌, ◌∙◌, ◌++◌, ◌∷◌, ◌&&◌, ◌||◌, ◌+◌, ◌+ℤ◌, ℕ, ℤ, pos, negsuc, ap, ap₂, arith, Bool, cond, false, fold, length, List, [], map, refl, subst, sym, true}
use Rattle.std.specs.Prelude.{Option, Some, None, is_some, option_map, unwrap_or, ◌≤ℤ◌}
use Rattle.std.specs.List.{flat_map, list_all, list_any}
use Rattle.std.specs.Str.{bytes_eq}
use Rattle.std.specs.Cmp.Lexicographic.{nat_list_cmp_total, slice_cmp}
use Rattle.std.specs.FinMap as finite
use Rattle.std.specs.FinMap.Entries.{find}
use Rattle.std.specs.Ordering.{nat_cmp}
use Rattle.std.proofs.lemmas.Bool.{and_parts}
use Rattle.std.proofs.lemmas.Int.{ints}
use Rattle.std.proofs.lemmas.List.{length-append}
use Rattle.std.proofs.lemmas.List.Folds.{list_all-append}
use Rattle.std.proofs.lemmas.Map.Text.{is_eq-slice_cmp}
use Rattle.iss_model.specs.declared.account.Part.{Part}
use Rattle.iss_model.specs.declared.account.Part.TheVariants as part
use Rattle.iss_model.specs.declared.input.Record.{Record}
use Rattle.iss_model.specs.declared.state.Carried.{Carried}
use Rattle.iss_model.specs.declared.txn.Txn.{Txn}
use Rattle.iss_model.specs.Forms.{is_in_form}
use Rattle.iss_model.specs.Sums.{Change, changed_at, part_key, user_key}
use Rattle.iss_model.specs.rules.Activity.{TxnNow, txn_named}
use Rattle.iss_model.specs.rules.Due.{DueThing, thing_entries}
use Rattle.iss_model.specs.rules.Facts.{not_below}
use Rattle.iss_model.specs.rules.Histories.{IsLegal}
use Rattle.iss_model.specs.rules.Stepping.{after_due, entries_of, step}
use Rattle.iss_model.specs.state.Cores.{CoreState, after_entry, core_facts, core_keeper, core_of, with_record}
use Rattle.iss_model.specs.state.Kept.{Kept, after_changes, kept_at, nothing_kept}
use Rattle.iss_model.proofs.KeptSums.{kept_at-after_changes}
use Rattle.iss_model.proofs.Names.{name-sym, one_name}
use Rattle.iss_acts.proofs.Stepping.{due_stays}
use Rattle.iss_state.specs.Holdings.{IsHeldWell}
use Rattle.iss_state.specs.Needs.{begun_txns}
use Rattle.iss_state.specs.Pending.{IsWell}
use Rattle.iss_state.specs.Sound.{AreInForm, IsNewEvent, IsSoundAt}
use Rattle.iss_state.proofs.calls.Legal.{core_well}
use Rattle.iss_state.proofs.docket.Lists.{Each, any_mapped}
use Rattle.iss_state.proofs.held.Steps.{core_held}
use Rattle.iss_state.proofs.invariants.Legal.{legal_induction}
use Rattle.iss_state.proofs.invariants.OwnEntries.{own_enters}
use Rattle.iss_state.proofs.invariants.Settled.{thing_enters}
use Rattle.iss_state.proofs.invariants.Steps.{ready_after_due, ready_with_record, sound_begins, step_sound, thing_sound}
use Rattle.iss_states.specs.Fairness.{IsFair}
use Rattle.iss_states.specs.Rebuilding.{held_sums, part_sums}
use Rattle.iss_states.specs.Showing.{carried_in, shown}
use Rattle.iss_states.proofs.FairSteps.{nothing_fair, step_fair}
use Rattle.iss_rebuilt.specs.Purchases.{HasHeldAgain, HasPartsAgain, HasTxnSumsAgain, HasTxnsAgain}
use Rattle.iss_rebuilt.proofs.HeldKept.{entries_summed, nothing_summed}
use Rattle.iss_rebuilt.proofs.HeldKeys.{IsNotNegative, IsOfBegun, IsSummed, has_key, has_part_key, held_of, holder, keys_after, nothing_at, nothing_has, whole}
use Rattle.iss_rebuilt.proofs.MadeShown.{own_found}
use Rattle.iss_rebuilt.proofs.MadeSteps.{legal_txns_rebuilt}

-- all records in form ----

-- a core with this number of records is sound, and its sums are those of its transactions
record IsSoundAndSummed (n : ℕ) (s : CoreState) : Type 0 where
  sound : IsSoundAt n s
  summed : IsSummed s

step_summed : (n : ℕ) (s : CoreState) (r : Record) → is_in_form r.input ≡ true → IsNewEvent s r.input → IsSoundAndSummed n s → IsSummed (step core_keeper s r).world
unfolding step
step_summed n s r form new h =
    let up : CoreState = with_record s r in
    let due : CoreState = (after_due core_keeper up r.at).world in
    let ready = ready_with_record n s r h.sound new in
    let stands : IsSoundAndSummed n due = due_stays (IsSoundAndSummed n) r.at settled up (record { sound = ready.sound; summed = h.summed }) in
    entries_summed due (entries_of r.input r.at (core_facts due)) (own_enters n due r.input r.at form (ready_after_due n up r.input r.at ready)).fit stands.summed
  where
    settled : (c : CoreState) (thing : DueThing) → IsSoundAndSummed n c → IsSoundAndSummed n (fold after_entry c (thing_entries thing r.at (core_facts c)))
    settled c thing now =
        record { sound = thing_sound n c thing r.at now.sound; summed = entries_summed c (thing_entries thing r.at (core_facts c)) (thing_enters n c thing r.at now.sound).fit now.summed }

abbrev IsSummedInForm : List Record → CoreState → Type 0
IsSummedInForm rs s = AreInForm rs → IsSoundAndSummed (length rs) s

legal_summed : (rs : List Record) → IsLegal rs → AreInForm rs → IsSummed (core_of rs)
legal_summed rs legal form = (legal_induction IsSummedInForm (λ none. record { sound = sound_begins; summed = nothing_summed }) kept rs legal form).summed
  where
    kept : (rs : List Record) (r : Record) → IsNewEvent (core_of rs) r.input → IsSummedInForm rs (core_of rs) → IsSummedInForm (rs ++ r ∷ []) (step core_keeper (core_of rs) r).world
    kept rs r new h form =
        let s = core_of rs in
        let both = and_parts (list_all (λ (x : Record). is_in_form x.input) rs) (is_in_form r.input && true) (sym (list_all-append (λ (x : Record). is_in_form x.input) rs (r ∷ [])) ∙ form) in
        let own = and_parts (is_in_form r.input) true both.1 in
        let before = h both.0 in
        record {
          sound = subst (λ (n : ℕ). IsSoundAt n (step core_keeper s r).world) (sym (length-append rs (r ∷ []))) (step_sound (length rs) s r before.sound own.0 new);
          summed = step_summed (length rs) s r own.0 new before;
        }

legal_fair : (rs : List Record) → IsLegal rs → IsFair (core_of rs)
legal_fair rs legal = legal_induction (λ rs s. IsFair s) nothing_fair (λ rs r new h. step_fair (core_of rs) r h) rs legal

-- maps by what they have ----

-- what is found at a key, by whether something was changed there
at_key : (m : Kept) (key : List ℕ) → finite.get m key ≡ cond (has_key m key) (Some (kept_at m key)) None
at_key m key = by (finite.get m key)
  where
    by : (o : Option ℤ) → o ≡ cond (is_some o) (Some (unwrap_or o (pos 0))) None
    by None = refl
    by (Some z) = refl

same_kept : (m n : Kept) → ((key : List ℕ) → finite.get m key ≡ finite.get n key) → m ≡ n
same_kept m n same = finite.same_map nat_list_cmp_total (finite.slice_cmp-IsAntisymmetric finite.nat_cmp-IsAntisymmetric) m n same

-- each key of a list with what a function gives there
found_of : (g : List ℕ → ℤ) (ks : List (List ℕ)) (key : List ℕ) → find (slice_cmp nat_cmp) key (map (λ (k : List ℕ). (k, g k)) ks) ≡ cond (list_any (λ k. bytes_eq k key) ks) (Some (g key)) None
found_of g [] key = refl
found_of g (k ∷ ks) key =
    ap (λ (b : Bool). cond b (Some (g k)) (find (slice_cmp nat_cmp) key (map (λ (k : List ℕ). (k, g k)) ks))) (is_eq-slice_cmp key k ∙ name-sym key k)
    ∙ by (bytes_eq k key) refl (found_of g ks key)
  where
    by : (b : Bool) → bytes_eq k key ≡ b → find (slice_cmp nat_cmp) key (map (λ (k : List ℕ). (k, g k)) ks) ≡ cond (list_any (λ k. bytes_eq k key) ks) (Some (g key)) None
        → cond b (Some (g k)) (find (slice_cmp nat_cmp) key (map (λ (k : List ℕ). (k, g k)) ks)) ≡ cond (b || list_any (λ k. bytes_eq k key) ks) (Some (g key)) None
    by true e rest = ap (λ (k : List ℕ). Some (g k)) (one_name k key e)
    by false e rest = rest

got_of : (g : List ℕ → ℤ) (ks : List (List ℕ)) (key : List ℕ) → finite.get (finite.from_entries {R = slice_cmp nat_cmp} (map (λ (k : List ℕ). (k, g k)) ks)) key ≡ cond (list_any (λ k. bytes_eq k key) ks) (Some (g key)) None
got_of g ks key = finite.get-from_entries nat_list_cmp_total (map (λ (k : List ℕ). (k, g k)) ks) key ∙ found_of g ks key

-- a sum that isn't negative is an amount
as_amount : (z : ℤ) → pos 0 ≤ℤ z → pos (not_below z) ≡ z
as_amount (pos n) h = refl
as_amount (negsuc n) h = absurd (omega (arith, ints, h))

-- parts ----

abbrev keys_of : TxnNow → List (List ℕ)
keys_of t = part_key t.txn.token part.G ∷ part_key t.txn.token part.P ∷ part_key t.txn.token part.S ∷ []

abbrev amount_at : Kept → List ℕ → ℤ
amount_at m key = pos (not_below (kept_at m key))

module _ (c : CoreState) where
  listed : (ts : List TxnNow) → flat_map part_sums (map (carried_in c) ts) ≡ map (λ (k : List ℕ). (k, amount_at c.holdings.parts k)) (flat_map keys_of ts)
  listed [] = refl
  listed (t ∷ ts) = ap (λ (es : List (List ℕ × ℤ)). part_sums (carried_in c t) ++ es) (listed ts)

any_keys : (key : List ℕ) (ts : List TxnNow) → list_any (λ k. bytes_eq k key) (flat_map keys_of ts) ≡ list_any (λ t. has_part_key key t.token) (map (λ t. t.txn) ts)
any_keys key [] = refl
any_keys key (t ∷ ts) =
    ap (λ (b : Bool). bytes_eq (part_key t.txn.token part.G) key || (bytes_eq (part_key t.txn.token part.P) key || (bytes_eq (part_key t.txn.token part.S) key || b))) (any_keys key ts)
    ∙ regrouped (bytes_eq (part_key t.txn.token part.G) key) (bytes_eq (part_key t.txn.token part.P) key) (bytes_eq (part_key t.txn.token part.S) key) (list_any (λ t. has_part_key key t.token) (map (λ t. t.txn) ts))
  where
    regrouped : (g p s a : Bool) → (g || (p || (s || a))) ≡ ((g || (p || s)) || a)
    regrouped true p s a = refl
    regrouped false true s a = refl
    regrouped false false s a = refl

-- what stands at a key of a part isn't negative
part_positive : (c : CoreState) → IsHeldWell c → (key : List ℕ) (ts : List Txn) → list_any (λ t. has_part_key key t.token) ts ≡ true → pos 0 ≤ℤ kept_at c.holdings.parts key
part_positive c held key [] h = cc
part_positive c held key (t ∷ ts) h = by (bytes_eq (part_key t.token part.G) key) (bytes_eq (part_key t.token part.P) key) (bytes_eq (part_key t.token part.S) key) refl refl refl (part_positive c held key ts) h
  where
    its : (p : Part) → bytes_eq (part_key t.token p) key ≡ true → pos 0 ≤ℤ kept_at c.holdings.parts key
    its p e = subst (λ (k : List ℕ). pos 0 ≤ℤ kept_at c.holdings.parts k) (one_name (part_key t.token p) key e) (held.not_negative t.token p)

    by : (x y z : Bool) → bytes_eq (part_key t.token part.G) key ≡ x → bytes_eq (part_key t.token part.P) key ≡ y → bytes_eq (part_key t.token part.S) key ≡ z
        → (list_any (λ t. has_part_key key t.token) ts ≡ true → pos 0 ≤ℤ kept_at c.holdings.parts key) → ((x || (y || z)) || list_any (λ t. has_part_key key t.token) ts) ≡ true → pos 0 ≤ℤ kept_at c.holdings.parts key
    by true y z e f g rest h = its part.G e
    by false true z e f g rest h = its part.P f
    by false false true e f g rest h = its part.S g
    by false false false e f g rest h = rest h

parts_rebuilt : (c : CoreState) → IsHeldWell c → IsSummed c → HasPartsAgain c
parts_rebuilt c held summed =
    ap (λ (es : List (List ℕ × ℤ)). finite.from_entries {R = slice_cmp nat_cmp} es) (listed c c.holdings.txns)
    ∙ same_kept (finite.from_entries (map (λ (k : List ℕ). (k, amount_at parts k)) (flat_map keys_of c.holdings.txns))) parts
    (λ key. got_of (amount_at parts) (flat_map keys_of c.holdings.txns) key ∙ ap (λ (b : Bool). cond b (Some (amount_at parts key)) None) (any_keys key c.holdings.txns)
    ∙ by key (list_any (λ t. has_part_key key t.token) (begun_txns c)) refl ∙ ap (λ (b : Bool). cond b (Some (kept_at parts key)) None) (sym (summed.part_keys key)) ∙ sym (at_key parts key))
  where
    parts : Kept
    parts = c.holdings.parts

    by : (key : List ℕ) (b : Bool) → list_any (λ t. has_part_key key t.token) (begun_txns c) ≡ b → cond b (Some (amount_at parts key)) None ≡ cond b (Some (kept_at parts key)) None
    by key true e = ap (λ (z : ℤ). Some z) (as_amount (kept_at parts key) (part_positive c held key (begun_txns c) e))
    by key false e = refl

-- what is held ----

-- what a transaction holds of its user
abbrev holds_of : CoreState → TxnNow → Change
holds_of c t =
    record {
      key = holder t.txn;
      by = pos (not_below (kept_at c.holdings.parts (part_key t.txn.token part.G)) + not_below (kept_at c.holdings.parts (part_key t.txn.token part.P)) + not_below (kept_at c.holdings.parts (part_key t.txn.token part.S)));
    }

held_listed : (c : CoreState) (ts : List TxnNow) → Each (λ t. txn_named t.txn.token c.holdings.txns ≡ Some t) ts → held_sums c.holdings.txns (map (carried_in c) ts) ≡ map (holds_of c) ts
held_listed c [] h = refl
held_listed c (t ∷ ts) h =
    ap₂ (λ (key : List ℕ) (cs : List Change). record (holds_of c t) { key = key } ∷ cs) (ap (λ (o : Option TxnNow). unwrap_or (option_map (λ now. user_key now.txn.user now.txn.currency) o) []) h.0) (held_listed c ts h.1)

any_holder : (c : CoreState) (key : List ℕ) (ts : List TxnNow) → list_any (λ x. bytes_eq x.key key) (map (holds_of c) ts) ≡ list_any (λ t. bytes_eq (holder t) key) (map (λ t. t.txn) ts)
any_holder c key ts = any_mapped (λ (x : Change). bytes_eq x.key key) (holds_of c) ts ∙ sym (any_mapped (λ (t : Txn). bytes_eq (holder t) key) (λ (t : TxnNow). t.txn) ts)

held_changed : (c : CoreState) → IsHeldWell c → (key : List ℕ) (ts : List TxnNow) → changed_at key (map (holds_of c) ts) ≡ held_of key c.holdings.parts (map (λ t. t.txn) ts)
held_changed c held key [] = refl
held_changed c held key (t ∷ ts) = ap₂ (λ (y z : ℤ). cond (bytes_eq (holder t.txn) key) y (pos 0) +ℤ z) all_three (held_changed c held key ts)
  where
    parts : Kept
    parts = c.holdings.parts

    three : (a b d : ℕ) (x y z : ℤ) → pos a ≡ x → pos b ≡ y → pos d ≡ z → pos (a + b + d) ≡ x +ℤ (y +ℤ z)
    three a b d x y z e f g = omega (arith, ints, e, f, g)

    its : (p : Part) → pos (not_below (kept_at parts (part_key t.txn.token p))) ≡ kept_at parts (part_key t.txn.token p)
    its p = as_amount (kept_at parts (part_key t.txn.token p)) (held.not_negative t.txn.token p)

    all_three : (holds_of c t).by ≡ whole parts t.txn.token
    all_three = three (not_below (kept_at parts (part_key t.txn.token part.G))) (not_below (kept_at parts (part_key t.txn.token part.P))) (not_below (kept_at parts (part_key t.txn.token part.S))) _ _ _ (its part.G) (its part.P) (its part.S)

held_rebuilt : (c : CoreState) → IsWell c → IsHeldWell c → IsSummed c → HasTxnsAgain c → HasHeldAgain c
held_rebuilt c well held summed again =
    ap (λ (txns : List TxnNow). after_changes nothing_kept (held_sums txns (shown c).txns)) again
    ∙ ap (after_changes nothing_kept) (held_listed c c.holdings.txns (own_found c.holdings.txns well.docket.txns.tokens))
    ∙ same_kept (after_changes nothing_kept cs) c.holdings.held
    (λ key. at_key (after_changes nothing_kept cs) key ∙ (λ i. cond (keys_alike key i) (Some (sums_alike key i)) None) ∙ sym (at_key c.holdings.held key))
  where
    cs : List Change
    cs = map (holds_of c) c.holdings.txns

    or_none : (a b : Bool) → b ≡ false → (a || b) ≡ a
    or_none true b e = refl
    or_none false b e = e

    from_nothing : (y z : ℤ) → y ≡ pos 0 → y +ℤ z ≡ z
    from_nothing y z e = omega (arith, ints, e)

    keys_alike : (key : List ℕ) → has_key (after_changes nothing_kept cs) key ≡ has_key c.holdings.held key
    keys_alike key =
        keys_after nothing_kept cs key ∙ or_none (list_any (λ x. bytes_eq x.key key) cs) (has_key nothing_kept key) (nothing_has key) ∙ any_holder c key c.holdings.txns ∙ sym (summed.held_keys key)

    sums_alike : (key : List ℕ) → kept_at (after_changes nothing_kept cs) key ≡ kept_at c.holdings.held key
    sums_alike key =
        kept_at-after_changes nothing_kept cs key ∙ from_nothing (kept_at nothing_kept key) (changed_at key cs) (nothing_at key) ∙ held_changed c held key c.holdings.txns ∙ sym (summed.held_sums key)

-- sums of transactions ----

abbrev tokens_of : List TxnNow → List (List ℕ)
tokens_of ts = map (λ t. t.txn.token) ts

sum_again : (sums : Kept) (ts : List TxnNow) → IsOfBegun (map (λ t. t.txn) ts) sums → IsNotNegative sums → (key : List ℕ)
    → kept_at (finite.from_entries (map (λ (k : List ℕ). (k, amount_at sums k)) (tokens_of ts))) key ≡ kept_at sums key
sum_again sums ts of_begun some key =
    ap (λ (o : Option ℤ). unwrap_or o (pos 0)) (got_of (amount_at sums) (tokens_of ts) key) ∙ by (list_any (λ k. bytes_eq k key) (tokens_of ts)) refl
  where
    by : (b : Bool) → list_any (λ k. bytes_eq k key) (tokens_of ts) ≡ b → unwrap_or (cond b (Some (amount_at sums key)) None) (pos 0) ≡ kept_at sums key
    by true e = as_amount (kept_at sums key) (some key)
    by false e =
        sym (of_begun key (any_mapped (λ (t : Txn). bytes_eq t.token key) (λ (t : TxnNow). t.txn) ts ∙ sym (any_mapped (λ (k : List ℕ). bytes_eq k key) (λ (t : TxnNow). t.txn.token) ts) ∙ e))

-- the entries of a sum by transaction
sums_listed : (c : CoreState) (sum : Carried → List ℕ × ℤ) (g : List ℕ → ℤ) → ((t : TxnNow) → sum (carried_in c t) ≡ (t.txn.token, g t.txn.token)) → (ts : List TxnNow)
    → map sum (map (carried_in c) ts) ≡ map (λ (k : List ℕ). (k, g k)) (tokens_of ts)
sums_listed c sum g same [] = refl
sums_listed c sum g same (t ∷ ts) = ap₂ (λ (e : List ℕ × ℤ) (es : List (List ℕ × ℤ)). e ∷ es) (same t) (sums_listed c sum g same ts)

paid_positive : (c : CoreState) → IsHeldWell c → IsFair c → IsNotNegative c.txn_sums.paid
paid_positive c held fair token = omega (arith, ints, held.not_negative token part.P, fair.holds token)

txn_sums_rebuilt : (c : CoreState) → IsHeldWell c → IsFair c → IsSummed c → HasTxnSumsAgain c
txn_sums_rebuilt c held fair summed =
    record {
      cleared = λ key.
          ap (λ (es : List (List ℕ × ℤ)). kept_at (finite.from_entries es) key) (sums_listed c (λ t. (t.txn, pos t.sums.cleared)) (amount_at c.txn_sums.cleared) (λ t. refl) c.holdings.txns)
          ∙ sum_again c.txn_sums.cleared c.holdings.txns summed.cleared summed.some_cleared key;
      refunded = λ key.
          ap (λ (es : List (List ℕ × ℤ)). kept_at (finite.from_entries es) key) (sums_listed c (λ t. (t.txn, pos t.sums.refunded)) (amount_at c.txn_sums.refunded) (λ t. refl) c.holdings.txns)
          ∙ sum_again c.txn_sums.refunded c.holdings.txns summed.refunded summed.some_refunded key;
      paid = λ key.
          ap (λ (es : List (List ℕ × ℤ)). kept_at (finite.from_entries es) key) (sums_listed c (λ t. (t.txn, pos t.sums.paid)) (amount_at c.txn_sums.paid) (λ t. refl) c.holdings.txns)
          ∙ sum_again c.txn_sums.paid c.holdings.txns summed.paid (paid_positive c held fair) key;
    }

-- legal records in form ----

pub legal_parts_rebuilt : (rs : List Record) → IsLegal rs → AreInForm rs → HasPartsAgain (core_of rs)
legal_parts_rebuilt rs legal form = parts_rebuilt (core_of rs) (core_held rs legal).held (legal_summed rs legal form)

pub legal_held_rebuilt : (rs : List Record) → IsLegal rs → AreInForm rs → HasHeldAgain (core_of rs)
legal_held_rebuilt rs legal form =
    held_rebuilt (core_of rs) (core_well rs legal) (core_held rs legal).held (legal_summed rs legal form) (legal_txns_rebuilt rs legal)

pub legal_txn_sums_rebuilt : (rs : List Record) → IsLegal rs → AreInForm rs → HasTxnSumsAgain (core_of rs)
legal_txn_sums_rebuilt rs legal form = txn_sums_rebuilt (core_of rs) (core_held rs legal).held (legal_fair rs legal) (legal_summed rs legal form)
