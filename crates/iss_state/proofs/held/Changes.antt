-- An entry that finds what it needs leaves what transactions hold well.
use Rattle.std.proofs.Common.{◌≡◌, ℕ, suc, ℤ, pos, negsuc, ◌+ℤ◌, Bool, true, false, cond, nat_eq, List, [], ◌∷◌, ◌++◌, map, fold, refl, sym, ap, subst, ◌∙◌, arith, ◌⊎◌, inl, inr}
use Rattle.std.proofs.lemmas.Int.{ints}
use Rattle.std.specs.Prelude.{Option, Some, None, option_map, ◌≤ℤ◌}
use Rattle.std.specs.Option.{option_or}
use Rattle.std.specs.Str.{bytes_eq}
use Rattle.iss_model.specs.declared.account.Part.{Part}
use Rattle.iss_model.specs.declared.account.Part.TheVariants as part
use Rattle.iss_model.specs.declared.call.How.{How}
use Rattle.iss_model.specs.declared.call.Opened.{Opened}
use Rattle.iss_model.specs.declared.entry.Entry.{Entry}
use Rattle.iss_model.specs.declared.entry.Entry.TheVariants as entry
use Rattle.iss_model.specs.declared.input.Input.{Input}
use Rattle.iss_model.specs.declared.input.Input.TheVariants as input
use Rattle.iss_model.specs.declared.setting.Moved.TheVariants as moved
use Rattle.iss_model.specs.declared.txn.Txn.{Txn}
use Rattle.iss_model.specs.Sums.{Change, part_key, part_number}
use Rattle.iss_model.specs.rules.Activity.{TxnNow, CallNow, call_numbered, txn_named}
use Rattle.iss_model.specs.rules.Asks.{is_authorization}
use Rattle.iss_model.specs.rules.Reasons.{is_some_with}
use Rattle.iss_model.specs.state.Cores.{CoreState, after_entry, after_setting, begun_part_changes, call_after_close, is_live, txn_after_end}
use Rattle.iss_model.specs.state.Kept.{Kept, after_changes, kept_at}
use Rattle.iss_model.proofs.KeptSums.{kept_at-after_changes}
use Rattle.iss_model.proofs.Names.{one_name}
use Rattle.iss_state.proofs.effects.Finds.{find-map, found_passes}
use Rattle.iss_state.specs.Dockets.{docket_of}
use Rattle.iss_state.specs.Well.{IsAsked, has_live}
use Rattle.iss_state.proofs.docket.Closing.{asked_before}
use Rattle.iss_state.proofs.docket.Entering.{call_more, same_txn, txn_more}
use Rattle.iss_state.proofs.docket.Lists.{by_either, either_found, not_both}
use Rattle.iss_state.specs.Holdings.{AreHeld, AllKeepHeld, HoldsNothing, IsHeldWell, KeepsHeld, MayChange, MayHold, is_part_of, may_have, part_sum}

-- one change of the parts ----

abbrev pub change_of : List ℕ → ℤ → List Change
change_of key x = record { key = key; by = x } ∷ []

-- the sum at a key after a change at this key or another
changed : (parts : Kept) (key at : List ℕ) (x : ℤ) (b : Bool) → bytes_eq key at ≡ b
    → kept_at (after_changes parts (change_of key x)) at ≡ kept_at parts at +ℤ (cond b x (pos 0) +ℤ pos 0)
changed parts key at x b e = kept_at-after_changes parts (change_of key x) at ∙ ap (λ (b : Bool). kept_at parts at +ℤ (cond b x (pos 0) +ℤ pos 0)) e

pub changed_other : (parts : Kept) (key at : List ℕ) (x : ℤ) → bytes_eq key at ≡ false → kept_at (after_changes parts (change_of key x)) at ≡ kept_at parts at
changed_other parts key at x e = changed parts key at x false e ∙ same (kept_at parts at)
  where
    same : (z : ℤ) → z +ℤ (pos 0 +ℤ pos 0) ≡ z
    same z = omega (arith, ints)

pub changed_here : (parts : Kept) (key at : List ℕ) (x : ℤ) → bytes_eq key at ≡ true → kept_at (after_changes parts (change_of key x)) at ≡ kept_at parts at +ℤ x
changed_here parts key at x e = changed parts key at x true e ∙ same (kept_at parts at) x
  where
    same : (z x : ℤ) → z +ℤ (x +ℤ pos 0) ≡ z +ℤ x
    same z x = omega (arith, ints)

-- a transaction that begins changes no sum
zero_three : (z : ℤ) (b c d : Bool) → z +ℤ (cond b (pos 0) (pos 0) +ℤ (cond c (pos 0) (pos 0) +ℤ (cond d (pos 0) (pos 0) +ℤ pos 0))) ≡ z
zero_three z b c d = rw (zero_is b, zero_is c, zero_is d) (omega (arith, ints))
  where
    zero_is : (b : Bool) → cond b (pos 0) (pos 0) ≡ pos 0
    zero_is true = refl
    zero_is false = refl

pub begun_sum : (parts : Kept) (t : Txn) (key : List ℕ) → kept_at (after_changes parts (begun_part_changes t)) key ≡ kept_at parts key
begun_sum parts t key =
    kept_at-after_changes parts (begun_part_changes t) key
    ∙ zero_three (kept_at parts key) (bytes_eq (part_key t.token part.G) key) (bytes_eq (part_key t.token part.P) key) (bytes_eq (part_key t.token part.S) key)

-- a hold ----

tails : (a b : ℕ) (xs ys : List ℕ) → (a ∷ xs) ≡ (b ∷ ys) → xs ≡ ys
tails a b xs ys e = cc

its_txn : (txn token : List ℕ) (p q : Part) → bytes_eq (part_key txn p) (part_key token q) ≡ true → txn ≡ token
its_txn txn token p q e = tails _ _ txn token (one_name (part_key txn p) (part_key token q) e)

heads : (a b : ℕ) (xs ys : List ℕ) → (a ∷ xs) ≡ (b ∷ ys) → a ≡ b
heads a b xs ys e = cc

same_part : (p q : Part) → part_number p ≡ part_number q → p ≡ q
same_part part.G part.G e = refl
same_part part.P part.P e = refl
same_part part.S part.S e = refl
same_part part.G part.P e = absurd (omega (arith, e))
same_part part.G part.S e = absurd (omega (arith, e))
same_part part.P part.G e = absurd (omega (arith, e))
same_part part.P part.S e = absurd (omega (arith, e))
same_part part.S part.G e = absurd (omega (arith, e))
same_part part.S part.P e = absurd (omega (arith, e))

its_part : (txn token : List ℕ) (p q : Part) → bytes_eq (part_key txn p) (part_key token q) ≡ true → p ≡ q
its_part txn token p q e = same_part p q (heads (part_number p) (part_number q) txn token (one_name (part_key txn p) (part_key token q) e))

not_there : {P : Type 0} (z : ℤ) (n : ℕ) → pos (suc n) ≤ℤ z → z ≡ pos 0 → P
not_there z n h e = absurd (omega (arith, ints, h, e))

hold_positive : (s : CoreState) (txn : List ℕ) (p : Part) (amount : ℤ) → MayChange s txn p amount → IsHeldWell s → (token : List ℕ) (q : Part)
    → pos 0 ≤ℤ part_sum (after_changes s.holdings.parts (change_of (part_key txn p) amount)) token q
hold_positive s txn p amount may held token q = by (bytes_eq (part_key txn p) (part_key token q)) refl amount may
  where
    by : (b : Bool) → bytes_eq (part_key txn p) (part_key token q) ≡ b → (amount : ℤ) → MayChange s txn p amount
        → pos 0 ≤ℤ part_sum (after_changes s.holdings.parts (change_of (part_key txn p) amount)) token q
    by false e amount may = subst (λ (z : ℤ). pos 0 ≤ℤ z) (sym (changed_other s.holdings.parts (part_key txn p) (part_key token q) amount e)) (held.not_negative token q)
    by true e (pos n) may =
        subst (λ (z : ℤ). pos 0 ≤ℤ z) (sym (changed_here s.holdings.parts (part_key txn p) (part_key token q) (pos n) e))
        (omega (arith, ints, held.not_negative token q))
    by true e (negsuc n) may =
        subst (λ (z : ℤ). pos 0 ≤ℤ z) (sym (changed_here s.holdings.parts (part_key txn p) (part_key token q) (negsuc n) e))
        (omega (arith, ints, subst (λ (key : List ℕ). pos (suc n) ≤ℤ kept_at s.holdings.parts key) (one_name (part_key txn p) (part_key token q) e) may))

-- who holds nothing, and may hold nothing, still does
hold_nothing : (s : CoreState) (txn : List ℕ) (p : Part) (amount : ℤ) (token : List ℕ) → MayChange s txn p amount → (MayHold (docket_of s) token → ⊥)
    → HoldsNothing s.holdings.parts token
    → HoldsNothing (after_changes s.holdings.parts (change_of (part_key txn p) amount)) token
hold_nothing s txn p amount token may never nothing q = by (bytes_eq (part_key txn p) (part_key token q)) refl amount may
  where
    by : (b : Bool) → bytes_eq (part_key txn p) (part_key token q) ≡ b → (amount : ℤ) → MayChange s txn p amount
        → part_sum (after_changes s.holdings.parts (change_of (part_key txn p) amount)) token q ≡ pos 0
    by false e amount may = changed_other s.holdings.parts (part_key txn p) (part_key token q) amount e ∙ nothing q
    by true e (pos n) may = absurd (never (subst (MayHold (docket_of s)) (its_txn txn token p q e) may.0))
    by true e (negsuc n) may =
        not_there (part_sum s.holdings.parts txn p) n may (ap (kept_at s.holdings.parts) (one_name (part_key txn p) (part_key token q) e) ∙ nothing q)

-- a part that its funding doesn't give stays at nothing
hold_funded : (s : CoreState) (txn : List ℕ) (p : Part) (amount : ℤ) (token : List ℕ) (q : Part) → MayChange s txn p amount → may_have s.holdings.txns token q ≡ false
    → part_sum s.holdings.parts token q ≡ pos 0
    → part_sum (after_changes s.holdings.parts (change_of (part_key txn p) amount)) token q ≡ pos 0
hold_funded s txn p amount token q may out nothing = by (bytes_eq (part_key txn p) (part_key token q)) refl amount may
  where
    by : (b : Bool) → bytes_eq (part_key txn p) (part_key token q) ≡ b → (amount : ℤ) → MayChange s txn p amount
        → part_sum (after_changes s.holdings.parts (change_of (part_key txn p) amount)) token q ≡ pos 0
    by false e amount may = changed_other s.holdings.parts (part_key txn p) (part_key token q) amount e ∙ nothing
    by true e (pos n) may =
        not_both (may_have s.holdings.txns token q) (ap (may_have s.holdings.txns token) (sym (its_part txn token p q e)) ∙ ap (λ (k : List ℕ). may_have s.holdings.txns k p) (sym (its_txn txn token p q e)) ∙ may.1) out
    by true e (negsuc n) may = not_there (part_sum s.holdings.parts txn p) n may (ap (kept_at s.holdings.parts) (one_name (part_key txn p) (part_key token q) e) ∙ nothing)

hold_held : (s : CoreState) (txn : List ℕ) (p : Part) (amount : ℤ) → MayChange s txn p amount → IsHeldWell s
    → AreHeld (after_changes s.holdings.parts (change_of (part_key txn p) amount)) s.holdings.txns s.calls
hold_held s txn p amount may held =
    record {
      not_negative = hold_positive s txn p amount may held;
      ended = λ token dead. hold_nothing s txn p amount token may (λ can. not_both (has_live s.holdings.txns token) can.its_live dead) (held.ended token dead);
      pending = λ n c now first.
          hold_nothing s txn p amount c.opened.txn may (λ can. can.none_pending n c now refl first) (held.pending n c now first);
      funded = λ token q out. hold_funded s txn p amount token q may out (held.funded token q out);
      asked = held.asked;
    }

-- a transaction ends ----

pub txn_ended : (token k : List ℕ) (txns : List TxnNow) → txn_named k (map (txn_after_end token) txns) ≡ option_map (txn_after_end token) (txn_named k txns)
txn_ended token k txns =
    find-map (λ (t : TxnNow). bytes_eq t.txn.token k) (λ (t : TxnNow). bytes_eq t.txn.token k) (txn_after_end token)
    (λ t. ap (λ (x : Txn). bytes_eq x.token k) (same_txn token t)) txns

as_before : (token : List ℕ) (o : Option TxnNow) → ((t : TxnNow) → o ≡ Some t → bytes_eq token t.txn.token ≡ false) → option_map (txn_after_end token) o ≡ o
as_before token None h = refl
as_before token (Some t) h = ap (λ (b : Bool). Some (cond b (record t { live = false }) t)) (h t refl)

-- another transaction stands as before
pub other_ended : (token k : List ℕ) (txns : List TxnNow) → bytes_eq token k ≡ false → txn_named k (map (txn_after_end token) txns) ≡ txn_named k txns
other_ended token k txns other =
    txn_ended token k txns
    ∙ as_before token (txn_named k txns) (λ t e. ap (bytes_eq token) (one_name t.txn.token k (found_passes (λ (t : TxnNow). bytes_eq t.txn.token k) txns t e)) ∙ other)

-- after an end, a part is of a transaction's funding as before
same_funding : (token : List ℕ) (p : Part) (o : Option TxnNow) → is_some_with (λ t. is_part_of p t.txn.funding) (option_map (txn_after_end token) o) ≡ is_some_with (λ t. is_part_of p t.txn.funding) o
same_funding token p None = refl
same_funding token p (Some t) = ap (λ (x : Txn). is_part_of p x.funding) (same_txn token t)

pub ended_funding : (token k : List ℕ) (p : Part) (txns : List TxnNow) → may_have (map (txn_after_end token) txns) k p ≡ may_have txns k p
ended_funding token k p txns = ap (is_some_with (λ (t : TxnNow). is_part_of p t.txn.funding)) (txn_ended token k txns) ∙ same_funding token p (txn_named k txns)

end_held : (parts : Kept) (txns : List TxnNow) (calls : List CallNow) (token : List ℕ) → HoldsNothing parts token → AreHeld parts txns calls
    → AreHeld parts (map (txn_after_end token) txns) calls
end_held parts txns calls token nothing held =
    record {
      not_negative = held.not_negative;
      ended = λ k dead. by k (bytes_eq token k) refl dead;
      pending = held.pending;
      funded = λ k p out. held.funded k p (sym (ended_funding token k p txns) ∙ out);
      asked = λ n c now. ended_funding token c.opened.txn part.G txns ∙ held.asked n c now;
    }
  where
    by : (k : List ℕ) (b : Bool) → bytes_eq token k ≡ b → has_live (map (txn_after_end token) txns) k ≡ false → HoldsNothing parts k
    by k true e dead = subst (HoldsNothing parts) (one_name token k e) nothing
    by k false e dead = held.ended k (ap (is_some_with (λ (t : TxnNow). t.live)) (sym (other_ended token k txns e)) ∙ dead)

-- a transaction begins ----

with_before : (test : TxnNow → Bool) (o more : Option TxnNow) → is_some_with test (option_or o more) ≡ false → is_some_with test o ≡ false
with_before test None more h = refl
with_before test (Some t) more h = h

with_more : (test : TxnNow → Bool) (o more : Option TxnNow) → is_some_with test o ≡ true → is_some_with test (option_or o more) ≡ true
with_more test None more h = cc
with_more test (Some t) more h = h

-- what fails of a transaction among more failed before, and what held still does
named_before : (test : TxnNow → Bool) (txns : List TxnNow) (x : TxnNow) (k : List ℕ) → is_some_with test (txn_named k (txns ++ x ∷ [])) ≡ false → is_some_with test (txn_named k txns) ≡ false
named_before test txns x k h = with_before test (txn_named k txns) (cond (bytes_eq x.txn.token k) (Some x) None) (ap (is_some_with test) (sym (txn_more k txns x)) ∙ h)

pub named_more : (test : TxnNow → Bool) (txns : List TxnNow) (x : TxnNow) (k : List ℕ) → is_some_with test (txn_named k txns) ≡ true → is_some_with test (txn_named k (txns ++ x ∷ [])) ≡ true
named_more test txns x k h = ap (is_some_with test) (txn_more k txns x) ∙ with_more test (txn_named k txns) (cond (bytes_eq x.txn.token k) (Some x) None) h

begin_held : (parts : Kept) (txns : List TxnNow) (calls : List CallNow) (t : Txn) (live : Bool) → AreHeld parts txns calls
    → AreHeld (after_changes parts (begun_part_changes t)) (txns ++ record { txn = t; live = live } ∷ []) calls
begin_held parts txns calls t live held =
    record {
      not_negative = λ token p. subst (λ (z : ℤ). pos 0 ≤ℤ z) (sym (begun_sum parts t (part_key token p))) (held.not_negative token p);
      ended = λ token dead p.
          begun_sum parts t (part_key token p) ∙ held.ended token (named_before (λ (t : TxnNow). t.live) txns (record { txn = t; live = live }) token dead) p;
      pending = λ n c now first p. begun_sum parts t (part_key c.opened.txn p) ∙ held.pending n c now first p;
      funded = λ token p out.
          begun_sum parts t (part_key token p) ∙ held.funded token p (named_before (λ (t : TxnNow). is_part_of p t.txn.funding) txns (record { txn = t; live = live }) token out);
      asked = λ n c now. named_more (λ (t : TxnNow). is_part_of part.G t.txn.funding) txns (record { txn = t; live = live }) c.opened.txn (held.asked n c now);
    }

-- calls ----

close_held : (parts : Kept) (txns : List TxnNow) (calls : List CallNow) (k : ℕ) (how : How) → AreHeld parts txns calls → AreHeld parts txns (map (call_after_close k how) calls)
close_held parts txns calls k how held =
    record {
      not_negative = held.not_negative;
      ended = held.ended;
      pending = λ n c now first. held.pending n c (asked_before calls k how n c now).0 first;
      funded = held.funded;
      asked = λ n c now. held.asked n c (asked_before calls k how n c now).0;
    }

-- an asked call among more was asked before, or is the new one
new_or_old : (calls : List CallNow) (x : CallNow) (n : ℕ) (c : CallNow) → IsAsked (calls ++ x ∷ []) n c → IsAsked calls n c ⊎ (x ≡ c)
new_or_old calls x n c now =
    by_either (λ old. inl (record { stands = old; asked = now.asked })) (λ new. inr new.1)
    (either_found (call_numbered n calls) x c (nat_eq x.opened.call.0 n) (sym (call_more n calls x) ∙ now.stands))

open_held : (parts : Kept) (txns : List TxnNow) (calls : List CallNow) (o : Opened) → (is_authorization o.method ≡ true → HoldsNothing parts o.txn)
    → may_have txns o.txn part.G ≡ true → AreHeld parts txns calls → AreHeld parts txns (calls ++ record { opened = o; how = None } ∷ [])
open_held parts txns calls o nothing its held =
    record {
      not_negative = held.not_negative;
      ended = held.ended;
      pending = λ n c now first.
          by_either {C = HoldsNothing parts c.opened.txn} (λ old. held.pending n c old first)
          (λ new. subst (λ (x : CallNow). HoldsNothing parts x.opened.txn) new (nothing (ap (λ (x : CallNow). is_authorization x.opened.method) new ∙ first)))
          (new_or_old calls (record { opened = o; how = None }) n c now);
      funded = held.funded;
      asked = λ n c now.
          by_either (λ old. held.asked n c old) (λ new. ap (λ (x : CallNow). may_have txns x.opened.txn part.G) (sym new) ∙ its)
          (new_or_old calls (record { opened = o; how = None }) n c now);
    }

-- each entry ----

setting_held : (s : CoreState) (i : Input) → IsHeldWell s → IsHeldWell (after_setting s i)
setting_held s (input.Move token (moved.Card card to)) held = held
setting_held s (input.Move token (moved.User user to)) held = held
setting_held s _ held = held

pub entry_held : (s : CoreState) (e : Entry) → KeepsHeld s e → IsHeldWell s → IsHeldWell (after_entry s e)
entry_held s (entry.Conf i) keeps held = setting_held s i held
entry_held s (entry.Began t) keeps held = begin_held s.holdings.parts s.holdings.txns s.calls t (is_live s.holdings.txns t.token) held
entry_held s (entry.Opened o) keeps held = open_held s.holdings.parts s.holdings.txns s.calls o keeps.0 keeps.1 held
entry_held s (entry.Closed call how) keeps held = close_held s.holdings.parts s.holdings.txns s.calls call.0 how held
entry_held s (entry.Hold txn user currency p amount) keeps held = hold_held s txn p amount keeps held
entry_held s (entry.Ended txn) keeps held = end_held s.holdings.parts s.holdings.txns s.calls txn keeps held
entry_held s _ keeps held = held

pub entries_held : (s : CoreState) (es : List Entry) → AllKeepHeld s es → IsHeldWell s → IsHeldWell (fold after_entry s es)
entries_held s [] keeps held = held
entries_held s (e ∷ es) keeps held = entries_held (after_entry s e) es keeps.1 (entry_held s e keeps.0 held)

pub keep_append : (s : CoreState) (xs ys : List Entry) → AllKeepHeld s xs → AllKeepHeld (fold after_entry s xs) ys → AllKeepHeld s (xs ++ ys)
keep_append s [] ys h k = k
keep_append s (x ∷ xs) ys h k = (h.0, keep_append (after_entry s x) xs ys h.1 k)
