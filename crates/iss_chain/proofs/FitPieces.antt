-- The pieces that entries are made of fit what they are entered into, and leave what the next one needs.
use Rattle.std.proofs.Common.{◌≡◌, ℕ, zero, suc, ◌-◌, ◌≤◌, ◌==◌, ℤ, pos, negsuc, neg_ℤ, ◌+ℤ◌, Bool, true, false, cond, List, [], ◌∷◌, ◌++◌, fold, refl, sym, ap, subst, ◌∙◌, arith}
use Rattle.std.proofs.lemmas.Int.{ints}
use Rattle.std.proofs.lemmas.List.Sums.{fold-append}
use Rattle.std.specs.Prelude.{Option, Some, None, IsSome}
use Rattle.std.specs.Option.{option_map}
use Rattle.std.specs.Str.{bytes_eq}
use Rattle.iss_model.specs.declared.account.Account.{Account}
use Rattle.iss_model.specs.declared.account.Account.TheVariants as account
use Rattle.iss_model.specs.declared.account.Part.{Part}
use Rattle.iss_model.specs.declared.account.Part.TheVariants as part
use Rattle.iss_model.specs.declared.txn.Txn.{Txn}
use Rattle.iss_model.specs.declared.txn.UsageRow.{UsageRow}
use Rattle.iss_model.specs.declared.entry.Entry.{Entry}
use Rattle.iss_model.specs.declared.entry.Entry.TheVariants as entry
use Rattle.iss_model.specs.Sums.{part_key}
use Rattle.iss_model.specs.state.Kept.{Kept, kept_at, after_change}
use Rattle.iss_model.specs.rules.Activity.{TxnNow, txn_named}
use Rattle.iss_model.specs.rules.Asks.{usage_of}
use Rattle.iss_model.specs.rules.Facts.{not_below}
use Rattle.iss_model.specs.rules.CardReasons.{is_account_funded}
use Rattle.iss_model.specs.rules.Pieces.{only_where, only_gateway, post_entries, hold_entries, unhold_entries, user_account, Parts, in_all, taken_to_clear, left_of, taken_to_release, release_entries, clearing_money_entries}
use Rattle.iss_model.proofs.Names.{its_name}
use Rattle.iss_model.proofs.KeptSums.{kept_at-after_change}
use Rattle.iss_hold.specs.Entries.{IsHoldCovered}
use Rattle.iss_chain.specs.Values.{ChainNow, chain_after_entry}
use Rattle.iss_chain.specs.Entering.{IsTxn, AreFit}

-- the chain after entries
abbrev pub after : ChainNow → List Entry → ChainNow
after c es = fold chain_after_entry c es

-- a part of parts, and parts with less in one
abbrev pub held_of : Part → Parts → ℕ
held_of part.G parts = parts.g
held_of part.P parts = parts.p
held_of part.S parts = parts.s

abbrev pub less_in : Part → ℕ → Parts → Parts
less_in part.G n parts = record parts { g = parts.g - n }
less_in part.P n parts = record parts { p = parts.p - n }
less_in part.S n parts = record parts { s = parts.s - n }

-- a transaction is known, and holds at least these parts
pub record Has (c : ChainNow) (t : Txn) (parts : Parts) : Type 0 where
  pub known : IsTxn c.holdings t
  pub holds : (p : Part) → held_of p parts ≤ not_below (kept_at c.holdings.parts (part_key t.token p))

-- entries of a transaction fit, and leave at least these parts
pub record Leaves (c : ChainNow) (es : List Entry) (t : Txn) (parts : Parts) : Type 0 where
  pub fit : AreFit c es
  pub has : Has (after c es) t parts

pub fit_append : (c : ChainNow) (xs ys : List Entry) → AreFit c xs → AreFit (after c xs) ys → AreFit c (xs ++ ys)
fit_append c [] ys a b = b
fit_append c (x ∷ xs) ys a b = (a.0, fit_append (chain_after_entry c x) xs ys a.1 b)

-- one list and then another
pub then : {c : ChainNow} {xs ys : List Entry} {t : Txn} {a b : Parts} → Leaves c xs t a → Leaves (after c xs) ys t b → Leaves c (xs ++ ys) t b
then {c} {xs} {ys} {t} {a} {b} h k =
    record {
      fit = fit_append c xs ys h.fit k.fit;
      has = subst (λ (d : ChainNow). Has d t b) (sym (fold-append chain_after_entry c xs ys)) k.has;
    }

-- nothing is done
pub nothing : {c : ChainNow} {t : Txn} {parts : Parts} → Has c t parts → Leaves c [] t parts
nothing has = record { fit = tt; has = has }

some_stands : (o : Option TxnNow) (t : Txn) → option_map (λ now. now.txn) o ≡ Some t → IsSome o
some_stands None t e = cc
some_stands (Some now) t e = refl

pub is_known : (c : ChainNow) (t : Txn) → IsTxn c.holdings t → IsSome (txn_named t.token c.holdings.txns)
is_known c t known = some_stands (txn_named t.token c.holdings.txns) t known

pub post_leaves : {c : ChainNow} {t : Txn} {parts : Parts} (from to : Account) (amount : ℕ) → Has c t parts → Leaves c (post_entries t from to amount) t parts
post_leaves {c} {t} {parts} from to amount has = by (amount == 0)
  where
    by : (b : Bool) → Leaves c (cond b [] (entry.Post from to amount (Some t.token) ∷ [])) t parts
    by true = nothing has
    by false = record { fit = (is_known c t has.known, tt); has = record { known = has.known; holds = has.holds } }

pub use_leaves : {c : ChainNow} {t : Txn} {parts : Parts} (amount : ℕ) (row : UsageRow) → Has c t parts → Leaves c (only_where amount (entry.Usage row ∷ [])) t parts
use_leaves {c} {t} {parts} amount row has = by (amount == 0)
  where
    by : (b : Bool) → Leaves c (cond b [] (entry.Usage row ∷ [])) t parts
    by true = nothing has
    by false = record { fit = (tt, tt); has = has }

-- ---- a part that is let go

left_over : (z : ℤ) (m n : ℕ) → n ≤ m → m ≤ not_below z → m - n ≤ not_below (z +ℤ neg_ℤ (pos n))
left_over (pos k) m n le h =
    let rest : pos k +ℤ neg_ℤ (pos n) ≡ pos (k - n) = omega (arith, ints) in
    subst (λ (x : ℤ). m - n ≤ not_below x) (sym rest) (omega arith)
left_over (negsuc k) m n le h = omega arith

-- what a change of one part leaves at another
part_after : (parts : Kept) (token : List ℕ) (p q : Part) (z : ℤ) (b : Bool) → bytes_eq (part_key token p) (part_key token q) ≡ b
    → kept_at (after_change parts (record { key = part_key token p; by = z })) (part_key token q) ≡ kept_at parts (part_key token q) +ℤ cond b z (pos 0)
part_after parts token p q z b e =
    kept_at-after_change parts (record { key = part_key token p; by = z }) (part_key token q) ∙ ap (λ (x : Bool). kept_at parts (part_key token q) +ℤ cond x z (pos 0)) e

as_it_was : (z : ℤ) → z +ℤ pos 0 ≡ z
as_it_was z = omega (arith, ints)

other_part : (parts : Kept) (token : List ℕ) (p q : Part) (z : ℤ) (m : ℕ) → bytes_eq (part_key token p) (part_key token q) ≡ false → m ≤ not_below (kept_at parts (part_key token q))
    → m ≤ not_below (kept_at (after_change parts (record { key = part_key token p; by = z })) (part_key token q))
other_part parts token p q z m e h =
    subst (λ (x : ℤ). m ≤ not_below x) (sym (part_after parts token p q z false e ∙ as_it_was (kept_at parts (part_key token q)))) h

own_part : (parts : Kept) (token : List ℕ) (p : Part) (n m : ℕ) → n ≤ m → m ≤ not_below (kept_at parts (part_key token p))
    → m - n ≤ not_below (kept_at (after_change parts (record { key = part_key token p; by = neg_ℤ (pos n) })) (part_key token p))
own_part parts token p n m le h =
    subst (λ (x : ℤ). m - n ≤ not_below x) (sym (part_after parts token p p (neg_ℤ (pos n)) true (its_name (part_key token p)))) (left_over (kept_at parts (part_key token p)) m n le h)

covers : (n there : ℕ) → (n == 0) ≡ false → n ≤ there → IsHoldCovered (neg_ℤ (pos n)) there
covers zero there e le = cc
covers (suc n) there e le = le

less_stays : (parts : Kept) (t : Txn) (p : Part) (n : ℕ) (held : Parts) → n ≤ held_of p held → ((q : Part) → held_of q held ≤ not_below (kept_at parts (part_key t.token q)))
    → (q : Part) → held_of q (less_in p n held) ≤ not_below (kept_at (after_change parts (record { key = part_key t.token p; by = neg_ℤ (pos n) })) (part_key t.token q))
less_stays parts t part.G n held le h part.G = own_part parts t.token part.G n held.g le (h part.G)
less_stays parts t part.G n held le h part.P = other_part parts t.token part.G part.P (neg_ℤ (pos n)) held.p refl (h part.P)
less_stays parts t part.G n held le h part.S = other_part parts t.token part.G part.S (neg_ℤ (pos n)) held.s refl (h part.S)
less_stays parts t part.P n held le h part.G = other_part parts t.token part.P part.G (neg_ℤ (pos n)) held.g refl (h part.G)
less_stays parts t part.P n held le h part.P = own_part parts t.token part.P n held.p le (h part.P)
less_stays parts t part.P n held le h part.S = other_part parts t.token part.P part.S (neg_ℤ (pos n)) held.s refl (h part.S)
less_stays parts t part.S n held le h part.G = other_part parts t.token part.S part.G (neg_ℤ (pos n)) held.g refl (h part.G)
less_stays parts t part.S n held le h part.P = other_part parts t.token part.S part.P (neg_ℤ (pos n)) held.p refl (h part.P)
less_stays parts t part.S n held le h part.S = own_part parts t.token part.S n held.s le (h part.S)

none_less : (p : Part) (n : ℕ) (held : Parts) (there : ℕ) (q : Part) → held_of q held ≤ there → held_of q (less_in p n held) ≤ there
none_less part.G n held there part.G h = omega arith
none_less part.G n held there part.P h = h
none_less part.G n held there part.S h = h
none_less part.P n held there part.G h = h
none_less part.P n held there part.P h = omega arith
none_less part.P n held there part.S h = h
none_less part.S n held there part.G h = h
none_less part.S n held there part.P h = h
none_less part.S n held there part.S h = omega arith

pub unhold_leaves : {c : ChainNow} {t : Txn} {parts : Parts} (p : Part) (amount : ℕ) → amount ≤ held_of p parts → Has c t parts → Leaves c (unhold_entries t p amount) t (less_in p amount parts)
unhold_leaves {c} {t} {parts} p amount le has = by (amount == 0) refl
  where
    by : (b : Bool) → (amount == 0) ≡ b → Leaves c (cond b [] (entry.Hold t.token t.user t.currency p (neg_ℤ (pos amount)) ∷ [])) t (less_in p amount parts)
    by true e = nothing (record { known = has.known; holds = λ q. none_less p amount parts (not_below (kept_at c.holdings.parts (part_key t.token q))) q (has.holds q) })
    by false e =
        let there = has.holds p in
        record {
          fit = (
            record {
              its = t;
              stands = has.known;
              of_txn = refl;
              of_user = refl;
              of_currency = refl;
              covered = covers amount (not_below (kept_at c.holdings.parts (part_key t.token p))) e (omega arith);
            },
            tt,
          );
          has = record { known = has.known; holds = less_stays c.holdings.parts t p amount parts le has.holds };
        }

pub hold_fit : (c : ChainNow) (t : Txn) (p : Part) (amount : ℕ) → IsTxn c.holdings t → AreFit c (hold_entries t p amount)
hold_fit c t p amount known = by (amount == 0)
  where
    by : (b : Bool) → AreFit c (cond b [] (entry.Hold t.token t.user t.currency p (pos amount) ∷ []))
    by true = tt
    by false = (record { its = t; stands = known; of_txn = refl; of_user = refl; of_currency = refl; covered = tt }, tt)

-- ---- release, and a clearing

pub release_leaves : {c : ChainNow} {t : Txn} (parts : Parts) (amount : ℕ) → Has c t parts → Leaves c (release_entries t parts amount) t (left_of parts (taken_to_release parts amount))
release_leaves {c} {t} parts amount has =
    let taken = taken_to_release parts amount in
    let l1 = unhold_leaves part.P taken.p (omega arith) has in
    let l2 = then l1 (post_leaves (user_account t) (account.Programme t.currency) taken.p l1.has) in
    let l3 = then l2 (unhold_leaves part.G taken.g (omega arith) l2.has) in
    let l4 = then l3 (post_leaves (user_account t) (account.Gateway t.currency) taken.g l3.has) in
    let l5 = then l4 (unhold_leaves part.S taken.s (omega arith) l4.has) in
    then l5 (use_leaves amount (usage_of t (neg_ℤ (pos amount)) (pos 0) t.at) l5.has)

pub gateway_leaves : {c : ChainNow} {t : Txn} {parts : Parts} (es : List Entry) → Has c t parts → Leaves c es t parts → Leaves c (only_gateway t es) t parts
gateway_leaves {c} {t} {parts} es has leaves = by (is_account_funded t.funding)
  where
    by : (b : Bool) → Leaves c (cond b [] es) t parts
    by true = nothing has
    by false = leaves

pub clearing_leaves : {c : ChainNow} {t : Txn} (parts : Parts) (amount at : ℕ) → Has c t parts
    → Leaves c (clearing_money_entries t (taken_to_clear parts amount) amount at) t (left_of parts (taken_to_clear parts amount))
clearing_leaves {c} {t} parts amount at has =
    let taken = taken_to_clear parts amount in
    let excess = amount - in_all taken in
    let l1 = unhold_leaves part.G taken.g (omega arith) has in
    let l2 = then l1 (unhold_leaves part.P taken.p (omega arith) l1.has) in
    let l3 = then l2 (unhold_leaves part.S taken.s (omega arith) l2.has) in
    let l4 = then l3 (gateway_leaves (post_entries t (account.Programme t.currency) (user_account t) excess) l3.has (post_leaves (account.Programme t.currency) (user_account t) excess l3.has)) in
    let l5 = then l4 (post_leaves (user_account t) (account.Network t.currency) amount l4.has) in
    then l5 (use_leaves excess (usage_of t (pos excess) (pos 0) at) l5.has)
