-- Which items are due, and so what becomes of an asked call by all that is due at a moment.
use Rattle.std.proofs.Common.{◌≡◌, ℕ, Bool, true, false, cond, ◌&&◌, ◌||◌, nat_eq, nat_le, List, [], ◌∷◌, ◌++◌, map, filter, fold, refl, sym, ap, subst, ◌∙◌}
use Rattle.std.specs.Prelude.{Some}
use Rattle.std.specs.List.{list_any}
use Rattle.std.specs.Str.{bytes_eq}
use Rattle.std.proofs.lemmas.List.Folds.{list_any-append}
use Rattle.iss_model.specs.rules.Activity.{TxnNow, CallNow, is_asked, txn_named}
use Rattle.iss_model.specs.rules.Due.{DueItem, due_call, due_txn, is_before, due_items, items_with}
use Rattle.iss_model.specs.rules.Reasons.{is_some_with}
use Rattle.iss_model.specs.rules.Stepping.{after_due}
use Rattle.iss_model.specs.state.Cores.{CoreState, core_facts, core_keeper}
use Rattle.iss_model.proofs.Names.{one_name}
use Rattle.iss_state.proofs.effects.Finds.{found_passes}
use Rattle.iss_state.specs.Numbers.{CallsNumberedFrom}
use Rattle.iss_state.specs.Dockets.{docket_of}
use Rattle.iss_state.specs.Well.{HaveOwnTokens, IsAsked, IsWellAmong, Known}
use Rattle.iss_state.proofs.docket.Closing.{calls_lone}
use Rattle.iss_state.proofs.docket.Lists.{Lone, any_filtered, any_mapped, lone_any, none_found}
use Rattle.iss_state.proofs.calls.Fates.{Fate, hits, sweep_fate}

txns_lone : (k : List ℕ) (ts : List TxnNow) → HaveOwnTokens ts → Lone (λ t. bytes_eq t.txn.token k) ts
txns_lone k [] h = tt
txns_lone k (t ∷ ts) h =
    (λ e. none_found (λ (t : TxnNow). bytes_eq t.txn.token k) ts (ap (λ (k : List ℕ). txn_named k ts) (sym (one_name t.txn.token k e)) ∙ h.0), txns_lone k ts h.1)

-- which items are due ----

swapped : (a b d : Bool) → (a || (b || d)) ≡ (b || (a || d))
swapped true true d = refl
swapped true false d = refl
swapped false b d = refl

any_placed : (p : DueItem → Bool) (items : List DueItem) (x : DueItem) → list_any p (items_with items x) ≡ (p x || list_any p items)
any_placed p [] x = refl
any_placed p (y ∷ ys) x = by (is_before x y) (any_placed p ys x)
  where
    by : (b : Bool) → list_any p (items_with ys x) ≡ (p x || list_any p ys) → list_any p (cond b (x ∷ y ∷ ys) (y ∷ items_with ys x)) ≡ (p x || (p y || list_any p ys))
    by true e = refl
    by false e = ap (λ (b : Bool). p y || b) e ∙ swapped (p y) (p x) (list_any p ys)

any_all_placed : (p : DueItem → Bool) (xs items : List DueItem) → list_any p (fold items_with items xs) ≡ (list_any p items || list_any p xs)
any_all_placed p [] items = or_none (list_any p items)
  where
    or_none : (b : Bool) → b ≡ (b || false)
    or_none true = refl
    or_none false = refl
any_all_placed p (x ∷ xs) items =
    any_all_placed p xs (items_with items x) ∙ ap (λ (b : Bool). b || list_any p xs) (any_placed p items x) ∙ moved_or (p x) (list_any p items) (list_any p xs)
  where
    moved_or : (a b d : Bool) → ((a || b) || d) ≡ (b || (a || d))
    moved_or true true d = refl
    moved_or true false d = refl
    moved_or false true d = refl
    moved_or false false d = refl

both_false : (a b d : Bool) → d ≡ false → (a && (b && d)) ≡ false
both_false true true d h = h
both_false true false d h = refl
both_false false b d h = refl

middle_of : (a b d : Bool) → a ≡ true → d ≡ true → (a && (b && d)) ≡ b
middle_of true true d h k = k
middle_of true false d h k = refl
middle_of false b d h k = cc

due_calls : (calls : List CallNow) (at n : ℕ) (k : List ℕ) (c : CallNow) → CallsNumberedFrom 1 calls → IsAsked calls n c
    → list_any (λ i. nat_le i.since at && hits n k i.thing) (map due_call (filter is_asked calls)) ≡ nat_le c.opened.deadline at
due_calls calls at n k c numbers asked =
    any_mapped (λ (i : DueItem). nat_le i.since at && hits n k i.thing) due_call (filter is_asked calls)
    ∙ any_filtered (λ (x : CallNow). nat_le x.opened.deadline at && nat_eq x.opened.call.0 n) is_asked calls
    ∙ lone_any (λ (x : CallNow). nat_eq x.opened.call.0 n) (λ (x : CallNow). is_asked x && (nat_le x.opened.deadline at && nat_eq x.opened.call.0 n))
    (λ x h. both_false (is_asked x) (nat_le x.opened.deadline at) (nat_eq x.opened.call.0 n) h) calls c (calls_lone 1 n calls numbers) asked.stands
    ∙ middle_of (is_asked c) (nat_le c.opened.deadline at) (nat_eq c.opened.call.0 n) asked.asked (found_passes (λ (x : CallNow). nat_eq x.opened.call.0 n) calls c asked.stands)

due_txns : (txns : List TxnNow) (at n : ℕ) (k : List ℕ) (t : TxnNow) → HaveOwnTokens txns → txn_named k txns ≡ Some t → t.live ≡ true
    → list_any (λ i. nat_le i.since at && hits n k i.thing) (map due_txn (filter (λ t. t.live) txns)) ≡ nat_le t.txn.expires at
due_txns txns at n k t names stands live =
    any_mapped (λ (i : DueItem). nat_le i.since at && hits n k i.thing) due_txn (filter (λ (t : TxnNow). t.live) txns)
    ∙ any_filtered (λ (x : TxnNow). nat_le x.txn.expires at && bytes_eq x.txn.token k) (λ (t : TxnNow). t.live) txns
    ∙ lone_any (λ (x : TxnNow). bytes_eq x.txn.token k) (λ (x : TxnNow). x.live && (nat_le x.txn.expires at && bytes_eq x.txn.token k))
    (λ x h. both_false x.live (nat_le x.txn.expires at) (bytes_eq x.txn.token k) h) txns t (txns_lone k txns names) stands
    ∙ middle_of t.live (nat_le t.txn.expires at) (bytes_eq t.txn.token k) live (found_passes (λ (x : TxnNow). bytes_eq x.txn.token k) txns t stands)

pub due_hits : (known : Known) (s : CoreState) (at n : ℕ) (c : CallNow) (t : TxnNow) → IsWellAmong known (docket_of s) → IsAsked s.calls n c
    → txn_named c.opened.txn s.holdings.txns ≡ Some t
    → list_any (λ i. hits n c.opened.txn i.thing) (due_items (core_facts s) at) ≡ (nat_le c.opened.deadline at || nat_le t.txn.expires at)
due_hits known s at n c t well asked stands =
    let k : List ℕ = c.opened.txn in
    let p : DueItem → Bool = λ i. hits n k i.thing in
    let q : DueItem → Bool = λ i. nat_le i.since at in
    let calls : List DueItem = map due_call (filter is_asked s.calls) in
    let txns : List DueItem = map due_txn (filter (λ (t : TxnNow). t.live) s.holdings.txns) in
    any_all_placed p (filter q (calls ++ txns)) []
    ∙ any_filtered p q (calls ++ txns)
    ∙ list_any-append (λ (i : DueItem). nat_le i.since at && hits n k i.thing) calls txns
    ∙ ap (λ (b : Bool). b || list_any (λ (i : DueItem). nat_le i.since at && hits n k i.thing) txns) (due_calls s.calls at n k c well.calls.numbers asked)
    ∙ ap (λ (b : Bool). nat_le c.opened.deadline at || b) (due_txns s.holdings.txns at n k t well.txns.tokens stands (ap (is_some_with (λ (t : TxnNow). t.live)) (sym stands) ∙ well.live n c asked))

-- What becomes of an asked call by what is due at a moment. If its deadline or its transaction's expiry has come, it is closed. Otherwise
-- it stays as it is.
pub after_due_fate : (known : Known) (s : CoreState) (at n : ℕ) (c : CallNow) (t : TxnNow) → IsWellAmong known (docket_of s) → IsAsked s.calls n c
    → txn_named c.opened.txn s.holdings.txns ≡ Some t
    → Fate (after_due core_keeper s at).world.calls n c (nat_le c.opened.deadline at || nat_le t.txn.expires at)
after_due_fate known s at n c t well asked stands =
    subst (Fate (after_due core_keeper s at).world.calls n c) (due_hits known s at n c t well asked stands)
    (sweep_fate known at n c (record { world = s; entries = [] }) (due_items (core_facts s) at) well asked)
