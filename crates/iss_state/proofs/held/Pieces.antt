-- What the pieces of a step do to the parts of one transaction: each finds what it needs.
use Rattle.std.proofs.Common.{◌≡◌, ℕ, zero, suc, ℤ, pos, negsuc, neg_ℤ, ◌+ℤ◌, ◌+◌, ◌-◌, ◌≤◌, min, Bool, true, false, cond, nat_eq, List, [], ◌∷◌, ◌++◌, fold, refl, sym, ap, subst, ◌∙◌, arith}
use Rattle.std.proofs.lemmas.Int.{ints}
use Rattle.std.specs.Prelude.{◌≤ℤ◌}
use Rattle.std.specs.List.{list_all}
use Rattle.std.proofs.lemmas.Bool.{and_parts}
use Rattle.std.proofs.lemmas.List.Sums.{fold-append}
use Rattle.iss_model.specs.declared.account.Account.{Account}
use Rattle.iss_model.specs.declared.account.Account.TheVariants as account
use Rattle.iss_model.specs.declared.account.Part.{Part}
use Rattle.iss_model.specs.declared.account.Part.TheVariants as part
use Rattle.iss_model.specs.declared.decision.Reason.{Reason}
use Rattle.iss_model.specs.declared.entry.Entry.{Entry}
use Rattle.iss_model.specs.declared.entry.Entry.TheVariants as entry
use Rattle.iss_model.specs.declared.input.Input.{Input}
use Rattle.iss_model.specs.declared.input.Input.TheVariants as input
use Rattle.iss_model.specs.declared.setting.Moved.TheVariants as moved
use Rattle.iss_model.specs.declared.txn.Txn.{Txn}
use Rattle.iss_model.specs.Sums.{part_key}
use Rattle.iss_model.specs.rules.Activity.{CallNow}
use Rattle.iss_model.specs.rules.Asks.{usage_of}
use Rattle.iss_model.specs.rules.Pieces.{clearing_money_entries, Parts, abandoned_calls_entries, in_all, left_of, only_gateway, only_where, parts_held, post_entries, release_entries, taken_to_clear, taken_to_release, unhold_entries, use_return_entries, user_account}
use Rattle.iss_model.specs.rules.Facts.{not_below}
use Rattle.iss_model.specs.state.Cores.{CoreState, after_entry, after_setting, core_facts}
use Rattle.iss_model.specs.state.Kept.{Kept, after_changes}
use Rattle.iss_model.proofs.Names.{its_name}
pub use Rattle.iss_state.proofs.effects.Taking.{amount_of, without}
use Rattle.iss_state.proofs.effects.Finds.{number_is}
use Rattle.iss_acts.proofs.Passing.{EachPasses, gateway_passes, one_passes, passing, where_passes}
use Rattle.iss_state.specs.Dockets.{Docket, docket_of}
use Rattle.iss_state.proofs.docket.Docketed.{AreSilent}
use Rattle.iss_state.proofs.calls.Staying.{comes_to}
use Rattle.iss_state.specs.Holdings.{AllKeepHeld, HoldsNothing, IsHeldWell, MayChange, MayHold, part_sum}
use Rattle.iss_state.proofs.held.Changes.{change_of, changed_here, changed_other, keep_append}

-- entries that need nothing and leave the parts ----

-- an entry leaves what transactions hold as it is, and begins, ends and asks nothing
abbrev pub leaves_parts : Entry → Bool
leaves_parts (entry.Began t) = false
leaves_parts (entry.Opened o) = false
leaves_parts (entry.Hold txn user currency p amount) = false
leaves_parts (entry.Ended txn) = false
leaves_parts _ = true

abbrev pub AreCalm : List Entry → Type 0
AreCalm es = EachPasses leaves_parts es

pub calm_keep : (s : CoreState) (es : List Entry) → AreCalm es → AllKeepHeld s es
calm_keep s es h = by s es h.all
  where
    by : (s : CoreState) (es : List Entry) → list_all leaves_parts es ≡ true → AllKeepHeld s es
    by s [] h = tt
    by s (entry.Began t ∷ es) h = cc
    by s (entry.Opened o ∷ es) h = cc
    by s (entry.Hold txn user currency p amount ∷ es) h = cc
    by s (entry.Ended txn ∷ es) h = cc
    by s (e ∷ es) h = (tt, by (after_entry s e) es h)

setting_parts : (s : CoreState) (i : Input) → (after_setting s i).holdings.parts ≡ s.holdings.parts
setting_parts s (input.Move token (moved.Card card to)) = refl
setting_parts s (input.Move token (moved.User user to)) = refl
setting_parts s _ = refl

calm_entry : (s : CoreState) (e : Entry) → leaves_parts e ≡ true → (after_entry s e).holdings.parts ≡ s.holdings.parts
calm_entry s (entry.Conf i) h = setting_parts s i
calm_entry s (entry.Began t) h = cc
calm_entry s (entry.Hold txn user currency p amount) h = cc
calm_entry s _ h = refl

pub calm_parts : (s : CoreState) (es : List Entry) → AreCalm es → (fold after_entry s es).holdings.parts ≡ s.holdings.parts
calm_parts s es h = by s es h.all
  where
    by : (s : CoreState) (es : List Entry) → list_all leaves_parts es ≡ true → (fold after_entry s es).holdings.parts ≡ s.holdings.parts
    by s [] h = refl
    by s (e ∷ es) h =
        let parts = and_parts (leaves_parts e) (list_all leaves_parts es) h in
        by (after_entry s e) es parts.1 ∙ calm_entry s e parts.0

pub post_calm : (t : Txn) (from to : Account) (n : ℕ) → AreCalm (post_entries t from to n)
post_calm t from to n = where_passes n (one_passes refl)

use_calm : (t : Txn) (n : ℕ) → AreCalm (use_return_entries t n)
use_calm t n = where_passes n (one_passes refl)

pub abandoned_calm : (number : ℕ) (t : Txn) (why : Reason) (cs : List CallNow) → AreCalm (abandoned_calls_entries number t why cs)
abandoned_calm number t why [] = passing refl
abandoned_calm number t why (c ∷ cs) = record { all = (abandoned_calm (number + 1) t why cs).all }

-- a transaction that may hold still may, if nothing is docketed
pub still_may : (s : CoreState) (es : List Entry) (token : List ℕ) → AreSilent es → MayHold (docket_of s) token → MayHold (docket_of (fold after_entry s es)) token
still_may s es token silent may = subst (λ (d : Docket). MayHold d token) (sym (comes_to s es [] silent.none)) may

-- what a transaction holds, as numbers ----

-- a transaction holds just these parts
pub record HoldsJust (parts : Kept) (token : List ℕ) (amounts : Parts) : Type 0 where
  pub of_gateway : part_sum parts token part.G ≡ pos amounts.g
  pub of_programme : part_sum parts token part.P ≡ pos amounts.p
  pub of_user : part_sum parts token part.S ≡ pos amounts.s

-- entries keep all held well, and leave a transaction these parts
pub record Leaves (s : CoreState) (es : List Entry) (token : List ℕ) (amounts : Parts) : Type 0 where
  pub keeps : AllKeepHeld s es
  pub just : HoldsJust (fold after_entry s es).holdings.parts token amounts

not_below_is : (z : ℤ) → pos 0 ≤ℤ z → z ≡ pos (not_below z)
not_below_is (pos n) h = refl
not_below_is (negsuc n) h = absurd (omega (arith, ints, h))

-- what the rules take for the parts of a transaction
pub its_parts : (s : CoreState) (t : Txn) → IsHeldWell s → HoldsJust s.holdings.parts t.token (parts_held (core_facts s) t)
its_parts s t held =
    record {
      of_gateway = not_below_is (part_sum s.holdings.parts t.token part.G) (held.not_negative t.token part.G);
      of_programme = not_below_is (part_sum s.holdings.parts t.token part.P) (held.not_negative t.token part.P);
      of_user = not_below_is (part_sum s.holdings.parts t.token part.S) (held.not_negative t.token part.S);
    }

pub calm_leaves : (s : CoreState) (es : List Entry) (token : List ℕ) (amounts : Parts) → AreCalm es → HoldsJust s.holdings.parts token amounts → Leaves s es token amounts
calm_leaves s es token amounts calm just =
    record { keeps = calm_keep s es calm; just = subst (λ (parts : Kept). HoldsJust parts token amounts) (sym (calm_parts s es calm)) just }

pub then_leaves : (s : CoreState) (xs ys : List Entry) (token : List ℕ) (before after : Parts) → Leaves s xs token before → Leaves (fold after_entry s xs) ys token after
    → Leaves s (xs ++ ys) token after
then_leaves s xs ys token before after first second =
    record {
      keeps = keep_append s xs ys first.keeps second.keeps;
      just = subst (λ (q : CoreState). HoldsJust q.holdings.parts token after) (sym (fold-append after_entry s xs ys)) second.just;
    }

-- calm entries after others
pub then_calm : (s : CoreState) (xs ys : List Entry) (token : List ℕ) (amounts : Parts) → Leaves s xs token amounts → AreCalm ys → Leaves s (xs ++ ys) token amounts
then_calm s xs ys token amounts first calm = then_leaves s xs ys token amounts amounts first (calm_leaves (fold after_entry s xs) ys token amounts calm first.just)

-- letting go ----

less_there : (z : ℤ) (a n : ℕ) → n ≤ a → z ≡ pos a → z +ℤ neg_ℤ (pos n) ≡ pos (a - n)
less_there z a n le e = omega (arith, ints, le, e)

none_less : (a n : ℕ) → n ≡ 0 → a ≡ a - n
none_less a n e = omega (arith, e)

may_let_go : (s : CoreState) (token : List ℕ) (p : Part) (n a : ℕ) → nat_eq n 0 ≡ false → n ≤ a → part_sum s.holdings.parts token p ≡ pos a → MayChange s token p (neg_ℤ (pos n))
may_let_go s token p zero a e le just = cc
may_let_go s token p (suc n) a e le just = omega (arith, ints, le, just)

-- the parts of a transaction after a change of one of them
let_go_just : (parts : Kept) (token : List ℕ) (p : Part) (n : ℕ) (x : Parts) → n ≤ amount_of p x → HoldsJust parts token x
    → HoldsJust (after_changes parts (change_of (part_key token p) (neg_ℤ (pos n)))) token (without p n x)
let_go_just parts token part.G n x le just =
    record {
      of_gateway = changed_here parts (part_key token part.G) (part_key token part.G) (neg_ℤ (pos n)) (its_name token) ∙ less_there (part_sum parts token part.G) x.g n le just.of_gateway;
      of_programme = changed_other parts (part_key token part.G) (part_key token part.P) (neg_ℤ (pos n)) refl ∙ just.of_programme;
      of_user = changed_other parts (part_key token part.G) (part_key token part.S) (neg_ℤ (pos n)) refl ∙ just.of_user;
    }
let_go_just parts token part.P n x le just =
    record {
      of_gateway = changed_other parts (part_key token part.P) (part_key token part.G) (neg_ℤ (pos n)) refl ∙ just.of_gateway;
      of_programme = changed_here parts (part_key token part.P) (part_key token part.P) (neg_ℤ (pos n)) (its_name token) ∙ less_there (part_sum parts token part.P) x.p n le just.of_programme;
      of_user = changed_other parts (part_key token part.P) (part_key token part.S) (neg_ℤ (pos n)) refl ∙ just.of_user;
    }
let_go_just parts token part.S n x le just =
    record {
      of_gateway = changed_other parts (part_key token part.S) (part_key token part.G) (neg_ℤ (pos n)) refl ∙ just.of_gateway;
      of_programme = changed_other parts (part_key token part.S) (part_key token part.P) (neg_ℤ (pos n)) refl ∙ just.of_programme;
      of_user = changed_here parts (part_key token part.S) (part_key token part.S) (neg_ℤ (pos n)) (its_name token) ∙ less_there (part_sum parts token part.S) x.s n le just.of_user;
    }

pub its_amount : (parts : Kept) (token : List ℕ) (p : Part) (x : Parts) → HoldsJust parts token x → part_sum parts token p ≡ pos (amount_of p x)
its_amount parts token part.G x just = just.of_gateway
its_amount parts token part.P x just = just.of_programme
its_amount parts token part.S x just = just.of_user

nothing_less : (parts : Kept) (token : List ℕ) (p : Part) (n : ℕ) (x : Parts) → n ≡ 0 → HoldsJust parts token x → HoldsJust parts token (without p n x)
nothing_less parts token part.G n x e just = record { of_gateway = just.of_gateway ∙ ap pos (none_less x.g n e); of_programme = just.of_programme; of_user = just.of_user }
nothing_less parts token part.P n x e just = record { of_gateway = just.of_gateway; of_programme = just.of_programme ∙ ap pos (none_less x.p n e); of_user = just.of_user }
nothing_less parts token part.S n x e just = record { of_gateway = just.of_gateway; of_programme = just.of_programme; of_user = just.of_user ∙ ap pos (none_less x.s n e) }

pub let_go : (s : CoreState) (t : Txn) (p : Part) (n : ℕ) (x : Parts) → n ≤ amount_of p x → HoldsJust s.holdings.parts t.token x
    → Leaves s (unhold_entries t p n) t.token (without p n x)
let_go s t p n x le just = by (nat_eq n 0) refl
  where
    by : (b : Bool) → nat_eq n 0 ≡ b → Leaves s (cond b [] (entry.Hold t.token t.user t.currency p (neg_ℤ (pos n)) ∷ [])) t.token (without p n x)
    by true e = record { keeps = tt; just = nothing_less s.holdings.parts t.token p n x (number_is n 0 e) just }
    by false e =
        record {
          keeps = (may_let_go s t.token p n (amount_of p x) e le (its_amount s.holdings.parts t.token p x just), tt);
          just = let_go_just s.holdings.parts t.token p n x le just;
        }

-- a part is let go after others, and calm entries follow
freed : (s : CoreState) (t : Txn) (xs ys : List Entry) (p : Part) (n : ℕ) (x : Parts) → Leaves s xs t.token x → n ≤ amount_of p x → AreCalm ys
    → Leaves s (xs ++ unhold_entries t p n ++ ys) t.token (without p n x)
freed s t xs ys p n x first le calm =
    let more : List Entry = unhold_entries t p n in
    then_calm s (xs ++ more) ys t.token (without p n x) (then_leaves s xs more t.token x (without p n x) first (let_go (fold after_entry s xs) t p n x le first.just)) calm

min_low : (a b : ℕ) → min a b ≤ b
min_low a b = omega arith

-- an amount is let go
pub release_leaves : (s : CoreState) (t : Txn) (x : Parts) (amount : ℕ) → HoldsJust s.holdings.parts t.token x
    → Leaves s (release_entries t x amount) t.token (left_of x (taken_to_release x amount))
release_leaves s t x amount just =
    let taken : Parts = taken_to_release x amount in
    let one : Parts = without part.P taken.p x in
    let two : Parts = without part.G taken.g one in
    let b : List Entry = post_entries t (user_account t) (account.Programme t.currency) taken.p in
    let d : List Entry = post_entries t (user_account t) (account.Gateway t.currency) taken.g in
    let first = freed s t [] b part.P taken.p x (record { keeps = tt; just = just }) (min_low amount x.p) (post_calm t (user_account t) (account.Programme t.currency) taken.p) in
    let ab : List Entry = unhold_entries t part.P taken.p ++ b in
    let second = freed s t ab d part.G taken.g one first (min_low (amount - taken.p) x.g) (post_calm t (user_account t) (account.Gateway t.currency) taken.g) in
    freed s t (ab ++ unhold_entries t part.G taken.g ++ d) (use_return_entries t amount) part.S taken.s two second (min_low (amount - taken.p - taken.g) x.s) (use_calm t amount)

-- a clearing takes its part of the hold
pub clearing_leaves : (s : CoreState) (t : Txn) (x : Parts) (amount at : ℕ) → HoldsJust s.holdings.parts t.token x
    → Leaves s (clearing_money_entries t (taken_to_clear x amount) amount at) t.token (left_of x (taken_to_clear x amount))
clearing_leaves s t x amount at just =
    let taken : Parts = taken_to_clear x amount in
    let excess : ℕ = amount - in_all taken in
    let one : Parts = without part.G taken.g x in
    let two : Parts = without part.P taken.p one in
    let three : Parts = without part.S taken.s two in
    let a : List Entry = unhold_entries t part.G taken.g in
    let b : List Entry = unhold_entries t part.P taken.p in
    let d : List Entry = only_gateway t (post_entries t (account.Programme t.currency) (user_account t) excess) in
    let e : List Entry = post_entries t (user_account t) (account.Network t.currency) amount in
    let abcd : List Entry = a ++ b ++ unhold_entries t part.S taken.s ++ d in
    let first = let_go s t part.G taken.g x (min_low amount x.g) just in
    let second = then_leaves s a b t.token one two first (let_go (fold after_entry s a) t part.P taken.p one (min_low (amount - taken.g) x.p) first.just) in
    let third = freed s t (a ++ b) d part.S taken.s two second (min_low (amount - taken.g - taken.p) x.s) (gateway_passes t (post_calm t (account.Programme t.currency) (user_account t) excess)) in
    let fourth = then_calm s abcd e t.token three third (post_calm t (user_account t) (account.Network t.currency) amount) in
    then_calm s (abcd ++ e) (only_where excess (entry.Usage (usage_of t (pos excess) (pos 0) at) ∷ [])) t.token three fourth (where_passes excess (one_passes refl))

-- a transaction ends ----

-- if these parts are nothing in all, nothing is held
pub nothing_left : (parts : Kept) (token : List ℕ) (x : Parts) → in_all x ≡ 0 → HoldsJust parts token x → HoldsNothing parts token
nothing_left parts token x e just part.G = let none : x.g ≡ 0 = omega (arith, e) in just.of_gateway ∙ ap pos none
nothing_left parts token x e just part.P = let none : x.p ≡ 0 = omega (arith, e) in just.of_programme ∙ ap pos none
nothing_left parts token x e just part.S = let none : x.s ≡ 0 = omega (arith, e) in just.of_user ∙ ap pos none
