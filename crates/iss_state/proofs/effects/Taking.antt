-- What a release and a clearing take from what their transaction holds.
use Rattle.std.proofs.Common.{List, [], ap, arith, fold, min, neg_ℤ, pos, refl, subst, sym, true, ℕ, ◌*◌, ◌++◌, ◌+◌, ◌-◌, ◌∙◌, ◌∷◌, ◌≡◌, ◌≤◌, nat_eq}
use Rattle.std.specs.List.{list_all}
use Rattle.std.proofs.lemmas.List.Sums.{fold-append}
use Rattle.iss_model.specs.declared.account.Account.{Account}
use Rattle.iss_model.specs.declared.account.Account.TheVariants as account
use Rattle.iss_model.specs.declared.account.Part.{Part}
use Rattle.iss_model.specs.declared.account.Part.TheVariants as part
use Rattle.iss_model.specs.declared.entry.Entry.{Entry}
use Rattle.iss_model.specs.declared.entry.Entry.TheVariants as entry
use Rattle.iss_model.specs.declared.txn.Txn.{Txn}
use Rattle.iss_model.specs.rules.Asks.{usage_of}
use Rattle.iss_model.specs.rules.CardReasons.{is_account_funded}
use Rattle.iss_model.specs.rules.Pieces.{Parts, clearing_money_entries, in_all, left_of, only_gateway, only_where, post_entries, release_entries, taken_to_clear, taken_to_release, unhold_entries, use_return_entries, user_account}
use Rattle.iss_model.specs.state.Cores.{CoreState, Holdings, after_entry}
use Rattle.iss_model.proofs.Names.{its_name}
use Rattle.iss_state.specs.Effects.{Effect, HoldsParts}
use Rattle.iss_state.specs.Needs.{Stands}
use Rattle.iss_state.specs.Stakes.{IsOrderlyState, part_held}
use Rattle.iss_state.proofs.effects.Effects.{all_calm_calls, all_calm_holdings, and_then, comes_to, is_calm, no_effect, stands_then}
use Rattle.iss_state.proofs.effects.PieceEffects.{calm_where, only_gateway_effect, only_where_effect, post_calm, post_effect, unhold_calls, unhold_effect, unhold_other, unhold_same, usage_effect, use_return_effect}

-- an amount of parts
abbrev pub amount_of : Part → Parts → ℕ
amount_of part.G x = x.g
amount_of part.P x = x.p
amount_of part.S x = x.s

-- parts without an amount of one of them
abbrev pub without : Part → ℕ → Parts → Parts
without part.G n x = record { g = x.g - n; p = x.p; s = x.s }
without part.P n x = record { g = x.g; p = x.p - n; s = x.s }
without part.S n x = record { g = x.g; p = x.p; s = x.s - n }

-- a transaction holds in one state what it holds in another with the same holdings
pub holds_then : (s t : CoreState) (x : Txn) (parts : Parts) → t.holdings ≡ s.holdings → HoldsParts s x parts → HoldsParts t x parts
holds_then s t x parts same h =
    record {
      of_gateway = subst (λ (k : Holdings). parts.g ≤ part_held k.parts x.token part.G) (sym same) h.of_gateway;
      of_programme = subst (λ (k : Holdings). parts.p ≤ part_held k.parts x.token part.P) (sym same) h.of_programme;
      of_user = subst (λ (k : Holdings). parts.s ≤ part_held k.parts x.token part.S) (sym same) h.of_user;
    }

-- what is let go of a part leaves the rest
holds_less : (s : CoreState) (t : Txn) (p : Part) (n : ℕ) (x : Parts) → HoldsParts s t x → n ≤ part_held s.holdings.parts t.token p → HoldsParts (fold after_entry s (unhold_entries t p n)) t (without p n x)
holds_less s t part.G n x has le =
    record {
      of_gateway = omega (arith, has.of_gateway, unhold_same s t part.G n (its_name t.token) le);
      of_programme = omega (arith, has.of_programme, unhold_other s t part.G part.P n refl);
      of_user = omega (arith, has.of_user, unhold_other s t part.G part.S n refl);
    }
holds_less s t part.P n x has le =
    record {
      of_gateway = omega (arith, has.of_gateway, unhold_other s t part.P part.G n refl);
      of_programme = omega (arith, has.of_programme, unhold_same s t part.P n (its_name t.token) le);
      of_user = omega (arith, has.of_user, unhold_other s t part.P part.S n refl);
    }
holds_less s t part.S n x has le =
    record {
      of_gateway = omega (arith, has.of_gateway, unhold_other s t part.S part.G n refl);
      of_programme = omega (arith, has.of_programme, unhold_other s t part.S part.P n refl);
      of_user = omega (arith, has.of_user, unhold_same s t part.S n (its_name t.token) le);
    }

part_there : (s : CoreState) (t : Txn) (p : Part) (n : ℕ) (x : Parts) → HoldsParts s t x → n ≤ amount_of p x → n ≤ part_held s.holdings.parts t.token p
part_there s t part.G n x has le = omega (arith, le, has.of_gateway)
part_there s t part.P n x has le = omega (arith, le, has.of_programme)
part_there s t part.S n x has le = omega (arith, le, has.of_user)

-- Entries take an amount from what a transaction holds, put nothing there, and leave it at least the rest, and the calls as they are.
pub record Takes (s : CoreState) (t : Txn) (es : List Entry) (rest : Parts) (moved used down : ℕ) : Type 0 where
  pub effect : Effect s es moved used 0 down
  pub holds : HoldsParts (fold after_entry s es) t rest
  pub calls : (fold after_entry s es).calls ≡ s.calls

module _ {s : CoreState} {t : Txn} (stands : Stands s t) {es : List Entry} {x : Parts} {m u d : ℕ} (before : Takes s t es x m u d) where
  then_takes : {more : List Entry} {rest : Parts} {n v e : ℕ} → Takes (fold after_entry s es) t more rest n v e → Takes s t (es ++ more) rest (m + n) (u + v) (d + e)
  then_takes {more} {rest} next =
      let same : fold after_entry s (es ++ more) ≡ fold after_entry (fold after_entry s es) more = fold-append after_entry s es more in
      record {
        effect = and_then before.effect next.effect;
        holds = subst (λ (q : CoreState). HoldsParts q t rest) (sym same) next.holds;
        calls = ap (λ (q : CoreState). q.calls) same ∙ next.calls ∙ before.calls;
      }

  then_calm : (more : List Entry) {n v : ℕ} → list_all is_calm more ≡ true → (IsOrderlyState (fold after_entry s es) → Stands (fold after_entry s es) t → Effect (fold after_entry s es) more n v 0 0)
      → Takes s t (es ++ more) x (m + n) (u + v) (d + 0)
  then_calm more calm effect =
      let q : CoreState = fold after_entry s es in
      then_takes (record {
        effect = effect before.effect.orderly (stands_then t before.effect stands);
        holds = holds_then q (fold after_entry q more) t x (all_calm_holdings q more calm) before.holds;
        calls = all_calm_calls q more calm;
      })

  then_post : (from to : Account) (n : ℕ) → Takes s t (es ++ post_entries t from to n) x (m + n) (u + 0) (d + 0)
  then_post from to n = then_calm (post_entries t from to n) (post_calm t from to n) (post_effect (fold after_entry s es) t from to n)

  then_part : (p : Part) (n : ℕ) → n ≤ amount_of p x → Takes s t (es ++ unhold_entries t p n) (without p n x) (m + n) (u + 0) (d + n)
  then_part p n le =
      let q : CoreState = fold after_entry s es in
      let there = part_there q t p n x before.holds le in
      then_takes (record {
        effect = unhold_effect q t p n before.effect.orderly (stands_then t before.effect stands) there;
        holds = holds_less q t p n x before.holds there;
        calls = unhold_calls q t p n;
      })

takes_none : (s : CoreState) (t : Txn) (x : Parts) → IsOrderlyState s → HoldsParts s t x → Takes s t [] x 0 0 0
takes_none s t x h has = record { effect = no_effect s h; holds = has; calls = refl }

-- a release takes its amount: it is let go, posted back and returned as use
pub release_effect : (s : CoreState) (t : Txn) (parts : Parts) (amount : ℕ) → IsOrderlyState s → Stands s t → HoldsParts s t parts → amount ≤ in_all parts
    → Effect s (release_entries t parts amount) (2 * amount) amount 0 amount
release_effect s t parts amount h stands has le =
    let taken = taken_to_release parts amount in
    let all = taken_all amount parts.p parts.g parts.s (omega (arith, le)) in
    let a = then_part stands (takes_none s t parts h has) part.P taken.p (omega arith) in
    let b = then_post stands a (user_account t) (account.Programme t.currency) taken.p in
    let c = then_part stands b part.G taken.g (omega arith) in
    let d = then_post stands c (user_account t) (account.Gateway t.currency) taken.g in
    let e = then_part stands d part.S taken.s (omega arith) in
    let f = then_calm stands e (use_return_entries t amount) (calm_where (nat_eq amount 0) (entry.Usage (usage_of t (neg_ℤ (pos amount)) (pos 0) t.at) ∷ []) refl) (use_return_effect _ t amount) in
    comes_to (2 * amount) amount 0 amount f.effect (omega (arith, all)) (omega (arith, all)) (omega (arith, all))
  where
    taken_all : (a p g s : ℕ) → a ≤ p + g + s → min a p + min (a - min a p) g + min (a - min a p - min (a - min a p) g) s ≡ a
    taken_all a p g s le = omega (arith, le)

-- a clearing takes what is there, moves at most twice its amount with what it takes, and uses the rest of it
pub clearing_takes : (s : CoreState) (t : Txn) (parts : Parts) (amount at : ℕ) → IsOrderlyState s → Stands s t → HoldsParts s t parts
    → Takes s t (clearing_money_entries t (taken_to_clear parts amount) amount at) (left_of parts (taken_to_clear parts amount))
    (in_all (taken_to_clear parts amount) + (amount - in_all (taken_to_clear parts amount)) + amount) (amount - in_all (taken_to_clear parts amount)) (in_all (taken_to_clear parts amount))
clearing_takes s t parts amount at h stands has =
    let taken = taken_to_clear parts amount in
    let excess = amount - in_all taken in
    let paid : List Entry = post_entries t (account.Programme t.currency) (user_account t) excess in
    let used : List Entry = entry.Usage (usage_of t (pos excess) (pos 0) at) ∷ [] in
    let a = then_part stands (takes_none s t parts h has) part.G taken.g (omega arith) in
    let b = then_part stands a part.P taken.p (omega arith) in
    let c = then_part stands b part.S taken.s (omega arith) in
    let d = then_calm stands c (only_gateway t paid) (calm_where (is_account_funded t.funding) paid (post_calm t (account.Programme t.currency) (user_account t) excess))
    (λ orderly its. only_gateway_effect t orderly (post_effect _ t (account.Programme t.currency) (user_account t) excess orderly its)) in
    let e = then_post stands d (user_account t) (account.Network t.currency) amount in
    let f = then_calm stands e (only_where excess used) (calm_where (nat_eq excess 0) used refl)
    (λ orderly its. only_where_effect excess orderly (λ none. omega arith) (comes_to 0 excess 0 0 (usage_effect _ t (pos excess) (pos 0) at orderly its) (omega arith) (omega arith) (omega arith))) in
    record { effect = comes_to _ _ 0 _ f.effect (omega arith) (omega arith) (omega arith); holds = f.holds; calls = f.calls }
