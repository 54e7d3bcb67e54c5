-- Ends of transactions and asks are paid by what was at stake.
use Rattle.std.specs.Prelude.{None}
use Rattle.std.proofs.Common.{Bool, List, [], arith, cond, false, fold, nat_abs, neg_ℤ, pos, refl, true, ℕ, ◌*◌, ◌++◌, ◌-◌, ◌∷◌, ◌≡◌, ◌≤◌}
use Rattle.iss_model.specs.declared.account.Account.{Account}
use Rattle.iss_model.specs.declared.account.Account.TheVariants as account
use Rattle.iss_model.specs.declared.account.Part.{Part}
use Rattle.iss_model.specs.declared.account.Part.TheVariants as part
use Rattle.iss_model.specs.declared.call.Method.TheVariants as method
use Rattle.iss_model.specs.declared.call.Opened.{Opened}
use Rattle.iss_model.specs.declared.decision.Reason.{Reason}
use Rattle.iss_model.specs.declared.decision.Verdict.TheVariants as verdict
use Rattle.iss_model.specs.declared.entry.Entry.{Entry}
use Rattle.iss_model.specs.declared.entry.Entry.TheVariants as entry
use Rattle.iss_model.specs.declared.setting.Set.{Set}
use Rattle.iss_model.specs.declared.txn.Txn.{Txn}
use Rattle.iss_model.specs.rules.Asks.{Ask, ask_count, ask_given_back, rest_given_back}
use Rattle.iss_model.specs.rules.Facts.{Facts, asked_calls_of}
use Rattle.iss_model.specs.rules.Pieces.{Parts, abandoned_calls_entries, declined_ask_entries, funded_ask_entries, hold_entries, in_all, notice_entry, part_funded_entries, post_entries, release_entries, set_stand_in_entries, user_account}
use Rattle.iss_model.specs.rules.Acts.{entries_of_acts}
use Rattle.iss_model.specs.rules.CardActs.{end_acts}
use Rattle.iss_model.specs.state.Cores.{CoreState, after_entry}
use Rattle.iss_state.specs.Effects.{Effect, HoldsParts, Paid}
use Rattle.iss_state.specs.Needs.{Stands}
use Rattle.iss_state.specs.Stakes.{IsOrderlyState, at_least_one}
use Rattle.iss_state.proofs.effects.Abandonment.{abandonment_effect, abandonment_holdings, given_back_size}
use Rattle.iss_state.proofs.effects.Effects.{and_then, calm_effect, down_size, end_effect, no_effect, stands_then, still_effect}
use Rattle.iss_state.proofs.effects.Paid.{costs}
use Rattle.iss_state.proofs.effects.PieceEffects.{hold_effect, post_effect, usage_effect, usage_fits}
use Rattle.iss_state.proofs.effects.Taking.{holds_then, release_effect}

-- ---- the end of a transaction

-- an end is paid from what its transaction holds and its calls ask
pub end_paid : (s : CoreState) (number : ℕ) (f : Facts) (t : Txn) (parts : Parts) (why : Reason) → IsOrderlyState s → Stands s t → HoldsParts s t parts → s.calls ≡ f.calls → Paid 0 0 s (entries_of_acts (end_acts number f t parts why))
end_paid s number f t parts why h stands has same =
    let xs = abandoned_calls_entries number t why (asked_calls_of f t.token) in
    let ys = release_entries t parts (in_all parts) in
    let s1 = fold after_entry s xs in
    let e1 = abandonment_effect s number f t why h stands same in
    let e2 = release_effect s1 t parts (in_all parts) e1.orderly (stands_then t e1 stands) (holds_then s s1 t parts (abandonment_holdings s number t why (asked_calls_of f t.token)) has) (omega arith) in
    let e3 = end_effect (fold after_entry s1 ys) t e2.orderly (stands_then t e2 (stands_then t e1 stands)) in
    costs 0 0 (and_then e1 (and_then e2 e3)) (omega arith) (omega arith)

-- ---- asks

-- a transaction ends if a test holds
end_where : (s : CoreState) (b : Bool) (t : Txn) → IsOrderlyState s → Stands s t → Effect s (cond b (entry.Ended t.token ∷ []) []) 0 0 0 0
end_where s true t h stands = end_effect s t h stands
end_where s false t h stands = no_effect s h

-- a declined ask is paid by twice what was asked, in use
pub declined_ask_paid : (s : CoreState) (ask : Ask) (why : Reason) → IsOrderlyState s → Stands s ask.txn → Paid 0 (2 * at_least_one ask.amount) s (declined_ask_entries ask why)
declined_ask_paid s ask why h stands =
    let xs : List Entry = entry.Usage (ask_given_back ask) ∷ [] in
    let ys : List Entry = cond ask.is_first (entry.Ended ask.txn.token ∷ []) [] in
    let e1 = calm_effect s xs h (usage_fits s ask.txn (neg_ℤ (pos ask.amount)) (neg_ℤ (ask_count ask)) ask.at stands, tt) refl in
    let e2 = end_where (fold after_entry s xs) ask.is_first ask.txn e1.orderly (stands_then ask.txn e1 stands) in
    let e3 = still_effect (fold after_entry (fold after_entry s xs) ys) (entry.Decided ask.event (verdict.Declined why) ∷ []) e2.orderly refl in
    costs 0 (2 * at_least_one ask.amount) (and_then e1 (and_then e2 e3)) (omega arith) (omega (arith, given_back_size ask))

-- a funded ask is paid by four times its amount in money, and once in use
pub funded_ask_paid : (s : CoreState) (ask : Ask) (from : Account) (p : Part) → IsOrderlyState s → Stands s ask.txn → Paid (4 * ask.amount) ask.amount s (funded_ask_entries ask from p)
funded_ask_paid s ask from p h stands =
    let xs = post_entries ask.txn from (user_account ask.txn) ask.amount in
    let ys = hold_entries ask.txn p ask.amount in
    let e1 = post_effect s ask.txn from (user_account ask.txn) ask.amount h stands in
    let e2 = and_then e1 (hold_effect (fold after_entry s xs) ask.txn p ask.amount e1.orderly (stands_then ask.txn e1 stands)) in
    costs (4 * ask.amount) ask.amount (and_then e2 (still_effect (fold after_entry s (xs ++ ys)) (entry.Decided ask.event verdict.Approved ∷ []) e2.orderly refl)) (omega arith) (omega arith)

-- A part of a call's amount is paid by four times the part in money. In use it is paid by the part and the rest, which comes back.
pub part_funded_paid : (s : CoreState) (o : Opened) (t : Txn) (amount : ℕ) → IsOrderlyState s → Stands s t → amount ≤ o.amount → Paid (4 * amount) o.amount s (part_funded_entries o t amount)
part_funded_paid s o t amount h stands le =
    let zs : List Entry = entry.Usage (rest_given_back o t amount) ∷ [] in
    let xs = post_entries t (account.Gateway t.currency) (user_account t) amount in
    let ys = hold_entries t part.G amount in
    let e0 = usage_effect s t (neg_ℤ (pos (o.amount - amount))) (pos 0) o.at h stands in
    let e1 = and_then e0 (post_effect (fold after_entry s zs) t (account.Gateway t.currency) (user_account t) amount e0.orderly (stands_then t e0 stands)) in
    let e2 = and_then e1 (hold_effect (fold after_entry s (zs ++ xs)) t part.G amount e1.orderly (stands_then t e1 stands)) in
    costs (4 * amount) o.amount
    (and_then e2 (still_effect (fold after_entry s (zs ++ xs ++ ys)) (entry.Decided o.event (verdict.Partial t.currency amount) ∷ []) e2.orderly refl)) (omega arith)
    (omega (arith, le, down_size (o.amount - amount)))

-- a set that stands in pays alike, and its sum of the day once more
pub set_stand_in_paid : (s : CoreState) (number : ℕ) (ask : Ask) (at : ℕ) (set : Set) → IsOrderlyState s → Stands s ask.txn → Paid (4 * ask.amount) (2 * ask.amount) s (set_stand_in_entries number ask at set)
set_stand_in_paid s number ask at set h stands =
    let zs : List Entry = entry.Stood set.name ask.txn.product ask.txn.user ask.amount at ∷ [] in
    let xs = post_entries ask.txn (account.Programme ask.txn.currency) (user_account ask.txn) ask.amount in
    let ys = hold_entries ask.txn part.P ask.amount in
    let e0 = calm_effect s zs h (tt, tt) refl in
    let e1 = and_then e0 (post_effect (fold after_entry s zs) ask.txn (account.Programme ask.txn.currency) (user_account ask.txn) ask.amount e0.orderly (stands_then ask.txn e0 stands)) in
    let e2 = and_then e1 (hold_effect (fold after_entry s (zs ++ xs)) ask.txn part.P ask.amount e1.orderly (stands_then ask.txn e1 stands)) in
    costs (4 * ask.amount) (2 * ask.amount)
    (and_then e2 (still_effect (fold after_entry s (zs ++ xs ++ ys)) (notice_entry number method.StandIn ask.txn None ask.amount 0 ∷ entry.Decided ask.event verdict.Approved ∷ []) e2.orderly refl)) (omega arith) (omega arith)

pub at_most_one : (b : Bool) → nat_abs (cond b (pos 1) (pos 0)) ≤ 1
at_most_one true = omega arith
at_most_one false = omega arith
