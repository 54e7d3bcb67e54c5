-- What entries add to what transactions hold and calls ask, and what they take from it.
use Rattle.std.proofs.Common.{◌≡◌, ◌∙◌, ◌++◌, ◌∷◌, ◌+◌, ◌*◌, ◌≤◌, ℕ, ap, ap₂, arith, Bool, false, fold, List, [], refl, true}
use Rattle.std.specs.List.{list_all}
use Rattle.std.proofs.lemmas.Bool.{and_parts}
use Rattle.std.proofs.lemmas.List.Sums.{fold-append}
use Rattle.iss_model.specs.declared.account.Account.{Account}
use Rattle.iss_model.specs.declared.account.Part.{Part}
use Rattle.iss_model.specs.declared.call.How.{How}
use Rattle.iss_model.specs.declared.call.How.TheVariants as how
use Rattle.iss_model.specs.declared.call.Opened.{Opened}
use Rattle.iss_model.specs.declared.entry.Entry.{Entry}
use Rattle.iss_model.specs.declared.entry.Entry.TheVariants as entry
use Rattle.iss_model.specs.declared.txn.Txn.{Txn}
use Rattle.iss_model.specs.rules.Activity.{CallNow}
use Rattle.iss_model.specs.rules.Acts.{Act, act_entries}
use Rattle.iss_model.specs.rules.Pieces.{hold_entries, post_entries, user_account}
use Rattle.iss_model.specs.state.Cores.{CoreState, Holdings, after_entry, core_facts}
use Rattle.iss_acts.specs.Items.{Beginning, Closing, Freeing, Holding, Item, Opening, has_item, item_entry, may_begin, may_close, may_free, may_hold, may_open_call}
use Rattle.iss_acts.specs.Sources.{IsAskedCall}
use Rattle.iss_acts.proofs.Passing.{EachPasses, act_passes, hold_passes, one_passes, where_passes}
use Rattle.iss_acts.proofs.Walk.{of_asked}
use Rattle.iss_state.specs.Effects.{Effect}
use Rattle.iss_state.specs.Needs.{Stands}
use Rattle.iss_state.specs.Stakes.{IsOrderlyState, at_least_one, total_asked, total_held, txn_tokens}
use Rattle.iss_state.proofs.docket.Closing.{by_itself}
use Rattle.iss_state.proofs.docket.Lists.{not_both}
use Rattle.iss_state.proofs.effects.Effects.{all_calm_holdings, close_effect, setting_calls, stands_then}
use Rattle.iss_state.proofs.effects.PieceEffects.{hold_effect, post_effect}
use Rattle.iss_state.proofs.effects.TransactionsHeld.{tokens_after_end}

-- what a core's transactions hold, and what its asked calls ask
abbrev pub weight : CoreState → ℕ
weight s = total_held (txn_tokens s.holdings.txns) s.holdings.parts + total_asked s.calls

-- entries take so much of it, and add so much
pub record Weighs (s : CoreState) (es : List Entry) (down up : ℕ) : Type 0 where
  pub moves : weight (fold after_entry s es) + down ≤ weight s + up

pub weigh_then : {s : CoreState} {xs ys : List Entry} {a b c d : ℕ} → Weighs s xs a b → Weighs (fold after_entry s xs) ys c d → Weighs s (xs ++ ys) (a + c) (b + d)
weigh_then {s} {xs} {ys} h k = record { moves = omega (arith, h.moves, k.moves, ap weight (fold-append after_entry s xs ys)) }

pub weigh_as : {s : CoreState} {es : List Entry} {a b : ℕ} (c d : ℕ) → Weighs s es a b → c ≤ a → b ≤ d → Weighs s es c d
weigh_as c d h less more = record { moves = omega (arith, h.moves, less, more) }

-- what leaves calls, or holdings, as they are
pub by_holdings : {s : CoreState} {es : List Entry} {m u i d : ℕ} → Effect s es m u i d → (fold after_entry s es).calls ≡ s.calls → Weighs s es d i
by_holdings h same = record { moves = omega (arith, h.stake, ap total_asked same) }

pub by_calls : {s : CoreState} {es : List Entry} {m u i d : ℕ} (a b : ℕ) → Effect s es m u i d → i ≤ 2 * a → 2 * b ≤ d → (fold after_entry s es).holdings ≡ s.holdings → Weighs s es b a
by_calls a b h less more same = record { moves = omega (arith, h.stake, less, more, ap (λ (k : Holdings). total_held (txn_tokens k.txns) k.parts) same) }

-- entries that neither add nor take ----

abbrev pub is_light : Entry → Bool
is_light (entry.Began t) = false
is_light (entry.Opened o) = false
is_light (entry.Closed call how) = false
is_light (entry.Hold txn user currency p amount) = false
is_light _ = true

light_entry : (s : CoreState) (e : Entry) → is_light e ≡ true → weight (after_entry s e) ≡ weight s
light_entry s (entry.Conf i) h =
    ap₂ (λ (k : Holdings) (xs : List CallNow). total_held (txn_tokens k.txns) k.parts + total_asked xs) (all_calm_holdings s (entry.Conf i ∷ []) refl) (setting_calls s i)
light_entry s (entry.Ended txn) h = ap (λ (ts : List (List ℕ)). total_held ts s.holdings.parts + total_asked s.calls) (tokens_after_end txn s.holdings.txns)
light_entry s (entry.Began t) h = cc
light_entry s (entry.Opened o) h = cc
light_entry s (entry.Closed call how) h = cc
light_entry s (entry.Hold txn user currency p amount) h = cc
light_entry s _ h = refl

light_list : (s : CoreState) (es : List Entry) → list_all is_light es ≡ true → weight (fold after_entry s es) ≡ weight s
light_list s [] h = refl
light_list s (e ∷ es) h = let both = and_parts (is_light e) (list_all is_light es) h in light_list (after_entry s e) es both.1 ∙ light_entry s e both.0

pub light_weighs : (s : CoreState) (es : List Entry) → EachPasses is_light es → Weighs s es 0 0
light_weighs s es h = record { moves = omega (arith, light_list s es h.all) }

light_item : (a : Act) → may_begin a ≡ false → may_open_call a ≡ false → ((w : How) → may_close a w ≡ false) → may_hold a ≡ false → may_free a ≡ false → (x : Item) → has_item a x ≡ true → is_light (item_entry x) ≡ true
light_item a begins opens closes holds frees (Beginning t) has = not_both (may_begin a) has begins
light_item a begins opens closes holds frees (Opening o) has = not_both (may_open_call a) has opens
light_item a begins opens closes holds frees (Closing call w) has = not_both (may_close a w) has (closes w)
light_item a begins opens closes holds frees (Holding t p n) has = not_both (may_hold a) has holds
light_item a begins opens closes holds frees (Freeing t p n) has = not_both (may_free a) has frees
light_item a begins opens closes holds frees _ has = refl

pub light_act : (s : CoreState) (a : Act) → may_begin a ≡ false → may_open_call a ≡ false → ((w : How) → may_close a w ≡ false) → may_hold a ≡ false → may_free a ≡ false → Weighs s (act_entries a) 0 0
light_act s a begins opens closes holds frees = light_weighs s (act_entries a) (act_passes a (light_item a begins opens closes holds frees))

-- entries that open and close no call ----

abbrev pub keeps_calls : Entry → Bool
keeps_calls (entry.Opened o) = false
keeps_calls (entry.Closed call how) = false
keeps_calls _ = true

calls_entry : (s : CoreState) (e : Entry) → keeps_calls e ≡ true → (after_entry s e).calls ≡ s.calls
calls_entry s (entry.Conf i) h = setting_calls s i
calls_entry s (entry.Opened o) h = cc
calls_entry s (entry.Closed call how) h = cc
calls_entry s _ h = refl

calls_list : (s : CoreState) (es : List Entry) → list_all keeps_calls es ≡ true → (fold after_entry s es).calls ≡ s.calls
calls_list s [] h = refl
calls_list s (e ∷ es) h = let both = and_parts (keeps_calls e) (list_all keeps_calls es) h in calls_list (after_entry s e) es both.1 ∙ calls_entry s e both.0

pub calls_kept : (s : CoreState) (es : List Entry) → EachPasses keeps_calls es → (fold after_entry s es).calls ≡ s.calls
calls_kept s es h = calls_list s es h.all

calls_item : (a : Act) → may_open_call a ≡ false → ((w : How) → may_close a w ≡ false) → (x : Item) → has_item a x ≡ true → keeps_calls (item_entry x) ≡ true
calls_item a opens closes (Opening o) has = not_both (may_open_call a) has opens
calls_item a opens closes (Closing call w) has = not_both (may_close a w) has (closes w)
calls_item a opens closes _ has = refl

pub calls_act : (s : CoreState) (a : Act) → may_open_call a ≡ false → ((w : How) → may_close a w ≡ false) → (fold after_entry s (act_entries a)).calls ≡ s.calls
calls_act s a opens closes = calls_kept s (act_entries a) (act_passes a (calls_item a opens closes))

-- pieces ----

-- a transaction holds more
pub hold_weighs : (q : CoreState) (t : Txn) (p : Part) (n : ℕ) → IsOrderlyState q → Stands q t → Weighs q (hold_entries t p n) 0 n
hold_weighs q t p n orderly stands = by_holdings (hold_effect q t p n orderly stands) (calls_kept q (hold_entries t p n) (hold_passes t p n refl))

-- money comes and is held
pub paid_weighs : (q : CoreState) (t : Txn) (from : Account) (p : Part) (n : ℕ) → IsOrderlyState q → Stands q t → Weighs q (post_entries t from (user_account t) n ++ hold_entries t p n) 0 n
paid_weighs q t from p n orderly stands =
    let post : List Entry = post_entries t from (user_account t) n in
    let e1 = post_effect q t from (user_account t) n orderly stands in
    weigh_as 0 n
    (weigh_then (light_weighs q post (where_passes n (one_passes refl))) (hold_weighs (fold after_entry q post) t p n e1.orderly (stands_then t e1 stands))) (omega arith) (omega arith)

-- an asked call is closed
pub closing_effect : (s : CoreState) (o : Opened) (t : Txn) (w : How) → IsOrderlyState s → IsAskedCall (core_facts s) o t → Effect s (entry.Closed o.call w ∷ []) 0 0 0 (2 * at_least_one o.amount)
closing_effect s o t w h asked =
    of_asked (λ o t. Effect s (entry.Closed o.call w ∷ []) 0 0 0 (2 * at_least_one o.amount)) asked
    (close_effect s asked.its.opened.call w asked.its h (by_itself s.calls asked.number asked.its (record { stands = asked.stands; asked = asked.asked })).stands asked.asked)

pub closing_weighs : (s : CoreState) (o : Opened) (t : Txn) (w : How) → IsOrderlyState s → IsAskedCall (core_facts s) o t → Weighs s (entry.Closed o.call w ∷ []) (at_least_one o.amount) 0
closing_weighs s o t w h asked = by_calls 0 (at_least_one o.amount) (closing_effect s o t w h asked) (omega arith) (omega arith) refl

-- what an asked call asks is part of it
pub asked_within : (s : CoreState) (o : Opened) (t : Txn) → IsOrderlyState s → IsAskedCall (core_facts s) o t → at_least_one o.amount ≤ weight s
asked_within s o t h asked = omega (arith, (closing_weighs s o t how.Refused h asked).moves)
