-- The entries of each call fit the chain that they are made of.
use Rattle.std.proofs.Common.{◌≡◌, ℕ, ◌-◌, ◌≤◌, min, ◌==◌, Bool, true, false, cond, ◌&&◌, ◌||◌, List, [], ◌∷◌, ◌++◌, refl, ap, ◌∙◌, arith}
use Rattle.std.specs.Prelude.{Option, Some, None}
use Rattle.std.specs.Option.{option_map}
use Rattle.iss_model.specs.declared.account.Account.TheVariants as account
use Rattle.iss_model.specs.declared.account.Part.{Part}
use Rattle.iss_model.specs.declared.account.Part.TheVariants as part
use Rattle.iss_model.specs.declared.currency.Currency.{Currency}
use Rattle.iss_model.specs.declared.txn.Txn.{Txn}
use Rattle.iss_model.specs.declared.entry.Entry.{Entry}
use Rattle.iss_model.specs.declared.entry.Entry.TheVariants as entry
use Rattle.iss_model.specs.Sums.{part_key}
use Rattle.iss_model.specs.state.Kept.{kept_at}
use Rattle.iss_model.specs.rules.Activity.{TxnNow, txn_named}
use Rattle.iss_model.specs.rules.Facts.{not_below}
use Rattle.iss_model.specs.rules.Pieces.{post_entries, hold_entries, user_account, Parts, parts_held, in_all, left_of, taken_to_clear, release_entries, clearing_money_entries, owed_to_programme}
use Rattle.iss_chain.specs.Values.{ChainNow, chain_facts}
use Rattle.iss_chain.specs.Calls.{load_money_entries, fund_money_entries, reversal_money_entries, end_money_entries, clearing_end_entries, refund_money_entries, entries_for, entries_of_fund, entries_of_reverse, entries_of_end, entries_of_clear, entries_of_refund}
use Rattle.iss_chain.specs.Entering.{AreFit, IsTxn}
use Rattle.iss_chain.proofs.Standing.{found_token}
use Rattle.iss_chain.proofs.FitPieces.{after, held_of, Has, then, fit_append, is_known, post_leaves, hold_fit, release_leaves, gateway_leaves, clearing_leaves}

-- a transaction has the parts that it holds
has_its_parts : (c : ChainNow) (name : List ℕ) (now : TxnNow) → txn_named name c.holdings.txns ≡ Some now → Has c now.txn (parts_held (chain_facts c) now.txn)
has_its_parts c name now named =
    record {
      known =
          ap (λ (n : List ℕ). option_map (λ (x : TxnNow). x.txn) (txn_named n c.holdings.txns)) (found_token name c.holdings.txns now named)
          ∙ ap (λ (o : Option TxnNow). option_map (λ (x : TxnNow). x.txn) o) named;
      holds = its_own;
    }
  where
    its_own : (p : Part) → held_of p (parts_held (chain_facts c) now.txn) ≤ not_below (kept_at c.holdings.parts (part_key now.txn.token p))
    its_own part.G = omega arith
    its_own part.P = omega arith
    its_own part.S = omega arith

-- entries that are made of a known transaction fit if they do for what it holds
for_known : (c : ChainNow) (name : List ℕ) (make : TxnNow → Parts → List Entry)
    → ((now : TxnNow) → Has c now.txn (parts_held (chain_facts c) now.txn) → AreFit c (make now (parts_held (chain_facts c) now.txn)))
    → AreFit c (entries_for c (txn_named name c.holdings.txns) make)
for_known c name make fits = by (txn_named name c.holdings.txns) refl
  where
    by : (o : Option TxnNow) → txn_named name c.holdings.txns ≡ o → AreFit c (entries_for c o make)
    by None e = tt
    by (Some now) e = fits now (has_its_parts c name now e)

pub load_fit : (c : ChainNow) (user : List ℕ) (currency : Currency) (amount : ℕ) → AreFit c (load_money_entries user currency amount)
load_fit c user currency amount = by (amount == 0)
  where
    by : (b : Bool) → AreFit c (cond b [] (entry.Post (account.Programme currency) (account.User user currency) amount None ∷ []))
    by true = tt
    by false = (tt, tt)

funded : (c : ChainNow) (t : Txn) (parts : Parts) (p : Part) (amount : ℕ) → Has c t parts → AreFit c (fund_money_entries t p amount)
funded c t parts part.G amount has =
    let paid = post_leaves (account.Gateway t.currency) (user_account t) amount has in
    fit_append c (post_entries t (account.Gateway t.currency) (user_account t) amount) (hold_entries t part.G amount) paid.fit
    (hold_fit (after c (post_entries t (account.Gateway t.currency) (user_account t) amount)) t part.G amount paid.has.known)
funded c t parts part.P amount has =
    let paid = post_leaves (account.Programme t.currency) (user_account t) amount has in
    fit_append c (post_entries t (account.Programme t.currency) (user_account t) amount) (hold_entries t part.P amount) paid.fit
    (hold_fit (after c (post_entries t (account.Programme t.currency) (user_account t) amount)) t part.P amount paid.has.known)
funded c t parts part.S amount has = hold_fit c t part.S amount has.known

pub fund_fit : (c : ChainNow) (txn : List ℕ) (p : Part) (amount : ℕ) → AreFit c (entries_of_fund c txn p amount)
fund_fit c txn p amount =
    for_known c txn (λ now parts. fund_money_entries now.txn p amount) (λ now has. funded c now.txn (parts_held (chain_facts c) now.txn) p amount has)

ended_where : (c : ChainNow) (t : Txn) (b : Bool) → IsTxn c.holdings t → AreFit c (cond b (entry.Ended t.token ∷ []) [])
ended_where c t true known = (is_known c t known, tt)
ended_where c t false known = tt

reversed : (c : ChainNow) (t : Txn) (parts : Parts) (amount : ℕ) → Has c t parts → AreFit c (reversal_money_entries t parts amount)
reversed c t parts amount has =
    let freed = min amount (in_all parts) in
    let gone = release_leaves parts freed has in
    fit_append c (release_entries t parts freed) (cond (freed == in_all parts) (entry.Ended t.token ∷ []) []) gone.fit
    (ended_where (after c (release_entries t parts freed)) t (freed == in_all parts) gone.has.known)

pub reverse_fit : (c : ChainNow) (txn : List ℕ) (amount : ℕ) → AreFit c (entries_of_reverse c txn amount)
reverse_fit c txn amount =
    for_known c txn (λ now parts. reversal_money_entries now.txn parts amount) (λ now has. reversed c now.txn (parts_held (chain_facts c) now.txn) amount has)

all_gone : (c : ChainNow) (t : Txn) (parts : Parts) → Has c t parts → AreFit c (end_money_entries t parts)
all_gone c t parts has =
    let gone = release_leaves parts (in_all parts) has in
    fit_append c (release_entries t parts (in_all parts)) (entry.Ended t.token ∷ []) gone.fit (is_known (after c (release_entries t parts (in_all parts))) t gone.has.known, tt)

pub end_fit : (c : ChainNow) (txn : List ℕ) → AreFit c (entries_of_end c txn)
end_fit c txn = for_known c txn (λ now parts. end_money_entries now.txn parts) (λ now has. all_gone c now.txn (parts_held (chain_facts c) now.txn) has)

all_gone_where : (c : ChainNow) (t : Txn) (parts : Parts) (b : Bool) → Has c t parts → AreFit c (cond b (end_money_entries t parts) [])
all_gone_where c t parts true has = all_gone c t parts has
all_gone_where c t parts false has = tt

cleared : (c : ChainNow) (now : TxnNow) (parts : Parts) (amount at : ℕ) (last : Bool) → Has c now.txn parts
    → AreFit c (clearing_money_entries now.txn (taken_to_clear parts amount) amount at ++ clearing_end_entries now parts amount last)
cleared c now parts amount at last has =
    let paid = clearing_leaves parts amount at has in
    let rest = left_of parts (taken_to_clear parts amount) in
    fit_append c (clearing_money_entries now.txn (taken_to_clear parts amount) amount at) (clearing_end_entries now parts amount last) paid.fit
    (all_gone_where (after c (clearing_money_entries now.txn (taken_to_clear parts amount) amount at)) now.txn rest (now.live && (last || in_all rest == 0)) paid.has)

pub clear_fit : (c : ChainNow) (txn : List ℕ) (amount : ℕ) (last : Bool) (at : ℕ) → AreFit c (entries_of_clear c txn amount last at)
clear_fit c txn amount last at =
    for_known c txn (λ now parts. clearing_money_entries now.txn (taken_to_clear parts amount) amount at ++ clearing_end_entries now parts amount last)
    (λ now has. cleared c now (parts_held (chain_facts c) now.txn) amount at last has)

refunded : (c : ChainNow) (t : Txn) (parts : Parts) (owed amount : ℕ) → Has c t parts → AreFit c (refund_money_entries t owed amount)
refunded c t parts owed amount has =
    let programme = min amount owed in
    let back = post_leaves (account.Network t.currency) (user_account t) amount has in
    let given = then (post_leaves (user_account t) (account.Programme t.currency) programme back.has) (post_leaves (user_account t) (account.Gateway t.currency) (amount - programme) (post_leaves (user_account t) (account.Programme t.currency) programme back.has).has) in
    (then back (gateway_leaves (post_entries t (user_account t) (account.Programme t.currency) programme ++ post_entries t (user_account t) (account.Gateway t.currency) (amount - programme)) back.has given)).fit

pub refund_fit : (c : ChainNow) (txn : List ℕ) (amount : ℕ) → AreFit c (entries_of_refund c txn amount)
refund_fit c txn amount =
    for_known c txn (λ now parts. refund_money_entries now.txn (owed_to_programme (chain_facts c) now.txn) amount)
    (λ now has. refunded c now.txn (parts_held (chain_facts c) now.txn) (owed_to_programme (chain_facts c) now.txn) amount has)
