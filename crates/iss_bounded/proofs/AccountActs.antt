-- An act posts to or from the account of one user at most, and what it brings pays for that account.
use Rattle.std.proofs.Common.{◌≡◌, ◌∙◌, ◌+◌, ◌+ℤ◌, ◌-◌, ◌∷◌, ◌&&◌, ◌≤◌, ℕ, ℤ, pos, neg_ℤ, ap, ap₂, arith, Bool, false, List, [], not, refl, true}
use Rattle.std.specs.Prelude.{◌≤ℤ◌, Option, Some, None}
use Rattle.std.specs.List.{list_all}
use Rattle.std.specs.Str.{bytes_eq}
use Rattle.std.proofs.lemmas.Bool.{and_parts}
use Rattle.std.proofs.lemmas.Int.{ints}
use Rattle.iss_model.specs.declared.account.Account.{Account}
use Rattle.iss_model.specs.declared.account.Account.TheVariants as account
use Rattle.iss_model.specs.declared.account.Part.{Part}
use Rattle.iss_model.specs.declared.account.Part.TheVariants as part
use Rattle.iss_model.specs.declared.call.CallId.{CallId}
use Rattle.iss_model.specs.declared.call.How.{How}
use Rattle.iss_model.specs.declared.call.How.TheVariants as how
use Rattle.iss_model.specs.declared.decision.Reason.TheVariants as reason
use Rattle.iss_model.specs.declared.entry.Entry.{Entry}
use Rattle.iss_model.specs.declared.entry.Entry.TheVariants as entry
use Rattle.iss_model.specs.declared.txn.Txn.{Txn}
use Rattle.iss_model.specs.Sums.{account_key, balance_changes}
use Rattle.iss_model.specs.rules.Acts.{Act, Asks, Begins, Clears, Ends, Fails, Funds, FundsPart, GivesBack, LetsGo, Loads, Refuses, StandsIn, act_entries}
use Rattle.iss_model.specs.rules.Asks.{call_ask}
use Rattle.iss_model.specs.rules.Pieces.{Parts, declined_ask_entries, funded_ask_entries, hold_entries, in_all, part_funded_entries, post_entries, taken_to_clear, taken_to_release, unhold_entries, user_account, void_entry}
use Rattle.iss_model.proofs.Names.{its_name}
use Rattle.iss_acts.specs.Items.{Beginning, FromGateway, FromNetwork, FromProgramme, Item, Loading, Opening, Paying, Payment, ToGateway, ToNetwork, ToProgramme, has_item, item_entry, may_begin, may_load, may_open_call, may_pay, payee, payer}
use Rattle.iss_acts.proofs.Passing.{EachPasses, act_passes, both_pass, gateway_passes, one_passes, two_pass, where_passes}
use Rattle.iss_state.proofs.docket.Lists.{not_both}
use Rattle.iss_bounded.specs.Many.{is_of_user}
use Rattle.iss_bounded.proofs.CounterRows.{adds, lets_off}
use Rattle.iss_bounded.proofs.NumberLoads.{load_brought}
use Rattle.iss_bounded.proofs.Prices.{total_price}
use Rattle.iss_bounded.proofs.UserKeys.{is_user_key, passes_else, user_key_is}

-- the account of the user whom an act posts to or from, if it posts
abbrev pub user_posted : Act → Option Account
user_posted (Loads event user currency amount) = Some (account.User user currency)
user_posted (Funds o t) = Some (user_account t)
user_posted (FundsPart o t amount) = Some (user_account t)
user_posted (StandsIn number ask at set) = Some (user_account ask.txn)
user_posted (LetsGo t parts amount) = Some (user_account t)
user_posted (Clears t parts amount at) = Some (user_account t)
user_posted (GivesBack t amount programme) = Some (user_account t)
user_posted _ = None

-- a key is that of a user's account, other than this one
abbrev pub is_other_user : Option Account → List ℕ → Bool
is_other_user None = is_user_key
is_other_user (Some a) = passes_else is_user_key (account_key a)

-- an entry changes no balance whose key passes
abbrev pub leaves_keys : (List ℕ → Bool) → Entry → Bool
leaves_keys p e = list_all (λ c. not (p c.key)) (balance_changes e)

-- posts ----

own_passes : (a : Account) → passes_else is_user_key (account_key a) (account_key a) ≡ false
own_passes a = by (is_user_key (account_key a)) (bytes_eq (account_key a) (account_key a)) (its_name (account_key a))
  where
    by : (a b : Bool) → b ≡ true → (a && not b) ≡ false
    by true true e = refl
    by false true e = refl
    by a false e = cc

no_user : (name : List ℕ) (a : Account) → is_of_user a ≡ false → passes_else is_user_key name (account_key a) ≡ false
no_user name a h = ap (λ (b : Bool). b && not (bytes_eq name (account_key a))) (user_key_is a ∙ h)

-- a post between this user and another kind of account
paid_to : (a from : Account) (amount : ℕ) (txn : Option (List ℕ)) → is_of_user from ≡ false → leaves_keys (is_other_user (Some a)) (entry.Post from a amount txn) ≡ true
paid_to a from amount txn h = ap₂ (λ (a b : Bool). not a && (not b && true)) (own_passes a) (no_user (account_key a) from h)

paid_from : (a to : Account) (amount : ℕ) (txn : Option (List ℕ)) → is_of_user to ≡ false → leaves_keys (is_other_user (Some a)) (entry.Post a to amount txn) ≡ true
paid_from a to amount txn h = ap₂ (λ (a b : Bool). not a && (not b && true)) (no_user (account_key a) to h) (own_passes a)

pays_own : (k : Payment) (t : Txn) (n : ℕ) → leaves_keys (is_other_user (Some (user_account t))) (item_entry (Paying k t n)) ≡ true
pays_own FromProgramme t n = paid_to (user_account t) (account.Programme t.currency) n (Some t.token) refl
pays_own FromGateway t n = paid_to (user_account t) (account.Gateway t.currency) n (Some t.token) refl
pays_own FromNetwork t n = paid_to (user_account t) (account.Network t.currency) n (Some t.token) refl
pays_own ToProgramme t n = paid_from (user_account t) (account.Programme t.currency) n (Some t.token) refl
pays_own ToGateway t n = paid_from (user_account t) (account.Gateway t.currency) n (Some t.token) refl
pays_own ToNetwork t n = paid_from (user_account t) (account.Network t.currency) n (Some t.token) refl

-- acts ----

module _ (t : Txn) where
  paid : (k : Payment) (n : ℕ) → EachPasses (leaves_keys (is_other_user (Some (user_account t)))) (post_entries t (payer k t) (payee k t) n)
  paid k n = where_passes n (one_passes (pays_own k t n))

  held : (x : Part) (n : ℕ) → EachPasses (leaves_keys (is_other_user (Some (user_account t)))) (hold_entries t x n)
  held x n = where_passes n (one_passes refl)

  freed : (x : Part) (n : ℕ) → EachPasses (leaves_keys (is_other_user (Some (user_account t)))) (unhold_entries t x n)
  freed x n = where_passes n (one_passes refl)

-- an act that pays nobody leaves all balances
unpaid : (a : Act) → ((k : Payment) → may_pay a k ≡ false) → may_load a ≡ false → (x : Item) → has_item a x ≡ true → leaves_keys is_user_key (item_entry x) ≡ true
unpaid a pays loads (Paying k t n) may = not_both (may_pay a k) may (pays k)
unpaid a pays loads (Loading user currency n) may = not_both (may_load a) may loads
unpaid a pays loads _ may = refl

-- an act changes the balance of no other user
pub act_leaves : (a : Act) → EachPasses (leaves_keys (is_other_user (user_posted a))) (act_entries a)
act_leaves (Loads event user currency amount) = two_pass (paid_to (account.User user currency) (account.Programme currency) amount None refl) (one_passes refl)
act_leaves (Funds o t) = two_pass refl (both_pass (both_pass (paid t FromGateway o.amount) (held t part.G o.amount)) (one_passes refl))
act_leaves (FundsPart o t amount) = two_pass refl (two_pass refl (both_pass (both_pass (paid t FromGateway amount) (held t part.G amount)) (one_passes refl)))
act_leaves (StandsIn number ask at set) =
    two_pass refl (both_pass (both_pass (paid ask.txn FromProgramme ask.amount) (held ask.txn part.P ask.amount)) (two_pass refl (one_passes refl)))
act_leaves (LetsGo t x amount) =
    let taken : Parts = taken_to_release x amount in
    both_pass (both_pass (both_pass (both_pass (both_pass (freed t part.P taken.p) (paid t ToProgramme taken.p)) (freed t part.G taken.g)) (paid t ToGateway taken.g)) (freed t part.S taken.s)) (where_passes amount (one_passes refl))
act_leaves (Clears t x amount at) =
    let taken : Parts = taken_to_clear x amount in
    let excess : ℕ = amount - in_all taken in
    both_pass (both_pass (both_pass (both_pass (both_pass (freed t part.G taken.g) (freed t part.P taken.p)) (freed t part.S taken.s)) (gateway_passes t (paid t FromProgramme excess))) (paid t ToNetwork amount)) (where_passes excess (one_passes refl))
act_leaves (GivesBack t amount programme) = both_pass (paid t FromNetwork amount) (gateway_passes t (both_pass (paid t ToProgramme programme) (paid t ToGateway (amount - programme))))
act_leaves a = act_passes a (unpaid a (λ k. refl) refl)

-- prices ----

abbrev total : List Entry → ℤ
total es = total_price load_brought es

-- an entry neither begins a transaction nor asks
abbrev is_calm : Entry → Bool
is_calm (entry.Began t) = false
is_calm (entry.Opened o) = false
is_calm _ = true

calm_entry : (e : Entry) → is_calm e ≡ true → load_brought e ≤ℤ pos 0
calm_entry (entry.Began t) h = cc
calm_entry (entry.Opened o) h = cc
calm_entry (entry.Closed call how) h = omega (arith, ints)
calm_entry (entry.Ended txn) h = omega (arith, ints)
calm_entry _ h = omega (arith, ints)

calm_total : (es : List Entry) → list_all is_calm es ≡ true → total es ≤ℤ pos 0
calm_total [] h = omega (arith, ints)
calm_total (e ∷ es) h =
    let both = and_parts (is_calm e) (list_all is_calm es) h in
    sum (load_brought e) (total es) (calm_entry e both.0) (calm_total es both.1)
  where
    sum : (a b : ℤ) → a ≤ℤ pos 0 → b ≤ℤ pos 0 → (a +ℤ b) ≤ℤ pos 0
    sum a b h k = omega (arith, ints, h, k)

calm_item : (a : Act) → may_begin a ≡ false → may_open_call a ≡ false → (x : Item) → has_item a x ≡ true → is_calm (item_entry x) ≡ true
calm_item a begins opens (Beginning t) may = not_both (may_begin a) may begins
calm_item a begins opens (Opening o) may = not_both (may_open_call a) may opens
calm_item a begins opens _ may = refl

-- how many accounts are made by posting to or from one, if any is
abbrev pub may_make : Option Account → ℕ
may_make None = 0
may_make (Some a) = 1

-- what an act brings, with the account that it may make
abbrev pub account_cost : Act → ℤ
account_cost a = total (act_entries a) +ℤ pos (may_make (user_posted a))

calm_pays : (a : Act) → may_begin a ≡ false → may_open_call a ≡ false → may_make (user_posted a) + lets_off a ≤ adds a → (account_cost a +ℤ pos (lets_off a)) ≤ℤ pos (adds a)
calm_pays a begins opens le = within (total (act_entries a)) (may_make (user_posted a)) (lets_off a) (adds a) (calm_total (act_entries a) (act_passes a (calm_item a begins opens)).all) le
  where
    within : (z : ℤ) (m d u : ℕ) → z ≤ℤ pos 0 → m + d ≤ u → ((z +ℤ pos m) +ℤ pos d) ≤ℤ pos u
    within z m d u h le = omega (arith, ints, h, le)

-- an act that begins by closing a call
closes : (call : CallId) (how : How) (es : List Entry) (m : ℕ) → EachPasses is_calm (entry.Closed call how ∷ es) → ((total (entry.Closed call how ∷ es) +ℤ pos m) +ℤ pos 1) ≤ℤ pos m
closes call how es m h = within (total es) m (calm_total es (and_parts true (list_all is_calm es) h.all).1)
  where
    within : (z : ℤ) (m : ℕ) → z ≤ℤ pos 0 → (((neg_ℤ (pos 1) +ℤ z) +ℤ pos m) +ℤ pos 1) ≤ℤ pos m
    within z m h = omega (arith, ints, h)

more : (z : ℤ) → z ≤ℤ pos 0 → z ≤ℤ pos 1
more z h = omega (arith, ints, h)

pub account_pays : (a : Act) → (account_cost a +ℤ pos (lets_off a)) ≤ℤ pos (adds a)
account_pays (Begins ask) = omega (arith, ints)
account_pays (Asks f product ask) = omega (arith, ints)
account_pays (Ends t) = omega (arith, ints)
account_pays (Funds o t) = closes o.call how.Funded (funded_ask_entries (call_ask o t) (account.Gateway t.currency) part.G) 1 (act_passes (Funds o t) (calm_item (Funds o t) refl refl))
account_pays (FundsPart o t amount) = closes o.call (how.Partial amount) (part_funded_entries o t amount) 1 (act_passes (FundsPart o t amount) (calm_item (FundsPart o t amount) refl refl))
account_pays (Refuses o t) = more _ (closes o.call how.Refused (declined_ask_entries (call_ask o t) reason.GatewayDeclined) 0 (act_passes (Refuses o t) (calm_item (Refuses o t) refl refl)))
account_pays (Fails number o t why) = closes o.call (how.Failed why) (void_entry number t o ∷ []) 0 (act_passes (Fails number o t why) (calm_item (Fails number o t why) refl refl))
account_pays a = calm_pays a refl refl (omega arith)
