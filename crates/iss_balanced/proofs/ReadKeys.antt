-- The keys of balances are read again as accounts, since users have tokens for names.
use Rattle.std.proofs.Common.{◌≡◌, ◌∙◌, ◌++◌, ◌∷◌, ◌&&◌, ◌+ℤ◌, ◌-ℤ◌, ◌==◌, ℕ, zero, suc, ℤ, pos, ap, arith, Bool, cond, false, fold, List, [], map, refl, subst, sym, true}
use Rattle.std.specs.Prelude.{Option, Some, None, find, option_map, option_and_then, unwrap_or}
use Rattle.std.specs.List.{list_all}
use Rattle.std.specs.Cmp.Lexicographic.{slice_cmp}
use Rattle.std.specs.FinMap as finite
use Rattle.std.specs.FinMap.Entries as entries
use Rattle.std.specs.Ordering.{is_eq, nat_cmp}
use Rattle.std.specs.Str.{bytes_eq}
use Rattle.std.proofs.lemmas.Bool.{and_parts}
use Rattle.std.proofs.lemmas.Int.{ints}
use Rattle.std.proofs.lemmas.List.Folds.{list_all-append}
use Rattle.std.proofs.lemmas.Map.Text.{is_eq-slice_cmp}
use Rattle.iss_model.specs.declared.account.Account.{Account}
use Rattle.iss_model.specs.declared.account.Account.TheVariants as account
use Rattle.iss_model.specs.declared.entry.Entry.{Entry}
use Rattle.iss_model.specs.declared.entry.Entry.TheVariants as entry
use Rattle.iss_model.specs.declared.input.Input.{Input}
use Rattle.iss_model.specs.declared.input.Input.TheVariants as input
use Rattle.iss_model.specs.declared.setting.Card.{Card}
use Rattle.iss_model.specs.declared.setting.Product.{Product}
use Rattle.iss_model.specs.declared.state.Carried.{Carried}
use Rattle.iss_model.specs.declared.state.Saldo.{Saldo}
use Rattle.iss_model.specs.declared.state.Seen.{Seen}
use Rattle.iss_model.specs.declared.state.State.{State}
use Rattle.iss_model.specs.Sums.{Change, account_key, balance_changes}
use Rattle.iss_model.specs.rules.Activity.{TxnNow, txn_named}
use Rattle.iss_model.specs.rules.Asks.{Ask, txn_begun}
use Rattle.iss_model.specs.rules.CardReasons.{first_ask, further_ask}
use Rattle.iss_model.specs.rules.Settings.{card_named, product_named}
use Rattle.iss_model.specs.state.Cores.{CoreState, after_entry, after_setting, core_facts, no_core}
use Rattle.iss_model.specs.state.Kept.{Kept, after_changes, kept_at, nothing_kept}
use Rattle.iss_model.specs.texts.Spelling.{is_record}
use Rattle.iss_model.proofs.Lists.{find_passes}
use Rattle.iss_model.proofs.Names.{name-sym, one_name, same_name}
use Rattle.iss_state.proofs.docket.Lists.{both_so}
use Rattle.iss_states.specs.Keys.{account_of_key, account_of_kind, currency_numbered, first_token, has_no_zero, is_named_by_token, last_number}
use Rattle.iss_states.specs.Order.{is_event_record}
use Rattle.iss_states.specs.Rebuilding.{ask_of_event, carried_named, events_again, is_done, rebuilt, txns_begun, with_event, with_seen}
use Rattle.iss_states.specs.Showing.{saldo_at, shown}
use Rattle.iss_states.proofs.Keys.{account_again}
use Rattle.iss_states.proofs.KeptKeys.{keys_after, no_keys}
use Rattle.iss_rebuilt.proofs.KeptAgain.{changes_pass}
use Rattle.iss_rebuilt.proofs.TokenBooks.{record_named}
use Rattle.iss_rebuilt.proofs.Tokens.{AreNamed, entries_named, is_named_card, is_named_entry, is_named_input, is_named_now, is_named_txn, nothing_named}
use Rattle.iss_well_formed.proofs.FairAgain.{found_at, got}
use Rattle.iss_balanced.specs.Owed.{listed_balance}
use Rattle.iss_balanced.proofs.OwedSteps.{setting_balances}

-- a key is read again
abbrev pub is_read : List ℕ → Bool
is_read key = bytes_eq (account_key (account_of_key key)) key

read_account : (a : Account) → is_named_by_token a ≡ true → is_read (account_key a) ≡ true
read_account a h = same_name (account_key (account_of_key (account_key a))) (account_key a) (ap account_key (account_again a h))

-- each key of these sums is
abbrev pub AreRead : Kept → Type 0
AreRead m = list_all is_read (finite.keys m) ≡ true

changes_read : (m : Kept) (cs : List Change) → list_all (λ c. is_read c.key) cs ≡ true → AreRead m → AreRead (after_changes m cs)
changes_read m cs h all = ap (list_all is_read) (keys_after m cs) ∙ changes_pass is_read (finite.keys m) cs h all

entry_read : (txns : List TxnNow) (s : CoreState) (e : Entry) → is_named_entry txns e ≡ true → AreRead s.balances → AreRead (after_entry s e).balances
entry_read txns s (entry.Conf i) h all = ap (λ (m : Kept). list_all is_read (finite.keys m)) (setting_balances s i) ∙ all
entry_read txns s (entry.Post from to amount txn) h all =
    let both = and_parts (is_named_by_token from) (is_named_by_token to) h in
    changes_read s.balances (balance_changes (entry.Post from to amount txn))
    (both_so (is_read (account_key to)) (is_read (account_key from) && true) (read_account to both.1) (both_so (is_read (account_key from)) true (read_account from both.0) refl)) all
entry_read txns s _ h all = all

pub entries_read : (txns : List TxnNow) (s : CoreState) (es : List Entry) → list_all (is_named_entry txns) es ≡ true → AreRead s.balances → AreRead (fold after_entry s es).balances
entries_read txns s [] h all = all
entries_read txns s (e ∷ es) h all =
    let both = and_parts (is_named_entry txns e) (list_all (is_named_entry txns) es) h in entries_read txns (after_entry s e) es both.1 (entry_read txns s e both.0 all)

pub nothing_read : AreRead nothing_kept
nothing_read = ap (list_all is_read) no_keys

-- what is shown ----

named_kind : (kind : ℕ) (rest : List ℕ) → is_named_by_token (account_of_kind kind (first_token rest) (currency_numbered (last_number rest))) ≡ true
named_kind kind rest = by (kind == 1) (kind == 2) (kind == 3)
  where
    no_zero : (rest : List ℕ) → has_no_zero (first_token rest) ≡ true
    no_zero [] = refl
    no_zero (zero ∷ rest) = refl
    no_zero (suc n ∷ rest) = no_zero rest

    by : (a b c : Bool)
        → is_named_by_token (cond a (account.Gateway (currency_numbered (last_number rest))) (cond b (account.Network (currency_numbered (last_number rest))) (cond c (account.Programme (currency_numbered (last_number rest))) (account.User (first_token rest) (currency_numbered (last_number rest))))))
        ≡ true
    by true b c = refl
    by false true c = refl
    by false false true = refl
    by false false false = no_zero rest

named_key : (key : List ℕ) → is_named_by_token (account_of_key key) ≡ true
named_key [] = refl
named_key (kind ∷ rest) = named_kind kind rest

pub named_shown : (es : List (List ℕ × ℤ)) → list_all (λ b. is_named_by_token b.account) (map saldo_at es) ≡ true
named_shown [] = refl
named_shown (e ∷ es) = both_so (is_named_by_token (account_of_key e.0)) (list_all (λ (b : Saldo). is_named_by_token b.account) (map saldo_at es)) (named_key e.0) (named_shown es)

at_key : (key : List ℕ) (k : List ℕ) → is_eq (slice_cmp nat_cmp key k) ≡ bytes_eq k key
at_key key k = is_eq-slice_cmp key k ∙ name-sym key k

found_shown : (a : Account) (es : List (List ℕ × ℤ)) → list_all is_read (map (λ e. e.0) es) ≡ true → listed_balance (map saldo_at es) a ≡ found_at (account_key a) es
found_shown a [] h = refl
found_shown a (e ∷ es) h =
    let both = and_parts (is_read e.0) (list_all is_read (map (λ (e : List ℕ × ℤ). e.0) es)) h in
    ap (λ (k : List ℕ). unwrap_or (option_map (λ (b : Saldo). b.amount) (cond (bytes_eq k (account_key a)) (Some (saldo_at e)) (find (λ b. bytes_eq (account_key b.account) (account_key a)) (map saldo_at es)))) (pos 0))
    (one_name (account_key (account_of_key e.0)) e.0 both.0)
    ∙ by (bytes_eq e.0 (account_key a)) (found_shown a es both.1)
    ∙ ap (λ (b : Bool). unwrap_or (cond b (Some e.1) (entries.find (slice_cmp nat_cmp) (account_key a) es)) (pos 0)) (sym (at_key (account_key a) e.0))
  where
    by : (b : Bool) → listed_balance (map saldo_at es) a ≡ found_at (account_key a) es
        → unwrap_or (option_map (λ (b : Saldo). b.amount) (cond b (Some (saldo_at e)) (find (λ b. bytes_eq (account_key b.account) (account_key a)) (map saldo_at es)))) (pos 0)
        ≡ unwrap_or (cond b (Some e.1) (entries.find (slice_cmp nat_cmp) (account_key a) es)) (pos 0)
    by true rest = refl
    by false rest = rest

pub balance_shown : (w : CoreState) → AreRead w.balances → (a : Account) → listed_balance (shown w).balances a ≡ kept_at w.balances (account_key a)
balance_shown w read a = found_shown a (finite.entries w.balances) read ∙ ap (λ (o : Option ℤ). unwrap_or o (pos 0)) (sym (finite.get-entries w.balances (account_key a)))

-- what is made again ----

abbrev pub with_key : Saldo → List ℕ × ℤ
with_key b = (account_key b.account, b.amount)

found_again : (a : Account) (bs : List Saldo) → found_at (account_key a) (map with_key bs) ≡ listed_balance bs a
found_again a [] = refl
found_again a (b ∷ bs) =
    ap (λ (t : Bool). unwrap_or (cond t (Some b.amount) (entries.find (slice_cmp nat_cmp) (account_key a) (map with_key bs))) (pos 0)) (at_key (account_key a) (account_key b.account))
    ∙ by (bytes_eq (account_key b.account) (account_key a)) (found_again a bs)
  where
    by : (t : Bool) → found_at (account_key a) (map with_key bs) ≡ listed_balance bs a
        → unwrap_or (cond t (Some b.amount) (entries.find (slice_cmp nat_cmp) (account_key a) (map with_key bs))) (pos 0)
        ≡ unwrap_or (option_map (λ (b : Saldo). b.amount) (cond t (Some b) (find (λ b. bytes_eq (account_key b.account) (account_key a)) bs))) (pos 0)
    by true rest = refl
    by false rest = rest

pub balance_again : (s : State) (a : Account) → kept_at (rebuilt s).balances (account_key a) ≡ listed_balance s.balances a
balance_again s a = got (map with_key s.balances) (account_key a) ∙ found_again a s.balances

read_list : (bs : List Saldo) → list_all (λ b. is_named_by_token b.account) bs ≡ true → AreRead (finite.from_entries (map with_key bs))
read_list [] h = nothing_read
read_list (b ∷ bs) h =
    let both = and_parts (is_named_by_token b.account) (list_all (λ (b : Saldo). is_named_by_token b.account) bs) h in
    let m : Kept = finite.from_entries (map with_key bs) in
    let key : List ℕ = account_key b.account in
    subst (λ (z : ℤ). AreRead (finite.insert m key z)) (sum (kept_at m key) b.amount)
    (changes_read m (record { key = key; by = b.amount -ℤ kept_at m key } ∷ []) (both_so (is_read key) true (read_account b.account both.0) refl) (read_list bs both.1))
  where
    sum : (x y : ℤ) → x +ℤ (y -ℤ x) ≡ y
    sum x y = omega (arith, ints)

pub read_again : (s : State) → list_all (λ b. is_named_by_token b.account) s.balances ≡ true → AreRead (rebuilt s).balances
read_again s h = read_list s.balances h

-- names of a core that is made again ----

begun_named : (ts : List Carried) (c : CoreState) (at : ℕ) (i : Input) → AreNamed c → list_all is_named_now (txns_begun ts (ask_of_event (core_facts c) at i)) ≡ true
begun_named ts c at (input.Authorization token card currency amount mcc mid partial) h = by (card_named card c.cardholders.cards) refl
  where
    one : (x : Ask) → is_named_txn x.txn ≡ true → (b : Bool) (o : Option Carried)
        → list_all is_named_now (cond b (unwrap_or (option_map (λ t. record { txn = x.txn; live = t.sums.live } ∷ []) o) []) []) ≡ true
    one x named false o = refl
    one x named true None = refl
    one x named true (Some t) = ap (λ (b : Bool). b && true) named

    sold : (holder : Card) → is_named_card holder ≡ true → (o : Option Product)
        → list_all is_named_now (txns_begun ts (option_map (first_ask token amount partial at) (option_map (λ product. txn_begun (core_facts c) holder product token currency mcc mid at) o))) ≡ true
    sold holder named None = refl
    sold holder named (Some product) =
        one (first_ask token amount partial at (txn_begun (core_facts c) holder product token currency mcc mid at)) named true (carried_named token ts)

    by : (o : Option Card) → card_named card c.cardholders.cards ≡ o
        → list_all is_named_now (txns_begun ts (option_map (first_ask token amount partial at) (option_and_then (λ k. option_map (λ product. txn_begun (core_facts c) k product token currency mcc mid at) (product_named k.product (core_facts c).products)) o)))
        ≡ true
    by None e = refl
    by (Some holder) e =
        sold holder (find_passes (λ (k : Card). bytes_eq k.name card) is_named_card c.cardholders.cards holder h.cards e) (product_named holder.product (core_facts c).products)
begun_named ts c at (input.Increment token txn currency amount) h = by (txn_named txn c.holdings.txns)
  where
    by : (o : Option TxnNow) → list_all is_named_now (txns_begun ts (option_map (λ now. further_ask token amount at now.txn) o)) ≡ true
    by None = refl
    by (Some now) = refl
begun_named ts c at _ h = refl

all_append : {A : Type 0} (p : A → Bool) (xs ys : List A) → list_all p xs ≡ true → list_all p ys ≡ true → list_all p (xs ++ ys) ≡ true
all_append p xs ys h k = list_all-append p xs ys ∙ both_so (list_all p xs) (list_all p ys) h k

seen_named : (ts : List Carried) (c : CoreState) (e : Seen) → is_event_record e ≡ true → AreNamed c → AreNamed (with_seen ts c e)
seen_named ts c e form h = let named = by (is_done e.verdict) in record { cards = named.cards; txns = named.txns }
  where
    its : is_named_input e.body.input ≡ true
    its = record_named e.body (and_parts _ (is_record e.body) form).1

    settled : (b : Bool) → AreNamed (cond b (after_setting (with_event c e) e.body.input) (with_event c e))
    settled true = entries_named (with_event c e) [] (entry.Conf e.body.input ∷ []) (ap (λ (b : Bool). b && true) its) (record { cards = h.cards; txns = h.txns })
    settled false = record { cards = h.cards; txns = h.txns }

    by : (b : Bool) → AreNamed (record (cond b (after_setting (with_event c e) e.body.input) (with_event c e)) {
      holdings = record ((cond b (after_setting (with_event c e) e.body.input) (with_event c e)).holdings) {
        txns = (cond b (after_setting (with_event c e) e.body.input) (with_event c e)).holdings.txns
            ++ txns_begun ts (ask_of_event (core_facts (cond b (after_setting (with_event c e) e.body.input) (with_event c e))) e.body.at e.body.input);
      };
    })
    by b =
        let d : CoreState = cond b (after_setting (with_event c e) e.body.input) (with_event c e) in
        record {
          cards = (settled b).cards;
          txns = all_append is_named_now d.holdings.txns (txns_begun ts (ask_of_event (core_facts d) e.body.at e.body.input)) (settled b).txns (begun_named ts d e.body.at e.body.input (settled b));
        }

all_named : (ts : List Carried) (c : CoreState) (es : List Seen) → list_all is_event_record es ≡ true → AreNamed c → AreNamed (fold (with_seen ts) c es)
all_named ts c [] form h = h
all_named ts c (e ∷ es) form h =
    let both = and_parts (is_event_record e) (list_all is_event_record es) form in
    let next : AreNamed (with_seen ts c e) = (let named = seen_named ts c e both.0 h in record { cards = named.cards; txns = named.txns }) in
    all_named ts (with_seen ts c e) es both.1 next

pub named_again : (s : State) → list_all is_event_record s.events ≡ true → AreNamed (rebuilt s)
named_again s form = let named : AreNamed (events_again s) = all_named s.txns no_core s.events form nothing_named in record { cards = named.cards; txns = named.txns }
