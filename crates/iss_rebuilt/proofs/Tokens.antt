-- What is named by tokens: the fields of inputs in form, and what a state and its entries say of users and products.
use Rattle.std.proofs.Common.{◌≡◌, ◌∙◌, ◌++◌, ◌∷◌, ◌&&◌, ◌||◌, ◌==◌, ap, ap₂, Bool, cond, false, fold, length, List, [], map, nat_eq, nat_le, refl, suc, true, zero, ℕ}
use Rattle.std.specs.List.{list_all, list_any}
use Rattle.std.specs.Str.{bytes_eq}
use Rattle.std.proofs.lemmas.Bool.{and_parts}
use Rattle.std.proofs.lemmas.List.Folds.{list_all-append}
use Rattle.iss_model.specs.declared.entry.Entry.{Entry}
use Rattle.iss_model.specs.declared.entry.Entry.TheVariants as entry
use Rattle.iss_model.specs.declared.input.Input.{Input}
use Rattle.iss_model.specs.declared.input.Input.TheVariants as input
use Rattle.iss_model.specs.declared.limits.TheConstants.{LONGEST_TOKEN}
use Rattle.iss_model.specs.declared.setting.Card.{Card}
use Rattle.iss_model.specs.declared.setting.Moved.TheVariants as moved
use Rattle.iss_model.specs.declared.txn.Txn.{Txn}
use Rattle.iss_model.specs.Tokens.{is_token, is_token_byte}
use Rattle.iss_model.specs.rules.Activity.{TxnNow}
use Rattle.iss_model.specs.rules.Settings.{first_card_state}
use Rattle.iss_model.specs.state.Cores.{CoreState, after_entry, after_setting, card_after_move, is_live, no_core, txn_after_end}
use Rattle.iss_model.specs.texts.Spelling.{tokens_of}
use Rattle.iss_model.proofs.Lists.{all_weaker, any_grows}
use Rattle.iss_state.proofs.docket.Entering.{same_txn}
use Rattle.iss_states.specs.Keys.{has_no_zero, is_above_zero, is_named_by_token}

-- tests ----

-- each name in an input is without a byte 0
abbrev pub is_named_input : Input → Bool
is_named_input i = list_all has_no_zero (tokens_of i)

-- the user and the product of a card are named so
abbrev pub is_named_card : Card → Bool
is_named_card card = has_no_zero card.user && has_no_zero card.product

-- the user and the product of a transaction are named so
abbrev pub is_named_txn : Txn → Bool
is_named_txn t = has_no_zero t.user && has_no_zero t.product

abbrev pub is_named_now : TxnNow → Bool
is_named_now x = is_named_txn x.txn

-- a transaction began with the record of this number
abbrev pub began_with : List TxnNow → ℕ → Bool
began_with txns origin = list_any (λ t. t.txn.origin == origin) txns

-- an entry names users and products so, and use is of one of these transactions
abbrev pub is_named_entry : List TxnNow → Entry → Bool
is_named_entry txns (entry.Conf i) = is_named_input i
is_named_entry txns (entry.Began t) = is_named_txn t
is_named_entry txns (entry.Post from to amount txn) = is_named_by_token from && is_named_by_token to
is_named_entry txns (entry.Usage row) = has_no_zero row.user && began_with txns row.origin
is_named_entry txns (entry.Stood set product user amount at) = has_no_zero product && has_no_zero user
is_named_entry txns _ = true

-- The cards and the transactions of a state name users and products so.
pub record AreNamed (s : CoreState) : Type 0 where
  pub cards : list_all is_named_card s.cardholders.cards ≡ true
  pub txns : list_all is_named_now s.holdings.txns ≡ true

-- a token has no byte 0 ----

above_zero : (b : ℕ) → is_token_byte b ≡ true → is_above_zero b ≡ true
above_zero zero h = cc
above_zero (suc n) h = refl

token_above : (text : List ℕ) → is_token text ≡ true → has_no_zero text ≡ true
token_above text h =
    all_weaker is_token_byte is_above_zero above_zero text (and_parts (nat_le 1 (length text) && nat_le (length text) LONGEST_TOKEN) (list_all is_token_byte text) h).1

pub tokens_named : (i : Input) → list_all is_token (tokens_of i) ≡ true → is_named_input i ≡ true
tokens_named i h = all_weaker is_token has_no_zero token_above (tokens_of i) h

-- entries keep names ----

all_with : {A : Type 0} (p : A → Bool) (xs : List A) (x : A) → list_all p xs ≡ true → p x ≡ true → list_all p (xs ++ x ∷ []) ≡ true
all_with p xs x h k = list_all-append p xs (x ∷ []) ∙ ap₂ (λ (a b : Bool). a && (b && true)) h k

all_changed : {A : Type 0} (p : A → Bool) (f : A → A) → ((x : A) → p (f x) ≡ p x) → (xs : List A) → list_all p xs ≡ true → list_all p (map f xs) ≡ true
all_changed p f same [] h = refl
all_changed p f same (x ∷ xs) h =
    let both = and_parts (p x) (list_all p xs) h in
    ap₂ (λ (a b : Bool). a && b) (same x ∙ both.0) (all_changed p f same xs both.1)

moved_named : (name : List ℕ) (card : Card) → (moved_card : Card) → moved_card.user ≡ card.user → moved_card.product ≡ card.product → (b : Bool) → is_named_card (cond b moved_card card) ≡ is_named_card card
moved_named name card moved_card u p true = ap₂ (λ (a b : List ℕ). has_no_zero a && has_no_zero b) u p
moved_named name card moved_card u p false = refl

setting_named : (s : CoreState) (i : Input) → is_named_input i ≡ true → AreNamed s → AreNamed (after_setting s i)
setting_named s (input.Card token card user product active) form h =
    let all = and_parts (has_no_zero token) (has_no_zero card && (has_no_zero user && (has_no_zero product && true))) form in
    let more = and_parts (has_no_zero card) (has_no_zero user && (has_no_zero product && true)) all.1 in
    let its = and_parts (has_no_zero user) (has_no_zero product && true) more.1 in
    let last = and_parts (has_no_zero product) true its.1 in
    record {
      cards = all_with is_named_card s.cardholders.cards (record { name = card; user = user; product = product; state = first_card_state active }) h.cards
          (ap₂ (λ (a b : Bool). a && b) its.0 last.0);
      txns = h.txns;
    }
setting_named s (input.Move token (moved.Card card to)) form h =
    record {
      cards = all_changed is_named_card (card_after_move card to) (λ (c : Card). moved_named card c (record c { state = to }) refl refl (bytes_eq card c.name)) s.cardholders.cards h.cards;
      txns = h.txns;
    }
setting_named s (input.Move token (moved.User user to)) form h = record { cards = h.cards; txns = h.txns }
setting_named s _ form h = record { cards = h.cards; txns = h.txns }

entry_named : (s : CoreState) (all : List TxnNow) (e : Entry) → is_named_entry all e ≡ true → AreNamed s → AreNamed (after_entry s e)
entry_named s all (entry.Conf i) form h = setting_named s i form h
entry_named s all (entry.Began t) form h =
    record { cards = h.cards; txns = all_with is_named_now s.holdings.txns (record { txn = t; live = is_live s.holdings.txns t.token }) h.txns form }
entry_named s all (entry.Ended txn) form h =
    record { cards = h.cards; txns = all_changed is_named_now (txn_after_end txn) (λ (x : TxnNow). ap is_named_txn (same_txn txn x)) s.holdings.txns h.txns }
entry_named s all _ form h = record { cards = h.cards; txns = h.txns }

pub entries_named : (s : CoreState) (all : List TxnNow) (es : List Entry) → list_all (is_named_entry all) es ≡ true → AreNamed s → AreNamed (fold after_entry s es)
entries_named s all [] form h = h
entries_named s all (e ∷ es) form h =
    let both = and_parts (is_named_entry all e) (list_all (is_named_entry all) es) form in
    entries_named (after_entry s e) all es both.1 (entry_named s all e both.0 h)

-- who began stays ----

-- each transaction of one state is among those of another
abbrev pub Grow : CoreState → CoreState → Type 0
Grow s t = (origin : ℕ) → began_with s.holdings.txns origin ≡ true → began_with t.holdings.txns origin ≡ true

ended_began : (token : List ℕ) (origin : ℕ) (txns : List TxnNow) → began_with (map (txn_after_end token) txns) origin ≡ began_with txns origin
ended_began token origin [] = refl
ended_began token origin (x ∷ xs) = ap₂ (λ (a b : Bool). a || b) (ap (λ (t : Txn). nat_eq t.origin origin) (same_txn token x)) (ended_began token origin xs)

setting_grows : (s : CoreState) (i : Input) → Grow s (after_setting s i)
setting_grows s (input.Move token (moved.Card card to)) origin h = h
setting_grows s (input.Move token (moved.User user to)) origin h = h
setting_grows s _ origin h = h

entry_grows : (s : CoreState) (e : Entry) → Grow s (after_entry s e)
entry_grows s (entry.Conf i) origin h = setting_grows s i origin h
entry_grows s (entry.Began t) origin h =
    any_grows (λ (x : TxnNow). nat_eq x.txn.origin origin) s.holdings.txns (record { txn = t; live = is_live s.holdings.txns t.token } ∷ []) h
entry_grows s (entry.Ended txn) origin h = ended_began txn origin s.holdings.txns ∙ h
entry_grows s _ origin h = h

pub entries_grow : (s : CoreState) (es : List Entry) → Grow s (fold after_entry s es)
entries_grow s [] origin h = h
entries_grow s (e ∷ es) origin h = entries_grow (after_entry s e) es origin (entry_grows s e origin h)

-- more transactions make no entry worse
pub named_later : (xs ys : List TxnNow) → ((origin : ℕ) → began_with xs origin ≡ true → began_with ys origin ≡ true) → (e : Entry) → is_named_entry xs e ≡ true → is_named_entry ys e ≡ true
named_later xs ys grows (entry.Usage row) h =
    let both = and_parts (has_no_zero row.user) (began_with xs row.origin) h in
    ap₂ (λ (a b : Bool). a && b) both.0 (grows row.origin both.1)
named_later xs ys grows (entry.Conf i) h = h
named_later xs ys grows (entry.Began t) h = h
named_later xs ys grows (entry.Post from to amount txn) h = h
named_later xs ys grows (entry.Stood set product user amount at) h = h
named_later xs ys grows _ h = refl

pub all_later : (xs ys : List TxnNow) → ((origin : ℕ) → began_with xs origin ≡ true → began_with ys origin ≡ true) → (es : List Entry) → list_all (is_named_entry xs) es ≡ true
    → list_all (is_named_entry ys) es ≡ true
all_later xs ys grows es h = all_weaker (is_named_entry xs) (is_named_entry ys) (named_later xs ys grows) es h

pub nothing_named : AreNamed no_core
nothing_named = record { cards = refl; txns = refl }
