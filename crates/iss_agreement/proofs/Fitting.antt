-- Entries that fit the facts leave what the longer book shows, and all of it standing.
use Rattle.std.proofs.Common.{◌≡◌, ℕ, ◌+◌, ◌≤◌, Bool, true, false, ◌||◌, List, [], ◌∷◌, ◌++◌, length, map, fold, refl, sym, ap, subst, ◌∙◌, arith, append_assoc, length-append}
use Rattle.std.specs.Prelude.{Option, Some, None, option_map, is_some}
use Rattle.std.specs.List.{filter_map, cons_option, list_any, list_all}
use Rattle.std.specs.Str.{bytes_eq}
use Rattle.std.proofs.lemmas.List.{append-nil, length-map}
use Rattle.std.proofs.lemmas.List.Elements.{filter_map-append}
use Rattle.std.proofs.lemmas.List.Folds.{list_any-append}
use Rattle.iss_model.specs.declared.setting.Moved.TheVariants as moved
use Rattle.iss_model.specs.declared.input.Input.{Input}
use Rattle.iss_model.specs.declared.input.Input.TheVariants as input
use Rattle.iss_model.specs.declared.entry.Entry.{Entry}
use Rattle.iss_model.specs.declared.entry.Entry.TheVariants as entry
use Rattle.iss_model.specs.declared.entry.Row.{Row}
use Rattle.iss_model.specs.declared.call.Opened.{Opened}
use Rattle.iss_model.specs.declared.txn.Txn.{Txn}
use Rattle.iss_model.specs.Inputs.{is_text}
use Rattle.iss_model.specs.rules.Settings.{user_made, user_named, user_now, users_of, card_made, card_named, card_now, cards_of, product_made, product_named, products_of, default_product, is_named_in}
use Rattle.iss_model.specs.rules.Activity.{TxnNow, calls_of, call_opened, call_now, notices_of, txns_of, txn_now, txn_began}
use Rattle.iss_model.specs.rules.Facts.{Facts}
use Rattle.iss_model.specs.rules.Histories.{History, history_facts, numbered_rows}
use Rattle.iss_model.specs.state.Cores.{CoreState, after_entry}
use Rattle.iss_agreement.specs.Shown.{shown_state}
use Rattle.iss_model.proofs.Lists.{all_weaker, any_grows}
use Rattle.iss_agreement.proofs.Standing.{Bounds, bounds_of, IsFit, AreFit, IsSettable, Fit, is_user_made, is_card_made, is_product_made, is_begun, is_standing, is_row_standing, IsStanding}
use Rattle.iss_agreement.proofs.Growing.{row_of}
use Rattle.iss_agreement.proofs.KeptLists.{any-map}
use Rattle.iss_agreement.proofs.KeptParties.{IsNew}
use Rattle.iss_agreement.proofs.Counting.{AreScopesKnown}
use Rattle.iss_agreement.proofs.Entering.{with_row, entered-shown}
use Rattle.iss_agreement.proofs.StayStanding.{Passes, row-grows, product_grows, le_true, is-some-find, stays-standing}

-- what was made, by rows and by what they made ----

made_any : {A : Type 0} (made : Entry → Option A) (label : A → List ℕ) (name : List ℕ) (rows : List Row)
    → list_any (λ a. bytes_eq (label a) name) (filter_map (λ row. made row.entry) rows) ≡ list_any (λ row. is_text name (option_map label (made row.entry))) rows
made_any made label name [] = refl
made_any {A} made label name (row ∷ rows) =
    by (made row.entry) (made_any made label name rows)
  where
    by : (o : Option A) → list_any (λ a. bytes_eq (label a) name) (filter_map (λ row. made row.entry) rows) ≡ list_any (λ row. is_text name (option_map label (made row.entry))) rows
        → list_any (λ a. bytes_eq (label a) name) (cons_option o (filter_map (λ row. made row.entry) rows)) ≡ (is_text name (option_map label o) || list_any (λ row. is_text name (option_map label (made row.entry))) rows)
    by None e = e
    by (Some a) e = ap (λ (b : Bool). bytes_eq (label a) name || b) e

user_known : (rows : List Row) (name : List ℕ) → is_some (user_named name (users_of rows)) ≡ is_user_made rows name
user_known rows name =
    is-some-find (λ user. bytes_eq user.name name) (users_of rows)
    ∙ any-map (λ user. bytes_eq user.name name) (user_now rows) (filter_map (λ (row : Row). user_made row.entry) rows)
    ∙ made_any user_made (λ user. user.name) name rows

card_known : (rows : List Row) (name : List ℕ) → is_some (card_named name (cards_of rows)) ≡ is_card_made rows name
card_known rows name =
    is-some-find (λ card. bytes_eq card.name name) (cards_of rows)
    ∙ any-map (λ card. bytes_eq card.name name) (card_now rows) (filter_map (λ (row : Row). card_made row.entry) rows)
    ∙ made_any card_made (λ card. card.name) name rows

product_known : (rows : List Row) (name : List ℕ) → is_some (product_named name (products_of rows)) ≡ is_product_made rows name
product_known rows name =
    is-some-find (λ product. bytes_eq product.name name) (products_of rows)
    ∙ ap (λ (b : Bool). bytes_eq default_product.name name || b) (made_any product_made (λ product. product.name) name rows)

txn_known : (rows : List Row) (token : List ℕ) → is_named_in (map (λ t. t.txn.token) (txns_of rows)) token ≡ is_begun rows token
txn_known rows token =
    any-map (λ (other : List ℕ). bytes_eq other token) (λ (t : TxnNow). t.txn.token) (txns_of rows)
    ∙ any-map (λ (t : TxnNow). bytes_eq t.txn.token token) (txn_now rows) (filter_map (λ (row : Row). txn_began row.entry) rows)
    ∙ made_any txn_began (λ t. t.token) token rows

-- a history on which all stands ----

abbrev pub IsGood : History → Type 0
IsGood h = IsStanding (bounds_of (history_facts h)) h

-- other bounds, for the same rows
pub rebound : (b c : Bounds) (h k : History) → IsStanding b h → h.rows ≡ k.rows → Passes b c → c.count ≡ length k.records
    → c.calls ≤ length (calls_of k.rows) → c.notices ≤ length (notices_of k.rows) → ((token : List ℕ) → is_named_in c.txns token ≡ true → is_begun k.rows token ≡ true) → IsStanding c k
rebound b c h k standing same past count calls notices txns =
    record {
      count = count;
      calls = calls;
      notices = notices;
      txns = txns;
      rows = subst (λ (rows : List Row). list_all (is_row_standing c rows) rows ≡ true) same
          (all_weaker (is_row_standing b h.rows) (is_row_standing c h.rows)
          (λ row passes. subst (λ (rows : List Row). is_row_standing c rows row ≡ true) (append-nil h.rows) (row-grows b c h.rows [] past row passes)) h.rows standing.rows);
      scopes = subst AreScopesKnown same standing.scopes;
    }

rebase : (b : Bounds) (h : History) → IsStanding b h → IsGood h
rebase b h standing =
    rebound b (bounds_of (history_facts h)) h h standing refl
    (record { count = omega (arith, standing.count); calls = standing.calls; notices = standing.notices })
    refl (omega arith) (omega arith) (λ token named. sym (txn_known h.rows token) ∙ named)

-- entries that fit, one by one ----

new_fit : (b : Bounds) (rows : List Row) (e : Entry) → IsFit b e → IsNew b rows e
new_fit b rows (entry.Conf i) fit = absurd fit
new_fit b rows (entry.Opened o) fit = omega (arith, fit)
new_fit b rows (entry.Notice notice) fit = fit
new_fit b rows _ fit = tt

one_more : (rows : List Row) (n : ℕ) (o : Opened) → length (calls_of (rows ++ row_of n (entry.Opened o))) ≡ length (calls_of rows) + 1
one_more rows n o =
    length-map (filter_map (λ (row : Row). call_opened row.entry) (rows ++ row_of n (entry.Opened o))) (call_now (rows ++ row_of n (entry.Opened o)))
    ∙ ap (λ (os : List Opened). length os) (filter_map-append (λ (row : Row). call_opened row.entry) rows (row_of n (entry.Opened o)))
    ∙ length-append (filter_map (λ (row : Row). call_opened row.entry) rows) (o ∷ [])
    ∙ ap (λ (n : ℕ). n + 1) (sym (length-map (filter_map (λ (row : Row). call_opened row.entry) rows) (call_now rows)))

standing_fit : (b : Bounds) (h : History) (e : Entry) → IsStanding b h → IsFit b e → is_standing b (h.rows ++ row_of (length h.records) e) (length h.records) e ≡ true
standing_fit b h (entry.Conf i) standing fit = absurd fit
standing_fit b h (entry.Began t) standing fit = absurd fit
standing_fit b h (entry.Opened o) standing fit =
    let e : Entry = entry.Opened o in
    le_true o.call.0 (length (calls_of (h.rows ++ row_of (length h.records) e)))
    (omega (arith, fit, standing.calls, one_more h.rows (length h.records) o))
standing_fit b h (entry.Closed call how) standing fit = le_true call.0 b.calls fit
standing_fit b h (entry.Usage row) standing fit = le_true row.origin (length h.records) (omega (arith, fit, standing.count))
standing_fit b h (entry.Acked notice) standing fit = le_true notice b.notices fit
standing_fit b h (entry.Ended txn) standing fit =
    any_grows (λ (row : Row). is_text txn (option_map (λ t. t.token) (txn_began row.entry))) h.rows (row_of (length h.records) (entry.Ended txn)) (standing.txns txn fit)
standing_fit b h _ standing fit = refl

set_fit : (b : Bounds) (f : Facts) (e : Entry) → IsFit b e → (i : Input) → e ≡ entry.Conf i → IsSettable f i
set_fit b f e fit i same = absurd (subst (IsFit b) same fit)

-- a history with more entries of its last record
abbrev pub grown : History → List Entry → History
grown h entries = record h { rows = h.rows ++ numbered_rows (length h.records) entries }

abbrev pub Enters : Bounds → History → List Entry → Type 0
Enters b h entries = (fold after_entry (shown_state h) entries ≡ shown_state (grown h entries)) × IsStanding b (grown h entries)

grown_none : (h : History) → h ≡ grown h []
grown_none h = ap (λ (rows : List Row). record h { rows = rows }) (sym (append-nil h.rows))

grown_more : (h : History) (e : Entry) (es : List Entry) → grown (with_row h e) es ≡ grown h (e ∷ es)
grown_more h e es = ap (λ (rows : List Row). record h { rows = rows }) (append_assoc h.rows (row_of (length h.records) e) (numbered_rows (length h.records) es))

then_enters : (b : Bounds) (h : History) (e : Entry) (es : List Entry) → after_entry (shown_state h) e ≡ shown_state (with_row h e) → Enters b (with_row h e) es → Enters b h (e ∷ es)
then_enters b h e es first rest =
    (ap (λ (s : CoreState). fold after_entry s es) first ∙ rest.0 ∙ ap shown_state (grown_more h e es), subst (IsStanding b) (grown_more h e es) rest.1)

enters_fit : (b : Bounds) (h : History) (es : List Entry) → IsStanding b h → AreFit b es → Enters b h es
unfolding AreFit
enters_fit b h [] standing fit = (ap shown_state (grown_none h), subst (IsStanding b) (grown_none h) standing)
enters_fit b h (e ∷ es) standing fit =
    then_enters b h e es (entered-shown b h e standing (new_fit b h.rows e fit.0))
    (enters_fit b (with_row h e) es (stays-standing b h e standing (standing_fit b h e standing fit.0) (set_fit b (history_facts h) e fit.0)) fit.1)

-- a setting first ----

new_set : (b : Bounds) (h : History) (i : Input) → IsSettable (history_facts h) i → IsNew b h.rows (entry.Conf i)
new_set b h (input.User token user) fit = sym (user_known h.rows user) ∙ fit
new_set b h (input.Card token card user product active) fit = sym (card_known h.rows card) ∙ fit
new_set b h (input.Product token product currency funding timeout_ms hold_ms) fit = sym (product_known h.rows product) ∙ fit
new_set b h _ fit = tt

standing_set : (b : Bounds) (h : History) (i : Input) → IsSettable (history_facts h) i
    → is_standing b (h.rows ++ row_of (length h.records) (entry.Conf i)) (length h.records) (entry.Conf i) ≡ true
standing_set b h (input.Move token (moved.Card card to)) fit =
    any_grows (λ (row : Row). is_text card (option_map (λ card. card.name) (card_made row.entry))) h.rows (row_of (length h.records) (entry.Conf (input.Move token (moved.Card card to)))) (sym (card_known h.rows card) ∙ fit)
standing_set b h (input.Move token (moved.User user to)) fit =
    any_grows (λ (row : Row). is_text user (option_map (λ user. user.name) (user_made row.entry))) h.rows (row_of (length h.records) (entry.Conf (input.Move token (moved.User user to)))) (sym (user_known h.rows user) ∙ fit)
standing_set b h (input.Switch token product on) fit =
    product_grows h.rows (row_of (length h.records) (entry.Conf (input.Switch token product on))) product (sym (product_known h.rows product) ∙ fit)
standing_set b h _ fit = refl

setting_of : Input → Entry → Input
setting_of i (entry.Conf j) = j
setting_of i _ = i

same_setting : (f : Facts) (i : Input) → IsSettable f i → (j : Input) → entry.Conf i ≡ entry.Conf j → IsSettable f j
unfolding setting_of
same_setting f i fit j e = subst (IsSettable f) (ap (setting_of i) e) fit

-- a transaction first ----

abbrev with_txn_named : Bounds → List ℕ → Bounds
with_txn_named b token = record b { txns = token ∷ b.txns }

begun_now : (b : Bounds) (h : History) (t : Txn) → IsStanding b h → (token : List ℕ) → is_named_in (t.token ∷ b.txns) token ≡ true → is_begun (with_row h (entry.Began t)).rows token ≡ true
begun_now b h t standing token named =
    list_any-append (λ (row : Row). is_text token (option_map (λ t. t.token) (txn_began row.entry))) h.rows (row_of (length h.records) (entry.Began t))
    ∙ by (bytes_eq t.token token) named
  where
    or_true : (b : Bool) → (b || true) ≡ true
    or_true true = refl
    or_true false = refl

    by : (own : Bool) → (own || is_named_in b.txns token) ≡ true → (is_begun h.rows token || (own || false)) ≡ true
    by true e = or_true (is_begun h.rows token)
    by false e = ap (λ (b : Bool). b || false) (standing.txns token e)

began_standing : (b : Bounds) (h : History) (t : Txn) → IsStanding b h → t.origin ≤ b.count → IsStanding (with_txn_named b t.token) (with_row h (entry.Began t))
began_standing b h t standing fit =
    let grown : IsStanding b (with_row h (entry.Began t)) =
    stays-standing b h (entry.Began t) standing (le_true t.origin (length h.records) (omega (arith, fit, standing.count))) (λ i same. absurd (no_setting t i same)) in
    rebound b (with_txn_named b t.token) (with_row h (entry.Began t)) (with_row h (entry.Began t)) grown refl
    (record { count = omega arith; calls = omega arith; notices = omega arith }) grown.count grown.calls grown.notices (begun_now b h t standing)
  where
    no_setting : (t : Txn) (i : Input) → entry.Began t ≡ entry.Conf i → ⊥
    no_setting t i e = cc

-- what the bounds of its facts mean for a history, with the entries entered
based : (b : Bounds) (h : History) (es : List Entry) → Enters b h es → (fold after_entry (shown_state h) es ≡ shown_state (grown h es)) × IsGood (grown h es)
based b h es all = (all.0, rebase b (grown h es) all.1)

-- entries that fit the facts of a good history are entered, and leave it good
pub enters : (h : History) (es : List Entry) → IsGood h → Fit (history_facts h) es → (fold after_entry (shown_state h) es ≡ shown_state (grown h es)) × IsGood (grown h es)
unfolding AreFit
enters h [] good fit = based (bounds_of (history_facts h)) h [] (enters_fit (bounds_of (history_facts h)) h [] good tt)
enters h (entry.Conf i ∷ es) good fit =
    let b : Bounds = bounds_of (history_facts h) in
    based b h (entry.Conf i ∷ es)
    (then_enters b h (entry.Conf i) es (entered-shown b h (entry.Conf i) good (new_set b h i fit.0))
    (enters_fit b (with_row h (entry.Conf i)) es (stays-standing b h (entry.Conf i) good (standing_set b h i fit.0) (same_setting (history_facts h) i fit.0)) fit.1))
enters h (entry.Began t ∷ es) good fit =
    let b : Bounds = bounds_of (history_facts h) in
    let c : Bounds = with_txn_named b t.token in
    based c h (entry.Began t ∷ es)
    (then_enters c h (entry.Began t) es (entered-shown b h (entry.Began t) good tt)
    (enters_fit c (with_row h (entry.Began t)) es (began_standing b h t good fit.0) fit.1))
enters h (e ∷ es) good fit = based (bounds_of (history_facts h)) h (e ∷ es) (enters_fit (bounds_of (history_facts h)) h (e ∷ es) good fit)
