-- Each counter of a control of single transactions is of a transaction that stands: so it is at first, and after each entry that fits.
use Rattle.std.proofs.Common.{◌≡◌, ◌∙◌, ◌++◌, ◌∷◌, ◌&&◌, ◌||◌, ℕ, pos, ap, Bool, cond, false, find, fold, List, [], map, refl, sym, true}
use Rattle.std.specs.Prelude.{Some}
use Rattle.std.specs.List.{list_all, list_any}
use Rattle.std.specs.Ordering.{is_eq, is_lt, nat_cmp}
use Rattle.std.specs.Cmp.Lexicographic.{slice_cmp}
use Rattle.std.specs.FinMap as finite
use Rattle.std.specs.Str.{bytes_eq}
use Rattle.std.proofs.lemmas.Bool.{and_parts}
use Rattle.iss_model.specs.declared.entry.Entry.{Entry}
use Rattle.iss_model.specs.declared.entry.Entry.TheVariants as entry
use Rattle.iss_model.specs.declared.input.Input.{Input}
use Rattle.iss_model.specs.declared.input.Input.TheVariants as input
use Rattle.iss_model.specs.declared.setting.Control.{Control}
use Rattle.iss_model.specs.declared.setting.Moved.TheVariants as moved
use Rattle.iss_model.specs.declared.setting.Window.{Window}
use Rattle.iss_model.specs.declared.setting.Window.TheVariants as window
use Rattle.iss_model.specs.declared.txn.Txn.{Txn}
use Rattle.iss_model.specs.declared.txn.UsageRow.{UsageRow}
use Rattle.iss_model.specs.rules.Activity.{TxnNow}
use Rattle.iss_model.specs.rules.Controls.{ControlPut, Group, control_replaced, counter_key, counts, span_key}
use Rattle.iss_model.specs.state.Cores.{ControlKept, CoreState, after_entry, after_setting, control_after_put, control_after_use, no_core, txn_after_end, with_control}
use Rattle.iss_model.specs.state.Kept.{Kept, after_changes, nothing_kept}
use Rattle.iss_model.proofs.Names.{its_name}
use Rattle.iss_state.specs.Entering.{AreEnterable}
use Rattle.iss_state.specs.Needs.{Fits, UsageNeeds}
use Rattle.iss_states.specs.Counted.{CountsTxns, are_keys_of_txns, counts_txns, is_key_of_txn}
use Rattle.iss_states.specs.OverBook.{keys_with}
use Rattle.iss_states.proofs.KeptKeys.{keys_after, no_keys}

-- tests of lists ----

both : (a b : Bool) → a ≡ true → b ≡ true → (a && b) ≡ true
both true true h k = refl
both true false h k = k
both false b h k = h

either : (a b : Bool) → b ≡ true → (a || b) ≡ true
either true b h = refl
either false b h = h

all_last : {A : Type 0} (p : A → Bool) (xs : List A) (x : A) → list_all p xs ≡ true → p x ≡ true → list_all p (xs ++ x ∷ []) ≡ true
all_last p [] x h last = both (p x) true last refl
all_last p (y ∷ ys) x h last =
    let parts = and_parts (p y) (list_all p ys) h in
    both (p y) (list_all p (ys ++ x ∷ [])) parts.0 (all_last p ys x parts.1 last)

all_mapped : {A : Type 0} (p q : A → Bool) (f : A → A) (xs : List A) → ((x : A) → p x ≡ true → q (f x) ≡ true) → list_all p xs ≡ true → list_all q (map f xs) ≡ true
all_mapped p q f [] step h = refl
all_mapped p q f (x ∷ xs) step h =
    let parts = and_parts (p x) (list_all p xs) h in
    both (q (f x)) (list_all q (map f xs)) (step x parts.0) (all_mapped p q f xs step parts.1)

all_weaker : {A : Type 0} (p q : A → Bool) (xs : List A) → ((x : A) → p x ≡ true → q x ≡ true) → list_all p xs ≡ true → list_all q xs ≡ true
all_weaker p q [] step h = refl
all_weaker p q (x ∷ xs) step h =
    let parts = and_parts (p x) (list_all p xs) h in
    both (q x) (list_all q xs) (step x parts.0) (all_weaker p q xs step parts.1)

any_more : {A : Type 0} (p : A → Bool) (xs ys : List A) → list_any p xs ≡ true → list_any p (xs ++ ys) ≡ true
any_more p [] ys h = cc
any_more p (x ∷ xs) ys h = by (p x) refl (any_more p xs ys)
  where
    rest : p x ≡ false → list_any p xs ≡ true
    rest e = sym (ap (λ (b : Bool). b || list_any p xs) e) ∙ h

    by : (b : Bool) → p x ≡ b → (list_any p xs ≡ true → list_any p (xs ++ ys) ≡ true) → (p x || list_any p (xs ++ ys)) ≡ true
    by true e later = ap (λ (b : Bool). b || list_any p (xs ++ ys)) e
    by false e later = either (p x) (list_any p (xs ++ ys)) (later (rest e))

-- keys ----

all_with : (p : List ℕ → Bool) (ks : List (List ℕ)) (key : List ℕ) → list_all p ks ≡ true → p key ≡ true → list_all p (keys_with ks key) ≡ true
all_with p [] key h one = both (p key) true one refl
all_with p (k ∷ ks) key h one =
    let parts = and_parts (p k) (list_all p ks) h in
    by (is_lt (slice_cmp nat_cmp key k)) (is_eq (slice_cmp nat_cmp key k)) (all_with p ks key parts.1 one) parts.0
  where
    by : (a b : Bool) → list_all p (keys_with ks key) ≡ true → p k ≡ true → list_all p (cond a (key ∷ k ∷ ks) (cond b (k ∷ ks) (k ∷ keys_with ks key))) ≡ true
    by true b rest first = both (p key) (list_all p (k ∷ ks)) one h
    by false true rest first = h
    by false false rest first = both (p k) (list_all p (keys_with ks key)) first rest

-- what is found of a token is among the keys
found_key : (txns : List TxnNow) (token : List ℕ) (its : Txn) → find (λ (x : Txn). bytes_eq x.token token) (map (λ (t : TxnNow). t.txn) txns) ≡ Some its
    → is_key_of_txn txns (counter_key its.user (pos its.origin)) ≡ true
found_key [] token its e = cc
found_key (t ∷ ts) token its e = by (bytes_eq t.txn.token token) refl (found_key ts token its)
  where
    key : Txn → List ℕ
    key x = counter_key x.user (pos x.origin)

    rest : bytes_eq t.txn.token token ≡ false → find (λ (x : Txn). bytes_eq x.token token) (map (λ (t : TxnNow). t.txn) ts) ≡ Some its
    rest other = sym (ap (λ (b : Bool). cond b (Some t.txn) (find (λ (x : Txn). bytes_eq x.token token) (map (λ (t : TxnNow). t.txn) ts))) other) ∙ e

    found : bytes_eq t.txn.token token ≡ true → t.txn ≡ its
    found same = let some : Some t.txn ≡ Some its = sym (ap (λ (b : Bool). cond b (Some t.txn) (find (λ (x : Txn). bytes_eq x.token token) (map (λ (t : TxnNow). t.txn) ts))) same) ∙ e in cc

    by : (b : Bool) → bytes_eq t.txn.token token ≡ b → (find (λ (x : Txn). bytes_eq x.token token) (map (λ (t : TxnNow). t.txn) ts) ≡ Some its → is_key_of_txn ts (key its) ≡ true)
        → (bytes_eq (key its) (key t.txn) || is_key_of_txn ts (key its)) ≡ true
    by true same later = ap (λ (b : Bool). b || is_key_of_txn ts (key its)) (ap (λ (x : Txn). bytes_eq (key its) (key x)) (found same) ∙ its_name (key its))
    by false other later = either (bytes_eq (key its) (key t.txn)) (is_key_of_txn ts (key its)) (later (rest other))

-- a control's keys stay those of transactions if there are more of these
keys_stay : (txns more : List TxnNow) (w : Window) (keys : List (List ℕ)) → ((key : List ℕ) → is_key_of_txn txns key ≡ true → is_key_of_txn more key ≡ true)
    → are_keys_of_txns txns w keys ≡ true → are_keys_of_txns more w keys ≡ true
keys_stay txns more window.Transaction keys step h = all_weaker (is_key_of_txn txns) (is_key_of_txn more) keys step h
keys_stay txns more window.Day keys step h = refl
keys_stay txns more window.Week keys step h = refl
keys_stay txns more window.Month keys step h = refl
keys_stay txns more window.Lifetime keys step h = refl

counts_stay : (txns more : List TxnNow) (ks : List ControlKept) → ((key : List ℕ) → is_key_of_txn txns key ≡ true → is_key_of_txn more key ≡ true)
    → list_all (counts_txns txns) ks ≡ true → list_all (counts_txns more) ks ≡ true
counts_stay txns more ks step h =
    all_weaker (counts_txns txns) (counts_txns more) ks (λ k. keys_stay txns more k.control.window (finite.keys k.amounts) step) h

-- use ----

used_keys : (txns : List TxnNow) (w : Window) (control : Control) (row : UsageRow) (amounts : Kept) (b : Bool) → is_key_of_txn txns (counter_key row.user (pos row.origin)) ≡ true
    → are_keys_of_txns txns w (finite.keys amounts) ≡ true
    → are_keys_of_txns txns w (finite.keys (after_changes amounts (cond b (record { key = span_key control w row; by = row.amount } ∷ []) []))) ≡ true
used_keys txns window.Transaction control row amounts true its h =
    ap (λ (ks : List (List ℕ)). list_all (is_key_of_txn txns) ks) (keys_after amounts (record { key = span_key control window.Transaction row; by = row.amount } ∷ []))
    ∙ all_with (is_key_of_txn txns) (finite.keys amounts) (counter_key row.user (pos row.origin)) h its
used_keys txns window.Transaction control row amounts false its h = h
used_keys txns window.Day control row amounts b its h = refl
used_keys txns window.Week control row amounts b its h = refl
used_keys txns window.Month control row amounts b its h = refl
used_keys txns window.Lifetime control row amounts b its h = refl

all_used : (txns : List TxnNow) (groups : List Group) (row : UsageRow) (ks : List ControlKept) → is_key_of_txn txns (counter_key row.user (pos row.origin)) ≡ true
    → list_all (counts_txns txns) ks ≡ true → list_all (counts_txns txns) (map (control_after_use groups (entry.Usage row)) ks) ≡ true
all_used txns groups row ks its h =
    all_mapped (counts_txns txns) (counts_txns txns) (control_after_use groups (entry.Usage row)) ks
    (λ k. used_keys txns k.control.window k.control row k.amounts (counts groups (record { number = k.first; control = k.control }) row) its) h

row_key : (s : CoreState) (row : UsageRow) → UsageNeeds s row → is_key_of_txn s.holdings.txns (counter_key row.user (pos row.origin)) ≡ true
row_key s row needs =
    ap (λ (user : List ℕ). is_key_of_txn s.holdings.txns (counter_key user (pos row.origin))) needs.of_user
    ∙ ap (λ (n : ℕ). is_key_of_txn s.holdings.txns (counter_key needs.its.user (pos n))) needs.of_origin
    ∙ found_key s.holdings.txns needs.its.token needs.its needs.stands

-- settings ----

put_counts : (txns : List TxnNow) (put : ControlPut) (k : ControlKept) → counts_txns txns k ≡ true → counts_txns txns (control_after_put put k) ≡ true
put_counts txns put k h = by (bytes_eq put.control.name k.control.name)
  where
    by : (b : Bool) → counts_txns txns (cond b (record k { control = control_replaced k.control put.control }) k) ≡ true
    by true = h
    by false = h

new_counts : (txns : List TxnNow) (w : Window) → are_keys_of_txns txns w (finite.keys nothing_kept) ≡ true
new_counts txns window.Transaction = ap (λ (ks : List (List ℕ)). list_all (is_key_of_txn txns) ks) no_keys
new_counts txns window.Day = refl
new_counts txns window.Week = refl
new_counts txns window.Month = refl
new_counts txns window.Lifetime = refl

with_put : (txns : List TxnNow) (ks : List ControlKept) (put : ControlPut) → list_all (counts_txns txns) ks ≡ true → list_all (counts_txns txns) (with_control ks put) ≡ true
with_put txns ks put h = by (list_any (λ k. bytes_eq k.control.name put.control.name) ks)
  where
    fresh : ControlKept
    fresh = record { first = put.number; control = put.control; amounts = nothing_kept; times = nothing_kept }

    by : (b : Bool) → list_all (counts_txns txns) (cond b (map (control_after_put put) ks) (ks ++ fresh ∷ [])) ≡ true
    by true = all_mapped (counts_txns txns) (counts_txns txns) (control_after_put put) ks (put_counts txns put) h
    by false = all_last (counts_txns txns) ks fresh h (new_counts txns put.control.window)

setting_counts : (s : CoreState) (i : Input) → CountsTxns s → CountsTxns (after_setting s i)
setting_counts s (input.User token user) h = h
setting_counts s (input.Card token card user product active) h = h
setting_counts s (input.Move token (moved.Card card to)) h = h
setting_counts s (input.Move token (moved.User user to)) h = h
setting_counts s (input.Product token product currency funding timeout_ms hold_ms) h = h
setting_counts s (input.Group token group mccs) h = h
setting_counts s (input.Control token control currency window amount_limit usage_limit association scope offset active) h = with_put s.holdings.txns s.controls _ h
setting_counts s (input.Set token set product currency connection timeout application max day_limit active) h = h
setting_counts s (input.Switch token product on) h = h
setting_counts s _ h = h

-- entries ----

ended_key : (txns : List TxnNow) (token key : List ℕ) → is_key_of_txn txns key ≡ true → is_key_of_txn (map (txn_after_end token) txns) key ≡ true
ended_key txns token key h = same txns ∙ h
  where
    one : (t : TxnNow) (b : Bool) → (cond b (record t { live = false }) t).txn ≡ t.txn
    one t true = refl
    one t false = refl

    same : (ts : List TxnNow) → is_key_of_txn (map (txn_after_end token) ts) key ≡ is_key_of_txn ts key
    same [] = refl
    same (t ∷ ts) =
        ap (λ (x : Txn). bytes_eq key (counter_key x.user (pos x.origin)) || is_key_of_txn (map (txn_after_end token) ts) key) (one t (bytes_eq token t.txn.token))
        ∙ ap (λ (b : Bool). bytes_eq key (counter_key t.txn.user (pos t.txn.origin)) || b) (same ts)

-- a core without a record counts nothing
pub nothing_counted : CountsTxns no_core
nothing_counted = refl

-- an entry that fits keeps it so
pub counted_after : (s : CoreState) (e : Entry) → Fits s e → CountsTxns s → CountsTxns (after_entry s e)
counted_after s (entry.Conf i) fit h = setting_counts s i h
counted_after s (entry.Began t) fit h =
    counts_stay s.holdings.txns _ s.controls (λ key. any_more (λ x. bytes_eq key (counter_key x.txn.user (pos x.txn.origin))) s.holdings.txns _) h
counted_after s (entry.Usage row) fit h = all_used s.holdings.txns s.groups row s.controls (row_key s row fit) h
counted_after s (entry.Ended txn) fit h = counts_stay s.holdings.txns (map (txn_after_end txn) s.holdings.txns) s.controls (ended_key s.holdings.txns txn) h
counted_after s _ fit h = h

-- so do entries that can be entered in turn
pub counted_all : (s : CoreState) (es : List Entry) → AreEnterable s es → CountsTxns s → CountsTxns (fold after_entry s es)
counted_all s [] enterable h = h
counted_all s (e ∷ es) enterable h = counted_all (after_entry s e) es enterable.1 (counted_after s e enterable.0.fit h)
