-- What is shown of transactions, and the counters that count a single one.
use Rattle.std.proofs.Common.{◌≡◌, ℕ, ℤ, pos, negsuc, Bool, true, false, cond, not, List, [], ◌∷◌, ◌++◌, ◌==◌, ◌&&◌, ◌||◌, nat_lt, nat_le, length, get_or, drop, map, refl, sym, ap, ap₂, ◌∙◌, arith}
use Rattle.std.specs.Prelude.{Option, Some, None, find, is_some, option_map, unwrap_or}
use Rattle.std.specs.BTreeMap.{BTreeMap, get}
use Rattle.std.specs.Bool.{one_answer}
use Rattle.std.specs.FinMap as finite
use Rattle.std.specs.List.{flat_map, list_all}
use Rattle.std.specs.Option.{option_or}
use Rattle.std.specs.Ordering.{int_cmp, int_eq}
use Rattle.std.specs.Str.{bytes_eq}
use Rattle.std.proofs.lemmas.Bool.{and_parts}
use Rattle.std.proofs.lemmas.Bool.Decides.{Decides-int_eq, nat_tests}
use Rattle.std.proofs.lemmas.List.{nil_from_length}
use Rattle.std.proofs.lemmas.List.Folds.{find-append, list_all-append}
use Rattle.iss_model.specs.declared.counted.Counter.{Counter}
use Rattle.iss_model.specs.declared.counted.Span.TheVariants as span
use Rattle.iss_model.specs.declared.setting.Window.{Window}
use Rattle.iss_model.specs.declared.setting.Window.TheVariants as window
use Rattle.iss_model.specs.declared.state.Carried.{Carried}
use Rattle.iss_model.specs.Tokens.{is_token, is_token_byte}
use Rattle.iss_model.specs.rules.Controls.{counter_key}
use Rattle.iss_model.specs.rules.Activity.{TxnNow, txn_named}
use Rattle.iss_model.specs.rules.Facts.{not_below}
use Rattle.iss_model.specs.state.Cores.{ControlKept}
use Rattle.iss_model.proofs.Lists.{map-map}
use Rattle.iss_model.specs.rules.Settings.{is_named_in}
use Rattle.iss_model.proofs.Names.{its_name, name-sym, one_name}
use Rattle.iss_state.specs.Stakes.{are_distinct, txn_tokens}
use Rattle.iss_states.specs.Counted.{are_keys_of_txns, counts_txns, is_key_of_txn}
use Rattle.iss_states.specs.Keys.{after_token, has_no_zero, int_of_key}
use Rattle.iss_states.specs.Showing.{counters_of, span_at}
use Rattle.iss_states.proofs.Keys.{number_again}
use Rattle.iss_chain.specs.Carrying.{carried_of}
use Rattle.iss_chain.specs.Values.{ChainNow}
use Rattle.iss_velocity.specs.declared.counted.Counted.{Counted}
use Rattle.iss_velocity.specs.Keeping as velocity
use Rattle.iss_velocity.specs.Showing.{CounterEntry, counted_entry, entries_of_control, entry_of}
use Rattle.iss_core.specs.Showing.{AreOrigins, ArePlain, begun_by, carried_by_origin, counter_by, counter_shown, has_span, is_number, is_plain_txn, is_span_known, named_plain, origin_named, span_by}
use Rattle.iss_core.proofs.ShownKeys.{above, plain, counters_are}

-- the transactions by their first records ----

-- the numbers are those of the transactions that went in: for another one, that is found among those that are left
abbrev AreOriginsFrom : List TxnNow → List Carried → List Carried → BTreeMap ℤ (List ℕ) → Type 0
AreOriginsFrom txns all left origins =
    (number : ℤ) → option_or (carried_by_origin txns left number) (get int_cmp origins number) ≡ carried_by_origin txns all number

-- the users of these transactions have plain names
abbrev are_plain : List TxnNow → List Carried → Bool
are_plain txns cs = list_all (λ (c : Carried). named_plain txns c.txn) cs

-- all but those that are left went in, and have users with plain names
pub record AreEntering (txns : List TxnNow) (all left : List Carried) (origins : BTreeMap ℤ (List ℕ)) : Type 0 where
  pub entered : AreOriginsFrom txns all left origins
  pub plain : are_plain txns left ≡ true → are_plain txns all ≡ true

further : (c : Carried) (b : Bool) (o : Option Carried) (rest : Option (List ℕ))
    → option_or (option_map (λ (x : Carried). x.txn) o) (cond b (Some c.txn) rest)
    ≡ option_or (option_map (λ (x : Carried). x.txn) (option_or o (cond b (Some c) None))) rest
further c b (Some x) rest = refl
further c true None rest = refl
further c false None rest = refl

pub one_entered : (txns : List TxnNow) (all left : List Carried) (c : Carried) (before after : BTreeMap ℤ (List ℕ)) (origin : Option ℕ) → origin ≡ origin_named txns c.txn
    → named_plain txns c.txn ≡ true → AreEntering txns all (left ++ c ∷ []) before
    → ((number : ℤ) → get int_cmp after number ≡ cond (is_number number origin) (Some c.txn) (get int_cmp before number)) → AreEntering txns all left after
one_entered txns all left c before after origin is named was put =
    record {
      entered = λ number.
          let has = λ (x : Carried). is_number number (origin_named txns x.txn) in
          let old = get int_cmp before number in
          ap (λ (o : Option (List ℕ)). option_or (carried_by_origin txns left number) o)
          (put number ∙ ap (λ (o : Option ℕ). cond (is_number number o) (Some c.txn) old) is)
          ∙ further c (has c) (find has left) old
          ∙ ap (λ (o : Option Carried). option_or (option_map (λ (x : Carried). x.txn) o) old) (sym (find-append has left (c ∷ [])))
          ∙ was.entered number;
      plain = λ h.
          was.plain
          (list_all-append (λ (x : Carried). named_plain txns x.txn) left (c ∷ [])
          ∙ ap₂ (λ (a b : Bool). a && (b && true)) h named);
    }

-- each of these is the first transaction of its token
abbrev Owned : List TxnNow → List TxnNow → Type 0
Owned all [] = Unit {0}
Owned all (t ∷ ts) = (txn_named t.txn.token all ≡ Some t) × Owned all ts

neither : (a b : Bool) → (a || b) ≡ false → (a ≡ false) × (b ≡ false)
neither true b h = cc
neither false b h = (refl, h)

past : (t : TxnNow) (all ts : List TxnNow) → is_named_in (txn_tokens ts) t.txn.token ≡ false → Owned all ts → Owned (t ∷ all) ts
past t all [] h own = tt
past t all (u ∷ us) h own =
    let apart = neither (bytes_eq u.txn.token t.txn.token) (is_named_in (txn_tokens us) t.txn.token) h in
    (ap (λ (b : Bool). cond b (Some t) (txn_named u.txn.token all)) (name-sym t.txn.token u.txn.token ∙ apart.0) ∙ own.0, past t all us apart.1 own.1)

all_owned : (ts : List TxnNow) → are_distinct (txn_tokens ts) ≡ true → Owned ts ts
all_owned [] h = tt
all_owned (t ∷ ts) h =
    let parts = and_parts (not (is_named_in (txn_tokens ts) t.txn.token)) (are_distinct (txn_tokens ts)) h in (
      ap (λ (b : Bool). cond b (Some t) (txn_named t.txn.token ts)) (its_name t.txn.token),
      past t ts ts (unnamed (is_named_in (txn_tokens ts) t.txn.token) parts.0) (all_owned ts parts.1),
    )
  where
    unnamed : (b : Bool) → not b ≡ true → b ≡ false
    unnamed true e = cc
    unnamed false e = refl

by_token : (txns ts : List TxnNow) (cs : List Carried) → Owned txns ts → map (λ (c : Carried). c.txn) cs ≡ txn_tokens ts → (number : ℤ) → carried_by_origin txns cs number ≡ begun_by ts number
by_token txns [] [] own e number = refl
by_token txns [] (c ∷ cs) own e number = cc
by_token txns (t ∷ ts) [] own e number = cc
by_token txns (t ∷ ts) (c ∷ cs) own e number =
    let same : c.txn ≡ t.txn.token = ap (λ (xs : List (List ℕ)). get_or xs 0 []) e in
    let rest : map (λ (x : Carried). x.txn) cs ≡ txn_tokens ts = ap (λ (xs : List (List ℕ)). drop 1 xs) e in
    let origin : origin_named txns c.txn ≡ Some t.txn.origin = ap (origin_named txns) same ∙ ap (option_map (λ (x : TxnNow). x.txn.origin)) own.0 in
    ap (λ (o : Option ℕ). option_map (λ (x : Carried). x.txn) (cond (is_number number o) (Some c) (find (λ (x : Carried). is_number number (origin_named txns x.txn)) cs))) origin
    ∙ pick (int_eq (pos t.txn.origin) number) same (by_token txns ts cs own.1 rest number)
  where
    pick : (b : Bool) → c.txn ≡ t.txn.token → carried_by_origin txns cs number ≡ begun_by ts number
        → option_map (λ (x : Carried). x.txn) (cond b (Some c) (find (λ (x : Carried). is_number number (origin_named txns x.txn)) cs))
        ≡ option_map (λ (x : TxnNow). x.txn.token) (cond b (Some t) (find (λ (x : TxnNow). int_eq (pos x.txn.origin) number) ts))
    pick true same rest = ap (λ (token : List ℕ). Some token) same
    pick false same rest = rest

pub origins_are : (txns : List TxnNow) (all left : List Carried) (origins : BTreeMap ℤ (List ℕ)) → are_distinct (txn_tokens txns) ≡ true → map (λ (c : Carried). c.txn) all ≡ txn_tokens txns
    → length left ≡ 0 → AreEntering txns all left origins → AreOrigins txns origins
origins_are txns all left origins distinct tokens empty entering number =
    sym (ap (λ (ls : List Carried). option_or (carried_by_origin txns ls number) (get int_cmp origins number)) (nil_from_length left empty))
    ∙ entering.entered number
    ∙ by_token txns txns all (all_owned txns distinct) tokens number

plain_by_token : (txns ts : List TxnNow) (cs : List Carried) → Owned txns ts → map (λ (c : Carried). c.txn) cs ≡ txn_tokens ts → are_plain txns cs ≡ true → ArePlain ts
plain_by_token txns [] cs own e h = refl
plain_by_token txns (t ∷ ts) [] own e h = cc
plain_by_token txns (t ∷ ts) (c ∷ cs) own e h =
    let same : c.txn ≡ t.txn.token = ap (λ (xs : List (List ℕ)). get_or xs 0 []) e in
    let rest : map (λ (x : Carried). x.txn) cs ≡ txn_tokens ts = ap (λ (xs : List (List ℕ)). drop 1 xs) e in
    let parts = and_parts (named_plain txns c.txn) (are_plain txns cs) h in
    let user : has_no_zero t.txn.user ≡ true = sym (ap (named_plain txns) same ∙ ap is_plain_txn own.0) ∙ parts.0 in
    ap₂ (λ (x y : Bool). x && y) user (plain_by_token txns ts cs own.1 rest parts.1)

pub users_plain : (txns : List TxnNow) (all left : List Carried) (origins : BTreeMap ℤ (List ℕ)) → are_distinct (txn_tokens txns) ≡ true → map (λ (c : Carried). c.txn) all ≡ txn_tokens txns
    → length left ≡ 0 → AreEntering txns all left origins → ArePlain txns
users_plain txns all left origins distinct tokens empty entering =
    plain_by_token txns txns all (all_owned txns distinct) tokens (entering.plain (ap (are_plain txns) (nil_from_length left empty)))

-- each counter of a single transaction has its span ----

-- a key is of a transaction that stands, if the window is that of single transactions
abbrev is_key_known : List TxnNow → Window → List ℕ → Bool
is_key_known txns window.Transaction key = is_key_of_txn txns key
is_key_known txns window.Day key = true
is_key_known txns window.Week key = true
is_key_known txns window.Month key = true
is_key_known txns window.Lifetime key = true

abbrev is_entry_known : List TxnNow → CounterEntry → Bool
is_entry_known txns e = is_key_known txns e.1.0 e.1.1.0

all_true : (keys : List (List ℕ)) → list_all (λ key. true) keys ≡ true
all_true [] = refl
all_true (key ∷ keys) = all_true keys

keys_known : (txns : List TxnNow) (w : Window) (keys : List (List ℕ)) → are_keys_of_txns txns w keys ≡ true → list_all (is_key_known txns w) keys ≡ true
keys_known txns window.Transaction keys h = h
keys_known txns window.Day keys h = all_true keys
keys_known txns window.Week keys h = all_true keys
keys_known txns window.Month keys h = all_true keys
keys_known txns window.Lifetime keys h = all_true keys

entries_known : (txns : List TxnNow) (k : ControlKept) (es : List (List ℕ × ℤ)) → list_all (is_key_known txns k.control.window) (map (λ (e : List ℕ × ℤ). e.0) es) ≡ true
    → list_all (is_entry_known txns) (map (entry_of k) es) ≡ true
entries_known txns k [] h = refl
entries_known txns k (e ∷ es) h =
    let parts = and_parts (is_key_known txns k.control.window e.0) (list_all (is_key_known txns k.control.window) (map (λ (x : List ℕ × ℤ). x.0) es)) h in
    ap₂ (λ (x y : Bool). x && y) parts.0 (entries_known txns k es parts.1)

all_known : (txns : List TxnNow) (ks : List ControlKept) → list_all (counts_txns txns) ks ≡ true → list_all (is_entry_known txns) (flat_map entries_of_control ks) ≡ true
all_known txns [] h = refl
all_known txns (k ∷ ks) h =
    let parts = and_parts (counts_txns txns k) (list_all (counts_txns txns) ks) h in
    list_all-append (is_entry_known txns) (entries_of_control k) (flat_map entries_of_control ks)
    ∙ ap₂ (λ (x y : Bool). x && y) (entries_known txns k (finite.entries k.amounts) (keys_known txns k.control.window (finite.keys k.amounts) parts.0)) (all_known txns ks parts.1)

own_number : (n : ℕ) → int_eq (pos n) (pos n) ≡ true
own_number n = (Decides-int_eq (pos n) (pos n)).1 refl

first_or : (b : Bool) (t : TxnNow) (o : Option TxnNow) → is_some (option_map (λ (x : TxnNow). x.txn.token) o) ≡ true
    → is_some (option_map (λ (x : TxnNow). x.txn.token) (cond b (Some t) o)) ≡ true
first_or true t o h = refl
first_or false t o h = h

txn_known : (txns : List TxnNow) (user : List ℕ) (n : ℤ) → has_no_zero user ≡ true → ArePlain txns → is_key_of_txn txns (counter_key user n) ≡ true → is_some (begun_by txns n) ≡ true
txn_known [] user n named all h = cc
txn_known (t ∷ ts) user n named all h =
    let parts = and_parts (has_no_zero t.txn.user) (list_all (λ (x : TxnNow). has_no_zero x.txn.user) ts) all in
    by (bytes_eq (counter_key user n) (counter_key t.txn.user (pos t.txn.origin))) parts.0
    (one_name (counter_key user n) (counter_key t.txn.user (pos t.txn.origin))) h (txn_known ts user n named parts.1)
  where
    by : (b : Bool) → has_no_zero t.txn.user ≡ true → (b ≡ true → counter_key user n ≡ counter_key t.txn.user (pos t.txn.origin))
        → (b || is_key_of_txn ts (counter_key user n)) ≡ true → (is_key_of_txn ts (counter_key user n) ≡ true → is_some (begun_by ts n) ≡ true)
        → is_some (begun_by (t ∷ ts) n) ≡ true
    by true own same k rest =
        let number : n ≡ pos t.txn.origin = sym (number_again user n named) ∙ ap (λ (key : List ℕ). int_of_key (after_token key)) (same refl) ∙ number_again t.txn.user (pos t.txn.origin) own in
        let head : int_eq (pos t.txn.origin) n ≡ true = ap (int_eq (pos t.txn.origin)) number ∙ own_number t.txn.origin in
        ap (λ (b : Bool). is_some (option_map (λ (x : TxnNow). x.txn.token) (cond b (Some t) (find (λ (x : TxnNow). int_eq (pos x.txn.origin) n) ts)))) head
    by false own same k rest = first_or (int_eq (pos t.txn.origin) n) t (find (λ (x : TxnNow). int_eq (pos x.txn.origin) n) ts) (rest k)

span_known : (txns : List TxnNow) (origins : BTreeMap ℤ (List ℕ)) → AreOrigins txns origins → ArePlain txns → (w : Window) (user : List ℕ) (n : ℤ) → has_no_zero user ≡ true
    → is_key_known txns w (counter_key user n) ≡ true → is_span_known origins w n ≡ true
span_known txns origins begun all window.Transaction user n named h = ap is_some (begun n) ∙ txn_known txns user n named all h
span_known txns origins begun all window.Day user n named h = refl
span_known txns origins begun all window.Week user n named h = refl
span_known txns origins begun all window.Month user n named h = refl
span_known txns origins begun all window.Lifetime user n named h = refl

spans_known : (txns : List TxnNow) (origins : BTreeMap ℤ (List ℕ)) → AreOrigins txns origins → ArePlain txns → (cs : List Counted) → list_all (is_entry_known txns) (map counted_entry cs) ≡ true
    → list_all (λ (c : Counted). velocity.has_no_zero c.user) cs ≡ true → list_all (has_span origins) cs ≡ true
spans_known txns origins begun all [] h named = refl
spans_known txns origins begun all (c ∷ cs) h named =
    let names = and_parts (velocity.has_no_zero c.user) (list_all (λ (x : Counted). velocity.has_no_zero x.user) cs) named in
    let parts = and_parts (is_key_known txns c.window (counter_key c.user c.number)) (list_all (is_entry_known txns) (map counted_entry cs)) h in
    ap₂ (λ (x y : Bool). x && y) (span_known txns origins begun all c.window c.user c.number (sym (plain c.user) ∙ names.0) parts.0) (spans_known txns origins begun all cs parts.1 names.1)

pub spans_stand : (txns : List TxnNow) (ks : List ControlKept) (cs : List Counted) (origins : BTreeMap ℤ (List ℕ)) → AreOrigins txns origins → ArePlain txns
    → list_all (counts_txns txns) ks ≡ true → map counted_entry cs ≡ flat_map entries_of_control ks → list_all (λ (c : Counted). velocity.has_no_zero c.user) cs ≡ true
    → list_all (has_span origins) cs ≡ true
spans_stand txns ks cs origins begun all counted is named =
    spans_known txns origins begun all cs (ap (list_all (is_entry_known txns)) is ∙ all_known txns ks counted) named

-- no record has a number below 0
none_below : (txns : List TxnNow) (m : ℕ) → begun_by txns (negsuc m) ≡ None
none_below [] m = refl
none_below (t ∷ ts) m = none_below ts m

one_number : (a b : ℕ) → int_eq (pos a) (pos b) ≡ (a == b)
one_number a b =
    one_answer (int_eq (pos a) (pos b)) (a == b) (Decides-int_eq (pos a) (pos b))
    (λ h. ap pos (nat_is h), λ e. is_nat (ap not_below e))
  where
    nat_is : (a == b) ≡ true → a ≡ b
    nat_is h = grind (arith, nat_tests)

    is_nat : a ≡ b → (a == b) ≡ true
    is_nat e = grind (arith, nat_tests)

found_by_number : (txns : List TxnNow) (k : ℕ) → find (λ (t : TxnNow). int_eq (pos t.txn.origin) (pos k)) txns ≡ find (λ (t : TxnNow). t.txn.origin == k) txns
found_by_number [] k = refl
found_by_number (t ∷ ts) k = ap₂ (λ (b : Bool) (o : Option TxnNow). cond b (Some t) o) (one_number t.txn.origin k) (found_by_number ts k)

same_span : (txns : List TxnNow) (origins : BTreeMap ℤ (List ℕ)) → AreOrigins txns origins → (w : Window) (n : ℤ) → is_span_known origins w n ≡ true → span_by origins w n ≡ span_at txns w n
same_span txns origins begun window.Transaction (pos k) h =
    ap (λ (o : Option (List ℕ)). span.Txn (unwrap_or o []))
    (begun (pos k) ∙ ap (option_map (λ (t : TxnNow). t.txn.token)) (found_by_number txns k))
same_span txns origins begun window.Transaction (negsuc m) h =
    let wrong : false ≡ true = sym (ap is_some (begun (negsuc m) ∙ none_below txns m)) ∙ h in cc
same_span txns origins begun window.Day n h = refl
same_span txns origins begun window.Week n h = refl
same_span txns origins begun window.Month n h = refl
same_span txns origins begun window.Lifetime n h = refl

same_counters : (txns : List TxnNow) (origins : BTreeMap ℤ (List ℕ)) → AreOrigins txns origins → (cs : List Counted) → list_all (has_span origins) cs ≡ true
    → map (counter_by origins) cs ≡ map (counter_shown txns) cs
same_counters txns origins begun [] h = refl
same_counters txns origins begun (c ∷ cs) h =
    let parts = and_parts (has_span origins c) (list_all (has_span origins) cs) h in
    ap₂ (λ (x : Counter) (xs : List Counter). x ∷ xs)
    (λ i. record (counter_shown txns c) { span = same_span txns origins begun c.window c.number parts.0 i }) (same_counters txns origins begun cs parts.1)

pub counters_shown_are : (txns : List TxnNow) (ks : List ControlKept) (cs : List Counted) (origins : BTreeMap ℤ (List ℕ)) → AreOrigins txns origins → list_all (has_span origins) cs ≡ true
    → map counted_entry cs ≡ flat_map entries_of_control ks → list_all (λ (c : Counted). velocity.has_no_zero c.user) cs ≡ true
    → map (counter_by origins) cs ≡ flat_map (counters_of txns) ks
counters_shown_are txns ks cs origins begun known is named = same_counters txns origins begun cs known ∙ counters_are txns ks cs is named

-- the transactions that are carried ----

pub tokens_carried : (c : ChainNow) (cs : List Carried) (txns : List TxnNow) → cs ≡ map (carried_of c) txns → map (λ (x : Carried). x.txn) cs ≡ txn_tokens txns
tokens_carried c cs txns is = ap (map (λ (x : Carried). x.txn)) is ∙ map-map (carried_of c) (λ (x : Carried). x.txn) txns

above_in_token : (b : ℕ) → is_token_byte b ≡ true → nat_lt 0 b ≡ true
above_in_token b h = grind (arith, nat_tests)

all_above : (bs : List ℕ) → list_all is_token_byte bs ≡ true → has_no_zero bs ≡ true
all_above [] h = refl
all_above (b ∷ bs) h =
    let parts = and_parts (is_token_byte b) (list_all is_token_byte bs) h in
    ap₂ (λ (x y : Bool). x && y) (sym (above b) ∙ above_in_token b parts.0) (all_above bs parts.1)

pub token_plain : (bs : List ℕ) → is_token bs ≡ true → has_no_zero bs ≡ true
token_plain bs h = all_above bs (and_parts (nat_le 1 (length bs) && nat_le (length bs) 36) (list_all is_token_byte bs) h).1
