-- Due items and their names: what is found under a name is the item again.
use Rattle.std.proofs.Common.{◌≡◌, ℕ, nat_lt, nat_le, ◌==◌, Bool, true, false, cond, not, ◌&&◌, ◌||◌, List, [], ◌∷◌, ◌++◌, map, fold, filter, suc, ◌+◌, ◌<◌, ◌≤◌, length, drop, get_or, add-one, drop-cons, refl, sym, ap, subst, append_assoc, ◌∙◌, arith}
use Rattle.std.specs.Prelude.{Option, Some, None}
use Rattle.std.specs.Str.{bytes_eq}
use Rattle.std.proofs.lemmas.Bool.Decides.{nat_tests}
use Rattle.std.proofs.lemmas.List.{map-append, drop_all}
use Rattle.iss_model.specs.declared.call.CallId.{CallId}
use Rattle.iss_model.specs.rules.Activity.{TxnNow, CallNow, is_asked, txn_named, call_numbered}
use Rattle.iss_model.specs.rules.Due.{DueThing, DueItem, call_due, txn_due, due_call, due_txn, due_items, is_before, items_with}
use Rattle.iss_model.specs.state.Cores.{CoreState, core_facts}
use Rattle.iss_model.proofs.Names.{its_name, one_name}
use Rattle.iss_state.specs.Dockets.{docket_of}
use Rattle.iss_state.specs.Well.{HaveOwnTokens, IsWellAmong, Known}
use Rattle.iss_state.proofs.docket.Closing.{StandsItself, all_stand}
use Rattle.iss_state.proofs.docket.Lists.{Each, each_weaker}
use Rattle.iss_call.specs.States.{calls_due}
use Rattle.iss_hold.specs.Expiries.{txns_due}
use Rattle.iss_core.specs.declared.due.Due.{Due}
use Rattle.iss_core.specs.declared.due.Due.TheVariants.{Call, Txn}
use Rattle.iss_core.specs.Sweeps.{thing_of, HasOwnNames, AreOrdered, deadline_of, expiry_of, origin_of, call_item, txn_item, call_items, txn_items, calls_until, calls_after}
use Rattle.iss_core.proofs.Merging.{ordered_all, both_due, head_stays, first_stays, first_goes}

-- what holds of each item ----

each_kept : {A : Type 0} (P : A → Type 0) (p : A → Bool) (xs : List A) → Each P xs → Each P (filter p xs)
each_kept P p [] all = tt
each_kept P p (x ∷ xs) all =
    elim (p x) as (λ t. Each P (cond t (x ∷ filter p xs) (filter p xs))) [ true ↦ (all.0, each_kept P p xs all.1) | false ↦ each_kept P p xs all.1 ]

each_mapped : {A B : Type 0} (P : B → Type 0) (f : A → B) (xs : List A) → Each (λ x. P (f x)) xs → Each P (map f xs)
each_mapped P f [] all = tt
each_mapped P f (x ∷ xs) all = (all.0, each_mapped P f xs all.1)

each_with : (P : DueItem → Type 0) (items : List DueItem) (x : DueItem) → Each P items → P x → Each P (items_with items x)
each_with P [] x all own = (own, tt)
each_with P (a ∷ items) x all own =
    elim (is_before x a) as (λ t. Each P (cond t (x ∷ a ∷ items) (a ∷ items_with items x))) [
      | true ↦ (own, all)
      | false ↦ (all.0, each_with P items x all.1 own)
    ]

each_placed : (P : DueItem → Type 0) (items xs : List DueItem) → Each P items → Each P xs → Each P (fold items_with items xs)
each_placed P items [] had all = had
each_placed P items (x ∷ xs) had all = each_placed P (items_with items x) xs (each_with P items x had all.0) all.1

-- things as items ----

-- a due thing as the item that is found under its name
abbrev pub item_of : CoreState → DueThing → DueItem
item_of s (call_due number) = call_item s.calls number
item_of s (txn_due token) = txn_item s.holdings.txns token

-- an item is found again under its name
abbrev IsFoundAgain : CoreState → DueItem → Type 0
IsFoundAgain s item = item_of s item.thing ≡ item

found_again : (s : CoreState) (items : List DueItem) → Each (IsFoundAgain s) items → map (item_of s) (map (λ item. item.thing) items) ≡ items
found_again s [] all = refl
found_again s (item ∷ items) all =
    ap (λ (x : DueItem). x ∷ map (item_of s) (map (λ item. item.thing) items)) all.0 ∙ ap (λ (rest : List DueItem). item ∷ rest) (found_again s items all.1)

call_again : (s : CoreState) (c : CallNow) → StandsItself s.calls c → IsFoundAgain s (due_call c)
call_again s c e =
    ap (λ (o : Option CallNow). record { since = deadline_of o; rank = 0; number = c.opened.call.0; thing = call_due c.opened.call.0 }) e

calls_again : (s : CoreState) (at : ℕ) → HasOwnNames s → Each (IsFoundAgain s) (calls_due s.calls at)
calls_again s at own =
    let all = each_weaker (StandsItself s.calls) (λ c. IsFoundAgain s (due_call c)) (call_again s) s.calls (all_stand s.calls own.numbers) in
    each_placed (IsFoundAgain s) [] (filter (λ item. nat_le item.since at) (map due_call (filter is_asked s.calls))) tt
    (each_kept (IsFoundAgain s) (λ item. nat_le item.since at) (map due_call (filter is_asked s.calls))
    (each_mapped (IsFoundAgain s) due_call (filter is_asked s.calls) (each_kept (λ c. IsFoundAgain s (due_call c)) is_asked s.calls all)))

-- a transaction stands under its own token
abbrev StandsThere : List TxnNow → TxnNow → Type 0
StandsThere txns t = txn_named t.txn.token txns ≡ Some t

stands_later : (t : TxnNow) (ts : List TxnNow) → txn_named t.txn.token ts ≡ None → (u : TxnNow) → StandsThere ts u → StandsThere (t ∷ ts) u
stands_later t ts none u e = by (bytes_eq t.txn.token u.txn.token) refl
  where
    by : (b : Bool) → bytes_eq t.txn.token u.txn.token ≡ b → cond b (Some t) (txn_named u.txn.token ts) ≡ Some u
    by true h = let gone : txn_named u.txn.token ts ≡ None = ap (λ (k : List ℕ). txn_named k ts) (sym (one_name t.txn.token u.txn.token h)) ∙ none in cc
    by false h = e

all_there : (ts : List TxnNow) → HaveOwnTokens ts → Each (StandsThere ts) ts
all_there [] own = tt
all_there (t ∷ ts) own = (
  ap (λ (b : Bool). cond b (Some t) (txn_named t.txn.token ts)) (its_name t.txn.token),
  each_weaker (StandsThere ts) (StandsThere (t ∷ ts)) (stands_later t ts own.0) ts (all_there ts own.1),
)

txn_again : (s : CoreState) (t : TxnNow) → StandsThere s.holdings.txns t → IsFoundAgain s (due_txn t)
txn_again s t e =
    ap (λ (o : Option TxnNow). record { since = expiry_of o; rank = 1; number = origin_of o; thing = txn_due t.txn.token }) e

txns_again : (s : CoreState) (at : ℕ) → HasOwnNames s → Each (IsFoundAgain s) (txns_due s.holdings at)
txns_again s at own =
    let live : TxnNow → Bool = λ t. t.live in
    let all = each_weaker (StandsThere s.holdings.txns) (λ t. IsFoundAgain s (due_txn t)) (txn_again s) s.holdings.txns (all_there s.holdings.txns own.tokens) in
    each_placed (IsFoundAgain s) [] (filter (λ item. nat_le item.since at) (map due_txn (filter live s.holdings.txns))) tt
    (each_kept (IsFoundAgain s) (λ item. nat_le item.since at) (map due_txn (filter live s.holdings.txns))
    (each_mapped (IsFoundAgain s) due_txn (filter live s.holdings.txns) (each_kept (λ t. IsFoundAgain s (due_txn t)) live s.holdings.txns all)))

called_items : (s : CoreState) (ids : List CallId) → map (item_of s) (map (λ id. call_due id.0) ids) ≡ call_items s.calls ids
called_items s [] = refl
called_items s (id ∷ ids) = ap (λ (rest : List DueItem). call_item s.calls id.0 ∷ rest) (called_items s ids)

named_items : (s : CoreState) (tokens : List (List ℕ)) → map (item_of s) (map (λ token. txn_due token) tokens) ≡ txn_items s.holdings.txns tokens
named_items s [] = refl
named_items s (token ∷ tokens) = ap (λ (rest : List DueItem). txn_item s.holdings.txns token ∷ rest) (named_items s tokens)

-- the calls that are due are found as their items
pub calls_found : (s : CoreState) (at : ℕ) (ids : List CallId) → HasOwnNames s → map (λ id. call_due id.0) ids ≡ map (λ item. item.thing) (calls_due s.calls at)
    → call_items s.calls ids ≡ calls_due s.calls at
calls_found s at ids own e = sym (called_items s ids) ∙ ap (map (item_of s)) e ∙ found_again s (calls_due s.calls at) (calls_again s at own)

-- the transactions that are due are found as their items
pub txns_found : (s : CoreState) (at : ℕ) (tokens : List (List ℕ)) → HasOwnNames s
    → map (λ token. txn_due token) tokens ≡ map (λ item. item.thing) (txns_due s.holdings at)
    → txn_items s.holdings.txns tokens ≡ txns_due s.holdings at
txns_found s at tokens own e = sym (named_items s tokens) ∙ ap (map (item_of s)) e ∙ found_again s (txns_due s.holdings at) (txns_again s at own)

pub txns_ordered : (s : CoreState) (at : ℕ) (tokens : List (List ℕ)) → HasOwnNames s
    → map (λ token. txn_due token) tokens ≡ map (λ item. item.thing) (txns_due s.holdings at)
    → AreOrdered (txn_items s.holdings.txns tokens)
txns_ordered s at tokens own e =
    subst AreOrdered (sym (txns_found s at tokens own e))
    (ordered_all [] (filter (λ item. nat_le item.since at) (map due_txn (filter (λ t. t.live) s.holdings.txns))) tt)

-- what is due is the items of the calls and transactions that were found, in one order
pub all_found : (s : CoreState) (at : ℕ) (ids : List CallId) (tokens : List (List ℕ)) → HasOwnNames s
    → map (λ id. call_due id.0) ids ≡ map (λ item. item.thing) (calls_due s.calls at)
    → map (λ token. txn_due token) tokens ≡ map (λ item. item.thing) (txns_due s.holdings at)
    → fold items_with (call_items s.calls ids) (txn_items s.holdings.txns tokens) ≡ due_items (core_facts s) at
all_found s at ids tokens own d e =
    ap (λ (items : List DueItem). fold items_with items (txn_items s.holdings.txns tokens)) (calls_found s at ids own d)
    ∙ ap (fold items_with (calls_due s.calls at)) (txns_found s at tokens own e)
    ∙ sym (both_due s at)

-- a transaction between the calls ----

after_numbers : (u n d m : ℕ) (b : Bool) → nat_le d u ≡ b → (nat_lt u d || u == d && (nat_lt 1 0 || 1 == 0 && nat_lt n m)) ≡ not b
after_numbers u n d m b h = grind (arith, nat_tests)

next_by : (calls : List CallNow) (until : ℕ) (t : DueItem) (id : CallId) (ids : List CallId) (ts : List DueItem) (b : Bool)
    → is_before t (call_item calls id.0) ≡ not b → AreOrdered (t ∷ ts)
    → fold items_with (call_items calls ids) (t ∷ ts) ≡ call_items calls (calls_until calls until ids) ++ t ∷ fold items_with (call_items calls (calls_after calls until ids)) ts
    → fold items_with (call_item calls id.0 ∷ call_items calls ids) (t ∷ ts)
    ≡ call_items calls (cond b (id ∷ calls_until calls until ids) []) ++ t ∷ fold items_with (call_items calls (cond b (calls_after calls until ids) (id ∷ ids))) ts
next_by calls until t id ids ts true h o rest =
    first_stays (call_item calls id.0) t (call_items calls ids) ts h o ∙ ap (λ (items : List DueItem). call_item calls id.0 ∷ items) rest
next_by calls until t id ids ts false h o rest = first_goes (call_item calls id.0) t (call_items calls ids) ts h o

-- the first calls go before a transaction, and the others are placed among those after it
pub next_txn : (calls : List CallNow) (txns : List TxnNow) (ids : List CallId) (token : List ℕ) (ts : List DueItem) → AreOrdered (txn_item txns token ∷ ts)
    → fold items_with (call_items calls ids) (txn_item txns token ∷ ts)
    ≡ call_items calls (calls_until calls (expiry_of (txn_named token txns)) ids)
    ++ txn_item txns token ∷ fold items_with (call_items calls (calls_after calls (expiry_of (txn_named token txns)) ids)) ts
next_txn calls txns [] token ts o = head_stays (txn_item txns token) [] ts o.0
next_txn calls txns (id ∷ ids) token ts o =
    let until : ℕ = expiry_of (txn_named token txns) in
    let deadline : ℕ = deadline_of (call_numbered id.0 calls) in
    next_by calls until (txn_item txns token) id ids ts (nat_le deadline until)
    (after_numbers until (origin_of (txn_named token txns)) deadline id.0 (nat_le deadline until) refl) o
    (next_txn calls txns ids token ts o)

things_until : (calls : List CallNow) (ids : List CallId) → map (λ item. item.thing) (call_items calls ids) ≡ map thing_of (map Call ids)
things_until calls [] = refl
things_until calls (id ∷ ids) = ap (λ (rest : List DueThing). call_due id.0 ∷ rest) (things_until calls ids)

-- If a transaction and the calls before it go out, what went out and what is to come are together as before.
pub next_out : (calls : List CallNow) (txns : List TxnNow) (made : List Due) (ids : List CallId) (token : List ℕ) (tokens : List (List ℕ))
    → AreOrdered (txn_items txns (token ∷ tokens))
    → map thing_of ((made ++ map Call (calls_until calls (expiry_of (txn_named token txns)) ids)) ++ Txn token ∷ [])
    ++ map (λ item. item.thing) (fold items_with (call_items calls (calls_after calls (expiry_of (txn_named token txns)) ids)) (txn_items txns tokens))
    ≡ map thing_of made ++ map (λ item. item.thing) (fold items_with (call_items calls ids) (txn_items txns (token ∷ tokens)))
next_out calls txns made ids token tokens o =
    let first : List CallId = calls_until calls (expiry_of (txn_named token txns)) ids in
    let later : List DueItem = fold items_with (call_items calls (calls_after calls (expiry_of (txn_named token txns)) ids)) (txn_items txns tokens) in
    let things : List DueItem → List DueThing = map (λ item. item.thing) in
    ap (λ (out : List DueThing). out ++ things later) (map-append thing_of (made ++ map Call first) (Txn token ∷ []) ∙ ap (λ (out : List DueThing). out ++ txn_due token ∷ []) (map-append thing_of made (map Call first)))
    ∙ regrouped (map thing_of made) (map thing_of (map Call first)) (txn_due token ∷ []) (things later)
    ∙ ap (λ (out : List DueThing). map thing_of made ++ (out ++ txn_due token ∷ things later)) (sym (things_until calls first))
    ∙ ap (λ (out : List DueThing). map thing_of made ++ out) (sym (map-append (λ item. item.thing) (call_items calls first) (txn_item txns token ∷ later)))
    ∙ ap (λ (items : List DueItem). map thing_of made ++ things items) (sym (next_txn calls txns ids token (txn_items txns tokens) o))
  where
    regrouped : {A : Type 0} (a b c d : List A) → ((a ++ b) ++ c) ++ d ≡ a ++ (b ++ (c ++ d))
    regrouped a b c d = simp append_assoc

-- after all transactions the other calls go out, each as the thing of its item
pub last_out : (calls : List CallNow) (made : List Due) (ids : List CallId)
    → map thing_of (made ++ map Call ids) ≡ map thing_of made ++ map (λ item. item.thing) (call_items calls ids)
last_out calls made ids = map-append thing_of made (map Call ids) ∙ ap (λ (out : List DueThing). map thing_of made ++ out) (sym (things_until calls ids))

-- what went out and what is to come are all, and the transactions to come are in their order
pub record IsOut (calls : List CallNow) (txns : List TxnNow) (made : List Due) (ids : List CallId) (tokens : List (List ℕ)) (all : List DueThing) : Type 0 where
  pub ordered : AreOrdered (txn_items txns tokens)
  pub out : map thing_of made ++ map (λ item. item.thing) (fold items_with (call_items calls ids) (txn_items txns tokens)) ≡ all

one_out : (calls : List CallNow) (txns : List TxnNow) (made : List Due) (ids : List CallId) (token : List ℕ) (tokens : List (List ℕ)) (all : List DueThing)
    → IsOut calls txns made ids (token ∷ tokens) all
    → IsOut calls txns ((made ++ map Call (calls_until calls (expiry_of (txn_named token txns)) ids)) ++ Txn token ∷ []) (calls_after calls (expiry_of (txn_named token txns)) ids) tokens all
one_out calls txns made ids token tokens all had = record { ordered = had.ordered.1; out = next_out calls txns made ids token tokens had.ordered ∙ had.out }

pub next_kept : (calls : List CallNow) (txns : List TxnNow) (made pushed out : List Due) (ids rest : List CallId) (tokens : List (List ℕ)) (i until : ℕ) (token : List ℕ) (all : List DueThing)
    → i < length tokens → token ≡ get_or tokens i token → until ≡ expiry_of (txn_named token txns)
    → pushed ≡ made ++ map Call (calls_until calls until ids) → rest ≡ calls_after calls until ids → out ≡ pushed ++ Txn token ∷ []
    → IsOut calls txns made ids (drop i tokens) all → IsOut calls txns out rest (drop (i + 1) tokens) all
next_kept calls txns made pushed out ids rest tokens i until token all lt at moment p r o had =
    let later : List (List ℕ) = drop (i + 1) tokens in
    let first : drop i tokens ≡ token ∷ later =
    drop-cons tokens i token lt ∙ ap (λ (t : List ℕ). t ∷ drop (suc i) tokens) (sym at) ∙ ap (λ (n : ℕ). token ∷ drop n tokens) (sym (add-one i)) in
    let gone : out ≡ (made ++ map Call (calls_until calls (expiry_of (txn_named token txns)) ids)) ++ Txn token ∷ [] =
    o ∙ ap (λ (xs : List Due). xs ++ Txn token ∷ []) (p ∙ ap (λ (u : ℕ). made ++ map Call (calls_until calls u ids)) moment) in
    subst (λ (xs : List Due). IsOut calls txns xs rest later all) (sym gone)
    (subst (λ (xs : List CallId). IsOut calls txns ((made ++ map Call (calls_until calls (expiry_of (txn_named token txns)) ids)) ++ Txn token ∷ []) xs later all)
    (sym (r ∙ ap (λ (u : ℕ). calls_after calls u ids) moment))
    (one_out calls txns made ids token later all (subst (λ (ts : List (List ℕ)). IsOut calls txns made ids ts all) first had)))

pub all_out : (calls : List CallNow) (txns : List TxnNow) (made out : List Due) (ids : List CallId) (tokens : List (List ℕ)) (i : ℕ) (all : List DueThing)
    → length tokens ≤ i → out ≡ made ++ map Call ids → IsOut calls txns made ids (drop i tokens) all → map thing_of out ≡ all
all_out calls txns made out ids tokens i all over e had =
    let none : drop i tokens ≡ [] = drop_all i tokens over in
    ap (map thing_of) e ∙ last_out calls made ids ∙ (subst (λ (ts : List (List ℕ)). IsOut calls txns made ids ts all) none had).out

-- a core whose docket is well has names of its own
pub own_names : (known : Known) (s : CoreState) → IsWellAmong known (docket_of s) → HasOwnNames s
own_names known s well = record { tokens = well.txns.tokens; numbers = well.calls.numbers }
