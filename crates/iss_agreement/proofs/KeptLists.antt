-- Transactions, calls, notices and sets that are kept by one pass over the rows are those that filters over the whole book give.
use Rattle.std.proofs.Common.{◌≡◌, ℕ, ◌<◌, Bool, true, false, cond, not, ◌&&◌, ◌||◌, nat_le, nat_eq, List, [], ◌∷◌, ◌++◌, length, map, filter, refl, sym, ap, ap₂, ◌∙◌, arith}
use Rattle.std.specs.Prelude.{Option, Some, None, option_map, is_none, slice_get}
use Rattle.std.specs.Option.{option_or}
use Rattle.std.specs.List.{filter_map, cons_option, list_any}
use Rattle.iss_model.specs.Inputs.{is_text}
use Rattle.std.specs.Str.{bytes_eq}
use Rattle.std.proofs.lemmas.List.{map-append, length-append}
use Rattle.std.proofs.lemmas.List.Elements.{filter_map-append, filter-append}
use Rattle.std.proofs.lemmas.List.Folds.{list_any-append}
use Rattle.std.proofs.lemmas.Bool.Decides.{nat_tests}
use Rattle.iss_model.specs.declared.setting.Set.{Set}
use Rattle.iss_model.specs.declared.call.Opened.{Opened}
use Rattle.iss_model.specs.declared.call.Notice.{Notice}
use Rattle.iss_model.specs.declared.call.How.{How}
use Rattle.iss_model.specs.declared.txn.Txn.{Txn}
use Rattle.iss_model.specs.declared.input.Input.TheVariants as input
use Rattle.iss_model.specs.declared.entry.Entry.{Entry}
use Rattle.iss_model.specs.declared.entry.Entry.TheVariants as entry
use Rattle.iss_model.specs.declared.entry.Row.{Row}
use Rattle.iss_model.specs.rules.Controls.{firsts, set_put, set_replaced, set_now, sets_of}
use Rattle.iss_model.specs.rules.Activity.{TxnNow, CallNow, txn_began, ends_txn, txn_now, txns_of, call_opened, call_closed, call_now, calls_of, notice_made, notices_of, acknowledges, pending_of}
use Rattle.iss_model.specs.state.Cores.{with_made, with_set, set_after_put, is_live, txn_after_end, with_closed, call_after_close, Outbox, with_notice, with_acked}
use Rattle.iss_model.proofs.Names.{one_name, name-sym}
use Rattle.iss_model.proofs.Lists.{map-alike, map-map, none_found, none_any, map-apart}
use Rattle.iss_agreement.proofs.Standing.{Bounds, is_begun, is_standing, is_row_standing}
use Rattle.iss_agreement.proofs.Growing.{row_of, things-changed, things-same, things-made, made-none, last_named, last_named-more, last_named-own, firsts-more}
use Rattle.iss_agreement.proofs.KeptParties.{IsNew, AreStanding, its_entry, other_name}

-- transactions ----

abbrev pub txns_after : List TxnNow → Entry → List TxnNow
txns_after txns (entry.Began t) = txns ++ record { txn = t; live = is_live txns t.token } ∷ []
txns_after txns (entry.Ended token) = map (txn_after_end token) txns
txns_after txns _ = txns

txn_more : (rows : List Row) (n : ℕ) (e : Entry) (t : Txn) (b : Bool) → ends_txn t.token e ≡ b
    → txn_now (rows ++ row_of n e) t ≡ record { txn = t; live = not (list_any (λ row. ends_txn t.token row.entry) rows || b) }
txn_more rows n e t true h =
    ap (λ (any : Bool). record { txn = t; live = not any })
    (list_any-append (λ (row : Row). ends_txn t.token row.entry) rows (row_of n e) ∙ ap (λ (b : Bool). list_any (λ (row : Row). ends_txn t.token row.entry) rows || (b || false)) h)
txn_more rows n e t false h =
    ap (λ (any : Bool). record { txn = t; live = not any })
    (list_any-append (λ (row : Row). ends_txn t.token row.entry) rows (row_of n e) ∙ ap (λ (b : Bool). list_any (λ (row : Row). ends_txn t.token row.entry) rows || (b || false)) h)

txn_if_ended : (t : Txn) (any b : Bool) → ◌≡◌ {A = TxnNow} (record { txn = t; live = not (any || b) }) (cond b (record { txn = t; live = false }) (record { txn = t; live = not any }))
txn_if_ended t true true = refl
txn_if_ended t true false = refl
txn_if_ended t false true = refl
txn_if_ended t false false = refl

or_false : (b : Bool) → (b || false) ≡ b
or_false true = refl
or_false false = refl

txn_same : (rows : List Row) (n : ℕ) (e : Entry) (t : Txn) → ends_txn t.token e ≡ false → txn_now (rows ++ row_of n e) t ≡ txn_now rows t
txn_same rows n e t h =
    txn_more rows n e t false h ∙ ap (λ (any : Bool). record { txn = t; live = not any }) (or_false (list_any (λ (row : Row). ends_txn t.token row.entry) rows))

not_ended : (b : Bounds) (all : List Row) (token : List ℕ) → is_begun all token ≡ false → (n : ℕ) (e : Entry) → is_standing b all n e ≡ true → ends_txn token e ≡ false
not_ended b all token new n (entry.Ended txn) h = other_name (is_begun all) txn token new h
not_ended b all token new n _ h = refl

-- a token that no transaction has was never ended
pub never_ended : (b : Bounds) (rows : List Row) (token : List ℕ) → AreStanding b rows → is_begun rows token ≡ false → list_any (λ row. ends_txn token row.entry) rows ≡ false
never_ended b rows token standing new =
    none_any (is_row_standing b rows) (λ (row : Row). ends_txn token row.entry) (λ row passes. not_ended b rows token new row.number row.entry (its_entry b rows row passes)) rows standing

-- a transaction of the token ended if one began and any row ended it
ended_of : (rows : List Row) (token : List ℕ) (t : Txn) (b : Bool) → bytes_eq t.token token ≡ b
    → (b && not (txn_now rows t).live) ≡ (b && list_any (λ row. ends_txn token row.entry) rows)
ended_of rows token t true h =
    not_not (list_any (λ (row : Row). ends_txn t.token row.entry) rows) ∙ ap (λ (name : List ℕ). list_any (λ (row : Row). ends_txn name row.entry) rows) (one_name t.token token h)
  where
    not_not : (b : Bool) → not (not b) ≡ b
    not_not true = refl
    not_not false = refl
ended_of rows token t false h = refl

either_ended : (a b c : Bool) → ((a && c) || (b && c)) ≡ ((a || b) && c)
either_ended true b true = refl
either_ended true true false = refl
either_ended true false false = refl
either_ended false b c = refl

-- a transaction of this token that isn't live
abbrev has_ended : List ℕ → TxnNow → Bool
has_ended token t = bytes_eq t.txn.token token && not t.live

first_or_later : (all : List Row) (token : List ℕ) (o : Option Txn) (later : List Txn) (begun : Bool)
    → list_any (has_ended token) (map (txn_now all) later) ≡ (begun && list_any (λ row. ends_txn token row.entry) all)
    → list_any (has_ended token) (map (txn_now all) (cons_option o later)) ≡ ((is_text token (option_map (λ t. t.token) o) || begun) && list_any (λ row. ends_txn token row.entry) all)
first_or_later all token None later begun e = e
first_or_later all token (Some t) later begun e =
    ap₂ (λ (a b : Bool). a || b) (ended_of all token t (bytes_eq t.token token) refl) e
    ∙ either_ended (bytes_eq t.token token) begun (list_any (λ (row : Row). ends_txn token row.entry) all)

ended_any : (all rows : List Row) (token : List ℕ)
    → list_any (has_ended token) (map (txn_now all) (filter_map (λ row. txn_began row.entry) rows)) ≡ (is_begun rows token && list_any (λ row. ends_txn token row.entry) all)
ended_any all [] token = refl
ended_any all (row ∷ rows) token =
    first_or_later all token (txn_began row.entry) (filter_map (λ (row : Row). txn_began row.entry) rows) (is_begun rows token) (ended_any all rows token)

begun_and_ended : (b : Bounds) (rows : List Row) (token : List ℕ) → AreStanding b rows → (begun : Bool) → is_begun rows token ≡ begun
    → (begun && list_any (λ row. ends_txn token row.entry) rows) ≡ list_any (λ row. ends_txn token row.entry) rows
begun_and_ended b rows token standing true h = refl
begun_and_ended b rows token standing false h = sym (never_ended b rows token standing h)

-- a transaction begins live if no row has ended its token
begins_live : (b : Bounds) (rows : List Row) (token : List ℕ) → AreStanding b rows → list_any (λ row. ends_txn token row.entry) rows ≡ list_any (has_ended token) (txns_of rows)
begins_live b rows token standing =
    sym (ended_any rows rows token ∙ ap (λ (begun : Bool). begun && list_any (λ (row : Row). ends_txn token row.entry) rows) refl ∙ begun_and_ended b rows token standing (is_begun rows token) refl)

pub txns-more : (b : Bounds) (rows : List Row) (n : ℕ) (e : Entry) → AreStanding b rows → txns_of (rows ++ row_of n e) ≡ txns_after (txns_of rows) e
txns-more b rows n (entry.Began t) standing =
    let e : Entry = entry.Began t in
    things-made txn_began txn_now rows (row_of n e) t (λ u. txn_same rows n e u refl) refl
    ∙ ap (λ (t : TxnNow). txns_of rows ++ t ∷ []) (txn_same rows n e t refl ∙ ap (λ (any : Bool). record { txn = t; live = not any }) (begins_live b rows t.token standing))
txns-more b rows n (entry.Ended token) standing =
    let e : Entry = entry.Ended token in
    things-changed txn_began txn_now (txn_after_end token) rows (row_of n e)
    (λ t. txn_more rows n e t (bytes_eq token t.token) refl ∙ txn_if_ended t (list_any (λ (row : Row). ends_txn t.token row.entry) rows) (bytes_eq token t.token)) refl
txns-more b rows n e standing = things-same txn_began txn_now rows (row_of n e) (λ t. txn_same rows n e t refl) refl

-- calls ----

abbrev pub calls_after : List CallNow → Entry → List CallNow
calls_after calls (entry.Opened o) = calls ++ record { opened = o; how = None } ∷ []
calls_after calls (entry.Closed call how) = with_closed calls call how
calls_after calls _ = calls

first_how : (hows : List How) (o : Option How) → slice_get (hows ++ cons_option o []) 0 ≡ option_or (slice_get hows 0) o
first_how [] None = refl
first_how [] (Some how) = refl
first_how (how ∷ hows) o = refl

call_more : (rows : List Row) (n : ℕ) (e : Entry) (c : Opened) (o : Option How) → call_closed c.call.0 e ≡ o
    → call_now (rows ++ row_of n e) c ≡ record { opened = c; how = option_or (call_now rows c).how o }
call_more rows n e c o h =
    ap (λ (hows : List How). record { opened = c; how = slice_get hows 0 })
    (filter_map-append (λ (row : Row). call_closed c.call.0 row.entry) rows (row_of n e) ∙ ap (λ (o : Option How). filter_map (λ (row : Row). call_closed c.call.0 row.entry) rows ++ cons_option o []) h)
    ∙ ap (λ (how : Option How). record { opened = c; how = how }) (first_how (filter_map (λ (row : Row). call_closed c.call.0 row.entry) rows) o)

or_none : (o : Option How) → option_or o None ≡ o
or_none None = refl
or_none (Some how) = refl

call_same : (rows : List Row) (n : ℕ) (e : Entry) (c : Opened) → call_closed c.call.0 e ≡ None → call_now (rows ++ row_of n e) c ≡ call_now rows c
call_same rows n e c h = call_more rows n e c None h ∙ ap (λ (how : Option How). record { opened = c; how = how }) (or_none (call_now rows c).how)

call_if_closed : (c : Opened) (was : Option How) (how : How) (b : Bool)
    → ◌≡◌ {A = CallNow} (record { opened = c; how = option_or was (cond b (Some how) None) })
    (cond (b && is_none was) (record { opened = c; how = Some how }) (record { opened = c; how = was }))
call_if_closed c None how true = refl
call_if_closed c None how false = refl
call_if_closed c (Some was) how true = refl
call_if_closed c (Some was) how false = refl

below : (call calls number : ℕ) → nat_le call calls ≡ true → calls < number → nat_eq call number ≡ false
below call calls number h lt = grind (arith, nat_tests)

not_closed : (b : Bounds) (all : List Row) (number : ℕ) → b.calls < number → (n : ℕ) (e : Entry) → is_standing b all n e ≡ true → call_closed number e ≡ None
not_closed b all number new n (entry.Closed call how) h = ap (λ (b : Bool). cond b (Some how) None) (below call.0 b.calls number h new)
not_closed b all number new n _ h = refl

pub calls-more : (b : Bounds) (rows : List Row) (n : ℕ) (e : Entry) → AreStanding b rows → IsNew b rows e → calls_of (rows ++ row_of n e) ≡ calls_after (calls_of rows) e
calls-more b rows n (entry.Opened o) standing new =
    let e : Entry = entry.Opened o in
    things-made call_opened call_now rows (row_of n e) o (λ c. call_same rows n e c refl) refl
    ∙ ap (λ (c : CallNow). calls_of rows ++ c ∷ [])
    (call_same rows n e o refl
    ∙ ap (λ (hows : List How). record { opened = o; how = slice_get hows 0 })
    (none_found (is_row_standing b rows) (λ (row : Row). call_closed o.call.0 row.entry) (λ row passes. not_closed b rows o.call.0 new row.number row.entry (its_entry b rows row passes)) rows standing))
calls-more b rows n (entry.Closed call how) standing new =
    let e : Entry = entry.Closed call how in
    things-changed call_opened call_now (call_after_close call.0 how) rows (row_of n e)
    (λ c. call_more rows n e c (cond (nat_eq call.0 c.call.0) (Some how) None) refl ∙ call_if_closed c (call_now rows c).how how (nat_eq call.0 c.call.0)) refl
calls-more b rows n e standing new = things-same call_opened call_now rows (row_of n e) (λ c. call_same rows n e c refl) refl

-- notices ----

abbrev pub outbox_after : Outbox → Entry → Outbox
outbox_after o (entry.Notice notice) = with_notice o notice
outbox_after o (entry.Acked notice) = with_acked o notice
outbox_after o _ = o

-- the notices of the book, how many and which
abbrev pub outbox_of : List Row → Outbox
outbox_of rows = record { made = length (notices_of rows); pending = pending_of rows }

-- a notice is acknowledged by none of these rows
abbrev waits : List Row → Notice → Bool
waits rows notice = not (list_any (λ row. acknowledges notice.number row.entry) rows)

waits-more : (rows : List Row) (n : ℕ) (e : Entry) (notice : Notice) → waits (rows ++ row_of n e) notice ≡ (waits rows notice && not (acknowledges notice.number e))
waits-more rows n e notice =
    ap not (list_any-append (λ (row : Row). acknowledges notice.number row.entry) rows (row_of n e))
    ∙ neither (list_any (λ (row : Row). acknowledges notice.number row.entry) rows) (acknowledges notice.number e)
  where
    neither : (a b : Bool) → not (a || (b || false)) ≡ (not a && not b)
    neither true b = refl
    neither false true = refl
    neither false false = refl

filter-alike : {A : Type 0} (p q : A → Bool) → ((x : A) → p x ≡ q x) → (xs : List A) → filter p xs ≡ filter q xs
filter-alike p q alike [] = refl
filter-alike {A} p q alike (x ∷ xs) = ap₂ (λ (b : Bool) (rest : List A). cond b (x ∷ rest) rest) (alike x) (filter-alike p q alike xs)

both_filters : {A : Type 0} (q : A → Bool) (x : A) (rest : List A) (b : Bool) → filter q (cond b (x ∷ rest) rest) ≡ cond (b && q x) (x ∷ filter q rest) (filter q rest)
both_filters q x rest true = refl
both_filters q x rest false = refl

filter-filter : {A : Type 0} (p q : A → Bool) (xs : List A) → filter q (filter p xs) ≡ filter (λ x. p x && q x) xs
filter-filter p q [] = refl
filter-filter {A} p q (x ∷ xs) =
    both_filters q x (filter p xs) (p x) ∙ ap (λ (rest : List A). cond (p x && q x) (x ∷ rest) rest) (filter-filter p q xs)

and_true : (b : Bool) → (b && true) ≡ b
and_true true = refl
and_true false = refl

-- the pending notices if a row acknowledges none
still_waiting : (rows : List Row) (n : ℕ) (e : Entry) → ((number : ℕ) → acknowledges number e ≡ false) → (notices : List Notice) → filter (waits (rows ++ row_of n e)) notices ≡ filter (waits rows) notices
still_waiting rows n e none notices =
    filter-alike (waits (rows ++ row_of n e)) (waits rows) (λ notice. waits-more rows n e notice ∙ ap (λ (b : Bool). waits rows notice && not b) (none notice.number) ∙ and_true (waits rows notice)) notices

not_acked : (b : Bounds) (all : List Row) (number : ℕ) → b.notices < number → (n : ℕ) (e : Entry) → is_standing b all n e ≡ true → acknowledges number e ≡ false
not_acked b all number new n (entry.Acked notice) h = below notice b.notices number h new
not_acked b all number new n _ h = refl

outbox_same : (rows : List Row) (n : ℕ) (e : Entry) → notice_made e ≡ None → ((number : ℕ) → acknowledges number e ≡ false) → outbox_of (rows ++ row_of n e) ≡ outbox_of rows
outbox_same rows n e none unread =
    let same = made-none (λ (row : Row). notice_made row.entry) rows (row_of n e) (ap (λ (o : Option Notice). cons_option o []) none) in
    λ i. record {
      made = length (same i);
      pending = (ap (filter (waits (rows ++ row_of n e))) same ∙ still_waiting rows n e unread (notices_of rows)) i;
    }

pub outbox-more : (b : Bounds) (rows : List Row) (n : ℕ) (e : Entry) → AreStanding b rows → IsNew b rows e → outbox_of (rows ++ row_of n e) ≡ outbox_after (outbox_of rows) e
outbox-more b rows n (entry.Notice notice) standing new =
    let e : Entry = entry.Notice notice in
    let more = filter_map-append (λ (row : Row). notice_made row.entry) rows (row_of n e) in
    let waiting : waits rows notice ≡ true = ap not (none_any (is_row_standing b rows) (λ (row : Row). acknowledges notice.number row.entry) (λ row passes. not_acked b rows notice.number new row.number row.entry (its_entry b rows row passes)) rows standing) in
    λ i. record {
      made = (ap (λ (ns : List Notice). length ns) more ∙ length-append (notices_of rows) (notice ∷ [])) i;
      pending = (ap (filter (waits (rows ++ row_of n e))) more
          ∙ still_waiting rows n e (λ number. refl) (notices_of rows ++ notice ∷ [])
          ∙ filter-append (waits rows) (notices_of rows) (notice ∷ [])
          ∙ ap (λ (b : Bool). pending_of rows ++ cond b (notice ∷ []) []) waiting) i;
    }
outbox-more b rows n (entry.Acked number) standing new =
    let e : Entry = entry.Acked number in
    let same = made-none (λ (row : Row). notice_made row.entry) rows (row_of n e) refl in
    λ i. record {
      made = length (same i);
      pending = (ap (filter (waits (rows ++ row_of n e))) same
          ∙ filter-alike (waits (rows ++ row_of n e)) (λ (notice : Notice). waits rows notice && not (nat_eq number notice.number)) (waits-more rows n e) (notices_of rows)
          ∙ sym (filter-filter (waits rows) (λ (notice : Notice). not (nat_eq number notice.number)) (notices_of rows))) i;
    }
outbox-more b rows n e standing new = outbox_same rows n e refl (λ number. refl)

-- sets ----

module _ {P B : Type 0} (name : P → List ℕ) (seen : List P → P → B) where
  -- what is put again changes the one of its name
  pub put-again : (upd : B → B) (puts : List P) (p : P) → list_any (λ k. bytes_eq (name k) (name p)) (firsts name puts) ≡ true
      → ((x : P) → seen (puts ++ p ∷ []) x ≡ upd (seen puts x))
      → map (seen (puts ++ p ∷ [])) (firsts name (puts ++ p ∷ [])) ≡ map upd (map (seen puts) (firsts name puts))
  put-again upd puts p known alike =
      ap (map (seen (puts ++ p ∷ []))) (firsts-more name puts p ∙ ap (λ (b : Bool). cond b (firsts name puts) (firsts name puts ++ p ∷ [])) known)
      ∙ map-alike (seen (puts ++ p ∷ [])) (λ (x : P). upd (seen puts x)) alike (firsts name puts)
      ∙ sym (map-map (seen puts) upd (firsts name puts))

  -- what is put first stands after the others
  pub put-first : (puts : List P) (p : P) (b : B) → list_any (λ k. bytes_eq (name k) (name p)) (firsts name puts) ≡ false
      → ((x : P) → bytes_eq (name x) (name p) ≡ false → seen (puts ++ p ∷ []) x ≡ seen puts x) → seen (puts ++ p ∷ []) p ≡ b
      → map (seen (puts ++ p ∷ [])) (firsts name (puts ++ p ∷ [])) ≡ map (seen puts) (firsts name puts) ++ b ∷ []
  put-first puts p b new alike own =
      ap (map (seen (puts ++ p ∷ []))) (firsts-more name puts p ∙ ap (λ (b : Bool). cond b (firsts name puts) (firsts name puts ++ p ∷ [])) new)
      ∙ map-append (seen (puts ++ p ∷ [])) (firsts name puts) (p ∷ [])
      ∙ ap₂ (λ (xs : List B) (x : B). xs ++ x ∷ []) (map-apart (λ (k : P). bytes_eq (name k) (name p)) (seen (puts ++ p ∷ [])) (seen puts) alike (firsts name puts) new) own

pub any-map : {A B : Type 0} (p : B → Bool) (f : A → B) (xs : List A) → list_any p (map f xs) ≡ list_any (λ x. p (f x)) xs
any-map p f [] = refl
any-map p f (x ∷ xs) = ap (λ (b : Bool). p (f x) || b) (any-map p f xs)

abbrev pub sets_after : List Set → Entry → List Set
sets_after sets (entry.Conf (input.Set token set product currency connection timeout application max day_limit active)) =
    with_made with_set sets (set_put (entry.Conf (input.Set token set product currency connection timeout application max day_limit active)))
sets_after sets _ = sets

abbrev set_name : Set → List ℕ
set_name s = s.name

set_if_put : (x last p : Set) (b : Bool) → set_replaced x (cond b p last) ≡ cond b (set_replaced x p) (set_replaced x last)
set_if_put x last p true = refl
set_if_put x last p false = refl

set_more : (puts : List Set) (p x : Set) → set_now (puts ++ p ∷ []) x ≡ set_after_put p (set_now puts x)
set_more puts p x =
    ap (set_replaced x) (last_named-more set_name puts p x) ∙ set_if_put x (last_named set_name puts x) p (bytes_eq p.name x.name)

set_other : (puts : List Set) (p x : Set) → bytes_eq x.name p.name ≡ false → set_now (puts ++ p ∷ []) x ≡ set_now puts x
set_other puts p x differs =
    set_more puts p x ∙ ap (λ (b : Bool). cond b (set_replaced (set_now puts x) p) (set_now puts x)) (name-sym p.name x.name ∙ differs)

set_taken : (puts : List Set) (p : Set) (b : Bool) → list_any (λ k. bytes_eq k.name p.name) (firsts set_name puts) ≡ b
    → map (set_now (puts ++ p ∷ [])) (firsts set_name (puts ++ p ∷ []))
    ≡ cond b (map (set_after_put p) (map (set_now puts) (firsts set_name puts))) (map (set_now puts) (firsts set_name puts) ++ p ∷ [])
set_taken puts p true known = put-again set_name set_now (set_after_put p) puts p known (set_more puts p)
set_taken puts p false new =
    put-first set_name set_now puts p p new (set_other puts p) (ap (set_replaced p) (last_named-own set_name puts p))

pub sets-more : (rows : List Row) (n : ℕ) (e : Entry) → sets_of (rows ++ row_of n e) ≡ sets_after (sets_of rows) e
sets-more rows n (entry.Conf (input.Set token set product currency connection timeout application max day_limit active)) =
    let e : Entry = entry.Conf (input.Set token set product currency connection timeout application max day_limit active) in
    let put : Set = record { name = set; product = product; currency = currency; connection = connection; timeout = timeout; application = application; max = max; day_limit = day_limit; active = active } in
    let puts : List Set = filter_map (λ (row : Row). set_put row.entry) rows in
    ap (λ (ps : List Set). map (set_now ps) (firsts set_name ps)) (filter_map-append (λ (row : Row). set_put row.entry) rows (row_of n e))
    ∙ set_taken puts put (list_any (λ (k : Set). bytes_eq k.name set) (firsts set_name puts)) refl
    ∙ ap (λ (b : Bool). cond b (map (set_after_put put) (sets_of rows)) (sets_of rows ++ put ∷ [])) (sym (any-map (λ (s : Set). bytes_eq s.name set) (set_now puts) (firsts set_name puts)))
sets-more rows n e =
    ap (λ (ps : List Set). map (set_now ps) (firsts set_name ps)) (made-none (λ (row : Row). set_put row.entry) rows (row_of n e) refl)
