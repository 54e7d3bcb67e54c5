-- What records in form send is sendable.
use Rattle.std.proofs.Common.{◌≡◌, ℕ, ◌+◌, ◌≤◌, Bool, true, false, not, cond, ◌&&◌, nat_le, List, [], ◌∷◌, ◌++◌, length, refl, sym, ap, subst, ◌∙◌, inl, inr, arith}
use Rattle.std.specs.Prelude.{Option, Some, None, take}
use Rattle.std.specs.List.{cons_option, filter_map, list_all}
use Rattle.std.proofs.lemmas.Bool.{and_parts}
use Rattle.std.proofs.lemmas.Bool.Decides.{nat_tests}
use Rattle.std.proofs.lemmas.List.Folds.{list_all-append}
use Rattle.iss_model.specs.declared.call.Method.TheVariants as method
use Rattle.iss_model.specs.declared.call.Notice.{Notice}
use Rattle.iss_model.specs.declared.call.Opened.{Opened}
use Rattle.iss_model.specs.declared.entry.Entry.{Entry}
use Rattle.iss_model.specs.declared.entry.Entry.TheVariants as entry
use Rattle.iss_model.specs.declared.entry.Row.{Row}
use Rattle.iss_model.specs.declared.input.Input.{Input}
use Rattle.iss_model.specs.declared.input.Input.TheVariants as input
use Rattle.iss_model.specs.declared.input.Record.{Record}
use Rattle.iss_model.specs.Forms.{is_amount, is_in_form, is_mcc}
use Rattle.iss_model.specs.rules.Activity.{call_opened, notice_made, notices_of}
use Rattle.iss_model.specs.rules.Acts.{Act, Asks, News, act_entries, captured, expired, news_method, refunded, reversed}
use Rattle.iss_model.specs.rules.Asks.{Ask}
use Rattle.iss_model.specs.rules.Facts.{Facts}
use Rattle.iss_model.specs.rules.Histories.{history_of, numbered_rows}
use Rattle.iss_model.specs.rules.Pieces.{ask_method, call_for}
use Rattle.iss_model.specs.state.Cores.{core_keeper, core_of}
use Rattle.iss_acts.specs.Causes.{Cause, ComesOf, FallsDue}
use Rattle.iss_acts.specs.Items.{Item, Opening, Telling, has_item, item_entry}
use Rattle.iss_acts.specs.Sources.{IsMade as IsActMade, IsOwnAsk}
use Rattle.iss_acts.specs.Stages.{Stage}
use Rattle.iss_acts.proofs.Begun.{is_begun}
use Rattle.iss_acts.proofs.Passing.{EachPasses, act_passes, both_pass, none_passes, one_passes}
use Rattle.iss_acts.proofs.Stepping.{step_holds}
use Rattle.iss_acts.proofs.Walk.{Holds}
use Rattle.iss_state.specs.Numbers.{NoticesNumberedFrom}
use Rattle.iss_state.specs.Sound.{AreInForm}
use Rattle.iss_state.proofs.docket.Lists.{Each, both_so}
use Rattle.iss_laws.proofs.Rows.{entries_of_next, next_number, next_rows, numbered_pass}
use Rattle.iss_gateway.specs.Laws.{names_call}
use Rattle.iss_gateway.specs.Readings.{asks}
use Rattle.iss_gateway_laws.proofs.Causes.{each_list}
use Rattle.iss_gateway_laws.proofs.Lists.{Among, each_among}
use Rattle.iss_gateway_laws.proofs.Numbers.{all_numbered}
use Rattle.iss_exchange_laws.specs.declared.moves.Sent.{Sent}
use Rattle.iss_exchange_laws.specs.declared.moves.Sent.TheVariants as sent
use Rattle.iss_exchange_laws.specs.Exchanges.{Exchange}
use Rattle.iss_exchange_laws.proofs.Records.{all_fewer}
use Rattle.iss_exchange_laws.proofs.Sound.{IsMade, IsSound, opened_of, rows_of}
use Rattle.iss_delivery.specs.Delivering.{AllAreSendable, IsSendable}

-- what an entry sends, but for a notice's number
abbrev is_asking : Opened → Bool
is_asking o = asks o.method && (is_amount o.amount && nat_le 1 o.call.0)

abbrev is_telling : Notice → Bool
is_telling n = not (asks n.method) && names_call n.method n.call

abbrev is_well : Entry → Bool
is_well (entry.Opened o) = is_asking o
is_well (entry.Notice n) = is_telling n
is_well _ = true

-- acts ----

abbrev is_no_call : Act → Bool
is_no_call (Asks f product ask) = false
is_no_call _ = true

well_item : (a : Act) → is_no_call a ≡ true → (x : Item) → has_item a x ≡ true → is_well (item_entry x) ≡ true
well_item (Asks f product ask) plain x has = cc
well_item a plain (Opening o) has = cc
well_item a plain (Telling number reversed t amount gateway) has = refl
well_item a plain (Telling number captured t amount gateway) has = refl
well_item a plain (Telling number refunded t amount gateway) has = refl
well_item a plain (Telling number expired t amount gateway) has = refl
well_item a plain _ has = refl

one_more : (n : ℕ) → nat_le 1 (n + 1) ≡ true
one_more n = grind (arith, nat_tests)

by_method : (first : Bool) → asks (cond first method.Authorization method.Incremental) ≡ true
by_method true = refl
by_method false = refl

module _ (f : Facts) (by : Cause) (at : ℕ) (form : (i : Input) → by ≡ ComesOf i → is_in_form i ≡ true) where
  own_amount : (ask : Ask) → IsOwnAsk f by at ask → is_amount ask.amount ≡ true
  own_amount ask (inl first) =
      ap (λ (ask : Ask). is_amount ask.amount) (is_begun first).same
      ∙ (and_parts (is_amount first.amount) (is_mcc first.mcc) (form (input.Authorization first.token first.card first.currency first.amount first.mcc first.mid first.partial) first.its_input)).0
  own_amount ask (inr more) =
      ap (λ (ask : Ask). is_amount ask.amount) more.made ∙ form (input.Increment more.token more.txn more.currency more.amount) more.its_input

  act_well : (g : Stage) (a : Act) → IsActMade f by at g a → EachPasses is_well (act_entries a)
  act_well g (Asks h product ask) made =
      one_passes
      (both_so (asks (ask_method ask)) (is_amount ask.amount && nat_le 1 (call_for h product ask).call.0) (by_method ask.is_first)
      (both_so (is_amount ask.amount) (nat_le 1 (call_for h product ask).call.0) (own_amount ask made.from.2) (one_more (length h.calls))))
  act_well g a made = act_passes a (well_item a refl)

  all_well : Holds f by at (EachPasses is_well)
  all_well = record { none = none_passes; then = both_pass; act = act_well }

-- rows ----

step_well : (rs : List Record) (r : Record) → is_in_form r.input ≡ true → list_all is_well (entries_of_next rs r) ≡ true
step_well rs r form =
    (step_holds core_keeper (core_of rs) r (λ (f : Facts). all_well f FallsDue r.at (λ i e. cc)) (λ (f : Facts). all_well f (ComesOf r.input) r.at its_form)).all
  where
    its_form : (i : Input) → ComesOf r.input ≡ ComesOf i → is_in_form i ≡ true
    its_form i e =
        let same : r.input ≡ i = cc in subst (λ (i : Input). is_in_form i ≡ true) same form

abbrev is_well_row : Row → Bool
is_well_row row = is_well row.entry

abbrev AreWell : List Record → Type 0
AreWell rs = AreInForm rs → list_all is_well_row (rows_of rs) ≡ true

rows_more : (rs : List Record) (r : Record) → AreWell rs → AreWell (rs ++ r ∷ [])
rows_more rs r h form =
    let in_form : Record → Bool = λ (r : Record). is_in_form r.input in
    let parts = and_parts (list_all in_form rs) (is_in_form r.input && true) (sym (list_all-append in_form rs (r ∷ [])) ∙ form) in
    let last = and_parts (is_in_form r.input) true parts.1 in
    ap (list_all is_well_row) (next_rows rs r)
    ∙ list_all-append is_well_row (rows_of rs) (numbered_rows (next_number rs r) (entries_of_next rs r))
    ∙ both_so (list_all is_well_row (rows_of rs)) (list_all is_well_row (numbered_rows (next_number rs r) (entries_of_next rs r))) (h parts.0)
    (numbered_pass is_well (next_number rs r) (entries_of_next rs r) ∙ step_well rs r last.0)

rows_well : (rs : List Record) → AreWell rs
rows_well rs = each_list AreWell (λ form. refl) rows_more rs

-- what rows make ----

each_made : {A : Type 0} (f : Entry → Option A) (p : A → Bool) → ((e : Entry) (x : A) → f e ≡ Some x → is_well e ≡ true → p x ≡ true) → (rows : List Row) → list_all is_well_row rows ≡ true
    → Each (λ x. p x ≡ true) (filter_map (λ row. f row.entry) rows)
each_made f p so [] h = tt
each_made {A} f p so (row ∷ rows) h =
    let parts = and_parts (is_well row.entry) (list_all is_well_row rows) h in
    by (f row.entry) refl parts.0 (each_made f p so rows parts.1)
  where
    by : (o : Option A) → f row.entry ≡ o → is_well row.entry ≡ true → Each (λ x. p x ≡ true) (filter_map (λ (row : Row). f row.entry) rows)
        → Each (λ x. p x ≡ true) (cons_option o (filter_map (λ (row : Row). f row.entry) rows))
    by None e well rest = rest
    by (Some x) e well rest = (so row.entry x e well, rest)

opened_asks : (e : Entry) (o : Opened) → call_opened e ≡ Some o → is_well e ≡ true → is_asking o ≡ true
opened_asks (entry.Opened o) x e h = let same : x ≡ o = cc in ap is_asking same ∙ h
opened_asks _ x e h = cc

noticed_tells : (e : Entry) (n : Notice) → notice_made e ≡ Some n → is_well e ≡ true → is_telling n ≡ true
noticed_tells (entry.Notice n) x e h = let same : x ≡ n = cc in ap is_telling same ∙ h
noticed_tells _ x e h = cc

number_from : (m : ℕ) (ns : List Notice) → NoticesNumberedFrom m ns → (n : Notice) → Among n ns → m ≤ n.number
number_from m [] h n among = absurd among
number_from m (x ∷ xs) h n (inl e) = its m n.number (sym h.0 ∙ ap (λ (n : Notice). n.number) e)
  where
    its : (a b : ℕ) → a ≡ b → a ≤ b
    its a b e = omega (arith, e)
number_from m (x ∷ xs) h n (inr among) = less m n.number (number_from (m + 1) xs h.1 n among)
  where
    less : (a b : ℕ) → a + 1 ≤ b → a ≤ b
    less a b h = omega (arith, h)

from_one : (n : ℕ) → 1 ≤ n → nat_le 1 n ≡ true
from_one n h = grind (arith, nat_tests)

pub made_sendable : (rs : List Record) → AreInForm rs → (what : Sent) → IsMade (rows_of rs) what → IsSendable what
made_sendable rs form (sent.Request o) among =
    let well = each_among (λ (o : Opened). is_asking o ≡ true) o (opened_of (rows_of rs)) (each_made call_opened is_asking opened_asks (rows_of rs) (rows_well rs form)) among in
    let parts = and_parts (asks o.method) (is_amount o.amount && nat_le 1 o.call.0) well in
    let rest = and_parts (is_amount o.amount) (nat_le 1 o.call.0) parts.1 in
    record { method_asks = parts.0; amount_fits = rest.0; numbered = rest.1 }
made_sendable rs form (sent.Notice n) among =
    let well = each_among (λ (n : Notice). is_telling n ≡ true) n (notices_of (rows_of rs)) (each_made notice_made is_telling noticed_tells (rows_of rs) (rows_well rs form)) among in
    let parts = and_parts (not (asks n.method)) (names_call n.method n.call) well in
    record { method_notes = parts.0; call_is = parts.1; numbered = from_one n.number (number_from 1 (notices_of (rows_of rs)) (all_numbered rs) n among) }

each_sendable : (rs : List Record) → AreInForm rs → (whats : List Sent) → Each (IsMade (rows_of rs)) whats → AllAreSendable whats
each_sendable rs form [] made = tt
each_sendable rs form (what ∷ whats) made = (made_sendable rs form what made.0, each_sendable rs form whats made.1)

-- what a sound exchange has sent is sendable
pub sound_sendable : (token : ℕ → List ℕ) (x : Exchange) → IsSound token x → AllAreSendable x.sent
sound_sendable token x h = each_sendable (take x.released x.records) (all_fewer (λ (r : Record). is_in_form r.input) x.released x.records h.form) x.sent h.sent
