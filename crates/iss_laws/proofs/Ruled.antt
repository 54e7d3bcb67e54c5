-- What entries rule, and that it goes with the calls that they close: this put together as the rules put entries together.
use Rattle.std.proofs.Common.{◌≡◌, ℕ, Bool, true, false, ◌&&◌, List, [], ◌∷◌, ◌++◌, length, filter, refl, sym, ap, ap₂, ◌∙◌, append_assoc}
use Rattle.std.specs.Prelude.{Option, Some, None}
use Rattle.std.specs.List.{cons_option, list_all}
use Rattle.std.proofs.lemmas.Bool.{and_parts}
use Rattle.std.proofs.lemmas.List.{append-nil, map-append}
use Rattle.std.proofs.lemmas.List.Elements.{filter_map-append}
use Rattle.std.proofs.lemmas.List.Folds.{list_all-append}
use Rattle.iss_model.specs.declared.entry.Entry.{Entry}
use Rattle.iss_model.specs.declared.entry.Entry.TheVariants as entry
use Rattle.iss_model.specs.declared.entry.Row.{Row}
use Rattle.iss_model.specs.declared.input.Record.{Record}
use Rattle.iss_model.specs.rules.Histories.{History, history_facts, numbered_rows}
use Rattle.iss_state.specs.Dockets.{is_docketed}
use Rattle.iss_state.proofs.docket.Docketed.{AreSilent}
use Rattle.iss_laws.specs.Rulings.{Ruling, closing_ruling, closing_rulings, ruling_of, rulings_of, with_entries}

-- entries one after the other ----

pub rulings_append : (xs ys : List Entry) → rulings_of (xs ++ ys) ≡ rulings_of xs ++ rulings_of ys
rulings_append xs ys = filter_map-append ruling_of xs ys

-- a book with rows of its own
abbrev with_rows : History → List Row → History
with_rows h rows = record h { rows = rows }

pub with_none : (h : History) → with_entries h [] ≡ h
with_none h = ap (with_rows h) (append-nil h.rows)

pub with_both : (h : History) (xs ys : List Entry) → with_entries (with_entries h xs) ys ≡ with_entries h (xs ++ ys)
with_both h xs ys =
    let n : ℕ = length h.records in
    ap (with_rows h)
    (append_assoc h.rows (numbered_rows n xs) (numbered_rows n ys)
    ∙ ap (λ (rows : List Row). h.rows ++ rows) (sym (map-append (λ (e : Entry). record { number = n; entry = e }) xs ys)))

first_of_both : (o : Option Ruling) (xs ys : List Ruling) → cons_option o (xs ++ ys) ≡ cons_option o xs ++ ys
first_of_both None xs ys = refl
first_of_both (Some x) xs ys = refl

pub closings_append : (r : Record) (h : History) (xs ys : List Entry) → closing_rulings r h (xs ++ ys) ≡ closing_rulings r h xs ++ closing_rulings r (with_entries h xs) ys
closings_append r h [] ys = ap (λ (k : History). closing_rulings r k ys) (sym (with_none h))
closings_append r h (x ∷ xs) ys =
    let next : History = with_entries h (x ∷ []) in
    let o : Option Ruling = closing_ruling r (history_facts h) x in
    ap (cons_option o)
    (closings_append r next xs ys ∙ ap (λ (k : History). closing_rulings r next xs ++ closing_rulings r k ys) (with_both h (x ∷ []) xs))
    ∙ first_of_both o (closing_rulings r next xs) (closing_rulings r (with_entries h (x ∷ xs)) ys)

-- What a record's entries rule on a book is what goes with the calls that they close, and then these rulings.
pub record Rules (r : Record) (h : History) (es : List Entry) (own : List Ruling) : Type 0 where
  pub made : rulings_of es ≡ closing_rulings r h es ++ own

pub rules_then : {r : Record} {h : History} {own : List Ruling} (xs ys : List Entry) → Rules r h xs [] → Rules r (with_entries h xs) ys own → Rules r h (xs ++ ys) own
rules_then {r} {h} {own} xs ys first second =
    let closed : List Ruling = closing_rulings r h xs in
    let more : List Ruling = closing_rulings r (with_entries h xs) ys in
    record {
      made = rulings_append xs ys
          ∙ ap (λ (rs : List Ruling). rs ++ rulings_of ys) (first.made ∙ append-nil closed)
          ∙ ap (λ (rs : List Ruling). closed ++ rs) second.made
          ∙ sym (append_assoc closed more own)
          ∙ ap (λ (rs : List Ruling). rs ++ own) (sym (closings_append r h xs ys));
    }

pub rules_none : {r : Record} {h : History} → Rules r h [] []
rules_none = record { made = refl }

-- entries that close no call ----

-- an entry closes no call
abbrev pub closes_none : Entry → Bool
closes_none (entry.Closed call how) = false
closes_none _ = true

closes_nothing : (r : Record) (h : History) (e : Entry) → closes_none e ≡ true → closing_ruling r (history_facts h) e ≡ None
closes_nothing r h (entry.Closed call how) passes = cc
closes_nothing r h _ passes = refl

pub none_closed : (r : Record) (h : History) (es : List Entry) → list_all closes_none es ≡ true → closing_rulings r h es ≡ []
none_closed r h [] all = refl
none_closed r h (e ∷ es) all =
    let parts = and_parts (closes_none e) (list_all closes_none es) all in
    ap (λ (o : Option Ruling). cons_option o (closing_rulings r (with_entries h (e ∷ [])) es)) (closes_nothing r h e parts.0)
    ∙ none_closed r (with_entries h (e ∷ [])) es parts.1

-- Entries close no call, and rule these.
pub record RulesAlone (es : List Entry) (own : List Ruling) : Type 0 where
  pub none : list_all closes_none es ≡ true
  pub made : rulings_of es ≡ own

pub rules_alone : {es : List Entry} {own : List Ruling} → list_all closes_none es ≡ true → rulings_of es ≡ own → RulesAlone es own
rules_alone none made = record { none = none; made = made }

pub both_alone : {xs ys : List Entry} {own : List Ruling} → RulesAlone xs [] → RulesAlone ys own → RulesAlone (xs ++ ys) own
both_alone {xs} {ys} h k =
    rules_alone (list_all-append closes_none xs ys ∙ ap₂ (λ (a b : Bool). a && b) h.none k.none) (rulings_append xs ys ∙ ap₂ (λ (us vs : List Ruling). us ++ vs) h.made k.made)

-- on any book
pub alone_rules : {r : Record} {h : History} {es : List Entry} {own : List Ruling} → RulesAlone es own → Rules r h es own
alone_rules {r} {h} {es} {own} alone = record { made = alone.made ∙ ap (λ (rs : List Ruling). rs ++ own) (sym (none_closed r h es alone.none)) }

-- silent entries ----

silent_passes : (e : Entry) (es : List Entry) → filter is_docketed (e ∷ es) ≡ [] → (ruling_of e ≡ None) × (closes_none e ≡ true) × (filter is_docketed es ≡ [])
silent_passes (entry.Began t) es h = cc
silent_passes (entry.Opened o) es h = cc
silent_passes (entry.Closed call how) es h = cc
silent_passes (entry.Decided event v) es h = cc
silent_passes (entry.Ended txn) es h = cc
silent_passes _ es h = (refl, refl, h)

-- silent entries rule nothing
pub silent_alone : {es : List Entry} → AreSilent es → RulesAlone es []
silent_alone {es} h = by es h.none
  where
    by : (es : List Entry) → filter is_docketed es ≡ [] → RulesAlone es []
    by [] h = rules_alone refl refl
    by (e ∷ es) h =
        let parts = silent_passes e es h in
        let rest : RulesAlone es [] = by es parts.2 in
        rules_alone (ap (λ (b : Bool). b && list_all closes_none es) parts.1 ∙ rest.none) (ap (λ (o : Option Ruling). cons_option o (rulings_of es)) parts.0 ∙ rest.made)
