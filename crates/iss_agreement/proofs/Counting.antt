-- What a control counts by origin is what it has counted since its first record.
use Rattle.std.proofs.Common.{◌≡◌, ℕ, ℤ, Bool, true, false, cond, ◌&&◌, nat_le, nat_lt, List, [], ◌∷◌, ◌++◌, map, fold, refl, sym, ap, ap₂, ◌∙◌, arith}
use Rattle.std.specs.Prelude.{Option, Some, None, find, is_some}
use Rattle.std.specs.Option.{option_or}
use Rattle.std.specs.List.{filter_map, cons_option, list_any, list_all}
use Rattle.std.specs.Str.{bytes_eq}
use Rattle.std.proofs.lemmas.List.Elements.{filter_map-append}
use Rattle.std.proofs.lemmas.List.Folds.{find-append}
use Rattle.std.proofs.lemmas.List.Sums.{fold-append}
use Rattle.std.proofs.lemmas.Bool.{and_parts}
use Rattle.std.proofs.lemmas.Bool.Decides.{nat_tests}
use Rattle.iss_model.specs.declared.setting.Control.{Control}
use Rattle.iss_model.specs.declared.setting.Scope.{Scope}
use Rattle.iss_model.specs.declared.setting.Scope.TheVariants as scope
use Rattle.iss_model.specs.declared.txn.UsageRow.{UsageRow}
use Rattle.iss_model.specs.declared.input.Input.{Input}
use Rattle.iss_model.specs.declared.input.Input.TheVariants as input
use Rattle.iss_model.specs.declared.entry.Entry.{Entry}
use Rattle.iss_model.specs.declared.entry.Entry.TheVariants as entry
use Rattle.iss_model.specs.declared.entry.Row.{Row}
use Rattle.iss_model.specs.Currencies.{same_currency}
use Rattle.iss_model.specs.Sums.{Change}
use Rattle.iss_model.specs.state.Kept.{Kept, nothing_kept, after_changes, kept_of}
use Rattle.iss_model.specs.rules.Controls.{Group, group_made, groups_of, ControlPut, control_put, control_replaced, control_now, control_puts_of, firsts, holds_mcc, covers, is_associated, span_key, counted_changes}
use Rattle.iss_model.specs.state.Cores.{ControlKept, control_after_put, with_control, control_after_use, with_made}
use Rattle.iss_agreement.specs.Shown.{shown_control}
use Rattle.iss_model.proofs.Names.{name-sym}
use Rattle.iss_model.proofs.Lists.{map-alike, map-map, map-where}
use Rattle.iss_model.proofs.KeptSums.{kept-alike}
use Rattle.iss_agreement.proofs.Standing.{Bounds, is_group_known, is_row_standing, is_standing}
use Rattle.iss_agreement.proofs.Growing.{row_of, made-none, last_named, last_named-more, last_named-own}
use Rattle.iss_agreement.proofs.KeptLists.{put-again, put-first, any-map}
use Rattle.iss_agreement.proofs.KeptParties.{AreStanding, its_entry}

pub kept-more : (f : Entry → List Change) (rows : List Row) (n : ℕ) (e : Entry) → kept_of f (rows ++ row_of n e) ≡ after_changes (kept_of f rows) (f e)
kept-more f rows n e = fold-append (λ (sums : Kept) (row : Row). after_changes sums (f row.entry)) nothing_kept rows (row_of n e)

-- a control with what these rows made it count, by these groups
abbrev pub control_seen : List Group → List Row → ControlPut → ControlKept
control_seen groups rows put =
    record {
      first = put.number;
      control = put.control;
      amounts = kept_of (counted_changes (λ row. row.amount) groups put) rows;
      times = kept_of (counted_changes (λ row. row.count) groups put) rows;
    }

seen-more : (groups : List Group) (rows : List Row) (n : ℕ) (e : Entry) (put : ControlPut) → control_seen groups (rows ++ row_of n e) put ≡ control_after_use groups e (control_seen groups rows put)
seen-more groups rows n e put =
    λ i. record {
      first = put.number;
      control = put.control;
      amounts = kept-more (counted_changes (λ (row : UsageRow). row.amount) groups put) rows n e i;
      times = kept-more (counted_changes (λ (row : UsageRow). row.count) groups put) rows n e i;
    }

-- two controls that count alike have counted alike
seen-alike : (g h : List Group) (rows : List Row) (p q : ControlPut) → p.number ≡ q.number
    → ((worth : UsageRow → ℤ) (e : Entry) → counted_changes worth g p e ≡ counted_changes worth h q e)
    → (c : Control) → ◌≡◌ {A = ControlKept} (record (control_seen g rows p) { control = c }) (record (control_seen h rows q) { control = c })
seen-alike g h rows p q first alike c =
    λ i. record {
      first = first i;
      control = c;
      amounts = kept-alike (counted_changes (λ (row : UsageRow). row.amount) g p) (counted_changes (λ (row : UsageRow). row.amount) h q) (alike (λ (row : UsageRow). row.amount)) nothing_kept rows i;
      times = kept-alike (counted_changes (λ (row : UsageRow). row.count) g p) (counted_changes (λ (row : UsageRow). row.count) h q) (alike (λ (row : UsageRow). row.count)) nothing_kept rows i;
    }

-- a further group changes nothing for a scope whose group stands ----

first_stands : {A : Type 0} (o later : Option A) → is_some o ≡ true → option_or o later ≡ o
first_stands None later h = cc
first_stands (Some x) later h = refl

covers-more : (groups more : List Group) (s : Scope) (mcc : ℕ) (mid : List ℕ) → is_group_known groups s ≡ true → covers (groups ++ more) s mcc mid ≡ covers groups s mcc mid
covers-more groups more (scope.Group name) mcc mid known =
    ap (holds_mcc mcc) (find-append (λ (group : Group). bytes_eq group.name name) groups more ∙ first_stands (find (λ (group : Group). bytes_eq group.name name) groups) (find (λ (group : Group). bytes_eq group.name name) more) known)
covers-more groups more _ mcc mid known = refl

counted-more : (groups more : List Group) (put : ControlPut) → is_group_known groups put.control.scope ≡ true
    → (worth : UsageRow → ℤ) (e : Entry) → counted_changes worth (groups ++ more) put e ≡ counted_changes worth groups put e
counted-more groups more put known worth (entry.Usage row) =
    ap (λ (b : Bool). cond (nat_lt put.number row.origin && same_currency put.control.currency row.currency && is_associated put.control.association row.user row.product && b)
    (record { key = span_key put.control put.control.window row; by = worth row } ∷ []) [])
    (covers-more groups more put.control.scope row.mcc row.mid known)
counted-more groups more put known worth _ = refl

-- a control that is put now has counted nothing ----

none_kept : (p : Row → Bool) (f : Entry → List Change) → ((row : Row) → p row ≡ true → f row.entry ≡ []) → (sums : Kept) (rows : List Row) → list_all p rows ≡ true
    → fold (λ s row. after_changes s (f row.entry)) sums rows ≡ sums
none_kept p f each sums [] h = refl
none_kept p f each sums (row ∷ rows) h =
    let parts = and_parts (p row) (list_all p rows) h in
    ap (λ (cs : List Change). fold (λ (s : Kept) (row : Row). after_changes s (f row.entry)) (after_changes sums cs) rows) (each row parts.0)
    ∙ none_kept p f each sums rows parts.1

not_later : (origin number count put : ℕ) → nat_le origin number ≡ true → nat_le number count ≡ true → count ≡ put → nat_lt put origin ≡ false
not_later origin number count put h k e = grind (arith, nat_tests)

not_counted : (b : Bounds) (rows : List Row) (groups : List Group) (put : ControlPut) (worth : UsageRow → ℤ) → b.count ≡ put.number
    → (number : ℕ) (e : Entry) → nat_le number b.count ≡ true → is_standing b rows number e ≡ true → counted_changes worth groups put e ≡ []
not_counted b rows groups put worth now number (entry.Usage row) within h =
    ap (λ (later : Bool). cond (later && same_currency put.control.currency row.currency && is_associated put.control.association row.user row.product && covers groups put.control.scope row.mcc row.mid)
    (record { key = span_key put.control put.control.window row; by = worth row } ∷ []) [])
    (not_later row.origin number b.count put.number h within now)
not_counted b rows groups put worth now number _ within h = refl

new_control : (b : Bounds) (rows : List Row) (groups : List Group) (put : ControlPut) → AreStanding b rows → b.count ≡ put.number
    → control_seen groups rows put ≡ record { first = put.number; control = put.control; amounts = nothing_kept; times = nothing_kept }
new_control b rows groups put standing now =
    let none = λ (worth : UsageRow → ℤ). none_kept (is_row_standing b rows) (counted_changes worth groups put)
    (λ row passes. not_counted b rows groups put worth now row.number row.entry (and_parts (nat_le row.number b.count) (is_standing b rows row.number row.entry) passes).0 (its_entry b rows row passes)) nothing_kept rows standing in
    λ i. record { first = put.number; control = put.control; amounts = none (λ (row : UsageRow). row.amount) i; times = none (λ (row : UsageRow). row.count) i }

-- a control that is put ----

abbrev pub put_name : ControlPut → List ℕ
put_name put = put.control.name

put_more : (groups : List Group) (rows : List Row) (x last p : ControlPut) (b : Bool)
    → control_seen groups rows (record x { control = control_replaced x.control (cond b p last).control })
    ≡ cond b (record (control_seen groups rows (record x { control = control_replaced x.control last.control })) { control = control_replaced x.control p.control })
    (control_seen groups rows (record x { control = control_replaced x.control last.control }))
put_more groups rows x last p true =
    seen-alike groups groups rows (record x { control = control_replaced x.control p.control }) (record x { control = control_replaced x.control last.control }) refl
    (λ worth. elim [ entry.Usage row ↦ refl | _ ↦ refl ]) (control_replaced x.control p.control)
put_more groups rows x last p false = refl

-- a control as it stands by these puts, with what it has counted
abbrev seen_by : List Group → List Row → List ControlPut → ControlPut → ControlKept
seen_by groups rows puts put = control_seen groups rows (control_now puts put)

put_changed : (groups : List Group) (rows : List Row) (puts : List ControlPut) (p x : ControlPut) → seen_by groups rows (puts ++ p ∷ []) x ≡ control_after_put p (seen_by groups rows puts x)
put_changed groups rows puts p x =
    ap (λ (last : ControlPut). control_seen groups rows (record x { control = control_replaced x.control last.control })) (last_named-more put_name puts p x)
    ∙ put_more groups rows x (last_named put_name puts x) p (bytes_eq p.control.name x.control.name)

put_other : (groups : List Group) (rows : List Row) (puts : List ControlPut) (p x : ControlPut) → bytes_eq x.control.name p.control.name ≡ false
    → seen_by groups rows (puts ++ p ∷ []) x ≡ seen_by groups rows puts x
put_other groups rows puts p x differs =
    let c : ControlKept = seen_by groups rows puts x in
    put_changed groups rows puts p x
    ∙ ap (λ (b : Bool). cond b (record c { control = control_replaced c.control p.control }) c) (name-sym p.control.name x.control.name ∙ differs)

put_taken : (b : Bounds) (groups : List Group) (rows : List Row) (puts : List ControlPut) (p : ControlPut) → AreStanding b rows → b.count ≡ p.number
    → (known : Bool) → list_any (λ k. bytes_eq k.control.name p.control.name) (firsts put_name puts) ≡ known
    → map (seen_by groups rows (puts ++ p ∷ [])) (firsts put_name (puts ++ p ∷ []))
    ≡ cond known (map (control_after_put p) (map (seen_by groups rows puts) (firsts put_name puts)))
    (map (seen_by groups rows puts) (firsts put_name puts) ++ record { first = p.number; control = p.control; amounts = nothing_kept; times = nothing_kept } ∷ [])
put_taken b groups rows puts p standing now true known =
    put-again put_name (seen_by groups rows) (control_after_put p) puts p known (put_changed groups rows puts p)
put_taken b groups rows puts p standing now false new =
    put-first put_name (seen_by groups rows) puts p _ new (put_other groups rows puts p)
    (ap (λ (last : ControlPut). control_seen groups rows (record p { control = control_replaced p.control last.control })) (last_named-own put_name puts p)
    ∙ new_control b rows groups p standing now)

-- the controls with one more row ----

abbrev pub controls_after : ℕ → List Group → List ControlKept → Entry → List ControlKept
controls_after count groups controls (entry.Conf (input.Control token control currency window amount_limit usage_limit association scope offset active)) =
    with_made with_control controls
    (control_put count (entry.Conf (input.Control token control currency window amount_limit usage_limit association scope offset active)))
controls_after count groups controls (entry.Usage row) = map (control_after_use groups (entry.Usage row)) controls
controls_after count groups controls _ = controls

abbrev pub controls_shown : List Row → List ControlKept
controls_shown rows = map (shown_control rows) (control_puts_of rows)

-- each row that puts a control
abbrev pub puts_of : List Row → List ControlPut
puts_of rows = filter_map (λ row. control_put row.number row.entry) rows

abbrev pub AreScopesKnown : List Row → Type 0
AreScopesKnown rows = list_all (λ put. is_group_known (groups_of rows) put.control.scope) (control_puts_of rows) ≡ true

-- the controls if a row puts none
shown_as : (rows all : List Row) (upd : ControlKept → ControlKept) → puts_of all ≡ puts_of rows
    → ((put : ControlPut) → shown_control all put ≡ upd (shown_control rows put)) → controls_shown all ≡ map upd (controls_shown rows)
shown_as rows all upd puts alike =
    ap (λ (ps : List ControlPut). map (shown_control all) (map (control_now ps) (firsts put_name ps))) puts
    ∙ map-alike (shown_control all) (λ (put : ControlPut). upd (shown_control rows put)) alike (control_puts_of rows)
    ∙ sym (map-map (shown_control rows) upd (control_puts_of rows))

shown_where : (rows all : List Row) → puts_of all ≡ puts_of rows → AreScopesKnown rows
    → ((put : ControlPut) → is_group_known (groups_of rows) put.control.scope ≡ true → shown_control all put ≡ shown_control rows put) → controls_shown all ≡ controls_shown rows
shown_where rows all puts known alike =
    ap (λ (ps : List ControlPut). map (shown_control all) (map (control_now ps) (firsts put_name ps))) puts
    ∙ map-where (λ (put : ControlPut). is_group_known (groups_of rows) put.control.scope) (shown_control all) (shown_control rows) alike (control_puts_of rows) known

-- a row that makes no group leaves the groups
same_groups : (rows : List Row) (n : ℕ) (e : Entry) → group_made e ≡ None → groups_of (rows ++ row_of n e) ≡ groups_of rows
same_groups rows n e none = made-none (λ (row : Row). group_made row.entry) rows (row_of n e) (ap (λ (o : Option Group). cons_option o []) none)

shown-more : (rows : List Row) (n : ℕ) (e : Entry) → group_made e ≡ None → (put : ControlPut) → shown_control (rows ++ row_of n e) put ≡ control_after_use (groups_of rows) e (shown_control rows put)
shown-more rows n e none put =
    ap (λ (groups : List Group). control_seen groups (rows ++ row_of n e) put) (same_groups rows n e none) ∙ seen-more (groups_of rows) rows n e put

-- a row that puts a control
put_row : (b : Bounds) (rows : List Row) (n : ℕ) (i : Input) (p : ControlPut) → AreStanding b rows → b.count ≡ p.number → group_made (entry.Conf i) ≡ None
    → puts_of (rows ++ row_of n (entry.Conf i)) ≡ puts_of rows ++ p ∷ [] → controls_shown (rows ++ row_of n (entry.Conf i)) ≡ with_control (controls_shown rows) p
put_row b rows n i p standing now none more =
    let e : Entry = entry.Conf i in
    let puts : List ControlPut = puts_of rows in
    ap (λ (ps : List ControlPut). map (shown_control (rows ++ row_of n e)) (map (control_now ps) (firsts put_name ps))) more
    ∙ map-alike (shown_control (rows ++ row_of n e)) (shown_control rows) (shown-more rows n e none) (map (control_now (puts ++ p ∷ [])) (firsts put_name (puts ++ p ∷ [])))
    ∙ map-map (control_now (puts ++ p ∷ [])) (shown_control rows) (firsts put_name (puts ++ p ∷ []))
    ∙ put_taken b (groups_of rows) rows puts p standing now (list_any (λ (k : ControlPut). bytes_eq k.control.name p.control.name) (firsts put_name puts)) refl
    ∙ ap₂ (λ (known : Bool) (controls : List ControlKept). cond known (map (control_after_put p) controls) (controls ++ record { first = p.number; control = p.control; amounts = nothing_kept; times = nothing_kept } ∷ []))
    (sym (any-map (λ (c : ControlKept). bytes_eq c.control.name p.control.name) (seen_by (groups_of rows) rows puts) (firsts put_name puts))
    ∙ ap (list_any (λ (c : ControlKept). bytes_eq c.control.name p.control.name)) (sym (map-map (control_now puts) (shown_control rows) (firsts put_name puts))))
    (sym (map-map (control_now puts) (shown_control rows) (firsts put_name puts)))

pub controls-more : (b : Bounds) (rows : List Row) (n : ℕ) (e : Entry) → AreStanding b rows → AreScopesKnown rows → b.count ≡ n
    → controls_shown (rows ++ row_of n e) ≡ controls_after n (groups_of rows) (controls_shown rows) e
controls-more b rows n (entry.Conf (input.Control token control currency window amount_limit usage_limit association scope offset active)) standing known now =
    put_row b rows n _ _ standing now refl (filter_map-append (λ (row : Row). control_put row.number row.entry) rows (row_of n _))
controls-more b rows n (entry.Conf (input.Group token group mccs)) standing known now =
    let e : Entry = entry.Conf (input.Group token group mccs) in
    let more : List Group = record { name = group; mccs = mccs } ∷ [] in
    shown_where rows (rows ++ row_of n e) (made-none (λ (row : Row). control_put row.number row.entry) rows (row_of n e) refl) known
    (λ put stands.
    ap (λ (groups : List Group). control_seen groups (rows ++ row_of n e) put) (filter_map-append (λ (row : Row). group_made row.entry) rows (row_of n e))
    ∙ seen-more (groups_of rows ++ more) rows n e put
    ∙ seen-alike (groups_of rows ++ more) (groups_of rows) rows put put refl (counted-more (groups_of rows) more put stands) put.control)
controls-more b rows n (entry.Usage row) standing known now =
    let e : Entry = entry.Usage row in
    shown_as rows (rows ++ row_of n e) (control_after_use (groups_of rows) e) (made-none (λ (row : Row). control_put row.number row.entry) rows (row_of n e) refl) (shown-more rows n e refl)
controls-more b rows n e standing known now =
    shown_where rows (rows ++ row_of n e) (made-none (λ (row : Row). control_put row.number row.entry) rows (row_of n e) refl) known
    (λ put stands. shown-more rows n e refl put)
