-- The sums of controls are those over the rows that were noted, whatever is noted, put or changed.
use Rattle.std.proofs.Common.{◌≡◌, ℕ, zero, suc, ℤ, pos, ◌+ℤ◌, Bool, true, false, cond, ◌&&◌, nat_le, nat_lt, List, [], ◌∷◌, ◌++◌, map, fold, slice_get, Option, Some, refl, sym, ap, ◌∙◌, subst, arith}
use Rattle.std.proofs.lemmas.Int.{ints}
use Rattle.std.proofs.lemmas.Bool.{and_parts}
use Rattle.std.proofs.lemmas.Bool.Decides.{nat_tests}
use Rattle.std.proofs.lemmas.List.Sums.{fold-append}
use Rattle.std.specs.Prelude.{unwrap_or}
use Rattle.std.specs.List.{list_all, list_any}
use Rattle.std.specs.Str.{bytes_eq}
use Rattle.std.specs.Ordering.{nat_cmp}
use Rattle.std.specs.Cmp.Lexicographic.{slice_cmp}
use Rattle.std.specs.FinMap as finite
use Rattle.iss_model.specs.declared.entry.Entry.TheVariants as entry
use Rattle.iss_model.specs.declared.txn.UsageRow.{UsageRow}
use Rattle.iss_model.specs.Sums.{Change, changed_at}
use Rattle.iss_model.specs.rules.Controls.{Group, ControlPut, covers, is_associated, span_key, counted_changes}
use Rattle.iss_model.specs.Currencies.{same_currency}
use Rattle.iss_model.specs.state.Kept.{Kept, nothing_kept, kept_at, after_changes}
use Rattle.iss_model.specs.state.Cores.{ControlKept, control_after_put, with_control, control_after_use}
use Rattle.iss_model.proofs.KeptSums.{kept_at-after_changes}
use Rattle.iss_velocity.specs.Puts.{control_after_limits, control_after_activity}
use Rattle.iss_velocity.specs.Noted.{Noted, noted_sum, IsSumOf, AreSumsOf, are_not_later}

-- a sum over the rows with one more
sum_more : (v : UsageRow → ℤ) (put : ControlPut) (key : List ℕ) (noted : List Noted) (n : Noted)
    → noted_sum v put key (noted ++ n ∷ []) ≡ noted_sum v put key noted +ℤ changed_at key (counted_changes v n.groups put (entry.Usage n.row))
sum_more v put key noted n = fold-append (λ (sum : ℤ) (m : Noted). sum +ℤ changed_at key (counted_changes v m.groups put (entry.Usage m.row))) (pos 0) noted (n ∷ [])

-- what is found in a list that was mapped
found_mapped : (f : ControlKept → ControlKept) (cs : List ControlKept) (i : ℕ) (c : ControlKept) (P : ControlKept → Type 0) → slice_get (map f cs) i ≡ Some c
    → ((d : ControlKept) → slice_get cs i ≡ Some d → P (f d)) → P c
found_mapped f [] i c P e each = cc
found_mapped f (d ∷ cs) zero c P e each = (let one : f d ≡ c = cc in subst P one (each d refl))
found_mapped f (d ∷ cs) (suc i) c P e each = found_mapped f cs i c P e each

pub noted_more : (noted : List Noted) (controls : List ControlKept) (groups : List Group) (row : UsageRow) → AreSumsOf noted controls
    → AreSumsOf (noted ++ record { groups = groups; row = row } ∷ []) (map (control_after_use groups (entry.Usage row)) controls)
noted_more noted controls groups row sums =
    record {
      sums = λ i c e. found_mapped (control_after_use groups (entry.Usage row)) controls i c (IsSumOf (noted ++ record { groups = groups; row = row } ∷ [])) e (λ d f.
          let own = sums.sums i d f in
          record {
            amounts = λ key. one (λ r. r.amount) d.amounts (record { number = d.first; control = d.control }) key (own.amounts key);
            times = λ key. one (λ r. r.count) d.times (record { number = d.first; control = d.control }) key (own.times key);
          });
    }
  where
    one : (v : UsageRow → ℤ) (kept : Kept) (put : ControlPut) (key : List ℕ) → kept_at kept key ≡ noted_sum v put key noted
        → kept_at (after_changes kept (counted_changes v groups put (entry.Usage row))) key ≡ noted_sum v put key (noted ++ record { groups = groups; row = row } ∷ [])
    one v kept put key e =
        kept_at-after_changes kept (counted_changes v groups put (entry.Usage row)) key
        ∙ ap (λ (z : ℤ). z +ℤ changed_at key (counted_changes v groups put (entry.Usage row))) e
        ∙ sym (sum_more v put key noted (record { groups = groups; row = row }))

-- a control's sums rest on its number, currency, window, association and scope
sums_of_changed : (noted : List Noted) (f : ControlKept → ControlKept) (controls : List ControlKept) → ((c : ControlKept) → IsSumOf noted c → IsSumOf noted (f c))
    → AreSumsOf noted controls → AreSumsOf noted (map f controls)
sums_of_changed noted f controls each sums =
    record { sums = λ i c e. found_mapped f controls i c (IsSumOf noted) e (λ d g. each d (sums.sums i d g)) }

pub limits_same : (noted : List Noted) (controls : List ControlKept) (name : List ℕ) (amount usage : Option ℕ) → AreSumsOf noted controls
    → AreSumsOf noted (map (control_after_limits name amount usage) controls)
limits_same noted controls name amount usage sums = sums_of_changed noted (control_after_limits name amount usage) controls (λ c h. at c (bytes_eq name c.control.name) h) sums
  where
    at : (c : ControlKept) (b : Bool) → IsSumOf noted c
        → IsSumOf noted (cond b (record c { control = record (c.control) { amount_limit = amount; usage_limit = usage } }) c)
    at c true h = record { amounts = h.amounts; times = h.times }
    at c false h = h

pub activity_same : (noted : List Noted) (controls : List ControlKept) (name : List ℕ) (active : Bool) → AreSumsOf noted controls
    → AreSumsOf noted (map (control_after_activity name active) controls)
activity_same noted controls name active sums = sums_of_changed noted (control_after_activity name active) controls (λ c h. at c (bytes_eq name c.control.name) h) sums
  where
    at : (c : ControlKept) (b : Bool) → IsSumOf noted c
        → IsSumOf noted (cond b (record c { control = record (c.control) { active = active } }) c)
    at c true h = record { amounts = h.amounts; times = h.times }
    at c false h = h

-- no row that was noted is counted by a later control
none_counted : (v : UsageRow → ℤ) (put : ControlPut) (key : List ℕ) (noted : List Noted) → are_not_later put.number noted ≡ true → noted_sum v put key noted ≡ pos 0
none_counted v put key noted h = from (pos 0) noted h
  where
    not_counted : (n : Noted) → nat_le n.row.origin put.number ≡ true → counted_changes v n.groups put (entry.Usage n.row) ≡ []
    not_counted n g =
        let earlier : nat_lt put.number n.row.origin ≡ false = grind (arith, nat_tests) in
        ap (λ (b : Bool). cond (b && same_currency put.control.currency n.row.currency && is_associated put.control.association n.row.user n.row.product && covers n.groups put.control.scope n.row.mcc n.row.mid)
        (record { key = span_key put.control put.control.window n.row; by = v n.row } ∷ []) []) earlier

    same : (z : ℤ) → z +ℤ pos 0 ≡ z
    same z = omega (arith, ints)

    from : (z : ℤ) (ns : List Noted) → list_all (λ (n : Noted). nat_le n.row.origin put.number) ns ≡ true
        → fold (λ (sum : ℤ) (n : Noted). sum +ℤ changed_at key (counted_changes v n.groups put (entry.Usage n.row))) z ns ≡ z
    from z [] g = refl
    from z (n ∷ ns) g =
        let parts = and_parts (nat_le n.row.origin put.number) (list_all (λ (m : Noted). nat_le m.row.origin put.number) ns) g in
        ap (λ (x : ℤ). fold (λ (sum : ℤ) (m : Noted). sum +ℤ changed_at key (counted_changes v m.groups put (entry.Usage m.row))) x ns)
        (ap (λ (cs : List Change). z +ℤ changed_at key cs) (not_counted n parts.0) ∙ same z)
        ∙ from z ns parts.1

pub put_same : (noted : List Noted) (controls : List ControlKept) (put : ControlPut) → AreSumsOf noted controls → are_not_later put.number noted ≡ true
    → AreSumsOf noted (with_control controls put)
put_same noted controls put sums later = at (list_any (λ (c : ControlKept). bytes_eq c.control.name put.control.name) controls)
  where
    replaced : (c : ControlKept) (b : Bool) → IsSumOf noted c
        → IsSumOf noted (cond b (record c { control = record (c.control) { amount_limit = put.control.amount_limit; usage_limit = put.control.usage_limit; active = put.control.active } }) c)
    replaced c true h = record { amounts = h.amounts; times = h.times }
    replaced c false h = h

    empty : (v : UsageRow → ℤ) (key : List ℕ) → kept_at nothing_kept key ≡ noted_sum v put key noted
    empty v key = ap (λ (o : Option ℤ). unwrap_or o (pos 0)) (finite.get-empty (slice_cmp nat_cmp) key) ∙ sym (none_counted v put key noted later)

    last : (cs : List ControlKept) (i : ℕ) (c : ControlKept) → ((j : ℕ) (d : ControlKept) → slice_get cs j ≡ Some d → IsSumOf noted d)
        → slice_get (cs ++ record { first = put.number; control = put.control; amounts = nothing_kept; times = nothing_kept } ∷ []) i ≡ Some c → IsSumOf noted c
    last [] zero c all e =
        let one : record { first = put.number; control = put.control; amounts = nothing_kept; times = nothing_kept } ≡ c = cc in
        subst (IsSumOf noted) one (record { amounts = empty (λ r. r.amount); times = empty (λ r. r.count) })
    last [] (suc i) c all e = cc
    last (d ∷ cs) zero c all e = all zero c e
    last (d ∷ cs) (suc i) c all e = last cs i c (λ j x f. all (suc j) x f) e

    at : (b : Bool) → AreSumsOf noted (cond b (map (control_after_put put) controls)
        (controls ++ record { first = put.number; control = put.control; amounts = nothing_kept; times = nothing_kept } ∷ []))
    at true = sums_of_changed noted (control_after_put put) controls (λ c h. replaced c (bytes_eq put.control.name c.control.name) h) sums
    at false = record { sums = λ i c e. last controls i c sums.sums e }

pub no_sums : AreSumsOf [] []
no_sums = record { sums = λ i c e. cc }
