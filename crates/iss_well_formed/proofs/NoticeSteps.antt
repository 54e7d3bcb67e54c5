-- A step numbers its notices after all that were made, and each has a method of its own.
use Rattle.std.proofs.Common.{◌≡◌, ◌∙◌, ◌++◌, ◌∷◌, ◌&&◌, ◌+◌, ◌≤◌, ◌==◌, ℕ, ap, ap₂, arith, Bool, cond, false, filter, fold, List, [], nat_le, nat_lt, not, refl, subst, sym, true}
use Rattle.std.specs.List.{list_all}
use Rattle.std.proofs.lemmas.Bool.{and_parts}
use Rattle.std.proofs.lemmas.Bool.Decides.{nat_tests}
use Rattle.std.proofs.lemmas.List.Folds.{list_all-append}
use Rattle.iss_model.specs.declared.call.Notice.{Notice}
use Rattle.iss_model.specs.declared.entry.Entry.{Entry}
use Rattle.iss_model.specs.declared.entry.Entry.TheVariants as entry
use Rattle.iss_model.specs.declared.input.Input.{Input}
use Rattle.iss_model.specs.declared.input.Input.TheVariants as input
use Rattle.iss_model.specs.declared.input.Record.{Record}
use Rattle.iss_model.specs.declared.setting.Moved.TheVariants as moved
use Rattle.iss_model.specs.declared.state.State.{State}
use Rattle.iss_model.specs.rules.Acts.{captured, expired, refunded, reversed}
use Rattle.iss_model.specs.rules.Due.{thing_entries}
use Rattle.iss_model.specs.rules.Facts.{Facts}
use Rattle.iss_model.specs.rules.Histories.{IsLegal}
use Rattle.iss_model.specs.rules.Stepping.{after_due, entries_of, step}
use Rattle.iss_model.specs.state.Cores.{CoreState, Outbox, after_entry, after_setting, core_facts, core_keeper, core_of, with_record}
use Rattle.iss_acts.specs.Causes.{Cause}
use Rattle.iss_acts.specs.Items.{Item, Telling, item_entry}
use Rattle.iss_acts.proofs.Passing.{EachPasses}
use Rattle.iss_acts.proofs.Stepping.{due_stays}
use Rattle.iss_acts.proofs.Walk.{Holds, due_holds, each_item, own_holds}
use Rattle.iss_state.specs.Numbers.{AreNumberedFrom}
use Rattle.iss_state.proofs.docket.Lists.{both_so}
use Rattle.iss_state.proofs.invariants.Legal.{legal_induction}
use Rattle.iss_state.proofs.invariants.Notices.{own_numbered, thing_numbered}
use Rattle.iss_states.specs.Rebuilding.{rebuilt, state_after}
use Rattle.iss_states.specs.Showing.{shown}
use Rattle.iss_well_formed.specs.Notices.{AreToldWell, do_notices_rise, is_told_well}

-- a notice that an entry makes is told well
abbrev tells_well : Entry → Bool
tells_well (entry.Notice n) = is_told_well n
tells_well _ = true

item_tells : (x : Item) → tells_well (item_entry x) ≡ true
item_tells (Telling number reversed t amount gateway) = refl
item_tells (Telling number captured t amount gateway) = refl
item_tells (Telling number refunded t amount gateway) = refl
item_tells (Telling number expired t amount gateway) = refl
item_tells _ = refl

all_tell : {f : Facts} {by : Cause} {at : ℕ} → Holds f by at (EachPasses tells_well)
all_tell = each_item (λ g a made x has. item_tells x)

-- an outbox ----

-- notices rise up to those that were made, and each is told well
record IsTold (o : Outbox) : Type 0 where
  numbers : do_notices_rise 0 o.made o.pending ≡ true
  each : list_all is_told_well o.pending ≡ true

rise_more : (last made : ℕ) (ns : List Notice) (n : Notice) → last ≤ made → n.number ≡ made + 1 → do_notices_rise last made ns ≡ true → do_notices_rise last (made + 1) (ns ++ n ∷ []) ≡ true
rise_more last made [] n le e h =
    ap₂ (λ (x y : Bool). x && y && true) (ap (λ (m : ℕ). nat_lt last m) e ∙ above last made le) (ap (λ (m : ℕ). nat_le m (made + 1)) e ∙ itself (made + 1))
  where
    above : (l n : ℕ) → l ≤ n → nat_lt l (n + 1) ≡ true
    above l n h = grind (arith, nat_tests)

    itself : (n : ℕ) → nat_le n n ≡ true
    itself n = grind (arith, nat_tests)
rise_more last made (x ∷ ns) n le e h =
    let parts = and_parts (nat_lt last x.number && nat_le x.number made) (do_notices_rise x.number made ns) h in
    let first = and_parts (nat_lt last x.number) (nat_le x.number made) parts.0 in
    ap₂ (λ (p q : Bool). p && q) (ap₂ (λ (p q : Bool). p && q) first.0 (later x.number made first.1)) (rise_more x.number made ns n (inside x.number made first.1) e parts.1)
  where
    later : (m n : ℕ) → nat_le m n ≡ true → nat_le m (n + 1) ≡ true
    later m n h = grind (arith, nat_tests)

    inside : (m n : ℕ) → nat_le m n ≡ true → m ≤ n
    inside m n h = grind (arith, nat_tests)

-- from a lower number on they rise too
rise_lower : (low last made : ℕ) (ns : List Notice) → low ≤ last → do_notices_rise last made ns ≡ true → do_notices_rise low made ns ≡ true
rise_lower low last made [] le h = refl
rise_lower low last made (x ∷ ns) le h =
    let parts = and_parts (nat_lt last x.number && nat_le x.number made) (do_notices_rise x.number made ns) h in
    let first = and_parts (nat_lt last x.number) (nat_le x.number made) parts.0 in
    ap₂ (λ (p q : Bool). p && q) (ap₂ (λ (p q : Bool). p && q) (less low last x.number le first.0) first.1) parts.1
  where
    less : (l m n : ℕ) → l ≤ m → nat_lt m n ≡ true → nat_lt l n ≡ true
    less l m n le h = grind (arith, nat_tests)

rise_filtered : (p : Notice → Bool) (last made : ℕ) (ns : List Notice) → do_notices_rise last made ns ≡ true → do_notices_rise last made (filter p ns) ≡ true
rise_filtered p last made [] h = refl
rise_filtered p last made (x ∷ ns) h =
    let parts = and_parts (nat_lt last x.number && nat_le x.number made) (do_notices_rise x.number made ns) h in
    let first = and_parts (nat_lt last x.number) (nat_le x.number made) parts.0 in
    by (p x) parts.0 (rise_filtered p x.number made ns parts.1) (before last x.number first.0)
  where
    before : (m n : ℕ) → nat_lt m n ≡ true → m ≤ n
    before m n h = grind (arith, nat_tests)

    by : (b : Bool) → (nat_lt last x.number && nat_le x.number made) ≡ true → do_notices_rise x.number made (filter p ns) ≡ true → last ≤ x.number → do_notices_rise last made (cond b (x ∷ filter p ns) (filter p ns)) ≡ true
    by true its rest le = both_so (nat_lt last x.number && nat_le x.number made) (do_notices_rise x.number made (filter p ns)) its rest
    by false its rest le = rise_lower last x.number made (filter p ns) le rest

pub all_filtered : (p q : Notice → Bool) (ns : List Notice) → list_all q ns ≡ true → list_all q (filter p ns) ≡ true
all_filtered p q [] h = refl
all_filtered p q (x ∷ ns) h = let both = and_parts (q x) (list_all q ns) h in by (p x) both.0 (all_filtered p q ns both.1)
  where
    by : (b : Bool) → q x ≡ true → list_all q (filter p ns) ≡ true → list_all q (cond b (x ∷ filter p ns) (filter p ns)) ≡ true
    by true its rest = both_so (q x) (list_all q (filter p ns)) its rest
    by false its rest = rest

-- entries ----

pub setting_outbox : (s : CoreState) (i : Input) → (after_setting s i).outbox ≡ s.outbox
setting_outbox s (input.Move token (moved.Card card to)) = refl
setting_outbox s (input.Move token (moved.User user to)) = refl
setting_outbox s _ = refl

entries_told : (s : CoreState) (es : List Entry) → AreNumberedFrom (s.outbox.made + 1) es → list_all tells_well es ≡ true → IsTold s.outbox → IsTold (fold after_entry s es).outbox
entries_told s [] numbered so h = h
entries_told s (entry.Notice n ∷ es) numbered so h =
    let both = and_parts (is_told_well n) (list_all tells_well es) so in
    entries_told (after_entry s (entry.Notice n)) es numbered.1 both.1
    (record {
      numbers = rise_more 0 s.outbox.made s.outbox.pending n (least s.outbox.made) numbered.0 h.numbers;
      each = list_all-append is_told_well s.outbox.pending (n ∷ []) ∙ both_so (list_all is_told_well s.outbox.pending) (is_told_well n && true) h.each (both_so (is_told_well n) true both.0 refl);
    })
  where
    least : (n : ℕ) → 0 ≤ n
    least n = omega arith
entries_told s (entry.Acked k ∷ es) numbered so h =
    entries_told (after_entry s (entry.Acked k)) es numbered so (record { numbers = rise_filtered (λ (n : Notice). not (k == n.number)) 0 s.outbox.made s.outbox.pending h.numbers; each = all_filtered (λ (n : Notice). not (k == n.number)) is_told_well s.outbox.pending h.each })
entries_told s (entry.Conf i ∷ es) numbered so h =
    entries_told (after_entry s (entry.Conf i)) es (subst (λ (o : Outbox). AreNumberedFrom (o.made + 1) es) (sym (setting_outbox s i)) numbered) so (subst IsTold (sym (setting_outbox s i)) h)
entries_told s (e ∷ es) numbered so h = entries_told (after_entry s e) es numbered so h

abbrev AreTold : CoreState → Type 0
AreTold c = IsTold c.outbox

step_told : (c : CoreState) (r : Record) → AreTold c → AreTold (step core_keeper c r).world
unfolding step
step_told c r h =
    let up : CoreState = with_record c r in
    let due : CoreState = (after_due core_keeper up r.at).world in
    let now : AreTold due = due_stays AreTold r.at (λ s thing now. entries_told s (thing_entries thing r.at (core_facts s)) (thing_numbered (core_facts s) thing r.at) (due_holds (core_facts s) thing r.at all_tell).all now) up h in
    entries_told due (entries_of r.input r.at (core_facts due)) (own_numbered (core_facts due) r.input r.at) (own_holds (core_facts due) r.input r.at all_tell).all now

told_shown : (c : CoreState) → AreTold c → AreToldWell (shown c)
told_shown c h = record { numbers = h.numbers; each = h.each }

pub told_after : (s : State) (r : Record) → AreToldWell s → AreToldWell (state_after s r)
told_after s r h = told_shown (step core_keeper (rebuilt s) r).world (step_told (rebuilt s) r (record { numbers = h.numbers; each = h.each }))

pub legal_told : (rs : List Record) → IsLegal rs → AreToldWell (shown (core_of rs))
legal_told rs legal = told_shown (core_of rs) (legal_induction (λ rs c. AreTold c) (record { numbers = refl; each = refl }) (λ rs r new h. step_told (core_of rs) r h) rs legal)
