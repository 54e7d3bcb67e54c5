-- What is told of calls after all that is due. Unknown ones stay unknown, and closed ones closed. Asked ones are asked until a deadline
-- or an expiry.
use Rattle.std.proofs.Common.{◌≡◌, ℕ, ◌<◌, Bool, true, false, not, ◌&&◌, ◌||◌, nat_eq, nat_le, nat_lt, List, [], ◌∷◌, map, fold, refl, sym, ap, ◌∙◌, arith}
use Rattle.std.specs.Prelude.{Some, None, option_map, find}
use Rattle.std.specs.List.{list_all}
use Rattle.std.proofs.lemmas.Bool.{and_parts}
use Rattle.std.proofs.lemmas.Bool.Decides.{nat_tests}
use Rattle.iss_model.specs.declared.call.Opened.{Opened}
use Rattle.iss_model.specs.declared.entry.Entry.{Entry}
use Rattle.iss_model.specs.declared.entry.Entry.TheVariants as entry
use Rattle.iss_model.specs.rules.Activity.{TxnNow, CallNow, call_numbered, is_asked}
use Rattle.iss_model.specs.rules.Acts.{Act, Asks}
use Rattle.iss_model.specs.rules.Due.{DueThing, thing_entries}
use Rattle.iss_model.specs.rules.Facts.{txn_in, call_in}
use Rattle.iss_model.specs.rules.Reasons.{is_some_with}
use Rattle.iss_model.specs.rules.Stepping.{after_due}
use Rattle.iss_model.specs.state.Cores.{CoreState, core_facts, call_after_close, core_keeper, after_entry}
use Rattle.iss_model.proofs.Lists.{map-alike, map-map}
use Rattle.iss_acts.specs.Causes.{FallsDue, may_act}
use Rattle.iss_acts.specs.Items.{Item, Opening, has_item, item_entry}
use Rattle.iss_acts.proofs.Stepping.{due_stays}
use Rattle.iss_acts.proofs.Walk.{due_holds, each_item}
use Rattle.iss_state.proofs.effects.Effects.{setting_calls}
use Rattle.iss_state.proofs.effects.Finds.{find-map}
use Rattle.iss_state.proofs.docket.Closing.{same_opened}
use Rattle.iss_state.proofs.docket.Lists.{none_mapped}
use Rattle.iss_state.specs.Pending.{IsWell, known_of}
use Rattle.iss_state.proofs.calls.DueHits.{after_due_fate}
use Rattle.iss_state.proofs.calls.Fates.{Fate, entries_leave_closed}

-- what is due opens no call ----

abbrev pub openings : List CallNow → List Opened
openings calls = map (λ c. c.opened) calls

-- an entry opens no call
abbrev opens_none : Entry → Bool
opens_none (entry.Opened o) = false
opens_none _ = true

due_opens_none : (a : Act) → may_act FallsDue a ≡ true → (x : Item) → has_item a x ≡ true → opens_none (item_entry x) ≡ true
due_opens_none (Asks f product ask) cause x may = cc
due_opens_none _ cause (Opening o) may = cc
due_opens_none _ cause _ may = refl

entry_openings : (s : CoreState) (e : Entry) → opens_none e ≡ true → openings (after_entry s e).calls ≡ openings s.calls
entry_openings s (entry.Conf i) none = ap openings (setting_calls s i)
entry_openings s (entry.Opened o) none = cc
entry_openings s (entry.Closed call how) none =
    map-map (call_after_close call.0 how) (λ (c : CallNow). c.opened) s.calls
    ∙ map-alike (λ (c : CallNow). (call_after_close call.0 how c).opened) (λ (c : CallNow). c.opened) (same_opened call.0 how) s.calls
entry_openings s (entry.Began t) none = refl
entry_openings s _ none = refl

entries_openings : (s : CoreState) (es : List Entry) → list_all opens_none es ≡ true → openings (fold after_entry s es).calls ≡ openings s.calls
entries_openings s [] none = refl
entries_openings s (e ∷ es) none =
    let parts = and_parts (opens_none e) (list_all opens_none es) none in
    entries_openings (after_entry s e) es parts.1 ∙ entry_openings s e parts.0

thing_openings : (s : CoreState) (at : ℕ) (thing : DueThing) → openings (fold after_entry s (thing_entries thing at (core_facts s))).calls ≡ openings s.calls
thing_openings s at thing =
    entries_openings s (thing_entries thing at (core_facts s)) (due_holds (core_facts s) thing at (each_item (λ g a made. due_opens_none a made.cause))).all

pub no_opening : (s : CoreState) (at : ℕ) → openings (after_due core_keeper s at).world.calls ≡ openings s.calls
no_opening s at = due_stays (λ later. openings later.calls ≡ openings s.calls) at (λ later thing h. thing_openings later at thing ∙ h) s refl

found_opening : (n : ℕ) (calls : List CallNow) → find (λ o. nat_eq o.call.0 n) (openings calls) ≡ option_map (λ c. c.opened) (call_numbered n calls)
found_opening n calls = find-map (λ (o : Opened). nat_eq o.call.0 n) (λ (c : CallNow). nat_eq c.opened.call.0 n) (λ (c : CallNow). c.opened) (λ c. refl) calls

pub unknown_stays : (s : CoreState) (at n : ℕ) → call_in (core_facts s) n ≡ None → call_in (core_facts (after_due core_keeper s at).world) n ≡ None
unknown_stays s at n e =
    none_mapped (λ (c : CallNow). c.opened) (call_numbered n (after_due core_keeper s at).world.calls)
    (sym (found_opening n (after_due core_keeper s at).world.calls) ∙ ap (λ (os : List Opened). find (λ (o : Opened). nat_eq o.call.0 n) os) (no_opening s at)
    ∙ found_opening n s.calls ∙ ap (option_map (λ (c : CallNow). c.opened)) e)

pub closed_stays_closed : (s : CoreState) (at n : ℕ) (c : CallNow) → call_in (core_facts s) n ≡ Some c → is_asked c ≡ false
    → call_in (core_facts (after_due core_keeper s at).world) n ≡ Some c
closed_stays_closed s at n c stands closed =
    due_stays (λ later. call_numbered n later.calls ≡ Some c) at (λ later thing h. entries_leave_closed later (thing_entries thing at (core_facts later)) n c h closed) s stands

-- asked calls ----

not_come : (a b at : ℕ) → (nat_lt at a && nat_lt at b) ≡ not (nat_le a at || nat_le b at)
not_come a b at = grind (arith, nat_tests)

fated : (calls : List CallNow) (n : ℕ) (c : CallNow) (hit : Bool) → is_asked c ≡ true → Fate calls n c hit → is_some_with is_asked (call_numbered n calls) ≡ not hit
fated calls n c true asked fate = ap (is_some_with is_asked) fate.stands ∙ fate.closed refl
fated calls n c false asked fate = ap (is_some_with is_asked) fate.stands ∙ ap is_asked (fate.left refl) ∙ asked

pub still_asked : (s : CoreState) (at n : ℕ) (c : CallNow) (t : TxnNow) → IsWell s → call_in (core_facts s) n ≡ Some c → is_asked c ≡ true
    → txn_in (core_facts s) c.opened.txn ≡ Some t
    → is_some_with is_asked (call_in (core_facts (after_due core_keeper s at).world) n) ≡ (nat_lt at c.opened.deadline && nat_lt at t.txn.expires)
still_asked s at n c t well stands asked its =
    fated (after_due core_keeper s at).world.calls n c (nat_le c.opened.deadline at || nat_le t.txn.expires at) asked
    (after_due_fate (known_of s) s at n c t well.docket (record { stands = stands; asked = asked }) its)
    ∙ sym (not_come c.opened.deadline t.txn.expires at)

neither_come : (a b at : ℕ) → at < a → at < b → (nat_le a at || nat_le b at) ≡ false
neither_come a b at h k = grind (arith, nat_tests)

pub left_as_it_is : (s : CoreState) (at n : ℕ) (c : CallNow) (t : TxnNow) → IsWell s → call_in (core_facts s) n ≡ Some c → is_asked c ≡ true
    → txn_in (core_facts s) c.opened.txn ≡ Some t
    → at < c.opened.deadline → at < t.txn.expires → call_in (core_facts (after_due core_keeper s at).world) n ≡ Some c
left_as_it_is s at n c t well stands asked its before earlier =
    let fate = after_due_fate (known_of s) s at n c t well.docket (record { stands = stands; asked = asked }) its in
    fate.stands ∙ ap (λ (x : CallNow). Some x) (fate.left (neither_come c.opened.deadline t.txn.expires at before earlier))
