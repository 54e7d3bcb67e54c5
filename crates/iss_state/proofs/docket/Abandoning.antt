-- The asked calls of a transaction are abandoned: what that leaves of calls, and that it may be entered.
use Rattle.std.proofs.Common.{◌≡◌, ℕ, ◌+◌, ◌≤◌, Bool, true, false, cond, ◌&&◌, ◌||◌, nat_eq, List, [], ◌∷◌, ◌++◌, map, filter, fold, refl, ap, ◌∙◌, arith}
use Rattle.std.specs.Prelude.{Option, None}
use Rattle.std.specs.List.{list_any}
use Rattle.std.specs.Str.{bytes_eq}
use Rattle.std.proofs.lemmas.Bool.Decides.{nat_tests}
use Rattle.iss_model.specs.declared.call.How.{How}
use Rattle.iss_model.specs.declared.call.How.TheVariants as how
use Rattle.iss_model.specs.declared.decision.Reason.{Reason}
use Rattle.iss_model.specs.declared.decision.Verdict.TheVariants as verdict
use Rattle.iss_model.specs.declared.entry.Entry.{Entry}
use Rattle.iss_model.specs.declared.entry.Entry.TheVariants as entry
use Rattle.iss_model.specs.rules.Activity.{TxnNow, CallNow, is_asked}
use Rattle.iss_model.specs.state.Cores.{call_after_close}
use Rattle.iss_model.proofs.Names.{same_name}
use Rattle.iss_state.proofs.effects.Finds.{same_number}
use Rattle.iss_state.specs.Numbers.{CallsNumberedFrom}
use Rattle.iss_state.specs.Allowed.{MayDecide, MayEnd}
use Rattle.iss_state.specs.Dockets.{Docket, docket_after}
use Rattle.iss_state.specs.Well.{IsAsked, IsWellAmong, Known, NoneAskedOf, NoneOpenedFor, has_live, is_decided}
use Rattle.iss_state.proofs.docket.Closing.{NumbersGrowFrom, StandsItself, all_stand, asked_after, asked_before, filtered_grow, none_opened_after}
use Rattle.iss_state.proofs.docket.Docketed.{closings}
use Rattle.iss_state.proofs.docket.Entering.{undecided_still}
use Rattle.iss_state.proofs.docket.Enters.{Enters, entered_well, enters_append, enters_closed, enters_none}
use Rattle.iss_state.proofs.docket.Lists.{Each, both_so, found_filtered, never, not_both}

-- a new event ----

-- an event is known, and neither decided nor has a call
pub record IsNewTo (known : Known) (d : Docket) (event : List ℕ) : Type 0 where
  pub its_event : known.events event ≡ true
  pub none_opened : NoneOpenedFor d.calls event
  pub undecided : is_decided d.decisions event ≡ false

pub new_decides : (known : Known) (d : Docket) (event : List ℕ) → IsNewTo known d event → MayDecide d event
new_decides known d event new = record { undecided = new.undecided; none_asked = λ n c now e. new.none_opened n c now.stands e }

-- calls that are asked, in the order of their numbers ----

abbrev AsksItself : List CallNow → CallNow → Type 0
AsksItself calls c = IsAsked calls c.opened.call.0 c

-- calls that come later are still asked after this one is closed
later_asked : (k : ℕ) (how : How) (calls : List CallNow) (n : ℕ) (cs : List CallNow) → k + 1 ≤ n → NumbersGrowFrom n cs → Each (AsksItself calls) cs
    → Each (AsksItself (map (call_after_close k how) calls)) cs
later_asked k how calls n [] less grow asked = tt
later_asked k how calls n (c ∷ cs) less grow asked = (
  asked_after calls k how c.opened.call.0 c asked.0 (differ k c.opened.call.0 n less grow.0),
  later_asked k how calls (c.opened.call.0 + 1) cs (omega (arith, less, grow.0)) grow.1 asked.1,
)
  where
    differ : (a b n : ℕ) → a + 1 ≤ n → n ≤ b → nat_eq a b ≡ false
    differ a b n h k = grind (arith, nat_tests)

-- the asked calls of a transaction
abbrev pub asked_in : List CallNow → List ℕ → List CallNow
asked_in calls txn = filter (λ c. is_asked c && bytes_eq c.opened.txn txn) calls

filtered_asked : (calls : List CallNow) (txn : List ℕ) (xs : List CallNow) → Each (StandsItself calls) xs → Each (AsksItself calls) (asked_in xs txn)
filtered_asked calls txn [] h = tt
filtered_asked calls txn (x ∷ xs) h = by (is_asked x) (bytes_eq x.opened.txn txn) refl h.0 (filtered_asked calls txn xs h.1)
  where
    by : (a b : Bool) → is_asked x ≡ a → StandsItself calls x → Each (AsksItself calls) (asked_in xs txn)
        → Each (AsksItself calls) (cond (a && b) (x ∷ asked_in xs txn) (asked_in xs txn))
    by true true e stands rest = (record { stands = stands; asked = e }, rest)
    by true false e stands rest = rest
    by false b e stands rest = rest

all_asked : (calls : List CallNow) (txn : List ℕ) → CallsNumberedFrom 1 calls → Each (AsksItself calls) (asked_in calls txn)
all_asked calls txn numbers = filtered_asked calls txn calls (all_stand calls numbers)

all_grow : (calls : List CallNow) (txn : List ℕ) → CallsNumberedFrom 1 calls → NumbersGrowFrom 1 (asked_in calls txn)
all_grow calls txn numbers = filtered_grow (λ (c : CallNow). is_asked c && bytes_eq c.opened.txn txn) 1 calls numbers

-- calls are abandoned one by one ----

-- a docket after a call is abandoned
abbrev pub after_closing : Reason → Docket → CallNow → Docket
after_closing why d c = docket_after (docket_after d (entry.Closed c.opened.call how.Abandoned)) (entry.Decided c.opened.event (verdict.Declined why))

closings_enter : (known : Known) (why : Reason) (cs : List CallNow) (n : ℕ) (d : Docket) → NumbersGrowFrom n cs → Each (AsksItself d.calls) cs → IsWellAmong known d
    → Enters known d None (closings why cs)
closings_enter known why [] n d grow asked well = enters_none known d
closings_enter known why (c ∷ cs) n d grow asked well =
    let k : ℕ = c.opened.call.0 in
    let pair : List Entry = entry.Closed c.opened.call how.Abandoned ∷ entry.Decided c.opened.event (verdict.Declined why) ∷ [] in
    let first : Enters known d None pair = enters_closed known d k c how.Abandoned c.opened.txn false (verdict.Declined why) well asked.0 refl never in
    enters_append known d None pair (closings why cs) first
    (closings_enter known why cs (k + 1) (after_closing why d c) grow.1 (later_asked k how.Abandoned d.calls (k + 1) cs (omega arith) grow.1 asked.1)
    (entered_well known d None pair first well))

-- a new event stays new
closings_new : (known : Known) (why : Reason) (cs : List CallNow) (n : ℕ) (d : Docket) (event : List ℕ) → NumbersGrowFrom n cs → Each (AsksItself d.calls) cs
    → IsNewTo known d event
    → IsNewTo known (fold docket_after d (closings why cs)) event
closings_new known why [] n d event grow asked new = new
closings_new known why (c ∷ cs) n d event grow asked new =
    let k : ℕ = c.opened.call.0 in
    closings_new known why cs (k + 1) (after_closing why d c) event grow.1 (later_asked k how.Abandoned d.calls (k + 1) cs (omega arith) grow.1 asked.1)
    (record {
      its_event = new.its_event;
      none_opened = none_opened_after d.calls k how.Abandoned event new.none_opened;
      undecided = undecided_still d.decisions (record { event = c.opened.event; verdict = verdict.Declined why }) event new.undecided (new.none_opened k c asked.0.stands);
    })

-- transactions stay
pub closings_txns : (why : Reason) (cs : List CallNow) (d : Docket) → (fold docket_after d (closings why cs)).txns ≡ d.txns
closings_txns why [] d = refl
closings_txns why (c ∷ cs) d = closings_txns why cs (after_closing why d c)

-- a call that is asked then was asked before, and isn't among these
closings_close : (why : Reason) (cs : List CallNow) (d : Docket) (n : ℕ) (c : CallNow) → IsAsked (fold docket_after d (closings why cs)).calls n c
    → IsAsked d.calls n c × (list_any (λ x. nat_eq x.opened.call.0 c.opened.call.0) cs ≡ false)
closings_close why [] d n c now = (now, refl)
closings_close why (x ∷ xs) d n c now =
    let rest = closings_close why xs (after_closing why d x) n c now in
    let was = asked_before d.calls x.opened.call.0 how.Abandoned n c rest.0 in
    (was.0, ap (λ (b : Bool). b || list_any (λ (x : CallNow). nat_eq x.opened.call.0 c.opened.call.0) xs) was.1 ∙ rest.1)

-- when those of a transaction were abandoned, none of it is asked
pub closings_none : (why : Reason) (d : Docket) (txn : List ℕ) → NoneAskedOf (fold docket_after d (closings why (asked_in d.calls txn))).calls txn
closings_none why d txn n c now e =
    let was = closings_close why (asked_in d.calls txn) d n c now in
    not_both (list_any (λ (x : CallNow). nat_eq x.opened.call.0 c.opened.call.0) (asked_in d.calls txn))
    (found_filtered (λ (x : CallNow). nat_eq x.opened.call.0 n) (λ (x : CallNow). is_asked x && bytes_eq x.opened.txn txn) (λ (x : CallNow). nat_eq x.opened.call.0 c.opened.call.0)
    d.calls c was.0.stands (both_so (is_asked c) (bytes_eq c.opened.txn txn) was.0.asked (same_name c.opened.txn txn e)) (same_number c.opened.call.0))
    was.1

-- the asked calls of a transaction ----

abandoned_enter : (known : Known) (why : Reason) (d : Docket) (txn : List ℕ) → IsWellAmong known d → Enters known d None (closings why (asked_in d.calls txn))
abandoned_enter known why d txn well =
    closings_enter known why (asked_in d.calls txn) 1 d (all_grow d.calls txn well.calls.numbers) (all_asked d.calls txn well.calls.numbers) well

-- it may end then, if it is live
abandoned_ends : (why : Reason) (d : Docket) (txn : List ℕ) → has_live d.txns txn ≡ true → MayEnd (fold docket_after d (closings why (asked_in d.calls txn))) txn
abandoned_ends why d txn live =
    record {
      its_live = ap (λ (txns : List TxnNow). has_live txns txn) (closings_txns why (asked_in d.calls txn) d) ∙ live;
      none_asked = closings_none why d txn;
    }

-- Calls are abandoned, and others follow when the transaction may end and a new event is still new.
pub abandoned_then : (known : Known) (why : Reason) (d : Docket) (txn : List ℕ) (own : Option (List ℕ)) (es : List Entry) → IsWellAmong known d → has_live d.txns txn ≡ true
    → ((q : Docket) → MayEnd q txn → ((event : List ℕ) → IsNewTo known d event → IsNewTo known q event) → Enters known q own es)
    → Enters known d own (closings why (asked_in d.calls txn) ++ es)
abandoned_then known why d txn own es well live rest =
    let calls : List CallNow = asked_in d.calls txn in
    enters_append known d own (closings why calls) es (abandoned_enter known why d txn well)
    (rest (fold docket_after d (closings why calls)) (abandoned_ends why d txn live)
    (λ event new. closings_new known why calls 1 d event (all_grow d.calls txn well.calls.numbers) (all_asked d.calls txn well.calls.numbers) new))
