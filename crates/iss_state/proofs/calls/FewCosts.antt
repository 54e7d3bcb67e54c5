-- What acts cost in calls and notices, one by one and in a row.
use Rattle.std.proofs.Common.{◌≡◌, ℕ, ◌+◌, ◌≤◌, Bool, true, false, cond, nat_eq, List, [], ◌∷◌, ◌++◌, refl, arith}
use Rattle.std.specs.List.{list_all, sum_by}
use Rattle.std.proofs.lemmas.Bool.{and_parts}
use Rattle.std.proofs.lemmas.List.Sums.{sum_by-append, sum_by-cons}
use Rattle.iss_model.specs.declared.decision.Reason.{Reason}
use Rattle.iss_model.specs.declared.entry.Entry.{Entry}
use Rattle.iss_model.specs.declared.entry.Entry.TheVariants as entry
use Rattle.iss_model.specs.declared.txn.Txn.{Txn}
use Rattle.iss_model.specs.rules.Activity.{CallNow}
use Rattle.iss_model.specs.rules.Acts.{Abandons, Act, Asks, Begins, Ends, Fails, StandsIn, Tells, act_entries, entries_of_acts}
use Rattle.iss_model.specs.rules.Pieces.{abandoned_calls_entries}
use Rattle.iss_acts.specs.Items.{Beginning, Item, Opening, StandTelling, Telling, Voiding, has_item, item_entry, may_begin, may_open_call, may_tell, may_tell_stand_in, may_void}
use Rattle.iss_acts.proofs.Passing.{act_passes}
use Rattle.iss_state.proofs.docket.Lists.{not_both}
use Rattle.iss_state.proofs.calls.FewMoves.{Costs, CostsBy}

-- lists of entries and of acts ----

module _ {A : Type 0} {opened brought taken : A → ℕ} where
  -- one list after another
  pub then : {xs ys : List A} {a b c d e f : ℕ} → CostsBy opened brought taken xs a b c → CostsBy opened brought taken ys d e f → CostsBy opened brought taken (xs ++ ys) (a + d) (b + e) (c + f)
  then {xs} {ys} h k =
      record {
        calls = omega (arith, sum_by-append opened xs ys, h.calls, k.calls);
        notices = omega (arith, sum_by-append brought xs ys, sum_by-append taken xs ys, h.notices, k.notices);
      }

  -- one element before others
  pub more : {x : A} {xs : List A} {a b c : ℕ} → CostsBy opened brought taken xs a b c → CostsBy opened brought taken (x ∷ xs) (opened x + a) (brought x + b) (taken x + c)
  more {x} {xs} h =
      record {
        calls = omega (arith, sum_by-cons opened x xs, h.calls);
        notices = omega (arith, sum_by-cons brought x xs, sum_by-cons taken x xs, h.notices);
      }

  -- costs within these numbers are within wider ones
  pub comes_to : {xs : List A} {a b c : ℕ} (d e f : ℕ) → CostsBy opened brought taken xs a b c → a ≤ d → b + f ≤ e + c → CostsBy opened brought taken xs d e f
  comes_to d e f h calls notices = record { calls = omega (arith, h.calls, calls); notices = omega (arith, h.notices, notices) }

  pub costs_either : (x : Bool) {xs ys : List A} {a b c : ℕ} → CostsBy opened brought taken xs a b c → CostsBy opened brought taken ys a b c → CostsBy opened brought taken (cond x xs ys) a b c
  costs_either true h k = h
  costs_either false h k = k

  pub none_costs : (n : ℕ) → CostsBy opened brought taken [] 0 n 0
  none_costs n = record { calls = omega arith; notices = omega arith }

-- acts ----

-- the calls that an act opens
abbrev pub opens : Act → ℕ
opens (Asks f product ask) = 1
opens _ = 0

-- the notices that an act brings in sight
abbrev pub brings : Act → ℕ
brings (Begins ask) = 1
brings (Asks f product ask) = 2
brings (StandsIn number ask at set) = 1
brings (Tells number news t amount gateway) = 1
brings _ = 0

-- the notices that an act takes from sight
abbrev pub takes : Act → ℕ
takes (Fails number o t why) = 1
takes (Ends t) = 1
takes _ = 0

-- what acts cost
abbrev pub ActsCost : List Act → ℕ → ℕ → ℕ → Type 0
ActsCost acts most up down = CostsBy opens brings takes acts most up down

-- an entry opens no call and brings no notice in sight
abbrev is_free : Entry → Bool
is_free (entry.Began t) = false
is_free (entry.Opened o) = false
is_free (entry.Notice notice) = false
is_free _ = true

free_entry : (e : Entry) {es : List Entry} → is_free e ≡ true → Costs es 0 0 0 → Costs (e ∷ es) 0 0 0
free_entry (entry.Began t) h k = cc
free_entry (entry.Opened o) h k = cc
free_entry (entry.Notice notice) h k = cc
free_entry (entry.Closed call how) h k = comes_to 0 0 0 (more k) (omega arith) (omega arith)
free_entry (entry.Ended txn) h k = comes_to 0 0 0 (more k) (omega arith) (omega arith)
free_entry _ h k = more k

free_entries : (es : List Entry) → list_all is_free es ≡ true → Costs es 0 0 0
free_entries [] h = none_costs 0
free_entries (e ∷ es) h = let parts = and_parts (is_free e) (list_all is_free es) h in free_entry e parts.0 (free_entries es parts.1)

-- an act begins nothing, asks nothing and tells nothing
record IsFree (a : Act) : Type 0 where
  begins : may_begin a ≡ false
  opens : may_open_call a ≡ false
  voids : may_void a ≡ false
  stands_in : may_tell_stand_in a ≡ false
  tells : may_tell a ≡ false

free_item : (a : Act) → IsFree a → (x : Item) → has_item a x ≡ true → is_free (item_entry x) ≡ true
free_item a free (Beginning t) may = not_both (may_begin a) may free.begins
free_item a free (Opening o) may = not_both (may_open_call a) may free.opens
free_item a free (Voiding number t o) may = not_both (may_void a) may free.voids
free_item a free (StandTelling number t amount) may = not_both (may_tell_stand_in a) may free.stands_in
free_item a free (Telling number news t amount gateway) may = not_both (may_tell a) may free.tells
free_item a free _ may = refl

free_act : (a : Act) → IsFree a → Costs (act_entries a) 0 0 0
free_act a free = free_entries (act_entries a) (act_passes a (free_item a free)).all

-- the notice of a call that is abandoned is one of its two
abandoned_costs : (number : ℕ) (t : Txn) (why : Reason) (calls : List CallNow) → Costs (abandoned_calls_entries number t why calls) 0 0 0
abandoned_costs number t why [] = none_costs 0
abandoned_costs number t why (c ∷ calls) = comes_to 0 0 0 (more (more (more (more (abandoned_costs (number + 1) t why calls))))) (omega arith) (omega arith)

act_costs : (a : Act) → Costs (act_entries a) (opens a) (brings a) (takes a)
act_costs (Begins ask) = more (more (none_costs 0))
act_costs (Asks f product ask) = more (none_costs 0)
act_costs (Fails number o t why) = record { calls = omega arith; notices = omega arith }
act_costs (StandsIn number ask at set) =
    more (then (then (costs_either (nat_eq ask.amount 0) (none_costs 0) (free_entries _ refl)) (costs_either (nat_eq ask.amount 0) (none_costs 0) (free_entries _ refl))) (more (more (none_costs 0))))
act_costs (Abandons number t why calls parts) = abandoned_costs number t why calls
act_costs (Ends t) = more (none_costs 0)
act_costs (Tells number news t amount gateway) = more (none_costs 0)
act_costs a = free_act a (record { begins = refl; opens = refl; voids = refl; stands_in = refl; tells = refl })

-- acts in a row cost what each does
pub acts_cost : (acts : List Act) {a b c : ℕ} → ActsCost acts a b c → Costs (entries_of_acts acts) a b c
acts_cost acts {a} {b} {c} h = record { calls = omega (arith, (all acts).calls, h.calls); notices = omega (arith, (all acts).notices, h.notices) }
  where
    all : (acts : List Act) → Costs (entries_of_acts acts) (sum_by opens acts) (sum_by brings acts) (sum_by takes acts)
    all [] = none_costs 0
    all (a ∷ acts) =
        let both = then (act_costs a) (all acts) in
        record {
          calls = omega (arith, sum_by-cons opens a acts, both.calls);
          notices = omega (arith, sum_by-cons brings a acts, sum_by-cons takes a acts, both.notices);
        }
