-- Counters are taken up one after the other, each by its control at a key of its own.
use Rattle.std.proofs.Common.{◌≡◌, ◌∙◌, ◌++◌, ◌∷◌, ◌&&◌, ◌+◌, ◌<◌, ◌≤◌, ℕ, ℤ, pos, ap, ap₂, append-nil, Bool, cond, drop, false, filter, find, fold, get_or, length, List, [], map, refl, subst, sym, take, true}
use Rattle.std.specs.Prelude.{Option, Some, None, is_none, is_some, option_map, unwrap_or}
use Rattle.std.specs.List.{flat_map, list_all, list_any}
use Rattle.std.specs.FinMap as finite
use Rattle.std.specs.Str.{bytes_eq}
use Rattle.std.proofs.lemmas.Bool.{and_parts}
use Rattle.std.proofs.lemmas.List.Elements.{filter-append}
use Rattle.std.proofs.lemmas.List.Folds.{list_all-append}
use Rattle.iss_model.specs.declared.counted.Counter.{Counter}
use Rattle.iss_model.specs.declared.input.Input.{Input}
use Rattle.iss_model.specs.declared.input.Input.TheVariants as input
use Rattle.iss_model.specs.declared.setting.Moved.TheVariants as moved
use Rattle.iss_model.specs.declared.state.Carried.{Carried}
use Rattle.iss_model.specs.declared.state.Seen.{Seen}
use Rattle.iss_model.specs.declared.state.State.{State}
use Rattle.iss_model.specs.declared.txn.Used.{Used}
use Rattle.iss_model.specs.rules.Activity.{TxnNow}
use Rattle.iss_model.specs.rules.Controls.{ControlPut, control_replaced}
use Rattle.iss_model.specs.state.Cores.{ControlKept, CoreState, after_setting, control_after_put, no_core, with_control}
use Rattle.iss_model.specs.state.Kept.{Kept, nothing_kept}
use Rattle.iss_model.proofs.Names.{name-sym}
use Rattle.iss_state.proofs.docket.Lists.{Each, both_so, or_true}
use Rattle.iss_state.proofs.effects.Finds.{found_passes}
use Rattle.iss_velocity.specs.Puts.{kept_named}
use Rattle.iss_velocity.specs.Showing.{kept_after_restore, may_restore}
use Rattle.iss_states.specs.Rebuilding.{counter_sum, events_again, is_done, kept_by, rebuilt, span_number, with_counters, with_event, with_seen}
use Rattle.iss_well_formed.proofs.WellAgain.{all_mapped}
use Rattle.iss_named.specs.Counters.{counters_of_control, do_counters_rise, place_of_counter}
use Rattle.iss_named.specs.Kept.{AreNamesKnown}
use Rattle.iss_named.specs.Known.{do_keys_rise}
use Rattle.iss_known.specs.Known.{IsKnownOf, KnownNow}
use Rattle.iss_restored_lists.specs.Counters.{AreRestorable, is_of_control}
use Rattle.iss_restored_lists.proofs.PushedSums.{cut_at, kept_more, new_key, none_kept, one_more, order, take_all}

-- controls as events make them ----

-- a control has counted nothing
record HasNothing (c : ControlKept) : Type 0 where
  amounts : c.amounts ≡ nothing_kept
  times : c.times ≡ nothing_kept

put_nothing : (put : ControlPut) (c : ControlKept) → HasNothing c → HasNothing (control_after_put put c)
put_nothing put c h = by (bytes_eq put.control.name c.control.name)
  where
    by : (b : Bool) → HasNothing (cond b (record c { control = control_replaced c.control put.control }) c)
    by true = record { amounts = h.amounts; times = h.times }
    by false = h

all_put : (put : ControlPut) (cs : List ControlKept) → Each HasNothing cs → Each HasNothing (map (control_after_put put) cs)
all_put put [] h = tt
all_put put (c ∷ cs) h = (put_nothing put c h.0, all_put put cs h.1)

one_more_control : (cs : List ControlKept) (c : ControlKept) → HasNothing c → Each HasNothing cs → Each HasNothing (cs ++ c ∷ [])
one_more_control [] c own h = (own, tt)
one_more_control (x ∷ xs) c own h = (h.0, one_more_control xs c own h.1)

control_nothing : (cs : List ControlKept) (put : ControlPut) → Each HasNothing cs → Each HasNothing (with_control cs put)
control_nothing cs put h = by (list_any (λ c. bytes_eq c.control.name put.control.name) cs)
  where
    fresh : ControlKept
    fresh = record { first = put.number; control = put.control; amounts = nothing_kept; times = nothing_kept }

    by : (b : Bool) → Each HasNothing (cond b (map (control_after_put put) cs) (cs ++ fresh ∷ []))
    by true = all_put put cs h
    by false = one_more_control cs fresh (record { amounts = refl; times = refl }) h

setting_nothing : (c : CoreState) (i : Input) → Each HasNothing c.controls → Each HasNothing (after_setting c i).controls
setting_nothing c (input.Move token (moved.Card card to)) h = h
setting_nothing c (input.Move token (moved.User user to)) h = h
setting_nothing c (input.Control token control currency window amount_limit usage_limit association scope offset active) h = control_nothing c.controls _ h
setting_nothing c _ h = h

seen_nothing : (ts : List Carried) (c : CoreState) (e : Seen) → Each HasNothing c.controls → Each HasNothing (with_seen ts c e).controls
seen_nothing ts c e h = by (is_done e.verdict)
  where
    by : (b : Bool) → Each HasNothing (cond b (after_setting (with_event c e) e.body.input) (with_event c e)).controls
    by true = setting_nothing (with_event c e) e.body.input h
    by false = h

all_nothing : (ts : List Carried) (c : CoreState) (es : List Seen) → Each HasNothing c.controls → Each HasNothing (fold (with_seen ts) c es).controls
all_nothing ts c [] h = h
all_nothing ts c (e ∷ es) h = all_nothing ts (with_seen ts c e) es (seen_nothing ts c e h)

no_counters : (txns : List TxnNow) (cs : List ControlKept) → Each HasNothing cs → map (with_counters txns []) cs ≡ cs
no_counters txns [] h = refl
no_counters txns (c ∷ cs) h =
    let amounts : nothing_kept ≡ c.amounts = sym h.0.amounts in
    let times : nothing_kept ≡ c.times = sym h.0.times in
    let rest = no_counters txns cs h.1 in
    λ j. record c { amounts = amounts j; times = times j } ∷ rest j

-- counters of controls ----

-- a control of a counter is one of more controls, too
one_more_known : (c : ControlKept) (cs : List ControlKept) (qs : List Counter) → list_all (is_of_control cs) qs ≡ true → list_all (is_of_control (c ∷ cs)) qs ≡ true
one_more_known c cs [] h = refl
one_more_known c cs (q ∷ qs) h =
    let both = and_parts (is_of_control cs q) (list_all (is_of_control cs) qs) h in
    both_so (is_of_control (c ∷ cs) q) (list_all (is_of_control (c ∷ cs)) qs) (by (bytes_eq c.control.name q.control) both.0) (one_more_known c cs qs both.1)
  where
    by : (b : Bool) → is_some (kept_named q.control cs) ≡ true → is_some (cond b (Some c) (kept_named q.control cs)) ≡ true
    by true e = refl
    by false e = e

-- a control's own counters are of it
own_known : (c : ControlKept) (cs : List ControlKept) (qs : List Counter) → list_all (is_of_control (c ∷ cs)) (counters_of_control qs c) ≡ true
own_known c cs [] = refl
own_known c cs (q ∷ qs) = by (bytes_eq q.control c.control.name) refl (own_known c cs qs)
  where
    by : (b : Bool) → bytes_eq q.control c.control.name ≡ b → list_all (is_of_control (c ∷ cs)) (counters_of_control qs c) ≡ true
        → list_all (is_of_control (c ∷ cs)) (cond b (q ∷ counters_of_control qs c) (counters_of_control qs c)) ≡ true
    by false e rest = rest
    by true e rest =
        both_so (is_of_control (c ∷ cs) q) (list_all (is_of_control (c ∷ cs)) (counters_of_control qs c))
        (ap (λ (b : Bool). is_some (cond b (Some c) (kept_named q.control cs))) (name-sym c.control.name q.control ∙ e))
        rest

all_known : (cs : List ControlKept) (qs : List Counter) → list_all (is_of_control cs) (flat_map (counters_of_control qs) cs) ≡ true
all_known [] qs = refl
all_known (c ∷ cs) qs =
    list_all-append (is_of_control (c ∷ cs)) (counters_of_control qs c) (flat_map (counters_of_control qs) cs)
    ∙ both_so (list_all (is_of_control (c ∷ cs)) (counters_of_control qs c)) (list_all (is_of_control (c ∷ cs)) (flat_map (counters_of_control qs) cs))
    (own_known c cs qs) (one_more_known c cs (flat_map (counters_of_control qs) cs) (all_known cs qs))

-- a control with counters is found by its name
module _ (txns : List TxnNow) (qs : List Counter) where
  pub found_with : (name : List ℕ) (cs : List ControlKept) → kept_named name (map (with_counters txns qs) cs) ≡ option_map (with_counters txns qs) (kept_named name cs)
  found_with name [] = refl
  found_with name (c ∷ cs) = by (bytes_eq c.control.name name) (found_with name cs)
    where
      by : (b : Bool) → kept_named name (map (with_counters txns qs) cs) ≡ option_map (with_counters txns qs) (kept_named name cs)
          → cond b (Some (with_counters txns qs c)) (kept_named name (map (with_counters txns qs) cs)) ≡ option_map (with_counters txns qs) (cond b (Some c) (kept_named name cs))
      by true e = refl
      by false e = e

  same_known : (cs : List ControlKept) (ks : List Counter) → list_all (is_of_control (map (with_counters txns qs) cs)) ks ≡ list_all (is_of_control cs) ks
  same_known cs [] = refl
  same_known cs (k ∷ ks) = ap₂ (λ (a b : Bool). a && b) (ap is_some (found_with k.control cs) ∙ by (kept_named k.control cs)) (same_known cs ks)
    where
      by : (o : Option ControlKept) → is_some (option_map (with_counters txns qs) o) ≡ is_some o
      by None = refl
      by (Some c) = refl

-- The counters of a state can be taken up by the controls that its events make.
pub restorable : (k : KnownNow) (s : State) (cs : List ControlKept) → AreNamesKnown s → IsKnownOf k (rebuilt s) → cs ≡ (events_again s).controls
    → AreRestorable k.txns s.counters cs
restorable k s cs names known made =
    subst (λ (xs : List ControlKept). AreRestorable k.txns s.counters xs) (sym made)
    (subst (λ (ts : List TxnNow). AreRestorable ts s.counters (events_again s).controls) (sym known.txns) (record {
      nothing = no_counters txns base (all_nothing s.txns no_core s.events tt);
      named =
          sym (same_known txns s.counters base s.counters)
          ∙ ap (list_all (is_of_control (rebuilt s).controls)) (sym names.counters.controls)
          ∙ all_known (rebuilt s).controls s.counters;
      order = sym (all_mapped (do_counters_rise txns s.counters) (with_counters txns s.counters) base) ∙ names.counters.order;
    }))
  where
    txns : List TxnNow
    txns = (events_again s).holdings.txns

    base : List ControlKept
    base = (events_again s).controls

pub restored_again : (k : KnownNow) (s : State) (cs : List ControlKept) → IsKnownOf k (rebuilt s) → cs ≡ (events_again s).controls
    → map (with_counters k.txns s.counters) cs ≡ (rebuilt s).controls
restored_again k s cs known made = ap₂ (λ (ts : List TxnNow) (xs : List ControlKept). map (with_counters ts s.counters) xs) known.txns made

-- one counter ----

found_all : {A : Type 0} (p q : A → Bool) (xs : List A) (x : A) → find p xs ≡ Some x → list_all q xs ≡ true → q x ≡ true
found_all p q [] x e h = cc
found_all {A} p q (y ∷ ys) x e h = let both = and_parts (q y) (list_all q ys) h in by (p y) both.0 (λ f. found_all p q ys x f both.1) e
  where
    by : (b : Bool) → q y ≡ true → (find p ys ≡ Some x → q x ≡ true) → cond b (Some y) (find p ys) ≡ Some x → q x ≡ true
    by true here rest f = let one : y ≡ x = cc in ap q (sym one) ∙ here
    by false here rest f = rest f

module _ (txns : List TxnNow) (ks : List Counter) (i : ℕ) (k : Counter) (within : i < length ks) (is : k ≡ get_or ks i k) where
  abbrev number : ℤ
  number = span_number txns k.span

  -- a counter is of a control
  abbrev is_its : ControlKept → Counter → Bool
  is_its c q = bytes_eq q.control c.control.name

  abbrev before : ControlKept → List Counter
  before c = filter (is_its c) (take i ks)

  cut_own : (c : ControlKept) → bytes_eq k.control c.control.name ≡ true → before c ++ k ∷ filter (is_its c) (drop (i + 1) ks) ≡ filter (is_its c) ks
  cut_own c its =
      ap (λ (b : Bool). before c ++ cond b (k ∷ filter (is_its c) (drop (i + 1) ks)) (filter (is_its c) (drop (i + 1) ks))) (sym its)
      ∙ sym (filter-append (is_its c) (take i ks) (k ∷ drop (i + 1) ks))
      ∙ ap (filter (is_its c)) (cut_at ks i k within is)

  new_own : (worth : Used → ℤ) (c : ControlKept) → bytes_eq k.control c.control.name ≡ true → do_counters_rise txns ks c ≡ true
      → finite.find order (place_of_counter txns k) (map (counter_sum worth txns) (before c)) ≡ None
  new_own worth c its rise =
      new_key (counter_sum worth txns) (before c) k (filter (is_its c) (drop (i + 1) ks))
      (ap (λ (qs : List Counter). do_keys_rise (map (place_of_counter txns) qs)) (cut_own c its) ∙ rise)

  own_by : (c : ControlKept) (b : Bool) → bytes_eq k.control c.control.name ≡ b → filter (is_its c) (take (i + 1) ks) ≡ before c ++ cond b (k ∷ []) []
  own_by c b its =
      ap (filter (is_its c)) (one_more ks i k within is) ∙ filter-append (is_its c) (take i ks) (k ∷ [])
      ∙ ap (λ (b : Bool). before c ++ cond b (k ∷ []) []) its

  restored : (c : ControlKept) → do_counters_rise txns ks c ≡ true
      → kept_after_restore k.control k.user number k.used (with_counters txns (take i ks) c) ≡ with_counters txns (take (i + 1) ks) c
  restored c rise = by (bytes_eq k.control c.control.name) refl
    where
      old : ControlKept
      old = with_counters txns (take i ks) c

      with_sum : (worth : Used → ℤ) → bytes_eq k.control c.control.name ≡ true
          → finite.insert (kept_by (counter_sum worth txns) (before c)) (place_of_counter txns k) (worth k.used) ≡ kept_by (counter_sum worth txns) (filter (is_its c) (take (i + 1) ks))
      with_sum worth its =
          sym (kept_more (counter_sum worth txns) (before c) k (new_own worth c its rise)) ∙ ap (kept_by (counter_sum worth txns)) (sym (own_by c true its))

      same_sum : (worth : Used → ℤ) → bytes_eq k.control c.control.name ≡ false
          → kept_by (counter_sum worth txns) (before c) ≡ kept_by (counter_sum worth txns) (filter (is_its c) (take (i + 1) ks))
      same_sum worth other = ap (kept_by (counter_sum worth txns)) (sym (own_by c false other ∙ append-nil (before c)))

      by : (b : Bool) → bytes_eq k.control c.control.name ≡ b
          → cond b (record old {
            amounts = finite.insert old.amounts (place_of_counter txns k) k.used.amount;
            times = finite.insert old.times (place_of_counter txns k) k.used.count;
          }) old ≡ with_counters txns (take (i + 1) ks) c
      by true e =
          let amounts = with_sum (λ u. u.amount) e in
          let times = with_sum (λ u. u.count) e in
          λ j. record c { amounts = amounts j; times = times j }
      by false e =
          let amounts = same_sum (λ u. u.amount) e in
          let times = same_sum (λ u. u.count) e in
          λ j. record c { amounts = amounts j; times = times j }

  all_restored : (cs : List ControlKept) → list_all (do_counters_rise txns ks) cs ≡ true
      → map (kept_after_restore k.control k.user number k.used) (map (with_counters txns (take i ks)) cs) ≡ map (with_counters txns (take (i + 1) ks)) cs
  all_restored [] h = refl
  all_restored (c ∷ cs) h =
      let both = and_parts (do_counters_rise txns ks c) (list_all (do_counters_rise txns ks) cs) h in
      ap₂ (λ (x : ControlKept) (xs : List ControlKept). x ∷ xs) (restored c both.0) (all_restored cs both.1)

  -- its control is one of them
  its_known : (cs : List ControlKept) → list_all (is_of_control cs) ks ≡ true → is_some (kept_named k.control cs) ≡ true
  its_known cs h =
      (and_parts (is_of_control cs k) (list_all (is_of_control cs) (drop (i + 1) ks))
      (and_parts (list_all (is_of_control cs) (take i ks)) (list_all (is_of_control cs) (k ∷ drop (i + 1) ks))
      (sym (list_all-append (is_of_control cs) (take i ks) (k ∷ drop (i + 1) ks)) ∙ ap (list_all (is_of_control cs)) (cut_at ks i k within is) ∙ h)).1).0

  module _ (cs now : List ControlKept) (h : AreRestorable txns ks cs) (e : now ≡ map (with_counters txns (take i ks)) cs) where
    pub may : may_restore k.user number (kept_named k.control now) ≡ true
    may =
        ap (λ (xs : List ControlKept). may_restore k.user number (kept_named k.control xs)) e
        ∙ ap (may_restore k.user number) (found_with txns (take i ks) k.control cs)
        ∙ by (kept_named k.control cs) refl (its_known cs h.named)
      where
        by : (o : Option ControlKept) → kept_named k.control cs ≡ o → is_some o ≡ true → may_restore k.user number (option_map (with_counters txns (take i ks)) o) ≡ true
        by None f there = cc
        by (Some c) f there =
            let its : bytes_eq k.control c.control.name ≡ true =
            name-sym k.control c.control.name ∙ found_passes (λ (x : ControlKept). bytes_eq x.control.name k.control) cs c f
            in
            ap is_none
            (none_kept (counter_sum (λ u. u.amount) txns) (before c) k
            (new_own (λ u. u.amount) c its (found_all (λ (x : ControlKept). bytes_eq x.control.name k.control) (do_counters_rise txns ks) cs c f h.order)))

    pub goes_on : (after : List ControlKept) → after ≡ map (kept_after_restore k.control k.user number k.used) now → after ≡ map (with_counters txns (take (i + 1) ks)) cs
    goes_on after made = made ∙ ap (map (kept_after_restore k.control k.user number k.used)) e ∙ all_restored cs h.order

pub begins : (txns : List TxnNow) (ks : List Counter) (cs now : List ControlKept) → now ≡ cs → AreRestorable txns ks cs → now ≡ map (with_counters txns (take 0 ks)) cs
begins txns ks cs now e h = e ∙ sym h.nothing

pub over : (txns : List TxnNow) (ks : List Counter) (cs now : List ControlKept) (n : ℕ) → length ks ≤ n → now ≡ map (with_counters txns (take n ks)) cs
    → now ≡ map (with_counters txns ks) cs
over txns ks cs now n len e = e ∙ ap (λ (qs : List Counter). map (with_counters txns qs) cs) (take_all ks n len)

-- spans ----

-- the number of a single transaction's span, if it is known
pub begun_at : (txns : List TxnNow) (o : Option TxnNow) (t : TxnNow) (n : ℕ) → o ≡ Some t → n ≡ t.txn.origin → pos n ≡ unwrap_or (option_map (λ (x : TxnNow). pos x.txn.origin) o) (pos 0)
begun_at txns o t n found e = ap pos e ∙ ap (λ (o : Option TxnNow). unwrap_or (option_map (λ (x : TxnNow). pos x.txn.origin) o) (pos 0)) (sym found)
