-- A counter that is taken up again, among controls with names of their own.
use Rattle.std.proofs.Common.{◌≡◌, ℕ, zero, suc, ◌+◌, ℤ, Bool, true, false, cond, ◌&&◌, ◌==◌, List, [], ◌∷◌, ◌++◌, length, map, slice_get, Option, Some, None, is_some, refl, sym, ap, ap₂, ◌∙◌, subst, arith, ◌⊎◌, inl, inr}
use Rattle.std.specs.Prelude.{is_none}
use Rattle.std.specs.Option.{option_map}
use Rattle.std.specs.List.{position, position_from}
use Rattle.std.proofs.lemmas.Iterator.Adapters.{position_from-zero}
use Rattle.std.specs.Str.{bytes_eq}
use Rattle.std.specs.Ordering.{int_eq}
use Rattle.std.specs.FinMap as finite
use Rattle.std.proofs.lemmas.Bool.Decides.{nat_tests}
use Rattle.iss_model.specs.declared.setting.Control.{Control}
use Rattle.iss_model.specs.declared.txn.Used.{Used}
use Rattle.iss_model.specs.rules.Controls.{counter_key}
use Rattle.iss_model.specs.state.Cores.{ControlKept}
use Rattle.iss_model.proofs.Names.{one_name, name-sym}
use Rattle.iss_velocity.specs.declared.standing.Standing.{Standing}
use Rattle.iss_velocity.specs.declared.standing.Limits.{Limits}
use Rattle.iss_velocity.specs.declared.standing.Change.{Change}
use Rattle.iss_velocity.specs.Puts.{kept_named, standing_named, standing_after_change, with_activity, with_limits}
use Rattle.iss_velocity.specs.Counting.{Users, Past, at_place, in_span, or_else, past_at, counters_at, used_at}
use Rattle.iss_velocity.specs.Keeping.{has_no_zero, sums_in, control_at, controls_from, AreApart, AreKeyed, IsKeptPast}
use Rattle.iss_velocity.specs.Showing.{kept_after_restore, may_restore, one_row, IsPut}
use Rattle.iss_velocity.proofs.Lookups.{get_sums, int-sym}
use Rattle.iss_velocity.proofs.SumsKept.{unchanged_sums, put_sums}
use Rattle.iss_velocity.proofs.Controlling.{from_start, mapped_same}
use Rattle.iss_velocity.proofs.Putting.{is_named}
use Rattle.iss_velocity.proofs.Turning.{one_number}

-- an element of a list with one more
module _ (s a : Standing) where
  record IsLast (ss : List Standing) (i : ℕ) : Type 0 where
    pub place : i ≡ length ss
    pub is : a ≡ s

  last_or_before : (ss : List Standing) (i : ℕ) → slice_get (ss ++ s ∷ []) i ≡ Some a → (slice_get ss i ≡ Some a) ⊎ IsLast ss i
  last_or_before [] zero e = (let one : a ≡ s = cc in inr (record { place = refl; is = one }))
  last_or_before [] (suc i) e = cc
  last_or_before (x ∷ ss) zero e = inl e
  last_or_before (x ∷ ss) (suc i) e = next (last_or_before ss i e)
    where
      next : (slice_get ss i ≡ Some a) ⊎ IsLast ss i → (slice_get ss i ≡ Some a) ⊎ IsLast (x ∷ ss) (suc i)
      next (inl f) = inl f
      next (inr l) = inr (record { place = ap suc l.place; is = l.is })

-- no control of a list has a name that isn't found
other_name : (name : List ℕ) (ss : List Standing) (i : ℕ) (a : Standing) → is_some (standing_named name ss) ≡ false → slice_get ss i ≡ Some a
    → bytes_eq a.control.name name ≡ false
other_name name [] i a h e = cc
other_name name (x ∷ ss) zero a h e =
    let one : x ≡ a = cc in
    subst (λ (y : Standing). bytes_eq y.control.name name ≡ false) one (at (bytes_eq x.control.name name) refl h)
  where
    at : (b : Bool) → bytes_eq x.control.name name ≡ b → is_some (cond b (Some x) (standing_named name ss)) ≡ false → bytes_eq x.control.name name ≡ false
    at true f g = cc
    at false f g = f
other_name name (x ∷ ss) (suc i) a h e = other_name name ss i a (at (bytes_eq x.control.name name) h) e
  where
    at : (b : Bool) → is_some (cond b (Some x) (standing_named name ss)) ≡ false → is_some (standing_named name ss) ≡ false
    at true g = cc
    at false g = g

never : {A : Type 0} → true ≡ false → A
never e = cc

-- names stay apart if a control of a new name is put after the others
pub apart_more : (users : Users) (past : Past) (ss after : List Standing) (s : Standing) → AreApart ss → kept_named s.control.name (controls_from users past 0 ss) ≡ None
    → after ≡ ss ++ s ∷ [] → AreApart after
apart_more users past ss after s apart new e =
    subst AreApart (sym e) (λ i j a b f g same. by i j a b (last_or_before s a ss i f) (last_or_before s b ss j g) same)
  where
    lacking : is_some (standing_named s.control.name ss) ≡ false
    lacking = is_named users past s.control.name ss ∙ ap is_some new

    by : (i j : ℕ) (a b : Standing) → (slice_get ss i ≡ Some a) ⊎ IsLast s a ss i → (slice_get ss j ≡ Some b) ⊎ IsLast s b ss j
        → bytes_eq a.control.name b.control.name ≡ true → i ≡ j
    by i j a b (inl f) (inl g) same = apart i j a b f g same
    by i j a b (inl f) (inr l) same =
        never (sym same ∙ ap (λ (x : Standing). bytes_eq a.control.name x.control.name) l.is ∙ other_name s.control.name ss i a lacking f)
    by i j a b (inr k) (inl g) same =
        never (sym same ∙ ap (λ (x : Standing). bytes_eq x.control.name b.control.name) k.is ∙ name-sym s.control.name b.control.name ∙ other_name s.control.name ss j b lacking g)
    by i j a b (inr k) (inr l) same = k.place ∙ sym l.place

-- an element of a mapped list
record IsMapped (f : Standing → Standing) (ss : List Standing) (i : ℕ) (a : Standing) : Type 0 where
  pub from : Standing
  pub here : slice_get ss i ≡ Some from
  pub is : a ≡ f from

mapped_at : (f : Standing → Standing) (ss : List Standing) (i : ℕ) (a : Standing) → slice_get (map f ss) i ≡ Some a → IsMapped f ss i a
mapped_at f [] i a e = cc
mapped_at f (x ∷ ss) zero a e = (let one : a ≡ f x = cc in record { from = x; here = refl; is = one })
mapped_at f (x ∷ ss) (suc i) a e = (let m = mapped_at f ss i a e in record { from = m.from; here = m.here; is = m.is })

apart_mapped : (f : Standing → Standing) (ss : List Standing) → ((s : Standing) → (f s).control.name ≡ s.control.name) → AreApart ss → AreApart (map f ss)
apart_mapped f ss names apart i j a b e g same =
    let m = mapped_at f ss i a e in
    let n = mapped_at f ss j b g in
    let left : a.control.name ≡ m.from.control.name = ap (λ (s : Standing). s.control.name) m.is ∙ names m.from in
    let right : b.control.name ≡ n.from.control.name = ap (λ (s : Standing). s.control.name) n.is ∙ names n.from in
    apart i j m.from n.from m.here n.here (sym (ap₂ bytes_eq left right) ∙ same)

-- names stay apart if a control is changed
pub apart_changed : (name : List ℕ) (change : Change) (ss after : List Standing) → AreApart ss → after ≡ map (standing_after_change name change) ss → AreApart after
apart_changed name change ss after apart e =
    subst AreApart (sym e) (apart_mapped (standing_after_change name change) ss (λ s. at s (bytes_eq name s.control.name)) apart)
  where
    limited : (o : Option Limits) (control : Control) → (with_limits o control).name ≡ control.name
    limited None control = refl
    limited (Some l) control = refl

    active : (o : Option Bool) (control : Control) → (with_activity o control).name ≡ control.name
    active None control = refl
    active (Some b) control = refl

    at : (s : Standing) (b : Bool)
        → (cond b (record s { control = with_activity change.active (with_limits change.limits s.control) }) s).control.name ≡ s.control.name
    at s true = active change.active (with_limits change.limits s.control) ∙ limited change.limits s.control
    at s false = refl

-- whether a control has a name
abbrev pub is_of : List ℕ → Standing → Bool
is_of name s = bytes_eq s.control.name name

-- the control at the place that is found
record IsPlaced (name : List ℕ) (ss : List Standing) (i place : ℕ) : Type 0 where
  pub steps : ℕ
  pub far : place ≡ i + steps
  pub s : Standing
  pub is : slice_get ss steps ≡ Some s
  pub passes : is_of name s ≡ true

placed : (name : List ℕ) (ss : List Standing) (i place : ℕ) → position_from (is_of name) i ss ≡ Some place → IsPlaced name ss i place
placed name [] i place e = cc
placed name (x ∷ ss) i place e = at (is_of name x) refl e (placed name ss (i + 1) place)
  where
    at : (b : Bool) → is_of name x ≡ b → cond b (Some i) (position_from (is_of name) (i + 1) ss) ≡ Some place
        → (position_from (is_of name) (i + 1) ss ≡ Some place → IsPlaced name ss (i + 1) place) → IsPlaced name (x ∷ ss) i place
    at true h f rest =
        let same : i ≡ place = cc in
        record { steps = 0; far = sym same ∙ plus_none i; s = x; is = refl; passes = h }
      where
        plus_none : (n : ℕ) → n ≡ n + 0
        plus_none n = omega arith
    at false h f rest =
        let r = rest f in
        record { steps = suc r.steps; far = r.far ∙ next i r.steps; s = r.s; is = r.is; passes = r.passes }
      where
        next : (m n : ℕ) → m + 1 + n ≡ m + suc n
        next m n = omega arith

not_placed : (name : List ℕ) (ss : List Standing) (i : ℕ) → position_from (is_of name) i ss ≡ None → is_some (standing_named name ss) ≡ false
not_placed name [] i e = refl
not_placed name (x ∷ ss) i e = at (is_of name x) e (not_placed name ss (i + 1))
  where
    at : (b : Bool) → cond b (Some i) (position_from (is_of name) (i + 1) ss) ≡ None
        → (position_from (is_of name) (i + 1) ss ≡ None → is_some (standing_named name ss) ≡ false) → is_some (cond b (Some x) (standing_named name ss)) ≡ false
    at true f rest = cc
    at false f rest = rest f

-- a control that may take up a counter stands
pub stands : (users : Users) (past : Past) (ss : List Standing) (name user : List ℕ) (number : ℤ) → may_restore user number (kept_named name (controls_from users past 0 ss)) ≡ true
    → position (is_of name) ss ≡ None → ⊥
stands users past ss name user number may e =
    lacks (kept_named name (controls_from users past 0 ss)) may
    (sym (is_named users past name ss) ∙ not_placed name ss 0 (sym (position_from-zero (is_of name) ss) ∙ e))
  where
    lacks : (o : Option ControlKept) → may_restore user number o ≡ true → is_some o ≡ false → ⊥
    lacks None m n = cc
    lacks (Some k) m n = cc

-- the control of a name, by its place
module _ (users : Users) (past : Past) (name : List ℕ) (s : Standing) (passes : bytes_eq s.control.name name ≡ true) where
  first_named : (start : ℕ) (ss : List Standing) (i : ℕ) → slice_get ss i ≡ Some s
      → ((j : ℕ) (a : Standing) → slice_get ss j ≡ Some a → bytes_eq a.control.name name ≡ true → i ≡ j)
      → kept_named name (controls_from users past start ss) ≡ Some (control_at users past (start + i) s)
  first_named start [] i e only = cc
  first_named start (x ∷ ss) zero e only =
      let one : x ≡ s = cc in
      let same : start ≡ start + 0 = omega arith in
      ap (λ (y : Standing). cond (bytes_eq y.control.name name) (Some (control_at users past start y)) (kept_named name (controls_from users past (suc start) ss))) one
      ∙ ap (λ (b : Bool). cond b (Some (control_at users past start s)) (kept_named name (controls_from users past (suc start) ss))) passes
      ∙ ap (λ (n : ℕ). Some (control_at users past n s)) same
  first_named start (x ∷ ss) (suc i) e only =
      let same : suc start + i ≡ start + suc i = omega arith in
      ap (λ (b : Bool). cond b (Some (control_at users past start x)) (kept_named name (controls_from users past (suc start) ss))) (earlier (bytes_eq x.control.name name) refl)
      ∙ first_named (suc start) ss i e (λ j a f g. before i j (only (suc j) a f g))
      ∙ ap (λ (n : ℕ). Some (control_at users past n s)) same
    where
      apart_from : suc i ≡ 0 → ⊥
      apart_from h = omega (arith, h)

      earlier : (b : Bool) → bytes_eq x.control.name name ≡ b → b ≡ false
      earlier true f = absurd (apart_from (only 0 x refl f))
      earlier false f = refl

      before : (m n : ℕ) → suc m ≡ suc n → m ≡ n
      before m n h = omega (arith, h)

zero_plus : (i : ℕ) → 0 + i ≡ i
zero_plus i = omega arith

-- the controls after a counter is taken up again
module _ (users : Users) (past after : Past) (ss : List Standing) (name user : List ℕ) (place : ℕ) (number : ℤ) (used : Used) (k : AreKeyed users past) (apart : AreApart ss)
    (plain : has_no_zero user ≡ true) (named : position (is_of name) ss ≡ Some place)
    (may : may_restore user number (kept_named name (controls_from users past 0 ss)) ≡ true) (put : IsPut user place number used past after) where
  record Here : Type 0 where
    pub s : Standing
    pub is : slice_get ss place ≡ Some s
    pub passes : bytes_eq s.control.name name ≡ true

  here : Here
  here =
      let p = placed name ss 0 place (sym (position_from-zero (is_of name) ss) ∙ named) in
      record { s = p.s; is = ap (slice_get ss) (p.far ∙ zero_plus p.steps) ∙ p.is; passes = p.passes }

  -- no other control has the name
  only : (i : ℕ) (a : Standing) → slice_get ss i ≡ Some a → bytes_eq a.control.name name ≡ true → place ≡ i
  only i a e f =
      apart place i here.s a here.is e
      (ap (bytes_eq here.s.control.name) (one_name a.control.name name f) ∙ here.passes)

  -- nothing is counted yet
  none_yet : used_at users past user place number ≡ None
  none_yet =
      nothing (used_at users past user place number)
      (sym (ap is_none (get_sums (λ (u : Used). u.amount) place user number plain users past k))
      ∙ sym (ap (may_restore user number) (first_named users past name here.s here.passes 0 ss place here.is only ∙ ap (λ (n : ℕ). Some (control_at users past n here.s)) (zero_plus place)))
      ∙ may)
    where
      nothing : (o : Option Used) → is_none (option_map (λ (u : Used). u.amount) o) ≡ true → o ≡ None
      nothing None e = refl
      nothing (Some u) e = cc

  then_at : (u : List ℕ) (p : ℕ) (n : ℤ) → used_at users after u p n ≡ or_else (in_span n (at_place p (counters_at users u))) (or_else (one_row place user number used p u n) (past_at past u p n))
  then_at u p n = ap (or_else (in_span n (at_place p (counters_at users u)))) (put.at u p n)

  -- at another place nothing changes
  elsewhere : (p : ℕ) → (place == p) ≡ false → (u : List ℕ) (n : ℤ) → used_at users after u p n ≡ used_at users past u p n
  elsewhere p h u n =
      then_at u p n
      ∙ ap (λ (b : Bool). or_else (in_span n (at_place p (counters_at users u))) (or_else (cond b (Some used) None) (past_at past u p n)))
      (ap (λ (b : Bool). bytes_eq u user && (b && int_eq number n)) h ∙ neither (bytes_eq u user))
    where
      neither : (b : Bool) → (b && false) ≡ false
      neither true = refl
      neither false = refl

  -- at its place what is taken up stands
  own : (u : List ℕ) (n : ℤ) → used_at users after u place n ≡ cond (bytes_eq u user && int_eq n number) (Some used) (used_at users past u place n)
  own u n =
      then_at u place n
      ∙ ap (λ (b : Bool). or_else (in_span n (at_place place (counters_at users u))) (or_else (cond (bytes_eq u user && (b && int_eq number n)) (Some used) None) (past_at past u place n))) itself
      ∙ by (bytes_eq u user) (int_eq number n) refl refl
      ∙ ap (λ (b : Bool). cond (bytes_eq u user && b) (Some used) (used_at users past u place n)) (int-sym number n)
    where
      itself : (place == place) ≡ true
      itself = grind (arith, nat_tests)

      empty : (o p : Option Used) → or_else o p ≡ None → or_else o (Some used) ≡ Some used
      empty None p e = refl
      empty (Some x) p e = cc

      by : (a b : Bool) → bytes_eq u user ≡ a → int_eq number n ≡ b
          → or_else (in_span n (at_place place (counters_at users u))) (or_else (cond (a && (true && b)) (Some used) None) (past_at past u place n))
          ≡ cond (a && b) (Some used) (used_at users past u place n)
      by true true e f =
          empty (in_span n (at_place place (counters_at users u))) (past_at past u place n)
          (ap (λ (x : List ℕ). used_at users past x place n) (one_name u user e) ∙ ap (used_at users past user place) (sym (one_number number n f)) ∙ none_yet)
      by true false e f = refl
      by false b e f = refl

  pub keyed_then : AreKeyed users after
  keyed_then = record { ordered = k.ordered; users_plain = k.users_plain; past_plain = put.plain k.past_plain }

  sums_then : (worth : Used → ℤ) → sums_in worth users after place ≡ finite.insert (sums_in worth users past place) (counter_key user number) (worth used)
  sums_then worth =
      put_sums worth place users users past after user number (worth used) k keyed_then plain
      (λ u n p. ap (option_map worth) (own u n) ∙ mapped (bytes_eq u user && int_eq n number) (used_at users past u place n))
    where
      mapped : (b : Bool) (o : Option Used) → option_map worth (cond b (Some used) o) ≡ cond b (Some (worth used)) (option_map worth o)
      mapped true o = refl
      mapped false o = refl

  each : (i : ℕ) (s : Standing) → slice_get ss i ≡ Some s → control_at users after i s ≡ kept_after_restore name user number used (control_at users past i s)
  each i s e = at (bytes_eq name s.control.name) refl
    where
      other_place : bytes_eq name s.control.name ≡ false → (b : Bool) → (place == i) ≡ b → b ≡ false
      other_place h true f =
          let same : place ≡ i = grind (arith, nat_tests) in
          let one : here.s ≡ s = some_one (sym here.is ∙ ap (slice_get ss) same ∙ e) in
          never (sym here.passes ∙ ap (λ (x : Standing). bytes_eq x.control.name name) one ∙ name-sym s.control.name name ∙ h)
        where
          some_one : {a b : Standing} → Some a ≡ Some b → a ≡ b
          some_one g = cc
      other_place h false f = refl

      at : (b : Bool) → bytes_eq name s.control.name ≡ b
          → control_at users after i s
          ≡ cond b (record (control_at users past i s) { amounts = finite.insert (sums_in (λ (u : Used). u.amount) users past i) (counter_key user number) used.amount; times = finite.insert (sums_in (λ (u : Used). u.count) users past i) (counter_key user number) used.count })
          (control_at users past i s)
      at true h =
          subst (λ (n : ℕ). control_at users after n s
          ≡ record (control_at users past n s) { amounts = finite.insert (sums_in (λ (u : Used). u.amount) users past n) (counter_key user number) used.amount; times = finite.insert (sums_in (λ (u : Used). u.count) users past n) (counter_key user number) used.count })
          (only i s e (name-sym s.control.name name ∙ h))
          (λ j. record {
            first = s.first;
            control = s.control;
            amounts = sums_then (λ (u : Used). u.amount) j;
            times = sums_then (λ (u : Used). u.count) j;
          })
      at false h =
          let apart_here = other_place h (place == i) refl in
          λ j. record {
            first = s.first;
            control = s.control;
            amounts = unchanged_sums (λ (u : Used). u.amount) i users users past after k keyed_then (λ u n p. elsewhere i apart_here u n) j;
            times = unchanged_sums (λ (u : Used). u.count) i users users past after k keyed_then (λ u n p. elsewhere i apart_here u n) j;
          }

  pub restored : controls_from users after 0 ss ≡ map (kept_after_restore name user number used) (controls_from users past 0 ss)
  restored =
      ap (controls_from users after 0) (sym (mapped_same ss))
      ∙ from_start users users past after (λ (s : Standing). s) (kept_after_restore name user number used) ss each

  pub beyond_then : ((u : List ℕ) (p : ℕ) (n : ℤ) → slice_get ss p ≡ None → used_at users past u p n ≡ None)
      → (u : List ℕ) (p : ℕ) (n : ℤ) → slice_get ss p ≡ None → used_at users after u p n ≡ None
  beyond_then beyond u p n e = elsewhere p (at (place == p) refl) u n ∙ beyond u p n e
    where
      at : (b : Bool) → (place == p) ≡ b → b ≡ false
      at true f =
          let same : place ≡ p = grind (arith, nat_tests) in
          absurd (both (sym here.is ∙ ap (slice_get ss) same ∙ e))
        where
          both : {a : Standing} → Some a ≡ None → ⊥
          both g = cc
      at false f = refl

-- nothing is counted in another way if nothing is put
pub same_then : (users : Users) (past after : Past) → IsKeptPast past after → (u : List ℕ) (p : ℕ) (n : ℤ) → used_at users after u p n ≡ used_at users past u p n
same_then users past after kept u p n = ap (or_else (in_span n (at_place p (counters_at users u)))) (kept.same u p n)
