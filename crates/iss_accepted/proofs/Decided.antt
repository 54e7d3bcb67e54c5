-- Decisions by places: they stay if an event is added, and one more is made if an event receives its verdict.
use Rattle.std.proofs.Common.{◌≡◌, ℕ, zero, suc, Bool, true, false, cond, List, [], ◌∷◌, ◌++◌, Option, Some, None, slice_get, get_or, set, refl, sym, ap, ap₂, subst, ◌∙◌}
use Rattle.std.specs.Prelude.{IsSome, option_map}
use Rattle.std.specs.List.{AllByRecursion, cons_option}
use Rattle.std.specs.Option.{option_and_then, option_or}
use Rattle.std.specs.Str.{bytes_eq}
use Rattle.std.proofs.lemmas.List.Elements.{filter_map-append}
use Rattle.std.proofs.lemmas.List.Folds.{find-append, find_past}
use Rattle.std.proofs.lemmas.Option.{same_Some}
use Rattle.iss_model.specs.declared.decision.Verdict.{Verdict}
use Rattle.iss_model.specs.rules.Facts.{Decision}
use Rattle.iss_model.proofs.Names.{one_name}
use Rattle.iss_accepted.specs.Standing.{Standing, name_of, standing_named, decision_made, decision_at, decisions_at, decision_named, AreDecided}

-- the test of a name
abbrev pub has_name : List ℕ → Standing → Bool
has_name name s = bytes_eq (name_of s) name

pub nothing_decided : (ss : List Standing) (places : List ℕ) → ss ≡ [] → places ≡ [] → AreDecided ss places
nothing_decided ss places none empty =
    subst (λ (ps : List ℕ). AreDecided ss ps) (sym empty)
    (subst (λ (xs : List Standing). AreDecided xs []) (sym none) (record { made = tt; found = λ name. refl }))

-- if the decisions at these places are the same in two lists, so are their lists
module _ (before after : List Standing) (same : (place : ℕ) → IsSome (decision_at before place) → decision_at after place ≡ decision_at before place) where
  decisions_same : (places : List ℕ) → AllByRecursion (λ place. IsSome (decision_at before place)) places → decisions_at after places ≡ decisions_at before places
  decisions_same [] made = refl
  decisions_same (p ∷ ps) made = ap₂ (λ (o : Option Decision) (ds : List Decision). cons_option o ds) (same p made.0) (decisions_same ps made.1)

  made_same : (places : List ℕ) → AllByRecursion (λ place. IsSome (decision_at before place)) places → AllByRecursion (λ place. IsSome (decision_at after place)) places
  made_same [] made = tt
  made_same (p ∷ ps) made = (subst (λ (o : Option Decision). IsSome o) (sym (same p made.0)) made.0, made_same ps made.1)

-- ---- an event is added

-- what stands at a place stays there
last_same : (ss : List Standing) (y : Standing) (place : ℕ) → IsSome (decision_at ss place) → decision_at (ss ++ y ∷ []) place ≡ decision_at ss place
last_same [] y place made = cc
last_same (s ∷ ss) y zero made = refl
last_same (s ∷ ss) y (suc place) made = last_same ss y place made

-- a verdict that isn't there adds no decision
undecided_last : (b : Bool) (o : Option Standing) (y : Standing) → y.verdict ≡ None
    → option_and_then decision_made (option_or o (cond b (Some y) None)) ≡ option_and_then decision_made o
undecided_last b (Some s) y open_ = refl
undecided_last true None y open_ = ap (option_map (λ (v : Verdict). made v)) open_
  where
    made : Verdict → Decision
    made v = record { event = name_of y; verdict = v }
undecided_last false None y open_ = refl

module _ (ss : List Standing) (y : Standing) (places : List ℕ) (decided : AreDecided ss places) (pending : y.verdict ≡ None) where
  pub decisions_last : decisions_at (ss ++ y ∷ []) places ≡ decisions_at ss places
  decisions_last = decisions_same ss (ss ++ y ∷ []) (last_same ss y) places decided.made

  pub decided_last : AreDecided (ss ++ y ∷ []) places
  decided_last =
      record {
        made = made_same ss (ss ++ y ∷ []) (last_same ss y) places decided.made;
        found = λ name.
            ap (decision_named name) decisions_last
            ∙ decided.found name
            ∙ sym (undecided_last (has_name name y) (standing_named name ss) y pending)
            ∙ ap (option_and_then decision_made) (sym (find-append (has_name name) ss (y ∷ [])));
      }

-- ---- an event receives its verdict

-- the verdict of an event
abbrev pub with_verdict : Standing → Verdict → Standing
with_verdict s verdict = record s { verdict = Some verdict }

-- its decision
abbrev pub decision_of : Standing → Verdict → Decision
decision_of s verdict = record { event = name_of s; verdict = verdict }

-- another place keeps what it has, and this one has no decision yet
set_same : (ss : List Standing) (i : ℕ) (s y : Standing) → slice_get ss i ≡ Some s → s.verdict ≡ None
    → (place : ℕ) → IsSome (decision_at ss place) → decision_at (set ss i y) place ≡ decision_at ss place
set_same [] i s y here pending place made = cc
set_same (x ∷ xs) zero s y here pending zero made =
    let one : x ≡ s = same_Some x s here in
    let none : decision_made x ≡ None = ap (option_map (λ (v : Verdict). decision_of x v)) (ap (λ (t : Standing). t.verdict) one ∙ pending) in
    let never : IsSome {T = Decision} None = subst (λ (o : Option Decision). IsSome o) none made in
    cc
set_same (x ∷ xs) zero s y here pending (suc place) made = refl
set_same (x ∷ xs) (suc i) s y here pending zero made = refl
set_same (x ∷ xs) (suc i) s y here pending (suc place) made = set_same xs i s y here pending place made

-- the place itself has the decision now
set_here : (ss : List Standing) (i : ℕ) (s y : Standing) → slice_get ss i ≡ Some s → slice_get (set ss i y) i ≡ Some y
set_here [] i s y here = cc
set_here (x ∷ xs) zero s y here = refl
set_here (x ∷ xs) (suc i) s y here = set_here xs i s y here

get_here : (ss : List Standing) (i : ℕ) (s d : Standing) → slice_get ss i ≡ Some s → get_or ss i d ≡ s
get_here [] i s d here = cc
get_here (x ∷ xs) zero s d here = same_Some x s here
get_here (x ∷ xs) (suc i) s d here = get_here xs i s d here

module _ (ss : List Standing) (places : List ℕ) (i : ℕ) (s : Standing) (verdict : Verdict) (decided : AreDecided ss places)
    (here : slice_get ss i ≡ Some s) (pending : s.verdict ≡ None)
    (named : standing_named (name_of s) ss ≡ Some s)
    (renamed : standing_named (name_of s) (set ss i (with_verdict s verdict)) ≡ Some (with_verdict s verdict)) where
  -- the events with the verdict
  abbrev pub after : List Standing
  after = set ss i (with_verdict s verdict)

  same_elsewhere : decisions_at after places ≡ decisions_at ss places
  same_elsewhere = decisions_same ss after (set_same ss i s (with_verdict s verdict) here pending) places decided.made

  decision_here : decision_at after i ≡ Some (decision_of s verdict)
  decision_here = ap (option_and_then decision_made) (set_here ss i s (with_verdict s verdict) here)

  pub decisions_more : decisions_at after (places ++ i ∷ []) ≡ decisions_at ss places ++ decision_of s verdict ∷ []
  decisions_more =
      filter_map-append (decision_at after) places (i ∷ [])
      ∙ ap₂ (λ (ds : List Decision) (o : Option Decision). ds ++ cons_option o []) same_elsewhere decision_here

  found_more : (name : List ℕ) (b : Bool) → has_name name s ≡ b
      → option_or (decision_named name (decisions_at ss places)) (cond b (Some (decision_of s verdict)) None) ≡ option_and_then decision_made (standing_named name after)
  found_more name true is =
      let own : name_of s ≡ name = one_name (name_of s) name is in
      let before : decision_named name (decisions_at ss places) ≡ None =
      decided.found name
      ∙ ap (λ (n : List ℕ). option_and_then decision_made (standing_named n ss)) (sym own)
      ∙ ap (option_and_then decision_made) named
      ∙ ap (option_map (λ (v : Verdict). decision_of s v)) pending
      in
      ap (λ (o : Option Decision). option_or o (Some (decision_of s verdict))) before
      ∙ ap (option_and_then decision_made) (sym renamed)
      ∙ ap (λ (n : List ℕ). option_and_then decision_made (standing_named n after)) own
  found_more name false is =
      none_more (decision_named name (decisions_at ss places))
      ∙ decided.found name
      ∙ ap (option_and_then decision_made)
      (sym (find_past (has_name name) ss i (with_verdict s verdict) s (ap (has_name name) (get_here ss i s s here) ∙ is) is))
    where
      none_more : (o : Option Decision) → option_or o None ≡ o
      none_more None = refl
      none_more (Some d) = refl

  pub decided_more : AreDecided after (places ++ i ∷ [])
  decided_more =
      record {
        made = made_last places (made_same ss after (set_same ss i s (with_verdict s verdict) here pending) places decided.made);
        found = λ name.
            ap (decision_named name) decisions_more
            ∙ find-append (λ (d : Decision). bytes_eq d.event name) (decisions_at ss places) (decision_of s verdict ∷ [])
            ∙ found_more name (has_name name s) refl;
      }
    where
      made_last : (ps : List ℕ) → AllByRecursion (λ place. IsSome (decision_at after place)) ps → AllByRecursion (λ place. IsSome (decision_at after place)) (ps ++ i ∷ [])
      made_last [] made = (subst (λ (o : Option Decision). IsSome o) (sym decision_here) refl, tt)
      made_last (p ∷ ps) made = (made.0, made_last ps made.1)
