-- Decisions of a core that is made again, each found as it was.
use Rattle.std.proofs.Common.{◌≡◌, ◌∙◌, ◌++◌, ◌∷◌, ◌||◌, ap, append_assoc, append-nil, Bool, cond, false, find, fold, List, [], map, refl, sym, true, ℕ}
use Rattle.std.specs.Prelude.{None, Option, Some, is_some, option_map, unwrap_or}
use Rattle.std.specs.List.{flat_map, list_any}
use Rattle.std.specs.Str.{bytes_eq}
use Rattle.iss_model.specs.declared.decision.Verdict.{Verdict}
use Rattle.iss_model.specs.declared.input.Input.{Input}
use Rattle.iss_model.specs.declared.input.Input.TheVariants as input
use Rattle.iss_model.specs.declared.input.Record.{Record}
use Rattle.iss_model.specs.declared.setting.Moved.TheVariants as moved
use Rattle.iss_model.specs.declared.state.Carried.{Carried}
use Rattle.iss_model.specs.declared.state.Seen.{Seen}
use Rattle.iss_model.specs.Inputs.{event_token, is_event, is_text}
use Rattle.iss_model.specs.rules.Facts.{Accepted, Decision, verdict_in}
use Rattle.iss_model.specs.rules.Histories.{IsLegal}
use Rattle.iss_model.specs.state.Cores.{CoreState, after_setting, core_of, no_core}
use Rattle.iss_model.proofs.Lists.{neither}
use Rattle.iss_model.proofs.Names.{one_name}
use Rattle.iss_state.specs.Pending.{IsWell}
use Rattle.iss_state.specs.Sound.{is_accepted}
use Rattle.iss_state.specs.Well.{is_decided}
use Rattle.iss_state.proofs.calls.Legal.{core_well}
use Rattle.iss_state.proofs.docket.Lists.{not_both}
use Rattle.iss_states.specs.Rebuilding.{decisions_of_event, is_done, with_event, with_seen}
use Rattle.iss_states.specs.Showing.{seen_in, shown, token_of_event}
use Rattle.iss_rebuilt.specs.Sums.{AreDecidedAgain}

-- what is made again ----

setting_decisions : (c : CoreState) (i : Input) → (after_setting c i).decisions ≡ c.decisions
setting_decisions c (input.Move token (moved.Card card to)) = refl
setting_decisions c (input.Move token (moved.User user to)) = refl
setting_decisions c _ = refl

settled_decisions : (b : Bool) (c : CoreState) (i : Input) → (cond b (after_setting c i) c).decisions ≡ c.decisions
settled_decisions true c i = setting_decisions c i
settled_decisions false c i = refl

all_decided : (ts : List Carried) (c : CoreState) (es : List Seen) → (fold (with_seen ts) c es).decisions ≡ c.decisions ++ flat_map decisions_of_event es
all_decided ts c [] = sym (append-nil c.decisions)
all_decided ts c (e ∷ es) =
    all_decided ts (with_seen ts c e) es
    ∙ ap (λ (ds : List Decision). (ds ++ decisions_of_event e) ++ flat_map decisions_of_event es) (settled_decisions (is_done e.verdict) (with_event c e) e.body.input)
    ∙ append_assoc c.decisions (decisions_of_event e) (flat_map decisions_of_event es)

-- what is found of it ----

-- an accepted event has this token
abbrev is_of : List ℕ → Accepted → Bool
is_of event a = bytes_eq (token_of_event a) event

-- the decision of an event by its verdict
abbrev decided_as : Accepted → Option Verdict → List Decision
decided_as a v = unwrap_or (option_map (λ v. record { event = token_of_event a; verdict = v } ∷ []) v) []

either_none : (b : Bool) (x : Option Verdict) → x ≡ None → cond b x None ≡ x
either_none true x e = refl
either_none false x e = sym e

decided_first : (c : CoreState) (event : List ℕ) (a : Accepted) (rest : List Decision) (more : Bool) → verdict_in rest event ≡ cond more (verdict_in c.decisions event) None
    → (v : Option Verdict) → verdict_in c.decisions (token_of_event a) ≡ v → verdict_in (decided_as a v ++ rest) event ≡ cond (is_of event a || more) (verdict_in c.decisions event) None
decided_first c event a rest more later None e = none (is_of event a) refl
  where
    none : (b : Bool) → is_of event a ≡ b → verdict_in rest event ≡ cond (b || more) (verdict_in c.decisions event) None
    none true same = later ∙ either_none more (verdict_in c.decisions event) (ap (verdict_in c.decisions) (sym (one_name (token_of_event a) event same)) ∙ e)
    none false same = later
decided_first c event a rest more later (Some v) e = some (is_of event a) refl
  where
    some : (b : Bool) → is_of event a ≡ b
        → option_map (λ (d : Decision). d.verdict) (cond b (Some (record { event = token_of_event a; verdict = v })) (find (λ (d : Decision). bytes_eq d.event event) rest))
        ≡ cond (b || more) (verdict_in c.decisions event) None
    some true same = sym e ∙ ap (verdict_in c.decisions) (one_name (token_of_event a) event same)
    some false same = later

decided_again : (c : CoreState) (event : List ℕ) (xs : List Accepted)
    → verdict_in (flat_map decisions_of_event (map (seen_in c) xs)) event ≡ cond (list_any (is_of event) xs) (verdict_in c.decisions event) None
decided_again c event [] = refl
decided_again c event (a ∷ xs) =
    decided_first c event a (flat_map decisions_of_event (map (seen_in c) xs)) (list_any (is_of event) xs) (decided_again c event xs) (verdict_in c.decisions (token_of_event a)) refl

-- what isn't accepted isn't decided ----

not_its_event : (event : List ℕ) (a : Accepted) → is_of event a ≡ false → is_event event a.input ≡ false
not_its_event event a = by (event_token a.input)
  where
    by : (o : Option (List ℕ)) → bytes_eq (unwrap_or o []) event ≡ false → is_text event o ≡ false
    by None h = refl
    by (Some token) h = h

not_accepted : (event : List ℕ) (xs : List Accepted) → list_any (is_of event) xs ≡ false → is_accepted xs event ≡ false
not_accepted event [] h = refl
not_accepted event (a ∷ xs) h =
    let both = neither (is_of event a) (list_any (is_of event) xs) h in
    ap (λ (b : Bool). is_some (cond b (Some a) (find (λ (x : Accepted). is_event event x.input) xs))) (not_its_event event a both.0) ∙ not_accepted event xs both.1

no_verdict : (event : List ℕ) (ds : List Decision) → is_decided ds event ≡ false → verdict_in ds event ≡ None
no_verdict event [] h = refl
no_verdict event (d ∷ ds) h =
    let both = neither (bytes_eq d.event event) (is_decided ds event) h in
    ap (λ (b : Bool). option_map (λ (x : Decision). x.verdict) (cond b (Some d) (find (λ (x : Decision). bytes_eq x.event event) ds))) both.0 ∙ no_verdict event ds both.1

all_are_accepted : (c : CoreState) → IsWell c → (event : List ℕ) → cond (list_any (is_of event) c.accepted) (verdict_in c.decisions event) None ≡ verdict_in c.decisions event
all_are_accepted c well event = by (list_any (is_of event) c.accepted) refl
  where
    undecided : (b : Bool) → is_decided c.decisions event ≡ b → list_any (is_of event) c.accepted ≡ false → is_decided c.decisions event ≡ false
    undecided true h none = not_both (is_accepted c.accepted event) (well.docket.decisions.events event h) (not_accepted event c.accepted none)
    undecided false h none = h

    by : (b : Bool) → list_any (is_of event) c.accepted ≡ b → cond b (verdict_in c.decisions event) None ≡ verdict_in c.decisions event
    by true h = refl
    by false h = sym (no_verdict event c.decisions (undecided (is_decided c.decisions event) refl h))

pub decisions_rebuilt : (c : CoreState) → IsWell c → AreDecidedAgain c
decisions_rebuilt c well event =
    ap (λ (ds : List Decision). verdict_in ds event) (all_decided (shown c).txns no_core (shown c).events)
    ∙ decided_again c event c.accepted
    ∙ all_are_accepted c well event

pub decisions_again : (rs : List Record) → IsLegal rs → AreDecidedAgain (core_of rs)
decisions_again rs legal = decisions_rebuilt (core_of rs) (core_well rs legal)
