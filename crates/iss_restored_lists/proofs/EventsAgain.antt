-- Events of a state are taken up one after the other, each of a new token.
use Rattle.std.proofs.Common.{◌≡◌, ◌∙◌, ◌++◌, ◌∷◌, ◌+◌, ◌<◌, ◌≤◌, ℕ, ap, ap₂, append_assoc, append-nil, arith, Bool, cond, drop, false, find, fold, get_or, length, List, [], map, refl, subst, sym, true}
use Rattle.std.specs.Prelude.{IsSome, IsTrue, Option, Some, None, is_some, option_map, unwrap_or}
use Rattle.std.specs.List.{flat_map, list_all, list_any}
use Rattle.std.specs.Option.{option_or}
use Rattle.std.specs.Str.{bytes_eq}
use Rattle.std.proofs.lemmas.Bool.{and_parts}
use Rattle.std.proofs.lemmas.List.{drop_more}
use Rattle.std.proofs.lemmas.List.Folds.{find-append}
use Rattle.std.proofs.Math.ListN.{drop_of_length-le}
use Rattle.iss_model.specs.declared.decision.Verdict.{Verdict}
use Rattle.iss_model.specs.declared.input.Input.{Input}
use Rattle.iss_model.specs.declared.input.Input.TheVariants as input
use Rattle.iss_model.specs.declared.setting.Moved.TheVariants as moved
use Rattle.iss_model.specs.declared.state.Carried.{Carried}
use Rattle.iss_model.specs.declared.state.Seen.{Seen}
use Rattle.iss_model.specs.declared.state.State.{State}
use Rattle.iss_model.specs.Forms.{is_in_form, is_stamp}
use Rattle.iss_model.specs.Inputs.{event_token, is_event, is_text}
use Rattle.iss_model.specs.rules.Facts.{Accepted, Decision}
use Rattle.iss_model.specs.state.Cores.{CoreState, after_setting, no_core}
use Rattle.iss_model.specs.Tokens.{is_token}
use Rattle.iss_model.specs.texts.Spelling.{has_spelling, is_record, tokens_of}
use Rattle.iss_model.proofs.Lists.{neither}
use Rattle.iss_model.proofs.Names.{its_name, name-sym}
use Rattle.iss_state.proofs.docket.Lists.{Each, not_both}
use Rattle.iss_accepted.specs.Values.{EventsNow, IsUnknown, no_events, with_decision, with_input}
use Rattle.iss_states.specs.Order.{has_event_token, have_tokens_of_their_own, is_event_record}
use Rattle.iss_states.specs.Rebuilding.{decisions_of_event, is_done, rebuilt, with_event, with_seen}
use Rattle.iss_states.specs.Showing.{accepted_of_seen}
use Rattle.iss_states.proofs.Shown.{accepted_again}
use Rattle.iss_known.proofs.ShownAgain.{no_later, other_token}
use Rattle.iss_restored_lists.specs.Events.{IsNewAmong, events_of_core, events_of_seen, token_of_seen, with_event_seen}

abbrev told_so : List Accepted → List Decision → EventsNow
told_so accepted decisions = record { accepted = accepted; decisions = decisions }

abbrev decided_as : List ℕ → Verdict → Decision
decided_as token v = record { event = token; verdict = v }

-- what an event with this verdict decides
abbrev decisions_as : List ℕ → Option Verdict → List Decision
decisions_as token o = unwrap_or {T = List Decision} (option_map (λ (v : Verdict). decided_as token v ∷ []) o) []

-- decisions of a core that is made again ----

setting_decisions : (c : CoreState) (i : Input) → (after_setting c i).decisions ≡ c.decisions
setting_decisions c (input.Move token (moved.Card card to)) = refl
setting_decisions c (input.Move token (moved.User user to)) = refl
setting_decisions c _ = refl

settled_decisions : (b : Bool) (c : CoreState) (i : Input) → (cond b (after_setting c i) c).decisions ≡ c.decisions
settled_decisions true c i = setting_decisions c i
settled_decisions false c i = refl

all_decided : (ts : List Carried) (c : CoreState) (es : List Seen) → (fold (with_seen ts) c es).decisions ≡ c.decisions ++ flat_map decisions_of_event es
all_decided ts c [] = sym (append-nil c.decisions)
all_decided ts c (e ∷ es) =
    all_decided ts (with_seen ts c e) es
    ∙ ap (λ (ds : List Decision). (ds ++ decisions_of_event e) ++ flat_map decisions_of_event es) (settled_decisions (is_done e.verdict) (with_event c e) e.body.input)
    ∙ append_assoc c.decisions (decisions_of_event e) (flat_map decisions_of_event es)

-- the events of a core that is made again are those of the state
pub events_again : (s : State) → events_of_seen s.events ≡ events_of_core (rebuilt s)
events_again s =
    let accepted = accepted_again s in
    let decided = all_decided s.txns no_core s.events in
    λ i. record { accepted = sym accepted i; decisions = sym decided i }

-- one event ----

not_its : (o : Option (List ℕ)) (token : List ℕ) → is_some o ≡ true → bytes_eq (unwrap_or o []) token ≡ false → is_text token o ≡ false
not_its None token is h = cc
not_its (Some t) token is h = h

-- an event that is taken up isn't found under another token
not_found : (e : Seen) (token : List ℕ) → is_event_record e ≡ true → bytes_eq (token_of_seen e) token ≡ false
    → find (λ (a : Accepted). is_event token a.input) (accepted_of_seen e ∷ []) ≡ None
not_found e token form apart =
    ap (λ (b : Bool). cond b (Some (accepted_of_seen e)) None)
    (not_its (event_token e.body.input) token (and_parts (is_some (event_token e.body.input)) (is_record e.body) form).0 apart)

not_decided : (token other : List ℕ) → bytes_eq token other ≡ false → (o : Option Verdict)
    → find (λ (d : Decision). bytes_eq d.event other) (decisions_as token o) ≡ None
not_decided token other apart None = refl
not_decided token other apart (Some v) = ap (λ (b : Bool). cond b (Some (decided_as token v)) None) apart

still_new : (now : EventsNow) (e x : Seen) → is_event_record e ≡ true → bytes_eq (token_of_seen e) (token_of_seen x) ≡ false → IsNewAmong now x
    → IsNewAmong (with_event_seen now e) x
still_new now e x form apart new =
    record {
      accepted =
          find-append (λ (a : Accepted). is_event (token_of_seen x) a.input) now.accepted (accepted_of_seen e ∷ [])
          ∙ ap₂ (λ (o p : Option Accepted). option_or o p) new.accepted (not_found e (token_of_seen x) form apart);
      decided =
          find-append (λ (d : Decision). bytes_eq d.event (token_of_seen x)) now.decisions (decisions_of_event e)
          ∙ ap₂ (λ (o p : Option Decision). option_or o p) new.decided (not_decided (token_of_seen e) (token_of_seen x) apart e.verdict);
    }

all_new : (now : EventsNow) (e : Seen) (es : List Seen) → is_event_record e ≡ true → list_all is_event_record es ≡ true → list_any (has_event_token (token_of_seen e)) es ≡ false
    → Each (IsNewAmong now) es → Each (IsNewAmong (with_event_seen now e)) es
all_new now e [] form forms none h = tt
all_new now e (x ∷ es) form forms none h =
    let both = and_parts (is_event_record x) (list_all is_event_record es) forms in
    let apart = neither (has_event_token (token_of_seen e) x) (list_any (has_event_token (token_of_seen e)) es) none in (
      still_new now e x form (name-sym (token_of_seen e) (token_of_seen x) ∙ other_token (token_of_seen e) x both.0 apart.0) h.0,
      all_new now e es form both.1 apart.1 h.1,
    )

-- the loop ----

-- what was taken up of events, and what is left of them
pub record IsTakingUp (all left : List Seen) (now : EventsNow) : Type 0 where
  pub accepted : now.accepted ++ map accepted_of_seen left ≡ map accepted_of_seen all
  pub decided : now.decisions ++ flat_map decisions_of_event left ≡ flat_map decisions_of_event all
  pub new : Each (IsNewAmong now) left
  pub own : have_tokens_of_their_own left ≡ true
  pub forms : list_all is_event_record left ≡ true

none_taken : (es : List Seen) → Each (IsNewAmong no_events) es
none_taken [] = tt
none_taken (e ∷ es) = (record { accepted = refl; decided = refl }, none_taken es)

pub begins : (all : List Seen) (now : EventsNow) → now ≡ no_events → list_all is_event_record all ≡ true → have_tokens_of_their_own all ≡ true → IsTakingUp all all now
begins all now is forms own =
    subst (λ (x : EventsNow). IsTakingUp all all x) (sym is) (record { accepted = refl; decided = refl; new = none_taken all; own = own; forms = forms })

goes : (all es : List Seen) (e : Seen) (now : EventsNow) → IsTakingUp all (e ∷ es) now → IsTakingUp all es (with_event_seen now e)
goes all es e now r =
    let forms = and_parts (is_event_record e) (list_all is_event_record es) r.forms in
    record {
      accepted = append_assoc now.accepted (accepted_of_seen e ∷ []) (map accepted_of_seen es) ∙ r.accepted;
      decided = append_assoc now.decisions (decisions_of_event e) (flat_map decisions_of_event es) ∙ r.decided;
      new = all_new now e es forms.0 forms.1 (no_later e es r.own) r.new.1;
      own = (and_parts _ (have_tokens_of_their_own es) r.own).1;
      forms = forms.1;
    }

module _ (all : List Seen) (i : ℕ) (e : Seen) (now : EventsNow) (within : i < length all) (is : e ≡ get_or all i e) (r : IsTakingUp all (drop i all) now) where
  here : IsTakingUp all (e ∷ drop (i + 1) all) now
  here = subst (λ (left : List Seen). IsTakingUp all left now) (drop_more all i e within ∙ ap (λ (x : Seen). x ∷ drop (i + 1) all) (sym is)) r

  pub its_form : is_event_record e ≡ true
  its_form = (and_parts (is_event_record e) (list_all is_event_record (drop (i + 1) all)) here.forms).0

  pub is_new : IsNewAmong now e
  is_new = here.new.0

  pub goes_on : (after : EventsNow) → after ≡ with_event_seen now e → IsTakingUp all (drop (i + 1) all) after
  goes_on after same = subst (λ (x : EventsNow). IsTakingUp all (drop (i + 1) all) x) (sym same) (goes all (drop (i + 1) all) e now here)

pub over : (all : List Seen) (now : EventsNow) (n : ℕ) → length all ≤ n → IsTakingUp all (drop n all) now → now ≡ events_of_seen all
over all now n len r =
    let last : IsTakingUp all [] now = subst (λ (left : List Seen). IsTakingUp all left now) (drop_of_length-le all len) r in
    let accepted = sym (append-nil now.accepted) ∙ last.accepted in
    let decided = sym (append-nil now.decisions) ∙ last.decided in
    λ j. record { accepted = accepted j; decisions = decided j }

-- one call ----

-- an event's stamp and the form of its input
pub its_stamp : (e : Seen) → is_event_record e ≡ true → IsTrue (is_stamp e.body.at)
its_stamp e form =
    (and_parts (is_stamp e.body.at) (has_spelling e.body.input) (and_parts (is_some (event_token e.body.input)) (is_record e.body) form).1).0

pub its_input : (e : Seen) → is_event_record e ≡ true → IsTrue (is_in_form e.body.input)
its_input e form =
    (and_parts (is_in_form e.body.input) (list_all is_token (tokens_of e.body.input))
    (and_parts (is_stamp e.body.at) (has_spelling e.body.input) (and_parts (is_some (event_token e.body.input)) (is_record e.body) form).1).1).0

pub is_unknown : (now : EventsNow) (e : Seen) → IsNewAmong now e → IsUnknown now e.body.input
is_unknown now e new token is =
    ap (λ (t : List ℕ). find (λ (a : Accepted). is_event t a.input) now.accepted) (sym (ap (λ (o : Option (List ℕ)). unwrap_or o []) is))
    ∙ new.accepted

-- the events after an event was added, and its decision wasn't
module _ (now : EventsNow) (e : Seen) (form : is_event_record e ≡ true) where
  abbrev grown : List Accepted
  grown = now.accepted ++ accepted_of_seen e ∷ []

  is_added : with_input now e.number e.body.at e.body.input ≡ told_so grown now.decisions
  is_added =
      ap (λ (b : Bool). told_so (now.accepted ++ cond b (accepted_of_seen e ∷ []) []) now.decisions)
      (and_parts (is_some (event_token e.body.input)) (is_record e.body) form).0

  pub undecided : (after : EventsNow) → after ≡ with_input now e.number e.body.at e.body.input → e.verdict ≡ None → after ≡ with_event_seen now e
  undecided after is none =
      is ∙ is_added
      ∙ ap (λ (ds : List Decision). told_so grown ds)
      (sym (append-nil now.decisions) ∙ ap (λ (o : Option Verdict). now.decisions ++ decisions_as (token_of_seen e) o) (sym none))

  -- it is an event, so its token isn't missing
  pub has_token : {A : Type 0} → event_token e.body.input ≡ None → A
  has_token is = not_both (is_some (event_token e.body.input)) (and_parts (is_some (event_token e.body.input)) (is_record e.body) form).0 (ap is_some is)

  module _ (token : List ℕ) (is : event_token e.body.input ≡ Some token) where
    same_token : token_of_seen e ≡ token
    same_token = ap (λ (o : Option (List ℕ)). unwrap_or o []) is

    pub is_there : (new : IsNewAmong now e) (after : EventsNow) → after ≡ with_input now e.number e.body.at e.body.input
        → IsSome (find (λ (a : Accepted). is_event token a.input) after.accepted)
    is_there new after made =
        ap (λ (x : EventsNow). is_some (find (λ (a : Accepted). is_event token a.input) x.accepted)) (made ∙ is_added)
        ∙ ap is_some (find-append (λ (a : Accepted). is_event token a.input) now.accepted (accepted_of_seen e ∷ []))
        ∙ ap (λ (o : Option Accepted). is_some (option_or o (find (λ (a : Accepted). is_event token a.input) (accepted_of_seen e ∷ [])))) (is_unknown now e new token is)
        ∙ ap (λ (b : Bool). is_some (cond b (Some (accepted_of_seen e)) None)) (ap (is_text token) is ∙ its_name token)

    pub isnt_decided : (new : IsNewAmong now e) (after : EventsNow) → after ≡ with_input now e.number e.body.at e.body.input
        → find (λ (d : Decision). bytes_eq d.event token) after.decisions ≡ None
    isnt_decided new after made =
        ap (λ (x : EventsNow). find (λ (d : Decision). bytes_eq d.event token) x.decisions) (made ∙ is_added)
        ∙ ap (λ (t : List ℕ). find (λ (d : Decision). bytes_eq d.event t) now.decisions) (sym same_token)
        ∙ new.decided

    pub is_decided : (added after : EventsNow) (v : Verdict) → added ≡ with_input now e.number e.body.at e.body.input → e.verdict ≡ Some v
        → after ≡ with_decision added token v → after ≡ with_event_seen now e
    is_decided added after v made verdict decided =
        decided ∙ ap (λ (x : EventsNow). with_decision x token v) (made ∙ is_added)
        ∙ ap (λ (t : List ℕ). told_so grown (now.decisions ++ decided_as t v ∷ [])) (sym same_token)
        ∙ ap (λ (o : Option Verdict). told_so grown (now.decisions ++ decisions_as (token_of_seen e) o)) (sym verdict)
