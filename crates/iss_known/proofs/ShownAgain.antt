-- Events are shown again exactly if each mark is that of a call.
use Rattle.std.proofs.Common.{◌≡◌, ◌∙◌, ◌++◌, ◌∷◌, ℕ, ap, ap₂, Bool, cond, false, find, fold, List, [], map, not, refl, subst, sym, true}
use Rattle.std.specs.Prelude.{Option, Some, None, is_some, option_map, unwrap_or}
use Rattle.std.specs.List.{list_all, list_any}
use Rattle.std.specs.Option.{option_or}
use Rattle.std.specs.Str.{bytes_eq}
use Rattle.std.proofs.lemmas.Bool.{and_parts}
use Rattle.std.proofs.lemmas.List.Folds.{find-append}
use Rattle.iss_model.specs.declared.call.CallState.{CallState}
use Rattle.iss_model.specs.declared.call.CallState.TheVariants as call_state
use Rattle.iss_model.specs.declared.decision.Verdict.{Verdict}
use Rattle.iss_model.specs.declared.setting.Product.{Product}
use Rattle.iss_model.specs.declared.state.Carried.{Carried}
use Rattle.iss_model.specs.declared.state.Seen.{Seen}
use Rattle.iss_model.specs.Inputs.{event_token, is_text}
use Rattle.iss_model.specs.rules.Activity.{CallNow}
use Rattle.iss_model.specs.rules.Asks.{Ask}
use Rattle.iss_model.specs.rules.Facts.{Decision, Facts, verdict_in}
use Rattle.iss_model.specs.rules.Pieces.{call_for}
use Rattle.iss_model.specs.rules.Settings.{product_named}
use Rattle.iss_model.specs.state.Cores.{CoreState, after_setting, core_facts}
use Rattle.iss_model.specs.texts.Spelling.{is_record}
use Rattle.iss_model.proofs.Lists.{neither}
use Rattle.iss_model.proofs.Names.{its_name, name-sym}
use Rattle.iss_state.proofs.docket.Lists.{Each}
use Rattle.iss_state.proofs.effects.Effects.{setting_calls}
use Rattle.iss_states.specs.Order.{has_event_token, have_tokens_of_their_own, is_event_record}
use Rattle.iss_states.specs.Rebuilding.{ask_of_event, calls_marked, decisions_of_event, how_of_mark, is_done, with_event, with_seen}
use Rattle.iss_states.specs.Showing.{accepted_of_seen, mark_in, mark_of, seen_in}
use Rattle.iss_states.proofs.Decided.{setting_decisions}
use Rattle.iss_rebuilt.proofs.Made.{ask_event}
use Rattle.iss_well_formed.specs.Events.{is_marked_well, may_stand}
use Rattle.iss_known.specs.Known.{IsKnownOf, KnownNow}
use Rattle.iss_known.specs.Reading.{ask_known, is_of_call, known_after, known_from, live_among, makes_its_call, settled_known}
use Rattle.iss_known.proofs.Firsts.{mapped_or}
use Rattle.iss_known.proofs.OneEvent.{asks_same, counted, event_known}
use Rattle.iss_known.proofs.OneSetting.{settled_core, settled_too}

-- an event's token
abbrev pub token_of : Seen → List ℕ
token_of e = unwrap_or (event_token e.body.input) []

turned : (b : Bool) → not b ≡ true → b ≡ false
turned true h = cc
turned false h = refl

-- an event with a token that isn't this one
pub other_token : (token : List ℕ) (e : Seen) → is_event_record e ≡ true → has_event_token token e ≡ false → bytes_eq (token_of e) token ≡ false
other_token token e form h = by (event_token e.body.input) (and_parts (is_some (event_token e.body.input)) (is_record e.body) form).0 h
  where
    by : (o : Option (List ℕ)) → is_some o ≡ true → is_text token o ≡ false → bytes_eq (unwrap_or o []) token ≡ false
    by None is h = cc
    by (Some t) is h = h

-- no later event has an event's token
pub no_later : (e : Seen) (es : List Seen) → have_tokens_of_their_own (e ∷ es) ≡ true → list_any (has_event_token (token_of e)) es ≡ false
no_later e es own =
    turned (list_any (has_event_token (token_of e)) es) (and_parts (not (list_any (has_event_token (token_of e)) es)) (have_tokens_of_their_own es) own).0

-- what one event adds ----

-- the mark that an event's call has, if it makes one
abbrev pub mark_made : Facts → Option CallState → Option Ask → Option CallState
mark_made f None ask = None
mark_made f (Some mark) None = None
mark_made f (Some mark) (Some ask) = option_map (λ product. mark_of (how_of_mark mark)) (product_named ask.txn.product f.products)

-- a word of an event, if the token is its own
abbrev pub own_word : {A : Type 0} → List ℕ → Seen → Option A → Option A
own_word token e word = cond (bytes_eq (token_of e) token) word None

no_word : {A : Type 0} (b : Bool) → ◌≡◌ {A = Option A} None (cond b None None)
no_word true = refl
no_word false = refl

abbrev decision_as : Seen → Verdict → Decision
decision_as e v = record { event = unwrap_or (event_token e.body.input) []; verdict = v }

abbrev call_as : Facts → CallState → Ask → Product → CallNow
call_as f mark x product = record { opened = call_for f product x; how = how_of_mark mark }

decided_by : (token : List ℕ) (e : Seen) → option_map (λ (d : Decision). d.verdict) (find (λ d. bytes_eq d.event token) (decisions_of_event e)) ≡ own_word token e e.verdict
decided_by token e = by e.verdict (bytes_eq (token_of e) token) refl
  where
    by : (o : Option Verdict) (b : Bool) → bytes_eq (token_of e) token ≡ b
        → option_map (λ (d : Decision). d.verdict) (find (λ d. bytes_eq d.event token) (unwrap_or {T = List Decision} (option_map (λ (v : Verdict). decision_as e v ∷ []) o) []))
        ≡ cond (bytes_eq (token_of e) token) o None
    by None b is = no_word (bytes_eq (token_of e) token)
    by (Some v) b is =
        ap (λ (c : Bool). option_map (λ (d : Decision). d.verdict) (cond c (Some (decision_as e v)) None)) is
        ∙ one b
        ∙ ap (λ (c : Bool). cond c (Some v) None) (sym is)
      where
        one : (c : Bool) → option_map (λ (d : Decision). d.verdict) (cond c (Some (decision_as e v)) None) ≡ cond c (Some v) None
        one true = refl
        one false = refl

called_with : (f : Facts) (token : List ℕ) (e : Seen) (mark : Option CallState) (ask : Option Ask) → ((x : Ask) → ask ≡ Some x → x.event ≡ token_of e)
    → option_map (λ (x : CallNow). mark_of x.how) (find (λ x. bytes_eq x.opened.event token) (calls_marked f mark ask)) ≡ own_word token e (mark_made f mark ask)
called_with f token e None ask named = no_word (bytes_eq (token_of e) token)
called_with f token e (Some mark) None named = no_word (bytes_eq (token_of e) token)
called_with f token e (Some mark) (Some x) named = by (product_named x.txn.product f.products)
  where
    by : (o : Option Product)
        → option_map (λ (y : CallNow). mark_of y.how) (find (λ y. bytes_eq y.opened.event token) (unwrap_or {T = List CallNow} (option_map (λ (product : Product). call_as f mark x product ∷ []) o) []))
        ≡ cond (bytes_eq (token_of e) token) (option_map (λ product. mark_of (how_of_mark mark)) o) None
    by None = no_word (bytes_eq (token_of e) token)
    by (Some product) =
        one (bytes_eq x.event token)
        ∙ ap (λ (t : List ℕ). cond (bytes_eq t token) (Some (mark_of (how_of_mark mark))) None) (named x refl)
      where
        one : (c : Bool) → option_map (λ (y : CallNow). mark_of y.how) (cond c (Some (call_as f mark x product)) None) ≡ cond c (Some (mark_of (how_of_mark mark))) None
        one true = refl
        one false = refl

module _ (ts : List Carried) (c : CoreState) (e : Seen) where
  abbrev pub ask_again : Option Ask
  ask_again = ask_of_event (core_facts (settled_core c e)) e.body.at e.body.input

  pub verdict_after : (token : List ℕ) → verdict_in (with_seen ts c e).decisions token ≡ option_or (verdict_in c.decisions token) (own_word token e e.verdict)
  verdict_after token =
      ap (λ (ds : List Decision). verdict_in (ds ++ decisions_of_event e) token) (settled (is_done e.verdict))
      ∙ ap (option_map (λ (d : Decision). d.verdict)) (find-append (λ (d : Decision). bytes_eq d.event token) c.decisions (decisions_of_event e))
      ∙ mapped_or (λ (d : Decision). d.verdict) (find (λ d. bytes_eq d.event token) c.decisions) (find (λ d. bytes_eq d.event token) (decisions_of_event e))
      ∙ ap (option_or (verdict_in c.decisions token)) (decided_by token e)
    where
      settled : (b : Bool) → (cond b (after_setting (with_event c e) e.body.input) (with_event c e)).decisions ≡ c.decisions
      settled true = setting_decisions (with_event c e) e.body.input
      settled false = refl

  pub mark_after : (token : List ℕ) → mark_in (with_seen ts c e).calls token ≡ option_or (mark_in c.calls token) (own_word token e (mark_made (core_facts (settled_core c e)) e.mark ask_again))
  mark_after token =
      let f : Facts = core_facts (settled_core c e) in
      let more : List CallNow = calls_marked f e.mark ask_again in
      ap (λ (xs : List CallNow). mark_in (xs ++ more) token) (settled (is_done e.verdict))
      ∙ ap (option_map (λ (x : CallNow). mark_of x.how)) (find-append (λ (x : CallNow). bytes_eq x.opened.event token) c.calls more)
      ∙ mapped_or (λ (x : CallNow). mark_of x.how) (find (λ x. bytes_eq x.opened.event token) c.calls) (find (λ x. bytes_eq x.opened.event token) more)
      ∙ ap (option_or (mark_in c.calls token)) (called_with f token e e.mark ask_again (λ x is. ask_event f e.body.at e.body.input x is))
    where
      settled : (b : Bool) → (cond b (after_setting (with_event c e) e.body.input) (with_event c e)).calls ≡ c.calls
      settled true = setting_calls (with_event c e) e.body.input
      settled false = refl

-- all events ----

-- what is said of an event with this token stays
pub record StaysSaid (before after : CoreState) (token : List ℕ) : Type 0 where
  pub verdict : verdict_in after.decisions token ≡ verdict_in before.decisions token
  pub mark : mark_in after.calls token ≡ mark_in before.calls token

or_none : {A : Type 0} (o : Option A) → option_or o None ≡ o
or_none None = refl
or_none (Some x) = refl

pub one_stays : (ts : List Carried) (c : CoreState) (e : Seen) (token : List ℕ) → bytes_eq (token_of e) token ≡ false → StaysSaid c (with_seen ts c e) token
one_stays ts c e token other =
    let made = mark_made (core_facts (settled_core c e)) e.mark (ask_again ts c e) in
    record {
      verdict =
          verdict_after ts c e token
          ∙ ap (λ (b : Bool). option_or (verdict_in c.decisions token) (cond b e.verdict None)) other
          ∙ or_none (verdict_in c.decisions token);
      mark =
          mark_after ts c e token
          ∙ ap (λ (b : Bool). option_or (mark_in c.calls token) (cond b made None)) other
          ∙ or_none (mark_in c.calls token);
    }

pub all_stay : (ts : List Carried) (c : CoreState) (es : List Seen) (token : List ℕ) → list_all is_event_record es ≡ true → list_any (has_event_token token) es ≡ false → StaysSaid c (fold (with_seen ts) c es) token
all_stay ts c [] token forms none = record { verdict = refl; mark = refl }
all_stay ts c (e ∷ es) token forms none =
    let form = and_parts (is_event_record e) (list_all is_event_record es) forms in
    let apart = neither (has_event_token token e) (list_any (has_event_token token) es) none in
    let first = one_stays ts c e token (other_token token e form.0 apart.0) in
    let rest = all_stay ts (with_seen ts c e) es token form.1 apart.1 in
    record { verdict = rest.verdict ∙ first.verdict; mark = rest.mark ∙ first.mark }

-- nothing is said of an event yet
pub record IsFresh (c : CoreState) (e : Seen) : Type 0 where
  pub verdict : verdict_in c.decisions (token_of e) ≡ None
  pub mark : mark_in c.calls (token_of e) ≡ None

pub still_fresh : (ts : List Carried) (c : CoreState) (e : Seen) (es : List Seen) → list_all is_event_record es ≡ true → list_any (has_event_token (token_of e)) es ≡ false → Each (IsFresh c) es → Each (IsFresh (with_seen ts c e)) es
still_fresh ts c e [] forms none fresh = tt
still_fresh ts c e (x ∷ es) forms none fresh =
    let form = and_parts (is_event_record x) (list_all is_event_record es) forms in
    let apart = neither (has_event_token (token_of e) x) (list_any (has_event_token (token_of e)) es) none in
    let stays = one_stays ts c e (token_of x) (name-sym (token_of e) (token_of x) ∙ other_token (token_of e) x form.0 apart.0) in (
      record { verdict = stays.verdict ∙ fresh.0.verdict; mark = stays.mark ∙ fresh.0.mark },
      still_fresh ts c e es form.1 apart.1 fresh.1,
    )

-- the mark of an event that makes its call
mark_is : (k : KnownNow) (f : Facts) (mark : Option CallState) (ask : Option Ask) → ((name : List ℕ) → product_named name k.products ≡ product_named name f.products) → may_stand mark ≡ true → is_of_call k mark ask ≡ true
    → mark_made f mark ask ≡ mark
mark_is k f None ask same stands is = refl
mark_is k f (Some mark) None same stands is = cc
mark_is k f (Some mark) (Some ask) same stands is = by (product_named ask.txn.product f.products) (sym (ap is_some (same ask.txn.product)) ∙ is)
  where
    back : (m : CallState) → may_stand (Some m) ≡ true → mark_of (how_of_mark m) ≡ m
    back call_state.Asked h = refl
    back (call_state.Closed how) h = refl
    back call_state.Unknown h = cc

    by : (o : Option Product) → is_some o ≡ true → option_map (λ product. mark_of (how_of_mark mark)) o ≡ Some mark
    by None h = cc
    by (Some product) h = ap (λ (m : CallState). Some m) (back mark stands)

-- an event that doesn't make its call has a mark, and none is made
no_mark : (k : KnownNow) (f : Facts) (mark : Option CallState) (ask : Option Ask) → ((name : List ℕ) → product_named name k.products ≡ product_named name f.products) → is_of_call k mark ask ≡ false → mark_made f mark ask ≡ mark → ⊥
no_mark k f None ask same is made = cc
no_mark k f (Some mark) None same is made = cc
no_mark k f (Some mark) (Some ask) same is made = by (product_named ask.txn.product f.products) (sym (ap is_some (same ask.txn.product)) ∙ is) made
  where
    by : (o : Option Product) → is_some o ≡ false → option_map (λ product. mark_of (how_of_mark mark)) o ≡ Some mark → ⊥
    by None h m = cc
    by (Some product) h m = cc

module _ (ts : List Carried) where
  abbrev pub live : List ℕ → Option Bool
  live = live_among ts

  -- the mark of an event, after all
  module _ (k : KnownNow) (c : CoreState) (e : Seen) (es : List Seen) (h : IsKnownOf k c) (fresh : IsFresh c e) (own : have_tokens_of_their_own (e ∷ es) ≡ true) (forms : list_all is_event_record es ≡ true) where
    abbrev core : CoreState
    core = settled_core c e

    abbrev settled : KnownNow
    settled = settled_known k e.verdict e.body.input

    known : IsKnownOf settled core
    known = settled_too k c e h

    same_ask : ask_known settled e ≡ ask_again ts c e
    same_ask = asks_same settled core e.number (counted c e) known e.body.at e.body.input

    stays : StaysSaid (with_seen ts c e) (fold (with_seen ts) (with_seen ts c e) es) (token_of e)
    stays = all_stay ts (with_seen ts c e) es (token_of e) forms (no_later e es own)

    last_verdict : verdict_in (fold (with_seen ts) (with_seen ts c e) es).decisions (token_of e) ≡ e.verdict
    last_verdict =
        stays.verdict ∙ verdict_after ts c e (token_of e)
        ∙ ap₂ (λ (o : Option Verdict) (b : Bool). option_or o (cond b e.verdict None)) fresh.verdict (its_name (token_of e))

    last_mark : mark_in (fold (with_seen ts) (with_seen ts c e) es).calls (token_of e) ≡ mark_made (core_facts core) e.mark (ask_known settled e)
    last_mark =
        stays.mark ∙ mark_after ts c e (token_of e)
        ∙ ap₂ (λ (o : Option CallState) (b : Bool). option_or o (cond b (mark_made (core_facts core) e.mark (ask_again ts c e)) None)) fresh.mark (its_name (token_of e))
        ∙ ap (mark_made (core_facts core) e.mark) (sym same_ask)

    seen_same : may_stand e.mark ≡ true → makes_its_call k e ≡ true → seen_in (fold (with_seen ts) (with_seen ts c e) es) (accepted_of_seen e) ≡ e
    seen_same stands makes = λ i. record {
      number = e.number;
      body = e.body;
      verdict = last_verdict i;
      mark = (last_mark ∙ mark_is settled (core_facts core) e.mark (ask_known settled e) known.products stands makes) i;
    }

    never_same : makes_its_call k e ≡ false → seen_in (fold (with_seen ts) (with_seen ts c e) es) (accepted_of_seen e) ≡ e → ⊥
    never_same makes same =
        no_mark settled (core_facts core) e.mark (ask_known settled e) known.products makes (sym last_mark ∙ ap (λ (x : Seen). x.mark) same)

  -- the last ones of a list
  abbrev tail_of : List Seen → List Seen
  tail_of [] = []
  tail_of (e ∷ es) = es

  abbrev head_of : Seen → List Seen → Seen
  head_of d [] = d
  head_of d (e ∷ es) = e

  -- what is known at the end is known of the core, and the events are shown again
  pub shown_from : (k : KnownNow) (c : CoreState) (es : List Seen) → IsKnownOf k c → Each (IsFresh c) es → have_tokens_of_their_own es ≡ true → list_all is_event_record es ≡ true → list_all is_marked_well es ≡ true
      → (last : KnownNow) → known_from live k es ≡ Some last
      → IsKnownOf last (fold (with_seen ts) c es) × (map (seen_in (fold (with_seen ts) c es)) (map accepted_of_seen es) ≡ es)
  shown_from k c [] h fresh own forms marked last is = (subst (λ (x : KnownNow). IsKnownOf x c) (ap (λ (o : Option KnownNow). unwrap_or o k) is) h, refl)
  shown_from k c (e ∷ es) h fresh own forms marked last is =
      let form = and_parts (is_event_record e) (list_all is_event_record es) forms in
      let mark = and_parts (is_marked_well e) (list_all is_marked_well es) marked in
      let apart = and_parts (not (list_any (has_event_token (token_of e)) es)) (have_tokens_of_their_own es) own in
      by (makes_its_call k e) is (λ makes. seen_same k c e es h fresh.0 own form.1 mark.0 makes)
      (λ more. shown_from (known_after live k e) (with_seen ts c e) es (event_known ts k c e h) (still_fresh ts c e es form.1 (no_later e es own) fresh.1) apart.1 form.1 mark.1 last more)
      refl
    where
      by : (b : Bool) → cond b (known_from live (known_after live k e) es) None ≡ Some last
          → (makes_its_call k e ≡ true → seen_in (fold (with_seen ts) (with_seen ts c e) es) (accepted_of_seen e) ≡ e)
          → (known_from live (known_after live k e) es ≡ Some last
          → IsKnownOf last (fold (with_seen ts) (with_seen ts c e) es) × (map (seen_in (fold (with_seen ts) (with_seen ts c e) es)) (map accepted_of_seen es) ≡ es))
          → makes_its_call k e ≡ b
          → IsKnownOf last (fold (with_seen ts) (with_seen ts c e) es)
          × (map (seen_in (fold (with_seen ts) (with_seen ts c e) es)) (map accepted_of_seen (e ∷ es)) ≡ e ∷ es)
      by false is first later makes = cc
      by true is first later makes = let rest = later is in (rest.0, λ i. first makes i ∷ rest.1 i)

  -- if a mark isn't that of a call, the events aren't shown again
  pub not_shown : (k : KnownNow) (c : CoreState) (es : List Seen) → IsKnownOf k c → Each (IsFresh c) es → have_tokens_of_their_own es ≡ true → list_all is_event_record es ≡ true → known_from live k es ≡ None
      → map (seen_in (fold (with_seen ts) c es)) (map accepted_of_seen es) ≡ es → ⊥
  not_shown k c [] h fresh own forms is same = cc
  not_shown k c (e ∷ es) h fresh own forms is same =
      let form = and_parts (is_event_record e) (list_all is_event_record es) forms in
      let apart = and_parts (not (list_any (has_event_token (token_of e)) es)) (have_tokens_of_their_own es) own in
      by (makes_its_call k e) is
      (λ makes. never_same k c e es h fresh.0 own form.1 makes (ap (head_of (seen_in (fold (with_seen ts) (with_seen ts c e) es) (accepted_of_seen e))) same))
      (λ more. not_shown (known_after live k e) (with_seen ts c e) es (event_known ts k c e h) (still_fresh ts c e es form.1 (no_later e es own) fresh.1) apart.1 form.1 more (ap tail_of same))
      refl
    where
      by : (b : Bool) → cond b (known_from live (known_after live k e) es) None ≡ None → (makes_its_call k e ≡ false → ⊥) → (known_from live (known_after live k e) es ≡ None → ⊥) → makes_its_call k e ≡ b → ⊥
      by false is first later makes = first makes
      by true is first later makes = later is
