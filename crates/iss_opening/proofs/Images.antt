-- What an image that was loaded makes: a core of a sound state, which stands for the history whose image it is.
use Rattle.std.proofs.Common.{◌≡◌, ◌≤◌, ℕ, Bool, true, ◌&&◌, nat_le, List, [], ◌∷◌, length, refl, sym, ap, ap₂, subst, ◌∙◌, arith, Option}
use Rattle.std.specs.List.{list_all}
use Rattle.std.proofs.lemmas.Bool.{and_parts}
use Rattle.std.proofs.lemmas.Bool.Decides.{nat_tests}
use Rattle.std.proofs.lemmas.List.Concat.{flat_map-cons}
use Rattle.std.proofs.lemmas.List.Folds.{list_all-append}
use Rattle.std.proofs.lemmas.Option.{same_Some}
use Rattle.iss_model.specs.declared.counted.Counter.{Counter}
use Rattle.iss_model.specs.declared.counted.Span.{Span}
use Rattle.iss_model.specs.declared.counted.Span.TheVariants as span
use Rattle.iss_model.specs.declared.input.Record.{Record}
use Rattle.iss_model.specs.declared.limits.TheConstants.{MOST_RECORDS}
use Rattle.iss_model.specs.declared.setting.Window.{Window}
use Rattle.iss_model.specs.declared.state.State.{State}
use Rattle.iss_model.specs.Tokens.{is_token}
use Rattle.iss_model.specs.rules.Histories.{history_of}
use Rattle.iss_states.specs.OverBook.{state_of}
use Rattle.iss_states.specs.Rebuilding.{rebuilt}
use Rattle.iss_states.specs.Showing.{no_state, shown}
use Rattle.iss_states.proofs.Nothing.{nothing_shown}
use Rattle.iss_states.proofs.StateOfBook.{state_shown}
use Rattle.iss_sound.proofs.SoundSteps.{records_sound}
use Rattle.iss_image_lists.specs.Forms.{are_balances, are_counters, are_notices, are_sums_of_stand_ins, are_txns, fits_window, has_room, is_counter, is_list, is_run, is_span, is_used}
use Rattle.iss_image_lists.specs.Runs.{Run, counters_of, runs_of}
use Rattle.iss_image_lists.proofs.CutRuns.{counters_of_runs}
use Rattle.iss_codec.specs.Places.{is_listed}
use Rattle.iss_image.specs.Images.{tokens_first}
use Rattle.iss_image.specs.Lookups.{holder_in, window_in}
use Rattle.iss_image.specs.States.{are_events, are_lists, image_of_state, is_in_image_form, lists_of, state_spelled}
use Rattle.iss_image.proofs.StateFields.{spelled_again}
use Rattle.iss_image_forms.specs.Spans.{are_spans_of_64_bits, is_span_of_64_bits}
use Rattle.iss_image_forms.proofs.HistoryForms.{history_in_form}
use Rattle.iss_image_forms.proofs.SpansHistories.{spans_of_history}
use Rattle.iss_core.specs.Values.{CoreNow, CoreStandsFor}
use Rattle.iss_core.proofs.CoreAgain.{stands_again}
use Rattle.iss_snapshot.specs.Loaded.{IsLoaded, IsOfNoState}
use Rattle.iss_standing.specs.Standing.{AreHistory, image_after}
use Rattle.iss_opening.specs.Numbers.{IsNumbered}
use Rattle.iss_opening.proofs.Numbered.{rebuilt_numbered}

-- ---- one image, one state

same_state : (s t : State) → is_in_image_form s ≡ true → is_in_image_form t ≡ true → image_of_state s ≡ image_of_state t → s ≡ t
same_state s t form_s form_t e =
    same_Some s t (sym (spelled_again s form_s) ∙ ap state_spelled e ∙ spelled_again t form_t)

-- a core that is loaded from the image of a history's records stands for them
pub loaded_stands : (bytes : List ℕ) (own : ℕ) (c : CoreNow) (rs : List Record) → AreHistory rs → length rs ≤ MOST_RECORDS → bytes ≡ image_after rs → IsLoaded bytes own c → CoreStandsFor c rs
loaded_stands bytes own c rs history few its loaded =
    let t = state_of (history_of rs) in
    let form = history_in_form rs history.legal history.spelled few in
    let same : shown c.state ≡ t = same_state (shown c.state) t loaded.image.0 form (sym loaded.image.1 ∙ its) in
    stands_again t c.state rs history.legal history.spelled refl (loaded.again ∙ ap rebuilt same)

-- one image makes one core
pub loaded_once : (bytes : List ℕ) (own : ℕ) (c d : CoreNow) → IsLoaded bytes own c → IsLoaded bytes own d → c ≡ d
loaded_once bytes own c d first second =
    let same = same_state (shown c.state) (shown d.state) first.image.0 second.image.0 (sym first.image.1 ∙ second.image.1) in
    let state = first.again ∙ ap rebuilt same ∙ sym second.again in
    let instance = first.instance ∙ sym second.instance in
    λ i. record { instance = instance i; state = state i }

-- the image of a history's records is that of a sound state
pub image_is_of_state : (bytes : List ℕ) (rs : List Record) → AreHistory rs → length rs ≤ MOST_RECORDS → bytes ≡ image_after rs → IsOfNoState bytes → ⊥
image_is_of_state bytes rs history few its none =
    none (state_of (history_of rs)) (records_sound rs history.legal history.spelled few) (spans_of_history rs history.legal history.spelled) its

no_state_image : image_of_state no_state ≡ []
unfolding image_of_state
no_state_image = refl

-- no records have an image of no bytes
pub image_of_none : image_after [] ≡ []
image_of_none = ap image_of_state (sym (state_shown []) ∙ nothing_shown) ∙ no_state_image

-- ---- what holds of a core that was loaded

few_so : (n : ℕ) → nat_le n MOST_RECORDS ≡ true → n ≤ MOST_RECORDS
few_so n few = grind (arith, nat_tests)

pub loaded_few : (bytes : List ℕ) (own : ℕ) (c : CoreNow) → IsLoaded bytes own c → c.state.count ≤ MOST_RECORDS
loaded_few bytes own c loaded = few_so c.state.count loaded.sound.formed.order.few

pub loaded_numbered : (bytes : List ℕ) (own : ℕ) (c : CoreNow) → IsLoaded bytes own c → IsNumbered c.state
loaded_numbered bytes own c loaded = subst IsNumbered (sym loaded.again) (rebuilt_numbered (shown c.state) loaded.sound.formed.told)

-- ---- spans of a state in image form have 64 bits

module _ (is_name : List ℕ → Bool) (window_of : List ℕ → Option Window) where
  span_fits : (s : Span) → is_span is_name s ≡ true → is_span_of_64_bits s ≡ true
  span_fits (span.Number n) h = h
  span_fits (span.Txn token) h = refl

  counter_fits : (k : Counter) → is_counter is_name window_of k ≡ true → is_span_of_64_bits k.span ≡ true
  counter_fits k h =
      let a = and_parts (is_name k.user && is_span is_name k.span && is_used k.used) (fits_window (window_of k.control) k.span) h in
      let b = and_parts (is_name k.user && is_span is_name k.span) (is_used k.used) a.0 in
      let c = and_parts (is_name k.user) (is_span is_name k.span) b.0 in
      span_fits k.span c.1

  counters_fit : (ks : List Counter) → list_all (is_counter is_name window_of) ks ≡ true → are_spans_of_64_bits ks ≡ true
  counters_fit [] h = refl
  counters_fit (k ∷ ks) h =
      let both = and_parts (is_counter is_name window_of k) (list_all (is_counter is_name window_of) ks) h in
      ap₂ (λ (a b : Bool). a && b) (counter_fits k both.0) (counters_fit ks both.1)

  runs_fit : (runs : List Run) → list_all (is_run is_name window_of) runs ≡ true → are_spans_of_64_bits (counters_of runs) ≡ true
  runs_fit [] h = refl
  runs_fit (run ∷ runs) h =
      let both = and_parts (is_run is_name window_of run) (list_all (is_run is_name window_of) runs) h in
      let own = and_parts (is_name run.control) (is_list (is_counter is_name window_of) run.counters) both.0 in
      let its = and_parts (has_room 4 (length run.counters)) (list_all (is_counter is_name window_of) run.counters) own.1 in
      ap are_spans_of_64_bits (flat_map-cons (λ (r : Run). r.counters) run runs)
      ∙ list_all-append (λ (k : Counter). is_span_of_64_bits k.span) run.counters (counters_of runs)
      ∙ ap₂ (λ (a b : Bool). a && b) (counters_fit run.counters its.1) (runs_fit runs both.1)

  spans_fit : (ks : List Counter) → is_list (is_run is_name window_of) (runs_of ks) ≡ true → are_spans_of_64_bits ks ≡ true
  spans_fit ks h =
      let all = and_parts (has_room 4 (length (runs_of ks))) (list_all (is_run is_name window_of) (runs_of ks)) h in
      ap are_spans_of_64_bits (sym (counters_of_runs ks)) ∙ runs_fit (runs_of ks) all.1

last_of : (a b : Bool) → (a && b) ≡ true → b ≡ true
last_of a b h = (and_parts a b h).1

first_of : (a b : Bool) → (a && b) ≡ true → a ≡ true
first_of a b h = (and_parts a b h).0

pub spans_in_form : (s : State) → is_in_image_form s ≡ true → are_spans_of_64_bits s.counters ≡ true
spans_in_form s form =
    let tokens = tokens_first s.events in
    let lists = last_of (has_room 4 s.records && has_room 8 s.now && is_list is_token tokens && are_events tokens s.events) (are_lists (is_listed tokens) s.events (lists_of s)) form in
    let a = first_of (are_txns (is_listed tokens) s.txns && are_balances (is_listed tokens) s.balances && are_counters (is_listed tokens) (window_in s.events) s.counters && are_sums_of_stand_ins (is_listed tokens) s.sums && has_room 4 s.made) (are_notices (is_listed tokens) (holder_in s.events) s.notices) lists in
    let b = first_of (are_txns (is_listed tokens) s.txns && are_balances (is_listed tokens) s.balances && are_counters (is_listed tokens) (window_in s.events) s.counters && are_sums_of_stand_ins (is_listed tokens) s.sums) (has_room 4 s.made) a in
    let c = first_of (are_txns (is_listed tokens) s.txns && are_balances (is_listed tokens) s.balances && are_counters (is_listed tokens) (window_in s.events) s.counters) (are_sums_of_stand_ins (is_listed tokens) s.sums) b in
    let d = last_of (are_txns (is_listed tokens) s.txns && are_balances (is_listed tokens) s.balances) (are_counters (is_listed tokens) (window_in s.events) s.counters) c in
    spans_fit (is_listed tokens) (window_in s.events) s.counters d

-- so the image of a core that was loaded isn't that of no state
pub loaded_of_state : (bytes : List ℕ) (own : ℕ) (c : CoreNow) → IsLoaded bytes own c → IsOfNoState bytes → ⊥
loaded_of_state bytes own c loaded none =
    none (shown c.state) loaded.sound (spans_in_form (shown c.state) loaded.image.0) loaded.image.1
