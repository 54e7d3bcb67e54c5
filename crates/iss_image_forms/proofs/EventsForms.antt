-- The events of a state are in image form: each verdict and each mark is one that its event's spelling can say.
use Rattle.std.proofs.Common.{◌≡◌, ◌∙◌, ◌∷◌, ◌&&◌, ◌==◌, ◌≤◌, ℕ, ap, arith, Bool, cond, false, length, List, [], nat_le, nat_lt, not, refl, sym, true}
use Rattle.std.specs.Prelude.{Option, Some, None, is_some}
use Rattle.std.specs.List.{list_all}
use Rattle.std.proofs.lemmas.Bool.{and_parts}
use Rattle.iss_model.specs.declared.call.CallState.{CallState}
use Rattle.iss_model.specs.declared.call.CallState.TheVariants as call_state
use Rattle.iss_model.specs.declared.call.Failure.TheVariants as failure
use Rattle.iss_model.specs.declared.call.How.TheVariants as how
use Rattle.iss_model.specs.declared.currency.Currency.{Currency}
use Rattle.iss_model.specs.declared.decision.Reason.{Reason}
use Rattle.iss_model.specs.declared.decision.Reason.TheVariants as reason
use Rattle.iss_model.specs.declared.decision.Verdict.{Verdict}
use Rattle.iss_model.specs.declared.decision.Verdict.TheVariants as verdict
use Rattle.iss_model.specs.declared.input.Input.{Input}
use Rattle.iss_model.specs.declared.input.Input.TheVariants as input
use Rattle.iss_model.specs.declared.limits.TheConstants.{MOST_RECORDS}
use Rattle.iss_model.specs.declared.setting.Card.{Card}
use Rattle.iss_model.specs.declared.setting.CardState.{CardState}
use Rattle.iss_model.specs.declared.setting.Moved.{Moved}
use Rattle.iss_model.specs.declared.setting.Moved.TheVariants as moved
use Rattle.iss_model.specs.declared.setting.User.{User}
use Rattle.iss_model.specs.declared.setting.UserState.{UserState}
use Rattle.iss_model.specs.declared.state.Seen.{Seen}
use Rattle.iss_model.specs.declared.state.State.{State}
use Rattle.iss_model.specs.Currencies.{iso_number, same_currency}
use Rattle.iss_model.specs.Forms.{is_in_form, is_stamp}
use Rattle.iss_model.specs.Tokens.{is_token}
use Rattle.iss_model.specs.rules.Controls.{control_named, set_named}
use Rattle.iss_model.specs.rules.Facts.{Facts}
use Rattle.iss_model.specs.rules.Reasons.{card_move_reason, move_reason, user_move_reason}
use Rattle.iss_model.specs.rules.Settings.{card_may_move, card_named, user_may_move, user_named}
use Rattle.iss_model.specs.state.Cores.{CoreState, core_facts, no_core}
use Rattle.iss_model.specs.texts.Spelling.{has_fields, tokens_of}
use Rattle.iss_state.proofs.docket.Lists.{both_so, never}
use Rattle.iss_state.proofs.effects.Finds.{number-sym, number_is}
use Rattle.iss_states.specs.Order.{AreInOrder, do_numbers_rise, is_event_record}
use Rattle.iss_states.specs.Rebuilding.{rebuilt}
use Rattle.iss_states.specs.Settled.{IsJudged, reason_before, verdict_by}
use Rattle.iss_well_formed.specs.Events.{AreJudged, AreMarkedWell, is_marked_well, may_stand, with_seen_setting}
use Rattle.iss_decided.specs.Verdicts.{HaveSoundVerdicts, do_parts_agree, goes_with_part, permits_this_part}
use Rattle.iss_least.proofs.EventWeights.{form_of_event, part_most, stamp_of_event}
use Rattle.iss_reasoned.specs.Reasons.{HaveReasons, declines_well, may_have_reason}
use Rattle.iss_codec.specs.Places.{is_listed}
use Rattle.iss_image_lists.specs.Forms.{has_room, is_list}
use Rattle.iss_image.specs.Forms.{is_currency, is_mark, is_reason, is_seen, is_verdict}
use Rattle.iss_image.specs.Images.{tokens_first}
use Rattle.iss_image.specs.States.{are_events}
use Rattle.iss_image.specs.TakingEvents.{currency_of_event}
use Rattle.iss_image.proofs.TokensFirst.{all_among, have_all}
use Rattle.iss_image_forms.proofs.EventsTokens.{events_few, room_of_amount, room_of_number, tokens_are_list, up_to}
use Rattle.iss_image_forms.proofs.ListedKnown.{known_control_listed, known_set_listed}

-- refused moves ----

-- the reason of a verdict by which an event is declined
abbrev why_of : Option Verdict → Option Reason
why_of (Some (verdict.Declined why)) = Some why
why_of _ = None

-- a reason refuses a card's move
abbrev refuses_card : Option Reason → Bool
refuses_card (Some (reason.MoveCard from to)) = true
refuses_card _ = false

-- a reason refuses a user's move
abbrev refuses_user : Option Reason → Bool
refuses_user (Some (reason.MoveUser from to)) = true
refuses_user _ = false

-- a user's move is refused as no card's
no_card_refused : (o : Option User) (to : UserState) → refuses_card (why_of (Some (verdict_by (user_move_reason o to)))) ≡ false
no_card_refused None to = refl
no_card_refused (Some u) to = by (not (user_may_move u.state to))
  where
    by : (b : Bool) → refuses_card (why_of (Some (verdict_by (cond b (Some (reason.MoveUser u.state to)) None)))) ≡ false
    by true = refl
    by false = refl

-- a card's move is refused as no user's
no_user_refused : (o : Option Card) (to : CardState) → refuses_user (why_of (Some (verdict_by (card_move_reason o to)))) ≡ false
no_user_refused None to = refl
no_user_refused (Some x) to = by (not (card_may_move x.state to))
  where
    by : (b : Bool) → refuses_user (why_of (Some (verdict_by (cond b (Some (reason.MoveCard x.state to)) None)))) ≡ false
    by true = refl
    by false = refl

-- What is known passes the test of names.
module _ (form : List ℕ → Bool) (f : Facts) (control_fits : (name : List ℕ) → is_some (control_named name f.controls) ≡ true → form name ≡ true) (set_fits : (name : List ℕ) → is_some (set_named name f.sets) ≡ true → form name ≡ true) where
  -- verdicts ----

  moves_fit : (g : Facts) (token : List ℕ) (who : Moved) (why : Reason) → may_have_reason f (input.Move token who) why ≡ true
      → Some (verdict.Declined why) ≡ Some (verdict_by (move_reason g who)) → is_reason form (input.Move token who) why ≡ true
  moves_fit g token (moved.Card card to) (reason.MoveUser from was) may judged =
      never (sym (ap (λ (v : Option Verdict). refuses_user (why_of v)) judged ∙ no_user_refused (card_named card g.cards) to))
  moves_fit g token (moved.User user to) (reason.MoveCard from was) may judged =
      never (sym (ap (λ (v : Option Verdict). refuses_card (why_of v)) judged ∙ no_card_refused (user_named user g.users) to))
  moves_fit g token (moved.Card card to) (reason.MoveCard from was) may judged = refl
  moves_fit g token (moved.User user to) (reason.MoveUser from was) may judged = refl
  moves_fit g token who (reason.Control name) may judged = control_fits name may
  moves_fit g token who (reason.StandInLimit name) may judged = set_fits name may
  moves_fit g token who _ may judged = refl

  others_fit : (i : Input) (why : Reason) → may_have_reason f i why ≡ true → ((from to : CardState) → may_have_reason f i (reason.MoveCard from to) ≡ false)
      → ((from to : UserState) → may_have_reason f i (reason.MoveUser from to) ≡ false) → is_reason form i why ≡ true
  others_fit i (reason.MoveCard from to) may cards users = never (sym (cards from to) ∙ may)
  others_fit i (reason.MoveUser from to) may cards users = never (sym (users from to) ∙ may)
  others_fit i (reason.Control name) may cards users = control_fits name may
  others_fit i (reason.StandInLimit name) may cards users = set_fits name may
  others_fit i _ may cards users = refl

  reason_fits : (g : Facts) (i : Input) (why : Reason) → may_have_reason f i why ≡ true → IsJudged (reason_before g i) (Some (verdict.Declined why)) → is_reason form i why ≡ true
  reason_fits g (input.Move token who) why may judged = moves_fit g token who why may judged
  reason_fits g i why may judged = others_fit i why may (λ from to. refl) (λ from to. refl)

  part_currency : (i : Input) (currency : Currency) (part : ℕ) → permits_this_part i currency part ≡ true → is_currency currency (currency_of_event i) ≡ true
  part_currency (input.Authorization token card own amount mcc mid partial) currency part h =
      number-sym (iso_number own) (iso_number currency)
      ∙ (and_parts partial (same_currency currency own) (and_parts (partial && same_currency currency own) (nat_lt part amount) h).0).1
  part_currency _ currency part h = never h

  -- a part goes with a mark of the same part, on an event that permits it
  part_permitted : (i : Input) (currency : Currency) (amount : ℕ) (m : Option CallState) → goes_with_part i (Some (verdict.Partial currency amount)) m ≡ true → permits_this_part i currency amount ≡ true
  part_permitted i currency amount (Some (call_state.Closed (how.Partial part))) h = (and_parts (amount == part) (permits_this_part i currency amount) h).1
  part_permitted i currency amount (Some (call_state.Closed how.Funded)) h = never h
  part_permitted i currency amount (Some (call_state.Closed how.Refused)) h = never h
  part_permitted i currency amount (Some (call_state.Closed (how.Failed why))) h = never h
  part_permitted i currency amount (Some (call_state.Closed how.Abandoned)) h = never h
  part_permitted i currency amount (Some call_state.Asked) h = never h
  part_permitted i currency amount (Some call_state.Unknown) h = never h
  part_permitted i currency amount None h = never h

  verdict_fits : (g : Facts) (i : Input) (v : Option Verdict) (m : Option CallState) → is_in_form i ≡ true → declines_well f i v ≡ true → IsJudged (reason_before g i) v → goes_with_part i v m ≡ true
      → is_verdict form i v ≡ true
  verdict_fits g i None m own well judged parts = refl
  verdict_fits g i (Some verdict.Done) m own well judged parts = refl
  verdict_fits g i (Some verdict.Approved) m own well judged parts = refl
  verdict_fits g i (Some (verdict.Declined why)) m own well judged parts = reason_fits g i why well judged
  verdict_fits g i (Some (verdict.Partial currency amount)) m own well judged parts =
      both_so (is_currency currency (currency_of_event i)) (has_room 8 amount)
      (part_currency i currency amount (part_permitted i currency amount m parts))
      (room_of_amount amount (part_most i currency amount m own parts))

  -- marks ----

  part_told : (i : Input) (v : Option Verdict) (part : ℕ) → is_in_form i ≡ true → goes_with_part i v (Some (call_state.Closed (how.Partial part))) ≡ true → has_room 8 part ≡ true
  part_told i (Some (verdict.Partial currency amount)) part own h =
      ap (λ (n : ℕ). has_room 8 n) (sym (number_is amount part (and_parts (amount == part) (permits_this_part i currency amount) h).0))
      ∙ room_of_amount amount (part_most i currency amount (Some (call_state.Closed (how.Partial part))) own h)
  part_told i (Some verdict.Done) part own h = never h
  part_told i (Some verdict.Approved) part own h = never h
  part_told i (Some (verdict.Declined why)) part own h = never h
  part_told i None part own h = never h

  mark_fits : (i : Input) (v : Option Verdict) (m : Option CallState) → is_in_form i ≡ true → may_stand m ≡ true → goes_with_part i v m ≡ true → is_mark m ≡ true
  mark_fits i v None own stands parts = refl
  mark_fits i v (Some call_state.Asked) own stands parts = refl
  mark_fits i v (Some call_state.Unknown) own stands parts = never stands
  mark_fits i v (Some (call_state.Closed how.Funded)) own stands parts = refl
  mark_fits i v (Some (call_state.Closed how.Refused)) own stands parts = refl
  mark_fits i v (Some (call_state.Closed (how.Failed failure.Connection))) own stands parts = refl
  mark_fits i v (Some (call_state.Closed (how.Failed failure.Timeout))) own stands parts = refl
  mark_fits i v (Some (call_state.Closed (how.Failed failure.Application))) own stands parts = refl
  mark_fits i v (Some (call_state.Closed (how.Failed failure.Switch))) own stands parts = never stands
  mark_fits i v (Some (call_state.Closed how.Abandoned)) own stands parts = refl
  mark_fits i v (Some (call_state.Closed (how.Partial part))) own stands parts = part_told i v part own parts

  -- events ----

  seen_fits : (g : Facts) (records : ℕ) (e : Seen) → records ≤ MOST_RECORDS → nat_le e.number records ≡ true → is_event_record e ≡ true → have_all form e ≡ true
      → declines_well f e.body.input e.verdict ≡ true → IsJudged (reason_before g e.body.input) e.verdict → do_parts_agree e ≡ true → is_marked_well e ≡ true → is_seen form e ≡ true
  seen_fits g records e few number its names well judged parts marked =
      let i : Input = e.body.input in
      let own : is_in_form i ≡ true = form_of_event e its in
      let fields : has_fields form i ≡ true = both_so (is_in_form i) (list_all form (tokens_of i)) own names in
      let body : (is_stamp e.body.at && has_fields form i) ≡ true = both_so (is_stamp e.body.at) (has_fields form i) (stamp_of_event e its) fields in
      let room : has_room 4 e.number ≡ true = room_of_number e.number records (up_to e.number records number) few in
      both_so (has_room 4 e.number && (is_stamp e.body.at && has_fields form i) && is_verdict form i e.verdict) (is_mark e.mark)
      (both_so (has_room 4 e.number && (is_stamp e.body.at && has_fields form i)) (is_verdict form i e.verdict)
      (both_so (has_room 4 e.number) (is_stamp e.body.at && has_fields form i) room body)
      (verdict_fits g i e.verdict e.mark own well judged parts))
      (mark_fits i e.verdict e.mark own marked parts)

  -- What is known of each of these events, from a core on.
  pub record AreFit (c : CoreState) (last records : ℕ) (es : List Seen) : Type 0 where
    pub numbers : do_numbers_rise last records es ≡ true
    pub records_fit : list_all is_event_record es ≡ true
    pub names : list_all (have_all form) es ≡ true
    pub reasons : list_all (λ e. declines_well f e.body.input e.verdict) es ≡ true
    pub judged : AreJudged c es
    pub parts : list_all do_parts_agree es ≡ true
    pub marked : list_all is_marked_well es ≡ true

  all_fit : (c : CoreState) (last records : ℕ) (es : List Seen) → records ≤ MOST_RECORDS → AreFit c last records es → list_all (is_seen form) es ≡ true
  all_fit c last records [] few h = refl
  all_fit c last records (e ∷ es) few h =
      let rise = and_parts (nat_lt last e.number && nat_le e.number records) (do_numbers_rise e.number records es) h.numbers in
      let number = and_parts (nat_lt last e.number) (nat_le e.number records) rise.0 in
      let its = and_parts (is_event_record e) (list_all is_event_record es) h.records_fit in
      let names = and_parts (have_all form e) (list_all (have_all form) es) h.names in
      let reasons = and_parts (declines_well f e.body.input e.verdict) (list_all (λ x. declines_well f x.body.input x.verdict) es) h.reasons in
      let parts = and_parts (do_parts_agree e) (list_all do_parts_agree es) h.parts in
      let marked = and_parts (is_marked_well e) (list_all is_marked_well es) h.marked in
      both_so (is_seen form e) (list_all (is_seen form) es)
      (seen_fits (core_facts c) records e few number.1 its.0 names.0 reasons.0 h.judged.0 parts.0 marked.0)
      (all_fit (with_seen_setting c e) e.number records es few (record {
        numbers = rise.1;
        records_fit = its.1;
        names = names.1;
        reasons = reasons.1;
        judged = h.judged.1;
        parts = parts.1;
        marked = marked.1;
      }))

-- the events of a state are few, and each is in form
pub events_are_list : (s : State) → AreInOrder s → AreJudged no_core s.events → AreMarkedWell s → HaveSoundVerdicts s → HaveReasons s → are_events (tokens_first s.events) s.events ≡ true
events_are_list s order judged marked sound reasons =
    let form : List ℕ → Bool = is_listed (tokens_first s.events) in
    both_so (has_room 4 (length s.events)) (list_all (is_seen form) s.events)
    (room_of_number (length s.events) MOST_RECORDS (events_few s order) (itself MOST_RECORDS))
    (all_fit form (core_facts (rebuilt s)) (known_control_listed s) (known_set_listed s) no_core 0 s.records s.events (up_to s.records MOST_RECORDS order.few) (record {
      numbers = order.numbers;
      records_fit = order.records;
      names = all_among s.events;
      reasons = reasons;
      judged = judged;
      parts = sound.parts;
      marked = marked;
    }))
  where
    itself : (n : ℕ) → n ≤ n
    itself n = omega arith

-- The tokens of a state's events and the events themselves are in image form.
pub events_in_form : (s : State) → AreInOrder s → AreJudged no_core s.events → AreMarkedWell s → HaveSoundVerdicts s → HaveReasons s
    → (is_list is_token (tokens_first s.events) ≡ true) × (are_events (tokens_first s.events) s.events ≡ true)
events_in_form s order judged marked sound reasons = (tokens_are_list s order, events_are_list s order judged marked sound reasons)
