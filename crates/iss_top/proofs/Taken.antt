-- An input is taken: what judging comes to on a store is what a run on its records makes of it.
use Rattle.std.proofs.Common.{◌≡◌, ℕ, Bool, true, false, cond, ◌||◌, max, List, [], ◌∷◌, ◌++◌, length, map, Option, Some, None, Ok, Err, refl, sym, ap, subst, ◌∙◌, append-nil}
use Rattle.std.specs.Prelude.{nat_lt, Result, unwrap_or}
use Rattle.std.proofs.lemmas.List.{map-append}
use Rattle.std.proofs.lemmas.List.Sums.{fold-append}
use Rattle.iss_edge.specs.World.{World, Told}
use Rattle.iss_edge.proofs.Tolds.{told_map, told_then, told_self}
use Rattle.iss_model.specs.declared.limits.TheConstants.{MOST_RECORDS}
use Rattle.iss_model.specs.declared.decision.Answer.{Answer}
use Rattle.iss_model.specs.declared.decision.Answer.TheVariants.{Spent}
use Rattle.iss_model.specs.declared.decision.Judged.{Judged}
use Rattle.iss_model.specs.declared.decision.Judged.TheVariants as judged
use Rattle.iss_model.specs.declared.input.Input.{Input}
use Rattle.iss_model.specs.declared.input.Input.TheVariants as input
use Rattle.iss_model.specs.declared.input.Record.{Record}
use Rattle.iss_model.specs.texts.AnswerLines.{answer_text}
use Rattle.iss_model.specs.rules.Due.{due_items, is_quiet}
use Rattle.iss_model.specs.rules.Keeper.{Keeper}
use Rattle.iss_model.specs.rules.Stepping.{step, after_due}
use Rattle.iss_model.specs.rules.Judging.{refusal, is_ack, judgement_as, judge}
use Rattle.iss_model.specs.rules.Histories.{History, nothing_yet, history_keeper, history_of}
use Rattle.iss_model.specs.state.Cores.{core_keeper}
use Rattle.iss_model.specs.run.Sayings.{Said, reaction_to_record, reaction_as, said_of_time, answer_left}
use Rattle.iss_model.specs.run.Rooms.{Room, fits, unless_spent, where_it_fits, judgement_within, room_left}
use Rattle.iss_model.specs.run.Runs.{Run, Response, judgement_in, response_as, response}
use Rattle.iss_model.specs.run.Transcripts.{Reading, sound, faulty, Text, at_level, said_text_at}
use Rattle.iss_agreement.proofs.Records.{records_history, step_records}
use Rattle.iss_core.proofs.OnBook.{judged_on_book}
use Rattle.iss_store.specs.declared.fault.PlanFault.{PlanFault}
use Rattle.iss_store.specs.declared.fault.PlanFault.TheVariants as plan_fault
use Rattle.iss_halves.specs.Forms.{Form, Seat}
use Rattle.iss_opening.specs.Values.{StoreNow, form_under, seat_under, room_of}
use Rattle.iss_store.specs.Values.{Plan}
use Rattle.iss_opening.specs.Standing.{StandsFor}
use Rattle.iss_store.specs.Planning.{judged_as, Plans}
use Rattle.iss_texts.specs.Sending.{Says, SaysSome}
use Rattle.iss_device.specs.Runs.{run_at}
use Rattle.iss_standing.specs.Goings.{AreFirstOf}
use Rattle.iss_top.specs.Replaying.{TextsGo, TextsGoPart, GoesSome, GoesAs, IsSameDevice, TakesAs, TakesPartAs, response_to_plan, texts_left}
use Rattle.iss_standing.proofs.Bodies.{first_self}
use Rattle.iss_top.proofs.Goings.{goes_then, goes_then_part, says_goes, says_goes_part, part_more, part_nothing}
use Rattle.iss_top.proofs.Lasting.{planned_records}

-- ---- what is judged new is the input itself

new_as : (answer : Option Answer) (quiet : Bool) (i : Input) (at : ℕ) (r : Record) → judgement_as answer quiet i at ≡ judged.New r → i ≡ r.input
new_as None quiet i at r h = cc
new_as (Some a) quiet i at r h = by (quiet || is_ack i) h
  where
    by : (b : Bool) → cond b (judged.Told a) (judged.Clock (record { at = at; input = input.Time })) ≡ judged.New r → i ≡ r.input
    by true h = cc
    by false h = cc

module _ {W : Type 0} (k : Keeper W) where
  answer_at : W → Input → ℕ → Option Answer
  answer_at w i at = refusal (is_quiet (due_items (k.facts w) at)) (k.facts w) (k.facts (after_due k w at).world) i

  new_input : (w : W) (i : Input) (stamp : ℕ) (r : Record) → judge k w i stamp ≡ judged.New r → i ≡ r.input
  unfolding judge answer_at
  new_input w i stamp r h =
      let at : ℕ = max stamp (k.facts w).now in
      new_as (answer_at w i at) (is_quiet (due_items (k.facts w) at)) i at r h

-- what is judged new in any room is the input itself
if_new : (may : Bool) (made : Judged) (a : Answer) (r : Record) → cond may made (judged.Told a) ≡ judged.New r → made ≡ judged.New r
if_new true made a r h = h
if_new false made a r h = absurd cc

unspent_new : (count : ℕ) (made : Judged) (r : Record) → unless_spent count made ≡ judged.New r → made ≡ judged.New r
unspent_new count made r h = if_new (nat_lt count MOST_RECORDS) made Spent r h

where_new : (room : Option Room) (rs : List Record) (q : Record) (made : Judged) (r : Record) → where_it_fits room rs q made ≡ judged.New r → made ≡ judged.New r
where_new None rs q made r h = unspent_new (length rs) made r h
where_new (Some room) rs q made r h = if_new (fits room rs q) made _ r (unspent_new (length rs) _ r h)

within_new : (room : Option Room) (rs : List Record) (j : Judged) (r : Record) → judgement_within room rs j ≡ judged.New r → j ≡ judged.New r
within_new room rs (judged.New q) r h = where_new room rs q (judged.New q) r h
within_new room rs (judged.Clock q) r h = where_new room rs q (judged.Clock q) r h
within_new room rs (judged.Told a) r h = h

-- ---- what a plan says of the judging

plans_record : (j : Judged) (p : Plan) → Plans j (Ok p) → j ≡ judged_as p
plans_record j p h = sym h

plans_told : (j : Judged) (a : Answer) → Plans j (Err (plan_fault.Told a)) → j ≡ judged.Told a
plans_told j a h = sym h

-- what an input comes to on these records
abbrev judged_on : StoreNow → Input → ℕ → List Record → Judged
judged_on s i stamp rs = judgement_within (room_of s) rs (judge history_keeper (history_of rs) i stamp)

-- what is told of it if it comes to this
response_is : (s : StoreNow) (i : Input) (at : Option ℕ) (stamp : ℕ) (rs : List Record) (j : Judged) → stamp ≡ unwrap_or at 0 → judged_on s i stamp rs ≡ j
    → response (run_at s rs) (sound i at) ≡ response_as (run_at s rs) i stamp j
response_is s i at stamp rs j is e =
    ap (λ (n : ℕ). response_as (run_at s rs) i n (judgement_in (run_at s rs) i n)) (sym is)
    ∙ ap (λ (l : List Record). response_as (run_at s rs) i stamp (judgement_within (room_of s) l (judge history_keeper (history_of rs) i stamp))) (records_history rs)
    ∙ ap (response_as (run_at s rs) i stamp) e

-- ---- what is told of a record, and something more

abbrev saying : Plan → Run → List Said → Response
saying p s more =
    let r = reaction_to_record history_keeper s.history p.accepted in
    record {
      run = record s { room = room_left s.room s.history.records (Some p.accepted); history = r.world };
      texts = at_level (length r.world.records) (map (said_text_at s.instance) (r.said ++ more));
    }

-- a new input is told as its plan
told_new : (s : Run) (i : Input) (stamp : ℕ) (p : Plan) → p.is_clock ≡ false → i ≡ p.accepted.input → response_as s i stamp (judged.New p.accepted) ≡ response_to_plan p s
told_new s i stamp p new same =
    ap (saying p s) (ap said_of_time same ∙ ap (λ (b : Bool). cond b [] (said_of_time p.accepted.input)) (sym new))

-- what is said of a record, and then something more
said_then : (level instance : ℕ) (said more : List Said)
    → at_level level (map (said_text_at instance) (said ++ more)) ≡ at_level level (map (said_text_at instance) (said ++ [])) ++ at_level level (map (said_text_at instance) more)
said_then level instance said more =
    ap (at_level level) (map-append (said_text_at instance) said more)
    ∙ map-append (λ (bytes : List ℕ). text_at level bytes) (map (said_text_at instance) said) (map (said_text_at instance) more)
    ∙ ap (λ (l : List Said). at_level level (map (said_text_at instance) l) ++ at_level level (map (said_text_at instance) more)) (sym (append-nil said))
  where
    text_at : ℕ → List ℕ → Text
    text_at level bytes = record { level = level; bytes = bytes }

-- the texts of a time's plan come first, and then what is left
told_clock : (s : Run) (i : Input) (stamp : ℕ) (p : Plan) → p.is_clock ≡ true
    → (response_as s i stamp (judged.Clock p.accepted)).texts
    ≡ (response_to_plan p s).texts
    ++ at_level (length (response_to_plan p s).run.history.records)
    (map (said_text_at s.instance) (answer_left (judge history_keeper (response_to_plan p s).run.history i stamp)))
told_clock s i stamp p clock =
    let r = reaction_to_record history_keeper s.history p.accepted in
    let left = answer_left (judge history_keeper r.world i stamp) in
    said_then (length r.world.records) s.instance r.said left
    ∙ ap (λ (b : Bool). (saying p s (cond b [] (said_of_time p.accepted.input))).texts ++ at_level (length r.world.records) (map (said_text_at s.instance) left)) (sym clock)

-- ---- an input that isn't new, and makes no record

-- what was planned on each list of records that the store stands for
abbrev PlansOn : StoreNow → Input → ℕ → Result Plan PlanFault → Type 0
PlansOn s i stamp result = (rs : List Record) → StandsFor s rs → Plans (judged_on s i stamp rs) result

-- what is told of an input at its stamp
abbrev pub told_input : Input → Option ℕ → Run → Response
told_input i at = λ s. response s (sound i at)

pub same_device : (s : StoreNow) → IsSameDevice s s
same_device s = record { instance = refl; form = refl }

-- if a run stands at these records, and something was said
pub stays_and_says : (s : StoreNow) (rs : List Record) (texts : List (List ℕ)) (a b : World) → StandsFor s rs → Says texts a b
    → GoesAs (record { run = run_at s rs; texts = at_level (length (history_of rs).records) texts }) s s rs a b
stays_and_says s rs texts a b stands says =
    let form = form_under s in
    let seat = seat_under s in
    record {
      stands = subst (λ (l : List Record). StandsFor s l) (sym (records_history rs)) stands;
      room = refl;
      goes =
          subst (λ (l : List Record). TextsGo form seat seat rs l (at_level (length l) texts) a b) (sym (records_history rs))
          (says_goes form seat rs texts a b says);
    }

-- some of what is said if no record is made
pub says_in_part : (failed : Type 0) (form : Form) (seat : Seat) (rs : List Record) (told : Response) (texts : List (List ℕ)) (a b : World) → AreFirstOf (history_of rs).records told.run.history.records
    → told.texts ≡ at_level (length (history_of rs).records) texts → SaysSome texts a b → GoesSome failed form seat rs told a b
says_in_part failed form seat rs told texts a b first is says =
    record {
      rs' = rs;
      records = subst (λ (l : List Record). AreFirstOf l told.run.history.records) (records_history rs) first;
      goes =
          subst (λ (t : List Text). TextsGoPart failed form seat rs rs t a b) (ap (λ (l : List Record). at_level (length l) texts) (sym (records_history rs)) ∙ sym is)
          (says_goes_part failed form seat rs texts a b says);
    }

answer_takes : (s : StoreNow) (i : Input) (at : Option ℕ) (stamp : ℕ) (answer : Answer) (a b : World) → stamp ≡ unwrap_or at 0 → PlansOn s i stamp (Err (plan_fault.Told answer))
    → Says (answer_text answer ∷ []) a b → TakesAs (told_input i at) s s a b
answer_takes s i at stamp answer a b is plans says =
    record {
      left = says.left;
      same = same_device s;
      on_book = λ rs stands.
          subst (λ (r : Response). GoesAs r s s rs a b)
          (sym (response_is s i at stamp rs (judged.Told answer) is (plans_told (judged_on s i stamp rs) answer (plans rs stands))))
          (stays_and_says s rs (answer_text answer ∷ []) a b stands says);
    }

answer_takes_part : (failed : Type 0) (s : StoreNow) (i : Input) (at : Option ℕ) (stamp : ℕ) (answer : Answer) (a b : World) → stamp ≡ unwrap_or at 0 → PlansOn s i stamp (Err (plan_fault.Told answer))
    → SaysSome (answer_text answer ∷ []) a b → TakesPartAs failed (told_input i at) s a b
answer_takes_part failed s i at stamp answer a b is plans says =
    record {
      left = says.left;
      on_book = λ rs stands.
          subst (λ (r : Response). GoesSome failed (form_under s) (seat_under s) rs r a b)
          (sym (response_is s i at stamp rs (judged.Told answer) is (plans_told (judged_on s i stamp rs) answer (plans rs stands))))
          (says_in_part failed (form_under s) (seat_under s) rs (response_as (run_at s rs) i stamp (judged.Told answer)) (answer_text answer ∷ []) a b (first_self (history_of rs).records) refl says);
    }

-- ---- a new one

planned_new : (s : StoreNow) (i : Input) (at : Option ℕ) (stamp : ℕ) (p : Plan) (rs : List Record) → stamp ≡ unwrap_or at 0 → p.is_clock ≡ false → Plans (judged_on s i stamp rs) (Ok p)
    → told_input i at (run_at s rs) ≡ response_to_plan p (run_at s rs)
planned_new s i at stamp p rs is new plans =
    let judged_new : judged_on s i stamp rs ≡ judged.New p.accepted =
    plans_record (judged_on s i stamp rs) p plans ∙ ap (λ (b : Bool). cond b (judged.Clock p.accepted) (judged.New p.accepted)) new in
    let same : i ≡ p.accepted.input =
    new_input history_keeper (history_of rs) i stamp p.accepted (within_new (room_of s) rs (judge history_keeper (history_of rs) i stamp) p.accepted judged_new) in
    response_is s i at stamp rs (judged.New p.accepted) is judged_new ∙ told_new (run_at s rs) i stamp p new same

new_takes : (s s' : StoreNow) (i : Input) (at : Option ℕ) (stamp : ℕ) (p : Plan) (a b : World) → stamp ≡ unwrap_or at 0 → p.is_clock ≡ false → PlansOn s i stamp (Ok p)
    → TakesAs (response_to_plan p) s s' a b → TakesAs (told_input i at) s s' a b
new_takes s s' i at stamp p a b is new plans takes =
    record {
      left = takes.left;
      same = takes.same;
      on_book = λ rs stands.
          subst (λ (r : Response). GoesAs r s s' rs a b)
          (sym (planned_new s i at stamp p rs is new (plans rs stands))) (takes.on_book rs stands);
    }

-- ---- a time before the answer

planned_clock : (s : StoreNow) (i : Input) (at : Option ℕ) (stamp : ℕ) (p : Plan) (rs : List Record) → stamp ≡ unwrap_or at 0 → p.is_clock ≡ true → Plans (judged_on s i stamp rs) (Ok p)
    → told_input i at (run_at s rs) ≡ response_as (run_at s rs) i stamp (judged.Clock p.accepted)
planned_clock s i at stamp p rs is clock plans =
    response_is s i at stamp rs (judged.Clock p.accepted) is
    (plans_record (judged_on s i stamp rs) p plans ∙ ap (λ (b : Bool). cond b (judged.Clock p.accepted) (judged.New p.accepted)) clock)

-- what is left to be said on the store after it is left on the book
left_on_book : (s s' : StoreNow) (p : Plan) (i : Input) (stamp : ℕ) (rs : List Record) → IsSameDevice s s' → StandsFor s' (response_to_plan p (run_at s rs)).run.history.records
    → texts_left s' i stamp ≡ map (said_text_at s.core.instance) (answer_left (judge history_keeper (response_to_plan p (run_at s rs)).run.history i stamp))
left_on_book s s' p i stamp rs same stands =
    let after = (response_to_plan p (run_at s rs)).run.history in
    let told = judge core_keeper s'.core.state i stamp in
    let book : told ≡ judge history_keeper (history_of after.records) i stamp = judged_on_book s'.core after.records i stamp told stands.core refl in
    let history : history_of after.records ≡ after =
    ap history_of (planned_records s p rs) ∙ fold-append (λ (h : History) (r : Record). (step history_keeper h r).world) nothing_yet rs (p.accepted ∷ []) in
    ap (λ (instance : ℕ). map (said_text_at instance) (answer_left told)) same.instance
    ∙ ap (λ (j : Judged). map (said_text_at s.core.instance) (answer_left j)) (book ∙ ap (λ (h : History). judge history_keeper h i stamp) history)

-- what is told of a time and then of the input
clock_texts : (s s' : StoreNow) (p : Plan) (i : Input) (stamp : ℕ) (rs : List Record) → p.is_clock ≡ true → IsSameDevice s s' → StandsFor s' (response_to_plan p (run_at s rs)).run.history.records
    → (response_as (run_at s rs) i stamp (judged.Clock p.accepted)).texts
    ≡ (response_to_plan p (run_at s rs)).texts ++ at_level (length (response_to_plan p (run_at s rs)).run.history.records) (texts_left s' i stamp)
clock_texts s s' p i stamp rs clock same stands =
    told_clock (run_at s rs) i stamp p clock
    ∙ ap (λ (texts : List (List ℕ)). (response_to_plan p (run_at s rs)).texts ++ at_level (length (response_to_plan p (run_at s rs)).run.history.records) texts)
    (sym (left_on_book s s' p i stamp rs same stands))

clock_takes : (s s' : StoreNow) (i : Input) (at : Option ℕ) (stamp : ℕ) (p : Plan) (a b c : World) → stamp ≡ unwrap_or at 0 → p.is_clock ≡ true → PlansOn s i stamp (Ok p)
    → TakesAs (response_to_plan p) s s' a b → Says (texts_left s' i stamp) b c → TakesAs (told_input i at) s s' a c
clock_takes s s' i at stamp p a b c is clock plans takes says =
    record {
      left = says.left ∙ takes.left;
      same = takes.same;
      on_book = λ rs stands.
          let first = takes.on_book rs stands in
          let told = response_to_plan p (run_at s rs) in
          let after = told.run.history.records in
          let left = at_level (length after) (texts_left s' i stamp) in
          let form = form_under s in
          let from = seat_under s in
          let to = seat_under s' in
          subst (λ (r : Response). GoesAs r s s' rs a c)
          (sym (planned_clock s i at stamp p rs is clock (plans rs stands)))
          (record {
            stands = first.stands;
            room = first.room;
            goes =
                subst (λ (t : List Text). TextsGo form from to rs after t a c) (sym (clock_texts s s' p i stamp rs clock takes.same first.stands))
                (goes_then form from to to rs after after told.texts left a b c first.goes (says_goes form to after (texts_left s' i stamp) b c says));
          });
    }

clock_takes_part : (failed : Type 0) (s s' : StoreNow) (i : Input) (at : Option ℕ) (stamp : ℕ) (p : Plan) (a b c : World) → stamp ≡ unwrap_or at 0 → p.is_clock ≡ true → PlansOn s i stamp (Ok p)
    → TakesAs (response_to_plan p) s s' a b → SaysSome (texts_left s' i stamp) b c → TakesPartAs failed (told_input i at) s a c
clock_takes_part failed s s' i at stamp p a b c is clock plans takes says =
    record {
      left = says.left ∙ takes.left;
      on_book = λ rs stands.
          let first = takes.on_book rs stands in
          let told = response_to_plan p (run_at s rs) in
          let after = told.run.history.records in
          let left = at_level (length after) (texts_left s' i stamp) in
          let form = form_under s in
          let from = seat_under s in
          let to = seat_under s' in
          subst (λ (r : Response). GoesSome failed form from rs r a c)
          (sym (planned_clock s i at stamp p rs is clock (plans rs stands)))
          (record {
            rs' = after;
            records = first_self after;
            goes =
                subst (λ (t : List Text). TextsGoPart failed form from rs after t a c) (sym (clock_texts s s' p i stamp rs clock takes.same first.stands))
                (goes_then_part failed form from to rs after after told.texts left a b c first.goes (says_goes_part failed form to after (texts_left s' i stamp) b c says));
          });
    }

-- ---- a record that wasn't kept, or not all of which was said

failed_on_book : (failed : Type 0) (clock : Bool) (s : StoreNow) (i : Input) (at : Option ℕ) (stamp : ℕ) (p : Plan) (rs : List Record) (a b : World) → p.is_clock ≡ clock → stamp ≡ unwrap_or at 0 → Plans (judged_on s i stamp rs) (Ok p)
    → GoesSome failed (form_under s) (seat_under s) rs (response_to_plan p (run_at s rs)) a b → GoesSome failed (form_under s) (seat_under s) rs (told_input i at (run_at s rs)) a b
failed_on_book failed false s i at stamp p rs a b new is plans part =
    subst (λ (r : Response). GoesSome failed (form_under s) (seat_under s) rs r a b) (sym (planned_new s i at stamp p rs is new plans)) part
failed_on_book failed true s i at stamp p rs a b clock is plans part =
    let told = response_to_plan p (run_at s rs) in
    let after = told.run.history.records in
    let left = map (said_text_at s.core.instance) (answer_left (judge history_keeper told.run.history i stamp)) in
    subst (λ (r : Response). GoesSome failed (form_under s) (seat_under s) rs r a b) (sym (planned_clock s i at stamp p rs is clock plans))
    (record {
      rs' = part.rs';
      records = part.records;
      goes =
          subst (λ (t : List Text). TextsGoPart failed (form_under s) (seat_under s) rs part.rs' t a b) (sym (told_clock (run_at s rs) i stamp p clock))
          (part_more failed (form_under s) (seat_under s) rs part.rs' told.texts (at_level (length after) left) a b part.goes);
    })

failed_takes_part : (failed : Type 0) (s : StoreNow) (i : Input) (at : Option ℕ) (stamp : ℕ) (p : Plan) (a b : World) → stamp ≡ unwrap_or at 0 → PlansOn s i stamp (Ok p)
    → TakesPartAs failed (response_to_plan p) s a b → TakesPartAs failed (told_input i at) s a b
failed_takes_part failed s i at stamp p a b is plans part =
    record {
      left = part.left;
      on_book = λ rs stands. failed_on_book failed p.is_clock s i at stamp p rs a b refl is (plans rs stands) (part.on_book rs stands);
    }

-- ---- nothing was done

reacted_first : (h : History) (i : Input) (stamp : ℕ) (j : Judged) → AreFirstOf h.records (reaction_as history_keeper h i stamp j).world.records
reacted_first h i stamp (judged.New r) = record { later = r ∷ []; cut = step_records h r }
reacted_first h i stamp (judged.Clock r) = record { later = r ∷ []; cut = step_records h r }
reacted_first h i stamp (judged.Told a) = first_self h.records

pub response_first : (s : Run) (line : Reading) → AreFirstOf s.history.records (response s line).run.history.records
response_first s (sound i at) = reacted_first s.history i (unwrap_or at 0) (judgement_in s i (unwrap_or at 0))
response_first s (faulty text) = first_self s.history.records

abbrev pub KeepsRecords : (Run → Response) → Type 0
KeepsRecords told = (s : Run) → AreFirstOf s.history.records (told s).run.history.records

pub nothing_taken : (failed : Type 0) (told : Run → Response) (s : StoreNow) (a : World) → KeepsRecords told → TakesPartAs failed told s a a
nothing_taken failed told s a keeps =
    record {
      left = refl;
      on_book = λ rs stands.
          record {
            rs' = rs;
            records = subst (λ (l : List Record). AreFirstOf l (told (run_at s rs)).run.history.records) (records_history rs) (keeps (run_at s rs));
            goes = part_nothing failed (form_under s) (seat_under s) rs (told (run_at s rs)).texts a;
          };
    }

-- ---- the same of what an edge tells

pub told_nothing_taken : (failed : Type 0) (i : Input) (at : Option ℕ) (s : StoreNow) (x : Option World) → Told (TakesPartAs failed (told_input i at) s) x x
told_nothing_taken failed i at s x =
    told_self (TakesPartAs failed (told_input i at) s) x (λ a. nothing_taken failed (told_input i at) s a (λ run. response_first run (sound i at)))

pub told_answer : (s : StoreNow) (i : Input) (at : Option ℕ) (stamp : ℕ) (answer : Answer) (x y : Option World) → stamp ≡ unwrap_or at 0 → PlansOn s i stamp (Err (plan_fault.Told answer))
    → Told (Says (answer_text answer ∷ [])) x y → Told (TakesAs (told_input i at) s s) x y
told_answer s i at stamp answer x y is plans says =
    told_map (Says (answer_text answer ∷ [])) (TakesAs (told_input i at) s s) x y (λ a b. answer_takes s i at stamp answer a b is plans) says

pub told_answer_part : (failed : Type 0) (s : StoreNow) (i : Input) (at : Option ℕ) (stamp : ℕ) (answer : Answer) (x y : Option World) → stamp ≡ unwrap_or at 0 → PlansOn s i stamp (Err (plan_fault.Told answer))
    → Told (SaysSome (answer_text answer ∷ [])) x y → Told (TakesPartAs failed (told_input i at) s) x y
told_answer_part failed s i at stamp answer x y is plans says =
    told_map (SaysSome (answer_text answer ∷ [])) (TakesPartAs failed (told_input i at) s) x y (λ a b. answer_takes_part failed s i at stamp answer a b is plans) says

pub told_taken_new : (s s' : StoreNow) (i : Input) (at : Option ℕ) (stamp : ℕ) (p : Plan) (x y : Option World) → stamp ≡ unwrap_or at 0 → p.is_clock ≡ false → PlansOn s i stamp (Ok p)
    → Told (TakesAs (response_to_plan p) s s') x y → Told (TakesAs (told_input i at) s s') x y
told_taken_new s s' i at stamp p x y is new plans takes =
    told_map (TakesAs (response_to_plan p) s s') (TakesAs (told_input i at) s s') x y (λ a b. new_takes s s' i at stamp p a b is new plans) takes

pub told_taken_clock : (s s' : StoreNow) (i : Input) (at : Option ℕ) (stamp : ℕ) (p : Plan) (x y z : Option World) → stamp ≡ unwrap_or at 0 → p.is_clock ≡ true → PlansOn s i stamp (Ok p)
    → Told (TakesAs (response_to_plan p) s s') x y → Told (Says (texts_left s' i stamp)) y z → Told (TakesAs (told_input i at) s s') x z
told_taken_clock s s' i at stamp p x y z is clock plans takes says =
    told_then (TakesAs (response_to_plan p) s s') (Says (texts_left s' i stamp)) (TakesAs (told_input i at) s s') x y z
    (λ a b c. clock_takes s s' i at stamp p a b c is clock plans) takes says

pub told_clock_part : (failed : Type 0) (s s' : StoreNow) (i : Input) (at : Option ℕ) (stamp : ℕ) (p : Plan) (x y z : Option World) → stamp ≡ unwrap_or at 0 → p.is_clock ≡ true → PlansOn s i stamp (Ok p)
    → Told (TakesAs (response_to_plan p) s s') x y → Told (SaysSome (texts_left s' i stamp)) y z → Told (TakesPartAs failed (told_input i at) s) x z
told_clock_part failed s s' i at stamp p x y z is clock plans takes says =
    told_then (TakesAs (response_to_plan p) s s') (SaysSome (texts_left s' i stamp)) (TakesPartAs failed (told_input i at) s) x y z
    (λ a b c. clock_takes_part failed s s' i at stamp p a b c is clock plans) takes says

pub told_failed : (failed : Type 0) (s : StoreNow) (i : Input) (at : Option ℕ) (stamp : ℕ) (p : Plan) (x y : Option World) → stamp ≡ unwrap_or at 0 → PlansOn s i stamp (Ok p)
    → Told (TakesPartAs failed (response_to_plan p) s) x y → Told (TakesPartAs failed (told_input i at) s) x y
told_failed failed s i at stamp p x y is plans part =
    told_map (TakesPartAs failed (response_to_plan p) s) (TakesPartAs failed (told_input i at) s) x y (λ a b. failed_takes_part failed s i at stamp p a b is plans) part
