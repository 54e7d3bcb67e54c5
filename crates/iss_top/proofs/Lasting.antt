-- A record is made to last, and then what it says goes out.
use Rattle.std.proofs.Common.{◌≡◌, ℕ, Bool, true, false, cond, List, [], length, map, Option, Some, Ok, Err, inl, inr, refl, sym, ap, subst, ◌∙◌}
use Rattle.std.specs.Prelude.{Result, IfErr}
use Rattle.iss_edge.specs.World.{World, Told}
use Rattle.iss_edge.proofs.Tolds.{told_map, told_then}
use Rattle.iss_halves.specs.Forms.{Form, Seat, Layout, form_of, seat_at}
use Rattle.iss_model.specs.declared.input.Record.{Record}
use Rattle.iss_model.specs.rules.Histories.{history_of}
use Rattle.iss_model.specs.run.Rooms.{room_left}
use Rattle.iss_model.specs.run.Sayings.{Said}
use Rattle.iss_model.specs.run.Transcripts.{Text, at_level, said_text_at}
use Rattle.iss_agreement.proofs.Records.{records_history, step_records}
use Rattle.iss_opening.specs.Values.{StoreNow, form_under, seat_under, room_of}
use Rattle.iss_store.specs.Values.{Plan, DurableNow, said_of}
use Rattle.iss_opening.specs.Standing.{StandsFor}
use Rattle.iss_standing.specs.Goings.{AreFirstOf}
use Rattle.iss_store.specs.declared.fault.StoreFault.{StoreFault}
use Rattle.iss_store.specs.declared.fault.StoreFault.TheVariants as store_fault
use Rattle.iss_store.specs.Planning.{turns_for, store_turned, store_for}
use Rattle.iss_store.specs.Committing.{Commits, CommitsOnBook, Keeps, KeepsPart, WhereItLasts, said_on_book}
use Rattle.iss_store.specs.Saying.{texts_of_record}
use Rattle.iss_standing.proofs.NextRecords.{with_record}
use Rattle.iss_standing.proofs.Bodies.{first_self}
use Rattle.iss_texts.specs.Sending.{Says, SaysSome}
use Rattle.iss_device.specs.Runs.{run_at}
use Rattle.iss_top.specs.Dry.{each_bytes}
use Rattle.iss_top.specs.declared.stop.Stop.{Stop}
use Rattle.iss_top.specs.Statuses.{stop_of_store}
use Rattle.iss_top.specs.Replaying.{levels_of, IsOfDisk, TextsGo, TextsGoPart, GoesSome, TakesAs, TakesPartAs, response_to_plan}
use Rattle.iss_top.proofs.Goings.{goes_then, goes_then_part, goes_part, part_more, says_goes, says_goes_part}

-- ---- what is told of a planned record

pub planned_records : (s : StoreNow) (p : Plan) (rs : List Record) → (response_to_plan p (run_at s rs)).run.history.records ≡ with_record rs p.accepted
planned_records s p rs =
    step_records (history_of rs) p.accepted ∙ ap (λ (l : List Record). with_record l p.accepted) (records_history rs)

-- these texts, of what is said at this instance
abbrev texts_at : ℕ → List Record → List Said → List Text
texts_at instance rs said = at_level (length rs) (map (said_text_at instance) said)

planned_texts : (s s' : StoreNow) (p : Plan) (d : DurableNow) (rs : List Record) → s'.core.instance ≡ s.core.instance → said_of d ≡ said_on_book rs p
    → (response_to_plan p (run_at s rs)).texts ≡ at_level (length (with_record rs p.accepted)) (texts_of_record s' d)
planned_texts s s' p d rs same said =
    ap (λ (l : List Record). texts_at s.core.instance l (said_on_book rs p)) (planned_records s p rs)
    ∙ ap (λ (x : List Said). texts_at s.core.instance (with_record rs p.accepted) x) (sym said)
    ∙ ap (λ (instance : ℕ). texts_at instance (with_record rs p.accepted) (said_of d)) (sym same)

-- as many records and texts as are told of it
as_planned : (s s' : StoreNow) (p : Plan) (d : DurableNow) (rs : List Record) (F : List Record → List Text → Type 0) → s'.core.instance ≡ s.core.instance → said_of d ≡ said_on_book rs p
    → F (with_record rs p.accepted) (at_level (length (with_record rs p.accepted)) (texts_of_record s' d))
    → F (response_to_plan p (run_at s rs)).run.history.records (response_to_plan p (run_at s rs)).texts
as_planned s s' p d rs F same said goes =
    subst (λ (l : List Record). F l (response_to_plan p (run_at s rs)).texts) (sym (planned_records s p rs))
    (subst (λ (t : List Text). F (with_record rs p.accepted) t) (sym (planned_texts s s' p d rs same said)) goes)

-- ---- a record that was committed, and what is said of it

-- what a commit ensures of the store after it
pub record Committed (s : StoreNow) (p : Plan) (s' : StoreNow) (d : DurableNow) : Type 0 where
  pub commits : Commits s p s' d
  pub on_book : (rs : List Record) → StandsFor s rs → CommitsOnBook s s' rs p d

-- ---- the device that a record's turn leaves

-- a turn changes no form
form_for_as : (turns : Bool) (s : StoreNow) → form_under (cond turns (store_turned s) s) ≡ form_under s
form_for_as true s = refl
form_for_as false s = refl

form_kept : (s s' : StoreNow) (p : Plan) (d : DurableNow) → Commits s p s' d → form_under s' ≡ form_under s
form_kept s s' p d commits = ap form_of commits.layout ∙ form_for_as (turns_for s p.accepted) s

pub size_kept : (s s' : StoreNow) (p : Plan) (d : DurableNow) → Commits s p s' d → s'.layout.size ≡ s.layout.size
size_kept s s' p d commits = ap (λ (form : Form). form.size) (form_kept s s' p d commits)

seat_kept : (s s' : StoreNow) (p : Plan) (d : DurableNow) → Commits s p s' d → seat_under (store_for s p.accepted) ≡ seat_under s'
seat_kept s s' p d commits = λ i. seat_at (sym (ap (λ (l : Layout). l.second) commits.layout) i) (sym commits.point i)

-- what was kept reaches the seat of the store after it
kept_goes : (s s' : StoreNow) (p : Plan) (d : DurableNow) (rs : List Record) (a b : World) → Commits s p s' d → Keeps s p.accepted a b → StandsFor s rs
    → TextsGo (form_under s) (seat_under s) (seat_under s') rs (with_record rs p.accepted) [] a b
kept_goes s s' p d rs a b commits keeps stands =
    subst (λ (to : Seat). TextsGo (form_under s) (seat_under s) to rs (with_record rs p.accepted) [] a b) (seat_kept s s' p d commits) (keeps.goes rs stands)

kept : (s s' : StoreNow) (p : Plan) (d : DurableNow) (a b c : World) → Committed s p s' d → Keeps s p.accepted a b → Says (texts_of_record s' d) b c → TakesAs (response_to_plan p) s s' a c
kept s s' p d a b c done keeps says =
    record {
      left = says.left ∙ keeps.left;
      same = record { instance = done.commits.stepped.kept; form = form_kept s s' p d done.commits };
      on_book = λ rs stands.
          let book = done.on_book rs stands in
          let after = with_record rs p.accepted in
          record {
            stands = subst (λ (l : List Record). StandsFor s' l) (sym (planned_records s p rs)) book.stands;
            room = book.room ∙ ap (λ (l : List Record). room_left (room_of s) l (Some p.accepted)) (sym (records_history rs));
            goes =
                as_planned s s' p d rs (λ (l : List Record) (t : List Text). TextsGo (form_under s) (seat_under s) (seat_under s') rs l t a c) done.commits.stepped.kept book.said
                (goes_then (form_under s) (seat_under s) (seat_under s') (seat_under s') rs after after [] (at_level (length after) (texts_of_record s' d)) a b c
                (kept_goes s s' p d rs a b done.commits keeps stands) (says_goes (form_under s) (seat_under s') after (texts_of_record s' d) b c says));
          };
    }

-- a part of what is told of a plan, up to its record
some_planned : (failed : Type 0) (s : StoreNow) (p : Plan) (rs : List Record) (a b : World) → TextsGoPart failed (form_under s) (seat_under s) rs (with_record rs p.accepted) (response_to_plan p (run_at s rs)).texts a b
    → GoesSome failed (form_under s) (seat_under s) rs (response_to_plan p (run_at s rs)) a b
some_planned failed s p rs a b part =
    record {
      rs' = with_record rs p.accepted;
      records = subst (λ (l : List Record). AreFirstOf (with_record rs p.accepted) l) (sym (planned_records s p rs)) (first_self (with_record rs p.accepted));
      goes = part;
    }

kept_part : (failed : Type 0) (s s' : StoreNow) (p : Plan) (d : DurableNow) (a b c : World) → Committed s p s' d → Keeps s p.accepted a b → SaysSome (texts_of_record s' d) b c → TakesPartAs failed (response_to_plan p) s a c
kept_part failed s s' p d a b c done keeps says =
    record {
      left = says.left ∙ keeps.left;
      on_book = λ rs stands.
          let book = done.on_book rs stands in
          let after = with_record rs p.accepted in
          some_planned failed s p rs a c
          (subst (λ (t : List Text). TextsGoPart failed (form_under s) (seat_under s) rs after t a c) (sym (planned_texts s s' p d rs done.commits.stepped.kept book.said))
          (goes_then_part failed (form_under s) (seat_under s) (seat_under s') rs after after [] (at_level (length after) (texts_of_record s' d)) a b c
          (kept_goes s s' p d rs a b done.commits keeps stands) (says_goes_part failed (form_under s) (seat_under s') after (texts_of_record s' d) b c says)));
    }

not_kept : (failed : Type 0) (s : StoreNow) (p : Plan) (a b : World) → failed → KeepsPart s p.accepted a b → TakesPartAs failed (response_to_plan p) s a b
not_kept failed s p a b fails keeps =
    record {
      left = keeps.left;
      on_book = λ rs stands.
          let texts = (response_to_plan p (run_at s rs)).texts in
          some_planned failed s p rs a b
          (record {
            said = [];
            out = record { whole = []; rest = each_bytes texts; cut = refl; last = []; done = refl; ended = inl refl };
            levels = (levels_of texts, refl);
            part = keeps.goes rs stands;
            whole = inr fails;
          });
    }

-- it was kept, and nothing was said
unsaid : (failed : Type 0) (s : StoreNow) (p : Plan) (a b : World) → Keeps s p.accepted a b → TakesPartAs failed (response_to_plan p) s a b
unsaid failed s p a b keeps =
    record {
      left = keeps.left;
      on_book = λ rs stands.
          some_planned failed s p rs a b
          (part_more failed (form_under s) (seat_under s) rs (with_record rs p.accepted) [] (response_to_plan p (run_at s rs)).texts a b
          (goes_part failed (form_under s) (seat_under s) (seat_under (store_for s p.accepted)) rs (with_record rs p.accepted) [] a b (keeps.goes rs stands)));
    }

-- ---- the same of what an edge tells

-- what holds anyway holds if something failed
pub anyway : {A : Type 0} (result : Result A Stop) (P : Stop → Type 0) → ((why : Stop) → P why) → IfErr result P
anyway (Ok value) P p = tt
anyway (Err why) P p = p why

pub if_err_weaker : {A : Type 0} (result : Result A Stop) (P Q : Stop → Type 0) → ((why : Stop) → P why → Q why) → IfErr result P → IfErr result Q
if_err_weaker (Ok value) P Q f p = tt
if_err_weaker (Err why) P Q f p = f why p

pub told_kept : (s s' : StoreNow) (p : Plan) (d : DurableNow) (x y z : Option World) → Committed s p s' d → Told (Keeps s p.accepted) x y → Told (Says (texts_of_record s' d)) y z
    → Told (TakesAs (response_to_plan p) s s') x z
told_kept s s' p d x y z done going says =
    told_then (Keeps s p.accepted) (Says (texts_of_record s' d)) (TakesAs (response_to_plan p) s s') x y z
    (λ a b c. kept s s' p d a b c done) going says

pub told_kept_part : (failed : Type 0) (s s' : StoreNow) (p : Plan) (d : DurableNow) (x y z : Option World) → Committed s p s' d → Told (Keeps s p.accepted) x y → Told (SaysSome (texts_of_record s' d)) y z
    → Told (TakesPartAs failed (response_to_plan p) s) x z
told_kept_part failed s s' p d x y z done going says =
    told_then (Keeps s p.accepted) (SaysSome (texts_of_record s' d)) (TakesPartAs failed (response_to_plan p) s) x y z
    (λ a b c. kept_part failed s s' p d a b c done) going says

-- a commit failed: nothing was said, and only a fault of the disk keeps the run from going on
pub told_not_kept : (fault : StoreFault) (s : StoreNow) (p : Plan) (x y : Option World) → Told (KeepsPart s p.accepted) x y → WhereItLasts {T = Unit {0}} (Err fault) (Told (Keeps s p.accepted) x y)
    → Told (TakesPartAs (IsOfDisk (stop_of_store fault)) (response_to_plan p) s) x y
told_not_kept store_fault.Disk s p x y part lasts =
    told_map (KeepsPart s p.accepted) (TakesPartAs (Unit {0}) (response_to_plan p) s) x y (λ a b. not_kept (Unit {0}) s p a b tt) part
told_not_kept store_fault.OutOfMemory s p x y part lasts =
    told_map (Keeps s p.accepted) (TakesPartAs ⊥ (response_to_plan p) s) x y (unsaid ⊥ s p) lasts
told_not_kept store_fault.Output s p x y part lasts = absurd lasts
