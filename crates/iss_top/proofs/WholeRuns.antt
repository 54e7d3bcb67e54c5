-- A run on a device from the device's side: what went out, what it stands for at the end, and what a stop leaves.
use Rattle.std.proofs.Common.{◌≡◌, ℕ, ◌+◌, ◌≤◌, inl, inr, List, [], ◌++◌, length, take, filter, not, true, refl, sym, ap, subst, ◌∙◌, append-nil, append_assoc, arith}
use Rattle.std.specs.Prelude.{◌↔◌}
use Rattle.std.specs.List.{list_all}
use Rattle.std.proofs.lemmas.List.{append_cancel_left}
use Rattle.iss_edge.specs.declared.outside.Action.{Action}
use Rattle.iss_edge.specs.World.{World}
use Rattle.iss_edge.specs.Stretches.{actions_of}
use Rattle.iss_model.specs.declared.input.Record.{Record}
use Rattle.iss_model.specs.declared.limits.TheConstants.{MOST_INPUT}
use Rattle.iss_model.specs.rules.Histories.{nothing_yet, IsLegal}
use Rattle.iss_model.specs.run.Transcripts.{Text}
use Rattle.iss_model.specs.run.Runs.{Run, Response, accepted_records, transcript_of}
use Rattle.iss_agreement.proofs.Records.{records_history}
use Rattle.iss_agreement.proofs.RunLaws.{accepted_legal}
use Rattle.iss_halves.specs.Forms.{Form, Seat}
use Rattle.iss_standing.specs.Standing.{DeviceStandsFor}
use Rattle.iss_standing.specs.Rooms.{room_in, seat_in, seat_of}
use Rattle.iss_standing.proofs.Few.{few_stand}
use Rattle.iss_standing.proofs.Holds.{stands_in_room}
use Rattle.iss_opening.specs.Values.{StoreNow, form_under, seat_under}
use Rattle.iss_opening.specs.Standing.{IsOpenedOn}
use Rattle.iss_opening.specs.Opening.{OpensGood, ReadsAlone, OpenedAs}
use Rattle.iss_texts.specs.Sending.{emits, GoOut}
use Rattle.iss_device.specs.Runs.{run_at, run_on}
use Rattle.iss_standing.proofs.NextRecords.{legal_append}
use Rattle.iss_device.specs.Moments.{EndsAtRest}
use Rattle.iss_device.proofs.Moments.{rests_now, ends_at_rest}
use Rattle.iss_device.proofs.Devices.{stands_opened, run_opened, rests_stands}
use Rattle.iss_device.proofs.Written.{goes_writes, wrote_at}
use Rattle.iss_top.specs.Lines.{is_blank, line_parts, lines_of, all_but_last}
use Rattle.iss_top.specs.Dry.{each_bytes}
use Rattle.iss_top.specs.Reader.{TakesIn}
use Rattle.iss_standing.specs.Goings.{AreFirstOf}
use Rattle.iss_top.specs.Replaying.{is_of_run, outputs_of, text_steps, TextsGoPart, GoesWhole, RunsAs}
use Rattle.iss_top.specs.Replays.{texts_for, records_for, seat_after, Wrote, WrotePart, Replayed, EndsSomewhere, ReplayOn, EveryMoment}
use Rattle.iss_top.proofs.ToldLines.{readings_of, told_readings, told_from_start, transcript_told, told_records}
use Rattle.iss_top.proofs.Beginnings.{outputs_behind, kinds_behind}
use Rattle.iss_top.proofs.Goings.{part_out, part_kinds, goes_outputs}
use Rattle.iss_top.proofs.Moments.{moments_unopened, moments_opened}

-- ---- the records of a run

-- the parts that aren't blank
abbrev written : List (List ℕ) → List (List ℕ)
written parts = filter (λ (part : List ℕ). not (is_blank part)) parts

-- the records that stood, and those that the lines make
abbrev made_by : Form → Seat → List Record → World → List Record
made_by form seat rs a = records_for (run_on form seat rs) rs (lines_of (a.left 0))

made_legal : (form : Form) (seat : Seat) (rs : List Record) (a : World) → DeviceStandsFor form seat rs a.device → IsLegal (made_by form seat rs a)
made_legal form seat rs a stands =
    let run = run_on form seat rs in
    let lines = readings_of (line_parts (a.left 0)) in
    legal_append nothing_yet rs (accepted_records run lines) stands.history.legal (accepted_legal run lines)

-- what the lines make after those
abbrev made_later : Form → Seat → List Record → World → List Record
made_later form seat rs a = accepted_records (run_on form seat rs) (readings_of (line_parts (a.left 0)))

-- ---- a run that ended with its opening

pub not_opened_moments : (form : Form) (seat : Seat) (rs : List Record) (a b : World) → OpensGood a b → DeviceStandsFor form seat rs a.device → EveryMoment form seat rs a b
not_opened_moments form seat rs a b good stands =
    moments_unopened form seat rs (made_later form seat rs a) (texts_for (run_on form seat rs) (lines_of (a.left 0))) a b good stands (made_legal form seat rs a stands)

-- nothing went out
pub not_opened_on : (status : ℕ) (form : Form) (seat : Seat) (rs : List Record) (a b : World) → (status ≡ 0 → ⊥) → (status ≡ 3 → ⊥) → (status ≡ 4 → ⊥) → (status ≡ 8 → ⊥) → OpensGood a b → ((status ≡ 6 → ⊥) → ReadsAlone a b) → ReplayOn status form seat rs a b
not_opened_on status form seat rs a b not_done not_input not_device not_long good reads =
    let texts = each_bytes (texts_for (run_on form seat rs) (lines_of (a.left 0))) in
    let none : outputs_of good.added ≡ [] = ap outputs_of (sym (append-nil good.added)) ∙ outputs_behind good.added [] good.on_device in
    record {
      took = [];
      takes = record { bytes = ap (λ (l : ℕ → List ℕ). l 0) (sym good.left); others = λ ch other. ap (λ (l : ℕ → List ℕ). l ch) good.left };
      actions = good.added;
      grew = good.grew;
      kinds = subst (λ (l : List Action). list_all is_of_run l ≡ true) (append-nil good.added) (kinds_behind good.added [] good.on_device refl);
      out =
          subst (λ (l : List Action). GoOut texts l) (sym none)
          (record { whole = []; rest = texts; cut = refl; last = []; done = refl; ended = inl refl });
      whole = λ e. absurd (not_done e);
      stopped = λ e. elim e [ inl at ↦ absurd (not_input at) | inr at ↦ absurd (not_long at) ];
      long = (λ e. absurd (not_long e), λ e. absurd (omega (arith, e)));
      bound = omega arith;
      ended = λ other. inl (reads other);
      wrote =
          record {
            opening = good.added;
            opening_is = good.syncs;
            opening_gate = good.gate form rs;
            rest = [];
            cut = sym (append-nil good.added);
            later = [];
            first = record { later = made_later form seat rs a; cut = ap (λ (l : List Record). l ++ made_later form seat rs a) (sym (append-nil rs)) };
            made = record { whole = λ other. refl; part = tt };
          };
      other_device = not_device;
    }

-- ---- a run on the store that was opened

module _ (form : Form) (seat : Seat) (rs : List Record) (s : StoreNow) (status : ℕ) (took : List ℕ) (a b d : World) (opening : OpenedAs s a b) (stands : DeviceStandsFor form seat rs a.device)
    (runs : RunsAs (told_from_start (run_at s rs)) status s rs took b d) where
  opened : IsOpenedOn form seat rs s
  opened = stands_opened form seat rs s a b opening stands

  same_run : run_at s rs ≡ run_on form seat rs
  same_run = run_opened form seat rs s a.device opening.opens opened

  input : line_parts (b.left 0) ≡ line_parts (a.left 0)
  input = ap (λ (l : ℕ → List ℕ). line_parts (l 0)) opening.good.left

  texts_are : (parts : List (List ℕ)) → (told_from_start (run_at s rs) parts).texts ≡ transcript_of (run_on form seat rs) (readings_of parts)
  texts_are parts = transcript_told (run_at s rs) parts ∙ ap (λ (k : Run). transcript_of k (readings_of parts)) same_run

  records_are : (parts : List (List ℕ)) → (told_from_start (run_at s rs) parts).run.history.records ≡ rs ++ accepted_records (run_on form seat rs) (readings_of parts)
  records_are parts =
      told_records (run_at s rs) parts
      ∙ ap (λ (l : List Record). l ++ accepted_records (run_at s rs) (readings_of parts)) (records_history rs)
      ∙ ap (λ (k : Run). rs ++ accepted_records k (readings_of parts)) same_run

  abbrev done : List Action
  done = opening.good.added ++ actions_of runs.goes.part.steps

  trace_grew : d.trace ≡ a.trace ++ done
  trace_grew =
      runs.goes.part.grew
      ∙ ap (λ (t : List Action). t ++ actions_of runs.goes.part.steps) opening.good.grew
      ∙ append_assoc a.trace opening.good.added (actions_of runs.goes.part.steps)

  sent : outputs_of done ≡ outputs_of (actions_of runs.goes.part.steps)
  sent = outputs_behind opening.good.added (actions_of runs.goes.part.steps) opening.good.on_device

  -- what the input is to be told is the transcript
  all_texts : (told_from_start (run_at s rs) (line_parts (b.left 0))).texts ≡ texts_for (run_on form seat rs) (lines_of (a.left 0))
  all_texts =
      ap (λ (l : List (List ℕ)). (told_from_start (run_at s rs) l).texts) input ∙ texts_are (line_parts (a.left 0))

  went_out : GoOut (each_bytes (texts_for (run_on form seat rs) (lines_of (a.left 0)))) (outputs_of done)
  went_out =
      subst (λ (l : List Action). GoOut (each_bytes (texts_for (run_on form seat rs) (lines_of (a.left 0)))) l) (sym sent)
      (subst (λ (t : List Text). GoOut (each_bytes t) (outputs_of (actions_of runs.goes.part.steps))) all_texts
      (part_out (form_under s) (seat_under s) rs runs.rs' (told_from_start (run_at s rs) (line_parts (b.left 0))).texts b d (status ≡ 6) runs.goes))

  -- the seat at which it ended is that of the room that is left
  seat_is : (parts : List (List ℕ)) (whole : GoesWhole s rs (told_from_start (run_at s rs) parts) b d) → seat_in (room_in form whole.to) ≡ seat_after (run_on form seat rs) (readings_of parts)
  seat_is parts whole =
      ap (λ (f : Form). seat_in (room_in f whole.to)) (sym opened.form_is)
      ∙ ap seat_of (whole.room ∙ ap (λ (r : Response). r.run.room) (told_readings (run_at s rs) parts))
      ∙ ap (λ (k : Run). seat_after k (readings_of parts)) same_run

  -- the work on the device, for exactly these parts and for what was done of the input
  wrote : (parts : List (List ℕ)) → GoesWhole s rs (told_from_start (run_at s rs) parts) b d → Wrote form seat rs (accepted_records (run_on form seat rs) (readings_of parts)) a.device done
  wrote parts whole =
      let made = accepted_records (run_on form seat rs) (readings_of parts) in
      let told = told_from_start (run_at s rs) parts in
      record {
        opening = opening.good.added;
        opening_is = opening.good.syncs;
        opening_gate = opening.good.gate form rs;
        rest = actions_of runs.goes.part.steps;
        cut = refl;
        made =
            goes_writes form seat rs made told.run.history.records (records_are parts) s opened b d (text_steps told.texts) whole.to (actions_of runs.goes.part.steps)
            runs.goes.part.grew whole.goes;
      }

  wrote_part : AreFirstOf runs.rs' (made_by form seat rs a) → WrotePart status form seat rs (made_by form seat rs a) a.device done
  wrote_part first =
      let more = runs.goes.part.more in
      record {
        opening = opening.good.added;
        opening_is = opening.good.syncs;
        opening_gate = opening.good.gate form rs;
        rest = actions_of runs.goes.part.steps;
        cut = refl;
        later = more.later;
        first = subst (λ (l : List Record). AreFirstOf l (made_by form seat rs a)) more.cut first;
        made =
            wrote_at form seat rs more.later runs.rs' more.cut s opened b d runs.goes.said status runs.goes.part
            (λ other. elim runs.goes.whole [ inl on ↦ (on.to, on.goes) | inr fails ↦ absurd (other fails) ]);
      }

  -- what was done for exactly these parts
  replayed : (parts : List (List ℕ)) → GoesWhole s rs (told_from_start (run_at s rs) parts) b d → Replayed form seat rs (written parts) done a d
  replayed parts whole =
      let told = told_from_start (run_at s rs) parts in
      let same : actions_of runs.goes.part.steps ≡ actions_of whole.goes.steps =
      append_cancel_left b.trace (actions_of runs.goes.part.steps) (actions_of whole.goes.steps) (sym runs.goes.part.grew ∙ whole.goes.grew) in
      record {
        out =
            sent ∙ ap outputs_of same
            ∙ goes_outputs (form_under s) (seat_under s) rs told.run.history.records told.texts b d whole.to whole.goes
            ∙ ap (λ (t : List Text). emits (each_bytes t)) (texts_are parts);
        stands =
            subst (λ (to : Seat). DeviceStandsFor form to (records_for (run_on form seat rs) rs (written parts)) d.device) (seat_is parts whole)
            (subst (λ (l : List Record). DeviceStandsFor form (seat_in (room_in form whole.to)) l d.device) (records_are parts)
            (stands_in_room form whole.to told.run.history.records d.device
            (rests_stands form whole.to told.run.history.records d.device stands.form_is whole.history (λ halved. whole.goes.few (few_stand form seat rs a.device stands))
            (rests_now form seat rs s a b opening stands whole.to told.run.history.records (text_steps told.texts) d whole.goes))));
        ends =
            subst (λ (l : List Record). EndsAtRest form rs l done a d) (records_are parts)
            (subst (λ (l : List Action). EndsAtRest form rs told.run.history.records (opening.good.added ++ l) a d) (sym same)
            (ends_at_rest form seat rs s a b opening stands whole.to told.run.history.records (text_steps told.texts) d whole.goes));
        wrote = wrote parts whole;
      }

  -- ---- where it ends

  made_first : AreFirstOf runs.rs' (made_by form seat rs a)
  made_first =
      let told : (told_from_start (run_at s rs) (line_parts (b.left 0))).run.history.records ≡ made_by form seat rs a =
      ap (λ (l : List (List ℕ)). (told_from_start (run_at s rs) l).run.history.records) input ∙ records_are (line_parts (a.left 0)) in
      subst (λ (l : List Record). AreFirstOf runs.rs' l) told runs.records

  ended_somewhere : (status ≡ 6 → ⊥) → EndsSomewhere form seat rs done a d
  ended_somewhere other =
      elim runs.goes.whole [
        | inl on ↦
            let goes = on.goes in
            let same : actions_of runs.goes.part.steps ≡ actions_of goes.steps =
            append_cancel_left b.trace (actions_of runs.goes.part.steps) (actions_of goes.steps) (sym runs.goes.part.grew ∙ goes.grew) in
            inr (
            record {
              made = runs.rs';
              more = goes.more;
              history = goes.history stands.history;
              first = made_first;
              ends =
                  subst (λ (l : List Action). EndsAtRest form rs runs.rs' (opening.good.added ++ l) a d) (sym same)
                  (ends_at_rest form seat rs s a b opening stands on.to runs.rs' runs.goes.said d goes);
            }
            )
        | inr fails ↦ absurd (other fails)
      ]

  pub replay_on : (status ≡ 4 → ⊥) → TakesIn took b d → (status ≡ 8) ↔ (length took ≡ MOST_INPUT + 1) → length took ≤ MOST_INPUT + 1 → ReplayOn status form seat rs a d
  replay_on not_device takes long bound =
      record {
        took = took;
        takes =
            record {
              bytes = ap (λ (l : ℕ → List ℕ). l 0) (sym opening.good.left) ∙ takes.bytes;
              others = λ ch other. takes.others ch other ∙ ap (λ (l : ℕ → List ℕ). l ch) opening.good.left;
            };
        actions = done;
        grew = trace_grew;
        kinds = kinds_behind opening.good.added (actions_of runs.goes.part.steps) opening.good.on_device (part_kinds (form_under s) (seat_under s) rs runs.rs' (told_from_start (run_at s rs) (line_parts (b.left 0))).texts b d (status ≡ 6) runs.goes);
        out = went_out;
        whole =
            λ e.
            let all = runs.whole e in (
              all.0,
              subst (λ (l : List (List ℕ)). Replayed form seat rs (filter (λ (part : List ℕ). not (is_blank part)) l) done a d) input (replayed (line_parts (b.left 0)) all.1),
            );
        stopped = λ e. replayed (all_but_last (line_parts (take MOST_INPUT took))) (runs.stopped e);
        long = long;
        bound = bound;
        ended = ended_somewhere;
        wrote = wrote_part made_first;
        other_device = not_device;
      }

  -- ---- each moment

  pub every_moment : EveryMoment form seat rs a d
  every_moment =
      moments_opened (status ≡ 6) form seat rs (made_by form seat rs a) runs.rs' (texts_for (run_on form seat rs) (lines_of (a.left 0))) s a b d opening stands
      (made_legal form seat rs a stands) made_first (subst (λ (t : List Text). TextsGoPart (status ≡ 6) (form_under s) (seat_under s) rs runs.rs' t b d) all_texts runs.goes)
