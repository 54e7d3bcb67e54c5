-- A run on a device from its opening to each of its ends, line by line.
use Rattle.std.proofs.Common.{◌≡◌, ℕ, ◌≤◌, inl, inr, false, List, [], ◌∷◌, ◌++◌, take, Err, refl, sym, ap, subst, ◌∙◌, arith}
use Rattle.std.specs.Prelude.{◌⊎◌, Some}
use Rattle.iss_edge.specs.World.{World}
use Rattle.iss_halves.specs.Forms.{Form, Seat}
use Rattle.iss_model.specs.declared.input.Record.{Record}
use Rattle.iss_model.specs.declared.limits.TheConstants.{MOST_INPUT}
use Rattle.iss_model.specs.run.Transcripts.{Text}
use Rattle.iss_model.specs.run.Runs.{Run, Response}
use Rattle.iss_agreement.proofs.Records.{records_history}
use Rattle.iss_opening.specs.Values.{StoreNow, form_under, seat_under, room_of}
use Rattle.iss_opening.specs.Standing.{StandsFor}
use Rattle.iss_standing.specs.Rooms.{room_in}
use Rattle.iss_standing.specs.Goings.{AreFirstOf}
use Rattle.iss_standing.proofs.Goings as joins
use Rattle.iss_standing.proofs.Bodies.{first_then}
use Rattle.iss_device.specs.Runs.{run_at}
use Rattle.iss_top.specs.declared.stop.Stop.{Stop}
use Rattle.iss_top.specs.declared.stop.Stop.TheVariants as stop
use Rattle.iss_top.specs.Statuses.{stop_status}
use Rattle.iss_top.specs.Lines.{line_parts, all_but_last}
use Rattle.iss_top.specs.Progress.{HasRead}
use Rattle.iss_top.specs.Reader.{ReaderNow, fresh_reader, IsToldAs, ReadsPart, ReadsNoPart, ReadsOn}
use Rattle.iss_top.specs.Replaying.{told_line, told_lines, then_told, text_steps, TextsGo, TextsGoPart, GoesTo, GoesAs, GoesWhole, IsSameDevice, TakesAs, TakesPartAs, IsReplaying, RunsOnBook, RunsFrom}
use Rattle.iss_top.proofs.Goings.{goes_nothing, goes_then, goes_then_part, goes_part, part_more, part_fails}
use Rattle.iss_top.proofs.Parts.{has_read_begins, has_read_next, has_read_on, parts_first, parts_over, parts_stopped}
use Rattle.iss_top.proofs.ToldAs.{same_told}
use Rattle.iss_top.proofs.ToldLines.{ComesFirst, first_parts, told_one_more, run_then}

-- ---- the same on what changes nothing, and on the same device

-- the status of a run that ended so
abbrev pub ends_with : Stop → ℕ
ends_with why = stop_status {A = Unit {0}} (Err why)

-- some of what the first parts are told is some of what all are told
goes_first : (failed : Type 0) (form : Form) (x : Seat) (rs rs' : List Record) (first all : Response) (a b : World) → ComesFirst first all → TextsGoPart failed form x rs rs' first.texts a b → TextsGoPart failed form x rs rs' all.texts a b
goes_first failed form x rs rs' first all a b more f =
    subst (λ (t : List Text). TextsGoPart failed form x rs rs' t a b) more.cut (part_more failed form x rs rs' first.texts more.later a b f)

-- the parts that were read come first among those of the input
first_of_input : (s : Run) (parts : List (List ℕ)) (now : ReaderNow) (a b : World) → HasRead parts now a b → ComesFirst (told_lines s parts) (told_lines s (line_parts (a.left 0)))
first_of_input s parts now a b read =
    let first = parts_first parts now a b read in
    subst (λ (l : List (List ℕ)). ComesFirst (told_lines s parts) (told_lines s l)) (sym first.cut) (first_parts s parts first.later)

-- what neither does anything nor changes the device
goes_still : (form : Form) (x y : Seat) (rs : List Record) (told : Response) (a b c : World) → GoesTo form x y rs told a b → c.device ≡ b.device → c.trace ≡ b.trace → GoesTo form x y rs told a c
goes_still form x y rs told a b c f same trace = joins.goes_still form x y rs told.run.history.records (text_steps told.texts) a b c f same trace

same_then : (s s' s'' : StoreNow) → IsSameDevice s s' → IsSameDevice s' s'' → IsSameDevice s s''
same_then s s' s'' p q = record { instance = q.instance ∙ p.instance; form = q.form ∙ p.form }

-- ---- on the way

-- what a line is told on a store is what its part of the input is told where the run is
told_there : (opened s : StoreNow) (rs : List Record) (parts : List (List ℕ)) (line part : List ℕ) → IsSameDevice opened s → room_of s ≡ (told_lines (run_at opened rs) parts).run.room → IsToldAs line part
    → told_line (run_at s (told_lines (run_at opened rs) parts).run.history.records) line ≡ told_line (told_lines (run_at opened rs) parts).run part
told_there opened s rs parts line part same room alike =
    ap (λ (k : Run). told_line k line) (run_then opened s rs parts same room)
    ∙ same_told (told_lines (run_at opened rs) parts).run line part alike

pub way_begins : (s : StoreNow) (now : ReaderNow) (a : World) → now ≡ fresh_reader → IsReplaying s s now a a
way_begins s now a fresh =
    record {
      parts = [];
      read = has_read_begins now a fresh;
      same = record { instance = refl; form = refl };
      on_book =
          λ rs stands.
          record {
            stands = subst (λ (l : List Record). StandsFor s l) (sym (records_history rs)) stands;
            room = refl;
            goes =
                subst (λ (l : List Record). TextsGo (form_under s) (seat_under s) (seat_under s) rs l [] a a) (sym (records_history rs))
                (goes_nothing (form_under s) (seat_under s) rs a);
          };
    }

-- a part of the input was read, and then its line was taken on this store
module _ (opened s : StoreNow) (before now : ReaderNow) (a b c : World) (way : IsReplaying opened s before a b) (going : before.ended ≡ false) (reads : ReadsPart before now b c) where
  read_then : (d : World) → d.left ≡ c.left → HasRead (way.parts ++ reads.part ∷ []) now a d
  read_then d left =
      has_read_on (way.parts ++ reads.part ∷ []) now a c d (has_read_next way.parts before now a b c going way.read reads) left

  -- what was done until the line was taken
  goes_until : (rs : List Record) → StandsFor opened rs → GoesTo (form_under opened) (seat_under opened) (seat_under s) rs (told_lines (run_at opened rs) way.parts) a c
  goes_until rs stands =
      goes_still (form_under opened) (seat_under opened) (seat_under s) rs (told_lines (run_at opened rs) way.parts) a b c (way.on_book rs stands).goes reads.takes.device reads.takes.trace

  -- what the line is told, after the others, is what the parts are told with its part
  told_more : (rs : List Record) → StandsFor opened rs → then_told (told_lines (run_at opened rs) way.parts).texts (told_line (run_at s (told_lines (run_at opened rs) way.parts).run.history.records) now.line) ≡ told_lines (run_at opened rs) (way.parts ++ reads.part ∷ [])
  told_more rs stands =
      ap (then_told (told_lines (run_at opened rs) way.parts).texts) (told_there opened s rs way.parts now.line reads.part way.same (way.on_book rs stands).room reads.line)
      ∙ sym (told_one_more (run_at opened rs) way.parts reads.part)

  taken_goes : (s' : StoreNow) (d : World) → TakesAs (λ k. told_line k now.line) s s' c d → (rs : List Record) → StandsFor opened rs
      → GoesAs (told_lines (run_at opened rs) (way.parts ++ reads.part ∷ [])) opened s' rs a d
  taken_goes s' d taken rs stands =
      let told = told_lines (run_at opened rs) way.parts in
      let line = told_line (run_at s told.run.history.records) now.line in
      let done = taken.on_book told.run.history.records (way.on_book rs stands).stands in
      let there : GoesTo (form_under opened) (seat_under s) (seat_under s') told.run.history.records line c d =
      subst (λ (form : Form). GoesTo form (seat_under s) (seat_under s') told.run.history.records line c d) way.same.form done.goes in
      subst (λ (r : Response). GoesAs r opened s' rs a d) (told_more rs stands)
      (record {
        stands = done.stands;
        room = done.room;
        goes =
            goes_then (form_under opened) (seat_under opened) (seat_under s) (seat_under s') rs told.run.history.records line.run.history.records told.texts line.texts a c d
            (goes_until rs stands) there;
      })

  pub way_goes_on : (s' : StoreNow) (d : World) → TakesAs (λ k. told_line k now.line) s s' c d → IsReplaying opened s' now a d
  way_goes_on s' d taken =
      record {
        parts = way.parts ++ reads.part ∷ [];
        read = read_then d taken.left;
        same = same_then opened s s' way.same taken.same;
        on_book = taken_goes s' d taken;
      }

  -- some of what it is told went out
  taken_part : (failed : Type 0) (d : World) (status : ℕ) (took : List ℕ) → (status ≡ 0 → ⊥) → (status ≡ 3 → ⊥) → (status ≡ 8 → ⊥) → (failed → status ≡ 6) → TakesPartAs failed (λ k. told_line k now.line) s c d → (rs : List Record) → StandsFor opened rs → RunsOnBook status opened rs took a d
  taken_part failed d status took not_done not_input not_long fails taken rs stands =
      let form = form_under opened in
      let from = seat_under opened in
      let told = told_lines (run_at opened rs) way.parts in
      let line = told_line (run_at s told.run.history.records) now.line in
      let more = told_lines (run_at opened rs) (way.parts ++ reads.part ∷ []) in
      let first : ComesFirst more (told_lines (run_at opened rs) (line_parts (a.left 0))) =
      first_of_input (run_at opened rs) (way.parts ++ reads.part ∷ []) now a d (read_then d taken.left) in
      let some = taken.on_book told.run.history.records (way.on_book rs stands).stands in
      let there : TextsGoPart failed form (seat_under s) told.run.history.records some.rs' line.texts c d =
      subst (λ (f : Form). TextsGoPart failed f (seat_under s) told.run.history.records some.rs' line.texts c d) way.same.form some.goes in
      let part : TextsGoPart failed form from rs some.rs' (told.texts ++ line.texts) a d =
      goes_then_part failed form from (seat_under s) rs told.run.history.records some.rs' told.texts line.texts a c d (goes_until rs stands) there in
      let made : AreFirstOf some.rs' more.run.history.records =
      subst (λ (r : Response). AreFirstOf some.rs' r.run.history.records) (told_more rs stands) some.records in
      record {
        rs' = some.rs';
        records = first_then some.rs' more.run.history.records (told_lines (run_at opened rs) (line_parts (a.left 0))).run.history.records made first.records;
        goes =
            goes_first (status ≡ 6) form from rs some.rs' more (told_lines (run_at opened rs) (line_parts (a.left 0))) a d first
            (subst (λ (r : Response). TextsGoPart (status ≡ 6) form from rs some.rs' r.texts a d) (told_more rs stands)
            (part_fails failed (status ≡ 6) form from rs some.rs' (told.texts ++ line.texts) a d fails part));
        whole = λ e. absurd (not_done e);
        stopped = λ e. elim e [ inl at ↦ absurd (not_input at) | inr at ↦ absurd (not_long at) ];
      }

  pub ends_in_line : (failed : Type 0) (d : World) (status : ℕ) → (status ≡ 0 → ⊥) → (status ≡ 3 → ⊥) → (status ≡ 8 → ⊥) → (failed → status ≡ 6) → TakesPartAs failed (λ k. told_line k now.line) s c d → RunsFrom status opened a d
  ends_in_line failed d status not_done not_input not_long fails taken =
      let read = read_then d taken.left in
      record {
        took = read.took;
        takes = read.takes;
        on_book = taken_part failed d status read.took not_done not_input not_long fails taken;
        long = (λ e. absurd (not_long e), λ e. absurd (omega (arith, read.count, reads.bound, e)));
        bound = omega (arith, read.count, reads.bound);
      }

-- ---- the other ends

-- what was done so far, when nothing more was
still_goes : (opened s : StoreNow) (rs : List Record) (told : Response) (a b c : World) → GoesAs told opened s rs a b → form_under s ≡ form_under opened → c.device ≡ b.device → c.trace ≡ b.trace → GoesWhole opened rs told a c
still_goes opened s rs told a b c done same device trace =
    record {
      to = seat_under s;
      room = ap (λ (form : Form). Some (room_in form (seat_under s))) (sym same) ∙ done.room;
      goes = goes_still (form_under opened) (seat_under opened) (seat_under s) rs told a b c done.goes device trace;
      history = done.stands.history;
    }

-- it is some of what the whole input is told
all_as_part : (status : ℕ) (opened : StoreNow) (rs : List Record) (told all : Response) (a c : World) → ComesFirst told all → GoesWhole opened rs told a c
    → TextsGoPart (status ≡ 6) (form_under opened) (seat_under opened) rs told.run.history.records all.texts a c
all_as_part status opened rs told all a c first whole =
    goes_first (status ≡ 6) (form_under opened) (seat_under opened) rs told.run.history.records told all a c first
    (goes_part (status ≡ 6) (form_under opened) (seat_under opened) whole.to rs told.run.history.records told.texts a c whole.goes)

-- no line was read
ends_before : (opened s : StoreNow) (now : ReaderNow) (took : List ℕ) (a b c : World) (status : ℕ) (way : IsReplaying opened s now a b) → c.device ≡ b.device → c.trace ≡ b.trace
    → (status ≡ 0 → ⊥) → ((status ≡ 3) ⊎ (status ≡ 8) → all_but_last (line_parts (take MOST_INPUT took)) ≡ way.parts) → (rs : List Record) → StandsFor opened rs → RunsOnBook status opened rs took a c
ends_before opened s now took a b c status way device trace not_done stopped rs stands =
    let told = told_lines (run_at opened rs) way.parts in
    let done = way.on_book rs stands in
    let first = first_of_input (run_at opened rs) way.parts now a b way.read in
    let goes = still_goes opened s rs told a b c done way.same.form device trace in
    record {
      rs' = told.run.history.records;
      records = first.records;
      goes = all_as_part status opened rs told (told_lines (run_at opened rs) (line_parts (a.left 0))) a c first goes;
      whole = λ e. absurd (not_done e);
      stopped = λ e. subst (λ (l : List (List ℕ)). GoesWhole opened rs (told_lines (run_at opened rs) l) a c) (sym (stopped e)) goes;
    }

not_for_memory : (why : Stop) → (ends_with why ≡ 3) ⊎ (ends_with why ≡ 8) → why ≡ stop.Memory → ⊥
not_for_memory why e memory =
    let seven : ends_with why ≡ 7 = ap ends_with memory in
    elim e [ inl three ↦ absurd (omega (arith, seven, three)) | inr eight ↦ absurd (omega (arith, seven, eight)) ]

long_is : (why : Stop) → ends_with why ≡ 8 → why ≡ stop.InputLong
long_is stop.Input e = absurd cc
long_is stop.Device e = absurd cc
long_is stop.Output e = absurd cc
long_is stop.Disk e = absurd cc
long_is stop.Memory e = absurd cc
long_is stop.InputLong e = refl

-- reading failed
pub ends_reading : (opened s : StoreNow) (now : ReaderNow) (why : Stop) (a b c : World) → (ends_with why ≡ 0 → ⊥) → IsReplaying opened s now a b → ReadsNoPart now why b c → RunsFrom (ends_with why) opened a c
ends_reading opened s now why a b c not_done way reads =
    let took = way.read.took ++ reads.took in
    let stops = parts_stopped way.parts now why a b c way.read reads in
    record {
      took = took;
      takes = stops.takes;
      on_book =
          ends_before opened s now took a b c (ends_with why) way reads.takes.device reads.takes.trace not_done
          (λ e. stops.ended (not_for_memory why e));
      long = (λ e. stops.long.0 (long_is why e), λ e. ap ends_with (stops.long.1 e));
      bound = stops.bound;
    }

-- nothing was done, since an allocation failed
pub ends_at_start : (opened : StoreNow) (a : World) → RunsFrom 7 opened a a
ends_at_start opened a =
    record {
      took = [];
      takes = record { bytes = refl; others = λ ch other. refl };
      on_book =
          ends_before opened opened fresh_reader [] a a a 7 (way_begins opened fresh_reader a refl) refl refl (λ e. cc)
          (λ e. elim e [ inl at ↦ cc | inr at ↦ cc ]);
      long = (λ e. cc, λ e. absurd (omega (arith, e)));
      bound = omega arith;
    }

-- the input came to its end
pub ends_well : (opened s : StoreNow) (before now : ReaderNow) (a b c : World) → before.taken ≤ MOST_INPUT → IsReplaying opened s before a b → ReadsOn false before now b c → RunsFrom 0 opened a c
ends_well opened s before now a b c le way over =
    let read = has_read_on way.parts before a b c way.read over.2.left in
    let all = parts_over way.parts before now a b c way.read over in
    record {
      took = read.took;
      takes = read.takes;
      on_book =
          λ rs stands.
          let told = told_lines (run_at opened rs) way.parts in
          let done = way.on_book rs stands in
          let first = first_of_input (run_at opened rs) way.parts before a b way.read in
          let goes = still_goes opened s rs told a b c done way.same.form over.2.device over.2.trace in
          record {
            rs' = told.run.history.records;
            records = first.records;
            goes = all_as_part 0 opened rs told (told_lines (run_at opened rs) (line_parts (a.left 0))) a c first goes;
            whole =
                λ e. (
                  all.1,
                  subst (λ (l : List (List ℕ)). GoesWhole opened rs (told_lines (run_at opened rs) l) a c) (sym all.0) goes,
                );
            stopped = λ e. elim e [ inl at ↦ cc | inr at ↦ cc ];
          };
      long = (λ e. cc, λ e. absurd (omega (arith, read.count, le, e)));
      bound = omega (arith, read.count, le);
    }
