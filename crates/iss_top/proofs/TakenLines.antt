-- A line is taken: nothing if it is blank, and else what it is read as.
use Rattle.std.proofs.Common.{◌≡◌, ℕ, Bool, true, false, cond, List, [], ◌∷◌, Option, Ok, Err, refl, sym, ap, subst, ◌∙◌}
use Rattle.iss_edge.specs.World.{World, Told}
use Rattle.iss_edge.proofs.Tolds.{told_map, told_self}
use Rattle.iss_model.specs.declared.input.Record.{Record}
use Rattle.iss_model.specs.rules.Histories.{history_of}
use Rattle.iss_model.specs.run.Runs.{Run, Response, response}
use Rattle.iss_model.specs.run.Transcripts.{Reading, sound, faulty}
use Rattle.iss_agreement.proofs.Records.{records_history}
use Rattle.iss_event.specs.declared.line.Line.{Line}
use Rattle.iss_event.specs.declared.line.Mode.TheVariants.{Lines}
use Rattle.iss_event.specs.declared.line.FormFault.{FormFault}
use Rattle.iss_event.specs.Readings.{line_read}
use Rattle.iss_event.specs.FormLines.{form_text}
use Rattle.iss_opening.specs.Values.{StoreNow, form_under, seat_under}
use Rattle.iss_opening.specs.Standing.{StandsFor}
use Rattle.iss_texts.specs.Sending.{Says, SaysSome}
use Rattle.iss_device.specs.Runs.{run_at}
use Rattle.iss_top.specs.Dry.{as_reading, reading_of}
use Rattle.iss_top.specs.Lines.{is_blank}
use Rattle.iss_standing.specs.Goings.{AreFirstOf}
use Rattle.iss_top.specs.Replaying.{told_line, TextsGo, GoesSome, GoesAs, TakesAs, TakesPartAs}
use Rattle.iss_standing.proofs.Bodies.{first_self}
use Rattle.iss_top.proofs.Goings.{goes_nothing}
use Rattle.iss_top.proofs.Taken.{told_input, same_device, stays_and_says, says_in_part, response_first, KeepsRecords, nothing_taken}

-- what a line does to a run
abbrev pub line_told : List ℕ → Run → Response
line_told line = λ s. told_line s line

abbrev told_nothing : Run → Response
told_nothing s = record { run = s; texts = [] }

-- ---- told the same

takes_same : (f g : Run → Response) (s s' : StoreNow) (a b : World) → ((run : Run) → g run ≡ f run) → TakesAs f s s' a b → TakesAs g s s' a b
takes_same f g s s' a b same takes =
    record {
      left = takes.left;
      same = takes.same;
      on_book = λ rs stands.
          subst (λ (r : Response). GoesAs r s s' rs a b)
          (sym (same (run_at s rs))) (takes.on_book rs stands);
    }

part_same : (failed : Type 0) (f g : Run → Response) (s : StoreNow) (a b : World) → ((run : Run) → g run ≡ f run) → TakesPartAs failed f s a b → TakesPartAs failed g s a b
part_same failed f g s a b same part =
    record {
      left = part.left;
      on_book = λ rs stands.
          subst (λ (r : Response). GoesSome failed (form_under s) (seat_under s) rs r a b) (sym (same (run_at s rs))) (part.on_book rs stands);
    }

-- ---- what a line is read as

told_read : (line : List ℕ) (reading : Reading) (s : Run) → is_blank line ≡ false → reading_of line ≡ reading → told_line s line ≡ response s reading
unfolding told_line
told_read line reading s written read =
    ap (λ (b : Bool). cond b (told_nothing s) (response s (reading_of line))) written ∙ ap (response s) read

told_blank : (line : List ℕ) (s : Run) → is_blank line ≡ true → told_line s line ≡ told_nothing s
unfolding told_line
told_blank line s blank = ap (λ (b : Bool). cond b (told_nothing s) (response s (reading_of line))) blank

reads_sound : (line : List ℕ) (said : Line) → line_read Lines line ≡ Ok said → reading_of line ≡ sound said.input said.at
unfolding reading_of
reads_sound line said read = ap as_reading read

reads_fault : (line : List ℕ) (fault : FormFault) → line_read Lines line ≡ Err fault → reading_of line ≡ faulty (form_text fault)
unfolding reading_of
reads_fault line fault read = ap as_reading read

-- ---- a line by what it is

blank_takes : (line : List ℕ) (s : StoreNow) (a : World) → is_blank line ≡ true → TakesAs (line_told line) s s a a
blank_takes line s a blank =
    takes_same told_nothing (line_told line) s s a a (λ run. told_blank line run blank)
    (record {
      left = refl;
      same = same_device s;
      on_book = λ rs stands.
          record {
            stands = subst (λ (l : List Record). StandsFor s l) (sym (records_history rs)) stands;
            room = refl;
            goes =
                subst (λ (l : List Record). TextsGo (form_under s) (seat_under s) (seat_under s) rs l [] a a) (sym (records_history rs))
                (goes_nothing (form_under s) (seat_under s) rs a);
          };
    })

fault_takes : (line : List ℕ) (fault : FormFault) (s : StoreNow) (a b : World) → is_blank line ≡ false → line_read Lines line ≡ Err fault → Says (form_text fault ∷ []) a b → TakesAs (line_told line) s s a b
fault_takes line fault s a b written read says =
    takes_same (λ run. response run (faulty (form_text fault))) (line_told line) s s a b (λ run. told_read line (faulty (form_text fault)) run written (reads_fault line fault read))
    (record {
      left = says.left;
      same = same_device s;
      on_book = λ rs stands. stays_and_says s rs (form_text fault ∷ []) a b stands says;
    })

fault_takes_part : (failed : Type 0) (line : List ℕ) (fault : FormFault) (s : StoreNow) (a b : World) → is_blank line ≡ false → line_read Lines line ≡ Err fault → SaysSome (form_text fault ∷ []) a b → TakesPartAs failed (line_told line) s a b
fault_takes_part failed line fault s a b written read says =
    part_same failed (λ run. response run (faulty (form_text fault))) (line_told line) s a b (λ run. told_read line (faulty (form_text fault)) run written (reads_fault line fault read))
    (record {
      left = says.left;
      on_book = λ rs stands.
          says_in_part failed (form_under s) (seat_under s) rs (response (run_at s rs) (faulty (form_text fault))) (form_text fault ∷ []) a b (first_self (history_of rs).records) refl says;
    })

line_keeps : (line : List ℕ) (blank : Bool) → is_blank line ≡ blank → KeepsRecords (line_told line)
line_keeps line true blank s =
    subst (λ (r : Response). AreFirstOf s.history.records r.run.history.records) (sym (told_blank line s blank)) (first_self s.history.records)
line_keeps line false written s =
    subst (λ (r : Response). AreFirstOf s.history.records r.run.history.records) (sym (told_read line (reading_of line) s written refl)) (response_first s (reading_of line))

-- ---- the same of what an edge tells

pub told_blank_line : (line : List ℕ) (s : StoreNow) (x : Option World) → is_blank line ≡ true → Told (TakesAs (line_told line) s s) x x
told_blank_line line s x blank = told_self (TakesAs (line_told line) s s) x (λ a. blank_takes line s a blank)

pub told_fault_line : (line : List ℕ) (fault : FormFault) (s : StoreNow) (x y : Option World) → is_blank line ≡ false → line_read Lines line ≡ Err fault → Told (Says (form_text fault ∷ [])) x y
    → Told (TakesAs (line_told line) s s) x y
told_fault_line line fault s x y written read says =
    told_map (Says (form_text fault ∷ [])) (TakesAs (line_told line) s s) x y (λ a b. fault_takes line fault s a b written read) says

pub told_fault_part : (failed : Type 0) (line : List ℕ) (fault : FormFault) (s : StoreNow) (x y : Option World) → is_blank line ≡ false → line_read Lines line ≡ Err fault → Told (SaysSome (form_text fault ∷ [])) x y
    → Told (TakesPartAs failed (line_told line) s) x y
told_fault_part failed line fault s x y written read says =
    told_map (SaysSome (form_text fault ∷ [])) (TakesPartAs failed (line_told line) s) x y (λ a b. fault_takes_part failed line fault s a b written read) says

pub told_read_line : (line : List ℕ) (said : Line) (s s' : StoreNow) (x y : Option World) → is_blank line ≡ false → line_read Lines line ≡ Ok said → Told (TakesAs (told_input said.input said.at) s s') x y
    → Told (TakesAs (line_told line) s s') x y
told_read_line line said s s' x y written read takes =
    told_map (TakesAs (told_input said.input said.at) s s') (TakesAs (line_told line) s s') x y
    (λ a b. takes_same (told_input said.input said.at) (line_told line) s s' a b (λ run. told_read line (sound said.input said.at) run written (reads_sound line said read)))
    takes

pub told_read_part : (failed : Type 0) (line : List ℕ) (said : Line) (s : StoreNow) (x y : Option World) → is_blank line ≡ false → line_read Lines line ≡ Ok said → Told (TakesPartAs failed (told_input said.input said.at) s) x y
    → Told (TakesPartAs failed (line_told line) s) x y
told_read_part failed line said s x y written read part =
    told_map (TakesPartAs failed (told_input said.input said.at) s) (TakesPartAs failed (line_told line) s) x y
    (λ a b. part_same failed (told_input said.input said.at) (line_told line) s a b (λ run. told_read line (sound said.input said.at) run written (reads_sound line said read)))
    part

pub told_no_line : (failed : Type 0) (line : List ℕ) (s : StoreNow) (x : Option World) → Told (TakesPartAs failed (line_told line) s) x x
told_no_line failed line s x =
    told_self (TakesPartAs failed (line_told line) s) x (λ a. nothing_taken failed (line_told line) s a (line_keeps line (is_blank line) refl))
