-- What parts of the input are told in a row: what the readings of those that aren't blank are told.
use Rattle.std.proofs.Common.{◌≡◌, ℕ, Bool, true, false, cond, not, List, [], ◌∷◌, ◌++◌, map, filter, Some, refl, sym, ap, ◌∙◌, append-nil, append_assoc}
use Rattle.iss_model.specs.declared.input.Record.{Record}
use Rattle.iss_model.specs.rules.Histories.{history_of}
use Rattle.iss_model.specs.run.Transcripts.{Reading, Text}
use Rattle.iss_model.specs.run.Runs.{Run, Response, response, line_texts, run_after, accepted_records, first_texts, transcript_of}
use Rattle.iss_agreement.proofs.Records.{records_history}
use Rattle.iss_agreement.proofs.RunLaws.{records_after}
use Rattle.iss_opening.specs.Values.{StoreNow, room_of}
use Rattle.iss_device.specs.Runs.{run_at}
use Rattle.iss_top.specs.Lines.{is_blank}
use Rattle.iss_top.specs.Dry.{reading_of}
use Rattle.iss_standing.specs.Goings.{AreFirstOf}
use Rattle.iss_top.specs.Replaying.{told_line, told_lines, then_told, IsSameDevice}
use Rattle.iss_top.proofs.Continues.{kept_instance, same_run, history_left}

-- ---- in a row

then_told_append : (xs ys : List Text) (r : Response) → then_told xs (then_told ys r) ≡ then_told (xs ++ ys) r
then_told_append xs ys r = λ i. record { run = r.run; texts = sym (append_assoc xs ys r.texts) i }

-- first the ones and then the others
pub told_then_told : (s : Run) (xs ys : List (List ℕ)) → told_lines s (xs ++ ys) ≡ then_told (told_lines s xs).texts (told_lines (told_lines s xs).run ys)
told_then_told s [] ys = refl
told_then_told s (x ∷ xs) ys =
    let now = told_line s x in
    ap (then_told now.texts) (told_then_told now.run xs ys)
    ∙ then_told_append now.texts (told_lines now.run xs).texts (told_lines (told_lines now.run xs).run ys)

told_alone : (s : Run) (line : List ℕ) → told_lines s (line ∷ []) ≡ told_line s line
told_alone s line = λ i. record { run = (told_line s line).run; texts = append-nil (told_line s line).texts i }

-- one more
pub told_one_more : (s : Run) (xs : List (List ℕ)) (line : List ℕ) → told_lines s (xs ++ line ∷ []) ≡ then_told (told_lines s xs).texts (told_line (told_lines s xs).run line)
told_one_more s xs line =
    told_then_told s xs (line ∷ []) ∙ ap (then_told (told_lines s xs).texts) (told_alone (told_lines s xs).run line)

-- ---- by their readings

-- the readings of the parts that aren't blank
abbrev pub readings_of : List (List ℕ) → List Reading
readings_of parts = map reading_of (filter (λ (part : List ℕ). not (is_blank part)) parts)

abbrev nothing_told : Run → Response
nothing_told s = record { run = s; texts = [] }

abbrev response_to : Run → List Reading → Response
response_to s lines = record { run = run_after s lines; texts = line_texts s lines }

abbrev told_where : Bool → Run → List ℕ → Response
told_where blank s line = cond blank (nothing_told s) (response s (reading_of line))

told_first : (s : Run) (line : List ℕ) (lines kept : List (List ℕ)) (blank : Bool) → told_lines s lines ≡ response_to s (map reading_of kept)
    → told_lines (response s (reading_of line)).run lines ≡ response_to (response s (reading_of line)).run (map reading_of kept)
    → then_told (told_where blank s line).texts (told_lines (told_where blank s line).run lines) ≡ response_to s (map reading_of (cond (not blank) (line ∷ kept) kept))
told_first s line lines kept true e f = e
told_first s line lines kept false e f = ap (then_told (response s (reading_of line)).texts) f

pub told_readings : (s : Run) (parts : List (List ℕ)) → told_lines s parts ≡ response_to s (readings_of parts)
unfolding told_line
told_readings s [] = refl
told_readings s (line ∷ lines) =
    told_first s line lines (filter (λ (part : List ℕ). not (is_blank part)) lines) (is_blank line) (told_readings s lines)
    (told_readings (response s (reading_of line)).run lines)

-- ---- what stands after them

-- the records that stood, and those that the lines made
pub told_records : (s : Run) (parts : List (List ℕ)) → (told_lines s parts).run.history.records ≡ s.history.records ++ accepted_records s (readings_of parts)
told_records s parts =
    ap (λ (r : Response). r.run.history.records) (told_readings s parts) ∙ records_after s (readings_of parts)

-- the records of the first lines come first
pub records_first : (s : Run) (parts : List (List ℕ)) → AreFirstOf s.history.records (told_lines s parts).run.history.records
records_first s parts = record { later = accepted_records s (readings_of parts); cut = told_records s parts }

-- what this says and what then stands comes first among that
pub record ComesFirst (first all : Response) : Type 0 where
  pub later : List Text
  pub cut : first.texts ++ later ≡ all.texts
  pub records : AreFirstOf first.run.history.records all.run.history.records

pub first_parts : (s : Run) (parts later : List (List ℕ)) → ComesFirst (told_lines s parts) (told_lines s (parts ++ later))
first_parts s parts later =
    let now = told_lines s parts in
    record {
      later = (told_lines now.run later).texts;
      cut = ap (λ (r : Response). r.texts) (sym (told_then_told s parts later));
      records =
          record {
            later = accepted_records now.run (readings_of later);
            cut = ap (λ (r : Response). r.run.history.records) (told_then_told s parts later) ∙ told_records now.run later;
          };
    }

-- a store on the same device that stands for the records which then stand, in the room that is left, is where the run is
pub run_then : (opened s : StoreNow) (rs : List Record) (parts : List (List ℕ)) → IsSameDevice opened s → room_of s ≡ (told_lines (run_at opened rs) parts).run.room
    → run_at s (told_lines (run_at opened rs) parts).run.history.records ≡ (told_lines (run_at opened rs) parts).run
run_then opened s rs parts same room =
    let run = run_at opened rs in
    let now = told_lines run parts in
    let made = accepted_records run (readings_of parts) in
    let is : now.run ≡ run_after run (readings_of parts) = ap (λ (r : Response). r.run) (told_readings run parts) in
    let records : now.run.history.records ≡ rs ++ made = told_records run parts ∙ ap (λ (l : List Record). l ++ made) (records_history rs) in
    same_run (run_at s now.run.history.records) now.run
    (same.instance ∙ sym (kept_instance run (readings_of parts)) ∙ sym (ap (λ (k : Run). k.instance) is)) room
    (ap history_of records ∙ sym (history_left opened.core.instance (room_of opened) rs (readings_of parts)) ∙ sym (ap (λ (k : Run). k.history) is))

-- ---- with the texts with which a run begins

-- the texts with which a run begins, and then what parts of the input are told
abbrev pub told_from_start : Run → List (List ℕ) → Response
told_from_start s parts = then_told (first_texts s) (told_lines s parts)

pub transcript_told : (s : Run) (parts : List (List ℕ)) → (told_from_start s parts).texts ≡ transcript_of s (readings_of parts)
unfolding transcript_of
transcript_told s parts = ap (λ (r : Response). first_texts s ++ r.texts) (told_readings s parts)
