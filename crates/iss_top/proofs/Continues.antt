-- A second run on a device continues the first.
use Rattle.std.proofs.Common.{◌≡◌, ℕ, Bool, true, false, cond, not, nat_le, List, [], ◌∷◌, ◌++◌, length, Option, Some, None, refl, sym, ap, subst, ◌∙◌, append_assoc}
use Rattle.std.specs.Prelude.{unwrap_or}
use Rattle.std.proofs.lemmas.List.Sums.{fold-append}
use Rattle.iss_halves.specs.Forms.{Form, Seat}
use Rattle.iss_model.specs.declared.input.Record.{Record}
use Rattle.iss_model.specs.rules.Stepping.{step}
use Rattle.iss_model.specs.rules.Histories.{History, nothing_yet, history_keeper, history_of}
use Rattle.iss_model.specs.run.Transcripts.{Reading, sound, faulty, Text}
use Rattle.iss_model.specs.run.Rooms.{Room, need_of, free_in, room_after, record_made, room_left}
use Rattle.iss_model.specs.run.Runs.{Run, response, judgement_in, line_texts, run_after, accepted_records, first_texts, transcript_of}
use Rattle.iss_agreement.proofs.RunLaws.{history_after, texts_then}
use Rattle.iss_standing.specs.Rooms.{room_in, seat_of}
use Rattle.iss_device.specs.Runs.{run_on}
use Rattle.iss_top.specs.Replays.{seat_after, TranscriptsContinue}

-- ---- the room of a run on a device

-- the room is that of this form, at the seat that it has
abbrev pub IsRoomIn : Form → Option Room → Type 0
IsRoomIn form room = room ≡ Some (room_in form (seat_of room))

abbrev form_in : Bool → ℕ → ℕ → Form
form_in halved instance size = record { halved = halved; instance = instance; size = size }

begins_as : (halved : Bool) (instance size : ℕ) (seat : Seat) → IsRoomIn (form_in halved instance size) (Some (room_in (form_in halved instance size) seat))
begins_as true instance size seat = refl
begins_as false instance size seat = refl

pub begins_in : (form : Form) (seat : Seat) → IsRoomIn form (Some (room_in form seat))
begins_in form seat = begins_as form.halved form.instance form.size seat

-- the other half is current after a turn, and the same without one
turned_in : (instance size point : ℕ) (seat : Seat) (turns : Bool)
    → let room = room_in (form_in true instance size) seat in IsRoomIn (form_in true instance size) (Some (cond turns (record room { second = not room.second; point = point }) room))
turned_in instance size point seat true = refl
turned_in instance size point seat false = refl

after_as : (halved : Bool) (instance size : ℕ) (seat : Seat) (rs : List Record) (r : Record) → IsRoomIn (form_in halved instance size) (Some (room_after (room_in (form_in halved instance size) seat) rs r))
after_as true instance size seat rs r =
    turned_in instance size (length rs) seat (not (nat_le (need_of r) (free_in (room_in (form_in true instance size) seat) rs)))
after_as false instance size seat rs r = refl

left_in : (form : Form) (room : Option Room) (rs : List Record) (made : Option Record) → IsRoomIn form room → IsRoomIn form (room_left room rs made)
left_in form room rs None is = is
left_in form room rs (Some r) is =
    subst (λ (x : Option Room). IsRoomIn form (room_left x rs (Some r))) (sym is) (after_as form.halved form.instance form.size (seat_of room) rs r)

pub kept_room : (form : Form) (s : Run) (lines : List Reading) → IsRoomIn form s.room → IsRoomIn form (run_after s lines).room
kept_room form s [] is = is
kept_room form s (sound i at ∷ lines) is =
    kept_room form (response s (sound i at)).run lines
    (left_in form s.room s.history.records (record_made (judgement_in s i (unwrap_or at 0))) is)
kept_room form s (faulty text ∷ lines) is = kept_room form s lines is

-- ---- what stands after lines

pub kept_instance : (s : Run) (lines : List Reading) → (run_after s lines).instance ≡ s.instance
kept_instance s [] = refl
kept_instance s (sound i at ∷ lines) = kept_instance (response s (sound i at)).run lines
kept_instance s (faulty text ∷ lines) = kept_instance s lines

pub same_run : (a b : Run) → a.instance ≡ b.instance → a.room ≡ b.room → a.history ≡ b.history → a ≡ b
same_run a b e f g = λ i. record { instance = e i; room = f i; history = g i }

-- a run on these records
abbrev standing : ℕ → Option Room → List Record → Run
standing instance room rs = record { instance = instance; room = room; history = history_of rs }

pub history_left : (instance : ℕ) (room : Option Room) (rs : List Record) (lines : List Reading)
    → (run_after (standing instance room rs) lines).history ≡ history_of (rs ++ accepted_records (standing instance room rs) lines)
history_left instance room rs lines =
    let s = standing instance room rs in
    history_after s lines ∙ sym (fold-append (λ (h : History) (r : Record). (step history_keeper h r).world) nothing_yet rs (accepted_records s lines))

-- what stands after lines is what stands on the records that they left, in the room that they left
run_left : (form : Form) (seat : Seat) (rs : List Record) (lines : List Reading)
    → run_after (run_on form seat rs) lines ≡ run_on form (seat_after (run_on form seat rs) lines) (rs ++ accepted_records (run_on form seat rs) lines)
run_left form seat rs lines =
    let s = run_on form seat rs in
    same_run (run_after s lines) (run_on form (seat_after s lines) (rs ++ accepted_records s lines)) (kept_instance s lines)
    (kept_room form s lines (begins_in form seat)) (history_left form.instance (Some (room_in form seat)) rs lines)

pub transcripts_continue : TranscriptsContinue
unfolding transcript_of
transcripts_continue form seat rs xs ys =
    let s = run_on form seat rs in
    ap (λ (t : List Text). first_texts s ++ t) (texts_then s xs ys)
    ∙ sym (append_assoc (first_texts s) (line_texts s xs) (line_texts (run_after s xs) ys))
    ∙ ap (λ (r : Run). (first_texts s ++ line_texts s xs) ++ line_texts r ys) (run_left form seat rs xs)
