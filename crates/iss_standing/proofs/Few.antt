-- A device stands for no more records than there may be: in one journal it has no room for more.
use Rattle.std.proofs.Common.{◌≡◌, ℕ, ◌*◌, ◌^◌, ◌≤◌, Bool, true, false, List, [], ◌∷◌, ◌++◌, length, take, drop, refl, ap, subst, arith, length-append}
use Rattle.std.specs.List.{list_all}
use Rattle.std.proofs.lemmas.Bool.{and_parts}
use Rattle.iss_journal.specs.Region.{Shows, body_with_length, frames}
use Rattle.iss_journal.specs.Header.{header}
use Rattle.iss_journal.specs.Formatting.{whole_device}
use Rattle.iss_journal.proofs.Records.{length-spelled}
use Rattle.iss_halves.specs.Forms.{Form, Seat}
use Rattle.iss_halves.specs.Standing.{HoldsOf}
use Rattle.iss_model.specs.declared.input.Record.{Record}
use Rattle.iss_model.specs.declared.limits.TheConstants.{MOST_RECORDS}
use Rattle.iss_model.specs.texts.Spelling.{spelling, is_record}
use Rattle.iss_standing.specs.Standing.{AreHistory, bodies_of, image_after, DeviceStandsFor}
use Rattle.iss_standing.proofs.Lengths.{record_body}

-- each spelled record takes at least six bytes
least_frames : (rs : List Record) → list_all is_record rs ≡ true → 6 * length rs ≤ length (frames (bodies_of rs))
least_frames [] spelled = omega arith
least_frames (r ∷ rs) spelled =
    let parts = and_parts (is_record r) (list_all is_record rs) spelled in
    let body = record_body r parts.0 in
    omega (arith, length-append {A = ℕ} (body_with_length (spelling r)) (frames (bodies_of rs)), length-spelled (spelling r), body.some, least_frames rs parts.1)

few_shown : (instance size : ℕ) (rs : List Record) (device : List ℕ) → size ≤ 2 ^ 32 → list_all is_record rs ≡ true → Shows (whole_device instance size) (bodies_of rs) device → length rs ≤ MOST_RECORDS
few_shown instance size rs device most spelled shows =
    let whole : length device ≡ size = shows.ends.whole in
    let cut : length device ≡ length ((header instance ++ frames (bodies_of rs)) ++ shows.gate ∷ shows.rest) = ap (λ (l : List ℕ). length l) shows.ends.is in
    omega (arith, whole, cut, most, least_frames rs spelled, length-append {A = ℕ} (header instance ++ frames (bodies_of rs)) (shows.gate ∷ shows.rest), length-append {A = ℕ} (header instance) (frames (bodies_of rs)))

few_in : (halved : Bool) (instance size : ℕ) (seat : Seat) (rs : List Record) (device : List ℕ) → size ≤ 2 ^ 32 → AreHistory rs → (halved ≡ true → length rs ≤ MOST_RECORDS)
    → HoldsOf halved instance size seat.second seat.point (image_after (take seat.point rs)) (λ region. Shows region (bodies_of (drop seat.point rs)) device) → length rs ≤ MOST_RECORDS
few_in true instance size seat rs device most history few holds = few refl
few_in false instance size seat rs device most history few holds =
    few_shown instance size rs device most history.spelled
    (subst (λ (n : ℕ). Shows (whole_device instance size) (bodies_of (drop n rs)) device) holds.0 holds.1)

pub few_stand : (form : Form) (seat : Seat) (rs : List Record) (device : List ℕ) → DeviceStandsFor form seat rs device → length rs ≤ MOST_RECORDS
few_stand form seat rs device stands = few_in form.halved form.instance form.size seat rs device stands.form_is.most stands.history stands.few stands.shows
