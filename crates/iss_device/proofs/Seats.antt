-- Two things that hold of one device's journal, each at a seat, hold of one journal.
use Rattle.std.proofs.Common.{◌≡◌, ◌<◌, ℕ, ◌+◌, Bool, true, false, List, length, take, refl, sym, ap, subst, ◌∙◌}
use Rattle.iss_journal.specs.declared.layout.TheConstants.{HEADER_INSTANCES}
use Rattle.iss_journal.specs.Region.{Region, Shows}
use Rattle.iss_journal.specs.Formatting.{whole_device}
use Rattle.iss_journal.proofs.Records.{one_list}
use Rattle.iss_halves.specs.Forms.{Form, Seat}
use Rattle.iss_halves.specs.Halves.{IsHalvesSize, half_start, half_region, HoldsHalf}
use Rattle.iss_halves.specs.Standing.{HoldsOf, JournalHolds}
use Rattle.iss_halves.proofs.Turns.{below_length}
use Rattle.iss_halves.proofs.Openings.{one_form}
use Rattle.iss_halves.proofs.FoundHalves.{shown_front, held_has_layout, held_once}
use Rattle.iss_standing.specs.Standing.{IsForm}

-- what a device shows at two seats, with what else holds of each
module _ (instance size : ℕ) (second other : Bool) (image image' : List ℕ) (bodies bodies' : List (List ℕ)) (device : List ℕ) (P Q : Region → Type 0) (sized : IsHalvesSize size) (small : instance < HEADER_INSTANCES)
    (x : HoldsHalf instance size second image (λ region. Shows region bodies device × P region)) (y : HoldsHalf instance size other image' (λ region. Shows region bodies' device × Q region)) where
  abbrev form : Form
  form = record { halved = true; instance = instance; size = size }

  abbrev here : HoldsHalf instance size second image (λ region. Shows region bodies device)
  here = record { below = x.below; is_below = x.is_below; current = x.current; journal = x.journal.0 }

  abbrev there : HoldsHalf instance size other image' (λ region. Shows region bodies' device)
  there = record { below = y.below; is_below = y.is_below; current = y.current; journal = y.journal.0 }

  same_half : other ≡ second
  same_half =
      let found = held_has_layout instance size second image bodies device sized small here in
      (one_form form (record { second = other; point = 0 }) image' bodies' (record { halved = true; instance = instance; size = size; second = second }) device small found.has found.size there).1 refl

  same_held : (image ≡ image') × (bodies ≡ bodies')
  same_held =
      held_once (record { halved = true; instance = instance; size = size; second = second }) image (record { second = second; point = 0 }) (record { second = other; point = 0 }) image image' bodies bodies' device
      (held_has_layout instance size second image bodies device sized small here) refl here there

  same_below : x.below ≡ y.below
  same_below =
      let long : length x.below ≡ length y.below =
      below_length instance size second image x.below x.is_below
      ∙ ap (λ (b : Bool). half_start size b + (4 + length image)) (sym same_half)
      ∙ ap (λ (l : List ℕ). half_start size other + (4 + length l)) same_held.0
      ∙ sym (below_length instance size other image' y.below y.is_below) in
      sym (shown_front (half_region size second x.below) bodies device x.journal.0)
      ∙ ap (λ (n : ℕ). take n device) long
      ∙ shown_front (half_region size other y.below) bodies' device y.journal.0

  both_halves : HoldsHalf instance size second image (λ region. P region × Q region)
  both_halves =
      let region : half_region size other y.below ≡ half_region size second x.below = λ i. half_region size (same_half i) (sym same_below i) in
      record { below = x.below; is_below = x.is_below; current = x.current; journal = (x.journal.1, subst Q region y.journal.1) }

both_of : (halved : Bool) (instance size : ℕ) (second other : Bool) (point point' : ℕ) (image image' : List ℕ) (bodies bodies' : List (List ℕ)) (device : List ℕ) (P Q : Region → Type 0) → (halved ≡ true → IsHalvesSize size) → instance < HEADER_INSTANCES
    → HoldsOf halved instance size second point image (λ region. Shows region bodies device × P region) → HoldsOf halved instance size other point' image' (λ region. Shows region bodies' device × Q region)
    → (bodies ≡ bodies') × HoldsOf halved instance size second point image (λ region. P region × Q region)
both_of true instance size second other point point' image image' bodies bodies' device P Q sized small x y = (
  (same_held instance size second other image image' bodies bodies' device P Q (sized refl) small x y).1,
  both_halves instance size second other image image' bodies bodies' device P Q (sized refl) small x y,
)
both_of false instance size second other point point' image image' bodies bodies' device P Q sized small x y =
    (one_list (whole_device instance size) bodies bodies' device x.1.0 y.1.0, (x.0, (x.1.1, y.1.1)))

-- a device shows one list of records, at whichever seat, and what holds of the journal at both holds at the first
pub both_held : (form : Form) (seat other : Seat) (image image' : List ℕ) (bodies bodies' : List (List ℕ)) (device : List ℕ) (P Q : Region → Type 0) → IsForm form
    → JournalHolds form seat image (λ region. Shows region bodies device × P region) → JournalHolds form other image' (λ region. Shows region bodies' device × Q region)
    → (bodies ≡ bodies') × JournalHolds form seat image (λ region. P region × Q region)
both_held form seat other image image' bodies bodies' device P Q is x y =
    both_of form.halved form.instance form.size seat.second other.second seat.point other.point image image' bodies bodies' device P Q
    (λ halved. record { least = is.least_halves halved; most = is.most }) is.small x y
