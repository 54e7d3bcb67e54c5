-- What a device holds is what is found on it: its layout, its image, and the records after the image.
use Rattle.std.proofs.Common.{◌≡◌, ℕ, ◌≤◌, Bool, true, false, List, [], ◌∷◌, ◌++◌, length, take, refl, sym, ap, subst, ◌∙◌, arith, append_assoc}
use Rattle.std.proofs.lemmas.List.{take_at}
use Rattle.iss_journal.specs.Region.{Region, frames, Shows}
use Rattle.iss_journal.specs.Header.{header}
use Rattle.iss_journal.specs.Formatting.{whole_device}
use Rattle.iss_halves.specs.Forms.{Form, Seat, Layout, form_of, seat_at}
use Rattle.iss_halves.specs.Standing.{HoldsOf, JournalHolds}
use Rattle.iss_halves.specs.Finding.{HasKind, HoldsImage, TooLong, ImageOf, HasLayout, found_region}
use Rattle.iss_halves.specs.Making.{HasNoHeader}
use Rattle.iss_halves.specs.Opening.{IsFound, IsSame}
use Rattle.iss_halves.proofs.Standings.{length-header}
use Rattle.iss_halves.proofs.Openings.{one_form}
use Rattle.iss_halves.proofs.FoundHalves.{found_holds, held_has_layout, held_is_found, not_too_long}
use Rattle.iss_standing.specs.Standing.{IsForm}

-- ---- one journal, or halves

pub by_halves : (b : Bool) {A : Type 0} → (b ≡ true → A) → (b ≡ false → A) → A
by_halves true f g = f refl
by_halves false f g = g refl

pub no_point : (halved : Bool) (instance size : ℕ) (second : Bool) (point : ℕ) (image : List ℕ) (P : Region → Type 0) → HoldsOf halved instance size second point image P → halved ≡ false → point ≡ 0
no_point true instance size second point image P holds one = absurd cc
no_point false instance size second point image P holds one = holds.0

pub no_image : (halved : Bool) (size : ℕ) (second : Bool) (image device : List ℕ) → ImageOf halved size second image device → halved ≡ false → image ≡ []
no_image true size second image device there one = absurd cc
no_image false size second image device there one = there

-- a layout that a device has is of a form
pub layout_form : (halved : Bool) (instance size : ℕ) (second : Bool) (device : List ℕ) → HasKind halved instance second device → size ≡ length device
    → IsForm (record { halved = halved; instance = instance; size = size })
layout_form true instance size second device has whole =
    record {
      least = omega (arith, has.0.size.least, whole);
      least_halves = λ halved. omega (arith, has.0.size.least, whole);
      most = omega (arith, has.0.size.most, whole);
      small = has.0.small;
    }
layout_form false instance size second device has whole =
    record {
      least = omega (arith, has.size.least, whole);
      least_halves = λ halved. absurd cc;
      most = omega (arith, has.size.most, whole);
      small = has.small;
    }

-- ---- a device that holds an image and shows bodies after it

-- The device is of this form. At this seat it holds this image, of no bytes in one journal, and shows these bodies after it.
pub record HoldsHere (form : Form) (seat : Seat) (image : List ℕ) (bodies : List (List ℕ)) (device : List ℕ) : Type 0 where
  pub form_is : IsForm form
  pub size : form.size ≡ length device
  pub none : form.halved ≡ false → image ≡ []
  pub shows : JournalHolds form seat image (λ region. Shows region bodies device)

header_shown : (instance size : ℕ) (bodies : List (List ℕ)) (device : List ℕ) → Shows (whole_device instance size) bodies device → take 16 device ≡ header instance
header_shown instance size bodies device shows =
    ap (λ (l : List ℕ). take 16 l) (shows.ends.is ∙ append_assoc (header instance) (frames bodies) (shows.gate ∷ shows.rest))
    ∙ take_at (header instance) (frames bodies ++ shows.gate ∷ shows.rest) 16 (length-header instance size)

kind_held : (halved : Bool) (instance size : ℕ) (second : Bool) (point : ℕ) (image : List ℕ) (bodies : List (List ℕ)) (device : List ℕ) → IsForm (record { halved = halved; instance = instance; size = size }) → size ≡ length device
    → HoldsOf halved instance size second point image (λ region. Shows region bodies device) → HasNoHeader device → ⊥
kind_held true instance size second point image bodies device form whole holds none =
    let found = held_has_layout instance size second image bodies device (record { least = form.least_halves refl; most = form.most }) form.small holds in
    none.1 instance found.has.kind.0
kind_held false instance size second point image bodies device form whole holds none =
    none.0 instance (record {
      size = record { least = omega (arith, form.least, whole); most = omega (arith, form.most, whole) };
      small = form.small;
      is = header_shown instance size bodies device holds.1;
    })

image_held : (halved : Bool) (instance size : ℕ) (second : Bool) (point : ℕ) (image : List ℕ) (bodies : List (List ℕ)) (device : List ℕ) → IsForm (record { halved = halved; instance = instance; size = size }) → halved ≡ true
    → HoldsOf halved instance size second point image (λ region. Shows region bodies device) → HoldsImage size second image device
image_held true instance size second point image bodies device form halved holds =
    (held_has_layout instance size second image bodies device (record { least = form.least_halves refl; most = form.most }) form.small holds).image_there
image_held false instance size second point image bodies device form halved holds = absurd cc

module _ (form : Form) (seat : Seat) (image : List ℕ) (bodies : List (List ℕ)) (device : List ℕ) (h : HoldsHere form seat image bodies device) where
  pub no_header : HasNoHeader device → ⊥
  no_header none =
      kind_held form.halved form.instance form.size seat.second seat.point image bodies device h.form_is h.size h.shows none

  module _ (layout : Layout) (has : HasLayout layout device) (size : layout.size ≡ length device) where
    pub forms : (form ≡ form_of layout) × (form.halved ≡ true → seat.second ≡ layout.second)
    forms = one_form form seat image bodies layout device h.form_is.small has size h.shows

    pub not_long : layout.halved ≡ true → TooLong layout.size layout.second device → ⊥
    not_long halved long =
        let is : form.halved ≡ true = ap (λ (f : Form). f.halved) forms.0 ∙ halved in
        let held = image_held form.halved form.instance form.size seat.second seat.point image bodies device h.form_is is h.shows in
        let here : HoldsImage layout.size layout.second image device =
        subst (λ (b : Bool). HoldsImage layout.size b image device) (forms.1 is) (subst (λ (f : Form). HoldsImage f.size seat.second image device) forms.0 held) in
        let most : layout.size ≤ 4294967296 = subst (λ (f : Form). f.size ≤ 4294967296) forms.0 h.form_is.most in
        not_too_long layout.size layout.second image device most here long

  module _ (layout : Layout) (found : List ℕ) (is : IsFound layout found device) where
    found_forms : (form ≡ form_of layout) × (form.halved ≡ true → seat.second ≡ layout.second)
    found_forms = forms layout is.has is.size

    pub holds_found : JournalHolds (form_of layout) seat image (λ region. Shows region bodies device)
    holds_found =
        subst (λ (f : Form). JournalHolds f seat image (λ region. Shows region bodies device)) found_forms.0 h.shows

    pub shows_found : IsSame layout found image bodies device
    shows_found = held_is_found layout found seat image bodies device is holds_found

    pub image_found : found ≡ image
    image_found =
        by_halves layout.halved
        (λ halved. sym (shows_found.image_is halved))
        (λ one.
        no_image layout.halved layout.size layout.second found device is.image_there one
        ∙ sym (h.none (ap (λ (f : Form). f.halved) found_forms.0 ∙ one)))

-- what was found on a device, with the bodies that are shown after it, is what the device holds
pub found_here : (layout : Layout) (image : List ℕ) (bodies : List (List ℕ)) (device : List ℕ) → IsFound layout image device → Shows (found_region layout image device) bodies device
    → HoldsHere (form_of layout) (seat_at layout.second 0) image bodies device
found_here layout image bodies device found shows =
    record {
      form_is = layout_form layout.halved layout.instance layout.size layout.second device found.has.kind found.size;
      size = found.size;
      none = no_image layout.halved layout.size layout.second image device found.image_there;
      shows = found_holds layout image device 0 (λ region. Shows region bodies device) found (λ one. refl) shows;
    }
