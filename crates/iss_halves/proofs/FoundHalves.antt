-- What was found is what a device holds.
use Rattle.std.proofs.Common.{◌≡◌, ℕ, ◌+◌, ◌-◌, ◌^◌, ◌<◌, ◌≤◌, Bool, true, false, List, ◌∷◌, ◌++◌, length, take, drop, get_or, refl, sym, ap, ◌∙◌, subst, append_assoc, arith, length-append}
use Rattle.std.specs.Int.{w32, to_be_bytes, from_be_bytes}
use Rattle.std.proofs.lemmas.Nat.{from_be_bytes-to_be_bytes_4}
use Rattle.std.proofs.lemmas.List.{append_cancel_left, take-take, take_at, drop-take, get_or-take, length-take, length-take-le}
use Rattle.iss_journal.specs.Region.{Region, body_with_length, frames, Shows}
use Rattle.iss_journal.specs.Header.{header}
use Rattle.iss_journal.proofs.Records.{one_list}
use Rattle.iss_halves.specs.Forms.{Layout, form_of}
use Rattle.iss_halves.specs.Halves.{halves_header, HasHalves, half_size, half_start, names_second, half_region, IsBelow}
use Rattle.iss_halves.specs.Standing.{HoldsOf, JournalHolds}
use Rattle.iss_halves.specs.Finding.{HasKind, HoldsImage, ImageOf, region_found, found_region}
use Rattle.iss_halves.specs.Opening.{IsFound, MayBegin, FoundMayBegin, HeldIsFound, HeldOnce, HeldHasLayout, NotTooLong}
use Rattle.iss_halves.proofs.Turns.{start_least, half_within, below_length}
use Rattle.iss_halves.proofs.Standings.{length-header}

-- ---- what was found stands below the journal

module _ (instance size : ℕ) (second : Bool) (image device : List ℕ) (whole : size ≡ length device) (has : HasHalves device instance) (holds : HoldsImage size second image device) where
  abbrev pub to_journal : ℕ
  to_journal = half_start size second + (4 + length image)

  inside_is : half_start size second + half_size size ≤ length device
  inside_is = omega (arith, half_within size second (omega (arith, whole, has.size.least)), whole)

  pub below_found_length : length (take to_journal device) ≡ to_journal
  below_found_length = length-take-le to_journal device (omega (arith, inside_is, holds.room))

  pub below_found : IsBelow instance size second image (take to_journal device)
  below_found =
      record {
        header = take-take 16 to_journal device (omega (arith, start_least size second)) ∙ has.is;
        image_there = drop-take (half_start size second) (4 + length image) device ∙ holds.there;
      }

  pub byte_found : get_or (take to_journal device) 16 0 ≡ get_or device 16 0
  byte_found = get_or-take to_journal device 16 0 (omega (arith, start_least size second))

may_begin : (halved : Bool) (instance size : ℕ) (second : Bool) (image device : List ℕ) → size ≡ length device → HasKind halved instance second device → ImageOf halved size second image device
    → MayBegin (record { halved = halved; instance = instance; size = size; second = second }) image device (region_found halved instance size second image device)
may_begin true instance size second image device whole has holds =
    let long = below_found_length instance size second image device whole has.0 holds in
    record {
      whole = sym whole;
      inside = omega (arith, inside_is instance size second image device whole has.0 holds, whole);
      first = long;
      last = refl;
      within = omega (arith, long, holds.room);
      there = ap (λ (n : ℕ). take n device) long;
    }
may_begin false instance size second image device whole has none =
    let long = length-header instance size in
    record {
      whole = sym whole;
      inside = omega arith;
      first = long;
      last = refl;
      within = omega (arith, long, has.size.least, whole);
      there = ap (λ (n : ℕ). take n device) long ∙ has.is;
    }

pub found_may_begin : FoundMayBegin
found_may_begin layout image device found =
    may_begin layout.halved layout.instance layout.size layout.second image device found.size found.has.kind found.image_there

holds_found : (halved : Bool) (instance size : ℕ) (second : Bool) (point : ℕ) (image device : List ℕ) (P : Region → Type 0) → size ≡ length device → HasKind halved instance second device → ImageOf halved size second image device → (halved ≡ false → point ≡ 0)
    → P (region_found halved instance size second image device) → HoldsOf halved instance size second point image P
holds_found true instance size second point image device P whole has holds none p =
    record {
      below = take (half_start size second + (4 + length image)) device;
      is_below = below_found instance size second image device whole has.0 holds;
      current = ap names_second (byte_found instance size second image device whole has.0 holds) ∙ has.1;
      journal = p;
    }
holds_found false instance size second point image device P whole has holds none p = (none refl, p)

-- whatever holds of the region found holds of the device's journal, at the half found
pub found_holds : (layout : Layout) (image device : List ℕ) (point : ℕ) (P : Region → Type 0) → IsFound layout image device → (layout.halved ≡ false → point ≡ 0)
    → P (found_region layout image device)
    → JournalHolds (form_of layout) (record { second = layout.second; point = point }) image P
found_holds layout image device point P found none p =
    holds_found layout.halved layout.instance layout.size layout.second point image device P found.size found.has.kind found.image_there none p

-- ---- what a device holds is what was found

-- this holds of the region found, and whatever holds of that region holds at the seat
pub record AtFound (halved : Bool) (instance size : ℕ) (second other : Bool) (point : ℕ) (found image device : List ℕ) (P : Region → Type 0) : Type 1 where
  pub image_is : halved ≡ true → image ≡ found
  pub half_is : halved ≡ true → other ≡ second
  pub holds : P (region_found halved instance size second found device)
  pub again : (Q : Region → Type 0) → Q (region_found halved instance size second found device) → HoldsOf halved instance size other point image Q

-- a length in four bytes is one length
one_length : (m n : ℕ) → m < 2 ^ 32 → n < 2 ^ 32 → to_be_bytes w32 m ≡ to_be_bytes w32 n → m ≡ n
one_length m n small_m small_n e =
    sym (from_be_bytes-to_be_bytes_4 m small_m) ∙ ap (λ (l : List ℕ). from_be_bytes w32 l) e ∙ from_be_bytes-to_be_bytes_4 n small_n

length_first : (image : List ℕ) → take 4 (body_with_length image) ≡ to_be_bytes w32 (length image)
length_first image = take_at (to_be_bytes w32 (length image)) image 4 refl

module _ (instance size : ℕ) (second other : Bool) (found image device below : List ℕ) (whole : size ≡ length device) (has : HasKind true instance second device) (holds : HoldsImage size second found device)
    (is : IsBelow instance size other image below) (current : names_second (get_or below 16 0) ≡ other) (there : take (length below) device ≡ below) where
  pub long : length below ≡ half_start size other + (4 + length image)
  long = below_length instance size other image below is

  other_is : other ≡ second
  other_is =
      sym current
      ∙ ap (λ (l : List ℕ). names_second (get_or l 16 0)) (sym there)
      ∙ ap names_second (get_or-take (length below) device 16 0 (omega (arith, long, start_least size other)))
      ∙ has.1

  image_first : take (4 + length image) (drop (half_start size second) device) ≡ body_with_length image
  image_first =
      ap (λ (b : Bool). take (4 + length image) (drop (half_start size b) device)) (sym other_is)
      ∙ sym (drop-take (half_start size other) (4 + length image) device)
      ∙ ap (λ (n : ℕ). drop (half_start size other) (take n device)) (sym long)
      ∙ ap (λ (l : List ℕ). drop (half_start size other) l) there
      ∙ is.image_there

  first_four : (n : ℕ) (bytes : List ℕ) → take (4 + n) (drop (half_start size second) device) ≡ body_with_length bytes → take 4 (drop (half_start size second) device) ≡ to_be_bytes w32 (length bytes)
  first_four n bytes e =
      sym (take-take 4 (4 + n) (drop (half_start size second) device) (omega arith)) ∙ ap (λ (l : List ℕ). take 4 l) e ∙ length_first bytes

  room_is : length below ≤ length device
  room_is = omega (arith, sym (length-take (length below) device) ∙ ap (λ (l : List ℕ). length l) there)

  same_length : length image ≡ length found
  same_length =
      one_length (length image) (length found) (omega (arith, long, room_is, has.0.size.most)) (omega (arith, holds.room, has.0.size.most, whole))
      (sym (first_four (length image) image image_first) ∙ first_four (length found) found holds.there)

  same_image : image ≡ found
  same_image =
      append_cancel_left (to_be_bytes w32 (length found)) image found
      (ap (λ (n : ℕ). to_be_bytes w32 n ++ image) (sym same_length)
      ∙ sym image_first
      ∙ ap (λ (n : ℕ). take (4 + n) (drop (half_start size second) device)) same_length
      ∙ holds.there)

  below_is : below ≡ take (half_start size second + (4 + length found)) device
  below_is =
      sym there
      ∙ ap (λ (n : ℕ). take n device) (long ∙ ap (λ (b : Bool). half_start size b + (4 + length image)) other_is ∙ ap (λ (n : ℕ). half_start size second + (4 + n)) same_length)

  region_is : half_region size other below ≡ half_region size second (take (half_start size second + (4 + length found)) device)
  region_is = λ i. half_region size (other_is i) (below_is i)

pub at_found : (halved : Bool) (instance size : ℕ) (second other : Bool) (point : ℕ) (found image device : List ℕ) (P : Region → Type 0) → size ≡ length device → HasKind halved instance second device → ImageOf halved size second found device
    → ((region : Region) → P region → take (length region.below) device ≡ region.below)
    → HoldsOf halved instance size other point image P → AtFound halved instance size second other point found image device P
at_found true instance size second other point found image device P whole has holds front half =
    let there = front (half_region size other half.below) half.journal in
    let region = region_is instance size second other found image device half.below whole has holds half.is_below half.current there in
    record {
      image_is = λ e. same_image instance size second other found image device half.below whole has holds half.is_below half.current there;
      half_is = λ e. other_is instance size second other found image device half.below whole has holds half.is_below half.current there;
      holds = subst P region half.journal;
      again = λ Q q. record { below = half.below; is_below = half.is_below; current = half.current; journal = subst Q (sym region) q };
    }
at_found false instance size second other point found image device P whole has holds front one =
    record {
      image_is = λ e. cc;
      half_is = λ e. cc;
      holds = one.1;
      again = λ Q q. (one.0, q);
    }

-- records that are shown stand above what is below the journal
pub shown_front : (region : Region) (bodies : List (List ℕ)) (device : List ℕ) → Shows region bodies device → take (length region.below) device ≡ region.below
shown_front region bodies device shows =
    ap (λ (l : List ℕ). take (length region.below) l) (shows.ends.is ∙ append_assoc region.below (frames bodies) (shows.gate ∷ shows.rest))
    ∙ take_at region.below (frames bodies ++ shows.gate ∷ shows.rest) (length region.below) refl

pub held_is_found : HeldIsFound
held_is_found layout found seat image bodies device is holds =
    let here = at_found layout.halved layout.instance layout.size layout.second seat.second seat.point found image device (λ region. Shows region bodies device) is.size is.has.kind is.image_there (λ region shows. shown_front region bodies device shows) holds in
    record { image_is = here.image_is; shows = here.holds }

pub held_once : HeldOnce
held_once layout found seat other image image' bodies bodies' device is halved first second =
    let one = held_is_found layout found seat image bodies device is first in
    let two = held_is_found layout found other image' bodies' device is second in
    (one.image_is halved ∙ sym (two.image_is halved), one_list (found_region layout found device) bodies bodies' device one.shows two.shows)

pub held_has_layout : HeldHasLayout
held_has_layout instance size second image bodies device sized small half =
    let ends = half.journal.ends in
    let long = below_length instance size second image half.below half.is_below in
    let there = shown_front (half_region size second half.below) bodies device half.journal in
    let least = start_least size second in
    let whole : length device ≡ size = ends.whole in
    let header : take 16 device ≡ halves_header instance =
    sym (take-take 16 (length half.below) device (omega (arith, long, least))) ∙ ap (λ (l : List ℕ). take 16 l) there ∙ half.is_below.header in
    let byte : get_or device 16 0 ≡ get_or half.below 16 0 =
    sym (get_or-take (length half.below) device 16 0 (omega (arith, long, least))) ∙ ap (λ (l : List ℕ). get_or l 16 0) there in
    record {
      has = record {
        kind = (
          record {
            size = record { least = omega (arith, whole, sized.least); most = omega (arith, whole, sized.most) };
            small = small;
            is = header;
          },
          ap names_second byte ∙ half.current,
        );
      };
      size = sym whole;
      image_there = record {
        room = omega (arith, long, ends.within, length-append half.below (frames bodies));
        there =
            sym (drop-take (half_start size second) (4 + length image) device)
            ∙ ap (λ (n : ℕ). drop (half_start size second) (take n device)) (sym long)
            ∙ ap (λ (l : List ℕ). drop (half_start size second) l) there
            ∙ half.is_below.image_there;
      };
    }

pub not_too_long : NotTooLong
not_too_long size second image device most holds long =
    let four : take 4 (drop (half_start size second) device) ≡ to_be_bytes w32 (length image) =
    sym (take-take 4 (4 + length image) (drop (half_start size second) device) (omega arith))
    ∙ ap (λ (l : List ℕ). take 4 l) holds.there
    ∙ length_first image in
    let same : long.n ≡ length image = one_length long.n (length image) long.small (omega (arith, holds.room, most)) (sym long.there ∙ four) in
    absurd (omega (arith, same, holds.room, long.long))
