-- What formatting a device in halves leaves at each of its moments.
use Rattle.std.proofs.Common.{◌≡◌, ℕ, zero, suc, ◌+◌, ◌^◌, ◌<◌, ◌≤◌, false, List, [], ◌∷◌, ◌++◌, length, take, drop, get_or, Option, inl, inr, refl, sym, ap, ◌∙◌, subst, append-nil, append_assoc, arith, length-append, length-drop}
use Rattle.std.proofs.lemmas.List.{take_at, drop_at, get_or_at, take-append-le}
use Rattle.iss_edge.specs.declared.outside.Action.{Action}
use Rattle.iss_edge.specs.World.{World, Told}
use Rattle.iss_edge.specs.Disk.{after_actions, splice}
use Rattle.iss_edge.specs.Puts.{Put, one_put, after_puts, actions_of_puts, Ran, Puts, PutsPart, Holds}
use Rattle.iss_edge.proofs.Tolds.{told_map, told_then}
use Rattle.iss_edge.proofs.Images.{rest_image}
use Rattle.iss_edge.proofs.PutLemmas.{ran_front, put_moments, puts_then, part_more, part_then, part_all}
use Rattle.iss_edge.proofs.PutStretches.{puts_rest, puts_bytes}
use Rattle.iss_journal.specs.Header.{header, instance_bytes}
use Rattle.iss_journal.specs.Region.{body_with_length}
use Rattle.iss_journal.proofs.Records.{length-spelled}
use Rattle.iss_journal.proofs.Gates.{one_byte}
use Rattle.iss_journal.proofs.Formats.{Sized, told_sized}
use Rattle.iss_halves.specs.Halves.{halves_signature, halves_header, half_size, names_second, HalfRests}
use Rattle.iss_halves.specs.Turning.{half_bytes}
use Rattle.iss_halves.specs.Making.{halves_tail, halves_puts, HasNoHeader, MakingLeaves, MakesGood, Makes, IsTailFor, TailMakesGood, TailMakes}
use Rattle.iss_halves.proofs.Turns.{half_within}

-- a device whose first byte is another has no header of either kind
first_of_one : (instance first : ℕ) (rest : List ℕ) → take 16 (first ∷ rest) ≡ header instance → first ≡ 1
unfolding header
first_of_one instance first rest e = ap (λ (l : List ℕ). get_or l 0 0) e

first_of_two : (instance first : ℕ) (rest : List ℕ) → take 16 (first ∷ rest) ≡ halves_header instance → first ≡ 1
unfolding halves_header
first_of_two instance first rest e = ap (λ (l : List ℕ). get_or l 0 0) e

no_header : (first : ℕ) (rest image : List ℕ) → image ≡ first ∷ rest → (first ≡ 1 → ⊥) → HasNoHeader image
no_header first rest image is shut = (
  λ instance has. shut (first_of_one instance first rest (sym (ap (λ (l : List ℕ). take 16 l) is) ∙ has.is)),
  λ instance has. shut (first_of_two instance first rest (sym (ap (λ (l : List ℕ). take 16 l) is) ∙ has.is)),
)

-- the bytes between the first and the image's length
abbrev between : ℕ → List ℕ
between instance = halves_signature ++ instance_bytes instance ++ 0 ∷ []

length-between : (instance : ℕ) → length (between instance) ≡ 16
length-between instance = refl

length-half : (image : List ℕ) → length (half_bytes image) ≡ 5 + length image
length-half image = omega (arith, length-append (body_with_length image) (0 ∷ []), length-spelled image)

length-tail : (instance : ℕ) (image : List ℕ) → length (halves_tail instance image) ≡ 21 + length image
unfolding halves_tail
length-tail instance image =
    omega (arith, length-append (between instance) (half_bytes image), length-between instance, length-half image)

-- the header and the selector
abbrev headed : ℕ → List ℕ
headed instance = halves_header instance ++ 0 ∷ []

length-headed : (instance : ℕ) → length (headed instance) ≡ 17
unfolding halves_header
length-headed instance = refl

length-header : (instance : ℕ) → length (halves_header instance) ≡ 16
unfolding halves_header
length-header instance = refl

first_and_between : (instance : ℕ) (l : List ℕ) → 1 ∷ (between instance ++ l) ≡ headed instance ++ l
unfolding halves_header
first_and_between instance l = refl

-- what stands below the first half's journal
abbrev below_image : ℕ → List ℕ → List ℕ
below_image instance image = headed instance ++ body_with_length image

length-below : (instance : ℕ) (image : List ℕ) → length (below_image instance image) ≡ 21 + length image
length-below instance image =
    omega (arith, length-append (headed instance) (body_with_length image), length-headed instance, length-spelled image)

tail_above : (instance : ℕ) (image rest : List ℕ) → 1 ∷ (halves_tail instance image ++ rest) ≡ below_image instance image ++ 0 ∷ rest
unfolding halves_tail
tail_above instance image rest =
    ap (λ (l : List ℕ). 1 ∷ l) (append_assoc (between instance) (half_bytes image) rest)
    ∙ ap (λ (l : List ℕ). 1 ∷ (between instance ++ l)) (append_assoc (body_with_length image) (0 ∷ []) rest)
    ∙ first_and_between instance (body_with_length image ++ 0 ∷ rest)
    ∙ sym (append_assoc (headed instance) (body_with_length image) (0 ∷ rest))

header_below : (instance : ℕ) (image : List ℕ) → take 16 (below_image instance image) ≡ halves_header instance
header_below instance image =
    take-append-le 16 (headed instance) (body_with_length image) (omega (arith, length-headed instance))
    ∙ take_at (halves_header instance) (0 ∷ []) 16 (length-header instance)

selector_below : (instance : ℕ) (image : List ℕ) → get_or (below_image instance image) 16 0 ≡ 0
selector_below instance image =
    ap (λ (l : List ℕ). get_or l 16 0) (append_assoc (halves_header instance) (0 ∷ []) (body_with_length image))
    ∙ get_or_at (halves_header instance) 0 (body_with_length image) 0 16 (length-header instance)

-- bytes over the first one, and after it
over_first : (byte : ℕ) (bytes : List ℕ) → splice 0 (byte ∷ []) bytes ≡ byte ∷ drop 1 bytes
over_first byte bytes = refl

over_rest : (first : ℕ) (new rest : List ℕ) → splice 1 new (first ∷ rest) ≡ first ∷ (new ++ drop (length new) rest)
over_rest first new rest =
    let next : 1 + length new ≡ suc (length new) = omega arith in
    ap (λ (n : ℕ). first ∷ (new ++ drop n (first ∷ rest))) next

-- a device with room for the image in a half has this many bytes
least_of : (size : ℕ) (image : List ℕ) → 5 + length image ≤ half_size size → 27 ≤ size
least_of size image fits = omega (arith, fits)

-- the first half holds the image and no records
rests_image : (instance size : ℕ) (image rest device : List ℕ) → length device ≡ size → 5 + length image ≤ half_size size → device ≡ 1 ∷ (halves_tail instance image ++ rest) → HalfRests instance size false image [] device
rests_image instance size image rest device whole fits is =
    let below = below_image instance image in
    record {
      below = below;
      is_below = record { header = header_below instance image; image_there = drop_at (headed instance) (body_with_length image) 17 (length-headed instance) };
      current = ap names_second (selector_below instance image);
      journal = record {
        rest = rest;
        ends = record {
          whole = whole;
          inside = half_within size false (omega (arith, fits));
          sound = tt;
          within = omega (arith, fits, length-below instance image, ap (λ (l : List ℕ). length l) (append-nil below));
          is = is ∙ tail_above instance image rest ∙ ap (λ (l : List ℕ). l ++ 0 ∷ rest) (sym (append-nil below));
        };
      };
    }

-- what stands behind the tail
abbrev behind_tail : ℕ → List ℕ → List ℕ → List ℕ
behind_tail instance image start = drop (length (halves_tail instance image)) (drop 1 start)

length-made : (byte : ℕ) (instance : ℕ) (image start : List ℕ) → 5 + length image ≤ half_size (length start) → length (byte ∷ (halves_tail instance image ++ behind_tail instance image start)) ≡ length start
length-made byte instance image start fits =
    omega (arith, fits, length-append (halves_tail instance image) (behind_tail instance image start), length-tail instance image, length-drop (length (halves_tail instance image)) (drop 1 start), length-drop 1 start)

-- with this byte in the first place, after it the tail
first_byte : (instance : ℕ) (image start : List ℕ) (syncs byte : ℕ) (device : List ℕ) → 5 + length image ≤ half_size (length start) → device ≡ byte ∷ (halves_tail instance image ++ behind_tail instance image start) → MakingLeaves instance image start (suc syncs) device
first_byte instance image start syncs zero device fits is =
    inl (no_header zero (halves_tail instance image ++ behind_tail instance image start) device is (λ one. omega (arith, one)))
first_byte instance image start syncs (suc zero) device fits is =
    inr (rests_image instance (length start) image (behind_tail instance image start) device (ap length is ∙ length-made 1 instance image start fits) fits is)
first_byte instance image start syncs (suc (suc byte)) device fits is =
    inl (no_header (suc (suc byte)) (halves_tail instance image ++ behind_tail instance image start) device is (λ one. omega (arith, one)))

-- the bytes once the tail stands after a closed first byte
abbrev closed_first : ℕ → List ℕ → List ℕ → List ℕ
closed_first instance image start = splice 1 (halves_tail instance image) (splice 0 (0 ∷ []) start)

closed_first_is : (instance : ℕ) (image start : List ℕ) → closed_first instance image start ≡ 0 ∷ (halves_tail instance image ++ behind_tail instance image start)
closed_first_is instance image start = over_rest 0 (halves_tail instance image) (drop 1 start)

first_over : (instance : ℕ) (image start : List ℕ) (byte : ℕ) → splice 0 (byte ∷ []) (closed_first instance image start) ≡ byte ∷ (halves_tail instance image ++ behind_tail instance image start)
first_over instance image start byte =
    over_first byte (closed_first instance image start)
    ∙ ap (λ (l : List ℕ). byte ∷ drop 1 l) (closed_first_is instance image start)

-- at each moment of the three puts
making_holds : (instance : ℕ) (image start : List ℕ) → 5 + length image ≤ half_size (length start) → Holds (MakingLeaves instance image start) 0 start (halves_puts instance image)
unfolding halves_puts
making_holds instance image start fits =
    let least = least_of (length start) image fits in
    let long = length-tail instance image in
    let first : length (splice 0 (0 ∷ []) start) ≡ length start = omega (arith, least, length-drop 1 start) in
    let whole : length (closed_first instance image start) ≡ length start = ap length (closed_first_is instance image start) ∙ length-made 0 instance image start fits in (
      omega (arith, least),
      refl,
      λ torn one.
          let byte = one_byte torn one in
          ap (λ (l : List ℕ). drop 1 (splice 0 l start)) byte.1,
      (
        omega (arith, fits, first, long),
        inl (no_header 0 (drop 1 start) (splice 0 (0 ∷ []) start) (over_first 0 start) (λ one. omega (arith, one))),
        λ torn size.
            inl (no_header 0 (torn ++ drop (length torn) (drop 1 start)) (splice 1 torn (splice 0 (0 ∷ []) start)) (over_rest 0 torn (drop 1 start)) (λ one. omega (arith, one))),
        (
          omega (arith, least, whole),
          first_byte instance image start 1 0 (closed_first instance image start) fits (closed_first_is instance image start),
          λ torn one.
              let byte = one_byte torn one in
              subst (λ (l : List ℕ). MakingLeaves instance image start 2 (splice 0 l (closed_first instance image start))) (sym byte.1) (first_byte instance image start 1 byte.0 (splice 0 (byte.0 ∷ []) (closed_first instance image start)) fits (first_over instance image start byte.0)),
          first_byte instance image start 2 1 (splice 0 (1 ∷ []) (closed_first instance image start)) fits (first_over instance image start 1),
        ),
      ),
    )

-- and after them
after_making : (instance : ℕ) (image start : List ℕ) → after_puts start (halves_puts instance image) ≡ 1 ∷ (halves_tail instance image ++ behind_tail instance image start)
unfolding halves_puts
after_making instance image start = first_over instance image start 1

header_first : (instance : ℕ) (image rest : List ℕ) → take 16 (1 ∷ (halves_tail instance image ++ rest)) ≡ halves_header instance
header_first instance image rest =
    ap (λ (l : List ℕ). take 16 l) (tail_above instance image rest)
    ∙ take-append-le 16 (below_image instance image) (0 ∷ rest) (omega (arith, length-below instance image))
    ∙ header_below instance image

-- the puts made in part
making_part : (instance : ℕ) (image : List ℕ) (a b : World) → 5 + length image ≤ half_size (length a.device) → PutsPart (halves_puts instance image) a b → MakesGood instance image a b
making_part instance image a b fits part =
    record {
      part = part;
      each = λ d rest same before after cut now is.
          let ran : Ran (halves_puts instance image) before = ran_front (halves_puts instance image) before after (subst (λ (l : List Action). Ran (halves_puts instance image) l) cut part.ran) in
          put_moments (MakingLeaves instance image a.device) 0 (halves_puts instance image) d before rest (subst (λ (l : List ℕ). Holds (MakingLeaves instance image a.device) 0 l (halves_puts instance image)) (sym same) (making_holds instance image a.device fits)) ran now is;
    }

-- and made whole
making_whole : (instance : ℕ) (image : List ℕ) (a b : World) → length a.device ≤ 2 ^ 32 → 5 + length image ≤ half_size (length a.device) → instance < 2 ^ 48 → Puts (halves_puts instance image) a b → Makes instance image a b
making_whole instance image a b most fits small made =
    let start = a.device in
    let is : b.device ≡ 1 ∷ (halves_tail instance image ++ behind_tail instance image start) = made.device ∙ after_making instance image start in
    let whole : length b.device ≡ length start = ap length is ∙ length-made 1 instance image start fits in
    record {
      made = made;
      instance_is = record {
        size = record { least = omega (arith, whole, least_of (length start) image fits); most = omega (arith, whole, most) };
        small = small;
        is = ap (λ (l : List ℕ). take 16 l) is ∙ header_first instance image (behind_tail instance image start);
      };
      shows = rests_image instance (length start) image (behind_tail instance image start) b.device whole fits is;
      lasts = λ d rest same device is_image.
          let now = after_actions d (actions_of_puts (halves_puts instance image)) in
          rest_image now device (puts_rest (halves_puts instance image) d rest) is_image
          ∙ puts_bytes (halves_puts instance image) d
          ∙ ap (λ (l : List ℕ). after_puts l (halves_puts instance image)) same
          ∙ sym made.device;
    }

-- ---- by what an edge tells, at each end of making

-- the puts of a tail
unfoldable tail_puts : List ℕ → List Put
tail_puts tail = one_put 0 (0 ∷ []) ++ one_put 1 tail ++ one_put 0 (1 ∷ [])

same_puts : (instance : ℕ) (image tail : List ℕ) → tail ≡ halves_tail instance image → tail_puts tail ≡ halves_puts instance image
unfolding tail_puts halves_puts
same_puts instance image tail is = ap (λ (l : List ℕ). one_put 0 (0 ∷ []) ++ one_put 1 l ++ one_put 0 (1 ∷ [])) is

part_good : (tail : List ℕ) (a b : World) → PutsPart (tail_puts tail) a b → TailMakesGood tail a b
part_good tail a b part instance image is =
    making_part instance image a b is.fits (subst (λ (puts : List Put). PutsPart puts a b) (same_puts instance image tail is.is) part)

whole_makes : (tail : List ℕ) (a b : World) → Puts (tail_puts tail) a b → TailMakes tail a b
whole_makes tail a b made instance image is =
    making_whole instance image a b is.most is.fits is.small (subst (λ (puts : List Put). Puts puts a b) (same_puts instance image tail is.is) made)

module _ (tail : List ℕ) where
  abbrev closing : List Put
  closing = one_put 0 (0 ∷ [])

  abbrev opening : List Put
  opening = one_put 0 (1 ∷ [])

  pub making_first : (x y : Option World) → Told (PutsPart (one_put 0 (0 ∷ []))) x y → Told (TailMakesGood tail) x y
  unfolding tail_puts
  making_first x y =
      told_map (PutsPart closing) (TailMakesGood tail) x y (λ a b part.
      part_good tail a b (part_more (closing ++ one_put 1 tail) opening a b (part_more closing (one_put 1 tail) a b part)))

  pub making_second : (x y z : Option World) → Told (Puts (one_put 0 (0 ∷ []))) x y → Told (PutsPart (one_put 1 tail)) y z → Told (TailMakesGood tail) x z
  unfolding tail_puts
  making_second x y z =
      told_then (Puts closing) (PutsPart (one_put 1 tail)) (TailMakesGood tail) x y z (λ a b c made part.
      part_good tail a c (part_more (closing ++ one_put 1 tail) opening a c (part_then closing (one_put 1 tail) a b c made part)))

  two_made : (x y z : Option World) → Told (Puts (one_put 0 (0 ∷ []))) x y → Told (Puts (one_put 1 tail)) y z → Told (Puts (one_put 0 (0 ∷ []) ++ one_put 1 tail)) x z
  two_made x y z = told_then (Puts closing) (Puts (one_put 1 tail)) (Puts (closing ++ one_put 1 tail)) x y z (puts_then closing (one_put 1 tail))

  pub making_third : (x y z w : Option World) → Told (Puts (one_put 0 (0 ∷ []))) x y → Told (Puts (one_put 1 tail)) y z → Told (PutsPart (one_put 0 (1 ∷ []))) z w → Told (TailMakesGood tail) x w
  unfolding tail_puts
  making_third x y z w first second =
      told_then (Puts (closing ++ one_put 1 tail)) (PutsPart opening) (TailMakesGood tail) x z w (λ a b c made part.
      part_good tail a c (part_then (closing ++ one_put 1 tail) opening a b c made part)) (two_made x y z first second)

  all_made : (x y z w : Option World) → Told (Puts (one_put 0 (0 ∷ []))) x y → Told (Puts (one_put 1 tail)) y z → Told (Puts (one_put 0 (1 ∷ []))) z w → Told (Puts (tail_puts tail)) x w
  unfolding tail_puts
  all_made x y z w first second =
      told_then (Puts (closing ++ one_put 1 tail)) (Puts opening) (Puts (tail_puts tail)) x z w (puts_then (closing ++ one_put 1 tail) opening) (two_made x y z first second)

  pub making_done_good : (x y z w : Option World) → Told (Puts (one_put 0 (0 ∷ []))) x y → Told (Puts (one_put 1 tail)) y z → Told (Puts (one_put 0 (1 ∷ []))) z w → Told (TailMakesGood tail) x w
  making_done_good x y z w first second third =
      told_map (Puts (tail_puts tail)) (TailMakesGood tail) x w (λ a b made. part_good tail a b (part_all (tail_puts tail) a b made)) (all_made x y z w first second third)

  pub making_done : (x y z w : Option World) → Told (Puts (one_put 0 (0 ∷ []))) x y → Told (Puts (one_put 1 tail)) y z → Told (Puts (one_put 0 (1 ∷ []))) z w → Told (TailMakes tail) x w
  making_done x y z w first second third =
      told_map (Puts (tail_puts tail)) (TailMakes tail) x w (whole_makes tail) (all_made x y z w first second third)

-- ---- formatting, with an image of no bytes

no_image : (instance size : ℕ) (tail device : List ℕ) → 27 ≤ size → size ≤ 2 ^ 32 → instance < 2 ^ 48 → tail ≡ halves_tail instance [] → length device ≡ size → IsTailFor instance [] tail device
no_image instance size tail device least most small is same =
    record { is = is; fits = omega (arith, least, same); most = omega (arith, most, same); small = small }

pub formatted_good : (instance size : ℕ) (tail : List ℕ) (x y : Option World) → Sized size x → 27 ≤ size → size ≤ 2 ^ 32 → instance < 2 ^ 48 → tail ≡ halves_tail instance [] → Told (TailMakesGood tail) x y → Told (MakesGood instance []) x y
formatted_good instance size tail x y sized least most small is =
    told_sized size (TailMakesGood tail) (MakesGood instance []) x y sized (λ a b same makes.
    makes instance [] (no_image instance size tail a.device least most small is same))

pub formatted : (instance size : ℕ) (tail : List ℕ) (x y : Option World) → Sized size x → 27 ≤ size → size ≤ 2 ^ 32 → instance < 2 ^ 48 → tail ≡ halves_tail instance [] → Told (TailMakes tail) x y → Told (Makes instance []) x y
formatted instance size tail x y sized least most small is =
    told_sized size (TailMakes tail) (Makes instance []) x y sized (λ a b same makes.
    makes instance [] (no_image instance size tail a.device least most small is same))
