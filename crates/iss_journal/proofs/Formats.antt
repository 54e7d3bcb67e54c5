-- What formatting leaves at each of its moments, and what a header tells.
use Rattle.std.proofs.Common.{◌≡◌, ℕ, zero, suc, ◌+◌, ◌/◌, ◌%◌, ◌^◌, ◌<◌, ◌≤◌, List, [], ◌∷◌, ◌++◌, length, take, drop, get_or, Option, Some, None, IfSome, Ok, Err, inl, inr, refl, sym, ap, ◌∙◌, subst, append-nil, arith, length-append, length-drop}
use Rattle.std.specs.Int.{w64, to_be_bytes, from_be_bytes}
use Rattle.std.proofs.lemmas.Nat.{from_be_bytes-to_be_bytes_8}
use Rattle.std.proofs.lemmas.List.{take_at}
use Rattle.iss_edge.specs.declared.outside.Action.{Action}
use Rattle.iss_edge.specs.World.{World, Told}
use Rattle.iss_edge.specs.Calls.{Reads}
use Rattle.iss_edge.specs.Disk.{after_actions, splice}
use Rattle.iss_edge.specs.Puts.{one_put, after_puts, actions_of_puts, Ran, Puts, PutsPart, Holds}
use Rattle.iss_edge.proofs.Tolds.{told_map, told_then}
use Rattle.iss_edge.proofs.Images.{rest_image}
use Rattle.iss_edge.proofs.PutLemmas.{ran_front, put_moments, puts_then, part_more, part_then, part_all}
use Rattle.iss_edge.proofs.PutStretches.{puts_rest, puts_bytes}
use Rattle.iss_journal.specs.declared.layout.TheConstants.{HEADER, LEAST_SIZE, HEADER_INSTANCES, GREATEST_SIZE}
use Rattle.iss_journal.specs.declared.fault.JournalFault.TheVariants.{NotFormatted}
use Rattle.iss_journal.specs.Header.{instance_bytes, header, IsSize, IsUnformatted, ReadsInstance}
use Rattle.iss_journal.specs.Formatting.{whole_device, tail_of, format_puts, FormatLeaves, FormatsGood, Formats}
use Rattle.iss_journal.specs.Region.{ShowsClosed}
use Rattle.iss_journal.proofs.Gates.{one_byte}

-- a device whose first byte isn't 1 is not formatted
first_byte : (instance first : ℕ) (rest : List ℕ) → take HEADER (first ∷ rest) ≡ header instance → first ≡ 1
unfolding header
first_byte instance first rest e = ap (λ (l : List ℕ). get_or l 0 0) e

unformatted : (first : ℕ) (rest image : List ℕ) → image ≡ first ∷ rest → (first ≡ 1 → ⊥) → IsUnformatted image
unformatted first rest image is shut instance has =
    shut (first_byte instance first rest (sym (ap (λ (l : List ℕ). take HEADER l) is) ∙ has.is))

length-header : (instance : ℕ) → length (header instance) ≡ HEADER
unfolding header
length-header instance = refl

pub length-tail : (instance : ℕ) → length (tail_of instance) ≡ HEADER
unfolding tail_of
length-tail instance = refl

-- the first byte and the tail are the header and an end gate
headed : (instance : ℕ) (rest : List ℕ) → 1 ∷ (tail_of instance ++ rest) ≡ header instance ++ 0 ∷ rest
unfolding header tail_of
headed instance rest = refl

-- a byte is written over the first one, and bytes over those after it
over_first : (byte : ℕ) (bytes : List ℕ) → splice 0 (byte ∷ []) bytes ≡ byte ∷ drop 1 bytes
over_first byte bytes = refl

over_rest : (first : ℕ) (new rest : List ℕ) → splice 1 new (first ∷ rest) ≡ first ∷ (new ++ drop (length new) rest)
over_rest first new rest =
    let next : 1 + length new ≡ suc (length new) = omega arith in
    ap (λ (n : ℕ). first ∷ (new ++ drop n (first ∷ rest))) next

-- a header and an end gate of 0 show no records
shows_none : (instance size : ℕ) (rest image : List ℕ) → length image ≡ size → LEAST_SIZE ≤ size → image ≡ 1 ∷ (tail_of instance ++ rest) → ShowsClosed (whole_device instance size) [] image
shows_none instance size rest image whole least is =
    record {
      rest = rest;
      ends = record {
        whole = whole;
        inside = omega arith;
        sound = tt;
        within = omega (arith, least, length-header instance, length-append (header instance) []);
        is = is ∙ headed instance rest ∙ ap (λ (l : List ℕ). l ++ 0 ∷ rest) (sym (append-nil (header instance)));
      };
    }

length-headed : (byte : ℕ) (instance : ℕ) (start : List ℕ) → LEAST_SIZE ≤ length start → length (byte ∷ (tail_of instance ++ drop HEADER (drop 1 start))) ≡ length start
length-headed byte instance start least =
    omega (arith, least, length-append (tail_of instance) (drop HEADER (drop 1 start)), length-tail instance, length-drop HEADER (drop 1 start), length-drop 1 start)

-- formatting may leave this byte in the first place, with the tail after it
first_gate : (instance : ℕ) (start : List ℕ) (syncs byte : ℕ) (image : List ℕ) → LEAST_SIZE ≤ length start → image ≡ byte ∷ (tail_of instance ++ drop HEADER (drop 1 start)) → FormatLeaves instance start (suc syncs) image
first_gate instance start syncs zero image least is =
    inl (unformatted zero (tail_of instance ++ drop HEADER (drop 1 start)) image is (λ one. omega (arith, one)))
first_gate instance start syncs (suc zero) image least is =
    inr (shows_none instance (length start) (drop HEADER (drop 1 start)) image (ap length is ∙ length-headed 1 instance start least) least is)
first_gate instance start syncs (suc (suc byte)) image least is =
    inl (unformatted (suc (suc byte)) (tail_of instance ++ drop HEADER (drop 1 start)) image is (λ one. omega (arith, one)))

-- the device's bytes once the tail stands after a first byte of 0
abbrev closed_first : ℕ → List ℕ → List ℕ
closed_first instance start = splice 1 (tail_of instance) (splice 0 (0 ∷ []) start)

closed_first_is : (instance : ℕ) (start : List ℕ) → closed_first instance start ≡ 0 ∷ (tail_of instance ++ drop HEADER (drop 1 start))
closed_first_is instance start =
    over_rest 0 (tail_of instance) (drop 1 start)
    ∙ ap (λ (n : ℕ). 0 ∷ (tail_of instance ++ drop n (drop 1 start))) (length-tail instance)

gate_over : (instance : ℕ) (start : List ℕ) (byte : ℕ) → splice 0 (byte ∷ []) (closed_first instance start) ≡ byte ∷ (tail_of instance ++ drop HEADER (drop 1 start))
gate_over instance start byte =
    over_first byte (closed_first instance start)
    ∙ ap (λ (l : List ℕ). byte ∷ drop 1 l) (closed_first_is instance start)

-- at each moment of the three puts, a stop leaves what formatting may leave
pub format_holds : (instance : ℕ) (start : List ℕ) → LEAST_SIZE ≤ length start → Holds (FormatLeaves instance start) 0 start (format_puts instance)
unfolding format_puts
format_holds instance start least =
    let first : length (splice 0 (0 ∷ []) start) ≡ length start = omega (arith, least, length-drop 1 start) in
    let whole : length (closed_first instance start) ≡ length start = ap length (closed_first_is instance start) ∙ length-headed 0 instance start least in (
      omega (arith, least),
      refl,
      λ torn one.
          let byte = one_byte torn one in
          ap (λ (l : List ℕ). drop 1 (splice 0 l start)) byte.1,
      (
        omega (arith, least, first, length-tail instance),
        inl (unformatted 0 (drop 1 start) (splice 0 (0 ∷ []) start) (over_first 0 start) (λ one. omega (arith, one))),
        λ torn size.
            inl (unformatted 0 (torn ++ drop (length torn) (drop 1 start)) (splice 1 torn (splice 0 (0 ∷ []) start)) (over_rest 0 torn (drop 1 start)) (λ one. omega (arith, one))),
        (
          omega (arith, least, whole),
          first_gate instance start 1 0 (closed_first instance start) least (closed_first_is instance start),
          λ torn one.
              let byte = one_byte torn one in
              subst (λ (l : List ℕ). FormatLeaves instance start 2 (splice 0 l (closed_first instance start))) (sym byte.1) (first_gate instance start 1 byte.0 (splice 0 (byte.0 ∷ []) (closed_first instance start)) least (gate_over instance start byte.0)),
          first_gate instance start 2 1 (splice 0 (1 ∷ []) (closed_first instance start)) least (gate_over instance start 1),
        ),
      ),
    )

-- after the three puts the tail stands after a first byte of 1
after_format : (instance : ℕ) (start : List ℕ) → after_puts start (format_puts instance) ≡ 1 ∷ (tail_of instance ++ drop HEADER (drop 1 start))
unfolding format_puts
after_format instance start = gate_over instance start 1

header_first : (instance : ℕ) (rest : List ℕ) → take HEADER (1 ∷ (tail_of instance ++ rest)) ≡ header instance
header_first instance rest =
    ap (λ (l : List ℕ). take HEADER l) (headed instance rest) ∙ take_at (header instance) (0 ∷ rest) 16 (length-header instance)

-- if the puts were made in part, formatting has gone well so far
pub format_part : (instance : ℕ) (a b : World) → LEAST_SIZE ≤ length a.device → PutsPart (format_puts instance) a b → FormatsGood instance a b
format_part instance a b least part =
    record {
      part = part;
      each = λ d rest same before after cut image is.
          let ran : Ran (format_puts instance) before = ran_front (format_puts instance) before after (subst (λ (l : List Action). Ran (format_puts instance) l) cut part.ran) in
          put_moments (FormatLeaves instance a.device) 0 (format_puts instance) d before rest (subst (λ (l : List ℕ). Holds (FormatLeaves instance a.device) 0 l (format_puts instance)) (sym same) (format_holds instance a.device least)) ran image is;
    }

-- if the puts were made whole, the device is formatted
pub format_whole : (instance : ℕ) (a b : World) → IsSize (length a.device) → instance < HEADER_INSTANCES → Puts (format_puts instance) a b → Formats instance a b
format_whole instance a b size small made =
    let start = a.device in
    let is : b.device ≡ 1 ∷ (tail_of instance ++ drop HEADER (drop 1 start)) = made.device ∙ after_format instance start in
    let whole : length b.device ≡ length start = ap length is ∙ length-headed 1 instance start size.least in
    record {
      made = made;
      instance_is = record {
        size = record { least = omega (arith, whole, size.least); most = omega (arith, whole, size.most) };
        small = small;
        is = ap (λ (l : List ℕ). take HEADER l) is ∙ header_first instance (drop HEADER (drop 1 start));
      };
      shows = shows_none instance (length start) (drop HEADER (drop 1 start)) b.device whole size.least is;
      lasts = λ d rest same image is_image.
          let now = after_actions d (actions_of_puts (format_puts instance)) in
          rest_image now image (puts_rest (format_puts instance) d rest) is_image
          ∙ puts_bytes (format_puts instance) d
          ∙ ap (λ (l : List ℕ). after_puts l (format_puts instance)) same
          ∙ sym made.device;
    }

-- a device of this size is told, or none
abbrev pub Sized : ℕ → Option World → Type 0
Sized size x = IfSome x (λ world. length world.device ≡ size)

-- what follows if the first world told has a device of this size
pub told_sized : (size : ℕ) (R S : World → World → Type 0) (x y : Option World) → Sized size x → ((a b : World) → length a.device ≡ size → R a b → S a b) → Told R x y → Told S x y
told_sized size R S None None sized f p = tt
told_sized size R S (Some a) None sized f p = tt
told_sized size R S None (Some b) sized f p = absurd p
told_sized size R S (Some a) (Some b) sized f p = f a b sized p

-- what formatting does, by what an edge tells at each of its ends
module _ (instance size : ℕ) (least : LEAST_SIZE ≤ size) where
  part_told : (x y : Option World) → Sized size x → Told (PutsPart (format_puts instance)) x y → Told (FormatsGood instance) x y
  part_told x y sized =
      told_sized size (PutsPart (format_puts instance)) (FormatsGood instance) x y sized (λ a b same part.
      format_part instance a b (omega (arith, least, same)) part)

  pub format_first : (x y : Option World) → Sized size x → Told (PutsPart (one_put 0 (0 ∷ []))) x y → Told (FormatsGood instance) x y
  unfolding format_puts
  format_first x y sized first =
      part_told x y sized (told_map (PutsPart (one_put 0 (0 ∷ []))) (PutsPart (format_puts instance)) x y (λ a b part.
      part_more (one_put 0 (0 ∷ []) ++ one_put 1 (tail_of instance)) (one_put 0 (1 ∷ [])) a b (part_more (one_put 0 (0 ∷ [])) (one_put 1 (tail_of instance)) a b part)) first)

  pub format_second : (tail : List ℕ) (x y z : Option World) → tail ≡ tail_of instance → Sized size x → Told (Puts (one_put 0 (0 ∷ []))) x y → Told (PutsPart (one_put 1 tail)) y z → Told (FormatsGood instance) x z
  unfolding format_puts
  format_second tail x y z is sized first second =
      part_told x z sized (told_then (Puts (one_put 0 (0 ∷ []))) (PutsPart (one_put 1 (tail_of instance))) (PutsPart (format_puts instance)) x y z (λ a b c made part.
      part_more (one_put 0 (0 ∷ []) ++ one_put 1 (tail_of instance)) (one_put 0 (1 ∷ [])) a c (part_then (one_put 0 (0 ∷ [])) (one_put 1 (tail_of instance)) a b c made part)) first (subst (λ (l : List ℕ). Told (PutsPart (one_put 1 l)) y z) is second))

  two_made : (tail : List ℕ) (x y z : Option World) → tail ≡ tail_of instance → Told (Puts (one_put 0 (0 ∷ []))) x y → Told (Puts (one_put 1 tail)) y z → Told (Puts (one_put 0 (0 ∷ []) ++ one_put 1 (tail_of instance))) x z
  two_made tail x y z is first second =
      told_then (Puts (one_put 0 (0 ∷ []))) (Puts (one_put 1 (tail_of instance))) (Puts (one_put 0 (0 ∷ []) ++ one_put 1 (tail_of instance))) x y z (puts_then (one_put 0 (0 ∷ [])) (one_put 1 (tail_of instance))) first (subst (λ (l : List ℕ). Told (Puts (one_put 1 l)) y z) is second)

  pub format_third : (tail : List ℕ) (x y z w : Option World) → tail ≡ tail_of instance → Sized size x → Told (Puts (one_put 0 (0 ∷ []))) x y → Told (Puts (one_put 1 tail)) y z → Told (PutsPart (one_put 0 (1 ∷ []))) z w → Told (FormatsGood instance) x w
  unfolding format_puts
  format_third tail x y z w is sized first second third =
      part_told x w sized (told_then (Puts (one_put 0 (0 ∷ []) ++ one_put 1 (tail_of instance))) (PutsPart (one_put 0 (1 ∷ []))) (PutsPart (format_puts instance)) x z w (part_then (one_put 0 (0 ∷ []) ++ one_put 1 (tail_of instance)) (one_put 0 (1 ∷ []))) (two_made tail x y z is first second) third)

  all_made : (tail : List ℕ) (x y z w : Option World) → tail ≡ tail_of instance → Told (Puts (one_put 0 (0 ∷ []))) x y → Told (Puts (one_put 1 tail)) y z → Told (Puts (one_put 0 (1 ∷ []))) z w → Told (Puts (format_puts instance)) x w
  unfolding format_puts
  all_made tail x y z w is first second third =
      told_then (Puts (one_put 0 (0 ∷ []) ++ one_put 1 (tail_of instance))) (Puts (one_put 0 (1 ∷ []))) (Puts (format_puts instance)) x z w (puts_then (one_put 0 (0 ∷ []) ++ one_put 1 (tail_of instance)) (one_put 0 (1 ∷ []))) (two_made tail x y z is first second) third

  pub format_done_good : (tail : List ℕ) (x y z w : Option World) → tail ≡ tail_of instance → Sized size x → Told (Puts (one_put 0 (0 ∷ []))) x y → Told (Puts (one_put 1 tail)) y z → Told (Puts (one_put 0 (1 ∷ []))) z w → Told (FormatsGood instance) x w
  format_done_good tail x y z w is sized first second third =
      part_told x w sized (told_map (Puts (format_puts instance)) (PutsPart (format_puts instance)) x w (part_all (format_puts instance)) (all_made tail x y z w is first second third))

  pub format_done : (tail : List ℕ) (x y z w : Option World) → size ≤ GREATEST_SIZE → instance < HEADER_INSTANCES → tail ≡ tail_of instance → Sized size x → Told (Puts (one_put 0 (0 ∷ []))) x y → Told (Puts (one_put 1 tail)) y z → Told (Puts (one_put 0 (1 ∷ []))) z w → Told (Formats instance) x w
  format_done tail x y z w most small is sized first second third =
      told_sized size (Puts (format_puts instance)) (Formats instance) x w sized (λ a b same made.
      format_whole instance a b (record { least = omega (arith, least, same); most = omega (arith, most, same) }) small made) (all_made tail x y z w is first second third)

-- the two high bytes of an instance are 0
top_bytes : (instance : ℕ) → instance < HEADER_INSTANCES → to_be_bytes w64 instance ≡ 0 ∷ 0 ∷ instance_bytes instance
top_bytes instance small =
    let high : instance / 256 ^ 7 % 256 ≡ 0 = omega arith in
    let next : instance / 256 ^ 6 % 256 ≡ 0 = omega arith in
    ap (λ (n : ℕ). n ∷ drop 1 (to_be_bytes w64 instance)) high ∙ ap (λ (n : ℕ). 0 ∷ n ∷ instance_bytes instance) next

-- the last six bytes of a header, read as a number, are its instance
pub instance_back : (instance : ℕ) (bytes : List ℕ) → instance < HEADER_INSTANCES → bytes ≡ header instance → from_be_bytes w64 (0 ∷ 0 ∷ get_or bytes 10 0 ∷ get_or bytes 11 0 ∷ get_or bytes 12 0 ∷ get_or bytes 13 0 ∷ get_or bytes 14 0 ∷ get_or bytes 15 0 ∷ []) ≡ instance
unfolding header
instance_back instance bytes small is =
    ap (λ (l : List ℕ). from_be_bytes w64 (0 ∷ 0 ∷ get_or l 10 0 ∷ get_or l 11 0 ∷ get_or l 12 0 ∷ get_or l 13 0 ∷ get_or l 14 0 ∷ get_or l 15 0 ∷ [])) is
    ∙ ap (λ (l : List ℕ). from_be_bytes w64 l) (sym (top_bytes instance small))
    ∙ from_be_bytes-to_be_bytes_8 instance (omega arith)

-- what a read of the header tells, and a size that no device has
read_front : (buf : List ℕ) (device : List ℕ) → length buf ≡ HEADER → buf ≡ take (length buf) (drop 0 device) → buf ≡ take HEADER device
read_front buf device size read = read ∙ ap (λ (n : ℕ). take n device) size

pub instance_found : (instance size : ℕ) (buf : List ℕ) (x y : Option World) → Sized size x → LEAST_SIZE ≤ size → size ≤ GREATEST_SIZE → length buf ≡ HEADER → buf ≡ header instance → instance < HEADER_INSTANCES → Told (Reads 0 buf) x y → Told (ReadsInstance (Ok instance)) x y
instance_found instance size buf x y sized least most whole is small =
    told_sized size (Reads 0 buf) (ReadsInstance (Ok instance)) x y sized (λ a b same read.
    record {
      size = record { least = omega (arith, least, same); most = omega (arith, most, same) };
      small = small;
      is = sym (read_front buf a.device whole read.bytes_there) ∙ is;
    })

pub instance_absent : (buf : List ℕ) (x y : Option World) → length buf ≡ HEADER → ((instance : ℕ) → instance < HEADER_INSTANCES → buf ≡ header instance → ⊥) → Told (Reads 0 buf) x y → Told (ReadsInstance (Err NotFormatted)) x y
instance_absent buf x y whole none =
    told_map (Reads 0 buf) (ReadsInstance (Err NotFormatted)) x y (λ a b read instance has.
    none instance has.small (read_front buf a.device whole read.bytes_there ∙ has.is))

pub size_wrong : (size : ℕ) (x : Option World) → Sized size x → (IsSize size → ⊥) → Told (ReadsInstance (Err NotFormatted)) x x
size_wrong size None sized wrong = tt
size_wrong size (Some a) sized wrong =
    λ instance has. wrong (record { least = omega (arith, has.size.least, sized); most = omega (arith, has.size.most, sized) })
