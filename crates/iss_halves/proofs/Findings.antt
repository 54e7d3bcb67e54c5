-- What was read of a device's header, and of its current half's image.
use Rattle.std.proofs.Common.{◌≡◌, ℕ, ◌+◌, ◌/◌, ◌%◌, ◌^◌, ◌<◌, ◌≤◌, true, false, Bool, List, [], ◌∷◌, ◌++◌, length, take, drop, get_or, Option, Some, None, Result, Ok, Err, refl, sym, ap, ◌∙◌, subst, arith, drop-drop}
use Rattle.std.specs.Int.{w32, w64, to_be_bytes, from_be_bytes}
use Rattle.std.proofs.lemmas.Nat.{from_be_bytes-to_be_bytes_8}
use Rattle.std.proofs.lemmas.List.{take-take, take-append-drop, drop-take}
use Rattle.iss_edge.specs.World.{World, Told}
use Rattle.iss_edge.specs.Calls.{Same, Reads}
use Rattle.iss_edge.proofs.Tolds.{told_map, told_then, told_self}
use Rattle.iss_journal.specs.declared.fault.JournalFault.{JournalFault}
use Rattle.iss_journal.specs.declared.fault.JournalFault.TheVariants.{Disk, NotFormatted, BadRecord, Full, OutOfMemory}
use Rattle.iss_journal.specs.Answers.{DiskOrMemory}
use Rattle.iss_journal.specs.Header.{instance_bytes, IsUnformatted, ReadsInstance}
use Rattle.iss_journal.specs.Opening.{ReadsGate}
use Rattle.iss_journal.proofs.Formats.{Sized, told_sized}
use Rattle.iss_halves.specs.Forms.{Layout}
use Rattle.iss_halves.specs.Halves.{halves_header, IsHalvesSize, HasHalves, half_size, half_start, names_second}
use Rattle.iss_halves.specs.Finding.{HasLayout, FindsLayout, FindsHalves, ReadsLength, HoldsImage, ImageOf, FindsImage}

told_both : (R S : World → World → Type 0) (x y : Option World) → Told R x y → Told S x y → Told (λ a b. R a b × S a b) x y
told_both R S None None p q = tt
told_both R S (Some a) None p q = tt
told_both R S None (Some b) p q = p
told_both R S (Some a) (Some b) p q = (p, q)

-- ---- the header

-- a header, read, and its instance
read_front : (buf device : List ℕ) → length buf ≡ 16 → buf ≡ take (length buf) (drop 0 device) → buf ≡ take 16 device
read_front buf device size read = read ∙ ap (λ (n : ℕ). take n device) size

top_bytes : (instance : ℕ) → instance < 2 ^ 48 → to_be_bytes w64 instance ≡ 0 ∷ 0 ∷ instance_bytes instance
top_bytes instance small =
    let high : instance / 256 ^ 7 % 256 ≡ 0 = omega arith in
    let next : instance / 256 ^ 6 % 256 ≡ 0 = omega arith in
    ap (λ (n : ℕ). n ∷ drop 1 (to_be_bytes w64 instance)) high ∙ ap (λ (n : ℕ). 0 ∷ n ∷ instance_bytes instance) next

pub instance_back : (instance : ℕ) (bytes : List ℕ) → instance < 2 ^ 48 → bytes ≡ halves_header instance → from_be_bytes w64 (0 ∷ 0 ∷ get_or bytes 10 0 ∷ get_or bytes 11 0 ∷ get_or bytes 12 0 ∷ get_or bytes 13 0 ∷ get_or bytes 14 0 ∷ get_or bytes 15 0 ∷ []) ≡ instance
unfolding halves_header
instance_back instance bytes small is =
    ap (λ (l : List ℕ). from_be_bytes w64 (0 ∷ 0 ∷ get_or l 10 0 ∷ get_or l 11 0 ∷ get_or l 12 0 ∷ get_or l 13 0 ∷ get_or l 14 0 ∷ get_or l 15 0 ∷ [])) is
    ∙ ap (λ (l : List ℕ). from_be_bytes w64 l) (sym (top_bytes instance small))
    ∙ from_be_bytes-to_be_bytes_8 instance (omega arith)

-- a header and a selector were read
record HeaderRead (buf : List ℕ) (selector : ℕ) (a b : World) : Type 0 where
  header : buf ≡ take (length buf) (drop 0 a.device)
  there : get_or a.device 16 0 ≡ selector

header_read : (buf : List ℕ) (selector : ℕ) (x y z : Option World) → Told (Reads 0 buf) x y → Told (ReadsGate 16 selector) y z → Told (HeaderRead buf selector) x z
header_read buf selector x y z =
    told_then (Reads 0 buf) (ReadsGate 16 selector) (HeaderRead buf selector) x y z (λ a b c read gate.
    record { header = read.bytes_there; there = ap (λ (l : List ℕ). get_or l 16 0) (sym read.same.device) ∙ gate.there })

pub halves_found : (instance size selector : ℕ) (second : Bool) (buf : List ℕ) (x y z : Option World) → Sized size x → 27 ≤ size → size ≤ 2 ^ 32 → length buf ≡ 16 → buf ≡ halves_header instance → instance < 2 ^ 48 → second ≡ names_second selector
    → Told (Reads 0 buf) x y → Told (ReadsGate 16 selector) y z → Told (FindsHalves (Ok (record { halved = true; instance = instance; size = size; second = second }))) x z
halves_found instance size selector second buf x y z sized least most whole is small names read gate =
    told_sized size (HeaderRead buf selector) (FindsHalves (Ok (record { halved = true; instance = instance; size = size; second = second }))) x z sized (λ a b same read.
    record {
      kind = (
        record {
          size = record { least = omega (arith, least, same); most = omega (arith, most, same) };
          small = small;
          is = sym (read_front buf a.device whole read.header) ∙ is;
        },
        ap names_second read.there ∙ sym names,
      );
    }) (header_read buf selector x y z read gate)

pub halves_absent : (buf : List ℕ) (x y : Option World) → length buf ≡ 16 → ((instance : ℕ) → instance < 2 ^ 48 → buf ≡ halves_header instance → ⊥) → Told (Reads 0 buf) x y → Told (FindsHalves (Err NotFormatted)) x y
halves_absent buf x y whole none =
    told_map (Reads 0 buf) (FindsHalves (Err NotFormatted)) x y (λ a b read instance has.
    none instance has.small (read_front buf a.device whole read.bytes_there ∙ has.is))

pub halves_no_disk : (x y : Option World) → Told Same x y → Told (FindsHalves (Err Disk)) x y
halves_no_disk x y = told_map Same (FindsHalves (Err Disk)) x y (λ a b same. tt)

pub halves_unread : (buf : List ℕ) (x y z : Option World) → Told (Reads 0 buf) x y → Told Same y z → Told (FindsHalves (Err Disk)) x z
halves_unread buf x y z = told_then (Reads 0 buf) Same (FindsHalves (Err Disk)) x y z (λ a b c read same. tt)

pub halves_sized : (size : ℕ) (x : Option World) → Sized size x → (IsHalvesSize size → ⊥) → Told (FindsHalves (Err NotFormatted)) x x
halves_sized size None sized wrong = tt
halves_sized size (Some a) sized wrong =
    λ instance has. wrong (record { least = omega (arith, has.size.least, sized); most = omega (arith, has.size.most, sized) })

pub found_whole : (instance size : ℕ) (x y : Option World) → Told (ReadsInstance (Ok instance)) x y → Told (FindsLayout (Ok (record { halved = false; instance = instance; size = size; second = false }))) x y
found_whole instance size x y =
    told_map (ReadsInstance (Ok instance)) (FindsLayout (Ok (record { halved = false; instance = instance; size = size; second = false }))) x y (λ a b read. record { kind = read })

pub found_no_disk : (x y : Option World) → Told Same x y → Told (FindsLayout (Err Disk)) x y
found_no_disk x y = told_map Same (FindsLayout (Err Disk)) x y (λ a b same. tt)

-- no header of one journal, and what was then found of halves
layout_behind : (result : Result Layout JournalFault) (a b c : World) → IsUnformatted a.device → b.device ≡ a.device → FindsHalves result b c → FindsLayout result a c
layout_behind (Ok layout) a b c none same found = subst (λ (l : List ℕ). HasLayout layout l) same found
layout_behind (Err NotFormatted) a b c none same found =
    (none, subst (λ (l : List ℕ). (instance : ℕ) → HasHalves l instance → ⊥) same found)
layout_behind (Err Disk) a b c none same found = tt
layout_behind (Err (BadRecord place)) a b c none same found = found
layout_behind (Err (Full free need)) a b c none same found = found
layout_behind (Err OutOfMemory) a b c none same found = found

pub found_behind : (result : Result Layout JournalFault) (x y z : Option World) → Told (ReadsInstance (Err NotFormatted)) x y → Told Same x y → Told (FindsHalves result) y z → Told (FindsLayout result) x z
found_behind result x y z none same found =
    told_then (λ a b. IsUnformatted a.device × Same a b) (FindsHalves result) (FindsLayout result) x y z (λ a b c first found.
    layout_behind result a b c first.0 first.1.device found) (told_both (ReadsInstance (Err NotFormatted)) Same x y none same) found

-- ---- the image

take_sum : (m n : ℕ) (xs : List ℕ) → take (m + n) xs ≡ take m xs ++ take n (drop m xs)
take_sum m n xs =
    sym (take-append-drop m (take (m + n) xs))
    ∙ ap (λ (l : List ℕ). l ++ drop m (take (m + n) xs)) (take-take m (m + n) xs (omega arith))
    ∙ ap (λ (l : List ℕ). take m xs ++ l) (drop-take m n xs)

pub length_is : (at n : ℕ) (buf : List ℕ) (x y : Option World) → length buf ≡ 4 → buf ≡ to_be_bytes w32 n → n < 2 ^ 32 → Told (Reads at buf) x y → Told (ReadsLength at n) x y
length_is at n buf x y four is small =
    told_map (Reads at buf) (ReadsLength at n) x y (λ a b read.
    record {
      there = ap (λ (m : ℕ). take m (drop at a.device)) (sym four) ∙ sym read.bytes_there ∙ is;
      small = small;
      same = read.same;
    })

image_of_whole : (halved : Bool) (size : ℕ) (second : Bool) (device : List ℕ) → halved ≡ false → ImageOf halved size second [] device
image_of_whole true size second device none = cc
image_of_whole false size second device none = refl

image_of_half : (halved : Bool) (size : ℕ) (second : Bool) (image device : List ℕ) → halved ≡ true → HoldsImage size second image device → ImageOf halved size second image device
image_of_half true size second image device is holds = holds
image_of_half false size second image device is holds = cc

pub image_none : (layout : Layout) (x : Option World) → layout.halved ≡ false → Told (FindsImage layout (Ok [])) x x
image_none layout x none =
    told_self (FindsImage layout (Ok [])) x (λ a. image_of_whole layout.halved layout.size layout.second a.device none)

pub image_no_disk : (layout : Layout) (x y : Option World) → Told Same x y → Told (FindsImage layout (Err Disk)) x y
image_no_disk layout x y = told_map Same (FindsImage layout (Err Disk)) x y (λ a b same. tt)

pub image_long : (layout : Layout) (start n : ℕ) (x y : Option World) → layout.halved ≡ true → start ≡ half_start layout.size layout.second → half_size layout.size < 5 + n → Told (ReadsLength start n) x y → Told (FindsImage layout (Err (BadRecord start))) x y
image_long layout start n x y halved here long =
    told_map (ReadsLength start n) (FindsImage layout (Err (BadRecord start))) x y (λ a b read.
    record {
      halved = halved;
      here = here;
      long = record {
        n = n;
        small = read.small;
        there = ap (λ (m : ℕ). take 4 (drop m a.device)) (sym here) ∙ read.there;
        long = long;
      };
    })

-- a failed read of the image's bytes
fails_so : (layout : Layout) (fault : JournalFault) (a b : World) → DiskOrMemory {T = List ℕ} (Err fault) → FindsImage layout (Err fault) a b
fails_so layout Disk a b of = tt
fails_so layout OutOfMemory a b of = tt
fails_so layout NotFormatted a b of = of
fails_so layout (BadRecord place) a b of = absurd of
fails_so layout (Full free need) a b of = of

pub image_unread : (layout : Layout) (fault : JournalFault) (start n : ℕ) (x y z : Option World) → DiskOrMemory {T = List ℕ} (Err fault) → Told (ReadsLength start n) x y → Told Same y z → Told (FindsImage layout (Err fault)) x z
image_unread layout fault start n x y z of =
    told_then (ReadsLength start n) Same (FindsImage layout (Err fault)) x y z (λ a b c read same. fails_so layout fault a c of)

pub image_there : (layout : Layout) (start n : ℕ) (image : List ℕ) (x y z : Option World) → layout.halved ≡ true → start ≡ half_start layout.size layout.second → 5 + n ≤ half_size layout.size → length image ≡ n
    → Told (ReadsLength start n) x y → Told (Reads (start + 4) image) y z → Told (FindsImage layout (Ok image)) x z
image_there layout start n image x y z halved here room whole =
    told_then (ReadsLength start n) (Reads (start + 4) image) (FindsImage layout (Ok image)) x y z (λ a b c read bytes.
    let tail = drop start a.device in
    let four : take 4 tail ≡ to_be_bytes w32 (length image) = read.there ∙ ap (λ (m : ℕ). to_be_bytes w32 m) (sym whole) in
    let rest : take (length image) (drop 4 tail) ≡ image =
    ap (λ (l : List ℕ). take (length image) l) (drop-drop 4 start a.device)
    ∙ ap (λ (l : List ℕ). take (length image) (drop (start + 4) l)) (sym read.same.device)
    ∙ sym bytes.bytes_there in
    image_of_half layout.halved layout.size layout.second image a.device halved (record {
      room = omega (arith, room, whole);
      there =
          ap (λ (m : ℕ). take (4 + length image) (drop m a.device)) (sym here)
          ∙ take_sum 4 (length image) tail
          ∙ ap (λ (l : List ℕ). l ++ take (length image) (drop 4 tail)) four
          ∙ ap (λ (l : List ℕ). to_be_bytes w32 (length image) ++ l) rest;
    }))
