-- What is done on the first bytes of a device is done on the whole device, with zeros after them.
use Rattle.std.proofs.Common.{◌≡◌, ℕ, ◌+◌, ◌-◌, ◌≤◌, inl, inr, List, ◌++◌, length, take, drop, refl, sym, ap, ◌∙◌, append_assoc, arith}
use Rattle.std.specs.Prelude.{replicate, Result, Ok, Err, OnOk, OnErr}
use Rattle.std.proofs.lemmas.List.{length-take-le, take-take, take-append-le, take_at, drop_at, drop-append-le, drop-take}
use Rattle.iss_edge.specs.World.{World}
use Rattle.iss_edge.specs.Calls.{Same, Reads, Writes, WritesPart, TearsWrite}
use Rattle.iss_edge.specs.Disk.{splice}
use Rattle.iss_edge.proofs.Splices.{length-spliced, take-spliced, drop-spliced, spliced_from}
use Rattle.iss_drill.specs.Blanks.{with_zeros, length_with, world_with}

-- ---- the bytes

-- the first of the bytes that are kept
first_of : (size k : ℕ) (xs : List ℕ) → k ≤ size → k ≤ length xs → take k (with_zeros size xs) ≡ take k xs
first_of size k xs below kept = take-take k size (xs ++ replicate size 0) below ∙ take-append-le k xs (replicate size 0) kept

-- bytes that are kept, read from a place on
read_of : (size at count : ℕ) (xs : List ℕ) → at + count ≤ size → at + count ≤ length xs → take count (drop at (with_zeros size xs)) ≡ take count (drop at xs)
read_of size at count xs below kept =
    sym (drop-take at count (with_zeros size xs))
    ∙ ap (λ (l : List ℕ). drop at l) (first_of size (at + count) xs below kept)
    ∙ drop-take at count xs

-- what stands after bytes that are kept
rest_of : (size k : ℕ) (xs : List ℕ) → k ≤ size → k ≤ length xs → drop k (with_zeros size xs) ≡ take (size - k) (drop k xs ++ replicate size 0)
rest_of size k xs below kept =
    let whole : size ≡ k + (size - k) = omega arith in
    ap (λ (n : ℕ). drop k (take n (xs ++ replicate size 0))) whole
    ∙ drop-take k (size - k) (xs ++ replicate size 0)
    ∙ ap (λ (l : List ℕ). take (size - k) l) (drop-append-le k xs (replicate size 0) kept)

-- bytes that were put somewhere, read again
spliced_read : (at : ℕ) (new bytes : List ℕ) → at + length new ≤ length bytes → take (length new) (drop at (splice at new bytes)) ≡ new
spliced_read at new bytes within =
    ap (λ (l : List ℕ). take (length new) (drop at l)) (append_assoc (take at bytes) new (drop (at + length new) bytes))
    ∙ ap (λ (l : List ℕ). take (length new) l) (drop_at (take at bytes) (new ++ drop (at + length new) bytes) at (length-take-le at bytes (omega arith)))
    ∙ take_at new (drop (at + length new) bytes) (length new) refl

-- bytes that are put among those that are kept
spliced_with : (size at : ℕ) (new xs : List ℕ) → at + length new ≤ size → at + length new ≤ length xs → with_zeros size (splice at new xs) ≡ splice at new (with_zeros size xs)
spliced_with size at new xs below kept =
    let count : ℕ = length new in
    let put : List ℕ = splice at new xs in
    let same : length put ≡ length xs = length-spliced at new xs kept in
    let within : at + count ≤ length put = omega arith in
    let before : take at (with_zeros size put) ≡ take at (with_zeros size xs) =
    first_of size at put (omega arith) (omega arith) ∙ take-spliced at new xs kept ∙ sym (first_of size at xs (omega arith) (omega arith)) in
    let behind : drop (at + count) (with_zeros size put) ≡ drop (at + count) (with_zeros size xs) =
    rest_of size (at + count) put below within
    ∙ ap (λ (l : List ℕ). take (size - (at + count)) (l ++ replicate size 0)) (drop-spliced at new xs kept)
    ∙ sym (rest_of size (at + count) xs below kept) in
    spliced_from at count (with_zeros size put) (with_zeros size xs) (omega (arith, length_with size put)) before behind
    ∙ ap (λ (l : List ℕ). splice at l (with_zeros size xs)) (read_of size at count put below within ∙ spliced_read at new xs kept)

-- ---- what is told

same_with : (size : ℕ) (a b : World) → Same a b → Same (world_with size a) (world_with size b)
same_with size a b s =
    record { device = ap (λ (l : List ℕ). with_zeros size l) s.device; left = s.left; arrivals = s.arrivals; trace = s.trace }

pub read_with : {T F : Type 0} (r : Result T F) (size at : ℕ) (bytes : List ℕ) (a b : World) → at + length bytes ≤ size → at + length bytes ≤ length a.device
    → OnOk r (Reads at bytes a b) → OnOk r (Reads at bytes (world_with size a) (world_with size b))
read_with (Err e) size at bytes a b below kept s = tt
read_with (Ok v) size at bytes a b below kept s =
    record { bytes_there = s.bytes_there ∙ sym (read_of size at (length bytes) a.device below kept); same = same_with size a b s.same }

pub written_with : {T F : Type 0} (r : Result T F) (size at : ℕ) (bytes : List ℕ) (a b : World) → at + length bytes ≤ size → at + length bytes ≤ length a.device
    → OnOk r (Writes at bytes a b) → OnOk r (Writes at bytes (world_with size a) (world_with size b))
written_with (Err e) size at bytes a b below kept s = tt
written_with (Ok v) size at bytes a b below kept s =
    record {
      device = ap (λ (l : List ℕ). with_zeros size l) s.device ∙ spliced_with size at bytes a.device below kept;
      left = s.left;
      arrivals = s.arrivals;
      trace = s.trace;
    }

torn_with : (size at : ℕ) (bytes : List ℕ) (a b : World) → at + length bytes ≤ size → at + length bytes ≤ length a.device → TearsWrite at bytes a b → TearsWrite at bytes (world_with size a) (world_with size b)
torn_with size at bytes a b below kept t =
    record {
      torn = t.torn;
      whole = t.whole;
      device = ap (λ (l : List ℕ). with_zeros size l) t.device ∙ spliced_with size at t.torn a.device (omega (arith, below, t.whole)) (omega (arith, kept, t.whole));
      added = t.added;
    }

pub part_with : {T F : Type 0} (r : Result T F) (size at : ℕ) (bytes : List ℕ) (a b : World) → at + length bytes ≤ size → at + length bytes ≤ length a.device
    → OnErr r (WritesPart at bytes a b) → OnErr r (WritesPart at bytes (world_with size a) (world_with size b))
part_with (Ok v) size at bytes a b below kept s = tt
part_with (Err e) size at bytes a b below kept s =
    record {
      left = s.left;
      arrivals = s.arrivals;
      how = elim s.how [ inl same ↦ inl (same_with size a b same) | inr torn ↦ inr (torn_with size at bytes a b below kept torn) ];
    }
