-- What an edge tells of taking pieces, and of reading on to the next line.
use Rattle.std.proofs.Common.{◌≡◌, ℕ, ◌+◌, ◌<◌, ◌≤◌, Bool, true, false, List, [], length, fold, Option, Some, refl, ◌∙◌}
use Rattle.memchr.specs.Find.{IsFirstByte, is_byte}
use Rattle.iss_edge.specs.World.{World, Told}
use Rattle.iss_edge.specs.Calls.{Same, Takes}
use Rattle.iss_edge.proofs.Tolds.{told_map, told_then, told_self, same_self}
use Rattle.iss_model.specs.declared.limits.TheConstants.{MOST_INPUT}
use Rattle.iss_top.specs.declared.stop.Stop.{Stop}
use Rattle.iss_top.specs.declared.stop.Stop.TheVariants as stop
use Rattle.iss_top.specs.declared.piece.Pieces.{Pieces}
use Rattle.iss_top.specs.declared.reader.AtHand.{AtHand}
use Rattle.iss_top.specs.Lines.{has_line_feed, kept_with}
use Rattle.iss_top.specs.Reader.{ReaderNow, ReadsNoPart, ReadsOn}
use Rattle.iss_top.specs.Pieces.{TakesMore, TakesNoMore, unread_of}
use Rattle.iss_top.specs.AtHand.{EndsLine, seen_reader}
use Rattle.iss_top.proofs.Takes.{takes_more, no_more, too_long}
use Rattle.iss_top.proofs.Reading.{ReadSoFar, so_far_begins, so_far_more, part_ends, part_is_last, part_stops, part_unkept}

-- ---- a piece

pub told_takes_more : (more : Bool) (p q : Pieces) (buffer : List ℕ) (count : ℕ) (x y : Option World) → q.bytes.items ≡ buffer → q.next ≡ 0 → q.filled ≡ count → q.taken ≡ p.taken + count → count ≤ length buffer
    → (more ≡ false → count ≡ 0) → Told (Takes (record { 0 = 0 }) count buffer) x y → Told (TakesMore more p q) x y
told_takes_more more p q buffer count x y same start whole taken le none t =
    told_map (Takes (record { 0 = 0 }) count buffer) (TakesMore more p q) x y (λ a b. takes_more more p q buffer count a b same start whole taken le none) t

pub told_no_more : (taken : ℕ) (why : Stop) (x y : Option World) → why ≡ stop.Input → taken ≤ MOST_INPUT → Told Same x y → Told (TakesNoMore taken why) x y
told_no_more taken why x y is limit s =
    rw is (told_map Same (TakesNoMore taken stop.Input) x y (λ a b. no_more taken a b limit) s)

pub told_too_long : (taken count asked : ℕ) (buffer : List ℕ) (x y : Option World) → taken ≤ MOST_INPUT → count ≤ asked → MOST_INPUT < taken + count
    → (taken < MOST_INPUT → taken + asked ≤ MOST_INPUT) → (taken ≡ MOST_INPUT → asked ≡ 1) → count ≤ length buffer
    → Told (Takes (record { 0 = 0 }) count buffer) x y → Told (TakesNoMore taken stop.InputLong) x y
told_too_long taken count asked buffer x y limit le over more one fits t =
    told_map (Takes (record { 0 = 0 }) count buffer) (TakesNoMore taken stop.InputLong) x y (λ a b. too_long taken count asked buffer a b limit le over more one fits) t

-- ---- a line

pub told_so_far_begins : (unread kept : List ℕ) (taken : ℕ) (x : Option World) → kept ≡ [] → Told (ReadSoFar unread taken unread kept taken) x x
told_so_far_begins unread kept taken x none =
    told_self (ReadSoFar unread taken unread kept taken) x (λ a. so_far_begins unread kept taken a none)

pub told_so_far_more : (more : Bool) (unread : List ℕ) (taken : ℕ) (p q : Pieces) (k k' : List ℕ) (x y z : Option World) → has_line_feed (unread_of p) ≡ false → k' ≡ fold kept_with k (unread_of p)
    → Told (ReadSoFar unread taken (unread_of p) k p.taken) x y → Told (TakesMore more p q) y z → Told (ReadSoFar unread taken (unread_of q) k' q.taken) x z
told_so_far_more more unread taken p q k k' x y z none is r t =
    told_then (ReadSoFar unread taken (unread_of p) k p.taken) (TakesMore more p q) (ReadSoFar unread taken (unread_of q) k' q.taken) x y z
    (λ a b c u v. so_far_more unread taken (unread_of p) k p.taken (unread_of q) k' q.taken a b c none is v.count u v.takes) r t

-- the reader had read the last line
pub told_over : (before : ReaderNow) (x : Option World) → before.ended ≡ true → Told (ReadsOn false before before) x x
told_over before x over = told_self (ReadsOn false before before) x (λ a. (over, refl, same_self a))

pub told_part_ends : (before : ReaderNow) (h n : AtHand) (at : ℕ) (x y : Option World) → before.ended ≡ false → h.ended ≡ false → IsFirstByte (is_byte 10) (unread_of h.pieces) (Some at) → h.pieces.taken ≤ MOST_INPUT → EndsLine at h n
    → Told (ReadSoFar before.unread before.taken (unread_of h.pieces) h.kept h.pieces.taken) x y → Told (ReadsOn true before (seen_reader n)) x y
told_part_ends before h n at x y going more found limit ends r =
    told_map (ReadSoFar before.unread before.taken (unread_of h.pieces) h.kept h.pieces.taken) (ReadsOn true before (seen_reader n)) x y
    (λ a b u. (going, part_ends before (seen_reader n) (unread_of h.pieces) h.kept h.pieces.taken at a b found ends.taken limit ends.unread ends.line (ends.ended ∙ more) u)) r

pub told_part_is_last : (before now : ReaderNow) (p q : Pieces) (k k' : List ℕ) (x y z : Option World) → before.ended ≡ false → has_line_feed (unread_of p) ≡ false → k' ≡ fold kept_with k (unread_of p)
    → q.taken ≤ MOST_INPUT → now.taken ≡ q.taken → now.line ≡ k' → now.ended ≡ true
    → Told (ReadSoFar before.unread before.taken (unread_of p) k p.taken) x y → Told (TakesMore false p q) y z → Told (ReadsOn true before now) x z
told_part_is_last before now p q k k' x y z going none is limit taken line ended r t =
    told_then (ReadSoFar before.unread before.taken (unread_of p) k p.taken) (TakesMore false p q) (ReadsOn true before now) x y z
    (λ a b c u v. (
      going,
      part_is_last before now (unread_of q) k' q.taken a c (v.over refl).0 (v.over refl).1 taken limit line ended
          (so_far_more before.unread before.taken (unread_of p) k p.taken (unread_of q) k' q.taken a b c none is v.count u v.takes),
    )) r t

pub told_part_stops : (before : ReaderNow) (u k : List ℕ) (t : ℕ) (why : Stop) (x y z : Option World) → before.ended ≡ false → before.taken ≤ MOST_INPUT → t ≤ MOST_INPUT → has_line_feed u ≡ false
    → Told (ReadSoFar before.unread before.taken u k t) x y → Told (TakesNoMore t why) y z → Told (ReadsNoPart before why) x z
told_part_stops before u k t why x y z going start limit none r s =
    told_then (ReadSoFar before.unread before.taken u k t) (TakesNoMore t why) (ReadsNoPart before why) x y z
    (λ a b c v w. part_stops before u k t why a b c going start limit none v w) r s

pub told_part_unkept : (before : ReaderNow) (u k : List ℕ) (t : ℕ) (x y : Option World) → before.ended ≡ false → before.taken ≤ MOST_INPUT → t ≤ MOST_INPUT
    → Told (ReadSoFar before.unread before.taken u k t) x y → Told (ReadsNoPart before stop.Memory) x y
told_part_unkept before u k t x y going start limit r =
    told_map (ReadSoFar before.unread before.taken u k t) (ReadsNoPart before stop.Memory) x y (λ a b. part_unkept before u k t a b going start limit) r
