-- How a line ends in the piece at hand.
use Rattle.std.proofs.Common.{◌≡◌, ℕ, ◌+◌, ◌-◌, ◌<◌, ◌≤◌, Bool, true, false, cond, nat_eq, List, [], ◌∷◌, length, take, drop, fold, Some, refl, sym, ap, subst, ◌∙◌, arith}
use Rattle.std.proofs.lemmas.List.{length-take-le, length-drop, drop-take, drop-drop, take-take}
use Rattle.std.proofs.lemmas.Bool.{eqb-true}
use Rattle.memchr.specs.Find.{IsFirstByte, is_byte}
use Rattle.iss_model.specs.declared.limits.TheConstants.{MOST_INPUT}
use Rattle.iss_top.specs.declared.reader.AtHand.{AtHand}
use Rattle.iss_top.specs.Lines.{kept_with}
use Rattle.iss_top.specs.Reader.{ReaderNow, Advances, slice_of, line_at_hand, may_come, fresh_reader}
use Rattle.iss_top.specs.Pieces.{AreFresh, unread_of}
use Rattle.iss_top.specs.AtHand.{EndsLine, line_of, seen_reader}
use Rattle.iss_top.proofs.ToldAs.{length-line, length-kept_run}

-- ---- slices

-- the first bytes of what isn't read yet
line_slice : (bytes : List ℕ) (next filled at end : ℕ) → end ≡ next + at → next + at < filled → slice_of bytes next end ≡ take at (slice_of bytes next filled)
line_slice bytes next filled at end is fits =
    let size : end - next ≡ at = omega (arith, is) in
    ap (λ (n : ℕ). take n (drop next bytes)) size ∙ sym (take-take at (filled - next) (drop next bytes) (omega (arith, fits)))

-- the bytes after the first ones and one more
rest_slice : (bytes : List ℕ) (next filled at from : ℕ) → from ≡ next + (at + 1) → next + at < filled → slice_of bytes from filled ≡ drop (at + 1) (slice_of bytes next filled)
rest_slice bytes next filled at from is fits =
    let more : filled - next ≡ (at + 1) + (filled - from) = omega (arith, is, fits) in
    ap (λ (n : ℕ). take (filled - from) (drop n bytes)) is
    ∙ ap (λ (l : List ℕ). take (filled - from) l) (sym (drop-drop (at + 1) next bytes))
    ∙ sym (drop-take (at + 1) (filled - from) (drop next bytes))
    ∙ ap (λ (n : ℕ). drop (at + 1) (take n (drop next bytes))) (sym more)

none_left : (l : List ℕ) → nat_eq (length l) 0 ≡ true → l ≡ []
none_left [] e = refl
none_left (b ∷ bs) e = absurd (omega (arith, eqb-true (length (b ∷ bs)) 0 e))

kept_where : (kept whole : List ℕ) (none : Bool) → nat_eq (length kept) 0 ≡ none → whole ≡ [] → cond none whole kept ≡ kept
kept_where kept whole true e empty = empty ∙ sym (none_left kept e)
kept_where kept whole false e empty = refl

none_between : (bytes : List ℕ) (from to : ℕ) → from ≡ 0 → to ≡ 0 → slice_of bytes from to ≡ []
none_between bytes from to first last = rw (first, last) refl

-- if no line lies in the piece, it is what is kept
pub line_is_kept : (kept bytes : List ℕ) (start end : ℕ) → start ≡ 0 → end ≡ 0 → line_at_hand kept (slice_of bytes start end) ≡ kept
line_is_kept kept bytes start end first last =
    kept_where kept (slice_of bytes start end) (nat_eq (length kept) 0) refl (none_between bytes start end first last)

-- ---- at the start

abbrev reader_at : ℕ → List ℕ → List ℕ → Bool → ReaderNow
reader_at taken unread line ended = record { taken = taken; unread = unread; line = line; ended = ended }

same_reader : (t t' : ℕ) (u u' l l' : List ℕ) (e e' : Bool) → t ≡ t' → u ≡ u' → l ≡ l' → e ≡ e' → reader_at t u l e ≡ reader_at t' u' l' e'
same_reader t t' u u' l l' e e' p q r s = rw (p, q, r, s) refl

pub fresh_hand : (h : AtHand) → AreFresh h.pieces → h.start ≡ 0 → h.end ≡ 0 → h.kept ≡ [] → h.ended ≡ false → seen_reader h ≡ fresh_reader
fresh_hand h f start end kept ended =
    same_reader h.pieces.taken 0 (unread_of h.pieces) [] (line_of h) [] h.ended false f.taken
    (none_between h.pieces.bytes.items h.pieces.next h.pieces.filled f.next f.filled)
    (line_is_kept h.kept h.pieces.bytes.items h.start h.end start end ∙ kept) ended

-- ---- a line ends

-- it lies whole in the piece
pub ends_whole : (at : ℕ) (before now : AtHand) → nat_eq (length before.kept) 0 ≡ true → before.pieces.next + at < before.pieces.filled
    → now.kept ≡ before.kept → now.ended ≡ before.ended → now.pieces.bytes.items ≡ before.pieces.bytes.items → now.pieces.filled ≡ before.pieces.filled → now.pieces.taken ≡ before.pieces.taken
    → now.start ≡ before.pieces.next → now.end ≡ before.pieces.next + at → now.pieces.next ≡ before.pieces.next + (at + 1) → EndsLine at before now
ends_whole at before now none fits kept ended bytes filled taken start end next =
    let items = before.pieces.bytes.items in
    record {
      taken = taken;
      unread =
          ap (λ (l : List ℕ). slice_of l now.pieces.next now.pieces.filled) bytes
          ∙ ap (λ (n : ℕ). slice_of items now.pieces.next n) filled
          ∙ rest_slice items before.pieces.next before.pieces.filled at now.pieces.next next fits;
      line =
          ap (λ (l : List ℕ). line_at_hand l (slice_of now.pieces.bytes.items now.start now.end)) kept
          ∙ ap (λ (t : Bool). cond t (slice_of now.pieces.bytes.items now.start now.end) before.kept) none
          ∙ ap (λ (l : List ℕ). slice_of l now.start now.end) bytes
          ∙ ap (λ (n : ℕ). slice_of items n now.end) start
          ∙ line_slice items before.pieces.next before.pieces.filled at now.end end fits
          ∙ ap (λ (t : Bool). cond t (take at (unread_of before.pieces)) (fold kept_with before.kept (take at (unread_of before.pieces)))) (sym none);
      ended = ended;
    }

-- a part of it was kept, and now all of it is
pub ends_kept : (at : ℕ) (before now : AtHand) → nat_eq (length before.kept) 0 ≡ false → before.pieces.next + at < before.pieces.filled
    → now.kept ≡ fold kept_with before.kept (slice_of before.pieces.bytes.items before.pieces.next (before.pieces.next + at)) → now.ended ≡ before.ended → now.pieces.bytes.items ≡ before.pieces.bytes.items → now.pieces.filled ≡ before.pieces.filled → now.pieces.taken ≡ before.pieces.taken
    → now.start ≡ 0 → now.end ≡ 0 → now.pieces.next ≡ before.pieces.next + (at + 1) → EndsLine at before now
ends_kept at before now some fits kept ended bytes filled taken start end next =
    let items = before.pieces.bytes.items in
    record {
      taken = taken;
      unread =
          ap (λ (l : List ℕ). slice_of l now.pieces.next now.pieces.filled) bytes
          ∙ ap (λ (n : ℕ). slice_of items now.pieces.next n) filled
          ∙ rest_slice items before.pieces.next before.pieces.filled at now.pieces.next next fits;
      line =
          line_is_kept now.kept now.pieces.bytes.items now.start now.end start end
          ∙ kept
          ∙ ap (fold kept_with before.kept) (line_slice items before.pieces.next before.pieces.filled at (before.pieces.next + at) refl fits)
          ∙ ap (λ (t : Bool). cond t (take at (unread_of before.pieces)) (fold kept_with before.kept (take at (unread_of before.pieces)))) (sym some);
      ended = ended;
    }

-- ---- how far the reader went

comes : (now : ReaderNow) → now.ended ≡ false → may_come now ≡ 1
comes now going = rw going refl

comes_not : (now : ReaderNow) → now.ended ≡ true → may_come now ≡ 0
comes_not now ended = rw ended refl

-- a line feed was found
pub line_advances : (before : ReaderNow) (h n : AtHand) (at : ℕ) → before.ended ≡ false → h.ended ≡ false → IsFirstByte (is_byte 10) (unread_of h.pieces) (Some at) → h.pieces.taken ≤ MOST_INPUT → EndsLine at h n
    → length h.kept + length (unread_of h.pieces) + before.taken ≤ length before.unread + h.pieces.taken → Advances before (seen_reader n)
line_advances before h n at going more found limit ends room =
    let u = unread_of h.pieces in
    let within : at < length u = found.0.high in
    let first : length (take at u) ≡ at = length-take-le at u (omega (arith, within)) in
    let size : length (line_of n) ≤ length h.kept + length (take at u) =
    subst (λ (l : List ℕ). length l ≤ length h.kept + length (take at u)) (sym ends.line) (length-line h.kept (take at u)) in
    let left : length (unread_of n.pieces) ≡ length u - (at + 1) = ap (λ (l : List ℕ). length l) ends.unread ∙ length-drop (at + 1) u in
    record {
      going = going;
      limit = omega (arith, ends.taken, limit);
      room = omega (arith, room, size, first, left, within, ends.taken, comes (seen_reader n) (ends.ended ∙ more));
    }

-- the input ended
pub last_advances : (before : ReaderNow) (n : AtHand) → before.ended ≡ false → n.pieces.taken ≤ MOST_INPUT → n.start ≡ 0 → n.end ≡ 0 → n.ended ≡ true
    → length n.kept + length (unread_of n.pieces) + before.taken ≤ length before.unread + n.pieces.taken → Advances before (seen_reader n)
last_advances before n going limit start end ended room =
    let size : length (line_of n) ≡ length n.kept = ap (λ (l : List ℕ). length l) (line_is_kept n.kept n.pieces.bytes.items n.start n.end start end) in
    record { going = going; limit = limit; room = omega (arith, room, size, comes_not (seen_reader n) ended) }

-- what was kept of the line and what isn't read yet is among what wasn't read before and what was taken
pub room_so_far : (kept kept' u u' : List ℕ) (n before taken taken' : ℕ) → kept' ≡ fold kept_with kept u → taken' ≡ taken + length u' → length kept + length u + before ≤ n + taken → length kept' + length u' + before ≤ n + taken'
room_so_far kept kept' u u' n before taken taken' is count room =
    let more : length kept' ≤ length kept + length u = subst (λ (l : List ℕ). length l ≤ length kept + length u) (sym is) (length-kept_run kept u) in
    omega (arith, more, count, room)
