-- Bytes that are taken in, some after others.
use Rattle.std.proofs.Common.{◌≡◌, inl, inr, ℕ, ◌+◌, ◌-◌, ◌<◌, ◌≤◌, Bool, true, false, ◌||◌, nat_eq, List, [], ◌∷◌, ◌++◌, length, take, refl, sym, ap, subst, ◌∙◌, append_assoc, arith}
use Rattle.std.proofs.Math.Nat.{eq-or-lt_of_le}
use Rattle.std.proofs.Math.Seq.{take-nil}
use Rattle.std.proofs.lemmas.List.{length-take-le}
use Rattle.iss_edge.specs.World.{World}
use Rattle.iss_edge.specs.Calls.{Same, Takes}
use Rattle.iss_model.specs.declared.limits.TheConstants.{MOST_INPUT}
use Rattle.iss_top.specs.declared.stop.Stop.TheVariants as stop
use Rattle.iss_top.specs.declared.piece.Pieces.{Pieces}
use Rattle.iss_top.specs.Lines.{has_line_feed}
use Rattle.iss_top.specs.Reader.{TakesIn, OnlyTakesIn, slice_of}
use Rattle.iss_top.specs.Pieces.{TakesMore, TakesNoMore, unread_of}

-- ---- bytes without a line feed

pub neither_first : (s t : Bool) → (s || t) ≡ false → s ≡ false
neither_first true t e = e
neither_first false t e = refl

pub neither_second : (s t : Bool) → (s || t) ≡ false → t ≡ false
neither_second true t e = cc
neither_second false t e = e

pub none_in_both : (xs ys : List ℕ) → has_line_feed xs ≡ false → has_line_feed ys ≡ false → has_line_feed (xs ++ ys) ≡ false
none_in_both [] ys e f = f
none_in_both (x ∷ xs) ys e f =
    rw (neither_first (nat_eq x 10) (has_line_feed xs) e) (none_in_both xs ys (neither_second (nat_eq x 10) (has_line_feed xs) e) f)

-- ---- what was taken

pub takes_then : (p q : List ℕ) (a b c : World) → TakesIn p a b → TakesIn q b c → TakesIn (p ++ q) a c
takes_then p q a b c f g =
    record {
      bytes = f.bytes ∙ ap (λ (l : List ℕ). p ++ l) g.bytes ∙ sym (append_assoc p q (c.left 0));
      others = λ ch other. g.others ch other ∙ f.others ch other;
    }

pub takes_none : (a b : World) → b.left ≡ a.left → TakesIn [] a b
takes_none a b left =
    record { bytes = ap (λ (l : ℕ → List ℕ). l 0) (sym left); others = λ ch other. ap (λ (l : ℕ → List ℕ). l ch) left }

-- what takes nothing in
pub takes_on : (took : List ℕ) (a b c : World) → TakesIn took a b → c.left ≡ b.left → TakesIn took a c
takes_on took a b c f left =
    record {
      bytes = f.bytes ∙ ap (λ (l : ℕ → List ℕ). took ++ l 0) (sym left);
      others = λ ch other. ap (λ (l : ℕ → List ℕ). l ch) left ∙ f.others ch other;
    }

pub only_then : (p q : List ℕ) (a b c : World) → OnlyTakesIn p a b → OnlyTakesIn q b c → OnlyTakesIn (p ++ q) a c
only_then p q a b c f g =
    record { takes = takes_then p q a b c f.takes g.takes; device = g.device ∙ f.device; trace = g.trace ∙ f.trace }

pub only_none : (a b : World) → Same a b → OnlyTakesIn [] a b
only_none a b s = record { takes = takes_none a b s.left; device = s.device; trace = s.trace }

-- ---- a piece

nothing_left : (text rest : List ℕ) → text ++ rest ≡ [] → rest ≡ []
nothing_left [] rest e = e
nothing_left (t ∷ ts) rest e = cc

unread_is : (bytes buffer : List ℕ) (next filled count : ℕ) → bytes ≡ buffer → next ≡ 0 → filled ≡ count → slice_of bytes next filled ≡ take count buffer
unread_is bytes buffer next filled count same start whole =
    let all : count - 0 ≡ count = omega arith in
    rw (same, start, whole) (ap (λ (n : ℕ). take n buffer) all)

-- this many bytes of a piece that was just taken aren't read
pub count_is : (bytes : List ℕ) (next filled count : ℕ) → next ≡ 0 → filled ≡ count → count ≤ length bytes → length (slice_of bytes next filled) ≡ count
count_is bytes next filled count start whole le =
    ap (λ (l : List ℕ). length l) (unread_is bytes bytes next filled count refl start whole) ∙ length-take-le count bytes le

only_piece : (buffer : List ℕ) (count : ℕ) (a b : World) → Takes (record { 0 = 0 }) count buffer a b → OnlyTakesIn (take count buffer) a b
only_piece buffer count a b t = record { takes = record { bytes = t.bytes; others = t.others }; device = t.device; trace = t.trace }

over : (buffer : List ℕ) (count : ℕ) (a b : World) → Takes (record { 0 = 0 }) count buffer a b → count ≡ 0 → (take count buffer ≡ []) × (b.left 0 ≡ [])
over buffer count a b t none =
    (ap (λ (n : ℕ). take n buffer) none, nothing_left (take count buffer) (b.left 0) (sym t.bytes ∙ t.ends.0 none))

pub takes_more : (more : Bool) (p q : Pieces) (buffer : List ℕ) (count : ℕ) (a b : World) → q.bytes.items ≡ buffer → q.next ≡ 0 → q.filled ≡ count → q.taken ≡ p.taken + count → count ≤ length buffer
    → (more ≡ false → count ≡ 0) → Takes (record { 0 = 0 }) count buffer a b → TakesMore more p q a b
takes_more more p q buffer count a b same start whole taken le none t =
    let unread : unread_of q ≡ take count buffer = unread_is q.bytes.items buffer q.next q.filled count same start whole in
    let size : length (unread_of q) ≡ count = ap (λ (l : List ℕ). length l) unread ∙ length-take-le count buffer le in
    record {
      takes = subst (λ (l : List ℕ). OnlyTakesIn l a b) (sym unread) (only_piece buffer count a b t);
      count = omega (arith, taken, size);
      over = λ e. (unread ∙ (over buffer count a b t (none e)).0, (over buffer count a b t (none e)).1);
    }

-- a take failed
pub no_more : (taken : ℕ) (a b : World) → taken ≤ MOST_INPUT → Same a b → TakesNoMore taken stop.Input a b
no_more taken a b limit s =
    record {
      took = [];
      takes = only_none a b s;
      none = take-nil (MOST_INPUT - taken);
      long = (λ e. cc, λ e. absurd (omega (arith, e, limit)));
      bound = omega (arith, limit);
    }

-- past the limit one byte more is asked for, and before it none that passes the limit
at_limit : (taken count asked : ℕ) → taken ≤ MOST_INPUT → count ≤ asked → MOST_INPUT < taken + count → (taken < MOST_INPUT → taken + asked ≤ MOST_INPUT) → taken ≡ MOST_INPUT
at_limit taken count asked limit le over more =
    elim (eq-or-lt_of_le limit) [ inl last ↦ last | inr before ↦ absurd (omega (arith, le, over, more before)) ]

one_too_many : (taken count asked : ℕ) → taken ≡ MOST_INPUT → count ≤ asked → MOST_INPUT < taken + count → asked ≡ 1 → taken + count ≡ MOST_INPUT + 1
one_too_many taken count asked last le over one = omega (arith, last, le, over, one)

-- one byte too many came
pub too_long : (taken count asked : ℕ) (buffer : List ℕ) (a b : World) → taken ≤ MOST_INPUT → count ≤ asked → MOST_INPUT < taken + count
    → (taken < MOST_INPUT → taken + asked ≤ MOST_INPUT) → (taken ≡ MOST_INPUT → asked ≡ 1) → count ≤ length buffer
    → Takes (record { 0 = 0 }) count buffer a b → TakesNoMore taken stop.InputLong a b
too_long taken count asked buffer a b limit le over more one fits t =
    let last : taken ≡ MOST_INPUT = at_limit taken count asked limit le over more in
    let all : taken + count ≡ MOST_INPUT + 1 = one_too_many taken count asked last le over (one last) in
    let size : length (take count buffer) ≡ count = length-take-le count buffer fits in
    let whole : taken + length (take count buffer) ≡ MOST_INPUT + 1 = omega (arith, all, size) in
    let room : MOST_INPUT - taken ≡ 0 = omega (arith, last) in
    record {
      took = take count buffer;
      takes = only_piece buffer count a b t;
      none = ap (λ (n : ℕ). take n (take count buffer)) room;
      long = (λ e. whole, λ e. refl);
      bound = omega (arith, whole);
    }
