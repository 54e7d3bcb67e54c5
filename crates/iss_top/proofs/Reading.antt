-- Reading on to the next line, piece by piece.
use Rattle.std.proofs.Common.{◌≡◌, inl, inr, ℕ, ◌+◌, ◌-◌, ◌≤◌, true, false, List, [], ◌∷◌, ◌++◌, length, take, drop, fold, Some, refl, sym, ap, subst, ◌∙◌, append-nil, append_assoc, arith, length-append}
use Rattle.std.proofs.Math.Seq.{take-append-add}
use Rattle.std.proofs.lemmas.List.Sums.{fold-append}
use Rattle.memchr.specs.Find.{IsFirstByte, is_byte}
use Rattle.iss_edge.specs.World.{World}
use Rattle.iss_edge.proofs.Tolds.{same_self}
use Rattle.iss_model.specs.declared.limits.TheConstants.{MOST_INPUT}
use Rattle.iss_top.specs.declared.stop.Stop.{Stop}
use Rattle.iss_top.specs.declared.stop.Stop.TheVariants as stop
use Rattle.iss_top.specs.Lines.{has_line_feed, kept_with}
use Rattle.iss_top.specs.Reader.{ReaderNow, OnlyTakesIn, IsToldAs, ReadsPart, ReadsNoPart}
use Rattle.iss_top.specs.Pieces.{TakesNoMore}
use Rattle.iss_top.specs.AtHand.{line_with}
use Rattle.iss_top.proofs.Finding.{found_before, found_around}
use Rattle.iss_top.proofs.Takes.{none_in_both, only_then, only_none}
use Rattle.iss_top.proofs.ToldAs.{kept_told, line_told_as}

-- Since a line was begun, with these bytes unread and this many taken: this many are taken by now. What came of the line so far ends no
-- line and is kept so, and these bytes aren't read yet.
pub record ReadSoFar (unread : List ℕ) (taken : ℕ) (unread' kept : List ℕ) (taken' : ℕ) (a b : World) : Type 0 where
  pub took : List ℕ
  pub takes : OnlyTakesIn took a b
  pub count : taken' ≡ taken + length took
  pub part : List ℕ
  pub one_line : has_line_feed part ≡ false
  pub is_kept : kept ≡ fold kept_with [] part
  pub cut : unread ++ took ≡ part ++ unread'

pub so_far_begins : (unread kept : List ℕ) (taken : ℕ) (a : World) → kept ≡ [] → ReadSoFar unread taken unread kept taken a a
so_far_begins unread kept taken a none =
    record {
      took = [];
      takes = only_none a a (same_self a);
      count = omega arith;
      part = [];
      one_line = refl;
      is_kept = none;
      cut = append-nil unread;
    }

-- all that wasn't read is kept, and more was taken
pub so_far_more : (unread : List ℕ) (taken : ℕ) (u k : List ℕ) (t : ℕ) (u' k' : List ℕ) (t' : ℕ) (a b c : World) → has_line_feed u ≡ false → k' ≡ fold kept_with k u → t' ≡ t + length u'
    → ReadSoFar unread taken u k t a b → OnlyTakesIn u' b c → ReadSoFar unread taken u' k' t' a c
so_far_more unread taken u k t u' k' t' a b c none is count r s =
    record {
      took = r.took ++ u';
      takes = only_then r.took u' a b c r.takes s;
      count = omega (arith, count, r.count, length-append {A = ℕ} r.took u');
      part = r.part ++ u;
      one_line = none_in_both r.part u r.one_line none;
      is_kept = is ∙ ap (λ (l : List ℕ). fold kept_with l u) r.is_kept ∙ sym (fold-append kept_with [] r.part u);
      cut = sym (append_assoc unread r.took u') ∙ ap (λ (l : List ℕ). l ++ u') r.cut;
    }

-- ---- the ends

-- a line feed was found
pub part_ends : (before now : ReaderNow) (u k : List ℕ) (t at : ℕ) (a b : World) → IsFirstByte (is_byte 10) u (Some at) → now.taken ≡ t → t ≤ MOST_INPUT → now.unread ≡ drop (at + 1) u → now.line ≡ line_with k (take at u) → now.ended ≡ false
    → ReadSoFar before.unread before.taken u k t a b → ReadsPart before now a b
part_ends before now u k t at a b found taken limit unread line going r =
    let last = take at u in
    let rest = drop (at + 1) u in
    let whole : u ≡ last ++ 10 ∷ rest = found_around u at found ∙ append_assoc last (10 ∷ []) rest in
    record {
      took = r.took;
      takes = r.takes;
      count = taken ∙ r.count;
      bound = omega (arith, taken, limit);
      part = r.part ++ last;
      one_line = none_in_both r.part last r.one_line (found_before u at found);
      line = subst (λ (l : List ℕ). IsToldAs l (r.part ++ last)) (sym line) (line_told_as k r.part last r.is_kept);
      ends =
          inl (
            going,
            r.cut
                ∙ ap (λ (l : List ℕ). r.part ++ l) whole
                ∙ sym (append_assoc r.part last (10 ∷ rest))
                ∙ ap (λ (l : List ℕ). (r.part ++ last) ++ 10 ∷ l) (sym unread),
          );
    }

-- the input ended
pub part_is_last : (before now : ReaderNow) (u k : List ℕ) (t : ℕ) (a b : World) → u ≡ [] → b.left 0 ≡ [] → now.taken ≡ t → t ≤ MOST_INPUT → now.line ≡ k → now.ended ≡ true
    → ReadSoFar before.unread before.taken u k t a b → ReadsPart before now a b
part_is_last before now u k t a b none over taken limit line ended r =
    record {
      took = r.took;
      takes = r.takes;
      count = taken ∙ r.count;
      bound = omega (arith, taken, limit);
      part = r.part;
      one_line = r.one_line;
      line = subst (λ (l : List ℕ). IsToldAs l r.part) (sym (line ∙ r.is_kept)) (kept_told r.part);
      ends = inr (ended, r.cut ∙ ap (λ (l : List ℕ). r.part ++ l) none ∙ append-nil r.part, over);
    }

within : (most taken t : ℕ) (took more : List ℕ) → t ≡ taken + length took → t ≤ most → take (most - t) more ≡ [] → take (most - taken) (took ++ more) ≡ took
within most taken t took more count limit none =
    let room : most - taken ≡ length took + (most - t) = omega (arith, count, limit) in
    ap (λ (n : ℕ). take n (took ++ more)) room
    ∙ take-append-add took more (most - t)
    ∙ ap (λ (l : List ℕ). took ++ l) none
    ∙ append-nil took

-- no more could be taken
pub part_stops : (before : ReaderNow) (u k : List ℕ) (t : ℕ) (why : Stop) (a b c : World) → before.ended ≡ false → before.taken ≤ MOST_INPUT → t ≤ MOST_INPUT → has_line_feed u ≡ false
    → ReadSoFar before.unread before.taken u k t a b → TakesNoMore t why b c → ReadsNoPart before why a c
part_stops before u k t why a b c going start limit none r s =
    let size = length-append {A = ℕ} r.took s.took in
    let first : take (MOST_INPUT - before.taken) (r.took ++ s.took) ≡ r.took = within MOST_INPUT before.taken t r.took s.took r.count limit s.none in
    record {
      going = going;
      limit = start;
      took = r.took ++ s.took;
      takes = only_then r.took s.took a b c r.takes s.takes;
      no_line =
          λ other.
          ap (λ (l : List ℕ). has_line_feed (before.unread ++ l)) first
          ∙ ap (λ (l : List ℕ). has_line_feed l) r.cut
          ∙ none_in_both r.part u r.one_line none;
      long = (λ e. omega (arith, s.long.0 e, r.count, size), λ e. s.long.1 (omega (arith, e, r.count, size)));
      bound = omega (arith, s.bound, r.count, size);
    }

-- an allocation failed
pub part_unkept : (before : ReaderNow) (u k : List ℕ) (t : ℕ) (a b : World) → before.ended ≡ false → before.taken ≤ MOST_INPUT → t ≤ MOST_INPUT → ReadSoFar before.unread before.taken u k t a b → ReadsNoPart before stop.Memory a b
part_unkept before u k t a b going start limit r =
    record {
      going = going;
      limit = start;
      took = r.took;
      takes = r.takes;
      no_line = λ other. absurd (other refl);
      long = (λ e. cc, λ e. absurd (omega (arith, e, r.count, limit)));
      bound = omega (arith, r.count, limit);
    }
