-- Bytes that are taken from pieces that came on channels.
use Rattle.std.proofs.Common.{◌≡◌, ℕ, ◌+◌, ◌<◌, ◌==◌, min, Bool, true, false, not, ◌&&◌, suc, cond, List, [], ◌∷◌, ◌++◌, length, take, drop, get_or, refl, sym, ap, ◌∙◌, append_assoc, append-nil, arith, length-append}
use Rattle.std.specs.Prelude.{slice_set}
use Rattle.std.proofs.lemmas.Bool.{ne_eqb, eqb-true, and_parts}
use Rattle.std.proofs.lemmas.List.{take-append-drop, length-take-le, nil_from_length, take-set, drop-set}
use Rattle.std.proofs.Math.Seq.{take-nil, drop-cons}
use Rattle.iss_edge.specs.declared.outside.Channel.{Channel}
use Rattle.iss_edge.specs.declared.outside.Action.{Action}
use Rattle.iss_edge.specs.declared.outside.Script.{Script}
use Rattle.iss_edge.specs.declared.outside.Script.TheVariants.{More}
use Rattle.iss_edge.specs.declared.memory.piece.Piece.{Piece}
use Rattle.iss_edge.specs.Calls.{Takes, next_bytes}
use Rattle.iss_edge.specs.Memory.{left_on, is_none_left, has_more_on, next_rest, after_take}

-- what more pieces add
pub left_on-append : (pieces more : List Piece) (ch : ℕ) → left_on (pieces ++ more) ch ≡ left_on pieces ch ++ left_on more ch
left_on-append [] more ch = refl
left_on-append (p ∷ pieces) more ch =
    ap (λ (l : List ℕ). cond (p.ch.0 == ch) p.rest [] ++ l) (left_on-append pieces more ch)
    ∙ sym (append_assoc (cond (p.ch.0 == ch) p.rest []) (left_on pieces ch) (left_on more ch))

-- a piece that has no more adds nothing
none_here : (here : Bool) (rest : List ℕ) → (here && not (is_none_left rest)) ≡ false → cond here rest [] ≡ []
none_here false rest e = refl
none_here true [] e = refl
none_here true (b ∷ bs) e = cc

-- nothing is left if no piece has more
pub left_on-none : (ch : ℕ) (pieces : List Piece) → next_rest ch pieces ≡ [] → left_on pieces ch ≡ []
left_on-none ch [] e = refl
left_on-none ch (p ∷ pieces) e = first (p.ch.0 == ch) p.rest (left_on pieces ch) (next_rest ch pieces) e (left_on-none ch pieces)
  where
    first : (here : Bool) (rest more next : List ℕ) → cond (here && not (is_none_left rest)) rest next ≡ [] → (next ≡ [] → more ≡ []) → cond here rest [] ++ more ≡ []
    first false rest more next e none = none e
    first true [] more next e none = none e
    first true (b ∷ bs) more next e none = cc

-- the bytes of the next piece come first
pub left_on-take : (ch count : ℕ) (pieces : List Piece) → left_on pieces ch ≡ take count (next_rest ch pieces) ++ left_on (after_take ch count pieces) ch
left_on-take ch count [] = sym (ap (λ (l : List ℕ). l ++ []) (take-nil count))
left_on-take ch count (p ∷ pieces) = first (has_more_on ch p) refl (left_on-take ch count pieces)
  where
    first : (more : Bool) → has_more_on ch p ≡ more → left_on pieces ch ≡ take count (next_rest ch pieces) ++ left_on (after_take ch count pieces) ch
        → left_on (p ∷ pieces) ch ≡ take count (next_rest ch (p ∷ pieces)) ++ left_on (after_take ch count (p ∷ pieces)) ch
    first false e later =
        let none : cond (p.ch.0 == ch) p.rest [] ≡ [] = none_here (p.ch.0 == ch) p.rest e in
        rw e (rw none later)
    first true e later =
        let here : (p.ch.0 == ch) ≡ true = (and_parts (p.ch.0 == ch) (not (is_none_left p.rest)) e).0 in
        rw e (rw here (ap (λ (l : List ℕ). l ++ left_on pieces ch) (sym (take-append-drop count p.rest)) ∙ append_assoc (take count p.rest) (drop count p.rest) (left_on pieces ch)))

-- nothing is taken from other channels
pub left_on-other : (ch count c : ℕ) (pieces : List Piece) → (c ≡ ch → ⊥) → left_on (after_take ch count pieces) c ≡ left_on pieces c
left_on-other ch count c [] other = refl
left_on-other ch count c (p ∷ pieces) other = first (has_more_on ch p) refl (left_on-other ch count c pieces other)
  where
    first : (more : Bool) → has_more_on ch p ≡ more → left_on (after_take ch count pieces) c ≡ left_on pieces c → left_on (after_take ch count (p ∷ pieces)) c ≡ left_on (p ∷ pieces) c
    first false e same = rw e (ap (λ (l : List ℕ). cond (p.ch.0 == c) p.rest [] ++ l) same)
    first true e same =
        let here : p.ch.0 ≡ ch = eqb-true p.ch.0 ch (and_parts (p.ch.0 == ch) (not (is_none_left p.rest)) e).0 in
        let elsewhere : (p.ch.0 == c) ≡ false = ne_eqb p.ch.0 c (λ there. other (sym there ∙ here)) in
        rw e (rw elsewhere refl)

-- as many bytes of the next piece as fit were copied, and were taken from it
pub memory_takes : (ch : Channel) (count room : ℕ) (buffer device : List ℕ) (pieces : List Piece) (arrivals : List Script) (trace : List Action) → 0 < room → count ≡ min room (length (next_rest ch.0 pieces)) → take count buffer ≡ take count (next_rest ch.0 pieces) → Takes ch count buffer (record { device = device; left = left_on pieces; arrivals = arrivals; trace = trace }) (record { device = device; left = left_on (after_take ch.0 count pieces); arrivals = arrivals; trace = trace })
memory_takes ch count room buffer device pieces arrivals trace some fits copied =
    let bytes = left_on-take ch.0 count pieces ∙ ap (λ (l : List ℕ). l ++ left_on (after_take ch.0 count pieces) ch.0) (sym copied) in
    record {
      device = refl;
      bytes = bytes;
      others = λ c other. left_on-other ch.0 count c pieces other;
      ends = (
        λ none. left_on-none ch.0 pieces (nil_from_length (next_rest ch.0 pieces) (omega arith)),
        λ ended.
            let first = take count (next_rest ch.0 pieces) in
            let rest = left_on (after_take ch.0 count pieces) ch.0 in
            omega (arith, ap length (sym (left_on-take ch.0 count pieces) ∙ ended), length-append first rest, length-take-le count (next_rest ch.0 pieces) (omega arith)),
      );
      arrivals = refl;
      trace = refl;
    }

-- a client's bytes came
pub more_came : (pieces now : List Piece) (script rest : List Script) (ch : Channel) (bytes : List ℕ) (c : ℕ) → now ≡ pieces ++ record { ch = ch; rest = bytes } ∷ [] → script ≡ More ch bytes ∷ rest
    → left_on now c ≡ left_on pieces c ++ next_bytes script c
more_came pieces now script rest ch bytes c is next =
    rw is (rw next (left_on-append pieces (record { ch = ch; rest = bytes } ∷ []) c ∙ ap (λ (l : List ℕ). left_on pieces c ++ l) (append-nil (cond (ch.0 == c) bytes []))))

-- a piece was taken from amid the others
pub taken_amid : (ch count i : ℕ) (pieces : List Piece) (d now : Piece) → i < length pieces → has_more_on ch (get_or pieces i d) ≡ true → now ≡ record (get_or pieces i d) { rest = drop count (get_or pieces i d).rest }
    → slice_set pieces i now ≡ take i pieces ++ after_take ch count (drop i pieces)
taken_amid ch count i pieces d now within more is =
    let p = get_or pieces i d in
    let one : suc i ≡ i + 1 = omega arith in
    let rest : drop i pieces ≡ p ∷ drop (i + 1) pieces = drop-cons pieces i d within ∙ ap (λ (n : ℕ). p ∷ drop n pieces) one in
    let tail : now ∷ drop (i + 1) pieces ≡ after_take ch count (p ∷ drop (i + 1) pieces) = rw more (rw is refl) in
    sym (take-append-drop i (slice_set pieces i now))
    ∙ rw (take-set pieces i now) (rw (drop-set pieces i now within) (ap (λ (l : List Piece). take i pieces ++ l) (tail ∙ ap (after_take ch count) (sym rest))))
