-- What a turn leaves at each of its moments.
use Rattle.std.proofs.Common.{◌≡◌, ◌⊎◌, ℕ, ◌+◌, ◌-◌, ◌≤◌, Bool, true, false, not, List, [], ◌∷◌, ◌++◌, length, take, drop, get_or, Option, inl, inr, refl, sym, ap, ◌∙◌, subst, append_assoc, append-nil, arith, length-append, length-drop}
use Rattle.std.specs.Prelude.{slice_index}
use Rattle.std.proofs.lemmas.List.{take-take, take-append-le, drop_at, get_or_at, length-take-le}
use Rattle.iss_edge.specs.declared.outside.Action.{Action}
use Rattle.iss_edge.specs.World.{World, Told}
use Rattle.iss_edge.specs.Disk.{splice}
use Rattle.iss_edge.specs.Puts.{one_put, after_puts, Ran, Puts, PutsPart, Holds}
use Rattle.iss_edge.specs.Stretches.{StandsUpTo}
use Rattle.iss_edge.proofs.Splices.{length-spliced}
use Rattle.iss_edge.proofs.Tolds.{told_map, told_then}
use Rattle.iss_edge.proofs.PutLemmas.{puts_then, part_more, part_then, part_all}
use Rattle.iss_edge.proofs.PutStretches.{puts_good, puts_go_on}
use Rattle.iss_journal.specs.Region.{body_with_length, frames, ShowsClosed}
use Rattle.iss_journal.proofs.Records.{length-spelled}
use Rattle.iss_journal.proofs.Gates.{one_byte}
use Rattle.iss_halves.specs.Halves.{halves_header, half_size, half_start, names_second, selector_of, half_region, IsBelow, HalfRests}
use Rattle.iss_halves.specs.Turning.{half_bytes, turn_puts, EitherHalf, TurnsGood, TurnsGoing}
use Rattle.iss_halves.proofs.Beside.{take_below, byte_below, drop_above, splice_first, splice_second}

pub start_least : (size : ℕ) (second : Bool) → 17 ≤ half_start size second
start_least size true = omega arith
start_least size false = omega arith

pub half_within : (size : ℕ) (second : Bool) → 17 ≤ size → half_start size second + half_size size ≤ size
half_within size true least = omega (arith, least)
half_within size false least = omega (arith, least)

length-half : (image : List ℕ) → length (half_bytes image) ≡ 5 + length image
length-half image = omega (arith, length-append (body_with_length image) (0 ∷ []), length-spelled image)

module _ (instance size : ℕ) where
  -- what stands below a journal is long enough for its half's start, and the image behind its length
  pub below_length : (second : Bool) (image below : List ℕ) → IsBelow instance size second image below → length below ≡ half_start size second + (4 + length image)
  below_length second image below is =
      let there : length below - half_start size second ≡ 4 + length image =
      sym (length-drop (half_start size second) below) ∙ ap length is.image_there ∙ length-spelled image in
      omega (arith, there)

  -- ---- other bytes within what stands below a journal

  spliced_below : (second : Bool) (bodies : List (List ℕ)) (at : ℕ) (new below device : List ℕ) → at + length new ≤ length below → ShowsClosed (half_region size second below) bodies device → ShowsClosed (half_region size second (splice at new below)) bodies (splice at new device)
  spliced_below second bodies at new below device within closed =
      let ends = closed.ends in
      let long : length (below ++ frames bodies) ≡ length below + length (frames bodies) = length-append below (frames bodies) in
      let inside : at + length new ≤ length (below ++ frames bodies) = omega (arith, within, long) in
      let same : length (splice at new below) ≡ length below = length-spliced at new below within in
      record {
        rest = closed.rest;
        ends = record {
          whole = length-spliced at new device (omega (arith, inside, ends.within, ends.inside, ends.whole)) ∙ ends.whole;
          inside = ends.inside;
          sound = ends.sound;
          within = omega (arith, ends.within, long, same, length-append (splice at new below) (frames bodies));
          is =
              ap (λ (l : List ℕ). splice at new l) ends.is
              ∙ splice_first at new (below ++ frames bodies) (0 ∷ closed.rest) inside
              ∙ ap (λ (l : List ℕ). l ++ 0 ∷ closed.rest) (splice_first at new below (frames bodies) within);
        };
      }

  -- ---- any bytes in the half that isn't current

  keeps_half : (second : Bool) (image : List ℕ) (bodies : List (List ℕ)) (torn device : List ℕ) → length torn ≤ half_size size → HalfRests instance size second image bodies device → HalfRests instance size second image bodies (splice (half_start size (not second)) torn device)
  keeps_half true image bodies torn device fits half =
      let long = below_length true image half.below half.is_below in
      let within : 17 + length torn ≤ length half.below = omega (arith, fits, long) in
      record {
        below = splice 17 torn half.below;
        is_below = record {
          header = take_below 16 17 torn half.below (omega arith) within ∙ half.is_below.header;
          image_there = drop_above (17 + half_size size) 17 torn half.below (omega (arith, fits)) within ∙ half.is_below.image_there;
        };
        current = ap names_second (byte_below 17 16 torn half.below (omega arith) within) ∙ half.current;
        journal = spliced_below true bodies 17 torn half.below device within half.journal;
      }
  keeps_half false image bodies torn device fits half =
      let closed = half.journal in
      let ends = closed.ends in
      let prefix = (half.below ++ frames bodies) ++ 0 ∷ [] in
      let k = 17 + half_size size - length prefix in
      let longer : length prefix ≡ length (half.below ++ frames bodies) + 1 = length-append (half.below ++ frames bodies) (0 ∷ []) in
      let here : length prefix + k ≡ 17 + half_size size = omega (arith, longer, ends.within) in
      let room : 17 + half_size size + length torn ≤ length device = omega (arith, fits, ends.within, ends.inside, ends.whole) in
      record {
        below = half.below;
        is_below = half.is_below;
        current = half.current;
        journal = record {
          rest = splice k torn closed.rest;
          ends = record {
            whole = length-spliced (17 + half_size size) torn device room ∙ ends.whole;
            inside = ends.inside;
            sound = ends.sound;
            within = ends.within;
            is =
                ap (λ (l : List ℕ). splice (17 + half_size size) torn l) (ends.is ∙ sym (append_assoc (half.below ++ frames bodies) (0 ∷ []) closed.rest))
                ∙ ap (λ (n : ℕ). splice n torn (prefix ++ closed.rest)) (sym here)
                ∙ splice_second k torn prefix closed.rest
                ∙ append_assoc (half.below ++ frames bodies) (0 ∷ []) (splice k torn closed.rest);
          };
        };
      }

  -- ---- the selector

  set_selector : (second : Bool) (image : List ℕ) (bodies : List (List ℕ)) (below device : List ℕ) (selector : ℕ) → IsBelow instance size second image below → names_second selector ≡ second → ShowsClosed (half_region size second below) bodies device → HalfRests instance size second image bodies (splice 16 (selector ∷ []) device)
  set_selector second image bodies below device selector is names closed =
      let least = start_least size second in
      let within : 16 + 1 ≤ length below = omega (arith, least, below_length second image below is) in
      let byte : slice_index (splice 16 (selector ∷ []) below) 16 ≡ selector =
      ap (λ (l : List ℕ). get_or l 16 0) (append_assoc (take 16 below) (selector ∷ []) (drop (16 + 1) below))
      ∙ get_or_at (take 16 below) selector (drop (16 + 1) below) 0 16 (length-take-le 16 below (omega (arith, within))) in
      record {
        below = splice 16 (selector ∷ []) below;
        is_below = record {
          header = take_below 16 16 (selector ∷ []) below (omega arith) within ∙ is.header;
          image_there = drop_above (half_start size second) 16 (selector ∷ []) below (omega (arith, least)) within ∙ is.image_there;
        };
        current = ap names_second byte ∙ names;
        journal = spliced_below second bodies 16 (selector ∷ []) below device within closed;
      }

  -- ---- a half that was written

  abbrev fresh_below : Bool → List ℕ → List ℕ → List ℕ
  fresh_below second image device = take (half_start size second) device ++ body_with_length image

  fresh_is_below : (second : Bool) (image device : List ℕ) → half_start size second ≤ length device → take 16 device ≡ halves_header instance → IsBelow instance size second image (fresh_below second image device)
  fresh_is_below second image device room header =
      let least = start_least size second in
      let whole : length (take (half_start size second) device) ≡ half_start size second = length-take-le (half_start size second) device room in
      record {
        header =
            take-append-le 16 (take (half_start size second) device) (body_with_length image) (omega (arith, least, whole))
            ∙ take-take 16 (half_start size second) device (omega (arith, least))
            ∙ header;
        image_there = drop_at (take (half_start size second) device) (body_with_length image) (half_start size second) whole;
      }

  fresh_journal : (second : Bool) (image device : List ℕ) → length device ≡ size → 17 ≤ size → 5 + length image ≤ half_size size → ShowsClosed (half_region size second (fresh_below second image device)) [] (splice (half_start size second) (half_bytes image) device)
  fresh_journal second image device whole least fits =
      let start = half_start size second in
      let below = fresh_below second image device in
      let inside = half_within size second least in
      let rest = drop (start + length (half_bytes image)) device in
      let room : start + length (half_bytes image) ≤ length device = omega (arith, inside, fits, whole, length-half image) in
      let taken : length (take start device) ≡ start = length-take-le start device (omega (arith, room)) in
      let long : length below ≡ start + (4 + length image) = omega (arith, length-append (take start device) (body_with_length image), taken, length-spelled image) in
      record {
        rest = rest;
        ends = record {
          whole = length-spliced start (half_bytes image) device room ∙ whole;
          inside = inside;
          sound = tt;
          within = omega (arith, long, fits, ap (λ (l : List ℕ). length l) (append-nil below));
          is =
              append_assoc (take start device) (half_bytes image) rest
              ∙ ap (λ (l : List ℕ). take start device ++ l) (append_assoc (body_with_length image) (0 ∷ []) rest)
              ∙ sym (append_assoc (take start device) (body_with_length image) (0 ∷ rest))
              ∙ ap (λ (l : List ℕ). l ++ 0 ∷ rest) (sym (append-nil below));
        };
      }

  -- the header of a device whose half rests
  header_there : (second : Bool) (image : List ℕ) (bodies : List (List ℕ)) (device : List ℕ) → HalfRests instance size second image bodies device → take 16 device ≡ halves_header instance
  header_there second image bodies device half =
      let long = below_length second image half.below half.is_below in
      let least = start_least size second in
      let more = length-append half.below (frames bodies) in
      ap (λ (l : List ℕ). take 16 l) half.journal.ends.is
      ∙ take-append-le 16 (half.below ++ frames bodies) (0 ∷ half.journal.rest) (omega (arith, long, least, more))
      ∙ take-append-le 16 half.below (frames bodies) (omega (arith, long, least))
      ∙ half.is_below.header

  -- ---- at each moment of a turn

  either : (a b : Bool) → (a ≡ b) ⊎ (a ≡ not b)
  either true true = inl refl
  either true false = inr refl
  either false true = inr refl
  either false false = inl refl

  names_other : (second : Bool) → names_second (selector_of second) ≡ second
  names_other true = refl
  names_other false = refl

  module _ (second : Bool) (old new : List ℕ) (bodies : List (List ℕ)) (j : ℕ) (fits : 5 + length new ≤ half_size size) (device : List ℕ) (half : HalfRests instance size second old bodies device) where
    abbrev there : ℕ
    there = half_start size (not second)

    abbrev written : List ℕ
    written = splice there (half_bytes new) device

    abbrev Stands : ℕ → List ℕ → Type 0
    Stands n image = StandsUpTo (λ bytes i. EitherHalf instance size second old bodies new bytes) j j image

    stands_old : (image : List ℕ) → HalfRests instance size second old bodies image → StandsUpTo (λ bytes i. EitherHalf instance size second old bodies new bytes) j j image
    stands_old image rests = record { i = j; low = omega arith; high = omega arith; stand = inl rests }

    stands_new : (image : List ℕ) → HalfRests instance size (not second) new [] image → StandsUpTo (λ bytes i. EitherHalf instance size second old bodies new bytes) j j image
    stands_new image rests = record { i = j; low = omega arith; high = omega arith; stand = inr rests }

    whole_is : length device ≡ size
    whole_is = half.journal.ends.whole

    -- the device has its 17 first bytes, as each half begins behind them
    least_is : 17 ≤ size
    least_is = omega (arith, fits)

    kept : HalfRests instance size second old bodies written
    kept = keeps_half second old bodies (half_bytes new) device (omega (arith, fits, length-half new)) half

    turned : (selector : ℕ) → names_second selector ≡ not second → HalfRests instance size (not second) new [] (splice 16 (selector ∷ []) written)
    turned selector names =
        let room : there ≤ length device = omega (arith, half_within size (not second) least_is, whole_is) in
        set_selector (not second) new [] (fresh_below (not second) new device) written selector
        (fresh_is_below (not second) new device room (header_there second old bodies device half)) names
        (fresh_journal (not second) new device whole_is least_is fits)

    named : (selector : ℕ) → StandsUpTo (λ bytes i. EitherHalf instance size second old bodies new bytes) j j (splice 16 (selector ∷ []) written)
    named selector =
        elim (either (names_second selector) second) [
          | inl same ↦ stands_old (splice 16 (selector ∷ []) written) (set_selector second old bodies kept.below written selector kept.is_below same kept.journal)
          | inr other ↦ stands_new (splice 16 (selector ∷ []) written) (turned selector other)
        ]

    pub turn_holds : Holds (λ n image. StandsUpTo (λ bytes i. EitherHalf instance size second old bodies new bytes) j j image) 0 device (turn_puts size second (half_bytes new))
    unfolding turn_puts
    turn_holds =
        let within = half_within size (not second) least_is in
        let size_now : length written ≡ size = kept.journal.ends.whole in (
          omega (arith, within, whole_is, fits, length-half new),
          stands_old device half,
          λ torn whole. stands_old (splice there torn device) (keeps_half second old bodies torn device (omega (arith, whole, fits, length-half new)) half),
          (
            omega (arith, size_now, least_is),
            stands_old written kept,
            λ torn whole.
                let byte = one_byte torn whole in
                subst (λ (l : List ℕ). StandsUpTo (λ bytes i. EitherHalf instance size second old bodies new bytes) j j (splice 16 l written)) (sym byte.1) (named byte.0),
            named (selector_of (not second)),
          ),
        )

    pub turn_ends : HalfRests instance size (not second) new [] (after_puts device (turn_puts size second (half_bytes new)))
    unfolding turn_puts
    turn_ends = turned (selector_of (not second)) (names_other (not second))

-- ---- by what was done

module _ (size : ℕ) (second : Bool) (half : List ℕ) (fits : length half ≤ half_size size) where
  new_fits : (new : List ℕ) → half ≡ half_bytes new → 5 + length new ≤ half_size size
  new_fits new is = omega (arith, fits, ap (λ (l : List ℕ). length l) is, length-half new)

  pub turn_part : (a b : World) → PutsPart (turn_puts size second half) a b → TurnsGood size second half a b
  turn_part a b part =
      record {
        part = part;
        good = λ instance old new bodies j steps is all.
            puts_good (λ bytes i. HalfRests instance size second old bodies bytes) (λ bytes i. EitherHalf instance size second old bodies new bytes) j j (turn_puts size second half) steps
            (λ bytes start. subst (λ (h : List ℕ). Holds (λ n image. StandsUpTo (λ bytes i. EitherHalf instance size second old bodies new bytes) j j image) 0 bytes (turn_puts size second h)) (sym is) (turn_holds instance size second old new bodies j (new_fits new is) bytes start))
            (subst (λ (l : List Action). Ran (turn_puts size second half) l) (sym all) part.ran);
      }

  pub turn_whole : (a b : World) → Puts (turn_puts size second half) a b → TurnsGoing size second half a b
  turn_whole a b made =
      record {
        made = made;
        goes_on = λ instance old new bodies j steps is all.
            puts_go_on (λ bytes i. HalfRests instance size second old bodies bytes) (λ bytes i. EitherHalf instance size second old bodies new bytes) (λ bytes i. HalfRests instance size (not second) new [] bytes) j j (turn_puts size second half) steps
            (λ bytes start. subst (λ (h : List ℕ). Holds (λ n image. StandsUpTo (λ bytes i. EitherHalf instance size second old bodies new bytes) j j image) 0 bytes (turn_puts size second h)) (sym is) (turn_holds instance size second old new bodies j (new_fits new is) bytes start))
            (λ bytes start. subst (λ (h : List ℕ). HalfRests instance size (not second) new [] (after_puts bytes (turn_puts size second h))) (sym is) (turn_ends instance size second old new bodies j (new_fits new is) bytes start)) all;
        shows = λ instance old new bodies is start.
            subst (λ (l : List ℕ). HalfRests instance size (not second) new [] l) (sym made.device)
            (subst (λ (h : List ℕ). HalfRests instance size (not second) new [] (after_puts a.device (turn_puts size second h))) (sym is) (turn_ends instance size second old new bodies 0 (new_fits new is) a.device start));
      }

  -- the same by what an edge tells, at each end of a turn
  pub turn_unwritten : (x y : Option World) → Told (PutsPart (one_put (half_start size (not second)) half)) x y → Told (TurnsGood size second half) x y
  unfolding turn_puts
  turn_unwritten x y =
      told_map (PutsPart (one_put (half_start size (not second)) half)) (TurnsGood size second half) x y (λ a b part.
      turn_part a b (part_more (one_put (half_start size (not second)) half) (one_put 16 (selector_of (not second) ∷ [])) a b part))

  pub turn_unnamed : (selector : ℕ) (x y z : Option World) → selector ≡ selector_of (not second) → Told (Puts (one_put (half_start size (not second)) half)) x y → Told (PutsPart (one_put 16 (selector ∷ []))) y z → Told (TurnsGood size second half) x z
  unfolding turn_puts
  turn_unnamed selector x y z is first last =
      told_then (Puts (one_put (half_start size (not second)) half)) (PutsPart (one_put 16 (selector_of (not second) ∷ []))) (TurnsGood size second half) x y z (λ a b c first part.
      turn_part a c (part_then (one_put (half_start size (not second)) half) (one_put 16 (selector_of (not second) ∷ [])) a b c first part)) first
      (subst (λ (n : ℕ). Told (PutsPart (one_put 16 (n ∷ []))) y z) is last)

  turn_made : (a b c : World) → Puts (one_put (half_start size (not second)) half) a b → Puts (one_put 16 (selector_of (not second) ∷ [])) b c → Puts (turn_puts size second half) a c
  unfolding turn_puts
  turn_made a b c = puts_then (one_put (half_start size (not second)) half) (one_put 16 (selector_of (not second) ∷ [])) a b c

  pub turn_done : (selector : ℕ) (x y z : Option World) → selector ≡ selector_of (not second) → Told (Puts (one_put (half_start size (not second)) half)) x y → Told (Puts (one_put 16 (selector ∷ []))) y z → Told (TurnsGoing size second half) x z
  turn_done selector x y z is first last =
      told_then (Puts (one_put (half_start size (not second)) half)) (Puts (one_put 16 (selector_of (not second) ∷ []))) (TurnsGoing size second half) x y z (λ a b c first last.
      turn_whole a c (turn_made a b c first last)) first
      (subst (λ (n : ℕ). Told (Puts (one_put 16 (n ∷ []))) y z) is last)

  pub turn_done_good : (selector : ℕ) (x y z : Option World) → selector ≡ selector_of (not second) → Told (Puts (one_put (half_start size (not second)) half)) x y → Told (Puts (one_put 16 (selector ∷ []))) y z → Told (TurnsGood size second half) x z
  turn_done_good selector x y z is first last =
      told_then (Puts (one_put (half_start size (not second)) half)) (Puts (one_put 16 (selector_of (not second) ∷ []))) (TurnsGood size second half) x y z (λ a b c first last.
      turn_part a c (part_all (turn_puts size second half) a c (turn_made a b c first last))) first
      (subst (λ (n : ℕ). Told (Puts (one_put 16 (n ∷ []))) y z) is last)
