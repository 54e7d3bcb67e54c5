-- What an append leaves at each of its moments.
use Rattle.std.proofs.Common.{◌≡◌, ℕ, zero, suc, ◌+◌, ◌<◌, ◌≤◌, List, [], ◌∷◌, ◌++◌, length, take, drop, Option, inl, inr, refl, sym, ap, subst, append-nil, arith}
use Rattle.iss_edge.specs.declared.outside.Action.{Action}
use Rattle.iss_edge.specs.World.{World, Told}
use Rattle.iss_edge.specs.Disk.{splice}
use Rattle.iss_edge.specs.Puts.{one_put, after_puts, Ran, Puts, PutsPart, Holds}
use Rattle.iss_edge.specs.Stretches.{StandsUpTo, GoesOn}
use Rattle.iss_edge.proofs.Tolds.{told_map, told_then, told_self}
use Rattle.iss_edge.proofs.PutLemmas.{puts_then, part_more, part_then, part_all}
use Rattle.iss_edge.proofs.PutStretches.{puts_good, puts_go_on}
use Rattle.iss_edge.proofs.StretchLemmas.{none_goes_on, good_up}
use Rattle.iss_journal.specs.Place.{Place, free_at}
use Rattle.iss_journal.specs.Region.{Region, append_bytes, EndsWith, ShowsClosed, RestsFirst, StandsFirst}
use Rattle.iss_journal.specs.Append.{ComesNext, append_puts, AppendsGood, AppendsGoing}
use Rattle.iss_journal.proofs.Gates.{splice_behind, splice_gate, gate_open, gate_shut, one_byte}

module _ (region : Region) (bodies : List (List ℕ)) (j : ℕ) (body : List ℕ) (place : Place) (comes : ComesNext region bodies j body place) where
  -- the record stands whole after its gate: it is shown, or left behind, or the gate is closed
  gate_moment : (gate : ℕ) (rest image : List ℕ) → place.gate + length (append_bytes body) < place.to → EndsWith region (take j bodies) gate (append_bytes body ++ rest) image → StandsUpTo (StandsFirst region bodies) j (j + 1) image
  gate_moment zero rest image room ends =
      record { i = j; low = omega arith; high = omega arith; stand = inl (record { rest = append_bytes body ++ rest; ends = ends }) }
  gate_moment (suc zero) rest image room ends =
      record {
        i = j + 1;
        low = omega arith;
        high = omega arith;
        stand =
            inl (subst (λ (l : List (List ℕ)). ShowsClosed region l image) (sym comes.next)
            (record {
              rest = rest;
              ends = gate_open region (take j bodies) body rest image comes.is_body (omega (arith, room, comes.here, comes.to)) ends;
            }));
      }
  gate_moment (suc (suc gate)) rest image room ends =
      record {
        i = j;
        low = omega arith;
        high = omega arith;
        stand =
            inr
            (body, comes.next, gate_shut region (take j bodies) body (suc (suc gate)) rest image (λ one. omega (arith, one)) comes.is_body (omega (arith, room, comes.here, comes.to)) ends);
      }

  stands_still : (image : List ℕ) → ShowsClosed region (take j bodies) image → StandsUpTo (StandsFirst region bodies) j (j + 1) image
  stands_still image closed =
      record { i = j; low = omega arith; high = omega arith; stand = inl closed }

  -- at each moment of the two puts
  append_holds : (image : List ℕ) → place.gate + length (append_bytes body) < place.to → ShowsClosed region (take j bodies) image → Holds (λ n image. StandsUpTo (StandsFirst region bodies) j (j + 1) image) 0 image (append_puts place.gate (append_bytes body))
  unfolding append_puts
  append_holds image room closed =
      let frame = append_bytes body in
      let rest = closed.rest in
      let fits : place.gate + 1 + length frame ≤ region.to = omega (arith, room, comes.to) in
      let within : place.gate + 1 + length frame ≤ length image = omega (arith, fits, closed.ends.whole, closed.ends.inside) in
      let staged : EndsWith region (take j bodies) 0 (frame ++ drop (length frame) rest) (splice (place.gate + 1) frame image) = splice_behind region (take j bodies) place.gate frame rest image comes.here fits closed.ends in
      let opened : (gate : ℕ) → StandsUpTo (StandsFirst region bodies) j (j + 1) (splice place.gate (gate ∷ []) (splice (place.gate + 1) frame image)) =
      λ gate. gate_moment gate (drop (length frame) rest) (splice place.gate (gate ∷ []) (splice (place.gate + 1) frame image)) room (splice_gate region (take j bodies) place.gate 0 gate (frame ++ drop (length frame) rest) (splice (place.gate + 1) frame image) comes.here staged) in (
        within,
        stands_still image closed,
        λ torn whole.
            stands_still (splice (place.gate + 1) torn image) (record {
              rest = torn ++ drop (length torn) rest;
              ends = splice_behind region (take j bodies) place.gate torn rest image comes.here (omega (arith, fits, whole)) closed.ends;
            }),
        (
          omega (arith, room, comes.to, staged.whole, staged.inside),
          stands_still (splice (place.gate + 1) frame image) (record { rest = frame ++ drop (length frame) rest; ends = staged }),
          λ torn whole.
              let byte = one_byte torn whole in
              subst (λ (l : List ℕ). StandsUpTo (StandsFirst region bodies) j (j + 1) (splice place.gate l (splice (place.gate + 1) frame image))) (sym byte.1) (opened byte.0),
          opened 1,
        ),
      )

  -- after the puts, the device rests with the new record too
  append_ends : (image : List ℕ) → place.gate + length (append_bytes body) < place.to → ShowsClosed region (take j bodies) image → RestsFirst region bodies (after_puts image (append_puts place.gate (append_bytes body))) (j + 1)
  unfolding append_puts
  append_ends image room closed =
      let frame = append_bytes body in
      let rest = closed.rest in
      let fits : place.gate + 1 + length frame ≤ region.to = omega (arith, room, comes.to) in
      let staged : EndsWith region (take j bodies) 0 (frame ++ drop (length frame) rest) (splice (place.gate + 1) frame image) = splice_behind region (take j bodies) place.gate frame rest image comes.here fits closed.ends in
      let opened : EndsWith region (take j bodies) 1 (frame ++ drop (length frame) rest) (splice place.gate (1 ∷ []) (splice (place.gate + 1) frame image)) = splice_gate region (take j bodies) place.gate 0 1 (frame ++ drop (length frame) rest) (splice (place.gate + 1) frame image) comes.here staged in
      subst (λ (l : List (List ℕ)). ShowsClosed region l (splice place.gate (1 ∷ []) (splice (place.gate + 1) frame image))) (sym comes.next) (record {
        rest = drop (length frame) rest;
        ends = gate_open region (take j bodies) body (drop (length frame) rest) (splice place.gate (1 ∷ []) (splice (place.gate + 1) frame image)) comes.is_body (omega (arith, room, comes.here, comes.to)) opened;
      })

-- a frame that fits ends within the region
fitting : (place : Place) (frame body : List ℕ) → place.gate < place.to → length frame ≤ free_at place → frame ≡ append_bytes body → place.gate + length (append_bytes body) < place.to
fitting place frame body within fits is =
    let same : length frame ≡ length (append_bytes body) = ap length is in
    omega (arith, within, fits, same)

-- the two puts made in part
pub append_part : (place : Place) (frame : List ℕ) (a b : World) → place.gate < place.to → length frame ≤ free_at place → PutsPart (append_puts place.gate frame) a b → AppendsGood place frame a b
append_part place frame a b within fits part =
    record {
      part = part;
      good = λ region bodies j body steps comes is all.
          puts_good (RestsFirst region bodies) (StandsFirst region bodies) j (j + 1) (append_puts place.gate frame) steps (λ bytes start.
          subst (λ (f : List ℕ). Holds (λ n image. StandsUpTo (StandsFirst region bodies) j (j + 1) image) 0 bytes (append_puts place.gate f)) (sym is) (append_holds region bodies j body place comes bytes (fitting place frame body within fits is) start)) (subst (λ (l : List Action). Ran (append_puts place.gate frame) l) (sym all) part.ran);
    }

-- the two puts made whole
pub append_whole : (place : Place) (frame : List ℕ) (a b : World) → place.gate < place.to → length frame ≤ free_at place → Puts (append_puts place.gate frame) a b → AppendsGoing place frame a b
append_whole place frame a b within fits made =
    record {
      made = made;
      goes_on = λ region bodies j body steps comes is all.
          puts_go_on (RestsFirst region bodies) (StandsFirst region bodies) (RestsFirst region bodies) j (j + 1) (append_puts place.gate frame) steps (λ bytes start.
          subst (λ (f : List ℕ). Holds (λ n image. StandsUpTo (StandsFirst region bodies) j (j + 1) image) 0 bytes (append_puts place.gate f)) (sym is) (append_holds region bodies j body place comes bytes (fitting place frame body within fits is) start)) (λ bytes start.
          subst (λ (f : List ℕ). RestsFirst region bodies (after_puts bytes (append_puts place.gate f)) (j + 1)) (sym is) (append_ends region bodies j body place comes bytes (fitting place frame body within fits is) start)) all;
      shows = λ region bodies j body comes is start.
          subst (λ (l : List ℕ). RestsFirst region bodies l (j + 1)) (sym made.device) (subst (λ (f : List ℕ). RestsFirst region bodies (after_puts a.device (append_puts place.gate f)) (j + 1)) (sym is) (append_ends region bodies j body place comes a.device (fitting place frame body within fits is) start));
    }

-- nothing done at all
pub append_none : (place : Place) (frame : List ℕ) (a : World) → AppendsGood place frame a a
append_none place frame a =
    record {
      part = record { left = refl; actions = []; trace = sym (append-nil a.trace); ran = tt };
      good = λ region bodies j body steps comes is none.
          let still : GoesOn (RestsFirst region bodies) (StandsFirst region bodies) (RestsFirst region bodies) j j steps =
          none_goes_on (RestsFirst region bodies) (StandsFirst region bodies) j steps (λ bytes start. inl start) none in
          good_up (RestsFirst region bodies) (StandsFirst region bodies) j j (j + 1) steps (omega arith) still.good;
    }

-- what an append does, by what an edge tells at each of its ends
pub append_refused : (place : Place) (frame : List ℕ) (x : Option World) → Told (AppendsGood place frame) x x
append_refused place frame x = told_self (AppendsGood place frame) x (append_none place frame)

pub append_unwritten : (place : Place) (frame : List ℕ) (x y : Option World) → place.gate < place.to → length frame ≤ free_at place → Told (PutsPart (one_put (place.gate + 1) frame)) x y → Told (AppendsGood place frame) x y
unfolding append_puts
append_unwritten place frame x y within fits =
    told_map (PutsPart (one_put (place.gate + 1) frame)) (AppendsGood place frame) x y (λ a b part.
    append_part place frame a b within fits (part_more (one_put (place.gate + 1) frame) (one_put place.gate (1 ∷ [])) a b part))

pub append_unopened : (place : Place) (frame : List ℕ) (x y z : Option World) → place.gate < place.to → length frame ≤ free_at place → Told (Puts (one_put (place.gate + 1) frame)) x y → Told (PutsPart (one_put place.gate (1 ∷ []))) y z → Told (AppendsGood place frame) x z
unfolding append_puts
append_unopened place frame x y z within fits =
    told_then (Puts (one_put (place.gate + 1) frame)) (PutsPart (one_put place.gate (1 ∷ []))) (AppendsGood place frame) x y z (λ a b c first part.
    append_part place frame a c within fits (part_then (one_put (place.gate + 1) frame) (one_put place.gate (1 ∷ [])) a b c first part))

made_both : (place : Place) (frame : List ℕ) (a b c : World) → Puts (one_put (place.gate + 1) frame) a b → Puts (one_put place.gate (1 ∷ [])) b c → Puts (append_puts place.gate frame) a c
unfolding append_puts
made_both place frame a b c = puts_then (one_put (place.gate + 1) frame) (one_put place.gate (1 ∷ [])) a b c

pub append_done : (place : Place) (frame : List ℕ) (x y z : Option World) → place.gate < place.to → length frame ≤ free_at place → Told (Puts (one_put (place.gate + 1) frame)) x y → Told (Puts (one_put place.gate (1 ∷ []))) y z → Told (AppendsGoing place frame) x z
append_done place frame x y z within fits =
    told_then (Puts (one_put (place.gate + 1) frame)) (Puts (one_put place.gate (1 ∷ []))) (AppendsGoing place frame) x y z (λ a b c first second.
    append_whole place frame a c within fits (made_both place frame a b c first second))

pub append_done_good : (place : Place) (frame : List ℕ) (x y z : Option World) → place.gate < place.to → length frame ≤ free_at place → Told (Puts (one_put (place.gate + 1) frame)) x y → Told (Puts (one_put place.gate (1 ∷ []))) y z → Told (AppendsGood place frame) x z
append_done_good place frame x y z within fits =
    told_then (Puts (one_put (place.gate + 1) frame)) (Puts (one_put place.gate (1 ∷ []))) (AppendsGood place frame) x y z (λ a b c first second.
    append_part place frame a c within fits (part_all (append_puts place.gate frame) a c (made_both place frame a b c first second)))
