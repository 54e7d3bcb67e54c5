-- A turn and an append behind it, at each end.
use Rattle.std.proofs.Common.{◌≡◌, ℕ, ◌+◌, not, List, ◌++◌, Option, refl, sym, ap, ◌∙◌, subst, append_assoc, arith}
use Rattle.iss_edge.specs.declared.outside.Action.{Action}
use Rattle.iss_edge.specs.World.{World, Told}
use Rattle.iss_edge.specs.Puts.{Put, actions_of_puts}
use Rattle.iss_edge.specs.Stretches.{Step, IsGood, GoesOn}
use Rattle.iss_edge.proofs.Tolds.{told_map, told_then}
use Rattle.iss_edge.proofs.PutLemmas.{puts_then, ran_more, ran_then, actions_of_puts-append}
use Rattle.iss_edge.proofs.StretchLemmas.{Parts, parts, join_on, good_up}
use Rattle.iss_journal.specs.Place.{Place}
use Rattle.iss_journal.specs.Append.{append_puts, AppendsGood, AppendsGoing}
use Rattle.iss_halves.specs.Forms.{in_halves, seat_at, Layout}
use Rattle.iss_halves.specs.Turning.{turn_puts, TurnsGood, TurnsGoing, turned_place}
use Rattle.iss_halves.specs.Standing.{RestsFrom, StandsFrom, EndsHere}
use Rattle.iss_halves.specs.Turned.{TurnedGood, TurnedGoing}
use Rattle.iss_halves.proofs.Standings.{turn_good, turn_going, turn_ends_here, append_going, turned_append_good}

module _ (layout : Layout) (half frame : List ℕ) where
  abbrev turn : List Put
  turn = turn_puts layout.size layout.second half

  abbrev append : List Put
  append = append_puts (turned_place layout.size layout.second half).gate frame

  turn_alone : (a b : World) → TurnsGood layout.size layout.second half a b → TurnedGood layout half frame a b
  turn_alone a b did =
      let form = in_halves layout.instance layout.size in
      record {
        part = record { left = did.part.left; actions = did.part.actions; trace = did.part.trace; ran = ran_more turn append did.part.actions did.part.ran };
        good = λ saved point j body steps low is next framed all.
            good_up (RestsFrom form (seat_at layout.second point) saved) (StandsFrom form saved) j j (j + 1) steps (omega arith)
            (turn_good layout.instance layout.size layout.second saved point j low half a b did steps is all);
      }

  turn_then_part : (a b c : World) → TurnsGoing layout.size layout.second half a b → AppendsGood (turned_place layout.size layout.second half) frame b c → TurnedGood layout half frame a c
  turn_then_part a b c made did =
      record {
        part = record {
          left = did.part.left ∙ made.made.left;
          actions = actions_of_puts turn ++ did.part.actions;
          trace =
              did.part.trace
              ∙ ap (λ (l : List Action). l ++ did.part.actions) made.made.trace
              ∙ append_assoc a.trace (actions_of_puts turn) did.part.actions;
          ran = ran_then turn append did.part.actions did.part.ran;
        };
        good = λ saved point j body steps low is next framed all.
            let two : Parts steps (actions_of_puts turn) did.part.actions = parts steps (actions_of_puts turn) did.part.actions all in
            let form = in_halves layout.instance layout.size in
            subst (λ (l : List Step). IsGood (RestsFrom form (seat_at layout.second point) saved) (StandsFrom form saved) j (j + 1) l) (sym two.is)
            (turned_append_good layout.instance layout.size layout.second saved point j half body frame (turned_place layout.size layout.second half) a b c did two.first two.second low is made refl next framed two.first_is two.second_is);
      }

  turn_then_whole : (a b c : World) → TurnsGoing layout.size layout.second half a b → AppendsGoing (turned_place layout.size layout.second half) frame b c → TurnedGoing layout half frame a c
  turn_then_whole a b c made did =
      record {
        made = puts_then turn append a b c made.made did.made;
        goes_on = λ saved point j body steps low is next framed all.
            let two : Parts steps (actions_of_puts turn) (actions_of_puts append) = parts steps (actions_of_puts turn) (actions_of_puts append) (all ∙ actions_of_puts-append turn append) in
            let form = in_halves layout.instance layout.size in
            let old = seat_at layout.second point in
            let now = seat_at (not layout.second) j in
            let ends : EndsHere form now saved j (turned_place layout.size layout.second half) = turn_ends_here layout.instance layout.size layout.second saved j half is in
            subst (λ (l : List Step). GoesOn (RestsFrom form old saved) (StandsFrom form saved) (RestsFrom form now saved) j (j + 1) l) (sym two.is)
            (join_on (RestsFrom form old saved) (StandsFrom form saved) (RestsFrom form now saved) (RestsFrom form now saved) j j (j + 1) two.first two.second
            (turn_going layout.instance layout.size layout.second saved point j low half a b made two.first is two.first_is)
            (append_going form now saved j body (turned_place layout.size layout.second half) (omega arith) ends next frame b c did two.second framed two.second_is));
      }

  -- the same by what an edge tells
  pub told_turn_alone : (x y : Option World) → Told (TurnsGood layout.size layout.second half) x y → Told (TurnedGood layout half frame) x y
  told_turn_alone x y = told_map (TurnsGood layout.size layout.second half) (TurnedGood layout half frame) x y turn_alone

  pub told_turn_then_part : (place : Place) (x y z : Option World) → place ≡ turned_place layout.size layout.second half → Told (TurnsGoing layout.size layout.second half) x y → Told (AppendsGood place frame) y z → Told (TurnedGood layout half frame) x z
  told_turn_then_part place x y z here made did =
      told_then (TurnsGoing layout.size layout.second half) (AppendsGood (turned_place layout.size layout.second half) frame) (TurnedGood layout half frame) x y z turn_then_part made
      (subst (λ (p : Place). Told (AppendsGood p frame) y z) here did)

  pub told_turn_then_whole : (place : Place) (x y z : Option World) → place ≡ turned_place layout.size layout.second half → Told (TurnsGoing layout.size layout.second half) x y → Told (AppendsGoing place frame) y z → Told (TurnedGoing layout half frame) x z
  told_turn_then_whole place x y z here made did =
      told_then (TurnsGoing layout.size layout.second half) (AppendsGoing (turned_place layout.size layout.second half) frame) (TurnedGoing layout half frame) x y z turn_then_whole made
      (subst (λ (p : Place). Told (AppendsGoing p frame) y z) here did)
