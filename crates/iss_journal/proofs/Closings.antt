-- What closing the end gate leaves at each of its moments.
use Rattle.std.proofs.Common.{◌≡◌, inl, inr, true, ℕ, zero, suc, ◌+◌, ◌<◌, List, [], ◌∷◌, ◌++◌, length, take, drop, get_or, set, Option, refl, sym, ap, ◌∙◌, subst, append_assoc, append-nil, add-one, arith}
use Rattle.std.proofs.lemmas.List.{get_or_at, set_split, set-set}
use Rattle.iss_edge.specs.declared.outside.Action.{Action}
use Rattle.iss_edge.specs.World.{World, Told}
use Rattle.iss_edge.specs.Calls.{Same}
use Rattle.iss_edge.specs.Disk.{after_actions, splice}
use Rattle.iss_edge.specs.Puts.{one_put, after_puts, actions_of_puts, Ran, Puts, PutsPart, Holds}
use Rattle.iss_edge.specs.Stretches.{Step, actions_of, StandsUpTo, GoesOn}
use Rattle.iss_edge.proofs.Tolds.{told_map, told_then}
use Rattle.iss_edge.proofs.PutLemmas.{part_all}
use Rattle.iss_edge.proofs.PutStretches.{puts_good, puts_bytes, puts_go_on}
use Rattle.iss_edge.proofs.StretchLemmas.{none_goes_on}
use Rattle.iss_journal.specs.Place.{Place}
use Rattle.iss_journal.specs.Region.{Region, bytes_before_gate, EndsWith, Shows, ShowsClosed, LeavesBehind, ShowsFirmly, RestsFirst}
use Rattle.iss_journal.specs.Opening.{ReadsGate, OpensFirst, WasLeft, OpenedOrOneMore, IsEndGate, ClosesGood, ClosesGoing}
use Rattle.iss_journal.proofs.Gates.{splice_gate, one_byte}

-- the byte at the end gate
pub gate_byte : (region : Region) (bodies : List (List ℕ)) (gate : ℕ) (rest image : List ℕ) → EndsWith region bodies gate rest image → get_or image (length (bytes_before_gate region bodies)) 0 ≡ gate
gate_byte region bodies gate rest image ends =
    ap (λ (l : List ℕ). get_or l (length (bytes_before_gate region bodies)) 0) ends.is
    ∙ get_or_at (bytes_before_gate region bodies) gate rest 0 (length (bytes_before_gate region bodies)) refl

-- records whose end gate is 0 are shown with an end gate of 0
closed_by_byte : (region : Region) (bodies : List (List ℕ)) (image : List ℕ) → get_or image (length (bytes_before_gate region bodies)) 0 ≡ 0 → Shows region bodies image → ShowsClosed region bodies image
closed_by_byte region bodies image none shows =
    let same : shows.gate ≡ 0 = sym (gate_byte region bodies shows.gate shows.rest image shows.ends) ∙ none in
    record { rest = shows.rest; ends = subst (λ (g : ℕ). EndsWith region bodies g shows.rest image) same shows.ends }

pub shows_closed : (region : Region) (bodies : List (List ℕ)) (image : List ℕ) → ShowsClosed region bodies image → Shows region bodies image
shows_closed region bodies image closed =
    record { gate = 0; shut = λ one. omega (arith, one); rest = closed.rest; ends = closed.ends }

-- records that are shown firmly are shown
pub shows_firm : (region : Region) (bodies : List (List ℕ)) (image : List ℕ) → ShowsFirmly region bodies image → Shows region bodies image
shows_firm region bodies image firm =
    elim firm [ inl closed ↦ shows_closed region bodies image closed | inr left ↦ left.1.shows ]

-- a record that is left after a gate: if that is 0 the records are shown closed, else the record was left so
module _ (region : Region) (bodies : List (List ℕ)) (start image : List ℕ) (j : ℕ) (same : image ≡ start) (body : List ℕ) (left : LeavesBehind region (take j bodies) body image) where
  left_by_gate : (gate : ℕ) → left.shows.gate ≡ gate → OpenedOrOneMore region bodies start image j
  left_by_gate zero is =
      inl (record { rest = left.shows.rest; ends = subst (λ (g : ℕ). EndsWith region (take j bodies) g left.shows.rest image) is left.shows.ends })
  left_by_gate (suc gate) is =
      let place = length (bytes_before_gate region (take j bodies)) in
      let there : get_or start place 0 ≡ suc gate =
      ap (λ (l : List ℕ). get_or l place 0) (sym same) ∙ gate_byte region (take j bodies) left.shows.gate left.shows.rest image left.shows.ends ∙ is in
      inr (
        body,
        record {
          left = subst (λ (l : List ℕ). LeavesBehind region (take j bodies) body l) same left;
          other = λ none. omega (arith, there, none);
        },
        inl left,
      )

-- what an opening starts with is what it may leave
pub opens_unchanged : (region : Region) (bodies : List (List ℕ)) (start image : List ℕ) (j : ℕ) → OpensFirst region bodies start image j → OpenedOrOneMore region bodies start image j
opens_unchanged region bodies start image j opens =
    elim opens.firm [
      | inl closed ↦ inl closed
      | inr left ↦ left_by_gate region bodies start image j opens.same left.0 left.1 left.1.shows.gate refl
    ]

-- one byte over another is a byte set
spliced_one : (at byte : ℕ) (bytes : List ℕ) → at < length bytes → splice at (byte ∷ []) bytes ≡ set bytes at byte
spliced_one at byte bytes lt =
    append_assoc (take at bytes) (byte ∷ []) (drop (at + 1) bytes)
    ∙ ap (λ (n : ℕ). take at bytes ++ byte ∷ drop n bytes) (add-one at)
    ∙ sym (set_split bytes at byte lt)

module _ (region : Region) (bodies : List (List ℕ)) (j : ℕ) (place : Place) (is_end : IsEndGate region (take j bodies) place) (start : List ℕ) where
  here_is : place.gate ≡ length (bytes_before_gate region (take j bodies))
  here_is = sym is_end.here

  within_image : (image : List ℕ) → Shows region (take j bodies) image → place.gate < length image
  within_image image shows = omega (arith, here_is, shows.ends.within, shows.ends.inside, shows.ends.whole)

  stands_at : (image : List ℕ) → OpenedOrOneMore region bodies start image j → StandsUpTo (OpenedOrOneMore region bodies start) j j image
  stands_at image stand = record { i = j; low = omega arith; high = omega arith; stand = stand }

  -- the end gate before a record left behind, with any byte in its place
  torn_gate : (body : List ℕ) (byte : ℕ) (image : List ℕ) → WasLeft region (take j bodies) body start → LeavesBehind region (take j bodies) body image → OpenedOrOneMore region bodies start (splice place.gate (byte ∷ []) image) j
  torn_gate body zero image at_start left =
      inl (record {
        rest = left.shows.rest;
        ends = splice_gate region (take j bodies) place.gate left.shows.gate 0 left.shows.rest image is_end.here left.shows.ends;
      })
  torn_gate body (suc zero) image at_start left =
      let set_is : set image (length (bytes_before_gate region (take j bodies))) 1 ≡ splice place.gate (1 ∷ []) image =
      ap (λ (n : ℕ). set image n 1) is_end.here ∙ sym (spliced_one place.gate 1 image (within_image image left.shows)) in
      inr (body, at_start, inr (subst (λ (l : List ℕ). ShowsClosed region (take j bodies ++ body ∷ []) l) set_is left.opened))
  torn_gate body (suc (suc byte)) image at_start left =
      let now = splice place.gate (suc (suc byte) ∷ []) image in
      let prefix = bytes_before_gate region (take j bodies) in
      let set_is : set image (length prefix) 1 ≡ set now (length prefix) 1 =
      sym (set-set image (length prefix) (suc (suc byte)) 1)
      ∙ ap (λ (l : List ℕ). set l (length prefix) 1) (ap (λ (n : ℕ). set image n (suc (suc byte))) is_end.here ∙ sym (spliced_one place.gate (suc (suc byte)) image (within_image image left.shows))) in
      inr (
        body,
        at_start,
        inl (record {
          shows = record {
            gate = suc (suc byte);
            shut = λ one. omega (arith, one);
            rest = left.shows.rest;
            ends = splice_gate region (take j bodies) place.gate left.shows.gate (suc (suc byte)) left.shows.rest image is_end.here left.shows.ends;
          };
          opened = subst (λ (l : List ℕ). ShowsClosed region (take j bodies ++ body ∷ []) l) set_is left.opened;
        }),
      )

  -- a start whose end gate is not 0 has a record left behind
  left_at : (image : List ℕ) → (get_or start place.gate 0 ≡ 0 → ⊥) → OpensFirst region bodies start image j → (body : List ℕ) × LeavesBehind region (take j bodies) body image
  left_at image other opens =
      elim opens.firm [
        | inl closed ↦ absurd (other (ap (λ (l : List ℕ). get_or l place.gate 0) (sym opens.same) ∙ ap (λ (n : ℕ). get_or image n 0) here_is ∙ gate_byte region (take j bodies) 0 closed.rest image closed.ends))
        | inr left ↦ left
      ]

  closed_now : (image : List ℕ) → Shows region (take j bodies) image → ShowsClosed region (take j bodies) (splice place.gate (0 ∷ []) image)
  closed_now image shows =
      record {
        rest = shows.rest;
        ends = splice_gate region (take j bodies) place.gate shows.gate 0 shows.rest image is_end.here shows.ends;
      }

  -- at each moment of the put
  close_holds : (get_or start place.gate 0 ≡ 0 → ⊥) → (image : List ℕ) → OpensFirst region bodies start image j → Holds (λ n image. StandsUpTo (OpenedOrOneMore region bodies start) j j image) 0 image (one_put place.gate (0 ∷ []))
  close_holds other image opens =
      let shows : Shows region (take j bodies) image = shows_firm region (take j bodies) image opens.firm in
      let lt : place.gate < length image = within_image image shows in
      let left = left_at image other opens in
      let at_start : WasLeft region (take j bodies) left.0 start =
      record {
        left = subst (λ (l : List ℕ). LeavesBehind region (take j bodies) left.0 l) opens.same left.1;
        other = λ none. other (ap (λ (n : ℕ). get_or start n 0) here_is ∙ none);
      } in (
        omega (arith, lt),
        stands_at image (opens_unchanged region bodies start image j opens),
        λ torn one.
            let byte = one_byte torn one in
            stands_at (splice place.gate torn image) (subst (λ (l : List ℕ). OpenedOrOneMore region bodies start (splice place.gate l image) j) (sym byte.1) (torn_gate left.0 byte.0 image at_start left.1)),
        stands_at (splice place.gate (0 ∷ []) image) (inl (closed_now image shows)),
      )

  -- if the end gate is 0 already
  closed_here : get_or start place.gate 0 ≡ 0 → (image : List ℕ) → OpensFirst region bodies start image j → RestsFirst region bodies image j
  closed_here none image opens =
      closed_by_byte region (take j bodies) image (ap (λ (n : ℕ). get_or image n 0) (sym here_is) ∙ ap (λ (l : List ℕ). get_or l place.gate 0) opens.same ∙ none) (shows_firm region (take j bodies) image opens.firm)

still_none : (region : Region) (bodies : List (List ℕ)) (start : List ℕ) (j : ℕ) (steps : List Step) → actions_of steps ≡ [] → GoesOn (OpensFirst region bodies start) (OpenedOrOneMore region bodies start) (OpensFirst region bodies start) j j steps
still_none region bodies start j steps none =
    none_goes_on (OpensFirst region bodies start) (OpenedOrOneMore region bodies start) j steps (λ bytes opens. opens_unchanged region bodies start bytes j opens) none

abbrev unput : (place : Place) (a b : World) → Same a b → PutsPart (one_put place.gate (0 ∷ [])) a b
unput place a b same =
    record { left = same.left; actions = []; trace = same.trace ∙ sym (append-nil a.trace); ran = tt }

abbrev put_behind : (place : Place) (a b c : World) → Same a b → PutsPart (one_put place.gate (0 ∷ [])) b c → PutsPart (one_put place.gate (0 ∷ [])) a c
put_behind place a b c same part =
    record {
      left = part.left ∙ same.left;
      actions = part.actions;
      trace = part.trace ∙ ap (λ (l : List Action). l ++ part.actions) same.trace;
      ran = part.ran;
    }

-- nothing was done
close_none : (place : Place) (a b : World) → Same a b → ClosesGood place a b
close_none place a b same =
    record {
      part = unput place a b same;
      good = λ region bodies j steps is_end none. (still_none region bodies a.device j steps none).good;
    }

close_here : (place : Place) (a b : World) → ReadsGate place.gate 0 a b → ClosesGoing place a b
close_here place a b read =
    record {
      part = unput place a b read.same;
      goes_on = λ region bodies j steps is_end none.
          let still = still_none region bodies a.device j steps none in
          record {
            good = still.good;
            at_rest = still.at_rest;
            rest = λ d rest start.
                closed_here region bodies j place is_end a.device read.there (after_actions d (actions_of steps)).bytes (still.rest d rest start);
          };
      closed = λ region bodies is_end shows.
          subst (λ (l : List ℕ). ShowsClosed region bodies l) (sym read.same.device) (closed_by_byte region bodies a.device (ap (λ (n : ℕ). get_or a.device n 0) is_end.here ∙ read.there) shows);
      leaves = λ d is. is ∙ sym read.same.device;
    }

-- the gate was another, and the put made in part
close_partly : (place : Place) (gate : ℕ) (a b c : World) → (gate ≡ 0 → ⊥) → ReadsGate place.gate gate a b → PutsPart (one_put place.gate (0 ∷ [])) b c → ClosesGood place a c
close_partly place gate a b c other read part =
    record {
      part = put_behind place a b c read.same part;
      good = λ region bodies j steps is_end all.
          puts_good (OpensFirst region bodies a.device) (OpenedOrOneMore region bodies a.device) j j (one_put place.gate (0 ∷ [])) steps (close_holds region bodies j place is_end a.device (λ none. other (sym read.there ∙ none))) (subst (λ (l : List Action). Ran (one_put place.gate (0 ∷ [])) l) (sym all) part.ran);
    }

-- the gate was another, and the put made whole
close_wholly : (place : Place) (gate : ℕ) (a b c : World) → (gate ≡ 0 → ⊥) → ReadsGate place.gate gate a b → Puts (one_put place.gate (0 ∷ [])) b c → ClosesGoing place a c
close_wholly place gate a b c other read made =
    record {
      part =
          put_behind place a b c read.same
          (record { left = made.left; actions = actions_of_puts (one_put place.gate (0 ∷ [])); trace = made.trace; ran = (true, refl, refl) });
      goes_on = λ region bodies j steps is_end all.
          puts_go_on (OpensFirst region bodies a.device) (OpenedOrOneMore region bodies a.device) (RestsFirst region bodies) j j (one_put place.gate (0 ∷ [])) steps (close_holds region bodies j place is_end a.device (λ none. other (sym read.there ∙ none))) (λ bytes opens.
          closed_now region bodies j place is_end a.device bytes (shows_firm region (take j bodies) bytes opens.firm)) all;
      closed = λ region bodies is_end shows.
          subst (λ (l : List ℕ). ShowsClosed region bodies l) (sym (made.device ∙ ap (λ (l : List ℕ). splice place.gate (0 ∷ []) l) read.same.device)) (record {
            rest = shows.rest;
            ends = splice_gate region bodies place.gate shows.gate 0 shows.rest a.device is_end.here shows.ends;
          });
      leaves = λ d is.
          puts_bytes (one_put place.gate (0 ∷ [])) d
          ∙ ap (λ (l : List ℕ). after_puts l (one_put place.gate (0 ∷ []))) (is ∙ sym read.same.device)
          ∙ sym made.device;
    }

-- what closing does, by what an edge tells at each end of the call
pub close_unread : (place : Place) (x y : Option World) → Told Same x y → Told (ClosesGood place) x y
close_unread place x y = told_map Same (ClosesGood place) x y (close_none place)

pub close_shut_good : (place : Place) (gate : ℕ) (x y : Option World) → Told (ReadsGate place.gate gate) x y → Told (ClosesGood place) x y
close_shut_good place gate x y =
    told_map (ReadsGate place.gate gate) (ClosesGood place) x y (λ a b read. close_none place a b read.same)

pub close_shut : (place : Place) (gate : ℕ) (x y : Option World) → gate ≡ 0 → Told (ReadsGate place.gate gate) x y → Told (ClosesGoing place) x y
close_shut place gate x y none read =
    told_map (ReadsGate place.gate 0) (ClosesGoing place) x y (close_here place) (subst (λ (g : ℕ). Told (ReadsGate place.gate g) x y) none read)

pub close_part : (place : Place) (gate : ℕ) (x y z : Option World) → (gate ≡ 0 → ⊥) → Told (ReadsGate place.gate gate) x y → Told (PutsPart (one_put place.gate (0 ∷ []))) y z → Told (ClosesGood place) x z
close_part place gate x y z other =
    told_then (ReadsGate place.gate gate) (PutsPart (one_put place.gate (0 ∷ []))) (ClosesGood place) x y z (λ a b c. close_partly place gate a b c other)

pub close_done : (place : Place) (gate : ℕ) (x y z : Option World) → (gate ≡ 0 → ⊥) → Told (ReadsGate place.gate gate) x y → Told (Puts (one_put place.gate (0 ∷ []))) y z → Told (ClosesGoing place) x z
close_done place gate x y z other =
    told_then (ReadsGate place.gate gate) (Puts (one_put place.gate (0 ∷ []))) (ClosesGoing place) x y z (λ a b c. close_wholly place gate a b c other)

pub close_done_good : (place : Place) (gate : ℕ) (x y z : Option World) → (gate ≡ 0 → ⊥) → Told (ReadsGate place.gate gate) x y → Told (Puts (one_put place.gate (0 ∷ []))) y z → Told (ClosesGood place) x z
close_done_good place gate x y z other =
    told_then (ReadsGate place.gate gate) (Puts (one_put place.gate (0 ∷ []))) (ClosesGood place) x y z (λ a b c read made.
    close_partly place gate a b c other read (part_all (one_put place.gate (0 ∷ [])) b c made))
