-- What a take brings, and how a response goes out.
use Rattle.std.proofs.Common.{◌≡◌, ℕ, zero, suc, ◌<◌, ◌≤◌, ◌&&◌, nat_le, Bool, true, false, cond, List, [], ◌∷◌, ◌++◌, length, take, Option, Some, None, refl, sym, ap, subst, ◌∙◌, eq-eqb, arith}
use Rattle.std.proofs.lemmas.Bool.Decides.{nat_tests}
use Rattle.std.proofs.lemmas.List.{length-take}
use Rattle.iss_edge.specs.declared.outside.Channel.{Channel}
use Rattle.iss_edge.specs.declared.outside.Action.TheVariants.{Close}
use Rattle.iss_edge.specs.declared.outside.Answered.{Answered}
use Rattle.iss_edge.specs.declared.outside.Answered.TheVariants.{Took, Emitted}
use Rattle.iss_edge.specs.Outer.{Outer, Adds}
use Rattle.iss_edge.specs.Stretches.{actions_of}
use Rattle.iss_edge.specs.World.{Told}
use Rattle.iss_edge.proofs.Outers.{adds_then}
use Rattle.iss_edge.proofs.Tolds.{told_map, told_then}
use Rattle.iss_http.specs.Requests.{jit_request, IsHopelessRequest}
use Rattle.iss_session.specs.declared.piece.TheConstants.{LONGEST_PIECE}
use Rattle.iss_session.specs.Items.{HeardItem, is_piece, emit_steps, leveled}
use Rattle.iss_session.specs.Sessions.{OpenRequest}
use Rattle.iss_session.specs.Hearings.{is_reading, bytes_on, readers_without, request_early}
use Rattle.iss_attend.specs.Attendances.{Manner, Attendance, Change, at_rest, taking, arrived, replying, change_to, after_request, after_take, attendance_change, MayAnswerEarly, IsNext}
use Rattle.iss_attend.specs.Reading.{ReadsOn, Replies, replied}
use Rattle.iss_attend.specs.Runs.{Attends, AttendsPart}
use Rattle.iss_attend.proofs.Going.{attends_item, part_item}

within_piece : (n : ℕ) → n ≤ LONGEST_PIECE → nat_le n LONGEST_PIECE ≡ true
within_piece n h = grind (arith, nat_tests)

piece_fits : (buffer : List ℕ) (count : ℕ) → length buffer ≡ LONGEST_PIECE → count ≤ length buffer → nat_le (length (take count buffer)) LONGEST_PIECE ≡ true
piece_fits buffer count room bound = let size = length-take count buffer in within_piece (length (take count buffer)) (omega (arith, size, room, bound))

some_came : (buffer : List ℕ) (count : ℕ) → (count ≡ 0 → ⊥) → count ≤ length buffer → 0 < length (take count buffer)
some_came buffer count more bound = let size = length-take count buffer in let some : 0 < count = above_none count more in omega (arith, size, some, bound)
  where
    above_none : (n : ℕ) → (n ≡ 0 → ⊥) → 0 < n
    above_none zero more = absurd (more refl)
    above_none (suc n) more = omega arith

-- some bytes, cut after the first one
record IsSome_of (piece : List ℕ) : Type 0 where
  pub first : ℕ
  pub rest : List ℕ
  pub is : piece ≡ first ∷ rest

some_bytes : (piece : List ℕ) → 0 < length piece → IsSome_of piece
some_bytes [] more = absurd (none more)
  where
    none : 0 < 0 → ⊥
    none m = omega (arith, m)
some_bytes (b ∷ piece) more = record { first = b; rest = piece; is = refl }

-- a take, and then a close
closed_then : (ch : Channel) (answer : Answered) (x y z : Option Outer) → Told (Adds [] (answer ∷ [])) x y → Told (Adds (Close ch ∷ []) []) y z → Told (Adds (Close ch ∷ []) (answer ∷ [])) x z
closed_then ch answer x y z p q = told_then (Adds [] (answer ∷ [])) (Adds (Close ch ∷ []) []) (Adds (Close ch ∷ []) (answer ∷ [])) x y z (adds_then [] (Close ch ∷ []) (answer ∷ []) []) p q

module _ {G : Type 0} (manner : Manner G) (g : G) (turns : ℕ) (readers : List OpenRequest) (ch : Channel) where
  abbrev took : Option (List ℕ) → Bool → HeardItem
  took got early = record { answer = Took ch got; early = early; torn = None }

  is_next : (got : Option (List ℕ)) (early : Bool) → is_piece got ≡ true → MayAnswerEarly readers ch got early → IsNext (taking g turns readers ch) (took got early)
  is_next got early fits may =
      record {
        answers = ap (λ (b : Bool). b && is_piece got) (eq-eqb ch.0 ch.0 refl) ∙ fits;
        torn = tt;
        early = may;
      }

  late : (got : Option (List ℕ)) → MayAnswerEarly readers ch got false
  late None = tt
  late (Some []) = tt
  late (Some (b ∷ piece)) = tt

  -- the take was made, and what it brought isn't read
  pub told_took_part : (buffer : List ℕ) (count : ℕ) (x y : Option Outer) → length buffer ≡ LONGEST_PIECE → count ≤ length buffer
      → Told (Adds [] (Took ch (Some (take count buffer)) ∷ [])) x y → Told (AttendsPart manner (taking g turns readers ch)) x y
  told_took_part buffer count x y room bound p =
      let got = Some (take count buffer) in
      told_map (Adds [] (Took ch got ∷ [])) (AttendsPart manner (taking g turns readers ch)) x y
      (λ a b adds. part_item manner (taking g turns readers ch) (took got false) a b (is_next got false (piece_fits buffer count room bound) (late got)) (omega arith) adds) p

  -- the take fails, or the client's bytes end
  pub told_client_failed : (now : Attendance G) (x y z : Option Outer) → now ≡ at_rest g turns (readers_without ch readers)
      → Told (Adds [] (Took ch None ∷ [])) x y → Told (Adds (Close ch ∷ []) []) y z → Told (Attends manner (taking g turns readers ch) now) x z
  told_client_failed now x y z is p q =
      subst (λ (t : Attendance G). Told (Attends manner (taking g turns readers ch) t) x z) (sym is)
      (told_map (Adds (Close ch ∷ []) (Took ch None ∷ [])) (Attends manner (taking g turns readers ch) (at_rest g turns (readers_without ch readers))) x z
      (λ a b adds.
      attends_item manner (taking g turns readers ch) (at_rest g turns (readers_without ch readers)) (took None false) (Close ch ∷ []) a b (is_next None false refl tt) tt (omega arith) refl refl adds)
      (closed_then ch (Took ch None) x y z p q))

  pub told_client_ended : (now : Attendance G) (buffer : List ℕ) (count : ℕ) (x y z : Option Outer) → count ≡ 0 → now ≡ at_rest g turns (readers_without ch readers)
      → Told (Adds [] (Took ch (Some (take count buffer)) ∷ [])) x y → Told (Adds (Close ch ∷ []) []) y z → Told (Attends manner (taking g turns readers ch) now) x z
  told_client_ended now buffer count x y z none is p q =
      subst (λ (t : Attendance G). Told (Attends manner (taking g turns readers ch) t) x z) (sym is)
      (told_map (Adds (Close ch ∷ []) (Took ch (Some []) ∷ [])) (Attends manner (taking g turns readers ch) (at_rest g turns (readers_without ch readers))) x z
      (λ a b adds.
      attends_item manner (taking g turns readers ch) (at_rest g turns (readers_without ch readers)) (took (Some []) false) (Close ch ∷ []) a b (is_next (Some []) false refl tt) tt (omega arith) refl refl adds)
      (closed_then ch (Took ch (Some [])) x y z (subst (λ (n : ℕ). Told (Adds [] (Took ch (Some (take n buffer)) ∷ [])) x y) none p) q))

  -- what stands when some bytes came
  abbrev read_as : List ℕ → Bool → Attendance G
  read_as piece early =
      after_request manner (at_rest g turns readers) ch (bytes_on ch readers ++ piece) (request_early early (jit_request (bytes_on ch readers ++ piece)))

  read_some : (piece : List ℕ) (early : Bool) (b : ℕ) (rest : List ℕ) → piece ≡ b ∷ rest
      → after_take manner (at_rest g turns readers) ch (Some piece) early ≡ change_to (read_as piece early) []
  read_some piece early b rest cut =
      subst (λ (p : List ℕ). after_take manner (at_rest g turns readers) ch (Some p) early ≡ change_to (read_as p early) []) (sym cut) refl

  may_early : (piece : List ℕ) (early : Bool) (b : ℕ) (rest : List ℕ) → piece ≡ b ∷ rest → (early ≡ true → IsHopelessRequest (bytes_on ch readers ++ piece))
      → MayAnswerEarly readers ch (Some piece) early
  may_early piece early b rest cut may =
      subst (λ (p : List ℕ). MayAnswerEarly readers ch (Some p) early) (sym cut) (by early (λ e. subst (λ (p : List ℕ). IsHopelessRequest (bytes_on ch readers ++ p)) cut (may e)))
    where
      by : (early : Bool) → (early ≡ true → IsHopelessRequest (bytes_on ch readers ++ b ∷ rest)) → MayAnswerEarly readers ch (Some (b ∷ rest)) early
      by false may = tt
      by true may = may refl

  same_turns : (now : G) (after : List OpenRequest) (said : Option (List ℕ)) → (replied now turns after ch said).turns ≡ turns
  same_turns now after None = refl
  same_turns now after (Some text) = refl

  pub told_request : (now : G) (after : List OpenRequest) (said : Option (List ℕ)) (buffer : List ℕ) (count : ℕ) (piece : List ℕ) (x y : Option Outer)
      → length buffer ≡ LONGEST_PIECE → count ≤ length buffer → (count ≡ 0 → ⊥) → piece ≡ take count buffer → ReadsOn manner ch piece readers after g now said
      → Told (Adds [] (Took ch (Some (take count buffer)) ∷ [])) x y → Told (Attends manner (taking g turns readers ch) (replied now turns after ch said)) x y
  told_request now after said buffer count piece x y room bound more same read p =
      let all = take count buffer in
      let reads : ReadsOn manner ch all readers after g now said = subst (λ (t : List ℕ). ReadsOn manner ch t readers after g now said) same read in
      let cut = some_bytes all (some_came buffer count more bound) in
      let turned = same_turns now after said in
      let is : (attendance_change manner (taking g turns readers ch) (took (Some all) reads.early)) ≡ change_to (read_as all reads.early) [] = read_some all reads.early cut.first cut.rest cut.is in
      told_map (Adds [] (Took ch (Some all) ∷ [])) (Attends manner (taking g turns readers ch) (replied now turns after ch said)) x y
      (λ a b adds.
      attends_item manner (taking g turns readers ch) (replied now turns after ch said) (took (Some all) reads.early) [] a b
      (is_next (Some all) reads.early (piece_fits buffer count room bound) (may_early all reads.early cut.first cut.rest cut.is reads.may)) tt (omega (arith, turned))
      (ap (λ (c : Change G). c.now) is ∙ reads.leads turns) (ap (λ (c : Change G). actions_of c.steps) is) adds)
      p

  -- a response goes out, and its channel is closed
  replies_on : (text : List ℕ) (a b : Outer) → Replies ch text a b → Attends manner (replying g turns readers ch text) (at_rest g turns readers) a b
  replies_on text a b r =
      attends_item manner (replying g turns readers ch text) (at_rest g turns readers) (record { answer = Emitted ch r.ok; early = false; torn = r.torn })
      (actions_of (emit_steps 0 ch text r.ok r.torn ++ leveled 0 (Close ch) ∷ [])) a b
      (record { answers = eq-eqb ch.0 ch.0 refl; torn = r.is_torn; early = tt }) tt (omega arith) refl refl r.adds

  pub told_replied : (text bytes : List ℕ) (x y : Option Outer) → bytes ≡ text → Told (Replies ch bytes) x y
      → Told (Attends manner (replying g turns readers ch text) (at_rest g turns readers)) x y
  told_replied text bytes x y same p =
      told_map (Replies ch text) (Attends manner (replying g turns readers ch text) (at_rest g turns readers)) x y (replies_on text)
      (subst (λ (t : List ℕ). Told (Replies ch t) x y) same p)

  -- ---- whose channel it is

  pub is_taken : is_reading ch readers ≡ true → arrived g turns readers ch ≡ taking g turns readers ch
  is_taken e = ap (λ (b : Bool). record (taking g turns readers ch) { ready = cond b (Some ch) None }) e

  pub is_passed : is_reading ch readers ≡ false → arrived g turns readers ch ≡ at_rest g turns readers
  is_passed e = ap (λ (b : Bool). record (taking g turns readers ch) { ready = cond b (Some ch) None }) e
