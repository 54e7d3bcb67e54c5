-- A run that attends to clients, from its start to its end.
use Rattle.std.proofs.Common.{◌≡◌, ℕ, true, List, [], ◌∷◌, ◌++◌, map, Option, refl, sym, ap, subst, ◌∙◌, append_assoc, append-nil, arith}
use Rattle.std.specs.Prelude.{Result, Ok, Err, is_ok}
use Rattle.iss_edge.specs.declared.outside.Channel.{Channel}
use Rattle.iss_edge.specs.declared.outside.Action.{Action}
use Rattle.iss_edge.specs.declared.outside.Action.TheVariants.{Close}
use Rattle.iss_edge.specs.Outer.{Outer, Adds}
use Rattle.iss_edge.specs.Stretches.{actions_of}
use Rattle.iss_edge.specs.World.{Told, sent_on}
use Rattle.iss_edge.proofs.StretchLemmas.{actions_of-append}
use Rattle.iss_edge.proofs.Tolds.{told_map, told_then, sent_on-append}
use Rattle.iss_session.specs.Sessions.{OpenRequest, wait_while}
use Rattle.iss_session.specs.Happenings.{closings}
use Rattle.iss_attend.specs.Attendances.{Manner, Attendance, first_attendance, at_rest, attendance_after, attendance_steps, last_steps, next_of}
use Rattle.iss_attend.specs.Runs.{Attends, AttendsPart, AttendRun, all_steps}
use Rattle.iss_attend.proofs.Going.{told_self_attends, told_part_of}

closes : (channels : List Channel) → actions_of (closings 0 channels) ≡ map Close channels
closes [] = refl
closes (ch ∷ channels) = ap (λ (l : List Action). Close ch ∷ l) (closes channels)

-- closes send nothing
closes_send : (n : ℕ) (channels : List Channel) → sent_on n (map Close channels) ≡ []
closes_send n [] = refl
closes_send n (ch ∷ channels) = closes_send n channels

module _ {G : Type 0} (manner : Manner G) (g : G) (turns : ℕ) where
  abbrev first : Attendance G
  first = first_attendance g turns

  part_run : (over : Type 0) (a b : Outer) → (over → ⊥) → AttendsPart manner first a b → AttendRun manner g turns over a b
  part_run over a b short p =
      let last = actions_of (last_steps (attendance_after manner first p.items)) in
      record {
        items = p.items;
        heard = p.heard;
        fits = p.fits;
        waits = p.waits;
        device = p.device;
        done = p.done;
        undone = p.undone ++ last;
        trace = p.trace;
        cut =
            actions_of-append (attendance_steps manner first p.items) (last_steps (attendance_after manner first p.items))
            ∙ ap (λ (l : List Action). l ++ last) p.cut
            ∙ append_assoc p.done p.undone last;
        whole = λ o. absurd (short o);
      }

  pub told_part_run : (over : Type 0) (x y : Option Outer) → (over → ⊥) → Told (AttendsPart manner first) x y → Told (AttendRun manner g turns over) x y
  told_part_run over x y short p = told_map (AttendsPart manner first) (AttendRun manner g turns over) x y (λ a b. part_run over a b short) p

  module _ (now : G) (readers : List OpenRequest) (left : ℕ) (none_left : left ≡ 0) where
    whole_run : (over : Type 0) (a b c : Outer) → Attends manner first (at_rest now left readers) a b → Adds (map Close (map (λ r. r.ch) readers)) [] b c
        → AttendRun manner g turns over a c
    whole_run over a b c p q =
        let steps = attendance_steps manner first p.items in
        let last = last_steps (attendance_after manner first p.items) in
        let closed = map Close (map (λ r. r.ch) readers) in
        let waits = p.waits in
        let are : actions_of last ≡ closed =
        ap (λ (t : Attendance G). actions_of (last_steps t)) p.ends ∙ closes (map (λ r. r.ch) readers) in
        let all : actions_of (all_steps manner first p.items) ≡ actions_of steps ++ closed =
        actions_of-append steps last ∙ ap (λ (l : List Action). actions_of steps ++ l) are in
        let trace : c.world.trace ≡ a.world.trace ++ (actions_of steps ++ closed) =
        q.trace ∙ ap (λ (l : List Action). l ++ closed) p.trace ∙ append_assoc a.world.trace (actions_of steps) closed in
        record {
          items = p.items;
          heard = q.heard ∙ append-nil b.heard ∙ p.heard;
          fits = p.fits;
          waits = omega (arith, waits);
          device = q.device ∙ p.device;
          done = actions_of steps ++ closed;
          undone = [];
          trace = trace;
          cut = all ∙ sym (append-nil (actions_of steps ++ closed));
          whole = λ o.
              record {
                came = p.came;
                complete = ap (λ (t : Attendance G). next_of t) p.ends ∙ ap wait_while none_left;
                did = sym all;
                sent =
                    λ ch.
                    ap (sent_on ch) trace
                    ∙ sent_on-append ch a.world.trace (actions_of steps ++ closed)
                    ∙ ap (λ (l : List ℕ). sent_on ch a.world.trace ++ l)
                    (sent_on-append ch (actions_of steps) closed ∙ ap (λ (l : List ℕ). sent_on ch (actions_of steps) ++ l) (closes_send ch (map (λ r. r.ch) readers))
                    ∙ append-nil (sent_on ch (actions_of steps)));
              };
        }

    pub told_whole_run : (over : Type 0) (channels : List Channel) (x y z : Option Outer) → channels ≡ map (λ r. r.ch) readers
        → Told (Attends manner first (at_rest now left readers)) x y → Told (Adds (map Close channels) []) y z → Told (AttendRun manner g turns over) x z
    told_whole_run over channels x y z same p q =
        told_then (Attends manner first (at_rest now left readers)) (Adds (map Close (map (λ r. r.ch) readers)) []) (AttendRun manner g turns over) x y z (whole_run over) p
        (subst (λ (l : List Channel). Told (Adds (map Close l) []) y z) same q)

  -- nothing was heard yet
  pub told_unbegun : (over : Type 0) (x : Option Outer) → (over → ⊥) → Told (AttendRun manner g turns over) x x
  told_unbegun over x short = told_part_run over x x short (told_part_of manner first first x x (told_self_attends manner first x))

-- what failed isn't done
pub not_done : {T E : Type 0} (r : Result T E) (why : E) → r ≡ Err why → is_ok r ≡ true → ⊥
not_done (Ok x) why e o = cc
not_done (Err w) why e o = cc
