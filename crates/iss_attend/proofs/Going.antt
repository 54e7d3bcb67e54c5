-- Parts of a run that attends to clients, one after the other.
use Rattle.std.proofs.Common.{◌≡◌, ◌+◌, ◌≤◌, List, [], ◌∷◌, ◌++◌, Option, refl, sym, ap, subst, ◌∙◌, append_assoc, append-nil, arith}
use Rattle.std.proofs.lemmas.List.{map-append}
use Rattle.iss_edge.specs.declared.outside.Action.{Action}
use Rattle.iss_edge.specs.declared.outside.Answered.{Answered}
use Rattle.iss_edge.specs.Outer.{Outer, Adds}
use Rattle.iss_edge.specs.Stretches.{Step, actions_of}
use Rattle.iss_edge.specs.World.{Told}
use Rattle.iss_edge.proofs.StretchLemmas.{actions_of-append}
use Rattle.iss_edge.proofs.Tolds.{told_map, told_then, told_self}
use Rattle.iss_session.specs.Items.{HeardItem}
use Rattle.iss_session.specs.Turns.{wait_count}
use Rattle.iss_attend.specs.Attendances.{Manner, Attendance, attendance_change, attendance_after, attendance_steps, IsNext, Fits, answers_in, waits_in, HasCome, NoWaitFailed}
use Rattle.iss_attend.specs.Runs.{Attends, AttendsPart}

waits_append : (xs ys : List HeardItem) → waits_in (xs ++ ys) ≡ waits_in xs + waits_in ys
waits_append [] ys = omega arith
waits_append (x ∷ xs) ys = let rest = waits_append xs ys in omega (arith, rest)

came_append : (xs ys : List HeardItem) → NoWaitFailed xs → NoWaitFailed ys → NoWaitFailed (xs ++ ys)
came_append [] ys p q = q
came_append (x ∷ xs) ys p q = (p.0, came_append xs ys p.1 q)

answers_append : (a b c : List Answered) (xs ys : List HeardItem) → b ≡ a ++ answers_in xs → c ≡ b ++ answers_in ys → c ≡ a ++ answers_in (xs ++ ys)
answers_append a b c xs ys p q =
    q ∙ ap (λ (l : List Answered). l ++ answers_in ys) p ∙ append_assoc a (answers_in xs) (answers_in ys)
    ∙ ap (λ (l : List Answered). a ++ l) (sym (map-append (λ (item : HeardItem). item.answer) xs ys))

module _ {G : Type 0} (manner : Manner G) where
  after_append : (s : Attendance G) (xs ys : List HeardItem) → attendance_after manner s (xs ++ ys) ≡ attendance_after manner (attendance_after manner s xs) ys
  after_append s [] ys = refl
  after_append s (x ∷ xs) ys = after_append (attendance_change manner s x).now xs ys

  steps_append : (s : Attendance G) (xs ys : List HeardItem)
      → attendance_steps manner s (xs ++ ys) ≡ attendance_steps manner s xs ++ attendance_steps manner (attendance_after manner s xs) ys
  steps_append s [] ys = refl
  steps_append s (x ∷ xs) ys =
      ap (λ (l : List Step). (attendance_change manner s x).steps ++ l) (steps_append (attendance_change manner s x).now xs ys)
      ∙ sym (append_assoc (attendance_change manner s x).steps (attendance_steps manner (attendance_change manner s x).now xs)
      (attendance_steps manner (attendance_after manner (attendance_change manner s x).now xs) ys))

  fits_append : (s : Attendance G) (xs ys : List HeardItem) → Fits manner s xs → Fits manner (attendance_after manner s xs) ys → Fits manner s (xs ++ ys)
  fits_append s [] ys p q = q
  fits_append s (x ∷ xs) ys p q = (p.0, fits_append (attendance_change manner s x).now xs ys p.1 q)

  actions_append : (s : Attendance G) (xs ys : List HeardItem)
      → actions_of (attendance_steps manner s (xs ++ ys))
      ≡ actions_of (attendance_steps manner s xs) ++ actions_of (attendance_steps manner (attendance_after manner s xs) ys)
  actions_append s xs ys =
      ap actions_of (steps_append s xs ys)
      ∙ actions_of-append (attendance_steps manner s xs) (attendance_steps manner (attendance_after manner s xs) ys)

  -- ---- nothing, and one item

  pub attends_self : (s : Attendance G) (a : Outer) → Attends manner s s a a
  attends_self s a =
      record {
        items = [];
        heard = sym (append-nil a.heard);
        fits = tt;
        came = tt;
        waits = omega arith;
        ends = refl;
        device = refl;
        trace = sym (append-nil a.world.trace);
      }

  one_action : (s : Attendance G) (item : HeardItem) → actions_of (attendance_steps manner s (item ∷ [])) ≡ actions_of (attendance_change manner s item).steps
  one_action s item = ap actions_of (append-nil (attendance_change manner s item).steps)

  pub attends_item : (s t : Attendance G) (item : HeardItem) (actions : List Action) (a b : Outer) → IsNext s item → HasCome item.answer
      → wait_count item.answer + t.turns ≤ s.turns → (attendance_change manner s item).now ≡ t → actions_of (attendance_change manner s item).steps ≡ actions
      → Adds actions (item.answer ∷ []) a b → Attends manner s t a b
  attends_item s t item actions a b next came turns leads does adds =
      record {
        items = item ∷ [];
        heard = adds.heard;
        fits = (next, tt);
        came = (came, tt);
        waits = omega (arith, turns);
        ends = leads;
        device = adds.device;
        trace = adds.trace ∙ ap (λ (l : List Action). a.world.trace ++ l) (sym (one_action s item ∙ does));
      }

  pub part_item : (s : Attendance G) (item : HeardItem) (a b : Outer) → IsNext s item → wait_count item.answer ≤ s.turns → Adds [] (item.answer ∷ []) a b
      → AttendsPart manner s a b
  part_item s item a b next turns adds =
      record {
        items = item ∷ [];
        heard = adds.heard;
        fits = (next, tt);
        waits = omega (arith, turns);
        device = adds.device;
        done = [];
        undone = actions_of (attendance_steps manner s (item ∷ []));
        trace = adds.trace;
        cut = refl;
      }

  -- ---- one after the other

  pub attends_then : (s t u : Attendance G) (a b c : Outer) → Attends manner s t a b → Attends manner t u b c → Attends manner s u a c
  attends_then s t u a b c p q =
      let fits : Fits manner (attendance_after manner s p.items) q.items = subst (λ (x : Attendance G). Fits manner x q.items) (sym p.ends) q.fits in
      let waits = waits_append p.items q.items in
      let first = p.waits in
      let second = q.waits in
      record {
        items = p.items ++ q.items;
        heard = answers_append a.heard b.heard c.heard p.items q.items p.heard q.heard;
        fits = fits_append s p.items q.items p.fits fits;
        came = came_append p.items q.items p.came q.came;
        waits = omega (arith, waits, first, second);
        ends = after_append s p.items q.items ∙ ap (λ (x : Attendance G). attendance_after manner x q.items) p.ends ∙ q.ends;
        device = q.device ∙ p.device;
        trace =
            q.trace ∙ ap (λ (l : List Action). l ++ actions_of (attendance_steps manner t q.items)) p.trace
            ∙ append_assoc a.world.trace (actions_of (attendance_steps manner s p.items)) (actions_of (attendance_steps manner t q.items))
            ∙ ap (λ (x : Attendance G). a.world.trace ++ (actions_of (attendance_steps manner s p.items) ++ actions_of (attendance_steps manner x q.items))) (sym p.ends)
            ∙ ap (λ (l : List Action). a.world.trace ++ l) (sym (actions_append s p.items q.items));
      }

  pub attends_then_part : (s t : Attendance G) (a b c : Outer) → Attends manner s t a b → AttendsPart manner t b c → AttendsPart manner s a c
  attends_then_part s t a b c p q =
      let fits : Fits manner (attendance_after manner s p.items) q.items = subst (λ (x : Attendance G). Fits manner x q.items) (sym p.ends) q.fits in
      let waits = waits_append p.items q.items in
      let first = p.waits in
      let second = q.waits in
      let before = actions_of (attendance_steps manner s p.items) in
      record {
        items = p.items ++ q.items;
        heard = answers_append a.heard b.heard c.heard p.items q.items p.heard q.heard;
        fits = fits_append s p.items q.items p.fits fits;
        waits = omega (arith, waits, first, second);
        device = q.device ∙ p.device;
        done = before ++ q.done;
        undone = q.undone;
        trace = q.trace ∙ ap (λ (l : List Action). l ++ q.done) p.trace ∙ append_assoc a.world.trace before q.done;
        cut =
            actions_append s p.items q.items
            ∙ ap (λ (x : Attendance G). before ++ actions_of (attendance_steps manner x q.items)) p.ends
            ∙ ap (λ (l : List Action). before ++ l) q.cut
            ∙ sym (append_assoc before q.done q.undone);
      }

  pub part_of_attends : (s t : Attendance G) (a b : Outer) → Attends manner s t a b → AttendsPart manner s a b
  part_of_attends s t a b p =
      let turns = p.waits in
      record {
        items = p.items;
        heard = p.heard;
        fits = p.fits;
        waits = omega (arith, turns);
        device = p.device;
        done = actions_of (attendance_steps manner s p.items);
        undone = [];
        trace = p.trace;
        cut = sym (append-nil (actions_of (attendance_steps manner s p.items)));
      }

  -- ---- the same of what is told

  pub told_self_attends : (s : Attendance G) (x : Option Outer) → Told (Attends manner s s) x x
  told_self_attends s x = told_self (Attends manner s s) x (attends_self s)

  pub told_attends_then : (s t u : Attendance G) (x y z : Option Outer) → Told (Attends manner s t) x y → Told (Attends manner t u) y z → Told (Attends manner s u) x z
  told_attends_then s t u x y z p q = told_then (Attends manner s t) (Attends manner t u) (Attends manner s u) x y z (attends_then s t u) p q

  pub told_then_part : (s t : Attendance G) (x y z : Option Outer) → Told (Attends manner s t) x y → Told (AttendsPart manner t) y z → Told (AttendsPart manner s) x z
  told_then_part s t x y z p q = told_then (Attends manner s t) (AttendsPart manner t) (AttendsPart manner s) x y z (attends_then_part s t) p q

  pub told_part_of : (s t : Attendance G) (x y : Option Outer) → Told (Attends manner s t) x y → Told (AttendsPart manner s) x y
  told_part_of s t x y p = told_map (Attends manner s t) (AttendsPart manner s) x y (part_of_attends s t) p
