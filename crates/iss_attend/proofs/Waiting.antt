-- What a wait brings, arrival by arrival.
use Rattle.std.proofs.Common.{◌≡◌, ℕ, zero, suc, ◌+◌, ◌-◌, ◌<◌, ◌≤◌, false, List, [], ◌∷◌, ◌++◌, Option, Some, None, refl, sym, ap, subst, ◌∙◌, arith}
use Rattle.iss_edge.specs.declared.outside.Channel.{Channel}
use Rattle.iss_edge.specs.declared.outside.Arrival.{Arrival}
use Rattle.iss_edge.specs.declared.outside.Arrival.TheVariants.{Client, Ready, Time, Idle, End}
use Rattle.iss_edge.specs.declared.outside.Answered.{Answered}
use Rattle.iss_edge.specs.declared.outside.Answered.TheVariants.{Waited}
use Rattle.iss_edge.specs.World.{World, Told}
use Rattle.iss_edge.specs.Calls.{Same, Waits, Hears}
use Rattle.iss_edge.specs.Outer.{outer_of, Adds}
use Rattle.iss_edge.proofs.Tolds.{told_map}
use Rattle.iss_edge.proofs.Outers.{told_waits, told_unwaited}
use Rattle.iss_session.specs.Items.{HeardItem, Next, waits, is_answer_to, IsTornEmit}
use Rattle.iss_session.specs.Sessions.{OpenRequest, wait_while}
use Rattle.iss_session.specs.Hearings.{one_less}
use Rattle.iss_attend.specs.Attendances.{Manner, Attendance, at_rest, arrived, after_arrival, IsNext}
use Rattle.iss_attend.specs.Runs.{Attends, AttendsPart}
use Rattle.iss_attend.proofs.Going.{attends_item, part_item}

some_turns : (n : ℕ) → 0 < n → wait_while n ≡ waits
some_turns zero more = absurd (none more)
  where
    none : 0 < 0 → ⊥
    none m = omega (arith, m)
some_turns (suc n) more = refl

less_is : (n : ℕ) → one_less n ≡ n - 1
less_is zero = omega arith
less_is (suc n) = omega arith

abbrev waited : Option Arrival → HeardItem
waited arrival = record { answer = Waited arrival; early = false; torn = None }

module _ {G : Type 0} (manner : Manner G) (g : G) (turns : ℕ) (readers : List OpenRequest) (some : 0 < turns) where
  is_next : (arrival : Option Arrival) → IsNext (at_rest g turns readers) (waited arrival)
  is_next arrival =
      record {
        answers = ap (λ (n : Next). is_answer_to n (Waited arrival)) (some_turns turns some);
        torn = subst (λ (n : Next). IsTornEmit n (Waited arrival) None) (sym (some_turns turns some)) tt;
        early = tt;
      }

  -- what stands after an arrival
  abbrev after : Arrival → Attendance G
  after arrival = after_arrival (at_rest g (one_less turns) readers) (Some arrival)

  waited_on : (arrival : Arrival) (t : Attendance G) (x z : Option World) (h k : Option (List Answered)) → after arrival ≡ t → 1 + t.turns ≤ turns
      → Told (Waits arrival) x z → Told (Hears (Waited (Some arrival))) h k → Told (Attends manner (at_rest g turns readers) t) (outer_of x h) (outer_of z k)
  waited_on arrival t x z h k leads fewer brought heard =
      told_map (Adds [] (Waited (Some arrival) ∷ [])) (Attends manner (at_rest g turns readers) t) (outer_of x h) (outer_of z k)
      (λ a b adds. attends_item manner (at_rest g turns readers) t (waited (Some arrival)) [] a b (is_next (Some arrival)) tt fewer leads refl adds)
      (told_waits arrival x z h k brought heard)

  -- the wait was made, and what it brought isn't taken in
  pub told_waited_part : (arrival : Arrival) (x z : Option World) (h k : Option (List Answered)) → Told (Waits arrival) x z → Told (Hears (Waited (Some arrival))) h k
      → Told (AttendsPart manner (at_rest g turns readers)) (outer_of x h) (outer_of z k)
  told_waited_part arrival x z h k brought heard =
      told_map (Adds [] (Waited (Some arrival) ∷ [])) (AttendsPart manner (at_rest g turns readers)) (outer_of x h) (outer_of z k)
      (λ a b adds. part_item manner (at_rest g turns readers) (waited (Some arrival)) a b (is_next (Some arrival)) (omega (arith, some)) adds)
      (told_waits arrival x z h k brought heard)

  pub told_wait_failed : (x z : Option World) (h k : Option (List Answered)) → Told Same x z → Told (Hears (Waited None)) h k
      → Told (AttendsPart manner (at_rest g turns readers)) (outer_of x h) (outer_of z k)
  told_wait_failed x z h k same heard =
      told_map (Adds [] (Waited None ∷ [])) (AttendsPart manner (at_rest g turns readers)) (outer_of x h) (outer_of z k)
      (λ a b adds. part_item manner (at_rest g turns readers) (waited None) a b (is_next None) (omega (arith, some)) adds)
      (told_unwaited x z h k same heard)

  one_fewer : 1 + (turns - 1) ≤ turns
  one_fewer = omega (arith, some)

  pub told_client : (ch : Channel) (now : List OpenRequest) (x z : Option World) (h k : Option (List Answered)) → now ≡ readers ++ record { ch = ch; bytes = [] } ∷ []
      → Told (Waits (Client ch)) x z → Told (Hears (Waited (Some (Client ch)))) h k
      → Told (Attends manner (at_rest g turns readers) (at_rest g (turns - 1) now)) (outer_of x h) (outer_of z k)
  told_client ch now x z h k is brought heard =
      waited_on (Client ch) (at_rest g (turns - 1) now) x z h k
      (ap (λ (n : ℕ). at_rest g n (readers ++ record { ch = ch; bytes = [] } ∷ [])) (less_is turns) ∙ ap (at_rest g (turns - 1)) (sym is)) one_fewer brought heard

  pub told_ready : (ch : Channel) (x z : Option World) (h k : Option (List Answered)) → Told (Waits (Ready ch)) x z → Told (Hears (Waited (Some (Ready ch)))) h k
      → Told (Attends manner (at_rest g turns readers) (arrived g (turns - 1) readers ch)) (outer_of x h) (outer_of z k)
  told_ready ch x z h k brought heard =
      waited_on (Ready ch) (arrived g (turns - 1) readers ch) x z h k (ap (λ (n : ℕ). arrived g n readers ch) (less_is turns)) one_fewer brought heard

  pub told_time : (at : ℕ) (x z : Option World) (h k : Option (List Answered)) → Told (Waits (Time at)) x z → Told (Hears (Waited (Some (Time at)))) h k
      → Told (Attends manner (at_rest g turns readers) (at_rest g (turns - 1) readers)) (outer_of x h) (outer_of z k)
  told_time at x z h k brought heard =
      waited_on (Time at) (at_rest g (turns - 1) readers) x z h k (ap (λ (n : ℕ). at_rest g n readers) (less_is turns)) one_fewer brought heard

  pub told_idle : (x z : Option World) (h k : Option (List Answered)) → Told (Waits Idle) x z → Told (Hears (Waited (Some Idle))) h k
      → Told (Attends manner (at_rest g turns readers) (at_rest g (turns - 1) readers)) (outer_of x h) (outer_of z k)
  told_idle x z h k brought heard =
      waited_on Idle (at_rest g (turns - 1) readers) x z h k (ap (λ (n : ℕ). at_rest g n readers) (less_is turns)) one_fewer brought heard

  pub told_end : (x z : Option World) (h k : Option (List Answered)) → Told (Waits End) x z → Told (Hears (Waited (Some End))) h k
      → Told (Attends manner (at_rest g turns readers) (at_rest g 0 readers)) (outer_of x h) (outer_of z k)
  told_end x z h k brought heard = waited_on End (at_rest g 0 readers) x z h k refl (omega (arith, some)) brought heard
