-- What a wait brings, arrival by arrival.
use Rattle.std.proofs.Common.{◌≡◌, ℕ, zero, suc, ◌-◌, ◌<◌, false, List, [], ◌∷◌, ◌++◌, Option, Some, None, refl, sym, ap, subst, ◌∙◌, append-nil, arith}
use Rattle.std.specs.Prelude.{min}
use Rattle.iss_edge.specs.declared.outside.Channel.{Channel}
use Rattle.iss_edge.specs.declared.outside.Arrival.{Arrival}
use Rattle.iss_edge.specs.declared.outside.Arrival.TheVariants.{Client, Ready, Time, Idle, End}
use Rattle.iss_edge.specs.declared.outside.Answered.{Answered}
use Rattle.iss_edge.specs.declared.outside.Answered.TheVariants.{Waited}
use Rattle.iss_edge.specs.World.{World, Told}
use Rattle.iss_edge.specs.Calls.{Same, Waits, Hears}
use Rattle.iss_edge.specs.Outer.{outer_of, Adds}
use Rattle.iss_edge.proofs.Tolds.{told_map}
use Rattle.iss_edge.proofs.Outers.{told_waits, told_unwaited}
use Rattle.iss_model.specs.declared.call.CallId.{CallId}
use Rattle.iss_model.specs.declared.input.Input.TheVariants as input
use Rattle.iss_model.specs.declared.input.Record.{Record}
use Rattle.iss_model.specs.declared.limits.TheConstants.{LAST_STAMP}
use Rattle.iss_session.specs.Items.{HeardItem, Next, waits, nothing, is_answer_to, IsTornEmit}
use Rattle.iss_session.specs.Sessions.{Session, Queued, OpenRequest, unasked, wait_while, next_idle, next_of}
use Rattle.iss_session.specs.Hearings.{one_less, after_arrival}
use Rattle.iss_session.specs.Happenings.{IsNext}
use Rattle.iss_opening.specs.Values.{StoreNow}
use Rattle.iss_serve.specs.Held.{HeldNow, Stage, idle, to_judge, arrived, answers_unreached, session_at}
use Rattle.iss_serve.specs.Runs.{ServesOn, ServesSome}
use Rattle.iss_serve.proofs.Stages.{heard_on, heard_some}

some_turns : (n : ℕ) → 0 < n → wait_while n ≡ waits
some_turns zero more = absurd (none more)
  where
    none : 0 < 0 → ⊥
    none m = omega (arith, m)
some_turns (suc n) more = refl

less_is : (n : ℕ) → one_less n ≡ n - 1
less_is zero = omega arith
less_is (suc n) = omega arith

abbrev waited : Option Arrival → HeardItem
waited arrival = record { answer = Waited arrival; early = false; torn = None }

module _ (store : StoreNow) (h : HeldNow) (settled : h.unreached ≡ []) (turns : 0 < h.turns) where
  next_waits : (rs : List Record) → next_of (session_at (idle store h) rs) ≡ waits
  next_waits rs =
      ap (λ (calls : List CallId). next_idle (session_at (idle store h) rs) (answers_unreached calls)) settled
      ∙ some_turns h.turns turns

  is_next : (arrival : Option Arrival) (rs : List Record) → IsNext (session_at (idle store h) rs) (waited arrival)
  is_next arrival rs =
      record {
        answers = ap (λ (n : Next). is_answer_to n (Waited arrival)) (next_waits rs);
        torn = subst (λ (n : Next). IsTornEmit n (Waited arrival) None) (sym (next_waits rs)) tt;
        early = tt;
      }

  -- what the session is after an arrival
  abbrev after : Arrival → List Record → Session
  after arrival rs = after_arrival (record (session_at (idle store h) rs) { turns = one_less h.turns }) (Some arrival)

  waited_on : (arrival : Arrival) (y : Stage) (x z : Option World) (g k : Option (List Answered)) → y.store ≡ store → ((rs : List Record) → after arrival rs ≡ session_at y rs)
      → Told (Waits arrival) x z → Told (Hears (Waited (Some arrival))) g k → Told (ServesOn (idle store h) y) (outer_of x g) (outer_of z k)
  waited_on arrival y x z g k same leads brought heard =
      told_map (Adds [] (Waited (Some arrival) ∷ [])) (ServesOn (idle store h) y) (outer_of x g) (outer_of z k)
      (λ a b adds. heard_on store (idle store h) y (waited (Some arrival)) [] a b refl same (is_next (Some arrival)) refl leads (λ rs. refl) adds)
      (told_waits arrival x z g k brought heard)

  -- the wait was made, and what it brought isn't taken in
  pub told_waited_some : (failed : Type 0) (arrival : Arrival) (x z : Option World) (g k : Option (List Answered)) → Told (Waits arrival) x z → Told (Hears (Waited (Some arrival))) g k
      → Told (ServesSome failed (idle store h)) (outer_of x g) (outer_of z k)
  told_waited_some failed arrival x z g k brought heard =
      told_map (Adds [] (Waited (Some arrival) ∷ [])) (ServesSome failed (idle store h)) (outer_of x g) (outer_of z k)
      (λ a b adds. heard_some failed (idle store h) (waited (Some arrival)) a b (is_next (Some arrival)) adds)
      (told_waits arrival x z g k brought heard)

  pub told_wait_failed : (failed : Type 0) (x z : Option World) (g k : Option (List Answered)) → Told Same x z → Told (Hears (Waited None)) g k
      → Told (ServesSome failed (idle store h)) (outer_of x g) (outer_of z k)
  told_wait_failed failed x z g k same heard =
      told_map (Adds [] (Waited None ∷ [])) (ServesSome failed (idle store h)) (outer_of x g) (outer_of z k)
      (λ a b adds. heard_some failed (idle store h) (waited None) a b (is_next None) adds)
      (told_unwaited x z g k same heard)

  -- a session with these turns, this time, these clients and these inputs
  abbrev with_these : List Record → ℕ → ℕ → List OpenRequest → List Queued → Session
  with_these rs turns clock readers queue = record (session_at (idle store h) rs) { turns = turns; clock = clock; readers = readers; queue = queue }

  nothing_queued : (first : List Queued) → answers_unreached h.unreached ++ first ≡ first ++ answers_unreached h.unreached
  nothing_queued first =
      ap (λ (calls : List CallId). answers_unreached calls ++ first) settled
      ∙ sym (append-nil first)
      ∙ ap (λ (calls : List CallId). first ++ answers_unreached calls) (sym settled)

  pub told_client : (ch : Channel) (now : HeldNow) (x z : Option World) (g k : Option (List Answered))
      → now ≡ record h { turns = h.turns - 1; clients = h.clients ++ record { ch = ch; bytes = [] } ∷ [] }
      → Told (Waits (Client ch)) x z → Told (Hears (Waited (Some (Client ch)))) g k
      → Told (ServesOn (idle store h) (idle store now)) (outer_of x g) (outer_of z k)
  told_client ch now x z g k is brought heard =
      waited_on (Client ch) (idle store now) x z g k refl
      (λ rs.
      ap (λ (n : ℕ). with_these rs n h.clock (h.clients ++ record { ch = ch; bytes = [] } ∷ []) (answers_unreached h.unreached)) (less_is h.turns)
      ∙ ap (λ (n : HeldNow). session_at (idle store n) rs) (sym is))
      brought heard

  pub told_ready : (ch : Channel) (now : HeldNow) (x z : Option World) (g k : Option (List Answered))
      → now ≡ record h { turns = h.turns - 1 }
      → Told (Waits (Ready ch)) x z → Told (Hears (Waited (Some (Ready ch)))) g k
      → Told (ServesOn (idle store h) (arrived store now ch)) (outer_of x g) (outer_of z k)
  told_ready ch now x z g k is brought heard =
      waited_on (Ready ch) (arrived store now ch) x z g k refl
      (λ rs.
      ap (λ (n : ℕ). record (session_at (arrived store h ch) rs) { turns = n }) (less_is h.turns)
      ∙ ap (λ (n : HeldNow). session_at (arrived store n ch) rs) (sym is))
      brought heard

  pub told_time : (at : ℕ) (now : HeldNow) (x z : Option World) (g k : Option (List Answered))
      → now ≡ record h { turns = h.turns - 1; clock = min at LAST_STAMP }
      → Told (Waits (Time at)) x z → Told (Hears (Waited (Some (Time at)))) g k
      → Told (ServesOn (idle store h) (to_judge store now (unasked input.Time ∷ []))) (outer_of x g) (outer_of z k)
  told_time at now x z g k is brought heard =
      waited_on (Time at) (to_judge store now (unasked input.Time ∷ [])) x z g k refl
      (λ rs.
      ap (λ (n : ℕ). with_these rs n (min at LAST_STAMP) h.clients (answers_unreached h.unreached ++ unasked input.Time ∷ [])) (less_is h.turns)
      ∙ ap (with_these rs (h.turns - 1) (min at LAST_STAMP) h.clients) (nothing_queued (unasked input.Time ∷ []))
      ∙ ap (λ (n : HeldNow). session_at (to_judge store n (unasked input.Time ∷ [])) rs) (sym is))
      brought heard

  pub told_idle : (now : HeldNow) (x z : Option World) (g k : Option (List Answered))
      → now ≡ record h { turns = h.turns - 1 }
      → Told (Waits Idle) x z → Told (Hears (Waited (Some Idle))) g k
      → Told (ServesOn (idle store h) (idle store now)) (outer_of x g) (outer_of z k)
  told_idle now x z g k is brought heard =
      waited_on Idle (idle store now) x z g k refl
      (λ rs.
      ap (λ (n : ℕ). with_these rs n h.clock h.clients (answers_unreached h.unreached)) (less_is h.turns)
      ∙ ap (λ (n : HeldNow). session_at (idle store n) rs) (sym is))
      brought heard

  pub told_end : (now : HeldNow) (x z : Option World) (g k : Option (List Answered))
      → now ≡ record h { turns = 0 }
      → Told (Waits End) x z → Told (Hears (Waited (Some End))) g k
      → Told (ServesOn (idle store h) (idle store now)) (outer_of x g) (outer_of z k)
  told_end now x z g k is brought heard =
      waited_on End (idle store now) x z g k refl (λ rs. ap (λ (n : HeldNow). session_at (idle store n) rs) (sym is)) brought heard

-- no wait is left, and nothing is to be judged: nothing comes next
pub is_over : (store : StoreNow) (h : HeldNow) (rs : List Record) → h.unreached ≡ [] → h.turns ≡ 0 → next_of (session_at (idle store h) rs) ≡ nothing
is_over store h rs settled over =
    ap (λ (calls : List CallId). next_idle (session_at (idle store h) rs) (answers_unreached calls)) settled
    ∙ ap wait_while over
