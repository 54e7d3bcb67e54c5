-- Parts of a run, one after the other, and those that write nothing.
use Rattle.std.proofs.Common.{◌≡◌, ℕ, ◌+◌, ◌*◌, ◌-◌, ◌/◌, ◌≤◌, Bool, cond, not, List, [], ◌∷◌, ◌++◌, length, refl, sym, ap, subst, ◌∙◌, append_assoc, append-nil, arith}
use Rattle.std.proofs.lemmas.List.Elements.{filter-append}
use Rattle.iss_edge.specs.declared.outside.Action.{Action}
use Rattle.iss_edge.specs.World.{World}
use Rattle.iss_edge.specs.Puts.{Put, actions_of_puts, Ran}
use Rattle.iss_edge.specs.Disk.{Disk, IsAtRest, after_actions, disk_at_rest}
use Rattle.iss_edge.specs.Stretches.{Step, actions_of, sent_level, is_still, AreStill, SentUpTo}
use Rattle.iss_edge.proofs.PutLemmas.{ran_all, ran_then, actions_of_puts-append}
use Rattle.iss_edge.proofs.StretchLemmas.{join, join_on, actions_of-append, after_both, still_after, still_goes_on}
use Rattle.iss_halves.specs.Forms.{Form, Seat}
use Rattle.iss_model.specs.declared.input.Record.{Record}
use Rattle.iss_standing.specs.Standing.{RestsAt, StandsAt}
use Rattle.iss_standing.specs.Writes.{device_actions, record_puts, seat_then, records_puts, seat_past}
use Rattle.iss_standing.specs.Counts.{total, synced_of, SyncedTwice}
use Rattle.iss_standing.specs.Goings.{AreFirstOf, channel_steps, LeavesDevice, StepsGo, StepsGoPart, TextsWaitForSyncs}
use Rattle.iss_standing.proofs.Bodies.{first_self, first_then}
use Rattle.iss_standing.proofs.Holds.{rests_first, rests_stand}
use Rattle.iss_standing.proofs.Synced.{sent_synced, both_synced, synced_before}

trace_append : (a b c : World) (x y : List Step) → b.trace ≡ a.trace ++ actions_of x → c.trace ≡ b.trace ++ actions_of y → c.trace ≡ a.trace ++ actions_of (x ++ y)
trace_append a b c x y e f =
    f ∙ ap (λ (t : List Action). t ++ actions_of y) e
    ∙ append_assoc a.trace (actions_of x) (actions_of y)
    ∙ ap (λ (t : List Action). a.trace ++ t) (sym (actions_of-append x y))

pub channels_then : (x y : List Step) → channel_steps (x ++ y) ≡ channel_steps x ++ channel_steps y
channels_then x y = filter-append (λ (step : Step). is_still step.action) x y

leaves_then : (s t : List Step) (a b c : World) → LeavesDevice s a b → LeavesDevice t b c → LeavesDevice (s ++ t) a c
leaves_then s t a b c f g =
    record {
      leaves = λ d is. ap (λ (x : Disk). x.bytes) (after_both d s t) ∙ g.leaves (after_actions d (actions_of s)) (f.leaves d is);
    }

-- ---- the work on the device

device_then : (x y : List Step) → device_actions (actions_of (x ++ y)) ≡ device_actions (actions_of x) ++ device_actions (actions_of y)
device_then x y = ap device_actions (actions_of-append x y) ∙ filter-append (λ (action : Action). not (is_still action)) (actions_of x) (actions_of y)

-- what is done on channels is no work on the device
pub no_work : (actions : List Action) → AreStill actions → device_actions actions ≡ []
no_work [] still = refl
no_work (action ∷ actions) still =
    ap (λ (b : Bool). cond (not b) (action ∷ device_actions actions) (device_actions actions)) still.0 ∙ no_work actions still.1

-- the puts of records, and then of more
pub puts_past : (form : Form) (seat : Seat) (rs xs ys : List Record) → records_puts form seat rs (xs ++ ys) ≡ records_puts form seat rs xs ++ records_puts form (seat_past form seat rs xs) (rs ++ xs) ys
puts_past form seat rs [] ys = ap (λ (l : List Record). records_puts form seat l ys) (sym (append-nil rs))
puts_past form seat rs (x ∷ xs) ys =
    let next = seat_then form seat rs x in
    let more = rs ++ x ∷ [] in
    ap (λ (l : List Put). record_puts form seat rs x ++ l) (puts_past form next more xs ys)
    ∙ sym (append_assoc (record_puts form seat rs x) (records_puts form next more xs) (records_puts form (seat_past form next more xs) (more ++ xs) ys))
    ∙ ap (λ (l : List Record). (record_puts form seat rs x ++ records_puts form next more xs) ++ records_puts form (seat_past form next more xs) l ys) (append_assoc rs (x ∷ []) xs)

pub seats_past : (form : Form) (seat : Seat) (rs xs ys : List Record) → seat_past form seat rs (xs ++ ys) ≡ seat_past form (seat_past form seat rs xs) (rs ++ xs) ys
seats_past form seat rs [] ys = ap (λ (l : List Record). seat_past form seat l ys) (sym (append-nil rs))
seats_past form seat rs (x ∷ xs) ys =
    let next = seat_then form seat rs x in
    let more = rs ++ x ∷ [] in
    seats_past form next more xs ys ∙ ap (λ (l : List Record). seat_past form (seat_past form next more xs) l ys) (append_assoc rs (x ∷ []) xs)

-- the puts of what came later, begun where the first records led
module _ (form : Form) (x y : Seat) (rs rs' rs'' : List Record) (f : AreFirstOf rs rs') (g : AreFirstOf rs' rs'') (reached : y ≡ seat_past form x rs f.later) where
  both_puts : records_puts form x rs (f.later ++ g.later) ≡ records_puts form x rs f.later ++ records_puts form y rs' g.later
  both_puts =
      puts_past form x rs f.later g.later
      ∙ ap (λ (s : Seat). records_puts form x rs f.later ++ records_puts form s (rs ++ f.later) g.later) (sym reached)
      ∙ ap (λ (l : List Record). records_puts form x rs f.later ++ records_puts form y l g.later) (sym f.cut)

  both_reach : (z : Seat) → z ≡ seat_past form y rs' g.later → z ≡ seat_past form x rs (f.later ++ g.later)
  both_reach z is =
      is
      ∙ ap (λ (s : Seat). seat_past form s rs' g.later) reached
      ∙ ap (λ (l : List Record). seat_past form (seat_past form x rs f.later) l g.later) f.cut
      ∙ sym (seats_past form x rs f.later g.later)

module _ (form : Form) where
  -- ---- one after the other

  pub goes_then : (x y z : Seat) (rs rs' rs'' : List Record) (t u : List Step) (a b c : World) → StepsGo form x y rs rs' t a b → StepsGo form y z rs' rs'' u b c → StepsGo form x z rs rs'' (t ++ u) a c
  goes_then x y z rs rs' rs'' t u a b c f g =
      record {
        more = first_then rs rs' rs'' f.more g.more;
        steps = f.steps ++ g.steps;
        grew = trace_append a b c f.steps g.steps f.grew g.grew;
        done = channels_then f.steps g.steps ∙ ap (λ (l : List Step). l ++ channel_steps g.steps) f.done ∙ ap (λ (l : List Step). t ++ l) g.done;
        goes_on =
            λ all first.
            join_on (RestsAt form x all) (StandsAt form all) (RestsAt form y all) (RestsAt form z all) (length rs) (length rs') (length rs'') f.steps g.steps
            (f.goes_on all (first_then rs' rs'' all g.more first)) (g.goes_on all first);
        leaves = leaves_then f.steps g.steps a b c f.leaves g.leaves;
        history = λ h. g.history (f.history h);
        few = λ n. g.few (f.few n);
        made =
            device_then f.steps g.steps
            ∙ ap (λ (l : List Action). l ++ device_actions (actions_of g.steps)) f.made
            ∙ ap (λ (l : List Action). actions_of_puts (records_puts form x rs f.more.later) ++ l) g.made
            ∙ sym (actions_of_puts-append (records_puts form x rs f.more.later) (records_puts form y rs' g.more.later))
            ∙ ap actions_of_puts (sym (both_puts form x y rs rs' rs'' f.more g.more f.reached));
        reached = both_reach form x y rs rs' rs'' f.more g.more f.reached z g.reached;
        synced = both_synced form x rs rs' f.steps g.steps f.more f.made f.synced g.synced;
      }

  pub goes_then_part : (x y : Seat) (rs rs' rs'' : List Record) (t u : List Step) (a b c : World) → StepsGo form x y rs rs' t a b → StepsGoPart form y rs' rs'' u b c → StepsGoPart form x rs rs'' (t ++ u) a c
  goes_then_part x y rs rs' rs'' t u a b c f g =
      record {
        more = first_then rs rs' rs'' f.more g.more;
        steps = f.steps ++ g.steps;
        grew = trace_append a b c f.steps g.steps f.grew g.grew;
        done = channels_then f.steps g.steps ∙ ap (λ (l : List Step). l ++ channel_steps g.steps) f.done ∙ ap (λ (l : List Step). t ++ l) g.done;
        good =
            λ all first.
            join (RestsAt form x all) (StandsAt form all) (RestsAt form y all) (length rs) (length rs') (length rs'') f.steps g.steps
            (f.goes_on all (first_then rs' rs'' all g.more first)) (g.good all first);
        history = λ h. g.history (f.history h);
        few = λ n. g.few (f.few n);
        made =
            subst (λ (l : List Action). Ran (records_puts form x rs (f.more.later ++ g.more.later)) l)
            (sym (device_then f.steps g.steps ∙ ap (λ (l : List Action). l ++ device_actions (actions_of g.steps)) f.made))
            (subst (λ (p : List Put). Ran p (actions_of_puts (records_puts form x rs f.more.later) ++ device_actions (actions_of g.steps)))
            (sym (both_puts form x y rs rs' rs'' f.more g.more f.reached))
            (ran_then (records_puts form x rs f.more.later) (records_puts form y rs' g.more.later) (device_actions (actions_of g.steps)) g.made));
        synced = both_synced form x rs rs' f.steps g.steps f.more f.made f.synced g.synced;
      }

  -- what goes on is good
  unfoldable pub goes_part : (x y : Seat) (rs rs' : List Record) (t : List Step) (a b : World) → StepsGo form x y rs rs' t a b → StepsGoPart form x rs rs' t a b
  goes_part x y rs rs' t a b f =
      record {
        more = f.more;
        steps = f.steps;
        grew = f.grew;
        done = f.done;
        good = λ all first. (f.goes_on all first).good;
        history = f.history;
        few = f.few;
        made = subst (λ (l : List Action). Ran (records_puts form x rs f.more.later) l) (sym f.made) (ran_all (records_puts form x rs f.more.later));
        synced = f.synced;
      }

  -- what neither does anything nor changes the device
  unfoldable pub goes_still : (x y : Seat) (rs rs' : List Record) (t : List Step) (a b c : World) → StepsGo form x y rs rs' t a b → c.device ≡ b.device → c.trace ≡ b.trace → StepsGo form x y rs rs' t a c
  goes_still x y rs rs' t a b c f device trace =
      record {
        more = f.more;
        steps = f.steps;
        grew = trace ∙ f.grew;
        done = f.done;
        goes_on = f.goes_on;
        leaves = record { leaves = λ d is. f.leaves.leaves d is ∙ sym device };
        history = f.history;
        few = f.few;
        made = f.made;
        reached = f.reached;
        synced = f.synced;
      }

  -- ---- what is said alone

  pub on_channels : (steps : List Step) → AreStill (actions_of steps) → channel_steps steps ≡ steps
  on_channels [] still = refl
  on_channels (step ∷ steps) still =
      ap (λ (b : Bool). cond b (step ∷ channel_steps steps) (channel_steps steps)) still.0
      ∙ ap (λ (l : List Step). step ∷ l) (on_channels steps still.1)

  unfoldable pub still_goes : (x : Seat) (rs : List Record) (steps : List Step) (a b : World) → AreStill (actions_of steps) → SentUpTo (length rs) steps → b.device ≡ a.device → b.trace ≡ a.trace ++ actions_of steps → StepsGo form x x rs rs steps a b
  still_goes x rs steps a b still sent device trace =
      record {
        more = first_self rs;
        steps = steps;
        grew = trace;
        done = on_channels steps still;
        goes_on = λ all first. still_goes_on (RestsAt form x all) (StandsAt form all) (length rs) steps (λ bytes rests. rests_stand form x all bytes (length rs) rests) still sent;
        leaves = record { leaves = λ d is. ap (λ (x : Disk). x.bytes) (still_after d (actions_of steps) still) ∙ is ∙ sym device };
        history = λ h. h;
        few = λ n. n;
        made = no_work (actions_of steps) still;
        reached = refl;
        synced = sent_synced 0 (length rs) steps sent;
      }

  unfoldable pub nothing_goes : (x : Seat) (rs : List Record) (a : World) → StepsGo form x x rs rs [] a a
  nothing_goes x rs a = still_goes x rs [] a a tt tt refl (sym (append-nil a.trace))

  -- ---- where the run ends

  -- a device that stood at the records of the start stands at those of the end
  pub goes_rests : (x y : Seat) (rs rs' : List Record) (t : List Step) (a b : World) → StepsGo form x y rs rs' t a b → RestsAt form x rs a.device (length rs) → RestsAt form y rs' b.device (length rs')
  goes_rests x y rs rs' t a b f start =
      let d = disk_at_rest a.device in
      let calm : IsAtRest d = record { settled = λ place. refl } in
      subst (λ (l : List ℕ). RestsAt form y rs' l (length rs')) (f.leaves.leaves d refl)
      ((f.goes_on rs' (first_self rs')).rest d calm (rests_first form x rs rs' a.device f.more start))

-- ---- before each text

pub texts_wait_for_syncs : TextsWaitForSyncs
texts_wait_for_syncs form from rs rs' said a b goes before rest step cut =
    let most : sent_level step.action step.level ≤ length rs + (0 + total synced_of (actions_of before)) / 2 =
    synced_before 0 (length rs) before rest step (subst (λ (l : List Step). SyncedTwice 0 (length rs) l) cut goes.synced) in
    twice (sent_level step.action step.level) (length rs) (total synced_of (actions_of before)) most
  where
    twice : (sent level syncs : ℕ) → sent ≤ level + (0 + syncs) / 2 → 2 * (sent - level) ≤ syncs
    twice sent level syncs most = omega (arith, most)
