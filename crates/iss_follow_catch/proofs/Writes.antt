-- What was written after an opening: the puts of the records that were committed.
use Rattle.std.proofs.Common.{◌≡◌, Bool, true, false, cond, not, List, [], ◌∷◌, ◌++◌, refl, sym, ap, subst, ◌∙◌, append_assoc}
use Rattle.std.proofs.lemmas.List.{append_cancel_left}
use Rattle.iss_edge.specs.declared.outside.Action.{Action}
use Rattle.iss_edge.specs.World.{World}
use Rattle.iss_edge.specs.Puts.{Put, actions_of_puts, Ran}
use Rattle.iss_edge.specs.Stretches.{Step, actions_of, is_still}
use Rattle.iss_edge.proofs.PutLemmas.{ran_more}
use Rattle.iss_edge.proofs.StretchLemmas.{actions_of-append}
use Rattle.iss_halves.specs.Forms.{Form, Seat}
use Rattle.iss_model.specs.declared.input.Record.{Record}
use Rattle.iss_standing.specs.Standing.{DeviceStandsFor}
use Rattle.iss_standing.specs.Goings.{channel_steps, AreFirstOf, StepsGo, StepsGoPart}
use Rattle.iss_standing.specs.Writes.{device_actions, records_puts, seat_past}
use Rattle.iss_standing.proofs.Goings.{puts_past}
use Rattle.iss_standing.proofs.Rewritten.{same_room_puts}
use Rattle.iss_opening.specs.Values.{StoreNow, form_under, seat_under}
use Rattle.iss_opening.specs.Standing.{IsOpenedOn}
use Rattle.iss_opening.specs.Opening.{OpenedAs}
use Rattle.iss_opening.proofs.Stores.{opened_stand}
use Rattle.iss_follow_runs.specs.Moments.{MomentsOf}
use Rattle.iss_follow_catch.specs.Writing.{Wrote, WrotePart}

-- ---- if nothing is done on channels, all is work on the device

work_first : (step : Step) (steps : List Step) (b : Bool) → (channel_steps steps ≡ [] → device_actions (actions_of steps) ≡ actions_of steps) → cond b (step ∷ channel_steps steps) (channel_steps steps) ≡ []
    → cond (not b) (step.action ∷ device_actions (actions_of steps)) (device_actions (actions_of steps)) ≡ step.action ∷ actions_of steps
work_first step steps true rest none = absurd cc
work_first step steps false rest none = ap (λ (l : List Action). step.action ∷ l) (rest none)

all_work : (steps : List Step) → channel_steps steps ≡ [] → device_actions (actions_of steps) ≡ actions_of steps
all_work [] none = refl
all_work (step ∷ steps) none = work_first step steps (is_still step.action) (all_work steps) none

-- ---- nothing but the opening was done

module _ (form : Form) (seat : Seat) (rs : List Record) (c d : World) (alone : (moments : MomentsOf form rs rs c d) × (moments.later ≡ [])) where
  opening_alone : d.trace ≡ c.trace ++ (actions_of alone.0.opening ++ [])
  opening_alone =
      alone.0.grew
      ∙ ap (λ (l : List Action). c.trace ++ l)
      (actions_of-append alone.0.opening alone.0.later ∙ ap (λ (l : List Step). actions_of alone.0.opening ++ actions_of l) alone.1)

  pub alone_wrote : Wrote form seat rs [] c d
  alone_wrote =
      record { opening = actions_of alone.0.opening; opening_is = alone.0.opening_is; opening_gate = alone.0.opening_gate; grew = opening_alone }

pub alone_part : (form : Form) (seat : Seat) (rs later : List Record) (c d : World) → (moments : MomentsOf form rs rs c d) × (moments.later ≡ []) → WrotePart form seat rs later c d
alone_part form seat rs later c d alone =
    let wrote = alone_wrote form seat rs c d alone in
    record { opening = wrote.opening; opening_is = wrote.opening_is; opening_gate = wrote.opening_gate; made = []; ran = tt; grew = wrote.grew }

-- ---- records were committed after it

module _ (t : StoreNow) (c d e : World) (opened : OpenedAs t c d) (form : Form) (seat : Seat) (rs : List Record) (stands : DeviceStandsFor form seat rs c.device) where
  -- the puts on the store are those on the device
  same_puts : (later : List Record) → records_puts (form_under t) (seat_under t) rs later ≡ records_puts form seat rs later
  same_puts later =
      let on : IsOpenedOn form seat rs t = opened_stand t c.device form seat rs opened.opens stands in
      same_room_puts (form_under t) form (seat_under t) seat rs later on.form_is on.room_is

  done_after : (steps : List Step) → e.trace ≡ d.trace ++ actions_of steps → e.trace ≡ c.trace ++ (opened.good.added ++ actions_of steps)
  done_after steps grew =
      grew ∙ ap (λ (l : List Action). l ++ actions_of steps) opened.good.grew ∙ append_assoc c.trace opened.good.added (actions_of steps)

  pub wrote_part : (made : List Record) (part : StepsGoPart (form_under t) (seat_under t) rs made [] d e) → WrotePart form seat rs part.more.later c e
  wrote_part made part =
      record {
        opening = opened.good.added;
        opening_is = opened.good.syncs;
        opening_gate = opened.good.gate form rs;
        made = actions_of part.steps;
        ran =
            subst (λ (l : List Action). Ran (records_puts form seat rs part.more.later) l) (all_work part.steps part.done)
            (subst (λ (p : List Put). Ran p (device_actions (actions_of part.steps))) (same_puts part.more.later) part.made);
        grew = done_after part.steps part.grew;
      }

  pub wrote_whole : (to : Seat) (later : List Record) → StepsGo (form_under t) (seat_under t) to rs (rs ++ later) [] d e → Wrote form seat rs later c e
  wrote_whole to later goes =
      let same : goes.more.later ≡ later = append_cancel_left rs goes.more.later later (sym goes.more.cut) in
      record {
        opening = opened.good.added;
        opening_is = opened.good.syncs;
        opening_gate = opened.good.gate form rs;
        grew =
            done_after goes.steps goes.grew
            ∙ ap (λ (l : List Action). c.trace ++ (opened.good.added ++ l))
            (sym (all_work goes.steps goes.done)
            ∙ goes.made
            ∙ ap (λ (l : List Record). actions_of_puts (records_puts (form_under t) (seat_under t) rs l)) same
            ∙ ap actions_of_puts (same_puts later));
      }

  -- and those were the first ones of these
  pub wrote_first : (first records : List Record) → AreFirstOf first records → StepsGoPart (form_under t) (seat_under t) rs (rs ++ first) [] d e → WrotePart form seat rs records c e
  wrote_first first records begin part =
      let wrote = wrote_part (rs ++ first) part in
      let same : part.more.later ≡ first = append_cancel_left rs part.more.later first (sym part.more.cut) in
      let puts : records_puts form seat rs records ≡ records_puts form seat rs first ++ records_puts form (seat_past form seat rs first) (rs ++ first) begin.later =
      ap (records_puts form seat rs) begin.cut ∙ puts_past form seat rs first begin.later in
      record {
        opening = wrote.opening;
        opening_is = wrote.opening_is;
        opening_gate = wrote.opening_gate;
        made = wrote.made;
        ran =
            subst (λ (p : List Put). Ran p wrote.made) (sym puts)
            (ran_more (records_puts form seat rs first) (records_puts form (seat_past form seat rs first) (rs ++ first) begin.later) wrote.made
            (subst (λ (l : List Record). Ran (records_puts form seat rs l) wrote.made) same wrote.ran));
        grew = wrote.grew;
      }
