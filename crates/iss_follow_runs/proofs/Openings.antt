-- A run on a device that was opened: each moment of it, and where it ends.
use Rattle.std.proofs.Common.{inl, inr, List, [], ◌++◌, length, refl, sym, ap, subst, ◌∙◌, append_assoc}
use Rattle.iss_edge.specs.declared.outside.Action.{Action}
use Rattle.iss_edge.specs.World.{World}
use Rattle.iss_edge.specs.Calls.{Same}
use Rattle.iss_edge.specs.Stretches.{Step, actions_of, with_levels}
use Rattle.iss_halves.specs.Forms.{Form, Seat}
use Rattle.iss_model.specs.declared.input.Record.{Record}
use Rattle.iss_standing.specs.Standing.{DeviceStandsFor}
use Rattle.iss_standing.specs.Goings.{StepsGo, StepsGoPart}
use Rattle.iss_standing.proofs.Bodies.{first_self}
use Rattle.iss_standing.proofs.Few.{few_stand}
use Rattle.iss_standing.proofs.Goings.{goes_part, goes_still, still_goes, nothing_goes}
use Rattle.iss_opening.specs.Values.{StoreNow, form_under, seat_under}
use Rattle.iss_opening.specs.Opening.{OpensGood, OpenedAs, ReadsAlone}
use Rattle.iss_device.proofs.Devices.{rests_stands}
use Rattle.iss_device.proofs.Firmly.{stops_stand}
use Rattle.iss_device.proofs.Moments.{opening_on_device, opening_is, opening_gate, trace_opened, not_opened_moments, not_opened_unsynced, trace_behind, opened_moments, opened_unsynced, rests_now, ends_at_rest}
use Rattle.iss_follow_runs.specs.Moments.{MomentsOf, KeepsMoments, IsLineAt, TellsMoments, EndsWith, KeepsRecords, EndsKept}

-- ---- what holds of a run that tells nothing

-- it may be said to tell a line
pub keeps_tells : (a b : World) → KeepsMoments a b → TellsMoments a b
keeps_tells a b keeps form seat rs stands =
    let m = keeps form seat rs stands in
    (m.0, subst (λ (l : List Step). IsLineAt (length rs) l) (sym m.1) tt)

-- it ended where the next one begins, if nothing was done but maybe a sync, or if its records stand
pub ends_alone : (a b : World) → ReadsAlone a b → EndsKept a b
ends_alone a b reads form seat rs stands = inl reads

pub ends_kept : (a b : World) → KeepsRecords a b → EndsKept a b
ends_kept a b keeps form seat rs stands = inr (keeps form seat rs stands)

-- ---- a run that ended with its opening

pub moments_unopened : (a b : World) → OpensGood a b → KeepsMoments a b
moments_unopened a b good form seat rs stands =
    let moments : MomentsOf form rs rs a b = record {
      opening = with_levels 0 good.added;
      later = [];
      opening_alone = opening_on_device good.added good.on_device;
      opening_is = opening_is good.added good.syncs;
      opening_gate = opening_gate form rs a b good;
      grew = trace_opened a b good;
      more = first_self rs;
      history = stands.history;
      each = not_opened_moments form seat rs a b good stands;
      unsynced = not_opened_unsynced form seat rs a b good stands;
      stops =
          stops_stand form rs rs a.device (first_self rs) stands.history stands.few (with_levels 0 good.added) [] (not_opened_unsynced form seat rs a b good stands);
    } in
    (moments, refl)

-- ---- a run on the store that was opened

module _ (form : Form) (seat : Seat) (rs : List Record) (s : StoreNow) (a b d : World) (opening : OpenedAs s a b) (stands : DeviceStandsFor form seat rs a.device) where
  unfoldable pub moments_part : (made : List Record) (said : List Step) → StepsGoPart (form_under s) (seat_under s) rs made said b d → MomentsOf form rs made a d
  moments_part made said part =
      record {
        opening = with_levels 0 opening.good.added;
        later = part.steps;
        opening_alone = opening_on_device opening.good.added opening.good.on_device;
        opening_is = opening_is opening.good.added opening.good.syncs;
        opening_gate = opening_gate form rs a b opening.good;
        grew = trace_behind form seat rs s a b opening stands d part.steps part.grew;
        more = part.more;
        history = part.history stands.history;
        each = opened_moments form seat rs s a b opening stands made said d part;
        unsynced = opened_unsynced form seat rs s a b opening stands made said d part;
        stops =
            stops_stand form rs made a.device part.more (part.history stands.history) (λ halved. part.few (few_stand form seat rs a.device stands))
            (with_levels 0 opening.good.added) part.steps
            (opened_unsynced form seat rs s a b opening stands made said d part);
      }

  pub ends_so : (to : Seat) (made : List Record) (said : List Step) → StepsGo (form_under s) (seat_under s) to rs made said b d → EndsWith form rs made a d
  ends_so to made said goes =
      record {
        seat = to;
        stands =
            rests_stands form to made d.device stands.form_is (goes.history stands.history) (λ halved. goes.few (few_stand form seat rs a.device stands))
            (rests_now form seat rs s a b opening stands to made said d goes);
        actions = opening.good.added ++ actions_of goes.steps;
        grew =
            goes.grew
            ∙ ap (λ (l : List Action). l ++ actions_of goes.steps) opening.good.grew
            ∙ append_assoc a.trace opening.good.added (actions_of goes.steps);
        ends = ends_at_rest form seat rs s a b opening stands to made said d goes;
      }

-- and that does no more than the opening
pub moments_opened : (s : StoreNow) (a b : World) → OpenedAs s a b → KeepsMoments a b
unfolding moments_part goes_part nothing_goes still_goes
moments_opened s a b opening form seat rs stands =
    let still : StepsGo (form_under s) (seat_under s) (seat_under s) rs rs [] b b = nothing_goes (form_under s) (seat_under s) rs b in
    (moments_part form seat rs s a b b opening stands rs [] (goes_part (form_under s) (seat_under s) (seat_under s) rs rs [] b b still), refl)

pub ends_opened : (s : StoreNow) (a b : World) → OpenedAs s a b → KeepsRecords a b
ends_opened s a b opening form seat rs stands =
    ends_so form seat rs s a b b opening stands (seat_under s) rs [] (nothing_goes (form_under s) (seat_under s) rs b)

-- and what came after the opening changed nothing
pub moments_still : (s : StoreNow) (a b d : World) → OpenedAs s a b → Same b d → KeepsMoments a d
unfolding moments_part goes_part goes_still nothing_goes still_goes
moments_still s a b d opening same form seat rs stands =
    let f = form_under s in
    let x = seat_under s in
    let still : StepsGo f x x rs rs [] b d = goes_still f x x rs rs [] b b d (nothing_goes f x rs b) same.device same.trace in
    (moments_part form seat rs s a b d opening stands rs [] (goes_part f x x rs rs [] b d still), refl)

pub ends_still : (s : StoreNow) (a b d : World) → OpenedAs s a b → Same b d → KeepsRecords a d
ends_still s a b d opening same form seat rs stands =
    let f = form_under s in
    let x = seat_under s in
    ends_so form seat rs s a b d opening stands x rs [] (goes_still f x x rs rs [] b b d (nothing_goes f x rs b) same.device same.trace)

-- ---- the device that was opened

pub stands_still : (s : StoreNow) (a b : World) (form : Form) (seat : Seat) (rs : List Record) → OpenedAs s a b → DeviceStandsFor form seat rs a.device → DeviceStandsFor form (seat_under s) rs b.device
stands_still s a b form seat rs opening stands =
    rests_stands form (seat_under s) rs b.device stands.form_is stands.history stands.few (opening.going.rests form seat rs stands)
