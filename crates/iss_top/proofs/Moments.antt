-- Each moment of a run on channel 0 that opens a device, whatever it takes and says.
use Rattle.std.proofs.Common.{ℕ, List, [], ◌++◌, refl, sym, ap, ◌∙◌}
use Rattle.iss_edge.specs.World.{World}
use Rattle.iss_edge.specs.Stretches.{with_levels}
use Rattle.iss_model.specs.declared.input.Record.{Record}
use Rattle.iss_model.specs.rules.Histories.{IsLegal}
use Rattle.iss_model.specs.run.Transcripts.{Text}
use Rattle.iss_halves.specs.Forms.{Form, Seat}
use Rattle.iss_opening.specs.Values.{StoreNow, form_under, seat_under}
use Rattle.iss_standing.specs.Standing.{DeviceStandsFor}
use Rattle.iss_standing.specs.Goings.{AreFirstOf}
use Rattle.iss_opening.specs.Opening.{OpensGood, OpenedAs}
use Rattle.iss_standing.proofs.Bodies.{first_self}
use Rattle.iss_standing.proofs.Few.{few_stand}
use Rattle.iss_device.proofs.Firmly.{stops_stand}
use Rattle.iss_device.proofs.Moments.{opening_on_device, opening_is, opening_gate, trace_opened, not_opened_moments, not_opened_unsynced, trace_behind, opened_moments, opened_unsynced}
use Rattle.iss_top.specs.Replaying.{levels_of, TextsGoPart}
use Rattle.iss_top.specs.Replays.{MomentsOf}
use Rattle.iss_top.proofs.Beginnings.{levels_behind}
use Rattle.iss_top.proofs.Goings.{part_levels}

-- a run that ended with its opening
pub moments_unopened : (form : Form) (seat : Seat) (rs more : List Record) (texts : List Text) (a b : World) → OpensGood a b → DeviceStandsFor form seat rs a.device → IsLegal (rs ++ more) → MomentsOf form rs (rs ++ more) texts a b
moments_unopened form seat rs more texts a b good stands legal =
    record {
      opening = with_levels 0 good.added;
      later = [];
      opening_alone = opening_on_device good.added good.on_device;
      opening_is = opening_is good.added good.syncs;
      opening_gate = opening_gate form rs a b good;
      grew = trace_opened a b good;
      legal = legal;
      made = rs;
      more = first_self rs;
      first = record { later = more; cut = refl };
      history = stands.history;
      levels = (levels_of texts, ap (λ (l : List ℕ). l ++ levels_of texts) (sym (levels_behind good.added [] good.on_device)));
      synced = tt;
      each = not_opened_moments form seat rs a b good stands;
      unsynced = not_opened_unsynced form seat rs a b good stands;
      stops =
          stops_stand form rs rs a.device (first_self rs) stands.history stands.few (with_levels 0 good.added) [] (not_opened_unsynced form seat rs a b good stands);
    }

-- a run on the store that was opened
pub moments_opened : (failed : Type 0) (form : Form) (seat : Seat) (rs all rs' : List Record) (texts : List Text) (s : StoreNow) (a b d : World) → OpenedAs s a b → DeviceStandsFor form seat rs a.device → IsLegal all → AreFirstOf rs' all → TextsGoPart failed (form_under s) (seat_under s) rs rs' texts b d
    → MomentsOf form rs all texts a d
moments_opened failed form seat rs all rs' texts s a b d opening stands legal first goes =
    record {
      opening = with_levels 0 opening.good.added;
      later = goes.part.steps;
      opening_alone = opening_on_device opening.good.added opening.good.on_device;
      opening_is = opening_is opening.good.added opening.good.syncs;
      opening_gate = opening_gate form rs a b opening.good;
      grew = trace_behind form seat rs s a b opening stands d goes.part.steps goes.part.grew;
      legal = legal;
      made = rs';
      more = goes.part.more;
      first = first;
      history = goes.part.history stands.history;
      levels = (
        goes.levels.0,
        part_levels (form_under s) (seat_under s) rs rs' texts b d failed goes
            ∙ ap (λ (l : List ℕ). l ++ goes.levels.0) (sym (levels_behind opening.good.added goes.part.steps opening.good.on_device)),
      );
      synced = goes.part.synced;
      each = opened_moments form seat rs s a b opening stands rs' goes.said d goes.part;
      unsynced = opened_unsynced form seat rs s a b opening stands rs' goes.said d goes.part;
      stops =
          stops_stand form rs rs' a.device goes.part.more (goes.part.history stands.history) (λ halved. goes.part.few (few_stand form seat rs a.device stands))
          (with_levels 0 opening.good.added) goes.part.steps
          (opened_unsynced form seat rs s a b opening stands rs' goes.said d goes.part);
    }
