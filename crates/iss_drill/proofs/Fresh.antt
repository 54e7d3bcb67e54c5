-- A store that was opened on a device which was just formatted stands for no records.
use Rattle.std.proofs.Common.{◌≡◌, ℕ, List, [], length, refl, sym, ap, subst, arith}
use Rattle.std.specs.Prelude.{Option, Some, None, Ok, IsSomeAnd}
use Rattle.iss_edge.specs.World.{World, Told}
use Rattle.iss_journal.specs.Region.{Shows}
use Rattle.iss_journal.specs.Formatting.{whole_device, Formats}
use Rattle.iss_journal.proofs.Closings.{shows_closed}
use Rattle.iss_halves.specs.Forms.{Form}
use Rattle.iss_standing.specs.Standing.{DeviceStandsFor}
use Rattle.iss_opening.specs.Values.{StoreNow}
use Rattle.iss_opening.specs.Standing.{IsOpenedOn}
use Rattle.iss_opening.specs.Opening.{Opens, OpensStore}
use Rattle.iss_opening.proofs.Stores.{opened_stand}
use Rattle.iss_drill.specs.Drills.{drill_form, drill_seat}

-- a device that was just formatted stands for no records
formatted_stands : (a b : World) → Formats 0 a b → DeviceStandsFor (drill_form (length b.device)) drill_seat [] b.device
formatted_stands a b formats =
    record {
      form_is =
          record {
            least = formats.instance_is.size.least;
            least_halves = λ e. cc;
            most = formats.instance_is.size.most;
            small = formats.instance_is.small;
          };
      size = refl;
      history = record { legal = tt; spelled = refl };
      few = λ e. cc;
      low = omega arith;
      shows = (
        refl,
        subst (λ (n : ℕ). Shows (whole_device 0 n) [] b.device) (sym formats.shows.ends.whole) (shows_closed (whole_device 0 (length a.device)) [] b.device formats.shows),
      );
    }

opened_empty : (s : StoreNow) (a b : World) → Formats 0 a b → OpensStore s b.device → IsOpenedOn (drill_form s.layout.size) drill_seat [] s
opened_empty s a b formats opens =
    let opened : IsOpenedOn (drill_form (length b.device)) drill_seat [] s =
    opened_stand s b.device (drill_form (length b.device)) drill_seat [] opens (formatted_stands a b formats) in
    subst (λ (n : ℕ). IsOpenedOn (drill_form n) drill_seat [] s) (sym (ap (λ (form : Form). form.size) opened.form_is)) opened

pub opened_fresh : (s : StoreNow) (x y z : Option World) (bytes : List ℕ) → Told (Formats 0) x y → Told (Opens (Ok s)) y z → IsSomeAnd z (λ world. bytes ≡ world.device) → IsOpenedOn (drill_form s.layout.size) drill_seat [] s
opened_fresh s (Some a) (Some b) (Some d) bytes formats opens there = opened_empty s a b formats opens
opened_fresh s None (Some b) (Some d) bytes formats opens there = absurd formats
opened_fresh s x None (Some d) bytes formats opens there = absurd opens
opened_fresh s x y None bytes formats opens there = absurd there
