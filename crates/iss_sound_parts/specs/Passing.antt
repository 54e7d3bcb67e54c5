-- The test of counters.
use Rattle.std.specs.Prelude.{ℕ, ◌+◌, ◌-◌, ◌*◌, nat_le, Bool, ◌&&◌, List}
use Rattle.std.specs.List.{list_all}
use Rattle.iss_model.specs.declared.counted.Counter.{Counter}
use Rattle.iss_noticed.specs.Commitments.{most_of_records}
use Rattle.iss_known.specs.Known.{KnownNow}
use Rattle.iss_sound_parts.specs.declared.totals.Open.{Open}
use Rattle.iss_sound_parts.specs.Groups.{is_group_sound, stand_in_groups}
use Rattle.iss_sound_parts.specs.Limits.{is_within}

-- Asked calls and live transactions are no more than three for each record. Each counter is between its bounds. The counters
-- stand in groups, and each group is sound. It has no more counters than are left of three for each record.
abbrev pub do_counters_pass : KnownNow → Open → ℕ → List Counter → Bool
do_counters_pass known o records ks =
    nat_le (o.asked + o.live) (3 * records)
    && (list_all (is_within o.amount (most_of_records records) o.asked records) ks
    && stand_in_groups (is_group_sound known (3 * records - (o.asked + o.live))) known.controls ks)
