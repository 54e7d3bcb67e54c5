-- What a line leaves and is told, as a call answers it.
use Rattle.std.specs.Prelude.{◌≡◌}
use Rattle.std.specs.List.{flat_map}
use Rattle.iss_model.specs.declared.input.Record.{Record}
use Rattle.iss_model.specs.rules.Stepping.{step}
use Rattle.iss_model.specs.state.Cores.{CoreState, core_keeper}
use Rattle.iss_model.specs.run.Transcripts.{LineReply, entry_texts}
use Rattle.iss_texts.specs.declared.row.Texts.{Texts}
use Rattle.iss_top.specs.Dry.{each_bytes}
use Rattle.iss_texts.specs.TextRows.{Gains, HasAll}

-- this state stands after a line, and these are its texts
pub record Replies (told : LineReply CoreState) (after : CoreState) (kept : Texts) : Type 0 where
  pub state : after ≡ told.world
  pub texts : HasAll (each_bytes told.texts) kept

-- this state stands after a record, and the texts of its entries came after those that were there
pub record Records (before : CoreState) (r : Record) (after : CoreState) (old new : Texts) : Type 0 where
  pub state : after ≡ (step core_keeper before r).world
  pub texts : Gains (flat_map entry_texts (step core_keeper before r).entries) old new
