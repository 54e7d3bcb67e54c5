-- What each program's clauses say of a run on a device that stands for records, as one run of the device's life.
use Rattle.std.specs.Prelude.{◌≡◌, ◌⊎◌, ℕ, List, ◌++◌, refl}
use Rattle.std.proofs.Common.{inl, inr}
use Rattle.iss_edge.specs.declared.outside.Answered.{Answered}
use Rattle.iss_edge.specs.Outer.{Outer}
use Rattle.iss_edge.specs.World.{World}
use Rattle.iss_edge.specs.Stretches.{actions_of}
use Rattle.iss_halves.specs.Forms.{Form, Seat}
use Rattle.iss_model.specs.declared.input.Record.{Record}
use Rattle.iss_model.specs.run.Transcripts.{Text}
use Rattle.iss_session.specs.Accepted.{session_records}
use Rattle.iss_session.specs.Sessions.{Session}
use Rattle.iss_session_examples.specs.Program.{program_readers}
use Rattle.iss_standing.specs.Standing.{DeviceStandsFor}
use Rattle.iss_device.specs.Runs.{run_on}
use Rattle.iss_device.specs.Lives.{RunSays}
use Rattle.iss_serve.specs.ServeRuns.{ServeOn, ServeRun, session_on_device, records_then}
use Rattle.iss_top.specs.Lines.{lines_of}
use Rattle.iss_top.specs.Replays as taking
use Rattle.iss_top.specs.Replays.{EveryMomentStands, records_for, texts_for}
use Rattle.iss_top.specs.Reports.{ReportMomentStands, report_texts}
use Rattle.iss_follow_runs.specs.Moments as following
use Rattle.iss_follow_runs.specs.Moments.{KeepsMoments, TellsMoments}
use Rattle.iss_follow_catch.specs.Catching.{KeepsFirst}

-- what a run says of itself, and that this was done from the one outside to the other
pub record Says (form : Form) (rs : List Record) (a b : World) : Type 0 where
  pub run : RunSays form rs a.device
  pub grew : b.trace ≡ a.trace ++ actions_of (run.opening ++ run.later)

-- a run of `serve`, of which the world and what was heard are told
pub record Served (a b : World) : Type 0 where
  pub turns : ℕ
  pub status : ℕ
  pub before : List Answered
  pub after : List Answered
  pub run : ServeRun turns status (record { world = a; heard = before }) (record { world = b; heard = after })

-- What clauses say of a device between these outsides: those of `replay`, of `balances` and of `serve`; of the device of `archive` and the
-- first one of `same`; of the first one of `copy` and `catch` and the second one of `same`; and of the second one of `catch`.
abbrev pub IsRun : World → World → Type 0
IsRun a b = EveryMomentStands a b ⊎ (ReportMomentStands a b ⊎ (Served a b ⊎ (TellsMoments a b ⊎ (KeepsMoments a b ⊎ KeepsFirst a b))))

-- ---- by the records for which the device stands

abbrev pub of_taking : (form : Form) (rs all : List Record) (texts : List Text) (a b : World) → taking.MomentsOf form rs all texts a b → Says form rs a b
of_taking form rs all texts a b m =
    record {
      run = record { made = m.made; opening = m.opening; later = m.later; first = m.more; opening_alone = m.opening_alone; stops = m.stops };
      grew = m.grew;
    }

abbrev pub of_serving : (turns status : ℕ) (form : Form) (seat : Seat) (rs : List Record) (s : Session) (a b : Outer) → ServeOn turns status form seat rs s a b → Says form rs a.world b.world
of_serving turns status form seat rs s a b on =
    record {
      run = record {
        made = records_then rs s on.happenings;
        opening = on.opening;
        later = on.later;
        first = record { later = session_records program_readers s on.happenings; cut = refl };
        opening_alone = on.opening_alone;
        stops = on.stops;
      };
      grew = on.grew;
    }

abbrev pub of_following : (form : Form) (rs made : List Record) (a b : World) → following.MomentsOf form rs made a b → Says form rs a b
of_following form rs made a b m =
    record {
      run = record { made = made; opening = m.opening; later = m.later; first = m.more; opening_alone = m.opening_alone; stops = m.stops };
      grew = m.grew;
    }

-- what a run says by its clause
abbrev pub says_of : (a b : World) → IsRun a b → (form : Form) (seat : Seat) (rs : List Record) → DeviceStandsFor form seat rs a.device → Says form rs a b
says_of a b (inl replay) form seat rs stands =
    of_taking form rs (records_for (run_on form seat rs) rs (lines_of (a.left 0))) (texts_for (run_on form seat rs) (lines_of (a.left 0))) a b (replay form seat rs stands)
says_of a b (inr (inl report)) form seat rs stands = of_taking form rs rs (report_texts rs) a b (report form seat rs stands)
says_of a b (inr (inr (inl serve))) form seat rs stands =
    of_serving serve.turns serve.status form seat rs (session_on_device serve.turns form seat rs) (record { world = a; heard = serve.before }) (record { world = b; heard = serve.after }) (serve.run form seat rs stands)
says_of a b (inr (inr (inr (inl tells)))) form seat rs stands = of_following form rs rs a b (tells form seat rs stands).0
says_of a b (inr (inr (inr (inr (inl keeps))))) form seat rs stands = of_following form rs rs a b (keeps form seat rs stands).0
says_of a b (inr (inr (inr (inr (inr first))))) form seat rs stands =
    of_following form rs (first form seat rs stands).0 a b (first form seat rs stands).1.0
