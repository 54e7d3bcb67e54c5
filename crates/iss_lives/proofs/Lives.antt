-- A device keeps what was told of over its whole life, by the programs' clauses alone.
use Rattle.std.proofs.Common.{◌≡◌, ℕ, inl, inr, List, [], ◌∷◌, ◌++◌, sym, subst}
use Rattle.std.specs.Prelude.{◌⊎◌}
use Rattle.iss_edge.specs.World.{World}
use Rattle.iss_edge.specs.Stretches.{Step}
use Rattle.iss_halves.specs.Forms.{Form}
use Rattle.iss_model.specs.declared.input.Record.{Record}
use Rattle.iss_device.specs.Moments.{StandsFirmly, EachStopStands}
use Rattle.iss_device.specs.Lives.{Keeps, RunEnds, Age, AllKeep, BeginsOn, GoesOnTo}
use Rattle.iss_device.proofs.Lives.{lives_keep, runs_go_on}
use Rattle.iss_lives.specs.Says.{Says, IsRun}
use Rattle.iss_lives.specs.Lives.{says_on, ProgramRun, NoRun, ProgramsKeepWhatTheyTold, MayEnd, RunsMayEndAnywhere}

-- a run of a program is a run of the device's life
run_of_life : (form : Form) (age next : Age) → ProgramRun form age next → RunEnds form age.told age.disk next.told next.disk
run_of_life form age next p =
    let says = (says_on form age.told p.rs age.disk p.a p.b p.run p.begins).run in
    let begins = p.begins in
    record {
      rs = p.rs;
      made = says.made;
      opening = says.opening;
      later = says.later;
      stood = subst (λ (l : List ℕ). StandsFirmly form p.rs l) (sym begins.reads) begins.firm;
      kept = begins.kept;
      first = says.first;
      opening_alone = says.opening_alone;
      stops = subst (λ (l : List ℕ). EachStopStands form p.rs says.made says.opening says.later l) (sym begins.reads) says.stops;
      before = p.before;
      rest = p.rest;
      cut = p.cut;
      now_told = p.now_told;
      ends = p.ends;
    }

-- a stop while no run is on is one too
stop_of_life : (form : Form) (age next : Age) → Keeps form age.told age.disk → NoRun age next → RunEnds form age.told age.disk next.told next.disk
stop_of_life form age next keeps none =
    subst (λ (l : List Record). RunEnds form age.told age.disk l next.disk) (sym none.told) (runs_go_on.stay form age.told age.disk next.disk keeps none.ends)

step_of_life : (form : Form) (age next : Age) → Keeps form age.told age.disk → ProgramRun form age next ⊎ NoRun age next → RunEnds form age.told age.disk next.told next.disk
step_of_life form age next keeps step =
    elim step [
      | inl run ↦ run_of_life form age next run
      | inr none ↦ stop_of_life form age next keeps none
    ]

pub programs_keep : ProgramsKeepWhatTheyTold
programs_keep form age keeps [] lives = tt
programs_keep form age keeps (next ∷ ages) lives =
    let one : AllKeep form (next ∷ []) = lives_keep form age keeps (next ∷ []) (step_of_life form age next keeps lives.0, tt) in
    (one.0, programs_keep form next one.0 ages lives.1)

-- ---- there is such a run

module _ (form : Form) (age : Age) (a b : World) (keeps : Keeps form age.told age.disk) (run : IsRun a b) (rs : List Record) (begins : BeginsOn form age.told rs age.disk a.device) where
  abbrev own : Says form rs a b
  own = says_on form age.told rs age.disk a b run begins

  may_end : (before rest : List Step) → own.run.opening ++ own.run.later ≡ before ++ rest → MayEnd form age before
  may_end before rest cut =
      let goes : GoesOnTo form age.told age.disk own.run.made before = runs_go_on.go_on form age.told rs age.disk a.device keeps begins own.run before rest cut in
      record {
        told = goes.now;
        ends = λ d ends.
            record { a = a; b = b; run = run; rs = rs; begins = begins; before = before; rest = rest; cut = cut; now_told = goes.now_told; ends = ends };
      }

pub runs_may_end : RunsMayEndAnywhere
runs_may_end form age a b keeps reads run =
    let start = runs_go_on.begin form age.told age.disk keeps a.device reads in
    record { rs = start.0; begins = start.1; each = may_end form age a b keeps run start.0 start.1 }
