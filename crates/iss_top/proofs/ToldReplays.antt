-- What an edge tells of a run on a device, at each of its ends.
use Rattle.std.proofs.Common.{◌≡◌, ℕ, ◌≤◌, inl, inr, List, [], length, Option, Ok, Err, refl, sym, ap, subst, ◌∙◌, arith, length-append}
use Rattle.std.specs.Prelude.{◌⊎◌, Result}
use Rattle.iss_edge.specs.World.{World, Told, Faults, Later}
use Rattle.iss_edge.proofs.Tolds.{told_map, told_then, later_then, rose_later}
use Rattle.iss_model.specs.declared.input.Record.{Record}
use Rattle.iss_opening.specs.declared.fault.OpenFault.{OpenFault}
use Rattle.iss_opening.specs.declared.fault.OpenFault.TheVariants.{Disk, NotFormatted, BadRecord, BadSpelling, BadHistory, BadImage, OutOfMemory}
use Rattle.iss_store.specs.declared.fault.StoreFault.{StoreFault}
use Rattle.iss_store.specs.declared.fault.StoreFault.TheVariants as store
use Rattle.iss_halves.specs.Forms.{Form, Seat}
use Rattle.iss_opening.specs.Values.{StoreNow}
use Rattle.iss_opening.specs.Standing.{StandsFor}
use Rattle.iss_standing.specs.Standing.{DeviceStandsFor}
use Rattle.iss_opening.specs.Opening.{Opens, OpensGood, ReadsAlone, OnRefused, OpenCause, IsOfDiskOrMemory, OpenedAs}
use Rattle.iss_store.specs.Saying.{texts_pending, texts_pending_on_book, SayingCause}
use Rattle.iss_opening.proofs.GoodDevices.{good_device}
use Rattle.iss_opening.proofs.Telling.{told_both}
use Rattle.iss_texts.specs.Sending.{Says, SaysSome}
use Rattle.iss_device.specs.Runs.{run_at}
use Rattle.iss_device.specs.Refusals.{RefusesExactly, opening_status}
use Rattle.iss_device.proofs.Devices.{Behind, stands_opened, told_behind}
use Rattle.iss_device.proofs.Refusals.{opened_refuses, told_refuses}
use Rattle.iss_top.specs.declared.stop.Stop.{Stop}
use Rattle.iss_top.specs.declared.stop.Stop.TheVariants as stop
use Rattle.iss_top.specs.Statuses.{stop_status, stop_of_opening, stop_of_store}
use Rattle.iss_top.specs.Reader.{ReadingCause}
use Rattle.iss_top.specs.Replaying.{RunsAs, RunsFrom, TakingCause, IsReplayCaused, ReplayCause}
use Rattle.iss_top.specs.Replays.{ReplayRun, ReplayOn, EveryMoment, EveryMomentStands, ReplayEndsWell}
use Rattle.iss_top.proofs.OnTheWay.{ends_with}
use Rattle.iss_top.proofs.ToldLines.{told_from_start}
use Rattle.iss_top.proofs.Beginnings.{begins_goes, lines_from_start, stops_at_start}
use Rattle.iss_top.proofs.WholeRuns.{not_opened_moments, not_opened_on, replay_on, every_moment}

-- ---- the opening

pub opening_ends : (fault : OpenFault) → IsOfDiskOrMemory fault → (ends_with (stop_of_opening fault) ≡ 6) ⊎ (ends_with (stop_of_opening fault) ≡ 7)
opening_ends Disk is = inl refl
opening_ends OutOfMemory is = inr refl
opening_ends NotFormatted is = absurd is
opening_ends (BadRecord gate) is = absurd is
opening_ends (BadSpelling gate) is = absurd is
opening_ends (BadHistory gate) is = absurd is
opening_ends (BadImage place) is = absurd is

pub not_this : (n m : ℕ) → (n ≡ 6) ⊎ (n ≡ 7) → m ≤ 5 → n ≡ m → ⊥
not_this n m ends le e = elim ends [ inl six ↦ absurd (omega (arith, six, le, e)) | inr seven ↦ absurd (omega (arith, seven, le, e)) ]

not_eight : (n : ℕ) → (n ≡ 6) ⊎ (n ≡ 7) → n ≡ 8 → ⊥
not_eight n ends e = elim ends [ inl six ↦ absurd (omega (arith, six, e)) | inr seven ↦ absurd (omega (arith, seven, e)) ]

-- nothing was done but maybe a sync, unless a call on the device failed
abbrev pub ReadsUnless : OpenFault → World → World → Type 0
ReadsUnless fault a b = (ends_with (stop_of_opening fault) ≡ 6 → ⊥) → ReadsAlone a b

reads_at_all : (fault : OpenFault) (x y : Option World) → Told ReadsAlone x y → Told (ReadsUnless fault) x y
reads_at_all fault x y reads = told_map ReadsAlone (ReadsUnless fault) x y (λ a b r other. r) reads

pub told_unless : (fault : OpenFault) (x y : Option World) → Told OpensGood x y → OnRefused {T = StoreNow} (Err fault) (Told ReadsAlone x y) → Told (ReadsUnless fault) x y
told_unless Disk x y good reads = told_map OpensGood (ReadsUnless Disk) x y (λ a b g other. absurd (other refl)) good
told_unless OutOfMemory x y good reads = reads_at_all OutOfMemory x y reads
told_unless NotFormatted x y good reads = reads_at_all NotFormatted x y reads
told_unless (BadRecord gate) x y good reads = reads_at_all (BadRecord gate) x y reads
told_unless (BadSpelling gate) x y good reads = reads_at_all (BadSpelling gate) x y reads
told_unless (BadHistory gate) x y good reads = reads_at_all (BadHistory gate) x y reads
told_unless (BadImage place) x y good reads = reads_at_all (BadImage place) x y reads

unopened_run : (fault : OpenFault) (a b : World) → Opens (Err fault) a b → OpensGood a b → ReadsUnless fault a b → ReplayRun (ends_with (stop_of_opening fault)) a b
unopened_run fault a b opens good reads form seat rs stands =
    let n = ends_with (stop_of_opening fault) in
    let ends : (n ≡ 6) ⊎ (n ≡ 7) = opening_ends fault (good_device form seat rs fault a b stands opens) in
    not_opened_on n form seat rs a b (not_this n 0 ends (omega arith)) (not_this n 3 ends (omega arith)) (not_this n 4 ends (omega arith)) (not_eight n ends) good reads

pub told_unopened_run : (fault : OpenFault) (x y : Option World) → Told (Opens (Err fault)) x y → Told OpensGood x y → OnRefused {T = StoreNow} (Err fault) (Told ReadsAlone x y)
    → Told (ReplayRun (ends_with (stop_of_opening fault))) x y
told_unopened_run fault x y opens good reads =
    told_map (λ a b. (Opens (Err fault) a b × OpensGood a b) × ReadsUnless fault a b) (ReplayRun (ends_with (stop_of_opening fault))) x y (λ a b p. unopened_run fault a b p.0.0 p.0.1 p.1)
    (told_both (λ a b. Opens (Err fault) a b × OpensGood a b) (ReadsUnless fault) x y (told_both (Opens (Err fault)) OpensGood x y opens good) (told_unless fault x y good reads))

pub told_unopened_moments : (x y : Option World) → Told OpensGood x y → Told EveryMomentStands x y
told_unopened_moments x y good =
    told_map OpensGood EveryMomentStands x y (λ a b g form seat rs stands. not_opened_moments form seat rs a b g stands) good

-- the status is the one that the fault of opening has
opening_status_is : (fault : OpenFault) → opening_status fault ≡ ends_with (stop_of_opening fault)
opening_status_is Disk = refl
opening_status_is OutOfMemory = refl
opening_status_is NotFormatted = refl
opening_status_is (BadRecord gate) = refl
opening_status_is (BadSpelling gate) = refl
opening_status_is (BadHistory gate) = refl
opening_status_is (BadImage place) = refl

pub told_unopened_refuses : (fault : OpenFault) (x y : Option World) → Told (Opens (Err fault)) x y → Told OpensGood x y → OnRefused {T = StoreNow} (Err fault) (Told ReadsAlone x y)
    → Told (RefusesExactly (ends_with (stop_of_opening fault))) x y
told_unopened_refuses fault x y opens good reads =
    subst (λ (status : ℕ). Told (RefusesExactly status) x y) (opening_status_is fault) (told_refuses fault x y opens good reads)

-- ---- a run on the store that was opened

-- what waits for the gateway is known by the book
abbrev pub WaitsOnBook : StoreNow → Type 0
WaitsOnBook s = (rs : List Record) → StandsFor s rs → texts_pending s ≡ texts_pending_on_book s.core.instance rs

-- what waits went out in part
saying_ends : {T : Type 0} (fault : StoreFault) (before now : Faults) → SayingCause {T = T} before now (Err fault) → (ends_with (stop_of_store fault) ≡ 5) ⊎ (ends_with (stop_of_store fault) ≡ 7)
saying_ends store.Disk before now cause = absurd (cause.no_disk refl)
saying_ends store.Output before now cause = inl refl
saying_ends store.OutOfMemory before now cause = inr refl

not_saying : (n m : ℕ) → (n ≡ 5) ⊎ (n ≡ 7) → m ≤ 4 → n ≡ m → ⊥
not_saying n m ends le e = elim ends [ inl five ↦ absurd (omega (arith, five, le, e)) | inr seven ↦ absurd (omega (arith, seven, le, e)) ]

not_saying_long : (n : ℕ) → (n ≡ 5) ⊎ (n ≡ 7) → n ≡ 8 → ⊥
not_saying_long n ends e = elim ends [ inl five ↦ absurd (omega (arith, five, e)) | inr seven ↦ absurd (omega (arith, seven, e)) ]

module _ (n : ℕ) (ends : (n ≡ 5) ⊎ (n ≡ 7)) (s : StoreNow) (on_book : WaitsOnBook s) (a b c : World) (opening : OpenedAs s a b) (says : SaysSome (texts_pending s) b c) (form : Form) (seat : Seat) (rs : List Record)
    (stands : DeviceStandsFor form seat rs a.device) where
  waited_part : RunsAs (told_from_start (run_at s rs)) n s rs [] b c
  waited_part =
      stops_at_start n s rs b c (not_saying n 0 ends (omega arith)) (not_saying n 3 ends (omega arith)) (not_saying_long n ends)
      (on_book rs (stands_opened form seat rs s a b opening stands).stands) says

  waited_on : ReplayOn n form seat rs a c
  waited_on =
      replay_on form seat rs s n [] a b c opening stands waited_part (not_saying n 4 ends (omega arith))
      (record { bytes = ap (λ (l : ℕ → List ℕ). l 0) (sym says.left); others = λ ch other. ap (λ (l : ℕ → List ℕ). l ch) says.left })
      (λ e. absurd (not_saying_long n ends e), λ e. absurd (omega (arith, e))) (omega arith)

  waited_moments : EveryMoment form seat rs a c
  waited_moments = every_moment form seat rs s n [] a b c opening stands waited_part

-- what waits went out, and then lines were taken
record WaitsThenRuns (status : ℕ) (s : StoreNow) (b d : World) : Type 0 where
  middle : World
  says : Says (texts_pending s) b middle
  runs : RunsFrom status s middle d

module _ (status : ℕ) (s : StoreNow) (on_book : WaitsOnBook s) (a b d : World) (opening : OpenedAs s a b) (later : WaitsThenRuns status s b d) (form : Form) (seat : Seat) (rs : List Record) (stands : DeviceStandsFor form seat rs a.device) where
  all_runs : RunsAs (told_from_start (run_at s rs)) status s rs later.runs.took b d
  all_runs =
      let here = (stands_opened form seat rs s a b opening stands).stands in
      lines_from_start status s rs later.runs.took b later.middle d later.says.left
      (begins_goes s rs b later.middle (on_book rs here) later.says) (later.runs.on_book rs here)

  all_on : (status ≡ 4 → ⊥) → ReplayOn status form seat rs a d
  all_on not_device =
      replay_on form seat rs s status later.runs.took a b d opening stands all_runs not_device
      (record {
        bytes = ap (λ (l : ℕ → List ℕ). l 0) (sym later.says.left) ∙ later.runs.takes.bytes;
        others = λ ch other. later.runs.takes.others ch other ∙ ap (λ (l : ℕ → List ℕ). l ch) later.says.left;
      }) later.runs.long later.runs.bound

  all_moments : EveryMoment form seat rs a d
  all_moments = every_moment form seat rs s status later.runs.took a b d opening stands all_runs

-- ---- the same of what an edge tells

module _ (s : StoreNow) (on_book : WaitsOnBook s) (x y z : Option World) (opened : Told (OpenedAs s) x y) where
  module _ {T : Type 0} (fault : StoreFault) (before now : Faults) (cause : SayingCause {T = T} before now (Err fault)) (says : Told (SaysSome (texts_pending s)) y z) where
    abbrev stops : ℕ
    stops = ends_with (stop_of_store fault)

    pub told_waited_run : Told (ReplayRun stops) x z
    told_waited_run =
        told_map (Behind s (SaysSome (texts_pending s))) (ReplayRun stops) x z
        (λ a c p form seat rs stands. waited_on stops (saying_ends {T = T} fault before now cause) s on_book a p.between c p.opening p.later form seat rs stands)
        (told_behind s (SaysSome (texts_pending s)) x y z opened says)

    pub told_waited_moments : Told EveryMomentStands x z
    told_waited_moments =
        told_map (Behind s (SaysSome (texts_pending s))) EveryMomentStands x z
        (λ a c p form seat rs stands. waited_moments stops (saying_ends {T = T} fault before now cause) s on_book a p.between c p.opening p.later form seat rs stands)
        (told_behind s (SaysSome (texts_pending s)) x y z opened says)

    pub told_waited_refuses : Told (RefusesExactly stops) x z
    told_waited_refuses =
        told_map (Behind s (SaysSome (texts_pending s))) (RefusesExactly stops) x z
        (λ a c p. opened_refuses stops s a c (not_saying stops 4 (saying_ends {T = T} fault before now cause) (omega arith)) p.opening.opens)
        (told_behind s (SaysSome (texts_pending s)) x y z opened says)

  module _ (status : ℕ) (not_device : status ≡ 4 → ⊥) (w : Option World) (says : Told (Says (texts_pending s)) y z) (runs : Told (RunsFrom status s) z w) where
    told_all : Told (Behind s (WaitsThenRuns status s)) x w
    told_all =
        told_behind s (WaitsThenRuns status s) x y w opened
        (told_then (Says (texts_pending s)) (RunsFrom status s) (WaitsThenRuns status s) y z w (λ b c d p q. record { middle = c; says = p; runs = q }) says runs)

    pub told_run : Told (ReplayRun status) x w
    told_run =
        told_map (Behind s (WaitsThenRuns status s)) (ReplayRun status) x w
        (λ a d p form seat rs stands. all_on status s on_book a p.between d p.opening p.later form seat rs stands not_device) told_all

    pub told_moments : Told EveryMomentStands x w
    told_moments =
        told_map (Behind s (WaitsThenRuns status s)) EveryMomentStands x w
        (λ a d p form seat rs stands. all_moments status s on_book a p.between d p.opening p.later form seat rs stands) told_all

    pub told_run_refuses : Told (RefusesExactly status) x w
    told_run_refuses =
        told_map (Behind s (WaitsThenRuns status s)) (RefusesExactly status) x w (λ a d p. opened_refuses status s a d not_device p.opening.opens) told_all

-- ---- causes

pub caused_by_opening : {T : Type 0} (fault : OpenFault) (before now : Faults) → OpenCause {T = T} before now (Err fault) → IsReplayCaused {A = Unit {0}} before now (Err (stop_of_opening fault))
caused_by_opening Disk before now cause = record { later = cause.later; cause = cause.disk refl }
caused_by_opening OutOfMemory before now cause = record { later = cause.later; cause = tt }
caused_by_opening NotFormatted before now cause = record { later = cause.later; cause = tt }
caused_by_opening (BadRecord gate) before now cause = record { later = cause.later; cause = tt }
caused_by_opening (BadSpelling gate) before now cause = record { later = cause.later; cause = tt }
caused_by_opening (BadHistory gate) before now cause = record { later = cause.later; cause = tt }
caused_by_opening (BadImage place) before now cause = record { later = cause.later; cause = tt }

-- after calls that counted no fault down
cause_behind : (before middle now : Faults) (s : Stop) → Later before middle → Later middle now → ReplayCause middle now s → ReplayCause before now s
cause_behind before middle now stop.Input first second cause = rose_later before.input middle.input now.input now.input first.input second.input (omega arith) cause
cause_behind before middle now stop.Device first second cause = tt
cause_behind before middle now stop.Output first second cause = rose_later before.output middle.output now.output now.output first.output second.output (omega arith) cause
cause_behind before middle now stop.Disk first second cause = rose_later before.disk middle.disk now.disk now.disk first.disk second.disk (omega arith) cause
cause_behind before middle now stop.Memory first second cause = tt
cause_behind before middle now stop.InputLong first second cause = tt

pub caused_behind : (before middle now : Faults) (result : Result (Unit {0}) Stop) → Later before middle → IsReplayCaused middle now result → IsReplayCaused before now result
caused_behind before middle now (Ok done) first second = record { later = later_then before middle now first second.later; cause = tt }
caused_behind before middle now (Err s) first second =
    record { later = later_then before middle now first second.later; cause = cause_behind before middle now s first second.later second.cause }

pub caused_by_saying : {T : Type 0} (fault : StoreFault) (before now : Faults) → SayingCause {T = T} before now (Err fault) → IsReplayCaused {A = Unit {0}} before now (Err (stop_of_store fault))
caused_by_saying store.Disk before now cause = absurd (cause.no_disk refl)
caused_by_saying store.Output before now cause = record { later = cause.later; cause = cause.output refl }
caused_by_saying store.OutOfMemory before now cause = record { later = cause.later; cause = tt }

pub caused_by_taking : (s : Stop) (before now : Faults) → Later before now → TakingCause before now s → IsReplayCaused {A = Unit {0}} before now (Err s)
caused_by_taking stop.Input before now later cause = absurd cause
caused_by_taking stop.Device before now later cause = absurd cause
caused_by_taking stop.Output before now later cause = record { later = later; cause = cause }
caused_by_taking stop.Disk before now later cause = record { later = later; cause = cause }
caused_by_taking stop.Memory before now later cause = record { later = later; cause = tt }
caused_by_taking stop.InputLong before now later cause = absurd cause

pub caused_by_reading : (s : Stop) (before now : Faults) → Later before now → ReadingCause before now s → IsReplayCaused {A = Unit {0}} before now (Err s)
caused_by_reading stop.Input before now later cause = record { later = later; cause = cause }
caused_by_reading stop.Device before now later cause = absurd cause
caused_by_reading stop.Output before now later cause = absurd cause
caused_by_reading stop.Disk before now later cause = absurd cause
caused_by_reading stop.Memory before now later cause = record { later = later; cause = tt }
caused_by_reading stop.InputLong before now later cause = record { later = later; cause = tt }

-- ---- the end

replay_ends_well : (result : Result (Unit {0}) Stop) (before now : Faults) (a b : World) → IsReplayCaused before now result → ReplayRun (stop_status result) a b → ReplayEndsWell before now (stop_status result) a b
replay_ends_well (Ok done) before now a b caused run form seat rs stands disk input output short = inl refl
replay_ends_well (Err stop.Input) before now a b caused run form seat rs stands disk input output short = absurd (input caused.cause)
replay_ends_well (Err stop.Device) before now a b caused run form seat rs stands disk input output short = absurd ((run form seat rs stands).other_device refl)
replay_ends_well (Err stop.Output) before now a b caused run form seat rs stands disk input output short = absurd (output caused.cause)
replay_ends_well (Err stop.Disk) before now a b caused run form seat rs stands disk input output short = absurd (disk caused.cause)
replay_ends_well (Err stop.Memory) before now a b caused run form seat rs stands disk input output short = inr refl
replay_ends_well (Err stop.InputLong) before now a b caused run form seat rs stands disk input output short =
    let on = run form seat rs stands in
    absurd (omega (arith, short, on.long.0 refl, ap (λ (l : List ℕ). length l) on.takes.bytes, length-append {A = ℕ} on.took (b.left 0)))

pub told_replay_ends_well : (result : Result (Unit {0}) Stop) (before now : Faults) (x y : Option World) → IsReplayCaused before now result → Told (ReplayRun (stop_status result)) x y → Told (ReplayEndsWell before now (stop_status result)) x y
told_replay_ends_well result before now x y caused run =
    told_map (ReplayRun (stop_status result)) (ReplayEndsWell before now (stop_status result)) x y (λ a b. replay_ends_well result before now a b caused) run
