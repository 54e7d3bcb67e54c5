-- What an edge tells of a report, at each of its ends.
use Rattle.std.proofs.Common.{◌≡◌, ℕ, inl, inr, List, [], Option, Some, None, Ok, Err, refl, arith}
use Rattle.std.specs.Prelude.{◌⊎◌, Result}
use Rattle.iss_edge.specs.World.{World, Told, Faults, Later}
use Rattle.iss_edge.proofs.Tolds.{told_map, later_then, rose_later}
use Rattle.iss_model.specs.declared.input.Record.{Record}
use Rattle.iss_core.specs.Values.{CoreStandsFor}
use Rattle.iss_opening.specs.declared.fault.OpenFault.{OpenFault}
use Rattle.iss_opening.specs.declared.fault.OpenFault.TheVariants.{Disk, NotFormatted, BadRecord, BadSpelling, BadHistory, BadImage, OutOfMemory}
use Rattle.iss_opening.specs.Values.{StoreNow}
use Rattle.iss_opening.specs.Opening.{Opens, OpensGood, OpenCause, OpenedAs, ReadsAlone, OnRefused}
use Rattle.iss_opening.proofs.GoodDevices.{good_device}
use Rattle.iss_opening.proofs.Telling.{told_both}
use Rattle.iss_texts.specs.declared.row.Texts.{Texts}
use Rattle.iss_texts.specs.TextRows.{HasAll}
use Rattle.iss_texts.specs.Sending.{Says, SaysSome, IsSending}
use Rattle.iss_texts.proofs.ToldSaying.{told_none}
use Rattle.iss_device.specs.Refusals.{RefusesExactly}
use Rattle.iss_device.proofs.Devices.{Behind, stands_opened, told_behind}
use Rattle.iss_device.proofs.Refusals.{opened_refuses}
use Rattle.iss_top.specs.declared.stop.Stop.{Stop}
use Rattle.iss_top.specs.declared.stop.Stop.TheVariants as stop
use Rattle.iss_top.specs.Statuses.{stop_status, stop_of_opening}
use Rattle.iss_top.specs.Reports.{report_lines, ReportRun, ReportMomentStands, IsReportCaused, ReportEndsWell}
use Rattle.iss_top.proofs.OnTheWay.{ends_with}
use Rattle.iss_top.proofs.ToldReplays.{opening_ends, not_this, ReadsUnless, told_unless}
use Rattle.iss_top.proofs.ReportRuns.{unopened_report_on, unopened_report_moments, part_on, whole_on, part_moments, whole_moments}

-- ---- the device didn't open

unopened_report : (fault : OpenFault) (a b : World) → Opens (Err fault) a b → OpensGood a b → ReadsUnless fault a b → ReportRun (ends_with (stop_of_opening fault)) a b
unopened_report fault a b opens good reads form seat rs stands =
    let n = ends_with (stop_of_opening fault) in
    let ends : (n ≡ 6) ⊎ (n ≡ 7) = opening_ends fault (good_device form seat rs fault a b stands opens) in
    unopened_report_on n form seat rs a b (not_this n 0 ends (omega arith)) (not_this n 4 ends (omega arith)) (not_this n 5 ends (omega arith)) good reads

pub told_unopened_report : (fault : OpenFault) (x y : Option World) → Told (Opens (Err fault)) x y → Told OpensGood x y → OnRefused {T = StoreNow} (Err fault) (Told ReadsAlone x y)
    → Told (ReportRun (ends_with (stop_of_opening fault))) x y
told_unopened_report fault x y opens good reads =
    told_map (λ a b. (Opens (Err fault) a b × OpensGood a b) × ReadsUnless fault a b) (ReportRun (ends_with (stop_of_opening fault))) x y (λ a b p. unopened_report fault a b p.0.0 p.0.1 p.1)
    (told_both (λ a b. Opens (Err fault) a b × OpensGood a b) (ReadsUnless fault) x y (told_both (Opens (Err fault)) OpensGood x y opens good) (told_unless fault x y good reads))

pub told_unopened_report_moments : (x y : Option World) → Told OpensGood x y → Told ReportMomentStands x y
told_unopened_report_moments x y good =
    told_map OpensGood ReportMomentStands x y (λ a b g form seat rs stands. unopened_report_moments form seat rs a b g stands) good

-- ---- what went out of these texts, which are the report of whatever records the core stands for

-- what is told for each of some things is told for all of them
told_each : {W X : Type 0} (P : X → Type 0) (S : W → W → Type 0) (R : X → W → W → Type 0) (x y : Option W) → Told S x y → ((k : X) → P k → Told (R k) x y) → Told (λ a b. (k : X) → P k → R k a b) x y
told_each P S R None None told f = tt
told_each P S R (Some a) None told f = tt
told_each P S R None (Some b) told f = absurd told
told_each P S R (Some a) (Some b) told f = f

-- the texts are the report of what the store stands for
abbrev pub IsReportOf : StoreNow → Texts → Type 0
IsReportOf s t = (rs : List Record) → CoreStandsFor s.core rs → HasAll (report_lines rs) t

-- the report of what the store stands for went out, or some of it
abbrev SaysReport : (List (List ℕ) → World → World → Type 0) → StoreNow → World → World → Type 0
SaysReport R s b d = (rs : List Record) → CoreStandsFor s.core rs → R (report_lines rs) b d

says_report : (R : List (List ℕ) → World → World → Type 0) (s : StoreNow) (t : Texts) (lines : List (List ℕ)) (y z : Option World) → HasAll lines t → IsReportOf s t → ((texts : List (List ℕ)) → HasAll texts t → Told (R texts) y z)
    → Told (SaysReport R s) y z
says_report R s t lines y z all is told =
    told_each (λ rs. CoreStandsFor s.core rs) (R lines) (λ rs. R (report_lines rs)) y z (told lines all) (λ rs here. told (report_lines rs) (is rs here))

-- ---- the device opened

module _ (s : StoreNow) (x y z : Option World) (opened : Told (OpenedAs s) x y) where
  some_report : (status : ℕ) → (status ≡ 0 → ⊥) → (status ≡ 4 → ⊥) → Told (SaysReport SaysSome s) y z → Told (ReportRun status) x z
  some_report status not_done not_device says =
      told_map (Behind s (SaysReport SaysSome s)) (ReportRun status) x z
      (λ a d p form seat rs stands.
      part_on form seat rs s a p.between d p.opening stands status not_done not_device (p.later rs (stands_opened form seat rs s a p.between p.opening stands).stands.core))
      (told_behind s (SaysReport SaysSome s) x y z opened says)

  some_moments : Told (SaysReport SaysSome s) y z → Told ReportMomentStands x z
  some_moments says =
      told_map (Behind s (SaysReport SaysSome s)) ReportMomentStands x z
      (λ a d p form seat rs stands. part_moments form seat rs s a p.between d p.opening stands (p.later rs (stands_opened form seat rs s a p.between p.opening stands).stands.core))
      (told_behind s (SaysReport SaysSome s) x y z opened says)

  any_refuses : (status : ℕ) (R : World → World → Type 0) → (status ≡ 4 → ⊥) → Told R y z → Told (RefusesExactly status) x z
  any_refuses status R not_device later =
      told_map (Behind s R) (RefusesExactly status) x z (λ a d p. opened_refuses status s a d not_device p.opening.opens) (told_behind s R x y z opened later)

  module _ (t : Texts) (lines : List (List ℕ)) (all : HasAll lines t) (is : IsReportOf s t) where
    -- an emit failed
    module _ (part : (texts : List (List ℕ)) → HasAll texts t → Told (SaysSome texts) y z) where
      pub told_stopped_report : Told (ReportRun 5) x z
      told_stopped_report = some_report 5 (λ e. cc) (λ e. cc) (says_report SaysSome s t lines y z all is part)

      pub told_stopped_moments : Told ReportMomentStands x z
      told_stopped_moments = some_moments (says_report SaysSome s t lines y z all is part)

      pub told_stopped_refuses : Told (RefusesExactly 5) x z
      told_stopped_refuses = any_refuses 5 (SaysSome lines) (λ e. cc) (part lines all)

    -- all lines went out
    module _ (whole : (texts : List (List ℕ)) → HasAll texts t → Told (Says texts) y z) where
      whole_report : Told (SaysReport Says s) y z
      whole_report = says_report Says s t lines y z all is whole

      pub told_report : Told (ReportRun 0) x z
      told_report =
          told_map (Behind s (SaysReport Says s)) (ReportRun 0) x z
          (λ a d p form seat rs stands.
          whole_on form seat rs s a p.between d p.opening stands 0 (λ e. cc) (p.later rs (stands_opened form seat rs s a p.between p.opening stands).stands.core))
          (told_behind s (SaysReport Says s) x y z opened whole_report)

      pub told_report_moments : Told ReportMomentStands x z
      told_report_moments =
          told_map (Behind s (SaysReport Says s)) ReportMomentStands x z
          (λ a d p form seat rs stands. whole_moments form seat rs s a p.between d p.opening stands (p.later rs (stands_opened form seat rs s a p.between p.opening stands).stands.core))
          (told_behind s (SaysReport Says s) x y z opened whole_report)

      pub told_report_refuses : Told (RefusesExactly 0) x z
      told_report_refuses = any_refuses 0 (Says lines) (λ e. cc) (whole lines all)

-- the report couldn't be made, for want of memory
module _ (s : StoreNow) (x y : Option World) (opened : Told (OpenedAs s) x y) where
  nothing_said : Told (SaysReport SaysSome s) y y
  nothing_said =
      told_each (λ rs. CoreStandsFor s.core rs) (SaysSome []) (λ rs. SaysSome (report_lines rs)) y y (told_none [] y) (λ rs here. told_none (report_lines rs) y)

  pub told_unmade_report : Told (ReportRun 7) x y
  told_unmade_report = some_report s x y y opened 7 (λ e. cc) (λ e. cc) nothing_said

  pub told_unmade_moments : Told ReportMomentStands x y
  told_unmade_moments = some_moments s x y y opened nothing_said

  pub told_unmade_refuses : Told (RefusesExactly 7) x y
  told_unmade_refuses = any_refuses s x y y opened 7 (SaysSome []) (λ e. cc) (told_none [] y)

-- ---- causes

pub report_unopened : {T : Type 0} (fault : OpenFault) (before now : Faults) → OpenCause {T = T} before now (Err fault) → IsReportCaused {A = Unit {0}} before now (Err (stop_of_opening fault))
report_unopened Disk before now cause = record { later = cause.later; cause = cause.disk refl }
report_unopened OutOfMemory before now cause = record { later = cause.later; cause = tt }
report_unopened NotFormatted before now cause = record { later = cause.later; cause = tt }
report_unopened (BadRecord gate) before now cause = record { later = cause.later; cause = tt }
report_unopened (BadSpelling gate) before now cause = record { later = cause.later; cause = tt }
report_unopened (BadHistory gate) before now cause = record { later = cause.later; cause = tt }
report_unopened (BadImage place) before now cause = record { later = cause.later; cause = tt }

pub report_unmade : (before now : Faults) → Later before now → IsReportCaused {A = Unit {0}} before now (Err stop.Memory)
report_unmade before now later = record { later = later; cause = tt }

pub report_stopped : {A E : Type 0} (before middle now : Faults) (e : E) → Later before middle → IsSending {A = A} middle now (Err e) → IsReportCaused {A = Unit {0}} before now (Err stop.Output)
report_stopped before middle now e first sending =
    record {
      later = later_then before middle now first sending.later;
      cause = rose_later before.output middle.output now.output now.output first.output sending.later.output (omega arith) sending.output;
    }

pub report_done : {A E : Type 0} (before middle now : Faults) (v : A) → Later before middle → IsSending {E = E} middle now (Ok v) → IsReportCaused {A = Unit {0}} before now (Ok tt)
report_done before middle now v first sending = record { later = later_then before middle now first sending.later; cause = tt }

-- ---- the end

report_ends_well : (result : Result (Unit {0}) Stop) (before now : Faults) (a b : World) → IsReportCaused before now result → ReportRun (stop_status result) a b → ReportEndsWell before now (stop_status result) a b
report_ends_well (Ok done) before now a b caused run form seat rs stands disk output = inl refl
report_ends_well (Err stop.Input) before now a b caused run form seat rs stands disk output = absurd caused.cause
report_ends_well (Err stop.Device) before now a b caused run form seat rs stands disk output = absurd ((run form seat rs stands).other_device refl)
report_ends_well (Err stop.Output) before now a b caused run form seat rs stands disk output = absurd (output caused.cause)
report_ends_well (Err stop.Disk) before now a b caused run form seat rs stands disk output = absurd (disk caused.cause)
report_ends_well (Err stop.Memory) before now a b caused run form seat rs stands disk output = inr refl
report_ends_well (Err stop.InputLong) before now a b caused run form seat rs stands disk output = absurd caused.cause

pub told_report_ends_well : (result : Result (Unit {0}) Stop) (before now : Faults) (x y : Option World) → IsReportCaused before now result → Told (ReportRun (stop_status result)) x y → Told (ReportEndsWell before now (stop_status result)) x y
told_report_ends_well result before now x y caused run =
    told_map (ReportRun (stop_status result)) (ReportEndsWell before now (stop_status result)) x y (λ a b. report_ends_well result before now a b caused) run
