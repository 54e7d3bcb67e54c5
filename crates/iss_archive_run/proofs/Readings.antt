-- Reading a device record by record, and keeping what each makes.
use Rattle.std.proofs.Common.{◌≡◌, ℕ, ◌+◌, List, [], ◌∷◌, ◌++◌, refl, sym, ap, subst, ◌∙◌}
use Rattle.std.specs.Prelude.{Option, Some, None, Ok, Err, slice_index}
use Rattle.iss_edge.specs.World.{World, Told}
use Rattle.iss_edge.specs.Calls.{Same}
use Rattle.iss_edge.proofs.Tolds.{told_map, told_then}
use Rattle.iss_journal.specs.Opening.{ClosesGood, ClosesGoing}
use Rattle.iss_model.specs.declared.input.Record.{Record}
use Rattle.iss_model.specs.rules.Stepping.{step}
use Rattle.iss_model.specs.state.Cores.{core_keeper}
use Rattle.iss_archive.specs.declared.source.Stepped.{Stepped}
use Rattle.iss_core.specs.Values.{CoreNow}
use Rattle.iss_opening.specs.declared.fault.OpenFault.{OpenFault}
use Rattle.iss_opening.specs.declared.taking.Taken.{Taken}
use Rattle.iss_opening.specs.Values.{StoreNow}
use Rattle.iss_opening.specs.Reading.{core_after}
use Rattle.iss_opening.specs.Taking.{TakesUp}
use Rattle.iss_opening.specs.Opening.{Opens, OpensGood, OnRefused, ReadsAlone, FailsByDisk}
use Rattle.iss_opening.specs.Progress.{HasRead, HasReadThese, HasReadAll, ReadsAll, ReadsNext}
use Rattle.iss_opening.proofs.Openings.{closing_opens}
use Rattle.iss_opening.proofs.Readings.{none_read, these_read}
use Rattle.iss_opening.proofs.Telling.{told_both, on_refused}
use Rattle.iss_opening.proofs.ToldReadings.{read_alone, read_good, still, told_by_disk, told_closing, told_fault, disk_refuses_none}
use Rattle.iss_archive_run.specs.Made.{step_of, IsMadeOn, AreMadeOn, HasAllSteps, StepsOn, OpensSteps}
use Rattle.iss_archive_run.proofs.Mades.{made_more}

-- these records were read, and this is what they made
pub record ReadsSteps (s : StoreNow) (steps : List Stepped) (a b : World) : Type 0 where
  pub start : CoreNow
  pub rs : List Record
  pub these : HasReadThese start rs s a b
  pub made : AreMadeOn start rs steps

-- ---- one record more

next_made : (before after : CoreNow) (t : Taken) (start : CoreNow) (rs : List Record) (body : List ℕ) → before ≡ core_after start rs → TakesUp before after body t → IsMadeOn (core_after start rs) t.accepted (step_of t)
next_made before after t start rs body is takes =
    record {
      number = takes.number ∙ ap (λ (c : CoreNow). c.state.count + 1) is;
      at = refl;
      entries = takes.entries ∙ (λ i. (step core_keeper (is i).state (sym takes.accepted i)).entries);
    }

next_steps : (before after : StoreNow) (t : Taken) (steps : List Stepped) (a b c : World) → ReadsSteps before steps a b → ReadsNext before (Ok (after, Some t)) b c → Same b c → ReadsSteps after (steps ++ step_of t ∷ []) a c
next_steps before after t steps a b c reads one same =
    let is : before.core ≡ core_after reads.start reads.rs = reads.these.read.core ∙ (λ i. core_after (reads.these.from i) (reads.these.these i)) in
    record {
      start = reads.start;
      rs = reads.rs ++ t.accepted ∷ [];
      these = these_read reads.start reads.rs before after t a b c reads.these one same;
      made = made_more reads.start reads.rs steps t.accepted (step_of t) reads.made (next_made before.core after.core t reads.start reads.rs one.body is one.takes);
    }

-- ---- no record is left

all_steps : (before after : StoreNow) (steps : List Stepped) (a b c : World) → ReadsSteps before steps a b → ReadsNext before (Ok (after, None)) b c → Same b c → HasAllSteps after steps a c
all_steps before after steps a b c reads none same =
    let read : HasRead before a b = reads.these.read in
    let made : AreMadeOn read.start read.rs steps =
    subst (λ (k : CoreNow). AreMadeOn k read.rs steps) (sym reads.these.from) (subst (λ (l : List Record). AreMadeOn reads.start l steps) (sym reads.these.these) reads.made) in
    subst (λ (s : StoreNow). HasAllSteps s steps a c) (sym none.same)
    (record {
      all = record {
        read = still before a b c read same;
        shut = λ open_gate. none.shut (ap (λ (d : List ℕ). slice_index d before.place.gate) read.synced.device ∙ open_gate);
      };
      made = made;
    })

store_of : (s : StoreNow) (steps : List Stepped) (a b : World) → HasAllSteps s steps a b → StepsOn s steps a.device
store_of s steps a b has =
    record {
      opens = record {
        image = has.all.read.image;
        start = has.all.read.start;
        rs = has.all.read.rs;
        reads = has.all.read.reads;
        shut = has.all.shut;
        core = has.all.read.core;
        point = has.all.read.point;
      };
      made = has.made;
    }

-- ---- what is told

pub told_first : (s : StoreNow) (x y : Option World) → s.point ≡ s.core.state.count → Told (HasRead s) x y → Told (ReadsSteps s []) x y
told_first s x y whole read =
    told_map (HasRead s) (ReadsSteps s []) x y (λ a b r. record { start = s.core; rs = []; these = none_read s a b r whole; made = tt }) read

module _ (before after : StoreNow) (found : Option Taken) (steps : List Stepped) (x y z : Option World) (reads : Told (ReadsSteps before steps) x y) (next : Told (ReadsNext before (Ok (after, found))) y z) (same : Told Same y z) where
  pub told_next : (t : Taken) → found ≡ Some t → Told (ReadsSteps after (steps ++ step_of t ∷ [])) x z
  told_next t is =
      told_then (ReadsSteps before steps) (λ b c. ReadsNext before (Ok (after, Some t)) b c × Same b c) (ReadsSteps after (steps ++ step_of t ∷ [])) x y z
      (λ a b c r n. next_steps before after t steps a b c r n.0 n.1) reads
      (told_both (ReadsNext before (Ok (after, Some t))) Same y z (subst (λ (o : Option Taken). Told (ReadsNext before (Ok (after, o))) y z) is next) same)

  pub told_all : found ≡ None → Told (HasAllSteps after steps) x z
  told_all is =
      told_then (ReadsSteps before steps) (λ b c. ReadsNext before (Ok (after, None)) b c × Same b c) (HasAllSteps after steps) x y z
      (λ a b c r n. all_steps before after steps a b c r n.0 n.1) reads
      (told_both (ReadsNext before (Ok (after, None))) Same y z (subst (λ (o : Option Taken). Told (ReadsNext before (Ok (after, o))) y z) is next) same)

-- ---- it ended early

module _ (s : StoreNow) (steps : List Stepped) (x y z : Option World) (reads : Told (ReadsSteps s steps) x y) where
  told_read : Told (HasRead s) x y
  told_read = told_map (ReadsSteps s steps) (HasRead s) x y (λ a b r. r.these.read) reads

  pub told_stopped : (fault : OpenFault) → Told (ReadsNext s (Err fault)) y z → Told (Opens (Err fault)) x z
  told_stopped fault next = told_fault s fault x y z told_read next

  module _ (same : Told Same y z) where
    pub told_good : Told OpensGood x z
    told_good = read_good s x y z told_read same

    pub told_alone : (T : Type 0) (fault : OpenFault) → OnRefused {T = T} (Err fault) (Told ReadsAlone x z)
    told_alone T fault = on_refused T fault (Told ReadsAlone x z) (read_alone s x y z told_read same)

-- ---- closing the end gate

module _ (s : StoreNow) (steps : List Stepped) (x y z : Option World) (has : Told (HasAllSteps s steps) x y) where
  all_read : Told (ReadsAll (Ok s)) x y
  all_read = told_map (HasAllSteps s steps) (HasReadAll s) x y (λ a b h. h.all) has

  pub told_ends : Told (ClosesGood s.place) y z → Told OpensGood x z
  told_ends closes = told_closing s x y z all_read closes

  pub told_steps : Told (ClosesGood s.place) y z → Told (ClosesGoing s.place) y z → Told (OpensSteps s steps) x z
  told_steps good going =
      told_then (HasAllSteps s steps) (λ b c. ClosesGood s.place b c × ClosesGoing s.place b c) (OpensSteps s steps) x y z
      (λ a b c h p. record { opening = closing_opens s a b c h.all p.0 p.1; there = store_of s steps a b h }) has
      (told_both (ClosesGood s.place) (ClosesGoing s.place) y z good going)

  pub told_unclosed : (T : Type 0) (fault : OpenFault) → FailsByDisk {T = T} (Err fault) → Told (ClosesGood s.place) y z → Told (Opens (Err fault)) x z
  told_unclosed T fault only closes = told_by_disk T s fault x y z only all_read closes

pub unclosed_refuses_none : (T U : Type 0) (fault : OpenFault) (P : Type 0) → FailsByDisk {T = T} (Err fault) → OnRefused {T = U} (Err fault) P
unclosed_refuses_none T U fault P only = disk_refuses_none T U fault P only
