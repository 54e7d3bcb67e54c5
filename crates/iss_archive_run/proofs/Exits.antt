-- What bringing an archive up to date with a device did at each of its ends.
use Rattle.std.proofs.Common.{◌≡◌, ℕ, ◌+◌, ◌≤◌, inl, inr, Bool, true, false, List, [], ◌∷◌, ◌++◌, length, Option, Some, None, Result, Ok, Err, IfSome, refl, sym, ap, subst, ◌∙◌, append_assoc, arith}
use Rattle.std.specs.Prelude.{◌↔◌, IsSome, OnOk}
use Rattle.iss_edge.specs.declared.outside.Action.{Action}
use Rattle.iss_edge.specs.declared.outside.Action.TheVariants.{Emit}
use Rattle.iss_edge.specs.declared.outside.Channel.{Channel}
use Rattle.iss_edge.specs.World.{World, Told, Faults, Later, Rose}
use Rattle.iss_edge.specs.Calls.{Emits, EmitsPart}
use Rattle.iss_edge.proofs.Tolds.{told_map, told_then, later_then, rose_later}
use Rattle.iss_halves.specs.Forms.{Form, Seat}
use Rattle.iss_model.specs.declared.input.Record.{Record}
use Rattle.iss_archive.specs.declared.post.Head.{Head}
use Rattle.iss_archive.specs.declared.source.Stepped.{Stepped}
use Rattle.iss_archive.specs.declared.archiving.ArchiveFault.{ArchiveFault}
use Rattle.iss_archive.specs.declared.archiving.ArchiveFault.TheVariants as archive_fault
use Rattle.iss_archive.specs.Archived as archived
use Rattle.iss_archive.specs.Archived.{Archived, posts_in}
use Rattle.iss_archive.specs.Postings.{IsArchiveOf, IsHeadOver, postings_of}
use Rattle.iss_archive.specs.Runs.{KeepsUp, IsUpToDate, LeavesFirst}
use Rattle.iss_archive.specs.Steps.{KeepsSteps, CompletesSteps, LeavesSteps, IsCalledFor}
use Rattle.iss_archive.proofs.KeepingLaws.{leaves_same}
use Rattle.iss_standing.specs.Standing.{DeviceStandsFor}
use Rattle.iss_opening.specs.declared.fault.OpenFault.{OpenFault}
use Rattle.iss_opening.specs.declared.fault.OpenFault.TheVariants as open_fault
use Rattle.iss_opening.specs.Values.{StoreNow}
use Rattle.iss_opening.specs.Opening.{Opens, OpensGood, OpenedAs, OnRefused, ReadsAlone, OpenCause}
use Rattle.iss_device.specs.Refusals.{RefusesExactly}
use Rattle.iss_device.proofs.Refusals.{told_refuses, opened_refuses}
use Rattle.iss_follow_runs.specs.Moments.{TellsMoments, KeepsRecords, EndsKept}
use Rattle.iss_follow_runs.proofs.Emits.{emitted_moments, emitted_records, sends_part, torn_moments, torn_records}
use Rattle.iss_follow_runs.proofs.Images.{instance_opened, count_opened}
use Rattle.iss_follow_runs.proofs.Openings.{ends_kept}
use Rattle.iss_follow_runs.proofs.Tellings.{told_unopened_moments, told_unopened_alone, told_opened_moments, told_opened_alone, told_opened_ends, told_opened_refuses}
use Rattle.iss_archive_run.specs.declared.stop.Stop.{Stop}
use Rattle.iss_archive_run.specs.declared.stop.Stop.TheVariants as stop
use Rattle.iss_archive_run.specs.Statuses.{stop_of_opening, stop_of_keeping}
use Rattle.iss_archive_run.specs.Lines.{archived_line}
use Rattle.iss_archive_run.specs.Made.{fits, StepsOn, OpensSteps}
use Rattle.iss_archive_run.specs.Keeping.{CameToLine, IsCaused, IsCalledForOn, IsDue, DueOn, IsUntouched, SendsLine, TellsArchived, TellsPart, ArchiveOn, KeepsArchive, KeepDone}
use Rattle.iss_archive_run.proofs.Mades.{steps_fit, steps_of}
use Rattle.iss_archive_run.proofs.Unopened.{status_of, opening_of, status_is, no_line, unopened_no_line, unopened_not_five, unopened_ends, tells_still, refused_so, due_unopened, caused_unopened}

-- ---- what a keeper tells

kept_map : (R S : Archived → Archived → Type 0) (v w : Option Archived) → ((a b : Archived) → R a b → S a b) → archived.Told R v w → archived.Told S v w
kept_map R S None None f p = tt
kept_map R S (Some a) None f p = tt
kept_map R S None (Some b) f p = absurd p
kept_map R S (Some a) (Some b) f p = f a b p

kept_self : (R : Archived → Archived → Type 0) (v : Option Archived) → ((a : Archived) → R a a) → archived.Told R v v
kept_self R None f = tt
kept_self R (Some a) f = f a

same_up : (instance : ℕ) (rs : List Record) (v : Option Archived) → KeepsUp instance rs v v
same_up instance rs None k le held = tt
same_up instance rs (Some a) k le held = record { count = k; least = omega arith; most = le; archive = held }

-- ---- the device didn't open

same_archive : (n instance : ℕ) (rs : List Record) (v : Option Archived) (left : Archived → Type 0) (a b : World) → (CameToLine n → ⊥) → ArchiveOn n instance rs v v left left a b
same_archive n instance rs v left a b other =
    record {
      kept = same_up instance rs v;
      stop = leaves_same instance rs v left left (λ h l. l);
      whole = λ e. absurd (other e);
      line = λ e. absurd (other (inl e));
    }

pub unopened : {T : Type 0} (fault : OpenFault) (before now : Faults) (x y : Option World) (g : ℕ) (v : Option Archived) (left : Archived → Type 0) → Told (Opens (Err fault)) x y → Told OpensGood x y → OnRefused {T = T} (Err fault) (Told ReadsAlone x y)
    → OpenCause {T = T} before now (Err fault) → KeepDone {A = Unit {0}} before now x y g g v v left left (Err (stop_of_opening fault))
unopened {T = T} fault before now x y g v left opens good reads cause =
    record {
      caused = caused_unopened fault before now g cause;
      refused = subst (λ (n : ℕ). Told (RefusesExactly n) x y) (status_is fault) (told_refuses fault x y opens good (refused_so T StoreNow fault (Told ReadsAlone x y) reads));
      due = told_map OpensGood (DueOn {A = Unit {0}} (Err (stop_of_opening fault)) v v) x y (λ a b g. kept_self (IsDue {A = Unit {0}} (Err (stop_of_opening fault)) a.device) v (λ h. due_unopened fault a.device h h)) good;
      archive = told_map OpensGood (KeepsArchive (opening_of fault) v v left left) x y (λ a b g form seat rs stands. same_archive (opening_of fault) form.instance rs v left a b (unopened_no_line fault)) good;
      out = λ e. absurd (unopened_no_line fault (inl e));
      part = λ e. absurd (unopened_not_five fault e);
      quiet = λ none. told_unopened_alone x y good;
      moments = tells_still x y (told_unopened_moments x y good);
      records = λ e. absurd (unopened_no_line fault (inl e));
      ended = λ six. unopened_ends T fault x y six reads;
    }

-- ---- nothing was done on the keeper

pub untouched_opening : (fault : OpenFault) (P : Type 0) → P → IsUntouched {A = Unit {0}} (Err (stop_of_opening fault)) P
untouched_opening open_fault.Disk P p = p
untouched_opening open_fault.OutOfMemory P p = tt
untouched_opening open_fault.NotFormatted P p = p
untouched_opening (open_fault.BadImage place) P p = p
untouched_opening (open_fault.BadRecord gate) P p = p
untouched_opening (open_fault.BadSpelling gate) P p = p
untouched_opening (open_fault.BadHistory gate) P p = p

-- or more may have been
pub untouched_keeping : (fault : ArchiveFault) (P : Type 0) → IsUntouched {A = Unit {0}} (Err (stop_of_keeping fault)) P
untouched_keeping archive_fault.Gap P = tt
untouched_keeping archive_fault.Strange P = tt
untouched_keeping archive_fault.Keeper P = tt
untouched_keeping archive_fault.OutOfMemory P = tt

-- ---- the postings that are held

-- the head over some records counts their postings
pub posts_are : (instance : ℕ) (rs : List Record) (head : Option Head) → IsHeadOver instance rs head → posts_in head ≡ length (postings_of rs)
posts_are instance rs None none = ap (λ (all : List Record). length (postings_of all)) (sym none)
posts_are instance rs (Some h) is = ap (λ (k : Head). k.posts) is

held_posts : (instance point count : ℕ) (steps : List Stepped) (head : Option Head) (posts : ℕ) (v w : Option Archived) → posts ≡ posts_in head → archived.Told (IsCalledFor instance point count steps (Ok head)) v w → IfSome w (λ b. posts_in b.head ≡ posts)
held_posts instance point count steps head posts None None is why = tt
held_posts instance point count steps head posts (Some a) None is why = tt
held_posts instance point count steps head posts None (Some b) is why = absurd why
held_posts instance point count steps head posts (Some a) (Some b) is why = ap (λ (h : Option Head). posts_in h) why.1.held ∙ sym is

posts_all : (instance : ℕ) (rs : List Record) (w : Option Archived) (posts : ℕ) → IsSome w → IfSome w (λ b. posts_in b.head ≡ posts) → IfSome w (λ b. IsArchiveOf instance rs b) → posts ≡ length (postings_of rs)
posts_all instance rs None posts told held all = absurd cc
posts_all instance rs (Some b) posts told held all = sym held ∙ posts_are instance rs b.head all.head

-- ---- what bringing an archive up to date promises

-- what it did, if these records come after the first ones of a device of this instance
pub record Kept (instance point : ℕ) (steps : List Stepped) (g h : ℕ) (v w : Option Archived) (left_was left_now : Archived → Type 0) (kept : Result (Option Head) ArchiveFault) : Type 0 where
  pub up : KeepsSteps instance point steps v w
  pub leaves : LeavesSteps instance point steps v left_was left_now
  pub whole : OnOk kept (CompletesSteps instance point steps v w)
  pub why : archived.Told (IsCalledFor instance point (point + length steps) steps kept) v w
  pub later : g ≤ h

-- the same under other names
pub kept_on : (i j p q : ℕ) (xs ys : List Stepped) (g h : ℕ) (v w : Option Archived) (left_was left_now : Archived → Type 0) (kept : Result (Option Head) ArchiveFault) → i ≡ j → p ≡ q → xs ≡ ys
    → Kept i p xs g h v w left_was left_now kept → Kept j q ys g h v w left_was left_now kept
kept_on i j p q xs ys g h v w left_was left_now kept same_i same_p same_xs k =
    subst (λ (l : List Stepped). Kept j q l g h v w left_was left_now kept) same_xs
    (subst (λ (n : ℕ). Kept j n xs g h v w left_was left_now kept) same_p
    (subst (λ (n : ℕ). Kept n p xs g h v w left_was left_now kept) same_i k))

-- records that don't fit, under other names
pub unfit_so : (r : Bool) (p q n m : ℕ) (xs ys : List Stepped) → r ≡ false → (r ≡ true) ↔ fits p n xs → p ≡ q → n ≡ m → xs ≡ ys → fits q m ys → ⊥
unfit_so r p q n m xs ys is exactly same_p same_n same_xs fit =
    let own : fits p n xs =
    subst (λ (l : List Stepped). fits p n l) (sym same_xs) (subst (λ (k : ℕ). fits p k ys) (sym same_n) (subst (λ (k : ℕ). fits k m ys) (sym same_p) fit)) in
    never (sym is ∙ exactly.1 own)
  where
    never : false ≡ true → ⊥
    never e = cc

-- ---- the device opened

-- what is told of the opening, and of what came after it
pub record After (s : StoreNow) (steps : List Stepped) (R : World → World → Type 0) (a d : World) : Type 0 where
  pub between : World
  pub opens : OpensSteps s steps a between
  pub later : R between d

module _ (s : StoreNow) (steps : List Stepped) (before now : Faults) (x y : Option World) (opened : Told (OpensSteps s steps) x y) (later : Later before now) where
  opening : Told (OpenedAs s) x y
  opening = told_map (OpensSteps s steps) (OpenedAs s) x y (λ a b o. o.opening) opened

  told_after : (R : World → World → Type 0) (z : Option World) → Told R y z → Told (After s steps R) x z
  told_after R z after =
      told_then (OpensSteps s steps) R (After s steps R) x y z (λ a b d o r. record { between = b; opens = o; later = r }) opened after

  -- if anything is told, the records fit
  pub unfit : (g : ℕ) (v : Option Archived) (left : Archived → Type 0) → (fits s.point s.core.state.count steps → ⊥) → KeepDone {A = Unit {0}} before now x y g g v v left left (Err stop.Device)
  unfit g v left none =
      let never : Told (λ a b. ⊥) x y = told_map (OpensSteps s steps) (λ a b. ⊥) x y (λ a b o. none (steps_fit s steps a.device o.there)) opened in
      record {
        caused = record { later = later; kept_later = omega arith; disk = λ e. absurd cc; output = λ e. absurd cc; keeper = λ e. absurd cc };
        refused = told_map (λ a b. ⊥) (RefusesExactly 4) x y (λ a b e. absurd e) never;
        due = told_map (λ a b. ⊥) (DueOn {A = Unit {0}} (Err stop.Device) v v) x y (λ a b e. absurd e) never;
        archive = told_map (λ a b. ⊥) (KeepsArchive 4 v v left left) x y (λ a b e. absurd e) never;
        out = λ e. absurd cc;
        part = λ e. absurd cc;
        quiet = λ none. told_opened_alone x y s opening;
        moments = tells_still x y (told_opened_moments x y s opening);
        records = λ e. absurd cc;
        ended = λ six. told_opened_ends x y s opening;
      }

  module _ (g h : ℕ) (v w : Option Archived) (left_was left_now : Archived → Type 0) (kept : Result (Option Head) ArchiveFault) (k : Kept s.core.instance s.point steps g h v w left_was left_now kept) where
    -- why, by the store that was opened
    abbrev Why : Result (Option Head) ArchiveFault → Archived → Archived → Type 0
    Why r = IsCalledFor s.core.instance s.point (s.point + length steps) steps r

    called : (r : Result (Option Head) ArchiveFault) (device : List ℕ) (a b : Archived) → StepsOn s steps device → Why r a b → IsCalledForOn device r a b
    called r device a b there why =
        record {
          store = s;
          steps = steps;
          there = there;
          why = subst (λ (n : ℕ). IsCalledFor s.core.instance s.point n steps r a b) (steps_fit s steps device there).0 why;
        }

    kept_up : (form : Form) (seat : Seat) (rs : List Record) (device : List ℕ) → StepsOn s steps device → DeviceStandsFor form seat rs device → KeepsUp form.instance rs v w × LeavesFirst form.instance rs v left_was left_now
    kept_up form seat rs device there stands =
        let instance = instance_opened s device form seat rs there.opens stands in
        let made = steps_of s steps device there form seat rs stands in (
          subst (λ (n : ℕ). KeepsUp n rs v w) instance (k.up rs made),
          subst (λ (n : ℕ). LeavesFirst n rs v left_was left_now) instance (k.leaves rs made),
        )

    part_archive : (n : ℕ) (a b : World) → (CameToLine n → ⊥) → StepsOn s steps a.device → KeepsArchive n v w left_was left_now a b
    part_archive n a b other there form seat rs stands =
        let both = kept_up form seat rs a.device there stands in
        record { kept = both.0; stop = both.1; whole = λ e. absurd (other e); line = λ e. absurd (other (inl e)) }

    -- it ended before the line
    early : (ended : Stop) → (status_of ended ≡ 4 → ⊥) → (CameToLine (status_of ended) → ⊥) → IsCaused {A = Unit {0}} before now g h (Err ended) → Told (DueOn {A = Unit {0}} (Err ended) v w) x y
        → KeepDone {A = Unit {0}} before now x y g h v w left_was left_now (Err ended)
    early ended four none caused due =
        record {
          caused = caused;
          refused = told_opened_refuses x y s opening (status_of ended) four;
          due = due;
          archive = told_map (OpensSteps s steps) (KeepsArchive (status_of ended) v w left_was left_now) x y (λ a b o. part_archive (status_of ended) a b none o.there) opened;
          out = λ e. absurd (none (inl e));
          part = λ e. absurd (none (inr e));
          quiet = λ other. told_opened_alone x y s opening;
          moments = tells_still x y (told_opened_moments x y s opening);
          records = λ e. absurd (none (inl e));
          ended = λ six. told_opened_ends x y s opening;
        }

    due_of : (fault : ArchiveFault) (device : List ℕ) (a b : Archived) → StepsOn s steps device → Why (Err fault) a b → IsDue {A = Unit {0}} (Err (stop_of_keeping fault)) device a b
    due_of archive_fault.Gap device a b there why = called (Err archive_fault.Gap) device a b there why
    due_of archive_fault.Strange device a b there why = called (Err archive_fault.Strange) device a b there why
    due_of archive_fault.Keeper device a b there why = tt
    due_of archive_fault.OutOfMemory device a b there why = tt

    told_due : (fault : ArchiveFault) → archived.Told (Why (Err fault)) v w → Told (DueOn {A = Unit {0}} (Err (stop_of_keeping fault)) v w) x y
    told_due fault why =
        told_map (OpensSteps s steps) (DueOn {A = Unit {0}} (Err (stop_of_keeping fault)) v w) x y
        (λ a b o. kept_map (Why (Err fault)) (IsDue {A = Unit {0}} (Err (stop_of_keeping fault)) a.device) v w (λ p q y. due_of fault a.device p q o.there y) why) opened

    -- the archive wasn't brought up to date
    pub unkept : (fault : ArchiveFault) → kept ≡ Err fault → (kept ≡ Err archive_fault.Keeper → archived.Rose g h) → KeepDone {A = Unit {0}} before now x y g h v w left_was left_now (Err (stop_of_keeping fault))
    unkept archive_fault.Gap is rose =
        early stop.Gap (λ e. absurd cc) (no_line 11 (λ e. absurd cc) (λ e. absurd cc))
        (record { later = later; kept_later = k.later; disk = λ e. absurd cc; output = λ e. absurd cc; keeper = λ e. absurd cc })
        (told_due archive_fault.Gap (subst (λ (r : Result (Option Head) ArchiveFault). archived.Told (Why r) v w) is k.why))
    unkept archive_fault.Strange is rose =
        early stop.Strange (λ e. absurd cc) (no_line 12 (λ e. absurd cc) (λ e. absurd cc))
        (record { later = later; kept_later = k.later; disk = λ e. absurd cc; output = λ e. absurd cc; keeper = λ e. absurd cc })
        (told_due archive_fault.Strange (subst (λ (r : Result (Option Head) ArchiveFault). archived.Told (Why r) v w) is k.why))
    unkept archive_fault.Keeper is rose =
        early stop.Keeper (λ e. absurd cc) (no_line 13 (λ e. absurd cc) (λ e. absurd cc))
        (record { later = later; kept_later = k.later; disk = λ e. absurd cc; output = λ e. absurd cc; keeper = λ e. rose is })
        (told_due archive_fault.Keeper (subst (λ (r : Result (Option Head) ArchiveFault). archived.Told (Why r) v w) is k.why))
    unkept archive_fault.OutOfMemory is rose =
        early stop.Memory (λ e. absurd cc) (no_line 7 (λ e. absurd cc) (λ e. absurd cc))
        (record { later = later; kept_later = k.later; disk = λ e. absurd cc; output = λ e. absurd cc; keeper = λ e. absurd cc })
        (told_due archive_fault.OutOfMemory (subst (λ (r : Result (Option Head) ArchiveFault). archived.Told (Why r) v w) is k.why))

    -- ---- it was

    module _ (head : Option Head) (is_kept : kept ≡ Ok head) where
      why : archived.Told (Why (Ok head)) v w
      why = subst (λ (r : Result (Option Head) ArchiveFault). archived.Told (Why r) v w) is_kept k.why

      completes : CompletesSteps s.core.instance s.point steps v w
      completes = subst (λ (r : Result (Option Head) ArchiveFault). OnOk r (CompletesSteps s.core.instance s.point steps v w)) is_kept k.whole

      all_kept : (form : Form) (seat : Seat) (rs : List Record) (device : List ℕ) → StepsOn s steps device → DeviceStandsFor form seat rs device → IsUpToDate form.instance rs v w
      all_kept form seat rs device there stands =
          subst (λ (n : ℕ). IsUpToDate n rs v w) (instance_opened s device form seat rs there.opens stands) (completes rs (steps_of s steps device there form seat rs stands))

      -- no memory was left for the line
      pub no_memory : KeepDone {A = Unit {0}} before now x y g h v w left_was left_now (Err stop.Memory)
      no_memory =
          early stop.Memory (λ e. absurd cc) (no_line 7 (λ e. absurd cc) (λ e. absurd cc))
          (record { later = later; kept_later = k.later; disk = λ e. absurd cc; output = λ e. absurd cc; keeper = λ e. absurd cc })
          (told_map (OpensSteps s steps) (DueOn {A = Unit {0}} (Err stop.Memory) v w) x y
          (λ a b o. kept_map (Why (Ok head)) (IsDue {A = Unit {0}} (Err stop.Memory) a.device) v w (λ p q y. tt) why) opened)

      module _ (ch : Channel) (line : List ℕ) (last : Faults) (z : Option World) (after : Later now last) (posts : ℕ) (counted : posts ≡ posts_in head) (standard : ch ≡ record { 0 = 0 }) (is : line ≡ archived_line posts s.core.state.count) where
        held : IfSome w (λ b. posts_in b.head ≡ posts)
        held = held_posts s.core.instance s.point (s.point + length steps) steps head posts v w counted why

        unsent_archive : (a d : World) → After s steps (EmitsPart ch line) a d → KeepsArchive 5 v w left_was left_now a d
        unsent_archive a d o form seat rs stands =
            let both = kept_up form seat rs a.device o.opens.there stands in
            record { kept = both.0; stop = both.1; whole = λ e. all_kept form seat rs a.device o.opens.there stands; line = λ e. absurd cc }

        -- the line didn't go out whole
        pub unsent : Rose now.output last.output → Told (EmitsPart ch line) y z → KeepDone {A = Unit {0}} before last x z g h v w left_was left_now (Err stop.Output)
        unsent rose part =
            let behind = told_after (EmitsPart ch line) z part in
            record {
              caused = record {
                later = later_then before now last later after;
                kept_later = k.later;
                disk = λ e. absurd cc;
                output = λ e. rose_later before.output now.output last.output last.output later.output after.output (omega arith) rose;
                keeper = λ e. absurd cc;
              };
              refused = told_map (After s steps (EmitsPart ch line)) (RefusesExactly 5) x z (λ a d o. opened_refuses 5 s a d (λ e. absurd cc) o.opens.opening.opens) behind;
              due =
                  told_map (After s steps (EmitsPart ch line)) (DueOn {A = Unit {0}} (Err stop.Output) v w) x z
                  (λ a d o. kept_map (Why (Ok head)) (IsDue {A = Unit {0}} (Err stop.Output) a.device) v w (λ p q y. (head, called (Ok head) a.device p q o.opens.there y)) why) behind;
              archive = told_map (After s steps (EmitsPart ch line)) (KeepsArchive 5 v w left_was left_now) x z unsent_archive behind;
              out = λ e. absurd cc;
              part = λ e.
                  told_map (After s steps (EmitsPart ch line)) (TellsPart w) x z
                  (λ a d o. record {
                    store = s;
                    opens = o.opens.opening.opens;
                    posts = posts;
                    held = held;
                    out = sends_part s a o.between d o.opens.opening ch line (archived_line posts s.core.state.count) standard is o.later;
                  }) behind;
              quiet = λ none. absurd (none (inr refl));
              moments = told_map (After s steps (EmitsPart ch line)) TellsMoments x z (λ a d o. torn_moments s a o.between d o.opens.opening ch line o.later) behind;
              records = λ e. absurd cc;
              ended = λ six. told_map (After s steps (EmitsPart ch line)) EndsKept x z (λ a d o. ends_kept a d (torn_records s a o.between d o.opens.opening ch line o.later)) behind;
            }

        -- it did
        sends : (a d : World) → After s steps (Emits ch line) a d → SendsLine posts s.core.state.count a d
        sends a d o =
            let action : Emit ch line true ≡ Emit (record { 0 = 0 }) (archived_line posts s.core.state.count) true = λ i. Emit (standard i) (is i) true in
            let good = o.opens.opening.good in
            record {
              opening = good.added;
              on_device = good.on_device;
              opening_is = good.syncs;
              grew =
                  o.later.trace
                  ∙ ap (λ (l : List Action). l ++ Emit ch line true ∷ []) good.grew
                  ∙ append_assoc a.trace good.added (Emit ch line true ∷ [])
                  ∙ ap (λ (one : Action). a.trace ++ (good.added ++ one ∷ [])) action;
            }

        whole_archive : (a d : World) → After s steps (Emits ch line) a d → KeepsArchive 0 v w left_was left_now a d
        whole_archive a d o form seat rs stands =
            let there = o.opens.there in
            let count = count_opened s a.device form seat rs there.opens stands in
            let both = kept_up form seat rs a.device there stands in
            let all = all_kept form seat rs a.device there stands in
            record {
              kept = both.0;
              stop = both.1;
              whole = λ e. all;
              line = λ e k le first told.
                  subst (λ (n : ℕ). SendsLine n (length rs) a d) (posts_all form.instance rs w posts told held (all k le first))
                  (subst (λ (n : ℕ). SendsLine posts n a d) count (sends a d o));
            }

        pub sent : Told (Emits ch line) y z → KeepDone {A = Unit {0}} before last x z g h v w left_was left_now (Ok tt)
        sent emitted =
            let behind = told_after (Emits ch line) z emitted in
            record {
              caused = record {
                later = later_then before now last later after;
                kept_later = k.later;
                disk = λ e. absurd cc;
                output = λ e. absurd cc;
                keeper = λ e. absurd cc;
              };
              refused = told_map (After s steps (Emits ch line)) (RefusesExactly 0) x z (λ a d o. opened_refuses 0 s a d (λ e. absurd cc) o.opens.opening.opens) behind;
              due =
                  told_map (After s steps (Emits ch line)) (DueOn {A = Unit {0}} (Ok tt) v w) x z
                  (λ a d o. kept_map (Why (Ok head)) (IsDue {A = Unit {0}} (Ok tt) a.device) v w (λ p q y. (head, called (Ok head) a.device p q o.opens.there y)) why) behind;
              archive = told_map (After s steps (Emits ch line)) (KeepsArchive 0 v w left_was left_now) x z whole_archive behind;
              out = λ e.
                  told_map (After s steps (Emits ch line)) (TellsArchived w) x z
                  (λ a d o. record { store = s; opens = o.opens.opening.opens; posts = posts; held = held; out = sends a d o }) behind;
              part = λ e. absurd cc;
              quiet = λ none. absurd (none (inl refl));
              moments = told_map (After s steps (Emits ch line)) TellsMoments x z (λ a d o. emitted_moments s a o.between d o.opens.opening ch line o.later) behind;
              records = λ e. told_map (After s steps (Emits ch line)) KeepsRecords x z (λ a d o. emitted_records s a o.between d o.opens.opening ch line o.later) behind;
              ended = λ six. told_map (After s steps (Emits ch line)) EndsKept x z (λ a d o. ends_kept a d (emitted_records s a o.between d o.opens.opening ch line o.later)) behind;
            }
