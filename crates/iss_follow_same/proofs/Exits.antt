-- What comparing did at each of its ends.
use Rattle.std.proofs.Common.{◌≡◌, ℕ, Bool, true, List, [], ◌∷◌, ◌++◌, Option, Ok, Err, refl, sym, ap, subst, ◌∙◌, append_assoc, arith}
use Rattle.std.specs.Prelude.{◌↔◌}
use Rattle.iss_edge.specs.declared.outside.Action.{Action}
use Rattle.iss_edge.specs.declared.outside.Action.TheVariants.{Emit}
use Rattle.iss_edge.specs.declared.outside.Channel.{Channel}
use Rattle.iss_edge.specs.World.{World, Told, Faults, Later, Rose}
use Rattle.iss_edge.specs.Calls.{Same, Emits, EmitsPart}
use Rattle.iss_edge.proofs.Tolds.{told_map, told_self, same_self, later_then, rose_later}
use Rattle.iss_halves.specs.Forms.{Form, Seat}
use Rattle.iss_model.specs.declared.input.Record.{Record}
use Rattle.iss_standing.specs.Standing.{DeviceStandsFor}
use Rattle.iss_opening.specs.declared.fault.OpenFault.{OpenFault}
use Rattle.iss_opening.specs.declared.fault.OpenFault.TheVariants as open_fault
use Rattle.iss_opening.specs.Values.{StoreNow}
use Rattle.iss_opening.specs.Opening.{Opens, OpensGood, OpenedAs, ReadsAlone, OnRefused, OpenCause}
use Rattle.iss_opening.proofs.Telling.{same_alone, same_good, told_both}
use Rattle.iss_device.proofs.Devices.{Behind, told_behind}
use Rattle.iss_follow_runs.specs.declared.stop.Stop.TheVariants as stop
use Rattle.iss_follow_runs.specs.Statuses.{stop_of_opening}
use Rattle.iss_follow_runs.specs.Moments.{KeepsMoments, TellsMoments, KeepsRecords, EndsKept}
use Rattle.iss_follow_runs.specs.Causes.{BothTold}
use Rattle.iss_follow_runs.specs.Refusals.{RefusesEither}
use Rattle.iss_follow_runs.proofs.Emits.{emitted_moments, emitted_records, sends_part, torn_moments, torn_records}
use Rattle.iss_follow_runs.proofs.Images.{image_opened, instance_opened, count_opened}
use Rattle.iss_follow_runs.proofs.Openings.{ends_alone, ends_kept, keeps_tells}
use Rattle.iss_follow_runs.proofs.Refusals.{first_refused, second_refused, both_opened}
use Rattle.iss_follow_runs.proofs.Tellings.{status_of, not_status, caused_first, caused_second, told_unopened_moments, told_unopened_alone, told_unopened_ends, told_opened_moments, told_opened_records, told_opened_alone, told_opened_ends}
use Rattle.iss_follow_same.specs.Lines.{same_line}
use Rattle.iss_follow_same.specs.Comparing.{AreSame, SendsLine, TellsSame, TellsSameFor, Compared, EndsAsSame, SameDone}

-- what holds of what both tell
told_two : (R S : World → World → Type 0) (T : World → World → World → World → Type 0) (x y z w : Option World) → ((a b c d : World) → R a b → S c d → T a b c d) → Told R x y → Told S z w → BothTold T x y z w
told_two R S T x y z w f first second =
    told_map R (λ a b. Told (T a b) z w) x y (λ a b r. told_map S (T a b) z w (λ c d s. f a b c d r s) second) first

-- nothing is told of both at another status than 0 and 5
not_compared : (n : ℕ) (a b c d : World) → (n ≡ 0 → ⊥) → (n ≡ 5 → ⊥) → Compared n a b c d
not_compared n a b c d other unsent =
    record {
      told = λ e. absurd (other e);
      part = λ e. absurd (unsent e);
      told_for = λ form seat rs stands form' seat' rs' stands' e. absurd (other e);
    }

tells_still : (x y : Option World) → Told KeepsMoments x y → Told TellsMoments x y
tells_still x y keeps = told_map KeepsMoments TellsMoments x y keeps_tells keeps

not_zero : (fault : OpenFault) → status_of fault ≡ 0 → ⊥
not_zero fault = not_status fault 0 (λ e. absurd cc) (λ e. absurd cc) (λ e. absurd cc)

not_five : (fault : OpenFault) → status_of fault ≡ 5 → ⊥
not_five fault = not_status fault 5 (λ e. absurd cc) (λ e. absurd cc) (λ e. absurd cc)

kind_of : (fault : OpenFault) → EndsAsSame {A = Unit {0}} (Err (stop_of_opening fault))
kind_of open_fault.Disk = tt
kind_of open_fault.OutOfMemory = tt
kind_of open_fault.NotFormatted = tt
kind_of (open_fault.BadImage place) = tt
kind_of (open_fault.BadRecord gate) = tt
kind_of (open_fault.BadSpelling gate) = tt
kind_of (open_fault.BadHistory gate) = tt

-- ---- a device didn't open

pub same_first_unopened : {T : Type 0} (fault : OpenFault) (before now g : Faults) (x y z : Option World) → Told (Opens (Err fault)) x y → Told OpensGood x y → OnRefused {T = StoreNow} (Err fault) (Told ReadsAlone x y) → OpenCause {T = T} before now (Err fault)
    → SameDone {A = Unit {0}} before now g g x y z z (Err (stop_of_opening fault))
same_first_unopened fault before now g x y z opens good reads cause =
    let still : Told OpensGood z z = same_good z z (told_self Same z same_self) in
    record {
      kind = kind_of fault;
      caused = caused_first fault before now g cause;
      refused =
          told_two (λ a b. Opens (Err fault) a b × OpensGood a b) OpensGood (RefusesEither (status_of fault)) x y z z (λ a b c d p q. first_refused fault a b c d p.1 q p.0)
          (told_both (Opens (Err fault)) OpensGood x y opens good) still;
      compared = told_two OpensGood OpensGood (Compared (status_of fault)) x y z z (λ a b c d p q. not_compared (status_of fault) a b c d (not_zero fault) (not_five fault)) good still;
      quiet = λ e f. told_unopened_alone x y good;
      other_quiet = told_unopened_alone z z still;
      moments = tells_still x y (told_unopened_moments x y good);
      other_moments = told_unopened_moments z z still;
      records = λ e. absurd (not_zero fault e);
      other_records = λ e. absurd (not_zero fault e);
      ended = λ six. told_unopened_ends x y StoreNow fault six reads;
      other_ended = λ six. told_map ReadsAlone EndsKept z z ends_alone (same_alone z z (told_self Same z same_self));
    }

module _ (s : StoreNow) (before now : Faults) (x y : Option World) (first : Told (OpenedAs s) x y) where
  pub same_second_unopened : {T : Type 0} (fault : OpenFault) (other_before other_now : Faults) (z w : Option World) → Later before now
      → Told (Opens (Err fault)) z w → Told OpensGood z w → OnRefused {T = StoreNow} (Err fault) (Told ReadsAlone z w) → OpenCause {T = T} other_before other_now (Err fault)
      → SameDone {A = Unit {0}} before now other_before other_now x y z w (Err (stop_of_opening fault))
  same_second_unopened fault other_before other_now z w later opens good reads cause =
      record {
        kind = kind_of fault;
        caused = caused_second fault before now other_before other_now later cause;
        refused =
            told_two (OpenedAs s) (λ c d. Opens (Err fault) c d × OpensGood c d) (RefusesEither (status_of fault)) x y z w (λ a b c d o p. second_refused fault a b c d o.good p.1 p.0)
            first (told_both (Opens (Err fault)) OpensGood z w opens good);
        compared = told_two (OpenedAs s) OpensGood (Compared (status_of fault)) x y z w (λ a b c d p q. not_compared (status_of fault) a b c d (not_zero fault) (not_five fault)) first good;
        quiet = λ e f. told_opened_alone x y s first;
        other_quiet = told_unopened_alone z w good;
        moments = tells_still x y (told_opened_moments x y s first);
        other_moments = told_unopened_moments z w good;
        records = λ e. absurd (not_zero fault e);
        other_records = λ e. absurd (not_zero fault e);
        ended = λ six. told_opened_ends x y s first;
        other_ended = λ six. told_unopened_ends z w StoreNow fault six reads;
      }

  -- ---- both did

  module _ (t : StoreNow) (other_before other_now : Faults) (z w : Option World) (second : Told (OpenedAs t) z w) where
    -- no memory was left for the line
    pub same_no_memory : Later before now → Later other_before other_now → SameDone {A = Unit {0}} before now other_before other_now x y z w (Err stop.Memory)
    same_no_memory later other_later =
        record {
          kind = tt;
          caused = record { later = later; other_later = other_later; disk = λ e. absurd cc; output = λ e. absurd cc };
          refused = told_two (OpenedAs s) (OpenedAs t) (RefusesEither 7) x y z w (λ a b c d o p. both_opened 7 s t a b c d (λ e. absurd cc) o.opens p.opens) first second;
          compared = told_two (OpenedAs s) (OpenedAs t) (Compared 7) x y z w (λ a b c d o p. not_compared 7 a b c d (λ e. absurd cc) (λ e. absurd cc)) first second;
          quiet = λ e f. told_opened_alone x y s first;
          other_quiet = told_opened_alone z w t second;
          moments = tells_still x y (told_opened_moments x y s first);
          other_moments = told_opened_moments z w t second;
          records = λ e. absurd cc;
          other_records = λ e. absurd cc;
          ended = λ six. told_opened_ends x y s first;
          other_ended = λ six. told_opened_ends z w t second;
        }

    module _ (ch : Channel) (line : List ℕ) (last : Faults) (v : Option World) (same : Bool) (exactly : (same ≡ true) ↔ AreSame s.core t.core) (standard : ch ≡ record { 0 = 0 }) (is : line ≡ same_line s.core.state.count same) where
      -- the line didn't go out whole
      tells_part : (a b c d : World) → Behind s (EmitsPart ch line) a b → OpenedAs t c d → Compared 5 a b c d
      tells_part a b c d behind other =
          record {
            told = λ e. absurd cc;
            part = λ e. record {
              first = s;
              second = t;
              opens_first = behind.opening.opens;
              opens_second = other.opens;
              same = same;
              exactly = exactly;
              out = sends_part s a behind.between b behind.opening ch line (same_line s.core.state.count same) standard is behind.later;
            };
            told_for = λ form seat rs stands form' seat' rs' stands' e. absurd cc;
          }

      pub same_unsent : Later before now → Later other_before other_now → Later now last → Rose now.output last.output → Told (EmitsPart ch line) y v → SameDone {A = Unit {0}} before last other_before other_now x v z w (Err stop.Output)
      same_unsent later other_later after rose part =
          let behind = told_behind s (EmitsPart ch line) x y v first part in
          record {
            kind = tt;
            caused = record {
              later = later_then before now last later after;
              other_later = other_later;
              disk = λ e. absurd cc;
              output = λ e. rose_later before.output now.output last.output last.output later.output after.output (omega arith) rose;
            };
            refused = told_two (Behind s (EmitsPart ch line)) (OpenedAs t) (RefusesEither 5) x v z w (λ a b c d o p. both_opened 5 s t a b c d (λ e. absurd cc) o.opening.opens p.opens) behind second;
            compared = told_two (Behind s (EmitsPart ch line)) (OpenedAs t) (Compared 5) x v z w tells_part behind second;
            quiet = λ e f. absurd (f refl);
            other_quiet = told_opened_alone z w t second;
            moments = told_map (Behind s (EmitsPart ch line)) TellsMoments x v (λ a d o. torn_moments s a o.between d o.opening ch line o.later) behind;
            other_moments = told_opened_moments z w t second;
            records = λ e. absurd cc;
            other_records = λ e. absurd cc;
            ended = λ six. told_map (Behind s (EmitsPart ch line)) EndsKept x v (λ a d o. ends_kept a d (torn_records s a o.between d o.opening ch line o.later)) behind;
            other_ended = λ six. told_opened_ends z w t second;
          }

      -- it did
      sends : (a d : World) → Behind s (Emits ch line) a d → SendsLine s.core.state.count same a d
      sends a d behind =
          let action : Emit ch line true ≡ Emit (record { 0 = 0 }) (same_line s.core.state.count same) true = λ i. Emit (standard i) (is i) true in
          record {
            opening = behind.opening.good.added;
            on_device = behind.opening.good.on_device;
            opening_is = behind.opening.good.syncs;
            grew =
                behind.later.trace
                ∙ ap (λ (l : List Action). l ++ Emit ch line true ∷ []) behind.opening.good.grew
                ∙ append_assoc a.trace behind.opening.good.added (Emit ch line true ∷ [])
                ∙ ap (λ (one : Action). a.trace ++ (behind.opening.good.added ++ one ∷ [])) action;
          }

      module _ (a b c d : World) (behind : Behind s (Emits ch line) a b) (other : OpenedAs t c d) where
        tells : TellsSame a b c d
        tells =
            record {
              first = s;
              second = t;
              opens_first = behind.opening.opens;
              opens_second = other.opens;
              same = same;
              exactly = exactly;
              out = sends a b behind;
            }

        tells_for : (form : Form) (seat : Seat) (rs : List Record) → DeviceStandsFor form seat rs a.device → (form' : Form) (seat' : Seat) (rs' : List Record) → DeviceStandsFor form' seat' rs' c.device → TellsSameFor form form' rs rs' a b
        tells_for form seat rs stands form' seat' rs' stands' =
            let opens = behind.opening.opens in
            let instance = instance_opened s a.device form seat rs opens stands in
            let instance' = instance_opened t c.device form' seat' rs' other.opens stands' in
            let image = image_opened s a.device form seat rs opens stands in
            let image' = image_opened t c.device form' seat' rs' other.opens stands' in
            let count = count_opened s a.device form seat rs opens stands in
            record {
              same = same;
              exactly = (
                λ e. let both = exactly.0 e in (sym instance ∙ both.0 ∙ instance', sym image ∙ both.1 ∙ image'),
                λ both. exactly.1 (instance ∙ both.0 ∙ sym instance', image ∙ both.1 ∙ sym image'),
              );
              out = subst (λ (n : ℕ). SendsLine n same a b) count (sends a b behind);
            }

      pub same_sent : Later before now → Later other_before other_now → Later now last → Told (Emits ch line) y v → SameDone {A = Unit {0}} before last other_before other_now x v z w (Ok tt)
      same_sent later other_later after emitted =
          let behind = told_behind s (Emits ch line) x y v first emitted in
          record {
            kind = tt;
            caused = record { later = later_then before now last later after; other_later = other_later; disk = λ e. absurd cc; output = λ e. absurd cc };
            refused = told_two (Behind s (Emits ch line)) (OpenedAs t) (RefusesEither 0) x v z w (λ a b c d o p. both_opened 0 s t a b c d (λ e. absurd cc) o.opening.opens p.opens) behind second;
            compared =
                told_two (Behind s (Emits ch line)) (OpenedAs t) (Compared 0) x v z w (λ a b c d o p. record {
                  told = λ e. tells a b c d o p;
                  part = λ e. absurd cc;
                  told_for = λ form seat rs stands form' seat' rs' stands' e. tells_for a b c d o p form seat rs stands form' seat' rs' stands';
                }) behind second;
            quiet = λ e f. absurd (e refl);
            other_quiet = told_opened_alone z w t second;
            moments = told_map (Behind s (Emits ch line)) TellsMoments x v (λ a d o. emitted_moments s a o.between d o.opening ch line o.later) behind;
            other_moments = told_opened_moments z w t second;
            records = λ e. told_map (Behind s (Emits ch line)) KeepsRecords x v (λ a d o. emitted_records s a o.between d o.opening ch line o.later) behind;
            other_records = λ e. told_opened_records z w t second;
            ended = λ six. told_map (Behind s (Emits ch line)) EndsKept x v (λ a d o. ends_kept a d (emitted_records s a o.between d o.opening ch line o.later)) behind;
            other_ended = λ six. told_opened_ends z w t second;
          }
