-- What catching up did at each of its ends.
use Rattle.std.proofs.Common.{◌≡◌, ℕ, inl, inr, Bool, true, false, List, [], ◌++◌, length, take, drop, Option, Ok, Err, refl, sym, ap, subst, ◌∙◌, append_assoc, arith}
use Rattle.std.specs.Prelude.{Result, IsErrOf}
use Rattle.iss_edge.specs.World.{World, Told, Faults, Later, Rose}
use Rattle.iss_edge.specs.Calls.{Same}
use Rattle.iss_edge.proofs.Tolds.{told_map, told_self, same_self, later_self, later_then, rose_later}
use Rattle.iss_halves.specs.Forms.{Form, Seat}
use Rattle.iss_model.specs.declared.input.Record.{Record}
use Rattle.iss_model.specs.run.Rooms.{Room}
use Rattle.iss_standing.specs.Standing.{AreHistory, image_after, DeviceStandsFor}
use Rattle.iss_standing.specs.Rooms.{room_in}
use Rattle.iss_standing.proofs.Few.{few_stand}
use Rattle.iss_opening.specs.declared.fault.OpenFault.{OpenFault}
use Rattle.iss_opening.specs.declared.fault.OpenFault.TheVariants as open_fault
use Rattle.iss_opening.specs.Values.{StoreNow}
use Rattle.iss_opening.specs.Standing.{StandsFor}
use Rattle.iss_opening.specs.Opening.{Opens, OpensGood, OpenedAs, ReadsAlone, OnRefused, OpenCause}
use Rattle.iss_opening.proofs.Stores.{opened_stand}
use Rattle.iss_opening.proofs.Telling.{same_alone, same_good, told_both}
use Rattle.iss_device.proofs.Devices.{Behind, told_behind}
use Rattle.iss_follow_runs.specs.declared.stop.Stop.{Stop}
use Rattle.iss_follow_runs.specs.declared.stop.Stop.TheVariants as stop
use Rattle.iss_follow_runs.specs.Statuses.{exit_status, stop_of_opening}
use Rattle.iss_follow_runs.specs.Moments.{KeepsMoments, EndsKept}
use Rattle.iss_follow_runs.specs.Causes.{BothTold}
use Rattle.iss_follow_runs.specs.Refusals.{RefusesEither}
use Rattle.iss_follow_runs.specs.Holdings.{image_of}
use Rattle.iss_follow_runs.proofs.Images.{image_opened, instance_opened, count_opened, room_opened}
use Rattle.iss_follow_runs.proofs.Openings.{moments_unopened, moments_opened, moments_part, ends_alone, ends_opened, ends_so}
use Rattle.iss_follow_runs.proofs.Refusals.{first_refused, second_refused, both_opened}
use Rattle.iss_follow_runs.proofs.Tellings.{status_of, not_status, caused_second, told_unopened_moments, told_unopened_alone, told_unopened_ends, told_opened_moments, told_opened_records, told_opened_alone, told_opened_ends}
use Rattle.iss_follow_catch.specs.Rooms.{room_on, room_behind, FitsNext, FitsAll}
use Rattle.iss_follow_catch.specs.Committing.{LastsInPart, LastsSome, WhereLeft, CommitsAll, CommitsUpTo, CommitRun, DiskCaused, EndsAsCommit}
use Rattle.iss_follow_catch.specs.Behind.{IsPastCore, FindsCore, OpensAhead}
use Rattle.iss_follow_catch.specs.Writing.{WrotePart}
use Rattle.iss_follow_catch.specs.Catching.{IsBehind, missing, caught_up, MomentsUpTo, CaughtUp, CaughtUpTo, CatchOn, CatchRun, KeepsFirst, EndsFirst, EndsAsCatch, CatchDone}
use Rattle.iss_follow_catch.proofs.Pasts.{caught_history}
use Rattle.iss_follow_catch.proofs.Writes.{alone_part, alone_wrote, wrote_first, wrote_whole}
use Rattle.iss_follow_catch.proofs.Firsts.{keeps_first, quiet_part, first_some, told_first_kept}

-- what holds of what both tell
told_two : (R S : World → World → Type 0) (T : World → World → World → World → Type 0) (x y z w : Option World) → ((a b c d : World) → R a b → S c d → T a b c d) → Told R x y → Told S z w → BothTold T x y z w
told_two R S T x y z w f first second =
    told_map R (λ a b. Told (T a b) z w) x y (λ a b r. told_map S (T a b) z w (λ c d s. f a b c d r s) second) first

-- ---- nothing was committed

module _ (form : Form) (seat : Seat) (rs : List Record) (other : Form) (other_seat : Seat) (others : List Record) (c d : World) where
  no_moments : KeepsMoments c d → DeviceStandsFor other other_seat others c.device → MomentsUpTo other others (caught_up rs others) c d
  no_moments keeps stands =
      record { made = others; first = record { later = missing rs others; cut = refl }; moments = (keeps other other_seat others stands).0 }

  nothing_on : (n : ℕ) → (n ≡ 0 → ⊥) → (n ≡ 9 → ⊥) → (n ≡ 10 → ⊥) → KeepsMoments c d → DeviceStandsFor other other_seat others c.device → CatchOn n form seat rs other other_seat others c d
  nothing_on n zero nine ten keeps stands =
      record {
        behind = λ e. absurd (elim e [ inl x ↦ zero x | inr x ↦ nine x ]);
        not_behind = λ e. absurd (ten e);
        whole = λ e. absurd (zero e);
        full = λ e. absurd (nine e);
        moments = no_moments keeps stands;
        wrote = alone_part other other_seat others (missing rs others) c d (keeps other other_seat others stands);
      }

nothing_caught : (n : ℕ) (a b c d : World) → (n ≡ 0 → ⊥) → (n ≡ 9 → ⊥) → (n ≡ 10 → ⊥) → KeepsMoments c d → CatchRun n a b c d
nothing_caught n a b c d zero nine ten keeps form seat rs stands other other_seat others there =
    nothing_on form seat rs other other_seat others c d n zero nine ten keeps there

not_zero : (fault : OpenFault) → status_of fault ≡ 0 → ⊥
not_zero fault = not_status fault 0 (λ e. absurd cc) (λ e. absurd cc) (λ e. absurd cc)

not_nine : (fault : OpenFault) → status_of fault ≡ 9 → ⊥
not_nine fault = not_status fault 9 (λ e. absurd cc) (λ e. absurd cc) (λ e. absurd cc)

not_ten : (fault : OpenFault) → status_of fault ≡ 10 → ⊥
not_ten fault = not_status fault 10 (λ e. absurd cc) (λ e. absurd cc) (λ e. absurd cc)

kind_of : (fault : OpenFault) → EndsAsCatch {A = Unit {0}} (Err (stop_of_opening fault))
kind_of open_fault.Disk = tt
kind_of open_fault.OutOfMemory = tt
kind_of open_fault.NotFormatted = tt
kind_of (open_fault.BadImage place) = tt
kind_of (open_fault.BadRecord gate) = tt
kind_of (open_fault.BadSpelling gate) = tt
kind_of (open_fault.BadHistory gate) = tt

-- the cause of a fault of the first opening
disk_risen : {T : Type 0} (fault : OpenFault) (before now : Faults) → OpenCause {T = T} before now (Err fault) → IsErrOf {T = Unit {0}} (Err (stop_of_opening fault)) stop.Disk → Rose before.disk now.disk
disk_risen open_fault.Disk before now cause e = cause.disk refl
disk_risen open_fault.OutOfMemory before now cause e = absurd cc
disk_risen open_fault.NotFormatted before now cause e = absurd cc
disk_risen (open_fault.BadImage place) before now cause e = absurd cc
disk_risen (open_fault.BadRecord gate) before now cause e = absurd cc
disk_risen (open_fault.BadSpelling gate) before now cause e = absurd cc
disk_risen (open_fault.BadHistory gate) before now cause e = absurd cc

no_output_of : (fault : OpenFault) → IsErrOf {T = Unit {0}} (Err (stop_of_opening fault)) stop.Output → ⊥
no_output_of open_fault.Disk e = cc
no_output_of open_fault.OutOfMemory e = cc
no_output_of open_fault.NotFormatted e = cc
no_output_of (open_fault.BadImage place) e = cc
no_output_of (open_fault.BadRecord gate) e = cc
no_output_of (open_fault.BadSpelling gate) e = cc
no_output_of (open_fault.BadHistory gate) e = cc

-- the second device wasn't opened, and nothing was done on the first
pub to_unopened : {T : Type 0} (fault : OpenFault) (g other_before other_now : Faults) (x z w : Option World) → Told (Opens (Err fault)) z w → Told OpensGood z w → OnRefused {T = StoreNow} (Err fault) (Told ReadsAlone z w)
    → OpenCause {T = T} other_before other_now (Err fault)
    → CatchDone {A = Unit {0}} g g other_before other_now x x z w (Err (stop_of_opening fault))
to_unopened fault g other_before other_now x z w opens good reads cause =
    let n = status_of fault in
    let still : Told OpensGood x x = same_good x x (told_self Same x same_self) in
    record {
      kind = kind_of fault;
      caused = caused_second fault g g other_before other_now (later_self g) cause;
      refused =
          told_two OpensGood (λ c d. Opens (Err fault) c d × OpensGood c d) (RefusesEither n) x x z w (λ a b c d p q. second_refused fault a b c d p q.1 q.0) still
          (told_both (Opens (Err fault)) OpensGood z w opens good);
      moments = told_unopened_moments x x still;
      records = λ e. absurd (not_zero fault e);
      kept = told_map OpensGood KeepsFirst z w (λ c d q. keeps_first c d (moments_unopened c d q)) good;
      quiet = told_unopened_alone x x still;
      ended = λ six. told_map ReadsAlone EndsKept x x ends_alone (same_alone x x (told_self Same x same_self));
      other_ended = λ six. told_first_kept z w (told_unopened_moments z w good) (told_unopened_ends z w StoreNow fault six reads);
      caught = told_two OpensGood OpensGood (CatchRun n) x x z w (λ a b c d p q. nothing_caught n a b c d (not_zero fault) (not_nine fault) (not_ten fault) (moments_unopened c d q)) still good;
    }

module _ (t : StoreNow) (other_before other_now : Faults) (z w : Option World) (second : Told (OpenedAs t) z w) (other_later : Later other_before other_now) where
  -- the first device wasn't opened
  pub from_unopened : {T : Type 0} (fault : OpenFault) (before now : Faults) (x y : Option World) → Told (Opens (Err fault)) x y → Told OpensGood x y → OnRefused {T = StoreNow} (Err fault) (Told ReadsAlone x y)
      → OpenCause {T = T} before now (Err fault)
      → CatchDone {A = Unit {0}} before now other_before other_now x y z w (Err (stop_of_opening fault))
  from_unopened fault before now x y opens good reads cause =
      let n = status_of fault in
      record {
        kind = kind_of fault;
        caused = record {
          later = cause.later;
          other_later = other_later;
          disk = λ e. inl (disk_risen fault before now cause e);
          output = λ e. absurd (no_output_of fault e);
        };
        refused =
            told_two (λ a b. Opens (Err fault) a b × OpensGood a b) (OpenedAs t) (RefusesEither n) x y z w (λ a b c d p o. first_refused fault a b c d p.1 o.good p.0)
            (told_both (Opens (Err fault)) OpensGood x y opens good) second;
        moments = told_unopened_moments x y good;
        records = λ e. absurd (not_zero fault e);
        kept = told_map (OpenedAs t) KeepsFirst z w (λ c d q. keeps_first c d (moments_opened t c d q)) second;
        quiet = told_unopened_alone x y good;
        ended = λ six. told_unopened_ends x y StoreNow fault six reads;
        other_ended = λ six. told_first_kept z w (told_opened_moments z w t second) (told_opened_ends z w t second);
        caught =
            told_two OpensGood (OpenedAs t) (CatchRun n) x y z w
            (λ a b c d p q. nothing_caught n a b c d (not_zero fault) (not_nine fault) (not_ten fault) (moments_opened t c d q)) good second;
      }

  -- ---- both were opened

  module _ (s : StoreNow) (met : Bool) (found : List Record) (before now : Faults) (x y : Option World) (first : Told (OpensAhead s t.core met found) x y) (later : Later before now) where
    opened_first : Told (OpenedAs s) x y
    opened_first = told_map (OpensAhead s t.core met found) (OpenedAs s) x y (λ a b o. o.opened) first

    module _ (a b c d : World) (ahead : OpensAhead s t.core met found a b) (opened : OpenedAs t c d) (form : Form) (seat : Seat) (rs : List Record) (stands : DeviceStandsFor form seat rs a.device) (other : Form) (other_seat : Seat) (others : List Record) (there : DeviceStandsFor other other_seat others c.device) where
      count_is : t.core.state.count ≡ length others
      count_is = count_opened t c.device other other_seat others opened.opens there

      instances : s.core.instance ≡ form.instance
      instances = instance_opened s a.device form seat rs ahead.opened.opens stands

      other_instances : t.core.instance ≡ other.instance
      other_instances = instance_opened t c.device other other_seat others opened.opens there

      image_is : image_of t.core ≡ image_after others
      image_is = image_opened t c.device other other_seat others opened.opens there

      -- by the records it is the same as by the cores
      is_behind : IsPastCore s.core t.core seat rs → IsBehind form seat rs other others
      is_behind core =
          record {
            instance = sym instances ∙ core.instance ∙ other_instances;
            low = omega (arith, core.low, count_is);
            high = omega (arith, core.high, count_is);
            image = sym image_is ∙ core.image ∙ ap (λ (n : ℕ). image_after (take n rs)) count_is;
          }

      is_past : IsBehind form seat rs other others → IsPastCore s.core t.core seat rs
      is_past behind =
          record {
            instance = instances ∙ behind.instance ∙ sym other_instances;
            low = omega (arith, behind.low, count_is);
            high = omega (arith, behind.high, count_is);
            image = image_is ∙ behind.image ∙ ap (λ (n : ℕ). image_after (take n rs)) (sym count_is);
          }

      not_behind_on : met ≡ false → CatchOn 10 form seat rs other other_seat others c d
      not_behind_on none =
          record {
            behind = λ e. absurd (elim e [ inl x ↦ cc | inr x ↦ cc ]);
            not_behind = λ e. (
              λ behind. subst (λ (m : Bool). FindsCore s.core t.core seat rs m found) none (ahead.finds form seat rs stands) (is_past behind),
              (ends_opened t c d opened other other_seat others there, alone_wrote other other_seat others c d (moments_opened t c d opened other other_seat others there)),
            );
            whole = λ e. absurd cc;
            full = λ e. absurd cc;
            moments = no_moments form seat rs other other_seat others c d (moments_opened t c d opened) there;
            wrote = alone_part other other_seat others (missing rs others) c d (moments_opened t c d opened other other_seat others there);
          }

    pub catch_not_behind : met ≡ false → CatchDone {A = Unit {0}} before now other_before other_now x y z w (Err stop.NotBehind)
    catch_not_behind none =
        record {
          kind = tt;
          caused = record { later = later; other_later = other_later; disk = λ e. absurd cc; output = λ e. absurd cc };
          refused = told_two (OpenedAs s) (OpenedAs t) (RefusesEither 10) x y z w (λ a b c d o p. both_opened 10 s t a b c d (λ e. absurd cc) o.opens p.opens) opened_first second;
          moments = told_opened_moments x y s opened_first;
          records = λ e. absurd cc;
          kept = told_map (OpenedAs t) KeepsFirst z w (λ c d q. keeps_first c d (moments_opened t c d q)) second;
          quiet = told_opened_alone x y s opened_first;
          ended = λ six. told_opened_ends x y s opened_first;
          other_ended = λ six. told_first_kept z w (told_opened_moments z w t second) (told_opened_ends z w t second);
          caught =
              told_two (OpensAhead s t.core met found) (OpenedAs t) (CatchRun 10) x y z w (λ a b c d o q form seat rs stands other other_seat others there.
              not_behind_on a b c d o q form seat rs stands other other_seat others there none) first second;
        }

    -- ---- it is behind, and what came after its records was committed, or a part of it

    module _ (is : met ≡ true) (a b c d e : World) (ahead : OpensAhead s t.core met found a b) (opened : OpenedAs t c d) (form : Form) (seat : Seat) (rs : List Record) (stands : DeviceStandsFor form seat rs a.device) (other : Form) (other_seat : Seat) (others : List Record) (there : DeviceStandsFor other other_seat others c.device) where
      both_found : IsPastCore s.core t.core seat rs × (found ≡ drop t.core.state.count rs)
      both_found = subst (λ (m : Bool). FindsCore s.core t.core seat rs m found) is (ahead.finds form seat rs stands)

      behind_here : IsBehind form seat rs other others
      behind_here = is_behind a b c d ahead opened form seat rs stands other other_seat others there both_found.0

      later_are : found ≡ missing rs others
      later_are =
          both_found.1 ∙ ap (λ (n : ℕ). drop n rs) (count_is a b c d ahead opened form seat rs stands other other_seat others there)

      all_history : AreHistory (others ++ missing rs others)
      all_history =
          caught_history rs others stands.history there.history (few_stand form seat rs a.device stands) behind_here.high behind_here.image

      own_stands : StandsFor t others
      own_stands = (opened_stand t c.device other other_seat others opened.opens there).stands

      own_room : room_on t ≡ room_in other other_seat
      own_room = room_opened t c.device other other_seat others opened.opens there

      part_on : LastsInPart t (missing rs others) d e → MomentsUpTo other others (caught_up rs others) c e
      part_on lasts =
          let part = lasts others own_stands in
          record {
            made = others ++ part.done;
            first = record {
              later = part.first.later;
              cut = ap (λ (l : List Record). others ++ l) part.first.cut ∙ sym (append_assoc others part.done part.first.later);
            };
            moments = moments_part other other_seat others t c d e opened there (others ++ part.done) [] part.goes;
          }

      wrote_on : LastsInPart t (missing rs others) d e → WrotePart other other_seat others (missing rs others) c e
      wrote_on lasts =
          let part = lasts others own_stands in
          wrote_first t c d e opened other other_seat others there part.done (missing rs others) part.first part.goes

      whole_on : CommitsAll t (missing rs others) others d e → CaughtUp other other_seat others (missing rs others) c e
      whole_on all =
          record {
            fit = subst (λ (room : Room). FitsAll room others (missing rs others)) own_room all.fit;
            ends = ends_so other other_seat others t c d e opened there all.to (others ++ missing rs others) [] all.goes;
            wrote = wrote_whole t c d e opened other other_seat others there all.to (missing rs others) all.goes;
          }

      full_on : CommitsUpTo t (missing rs others) others d e → CaughtUpTo other other_seat others (missing rs others) c e
      full_on some =
          record {
            up_to = record {
              first = some.up_to.first;
              r = some.up_to.r;
              rest = some.up_to.rest;
              cut = some.up_to.cut;
              fit = subst (λ (room : Room). FitsAll room others some.up_to.first) own_room some.up_to.fit;
              full = subst (λ (room : Room). FitsNext (room_behind room others some.up_to.first) (others ++ some.up_to.first) some.up_to.r → ⊥) own_room some.up_to.full;
            };
            ends = ends_so other other_seat others t c d e opened there some.to (others ++ some.up_to.first) [] some.goes;
            wrote = wrote_whole t c d e opened other other_seat others there some.to some.up_to.first some.goes;
          }

      run_on : (result : Result (Unit {0}) Stop) → CommitRun t (missing rs others) result d e → LastsInPart t (missing rs others) d e → CatchOn (exit_status result) form seat rs other other_seat others c e
      run_on (Ok tt) run part =
          record {
            behind = λ x. behind_here;
            not_behind = λ x. absurd cc;
            whole = λ x. whole_on (run others own_stands);
            full = λ x. absurd cc;
            moments = part_on part;
            wrote = wrote_on part;
          }
      run_on (Err stop.NoRoom) run part =
          record {
            behind = λ x. behind_here;
            not_behind = λ x. absurd cc;
            whole = λ x. absurd cc;
            full = λ x. full_on (run others own_stands all_history);
            moments = part_on part;
            wrote = wrote_on part;
          }
      run_on (Err stop.NotBehind) run part = absurd (run others own_stands all_history)
      run_on (Err stop.Disk) run part =
          record { behind = λ x. behind_here; not_behind = λ x. absurd cc; whole = λ x. absurd cc; full = λ x. absurd cc; moments = part_on part; wrote = wrote_on part }
      run_on (Err stop.Memory) run part =
          record { behind = λ x. behind_here; not_behind = λ x. absurd cc; whole = λ x. absurd cc; full = λ x. absurd cc; moments = part_on part; wrote = wrote_on part }
      run_on (Err stop.Device) run part = absurd run
      run_on (Err stop.Output) run part = absurd run

    module _ (is : met ≡ true) (records : List Record) (same : records ≡ found) (result : Result (Unit {0}) Stop) (other_last : Faults) (u : Option World) (kind : EndsAsCommit result) (ran : Told (CommitRun t records result) w u) (part : Told (LastsInPart t records) w u) (left : WhereLeft result (Told (LastsSome t) w u)) (cause : DiskCaused other_now other_last result) where
      committed : Told (Behind t (λ d e. CommitRun t records result d e × LastsInPart t records d e)) z u
      committed = told_behind t (λ d e. CommitRun t records result d e × LastsInPart t records d e) z w u second (told_both (CommitRun t records result) (LastsInPart t records) w u ran part)

      ended_some : Told (LastsSome t) w u → Told EndsFirst z u
      ended_some some =
          told_map (Behind t (LastsSome t)) EndsFirst z u (λ c e p. first_some t c p.between e p.opening p.later) (told_behind t (LastsSome t) z w u second some)

      left_some : (result : Result (Unit {0}) Stop) → (exit_status result ≡ 6 → ⊥) → WhereLeft result (Told (LastsSome t) w u) → Told (LastsSome t) w u
      left_some (Ok tt) six left = left
      left_some (Err stop.NoRoom) six left = left
      left_some (Err stop.NotBehind) six left = left
      left_some (Err stop.Memory) six left = left
      left_some (Err stop.Device) six left = left
      left_some (Err stop.Output) six left = left
      left_some (Err stop.Disk) six left = absurd (six refl)

      pub catch_ran : CatchDone before now other_before other_last x y z u result
      catch_ran =
          record {
            kind = kind_as result kind;
            caused = record {
              later = later;
              other_later = later_then other_before other_now other_last other_later cause.later;
              disk = λ e. inr (rose_later other_before.disk other_now.disk other_last.disk other_last.disk other_later.disk cause.later.disk (omega arith) (cause.disk e));
              output = λ e. absurd (no_output result kind e);
            };
            refused =
                told_two (OpenedAs s) (Behind t (λ d e. CommitRun t records result d e × LastsInPart t records d e)) (RefusesEither (exit_status result)) x y z u
                (λ a b c e o p. both_opened (exit_status result) s t a b c e (not_four result kind) o.opens p.opening.opens) opened_first committed;
            moments = told_opened_moments x y s opened_first;
            records = λ e. told_opened_records x y s opened_first;
            kept =
                told_map (Behind t (λ d e. CommitRun t records result d e × LastsInPart t records d e)) KeepsFirst z u
                (λ c e p form seat rs stands.
                let part = p.later.1 rs (opened_stand t c.device form seat rs p.opening.opens stands).stands in
                (rs ++ part.done, quiet_part t c p.between e p.opening form seat rs stands (rs ++ part.done) part.goes)) committed;
            quiet = told_opened_alone x y s opened_first;
            ended = λ six. told_opened_ends x y s opened_first;
            other_ended = λ six. ended_some (left_some result six left);
            caught =
                told_two (OpensAhead s t.core met found) (Behind t (λ d e. CommitRun t records result d e × LastsInPart t records d e)) (CatchRun (exit_status result)) x y z u
                (λ a b c e o p form seat rs stands other other_seat others there.
                let those : records ≡ missing rs others = same ∙ later_are is a b c p.between e o p.opening form seat rs stands other other_seat others there in
                run_on is a b c p.between e o p.opening form seat rs stands other other_seat others there result
                (subst (λ (l : List Record). CommitRun t l result p.between e) those p.later.0)
                (subst (λ (l : List Record). LastsInPart t l p.between e) those p.later.1)) first committed;
          }
        where
          kind_as : (result : Result (Unit {0}) Stop) → EndsAsCommit result → EndsAsCatch result
          kind_as (Ok tt) k = tt
          kind_as (Err stop.NoRoom) k = tt
          kind_as (Err stop.NotBehind) k = tt
          kind_as (Err stop.Disk) k = tt
          kind_as (Err stop.Memory) k = tt
          kind_as (Err stop.Device) k = absurd k
          kind_as (Err stop.Output) k = absurd k

          no_output : (result : Result (Unit {0}) Stop) → EndsAsCommit result → IsErrOf result stop.Output → ⊥
          no_output (Ok tt) k e = absurd cc
          no_output (Err stop.NoRoom) k e = absurd cc
          no_output (Err stop.NotBehind) k e = absurd cc
          no_output (Err stop.Disk) k e = absurd cc
          no_output (Err stop.Memory) k e = absurd cc
          no_output (Err stop.Device) k e = k
          no_output (Err stop.Output) k e = k

          not_four : (result : Result (Unit {0}) Stop) → EndsAsCommit result → exit_status result ≡ 4 → ⊥
          not_four (Ok tt) k e = absurd cc
          not_four (Err stop.NoRoom) k e = absurd cc
          not_four (Err stop.NotBehind) k e = absurd cc
          not_four (Err stop.Disk) k e = absurd cc
          not_four (Err stop.Memory) k e = absurd cc
          not_four (Err stop.Device) k e = k
          not_four (Err stop.Output) k e = absurd cc
