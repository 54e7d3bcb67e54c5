-- What the programs' clauses say is what is said of runs of a device's life, and where runs end.
use Rattle.std.proofs.Common.{◌≡◌, ℕ, inl, inr, true, false, List, [], ◌∷◌, ◌++◌, length, Option, Some, refl, sym, subst, ◌∙◌, append-nil}
use Rattle.std.specs.Prelude.{◌⊎◌}
use Rattle.std.proofs.lemmas.List.{append_cancel_left}
use Rattle.iss_edge.specs.declared.outside.Action.{Action}
use Rattle.iss_edge.specs.declared.outside.Action.TheVariants.{Sync}
use Rattle.iss_edge.specs.declared.outside.Answered.{Answered}
use Rattle.iss_edge.specs.declared.status.TheConstants.{DONE, OUTPUT_FAULT, DISK_FAULT, OUT_OF_MEMORY}
use Rattle.iss_edge.specs.World.{World, Faults}
use Rattle.iss_edge.specs.Disk.{Disk, after_actions, IsAtRest, IsImage}
use Rattle.iss_edge.specs.Puts.{one_put, actions_of_puts, Puts}
use Rattle.iss_edge.specs.Stretches.{actions_of}
use Rattle.iss_journal.specs.Region.{ShowsClosed}
use Rattle.iss_halves.specs.Forms.{Form, Seat, in_halves, seat_at}
use Rattle.iss_halves.specs.Halves.{HoldsHalf}
use Rattle.iss_halves.specs.Making.{halves_puts, halves_tail}
use Rattle.iss_model.specs.declared.input.Record.{Record}
use Rattle.iss_image.specs.States.{image_of_state}
use Rattle.iss_standing.specs.Standing.{image_after, DeviceStandsFor}
use Rattle.iss_opening.specs.Opening.{ReadsAlone}
use Rattle.iss_device.specs.Moments.{StandsFirmly, EndsAtRest}
use Rattle.iss_device.specs.Lives.{NoneFailed, Keeps}
use Rattle.iss_device.proofs.Lives.{ended_runs_leave_calm, made_devices_keep}
use Rattle.iss_serve.specs.ServeRuns.{ServeOn, session_on_device, records_then}
use Rattle.iss_top.specs.Replays.{ReplayOn}
use Rattle.iss_top.specs.Reports.{ReportOn}
use Rattle.iss_top.specs.Commands.{ReplayDone, ReportDone, ServeDone}
use Rattle.iss_top.specs.FormatRuns.{first_seat, StandsForNone}
use Rattle.iss_follow_runs.specs.Moments.{EndsKept}
use Rattle.iss_follow_catch.specs.Catching.{EndsFirst}
use Rattle.iss_lives.specs.Clauses.{ClausesAreRuns, EndsCalm, RunsEndCalm, MadeDevicesKeepRecords}

-- ---- the clauses

pub clauses_are_runs : ClausesAreRuns
clauses_are_runs =
    record {
      replay = λ before now a b h k status done. inl done.moments;
      balances = λ before now a b status done. inr (inl done.moments);
      serve = λ turns before now a b h k status done. inr (inr (inl (record { turns = turns; status = status; before = h; after = k; run = done.session })));
      copy_from = λ size extent before now other_before other_now a b z w result done. inr (inr (inr (inr (inl done.moments))));
      catch_from = λ before now other_before other_now a b z w result done. inr (inr (inr (inr (inl done.moments))));
      catch_to = λ before now other_before other_now c d x y result done. inr (inr (inr (inr (inr done.kept))));
      same_from = λ before now other_before other_now a b z w result done. inr (inr (inr (inl done.moments)));
      same_to = λ before now other_before other_now c d x y result done. inr (inr (inr (inr (inl done.other_moments))));
    }

-- ---- where a run ends

-- it ended so, and did just this
record EndedSo (form : Form) (rs : List Record) (a b : World) : Type 0 where
  pub last : List Record
  pub actions : List Action
  pub grew : b.trace ≡ a.trace ++ actions
  pub how : ReadsAlone a b ⊎ EndsAtRest form rs last actions a b

abbrev EndedFor : World → World → Type 0
EndedFor a b = (form : Form) (seat : Seat) (rs : List Record) → DeviceStandsFor form seat rs a.device → EndedSo form rs a b

ends_calm : (a b : World) → EndedFor a b → EndsCalm a b
ends_calm a b ended form told rs d none begins actions grew =
    let e : EndedSo form rs a b = ended form begins.firm.0 rs begins.firm.1.stands in
    let same : e.actions ≡ actions = append_cancel_left a.trace e.actions actions (sym e.grew ∙ grew) in
    ended_runs_leave_calm form told rs e.last d actions a b none begins grew
    (subst (λ (l : List Action). ReadsAlone a b ⊎ EndsAtRest form rs e.last l a b) same e.how)

alone_so : (form : Form) (rs : List Record) (a b : World) → ReadsAlone a b → EndedSo form rs a b
alone_so form rs a b reads =
    elim reads.trace [
      | inl still ↦ record { last = rs; actions = []; grew = still ∙ sym (append-nil a.trace); how = inl reads }
      | inr synced ↦ record { last = rs; actions = Sync true ∷ []; grew = synced; how = inl reads }
    ]

kept_so : (a b : World) → EndsKept a b → EndedFor a b
kept_so a b kept form seat rs stands =
    elim (kept form seat rs stands) [
      | inl reads ↦ alone_so form rs a b reads
      | inr ends ↦ record { last = rs; actions = ends.actions; grew = ends.grew; how = inr ends.ends }
    ]

first_so : (a b : World) → EndsFirst a b → EndedFor a b
first_so a b first form seat rs stands =
    elim (first form seat rs stands) [
      | inl reads ↦ alone_so form rs a b reads
      | inr ends ↦ record { last = rs ++ ends.later; actions = ends.ends.actions; grew = ends.ends.grew; how = inr ends.ends.ends }
    ]

replay_so : (before now : Faults) (a b : World) (h k : Option (List Answered)) (status : ℕ) → ReplayDone before now (Some a) (Some b) h k status → (status ≡ DISK_FAULT → ⊥) → EndedFor a b
replay_so before now a b h k status done other form seat rs stands =
    let on : ReplayOn status form seat rs a b = done.output form seat rs stands in
    elim (on.ended other) [
      | inl reads ↦ record { last = rs; actions = on.actions; grew = on.grew; how = inl reads }
      | inr amid ↦ record { last = amid.made; actions = on.actions; grew = on.grew; how = inr amid.ends }
    ]

report_so : (before now : Faults) (a b : World) (status : ℕ) → ReportDone before now (Some a) (Some b) status → (status ≡ DONE) ⊎ ((status ≡ OUTPUT_FAULT) ⊎ (status ≡ OUT_OF_MEMORY)) → EndedFor a b
report_so before now a b status done how form seat rs stands =
    let on : ReportOn status form seat rs a b = done.output form seat rs stands in
    let so : ReadsAlone a b ⊎ EndsAtRest form rs rs (on.opening ++ on.sent) a b =
    elim how [
      | inl whole ↦ inr (on.ends (inl whole))
      | inr early ↦ elim early [
        | inl output ↦ inr (on.ends (inr output))
        | inr memory ↦ on.ended memory
      ]
    ] in
    record { last = rs; actions = on.opening ++ on.sent; grew = on.grew; how = so }

serve_so : (turns : ℕ) (before now : Faults) (a b : World) (h k : List Answered) (status : ℕ) → ServeDone turns before now (Some a) (Some b) (Some h) (Some k) status → (status ≡ DISK_FAULT → ⊥) → EndedFor a b
serve_so turns before now a b h k status done other form seat rs stands =
    let s = session_on_device turns form seat rs in
    let on : ServeOn turns status form seat rs (session_on_device turns form seat rs) (record { world = a; heard = h }) (record { world = b; heard = k }) = done.session form seat rs stands in
    record { last = records_then rs s on.happenings; actions = actions_of (on.opening ++ on.later); grew = on.grew; how = on.ended other }

pub runs_end_calm : RunsEndCalm
runs_end_calm =
    record {
      replay = λ before now a b h k status done other. ends_calm a b (replay_so before now a b h k status done other);
      balances = λ before now a b status done how. ends_calm a b (report_so before now a b status done how);
      serve = λ turns before now a b h k status done other. ends_calm a b (serve_so turns before now a b h k status done other);
      copy_from = λ size extent before now other_before other_now a b z w result done other. ends_calm a b (kept_so a b (done.ended other));
      catch_from = λ before now other_before other_now a b z w result done other. ends_calm a b (kept_so a b (done.ended other));
      catch_to = λ before now other_before other_now c d x y result done other. ends_calm c d (first_so c d (done.other_ended other));
      same_from = λ before now other_before other_now a b z w result done other. ends_calm a b (kept_so a b (done.ended other));
      same_to = λ before now other_before other_now c d x y result done other. ends_calm c d (kept_so c d (done.other_ended other));
      archive = λ a b kept. ends_calm a b (kept_so a b kept);
    }

-- ---- a device that was made

made_so : (form : Form) (rs : List Record) (instance : ℕ) (image : List ℕ) (a b : World) (d : Disk) (actions : List Action) → Puts (halves_puts instance image) a b
    → ((calm : Disk) → IsAtRest calm → calm.bytes ≡ a.device → (device : List ℕ) → IsImage (after_actions calm (actions_of_puts (halves_puts instance image))) device → device ≡ b.device)
    → StandsFirmly form rs b.device → NoneFailed d → d.bytes ≡ a.device → b.trace ≡ a.trace ++ actions → Keeps form rs (after_actions d actions)
unfolding halves_puts
made_so form rs instance image a b d actions puts lasts firm none reads grew =
    let same : actions ≡ actions_of_puts (halves_puts instance image) =
    append_cancel_left a.trace actions (actions_of_puts (halves_puts instance image)) (sym grew ∙ puts.trace) in
    subst (λ (l : List Action). Keeps form rs (after_actions d l)) (sym same)
    (made_devices_keep form rs (record { at = 0; bytes = 0 ∷ [] }) (one_put 1 (halves_tail instance image) ++ one_put 0 (1 ∷ [])) d b.device none
    (λ calm rest is. lasts calm rest (is ∙ reads)) firm)

no_image : image_after [] ≡ []
unfolding image_of_state
no_image = refl

none_firmly : (instance size : ℕ) (device : List ℕ) → StandsForNone instance size device → StandsFirmly (in_halves instance size) [] device
none_firmly instance size device none = (
  first_seat,
  record {
    stands = none.stands;
    firm = inl (subst (λ (image : List ℕ). HoldsHalf instance size false image (λ region. ShowsClosed region [] device)) (sym no_image) none.rests);
  },
)

pub made_devices_keep_records : MadeDevicesKeepRecords
made_devices_keep_records =
    record {
      formatted = λ instance a b d actions formats none reads grew.
          made_so (in_halves instance (length a.device)) [] instance [] a b d actions formats.makes.made formats.makes.lasts (none_firmly instance (length a.device) b.device formats.stands) none reads grew;
      copied = λ instance rs a b d actions made none reads grew.
          made_so (in_halves instance (length a.device)) rs instance (image_after rs) a b d actions made.made made.lasts (seat_at false (length rs), made.is_copy) none reads grew;
    }
