-- A device keeps what was told over its whole life.
use Rattle.std.proofs.Common.{◌≡◌, ◌≤◌, ◌<◌, ◌⊎◌, ℕ, zero, suc, Bool, true, false, not, ◌&&◌, if◌then◌else◌, inl, inr, List, [], ◌∷◌, ◌++◌, length, take, drop, refl, sym, ap, subst, ◌∙◌, arith, append-nil}
use Rattle.std.proofs.lemmas.List.{take_all, take-append-drop, length-take-le, append_cancel_left}
use Rattle.iss_edge.specs.declared.outside.Action.{Action}
use Rattle.iss_edge.specs.declared.outside.Action.TheVariants.{Write, Sync, Emit, Dial, Close}
use Rattle.iss_edge.specs.World.{World}
use Rattle.iss_edge.specs.Disk.{Disk, after_action, after_actions, disk_at_rest, is_settled, splice, touches, IsImage}
use Rattle.iss_edge.specs.Puts.{Put, actions_of_puts}
use Rattle.iss_edge.specs.Stretches.{Step, actions_of, sent_level, SentUpTo}
use Rattle.iss_edge.proofs.StretchLemmas.{sent_front, sent_weaker}
use Rattle.iss_halves.specs.Forms.{Form}
use Rattle.iss_model.specs.declared.input.Record.{Record}
use Rattle.iss_standing.specs.Goings.{AreFirstOf}
use Rattle.iss_standing.proofs.Bodies.{first_self, first_then, first_length, first_taken}
use Rattle.iss_opening.specs.Opening.{AreOnDevice, is_on_device, ReadsAlone}
use Rattle.iss_device.specs.Moments.{BeginsAtRest, BeginsUnsynced, StandsFirmly, StopStands, AsBefore, EachStopStands, EndsAtRest}
use Rattle.iss_device.specs.Lives.{HoldsOn, NoneFailed, Keeps, AreTold, CallsGo, IsKilled, IsStopped, HasEnded, RunEnds, DevicesKeepWhatWasTold, RunSays, BeginsOn, GoesOnTo, RunsGoOn, LeavesCalm, EndedRunsLeaveCalm, MadeDevicesKeep}
use Rattle.iss_device.proofs.Firmly.{begins_firmly}

-- ---- lists

-- of two first parts of a list, the shorter one is a first part of the longer one
shorter : (a b all : List Record) → AreFirstOf a all → AreFirstOf b all → length a ≤ length b → AreFirstOf a b
shorter a b all first second le =
    let whole : take (length a) b ≡ a =
    sym (first_taken (length a) b all second le) ∙ first_taken (length a) a all first (omega arith) ∙ take_all (length a) a (omega arith) in
    record { later = drop (length a) b; cut = sym (take-append-drop (length a) b) ∙ ap (λ (l : List Record). l ++ drop (length a) b) whole }

one_more : (a rs : List Record) (r : Record) → AreFirstOf a rs → AreFirstOf a (rs ++ r ∷ [])
one_more a rs r first = first_then a rs (rs ++ r ∷ []) first (record { later = r ∷ []; cut = refl })

-- ---- what went out

quiet : (action : Action) (level n : ℕ) → is_on_device action ≡ true → sent_level action level ≤ n
quiet (Write at bytes ok) level n alone = omega arith
quiet (Sync ok) level n alone = omega arith
quiet (Emit ch bytes ok) level n alone = absurd cc
quiet (Dial ch) level n alone = absurd cc
quiet (Close ch) level n alone = absurd cc

-- no action on the device sends anything
silent : (steps : List Step) → AreOnDevice (actions_of steps) → (n : ℕ) → SentUpTo n steps
silent [] alone n = tt
silent (step ∷ steps) alone n = (quiet step.action step.level n alone.0, silent steps alone.1 n)

-- ---- writes that succeed leave nothing failed

either_false : (touched f b : Bool) → f ≡ false → b ≡ false → (if touched then b else f) ≡ false
either_false true f b none ok = ok
either_false false f b none ok = none

none_fails : (actions : List Action) (d : Disk) → CallsGo actions → ((place : ℕ) → d.failed place ≡ false) → (place : ℕ) → (after_actions d actions).failed place ≡ false
none_fails [] d go none = none
none_fails (Write at bytes ok ∷ actions) d go none =
    none_fails actions (after_action d (Write at bytes ok)) go.1 (λ place. either_false (touches at bytes place) (d.failed place) (not ok) (none place) (ap not go.0))
none_fails (Sync true ∷ actions) d go none = none_fails actions (after_action d (Sync true)) go.1 none
none_fails (Sync false ∷ actions) d go none = absurd cc
none_fails (Emit ch bytes ok ∷ actions) d go none = none_fails actions d go none
none_fails (Dial ch ∷ actions) d go none = none_fails actions d go none
none_fails (Close ch ∷ actions) d go none = none_fails actions d go none

-- ---- images

reads_so : (d : Disk) → IsImage d d.bytes
reads_so d = record { size = refl; settled = λ place low is. refl }

-- what a stop leaves after a kill is what it might have left before
killed_image : (amid now : Disk) (image : List ℕ) → IsKilled amid now → IsImage now image → IsImage amid image
killed_image amid now image killed is =
    record {
      size = is.size ∙ killed.reads.size;
      settled = λ place low settled.
          let there : is_settled now place ≡ true =
          ap (λ (b : Bool). not b && not (now.failed place)) (killed.touched place) ∙ ap (λ (b : Bool). not (amid.touched place) && not b) (killed.failed place) ∙ settled in
          let within : place < length now.bytes = omega (arith, low, killed.reads.size) in
          is.settled place within there ∙ killed.reads.settled place low settled;
    }

-- after the machine stopped, what is read is all that there is
stopped_image : (amid now : Disk) (image : List ℕ) → IsStopped amid now → IsImage now image → IsImage amid image
stopped_image amid now image stopped is =
    record {
      size = is.size ∙ stopped.left.size;
      settled = λ place low settled.
          let there : is_settled now place ≡ true =
          ap (λ (b : Bool). not b && not (now.failed place)) (stopped.rest place) ∙ ap (λ (b : Bool). not b) (stopped.whole place) in
          let within : place < length now.bytes = omega (arith, low, stopped.left.size) in
          is.settled place within there ∙ stopped.left.settled place low settled;
    }

-- ---- a run

module _ (form : Form) (told told' : List Record) (d d' : Disk) (keeps : Keeps form told d) (run : RunEnds form told d told' d') where
  abbrev amid : Disk
  amid = after_actions d (actions_of run.before)

  -- the records that are told now are a first part of those for which an image stands
  stands_on : (image : List ℕ) → StopStands form run.rs run.made run.before image → HoldsOn form told' image
  stands_on image stop =
      let told_first : length told ≤ length run.rs = first_length told run.rs run.kept in
      elim stop.which [
        | inl part ↦
            let few : length told' ≤ length stop.now = run.now_told.least (length stop.now) (omega (arith, told_first, stop.least)) stop.told in
            record { rs = stop.now; firm = stop.firm; kept = shorter told' stop.now run.made run.now_told.first part few }
        | inr one ↦
            let few : length told' ≤ length run.rs = run.now_told.least (length run.rs) told_first one.untold in
            record {
              rs = stop.now;
              firm = stop.firm;
              kept = subst (λ (l : List Record). AreFirstOf told' l) (sym one.more) (one_more told' run.rs one.r (shorter told' run.rs run.made run.now_told.first run.first few));
            }
      ]

  -- as long as nothing of the opening is synced, nothing was told either
  stands_before : (image : List ℕ) → AsBefore run.opening run.before d image → HoldsOn form told' image
  stands_before image was =
      let nothing : SentUpTo (length told) run.before =
      sent_front (length told) run.before was.within.0 (subst (λ (l : List Step). SentUpTo (length told) l) was.within.1 (silent run.opening run.opening_alone (length told))) in
      let few : length told' ≤ length told = run.now_told.least (length told) (omega arith) nothing in
      let held = keeps.each image was.is_image in
      record {
        rs = held.rs;
        firm = held.firm;
        kept = first_then told' told held.rs (shorter told' told run.made run.now_told.first (first_then told run.rs run.made run.kept run.first) few) held.kept;
      }

  -- each image of the moment at which it ended
  image_holds : (image : List ℕ) → IsImage amid image → HoldsOn form told' image
  image_holds image is =
      elim (run.stops d keeps.none_failed refl run.stood run.before run.rest run.cut image is) [
        | inl was ↦ stands_before image was
        | inr stop ↦ stands_on image stop
      ]

  run_keeps : Keeps form told' d'
  run_keeps =
      elim run.ends [
        | inl killed ↦ record {
          none_failed = λ place. killed.1.failed place ∙ killed.0 place;
          each = λ image is. image_holds image (killed_image amid d' image killed.1 is);
        }
        | inr stopped ↦ record {
          none_failed = stopped.whole;
          each = λ image is. image_holds image (stopped_image amid d' image stopped is);
        }
      ]

pub lives_keep : DevicesKeepWhatWasTold
lives_keep form age keeps [] lives = tt
lives_keep form age keeps (next ∷ ages) lives =
    let now = run_keeps form age.told next.told age.disk next.disk keeps lives.0 in
    (now, lives_keep form next now ages lives.1)

-- ---- runs by what they say of themselves

-- of two numbers one is the lesser
either : (a b : ℕ) → (a ≤ b) ⊎ (b ≤ a)
either zero b = inl (omega arith)
either (suc a) zero = inr (omega arith)
either (suc a) (suc b) = elim (either a b) [ inl le ↦ inl (omega (arith, le)) | inr le ↦ inr (omega (arith, le)) ]

-- the greatest level of what went out
record Greatest (steps : List Step) : Type 0 where
  pub level : ℕ
  pub sent : SentUpTo level steps
  pub least : (n : ℕ) → SentUpTo n steps → level ≤ n

greatest : (steps : List Step) → Greatest steps
greatest [] = record { level = 0; sent = tt; least = λ n sent. omega arith }
greatest (step ∷ steps) =
    let more : Greatest steps = greatest steps in
    elim (either (sent_level step.action step.level) more.level) [
      | inl le ↦ record { level = more.level; sent = (le, more.sent); least = λ n sent. more.least n sent.1 }
      | inr le ↦ record { level = sent_level step.action step.level; sent = (omega arith, sent_weaker more.level (sent_level step.action step.level) steps le more.sent); least = λ n sent. sent.0 }
    ]

begins_on : (form : Form) (told : List Record) (d : Disk) → Keeps form told d → (device : List ℕ) → d.bytes ≡ device → (rs : List Record) × BeginsOn form told rs d device
begins_on form told d keeps device reads =
    let held : HoldsOn form told d.bytes = keeps.each d.bytes (reads_so d) in
    (held.rs, record { reads = reads; firm = subst (λ (l : List ℕ). StandsFirmly form held.rs l) reads held.firm; kept = held.kept })

module _ (form : Form) (told rs : List Record) (d : Disk) (device : List ℕ) (keeps : Keeps form told d) (begins : BeginsOn form told rs d device) (says : RunSays form rs device) (before rest : List Step) (cut : says.opening ++ says.later ≡ before ++ rest) where
  -- no text went out of more records than were made
  made_most : SentUpTo (length says.made) before
  made_most =
      let now = after_actions d (actions_of before) in
      elim (says.stops d keeps.none_failed begins.reads begins.firm before rest cut now.bytes (reads_so now)) [
        | inl was ↦
            sent_front (length says.made) before was.within.0
            (subst (λ (l : List Step). SentUpTo (length says.made) l) was.within.1 (silent says.opening says.opening_alone (length says.made)))
        | inr stop ↦
            elim stop.which [
              | inl part ↦ sent_weaker (length stop.now) (length says.made) before (first_length stop.now says.made part) stop.told
              | inr one ↦ sent_weaker (length rs) (length says.made) before (first_length rs says.made says.first) one.untold
            ]
      ]

  told_made : AreFirstOf told says.made
  told_made = first_then told rs says.made begins.kept says.first

  goes_so : (now : List Record) → AreTold told says.made before now → GoesOnTo form told d says.made before
  goes_so now now_told =
      record {
        now = now;
        now_told = now_told;
        ends = λ d' ends.
            record {
              rs = rs;
              made = says.made;
              opening = says.opening;
              later = says.later;
              stood = subst (λ (l : List ℕ). StandsFirmly form rs l) (sym begins.reads) begins.firm;
              kept = begins.kept;
              first = says.first;
              opening_alone = says.opening_alone;
              stops = subst (λ (l : List ℕ). EachStopStands form rs says.made says.opening says.later l) (sym begins.reads) says.stops;
              before = before;
              rest = rest;
              cut = cut;
              now_told = now_told;
              ends = ends;
            };
      }

  goes_on : GoesOnTo form told d says.made before
  goes_on =
      let top : Greatest before = greatest before in
      let most : top.level ≤ length says.made = top.least (length says.made) made_most in
      elim (either top.level (length told)) [
        | inl le ↦
            goes_so told (record {
              more = first_self told;
              first = told_made;
              all = sent_weaker top.level (length told) before le top.sent;
              least = λ n low sent. low;
            })
        | inr le ↦
            let size : length (take top.level says.made) ≡ top.level = length-take-le top.level says.made most in
            let part : AreFirstOf (take top.level says.made) says.made = record { later = drop top.level says.made; cut = sym (take-append-drop top.level says.made) } in
            goes_so (take top.level says.made) (record {
              more = shorter told (take top.level says.made) says.made told_made part (omega (arith, le, size));
              first = part;
              all = sent_weaker top.level (length (take top.level says.made)) before (omega (arith, size)) top.sent;
              least = λ n low sent. omega (arith, size, top.least n sent);
            })
      ]

-- nothing was done
still_before : (d : Disk) (image : List ℕ) (before rest : List Step) → [] ≡ before ++ rest → IsImage (after_actions d (actions_of before)) image → AsBefore [] before d image
still_before d image [] rest cut is = record { within = ([], refl); unsynced = refl; is_image = is }
still_before d image (step ∷ before) rest cut is = absurd cc

stays_so : (form : Form) (told : List Record) (d d' : Disk) → Keeps form told d → HasEnded d d' → RunEnds form told d told d'
stays_so form told d d' keeps ends =
    let held : HoldsOn form told d.bytes = keeps.each d.bytes (reads_so d) in
    record {
      rs = held.rs;
      made = held.rs;
      opening = [];
      later = [];
      stood = held.firm;
      kept = held.kept;
      first = first_self held.rs;
      opening_alone = tt;
      stops = λ x none same firm before rest cut image is. inl (still_before x image before rest cut is);
      before = [];
      rest = [];
      cut = refl;
      now_told = record { more = first_self told; first = held.kept; all = tt; least = λ n low sent. low };
      ends = ends;
    }

pub runs_go_on : RunsGoOn
runs_go_on = record { begin = begins_on; go_on = goes_on; stay = stays_so; calls_go = λ d actions none go. none_fails actions d go none }

-- ---- a run that ended by itself

settled_none : (touched failed : Bool) → not touched && not failed ≡ true → failed ≡ false
settled_none true true e = cc
settled_none true false e = refl
settled_none false true e = cc
settled_none false false e = refl

module _ (form : Form) (told rs now : List Record) (d : Disk) (actions : List Action) (a b : World) (none : NoneFailed d) (begins : BeginsOn form told rs d a.device) (grew : b.trace ≡ a.trace ++ actions) where
  calm_alone : ReadsAlone a b → LeavesCalm actions d b
  calm_alone reads =
      let same : d.bytes ≡ b.device = begins.reads ∙ sym reads.device in
      elim reads.trace [
        | inl still ↦
            let empty : actions ≡ [] = append_cancel_left a.trace actions [] (sym grew ∙ still ∙ sym (append-nil a.trace)) in
            subst (λ (l : List Action). LeavesCalm l d b) (sym empty) (record { none_failed = none; reads = same })
        | inr synced ↦
            let one : actions ≡ Sync true ∷ [] = append_cancel_left a.trace actions (Sync true ∷ []) (sym grew ∙ synced) in
            subst (λ (l : List Action). LeavesCalm l d b) (sym one) (record { none_failed = none; reads = same })
      ]

  calm_ended : EndsAtRest form rs now actions a b → LeavesCalm actions d b
  calm_ended ends =
      let unsynced : BeginsUnsynced form rs a.device d = begins_firmly form rs a.device d none begins.reads begins.firm in
      let rests : BeginsAtRest form now b.device (after_actions d actions) = ends.begins d unsynced in
      record {
        none_failed = λ place. settled_none ((after_actions d actions).touched place) ((after_actions d actions).failed place) (rests.rest.settled place);
        reads = rests.starts.same;
      }

pub ended_runs_leave_calm : EndedRunsLeaveCalm
ended_runs_leave_calm form told rs now d actions a b none begins grew how =
    elim how [
      | inl reads ↦ calm_alone form told rs now d actions a b none begins grew reads
      | inr ends ↦ calm_ended form told rs now d actions a b none begins grew ends
    ]

-- ---- a device that was made

puts_go : (puts : List Put) → CallsGo (actions_of_puts puts)
puts_go [] = tt
puts_go (put ∷ puts) = (refl, (refl, puts_go puts))

-- a put that succeeds settles what was unsynced
put_settles : (d : Disk) → NoneFailed d → (put : Put) → after_actions d (Write put.at put.bytes true ∷ Sync true ∷ []) ≡ after_actions (disk_at_rest d.bytes) (Write put.at put.bytes true ∷ Sync true ∷ [])
put_settles d none put =
    λ i. record {
      bytes = splice put.at put.bytes d.bytes;
      touched = λ place. false;
      failed = λ place. if touches put.at put.bytes place then false else none place i;
    }

pub made_devices_keep : MadeDevicesKeep
made_devices_keep form rs put puts d made none lasts firm =
    let same : after_actions d (actions_of_puts (put ∷ puts)) ≡ after_actions (disk_at_rest d.bytes) (actions_of_puts (put ∷ puts)) =
    ap (λ (x : Disk). after_actions x (actions_of_puts puts)) (put_settles d none put) in
    record {
      none_failed = none_fails (actions_of_puts (put ∷ puts)) d (puts_go (put ∷ puts)) none;
      each = λ image is.
          let there : image ≡ made =
          lasts (disk_at_rest d.bytes) (record { settled = λ place. refl }) refl image (subst (λ (x : Disk). IsImage x image) same is) in
          record { rs = rs; firm = subst (λ (l : List ℕ). StandsFirmly form rs l) (sym there) firm; kept = first_self rs };
    }
