-- An opening's moments: a sync, reads, and the end gate closed.
use Rattle.std.proofs.Common.{◌≡◌, ℕ, ◌-◌, ◌≤◌, Bool, true, false, inr, List, [], ◌∷◌, ◌++◌, length, take, drop, refl, sym, ap, subst, ◌∙◌, append-nil, append_assoc, arith}
use Rattle.std.proofs.lemmas.List.{length-take-le}
use Rattle.iss_edge.specs.declared.outside.Action.{Action}
use Rattle.iss_edge.specs.declared.outside.Action.TheVariants.{Write, Sync}
use Rattle.iss_edge.specs.Puts.{Put, one_put, Ran}
use Rattle.iss_edge.specs.World.{World}
use Rattle.iss_edge.specs.Disk.{after_action}
use Rattle.iss_edge.specs.Stretches.{Step, IsGood, GoesOn}
use Rattle.iss_edge.proofs.StretchLemmas.{join, parts, none_goes_on, sync_goes_on}
use Rattle.iss_journal.specs.Region.{Region, Shows, ShowsClosed, ShowsFirmly, RestsFirst}
use Rattle.iss_journal.specs.Opening.{OpenedOrOneMore, IsEndGate, ClosesGoing}
use Rattle.iss_journal.proofs.Closings.{opens_unchanged}
use Rattle.iss_halves.specs.Forms.{Form, Seat, Layout, form_of, seat_at}
use Rattle.iss_halves.specs.Standing.{Saved, JournalHolds}
use Rattle.iss_halves.specs.Finding.{found_region}
use Rattle.iss_halves.specs.Opening.{IsRead, IsPoint}
use Rattle.iss_halves.proofs.Standings.{at}
use Rattle.iss_halves.proofs.Openings.{openings_keep, openings_go_on}
use Rattle.iss_halves.proofs.FoundHalves.{found_holds}
use Rattle.iss_model.specs.declared.input.Record.{Record}
use Rattle.iss_model.specs.declared.limits.TheConstants.{MOST_RECORDS}
use Rattle.iss_core.specs.Values.{CoreNow, CoreStandsFor}
use Rattle.iss_standing.specs.Standing.{bodies_of, image_after, saved_of, DeviceStandsFor, OpensAt, OpenedAt, RestsAt}
use Rattle.iss_standing.specs.Goings.{AreFirstOf}
use Rattle.iss_standing.proofs.Bodies.{between_all, first_taken}
use Rattle.iss_standing.proofs.Few.{few_stand}
use Rattle.iss_standing.proofs.NextRecords.{history_taken}
use Rattle.iss_opening.specs.Values.{StoreNow, seat_under}
use Rattle.iss_opening.specs.Reading.{BeginsWith}
use Rattle.iss_opening.specs.Opening.{OpensStore, OpensGood, OpensGoing, is_on_device, AreOnDevice, SyncsFirst, IsWriteAt, AreWritesAt}
use Rattle.iss_opening.specs.Progress.{HasReadAll}
use Rattle.iss_opening.specs.Going.{ReadingIsGood, ClosingIsGood, ClosingOpens}
use Rattle.iss_opening.proofs.Afters.{count_on_book}
use Rattle.iss_opening.proofs.Held.{no_image}
use Rattle.iss_opening.proofs.Stands.{all_later, forms, image_is, point_is, point_of_one, same, stands_for_none}
use Rattle.iss_opening.proofs.Images.{loaded_stands}
use Rattle.iss_opening.proofs.Stores.{gate_found}

-- ---- what is done on the device

action_on_device : (action other : Action) → action ≡ other → is_on_device other ≡ true → is_on_device action ≡ true
action_on_device action other e on = ap is_on_device e ∙ on

-- puts, or a prefix of them, are on the device
ran_on_device : (puts : List Put) (actions : List Action) → Ran puts actions → AreOnDevice actions
ran_on_device puts [] ran = tt
ran_on_device [] (action ∷ more) ran = absurd ran
ran_on_device (put ∷ puts) (write ∷ []) ran = (action_on_device write (Write put.at put.bytes ran.0) ran.1 refl, tt)
ran_on_device (put ∷ puts) (write ∷ sync ∷ []) ran =
    (action_on_device write (Write put.at put.bytes true) ran.1 refl, (action_on_device sync (Sync ran.0) ran.2 refl, tt))
ran_on_device (put ∷ puts) (write ∷ sync ∷ action ∷ more) ran =
    (action_on_device write (Write put.at put.bytes true) ran.0 refl, (action_on_device sync (Sync true) ran.1 refl, ran_on_device puts (action ∷ more) ran.2))

-- puts of one byte at a gate, or a prefix of them, write nothing else
ran_at_gate : (gate : ℕ) (actions : List Action) → Ran (one_put gate (0 ∷ [])) actions → AreWritesAt gate actions
ran_at_gate gate [] ran = tt
ran_at_gate gate (write ∷ []) ran = (subst (IsWriteAt gate) (sym ran.1) refl, tt)
ran_at_gate gate (write ∷ sync ∷ []) ran = (subst (IsWriteAt gate) (sym ran.1) refl, (subst (IsWriteAt gate) (sym ran.2) tt, tt))
ran_at_gate gate (write ∷ sync ∷ action ∷ more) ran = absurd ran.2

-- ---- nothing but a sync was done

-- what an opening starts with is what it may leave
opens_same : (form : Form) (rs : List Record) (start device : List ℕ) (i : ℕ) → OpensAt form rs start device i → OpenedAt form rs start device i
opens_same form rs start device i opens =
    let saved : Saved = saved_of rs in
    let p = opens.seat.point in
    let later = drop p saved.bodies in
    let h = at form opens.seat (saved.image p) (λ region. ShowsFirmly region (take (i - p) later) device) opens.holds in
    record {
      seat = opens.seat;
      low = opens.low;
      holds =
          h.again (λ region. OpenedOrOneMore region later start device (i - p))
          (opens_unchanged h.region later start device (i - p) (record { same = opens.same; firm = h.holds }));
    }

pub did_nothing : (a b : World) → b.left ≡ a.left → b.trace ≡ a.trace → OpensGood a b
did_nothing a b left trace =
    record {
      left = left;
      added = [];
      grew = trace ∙ sym (append-nil a.trace);
      on_device = tt;
      syncs = tt;
      gate = λ form rs seat stands. tt;
      good = λ form seat rs all steps stands first e. (none_goes_on (OpensAt form all a.device) (OpenedAt form all a.device) (length rs) steps (λ bytes opens. opens_same form all a.device bytes (length rs) opens) e).good;
    }

syncs_alone : (ok : Bool) → SyncsFirst (Sync ok ∷ [])
syncs_alone true = (0, tt)
syncs_alone false = refl

pub only_synced : (a b : World) (ok : Bool) → b.left ≡ a.left → b.trace ≡ a.trace ++ Sync ok ∷ [] → OpensGood a b
only_synced a b ok left trace =
    record {
      left = left;
      added = Sync ok ∷ [];
      grew = trace;
      on_device = (refl, tt);
      syncs = syncs_alone ok;
      gate = λ form rs seat stands. (tt, tt);
      good =
          λ form seat rs all steps stands first e.
          (sync_goes_on (OpensAt form all a.device) (OpenedAt form all a.device) (length rs) ok steps (λ bytes opens. opens_same form all a.device bytes (length rs) opens) e).good;
    }

pub reading_good : ReadingIsGood
reading_good s a b read = (
  only_synced a b true read.synced.left read.synced.trace,
  record { device = read.synced.device; left = read.synced.left; trace = inr read.synced.trace },
)

-- ---- the end gate was found, and closed

-- The records that were read stand on the device as it was at the start, and as it is after the sync.
abbrev is_read : (s : StoreNow) (a b : World) (all : HasReadAll s a b) → IsRead s.layout all.read.image (bodies_of all.read.rs) s.place b.device
is_read s a b all =
    subst (λ (d : List ℕ). IsRead s.layout all.read.image (bodies_of all.read.rs) s.place d) (sym all.read.synced.device)
    (record { found = all.read.reads.begins.found; read = all.read.reads.read; shut = all.shut })

pub opens_store : (s : StoreNow) (a b : World) → HasReadAll s a b → OpensStore s a.device
opens_store s a b all =
    record {
      image = all.read.image;
      start = all.read.start;
      rs = all.read.rs;
      reads = all.read.reads;
      shut = all.shut;
      core = all.read.core;
      point = all.read.point;
    }

-- a sync, reads, and then the end gate was closed, or a part of that was done
pub closing_good : ClosingIsGood
closing_good s a b d all closes =
    let synced = all.read.synced in
    let form_is : Form = form_of s.layout in
    record {
      left = closes.part.left ∙ synced.left;
      added = Sync true ∷ closes.part.actions;
      grew =
          closes.part.trace
          ∙ ap (λ (t : List Action). t ++ closes.part.actions) synced.trace
          ∙ append_assoc a.trace (Sync true ∷ []) closes.part.actions;
      on_device = (refl, ran_on_device (one_put s.place.gate (0 ∷ [])) closes.part.actions closes.part.ran);
      syncs = (s.place.gate, closes.part.ran);
      gate = λ form rs seat stands.
          let found = gate_found s a.device form seat rs (opens_store s a b all) stands in
          (tt, subst (λ (place : ℕ). AreWritesAt place closes.part.actions) found (ran_at_gate s.place.gate closes.part.actions closes.part.ran));
      good =
          λ form seat rs later steps stands first e.
          let starts = OpensAt form_is later b.device in
          let stays = OpenedAt form_is later b.device in
          let j = length rs in
          let cut = parts steps (Sync true ∷ []) closes.part.actions e in
          let begun = sync_goes_on starts stays j true cut.first (λ bytes opens. opens_same form_is later b.device bytes j opens) cut.first_is in
          let closed = openings_keep s.layout all.read.image (bodies_of all.read.rs) s.place b d closes (saved_of later) j cut.second (is_read s a b all) cut.second_is in
          let good : IsGood starts stays j j steps = subst (λ (l : List Step). IsGood starts stays j j l) (sym cut.is) (join starts stays starts j j j cut.first cut.second begun closed) in
          let same_form = (forms s.layout all.read.image all.read.start a.device all.read.reads.begins form seat rs stands).0 in
          subst (λ (f : Form). IsGood (OpensAt f later a.device) (OpenedAt f later a.device) j j steps) (sym same_form)
          (subst (λ (l : List ℕ). IsGood (OpensAt form_is later l) (OpenedAt form_is later l) j j steps) synced.device good);
    }

-- ---- and the run goes on

-- the point of the store is that of the image
is_point : (layout : Layout) (image : List ℕ) (start : CoreNow) (device : List ℕ) (begins : BeginsWith layout image start device) (form : Form) (seat : Seat) (rs all : List Record) → DeviceStandsFor form seat rs device → AreFirstOf rs all
    → IsPoint layout image (saved_of all) (length rs) start.state.count
is_point layout image start device begins form seat rs all stands first =
    record {
      of_image =
          λ halved m most same.
          let short : length (take m rs) ≡ m = length-take-le m rs most in
          let few : length (take m rs) ≤ MOST_RECORDS = omega (arith, short, most, few_stand form seat rs device stands) in
          let its : image ≡ image_after (take m rs) = sym same ∙ ap image_after (first_taken m rs all first most) in
          let stands_so : CoreStandsFor start (take m rs) = loaded_stands image layout.instance start (take m rs) (history_taken m rs stands.history) few its begins.loaded in
          sym short ∙ sym (count_on_book start (take m rs) stands_so);
      none =
          λ one.
          let empty = no_image layout.halved layout.size layout.second image device begins.found.image_there one in
          count_on_book start [] (stands_for_none image layout.instance start empty begins.loaded);
    }

-- what the device stands for is what was read, and it is shown with a closed gate
closed_at_end : (s : StoreNow) (a b d : World) (all : HasReadAll s a b) (form : Form) (seat : Seat) (rs : List Record) → DeviceStandsFor form seat rs a.device → ClosesGoing s.place b d → RestsAt (form_of s.layout) (seat_under s) rs d.device (length rs)
closed_at_end s a b d all form seat rs stands closes =
    let layout = s.layout in
    let image = all.read.image in
    let start = all.read.start in
    let begins = all.read.reads.begins in
    let region = found_region layout image a.device in
    let p = seat.point in
    let point : p ≡ s.point = point_is layout image start a.device begins form seat rs stands ∙ sym all.read.point in
    let read : all.read.rs ≡ drop p rs = all_later layout image start a.device begins form seat rs stands all.read.rs s.place all.read.reads all.shut in
    let gate : IsEndGate region (bodies_of (drop p rs)) s.place = subst (λ (l : List Record). IsEndGate region (bodies_of l) s.place) read all.read.reads.read.end_gate in
    let shows : Shows region (bodies_of (drop p rs)) b.device =
    subst (λ (l : List ℕ). Shows region (bodies_of (drop p rs)) l) (sym all.read.synced.device) (same layout image start a.device begins form seat rs stands).shows in
    let closed : ShowsClosed region (bodies_of (drop p rs)) d.device = closes.closed region (bodies_of (drop p rs)) gate shows in
    let bodies : bodies_of (drop p rs) ≡ take (length rs - p) (drop p (bodies_of rs)) = sym (between_all p rs stands.low) in
    let none : layout.halved ≡ false → p ≡ 0 = point_of_one layout image start a.device begins form seat rs stands in
    let holds = found_holds layout image a.device p (λ (r : Region). ShowsClosed r (take (length rs - p) (drop p (bodies_of rs))) d.device) begins.found none (subst (λ (l : List (List ℕ)). ShowsClosed region l d.device) bodies closed) in
    subst (λ (n : ℕ). RestsAt (form_of layout) (seat_at layout.second n) rs d.device (length rs)) point
    (record {
      low = stands.low;
      holds =
          subst (λ (l : List ℕ). JournalHolds (form_of layout) (seat_at layout.second p) l (λ (r : Region). RestsFirst r (drop p (bodies_of rs)) d.device (length rs - p)))
          (image_is layout image start a.device begins form seat rs stands) holds;
    })

goes_on : (s : StoreNow) (a b d : World) → HasReadAll s a b → ClosesGoing s.place b d → OpensGoing s a d
goes_on s a b d all closes =
    let synced = all.read.synced in
    record {
      left = closes.part.left ∙ synced.left;
      added = Sync true ∷ closes.part.actions;
      grew =
          closes.part.trace
          ∙ ap (λ (t : List Action). t ++ closes.part.actions) synced.trace
          ∙ append_assoc a.trace (Sync true ∷ []) closes.part.actions;
      goes_on =
          λ form seat rs later steps stands first e.
          let layout = s.layout in
          let begins = all.read.reads.begins in
          let j = length rs in
          let at_point : IsPoint layout all.read.image (saved_of later) j s.point =
          subst (λ (n : ℕ). IsPoint layout all.read.image (saved_of later) j n) (sym all.read.point) (is_point layout all.read.image all.read.start a.device begins form seat rs later stands first) in
          let going = openings_go_on layout all.read.image (bodies_of all.read.rs) s.place b d closes (saved_of later) j s.point steps (is_read s a b all) at_point e in
          let same_form = (forms layout all.read.image all.read.start a.device begins form seat rs stands).0 in
          subst (λ (f : Form). GoesOn (OpensAt f later a.device) (OpenedAt f later a.device) (RestsAt f (seat_under s) later) j j steps) (sym same_form)
          (subst (λ (l : List ℕ). GoesOn (OpensAt (form_of layout) later l) (OpenedAt (form_of layout) later l) (RestsAt (form_of layout) (seat_under s) later) j j steps) synced.device going);
      rests =
          λ form seat rs stands.
          let same_form = (forms s.layout all.read.image all.read.start a.device all.read.reads.begins form seat rs stands).0 in
          subst (λ (f : Form). RestsAt f (seat_under s) rs d.device (length rs)) (sym same_form) (closed_at_end s a b d all form seat rs stands closes);
      leaves = λ disk is. closes.leaves (after_action disk (Sync true)) (is ∙ sym synced.device);
      behind = closes.part.actions;
      synced = refl;
    }

-- ---- what was opened

pub closing_opens : ClosingOpens
closing_opens s a b d all good closes =
    record {
      size = all.read.reads.begins.found.size;
      opens = opens_store s a b all;
      good = closing_good s a b d all good;
      going = goes_on s a b d all closes;
    }
