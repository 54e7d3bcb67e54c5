-- A commit: where its record was put, and what stands after it.
use Rattle.std.proofs.Common.{◌≡◌, ℕ, ◌+◌, ◌<◌, ◌≤◌, Bool, true, false, not, cond, List, [], ◌∷◌, length, length-append, refl, sym, ap, subst, ◌∙◌, arith}
use Rattle.std.specs.Prelude.{Option, Some, None, Err}
use Rattle.iss_edge.specs.World.{World, Told, Faults, Rose}
use Rattle.iss_edge.proofs.Tolds.{told_map}
use Rattle.iss_journal.specs.declared.fault.JournalFault.{JournalFault}
use Rattle.iss_journal.specs.declared.fault.JournalFault.TheVariants.{Disk, NotFormatted, BadRecord, Full, OutOfMemory}
use Rattle.iss_journal.specs.Place.{Place, free_at}
use Rattle.iss_journal.specs.Region.{append_bytes}
use Rattle.iss_journal.specs.Append.{AppendsGood, AppendsGoing}
use Rattle.iss_journal.specs.Answers.{DiskCause, DiskAlone, FullByNeed}
use Rattle.iss_journal.proofs.Records.{length-behind}
use Rattle.iss_halves.specs.Forms.{Layout, turned, IsLayout}
use Rattle.std.specs.Int.{w32, to_be_bytes}
use Rattle.iss_halves.specs.Halves.{half_size, half_start, image_with_length}
use Rattle.iss_halves.specs.Standing.{end_of}
use Rattle.iss_halves.specs.Turning.{half_bytes}
use Rattle.iss_halves.specs.Turned.{appended_place, TurnedGood, TurnedGoing}
use Rattle.iss_model.specs.declared.input.Record.{Record}
use Rattle.iss_model.specs.declared.limits.TheConstants.{MOST_RECORDS}
use Rattle.iss_model.specs.declared.entry.Entry.{Entry}
use Rattle.iss_model.specs.state.Cores.{CoreState, core_keeper}
use Rattle.iss_model.specs.run.Rooms.{need_of}
use Rattle.iss_model.specs.texts.Spelling.{spelling}
use Rattle.iss_core.specs.Values.{CoreNow, Steps}
use Rattle.iss_opening.specs.Numbers.{AreNumbered, IsNumbered}
use Rattle.iss_opening.specs.Values.{StoreNow, IsStore, form_under, seat_under}
use Rattle.iss_opening.proofs.Counts.{step_count}
use Rattle.iss_opening.proofs.Numbered.{entries_numbered, step_numbered}
use Rattle.iss_standing.specs.Goings.{StepsGo}
use Rattle.iss_standing.proofs.NextRecords.{with_record}
use Rattle.iss_store.specs.declared.fault.StoreFault.{StoreFault}
use Rattle.iss_store.specs.declared.fault.StoreFault.TheVariants as store
use Rattle.iss_store.specs.declared.putting.Seat as put
use Rattle.iss_store.specs.Values.{Plan, IsFramed, is_told_time}
use Rattle.iss_store.specs.Planning.{image_now, turns_for, store_turned, store_for, IsPlanOf, IsKept}
use Rattle.iss_store.specs.Putting.{stood, IsPutAt, FailsByDisk}
use Rattle.iss_store.specs.Committing.{Commits, Keeps, KeepsPart, CommitCause, WhereItLasts}
use Rattle.iss_store.proofs.Seats.{stays_here, store_here, gate_has_room, turns_there, store_there, turn_has_its_room, going_here, part_here, going_there, part_there}
use Rattle.iss_store.proofs.Moves.{turns_halved}

-- ---- a frame

pub frame_long : (r : Record) (frame : List ℕ) → frame ≡ append_bytes (spelling r) → length frame ≡ need_of r
frame_long r frame framed = ap (λ (bytes : List ℕ). length bytes) framed ∙ length-behind (spelling r)

-- ---- what is told of putting a record

module _ (s : StoreNow) (is : IsStore s) (p : Plan) (plan : IsPlanOf s p) (frame : List ℕ) (framed : IsFramed p.accepted frame) (x y : Option World) where
  abbrev r : Record
  r = p.accepted

  -- after the gate
  pub part_told_here : p.half ≡ None → Told (AppendsGood s.place frame) x y → Told (KeepsPart s r) x y
  part_told_here none told =
      told_map (AppendsGood s.place (append_bytes (spelling r))) (KeepsPart s r) x y
      (λ a b appends. record { left = appends.part.left; goes = λ rs stands. part_here s is p plan framed.spelled a b rs stands (stays_here s p plan none) appends })
      (subst (λ (bytes : List ℕ). Told (AppendsGood s.place bytes) x y) framed.framed told)

  pub kept_told_here : p.half ≡ None → Told (AppendsGoing s.place frame) x y → Told (Keeps s r) x y
  kept_told_here none told =
      told_map (AppendsGoing s.place (append_bytes (spelling r))) (Keeps s r) x y
      (λ a b appends. record {
        left = appends.made.left;
        goes = λ rs stands.
            subst (λ (t : StoreNow). StepsGo (form_under s) (seat_under s) (seat_under t) rs (with_record rs r) [] a b) (sym (store_here s p plan none))
            (going_here s is p plan framed.spelled a b rs stands (stays_here s p plan none) appends);
      })
      (subst (λ (bytes : List ℕ). Told (AppendsGoing s.place bytes) x y) framed.framed told)

  -- after a turn
  halved_there : (half : List ℕ) → p.half ≡ Some half → s.layout.halved ≡ true
  halved_there half some = turns_halved s r (turns_there s p plan half some).0

  pub part_told_there : (half : List ℕ) → p.half ≡ Some half → Told (TurnedGood s.layout half frame) x y → Told (KeepsPart s r) x y
  part_told_there half some told =
      told_map (TurnedGood s.layout half (append_bytes (spelling r))) (KeepsPart s r) x y
      (λ a b turns. record {
        left = turns.part.left;
        goes = λ rs stands. part_there s is p plan framed.spelled a b rs stands half (turns_there s p plan half some).1 (turns_there s p plan half some).0 (halved_there half some) turns;
      })
      (subst (λ (bytes : List ℕ). Told (TurnedGood s.layout half bytes) x y) framed.framed told)

  pub kept_told_there : (half : List ℕ) → p.half ≡ Some half → Told (TurnedGoing s.layout half frame) x y → Told (Keeps s r) x y
  kept_told_there half some told =
      told_map (TurnedGoing s.layout half (append_bytes (spelling r))) (Keeps s r) x y
      (λ a b turns. record {
        left = turns.made.left;
        goes = λ rs stands.
            subst (λ (t : StoreNow). StepsGo (form_under s) (seat_under s) (seat_under t) rs (with_record rs r) [] a b) (sym (store_there s p plan half some))
            (going_there s is p plan framed.spelled a b rs stands half (turns_there s p plan half some).1 (turns_there s p plan half some).0 (halved_there half some) turns);
      })
      (subst (λ (bytes : List ℕ). Told (TurnedGoing s.layout half bytes) x y) framed.framed told)

-- ---- where it was put

behind : StoreNow → Record → Place
behind t r = record { gate = t.place.gate + need_of r; to = t.place.to }

module _ (s : StoreNow) (p : Plan) (plan : IsPlanOf s p) (frame : List ℕ) (framed : IsFramed p.accepted frame) where
  pub put_here : (now : Place) → p.half ≡ None → now ≡ record { gate = s.place.gate + length frame; to = s.place.to }
      → IsPutAt s p (record { journal = now; halves = s.layout; point = s.point })
  put_here now none moved =
      let same : s ≡ store_for s p.accepted = sym (store_here s p plan none) in
      record {
        journal =
            moved
            ∙ ap (λ (n : ℕ). record { gate = s.place.gate + n; to = s.place.to }) (frame_long p.accepted frame framed.framed)
            ∙ ap (λ (t : StoreNow). record { gate = t.place.gate + need_of p.accepted; to = t.place.to }) same;
        halves = ap (λ (t : StoreNow). t.layout) same;
        point = ap (λ (t : StoreNow). t.point) same;
      }

  pub put_there : (half : List ℕ) (now : Place) (layout : Layout) (count : ℕ) → p.half ≡ Some half → now ≡ appended_place s.layout half frame → layout ≡ turned s.layout → count ≡ s.core.state.count
      → IsPutAt s p (record { journal = now; halves = layout; point = count })
  put_there half now layout count some moved turns counted =
      let same : store_turned s ≡ store_for s p.accepted = sym (store_there s p plan half some) in
      record {
        journal =
            moved
            ∙ ap (λ (h : List ℕ). appended_place s.layout h frame) (turns_there s p plan half some).1
            ∙ ap (λ (n : ℕ). record { gate = (store_turned s).place.gate + n; to = (store_turned s).place.to }) (frame_long p.accepted frame framed.framed)
            ∙ ap (λ (t : StoreNow). record { gate = t.place.gate + need_of p.accepted; to = t.place.to }) same;
        halves = turns ∙ ap (λ (t : StoreNow). t.layout) same;
        point = counted ∙ ap (λ (t : StoreNow). t.point) same;
      }

-- ---- why putting a record fails

append_refused_by_disk : {T : Type 0} (place : Place) (frame : List ℕ) (before now : Faults) (fault : JournalFault) → length frame ≤ free_at place → FullByNeed {T = T} place frame (Err fault)
    → DiskCause {T = T} before now (Err fault) → Rose before.disk now.disk
append_refused_by_disk place frame before now Disk fits full cause = cause.disk refl
append_refused_by_disk place frame before now (Full free need) fits full cause = absurd (omega (arith, fits, full.0, full.1, full.2))
append_refused_by_disk place frame before now NotFormatted fits full cause = absurd full
append_refused_by_disk place frame before now (BadRecord at) fits full cause = absurd full
append_refused_by_disk place frame before now OutOfMemory fits full cause = absurd full

pub here_refused : {T U : Type 0} (s : StoreNow) (p : Plan) (frame : List ℕ) (before now : Faults) (fault : JournalFault) → IsPlanOf s p → p.half ≡ None → IsFramed p.accepted frame
    → FullByNeed {T = U} s.place frame (Err fault) → DiskCause {T = U} before now (Err fault) → CommitCause {T = T} before now (Err store.Disk)
here_refused {U = U} s p frame before now fault plan none framed full cause =
    let short : length frame ≤ free_at s.place = omega (arith, frame_long p.accepted frame framed.framed, gate_has_room s p plan none) in
    record { later = cause.later; disk = λ _. append_refused_by_disk {T = U} s.place frame before now fault short full cause }

turn_refused_by_disk : {T : Type 0} (before now : Faults) (fault : JournalFault) → DiskAlone {T = T} (Err fault) → DiskCause {T = T} before now (Err fault) → Rose before.disk now.disk
turn_refused_by_disk before now Disk alone cause = cause.disk refl
turn_refused_by_disk before now (Full free need) alone cause = absurd alone
turn_refused_by_disk before now NotFormatted alone cause = absurd alone
turn_refused_by_disk before now (BadRecord at) alone cause = absurd alone
turn_refused_by_disk before now OutOfMemory alone cause = absurd alone

pub there_refused : {T U : Type 0} (before now : Faults) (fault : JournalFault) → DiskAlone {T = U} (Err fault) → DiskCause {T = U} before now (Err fault) → CommitCause {T = T} before now (Err store.Disk)
there_refused {U = U} before now fault alone cause = record { later = cause.later; disk = λ _. turn_refused_by_disk {T = U} before now fault alone cause }

-- a call on the device failed, so nothing is said of what lasts
pub not_kept : (T U : Type 0) (fault : StoreFault) (P : Type 0) → FailsByDisk {T = T} (Err fault) → WhereItLasts {T = U} (Err fault) P
not_kept T U store.Disk P alone = tt
not_kept T U store.Output P alone = absurd alone
not_kept T U store.OutOfMemory P alone = absurd alone

-- ---- what stands after it

pub committed : (s : StoreNow) (next : CoreNow) (p : Plan) (seat : put.Seat) (made : List Entry) (number : ℕ) (is_time : Bool)
    → IsPutAt s p seat → Steps s.core next p.accepted made → number ≡ next.state.count → next.state.count ≤ MOST_RECORDS → is_time ≡ is_told_time p
    → Commits s p (stood seat next) (record { number = number; entries = made; is_time = is_time })
committed s next p seat made number is_time at steps counted few told =
    record { stepped = steps; place = at.journal; layout = at.halves; point = at.point; number = counted; few = few; is_time = told }

-- what a step made is numbered from 1
pub made_numbered : (core next : CoreNow) (r : Record) (made : List Entry) → Steps core next r made → AreNumbered made
made_numbered core next r made steps = subst AreNumbered (sym steps.entries) (entries_numbered core_keeper core.state r)

-- one record more stands, of as many as there may be
pub few_after : (s : StoreNow) (next : CoreNow) (p : Plan) (made : List Entry) → IsPlanOf s p → Steps s.core next p.accepted made → next.state.count ≤ MOST_RECORDS
few_after s next p made plan steps =
    let count : next.state.count ≡ s.core.state.count + 1 = ap (λ (c : CoreState). c.count) steps.state ∙ step_count s.core.state p.accepted in
    omega (arith, count, plan.few)

-- what holds of the store to whose gate a record is put, if that has room for it
record IsRoomy (t : StoreNow) (r : Record) : Type 0 where
  pub within : t.place.gate + need_of r < t.place.to
  pub to : t.place.to ≡ end_of t.layout.halved t.layout.size t.layout.second
  pub layout_is : IsLayout t.layout
  pub instance : t.core.instance ≡ t.layout.instance
  pub low : t.point ≤ t.core.state.count
  pub no_image : t.layout.halved ≡ false → t.point ≡ 0

half_some : (image : List ℕ) → 5 ≤ length (half_bytes image)
half_some image = omega (arith, length-append {A = ℕ} (image_with_length image) (0 ∷ []), length-append {A = ℕ} (to_be_bytes w32 (length image)) image)

core_same : (s : StoreNow) (b : Bool) → (cond b (store_turned s) s).core ≡ s.core
core_same s true = refl
core_same s false = refl

turned_end : (halved : Bool) (size : ℕ) (second : Bool) → halved ≡ true → half_start size second + half_size size ≡ end_of halved size second
turned_end true size second e = refl
turned_end false size second e = absurd cc

roomy : (s : StoreNow) (p : Plan) → IsStore s → IsPlanOf s p → (h : Option (List ℕ)) → p.half ≡ h → IsRoomy (store_for s p.accepted) p.accepted
roomy s p is plan None none =
    subst (λ (t : StoreNow). IsRoomy t p.accepted) (sym (store_here s p plan none))
    (record {
      within = omega (arith, gate_has_room s p plan none, is.within);
      to = is.to;
      layout_is = is.layout_is;
      instance = is.instance;
      low = is.low;
      no_image = is.no_image;
    })
roomy s p is plan (Some half) some =
    let turns = turns_there s p plan half some in
    let halved : s.layout.halved ≡ true = turns_halved s p.accepted turns.0 in
    let bytes : length half ≡ length (half_bytes (image_now s)) = ap (λ (l : List ℕ). length l) turns.1 in
    let room = turn_has_its_room s p plan half (append_bytes (spelling p.accepted)) some (length-behind (spelling p.accepted)) in
    let long : length (append_bytes (spelling p.accepted)) ≡ need_of p.accepted = length-behind (spelling p.accepted) in
    subst (λ (t : StoreNow). IsRoomy t p.accepted) (sym (store_there s p plan half some))
    (record {
      within = omega (arith, room, long, bytes, half_some (image_now s));
      to = turned_end s.layout.halved s.layout.size (not s.layout.second) halved;
      layout_is = record { least = is.layout_is.least; least_halves = is.layout_is.least_halves; most = is.layout_is.most; small = is.layout_is.small };
      instance = is.instance;
      low = omega arith;
      no_image = λ e. absurd (let no : true ≡ false = sym halved ∙ e in cc);
    })

-- what holds of every store holds of the one after a commit
pub stays_store : (s : StoreNow) (next : CoreNow) (p : Plan) (seat : put.Seat) (made : List Entry) → IsStore s → IsPlanOf s p → IsPutAt s p seat → Steps s.core next p.accepted made → IsKept (stood seat next) None
stays_store s next p seat made is plan at steps =
    let t = store_for s p.accepted in
    let fits = roomy s p is plan p.half refl in
    let count : next.state.count ≡ s.core.state.count + 1 = ap (λ (c : CoreState). c.count) steps.state ∙ step_count s.core.state p.accepted in
    let gate : seat.journal.gate ≡ t.place.gate + need_of p.accepted = ap (λ (q : Place). q.gate) at.journal in
    let to : seat.journal.to ≡ t.place.to = ap (λ (q : Place). q.to) at.journal in
    let same : t.core ≡ s.core = core_same s (turns_for s p.accepted) in
    record {
      store =
          record {
            within = omega (arith, fits.within, gate, to);
            to = to ∙ fits.to ∙ ap (λ (l : Layout). end_of l.halved l.size l.second) (sym at.halves);
            layout_is = subst IsLayout (sym at.halves) fits.layout_is;
            instance = steps.kept ∙ sym (ap (λ (c : CoreNow). c.instance) same) ∙ fits.instance ∙ ap (λ (l : Layout). l.instance) (sym at.halves);
            few = few_after s next p made plan steps;
            low = omega (arith, at.point, fits.low, ap (λ (c : CoreNow). c.state.count) same, count);
            no_image = λ e. at.point ∙ fits.no_image (ap (λ (l : Layout). l.halved) (sym at.halves) ∙ e);
            numbered = subst IsNumbered (sym steps.state) (step_numbered s.core.state p.accepted is.numbered);
          };
      free = tt;
    }
