-- Reading a device record by record: what was read stands on it, and each record is next on those before it.
use Rattle.std.proofs.Common.{◌≡◌, ℕ, suc, ◌+◌, ◌<◌, inr, List, [], ◌∷◌, ◌++◌, length, refl, sym, ap, subst, ◌∙◌, arith}
use Rattle.std.specs.Prelude.{slice_index}
use Rattle.std.proofs.lemmas.List.Folds.{list_all-append}
use Rattle.iss_edge.specs.World.{World}
use Rattle.iss_edge.specs.Calls.{Same}
use Rattle.iss_journal.specs.Place.{Place}
use Rattle.iss_journal.specs.Region.{frame_size}
use Rattle.iss_journal.specs.Opening.{RecordAt, BadAt}
use Rattle.iss_journal.specs.Reading.{ReadUpTo}
use Rattle.iss_journal.proofs.ReadLemmas.{begins_to_read, reads_on}
use Rattle.iss_halves.specs.Forms.{Layout}
use Rattle.iss_halves.specs.Standing.{gate_after, end_of}
use Rattle.iss_halves.specs.Finding.{found_region}
use Rattle.iss_halves.specs.Opening.{IsFound}
use Rattle.iss_halves.proofs.FoundHalves.{found_may_begin}
use Rattle.iss_model.specs.declared.input.Record.{Record}
use Rattle.iss_model.specs.declared.limits.TheConstants.{MOST_RECORDS}
use Rattle.iss_model.specs.texts.Spelling.{is_record}
use Rattle.iss_core.specs.Values.{CoreNow, IsNext}
use Rattle.iss_snapshot.specs.Loaded.{IsLoaded}
use Rattle.iss_standing.specs.Standing.{bodies_of}
use Rattle.iss_standing.proofs.Bodies.{bodies_more}
use Rattle.iss_standing.proofs.NextRecords.{one_more}
use Rattle.iss_opening.specs.declared.fault.OpenFault.TheVariants as open_fault
use Rattle.iss_opening.specs.Values.{StoreNow}
use Rattle.iss_opening.specs.Reading.{core_after, ReadsOn, BodyAfter, IsNotNext}
use Rattle.iss_opening.specs.declared.taking.Taken.{Taken}
use Rattle.iss_opening.specs.Progress.{SyncedAlone, HasRead, HasReadThese, HasReadAll, ReadsNext}
use Rattle.iss_opening.specs.Going.{NextIsRead, NoneIsRead, TheseAreRead, AllIsRead, FaultIsFound}
use Rattle.iss_opening.proofs.Afters.{after_more, after_count, next_more}
use Rattle.iss_opening.proofs.Images.{loaded_few}

-- ---- before the first record

pub nothing_read : (s : StoreNow) (image : List ℕ) (a b : World) → SyncedAlone a b → IsFound s.layout image a.device → IsLoaded image s.layout.instance s.core
    → s.place.gate ≡ gate_after s.layout.halved s.layout.size s.layout.second (length image) → s.place.to ≡ end_of s.layout.halved s.layout.size s.layout.second → s.point ≡ s.core.state.count → HasRead s a b
nothing_read s image a b synced found loaded first last point =
    let region = found_region s.layout image a.device in
    let begin = found_may_begin s.layout image a.device found in
    let gate = begin.first ∙ sym first in
    let to = begin.last ∙ sym last in
    let counted = loaded_few image s.layout.instance s.core loaded in
    record {
      synced = synced;
      image = image;
      start = s.core;
      rs = [];
      reads = record {
        begins = record { found = found; loaded = loaded };
        spelled = refl;
        next = tt;
        few = omega (arith, counted);
        read =
            subst (λ (p : Place). ReadUpTo region [] p a.device) (λ i. record { gate = gate i; to = to i })
            (begins_to_read region a.device begin.whole begin.inside begin.within begin.there);
      };
      core = refl;
      point = point;
    }

-- ---- one more record

still_synced : (a b c : World) → SyncedAlone a b → Same b c → SyncedAlone a c
still_synced a b c synced same =
    record { device = same.device ∙ synced.device; left = same.left ∙ synced.left; trace = same.trace ∙ synced.trace }

pub one_more_read : NextIsRead
one_more_read before after t a b c read one same =
    let body = one.body in
    let rs = read.rs in
    let r = one.takes.r in
    let start = read.start in
    let there : RecordAt before.place body a.device = subst (λ (d : List ℕ). RecordAt before.place body d) read.synced.device one.there in
    let region = found_region before.layout read.image a.device in
    let moved : Place = record { gate = before.place.gate + frame_size body; to = before.place.to } in
    let next : IsNext (core_after start rs) r = subst (λ (c : CoreNow). IsNext c r) read.core one.takes.next in
    let room : (core_after start rs).state.count < MOST_RECORDS = subst (λ (c : CoreNow). c.state.count < MOST_RECORDS) read.core one.takes.room in
    let bodies : bodies_of rs ++ body ∷ [] ≡ bodies_of (rs ++ r ∷ []) =
    ap (λ (x : List ℕ). bodies_of rs ++ x ∷ []) one.takes.spelled.1 ∙ sym (bodies_more rs r) in
    let on : ReadsOn before.layout read.image start (rs ++ r ∷ []) moved a.device =
    record {
      begins = read.reads.begins;
      spelled = list_all-append is_record rs (r ∷ []) ∙ rw (read.reads.spelled, one.takes.spelled.0) refl;
      next = next_more start rs r read.reads.next next;
      few = omega (arith, one_more rs r, after_count start rs, room);
      read =
          subst (λ (l : List (List ℕ)). ReadUpTo region l moved a.device) bodies
          (reads_on region (bodies_of rs) body before.place a.device read.reads.read there);
    } in
    record {
      synced = still_synced a b c read.synced same;
      image = read.image;
      start = start;
      rs = rs ++ r ∷ [];
      reads =
          subst (λ (layout : Layout). ReadsOn layout read.image start (rs ++ r ∷ []) after.place a.device) (sym one.layout)
          (subst (λ (p : Place). ReadsOn before.layout read.image start (rs ++ r ∷ []) p a.device) (sym one.place) on);
      core = one.takes.core ∙ ap (λ (c : CoreNow). core_after c (r ∷ [])) read.core ∙ sym (after_more start rs r);
      point = one.point ∙ read.point;
    }

pub none_read : NoneIsRead
none_read s a b read whole =
    let none : read.rs ≡ [] = no_length read.rs (omega (arith, after_count read.start read.rs, ap (λ (c : CoreNow). c.state.count) read.core, read.point, whole)) in
    record { read = read; from = sym (read.core ∙ ap (λ (rs : List Record). core_after read.start rs) none); these = none }
  where
    no_length : (rs : List Record) → length rs ≡ 0 → rs ≡ []
    no_length [] e = refl
    no_length (r ∷ rs) e = absurd cc

pub these_read : TheseAreRead
unfolding one_more_read
these_read start rs before after t a b c these one same =
    record {
      read = one_more_read before after t a b c these.read one same;
      from = these.from;
      these = λ i. these.these i ++ sym one.takes.accepted i ∷ [];
    }

-- ---- how reading ends

pub all_read : AllIsRead
all_read before after a b c read none same =
    let still : HasRead before a c =
    record {
      synced = still_synced a b c read.synced same;
      image = read.image;
      start = read.start;
      rs = read.rs;
      reads = read.reads;
      core = read.core;
      point = read.point;
    } in
    let all : HasReadAll before a c =
    record {
      read = still;
      shut = λ open_gate. none.shut (ap (λ (d : List ℕ). slice_index d before.place.gate) read.synced.device ∙ open_gate);
    } in
    subst (λ (s : StoreNow). HasReadAll s a c) (sym none.same) all

abbrev body_after : (s : StoreNow) (gate : ℕ) (body : List ℕ) (a b : World) → gate ≡ s.place.gate → HasRead s a b → RecordAt s.place body b.device → BodyAfter gate a.device
body_after s gate body a b here read there =
    record {
      before = record {
        layout = s.layout;
        image = read.image;
        start = read.start;
        rs = read.rs;
        place = s.place;
        here = sym here;
        reads = read.reads;
      };
      body = body;
      there = subst (λ (d : List ℕ). RecordAt s.place body d) read.synced.device there;
    }

pub fault_found : FaultIsFound
fault_found s open_fault.Disk a b c read fault = tt
fault_found s open_fault.OutOfMemory a b c read fault = tt
fault_found s open_fault.NotFormatted a b c read fault = absurd fault
fault_found s (open_fault.BadImage place) a b c read fault = absurd fault
fault_found s (open_fault.BadRecord gate) a b c read fault =
    inr (record {
      before = record {
        layout = s.layout;
        image = read.image;
        start = read.start;
        rs = read.rs;
        place = s.place;
        here = sym fault.0;
        reads = read.reads;
      };
      bad = subst (λ (d : List ℕ). BadAt s.place d) read.synced.device fault.1;
    })
fault_found s (open_fault.BadSpelling gate) a b c read fault =
    record { after = body_after s gate fault.body a b fault.here read fault.there; none = fault.none }
fault_found s (open_fault.BadHistory gate) a b c read fault =
    record {
      after = body_after s gate fault.body a b fault.here read fault.there;
      r = fault.fault.r;
      spelled = fault.fault.spelled;
      not_next = subst (λ (c : CoreNow). IsNotNext c fault.fault.r) read.core fault.fault.not_next;
    }
