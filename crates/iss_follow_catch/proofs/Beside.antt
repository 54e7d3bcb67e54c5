-- Records of a device, read beside what stands in another core: whether both have met, and what came after that.
use Rattle.std.proofs.Common.{◌≡◌, ℕ, inl, inr, Bool, true, false, List, [], ◌∷◌, ◌++◌, refl, sym, ap, subst, ◌∙◌, append_assoc, append-nil}
use Rattle.std.specs.Prelude.{◌⊎◌, ◌↔◌, IsTrue, Option, Some, None, Ok, Err, slice_index}
use Rattle.std.specs.List.{list_all}
use Rattle.std.proofs.lemmas.List.Folds.{list_all-append}
use Rattle.iss_edge.specs.World.{World, Told}
use Rattle.iss_edge.specs.Calls.{Same}
use Rattle.iss_edge.proofs.Tolds.{told_map, told_then}
use Rattle.iss_journal.specs.Opening.{ClosesGood, ClosesGoing}
use Rattle.iss_model.specs.declared.input.Record.{Record}
use Rattle.iss_model.specs.texts.Spelling.{is_record}
use Rattle.iss_core.specs.Values.{CoreNow}
use Rattle.iss_opening.specs.declared.fault.OpenFault.{OpenFault}
use Rattle.iss_opening.specs.declared.fault.OpenFault.TheVariants.{OutOfMemory}
use Rattle.iss_opening.specs.declared.taking.Taken.{Taken}
use Rattle.iss_opening.specs.Values.{StoreNow}
use Rattle.iss_opening.specs.Reading.{core_after}
use Rattle.iss_opening.specs.Opening.{Opens, OpensGood, OnRefused, ReadsAlone}
use Rattle.iss_opening.specs.Progress.{HasRead, HasReadThese, ReadsNext}
use Rattle.iss_opening.proofs.Openings.{closing_good, closing_opens, reading_good}
use Rattle.iss_opening.proofs.Readings.{none_read, these_read}
use Rattle.iss_opening.proofs.Telling.{on_refused, told_both}
use Rattle.iss_opening.proofs.ToldReadings.{read_alone, read_good, still, told_fault}
use Rattle.iss_follow_catch.specs.Behind.{HoldSame, HasNotMet, KnowsMet, Passes, ReadsBeside, AllBeside, OpensAhead}
use Rattle.iss_follow_catch.proofs.Moments.{finds_behind}

-- ---- before the first record

known_first : (core other : CoreNow) (met : Bool) (later : List Record) → later ≡ [] → IsTrue met ↔ HoldSame core other → KnowsMet core [] other met later
known_first core other true later none known =
    record { first = []; cut = sym none; same = known.0 refl }
known_first core other false later none known = (none, not_met)
  where
    not_met : HasNotMet core [] other
    not_met [] rest cut same = absurd (cc (known.1 same))
    not_met (r ∷ first) rest cut same = absurd cc

first_beside : (s : StoreNow) (other : CoreNow) (met : Bool) (later : List Record) (a b : World) → s.point ≡ s.core.state.count → later ≡ [] → IsTrue met ↔ HoldSame s.core other → HasRead s a b → ReadsBeside s other met later a b
first_beside s other met later a b whole none known read =
    record { start = s.core; rs = []; read = none_read s a b read whole; known = known_first s.core other met later none known }

pub told_first : (s : StoreNow) (other : CoreNow) (met : Bool) (later : List Record) (x y : Option World) → s.point ≡ s.core.state.count → later ≡ [] → IsTrue met ↔ HoldSame s.core other → Told (HasRead s) x y
    → Told (ReadsBeside s other met later) x y
told_first s other met later x y whole none known read =
    told_map (HasRead s) (ReadsBeside s other met later) x y (λ a b. first_beside s other met later a b whole none known) read

-- ---- one more record

-- where a list with one element more can be cut
cut_at : (rs first rest : List Record) (r : Record) → rs ++ r ∷ [] ≡ first ++ rest → (first ≡ rs ++ r ∷ []) ⊎ ((front : List Record) × (rs ≡ first ++ front))
cut_at rs [] rest r e = inr (rs, refl)
cut_at [] (x ∷ []) rest r e =
    let same : x ≡ r = cc in
    inl (ap (λ (y : Record). y ∷ []) same)
cut_at [] (x ∷ y ∷ more) rest r e = absurd cc
cut_at (z ∷ rs) (x ∷ first) rest r e =
    let head : z ≡ x = cc in
    let tail : rs ++ r ∷ [] ≡ first ++ rest = cc in
    elim (cut_at rs first rest r tail) [
      | inl whole ↦ inl (λ i. sym head i ∷ whole i)
      | inr cut ↦ inr (cut.0, λ i. head i ∷ cut.1 i)
    ]

known_next : (start : CoreNow) (rs : List Record) (r : Record) (core other : CoreNow) (met now : Bool) (later kept : List Record) → is_record r ≡ true → core ≡ core_after start (rs ++ r ∷ []) → KnowsMet start rs other met later → Passes met later r core other now kept
    → KnowsMet start (rs ++ r ∷ []) other now kept
known_next start rs r core other true now later kept form is known passes =
    subst (λ (b : Bool). KnowsMet start (rs ++ r ∷ []) other b kept) (sym passes.0)
    (record {
      first = known.first;
      cut =
          ap (λ (l : List Record). l ++ r ∷ []) known.cut
          ∙ append_assoc known.first later (r ∷ [])
          ∙ ap (λ (l : List Record). known.first ++ l) (sym (passes.1 form));
      same = known.same;
    })
known_next start rs r core other false true later kept form is known passes =
    record {
      first = rs ++ r ∷ [];
      cut =
          sym (append-nil (rs ++ r ∷ []))
          ∙ ap (λ (l : List Record). (rs ++ r ∷ []) ++ l) (sym (passes.0 ∙ known.0));
      same = subst (λ (c : CoreNow). HoldSame c other) is (passes.1.0 refl);
    }
known_next start rs r core other false false later kept form is known passes = (passes.0 ∙ known.0, not_met)
  where
    not_met : HasNotMet start (rs ++ r ∷ []) other
    not_met first rest cut same =
        elim (cut_at rs first rest r cut) [
          | inl whole ↦
              let now : HoldSame core other = subst (λ (c : CoreNow). HoldSame c other) (ap (λ (l : List Record). core_after start l) whole ∙ sym is) same in
              absurd (cc (passes.1.1 now))
          | inr front ↦ known.1 first front.0 front.1 same
        ]

-- what was read makes the core
core_of_these : (start : CoreNow) (rs : List Record) (s : StoreNow) (a b : World) → HasReadThese start rs s a b → s.core ≡ core_after start rs
core_of_these start rs s a b these = these.read.core ∙ (λ i. core_after (these.from i) (these.these i))

next_beside : (before after : StoreNow) (t : Taken) (other : CoreNow) (met now : Bool) (later kept : List Record) (a b c : World)
    → Passes met later t.accepted after.core other now kept → ReadsBeside before other met later a b → ReadsNext before (Ok (after, Some t)) b c → Same b c → ReadsBeside after other now kept a c
next_beside before after t other met now later kept a b c passes beside one same =
    let read = these_read beside.start beside.rs before after t a b c beside.read one same in
    record {
      start = beside.start;
      rs = beside.rs ++ t.accepted ∷ [];
      read = read;
      known =
          known_next beside.start beside.rs t.accepted after.core other met now later kept (subst (λ (r : Record). is_record r ≡ true) (sym one.takes.accepted) one.takes.spelled.0) (core_of_these beside.start (beside.rs ++ t.accepted ∷ []) after a c read) beside.known passes;
    }

pub told_next : (before after : StoreNow) (t : Taken) (found : Option Taken) (other : CoreNow) (met now : Bool) (later kept : List Record) (x y z : Option World) → found ≡ Some t
    → Passes met later t.accepted after.core other now kept → Told (ReadsBeside before other met later) x y → Told (ReadsNext before (Ok (after, found))) y z → Told Same y z → Told (ReadsBeside after other now kept) x z
told_next before after t found other met now later kept x y z is passes beside next same =
    told_then (ReadsBeside before other met later) (λ b c. ReadsNext before (Ok (after, Some t)) b c × Same b c) (ReadsBeside after other now kept) x y z
    (λ a b c r n. next_beside before after t other met now later kept a b c passes r n.0 n.1) beside
    (told_both (ReadsNext before (Ok (after, Some t))) Same y z (subst (λ (o : Option Taken). Told (ReadsNext before (Ok (after, o))) y z) is next) same)

-- ---- no record is left

all_beside : (before after : StoreNow) (other : CoreNow) (met : Bool) (later : List Record) (a b c : World) → ReadsBeside before other met later a b → ReadsNext before (Ok (after, None)) b c → Same b c → AllBeside after other met later a c
all_beside before after other met later a b c beside none same =
    subst (λ (s : StoreNow). AllBeside s other met later a c) (sym none.same)
    (record {
      beside = record {
        start = beside.start;
        rs = beside.rs;
        read = record { read = still before a b c beside.read.read same; from = beside.read.from; these = beside.read.these };
        known = beside.known;
      };
      shut = λ open_gate. none.shut (ap (λ (d : List ℕ). slice_index d before.place.gate) beside.read.read.synced.device ∙ open_gate);
    })

pub told_all : (before after : StoreNow) (found : Option Taken) (other : CoreNow) (met : Bool) (later : List Record) (x y z : Option World) → found ≡ None
    → Told (ReadsBeside before other met later) x y → Told (ReadsNext before (Ok (after, found))) y z → Told Same y z → Told (AllBeside after other met later) x z
told_all before after found other met later x y z is beside next same =
    told_then (ReadsBeside before other met later) (λ b c. ReadsNext before (Ok (after, None)) b c × Same b c) (AllBeside after other met later) x y z
    (λ a b c r n. all_beside before after other met later a b c r n.0 n.1) beside
    (told_both (ReadsNext before (Ok (after, None))) Same y z (subst (λ (o : Option Taken). Told (ReadsNext before (Ok (after, o))) y z) is next) same)

-- ---- it ended early

module _ (s : StoreNow) (other : CoreNow) (met : Bool) (later : List Record) (x y : Option World) (beside : Told (ReadsBeside s other met later) x y) where
  told_read : Told (HasRead s) x y
  told_read = told_map (ReadsBeside s other met later) (HasRead s) x y (λ a b r. r.read.read) beside

  pub told_stopped : (fault : OpenFault) (z : Option World) → Told (ReadsNext s (Err fault)) y z → Told (Opens (Err fault)) x z
  told_stopped fault z next = told_fault s fault x y z told_read next

  pub told_good : (z : Option World) → Told Same y z → Told OpensGood x z
  told_good z same = read_good s x y z told_read same

  -- nothing was done but a sync
  pub told_alone : (T : Type 0) (fault : OpenFault) (z : Option World) → Told Same y z → OnRefused {T = T} (Err fault) (Told ReadsAlone x z)
  told_alone T fault z same = on_refused T fault (Told ReadsAlone x z) (read_alone s x y z told_read same)

  pub told_memory : Told (Opens (Err OutOfMemory)) x y
  told_memory = told_map (HasRead s) (Opens (Err OutOfMemory)) x y (λ a b r. tt) told_read

  pub told_here : Told OpensGood x y
  told_here = told_map (HasRead s) OpensGood x y (λ a b r. (reading_good s a b r).0) told_read

-- no memory was left before the first record
pub told_begun : (s : StoreNow) (x y : Option World) → Told (HasRead s) x y → Told (Opens (Err OutOfMemory)) x y × Told OpensGood x y
told_begun s x y read = (
  told_map (HasRead s) (Opens (Err OutOfMemory)) x y (λ a b r. tt) read,
  told_map (HasRead s) OpensGood x y (λ a b r. (reading_good s a b r).0) read,
)

pub told_begun_alone : (s : StoreNow) (x y : Option World) → Told (HasRead s) x y → Told ReadsAlone x y
told_begun_alone s x y read = told_map (HasRead s) ReadsAlone x y (λ a b r. (reading_good s a b r).1) read

-- ---- the end gate is closed

ahead_of : (s t : StoreNow) (other : CoreNow) (met : Bool) (later : List Record) (a b c : World) → t ≡ s → AllBeside s other met later a b → ClosesGood s.place b c → ClosesGoing s.place b c → OpensAhead t other met later a c
ahead_of s t other met later a b c is all good going =
    subst (λ (u : StoreNow). OpensAhead u other met later a c) (sym is)
    (record {
      opened = closing_opens s a b c (record { read = all.beside.read.read; shut = all.shut }) good going;
      finds = finds_behind s other met later a b all;
    })

pub told_ahead : (s t : StoreNow) (other : CoreNow) (met : Bool) (later : List Record) (x y z : Option World) → t ≡ s → Told (AllBeside s other met later) x y → Told (ClosesGood s.place) y z → Told (ClosesGoing s.place) y z
    → Told (OpensAhead t other met later) x z
told_ahead s t other met later x y z is all good going =
    told_then (AllBeside s other met later) (λ b c. ClosesGood s.place b c × ClosesGoing s.place b c) (OpensAhead t other met later) x y z
    (λ a b c r p. ahead_of s t other met later a b c is r p.0 p.1) all (told_both (ClosesGood s.place) (ClosesGoing s.place) y z good going)

pub told_closes : (s : StoreNow) (other : CoreNow) (met : Bool) (later : List Record) (x y z : Option World) → Told (AllBeside s other met later) x y → Told (ClosesGood s.place) y z → Told OpensGood x z
told_closes s other met later x y z all closes =
    told_then (AllBeside s other met later) (ClosesGood s.place) OpensGood x y z (λ a b c r p. closing_good s a b c (record { read = r.beside.read.read; shut = r.shut }) p) all closes

pub told_whole : (s : StoreNow) (other : CoreNow) (met : Bool) (later : List Record) (x y : Option World) → Told (AllBeside s other met later) x y → Told OpensGood x y
told_whole s other met later x y all =
    told_map (AllBeside s other met later) OpensGood x y (λ a b r. (reading_good s a b r.beside.read.read).0) all

-- ---- records in form

pub one_more_spelled : (rs : List Record) (r : Record) → list_all is_record rs ≡ true → is_record r ≡ true → list_all is_record (rs ++ r ∷ []) ≡ true
one_more_spelled rs r all one = list_all-append is_record rs (r ∷ []) ∙ rw (all, one) refl
