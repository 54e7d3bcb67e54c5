-- Records that are committed one after the other: what then stands, and how the run goes on.
use Rattle.std.proofs.Common.{◌≡◌, ◌<◌, ◌≤◌, ℕ, ◌+◌, Bool, true, false, List, [], ◌∷◌, ◌++◌, length, take, drop, refl, sym, ap, subst, ◌∙◌, arith, append_assoc, append-nil}
use Rattle.std.specs.Prelude.{◌≢◌, get_or, Option, Some, Result, Ok, Err, if◌then◌else◌}
use Rattle.std.proofs.lemmas.Grind.{take_at_read}
use Rattle.std.proofs.lemmas.List.{take-append-drop, drop_all}
use Rattle.std.proofs.lemmas.Option.{same_Some}
use Rattle.iss_edge.specs.World.{World, Told, Faults, Later}
use Rattle.iss_edge.proofs.Tolds.{told_map, told_then, later_self, later_then, rose_later}
use Rattle.iss_halves.specs.Forms.{Form, Seat}
use Rattle.iss_model.specs.declared.input.Record.{Record}
use Rattle.iss_model.specs.rules.Histories.{Follows, IsLegalAfter, history_of, nothing_yet}
use Rattle.iss_model.specs.run.Rooms.{Room, room_after}
use Rattle.iss_standing.specs.Standing.{AreHistory}
use Rattle.iss_standing.specs.Goings.{StepsGo, StepsGoPart}
use Rattle.iss_standing.proofs.Goings.{goes_then, goes_then_part, goes_part, nothing_goes}
use Rattle.iss_opening.specs.Values.{StoreNow, form_under, seat_under}
use Rattle.iss_opening.specs.Standing.{StandsFor}
use Rattle.iss_opening.proofs.Spelled.{follows_at}
use Rattle.iss_store.specs.Values.{Plan, DurableNow}
use Rattle.iss_store.specs.Planning.{store_for, turns_for, store_turned}
use Rattle.iss_store.specs.Committing.{Commits, CommitsOnBook, Keeps, KeepsPart}
use Rattle.iss_follow_runs.specs.declared.stop.Stop.{Stop}
use Rattle.iss_follow_runs.specs.declared.stop.Stop.TheVariants as stop
use Rattle.iss_follow_catch.specs.Rooms.{room_on, room_behind, FitsNext, FitsAll}
use Rattle.iss_follow_catch.specs.Committing.{TakesUp, Lasts, LastsInPart, LastsFirst, LastsSome, StopsAt, WhereLeft, WhereUnplanned, CommitRun, DiskCaused, EndsAsCommit}

-- ---- rooms, one record after the other

room_more : (room : Room) (rs done : List Record) (r : Record) → room_behind room rs (done ++ r ∷ []) ≡ room_after (room_behind room rs done) (rs ++ done) r
room_more room rs [] r = ap (λ (l : List Record). room_after room l r) (sym (append-nil rs))
room_more room rs (x ∷ done) r =
    room_more (room_after room rs x) (rs ++ x ∷ []) done r
    ∙ ap (λ (l : List Record). room_after (room_behind (room_after room rs x) (rs ++ x ∷ []) done) l r) (append_assoc rs (x ∷ []) done)

fits_more : (room : Room) (rs done : List Record) (r : Record) → FitsAll room rs done → FitsNext (room_behind room rs done) (rs ++ done) r → FitsAll room rs (done ++ r ∷ [])
fits_more room rs [] r all next = (subst (λ (l : List Record). FitsNext room l r) (append-nil rs) next, tt)
fits_more room rs (x ∷ done) r all next = (
  all.0,
  fits_more (room_after room rs x) (rs ++ x ∷ []) done r all.1
      (subst (λ (l : List Record). FitsNext (room_behind (room_after room rs x) (rs ++ x ∷ []) done) l r) (sym (append_assoc rs (x ∷ []) done)) next),
)

-- ---- no record, and one more

pub takes_none : (s : StoreNow) → TakesUp s s []
takes_none s =
    record {
      form = refl;
      stands = λ rs stands. subst (λ (l : List Record). StandsFor s l) (sym (append-nil rs)) stands;
      fit = λ rs stands. tt;
      room = λ rs stands. refl;
    }

pub lasts_none : (s : StoreNow) (a : World) → Lasts s s [] a a
lasts_none s a =
    record {
      goes = λ rs stands.
          subst (λ (l : List Record). StepsGo (form_under s) (seat_under s) (seat_under s) rs l [] a a) (sym (append-nil rs)) (nothing_goes (form_under s) (seat_under s) rs a);
    }

-- the form of a store's device stays through a turn
form_for : (s : StoreNow) (r : Record) → form_under (store_for s r) ≡ form_under s
form_for s r = by (turns_for s r)
  where
    by : (b : Bool) → form_under (if b then store_turned s else s) ≡ form_under s
    by true = refl
    by false = refl

-- one record was committed
module _ (s t : StoreNow) (p : Plan) (d : DurableNow) (r : Record) (same : p.accepted ≡ r) (commits : Commits s p t d) where
  form_kept : form_under t ≡ form_under s
  form_kept =
      ap (λ l. record { halved = l.halved; instance = l.instance; size = l.size }) commits.layout ∙ form_for s p.accepted

  seat_kept : seat_under t ≡ seat_under (store_for s r)
  seat_kept =
      (λ i. record { second = (commits.layout i).second; point = commits.point i }) ∙ ap (λ (x : Record). seat_under (store_for s x)) same

  pub takes_one : ((rs : List Record) → StandsFor s rs → CommitsOnBook s t rs p d) → ((rs : List Record) → StandsFor s rs → FitsNext (room_on s) rs r) → TakesUp s t (r ∷ [])
  takes_one book fit =
      record {
        form = form_kept;
        stands = λ rs stands. subst (λ (x : Record). StandsFor t (rs ++ x ∷ [])) same (book rs stands).stands;
        fit = λ rs stands. (fit rs stands, tt);
        room = λ rs stands.
            let room : Some (room_on t) ≡ Some (room_after (room_on s) rs p.accepted) = (book rs stands).room in
            same_Some (room_on t) (room_after (room_on s) rs p.accepted) room ∙ ap (λ (x : Record). room_after (room_on s) rs x) same;
      }

  pub lasts_one : (a b : World) → Keeps s p.accepted a b → Lasts s t (r ∷ []) a b
  lasts_one a b keeps =
      record {
        goes = λ rs stands.
            subst (λ (to : Seat). StepsGo (form_under s) (seat_under s) to rs (rs ++ r ∷ []) [] a b) (sym seat_kept)
            (subst (λ (x : Record). StepsGo (form_under s) (seat_under s) (seat_under (store_for s x)) rs (rs ++ x ∷ []) [] a b) same (keeps.goes rs stands));
      }

pub part_one : (s : StoreNow) (p : Plan) (r : Record) (a b : World) → p.accepted ≡ r → KeepsPart s p.accepted a b → LastsInPart s (r ∷ []) a b
part_one s p r a b same keeps rs stands =
    record {
      done = r ∷ [];
      first = record { later = []; cut = refl };
      goes = subst (λ (x : Record). StepsGoPart (form_under s) (seat_under s) rs (rs ++ x ∷ []) [] a b) same (keeps.goes rs stands);
    }

-- nothing was done
pub part_none : (s : StoreNow) (records : List Record) (a : World) → LastsInPart s records a a
part_none s records a rs stands =
    record {
      done = [];
      first = record { later = records; cut = refl };
      goes =
          goes_part (form_under s) (seat_under s) (seat_under s) rs (rs ++ []) [] a a ((lasts_none s a).goes rs stands);
    }

-- ---- some records, and one more

module _ (s t u : StoreNow) (done : List Record) (r : Record) (so_far : TakesUp s t done) where
  pub takes_more : TakesUp t u (r ∷ []) → TakesUp s u (done ++ r ∷ [])
  takes_more next =
      record {
        form = next.form ∙ so_far.form;
        stands = λ rs stands.
            subst (λ (l : List Record). StandsFor u l) (append_assoc rs done (r ∷ [])) (next.stands (rs ++ done) (so_far.stands rs stands));
        fit = λ rs stands.
            let there = so_far.stands rs stands in
            let one : FitsNext (room_on t) (rs ++ done) r = (next.fit (rs ++ done) there).0 in
            fits_more (room_on s) rs done r (so_far.fit rs stands) (subst (λ (room : Room). FitsNext room (rs ++ done) r) (so_far.room rs stands) one);
        room = λ rs stands.
            next.room (rs ++ done) (so_far.stands rs stands)
            ∙ ap (λ (room : Room). room_after room (rs ++ done) r) (so_far.room rs stands)
            ∙ sym (room_more (room_on s) rs done r);
      }

  pub lasts_more : (a b c : World) → Lasts s t done a b → Lasts t u (r ∷ []) b c → Lasts s u (done ++ r ∷ []) a c
  lasts_more a b c first next =
      record {
        goes = λ rs stands.
            let later : StepsGo (form_under s) (seat_under t) (seat_under u) (rs ++ done) ((rs ++ done) ++ r ∷ []) [] b c =
            subst (λ (f : Form). StepsGo f (seat_under t) (seat_under u) (rs ++ done) ((rs ++ done) ++ r ∷ []) [] b c) so_far.form (next.goes (rs ++ done) (so_far.stands rs stands)) in
            subst (λ (l : List Record). StepsGo (form_under s) (seat_under s) (seat_under u) rs l [] a c) (append_assoc rs done (r ∷ []))
            (goes_then (form_under s) (seat_under s) (seat_under t) (seat_under u) rs (rs ++ done) ((rs ++ done) ++ r ∷ []) [] [] a b c (first.goes rs stands) later);
      }

-- some records were committed, and of the next one a part, or nothing
pub part_more : (s t : StoreNow) (done records rest : List Record) (r : Record) (a b c : World) → records ≡ done ++ r ∷ rest → TakesUp s t done → Lasts s t done a b → LastsInPart t (r ∷ []) b c → LastsInPart s records a c
part_more s t done records rest r a b c cut takes lasts part rs stands =
    let next = part (rs ++ done) (takes.stands rs stands) in
    let later : StepsGoPart (form_under s) (seat_under t) (rs ++ done) ((rs ++ done) ++ next.done) [] b c =
    subst (λ (f : Form). StepsGoPart f (seat_under t) (rs ++ done) ((rs ++ done) ++ next.done) [] b c) takes.form next.goes in
    record {
      done = done ++ next.done;
      first = record {
        later = next.first.later ++ rest;
        cut =
            cut
            ∙ ap (λ (l : List Record). done ++ (l ++ rest)) next.first.cut
            ∙ ap (λ (l : List Record). done ++ l) (append_assoc next.done next.first.later rest)
            ∙ sym (append_assoc done next.done (next.first.later ++ rest));
      };
      goes =
          subst (λ (l : List Record). StepsGoPart (form_under s) (seat_under s) rs l [] a c) (append_assoc rs done next.done)
          (goes_then_part (form_under s) (seat_under s) (seat_under t) rs (rs ++ done) ((rs ++ done) ++ next.done) [] [] a b c (lasts.goes rs stands) later);
    }

-- all of some first ones were committed
pub part_all : (s t : StoreNow) (done records rest : List Record) (a b : World) → records ≡ done ++ rest → Lasts s t done a b → LastsInPart s records a b
part_all s t done records rest a b cut lasts rs stands =
    record {
      done = done;
      first = record { later = rest; cut = cut };
      goes = goes_part (form_under s) (seat_under s) (seat_under t) rs (rs ++ done) [] a b (lasts.goes rs stands);
    }

-- ---- how it ends

pub all_committed : (s t : StoreNow) (records : List Record) (a b : World) → TakesUp s t records → Lasts s t records a b → CommitRun {A = Unit {0}} s records (Ok tt) a b
all_committed s t records a b takes lasts rs stands =
    record { fit = takes.fit rs stands; to = seat_under t; goes = lasts.goes rs stands }

-- a record after others of a history follows on them
follows_those : (rs done rest : List Record) (r : Record) → AreHistory (rs ++ (done ++ r ∷ rest)) → Follows (history_of (rs ++ done)) r
follows_those rs done rest r history =
    follows_at nothing_yet (rs ++ done) r rest (subst (λ (l : List Record). IsLegalAfter nothing_yet l) (sym (append_assoc rs done (r ∷ rest))) history.legal)

module _ (s t : StoreNow) (done records rest : List Record) (r : Record) (a b : World) (cut : records ≡ done ++ r ∷ rest) (takes : TakesUp s t done) (lasts : Lasts s t done a b) where
  follows_here : (rs : List Record) → AreHistory (rs ++ records) → Follows (history_of (rs ++ done)) r
  follows_here rs history =
      follows_those rs done rest r (subst (λ (l : List Record). AreHistory (rs ++ l)) cut history)

  pub stopped : (why : Stop) → StopsAt t r why → CommitRun {A = Unit {0}} s records (Err why) a b
  stopped stop.NoRoom stops = λ rs stands history.
      record {
        up_to = record {
          first = done;
          r = r;
          rest = rest;
          cut = cut;
          fit = takes.fit rs stands;
          full = λ fits.
              stops (rs ++ done) (takes.stands rs stands) (follows_here rs history)
              (subst (λ (room : Room). FitsNext room (rs ++ done) r) (sym (takes.room rs stands)) fits);
        };
        to = seat_under t;
        goes = lasts.goes rs stands;
      }
  stopped stop.NotBehind stops = λ rs stands history. stops (rs ++ done) (takes.stands rs stands) (follows_here rs history)
  stopped stop.Disk stops = tt
  stopped stop.Memory stops = tt
  stopped stop.Device stops = stops
  stopped stop.Output stops = stops

-- ---- what an edge tells of it

module _ (s t : StoreNow) (done records rest : List Record) (r : Record) (x y z : Option World) (cut : records ≡ done ++ r ∷ rest) (takes : TakesUp s t done) (lasts : Told (Lasts s t done) x y) (part : Told (LastsInPart t (r ∷ [])) y z) where
  pub told_stopped : (why : Stop) → StopsAt t r why → WhereUnplanned {T = Unit {0}} (Err why) (z ≡ y) → Told (CommitRun {A = Unit {0}} s records (Err why)) x z
  told_stopped stop.NoRoom stops same =
      subst (λ (w : Option World). Told (CommitRun {A = Unit {0}} s records (Err stop.NoRoom)) x w) (sym same)
      (told_map (Lasts s t done) (CommitRun {A = Unit {0}} s records (Err stop.NoRoom)) x y (λ a b l. stopped s t done records rest r a b cut takes l stop.NoRoom stops) lasts)
  told_stopped stop.NotBehind stops same =
      subst (λ (w : Option World). Told (CommitRun {A = Unit {0}} s records (Err stop.NotBehind)) x w) (sym same)
      (told_map (Lasts s t done) (CommitRun {A = Unit {0}} s records (Err stop.NotBehind)) x y (λ a b l. stopped s t done records rest r a b cut takes l stop.NotBehind stops) lasts)
  told_stopped stop.Disk stops same =
      told_then (Lasts s t done) (LastsInPart t (r ∷ [])) (CommitRun {A = Unit {0}} s records (Err stop.Disk)) x y z (λ a b c l p. tt) lasts part
  told_stopped stop.Memory stops same =
      told_then (Lasts s t done) (LastsInPart t (r ∷ [])) (CommitRun {A = Unit {0}} s records (Err stop.Memory)) x y z (λ a b c l p. tt) lasts part
  told_stopped stop.Device stops same = absurd stops
  told_stopped stop.Output stops same = absurd stops

  pub told_part : Told (LastsInPart s records) x z
  told_part =
      told_then (Lasts s t done) (LastsInPart t (r ∷ [])) (LastsInPart s records) x y z (λ a b c l p. part_more s t done records rest r a b c cut takes l p) lasts part

pub ends_so : (t : StoreNow) (r : Record) (why : Stop) → StopsAt t r why → EndsAsCommit {A = Unit {0}} (Err why)
ends_so t r stop.NoRoom stops = tt
ends_so t r stop.NotBehind stops = tt
ends_so t r stop.Disk stops = tt
ends_so t r stop.Memory stops = tt
ends_so t r stop.Device stops = stops
ends_so t r stop.Output stops = stops

module _ (s t u : StoreNow) (done : List Record) (r : Record) (x y z : Option World) (takes : TakesUp s t done) (lasts : Told (Lasts s t done) x y) where
  pub told_more : Told (Lasts t u (r ∷ [])) y z → Told (Lasts s u (done ++ r ∷ [])) x z
  told_more next =
      told_then (Lasts s t done) (Lasts t u (r ∷ [])) (Lasts s u (done ++ r ∷ [])) x y z (λ a b c l n. lasts_more s t u done r takes a b c l n) lasts next

module _ (s t : StoreNow) (done records : List Record) (x y : Option World) (all : done ≡ records) (takes : TakesUp s t done) (lasts : Told (Lasts s t done) x y) where
  pub told_whole : Told (CommitRun {A = Unit {0}} s records (Ok tt)) x y
  told_whole =
      subst (λ (l : List Record). Told (CommitRun {A = Unit {0}} s l (Ok tt)) x y) all
      (told_map (Lasts s t done) (CommitRun {A = Unit {0}} s done (Ok tt)) x y (λ a b l. all_committed s t done a b takes l) lasts)

  pub told_whole_part : Told (LastsInPart s records) x y
  told_whole_part =
      told_map (Lasts s t done) (LastsInPart s records) x y (λ a b l. part_all s t done records [] a b (sym all ∙ sym (append-nil done)) l) lasts

-- a stop that doesn't blame the disk needs no cause
pub alone_caused : {T : Type 0} (before : Faults) (why : Stop) → why ≢ stop.Disk → DiskCaused {T = T} before before (Err why)
alone_caused before why alone = record { later = later_self before; disk = λ e. (let same : why ≡ stop.Disk = cc in absurd (alone same)) }

-- the cause of a later call is one of both
pub caused_later : {T : Type 0} (before between now : Faults) (result : Result T Stop) → Later before between → DiskCaused between now result → DiskCaused before now result
caused_later before between now result first cause =
    record {
      later = later_then before between now first cause.later;
      disk = λ e. rose_later before.disk between.disk now.disk now.disk first.disk cause.later.disk (omega arith) (cause.disk e);
    }

-- what isn't planned leaves all as it was, and so what is told
pub unplanned_so : (T U : Type 0) (why : Stop) (P Q : Type 0) → (P → Q) → WhereUnplanned {T = T} (Err why) P → WhereUnplanned {T = U} (Err why) Q
unplanned_so T U stop.NoRoom P Q f p = f p
unplanned_so T U stop.NotBehind P Q f p = f p
unplanned_so T U stop.Disk P Q f p = tt
unplanned_so T U stop.Memory P Q f p = tt
unplanned_so T U stop.Device P Q f p = tt
unplanned_so T U stop.Output P Q f p = tt

-- ---- the records of a loop

pub taken_next : (rs : List Record) (n : ℕ) (r : Record) → n < length rs → r ≡ get_or rs n r → take (n + 1) rs ≡ take n rs ++ r ∷ []
taken_next rs n r within here = (take_at_read rs n r within).1 ∙ ap (λ (x : Record). take n rs ++ x ∷ []) (sym here)

pub cut_next : (rs : List Record) (n : ℕ) (r : Record) → n < length rs → r ≡ get_or rs n r → rs ≡ take n rs ++ r ∷ drop (n + 1) rs
cut_next rs n r within here =
    sym (take-append-drop (n + 1) rs)
    ∙ ap (λ (l : List Record). l ++ drop (n + 1) rs) (taken_next rs n r within here)
    ∙ append_assoc (take n rs) (r ∷ []) (drop (n + 1) rs)

pub all_taken : (rs : List Record) (n : ℕ) → length rs ≤ n → take n rs ≡ rs
all_taken rs n whole =
    sym (append-nil (take n rs)) ∙ ap (λ (l : List Record). take n rs ++ l) (sym (drop_all n rs whole)) ∙ take-append-drop n rs

-- ---- where it ends, unless a call on the device failed

pub left_so : (T : Type 0) (why : Stop) (P : Type 0) → P → WhereLeft {T = T} (Err why) P
left_so T stop.NoRoom P p = p
left_so T stop.NotBehind P p = p
left_so T stop.Memory P p = p
left_so T stop.Device P p = p
left_so T stop.Output P p = p
left_so T stop.Disk P p = tt

pub some_none : (s : StoreNow) (a : World) → LastsSome s a a
some_none s a rs stands = record { done = []; to = seat_under s; goes = (lasts_none s a).goes rs stands }

pub some_lasts : (s t : StoreNow) (done : List Record) (a b : World) → Lasts s t done a b → LastsSome s a b
some_lasts s t done a b lasts rs stands = record { done = done; to = seat_under t; goes = lasts.goes rs stands }

pub some_keeps : (s : StoreNow) (r : Record) (a b : World) → Keeps s r a b → LastsSome s a b
some_keeps s r a b keeps rs stands = record { done = r ∷ []; to = seat_under (store_for s r); goes = keeps.goes rs stands }

some_more : (s t : StoreNow) (done : List Record) (a b c : World) → TakesUp s t done → Lasts s t done a b → LastsSome t b c → LastsSome s a c
some_more s t done a b c takes lasts some rs stands =
    let next : LastsFirst t (rs ++ done) b c = some (rs ++ done) (takes.stands rs stands) in
    let later : StepsGo (form_under s) (seat_under t) next.to (rs ++ done) ((rs ++ done) ++ next.done) [] b c =
    subst (λ (f : Form). StepsGo f (seat_under t) next.to (rs ++ done) ((rs ++ done) ++ next.done) [] b c) takes.form next.goes in
    record {
      done = done ++ next.done;
      to = next.to;
      goes =
          subst (λ (l : List Record). StepsGo (form_under s) (seat_under s) next.to rs l [] a c) (append_assoc rs done next.done)
          (goes_then (form_under s) (seat_under s) (seat_under t) next.to rs (rs ++ done) ((rs ++ done) ++ next.done) [] [] a b c (lasts.goes rs stands) later);
    }

module _ (s t : StoreNow) (done : List Record) (x y z : Option World) (takes : TakesUp s t done) (lasts : Told (Lasts s t done) x y) where
  told_some : Told (LastsSome t) y z → Told (LastsSome s) x z
  told_some some = told_then (Lasts s t done) (LastsSome t) (LastsSome s) x y z (λ a b c l p. some_more s t done a b c takes l p) lasts some

  -- some records, and then the next one was committed, or not
  pub told_left : (T U : Type 0) (why : Stop) → WhereLeft {T = T} (Err why) (Told (LastsSome t) y z) → WhereLeft {T = U} (Err why) (Told (LastsSome s) x z)
  told_left T U stop.NoRoom left = told_some left
  told_left T U stop.NotBehind left = told_some left
  told_left T U stop.Memory left = told_some left
  told_left T U stop.Device left = told_some left
  told_left T U stop.Output left = told_some left
  told_left T U stop.Disk left = tt

  pub told_some_all : Told (LastsSome s) x y
  told_some_all = told_map (Lasts s t done) (LastsSome s) x y (λ a b l. some_lasts s t done a b l) lasts
