-- What a stop leaves at each moment, within the opening and after it, and where a run ends.
use Rattle.std.proofs.Common.{◌≡◌, ℕ, ◌-◌, inl, inr, Bool, true, false, not, ◌&&◌, List, [], ◌∷◌, ◌++◌, length, take, drop, refl, sym, ap, subst, ◌∙◌, append-nil, append_assoc, arith}
use Rattle.std.proofs.lemmas.List.{append_cancel_left}
use Rattle.iss_edge.specs.declared.outside.Action.{Action}
use Rattle.iss_edge.specs.declared.outside.Action.TheVariants.{Write, Sync, Emit, Dial, Close}
use Rattle.iss_edge.specs.World.{World}
use Rattle.iss_edge.specs.Puts.{syncs_after}
use Rattle.iss_edge.specs.Disk.{Disk, after_action, after_actions, IsAtRest, IsImage}
use Rattle.iss_edge.specs.Stretches.{Step, actions_of, SentUpTo, ShowsUpTo, IsGood, GoesOn, with_levels}
use Rattle.iss_edge.proofs.Images.{failed_sync_image}
use Rattle.iss_edge.proofs.StretchLemmas.{EndsInSecond, front_of_two, actions_of-append, actions_of-leveled, after_actions-append, after_both, sent_append, sent_weaker, sent_leveled}
use Rattle.iss_journal.specs.Region.{ShowsFirmly, RestsFirst}
use Rattle.iss_halves.specs.Forms.{Form, Seat}
use Rattle.iss_halves.specs.Standing.{JournalHolds}
use Rattle.iss_model.specs.declared.input.Record.{Record}
use Rattle.iss_standing.specs.Standing.{bodies_of, image_after, DeviceStandsFor, RestsAt, StandsAt, OpensAt, OpenedAt}
use Rattle.iss_standing.specs.Goings.{AreFirstOf, StepsGo, StepsGoPart}
use Rattle.iss_standing.proofs.Bodies.{first_self, first_image, first_between}
use Rattle.iss_standing.proofs.Holds.{holds_map}
use Rattle.iss_standing.proofs.Goings.{goes_rests}
use Rattle.iss_opening.specs.Values.{StoreNow, form_under, seat_under}
use Rattle.iss_opening.specs.Opening.{AreOnDevice, SyncsFirst, WritesEndGate, OpensGood, OpenedAs}
use Rattle.iss_device.specs.Moments.{BeginsAtRest, BeginsUnsynced, EachMoment, AsBefore, EachMomentUnsynced, EndsAtRest}
use Rattle.iss_device.proofs.Devices.{stands_opened}

-- what an opening starts with may be said of more records
starts_first : (form : Form) (rs all : List Record) (start device : List ℕ) → AreFirstOf rs all → OpensAt form rs start device (length rs) → OpensAt form all start device (length rs)
starts_first form rs all start device first starts =
    let p = starts.seat.point in
    record {
      same = starts.same;
      seat = starts.seat;
      low = starts.low;
      holds =
          holds_map form starts.seat (image_after (take p all))
          (λ region. ShowsFirmly region (take (length rs - p) (drop p (bodies_of rs))) device)
          (λ region. ShowsFirmly region (take (length rs - p) (drop p (bodies_of all))) device)
          (λ region firm. subst (λ (l : List (List ℕ)). ShowsFirmly region l device) (sym (first_between p (length rs) rs all first starts.low (omega arith))) firm)
          (subst (λ (image : List ℕ). JournalHolds form starts.seat image (λ region. ShowsFirmly region (take (length rs - p) (drop p (bodies_of rs))) device))
          (sym (first_image p rs all first starts.low)) starts.holds);
    }

-- ---- a device with unsynced writes, which the first sync settles

syncs_to_rest : (d : Disk) → ((place : ℕ) → d.failed place ≡ false) → IsAtRest (after_action d (Sync true))
syncs_to_rest d none = record { settled = λ place. ap (λ (b : Bool). not (not true && d.touched place) && not b) (none place) }

-- a run whose first step is a sync that succeeds
module _ (form : Form) (rs all : List Record) (device : List ℕ) (first : Step) (more later : List Step) (syncs : first.action ≡ Sync true) (each : EachMoment form rs all (first ∷ more) later device) where
  pub synced_moments : EachMomentUnsynced form rs all (first ∷ more) later device
  synced_moments d begins [] rest cut image is = inl (record { within = (first ∷ more, refl); unsynced = refl; is_image = is })
  synced_moments d begins (step ∷ before) rest cut image is =
      let head : step ≡ first = cc in
      let now = after_action d (Sync true) in
      let same : after_action d step.action ≡ after_action now step.action =
      ap (λ (x : Step). after_action d x.action) head ∙ ap (after_action d) syncs
      ∙ sym (ap (λ (x : Step). after_action now x.action) head ∙ ap (after_action now) syncs) in
      inr (each now (record { rest = syncs_to_rest d begins.none_failed; starts = begins.starts }) (step ∷ before) rest cut image
      (subst (λ (x : Disk). IsImage (after_actions x (actions_of before)) image) same is))

-- after a sync that failed, and nothing more
nothing_synced : (before rest : List Step) → before ++ rest ≡ [] → syncs_after 0 (Sync false ∷ actions_of before) ≡ 0
nothing_synced [] rest none = refl
nothing_synced (step ∷ before) rest none = absurd cc

only_failed : (d : Disk) (image : List ℕ) (before rest : List Step) → before ++ rest ≡ [] → IsImage (after_actions d (Sync false ∷ actions_of before)) image → IsImage d image
only_failed d image [] rest none is = failed_sync_image d image is
only_failed d image (step ∷ before) rest none is = absurd cc

unsynced_moment : (opening : List Step) (added : List Action) (d : Disk) (image : List ℕ) (before rest : List Step) → opening ≡ with_levels 0 (Sync false ∷ added) → added ≡ [] → opening ++ [] ≡ before ++ rest
    → IsImage (after_actions d (actions_of before)) image → AsBefore opening before d image
unsynced_moment opening added d image [] rest is_opening alone cut is = record { within = (opening, refl); unsynced = refl; is_image = is }
unsynced_moment opening added d image (step ∷ before) rest is_opening alone cut is =
    let failed : Step = record { action = Sync false; level = 0 } in
    let one : opening ≡ failed ∷ [] = is_opening ∙ ap (λ (l : List Action). with_levels 0 (Sync false ∷ l)) alone in
    let whole : failed ∷ [] ≡ step ∷ (before ++ rest) = ap (λ (l : List Step). l ++ []) (sym one) ∙ cut in
    let head : step ≡ failed = cc in
    let none : before ++ rest ≡ [] = cc in
    record {
      within = (rest, one ∙ whole);
      unsynced = ap (λ (x : Step). syncs_after 0 (x.action ∷ actions_of before)) head ∙ nothing_synced before rest none;
      is_image = only_failed d image before rest none (subst (λ (x : Step). IsImage (after_actions d (x.action ∷ actions_of before)) image) head is);
    }

none_before : (d : Disk) (image : List ℕ) (before rest : List Step) → [] ≡ before ++ rest → IsImage (after_actions d (actions_of before)) image → AsBefore [] before d image
none_before d image [] rest cut is = record { within = ([], refl); unsynced = refl; is_image = is }
none_before d image (step ∷ before) rest cut is = absurd cc

-- a run that ended with its opening
module _ (form : Form) (rs all : List Record) (device : List ℕ) where
  unopened_unsynced : (added : List Action) → SyncsFirst added → EachMoment form rs all (with_levels 0 added) [] device → EachMomentUnsynced form rs all (with_levels 0 added) [] device
  unopened_unsynced [] syncs each = λ d begins before rest cut image is. inl (none_before d image before rest cut is)
  unopened_unsynced (Sync true ∷ added) syncs each =
      synced_moments form rs all device (record { action = Sync true; level = 0 }) (with_levels 0 added) [] refl each
  unopened_unsynced (Sync false ∷ added) syncs each =
      λ d begins before rest cut image is. inl (unsynced_moment (with_levels 0 (Sync false ∷ added)) added d image before rest refl syncs cut is)
  unopened_unsynced (Write at bytes ok ∷ added) syncs each = absurd syncs
  unopened_unsynced (Emit ch bytes ok ∷ added) syncs each = absurd syncs
  unopened_unsynced (Dial ch ∷ added) syncs each = absurd syncs
  unopened_unsynced (Close ch ∷ added) syncs each = absurd syncs

-- ---- a run that ended with its opening

-- what an opening does is on the device alone, also with levels
pub opening_on_device : (actions : List Action) → AreOnDevice actions → AreOnDevice (actions_of (with_levels 0 actions))
opening_on_device actions alone = subst AreOnDevice (sym (actions_of-leveled 0 actions)) alone

-- and it is what an opening may be
pub opening_is : (actions : List Action) → SyncsFirst actions → SyncsFirst (actions_of (with_levels 0 actions))
opening_is actions syncs = subst SyncsFirst (sym (actions_of-leveled 0 actions)) syncs

pub opening_gate : (form : Form) (rs : List Record) (a b : World) (good : OpensGood a b) → WritesEndGate form rs a.device (actions_of (with_levels 0 good.added))
opening_gate form rs a b good =
    subst (WritesEndGate form rs a.device) (sym (actions_of-leveled 0 good.added)) (good.gate form rs)

pub trace_opened : (a b : World) (good : OpensGood a b) → b.trace ≡ a.trace ++ actions_of (with_levels 0 good.added ++ [])
trace_opened a b good =
    good.grew ∙ ap (λ (l : List Action). a.trace ++ l) (sym (ap actions_of (append-nil (with_levels 0 good.added)) ∙ actions_of-leveled 0 good.added))

pub not_opened_moments : (form : Form) (seat : Seat) (rs : List Record) (a b : World) (good : OpensGood a b) → DeviceStandsFor form seat rs a.device → EachMoment form rs rs (with_levels 0 good.added) [] a.device
not_opened_moments form seat rs a b good stands =
    let opening = with_levels 0 good.added in
    λ d begins before after cut image is.
    let ends : opening ≡ before ++ after = sym (append-nil opening) ∙ cut in
    inr (
      (after, ends),
      (good.good form seat rs rs opening stands (first_self rs) (actions_of-leveled 0 good.added)).each d begins.rest begins.starts before after ends image is,
    )

pub not_opened_unsynced : (form : Form) (seat : Seat) (rs : List Record) (a b : World) (good : OpensGood a b) → DeviceStandsFor form seat rs a.device → EachMomentUnsynced form rs rs (with_levels 0 good.added) [] a.device
not_opened_unsynced form seat rs a b good stands =
    unopened_unsynced form rs rs a.device good.added good.syncs (not_opened_moments form seat rs a b good stands)

-- ---- a run on the store that was opened

module _ (form : Form) (seat : Seat) (rs : List Record) (s : StoreNow) (a b : World) (opening : OpenedAs s a b) (stands : DeviceStandsFor form seat rs a.device) where
  form_is : form_under s ≡ form
  form_is = (stands_opened form seat rs s a b opening stands).form_is

  abbrev opening_steps : List Step
  opening_steps = with_levels 0 opening.good.added

  same_opening : opening.good.added ≡ opening.going.added
  same_opening = append_cancel_left a.trace opening.good.added opening.going.added (sym opening.good.grew ∙ opening.going.grew)

  pub trace_behind : (d : World) (steps : List Step) → d.trace ≡ b.trace ++ actions_of steps → d.trace ≡ a.trace ++ actions_of (opening_steps ++ steps)
  trace_behind d steps grew =
      grew
      ∙ ap (λ (t : List Action). t ++ actions_of steps) opening.good.grew
      ∙ append_assoc a.trace opening.good.added (actions_of steps)
      ∙ ap (λ (l : List Action). a.trace ++ l)
      (sym (actions_of-append opening_steps steps ∙ ap (λ (l : List Action). l ++ actions_of steps) (actions_of-leveled 0 opening.good.added)))

  opening_goes_on : (all : List Record) → AreFirstOf rs all → GoesOn (OpensAt form all a.device) (OpenedAt form all a.device) (RestsAt form (seat_under s) all) (length rs) (length rs) opening_steps
  opening_goes_on all first =
      opening.going.goes_on form seat rs all opening_steps stands first (actions_of-leveled 0 opening.good.added ∙ same_opening)

  module _ (now : List Record) (said : List Step) (d : World) (part : StepsGoPart (form_under s) (seat_under s) rs now said b d) where
    later_good : IsGood (RestsAt form (seat_under s) now) (StandsAt form now) (length rs) (length now) part.steps
    later_good =
        subst (λ (f : Form). IsGood (RestsAt f (seat_under s) now) (StandsAt f now) (length rs) (length now) part.steps) form_is (part.good now (first_self now))

    -- a moment after the opening
    moment_later : (disk : Disk) → IsAtRest disk → OpensAt form now a.device disk.bytes (length rs) → (before rest : List Step) (image : List ℕ)
        → IsImage (after_actions disk (actions_of before)) image → EndsInSecond opening_steps part.steps before rest
        → ShowsUpTo (StandsAt form now) (length rs) (length now) before image
    moment_later disk calm starts before rest image is ends =
        let mid = after_actions disk (actions_of opening_steps) in
        let there : after_actions disk (actions_of before) ≡ after_actions mid (actions_of ends.prefix) =
        ap (λ (l : List Step). after_actions disk (actions_of l)) ends.is ∙ after_both disk opening_steps ends.prefix in
        let opened = opening_goes_on now part.more in
        let shows : ShowsUpTo (StandsAt form now) (length rs) (length now) ends.prefix image =
        later_good.each mid (opened.at_rest disk calm starts) (opened.rest disk calm starts) ends.prefix rest ends.cut image
        (subst (λ (x : Disk). IsImage x image) there is) in
        let opened_told : SentUpTo shows.i opening_steps = sent_weaker 0 shows.i opening_steps (omega arith) (sent_leveled 0 opening.good.added) in
        record {
          i = shows.i;
          low = shows.low;
          high = shows.high;
          stand = shows.stand;
          told = subst (λ (l : List Step). SentUpTo shows.i l) (sym ends.is) (sent_append shows.i opening_steps ends.prefix opened_told shows.told);
        }

    pub opened_moments : EachMoment form rs now opening_steps part.steps a.device
    opened_moments disk begins before rest cut image is =
        let starts : OpensAt form now a.device disk.bytes (length rs) =
        starts_first form rs now a.device disk.bytes part.more begins.starts in
        elim (front_of_two opening_steps part.steps before rest cut) [
          | inl h ↦ inr ((h.rest, h.is), (opening_goes_on now part.more).good.each disk begins.rest starts before h.rest h.is image is)
          | inr h ↦ inl (moment_later disk begins.rest starts before rest image is h)
        ]

    pub opened_unsynced : EachMomentUnsynced form rs now opening_steps part.steps a.device
    opened_unsynced =
        let syncs : opening.good.added ≡ Sync true ∷ opening.going.behind = same_opening ∙ opening.going.synced in
        subst (λ (l : List Action). EachMomentUnsynced form rs now (with_levels 0 l) part.steps a.device) (sym syncs)
        (synced_moments form rs now a.device (record { action = Sync true; level = 0 }) (with_levels 0 opening.going.behind) part.steps refl
        (subst (λ (l : List Action). EachMoment form rs now (with_levels 0 l) part.steps a.device) syncs opened_moments))

  -- ---- where it ends

  module _ (to : Seat) (now : List Record) (said : List Step) (d : World) (goes : StepsGo (form_under s) (seat_under s) to rs now said b d) where
    pub rests_now : RestsAt form to now d.device (length now)
    rests_now =
        let begins : RestsAt (form_under s) (seat_under s) rs b.device (length rs) =
        subst (λ (f : Form). RestsAt f (seat_under s) rs b.device (length rs)) (sym form_is) (opening.going.rests form seat rs stands) in
        subst (λ (f : Form). RestsAt f to now d.device (length now)) form_is (goes_rests (form_under s) (seat_under s) to rs now said b d goes begins)

    -- as it reads, the device is what was left of it
    left_now : (disk : Disk) → disk.bytes ≡ a.device → (after_actions disk (opening.good.added ++ actions_of goes.steps)).bytes ≡ d.device
    left_now disk is =
        ap (λ (x : Disk). x.bytes) (after_actions-append disk opening.good.added (actions_of goes.steps))
        ∙ goes.leaves.leaves (after_actions disk opening.good.added)
        (ap (λ (l : List Action). (after_actions disk l).bytes) same_opening ∙ opening.going.leaves disk is)

    calm_now : (disk : Disk) → BeginsAtRest form rs a.device disk → IsAtRest (after_actions disk (opening.good.added ++ actions_of goes.steps))
    calm_now disk begins =
        let starts : OpensAt form now a.device disk.bytes (length rs) =
        starts_first form rs now a.device disk.bytes goes.more begins.starts in
        let opened = opening_goes_on now goes.more in
        let mid = after_actions disk (actions_of opening_steps) in
        let going : GoesOn (RestsAt form (seat_under s) now) (StandsAt form now) (RestsAt form to now) (length rs) (length now) goes.steps =
        subst (λ (f : Form). GoesOn (RestsAt f (seat_under s) now) (StandsAt f now) (RestsAt f to now) (length rs) (length now) goes.steps) form_is (goes.goes_on now (first_self now)) in
        let whole : after_actions mid (actions_of goes.steps) ≡ after_actions disk (opening.good.added ++ actions_of goes.steps) =
        ap (λ (l : List Action). after_actions (after_actions disk l) (actions_of goes.steps)) (actions_of-leveled 0 opening.good.added)
        ∙ sym (after_actions-append disk opening.good.added (actions_of goes.steps)) in
        subst IsAtRest whole (going.at_rest mid (opened.at_rest disk begins.rest starts) (opened.rest disk begins.rest starts))

    -- the opening's sync settles what was unsynced
    settled_now : (disk : Disk) → after_actions (after_action disk (Sync true)) (opening.good.added ++ actions_of goes.steps) ≡ after_actions disk (opening.good.added ++ actions_of goes.steps)
    settled_now disk =
        let synced : opening.good.added ≡ Sync true ∷ opening.going.behind = same_opening ∙ opening.going.synced in
        ap (λ (l : List Action). after_actions (after_action disk (Sync true)) (l ++ actions_of goes.steps)) synced
        ∙ sym (ap (λ (l : List Action). after_actions disk (l ++ actions_of goes.steps)) synced)

    calm_then : (disk : Disk) → BeginsUnsynced form rs a.device disk → IsAtRest (after_actions disk (opening.good.added ++ actions_of goes.steps))
    calm_then disk begins =
        subst IsAtRest (settled_now disk)
        (calm_now (after_action disk (Sync true)) (record { rest = syncs_to_rest disk begins.none_failed; starts = begins.starts }))

    pub ends_at_rest : EndsAtRest form rs now (opening.good.added ++ actions_of goes.steps) a d
    ends_at_rest =
        record {
          seat = to;
          closed = rests_now;
          begins = λ disk begins.
              let left : (after_actions disk (opening.good.added ++ actions_of goes.steps)).bytes ≡ d.device = left_now disk begins.starts.same in
              record {
                rest = calm_then disk begins;
                starts =
                    record {
                      same = left;
                      seat = to;
                      low = rests_now.low;
                      holds =
                          holds_map form to (image_after (take to.point now))
                          (λ region. RestsFirst region (drop to.point (bodies_of now)) d.device (length now - to.point))
                          (λ region. ShowsFirmly region (take (length now - to.point) (drop to.point (bodies_of now))) (after_actions disk (opening.good.added ++ actions_of goes.steps)).bytes)
                          (λ region closed. subst (λ (l : List ℕ). ShowsFirmly region (take (length now - to.point) (drop to.point (bodies_of now))) l) (sym left) (inl closed))
                          rests_now.holds;
                    };
              };
        }
