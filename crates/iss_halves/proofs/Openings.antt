-- Closing the end gate of what was found keeps what a device holds, and a device has one form.
use Rattle.std.proofs.Common.{◌≡◌, ℕ, ◌-◌, ◌^◌, ◌<◌, Bool, true, false, List, [], ◌∷◌, length, take, drop, get_or, refl, sym, ap, ◌∙◌, subst, arith}
use Rattle.std.proofs.lemmas.List.{take-take, get_or-take}
use Rattle.iss_edge.specs.World.{World}
use Rattle.iss_edge.specs.Disk.{after_actions}
use Rattle.iss_edge.specs.declared.outside.Action.TheVariants.{Sync}
use Rattle.iss_edge.specs.Stretches.{Step, actions_of, ShowsUpTo, GoesOn}
use Rattle.iss_edge.proofs.StretchLemmas.{sent_weaker, Parts, parts, join_on, sync_goes_on}
use Rattle.iss_journal.specs.Place.{Place}
use Rattle.iss_journal.specs.Region.{Region, Shows, ShowsFirmly, RestsFirst}
use Rattle.iss_journal.specs.Header.{header}
use Rattle.iss_journal.specs.Formatting.{whole_device}
use Rattle.iss_journal.specs.Opening.{OpensFirst, OpenedOrOneMore, IsEndGate, ClosesGoing}
use Rattle.iss_journal.proofs.Records.{one_list}
use Rattle.iss_journal.proofs.Closings.{shows_firm, opens_unchanged}
use Rattle.iss_journal.proofs.ReadLemmas.{reads_to_the_end}
use Rattle.iss_halves.specs.Forms.{Form, Layout, form_of}
use Rattle.iss_halves.specs.Halves.{halves_header, names_second, half_region, HoldsHalf}
use Rattle.iss_halves.specs.Standing.{Saved, HoldsOf, JournalHolds, RestsFrom}
use Rattle.iss_halves.specs.Finding.{HasKind, found_region}
use Rattle.iss_halves.specs.Opening.{OpensFrom, OpenedFrom, IsRead, OpeningsKeep, IsPoint, OpeningsGoOn, OneForm}
use Rattle.iss_halves.proofs.Turns.{start_least, below_length}
use Rattle.iss_journal.proofs.Formats.{instance_back}
use Rattle.iss_halves.proofs.Findings.{instance_back as halves_back}
use Rattle.iss_halves.proofs.Standings.{length-header, at}
use Rattle.iss_halves.proofs.FoundHalves.{AtFound, long, at_found, shown_front}

-- ---- closing the end gate

module _ (layout : Layout) (image : List ℕ) (bodies : List (List ℕ)) (place : Place) (device : List ℕ) (read : IsRead layout image bodies place device) where
  -- the records that are shown end at the gate up to which was read
  ends_there : (others : List (List ℕ)) → Shows (found_region layout image device) others device → IsEndGate (found_region layout image device) others place
  ends_there others shows =
      let region = found_region layout image device in
      let same : bodies ≡ others = one_list region bodies others device (reads_to_the_end region bodies place device read.read read.shut) shows in
      subst (λ (l : List (List ℕ)). IsEndGate region l place) same read.read.end_gate

pub openings_keep : OpeningsKeep
openings_keep layout image bodies place a b did saved j steps read all =
    record {
      each = λ d calm start before rest cut now is.
          let point = start.seat.point in
          let later = drop point saved.bodies in
          let region = found_region layout image a.device in
          let firm = λ (r : Region). ShowsFirmly r (take (j - point) later) a.device in
          let here = at_found layout.halved layout.instance layout.size layout.second start.seat.second point image (saved.image point) a.device firm read.found.size read.found.has.kind read.found.image_there
          (λ r shows. shown_front r (take (j - point) later) a.device (shows_firm r (take (j - point) later) a.device shows))
          (subst (λ (l : List ℕ). JournalHolds (form_of layout) start.seat (saved.image point) (λ r. ShowsFirmly r (take (j - point) later) l)) start.same start.holds) in
          let opens : OpensFirst region later a.device d.bytes (j - point) =
          record { same = start.same; firm = subst (λ (l : List ℕ). ShowsFirmly region (take (j - point) later) l) (sym start.same) here.holds } in
          let ends : IsEndGate region (take (j - point) later) place =
          ends_there layout image bodies place a.device read (take (j - point) later) (shows_firm region (take (j - point) later) a.device here.holds) in
          let shows : ShowsUpTo (OpenedOrOneMore region later a.device) (j - point) (j - point) before now =
          (did.good region later (j - point) steps ends all).each d calm opens before rest cut now is in
          let same : shows.i ≡ j - point = omega (arith, shows.low, shows.high) in
          record {
            i = j;
            low = omega arith;
            high = omega arith;
            stand = record {
              seat = start.seat;
              low = start.low;
              holds = here.again (λ r. OpenedOrOneMore r later a.device now (j - point)) (subst (λ (n : ℕ). OpenedOrOneMore region later a.device now n) same shows.stand);
            };
            told = sent_weaker shows.i j before (omega (arith, same)) shows.told;
          };
    }

-- ---- an opening as a whole: a sync, and the end gate closed

-- what an opening starts with is what it may leave
opens_same : (form : Form) (saved : Saved) (start device : List ℕ) (i : ℕ) → OpensFrom form saved start device i → OpenedFrom form saved start device i
opens_same form saved start device i opens =
    let point = opens.seat.point in
    let later = drop point saved.bodies in
    let h = at form opens.seat (saved.image point) (λ region. ShowsFirmly region (take (i - point) later) device) opens.holds in
    record {
      seat = opens.seat;
      low = opens.low;
      holds =
          h.again (λ region. OpenedOrOneMore region later start device (i - point))
          (opens_unchanged h.region later start device (i - point) (record { same = opens.same; firm = h.holds }));
    }

-- the half and the point by which a seat is told
same_half : (halved : Bool) (instance size : ℕ) (second other : Bool) (point : ℕ) (image : List ℕ) (P : Region → Type 0) → (halved ≡ true → other ≡ second) → HoldsOf halved instance size other point image P → HoldsOf halved instance size second point image P
same_half true instance size second other point image P is holds = subst (λ (b : Bool). HoldsHalf instance size b image P) (is refl) holds
same_half false instance size second other point image P is holds = holds

same_point : (halved : Bool) (instance size : ℕ) (other : Bool) (p point : ℕ) (image : List ℕ) (P : Region → Type 0) → (halved ≡ true → p ≡ point) → (halved ≡ false → point ≡ 0) → HoldsOf halved instance size other p image P → p ≡ point
same_point true instance size other p point image P is none holds = is refl
same_point false instance size other p point image P is none holds = holds.0 ∙ sym (none refl)

module _ (layout : Layout) (image : List ℕ) (bodies : List (List ℕ)) (place : Place) (a b : World) (saved : Saved) (j point : ℕ) (read : IsRead layout image bodies place a.device) (is_point : IsPoint layout image saved j point) where
  abbrev form : Form
  form = form_of layout

  module _ (device : List ℕ) (start : OpensFrom form saved a.device device j) where
    abbrev p : ℕ
    p = start.seat.point

    abbrev later : List (List ℕ)
    later = drop p saved.bodies

    abbrev region : Region
    region = found_region layout image a.device

    abbrev Firm : Region → Type 0
    Firm r = ShowsFirmly r (take (j - p) later) a.device

    on_start : JournalHolds form start.seat (saved.image p) (λ r. ShowsFirmly r (take (j - p) later) a.device)
    on_start = subst (λ (l : List ℕ). JournalHolds form start.seat (saved.image p) (λ r. ShowsFirmly r (take (j - p) later) l)) start.same start.holds

    abbrev here : AtFound layout.halved layout.instance layout.size layout.second start.seat.second p image (saved.image p) a.device (λ r. ShowsFirmly r (take (j - p) later) a.device)
    here =
        at_found layout.halved layout.instance layout.size layout.second start.seat.second p image (saved.image p) a.device (λ r. ShowsFirmly r (take (j - p) later) a.device) read.found.size read.found.has.kind read.found.image_there
        (λ r shows. shown_front r (take (j - p) later) a.device (shows_firm r (take (j - p) later) a.device shows)) on_start

    opens_here : OpensFirst region later a.device device (j - p)
    opens_here = record { same = start.same; firm = subst (λ (l : List ℕ). ShowsFirmly region (take (j - p) later) l) (sym start.same) here.holds }

    ends_here : IsEndGate region (take (j - p) later) place
    ends_here = ends_there layout image bodies place a.device read (take (j - p) later) (shows_firm region (take (j - p) later) a.device here.holds)

    point_here : p ≡ point
    point_here =
        same_point layout.halved layout.instance layout.size start.seat.second p point (saved.image p) (λ r. ShowsFirmly r (take (j - p) later) a.device)
        (λ halved. is_point.of_image halved p start.low (here.image_is halved)) is_point.none on_start

    rests_here : (now : List ℕ) → RestsFirst region later now (j - p) → RestsFrom form (record { second = layout.second; point = point }) saved now j
    rests_here now rests =
        subst (λ (n : ℕ). RestsFrom form (record { second = layout.second; point = n }) saved now j) point_here
        (record {
          low = start.low;
          holds =
              same_half layout.halved layout.instance layout.size layout.second start.seat.second p (saved.image p) (λ r. RestsFirst r later now (j - p)) here.half_is
              (here.again (λ r. RestsFirst r later now (j - p)) rests);
        })

  closes_good : (did : ClosesGoing place a b) (steps : List Step) → actions_of steps ≡ did.part.actions → GoesOn (OpensFrom form saved a.device) (OpenedFrom form saved a.device) (RestsFrom form (record { second = layout.second; point = point }) saved) j j steps
  closes_good did steps all =
      record {
        good = openings_keep layout image bodies place a b
            (record { part = did.part; good = λ r l i s e x. (did.goes_on r l i s e x).good }) saved j steps read all;
        at_rest = λ d calm start. (did.goes_on (found_region layout image a.device) (later d.bytes start) (j - start.seat.point) steps (ends_here d.bytes start) all).at_rest d calm (opens_here d.bytes start);
        rest = λ d calm start.
            rests_here d.bytes start (after_actions d (actions_of steps)).bytes
            ((did.goes_on (found_region layout image a.device) (later d.bytes start) (j - start.seat.point) steps (ends_here d.bytes start) all).rest d calm (opens_here d.bytes start));
      }

pub openings_go_on : OpeningsGoOn
openings_go_on layout image bodies place a b did saved j point steps read is_point all =
    let form = form_of layout in
    let two : Parts steps (Sync true ∷ []) did.part.actions = parts steps (Sync true ∷ []) did.part.actions all in
    let starts = OpensFrom form saved a.device in
    let stands = OpenedFrom form saved a.device in
    let ends = RestsFrom form (record { second = layout.second; point = point }) saved in
    subst (λ (l : List Step). GoesOn starts stands ends j j l) (sym two.is)
    (join_on starts stands starts ends j j j two.first two.second
    (sync_goes_on starts stands j true two.first (λ bytes opens. opens_same form saved a.device bytes j opens) two.first_is)
    (closes_good layout image bodies place a b saved j point read is_point did two.second two.second_is))

-- ---- one form a device

-- the version stands at place 5
version_one : (instance : ℕ) → get_or (header instance) 5 0 ≡ 1
unfolding header
version_one instance = refl

version_two : (instance : ℕ) → get_or (halves_header instance) 5 0 ≡ 2
unfolding halves_header
version_two instance = refl

other_version : (i j : ℕ) → header i ≡ halves_header j → ⊥
other_version i j e = omega (arith, sym (version_one i) ∙ ap (λ (l : List ℕ). get_or l 5 0) e ∙ version_two j)

-- the header of a device that shows records
front_one : (instance size : ℕ) (bodies : List (List ℕ)) (device : List ℕ) → Shows (whole_device instance size) bodies device → take 16 device ≡ header instance
front_one instance size bodies device shows =
    ap (λ (n : ℕ). take n device) (sym (length-header instance size)) ∙ shown_front (whole_device instance size) bodies device shows

front_two : (instance size : ℕ) (second : Bool) (image : List ℕ) (bodies : List (List ℕ)) (device : List ℕ) → HoldsHalf instance size second image (λ region. Shows region bodies device) → take 16 device ≡ halves_header instance
front_two instance size second image bodies device half =
    let long = below_length instance size second image half.below half.is_below in
    sym (take-take 16 (length half.below) device (omega (arith, long, start_least size second)))
    ∙ ap (λ (l : List ℕ). take 16 l) (shown_front (half_region size second half.below) bodies device half.journal)
    ∙ half.is_below.header

selector_two : (instance size : ℕ) (second : Bool) (image : List ℕ) (bodies : List (List ℕ)) (device : List ℕ) → HoldsHalf instance size second image (λ region. Shows region bodies device) → names_second (get_or device 16 0) ≡ second
selector_two instance size second image bodies device half =
    let long = below_length instance size second image half.below half.is_below in
    ap names_second (sym (get_or-take (length half.below) device 16 0 (omega (arith, long, start_least size second))) ∙ ap (λ (l : List ℕ). get_or l 16 0) (shown_front (half_region size second half.below) bodies device half.journal))
    ∙ half.current

one_instance : (i j : ℕ) (bytes : List ℕ) → i < 2 ^ 48 → j < 2 ^ 48 → bytes ≡ header i → bytes ≡ header j → i ≡ j
one_instance i j bytes small_i small_j is_i is_j = sym (instance_back i bytes small_i is_i) ∙ instance_back j bytes small_j is_j

forms : (halved : Bool) (instance size : ℕ) (second : Bool) (point : ℕ) (image : List ℕ) (bodies : List (List ℕ)) (halved' : Bool) (instance' size' : ℕ) (second' : Bool) (device : List ℕ) → instance < 2 ^ 48 → HasKind halved' instance' second' device → size' ≡ length device
    → HoldsOf halved instance size second point image (λ region. Shows region bodies device)
    → ((halved ≡ halved') × (instance ≡ instance') × (size ≡ size')) × (halved ≡ true → second ≡ second')
forms true instance size second point image bodies true instance' size' second' device small has whole half = (
  (
    refl,
    sym (halves_back instance (take 16 device) small (front_two instance size second image bodies device half)) ∙ halves_back instance' (take 16 device) has.0.small has.0.is,
    sym half.journal.ends.whole ∙ sym whole,
  ),
  λ e. sym (selector_two instance size second image bodies device half) ∙ has.1,
)
forms false instance size second point image bodies false instance' size' second' device small has whole one = (
  (refl, one_instance instance instance' (take 16 device) small has.small (front_one instance size bodies device one.1) has.is, sym one.1.ends.whole ∙ sym whole),
  λ e. cc,
)
forms true instance size second point image bodies false instance' size' second' device small has whole half =
    absurd (other_version instance' instance (sym has.is ∙ front_two instance size second image bodies device half))
forms false instance size second point image bodies true instance' size' second' device small has whole one =
    absurd (other_version instance instance' (sym (front_one instance size bodies device one.1) ∙ has.0.is))

pub one_form : OneForm
one_form form seat image bodies layout device small has whole holds =
    let same = forms form.halved form.instance form.size seat.second seat.point image bodies layout.halved layout.instance layout.size layout.second device small has.kind whole holds in
    (λ i. record { halved = same.0.0 i; instance = same.0.1 i; size = same.0.2 i }, same.1)
