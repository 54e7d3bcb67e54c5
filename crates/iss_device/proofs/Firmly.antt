-- What a stop leaves stands firmly: the next run may begin with it.
use Rattle.std.proofs.Common.{◌≡◌, ◌≤◌, ℕ, ◌+◌, ◌-◌, inl, inr, true, false, List, [], ◌∷◌, ◌++◌, length, take, drop, set, refl, sym, ap, subst, ◌∙◌, arith, length-append, append_assoc}
use Rattle.std.proofs.lemmas.List.{append_cancel_left, take-append-drop, length-take, length-take-le, drop-append-le, length-map}
use Rattle.std.proofs.Math.Seq.{take-add}
use Rattle.iss_edge.specs.Disk.{Disk}
use Rattle.iss_edge.specs.Stretches.{Step, SentUpTo, ShowsUpTo}
use Rattle.iss_edge.proofs.StretchLemmas.{sent_weaker}
use Rattle.iss_journal.specs.Region.{Region, bytes_before_gate, Shows, ShowsClosed, LeavesBehind, ShowsFirmly, StandsFirst}
use Rattle.iss_journal.specs.Opening.{OpenedOrOneMore, WasLeft}
use Rattle.iss_journal.proofs.Closings.{shows_closed, gate_byte}
use Rattle.iss_journal.proofs.Records.{one_list}
use Rattle.iss_halves.specs.Forms.{Form, Seat}
use Rattle.iss_halves.specs.Standing.{JournalHolds}
use Rattle.iss_halves.proofs.Standings.{at}
use Rattle.iss_model.specs.declared.input.Record.{Record}
use Rattle.iss_model.specs.declared.limits.TheConstants.{MOST_RECORDS}
use Rattle.iss_model.specs.texts.Spelling.{spelling}
use Rattle.iss_standing.specs.Standing.{bodies_of, image_after, AreHistory, IsForm, StandsAt, OpenedAt}
use Rattle.iss_standing.specs.Goings.{AreFirstOf}
use Rattle.iss_standing.proofs.Bodies.{take_bodies, drop_bodies, bodies_more, first_image, first_between, first_length, between, between_all}
use Rattle.iss_standing.proofs.NextRecords.{history_first, history_taken}
use Rattle.iss_standing.proofs.Holds.{holds_map}
use Rattle.iss_device.specs.Moments.{BeginsUnsynced, EachMomentUnsynced, MayFollow, StandsFirmlyAt, StandsFirmly, StopStands, EachStopStands}
use Rattle.iss_device.proofs.Devices.{shows_stands}
use Rattle.iss_device.proofs.Seats.{both_held}

-- ---- the record that comes next

-- the first n of these records and one more, if its body is this one
record NextSpelled (rs : List Record) (n : ℕ) (body : List ℕ) : Type 0 where
  pub r : Record
  pub next : take (n + 1) rs ≡ take n rs ++ r ∷ []
  pub spelled : body ≡ spelling r

taken_one : (l : List Record) (r s : Record) (others : List Record) → take 1 l ≡ r ∷ s ∷ others → ⊥
taken_one [] r s others e = cc
taken_one (x ∷ l) r s others e = cc

next_by : (rs : List Record) (n : ℕ) (body : List ℕ) (next : List Record) → take (n + 1) (bodies_of rs) ≡ take n (bodies_of rs) ++ body ∷ [] → take 1 (drop n rs) ≡ next → NextSpelled rs n body
next_by rs n body [] e none =
    let short : take (n + 1) rs ≡ take n rs ++ [] = take-add n 1 rs ∙ ap (λ (l : List Record). take n rs ++ l) none in
    let bodies : take n (bodies_of rs) ++ body ∷ [] ≡ bodies_of (take n rs ++ []) = sym e ∙ take_bodies (n + 1) rs ∙ ap bodies_of short in
    let lengths : length (take n (bodies_of rs) ++ body ∷ []) ≡ length (bodies_of (take n rs ++ [])) = ap (λ (l : List (List ℕ)). length l) bodies in
    let before : length (take n (bodies_of rs)) ≡ length (bodies_of (take n rs)) = ap (λ (l : List (List ℕ)). length l) (take_bodies n rs) in
    absurd (omega (arith, lengths, before, length-append {A = List ℕ} (take n (bodies_of rs)) (body ∷ []), length-map (take n rs ++ []) spelling, length-append {A = Record} (take n rs) [], length-map (take n rs) spelling))
next_by rs n body (r ∷ []) e is =
    let next : take (n + 1) rs ≡ take n rs ++ r ∷ [] = take-add n 1 rs ∙ ap (λ (l : List Record). take n rs ++ l) is in
    let bodies : bodies_of (take n rs) ++ body ∷ [] ≡ bodies_of (take n rs) ++ spelling r ∷ [] =
    ap (λ (l : List (List ℕ)). l ++ body ∷ []) (sym (take_bodies n rs)) ∙ sym e ∙ take_bodies (n + 1) rs ∙ ap bodies_of next ∙ bodies_more (take n rs) r in
    let alone : body ∷ [] ≡ spelling r ∷ [] = append_cancel_left (bodies_of (take n rs)) (body ∷ []) (spelling r ∷ []) bodies in
    let same : body ≡ spelling r = cc in
    record { r = r; next = next; spelled = same }
next_by rs n body (r ∷ s ∷ others) e is = absurd (taken_one (drop n rs) r s others is)

next_spelled : (rs : List Record) (n : ℕ) (body : List ℕ) → take (n + 1) (bodies_of rs) ≡ take n (bodies_of rs) ++ body ∷ [] → NextSpelled rs n body
next_spelled rs n body e = next_by rs n body (take 1 (drop n rs)) e refl

-- the same, told of the bodies after a point
next_after : (rs : List Record) (p i : ℕ) (body : List ℕ) → p ≤ i → take (i - p + 1) (drop p (bodies_of rs)) ≡ take (i - p) (drop p (bodies_of rs)) ++ body ∷ [] → NextSpelled rs i body
next_after rs p i body low e =
    let later : NextSpelled (drop p rs) (i - p) body =
    next_spelled (drop p rs) (i - p) body (subst (λ (l : List (List ℕ)). take (i - p + 1) l ≡ take (i - p) l ++ body ∷ []) (drop_bodies p rs) e) in
    let one : i + 1 ≡ p + (i - p + 1) = omega (arith, low) in
    let none : p + (i - p) ≡ i = omega (arith, low) in
    record {
      r = later.r;
      next =
          ap (λ (n : ℕ). take n rs) one
          ∙ take-add p (i - p + 1) rs
          ∙ ap (λ (l : List Record). take p rs ++ l) later.next
          ∙ sym (append_assoc (take p rs) (take (i - p) (drop p rs)) (later.r ∷ []))
          ∙ ap (λ (l : List Record). l ++ later.r ∷ []) (sym (take-add p (i - p) rs) ∙ ap (λ (n : ℕ). take n rs) none);
      spelled = later.spelled;
    }

-- only one record may be left behind
same_left : (region : Region) (bodies : List (List ℕ)) (x y device : List ℕ) → LeavesBehind region bodies x device → LeavesBehind region bodies y device → x ≡ y
same_left region bodies x y device p q =
    let opened = set device (length (bytes_before_gate region bodies)) 1 in
    let both : bodies ++ x ∷ [] ≡ bodies ++ y ∷ [] =
    one_list region (bodies ++ x ∷ []) (bodies ++ y ∷ []) opened (shows_closed region (bodies ++ x ∷ []) opened p.opened) (shows_closed region (bodies ++ y ∷ []) opened q.opened) in
    let alone : x ∷ [] ≡ y ∷ [] = append_cancel_left bodies (x ∷ []) (y ∷ []) both in
    cc

-- ---- a device that shows records firmly at a seat stands so for them

module _ (form : Form) (is : IsForm form) (seat : Seat) (now : List Record) (image : List ℕ) (legal : AreHistory now) (few : form.halved ≡ true → length now ≤ MOST_RECORDS) (low : seat.point ≤ length now) where
  abbrev p : ℕ
  p = seat.point

  closed_firmly : JournalHolds form seat (image_after (take p now)) (λ region. ShowsClosed region (bodies_of (drop p now)) image) → StandsFirmly form now image
  closed_firmly closed =
      let shows : JournalHolds form seat (image_after (take p now)) (λ region. Shows region (bodies_of (drop p now)) image) =
      holds_map form seat (image_after (take p now)) (λ region. ShowsClosed region (bodies_of (drop p now)) image) (λ region. Shows region (bodies_of (drop p now)) image) (λ region c. shows_closed region (bodies_of (drop p now)) image c) closed in
      (seat, record { stands = shows_stands form seat now image is legal few low shows; firm = inl closed })

  left_firmly : (r : Record) → MayFollow form now r → JournalHolds form seat (image_after (take p now)) (λ region. LeavesBehind region (bodies_of (drop p now)) (spelling r) image) → StandsFirmly form now image
  left_firmly r more left =
      let shows : JournalHolds form seat (image_after (take p now)) (λ region. Shows region (bodies_of (drop p now)) image) =
      holds_map form seat (image_after (take p now)) (λ region. LeavesBehind region (bodies_of (drop p now)) (spelling r) image) (λ region. Shows region (bodies_of (drop p now)) image) (λ region l. l.shows) left in
      (seat, record { stands = shows_stands form seat now image is legal few low shows; firm = inr (r, (more, left)) })

-- ---- what was left behind at the start

-- a record that may follow on these, of this body
record LeftThere (form : Form) (rs : List Record) (body : List ℕ) : Type 0 where
  pub r : Record
  pub more : MayFollow form rs r
  pub spelled : body ≡ spelling r

module _ (form : Form) (rs : List Record) (device : List ℕ) (seat : Seat) (body : List ℕ) where
  abbrev Was : Region → Type 0
  Was region = WasLeft region (bodies_of (drop seat.point rs)) body device

  -- what is told at two seats of the device
  at_both : (image : List ℕ) (other : Seat) (Q : Region → Type 0) → IsForm form → JournalHolds form seat image Was
      → JournalHolds form other (image_after (take other.point rs)) (λ region. Shows region (bodies_of (drop other.point rs)) device × Q region)
      → (bodies_of (drop seat.point rs) ≡ bodies_of (drop other.point rs)) × JournalHolds form seat image (λ region. Was region × Q region)
  at_both image other Q is was there =
      both_held form seat other image (image_after (take other.point rs)) (bodies_of (drop seat.point rs)) (bodies_of (drop other.point rs)) device Was Q is
      (holds_map form seat image Was (λ region. Shows region (bodies_of (drop seat.point rs)) device × Was region) (λ region w. (w.left.shows, w)) was) there

  left_there : (image : List ℕ) → StandsFirmly form rs device → JournalHolds form seat image Was → LeftThere form rs body
  left_there image firmly was =
      let other = firmly.0 in
      let later = bodies_of (drop other.point rs) in
      let own = image_after (take other.point rs) in
      elim firmly.1.firm [
        | inl closed ↦
            let both = at_both image other (λ region. ShowsClosed region later device) firmly.1.stands.form_is was
            (holds_map form other own (λ region. ShowsClosed region later device) (λ region. Shows region later device × ShowsClosed region later device) (λ region c. (shows_closed region later device c, c)) closed) in
            let h = at form seat image (λ region. Was region × ShowsClosed region later device) both.1 in
            let shut : ShowsClosed h.region (bodies_of (drop seat.point rs)) device = subst (λ (l : List (List ℕ)). ShowsClosed h.region l device) (sym both.0) h.holds.1 in
            absurd (h.holds.0.other (gate_byte h.region (bodies_of (drop seat.point rs)) 0 shut.rest device shut.ends))
        | inr left ↦
            let both = at_both image other (λ region. LeavesBehind region later (spelling left.0) device) firmly.1.stands.form_is was
            (holds_map form other own (λ region. LeavesBehind region later (spelling left.0) device) (λ region. Shows region later device × LeavesBehind region later (spelling left.0) device) (λ region l. (l.shows, l)) left.1.1) in
            let h = at form seat image (λ region. Was region × LeavesBehind region later (spelling left.0) device) both.1 in
            let there : LeavesBehind h.region (bodies_of (drop seat.point rs)) (spelling left.0) device =
            subst (λ (l : List (List ℕ)). LeavesBehind h.region l (spelling left.0) device) (sym both.0) h.holds.1 in
            record {
              r = left.0;
              more = left.1.0;
              spelled = same_left h.region (bodies_of (drop seat.point rs)) body (spelling left.0) device h.holds.0.left there;
            }
      ]

-- ---- a run may begin on a device that stands firmly, if no write is left failed

pub begins_firmly : (form : Form) (rs : List Record) (device : List ℕ) (d : Disk) → ((place : ℕ) → d.failed place ≡ false) → d.bytes ≡ device → StandsFirmly form rs device → BeginsUnsynced form rs device d
begins_firmly form rs device d none same firmly =
    let seat : Seat = firmly.0 in
    let there : StandsFirmlyAt form seat rs device = firmly.1 in
    let bodies = bodies_of (drop seat.point rs) in
    let own = image_after (take seat.point rs) in
    let firm : JournalHolds form seat own (λ region. ShowsFirmly region bodies device) =
    elim there.firm [
      | inl closed ↦ holds_map form seat own (λ region. ShowsClosed region bodies device) (λ region. ShowsFirmly region bodies device) (λ region c. inl c) closed
      | inr left ↦
          holds_map form seat own (λ region. LeavesBehind region bodies (spelling left.0) device) (λ region. ShowsFirmly region bodies device) (λ region l. inr (spelling left.0, l)) left.1.1
    ] in
    record {
      none_failed = none;
      starts =
          record {
            same = same;
            seat = seat;
            low = there.stands.low;
            holds =
                subst (λ (l : List (List ℕ)). JournalHolds form seat own (λ region. ShowsFirmly region l d.bytes)) (sym (between_all seat.point rs there.stands.low))
                (subst (λ (bytes : List ℕ). JournalHolds form seat own (λ region. ShowsFirmly region bodies bytes)) (sym same) firm);
          };
    }

module _ (form : Form) (rs made : List Record) (device : List ℕ) (first : AreFirstOf rs made) (history : AreHistory made) (few : form.halved ≡ true → length made ≤ MOST_RECORDS) where
  -- ---- after the opening

  few_first : (now : List Record) → AreFirstOf now made → form.halved ≡ true → length now ≤ MOST_RECORDS
  few_first now part halved = omega (arith, few halved, first_length now made part)

  module _ (i : ℕ) (high : i ≤ length made) where
    abbrev now : List Record
    now = take i made

    number : length (take i made) ≡ i
    number = length-take-le i made high

    part : AreFirstOf (take i made) made
    part = record { later = drop i made; cut = sym (take-append-drop i made) }

    same_image : (p : ℕ) → p ≤ i → image_after (take p made) ≡ image_after (take p (take i made))
    same_image p low = first_image p (take i made) made part (omega (arith, number, low))

    stands_now : (image : List ℕ) (seat : Seat) → IsForm form → seat.point ≤ i
        → JournalHolds form seat (image_after (take seat.point made)) (λ region. StandsFirst region (drop seat.point (bodies_of made)) image (i - seat.point))
        → StandsFirmly form (take i made) image
    stands_now image seat is low holds =
        let p = seat.point in
        let legal : AreHistory (take i made) = history_taken i made history in
        let below : p ≤ length (take i made) = omega (arith, number, low) in
        let later : take (i - p) (drop p (bodies_of made)) ≡ bodies_of (drop p (take i made)) = between p i made low in
        let h = at form seat (image_after (take p made)) (λ region. StandsFirst region (drop p (bodies_of made)) image (i - p)) holds in
        elim h.holds [
          | inl closed ↦
              closed_firmly form is seat (take i made) image legal (few_first (take i made) part) below
              (subst (λ (l : List ℕ). JournalHolds form seat l (λ region. ShowsClosed region (bodies_of (drop p (take i made))) image)) (same_image p low)
              (h.again (λ region. ShowsClosed region (bodies_of (drop p (take i made))) image)
              (subst (λ (l : List (List ℕ)). ShowsClosed h.region l image) later closed)))
          | inr left ↦
              let next = next_after made p i left.0 low left.1 in
              let more : MayFollow form (take i made) next.r =
              record {
                history = subst AreHistory next.next (history_taken (i + 1) made history);
                few = λ halved. omega (arith, few halved, ap (λ (l : List Record). length l) next.next, length-take (i + 1) made);
              } in
              left_firmly form is seat (take i made) image legal (few_first (take i made) part) below next.r more
              (subst (λ (l : List ℕ). JournalHolds form seat l (λ region. LeavesBehind region (bodies_of (drop p (take i made))) (spelling next.r) image)) (same_image p low)
              (h.again (λ region. LeavesBehind region (bodies_of (drop p (take i made))) (spelling next.r) image)
              (subst (λ (body : List ℕ). LeavesBehind h.region (bodies_of (drop p (take i made))) body image) next.spelled
              (subst (λ (l : List (List ℕ)). LeavesBehind h.region l left.0 image) later left.2))))
        ]

  later_stands : (before : List Step) (image : List ℕ) → IsForm form → ShowsUpTo (StandsAt form made) (length rs) (length made) before image → StopStands form rs made before image
  later_stands before image is shows =
      record {
        now = take shows.i made;
        firm = stands_now shows.i shows.high image shows.stand.seat is shows.stand.low shows.stand.holds;
        least = omega (arith, number shows.i shows.high, shows.low);
        told = subst (λ (n : ℕ). SentUpTo n before) (sym (number shows.i shows.high)) shows.told;
        which = inl (part shows.i shows.high);
      }

  -- ---- within it

  legal_own : AreHistory rs
  legal_own = history_first rs first.later (subst AreHistory first.cut history)

  stays_told : (before : List Step) (image : List ℕ) → StandsFirmly form rs image → SentUpTo (length rs) before → StopStands form rs made before image
  stays_told before image firm told =
      record { now = rs; firm = firm; least = omega arith; told = told; which = inl first }

  module _ (before : List Step) (image : List ℕ) (firmly : StandsFirmly form rs device) (told : SentUpTo (length rs) before) (seat : Seat) (low : seat.point ≤ length rs) where
    abbrev point : ℕ
    point = seat.point

    is_form : IsForm form
    is_form = firmly.1.stands.form_is

    own : (P : Region → Type 0) → JournalHolds form seat (image_after (take point made)) P → JournalHolds form seat (image_after (take point rs)) P
    own P holds = subst (λ (l : List ℕ). JournalHolds form seat l P) (first_image point rs made first low) holds

    later : take (length rs - point) (drop point (bodies_of made)) ≡ bodies_of (drop point rs)
    later = first_between point (length rs) rs made first low (omega arith) ∙ between_all point rs low

    -- with the record that was left behind
    with_left : (region : Region) → ((Q : Region → Type 0) → Q region → JournalHolds form seat (image_after (take point made)) Q) → (body : List ℕ) → (there : LeftThere form rs body)
        → ShowsClosed region (take (length rs - point) (drop point (bodies_of made)) ++ body ∷ []) image → StopStands form rs made before image
    with_left region again body there closed =
        let now = rs ++ there.r ∷ [] in
        let more : AreFirstOf rs now = record { later = there.r ∷ []; cut = refl } in
        let bodies : take (length rs - point) (drop point (bodies_of made)) ++ body ∷ [] ≡ bodies_of (drop point now) =
        ap (λ (l : List (List ℕ)). l ++ body ∷ []) later
        ∙ ap (λ (b : List ℕ). bodies_of (drop point rs) ++ b ∷ []) there.spelled
        ∙ sym (bodies_more (drop point rs) there.r)
        ∙ ap bodies_of (sym (drop-append-le point rs (there.r ∷ []) low)) in
        let long : length now ≡ length rs + 1 = length-append {A = Record} rs (there.r ∷ []) in
        record {
          now = now;
          firm =
              closed_firmly form is_form seat now image there.more.history there.more.few (omega (arith, low, long))
              (subst (λ (l : List ℕ). JournalHolds form seat l (λ region. ShowsClosed region (bodies_of (drop point now)) image)) (sym (first_image point rs now more low))
              (own (λ region. ShowsClosed region (bodies_of (drop point now)) image)
              (again (λ region. ShowsClosed region (bodies_of (drop point now)) image) (subst (λ (l : List (List ℕ)). ShowsClosed region l image) bodies closed))));
          least = omega (arith, long);
          told = sent_weaker (length rs) (length now) before (omega (arith, long)) told;
          which = inr (record { r = there.r; more = refl; untold = told });
        }

    opening_stands : JournalHolds form seat (image_after (take point made)) (λ region. OpenedOrOneMore region (drop point (bodies_of made)) device image (length rs - point)) → StopStands form rs made before image
    opening_stands holds =
        let h = at form seat (image_after (take point made)) (λ region. OpenedOrOneMore region (drop point (bodies_of made)) device image (length rs - point)) holds in
        let bodies = bodies_of (drop point rs) in
        elim h.holds [
          | inl closed ↦
              stays_told before image
              (closed_firmly form is_form seat rs image legal_own (few_first rs first) low
              (own (λ region. ShowsClosed region bodies image) (h.again (λ region. ShowsClosed region bodies image) (subst (λ (l : List (List ℕ)). ShowsClosed h.region l image) later closed)))) told
          | inr more ↦
              let was : WasLeft h.region bodies more.0 device = subst (λ (l : List (List ℕ)). WasLeft h.region l more.0 device) later more.1 in
              let there = left_there form rs device seat more.0 (image_after (take point made)) firmly (h.again (λ region. WasLeft region bodies more.0 device) was) in
              elim more.2 [
                | inl left ↦
                    stays_told before image
                    (left_firmly form is_form seat rs image legal_own (few_first rs first) low there.r there.more
                    (own (λ region. LeavesBehind region bodies (spelling there.r) image)
                    (h.again (λ region. LeavesBehind region bodies (spelling there.r) image)
                    (subst (λ (body : List ℕ). LeavesBehind h.region bodies body image) there.spelled
                    (subst (λ (l : List (List ℕ)). LeavesBehind h.region l more.0 image) later left))))) told
                | inr closed ↦ with_left h.region h.again more.0 there closed
              ]
        ]

  -- ---- at each moment

  pub stops_stand : (opening later : List Step) → EachMomentUnsynced form rs made opening later device → EachStopStands form rs made opening later device
  stops_stand opening later each d none same firmly before after cut image is =
      elim (each d (begins_firmly form rs device d none same firmly) before after cut image is) [
        | inl so_far ↦ inl so_far
        | inr stands ↦
            inr (elim stands [
              | inl shows ↦ later_stands before image firmly.1.stands.form_is shows
              | inr within ↦
                  let shows = within.1 in
                  let number : shows.i ≡ length rs = omega (arith, shows.low, shows.high) in
                  let opened : OpenedAt form made device image (length rs) =
                  subst (λ (n : ℕ). OpenedAt form made device image n) number shows.stand in
                  opening_stands before image firmly (subst (λ (n : ℕ). SentUpTo n before) number shows.told) opened.seat opened.low opened.holds
            ])
      ]
