-- Turns and appends, by the records for which a device stands.
use Rattle.std.proofs.Common.{◌≡◌, ℕ, ◌+◌, ◌-◌, ◌≤◌, Bool, true, false, not, List, [], ◌∷◌, ◌++◌, length, take, drop, inl, inr, refl, sym, ap, ◌∙◌, subst, arith, length-append}
use Rattle.std.proofs.lemmas.List.{drop-append-le, drop-take, length-take}
use Rattle.iss_edge.specs.World.{World}
use Rattle.iss_edge.specs.Disk.{after_actions}
use Rattle.iss_edge.specs.Puts.{actions_of_puts}
use Rattle.iss_edge.specs.Stretches.{Step, actions_of, ShowsUpTo, IsGood, GoesOn}
use Rattle.iss_edge.proofs.StretchLemmas.{sent_weaker, join}
use Rattle.iss_journal.specs.Place.{Place}
use Rattle.iss_journal.proofs.Records.{length-spelled}
use Rattle.iss_journal.specs.Region.{Region, body_with_length, append_bytes, frames, ShowsClosed, RestsFirst, StandsFirst}
use Rattle.iss_journal.specs.Header.{header}
use Rattle.iss_journal.specs.Formatting.{whole_device}
use Rattle.iss_journal.specs.Append.{ComesNext, append_puts, AppendsGood, AppendsGoing}
use Rattle.iss_halves.specs.Forms.{Form, Seat, in_halves, seat_at}
use Rattle.iss_halves.specs.Halves.{half_region, HalfRests}
use Rattle.iss_halves.specs.Turning.{half_bytes, turn_puts, EitherHalf, TurnsGood, TurnsGoing}
use Rattle.iss_halves.specs.Standing.{Saved, JournalHolds, RestsFrom, StandsFrom, first_gate, journal_end, EndsHere, IsNextBody}
use Rattle.iss_halves.specs.Keeping.{TurnsKeep, TurnsGoOn, TurnEndsHere, AppendsKeep, AppendsGoOn, TurnedAppendsKeep, FreeIsRoom, TurnHasRoom}
use Rattle.iss_halves.proofs.Turns.{below_length}

-- ---- the journal on which something holds, and on which more may hold

-- the region of the journal at a seat: this holds of it, it begins and ends where the form says, and whatever holds of it holds at the seat
pub record At (form : Form) (seat : Seat) (image : List ℕ) (P : Region → Type 0) : Type 1 where
  pub region : Region
  pub holds : P region
  pub first : length region.below ≡ first_gate form seat image
  pub last : region.to ≡ journal_end form seat
  pub again : (Q : Region → Type 0) → Q region → JournalHolds form seat image Q

pub length-header : (instance size : ℕ) → length (whole_device instance size).below ≡ 16
unfolding header
length-header instance size = refl

at_seat : (halved : Bool) (instance size : ℕ) (second : Bool) (point : ℕ) (image : List ℕ) (P : Region → Type 0)
    → JournalHolds (record { halved = halved; instance = instance; size = size }) (record { second = second; point = point }) image P
    → At (record { halved = halved; instance = instance; size = size }) (record { second = second; point = point }) image P
at_seat true instance size second point image P half =
    record {
      region = half_region size second half.below;
      holds = half.journal;
      first = below_length instance size second image half.below half.is_below;
      last = refl;
      again = λ Q q. record { below = half.below; is_below = half.is_below; current = half.current; journal = q };
    }
at_seat false instance size second point image P one =
    record {
      region = whole_device instance size;
      holds = one.1;
      first = length-header instance size;
      last = refl;
      again = λ Q q. (one.0, q);
    }

pub at : (form : Form) (seat : Seat) (image : List ℕ) (P : Region → Type 0) → JournalHolds form seat image P → At form seat image P
at form seat image P holds = at_seat form.halved form.instance form.size seat.second seat.point image P holds

-- ---- stretches from one number of records to the same

good_at : (starts stands wider : List ℕ → ℕ → Type 0) (j : ℕ) (steps : List Step) → ((image : List ℕ) → stands image j → wider image j) → IsGood starts stands j j steps → IsGood starts wider j j steps
good_at starts stands wider j steps more good =
    record {
      each = λ d calm start before rest cut image is.
          let shows : ShowsUpTo stands j j before image = good.each d calm start before rest cut image is in
          let same : shows.i ≡ j = omega (arith, shows.low, shows.high) in
          record {
            i = shows.i;
            low = shows.low;
            high = shows.high;
            stand = subst (λ (n : ℕ). wider image n) (sym same) (more image (subst (λ (n : ℕ). stands image n) same shows.stand));
            told = shows.told;
          };
    }

good_begins : (starts narrower stands : List ℕ → ℕ → Type 0) (j : ℕ) (steps : List Step) → ((bytes : List ℕ) → narrower bytes j → starts bytes j) → IsGood starts stands j j steps → IsGood narrower stands j j steps
good_begins starts narrower stands j steps from good =
    record { each = λ d calm start before rest cut image is. good.each d calm (from d.bytes start) before rest cut image is }

goes_begins : (starts narrower stands wider ends later : List ℕ → ℕ → Type 0) (j : ℕ) (steps : List Step) → ((bytes : List ℕ) → narrower bytes j → starts bytes j) → ((image : List ℕ) → stands image j → wider image j) → ((image : List ℕ) → ends image j → later image j)
    → GoesOn starts stands ends j j steps → GoesOn narrower wider later j j steps
goes_begins starts narrower stands wider ends later j steps from more after goes =
    record {
      good = good_begins starts narrower wider j steps from (good_at starts stands wider j steps more goes.good);
      at_rest = λ d calm start. goes.at_rest d calm (from d.bytes start);
      rest = λ d calm start. after (after_actions d (actions_of steps)).bytes (goes.rest d calm (from d.bytes start));
    }

-- ---- a turn: at each moment the same records stand, at one seat or the other

module _ (instance size : ℕ) (second : Bool) (saved : Saved) (point j : ℕ) (low : point ≤ j) where
  abbrev halves : Form
  halves = record { halved = true; instance = instance; size = size }

  abbrev seat : Seat
  seat = record { second = second; point = point }

  abbrev turned : Seat
  turned = record { second = not second; point = j }

  abbrev behind : List (List ℕ)
  behind = take (j - point) (drop point saved.bodies)

  old_stands : (device : List ℕ) → HalfRests instance size second (saved.image point) behind device → StandsFrom halves saved device j
  old_stands device half =
      record {
        seat = seat;
        low = low;
        holds = record { below = half.below; is_below = half.is_below; current = half.current; journal = inl half.journal };
      }

  nothing_behind : j - j ≡ 0
  nothing_behind = omega arith

  new_rests : (device : List ℕ) → HalfRests instance size (not second) (saved.image j) [] device → RestsFrom halves turned saved device j
  new_rests device half =
      record {
        low = omega arith;
        holds = record {
          below = half.below;
          is_below = half.is_below;
          current = half.current;
          journal = subst (λ (n : ℕ). ShowsClosed (half_region size (not second) half.below) (take n (drop j saved.bodies)) device) (sym nothing_behind) half.journal;
        };
      }

  new_stands : (device : List ℕ) → HalfRests instance size (not second) (saved.image j) [] device → StandsFrom halves saved device j
  new_stands device half =
      let rests = new_rests device half in
      record {
        seat = turned;
        low = rests.low;
        holds = record { below = rests.holds.below; is_below = rests.holds.is_below; current = rests.holds.current; journal = inl rests.holds.journal };
      }

  either_stands : (device : List ℕ) → EitherHalf instance size second (saved.image point) behind (saved.image j) device → StandsFrom halves saved device j
  either_stands device here =
      elim here [ inl half ↦ old_stands device half | inr half ↦ new_stands device half ]

  pub turn_good : (half : List ℕ) (a b : World) (did : TurnsGood size second half a b) (steps : List Step) → half ≡ half_bytes (saved.image j) → actions_of steps ≡ did.part.actions
      → IsGood (RestsFrom halves seat saved) (StandsFrom halves saved) j j steps
  turn_good half a b did steps is all =
      good_begins (λ bytes i. HalfRests instance size second (saved.image point) behind bytes) (RestsFrom halves seat saved) (StandsFrom halves saved) j steps (λ bytes rests. rests.holds)
      (good_at (λ bytes i. HalfRests instance size second (saved.image point) behind bytes) (λ bytes i. EitherHalf instance size second (saved.image point) behind (saved.image j) bytes) (StandsFrom halves saved) j steps either_stands
      (did.good instance (saved.image point) (saved.image j) behind j steps is all))

  pub turn_going : (half : List ℕ) (a b : World) (did : TurnsGoing size second half a b) (steps : List Step) → half ≡ half_bytes (saved.image j) → actions_of steps ≡ actions_of_puts (turn_puts size second half)
      → GoesOn (RestsFrom halves seat saved) (StandsFrom halves saved) (RestsFrom halves turned saved) j j steps
  turn_going half a b did steps is all =
      goes_begins (λ bytes i. HalfRests instance size second (saved.image point) behind bytes) (RestsFrom halves seat saved) (λ bytes i. EitherHalf instance size second (saved.image point) behind (saved.image j) bytes) (StandsFrom halves saved)
      (λ bytes i. HalfRests instance size (not second) (saved.image j) [] bytes) (RestsFrom halves turned saved) j steps (λ bytes rests. rests.holds) either_stands new_rests
      (did.goes_on instance (saved.image point) (saved.image j) behind j steps is all)

-- ---- an append: from some records to one more, at the same seat

module _ (form : Form) (seat : Seat) (saved : Saved) (j : ℕ) (body : List ℕ) (place : Place) (low : seat.point ≤ j) (ends : EndsHere form seat saved j place) (next : IsNextBody saved j body) where
  abbrev bodies_behind : List (List ℕ)
  bodies_behind = drop seat.point saved.bodies

  count_is : length (take j saved.bodies) ≡ j
  count_is =
      let one : length (take (j + 1) saved.bodies) ≡ length (take j saved.bodies) + 1 = ap length next.next ∙ length-append (take j saved.bodies) (body ∷ []) in
      omega (arith, one, length-take j saved.bodies, length-take (j + 1) saved.bodies)

  dropped : (n : ℕ) → seat.point ≤ n → take (n - seat.point) bodies_behind ≡ drop seat.point (take n saved.bodies)
  dropped n le =
      let sum : seat.point + (n - seat.point) ≡ n = omega (arith, le) in
      sym (drop-take seat.point (n - seat.point) saved.bodies) ∙ ap (λ (m : ℕ). drop seat.point (take m saved.bodies)) sum

  next_behind : take (j - seat.point + 1) bodies_behind ≡ take (j - seat.point) bodies_behind ++ body ∷ []
  next_behind =
      let count : j - seat.point + 1 ≡ j + 1 - seat.point = omega (arith, low) in
      ap (λ (n : ℕ). take n bodies_behind) count
      ∙ dropped (j + 1) (omega (arith, low))
      ∙ ap (λ (l : List (List ℕ)). drop seat.point l) next.next
      ∙ drop-append-le seat.point (take j saved.bodies) (body ∷ []) (omega (arith, low, count_is))
      ∙ ap (λ (l : List (List ℕ)). l ++ body ∷ []) (sym (dropped j low))

  comes : (P : Region → Type 0) (h : At form seat (saved.image seat.point) P) → ComesNext h.region bodies_behind (j - seat.point) body place
  comes P h =
      record {
        is_body = next.is_body;
        next = next_behind;
        here = omega (arith, length-append h.region.below (frames (take (j - seat.point) bodies_behind)), h.first, ends.gate);
        to = h.last ∙ sym ends.to;
      }

  abbrev here : (device : List ℕ) → RestsFrom form seat saved device j → At form seat (saved.image seat.point) (λ region. RestsFirst region bodies_behind device (j - seat.point))
  here device rests = at form seat (saved.image seat.point) (λ region. RestsFirst region bodies_behind device (j - seat.point)) rests.holds

  -- what is good of the journal is good of the device
  lifted : (steps : List Step) → ((region : Region) → ComesNext region bodies_behind (j - seat.point) body place → IsGood (RestsFirst region bodies_behind) (StandsFirst region bodies_behind) (j - seat.point) (j - seat.point + 1) steps)
      → IsGood (RestsFrom form seat saved) (StandsFrom form saved) j (j + 1) steps
  lifted steps good =
      record {
        each = λ d calm start before rest cut image is.
            let h = here d.bytes start in
            let shows : ShowsUpTo (StandsFirst h.region bodies_behind) (j - seat.point) (j - seat.point + 1) before image =
            (good h.region (comes (λ region. RestsFirst region bodies_behind d.bytes (j - seat.point)) h)).each d calm h.holds before rest cut image is in
            let same : shows.i ≡ shows.i + seat.point - seat.point = omega arith in
            record {
              i = shows.i + seat.point;
              low = omega (arith, shows.low, low);
              high = omega (arith, shows.high, low);
              stand = record {
                seat = seat;
                low = omega arith;
                holds =
                    h.again (λ region. StandsFirst region bodies_behind image (shows.i + seat.point - seat.point)) (subst (λ (n : ℕ). StandsFirst h.region bodies_behind image n) same shows.stand);
              };
              told = sent_weaker shows.i (shows.i + seat.point) before (omega arith) shows.told;
            };
      }

  pub append_good : (frame : List ℕ) (a b : World) (did : AppendsGood place frame a b) (steps : List Step) → frame ≡ append_bytes body → actions_of steps ≡ did.part.actions
      → IsGood (RestsFrom form seat saved) (StandsFrom form saved) j (j + 1) steps
  append_good frame a b did steps is all =
      lifted steps (λ region comes. did.good region bodies_behind (j - seat.point) body steps comes is all)

  pub append_going : (frame : List ℕ) (a b : World) (did : AppendsGoing place frame a b) (steps : List Step) → frame ≡ append_bytes body → actions_of steps ≡ actions_of_puts (append_puts place.gate frame)
      → GoesOn (RestsFrom form seat saved) (StandsFrom form saved) (RestsFrom form seat saved) j (j + 1) steps
  append_going frame a b did steps is all =
      let goes : (region : Region) → ComesNext region bodies_behind (j - seat.point) body place → GoesOn (RestsFirst region bodies_behind) (StandsFirst region bodies_behind) (RestsFirst region bodies_behind) (j - seat.point) (j - seat.point + 1) steps =
      λ region comes. did.goes_on region bodies_behind (j - seat.point) body steps comes is all in
      let count : j - seat.point + 1 ≡ j + 1 - seat.point = omega (arith, low) in
      record {
        good = lifted steps (λ region comes. (goes region comes).good);
        at_rest = λ d calm start.
            let h = here d.bytes start in
            (goes h.region (comes (λ region. RestsFirst region bodies_behind d.bytes (j - seat.point)) h)).at_rest d calm h.holds;
        rest = λ d calm start.
            let h = here d.bytes start in
            let after = (after_actions d (actions_of steps)).bytes in
            record {
              low = omega (arith, low);
              holds =
                  h.again (λ region. RestsFirst region bodies_behind after (j + 1 - seat.point)) (subst (λ (n : ℕ). RestsFirst h.region bodies_behind after n) count ((goes h.region (comes (λ region. RestsFirst region bodies_behind d.bytes (j - seat.point)) h)).rest d calm h.holds));
            };
      }

-- ---- a turn, and then an append

pub turn_ends_here : TurnEndsHere
turn_ends_here instance size second saved j half is =
    let none : j - j ≡ 0 = omega arith in
    record {
      gate =
          omega (
            arith,
            ap (λ (l : List ℕ). length l) is,
            length-append (body_with_length (saved.image j)) (0 ∷ []),
            length-spelled (saved.image j),
            ap (λ (n : ℕ). length (frames (take n (drop j saved.bodies)))) none,
          );
      to = refl;
    }

pub turned_append_good : TurnedAppendsKeep
turned_append_good instance size second saved point j half body frame place a b c did turn append low is made here next framed turn_is append_is =
    let form = in_halves instance size in
    let ends : EndsHere form (seat_at (not second) j) saved j place =
    subst (λ (p : Place). EndsHere form (seat_at (not second) j) saved j p) (sym here) (turn_ends_here instance size second saved j half is) in
    join (RestsFrom form (seat_at second point) saved) (StandsFrom form saved) (RestsFrom form (seat_at (not second) j) saved) j j (j + 1) turn append
    (turn_going instance size second saved point j low half a b made turn is turn_is)
    (append_good form (seat_at (not second) j) saved j body place (omega arith) ends next frame b c did append framed append_is)

pub turns_keep : TurnsKeep
turns_keep instance size second saved point j half a b did steps low is all =
    turn_good instance size second saved point j low half a b did steps is all

pub turns_go_on : TurnsGoOn
turns_go_on instance size second saved point j half a b steps low is did all =
    turn_going instance size second saved point j low half a b did steps is all

pub appends_keep : AppendsKeep
appends_keep form seat saved j body place frame a b did steps low ends next is all =
    append_good form seat saved j body place low ends next frame a b did steps is all

pub appends_go_on : AppendsGoOn
appends_go_on form seat saved j body place frame a b steps low ends next is did all =
    append_going form seat saved j body place low ends next frame a b did steps is all

pub free_is_room : FreeIsRoom
free_is_room instance size seat saved i place ends = omega (arith, ends.gate, ends.to)

pub turn_has_room : TurnHasRoom
turn_has_room size image half frame is some =
    let whole : length half ≡ 5 + length image = omega (arith, ap (λ (l : List ℕ). length l) is, length-append (body_with_length image) (0 ∷ []), length-spelled image) in
    (λ fits. omega (arith, whole, fits, some), λ fits. omega (arith, whole, fits, some))
