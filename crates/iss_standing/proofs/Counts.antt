-- How much a run writes to its device, counted record by record.
use Rattle.std.proofs.Common.{◌≡◌, ℕ, suc, ◌+◌, ◌*◌, ◌≤◌, Bool, true, false, cond, not, List, [], ◌∷◌, ◌++◌, length, refl, sym, ap, subst, ◌∙◌, arith, length-append}
use Rattle.iss_edge.specs.declared.outside.Action.{Action}
use Rattle.iss_edge.specs.declared.outside.Action.TheVariants.{Write, Sync, Emit, Dial, Close}
use Rattle.iss_edge.specs.Puts.{Put, actions_of_puts, Ran}
use Rattle.iss_edge.specs.Stretches.{is_still}
use Rattle.iss_edge.proofs.PutLemmas.{actions_of_puts-append}
use Rattle.iss_journal.specs.Region.{append_bytes}
use Rattle.iss_journal.specs.Append.{append_puts}
use Rattle.iss_journal.proofs.Records.{length-behind}
use Rattle.iss_halves.specs.Forms.{Form, Seat, Layout}
use Rattle.iss_halves.specs.Turning.{half_bytes, turn_puts}
use Rattle.iss_halves.specs.Turned.{turned_puts}
use Rattle.iss_model.specs.declared.input.Record.{Record}
use Rattle.iss_model.specs.run.Rooms.{needs_turn}
use Rattle.iss_model.specs.texts.Spelling.{spelling}
use Rattle.iss_standing.specs.Standing.{image_after}
use Rattle.iss_standing.specs.Rooms.{room_in}
use Rattle.iss_standing.specs.Writes.{device_actions, layout_at, gate_at, record_puts, seat_then, records_puts}
use Rattle.iss_standing.specs.Counts.{total, writes_of, syncs_of, bytes_of, synced_of, turns, puts_for, record_bytes, turn_bytes, bytes_written, AreCounted, PutsAreCounted}

-- ---- numbers of actions

-- numbers that count nothing but writes and syncs
record OfDevice (number : Action → ℕ) : Type 0 where
  still : (action : Action) → is_still action ≡ true → number action ≡ 0

writes_device : OfDevice writes_of
writes_device = record { still = by }
  where
    by : (action : Action) → is_still action ≡ true → writes_of action ≡ 0
    by (Write at bytes ok) e = absurd cc
    by (Sync ok) e = refl
    by (Emit ch bytes ok) e = refl
    by (Dial ch) e = refl
    by (Close ch) e = refl

syncs_device : OfDevice syncs_of
syncs_device = record { still = by }
  where
    by : (action : Action) → is_still action ≡ true → syncs_of action ≡ 0
    by (Write at bytes ok) e = refl
    by (Sync ok) e = absurd cc
    by (Emit ch bytes ok) e = refl
    by (Dial ch) e = refl
    by (Close ch) e = refl

bytes_device : OfDevice bytes_of
bytes_device = record { still = by }
  where
    by : (action : Action) → is_still action ≡ true → bytes_of action ≡ 0
    by (Write at bytes ok) e = absurd cc
    by (Sync ok) e = refl
    by (Emit ch bytes ok) e = refl
    by (Dial ch) e = refl
    by (Close ch) e = refl

synced_device : OfDevice synced_of
synced_device = record { still = by }
  where
    by : (action : Action) → is_still action ≡ true → synced_of action ≡ 0
    by (Write at bytes ok) e = refl
    by (Sync ok) e = absurd cc
    by (Emit ch bytes ok) e = refl
    by (Dial ch) e = refl
    by (Close ch) e = refl

added : (n x y : ℕ) → n ≡ 0 → x ≡ y → x ≡ n + y
added n x y e f = omega (arith, e, f)

-- such numbers are those of the work on the device
total_device : (number : Action → ℕ) → OfDevice number → (actions : List Action) → total number (device_actions actions) ≡ total number actions
total_device number of [] = refl
total_device number of (action ∷ actions) = by (is_still action) refl (total_device number of actions)
  where
    by : (b : Bool) → is_still action ≡ b → total number (device_actions actions) ≡ total number actions → total number (device_actions (action ∷ actions)) ≡ total number (action ∷ actions)
    by true e rest =
        let gone : device_actions (action ∷ actions) ≡ device_actions actions = ap (λ (b : Bool). cond (not b) (action ∷ device_actions actions) (device_actions actions)) e in
        let none : number action ≡ 0 = of.still action e in
        ap (total number) gone ∙ added (number action) (total number (device_actions actions)) (total number actions) none rest
    by false e rest =
        let kept : device_actions (action ∷ actions) ≡ action ∷ device_actions actions = ap (λ (b : Bool). cond (not b) (action ∷ device_actions actions) (device_actions actions)) e in
        ap (total number) kept ∙ ap (λ (n : ℕ). number action + n) rest

total-append : (number : Action → ℕ) (xs ys : List Action) → total number (xs ++ ys) ≡ total number xs + total number ys
total-append number [] ys = omega arith
total-append number (x ∷ xs) ys = let rest : total number (xs ++ ys) ≡ total number xs + total number ys = total-append number xs ys in omega (arith, rest)

-- ---- the work of puts

writes_of_puts : (puts : List Put) → total writes_of (actions_of_puts puts) ≡ length puts
writes_of_puts [] = refl
writes_of_puts (put ∷ puts) = let rest : total writes_of (actions_of_puts puts) ≡ length puts = writes_of_puts puts in omega (arith, rest)

syncs_of_puts : (puts : List Put) → total syncs_of (actions_of_puts puts) ≡ length puts
syncs_of_puts [] = refl
syncs_of_puts (put ∷ puts) = let rest : total syncs_of (actions_of_puts puts) ≡ length puts = syncs_of_puts puts in omega (arith, rest)

pub synced_of_puts : (puts : List Put) → total synced_of (actions_of_puts puts) ≡ length puts
synced_of_puts [] = refl
synced_of_puts (put ∷ puts) = let rest : total synced_of (actions_of_puts puts) ≡ length puts = synced_of_puts puts in omega (arith, rest)

-- a put counts the same if its write or its sync failed
record WhetherDone (number : Action → ℕ) : Type 0 where
  write : (at : ℕ) (bytes : List ℕ) (ok : Bool) → number (Write at bytes ok) ≡ number (Write at bytes true)
  sync : (ok : Bool) → number (Sync ok) ≡ number (Sync true)

writes_done : WhetherDone writes_of
writes_done = record { write = λ at bytes ok. refl; sync = λ ok. refl }

syncs_done : WhetherDone syncs_of
syncs_done = record { write = λ at bytes ok. refl; sync = λ ok. refl }

bytes_done : WhetherDone bytes_of
bytes_done = record { write = λ at bytes ok. refl; sync = λ ok. refl }

-- a first part of puts has no more of it
ran_total : (number : Action → ℕ) → WhetherDone number → (puts : List Put) (actions : List Action) → Ran puts actions → total number actions ≤ total number (actions_of_puts puts)
ran_total number done puts [] ran = omega arith
ran_total number done [] (action ∷ more) ran = absurd ran
ran_total number done (put ∷ puts) (write ∷ []) ran =
    let first : number write ≡ number (Write put.at put.bytes true) = ap number ran.1 ∙ done.write put.at put.bytes ran.0 in
    omega (arith, first)
ran_total number done (put ∷ puts) (write ∷ sync ∷ []) ran =
    let first : number write ≡ number (Write put.at put.bytes true) = ap number ran.1 in
    let second : number sync ≡ number (Sync true) = ap number ran.2 ∙ done.sync ran.0 in
    omega (arith, first, second)
ran_total number done (put ∷ puts) (write ∷ sync ∷ action ∷ more) ran =
    let first : number write ≡ number (Write put.at put.bytes true) = ap number ran.0 in
    let second : number sync ≡ number (Sync true) = ap number ran.1 in
    let rest : total number (action ∷ more) ≤ total number (actions_of_puts puts) = ran_total number done puts (action ∷ more) ran.2 in
    omega (arith, first, second, rest)

-- ---- one record

module _ (layout : Layout) (gate : ℕ) (image spelled : List ℕ) where
  abbrev puts_where : Bool → List Put
  puts_where b = cond b (turned_puts layout (half_bytes image) (append_bytes spelled)) (append_puts gate (append_bytes spelled))

  puts_of_one : (b : Bool) → length (puts_where b) ≡ 2 + 2 * cond b 1 0
  unfolding append_puts turn_puts
  puts_of_one true = refl
  puts_of_one false = refl

  bytes_of_one : (b : Bool) → total bytes_of (actions_of_puts (puts_where b)) ≡ cond b (6 + length image) 0 + (6 + length spelled)
  unfolding append_puts turn_puts
  bytes_of_one true = omega (arith, length-behind image, length-behind spelled)
  bytes_of_one false = omega (arith, length-behind spelled)

module _ (form : Form) (seat : Seat) (rs : List Record) (r : Record) where
  abbrev turned : Bool
  turned = needs_turn (room_in form seat) rs r

  one_puts : length (record_puts form seat rs r) ≡ 2 + 2 * cond turned 1 0
  one_puts = puts_of_one (layout_at form seat) (gate_at form seat rs) (image_after rs) (spelling r) turned

  one_bytes : total bytes_of (actions_of_puts (record_puts form seat rs r)) ≡ cond turned (turn_bytes rs) 0 + record_bytes r
  one_bytes =
      bytes_of_one (layout_at form seat) (gate_at form seat rs) (image_after rs) (spelling r) turned
      ∙ same turned (6 + length (image_after rs)) (turn_bytes rs) (6 + length (spelling r)) (record_bytes r) (omega arith) (omega arith)
    where
      same : (b : Bool) (m n x y : ℕ) → m ≡ n → x ≡ y → cond b m 0 + x ≡ cond b n 0 + y
      same b m n x y e f = ap (λ (k : ℕ). cond b k 0 + x) e ∙ ap (λ (k : ℕ). cond b n 0 + k) f

-- ---- one record after the other

add_puts : (a b n t x : ℕ) → a ≡ 2 + 2 * x → b ≡ 2 * n + 2 * t → a + b ≡ 2 * suc n + 2 * (x + t)
add_puts a b n t x e f = omega (arith, e, f)

pub puts_counted : (form : Form) (seat : Seat) (rs later : List Record) → length (records_puts form seat rs later) ≡ puts_for form seat rs later
puts_counted form seat rs [] = refl
puts_counted form seat rs (r ∷ later) =
    let next = seat_then form seat rs r in
    let more = rs ++ r ∷ [] in
    length-append {A = Put} (record_puts form seat rs r) (records_puts form next more later)
    ∙ add_puts (length (record_puts form seat rs r)) (length (records_puts form next more later)) (length later) (turns form next more later)
    (cond (needs_turn (room_in form seat) rs r) 1 0) (one_puts form seat rs r) (puts_counted form next more later)

add_bytes : (a b x y : ℕ) → a ≡ x → b ≡ y → a + b ≡ x + y
add_bytes a b x y e f = omega (arith, e, f)

bytes_counted : (form : Form) (seat : Seat) (rs later : List Record) → total bytes_of (actions_of_puts (records_puts form seat rs later)) ≡ bytes_written form seat rs later
bytes_counted form seat rs [] = refl
bytes_counted form seat rs (r ∷ later) =
    let next = seat_then form seat rs r in
    let more = rs ++ r ∷ [] in
    let first = record_puts form seat rs r in
    let rest = records_puts form next more later in
    ap (total bytes_of) (actions_of_puts-append first rest)
    ∙ total-append bytes_of (actions_of_puts first) (actions_of_puts rest)
    ∙ add_bytes (total bytes_of (actions_of_puts first)) (total bytes_of (actions_of_puts rest))
    (cond (needs_turn (room_in form seat) rs r) (turn_bytes rs) 0 + record_bytes r) (bytes_written form next more later)
    (one_bytes form seat rs r) (bytes_counted form next more later)

-- ---- what was done on the device

module _ (form : Form) (seat : Seat) (rs later : List Record) where
  abbrev all_puts : List Put
  all_puts = records_puts form seat rs later

  just : (number : Action → ℕ) → OfDevice number → (actions : List Action) → device_actions actions ≡ actions_of_puts all_puts → total number actions ≡ total number (actions_of_puts all_puts)
  just number of actions is = sym (total_device number of actions) ∙ ap (total number) is

  at_most : (number : Action → ℕ) → OfDevice number → WhetherDone number → (actions : List Action) → Ran all_puts (device_actions actions) → total number actions ≤ total number (actions_of_puts all_puts)
  at_most number of done actions ran =
      subst (λ (n : ℕ). n ≤ total number (actions_of_puts all_puts)) (total_device number of actions) (ran_total number done all_puts (device_actions actions) ran)

  counted : AreCounted form seat rs later
  counted =
      let puts : length all_puts ≡ puts_for form seat rs later = puts_counted form seat rs later in
      let bytes : total bytes_of (actions_of_puts all_puts) ≡ bytes_written form seat rs later = bytes_counted form seat rs later in
      record {
        puts = puts;
        whole = λ actions is.
            record {
              writes = just writes_of writes_device actions is ∙ writes_of_puts all_puts ∙ puts;
              syncs = just syncs_of syncs_device actions is ∙ syncs_of_puts all_puts ∙ puts;
              synced = just synced_of synced_device actions is ∙ synced_of_puts all_puts ∙ puts;
              bytes_are = just bytes_of bytes_device actions is ∙ bytes;
            };
        part = λ actions ran.
            record {
              writes = subst (λ (n : ℕ). total writes_of actions ≤ n) (writes_of_puts all_puts ∙ puts) (at_most writes_of writes_device writes_done actions ran);
              syncs = subst (λ (n : ℕ). total syncs_of actions ≤ n) (syncs_of_puts all_puts ∙ puts) (at_most syncs_of syncs_device syncs_done actions ran);
              bytes_are = subst (λ (n : ℕ). total bytes_of actions ≤ n) bytes (at_most bytes_of bytes_device bytes_done actions ran);
            };
      }

pub puts_are_counted : PutsAreCounted
puts_are_counted form seat rs later = counted form seat rs later
