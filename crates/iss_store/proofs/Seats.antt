-- Putting a record on a store's device, after the end gate or after a turn, is a part of a run.
use Rattle.std.proofs.Common.{◌≡◌, ℕ, ◌+◌, ◌<◌, ◌≤◌, max, Bool, true, false, not, ◌&&◌, cond, List, [], ◌∷◌, ◌++◌, length, take, refl, sym, ap, subst, ◌∙◌, append_assoc, append-nil, arith}
use Rattle.std.specs.Prelude.{Some, None, nat_le}
use Rattle.std.proofs.lemmas.Bool.Decides.{nat_tests}
use Rattle.iss_edge.specs.declared.outside.Action.{Action}
use Rattle.iss_edge.specs.declared.outside.Action.TheVariants.{Write, Sync}
use Rattle.iss_edge.specs.World.{World}
use Rattle.iss_edge.specs.Disk.{after_actions}
use Rattle.iss_edge.specs.Puts.{Put, after_puts, actions_of_puts, Ran, Puts, PutsPart}
use Rattle.iss_edge.specs.Stretches.{Step, actions_of, IsGood, GoesOn, with_levels}
use Rattle.iss_edge.proofs.PutStretches.{puts_bytes}
use Rattle.iss_edge.proofs.StretchLemmas.{actions_of-leveled}
use Rattle.iss_journal.specs.Place.{free_at}
use Rattle.iss_journal.specs.Region.{append_bytes}
use Rattle.iss_journal.specs.Append.{append_puts, AppendsGood, AppendsGoing}
use Rattle.iss_halves.specs.Forms.{Form, Seat, seat_at}
use Rattle.iss_halves.specs.Halves.{half_size}
use Rattle.iss_halves.specs.Standing.{RestsFrom, StandsFrom}
use Rattle.iss_halves.specs.Turning.{half_bytes}
use Rattle.iss_halves.specs.Turned.{turned_puts, TurnedGood, TurnedGoing}
use Rattle.iss_halves.proofs.Standings.{appends_keep, appends_go_on, turn_has_room}
use Rattle.iss_model.specs.declared.input.Record.{Record}
use Rattle.iss_model.specs.declared.limits.TheConstants.{MOST_RECORDS}
use Rattle.iss_model.specs.run.Rooms.{need_of, needs_turn}
use Rattle.iss_model.specs.texts.Spelling.{spelling, is_record}
use Rattle.iss_standing.specs.Standing.{image_after, saved_of, AreHistory, RestsAt, StandsAt}
use Rattle.iss_standing.specs.Rooms.{room_in}
use Rattle.iss_standing.specs.Writes.{device_actions, gate_at, record_puts, records_puts, seat_past}
use Rattle.iss_standing.specs.Goings.{channel_steps, AreFirstOf, StepsGo, StepsGoPart}
use Rattle.iss_standing.proofs.NextRecords.{with_record, one_more, first_one, comes_next, history_more}
use Rattle.iss_standing.proofs.Synced.{work_synced}
use Rattle.iss_opening.specs.Values.{StoreNow, IsStore, form_under, seat_under}
use Rattle.iss_opening.specs.Standing.{StandsFor}
use Rattle.iss_store.specs.Values.{Plan}
use Rattle.iss_store.specs.Planning.{image_now, free_turned_at, turns_for, store_turned, store_for, IsPlanOf}
use Rattle.iss_store.proofs.Books.{next_follows, count_on_book}
use Rattle.iss_store.proofs.Rooms.{ends_first, next_body, image_is, turns_is, gate_by_needs}
use Rattle.iss_store.proofs.Moves.{in_halves_so}

-- ---- whether a plan turns

none_not : (b : Bool) (x : List ℕ) → None ≡ cond b (Some x) None → b ≡ false
none_not true x e = absurd cc
none_not false x e = refl

some_turns : (b : Bool) (h x : List ℕ) → Some h ≡ cond b (Some x) None → (b ≡ true) × (h ≡ x)
some_turns true h x e = (refl, cc)
some_turns false h x e = absurd cc

fits_gate : (halved : Bool) (need free turned : ℕ) → halved && not (nat_le need free) ≡ false → need ≤ cond halved (max free turned) free → need ≤ free
fits_gate true need free turned e le = let yes : nat_le need free ≡ true = by (nat_le need free) e in grind (arith, nat_tests)
  where
    by : (b : Bool) → not b ≡ false → b ≡ true
    by true e = refl
    by false e = absurd cc
fits_gate false need free turned e le = le

fits_turn : (halved : Bool) (need free turned : ℕ) → halved && not (nat_le need free) ≡ true → need ≤ cond halved (max free turned) free → need ≤ turned
fits_turn true need free turned e le =
    let no : nat_le need free ≡ false = by (nat_le need free) e in
    let less : free < need = grind (arith, nat_tests) in
    omega (arith, less, le)
  where
    by : (b : Bool) → not b ≡ true → b ≡ false
    by true e = absurd cc
    by false e = refl
fits_turn false need free turned e le = absurd cc

module _ (s : StoreNow) (p : Plan) (plan : IsPlanOf s p) where
  pub stays_here : p.half ≡ None → turns_for s p.accepted ≡ false
  stays_here none = none_not (turns_for s p.accepted) (half_bytes (image_now s)) (sym none ∙ plan.half)

  pub store_here : p.half ≡ None → store_for s p.accepted ≡ s
  store_here none = ap (λ (b : Bool). cond b (store_turned s) s) (stays_here none)

  pub gate_has_room : p.half ≡ None → need_of p.accepted ≤ free_at s.place
  gate_has_room none = fits_gate s.layout.halved (need_of p.accepted) (free_at s.place) (free_turned_at s) (stays_here none) plan.fits

  pub turns_there : (half : List ℕ) → p.half ≡ Some half → (turns_for s p.accepted ≡ true) × (half ≡ half_bytes (image_now s))
  turns_there half some = some_turns (turns_for s p.accepted) half (half_bytes (image_now s)) (sym some ∙ plan.half)

  pub store_there : (half : List ℕ) → p.half ≡ Some half → store_for s p.accepted ≡ store_turned s
  store_there half some = ap (λ (b : Bool). cond b (store_turned s) s) (turns_there half some).0

  pub turn_has_its_room : (half frame : List ℕ) → p.half ≡ Some half → length frame ≡ need_of p.accepted → length half + length frame ≤ half_size s.layout.size
  turn_has_its_room half frame some long =
      let turns = turns_there half some in
      let fits : need_of p.accepted ≤ free_turned_at s = fits_turn s.layout.halved (need_of p.accepted) (free_at s.place) (free_turned_at s) turns.0 plan.fits in
      (turn_has_room s.layout.size (image_now s) half frame turns.1 (omega (arith, long))).0 (omega (arith, long, fits))

-- ---- what puts do isn't on channels

puts_on_device : (n : ℕ) (puts : List Put) → channel_steps (with_levels n (actions_of_puts puts)) ≡ []
puts_on_device n [] = refl
puts_on_device n (put ∷ puts) = puts_on_device n puts

ran_on_device : (n : ℕ) (puts : List Put) (actions : List Action) → Ran puts actions → channel_steps (with_levels n actions) ≡ []
ran_on_device n puts [] ran = refl
ran_on_device n [] (action ∷ more) ran = absurd ran
ran_on_device n (put ∷ puts) (write ∷ []) ran = ap (λ (w : Action). channel_steps (with_levels n (w ∷ []))) ran.1
ran_on_device n (put ∷ puts) (write ∷ sync ∷ []) ran =
    ap (λ (w : Action). channel_steps (with_levels n (w ∷ sync ∷ []))) ran.1 ∙ ap (λ (y : Action). channel_steps (with_levels n (y ∷ []))) ran.2
ran_on_device n (put ∷ puts) (write ∷ sync ∷ action ∷ more) ran =
    ap (λ (w : Action). channel_steps (with_levels n (w ∷ sync ∷ action ∷ more))) ran.0
    ∙ ap (λ (y : Action). channel_steps (with_levels n (y ∷ action ∷ more))) ran.1
    ∙ ran_on_device n puts (action ∷ more) ran.2

-- ---- puts are all work on the device

puts_work : (puts : List Put) → device_actions (actions_of_puts puts) ≡ actions_of_puts puts
puts_work [] = refl
puts_work (put ∷ puts) = ap (λ (l : List Action). Write put.at put.bytes true ∷ Sync true ∷ l) (puts_work puts)

alone_works : (actions : List Action) (write : Action) (at : ℕ) (bytes : List ℕ) (ok : Bool) → write ≡ Write at bytes ok → device_actions actions ≡ actions → device_actions (write ∷ actions) ≡ write ∷ actions
alone_works actions write at bytes ok is rest =
    subst (λ (w : Action). device_actions (w ∷ actions) ≡ w ∷ actions) (sym is) (ap (λ (l : List Action). Write at bytes ok ∷ l) rest)

sync_works : (actions : List Action) (sync : Action) (ok : Bool) → sync ≡ Sync ok → device_actions actions ≡ actions → device_actions (sync ∷ actions) ≡ sync ∷ actions
sync_works actions sync ok is rest =
    subst (λ (w : Action). device_actions (w ∷ actions) ≡ w ∷ actions) (sym is) (ap (λ (l : List Action). Sync ok ∷ l) rest)

ran_works : (puts : List Put) (actions : List Action) → Ran puts actions → device_actions actions ≡ actions
ran_works puts [] ran = refl
ran_works [] (action ∷ more) ran = absurd ran
ran_works (put ∷ puts) (write ∷ []) ran = alone_works [] write put.at put.bytes ran.0 ran.1 refl
ran_works (put ∷ puts) (write ∷ sync ∷ []) ran = alone_works (sync ∷ []) write put.at put.bytes true ran.1 (sync_works [] sync ran.0 ran.2 refl)
ran_works (put ∷ puts) (write ∷ sync ∷ action ∷ more) ran =
    alone_works (sync ∷ action ∷ more) write put.at put.bytes true ran.0 (sync_works (action ∷ more) sync true ran.1 (ran_works puts (action ∷ more) ran.2))

-- ---- puts as a part of a run

module _ (s : StoreNow) (is : IsStore s) (p : Plan) (plan : IsPlanOf s p) (spelled : is_record p.accepted ≡ true) (a b : World) (rs : List Record) (stands : StandsFor s rs) where
  abbrev r : Record
  r = p.accepted

  stays_history : AreHistory rs → AreHistory (with_record rs r)
  stays_history history = history_more rs r history (next_follows s.core rs r stands.core plan.next) spelled

  stays_few : length rs ≤ MOST_RECORDS → length (with_record rs r) ≤ MOST_RECORDS
  stays_few most = omega (arith, one_more rs r, count_on_book s.core rs stands.core, plan.few)

  -- the puts are those of the record by the book, and lead to its seat
  abbrev are_puts : List Put → Type 0
  are_puts puts = puts ≡ records_puts (form_under s) (seat_under s) rs (r ∷ [])

  going_by : (to : Seat) (puts : List Put) → are_puts puts → to ≡ seat_past (form_under s) (seat_under s) rs (r ∷ []) → Puts puts a b
      → ((all : List Record) → AreFirstOf (with_record rs r) all → (steps : List Step) → actions_of steps ≡ actions_of_puts puts
      → GoesOn (RestsAt (form_under s) (seat_under s) all) (StandsAt (form_under s) all) (RestsAt (form_under s) to all) (length rs) (length rs + 1) steps)
      → StepsGo (form_under s) (seat_under s) to rs (with_record rs r) [] a b
  going_by to puts are reached made on =
      let steps = with_levels 0 (actions_of_puts puts) in
      let same : actions_of steps ≡ actions_of_puts puts = actions_of-leveled 0 (actions_of_puts puts) in
      record {
        more = first_one rs r;
        steps = steps;
        grew = made.trace ∙ ap (λ (l : List Action). a.trace ++ l) (sym same);
        done = puts_on_device 0 puts;
        goes_on =
            λ all first.
            subst (λ (n : ℕ). GoesOn (RestsAt (form_under s) (seat_under s) all) (StandsAt (form_under s) all) (RestsAt (form_under s) to all) (length rs) n steps) (sym (one_more rs r))
            (on all first steps same);
        leaves =
            record {
              leaves = λ d is.
                  ap (λ (l : List Action). (after_actions d l).bytes) same ∙ puts_bytes puts d ∙ ap (λ (l : List ℕ). after_puts l puts) is ∙ sym made.device;
            };
        history = stays_history;
        few = stays_few;
        made = ap device_actions same ∙ puts_work puts ∙ ap actions_of_puts are;
        reached = reached;
        synced = work_synced (length rs) (actions_of_puts puts);
      }

  part_by : (puts : List Put) → are_puts puts → (part : PutsPart puts a b)
      → ((all : List Record) → AreFirstOf (with_record rs r) all → (steps : List Step) → actions_of steps ≡ part.actions
      → IsGood (RestsAt (form_under s) (seat_under s) all) (StandsAt (form_under s) all) (length rs) (length rs + 1) steps)
      → StepsGoPart (form_under s) (seat_under s) rs (with_record rs r) [] a b
  part_by puts are part good =
      let steps = with_levels 0 part.actions in
      let same : actions_of steps ≡ part.actions = actions_of-leveled 0 part.actions in
      record {
        more = first_one rs r;
        steps = steps;
        grew = part.trace ∙ ap (λ (l : List Action). a.trace ++ l) (sym same);
        done = ran_on_device 0 puts part.actions part.ran;
        good =
            λ all first.
            subst (λ (n : ℕ). IsGood (RestsAt (form_under s) (seat_under s) all) (StandsAt (form_under s) all) (length rs) n steps) (sym (one_more rs r))
            (good all first steps same);
        history = stays_history;
        few = stays_few;
        made =
            subst (λ (l : List Action). Ran (records_puts (form_under s) (seat_under s) rs (r ∷ [])) l) (sym (ap device_actions same ∙ ran_works puts part.actions part.ran))
            (subst (λ (p : List Put). Ran p part.actions) are part.ran);
        synced = work_synced (length rs) part.actions;
      }

  first_of : (all : List Record) → AreFirstOf (with_record rs r) all → AreFirstOf rs all
  first_of all first = record { later = r ∷ first.later; cut = first.cut ∙ append_assoc rs (r ∷ []) first.later }

  -- whether the record turns by the book
  turns_so : (b : Bool) → turns_for s r ≡ b → needs_turn (room_in (form_under s) (seat_under s)) rs r ≡ b
  turns_so b e = sym (turns_is s is rs stands r) ∙ e

  puts_where : (b : Bool) (puts : List Put) → needs_turn (room_in (form_under s) (seat_under s)) rs r ≡ b
      → puts ≡ cond b (turned_puts s.layout (half_bytes (image_after rs)) (append_bytes (spelling r))) (append_puts (gate_at (form_under s) (seat_under s) rs) (append_bytes (spelling r))) → are_puts puts
  puts_where b puts turns e =
      e
      ∙ ap (λ (t : Bool). cond t (turned_puts s.layout (half_bytes (image_after rs)) (append_bytes (spelling r))) (append_puts (gate_at (form_under s) (seat_under s) rs) (append_bytes (spelling r)))) (sym turns)
      ∙ sym (append-nil (record_puts (form_under s) (seat_under s) rs r))

  seat_where : (b : Bool) (to : Seat) → needs_turn (room_in (form_under s) (seat_under s)) rs r ≡ b → to ≡ cond b (seat_at (not s.layout.second) (length rs)) (seat_under s) → to ≡ seat_past (form_under s) (seat_under s) rs (r ∷ [])
  seat_where b to turns e = e ∙ ap (λ (t : Bool). cond t (seat_at (not s.layout.second) (length rs)) (seat_under s)) (sym turns)

  puts_here : turns_for s r ≡ false → are_puts (append_puts s.place.gate (append_bytes (spelling r)))
  puts_here here =
      puts_where false (append_puts s.place.gate (append_bytes (spelling r))) (turns_so false here)
      (ap (λ (n : ℕ). append_puts n (append_bytes (spelling r))) (gate_by_needs (form_under s) (seat_under s) rs s.place stands.low stands.ends))

  puts_there : (half : List ℕ) → half ≡ half_bytes (image_now s) → turns_for s r ≡ true → are_puts (turned_puts s.layout half (append_bytes (spelling r)))
  puts_there half bytes there =
      puts_where true (turned_puts s.layout half (append_bytes (spelling r))) (turns_so true there)
      (ap (λ (h : List ℕ). turned_puts s.layout h (append_bytes (spelling r))) (bytes ∙ ap half_bytes (image_is s is rs stands)))

  -- after the gate
  pub going_here : turns_for s r ≡ false → AppendsGoing s.place (append_bytes (spelling r)) a b → StepsGo (form_under s) (seat_under s) (seat_under s) rs (with_record rs r) [] a b
  going_here here appends =
      going_by (seat_under s) (append_puts s.place.gate (append_bytes (spelling r))) (puts_here here) (seat_where false (seat_under s) (turns_so false here) refl) appends.made
      (λ all first steps same.
      appends_go_on (form_under s) (seat_under s) (saved_of all) (length rs) (spelling r) s.place (append_bytes (spelling r)) a b steps stands.low
      (ends_first (form_under s) (seat_under s) rs all s.place (first_of all first) stands.low stands.ends) (next_body rs all r spelled first) refl appends same)

  pub part_here : turns_for s r ≡ false → AppendsGood s.place (append_bytes (spelling r)) a b → StepsGoPart (form_under s) (seat_under s) rs (with_record rs r) [] a b
  part_here here appends =
      part_by (append_puts s.place.gate (append_bytes (spelling r))) (puts_here here) appends.part
      (λ all first steps same.
      appends_keep (form_under s) (seat_under s) (saved_of all) (length rs) (spelling r) s.place (append_bytes (spelling r)) a b appends steps stands.low
      (ends_first (form_under s) (seat_under s) rs all s.place (first_of all first) stands.low stands.ends) (next_body rs all r spelled first) refl same)

  -- after a turn
  half_there : (half : List ℕ) → half ≡ half_bytes (image_now s) → (all : List Record) → AreFirstOf (with_record rs r) all → half ≡ half_bytes (image_after (take (length rs) all))
  half_there half bytes all first =
      bytes ∙ ap half_bytes (image_is s is rs stands) ∙ ap (λ (l : List Record). half_bytes (image_after l)) (sym (comes_next rs all r first).0)

  pub going_there : (half : List ℕ) → half ≡ half_bytes (image_now s) → turns_for s r ≡ true → s.layout.halved ≡ true → TurnedGoing s.layout half (append_bytes (spelling r)) a b
      → StepsGo (form_under s) (seat_under s) (seat_under (store_turned s)) rs (with_record rs r) [] a b
  going_there half bytes there halved turns =
      going_by (seat_under (store_turned s)) (turned_puts s.layout half (append_bytes (spelling r))) (puts_there half bytes there)
      (seat_where true (seat_under (store_turned s)) (turns_so true there) (ap (λ (n : ℕ). seat_at (not s.layout.second) n) (count_on_book s.core rs stands.core))) turns.made
      (λ all first steps same.
      let at_form = subst (λ (form : Form). GoesOn (RestsFrom form (seat_under s) (saved_of all)) (StandsFrom form (saved_of all)) (RestsFrom form (seat_at (not s.layout.second) (length rs)) (saved_of all)) (length rs) (length rs + 1) steps)
      (in_halves_so s.layout halved)
      (turns.goes_on (saved_of all) s.point (length rs) (spelling r) steps stands.low (half_there half bytes all first) (next_body rs all r spelled first) refl same) in
      subst (λ (n : ℕ). GoesOn (RestsAt (form_under s) (seat_under s) all) (StandsAt (form_under s) all) (RestsAt (form_under s) (seat_at (not s.layout.second) n) all) (length rs) (length rs + 1) steps)
      (sym (count_on_book s.core rs stands.core)) at_form)

  pub part_there : (half : List ℕ) → half ≡ half_bytes (image_now s) → turns_for s r ≡ true → s.layout.halved ≡ true → TurnedGood s.layout half (append_bytes (spelling r)) a b
      → StepsGoPart (form_under s) (seat_under s) rs (with_record rs r) [] a b
  part_there half bytes there halved turns =
      part_by (turned_puts s.layout half (append_bytes (spelling r))) (puts_there half bytes there) turns.part
      (λ all first steps same.
      subst (λ (form : Form). IsGood (RestsFrom form (seat_under s) (saved_of all)) (StandsFrom form (saved_of all)) (length rs) (length rs + 1) steps)
      (in_halves_so s.layout halved)
      (turns.good (saved_of all) s.point (length rs) (spelling r) steps stands.low (half_there half bytes all first) (next_body rs all r spelled first) refl same))
