-- What the programme stood in with, and what calls ask, stay within a bound that grows by what a record's ask brings.
use Rattle.std.proofs.Common.{◌≡◌, ◌∙◌, ◌++◌, ◌+◌, ◌+ℤ◌, ◌∷◌, ◌&&◌, ◌≤◌, ℕ, ℤ, pos, neg_ℤ, ap, arith, Bool, fold, length, List, [], refl, subst, sym, true}
use Rattle.std.specs.Prelude.{◌≤ℤ◌}
use Rattle.std.specs.List.{list_all}
use Rattle.std.proofs.lemmas.Bool.{and_parts}
use Rattle.std.proofs.lemmas.Int.{ints}
use Rattle.std.proofs.lemmas.List.{length-append}
use Rattle.std.proofs.lemmas.List.Folds.{list_all-append}
use Rattle.iss_model.specs.declared.call.Opened.{Opened}
use Rattle.iss_model.specs.declared.entry.Entry.{Entry}
use Rattle.iss_model.specs.declared.entry.Entry.TheVariants as entry
use Rattle.iss_model.specs.declared.input.Input.{Input}
use Rattle.iss_model.specs.declared.input.Input.TheVariants as input
use Rattle.iss_model.specs.declared.input.Record.{Record}
use Rattle.iss_model.specs.declared.setting.Moved.TheVariants as moved
use Rattle.iss_model.specs.Sums.{stood_changes}
use Rattle.iss_model.specs.rules.Asks.{Ask}
use Rattle.iss_model.specs.rules.Due.{DueThing, thing_acts, thing_entries}
use Rattle.iss_model.specs.rules.Facts.{Facts}
use Rattle.iss_model.specs.rules.Histories.{IsLegal}
use Rattle.iss_model.specs.rules.Stepping.{acts_of, after_due, entries_of, step}
use Rattle.iss_model.specs.state.Cores.{CoreState, after_entry, after_setting, core_facts, core_keeper, core_of, with_record}
use Rattle.iss_model.specs.state.Kept.{Kept, after_changes, nothing_kept}
use Rattle.iss_acts.specs.Causes.{ComesOf, FallsDue}
use Rattle.iss_acts.specs.Sources.{IsFirstAsk, IsFurtherAsk, IsOwnAsk}
use Rattle.iss_acts.proofs.Causes.{input_row, thing_row}
use Rattle.iss_acts.proofs.Stepping.{due_stays}
use Rattle.iss_state.specs.Pending.{HasTakenUp, IsWell}
use Rattle.iss_state.specs.Sound.{IsNewEvent}
use Rattle.iss_state.proofs.calls.Legal.{nothing_well}
use Rattle.iss_state.proofs.calls.Steps.{due_allowed, own_allowed, ready_settled, ready_taken, step_well}
use Rattle.iss_state.proofs.docket.Lists.{by_either}
use Rattle.iss_state.proofs.effects.Effects.{setting_calls}
use Rattle.iss_state.proofs.invariants.Legal.{legal_induction}
use Rattle.iss_bounded.specs.Bounds.{asked_worth}
use Rattle.iss_bounded.proofs.AskedWorth.{Knows, knew, knows_own, worth_after_close, worth_at, worth_with_opened}
use Rattle.iss_bounded.proofs.Prices.{Goes, MayCome, all_go, all_knew, all_may, row_paid, total_price}
use Rattle.iss_bounded.proofs.StandInRows.{stand_in_price, stand_ins_paid}

setting_stood : (s : CoreState) (i : Input) → (after_setting s i).stand_ins.stood ≡ s.stand_ins.stood
setting_stood s (input.Move token (moved.Card card to)) = refl
setting_stood s (input.Move token (moved.User user to)) = refl
setting_stood s _ = refl

-- nothing that falls due makes an ask of its own
pub no_own_ask : {Q : Type 0} {f : Facts} {at : ℕ} (ask : Ask) → IsOwnAsk f FallsDue at ask → Q
no_own_ask ask own = absurd (by_either (λ (first : IsFirstAsk _ FallsDue _ ask). let bad = first.its_input in cc) (λ (further : IsFurtherAsk _ FallsDue _ ask). let bad = further.its_input in cc) own)

-- How what stood in lies within a bound: nothing does, and standing in with an amount takes it as far as the amount's size.
pub record Lies (Within : Kept → ℤ → Type 0) (size : ℕ → ℕ) : Type 0 where
  pub begins : Within nothing_kept (pos 0)
  pub more : (k : Kept) (m n : ℤ) → m ≤ℤ n → Within k m → Within k n
  pub stood : (k : Kept) (m : ℤ) (set product user : List ℕ) (amount at : ℕ) → Within k m → Within (after_changes k (stood_changes (entry.Stood set product user amount at))) (m +ℤ pos (size amount))

-- what stood in is within what the asked calls leave of a bound
pub record LeavesRoom (Within : Kept → ℤ → Type 0) (size : ℕ → ℕ) (n : ℤ) (s : CoreState) : Type 0 where
  pub its : Within s.stand_ins.stood (n +ℤ neg_ℤ (pos (asked_worth (λ o. size o.amount) s.calls)))

module _ {Within : Kept → ℤ → Type 0} {size : ℕ → ℕ} (lies : Lies Within size) where
  abbrev worth : Opened → ℕ
  worth o = size o.amount

  abbrev Room : ℤ → CoreState → Type 0
  Room n s = LeavesRoom Within size n s

  pub room_more : (m n : ℤ) (s : CoreState) → m ≤ℤ n → Room m s → Room n s
  room_more m n s le h = record { its = lies.more s.stand_ins.stood (m +ℤ neg_ℤ (pos (asked_worth worth s.calls))) (n +ℤ neg_ℤ (pos (asked_worth worth s.calls))) (both m n (asked_worth worth s.calls) le) h.its }
    where
      both : (m n : ℤ) (a : ℕ) → m ≤ℤ n → (m +ℤ neg_ℤ (pos a)) ≤ℤ (n +ℤ neg_ℤ (pos a))
      both m n a le = omega (arith, ints, le)

  module _ (closed : ℕ → ℕ) where
    still : (n : ℤ) (s t : CoreState) → t.stand_ins.stood ≡ s.stand_ins.stood → t.calls ≡ s.calls → Room n s → Room (n +ℤ pos 0) t
    still n s t stood calls h =
        record {
          its = subst (λ (k : Kept). Within k ((n +ℤ pos 0) +ℤ neg_ℤ (pos (asked_worth worth t.calls)))) (sym stood)
              (lies.more s.stand_ins.stood (n +ℤ neg_ℤ (pos (asked_worth worth s.calls))) ((n +ℤ pos 0) +ℤ neg_ℤ (pos (asked_worth worth t.calls))) (same n (asked_worth worth s.calls) (asked_worth worth t.calls) (ap (asked_worth worth) calls)) h.its);
        }
      where
        same : (n : ℤ) (a b : ℕ) → b ≡ a → (n +ℤ neg_ℤ (pos a)) ≤ℤ ((n +ℤ pos 0) +ℤ neg_ℤ (pos b))
        same n a b e = omega (arith, ints, e)

    entry_moves : (n : ℤ) (s : CoreState) (e : Entry) → MayCome s e → Knows worth closed s → Room n s → Room (n +ℤ stand_in_price size closed e) (after_entry s e)
    entry_moves n s (entry.Conf i) allowed known h = still n s (after_setting s i) (setting_stood s i) (setting_calls s i) h
    entry_moves n s (entry.Opened o) allowed known h =
        record { its = lies.more s.stand_ins.stood _ _ (opens n (asked_worth worth s.calls) (size o.amount) (asked_worth worth (after_entry s (entry.Opened o)).calls) (worth_with_opened worth s.calls o)) h.its }
      where
        opens : (n : ℤ) (a w b : ℕ) → b ≡ a + w → (n +ℤ neg_ℤ (pos a)) ≤ℤ ((n +ℤ pos w) +ℤ neg_ℤ (pos b))
        opens n a w b e = omega (arith, ints, e)
    entry_moves n s (entry.Closed call how) allowed known h =
        let its = allowed.its in
        record {
          its = lies.more s.stand_ins.stood _ _
              (closes n (asked_worth worth s.calls) (closed call.0) (worth its.opened) (asked_worth worth (after_entry s (entry.Closed call how)).calls) (known.its call.0 its allowed.asked.stands) (worth_after_close worth call.0 how s.calls its allowed.asked.stands allowed.asked.asked)) h.its;
        }
      where
        closes : (n : ℤ) (a c w b : ℕ) → c ≡ w → b + w ≤ a → (n +ℤ neg_ℤ (pos a)) ≤ℤ ((n +ℤ neg_ℤ (pos c)) +ℤ neg_ℤ (pos b))
        closes n a c w b e le = omega (arith, ints, e, le)
    entry_moves n s (entry.Stood set product user amount at) allowed known h =
        record { its = lies.more (after_changes s.stand_ins.stood (stood_changes (entry.Stood set product user amount at))) _ _ (stands n (asked_worth worth s.calls) (size amount)) (lies.stood s.stand_ins.stood _ set product user amount at h.its) }
      where
        stands : (n : ℤ) (a w : ℕ) → ((n +ℤ neg_ℤ (pos a)) +ℤ pos w) ≤ℤ ((n +ℤ pos w) +ℤ neg_ℤ (pos a))
        stands n a w = omega (arith, ints)
    entry_moves n s e allowed known h = still n s (after_entry s e) refl refl h

    entries_go : Goes MayCome Room (Knows worth closed) (stand_in_price size closed)
    entries_go = record { knew = knew worth closed; moves = entry_moves }

  at_most : (n z : ℤ) (m : ℕ) → z ≤ℤ pos m → (n +ℤ z) ≤ℤ (n +ℤ pos m)
  at_most n z m h = omega (arith, ints, h)

  due_room : (n : ℤ) (s : CoreState) (i : Input) (thing : DueThing) (at : ℕ) → HasTakenUp s i → Room n s → Room n (fold after_entry s (thing_entries thing at (core_facts s)))
  due_room n s i thing at ready h =
      let es : List Entry = thing_entries thing at (core_facts s) in
      let w : CoreState = fold after_entry s es in
      let closed : ℕ → ℕ = worth_at worth w.calls in
      let known : Knows worth closed s = all_knew (entries_go closed) s es (knows_own worth w) in
      room_more (n +ℤ total_price (stand_in_price size closed) es) n w
      (none n (total_price (stand_in_price size closed) es) (row_paid (stand_ins_paid size closed s FallsDue at 0 known (λ ask own. no_own_ask ask own)) (thing_acts thing at (core_facts s)) (thing_row (core_facts s) thing at)))
      (all_go (entries_go closed) n s es (all_may s es (due_allowed s i thing at ready)) (knows_own worth w) h)
    where
      none : (n z : ℤ) → z ≤ℤ pos 0 → (n +ℤ z) ≤ℤ n
      none n z h = omega (arith, ints, h)

  own_room : (most : ℕ) (n : ℤ) (s : CoreState) (i : Input) (at : ℕ) → HasTakenUp s i → ((ask : Ask) → IsOwnAsk (core_facts s) (ComesOf i) at ask → size ask.amount ≤ most)
      → Room n s → Room (n +ℤ pos most) (fold after_entry s (entries_of i at (core_facts s)))
  own_room most n s i at ready small h =
      let es : List Entry = entries_of i at (core_facts s) in
      let w : CoreState = fold after_entry s es in
      let closed : ℕ → ℕ = worth_at worth w.calls in
      let known : Knows worth closed s = all_knew (entries_go closed) s es (knows_own worth w) in
      room_more (n +ℤ total_price (stand_in_price size closed) es) (n +ℤ pos most) w
      (at_most n (total_price (stand_in_price size closed) es) most (row_paid (stand_ins_paid size closed s (ComesOf i) at most known small) (acts_of i at (core_facts s)) (input_row (core_facts s) i at)))
      (all_go (entries_go closed) n s es (all_may s es (own_allowed s i at ready)) (knows_own worth w) h)

  pub step_room : (most : ℕ) (n : ℤ) (s : CoreState) (r : Record) → IsWell s → IsNewEvent s r.input → ((f : Facts) (ask : Ask) → IsOwnAsk f (ComesOf r.input) r.at ask → size ask.amount ≤ most)
      → Room n s → Room (n +ℤ pos most) (step core_keeper s r).world
  unfolding step
  step_room most n s r well new small h =
      let up : CoreState = with_record s r in
      let due = due_stays (λ s. HasTakenUp s r.input × Room n s) r.at (λ s thing h. (ready_settled s r.input thing r.at h.0, due_room n s r.input thing r.at h.0 h.1)) up (ready_taken s r well new, record { its = h.its }) in
      own_room most n (after_due core_keeper up r.at).world r.input r.at due.0 (small (core_facts (after_due core_keeper up r.at).world)) due.1

  -- what legal records leave room for, if each of them passes a test by which its ask is small
  module _ (most : ℕ) (bound : ℕ → ℕ) (form : Record → Bool) (small : (r : Record) → form r ≡ true → (f : Facts) (ask : Ask) → IsOwnAsk f (ComesOf r.input) r.at ask → size ask.amount ≤ most)
      (first : bound 0 ≡ 0) (grows : (n : ℕ) → bound (n + 1) ≡ bound n + most) where
    record IsRoomy (rs : List Record) (s : CoreState) : Type 0 where
      well : IsWell s
      room : list_all form rs ≡ true → Room (pos (bound (length rs))) s

    pub legal_room : (rs : List Record) → IsLegal rs → list_all form rs ≡ true → Room (pos (bound (length rs))) (core_of rs)
    legal_room rs legal = (legal_induction IsRoomy
        (record { well = nothing_well; room = λ none. record { its = lies.more nothing_kept (pos 0) (pos (bound 0) +ℤ neg_ℤ (pos 0)) (starts (bound 0) first) lies.begins } })
        (λ rs r new h. record {
          well = step_well (core_of rs) r new h.well;
          room = λ forms.
              let both = and_parts (list_all form rs) (form r && true) (sym (list_all-append form rs (r ∷ [])) ∙ forms) in
              let own = and_parts (form r) true both.1 in
              room_more (pos (bound (length rs)) +ℤ pos most) (pos (bound (length (rs ++ r ∷ [])))) (step core_keeper (core_of rs) r).world
              (longer (bound (length rs)) (bound (length (rs ++ r ∷ []))) (ap bound (length-append rs (r ∷ [])) ∙ grows (length rs)))
              (step_room most (pos (bound (length rs))) (core_of rs) r h.well new (small r own.0) (h.room both.0));
        }) rs legal).room
      where
        starts : (b : ℕ) → b ≡ 0 → pos 0 ≤ℤ (pos b +ℤ neg_ℤ (pos 0))
        starts b e = omega (arith, ints, e)

        longer : (a b : ℕ) → b ≡ a + most → (pos a +ℤ pos most) ≤ℤ pos b
        longer a b e = omega (arith, ints, e)
