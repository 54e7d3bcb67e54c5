-- The notices of a sound state are in image form.
use Rattle.std.proofs.Common.{◌≡◌, ◌∙◌, ◌∷◌, ◌&&◌, ◌*◌, ◌≤◌, ℕ, ap, arith, Bool, cond, false, find, length, List, [], nat_le, nat_lt, not, refl, subst, sym, true}
use Rattle.std.specs.Prelude.{Option, Some, None, is_some}
use Rattle.std.specs.List.{list_all}
use Rattle.std.specs.Str.{bytes_eq}
use Rattle.std.proofs.lemmas.Bool.{and_parts}
use Rattle.iss_model.specs.declared.call.Notice.{Notice}
use Rattle.iss_model.specs.declared.limits.TheConstants.{GREATEST_AMOUNT, MOST_RECORDS}
use Rattle.iss_model.specs.declared.state.State.{State}
use Rattle.iss_model.specs.Currencies.{same_currency}
use Rattle.iss_model.specs.rules.Activity.{TxnNow, txn_named}
use Rattle.iss_model.specs.rules.CardReasons.{is_account_funded}
use Rattle.iss_model.specs.rules.Reasons.{is_some_with}
use Rattle.iss_model.proofs.Names.{one_name}
use Rattle.iss_state.proofs.docket.Lists.{Each, both_so, inside}
use Rattle.iss_state.proofs.effects.Finds.{found_passes}
use Rattle.iss_states.specs.Order.{AreInOrder}
use Rattle.iss_states.specs.Rebuilding.{rebuilt}
use Rattle.iss_well_formed.specs.Notices.{AreToldWell, do_notices_rise, is_told_well, names_call_if_void}
use Rattle.iss_well_formed.specs.Notices as told
use Rattle.iss_well_formed.specs.WellFormed.{HasFewNotices}
use Rattle.iss_noticed.specs.Addressed.{AreAddressed, is_of_gateway_txn, names_its_call, names_its_txn}
use Rattle.iss_noticed.specs.Commitments.{AmountsFit, most_of_records, tells_at_most}
use Rattle.iss_image.specs.Lookups.{cards_made, holder_in, purchases}
use Rattle.iss_image_lists.specs.Forms.{are_notices, has_room, is_call, is_held_by, is_notice, is_notice_method}
use Rattle.iss_image_forms.proofs.NoticesHolders.{IsHeldSo, holders_again}
use Rattle.iss_image_forms.proofs.NoticesNumbers.{call_in_form, made_few, method_in_form, notices_few}
use Rattle.iss_image_forms.proofs.TxnsCount.{up_to}
use Rattle.iss_image_forms.proofs.TxnsForm.{PassesBegun}
use Rattle.iss_image_forms.proofs.TxnsSums.{room_of_amount, room_of_count}

-- what holds of each holds of what is found
found_so : {A : Type 0} (P : A → Type 0) (p : A → Bool) (xs : List A) (x : A) → Each P xs → find p xs ≡ Some x → P x
found_so P p [] x h e = cc
found_so {A} P p (y ∷ xs) x h e = by (p y) e (λ f. found_so P p xs x h.1 f)
  where
    by : (b : Bool) → cond b (Some y) (find p xs) ≡ Some x → (find p xs ≡ Some x → P x) → P x
    by true e rest = subst P (inside e) h.0
    by false e rest = rest e

module _ (s : State) (order : AreInOrder s) (few : HasFewNotices s) where
  -- the user and the currency of a notice are those that events tell of its transaction
  held_in_form : (n : Notice) → names_its_txn (rebuilt s).holdings.txns n ≡ true → is_held_by n.user n.currency (holder_in s.events n.txn) ≡ true
  held_in_form n h = by (txn_named n.txn (rebuilt s).holdings.txns) refl h
    where
      by : (o : Option TxnNow) → txn_named n.txn (rebuilt s).holdings.txns ≡ o → is_some_with (λ now. is_of_gateway_txn n now.txn) o ≡ true
          → is_held_by n.user n.currency (holder_in s.events n.txn) ≡ true
      by None e g = cc
      by (Some now) e g =
          let token : now.txn.token ≡ n.txn = one_name now.txn.token n.txn (found_passes (λ (t : TxnNow). bytes_eq t.txn.token n.txn) (rebuilt s).holdings.txns now e) in
          let held : holder_in s.events now.txn.token ≡ Some (now.txn.user, now.txn.currency) =
          found_so (IsHeldSo (purchases s.events) (cards_made s.events)) (λ (t : TxnNow). bytes_eq t.txn.token n.txn) (rebuilt s).holdings.txns now (holders_again s order) e
          in
          let whole = and_parts (not (is_account_funded now.txn.funding) && bytes_eq now.txn.user n.user) (same_currency now.txn.currency n.currency) g in
          let user = and_parts (not (is_account_funded now.txn.funding)) (bytes_eq now.txn.user n.user) whole.0 in
          ap (λ (txn : List ℕ). is_held_by n.user n.currency (holder_in s.events txn)) (sym token) ∙ ap (is_held_by n.user n.currency) held
          ∙ both_so (bytes_eq now.txn.user n.user) (same_currency now.txn.currency n.currency) user.1 whole.1

  named_listed : (is_name : List ℕ → Bool) → PassesBegun is_name s
      → (n : Notice) → names_its_txn (rebuilt s).holdings.txns n ≡ true → is_name n.txn ≡ true
  named_listed is_name listed n h = listed n.txn (by (txn_named n.txn (rebuilt s).holdings.txns) h)
    where
      by : (o : Option TxnNow) → is_some_with (λ now. is_of_gateway_txn n now.txn) o ≡ true → is_some o ≡ true
      by None g = cc
      by (Some now) g = refl

  small : (n : ℕ) → nat_le n (most_of_records s.records) ≡ true → has_room 8 n ≡ true
  small n h = room_of_amount n (so n s.records (up_to n (most_of_records s.records) h) (up_to s.records MOST_RECORDS order.few))
    where
      so : (n m : ℕ) → n ≤ m * GREATEST_AMOUNT → m ≤ MOST_RECORDS → n ≤ MOST_RECORDS * GREATEST_AMOUNT
      so n m h k = omega (arith, h, k)

  one_in_form : (is_name : List ℕ → Bool) → PassesBegun is_name s
      → (n : Notice) → nat_le n.number s.made ≡ true → is_told_well n ≡ true → names_its_txn (rebuilt s).holdings.txns n ≡ true → names_its_call (rebuilt s).calls n ≡ true
      → tells_at_most (most_of_records s.records) n ≡ true → is_notice is_name (holder_in s.events) n ≡ true
  one_in_form is_name listed n number well txn call amounts =
      let parts = and_parts (nat_le n.amount (most_of_records s.records)) (nat_le n.gateway (most_of_records s.records)) amounts in
      let method = and_parts (told.is_notice_method n.method) (names_call_if_void n.method n.call) well in
      both_so (has_room 4 n.number && is_notice_method n.method && is_name n.txn && is_call n.call && has_room 8 n.amount && has_room 8 n.gateway)
      (is_held_by n.user n.currency (holder_in s.events n.txn))
      (both_so (has_room 4 n.number && is_notice_method n.method && is_name n.txn && is_call n.call && has_room 8 n.amount) (has_room 8 n.gateway)
      (both_so (has_room 4 n.number && is_notice_method n.method && is_name n.txn && is_call n.call) (has_room 8 n.amount)
      (both_so (has_room 4 n.number && is_notice_method n.method && is_name n.txn) (is_call n.call)
      (both_so (has_room 4 n.number && is_notice_method n.method) (is_name n.txn)
      (both_so (has_room 4 n.number) (is_notice_method n.method) (room_of_count n.number (through n.number s.made (up_to n.number s.made number) (made_few s order few)))
      (method_in_form n.method method.0))
      (named_listed is_name listed n txn)) (call_in_form s order few n.txn n.call call)) (small n.amount parts.0)) (small n.gateway parts.1))
      (held_in_form n txn)
    where
      through : (a b : ℕ) → a ≤ b → b ≤ 4 * MOST_RECORDS → a ≤ 4 * MOST_RECORDS
      through a b h k = omega (arith, h, k)

  all_in_form : (is_name : List ℕ → Bool) → PassesBegun is_name s
      → (last : ℕ) (ns : List Notice) → do_notices_rise last s.made ns ≡ true → list_all is_told_well ns ≡ true → list_all (names_its_txn (rebuilt s).holdings.txns) ns ≡ true
      → list_all (names_its_call (rebuilt s).calls) ns ≡ true → list_all (tells_at_most (most_of_records s.records)) ns ≡ true
      → list_all (is_notice is_name (holder_in s.events)) ns ≡ true
  all_in_form is_name listed last [] rise well txns calls amounts = refl
  all_in_form is_name listed last (n ∷ ns) rise well txns calls amounts =
      let rises = and_parts (nat_lt last n.number && nat_le n.number s.made) (do_notices_rise n.number s.made ns) rise in
      let number = and_parts (nat_lt last n.number) (nat_le n.number s.made) rises.0 in
      let wells = and_parts (is_told_well n) (list_all is_told_well ns) well in
      let its_txns = and_parts (names_its_txn (rebuilt s).holdings.txns n) (list_all (names_its_txn (rebuilt s).holdings.txns) ns) txns in
      let its_calls = and_parts (names_its_call (rebuilt s).calls n) (list_all (names_its_call (rebuilt s).calls) ns) calls in
      let tells = and_parts (tells_at_most (most_of_records s.records) n) (list_all (tells_at_most (most_of_records s.records)) ns) amounts in
      both_so (is_notice is_name (holder_in s.events) n) (list_all (is_notice is_name (holder_in s.events)) ns)
      (one_in_form is_name listed n number.1 wells.0 its_txns.0 its_calls.0 tells.0)
      (all_in_form is_name listed n.number ns rises.1 wells.1 its_txns.1 its_calls.1 tells.1)

-- Notices are in image form, for each test of names that transactions pass which were begun.
pub notices_in_form : (s : State) (is_name : List ℕ → Bool) → AreInOrder s → HasFewNotices s → AreToldWell s → AreAddressed s → AmountsFit s
    → PassesBegun is_name s → are_notices is_name (holder_in s.events) s.notices ≡ true
notices_in_form s is_name order few well addressed amounts listed =
    both_so (has_room 4 (length s.notices)) (list_all (is_notice is_name (holder_in s.events)) s.notices)
    (room_of_count (length s.notices) (through (length s.notices) s.made (notices_few s.made s.notices well.numbers) (made_few s order few)))
    (all_in_form s order few is_name listed 0 s.notices well.numbers well.each addressed.txns addressed.calls amounts.told)
  where
    through : (a b : ℕ) → a ≤ b → b ≤ 4 * MOST_RECORDS → a ≤ 4 * MOST_RECORDS
    through a b h k = omega (arith, h, k)
