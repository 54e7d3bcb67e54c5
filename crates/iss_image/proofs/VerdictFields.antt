-- The verdict on an event: what is taken was spelled so, and what is spelled so is taken.
use Rattle.std.proofs.Common.{◌≡◌, ℕ, Bool, true, false, nat_eq, List, [], ◌∷◌, ◌++◌, Option, Some, None, refl, sym, ap, subst, ◌∙◌}
use Rattle.std.specs.List.{list_all}
use Rattle.std.proofs.lemmas.Bool.{and_parts, eqb-true}
use Rattle.std.proofs.lemmas.Option.{same_Some}
use Rattle.iss_model.proofs.Accounts.{one_currency}
use Rattle.iss_model.specs.declared.currency.Currency.{Currency}
use Rattle.iss_model.specs.declared.currency.Currency.TheVariants as currency
use Rattle.iss_model.specs.declared.decision.Reason.{Reason}
use Rattle.iss_model.specs.declared.decision.Reason.TheVariants as reason
use Rattle.iss_model.specs.declared.decision.Verdict.{Verdict}
use Rattle.iss_model.specs.declared.decision.Verdict.TheVariants as verdict
use Rattle.iss_model.specs.declared.input.Input.{Input}
use Rattle.iss_model.specs.declared.input.Input.TheVariants as input
use Rattle.iss_model.specs.declared.setting.CardState.{CardState}
use Rattle.iss_model.specs.declared.setting.Moved.TheVariants as moved
use Rattle.iss_model.specs.declared.setting.UserState.{UserState}
use Rattle.iss_model.specs.Currencies.{iso_number, same_currency}
use Rattle.iss_model.specs.Inputs.{card_state_number, user_state_number}
use Rattle.iss_model.specs.Numbers.{of_number, card_state_numbered, user_state_numbered}
use Rattle.iss_model.specs.texts.Spelling.{AreBytes, number_bytes}
use Rattle.iss_codec.specs.Taking.{take_byte, take_number, take_numbered, take_named}
use Rattle.iss_codec.proofs.TakenFields.{by_byte, bind_some, either_way, IsSplit, IsField, split_on}
use Rattle.iss_codec.proofs.TakenParts.{card_state_field, user_state_field}
use Rattle.iss_image.specs.Images.{reason_number, reason_details, reason_bytes, verdict_bytes}
use Rattle.iss_image.specs.TakingEvents.{plain_reasons, reason_numbered, plain_reason, take_card_states, take_user_states, take_refused_move, currency_of_event, take_part_approved, take_part_of, take_reason_by, take_reason, take_declined, take_verdict_by, take_verdict}
use Rattle.iss_image_lists.specs.Forms.{has_room}
use Rattle.iss_image.specs.Forms.{moves_card, moves_user, is_currency, is_reason, is_verdict}
use Rattle.iss_image.proofs.Steps.{again_step, byte_before, at_byte}
use Rattle.iss_image.proofs.Steps.{u64_field}

-- reasons that their numbers say whole

-- a reason that says nothing besides its number
abbrev is_plain : Reason → Bool
is_plain (reason.MoveCard from to) = false
is_plain (reason.MoveUser from to) = false
is_plain (reason.Control name) = false
is_plain (reason.StandInLimit name) = false
is_plain _ = true

-- a thing that is found by its number has it, and is of a form that all of them have
found : {A : Type 0} (form : A → Bool) (number : A → ℕ) (things : List A) (n : ℕ) (x : A) → list_all form things ≡ true → of_number number things n ≡ Some x
    → (n ≡ number x) × (form x ≡ true)
found form number [] n x h e = absurd cc
found form number (thing ∷ things) n x h e =
    let p = and_parts (form thing) (list_all form things) h in
    either_way _ _ _ (Some x) (λ is e. (sym (eqb-true _ _ is) ∙ ap number (same_Some thing x e), sym (ap form (same_Some thing x e)) ∙ p.0)) (found form number things n x p.1) e

plain_there : (r : Reason) → is_plain r ≡ true → reason_numbered (reason_number r) ≡ Some r
plain_there (reason.MoveCard from to) h = absurd cc
plain_there (reason.MoveUser from to) h = absurd cc
plain_there (reason.Control name) h = absurd cc
plain_there (reason.StandInLimit name) h = absurd cc
plain_there _ h = refl

same_itself : (c : Currency) → same_currency c c ≡ true
same_itself currency.Usd = refl
same_itself currency.Eur = refl
same_itself currency.Gbp = refl
same_itself currency.Cad = refl
same_itself currency.Aud = refl
same_itself currency.Jpy = refl
same_itself currency.Kwd = refl

pub same_one : (a b : Currency) → same_currency a b ≡ true → a ≡ b
same_one a b h = one_currency a b (eqb-true (iso_number a) (iso_number b) h)

-- `name` is the field of a token, however it is spelled
module _ {take_name : List ℕ → Option (List ℕ × List ℕ)} {name_bytes : List ℕ → List ℕ} {is_name : List ℕ → Bool} (name : IsField take_name name_bytes is_name) where
  -- reasons

  -- what was taken is a reason that this event may have
  abbrev IsReasonTaken : Input → List ℕ → Reason × List ℕ → Type 0
  IsReasonTaken i bytes x = IsSplit bytes (reason_bytes name_bytes x.0) x.1 × (is_reason is_name i x.0 ≡ true)

  plain_details : (r : Reason) → is_plain r ≡ true → reason_details name_bytes r ≡ []
  plain_details (reason.MoveCard from to) h = absurd cc
  plain_details (reason.MoveUser from to) h = absurd cc
  plain_details (reason.Control name) h = absurd cc
  plain_details (reason.StandInLimit name) h = absurd cc
  plain_details _ h = refl

  plain_form : (i : Input) (r : Reason) → is_plain r ≡ true → is_reason is_name i r ≡ true
  plain_form i (reason.MoveCard from to) h = absurd cc
  plain_form i (reason.MoveUser from to) h = absurd cc
  plain_form i (reason.Control name) h = absurd cc
  plain_form i (reason.StandInLimit name) h = absurd cc
  plain_form i _ h = refl

  plain_takes : (i : Input) (byte : ℕ) (bytes : List ℕ) (x : Reason × List ℕ) → AreBytes bytes → plain_reason byte bytes ≡ Some x → IsReasonTaken i (byte ∷ bytes) x
  plain_takes i byte bytes x fits e =
      let r = bind_some (reason_numbered byte) _ x e in
      let f = found is_plain reason_number plain_reasons byte r.0 refl r.1 in
      subst (λ (y : Reason × List ℕ). IsReasonTaken i (byte ∷ bytes) y) (same_Some (r.0, bytes) x r.2)
      (record { parts = rw (plain_details r.0 f.1) (ap (λ (n : ℕ). n ∷ bytes) f.0); fits = fits }, plain_form i r.0 f.1)

  card_states_take : (token card : List ℕ) (to : CardState) (bytes : List ℕ) (x : Reason × List ℕ) → AreBytes bytes → take_card_states bytes ≡ Some x
      → IsReasonTaken (input.Move token (moved.Card card to)) (9 ∷ bytes) x
  unfolding take_card_states
  card_states_take token card to bytes x fits e =
      let a = bind_some (take_numbered card_state_numbered bytes) _ x e in
      let b = bind_some (take_numbered card_state_numbered a.0.1) _ x a.2 in
      let ta = card_state_field.takes bytes a.0 fits a.1 in
      let tb = card_state_field.takes a.0.1 b.0 ta.0.fits b.1 in
      subst (λ (y : Reason × List ℕ). IsReasonTaken (input.Move token (moved.Card card to)) (9 ∷ bytes) y) (same_Some (reason.MoveCard a.0.0 b.0.0, b.0.1) x b.2)
      (byte_before 9 bytes _ b.0.1 (split_on bytes _ a.0.1 _ b.0.1 ta.0 tb.0), refl)

  user_states_take : (token user : List ℕ) (to : UserState) (bytes : List ℕ) (x : Reason × List ℕ) → AreBytes bytes → take_user_states bytes ≡ Some x
      → IsReasonTaken (input.Move token (moved.User user to)) (9 ∷ bytes) x
  unfolding take_user_states
  user_states_take token user to bytes x fits e =
      let a = bind_some (take_numbered user_state_numbered bytes) _ x e in
      let b = bind_some (take_numbered user_state_numbered a.0.1) _ x a.2 in
      let ta = user_state_field.takes bytes a.0 fits a.1 in
      let tb = user_state_field.takes a.0.1 b.0 ta.0.fits b.1 in
      subst (λ (y : Reason × List ℕ). IsReasonTaken (input.Move token (moved.User user to)) (9 ∷ bytes) y) (same_Some (reason.MoveUser a.0.0 b.0.0, b.0.1) x b.2)
      (byte_before 9 bytes _ b.0.1 (split_on bytes _ a.0.1 _ b.0.1 ta.0 tb.0), refl)

  move_takes : (i : Input) (bytes : List ℕ) (x : Reason × List ℕ) → AreBytes bytes → take_refused_move i bytes ≡ Some x → IsReasonTaken i (9 ∷ bytes) x
  move_takes (input.Move token (moved.Card card to)) bytes x fits e = card_states_take token card to bytes x fits e
  move_takes (input.Move token (moved.User user to)) bytes x fits e = user_states_take token user to bytes x fits e
  move_takes _ bytes x fits e = absurd cc

  named_takes : (i : Input) (make : List ℕ → Reason) (number : ℕ) → ((t : List ℕ) → reason_bytes name_bytes (make t) ≡ number ∷ name_bytes t) → ((t : List ℕ) → is_reason is_name i (make t) ≡ is_name t)
      → (bytes : List ℕ) (x : Reason × List ℕ) → AreBytes bytes → take_named take_name make bytes ≡ Some x → IsReasonTaken i (number ∷ bytes) x
  unfolding take_named
  named_takes i make number text form bytes x fits e =
      let a = bind_some (take_name bytes) _ x e in
      let t = name.takes bytes a.0 fits a.1 in
      let s : IsSplit (number ∷ bytes) (reason_bytes name_bytes (make a.0.0)) a.0.1 =
      subst (λ (l : List ℕ). IsSplit (number ∷ bytes) l a.0.1) (sym (text a.0.0)) (byte_before number bytes _ a.0.1 t.0) in
      subst (λ (y : Reason × List ℕ). IsReasonTaken i (number ∷ bytes) y) (same_Some (make a.0.0, a.0.1) x a.2) (s, form a.0.0 ∙ t.1)

  reason_by_takes : (i : Input) (byte : ℕ) (bytes : List ℕ) (x : Reason × List ℕ) → AreBytes bytes → take_reason_by take_name i byte bytes ≡ Some x
      → IsReasonTaken i (byte ∷ bytes) x
  reason_by_takes i byte bytes x fits e =
      either_way _ _ _ (Some x) (λ is e. at_byte (reason_bytes name_bytes) (is_reason is_name i) byte 9 bytes x is (move_takes i bytes x fits e)) (
      either_way _ _ _ (Some x) (λ is e. at_byte (reason_bytes name_bytes) (is_reason is_name i) byte 16 bytes x is (named_takes i reason.Control 16 (λ t. refl) (λ t. refl) bytes x fits e)) (
      either_way _ _ _ (Some x) (λ is e. at_byte (reason_bytes name_bytes) (is_reason is_name i) byte 23 bytes x is (named_takes i reason.StandInLimit 23 (λ t. refl) (λ t. refl) bytes x fits e)) (
      plain_takes i byte bytes x fits))) e

  card_states_again : (i : Input) (from to : CardState) (rest : List ℕ) → moves_card i ≡ true
      → take_refused_move i (card_state_number from ∷ card_state_number to ∷ rest) ≡ Some (reason.MoveCard from to, rest)
  unfolding take_card_states
  card_states_again (input.Move token (moved.Card card s)) from to rest h =
      again_step card_state_field from _ _ _ refl (again_step card_state_field to _ _ _ refl refl)
  card_states_again _ from to rest h = absurd cc

  user_states_again : (i : Input) (from to : UserState) (rest : List ℕ) → moves_user i ≡ true
      → take_refused_move i (user_state_number from ∷ user_state_number to ∷ rest) ≡ Some (reason.MoveUser from to, rest)
  unfolding take_user_states
  user_states_again (input.Move token (moved.User user s)) from to rest h =
      again_step user_state_field from _ _ _ refl (again_step user_state_field to _ _ _ refl refl)
  user_states_again _ from to rest h = absurd cc

  reason_again : (i : Input) (r : Reason) (rest : List ℕ) → is_reason is_name i r ≡ true → take_reason take_name i (reason_bytes name_bytes r ++ rest) ≡ Some (r, rest)
  unfolding take_reason take_byte take_named
  reason_again i (reason.MoveCard from to) rest h = card_states_again i from to rest h
  reason_again i (reason.MoveUser from to) rest h = user_states_again i from to rest h
  reason_again i (reason.Control control) rest h = again_step name control _ _ _ h refl
  reason_again i (reason.StandInLimit set) rest h = again_step name set _ _ _ h refl
  reason_again i _ rest h = refl

  pub reason_field : (i : Input) → IsField (take_reason take_name i) (reason_bytes name_bytes) (is_reason is_name i)
  unfolding take_reason
  reason_field i =
      record {
        takes = by_byte (take_reason_by take_name i) (reason_bytes name_bytes) (is_reason is_name i) (reason_by_takes i);
        again = reason_again i;
      }

  -- verdicts

  -- what was taken is a verdict that this event may have
  abbrev IsVerdictTaken : Input → List ℕ → Option Verdict × List ℕ → Type 0
  IsVerdictTaken i bytes x = IsSplit bytes (verdict_bytes name_bytes x.0) x.1 × (is_verdict is_name i x.0 ≡ true)

  plain_verdict : (i : Input) (n : ℕ) (v : Option Verdict) (byte : ℕ) (bytes : List ℕ) (x : Option Verdict × List ℕ) → AreBytes bytes → verdict_bytes name_bytes v ≡ n ∷ []
      → is_verdict is_name i v ≡ true → nat_eq byte n ≡ true → Some (v, bytes) ≡ Some x → IsVerdictTaken i (byte ∷ bytes) x
  plain_verdict i n v byte bytes x fits text form is e =
      at_byte (verdict_bytes name_bytes) (is_verdict is_name i) byte n bytes x is
      (subst (λ (y : Option Verdict × List ℕ). IsVerdictTaken i (n ∷ bytes) y) (same_Some (v, bytes) x e) (record { parts = rw text refl; fits = fits }, form))

  declined_takes : (i : Input) (bytes : List ℕ) (x : Option Verdict × List ℕ) → AreBytes bytes → take_declined take_name i bytes ≡ Some x → IsVerdictTaken i (3 ∷ bytes) x
  unfolding take_declined
  declined_takes i bytes x fits e =
      let r = bind_some (take_reason take_name i bytes) _ x e in
      let t = (reason_field i).takes bytes r.0 fits r.1 in
      subst (λ (y : Option Verdict × List ℕ). IsVerdictTaken i (3 ∷ bytes) y) (same_Some (Some (verdict.Declined r.0.0), r.0.1) x r.2)
      (byte_before 3 bytes _ r.0.1 t.0, t.1)

  part_takes : (i : Input) (own : Option Currency) → currency_of_event i ≡ own → (bytes : List ℕ) (x : Option Verdict × List ℕ) → AreBytes bytes → take_part_of own bytes ≡ Some x
      → IsVerdictTaken i (4 ∷ bytes) x
  unfolding take_part_approved
  part_takes i None is bytes x fits e = absurd cc
  part_takes i (Some own) is bytes x fits e =
      let n = bind_some (take_number 8 bytes) _ x e in
      let t = u64_field.takes bytes n.0 fits n.1 in
      subst (λ (y : Option Verdict × List ℕ). IsVerdictTaken i (4 ∷ bytes) y) (same_Some (Some (verdict.Partial own n.0.0), n.0.1) x n.2)
      (byte_before 4 bytes _ n.0.1 t.0, rw (is, same_itself own, t.1) refl)

  verdict_by_takes : (i : Input) (byte : ℕ) (bytes : List ℕ) (x : Option Verdict × List ℕ) → AreBytes bytes → take_verdict_by take_name i byte bytes ≡ Some x
      → IsVerdictTaken i (byte ∷ bytes) x
  verdict_by_takes i byte bytes x fits e =
      either_way _ _ _ (Some x) (λ is e. plain_verdict i 0 None byte bytes x fits refl refl is e) (
      either_way _ _ _ (Some x) (λ is e. plain_verdict i 1 (Some verdict.Done) byte bytes x fits refl refl is e) (
      either_way _ _ _ (Some x) (λ is e. plain_verdict i 2 (Some verdict.Approved) byte bytes x fits refl refl is e) (
      either_way _ _ _ (Some x) (λ is e. at_byte (verdict_bytes name_bytes) (is_verdict is_name i) byte 3 bytes x is (declined_takes i bytes x fits e)) (
      either_way _ _ _ (Some x) (λ is e. at_byte (verdict_bytes name_bytes) (is_verdict is_name i) byte 4 bytes x is (part_takes i (currency_of_event i) refl bytes x fits e)) (
      λ e. absurd cc))))) e

  part_again : (own : Option Currency) (c : Currency) (amount : ℕ) (rest : List ℕ) → is_currency c own ≡ true → has_room 8 amount ≡ true
      → take_part_of own (number_bytes 8 amount ++ rest) ≡ Some (Some (verdict.Partial c amount), rest)
  unfolding take_part_approved
  part_again None c amount rest h k = absurd cc
  part_again (Some own) c amount rest h k =
      again_step u64_field amount _ _ _ k (ap (λ (currency : Currency). Some (Some (verdict.Partial currency amount), rest)) (same_one own c h))

  verdict_again : (i : Input) (v : Option Verdict) (rest : List ℕ) → is_verdict is_name i v ≡ true → take_verdict take_name i (verdict_bytes name_bytes v ++ rest) ≡ Some (v, rest)
  unfolding take_verdict take_byte take_declined
  verdict_again i None rest h = refl
  verdict_again i (Some verdict.Done) rest h = refl
  verdict_again i (Some verdict.Approved) rest h = refl
  verdict_again i (Some (verdict.Declined r)) rest h = again_step (reason_field i) r _ _ _ h refl
  verdict_again i (Some (verdict.Partial c amount)) rest h =
      let p = and_parts (is_currency c (currency_of_event i)) (has_room 8 amount) h in part_again (currency_of_event i) c amount rest p.0 p.1

  pub verdict_field : (i : Input) → IsField (take_verdict take_name i) (verdict_bytes name_bytes) (is_verdict is_name i)
  unfolding take_verdict
  verdict_field i =
      record {
        takes = by_byte (take_verdict_by take_name i) (verdict_bytes name_bytes) (is_verdict is_name i) (verdict_by_takes i);
        again = verdict_again i;
      }
