-- Each kind of input: what is taken was spelled so, and is of its form.
use Rattle.std.proofs.Common.{◌≡◌, ℕ, ℤ, Bool, true, false, cond, nat_eq, List, [], ◌++◌, Option, Some, refl, sym, subst, ◌∙◌, append_assoc}
use Rattle.std.specs.List.{list_all}
use Rattle.std.proofs.lemmas.Bool.{and_parts, eqb-true}
use Rattle.std.proofs.lemmas.Option.{same_Some}
use Rattle.std.proofs.lemmas.List.Folds.{list_all-append}
use Rattle.iss_model.specs.declared.currency.Currency.{Currency}
use Rattle.iss_model.specs.declared.input.Input.{Input}
use Rattle.iss_model.specs.declared.input.Input.TheVariants as input
use Rattle.iss_model.specs.Forms.{is_amount, is_scope}
use Rattle.iss_model.specs.texts.Spelling.{AreBytes, number_bytes, currency_bytes, amount_bytes, spelled_fields, spelled_operation, kind_number, has_fields, is_utc, association_tokens, scope_tokens}
use Rattle.iss_codec.specs.Taking.{◌>>=◌}
use Rattle.iss_codec.specs.TakingRecords.{take_user, take_card, take_move, take_product, take_group, take_control, take_set, take_switch, take_operation, take_authorization, take_clearing, take_answer, take_part, take_ack, take_fields}
use Rattle.iss_codec.proofs.TakenFields.{bind_some, either_way, IsSplit, IsField, split_on}
use Rattle.iss_codec.proofs.TakenParts.{amount_field, limit_field, mcc_field, id_field, timeout_field, hold_time_field, funding_field, window_field, outcome_field, whole, currency_field, flag_field, limits_field, offset_form, offset_field, offset_in_form, far_from_utc, mccs_field}
use Rattle.iss_codec.proofs.TakenChoices.{moved_field, association_field, scope_field}

-- what was taken is an input of this kind, in form, and was spelled so
pub record IsInput (name_bytes : List ℕ → List ℕ) (is_name : List ℕ → Bool) (number : ℕ) (bytes : List ℕ) (x : Input × List ℕ) : Type 0 where
  pub split : IsSplit bytes (spelled_fields name_bytes x.0) x.1
  pub form : has_fields is_name x.0 ≡ true
  pub kind : kind_number x.0 ≡ number

-- A field taken after others, with what follows from it and the steps that are left.
step : {A B : Type 0} {taker : List ℕ → Option (A × List ℕ)} {text : A → List ℕ} {form : A → Bool} {P : Type 0} → IsField taker text form
    → (whole prefix bytes : List ℕ) (f : A × List ℕ → Option B) (y : B) → IsSplit whole prefix bytes → (taker bytes >>= f) ≡ Some y
    → ((value : A) (rest : List ℕ) → IsSplit whole (prefix ++ text value) rest → form value ≡ true → f (value, rest) ≡ Some y → P) → P
step {taker = taker} field whole prefix bytes f y before e next =
    let x = bind_some (taker bytes) f y e in
    let t = field.takes bytes x.0 before.fits x.1 in
    next x.0.0 x.0.1 (split_on whole prefix bytes _ x.0.1 before t.0) t.1 x.2

start : (bytes : List ℕ) → AreBytes bytes → IsSplit bytes [] bytes
start bytes fits = record { parts = refl; fits = fits }

-- `name` is the field of a token, however it is spelled
module _ {take_name : List ℕ → Option (List ℕ × List ℕ)} {name_bytes : List ℕ → List ℕ} {is_name : List ℕ → Bool} (name : IsField take_name name_bytes is_name) where
  user_takes : (bytes : List ℕ) (x : Input × List ℕ) → AreBytes bytes → take_user take_name bytes ≡ Some x → IsInput name_bytes is_name 1 bytes x
  unfolding take_user
  user_takes bytes x fits e =
      step name bytes [] bytes _ x (start bytes fits) e (λ token r1 s1 h1 e1.
      step name bytes _ r1 _ x s1 e1 (λ user r2 s2 h2 e2.
      subst (IsInput name_bytes is_name 1 bytes) (same_Some _ x e2) (record { split = s2; form = rw (h1, h2) refl; kind = refl })))

  card_takes : (bytes : List ℕ) (x : Input × List ℕ) → AreBytes bytes → take_card take_name bytes ≡ Some x → IsInput name_bytes is_name 2 bytes x
  unfolding take_card
  card_takes bytes x fits e =
      step name bytes [] bytes _ x (start bytes fits) e (λ token r1 s1 h1 e1.
      step name bytes _ r1 _ x s1 e1 (λ card r2 s2 h2 e2.
      step name bytes _ r2 _ x s2 e2 (λ user r3 s3 h3 e3.
      step name bytes _ r3 _ x s3 e3 (λ product r4 s4 h4 e4.
      step flag_field bytes _ r4 _ x s4 e4 (λ active r5 s5 h5 e5.
      subst (IsInput name_bytes is_name 2 bytes) (same_Some _ x e5) (record { split = s5; form = rw (h1, h2, h3, h4) refl; kind = refl }))))))

  move_takes : (bytes : List ℕ) (x : Input × List ℕ) → AreBytes bytes → take_move take_name bytes ≡ Some x → IsInput name_bytes is_name 3 bytes x
  unfolding take_move
  move_takes bytes x fits e =
      step name bytes [] bytes _ x (start bytes fits) e (λ token r1 s1 h1 e1.
      step (moved_field name) bytes _ r1 _ x s1 e1 (λ who r2 s2 h2 e2.
      subst (IsInput name_bytes is_name 3 bytes) (same_Some _ x e2) (record { split = s2; form = rw (h1, h2) refl; kind = refl })))

  product_takes : (bytes : List ℕ) (x : Input × List ℕ) → AreBytes bytes → take_product take_name bytes ≡ Some x → IsInput name_bytes is_name 4 bytes x
  unfolding take_product
  product_takes bytes x fits e =
      step name bytes [] bytes _ x (start bytes fits) e (λ token r1 s1 h1 e1.
      step name bytes _ r1 _ x s1 e1 (λ product r2 s2 h2 e2.
      step currency_field bytes _ r2 _ x s2 e2 (λ currency r3 s3 h3 e3.
      step funding_field bytes _ r3 _ x s3 e3 (λ funding r4 s4 h4 e4.
      step timeout_field bytes _ r4 _ x s4 e4 (λ timeout_ms r5 s5 h5 e5.
      step hold_time_field bytes _ r5 _ x s5 e5 (λ hold_ms r6 s6 h6 e6.
      subst (IsInput name_bytes is_name 4 bytes) (same_Some _ x e6) (record { split = s6; form = rw (h1, h2, h5, h6) refl; kind = refl })))))))

  group_takes : (bytes : List ℕ) (x : Input × List ℕ) → AreBytes bytes → take_group take_name bytes ≡ Some x → IsInput name_bytes is_name 5 bytes x
  unfolding take_group
  group_takes bytes x fits e =
      step name bytes [] bytes _ x (start bytes fits) e (λ token r1 s1 h1 e1.
      step name bytes _ r1 _ x s1 e1 (λ group r2 s2 h2 e2.
      step mccs_field bytes _ r2 _ x s2 e2 (λ codes r3 s3 h3 e3.
      subst (IsInput name_bytes is_name 5 bytes) (same_Some _ x e3) (record { split = s3; form = rw (h1, h2, h3) refl; kind = refl }))))

  set_takes : (bytes : List ℕ) (x : Input × List ℕ) → AreBytes bytes → take_set take_name bytes ≡ Some x → IsInput name_bytes is_name 7 bytes x
  unfolding take_set
  set_takes bytes x fits e =
      step name bytes [] bytes _ x (start bytes fits) e (λ token r1 s1 h1 e1.
      step name bytes _ r1 _ x s1 e1 (λ set r2 s2 h2 e2.
      step name bytes _ r2 _ x s2 e2 (λ product r3 s3 h3 e3.
      step currency_field bytes _ r3 _ x s3 e3 (λ currency r4 s4 h4 e4.
      step flag_field bytes _ r4 _ x s4 e4 (λ connection r5 s5 h5 e5.
      step flag_field bytes _ r5 _ x s5 e5 (λ timeout r6 s6 h6 e6.
      step flag_field bytes _ r6 _ x s6 e6 (λ application r7 s7 h7 e7.
      step limit_field bytes _ r7 _ x s7 e7 (λ max r8 s8 h8 e8.
      step limit_field bytes _ r8 _ x s8 e8 (λ day_limit r9 s9 h9 e9.
      step flag_field bytes _ r9 _ x s9 e9 (λ active r10 s10 h10 e10.
      subst (IsInput name_bytes is_name 7 bytes) (same_Some _ x e10) (record { split = s10; form = rw (h1, h2, h3, h8, h9) refl; kind = refl })))))))))))

  switch_takes : (bytes : List ℕ) (x : Input × List ℕ) → AreBytes bytes → take_switch take_name bytes ≡ Some x → IsInput name_bytes is_name 8 bytes x
  unfolding take_switch
  switch_takes bytes x fits e =
      step name bytes [] bytes _ x (start bytes fits) e (λ token r1 s1 h1 e1.
      step name bytes _ r1 _ x s1 e1 (λ product r2 s2 h2 e2.
      step flag_field bytes _ r2 _ x s2 e2 (λ on r3 s3 h3 e3.
      subst (IsInput name_bytes is_name 8 bytes) (same_Some _ x e3) (record { split = s3; form = rw (h1, h2) refl; kind = refl }))))

  authorization_takes : (number : ℕ) (partial : Bool) → cond partial 20 10 ≡ number
      → (bytes : List ℕ) (x : Input × List ℕ) → AreBytes bytes → take_authorization take_name partial bytes ≡ Some x → IsInput name_bytes is_name number bytes x
  unfolding take_authorization
  authorization_takes number partial is_kind bytes x fits e =
      step name bytes [] bytes _ x (start bytes fits) e (λ token r1 s1 h1 e1.
      step name bytes _ r1 _ x s1 e1 (λ card r2 s2 h2 e2.
      step currency_field bytes _ r2 _ x s2 e2 (λ currency r3 s3 h3 e3.
      step amount_field bytes _ r3 _ x s3 e3 (λ amount r4 s4 h4 e4.
      step mcc_field bytes _ r4 _ x s4 e4 (λ mcc r5 s5 h5 e5.
      step name bytes _ r5 _ x s5 e5 (λ mid r6 s6 h6 e6.
      subst (IsInput name_bytes is_name number bytes) (same_Some _ x e6) (record { split = s6; form = rw (h1, h2, h4, h5, h6) refl; kind = is_kind })))))))

  clearing_takes : (bytes : List ℕ) (x : Input × List ℕ) → AreBytes bytes → take_clearing take_name bytes ≡ Some x → IsInput name_bytes is_name 13 bytes x
  unfolding take_clearing
  clearing_takes bytes x fits e =
      step name bytes [] bytes _ x (start bytes fits) e (λ token r1 s1 h1 e1.
      step name bytes _ r1 _ x s1 e1 (λ txn r2 s2 h2 e2.
      step currency_field bytes _ r2 _ x s2 e2 (λ currency r3 s3 h3 e3.
      step amount_field bytes _ r3 _ x s3 e3 (λ amount r4 s4 h4 e4.
      step flag_field bytes _ r4 _ x s4 e4 (λ last r5 s5 h5 e5.
      subst (IsInput name_bytes is_name 13 bytes) (same_Some _ x e5) (record { split = s5; form = rw (h1, h2, h4) refl; kind = refl }))))))

  answer_takes : (bytes : List ℕ) (x : Input × List ℕ) → AreBytes bytes → take_answer bytes ≡ Some x → IsInput name_bytes is_name 15 bytes x
  unfolding take_answer
  answer_takes bytes x fits e =
      step id_field bytes [] bytes _ x (start bytes fits) e (λ call r1 s1 h1 e1.
      step outcome_field bytes _ r1 _ x s1 e1 (λ outcome r2 s2 h2 e2.
      let w = whole outcome h2 in
      subst (IsInput name_bytes is_name 15 bytes) (same_Some _ x e2) (record {
        split = subst (λ (t : List ℕ). IsSplit bytes (number_bytes 4 call ++ t) r2) (sym w.bytes) s2;
        form = rw (h1, w.form) refl;
        kind = w.kind;
      })))

  part_takes : (bytes : List ℕ) (x : Input × List ℕ) → AreBytes bytes → take_part bytes ≡ Some x → IsInput name_bytes is_name 19 bytes x
  unfolding take_part
  part_takes bytes x fits e =
      step id_field bytes [] bytes _ x (start bytes fits) e (λ call r1 s1 h1 e1.
      step currency_field bytes _ r1 _ x s1 e1 (λ currency r2 s2 h2 e2.
      step amount_field bytes _ r2 _ x s2 e2 (λ amount r3 s3 h3 e3.
      subst (IsInput name_bytes is_name 19 bytes) (same_Some _ x e3) (record {
        split = subst (λ (t : List ℕ). IsSplit bytes t r3) (append_assoc (number_bytes 4 call) (currency_bytes currency) (amount_bytes amount)) s3;
        form = rw (h1, h3) refl;
        kind = refl;
      }))))

  ack_takes : (bytes : List ℕ) (x : Input × List ℕ) → AreBytes bytes → take_ack bytes ≡ Some x → IsInput name_bytes is_name 16 bytes x
  unfolding take_ack
  ack_takes bytes x fits e =
      step id_field bytes [] bytes _ x (start bytes fits) e (λ notice r1 s1 h1 e1.
      subst (IsInput name_bytes is_name 16 bytes) (same_Some _ x e1) (record { split = s1; form = rw h1 refl; kind = refl }))

  -- a control has its limits in one piece
  control_takes : (number : ℕ) (local : Bool) → ((offset : ℤ) → offset_form local offset ≡ true → cond (is_utc offset) 6 18 ≡ number)
      → (bytes : List ℕ) (x : Input × List ℕ) → AreBytes bytes → take_control take_name local bytes ≡ Some x → IsInput name_bytes is_name number bytes x
  unfolding take_control
  control_takes number local is_kind bytes x fits e =
      step name bytes [] bytes _ x (start bytes fits) e (λ token r1 s1 h1 e1.
      step name bytes _ r1 _ x s1 e1 (λ control r2 s2 h2 e2.
      step currency_field bytes _ r2 _ x s2 e2 (λ currency r3 s3 h3 e3.
      step window_field bytes _ r3 _ x s3 e3 (λ window r4 s4 h4 e4.
      step (limits_field window) bytes _ r4 _ x s4 e4 (λ limits r5 s5 h5 e5.
      step (association_field name) bytes _ r5 _ x s5 e5 (λ association r6 s6 h6 e6.
      step (scope_field name) bytes _ r6 _ x s6 e6 (λ scope r7 s7 h7 e7.
      step flag_field bytes _ r7 _ x s7 e7 (λ active r8 s8 h8 e8.
      step (offset_field local) bytes _ r8 _ x s8 e8 (λ offset r9 s9 h9 e9.
      let p = and_parts (is_scope scope) (list_all is_name (scope_tokens scope)) h7 in
      let tokens : list_all is_name (association_tokens association ++ scope_tokens scope) ≡ true =
      list_all-append is_name (association_tokens association) (scope_tokens scope) ∙ rw (h6, p.1) refl in
      subst (IsInput name_bytes is_name number bytes) (same_Some _ x e9) (record {
        split = s9;
        form = rw (h5, p.0, offset_in_form local offset h9, h1, h2, tokens) refl;
        kind = is_kind offset h9;
      }))))))))))

  utc_takes : (bytes : List ℕ) (x : Input × List ℕ) → AreBytes bytes → take_control take_name false bytes ≡ Some x → IsInput name_bytes is_name 6 bytes x
  utc_takes = control_takes 6 false (λ offset h. rw h refl)

  local_takes : (bytes : List ℕ) (x : Input × List ℕ) → AreBytes bytes → take_control take_name true bytes ≡ Some x → IsInput name_bytes is_name 18 bytes x
  local_takes = control_takes 18 true (λ offset h. rw (far_from_utc offset h) refl)

  operation_takes : (number : ℕ) (make : List ℕ → List ℕ → Currency → ℕ → Input) → ((t a : List ℕ) (c : Currency) (n : ℕ) → spelled_fields name_bytes (make t a c n) ≡ spelled_operation name_bytes t a c n)
      → ((t a : List ℕ) (c : Currency) (n : ℕ) → is_name t ≡ true → is_name a ≡ true → is_amount n ≡ true → has_fields is_name (make t a c n) ≡ true)
      → ((t a : List ℕ) (c : Currency) (n : ℕ) → kind_number (make t a c n) ≡ number)
      → (bytes : List ℕ) (x : Input × List ℕ) → AreBytes bytes → take_operation take_name make bytes ≡ Some x → IsInput name_bytes is_name number bytes x
  unfolding take_operation
  operation_takes number make is_text is_form is_kind bytes x fits e =
      step name bytes [] bytes _ x (start bytes fits) e (λ token r1 s1 h1 e1.
      step name bytes _ r1 _ x s1 e1 (λ about r2 s2 h2 e2.
      step currency_field bytes _ r2 _ x s2 e2 (λ currency r3 s3 h3 e3.
      step amount_field bytes _ r3 _ x s3 e3 (λ amount r4 s4 h4 e4.
      subst (IsInput name_bytes is_name number bytes) (same_Some _ x e4) (record {
        split = subst (λ (t : List ℕ). IsSplit bytes t r4) (sym (is_text token about currency amount)) s4;
        form = is_form token about currency amount h1 h2 h4;
        kind = is_kind token about currency amount;
      })))))

  load_takes : (bytes : List ℕ) (x : Input × List ℕ) → AreBytes bytes → take_operation take_name input.Load bytes ≡ Some x → IsInput name_bytes is_name 9 bytes x
  load_takes = operation_takes 9 input.Load (λ t a c n. refl) (λ t a c n h k m. rw (h, k, m) refl) (λ t a c n. refl)

  increment_takes : (bytes : List ℕ) (x : Input × List ℕ) → AreBytes bytes → take_operation take_name input.Increment bytes ≡ Some x → IsInput name_bytes is_name 11 bytes x
  increment_takes = operation_takes 11 input.Increment (λ t a c n. refl) (λ t a c n h k m. rw (h, k, m) refl) (λ t a c n. refl)

  reversal_takes : (bytes : List ℕ) (x : Input × List ℕ) → AreBytes bytes → take_operation take_name input.Reversal bytes ≡ Some x → IsInput name_bytes is_name 12 bytes x
  reversal_takes = operation_takes 12 input.Reversal (λ t a c n. refl) (λ t a c n h k m. rw (h, k, m) refl) (λ t a c n. refl)

  refund_takes : (bytes : List ℕ) (x : Input × List ℕ) → AreBytes bytes → take_operation take_name input.Refund bytes ≡ Some x → IsInput name_bytes is_name 14 bytes x
  refund_takes = operation_takes 14 input.Refund (λ t a c n. refl) (λ t a c n h k m. rw (h, k, m) refl) (λ t a c n. refl)

  time_takes : (bytes : List ℕ) (x : Input × List ℕ) → AreBytes bytes → Some (input.Time, bytes) ≡ Some x → IsInput name_bytes is_name 17 bytes x
  time_takes bytes x fits e = subst (IsInput name_bytes is_name 17 bytes) (same_Some _ x e) (record { split = start bytes fits; form = refl; kind = refl })

  -- an input of one kind, if the number is that kind's
  of_kind : (number wanted : ℕ) (bytes : List ℕ) (x : Input × List ℕ) → nat_eq number wanted ≡ true → IsInput name_bytes is_name wanted bytes x → IsInput name_bytes is_name number bytes x
  of_kind number wanted bytes x is h = subst (λ (k : ℕ). IsInput name_bytes is_name k bytes x) (sym (eqb-true number wanted is)) h

  -- whatever kind the first byte says
  pub fields_take : (number : ℕ) (bytes : List ℕ) (x : Input × List ℕ) → AreBytes bytes → take_fields take_name number bytes ≡ Some x → IsInput name_bytes is_name number bytes x
  unfolding take_fields
  fields_take number bytes x fits e =
      either_way _ _ _ (Some x) (λ is e. of_kind number 1 bytes x is (user_takes bytes x fits e)) (
      either_way _ _ _ (Some x) (λ is e. of_kind number 2 bytes x is (card_takes bytes x fits e)) (
      either_way _ _ _ (Some x) (λ is e. of_kind number 3 bytes x is (move_takes bytes x fits e)) (
      either_way _ _ _ (Some x) (λ is e. of_kind number 4 bytes x is (product_takes bytes x fits e)) (
      either_way _ _ _ (Some x) (λ is e. of_kind number 5 bytes x is (group_takes bytes x fits e)) (
      either_way _ _ _ (Some x) (λ is e. of_kind number 6 bytes x is (utc_takes bytes x fits e)) (
      either_way _ _ _ (Some x) (λ is e. of_kind number 7 bytes x is (set_takes bytes x fits e)) (
      either_way _ _ _ (Some x) (λ is e. of_kind number 8 bytes x is (switch_takes bytes x fits e)) (
      either_way _ _ _ (Some x) (λ is e. of_kind number 9 bytes x is (load_takes bytes x fits e)) (
      either_way _ _ _ (Some x) (λ is e. of_kind number 10 bytes x is (authorization_takes 10 false refl bytes x fits e)) (
      either_way _ _ _ (Some x) (λ is e. of_kind number 11 bytes x is (increment_takes bytes x fits e)) (
      either_way _ _ _ (Some x) (λ is e. of_kind number 12 bytes x is (reversal_takes bytes x fits e)) (
      either_way _ _ _ (Some x) (λ is e. of_kind number 13 bytes x is (clearing_takes bytes x fits e)) (
      either_way _ _ _ (Some x) (λ is e. of_kind number 14 bytes x is (refund_takes bytes x fits e)) (
      either_way _ _ _ (Some x) (λ is e. of_kind number 15 bytes x is (answer_takes bytes x fits e)) (
      either_way _ _ _ (Some x) (λ is e. of_kind number 16 bytes x is (ack_takes bytes x fits e)) (
      either_way _ _ _ (Some x) (λ is e. of_kind number 17 bytes x is (time_takes bytes x fits e)) (
      either_way _ _ _ (Some x) (λ is e. of_kind number 18 bytes x is (local_takes bytes x fits e)) (
      either_way _ _ _ (Some x) (λ is e. of_kind number 19 bytes x is (part_takes bytes x fits e)) (
      either_way _ _ _ (Some x) (λ is e. of_kind number 20 bytes x is (authorization_takes 20 true refl bytes x fits e)) (
      λ e. absurd cc)))))))))))))))))))) e
