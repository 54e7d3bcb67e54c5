-- The fields that hold no token: what is taken was spelled so, and what is spelled so is taken.
use Rattle.std.proofs.Common.{◌≡◌, ℕ, suc, ◌-◌, ◌<◌, ◌≤◌, Bool, true, false, cond, ◌&&◌, nat_eq, ltb, List, [], ◌++◌, Option, Some, None, refl, sym, ap, subst, ◌∙◌, append_assoc, arith}
use Rattle.std.specs.Prelude.{ℤ, pos, negsuc, FitsSigned, not}
use Rattle.std.specs.Int.{w64, cast_signed, cast_unsigned}
use Rattle.std.proofs.lemmas.Int.{of_z-to_z, to_z-of_z}
use Rattle.std.proofs.lemmas.Bool.{lt-ltb, ltb-true, ltb-false, eqb-true, and_parts}
use Rattle.std.proofs.lemmas.Option.{same_Some}
use Rattle.iss_model.specs.declared.call.CallId.{CallId}
use Rattle.iss_model.specs.declared.call.Method.{Method}
use Rattle.iss_model.specs.declared.call.Method.TheVariants as method
use Rattle.iss_model.specs.declared.state.TxnSums.{TxnSums}
use Rattle.iss_model.specs.declared.txn.Used.{Used}
use Rattle.iss_model.specs.Inputs.{flag_contents}
use Rattle.iss_model.specs.texts.Spelling.{number_bytes}
use Rattle.iss_codec.specs.Taking.{take_number}
use Rattle.iss_codec.proofs.NumberBytes.{wide_4, wide_8}
use Rattle.iss_codec.proofs.TakenFields.{bind_some, IsSplit, IsField, number_takes, number_again, number_field, numbered_of}
use Rattle.iss_codec.proofs.TakenParts.{found, found_formed, flag_field}
use Rattle.iss_image_lists.specs.Spelling.{signed_bytes, used_bytes, txn_sums_bytes, notice_method_number, notice_method_bytes, call_number}
use Rattle.iss_image_lists.specs.Taking.{take_signed, take_used, take_txn_sums, take_notice_method, notice_methods, notice_method_numbered, call_numbered, take_call}
use Rattle.iss_image_lists.specs.Forms.{has_room, is_signed, is_used, are_sums, is_notice_method, is_call}
use Rattle.iss_image_lists.proofs.Steps.{step, start, again_step}

-- plain numbers

pub room_4 : IsField (take_number 4) (number_bytes 4) (has_room 4)
room_4 = number_field 4 _ wide_4

pub room_8 : IsField (take_number 8) (number_bytes 8) (has_room 8)
room_8 = number_field 8 _ wide_8

-- numbers in two's complement

pub signed_fits : (z : ℤ) → is_signed z ≡ true → FitsSigned w64 z
signed_fits (pos n) h = record { sfits = ltb-true _ _ h }
signed_fits (negsuc n) h = record { sfits = ltb-true _ _ h }

fits_signed : (z : ℤ) → FitsSigned w64 z → is_signed z ≡ true
fits_signed (pos n) h = lt-ltb _ _ h.sfits
fits_signed (negsuc n) h = lt-ltb _ _ h.sfits

-- the bits of a number that fits
low_bits : (z : ℤ) → is_signed z ≡ true → cast_unsigned w64 z < 18446744073709551616
low_bits (pos n) h = let below : n < 9223372036854775808 = ltb-true _ _ h in omega arith
low_bits (negsuc n) h = omega arith

-- the number of any bits fits
signed_by : (b : Bool) (n : ℕ) → n < 18446744073709551616 → ltb n 9223372036854775808 ≡ b → is_signed (cond b (pos n) (negsuc (18446744073709551616 - suc n))) ≡ true
signed_by true n below e = e
signed_by false n below e = let high : 9223372036854775808 ≤ n = ltb-false _ _ e in lt-ltb _ _ (omega arith)

of_bits : (n : ℕ) → n < 18446744073709551616 → is_signed (cast_signed w64 n) ≡ true
of_bits n below = signed_by (ltb n 9223372036854775808) n below refl

pub signed_field : IsField take_signed signed_bytes is_signed
unfolding take_signed
signed_field =
    record {
      takes = λ bytes x fits e.
          let n = bind_some (take_number 8 bytes) _ x e in
          let t = number_takes 8 _ wide_8 bytes n.0 fits n.1 in
          let z : ℤ = cast_signed w64 n.0.0 in
          let text : number_bytes 8 n.0.0 ≡ signed_bytes z = ap (λ (k : ℕ). number_bytes 8 k) (sym (of_z-to_z w64 n.0.0 t.1)) in
          subst (λ (y : ℤ × List ℕ). IsSplit bytes (signed_bytes y.0) y.1 × (is_signed y.0 ≡ true)) (same_Some (z, n.0.1) x n.2)
          (subst (λ (l : List ℕ). IsSplit bytes l n.0.1) text t.0, of_bits n.0.0 t.1);
      again = λ z rest h. rw (number_again 8 _ wide_8 (cast_unsigned w64 z) rest (low_bits z h), to_z-of_z w64 z (signed_fits z h)) refl;
    }

-- the sums of a transaction

-- what the form of sums says, one by one
pub record HaveRoom (sums : TxnSums) : Type 0 where
  pub g : has_room 8 sums.g ≡ true
  pub p : has_room 8 sums.p ≡ true
  pub s : has_room 8 sums.s ≡ true
  pub cleared : has_room 8 sums.cleared ≡ true
  pub refunded : has_room 8 sums.refunded ≡ true
  pub paid : has_room 8 sums.paid ≡ true

have_room : (sums : TxnSums) → are_sums sums ≡ true → HaveRoom sums
have_room sums h =
    let paid = and_parts (has_room 8 sums.g && has_room 8 sums.p && has_room 8 sums.s && has_room 8 sums.cleared && has_room 8 sums.refunded) (has_room 8 sums.paid) h in
    let refunded = and_parts (has_room 8 sums.g && has_room 8 sums.p && has_room 8 sums.s && has_room 8 sums.cleared) (has_room 8 sums.refunded) paid.0 in
    let cleared = and_parts (has_room 8 sums.g && has_room 8 sums.p && has_room 8 sums.s) (has_room 8 sums.cleared) refunded.0 in
    let s = and_parts (has_room 8 sums.g && has_room 8 sums.p) (has_room 8 sums.s) cleared.0 in
    let p = and_parts (has_room 8 sums.g) (has_room 8 sums.p) s.0 in
    record { g = p.0; p = p.1; s = s.1; cleared = cleared.1; refunded = refunded.1; paid = paid.1 }

grouped_7 : (a b c d e f g r : List ℕ) → ((((((a ++ b) ++ c) ++ d) ++ e) ++ f) ++ g) ++ r ≡ a ++ (b ++ (c ++ (d ++ (e ++ (f ++ (g ++ r))))))
grouped_7 a b c d e f g r = simp append_assoc

pub txn_sums_field : IsField take_txn_sums txn_sums_bytes are_sums
unfolding take_txn_sums
txn_sums_field =
    record {
      takes = λ bytes x fits e.
          step flag_field bytes [] bytes _ x (start bytes fits) e (λ live r1 s1 h1 e1.
          step room_8 bytes _ r1 _ x s1 e1 (λ g r2 s2 h2 e2.
          step room_8 bytes _ r2 _ x s2 e2 (λ p r3 s3 h3 e3.
          step room_8 bytes _ r3 _ x s3 e3 (λ s r4 s4 h4 e4.
          step room_8 bytes _ r4 _ x s4 e4 (λ cleared r5 s5 h5 e5.
          step room_8 bytes _ r5 _ x s5 e5 (λ refunded r6 s6 h6 e6.
          step room_8 bytes _ r6 _ x s6 e6 (λ paid r7 s7 h7 e7.
          subst (λ (y : TxnSums × List ℕ). IsSplit bytes (txn_sums_bytes y.0) y.1 × (are_sums y.0 ≡ true)) (same_Some _ x e7) (s7, rw (h2, h3, h4, h5, h6, h7) refl))))))));
      again = λ x rest h.
          let r = have_room x h in
          ap take_txn_sums (grouped_7 (flag_contents x.live) (number_bytes 8 x.g) (number_bytes 8 x.p) (number_bytes 8 x.s) (number_bytes 8 x.cleared) (number_bytes 8 x.refunded) (number_bytes 8 x.paid) rest)
          ∙ again_step flag_field x.live _ _ _ refl (again_step room_8 x.g _ _ _ r.g (again_step room_8 x.p _ _ _ r.p (again_step room_8 x.s _ _ _ r.s
          (again_step room_8 x.cleared _ _ _ r.cleared (again_step room_8 x.refunded _ _ _ r.refunded (again_step room_8 x.paid _ _ _ r.paid refl))))));
    }

-- what a notice is about

method_there : (x : Method) → is_notice_method x ≡ true → notice_method_numbered (notice_method_number x) ≡ Some x
method_there method.Authorization h = absurd cc
method_there method.Incremental h = absurd cc
method_there method.Void h = refl
method_there method.StandIn h = refl
method_there method.Reversal h = refl
method_there method.Capture h = refl
method_there method.Refund h = refl
method_there method.Expiry h = refl

pub notice_method_field : IsField take_notice_method notice_method_bytes is_notice_method
notice_method_field =
    numbered_of is_notice_method notice_method_number notice_method_numbered method_there
    (λ n x e. (found notice_method_number notice_methods n x e, found_formed is_notice_method notice_method_number notice_methods n x refl e))

-- the call that a void ends

abbrev pub call_by : Bool → ℕ → Option CallId
call_by b n = cond b None (Some (record { 0 = n }))

call_is : (b : Bool) (n : ℕ) → nat_eq n 0 ≡ b → call_number (call_by b n) ≡ n
call_is true n e = sym (eqb-true n 0 e)
call_is false n e = refl

call_formed : (b : Bool) (n : ℕ) → nat_eq n 0 ≡ b → has_room 4 n ≡ true → is_call (call_by b n) ≡ true
call_formed true n e h = refl
call_formed false n e h = rw (e, h) refl

is_not : (b : Bool) → not b ≡ true → b ≡ false
is_not true h = absurd cc
is_not false h = refl

-- a call, as a number
abbrev pub call_bytes : Option CallId → List ℕ
call_bytes call = number_bytes 4 (call_number call)

call_again : (call : Option CallId) (rest : List ℕ) → is_call call ≡ true → take_call (call_bytes call ++ rest) ≡ Some (call, rest)
unfolding take_call
call_again None rest h = rw (room_4.again 0 rest refl) refl
call_again (Some call) rest h =
    let p = and_parts (not (nat_eq call.0 0)) (has_room 4 call.0) h in
    rw (room_4.again call.0 rest p.1, is_not (nat_eq call.0 0) p.0) refl

pub call_field : IsField take_call call_bytes is_call
unfolding take_call
call_field =
    record {
      takes = λ bytes x fits e.
          let n = bind_some (take_number 4 bytes) _ x e in
          let t = room_4.takes bytes n.0 fits n.1 in
          let is = call_is (nat_eq n.0.0 0) n.0.0 refl in
          subst (λ (y : Option CallId × List ℕ). IsSplit bytes (call_bytes y.0) y.1 × (is_call y.0 ≡ true)) (same_Some (call_numbered n.0.0, n.0.1) x n.2)
          (subst (λ (k : ℕ). IsSplit bytes (number_bytes 4 k) n.0.1) (sym is) t.0, call_formed (nat_eq n.0.0 0) n.0.0 refl t.1);
      again = call_again;
    }

-- what a control has counted

pub used_field : IsField take_used used_bytes is_used
unfolding take_used
used_field =
    record {
      takes = λ bytes x fits e.
          step signed_field bytes [] bytes _ x (start bytes fits) e (λ amount r1 s1 h1 e1.
          step signed_field bytes _ r1 _ x s1 e1 (λ count r2 s2 h2 e2.
          subst (λ (y : Used × List ℕ). IsSplit bytes (used_bytes y.0) y.1 × (is_used y.0 ≡ true)) (same_Some _ x e2) (s2, rw (h1, h2) refl)));
      again = λ x rest h.
          let p = and_parts (is_signed x.amount) (is_signed x.count) h in
          ap take_used (append_assoc (signed_bytes x.amount) (signed_bytes x.count) rest)
          ∙ again_step signed_field x.amount _ _ _ p.0 (again_step signed_field x.count _ _ _ p.1 refl);
    }
