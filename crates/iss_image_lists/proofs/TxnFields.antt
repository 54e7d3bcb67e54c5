-- A transaction, and what the programme stood in with: what is taken was spelled so, and what is spelled so is taken.
use Rattle.std.proofs.Common.{◌≡◌, ℕ, Bool, true, ◌&&◌, List, [], ◌++◌, Option, refl, ap, subst, ◌∙◌, append_assoc}
use Rattle.std.proofs.lemmas.Bool.{and_parts}
use Rattle.std.proofs.lemmas.Option.{same_Some}
use Rattle.iss_model.specs.declared.counted.Stood.{Stood}
use Rattle.iss_model.specs.declared.state.Carried.{Carried}
use Rattle.iss_model.specs.texts.Spelling.{number_bytes}
use Rattle.iss_codec.proofs.TakenFields.{IsSplit, IsField}
use Rattle.iss_image_lists.specs.Spelling.{signed_bytes, txn_sums_bytes, txn_bytes, txns_bytes, sum_bytes, sums_bytes}
use Rattle.iss_image_lists.specs.Taking.{take_txn, take_txns, take_sum, take_sums}
use Rattle.iss_image_lists.specs.Forms.{has_room, is_signed, are_sums, is_txn, are_txns, is_sum, are_sums_of_stand_ins}
use Rattle.iss_image_lists.proofs.Steps.{step, start, again_step}
use Rattle.iss_image_lists.proofs.ListFields.{list_field}
use Rattle.iss_image_lists.proofs.PartFields.{room_8, signed_field, txn_sums_field}

grouped_4 : (a b c d r : List ℕ) → (((a ++ b) ++ c) ++ d) ++ r ≡ a ++ (b ++ (c ++ (d ++ r)))
grouped_4 a b c d r = simp append_assoc

-- `name` is the field of a token, however it is spelled
module _ {take_name : List ℕ → Option (List ℕ × List ℕ)} {name_bytes : List ℕ → List ℕ} {is_name : List ℕ → Bool} (name : IsField take_name name_bytes is_name) where
  txn_field : IsField (take_txn take_name) (txn_bytes name_bytes) (is_txn is_name)
  unfolding take_txn
  txn_field =
      record {
        takes = λ bytes x fits e.
            step name bytes [] bytes _ x (start bytes fits) e (λ txn r1 s1 h1 e1.
            step txn_sums_field bytes _ r1 _ x s1 e1 (λ sums r2 s2 h2 e2.
            subst (λ (y : Carried × List ℕ). IsSplit bytes (txn_bytes name_bytes y.0) y.1 × (is_txn is_name y.0 ≡ true)) (same_Some _ x e2) (s2, rw (h1, h2) refl)));
        again = λ t rest h.
            let p = and_parts (is_name t.txn) (are_sums t.sums) h in
            ap (take_txn take_name) (append_assoc (name_bytes t.txn) (txn_sums_bytes t.sums) rest)
            ∙ again_step name t.txn _ _ _ p.0 (again_step txn_sums_field t.sums _ _ _ p.1 refl);
      }

  pub txns_field : IsField (take_txns take_name) (txns_bytes name_bytes) (are_txns is_name)
  txns_field = list_field txn_field

  sum_field : IsField (take_sum take_name) (sum_bytes name_bytes) (is_sum is_name)
  unfolding take_sum
  sum_field =
      record {
        takes = λ bytes x fits e.
            step name bytes [] bytes _ x (start bytes fits) e (λ product r1 s1 h1 e1.
            step name bytes _ r1 _ x s1 e1 (λ user r2 s2 h2 e2.
            step signed_field bytes _ r2 _ x s2 e2 (λ day r3 s3 h3 e3.
            step room_8 bytes _ r3 _ x s3 e3 (λ amount r4 s4 h4 e4.
            subst (λ (y : Stood × List ℕ). IsSplit bytes (sum_bytes name_bytes y.0) y.1 × (is_sum is_name y.0 ≡ true)) (same_Some _ x e4) (s4, rw (h1, h2, h3, h4) refl)))));
        again = λ x rest h.
            let amount = and_parts (is_name x.product && is_name x.user && is_signed x.day) (has_room 8 x.amount) h in
            let day = and_parts (is_name x.product && is_name x.user) (is_signed x.day) amount.0 in
            let user = and_parts (is_name x.product) (is_name x.user) day.0 in
            ap (take_sum take_name) (grouped_4 (name_bytes x.product) (name_bytes x.user) (signed_bytes x.day) (number_bytes 8 x.amount) rest)
            ∙ again_step name x.product _ _ _ user.0 (again_step name x.user _ _ _ user.1 (again_step signed_field x.day _ _ _ day.1 (again_step room_8 x.amount _ _ _ amount.1 refl)));
      }

  pub sums_field : IsField (take_sums take_name) (sums_bytes name_bytes) (are_sums_of_stand_ins is_name)
  sums_field = list_field sum_field
