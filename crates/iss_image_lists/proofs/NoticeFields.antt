-- A notice: what is taken was spelled so, and what is spelled so is taken.
use Rattle.std.proofs.Common.{◌≡◌, ℕ, Bool, true, ◌&&◌, List, [], ◌++◌, Option, Some, None, refl, ap, subst, ◌∙◌, append_assoc, arith}
use Rattle.std.specs.Str.{bytes_eq}
use Rattle.std.proofs.lemmas.Bool.{and_parts, eqb-true}
use Rattle.std.proofs.lemmas.Option.{same_Some}
use Rattle.std.proofs.lemmas.Bool.Decides.{nat_tests}
use Rattle.iss_model.specs.declared.call.Notice.{Notice}
use Rattle.iss_model.specs.declared.currency.Currency.{Currency}
use Rattle.iss_model.specs.Currencies.{same_currency}
use Rattle.iss_model.specs.texts.Spelling.{number_bytes}
use Rattle.iss_model.proofs.Names.{one_name, its_name}
use Rattle.iss_model.proofs.Accounts.{one_currency}
use Rattle.iss_codec.specs.Taking.{◌>>=◌, take_number}
use Rattle.iss_codec.proofs.TakenFields.{bind_some, IsSplit, IsField}
use Rattle.iss_image_lists.specs.Spelling.{notice_method_bytes, notice_bytes, notices_bytes}
use Rattle.iss_image_lists.specs.Taking.{take_call, take_notice, take_notices}
use Rattle.iss_image_lists.specs.Forms.{has_room, is_notice_method, is_call, is_held_by, is_notice, are_notices}
use Rattle.iss_image_lists.proofs.Steps.{step, start, again_step}
use Rattle.iss_image_lists.proofs.ListFields.{list_field}
use Rattle.iss_image_lists.proofs.PartFields.{room_4, room_8, notice_method_field, call_bytes, call_field}

grouped_6 : (a b c d e f r : List ℕ) → (((((a ++ b) ++ c) ++ d) ++ e) ++ f) ++ r ≡ a ++ (b ++ (c ++ (d ++ (e ++ (f ++ r)))))
grouped_6 a b c d e f r = simp append_assoc

same_itself : (c : Currency) → same_currency c c ≡ true
same_itself c = grind (arith, nat_tests)

-- its holder holds a transaction
held_by : (holder : List ℕ × Currency) → is_held_by holder.0 holder.1 (Some holder) ≡ true
held_by holder = rw (its_name holder.0, same_itself holder.1) refl

-- who holds a transaction is its holder
holder_is : (user : List ℕ) (currency : Currency) (holder : Option (List ℕ × Currency)) → is_held_by user currency holder ≡ true → holder ≡ Some (user, currency)
holder_is user currency None h = absurd cc
holder_is user currency (Some holder) h =
    let p = and_parts (bytes_eq holder.0 user) (same_currency holder.1 currency) h in
    let name : holder.0 ≡ user = one_name holder.0 user p.0 in
    let money : holder.1 ≡ currency = one_currency holder.1 currency (eqb-true _ _ p.1) in
    ap (λ (u : List ℕ). Some (u, holder.1)) name ∙ ap (λ (c : Currency). Some (user, c)) money

-- what the form of a notice says, one by one
pub record IsInForm (is_name : List ℕ → Bool) (holder_of : List ℕ → Option (List ℕ × Currency)) (n : Notice) : Type 0 where
  pub number : has_room 4 n.number ≡ true
  pub method : is_notice_method n.method ≡ true
  pub txn : is_name n.txn ≡ true
  pub call : is_call n.call ≡ true
  pub amount : has_room 8 n.amount ≡ true
  pub gateway : has_room 8 n.gateway ≡ true
  pub holder : is_held_by n.user n.currency (holder_of n.txn) ≡ true

in_form : (is_name : List ℕ → Bool) (holder_of : List ℕ → Option (List ℕ × Currency)) (n : Notice) → is_notice is_name holder_of n ≡ true → IsInForm is_name holder_of n
in_form is_name holder_of n h =
    let holder = and_parts (has_room 4 n.number && is_notice_method n.method && is_name n.txn && is_call n.call && has_room 8 n.amount && has_room 8 n.gateway) (is_held_by n.user n.currency (holder_of n.txn)) h in
    let gateway = and_parts (has_room 4 n.number && is_notice_method n.method && is_name n.txn && is_call n.call && has_room 8 n.amount) (has_room 8 n.gateway) holder.0 in
    let amount = and_parts (has_room 4 n.number && is_notice_method n.method && is_name n.txn && is_call n.call) (has_room 8 n.amount) gateway.0 in
    let call = and_parts (has_room 4 n.number && is_notice_method n.method && is_name n.txn) (is_call n.call) amount.0 in
    let txn = and_parts (has_room 4 n.number && is_notice_method n.method) (is_name n.txn) call.0 in
    let method = and_parts (has_room 4 n.number) (is_notice_method n.method) txn.0 in
    record { number = method.0; method = method.1; txn = txn.1; call = call.1; amount = amount.1; gateway = gateway.1; holder = holder.1 }

-- what is read of a notice after its transaction's holder was found
abbrev pub after_holder : Notice → List ℕ → List ℕ × Currency → Option (Notice × List ℕ)
after_holder n bytes holder =
    take_call bytes >>= λ call. take_number 8 call.1 >>= λ amount. take_number 8 amount.1 >>= λ gateway.
    Some (record { number = n.number; method = n.method; txn = n.txn; user = holder.0; currency = holder.1; call = call.0; amount = amount.0; gateway = gateway.0 }, gateway.1)

-- `name` is the field of a token, however it is spelled
module _ {take_name : List ℕ → Option (List ℕ × List ℕ)} {name_bytes : List ℕ → List ℕ} {is_name : List ℕ → Bool} (name : IsField take_name name_bytes is_name) where
  notice_field : (holder_of : List ℕ → Option (List ℕ × Currency)) → IsField (take_notice take_name holder_of) (notice_bytes name_bytes) (is_notice is_name holder_of)
  unfolding take_notice
  notice_field holder_of =
      record {
        takes = λ bytes x fits e.
            step room_4 bytes [] bytes _ x (start bytes fits) e (λ number r1 s1 h1 e1.
            step notice_method_field bytes _ r1 _ x s1 e1 (λ method r2 s2 h2 e2.
            step name bytes _ r2 _ x s2 e2 (λ txn r3 s3 h3 e3.
            let o = bind_some (holder_of txn) _ x e3 in
            let held : is_held_by o.0.0 o.0.1 (holder_of txn) ≡ true = ap (is_held_by o.0.0 o.0.1) o.1 ∙ held_by o.0 in
            step call_field bytes _ r3 _ x s3 o.2 (λ call r4 s4 h4 e4.
            step room_8 bytes _ r4 _ x s4 e4 (λ amount r5 s5 h5 e5.
            step room_8 bytes _ r5 _ x s5 e5 (λ gateway r6 s6 h6 e6.
            subst (λ (y : Notice × List ℕ). IsSplit bytes (notice_bytes name_bytes y.0) y.1 × (is_notice is_name holder_of y.0 ≡ true)) (same_Some _ x e6) (s6, rw (h1, h2, h3, h4, h5, h6, held) refl)))))));
        again = λ n rest h.
            let f = in_form is_name holder_of n h in
            let holder : holder_of n.txn ≡ Some (n.user, n.currency) = holder_is n.user n.currency (holder_of n.txn) f.holder in
            ap (take_notice take_name holder_of) (grouped_6 (number_bytes 4 n.number) (notice_method_bytes n.method) (name_bytes n.txn) (call_bytes n.call) (number_bytes 8 n.amount) (number_bytes 8 n.gateway) rest)
            ∙ again_step room_4 n.number _ _ _ f.number (again_step notice_method_field n.method _ _ _ f.method (again_step name n.txn _ _ _ f.txn (
            ap (λ (o : Option (List ℕ × Currency)). o >>= after_holder n (call_bytes n.call ++ (number_bytes 8 n.amount ++ (number_bytes 8 n.gateway ++ rest)))) holder
            ∙ again_step call_field n.call _ _ _ f.call (again_step room_8 n.amount _ _ _ f.amount (again_step room_8 n.gateway _ _ _ f.gateway refl)))));
      }

  pub notices_field : (holder_of : List ℕ → Option (List ℕ × Currency)) → IsField (take_notices take_name holder_of) (notices_bytes name_bytes) (are_notices is_name holder_of)
  notices_field holder_of = list_field (notice_field holder_of)
