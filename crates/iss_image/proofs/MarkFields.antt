-- The mark of an event: what is taken was spelled so, and what is spelled so is taken.
use Rattle.std.proofs.Common.{◌≡◌, ℕ, true, nat_eq, List, [], ◌∷◌, ◌++◌, Option, Some, None, refl, subst}
use Rattle.std.proofs.lemmas.Option.{same_Some}
use Rattle.iss_model.specs.declared.call.CallState.{CallState}
use Rattle.iss_model.specs.declared.call.CallState.TheVariants as call_state
use Rattle.iss_model.specs.declared.call.Failure.TheVariants as failure
use Rattle.iss_model.specs.declared.call.How.TheVariants as how
use Rattle.iss_model.specs.texts.Spelling.{AreBytes}
use Rattle.iss_codec.specs.Taking.{take_byte, take_number}
use Rattle.iss_codec.proofs.TakenFields.{by_byte, bind_some, either_way, IsSplit, IsField}
use Rattle.iss_image.specs.Images.{mark_bytes}
use Rattle.iss_image.specs.TakingEvents.{take_part_funded, take_mark_by, take_mark}
use Rattle.iss_image.specs.Forms.{is_mark}
use Rattle.iss_image.proofs.Steps.{byte_before, at_byte}
use Rattle.iss_image.proofs.Steps.{u64_field}

-- what was taken is a mark in form
abbrev IsMarkTaken : List ℕ → Option CallState × List ℕ → Type 0
IsMarkTaken bytes x = IsSplit bytes (mark_bytes x.0) x.1 × (is_mark x.0 ≡ true)

-- a mark that its number says whole
plain : (n : ℕ) (mark : Option CallState) (byte : ℕ) (bytes : List ℕ) (x : Option CallState × List ℕ) → AreBytes bytes → mark_bytes mark ≡ n ∷ [] → is_mark mark ≡ true
    → nat_eq byte n ≡ true → Some (mark, bytes) ≡ Some x → IsMarkTaken (byte ∷ bytes) x
plain n mark byte bytes x fits text form is e =
    at_byte mark_bytes is_mark byte n bytes x is
    (subst (λ (y : Option CallState × List ℕ). IsMarkTaken (n ∷ bytes) y) (same_Some (mark, bytes) x e) (record { parts = rw text refl; fits = fits }, form))

part_takes : (byte : ℕ) (bytes : List ℕ) (x : Option CallState × List ℕ) → AreBytes bytes → nat_eq byte 8 ≡ true → take_part_funded bytes ≡ Some x → IsMarkTaken (byte ∷ bytes) x
unfolding take_part_funded
part_takes byte bytes x fits is e =
    let n = bind_some (take_number 8 bytes) _ x e in
    let t = u64_field.takes bytes n.0 fits n.1 in
    at_byte mark_bytes is_mark byte 8 bytes x is
    (subst (λ (y : Option CallState × List ℕ). IsMarkTaken (8 ∷ bytes) y) (same_Some (Some (call_state.Closed (how.Partial n.0.0)), n.0.1) x n.2)
    (byte_before 8 bytes _ n.0.1 t.0, t.1))

mark_by_takes : (byte : ℕ) (bytes : List ℕ) (x : Option CallState × List ℕ) → AreBytes bytes → take_mark_by byte bytes ≡ Some x → IsMarkTaken (byte ∷ bytes) x
mark_by_takes byte bytes x fits e =
    either_way _ _ _ (Some x) (λ is e. plain 0 None byte bytes x fits refl refl is e) (
    either_way _ _ _ (Some x) (λ is e. plain 1 (Some call_state.Asked) byte bytes x fits refl refl is e) (
    either_way _ _ _ (Some x) (λ is e. plain 2 (Some (call_state.Closed how.Funded)) byte bytes x fits refl refl is e) (
    either_way _ _ _ (Some x) (λ is e. plain 3 (Some (call_state.Closed how.Refused)) byte bytes x fits refl refl is e) (
    either_way _ _ _ (Some x) (λ is e. plain 4 (Some (call_state.Closed (how.Failed failure.Connection))) byte bytes x fits refl refl is e) (
    either_way _ _ _ (Some x) (λ is e. plain 5 (Some (call_state.Closed (how.Failed failure.Timeout))) byte bytes x fits refl refl is e) (
    either_way _ _ _ (Some x) (λ is e. plain 6 (Some (call_state.Closed (how.Failed failure.Application))) byte bytes x fits refl refl is e) (
    either_way _ _ _ (Some x) (λ is e. plain 7 (Some (call_state.Closed how.Abandoned)) byte bytes x fits refl refl is e) (
    either_way _ _ _ (Some x) (λ is e. part_takes byte bytes x fits is e) (
    λ e. absurd cc))))))))) e

mark_again : (x : Option CallState) (rest : List ℕ) → is_mark x ≡ true → take_mark (mark_bytes x ++ rest) ≡ Some (x, rest)
unfolding take_mark take_byte take_part_funded
mark_again None rest h = refl
mark_again (Some call_state.Asked) rest h = refl
mark_again (Some call_state.Unknown) rest h = absurd cc
mark_again (Some (call_state.Closed how.Funded)) rest h = refl
mark_again (Some (call_state.Closed how.Refused)) rest h = refl
mark_again (Some (call_state.Closed how.Abandoned)) rest h = refl
mark_again (Some (call_state.Closed (how.Failed failure.Connection))) rest h = refl
mark_again (Some (call_state.Closed (how.Failed failure.Timeout))) rest h = refl
mark_again (Some (call_state.Closed (how.Failed failure.Application))) rest h = refl
mark_again (Some (call_state.Closed (how.Failed failure.Switch))) rest h = absurd cc
mark_again (Some (call_state.Closed (how.Partial amount))) rest h = rw (u64_field.again amount rest h) refl

pub mark_field : IsField take_mark mark_bytes is_mark
unfolding take_mark
mark_field = record { takes = by_byte take_mark_by mark_bytes is_mark mark_by_takes; again = mark_again }
