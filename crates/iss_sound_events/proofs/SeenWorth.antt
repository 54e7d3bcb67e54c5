-- What an event comes to is what the rules say of it.
use Rattle.std.proofs.Common.{◌≡◌, ◌+◌, ℕ, Bool, true, false, cond, List, [], ◌∷◌, ◌++◌, refl, ap, arith}
use Rattle.std.specs.Prelude.{Option, Some, None}
use Rattle.std.specs.Str.{bytes_eq}
use Rattle.iss_model.specs.declared.decision.Verdict.{Verdict}
use Rattle.iss_model.specs.declared.decision.Verdict.TheVariants as verdict
use Rattle.iss_model.specs.declared.input.Input.{Input}
use Rattle.iss_model.specs.declared.input.Input.TheVariants as input
use Rattle.iss_model.specs.declared.state.Seen.{Seen}
use Rattle.iss_states.specs.Rebuilding.{is_done}
use Rattle.iss_well_formed.specs.Txns.{cleared_amount, done_total, refunded_amount}
use Rattle.iss_decided.specs.Approved.{approved_amount, approved_for, approved_total}
use Rattle.iss_sound_events.specs.declared.totals.Total.{Total}
use Rattle.iss_sound_events.specs.Totals.{approved_of, worth_with}

-- what this part of an event's worth is for a transaction
abbrev pub worth_in : (Total → ℕ) → List ℕ → Option Total → ℕ
worth_in part token None = 0
worth_in part token (Some w) = cond (bytes_eq w.txn token) (part w) 0

-- either way it is nothing
nothing : (b : Bool) → ◌≡◌ {A = ℕ} 0 (cond b 0 0)
nothing true = refl
nothing false = refl

swapped : (d b : Bool) (n : ℕ) → cond d (cond b n 0) 0 ≡ cond b (cond d n 0) 0
swapped true true n = refl
swapped true false n = refl
swapped false true n = refl
swapped false false n = refl

none_done : (d b : Bool) → ◌≡◌ {A = ℕ} (cond d 0 0) (cond b 0 0)
none_done true true = refl
none_done true false = refl
none_done false true = refl
none_done false false = refl

nothing_done : (d : Bool) → ◌≡◌ {A = ℕ} (cond d 0 0) 0
nothing_done true = refl
nothing_done false = refl

pub approved_is : (token : List ℕ) (v : Option Verdict) (i : Input)
    → approved_for token v i ≡ worth_in (λ w. w.approved) token (worth_with v i)
approved_is token v (input.Authorization event card currency amount mcc mid partial) =
    ap (λ (n : ℕ). cond (bytes_eq event token) n 0) (asked v)
  where
    asked : (v : Option Verdict)
        → approved_amount v (input.Authorization event card currency amount mcc mid partial) ≡ approved_of v amount
    asked None = refl
    asked (Some verdict.Approved) = refl
    asked (Some (verdict.Partial c n)) = refl
    asked (Some _) = refl
approved_is token v (input.Increment event txn currency amount) =
    ap (λ (n : ℕ). cond (bytes_eq txn token) n 0) (asked v)
  where
    asked : (v : Option Verdict) → approved_amount v (input.Increment event txn currency amount) ≡ approved_of v amount
    asked None = refl
    asked (Some verdict.Approved) = refl
    asked (Some (verdict.Partial c n)) = refl
    asked (Some _) = refl
approved_is token v (input.Clearing event txn currency amount last) = nothing (bytes_eq txn token)
approved_is token v (input.Refund event txn currency amount) = nothing (bytes_eq txn token)
approved_is token v _ = refl

pub cleared_is : (token : List ℕ) (v : Option Verdict) (i : Input)
    → cond (is_done v) (cleared_amount token i) 0 ≡ worth_in (λ w. w.cleared) token (worth_with v i)
cleared_is token v (input.Authorization event card currency amount mcc mid partial) = none_done (is_done v) (bytes_eq event token)
cleared_is token v (input.Increment event txn currency amount) = none_done (is_done v) (bytes_eq txn token)
cleared_is token v (input.Clearing event txn currency amount last) = swapped (is_done v) (bytes_eq txn token) amount
cleared_is token v (input.Refund event txn currency amount) = none_done (is_done v) (bytes_eq txn token)
cleared_is token v _ = nothing_done (is_done v)

pub refunded_is : (token : List ℕ) (v : Option Verdict) (i : Input)
    → cond (is_done v) (refunded_amount token i) 0 ≡ worth_in (λ w. w.refunded) token (worth_with v i)
refunded_is token v (input.Authorization event card currency amount mcc mid partial) =
    none_done (is_done v) (bytes_eq event token)
refunded_is token v (input.Increment event txn currency amount) = none_done (is_done v) (bytes_eq txn token)
refunded_is token v (input.Clearing event txn currency amount last) = none_done (is_done v) (bytes_eq txn token)
refunded_is token v (input.Refund event txn currency amount) = swapped (is_done v) (bytes_eq txn token) amount
refunded_is token v _ = nothing_done (is_done v)

-- one event more
pub approved_last : (token : List ℕ) (es : List Seen) (e : Seen)
    → approved_total token (es ++ e ∷ []) ≡ approved_total token es + approved_for token e.verdict e.body.input
approved_last token [] e = omega arith
approved_last token (x ∷ es) e =
    let rest = approved_last token es e in
    omega arith

pub done_last : (worth : Input → ℕ) (es : List Seen) (e : Seen)
    → done_total worth (es ++ e ∷ []) ≡ done_total worth es + cond (is_done e.verdict) (worth e.body.input) 0
done_last worth [] e = omega arith
done_last worth (x ∷ es) e =
    let rest = done_last worth es e in
    omega arith
