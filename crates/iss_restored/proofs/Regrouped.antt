-- What is summed up by token comes to no more than what it comes from.
use Rattle.std.proofs.Common.{◌≡◌, ◌∙◌, ◌∷◌, ◌||◌, ◌+◌, ◌≤◌, ℕ, ap, arith, Bool, cond, false, List, [], not, refl, true}
use Rattle.std.specs.Prelude.{Option}
use Rattle.std.specs.Str.{bytes_eq}
use Rattle.std.proofs.lemmas.Bool.{and_parts}
use Rattle.iss_model.specs.declared.decision.Verdict.{Verdict}
use Rattle.iss_model.specs.declared.input.Input.{Input}
use Rattle.iss_model.specs.declared.input.Input.TheVariants as input
use Rattle.iss_model.specs.declared.state.Seen.{Seen}
use Rattle.iss_model.specs.rules.Settings.{is_named_in}
use Rattle.iss_model.proofs.Names.{one_name, name-sym}
use Rattle.iss_state.specs.Stakes.{are_distinct}
use Rattle.iss_states.specs.Rebuilding.{is_done}
use Rattle.iss_well_formed.specs.Txns.{cleared_amount, done_total}
use Rattle.iss_decided.specs.Approved.{approved_amount, approved_for, approved_total}
use Rattle.iss_least.proofs.EventWeights.{approved_by, done_by, moved_amount, total_by}

-- what these tokens come to
abbrev pub over_tokens : (List ℕ → ℕ) → List (List ℕ) → ℕ
over_tokens worth [] = 0
over_tokens worth (t ∷ ts) = worth t + over_tokens worth ts

no_tokens : (ts : List (List ℕ)) → over_tokens (λ t. 0) ts ≡ 0
no_tokens [] = refl
no_tokens (t ∷ ts) = omega (arith, no_tokens ts)

none_of : (key : List ℕ) (w : ℕ) (ts : List (List ℕ)) → is_named_in ts key ≡ false → over_tokens (λ t. cond (bytes_eq key t) w 0) ts ≡ 0
none_of key w [] h = refl
none_of key w (t ∷ ts) h = by (bytes_eq t key) (is_named_in ts key) (bytes_eq key t) (name-sym key t) h (none_of key w ts)
  where
    by : (a b d : Bool) → d ≡ a → (a || b) ≡ false → (b ≡ false → over_tokens (λ t. cond (bytes_eq key t) w 0) ts ≡ 0) → cond d w 0 + over_tokens (λ t. cond (bytes_eq key t) w 0) ts ≡ 0
    by true b d e h rest = cc
    by false true d e h rest = cc
    by false false true e h rest = cc
    by false false false e h rest = omega (arith, rest refl)

-- what is of one token counts once among distinct ones
one_token : (key : List ℕ) (w : ℕ) (ts : List (List ℕ)) → are_distinct ts ≡ true → over_tokens (λ t. cond (bytes_eq key t) w 0) ts ≤ w
one_token key w [] h = omega arith
one_token key w (t ∷ ts) h = let both = and_parts (not (is_named_in ts t)) (are_distinct ts) h in by (bytes_eq key t) refl both.0 (one_token key w ts both.1)
  where
    not_true : (b : Bool) → not b ≡ true → b ≡ false
    not_true true h = cc
    not_true false h = refl

    by : (b : Bool) → bytes_eq key t ≡ b → not (is_named_in ts t) ≡ true → over_tokens (λ t. cond (bytes_eq key t) w 0) ts ≤ w → cond b w 0 + over_tokens (λ t. cond (bytes_eq key t) w 0) ts ≤ w
    by true e out rest = omega (arith, none_of key w ts (ap (is_named_in ts) (one_name key t e) ∙ not_true (is_named_in ts t) out))
    by false e out rest = omega (arith, rest)

-- sums of sums ----

exchanged : (f g : List ℕ → ℕ) (ts : List (List ℕ)) → over_tokens (λ t. f t + g t) ts ≡ over_tokens f ts + over_tokens g ts
exchanged f g [] = refl
exchanged f g (t ∷ ts) = omega (arith, exchanged f g ts)

module _ (ts : List (List ℕ)) (distinct : are_distinct ts ≡ true) where
  -- an event counts for one transaction
  approved_once : (v : Option Verdict) (i : Input) → over_tokens (λ t. approved_for t v i) ts ≤ approved_amount v i
  approved_once v (input.Authorization token card currency amount mcc mid partial) =
      one_token token (approved_amount v (input.Authorization token card currency amount mcc mid partial)) ts distinct
  approved_once v (input.Increment token txn currency amount) = one_token txn (approved_amount v (input.Increment token txn currency amount)) ts distinct
  approved_once v i = omega (arith, no_tokens ts)

  cleared_once : (i : Input) → over_tokens (λ t. cleared_amount t i) ts ≤ moved_amount i
  cleared_once (input.Clearing event txn currency amount last) = one_token txn amount ts distinct
  cleared_once i = omega (arith, no_tokens ts)

  -- what is approved by transaction is at most what is approved by event
  pub approved_regrouped : (es : List Seen) → over_tokens (λ t. approved_total t es) ts ≤ total_by approved_by es
  approved_regrouped [] = omega (arith, no_tokens ts)
  approved_regrouped (e ∷ es) =
      omega (arith, exchanged (λ t. approved_for t e.verdict e.body.input) (λ t. approved_total t es) ts, approved_once e.verdict e.body.input, approved_regrouped es)

  done_once : (b : Bool) (i : Input) → over_tokens (λ t. cond b (cleared_amount t i) 0) ts ≤ cond b (moved_amount i) 0
  done_once true i = cleared_once i
  done_once false i = omega (arith, no_tokens ts)

  -- so it is of what was cleared
  pub cleared_regrouped : (es : List Seen) → over_tokens (λ t. done_total (cleared_amount t) es) ts ≤ total_by done_by es
  cleared_regrouped [] = omega (arith, no_tokens ts)
  cleared_regrouped (e ∷ es) =
      omega (arith, exchanged (λ t. cond (is_done e.verdict) (cleared_amount t e.body.input) 0) (λ t. done_total (cleared_amount t) es) ts, done_once (is_done e.verdict) e.body.input, cleared_regrouped es)
