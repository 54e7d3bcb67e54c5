-- The events that legal records bring have tokens of their own: each is the one that is found by its token.
use Rattle.std.proofs.Common.{◌≡◌, ◌∙◌, ◌++◌, ◌∷◌, ◌+◌, ℕ, ap, ap₂, append-nil, Bool, cond, false, find, List, [], refl, subst, sym, true}
use Rattle.std.specs.Prelude.{Option, Some, None, is_some, unwrap_or}
use Rattle.std.specs.List.{list_all}
use Rattle.std.specs.Option.{option_or}
use Rattle.std.proofs.lemmas.List.Folds.{find-append}
use Rattle.iss_model.specs.declared.input.Record.{Record}
use Rattle.iss_model.specs.Inputs.{event_token, is_event, is_text}
use Rattle.iss_model.specs.rules.Facts.{Accepted}
use Rattle.iss_model.specs.rules.Histories.{IsLegal}
use Rattle.iss_model.specs.rules.Stepping.{step}
use Rattle.iss_model.specs.state.Cores.{CoreState, core_keeper, core_of}
use Rattle.iss_model.proofs.Names.{its_name}
use Rattle.iss_state.specs.Sound.{IsNewEvent, is_accepted}
use Rattle.iss_state.proofs.docket.Lists.{Each, both_so, each_weaker}
use Rattle.iss_state.proofs.invariants.Legal.{legal_induction}
use Rattle.iss_states.specs.Showing.{token_of_event}
use Rattle.iss_states.proofs.Decided.{step_takes_up}
use Rattle.iss_states.proofs.Found.{find_stays}

-- an accepted event is the one that is found by its token
pub record IsOwn (xs : List Accepted) (a : Accepted) : Type 0 where
  pub token : List ℕ
  pub its : event_token a.input ≡ Some token
  pub found : find (λ b. is_event token b.input) xs ≡ Some a

pub own_token : {xs : List Accepted} {a : Accepted} (own : IsOwn xs a) → token_of_event a ≡ own.token
own_token own = ap (λ (o : Option (List ℕ)). unwrap_or o []) own.its

pub each_append : {A : Type 0} (P : A → Type 0) (xs ys : List A) → Each P xs → Each P ys → Each P (xs ++ ys)
each_append P [] ys h k = k
each_append P (x ∷ xs) ys h k = (h.0, each_append P xs ys h.1 k)

pub not_found : (xs : List Accepted) (token : List ℕ) → is_accepted xs token ≡ false → find (λ a. is_event token a.input) xs ≡ None
not_found xs token h = by (find (λ a. is_event token a.input) xs) h
  where
    by : (o : Option Accepted) → is_some o ≡ false → o ≡ None
    by None h = refl
    by (Some a) h = cc

pub own_more : (xs : List Accepted) (row : Accepted) (o : Option (List ℕ)) → event_token row.input ≡ o → ((token : List ℕ) → event_token row.input ≡ Some token → is_accepted xs token ≡ false)
    → Each (IsOwn xs) xs → Each (IsOwn (xs ++ cond (is_some o) (row ∷ []) [])) (xs ++ cond (is_some o) (row ∷ []) [])
own_more xs row None e new h = subst (λ (ys : List Accepted). Each (IsOwn ys) ys) (sym (append-nil xs)) h
own_more xs row (Some token) e new h =
    each_append (IsOwn (xs ++ row ∷ [])) xs (row ∷ [])
    (each_weaker (IsOwn xs) (IsOwn (xs ++ row ∷ [])) (λ a own. record { token = own.token; its = own.its; found = find_stays (λ (b : Accepted). is_event own.token b.input) xs (row ∷ []) a own.found }) xs h) (
      record {
        token = token;
        its = e;
        found = find-append (λ (b : Accepted). is_event token b.input) xs (row ∷ [])
            ∙ ap₂ (λ (o : Option Accepted) (b : Bool). option_or o (cond b (Some row) None)) (not_found xs token (new token e)) (ap (is_text token) e ∙ its_name token);
      },
      tt,
    )

pub step_own : (c : CoreState) (r : Record) → IsNewEvent c r.input → Each (IsOwn c.accepted) c.accepted → Each (IsOwn (step core_keeper c r).world.accepted) (step core_keeper c r).world.accepted
step_own c r new h =
    subst (λ (xs : List Accepted). Each (IsOwn xs) xs) (sym (step_takes_up c r).accepted)
    (own_more c.accepted (record { number = c.count + 1; at = r.at; input = r.input }) (event_token r.input) refl new h)

pub legal_own : (rs : List Record) → IsLegal rs → Each (IsOwn (core_of rs).accepted) (core_of rs).accepted
legal_own rs legal = legal_induction (λ rs c. Each (IsOwn c.accepted) c.accepted) tt (λ rs r new h. step_own (core_of rs) r new h) rs legal

-- each event is accepted ----

own_accepted : (xs : List Accepted) (a : Accepted) → IsOwn xs a → is_accepted xs (token_of_event a) ≡ true
own_accepted xs a own = ap (is_accepted xs) (own_token own) ∙ ap is_some own.found

pub all_of_each : {A : Type 0} (P : A → Type 0) (p : A → Bool) → ((x : A) → P x → p x ≡ true) → (xs : List A) → Each P xs → list_all p xs ≡ true
all_of_each P p so [] h = refl
all_of_each P p so (x ∷ xs) h = both_so (p x) (list_all p xs) (so x h.0) (all_of_each P p so xs h.1)

pub each_accepted : (xs : List Accepted) → Each (IsOwn xs) xs → list_all (λ a. is_accepted xs (token_of_event a)) xs ≡ true
each_accepted xs h = all_of_each (IsOwn xs) (λ (a : Accepted). is_accepted xs (token_of_event a)) (own_accepted xs) xs h
