-- Events that are named apart one after the other are those that have tokens of their own.
use Rattle.std.proofs.Common.{◌≡◌, ℕ, suc, Bool, true, false, cond, List, [], ◌∷◌, ◌++◌, refl, sym, ap, ap₂, ◌∙◌}
use Rattle.std.specs.Prelude.{not, ◌&&◌, ◌||◌, Option, Some, None, is_none, is_some, unwrap_or}
use Rattle.std.specs.List.{list_all, list_any}
use Rattle.std.specs.Option.{option_map}
use Rattle.std.specs.Str.{bytes_eq}
use Rattle.iss_model.specs.declared.state.Seen.{Seen}
use Rattle.iss_model.specs.Inputs.{event_token, is_text}
use Rattle.iss_index.specs.Places.{place_of}
use Rattle.iss_states.specs.Order.{has_event_token, have_tokens_of_their_own}
use Rattle.iss_sound_events.specs.Named.{are_named_apart, has_token, token_of_seen}

-- an event's token isn't among these names
abbrev is_new : List (List ℕ) → Seen → Bool
is_new names e = is_none (place_of (token_of_seen e) names)

-- the first place
abbrev first : Option ℕ
first = Some 0

still_none : (o : Option ℕ) → is_none (option_map (λ i. suc i) o) ≡ is_none o
still_none None = refl
still_none (Some i) = refl

-- a name isn't among these names and one more if it isn't among them and isn't that one
new_after : (x t : List ℕ) (ns : List (List ℕ))
    → is_none (place_of x (ns ++ t ∷ [])) ≡ (is_none (place_of x ns) && not (bytes_eq x t))
new_after x t [] = elim (bytes_eq x t) as (λ b. is_none (cond b first None) ≡ (true && not b)) [ true ↦ refl | false ↦ refl ]
new_after x t (n ∷ ns) =
    elim (bytes_eq x n) as (λ b. is_none (cond b first (option_map (λ i. suc i) (place_of x (ns ++ t ∷ []))))
    ≡ (is_none (cond b first (option_map (λ i. suc i) (place_of x ns))) && not (bytes_eq x t))) [
      | true ↦ refl
      | false ↦
          still_none (place_of x (ns ++ t ∷ []))
          ∙ new_after x t ns
          ∙ ap (λ (b : Bool). b && not (bytes_eq x t)) (sym (still_none (place_of x ns)))
    ]

-- an event with a token has this one if its own is this one
token_is : (t : List ℕ) (o : Option (List ℕ)) → is_some o ≡ true → bytes_eq (unwrap_or o []) t ≡ is_text t o
token_is t None some = cc
token_is t (Some x) some = refl

regroup : (n h w a : Bool) → ((n && not h) && (w && not a)) ≡ ((n && w) && not (h || a))
regroup false h w a = refl
regroup true true true a = refl
regroup true true false a = refl
regroup true false true a = refl
regroup true false false a = refl

both : (a b : Bool) → (a && b) ≡ true → (a ≡ true) × (b ≡ true)
both true b h = (refl, h)
both false b h = (h, cc)

-- events that have tokens are new after one name more if they are new before it and none has that one
all_new : (names : List (List ℕ)) (t : List ℕ) (es : List Seen) → list_all has_token es ≡ true
    → list_all (is_new (names ++ t ∷ [])) es ≡ (list_all (is_new names) es && not (list_any (has_event_token t) es))
all_new names t [] all = refl
all_new names t (e ∷ es) all =
    let parts = both (has_token e) (list_all has_token es) all in
    ap₂ (λ (a b : Bool). a && b)
    (new_after (token_of_seen e) t names
    ∙ ap (λ (b : Bool). is_new names e && not b) (token_is t (event_token e.body.input) parts.0))
    (all_new names t es parts.1)
    ∙ regroup (is_new names e) (has_event_token t e) (list_all (is_new names) es) (list_any (has_event_token t) es)

if_first : (a b c : Bool) → (a ≡ true → b ≡ c) → (a && b) ≡ (a && c)
if_first true b c h = h refl
if_first false b c h = refl

in_turn : (h n a w k o : Bool) → ((h && n) && (a && ((w && k) && o))) ≡ ((h && a) && ((n && w) && (k && o)))
in_turn false n a w k o = refl
in_turn true false true w k o = refl
in_turn true false false w k o = refl
in_turn true true false w k o = refl
in_turn true true true false k o = refl
in_turn true true true true k o = refl

-- events are named apart if they have tokens, which are new and their own
pub apart_is : (names : List (List ℕ)) (es : List Seen)
    → are_named_apart names es ≡ (list_all has_token es && (list_all (is_new names) es && have_tokens_of_their_own es))
apart_is names [] = refl
apart_is names (e ∷ es) =
    let t = token_of_seen e in
    ap (λ (b : Bool). (has_token e && is_new names e) && b)
    (apart_is (names ++ t ∷ []) es
    ∙ if_first (list_all has_token es)
    (list_all (is_new (names ++ t ∷ [])) es && have_tokens_of_their_own es)
    ((list_all (is_new names) es && not (list_any (has_event_token t) es)) && have_tokens_of_their_own es)
    (λ all. ap (λ (b : Bool). b && have_tokens_of_their_own es) (all_new names t es all)))
    ∙ in_turn (has_token e) (is_new names e) (list_all has_token es) (list_all (is_new names) es)
    (not (list_any (has_event_token t) es)) (have_tokens_of_their_own es)

all_new_first : (es : List Seen) → list_all (is_new []) es ≡ true
all_new_first [] = refl
all_new_first (e ∷ es) = all_new_first es

-- of events with tokens, those named apart are those that have tokens of their own
pub apart_from_start : (es : List Seen) → list_all has_token es ≡ true → are_named_apart [] es ≡ have_tokens_of_their_own es
apart_from_start es all =
    apart_is [] es ∙ ap₂ (λ (a b : Bool). a && (b && have_tokens_of_their_own es)) all (all_new_first es)
