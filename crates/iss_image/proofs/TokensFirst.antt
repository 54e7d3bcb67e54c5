-- The tokens of events, each once: they are distinct and few, and those of each record are among them.
use Rattle.std.proofs.Common.{◌≡◌, ℕ, suc, ◌+◌, ◌*◌, ◌≤◌, Bool, true, false, cond, ◌&&◌, ◌||◌, List, [], ◌∷◌, ◌++◌, length, Option, Some, None, refl, sym, ap, ◌∙◌, arith}
use Rattle.std.specs.Prelude.{fold, is_some, option_map}
use Rattle.std.specs.List.{IsDistinct, flat_map, list_all}
use Rattle.std.specs.Str.{bytes_eq}
use Rattle.std.proofs.lemmas.Bool.{and_parts}
use Rattle.std.proofs.lemmas.List.{length-append}
use Rattle.std.proofs.lemmas.List.Sums.{fold-append}
use Rattle.std.proofs.lemmas.List.Concat.{flat_map-cons}
use Rattle.std.proofs.lemmas.List.Folds.{list_all-append}
use Rattle.iss_model.specs.declared.input.Input.{Input}
use Rattle.iss_model.specs.declared.input.Input.TheVariants as input
use Rattle.iss_model.specs.declared.setting.Association.{Association}
use Rattle.iss_model.specs.declared.setting.Association.TheVariants as association
use Rattle.iss_model.specs.declared.setting.Scope.{Scope}
use Rattle.iss_model.specs.declared.setting.Scope.TheVariants as scope
use Rattle.iss_model.specs.declared.state.Seen.{Seen}
use Rattle.iss_model.specs.texts.Spelling.{tokens_of, association_tokens, scope_tokens}
use Rattle.iss_model.proofs.Names.{its_name, name-sym}
use Rattle.iss_index.specs.Places.{place_of}
use Rattle.iss_index.proofs.Placed.{none_apart, apart-last}
use Rattle.iss_codec.specs.Places.{is_listed}
use Rattle.iss_image.specs.Images.{with_token, tokens_first}

-- tokens with those of one list, and then of another
pub both_with : (tokens first others : List (List ℕ)) → fold with_token tokens (first ++ others) ≡ fold with_token (fold with_token tokens first) others
both_with tokens first others = fold-append with_token tokens first others

-- Tokens are distinct

-- tokens stay distinct if one goes in that may be there
apart_with : (tokens : List (List ℕ)) (token : List ℕ) → IsDistinct bytes_eq tokens → IsDistinct bytes_eq (with_token tokens token)
apart_with tokens token apart = by (place_of token tokens) refl
  where
    by : (o : Option ℕ) → place_of token tokens ≡ o → IsDistinct bytes_eq (cond (is_some o) tokens (tokens ++ token ∷ []))
    by None e = apart-last token tokens apart e
    by (Some i) e = apart

apart_all : (tokens more : List (List ℕ)) → IsDistinct bytes_eq tokens → IsDistinct bytes_eq (fold with_token tokens more)
apart_all tokens [] apart = apart
apart_all tokens (token ∷ more) apart = apart_all (with_token tokens token) more (apart_with tokens token apart)

-- the tokens of events are distinct
pub first_apart : (es : List Seen) → IsDistinct bytes_eq (tokens_first es)
first_apart es = apart_all [] (flat_map (λ e. tokens_of e.body.input) es) none_apart

-- Each token is among them

-- a token is found among tokens with one more if it was, or if it is that one
among_more : (name n : List ℕ) (ns : List (List ℕ)) → is_listed (ns ++ n ∷ []) name ≡ (is_listed ns name || bytes_eq n name)
among_more name n [] = ap (λ (b : Bool). is_some {T = ℕ} (cond b (Some 0) None)) (name-sym name n) ∙ by (bytes_eq n name)
  where
    by : (b : Bool) → is_some {T = ℕ} (cond b (Some 0) None) ≡ b
    by true = refl
    by false = refl
among_more name n (m ∷ ns) = by (bytes_eq name m) (place_of name (ns ++ n ∷ [])) (place_of name ns) (among_more name n ns)
  where
    by : (b : Bool) (o p : Option ℕ) → is_some o ≡ (is_some p || bytes_eq n name)
        → is_some (cond b (Some 0) (option_map (λ i. suc i) o)) ≡ (is_some (cond b (Some 0) (option_map (λ i. suc i) p)) || bytes_eq n name)
    by true o p e = refl
    by false None None e = e
    by false None (Some j) e = e
    by false (Some i) None e = e
    by false (Some i) (Some j) e = e

pub or_true : (b : Bool) → (b || true) ≡ true
or_true true = refl
or_true false = refl

stays_with : (tokens : List (List ℕ)) (token name : List ℕ) → is_listed tokens name ≡ true → is_listed (with_token tokens token) name ≡ true
stays_with tokens token name h = by (is_some (place_of token tokens))
  where
    by : (b : Bool) → is_listed (cond b tokens (tokens ++ token ∷ [])) name ≡ true
    by true = h
    by false = among_more name token tokens ∙ ap (λ (b : Bool). b || bytes_eq token name) h

itself_with : (tokens : List (List ℕ)) (token : List ℕ) → is_listed (with_token tokens token) token ≡ true
itself_with tokens token = by (is_some (place_of token tokens)) refl
  where
    by : (b : Bool) → is_some (place_of token tokens) ≡ b → is_listed (cond b tokens (tokens ++ token ∷ [])) token ≡ true
    by true e = e
    by false e = among_more token token tokens ∙ ap (λ (b : Bool). is_listed tokens token || b) (its_name token) ∙ or_true (is_listed tokens token)

stays_among : (tokens more : List (List ℕ)) (name : List ℕ) → is_listed tokens name ≡ true → is_listed (fold with_token tokens more) name ≡ true
stays_among tokens [] name h = h
stays_among tokens (token ∷ more) name h = stays_among (with_token tokens token) more name (stays_with tokens token name h)

each_among : (tokens more : List (List ℕ)) → list_all (is_listed (fold with_token tokens more)) more ≡ true
each_among tokens [] = refl
each_among tokens (token ∷ more) = rw (stays_among (with_token tokens token) more token (itself_with tokens token), each_among (with_token tokens token) more) refl

-- what holds of each of these lists' things holds list by list
list_by_list : {A B : Type 0} (p : B → Bool) (f : A → List B) (xs : List A) → list_all p (flat_map f xs) ≡ list_all (λ x. list_all p (f x)) xs
list_by_list p f [] = refl
list_by_list p f (x ∷ xs) =
    ap (list_all p) (flat_map-cons f x xs) ∙ list_all-append p (f x) (flat_map f xs) ∙ ap (λ (b : Bool). list_all p (f x) && b) (list_by_list p f xs)

-- an event's tokens pass a test
abbrev pub have_all : (List ℕ → Bool) → Seen → Bool
have_all form e = list_all form (tokens_of e.body.input)

-- the tokens of each event are among them
pub all_among : (es : List Seen) → list_all (have_all (is_listed (tokens_first es))) es ≡ true
all_among es = sym (list_by_list (is_listed (tokens_first es)) (λ (e : Seen). tokens_of e.body.input) es) ∙ each_among [] (flat_map (λ (e : Seen). tokens_of e.body.input) es)

-- What holds of each event's tokens holds of each of them

formed_with : (form : List ℕ → Bool) (tokens : List (List ℕ)) (token : List ℕ) → list_all form tokens ≡ true → form token ≡ true → list_all form (with_token tokens token) ≡ true
formed_with form tokens token h k = by (is_some (place_of token tokens))
  where
    by : (b : Bool) → list_all form (cond b tokens (tokens ++ token ∷ [])) ≡ true
    by true = h
    by false = list_all-append form tokens (token ∷ []) ∙ rw (h, k) refl

formed_all : (form : List ℕ → Bool) (tokens more : List (List ℕ)) → list_all form tokens ≡ true → list_all form more ≡ true → list_all form (fold with_token tokens more) ≡ true
formed_all form tokens [] h k = h
formed_all form tokens (token ∷ more) h k =
    let p = and_parts (form token) (list_all form more) k in formed_all form (with_token tokens token) more (formed_with form tokens token h p.0) p.1

pub all_formed : (form : List ℕ → Bool) (es : List Seen) → list_all (have_all form) es ≡ true → list_all form (tokens_first es) ≡ true
all_formed form es h =
    formed_all form [] (flat_map (λ (e : Seen). tokens_of e.body.input) es) refl (list_by_list form (λ (e : Seen). tokens_of e.body.input) es ∙ h)

-- They are few: four for each event at most

counted_with : (tokens : List (List ℕ)) (token : List ℕ) → length (with_token tokens token) ≤ length tokens + 1
counted_with tokens token = by (is_some (place_of token tokens))
  where
    by : (b : Bool) → length (cond b tokens (tokens ++ token ∷ [])) ≤ length tokens + 1
    by true = omega arith
    by false = omega (arith, length-append tokens (token ∷ []))

counted_all : (tokens more : List (List ℕ)) → length (fold with_token tokens more) ≤ length tokens + length more
counted_all tokens [] = omega arith
counted_all tokens (token ∷ more) =
    let rest : length (fold with_token (with_token tokens token) more) ≤ length (with_token tokens token) + length more = counted_all (with_token tokens token) more in
    let one : length (with_token tokens token) ≤ length tokens + 1 = counted_with tokens token in
    omega (arith, rest, one)

association_one : (a : Association) → length (association_tokens a) ≤ 1
association_one association.Anybody = omega arith
association_one (association.User user) = omega arith
association_one (association.Product product) = omega arith

scope_one : (s : Scope) → length (scope_tokens s) ≤ 1
scope_one scope.All = omega arith
scope_one (scope.Mcc mcc) = omega arith
scope_one (scope.Group group) = omega arith
scope_one (scope.Mid mid) = omega arith

at_most_four : (i : Input) → length (tokens_of i) ≤ 4
at_most_four (input.Control token control currency window amount_limit usage_limit association scope offset active) =
    let a : length (association_tokens association) ≤ 1 = association_one association in
    let s : length (scope_tokens scope) ≤ 1 = scope_one scope in
    omega (arith, a, s, length-append (association_tokens association) (scope_tokens scope))
at_most_four _ = omega arith

four_each : (es : List Seen) → length (flat_map (λ (e : Seen). tokens_of e.body.input) es) ≤ 4 * length es
four_each [] = omega arith
four_each (e ∷ es) =
    let rest : length (flat_map (λ (e : Seen). tokens_of e.body.input) es) ≤ 4 * length es = four_each es in
    let one : length (tokens_of e.body.input) ≤ 4 = at_most_four e.body.input in
    let all : length (flat_map (λ (e : Seen). tokens_of e.body.input) (e ∷ es)) ≡ length (tokens_of e.body.input) + length (flat_map (λ (e : Seen). tokens_of e.body.input) es) =
    ap length (flat_map-cons (λ (e : Seen). tokens_of e.body.input) e es) ∙ length-append (tokens_of e.body.input) (flat_map (λ (e : Seen). tokens_of e.body.input) es) in
    omega (arith, rest, one, all)

pub four_at_most : (es : List Seen) → length (tokens_first es) ≤ 4 * length es
four_at_most es =
    let a : length (tokens_first es) ≤ 0 + length (flat_map (λ (e : Seen). tokens_of e.body.input) es) = counted_all [] (flat_map (λ (e : Seen). tokens_of e.body.input) es) in
    let b : length (flat_map (λ (e : Seen). tokens_of e.body.input) es) ≤ 4 * length es = four_each es in
    omega (arith, a, b)
