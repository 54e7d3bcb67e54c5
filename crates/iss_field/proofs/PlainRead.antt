-- An object of plain members is read as it is spelled.
use Rattle.std.proofs.Common.{◌≡◌, ℕ, ◌≤◌, Bool, true, false, List, [], ◌∷◌, ◌++◌, Some, option_and_then, refl, sym, ap, ap₂, ◌∙◌, arith, append_assoc, append-nil}
use Rattle.json.specs.Token.{Token}
use Rattle.std.specs.Borrow.{Bor}
use Rattle.json.specs.Value.{value_view, members_view}
use Rattle.json.specs.declared.value.Value.{Value}
use Rattle.json.specs.Json.{Json, null, boolean, number, string, array, object, Members, no_members, member, if_last, value}
use Rattle.json.specs.Print.{quoted, print, print_from}
use Rattle.json.specs.Tree.{json_tokens, members_tokens, depth, members_depth, HasNumbers, MembersHaveNumbers}
use Rattle.json.proofs.Printed.Tokens.{tokens-print}
use Rattle.json.proofs.Printed.Trees.{value-json_tokens, ArePrintable-json_tokens}
use Rattle.serde_json.specs.Read.{max_depth}
use Rattle.iss_field.specs.PlainObjects.{IsPlainValue, plain_text, ArePlain, opener, spelled}
use Rattle.iss_field.specs.Seen.{json_text}

has_numbers : (j : Json) → IsPlainValue j → HasNumbers j
has_numbers null h = absurd h
has_numbers (boolean b) h = tt
has_numbers (number s) h = h
has_numbers (string s) h = tt
has_numbers (array js) h = absurd h
has_numbers (object ms) h = absurd h

pub have_numbers : (ms : Members) → ArePlain ms → MembersHaveNumbers ms
have_numbers no_members h = tt
have_numbers (member k j ms) h = (has_numbers j h.0, have_numbers ms h.1)

flat : (j : Json) → IsPlainValue j → depth j ≡ 0
flat null h = absurd h
flat (boolean b) h = refl
flat (number s) h = refl
flat (string s) h = refl
flat (array js) h = absurd h
flat (object ms) h = absurd h

pub members_flat : (ms : Members) → ArePlain ms → members_depth ms ≡ 0
members_flat no_members h = refl
members_flat (member k j ms) h = omega (arith, flat j h.0, members_flat ms h.1)

-- the printed tokens of a plain value, and of what follows it
pub value_printed : (j : Json) (ts : List Token) → IsPlainValue j → print_from false (json_tokens j ++ ts) ≡ plain_text j ++ print_from true ts
unfolding print_from
value_printed null ts h = absurd h
value_printed (boolean b) ts h = refl
value_printed (number s) ts h = refl
value_printed (string s) ts h = refl
value_printed (array js) ts h = absurd h
value_printed (object ms) ts h = absurd h

pub colon_apart : (k rest : List ℕ) → (quoted k ++ 58 ∷ []) ++ rest ≡ quoted k ++ (58 ∷ rest)
colon_apart k rest = append_assoc (quoted k) (58 ∷ []) rest

later_printed : (ms : Members) → ArePlain ms → print_from true (members_tokens ms) ≡ spelled false ms ++ 125 ∷ []
unfolding print_from
later_printed no_members h = refl
later_printed (member k j ms) h =
    ap (λ l. 44 ∷ l) (
    colon_apart k (print_from false (json_tokens j ++ members_tokens ms))
    ∙ ap (λ l. quoted k ++ (58 ∷ l)) (value_printed j (members_tokens ms) h.0 ∙ ap (λ l. plain_text j ++ l) (later_printed ms h.1) ∙ sym (append_assoc (plain_text j) (spelled false ms) (125 ∷ [])))
    ∙ sym (append_assoc (quoted k) (58 ∷ (plain_text j ++ spelled false ms)) (125 ∷ [])))

first_printed : (k : List ℕ) (j : Json) (ms : Members) → ArePlain (member k j ms) → print (json_tokens (object (member k j ms))) ≡ spelled true (member k j ms) ++ 125 ∷ []
unfolding print_from
first_printed k j ms h =
    ap (λ l. 123 ∷ l) (
    colon_apart k (print_from false (json_tokens j ++ members_tokens ms))
    ∙ ap (λ l. quoted k ++ (58 ∷ l)) (value_printed j (members_tokens ms) h.0 ∙ ap (λ l. plain_text j ++ l) (later_printed ms h.1) ∙ sym (append_assoc (plain_text j) (spelled false ms) (125 ∷ [])))
    ∙ sym (append_assoc (quoted k) (58 ∷ (plain_text j ++ spelled false ms)) (125 ∷ [])))

pub read_back : (j : Json) → HasNumbers j → depth j ≤ max_depth → json_text (print (json_tokens j)) ≡ Some j
read_back j numbers shallow =
    ap (option_and_then (λ p. if_last p.0 p.1))
    (ap (value max_depth) (tokens-print (json_tokens j) (ArePrintable-json_tokens j numbers) ∙ sym (append-nil (json_tokens j)))
    ∙ value-json_tokens j max_depth [] shallow)

one : (k : List ℕ) (j : Json) (more rest : List ℕ) → (quoted k ++ (58 ∷ (plain_text j ++ more))) ++ rest ≡ quoted k ++ (58 ∷ (plain_text j ++ (more ++ rest)))
one k j more rest = append_assoc (quoted k) (58 ∷ (plain_text j ++ more)) rest ∙ ap (λ l. quoted k ++ (58 ∷ l)) (append_assoc (plain_text j) more rest)

-- the members, with one more after them
abbrev pub followed : Members → List ℕ → Json → Members
followed no_members k j = member k j no_members
followed (member k0 j0 ms) k j = member k0 j0 (followed ms k j)

-- whether there is none
abbrev pub is_none : Members → Bool
is_none no_members = true
is_none (member k j ms) = false

pub plain_followed : (ms : Members) (k : List ℕ) (j : Json) → ArePlain ms → IsPlainValue j → ArePlain (followed ms k j)
plain_followed no_members k j h p = (p, tt)
plain_followed (member k0 j0 ms) k j h p = (h.0, plain_followed ms k j h.1 p)

not_none : (ms : Members) (k : List ℕ) (j : Json) → is_none (followed ms k j) ≡ false
not_none no_members k j = refl
not_none (member k0 j0 ms) k j = refl

later_more : (ms : Members) (k : List ℕ) (j : Json) (rest : List ℕ) → spelled false ms ++ (44 ∷ (quoted k ++ (58 ∷ (plain_text j ++ rest)))) ≡ spelled false (followed ms k j) ++ rest
later_more no_members k j rest = ap (λ l. 44 ∷ l) (sym (one k j [] rest))
later_more (member k0 j0 ms) k j rest =
    ap (λ l. 44 ∷ l) (one k0 j0 (spelled false ms) _ ∙ ap (λ l. quoted k0 ++ (58 ∷ (plain_text j0 ++ l))) (later_more ms k j rest) ∙ sym (one k0 j0 (spelled false (followed ms k j)) rest))

first_more : (ms : Members) (k : List ℕ) (j : Json) (rest : List ℕ) → spelled true ms ++ (opener (is_none ms) ∷ (quoted k ++ (58 ∷ (plain_text j ++ rest)))) ≡ spelled true (followed ms k j) ++ rest
first_more no_members k j rest = ap (λ l. 123 ∷ l) (sym (one k j [] rest))
first_more (member k0 j0 ms) k j rest =
    ap (λ l. 123 ∷ l) (one k0 j0 (spelled false ms) _ ∙ ap (λ l. quoted k0 ++ (58 ∷ (plain_text j0 ++ l))) (later_more ms k j rest) ∙ sym (one k0 j0 (spelled false (followed ms k j)) rest))

-- one more member was read
pub read_more : (text : List ℕ) (ms : Members) (first : ℕ) (k : List ℕ) (j : Json) (r0 r1 r2 : List ℕ)
    → text ≡ spelled true ms ++ r0 → first ≡ opener (is_none ms) → r0 ≡ first ∷ (quoted k ++ r1) → r1 ≡ 58 ∷ (plain_text j ++ r2)
    → text ≡ spelled true (followed ms k j) ++ r2
read_more text ms first k j r0 r1 r2 so_far opened name value =
    so_far ∙ ap (λ l. spelled true ms ++ l) (name ∙ ap₂ (λ x l. x ∷ (quoted k ++ l)) opened value) ∙ first_more ms k j r2

pub view_push : {A : Type 0} → (ms : List (Bor (List ℕ) × Value A)) (m : Bor (List ℕ) × Value A) → members_view (ms ++ m ∷ []) ≡ followed (members_view ms) m.0.now (value_view m.1)
view_push [] m = refl
view_push (x ∷ ms) m = ap (member x.0.now (value_view x.1)) (view_push ms m)

pub comma_next : (ms : Members) (k : List ℕ) (j : Json) → 44 ≡ opener (is_none (followed ms k j))
comma_next ms k j = sym (ap opener (not_none ms k j))

pub spelled_text : (ms : Members) (k : List ℕ) (j : Json) (text : List ℕ) → ArePlain (followed ms k j) → text ≡ spelled true (followed ms k j) ++ 125 ∷ [] → json_text text ≡ Some (object (followed ms k j))
spelled_text no_members k j text h e = ap json_text (e ∙ sym (first_printed k j no_members h)) ∙ read_back (object (member k j no_members)) (have_numbers (member k j no_members) h) (omega (arith, members_flat (member k j no_members) h))
spelled_text (member k0 j0 ms) k j text h e = ap json_text (e ∙ sym (first_printed k0 j0 (followed ms k j) h)) ∙ read_back (object (member k0 j0 (followed ms k j))) (have_numbers (member k0 j0 (followed ms k j)) h) (omega (arith, members_flat (member k0 j0 (followed ms k j)) h))
