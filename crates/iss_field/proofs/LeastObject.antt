-- An object with a member has at least four bytes, since it has at least four tokens.
use Rattle.std.proofs.Common.{◌≡◌, ℕ, suc, ◌≤◌, Bool, true, false, List, [], ◌∷◌, ◌++◌, length, Option, Some, None, is_some, option_map, option_and_then, cond, refl, sym, ◌∙◌, subst, arith, append-nil}
use Rattle.std.specs.Str.{is_utf8}
use Rattle.json.specs.Align.{is_good}
use Rattle.json.specs.Token.{Token, begin_object, end_object, begin_array, end_array, key, string, number, boolean, null, bad}
use Rattle.json.specs.Lex.{Lexeme, token, comma, colon, Class, quote, operator, class, Mode as Lexing, between, in_word, in_string, in_escape, lex_byte, lex, Place, fresh, after_value, after_comma, after_key, begins_colon, may_begin, may_close, if_allowed, place_token, punctuate, tokens}
use Rattle.json.specs.Json as json
use Rattle.json.specs.Json.{Json, if_last, value}
use Rattle.json.specs.Tree.{json_tokens, items_tokens, members_tokens}
use Rattle.json.proofs.Unique.Spelling.{value-json_tokens_back}
use Rattle.serde_json.specs.Data as held
use Rattle.serde_json.specs.Data.{Data, Num}
use Rattle.serde_json.specs.Read.{number_of, of_json, of_items, read, max_depth}
use Rattle.serde_json.specs.Find.{get, as_object}
use Rattle.iss_field.specs.Objects.{if_object, object_of}

-- ---- a text has no more good tokens than bytes

-- a byte begins at most one lexeme
byte-lexemes : (m : Lexing) (c : Class) (x : ℕ) (xs : List ℕ) (k : Lexing → List Lexeme) (n : ℕ) → ((next : Lexing) → length (k next) ≤ n) → length (lex_byte m c x xs k) ≤ suc n
byte-lexemes between quote x xs k n h = omega (arith, h in_string)
byte-lexemes between _ x xs k n h = omega (arith, h between, h in_word)
byte-lexemes in_word operator x xs k n h = omega (arith, h between)
byte-lexemes in_word _ x xs k n h = omega (arith, h between, h in_word)
byte-lexemes in_string quote x xs k n h = omega (arith, h between)
byte-lexemes in_string _ x xs k n h = omega (arith, h in_string, h in_escape)
byte-lexemes in_escape c x xs k n h = omega (arith, h in_string)

-- a text has no more lexemes than bytes
text-lexemes : (m : Lexing) (xs : List ℕ) → length (lex m xs) ≤ length xs
unfolding lex
text-lexemes m [] = omega arith
text-lexemes m (x ∷ xs) = byte-lexemes m (class x) x xs (λ next. lex next xs) (length xs) (λ next. text-lexemes next xs)

-- one more, if the token is good
abbrev one_more : Bool → ℕ → ℕ
one_more good n = cond good (suc n) n

-- how many of the tokens are good
abbrev good : List Token → ℕ
good [] = 0
good (t ∷ ts) = one_more (is_good t) (good ts)

-- it is at most one more
one_more-above : (b : Bool) (n m : ℕ) → n ≤ m → one_more b n ≤ suc m
one_more-above true n m h = omega arith
one_more-above false n m h = omega arith

-- what comes before other tokens, if it is allowed, is at most one good token
allowed-good : (b : Bool) (t : Token) (k : Place → List Token) (next : Place) (n : ℕ) → good (k next) ≤ n → good (if_allowed b t k next) ≤ suc n
allowed-good true t k next n h = one_more-above (is_good t) (good (k next)) n h
allowed-good false t k next n h = omega arith

-- a token's lexeme makes at most one good token
token-good : (p : Place) (t : Token) (b : Bool) (k : Place → List Token) (n : ℕ) → ((next : Place) → good (k next) ≤ n) → good (place_token p t b k) ≤ suc n
token-good p begin_object b k n h = allowed-good (may_begin p) begin_object k fresh n (h fresh)
token-good p end_object b k n h = allowed-good (may_close p) end_object k after_value n (h after_value)
token-good p begin_array b k n h = allowed-good (may_begin p) begin_array k fresh n (h fresh)
token-good p end_array b k n h = allowed-good (may_close p) end_array k after_value n (h after_value)
token-good p (key s) b k n h = omega arith
token-good p (string s) true k n h = allowed-good (may_begin p) (key s) k after_key n (h after_key)
token-good p (string s) false k n h = allowed-good (may_begin p) (string s) k after_value n (h after_value)
token-good p (number s) b k n h = allowed-good (may_begin p) (number s) k after_value n (h after_value)
token-good p (boolean v) b k n h = allowed-good (may_begin p) (boolean v) k after_value n (h after_value)
token-good p null b k n h = allowed-good (may_begin p) null k after_value n (h after_value)
token-good p bad b k n h = omega arith

-- lexemes give no more good tokens than they are
lexemes-good : (p : Place) (ls : List Lexeme) → good (punctuate p ls) ≤ length ls
unfolding punctuate
lexemes-good fresh [] = omega arith
lexemes-good p (token t ∷ ls) = token-good p t (begins_colon ls) (λ next. punctuate next ls) (length ls) (λ next. lexemes-good next ls)
lexemes-good after_value (comma ∷ ls) = omega (arith, lexemes-good after_comma ls)
lexemes-good after_key (colon ∷ ls) = omega (arith, lexemes-good fresh ls)
lexemes-good _ _ = omega arith

-- a text has no more good tokens than bytes
text-good : (text : List ℕ) → good (tokens text) ≤ length text
text-good text = omega (arith, lexemes-good fresh (lex between text), text-lexemes between text)

-- ---- a value with a member has at least four good tokens

-- the value has a member of that name
abbrev pub has_member : List ℕ → Option Data → Bool
has_member name found = is_some (option_and_then (get name) found)

-- it is no less
one_more-below : (b : Bool) (n m : ℕ) → n ≤ m → n ≤ one_more b m
one_more-below true n m h = omega arith
one_more-below false n m h = h

-- tokens before others take none away
rest-good : (xs ys : List Token) → good ys ≤ good (xs ++ ys)
rest-good [] ys = omega arith
rest-good (x ∷ xs) ys = one_more-below (is_good x) (good ys) (good (xs ++ ys)) (rest-good xs ys)

-- a value has a good token
value-good : (j : Json) (ts : List Token) → suc (good ts) ≤ good (json_tokens j ++ ts)
value-good (json.array js) ts = omega (arith, rest-good (items_tokens js) ts)
value-good (json.object ms) ts = omega (arith, rest-good (members_tokens ms) ts)
value-good _ ts = omega arith

-- the members of an object have a good token
members-good : (ms : json.Members) → 1 ≤ good (members_tokens ms)
members-good json.no_members = omega arith
members-good (json.member k j ms) = omega arith

-- a number has no members
number_has_none : (name : List ℕ) (o : Option Num) → has_member name (option_map held.number o) ≡ false
number_has_none name None = refl
number_has_none name (Some n) = refl

-- an array has no members that have names
array_has_none : (name : List ℕ) (o : Option held.Items) → has_member name (option_map held.array o) ≡ false
array_has_none name None = refl
array_has_none name (Some ds) = refl

-- a value with a member has at least four good tokens: its brackets, a key and what a value has
four_with_member : (name : List ℕ) (j : Json) → has_member name (of_json j) ≡ true → 4 ≤ good (json_tokens j)
four_with_member name (json.number s) h = cc (number_has_none name (number_of s))
four_with_member name (json.array js) h = cc (array_has_none name (of_items js))
four_with_member name (json.object (json.member k j ms)) h = omega (arith, value-good j (members_tokens ms), members-good ms)
four_with_member name _ h = cc

-- tokens that read to a value with a member are at least four good ones
tokens_with_member : (name : List ℕ) (ts : List Token) (o : Option (Json × List Token)) → value max_depth ts ≡ o
    → has_member name (option_and_then of_json (option_and_then (λ p. if_last p.0 p.1) o)) ≡ true → 4 ≤ good ts
tokens_with_member name ts None is h = cc
tokens_with_member name ts (Some (j, [])) is h =
    subst (λ l. 4 ≤ good l) (sym (value-json_tokens_back max_depth ts [] j is ∙ append-nil (json_tokens j))) (four_with_member name j h)
tokens_with_member name ts (Some (j, t ∷ r)) is h = cc

-- a text that reads to a value with a member has at least four bytes
text_with_member : (name : List ℕ) (text : List ℕ) → has_member name (read text) ≡ true → 4 ≤ length text
text_with_member name text h = omega (arith, tokens_with_member name (tokens text) (value max_depth (tokens text)) refl h, text-good text)

-- ---- an object with a member

-- what is kept only under a test and has a member has it without the test
has_member-of_kept : (b : Bool) (d : Data) (name : List ℕ) → has_member name (cond b (Some d) None) ≡ true → has_member name (Some d) ≡ true
has_member-of_kept true d name h = h
has_member-of_kept false d name h = cc

-- if the object that a text is has a member, what the text reads to has it
has_member-of_object : (b : Bool) (name : List ℕ) (o : Option Data) → has_member name (option_and_then if_object (cond b o None)) ≡ true → has_member name o ≡ true
has_member-of_object false name o h = cc
has_member-of_object true name None h = cc
has_member-of_object true name (Some d) h = has_member-of_kept (is_some (as_object d)) d name h

-- a text that is an object with a member has at least four bytes
pub object_with_member : (name line : List ℕ) → has_member name (object_of line) ≡ true → 4 ≤ length line
unfolding object_of
object_with_member name line h = text_with_member name line (has_member-of_object (is_utf8 line) name (read line) h)
