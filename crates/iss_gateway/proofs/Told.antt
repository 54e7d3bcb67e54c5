-- A body that is written is read by the issuer as what was given.
use Rattle.std.proofs.Common.{◌≡◌, ℕ, ◌^◌, ◌<◌, pos, nat_lt, Bool, true, cond, List, [], ◌∷◌, ◌++◌, codes, Option, Some, None, refl, sym, ap, ap₂, ◌∙◌, arith}
use Rattle.std.specs.List.{list_all}
use Rattle.std.proofs.lemmas.Bool.{and_parts}
use Rattle.std.proofs.lemmas.Bool.Decides.{nat_tests}
use Rattle.json.specs.Lex.{Lexeme, token, comma, colon, string_token, lex, between, in_string, punctuate, fresh, tokens}
use Rattle.json.specs.Text.{content, plain}
use Rattle.json.specs.Token as json_token
use Rattle.json.specs.Token.{Token}
use Rattle.json.proofs.Printed.Strings.{content-escape, lex-escape}
use Rattle.serde_json.specs.Data.{Data, no_members, object}
use Rattle.serde_json.specs.Read.{read}
use Rattle.iss_model.specs.declared.call.Opened.{Opened}
use Rattle.iss_model.specs.declared.input.Outcome.{Outcome}
use Rattle.iss_model.specs.declared.input.Outcome.TheVariants as outcome
use Rattle.iss_model.specs.Amounts.{amount_text}
use Rattle.iss_model.specs.Forms.{is_amount}
use Rattle.iss_model.specs.texts.CallTokens.{call_uuid}
use Rattle.iss_model.specs.texts.GatewayTexts.{token_text}
use Rattle.iss_model.specs.texts.Wordings.{Member, with_text}
use Rattle.iss_jit.specs.Outcomes.{json_of, outcome_of_json, outcome_of}
use Rattle.iss_jit.specs.Echoes.{IsEcho}
use Rattle.iss_jit.proofs.CallTexts as calls
use Rattle.iss_jit.proofs.Echoes.{echo}
use Rattle.iss_gateway.specs.declared.message.Given.TheVariants.{Funded, Refused}
use Rattle.iss_gateway.specs.Messages.{message_asked}
use Rattle.iss_gateway.specs.Bodies.{body_of}
use Rattle.iss_gateway.specs.Laws.{IsTold, IsToldAsGiven}
use Rattle.iss_gateway.proofs.BodyTexts.{funded_is}
use Rattle.iss_gateway.proofs.Objects.{data_with, read_by_tokens}
use Rattle.iss_gateway.proofs.Plain.{AreBare, AreAscii, all_bare, amount_bare, call_bare, bare_escape, bare_ascii, ascii_more, ascii_utf8}

-- ---- tokens

text_then : (s r : List ℕ) → AreBare s → lex between (34 ∷ (s ++ 34 ∷ r)) ≡ token (json_token.string s) ∷ lex between r
unfolding lex
text_then s r h =
    let same = sym (bare_escape s h) in
    ap₂ (λ (o : Option (List ℕ)) (l : List Lexeme). token (string_token o) ∷ l) (ap (λ (t : List ℕ). content plain (t ++ 34 ∷ r)) same ∙ content-escape s r)
    (ap (λ (t : List ℕ). lex in_string (t ++ 34 ∷ r)) same ∙ lex-escape s r)

-- the text of a body
abbrev told_text : List ℕ → List ℕ → List ℕ
told_text a t = codes "{\"amount\":\"" ++ (a ++ (codes "\",\"token\":\"" ++ (t ++ codes "\"}\n")))

told_lexemes : (a t : List ℕ) → AreBare a → AreBare t → lex between (told_text a t)
    ≡ token json_token.begin_object ∷ token (json_token.string (codes "amount")) ∷ colon ∷ token (json_token.string a) ∷ comma ∷ token (json_token.string (codes "token")) ∷ colon
    ∷ token (json_token.string t) ∷ token json_token.end_object ∷ []
unfolding lex content
told_lexemes a t h k =
    ap (λ (l : List Lexeme). token json_token.begin_object ∷ token (json_token.string (codes "amount")) ∷ colon ∷ l)
    (text_then a (codes ",\"token\":\"" ++ (t ++ codes "\"}\n")) h
    ∙ ap (λ (l : List Lexeme). token (json_token.string a) ∷ comma ∷ token (json_token.string (codes "token")) ∷ colon ∷ l) (text_then t (codes "}\n") k))

told_tokens : (a t : List ℕ) → AreBare a → AreBare t → tokens (told_text a t)
    ≡ json_token.begin_object ∷ json_token.key (codes "amount") ∷ json_token.string a ∷ json_token.key (codes "token") ∷ json_token.string t ∷ json_token.end_object ∷ []
unfolding punctuate
told_tokens a t h k = ap (punctuate fresh) (told_lexemes a t h k)

-- ---- the value of a body

abbrev told_members : List ℕ → List ℕ → List Member
told_members a t = with_text (codes "amount") a ∷ with_text (codes "token") t ∷ []

abbrev told_data : List ℕ → List ℕ → Data
told_data a t = object (data_with (told_members a t) no_members)

all_ascii : (text : List ℕ) → list_all (λ b. nat_lt b 128) text ≡ true → AreAscii text
all_ascii [] h = tt
all_ascii (b ∷ bs) h = let parts = and_parts (nat_lt b 128) (list_all (λ x. nat_lt x 128) bs) h in (less b parts.0, all_ascii bs parts.1)
  where
    less : (n : ℕ) → nat_lt n 128 ≡ true → n < 128
    less n e = grind (arith, nat_tests)

told_ascii : (a t : List ℕ) → AreBare a → AreBare t → AreAscii (told_text a t)
told_ascii a t h k =
    ascii_more (codes "{\"amount\":\"") (a ++ (codes "\",\"token\":\"" ++ (t ++ codes "\"}\n"))) (all_ascii (codes "{\"amount\":\"") refl)
    (ascii_more a (codes "\",\"token\":\"" ++ (t ++ codes "\"}\n")) (bare_ascii a h)
    (ascii_more (codes "\",\"token\":\"") (t ++ codes "\"}\n") (all_ascii (codes "\",\"token\":\"") refl)
    (ascii_more t (codes "\"}\n") (bare_ascii t k) (all_ascii (codes "\"}\n") refl))))

told_json : (a t : List ℕ) → AreBare a → AreBare t → json_of (told_text a t) ≡ Some (told_data a t)
unfolding json_of
told_json a t h k =
    ap (λ (b : Bool). cond b (read (told_text a t)) None) (ascii_utf8 (told_text a t) (told_ascii a t h k))
    ∙ read_by_tokens (told_text a t) (told_members a t)
    (all_bare (codes "amount") refl, (h, (all_bare (codes "token") refl, (k, tt))))
    (told_tokens a t h k)

-- ---- what it comes to

amount_small : (n : ℕ) → is_amount n ≡ true → n < 2 ^ 64
amount_small n h = grind (arith, nat_tests)

body_json : (instance : ℕ) (o : Opened) (amount : ℕ) → is_amount amount ≡ true
    → json_of (body_of (message_asked instance o) (Funded amount)) ≡ Some (told_data (amount_text (pos amount) o.currency) (token_text instance o.call.0))
body_json instance o amount ok =
    let a = amount_text (pos amount) o.currency in
    ap json_of (funded_is (call_uuid instance o.call.0) amount o.currency ∙ ap (told_text a) (calls.token instance o.call.0))
    ∙ told_json a (token_text instance o.call.0) (amount_bare amount o.currency (amount_small amount ok)) (call_bare instance o.call.0)

has_echo : (instance : ℕ) (o : Opened) (amount : ℕ) → IsEcho instance o amount (told_data (amount_text (pos amount) o.currency) (token_text instance o.call.0))
has_echo instance o amount = record { token = refl; amount_is = refl }

told_of : (instance : ℕ) (o : Opened) (amount : ℕ) (said : Outcome) → is_amount amount ≡ true
    → outcome_of_json instance o (Some (told_data (amount_text (pos amount) o.currency) (token_text instance o.call.0))) ≡ said → IsTold instance o (Funded amount) said
unfolding outcome_of
told_of instance o amount said ok is = ap (outcome_of_json instance o) (body_json instance o amount ok) ∙ is

told_refused : (instance : ℕ) (o : Opened) → IsTold instance o Refused outcome.Refused
unfolding outcome_of
told_refused instance o = refl

pub told_as_given : (instance : ℕ) (o : Opened) → IsToldAsGiven instance o
told_as_given instance o =
    record {
      funded = λ ok. told_of instance o o.amount outcome.Funded ok ((echo instance o).funds _ ok (has_echo instance o o.amount));
      part = λ amount ok less permitted. told_of instance o amount (outcome.Partial o.currency amount) ok ((echo instance o).funds_part _ amount ok permitted less (has_echo instance o amount));
      refused = told_refused instance o;
    }
