-- A body that spells an object of a token and an amount is read as that object.
use Rattle.std.proofs.Common.{◌≡◌, ℕ, true, List, [], ◌∷◌, ◌++◌, codes, Some, option_and_then, refl, ap, ◌∙◌}
use Rattle.json.specs.Json.{string, no_members, member}
use Rattle.serde_json.specs.Read.{of_json, read}
use Rattle.iss_field.specs.Names.{name_text}
use Rattle.iss_field.specs.declared.name.Name.TheVariants as name
use Rattle.iss_field.specs.PlainObjects.{member_text, spelled}
use Rattle.iss_field.proofs.PlainRead.{followed, read_more, spelled_text}
use Rattle.iss_jit.specs.Plain.{funding}

token_name : name_text name.Token ≡ codes "token"
unfolding name_text
token_name = refl

amount_name : name_text name.Amount ≡ codes "amount"
unfolding name_text
amount_name = refl

pub funding_read : (text token amount after_token after_amount : List ℕ)
    → text ≡ member_text 123 (name_text name.Token) (string token) after_token
    → after_token ≡ member_text 44 (name_text name.Amount) (string amount) after_amount
    → after_amount ≡ 125 ∷ []
    → read text ≡ Some (funding token amount)
funding_read text token amount after_token after_amount first second end =
    let one = member (codes "token") (string token) no_members in
    let both = followed one (codes "amount") (string amount) in
    let token_spelled : text ≡ member_text 123 (codes "token") (string token) after_token =
    first ∙ ap (λ name. member_text 123 name (string token) after_token) token_name in
    let amount_spelled : after_token ≡ member_text 44 (codes "amount") (string amount) after_amount =
    second ∙ ap (λ name. member_text 44 name (string amount) after_amount) amount_name in
    let one_read : text ≡ spelled true one ++ after_token =
    read_more text no_members 123 (codes "token") (string token) text _ after_token refl refl token_spelled refl in
    let both_read : text ≡ spelled true both ++ after_amount =
    read_more text one 44 (codes "amount") (string amount) after_token _ after_amount one_read refl amount_spelled refl in
    ap (option_and_then of_json) (spelled_text one (codes "amount") (string amount) text (tt, (tt, tt)) (both_read ∙ ap (λ rest. spelled true both ++ rest) end))
