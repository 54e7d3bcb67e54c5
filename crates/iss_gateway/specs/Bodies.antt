-- The bodies in which a gateway tells what it gives.
use Rattle.std.specs.Prelude.{ℕ, pos, List, [], ◌∷◌, codes}
use Rattle.uuid.specs.Text.{hyphenated_text, lower}
use Rattle.iss_model.specs.declared.currency.Currency.{Currency}
use Rattle.iss_model.specs.Amounts.{amount_text}
use Rattle.iss_model.specs.texts.Wordings.{with_text, line_of, fault_line}
use Rattle.iss_gateway.specs.declared.message.Message.{Message}
use Rattle.iss_gateway.specs.declared.message.Message.TheVariants.{Ask, Note}
use Rattle.iss_gateway.specs.declared.message.Given.{Given}
use Rattle.iss_gateway.specs.declared.message.Given.TheVariants.{Funded, Refused, Acked}

-- so much of a currency is funded for a token
unfoldable pub funded_line : List ℕ → ℕ → Currency → List ℕ
funded_line token amount currency =
    line_of (with_text (codes "amount") (amount_text (pos amount) currency) ∷ with_text (codes "token") (hyphenated_text lower token) ∷ [])

-- nothing is funded
unfoldable pub refused_line : List ℕ
refused_line = line_of (with_text (codes "reply") (codes "refused") ∷ [])

-- a notice has acted
unfoldable pub acked_line : List ℕ
acked_line = line_of (with_text (codes "reply") (codes "acked") ∷ [])

-- The body that tells what is given for a message. Nothing is funded for a note, which is acknowledged.
abbrev pub body_of : Message → Given → List ℕ
body_of (Ask token amount currency user partial) (Funded funded) = funded_line token funded currency
body_of (Note number token currency user gateway) (Funded funded) = acked_line
body_of m Refused = refused_line
body_of m Acked = acked_line

-- the body that tells that a text is no message
unfoldable pub unread_line : List ℕ
unread_line = fault_line (codes "TEXT")
