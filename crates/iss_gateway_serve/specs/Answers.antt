-- The gateway's responses, by what it heard before.
use Rattle.std.specs.Prelude.{ℕ, ◌-◌, List}
use Rattle.iss_http.specs.Messages.{respond}
use Rattle.iss_gateway.specs.declared.books.TheConstants.{MOST_HEARD}
use Rattle.iss_gateway.specs.Answering.{after_body, status_for, body_for}
use Rattle.iss_gateway.specs.Books.{count_of}
use Rattle.iss_gateway.specs.Rules.{Reference}
use Rattle.iss_attend.specs.Attendances.{Manner}

-- the response to a body
abbrev pub response_to : Reference → List ℕ → List ℕ
response_to r text = respond (status_for r text) (body_for r text)

-- for how many messages more there is room
abbrev pub room_of : Reference → ℕ
room_of r = MOST_HEARD - count_of r.books

-- how the gateway answers bodies: each at once, with what it gives after the bodies before it
abbrev pub gateway_manner : Manner Reference
gateway_manner = record { after = after_body; response = response_to }
