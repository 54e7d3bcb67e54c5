-- The words in which worked sessions are told.
use Rattle.std.specs.Prelude.{◌≡◌, ℕ, true, false, List, [], ◌∷◌, ◌++◌, codes, Option, Some, None}
use Rattle.std.specs.List.{filter_map}
use Prim.Native.String.{String}
use Rattle.iss_edge.specs.declared.outside.Channel.{Channel}
use Rattle.iss_edge.specs.declared.outside.Arrival.TheVariants as arrival
use Rattle.iss_edge.specs.declared.outside.Action.{Action}
use Rattle.iss_edge.specs.declared.outside.Action.TheVariants.{Emit, Dial, Close}
use Rattle.iss_edge.specs.declared.outside.Answered.{Answered}
use Rattle.iss_edge.specs.declared.outside.Answered.TheVariants.{Waited, Took, Dialled, Emitted}
use Rattle.iss_edge.specs.Stretches.{Step, actions_of}
use Rattle.iss_session.specs.Items.{Happening, hears}
use Rattle.iss_session.specs.Sessions.{Session, count}
use Rattle.iss_session.specs.Happenings.{session_after, session_steps, last_steps, Fits, IsComplete}
use Rattle.iss_session_examples.specs.Program.{program_readers}

-- A session: its start, what happens, all that is done on channels up to the last closes, the level of each text, and how many records then stand.
pub record WorkedSession : Type 0 where
  pub start : Session
  pub happenings : List Happening
  pub done : List Action
  pub levels : List ℕ
  pub records : ℕ

abbrev emit_level : Action → ℕ → Option ℕ
emit_level (Emit ch bytes ok) level = Some level
emit_level _ level = None

-- the levels of the texts among these steps
abbrev pub levels_of : List Step → List ℕ
levels_of steps = filter_map (λ step. emit_level step.action step.level) steps

-- what happens fits and is complete, and just this was done
pub record IsPlayed (w : WorkedSession) : Type 0 where
  pub fits : Fits program_readers w.start w.happenings
  pub complete : IsComplete (session_after program_readers w.start w.happenings)
  pub done : actions_of (session_steps program_readers w.start w.happenings ++ last_steps (session_after program_readers w.start w.happenings)) ≡ w.done
  pub levels : levels_of (session_steps program_readers w.start w.happenings) ≡ w.levels
  pub records : count (session_after program_readers w.start w.happenings) ≡ w.records

-- What happens

abbrev pub channel : ℕ → Channel
channel n = record { 0 = n }

-- an answer of the outside that leaves nothing open
abbrev pub answer : Answered → Happening
answer answered = hears (record { answer = answered; early = false; torn = None })

-- a client comes
abbrev pub comes : ℕ → Happening
comes n = answer (Waited (Some (arrival.Client (channel n))))

-- a channel has bytes or its end
abbrev pub is_ready : ℕ → Happening
is_ready n = answer (Waited (Some (arrival.Ready (channel n))))

abbrev pub time : ℕ → Happening
time at = answer (Waited (Some (arrival.Time at)))

-- nothing comes
abbrev pub idle : Happening
idle = answer (Waited (Some arrival.Idle))

-- nothing comes any more
abbrev pub over : Happening
over = answer (Waited (Some arrival.End))

-- these bytes are taken
abbrev pub gives : ℕ → List ℕ → Happening
gives n bytes = answer (Took (channel n) (Some bytes))

-- these bytes are taken, and no head begins with them: that is told at once
abbrev pub gives_no_head : ℕ → List ℕ → Happening
gives_no_head n bytes = hears (record { answer = Took (channel n) (Some bytes); early = true; torn = None })

-- the channel is at its end
abbrev pub ends : ℕ → Happening
ends n = answer (Took (channel n) (Some []))

-- the take fails
abbrev pub take_fails : ℕ → Happening
take_fails n = answer (Took (channel n) None)

abbrev pub dialled : ℕ → Happening
dialled n = answer (Dialled (Some (channel n)))

abbrev pub dial_fails : Happening
dial_fails = answer (Dialled None)

-- a text goes out
abbrev pub goes_out : ℕ → Happening
goes_out n = answer (Emitted (channel n) true)

-- only this much of a text goes out
abbrev pub tears : ℕ → List ℕ → Happening
tears n prefix = hears (record { answer = Emitted (channel n) false; early = false; torn = Some prefix })

-- a client comes with a request whose bytes all come at once
abbrev pub asks : ℕ → List ℕ → List Happening → List Happening
asks n bytes rest = comes n ∷ is_ready n ∷ gives n bytes ∷ rest

-- a text goes to the gateway on a new channel
abbrev pub sent_to_gateway : ℕ → List Happening → List Happening
sent_to_gateway n rest = dialled n ∷ goes_out n ∷ rest

-- What is sent

-- a client's request with a body of this length
abbrev pub post : String → String → List ℕ
post size body = codes "POST /events HTTP/1.1\r\nHost: x\r\nContent-Length: " ++ codes size ++ codes "\r\n\r\n" ++ codes body

-- a purchase of card c1 as a line of 107 bytes
abbrev pub purchase : String → String → List ℕ
purchase token amount =
    codes "POST /events HTTP/1.1\r\nHost: x\r\nContent-Length: 107\r\n\r\n{\"type\":\"authorization\",\"token\":\""
    ++ codes token ++ codes "\",\"card\":\"c1\",\"currency\":\"USD\",\"amount\":\"" ++ codes amount ++ codes "\",\"mcc\":\"5411\",\"mid\":\"m1\"}"

-- a purchase of card c1 of which the gateway may fund a part, as a line of 122 bytes
abbrev pub partial_purchase : String → String → List ℕ
partial_purchase token amount =
    codes "POST /events HTTP/1.1\r\nHost: x\r\nContent-Length: 122\r\n\r\n{\"type\":\"authorization\",\"token\":\""
    ++ codes token ++ codes "\",\"card\":\"c1\",\"currency\":\"USD\",\"amount\":\"" ++ codes amount ++ codes "\",\"mcc\":\"5411\",\"mid\":\"m1\",\"partial\":true}"

-- user u1 as a line of 40 bytes
abbrev pub new_user : List ℕ
new_user = post "40" "{\"type\":\"user\",\"token\":\"t1\",\"user\":\"u1\"}"

-- a response goes out whole, and its channel is closed
abbrev pub response : ℕ → String → String → String → List Action → List Action
response n status size line rest =
    Emit (channel n)
    (codes "HTTP/1.1 " ++ codes status ++ codes "\r\nContent-Type: application/json\r\nContent-Length: " ++ codes size
    ++ codes "\r\nConnection: close\r\n\r\n" ++ codes line ++ 10 ∷ []) true
    ∷ Close (channel n) ∷ rest

-- a message goes to the gateway on a channel of its own
abbrev pub message : ℕ → String → List ℕ → List Action → List Action
message n size text rest =
    Dial (channel n)
    ∷ Emit (channel n)
    (codes "POST /jit HTTP/1.1\r\nHost: localhost\r\nContent-Type: application/json\r\nContent-Length: " ++ codes size
    ++ codes "\r\nConnection: close\r\n\r\n" ++ text) true
    ∷ rest

-- a request of this length for a purchase, by its number, of a device with instance 7; these members stand before its token
abbrev request_with : String → String → ℕ → String → String → String → List Action → List Action
request_with size permission n number token amount rest =
    message n size
    (codes "{\"amount\":\"" ++ codes amount ++ codes "\",\"card\":\"c1\",\"currency\":\"USD\",\"event\":\"" ++ codes token
    ++ codes "\",\"mcc\":\"5411\",\"method\":\"pgfs.authorization\",\"mid\":\"m1\",\"number\":" ++ codes number ++ codes permission
    ++ codes ",\"token\":\"00000000-0007-8000-8000-00000000000" ++ codes number ++ codes "\",\"txn\":\"" ++ codes token ++ codes "\",\"user\":\"u1\"}")
    rest

-- the request for a purchase
abbrev pub request : ℕ → String → String → String → List Action → List Action
request = request_with "195" ""

-- the request for a purchase of which the gateway may fund a part
abbrev pub partial_request : ℕ → String → String → String → List Action → List Action
partial_request = request_with "210" ",\"partial\":true"

-- the notice that call 1 for 60.00 has ended
abbrev pub void : ℕ → List Action → List Action
void n rest =
    message n "151"
    (codes "{\"amount\":\"60.00\",\"currency\":\"USD\",\"gateway\":\"0.00\",\"method\":\"x.void\",\"notice\":1,\"token\":\"00000000-0007-8000-8000-000000000001\",\"txn\":\"a1\",\"user\":\"u1\"}")
    rest

-- an answer of the gateway without a body
abbrev pub bare_answer : String → List ℕ
bare_answer status = codes "HTTP/1.1 " ++ codes status ++ codes "\r\nContent-Length: 0\r\n\r\n"

abbrev pub closes : ℕ → List Action → List Action
closes n rest = Close (channel n) ∷ rest
