-- What a client's bytes come to.
use Rattle.std.specs.Prelude.{◌≡◌, Bool, true, List, [], ◌∷◌, ◌++◌, ℕ, Some, Result, Ok, Err, IsTrue}
use Rattle.iss_edge.specs.declared.outside.Channel.{Channel}
use Rattle.iss_http.specs.Requests.{request, IsHopelessRequest}
use Rattle.iss_http.specs.declared.statuses.TheConstants.{BAD_REQUEST}
use Rattle.iss_http.specs.Messages.{respond}
use Rattle.iss_model.specs.declared.input.Input.{Input}
use Rattle.iss_model.specs.Forms.{is_in_form}
use Rattle.iss_session.specs.Desks.{to_reply}
use Rattle.iss_session.specs.Sessions.{Session, OpenRequest, with_tasks, with_queued}
use Rattle.iss_session.specs.Hearings.{bytes_on, request_early, after_request}
use Rattle.iss_session_examples.specs.Program.{program_readers}
use Rattle.iss_serve.specs.declared.requests.Request.{Request}
use Rattle.iss_serve.specs.declared.requests.Request.TheVariants.{More, Says, Bad}

-- the session once a client's bytes came to this, and these clients are left whose requests aren't whole
abbrev pub requested : Session → Channel → List OpenRequest → Request → Session
requested s ch clients More = record s { readers = clients }
requested s ch clients (Says i) = with_queued (record s { readers = clients }) (record { input = i; client = Some ch })
requested s ch clients (Bad text) = with_tasks (record s { readers = clients }) (to_reply ch text.items ∷ [])

-- A client's request was read on: in each session with these clients, its bytes come to this. They are answered early only if no head
-- begins with them.
pub record ReadsOn (ch : Channel) (piece : List ℕ) (before after : List OpenRequest) (said : Request) : Type 0 where
  pub early : Bool
  pub may : early ≡ true → IsHopelessRequest (bytes_on ch before ++ piece)
  pub is : (s : Session) → s.readers ≡ before
      → after_request program_readers s ch (bytes_on ch before ++ piece) (request_early early (request (bytes_on ch before ++ piece))) ≡ requested s ch after said

-- the input of a line, or the response that tells its fault
abbrev pub SaysLine : Result Input (List ℕ) → Request → Type 0
SaysLine line More = ⊥
SaysLine line (Says i) = line ≡ Ok i
SaysLine (Ok i) (Bad text) = ⊥
SaysLine (Err line) (Bad text) = text.items ≡ respond BAD_REQUEST line

-- an input that is said is in form
abbrev pub IsRequestInForm : Request → Type 0
IsRequestInForm More = Unit {0}
IsRequestInForm (Says i) = IsTrue (is_in_form i)
IsRequestInForm (Bad text) = Unit {0}
