-- What a client whose request isn't whole makes of further bytes.
use Rattle.std.specs.Prelude.{◌≡◌, ℕ, List, ◌++◌, Option, option_map, Result, IfOk, IfErr, IfNone}
use Rattle.iss_http.specs.declared.faults.FeedFault.{FeedFault}
use Rattle.iss_http.specs.Requests.{Request, answered, IsCauseAs}
use Rattle.iss_session.specs.Sessions.{OpenRequest}

-- Read in this way, a client's bytes came to this: its request's body once that is whole, or why there is none. As long as it isn't whole, the bytes are kept.
pub record HasRead {V : Type 0} (read : List ℕ → Request) (text_of : V → List ℕ) (before : OpenRequest) (piece : List ℕ) (told : Result (Option V) FeedFault) (after : OpenRequest) : Type 0 where
  pub body : IfOk told (λ said. read (before.bytes ++ piece) ≡ answered (option_map text_of said))
  pub fault : IfErr told (IsCauseAs read (before.bytes ++ piece))
  pub kept : IfOk told (λ said. IfNone said (after ≡ record before { bytes = before.bytes ++ piece }))
