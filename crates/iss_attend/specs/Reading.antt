-- What a client's bytes come to, and how a response goes out.
use Rattle.std.specs.Prelude.{◌≡◌, ℕ, Bool, true, List, [], ◌∷◌, ◌++◌, Option, Some, None}
use Rattle.iss_edge.specs.declared.outside.Channel.{Channel}
use Rattle.iss_edge.specs.declared.outside.Action.TheVariants.{Close}
use Rattle.iss_edge.specs.declared.outside.Answered.TheVariants.{Emitted}
use Rattle.iss_edge.specs.Outer.{Outer, Adds}
use Rattle.iss_edge.specs.Stretches.{actions_of}
use Rattle.iss_http.specs.Requests.{jit_request, IsHopelessRequest}
use Rattle.iss_session.specs.Items.{emits, emit_steps, leveled, IsTornEmit}
use Rattle.iss_session.specs.Hearings.{bytes_on, request_early}
use Rattle.iss_session.specs.Sessions.{OpenRequest}
use Rattle.iss_attend.specs.Attendances.{Manner, Attendance, at_rest, replying, after_request}

-- what stands once a client's bytes came to a response, or to nothing yet
abbrev pub replied : {G : Type 0} → G → ℕ → List OpenRequest → Channel → Option (List ℕ) → Attendance G
replied g turns readers ch None = at_rest g turns readers
replied g turns readers ch (Some text) = replying g turns readers ch text

-- A client's request was read on, and its bytes come to this, whatever waits are left. They are answered early only if no head begins with
-- them.
pub record ReadsOn {G : Type 0} (manner : Manner G) (ch : Channel) (piece : List ℕ) (before after : List OpenRequest) (was is : G)
    (said : Option (List ℕ)) : Type 0 where
  pub early : Bool
  pub may : early ≡ true → IsHopelessRequest (bytes_on ch before ++ piece)
  pub leads : (turns : ℕ)
      → after_request manner (at_rest was turns before) ch (bytes_on ch before ++ piece) (request_early early (jit_request (bytes_on ch before ++ piece)))
      ≡ replied is turns after ch said

-- A response went out, or a part of it, and then its channel was closed.
pub record Replies (ch : Channel) (text : List ℕ) (a b : Outer) : Type 0 where
  pub ok : Bool
  pub torn : Option (List ℕ)
  pub is_torn : IsTornEmit (emits ch text) (Emitted ch ok) torn
  pub adds : Adds (actions_of (emit_steps 0 ch text ok torn ++ leveled 0 (Close ch) ∷ [])) (Emitted ch ok ∷ []) a b
