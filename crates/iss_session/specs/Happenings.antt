-- What a session goes through: each happening makes a session of a session, with what is done meanwhile.
use Rattle.std.specs.Prelude.{◌≡◌, ℕ, Bool, true, false, List, [], ◌∷◌, ◌++◌, map, Option, Some, None}
use Rattle.iss_edge.specs.declared.outside.Channel.{Channel}
use Rattle.iss_edge.specs.declared.outside.Action.TheVariants.{Close}
use Rattle.iss_edge.specs.declared.outside.Answered.{Answered}
use Rattle.iss_edge.specs.declared.outside.Answered.TheVariants.{Took}
use Rattle.iss_edge.specs.Stretches.{Step}
use Rattle.iss_http.specs.Requests.{IsHopelessRequest}
use Rattle.iss_session.specs.Items.{HeardItem, Happening, hears, judges, judging, nothing, is_answer_to, leveled, IsTornEmit}
use Rattle.iss_session.specs.Links.{Link, MayReadEarly}
use Rattle.iss_session.specs.Sessions.{Readers, Session, count, next_of}
use Rattle.iss_session.specs.Judgements.{judged_first}
use Rattle.iss_session.specs.Hearings.{Change, change_to, is_reading, is_waiting, bytes_on, link_at, after_item}

-- what one happening makes of a session
abbrev pub session_change : Readers → Session → Happening → Change
session_change read s (hears item) = after_item read s item s.desk.tasks
session_change read s judges = change_to (judged_first s s.queue) []

-- a client's bytes may be answered early only if no head begins with them, whatever comes after them
abbrev pub MayAnswerEarly : Session → Channel → Option (List ℕ) → Bool → Type 0
MayAnswerEarly s ch (Some (b ∷ piece)) true = is_reading ch s.readers ≡ true → IsHopelessRequest (bytes_on ch s.readers ++ b ∷ piece)
MayAnswerEarly s ch _ _ = Unit {0}

-- the gateway's bytes may be read as garbled early only if the link allows it
abbrev pub MayEndEarly : Option Link → Option (List ℕ) → Bool → Type 0
MayEndEarly None got early = Unit {0}
MayEndEarly (Some link) got early = MayReadEarly link got early

-- the same on a channel, if no client reads or waits on it
abbrev pub MayEndEarlyOn : Session → Channel → Option (List ℕ) → Bool → Type 0
MayEndEarlyOn s ch got early =
    is_reading ch s.readers ≡ false → is_waiting ch s.desk.waiting ≡ false → MayEndEarly (link_at ch s.links) got early

-- what an item tells of being early is allowed
abbrev pub MayBeEarly : Session → HeardItem → Answered → Type 0
MayBeEarly s item (Took ch got) = MayAnswerEarly s ch got item.early × MayEndEarlyOn s ch got item.early
MayBeEarly s item _ = Unit {0}

-- the item answers the call that comes next
pub record IsNext (s : Session) (item : HeardItem) : Type 0 where
  pub answers : is_answer_to (next_of s) item.answer ≡ true
  pub torn : IsTornEmit (next_of s) item.answer item.torn
  pub early : MayBeEarly s item item.answer

-- the happening is the next one
abbrev pub Follows : Session → Happening → Type 0
Follows s (hears item) = IsNext s item
Follows s judges = next_of s ≡ judging

-- the session after these happenings
abbrev pub session_after : Readers → Session → List Happening → Session
session_after read s [] = s
session_after read s (happening ∷ happenings) = session_after read (session_change read s happening).session happenings

-- what was done in these happenings
abbrev pub session_steps : Readers → Session → List Happening → List Step
session_steps read s [] = []
session_steps read s (happening ∷ happenings) =
    (session_change read s happening).steps ++ session_steps read (session_change read s happening).session happenings

-- these happenings fit: each of them is the next one
abbrev pub Fits : Readers → Session → List Happening → Type 0
Fits read s [] = Unit {0}
Fits read s (happening ∷ happenings) = Follows s happening × Fits read (session_change read s happening).session happenings

-- nothing comes next: what was heard is complete
abbrev pub IsComplete : Session → Type 0
IsComplete s = next_of s ≡ nothing

-- these channels are closed
abbrev pub closings : ℕ → List Channel → List Step
closings level channels = map (λ ch. leveled level (Close ch)) channels

-- at the end every channel that is still open is closed: clients whose requests aren't whole, clients that wait, and links
abbrev pub last_steps : Session → List Step
last_steps s =
    closings (count s) (map (λ r. r.ch) s.readers)
    ++ closings (count s) (map (λ w. w.ch) s.desk.waiting)
    ++ closings (count s) (map (λ l. l.ch) s.links)
