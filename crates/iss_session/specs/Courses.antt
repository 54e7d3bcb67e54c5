-- What holds of a session's course: of what it goes through, what it does and what stands after it.
use Rattle.std.specs.Prelude.{◌≡◌, ℕ, ◌+◌, ◌≤◌, true, false, List, [], ◌∷◌, ◌++◌, Some}
use Rattle.iss_edge.specs.declared.outside.Channel.{Channel}
use Rattle.iss_edge.specs.declared.outside.Arrival.TheVariants.{Client}
use Rattle.iss_edge.specs.declared.outside.Answered.TheVariants.{Waited}
use Rattle.iss_edge.specs.Outer.{Outer}
use Rattle.iss_edge.specs.Stretches.{Step, actions_of, GoesOn}
use Rattle.iss_edge.specs.World.{sent_on}
use Rattle.iss_model.specs.declared.input.Record.{Record}
use Rattle.iss_model.specs.rules.Histories.{IsLegalAfter, history_of}
use Rattle.iss_model.specs.run.Runs.{Run, run_after}
use Rattle.iss_session.specs.Items.{HeardItem, Happening, hears, items_of}
use Rattle.iss_session.specs.Sessions.{Readers, Session, count, session_of}
use Rattle.iss_session.specs.Happenings.{session_after, session_steps, last_steps, Fits, IsComplete}
use Rattle.iss_session.specs.Accepted.{lines_judged, session_records}
use Rattle.iss_session.specs.Accounts.{has_no_gateway, IsLocal}
use Rattle.iss_session.specs.Levels.{LevelsRise}
use Rattle.iss_session.specs.Openings.{left_open, ReadsEvents}
use Rattle.iss_session.specs.Serving.{Serves, ServesAll}
use Rattle.iss_session.specs.Turns.{waits_in}

-- this holds of whatever a session goes through
abbrev pub InEachSession : (Readers → Session → List Happening → Type 0) → Type 0
InEachSession P = (read : Readers) (s : Session) (happenings : List Happening) → P read s happenings

-- this holds of whatever a run with this many turns goes through
abbrev pub InEachRun : (Readers → Run → ℕ → List Happening → Type 0) → Type 0
InEachRun P = (read : Readers) (run : Run) (turns : ℕ) (happenings : List Happening) → P read run turns happenings

-- the session after these happenings, and then those
abbrev pub session_then : Readers → Session → List Happening → List Happening → Session
session_then read s a b = session_after read (session_after read s a) b

-- if happenings fit, and others fit after them, both fit in a row
abbrev pub FitThen : Readers → Session → List Happening → List Happening → Type 0
FitThen read s a b = Fits read (session_after read s a) b → Fits read s (a ++ b)

-- what is done in these happenings, and then in those
abbrev pub steps_then : Readers → Session → List Happening → List Happening → List Step
steps_then read s a b = session_steps read s a ++ session_steps read (session_after read s a) b

-- what is done in these happenings, and the closes at the end
abbrev pub steps_to_end : Readers → Session → List Happening → List Step
steps_to_end read s happenings = session_steps read s happenings ++ last_steps (session_after read s happenings)

-- the session of a run after these happenings
abbrev pub run_session : Readers → Run → ℕ → List Happening → Session
run_session read run turns happenings = session_after read (session_of run turns) happenings

-- what a run does in these happenings, and the closes of the session that it ends with
abbrev pub whole_steps : Readers → Run → ℕ → List Happening → Session → List Step
whole_steps read run turns happenings t = session_steps read (session_of run turns) happenings ++ last_steps t

-- Two lists of happenings that are complete, and in which the same is heard, are the same.
abbrev pub HeardIsAll : Readers → Session → List Happening → List Happening → Type 0
HeardIsAll read s a b = IsComplete (session_after read s a) → IsComplete (session_after read s b) → items_of a ≡ items_of b → a ≡ b

-- the run after these happenings is the one after the lines that they judge
abbrev pub RunsAsLines : Readers → Session → List Happening → Type 0
RunsAsLines read s happenings = (session_after read s happenings).run ≡ run_after s.run (lines_judged read s happenings)

-- the records that stand after these happenings are those before them, and then those that they make
abbrev pub AddsRecords : Readers → Session → List Happening → Type 0
AddsRecords read s happenings =
    (session_after read s happenings).run.history.records ≡ s.run.history.records ++ session_records read s happenings

-- what stands in a session is the book of these records
abbrev pub IsBookOf : List Record → Session → Type 0
IsBookOf rs s = s.run.history ≡ history_of rs

-- if the book of some records stands, then after these happenings the book of those and of the records that they make does
abbrev pub AddsToBook : Readers → Session → List Happening → Type 0
AddsToBook read s happenings =
    (rs : List Record) → IsBookOf rs s → IsBookOf (rs ++ session_records read s happenings) (session_after read s happenings)

-- each record that these happenings make follows on those before it
abbrev pub AddsLegalRecords : Readers → Session → List Happening → Type 0
AddsLegalRecords read s happenings = IsLegalAfter s.run.history (session_records read s happenings)

-- the levels of what is done in these happenings rise from the number of records before them to that after them
abbrev pub RisesThrough : Readers → Session → List Happening → Type 0
RisesThrough read s happenings = LevelsRise (count s) (count (session_after read s happenings)) (session_steps read s happenings)

-- if these happenings fit, each wait of them takes a turn
abbrev pub WaitsTakeTurns : Readers → Session → List Happening → Type 0
WaitsTakeTurns read s happenings = Fits read s happenings → waits_in happenings + (session_after read s happenings).turns ≤ s.turns

-- an image that begins at a number of records stands for them
abbrev pub StartsStand : (starts stands : List ℕ → ℕ → Type 0) → ℕ → Type 0
StartsStand starts stands j = (bytes : List ℕ) → starts bytes j → stands bytes j

-- steps are a stretch that is good from a number of records to the same, and the run goes on after it
abbrev pub StaysGood : (starts stands : List ℕ → ℕ → Type 0) → ℕ → List Step → Type 0
StaysGood starts stands j steps = GoesOn starts stands starts j j steps

-- what is done in happenings up to this number of records is a stretch of that kind
abbrev pub StaysGoodUpTo : (starts stands : List ℕ → ℕ → Type 0) → ℕ → Readers → Session → List Happening → Type 0
StaysGoodUpTo starts stands j read s happenings =
    count (session_after read s happenings) ≤ j → StaysGood starts stands j (session_steps read s happenings)

-- it is, for each number of records such that an image that begins at it stands for them
abbrev pub StaysGoodFrom : (starts stands : List ℕ → ℕ → Type 0) → Readers → Session → List Happening → Type 0
StaysGoodFrom starts stands read s happenings =
    (j : ℕ) → StartsStand starts stands j → StaysGoodUpTo starts stands j read s happenings

-- the closes at the end of a session of at most this many records are such a stretch too
abbrev pub EndsGood : (starts stands : List ℕ → ℕ → Type 0) → ℕ → Session → Type 0
EndsGood starts stands j s = count s ≤ j → StaysGood starts stands j (last_steps s)

-- what went out on a channel, from one outside to another, is what these steps say
abbrev pub WentOut : ℕ → List Step → Outer → Outer → Type 0
WentOut ch steps a b = sent_on ch b.world.trace ≡ sent_on ch a.world.trace ++ sent_on ch (actions_of steps)

-- if one session was served to another, then what went out on each channel is what its happenings say
abbrev pub SendsItsTexts : Readers → Session → Session → Outer → Outer → Type 0
SendsItsTexts read s t a b = (ch : ℕ) (p : Serves read s t a b) → WentOut ch (session_steps read s p.happenings) a b

-- if a run was served to its end, then what went out on each channel is what its happenings and its last closes say
abbrev pub SendsAllTexts : Readers → Run → ℕ → Session → Outer → Outer → Type 0
SendsAllTexts read run turns t a b =
    (ch : ℕ) (p : ServesAll read run turns t a b) → WentOut ch (whole_steps read run turns p.happenings t) a b

-- if these happenings are all of a run, a channel that wasn't open before them is closed in the end
abbrev pub DialledIsClosed : Readers → Run → ℕ → List Happening → ℕ → Type 0
DialledIsClosed read run turns happenings n =
    Fits read (session_of run turns) happenings → IsComplete (run_session read run turns happenings)
    → left_open n false (actions_of (steps_to_end read (session_of run turns) happenings)) ≡ false

-- a channel that wasn't open before is closed in the end, if events alone are read
abbrev pub ClosesDialled : Readers → Run → ℕ → List Happening → Type 0
ClosesDialled read run turns happenings = (n : ℕ) → ReadsEvents read → DialledIsClosed read run turns happenings n

-- a client comes on this channel
abbrev pub ComesOn : HeardItem → Channel → Type 0
ComesOn item ch = item.answer ≡ Waited (Some (Client ch))

-- If a client comes on a channel with an item, and happenings, that item and further ones are all of a run, the channel is closed in the end.
abbrev pub ClientIsClosed : Readers → Run → ℕ → List Happening → List Happening → HeardItem → Channel → Type 0
ClientIsClosed read run turns before after item ch =
    ComesOn item ch → Fits read (session_of run turns) (before ++ hears item ∷ after)
    → IsComplete (run_session read run turns (before ++ hears item ∷ after))
    → left_open ch.0 true (actions_of (steps_to_end read (run_session read run turns (before ++ hears item ∷ [])) after)) ≡ false

-- a channel that a client comes on after these happenings is closed in the end, if events alone are read
abbrev pub ClosesClients : Readers → Run → ℕ → List Happening → Type 0
ClosesClients read run turns before =
    (after : List Happening) (item : HeardItem) (ch : Channel) → ReadsEvents read → ClientIsClosed read run turns before after item ch

-- a session whose book has no product of the gateway sends it nothing, and awaits nothing of it
abbrev pub IsLocalWithNoGateway : Session → Type 0
IsLocalWithNoGateway s = has_no_gateway s.run.history.rows ≡ true → IsLocal s

-- the session that a run on the book of some records comes to is of that kind
abbrev pub StaysLocal : Readers → Run → ℕ → List Happening → Type 0
StaysLocal read run turns happenings =
    (rs : List Record) → run.history ≡ history_of rs → IsLocalWithNoGateway (run_session read run turns happenings)
