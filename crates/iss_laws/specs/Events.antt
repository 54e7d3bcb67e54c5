-- Each accepted event is decided once, or waits for the one call that is asked for it.
use Rattle.std.specs.Prelude.{ℕ, ◌+◌, Bool, true, false, ◌&&◌, ◌==◌, List, length, filter, Option, Some, None}
use Rattle.std.specs.List.{list_all}
use Rattle.std.specs.Str.{bytes_eq}
use Rattle.iss_model.specs.declared.entry.Entry.{Entry}
use Rattle.iss_model.specs.declared.entry.Entry.TheVariants as entry
use Rattle.iss_model.specs.Inputs.{event_token}
use Rattle.iss_model.specs.rules.Activity.{is_asked}
use Rattle.iss_model.specs.rules.Facts.{Facts}
use Rattle.iss_model.specs.rules.Histories.{History, history_facts}
use Rattle.iss_laws.specs.Tests.{times}

-- an entry decides this event
abbrev pub decides : List ℕ → Entry → Bool
decides token (entry.Decided event verdict) = bytes_eq event token
decides token _ = false

-- how many calls are asked for this event
abbrev pub calls_asked_for : Facts → List ℕ → ℕ
calls_asked_for f token = length (filter (λ c. is_asked c && bytes_eq c.opened.event token) f.calls)

-- an event is decided once and waits for no call, or isn't decided and waits for one
abbrev pub is_decided_or_waits : History → Option (List ℕ) → Bool
is_decided_or_waits h None = true
is_decided_or_waits h (Some token) = times (decides token) h.rows + calls_asked_for (history_facts h) token == 1

-- each accepted event is
abbrev pub each_event_decided : History → Bool
each_event_decided h = list_all (λ a. is_decided_or_waits h (event_token a.input)) (history_facts h).accepted
