-- Calls and notices as a core's calls return them.
use Rattle.std.specs.Prelude.{ℕ, ◌==◌, List, find, filter, map, Option}
use Rattle.std.specs.Option.{option_map}
use Rattle.iss_model.specs.declared.call.CallId.{CallId}
use Rattle.iss_model.specs.declared.call.Notice.{Notice}
use Rattle.iss_model.specs.declared.call.Opened.{Opened}
use Rattle.iss_model.specs.declared.input.Record.{Record}
use Rattle.iss_model.specs.Sums.{account_key}
use Rattle.iss_model.specs.rules.Activity.{is_asked}
use Rattle.iss_model.specs.rules.Facts.{Facts, call_in}
use Rattle.iss_model.specs.rules.Histories.{history_of}
use Rattle.iss_model.specs.texts.BalanceLines.{accounts_of}

-- the notice of this number that isn't acknowledged yet
abbrev pub pending_notice : Facts → ℕ → Option Notice
pending_notice f number = find (λ notice. notice.number == number) f.pending

-- the calls that are asked, by number
abbrev pub asked_calls : Facts → List CallId
asked_calls f = map (λ c. c.opened.call) (filter is_asked f.calls)

-- the calls that are asked as they were opened, by number
abbrev pub asked_openings : Facts → List Opened
asked_openings f = map (λ c. c.opened) (filter is_asked f.calls)

-- the numbers of the notices that aren't acknowledged yet, in their order
abbrev pub pending_numbers : Facts → List ℕ
pending_numbers f = map (λ notice. notice.number) f.pending

-- the call of this number as it was opened
abbrev pub opening_in : Facts → ℕ → Option Opened
opening_in f number = option_map (λ c. c.opened) (call_in f number)

-- the keys of the accounts that the book of these records moves money to or from
abbrev pub booked_keys : List Record → List (List ℕ)
booked_keys rs = map account_key (accounts_of (history_of rs).rows)
