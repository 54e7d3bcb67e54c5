-- Lists whose tokens are places in a table: how they are taken, and what it is that a reader took one.
use Rattle.std.specs.Prelude.{◌≡◌, ℕ, List, [], Option, None, Vec}
use Rattle.std.specs.Global.{Global}
use Rattle.iss_model.specs.declared.counted.Counter.{Counter}
use Rattle.iss_model.specs.declared.call.Notice.{Notice}
use Rattle.iss_model.specs.declared.currency.Currency.{Currency}
use Rattle.iss_model.specs.declared.setting.Window.{Window}
use Rattle.iss_codec.specs.declared.reader.Reader.{Reader}
use Rattle.iss_codec.specs.Places.{place_bytes, take_place}
use Rattle.iss_image_lists.specs.Along.{runs_onto, take_run_onto, taken_run}
use Rattle.iss_image_lists.specs.Readers.{taken_things}
use Rattle.iss_image_lists.specs.Runs.{Run}
use Rattle.iss_image_lists.specs.Spelling.{counted_bytes, list_bytes, run_bytes}
use Rattle.iss_image_lists.specs.Taking.{take_counters, take_notices}

-- a reader took this list, or found none
abbrev pub ListTaken : {A : Type 0} → (List ℕ → Option (List A × List ℕ)) → Reader → Reader → Option (Vec A Global) → Type 0
ListTaken taker before after found = taken_things found after.bytes.now ≡ taker before.bytes.now

-- the bytes of a run but its control, each token as its place
abbrev pub own_bytes : List (List ℕ) → List Counter → List ℕ
own_bytes tokens ks = list_bytes (counted_bytes (place_bytes tokens)) ks

-- the bytes of a run, each token as its place
abbrev pub run_by_place : List (List ℕ) → Run → List ℕ
run_by_place tokens run = run_bytes (place_bytes tokens) run

-- counters, with tokens by their places and these windows of controls
abbrev pub counters_in : List (List ℕ) → (List ℕ → Option Window) → List ℕ → Option (List Counter × List ℕ)
counters_in tokens window_of bytes = take_counters (take_place tokens) window_of bytes

-- the counters of some runs, likewise
abbrev pub runs_in : List (List ℕ) → (List ℕ → Option Window) → ℕ → List ℕ → Option (List Counter × List ℕ)
runs_in tokens window_of count bytes = runs_onto (take_place tokens) window_of None [] count bytes

-- notices, with tokens by their places and these holders of transactions
abbrev pub notices_in : List (List ℕ) → (List ℕ → Option (List ℕ × Currency)) → List ℕ → Option (List Notice × List ℕ)
notices_in tokens holder_of bytes = take_notices (take_place tokens) holder_of bytes

-- a reader took a run onto these counters, and found its control, if it isn't that of the run before it
abbrev pub RunTaken : List (List ℕ) → (List ℕ → Option Window) → Option (List ℕ) → Vec Counter Global → Vec Counter Global → Reader → Reader → Option (List ℕ) → Type 0
RunTaken tokens window_of last ks all before after found =
    taken_run found all.items after.bytes.now ≡ take_run_onto (take_place tokens) window_of last ks.items before.bytes.now
