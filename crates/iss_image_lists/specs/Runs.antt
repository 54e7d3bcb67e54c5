-- Counters cut into runs of one control each.
use Rattle.std.specs.Prelude.{ℕ, Bool, true, false, not, ◌&&◌, List, [], ◌∷◌, if◌then◌else◌}
use Rattle.std.specs.List.{flat_map}
use Rattle.std.specs.Str.{bytes_eq}
use Rattle.iss_model.specs.declared.counted.Counter.{Counter}

-- a control with its counters
pub record Run : Type 0 where
  pub control : List ℕ
  pub counters : List Counter

-- a counter as a run of its own
abbrev pub run_of : Counter → Run
run_of k = record { control = k.control; counters = k ∷ [] }

-- runs with one more counter before them: it joins the first run if that is its control's
abbrev pub with_counter : Counter → List Run → List Run
with_counter k [] = run_of k ∷ []
with_counter k (run ∷ runs) =
    if bytes_eq k.control run.control then record { control = run.control; counters = k ∷ run.counters } ∷ runs else run_of k ∷ run ∷ runs

-- the runs of counters that stand next to each other and have one control
abbrev pub runs_of : List Counter → List Run
runs_of [] = []
runs_of (k ∷ ks) = with_counter k (runs_of ks)

-- the counters of these runs, one after the other
abbrev pub counters_of : List Run → List Counter
counters_of runs = flat_map (λ run. run.counters) runs

-- no run is this control's and begins these
abbrev pub begins_apart : List ℕ → List Run → Bool
begins_apart control [] = true
begins_apart control (run ∷ runs) = not (bytes_eq control run.control)

-- no two runs next to each other have one control
abbrev pub are_apart : List Run → Bool
are_apart [] = true
are_apart (run ∷ runs) = begins_apart run.control runs && are_apart runs

-- there is one at least
abbrev pub are_some : List Counter → Bool
are_some [] = false
are_some (k ∷ ks) = true

-- it has a counter at least
abbrev pub has_counters : Run → Bool
has_counters run = are_some run.counters
