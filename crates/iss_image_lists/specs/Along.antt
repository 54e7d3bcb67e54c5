-- Counters taken run by run, each run after those before it, as a loop takes them.
use Rattle.std.specs.Prelude.{ℕ, zero, suc, Bool, true, not, ◌==◌, List, Option, Some, None, option_map}
use Rattle.std.specs.List.{prefix_len}
use Rattle.std.specs.Str.{bytes_eq}
use Rattle.iss_model.specs.declared.counted.Counter.{Counter}
use Rattle.iss_model.specs.declared.setting.Window.{Window}
use Rattle.iss_codec.specs.Taking.{◌>>=◌, only, take_number}
use Rattle.iss_image_lists.specs.Taking.{take_things, take_counted}
use Rattle.iss_image_lists.specs.Readers.{with_prefix}

-- a counter is this control's
abbrev pub is_of : List ℕ → Counter → Bool
is_of control k = bytes_eq k.control control

-- how many counters at the front are of this control
abbrev pub number_first : List ℕ → List Counter → ℕ
number_first control ks = prefix_len (is_of control) ks

-- a control isn't that of the run before it
abbrev pub is_other : Option (List ℕ) → List ℕ → Bool
is_other None control = true
is_other (Some before) control = not (bytes_eq before control)

-- a number of counters that a run may have
abbrev pub is_some_number : ℕ → Bool
is_some_number n = not (n == 0)

-- a control that was taken, with all counters so far and the bytes that are left
abbrev pub taken_run : Option (List ℕ) → List Counter → List ℕ → Option ((List ℕ × List Counter) × List ℕ)
taken_run found counters left = option_map (λ control. ((control, counters), left)) found

-- How names are taken, and the window of each control.
module _ (take_name : List ℕ → Option (List ℕ × List ℕ)) (window_of : List ℕ → Option Window) where
  -- the control of a run, and all counters so far
  unfoldable pub take_run_onto : Option (List ℕ) → List Counter → List ℕ → Option ((List ℕ × List Counter) × List ℕ)
  take_run_onto before counters bytes = do
    control ← take_name bytes
    other ← only (is_other before) control
    window ← window_of other.0
    count ← take_number 4 other.1
    some ← only is_some_number count
    own ← with_prefix counters (take_things (take_counted take_name other.0 window) some.0 some.1)
    Some ((other.0, own.0), own.1)

  -- the counters of n runs after those so far
  unfoldable pub runs_onto : Option (List ℕ) → List Counter → ℕ → List ℕ → Option (List Counter × List ℕ)
  runs_onto before counters zero bytes = Some (counters, bytes)
  runs_onto before counters (suc n) bytes = do
    run ← take_run_onto before counters bytes
    runs_onto (Some run.0.0) run.0.1 n run.1
