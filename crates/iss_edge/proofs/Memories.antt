-- Why the calls of an outside in memory do what is said of them.
use Rattle.std.proofs.Common.{◌≡◌, ℕ, ◌+◌, ◌≤◌, false, List, [], ◌∷◌, ◌++◌, length, take, drop, Result, Ok, Err, OnOk, OnErr, inl, inr, refl, sym, arith, length-drop}
use Rattle.std.proofs.lemmas.List.{take-append-drop, length-take-le}
use Rattle.iss_edge.specs.declared.outside.Channel.{Channel}
use Rattle.iss_edge.specs.declared.outside.Action.{Action}
use Rattle.iss_edge.specs.declared.outside.Action.TheVariants.{Write, Emit}
use Rattle.iss_edge.specs.Calls.{EmitsPart, WritesPart}
use Rattle.iss_edge.specs.declared.outside.Script.{Script}
use Rattle.iss_edge.proofs.Splices.{spliced_same}

-- a prefix of the bytes was noted as sent, or nothing was
pub memory_emits_part : {T E : Type 0} (noted : Result T E) (ch : Channel) (count : ℕ) (bytes device : List ℕ) (left : ℕ → List ℕ) (arrivals : List Script) (before now : List Action) → OnOk noted (now ≡ before ++ Emit ch (take count bytes) false ∷ []) → OnErr noted (now ≡ before) → EmitsPart ch bytes (record { device = device; left = left; arrivals = arrivals; trace = before }) (record { device = device; left = left; arrivals = arrivals; trace = now })
memory_emits_part (Ok t) ch count bytes device left arrivals before now ok err =
    record {
      device = refl;
      left = refl;
      arrivals = refl;
      trace =
          inr
          (record {
            prefix = take count bytes;
            back = drop count bytes;
            cut = sym (take-append-drop count bytes);
            added = ok;
          });
    }
memory_emits_part (Err e) ch count bytes device left arrivals before now ok err =
    record { device = refl; left = refl; arrivals = refl; trace = inl err }

-- a failed write was noted and the device left as it was, or nothing was noted
pub memory_writes_part : {T E : Type 0} (noted : Result T E) (at : ℕ) (bytes device : List ℕ) (left : ℕ → List ℕ) (arrivals : List Script) (before now : List Action) → at + length bytes ≤ length device → OnOk noted (now ≡ before ++ Write at bytes false ∷ []) → OnErr noted (now ≡ before) → WritesPart at bytes (record { device = device; left = left; arrivals = arrivals; trace = before }) (record { device = device; left = left; arrivals = arrivals; trace = now })
memory_writes_part (Ok t) at bytes device left arrivals before now within ok err =
    let room : length bytes ≤ length (drop at device) = omega (arith, length-drop at device) in
    record {
      left = refl;
      arrivals = refl;
      how =
          inr
          (record {
            torn = take (length bytes) (drop at device);
            whole = length-take-le (length bytes) (drop at device) room;
            device = sym (spliced_same at (length bytes) device room);
            added = ok;
          });
    }
memory_writes_part (Err e) at bytes device left arrivals before now within ok err =
    record { left = refl; arrivals = refl; how = inl (record { device = refl; left = refl; arrivals = refl; trace = err }) }
