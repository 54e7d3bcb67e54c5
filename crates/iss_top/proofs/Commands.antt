-- What holds of a run by its words.
use Rattle.std.proofs.Common.{ℕ, inl, inr, List, length, Option, Result, Ok, Err, refl, ap, arith, length-append}
use Rattle.iss_edge.specs.World.{World, Told, Faults}
use Rattle.iss_edge.proofs.Tolds.{told_map}
use Rattle.iss_top.specs.declared.stop.Stop.{Stop}
use Rattle.iss_top.specs.declared.stop.Stop.TheVariants as stop
use Rattle.iss_top.specs.Statuses.{stop_status}
use Rattle.iss_top.specs.Runs.{Ran, IsCaused, EndsWell}

ends_well : (ended : Result (Unit {0}) Stop) (before now : Faults) (a b : World) → IsCaused before now ended → Ran (stop_status ended) a b → EndsWell before now (stop_status ended) a b
ends_well (Ok done) before now a b caused run input output short = inl refl
ends_well (Err stop.Input) before now a b caused run input output short = absurd (input caused.cause)
ends_well (Err stop.Device) before now a b caused run input output short = absurd caused.cause
ends_well (Err stop.Disk) before now a b caused run input output short = absurd caused.cause
ends_well (Err stop.Output) before now a b caused run input output short = absurd (output caused.cause)
ends_well (Err stop.Memory) before now a b caused run input output short = inr refl
ends_well (Err stop.InputLong) before now a b caused run input output short =
    absurd (omega (arith, short, run.long.0 refl, ap (λ (l : List ℕ). length l) run.takes.bytes, length-append {A = ℕ} run.took (b.left 0)))

pub told_ends_well : (ended : Result (Unit {0}) Stop) (before now : Faults) (x y : Option World) → IsCaused before now ended → Told (Ran (stop_status ended)) x y → Told (EndsWell before now (stop_status ended)) x y
told_ends_well ended before now x y caused run =
    told_map (Ran (stop_status ended)) (EndsWell before now (stop_status ended)) x y (λ a b. ends_well ended before now a b caused) run
