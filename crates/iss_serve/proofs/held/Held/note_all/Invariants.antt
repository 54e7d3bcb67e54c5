use Rattle.std.proofs.Common.{◌≡◌, drop}
use Rattle.iss_serve.specs.Held.{seen_held, noted, IsStillHeld}
use Rattle.iss_serve.proofs.held.Held.note_all.Given as goal

abbrev pub invariant-loop-one : goal.invariant-loop-one
invariant-loop-one l = record {
  now : noted (drop l.one-index l.gone) (seen_held l.self) ≡ noted l.gone (seen_held l.initial.self);
  still : IsStillHeld l.initial.self l.self;
}
