-- Puts by what an edge tells.
use Rattle.std.proofs.Common.{ℕ, List, ◌++◌, Option, ◌∙◌}
use Rattle.iss_edge.specs.declared.outside.Answered.{Answered}
use Rattle.iss_edge.specs.World.{World, Told}
use Rattle.iss_edge.specs.Calls.{Writes, WritesPart, Syncs, SyncsPart, HearsNothing}
use Rattle.iss_edge.specs.Puts.{Put, one_put, Puts, PutsPart}
use Rattle.iss_edge.proofs.Tolds.{told_map, told_then}
use Rattle.iss_edge.proofs.PutLemmas.{put_made, put_unwritten, put_unsynced, puts_then, part_more, part_then}

pub put_is_made : (at : ℕ) (bytes : List ℕ) (x y z : Option World) → Told (Writes at bytes) x y → Told Syncs y z → Told (Puts (one_put at bytes)) x z
put_is_made at bytes x y z = told_then (Writes at bytes) Syncs (Puts (one_put at bytes)) x y z (put_made at bytes)

pub put_is_unwritten : (at : ℕ) (bytes : List ℕ) (x y : Option World) → Told (WritesPart at bytes) x y → Told (PutsPart (one_put at bytes)) x y
put_is_unwritten at bytes x y = told_map (WritesPart at bytes) (PutsPart (one_put at bytes)) x y (put_unwritten at bytes)

pub put_is_unsynced : (at : ℕ) (bytes : List ℕ) (x y z : Option World) → Told (Writes at bytes) x y → Told SyncsPart y z → Told (PutsPart (one_put at bytes)) x z
put_is_unsynced at bytes x y z = told_then (Writes at bytes) SyncsPart (PutsPart (one_put at bytes)) x y z (put_unsynced at bytes)

-- puts one after the other
pub told_puts : (puts more : List Put) (x y z : Option World) → Told (Puts puts) x y → Told (Puts more) y z → Told (Puts (puts ++ more)) x z
told_puts puts more x y z = told_then (Puts puts) (Puts more) (Puts (puts ++ more)) x y z (puts_then puts more)

-- the first of them made in part
pub told_part_more : (puts more : List Put) (x y : Option World) → Told (PutsPart puts) x y → Told (PutsPart (puts ++ more)) x y
told_part_more puts more x y = told_map (PutsPart puts) (PutsPart (puts ++ more)) x y (part_more puts more)

-- the first of them made, the others in part
pub told_part_then : (puts more : List Put) (x y z : Option World) → Told (Puts puts) x y → Told (PutsPart more) y z → Told (PutsPart (puts ++ more)) x z
told_part_then puts more x y z = told_then (Puts puts) (PutsPart more) (PutsPart (puts ++ more)) x y z (part_then puts more)

-- two calls that nothing is heard of
pub hears_nothing : (x y z : Option (List Answered)) → Told HearsNothing x y → Told HearsNothing y z → Told HearsNothing x z
hears_nothing x y z = told_then HearsNothing HearsNothing HearsNothing x y z (λ a b c p q. q ∙ p)
