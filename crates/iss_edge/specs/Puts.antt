-- Puts: each writes some bytes and makes them last, before anything else is written.
use Rattle.std.specs.Prelude.{◌≡◌, ℕ, suc, ◌+◌, ◌≤◌, Bool, true, false, List, [], ◌∷◌, ◌++◌, length}
use Rattle.iss_edge.specs.declared.outside.Action.{Action}
use Rattle.iss_edge.specs.declared.outside.Action.TheVariants.{Write, Sync, Emit, Dial, Close}
use Rattle.iss_edge.specs.World.{World}
use Rattle.iss_edge.specs.Disk.{splice}

-- these bytes from this place on
pub record Put : Type 0 where
  pub at : ℕ
  pub bytes : List ℕ

-- one put alone
abbrev pub one_put : ℕ → List ℕ → List Put
one_put at bytes = record { at = at; bytes = bytes } ∷ []

-- the device's bytes once these puts were made, in order
abbrev pub after_puts : List ℕ → List Put → List ℕ
after_puts bytes [] = bytes
after_puts bytes (put ∷ puts) = after_puts (splice put.at put.bytes bytes) puts

-- the actions of these puts if all went well
abbrev pub actions_of_puts : List Put → List Action
actions_of_puts [] = []
actions_of_puts (put ∷ puts) = Write put.at put.bytes true ∷ Sync true ∷ actions_of_puts puts

-- the actions of these puts, or a prefix of them, of which the last may have failed
abbrev pub Ran : List Put → List Action → Type 0
Ran puts [] = Unit {0}
Ran [] (action ∷ more) = ⊥
Ran (put ∷ puts) (write ∷ []) = (ok : Bool) × (write ≡ Write put.at put.bytes ok)
Ran (put ∷ puts) (write ∷ sync ∷ []) =
    (ok : Bool) × (write ≡ Write put.at put.bytes true) × (sync ≡ Sync ok)
Ran (put ∷ puts) (write ∷ sync ∷ action ∷ more) =
    (write ≡ Write put.at put.bytes true) × (sync ≡ Sync true) × Ran puts (action ∷ more)

-- all of these puts were made, and all else is the same
pub record Puts (puts : List Put) (a b : World) : Type 0 where
  pub device : b.device ≡ after_puts a.device puts
  pub left : b.left ≡ a.left
  pub arrivals : b.arrivals ≡ a.arrivals
  pub trace : b.trace ≡ a.trace ++ actions_of_puts puts

-- A prefix of these puts was made, the next one maybe in part. What is left on the channels is the same, and what the device reads is open.
pub record PutsPart (puts : List Put) (a b : World) : Type 0 where
  pub left : b.left ≡ a.left
  pub actions : List Action
  pub trace : b.trace ≡ a.trace ++ actions
  pub ran : Ran puts actions

-- this many syncs succeeded before, and these actions have more
abbrev pub syncs_after : ℕ → List Action → ℕ
syncs_after n [] = n
syncs_after n (Write at bytes ok ∷ actions) = syncs_after n actions
syncs_after n (Sync true ∷ actions) = syncs_after (suc n) actions
syncs_after n (Sync false ∷ actions) = syncs_after n actions
syncs_after n (Emit ch bytes ok ∷ actions) = syncs_after n actions
syncs_after n (Dial ch ∷ actions) = syncs_after n actions
syncs_after n (Close ch ∷ actions) = syncs_after n actions

-- These puts are within the device. At each of their moments, begun with these bytes at rest, what a stop leaves has P, at the
-- number of syncs that succeeded until then: the bytes before each put, those with any bytes where the put goes, and at last all.
abbrev pub Holds : (ℕ → List ℕ → Type 0) → ℕ → List ℕ → List Put → Type 0
Holds P n bytes [] = P n bytes
Holds P n bytes (put ∷ puts) =
    (put.at + length put.bytes ≤ length bytes)
    × P n bytes
    × ((torn : List ℕ) → length torn ≡ length put.bytes → P n (splice put.at torn bytes))
    × Holds P (suc n) (splice put.at put.bytes bytes) puts
