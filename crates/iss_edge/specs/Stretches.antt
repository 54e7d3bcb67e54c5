-- Stretches of a run: what a stop may leave at each of their moments, beside what went out until then.
use Rattle.std.specs.Prelude.{◌≡◌, ℕ, ◌≤◌, Bool, true, false, List, [], ◌∷◌, ◌++◌}
use Rattle.iss_edge.specs.declared.outside.Action.{Action}
use Rattle.iss_edge.specs.declared.outside.Action.TheVariants.{Write, Sync, Emit, Dial, Close}
use Rattle.iss_edge.specs.World.{World}
use Rattle.iss_edge.specs.Disk.{Disk, after_actions, IsAtRest, IsImage}

-- An action, and if it emits, the level of its text: how many records must stand once a byte of the text went out.
pub record Step : Type 0 where
  pub action : Action
  pub level : ℕ

abbrev pub actions_of : List Step → List Action
actions_of [] = []
actions_of (step ∷ steps) = step.action ∷ actions_of steps

-- the level that counts: that of the text, if a byte of it went out
abbrev pub sent_level : Action → ℕ → ℕ
sent_level (Write at bytes ok) level = 0
sent_level (Sync ok) level = 0
sent_level (Emit ch [] ok) level = 0
sent_level (Emit ch (byte ∷ bytes) ok) level = level
sent_level (Dial ch) level = 0
sent_level (Close ch) level = 0

-- each text of which a byte went out has at most this level
abbrev pub SentUpTo : ℕ → List Step → Type 0
SentUpTo i [] = Unit {0}
SentUpTo i (step ∷ steps) = (sent_level step.action step.level ≤ i) × SentUpTo i steps

-- the image stands for a number of records from j to k
pub record StandsUpTo (stands : List ℕ → ℕ → Type 0) (j k : ℕ) (image : List ℕ) : Type 0 where
  pub i : ℕ
  pub low : j ≤ i
  pub high : i ≤ k
  pub stand : stands image i

-- the image stands for a number of records from j to k, at least the level of each text of which a byte went out
pub record ShowsUpTo (stands : List ℕ → ℕ → Type 0) (j k : ℕ) (sent : List Step) (image : List ℕ) : Type 0 where
  pub i : ℕ
  pub low : j ≤ i
  pub high : i ≤ k
  pub stand : stands image i
  pub told : SentUpTo i sent

-- Good from j records to k. If it begins at rest with j, each image of each moment stands for j to k, and for all sent by then.
pub record IsGood (starts stands : List ℕ → ℕ → Type 0) (j k : ℕ) (steps : List Step) : Type 0 where
  pub each : (d : Disk) → IsAtRest d → starts d.bytes j → (before rest : List Step) → steps ≡ before ++ rest
      → (image : List ℕ) → IsImage (after_actions d (actions_of before)) image → ShowsUpTo stands j k before image

-- Good from j records to k, and the run may go on after it: the device is then at rest, with k.
pub record GoesOn (starts stands ends : List ℕ → ℕ → Type 0) (j k : ℕ) (steps : List Step) : Type 0 where
  pub good : IsGood starts stands j k steps
  pub at_rest : (d : Disk) → IsAtRest d → starts d.bytes j → IsAtRest (after_actions d (actions_of steps))
  pub rest : (d : Disk) → IsAtRest d → starts d.bytes j → ends (after_actions d (actions_of steps)).bytes k

-- a stretch after which the run goes on, and a good one from its end, are one good stretch
abbrev pub StretchesJoin : (starts stands mids : List ℕ → ℕ → Type 0) → Type 0
StretchesJoin starts stands mids =
    (j k l : ℕ) (a b : List Step) → GoesOn starts stands mids j k a → IsGood mids stands k l b → IsGood starts stands j l (a ++ b)

-- if the run goes on after the second one too, it goes on after both
abbrev pub StretchesGoOn : (starts stands mids ends : List ℕ → ℕ → Type 0) → Type 0
StretchesGoOn starts stands mids ends =
    (j k l : ℕ) (a b : List Step) → GoesOn starts stands mids j k a → GoesOn mids stands ends k l b → GoesOn starts stands ends j l (a ++ b)

-- an action is neither a write nor a sync
abbrev pub is_still : Action → Bool
is_still (Write at bytes ok) = false
is_still (Sync ok) = false
is_still (Emit ch bytes ok) = true
is_still (Dial ch) = true
is_still (Close ch) = true

-- none of these is a write or a sync
abbrev pub AreStill : List Action → Type 0
AreStill [] = Unit {0}
AreStill (action ∷ actions) = (is_still action ≡ true) × AreStill actions

-- what was done has neither a write nor a sync, and the device is the same
pub record AddsStill (a b : World) : Type 0 where
  pub device : b.device ≡ a.device
  pub left : b.left ≡ a.left
  pub added : List Action
  pub grew : b.trace ≡ a.trace ++ added
  pub still : AreStill added

-- all of these actions, at one level
abbrev pub with_levels : ℕ → List Action → List Step
with_levels level [] = []
with_levels level (action ∷ actions) = record { action = action; level = level } ∷ with_levels level actions
