use Rattle.std.specs.Prelude.{◌≡◌, ℕ, ◌-◌, ◌^◌, ◌<◌, ◌≤◌, ◌==◌, ◌⊎◌, List, [], ◌∷◌, ◌++◌, Option, Some, None, Result, OnErr, if◌then◌else◌}
use Rattle.iss_edge.specs.declared.outside.Action.{Action}
use Rattle.iss_edge.specs.declared.outside.Action.TheVariants.{Write, Sync, Emit, Dial, Close}
use Rattle.iss_edge.specs.declared.outside.Script.{Script}

-- What an edge may tell: the device's bytes, and the bytes that can still be taken from each channel. It may also tell what waits are
-- still to bring, and all that was done so far.
pub record World : Type 0 where
  pub device : List ℕ
  pub left : ℕ → List ℕ
  pub arrivals : List Script
  pub trace : List Action

-- what is told at the end was told at the start too, and the two are related by R
abbrev pub Told : {W : Type 0} → (W → W → Type 0) → Option W → Option W → Type 0
Told R None None = Unit {0}
Told R (Some a) None = Unit {0}
Told R None (Some b) = ⊥
Told R (Some a) (Some b) = R a b

-- what this reads of an edge is the same after a call as before it
abbrev pub Stays : {E A : Type 0} → (E → A) → E → E → Type 0
Stays part before after = part after ≡ part before

-- how often calls have failed: on the device, on input, on output, on clients' channels and on dialled channels
pub record Faults : Type 0 where
  pub disk : ℕ
  pub input : ℕ
  pub output : ℕ
  pub peer : ℕ
  pub link : ℕ

-- no count has fallen
pub record Later (before now : Faults) : Type 0 where
  pub disk : before.disk ≤ now.disk
  pub input : before.input ≤ now.input
  pub output : before.output ≤ now.output
  pub peer : before.peer ≤ now.peer
  pub link : before.link ≤ now.link

-- a count is higher than before, or stands at the last value that it can have
abbrev pub Rose : ℕ → ℕ → Type 0
Rose before now = (before < now) ⊎ (now ≡ 2 ^ 64 - 1)

-- no count has fallen, and if the call failed its own count rose
pub record HasCause {T E : Type 0} (kind : Faults → ℕ) (before now : Faults) (result : Result T E) : Type 0 where
  pub later : Later before now
  pub failed : OnErr result (Rose (kind before) (kind now))

-- the bytes that went out on a channel by one action
abbrev pub sent_by : ℕ → Action → List ℕ
sent_by ch (Write at bytes ok) = []
sent_by ch (Sync ok) = []
sent_by ch (Emit to bytes ok) = if to.0 == ch then bytes else []
sent_by ch (Dial to) = []
sent_by ch (Close to) = []

-- the bytes that went out on a channel by these actions, those of failed ones too
abbrev pub sent_on : ℕ → List Action → List ℕ
sent_on ch [] = []
sent_on ch (action ∷ actions) = sent_by ch action ++ sent_on ch actions
