-- The world and the heard list as one, for clauses that speak of both.
use Rattle.std.specs.Prelude.{◌≡◌, List, [], ◌∷◌, ◌++◌, ℕ, false, Option, Some, None}
use Rattle.iss_edge.specs.declared.outside.Channel.{Channel}
use Rattle.iss_edge.specs.declared.outside.Action.{Action}
use Rattle.iss_edge.specs.declared.outside.Action.TheVariants.{Emit}
use Rattle.iss_edge.specs.declared.outside.Answered.{Answered}
use Rattle.iss_edge.specs.declared.outside.Answered.TheVariants.{Emitted}
use Rattle.iss_edge.specs.World.{World, Told}

-- what an edge tells of the world, and what its calls answered so far
pub record Outer : Type 0 where
  pub world : World
  pub heard : List Answered

-- told if both are
abbrev pub outer_of : Option World → Option (List Answered) → Option Outer
outer_of None heard = None
outer_of (Some world) None = None
outer_of (Some world) (Some heard) = Some (record { world = world; heard = heard })

-- the world and the answers that an edge tells, if it tells both
abbrev pub outer : {E : Type 0} → (E → Option World) → (E → Option (List Answered)) → E → Option Outer
outer told heard edge = outer_of (told edge) (heard edge)

-- The world and the answers are told after a call only if both were told before it, and R relates the two pairs.
abbrev pub ToldBoth : {E : Type 0} → (E → Option World) → (E → Option (List Answered)) → (Outer → Outer → Type 0) → E → E → Type 0
ToldBoth told heard R before after = Told R (outer told heard before) (outer told heard after)

-- the device is the same, these actions were added, and these answers were heard
pub record Adds (actions : List Action) (answers : List Answered) (a b : Outer) : Type 0 where
  pub device : b.world.device ≡ a.world.device
  pub trace : b.world.trace ≡ a.world.trace ++ actions
  pub heard : b.heard ≡ a.heard ++ answers

-- the action by which a prefix of a text went out, if one was added
abbrev pub torn_actions : Channel → Option (List ℕ) → List Action
torn_actions ch None = []
torn_actions ch (Some prefix) = Emit ch prefix false ∷ []

-- if a part of a text went out, it was a prefix of it
abbrev pub IsTornFrom : List ℕ → Option (List ℕ) → Type 0
IsTornFrom text None = Unit {0}
IsTornFrom text (Some prefix) = (back : List ℕ) × (text ≡ prefix ++ back)

-- an emit of this text failed, and only this went out
pub record Tears (ch : Channel) (text : List ℕ) (a b : Outer) : Type 0 where
  pub torn : Option (List ℕ)
  pub is_prefix : IsTornFrom text torn
  pub adds : Adds (torn_actions ch torn) (Emitted ch false ∷ []) a b
