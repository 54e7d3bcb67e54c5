-- What goes out of texts that are sent one after the other on a channel for lines.
use Rattle.std.specs.Prelude.{◌≡◌, ◌⊎◌, ℕ, List, [], ◌∷◌, ◌++◌, true, false, map, OnErr, Result}
use Rattle.iss_edge.specs.declared.outside.Action.{Action}
use Rattle.iss_edge.specs.declared.outside.Action.TheVariants.{Emit}
use Rattle.iss_edge.specs.declared.outside.Answered.{Answered}
use Rattle.iss_edge.specs.declared.outside.Answered.TheVariants.{Emitted}
use Rattle.iss_edge.specs.World.{World, Faults, Later, Rose}
use Rattle.iss_edge.specs.Outer.{Outer, Adds, Tears}

-- an emit on channel 0 for each text
abbrev pub emits : List (List ℕ) → List Action
emits texts = map (λ text. Emit (record { 0 = 0 }) text true) texts

-- what was done is a failed emit on channel 0 of a prefix of the first text
pub record FailsAt (texts : List (List ℕ)) (actions : List Action) : Type 0 where
  pub text : List ℕ
  pub others : List (List ℕ)
  pub first : texts ≡ text ∷ others
  pub prefix : List ℕ
  pub back : List ℕ
  pub cut : text ≡ prefix ++ back
  pub action : actions ≡ Emit (record { 0 = 0 }) prefix false ∷ []

-- What was done is an emit on channel 0 for each of some first texts. After them nothing was done, or an emit of a prefix of the next failed.
pub record GoOut (texts : List (List ℕ)) (actions : List Action) : Type 0 where
  pub whole : List (List ℕ)
  pub rest : List (List ℕ)
  pub cut : texts ≡ whole ++ rest
  pub last : List Action
  pub done : actions ≡ emits whole ++ last
  pub ended : (last ≡ []) ⊎ FailsAt rest last

-- the device is as it was, and each of these texts went out by an emit of its own
pub record SendsEach (texts : List (List ℕ)) (a b : World) : Type 0 where
  pub device : b.device ≡ a.device
  pub grew : b.trace ≡ a.trace ++ emits texts

-- the device is as it was, and of these texts as many went out as came to it
pub record SendsSome (texts : List (List ℕ)) (a b : World) : Type 0 where
  pub device : b.device ≡ a.device
  pub actions : List Action
  pub grew : b.trace ≡ a.trace ++ actions
  pub out : GoOut texts actions

-- nothing was done but that each of these texts went out
pub record Says (texts : List (List ℕ)) (a b : World) : Type 0 where
  pub left : b.left ≡ a.left
  pub arrivals : b.arrivals ≡ a.arrivals
  pub sends : SendsEach texts a b

-- nothing was done but that some of these texts went out
pub record SaysSome (texts : List (List ℕ)) (a b : World) : Type 0 where
  pub left : b.left ≡ a.left
  pub arrivals : b.arrivals ≡ a.arrivals
  pub sends : SendsSome texts a b

-- for each text that its emit succeeded
abbrev pub emitted : List (List ℕ) → List Answered
emitted texts = map (λ text. Emitted (record { 0 = 0 }) true) texts

-- each of these texts went out by an emit of its own, each of which was heard to succeed
abbrev pub SentEach : List (List ℕ) → Outer → Outer → Type 0
SentEach texts = Adds (emits texts) (emitted texts)

-- Some first ones of these texts went out, each by an emit that was heard to succeed. The emit of the next one was heard to fail.
pub record StopsAt (texts : List (List ℕ)) (a b : Outer) : Type 0 where
  pub whole : List (List ℕ)
  pub text : List ℕ
  pub rest : List (List ℕ)
  pub cut : texts ≡ whole ++ text ∷ rest
  pub between : Outer
  pub sent : SentEach whole a between
  pub torn : Tears (record { 0 = 0 }) text between b

-- these texts come first
pub record AreFirst (texts whole : List (List ℕ)) : Type 0 where
  pub back : List (List ℕ)
  pub cut : whole ≡ texts ++ back

-- no count has fallen, and if sending failed, the count of output rose
pub record IsSending {A E : Type 0} (before now : Faults) (result : Result A E) : Type 0 where
  pub later : Later before now
  pub output : OnErr result (Rose before.output now.output)
