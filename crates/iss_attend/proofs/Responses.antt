-- A response goes out, or a part of it, and its channel is closed.
use Rattle.std.proofs.Common.{◌≡◌, true, false, List, [], ◌∷◌, ◌++◌, ℕ, Option, None, sym, ap, subst, ◌∙◌}
use Rattle.std.specs.Prelude.{IsSome}
use Rattle.iss_edge.specs.declared.outside.Channel.{Channel}
use Rattle.iss_edge.specs.declared.outside.Action.{Action}
use Rattle.iss_edge.specs.declared.outside.Action.TheVariants.{Emit, Close}
use Rattle.iss_edge.specs.declared.outside.Answered.{Answered}
use Rattle.iss_edge.specs.declared.outside.Answered.TheVariants.{Emitted}
use Rattle.iss_edge.specs.World.{World, Told}
use Rattle.iss_edge.specs.Calls.{Emits, EmitsPart, Closes, Hears, HearsNothing}
use Rattle.iss_edge.specs.Outer.{Outer, outer_of, Adds, Tears, torn_actions}
use Rattle.iss_edge.specs.Stretches.{actions_of, with_levels}
use Rattle.iss_edge.proofs.Outers.{adds_then, told_emits, told_tears, told_closes}
use Rattle.iss_edge.proofs.StretchLemmas.{actions_of-append, actions_of-leveled}
use Rattle.iss_edge.proofs.Tolds.{told_then}
use Rattle.iss_session.specs.Items.{leveled}
use Rattle.iss_attend.specs.Reading.{Replies}

torn_closed : (ch : Channel) (torn : Option (List ℕ)) → actions_of (with_levels 0 (torn_actions ch torn) ++ leveled 0 (Close ch) ∷ []) ≡ torn_actions ch torn ++ Close ch ∷ []
torn_closed ch torn =
    actions_of-append (with_levels 0 (torn_actions ch torn)) (leveled 0 (Close ch) ∷ [])
    ∙ ap (λ (actions : List Action). actions ++ Close ch ∷ []) (actions_of-leveled 0 (torn_actions ch torn))

whole : (ch : Channel) (text : List ℕ) (a b c : Outer) → Adds (Emit ch text true ∷ []) (Emitted ch true ∷ []) a b → Adds (Close ch ∷ []) [] b c → Replies ch text a c
whole ch text a b c p q =
    record { ok = true; torn = None; is_torn = tt; adds = adds_then (Emit ch text true ∷ []) (Close ch ∷ []) (Emitted ch true ∷ []) [] a b c p q }

tears : (ch : Channel) (text : List ℕ) (a b c : Outer) → Tears ch text a b → Adds (Close ch ∷ []) [] b c → Replies ch text a c
tears ch text a b c p q =
    record {
      ok = false;
      torn = p.torn;
      is_torn = p.is_prefix;
      adds =
          subst (λ (l : List Action). Adds l (Emitted ch false ∷ []) a c) (sym (torn_closed ch p.torn))
          (adds_then (torn_actions ch p.torn) (Close ch ∷ []) (Emitted ch false ∷ []) [] a b c p.adds q);
    }

-- a response went out, and its channel was closed
pub replied_told : (ch : Channel) (text : List ℕ) (x y z : Option World) (h k l : Option (List Answered)) → Told (Emits ch text) x y → Told (Hears (Emitted ch true)) h k
    → (IsSome l → Told (Closes ch) y z) → Told HearsNothing k l → Told (Replies ch text) (outer_of x h) (outer_of z l)
replied_told ch text x y z h k l e eh closed quiet =
    told_then (Adds (Emit ch text true ∷ []) (Emitted ch true ∷ [])) (Adds (Close ch ∷ []) []) (Replies ch text) (outer_of x h) (outer_of y k) (outer_of z l)
    (whole ch text) (told_emits ch text x y h k e eh) (told_closes ch y z k l closed quiet)

-- a response didn't go out whole, and its channel was closed
pub torn_told : (ch : Channel) (text : List ℕ) (x y z : Option World) (h k l : Option (List Answered)) → Told (EmitsPart ch text) x y → Told (Hears (Emitted ch false)) h k
    → (IsSome l → Told (Closes ch) y z) → Told HearsNothing k l → Told (Replies ch text) (outer_of x h) (outer_of z l)
torn_told ch text x y z h k l e eh closed quiet =
    told_then (Tears ch text) (Adds (Close ch ∷ []) []) (Replies ch text) (outer_of x h) (outer_of y k) (outer_of z l)
    (tears ch text) (told_tears ch text x y h k e eh) (told_closes ch y z k l closed quiet)
