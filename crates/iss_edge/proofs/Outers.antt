-- What is told of the world and what was heard, as one: what each call on channels adds.
use Rattle.std.proofs.Common.{◌≡◌, ℕ, ◌⊎◌, false, true, List, [], ◌∷◌, ◌++◌, take, Option, Some, None, IsSome, refl, sym, ap, ◌∙◌, append_assoc, append-nil, inl, inr}
use Rattle.iss_edge.specs.declared.outside.Channel.{Channel}
use Rattle.iss_edge.specs.declared.outside.Action.{Action}
use Rattle.iss_edge.specs.declared.outside.Action.TheVariants.{Emit, Dial, Close}
use Rattle.iss_edge.specs.declared.outside.Arrival.{Arrival}
use Rattle.iss_edge.specs.declared.outside.Answered.{Answered}
use Rattle.iss_edge.specs.declared.outside.Answered.TheVariants.{Waited, Took, Dialled, Emitted}
use Rattle.iss_edge.specs.World.{World, Told}
use Rattle.iss_edge.specs.Calls.{Same, Waits, Takes, Emits, SendsPrefix, EmitsPart, Dials, Closes, Hears, HearsNothing}
use Rattle.iss_edge.specs.Outer.{Outer, outer_of, Adds, Tears}

told_none : {W : Type 0} (R : W → W → Type 0) (x : Option W) → Told R x None
told_none R None = tt
told_none R (Some a) = tt

told_unheard : (R : Outer → Outer → Type 0) (o : Option Outer) (y : Option World) → Told R o (outer_of y None)
told_unheard R o None = told_none R o
told_unheard R o (Some b) = told_none R o

-- two things that are told, as one
pub told_outer : (R : World → World → Type 0) (S : List Answered → List Answered → Type 0) (T : Outer → Outer → Type 0)
    → ((a b : World) (h k : List Answered) → R a b → S h k → T (record { world = a; heard = h }) (record { world = b; heard = k }))
    → (x y : Option World) (h k : Option (List Answered)) → Told R x y → Told S h k → Told T (outer_of x h) (outer_of y k)
told_outer R S T f x None h k r s = told_none T (outer_of x h)
told_outer R S T f x (Some b) h None r s = told_none T (outer_of x h)
told_outer R S T f None (Some b) h (Some k) r s = absurd r
told_outer R S T f (Some a) (Some b) None (Some k) r s = absurd s
told_outer R S T f (Some a) (Some b) (Some h) (Some k) r s = f a b h k r s

-- what is added one after the other
pub adds_then : (xs ys : List Action) (is js : List Answered) (a b c : Outer) → Adds xs is a b → Adds ys js b c → Adds (xs ++ ys) (is ++ js) a c
adds_then xs ys is js a b c p q =
    record {
      device = q.device ∙ p.device;
      trace = q.trace ∙ ap (λ (t : List Action). t ++ ys) p.trace ∙ append_assoc a.world.trace xs ys;
      heard = q.heard ∙ ap (λ (t : List Answered). t ++ js) p.heard ∙ append_assoc a.heard is js;
    }

-- an answer alone, if nothing was done
told_answer : (R : World → World → Type 0) (answer : Answered) → ((a b : World) → R a b → (b.device ≡ a.device) × (b.trace ≡ a.trace))
    → (x y : Option World) (h k : Option (List Answered)) → Told R x y → Told (Hears answer) h k → Told (Adds [] (answer ∷ [])) (outer_of x h) (outer_of y k)
told_answer R answer still =
    told_outer R (Hears answer) (Adds [] (answer ∷ []))
    (λ a b h k r s. record { device = (still a b r).0; trace = (still a b r).1 ∙ sym (append-nil a.trace); heard = s })

pub told_waits : (arrives : Arrival) (x y : Option World) (h k : Option (List Answered)) → Told (Waits arrives) x y → Told (Hears (Waited (Some arrives))) h k
    → Told (Adds [] (Waited (Some arrives) ∷ [])) (outer_of x h) (outer_of y k)
told_waits arrives = told_answer (Waits arrives) (Waited (Some arrives)) (λ a b r. (r.device, r.trace))

pub told_unwaited : (x y : Option World) (h k : Option (List Answered)) → Told Same x y → Told (Hears (Waited None)) h k
    → Told (Adds [] (Waited None ∷ [])) (outer_of x h) (outer_of y k)
told_unwaited = told_answer Same (Waited None) (λ a b r. (r.device, r.trace))

pub told_takes : (ch : Channel) (count : ℕ) (buffer : List ℕ) (x y : Option World) (h k : Option (List Answered)) → Told (Takes ch count buffer) x y → Told (Hears (Took ch (Some (take count buffer)))) h k
    → Told (Adds [] (Took ch (Some (take count buffer)) ∷ [])) (outer_of x h) (outer_of y k)
told_takes ch count buffer = told_answer (Takes ch count buffer) (Took ch (Some (take count buffer))) (λ a b r. (r.device, r.trace))

pub told_untaken : (ch : Channel) (x y : Option World) (h k : Option (List Answered)) → Told Same x y → Told (Hears (Took ch None)) h k
    → Told (Adds [] (Took ch None ∷ [])) (outer_of x h) (outer_of y k)
told_untaken ch = told_answer Same (Took ch None) (λ a b r. (r.device, r.trace))

pub told_dials : (ch : Channel) (x y : Option World) (h k : Option (List Answered)) → Told (Dials ch) x y → Told (Hears (Dialled (Some ch))) h k
    → Told (Adds (Dial ch ∷ []) (Dialled (Some ch) ∷ [])) (outer_of x h) (outer_of y k)
told_dials ch =
    told_outer (Dials ch) (Hears (Dialled (Some ch))) (Adds (Dial ch ∷ []) (Dialled (Some ch) ∷ [])) (λ a b h k r s. record { device = r.device; trace = r.trace; heard = s })

pub told_undialled : (x y : Option World) (h k : Option (List Answered)) → Told Same x y → Told (Hears (Dialled None)) h k
    → Told (Adds [] (Dialled None ∷ [])) (outer_of x h) (outer_of y k)
told_undialled = told_answer Same (Dialled None) (λ a b r. (r.device, r.trace))

pub told_emits : (ch : Channel) (bytes : List ℕ) (x y : Option World) (h k : Option (List Answered)) → Told (Emits ch bytes) x y → Told (Hears (Emitted ch true)) h k
    → Told (Adds (Emit ch bytes true ∷ []) (Emitted ch true ∷ [])) (outer_of x h) (outer_of y k)
told_emits ch bytes =
    told_outer (Emits ch bytes) (Hears (Emitted ch true)) (Adds (Emit ch bytes true ∷ []) (Emitted ch true ∷ [])) (λ a b h k r s. record { device = r.device; trace = r.trace; heard = s })

tears : (ch : Channel) (text : List ℕ) (a b : World) (h k : List Answered) → b.device ≡ a.device → (b.trace ≡ a.trace) ⊎ SendsPrefix ch text a.trace b.trace → k ≡ h ++ Emitted ch false ∷ []
    → Tears ch text (record { world = a; heard = h }) (record { world = b; heard = k })
tears ch text a b h k device (inl same) s =
    record { torn = None; is_prefix = tt; adds = record { device = device; trace = same ∙ sym (append-nil a.trace); heard = s } }
tears ch text a b h k device (inr sends) s =
    record { torn = Some sends.prefix; is_prefix = (sends.back, sends.cut); adds = record { device = device; trace = sends.added; heard = s } }

pub told_tears : (ch : Channel) (text : List ℕ) (x y : Option World) (h k : Option (List Answered)) → Told (EmitsPart ch text) x y → Told (Hears (Emitted ch false)) h k
    → Told (Tears ch text) (outer_of x h) (outer_of y k)
told_tears ch text =
    told_outer (EmitsPart ch text) (Hears (Emitted ch false)) (Tears ch text) (λ a b h k r s. tears ch text a b h k r.device r.trace s)

pub told_closes : (ch : Channel) (x y : Option World) (h k : Option (List Answered)) → (IsSome k → Told (Closes ch) x y) → Told HearsNothing h k
    → Told (Adds (Close ch ∷ []) []) (outer_of x h) (outer_of y k)
told_closes ch x y h None closed s = told_unheard (Adds (Close ch ∷ []) []) (outer_of x h) y
told_closes ch x y h (Some k) closed s =
    told_outer (Closes ch) HearsNothing (Adds (Close ch ∷ []) []) (λ a b i j r t. record { device = r.device; trace = r.trace; heard = t ∙ sym (append-nil i) }) x y h (Some k) (closed refl) s
