-- One text on a channel that is channel 0, with what was heard of it.
use Rattle.std.proofs.Common.{◌≡◌, ℕ, true, false, List, [], ◌∷◌, Option, refl, sym, subst}
use Rattle.iss_edge.specs.declared.outside.Channel.{Channel}
use Rattle.iss_edge.specs.declared.outside.Answered.{Answered}
use Rattle.iss_edge.specs.declared.outside.Answered.TheVariants.{Emitted}
use Rattle.iss_edge.specs.World.{World, Told}
use Rattle.iss_edge.specs.Calls.{Emits, EmitsPart, Hears}
use Rattle.iss_edge.specs.Outer.{Outer, outer_of, Tears}
use Rattle.iss_edge.proofs.Outers.{told_emits, told_tears}
use Rattle.iss_edge.proofs.Tolds.{told_map}
use Rattle.iss_texts.specs.Sending.{SentEach, StopsAt}
use Rattle.iss_store.proofs.ServedTexts.{unchanged}

pub tell_sent : (ch : Channel) (text : List ℕ) (x y : Option World) (h k : Option (List Answered)) → ch.0 ≡ 0 → Told (Emits ch text) x y → Told (Hears (Emitted ch true)) h k
    → Told (SentEach (text ∷ [])) (outer_of x h) (outer_of y k)
tell_sent ch text x y h k zero emits hears =
    let same : ch ≡ record { 0 = 0 } = λ i. record { 0 = zero i } in
    subst (λ (c : Channel). Told (Emits c text) x y → Told (Hears (Emitted c true)) h k → Told (SentEach (text ∷ [])) (outer_of x h) (outer_of y k)) (sym same)
    (told_emits (record { 0 = 0 }) text x y h k) emits hears

stops : (text : List ℕ) (a b : Outer) → Tears (record { 0 = 0 }) text a b → StopsAt (text ∷ []) a b
stops text a b torn = record { whole = []; text = text; rest = []; cut = refl; between = a; sent = unchanged a; torn = torn }

pub tell_stopped : (ch : Channel) (text : List ℕ) (x y : Option World) (h k : Option (List Answered)) → ch.0 ≡ 0 → Told (EmitsPart ch text) x y → Told (Hears (Emitted ch false)) h k
    → Told (StopsAt (text ∷ [])) (outer_of x h) (outer_of y k)
tell_stopped ch text x y h k zero part hears =
    let same : ch ≡ record { 0 = 0 } = λ i. record { 0 = zero i } in
    subst (λ (c : Channel). Told (EmitsPart c text) x y → Told (Hears (Emitted c false)) h k → Told (StopsAt (text ∷ [])) (outer_of x h) (outer_of y k)) (sym same)
    (λ part hears. told_map (Tears (record { 0 = 0 }) text) (StopsAt (text ∷ [])) (outer_of x h) (outer_of y k) (stops text) (told_tears (record { 0 = 0 }) text x y h k part hears)) part hears
