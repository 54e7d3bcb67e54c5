-- Saying something leaves the device as it is, at each moment.
use Rattle.std.proofs.Common.{◌≡◌, ℕ, true, inl, inr, List, [], ◌∷◌, refl, sym, subst}
use Rattle.std.specs.Prelude.{Option, ◌⊎◌}
use Rattle.iss_edge.specs.declared.outside.Action.{Action}
use Rattle.iss_edge.specs.declared.outside.Action.TheVariants.{Emit}
use Rattle.iss_edge.specs.declared.outside.Channel.{Channel}
use Rattle.iss_edge.specs.Calls.{Emits, EmitsPart}
use Rattle.iss_edge.specs.World.{World, Told}
use Rattle.iss_edge.specs.Stretches.{AddsStill, AreStill}
use Rattle.iss_edge.proofs.StretchLemmas.{still_append, still_goes_on, still_self}
use Rattle.iss_edge.proofs.Tolds.{told_map, told_self}
use Rattle.iss_standing.specs.Standing.{RestsAt, StandsAt}
use Rattle.iss_standing.proofs.Holds.{rests_stand}
use Rattle.iss_texts.specs.Sending.{emits, FailsAt, Says, SaysSome}
use Rattle.iss_texts.proofs.Saying.{says_all}
use Rattle.iss_texts.proofs.ToldSaying.{told_prefix}
use Rattle.iss_store.specs.Saying.{StaysGood}

emits_still : (texts : List (List ℕ)) → AreStill (emits texts)
emits_still [] = tt
emits_still (text ∷ texts) = (refl, emits_still texts)

last_still : (rest : List (List ℕ)) (last : List Action) → (last ≡ []) ⊎ FailsAt rest last → AreStill last
last_still rest last ended =
    elim ended [
      | inl none ↦ subst AreStill (sym none) tt
      | inr fails ↦ subst AreStill (sym fails.action) (refl, tt)
    ]

still_stays : (a b : World) → AddsStill a b → StaysGood a b
still_stays a b adds =
    record {
      device = adds.device;
      added = adds.added;
      grew = adds.grew;
      still = adds.still;
      goes_on =
          λ form seat rs j steps e sent.
          still_goes_on (RestsAt form seat rs) (StandsAt form rs) j steps (λ bytes rests. rests_stand form seat rs bytes j rests)
          (subst AreStill (sym e) adds.still) sent;
    }

some_stay : (texts : List (List ℕ)) (a b : World) → SaysSome texts a b → StaysGood a b
some_stay texts a b says =
    let out = says.sends.out in
    still_stays a b
    (record {
      device = says.sends.device;
      left = says.left;
      added = says.sends.actions;
      grew = says.sends.grew;
      still = subst AreStill (sym out.done) (still_append (emits out.whole) out.last (emits_still out.whole) (last_still out.rest out.last out.ended));
    })

-- ---- the same of what an edge tells

pub told_nothing_stays : (x : Option World) → Told StaysGood x x
told_nothing_stays x = told_self StaysGood x (λ a. still_stays a a (still_self a))

pub told_some_stay : (texts : List (List ℕ)) (x y : Option World) → Told (SaysSome texts) x y → Told StaysGood x y
told_some_stay texts x y says = told_map (SaysSome texts) StaysGood x y (some_stay texts) says

pub told_all_stay : (texts : List (List ℕ)) (x y : Option World) → Told (Says texts) x y → Told StaysGood x y
told_all_stay texts x y says = told_map (Says texts) StaysGood x y (λ a b p. some_stay texts a b (says_all texts a b p)) says

-- ---- one text on a channel that is channel 0

pub emitted_stays : (ch : Channel) (text : List ℕ) (x y : Option World) → Told (Emits ch text) x y → Told StaysGood x y
emitted_stays ch text x y told =
    told_map (Emits ch text) StaysGood x y
    (λ a b e. still_stays a b (record { device = e.device; left = e.left; added = Emit ch text true ∷ []; grew = e.trace; still = (refl, tt) })) told

pub emitted_in_part : (ch : Channel) (text : List ℕ) (x y : Option World) → ch.0 ≡ 0 → Told (EmitsPart ch text) x y → Told (SaysSome (text ∷ [])) x y
emitted_in_part ch text x y zero part =
    let same : ch ≡ record { 0 = 0 } = λ i. record { 0 = zero i } in
    told_prefix text x y (subst (λ (c : Channel). Told (EmitsPart c text) x y) same part)

pub prefix_stays : (ch : Channel) (text : List ℕ) (x y : Option World) → ch.0 ≡ 0 → Told (EmitsPart ch text) x y → Told StaysGood x y
prefix_stays ch text x y zero part = told_some_stay (text ∷ []) x y (emitted_in_part ch text x y zero part)
