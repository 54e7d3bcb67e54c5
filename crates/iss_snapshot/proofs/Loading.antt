-- What is read from an image, and whether it makes a core.
use Rattle.std.proofs.Common.{◌≡◌, ◌↔◌, ℕ, List, Option, Some, None, false, true, refl, sym, ap, subst, ◌∙◌}
use Rattle.std.specs.Prelude.{IfOk, IfSome, IsSome, Result, Ok, Err}
use Rattle.std.proofs.lemmas.Option.{same_Some}
use Rattle.iss_model.specs.declared.state.State.{State}
use Rattle.iss_states.specs.Rebuilding.{rebuilt}
use Rattle.iss_states.specs.Showing.{shown}
use Rattle.iss_sound.specs.Sound.{IsSoundState}
use Rattle.iss_image.specs.States.{IsImageOf}
use Rattle.iss_image_forms.proofs.WholeForms.{whole_in_form}
use Rattle.iss_core.specs.Values.{CoreNow}
use Rattle.iss_snapshot.specs.Loaded.{IsLoaded, IsOfNoState}

-- bytes of which nothing is read are the image of no sound state
pub nothing_read : (bytes : List ℕ) (found : Option State) → (found ≡ None → (s : State) → IsImageOf s bytes → ⊥) → found ≡ None → IsOfNoState bytes
nothing_read bytes found none is = λ s sound spans image. none is s (whole_in_form s sound spans, image)

-- bytes of which a state is read that isn't sound are the image of no sound state
pub unsound_read : (bytes : List ℕ) (found : Option State) (t : State) → ((s : State) → IsImageOf s bytes → found ≡ Some s) → found ≡ Some t → (IsSoundState t → ⊥)
    → IsOfNoState bytes
unsound_read bytes found t only is unsound =
    λ s sound spans image. unsound (subst IsSoundState (same_Some s t (sym (only s (whole_in_form s sound spans, image)) ∙ is)) sound)

-- if no core is made of what is read, the bytes are the image of no sound state
pub none_made : {C E : Type 0} (result : Result (Option C) E) (bytes : List ℕ) (found : Option State) (t : State) → ((s : State) → IsImageOf s bytes → found ≡ Some s) → found ≡ Some t
    → IfOk result (λ made. IsSome made ↔ IsSoundState t) → IfOk result (λ made. made ≡ None → IsOfNoState bytes)
none_made (Ok None) bytes found t only is sound = λ none. unsound_read bytes found t only is (λ h. never (sound.1 h))
  where
    never : false ≡ true → ⊥
    never h = cc
none_made (Ok (Some c)) bytes found t only is sound = λ none. by none
  where
    by : {C : Type 0} {c : C} → Some c ≡ None → IsOfNoState bytes
    by e = cc
none_made (Err e) bytes found t only is sound = tt

-- the core of a state, on the device of this instance
abbrev core_made : ℕ → State → CoreNow
core_made own t = record { instance = own; state = rebuilt t }

-- a core that is made of what is read is loaded
pub made_loaded : {E : Type 0} (result : Result (Option CoreNow) E) (bytes : List ℕ) (own : ℕ) (t : State) → IsImageOf t bytes
    → IfOk result (λ made. IsSome made ↔ IsSoundState t) → IfOk result (λ made. IfSome made (λ c. c ≡ core_made own t))
    → IfOk result (λ made. IfSome made (λ c. shown c.state ≡ t)) → IfOk result (λ made. IfSome made (IsLoaded bytes own))
made_loaded (Ok None) bytes own t image sound made shows = tt
made_loaded (Ok (Some c)) bytes own t image sound made shows =
    record {
      instance = ap (λ (x : CoreNow). x.instance) made;
      sound = subst IsSoundState (sym shows) (sound.0 refl);
      image = subst (λ (s : State). IsImageOf s bytes) (sym shows) image;
      again = ap (λ (x : CoreNow). x.state) made ∙ ap rebuilt (sym shows);
    }
made_loaded (Err e) bytes own t image sound made shows = tt
