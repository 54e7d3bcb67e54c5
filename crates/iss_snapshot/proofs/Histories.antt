-- The image of a history.
use Rattle.std.proofs.Common.{◌≡◌, ◌∙◌, ap, arith, length, List, [], refl, subst, sym, ℕ}
use Rattle.std.specs.Prelude.{IfOk, IsSome, None, Ok, Option, Result, Some, Err, ◌↔◌, false, true}
use Rattle.std.proofs.lemmas.Option.{same_Some}
use Rattle.iss_model.specs.declared.input.Record.{Record}
use Rattle.iss_model.specs.declared.state.State.{State}
use Rattle.iss_model.specs.rules.Histories.{IsLegal, history_of}
use Rattle.iss_agreement.proofs.Records.{records_history}
use Rattle.iss_states.specs.OverBook.{state_of}
use Rattle.iss_states.specs.Showing.{no_state}
use Rattle.iss_states.proofs.Nothing.{nothing_shown}
use Rattle.iss_states.proofs.StateOfBook.{state_shown}
use Rattle.iss_rebuilt.specs.Sums.{AreRecords}
use Rattle.iss_sound.specs.Sound.{IsSoundState}
use Rattle.iss_sound.proofs.SoundSteps.{records_sound}
use Rattle.iss_image.specs.States.{IsImageOf, image_of_state, state_spelled}
use Rattle.iss_image.proofs.StateFields.{spelled_again}
use Rattle.iss_image_forms.proofs.HistoryForms.{history_in_form}
use Rattle.iss_image_forms.proofs.SpansHistories.{spans_of_history}
use Rattle.iss_core.specs.Restoring.{IsStateOf, StandsIfMade}
use Rattle.iss_core.specs.Values.{CoreNow}
use Rattle.iss_snapshot.specs.Loaded.{IsImageOfHistory, IsImageOfSound, IsMadeFor, IsOfNoState, MakesHistory}

pub sound_image : (rs : List Record) (bytes : List ℕ) → IsImageOfHistory rs bytes → IsImageOfSound (state_of (history_of rs)) bytes
sound_image rs bytes h =
    record {
      sound = records_sound rs h.legal h.spelled h.few;
      spans = spans_of_history rs h.legal h.spelled;
      image = (history_in_form rs h.legal h.spelled h.few, h.image);
    }

pub image_of_some : (rs : List Record) (bytes : List ℕ) → IsImageOfHistory rs bytes → IsOfNoState bytes → ⊥
image_of_some rs bytes h none =
    let its = sound_image rs bytes h in
    none (state_of (history_of rs)) its.sound its.spans h.image

-- no records have no bytes
no_bytes_of : image_of_state no_state ≡ []
unfolding image_of_state
no_bytes_of = refl

state_of_none : state_of (history_of []) ≡ no_state
state_of_none = sym (state_shown []) ∙ nothing_shown

pub no_bytes : IsImageOfHistory [] []
no_bytes = record { legal = tt; spelled = refl; few = omega arith; image = sym (ap image_of_state state_of_none ∙ no_bytes_of) }

-- a state has as many records as its history
its_count : (rs : List Record) → (state_of (history_of rs)).records ≡ length rs
its_count rs = ap length (records_history rs)

-- one image is that of one state
one_state : (s t : State) (bytes : List ℕ) → IsImageOf s bytes → IsImageOf t bytes → s ≡ t
one_state s t bytes h k = same_Some s t (sym (spelled_again s h.0) ∙ ap state_spelled (sym h.1 ∙ k.1) ∙ spelled_again t k.0)

pub equally_many : (rs more : List Record) (bytes : List ℕ) → IsImageOfHistory rs bytes → IsImageOfHistory more bytes → length rs ≡ length more
equally_many rs more bytes h k =
    sym (its_count rs)
    ∙ ap (λ (s : State). s.records) (one_state (state_of (history_of rs)) (state_of (history_of more)) bytes (sound_image rs bytes h).image (sound_image more bytes k).image)
    ∙ its_count more

-- loading ----

-- bytes of which nothing is read are the image of no history
pub no_history_read : (bytes : List ℕ) (found : Option State) → (found ≡ None → (s : State) → IsImageOf s bytes → ⊥) → found ≡ None → MakesHistory bytes None
no_history_read bytes found none is = λ rs h. none is (state_of (history_of rs)) (sound_image rs bytes h).image

-- a state that is read is that of the history whose image is read
state_read : (rs : List Record) (bytes : List ℕ) (found : Option State) (t : State) → ((s : State) → IsImageOf s bytes → found ≡ Some s) → found ≡ Some t → IsImageOfHistory rs bytes → t ≡ state_of (history_of rs)
state_read rs bytes found t only is h = same_Some t (state_of (history_of rs)) (sym is ∙ only (state_of (history_of rs)) (sound_image rs bytes h).image)

-- what is made of a state that is read stands for each history with that image
pub history_made : {E : Type 0} (result : Result (Option CoreNow) E) (bytes : List ℕ) (found : Option State) (t : State) → ((s : State) → IsImageOf s bytes → found ≡ Some s) → found ≡ Some t
    → IfOk result (λ made. IsSome made ↔ IsSoundState t) → ((rs : List Record) → IsLegal rs → AreRecords rs → IsStateOf rs t → IfOk result (StandsIfMade rs)) → IfOk result (MakesHistory bytes)
history_made (Ok None) bytes found t only is sound stands = λ rs h. never (sound.1 (subst IsSoundState (sym (state_read rs bytes found t only is h)) (sound_image rs bytes h).sound))
  where
    never : false ≡ true → ⊥
    never h = cc
history_made (Ok (Some c)) bytes found t only is sound stands = λ rs h. stands rs h.legal h.spelled (state_read rs bytes found t only is h)
history_made (Err e) bytes found t only is sound stands = tt

-- so it does of no records, which have no bytes
pub nothing_made : {E : Type 0} (result : Result (Option CoreNow) E) (bytes : List ℕ) → IfOk result (MakesHistory bytes) → bytes ≡ [] → IfOk result (IsMadeFor [])
nothing_made (Ok made) bytes h e = h [] (subst (IsImageOfHistory []) (sym e) no_bytes)
nothing_made (Err e) bytes h empty = tt
