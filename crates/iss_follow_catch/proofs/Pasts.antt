-- What stood on the first device, and what stands on the second: whether the second is behind the first, and what comes after both.
use Rattle.std.proofs.Common.{◌≡◌, ◌≤◌, true, List, [], ◌∷◌, ◌++◌, length, take, drop, refl, sym, ap, subst, ◌∙◌, arith, append_assoc}
use Rattle.std.specs.List.{list_all}
use Rattle.std.proofs.lemmas.Bool.{and_parts}
use Rattle.std.proofs.lemmas.List.{take-append-drop, length-take-le, drop_at}
use Rattle.std.proofs.lemmas.List.Folds.{list_all-append}
use Rattle.std.proofs.lemmas.Option.{same_Some}
use Rattle.iss_model.specs.declared.input.Record.{Record}
use Rattle.iss_model.specs.declared.limits.TheConstants.{MOST_RECORDS}
use Rattle.iss_model.specs.declared.state.State.{State}
use Rattle.iss_model.specs.rules.Histories.{IsLegalAfter, history_of, nothing_yet}
use Rattle.iss_model.specs.texts.Spelling.{is_record}
use Rattle.iss_states.specs.OverBook.{state_of}
use Rattle.iss_states.specs.Rebuilding.{rebuilt}
use Rattle.iss_image.specs.States.{image_of_state, is_in_image_form, state_spelled}
use Rattle.iss_image.proofs.StateFields.{spelled_again}
use Rattle.iss_image_forms.proofs.HistoryForms.{history_in_form}
use Rattle.iss_core.specs.Values.{CoreNow, CoreStandsFor, IsNext}
use Rattle.iss_core.proofs.CoreAgain.{stands_again}
use Rattle.iss_standing.specs.Standing.{AreHistory, image_after}
use Rattle.iss_opening.specs.Reading.{core_after, AreNext}
use Rattle.iss_opening.proofs.Afters.{follows_next, history_next, stands_after}
use Rattle.iss_standing.proofs.NextRecords.{history_taken}
use Rattle.iss_opening.proofs.Spelled.{follows_at}
use Rattle.iss_follow_catch.specs.Catching.{missing, caught_up, CaughtUpIsAll}

-- first records are caught up to all
pub caught_up_is_all : CaughtUpIsAll
caught_up_is_all rs others first =
    ap (λ (l : List Record). others ++ drop (length others) l) first.cut
    ∙ ap (λ (l : List Record). others ++ l) (drop_at others first.later (length others) refl)
    ∙ sym first.cut

-- legal records are next, each on a core that stands for those before it
legal_next : (c : CoreNow) (xs ys : List Record) → CoreStandsFor c xs → IsLegalAfter nothing_yet (xs ++ ys) → AreNext c ys
legal_next c xs [] stands legal = tt
legal_next c xs (y ∷ ys) stands legal =
    let next : IsNext c y = follows_next c xs y stands (follows_at nothing_yet xs y ys legal) in (
      next,
      legal_next (core_after c (y ∷ [])) (xs ++ y ∷ []) ys (stands_after c xs (y ∷ []) stands)
          (subst (λ (l : List Record). IsLegalAfter nothing_yet l) (sym (append_assoc xs (y ∷ []) ys)) legal),
    )

-- ---- records whose image is that of the first ones of others

same_state : (s t : State) → is_in_image_form s ≡ true → is_in_image_form t ≡ true → image_of_state s ≡ image_of_state t → s ≡ t
same_state s t form_s form_t e =
    same_Some s t (sym (spelled_again s form_s) ∙ ap state_spelled e ∙ spelled_again t form_t)

-- what comes after the first ones of those may come after these
pub caught_history : (rs others : List Record) → AreHistory rs → AreHistory others → length rs ≤ MOST_RECORDS → length others ≤ length rs
    → image_after others ≡ image_after (take (length others) rs) → AreHistory (caught_up rs others)
caught_history rs others history own few high image =
    let k = length others in
    let xs = take k rs in
    let ys = missing rs others in
    let first : AreHistory xs = history_taken k rs history in
    let long : length xs ≡ k = length-take-le k rs high in
    let s = state_of (history_of others) in
    let same : s ≡ state_of (history_of xs) =
    same_state s (state_of (history_of xs)) (history_in_form others own.legal own.spelled (omega (arith, few, high))) (history_in_form xs first.legal first.spelled (omega (arith, few, high, long))) image in
    let c : CoreNow = record { instance = 0; state = rebuilt s } in
    let here : CoreStandsFor c others = stands_again s (rebuilt s) others own.legal own.spelled refl refl in
    let there : CoreStandsFor c xs = stands_again s (rebuilt s) xs first.legal first.spelled same refl in
    let cut : xs ++ ys ≡ rs = take-append-drop k rs in
    let legal : IsLegalAfter nothing_yet (xs ++ ys) = subst (λ (l : List Record). IsLegalAfter nothing_yet l) (sym cut) history.legal in
    let spelled : list_all is_record ys ≡ true =
    (and_parts (list_all is_record xs) (list_all is_record ys) (sym (list_all-append is_record xs ys) ∙ ap (list_all is_record) cut ∙ history.spelled)).1 in
    history_next c others ys here own (legal_next c xs ys there legal) spelled
