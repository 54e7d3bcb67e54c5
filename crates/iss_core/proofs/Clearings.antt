-- A clearing's entries, piece by piece.
use Rattle.std.proofs.Common.{◌≡◌, List, [], ◌∷◌, ◌++◌, ap, sym, ◌∙◌}
use Rattle.std.specs.Prelude.{Result, Ok, Err, OnOk}
use Rattle.std.proofs.lemmas.List.{append_assoc}
use Rattle.iss_model.specs.declared.decision.Verdict.TheVariants as verdict
use Rattle.iss_model.specs.declared.entry.Entry.{Entry}
use Rattle.iss_model.specs.declared.entry.Entry.TheVariants as entry
use Rattle.iss_model.specs.rules.Facts.{Facts}
use Rattle.iss_model.specs.rules.Pieces.{taken_to_clear, clearing_money_entries}
use Rattle.iss_model.specs.rules.Acts.{Does, entries_of_acts}
use Rattle.iss_acts.proofs.Walk.{acts_append}
use Rattle.iss_hold.specs.declared.hold.Hold.{Hold}
use Rattle.iss_hold.specs.declared.hold.Taken.{Taken}
use Rattle.iss_hold.specs.Holdings.{parts_of_hold, without_parts}
use Rattle.iss_hold.specs.Entries.{taken_in_all, parts_taken}
use Rattle.iss_core.specs.declared.operations.Operation.{Operation}
use Rattle.iss_core.specs.Cards.{captured_on, cleared_on}

pub ends_as : {A E : Type 0} (r : Result A E) (new before after : List Entry) → OnOk r (new ≡ before) → before ≡ after → OnOk r (new ≡ after)
ends_as (Ok x) new before after h e = h ∙ e
ends_as (Err x) new before after h e = tt

-- what is taken, what is left with its notice, and the decision
pub cleared_so : (f : Facts) (o : Operation) (hold rest : Hold) (taken : Taken) (old first second : List Entry) → taken ≡ taken_in_all (taken_to_clear (parts_of_hold hold) o.amount) o.amount → rest ≡ without_parts (parts_taken taken) hold
    → first ≡ old ++ clearing_money_entries hold.txn (taken_to_clear (parts_of_hold hold) o.amount) o.amount o.at → second ≡ first ++ entries_of_acts (captured_on f rest o.amount o.last)
    → second ++ entry.Decided o.token verdict.Done ∷ [] ≡ old ++ entries_of_acts (cleared_on f o hold)
cleared_so f o hold rest taken old first second is left money capture =
    let kept : Hold = without_parts (parts_taken (taken_in_all (taken_to_clear (parts_of_hold hold) o.amount) o.amount)) hold in
    let same : rest ≡ kept = left ∙ ap (λ (t : Taken). without_parts (parts_taken t) hold) is in
    let paid : List Entry = clearing_money_entries hold.txn (taken_to_clear (parts_of_hold hold) o.amount) o.amount o.at in
    ap (λ (es : List Entry). es ++ entry.Decided o.token verdict.Done ∷ [])
    (capture ∙ ap (λ (h : Hold). first ++ entries_of_acts (captured_on f h o.amount o.last)) same ∙ ap (λ (es : List Entry). es ++ entries_of_acts (captured_on f kept o.amount o.last)) money)
    ∙ regrouped old paid (entries_of_acts (captured_on f kept o.amount o.last)) (entry.Decided o.token verdict.Done ∷ []) _
    (acts_append (captured_on f kept o.amount o.last) (Does o.token ∷ []))
  where
    flat : (old xs ys zs : List Entry) → ((old ++ xs) ++ ys) ++ zs ≡ old ++ (xs ++ (ys ++ zs))
    flat old xs ys zs = simp append_assoc

    regrouped : (old xs ys zs both : List Entry) → both ≡ ys ++ zs → ((old ++ xs) ++ ys) ++ zs ≡ old ++ (xs ++ both)
    regrouped old xs ys zs both e = flat old xs ys zs ∙ ap (λ (es : List Entry). old ++ (xs ++ es)) (sym e)
