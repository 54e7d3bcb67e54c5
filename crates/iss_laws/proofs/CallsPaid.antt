-- On the book of every legal list of records in form each closing that funds has its post. No other post comes from the gateway.
use Rattle.std.proofs.Common.{◌≡◌, ℕ, true, ◌&&◌, List, [], ◌∷◌, ◌++◌, fold, refl, sym, ap, subst, ◌∙◌}
use Rattle.std.specs.List.{list_all}
use Rattle.std.proofs.lemmas.Bool.{and_parts}
use Rattle.std.proofs.lemmas.List.Folds.{list_all-append}
use Rattle.std.proofs.lemmas.List.Sums.{fold-append}
use Rattle.iss_model.specs.declared.entry.Entry.{Entry}
use Rattle.iss_model.specs.declared.entry.Row.{Row}
use Rattle.iss_model.specs.declared.input.Record.{Record}
use Rattle.iss_model.specs.Forms.{is_in_form}
use Rattle.iss_model.specs.rules.Facts.{Facts}
use Rattle.iss_model.specs.rules.Histories.{IsLegal, history_facts, history_of, numbered_rows}
use Rattle.iss_model.specs.rules.Stepping.{step}
use Rattle.iss_model.specs.state.Cores.{CoreState, core_keeper, core_of}
use Rattle.iss_agreement.proofs.CoreOfBook.{facts_history}
use Rattle.iss_state.specs.Sound.{AreInForm, IsNewEvent}
use Rattle.iss_state.proofs.invariants.Legal.{legal_induction}
use Rattle.iss_state.proofs.docket.Lists.{both_so}
use Rattle.iss_state.specs.Pending.{IsWell}
use Rattle.iss_state.proofs.calls.Legal.{nothing_well}
use Rattle.iss_state.proofs.calls.Steps.{step_well}
use Rattle.iss_laws.specs.Pairs.{Pairing, is_paired, paired, pairing_after}
use Rattle.iss_laws.specs.Payable.{ArePayable, CallsStand}
use Rattle.iss_laws.proofs.Payable.{calls_stand, stand_then}
use Rattle.iss_laws.proofs.CallSteps.{Pays, nothing_payable, step_pays}
use Rattle.iss_laws.specs.Calls.{are_paired, each_call_once, each_stands_once, pairing_of}
use Rattle.iss_laws.proofs.CallsOnce.{law_once}
use Rattle.iss_laws.proofs.Rows.{entries_of_next, next_number, next_rows}

-- a record's rows come in pairs as its entries do
numbered_pairing : (f : Facts) (n : ℕ) (first : Pairing) (es : List Entry)
    → fold (λ so_far row. pairing_after f row.number so_far row.entry) first (numbered_rows n es) ≡ fold (pairing_after f n) first es
numbered_pairing f n first [] = refl
numbered_pairing f n first (e ∷ es) = numbered_pairing f n (pairing_after f n first e) es

-- What holds of records in form: calls are payable, and closings and posts come in pairs by facts of any later time.
record ArePaid (rs : List Record) (s : CoreState) : Type 0 where
  payable : ArePayable s
  pairs : (f : Facts) → CallsStand s.calls f.calls → pairing_of f (history_of rs).rows ≡ paired

record IsPaid (rs : List Record) (s : CoreState) : Type 0 where
  well : IsWell s
  paid : AreInForm rs → ArePaid rs s

paid_more : (rs : List Record) (r : Record) → IsNewEvent (core_of rs) r.input → IsWell (core_of rs) → is_in_form r.input ≡ true → ArePaid rs (core_of rs)
    → ArePaid (rs ++ r ∷ []) (step core_keeper (core_of rs) r).world
paid_more rs r new well form h =
    let s : CoreState = core_of rs in
    let later : CoreState = (step core_keeper s r).world in
    let n : ℕ = next_number rs r in
    let es : List Entry = entries_of_next rs r in
    record {
      payable = (step_pays (history_facts (history_of rs)) n s r form new well).payable h.payable;
      pairs = λ f agrees.
          let pays : Pays f n _ es later = step_pays f n s r form new well in
          ap (pairing_of f) (next_rows rs r)
          ∙ fold-append (λ (so_far : Pairing) (row : Row). pairing_after f row.number so_far row.entry) paired (history_of rs).rows (numbered_rows n es)
          ∙ ap (λ (p : Pairing). fold (λ (so_far : Pairing) (row : Row). pairing_after f row.number so_far row.entry) p (numbered_rows n es))
          (h.pairs f (stand_then s.calls later.calls f.calls pays.stand agrees))
          ∙ numbered_pairing f n paired es
          ∙ pays.pairs agrees h.payable;
    }

all_paid : (rs : List Record) → IsLegal rs → IsPaid rs (core_of rs)
all_paid rs legal =
    legal_induction IsPaid (record { well = nothing_well; paid = λ form. record { payable = nothing_payable; pairs = λ f agrees. refl } })
    (λ rs r new h. record {
      well = step_well (core_of rs) r new h.well;
      paid = λ form.
          let both = and_parts (list_all (λ (x : Record). is_in_form x.input) rs) (is_in_form r.input && true) (sym (list_all-append (λ (x : Record). is_in_form x.input) rs (r ∷ [])) ∙ form) in
          paid_more rs r new h.well (and_parts (is_in_form r.input) true both.1).0 (h.paid both.0);
    }) rs legal

law_paired : (rs : List Record) → IsLegal rs → AreInForm rs → are_paired (history_facts (history_of rs)) (history_of rs).rows ≡ true
law_paired rs legal form =
    ap is_paired (((all_paid rs legal).paid form).pairs (history_facts (history_of rs))
    (subst (λ (f : Facts). CallsStand (core_of rs).calls f.calls) (facts_history rs) (calls_stand (core_of rs).calls)))

pub law_calls : (rs : List Record) → IsLegal rs → AreInForm rs → each_call_once (history_of rs) ≡ true
law_calls rs legal form =
    both_so (each_stands_once (history_of rs)) (are_paired (history_facts (history_of rs)) (history_of rs).rows) (law_once rs legal) (law_paired rs legal form)
