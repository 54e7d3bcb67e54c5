-- What holds without a record, and is kept by each record that is new, holds for every legal list of records.
use Rattle.std.proofs.Common.{List, [], append_assoc, false, length, nat_le, subst, sym, true, ℕ, ◌&&◌, ◌++◌, ◌∙◌, ◌∷◌, ◌≡◌}
use Rattle.std.specs.List.{list_all}
use Rattle.std.proofs.lemmas.Bool.{and_parts}
use Rattle.std.proofs.lemmas.List.{append-nil, length-append}
use Rattle.std.proofs.lemmas.List.Folds.{list_all-append}
use Rattle.std.proofs.lemmas.List.Sums.{fold-append}
use Rattle.iss_model.specs.declared.input.Record.{Record}
use Rattle.iss_model.specs.Forms.{is_in_form}
use Rattle.iss_model.specs.rules.Histories.{History, IsLegal, IsLegalAfter, history_keeper, history_of, nothing_yet}
use Rattle.iss_model.specs.rules.Settings.{is_named_in}
use Rattle.iss_model.specs.rules.Stepping.{step}
use Rattle.iss_model.specs.state.Cores.{CoreState, core_keeper, core_of, no_core}
use Rattle.iss_agreement.proofs.CoreOfBook.{core_step, judge_history}
use Rattle.iss_state.specs.Needs.{begun_txns}
use Rattle.iss_state.specs.Stakes.{are_distinct, txn_tokens, whole_held}
use Rattle.iss_state.specs.Numbers.{CallsNumberedFrom}
use Rattle.iss_state.specs.Sound.{AreInForm, IsNewEvent, IsSoundAt, is_accepted}
use Rattle.iss_state.proofs.invariants.Calls.{step_numbered}
use Rattle.iss_state.proofs.invariants.NewEvents.{judged_new}
use Rattle.iss_state.proofs.invariants.Steps.{sound_begins, step_sound}

-- a property of records and of the state that they make is kept by each new record
abbrev pub IsKept : (List Record → CoreState → Type 0) → Type 0
IsKept P = (rs : List Record) (r : Record) → IsNewEvent (core_of rs) r.input → P rs (core_of rs) → P (rs ++ r ∷ []) (step core_keeper (core_of rs) r).world

legal_from : (P : List Record → CoreState → Type 0) → IsKept P → (before rs : List Record) → IsLegalAfter (history_of before) rs → P before (core_of before) → P (before ++ rs) (core_of (before ++ rs))
legal_from P kept before [] legal h = subst (λ (xs : List Record). P xs (core_of xs)) (sym (append-nil before)) h
legal_from P kept before (r ∷ rs) legal h =
    let more : List Record = before ++ r ∷ [] in
    let new = judged_new (core_of before) r (judge_history before r.input r.at ∙ legal.0.is_new) in
    let history : (step history_keeper (history_of before) r).world ≡ history_of more = sym (fold-append (λ (h : History) (x : Record). (step history_keeper h x).world) nothing_yet before (r ∷ [])) in
    let next : P more (core_of more) = subst (P more) (core_step before r) (kept before r new h) in
    subst (λ (xs : List Record). P xs (core_of xs)) (append_assoc before (r ∷ []) rs)
    (legal_from P kept more rs (subst (λ (h : History). IsLegalAfter h rs) history legal.1) next)

pub legal_induction : (P : List Record → CoreState → Type 0) → P [] no_core → IsKept P → (rs : List Record) → IsLegal rs → P rs (core_of rs)
legal_induction P none kept rs legal = legal_from P kept [] rs legal none

-- ---- legal records in form

-- what records in form make is sound, and its calls are numbered
record IsOfRecords (rs : List Record) (s : CoreState) : Type 0 where
  sound : IsSoundAt (length rs) s
  numbered : CallsNumberedFrom 1 s.calls

abbrev IsOfRecordsInForm : List Record → CoreState → Type 0
IsOfRecordsInForm rs s = AreInForm rs → IsOfRecords rs s

of_records_kept : IsKept IsOfRecordsInForm
of_records_kept rs r new h form =
    let s = core_of rs in
    let both = and_parts (list_all (λ (x : Record). is_in_form x.input) rs) (is_in_form r.input && true) (sym (list_all-append (λ (x : Record). is_in_form x.input) rs (r ∷ [])) ∙ form) in
    let own = and_parts (is_in_form r.input) true both.1 in
    let before = h both.0 in
    record {
      sound = subst (λ (n : ℕ). IsSoundAt n (step core_keeper s r).world) (sym (length-append rs (r ∷ []))) (step_sound (length rs) s r before.sound own.0 new);
      numbered = step_numbered (length rs) s r before.sound own.0 new before.numbered;
    }

of_records : (rs : List Record) → IsLegal rs → AreInForm rs → IsOfRecords rs (core_of rs)
of_records rs legal form = legal_induction IsOfRecordsInForm (λ none. record { sound = sound_begins; numbered = tt }) of_records_kept rs legal form

pub records_sound : (rs : List Record) → IsLegal rs → AreInForm rs → IsSoundAt (length rs) (core_of rs)
records_sound rs legal form = (of_records rs legal form).sound

pub records_numbered : (rs : List Record) → IsLegal rs → AreInForm rs → CallsNumberedFrom 1 (core_of rs).calls
records_numbered rs legal form = (of_records rs legal form).numbered

-- ---- names

pub names_distinct : (rs : List Record) → IsLegal rs → AreInForm rs → are_distinct (txn_tokens (core_of rs).holdings.txns) ≡ true
names_distinct rs legal form = (records_sound rs legal form).orderly.distinct

pub names_accepted : (rs : List Record) → IsLegal rs → AreInForm rs → list_all (is_accepted (core_of rs).accepted) (txn_tokens (core_of rs).holdings.txns) ≡ true
names_accepted rs legal form = (records_sound rs legal form).accepted

pub origins_before : (rs : List Record) → IsLegal rs → AreInForm rs → list_all (λ t. nat_le t.origin (core_of rs).count) (begun_txns (core_of rs)) ≡ true
origins_before rs legal form = (records_sound rs legal form).origins

pub unbegun_holds_nothing : (rs : List Record) (token : List ℕ) → IsLegal rs → AreInForm rs → is_named_in (txn_tokens (core_of rs).holdings.txns) token ≡ false → whole_held (core_of rs).holdings.parts token ≡ 0
unbegun_holds_nothing rs token legal form none = (records_sound rs legal form).orderly.unbegun token none
