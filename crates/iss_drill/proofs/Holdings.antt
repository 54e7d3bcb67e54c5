-- What the users of a drill hold is far below what fits.
use Rattle.std.proofs.Common.{◌≡◌, ℕ, zero, suc, ◌+◌, ◌*◌, ◌^◌, ◌<◌, ◌≤◌, true, ℤ, ◌+ℤ◌, List, [], ◌∷◌, codes, length, sym, ap, subst, arith, length-append}
use Rattle.std.specs.Prelude.{unwrap_or}
use Rattle.std.specs.List.{list_all}
use Rattle.std.proofs.lemmas.Bool.{and_parts}
use Rattle.std.proofs.lemmas.Int.{ints}
use Rattle.iss_model.specs.declared.currency.Currency.TheVariants.{Usd}
use Rattle.iss_model.specs.declared.decision.Judged.{Judged}
use Rattle.iss_model.specs.declared.decision.Judged.TheVariants as judged
use Rattle.iss_model.specs.declared.input.Input.{Input}
use Rattle.iss_model.specs.declared.input.Record.{Record}
use Rattle.iss_model.specs.Forms.{is_in_form, is_stamp}
use Rattle.iss_model.specs.Sums.{user_key}
use Rattle.iss_model.specs.Tokens.{is_token}
use Rattle.iss_model.specs.rules.Facts.{held_in}
use Rattle.iss_model.specs.run.Runs.{Run, judgement_in, response, response_as, run_after}
use Rattle.iss_model.specs.run.Transcripts.{Reading, sound, faulty}
use Rattle.iss_model.specs.state.Cores.{CoreState, core_facts, core_of}
use Rattle.iss_model.specs.state.Kept.{IsSmall}
use Rattle.iss_model.specs.texts.Spelling.{has_spelling, is_record, tokens_of}
use Rattle.iss_model.proofs.Lists.{all_weaker}
use Rattle.iss_agreement.proofs.Records.{step_records}
use Rattle.iss_state.specs.Bounds.{AreWithin, IsWithin}
use Rattle.iss_state.specs.Sound.{AreInForm, IsSoundAt}
use Rattle.iss_state.proofs.invariants.Legal.{records_sound}
use Rattle.iss_standing.specs.Standing.{AreHistory}
use Rattle.iss_opening.specs.Values.{StoreNow}
use Rattle.iss_drill.specs.declared.tally.Tally.{Tally}
use Rattle.iss_drill.specs.Drills.{held_of_users}
use Rattle.iss_drill.specs.Giving.{HasGiven}
use Rattle.iss_drill.specs.Names.{named}
use Rattle.iss_drill.specs.Reports.{HoldsAreFew}

-- ---- a line makes at most one record

one_record : (s : Run) (i : Input) (stamp : ℕ) (j : Judged) → length (response_as s i stamp j).run.history.records ≤ length s.history.records + 1
one_record s i stamp (judged.New r) =
    omega (arith, ap (λ (rs : List Record). length rs) (step_records s.history r), length-append {A = Record} s.history.records (r ∷ []))
one_record s i stamp (judged.Clock r) =
    omega (arith, ap (λ (rs : List Record). length rs) (step_records s.history r), length-append {A = Record} s.history.records (r ∷ []))
one_record s i stamp (judged.Told a) = omega arith

line_record : (s : Run) (line : Reading) → length (response s line).run.history.records ≤ length s.history.records + 1
line_record s (sound i at) = one_record s i (unwrap_or at 0) (judgement_in s i (unwrap_or at 0))
line_record s (faulty text) = omega arith

few_records : (s : Run) (lines : List Reading) → length (run_after s lines).history.records ≤ length s.history.records + length lines
few_records s [] = omega arith
few_records s (line ∷ lines) = omega (arith, line_record s line, few_records (response s line).run lines)

-- ---- what a user holds

in_form : (rs : List Record) → AreHistory rs → AreInForm rs
in_form rs history = all_weaker is_record (λ (r : Record). is_in_form r.input) its_input rs history.spelled
  where
    its_input : (r : Record) → is_record r ≡ true → is_in_form r.input ≡ true
    its_input r h = (and_parts (is_in_form r.input) (list_all is_token (tokens_of r.input)) (and_parts (is_stamp r.at) (has_spelling r.input) h).1).0

wider : (small large : ℕ) (sum : ℤ) → small ≤ large → IsWithin small sum → IsWithin large sum
wider small large sum more h = record { low = omega (arith, ints, more, h.low); high = omega (arith, ints, more, h.high) }

few_held : (rs : List Record) (n : ℕ) → AreHistory rs → length rs ≤ n → n ≤ 200023 → HoldsAreFew (core_of rs)
few_held rs n history few most key =
    let held : IsSoundAt (length rs) (core_of rs) = records_sound rs history.legal (in_form rs history) in
    wider held.money (2 ^ 58) _ (omega (arith, few, most, held.money_within)) (held.within.held key)

-- what stands at the end of a drill of this many events
pub holds_are_few : (start : Run) (lines : List Reading) (n : ℕ) (t : Tally) (s : StoreNow) → start.history.records ≡ [] → n ≤ 100000 → t.lines ≤ 23 + 2 * n → HasGiven start lines t s → HoldsAreFew s.core.state
holds_are_few start lines n t s none most few given =
    let rs = (run_after start lines).history.records in
    let begun : length start.history.records ≡ 0 = ap (λ (r : List Record). length r) none in
    subst (AreWithin (2 ^ 58)) (sym (ap (λ (state : CoreState). state.holdings.held) given.stands.stands.core.rest))
    (few_held rs (23 + 2 * n) given.stands.stands.history (omega (arith, few_records start lines, begun, few, given.lines)) (omega (arith, most)))

-- ---- what users hold together

more_held : (bound digit : ℕ) (sum held : ℤ) → IsWithin (digit * bound) sum → IsWithin bound held → IsWithin (digit * bound + bound) (sum +ℤ held)
more_held bound digit sum held h k = record { low = omega (arith, ints, h.low, k.low); high = omega (arith, ints, h.high, k.high) }

held_within : (s : CoreState) (digit : ℕ) → HoldsAreFew s → IsWithin (digit * 2 ^ 58) (held_of_users (core_facts s) digit)
unfolding held_of_users
held_within s zero few = record { low = omega (arith, ints); high = omega (arith, ints) }
held_within s (suc digit) few =
    let next : digit * 2 ^ 58 + 2 ^ 58 ≡ suc digit * 2 ^ 58 = omega arith in
    subst (λ (n : ℕ). IsWithin n (held_of_users (core_facts s) digit +ℤ held_in (core_facts s) (named (codes "u") digit) Usd)) next
    (more_held (2 ^ 58) digit (held_of_users (core_facts s) digit) (held_in (core_facts s) (named (codes "u") digit) Usd) (held_within s digit few) (few (user_key (named (codes "u") digit) Usd)))

small : (digit : ℕ) (sum : ℤ) → digit ≤ 10 → IsWithin (digit * 2 ^ 58) sum → IsSmall sum
small digit sum few h = record { low = omega (arith, ints, few, h.low); high = omega (arith, ints, few, h.high) }

pub next_held_fits : (s : CoreState) (digit : ℕ) (held : ℤ) → HoldsAreFew s → digit < 10 → held ≡ held_of_users (core_facts s) digit
    → IsSmall (held +ℤ held_in (core_facts s) (named (codes "u") digit) Usd)
unfolding held_of_users
next_held_fits s digit held few within is =
    subst (λ (z : ℤ). IsSmall (z +ℤ held_in (core_facts s) (named (codes "u") digit) Usd)) (sym is)
    (small (suc digit) (held_of_users (core_facts s) (suc digit)) (omega (arith, within)) (held_within s (suc digit) few))
