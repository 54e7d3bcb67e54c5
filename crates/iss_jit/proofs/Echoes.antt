-- The text of a call's token is read as the call's token, and that of its amount as its amount.
use Rattle.std.proofs.Common.{◌≡◌, ℕ, zero, suc, pos, ◌+◌, ◌^◌, ◌<◌, ◌==◌, Bool, true, false, cond, IsTrue, List, ◌∷◌, Option, Some, option_and_then, bytes_eq, All, inl, refl, sym, ap, ◌∙◌, arith}
use Rattle.std.specs.Int.{bytes_high_first, byte_at}
use Rattle.std.proofs.lemmas.Bool.{lt-ltb}
use Rattle.std.proofs.lemmas.Bool.Decides.{nat_tests}
use Rattle.std.proofs.lemmas.List.Elements.{All-nil, All-cons, All-append}
use Rattle.std.proofs.lemmas.Slice.Eq.{bytes_eq-Decides}
use Rattle.serde_json.specs.Data.{Data}
use Rattle.uuid.specs.Text.{parsed, lower}
use Rattle.uuid.proofs.RoundTrips.{parses_hyphenated}
use Rattle.iss_model.specs.declared.call.Opened.{Opened}
use Rattle.iss_model.specs.declared.input.Outcome.TheVariants.{Funded, Application, Partial}
use Rattle.iss_model.specs.Forms.{is_amount}
use Rattle.iss_model.specs.rules.Reasons.{is_some_with}
use Rattle.iss_model.specs.texts.CallTokens.{call_uuid}
use Rattle.iss_model.specs.texts.GatewayTexts.{token_text}
use Rattle.iss_amount.proofs.RoundTrips.{read_again}
use Rattle.iss_jit.specs.Outcomes.{uuid_of, amount_echoed, has_token, amount_said, outcome_of_amount, outcome_of_value}
use Rattle.iss_jit.specs.Echoes.{IsEcho, FundsEchoes}
use Rattle.iss_jit.proofs.CallTexts.{small, token}

abbrev IsByte : ℕ → Type 0
IsByte b = b < 256

are_bytes : (k n : ℕ) → All IsByte (bytes_high_first k n)
are_bytes zero n = All-nil IsByte
are_bytes (suc k) n = All-cons IsByte (byte_at k n) (bytes_high_first k n) (small k n) (are_bytes k n)

token_bytes : (instance number : ℕ) → All IsByte (call_uuid instance number)
token_bytes instance number =
    let last = bytes_high_first 8 (2 ^ 63 + number) in
    All-append IsByte (bytes_high_first 6 instance) (128 ∷ 0 ∷ last) (are_bytes 6 instance)
    (All-cons IsByte 128 (0 ∷ last) (omega arith) (All-cons IsByte 0 last (omega arith) (are_bytes 8 (2 ^ 63 + number))))

token_again : (instance number : ℕ) → parsed (token_text instance number) ≡ Some (call_uuid instance number)
token_again instance number =
    ap parsed (sym (token instance number)) ∙ sym (parses_hyphenated lower (call_uuid instance number) (inl refl) refl (token_bytes instance number))

has_its_token : (instance : ℕ) (o : Opened) (amount : ℕ) (d : Data) → IsEcho instance o amount d → has_token instance o d ≡ true
unfolding has_token uuid_of
has_its_token instance o amount d says =
    let id = call_uuid instance o.call.0 in
    let is_it = λ (found : List ℕ). bytes_eq found id in
    ap (λ (found : Option Data). is_some_with is_it (option_and_then uuid_of found)) says.token
    ∙ ap (is_some_with is_it) (token_again instance o.call.0)
    ∙ (bytes_eq-Decides id id).1 refl

has_its_amount : (instance : ℕ) (o : Opened) (amount : ℕ) (d : Data) → IsTrue (is_amount amount) → IsEcho instance o amount d → amount_said o.currency d ≡ Some amount
unfolding amount_said amount_echoed
has_its_amount instance o amount d ok says =
    ap (λ (found : Option Data). option_and_then (amount_echoed o.currency) found) says.amount_is ∙ (read_again (pos amount) o.currency).amount_again amount refl ok

-- a value with the call's token comes to what its amount comes to
by_amount : (instance : ℕ) (o : Opened) (amount : ℕ) (d : Data) → IsTrue (is_amount amount) → IsEcho instance o amount d
    → outcome_of_value instance o d ≡ outcome_of_amount o (Some amount)
unfolding outcome_of_value
by_amount instance o amount d ok says =
    ap (λ (b : Bool). cond b (outcome_of_amount o (amount_said o.currency d)) Application) (has_its_token instance o amount d says)
    ∙ ap (outcome_of_amount o) (has_its_amount instance o amount d ok says)

same_number : (n : ℕ) → (n == n) ≡ true
same_number n = grind (arith, nat_tests)

not_same : (a b : ℕ) → a < b → (a == b) ≡ false
not_same a b h = grind (arith, nat_tests)

all_funds : (o : Opened) → outcome_of_amount o (Some o.amount) ≡ Funded
all_funds o = rw (same_number o.amount) refl

part_funds : (o : Opened) (amount : ℕ) → IsTrue o.partial → amount < o.amount → outcome_of_amount o (Some amount) ≡ Partial o.currency amount
part_funds o amount permitted less = rw (not_same amount o.amount less, permitted, lt-ltb _ _ less) refl

pub echo : (instance : ℕ) (o : Opened) → FundsEchoes instance o
echo instance o =
    record {
      funds = λ d ok says. by_amount instance o o.amount d ok says ∙ all_funds o;
      funds_part = λ d amount ok permitted less says. by_amount instance o amount d ok says ∙ part_funds o amount permitted less;
    }
