-- What holds of each outcome that an answer may come to holds of what it comes to.
use Rattle.std.proofs.Common.{codes, ◌≡◌, ℕ, ◌*◌, ◌==◌, ◌&&◌, nat_lt, Bool, true, false, IsTrue, List, Option, Some, None, option_and_then, IfSome, Result, Ok, Err, IfOk, cond, refl, sym, ap, subst}
use Rattle.std.specs.Prelude.{◌↔◌}
use Rattle.std.proofs.lemmas.Bool.{and_parts, eqb-true}
use Rattle.serde_json.specs.Data.{Data}
use Rattle.serde_json.specs.Find.{get, as_str}
use Rattle.iss_model.specs.declared.call.Opened.{Opened}
use Rattle.iss_model.specs.declared.currency.Currency.{Currency}
use Rattle.iss_model.specs.declared.currency.Currency.TheVariants as currency
use Rattle.iss_model.specs.declared.input.Outcome.{Outcome}
use Rattle.iss_model.specs.declared.input.Outcome.TheVariants.{Funded, Refused, Connection, Application, Partial}
use Rattle.iss_model.specs.Amounts.{digits_value, if_form, is_amount_text, amount_digits}
use Rattle.iss_model.specs.Currencies.{decimals_of, unit_of, same_currency}
use Rattle.iss_model.specs.Forms.{is_amount, is_outcome}
use Rattle.iss_model.specs.rules.CardActs.{counts_as_part}
use Rattle.iss_jit.specs.declared.answers.TheConstants.{FUNDED, REFUSED}
use Rattle.iss_jit.specs.Outcomes.{json_of, whole_of, text_or_units, amount_echoed, amount_said, has_token, outcome_of_amount, outcome_of_value, outcome_of_json, outcome_of, CountsIfPart}

-- ---- amounts

abbrev IsAmount : ℕ → Type 0
IsAmount n = is_amount n ≡ true

kept : (b : Bool) (n : ℕ) → is_amount n ≡ b → IfSome (cond b (Some n) None) IsAmount
kept true n h = h
kept false n h = tt

if_so : (b : Bool) (o : Option ℕ) → IfSome o IsAmount → IfSome (cond b o None) IsAmount
if_so true o h = h
if_so false o h = tt

if_form-is : (n : ℕ) → IfSome (if_form is_amount n) IsAmount
if_form-is n = kept (is_amount n) n refl

read-is : (c : Currency) (text : Option (List ℕ)) (units : Option ℕ) → IfSome (text_or_units c text units) IsAmount
read-is c (Some text) units =
    let minor = digits_value (amount_digits text (decimals_of c)) in if_so (is_amount_text text (decimals_of c)) (if_form is_amount minor) (if_form-is minor)
read-is c None (Some n) = if_form-is (n * unit_of c)
read-is c None None = tt

found-is : (c : Currency) (found : Option Data) → IfSome (option_and_then (amount_echoed c) found) IsAmount
unfolding amount_echoed
found-is c None = tt
found-is c (Some d) = read-is c (as_str d) (whole_of d)

said-is : (c : Currency) (d : Data) → IfSome (amount_said c d) IsAmount
unfolding amount_said
said-is c d = found-is c (get (codes "amount") d)

-- ---- outcomes

-- a part of a call's amount that counts
pub record IsPart (o : Opened) (amount : ℕ) : Type 0 where
  pub form : is_amount amount ≡ true
  pub counts : counts_as_part o o.currency amount ≡ true

-- it holds of each part that counts
abbrev pub OfParts : Opened → (Outcome → Type 0) → Type 0
OfParts o P = (amount : ℕ) → IsPart o amount → P (Partial o.currency amount)

same_itself : (c : Currency) → same_currency c c ≡ true
same_itself currency.Usd = refl
same_itself currency.Eur = refl
same_itself currency.Gbp = refl
same_itself currency.Cad = refl
same_itself currency.Aud = refl
same_itself currency.Jpy = refl
same_itself currency.Kwd = refl

smaller_counts : (o : Opened) (amount : ℕ) → (o.partial && nat_lt amount o.amount) ≡ true → counts_as_part o o.currency amount ≡ true
smaller_counts o amount h =
    let p = and_parts o.partial (nat_lt amount o.amount) h in rw (p.0, same_itself o.currency, p.1) refl

-- what holds of either choice holds of what a test picks
picked : (b : Bool) (P : Outcome → Type 0) (x y : Outcome) → (b ≡ true → P x) → P y → P (cond b x y)
picked true P x y h k = h refl
picked false P x y h k = k

of_amount : (P : Outcome → Type 0) (o : Opened) (said : Option ℕ) → IfSome said IsAmount → P Funded → P Application → OfParts o P → P (outcome_of_amount o said)
of_amount P o None h funded other part = other
of_amount P o (Some amount) h funded other part =
    picked (amount == o.amount) P Funded (cond (o.partial && nat_lt amount o.amount) (Partial o.currency amount) Application) (λ is. funded)
    (picked (o.partial && nat_lt amount o.amount) P (Partial o.currency amount) Application
    (λ is. part amount (record { form = h; counts = smaller_counts o amount is })) other)

of_json : (P : Outcome → Type 0) (instance : ℕ) (o : Opened) (found : Option Data) → P Funded → P Application → OfParts o P → P (outcome_of_json instance o found)
unfolding outcome_of_value
of_json P instance o None funded other part = other
of_json P instance o (Some d) funded other part =
    picked (has_token instance o d) P (outcome_of_amount o (amount_said o.currency d)) Application
    (λ is. of_amount P o (amount_said o.currency d) (said-is o.currency d) funded other part) other

pub outcome_by : (P : Outcome → Type 0) (instance : ℕ) (o : Opened) (status : ℕ) (body : List ℕ) → (status ≡ REFUSED → P Refused) → P Funded → P Application → OfParts o P
    → P (outcome_of instance o status body)
unfolding outcome_of
outcome_by P instance o status body refused funded other part =
    let found = outcome_of_json instance o (json_of body) in
    picked (status == REFUSED) P Refused (cond (status == FUNDED) found Application) (λ is. refused (eqb-true status REFUSED is))
    (picked (status == FUNDED) P found Application (λ is. of_json P instance o (json_of body) funded other part) other)

-- ---- what holds of an answer

at_refused : (instance : ℕ) (o : Opened) (status : ℕ) (body : List ℕ) → status ≡ REFUSED → outcome_of instance o status body ≡ Refused
unfolding outcome_of
at_refused instance o status body is =
    ap (λ (n : ℕ). cond (n == REFUSED) Refused (cond (status == FUNDED) (outcome_of_json instance o (json_of body)) Application)) is

pub refused_at : (instance : ℕ) (o : Opened) (status : ℕ) (body : List ℕ) → (outcome_of instance o status body ≡ Refused) ↔ (status ≡ REFUSED)
refused_at instance o status body =
    let only = outcome_by (λ (x : Outcome). x ≡ Refused → status ≡ REFUSED) instance o status body (λ at e. at) (λ e. absurd cc) (λ e. absurd cc) (λ amount is e. absurd cc) in
    (only, at_refused instance o status body)

pub no_connection : (instance : ℕ) (o : Opened) (status : ℕ) (body : List ℕ) → outcome_of instance o status body ≡ Connection → ⊥
no_connection instance o status body =
    outcome_by (λ (x : Outcome). x ≡ Connection → ⊥) instance o status body (λ at e. cc) (λ e. cc) (λ e. cc) (λ amount is e. cc)

pub in_form : (instance : ℕ) (o : Opened) (status : ℕ) (body : List ℕ) → IsTrue (is_outcome (outcome_of instance o status body))
in_form instance o status body =
    outcome_by (λ (x : Outcome). IsTrue (is_outcome x)) instance o status body (λ at. refl) refl refl (λ amount is. is.form)

pub counts : (instance : ℕ) (o : Opened) (status : ℕ) (body : List ℕ) → CountsIfPart o (outcome_of instance o status body)
counts instance o status body =
    outcome_by (CountsIfPart o) instance o status body (λ at. tt) tt tt (λ amount is. is.counts)

-- what holds of it holds of what was said
pub said_as : {E : Type 0} (P : Outcome → Type 0) (r : Result Outcome E) (x : Outcome) → IfOk r (λ said. said ≡ x) → P x → IfOk r P
said_as P (Ok said) x is h = subst P (sym is) h
said_as P (Err failed) x is h = tt
