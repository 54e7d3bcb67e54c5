-- What holds of each input that the fields of a type about money or the gateway may give holds of what they give.
use Rattle.std.proofs.Common.{◌≡◌, ℕ, Bool, true, false, List, Result, Ok, Err, IfOk, refl}
use Rattle.serde_json.specs.Data.{Data}
use Rattle.serde_json.specs.Find.{as_bool}
use Rattle.iss_model.specs.declared.limits.TheConstants.{FIRST_NUMBER, GREATEST_NUMBER}
use Rattle.iss_model.specs.declared.currency.Currency.{Currency}
use Rattle.iss_model.specs.declared.call.CallId.{CallId}
use Rattle.iss_model.specs.declared.input.Outcome.{Outcome}
use Rattle.iss_model.specs.declared.input.Outcome.TheVariants as outcome
use Rattle.iss_model.specs.declared.input.Input.{Input}
use Rattle.iss_model.specs.declared.input.Input.TheVariants as input
use Rattle.iss_model.specs.Forms.{is_amount, is_mcc, is_number, is_outcome}
use Rattle.iss_field.specs.declared.name.Name.{Name}
use Rattle.iss_field.specs.declared.name.Name.TheVariants as name
use Rattle.iss_field.specs.declared.words.OutcomeWord.{OutcomeWord}
use Rattle.iss_field.specs.declared.words.OutcomeWord.TheVariants as word
use Rattle.iss_field.specs.Fields.{◌>>=◌, required_field, optional_field_or}
use Rattle.iss_field.specs.Values.{token_of, currency_value, amount_of, whole_within, mcc_of, outcome_of}
use Rattle.iss_field.proofs.ValuesInForm.{Meets, amount_of-meets, whole_within-meets, mcc_of-meets}
use Rattle.iss_field.proofs.FieldsInForm.{required-is}
use Rattle.iss_event.specs.declared.payments.Operation.{Operation}
use Rattle.iss_event.specs.Inputs.{load_input, authorization_input, operation_said, increment_input, reversal_input, clearing_input, refund_input, part_said, outcome_said, answer_input, ack_input}

abbrev Text : Type 0
Text = Result (List ℕ) Name

abbrev Flag : Type 0
Flag = Result Bool Name

abbrev Number : Type 0
Number = Result ℕ Name

-- ---- money

amount-is : (d : Data) (c : Currency) → IfOk (required_field (amount_of c) name.Amount d) (Meets is_amount)
amount-is d c = required-is (amount_of c) name.Amount d (Meets is_amount) (amount_of-meets c)

abbrev LoadOf : (Input → Type 0) → Type 0
LoadOf P = (token user : List ℕ) (currency : Currency) (amount : ℕ) → is_amount amount ≡ true → P (input.Load token user currency amount)

of_loaded : (P : Input → Type 0) (token user : List ℕ) (currency : Currency) (a : Number) → IfOk a (Meets is_amount) → LoadOf P
    → IfOk (a >>= λ amount. Ok (input.Load token user currency amount)) P
of_loaded P token user currency (Ok amount) h g = g token user currency amount h
of_loaded P token user currency (Err name) h g = tt

of_load : (P : Input → Type 0) (t u : Text) (c : Result Currency Name) (a : Currency → Number) → ((currency : Currency) → IfOk (a currency) (Meets is_amount)) → LoadOf P
    → IfOk (t >>= λ token. u >>= λ user. c >>= λ currency. a currency >>= λ amount. Ok (input.Load token user currency amount)) P
of_load P (Ok token) (Ok user) (Ok currency) a h g = of_loaded P token user currency (a currency) (h currency) g
of_load P _ _ _ a h g = tt

pub load-gives : (P : Input → Type 0) (d : Data) → LoadOf P → IfOk (load_input d) P
unfolding load_input
load-gives P d h =
    of_load P (required_field token_of name.Token d) (required_field token_of name.User d) (required_field currency_value name.Currency d)
    (λ currency. required_field (amount_of currency) name.Amount d) (amount-is d) h

abbrev AuthorizationOf : (Input → Type 0) → Type 0
AuthorizationOf P =
    (token card : List ℕ) (currency : Currency) (amount mcc : ℕ) (mid : List ℕ) (partial : Bool)
    → is_amount amount ≡ true → is_mcc mcc ≡ true → P (input.Authorization token card currency amount mcc mid partial)

of_asked : (P : Input → Type 0) (token card : List ℕ) (currency : Currency) (a m : Number) (i : Text) (b : Flag) → IfOk a (Meets is_amount) → IfOk m (Meets is_mcc) → AuthorizationOf P
    → IfOk (a >>= λ amount. m >>= λ mcc. i >>= λ mid. b >>= λ partial. Ok (input.Authorization token card currency amount mcc mid partial)) P
of_asked P token card currency (Ok amount) (Ok mcc) (Ok mid) (Ok partial) h g f = f token card currency amount mcc mid partial h g
of_asked P token card currency _ _ _ _ h g f = tt

of_authorization : (P : Input → Type 0) (t c : Text) (u : Result Currency Name) (a : Currency → Number) (m : Number) (i : Text) (b : Flag)
    → ((currency : Currency) → IfOk (a currency) (Meets is_amount)) → IfOk m (Meets is_mcc) → AuthorizationOf P
    → IfOk (t >>= λ token. c >>= λ card. u >>= λ currency. a currency >>= λ amount. m >>= λ mcc. i >>= λ mid. b >>= λ partial. Ok (input.Authorization token card currency amount mcc mid partial)) P
of_authorization P (Ok token) (Ok card) (Ok currency) a m i b h g f = of_asked P token card currency (a currency) m i b (h currency) g f
of_authorization P _ _ _ a m i b h g f = tt

pub authorization-gives : (P : Input → Type 0) (d : Data) → AuthorizationOf P → IfOk (authorization_input d) P
unfolding authorization_input
authorization-gives P d h =
    of_authorization P (required_field token_of name.Token d) (required_field token_of name.Card d) (required_field currency_value name.Currency d)
    (λ currency. required_field (amount_of currency) name.Amount d) (required_field mcc_of name.Mcc d) (required_field token_of name.Mid d)
    (optional_field_or as_bool false name.Partial d) (amount-is d) (required-is mcc_of name.Mcc d (Meets is_mcc) mcc_of-meets) h

-- ---- operations on transactions

abbrev HasAmount : Operation → Type 0
HasAmount o = is_amount o.amount ≡ true

of_amount : (token txn : List ℕ) (currency : Currency) (a : Number) → IfOk a (Meets is_amount)
    → IfOk (a >>= λ amount. Ok (record { token = token; txn = txn; currency = currency; amount = amount })) HasAmount
of_amount token txn currency (Ok amount) h = h
of_amount token txn currency (Err name) h = tt

of_operation : (t x : Text) (c : Result Currency Name) (a : Currency → Number) → ((currency : Currency) → IfOk (a currency) (Meets is_amount))
    → IfOk (t >>= λ token. x >>= λ txn. c >>= λ currency. a currency >>= λ amount. Ok (record { token = token; txn = txn; currency = currency; amount = amount })) HasAmount
of_operation (Ok token) (Ok txn) (Ok currency) a h = of_amount token txn currency (a currency) (h currency)
of_operation _ _ _ a h = tt

operation-is : (d : Data) → IfOk (operation_said d) HasAmount
unfolding operation_said
operation-is d =
    of_operation (required_field token_of name.Token d) (required_field token_of name.Txn d) (required_field currency_value name.Currency d)
    (λ currency. required_field (amount_of currency) name.Amount d) (amount-is d)

then_input : (P : Input → Type 0) (o : Result Operation Name) (f : Operation → Input) → IfOk o HasAmount → ((o : Operation) → is_amount o.amount ≡ true → P (f o))
    → IfOk (o >>= λ said. Ok (f said)) P
then_input P (Ok o) f h g = g o h
then_input P (Err name) f h g = tt

pub increment-gives : (P : Input → Type 0) (d : Data) → ((o : Operation) → is_amount o.amount ≡ true → P (input.Increment o.token o.txn o.currency o.amount)) → IfOk (increment_input d) P
unfolding increment_input
increment-gives P d h = then_input P (operation_said d) (λ o. input.Increment o.token o.txn o.currency o.amount) (operation-is d) h

pub reversal-gives : (P : Input → Type 0) (d : Data) → ((o : Operation) → is_amount o.amount ≡ true → P (input.Reversal o.token o.txn o.currency o.amount)) → IfOk (reversal_input d) P
unfolding reversal_input
reversal-gives P d h = then_input P (operation_said d) (λ o. input.Reversal o.token o.txn o.currency o.amount) (operation-is d) h

pub refund-gives : (P : Input → Type 0) (d : Data) → ((o : Operation) → is_amount o.amount ≡ true → P (input.Refund o.token o.txn o.currency o.amount)) → IfOk (refund_input d) P
unfolding refund_input
refund-gives P d h = then_input P (operation_said d) (λ o. input.Refund o.token o.txn o.currency o.amount) (operation-is d) h

of_clearing : (P : Input → Type 0) (o : Result Operation Name) (l : Result Bool Name) → IfOk o HasAmount
    → ((o : Operation) (last : Bool) → is_amount o.amount ≡ true → P (input.Clearing o.token o.txn o.currency o.amount last))
    → IfOk (o >>= λ said. l >>= λ last. Ok (input.Clearing said.token said.txn said.currency said.amount last)) P
of_clearing P (Ok o) (Ok last) h g = g o last h
of_clearing P _ _ h g = tt

pub clearing-gives : (P : Input → Type 0) (d : Data) → ((o : Operation) (last : Bool) → is_amount o.amount ≡ true → P (input.Clearing o.token o.txn o.currency o.amount last)) → IfOk (clearing_input d) P
unfolding clearing_input
clearing-gives P d h = of_clearing P (operation_said d) (optional_field_or as_bool false name.Last d) (operation-is d) h

-- ---- the gateway

number-is : (which : Name) (d : Data) → IfOk (required_field (whole_within FIRST_NUMBER GREATEST_NUMBER) which d) (Meets is_number)
number-is which d = required-is (whole_within FIRST_NUMBER GREATEST_NUMBER) which d (Meets is_number) (whole_within-meets FIRST_NUMBER GREATEST_NUMBER)

abbrev IsOutcome : Outcome → Type 0
IsOutcome o = is_outcome o ≡ true

of_part : (currency : Currency) (a : Number) → IfOk a (Meets is_amount) → IfOk (a >>= λ amount. Ok (outcome.Partial currency amount)) IsOutcome
of_part currency (Ok amount) h = h
of_part currency (Err name) h = tt

of_parts : (c : Result Currency Name) (a : Currency → Number) → ((currency : Currency) → IfOk (a currency) (Meets is_amount))
    → IfOk (c >>= λ currency. a currency >>= λ amount. Ok (outcome.Partial currency amount)) IsOutcome
of_parts (Ok currency) a h = of_part currency (a currency) (h currency)
of_parts (Err name) a h = tt

outcome-is : (w : OutcomeWord) (d : Data) → IfOk (outcome_said w d) IsOutcome
unfolding part_said
outcome-is word.Funded d = refl
outcome-is word.Refused d = refl
outcome-is word.Connection d = refl
outcome-is word.Application d = refl
outcome-is word.Partial d = of_parts (required_field currency_value name.Currency d) (λ currency. required_field (amount_of currency) name.Amount d) (amount-is d)

abbrev AnswerOf : (Input → Type 0) → Type 0
AnswerOf P = (call : CallId) (outcome : Outcome) → is_number call.0 ≡ true → is_outcome outcome ≡ true → P (input.Answer call outcome)

of_answered : (P : Input → Type 0) (call : ℕ) (o : Result Outcome Name) → is_number call ≡ true → IfOk o IsOutcome → AnswerOf P
    → IfOk (o >>= λ outcome. Ok (input.Answer (record { 0 = call }) outcome)) P
of_answered P call (Ok outcome) h k g = g (record { 0 = call }) outcome h k
of_answered P call (Err name) h k g = tt

of_answer : (P : Input → Type 0) (c : Number) (w : Result OutcomeWord Name) (o : OutcomeWord → Result Outcome Name) → IfOk c (Meets is_number)
    → ((w : OutcomeWord) → IfOk (o w) IsOutcome) → AnswerOf P → IfOk (c >>= λ call. w >>= λ word. o word >>= λ outcome. Ok (input.Answer (record { 0 = call }) outcome)) P
of_answer P (Ok call) (Ok word) o h k g = of_answered P call (o word) h (k word) g
of_answer P _ _ o h k g = tt

pub answer-gives : (P : Input → Type 0) (d : Data) → AnswerOf P → IfOk (answer_input d) P
unfolding answer_input
answer-gives P d h =
    of_answer P (required_field (whole_within FIRST_NUMBER GREATEST_NUMBER) name.Call d) (required_field outcome_of name.Outcome d) (λ w. outcome_said w d)
    (number-is name.Call d) (λ w. outcome-is w d) h

of_ack : (P : Input → Type 0) (n : Number) → IfOk n (Meets is_number) → ((notice : ℕ) → is_number notice ≡ true → P (input.Ack notice)) → IfOk (n >>= λ notice. Ok (input.Ack notice)) P
of_ack P (Ok notice) h g = g notice h
of_ack P (Err name) h g = tt

pub ack-gives : (P : Input → Type 0) (d : Data) → ((notice : ℕ) → is_number notice ≡ true → P (input.Ack notice)) → IfOk (ack_input d) P
unfolding ack_input
ack-gives P d h = of_ack P (required_field (whole_within FIRST_NUMBER GREATEST_NUMBER) name.Notice d) (number-is name.Notice d) h
