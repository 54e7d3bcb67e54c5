-- What is read is within what a limit may be.
use Rattle.std.proofs.Common.{◌≡◌, ℕ, ◌*◌, Bool, true, false, cond, IsTrue, List, Option, Some, None, IfSome, option_and_then, codes, refl, sym, subst, arith}
use Rattle.std.proofs.lemmas.Bool.Decides.{nat_tests}
use Rattle.serde_json.specs.Data.{Data}
use Rattle.serde_json.specs.Find.{get, as_str}
use Rattle.iss_model.specs.declared.call.Method.{Method}
use Rattle.iss_model.specs.declared.currency.Currency.{Currency}
use Rattle.iss_model.specs.Amounts.{digits_value, if_form, is_amount_text, amount_digits}
use Rattle.iss_model.specs.Currencies.{decimals_of, unit_of}
use Rattle.iss_model.specs.Forms.{is_amount, is_limit}
use Rattle.iss_field.specs.Values.{token_of, currency_value, limit_of, limit_text_or_units, whole_of}
use Rattle.iss_jit.specs.Outcomes.{uuid_of, amount_echoed, text_or_units}
use Rattle.iss_gateway.specs.declared.message.Message.{Message}
use Rattle.iss_gateway.specs.Messages.{is_within}
use Rattle.iss_gateway.specs.Readings.{member, asks, ask_of, note_of, message_of_method, message_of_value, method_of, number_of, partial_of, voided_of, four_digits}

-- ---- whatever comes first, what is read is so

-- it holds of what the second step gives, if it does so for each that the first gives
after : {A B : Type 0} (P : B → Type 0) (o : Option A) (f : A → Option B) → ((a : A) → IfSome (f a) P) → IfSome (option_and_then f o) P
after P None f each = tt
after P (Some a) f each = each a

-- the same, if something holds of each that the first gives
after_all : {A B : Type 0} (Q : A → Type 0) (P : B → Type 0) (o : Option A) (f : A → Option B) → IfSome o Q → ((a : A) → Q a → IfSome (f a) P) → IfSome (option_and_then f o) P
after_all Q P None f holds each = tt
after_all Q P (Some a) f holds each = each a holds

-- ---- amounts

abbrev IsLimit : ℕ → Type 0
IsLimit n = is_limit n ≡ true

an_amount_is : (n : ℕ) → is_amount n ≡ true → is_limit n ≡ true
an_amount_is n h = grind (arith, nat_tests)

limit_kept : (b : Bool) (n : ℕ) → is_limit n ≡ b → IfSome (cond b (Some n) None) IsLimit
limit_kept true n h = h
limit_kept false n h = tt

amount_kept : (b : Bool) (n : ℕ) → is_amount n ≡ b → IfSome (cond b (Some n) None) IsLimit
amount_kept true n h = an_amount_is n h
amount_kept false n h = tt

if_so : (b : Bool) (o : Option ℕ) → IfSome o IsLimit → IfSome (cond b o None) IsLimit
if_so true o h = h
if_so false o h = tt

amount_read-is : (c : Currency) (text : Option (List ℕ)) (units : Option ℕ) → IfSome (text_or_units c text units) IsLimit
amount_read-is c (Some text) units =
    let minor = digits_value (amount_digits text (decimals_of c)) in
    if_so (is_amount_text text (decimals_of c)) (if_form is_amount minor) (amount_kept (is_amount minor) minor refl)
amount_read-is c None (Some n) = amount_kept (is_amount (n * unit_of c)) (n * unit_of c) refl
amount_read-is c None None = tt

limit_read-is : (c : Currency) (text : Option (List ℕ)) (units : Option ℕ) → IfSome (limit_text_or_units c text units) IsLimit
limit_read-is c (Some text) units =
    let minor = digits_value (amount_digits text (decimals_of c)) in
    if_so (is_amount_text text (decimals_of c)) (if_form is_limit minor) (limit_kept (is_limit minor) minor refl)
limit_read-is c None (Some n) = limit_kept (is_limit (n * unit_of c)) (n * unit_of c) refl
limit_read-is c None None = tt

amount-is : (c : Currency) (d : Data) → IfSome (member (amount_echoed c) (codes "amount") d) IsLimit
unfolding amount_echoed
amount-is c d = after IsLimit (get (codes "amount") d) (amount_echoed c) (λ found. amount_read-is c (as_str found) (whole_of found))

gateway-is : (c : Currency) (d : Data) → IfSome (member (limit_of c) (codes "gateway") d) IsLimit
unfolding limit_of
gateway-is c d = after IsLimit (get (codes "gateway") d) (limit_of c) (λ found. limit_read-is c (as_str found) (whole_of found))

-- ---- messages

abbrev IsWithin : Message → Type 0
IsWithin m = IsTrue (is_within m)

ask-is : (d : Data) → IfSome (ask_of d) IsWithin
unfolding ask_of
ask-is d =
    after IsWithin (member currency_value (codes "currency") d) _ (λ currency.
    after_all IsLimit IsWithin (member (amount_echoed currency) (codes "amount") d) _ (amount-is currency d) (λ amount fits.
    after IsWithin (member token_of (codes "card") d) _ (λ card.
    after IsWithin (member token_of (codes "event") d) _ (λ event.
    after IsWithin (member four_digits (codes "mcc") d) _ (λ mcc.
    after IsWithin (member token_of (codes "mid") d) _ (λ mid.
    after IsWithin (member number_of (codes "number") d) _ (λ number.
    after IsWithin (partial_of d) _ (λ partial.
    after IsWithin (member uuid_of (codes "token") d) _ (λ token.
    after IsWithin (member token_of (codes "txn") d) _ (λ txn.
    after IsWithin (member token_of (codes "user") d) _ (λ user. fits)))))))))))

note-is : (method : Method) (d : Data) → IfSome (note_of method d) IsWithin
unfolding note_of
note-is method d =
    after IsWithin (member currency_value (codes "currency") d) _ (λ currency.
    after IsWithin (member (limit_of currency) (codes "amount") d) _ (λ amount.
    after_all IsLimit IsWithin (member (limit_of currency) (codes "gateway") d) _ (gateway-is currency d) (λ gateway fits.
    after IsWithin (member number_of (codes "notice") d) _ (λ number.
    after IsWithin (voided_of method d) _ (λ token.
    after IsWithin (member token_of (codes "txn") d) _ (λ txn.
    after IsWithin (member token_of (codes "user") d) _ (λ user. fits)))))))

by_method : (b : Bool) (method : Method) (d : Data) → IfSome (cond b (ask_of d) (note_of method d)) IsWithin
by_method true method d = ask-is d
by_method false method d = note-is method d

value-is : (d : Data) → IfSome (message_of_value d) IsWithin
unfolding message_of_value message_of_method
value-is d = after IsWithin (member method_of (codes "method") d) (λ method. message_of_method method d) (λ method. by_method (asks method) method d)

pub read_within : (d : Data) (read : Option Message) → read ≡ message_of_value d → IfSome read IsWithin
read_within d read is = subst (λ (o : Option Message). IfSome o IsWithin) (sym is) (value-is d)
