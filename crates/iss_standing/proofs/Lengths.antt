-- A record's spelling has 1 to 8192 bytes.
use Rattle.std.proofs.Common.{◌≡◌, ℕ, ℤ, ◌+◌, ◌*◌, ◌≤◌, Bool, true, false, cond, ◌&&◌, List, [], ◌∷◌, ◌++◌, length, refl, sym, ◌∙◌, arith, length-append}
use Rattle.std.specs.Prelude.{Option, Some, None, nat_le}
use Rattle.std.specs.Int.{w16, cast_unsigned}
use Rattle.std.specs.List.{list_all, flat_map}
use Rattle.std.proofs.lemmas.Bool.{and_parts}
use Rattle.std.proofs.lemmas.Bool.Decides.{nat_tests}
use Rattle.std.proofs.lemmas.List.Folds.{list_all-append}
use Rattle.iss_model.specs.declared.limits.TheConstants.{MOST_MCCS}
use Rattle.iss_model.specs.declared.currency.Currency.{Currency}
use Rattle.iss_model.specs.declared.input.Outcome.{Outcome}
use Rattle.iss_model.specs.declared.input.Outcome.TheVariants as outcome
use Rattle.iss_model.specs.declared.input.Input.{Input}
use Rattle.iss_model.specs.declared.input.Input.TheVariants as input
use Rattle.iss_model.specs.declared.input.Record.{Record}
use Rattle.iss_model.specs.declared.setting.Moved.{Moved}
use Rattle.iss_model.specs.declared.setting.Moved.TheVariants as moved
use Rattle.iss_model.specs.declared.setting.Association.{Association}
use Rattle.iss_model.specs.declared.setting.Association.TheVariants as association
use Rattle.iss_model.specs.declared.setting.Scope.{Scope}
use Rattle.iss_model.specs.declared.setting.Scope.TheVariants as scope
use Rattle.iss_model.specs.Currencies.{iso_number}
use Rattle.iss_model.specs.Tokens.{is_token, is_token_byte}
use Rattle.iss_model.specs.Forms.{are_mccs, are_rising, is_in_form, is_stamp}
use Rattle.iss_model.specs.Inputs.{with_length, flag_contents, moved_contents, association_contents, card_state_number, user_state_number, funding_number, window_number}
use Rattle.iss_model.specs.texts.Spelling.{number_bytes, currency_bytes, amount_bytes, outcome_bytes, mcc_bytes, mccs_bytes, limits_bytes, is_utc, offset_bytes, scope_bytes, operation_bytes, field_bytes, spelling, tokens_of, moved_token, association_tokens, scope_tokens, is_record}
use Rattle.iss_codec.proofs.NumberBytes.{wide_2, wide_4, wide_8}
use Rattle.iss_journal.specs.Region.{IsBody}

-- one after the other
more : (m n : ℕ) (xs ys : List ℕ) → length xs ≤ m → length ys ≤ n → length (xs ++ ys) ≤ m + n
more m n xs ys p q = omega (arith, length-append {A = ℕ} xs ys, p, q)

name_length : (text : List ℕ) → is_token text ≡ true → length (with_length text) ≤ 37
name_length text h =
    let parts = and_parts (nat_le 1 (length text) && nat_le (length text) 36) (list_all is_token_byte text) h in
    let short : nat_le (length text) 36 ≡ true = (and_parts (nat_le 1 (length text)) (nat_le (length text) 36) parts.0).1 in
    grind (arith, nat_tests)

codes_length : (codes : List ℕ) → length (flat_map mcc_bytes codes) ≡ 2 * length codes
codes_length [] = refl
codes_length (code ∷ codes) =
    omega (arith, length-append {A = ℕ} (mcc_bytes code) (flat_map mcc_bytes codes), wide_2.size code, codes_length codes)

group_length : (codes : List ℕ) → are_mccs codes ≡ true → length (mccs_bytes codes) ≤ 2002
group_length codes h =
    let parts = and_parts (nat_le 1 (length codes) && nat_le (length codes) MOST_MCCS) (are_rising 0 codes) h in
    let few : nat_le (length codes) MOST_MCCS ≡ true = (and_parts (nat_le 1 (length codes)) (nat_le (length codes) MOST_MCCS) parts.0).1 in
    let most : length codes ≤ 1000 = grind (arith, nat_tests) in
    omega (arith, length-append {A = ℕ} (number_bytes 2 (length codes)) (flat_map mcc_bytes codes), wide_2.size (length codes), codes_length codes, most)

flag_length : (b : Bool) → length (flag_contents b) ≤ 1
flag_length true = omega arith
flag_length false = omega arith

offset_length : (offset : ℤ) → length (offset_bytes offset) ≤ 2
offset_length offset = by (is_utc offset)
  where
    by : (b : Bool) → length (cond b [] (number_bytes 2 (cast_unsigned w16 offset))) ≤ 2
    by true = omega arith
    by false = omega (arith, wide_2.size (cast_unsigned w16 offset))

limit_length : (amount usage : Option ℕ) → length (limits_bytes amount usage) ≤ 14
limit_length None None = omega arith
limit_length None (Some u) = omega (arith, wide_4.size u)
limit_length (Some a) None = omega (arith, length-append {A = ℕ} (1 ∷ number_bytes 8 a) (0 ∷ []), wide_8.size a)
limit_length (Some a) (Some u) = omega (arith, length-append {A = ℕ} (1 ∷ number_bytes 8 a) (1 ∷ number_bytes 4 u), wide_8.size a, wide_4.size u)

operation_length : (token txn : List ℕ) (currency : Currency) (amount : ℕ) → is_token token ≡ true → is_token txn ≡ true → length (operation_bytes token txn currency amount) ≤ 84
operation_length token txn currency amount p q =
    let names = more 37 37 (with_length token) (with_length txn) (name_length token p) (name_length txn q) in
    let third = more 74 2 (with_length token ++ with_length txn) (currency_bytes currency) names (omega (arith, wide_2.size (iso_number currency))) in
    more 76 8 (with_length token ++ with_length txn ++ currency_bytes currency) (amount_bytes amount) third (omega (arith, wide_8.size amount))

moved_length : (who : Moved) → is_token (moved_token who) ≡ true → length (moved_contents who) ≤ 39
moved_length (moved.Card card to) h = omega (arith, more 37 1 (with_length card) (card_state_number to ∷ []) (name_length card h) (omega arith))
moved_length (moved.User user to) h = omega (arith, more 37 1 (with_length user) (user_state_number to ∷ []) (name_length user h) (omega arith))

association_length : (a : Association) → list_all is_token (association_tokens a) ≡ true → length (association_contents a) ≤ 38
association_length association.Anybody h = omega arith
association_length (association.User user) h = omega (arith, name_length user (and_parts (is_token user) true h).0)
association_length (association.Product product) h = omega (arith, name_length product (and_parts (is_token product) true h).0)

scope_length : (s : Scope) → list_all is_token (scope_tokens s) ≡ true → length (scope_bytes s) ≤ 38
scope_length scope.All h = omega arith
scope_length (scope.Mcc mcc) h = omega (arith, wide_2.size mcc)
scope_length (scope.Group group) h = omega (arith, name_length group (and_parts (is_token group) true h).0)
scope_length (scope.Mid mid) h = omega (arith, name_length mid (and_parts (is_token mid) true h).0)

outcome_length : (what : Outcome) → length (outcome_bytes what) ≤ 10
outcome_length outcome.Funded = omega arith
outcome_length outcome.Refused = omega arith
outcome_length outcome.Connection = omega arith
outcome_length outcome.Application = omega arith
outcome_length (outcome.Partial currency amount) =
    more 2 8 (currency_bytes currency) (amount_bytes amount) (omega (arith, wide_2.size (iso_number currency))) (omega (arith, wide_8.size amount))

two_names : (a b : List ℕ) → list_all is_token (a ∷ b ∷ []) ≡ true → (is_token a ≡ true) × (is_token b ≡ true)
two_names a b h =
    let p = and_parts (is_token a) (list_all is_token (b ∷ [])) h in (p.0, (and_parts (is_token b) true p.1).0)

three_names : (a b c : List ℕ) → list_all is_token (a ∷ b ∷ c ∷ []) ≡ true → (is_token a ≡ true) × (is_token b ≡ true) × (is_token c ≡ true)
three_names a b c h =
    let p = and_parts (is_token a) (list_all is_token (b ∷ c ∷ [])) h in
    let q = two_names b c p.1 in (p.0, q.0, q.1)

-- the fields of an input whose names are tokens, and whose codes are at most 1000
fields_length : (i : Input) → is_in_form i ≡ true → list_all is_token (tokens_of i) ≡ true → length (field_bytes i) ≤ 2100
unfolding field_bytes
fields_length (input.User token user) f h =
    let p = two_names token user h in omega (arith, more 37 37 (with_length token) (with_length user) (name_length token p.0) (name_length user p.1))
fields_length (input.Card token card user product active) f h =
    let p = and_parts (is_token token) (list_all is_token (card ∷ user ∷ product ∷ [])) h in
    let q = three_names card user product p.1 in
    let first = with_length token in
    let two = more 37 37 first (with_length card) (name_length token p.0) (name_length card q.0) in
    let three = more 74 37 (first ++ with_length card) (with_length user) two (name_length user q.1) in
    let four = more 111 37 (first ++ with_length card ++ with_length user) (with_length product) three (name_length product q.2) in
    omega (arith, more 148 1 (first ++ with_length card ++ with_length user ++ with_length product) (flag_contents active) four (flag_length active))
fields_length (input.Move token who) f h =
    let p = two_names token (moved_token who) h in
    omega (arith, more 37 39 (with_length token) (moved_contents who) (name_length token p.0) (moved_length who p.1))
fields_length (input.Product token product currency funding timeout_ms hold_ms) f h =
    let p = two_names token product h in
    let names = with_length token ++ with_length product in
    let two = more 37 37 (with_length token) (with_length product) (name_length token p.0) (name_length product p.1) in
    let three = more 74 2 names (currency_bytes currency) two (omega (arith, wide_2.size (iso_number currency))) in
    let four = more 76 1 (names ++ currency_bytes currency) (funding_number funding ∷ []) three (omega arith) in
    let five = more 77 4 (names ++ currency_bytes currency ++ (funding_number funding ∷ [])) (number_bytes 4 timeout_ms) four (omega (arith, wide_4.size timeout_ms)) in
    omega (
      arith,
      more 81 4 (names ++ currency_bytes currency ++ (funding_number funding ∷ []) ++ number_bytes 4 timeout_ms) (number_bytes 4 hold_ms) five (omega (arith, wide_4.size hold_ms)),
    )
fields_length (input.Group token group mccs) f h =
    let p = two_names token group h in
    let two = more 37 37 (with_length token) (with_length group) (name_length token p.0) (name_length group p.1) in
    omega (arith, more 74 2002 (with_length token ++ with_length group) (mccs_bytes mccs) two (group_length mccs f))
fields_length (input.Control token control currency window amount_limit usage_limit association scope offset active) f h =
    let p = and_parts (is_token token) (list_all is_token (control ∷ association_tokens association ++ scope_tokens scope)) h in
    let q = and_parts (is_token control) (list_all is_token (association_tokens association ++ scope_tokens scope)) p.1 in
    let r = and_parts (list_all is_token (association_tokens association)) (list_all is_token (scope_tokens scope)) (sym (list_all-append is_token (association_tokens association) (scope_tokens scope)) ∙ q.1) in
    let names = with_length token ++ with_length control in
    let limits = limits_bytes amount_limit usage_limit in
    let two = more 37 37 (with_length token) (with_length control) (name_length token p.0) (name_length control q.0) in
    let three = more 74 2 names (currency_bytes currency) two (omega (arith, wide_2.size (iso_number currency))) in
    let four = more 76 1 (names ++ currency_bytes currency) (window_number window ∷ []) three (omega arith) in
    let five = more 77 14 (names ++ currency_bytes currency ++ (window_number window ∷ [])) limits four (limit_length amount_limit usage_limit) in
    let six = more 91 38 (names ++ currency_bytes currency ++ (window_number window ∷ []) ++ limits) (association_contents association) five (association_length association r.0) in
    let seven =
    more 129 38 (names ++ currency_bytes currency ++ (window_number window ∷ []) ++ limits ++ association_contents association) (scope_bytes scope) six (scope_length scope r.1) in
    let eight =
    more 167 1 (names ++ currency_bytes currency ++ (window_number window ∷ []) ++ limits ++ association_contents association ++ scope_bytes scope) (flag_contents active) seven (flag_length active) in
    omega (
      arith,
      more 168 2 (names ++ currency_bytes currency ++ (window_number window ∷ []) ++ limits ++ association_contents association ++ scope_bytes scope ++ flag_contents active) (offset_bytes offset) eight (offset_length offset),
    )
fields_length (input.Set token set product currency connection timeout application max day_limit active) f h =
    let p = three_names token set product h in
    let names = with_length token ++ with_length set ++ with_length product in
    let two = more 37 37 (with_length token) (with_length set) (name_length token p.0) (name_length set p.1) in
    let three = more 74 37 (with_length token ++ with_length set) (with_length product) two (name_length product p.2) in
    let four = more 111 2 names (currency_bytes currency) three (omega (arith, wide_2.size (iso_number currency))) in
    let five = more 113 1 (names ++ currency_bytes currency) (flag_contents connection) four (flag_length connection) in
    let six = more 114 1 (names ++ currency_bytes currency ++ flag_contents connection) (flag_contents timeout) five (flag_length timeout) in
    let flags = names ++ currency_bytes currency ++ flag_contents connection ++ flag_contents timeout ++ flag_contents application in
    let seven = more 115 1 (names ++ currency_bytes currency ++ flag_contents connection ++ flag_contents timeout) (flag_contents application) six (flag_length application) in
    let eight = more 116 8 flags (amount_bytes max) seven (omega (arith, wide_8.size max)) in
    let nine = more 124 8 (flags ++ amount_bytes max) (amount_bytes day_limit) eight (omega (arith, wide_8.size day_limit)) in
    omega (arith, more 132 1 (flags ++ amount_bytes max ++ amount_bytes day_limit) (flag_contents active) nine (flag_length active))
fields_length (input.Switch token product on) f h =
    let p = two_names token product h in
    let two = more 37 37 (with_length token) (with_length product) (name_length token p.0) (name_length product p.1) in
    omega (arith, more 74 1 (with_length token ++ with_length product) (flag_contents on) two (flag_length on))
fields_length (input.Load token user currency amount) f h =
    let p = two_names token user h in omega (arith, operation_length token user currency amount p.0 p.1)
fields_length (input.Authorization token card currency amount mcc mid partial) f h =
    let p = three_names token card mid h in
    let operation = operation_bytes token card currency amount in
    let two = more 84 2 operation (mcc_bytes mcc) (operation_length token card currency amount p.0 p.1) (omega (arith, wide_2.size mcc)) in
    omega (arith, more 86 37 (operation ++ mcc_bytes mcc) (with_length mid) two (name_length mid p.2))
fields_length (input.Increment token txn currency amount) f h =
    let p = two_names token txn h in omega (arith, operation_length token txn currency amount p.0 p.1)
fields_length (input.Reversal token txn currency amount) f h =
    let p = two_names token txn h in omega (arith, operation_length token txn currency amount p.0 p.1)
fields_length (input.Clearing token txn currency amount last) f h =
    let p = two_names token txn h in
    omega (arith, more 84 1 (operation_bytes token txn currency amount) (flag_contents last) (operation_length token txn currency amount p.0 p.1) (flag_length last))
fields_length (input.Refund token txn currency amount) f h =
    let p = two_names token txn h in omega (arith, operation_length token txn currency amount p.0 p.1)
fields_length (input.Answer call what) f h = omega (arith, more 4 10 (number_bytes 4 call.0) (outcome_bytes what) (omega (arith, wide_4.size call.0)) (outcome_length what))
fields_length (input.Ack notice) f h = omega (arith, wide_4.size notice)
fields_length input.Time f h = omega arith

-- a record's body in the journal
pub spelled_body : (r : Record) → is_in_form r.input ≡ true → list_all is_token (tokens_of r.input) ≡ true → IsBody (spelling r)
unfolding spelling
spelled_body r f h =
    let whole : length (spelling r) ≡ 9 + length (field_bytes r.input) =
    omega (arith, length-append {A = ℕ} (number_bytes 8 r.at) (field_bytes r.input), wide_8.size r.at) in
    record { some = omega (arith, whole); most = omega (arith, whole, fields_length r.input f h) }

-- the form and the names of a record that is spelled
pub record SpelledParts (r : Record) : Type 0 where
  pub stamp : is_stamp r.at ≡ true
  pub form : is_in_form r.input ≡ true
  pub names : list_all is_token (tokens_of r.input) ≡ true

pub spelled_parts : (r : Record) → is_record r ≡ true → SpelledParts r
spelled_parts r h =
    let p = and_parts (is_stamp r.at) (is_in_form r.input && list_all is_token (tokens_of r.input)) h in
    let q = and_parts (is_in_form r.input) (list_all is_token (tokens_of r.input)) p.1 in
    record { stamp = p.0; form = q.0; names = q.1 }

pub record_body : (r : Record) → is_record r ≡ true → IsBody (spelling r)
record_body r h = let p = spelled_parts r h in spelled_body r p.form p.names
