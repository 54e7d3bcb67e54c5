-- The text of a request or a notice is read as its message.
use Rattle.std.proofs.Common.{◌≡◌, ℕ, zero, suc, ◌+◌, ◌/◌, ◌%◌, ◌^◌, All, inl, ◌<◌, pos, Bool, true, false, not, cond, ◌&&◌, List, [], ◌∷◌, ◌++◌, codes, refl, sym, ap, ◌∙◌, arith}
use Rattle.std.specs.Prelude.{Option, Some, None, option_and_then, option_map}
use Rattle.std.proofs.lemmas.Bool.Decides.{nat_tests}
use Rattle.std.proofs.lemmas.List.Elements.{All-nil, All-cons, All-append}
use Rattle.std.specs.Int.{bytes_high_first, byte_at}
use Rattle.serde_json.specs.Data.{Data, no_members, number, object, string, unsigned}
use Rattle.serde_json.specs.Find.{get}
use Rattle.uuid.specs.Text.{parsed, lower}
use Rattle.uuid.proofs.RoundTrips.{parses_hyphenated}
use Rattle.iss_model.specs.declared.call.CallId.{CallId}
use Rattle.iss_model.specs.declared.call.Method.{Method}
use Rattle.iss_model.specs.declared.call.Method.TheVariants as method
use Rattle.iss_model.specs.declared.call.Notice.{Notice}
use Rattle.iss_model.specs.declared.call.Opened.{Opened}
use Rattle.iss_model.specs.declared.currency.Currency.{Currency}
use Rattle.iss_model.specs.declared.currency.Currency.TheVariants.{Usd, Eur, Gbp, Cad, Aud, Jpy, Kwd}
use Rattle.iss_model.specs.Amounts.{amount_text, is_digit, last_digits}
use Rattle.iss_model.specs.Currencies.{currency_code}
use Rattle.iss_model.specs.Forms.{is_amount, is_limit, is_number}
use Rattle.iss_model.specs.Tokens.{is_token}
use Rattle.iss_model.specs.texts.CallTokens.{call_uuid}
use Rattle.iss_model.specs.texts.Wordings.{with_text}
use Rattle.iss_model.specs.texts.GatewayTexts.{method_text, token_text, request_members, request_text, notice_members, notice_text, partial_members, token_members}
use Rattle.iss_amount.proofs.RoundTrips.{read_again}
use Rattle.iss_field.specs.Values.{token_of, currency_value, limit_of, whole_within}
use Rattle.iss_jit.specs.Outcomes.{uuid_of, amount_echoed}
use Rattle.iss_jit.proofs.CallTexts.{small, token}
use Rattle.iss_gateway.specs.declared.message.Message.{Message}
use Rattle.iss_gateway.specs.Messages.{message_asked, message_noted}
use Rattle.iss_gateway.specs.Readings.{member, method_of, method_named, number_of, four_digits, partial_of, ask_of, voided_of, note_of, asks, message_of_method, message_of_value, message_read}
use Rattle.iss_gateway.specs.Laws.{IsCall, IsNotice, NoticeIsRead, names_call}
use Rattle.iss_gateway.proofs.Plain.{all_bare, name_bare, amount_bare, code_bare, method_bare, last_digits_bare, call_bare}
use Rattle.iss_gateway.proofs.Objects.{AreAsIs, data_with, object_json}
use Rattle.iss_gateway.proofs.Limits.{limit_over}

-- ---- steps

-- what comes of a value that was found
then_is : {A B : Type 0} (o : Option A) (f : A → Option B) (a : A) (r : Option B) → o ≡ Some a → f a ≡ r → option_and_then f o ≡ r
then_is o f a r e g = ap (option_and_then f) e ∙ g

-- a member that is there in its form
member_is : {A : Type 0} (form : Data → Option A) (name : List ℕ) (d found : Data) (x : A) → get name d ≡ Some found → form found ≡ Some x → member form name d ≡ Some x
member_is form name d found x e g = ap (option_and_then form) e ∙ g

-- ---- forms

name_again : (text : List ℕ) → is_token text ≡ true → token_of (string text) ≡ Some text
unfolding token_of
name_again text h = ap (λ (b : Bool). cond b (Some text) None) h

code_again : (c : Currency) → currency_value (string (currency_code c)) ≡ Some c
unfolding currency_value
code_again Usd = refl
code_again Eur = refl
code_again Gbp = refl
code_again Cad = refl
code_again Aud = refl
code_again Jpy = refl
code_again Kwd = refl

method_again : (m : Method) → method_of (string (method_text m)) ≡ Some m
unfolding method_of method_named
method_again method.Authorization = refl
method_again method.Incremental = refl
method_again method.Void = refl
method_again method.StandIn = refl
method_again method.Reversal = refl
method_again method.Capture = refl
method_again method.Refund = refl
method_again method.Expiry = refl

amount_again : (n : ℕ) (c : Currency) → is_amount n ≡ true → amount_echoed c (string (amount_text (pos n) c)) ≡ Some n
unfolding amount_echoed
amount_again n c h = (read_again (pos n) c).amount_again n refl h

limit_again : (n : ℕ) (c : Currency) → is_limit n ≡ true → limit_of c (string (amount_text (pos n) c)) ≡ Some n
unfolding limit_of
limit_again n c h = (read_again (pos n) c).limit_again n refl h

number_again : (n : ℕ) → is_number n ≡ true → number_of (number (unsigned n)) ≡ Some n
unfolding number_of whole_within
number_again n h = ap (λ (b : Bool). cond b (Some n) None) h

digit_is : (n : ℕ) → is_digit (48 + n % 10) ≡ true
digit_is n = grind (arith, nat_tests)

four_again : (n : ℕ) → four_digits (string (last_digits 4 n)) ≡ Some (last_digits 4 n)
unfolding four_digits
four_again n = rw (digit_is (n / 10 / 10 / 10), digit_is (n / 10 / 10), digit_is (n / 10), digit_is n) refl

are_bytes : (k n : ℕ) → All (λ b. b < 256) (bytes_high_first k n)
are_bytes zero n = All-nil (λ b. b < 256)
are_bytes (suc k) n = All-cons (λ b. b < 256) (byte_at k n) (bytes_high_first k n) (small k n) (are_bytes k n)

token_bytes : (instance call : ℕ) → All (λ b. b < 256) (call_uuid instance call)
token_bytes instance call =
    let last = bytes_high_first 8 (2 ^ 63 + call) in
    All-append (λ b. b < 256) (bytes_high_first 6 instance) (128 ∷ 0 ∷ last) (are_bytes 6 instance)
    (All-cons (λ b. b < 256) 128 (0 ∷ last) (omega arith) (All-cons (λ b. b < 256) 0 last (omega arith) (are_bytes 8 (2 ^ 63 + call))))

call_again : (instance call : ℕ) → uuid_of (string (token_text instance call)) ≡ Some (call_uuid instance call)
unfolding uuid_of
call_again instance call =
    ap parsed (sym (token instance call)) ∙ sym (parses_hyphenated lower (call_uuid instance call) (inl refl) refl (token_bytes instance call))

-- ---- a request

number_small : (n : ℕ) → is_number n ≡ true → n < 2 ^ 64
number_small n h = grind (arith, nat_tests)

amount_small : (n : ℕ) → is_amount n ≡ true → n < 2 ^ 64
amount_small n h = grind (arith, nat_tests)

-- a value has the members of a request
record HasAsk (instance : ℕ) (o : Opened) (d : Data) : Type 0 where
  method_is : get (codes "method") d ≡ Some (string (method_text o.method))
  currency_is : get (codes "currency") d ≡ Some (string (currency_code o.currency))
  amount_is : get (codes "amount") d ≡ Some (string (amount_text (pos o.amount) o.currency))
  card_is : get (codes "card") d ≡ Some (string o.card)
  event_is : get (codes "event") d ≡ Some (string o.event)
  mcc_is : get (codes "mcc") d ≡ Some (string (last_digits 4 o.mcc))
  mid_is : get (codes "mid") d ≡ Some (string o.mid)
  number_is : get (codes "number") d ≡ Some (number (unsigned o.call.0))
  partial_is : partial_of d ≡ Some o.partial
  token_is : get (codes "token") d ≡ Some (string (token_text instance o.call.0))
  txn_is : get (codes "txn") d ≡ Some (string o.txn)
  user_is : get (codes "user") d ≡ Some (string o.user)

ask_again : (instance : ℕ) (o : Opened) (d : Data) → IsCall o → HasAsk instance o d → ask_of d ≡ Some (message_asked instance o)
unfolding ask_of
ask_again instance o d h says =
    then_is (member currency_value (codes "currency") d) _ o.currency _ (member_is currency_value (codes "currency") d _ o.currency says.currency_is (code_again o.currency))
    (then_is (member (amount_echoed o.currency) (codes "amount") d) _ o.amount _ (member_is (amount_echoed o.currency) (codes "amount") d _ o.amount says.amount_is (amount_again o.amount o.currency h.amount_fits))
    (then_is (member token_of (codes "card") d) _ o.card _ (member_is token_of (codes "card") d _ o.card says.card_is (name_again o.card h.card_is))
    (then_is (member token_of (codes "event") d) _ o.event _ (member_is token_of (codes "event") d _ o.event says.event_is (name_again o.event h.event_is))
    (then_is (member four_digits (codes "mcc") d) _ (last_digits 4 o.mcc) _ (member_is four_digits (codes "mcc") d _ (last_digits 4 o.mcc) says.mcc_is (four_again o.mcc))
    (then_is (member token_of (codes "mid") d) _ o.mid _ (member_is token_of (codes "mid") d _ o.mid says.mid_is (name_again o.mid h.mid_is))
    (then_is (member number_of (codes "number") d) _ o.call.0 _ (member_is number_of (codes "number") d _ o.call.0 says.number_is (number_again o.call.0 h.number_fits))
    (then_is (partial_of d) _ o.partial _ says.partial_is
    (then_is (member uuid_of (codes "token") d) _ (call_uuid instance o.call.0) _ (member_is uuid_of (codes "token") d _ (call_uuid instance o.call.0) says.token_is (call_again instance o.call.0))
    (then_is (member token_of (codes "txn") d) _ o.txn _ (member_is token_of (codes "txn") d _ o.txn says.txn_is (name_again o.txn h.txn_is))
    (then_is (member token_of (codes "user") d) _ o.user _ (member_is token_of (codes "user") d _ o.user says.user_is (name_again o.user h.user_is)) refl))))))))))

asked_value : (instance : ℕ) (o : Opened) (d : Data) → IsCall o → HasAsk instance o d → message_of_value d ≡ Some (message_asked instance o)
unfolding message_of_value message_of_method
asked_value instance o d h says =
    then_is (member method_of (codes "method") d) (λ m. message_of_method m d) o.method (Some (message_asked instance o))
    (member_is method_of (codes "method") d (string (method_text o.method)) o.method says.method_is (method_again o.method))
    (ap (λ (b : Bool). cond b (ask_of d) (note_of o.method d)) h.method_asks ∙ ask_again instance o d h says)

-- a name and what its value is, before others
also : {A B C : Type 0} → A → B → C → A × (B × C)
also name value rest = (name, (value, rest))

-- the last members of a request, and all of them with what is permitted or without, are read as they are
ask_end : (instance : ℕ) (o : Opened) → IsCall o → AreAsIs (with_text (codes "token") (token_text instance o.call.0) ∷ with_text (codes "txn") o.txn ∷ with_text (codes "user") o.user ∷ [])
ask_end instance o h =
    also (all_bare (codes "token") refl) (call_bare instance o.call.0)
    (also (all_bare (codes "txn") refl) (name_bare o.txn h.txn_is) (also (all_bare (codes "user") refl) (name_bare o.user h.user_is) tt))

ask_as_is : (instance : ℕ) (o : Opened) (partial : Bool) → o.partial ≡ partial → IsCall o → AreAsIs (request_members instance (record o { partial = partial }))
ask_as_is instance o partial e h =
    also (all_bare (codes "amount") refl) (amount_bare o.amount o.currency (amount_small o.amount h.amount_fits))
    (also (all_bare (codes "card") refl) (name_bare o.card h.card_is)
    (also (all_bare (codes "currency") refl) (code_bare o.currency)
    (also (all_bare (codes "event") refl) (name_bare o.event h.event_is)
    (also (all_bare (codes "mcc") refl) (last_digits_bare 4 o.mcc)
    (also (all_bare (codes "method") refl) (method_bare o.method)
    (also (all_bare (codes "mid") refl) (name_bare o.mid h.mid_is)
    (also (all_bare (codes "number") refl) (number_small o.call.0 h.number_fits) (rest partial))))))))
  where
    rest : (b : Bool) → AreAsIs (partial_members b ++ with_text (codes "token") (token_text instance o.call.0) ∷ with_text (codes "txn") o.txn ∷ with_text (codes "user") o.user ∷ [])
    rest false = ask_end instance o h
    rest true = also (all_bare (codes "partial") refl) tt (ask_end instance o h)

has_ask : (instance : ℕ) (o : Opened) (partial : Bool) → o.partial ≡ partial → HasAsk instance o (object (data_with (request_members instance (record o { partial = partial })) no_members))
unfolding partial_of
has_ask instance o false e =
    record {
      method_is = refl;
      currency_is = refl;
      amount_is = refl;
      card_is = refl;
      event_is = refl;
      mcc_is = refl;
      mid_is = refl;
      number_is = refl;
      partial_is = ap (λ b. Some b) (sym e);
      token_is = refl;
      txn_is = refl;
      user_is = refl;
    }
has_ask instance o true e =
    record {
      method_is = refl;
      currency_is = refl;
      amount_is = refl;
      card_is = refl;
      event_is = refl;
      mcc_is = refl;
      mid_is = refl;
      number_is = refl;
      partial_is = ap (λ b. Some b) (sym e);
      token_is = refl;
      txn_is = refl;
      user_is = refl;
    }

pub request_again : (instance : ℕ) (o : Opened) → IsCall o → message_read (request_text instance o) ≡ Some (message_asked instance o)
unfolding message_read request_text
request_again instance o h =
    ap (option_and_then message_of_value) (object_json (request_members instance o) (ask_as_is instance o o.partial refl h))
    ∙ asked_value instance o (object (data_with (request_members instance o) no_members)) h (has_ask instance o o.partial refl)

-- ---- a notice

record HasNote (instance : ℕ) (n : Notice) (d : Data) : Type 0 where
  method_is : get (codes "method") d ≡ Some (string (method_text n.method))
  currency_is : get (codes "currency") d ≡ Some (string (currency_code n.currency))
  amount_is : get (codes "amount") d ≡ Some (string (amount_text (pos n.amount) n.currency))
  gateway_is : get (codes "gateway") d ≡ Some (string (amount_text (pos n.gateway) n.currency))
  number_is : get (codes "notice") d ≡ Some (number (unsigned n.number))
  token_is : voided_of n.method d ≡ Some (option_map (λ call. call_uuid instance call.0) n.call)
  txn_is : get (codes "txn") d ≡ Some (string n.txn)
  user_is : get (codes "user") d ≡ Some (string n.user)

note_again : (instance : ℕ) (n : Notice) (d : Data) → IsNotice n → is_limit n.amount ≡ true → is_limit n.gateway ≡ true → HasNote instance n d → note_of n.method d ≡ Some (message_noted instance n)
unfolding note_of
note_again instance n d h low small says =
    then_is (member currency_value (codes "currency") d) _ n.currency _ (member_is currency_value (codes "currency") d _ n.currency says.currency_is (code_again n.currency))
    (then_is (member (limit_of n.currency) (codes "amount") d) _ n.amount _ (member_is (limit_of n.currency) (codes "amount") d _ n.amount says.amount_is (limit_again n.amount n.currency low))
    (then_is (member (limit_of n.currency) (codes "gateway") d) _ n.gateway _ (member_is (limit_of n.currency) (codes "gateway") d _ n.gateway says.gateway_is (limit_again n.gateway n.currency small))
    (then_is (member number_of (codes "notice") d) _ n.number _ (member_is number_of (codes "notice") d _ n.number says.number_is (number_again n.number h.number_fits))
    (then_is (voided_of n.method d) _ (option_map (λ call. call_uuid instance call.0) n.call) _ says.token_is
    (then_is (member token_of (codes "txn") d) _ n.txn _ (member_is token_of (codes "txn") d _ n.txn says.txn_is (name_again n.txn h.txn_is))
    (then_is (member token_of (codes "user") d) _ n.user _ (member_is token_of (codes "user") d _ n.user says.user_is (name_again n.user h.user_is)) refl))))))

noted_value : (n : Notice) (d : Data) (r : Option Message) → IsNotice n → get (codes "method") d ≡ Some (string (method_text n.method)) → note_of n.method d ≡ r → message_of_value d ≡ r
unfolding message_of_value message_of_method
noted_value n d r h says is =
    then_is (member method_of (codes "method") d) (λ m. message_of_method m d) n.method r
    (member_is method_of (codes "method") d (string (method_text n.method)) n.method says (method_again n.method))
    (by (asks n.method) refl h.method_notes)
  where
    by : (b : Bool) → asks n.method ≡ b → not (asks n.method) ≡ true → cond (asks n.method) (ask_of d) (note_of n.method d) ≡ r
    by true e f = let never : false ≡ true = sym (ap not e) ∙ f in absurd (cc)
    by false e f = ap (λ (x : Bool). cond x (ask_of d) (note_of n.method d)) e ∙ is

note_end : (n : Notice) → IsNotice n → AreAsIs (with_text (codes "txn") n.txn ∷ with_text (codes "user") n.user ∷ [])
note_end n h = also (all_bare (codes "txn") refl) (name_bare n.txn h.txn_is) (also (all_bare (codes "user") refl) (name_bare n.user h.user_is) tt)

note_as_is : (instance : ℕ) (n : Notice) (call : Option CallId) → n.call ≡ call → IsNotice n → AreAsIs (notice_members instance (record n { call = call }))
note_as_is instance n call e h =
    also (all_bare (codes "amount") refl) (amount_bare n.amount n.currency h.amount_fits)
    (also (all_bare (codes "currency") refl) (code_bare n.currency)
    (also (all_bare (codes "gateway") refl) (amount_bare n.gateway n.currency h.gateway_fits)
    (also (all_bare (codes "method") refl) (method_bare n.method)
    (also (all_bare (codes "notice") refl) (number_small n.number h.number_fits) (rest call)))))
  where
    rest : (c : Option CallId) → AreAsIs (token_members instance c ++ with_text (codes "txn") n.txn ∷ with_text (codes "user") n.user ∷ [])
    rest None = note_end n h
    rest (Some id) = also (all_bare (codes "token") refl) (call_bare instance id.0) (note_end n h)

abbrev note_data : ℕ → Notice → Option CallId → Data
note_data instance n call = object (data_with (notice_members instance (record n { call = call })) no_members)

-- the token is voided that the notice names
voids : (instance : ℕ) (n : Notice) (m : Method) (call : Option CallId) → names_call m call ≡ true
    → voided_of m (note_data instance n call) ≡ Some (option_map (λ (c : CallId). call_uuid instance c.0) call)
voids instance n method.Void None h = cc
voids instance n method.Void (Some call) h = ap (option_and_then (λ t. Some (Some t))) (call_again instance call.0)
voids instance n method.Authorization None h = refl
voids instance n method.Incremental None h = refl
voids instance n method.StandIn None h = refl
voids instance n method.Reversal None h = refl
voids instance n method.Capture None h = refl
voids instance n method.Refund None h = refl
voids instance n method.Expiry None h = refl
voids instance n method.Authorization (Some call) h = cc
voids instance n method.Incremental (Some call) h = cc
voids instance n method.StandIn (Some call) h = cc
voids instance n method.Reversal (Some call) h = cc
voids instance n method.Capture (Some call) h = cc
voids instance n method.Refund (Some call) h = cc
voids instance n method.Expiry (Some call) h = cc

has_note : (instance : ℕ) (n : Notice) (call : Option CallId) → n.call ≡ call → IsNotice n → HasNote instance n (note_data instance n call)
has_note instance n None e h =
    record {
      method_is = refl;
      currency_is = refl;
      amount_is = refl;
      gateway_is = refl;
      number_is = refl;
      token_is = voids instance n n.method None (ap (names_call n.method) (sym e) ∙ h.call_is)
          ∙ ap (λ (o : Option CallId). Some (option_map (λ (c : CallId). call_uuid instance c.0) o)) (sym e);
      txn_is = refl;
      user_is = refl;
    }
has_note instance n (Some call) e h =
    record {
      method_is = refl;
      currency_is = refl;
      amount_is = refl;
      gateway_is = refl;
      number_is = refl;
      token_is = voids instance n n.method (Some call) (ap (names_call n.method) (sym e) ∙ h.call_is)
          ∙ ap (λ (o : Option CallId). Some (option_map (λ (c : CallId). call_uuid instance c.0) o)) (sym e);
      txn_is = refl;
      user_is = refl;
    }

pub notice_again : (instance : ℕ) (n : Notice) → IsNotice n → is_limit n.amount ≡ true → is_limit n.gateway ≡ true → message_read (notice_text instance n) ≡ Some (message_noted instance n)
unfolding message_read notice_text
notice_again instance n h low small =
    let d = note_data instance n n.call in
    let has = has_note instance n n.call refl h in
    ap (option_and_then message_of_value) (object_json (notice_members instance n) (note_as_is instance n n.call refl h))
    ∙ noted_value n d (Some (message_noted instance n)) h has.method_is (note_again instance n d h low small has)

-- ---- a notice over the limit

member_none : {A : Type 0} (form : Data → Option A) (name : List ℕ) (d found : Data) → get name d ≡ Some found → form found ≡ None → member form name d ≡ None
member_none form name d found e g = ap (option_and_then form) e ∙ g

gateway_over : (instance : ℕ) (n : Notice) (d : Data) → IsNotice n → is_limit n.amount ≡ true → is_limit n.gateway ≡ false → HasNote instance n d → note_of n.method d ≡ None
unfolding note_of
gateway_over instance n d h low over says =
    then_is (member currency_value (codes "currency") d) _ n.currency _ (member_is currency_value (codes "currency") d _ n.currency says.currency_is (code_again n.currency))
    (then_is (member (limit_of n.currency) (codes "amount") d) _ n.amount _ (member_is (limit_of n.currency) (codes "amount") d _ n.amount says.amount_is (limit_again n.amount n.currency low))
    (ap (option_and_then _) (member_none (limit_of n.currency) (codes "gateway") d _ says.gateway_is (limit_over n.gateway n.currency h.gateway_fits over))))

amount_over : (instance : ℕ) (n : Notice) (d : Data) → IsNotice n → is_limit n.amount ≡ false → HasNote instance n d → note_of n.method d ≡ None
unfolding note_of
amount_over instance n d h over says =
    then_is (member currency_value (codes "currency") d) _ n.currency _ (member_is currency_value (codes "currency") d _ n.currency says.currency_is (code_again n.currency))
    (ap (option_and_then _) (member_none (limit_of n.currency) (codes "amount") d _ says.amount_is (limit_over n.amount n.currency h.amount_fits over)))

note_over : (instance : ℕ) (n : Notice) (d : Data) (a b : Bool) → is_limit n.amount ≡ a → is_limit n.gateway ≡ b → not (a && b) ≡ true → IsNotice n → HasNote instance n d → note_of n.method d ≡ None
note_over instance n d true true e f over h says = cc
note_over instance n d true false e f over h says = gateway_over instance n d h e f says
note_over instance n d false b e f over h says = amount_over instance n d h e says

pub notice_over : (instance : ℕ) (n : Notice) → IsNotice n → not (is_limit n.amount && is_limit n.gateway) ≡ true → message_read (notice_text instance n) ≡ None
unfolding message_read notice_text
notice_over instance n h over =
    let d = note_data instance n n.call in
    let has = has_note instance n n.call refl h in
    ap (option_and_then message_of_value) (object_json (notice_members instance n) (note_as_is instance n n.call refl h))
    ∙ noted_value n d None h has.method_is (note_over instance n d (is_limit n.amount) (is_limit n.gateway) refl refl over h has)

pub notice_read : (instance : ℕ) (n : Notice) → IsNotice n → NoticeIsRead instance n
notice_read instance n h = record { within = notice_again instance n h; over = notice_over instance n h }
