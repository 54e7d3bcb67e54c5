-- The object of a text, member by member.
use Rattle.std.proofs.Common.{◌≡◌, ℕ, pos, List, [], ◌∷◌, ◌++◌, map, codes, decimal, Result, Ok, Err, is_ok, cond, OnOk, sym, ap, ◌∙◌, append_assoc, append-nil}
use Rattle.std.specs.List.{flat_map, join_with_byte}
use Rattle.iss_model.specs.declared.call.Opened.{Opened}
use Rattle.iss_model.specs.declared.call.Notice.{Notice}
use Rattle.iss_model.specs.Currencies.{currency_code}
use Rattle.iss_model.specs.Amounts.{amount_text, last_digits}
use Rattle.iss_model.specs.texts.Wordings.{Member, in_quotes, member_text, object_text, with_text, with_number}
use Rattle.iss_model.specs.texts.GatewayTexts.{method_text, token_text, partial_members, token_members, request_members, request_text, notice_members, notice_text}

-- ---- pieces of a member

pub quoted_after : (old text : List ℕ) → old ++ (34 ∷ []) ++ text ++ (34 ∷ []) ≡ old ++ in_quotes text
quoted_after old text = append_assoc (old ++ (34 ∷ [])) text (34 ∷ []) ∙ append_assoc old (34 ∷ []) (text ++ (34 ∷ []))

pub name_after : (old name : List ℕ) (before : ℕ) → old ++ (before ∷ []) ++ in_quotes name ++ (58 ∷ []) ≡ old ++ (before ∷ (in_quotes name ++ 58 ∷ []))
name_after old name before =
    append_assoc (old ++ (before ∷ [])) (in_quotes name) (58 ∷ []) ∙ append_assoc old (before ∷ []) (in_quotes name ++ 58 ∷ [])

-- a name and a text after it
pub text_after : (old name text : List ℕ) (before : ℕ)
    → old ++ (before ∷ (in_quotes name ++ 58 ∷ [])) ++ in_quotes text ≡ old ++ (before ∷ member_text (with_text name text))
text_after old name text before =
    append_assoc old (before ∷ (in_quotes name ++ 58 ∷ [])) (in_quotes text)
    ∙ ap (λ (t : List ℕ). old ++ (before ∷ t)) (append_assoc (in_quotes name) (58 ∷ []) (in_quotes text))

pub number_after : (old name : List ℕ) (n : ℕ)
    → old ++ (44 ∷ (in_quotes name ++ 58 ∷ [])) ++ decimal n ≡ old ++ (44 ∷ member_text (with_number name n))
number_after old name n =
    append_assoc old (44 ∷ (in_quotes name ++ 58 ∷ [])) (decimal n)
    ∙ ap (λ (t : List ℕ). old ++ (44 ∷ t)) (append_assoc (in_quotes name) (58 ∷ []) (decimal n))

-- a name, and a text between quotation marks that are put one by one
pub pieces_after : (old name text : List ℕ) (before : ℕ)
    → old ++ (before ∷ (in_quotes name ++ 58 ∷ [])) ++ (34 ∷ []) ++ text ++ (34 ∷ []) ≡ old ++ (before ∷ member_text (with_text name text))
pieces_after old name text before = quoted_after (old ++ (before ∷ (in_quotes name ++ 58 ∷ []))) text ∙ text_after old name text before

-- ---- members of an object

-- a member after a comma
abbrev pub next : Member → List ℕ
next m = 44 ∷ member_text m

joined : (m : Member) (ms : List Member) → member_text m ++ flat_map next ms ≡ join_with_byte 44 (map member_text (m ∷ ms))
joined m [] = append-nil (member_text m)
joined m (n ∷ ms) = ap (λ (t : List ℕ). member_text m ++ (44 ∷ t)) (joined n ms)

-- an object is its first member after a brace, the others after commas, and a closing brace
pub object_is : (m : Member) (ms : List Member) → (123 ∷ member_text m) ++ flat_map next ms ++ (125 ∷ []) ≡ object_text (m ∷ ms)
object_is m ms = ap (λ (t : List ℕ). 123 ∷ (t ++ (125 ∷ []))) (joined m ms)

-- members that are put one after the other, each after a comma
abbrev after : List ℕ → List Member → List ℕ
after text [] = text
after text (m ∷ ms) = after (text ++ next m) ms

after-is : (text : List ℕ) (ms : List Member) → after text ms ≡ text ++ flat_map next ms
after-is text [] = sym (append-nil text)
after-is text (m ∷ ms) = after-is (text ++ next m) ms ∙ append_assoc text (next m) (flat_map next ms)

-- members that were put as one text are as if they were put one by one
between : (text : List ℕ) (ms ns : List Member) → after (text ++ flat_map next ms) ns ≡ after text (ms ++ ns)
between text [] ns = ap (λ (t : List ℕ). after t ns) (append-nil text)
between text (m ∷ ms) ns =
    ap (λ (t : List ℕ). after t ns) (sym (append_assoc text (next m) (flat_map next ms))) ∙ between (text ++ next m) ms ns

object_after : (old : List ℕ) (m : Member) (ms : List Member) → after (old ++ (123 ∷ member_text m)) ms ++ (125 ∷ []) ≡ old ++ object_text (m ∷ ms)
object_after old m ms =
    ap (λ (t : List ℕ). t ++ (125 ∷ [])) (after-is (old ++ (123 ∷ member_text m)) ms ∙ append_assoc old (123 ∷ member_text m) (flat_map next ms))
    ∙ append_assoc old ((123 ∷ member_text m) ++ flat_map next ms) (125 ∷ [])
    ∙ ap (λ (t : List ℕ). old ++ t) (object_is m ms)

-- an object whose first member is put after a brace
abbrev pub opened_with : List ℕ → List Member → List ℕ
opened_with old [] = old ++ (123 ∷ [])
opened_with old (m ∷ ms) = after (old ++ (123 ∷ member_text m)) ms

closed : (old : List ℕ) (ms : List Member) → opened_with old ms ++ (125 ∷ []) ≡ old ++ object_text ms
closed old [] = append_assoc old (123 ∷ []) (125 ∷ [])
closed old (m ∷ ms) = object_after old m ms

-- the members of a request up to what it permits, and those after it
abbrev pub request_start : List ℕ → Opened → List ℕ
request_start old o =
    opened_with old (
    with_text (codes "amount") (amount_text (pos o.amount) o.currency)
    ∷ with_text (codes "card") o.card
    ∷ with_text (codes "currency") (currency_code o.currency)
    ∷ with_text (codes "event") o.event
    ∷ with_text (codes "mcc") (last_digits 4 o.mcc)
    ∷ with_text (codes "method") (method_text o.method)
    ∷ with_text (codes "mid") o.mid
    ∷ with_number (codes "number") o.call.0
    ∷ []
    )

abbrev pub request_rest : ℕ → Opened → List Member
request_rest instance o = with_text (codes "token") (token_text instance o.call.0) ∷ with_text (codes "txn") o.txn ∷ with_text (codes "user") o.user ∷ []

pub request_after : (old : List ℕ) (instance : ℕ) (o : Opened)
    → after (request_start old o ++ flat_map next (partial_members o.partial)) (request_rest instance o) ++ (125 ∷ []) ≡ old ++ request_text instance o
unfolding request_text
request_after old instance o =
    ap (λ (t : List ℕ). t ++ (125 ∷ [])) (between (request_start old o) (partial_members o.partial) (request_rest instance o)) ∙ closed old (request_members instance o)

-- the members of a notice up to the token, and those after it
abbrev pub notice_start : List ℕ → Notice → List ℕ
notice_start old n =
    opened_with old (
    with_text (codes "amount") (amount_text (pos n.amount) n.currency)
    ∷ with_text (codes "currency") (currency_code n.currency)
    ∷ with_text (codes "gateway") (amount_text (pos n.gateway) n.currency)
    ∷ with_text (codes "method") (method_text n.method)
    ∷ with_number (codes "notice") n.number
    ∷ []
    )

abbrev pub notice_rest : Notice → List Member
notice_rest n = with_text (codes "txn") n.txn ∷ with_text (codes "user") n.user ∷ []

pub notice_after : (old : List ℕ) (instance : ℕ) (n : Notice)
    → after (notice_start old n ++ flat_map next (token_members instance n.call)) (notice_rest n) ++ (125 ∷ []) ≡ old ++ notice_text instance n
unfolding notice_text
notice_after old instance n =
    ap (λ (t : List ℕ). t ++ (125 ∷ [])) (between (notice_start old n) (token_members instance n.call) (notice_rest n)) ∙ closed old (notice_members instance n)

-- ---- steps

-- one more piece is put after others
pub and_then : {before was now : List ℕ} (piece : List ℕ) → now ≡ was ++ piece → was ≡ before → now ≡ before ++ piece
and_then piece put so_far = put ∙ ap (λ (t : List ℕ). t ++ piece) so_far

-- if the last piece is put, the text is whole
pub ended : {T E : Type 0} (r : Result T E) (mid more new text : List ℕ) → new ≡ cond (is_ok r) (mid ++ more) mid → mid ++ more ≡ text → OnOk r (new ≡ text)
ended (Ok done) mid more new text is whole = is ∙ whole
ended (Err failed) mid more new text is whole = tt
