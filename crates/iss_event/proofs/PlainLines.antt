-- Lines whose members stand in their usual order are read as the objects that they are.
use Rattle.std.proofs.Common.{◌≡◌, ℕ, ◌&&◌, nat_le, Bool, true, false, nat_lt, codes, List, length, is_some, Option, Some, None, IfSome, Result, Ok, Err, option_map, option_and_then, refl, sym, ap, ap₂, subst, ◌∙◌}
use Rattle.std.specs.Str.{IsAscii}
use Rattle.std.specs.Option.{ok_or, unwrap_or}
use Rattle.json.specs.Find as find
use Rattle.json.specs.Json.{Json, boolean, number, string, object, Members, no_members, member}
use Rattle.serde_json.specs.Data as parsed
use Rattle.serde_json.specs.Data.{Data}
use Rattle.serde_json.specs.Find.{as_bool, as_str, as_u64, as_number}
use Rattle.serde_json.specs.Read.{number_of}
use Rattle.iss_model.specs.declared.limits.TheConstants.{FIRST_NUMBER, GREATEST_NUMBER, LAST_STAMP, LONGEST_LINE}
use Rattle.iss_model.specs.Amounts.{if_form}
use Rattle.iss_model.specs.declared.currency.Currency.{Currency}
use Rattle.iss_model.specs.declared.input.Input.{Input}
use Rattle.iss_model.specs.declared.input.Input.TheVariants as input
use Rattle.iss_model.specs.declared.input.Outcome.{Outcome}
use Rattle.iss_model.specs.declared.input.Outcome.TheVariants as outcome
use Rattle.iss_field.specs.declared.members.Whole.{Whole}
use Rattle.iss_field.specs.declared.name.Name.{Name}
use Rattle.iss_field.specs.declared.name.Name.TheVariants as name
use Rattle.iss_field.specs.Fields.{◌>>=◌, field, found_unless, required_field, required_field_unless, optional_field_or}
use Rattle.iss_field.specs.Names.{name_text}
use Rattle.iss_field.specs.Objects.{object_of}
use Rattle.iss_field.specs.PlainObjects.{member_text, ended, AreReadable}
use Rattle.iss_field.specs.Seen.{data_of}
use Rattle.iss_field.specs.Texts.{token_known, currency_known, amount_known}
use Rattle.iss_field.specs.Values.{whole_within, outcome_of, outcome_of_text}
use Rattle.iss_field.specs.Wholes.{IsWhole}
use Rattle.iss_field.proofs.MembersRead.{object_read, readable_object_fits, found_field, absent_field, text_data, flag_data, number_data, whole_number_fits}
use Rattle.iss_event.specs.declared.kind.Kind.{Kind}
use Rattle.iss_event.specs.declared.kind.Kind.TheVariants as kind
use Rattle.iss_event.specs.declared.line.Mode.{Mode}
use Rattle.iss_event.specs.declared.line.Mode.TheVariants.{Lines, Client}
use Rattle.iss_event.specs.declared.line.Line.{Line}
use Rattle.iss_event.specs.declared.line.FormFault.{FormFault}
use Rattle.iss_event.specs.declared.payments.Operation.{Operation}
use Rattle.iss_event.specs.declared.plain.Purchase.{Purchase}
use Rattle.iss_event.specs.declared.plain.Load.{Load}
use Rattle.iss_event.specs.declared.plain.OperationTexts.{OperationTexts}
use Rattle.iss_event.specs.declared.plain.OperationKind.{OperationKind}
use Rattle.iss_event.specs.declared.plain.OperationKind.TheVariants as operation
use Rattle.iss_event.specs.Inputs.{input_of_kind, authorization_input, load_input, operation_said, increment_input, reversal_input, clearing_input, refund_input, outcome_said, answer_input}
use Rattle.iss_event.specs.Kinds.{kind_in, kind_of, kind_of_text, may_lack_stamp}
use Rattle.iss_event.specs.PlainLines.{SaysAfter, kind_text, line_with, stamp_members, stamp_known, purchase_members, purchase_text, purchase_known, load_members, load_text, load_known, kind_of_operation, last_members, last_text, operation_members, operation_text, operation_as, operation_known, IsOutcomeText, answer_members, call_known, answer_known}
use Rattle.iss_event.specs.Readings.{Opened, as_fault, stamp_said, opened_object, opened_if_found, opened_line, said_line, line_read}

-- the members of a line of this type
abbrev typed : List ℕ → Members → Members
typed text ms = member (name_text name.Kind) (string text) ms

-- the data of a line of this type
abbrev line_data : List ℕ → Members → Data
line_data text ms = data_of (object (typed text ms))

text_found : (n : Name) (text s : List ℕ) (ms : Members) → AreReadable (typed text ms) → find.get (name_text n) (object (typed text ms)) ≡ Some (string s) → field n (line_data text ms) ≡ Some (parsed.string s)
text_found n text s ms h is = found_field n (object (typed text ms)) (string s) (readable_object_fits (typed text ms) h) is refl ∙ ap Some (text_data s)

none_found : (n : Name) (text : List ℕ) (ms : Members) → AreReadable (typed text ms) → find.get (name_text n) (object (typed text ms)) ≡ None → field n (line_data text ms) ≡ None
none_found n text ms h is = absent_field n (object (typed text ms)) (readable_object_fits (typed text ms) h) is

rest_said : Result Opened FormFault → Result Line FormFault
rest_said r = r >>= λ opened. as_fault (said_line opened)

line_opened : (mode : Mode) (text : List ℕ) (k : Kind) (ms : Members) (line : List ℕ) → IsAscii line → nat_lt LONGEST_LINE (length line) ≡ false → AreReadable (typed text ms)
    → line ≡ member_text 123 (name_text name.Kind) (string text) (ended ms) → find.get (name_text name.Kind) (object (typed text ms)) ≡ Some (string text) → kind_of mode (parsed.string text) ≡ Some k
    → line_read mode line ≡ as_fault (said_line (record { kind = k; stamp = stamp_said mode k (line_data text ms); object = line_data text ms }))
unfolding line_read opened_line opened_object required_field
line_opened mode text k ms line ascii short h is first same =
    let d = line_data text ms in
    let found : object_of line ≡ Some d = object_read line (name_text name.Kind) (string text) ms ascii h is in
    let told : field name.Kind d ≡ Some (parsed.string text) = text_found name.Kind text text ms h first in
    rw (short, found, told, same)

-- ---- the stamp

-- the number of the stamp, if there is one
abbrev stamp_value : Option Whole → Option Json
stamp_value None = None
stamp_value (Some at) = Some (number at.digits.now)

stamp_readable : (at : Option Whole) → IfSome at IsWhole → AreReadable (stamp_members at)
stamp_readable None h = tt
stamp_readable (Some at) h = ((h.0, whole_number_fits at.digits.now at.value h.1), tt)

stamp_within : (at : Whole) → IsWhole at → whole_within 0 LAST_STAMP (data_of (number at.digits.now)) ≡ if_form (λ n. nat_le 0 n && nat_le n LAST_STAMP) at.value
unfolding whole_within
stamp_within at h = ap (option_and_then (if_form (λ n. nat_le 0 n && nat_le n LAST_STAMP))) (sym (number_data at.digits.now) ∙ h.1)

stamp_read : (mode : Mode) (k : Kind) (at : Option Whole) (text : List ℕ) (ms : Members) → IfSome at IsWhole → AreReadable (typed text ms) → may_lack_stamp k ≡ true
    → find.get (name_text name.At) (object (typed text ms)) ≡ stamp_value at → stamp_said mode k (line_data text ms) ≡ stamp_known mode at
unfolding required_field_unless
stamp_read Client k at text ms w h lacks is = refl
stamp_read Lines k None text ms w h lacks is = rw (none_found name.At text ms h is, lacks)
stamp_read Lines k (Some at) text ms w h lacks is =
    ap (found_unless (may_lack_stamp k) (whole_within 0 LAST_STAMP) name.At) (found_field name.At (object (typed text ms)) (number at.digits.now) (readable_object_fits (typed text ms) h) is refl)
    ∙ ap (λ o. ok_or (option_map Some o) name.At) (stamp_within at w)

-- ---- a purchase

purchase_gets : (text : List ℕ) (p : Purchase) (at : Option Whole) →
    let j = object (typed text (purchase_members p (stamp_members at))) in
    (find.get (name_text name.Kind) j ≡ Some (string text)) × (find.get (name_text name.At) j ≡ stamp_value at)
    × (find.get (name_text name.Token) j ≡ Some (string p.token.now)) × (find.get (name_text name.Card) j ≡ Some (string p.card.now)) × (find.get (name_text name.Currency) j ≡ Some (string p.currency.now))
    × (find.get (name_text name.Amount) j ≡ Some (string p.amount.now)) × (find.get (name_text name.Mcc) j ≡ Some (string p.mcc.now)) × (find.get (name_text name.Mid) j ≡ Some (string p.mid.now))
    × (find.get (name_text name.Partial) j ≡ None)
unfolding name_text
purchase_gets text p None = (refl, refl, refl, refl, refl, refl, refl, refl, refl)
purchase_gets text p (Some at) = (refl, refl, refl, refl, refl, refl, refl, refl, refl)

purchase_readable : (text : List ℕ) (p : Purchase) (at : Option Whole) → IfSome at IsWhole → AreReadable (typed text (purchase_members p (stamp_members at)))
purchase_readable text p at w = (tt, (tt, (tt, (tt, (tt, (tt, (tt, stamp_readable at w)))))))

purchase_said : (text : List ℕ) (p : Purchase) (at : Option Whole) → IfSome at IsWhole → authorization_input (line_data text (purchase_members p (stamp_members at))) ≡ purchase_known p
unfolding authorization_input purchase_known required_field optional_field_or
purchase_said text p at w =
    let ms = purchase_members p (stamp_members at) in
    let h = purchase_readable text p at w in
    let gets = purchase_gets text p at in
    rw (
      text_found name.Token text p.token.now ms h gets.2,
      text_found name.Card text p.card.now ms h gets.3,
      text_found name.Currency text p.currency.now ms h gets.4,
      text_found name.Amount text p.amount.now ms h gets.5,
      text_found name.Mcc text p.mcc.now ms h gets.6,
      text_found name.Mid text p.mid.now ms h gets.7,
      none_found name.Partial text ms h gets.8,
    )

kind_known : (mode : Mode) (k : Kind) → kind_in mode k ≡ Some k → kind_of mode (parsed.string (kind_text k)) ≡ Some k
unfolding kind_of kind_of_text
kind_known mode kind.User is = is
kind_known mode kind.Card is = is
kind_known mode kind.Move is = is
kind_known mode kind.Product is = is
kind_known mode kind.Group is = is
kind_known mode kind.Control is = is
kind_known mode kind.Set is = is
kind_known mode kind.Switch is = is
kind_known mode kind.Load is = is
kind_known mode kind.Authorization is = is
kind_known mode kind.Increment is = is
kind_known mode kind.Reversal is = is
kind_known mode kind.Clearing is = is
kind_known mode kind.Refund is = is
kind_known mode kind.Answer is = is
kind_known mode kind.Ack is = is
kind_known mode kind.Time is = is

authorization_in : (mode : Mode) → kind_in mode kind.Authorization ≡ Some kind.Authorization
authorization_in Lines = refl
authorization_in Client = refl

line_is : (mode : Mode) (k : Kind) (d : Data) (at : Option Whole) (said : Result Input Name) → stamp_said mode k d ≡ stamp_known mode at → input_of_kind k d ≡ said
    → said_line (record { kind = k; stamp = stamp_said mode k d; object = d }) ≡ line_with (stamp_known mode at) said
unfolding said_line
line_is mode k d at said stamp input = ap₂ line_with stamp input

-- a purchase is read so
pub purchase_read : (mode : Mode) (rest : List ℕ) (p : Purchase) (at : Option Whole) → IfSome at IsWhole → rest ≡ purchase_text p (ended (stamp_members at))
    → SaysAfter mode kind.Authorization rest (line_with (stamp_known mode at) (purchase_known p))
purchase_read mode rest p at w spelled line ascii short is =
    let text = kind_text kind.Authorization in
    let ms = purchase_members p (stamp_members at) in
    let h = purchase_readable text p at w in
    let gets = purchase_gets text p at in
    line_opened mode text kind.Authorization ms line ascii short h (is ∙ ap (member_text 123 (name_text name.Kind) (string text)) spelled) gets.0 (kind_known mode kind.Authorization (authorization_in mode))
    ∙ ap as_fault (line_is mode kind.Authorization (line_data text ms) at (purchase_known p) (stamp_read mode kind.Authorization at text ms w h refl gets.1) (purchase_said text p at w))

-- ---- a load

load_gets : (text : List ℕ) (l : Load) (at : Option Whole) →
    let j = object (typed text (load_members l (stamp_members at))) in
    (find.get (name_text name.Kind) j ≡ Some (string text)) × (find.get (name_text name.At) j ≡ stamp_value at)
    × (find.get (name_text name.Token) j ≡ Some (string l.token.now)) × (find.get (name_text name.User) j ≡ Some (string l.user.now)) × (find.get (name_text name.Currency) j ≡ Some (string l.currency.now))
    × (find.get (name_text name.Amount) j ≡ Some (string l.amount.now))
unfolding name_text
load_gets text l None = (refl, refl, refl, refl, refl, refl)
load_gets text l (Some at) = (refl, refl, refl, refl, refl, refl)

load_readable : (text : List ℕ) (l : Load) (at : Option Whole) → IfSome at IsWhole → AreReadable (typed text (load_members l (stamp_members at)))
load_readable text l at w = (tt, (tt, (tt, (tt, (tt, stamp_readable at w)))))

load_said : (text : List ℕ) (l : Load) (at : Option Whole) → IfSome at IsWhole → load_input (line_data text (load_members l (stamp_members at))) ≡ load_known l
unfolding load_input load_known required_field
load_said text l at w =
    let ms = load_members l (stamp_members at) in
    let h = load_readable text l at w in
    let gets = load_gets text l at in
    rw (
      text_found name.Token text l.token.now ms h gets.2,
      text_found name.User text l.user.now ms h gets.3,
      text_found name.Currency text l.currency.now ms h gets.4,
      text_found name.Amount text l.amount.now ms h gets.5,
    )

load_in : (mode : Mode) → kind_in mode kind.Load ≡ Some kind.Load
load_in Lines = refl
load_in Client = refl

-- a load is read so
pub load_read : (mode : Mode) (rest : List ℕ) (l : Load) (at : Option Whole) → IfSome at IsWhole → rest ≡ load_text l (ended (stamp_members at))
    → SaysAfter mode kind.Load rest (line_with (stamp_known mode at) (load_known l))
load_read mode rest l at w spelled line ascii short is =
    let text = kind_text kind.Load in
    let ms = load_members l (stamp_members at) in
    let h = load_readable text l at w in
    let gets = load_gets text l at in
    line_opened mode text kind.Load ms line ascii short h (is ∙ ap (member_text 123 (name_text name.Kind) (string text)) spelled) gets.0 (kind_known mode kind.Load (load_in mode))
    ∙ ap as_fault (line_is mode kind.Load (line_data text ms) at (load_known l) (stamp_read mode kind.Load at text ms w h refl gets.1) (load_said text l at w))

-- ---- an operation

abbrev last_value : Option Bool → Option Json
last_value None = None
last_value (Some last) = Some (boolean last)

operation_gets : (text : List ℕ) (o : OperationTexts) (last : Option Bool) (at : Option Whole) → o.last ≡ last →
    let j = object (typed text (operation_members o (stamp_members at))) in
    (find.get (name_text name.Kind) j ≡ Some (string text)) × (find.get (name_text name.At) j ≡ stamp_value at)
    × (find.get (name_text name.Token) j ≡ Some (string o.token.now)) × (find.get (name_text name.Txn) j ≡ Some (string o.txn.now)) × (find.get (name_text name.Currency) j ≡ Some (string o.currency.now))
    × (find.get (name_text name.Amount) j ≡ Some (string o.amount.now)) × (find.get (name_text name.Last) j ≡ last_value last)
unfolding name_text
operation_gets text o None None is = rw is (refl, refl, refl, refl, refl, refl, refl)
operation_gets text o None (Some at) is = rw is (refl, refl, refl, refl, refl, refl, refl)
operation_gets text o (Some last) None is = rw is (refl, refl, refl, refl, refl, refl, refl)
operation_gets text o (Some last) (Some at) is = rw is (refl, refl, refl, refl, refl, refl, refl)

last_readable : (last : Option Bool) (ms : Members) → AreReadable ms → AreReadable (last_members last ms)
last_readable None ms h = h
last_readable (Some last) ms h = (tt, h)

operation_readable : (text : List ℕ) (o : OperationTexts) (at : Option Whole) → IfSome at IsWhole → AreReadable (typed text (operation_members o (stamp_members at)))
operation_readable text o at w = (tt, (tt, (tt, (tt, (tt, last_readable o.last (stamp_members at) (stamp_readable at w))))))

-- whether it is the last: not, unless the line says so
last_known : (last : Option Bool) (text : List ℕ) (ms : Members) → AreReadable (typed text ms) → find.get (name_text name.Last) (object (typed text ms)) ≡ last_value last
    → optional_field_or as_bool false name.Last (line_data text ms) ≡ Ok (unwrap_or last false)
unfolding optional_field_or
last_known None text ms h is = rw (none_found name.Last text ms h is)
last_known (Some last) text ms h is = rw (found_field name.Last (object (typed text ms)) (boolean last) (readable_object_fits (typed text ms) h) is refl ∙ ap Some (flag_data last))

operation_parts : (text : List ℕ) (o : OperationTexts) (at : Option Whole) → IfSome at IsWhole →
    operation_said (line_data text (operation_members o (stamp_members at)))
    ≡ (token_known name.Token o.token.now >>= λ token. token_known name.Txn o.txn.now >>= λ txn. currency_known o.currency.now >>= λ currency.
    amount_known currency o.amount.now >>= λ amount. Ok (record { token = token; txn = txn; currency = currency; amount = amount }))
unfolding operation_said required_field
operation_parts text o at w =
    let ms = operation_members o (stamp_members at) in
    let h = operation_readable text o at w in
    let gets = operation_gets text o o.last at refl in
    rw (
      text_found name.Token text o.token.now ms h gets.2,
      text_found name.Txn text o.txn.now ms h gets.3,
      text_found name.Currency text o.currency.now ms h gets.4,
      text_found name.Amount text o.amount.now ms h gets.5,
    )

-- two steps one after the other are one
joined : {A B C : Type 0} (r : Result A Name) (f : A → Result B Name) (g : B → Result C Name) → ((r >>= f) >>= g) ≡ (r >>= λ x. f x >>= g)
joined (Ok x) f g = refl
joined (Err fault) f g = refl

same_after : {A B : Type 0} (r : Result A Name) (f g : A → Result B Name) → ((x : A) → f x ≡ g x) → (r >>= f) ≡ (r >>= g)
same_after (Ok x) f g same = same x
same_after (Err fault) f g same = refl

-- what is made of the parts of an operation
parts_then : (o : OperationTexts) (make : Operation → Result Input Name) (whole : List ℕ → List ℕ → Currency → ℕ → Result Input Name)
    → ((token txn : List ℕ) (currency : Currency) (amount : ℕ) → make (record { token = token; txn = txn; currency = currency; amount = amount }) ≡ whole token txn currency amount)
    → ((token_known name.Token o.token.now >>= λ token. token_known name.Txn o.txn.now >>= λ txn. currency_known o.currency.now >>= λ currency.
    amount_known currency o.amount.now >>= λ amount. Ok (record { token = token; txn = txn; currency = currency; amount = amount })) >>= make)
    ≡ (token_known name.Token o.token.now >>= λ token. token_known name.Txn o.txn.now >>= λ txn. currency_known o.currency.now >>= λ currency.
    amount_known currency o.amount.now >>= λ amount. whole token txn currency amount)
parts_then o make whole same =
    joined (token_known name.Token o.token.now) _ make
    ∙ same_after (token_known name.Token o.token.now) _ _ (λ token. joined (token_known name.Txn o.txn.now) _ make
    ∙ same_after (token_known name.Txn o.txn.now) _ _ (λ txn. joined (currency_known o.currency.now) _ make
    ∙ same_after (currency_known o.currency.now) _ _ (λ currency. joined (amount_known currency o.amount.now) _ make
    ∙ same_after (amount_known currency o.amount.now) _ _ (λ amount. same token txn currency amount))))

operation_is : (k : OperationKind) (text : List ℕ) (o : OperationTexts) (at : Option Whole) → IfSome at IsWhole → input_of_kind (kind_of_operation k) (line_data text (operation_members o (stamp_members at))) ≡ operation_known k o
unfolding increment_input reversal_input clearing_input refund_input operation_known
operation_is operation.Increment text o at w = ap (λ r. r >>= λ i. Ok (input.Increment i.token i.txn i.currency i.amount)) (operation_parts text o at w) ∙ parts_then o _ _ (λ token txn currency amount. refl)
operation_is operation.Reversal text o at w = ap (λ r. r >>= λ i. Ok (input.Reversal i.token i.txn i.currency i.amount)) (operation_parts text o at w) ∙ parts_then o _ _ (λ token txn currency amount. refl)
operation_is operation.Clearing text o at w =
    let ms = operation_members o (stamp_members at) in
    let last = last_known o.last text ms (operation_readable text o at w) (operation_gets text o o.last at refl).6 in
    ap₂ (λ r l. r >>= λ i. l >>= λ last. Ok (input.Clearing i.token i.txn i.currency i.amount last)) (operation_parts text o at w) last ∙ parts_then o _ _ (λ token txn currency amount. refl)
operation_is operation.Refund text o at w = ap (λ r. r >>= λ i. Ok (input.Refund i.token i.txn i.currency i.amount)) (operation_parts text o at w) ∙ parts_then o _ _ (λ token txn currency amount. refl)

operation_in : (mode : Mode) (k : OperationKind) → kind_in mode (kind_of_operation k) ≡ Some (kind_of_operation k)
operation_in Lines operation.Increment = refl
operation_in Lines operation.Reversal = refl
operation_in Lines operation.Clearing = refl
operation_in Lines operation.Refund = refl
operation_in Client operation.Increment = refl
operation_in Client operation.Reversal = refl
operation_in Client operation.Clearing = refl
operation_in Client operation.Refund = refl

operation_lacks : (k : OperationKind) → may_lack_stamp (kind_of_operation k) ≡ true
operation_lacks operation.Increment = refl
operation_lacks operation.Reversal = refl
operation_lacks operation.Clearing = refl
operation_lacks operation.Refund = refl

last_spelled : (last : Option Bool) (ms : Members) → last_text last (ended ms) ≡ ended (last_members last ms)
last_spelled None ms = refl
last_spelled (Some last) ms = refl

operation_spelled : (o : OperationTexts) (ms : Members) → operation_text o (ended ms) ≡ ended (operation_members o ms)
operation_spelled o ms = ap (λ r. member_text 44 (name_text name.Token) (string o.token.now) (member_text 44 (name_text name.Txn) (string o.txn.now)
    (member_text 44 (name_text name.Currency) (string o.currency.now) (member_text 44 (name_text name.Amount) (string o.amount.now) r)))) (last_spelled o.last ms)

-- an operation is read so
pub operation_read : (mode : Mode) (k : OperationKind) (rest : List ℕ) (o : OperationTexts) (at : Option Whole) → IfSome at IsWhole → rest ≡ operation_text o (ended (stamp_members at))
    → SaysAfter mode (kind_of_operation k) rest (line_with (stamp_known mode at) (operation_known k o))
operation_read mode k rest o at w spelled line ascii short is =
    let text = kind_text (kind_of_operation k) in
    let ms = operation_members o (stamp_members at) in
    let h = operation_readable text o at w in
    let gets = operation_gets text o o.last at refl in
    line_opened mode text (kind_of_operation k) ms line ascii short h (is ∙ ap (member_text 123 (name_text name.Kind) (string text)) (spelled ∙ operation_spelled o (stamp_members at))) gets.0
    (kind_known mode (kind_of_operation k) (operation_in mode k))
    ∙ ap as_fault (line_is mode (kind_of_operation k) (line_data text ms) at (operation_known k o) (stamp_read mode (kind_of_operation k) at text ms w h (operation_lacks k) gets.1) (operation_is k text o at w))

-- ---- an answer

answer_gets : (text : List ℕ) (call : Whole) (said : List ℕ) (at : Option Whole) →
    let j = object (typed text (answer_members call said (stamp_members at))) in
    (find.get (name_text name.Kind) j ≡ Some (string text)) × (find.get (name_text name.At) j ≡ stamp_value at)
    × (find.get (name_text name.Call) j ≡ Some (number call.digits.now)) × (find.get (name_text name.Outcome) j ≡ Some (string said))
unfolding name_text
answer_gets text call said None = (refl, refl, refl, refl)
answer_gets text call said (Some at) = (refl, refl, refl, refl)

answer_readable : (text : List ℕ) (call : Whole) (said : List ℕ) (at : Option Whole) → IsWhole call → IfSome at IsWhole → AreReadable (typed text (answer_members call said (stamp_members at)))
answer_readable text call said at c w = (tt, ((c.0, whole_number_fits call.digits.now call.value c.1), (tt, stamp_readable at w)))

call_within : (call : Whole) → IsWhole call → ok_or (whole_within FIRST_NUMBER GREATEST_NUMBER (data_of (number call.digits.now))) name.Call ≡ call_known call.value
unfolding whole_within
call_within call h = ap (λ o. ok_or (option_and_then (if_form (λ n. nat_le FIRST_NUMBER n && nat_le n GREATEST_NUMBER)) o) name.Call) (sym (number_data call.digits.now) ∙ h.1)

outcome_told : (outcome : Outcome) (said : List ℕ) (d : Data) → IsOutcomeText outcome said → (ok_or (outcome_of (parsed.string said)) name.Outcome >>= λ word. outcome_said word d) ≡ Ok outcome
unfolding outcome_of outcome_of_text
outcome_told outcome.Funded said d is = subst (λ s. (ok_or (outcome_of (parsed.string s)) name.Outcome >>= λ word. outcome_said word d) ≡ Ok outcome.Funded) is refl
outcome_told outcome.Refused said d is = subst (λ s. (ok_or (outcome_of (parsed.string s)) name.Outcome >>= λ word. outcome_said word d) ≡ Ok outcome.Refused) is refl
outcome_told outcome.Connection said d is = subst (λ s. (ok_or (outcome_of (parsed.string s)) name.Outcome >>= λ word. outcome_said word d) ≡ Ok outcome.Connection) is refl
outcome_told outcome.Application said d is = absurd is
outcome_told (outcome.Partial currency amount) said d is = absurd is

answered : (call : ℕ) (r : Result Outcome Name) → Result Input Name
answered call r = r >>= λ outcome. Ok (input.Answer (record { 0 = call }) outcome)

answer_is : (text : List ℕ) (call : Whole) (outcome : Outcome) (said : List ℕ) (at : Option Whole) → IsWhole call → IfSome at IsWhole → IsOutcomeText outcome said
    → answer_input (line_data text (answer_members call said (stamp_members at))) ≡ answer_known call.value outcome
unfolding answer_input required_field answered
answer_is text call outcome said at c w told =
    let ms = answer_members call said (stamp_members at) in
    let d = line_data text ms in
    let h = answer_readable text call said at c w in
    let gets = answer_gets text call said at in
    let called : field name.Call d ≡ Some (data_of (number call.digits.now)) = found_field name.Call (object (typed text ms)) (number call.digits.now) (readable_object_fits (typed text ms) h) gets.2 refl in
    let worded : field name.Outcome d ≡ Some (parsed.string said) = text_found name.Outcome text said ms h gets.3 in
    ap₂ (λ a b. ok_or (option_and_then (whole_within FIRST_NUMBER GREATEST_NUMBER) a) name.Call >>= λ n. ok_or (option_and_then outcome_of b) name.Outcome >>= λ word. outcome_said word d >>= λ outcome. Ok (input.Answer (record { 0 = n }) outcome)) called worded
    ∙ ap (λ r. r >>= λ n. ok_or (outcome_of (parsed.string said)) name.Outcome >>= λ word. outcome_said word d >>= λ outcome. Ok (input.Answer (record { 0 = n }) outcome)) (call_within call c)
    ∙ same_after (call_known call.value) _ _ (λ n. sym (joined (ok_or (outcome_of (parsed.string said)) name.Outcome) (λ word. outcome_said word d) (λ outcome. Ok (input.Answer (record { 0 = n }) outcome)))
    ∙ ap (answered n) (outcome_told outcome said d told))

-- an answer is read so
pub answer_read : (rest : List ℕ) (call : Whole) (outcome : Outcome) (said : List ℕ) (at : Option Whole) → IsWhole call → IfSome at IsWhole → IsOutcomeText outcome said
    → rest ≡ ended (answer_members call said (stamp_members at)) → SaysAfter Lines kind.Answer rest (line_with (stamp_known Lines at) (answer_known call.value outcome))
answer_read rest call outcome said at c w told spelled line ascii short is =
    let text = kind_text kind.Answer in
    let ms = answer_members call said (stamp_members at) in
    let h = answer_readable text call said at c w in
    let gets = answer_gets text call said at in
    line_opened Lines text kind.Answer ms line ascii short h (is ∙ ap (member_text 123 (name_text name.Kind) (string text)) spelled) gets.0 (kind_known Lines kind.Answer refl)
    ∙ ap as_fault (line_is Lines kind.Answer (line_data text ms) at (answer_known call.value outcome) (stamp_read Lines kind.Answer at text ms w h refl gets.1) (answer_is text call outcome said at c w told))

-- ---- a whole line

-- what the rest of a line of that kind says is what the line says
pub line_told : (mode : Mode) (k : Kind) (text line rest : List ℕ) (r : Option (Result Line Name)) → IsAscii line → nat_lt LONGEST_LINE (length line) ≡ false → kind_text k ≡ text
    → line ≡ member_text 123 (name_text name.Kind) (string text) rest → IfSome r (λ said. SaysAfter mode k rest said) → IfSome r (λ said. line_read mode line ≡ as_fault said)
line_told mode k text line rest None ascii short same is says = tt
line_told mode k text line rest (Some said) ascii short same is says = says line ascii short (is ∙ ap (λ t. member_text 123 (name_text name.Kind) (string t) rest) (sym same))
