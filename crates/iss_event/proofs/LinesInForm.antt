-- What a line spells is in form.
use Rattle.std.proofs.Common.{◌≡◌, ℕ, ◌&&◌, Bool, true, false, nat_lt, List, length, Option, Some, None, Result, Ok, Err, IfOk, IfSome, cond, refl, subst, arith}
use Rattle.std.proofs.lemmas.Bool.Decides.{nat_tests}
use Rattle.serde_json.specs.Data.{Data}
use Rattle.iss_model.specs.declared.limits.TheConstants.{LAST_STAMP, LONGEST_LINE}
use Rattle.iss_model.specs.declared.input.Input.{Input}
use Rattle.iss_model.specs.Forms.{is_in_form, is_stamp, is_stamp_or_none}
use Rattle.iss_field.specs.declared.name.Name.{Name}
use Rattle.iss_field.specs.declared.name.Name.TheVariants as name
use Rattle.iss_field.specs.Fields.{◌>>=◌, required_field, required_field_unless}
use Rattle.iss_field.specs.Values.{whole_within}
use Rattle.iss_field.specs.Objects.{object_of}
use Rattle.iss_field.proofs.ValuesInForm.{IsWithin, whole_within-meets}
use Rattle.iss_field.proofs.FieldsInForm.{required_unless-is}
use Rattle.iss_event.specs.declared.kind.Kind.{Kind}
use Rattle.iss_event.specs.declared.kind.Kind.TheVariants as kind
use Rattle.iss_event.specs.declared.line.Mode.{Mode}
use Rattle.iss_event.specs.declared.line.Mode.TheVariants.{Lines, Client}
use Rattle.iss_event.specs.declared.line.Line.{Line}
use Rattle.iss_event.specs.declared.line.FormFault.{FormFault}
use Rattle.iss_event.specs.declared.line.FormFault.TheVariants.{Long}
use Rattle.iss_event.specs.declared.line.LineFault.{LineFault}
use Rattle.iss_event.specs.declared.line.LineFault.TheVariants.{Form, OutOfMemory}
use Rattle.iss_event.specs.Kinds.{kind_of, may_lack_stamp}
use Rattle.iss_event.specs.Inputs.{input_of_kind}
use Rattle.iss_event.specs.Readings.{as_fault, stamp_said, opened_object, opened_if_found, opened_line, said_line, line_read, IsReadAsLine}
use Rattle.iss_event.proofs.Given.{user-gives, card-gives, move-gives, product-gives, group-gives, control-gives, set-gives, switch-gives}
use Rattle.iss_event.proofs.GivenMoney.{load-gives, authorization-gives, increment-gives, reversal-gives, clearing-gives, refund-gives, answer-gives, ack-gives}

-- ---- inputs

abbrev InForm : Input → Type 0
InForm i = is_in_form i ≡ true

two : (a b : Bool) → a ≡ true → b ≡ true → (a && b) ≡ true
two a b h g = rw (h, g)

pub input-in_form : (k : Kind) (d : Data) → IfOk (input_of_kind k d) InForm
input-in_form kind.User d = user-gives InForm d (λ token user. refl)
input-in_form kind.Card d = card-gives InForm d (λ token card user product active. refl)
input-in_form kind.Move d = move-gives InForm d (λ token who. refl)
input-in_form kind.Product d = product-gives InForm d (λ token product currency funding timeout_ms hold_ms is. two _ _ is.timeout is.hold)
input-in_form kind.Group d = group-gives InForm d (λ token group mccs form. form)
input-in_form kind.Control d =
    control-gives InForm d (λ token control currency window amount_limit usage_limit association scope offset active limits form by. two _ _ (two _ _ limits form) by)
input-in_form kind.Set d = set-gives InForm d (λ token set product currency connection timeout application max day_limit active most day. two _ _ most day)
input-in_form kind.Switch d = switch-gives InForm d (λ token product on. refl)
input-in_form kind.Load d = load-gives InForm d (λ token user currency amount form. form)
input-in_form kind.Authorization d = authorization-gives InForm d (λ token card currency amount mcc mid partial form code. two _ _ form code)
input-in_form kind.Increment d = increment-gives InForm d (λ o form. form)
input-in_form kind.Reversal d = reversal-gives InForm d (λ o form. form)
input-in_form kind.Clearing d = clearing-gives InForm d (λ o last form. form)
input-in_form kind.Refund d = refund-gives InForm d (λ o form. form)
input-in_form kind.Answer d = answer-gives InForm d (λ call outcome form part. two _ _ form part)
input-in_form kind.Ack d = ack-gives InForm d (λ notice form. form)
input-in_form kind.Time d = refl

-- ---- lines

abbrev StampInForm : Option ℕ → Type 0
StampInForm at = is_stamp_or_none at ≡ true

-- the line's input and its stamp are in form
abbrev IsGoodLine : Line → Type 0
IsGoodLine line = InForm line.input × StampInForm line.at

-- what holds of the input and of the stamp holds of the line
pub said-is : (P : Input → Type 0) (Q : Option ℕ → Type 0) (a : Result (Option ℕ) Name) (i : Result Input Name) → IfOk a Q → IfOk i P
    → IfOk {T = Line} (as_fault (a >>= λ at. i >>= λ said. Ok (record { input = said; at = at }))) (λ line. P line.input × Q line.at)
said-is P Q (Ok at) (Ok said) h g = (g, h)
said-is P Q _ _ h g = tt

stamp_within : (at : ℕ) → IsWithin 0 LAST_STAMP at → is_stamp at ≡ true
stamp_within at h = grind (arith, nat_tests)

stamp_if : (at : Option ℕ) → IfSome at (IsWithin 0 LAST_STAMP) → StampInForm at
stamp_if None h = refl
stamp_if (Some at) h = stamp_within at h

stamp_found : (r : Result (Option ℕ) Name) → IfOk r (λ at. IfSome at (IsWithin 0 LAST_STAMP)) → IfOk r StampInForm
stamp_found (Ok at) h = stamp_if at h
stamp_found (Err name) h = tt

stamp-in_form : (mode : Mode) (k : Kind) (d : Data) → IfOk (stamp_said mode k d) StampInForm
stamp-in_form Lines k d =
    stamp_found (required_field_unless (may_lack_stamp k) (whole_within 0 LAST_STAMP) name.At d)
    (required_unless-is (may_lack_stamp k) (whole_within 0 LAST_STAMP) name.At d (IsWithin 0 LAST_STAMP) (whole_within-meets 0 LAST_STAMP))
stamp-in_form Client k d = refl

kind_found : (mode : Mode) (d : Data) (k : Result Kind Name)
    → IfOk (as_fault (k >>= λ kind. Ok (record { kind = kind; stamp = stamp_said mode kind d; object = d })) >>= λ opened. as_fault (said_line opened)) IsGoodLine
unfolding said_line
kind_found mode d (Ok k) = said-is InForm StampInForm (stamp_said mode k d) (input_of_kind k d) (stamp-in_form mode k d) (input-in_form k d)
kind_found mode d (Err name) = tt

object_found : (mode : Mode) (o : Option Data) → IfOk (opened_if_found mode o >>= λ opened. as_fault (said_line opened)) IsGoodLine
unfolding opened_object
object_found mode None = tt
object_found mode (Some d) = kind_found mode d (required_field (kind_of mode) name.Kind d)

unless_long : (b : Bool) (mode : Mode) (o : Option Data) → IfOk (cond b (Err Long) (opened_if_found mode o) >>= λ opened. as_fault (said_line opened)) IsGoodLine
unless_long true mode o = tt
unless_long false mode o = object_found mode o

line_read-good : (mode : Mode) (line : List ℕ) → IfOk (line_read mode line) IsGoodLine
unfolding line_read opened_line
line_read-good mode line = unless_long (nat_lt LONGEST_LINE (length line)) mode (object_of line)

-- what holds of what is said holds of what is read
pub read_as : (P : Line → Type 0) (said : Result Line FormFault) (r : Result Line LineFault) → IsReadAsLine said r → IfOk said P → IfOk r P
read_as P said (Ok line) is h = subst (λ (s : Result Line FormFault). IfOk s P) is h
read_as P said (Err (Form fault)) is h = tt
read_as P said (Err OutOfMemory) is h = tt

-- ---- each part of it

input_form : (r : Result Line LineFault) → IfOk r IsGoodLine → IfOk r (λ line. is_in_form line.input ≡ true)
input_form (Ok line) h = h.0
input_form (Err fault) h = tt

stamp_form : (r : Result Line LineFault) → IfOk r IsGoodLine → IfOk r (λ line. is_stamp_or_none line.at ≡ true)
stamp_form (Ok line) h = h.1
stamp_form (Err fault) h = tt

pub read_input_in_form : (mode : Mode) (line : List ℕ) (r : Result Line LineFault) → IsReadAsLine (line_read mode line) r → IfOk r (λ said. is_in_form said.input ≡ true)
read_input_in_form mode line r is = input_form r (read_as IsGoodLine (line_read mode line) r is (line_read-good mode line))

pub read_stamp_in_form : (mode : Mode) (line : List ℕ) (r : Result Line LineFault) → IsReadAsLine (line_read mode line) r → IfOk r (λ said. is_stamp_or_none said.at ≡ true)
read_stamp_in_form mode line r is = stamp_form r (read_as IsGoodLine (line_read mode line) r is (line_read-good mode line))
