-- What a client's line spells is an event: no client tells what time it is, what a gateway answered, or that a notice is acknowledged.
use Rattle.std.proofs.Common.{◌≡◌, refl, ℕ, Bool, true, false, cond, nat_lt, List, length, Option, Some, None, Result, Ok, Err, IfOk, IfSome}
use Rattle.std.specs.Prelude.{is_some, option_and_then}
use Rattle.std.proofs.lemmas.Bool.{false≢true}
use Rattle.serde_json.specs.Data.{Data}
use Rattle.serde_json.specs.Find.{as_str}
use Rattle.iss_model.specs.declared.limits.TheConstants.{LONGEST_LINE}
use Rattle.iss_model.specs.declared.input.Input.{Input}
use Rattle.iss_model.specs.Inputs.{event_token}
use Rattle.iss_field.specs.declared.name.Name.{Name}
use Rattle.iss_field.specs.declared.name.Name.TheVariants as name
use Rattle.iss_field.specs.Fields.{◌>>=◌, required_field}
use Rattle.iss_field.specs.Objects.{object_of}
use Rattle.iss_field.proofs.FieldsInForm.{required-is}
use Rattle.iss_event.specs.declared.kind.Kind.{Kind}
use Rattle.iss_event.specs.declared.kind.Kind.TheVariants as kind
use Rattle.iss_event.specs.declared.line.Mode.TheVariants.{Client}
use Rattle.iss_event.specs.declared.line.Line.{Line}
use Rattle.iss_event.specs.declared.line.FormFault.{FormFault}
use Rattle.iss_event.specs.declared.line.FormFault.TheVariants.{Long}
use Rattle.iss_event.specs.Kinds.{kind_of_text, kind_in, kind_of}
use Rattle.iss_event.specs.Inputs.{input_of_kind}
use Rattle.iss_event.specs.Readings.{as_fault, stamp_said, opened_object, opened_if_found, opened_line, said_line, line_read}
use Rattle.iss_event.proofs.Given.{user-gives, card-gives, move-gives, product-gives, group-gives, control-gives, set-gives, switch-gives}
use Rattle.iss_event.proofs.GivenMoney.{load-gives, authorization-gives, increment-gives, reversal-gives, clearing-gives, refund-gives}
use Rattle.iss_event.proofs.LinesInForm.{said-is}

abbrev IsEvent : Input → Type 0
IsEvent i = is_some (event_token i) ≡ true

-- a type that a client's line may have
abbrev is_client_kind : Kind → Bool
is_client_kind kind.Answer = false
is_client_kind kind.Ack = false
is_client_kind kind.Time = false
is_client_kind _ = true

abbrev IsClientKind : Kind → Type 0
IsClientKind k = is_client_kind k ≡ true

input_event : (k : Kind) (d : Data) → IsClientKind k → IfOk (input_of_kind k d) IsEvent
input_event kind.User d is = user-gives IsEvent d (λ token user. refl)
input_event kind.Card d is = card-gives IsEvent d (λ token card user product active. refl)
input_event kind.Move d is = move-gives IsEvent d (λ token who. refl)
input_event kind.Product d is = product-gives IsEvent d (λ token product currency funding timeout_ms hold_ms form. refl)
input_event kind.Group d is = group-gives IsEvent d (λ token group mccs form. refl)
input_event kind.Control d is =
    control-gives IsEvent d (λ token control currency window amount_limit usage_limit association scope offset active limits form by. refl)
input_event kind.Set d is = set-gives IsEvent d (λ token set product currency connection timeout application max day_limit active most day. refl)
input_event kind.Switch d is = switch-gives IsEvent d (λ token product on. refl)
input_event kind.Load d is = load-gives IsEvent d (λ token user currency amount form. refl)
input_event kind.Authorization d is = authorization-gives IsEvent d (λ token card currency amount mcc mid partial form code. refl)
input_event kind.Increment d is = increment-gives IsEvent d (λ o form. refl)
input_event kind.Reversal d is = reversal-gives IsEvent d (λ o form. refl)
input_event kind.Clearing d is = clearing-gives IsEvent d (λ o last form. refl)
input_event kind.Refund d is = refund-gives IsEvent d (λ o form. refl)
input_event kind.Answer d is = absurd (false≢true is)
input_event kind.Ack d is = absurd (false≢true is)
input_event kind.Time d is = absurd (false≢true is)

kind_allowed : (o : Option Kind) → IfSome (option_and_then (kind_in Client) o) IsClientKind
kind_allowed None = tt
kind_allowed (Some kind.Answer) = tt
kind_allowed (Some kind.Ack) = tt
kind_allowed (Some kind.Time) = tt
kind_allowed (Some kind.User) = refl
kind_allowed (Some kind.Card) = refl
kind_allowed (Some kind.Move) = refl
kind_allowed (Some kind.Product) = refl
kind_allowed (Some kind.Group) = refl
kind_allowed (Some kind.Control) = refl
kind_allowed (Some kind.Set) = refl
kind_allowed (Some kind.Switch) = refl
kind_allowed (Some kind.Load) = refl
kind_allowed (Some kind.Authorization) = refl
kind_allowed (Some kind.Increment) = refl
kind_allowed (Some kind.Reversal) = refl
kind_allowed (Some kind.Clearing) = refl
kind_allowed (Some kind.Refund) = refl

kind_meets : (d : Data) → IfSome (kind_of Client d) IsClientKind
unfolding kind_of
kind_meets d = kind_allowed (option_and_then kind_of_text (as_str d))

abbrev Anything : Option ℕ → Type 0
Anything at = Unit {0}

-- the line's input is an event
abbrev IsEventLine : Line → Type 0
IsEventLine line = IsEvent line.input × Anything line.at

kind_found : (d : Data) (k : Result Kind Name) → IfOk k IsClientKind
    → IfOk (as_fault (k >>= λ kind. Ok (record { kind = kind; stamp = stamp_said Client kind d; object = d })) >>= λ opened. as_fault (said_line opened)) IsEventLine
unfolding said_line
kind_found d (Ok k) is = said-is IsEvent Anything (stamp_said Client k d) (input_of_kind k d) tt (input_event k d is)
kind_found d (Err name) is = tt

object_found : (o : Option Data) → IfOk (opened_if_found Client o >>= λ opened. as_fault (said_line opened)) IsEventLine
unfolding opened_object
object_found None = tt
object_found (Some d) =
    kind_found d (required_field (kind_of Client) name.Kind d) (required-is (kind_of Client) name.Kind d IsClientKind kind_meets)

unless_long : (b : Bool) (o : Option Data) → IfOk (cond b (Err Long) (opened_if_found Client o) >>= λ opened. as_fault (said_line opened)) IsEventLine
unless_long true o = tt
unless_long false o = object_found o

line_event : (line : List ℕ) → IfOk (line_read Client line) IsEventLine
unfolding line_read opened_line
line_event line = unless_long (nat_lt LONGEST_LINE (length line)) (object_of line)

input_of : (r : Result Line FormFault) → IfOk r IsEventLine → IfOk r (λ line. IsEvent line.input)
input_of (Ok line) h = h.0
input_of (Err fault) h = tt

pub client_line_is_event : (line : List ℕ) → IfOk (line_read Client line) (λ said. is_some (event_token said.input) ≡ true)
client_line_is_event line = input_of (line_read Client line) (line_event line)
