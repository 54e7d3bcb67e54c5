-- A line that is read has at least four bytes: its object has a member.
use Rattle.std.proofs.Common.{◌≡◌, ℕ, ◌≤◌, Bool, true, false, nat_lt, List, length, Option, Some, None, is_some, option_and_then, Result, Ok, Err, IfOk, cond, refl, subst}
use Rattle.std.specs.Option.{ok_or}
use Rattle.serde_json.specs.Data.{Data}
use Rattle.serde_json.specs.Find.{get}
use Rattle.iss_model.specs.declared.limits.TheConstants.{LONGEST_LINE}
use Rattle.iss_field.specs.declared.name.Name.{Name}
use Rattle.iss_field.specs.declared.name.Name.TheVariants as name
use Rattle.iss_field.specs.Names.{name_text}
use Rattle.iss_field.specs.Objects.{object_of}
use Rattle.iss_field.specs.Fields.{◌>>=◌, unless_null, field, required_field}
use Rattle.iss_field.proofs.LeastObject.{has_member, object_with_member}
use Rattle.iss_event.specs.declared.kind.Kind.{Kind}
use Rattle.iss_event.specs.declared.line.Mode.{Mode}
use Rattle.iss_event.specs.declared.line.Line.{Line}
use Rattle.iss_event.specs.declared.line.FormFault.{FormFault}
use Rattle.iss_event.specs.declared.line.FormFault.TheVariants.{Long}
use Rattle.iss_event.specs.declared.line.LineFault.{LineFault}
use Rattle.iss_event.specs.Kinds.{kind_of}
use Rattle.iss_event.specs.Readings.{Opened, as_fault, stamp_said, opened_object, opened_if_found, opened_line, said_line, line_read, IsReadAsLine}

-- what holds anyway holds of each result
always : {A F : Type 0} (r : Result A F) (P : Type 0) → P → IfOk r (λ found. P)
always (Ok x) P h = h
always (Err fault) P h = tt

-- what holds if the first step returns something holds if both do
then_always : {A B F : Type 0} (r : Result A F) (f : A → Result B F) (P : Type 0) → IfOk r (λ found. P) → IfOk (r >>= f) (λ found. P)
then_always (Ok x) f P h = always (f x) P h
then_always (Err fault) f P h = tt

-- what holds if something is found holds if a bad field is called a fault
fault_always : {A : Type 0} (r : Result A Name) (P : Type 0) → IfOk r (λ found. P) → IfOk (as_fault r) (λ found. P)
fault_always (Ok x) P h = h
fault_always (Err name) P h = tt

-- what holds if the field is there holds if it is found in form
where_found : (o : Option Data) (form : Data → Option Kind) (fault : Name) (P : Type 0) → (is_some o ≡ true → P)
    → IfOk (ok_or (option_and_then form (option_and_then unless_null o)) fault) (λ kind. P)
where_found None form fault P h = tt
where_found (Some d) form fault P h = always (ok_or (option_and_then form (unless_null d)) fault) P (h refl)

-- what holds if the object has a member `type` holds if it is opened
opened-member : (mode : Mode) (o : Option Data) (P : Type 0) → (has_member (name_text name.Kind) o ≡ true → P) → IfOk (opened_if_found mode o) (λ opened. P)
unfolding opened_object required_field field
opened-member mode None P h = tt
opened-member mode (Some d) P h =
    fault_always (opened_object mode d) P
    (then_always (required_field (kind_of mode) name.Kind d) (λ kind. Ok (record { kind = kind; stamp = stamp_said mode kind d; object = d })) P
    (where_found (get (name_text name.Kind) d) (kind_of mode) name.Kind P h))

-- what holds of a line that is opened holds if long ones are refused
unless_long : (b : Bool) (r : Result Opened FormFault) (P : Type 0) → IfOk r (λ opened. P) → IfOk (cond b (Err Long) r) (λ opened. P)
unless_long true r P h = tt
unless_long false r P h = h

opened-least : (mode : Mode) (line : List ℕ) → IfOk (opened_line mode line) (λ opened. 4 ≤ length line)
unfolding opened_line
opened-least mode line =
    unless_long (nat_lt LONGEST_LINE (length line)) (opened_if_found mode (object_of line)) (4 ≤ length line)
    (opened-member mode (object_of line) (4 ≤ length line) (object_with_member (name_text name.Kind) line))

line_read-least : (mode : Mode) (line : List ℕ) → IfOk (line_read mode line) (λ said. 4 ≤ length line)
unfolding line_read
line_read-least mode line = then_always (opened_line mode line) (λ opened. as_fault (said_line opened)) (4 ≤ length line) (opened-least mode line)

-- a line that spells something has at least four bytes
pub least_line : (mode : Mode) (line : List ℕ) (said : Line) → line_read mode line ≡ Ok said → 4 ≤ length line
least_line mode line said is = subst (λ (r : Result Line FormFault). IfOk r (λ found. 4 ≤ length line)) is (line_read-least mode line)

-- a line that is read has at least four bytes
pub read_least : (mode : Mode) (line : List ℕ) (r : Result Line LineFault) → IsReadAsLine (line_read mode line) r → IfOk r (λ said. 4 ≤ length line)
read_least mode line (Ok said) is = least_line mode line said is
read_least mode line (Err fault) is = tt
