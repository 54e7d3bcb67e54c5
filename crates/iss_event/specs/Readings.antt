-- What a line spells.
use Rattle.std.specs.Prelude.{◌≡◌, ℕ, List, length, nat_lt, Option, Some, None, Result, Ok, Err, if◌then◌else◌}
use Rattle.serde_json.specs.Data.{Data}
use Rattle.iss_model.specs.declared.limits.TheConstants.{LAST_STAMP, LONGEST_LINE}
use Rattle.iss_field.specs.declared.name.Name.{Name}
use Rattle.iss_field.specs.declared.name.Name.TheVariants as name
use Rattle.iss_field.specs.Seen.{seen}
use Rattle.iss_field.specs.Objects.{object_of}
use Rattle.iss_field.specs.Fields.{◌>>=◌, required_field, required_field_unless}
use Rattle.iss_field.specs.Values.{whole_within}
use Rattle.iss_event.specs.declared.kind.Kind.{Kind}
use Rattle.iss_event.specs.declared.line.Mode.{Mode}
use Rattle.iss_event.specs.declared.line.Mode.TheVariants.{Lines, Client}
use Rattle.iss_event.specs.declared.line.Line.{Line}
use Rattle.iss_event.specs.declared.line.FormFault.{FormFault}
use Rattle.iss_event.specs.declared.line.FormFault.TheVariants.{Long, Json, Field}
use Rattle.iss_event.specs.declared.line.LineFault.{LineFault}
use Rattle.iss_event.specs.declared.line.LineFault.TheVariants.{Form, OutOfMemory}
use Rattle.iss_event.specs.declared.line.OpenLine.{OpenLine}
use Rattle.iss_event.specs.Kinds.{kind_of, may_lack_stamp}
use Rattle.iss_event.specs.Inputs.{input_of_kind}

-- a bad field is a fault of form
abbrev pub as_fault : {A : Type 0} → Result A Name → Result A FormFault
as_fault (Ok x) = Ok x
as_fault (Err name) = Err (Field name)

-- when it happened; a client's member `at` counts for nothing
abbrev pub stamp_said : Mode → Kind → Data → Result (Option ℕ) Name
stamp_said Lines kind d = required_field_unless (may_lack_stamp kind) (whole_within 0 LAST_STAMP) name.At d
stamp_said Client kind d = Ok None

-- an object of a good type, with its stamp or that this is bad
pub record Opened : Type 0 where
  pub kind : Kind
  pub stamp : Result (Option ℕ) Name
  pub object : Data

-- the object of a line, if its type is good
unfoldable pub opened_object : Mode → Data → Result Opened Name
opened_object mode d = do
  kind ← required_field (kind_of mode) name.Kind d
  Ok (record { kind = kind; stamp = stamp_said mode kind d; object = d })

-- the object, if there is one
abbrev pub opened_if_found : Mode → Option Data → Result Opened FormFault
opened_if_found mode None = Err Json
opened_if_found mode (Some d) = as_fault (opened_object mode d)

-- the object that a line is, if it isn't too long and its type is good
unfoldable pub opened_line : Mode → List ℕ → Result Opened FormFault
opened_line mode line = if nat_lt LONGEST_LINE (length line) then Err Long else opened_if_found mode (object_of line)

-- what the object spells after its type: its stamp, and then the fields of its kind
unfoldable pub said_line : Opened → Result Line Name
said_line opened = do
  at ← opened.stamp
  said ← input_of_kind opened.kind opened.object
  Ok (record { input = said; at = at })

-- What a line spells, or its first fault. It is too long, is no JSON object, has no such type or a bad stamp, or has a first bad field.
unfoldable pub line_read : Mode → List ℕ → Result Line FormFault
line_read mode line = do
  opened ← opened_line mode line
  as_fault (said_line opened)

-- reading gave this, unless an allocation failed, which may happen at any line
abbrev pub IsReadAsLine : {A : Type 0} → Result A FormFault → Result A LineFault → Type 0
IsReadAsLine said (Ok line) = said ≡ Ok line
IsReadAsLine said (Err (Form fault)) = said ≡ Err fault
IsReadAsLine said (Err OutOfMemory) = Unit {0}

-- an open line as these definitions see it
abbrev pub opened_as : OpenLine → Opened
opened_as o = record { kind = o.kind; stamp = o.stamp; object = seen o.object.value }

-- opening gave this, unless an allocation failed
abbrev pub Opens : Result Opened FormFault → Result OpenLine LineFault → Type 0
Opens opened (Ok line) = opened ≡ Ok (opened_as line)
Opens opened (Err (Form fault)) = opened ≡ Err fault
Opens opened (Err OutOfMemory) = Unit {0}
