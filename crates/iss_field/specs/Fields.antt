-- The fields of a line: required or not, each in its form.
use Rattle.std.specs.Prelude.{Bool, Option, Some, None, is_some, option_and_then, option_map, Result, Ok, Err, if◌then◌else◌}
use Rattle.std.specs.Option.{ok_or}
use Rattle.serde_json.specs.Data.{Data}
use Rattle.serde_json.specs.Find.{get, as_null}
use Rattle.iss_field.specs.declared.name.Name.{Name}
use Rattle.iss_field.specs.Names.{name_text}

-- the value, if it isn't null
abbrev pub unless_null : Data → Option Data
unless_null d = if is_some (as_null d) then None else Some d

-- the member of that name, of two the last; null counts as absent
unfoldable pub field : Name → Data → Option Data
field name d = option_and_then unless_null (get (name_text name) d)

-- the form, if the field may be there at all
abbrev pub form_if : {A : Type 0} → Bool → (Data → Option A) → Data → Option A
form_if allowed form d = if allowed then form d else None

-- the field in that form; it is bad if it is absent or not of the form, and then its name is returned
unfoldable pub required_field : {A : Type 0} → (Data → Option A) → Name → Data → Result A Name
required_field form name d = ok_or (option_and_then form (field name d)) name

-- what was found in that form; nothing may have been found if the field is excused
abbrev pub found_unless : {A : Type 0} → Bool → (Data → Option A) → Name → Option Data → Result (Option A) Name
found_unless excused form name None = if excused then Ok None else Err name
found_unless excused form name (Some found) = ok_or (option_map Some (form found)) name

-- the field in that form, which may be absent if it is excused
unfoldable pub required_field_unless : {A : Type 0} → Bool → (Data → Option A) → Name → Data → Result (Option A) Name
required_field_unless excused form name d = found_unless excused form name (field name d)

-- what was found in that form, or a value if nothing was
abbrev pub field_or : {A : Type 0} → (Data → Option A) → A → Name → Option Data → Result A Name
field_or form absent name None = Ok absent
field_or form absent name (Some found) = ok_or (form found) name

-- the field in that form, or a value if it is absent; it is bad if it isn't of the form
unfoldable pub optional_field_or : {A : Type 0} → (Data → Option A) → A → Name → Data → Result A Name
optional_field_or form absent name d = field_or form absent name (field name d)

-- the field in that form, if it is there; it is bad if it isn't of the form
unfoldable pub optional_field : {A : Type 0} → (Data → Option A) → Name → Data → Result (Option A) Name
optional_field form name d = field_or (λ found. option_map Some (form found)) None name (field name d)

-- the ? of the logic: the second step, if the first gave a value
infixl 10 ◌>>=◌
abbrev pub ◌>>=◌ : {A B F : Type 0} → Result A F → (A → Result B F) → Result B F
Ok x >>= f = f x
Err fault >>= f = Err fault
