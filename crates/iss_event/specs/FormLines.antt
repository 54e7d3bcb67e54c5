-- The lines for faults of form.
use Rattle.std.specs.Prelude.{ℕ, List, [], ◌∷◌, codes}
use Rattle.iss_model.specs.texts.Wordings.{Member, with_text, fault_line, line_of}
use Rattle.iss_field.specs.declared.name.Name.{Name}
use Rattle.iss_event.specs.declared.line.FormFault.{FormFault}
use Rattle.iss_event.specs.declared.line.FormFault.TheVariants.{Long, Json, Field}
use Rattle.iss_field.specs.Names.{name_text}

-- the text of a line with this fault
abbrev pub fault_members : List ℕ → List Member
fault_members fault = with_text (codes "fault") fault ∷ with_text (codes "reply") (codes "form") ∷ []

-- the text of a bad field
abbrev pub field_members : Name → List Member
field_members name =
    with_text (codes "fault") (codes "FIELD") ∷ with_text (codes "field") (name_text name) ∷ with_text (codes "reply") (codes "form") ∷ []

-- the line for a line that has this fault
unfoldable pub form_text : FormFault → List ℕ
form_text Long = fault_line (codes "LONG")
form_text Json = fault_line (codes "JSON")
form_text (Field name) = line_of (field_members name)
