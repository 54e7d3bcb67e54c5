-- What a line spells, from its object with its type and its stamp.
use Rattle.std.proofs.Common.{ℕ, List, Result, Ok, Err, sym, ap, subst}
use Rattle.iss_event.specs.declared.line.Mode.{Mode}
use Rattle.iss_event.specs.declared.line.Line.{Line}
use Rattle.iss_event.specs.declared.line.OpenLine.{OpenLine}
use Rattle.iss_event.specs.declared.line.FormFault.{FormFault}
use Rattle.iss_event.specs.declared.line.LineFault.{LineFault}
use Rattle.iss_event.specs.declared.line.LineFault.TheVariants.{Form, OutOfMemory}
use Rattle.iss_field.specs.Fields.{◌>>=◌}
use Rattle.iss_event.specs.Readings.{Opened, as_fault, said_line, opened_as, opened_line, line_read, Opens, IsReadAsLine}

-- what the rest of a line is read as, once it is opened
abbrev rest_of : Result Opened FormFault → Result Line FormFault
rest_of r = r >>= λ opened. as_fault (said_line opened)

-- a line that is opened is read as its object is
pub read_open : (mode : Mode) (line : List ℕ) (open_line : OpenLine) (r : Result Line LineFault) → Opens (opened_line mode line) (Ok open_line)
    → IsReadAsLine (as_fault (said_line (opened_as open_line))) r → IsReadAsLine (line_read mode line) r
unfolding line_read
read_open mode line open_line r opens is = subst (λ (o : Result Opened FormFault). IsReadAsLine (rest_of o) r) (sym opens) is

-- a line that isn't opened has that fault
pub not_opened : (mode : Mode) (line : List ℕ) (fault : LineFault) → Opens (opened_line mode line) (Err fault) → IsReadAsLine {A = Line} (line_read mode line) (Err fault)
unfolding line_read
not_opened mode line (Form fault) is = ap rest_of is
not_opened mode line OutOfMemory is = tt
