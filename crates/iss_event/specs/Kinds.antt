-- The types of line.
use Rattle.std.specs.Prelude.{ℕ, List, codes, Bool, true, false, Option, Some, None, option_and_then, if◌then◌else◌}
use Rattle.std.specs.Str.{bytes_eq}
use Rattle.serde_json.specs.Data.{Data}
use Rattle.serde_json.specs.Find.{as_str}
use Rattle.iss_event.specs.declared.kind.Kind.{Kind}
use Rattle.iss_event.specs.declared.kind.Kind.TheVariants as kind
use Rattle.iss_event.specs.declared.line.Mode.{Mode}
use Rattle.iss_event.specs.declared.line.Mode.TheVariants.{Client}

-- the kind that a text names
unfoldable pub kind_of_text : List ℕ → Option Kind
kind_of_text text =
    if bytes_eq text (codes "authorization") then Some kind.Authorization
    else if bytes_eq text (codes "answer") then Some kind.Answer
    else if bytes_eq text (codes "clearing") then Some kind.Clearing
    else if bytes_eq text (codes "increment") then Some kind.Increment
    else if bytes_eq text (codes "reversal") then Some kind.Reversal
    else if bytes_eq text (codes "load") then Some kind.Load
    else if bytes_eq text (codes "refund") then Some kind.Refund
    else if bytes_eq text (codes "ack") then Some kind.Ack
    else if bytes_eq text (codes "time") then Some kind.Time
    else if bytes_eq text (codes "user") then Some kind.User
    else if bytes_eq text (codes "card") then Some kind.Card
    else if bytes_eq text (codes "move") then Some kind.Move
    else if bytes_eq text (codes "product") then Some kind.Product
    else if bytes_eq text (codes "group") then Some kind.Group
    else if bytes_eq text (codes "control") then Some kind.Control
    else if bytes_eq text (codes "set") then Some kind.Set
    else if bytes_eq text (codes "switch") then Some kind.Switch
    else None

-- the kind, if a line of that mode may be of it: no client tells what a gateway answered or that time went by
abbrev pub kind_in : Mode → Kind → Option Kind
kind_in Client kind.Answer = None
kind_in Client kind.Ack = None
kind_in Client kind.Time = None
kind_in mode k = Some k

-- a time has a stamp, and nothing else; the other kinds may leave it out
abbrev pub may_lack_stamp : Kind → Bool
may_lack_stamp kind.Time = false
may_lack_stamp _ = true

-- a text that names a kind which lines of that mode may be of
unfoldable pub kind_of : Mode → Data → Option Kind
kind_of mode d = option_and_then (kind_in mode) (option_and_then kind_of_text (as_str d))
