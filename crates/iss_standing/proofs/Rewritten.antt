-- The puts of records are the same at each seat of a form with the same room: one journal has no second half.
use Rattle.std.proofs.Common.{◌≡◌, ℕ, ◌+◌, ◌&&◌, Bool, true, false, List, [], ◌∷◌, ◌++◌, drop, refl, ap, subst, ◌∙◌}
use Rattle.iss_edge.specs.Puts.{Put}
use Rattle.iss_journal.specs.declared.layout.TheConstants.{FIRST_GATE}
use Rattle.iss_journal.specs.Region.{append_bytes}
use Rattle.iss_journal.specs.Append.{append_puts}
use Rattle.iss_halves.specs.Forms.{Form, Seat}
use Rattle.iss_model.specs.declared.input.Record.{Record}
use Rattle.iss_model.specs.run.Rooms.{Room, needs_of}
use Rattle.iss_model.specs.texts.Spelling.{spelling}
use Rattle.iss_standing.specs.Rooms.{room_in}
use Rattle.iss_standing.specs.Writes.{record_puts, records_puts}

abbrev form_as : Bool → ℕ → ℕ → Form
form_as halved instance size = record { halved = halved; instance = instance; size = size }

puts_as : (halved : Bool) (instance size : ℕ) (x y : Seat) (rs later : List Record) → x.point ≡ y.point → (halved && x.second) ≡ (halved && y.second)
    → records_puts (form_as halved instance size) x rs later ≡ records_puts (form_as halved instance size) y rs later
puts_as true instance size x y rs later point second =
    let same : x ≡ y = λ i. record { second = second i; point = point i } in
    ap (λ (z : Seat). records_puts (form_as true instance size) z rs later) same
puts_as false instance size x y rs [] point second = refl
puts_as false instance size x y rs (r ∷ later) point second =
    let form = form_as false instance size in
    ap (λ (n : ℕ). append_puts (FIRST_GATE + needs_of (drop n rs)) (append_bytes (spelling r)) ++ records_puts form x (rs ++ r ∷ []) later) point
    ∙ ap (λ (l : List Put). record_puts form y rs r ++ l) (puts_as false instance size x y (rs ++ r ∷ []) later point second)

pub same_room_puts : (f g : Form) (x y : Seat) (rs later : List Record) → f ≡ g → room_in f x ≡ room_in g y → records_puts f x rs later ≡ records_puts g y rs later
same_room_puts f g x y rs later form room =
    let at : room_in g x ≡ room_in g y = subst (λ (h : Form). room_in h x ≡ room_in g y) form room in
    ap (λ (h : Form). records_puts h x rs later) form
    ∙ puts_as g.halved g.instance g.size x y rs later (ap (λ (k : Room). k.point) at) (ap (λ (k : Room). k.second) at)
