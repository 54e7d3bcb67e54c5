-- What a maker of entries adds, after those that are made already.
use Rattle.std.specs.Prelude.{◌≡◌, ℕ, [], ◌∷◌, ◌++◌, List, None, Vec}
use Rattle.std.specs.Global.{Global}
use Rattle.iss_model.specs.declared.call.Method.{Method}
use Rattle.iss_model.specs.declared.txn.Txn.{Txn}
use Rattle.iss_model.specs.declared.entry.Entry.{Entry}
use Rattle.iss_model.specs.rules.Acts.{Act, entries_of_acts}
use Rattle.iss_model.specs.rules.Pieces.{notice_entry, only_where}

-- these entries were added, after those before
abbrev pub Adds : Vec Entry Global → Vec Entry Global → List Entry → Type 0
Adds before after made = after.items ≡ before.items ++ made

-- the entries of these acts were added, after those before
abbrev pub AddsActs : Vec Entry Global → Vec Entry Global → List Act → Type 0
AddsActs before after acts = after.items ≡ before.items ++ entries_of_acts acts

-- a notice of this number that is of no call
abbrev pub plain_notice : ℕ → Method → Txn → ℕ → ℕ → List Entry
plain_notice number method t amount gateway = notice_entry number method t None amount gateway ∷ []

-- such a notice, if the amount isn't 0
abbrev pub notice_of_some : ℕ → Method → Txn → ℕ → ℕ → List Entry
notice_of_some number method t amount gateway = only_where amount (plain_notice number method t amount gateway)
