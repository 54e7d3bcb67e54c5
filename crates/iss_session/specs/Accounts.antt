-- Books in which every product is paid for from its users' own balances.
use Rattle.std.specs.Prelude.{◌≡◌, Bool, true, false, List, [], ◌∷◌}
use Rattle.std.specs.List.{list_all}
use Rattle.iss_model.specs.declared.entry.Entry.{Entry}
use Rattle.iss_model.specs.declared.entry.Entry.TheVariants as entry
use Rattle.iss_model.specs.declared.entry.Row.{Row}
use Rattle.iss_model.specs.rules.Settings.{products_of}
use Rattle.iss_model.specs.rules.CardReasons.{is_account_funded}
use Rattle.iss_session.specs.Desks.{Task, to_dial, to_send, to_reply}
use Rattle.iss_session.specs.Sessions.{Session}

-- no product of the book is funded by the gateway
abbrev pub has_no_gateway : List Row → Bool
has_no_gateway rows = list_all (λ product. is_account_funded product.funding) (products_of rows)

-- an entry that asks the gateway nothing, tells it nothing, and begins no transaction that it funds
abbrev pub is_account_entry : Entry → Bool
is_account_entry (entry.Began t) = is_account_funded t.funding
is_account_entry (entry.Opened o) = false
is_account_entry (entry.Notice n) = false
is_account_entry _ = true

-- each entry of the book is an account's entry
abbrev pub is_account_book : List Row → Bool
is_account_book rows = list_all (λ row. is_account_entry row.entry) rows

-- each of these texts is a response to a client
abbrev pub AreReplies : List Task → Type 0
AreReplies [] = Unit {0}
AreReplies (to_reply ch text ∷ tasks) = AreReplies tasks
AreReplies (to_dial subject text ∷ tasks) = ⊥
AreReplies (to_send ch subject text ∷ tasks) = ⊥

-- nothing is awaited from the gateway, and nothing is to go out to it
pub record IsLocal (s : Session) : Type 0 where
  pub links : s.links ≡ []
  pub tasks : AreReplies s.desk.tasks
