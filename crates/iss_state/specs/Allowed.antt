-- What an entry needs of the docket that it is put on.
use Rattle.std.specs.Prelude.{◌≡◌, ℕ, ◌+◌, Bool, true, false, ◌&&◌, List, length, None}
use Rattle.iss_model.specs.declared.call.CallId.{CallId}
use Rattle.iss_model.specs.declared.call.Opened.{Opened}
use Rattle.iss_model.specs.declared.entry.Entry.{Entry}
use Rattle.iss_model.specs.declared.entry.Entry.TheVariants as entry
use Rattle.iss_model.specs.rules.Activity.{CallNow, txn_named}
use Rattle.iss_model.specs.rules.Asks.{is_authorization}
use Rattle.iss_state.specs.Dockets.{Docket, docket_after}
use Rattle.iss_state.specs.Well.{has_live, is_decided, IsAsked, NoneAskedOf, NonePendingOf, NoneAskedFor, NoneOpenedFor, Known, IsWellAmong}

-- A call that is opened has the next number, and a live transaction with no authorisation's call asked. Its event is
-- neither decided nor has a call. That of an authorisation is the only asked call of its transaction.
pub record MayOpen (d : Docket) (o : Opened) : Type 0 where
  pub number : o.call.0 ≡ length d.calls + 1
  pub its_live : has_live d.txns o.txn ≡ true
  pub none_pending : NonePendingOf d.calls o.txn
  pub undecided : is_decided d.decisions o.event ≡ false
  pub none_opened : NoneOpenedFor d.calls o.event
  pub alone : is_authorization o.method ≡ true → NoneAskedOf d.calls o.txn

-- a call that is closed is asked
pub record MayClose (d : Docket) (call : CallId) : Type 0 where
  pub its : CallNow
  pub asked : IsAsked d.calls call.0 its

-- an event that is decided wasn't decided before, and no call is asked for it
pub record MayDecide (d : Docket) (event : List ℕ) : Type 0 where
  pub undecided : is_decided d.decisions event ≡ false
  pub none_asked : NoneAskedFor d.calls event

-- a transaction that ends is live, and none of its calls is asked
pub record MayEnd (d : Docket) (token : List ℕ) : Type 0 where
  pub its_live : has_live d.txns token ≡ true
  pub none_asked : NoneAskedOf d.calls token

-- an entry may come next; a transaction that begins has a token of its own
abbrev pub IsAllowed : Docket → Entry → Type 0
IsAllowed d (entry.Began t) = txn_named t.token d.txns ≡ None
IsAllowed d (entry.Opened o) = MayOpen d o
IsAllowed d (entry.Closed call how) = MayClose d call
IsAllowed d (entry.Decided event verdict) = MayDecide d event
IsAllowed d (entry.Ended txn) = MayEnd d txn
IsAllowed d _ = Unit {0}

-- an entry is of a known event, and begins a transaction of a product that stands
abbrev pub is_of_known : Known → Entry → Bool
is_of_known known (entry.Began t) = known.events t.token && known.products t.product
is_of_known known (entry.Opened o) = known.events o.event
is_of_known known (entry.Decided event verdict) = known.events event
is_of_known known _ = true

-- an entry keeps a docket well among what is known
abbrev pub KeepsWell : Known → Docket → Entry → Type 0
KeepsWell known d e = IsWellAmong known d → IsWellAmong known (docket_after d e)
