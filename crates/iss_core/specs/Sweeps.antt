-- How what is due is settled, one thing after the other.
use Rattle.std.specs.Prelude.{◌≡◌, ℕ, nat_le, false, List, [], ◌∷◌, map, fold, Option, Some, None, if◌then◌else◌, Vec}
use Rattle.std.specs.Global.{Global}
use Rattle.std.specs.List.{AllByRecursion}
use Rattle.iss_model.specs.declared.call.CallId.{CallId}
use Rattle.iss_model.specs.declared.input.Record.{Record}
use Rattle.iss_model.specs.declared.entry.Entry.{Entry}
use Rattle.iss_model.specs.rules.Activity.{TxnNow, CallNow, txn_named, call_numbered}
use Rattle.iss_model.specs.rules.Due.{DueItem, DueThing, call_due, txn_due, is_before, items_with, thing_entries}
use Rattle.iss_model.specs.rules.Facts.{Facts}
use Rattle.iss_model.specs.rules.Keeper.{Growth, grow}
use Rattle.iss_model.specs.rules.Stepping.{own_entries}
use Rattle.iss_model.specs.state.Cores.{CoreState, after_entry, core_facts, core_keeper}
use Rattle.iss_state.specs.Numbers.{CallsNumberedFrom}
use Rattle.iss_state.specs.Well.{HaveOwnTokens}
use Rattle.iss_core.specs.States.{kept_state}
use Rattle.iss_core.specs.declared.due.Due.{Due}
use Rattle.iss_core.specs.declared.due.Due.TheVariants.{Call, Txn}
use Rattle.iss_core.specs.declared.state.State.{State}

-- a due thing as the rules speak of it
abbrev pub thing_of : Due → DueThing
thing_of (Call call) = call_due call.0
thing_of (Txn token) = txn_due token

-- a core that grew to this state by these entries
abbrev pub grown : CoreState → List Entry → Growth CoreState
grown s entries = record { world = s; entries = entries }

-- the state that the parts keep, grown to by the entries of a list
abbrev pub growth_of : State → Vec Entry Global → Growth CoreState
growth_of p made = grown (kept_state p) made.items

-- a due thing is settled at a moment
abbrev pub settle_thing : ℕ → Growth CoreState → DueThing → Growth CoreState
settle_thing at g thing = grow core_keeper g (thing_entries thing at)

-- a due thing of the code is settled at a moment
abbrev pub settle_one : ℕ → Growth CoreState → Due → Growth CoreState
settle_one at g due = settle_thing at g (thing_of due)

-- a record's own entries are entered
abbrev pub with_own_entries : CoreState → Record → CoreState
with_own_entries s r = fold after_entry s (own_entries r (core_facts s))

-- what comes of settling these things, when these entries were made
abbrev pub settled_from : ℕ → CoreState → List Entry → List DueThing → Growth CoreState
settled_from at s made things = fold (settle_thing at) (record { world = s; entries = made }) things

-- No two transactions have one token, and calls are numbered from 1: what is due is found under its name.
pub record HasOwnNames (s : CoreState) : Type 0 where
  pub tokens : HaveOwnTokens s.holdings.txns
  pub numbers : CallsNumberedFrom 1 s.calls

-- the deadline of a call, or 0 if there is none
abbrev pub deadline_of : Option CallNow → ℕ
deadline_of None = 0
deadline_of (Some c) = c.opened.deadline

-- the expiry of a transaction, or 0 if there is none
abbrev pub expiry_of : Option TxnNow → ℕ
expiry_of None = 0
expiry_of (Some t) = t.txn.expires

-- the number of a transaction's authorisation, or 0 if there is none
abbrev pub origin_of : Option TxnNow → ℕ
origin_of None = 0
origin_of (Some t) = t.txn.origin

-- the call of this number as a due item
abbrev pub call_item : List CallNow → ℕ → DueItem
call_item calls number =
    record { since = deadline_of (call_numbered number calls); rank = 0; number = number; thing = call_due number }

-- the transaction of this token as a due item
abbrev pub txn_item : List TxnNow → List ℕ → DueItem
txn_item txns token =
    record {
      since = expiry_of (txn_named token txns);
      rank = 1;
      number = origin_of (txn_named token txns);
      thing = txn_due token;
    }

-- the items of these calls
abbrev pub call_items : List CallNow → List CallId → List DueItem
call_items calls ids = map (λ id. call_item calls id.0) ids

-- the items of these transactions
abbrev pub txn_items : List TxnNow → List (List ℕ) → List DueItem
txn_items txns tokens = map (txn_item txns) tokens

-- the things of these calls and transactions, each where it is due among the others
abbrev pub merged_things : Facts → List CallId → List (List ℕ) → List DueThing
merged_things f calls txns = map (λ item. item.thing) (fold items_with (call_items f.calls calls) (txn_items f.txns txns))

-- none of these comes before this one
abbrev pub NoneBefore : DueItem → List DueItem → Type 0
NoneBefore a items = AllByRecursion (λ b. is_before b a ≡ false) items

-- no item of the list comes before an earlier one
abbrev pub AreOrdered : List DueItem → Type 0
AreOrdered [] = Unit {0}
AreOrdered (a ∷ items) = NoneBefore a items × AreOrdered items

-- the first calls, as far as their deadlines are no later than a moment
abbrev pub calls_until : List CallNow → ℕ → List CallId → List CallId
calls_until calls until [] = []
calls_until calls until (id ∷ ids) =
    if nat_le (deadline_of (call_numbered id.0 calls)) until then id ∷ calls_until calls until ids else []

-- the calls from the first one that has a deadline later than a moment
abbrev pub calls_after : List CallNow → ℕ → List CallId → List CallId
calls_after calls until [] = []
calls_after calls until (id ∷ ids) =
    if nat_le (deadline_of (call_numbered id.0 calls)) until then calls_after calls until ids else id ∷ ids
