-- What a core keeps in place of the book, and what each entry does to it.
use Rattle.std.specs.Prelude.{ℕ, ◌+◌, ◌==◌, max, Bool, false, not, ◌&&◌, List, [], ◌∷◌, ◌++◌, map, filter, fold, Option, Some, None, is_some, pos, if◌then◌else◌}
use Rattle.std.specs.List.{list_any}
use Rattle.std.specs.Str.{bytes_eq}
use Rattle.iss_model.specs.declared.account.Part.TheVariants as part
use Rattle.iss_model.specs.declared.setting.CardState.{CardState}
use Rattle.iss_model.specs.declared.setting.UserState.{UserState}
use Rattle.iss_model.specs.declared.setting.UserState.TheVariants as user_state
use Rattle.iss_model.specs.declared.setting.Moved.TheVariants as moved
use Rattle.iss_model.specs.declared.setting.User.{User}
use Rattle.iss_model.specs.declared.setting.Card.{Card}
use Rattle.iss_model.specs.declared.setting.Product.{Product}
use Rattle.iss_model.specs.declared.setting.Control.{Control}
use Rattle.iss_model.specs.declared.setting.Set.{Set}
use Rattle.iss_model.specs.declared.call.CallId.{CallId}
use Rattle.iss_model.specs.declared.call.How.{How}
use Rattle.iss_model.specs.declared.call.Notice.{Notice}
use Rattle.iss_model.specs.declared.txn.Txn.{Txn}
use Rattle.iss_model.specs.declared.input.Input.{Input}
use Rattle.iss_model.specs.declared.input.Input.TheVariants as input
use Rattle.iss_model.specs.declared.input.Record.{Record}
use Rattle.iss_model.specs.declared.entry.Entry.{Entry}
use Rattle.iss_model.specs.declared.entry.Entry.TheVariants as entry
use Rattle.iss_model.specs.Sums.{Change, balance_changes, user_key, held_changes, part_key, part_changes, txn_changes, cleared_by, refunded_by, paid_by, stood_changes}
use Rattle.iss_model.specs.state.Kept.{Kept, nothing_kept, kept_at, after_changes}
use Rattle.iss_model.specs.Inputs.{event_token}
use Rattle.iss_model.specs.rules.Settings.{first_card_state, default_product, product_made}
use Rattle.iss_model.specs.rules.Controls.{Group, ControlPut, control_put, control_replaced, set_put, set_replaced, ControlNow, counted_changes}
use Rattle.iss_model.specs.rules.Activity.{TxnNow, CallNow, is_asked}
use Rattle.iss_model.specs.rules.Facts.{Facts, Accepted, Decision, verdict_in}
use Rattle.iss_model.specs.rules.Keeper.{Keeper}
use Rattle.iss_model.specs.rules.Stepping.{step}

-- users and cards as they stand, each in the order in which they were made
pub record Cardholders : Type 0 where
  pub users : List User
  pub cards : List Card

-- a product, and whether its switch is on
pub record ProductNow : Type 0 where
  pub product : Product
  pub on : Bool

-- a control as it stands, the number of its first record, and what it has counted by span: amounts, and how often
pub record ControlKept : Type 0 where
  pub first : ℕ
  pub control : Control
  pub amounts : Kept
  pub times : Kept

-- the Commando Mode sets as they stand, and what stood in for a product and user on a day
pub record StandIns : Type 0 where
  pub sets : List Set
  pub stood : Kept

-- the transactions in the order in which they began, what they hold by part, and what they hold of a user in a currency
pub record Holdings : Type 0 where
  pub txns : List TxnNow
  pub parts : Kept
  pub held : Kept

-- what was cleared of each transaction, what was refunded of it, and what the programme has paid for it
pub record SumsByTxn : Type 0 where
  pub cleared : Kept
  pub refunded : Kept
  pub paid : Kept

-- how many notices were made, and those that aren't acknowledged yet
pub record Outbox : Type 0 where
  pub made : ℕ
  pub pending : List Notice

-- What a core keeps: the time and the number of records, and the events with their decisions. Then what was set, and the sums, calls and notices.
pub record CoreState : Type 0 where
  pub now : ℕ
  pub count : ℕ
  pub accepted : List Accepted
  pub decisions : List Decision
  pub cardholders : Cardholders
  pub products : List ProductNow
  pub groups : List Group
  pub controls : List ControlKept
  pub stand_ins : StandIns
  pub balances : Kept
  pub holdings : Holdings
  pub txn_sums : SumsByTxn
  pub calls : List CallNow
  pub outbox : Outbox

-- a product begins with its switch off
abbrev pub with_product : List ProductNow → Product → List ProductNow
with_product products product = products ++ record { product = product; on = false } ∷ []

-- the state without a record: the built-in product stands
abbrev pub no_core : CoreState
no_core =
    record {
      now = 0;
      count = 0;
      accepted = [];
      decisions = [];
      cardholders = record { users = []; cards = [] };
      products = with_product [] default_product;
      groups = [];
      controls = [];
      stand_ins = record { sets = []; stood = nothing_kept };
      balances = nothing_kept;
      holdings = record { txns = []; parts = nothing_kept; held = nothing_kept };
      txn_sums = record { cleared = nothing_kept; refunded = nothing_kept; paid = nothing_kept };
      calls = [];
      outbox = record { made = 0; pending = [] };
    }

-- a new user is active
abbrev pub with_user : Cardholders → List ℕ → Cardholders
with_user c name = record c { users = c.users ++ record { name = name; state = user_state.Active } ∷ [] }

-- the user of this name is moved to a state, another one stays as it is
abbrev pub user_after_move : List ℕ → UserState → User → User
user_after_move name to user = if bytes_eq name user.name then record user { state = to } else user

-- a user is moved to a state
abbrev pub with_user_moved : Cardholders → List ℕ → UserState → Cardholders
with_user_moved c name to = record c { users = map (user_after_move name to) c.users }

-- a new card is active, or waits to be activated
abbrev pub with_card : Cardholders → List ℕ → List ℕ → List ℕ → Bool → Cardholders
with_card c name user product active =
    record c { cards = c.cards ++ record { name = name; user = user; product = product; state = first_card_state active } ∷ [] }

-- the card of this name is moved to a state, another one stays as it is
abbrev pub card_after_move : List ℕ → CardState → Card → Card
card_after_move name to card = if bytes_eq name card.name then record card { state = to } else card

-- a card is moved to a state
abbrev pub with_card_moved : Cardholders → List ℕ → CardState → Cardholders
with_card_moved c name to = record c { cards = map (card_after_move name to) c.cards }

-- the switch of the product of this name is turned, that of another stays as it is
abbrev pub product_after_switch : List ℕ → Bool → ProductNow → ProductNow
product_after_switch name on p = if bytes_eq name p.product.name then record p { on = on } else p

-- a product's switch is turned
abbrev pub with_switch : List ProductNow → List ℕ → Bool → List ProductNow
with_switch products name on = map (product_after_switch name on) products

-- the control of this name takes over what may be replaced, another one stays as it is
abbrev pub control_after_put : ControlPut → ControlKept → ControlKept
control_after_put put c =
    if bytes_eq put.control.name c.control.name then record c { control = control_replaced c.control put.control } else c

-- a control that is put changes the one of its name, or stands as the last one and has counted nothing
abbrev pub with_control : List ControlKept → ControlPut → List ControlKept
with_control controls put =
    if list_any (λ c. bytes_eq c.control.name put.control.name) controls then map (control_after_put put) controls
    else controls ++ record { first = put.number; control = put.control; amounts = nothing_kept; times = nothing_kept } ∷ []

-- a control counts use if it counts it at all
abbrev pub control_after_use : List Group → Entry → ControlKept → ControlKept
control_after_use groups e c =
    let put : ControlPut = record { number = c.first; control = c.control } in
    record c {
      amounts = after_changes c.amounts (counted_changes (λ row. row.amount) groups put e);
      times = after_changes c.times (counted_changes (λ row. row.count) groups put e);
    }

-- the set of this name takes over what may be replaced, another one stays as it is
abbrev pub set_after_put : Set → Set → Set
set_after_put put s = if bytes_eq put.name s.name then set_replaced s put else s

-- a set that is put changes the one of its name, or stands as the last one
abbrev pub with_set : List Set → Set → List Set
with_set sets put =
    if list_any (λ s. bytes_eq s.name put.name) sets then map (set_after_put put) sets else sets ++ put ∷ []

-- a thing that an entry makes is taken up
abbrev pub with_made : {S A : Type 0} → (S → A → S) → S → Option A → S
with_made take s None = s
with_made take s (Some x) = take s x

-- what each setting does
abbrev pub after_setting : CoreState → Input → CoreState
after_setting s (input.User token user) = record s { cardholders = with_user s.cardholders user }
after_setting s (input.Card token card user product active) = record s { cardholders = with_card s.cardholders card user product active }
after_setting s (input.Move token (moved.Card card to)) = record s { cardholders = with_card_moved s.cardholders card to }
after_setting s (input.Move token (moved.User user to)) = record s { cardholders = with_user_moved s.cardholders user to }
after_setting s (input.Product token product currency funding timeout_ms hold_ms) =
    record s { products = with_made with_product s.products (product_made (entry.Conf (input.Product token product currency funding timeout_ms hold_ms))) }
after_setting s (input.Group token group mccs) = record s { groups = s.groups ++ record { name = group; mccs = mccs } ∷ [] }
after_setting s (input.Control token control currency window amount_limit usage_limit association scope offset active) =
    record s {
      controls = with_made with_control s.controls
          (control_put s.count (entry.Conf (input.Control token control currency window amount_limit usage_limit association scope offset active)));
    }
after_setting s (input.Set token set product currency connection timeout application max day_limit active) =
    record s {
      stand_ins = record (s.stand_ins) {
        sets = with_made with_set s.stand_ins.sets
            (set_put (entry.Conf (input.Set token set product currency connection timeout application max day_limit active)));
      };
    }
after_setting s (input.Switch token product on) = record s { products = with_switch s.products product on }
after_setting s _ = s

-- a transaction begins live, unless one of its token has ended: a token names one transaction for good
abbrev pub is_live : List TxnNow → List ℕ → Bool
is_live txns token = not (list_any (λ t. bytes_eq t.txn.token token && not t.live) txns)

-- a transaction that begins has each part, with nothing in it
abbrev pub begun_part_changes : Txn → List Change
begun_part_changes t = map (λ part. record { key = part_key t.token part; by = pos 0 }) (part.G ∷ part.P ∷ part.S ∷ [])

-- a transaction that begins holds nothing of its user yet
abbrev pub begun_held_changes : Txn → List Change
begun_held_changes t = record { key = user_key t.user t.currency; by = pos 0 } ∷ []

-- a transaction begins
abbrev pub with_txn : Holdings → Txn → Holdings
with_txn h t =
    record {
      txns = h.txns ++ record { txn = t; live = is_live h.txns t.token } ∷ [];
      parts = after_changes h.parts (begun_part_changes t);
      held = after_changes h.held (begun_held_changes t);
    }

-- what a hold changes of the parts and of what its user has held
abbrev pub with_hold : Holdings → Entry → Holdings
with_hold h e =
    record h { parts = after_changes h.parts (part_changes e); held = after_changes h.held (held_changes e) }

-- the transaction of this token has ended, another one stays as it is
abbrev pub txn_after_end : List ℕ → TxnNow → TxnNow
txn_after_end token t = if bytes_eq token t.txn.token then record t { live = false } else t

-- a transaction ends
abbrev pub with_end : Holdings → List ℕ → Holdings
with_end h token = record h { txns = map (txn_after_end token) h.txns }

-- what a post changes of its transaction's sums
abbrev pub with_post : SumsByTxn → Entry → SumsByTxn
with_post sums e =
    record {
      cleared = after_changes sums.cleared (txn_changes cleared_by e);
      refunded = after_changes sums.refunded (txn_changes refunded_by e);
      paid = after_changes sums.paid (txn_changes paid_by e);
    }

-- the call of this number is closed if it is asked, another one stays as it is
abbrev pub call_after_close : ℕ → How → CallNow → CallNow
call_after_close number how c = if number == c.opened.call.0 && is_asked c then record c { how = Some how } else c

-- a call is closed
abbrev pub with_closed : List CallNow → CallId → How → List CallNow
with_closed calls call how = map (call_after_close call.0 how) calls

-- a notice is made
abbrev pub with_notice : Outbox → Notice → Outbox
with_notice o notice = record { made = o.made + 1; pending = o.pending ++ notice ∷ [] }

-- a notice is acknowledged
abbrev pub with_acked : Outbox → ℕ → Outbox
with_acked o number = record o { pending = filter (λ notice. not (number == notice.number)) o.pending }

-- What each entry does to what a core keeps.
abbrev pub after_entry : CoreState → Entry → CoreState
after_entry s (entry.Conf i) = after_setting s i
after_entry s (entry.Began txn) = record s { holdings = with_txn s.holdings txn }
after_entry s (entry.Opened opened) = record s { calls = s.calls ++ record { opened = opened; how = None } ∷ [] }
after_entry s (entry.Closed call how) = record s { calls = with_closed s.calls call how }
after_entry s (entry.Decided event verdict) = record s { decisions = s.decisions ++ record { event = event; verdict = verdict } ∷ [] }
after_entry s (entry.Post from to amount txn) =
    record s {
      balances = after_changes s.balances (balance_changes (entry.Post from to amount txn));
      txn_sums = with_post s.txn_sums (entry.Post from to amount txn);
    }
after_entry s (entry.Hold txn user currency part amount) =
    record s { holdings = with_hold s.holdings (entry.Hold txn user currency part amount) }
after_entry s (entry.Usage row) = record s { controls = map (control_after_use s.groups (entry.Usage row)) s.controls }
after_entry s (entry.Stood set product user amount at) =
    record s {
      stand_ins = record (s.stand_ins) {
        stood = after_changes s.stand_ins.stood (stood_changes (entry.Stood set product user amount at));
      };
    }
after_entry s (entry.Notice notice) = record s { outbox = with_notice s.outbox notice }
after_entry s (entry.Acked notice) = record s { outbox = with_acked s.outbox notice }
after_entry s (entry.Ended txn) = record s { holdings = with_end s.holdings txn }

-- a record is counted, and stands among the events if it is one
abbrev pub with_record : CoreState → Record → CoreState
with_record s r =
    let number = s.count + 1 in
    record s {
      now = max s.now r.at;
      count = number;
      accepted = s.accepted ++ (if is_some (event_token r.input) then record { number = number; at = r.at; input = r.input } ∷ [] else []);
    }

-- what a control that is kept has counted, by span
abbrev pub control_facts : ControlKept → ControlNow
control_facts c =
    record { first = c.first; control = c.control; amounts = kept_at c.amounts; times = kept_at c.times }

-- the facts that a core tells
abbrev pub core_facts : CoreState → Facts
core_facts s =
    record {
      now = s.now;
      count = s.count;
      accepted = s.accepted;
      decisions = verdict_in s.decisions;
      users = s.cardholders.users;
      cards = s.cardholders.cards;
      products = map (λ p. p.product) s.products;
      switched = map (λ p. p.product.name) (filter (λ p. p.on) s.products);
      groups = s.groups;
      controls = map control_facts s.controls;
      sets = s.stand_ins.sets;
      txns = s.holdings.txns;
      calls = s.calls;
      notices_made = s.outbox.made;
      pending = s.outbox.pending;
      balances = kept_at s.balances;
      holds = kept_at s.holdings.held;
      parts = kept_at s.holdings.parts;
      cleared = kept_at s.txn_sums.cleared;
      refunded = kept_at s.txn_sums.refunded;
      paid = kept_at s.txn_sums.paid;
      stood = kept_at s.stand_ins.stood;
    }

-- a core as a keeper: it enters each entry once, and never holds the book
abbrev pub core_keeper : Keeper CoreState
core_keeper = record { facts = core_facts; take_up = with_record; add = λ s entries. fold after_entry s entries }

-- the state that a core comes to by these records
abbrev pub core_of : List Record → CoreState
core_of rs = fold (λ s r. (step core_keeper s r).world) no_core rs
