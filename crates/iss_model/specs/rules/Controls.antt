-- Controls, groups of merchants and Commando Mode sets, read from the rows of the book, and what a control counts.
use Rattle.std.specs.Prelude.{ℕ, ℤ, pos, Bool, true, false, ◌&&◌, ◌==◌, nat_lt, List, [], ◌∷◌, ◌++◌, find, filter, fold, map, Option, Some, None, option_map, if◌then◌else◌}
use Rattle.std.specs.List.{filter_map, list_any}
use Rattle.std.specs.Str.{bytes_eq}
use Rattle.iss_model.specs.declared.setting.Window.{Window}
use Rattle.iss_model.specs.declared.setting.Window.TheVariants as window
use Rattle.iss_model.specs.declared.setting.Association.{Association}
use Rattle.iss_model.specs.declared.setting.Association.TheVariants as association
use Rattle.iss_model.specs.declared.setting.Scope.{Scope}
use Rattle.iss_model.specs.declared.setting.Scope.TheVariants as scope
use Rattle.iss_model.specs.declared.setting.Control.{Control}
use Rattle.iss_model.specs.declared.setting.Set.{Set}
use Rattle.iss_model.specs.declared.txn.UsageRow.{UsageRow}
use Rattle.iss_model.specs.declared.input.Input.{Input}
use Rattle.iss_model.specs.declared.input.Input.TheVariants as input
use Rattle.iss_model.specs.declared.entry.Row.{Row}
use Rattle.iss_model.specs.declared.entry.Entry.{Entry}
use Rattle.iss_model.specs.declared.entry.Entry.TheVariants as entry
use Rattle.iss_model.specs.Currencies.{same_currency}
use Rattle.iss_model.specs.Calendar.{window_at}
use Rattle.iss_model.specs.Sums.{Change, int_key, sum_at}
use Rattle.iss_model.specs.rules.Settings.{latest_of}

-- the first of each name, in their order
abbrev pub firsts : {A : Type 0} → (A → List ℕ) → List A → List A
firsts name xs =
    fold (λ kept x. if list_any (λ k. bytes_eq (name k) (name x)) kept then kept else kept ++ x ∷ []) [] xs

-- a merchant group: its name and its merchant category codes, which never change
pub record Group : Type 0 where
  pub name : List ℕ
  pub mccs : List ℕ

-- the group that an entry makes
abbrev pub group_made : Entry → Option Group
group_made (entry.Conf (input.Group token group mccs)) = Some (record { name = group; mccs = mccs })
group_made _ = None

-- the groups of the book, in the order in which they were made
abbrev pub groups_of : List Row → List Group
groups_of rows = filter_map (λ row. group_made row.entry) rows

-- the group of this name
abbrev pub group_named : List ℕ → List Group → Option Group
group_named name groups = find (λ group. bytes_eq group.name name) groups

-- the control that an input sets
abbrev pub control_of : Input → Option Control
control_of (input.Control token control currency window amount_limit usage_limit association scope offset active) =
    Some (record {
      name = control;
      currency = currency;
      window = window;
      amount_limit = amount_limit;
      usage_limit = usage_limit;
      association = association;
      scope = scope;
      offset = offset;
      active = active;
    })
control_of _ = None

-- a control as a row puts it, with the number of the record
pub record ControlPut : Type 0 where
  pub number : ℕ
  pub control : Control

-- the control that a row puts
abbrev pub control_put : ℕ → Entry → Option ControlPut
control_put number (entry.Conf i) = option_map (λ control. record { number = number; control = control }) (control_of i)
control_put number _ = None

-- what may be replaced of a control: its limits and its activity
abbrev pub control_replaced : Control → Control → Control
control_replaced first last =
    record first { amount_limit = last.amount_limit; usage_limit = last.usage_limit; active = last.active }

-- a control is its first row, with what may be replaced of its last
abbrev pub control_now : List ControlPut → ControlPut → ControlPut
control_now puts first =
    let last = latest_of first (filter (λ put. bytes_eq put.control.name first.control.name) puts) in
    record first { control = control_replaced first.control last.control }

-- the controls of the book as they stand, in the order of their first rows
abbrev pub control_puts_of : List Row → List ControlPut
control_puts_of rows =
    let puts = filter_map (λ row. control_put row.number row.entry) rows in
    map (control_now puts) (firsts (λ put. put.control.name) puts)

-- the set that an entry puts
abbrev pub set_put : Entry → Option Set
set_put (entry.Conf (input.Set token set product currency connection timeout application max day_limit active)) =
    Some (record {
      name = set;
      product = product;
      currency = currency;
      connection = connection;
      timeout = timeout;
      application = application;
      max = max;
      day_limit = day_limit;
      active = active;
    })
set_put _ = None

-- what may be replaced of a set: whether it covers each failure, its limits and its activity
abbrev pub set_replaced : Set → Set → Set
set_replaced first last =
    record first {
      connection = last.connection;
      timeout = last.timeout;
      application = last.application;
      max = last.max;
      day_limit = last.day_limit;
      active = last.active;
    }

-- a set is its first row, with what may be replaced of its last
abbrev pub set_now : List Set → Set → Set
set_now puts first = set_replaced first (latest_of first (filter (λ put. bytes_eq put.name first.name) puts))

-- the sets of the book as they stand, in the order of their first rows
abbrev pub sets_of : List Row → List Set
sets_of rows = let puts = filter_map (λ row. set_put row.entry) rows in map (set_now puts) (firsts (λ put. put.name) puts)

-- the codes of a group hold a merchant category code
abbrev pub holds_mcc : ℕ → Option Group → Bool
holds_mcc mcc None = false
holds_mcc mcc (Some group) = list_any (λ code. code == mcc) group.mccs

-- a scope covers a merchant, by its merchant category code of ISO 18245 or its id
abbrev pub covers : List Group → Scope → ℕ → List ℕ → Bool
covers groups scope.All mcc mid = true
covers groups (scope.Mcc code) mcc mid = code == mcc
covers groups (scope.Group name) mcc mid = holds_mcc mcc (group_named name groups)
covers groups (scope.Mid merchant) mcc mid = bytes_eq merchant mid

-- an association holds of a user's purchase with a product
abbrev pub is_associated : Association → List ℕ → List ℕ → Bool
is_associated association.Anybody user product = true
is_associated (association.User name) user product = bytes_eq name user
is_associated (association.Product name) user product = bytes_eq name product

-- a control counts use whose authorisation is later than the control's first record, in its currency, association and scope
abbrev pub counts : List Group → ControlPut → UsageRow → Bool
counts groups put row =
    nat_lt put.number row.origin
    && same_currency put.control.currency row.currency
    && is_associated put.control.association row.user row.product
    && covers groups put.control.scope row.mcc row.mid

-- a user with the number of a window or of a record: keys sort by the bytes of the user's token, then by the number
abbrev pub counter_key : List ℕ → ℤ → List ℕ
counter_key user number = user ++ 0 ∷ int_key number

-- a user in the window of a stamp
abbrev pub window_key : Window → ℤ → List ℕ → ℕ → List ℕ
window_key window offset user at = counter_key user (window_at window at offset)

-- what a control adds up use over: a user's window, or one transaction, known by the number of its authorisation's record
abbrev pub span_key : Control → Window → UsageRow → List ℕ
span_key control window.Transaction row = counter_key row.user (pos row.origin)
span_key control window.Day row = window_key window.Day control.offset row.user row.at
span_key control window.Week row = window_key window.Week control.offset row.user row.at
span_key control window.Month row = window_key window.Month control.offset row.user row.at
span_key control window.Lifetime row = window_key window.Lifetime control.offset row.user row.at

-- a usage row changes what a control has counted in the row's span, if the control counts it
abbrev pub counted_changes : (UsageRow → ℤ) → List Group → ControlPut → Entry → List Change
counted_changes worth groups put (entry.Usage row) =
    if counts groups put row then record { key = span_key put.control put.control.window row; by = worth row } ∷ [] else []
counted_changes worth groups put _ = []

-- a control as it stands, the number of its first record, and what it has counted by span: amounts, and how often
pub record ControlNow : Type 0 where
  pub first : ℕ
  pub control : Control
  pub amounts : List ℕ → ℤ
  pub times : List ℕ → ℤ

-- a control with its sums over the whole book
abbrev pub counted_control : List Row → ControlPut → ControlNow
counted_control rows put =
    record {
      first = put.number;
      control = put.control;
      amounts = λ key. sum_at (counted_changes (λ row. row.amount) (groups_of rows) put) key rows;
      times = λ key. sum_at (counted_changes (λ row. row.count) (groups_of rows) put) key rows;
    }

-- the controls of the book, in the order of their first rows, with what they have counted
abbrev pub controls_of : List Row → List ControlNow
controls_of rows = map (counted_control rows) (control_puts_of rows)

-- the control of this name
abbrev pub control_named : List ℕ → List ControlNow → Option ControlNow
control_named name controls = find (λ c. bytes_eq c.control.name name) controls

-- the set of this name
abbrev pub set_named : List ℕ → List Set → Option Set
set_named name sets = find (λ s. bytes_eq s.name name) sets
