-- The state of a history, told over its whole book: each list by filters, each sum over all rows.
use Rattle.std.specs.Prelude.{ℕ, Bool, List, [], ◌∷◌, map, fold, if◌then◌else◌}
use Rattle.std.specs.List.{flat_map, list_all}
use Rattle.std.specs.Cmp.Lexicographic.{slice_cmp}
use Rattle.std.specs.Ordering.{is_eq, is_lt, nat_cmp}
use Rattle.iss_model.specs.declared.account.Account.{Account}
use Rattle.iss_model.specs.declared.account.Part.TheVariants as part
use Rattle.iss_model.specs.declared.counted.Counter.{Counter}
use Rattle.iss_model.specs.declared.counted.Stood.{Stood}
use Rattle.iss_model.specs.declared.entry.Entry.{Entry}
use Rattle.iss_model.specs.declared.entry.Row.{Row}
use Rattle.iss_model.specs.declared.state.Carried.{Carried}
use Rattle.iss_model.specs.declared.state.Saldo.{Saldo}
use Rattle.iss_model.specs.declared.state.Seen.{Seen}
use Rattle.iss_model.specs.declared.state.State.{State}
use Rattle.iss_model.specs.Sums.{Change, account_key, stood_changes}
use Rattle.iss_model.specs.rules.Activity.{TxnNow}
use Rattle.iss_model.specs.rules.Controls.{ControlNow, ControlPut, control_puts_of, counted_changes, counted_control, groups_of}
use Rattle.iss_model.specs.rules.Facts.{Accepted, Facts, balance_in, not_below, part_in}
use Rattle.iss_model.specs.rules.Histories.{History, history_facts}
use Rattle.iss_model.specs.texts.BalanceLines.{accounts_of}
use Rattle.iss_states.specs.Keys.{account_of_key, after_token, first_token, int_of_key, is_named_by_token}
use Rattle.iss_states.specs.Showing.{mark_in, span_at, token_of_event}

-- ---- keys

-- a key at its place among keys in order, once
abbrev pub keys_with : List (List ℕ) → List ℕ → List (List ℕ)
keys_with [] key = key ∷ []
keys_with (k ∷ ks) key =
    if is_lt (slice_cmp nat_cmp key k) then key ∷ k ∷ ks else if is_eq (slice_cmp nat_cmp key k) then k ∷ ks else k ∷ keys_with ks key

-- the keys that rows change, in order
abbrev pub keys_changed : (Entry → List Change) → List Row → List (List ℕ)
keys_changed changes rows = fold (λ keys row. fold (λ keys c. keys_with keys c.key) keys (changes row.entry)) [] rows

-- ---- parts of the state

-- an event with its verdict and its call's mark
abbrev pub seen_by : Facts → Accepted → Seen
seen_by f a =
    record {
      number = a.number;
      body = record { at = a.at; input = a.input };
      verdict = f.decisions (token_of_event a);
      mark = mark_in f.calls (token_of_event a);
    }

-- a transaction with its sums
abbrev pub carried_by : Facts → TxnNow → Carried
carried_by f t =
    let token = t.txn.token in
    record {
      txn = token;
      sums = record {
        live = t.live;
        g = part_in f token part.G;
        p = part_in f token part.P;
        s = part_in f token part.S;
        cleared = not_below (f.cleared token);
        refunded = not_below (f.refunded token);
        paid = not_below (f.paid token);
      };
    }

-- an account, as its key tells it, and its balance
abbrev pub saldo_by : Facts → Account → Saldo
saldo_by f a = record { account = account_of_key (account_key a); amount = balance_in f a }

-- what a control has counted at a key
abbrev pub counter_by : List TxnNow → ControlNow → List ℕ → Counter
counter_by txns c key =
    record {
      control = c.control.name;
      user = first_token key;
      span = span_at txns c.control.window (int_of_key (after_token key));
      used = record { amount = c.amounts key; count = c.times key };
    }

-- the counters of a control: one for each user and span with a counted row
abbrev pub counters_by : List TxnNow → List Row → ControlPut → List Counter
counters_by txns rows put =
    map (counter_by txns (counted_control rows put)) (keys_changed (counted_changes (λ row. row.amount) (groups_of rows) put) rows)

-- what the programme stood in with at a key
abbrev pub stood_by : Facts → List ℕ → Stood
stood_by f key =
    record {
      product = first_token key;
      user = first_token (after_token key);
      day = int_of_key (after_token (after_token key));
      amount = not_below (f.stood key);
    }

-- The state of a history.
abbrev pub state_of : History → State
state_of h =
    let f = history_facts h in
    record {
      records = f.count;
      now = f.now;
      events = map (seen_by f) f.accepted;
      txns = map (carried_by f) f.txns;
      balances = map (saldo_by f) (accounts_of h.rows);
      counters = flat_map (counters_by f.txns h.rows) (control_puts_of h.rows);
      sums = map (stood_by f) (keys_changed stood_changes h.rows);
      made = f.notices_made;
      notices = f.pending;
    }

-- the user of each account of a book has a token for a name
abbrev pub has_named_accounts : List Row → Bool
has_named_accounts rows = list_all is_named_by_token (accounts_of rows)
