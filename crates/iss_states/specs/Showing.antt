-- The state that a core shows.
use Rattle.std.specs.Prelude.{◌≡◌, ℕ, ℤ, Bool, true, false, ◌==◌, List, [], map, find, Option, Some, None, is_none, option_map, unwrap_or}
use Rattle.std.specs.List.{flat_map}
use Rattle.std.specs.FinMap as finite
use Rattle.std.specs.Str.{bytes_eq}
use Rattle.iss_model.specs.declared.account.Part.TheVariants as part
use Rattle.iss_model.specs.declared.call.CallState.{CallState}
use Rattle.iss_model.specs.declared.call.CallState.TheVariants as call_state
use Rattle.iss_model.specs.declared.call.How.{How}
use Rattle.iss_model.specs.declared.counted.Counter.{Counter}
use Rattle.iss_model.specs.declared.counted.Span.{Span}
use Rattle.iss_model.specs.declared.counted.Span.TheVariants as span
use Rattle.iss_model.specs.declared.counted.Stood.{Stood}
use Rattle.iss_model.specs.declared.setting.Window.{Window}
use Rattle.iss_model.specs.declared.setting.Window.TheVariants as window
use Rattle.iss_model.specs.declared.state.Carried.{Carried}
use Rattle.iss_model.specs.declared.state.Saldo.{Saldo}
use Rattle.iss_model.specs.declared.state.Seen.{Seen}
use Rattle.iss_model.specs.declared.state.State.{State}
use Rattle.iss_model.specs.Inputs.{event_token}
use Rattle.iss_model.specs.Sums.{part_key}
use Rattle.iss_model.specs.rules.Activity.{TxnNow, CallNow}
use Rattle.iss_model.specs.rules.Facts.{Accepted, not_below, verdict_in}
use Rattle.iss_model.specs.state.Kept.{kept_at}
use Rattle.iss_model.specs.state.Cores.{ControlKept, CoreState}
use Rattle.iss_states.specs.Keys.{account_of_key, after_token, first_token, int_of_key}

-- the token of an accepted event
abbrev pub token_of_event : Accepted → List ℕ
token_of_event a = unwrap_or (event_token a.input) []

-- a call is asked until it is closed
abbrev pub mark_of : Option How → CallState
mark_of None = call_state.Asked
mark_of (Some how) = call_state.Closed how

-- how the call of an event stands, if it has one
abbrev pub mark_in : List CallNow → List ℕ → Option CallState
mark_in calls event = option_map (λ c. mark_of c.how) (find (λ c. bytes_eq c.opened.event event) calls)

-- a call with this mark is asked
abbrev pub is_asked_mark : Option CallState → Bool
is_asked_mark (Some call_state.Asked) = true
is_asked_mark _ = false

-- an accepted event as it stands
abbrev pub seen_in : CoreState → Accepted → Seen
seen_in c a =
    record {
      number = a.number;
      body = record { at = a.at; input = a.input };
      verdict = verdict_in c.decisions (token_of_event a);
      mark = mark_in c.calls (token_of_event a);
    }

-- a transaction with its sums
abbrev pub carried_in : CoreState → TxnNow → Carried
carried_in c t =
    let token = t.txn.token in
    record {
      txn = token;
      sums = record {
        live = t.live;
        g = not_below (kept_at c.holdings.parts (part_key token part.G));
        p = not_below (kept_at c.holdings.parts (part_key token part.P));
        s = not_below (kept_at c.holdings.parts (part_key token part.S));
        cleared = not_below (kept_at c.txn_sums.cleared token);
        refunded = not_below (kept_at c.txn_sums.refunded token);
        paid = not_below (kept_at c.txn_sums.paid token);
      };
    }

-- the balance that is kept at a key
abbrev pub saldo_at : List ℕ × ℤ → Saldo
saldo_at e = record { account = account_of_key e.0; amount = e.1 }

-- the transaction that began with the record of this number
abbrev pub txn_of_origin : List TxnNow → ℤ → List ℕ
txn_of_origin txns n = unwrap_or (option_map (λ t. t.txn.token) (find (λ t. t.txn.origin == not_below n) txns)) []

-- the span of a number: a transaction's first record, or a window
abbrev pub span_at : List TxnNow → Window → ℤ → Span
span_at txns window.Transaction n = span.Txn (txn_of_origin txns n)
span_at txns window.Day n = span.Number n
span_at txns window.Week n = span.Number n
span_at txns window.Month n = span.Number n
span_at txns window.Lifetime n = span.Number n

-- the counter of a control at a key
abbrev pub counter_at : List TxnNow → ControlKept → List ℕ × ℤ → Counter
counter_at txns k e =
    record {
      control = k.control.name;
      user = first_token e.0;
      span = span_at txns k.control.window (int_of_key (after_token e.0));
      used = record { amount = e.1; count = kept_at k.times e.0 };
    }

-- the counters of a control, one for each span in which something was counted
abbrev pub counters_of : List TxnNow → ControlKept → List Counter
counters_of txns k = map (counter_at txns k) (finite.entries k.amounts)

-- what the programme stood in with, by its key
abbrev pub stood_at : List ℕ × ℤ → Stood
stood_at e =
    record {
      product = first_token e.0;
      user = first_token (after_token e.0);
      day = int_of_key (after_token (after_token e.0));
      amount = not_below e.1;
    }

-- The state that a core shows.
abbrev pub shown : CoreState → State
shown c =
    record {
      records = c.count;
      now = c.now;
      events = map (seen_in c) c.accepted;
      txns = map (carried_in c) c.holdings.txns;
      balances = map saldo_at (finite.entries c.balances);
      counters = flat_map (counters_of c.holdings.txns) c.controls;
      sums = map stood_at (finite.entries c.stand_ins.stood);
      made = c.outbox.made;
      notices = c.outbox.pending;
    }

-- the state without a record
abbrev pub no_state : State
no_state = record { records = 0; now = 0; events = []; txns = []; balances = []; counters = []; sums = []; made = 0; notices = [] }

-- a shown event as it was accepted
abbrev pub accepted_of_seen : Seen → Accepted
accepted_of_seen e = record { number = e.number; at = e.body.at; input = e.body.input }

-- the mark of a call's event is how the call stands
abbrev pub IsMarked : CoreState → CallNow → Type 0
IsMarked c x = mark_in c.calls x.opened.event ≡ Some (mark_of x.how)

-- an event isn't decided exactly if its call is asked
abbrev pub IsPendingIfAsked : CoreState → List ℕ → Type 0
IsPendingIfAsked c event = is_none (verdict_in c.decisions event) ≡ is_asked_mark (mark_in c.calls event)
