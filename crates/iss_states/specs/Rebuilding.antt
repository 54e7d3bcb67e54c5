-- A core that is made again from a state: settings from the events that are done, transactions and calls from theirs, and then the sums.
use Rattle.std.specs.Prelude.{◌≡◌, ℕ, ◌+◌, ℤ, pos, Bool, true, false, List, [], ◌∷◌, ◌++◌, map, filter, fold, find, Option, Some, None, option_map, unwrap_or, if◌then◌else◌}
use Rattle.std.specs.List.{flat_map}
use Rattle.std.specs.Str.{bytes_eq}
use Rattle.std.specs.FinMap as finite
use Rattle.iss_model.specs.declared.account.Part.TheVariants as part
use Rattle.iss_model.specs.declared.call.CallState.{CallState}
use Rattle.iss_model.specs.declared.call.CallState.TheVariants as call_state
use Rattle.iss_model.specs.declared.call.How.{How}
use Rattle.iss_model.specs.declared.counted.Counter.{Counter}
use Rattle.iss_model.specs.declared.counted.Span.{Span}
use Rattle.iss_model.specs.declared.counted.Span.TheVariants as span
use Rattle.iss_model.specs.declared.counted.Stood.{Stood}
use Rattle.iss_model.specs.declared.decision.Verdict.{Verdict}
use Rattle.iss_model.specs.declared.decision.Verdict.TheVariants as verdict
use Rattle.iss_model.specs.declared.input.Input.{Input}
use Rattle.iss_model.specs.declared.input.Input.TheVariants as input
use Rattle.iss_model.specs.declared.input.Record.{Record}
use Rattle.iss_model.specs.declared.state.Carried.{Carried}
use Rattle.iss_model.specs.declared.state.Seen.{Seen}
use Rattle.iss_model.specs.declared.state.State.{State}
use Rattle.iss_model.specs.declared.txn.Used.{Used}
use Rattle.iss_model.specs.Inputs.{event_token}
use Rattle.iss_model.specs.Sums.{Change, account_key, int_key, part_key, user_key}
use Rattle.iss_model.specs.rules.Activity.{TxnNow, CallNow, txn_named}
use Rattle.iss_model.specs.rules.Asks.{Ask}
use Rattle.iss_model.specs.rules.Controls.{counter_key}
use Rattle.iss_model.specs.rules.Facts.{Facts, Decision}
use Rattle.iss_model.specs.rules.Pieces.{call_for}
use Rattle.iss_model.specs.rules.Settings.{product_named}
use Rattle.iss_model.specs.rules.Stepping.{authorization_ask, increment_ask}
use Rattle.iss_model.specs.state.Kept.{Kept, after_changes, nothing_kept}
use Rattle.iss_model.specs.state.Cores.{ControlKept, CoreState, after_setting, core_facts, no_core}
use Rattle.iss_agreement.specs.Stepped.{core_after}
use Rattle.iss_states.specs.Showing.{shown}

-- the transaction of this token, as it is carried
abbrev pub carried_named : List ℕ → List Carried → Option Carried
carried_named token ts = find (λ t. bytes_eq t.txn token) ts

-- how a call was closed, if it is
abbrev pub how_of_mark : CallState → Option How
how_of_mark (call_state.Closed how) = Some how
how_of_mark call_state.Asked = None
how_of_mark call_state.Unknown = None

-- the decision of an event, if it is decided
abbrev pub decisions_of_event : Seen → List Decision
decisions_of_event e =
    unwrap_or (option_map (λ v. record { event = unwrap_or (event_token e.body.input) []; verdict = v } ∷ []) e.verdict) []

-- an event was done
abbrev pub is_done : Option Verdict → Bool
is_done (Some verdict.Done) = true
is_done _ = false

-- what an event asks, if it is an authorisation or an increment
abbrev pub ask_of_event : Facts → ℕ → Input → Option Ask
ask_of_event f at (input.Authorization token card currency amount mcc mid partial) = authorization_ask f token card currency amount mcc mid partial at
ask_of_event f at (input.Increment token txn currency amount) = increment_ask f token txn amount at
ask_of_event f at _ = None

-- the transaction that an ask begins, if it is carried
abbrev pub txns_begun : List Carried → Option Ask → List TxnNow
txns_begun ts None = []
txns_begun ts (Some ask) =
    if ask.is_first then unwrap_or (option_map (λ t. record { txn = ask.txn; live = t.sums.live } ∷ []) (carried_named ask.txn.token ts)) []
    else []

-- the call of an ask, if it has a mark
abbrev pub calls_marked : Facts → Option CallState → Option Ask → List CallNow
calls_marked f (Some mark) (Some ask) =
    unwrap_or (option_map (λ product. record { opened = call_for f product ask; how = how_of_mark mark } ∷ []) (product_named ask.txn.product f.products)) []
calls_marked f _ _ = []

-- an event's record is counted, and the event accepted
abbrev pub with_event : CoreState → Seen → CoreState
with_event c e =
    record c {
      count = e.number;
      now = e.body.at;
      accepted = c.accepted ++ record { number = e.number; at = e.body.at; input = e.body.input } ∷ [];
    }

-- an event is taken up again: its setting if it is done, its transaction if it is carried, and its call if it has a mark
abbrev pub with_seen : List Carried → CoreState → Seen → CoreState
with_seen ts c e =
    let settled = if is_done e.verdict then after_setting (with_event c e) e.body.input else with_event c e in
    let ask = ask_of_event (core_facts settled) e.body.at e.body.input in
    record settled {
      decisions = settled.decisions ++ decisions_of_event e;
      holdings = record (settled.holdings) { txns = settled.holdings.txns ++ txns_begun ts ask };
      calls = settled.calls ++ calls_marked (core_facts settled) e.mark ask;
    }

-- what stands of the events
abbrev pub events_again : State → CoreState
events_again s = fold (with_seen s.txns) no_core s.events

-- sums by key, as a list gives them
abbrev pub kept_by : {A : Type 0} → (A → List ℕ × ℤ) → List A → Kept
kept_by sum xs = finite.from_entries (map sum xs)

-- the user of a transaction with its currency
abbrev pub holder_key : List TxnNow → Carried → List ℕ
holder_key txns t = unwrap_or (option_map (λ now. user_key now.txn.user now.txn.currency) (txn_named t.txn txns)) []

-- what a transaction holds, by part
abbrev pub part_sums : Carried → List (List ℕ × ℤ)
part_sums t = (part_key t.txn part.G, pos t.sums.g) ∷ (part_key t.txn part.P, pos t.sums.p) ∷ (part_key t.txn part.S, pos t.sums.s) ∷ []

-- what each transaction holds of its user
abbrev pub held_sums : List TxnNow → List Carried → List Change
held_sums txns ts = map (λ t. record { key = holder_key txns t; by = pos (t.sums.g + t.sums.p + t.sums.s) }) ts

-- the number of a span: its window's, or that of its transaction's first record
abbrev pub span_number : List TxnNow → Span → ℤ
span_number txns (span.Number n) = n
span_number txns (span.Txn token) = unwrap_or (option_map (λ t. pos t.txn.origin) (txn_named token txns)) (pos 0)

-- what a counter has, at its key
abbrev pub counter_sum : (Used → ℤ) → List TxnNow → Counter → List ℕ × ℤ
counter_sum worth txns k = (counter_key k.user (span_number txns k.span), worth k.used)

-- a control with its counters
abbrev pub with_counters : List TxnNow → List Counter → ControlKept → ControlKept
with_counters txns ks c =
    let own = filter (λ k. bytes_eq k.control c.control.name) ks in
    record c {
      amounts = kept_by (counter_sum (λ u. u.amount) txns) own;
      times = kept_by (counter_sum (λ u. u.count) txns) own;
    }

-- what the programme stood in with, at its key
abbrev pub stood_sum : Stood → List ℕ × ℤ
stood_sum x = (x.product ++ 0 ∷ x.user ++ 0 ∷ int_key x.day, pos x.amount)

-- A core made again: what stands of the events, and then the sums, the counters and the notices of the state.
abbrev pub rebuilt : State → CoreState
rebuilt s =
    let c = events_again s in
    let txns = c.holdings.txns in
    record c {
      now = s.now;
      count = s.records;
      controls = map (with_counters txns s.counters) c.controls;
      stand_ins = record (c.stand_ins) { stood = kept_by stood_sum s.sums };
      balances = kept_by (λ b. (account_key b.account, b.amount)) s.balances;
      holdings = record {
        txns = txns;
        parts = finite.from_entries (flat_map part_sums s.txns);
        held = after_changes nothing_kept (held_sums txns s.txns);
      };
      txn_sums = record {
        cleared = kept_by (λ t. (t.txn, pos t.sums.cleared)) s.txns;
        refunded = kept_by (λ t. (t.txn, pos t.sums.refunded)) s.txns;
        paid = kept_by (λ t. (t.txn, pos t.sums.paid)) s.txns;
      };
      outbox = record { made = s.made; pending = s.notices };
    }

-- The state after a record: what a core shows that is made from the state before it, and takes the record up.
abbrev pub state_after : State → Record → State
state_after s r = shown (core_after (rebuilt s) r)

-- a core that is made again from what is shown has the same balances
abbrev pub HasBalancesAgain : CoreState → Type 0
HasBalancesAgain c = (rebuilt (shown c)).balances ≡ c.balances
