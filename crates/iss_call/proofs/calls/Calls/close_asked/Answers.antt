use Rattle.std.proofs.Common.{ℕ, List, ◌≡◌, ◌-◌, length, sym, ap, ◌∙◌, subst, arith}
use Rattle.std.specs.Vec.{vec_len}
use Rattle.std.specs.BTreeMap.{is_at}
use Rattle.std.specs.Set.{remove_key}
use Rattle.iss_model.specs.declared.call.CallState.TheVariants as call_state
use Rattle.iss_model.specs.rules.Activity.{CallNow}
use Rattle.iss_model.specs.state.Cores.{with_closed}
use Rattle.iss_call.specs.States.{state_in}
use Rattle.iss_call.specs.Orders.{by_txn}
use Rattle.iss_call.specs.Named.{calls_in}
use Rattle.iss_call.proofs.Named.{numbered_in}
use Rattle.iss_call.proofs.Closing.{asked_from, asked_within, asked_named, list_closed, kept_closed}
use Rattle.iss_call.proofs.calls.Calls.close_asked.Goals as goal

pub overflow_sub-id : goal.overflow_sub-id
overflow_sub-id c =
    asked_from (calls_in c.self.inside.names 1 c.self.inside.rows.items) c.args.id.0 (numbered_in c.self.inside.names 1 c.self.inside.rows.items)
    (subst (λ (cs : List CallNow). state_in cs c.args.id.0 ≡ call_state.Asked) (sym c.self.view_is) c.requires)

pub index_mut-row-requires : goal.index_mut-row-requires
index_mut-row-requires c =
    let ns = c.self.inside.names in
    let rows = c.self.inside.rows.items in
    let asked = subst (λ (cs : List CallNow). state_in cs c.args.id.0 ≡ call_state.Asked) (sym c.self.view_is) c.requires in
    let first = asked_from (calls_in ns 1 rows) c.args.id.0 (numbered_in ns 1 rows) asked in
    let inside = asked_within ns rows c.args.id.0 (c.args.id.0 - 1) (omega (arith, first)) asked in
    let len : vec_len c.self.inside.rows ≡ length rows = c.self.inside.rows.ok.0 in
    omega (arith, inside, len)

pub txn_of-requires : goal.txn_of-requires
txn_of-requires c =
    let ns = c.self.inside.names in
    let rows = c.self.inside.rows.items in
    let asked = subst (λ (cs : List CallNow). state_in cs c.args.id.0 ≡ call_state.Asked) (sym c.self.view_is) c.requires in
    let first = asked_from (calls_in ns 1 rows) c.args.id.0 (numbered_in ns 1 rows) asked in
    (asked_named ns rows c.args.id.0 (c.args.id.0 - 1) c.index_mut-row.result.now _ (omega (arith, first)) c.self.invariant.named asked c.index_mut-row.ensures.value).txn

pub invariant_of-self : goal.invariant_of-self
invariant_of-self c =
    let ns = c.self.inside.names in
    let rows = c.self.inside.rows.items in
    let asked = subst (λ (cs : List CallNow). state_in cs c.args.id.0 ≡ call_state.Asked) (sym c.self.view_is) c.requires in
    let first = asked_from (calls_in ns 1 rows) c.args.id.0 (numbered_in ns 1 rows) asked in
    kept_closed ns rows c.self.inside.orders c.leave.new.self c.args.id.0 (c.args.id.0 - 1) c.index_mut-row.result.now _ c.args.how (omega (arith, first))
    c.self.invariant asked c.index_mut-row.ensures.value c.leave.ensures.deadlines
    (subst (λ (txn : List ℕ). c.leave.new.self.txns.keys ≡ remove_key (is_at (by_txn (txn, c.args.id.0))) c.self.inside.orders.txns.keys) c.txn_of.ensures c.leave.ensures.txns)

pub returns : goal.returns
returns c =
    let ns = c.self.inside.names in
    let rows = c.self.inside.rows.items in
    let asked = subst (λ (cs : List CallNow). state_in cs c.args.id.0 ≡ call_state.Asked) (sym c.self.view_is) c.requires in
    let first = asked_from (calls_in ns 1 rows) c.args.id.0 (numbered_in ns 1 rows) asked in
    list_closed ns rows c.args.id.0 (c.args.id.0 - 1) c.index_mut-row.result.now _ c.args.how (omega (arith, first)) asked c.index_mut-row.ensures.value
    ∙ ap (λ (cs : List CallNow). with_closed cs c.args.id c.args.how) c.self.view_is
