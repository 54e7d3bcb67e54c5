use Rattle.std.proofs.Common.{◌≡◌, ℕ, List, map, ap, subst, ◌∙◌}
use Rattle.std.specs.Prelude.{IfOk}
use Rattle.iss_model.specs.rules.Due.{DueItem, call_due, txn_due}
use Rattle.iss_model.specs.declared.call.CallId.{CallId}
use Rattle.iss_core.specs.States.{kept_state}
use Rattle.iss_core.specs.Sweeps.{thing_of}
use Rattle.iss_core.proofs.DueNames.{txns_ordered, all_found}
use Rattle.iss_core.proofs.state.State.due.Goals as goal

pub merged-requires : goal.merged-requires
merged-requires c =
    txns_ordered (kept_state c.args.self.now) c.args.at c.deref-2.result.now c.requires.names
    (ap (λ (ts : List (List ℕ)). map (λ token. txn_due token) ts) c.deref-2.ensures.value ∙ c.in_ok-txns.ensures)

pub returns : goal.returns
returns c =
    subst (λ (items : List DueItem). IfOk c.merged.result (λ v. map thing_of v.items ≡ map (λ item. item.thing) items))
    (all_found (kept_state c.args.self.now) c.args.at c.deref.result.now c.deref-2.result.now c.requires.names
    (ap (λ (ids : List CallId). map (λ id. call_due id.0) ids) c.deref.ensures.value ∙ c.in_ok-calls.ensures)
    (ap (λ (ts : List (List ℕ)). map (λ token. txn_due token) ts) c.deref-2.ensures.value ∙ c.in_ok-txns.ensures))
    c.merged.ensures
