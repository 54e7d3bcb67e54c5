use Rattle.std.proofs.Common.{rules, ◌≡◌, ◌+◌, List, [], ◌∷◌, ◌++◌, length, refl, sym, ap, ◌∙◌}
use Rattle.std.specs.Prelude.{Err, None}
use Rattle.iss_model.specs.rules.Activity.{CallNow}
use Rattle.iss_call.specs.declared.rows.CallRow.{CallRow}
use Rattle.iss_call.specs.Named.{calls_in}
use Rattle.iss_call.proofs.AskedKeys.{no_key_yet}
use Rattle.iss_call.proofs.Asking.{kept_grown, calls_grown, kept_asked, calls_asked}
use Rattle.iss_call.proofs.calls.Calls.ask.Goals as goal

pub invariant_of-self-in_err-row : goal.invariant_of-self-in_err-row
invariant_of-self-in_err-row c =
    kept_grown c.self.inside.orders c.self.inside.orders c.row_of.ensures.grown c.self.invariant c.in_ok-reserve.ensures.items refl refl

pub returns-in_err-row-clause-unchanged : goal.returns-in_err-row-clause-unchanged
returns-in_err-row-clause-unchanged c =
    let failed : c.from_residual-in_err-row.result ≡ Err c.in_err-row.field-0.0 = search rules in
    rw failed (calls_grown c.row_of.ensures.grown c.self.invariant.named c.in_ok-reserve.ensures.items ∙ c.self.view_is)

pub enter-requires : goal.enter-requires
enter-requires c =
    no_key_yet (calls_in c.self.inside.names 1 c.self.inside.rows.items) c.self.inside.orders c.args.opened.now c.self.invariant.ordered
    (c.requires.next ∙ ap (λ (cs : List CallNow). length cs + 1) (sym c.self.view_is))

pub invariant_of-self-in_err-enter : goal.invariant_of-self-in_err-enter
invariant_of-self-in_err-enter c =
    kept_grown c.self.inside.orders c.enter.new.self c.row_of.ensures.grown c.self.invariant c.in_ok-reserve.ensures.items
    c.in_err-enter.ensures.deadlines_stay c.in_err-enter.ensures.txns_stay

pub returns-in_err-enter-clause-unchanged : goal.returns-in_err-enter-clause-unchanged
returns-in_err-enter-clause-unchanged c =
    let failed : c.from_residual-in_err-enter.result ≡ Err c.in_err-enter.field-0.0 = search rules in
    rw failed (calls_grown c.row_of.ensures.grown c.self.invariant.named c.in_ok-reserve.ensures.items ∙ c.self.view_is)

pub invariant_of-self-2 : goal.invariant_of-self-2
invariant_of-self-2 c =
    let items : c.push.new.self.items ≡ c.self.inside.rows.items ++ c.in_ok-row.row ∷ [] =
    c.in_ok-push.ensures.items ∙ ap (λ (rows : List CallRow). rows ++ c.in_ok-row.row ∷ []) c.in_ok-reserve.ensures.items in
    kept_asked c.in_ok-row.row c.args.opened.now c.self.inside.orders c.enter.new.self c.row_of.ensures.grown c.self.invariant c.in_ok-row.ensures.named c.in_ok-row.ensures.asked
    (c.requires.next ∙ ap (λ (cs : List CallNow). length cs + 1) (sym c.self.view_is)) c.enter.ensures.small items
    c.in_ok-enter.ensures.deadlines c.in_ok-enter.ensures.txns

pub returns-clause-asked : goal.returns-clause-asked
returns-clause-asked c =
    let items : c.push.new.self.items ≡ c.self.inside.rows.items ++ c.in_ok-row.row ∷ [] =
    c.in_ok-push.ensures.items ∙ ap (λ (rows : List CallRow). rows ++ c.in_ok-row.row ∷ []) c.in_ok-reserve.ensures.items in
    calls_asked c.self.inside.names c.row_of.new.names c.self.inside.rows.items c.push.new.self.items c.in_ok-row.row c.args.opened.now c.row_of.ensures.grown c.self.invariant.named c.in_ok-row.ensures.asked
    (c.requires.next ∙ ap (λ (cs : List CallNow). length cs + 1) (sym c.self.view_is)) items
    ∙ ap (λ (cs : List CallNow). cs ++ record { opened = c.args.opened.now; how = None } ∷ []) c.self.view_is
