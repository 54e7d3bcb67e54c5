use Rattle.std.proofs.Common.{◌≡◌, ◌∙◌, rules}
use Rattle.std.proofs.lemmas.Result.{IfOk-weaker}
use Rattle.iss_restored.proofs.AtOnce.{chain_so, restorable_so, saldos_so}
use Rattle.iss_restored.proofs.chain.chain_again.Goals as goal

pub with_txns-requires : goal.with_txns-requires
with_txns-requires c =
    let txns : c.deref.result.now ≡ c.args.state.now.txns = search rules in
    restorable_so c.args.state.now c.requires.sound c.in_ok-chain.chain c.args.txns.now c.deref.result.now c.in_ok-chain.ensures
    c.requires.begun txns

pub with_balances-requires : goal.with_balances-requires
with_balances-requires c =
    let balances : c.deref-2.result.now ≡ c.args.state.now.balances = search rules in
    saldos_so c.args.state.now c.requires.sound c.deref-2.result.now balances

pub returns : goal.returns
returns c =
    let txns : c.deref.result.now ≡ c.args.state.now.txns = search rules in
    let balances : c.deref-2.result.now ≡ c.args.state.now.balances = search rules in
    IfOk-weaker c.with_balances.result _ _
    (λ made is.
    is
    ∙ chain_so c.args.state.now c.requires.sound c.in_ok-chain.chain c.in_ok-taken.taken c.args.txns.now c.deref.result.now
    c.deref-2.result.now c.in_ok-chain.ensures c.requires.begun txns balances c.in_ok-taken.ensures)
    c.with_balances.ensures
