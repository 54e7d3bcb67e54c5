use Rattle.std.proofs.Common.{rules, ◌≡◌, arith, false, true}
use Rattle.std.specs.Ordering.{int_eq}
use Rattle.iss_model.specs.Sums.{account_key}
use Rattle.iss_model.specs.state.Kept.{kept_at}
use Rattle.iss_sound_balances.proofs.TakenOut.{differs, ends_so, next_left}
use Rattle.iss_sound_balances.proofs.taken.take_out.Goals as goal

pub returns-then-not-is_owed : goal.returns-then-not-is_owed
returns-then-not-is_owed c =
    let l = c.loop-balance in
    let b = c.balance-item.result in
    let apart : int_eq (kept_at l.owed (account_key b.account)) b.amount ≡ false = search rules in
    differs c.args.balances.now c.args.owed.now l.balance-index b l.owed l.invariant (omega arith) c.balance-item.is apart

pub loop-balance-preserved : goal.loop-balance-preserved
loop-balance-preserved c =
    let l = c.loop-balance in
    let b = c.balance-item.result in
    let same : int_eq (kept_at l.owed (account_key b.account)) b.amount ≡ true = search rules in
    next_left c.args.balances.now c.args.owed.now l.balance-index b l.owed c.put.new.self l.invariant (omega arith) c.balance-item.is same c.in_ok-put.ensures.put

pub returns : goal.returns
returns c =
    let l = c.loop-balance in
    ends_so c.args.balances.now c.args.owed.now l.balance-index l.owed c.owes_nothing.result l.invariant (omega arith) c.owes_nothing.ensures
