use Rattle.std.proofs.Common.{◌≡◌, ◌+◌, ◌≤◌, drop}
use Rattle.iss_bounded.specs.Many.{user_accounts}
use Rattle.iss_sound_balances.proofs.listed.user_accounts.Given as goal

-- all are those that were counted with those that are left, and no more were counted than were looked at
abbrev pub invariant-loop-balance : goal.invariant-loop-balance
invariant-loop-balance l = record {
  counted : l.users + user_accounts (drop l.balance-index l.balances) ≡ user_accounts l.balances;
  few : l.users ≤ l.balance-index;
}
