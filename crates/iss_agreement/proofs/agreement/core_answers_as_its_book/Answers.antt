use Rattle.std.proofs.Common.{List, length, ap, ◌∙◌}
use Rattle.iss_model.specs.declared.input.Record.{Record}
use Rattle.iss_model.specs.Sums.{account_key, user_key, part_key, stood_key}
use Rattle.iss_model.specs.rules.Facts.{Facts, reply_in}
use Rattle.iss_model.specs.rules.Asks.{used_in}
use Rattle.iss_model.specs.rules.Histories.{time_of, events_of}
use Rattle.iss_model.specs.state.Cores.{CoreState}
use Rattle.iss_agreement.proofs.CoreOfBook.{core_history, facts_history}
use Rattle.iss_agreement.proofs.Records.{records_history}
use Rattle.iss_agreement.proofs.ReportedAccounts.{accounts_history}
use Rattle.iss_agreement.proofs.agreement.core_answers_as_its_book.Goals as goal

pub returns-clause-records : goal.returns-clause-records
returns-clause-records c = records_history

pub returns-clause-time : goal.returns-clause-time
returns-clause-time c rs = ap (λ (s : CoreState). s.now) (core_history rs) ∙ ap time_of (records_history rs)

pub returns-clause-count : goal.returns-clause-count
returns-clause-count c rs = ap (λ (s : CoreState). s.count) (core_history rs) ∙ ap (λ (rs : List Record). length rs) (records_history rs)

pub returns-clause-events : goal.returns-clause-events
returns-clause-events c rs = ap (λ (s : CoreState). s.accepted) (core_history rs) ∙ ap events_of (records_history rs)

pub returns-clause-reply : goal.returns-clause-reply
returns-clause-reply c rs event = ap (λ (f : Facts). reply_in f event) (facts_history rs)

pub returns-clause-users : goal.returns-clause-users
returns-clause-users c rs = ap (λ (s : CoreState). s.cardholders.users) (core_history rs)

pub returns-clause-cards : goal.returns-clause-cards
returns-clause-cards c rs = ap (λ (s : CoreState). s.cardholders.cards) (core_history rs)

pub returns-clause-products : goal.returns-clause-products
returns-clause-products c rs = ap (λ (s : CoreState). s.products) (core_history rs)

pub returns-clause-groups : goal.returns-clause-groups
returns-clause-groups c rs = ap (λ (s : CoreState). s.groups) (core_history rs)

pub returns-clause-sets : goal.returns-clause-sets
returns-clause-sets c rs = ap (λ (s : CoreState). s.stand_ins.sets) (core_history rs)

pub returns-clause-txns : goal.returns-clause-txns
returns-clause-txns c rs = ap (λ (s : CoreState). s.holdings.txns) (core_history rs)

pub returns-clause-calls : goal.returns-clause-calls
returns-clause-calls c rs = ap (λ (s : CoreState). s.calls) (core_history rs)

pub returns-clause-notices : goal.returns-clause-notices
returns-clause-notices c rs = ap (λ (s : CoreState). s.outbox.made) (core_history rs)

pub returns-clause-pending : goal.returns-clause-pending
returns-clause-pending c rs = ap (λ (s : CoreState). s.outbox.pending) (core_history rs)

pub returns-clause-controls : goal.returns-clause-controls
returns-clause-controls c rs = ap (λ (f : Facts). f.controls) (facts_history rs)

pub returns-clause-used : goal.returns-clause-used
returns-clause-used c rs control user at = ap (λ (f : Facts). used_in f control user at) (facts_history rs)

pub returns-clause-balance : goal.returns-clause-balance
returns-clause-balance c rs a = ap (λ (f : Facts). f.balances (account_key a)) (facts_history rs)

pub returns-clause-accounts : goal.returns-clause-accounts
returns-clause-accounts c = accounts_history

pub returns-clause-held : goal.returns-clause-held
returns-clause-held c rs user currency = ap (λ (f : Facts). f.holds (user_key user currency)) (facts_history rs)

pub returns-clause-part : goal.returns-clause-part
returns-clause-part c rs txn part = ap (λ (f : Facts). f.parts (part_key txn part)) (facts_history rs)

pub returns-clause-cleared : goal.returns-clause-cleared
returns-clause-cleared c rs txn = ap (λ (f : Facts). f.cleared txn) (facts_history rs)

pub returns-clause-refunded : goal.returns-clause-refunded
returns-clause-refunded c rs txn = ap (λ (f : Facts). f.refunded txn) (facts_history rs)

pub returns-clause-paid : goal.returns-clause-paid
returns-clause-paid c rs txn = ap (λ (f : Facts). f.paid txn) (facts_history rs)

pub returns-clause-stood : goal.returns-clause-stood
returns-clause-stood c rs product user at = ap (λ (f : Facts). f.stood (stood_key product user at)) (facts_history rs)
