use Rattle.std.proofs.Common.{subst}
use Rattle.iss_exchange.specs.Standing.{shown}
use Rattle.iss_exchange.specs.Values.{IsReached}
use Rattle.iss_exchange.proofs.Meeting.{asked_told, calls_few, calls_numbered, empty_so, meets_so, noted_told, voided_told}
use Rattle.iss_exchange.proofs.Reaching.{reached_orderly}
use Rattle.iss_exchange.proofs.exchange.Exchange.gap.Goals as goal

pub calls_of-requires-clause-numbered : goal.calls_of-requires-clause-numbered
calls_of-requires-clause-numbered c =
    let orderly = reached_orderly (shown c.self.inside.sides) c.self.invariant.1 in
    calls_numbered c.self.inside.sides.core c.self.inside.sides.records.items c.self.invariant.0.core orderly.legal orderly.form

pub calls_of-requires-clause-few : goal.calls_of-requires-clause-few
calls_of-requires-clause-few c =
    let orderly = reached_orderly (shown c.self.inside.sides) c.self.invariant.1 in
    calls_few c.self.inside.sides.core c.self.inside.sides.records.items c.self.invariant.0.core orderly.legal orderly.room

pub returns-clause-asked : goal.returns-clause-asked
returns-clause-asked c =
    asked_told c.self.inside.sides c.args.self.now c.args.currency c.in_ok-opened.opened.items c.deref.result.now c.in_ok-asked.asked
    c.self.invariant.0 c.self.view_is c.in_ok-opened.ensures.value c.deref.ensures.value c.in_ok-asked.ensures

pub returns-clause-voided : goal.returns-clause-voided
returns-clause-voided c =
    voided_told c.self.inside.sides c.args.self.now c.args.currency c.in_ok-calls.calls.items c.deref-2.result.now c.in_ok-pending.pending.items c.deref-3.result.now c.in_ok-voided.voided
    c.self.invariant.0 c.self.view_is c.in_ok-calls.ensures c.in_ok-pending.ensures.value c.deref-2.ensures.value c.deref-3.ensures.value c.in_ok-voided.ensures

pub returns-clause-noted : goal.returns-clause-noted
returns-clause-noted c =
    noted_told c.self.inside.sides c.args.self.now c.args.currency c.in_ok-pending.pending.items c.deref-4.result.now c.in_ok-noted.noted
    c.self.invariant.0 c.self.view_is c.in_ok-pending.ensures.value c.deref-4.ensures.value c.in_ok-noted.ensures

pub returns-clause-meets : goal.returns-clause-meets
returns-clause-meets c = meets_so c.args.self.now c.args.currency _ (subst IsReached c.self.view_is c.self.invariant.1) (returns-clause-asked c) (returns-clause-voided c) (returns-clause-noted c)

pub returns-clause-settled : goal.returns-clause-settled
returns-clause-settled c = empty_so c.args.self.now c.args.currency _ (subst IsReached c.self.view_is c.self.invariant.1) (returns-clause-asked c) (returns-clause-voided c) (returns-clause-noted c)
