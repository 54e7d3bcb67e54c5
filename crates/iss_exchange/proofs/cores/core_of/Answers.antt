use Rattle.std.proofs.Common.{arith, take}
use Rattle.iss_model.specs.declared.input.Record.{Record}
use Rattle.iss_model.specs.Forms.{is_in_form, is_stamp}
use Rattle.iss_exchange.proofs.Following.{next_here, passes_here, room_here, stands_here}
use Rattle.iss_exchange.proofs.cores.core_of.Goals as goal

pub step-requires-clause-next : goal.step-requires-clause-next
step-requires-clause-next c =
    next_here c.loop-record.core c.args.records.now c.loop-record.record-index c.record-item.result c.loop-record.invariant c.requires.legal (omega arith) c.record-item.is

pub step-requires-clause-input_form : goal.step-requires-clause-input_form
step-requires-clause-input_form c =
    passes_here (λ (r : Record). is_in_form r.input) c.args.records.now c.loop-record.record-index c.record-item.result c.requires.form (omega arith) c.record-item.is

pub step-requires-clause-stamp_form : goal.step-requires-clause-stamp_form
step-requires-clause-stamp_form c =
    passes_here (λ (r : Record). is_stamp r.at) c.args.records.now c.loop-record.record-index c.record-item.result c.requires.stamps (omega arith) c.record-item.is

pub step-requires-clause-room : goal.step-requires-clause-room
step-requires-clause-room c =
    room_here c.loop-record.core c.args.records.now c.loop-record.record-index c.loop-record.invariant (omega arith) c.requires.room

pub loop-record-preserved : goal.loop-record-preserved
loop-record-preserved c =
    stands_here c.in_ok-next.next c.args.records.now c.loop-record.record-index c.record-item.result
    (c.in_ok-next.ensures.on_book (take c.loop-record.record-index c.args.records.now) c.loop-record.invariant).stands (omega arith) c.record-item.is
