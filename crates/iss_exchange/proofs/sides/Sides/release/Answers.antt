use Rattle.std.proofs.Common.{List, ◌++◌, take, ap, arith, ◌∙◌}
use Rattle.std.specs.List.{filter_map}
use Rattle.iss_model.specs.declared.entry.Entry.{Entry}
use Rattle.iss_model.specs.declared.input.Record.{Record}
use Rattle.iss_model.specs.Forms.{is_in_form, is_stamp}
use Rattle.iss_exchange_laws.specs.Messages.{sent_by}
use Rattle.iss_exchange.proofs.Becoming.{released, unreleased}
use Rattle.iss_exchange.proofs.Following.{here_so, next_here, passes_here, room_here}
use Rattle.iss_exchange.proofs.sides.Sides.release.Goals as goal

pub step-requires-clause-next : goal.step-requires-clause-next
step-requires-clause-next c =
    next_here c.args.self.released_core c.args.self.records.items c.args.self.released c.index.result.now c.requires.standing.released_core c.requires.orderly.legal (omega arith) c.index.ensures

pub step-requires-clause-input_form : goal.step-requires-clause-input_form
step-requires-clause-input_form c =
    passes_here (λ (r : Record). is_in_form r.input) c.args.self.records.items c.args.self.released c.index.result.now c.requires.orderly.form (omega arith) c.index.ensures

pub step-requires-clause-stamp_form : goal.step-requires-clause-stamp_form
step-requires-clause-stamp_form c =
    passes_here (λ (r : Record). is_stamp r.at) c.args.self.records.items c.args.self.released c.index.result.now c.requires.standing.stamps (omega arith) c.index.ensures

pub step-requires-clause-room : goal.step-requires-clause-room
step-requires-clause-room c = room_here c.args.self.released_core c.args.self.records.items c.args.self.released c.requires.standing.released_core (omega arith) c.requires.orderly.room

pub returns-then-self-len : goal.returns-then-self-len
returns-then-self-len c = unreleased c.args.self (omega arith) c.requires.standing

pub returns : goal.returns
returns c =
    let rs = c.args.self.records.items in
    let step = c.in_ok-released_core.ensures.on_book (take c.args.self.released rs) c.requires.standing.released_core in
    released c.args.self c.in_ok-released_core.released_core c.put_sent.new.out c.index.result.now c.in_ok-released_core.entries.items
    (here_so rs c.args.self.released c.index.result.now (omega arith) c.index.ensures) c.requires.standing step.stands step.entries
    (c.in_ok-put_sent.ensures ∙ ap (λ (es : List Entry). c.args.self.sent.items ++ filter_map sent_by es) c.deref.ensures.value)
