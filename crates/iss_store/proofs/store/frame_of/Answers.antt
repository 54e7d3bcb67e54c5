use Rattle.std.proofs.Common.{◌≡◌, ◌++◌, rules}
use Rattle.iss_journal.specs.Region.{no_length}
use Rattle.iss_model.specs.texts.Spelling.{spelling}
use Rattle.iss_store.proofs.Framing.{begun_some, begun_most}
use Rattle.iss_store.proofs.store.frame_of.Goals as goal

pub close-requires-clause-some : goal.close-requires-clause-some
close-requires-clause-some c =
    let spelled : c.put_record.new.out.items ≡ no_length ++ spelling c.args.accepted.now = search rules in
    begun_some c.args.accepted.now c.put_record.new.out.items c.requires.input_form c.in_ok-put_record.ensures.tokens spelled

pub close-requires-clause-most : goal.close-requires-clause-most
close-requires-clause-most c =
    let spelled : c.put_record.new.out.items ≡ no_length ++ spelling c.args.accepted.now = search rules in
    begun_most c.args.accepted.now c.put_record.new.out.items c.requires.input_form c.in_ok-put_record.ensures.tokens spelled
