use Rattle.std.proofs.Common.{◌≡◌, ◌-◌, ◌∙◌, ◌++◌, length, drop, rules}
use Rattle.std.specs.Int.{w32, to_be_bytes}
use Rattle.iss_journal.specs.declared.layout.TheConstants.{LENGTH}
use Rattle.iss_journal.proofs.Frames.{closed}
use Rattle.iss_journal.proofs.frame.Frame.close.Goals as goal

pub returns : goal.returns
returns c =
    let size : c.args.bytes.len ≡ length c.args.bytes.items = search rules in
    let written : c.write_length.new.bytes ≡ to_be_bytes w32 (c.args.bytes.len - 4) ++ drop LENGTH c.args.bytes.items = search rules in
    c.in_ok-push.ensures.items ∙ closed c.args.bytes.items c.write_length.new.bytes c.args.bytes.len c.requires.some size written
