use Rattle.std.proofs.Common.{◌∙◌}
use Rattle.iss_sound_parts.proofs.AskedKnown.{authorization_known}
use Rattle.iss_sound_parts.proofs.asked.Asked.has_authorization.Goals as goal

pub returns-clause-asked : goal.returns-clause-asked
returns-clause-asked c = λ calls known. c.contains_key.ensures ∙ authorization_known calls c.args.self.now known c.args.txn.now
