use Rattle.std.proofs.Common.{◌∙◌, ap, sym}
use Rattle.iss_sound_balances.specs.Listed.{is_named_among}
use Rattle.iss_sound_balances.proofs.KnownUsers.{known_is}
use Rattle.iss_sound_balances.proofs.listed.is_known.Goals as goal

pub returns-in-User : goal.returns-in-User
returns-in-User c =
    let users = c.args.known.now.users in
    c.has_user.ensures ∙ known_is users c.in-User.user c.in-User.field-1 c.text-text.ensures.token ∙ ap (is_named_among users) (sym c.in-User.is)
