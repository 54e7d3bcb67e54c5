use Rattle.std.proofs.Common.{◌∙◌}
use Rattle.iss_codec.proofs.FirstPlaces.{position_is}
use Rattle.iss_codec.proofs.places.place_of.Goals as goal

pub returns : goal.returns
returns c = c.first_place.ensures ∙ position_is c.args.token.now c.args.tokens.now
