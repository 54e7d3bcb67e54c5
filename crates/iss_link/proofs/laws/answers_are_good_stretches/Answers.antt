use Rattle.iss_link.proofs.Listening.{closing_goes_on}
use Rattle.iss_link.proofs.laws.answers_are_good_stretches.Goals as goal

pub returns : goal.returns
returns g c = λ ch said j level shows. closing_goes_on g.S.Showing.starts g.S.Showing.stands j level ch said shows
