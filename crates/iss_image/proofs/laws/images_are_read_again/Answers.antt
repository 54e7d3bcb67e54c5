use Rattle.iss_image.proofs.StateFields.{spelled_takes}
use Rattle.iss_image.proofs.laws.images_are_read_again.Goals as goal

pub returns-clause-back : goal.returns-clause-back
returns-clause-back c = λ bytes s fits h. spelled_takes bytes s fits h
