use Rattle.iss_snapshot.proofs.Histories.{equally_many, image_of_some, sound_image}
use Rattle.iss_snapshot.proofs.laws.histories_have_images.Goals as goal

pub returns-clause-sound : goal.returns-clause-sound
returns-clause-sound c = sound_image

pub returns-clause-of_some : goal.returns-clause-of_some
returns-clause-of_some c = image_of_some

pub returns-clause-counts : goal.returns-clause-counts
returns-clause-counts c = equally_many
