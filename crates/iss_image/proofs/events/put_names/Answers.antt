use Rattle.iss_model.specs.Inputs.{with_length}
use Rattle.iss_image.proofs.AlongPlaces.{put_next}
use Rattle.iss_image.proofs.events.put_names.Goals as goal

pub loop-place-preserved : goal.loop-place-preserved
loop-place-preserved c =
    put_next with_length c.args.out.now.items c.loop-place.out.items c.put_token.new.out.items c.args.names.now c.loop-place.place c.at.result.now c.at.ensures
    c.loop-place.invariant c.in_ok-put_token.ensures.spelled
