use Rattle.std.proofs.Common.{◌≡◌, ℕ, List, Option, true, subst, rules}
use Rattle.std.specs.Prelude.{IfOk}
use Rattle.iss_model.specs.declared.currency.Currency.{Currency}
use Rattle.iss_codec.specs.Places.{take_place}
use Rattle.iss_codec.specs.Taking.{take_number}
use Rattle.iss_image_lists.specs.Readers.{taken_things}
use Rattle.iss_image_lists.specs.Taking.{take_notices}
use Rattle.iss_image.specs.Lookups.{is_zero_taken, holder_in, holder_among}
use Rattle.iss_image.proofs.NoNotices.{no_notices}
use Rattle.iss_image.proofs.reading.take_their_notices.Goals as goal

pub returns-then-has_no_thing : goal.returns-then-has_no_thing
returns-then-has_no_thing c =
    let none : is_zero_taken (take_number 4 c.args.reader.now.bytes.now) ≡ true = search rules in
    subst (λ t. IfOk c.take_notices.result (λ found. taken_things found c.take_notices.new.reader.bytes.now ≡ t))
    (no_notices (take_place c.args.tokens.now) (holder_among c.none.result.purchases c.none.result.cards) (holder_in c.args.events.now) c.args.reader.now.bytes.now none)
    c.take_notices.ensures.read

pub returns : goal.returns
returns c =
    subst (λ (holder_of : List ℕ → Option (List ℕ × Currency)). IfOk c.take_notices-2.result (λ found. taken_things found c.take_notices-2.new.reader.bytes.now ≡ take_notices (take_place c.args.tokens.now) holder_of c.args.reader.now.bytes.now))
    c.in_ok-holders.ensures c.take_notices-2.ensures.read
