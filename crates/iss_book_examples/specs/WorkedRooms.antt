-- A device in two halves: what is free on it, and the turn that a record needs.
use Rattle.std.specs.Prelude.{ℕ, true, false, List, [], ◌∷◌, replicate, codes, Some}
use Rattle.std.specs.List.{flat_map}
use Rattle.iss_model.specs.declared.decision.Judged.{Judged}
use Rattle.iss_model.specs.declared.decision.Judged.TheVariants as judged
use Rattle.iss_model.specs.declared.decision.Answer.TheVariants as answer
use Rattle.iss_model.specs.declared.input.Input.TheVariants as input
use Rattle.iss_model.specs.declared.input.Record.{Record}
use Rattle.iss_model.specs.run.Rooms.{Room, where_it_fits, judgement_after}

-- the record of a user, which needs 20 bytes
abbrev pub user_record : Record
user_record = record { at = 0; input = input.User (codes "t1") (codes "u1") }

-- A device of 100 bytes in halves of 41. The first is the current one, with no record in its image. Images have these bytes for each record.
abbrev pub two_halves : List ℕ → Room
two_halves for_each = record { halved = true; size = 100; second = false; point = 0; image = flat_map (λ r. for_each) }

-- a byte for each record
abbrev pub byte_each : List ℕ
byte_each = 0 ∷ []

-- 21 bytes for each record
abbrev pub long_each : List ℕ
long_each = replicate 21 0

-- the same device with its second half as the current one, whose image has one record
abbrev pub second_half : Room
second_half = record { halved = true; size = 100; second = true; point = 1; image = flat_map (λ r. byte_each) }

-- what becomes of one more user after these
abbrev pub one_user_more : Room → List Record → Judged
one_user_more room rs = where_it_fits (Some room) rs user_record (judged.New user_record)

-- the answer is how much is free
abbrev pub told_free : ℕ → Judged
told_free free = judged.Told (answer.Full free 20)

-- what becomes of a user's record after this many
abbrev pub user_after : ℕ → Judged
user_after count = judgement_after count (judged.New user_record)
