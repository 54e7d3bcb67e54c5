-- Fields in a row: plain numbers among them, and what comes before and after each.
use Rattle.std.proofs.Common.{◌≡◌, List, ℕ, ◌++◌, append_assoc}
use Rattle.iss_model.specs.texts.Spelling.{number_bytes}
use Rattle.iss_codec.specs.Taking.{take_number}
use Rattle.iss_codec.proofs.NumberBytes.{wide_4, wide_8}
use Rattle.iss_codec.proofs.TakenFields.{IsField, number_field}
use Rattle.iss_image_lists.specs.Forms.{has_room}
pub use Rattle.iss_codec.proofs.TakenChoices.{byte_before, at_byte}
pub use Rattle.iss_image_lists.proofs.Steps.{step, start, again_step}

-- a number of four bytes
pub u32_field : IsField (take_number 4) (number_bytes 4) (has_room 4)
u32_field = number_field 4 _ wide_4

-- a number of eight bytes
pub u64_field : IsField (take_number 8) (number_bytes 8) (has_room 8)
u64_field = number_field 8 _ wide_8

-- texts in a row, the first one apart

pub grouped_4 : (a b c d r : List ℕ) → (((a ++ b) ++ c) ++ d) ++ r ≡ a ++ (b ++ (c ++ (d ++ r)))
grouped_4 a b c d r = simp append_assoc

pub grouped_5 : (a b c d e r : List ℕ) → ((((a ++ b) ++ c) ++ d) ++ e) ++ r ≡ a ++ (b ++ (c ++ (d ++ (e ++ r))))
grouped_5 a b c d e r = simp append_assoc

pub grouped_6 : (a b c d e f r : List ℕ) → (((((a ++ b) ++ c) ++ d) ++ e) ++ f) ++ r ≡ a ++ (b ++ (c ++ (d ++ (e ++ (f ++ r)))))
grouped_6 a b c d e f r = simp append_assoc
