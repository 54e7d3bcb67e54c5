-- What a reader of lines has at hand, and how a line ends in the piece.
use Rattle.std.specs.Prelude.{◌≡◌, ℕ, ◌+◌, ◌≤◌, ◌==◌, List, length, take, drop, fold, if◌then◌else◌}
use Rattle.iss_top.specs.declared.piece.TheConstants.{PIECE}
use Rattle.iss_top.specs.declared.reader.AtHand.{AtHand}
use Rattle.iss_top.specs.Lines.{kept_with}
use Rattle.iss_top.specs.Reader.{ReaderNow, slice_of, line_at_hand}
use Rattle.iss_top.specs.Pieces.{ArePieces, unread_of}

-- the line lies in the piece
pub record IsAtHand (h : AtHand) : Type 0 where
  pub pieces : ArePieces h.pieces
  pub order : h.start ≤ h.end
  pub within : h.end ≤ PIECE

-- the line at hand
abbrev pub line_of : AtHand → List ℕ
line_of h = line_at_hand h.kept (slice_of h.pieces.bytes.items h.start h.end)

-- what contracts see of it
abbrev pub seen_reader : AtHand → ReaderNow
seen_reader h = record { taken = h.pieces.taken; unread = unread_of h.pieces; line = line_of h; ended = h.ended }

-- the line once its last bytes came: they are all of it if none of it was kept
abbrev pub line_with : List ℕ → List ℕ → List ℕ
line_with kept last = if length kept == 0 then last else fold kept_with kept last

-- the line ends after this many bytes, before the byte that is passed over
pub record EndsLine (at : ℕ) (before now : AtHand) : Type 0 where
  pub taken : now.pieces.taken ≡ before.pieces.taken
  pub unread : unread_of now.pieces ≡ drop (at + 1) (unread_of before.pieces)
  pub line : line_of now ≡ line_with before.kept (take at (unread_of before.pieces))
  pub ended : now.ended ≡ before.ended
