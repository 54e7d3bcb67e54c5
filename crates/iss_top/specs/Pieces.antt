-- The piece of the input at hand, and taking the next one.
use Rattle.std.specs.Prelude.{◌≡◌, ℕ, ◌+◌, ◌-◌, ◌≤◌, ◌↔◌, Bool, false, List, [], length, take}
use Rattle.iss_edge.specs.World.{World}
use Rattle.iss_model.specs.declared.limits.TheConstants.{MOST_INPUT}
use Rattle.iss_top.specs.declared.stop.Stop.{Stop}
use Rattle.iss_top.specs.declared.stop.Stop.TheVariants as stop
use Rattle.iss_top.specs.declared.piece.Pieces.{Pieces}
use Rattle.iss_top.specs.declared.piece.TheConstants.{PIECE}
use Rattle.iss_top.specs.Reader.{slice_of, OnlyTakesIn}

-- the piece has its size, what was read of it was taken, and no more was taken in all than may be
pub record ArePieces (p : Pieces) : Type 0 where
  pub size : length p.bytes.items ≡ PIECE
  pub order : p.next ≤ p.filled
  pub within : p.filled ≤ PIECE
  pub limit : p.taken ≤ MOST_INPUT

-- the bytes that weren't read yet
abbrev pub unread_of : Pieces → List ℕ
unread_of p = slice_of p.bytes.items p.next p.filled

-- nothing was taken yet
pub record AreFresh (p : Pieces) : Type 0 where
  pub fit : ArePieces p
  pub next : p.next ≡ 0
  pub filled : p.filled ≡ 0
  pub taken : p.taken ≡ 0

-- Another piece was taken, and nothing of it is read; or the input has ended.
pub record TakesMore (more : Bool) (before now : Pieces) (a b : World) : Type 0 where
  pub takes : OnlyTakesIn (unread_of now) a b
  pub count : now.taken ≡ before.taken + length (unread_of now)
  pub over : more ≡ false → (unread_of now ≡ []) × (b.left 0 ≡ [])

-- No byte was taken that the input may have after this many. The take failed, or the one byte came that makes the input too long.
pub record TakesNoMore (taken : ℕ) (why : Stop) (a b : World) : Type 0 where
  pub took : List ℕ
  pub takes : OnlyTakesIn took a b
  pub none : take (MOST_INPUT - taken) took ≡ []
  pub long : (why ≡ stop.InputLong) ↔ (taken + length took ≡ MOST_INPUT + 1)
  pub bound : taken + length took ≤ MOST_INPUT + 1
