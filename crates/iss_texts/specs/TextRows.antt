-- Texts, kept in one row of bytes with the places where they end.
use Rattle.std.specs.Prelude.{map, ◌≡◌, ℕ, ◌+◌, ◌-◌, ◌≤◌, List, [], ◌∷◌, ◌++◌, length, take, drop}
use Rattle.std.specs.List.{concat}
use Rattle.iss_model.specs.declared.entry.Entry.{Entry}
use Rattle.iss_model.specs.run.Sayings.{Said, said_by}
use Rattle.iss_model.specs.run.Transcripts.{said_text_at}
use Rattle.iss_texts.specs.declared.row.Texts.{Texts}

-- where texts end that follow one another from this place on
abbrev pub ends_of : ℕ → List (List ℕ) → List ℕ
ends_of start [] = []
ends_of start (text ∷ texts) = (start + length text) ∷ ends_of (start + length text) texts

-- these texts came after those that were there
pub record Gains (texts : List (List ℕ)) (before after : Texts) : Type 0 where
  pub bytes : after.bytes.items ≡ before.bytes.items ++ concat texts
  pub ends : after.ends.items ≡ before.ends.items ++ ends_of (length before.bytes.items) texts

-- there is no text
pub record HasNone (t : Texts) : Type 0 where
  pub bytes : t.bytes.items ≡ []
  pub ends : t.ends.items ≡ []

-- there are these texts alone
pub record HasAll (texts : List (List ℕ)) (t : Texts) : Type 0 where
  pub bytes : t.bytes.items ≡ concat texts
  pub ends : t.ends.items ≡ ends_of 0 texts

-- this holds of the texts that are there
abbrev pub OfTexts : Texts → (List (List ℕ) → Type 0) → Type 0
OfTexts t P = (texts : List (List ℕ)) → HasAll texts t → P texts

-- the texts that end at these places, the first of which begins here
abbrev pub cut_at : ℕ → List ℕ → List ℕ → List (List ℕ)
cut_at start bytes [] = []
cut_at start bytes (end ∷ ends) = take (end - start) (drop start bytes) ∷ cut_at end bytes ends

-- each of these places is at or after the one before it, and within this number of bytes
abbrev pub AreEnds : ℕ → ℕ → List ℕ → Type 0
AreEnds start size [] = Unit {0}
AreEnds start size (end ∷ ends) = (start ≤ end) × ((end ≤ size) × AreEnds end size ends)

-- the texts of what is said, at an instance
abbrev pub said_texts : ℕ → List Said → List (List ℕ)
said_texts instance said = map (said_text_at instance) said

-- the texts that an entry goes out with, at an instance
abbrev pub entry_texts_at : ℕ → Entry → List (List ℕ)
entry_texts_at instance e = said_texts instance (said_by e)
