-- Records as a list, each with what it made, and what bringing an archive up to date from them leaves.
use Rattle.std.specs.Prelude.{◌≡◌, ◌⊎◌, ◌++◌, ◌≤◌, ◌<◌, ◌==◌, ◌&&◌, ◌^◌, ℕ, ◌+◌, Bool, true, false, List, [], ◌∷◌, length, Option, Result, Ok, Err}
use Rattle.std.specs.List.{list_all}
use Rattle.iss_model.specs.declared.input.Record.{Record}
use Rattle.iss_archive.specs.declared.source.Stepped.{Stepped}
use Rattle.iss_archive.specs.declared.post.Head.{Head}
use Rattle.iss_archive.specs.declared.archiving.ArchiveFault.{ArchiveFault}
use Rattle.iss_archive.specs.declared.archiving.ArchiveFault.TheVariants.{Gap, Strange, Keeper, OutOfMemory}
use Rattle.iss_archive.specs.Archived.{Archived, Same, records_in, posts_in}
use Rattle.iss_archive.specs.Archiving.{has_plain_post, is_foreign, IsStepOf, head_next}
use Rattle.iss_archive.specs.Runs.{KeepsUp, IsUpToDate, LeavesFirst}

-- the record has the next number after n, and no post of it goes between two currencies
abbrev pub is_next : ℕ → Stepped → Bool
is_next n s = (s.number == n + 1) && list_all has_plain_post s.entries.items

-- each record is next after those before it
abbrev pub are_next : ℕ → List Stepped → Bool
are_next n [] = true
are_next n (s ∷ steps) = is_next n s && are_next (n + 1) steps

-- these are the records after the first ones, to the last, each with what it made
abbrev pub AreStepsOf : List Record → ℕ → List Stepped → Type 0
AreStepsOf rs place [] = length rs ≡ place
AreStepsOf rs place (s ∷ steps) = IsStepOf rs place s × AreStepsOf rs (place + 1) steps

-- whichever records these are steps of: the archive of the first ones stays one, of as many or more
abbrev pub KeepsSteps : ℕ → ℕ → List Stepped → Option Archived → Option Archived → Type 0
KeepsSteps instance point steps was now = (rs : List Record) → AreStepsOf rs point steps → KeepsUp instance rs was now

-- and becomes that of all
abbrev pub CompletesSteps : ℕ → ℕ → List Stepped → Option Archived → Option Archived → Type 0
CompletesSteps instance point steps was now = (rs : List Record) → AreStepsOf rs point steps → IsUpToDate instance rs was now

-- and a stop leaves the archive of the first ones
abbrev pub LeavesSteps : ℕ → ℕ → List Stepped → Option Archived → (Archived → Type 0) → (Archived → Type 0) → Type 0
LeavesSteps instance point steps was left_was left_now =
    (rs : List Record) → AreStepsOf rs point steps → LeavesFirst instance rs was left_was left_now

-- The head is of this device and of no more records than there are, and the next record can be had.
pub record IsBehind (instance point count : ℕ) (a : Archived) : Type 0 where
  pub own : is_foreign instance count a.head ≡ false
  pub near : point ≤ records_in a.head

-- it is of this device, but the next record can't be had any more
pub record IsTooFar (instance point count : ℕ) (a : Archived) : Type 0 where
  pub own : is_foreign instance count a.head ≡ false
  pub gap : records_in a.head < point

-- with the postings of the next of these records there would be more than can be counted
pub record WouldPass (instance point : ℕ) (steps : List Stepped) (a : Archived) : Type 0 where
  pub before : List Stepped
  pub next : Stepped
  pub after : List Stepped
  pub cut : steps ≡ before ++ next ∷ after
  pub here : point + length before ≡ records_in a.head
  pub posts : 2 ^ 63 ≤ (head_next instance a.head next).posts

-- all are archived now: no record was added, or the postings can be counted
pub record IsAllOf (count : ℕ) (head : Option Head) (a b : Archived) : Type 0 where
  pub held : b.head ≡ head
  pub few : (records_in a.head ≡ count) ⊎ (posts_in head < 2 ^ 63)

-- nothing was changed, since the head is of another device or of more records
pub record IsOfOther (instance count : ℕ) (a b : Archived) : Type 0 where
  pub same : Same a b
  pub other : is_foreign instance count a.head ≡ true

-- the records before one that can't be counted were added
pub record IsFilled (instance point count : ℕ) (steps : List Stepped) (a b : Archived) : Type 0 where
  pub behind : IsBehind instance point count a
  pub full : WouldPass instance point steps b

-- Why an archiving ended so, by what was held at the start and at the end.
abbrev pub IsCalledFor : ℕ → ℕ → ℕ → List Stepped → Result (Option Head) ArchiveFault → Archived → Archived → Type 0
IsCalledFor instance point count steps (Ok head) a b = IsBehind instance point count a × IsAllOf count head a b
IsCalledFor instance point count steps (Err Gap) a b = Same a b × IsTooFar instance point count a
IsCalledFor instance point count steps (Err Strange) a b = IsOfOther instance count a b ⊎ IsFilled instance point count steps a b
IsCalledFor instance point count steps (Err Keeper) a b = Unit {0}
IsCalledFor instance point count steps (Err OutOfMemory) a b = Unit {0}
