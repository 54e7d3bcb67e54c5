-- A journal on a region of a device: records after gates, and what a device shows of them.
use Rattle.std.specs.Prelude.{◌≡◌, ◌⊎◌, ℕ, ◌+◌, ◌<◌, ◌≤◌, List, [], ◌∷◌, ◌++◌, length, take, slice_set}
use Rattle.std.specs.Int.{w32, to_be_bytes}
use Rattle.iss_journal.specs.declared.layout.TheConstants.{HEAD, LONGEST_BODY}

-- where a journal stands: the bytes below it, the place where its region ends, and the size of the device
pub record Region : Type 0 where
  pub below : List ℕ
  pub to : ℕ
  pub size : ℕ

-- a record's body has 1 to 8192 bytes
pub record IsBody (body : List ℕ) : Type 0 where
  pub some : 1 ≤ length body
  pub most : length body ≤ LONGEST_BODY

-- each of these is a record's body
abbrev pub AreBodies : List (List ℕ) → Type 0
AreBodies [] = Unit {0}
AreBodies (body ∷ bodies) = IsBody body × AreBodies bodies

-- a body after its length in four bytes, the highest first
abbrev pub body_with_length : List ℕ → List ℕ
body_with_length body = to_be_bytes w32 (length body) ++ body

-- the room that a length takes before its body is known
abbrev pub no_length : List ℕ
no_length = 0 ∷ 0 ∷ 0 ∷ 0 ∷ []

-- what one write puts after the end gate: a record's length and body, and a closed gate after them
abbrev pub append_bytes : List ℕ → List ℕ
append_bytes body = body_with_length body ++ 0 ∷ []

-- how many bytes a record takes after the gate before it, with the closed gate that follows it
abbrev pub frame_size : List ℕ → ℕ
frame_size body = HEAD + length body

-- these records, each after an open gate
abbrev pub frames : List (List ℕ) → List ℕ
frames [] = []
frames (body ∷ bodies) = 1 ∷ (body_with_length body ++ frames bodies)

-- all that stands before the gate after these records
abbrev pub bytes_before_gate : Region → List (List ℕ) → List ℕ
bytes_before_gate region bodies = region.below ++ frames bodies

-- The image is a device of the region's size, with these records, after them this gate within the region, and then the rest.
pub record EndsWith (region : Region) (bodies : List (List ℕ)) (gate : ℕ) (rest image : List ℕ) : Type 0 where
  pub whole : length image ≡ region.size
  pub inside : region.to ≤ region.size
  pub sound : AreBodies bodies
  pub within : length (bytes_before_gate region bodies) < region.to
  pub is : image ≡ bytes_before_gate region bodies ++ gate ∷ rest

-- the image shows these records: after them stands a gate that is not open, and what follows it is not looked at
pub record Shows (region : Region) (bodies : List (List ℕ)) (image : List ℕ) : Type 0 where
  pub gate : ℕ
  pub shut : gate ≡ 1 → ⊥
  pub rest : List ℕ
  pub ends : EndsWith region bodies gate rest image

-- the image shows these records, with an end gate of 0
pub record ShowsClosed (region : Region) (bodies : List (List ℕ)) (image : List ℕ) : Type 0 where
  pub rest : List ℕ
  pub ends : EndsWith region bodies 0 rest image

-- The image shows these records, and this one is left behind. With the end gate made 1 it would show it too, with an end gate of 0.
pub record LeavesBehind (region : Region) (bodies : List (List ℕ)) (body image : List ℕ) : Type 0 where
  pub shows : Shows region bodies image
  pub opened : ShowsClosed region (bodies ++ body ∷ []) (slice_set image (length (bytes_before_gate region bodies)) 1)

-- the image shows these records firmly: its end gate is 0, or one record is left behind
abbrev pub ShowsFirmly : Region → List (List ℕ) → List ℕ → Type 0
ShowsFirmly region bodies image =
    ShowsClosed region bodies image ⊎ ((body : List ℕ) × LeavesBehind region bodies body image)

-- a device shows at most one list of records
abbrev pub ShowsOnce : Type 0
ShowsOnce = (region : Region) (xs ys : List (List ℕ)) (image : List ℕ) → Shows region xs image → Shows region ys image → xs ≡ ys

-- where a stretch of a run starts and ends: the first i of these records, with an end gate of 0
abbrev pub RestsFirst : Region → List (List ℕ) → List ℕ → ℕ → Type 0
RestsFirst region bodies image i = ShowsClosed region (take i bodies) image

-- What a stop may leave within a stretch. It is the first i of these records with an end gate of 0, or with the next of them left behind.
abbrev pub StandsFirst : Region → List (List ℕ) → List ℕ → ℕ → Type 0
StandsFirst region bodies image i =
    ShowsClosed region (take i bodies) image
    ⊎ ((body : List ℕ) × (take (i + 1) bodies ≡ take i bodies ++ body ∷ []) × LeavesBehind region (take i bodies) body image)
