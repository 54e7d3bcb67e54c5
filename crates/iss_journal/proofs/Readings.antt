-- What a gate, a length and a body are that were read.
use Rattle.std.proofs.Common.{◌≡◌, ℕ, ◌+◌, ◌^◌, ◌<◌, ◌≤◌, List, [], ◌∷◌, inl, inr, length, take, drop, get_or, Option, refl, sym, ap, ◌∙◌, add-zero, arith, drop-drop}
use Rattle.std.specs.Int.{w32, to_be_bytes}
use Rattle.std.proofs.lemmas.List.{get_or-take, get_or-drop, drop-take}
use Rattle.iss_edge.specs.World.{World, Told}
use Rattle.iss_edge.specs.Calls.{Same, Reads}
use Rattle.iss_edge.proofs.Tolds.{told_map}
use Rattle.iss_journal.specs.Opening.{ReadsGate, ReadsHead}

gate_there : (at gate : ℕ) (buf device : List ℕ) → buf ≡ gate ∷ [] → buf ≡ take (length buf) (drop at device) → get_or device at 0 ≡ gate
gate_there at gate buf device is read =
    let one : take 1 (drop at device) ≡ gate ∷ [] = sym (read ∙ ap (λ (l : List ℕ). take (length l) (drop at device)) is) ∙ is in
    let here : get_or (drop at device) 0 0 ≡ gate = sym (get_or-take 1 (drop at device) 0 0 (omega arith)) ∙ ap (λ (l : List ℕ). get_or l 0 0) one in
    ap (λ (n : ℕ). get_or device n 0) (sym (add-zero at)) ∙ sym (get_or-drop at device 0 0) ∙ here

pub reads_gate : (at gate : ℕ) (buf : List ℕ) (x y : Option World) → buf ≡ gate ∷ [] → Told (Reads at buf) x y → Told (ReadsGate at gate) x y
reads_gate at gate buf x y is =
    told_map (Reads at buf) (ReadsGate at gate) x y (λ a b read.
    record { there = gate_there at gate buf a.device is read.bytes_there; same = read.same })

gate_read : (at gate : ℕ) (a b : World) (buf : List ℕ) (rest : List ℕ) → buf ≡ gate ∷ rest → Reads at buf a b → get_or a.device at 0 ≡ gate
gate_read at gate a b buf rest is read =
    let count = length buf in
    let more : 0 < count = omega (arith, ap length is) in
    ap (λ (n : ℕ). get_or a.device n 0) (sym (add-zero at))
    ∙ sym (get_or-drop at a.device 0 0)
    ∙ sym (get_or-take count (drop at a.device) 0 0 more)
    ∙ ap (λ (l : List ℕ). get_or l 0 0) (sym read.bytes_there)
    ∙ ap (λ (l : List ℕ). get_or l 0 0) is

-- the four bytes after a gate
length_read : (at gate n : ℕ) (buf device : List ℕ) → buf ≡ gate ∷ to_be_bytes w32 n → buf ≡ take (length buf) (drop at device) → take 4 (drop (at + 1) device) ≡ to_be_bytes w32 n
length_read at gate n buf device is read =
    let five : take 5 (drop at device) ≡ gate ∷ to_be_bytes w32 n = sym (read ∙ ap (λ (l : List ℕ). take (length l) (drop at device)) is) ∙ is in
    ap (λ (l : List ℕ). take 4 l) (sym (drop-drop 1 at device))
    ∙ sym (drop-take 1 4 (drop at device))
    ∙ ap (λ (l : List ℕ). drop 1 l) five

pub reads_head : (at to gate n : ℕ) (buf : List ℕ) (x y : Option World) → buf ≡ gate ∷ to_be_bytes w32 n → n < 2 ^ 32 → Told (Reads at buf) x y → Told (ReadsHead (record { gate = at; to = to }) gate n) x y
reads_head at to gate n buf x y is small =
    told_map (Reads at buf) (ReadsHead (record { gate = at; to = to }) gate n) x y (λ a b read.
    record {
      there = gate_read at gate a b buf (to_be_bytes w32 n) is read;
      small = small;
      length_there = inr (length_read at gate n buf a.device is read.bytes_there);
      same = read.same;
    })

pub reads_short : (at to gate : ℕ) (x y : Option World) → to ≤ at + 5 → Told (ReadsGate at gate) x y → Told (ReadsHead (record { gate = at; to = to }) gate 0) x y
reads_short at to gate x y short =
    told_map (ReadsGate at gate) (ReadsHead (record { gate = at; to = to }) gate 0) x y (λ a b read.
    record { there = read.there; small = omega arith; length_there = inl (short, refl); same = read.same })

pub read_same : (at : ℕ) (buf : List ℕ) (x y : Option World) → Told (Reads at buf) x y → Told Same x y
read_same at buf x y = told_map (Reads at buf) Same x y (λ a b read. read.same)
