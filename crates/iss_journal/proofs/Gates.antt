-- What a write after a gate, or over it, leaves of the records before it.
use Rattle.std.proofs.Common.{◌≡◌, ℕ, ◌+◌, ◌<◌, ◌≤◌, List, [], ◌∷◌, ◌++◌, length, drop, set, refl, sym, ap, ◌∙◌, append_assoc, arith, length-append, drop-drop}
use Rattle.std.proofs.lemmas.List.{take_at, drop_at, set_at, length-set}
use Rattle.iss_edge.specs.Disk.{splice}
use Rattle.iss_edge.proofs.Splices.{length-spliced}
use Rattle.iss_journal.specs.Region.{Region, IsBody, body_with_length, append_bytes, bytes_before_gate, EndsWith, LeavesBehind}
use Rattle.iss_journal.proofs.Records.{front-push, are_bodies-push, length-spelled, length-behind}

-- bytes put right after a prefix
pub splice_at : (prefix new tail : List ℕ) (at : ℕ) → length prefix ≡ at → splice at new (prefix ++ tail) ≡ prefix ++ (new ++ drop (length new) tail)
splice_at prefix new tail at here =
    let back : drop (at + length new) (prefix ++ tail) ≡ drop (length new) tail =
    sym (drop-drop (length new) at (prefix ++ tail)) ∙ ap (λ (l : List ℕ). drop (length new) l) (drop_at prefix tail at here) in
    ap (λ (l : List ℕ). l ++ new ++ drop (at + length new) (prefix ++ tail)) (take_at prefix tail at here)
    ∙ ap (λ (l : List ℕ). prefix ++ new ++ l) back
    ∙ append_assoc prefix new (drop (length new) tail)

-- a closed gate ends the records, whatever is written after it
pub splice_behind : (region : Region) (bodies : List (List ℕ)) (gate : ℕ) (new rest image : List ℕ) → length (bytes_before_gate region bodies) ≡ gate → gate + 1 + length new ≤ region.to → EndsWith region bodies 0 rest image → EndsWith region bodies 0 (new ++ drop (length new) rest) (splice (gate + 1) new image)
splice_behind region bodies gate new rest image here room ends =
    let prefix = bytes_before_gate region bodies in
    let longer : length (prefix ++ 0 ∷ []) ≡ gate + 1 = omega (arith, length-append prefix (0 ∷ []), here) in
    record {
      whole = length-spliced (gate + 1) new image (omega (arith, room, ends.whole, ends.inside)) ∙ ends.whole;
      inside = ends.inside;
      sound = ends.sound;
      within = ends.within;
      is =
          ap (λ (l : List ℕ). splice (gate + 1) new l) (ends.is ∙ sym (append_assoc prefix (0 ∷ []) rest))
          ∙ splice_at (prefix ++ 0 ∷ []) new rest (gate + 1) longer
          ∙ append_assoc prefix (0 ∷ []) (new ++ drop (length new) rest);
    }

-- another gate in the place of the end gate
pub splice_gate : (region : Region) (bodies : List (List ℕ)) (gate old new : ℕ) (rest image : List ℕ) → length (bytes_before_gate region bodies) ≡ gate → EndsWith region bodies old rest image → EndsWith region bodies new rest (splice gate (new ∷ []) image)
splice_gate region bodies gate old new rest image here ends =
    record {
      whole = length-spliced gate (new ∷ []) image (omega (arith, here, ends.within, ends.whole, ends.inside)) ∙ ends.whole;
      inside = ends.inside;
      sound = ends.sound;
      within = ends.within;
      is =
          ap (λ (l : List ℕ). splice gate (new ∷ []) l) ends.is
          ∙ splice_at (bytes_before_gate region bodies) (new ∷ []) (old ∷ rest) gate here;
    }

pub set_gate : (region : Region) (bodies : List (List ℕ)) (old new : ℕ) (rest image : List ℕ) → EndsWith region bodies old rest image → EndsWith region bodies new rest (set image (length (bytes_before_gate region bodies)) new)
set_gate region bodies old new rest image ends =
    let prefix = bytes_before_gate region bodies in
    record {
      whole = length-set image (length prefix) new ∙ ends.whole;
      inside = ends.inside;
      sound = ends.sound;
      within = ends.within;
      is = ap (λ (l : List ℕ). set l (length prefix) new) ends.is ∙ set_at prefix old rest new (length prefix) refl;
    }

-- a record after an open gate is shown
pub gate_open : (region : Region) (bodies : List (List ℕ)) (body rest image : List ℕ) → IsBody body → length (bytes_before_gate region bodies) + length (append_bytes body) < region.to → EndsWith region bodies 1 (append_bytes body ++ rest) image → EndsWith region (bodies ++ body ∷ []) 0 rest image
gate_open region bodies body rest image is_body room ends =
    let prefix = bytes_before_gate region bodies in
    let more : length (bytes_before_gate region (bodies ++ body ∷ [])) ≡ length prefix + (1 + length (body_with_length body)) =
    omega (arith, ap length (front-push region bodies body), length-append prefix (1 ∷ body_with_length body)) in
    record {
      whole = ends.whole;
      inside = ends.inside;
      sound = are_bodies-push bodies body ends.sound is_body;
      within = omega (arith, more, room, length-behind body, length-spelled body);
      is =
          ends.is
          ∙ ap (λ (l : List ℕ). prefix ++ 1 ∷ l) (append_assoc (body_with_length body) (0 ∷ []) rest)
          ∙ sym (append_assoc prefix (1 ∷ body_with_length body) (0 ∷ rest))
          ∙ ap (λ (l : List ℕ). l ++ 0 ∷ rest) (sym (front-push region bodies body));
    }

-- a record after a gate that is not open is left there
pub gate_shut : (region : Region) (bodies : List (List ℕ)) (body : List ℕ) (gate : ℕ) (rest image : List ℕ) → (gate ≡ 1 → ⊥) → IsBody body → length (bytes_before_gate region bodies) + length (append_bytes body) < region.to → EndsWith region bodies gate (append_bytes body ++ rest) image → LeavesBehind region bodies body image
gate_shut region bodies body gate rest image shut is_body room ends =
    record {
      shows = record { gate = gate; shut = shut; rest = append_bytes body ++ rest; ends = ends };
      opened = record {
        rest = rest;
        ends =
            gate_open region bodies body rest (set image (length (bytes_before_gate region bodies)) 1) is_body room (set_gate region bodies gate 1 (append_bytes body ++ rest) image ends);
      };
    }

-- the one byte of a list of length 1
pub one_byte : (torn : List ℕ) → length torn ≡ 1 → (byte : ℕ) × (torn ≡ byte ∷ [])
one_byte [] e = absurd (omega (arith, e))
one_byte (byte ∷ []) e = (byte, refl)
one_byte (byte ∷ b ∷ more) e = absurd (omega (arith, e))
