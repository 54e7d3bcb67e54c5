-- What a scan has read stands on the device.
use Rattle.std.proofs.Common.{◌≡◌, inl, inr, ℕ, ◌+◌, ◌<◌, List, [], ◌∷◌, ◌++◌, length, take, drop, get_or, refl, sym, ap, ◌∙◌, append_assoc, append-nil, add-zero, arith, length-append, drop-drop}
use Rattle.std.specs.Int.{w32, to_be_bytes, from_be_bytes}
use Rattle.std.proofs.lemmas.List.{append_cancel_left, take-append-drop, drop_more, get_or-drop}
use Rattle.std.proofs.lemmas.Nat.{from_be_bytes-to_be_bytes_4}
use Rattle.iss_journal.specs.Place.{Place}
use Rattle.iss_journal.specs.Region.{Region, AreBodies, body_with_length, frame_size, frames, bytes_before_gate, Shows}
use Rattle.iss_journal.specs.Opening.{BadAt}
use Rattle.iss_journal.specs.Reading.{ReadUpTo, BeginsToRead, ReadsOn, ReadsToTheEnd, BadShowsNothing}
use Rattle.iss_journal.proofs.Records.{front-push, are_bodies-push, length-spelled, SameSpelled, same_spelled}

pub begins_to_read : BeginsToRead
begins_to_read region device whole inside within here =
    let nil : bytes_before_gate region [] ≡ region.below = append-nil region.below in
    record {
      whole = whole;
      inside = inside;
      sound = tt;
      end_gate = record { here = ap length nil; to = refl };
      within = within;
      is =
          sym (take-append-drop (length region.below) device)
          ∙ ap (λ (l : List ℕ). l ++ drop (length region.below) device) (here ∙ sym nil);
    }

pub reads_on : ReadsOn
reads_on region bodies body place device read found =
    let prefix = bytes_before_gate region bodies in
    let rest = drop (place.gate + frame_size body) device in
    let longer : length (bytes_before_gate region (bodies ++ body ∷ [])) ≡ place.gate + frame_size body =
    omega (arith, ap length (front-push region bodies body), length-append prefix (1 ∷ body_with_length body), length-spelled body, read.end_gate.here) in
    record {
      whole = read.whole;
      inside = read.inside;
      sound = are_bodies-push bodies body read.sound found.is_body;
      end_gate = record { here = longer; to = read.end_gate.to };
      within = found.room;
      is =
          read.is
          ∙ ap (λ (l : List ℕ). prefix ++ l) found.there
          ∙ sym (append_assoc prefix (1 ∷ body_with_length body) rest)
          ∙ ap (λ (l : List ℕ). l ++ rest) (sym (front-push region bodies body));
    }

-- the gate, and what follows it
gate_and_rest : (region : Region) (bodies : List (List ℕ)) (place : Place) (device : List ℕ) → ReadUpTo region bodies place device → device ≡ bytes_before_gate region bodies ++ get_or device place.gate 0 ∷ drop (place.gate + 1) device
gate_and_rest region bodies place device read =
    let here : place.gate < length device = omega (arith, read.within, read.inside, read.whole, read.end_gate.to) in
    read.is ∙ ap (λ (l : List ℕ). bytes_before_gate region bodies ++ l) (drop_more device place.gate 0 here)

pub reads_to_the_end : ReadsToTheEnd
reads_to_the_end region bodies place device read shut =
    record {
      gate = get_or device place.gate 0;
      shut = shut;
      rest = drop (place.gate + 1) device;
      ends = record {
        whole = read.whole;
        inside = read.inside;
        sound = read.sound;
        within = omega (arith, read.within, read.end_gate.here, read.end_gate.to);
        is = gate_and_rest region bodies place device read;
      };
    }

-- what is left of a list of records after those that it begins with
pub record NextOf (bodies others : List (List ℕ)) (gate : ℕ) (rest tail : List ℕ) : Type 0 where
  pub left : List (List ℕ)
  pub begins : others ≡ bodies ++ left
  sound : AreBodies left
  size : length (frames others) ≡ length (frames bodies) + length (frames left)
  is : tail ≡ frames left ++ gate ∷ rest

length-framed : (body : List ℕ) (bodies : List (List ℕ)) → length (frames (body ∷ bodies)) ≡ frame_size body + length (frames bodies)
length-framed body bodies = omega (arith, length-append (body_with_length body) (frames bodies), length-spelled body)

-- records that stand before an open gate are the first of each list that the device shows
first_of : (bodies others : List (List ℕ)) (gate : ℕ) (rest tail : List ℕ) → AreBodies bodies → AreBodies others → (gate ≡ 1 → ⊥) → frames bodies ++ tail ≡ frames others ++ gate ∷ rest → NextOf bodies others gate rest tail
first_of [] others gate rest tail sound_b sound_o shut e =
    record { left = others; begins = refl; sound = sound_o; size = omega arith; is = e }
first_of (b ∷ bodies) [] gate rest tail sound_b sound_o shut e = let one : gate ≡ 1 = cc in absurd (shut one)
first_of (b ∷ bodies) (o ∷ others) gate rest tail sound_b sound_o shut e =
    let tails : (body_with_length b ++ frames bodies) ++ tail ≡ (body_with_length o ++ frames others) ++ gate ∷ rest = ap (λ (l : List ℕ). drop 1 l) e in
    let grouped : body_with_length b ++ (frames bodies ++ tail) ≡ body_with_length o ++ (frames others ++ gate ∷ rest) =
    sym (append_assoc (body_with_length b) (frames bodies) tail) ∙ tails ∙ append_assoc (body_with_length o) (frames others) (gate ∷ rest) in
    let same : SameSpelled b o (frames bodies ++ tail) (frames others ++ gate ∷ rest) = same_spelled b o (frames bodies ++ tail) (frames others ++ gate ∷ rest) sound_b.0 sound_o.0 grouped in
    let next : NextOf bodies others gate rest tail = first_of bodies others gate rest tail sound_b.1 sound_o.1 shut same.rest in
    record {
      left = next.left;
      begins = ap (λ (x : List ℕ). x ∷ others) (sym same.body) ∙ ap (λ (l : List (List ℕ)). b ∷ l) next.begins;
      sound = next.sound;
      size = omega (arith, next.size, length-framed b bodies, length-framed o others, ap length same.body);
      is = next.is;
    }

-- no record of 1 to 8192 bytes within the region stands after a gate with a wrong length
not_bad : (left : List (List ℕ)) (place : Place) (gate : ℕ) (rest device : List ℕ) → AreBodies left → (gate ≡ 1 → ⊥) → place.gate + length (frames left) < place.to → drop place.gate device ≡ frames left ++ gate ∷ rest → get_or device place.gate 0 ≡ get_or (drop place.gate device) 0 0 → BadAt place device → ⊥
not_bad [] place gate rest device sound shut room is first bad =
    shut (sym (first ∙ ap (λ (l : List ℕ). get_or l 0 0) is) ∙ bad.open_gate)
not_bad (body ∷ left) place gate rest device sound shut room is first bad =
    let more : place.gate + frame_size body < place.to = omega (arith, room, length-framed body left) in
    elim bad.why [
      | inl short ↦ absurd (omega (arith, short, more))
      | inr spelt ↦
          let four : take 4 (drop (place.gate + 1) device) ≡ to_be_bytes w32 (length body) =
          ap (λ (l : List ℕ). take 4 l) (sym (drop-drop 1 place.gate device) ∙ ap (λ (l : List ℕ). drop 1 l) is) in
          let same : spelt.n ≡ length body =
          sym (from_be_bytes-to_be_bytes_4 spelt.n spelt.small)
          ∙ ap (λ (l : List ℕ). from_be_bytes w32 l) (sym spelt.there ∙ four)
          ∙ from_be_bytes-to_be_bytes_4 (length body) (omega (arith, sound.0.most)) in
          elim spelt.wrong [
            | inl none ↦ absurd (omega (arith, none, same, sound.0.some))
            | inr wrong ↦ elim wrong [
              | inl over ↦ absurd (omega (arith, over, same, sound.0.most))
              | inr past ↦ absurd (omega (arith, past, same, more))
            ]
          ]
    ]

-- what was read is the first of what the device shows
pub next_shown : (region : Region) (bodies others : List (List ℕ)) (place : Place) (device : List ℕ) → ReadUpTo region bodies place device → (shows : Shows region others device) → NextOf bodies others shows.gate shows.rest (drop place.gate device)
next_shown region bodies others place device read shows =
    let tail = drop place.gate device in
    let both : bytes_before_gate region bodies ++ tail ≡ bytes_before_gate region others ++ shows.gate ∷ shows.rest = sym read.is ∙ shows.ends.is in
    let grouped : region.below ++ (frames bodies ++ tail) ≡ region.below ++ (frames others ++ shows.gate ∷ shows.rest) =
    sym (append_assoc region.below (frames bodies) tail) ∙ both ∙ append_assoc region.below (frames others) (shows.gate ∷ shows.rest) in
    first_of bodies others shows.gate shows.rest tail read.sound shows.ends.sound shows.shut (append_cancel_left region.below (frames bodies ++ tail) (frames others ++ shows.gate ∷ shows.rest) grouped)

pub bad_shows_nothing : BadShowsNothing
bad_shows_nothing region bodies others place device read bad shows =
    let tail = drop place.gate device in
    let next : NextOf bodies others shows.gate shows.rest tail = next_shown region bodies others place device read shows in
    let room : place.gate + length (frames next.left) < place.to =
    omega (arith, next.size, shows.ends.within, read.end_gate.here, read.end_gate.to, length-append region.below (frames bodies), length-append region.below (frames others)) in
    let first : get_or device place.gate 0 ≡ get_or tail 0 0 = ap (λ (n : ℕ). get_or device n 0) (sym (add-zero place.gate)) ∙ sym (get_or-drop place.gate device 0 0) in
    not_bad next.left place shows.gate shows.rest device next.sound shows.shut room next.is first bad
