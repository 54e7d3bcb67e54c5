-- What a step of a scan finds.
use Rattle.std.proofs.Common.{◌≡◌, ◌⊎◌, inl, inr, ℕ, ◌+◌, ◌-◌, ◌<◌, ◌≤◌, Bool, false, ◌↔◌, IsTrue, List, ◌∷◌, ◌++◌, length, take, drop, get_or, Option, Some, None, Ok, Err, sym, ap, ◌∙◌, subst, append_assoc, arith, drop-drop}
use Rattle.std.specs.Int.{w32, to_be_bytes}
use Rattle.std.proofs.lemmas.List.{take-append-drop, drop_more, get_or_past}
use Rattle.std.proofs.lemmas.Bool.{cases_lt, false≢true}
use Rattle.iss_edge.specs.World.{World, Told}
use Rattle.iss_edge.specs.Calls.{Same, Reads}
use Rattle.iss_edge.proofs.Tolds.{told_map, told_then, same_then}
use Rattle.iss_journal.specs.declared.layout.TheConstants.{LONGEST_BODY, HEAD}
use Rattle.iss_journal.specs.declared.fault.JournalFault.TheVariants.{Disk, BadRecord, OutOfMemory}
use Rattle.iss_journal.specs.Place.{Place}
use Rattle.iss_journal.specs.Region.{IsBody, body_with_length, frame_size}
use Rattle.iss_journal.specs.Opening.{ReadsHead, RecordAt, BadAt, Finds}

pub same_then_told : (x y z : Option World) → Told Same x y → Told Same y z → Told Same x z
same_then_told x y z = told_then Same Same Same x y z same_then

pub head_same : (place : Place) (gate n : ℕ) (x y : Option World) → Told (ReadsHead place gate n) x y → Told Same x y
head_same place gate n x y = told_map (ReadsHead place gate n) Same x y (λ a b head. head.same)

pub body_same : (at : ℕ) (body : List ℕ) (x y : Option World) → Told (Reads at body) x y → Told Same x y
body_same at body x y = told_map (Reads at body) Same x y (λ a b read. read.same)

pub finds_no_memory : (place : Place) (x y : Option World) → Told Same x y → Told (Finds place (Err OutOfMemory)) x y
finds_no_memory place x y = told_map Same (Finds place (Err OutOfMemory)) x y (λ a b same. tt)

pub finds_no_disk : (place : Place) (x y : Option World) → Told Same x y → Told (Finds place (Err Disk)) x y
finds_no_disk place x y = told_map Same (Finds place (Err Disk)) x y (λ a b same. tt)

pub finds_shut : (place : Place) (gate n : ℕ) (x y : Option World) → (gate ≡ 1 → ⊥) → Told (ReadsHead place gate n) x y → Told (Finds place (Ok None)) x y
finds_shut place gate n x y shut =
    told_map (ReadsHead place gate n) (Finds place (Ok None)) x y (λ a b head one. shut (sym head.there ∙ one))

-- a length that no body here may have
wrong_length : (place : Place) (n : ℕ) → ((0 < n) × (n ≤ LONGEST_BODY) × (HEAD + n < place.to - place.gate) → ⊥) → (n ≡ 0) ⊎ (LONGEST_BODY < n) ⊎ (place.to ≤ place.gate + HEAD + n)
wrong_length place n wrong =
    elim (cases_lt 0 n) [
      | inl some ↦ elim (cases_lt LONGEST_BODY n) [
        | inl over ↦ inr (inl over)
        | inr most ↦ elim (cases_lt (HEAD + n) (place.to - place.gate)) [
          | inl room ↦ absurd (wrong (some, most, room))
          | inr past ↦ inr (inr (omega (arith, past)))
        ]
      ]
      | inr none ↦ inl (omega (arith, none))
    ]

bad_at : (place : Place) (n : ℕ) (a b : World) → ((0 < n) × (n ≤ LONGEST_BODY) × (HEAD + n < place.to - place.gate) → ⊥) → ReadsHead place 1 n a b → BadAt place a.device
bad_at place n a b wrong head =
    record {
      open_gate = head.there;
      why = elim head.length_there [
        | inl short ↦ inl short.0
        | inr four ↦ inr (record { n = n; small = head.small; there = four; wrong = wrong_length place n wrong })
      ];
    }

pub finds_wrong : (place : Place) (gate n at : ℕ) (fits : Bool) (x y : Option World) → gate ≡ 1 → fits ≡ false → IsTrue fits ↔ ((0 < n) × (n ≤ LONGEST_BODY) × (HEAD + n < place.to - place.gate)) → Told (ReadsHead place gate n) x y → Told (Finds place (Err (BadRecord at))) x y
finds_wrong place gate n at fits x y one no_fit test head =
    told_map (ReadsHead place 1 n) (Finds place (Err (BadRecord at))) x y (λ a b h. bad_at place n a b (none fits no_fit test) h) (subst (λ (g : ℕ). Told (ReadsHead place g n) x y) one head)
  where
    none : (fits : Bool) → fits ≡ false → IsTrue fits ↔ ((0 < n) × (n ≤ LONGEST_BODY) × (HEAD + n < place.to - place.gate)) → (0 < n) × (n ≤ LONGEST_BODY) × (HEAD + n < place.to - place.gate) → ⊥
    none fits e t good = false≢true (sym e ∙ t.1 good)

-- a body after its head
record_at : (place : Place) (n : ℕ) (body : List ℕ) (device : List ℕ) → IsBody body → length body ≡ n → HEAD + n < place.to - place.gate → get_or device place.gate 0 ≡ 1 → take 4 (drop (place.gate + 1) device) ≡ to_be_bytes w32 n → body ≡ take (length body) (drop (place.gate + 5) device) → RecordAt place body device
record_at place n body device is_body size room open_gate four read =
    let gate = place.gate in
    let here : gate < length device =
    elim (cases_lt gate (length device)) [
      | inl lt ↦ lt
      | inr past ↦ absurd (let zero_there : get_or device gate 0 ≡ 0 = get_or_past device gate 0 past in omega (arith, zero_there, open_gate))
    ] in
    let five : drop 4 (drop (gate + 1) device) ≡ drop (gate + 5) device = drop-drop 4 (gate + 1) device ∙ ap (λ (k : ℕ). drop k device) (omega arith) in
    let last : drop (length body) (drop (gate + 5) device) ≡ drop (gate + frame_size body) device = drop-drop (length body) (gate + 5) device ∙ ap (λ (k : ℕ). drop k device) (omega arith) in
    let tail : drop (gate + 5) device ≡ body ++ drop (gate + frame_size body) device =
    sym (take-append-drop (length body) (drop (gate + 5) device))
    ∙ ap (λ (l : List ℕ). l ++ drop (length body) (drop (gate + 5) device)) (sym read)
    ∙ ap (λ (l : List ℕ). body ++ l) last in
    let rest : drop (gate + 1) device ≡ body_with_length body ++ drop (gate + frame_size body) device =
    sym (take-append-drop 4 (drop (gate + 1) device))
    ∙ ap (λ (l : List ℕ). l ++ drop 4 (drop (gate + 1) device)) (four ∙ ap (λ (k : ℕ). to_be_bytes w32 k) (sym size))
    ∙ ap (λ (l : List ℕ). to_be_bytes w32 (length body) ++ l) (five ∙ tail)
    ∙ sym (append_assoc (to_be_bytes w32 (length body)) body (drop (gate + frame_size body) device)) in
    record {
      is_body = is_body;
      room = omega (arith, size, room);
      there =
          drop_more device gate 0 here
          ∙ ap (λ (k : ℕ). k ∷ drop (gate + 1) device) open_gate
          ∙ ap (λ (l : List ℕ). 1 ∷ l) rest;
    }

body_found : (place : Place) (n : ℕ) (body : List ℕ) (a b c : World) → IsBody body → length body ≡ n → HEAD + n < place.to - place.gate → ReadsHead place 1 n a b → Reads (place.gate + 5) body b c → RecordAt place body a.device
body_found place n body a b c is_body size room head read =
    elim head.length_there [
      | inl short ↦ absurd (omega (arith, short.0, room))
      | inr four ↦ record_at place n body a.device is_body size room head.there four (read.bytes_there ∙ ap (λ (l : List ℕ). take (length body) (drop (place.gate + 5) l)) head.same.device)
    ]

pub finds_body : (place : Place) (gate n : ℕ) (body : List ℕ) (x y z : Option World) → gate ≡ 1 → 0 < n → n ≤ LONGEST_BODY → HEAD + n < place.to - place.gate → length body ≡ n → Told (ReadsHead place gate n) x y → Told (Reads (place.gate + 5) body) y z → Told (Finds place (Ok (Some body))) x z
finds_body place gate n body x y z one some most room size head =
    told_then (ReadsHead place 1 n) (Reads (place.gate + 5) body) (Finds place (Ok (Some body))) x y z (λ a b c h r.
    body_found place n body a b c (record { some = omega (arith, some, size); most = omega (arith, most, size) }) size room h r) (subst (λ (g : ℕ). Told (ReadsHead place g n) x y) one head)

abbrev at_place : ℕ → ℕ → Place
at_place gate to = record { gate = gate; to = to }

-- the place after a record
pub moved_on : (place now : Place) (gate to n : ℕ) (body : List ℕ) → place ≡ record { gate = gate; to = to } → now ≡ record { gate = gate + (HEAD + n); to = to } → length body ≡ n → now ≡ record { gate = place.gate + frame_size body; to = place.to }
moved_on place now gate to n body from is size =
    is
    ∙ ap (λ (k : ℕ). at_place (gate + (5 + k)) to) (sym size)
    ∙ ap (λ (p : Place). at_place (p.gate + frame_size body) p.to) (sym from)
