-- What an edge tells of texts that go out, one after another.
use Rattle.std.proofs.Common.{◌≡◌, ℕ, List, [], ◌∷◌, Option, Ok, Err, subst}
use Rattle.std.specs.Prelude.{Result, OnOk, OnErr, is_ok}
use Rattle.iss_edge.specs.declared.outside.Answered.{Answered}
use Rattle.iss_edge.specs.declared.outside.Answered.TheVariants.{Emitted}
use Rattle.iss_edge.specs.World.{World, Told}
use Rattle.iss_edge.specs.Calls.{Emits, EmitsPart, Hears}
use Rattle.iss_edge.specs.Outer.{Outer, outer_of, Tears}
use Rattle.iss_edge.proofs.Tolds.{told_map, told_then, told_self}
use Rattle.iss_edge.proofs.Outers.{told_emits, told_tears}
use Rattle.iss_texts.specs.declared.row.Texts.{Texts}
use Rattle.iss_texts.specs.TextRows.{HasAll, cut_at}
use Rattle.iss_texts.specs.Sending.{Says, SaysSome, SentEach, StopsAt}
use Rattle.iss_texts.proofs.Rows.{all_cut}
use Rattle.iss_texts.proofs.Saying.{says_none, says_nothing, says_then, says_emitted, says_prefix, sent_nothing, sent_then, UpTo, GoesInARow, upto_begins, upto_next, upto_fails, upto_stops, upto_ends}

-- nothing went out
pub told_none : (texts : List (List ℕ)) (x : Option World) → Told (SaysSome texts) x x
told_none texts x = told_self (SaysSome texts) x (says_none texts)

pub told_emitted : (text : List ℕ) (x y : Option World) → Told (Emits (record { 0 = 0 }) text) x y → Told (Says (text ∷ [])) x y
told_emitted text x y p = told_map (Emits (record { 0 = 0 }) text) (Says (text ∷ [])) x y (says_emitted text) p

pub told_prefix : (text : List ℕ) (x y : Option World) → Told (EmitsPart (record { 0 = 0 }) text) x y → Told (SaysSome (text ∷ [])) x y
told_prefix text x y p = told_map (EmitsPart (record { 0 = 0 }) text) (SaysSome (text ∷ [])) x y (says_prefix text) p

-- a text went out, and that was heard
pub told_sent : {A E : Type 0} (text : List ℕ) (result : Result A E) (x y : Option World) (h k : Option (List Answered)) → OnOk result (Told (Emits (record { 0 = 0 }) text) x y)
    → Told (Hears (Emitted (record { 0 = 0 }) (is_ok result))) h k → OnOk result (Told (SentEach (text ∷ [])) (outer_of x h) (outer_of y k))
told_sent text (Ok v) x y h k emitted heard = told_emits (record { 0 = 0 }) text x y h k emitted heard
told_sent text (Err e) x y h k emitted heard = tt

-- a text didn't go out whole, and that was heard
pub told_torn : {A E : Type 0} (text : List ℕ) (result : Result A E) (x y : Option World) (h k : Option (List Answered)) → OnErr result (Told (EmitsPart (record { 0 = 0 }) text) x y)
    → Told (Hears (Emitted (record { 0 = 0 }) (is_ok result))) h k → OnErr result (Told (Tears (record { 0 = 0 }) text) (outer_of x h) (outer_of y k))
told_torn text (Ok v) x y h k part heard = tt
told_torn text (Err e) x y h k part heard = told_tears (record { 0 = 0 }) text x y h k part heard

-- ---- one after the other

pub told_upto_begins : (texts : List (List ℕ)) (x : Option World) → Told (UpTo Says texts texts) x x
told_upto_begins texts x = told_self (UpTo Says texts texts) x (upto_begins Says says_nothing texts)

pub sent_upto_begins : (texts : List (List ℕ)) (x : Option Outer) → Told (UpTo SentEach texts texts) x x
sent_upto_begins texts x = told_self (UpTo SentEach texts texts) x (upto_begins SentEach sent_nothing texts)

-- the first text that is left comes, and then the rest
first_left : {W : Type 0} (R : List (List ℕ) → W → W → Type 0) (texts rest left : List (List ℕ)) (text : List ℕ) (x y : Option W) → left ≡ text ∷ rest → Told (UpTo R texts left) x y → Told (UpTo R texts (text ∷ rest)) x y
first_left R texts rest left text x y is p = subst (λ (l : List (List ℕ)). Told (UpTo R texts l) x y) is p

upto_more : {W : Type 0} (R : List (List ℕ) → W → W → Type 0) → GoesInARow R → (texts rest left : List (List ℕ)) (text : List ℕ) (x y z : Option W) → left ≡ text ∷ rest → Told (UpTo R texts left) x y → Told (R (text ∷ [])) y z
    → Told (UpTo R texts rest) x z
upto_more R in_row texts rest left text x y z is p q =
    told_then (UpTo R texts (text ∷ rest)) (R (text ∷ [])) (UpTo R texts rest) x y z (upto_next R in_row texts rest text)
    (first_left R texts rest left text x y is p) q

pub told_upto_next : (texts rest left : List (List ℕ)) (text : List ℕ) (x y z : Option World) → left ≡ text ∷ rest → Told (UpTo Says texts left) x y → Told (Says (text ∷ [])) y z → Told (UpTo Says texts rest) x z
told_upto_next = upto_more Says says_then

pub sent_upto_next : (texts rest left : List (List ℕ)) (text : List ℕ) (x y z : Option Outer) → left ≡ text ∷ rest → Told (UpTo SentEach texts left) x y → Told (SentEach (text ∷ [])) y z → Told (UpTo SentEach texts rest) x z
sent_upto_next = upto_more SentEach sent_then

pub told_upto_fails : (texts rest left : List (List ℕ)) (text : List ℕ) (x y z : Option World) → left ≡ text ∷ rest → Told (UpTo Says texts left) x y → Told (SaysSome (text ∷ [])) y z → Told (SaysSome texts) x z
told_upto_fails texts rest left text x y z is p q =
    told_then (UpTo Says texts (text ∷ rest)) (SaysSome (text ∷ [])) (SaysSome texts) x y z (upto_fails texts rest text)
    (first_left Says texts rest left text x y is p) q

pub sent_upto_stops : (texts rest left : List (List ℕ)) (text : List ℕ) (x y z : Option Outer) → left ≡ text ∷ rest → Told (UpTo SentEach texts left) x y → Told (Tears (record { 0 = 0 }) text) y z → Told (StopsAt texts) x z
sent_upto_stops texts rest left text x y z is p q =
    told_then (UpTo SentEach texts (text ∷ rest)) (Tears (record { 0 = 0 }) text) (StopsAt texts) x y z (upto_stops texts rest text)
    (first_left SentEach texts rest left text x y is p) q

upto_over : {W : Type 0} (R : List (List ℕ) → W → W → Type 0) (texts left : List (List ℕ)) (x y : Option W) → left ≡ [] → Told (UpTo R texts left) x y → Told (R texts) x y
upto_over R texts left x y is p =
    told_map (UpTo R texts []) (R texts) x y (upto_ends R texts) (subst (λ (l : List (List ℕ)). Told (UpTo R texts l) x y) is p)

pub told_upto_ends : (texts left : List (List ℕ)) (x y : Option World) → left ≡ [] → Told (UpTo Says texts left) x y → Told (Says texts) x y
told_upto_ends = upto_over Says

pub sent_upto_ends : (texts left : List (List ℕ)) (x y : Option Outer) → left ≡ [] → Told (UpTo SentEach texts left) x y → Told (SentEach texts) x y
sent_upto_ends = upto_over SentEach

-- the texts of a row that went out are all that it has
pub all_told : {A E : Type 0} (texts : List (List ℕ)) (t : Texts) (x y : Option World) (result : Result A E) → HasAll texts t → OnOk result (Told (Says (cut_at 0 t.bytes.items t.ends.items)) x y)
    → OnOk result (Told (Says texts) x y)
all_told texts t x y result all told = subst (λ (l : List (List ℕ)). OnOk result (Told (Says l) x y)) (all_cut texts t all) told

pub some_told : {A E : Type 0} (texts : List (List ℕ)) (t : Texts) (x y : Option World) (result : Result A E) → HasAll texts t → OnErr result (Told (SaysSome (cut_at 0 t.bytes.items t.ends.items)) x y)
    → OnErr result (Told (SaysSome texts) x y)
some_told texts t x y result all told = subst (λ (l : List (List ℕ)). OnErr result (Told (SaysSome l) x y)) (all_cut texts t all) told

pub all_sent_told : {A E : Type 0} (texts : List (List ℕ)) (t : Texts) (x y : Option Outer) (result : Result A E) → HasAll texts t → OnOk result (Told (SentEach (cut_at 0 t.bytes.items t.ends.items)) x y)
    → OnOk result (Told (SentEach texts) x y)
all_sent_told texts t x y result all told = subst (λ (l : List (List ℕ)). OnOk result (Told (SentEach l) x y)) (all_cut texts t all) told

pub stops_told : {A E : Type 0} (texts : List (List ℕ)) (t : Texts) (x y : Option Outer) (result : Result A E) → HasAll texts t → OnErr result (Told (StopsAt (cut_at 0 t.bytes.items t.ends.items)) x y)
    → OnErr result (Told (StopsAt texts) x y)
stops_told texts t x y result all told = subst (λ (l : List (List ℕ)). OnErr result (Told (StopsAt l) x y)) (all_cut texts t all) told
