-- A token's place in a table is a field, and a record with such fields is read again.
use Rattle.std.proofs.Common.{◌≡◌, ℕ, zero, suc, ◌+◌, ◌-◌, ◌<◌, Bool, true, List, [], ◌∷◌, ◌++◌, length, drop, slice_get, get_or, Option, Some, None, Result, Ok, Err, refl, sym, ap, subst, ◌∙◌, arith}
use Rattle.std.specs.Prelude.{IfOk, IfSome, IsTrue, is_some}
use Rattle.std.specs.List.{IsDistinct}
use Rattle.std.specs.Option.{unwrap_or}
use Rattle.std.specs.Str.{bytes_eq}
use Rattle.std.proofs.lemmas.List.{drop_at, length-append}
use Rattle.std.proofs.lemmas.Option.{same_Some, none-some}
use Rattle.iss_model.specs.declared.input.Record.{Record}
use Rattle.iss_model.specs.texts.Spelling.{AreBytes, number_bytes}
use Rattle.iss_index.specs.Places.{place_of}
use Rattle.iss_index.proofs.Placed.{place_here, place_there}
use Rattle.iss_codec.specs.Taking.{◌>>=◌, take_number}
use Rattle.iss_codec.specs.Places.{place_bytes, take_place, is_listed, IsTable, spelling_in, is_record_in, take_record_in, record_at_start, BeginsIn, BeginsOf}
use Rattle.iss_codec.proofs.NumberBytes.{wide_4}
use Rattle.iss_codec.proofs.TakenFields.{bind_some, IsSplit, IsField, number_takes, number_again}
use Rattle.iss_codec.proofs.TakenRecords.{input_takes, input_again}

-- a token that is listed has a place
place_of_listed : (place : Option ℕ) → is_some place ≡ true → (i : ℕ) × (place ≡ Some i)
place_of_listed (Some i) h = (i, refl)
place_of_listed None h = absurd cc

-- what stands at a place is within the list
within : (tokens : List (List ℕ)) (i : ℕ) (token : List ℕ) → slice_get tokens i ≡ Some token → i < length tokens
within [] i token e = absurd (none-some token e)
within (t ∷ ts) zero token e = omega arith
within (t ∷ ts) (suc i) token e = let below = within ts i token e in omega (arith, below)

place_takes : (tokens : List (List ℕ)) → IsTable tokens → (bytes : List ℕ) (x : List ℕ × List ℕ) → AreBytes bytes → take_place tokens bytes ≡ Some x
    → IsSplit bytes (place_bytes tokens x.0) x.1 × (is_listed tokens x.0 ≡ true)
unfolding take_place
place_takes tokens table bytes x fits e =
    let n = bind_some (take_number 4 bytes) _ x e in
    let t = bind_some (slice_get tokens n.0.0) _ x n.2 in
    let a = number_takes 4 _ wide_4 bytes n.0 fits n.1 in
    let here : place_of t.0 tokens ≡ Some n.0.0 = place_here tokens n.0.0 t.0 table.apart t.1 in
    let whole : IsSplit bytes (place_bytes tokens t.0) n.0.1 = subst (λ (p : Option ℕ). IsSplit bytes (number_bytes 4 (unwrap_or p 0)) n.0.1) (sym here) a.0 in
    subst (λ (y : List ℕ × List ℕ). IsSplit bytes (place_bytes tokens y.0) y.1 × (is_listed tokens y.0 ≡ true)) (same_Some (t.0, n.0.1) x t.2)
    (whole, ap (λ (p : Option ℕ). is_some p) here)

place_again : (tokens : List (List ℕ)) → IsTable tokens → (token rest : List ℕ) → is_listed tokens token ≡ true
    → take_place tokens (place_bytes tokens token ++ rest) ≡ Some (token, rest)
unfolding take_place
place_again tokens table token rest h =
    let p = place_of_listed (place_of token tokens) h in
    let there : slice_get tokens p.0 ≡ Some token = place_there tokens token p.0 p.1 in
    let below : p.0 < 4294967296 = omega (arith, within tokens p.0 token there, table.few) in
    rw (p.1, number_again 4 _ wide_4 p.0 rest below, there) refl

-- a place in a table is a field of each token that stands in it
pub place_field : (tokens : List (List ℕ)) → IsTable tokens → IsField (take_place tokens) (place_bytes tokens) (is_listed tokens)
place_field tokens table = record { takes = place_takes tokens table; again = place_again tokens table }

-- the record at the start was spelled so
pub record_takes_in : (tokens : List (List ℕ)) → IsTable tokens → (bytes : List ℕ) (x : Record × List ℕ) → AreBytes bytes → take_record_in tokens bytes ≡ Some x
    → IsSplit bytes (spelling_in tokens x.0) x.1 × (is_record_in tokens x.0 ≡ true)
record_takes_in tokens table = input_takes (place_field tokens table)

-- what is spelled so is read, whatever follows it
pub record_again_in : (tokens : List (List ℕ)) → IsTable tokens → (r : Record) (rest : List ℕ) → is_record_in tokens r ≡ true
    → take_record_in tokens (spelling_in tokens r ++ rest) ≡ Some (r, rest)
record_again_in tokens table = input_again (place_field tokens table)

-- bytes that are two texts, one after the other: the second is what the first leaves
begins : (tokens : List (List ℕ)) (r : Record) (rest bytes : List ℕ) → is_record_in tokens r ≡ true → bytes ≡ spelling_in tokens r ++ rest
    → BeginsOf tokens (r, length bytes - length rest) bytes
begins tokens r rest bytes form e =
    let text = spelling_in tokens r in
    let all : length bytes ≡ length text + length rest = ap length e ∙ length-append text rest in
    let size : length bytes - length rest ≡ length text = omega (arith, all) in
    let left : drop (length bytes - length rest) bytes ≡ rest = ap (drop (length bytes - length rest)) e ∙ drop_at text rest _ (sym size) in
    (size, (form, e ∙ ap (λ (t : List ℕ). text ++ t) (sym left)))

start_takes : (tokens : List (List ℕ)) → IsTable tokens → (bytes : List ℕ) (x : Record × ℕ) → AreBytes bytes → record_at_start tokens bytes ≡ Some x → BeginsOf tokens x bytes
unfolding record_at_start
start_takes tokens table bytes x fits e =
    let t = bind_some (take_record_in tokens bytes) _ x e in
    let a = record_takes_in tokens table bytes t.0 fits t.1 in
    subst (λ (y : Record × ℕ). BeginsOf tokens y bytes) (same_Some (t.0.0, length bytes - length t.0.1) x t.2)
    (begins tokens t.0.0 t.0.1 bytes a.1 a.0.parts)

start_again : (tokens : List (List ℕ)) → IsTable tokens → (r : Record) (rest bytes : List ℕ) → BeginsIn tokens r rest bytes
    → record_at_start tokens bytes ≡ Some (r, length (spelling_in tokens r))
unfolding record_at_start
start_again tokens table r rest bytes so =
    let read : take_record_in tokens bytes ≡ Some (r, rest) = ap (take_record_in tokens) so.1 ∙ record_again_in tokens table r rest so.0 in
    let size : length bytes - length rest ≡ length (spelling_in tokens r) = (begins tokens r rest bytes so.0 so.1).0 in
    rw read (ap (λ (n : ℕ). Some (r, n)) size)

pub is_found_in : {E : Type 0} (tokens : List (List ℕ)) (bytes : List ℕ) (result : Result (Option (Record × ℕ)) E) → AreBytes bytes
    → IfOk result (λ found. found ≡ record_at_start tokens bytes) → IsTable tokens
    → IfOk result (λ found. IfSome found (λ x. BeginsOf tokens x bytes))
is_found_in tokens bytes (Ok (Some x)) fits h table = start_takes tokens table bytes x fits (sym h)
is_found_in tokens bytes (Ok None) fits h table = tt
is_found_in tokens bytes (Err e) fits h table = tt

pub is_only_in : {E : Type 0} (tokens : List (List ℕ)) (bytes : List ℕ) (result : Result (Option (Record × ℕ)) E)
    → IfOk result (λ found. found ≡ record_at_start tokens bytes) → IsTable tokens → (r : Record) (rest : List ℕ) → BeginsIn tokens r rest bytes
    → IfOk result (λ found. found ≡ Some (r, length (spelling_in tokens r)))
is_only_in tokens bytes (Ok found) h table r rest so = h ∙ start_again tokens table r rest bytes so
is_only_in tokens bytes (Err e) h table r rest so = tt

pub is_none_in : {E : Type 0} (tokens : List (List ℕ)) (bytes : List ℕ) (result : Result (Option (Record × ℕ)) E)
    → IfOk result (λ found. found ≡ record_at_start tokens bytes) → IsTable tokens
    → IfOk result (λ found. found ≡ None → (r : Record) (rest : List ℕ) → BeginsIn tokens r rest bytes → ⊥)
is_none_in tokens bytes (Ok found) h table = λ none r rest so. none-some _ (sym none ∙ h ∙ start_again tokens table r rest bytes so)
is_none_in tokens bytes (Err e) h table = tt
