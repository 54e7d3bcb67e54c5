-- A record that is read was spelled so, and what is spelled so is read, whatever follows it.
use Rattle.std.proofs.Common.{◌≡◌, ℕ, Bool, true, ◌&&◌, List, [], ◌∷◌, ◌++◌, Option, Some, None, refl, sym, ap, subst, ◌∙◌, append_assoc}
use Rattle.std.proofs.lemmas.Bool.{and_parts}
use Rattle.std.proofs.lemmas.Option.{same_Some, none-some, some_pair_parts}
use Rattle.std.proofs.lemmas.List.{append-nil}
use Rattle.iss_model.specs.declared.input.Record.{Record}
use Rattle.iss_model.specs.Forms.{is_stamp}
use Rattle.iss_model.specs.texts.Spelling.{AreBytes, number_bytes, spelled_fields, spelled_input, field_bytes, kind_number, has_fields, spelling, is_record}
use Rattle.iss_codec.specs.Taking.{◌>>=◌, take_byte, take_stamp}
use Rattle.iss_codec.specs.TakingRecords.{take_fields, take_input, take_record, alone, record_spelled}
use Rattle.iss_codec.proofs.TakenFields.{bind_some, IsSplit, IsField, split_on, byte_takes, byte_again, token_field}
use Rattle.iss_codec.proofs.TakenParts.{stamp_field}
use Rattle.iss_codec.proofs.TakenInputs.{fields_take}
use Rattle.iss_codec.proofs.TakenAgain.{fields_again}

-- The record at the start was spelled so, and what is spelled so is read. `name` is the field of a token, however it is spelled.
module _ {take_name : List ℕ → Option (List ℕ × List ℕ)} {name_bytes : List ℕ → List ℕ} {is_name : List ℕ → Bool} (name : IsField take_name name_bytes is_name) where
  pub input_takes : (bytes : List ℕ) (x : Record × List ℕ) → AreBytes bytes → take_input take_name bytes ≡ Some x
      → IsSplit bytes (spelled_input name_bytes x.0.at x.0.input) x.1 × ((is_stamp x.0.at && has_fields is_name x.0.input) ≡ true)
  input_takes bytes x fits e =
      let n = bind_some (take_byte bytes) _ x e in
      let at = bind_some (take_stamp n.0.1) _ x n.2 in
      let i = bind_some (take_fields take_name n.0.0 at.0.1) _ x at.2 in
      let tn = byte_takes bytes n.0 fits n.1 in
      let ta = stamp_field.takes n.0.1 at.0 tn.fits at.1 in
      let ti = fields_take name n.0.0 at.0.1 i.0 ta.0.fits i.1 in
      let fields = split_on n.0.1 (number_bytes 8 at.0.0) at.0.1 (spelled_fields name_bytes i.0.0) i.0.1 ta.0 ti.split in
      let all = split_on bytes (n.0.0 ∷ []) n.0.1 (number_bytes 8 at.0.0 ++ spelled_fields name_bytes i.0.0) i.0.1 tn fields in
      let whole : IsSplit bytes (spelled_input name_bytes at.0.0 i.0.0) i.0.1 =
      subst (λ (k : ℕ). IsSplit bytes (k ∷ (number_bytes 8 at.0.0 ++ spelled_fields name_bytes i.0.0)) i.0.1) (sym ti.kind) all in
      subst (λ y. IsSplit bytes (spelled_input name_bytes y.0.at y.0.input) y.1 × ((is_stamp y.0.at && has_fields is_name y.0.input) ≡ true))
      (same_Some (record { at = at.0.0; input = i.0.0 }, i.0.1) x i.2)
      (whole, rw (ta.1, ti.form) refl)

  pub input_again : (r : Record) (rest : List ℕ) → (is_stamp r.at && has_fields is_name r.input) ≡ true
      → take_input take_name (spelled_input name_bytes r.at r.input ++ rest) ≡ Some (r, rest)
  input_again r rest h =
      let p = and_parts (is_stamp r.at) (has_fields is_name r.input) h in
      ap (λ t. take_input take_name (kind_number r.input ∷ t)) (append_assoc (number_bytes 8 r.at) (spelled_fields name_bytes r.input) rest)
      ∙ rw (byte_again (kind_number r.input) (number_bytes 8 r.at ++ (spelled_fields name_bytes r.input ++ rest)), stamp_field.again r.at (spelled_fields name_bytes r.input ++ rest) p.0, fields_again name r.input rest p.1) refl

-- the record at the start was spelled so
pub record_takes : (bytes : List ℕ) (x : Record × List ℕ) → AreBytes bytes → take_record bytes ≡ Some x → IsSplit bytes (spelling x.0) x.1 × (is_record x.0 ≡ true)
unfolding take_record spelling field_bytes
record_takes = input_takes token_field

-- what is spelled so is read
pub record_again : (r : Record) (rest : List ℕ) → is_record r ≡ true → take_record (spelling r ++ rest) ≡ Some (r, rest)
unfolding take_record spelling field_bytes
record_again = input_again token_field

nothing_left : (a : Record) (rest : List ℕ) (r : Record) → alone a rest ≡ Some r → (a ≡ r) × (rest ≡ [])
nothing_left a [] r e = (same_Some a r e, refl)
nothing_left a (byte ∷ rest) r e = absurd cc

-- all of the bytes are a record's
pub spelled_takes : (bytes : List ℕ) (r : Record) → AreBytes bytes → record_spelled bytes ≡ Some r → (is_record r ≡ true) × (bytes ≡ spelling r)
unfolding record_spelled
spelled_takes bytes r fits e =
    let x = bind_some (take_record bytes) _ r e in
    let t = record_takes bytes x.0 fits x.1 in
    let last = nothing_left x.0.0 x.0.1 r x.2 in
    let all : bytes ≡ spelling x.0.0 = t.0.parts ∙ ap (λ (t : List ℕ). spelling x.0.0 ++ t) last.1 ∙ append-nil (spelling x.0.0) in
    subst (λ y. (is_record y ≡ true) × (bytes ≡ spelling y)) last.0 (t.1, all)

-- a record's bytes are read as it
pub spelled_again : (r : Record) → is_record r ≡ true → record_spelled (spelling r) ≡ Some r
unfolding record_spelled
spelled_again r h =
    ap (λ t. take_record t >>= λ taken. alone taken.0 taken.1) (sym (append-nil (spelling r))) ∙ rw (record_again r [] h) refl

-- bytes that are read as no record spell none
pub none_spelled : (bytes : List ℕ) (r : Record) → record_spelled bytes ≡ None → is_record r ≡ true → spelling r ≡ bytes → ⊥
none_spelled bytes r e h is = none-some r (sym e ∙ ap record_spelled (sym is) ∙ spelled_again r h)

-- no spelling begins another
pub begins_none : (r s : Record) (rest : List ℕ) → is_record r ≡ true → is_record s ≡ true → spelling s ≡ spelling r ++ rest → (s ≡ r) × (rest ≡ [])
begins_none r s rest h k e =
    let both : Some (s, []) ≡ Some (r, rest) = sym (record_again s [] k) ∙ ap take_record (append-nil (spelling s) ∙ e) ∙ record_again r rest h in
    let parts = some_pair_parts s r [] rest both in (parts.0, sym parts.1)
