-- An event with what came of it: what is taken was spelled so, and what is spelled so is taken.
use Rattle.std.proofs.Common.{◌≡◌, ℕ, Bool, true, ◌&&◌, List, [], Option, refl, ap, subst, ◌∙◌}
use Rattle.std.proofs.lemmas.Bool.{and_parts}
use Rattle.std.proofs.lemmas.Option.{same_Some}
use Rattle.iss_model.specs.declared.input.Record.{Record}
use Rattle.iss_model.specs.declared.state.Seen.{Seen}
use Rattle.iss_model.specs.Forms.{is_stamp}
use Rattle.iss_model.specs.texts.Spelling.{number_bytes, spelled_input, has_fields}
use Rattle.iss_codec.specs.TakingRecords.{take_input}
use Rattle.iss_codec.proofs.TakenFields.{IsSplit, IsField}
use Rattle.iss_codec.proofs.TakenRecords.{input_takes, input_again}
use Rattle.iss_image.specs.Images.{verdict_bytes, mark_bytes, seen_bytes}
use Rattle.iss_image.specs.TakingEvents.{take_seen}
use Rattle.iss_image_lists.specs.Forms.{has_room}
use Rattle.iss_image.specs.Forms.{is_verdict, is_mark, is_seen}
use Rattle.iss_image.proofs.Steps.{step, start, again_step, grouped_4}
use Rattle.iss_image.proofs.Steps.{u32_field}
use Rattle.iss_image.proofs.MarkFields.{mark_field}
use Rattle.iss_image.proofs.VerdictFields.{verdict_field}

-- a record after its kind and its stamp
abbrev record_bytes : (List ℕ → List ℕ) → Record → List ℕ
record_bytes name_bytes r = spelled_input name_bytes r.at r.input

-- a record of a stamp and an input in form
abbrev is_record_of : (List ℕ → Bool) → Record → Bool
is_record_of is_name r = is_stamp r.at && has_fields is_name r.input

-- `name` is the field of a token, however it is spelled
module _ {take_name : List ℕ → Option (List ℕ × List ℕ)} {name_bytes : List ℕ → List ℕ} {is_name : List ℕ → Bool} (name : IsField take_name name_bytes is_name) where
  record_field : IsField (take_input take_name) (record_bytes name_bytes) (is_record_of is_name)
  record_field = record { takes = input_takes name; again = input_again name }

  pub seen_field : IsField (take_seen take_name) (seen_bytes name_bytes) (is_seen is_name)
  unfolding take_seen
  seen_field =
      record {
        takes = λ bytes x fits e.
            step u32_field bytes [] bytes _ x (start bytes fits) e (λ number r1 s1 h1 e1.
            step record_field bytes _ r1 _ x s1 e1 (λ body r2 s2 h2 e2.
            step (verdict_field name body.input) bytes _ r2 _ x s2 e2 (λ verdict r3 s3 h3 e3.
            step mark_field bytes _ r3 _ x s3 e3 (λ mark r4 s4 h4 e4.
            subst (λ (y : Seen × List ℕ). IsSplit bytes (seen_bytes name_bytes y.0) y.1 × (is_seen is_name y.0 ≡ true)) (same_Some _ x e4) (s4, rw (h1, h2, h3, h4) refl)))));
        again = λ e rest h.
            let p = and_parts (has_room 4 e.number && is_record_of is_name e.body && is_verdict is_name e.body.input e.verdict) (is_mark e.mark) h in
            let q = and_parts (has_room 4 e.number && is_record_of is_name e.body) (is_verdict is_name e.body.input e.verdict) p.0 in
            let r = and_parts (has_room 4 e.number) (is_record_of is_name e.body) q.0 in
            ap (take_seen take_name) (grouped_4 (number_bytes 4 e.number) (record_bytes name_bytes e.body) (verdict_bytes name_bytes e.verdict) (mark_bytes e.mark) rest)
            ∙ again_step u32_field e.number _ _ _ r.0
            (again_step record_field e.body _ _ _ r.1
            (again_step (verdict_field name e.body.input) e.verdict _ _ _ q.1
            (again_step mark_field e.mark _ _ _ p.1 refl)));
      }
