-- A record's frame in the journal: its spelling, written after the room for a length.
use Rattle.std.proofs.Common.{◌≡◌, ◌+◌, ◌<◌, ◌≤◌, true, List, ℕ, ◌++◌, length, drop, ap, ◌∙◌, arith}
use Rattle.std.specs.List.{list_all}
use Rattle.iss_journal.specs.declared.layout.TheConstants.{LENGTH, LONGEST_BODY}
use Rattle.iss_journal.specs.Region.{append_bytes, no_length}
use Rattle.iss_journal.proofs.Records.{length-behind}
use Rattle.iss_model.specs.declared.input.Record.{Record}
use Rattle.iss_model.specs.Forms.{is_in_form, is_stamp}
use Rattle.iss_model.specs.Tokens.{is_token}
use Rattle.iss_model.specs.texts.Spelling.{spelling, tokens_of}
use Rattle.iss_model.specs.run.Rooms.{need_of}
use Rattle.iss_store.specs.Values.{IsFramed}
use Rattle.iss_standing.proofs.Lengths.{spelled_body}

-- what was begun, with a record spelled after it, holds a body
pub begun_some : (r : Record) (bytes : List ℕ) → is_in_form r.input ≡ true → list_all is_token (tokens_of r.input) ≡ true → bytes ≡ no_length ++ spelling r → LENGTH < length bytes
begun_some r bytes form names is = let body = spelled_body r form names in omega (arith, body.some, ap length is)

pub begun_most : (r : Record) (bytes : List ℕ) → is_in_form r.input ≡ true → list_all is_token (tokens_of r.input) ≡ true → bytes ≡ no_length ++ spelling r → length bytes ≤ LENGTH + LONGEST_BODY
begun_most r bytes form names is = let body = spelled_body r form names in omega (arith, body.most, ap length is)

-- closed, it is the record's frame
framed_as : (r : Record) (bytes frame : List ℕ) → bytes ≡ no_length ++ spelling r → frame ≡ append_bytes (drop LENGTH bytes) → frame ≡ append_bytes (spelling r)
framed_as r bytes frame is closed = closed ∙ ap (λ (l : List ℕ). append_bytes (drop LENGTH l)) is

pub framed_so : (r : Record) (bytes frame : List ℕ) → is_stamp r.at ≡ true → is_in_form r.input ≡ true → list_all is_token (tokens_of r.input) ≡ true → bytes ≡ no_length ++ spelling r
    → frame ≡ append_bytes (drop LENGTH bytes) → IsFramed r frame
framed_so r bytes frame stamp form names is closed = record { spelled = rw (stamp, form) names; framed = framed_as r bytes frame is closed }

-- and is as long as the record needs
pub framed_need : (r : Record) (bytes frame : List ℕ) → bytes ≡ no_length ++ spelling r → frame ≡ append_bytes (drop LENGTH bytes) → length frame ≡ need_of r
framed_need r bytes frame is closed = ap length (framed_as r bytes frame is closed) ∙ length-behind (spelling r)
