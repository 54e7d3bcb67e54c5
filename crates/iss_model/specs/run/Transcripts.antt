-- What a run writes: for each line its texts, on what stood before it.
use Rattle.std.specs.Prelude.{ℕ, List, [], ◌∷◌, ◌++◌, map, Option, unwrap_or}
use Rattle.std.specs.List.{flat_map}
use Rattle.iss_model.specs.declared.input.Input.{Input}
use Rattle.iss_model.specs.declared.entry.Entry.{Entry}
use Rattle.iss_model.specs.declared.decision.Reply.TheVariants as reply
use Rattle.iss_model.specs.texts.Wordings.{reply_line}
use Rattle.iss_model.specs.texts.GatewayTexts.{request_text, notice_text}
use Rattle.iss_model.specs.texts.AnswerLines.{answer_text, acked_line, time_line}
use Rattle.iss_model.specs.rules.Keeper.{Keeper}
use Rattle.iss_model.specs.run.Sayings.{Said, decided, asked, noticed, acked, timed, answered, said_by, Reaction, reaction}

-- a line as it was read: an input with its stamp, or the text of its fault
pub data Reading : Type 0 where
  sound : Input → Option ℕ → Reading
  faulty : List ℕ → Reading

-- a text that goes out, and its level: the number of records in the history when it is due to go
pub record Text : Type 0 where
  pub level : ℕ
  pub bytes : List ℕ

-- what stands after a line, and the texts that are written for it
pub record LineReply (W : Type 0) : Type 0 where
  pub world : W
  pub texts : List Text

-- texts that are all due to go at one level
abbrev pub at_level : ℕ → List (List ℕ) → List Text
at_level level texts = map (λ bytes. record { level = level; bytes = bytes }) texts

-- what is said, as a line, at an instance
abbrev pub said_text_at : ℕ → Said → List ℕ
said_text_at instance (decided event verdict) = reply_line event (reply.Decided verdict)
said_text_at instance (asked opened) = request_text instance opened ++ 10 ∷ []
said_text_at instance (noticed notice) = notice_text instance notice ++ 10 ∷ []
said_text_at instance (acked notice) = acked_line notice
said_text_at instance timed = time_line
said_text_at instance (answered answer) = answer_text answer

-- what is said, as a line, at instance 0
abbrev pub said_text : Said → List ℕ
said_text said = said_text_at 0 said

-- the texts that an entry goes out with
abbrev pub entry_texts : Entry → List (List ℕ)
entry_texts e = map said_text (said_by e)

-- what is said of an input as texts, at the level that counts its record
abbrev pub reply_by_reaction : {W : Type 0} → Keeper W → Reaction W → LineReply W
reply_by_reaction k r = record { world = r.world; texts = at_level (k.facts r.world).count (map said_text r.said) }

-- the texts of a line on what stands: its fault, or what is said of its input
abbrev pub after_line : {W : Type 0} → Keeper W → W → Reading → LineReply W
after_line k w (sound i at) = reply_by_reaction k (reaction k w i (unwrap_or at 0))
after_line k w (faulty text) = record { world = w; texts = at_level (k.facts w).count (text ∷ []) }

-- the texts of the lines, one after the other
abbrev pub transcript : {W : Type 0} → Keeper W → W → List Reading → List Text
transcript k w [] = []
transcript k w (line ∷ lines) = (after_line k w line).texts ++ transcript k (after_line k w line).world lines

-- the bytes of texts in a row
abbrev pub bytes_of : List Text → List ℕ
bytes_of texts = flat_map (λ text. text.bytes) texts
