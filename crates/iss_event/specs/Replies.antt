-- The parts of a reply's line and of a reason's text.
use Rattle.std.specs.Prelude.{ℕ, pos, List, [], ◌++◌, codes}
use Rattle.iss_model.specs.declared.decision.Reason.{Reason}
use Rattle.iss_model.specs.declared.decision.Reason.TheVariants.{MoveCard, MoveUser, Control, StandInLimit}
use Rattle.iss_model.specs.declared.decision.Verdict.TheVariants.{Done, Approved, Partial, Declined}
use Rattle.iss_model.specs.declared.decision.Reply.{Reply}
use Rattle.iss_model.specs.declared.decision.Reply.TheVariants.{Decided, Pending}
use Rattle.iss_model.specs.declared.currency.Currency.{Currency}
use Rattle.iss_model.specs.Amounts.{amount_text}
use Rattle.iss_model.specs.texts.Wordings.{card_state_text, user_state_text, reason_text}

-- what the reason is about, which its text names after its own name
abbrev pub detail_text : Reason → List ℕ
detail_text (MoveCard from to) = card_state_text from ++ codes ":" ++ card_state_text to
detail_text (MoveUser from to) = user_state_text from ++ codes ":" ++ user_state_text to
detail_text (Control name) = name
detail_text (StandInLimit name) = name
detail_text _ = []

-- what follows the event in the line of a refusal
abbrev pub declined_end : Reason → List ℕ
declined_end why = codes "\",\"reason\":\"" ++ (reason_text why ++ codes "\",\"reply\":\"declined\"}\n")

-- what stands before the event in the line of an approved part
abbrev pub part_start : Currency → ℕ → List ℕ
part_start currency amount = codes "{\"amount\":\"" ++ (amount_text (pos amount) currency ++ codes "\",\"event\":\"")

-- what stands before the event in the line of a reply
abbrev pub reply_start : Reply → List ℕ
reply_start (Decided Done) = codes "{\"event\":\""
reply_start (Decided Approved) = codes "{\"event\":\""
reply_start (Decided (Partial currency amount)) = part_start currency amount
reply_start (Decided (Declined why)) = codes "{\"event\":\""
reply_start Pending = codes "{\"event\":\""

-- what follows the event in the line of a reply
abbrev pub reply_end : Reply → List ℕ
reply_end (Decided Done) = codes "\",\"reply\":\"done\"}\n"
reply_end (Decided Approved) = codes "\",\"reply\":\"approved\"}\n"
reply_end (Decided (Partial currency amount)) = codes "\",\"reply\":\"partial\"}\n"
reply_end (Decided (Declined why)) = declined_end why
reply_end Pending = codes "\",\"reply\":\"pending\"}\n"
