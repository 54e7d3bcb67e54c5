-- What is said of an input: each thing that an entry of its record sends out, and its answer if it isn't new.
use Rattle.std.specs.Prelude.{ℕ, List, [], ◌∷◌, ◌++◌}
use Rattle.std.specs.List.{flat_map}
use Rattle.iss_model.specs.declared.call.Opened.{Opened}
use Rattle.iss_model.specs.declared.call.Notice.{Notice}
use Rattle.iss_model.specs.declared.input.Input.{Input}
use Rattle.iss_model.specs.declared.input.Input.TheVariants as input
use Rattle.iss_model.specs.declared.input.Record.{Record}
use Rattle.iss_model.specs.declared.entry.Entry.{Entry}
use Rattle.iss_model.specs.declared.entry.Entry.TheVariants as entry
use Rattle.iss_model.specs.declared.decision.Verdict.{Verdict}
use Rattle.iss_model.specs.declared.decision.Answer.{Answer}
use Rattle.iss_model.specs.declared.decision.Judged.{Judged}
use Rattle.iss_model.specs.declared.decision.Judged.TheVariants as judged
use Rattle.iss_model.specs.rules.Stepping.{step}
use Rattle.iss_model.specs.rules.Judging.{judge}
use Rattle.iss_model.specs.rules.Keeper.{Keeper}
use Rattle.iss_model.specs.run.Rooms.{judgement_after}

-- a decision, a request or notice to the gateway, an acknowledgement or time that was taken, or an answer to an input that isn't new
pub data Said : Type 0 where
  decided : List ℕ → Verdict → Said
  asked : Opened → Said
  noticed : Notice → Said
  acked : ℕ → Said
  timed : Said
  answered : Answer → Said

-- what an entry sends out
abbrev pub said_by : Entry → List Said
said_by (entry.Decided event verdict) = decided event verdict ∷ []
said_by (entry.Opened opened) = asked opened ∷ []
said_by (entry.Notice notice) = noticed notice ∷ []
said_by (entry.Acked notice) = acked notice ∷ []
said_by _ = []

-- a time that was taken is answered after what it made
abbrev pub said_of_time : Input → List Said
said_of_time input.Time = timed ∷ []
said_of_time _ = []

-- what stands after an input, and what is said of it
pub record Reaction (W : Type 0) : Type 0 where
  pub world : W
  pub said : List Said

-- what a record makes, and what it sends out
abbrev pub reaction_to_record : {W : Type 0} → Keeper W → W → Record → Reaction W
reaction_to_record k w r =
    let g = step k w r in
    record { world = g.world; said = flat_map said_by g.entries }

-- the answer that is left for an input, when the time record before it was taken
abbrev pub answer_left : Judged → List Said
answer_left (judged.New r) = []
answer_left (judged.Clock r) = []
answer_left (judged.Told a) = answered a ∷ []

-- what judging comes to, as a reaction
abbrev pub reaction_as : {W : Type 0} → Keeper W → W → Input → ℕ → Judged → Reaction W
reaction_as k w i stamp (judged.New r) =
    let reaction = reaction_to_record k w r in
    record reaction { said = reaction.said ++ said_of_time i }
reaction_as k w i stamp (judged.Clock r) =
    let reaction = reaction_to_record k w r in
    record reaction { said = reaction.said ++ answer_left (judge k reaction.world i stamp) }
reaction_as k w i stamp (judged.Told a) = record { world = w; said = answered a ∷ [] }

-- an input at a stamp, on what stands; with no device every record fits
unfoldable pub reaction : {W : Type 0} → Keeper W → W → Input → ℕ → Reaction W
reaction k w i stamp = reaction_as k w i stamp (judgement_after (k.facts w).count (judge k w i stamp))
