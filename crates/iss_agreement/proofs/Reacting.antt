-- Two keepers of which one shows the other react alike to each input, and write one transcript.
use Rattle.std.proofs.Common.{◌≡◌, ℕ, List, [], ◌∷◌, ◌++◌, map, refl, ap, ◌∙◌}
use Rattle.std.specs.Prelude.{unwrap_or}
use Rattle.std.specs.List.{flat_map}
use Rattle.iss_model.specs.declared.entry.Entry.{Entry}
use Rattle.iss_model.specs.declared.input.Input.{Input}
use Rattle.iss_model.specs.declared.input.Record.{Record}
use Rattle.iss_model.specs.declared.decision.Judged.{Judged}
use Rattle.iss_model.specs.declared.decision.Judged.TheVariants as judged
use Rattle.iss_model.specs.rules.Facts.{Facts}
use Rattle.iss_model.specs.rules.Keeper.{Keeper, Growth}
use Rattle.iss_model.specs.rules.Stepping.{step}
use Rattle.iss_model.specs.rules.Judging.{judge}
use Rattle.iss_agreement.specs.Laws.{KeptBySteps, Shows}
use Rattle.iss_model.specs.run.Sayings.{said_by, said_of_time, Reaction, reaction, reaction_as, answer_left}
use Rattle.iss_model.specs.run.Rooms.{judgement_after}
use Rattle.iss_model.specs.run.Transcripts.{Reading, sound, faulty, Text, LineReply, at_level, said_text, after_line, transcript}
use Rattle.iss_agreement.proofs.Keepers.{step-kept, step-shown, judge-shown}

-- the reaction of one keeper as the other shows it
abbrev pub shown_reaction : {W V : Type 0} → (W → V) → Reaction W → Reaction V
shown_reaction show r = record { world = show r.world; said = r.said }

-- what stands and the texts of one keeper, as the other shows it
abbrev pub shown_told : {W V : Type 0} → (W → V) → LineReply W → LineReply V
shown_told show t = record { world = show t.world; texts = t.texts }

module _ {W V : Type 0} (m : Keeper W) (n : Keeper V) (show : W → V) (IsGood : W → Type 0) (Fit : Facts → List Entry → Type 0)
    (kept : KeptBySteps m IsGood Fit) (shows : Shows m n show IsGood Fit) where
  answer-shown : (w : W) (r : Record) (i : Input) (stamp : ℕ) → IsGood w
      → answer_left (judge n (show (step m w r).world) i stamp) ≡ answer_left (judge m (step m w r).world i stamp)
  answer-shown w r i stamp good =
      ap answer_left (judge-shown m n show IsGood Fit kept shows (step m w r).world i stamp (step-kept m IsGood Fit kept w r good))

  reaction_as-shown : (w : W) (i : Input) (stamp : ℕ) (j : Judged) → IsGood w
      → reaction_as n (show w) i stamp j ≡ shown_reaction show (reaction_as m w i stamp j)
  reaction_as-shown w i stamp (judged.New r) good =
      ap (λ (g : Growth V). record { world = g.world; said = flat_map said_by g.entries ++ said_of_time i }) (step-shown m n show IsGood Fit kept shows w r good)
  reaction_as-shown w i stamp (judged.Clock r) good =
      ap (λ (g : Growth V). record { world = g.world; said = flat_map said_by g.entries ++ answer_left (judge n g.world i stamp) }) (step-shown m n show IsGood Fit kept shows w r good)
      ∙ ap (λ answer. record { world = show (step m w r).world; said = flat_map said_by (step m w r).entries ++ answer }) (answer-shown w r i stamp good)
  reaction_as-shown w i stamp (judged.Told a) good = refl

  pub reaction-shown : (w : W) (i : Input) (stamp : ℕ) → IsGood w → reaction n (show w) i stamp ≡ shown_reaction show (reaction m w i stamp)
  unfolding reaction
  reaction-shown w i stamp good =
      ap (λ (f : Facts). reaction_as n (show w) i stamp (judgement_after f.count (judge n (show w) i stamp))) (shows.facts w good)
      ∙ ap (λ (j : Judged). reaction_as n (show w) i stamp (judgement_after (m.facts w).count j)) (judge-shown m n show IsGood Fit kept shows w i stamp good)
      ∙ reaction_as-shown w i stamp (judgement_after (m.facts w).count (judge m w i stamp)) good

  reaction_as-kept : (w : W) (i : Input) (stamp : ℕ) (j : Judged) → IsGood w → IsGood (reaction_as m w i stamp j).world
  reaction_as-kept w i stamp (judged.New r) good = step-kept m IsGood Fit kept w r good
  reaction_as-kept w i stamp (judged.Clock r) good = step-kept m IsGood Fit kept w r good
  reaction_as-kept w i stamp (judged.Told a) good = good

  reaction-kept : (w : W) (i : Input) (stamp : ℕ) → IsGood w → IsGood (reaction m w i stamp).world
  unfolding reaction
  reaction-kept w i stamp good = reaction_as-kept w i stamp (judgement_after (m.facts w).count (judge m w i stamp)) good

  at_count : (w : W) (texts : List (List ℕ)) → IsGood w → at_level (n.facts (show w)).count texts ≡ at_level (m.facts w).count texts
  at_count w texts good = ap (λ (f : Facts). at_level f.count texts) (shows.facts w good)

  pub after_line-shown : (w : W) (line : Reading) → IsGood w → after_line n (show w) line ≡ shown_told show (after_line m w line)
  after_line-shown w (sound i at) good =
      let r = reaction m w i (unwrap_or at 0) in
      ap (λ (x : Reaction V). record { world = x.world; texts = at_level (n.facts x.world).count (map said_text x.said) }) (reaction-shown w i (unwrap_or at 0) good)
      ∙ ap (λ (texts : List Text). record { world = show r.world; texts = texts }) (at_count r.world (map said_text r.said) (reaction-kept w i (unwrap_or at 0) good))
  after_line-shown w (faulty text) good =
      ap (λ (texts : List Text). record { world = show w; texts = texts }) (at_count w (text ∷ []) good)

  after_line-kept : (w : W) (line : Reading) → IsGood w → IsGood (after_line m w line).world
  after_line-kept w (sound i at) good = reaction-kept w i (unwrap_or at 0) good
  after_line-kept w (faulty text) good = good

  pub transcript-shown : (w : W) (lines : List Reading) → IsGood w → transcript n (show w) lines ≡ transcript m w lines
  transcript-shown w [] good = refl
  transcript-shown w (line ∷ lines) good =
      ap (λ (t : LineReply V). t.texts ++ transcript n t.world lines) (after_line-shown w line good)
      ∙ ap (λ (rest : List Text). (after_line m w line).texts ++ rest) (transcript-shown (after_line m w line).world lines (after_line-kept w line good))
