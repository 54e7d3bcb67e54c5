use Rattle.std.proofs.Common.{ℕ, pos, List, ◌++◌, codes, ap, ◌∙◌}
use Rattle.iss_model.specs.Amounts.{amount_text}
use Rattle.iss_event.proofs.Lines.{ended, part_after}
use Rattle.iss_event.proofs.writing.put_part_start.Goals as goal

pub returns : goal.returns
returns c =
    let amount = c.in_ok-put_amount_text.ensures ∙ ap (λ (t : List ℕ). t ++ amount_text (pos c.args.amount) c.args.currency) c.in_ok-extend_from_slice.ensures.items in
    ended c.extend_from_slice-2.result _ (codes "\",\"event\":\"") _ _ c.extend_from_slice-2.ensures.items
    (ap (λ (t : List ℕ). t ++ codes "\",\"event\":\"") amount ∙ part_after c.args.out.now.items c.args.currency c.args.amount)
