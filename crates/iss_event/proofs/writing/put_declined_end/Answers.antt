use Rattle.std.proofs.Common.{ℕ, List, ◌++◌, codes, ap, ◌∙◌}
use Rattle.iss_model.specs.texts.Wordings.{reason_text}
use Rattle.iss_event.proofs.Lines.{ended, declined_after}
use Rattle.iss_event.proofs.writing.put_declined_end.Goals as goal

pub returns : goal.returns
returns c =
    let reason = c.in_ok-put_reason.ensures ∙ ap (λ (t : List ℕ). t ++ reason_text c.args.reason.now) c.in_ok-extend_from_slice.ensures.items in
    ended c.extend_from_slice-2.result _ (codes "\",\"reply\":\"declined\"}\n") _ _ c.extend_from_slice-2.ensures.items
    (ap (λ (t : List ℕ). t ++ codes "\",\"reply\":\"declined\"}\n") reason ∙ declined_after c.args.out.now.items c.args.reason.now)
