use Rattle.std.proofs.Common.{rules, ◌≡◌, ℕ, List, ◌++◌, codes, ap, ◌∙◌}
use Rattle.iss_field.specs.Names.{name_text}
use Rattle.iss_event.proofs.Lines.{named, bad_field}
use Rattle.iss_event.proofs.writing.put_bad_field.Goals as goal

pub returns : goal.returns
returns c =
    let text : name_text c.args.name ≡ c.as_bytes.result.now = search rules in
    named c.put_between.result _ _ _ _
    (bad_field c.args.name ∙ ap (λ (t : List ℕ). codes "{\"fault\":\"FIELD\",\"field\":\"" ++ (t ++ codes "\",\"reply\":\"form\"}\n")) text) c.put_between.ensures
