use Rattle.std.proofs.Common.{rules, ◌≡◌, ℕ, List, ◌++◌, codes, decimal, ap, ◌∙◌}
use Rattle.iss_event.proofs.Lines.{ended, conflict_after}
use Rattle.iss_event.proofs.writing.put_conflict.Goals as goal

pub returns : goal.returns
returns c =
    let event = c.in_ok-put_between.ensures ∙ ap (λ (t : List ℕ). c.args.out.now.items ++ (codes "{\"event\":\"" ++ (t ++ codes "\",\"record\":"))) c.text.ensures.value in
    let same : c.from.result ≡ c.args.number = search rules in
    let number = c.in_ok-put_decimal.ensures ∙ ap (λ (n : ℕ). c.put_between.new.out.items ++ decimal n) same ∙ ap (λ (t : List ℕ). t ++ decimal c.args.number) event in
    ended c.extend_from_slice.result _ (codes ",\"reply\":\"conflict\"}\n") _ _ c.extend_from_slice.ensures.items
    (ap (λ (t : List ℕ). t ++ codes ",\"reply\":\"conflict\"}\n") number ∙ conflict_after c.args.out.now.items c.args.event.now c.args.number)
