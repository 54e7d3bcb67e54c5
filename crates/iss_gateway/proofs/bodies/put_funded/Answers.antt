use Rattle.std.proofs.Common.{List, ℕ, ◌++◌, codes, ap, ◌∙◌}
use Rattle.iss_jit.proofs.Objects.{and_then, ended}
use Rattle.iss_gateway.proofs.BodyTexts.{funded_after}
use Rattle.iss_gateway.proofs.bodies.put_funded.Goals as goal

pub returns : goal.returns
returns c =
    let start = c.in_ok-extend_from_slice.ensures.items in
    let amount = and_then _ c.in_ok-put_amount_text.ensures start in
    let middle = and_then _ c.in_ok-extend_from_slice-2.ensures.items amount in
    let token = and_then _ c.in_ok-put_token.ensures middle in
    ended c.extend_from_slice-3.result c.put_token.new.out.items (codes "\"}\n") _ _ c.extend_from_slice-3.ensures.items
    (ap (λ (t : List ℕ). t ++ codes "\"}\n") token ∙ funded_after c.args.out.now.items c.args.token.now c.args.amount c.args.currency)
