use Rattle.std.proofs.Common.{ℕ, List, [], ◌∷◌, ◌++◌, ap, ◌∙◌}
use Rattle.iss_jit.proofs.Objects.{and_then, ended, request_after}
use Rattle.iss_jit.proofs.texts.put_request.Goals as goal

pub returns : goal.returns
returns c =
    let amount = c.in_ok-put_amount.ensures in
    let card = and_then _ c.in_ok-put_token.ensures amount in
    let currency = and_then _ c.in_ok-put_currency.ensures card in
    let event = and_then _ c.in_ok-put_token-2.ensures currency in
    let mcc = and_then _ c.in_ok-put_mcc.ensures event in
    let method = and_then _ c.in_ok-put_method.ensures mcc in
    let mid = and_then _ c.in_ok-put_token-3.ensures method in
    let number = and_then _ c.in_ok-put_number.ensures mid in
    let partial = and_then _ c.in_ok-put_partial.ensures number in
    let call = and_then _ c.in_ok-put_call.ensures partial in
    let txn = and_then _ c.in_ok-put_token-4.ensures call in
    let user = and_then _ c.in_ok-put_token-5.ensures txn in
    ended c.extend_from_slice.result c.put_token-5.new.out.items (125 ∷ []) _ _ c.extend_from_slice.ensures.items
    (ap (λ (t : List ℕ). t ++ (125 ∷ [])) user ∙ request_after c.args.out.now.items c.args.instance c.args.opened.now)
