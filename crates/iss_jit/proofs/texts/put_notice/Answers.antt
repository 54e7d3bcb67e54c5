use Rattle.std.proofs.Common.{ℕ, List, [], ◌∷◌, ◌++◌, ap, ◌∙◌}
use Rattle.iss_jit.proofs.Objects.{and_then, ended, notice_after}
use Rattle.iss_jit.proofs.texts.put_notice.Goals as goal

pub returns : goal.returns
returns c =
    let amount = c.in_ok-put_amount.ensures in
    let currency = and_then _ c.in_ok-put_currency.ensures amount in
    let gateway = and_then _ c.in_ok-put_amount-2.ensures currency in
    let method = and_then _ c.in_ok-put_method.ensures gateway in
    let number = and_then _ c.in_ok-put_number.ensures method in
    let call = and_then _ c.in_ok-put_ended.ensures number in
    let txn = and_then _ c.in_ok-put_token.ensures call in
    let user = and_then _ c.in_ok-put_token-2.ensures txn in
    ended c.extend_from_slice.result c.put_token-2.new.out.items (125 ∷ []) _ _ c.extend_from_slice.ensures.items
    (ap (λ (t : List ℕ). t ++ (125 ∷ [])) user ∙ notice_after c.args.out.now.items c.args.instance c.args.notice.now)
