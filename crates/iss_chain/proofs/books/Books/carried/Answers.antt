use Rattle.std.proofs.Common.{◌≡◌, ◌+◌, ℕ, suc, [], ◌∷◌, ◌++◌, List, length, map, take, ap, ◌∙◌, arith}
use Rattle.iss_model.specs.declared.state.Carried.{Carried}
use Rattle.iss_model.specs.rules.Activity.{TxnNow}
use Rattle.iss_chain.specs.Carrying.{carried_of}
use Rattle.iss_chain.specs.Rows.{chain_of}
use Rattle.iss_chain.proofs.Carried.{listed_more, all_taken}
use Rattle.iss_chain.proofs.books.Books.carried.Goals as goal

pub loop-place-preserved : goal.loop-place-preserved
loop-place-preserved c =
    let b = c.args.self.now in
    let next : suc c.loop-place.place ≡ c.loop-place.place + 1 = omega arith in
    c.in_ok-push.ensures.items
    ∙ ap (λ (xs : List Carried). xs ++ c.carried_at.result ∷ []) c.loop-place.invariant
    ∙ listed_more (carried_of (chain_of b)) b.holds.txns c.loop-place.place c.carried_at.result c.carried_at.ensures
    ∙ ap (λ (n : ℕ). map (carried_of (chain_of b)) (take n b.holds.txns)) next

pub returns : goal.returns
returns c =
    let b = c.args.self.now in
    let len = c.len-place-end.ensures in
    let end : c.loop-place.place ≡ length b.holds.txns = omega (arith, len) in
    c.loop-place.invariant
    ∙ ap (λ (n : ℕ). map (carried_of (chain_of b)) (take n b.holds.txns)) end
    ∙ ap (λ (xs : List TxnNow). map (carried_of (chain_of b)) xs) (all_taken b.holds.txns)
