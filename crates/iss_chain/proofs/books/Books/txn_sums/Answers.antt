use Rattle.std.proofs.Common.{rules, ◌≡◌, sym, ap, ◌∙◌}
use Rattle.std.specs.Prelude.{Option, None}
use Rattle.std.specs.Option.{option_map}
use Rattle.iss_model.specs.rules.Activity.{TxnNow}
use Rattle.iss_chain.specs.Carrying.{carried_of}
use Rattle.iss_chain.specs.Rows.{chain_of}
use Rattle.iss_chain.proofs.Carried.{sums_there}
use Rattle.iss_chain.proofs.Standing.{found, unknown}
use Rattle.iss_chain.proofs.books.Books.txn_sums.Goals as goal

pub carried_at-requires : goal.carried_at-requires
carried_at-requires c = (found c.args.txn.now c.args.self.now.holds.txns c.in_ok-place.place (sym c.in_ok-place.ensures.place)).within

pub returns : goal.returns
returns c = sums_there (chain_of c.args.self.now) c.args.txn.now c.in_ok-place.place c.carried_at.result c.in_ok-place.ensures.place c.carried_at.ensures

pub returns-in_err-place : goal.returns-in_err-place
returns-in_err-place c =
    let failed : c.from_residual.result ≡ None = search rules in
    failed
    ∙ ap (λ (o : Option TxnNow). option_map (λ t. (carried_of (chain_of c.args.self.now) t).sums) o)
    (sym (unknown c.args.txn.now c.args.self.now.holds.txns (sym c.in_err-place.ensures.place)))
