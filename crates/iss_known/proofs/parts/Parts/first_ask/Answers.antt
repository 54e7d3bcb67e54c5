use Rattle.std.proofs.Common.{◌∙◌, ap, Some, option_map}
use Rattle.iss_model.specs.rules.Asks.{Ask}
use Rattle.iss_known.specs.declared.asks.Purchase.{Purchase}
use Rattle.iss_known.specs.Reading.{ask_made, facts_known, known_in}
use Rattle.iss_known.proofs.Taking.{no_product, product_sold}
use Rattle.iss_known.proofs.parts.Parts.first_ask.Goals as goal

pub returns-in_err-sold : goal.returns-in_err-sold
returns-in_err-sold c =
    let p : Purchase = c.args.purchase.now in
    ap (option_map ask_made) c.from_residual-in_err-sold.ensures
    ∙ no_product (facts_known (known_in c.args.self.now) p.number) p.token p.card p.currency p.amount p.mcc p.mid p.partial p.at
    c.in_ok-card.card.now c.in_ok-card.ensures c.in_err-sold.ensures

pub returns : goal.returns
returns c =
    let p : Purchase = c.args.purchase.now in
    ap (λ (x : Ask). Some x) c.ask.ensures
    ∙ product_sold (facts_known (known_in c.args.self.now) p.number) p.token p.card p.currency p.amount p.mcc p.mid p.partial p.at
    c.in_ok-card.card.now c.in_ok-sold.sold.now c.in_ok-card.ensures c.in_ok-sold.ensures
