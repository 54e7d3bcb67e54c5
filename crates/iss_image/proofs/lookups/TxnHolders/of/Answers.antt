use Rattle.iss_image.proofs.Firsts.{holders_by_firsts}
use Rattle.iss_image.proofs.lookups.TxnHolders.of.Goals as goal

pub returns : goal.returns
returns c = holders_by_firsts c.in_ok-purchases.purchases c.in_ok-cards.cards c.args.events.now c.in_ok-purchases.ensures c.in_ok-cards.ensures
