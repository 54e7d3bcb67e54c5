-- Transactions with their sums, and balances that are set.
use Rattle.std.specs.Prelude.{ℕ, ℤ, List}
use Rattle.std.specs.FinMap as finite
use Rattle.iss_model.specs.declared.account.Account.{Account}
use Rattle.iss_model.specs.declared.account.Part.TheVariants as part
use Rattle.iss_model.specs.declared.state.Carried.{Carried}
use Rattle.iss_model.specs.declared.state.TxnSums.{TxnSums}
use Rattle.iss_model.specs.Sums.{account_key, part_key}
use Rattle.iss_model.specs.rules.Activity.{TxnNow}
use Rattle.iss_model.specs.rules.Facts.{not_below}
use Rattle.iss_model.specs.state.Kept.{kept_at}
use Rattle.iss_hold.specs.declared.hold.Hold.{Hold}
use Rattle.iss_chain.specs.declared.sums.PostSums.{PostSums}
use Rattle.iss_chain.specs.Values.{ChainNow}

-- a transaction with its sums
abbrev pub carried_of : ChainNow → TxnNow → Carried
carried_of c t =
    let token = t.txn.token in
    record {
      txn = token;
      sums = record {
        live = t.live;
        g = not_below (kept_at c.holdings.parts (part_key token part.G));
        p = not_below (kept_at c.holdings.parts (part_key token part.P));
        s = not_below (kept_at c.holdings.parts (part_key token part.S));
        cleared = not_below (kept_at c.txn_sums.cleared token);
        refunded = not_below (kept_at c.txn_sums.refunded token);
        paid = not_below (kept_at c.txn_sums.paid token);
      };
    }

-- what a transaction holds, with the sums of its posts
abbrev pub sums_with : Hold → PostSums → TxnSums
sums_with hold s =
    record {
      live = hold.live;
      g = hold.g;
      p = hold.p;
      s = hold.s;
      cleared = not_below s.cleared;
      refunded = not_below s.refunded;
      paid = not_below s.paid;
    }

-- these sums are those of this transaction
abbrev pub carried_with : List ℕ → TxnSums → Carried
carried_with token sums = record { txn = token; sums = sums }

-- a balance is set
abbrev pub with_balance : ChainNow → Account → ℤ → ChainNow
with_balance c account balance = record c { balances = finite.insert c.balances (account_key account) balance }
