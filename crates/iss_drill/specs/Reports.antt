-- What the program reports of a drill, as the definitions have it.
use Rattle.std.specs.Prelude.{◌≡◌, ◌^◌}
use Rattle.iss_model.specs.declared.currency.Currency.TheVariants.{Usd}
use Rattle.iss_model.specs.declared.account.Account.TheVariants as account
use Rattle.iss_model.specs.rules.Facts.{Facts, balance_in}
use Rattle.iss_model.specs.state.Cores.{CoreState}
use Rattle.iss_model.specs.texts.DrillLines.{DrillTotals}
use Rattle.iss_state.specs.Bounds.{AreWithin}
use Rattle.iss_drill.specs.declared.tally.Tally.{Tally}
use Rattle.iss_drill.specs.declared.report.Totals.{Totals}
use Rattle.iss_drill.specs.Drills.{held_of_users}

-- these totals
abbrev pub totals_in : Totals → DrillTotals
totals_in t =
    record {
      approved = t.approved;
      declined = t.declined;
      gateway = t.gateway;
      held = t.held;
      lines = t.lines;
      network = t.network;
      notices = t.notices;
      programme = t.programme;
      records = t.records;
      repeats = t.repeats;
    }

-- the totals of these facts and this tally
abbrev pub totals_by : Facts → Tally → DrillTotals
totals_by f t =
    record {
      approved = t.approved;
      declined = t.declined;
      gateway = balance_in f (account.Gateway Usd);
      held = held_of_users f 10;
      lines = t.lines;
      network = balance_in f (account.Network Usd);
      notices = t.notices;
      programme = balance_in f (account.Programme Usd);
      records = f.count;
      repeats = t.repeats;
    }

-- what each user holds in a currency is within 2 ^ 58 on either side of 0, so that what ten users hold fits
abbrev pub HoldsAreFew : CoreState → Type 0
HoldsAreFew s = AreWithin (2 ^ 58) s.holdings.held

-- these totals are those of these facts and this tally
abbrev pub IsTotals : Facts → Tally → Totals → Type 0
IsTotals f t totals = totals_in totals ≡ totals_by f t
