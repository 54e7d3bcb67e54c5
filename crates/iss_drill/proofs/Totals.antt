-- What a drill reports is what the book of its records shows.
use Rattle.std.proofs.Common.{◌≡◌, ℕ, ◌+◌, ◌*◌, List, [], refl, ap, ◌∙◌}
use Rattle.std.specs.Prelude.{Some}
use Rattle.iss_model.specs.declared.currency.Currency.TheVariants.{Usd}
use Rattle.iss_model.specs.declared.account.Account.TheVariants as account
use Rattle.iss_model.specs.rules.Facts.{balance_in}
use Rattle.iss_model.specs.rules.Histories.{History, history_facts, history_of}
use Rattle.iss_model.specs.run.Rooms.{Room}
use Rattle.iss_model.specs.run.Runs.{Run, run_after}
use Rattle.iss_model.specs.state.Cores.{core_facts}
use Rattle.iss_model.specs.texts.DrillLines.{DrillTotals, drill_line}
use Rattle.iss_core.proofs.OnBook.{facts_on_book}
use Rattle.iss_opening.specs.Values.{StoreNow}
use Rattle.iss_standing.specs.Rooms.{room_in}
use Rattle.iss_opening.specs.Standing.{StandsFor, IsOpenedOn}
use Rattle.iss_drill.specs.declared.tally.Tally.{Tally}
use Rattle.iss_drill.specs.declared.report.Totals.{Totals}
use Rattle.iss_drill.specs.Drills.{drill_form, drill_seat, drill_run, drill_lines, drill_totals, drill_text, held_of_users}
use Rattle.iss_drill.specs.Tallies.{no_tally}
use Rattle.iss_drill.specs.Reports.{totals_in, totals_by, IsTotals}
use Rattle.iss_drill.specs.Giving.{HasGiven}

pub begun : (n : ℕ) (s : StoreNow) → IsOpenedOn (drill_form s.layout.size) drill_seat [] s → s.layout.size ≡ 1048576 + 512 * n → HasGiven (drill_run n) [] no_tally s
begun n s opened size =
    record {
      stands =
          record {
            stands = opened.stands;
            history = refl;
            room = ap (λ (room : Room). Some room) opened.room_is ∙ ap (λ (bytes : ℕ). Some (room_in (drill_form bytes) drill_seat)) size;
          };
      approved = refl;
      declined = refl;
      notices = refl;
      lines = refl;
      repeats = refl;
    }

facts_are : (run : Run) (s : StoreNow) → StandsFor s run.history.records → history_of run.history.records ≡ run.history → core_facts s.core.state ≡ history_facts run.history
facts_are run s stands history =
    facts_on_book s.core run.history.records stands.core ∙ ap (λ (h : History). history_facts h) history

totals_are : (n : ℕ) (t : Tally) (s : StoreNow) → HasGiven (drill_run n) (drill_lines n) t s → totals_by (core_facts s.core.state) t ≡ drill_totals n
totals_are n t s given =
    let facts : core_facts s.core.state ≡ history_facts (run_after (drill_run n) (drill_lines n)).history =
    facts_are (run_after (drill_run n) (drill_lines n)) s given.stands.stands given.stands.history in
    λ i. record {
      approved = given.approved i;
      declined = given.declined i;
      gateway = balance_in (facts i) (account.Gateway Usd);
      held = held_of_users (facts i) 10;
      lines = given.lines i;
      network = balance_in (facts i) (account.Network Usd);
      notices = given.notices i;
      programme = balance_in (facts i) (account.Programme Usd);
      records = (facts i).count;
      repeats = given.repeats i;
    }

pub drilled_line : (n : ℕ) (t : Tally) (s : StoreNow) (totals : Totals) (line : List ℕ) → HasGiven (drill_run n) (drill_lines n) t s
    → IsTotals (core_facts s.core.state) t totals → line ≡ drill_line (totals_in totals) → line ≡ drill_text n
drilled_line n t s totals line given is written = written ∙ ap (λ (d : DrillTotals). drill_line d) (is ∙ totals_are n t s given)
