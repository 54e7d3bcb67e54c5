-- What a core tells of the records that it stands for.
use Rattle.std.proofs.Common.{◌≡◌, List, length, refl, sym, ◌∙◌}
use Rattle.iss_model.specs.declared.input.Record.{Record}
use Rattle.iss_model.specs.declared.decision.Judged.TheVariants as judged
use Rattle.iss_model.specs.rules.Facts.{Facts}
use Rattle.iss_model.specs.rules.Judging.{judge}
use Rattle.iss_model.specs.rules.Histories.{Follows, history_keeper, history_of}
use Rattle.iss_model.specs.state.Cores.{core_keeper}
use Rattle.iss_agreement.proofs.JudgedAgain.{new_at, not_before}
use Rattle.iss_core.specs.Values.{CoreNow, IsNext, CoreStandsFor}
use Rattle.iss_core.proofs.OnBook.{judged_on_book, told_on_book, count_of_book}

-- a record that is next on a core follows on the records that it stands for
pub next_follows : (c : CoreNow) (rs : List Record) (r : Record) → CoreStandsFor c rs → IsNext c r → Follows (history_of rs) r
next_follows c rs r stands next =
    let new : judge history_keeper (history_of rs) r.input r.at ≡ judged.New r =
    sym (judged_on_book c rs r.input r.at (judge core_keeper c.state r.input r.at) stands refl) ∙ next in
    record {
      stamp = not_before history_keeper (history_of rs) r.at r.at (new_at history_keeper (history_of rs) r.input r.at r new);
      is_new = new;
    }

pub count_on_book : (c : CoreNow) (rs : List Record) → CoreStandsFor c rs → c.state.count ≡ length rs
count_on_book c rs stands = told_on_book c rs (λ (f : Facts). f.count) c.state.count stands refl ∙ count_of_book rs
