-- Each post of a book stays in one currency.
use Rattle.std.proofs.Common.{ℕ, Bool, ◌&&◌, List, [], ◌∷◌, fold, refl, ap, ap₂, ◌∙◌}
use Rattle.std.specs.List.{list_all}
use Rattle.std.proofs.lemmas.List.Folds.{list_all-append}
use Rattle.iss_model.specs.declared.input.Record.{Record}
use Rattle.iss_model.specs.declared.entry.Entry.{Entry}
use Rattle.iss_model.specs.rules.Stepping.{step}
use Rattle.iss_model.specs.rules.Histories.{History, nothing_yet, numbered_rows, history_keeper, history_of}
use Rattle.iss_acts.specs.Posts.{posts_within_one_currency}
use Rattle.iss_acts.proofs.Posts.{step_posts_within}
use Rattle.iss_agreement.proofs.Records.{step_rows}
use Rattle.iss_laws.specs.Balances.{PostsStay}
use Rattle.iss_laws.proofs.Rows.{number_after, numbered_pass}

step_stays : (h : History) (r : Record) → PostsStay h → PostsStay (step history_keeper h r).world
step_stays h r before =
    let n : ℕ = number_after h r in
    let es : List Entry = (step history_keeper h r).entries in
    ap (list_all (λ row. posts_within_one_currency row.entry)) (step_rows h r)
    ∙ list_all-append (λ row. posts_within_one_currency row.entry) h.rows (numbered_rows n es)
    ∙ ap₂ (λ (a b : Bool). a && b) before (numbered_pass posts_within_one_currency n es ∙ (step_posts_within history_keeper h r).all)

records_stay : (h : History) (rs : List Record) → PostsStay h → PostsStay (fold (λ h r. (step history_keeper h r).world) h rs)
records_stay h [] before = before
records_stay h (r ∷ rs) before = records_stay (step history_keeper h r).world rs (step_stays h r before)

pub posts_stay : (rs : List Record) → PostsStay (history_of rs)
posts_stay rs = records_stay nothing_yet rs refl
