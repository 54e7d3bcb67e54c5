use Rattle.std.proofs.Common.{◌≡◌, ℕ, suc, ◌+◌, drop, get_or, Option, Some, sym, ap, ap₂, ◌∙◌, arith}
use Rattle.std.proofs.lemmas.List.{get_or_default, take_rest}
use Rattle.iss_model.specs.declared.decision.Verdict.{Verdict}
use Rattle.iss_accepted.specs.declared.row.EventRow.{EventRow}
use Rattle.iss_accepted.specs.declared.short.ShortRow.{ShortRow}
use Rattle.iss_accepted.specs.Short.{next_start}
use Rattle.iss_accepted.proofs.Shortened.{whole_at}
use Rattle.iss_accepted.proofs.short.whole_row.Goals as goal

-- a row with nothing
abbrev nothing : ShortRow
nothing = record { start = 0; number = 0; verdict = record { code = 0 } }

-- the row with this end and this verdict
abbrev row_with : ShortRow → ℕ → Option Verdict → EventRow
row_with row end v = record { number = row.number; start = row.start; end = end; verdict = v }

pub returns : goal.returns
returns c =
    let row : ShortRow = get_or c.args.rows.now c.args.place nothing in
    let next : c.args.place + 1 ≡ suc c.args.place = omega arith in
    let end : c.next_start.result ≡ next_start c.args.size (drop (suc c.args.place) c.args.rows.now) =
    c.next_start.ensures
    ∙ ap (next_start c.args.size) (take_rest c.args.rows.now (c.args.place + 1) ∙ ap (λ (n : ℕ). drop n c.args.rows.now) next)
    in
    whole_at c.args.others.now c.args.size c.args.rows.now c.args.place row c.requires (get_or_default c.args.rows.now c.args.place nothing row c.requires)
    ∙ ap₂ (λ (n : ℕ) (v : Option Verdict). Some (row_with row n v)) (sym end) (sym c.verdict.ensures)
