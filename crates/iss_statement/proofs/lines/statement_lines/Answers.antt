use Rattle.std.proofs.Common.{◌≡◌, ◌++◌, ℤ, ◌+ℤ◌, ◌-◌, length, map, take, drop, codes, FitsSigned, w64, to_z, of_z, ap, subst, ◌∙◌, rules}
use Rattle.std.specs.Int.{w128}
use Rattle.std.proofs.lemmas.Int.{to_z-of_z}
use Rattle.std.proofs.lemmas.List.{take_rest}
use Rattle.iss_archive.specs.Archived.{rows_of_user}
use Rattle.iss_archive.specs.Statement.{added_by, row_line, balance_line}
use Rattle.iss_statement.specs.Openings.{IsOpening, rows_to}
use Rattle.iss_statement.proofs.Steps.{whole_statement}
use Rattle.iss_statement.proofs.lines.statement_lines.Goals as goal

pub returns : goal.returns
returns c =
    let u = c.args.user.now in
    let cur = c.args.currency in
    let rows = c.args.rows.now in
    let o = c.opening_of-opening.result in
    let closing = c.in_ok-closing.closing in
    let first : to_z w64 (of_z w64 c.args.from) ≡ c.args.from = to_z-of_z w64 c.args.from c.ranges.from in
    let last : to_z w64 (of_z w64 c.args.to) ≡ c.args.to = to_z-of_z w64 c.args.to c.ranges.to in
    let fits : FitsSigned w128 o.balance = search rules in
    let had : to_z w128 (of_z w128 o.balance) ≡ o.balance = to_z-of_z w128 o.balance fits in
    let closing_fits : FitsSigned w128 closing = search rules in
    let has : to_z w128 (of_z w128 closing) ≡ closing = to_z-of_z w128 closing closing_fits in
    let rest : take (length rows - o.rows) (drop o.rows rows) ≡ drop o.rows rows = take_rest rows o.rows in
    let put : c.put_rows.new.lines.items ≡ c.push.new.self.items ++ map (row_line u cur) (rows_to (to_z w64 (of_z w64 c.args.to)) (rows_of_user u cur (take (length rows - o.rows) (drop o.rows rows)))) =
    c.in_ok-closing.ensures.lines in
    let sum : closing ≡ to_z w128 (of_z w128 o.balance) +ℤ added_by u cur (rows_to (to_z w64 (of_z w64 c.args.to)) (rows_of_user u cur (take (length rows - o.rows) (drop o.rows rows)))) = c.in_ok-closing.ensures.closing in
    whole_statement u cur c.args.from c.args.to closing rows o c.in_ok-balance_line.field-0 c.in_ok-balance_line-2.field-0 c.new-lines.result.items c.push.new.self.items c.put_rows.new.lines.items c.push-2.new.self.items
    (subst (λ (n : ℤ). IsOpening u cur n rows o) first c.opening_of-opening.ensures)
    c.new-lines.ensures.items
    (c.in_ok-balance_line.ensures ∙ ap (λ (n : ℤ). balance_line (codes "opening") n cur) had)
    c.in_ok-push.ensures.items
    (put ∙ (λ i. c.push.new.self.items ++ map (row_line u cur) (rows_to (last i) (rows_of_user u cur (rest i)))))
    (sum ∙ (λ i. had i +ℤ added_by u cur (rows_to (last i) (rows_of_user u cur (rest i)))))
    (c.in_ok-balance_line-2.ensures ∙ ap (λ (n : ℤ). balance_line (codes "closing") n cur) has)
    c.in_ok-push-2.ensures.items
