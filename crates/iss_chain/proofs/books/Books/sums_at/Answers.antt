use Rattle.std.proofs.Common.{List, length, ap, ◌∙◌}
use Rattle.std.specs.Prelude.{Option}
use Rattle.iss_chain.specs.declared.sums.PostSums.{PostSums}
use Rattle.iss_chain.specs.Rows.{row_in, row_sums}
use Rattle.iss_chain.proofs.RowPlaces.{sums_there}
use Rattle.iss_chain.proofs.books.Books.sums_at.Goals as goal

pub returns : goal.returns
returns c = sums_there (row_in c.args.self.now.sums.items) (length c.args.self.now.holds.txns) c.args.place c.sums_of.result c.requires
    (c.sums_of.ensures ∙ ap (λ (rows : List (Option PostSums)). row_sums (row_in rows c.args.place)) c.deref.ensures.value)
