use Rattle.iss_gateway.proofs.Indexed.{none_indexed}
use Rattle.iss_gateway.proofs.table.Table.new.Goals as goal

pub returns-clause-indexed : goal.returns-clause-indexed
returns-clause-indexed c =
    none_indexed _ c.new-3.result c.new-4.result c.new-5.result (λ i. record { promises = c.new.ensures.items i; notes = c.new-2.ensures.items i })
    c.new-3.ensures.empty c.new-4.ensures.empty c.new-5.ensures.empty
