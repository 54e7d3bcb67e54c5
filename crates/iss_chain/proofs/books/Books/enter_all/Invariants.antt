use Rattle.std.proofs.Common.{◌≡◌, fold, drop}
use Rattle.iss_chain.specs.Values.{chain_after_entry}
use Rattle.iss_chain.specs.Entering.{AreFit, StaysSmall}
use Rattle.iss_chain.specs.Rows.{chain_of, AreBooksKept}
use Rattle.iss_chain.proofs.books.Books.enter_all.Given as goal

-- what all entries come to is what the rest comes to on what stands now, and the rest can be entered
abbrev pub invariant-loop-entry : goal.invariant-loop-entry
invariant-loop-entry l = record {
  kept : AreBooksKept l.self;
  fit : AreFit (chain_of l.self) (drop l.entry-index l.entries);
  small : StaysSmall (chain_of l.self) (drop l.entry-index l.entries);
  entered : fold chain_after_entry (chain_of l.self) (drop l.entry-index l.entries) ≡ fold chain_after_entry (chain_of l.fn.self) l.entries;
}
