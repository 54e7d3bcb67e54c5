use Rattle.std.proofs.Common.{rules, ◌≡◌, ◌⊎◌, ℕ, Some, sym, subst}
use Rattle.iss_edge.specs.declared.status.TheConstants.{DONE, OUT_OF_MEMORY}
use Rattle.iss_archive_run.specs.declared.words.Command.TheVariants.{Archive, Statement}
use Rattle.iss_archive_run.specs.Words.{command_in}
use Rattle.iss_archive_run.specs.Runs.{IsOwn}
use Rattle.iss_archive_run.proofs.Owns.{own_status, own_statement}
use Rattle.iss_archive_run.proofs.top.archive.Goals as goal

pub returns-in-Ok-Archive : goal.returns-in-Ok-Archive
returns-in-Ok-Archive g c =
    let said : command_in c.args.words.now ≡ Some Archive = search rules in
    rw said (record {
      ended = c.keep.result;
      status_is = c.exit_status.ensures;
      done = c.keep.ensures.done;
      untouched = c.keep.ensures.untouched;
      own = λ disk output keeper.
          subst IsOwn (sym c.exit_status.ensures)
          (own_status (g.E.Edge.faults c.args.edge.now) (g.E.Edge.faults c.keep.new.edge) (g.K.Keeper.faults c.args.keeper.now) (g.K.Keeper.faults c.keep.new.keeper) c.keep.result c.keep.ensures.done.done.caused
          disk output keeper);
    })

pub returns-in-Ok-Statement : goal.returns-in-Ok-Statement
returns-in-Ok-Statement g c =
    let said : command_in c.args.words.now ≡ Some (Statement c.in-Ok-Statement.asked) = search rules in
    rw said (record {
      ended = c.write_statement.result;
      status_is = c.statement_status.ensures;
      done = c.write_statement.ensures;
      own = λ output keeper.
          subst (λ (n : ℕ). (n ≡ DONE) ⊎ (n ≡ OUT_OF_MEMORY)) (sym c.statement_status.ensures)
          (own_statement (g.E.Edge.faults c.args.edge.now) (g.E.Edge.faults c.write_statement.new.edge) (g.K.Keeper.faults c.args.keeper.now) (g.K.Keeper.faults c.write_statement.new.keeper) c.write_statement.result
          c.write_statement.ensures.caused output keeper);
    })
