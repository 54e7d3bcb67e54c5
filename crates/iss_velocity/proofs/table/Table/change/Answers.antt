use Rattle.std.proofs.Common.{◌∙◌, ap}
use Rattle.iss_velocity.specs.Puts.{standing_after_change}
use Rattle.iss_velocity.specs.Keeping.{controls_from}
use Rattle.iss_velocity.proofs.Putting.{changed_controls, table_mapped}
use Rattle.iss_velocity.proofs.Restoring.{apart_changed}
use Rattle.iss_velocity.proofs.table.Table.change.Goals as goal

pub returns-clause-keyed : goal.returns-clause-keyed
returns-clause-keyed c =
    record {
      keyed = c.requires.keyed.keyed;
      apart = apart_changed c.args.name.now c.args.change.now c.args.self.now.controls.items c.change_all.new.controls.items c.requires.keyed.apart c.change_all.ensures;
      beyond = table_mapped c.args.self.now.users c.args.self.now.past c.args.self.now.controls.items c.change_all.new.controls.items (standing_after_change c.args.name.now c.args.change.now)
          c.requires.keyed.beyond c.change_all.ensures;
    }

pub returns-clause-changed : goal.returns-clause-changed
returns-clause-changed c =
    ap (controls_from c.args.self.now.users c.args.self.now.past 0) c.change_all.ensures
    ∙ changed_controls c.args.self.now.users c.args.self.now.past c.args.name.now c.args.change.now c.args.self.now.controls.items
