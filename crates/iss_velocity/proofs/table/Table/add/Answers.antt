use Rattle.std.proofs.Common.{◌≡◌, ◌<◌, ◌≤◌, length, Bool, cond, Some, None, sym, ap, ◌∙◌, arith, rules, Err}
use Rattle.iss_model.specs.declared.decision.Reason.TheVariants as reason
use Rattle.iss_model.specs.declared.limits.TheConstants.{MOST_OF_A_KIND}
use Rattle.iss_velocity.specs.declared.controls.ControlFault.TheVariants.{OutOfMemory}
use Rattle.iss_velocity.specs.Puts.{control_result_reason}
use Rattle.iss_velocity.proofs.Putting.{full_so, not_full_so, put_last, table_more}
use Rattle.iss_velocity.proofs.Restoring.{apart_more}
use Rattle.iss_velocity.proofs.table.Table.add.Goals as goal

pub returns-then-len-ge-MOST_OF_A_KIND-clause-reason : goal.returns-then-len-ge-MOST_OF_A_KIND-clause-reason
returns-then-len-ge-MOST_OF_A_KIND-clause-reason c =
    let len = c.args.self.now.controls.ok.0 in
    let many : MOST_OF_A_KIND ≤ length c.args.self.now.controls.items = omega (arith, len) in
    ap (λ (b : Bool). cond b (Some reason.Limit) None) (sym (full_so c.args.self.now.users c.args.self.now.past c.args.self.now.controls.items many))

pub returns-in_err-push-clause-reason : goal.returns-in_err-push-clause-reason
returns-in_err-push-clause-reason c =
    let len = c.args.self.now.controls.ok.0 in
    let few : length c.args.self.now.controls.items < MOST_OF_A_KIND = omega (arith, len) in
    let failed : c.from_residual.result ≡ Err OutOfMemory = search rules in
    ap control_result_reason failed
    ∙ ap (λ (b : Bool). cond b (Some reason.Limit) None) (sym (not_full_so c.args.self.now.users c.args.self.now.past c.args.self.now.controls.items few))

pub returns-clause-keyed : goal.returns-clause-keyed
returns-clause-keyed c =
    record {
      keyed = c.requires.keyed.keyed;
      apart = apart_more c.args.self.now.users c.args.self.now.past c.args.self.now.controls.items c.push.new.things.items (record { first = c.args.number; control = c.args.control.now })
          c.requires.keyed.apart c.requires.new c.in_ok-push.ensures.pushed;
      beyond = table_more c.args.self.now.users c.args.self.now.past c.args.self.now.controls.items c.push.new.things.items (record { first = c.args.number; control = c.args.control.now })
          c.requires.keyed.beyond c.in_ok-push.ensures.pushed;
    }

pub returns-clause-put : goal.returns-clause-put
returns-clause-put c =
    put_last c.args.self.now.users c.args.self.now.past c.args.self.now.controls.items c.push.new.things.items c.args.number c.args.control.now c.requires.keyed.keyed c.requires.keyed.beyond
    c.in_ok-push.ensures.pushed c.requires.new

pub returns-clause-reason : goal.returns-clause-reason
returns-clause-reason c =
    let len = c.args.self.now.controls.ok.0 in
    let few : length c.args.self.now.controls.items < MOST_OF_A_KIND = omega (arith, len) in
    ap (λ (b : Bool). cond b (Some reason.Limit) None) (sym (not_full_so c.args.self.now.users c.args.self.now.past c.args.self.now.controls.items few))
