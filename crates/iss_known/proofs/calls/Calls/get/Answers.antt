use Rattle.std.proofs.Common.{List, ◌+◌, ◌≡◌, slice_get, option_map, sym, ap, ◌∙◌, arith}
use Rattle.iss_model.specs.rules.Activity.{CallNow, call_numbered}
use Rattle.iss_known.proofs.Numbered.{found_at, got, none_at}
use Rattle.iss_known.proofs.calls.Calls.get.Goals as goal

pub returns-in_err-checked_sub : goal.returns-in_err-checked_sub
returns-in_err-checked_sub c =
    ap (option_map (λ call. call.now)) c.from_residual.ensures
    ∙ sym (none_at c.self.inside.list.items c.args.id.0 c.in_err-checked_sub.ensures c.self.invariant)
    ∙ ap (λ (cs : List CallNow). call_numbered c.args.id.0 cs) c.self.view_is

pub returns : goal.returns
returns c =
    let place = c.in_ok-checked_sub.field-0 in
    let first = c.in_ok-checked_sub.ensures in
    let number : c.args.id.0 ≡ place + 1 = omega (arith, first.0, first.1) in
    got c.as_slice-calls.result.now place c.get.result c.get.ensures.lookup.0 c.get.ensures.lookup.1
    ∙ ap (λ (xs : List CallNow). slice_get xs place) c.as_slice-calls.ensures.value
    ∙ sym (found_at c.self.inside.list.items place c.args.id.0 number c.self.invariant)
    ∙ ap (λ (cs : List CallNow). call_numbered c.args.id.0 cs) c.self.view_is
