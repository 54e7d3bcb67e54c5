use Rattle.std.proofs.Common.{◌≡◌, ◌∙◌, Bool, true, false, cond, Some, sym, ap}
use Rattle.std.specs.Str.{bytes_eq}
use Rattle.json.specs.Find.{get_member}
use Rattle.json.specs.Value.{value_view, members_view}
use Rattle.json.proofs.Trees.{get_member-push}
use Rattle.iss_field.proofs.found.last_named.Goals as goal

pub returns-then-is_named : goal.returns-then-is_named
returns-then-is_named c =
    let left = c.next.new.self.iter.rest.now in
    let m = c.in-Some.field-0.now in
    let name = c.args.name.now in
    let step = c.loop-spelled.invariant ∙ ap (λ ys. get_member name (members_view ys)) c.in-Some.ensures.steps ∙ get_member-push name left m in
    let pick = λ (b : Bool). cond b (Some (value_view m.1)) (get_member name (members_view left)) in
    let told = c.is_named.ensures ∙ ap (λ text. bytes_eq text c.as_bytes-in-loop-spelled.result.now) c.as_bytes.ensures.value ∙ ap (bytes_eq m.0.now) c.as_bytes-in-loop-spelled.ensures.value in
    let same : bytes_eq m.0.now name ≡ true = sym told ∙ c.if-is_named.true in
    sym (step ∙ ap pick same)

pub loop-spelled-preserved : goal.loop-spelled-preserved
loop-spelled-preserved c =
    let left = c.next.new.self.iter.rest.now in
    let m = c.in-Some.field-0.now in
    let name = c.args.name.now in
    let step = c.loop-spelled.invariant ∙ ap (λ ys. get_member name (members_view ys)) c.in-Some.ensures.steps ∙ get_member-push name left m in
    let pick = λ (b : Bool). cond b (Some (value_view m.1)) (get_member name (members_view left)) in
    let told = c.is_named.ensures ∙ ap (λ text. bytes_eq text c.as_bytes-in-loop-spelled.result.now) c.as_bytes.ensures.value ∙ ap (bytes_eq m.0.now) c.as_bytes-in-loop-spelled.ensures.value in
    let other : bytes_eq m.0.now name ≡ false = sym told ∙ c.if-is_named.false in
    step ∙ ap pick other
