use Rattle.std.proofs.Common.{◌≡◌, ◌++◌, true, Some, refl, sym, ap, ◌∙◌, subst}
use Rattle.json.specs.Json.{object}
use Rattle.json.specs.Value.{value_view, members_view}
use Rattle.iss_field.specs.PlainObjects.{ArePlain, opener, spelled}
use Rattle.iss_field.proofs.PlainRead.{followed, is_none, plain_followed, read_more, view_push, comma_next, spelled_text}
use Rattle.iss_field.proofs.plain.plain_members.Goals as goal

pub returns-then-is_end : goal.returns-then-is_end
returns-then-is_end c =
    let so_far = c.loop.invariant in
    let ms = members_view c.loop.members.items in
    let k = c.in-Some.name.now in
    let j = value_view c.in-Some-value_after.value in
    let after = c.in-Some-value_after.after.now in
    let more = read_more c.args.text.now ms c.loop.opener k j c.loop.rest.now c.in-Some.after_name.now after so_far.0 so_far.1 c.in-Some.ensures.spelled c.in-Some-value_after.ensures.spelled in
    let plain = plain_followed ms k j so_far.2 c.in-Some-value_after.ensures.plain in
    let end = c.if-is_end.ensures in
    let pushed : members_view c.push.new.self.items ≡ followed ms k j = ap members_view c.in_ok-push.ensures.items ∙ view_push c.loop.members.items (c.in-Some.name, c.in-Some-value_after.value) in
    spelled_text ms k j c.args.text.now plain (more ∙ ap (λ l. spelled true (followed ms k j) ++ l) (sym c.as_bytes.ensures.value ∙ end.0 refl)) ∙ ap (λ m. Some (object m)) (sym pushed)

pub loop-preserved : goal.loop-preserved
loop-preserved c =
    let so_far = c.loop.invariant in
    let ms = members_view c.loop.members.items in
    let k = c.in-Some.name.now in
    let j = value_view c.in-Some-value_after.value in
    let after = c.in-Some-value_after.after.now in
    let more = read_more c.args.text.now ms c.loop.opener k j c.loop.rest.now c.in-Some.after_name.now after so_far.0 so_far.1 c.in-Some.ensures.spelled c.in-Some-value_after.ensures.spelled in
    let plain = plain_followed ms k j so_far.2 c.in-Some-value_after.ensures.plain in
    let pushed : members_view c.push.new.self.items ≡ followed ms k j = ap members_view c.in_ok-push.ensures.items ∙ view_push c.loop.members.items (c.in-Some.name, c.in-Some-value_after.value) in
    (more ∙ ap (λ m. spelled true m ++ after) (sym pushed), comma_next ms k j ∙ ap (λ m. opener (is_none m)) (sym pushed), subst ArePlain (sym pushed) plain, c.in-Some-value_after.ensures.text)
