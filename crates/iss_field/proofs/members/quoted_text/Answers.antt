use Rattle.std.proofs.Common.{◌≡◌, ◌+◌, ◌-◌, ◌<◌, ◌≤◌, ◌++◌, length, drop, get_or, slice_range, sym, ap, ◌∙◌, arith, take_all, length-drop}
use Rattle.json.specs.Print.{quoted}
use Rattle.iss_field.proofs.PlainTexts.{quoted_first}
use Rattle.iss_field.proofs.NoMember.{begins_quoted}
use Rattle.iss_field.proofs.members.quoted_text.Goals as goal
use Rattle.iss_field.proofs.members.quoted_text.Goals.{then-end-rest-via-then-end-rest, then-end-rest-via-else-end-rest+then-rest-end-ne34}

pub returns-clause-spelled : goal.returns-clause-spelled
returns-clause-spelled c =
    let d = c.args.rest.now in
    let end = c.plain_end-end.result in
    let long : 1 ≤ length d = grind arith in
    let first : get_or d 0 0 ≡ 34 = grind arith in
    let bound : end < length d = grind arith in
    let mark : get_or d end 0 ≡ 34 = grind arith in
    let rest = take_all (length d - (end + 1)) (drop (end + 1) d) (omega (arith, length-drop (end + 1) d)) in
    quoted_first d end long first c.plain_end-end.ensures.run bound mark ∙ ap (λ l. quoted (slice_range d 1 end) ++ l) (sym rest)

pub returns-then-end-rest-clause-none : goal.returns-then-end-rest-clause-none
returns-then-end-rest-clause-none c text after all spelled =
    let d = c.args.rest.now in
    let b = begins_quoted d text after all spelled in
    let run = c.plain_end-end.ensures.run in
    let within = b.within in
    let mark : get_or d c.plain_end-end.result 0 ≡ 34 = ap (λ k. get_or d k 0) run ∙ b.mark in
    elim c.then-end-rest.branch [
      | then-end-rest-via-then-end-rest w ↦ grind arith
      | then-end-rest-via-else-end-rest+then-rest-end-ne34 w ↦ grind arith
    ]
