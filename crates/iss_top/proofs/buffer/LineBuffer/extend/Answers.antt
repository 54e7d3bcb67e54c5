use Rattle.std.proofs.Common.{◌≤◌, ◌-◌, ◌≡◌, ◌++◌, length, take, fold, ap, ◌∙◌, arith}
use Rattle.std.proofs.lemmas.Result.{on_ok_weaker}
use Rattle.iss_top.specs.Lines.{kept_with}
use Rattle.iss_top.proofs.Keeping.{kept_run}
use Rattle.iss_top.proofs.buffer.LineBuffer.extend.Goals as goal

pub returns : goal.returns
returns c =
    let line = c.self.inside.bytes.items in
    let bytes = c.args.bytes.now in
    let room = c.min.result in
    let fits : room ≤ 16385 - length line = omega (arith, c.min.ensures, c.saturating_sub-room.ensures, c.len.ensures) in
    let all : fold kept_with c.extend_from_slice.new.self.items c.split_at.result.1.now ≡ fold kept_with c.args.self.now bytes =
    ap (λ l. fold kept_with l c.split_at.result.1.now) (c.in_ok-extend_from_slice.ensures.items ∙ ap (λ s. line ++ s) c.split_at.ensures.front)
    ∙ ap (fold kept_with (line ++ take room bytes)) c.split_at.ensures.back
    ∙ kept_run line bytes room fits
    ∙ ap (λ l. fold kept_with l bytes) c.self.view_is
    in
    on_ok_weaker c.push_long.result (λ pushed. pushed ∙ all) c.push_long.ensures
