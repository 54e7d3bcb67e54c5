use Rattle.std.proofs.Common.{◌≡◌, List, ℕ, length, ap, ap₂, map, ◌∙◌}
use Rattle.std.proofs.lemmas.Result.{IfOk-weaker}
use Rattle.iss_model.specs.declared.decision.Verdict.{Verdict}
use Rattle.iss_accepted.specs.declared.short.ShortRow.{ShortRow}
use Rattle.iss_accepted.specs.Kept.{row_seen}
use Rattle.iss_accepted.specs.Short.{rows_of}
use Rattle.iss_accepted.proofs.Seen.{rows_seen}
use Rattle.iss_accepted.proofs.events.Events.seen.Goals as goal

pub returns : goal.returns
returns c =
    IfOk-weaker c.seen_rows.result _ _
    (λ v is.
    rows_seen _ _ _ _ c.args.self.now c.args.marks.now v.items c.self.invariant.kept c.self.view_is
    (is ∙ seen_of))
    c.seen_rows.ensures
  where
    seen_of : map (row_seen c.deref-3.result.now c.args.marks.now) (rows_of c.deref-2.result.now (length c.deref-3.result.now) c.deref.result.now)
        ≡ map (row_seen c.self.inside.bytes.items c.args.marks.now) (rows_of c.self.inside.others.items (length c.self.inside.bytes.items) c.self.inside.rows.items)
    seen_of =
        ap (λ (bytes : List ℕ). map (row_seen bytes c.args.marks.now) (rows_of c.deref-2.result.now (length bytes) c.deref.result.now)) c.deref-3.ensures.value
        ∙ ap₂ (λ (vs : List Verdict) (rs : List ShortRow). map (row_seen c.self.inside.bytes.items c.args.marks.now) (rows_of vs (length c.self.inside.bytes.items) rs))
        c.deref-2.ensures.value c.deref.ensures.value
