use Rattle.std.proofs.Common.{◌≡◌, ◌+◌, ◌∷◌, ◌∙◌, List, suc, drop, add-one, drop-cons, sym, ap, arith, fold}
use Rattle.iss_model.specs.declared.state.Seen.{Seen}
use Rattle.iss_model.specs.state.Cores.{CoreState}
use Rattle.iss_well_formed.specs.Events.{AreJudged, with_seen_setting}
use Rattle.iss_core.specs.States.{kept_state}
use Rattle.iss_core.proofs.SettingsAgain.{GoesOn, goes_on}
use Rattle.iss_core.proofs.state.State.take_up_settings.Goals as goal

pub loop-event-preserved : goal.loop-event-preserved
loop-event-preserved c =
    let es : List Seen = c.args.events.now in
    let e : Seen = c.event-item.result in
    let before : CoreState = kept_state c.loop-event.self in
    let after : CoreState = kept_state c.take_up_setting.new.self in
    let next : drop c.loop-event.event-index es ≡ e ∷ drop (c.loop-event.event-index + 1) es =
    rw add-one (drop-cons es c.loop-event.event-index e (omega arith) ∙ ap (λ (x : Seen). x ∷ drop (suc c.loop-event.event-index) es) (sym c.event-item.is))
    in
    let goes : GoesOn after (drop (c.loop-event.event-index + 1) es) (AreJudged (kept_state c.args.self.now) es) (fold with_seen_setting (kept_state c.args.self.now) es) =
    goes_on before after e (drop c.loop-event.event-index es) (drop (c.loop-event.event-index + 1) es) c.in_ok-take_up_setting.field-0 _ _
    (record { plain = c.loop-event.invariant.plain; judged = c.loop-event.invariant.judged; set = c.loop-event.invariant.set })
    next c.in_ok-take_up_setting.ensures.judged c.if-not-branch.false (c.in_ok-take_up_setting.ensures.set c.if-not-branch.false)
    in
    record { plain = goes.plain; judged = goes.judged; set = goes.set }
