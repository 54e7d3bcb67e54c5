use Rattle.std.proofs.Common.{◌≡◌, ◌↔◌, Bool, List, ap, subst, fold, rules, ◌∙◌}
use Rattle.std.specs.Prelude.{IsTrue}
use Rattle.iss_model.specs.declared.state.Seen.{Seen}
use Rattle.iss_model.specs.state.Cores.{CoreState}
use Rattle.iss_well_formed.specs.Events.{AreJudged, with_seen_setting}
use Rattle.iss_sound.specs.Sound.{IsSoundState}
use Rattle.iss_core.specs.States.{kept_state}
use Rattle.iss_core.proofs.CoreAgain.{plain_at_first, sound_by_settings}
use Rattle.iss_core.proofs.state.State.restore_known.Goals as goal

pub take_up_settings-requires : goal.take_up_settings-requires
take_up_settings-requires c = plain_at_first (kept_state c.args.self.now) c.requires.new

pub returns-then-not-branch-clause-sound : goal.returns-then-not-branch-clause-sound
returns-then-not-branch-clause-sound c =
    let events : c.deref.result.now ≡ c.args.state.now.events = search rules in
    subst (λ (b : Bool). IsTrue b ↔ IsSoundState c.args.state.now) c.if-not-branch.true
    (sound_by_settings c.args.state.now (kept_state c.args.self.now) c.in_ok-take_up_settings.field-0 c.requires.new c.requires.sound
    (subst (λ (es : List Seen). IsTrue c.in_ok-take_up_settings.field-0 ↔ AreJudged (kept_state c.args.self.now) es) events c.in_ok-take_up_settings.ensures.judged))

pub take_up_rest-requires-clause-set : goal.take_up_rest-requires-clause-set
take_up_rest-requires-clause-set c =
    let events : c.deref.result.now ≡ c.args.state.now.events = search rules in
    c.in_ok-take_up_settings.ensures.set c.if-not-branch.false
    ∙ ap (λ (es : List Seen). fold with_seen_setting (kept_state c.args.self.now) es) events
    ∙ ap (λ (d : CoreState). fold with_seen_setting d c.args.state.now.events) c.requires.new

pub returns-clause-sound : goal.returns-clause-sound
returns-clause-sound c =
    let events : c.deref.result.now ≡ c.args.state.now.events = search rules in
    subst (λ (b : Bool). IsTrue b ↔ IsSoundState c.args.state.now) c.if-not-branch.false
    (sound_by_settings c.args.state.now (kept_state c.args.self.now) c.in_ok-take_up_settings.field-0 c.requires.new c.requires.sound
    (subst (λ (es : List Seen). IsTrue c.in_ok-take_up_settings.field-0 ↔ AreJudged (kept_state c.args.self.now) es) events c.in_ok-take_up_settings.ensures.judged))
