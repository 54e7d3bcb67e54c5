use Rattle.std.proofs.Common.{Bool, sym, ap, ◌∙◌}
use Rattle.std.specs.Option.{option_map}
use Rattle.iss_call.specs.States.{seen_call}
use Rattle.iss_hold.specs.Holdings.{txn_of_hold}
use Rattle.iss_state.proofs.calls.Answering.{unknown_answer, closed_answer, open_answer, asked_answer}
use Rattle.iss_state.proofs.calls.Steps.{asked_live}
use Rattle.iss_core.specs.States.{kept_state}
use Rattle.iss_core.proofs.Judged.{judged_as, asked_of_none, never_unknown}
use Rattle.iss_core.proofs.state.State.judge_answer.Goals as goal

pub returns-in_default : goal.returns-in_default
returns-in_default c =
    judged_as c.judged.result _ _ c.judged.ensures
    (sym (unknown_answer (kept_state c.args.self.now) c.args.call c.args.outcome c.args.at (sym c.call.ensures ∙ ap (option_map seen_call) c.in_default.is)))

pub returns-in-Some-how : goal.returns-in-Some-how
returns-in-Some-how c =
    judged_as c.judged-in-Some-how.result _ _ c.judged-in-Some-how.ensures
    (sym (closed_answer (kept_state c.args.self.now) c.args.call c.args.outcome c.args.at (seen_call c.in-Some.asked) c.in-Some-how.how (sym c.call.ensures ∙ ap (option_map seen_call) c.in-Some.is) c.in-Some-how.is))

pub unreachable-requires : goal.unreachable-requires
unreachable-requires c =
    never_unknown (kept_state c.args.self.now).holdings.txns c.in-Some.asked.opened.txn (sym c.hold.ensures.txn ∙ ap (option_map txn_of_hold) c.in_default-hold.is)
    (asked_live (kept_state c.args.self.now) c.args.call.0 (seen_call c.in-Some.asked) c.requires (sym c.call.ensures ∙ ap (option_map seen_call) c.in-Some.is) (asked_of_none c.in-Some.asked.how c.in_default-how.is))

pub returns-then-not-is_in_time : goal.returns-then-not-is_in_time
returns-then-not-is_in_time c =
    sym (open_answer (kept_state c.args.self.now) c.args.call c.args.outcome c.args.at (seen_call c.in-Some.asked) (txn_of_hold c.in-Some-hold.hold) c.requires
    (sym c.call.ensures ∙ ap (option_map seen_call) c.in-Some.is) (asked_of_none c.in-Some.asked.how c.in_default-how.is) (sym c.hold.ensures.txn ∙ ap (option_map txn_of_hold) c.in-Some-hold.is)
    ∙ ap (λ (b : Bool). asked_answer c.args.call c.args.outcome c.args.at b) (sym c.is_in_time.ensures ∙ c.if-not-is_in_time.true))

pub returns : goal.returns
returns c =
    sym (open_answer (kept_state c.args.self.now) c.args.call c.args.outcome c.args.at (seen_call c.in-Some.asked) (txn_of_hold c.in-Some-hold.hold) c.requires
    (sym c.call.ensures ∙ ap (option_map seen_call) c.in-Some.is) (asked_of_none c.in-Some.asked.how c.in_default-how.is) (sym c.hold.ensures.txn ∙ ap (option_map txn_of_hold) c.in-Some-hold.is)
    ∙ ap (λ (b : Bool). asked_answer c.args.call c.args.outcome c.args.at b) (sym c.is_in_time.ensures ∙ c.if-not-is_in_time.false))
