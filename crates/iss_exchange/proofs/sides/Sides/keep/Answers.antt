use Rattle.std.proofs.Common.{ℕ, ◌<◌, subst, sym}
use Rattle.iss_model.specs.declared.limits.TheConstants.{MOST_RECORDS}
use Rattle.iss_exchange.proofs.Becoming.{kept}
use Rattle.iss_exchange.proofs.Following.{count_on_book, follows_next}
use Rattle.iss_exchange.proofs.sides.Sides.keep.Goals as goal

pub step-requires-clause-next : goal.step-requires-clause-next
step-requires-clause-next c = follows_next c.args.self.core c.args.self.records.items c.args.accepted c.requires.standing.core c.requires.follows

pub step-requires-clause-room : goal.step-requires-clause-room
step-requires-clause-room c = subst (λ (n : ℕ). n < MOST_RECORDS) (sym (count_on_book c.args.self.core c.args.self.records.items c.requires.standing.core)) c.requires.room

pub returns : goal.returns
returns c =
    kept c.args.self c.in_ok-core.core c.push.new.self c.args.accepted c.requires.standing c.requires.orderly c.requires.stamp_form c.in_ok-push.ensures.items
    (c.in_ok-core.ensures.on_book c.args.self.records.items c.requires.standing.core).stands
