use Rattle.std.proofs.Common.{[], ◌∷◌, ◌++◌, rules}
use Rattle.iss_core.proofs.ShownParts.{AreEntering, one_entered, origins_are, users_plain}
use Rattle.iss_core.proofs.state.State.origins.Goals as goal

pub loop-carried-preserved : goal.loop-carried-preserved
loop-carried-preserved c =
    let was : AreEntering c.args.self.now.chain.holdings.txns c.args.txns.now (c.next.new.self.iter.rest.now ++ c.in-Some.carried.now ∷ []) c.loop-carried.origins = search rules in
    one_entered c.args.self.now.chain.holdings.txns c.args.txns.now c.next.new.self.iter.rest.now c.in-Some.carried.now c.loop-carried.origins c.enter_origin.new.origins c.origin.result
    c.origin.ensures.value c.origin.ensures.plain was c.in_ok-enter_origin.ensures

pub returns-clause-origins : goal.returns-clause-origins
returns-clause-origins c =
    origins_are c.args.self.now.chain.holdings.txns c.args.txns.now c.loop-carried.carried-iterator.iter.rest.now c.loop-carried.origins c.requires.orderly.distinct c.requires.all c.in-None.ensures.steps.0
    c.loop-carried.invariant

pub returns-clause-plain : goal.returns-clause-plain
returns-clause-plain c =
    users_plain c.args.self.now.chain.holdings.txns c.args.txns.now c.loop-carried.carried-iterator.iter.rest.now c.loop-carried.origins c.requires.orderly.distinct c.requires.all c.in-None.ensures.steps.0
    c.loop-carried.invariant
