use Rattle.std.proofs.Common.{◌≡◌, List, map, ap, subst, ◌∙◌}
use Rattle.std.specs.Prelude.{IfOk}
use Rattle.iss_model.specs.declared.counted.Counter.{Counter}
use Rattle.iss_core.specs.Showing.{counter_by}
use Rattle.iss_core.proofs.ShownParts.{counters_shown_are, spans_stand}
use Rattle.iss_core.proofs.state.State.counters_shown.Goals as goal

pub counters_of-requires : goal.counters_of-requires
counters_of-requires c =
    rw c.deref.ensures.value
    (spans_stand c.args.self.now.chain.holdings.txns c.args.self.now.controls c.in_ok-counted.counted.items c.in_ok-origins.origins c.in_ok-origins.ensures.origins c.in_ok-origins.ensures.plain c.requires.counted
    c.in_ok-counted.ensures.counters c.in_ok-counted.ensures.named)

pub returns : goal.returns
returns c =
    let stand =
    spans_stand c.args.self.now.chain.holdings.txns c.args.self.now.controls c.in_ok-counted.counted.items c.in_ok-origins.origins c.in_ok-origins.ensures.origins c.in_ok-origins.ensures.plain c.requires.counted
    c.in_ok-counted.ensures.counters c.in_ok-counted.ensures.named in
    subst (λ (cs : List Counter). IfOk c.counters_of.result (λ v. v.items ≡ cs))
    (ap (map (counter_by c.in_ok-origins.origins)) c.deref.ensures.value
    ∙ counters_shown_are c.args.self.now.chain.holdings.txns c.args.self.now.controls c.in_ok-counted.counted.items c.in_ok-origins.origins c.in_ok-origins.ensures.origins stand
    c.in_ok-counted.ensures.counters c.in_ok-counted.ensures.named)
    c.counters_of.ensures
