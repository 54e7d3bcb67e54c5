-- The state that a core keeps in its parts.
use Rattle.iss_model.specs.rules.Facts.{Facts}
use Rattle.iss_model.specs.state.Cores.{CoreState, core_facts}
use Rattle.iss_core.specs.declared.state.State.{State}

-- the state that the parts keep
abbrev pub kept_state : State → CoreState
kept_state p =
    record {
      now = p.time;
      count = p.count;
      accepted = p.events.accepted;
      decisions = p.events.decisions;
      cardholders = p.cards;
      products = p.products;
      groups = p.groups;
      controls = p.controls;
      stand_ins = p.sets;
      balances = p.chain.balances;
      holdings = p.chain.holdings;
      txn_sums = p.chain.txn_sums;
      calls = p.calls;
      outbox = p.notices;
    }

-- the facts of that state
abbrev pub facts_of : State → Facts
facts_of p = core_facts (kept_state p)
