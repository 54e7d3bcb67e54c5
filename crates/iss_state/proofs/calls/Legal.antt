-- Each legal list of records leaves a core well.
use Rattle.std.proofs.Common.{◌≡◌, ℕ, List, []}
use Rattle.std.specs.Prelude.{Some, None}
use Rattle.iss_model.specs.declared.input.Record.{Record}
use Rattle.iss_model.specs.rules.Activity.{TxnNow, CallNow, call_numbered}
use Rattle.iss_model.specs.rules.Histories.{IsLegal}
use Rattle.iss_model.specs.state.Cores.{no_core, core_of}
use Rattle.iss_state.proofs.invariants.Legal.{legal_induction}
use Rattle.iss_state.proofs.docket.Lists.{never}
use Rattle.iss_state.specs.Pending.{IsWell}
use Rattle.iss_state.proofs.calls.Steps.{step_well}

-- every legal list of records ----

none_stands : {Q : Type 0} (n : ℕ) (c : CallNow) → call_numbered n [] ≡ Some c → Q
none_stands n c e = cc

none_named : {Q : Type 0} (t : TxnNow) → None ≡ Some t → Q
none_named t e = cc

pub nothing_well : IsWell no_core
nothing_well =
    record {
      docket = record {
        calls = record {
          numbers = tt;
          once = λ n m c e now then same. none_stands n c now;
          alone = λ n m c e now then same first. none_stands n c now.stands;
          events = λ n c now. none_stands n c now;
        };
        txns = record { tokens = tt; events = λ token h. never h; products = λ token t e. none_named t e };
        decisions = record { once = tt; events = λ event h. never h };
        live = λ n c now. none_stands n c now.stands;
        waits = λ n c now. none_stands n c now.stands;
      };
      accounted = λ event h. never h;
    }

pub core_well : (rs : List Record) → IsLegal rs → IsWell (core_of rs)
core_well rs legal = legal_induction (λ rs s. IsWell s) nothing_well (λ rs r new well. step_well (core_of rs) r new well) rs legal
