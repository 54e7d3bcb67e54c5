-- The code of holdings, by which their values are told apart.
use Rattle.std.specs.Prelude.{Bool, List, refl}
use Rattle.std.specs.Coded.{Coded, code_by, coded×, coded_list, coded_bool}
use Rattle.iss_model.specs.contracts.txn.Txn as txn
use Rattle.iss_model.specs.declared.txn.Txn.{Txn}
use Rattle.iss_model.specs.state.Kept.{Kept, kept_code}
use Rattle.iss_model.specs.rules.Activity.{TxnNow}
use Rattle.iss_model.specs.state.Cores.{Holdings}

-- a transaction as it stands is stored as the pair of its fields
abbrev pub now_code : Coded TxnNow
now_code = code_by (Txn × Bool) (coded× (txn.the_row).coded coded_bool) (λ t. (t.txn, t.live)) (λ p. record { txn = p.0; live = p.1 }) (λ _. refl)

-- holdings are stored as their fields
abbrev pub holdings_code : Coded Holdings
holdings_code =
    code_by ((List TxnNow) × (Kept × Kept)) (coded× (coded_list now_code) (coded× kept_code kept_code))
    (λ h. (h.txns, (h.parts, h.held))) (λ p. record { txns = p.0; parts = p.1.0; held = p.1.1 }) (λ _. refl)
