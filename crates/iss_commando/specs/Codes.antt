-- The code of sets with what stood in, by which their values are told apart.
use Rattle.std.specs.Prelude.{List, refl}
use Rattle.std.specs.Coded.{Coded, code_by, coded×, coded_list}
use Rattle.iss_model.specs.contracts.setting.Set as set
use Rattle.iss_model.specs.declared.setting.Set.{Set}
use Rattle.iss_model.specs.state.Kept.{Kept, kept_code}
use Rattle.iss_model.specs.state.Cores.{StandIns}

-- sets with what stood in are stored as the pair of their fields
abbrev pub stand_ins_code : Coded StandIns
stand_ins_code =
    code_by ((List Set) × Kept) (coded× (coded_list (set.the_row).coded) kept_code)
    (λ s. (s.sets, s.stood)) (λ p. record { sets = p.0; stood = p.1 }) (λ _. refl)
