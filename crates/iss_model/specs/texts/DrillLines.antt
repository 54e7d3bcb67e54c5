-- What a drill reports at its end.
use Rattle.std.specs.Prelude.{ℕ, ℤ, List, [], ◌∷◌, codes}
use Rattle.iss_model.specs.declared.currency.Currency.TheVariants.{Usd}
use Rattle.iss_model.specs.Amounts.{amount_text}
use Rattle.iss_model.specs.texts.Wordings.{Member, with_text, with_number, line_of}

-- what a drill counts, and what then stands in US dollars
pub record DrillTotals : Type 0 where
  pub approved : ℕ
  pub declined : ℕ
  pub gateway : ℤ
  pub held : ℤ
  pub lines : ℕ
  pub network : ℤ
  pub notices : ℕ
  pub programme : ℤ
  pub records : ℕ
  pub repeats : ℕ

-- the members of a drill's line
abbrev pub drill_members : DrillTotals → List Member
drill_members t =
    with_number (codes "approved") t.approved
    ∷ with_number (codes "declined") t.declined
    ∷ with_text (codes "gateway") (amount_text t.gateway Usd)
    ∷ with_text (codes "held") (amount_text t.held Usd)
    ∷ with_number (codes "lines") t.lines
    ∷ with_text (codes "network") (amount_text t.network Usd)
    ∷ with_number (codes "notices") t.notices
    ∷ with_text (codes "programme") (amount_text t.programme Usd)
    ∷ with_number (codes "records") t.records
    ∷ with_number (codes "repeats") t.repeats
    ∷ []

-- the line of a drill
unfoldable pub drill_line : DrillTotals → List ℕ
drill_line t = line_of (drill_members t)
