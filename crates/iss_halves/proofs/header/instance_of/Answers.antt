use Rattle.std.proofs.Common.{◌≡◌, ap, sym, ◌∙◌, rules}
use Rattle.iss_halves.specs.Halves.{halves_header}
use Rattle.iss_halves.proofs.Findings.{instance_back}
use Rattle.iss_halves.proofs.header.instance_of.Goals as goal

pub returns-else-eq-clause-none : goal.returns-else-eq-clause-none
returns-else-eq-clause-none c =
    λ instance small is.
    let found : c.from_be_bytes-instance.result ≡ instance = c.from_be_bytes-instance.ensures ∙ instance_back instance c.args.bytes small is in
    let same : c.args.bytes ≡ c.header_of.result = is ∙ ap halves_header (sym found) ∙ sym c.header_of.ensures in
    search (rules, same)
