use Rattle.std.proofs.Common.{◌≡◌, ℕ, List, true, sym, subst}
use Rattle.std.specs.List.{list_all}
use Rattle.iss_real.specs.Numbers.{is_below}
use Rattle.iss_real.proofs.Opened.{numbers_pushed}
use Rattle.iss_real.proofs.peers.Peers.push.Goals as goal

pub returns-in-Ok-clause-pushed : goal.returns-in-Ok-clause-pushed
returns-in-Ok-clause-pushed c =
    let greatest = subst (λ (ns : List ℕ). list_all (is_below c.args.number) ns ≡ true) (sym c.self.view_is) c.requires.greatest in
    rw (← c.self.view_is) (numbers_pushed c.args.number _ c.self.inside.peers c.insert.new.self greatest c.in-Ok.ensures.entries)
