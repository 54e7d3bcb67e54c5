-- What holds wherever an entry is entered.
use Rattle.std.specs.Prelude.{List, [], ◌+◌, ◌∷◌, ◌≡◌}
use Rattle.iss_model.specs.declared.entry.Entry.{Entry}
use Rattle.iss_model.specs.declared.entry.Entry.TheVariants as entry
use Rattle.iss_model.specs.state.Cores.{ControlKept, CoreState, after_entry}
use Rattle.iss_model.specs.state.Kept.{AreSmall}
use Rattle.iss_state.specs.Needs.{Fits}

-- what each control has counted is small, amounts and times
abbrev pub HaveCountedSmall : List ControlKept → Type 0
HaveCountedSmall [] = Unit {0}
HaveCountedSmall (c ∷ cs) = AreSmall c.amounts × (AreSmall c.times × HaveCountedSmall cs)

-- Each sum that a state keeps lies strictly between -2^62 and 2^62.
pub record SumsAreSmall (s : CoreState) : Type 0 where
  pub balances : AreSmall s.balances
  pub held : AreSmall s.holdings.held
  pub parts : AreSmall s.holdings.parts
  pub cleared : AreSmall s.txn_sums.cleared
  pub refunded : AreSmall s.txn_sums.refunded
  pub paid : AreSmall s.txn_sums.paid
  pub stood : AreSmall s.stand_ins.stood
  pub controls : HaveCountedSmall s.controls

-- a notice has the number after those that were made
abbrev pub IsNextNotice : CoreState → Entry → Type 0
IsNextNotice s (entry.Notice notice) = notice.number ≡ s.outbox.made + 1
IsNextNotice s _ = Unit {0}

-- What holds if an entry is entered: it fits the state before it, and leaves small sums.
pub record IsEnterable (s : CoreState) (e : Entry) : Type 0 where
  pub fit : Fits s e
  pub next : IsNextNotice s e
  pub small : SumsAreSmall (after_entry s e)

-- each entry can be entered into the state after those before it
abbrev pub AreEnterable : CoreState → List Entry → Type 0
AreEnterable s [] = Unit {0}
AreEnterable s (e ∷ es) = IsEnterable s e × AreEnterable (after_entry s e) es
