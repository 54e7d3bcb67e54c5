-- What a core is, and what it tells of a list of records.
use Rattle.std.specs.Prelude.{◌≡◌, ℕ, List, [], ◌∷◌, ◌++◌, IsTrue}
use Rattle.iss_model.specs.declared.input.Input.{Input}
use Rattle.iss_model.specs.declared.input.Record.{Record}
use Rattle.iss_model.specs.declared.entry.Entry.{Entry}
use Rattle.iss_model.specs.declared.decision.Judged.{Judged}
use Rattle.iss_model.specs.declared.decision.Judged.TheVariants as judged
use Rattle.iss_model.specs.Forms.{is_in_form, is_stamp}
use Rattle.iss_model.specs.rules.Stepping.{step}
use Rattle.iss_model.specs.rules.Judging.{judge}
use Rattle.iss_model.specs.rules.Histories.{history_keeper, history_of}
use Rattle.iss_model.specs.state.Cores.{CoreState, core_keeper, core_of}
use Rattle.iss_agreement.specs.Likeness.{AreAlike}

-- the instance of a core's device, and what stands
pub record CoreNow : Type 0 where
  pub instance : ℕ
  pub state : CoreState

-- a core stands for these records: its state is like the one that they make
abbrev pub CoreStandsFor : CoreNow → List Record → Type 0
CoreStandsFor c rs = AreAlike c.state (core_of rs)

-- a record is next on a core: judged by itself, its input is new
abbrev pub IsNext : CoreNow → Record → Type 0
IsNext c r = judge core_keeper c.state r.input r.at ≡ judged.New r

-- the record that judging returns, if it returns one, is next
abbrev pub GivesNext : CoreNow → Judged → Type 0
GivesNext c (judged.New r) = IsNext c r
GivesNext c (judged.Clock r) = IsNext c r
GivesNext c (judged.Told a) = Unit {0}

-- the record that judging returns, if it returns one, has its input and its stamp in form
abbrev pub GivesInForm : Judged → Type 0
GivesInForm (judged.New r) = IsTrue (is_in_form r.input) × IsTrue (is_stamp r.at)
GivesInForm (judged.Clock r) = IsTrue (is_in_form r.input) × IsTrue (is_stamp r.at)
GivesInForm (judged.Told a) = Unit {0}

-- what judging an input tells, on the book of these records
abbrev pub judged_on : List Record → Input → ℕ → Judged
judged_on rs i at = judge history_keeper (history_of rs) i at

-- a record was taken up: these are its entries, and what stands after them
pub record Steps (before after : CoreNow) (r : Record) (made : List Entry) : Type 0 where
  pub kept : after.instance ≡ before.instance
  pub state : after.state ≡ (step core_keeper before.state r).world
  pub entries : made ≡ (step core_keeper before.state r).entries

-- A record was taken up on the book: the core after the record stands for one record more, and these are its entries.
pub record StepsOnBook (after : CoreNow) (rs : List Record) (r : Record) (made : List Entry) : Type 0 where
  pub stands : CoreStandsFor after (rs ++ r ∷ [])
  pub entries : made ≡ (step history_keeper (history_of rs) r).entries
