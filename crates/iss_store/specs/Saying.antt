-- What a store says, and that saying leaves the device as it is.
use Rattle.std.specs.Prelude.{◌≡◌, ℕ, List, [], ◌∷◌, ◌++◌, Option, Result, IsErrOf, OnOk, OnErr}
use Rattle.iss_edge.specs.declared.outside.Action.{Action}
use Rattle.iss_edge.specs.declared.outside.Answered.{Answered}
use Rattle.iss_edge.specs.Channels.{Channels}
use Rattle.iss_edge.specs.World.{World, Faults, Told, Later, Rose, Stays}
use Rattle.iss_edge.specs.Outer.{Adds, ToldBoth}
use Rattle.iss_edge.specs.Stretches.{Step, actions_of, SentUpTo, GoesOn, AreStill}
use Rattle.iss_halves.specs.Forms.{Form, Seat}
use Rattle.iss_model.specs.declared.input.Record.{Record}
use Rattle.iss_model.specs.declared.call.Notice.{Notice}
use Rattle.iss_model.specs.declared.call.Opened.{Opened}
use Rattle.iss_model.specs.rules.Histories.{history_facts, history_of}
use Rattle.iss_model.specs.state.Cores.{core_facts}
use Rattle.iss_model.specs.run.Sayings.{asked, noticed}
use Rattle.iss_model.specs.run.Runs.{said_first}
use Rattle.iss_texts.specs.TextRows.{said_texts}
use Rattle.iss_texts.specs.Sending.{Says, SaysSome, SentEach, StopsAt}
use Rattle.iss_store.specs.declared.fault.StoreFault.{StoreFault}
use Rattle.iss_store.specs.declared.fault.StoreFault.TheVariants.{Disk, Output, OutOfMemory}
use Rattle.iss_standing.specs.Standing.{RestsAt, StandsAt}
use Rattle.iss_opening.specs.Values.{StoreNow}
use Rattle.iss_opening.specs.Standing.{StandsFor}
use Rattle.iss_store.specs.Values.{DurableNow, said_of}

-- the record of the store's last commit
abbrev pub IsDurableOf : StoreNow → DurableNow → Type 0
IsDurableOf s d = d.number ≡ s.core.state.count

-- the texts of a record that lasts, at the store's instance
abbrev pub texts_of_record : StoreNow → DurableNow → List (List ℕ)
texts_of_record s d = said_texts s.core.instance (said_of d)

-- the request of a call
abbrev pub request_texts : ℕ → Opened → List (List ℕ)
request_texts instance opened = said_texts instance (asked opened ∷ [])

-- a notice
abbrev pub notice_texts : ℕ → Notice → List (List ℕ)
notice_texts instance notice = said_texts instance (noticed notice ∷ [])

-- what still waits for the gateway: requests, and then notices
abbrev pub texts_pending : StoreNow → List (List ℕ)
texts_pending s = said_texts s.core.instance (said_first (core_facts s.core.state))

-- by the book, the texts with which a run on these records begins
abbrev pub texts_pending_on_book : ℕ → List Record → List (List ℕ)
texts_pending_on_book instance rs = said_texts instance (said_first (history_facts (history_of rs)))

-- whatever records the store stands for, what still waits for the gateway is that by the book
abbrev pub TextsOnBook : StoreNow → Type 0
TextsOnBook s = (rs : List Record) → StandsFor s rs → texts_pending s ≡ texts_pending_on_book s.core.instance rs

-- Nothing was written or synced. So a device that stands for j records does so at each moment, and the run may go on after it, if
-- each text of which a byte went out has at most that level.
pub record StaysGood (a b : World) : Type 0 where
  pub device : b.device ≡ a.device
  pub added : List Action
  pub grew : b.trace ≡ a.trace ++ added
  pub still : AreStill added
  pub goes_on : (form : Form) (seat : Seat) (rs : List Record) (j : ℕ) (steps : List Step)
      → actions_of steps ≡ added → SentUpTo j steps
      → GoesOn (RestsAt form seat rs) (StandsAt form rs) (RestsAt form seat rs) j j steps

-- No count of faults has fallen. If the call failed by an output, the output's count rose. It never fails by the disk.
pub record SayingCause {T : Type 0} (before now : Faults) (result : Result T StoreFault) : Type 0 where
  pub later : Later before now
  pub output : IsErrOf result Output → Rose before.output now.output
  pub no_disk : IsErrOf result Disk → ⊥

-- What a call says over lines: these texts, each by an emit of its own on channel 0. If one fails, nothing more is said, and if memory
-- is short, nothing is said at all. The first two fields ask only that the world is told, and not what was heard.
pub record SaysLines {E T : Type 0} (told : E → Option World) (heard : E → Option (List Answered)) (opened : E → Channels) (a b : E)
    (texts : List (List ℕ)) (result : Result T StoreFault) : Type 0 where
  pub says : OnOk result (Told (Says texts) (told a) (told b))
  pub part : OnErr result (Told (SaysSome texts) (told a) (told b))
  pub sent : OnOk result (ToldBoth told heard (SentEach texts) a b)
  pub stopped : IsErrOf result Output → ToldBoth told heard (StopsAt texts) a b
  pub unsent : IsErrOf result OutOfMemory → ToldBoth told heard (Adds [] []) a b
  pub channels : Stays opened a b
