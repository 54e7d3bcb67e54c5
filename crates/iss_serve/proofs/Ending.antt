-- A run that serves, from its start on a store that was opened to its end.
use Rattle.std.proofs.Common.{◌≡◌, ℕ, ◌<◌, List, [], map, Option, Some, sym, ap, subst, ◌∙◌}
use Rattle.iss_edge.specs.declared.outside.Action.{Action}
use Rattle.iss_edge.specs.declared.outside.Action.TheVariants.{Close}
use Rattle.iss_edge.specs.Outer.{Outer, Adds}
use Rattle.iss_edge.specs.World.{Told}
use Rattle.iss_edge.proofs.Tolds.{told_map, told_then, told_self}
use Rattle.iss_halves.specs.Forms.{Form}
use Rattle.iss_model.specs.declared.input.Record.{Record}
use Rattle.iss_model.specs.declared.limits.TheConstants.{INSTANCES}
use Rattle.iss_agreement.proofs.Records.{records_history}
use Rattle.iss_session.specs.Desks.{Task}
use Rattle.iss_session.specs.Sessions.{Session}
use Rattle.iss_session_examples.specs.Program.{program_readers}
use Rattle.iss_opening.specs.Values.{StoreNow, IsStore, form_under, seat_under}
use Rattle.iss_opening.specs.Standing.{StandsFor}
use Rattle.iss_standing.specs.Standing.{AreHistory}
use Rattle.iss_standing.specs.Rooms.{room_in}
use Rattle.iss_store.specs.Serving.{tasks_pending, tasks_pending_on_book}
use Rattle.iss_serve.specs.Closings.{open_channels}
use Rattle.iss_serve.specs.Goings.{SessionGoesPart, GoesToEnd}
use Rattle.iss_serve.specs.Held.{HeldNow, first_stage, idle, sending, session_at}
use Rattle.iss_serve.specs.Runs.{ServesOn, ServesSome, ServesToEnd, ServesUpTo, session_on}
use Rattle.iss_serve.proofs.Going.{goes_self, goes_part, goes_to_end}
use Rattle.iss_serve.proofs.Waiting.{is_over}
use Rattle.iss_serve.proofs.Closes.{last_closes}

-- a store has the instance of a device
pub own_instance : (s t : StoreNow) → IsStore s → s ≡ t → t.core.instance < INSTANCES
own_instance s t is same =
    subst (λ (store : StoreNow). store.core.instance < INSTANCES) same
    (subst (λ (instance : ℕ). instance < INSTANCES) (sym is.instance) is.layout_is.small)

-- a run that hasn't begun
not_begun : (failed : Type 0) (store : StoreNow) (turns : ℕ) (a : Outer) → ServesUpTo failed store turns a a
not_begun failed store turns a =
    record {
      on_book =
          λ rs stands.
          let s = session_on store turns rs in
          goes_part failed program_readers (form_under store) (seat_under store) (seat_under store) s s a a (goes_self program_readers (form_under store) (seat_under store) s a);
    }

pub told_not_begun : (failed : Type 0) (store : StoreNow) (turns : ℕ) (x : Option Outer) → Told (ServesUpTo failed store turns) x x
told_not_begun failed store turns x = told_self (ServesUpTo failed store turns) x (not_begun failed store turns)

-- nothing is held, and this many waits are left
abbrev pub fresh : StoreNow → ℕ → HeldNow
fresh store turns =
    record { clients = []; served = []; links = record { instance = store.core.instance; links = [] }; unreached = []; clock = 0; turns = turns }

module _ (store : StoreNow) (turns : ℕ) (h : HeldNow) (is : h ≡ fresh store turns)
    (on_book : (rs : List Record) → StandsFor store rs → tasks_pending store ≡ tasks_pending_on_book store.core.instance rs) where
  first_session : (rs : List Record) → StandsFor store rs → session_at (first_stage store h) rs ≡ session_on store turns rs
  first_session rs stands =
      ap (λ (n : HeldNow). session_at (first_stage store n) rs) is
      ∙ ap (λ (ts : List Task). session_at (sending store (fresh store turns) [] ts) rs) (on_book rs stands)

  up_to : (failed : Type 0) (a b : Outer) → ServesSome failed (first_stage store h) a b → ServesUpTo failed store turns a b
  up_to failed a b p =
      record {
        on_book =
            λ rs stands.
            subst (λ (s : Session). SessionGoesPart failed program_readers (form_under store) (seat_under store) s a b) (first_session rs stands) (p.on_book rs stands);
      }

  pub told_up_to : (failed : Type 0) (x y : Option Outer) → Told (ServesSome failed (first_stage store h)) x y → Told (ServesUpTo failed store turns) x y
  told_up_to failed x y p = told_map (ServesSome failed (first_stage store h)) (ServesUpTo failed store turns) x y (up_to failed) p

  module _ (last : StoreNow) (end : HeldNow) (settled : end.unreached ≡ []) (over : end.turns ≡ 0) where
    to_end : (a b c : Outer) → ServesOn (first_stage store h) (idle last end) a b → Adds (map Close (open_channels end)) [] b c → ServesToEnd store turns a c
    to_end a b c p closed =
        record {
          on_book =
              λ rs stands.
              let goes = p.on_book rs stands in
              record {
                last = session_at (idle last end) goes.now;
                seat = seat_under last;
                room_is = ap (λ (form : Form). Some (room_in form (seat_under last))) p.form_is;
                goes =
                    subst (λ (s : Session). GoesToEnd program_readers (form_under store) (seat_under store) (seat_under last) s (session_at (idle last end) goes.now) a c) (first_session rs stands)
                    (goes_to_end program_readers (form_under store) (seat_under store) (seat_under last) (session_at (first_stage store h) rs) (session_at (idle last end) goes.now) a b c goes.goes
                    (is_over last end goes.now settled over)
                    (subst (λ (l : List Action). Adds l [] b c) (last_closes last end goes.now) closed));
                history = subst AreHistory (sym (records_history goes.now)) goes.stands.history;
              };
        }

    pub told_to_end : (x y z : Option Outer) → Told (ServesOn (first_stage store h) (idle last end)) x y → Told (Adds (map Close (open_channels end)) []) y z → Told (ServesToEnd store turns) x z
    told_to_end x y z p q =
        told_then (ServesOn (first_stage store h) (idle last end)) (Adds (map Close (open_channels end)) []) (ServesToEnd store turns) x y z to_end p q
