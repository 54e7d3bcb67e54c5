-- A run that serves, from the device's side: what was heard and done, what a stop leaves, and what the device stands for.
use Rattle.std.proofs.Common.{◌≡◌, ℕ, ◌+◌, ◌≤◌, inl, inr, Option, Some, Bool, true, false, cond, List, [], ◌∷◌, ◌++◌, length, map, refl, sym, ap, subst, ◌∙◌, append-nil, append_assoc, arith}
use Rattle.iss_edge.specs.declared.outside.Channel.{Channel}
use Rattle.iss_edge.specs.declared.outside.Action.{Action}
use Rattle.iss_edge.specs.declared.outside.Action.TheVariants.{Write, Sync, Emit, Dial, Close}
use Rattle.iss_edge.specs.declared.outside.Answered.{Answered}
use Rattle.iss_edge.specs.World.{sent_on}
use Rattle.iss_edge.specs.Outer.{Outer}
use Rattle.iss_edge.specs.Stretches.{Step, actions_of, is_still, with_levels}
use Rattle.iss_edge.proofs.Tolds.{sent_on-append}
use Rattle.iss_edge.proofs.StretchLemmas.{actions_of-append, actions_of-leveled}
use Rattle.std.proofs.lemmas.List.{append_cancel_left}
use Rattle.iss_halves.specs.Forms.{Form, Seat}
use Rattle.iss_model.specs.declared.input.Record.{Record}
use Rattle.iss_model.specs.declared.limits.TheConstants.{MOST_RECORDS}
use Rattle.iss_model.specs.run.Rooms.{Room}
use Rattle.iss_model.specs.rules.Histories.{History, history_of}
use Rattle.iss_model.specs.run.Runs.{Run}
use Rattle.iss_agreement.proofs.Records.{records_history}
use Rattle.iss_session.specs.Items.{Happening, answers_of}
use Rattle.iss_session.specs.Sessions.{Session, count, session_of}
use Rattle.iss_session.specs.Happenings.{last_steps, closings, Fits, IsComplete}
use Rattle.iss_session.specs.Accepted.{session_records}
use Rattle.iss_session.specs.Turns.{waits_in}
use Rattle.iss_session.specs.Serving.{channel_actions, ServesPart, ServesAll}
use Rattle.iss_session.proofs.ServingLaws.{serves_part_sent, serves_all_sent}
use Rattle.iss_session.proofs.JudgedLines.{records_of_session}
use Rattle.iss_session.proofs.Closings.{run_closed, run_client_closed}
use Rattle.iss_session.proofs.Waits.{waits_within}
use Rattle.iss_session_examples.specs.Program.{program_readers}
use Rattle.iss_session_examples.proofs.ClientLines.{program_reads_events}
use Rattle.iss_opening.specs.Values.{StoreNow, form_under, seat_under}
use Rattle.iss_standing.specs.Standing.{AreHistory, DeviceStandsFor}
use Rattle.iss_standing.specs.Rooms.{room_in, seat_of}
use Rattle.iss_opening.specs.Standing.{StandsFor, IsOpenedOn}
use Rattle.iss_standing.specs.Goings.{channel_steps, StepsGo, StepsGoPart}
use Rattle.iss_standing.proofs.Goings as joins
use Rattle.iss_standing.proofs.Few.{few_stand}
use Rattle.iss_standing.proofs.Holds.{stands_in_room}
use Rattle.iss_opening.specs.Opening.{is_on_device, AreOnDevice, OpensGood, ReadsAlone, OpenedAs}
use Rattle.iss_device.specs.Runs.{run_at}
use Rattle.iss_device.specs.Moments.{EachMoment, EachMomentUnsynced, EachStopStands, EndsAtRest}
use Rattle.iss_device.proofs.Devices.{stands_opened, run_opened, rests_stands}
use Rattle.iss_standing.proofs.Bodies.{first_self}
use Rattle.iss_device.proofs.Firmly.{stops_stand}
use Rattle.iss_device.proofs.Written.{wrote_at}
use Rattle.iss_device.proofs.Moments.{opening_on_device, opening_is, opening_gate, trace_opened, not_opened_moments, not_opened_unsynced, opened_moments, opened_unsynced, rests_now, ends_at_rest}
use Rattle.iss_serve.specs.Goings.{records_in, SessionGoesPart}
use Rattle.iss_serve.specs.Runs.{EndsWith}
use Rattle.iss_serve.specs.ServeRuns.{session_on_device, session_then, steps_said, records_then, IsDoneInPart, DoneAt, AllClosed, ServeOn}

-- ---- what an opening does isn't on channels

opening_silent : (actions : List Action) (later : List Step) → AreOnDevice actions → channel_steps (with_levels 0 actions ++ later) ≡ channel_steps later
opening_silent [] later on = refl
opening_silent (x ∷ xs) later on =
    let first : Step = record { action = x; level = 0 } in
    let others = channel_steps (with_levels 0 xs ++ later) in
    ap (λ (b : Bool). cond b (first ∷ others) others) (on_device_busy x on.0) ∙ opening_silent xs later on.1
  where
    on_device_busy : (action : Action) → is_on_device action ≡ true → is_still action ≡ false
    on_device_busy (Write at bytes ok) on = refl
    on_device_busy (Sync ok) on = refl
    on_device_busy (Emit ch bytes ok) on = absurd cc
    on_device_busy (Dial ch) on = absurd cc
    on_device_busy (Close ch) on = absurd cc

-- what was done on channels, without its levels
channel_actions_are : (steps : List Step) → channel_actions (actions_of steps) ≡ actions_of (channel_steps steps)
channel_actions_are [] = refl
channel_actions_are (step ∷ steps) = by (is_still step.action) (channel_actions_are steps)
  where
    by : (b : Bool) → channel_actions (actions_of steps) ≡ actions_of (channel_steps steps)
        → cond b (step.action ∷ channel_actions (actions_of steps)) (channel_actions (actions_of steps)) ≡ actions_of (cond b (step ∷ channel_steps steps) (channel_steps steps))
    by true rest = ap (λ (l : List Action). step.action ∷ l) rest
    by false rest = rest

-- ---- closes send nothing

closings_silent : (ch level : ℕ) (channels : List Channel) → sent_on ch (actions_of (closings level channels)) ≡ []
closings_silent ch level [] = refl
closings_silent ch level (c ∷ channels) = closings_silent ch level channels

last_silent : (ch : ℕ) (s : Session) → sent_on ch (actions_of (last_steps s)) ≡ []
last_silent ch s =
    let readers = closings (count s) (map (λ r. r.ch) s.readers) in
    let waiting = closings (count s) (map (λ w. w.ch) s.desk.waiting) in
    let links = closings (count s) (map (λ l. l.ch) s.links) in
    two (readers ++ waiting) links ∙ ap (λ (l : List ℕ). l ++ sent_on ch (actions_of links)) (two readers waiting)
    ∙ ap (λ (l : List ℕ). (l ++ sent_on ch (actions_of waiting)) ++ sent_on ch (actions_of links)) (closings_silent ch (count s) (map (λ r. r.ch) s.readers))
    ∙ ap (λ (l : List ℕ). l ++ sent_on ch (actions_of links)) (closings_silent ch (count s) (map (λ w. w.ch) s.desk.waiting))
    ∙ closings_silent ch (count s) (map (λ l. l.ch) s.links)
  where
    two : (x y : List Step) → sent_on ch (actions_of (x ++ y)) ≡ sent_on ch (actions_of x) ++ sent_on ch (actions_of y)
    two x y = ap (sent_on ch) (actions_of-append x y) ∙ sent_on-append ch (actions_of x) (actions_of y)

sent_to_last : (ch : ℕ) (said : List Step) (s : Session) → sent_on ch (actions_of (said ++ last_steps s)) ≡ sent_on ch (actions_of said)
sent_to_last ch said s =
    ap (sent_on ch) (actions_of-append said (last_steps s))
    ∙ sent_on-append ch (actions_of said) (actions_of (last_steps s))
    ∙ ap (λ (l : List ℕ). sent_on ch (actions_of said) ++ l) (last_silent ch s)
    ∙ append-nil (sent_on ch (actions_of said))

-- ---- channels are closed

closed_at_end : (run : Run) (turns : ℕ) (happenings : List Happening) → Fits program_readers (session_of run turns) happenings → IsComplete (session_then (session_of run turns) happenings)
    → AllClosed (session_of run turns) happenings
closed_at_end run turns happenings fits over =
    record {
      dialled = λ n. run_closed program_readers run turns happenings n program_reads_events fits over;
      clients =
          λ before after item ch is cut.
          run_client_closed program_readers run turns before after item ch program_reads_events is
          (subst (λ (l : List Happening). Fits program_readers (session_of run turns) l) cut fits)
          (subst (λ (l : List Happening). IsComplete (session_then (session_of run turns) l)) cut over);
    }

-- ---- the records of a session

-- the records that stood, and those that the session made
records_are : (run : Run) (turns : ℕ) (rs : List Record) (happenings : List Happening) → run.history ≡ history_of rs
    → records_in (session_then (session_of run turns) happenings) ≡ records_then rs (session_of run turns) happenings
records_are run turns rs happenings is =
    records_of_session program_readers (session_of run turns) happenings
    ∙ ap (λ (l : List Record). l ++ session_records program_readers (session_of run turns) happenings) (ap (λ (h : History). h.records) is ∙ records_history rs)

-- ---- a run on the store that was opened

-- a status other than 0
done_at : (status : ℕ) (s : Session) (happenings : List Happening) (done : List Step) → (status ≡ 0 → ⊥) → IsDoneInPart (steps_said s happenings) done → DoneAt status s happenings done
done_at status s happenings done not_done part = record { whole = λ e. absurd (not_done e); part = λ other. part }

module _ (turns : ℕ) (form : Form) (seat : Seat) (rs : List Record) (s : StoreNow) (a b d : Outer) (opening : OpenedAs s a.world b.world) (quiet : b.heard ≡ a.heard) (stands : DeviceStandsFor form seat rs a.world.device) where
  abbrev start : Session
  start = session_of (run_at s rs) turns

  abbrev first_steps : List Step
  first_steps = with_levels 0 opening.good.added

  opened : IsOpenedOn form seat rs s
  opened = stands_opened form seat rs s a.world b.world opening stands

  pub stands_there : StandsFor s rs
  stands_there = opened.stands

  -- what is said of the session on the store holds of the one on the device
  on_device : (P : Session → Type 0) → P start → P (session_on_device turns form seat rs)
  on_device P p = subst (λ (k : Run). P (session_of k turns)) (run_opened form seat rs s a.world.device opening.opens opened) p

  -- the records that a session made are those that stood and its own
  made : (happenings : List Happening) → records_in (session_then start happenings) ≡ records_then rs start happenings
  made happenings = records_are (run_at s rs) turns rs happenings refl

  -- what was done from the session's start was done from the records that stood
  part_there : (happenings : List Happening) (said : List Step) → StepsGoPart (form_under s) (seat_under s) (records_in start) (records_in (session_then start happenings)) said b.world d.world
      → StepsGoPart (form_under s) (seat_under s) rs (records_then rs start happenings) said b.world d.world
  part_there happenings said part =
      subst (λ (l : List Record). StepsGoPart (form_under s) (seat_under s) rs l said b.world d.world) (made happenings)
      (subst (λ (l : List Record). StepsGoPart (form_under s) (seat_under s) l (records_in (session_then start happenings)) said b.world d.world) (records_history rs) part)

  goes_there : (to : Seat) (happenings : List Happening) (last : Session) (said : List Step) → session_then start happenings ≡ last
      → StepsGo (form_under s) (seat_under s) to (records_in start) (records_in last) said b.world d.world
      → StepsGo (form_under s) (seat_under s) to rs (records_then rs start happenings) said b.world d.world
  goes_there to happenings last said ends goes =
      subst (λ (l : List Record). StepsGo (form_under s) (seat_under s) to rs l said b.world d.world) (ap records_in (sym ends) ∙ made happenings)
      (subst (λ (l : List Record). StepsGo (form_under s) (seat_under s) to l (records_in last) said b.world d.world) (records_history rs) goes)

  -- where it ends, by what was done since the start
  whole_ends : (to : Seat) (all : List Record) (said : List Step) (part : StepsGoPart (form_under s) (seat_under s) rs all said b.world d.world)
      → StepsGo (form_under s) (seat_under s) to rs all said b.world d.world
      → EndsAtRest form rs all (actions_of (first_steps ++ part.steps)) a.world d.world
  whole_ends to all said part goes =
      let same : actions_of part.steps ≡ actions_of goes.steps =
      append_cancel_left b.world.trace (actions_of part.steps) (actions_of goes.steps) (sym part.grew ∙ goes.grew) in
      subst (λ (l : List Action). EndsAtRest form rs all l a.world d.world)
      (sym (actions_of-append first_steps part.steps
      ∙ ap (λ (l : List Action). l ++ actions_of part.steps) (actions_of-leveled 0 opening.good.added)
      ∙ ap (λ (l : List Action). opening.good.added ++ l) same))
      (ends_at_rest form seat rs s a.world b.world opening stands to all said d.world goes)

  -- the room in which its session ends
  last_room : (ends : EndsWith s turns rs b d) → (session_then start ends.goes.happenings).run.room ≡ Some (room_in form ends.seat)
  last_room ends =
      ap (λ (m : Session). m.run.room) ends.goes.ends ∙ ends.room_is
      ∙ ap (λ (f : Form). Some (room_in f ends.seat)) opened.form_is

  few_made : (all : List Record) → (length rs ≤ MOST_RECORDS → length all ≤ MOST_RECORDS) → length all ≤ MOST_RECORDS
  few_made all few = few (few_stand form seat rs a.world.device stands)

  in_turns : (happenings : List Happening) → Fits program_readers start happenings → waits_in happenings ≤ turns
  in_turns happenings fits =
      let within : waits_in happenings + (session_then start happenings).turns ≤ turns = waits_within program_readers start happenings fits in
      omega (arith, within)

  trace_grew : (later : List Step) → d.world.trace ≡ b.world.trace ++ actions_of later → d.world.trace ≡ a.world.trace ++ actions_of (first_steps ++ later)
  trace_grew later grew =
      grew
      ∙ ap (λ (t : List Action). t ++ actions_of later) opening.good.grew
      ∙ append_assoc a.world.trace opening.good.added (actions_of later)
      ∙ ap (λ (l : List Action). a.world.trace ++ l)
      (sym (actions_of-append first_steps later ∙ ap (λ (l : List Action). l ++ actions_of later) (actions_of-leveled 0 opening.good.added)))

  silent : (later : List Step) → channel_steps (first_steps ++ later) ≡ channel_steps later
  silent later = opening_silent opening.good.added later opening.good.on_device

  pub serve_part : (status : ℕ) → (status ≡ 0 → ⊥) → (status ≡ 4 → ⊥) → (failed : Type 0) → (failed → status ≡ 6) → SessionGoesPart failed program_readers (form_under s) (seat_under s) start b d
      → ServeOn turns status form seat rs (session_on_device turns form seat rs) a d
  serve_part status not_done not_device failed of_disk p =
      let all = records_then rs start p.happenings in
      let part = part_there p.happenings p.said p.part in
      let goes : (status ≡ 6 → ⊥) → (to : Seat) × StepsGo (form_under s) (seat_under s) to rs all p.said b.world d.world =
      λ other. elim p.whole [
        | inl on ↦ (on.0, goes_there on.0 p.happenings (session_then start p.happenings) p.said refl on.1)
        | inr fails ↦ absurd (other (of_disk fails))
      ] in
      let steps = first_steps ++ part.steps in
      let heard : d.heard ≡ a.heard ++ answers_of p.happenings = p.heard ∙ ap (λ (h : List Answered). h ++ answers_of p.happenings) quiet in
      let grew : d.world.trace ≡ a.world.trace ++ actions_of steps = trace_grew part.steps part.grew in
      let cut : steps_said start p.happenings ≡ channel_steps steps ++ p.undone = p.cut ∙ ap (λ (l : List Step). l ++ p.undone) (sym (silent part.steps ∙ part.done)) in
      let serves : ServesPart program_readers start a d =
      record {
        happenings = p.happenings;
        heard = heard;
        fits = p.fits;
        added = actions_of steps;
        undone = actions_of p.undone;
        grew = grew;
        done =
            ap actions_of cut ∙ actions_of-append (channel_steps steps) p.undone
            ∙ ap (λ (l : List Action). l ++ actions_of p.undone) (sym (channel_actions_are steps));
      } in
      on_device (λ (m : Session). ServeOn turns status form seat rs m a d)
      (record {
        happenings = p.happenings;
        heard = heard;
        fits = p.fits;
        waits = in_turns p.happenings p.fits;
        opening = first_steps;
        later = part.steps;
        opening_alone = opening_on_device opening.good.added opening.good.on_device;
        opening_is = opening_is opening.good.added opening.good.syncs;
        opening_gate = opening_gate form rs a.world b.world opening.good;
        grew = grew;
        done = done_at status start p.happenings (channel_steps steps) not_done (record { undone = p.undone; cut = cut });
        synced = part.synced;
        wrote = wrote_at form seat rs (session_records program_readers start p.happenings) all refl s opened b.world d.world p.said status part goes;
        sent = λ ch.
            let sent = serves_part_sent program_readers start a d ch serves in
            record { unsent = sent.unsent; sent = sent.sent };
        history = part.history stands.history;
        moments = opened_moments form seat rs s a.world b.world opening stands all p.said d.world part;
        unsynced = opened_unsynced form seat rs s a.world b.world opening stands all p.said d.world part;
        stops =
            stops_stand form rs all a.world.device part.more (part.history stands.history) (λ halved. few_made all part.few) first_steps part.steps
            (opened_unsynced form seat rs s a.world b.world opening stands all p.said d.world part);
        whole = λ e. absurd (not_done e);
        ended = λ other. inr (whole_ends (goes other).0 all p.said part (goes other).1);
        other_device = not_device;
      })

  pub serve_whole : EndsWith s turns rs b d → ServeOn turns 0 form seat rs (session_on_device turns form seat rs) a d
  serve_whole ends =
      let p = ends.goes in
      let all = records_then rs start p.happenings in
      let said = steps_said start p.happenings ++ last_steps ends.last in
      let goes : StepsGo (form_under s) (seat_under s) ends.seat rs all said b.world d.world = goes_there ends.seat p.happenings ends.last said p.ends p.goes in
      let part : StepsGoPart (form_under s) (seat_under s) rs all said b.world d.world = joins.goes_part (form_under s) (seat_under s) ends.seat rs all said b.world d.world goes in
      let part_steps : List Step = part.steps in
      let steps = first_steps ++ part_steps in
      let heard : d.heard ≡ a.heard ++ answers_of p.happenings = p.heard ∙ ap (λ (h : List Answered). h ++ answers_of p.happenings) quiet in
      let grew : d.world.trace ≡ a.world.trace ++ actions_of steps = trace_grew part_steps part.grew in
      let done : channel_steps steps ≡ said = silent part_steps ∙ part.done in
      let over : IsComplete (session_then start p.happenings) = subst IsComplete (sym p.ends) p.complete in
      let serves : ServesAll program_readers (run_at s rs) turns ends.last a d =
      record {
        happenings = p.happenings;
        heard = heard;
        fits = p.fits;
        ends = p.ends;
        complete = p.complete;
        added = actions_of steps;
        grew = grew;
        done = channel_actions_are steps ∙ ap actions_of done;
      } in
      let sent : (ch : ℕ) → sent_on ch d.world.trace ≡ sent_on ch a.world.trace ++ sent_on ch (actions_of (steps_said start p.happenings)) =
      λ ch.
      serves_all_sent program_readers (run_at s rs) turns ends.last a d ch serves
      ∙ ap (λ (l : List ℕ). sent_on ch a.world.trace ++ l) (sent_to_last ch (steps_said start p.happenings) ends.last) in
      on_device (λ (m : Session). ServeOn turns 0 form seat rs m a d)
      (record {
        happenings = p.happenings;
        heard = heard;
        fits = p.fits;
        waits = in_turns p.happenings p.fits;
        opening = first_steps;
        later = part_steps;
        opening_alone = opening_on_device opening.good.added opening.good.on_device;
        opening_is = opening_is opening.good.added opening.good.syncs;
        opening_gate = opening_gate form rs a.world b.world opening.good;
        grew = grew;
        done =
            record {
              whole = λ e. done ∙ ap (λ (m : Session). steps_said start p.happenings ++ last_steps m) (sym p.ends);
              part = λ other. absurd (other refl);
            };
        synced = part.synced;
        wrote = wrote_at form seat rs (session_records program_readers start p.happenings) all refl s opened b.world d.world said 0 part (λ other. (ends.seat, goes));
        sent = λ ch. record { unsent = []; sent = sym (sent ch) ∙ sym (append-nil (sent_on ch d.world.trace)) };
        history = part.history stands.history;
        moments = opened_moments form seat rs s a.world b.world opening stands all said d.world part;
        unsynced = opened_unsynced form seat rs s a.world b.world opening stands all said d.world part;
        stops =
            stops_stand form rs all a.world.device part.more (part.history stands.history) (λ halved. few_made all part.few) first_steps part_steps
            (opened_unsynced form seat rs s a.world b.world opening stands all said d.world part);
        whole = λ e.
            record {
              came = p.came;
              complete = over;
              sent = sent;
              closed = closed_at_end (run_at s rs) turns p.happenings p.fits over;
              stands =
                  subst (λ (room : Option Room). DeviceStandsFor form (seat_of room) all d.world.device) (sym (last_room ends))
                  (stands_in_room form ends.seat all d.world.device
                  (rests_stands form ends.seat all d.world.device stands.form_is (part.history stands.history) (λ halved. few_made all part.few)
                  (rests_now form seat rs s a.world b.world opening stands ends.seat all said d.world goes)));
              ends = whole_ends ends.seat all said part goes;
            };
        ended = λ other. inr (whole_ends ends.seat all said part goes);
        other_device = λ e. cc;
      })

-- ---- a run that ended with its opening

pub not_opened : (turns status : ℕ) (form : Form) (seat : Seat) (rs : List Record) (a b : Outer) → (status ≡ 0 → ⊥) → (status ≡ 4 → ⊥) → OpensGood a.world b.world → ((status ≡ 6 → ⊥) → ReadsAlone a.world b.world) → b.heard ≡ a.heard → DeviceStandsFor form seat rs a.world.device
    → ServeOn turns status form seat rs (session_on_device turns form seat rs) a b
not_opened turns status form seat rs a b not_done not_device good reads quiet stands =
    let start = session_on_device turns form seat rs in
    let steps = with_levels 0 good.added ++ [] in
    let none : channel_steps steps ≡ [] = opening_silent good.added [] good.on_device in
    let grew : b.world.trace ≡ a.world.trace ++ actions_of steps = trace_opened a.world b.world good in
    let part : ServesPart program_readers start a b =
    record {
      happenings = [];
      heard = quiet ∙ sym (append-nil a.heard);
      fits = tt;
      added = actions_of steps;
      undone = [];
      grew = grew;
      done = sym (append-nil (channel_actions (actions_of steps)) ∙ channel_actions_are steps ∙ ap actions_of none);
    } in
    record {
      happenings = [];
      heard = quiet ∙ sym (append-nil a.heard);
      fits = tt;
      waits = omega arith;
      opening = with_levels 0 good.added;
      later = [];
      opening_alone = opening_on_device good.added good.on_device;
      opening_is = opening_is good.added good.syncs;
      opening_gate = opening_gate form rs a.world b.world good;
      grew = grew;
      done = done_at status start [] (channel_steps steps) not_done (record { undone = []; cut = sym (append-nil (channel_steps steps) ∙ none) });
      synced = tt;
      wrote = record { whole = λ other. refl; part = tt };
      sent = λ ch.
          let sent = serves_part_sent program_readers start a b ch part in
          record { unsent = sent.unsent; sent = sent.sent };
      history = subst AreHistory (sym (append-nil rs)) stands.history;
      moments =
          subst (λ (l : List Record). EachMoment form rs l (with_levels 0 good.added) [] a.world.device) (sym (append-nil rs))
          (not_opened_moments form seat rs a.world b.world good stands);
      unsynced =
          subst (λ (l : List Record). EachMomentUnsynced form rs l (with_levels 0 good.added) [] a.world.device) (sym (append-nil rs))
          (not_opened_unsynced form seat rs a.world b.world good stands);
      stops =
          subst (λ (l : List Record). EachStopStands form rs l (with_levels 0 good.added) [] a.world.device) (sym (append-nil rs))
          (stops_stand form rs rs a.world.device (first_self rs) stands.history stands.few (with_levels 0 good.added) [] (not_opened_unsynced form seat rs a.world b.world good stands));
      whole = λ e. absurd (not_done e);
      ended = λ other. inl (reads other);
      other_device = not_device;
    }
