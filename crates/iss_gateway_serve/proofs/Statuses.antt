-- How the program ends, by what ended its run.
use Rattle.std.proofs.Common.{◌≡◌, ℕ, List, inl, inr, true, Some, None, Option, refl, sym, ◌∙◌, arith}
use Rattle.std.specs.Prelude.{Result, Ok, Err, is_ok, IsSome}
use Rattle.iss_edge.specs.declared.status.TheConstants.{DONE, USAGE}
use Rattle.iss_edge.specs.Outer.{Outer}
use Rattle.iss_edge.specs.World.{Told, Faults}
use Rattle.iss_edge.proofs.Tolds.{told_map}
use Rattle.iss_http.specs.Messages.{IsStatus}
use Rattle.iss_attend.specs.declared.fault.AttendFault.{AttendFault}
use Rattle.iss_attend.specs.declared.fault.AttendFault.TheVariants.{Wait, OutOfMemory}
use Rattle.iss_attend.specs.Attendances.{Manner}
use Rattle.iss_attend.specs.Causes.{IsAttendCaused}
use Rattle.iss_attend.specs.Runs.{AttendRun}
use Rattle.iss_gateway.specs.declared.message.Given.{Given}
use Rattle.iss_gateway.specs.declared.message.Given.TheVariants.{Funded, Refused, Acked}
use Rattle.iss_gateway.specs.declared.message.Message.{Message}
use Rattle.iss_gateway.specs.Answering.{message_status, status_for}
use Rattle.iss_gateway.specs.Messages.{status_of}
use Rattle.iss_gateway.specs.Readings.{message_read}
use Rattle.iss_gateway.specs.Rules.{Reference, given_for}
use Rattle.iss_gateway_serve.specs.declared.words.Service.{Service}
use Rattle.iss_gateway_serve.specs.Serving.{exit_status, StatusOf}

given_known : (g : Given) (n : ℕ) → n ≡ status_of g → IsStatus n
given_known (Funded amount) n e = inl e
given_known Refused n e = inr (inr (inr (inr (inr e))))
given_known Acked n e = inl e

message_known : (r : Reference) (m : Option Message) (n : ℕ) → n ≡ message_status r m → IsStatus n
message_known r None n e = inr (inl e)
message_known r (Some m) n e = given_known (given_for r m) n e

-- the status of each answer is one of responses
pub status_known : (r : Reference) (text : List ℕ) (n : ℕ) → n ≡ status_for r text → IsStatus n
status_known r text n e = message_known r (message_read text) n e

some_asked : {A : Type 0} {B : Type 0} (asked : Option A) (s : A) → asked ≡ Some s → asked ≡ None → B
some_asked asked s is none = absurd (clash (sym is ∙ none))
  where
    clash : Some s ≡ None → ⊥
    clash e = cc

-- a run that was asked for ended
pub status_ended : {E : Type 0} (a b : E) (before now : Faults) (asked : Option Service) (s : Service) (r : Result (Unit {0}) AttendFault) → asked ≡ Some s
    → IsAttendCaused before now r → StatusOf asked a b before now (exit_status r)
status_ended a b before now asked s (Ok done) is caused =
    record {
      known = refl;
      usage = (λ e. absurd (omega (arith, e)), λ none. some_asked asked s is none);
      untouched = λ e. absurd (omega (arith, e));
      input_fault = λ e. absurd (omega (arith, e));
      ends_well = λ some well. inl refl;
    }
status_ended a b before now asked s (Err Wait) is caused =
    record {
      known = refl;
      usage = (λ e. absurd (omega (arith, e)), λ none. some_asked asked s is none);
      untouched = λ e. absurd (omega (arith, e));
      input_fault = λ e. caused.cause;
      ends_well = λ some well. absurd (well caused.cause);
    }
status_ended a b before now asked s (Err OutOfMemory) is caused =
    record {
      known = refl;
      usage = (λ e. absurd (omega (arith, e)), λ none. some_asked asked s is none);
      untouched = λ e. absurd (omega (arith, e));
      input_fault = λ e. absurd (omega (arith, e));
      ends_well = λ some well. inr refl;
    }

-- nothing was asked for
pub status_unasked : {E : Type 0} (a : E) (before now : Faults) (asked : Option Service) → asked ≡ None → StatusOf asked a a before now USAGE
status_unasked a before now asked is =
    record {
      known = refl;
      usage = (λ e. is, λ none. refl);
      untouched = λ e. refl;
      input_fault = λ e. absurd (omega (arith, e));
      ends_well = λ some well. absurd (none_some asked is some);
    }
  where
    none_some : {A : Type 0} (o : Option A) → o ≡ None → IsSome o → ⊥
    none_some None e some = absurd cc
    none_some (Some x) e some = cc

done_ok : (r : Result (Unit {0}) AttendFault) → exit_status r ≡ DONE → is_ok r ≡ true
done_ok (Ok done) e = refl
done_ok (Err Wait) e = absurd (omega (arith, e))
done_ok (Err OutOfMemory) e = absurd (omega (arith, e))

-- a run is done at status 0
pub served_told : {G : Type 0} (manner : Manner G) (g : G) (turns : ℕ) (r : Result (Unit {0}) AttendFault) (x y : Option Outer)
    → Told (AttendRun manner g turns (is_ok r ≡ true)) x y → Told (AttendRun manner g turns (exit_status r ≡ DONE)) x y
served_told manner g turns r x y p =
    told_map (AttendRun manner g turns (is_ok r ≡ true)) (AttendRun manner g turns (exit_status r ≡ DONE)) x y
    (λ a b run.
    record {
      items = run.items;
      heard = run.heard;
      fits = run.fits;
      waits = run.waits;
      device = run.device;
      done = run.done;
      undone = run.undone;
      trace = run.trace;
      cut = run.cut;
      whole = λ o. run.whole (done_ok r o);
    }) p
