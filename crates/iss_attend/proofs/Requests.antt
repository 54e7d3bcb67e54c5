-- What the bytes of a client whose request wasn't whole come to.
use Rattle.std.proofs.Common.{◌≡◌, ℕ, Bool, true, false, List, ◌++◌, Some, None, refl, sym, ap, ◌∙◌, true≢false}
use Rattle.iss_edge.specs.declared.outside.Channel.{Channel}
use Rattle.iss_http.specs.declared.faults.HttpFault.{HttpFault}
use Rattle.iss_http.specs.declared.faults.HttpFault.TheVariants.{Head, HeadLong, Method, Path, Coding, NoLength, BodyLong}
use Rattle.iss_http.specs.Requests as http
use Rattle.iss_http.specs.Requests.{Request, jit_request, faulty, HasFaultAs}
use Rattle.iss_session.specs.Sessions.{OpenRequest}
use Rattle.iss_session.specs.Hearings.{bytes_on, readers_with, readers_without, request_early, fault_response}
use Rattle.iss_attend.specs.Attendances.{Manner, at_rest, replying, after_request}
use Rattle.iss_attend.specs.Reading.{ReadsOn}

module _ {G : Type 0} (manner : Manner G) (ch : Channel) (piece : List ℕ) (before : List OpenRequest) (was : G) where
  abbrev joined : List ℕ
  joined = bytes_on ch before ++ piece

  pub reads_more : (after : List OpenRequest) → jit_request joined ≡ http.more → after ≡ readers_with ch joined before → ReadsOn manner ch piece before after was was None
  reads_more after is kept =
      record {
        early = false;
        may = λ e. absurd (true≢false (sym e));
        leads =
            λ turns.
            ap (after_request manner (at_rest was turns before) ch joined) is
            ∙ ap (λ (l : List OpenRequest). at_rest was turns l) (sym kept);
      }

  pub reads_body : (after : List OpenRequest) (text said : List ℕ) (now : G) → jit_request joined ≡ http.body text → after ≡ readers_without ch before → said ≡ manner.response was text
      → now ≡ manner.after was text → ReadsOn manner ch piece before after was now (Some said)
  reads_body after text said now is left says leads =
      record {
        early = false;
        may = λ e. absurd (true≢false (sym e));
        leads =
            λ turns.
            ap (after_request manner (at_rest was turns before) ch joined) is
            ∙ ap (λ (l : List OpenRequest). replying (manner.after was text) turns l ch (manner.response was text)) (sym left)
            ∙ ap (λ (g : G). replying g turns after ch (manner.response was text)) (sym leads)
            ∙ ap (λ (t : List ℕ). replying now turns after ch t) (sym says);
      }

  -- a fault, told late or at once
  fault_reads : (early : Bool) (fault : HttpFault) (after : List OpenRequest) (said : List ℕ) → (early ≡ true → http.IsHopelessRequest joined)
      → request_early early (jit_request joined) ≡ faulty fault → after ≡ readers_without ch before → said ≡ fault_response fault → ReadsOn manner ch piece before after was was (Some said)
  fault_reads early fault after said may is left says =
      record {
        early = early;
        may = may;
        leads =
            λ turns.
            ap (after_request manner (at_rest was turns before) ch joined) is
            ∙ ap (λ (l : List OpenRequest). replying was turns l ch (fault_response fault)) (sym left)
            ∙ ap (λ (t : List ℕ). replying was turns after ch t) (sym says);
      }

  late : {A : Type 0} → false ≡ true → A
  late e = absurd (true≢false (sym e))

  pub reads_fault : (fault : HttpFault) (after : List OpenRequest) (said : List ℕ) → HasFaultAs jit_request joined fault → after ≡ readers_without ch before → said ≡ fault_response fault
      → ReadsOn manner ch piece before after was was (Some said)
  reads_fault Head after said has left says = fault_reads true Head after said (λ e. has) refl left says
  reads_fault HeadLong after said has left says = fault_reads false HeadLong after said late has left says
  reads_fault Method after said has left says = fault_reads false Method after said late has left says
  reads_fault Path after said has left says = fault_reads false Path after said late has left says
  reads_fault Coding after said has left says = fault_reads false Coding after said late has left says
  reads_fault NoLength after said has left says = fault_reads false NoLength after said late has left says
  reads_fault BodyLong after said has left says = fault_reads false BodyLong after said late has left says
