-- What the bytes of a client whose request wasn't whole come to.
use Rattle.std.proofs.Common.{◌≡◌, ℕ, Bool, true, false, List, [], ◌∷◌, ◌++◌, refl, sym, ap, ◌∙◌, true≢false}
use Rattle.std.specs.Prelude.{Result, Ok, Err}
use Rattle.iss_edge.specs.declared.outside.Channel.{Channel}
use Rattle.iss_event.specs.declared.line.Mode.TheVariants.{Client}
use Rattle.iss_event.specs.Readings.{line_read}
use Rattle.iss_http.specs.declared.faults.HttpFault.{HttpFault}
use Rattle.iss_http.specs.declared.faults.HttpFault.TheVariants.{Head, HeadLong, Method, Path, Coding, NoLength, BodyLong}
use Rattle.iss_http.specs.Requests as http
use Rattle.iss_http.specs.Requests.{request, faulty, HasFault}
use Rattle.iss_model.specs.declared.input.Input.{Input}
use Rattle.iss_session.specs.Desks.{to_reply}
use Rattle.iss_session.specs.Sessions.{Session, OpenRequest, with_tasks}
use Rattle.iss_session.specs.Hearings.{bytes_on, readers_with, readers_without, request_early, after_request, after_line, fault_response}
use Rattle.iss_session_examples.specs.Program.{program_readers, line_as}
use Rattle.iss_serve.specs.declared.requests.Request.{Request}
use Rattle.iss_serve.specs.declared.requests.Request.TheVariants.{More, Says, Bad}
use Rattle.iss_serve.specs.Requests.{requested, ReadsOn, SaysLine}

-- ---- what the bytes come to

-- the response tells this fault
abbrev pub SaysFault : HttpFault → Request → Type 0
SaysFault fault More = ⊥
SaysFault fault (Says i) = ⊥
SaysFault fault (Bad text) = text.items ≡ fault_response fault

module _ (ch : Channel) (piece : List ℕ) (before : List OpenRequest) where
  abbrev joined : List ℕ
  joined = bytes_on ch before ++ piece

  pub reads_more : (after : List OpenRequest) → request joined ≡ http.more → after ≡ readers_with ch joined before → ReadsOn ch piece before after More
  reads_more after is kept =
      record {
        early = false;
        may = λ e. absurd (true≢false (sym e));
        is =
            λ s readers.
            ap (after_request program_readers s ch joined) is
            ∙ ap (λ (l : List OpenRequest). record s { readers = readers_with ch joined l }) readers
            ∙ ap (λ (l : List OpenRequest). record s { readers = l }) (sym kept);
      }

  body_leads : (s : Session) (clients : List OpenRequest) (line : Result Input (List ℕ)) (said : Request) → SaysLine line said → after_line (record s { readers = clients }) ch line ≡ requested s ch clients said
  body_leads s clients line More says = absurd says
  body_leads s clients line (Says i) says = ap (after_line (record s { readers = clients }) ch) says
  body_leads s clients (Ok i) (Bad text) says = absurd says
  body_leads s clients (Err line) (Bad text) says = ap (λ (t : List ℕ). with_tasks (record s { readers = clients }) (to_reply ch t ∷ [])) (sym says)

  pub reads_body : (after : List OpenRequest) (text : List ℕ) (said : Request) → request joined ≡ http.body text → after ≡ readers_without ch before → SaysLine (line_as (line_read Client text)) said
      → ReadsOn ch piece before after said
  reads_body after text said is left says =
      record {
        early = false;
        may = λ e. absurd (true≢false (sym e));
        is =
            λ s readers.
            ap (after_request program_readers s ch joined) is
            ∙ ap (λ (l : List OpenRequest). after_line (record s { readers = readers_without ch l }) ch (line_as (line_read Client text))) readers
            ∙ ap (λ (l : List OpenRequest). after_line (record s { readers = l }) ch (line_as (line_read Client text))) (sym left)
            ∙ body_leads s after (line_as (line_read Client text)) said says;
      }

  -- a fault, told late or at once
  fault_reads : (early : Bool) (fault : HttpFault) (after : List OpenRequest) (said : Request) → (early ≡ true → http.IsHopelessRequest joined) → request_early early (request joined) ≡ faulty fault
      → after ≡ readers_without ch before → SaysFault fault said → ReadsOn ch piece before after said
  fault_reads early fault after said may is left says =
      record {
        early = early;
        may = may;
        is =
            λ s readers.
            ap (after_request program_readers s ch joined) is
            ∙ ap (λ (l : List OpenRequest). with_tasks (record s { readers = readers_without ch l }) (to_reply ch (fault_response fault) ∷ [])) readers
            ∙ ap (λ (l : List OpenRequest). with_tasks (record s { readers = l }) (to_reply ch (fault_response fault) ∷ [])) (sym left)
            ∙ told_so s said says;
      }
    where
      told_so : (s : Session) (r : Request) → SaysFault fault r → with_tasks (record s { readers = after }) (to_reply ch (fault_response fault) ∷ []) ≡ requested s ch after r
      told_so s More e = absurd e
      told_so s (Says i) e = absurd e
      told_so s (Bad text) e = ap (λ (t : List ℕ). with_tasks (record s { readers = after }) (to_reply ch t ∷ [])) (sym e)

  pub reads_fault : (fault : HttpFault) (after : List OpenRequest) (said : Request) → HasFault joined fault → after ≡ readers_without ch before → SaysFault fault said → ReadsOn ch piece before after said
  reads_fault Head after said has left says = fault_reads true Head after said (λ e. has) refl left says
  reads_fault HeadLong after said has left says = fault_reads false HeadLong after said (λ e. absurd (true≢false (sym e))) has left says
  reads_fault Method after said has left says = fault_reads false Method after said (λ e. absurd (true≢false (sym e))) has left says
  reads_fault Path after said has left says = fault_reads false Path after said (λ e. absurd (true≢false (sym e))) has left says
  reads_fault Coding after said has left says = fault_reads false Coding after said (λ e. absurd (true≢false (sym e))) has left says
  reads_fault NoLength after said has left says = fault_reads false NoLength after said (λ e. absurd (true≢false (sym e))) has left says
  reads_fault BodyLong after said has left says = fault_reads false BodyLong after said (λ e. absurd (true≢false (sym e))) has left says
