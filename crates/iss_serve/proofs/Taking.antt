-- What a take brings, by whose channel it is.
use Rattle.std.proofs.Common.{◌≡◌, ℕ, ◌<◌, ◌&&◌, nat_le, Bool, true, false, cond, List, [], ◌∷◌, ◌++◌, length, Option, Some, None, refl, sym, ap, subst, ◌∙◌, eq-eqb, append-nil, true≢false, arith}
use Rattle.iss_edge.specs.declared.outside.Channel.{Channel}
use Rattle.iss_edge.specs.declared.outside.Action.{Action}
use Rattle.iss_edge.specs.declared.outside.Action.TheVariants.{Close}
use Rattle.iss_edge.specs.declared.outside.Answered.TheVariants.{Took}
use Rattle.iss_edge.specs.Outer.{Outer, Adds}
use Rattle.iss_edge.specs.Stretches.{actions_of}
use Rattle.iss_http.specs.Requests.{request, IsHopelessRequest}
use Rattle.iss_model.specs.declared.call.CallId.{CallId}
use Rattle.iss_model.specs.declared.input.Record.{Record}
use Rattle.iss_jit.specs.Outcomes.{outcome_of}
use Rattle.iss_session.specs.declared.piece.TheConstants.{LONGEST_PIECE}
use Rattle.iss_session.specs.Items.{HeardItem, Next, takes, is_piece, is_answer_to, IsTornEmit}
use Rattle.iss_session.specs.Desks.{to_reply, desk_with, waiters_without}
use Rattle.iss_session.specs.Links.{Link, LinkHeard, unfinished, outcome, acknowledged, dropped, link_reading, heard_as, piece_of, links_after, MayReadEarly}
use Rattle.iss_session.specs.Sessions.{Session, OpenRequest, Queued, next_of, next_idle}
use Rattle.iss_session.specs.Hearings.{Change, change_to, is_reading, is_waiting, bytes_on, link_at, readers_without, after_reading, after_waiting, after_link, after_answer, after_take, inputs_of, link_steps, request_early, after_request}
use Rattle.iss_session.specs.Happenings.{MayAnswerEarly, MayEndEarly, MayBeEarly, IsNext}
use Rattle.iss_session.specs.Sendings.{Sends}
use Rattle.iss_session_examples.specs.Program.{program_readers}
use Rattle.iss_link.specs.Hearing.{Answers, closing}
use Rattle.iss_opening.specs.Values.{StoreNow}
use Rattle.iss_serve.specs.declared.requests.Request.{Request}
use Rattle.iss_serve.specs.declared.requests.Request.TheVariants.{More, Says, Bad}
use Rattle.iss_serve.specs.Requests.{requested, ReadsOn}
use Rattle.iss_serve.specs.Held.{HeldNow, Stage, idle, to_judge, sending, taking, answers_unreached, session_at}
use Rattle.iss_serve.specs.Runs.{ServesOn, ServesSome}
use Rattle.iss_serve.proofs.Stages.{heard_on, heard_some, sends_on}

abbrev took : Channel → Option (List ℕ) → Bool → HeardItem
took ch got early = record { answer = Took ch got; early = early; torn = None }

-- what a take brings may always be answered late
late_request : (s : Session) (ch : Channel) (got : Option (List ℕ)) → MayAnswerEarly s ch got false
late_request s ch None = tt
late_request s ch (Some []) = tt
late_request s ch (Some (b ∷ piece)) = tt

late_link : (link : Link) (got : Option (List ℕ)) → MayReadEarly link got false
late_link link None = tt
late_link link (Some piece) = tt

late_answer : (o : Option Link) (got : Option (List ℕ)) → MayEndEarly o got false
late_answer None got = tt
late_answer (Some link) got = late_link link got

-- what a client's bytes come to: nothing yet, an input, or a response that tells their fault
abbrev pub came_to : StoreNow → HeldNow → Channel → Request → Stage
came_to store h ch More = idle store h
came_to store h ch (Says i) = to_judge store h (record { input = i; client = Some ch } ∷ [])
came_to store h ch (Bad text) = sending store h [] (to_reply ch text.items ∷ [])

same_store : (store : StoreNow) (h : HeldNow) (ch : Channel) (said : Request) → (came_to store h ch said).store ≡ store
same_store store h ch More = refl
same_store store h ch (Says i) = refl
same_store store h ch (Bad text) = refl

-- the links are those of the store's instance
abbrev pub IsInstance : StoreNow → HeldNow → Type 0
IsInstance store h = h.links.instance ≡ store.core.instance

-- some bytes, cut after the first one
pub record IsSome_of (piece : List ℕ) : Type 0 where
  pub first : ℕ
  pub rest : List ℕ
  pub is : piece ≡ first ∷ rest

some_bytes : (piece : List ℕ) → 0 < length piece → IsSome_of piece
some_bytes [] more = absurd (none more)
  where
    none : 0 < 0 → ⊥
    none m = omega (arith, m)
some_bytes (b ∷ piece) more = record { first = b; rest = piece; is = refl }

module _ (store : StoreNow) (h : HeldNow) (ch : Channel) (settled : h.unreached ≡ []) where
  next_takes : (rs : List Record) → next_of (session_at (taking store h ch) rs) ≡ takes ch
  next_takes rs = ap (λ (calls : List CallId). next_idle (session_at (taking store h ch) rs) (answers_unreached calls)) settled

  answered : (got : Option (List ℕ)) (rs : List Record) → is_piece got ≡ true → is_answer_to (next_of (session_at (taking store h ch) rs)) (Took ch got) ≡ true
  answered got rs fits =
      ap (λ (n : Next). is_answer_to n (Took ch got)) (next_takes rs)
      ∙ ap (λ (b : Bool). b && is_piece got) (eq-eqb ch.0 ch.0 refl)
      ∙ fits

  is_next : (got : Option (List ℕ)) (early : Bool) → is_piece got ≡ true → ((rs : List Record) → MayBeEarly (session_at (taking store h ch) rs) (took ch got early) (Took ch got))
      → (rs : List Record) → IsNext (session_at (taking store h ch) rs) (took ch got early)
  is_next got early fits may rs =
      record {
        answers = answered got rs fits;
        torn = subst (λ (n : Next). IsTornEmit n (Took ch got) None) (sym (next_takes rs)) tt;
        early = may rs;
      }

  -- while no call has an answer to be judged, what is queued comes first
  some_queued : (first : List Queued) → answers_unreached h.unreached ++ first ≡ first ++ answers_unreached h.unreached
  some_queued first =
      ap (λ (calls : List CallId). answers_unreached calls ++ first) settled
      ∙ sym (append-nil first)
      ∙ ap (λ (calls : List CallId). first ++ answers_unreached calls) (sym settled)

  one_queued : (q : Queued) → answers_unreached h.unreached ++ q ∷ [] ≡ q ∷ answers_unreached h.unreached
  one_queued q = some_queued (q ∷ [])

  late : (got : Option (List ℕ)) (rs : List Record) → MayBeEarly (session_at (taking store h ch) rs) (took ch got false) (Took ch got)
  late got rs = (late_request (session_at (taking store h ch) rs) ch got, λ other none_waits. late_answer (link_at ch h.links.links) got)

  -- the take was made, and what it brought isn't read
  pub took_some : (failed : Type 0) (got : Option (List ℕ)) (a b : Outer) → is_piece got ≡ true → Adds [] (Took ch got ∷ []) a b → ServesSome failed (taking store h ch) a b
  took_some failed got a b fits adds = heard_some failed (taking store h ch) (took ch got false) a b (is_next got false fits (late got)) adds

  -- the session after a take
  abbrev after : Option (List ℕ) → Bool → List Record → Change
  after got early rs = after_take program_readers (record (session_at (taking store h ch) rs) { ready = None }) ch got early

  took_on : (got : Option (List ℕ)) (early : Bool) (y : Stage) (actions : List Action) (a b : Outer) → is_piece got ≡ true
      → ((rs : List Record) → MayBeEarly (session_at (taking store h ch) rs) (took ch got early) (Took ch got))
      → y.store ≡ store → ((rs : List Record) → (after got early rs).session ≡ session_at y rs) → ((rs : List Record) → actions_of (after got early rs).steps ≡ actions)
      → Adds actions (Took ch got ∷ []) a b → ServesOn (taking store h ch) y a b
  took_on got early y actions a b fits may same leads does adds =
      heard_on store (taking store h ch) y (took ch got early) actions a b refl same (is_next got early fits may) refl leads does adds

  -- ---- a client whose request isn't whole

  module _ (reading : is_reading ch h.clients ≡ true) where
    reads : (got : Option (List ℕ)) (early : Bool) (rs : List Record)
        → after got early rs ≡ after_reading program_readers (record (session_at (taking store h ch) rs) { ready = None }) ch got early
    reads got early rs =
        ap (λ (b : Bool). cond b (after_reading program_readers (record (session_at (taking store h ch) rs) { ready = None }) ch got early)
        (cond (is_waiting ch h.served) (after_waiting (record (session_at (taking store h ch) rs) { ready = None }) ch got)
        (after_link program_readers (record (session_at (taking store h ch) rs) { ready = None }) ch got early (link_at ch h.links.links)))) reading

    -- the take from the client fails, or the client's bytes end
    pub client_failed : (now : HeldNow) (a b : Outer) → now ≡ record h { clients = readers_without ch h.clients } → Adds (Close ch ∷ []) (Took ch None ∷ []) a b
        → ServesOn (taking store h ch) (idle store now) a b
    client_failed now a b is adds =
        took_on None false (idle store now) (Close ch ∷ []) a b refl (late None) refl
        (λ rs. ap (λ (c : Change). c.session) (reads None false rs) ∙ ap (λ (n : HeldNow). session_at (idle store n) rs) (sym is))
        (λ rs. ap (λ (c : Change). actions_of c.steps) (reads None false rs)) adds

    pub client_ended : (now : HeldNow) (a b : Outer) → now ≡ record h { clients = readers_without ch h.clients } → Adds (Close ch ∷ []) (Took ch (Some []) ∷ []) a b
        → ServesOn (taking store h ch) (idle store now) a b
    client_ended now a b is adds =
        took_on (Some []) false (idle store now) (Close ch ∷ []) a b refl (late (Some [])) refl
        (λ rs. ap (λ (c : Change). c.session) (reads (Some []) false rs) ∙ ap (λ (n : HeldNow). session_at (idle store n) rs) (sym is))
        (λ rs. ap (λ (c : Change). actions_of c.steps) (reads (Some []) false rs)) adds

    -- some bytes came, and this is what they come to
    module _ (piece : List ℕ) (more : 0 < length piece) (fits : nat_le (length piece) LONGEST_PIECE ≡ true)
        (now : HeldNow) (said : Request) (read : ReadsOn ch piece h.clients now.clients said) (is : now ≡ record h { clients = now.clients }) (a b : Outer)
        (adds : Adds [] (Took ch (Some piece) ∷ []) a b) where
      bytes : IsSome_of piece
      bytes = some_bytes piece more

      -- they may be answered early as they are read
      early_request : (s : Session) (early : Bool) (b : ℕ) (rest : List ℕ) → s.readers ≡ h.clients → piece ≡ b ∷ rest → (early ≡ true → IsHopelessRequest (bytes_on ch h.clients ++ piece))
          → MayAnswerEarly s ch (Some (b ∷ rest)) early
      early_request s false b rest readers cut may = tt
      early_request s true b rest readers cut may =
          λ reading.
          subst (λ (p : List ℕ). IsHopelessRequest (bytes_on ch s.readers ++ p)) cut (subst (λ (r : List OpenRequest). IsHopelessRequest (bytes_on ch r ++ piece)) (sym readers) (may refl))

      may_be : (rs : List Record) → MayBeEarly (session_at (taking store h ch) rs) (took ch (Some piece) read.early) (Took ch (Some piece))
      may_be rs =
          let s = session_at (taking store h ch) rs in (
            subst (λ (p : List ℕ). MayAnswerEarly s ch (Some p) read.early) (sym bytes.is) (early_request s read.early bytes.first bytes.rest refl bytes.is read.may),
            λ other none_waits. absurd (true≢false (sym reading ∙ other)),
          )

      abbrev read_as : Session → List ℕ → Session
      read_as s p = after_request program_readers s ch (bytes_on ch s.readers ++ p) (request_early read.early (request (bytes_on ch s.readers ++ p)))

      request_read : (s : Session) (b : ℕ) (rest : List ℕ) → s.readers ≡ h.clients → piece ≡ b ∷ rest
          → after_reading program_readers s ch (Some piece) read.early ≡ change_to (requested s ch now.clients said) []
      request_read s b rest readers cut =
          let one : (p : List ℕ) → p ≡ b ∷ rest → after_reading program_readers s ch (Some p) read.early ≡ change_to (read_as s p) [] =
          λ p e. subst (λ (q : List ℕ). after_reading program_readers s ch (Some q) read.early ≡ change_to (read_as s q) []) (sym e) refl in
          one piece cut ∙ ap (λ (t : Session). change_to t []) (readers_are s readers ∙ read.is s readers)
        where
          readers_are : (s : Session) → s.readers ≡ h.clients → read_as s piece
              ≡ after_request program_readers s ch (bytes_on ch h.clients ++ piece) (request_early read.early (request (bytes_on ch h.clients ++ piece)))
          readers_are s e =
              ap (λ (r : List OpenRequest). after_request program_readers s ch (bytes_on ch r ++ piece) (request_early read.early (request (bytes_on ch r ++ piece)))) e

      -- the stage that a client's bytes lead to
      came : (rs : List Record) → requested (record (session_at (taking store h ch) rs) { ready = None }) ch now.clients said ≡ session_at (came_to store now ch said) rs
      came rs = by said
        where
          by : (r : Request) → requested (record (session_at (taking store h ch) rs) { ready = None }) ch now.clients r ≡ session_at (came_to store now ch r) rs
          by More = ap (λ (n : HeldNow). session_at (idle store n) rs) (sym is)
          by (Says i) =
              ap (λ (queue : List Queued). record (session_at (idle store (record h { clients = now.clients })) rs) { queue = queue }) (one_queued (record { input = i; client = Some ch }))
              ∙ ap (λ (n : HeldNow). session_at (to_judge store n (record { input = i; client = Some ch } ∷ [])) rs) (sym is)
          by (Bad text) = ap (λ (n : HeldNow). session_at (sending store n [] (to_reply ch text.items ∷ [])) rs) (sym is)

      pub request_on : ServesOn (taking store h ch) (came_to store now ch said) a b
      request_on =
          took_on (Some piece) read.early (came_to store now ch said) [] a b fits may_be (same_store store now ch said)
          (λ rs.
          ap (λ (c : Change). c.session) (reads (Some piece) read.early rs ∙ request_read (record (session_at (taking store h ch) rs) { ready = None }) bytes.first bytes.rest refl bytes.is)
          ∙ came rs)
          (λ rs.
          ap (λ (c : Change). actions_of c.steps) (reads (Some piece) read.early rs ∙ request_read (record (session_at (taking store h ch) rs) { ready = None }) bytes.first bytes.rest refl bytes.is))
          adds

  -- ---- a client that waits

  module _ (other : is_reading ch h.clients ≡ false) (waiting : is_waiting ch h.served ≡ true) where
    waits : (got : Option (List ℕ)) (rs : List Record) → after got false rs ≡ after_waiting (record (session_at (taking store h ch) rs) { ready = None }) ch got
    waits got rs =
        let s = record (session_at (taking store h ch) rs) { ready = None } in
        ap (λ (b : Bool). cond b (after_reading program_readers s ch got false)
        (cond (is_waiting ch h.served) (after_waiting s ch got) (after_link program_readers s ch got false (link_at ch h.links.links)))) other
        ∙ ap (λ (b : Bool). cond b (after_waiting s ch got) (after_link program_readers s ch got false (link_at ch h.links.links))) waiting

    pub waiter_failed : (now : HeldNow) (a b : Outer) → now ≡ record h { served = waiters_without ch h.served } → Adds (Close ch ∷ []) (Took ch None ∷ []) a b
        → ServesOn (taking store h ch) (idle store now) a b
    waiter_failed now a b is adds =
        took_on None false (idle store now) (Close ch ∷ []) a b refl (late None) refl
        (λ rs. ap (λ (c : Change). c.session) (waits None rs) ∙ ap (λ (n : HeldNow). session_at (idle store n) rs) (sym is))
        (λ rs. ap (λ (c : Change). actions_of c.steps) (waits None rs)) adds

    pub waiter_passed : (piece : List ℕ) (a b : Outer) → nat_le (length piece) LONGEST_PIECE ≡ true → Adds [] (Took ch (Some piece) ∷ []) a b
        → ServesOn (taking store h ch) (idle store h) a b
    waiter_passed piece a b fits adds =
        took_on (Some piece) false (idle store h) [] a b fits (late (Some piece)) refl
        (λ rs. ap (λ (c : Change). c.session) (waits (Some piece) rs))
        (λ rs. ap (λ (c : Change). actions_of c.steps) (waits (Some piece) rs)) adds

  -- ---- a channel to the gateway

  module _ (no_client : is_reading ch h.clients ≡ false) (none_waits : is_waiting ch h.served ≡ false) (own : IsInstance store h) where
    listens : (got : Option (List ℕ)) (early : Bool) (rs : List Record)
        → after got early rs ≡ after_link program_readers (record (session_at (taking store h ch) rs) { ready = None }) ch got early (link_at ch h.links.links)
    listens got early rs =
        let s = record (session_at (taking store h ch) rs) { ready = None } in
        ap (λ (b : Bool). cond b (after_reading program_readers s ch got early)
        (cond (is_waiting ch h.served) (after_waiting s ch got) (after_link program_readers s ch got early (link_at ch h.links.links)))) no_client
        ∙ ap (λ (b : Bool). cond b (after_waiting s ch got) (after_link program_readers s ch got early (link_at ch h.links.links))) none_waits

    early_client : (s : Session) (got : Option (List ℕ)) (early : Bool) → is_reading ch s.readers ≡ false → MayAnswerEarly s ch got early
    early_client s None early e = tt
    early_client s (Some []) early e = tt
    early_client s (Some (b ∷ piece)) false e = tt
    early_client s (Some (b ∷ piece)) true e = λ reading. absurd (true≢false (sym reading ∙ e))

    closing_steps : (s : Session) (said : LinkHeard) → actions_of (link_steps s ch said) ≡ closing ch said
    closing_steps s unfinished = refl
    closing_steps s (outcome call o) = refl
    closing_steps s (acknowledged n) = refl
    closing_steps s (dropped n) = refl

    pub link_heard : (now : HeldNow) (got : Option (List ℕ)) (said : LinkHeard) (a b : Outer) → is_piece got ≡ true → now ≡ record h { links = now.links }
        → Answers h.links now.links ch got said → Adds (closing ch said) (Took ch got ∷ []) a b
        → ServesOn (taking store h ch) (to_judge store now (inputs_of said)) a b
    link_heard now got said a b fits is answers adds =
        took_on got answers.early (to_judge store now (inputs_of said)) (closing ch said) a b fits
        (λ rs. (
          early_client (session_at (taking store h ch) rs) got answers.early no_client,
          λ other nobody. subst (λ (o : Option Link). MayEndEarly o got answers.early) (sym answers.found) answers.may,
        ))
        refl
        (λ rs. ap (λ (c : Change). c.session) (heard_as_said rs) ∙ leads rs)
        (λ rs. ap (λ (c : Change). actions_of c.steps) (heard_as_said rs) ∙ closing_steps (record (session_at (taking store h ch) rs) { ready = None }) said)
        adds
      where
        heard_as_said : (rs : List Record) → after got answers.early rs ≡ after_answer (record (session_at (taking store h ch) rs) { ready = None }) ch (piece_of got) said
        heard_as_said rs =
            let s = record (session_at (taking store h ch) rs) { ready = None } in
            listens got answers.early rs
            ∙ ap (after_link program_readers s ch got answers.early) answers.found
            ∙ ap (λ (n : ℕ). after_answer s ch (piece_of got) (heard_as (outcome_of n) answers.link.subject (link_reading answers.link got answers.early))) (sym own)
            ∙ ap (after_answer s ch (piece_of got)) (sym answers.answer)

        leads : (rs : List Record) → (after_answer (record (session_at (taking store h ch) rs) { ready = None }) ch (piece_of got) said).session ≡ session_at (to_judge store now (inputs_of said)) rs
        leads rs =
            ap (λ (queue : List Queued). record (session_at (idle store h) rs) { links = links_after ch (piece_of got) h.links.links said; queue = queue }) (some_queued (inputs_of said))
            ∙ ap (λ (links : List Link). record (session_at (to_judge store h (inputs_of said)) rs) { links = links }) (sym answers.links)
            ∙ ap (λ (n : HeldNow). session_at (to_judge store n (inputs_of said)) rs) (sym is)

-- a client is told its fault, and its channel is closed
pub replied_on : (store : StoreNow) (h now : HeldNow) (ch : Channel) (text : List ℕ) (first : List Queued) (a b : Outer) → now ≡ record h { served = waiters_without ch h.served }
    → Sends store.core.state.count (desk_with (to_reply ch text ∷ []) h.served) (desk_with [] (waiters_without ch h.served)) [] a b
    → ServesOn (sending store h first (to_reply ch text ∷ [])) (to_judge store now first) a b
replied_on store h now ch text first a b is sends =
    sends_on store (sending store h first (to_reply ch text ∷ [])) (to_judge store now first) (desk_with [] (waiters_without ch h.served)) [] a b refl refl
    (λ rs.
    (λ i. record (session_at (to_judge store (record h { served = waiters_without ch h.served }) first) rs) { links = append-nil h.links.links i; queue = append-nil (first ++ answers_unreached h.unreached) i })
    ∙ ap (λ (n : HeldNow). session_at (to_judge store n first) rs) (sym is))
    sends
