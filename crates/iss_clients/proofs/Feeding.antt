-- The client of a channel once it had further bytes.
use Rattle.std.proofs.Common.{◌≡◌, ℕ, ◌==◌, ◌||◌, Bool, true, false, cond, List, [], ◌∷◌, ◌++◌, Bor, Option, Some, None, refl, sym, ap, subst, ◌∙◌, true≢false}
use Rattle.std.specs.Prelude.{Result, Ok, Err, IfOk, IfErr, IfNone, option_map, option_copied, is_some, find}
use Rattle.std.specs.List.{AllByRecursion}
use Rattle.iss_channels.specs.Placed.{ChangesFirst}
use Rattle.iss_channels.proofs.Changes.{others_same}
use Rattle.iss_edge.specs.declared.outside.Channel.{Channel}
use Rattle.iss_http.specs.declared.faults.FeedFault.{FeedFault}
use Rattle.iss_http.specs.Requests.{Request, answered, IsCauseAs}
use Rattle.iss_session.specs.Sessions.{OpenRequest}
use Rattle.iss_session.specs.Hearings.{is_reading, bytes_on, readers_with, readers_without}
use Rattle.iss_clients.specs.Clients.{HasRead}

some_reads : (ch : Channel) (clients : List OpenRequest) → is_some (find (λ r. r.ch.0 == ch.0) clients) ≡ is_reading ch clients
some_reads ch [] = refl
some_reads ch (r ∷ clients) = first (r.ch.0 == ch.0) (some_reads ch clients)
  where
    first : (b : Bool) → is_some (find (λ r. r.ch.0 == ch.0) clients) ≡ is_reading ch clients → is_some (cond b (Some r) (find (λ r. r.ch.0 == ch.0) clients)) ≡ (b || is_reading ch clients)
    first true rest = refl
    first false rest = rest

-- a client that is found on a channel reads there
pub reads_as : (ch : Channel) (clients : List OpenRequest) (found : Option (Bor OpenRequest)) → option_copied found ≡ find (λ r. r.ch.0 == ch.0) clients → is_some found ≡ is_reading ch clients
reads_as ch clients found e = by found ∙ ap is_some e ∙ some_reads ch clients
  where
    by : (o : Option (Bor OpenRequest)) → is_some o ≡ is_some (option_copied o)
    by None = refl
    by (Some r) = refl

-- nobody reads on a channel if no client is on it
pub none_reads : (ch : Channel) (clients : List OpenRequest) → AllByRecursion (λ r. (r.ch.0 == ch.0) ≡ false) clients → is_reading ch clients ≡ true → ⊥
none_reads ch [] none reading = true≢false (sym reading)
none_reads ch (r ∷ clients) none reading = none_reads ch clients none.1 (sym (ap (λ (b : Bool). b || is_reading ch clients) none.0) ∙ reading)

module _ (ch : Channel) where
  bytes_by : (front rest : List OpenRequest) (r : OpenRequest) → AllByRecursion (λ x. (x.ch.0 == ch.0) ≡ false) front → (r.ch.0 == ch.0) ≡ true → bytes_on ch (front ++ r ∷ rest) ≡ r.bytes
  bytes_by [] rest r others own = ap (λ (b : Bool). cond b r.bytes (bytes_on ch rest)) own
  bytes_by (x ∷ front) rest r others own = ap (λ (b : Bool). cond b x.bytes (bytes_on ch (front ++ r ∷ rest))) others.0 ∙ bytes_by front rest r others.1 own

  with_by : (bytes : List ℕ) (front rest : List OpenRequest) (r : OpenRequest) → AllByRecursion (λ x. (x.ch.0 == ch.0) ≡ false) front → (r.ch.0 == ch.0) ≡ true
      → front ++ record r { bytes = bytes } ∷ rest ≡ readers_with ch bytes (front ++ r ∷ rest)
  with_by bytes [] rest r others own = sym (ap (λ (b : Bool). cond b (record r { bytes = bytes } ∷ rest) (r ∷ readers_with ch bytes rest)) own)
  with_by bytes (x ∷ front) rest r others own =
      ap (λ (l : List OpenRequest). x ∷ l) (with_by bytes front rest r others.1 own)
      ∙ sym (ap (λ (b : Bool). cond b (record x { bytes = bytes } ∷ front ++ r ∷ rest) (x ∷ readers_with ch bytes (front ++ r ∷ rest))) others.0)

  module _ {V : Type 0} (read : List ℕ → Request) (text_of : V → List ℕ) (piece : List ℕ) (told : Result (Option V) FeedFault) (before after : List OpenRequest)
      (changes : ChangesFirst (λ r. r.ch.0 == ch.0) (λ x y. HasRead read text_of x piece told y) before after) where
    bytes_were : bytes_on ch before ≡ changes.was.bytes
    bytes_were = ap (bytes_on ch) changes.found ∙ bytes_by changes.front changes.rest changes.was changes.others changes.own

    pub fed_body : IfOk told (λ said. read (bytes_on ch before ++ piece) ≡ answered (option_map text_of said))
    fed_body = subst (λ (bytes : List ℕ). IfOk told (λ said. read (bytes ++ piece) ≡ answered (option_map text_of said))) (sym bytes_were) changes.changed.body

    pub fed_fault : IfErr told (IsCauseAs read (bytes_on ch before ++ piece))
    fed_fault = subst (λ (bytes : List ℕ). IfErr told (IsCauseAs read (bytes ++ piece))) (sym bytes_were) changes.changed.fault

    fed_with : changes.is ≡ record changes.was { bytes = changes.was.bytes ++ piece } → after ≡ readers_with ch (bytes_on ch before ++ piece) before
    fed_with e =
        changes.then
        ∙ ap (λ (r : OpenRequest). changes.front ++ r ∷ changes.rest) (e ∙ ap (λ (bytes : List ℕ). record changes.was { bytes = bytes ++ piece }) (sym bytes_were))
        ∙ with_by (bytes_on ch before ++ piece) changes.front changes.rest changes.was changes.others changes.own
        ∙ ap (readers_with ch (bytes_on ch before ++ piece)) (sym changes.found)

    pub fed_kept : IfOk told (λ said. IfNone said (after ≡ readers_with ch (bytes_on ch before ++ piece) before))
    fed_kept = by told changes.changed.kept
      where
        by : (told : Result (Option V) FeedFault) → IfOk told (λ said. IfNone said (changes.is ≡ record changes.was { bytes = changes.was.bytes ++ piece }))
            → IfOk told (λ said. IfNone said (after ≡ readers_with ch (bytes_on ch before ++ piece) before))
        by (Ok None) e = fed_with e
        by (Ok (Some said)) e = tt
        by (Err fault) e = tt

    pub fed_others : readers_without ch after ≡ readers_without ch before
    fed_others = others_same (λ r. r.ch.0 == ch.0) before after changes
