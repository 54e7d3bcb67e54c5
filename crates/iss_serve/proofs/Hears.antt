-- What a take brings, by what is told of each call.
use Rattle.std.proofs.Common.{◌≡◌, ℕ, zero, suc, ◌<◌, ◌≤◌, nat_le, ◌==◌, ◌||◌, Bool, true, false, cond, List, [], ◌∷◌, length, take, Option, Some, None, refl, sym, ap, subst, ◌∙◌, arith}
use Rattle.std.proofs.lemmas.Bool.Decides.{nat_tests}
use Rattle.std.proofs.lemmas.List.{length-take}
use Rattle.std.specs.Prelude.{option_map, Ok, Err, IsSome}
use Rattle.iss_edge.specs.declared.outside.Channel.{Channel}
use Rattle.iss_edge.specs.declared.outside.Action.TheVariants.{Close}
use Rattle.iss_edge.specs.declared.outside.Answered.{Answered}
use Rattle.iss_edge.specs.declared.outside.Answered.TheVariants.{Took}
use Rattle.iss_edge.specs.Outer.{Outer, Adds}
use Rattle.iss_edge.specs.World.{Told, Faults}
use Rattle.iss_edge.specs.Channels.{Channels}
use Rattle.iss_edge.proofs.Outers.{adds_then}
use Rattle.iss_edge.proofs.Tolds.{told_map, told_then}
use Rattle.iss_session.specs.declared.piece.TheConstants.{LONGEST_PIECE}
use Rattle.iss_session.specs.Desks.{to_reply, desk_with, waiters_without}
use Rattle.iss_session.specs.Links.{Link}
use Rattle.iss_session.specs.Sessions.{Queued}
use Rattle.iss_session.specs.Hearings.{is_reading, is_waiting, is_linked, link_at, readers_without, inputs_of}
use Rattle.iss_session.specs.Sendings.{Sends}
use Rattle.iss_link.specs.declared.heard.Heard.{Heard}
use Rattle.iss_link.specs.Values.{LinksNow, heard_of, link_state, state_on}
use Rattle.iss_link.specs.declared.heard.LinkState.{LinkState}
use Rattle.iss_link.specs.Hearing.{Listens, closing}
use Rattle.iss_opening.specs.Values.{StoreNow}
use Rattle.iss_serve.specs.declared.requests.Request.{Request}
use Rattle.iss_serve.specs.Requests.{ReadsOn}
use Rattle.iss_serve.specs.Held.{HeldNow, idle, to_judge, sending, taking, arrived, listens_to}
use Rattle.iss_serve.specs.Runs.{ServesOn, ServesSome}
use Rattle.iss_serve.proofs.Taking.{IsInstance, came_to, took_some, client_failed, client_ended, request_on, waiter_failed, waiter_passed, link_heard, replied_on}

within_piece : (n : ℕ) → n ≤ LONGEST_PIECE → nat_le n LONGEST_PIECE ≡ true
within_piece n h = grind (arith, nat_tests)

pub piece_fits : (buffer : List ℕ) (count : ℕ) → length buffer ≡ LONGEST_PIECE → count ≤ length buffer → nat_le (length (take count buffer)) LONGEST_PIECE ≡ true
piece_fits buffer count room bound = let size = length-take count buffer in within_piece (length (take count buffer)) (omega (arith, size, room, bound))

some_came : (buffer : List ℕ) (count : ℕ) → (count ≡ 0 → ⊥) → count ≤ length buffer → 0 < length (take count buffer)
some_came buffer count more bound = let size = length-take count buffer in let some : 0 < count = above_none count more in omega (arith, size, some, bound)
  where
    above_none : (n : ℕ) → (n ≡ 0 → ⊥) → 0 < n
    above_none zero more = absurd (more refl)
    above_none (suc n) more = omega arith

-- a take, and then a close
closed_then : (ch : Channel) (answer : Answered) (x y z : Option Outer) → Told (Adds [] (answer ∷ [])) x y → Told (Adds (Close ch ∷ []) []) y z → Told (Adds (Close ch ∷ []) (answer ∷ [])) x z
closed_then ch answer x y z p q = told_then (Adds [] (answer ∷ [])) (Adds (Close ch ∷ []) []) (Adds (Close ch ∷ []) (answer ∷ [])) x y z (adds_then [] (Close ch ∷ []) (answer ∷ []) []) p q

module _ (store : StoreNow) (h : HeldNow) (ch : Channel) (settled : h.unreached ≡ []) (x y : Option Outer) where
  -- a take was made, and what it brought isn't read
  pub told_took_some : (buffer : List ℕ) (count : ℕ) → length buffer ≡ LONGEST_PIECE → count ≤ length buffer → Told (Adds [] (Took ch (Some (take count buffer)) ∷ [])) x y → Told (ServesSome ⊥ (taking store h ch)) x y
  told_took_some buffer count room bound p =
      told_map (Adds [] (Took ch (Some (take count buffer)) ∷ [])) (ServesSome ⊥ (taking store h ch)) x y
      (λ a b adds. took_some store h ch settled ⊥ (Some (take count buffer)) a b (piece_fits buffer count room bound) adds) p

  -- ---- a client whose request isn't whole

  pub told_client_failed : (now : HeldNow) (z : Option Outer) → is_reading ch h.clients ≡ true → now ≡ record h { clients = readers_without ch h.clients } → Told (Adds [] (Took ch None ∷ [])) x y → Told (Adds (Close ch ∷ []) []) y z
      → Told (ServesOn (taking store h ch) (idle store now)) x z
  told_client_failed now z reading is p q =
      told_map (Adds (Close ch ∷ []) (Took ch None ∷ [])) (ServesOn (taking store h ch) (idle store now)) x z
      (λ a b adds. client_failed store h ch settled reading now a b is adds) (closed_then ch (Took ch None) x y z p q)

  pub told_client_ended : (now : HeldNow) (z : Option Outer) (buffer : List ℕ) (count : ℕ) → is_reading ch h.clients ≡ true → count ≡ 0 → now ≡ record h { clients = readers_without ch h.clients }
      → Told (Adds [] (Took ch (Some (take count buffer)) ∷ [])) x y → Told (Adds (Close ch ∷ []) []) y z → Told (ServesOn (taking store h ch) (idle store now)) x z
  told_client_ended now z buffer count reading none is p q =
      told_map (Adds (Close ch ∷ []) (Took ch (Some []) ∷ [])) (ServesOn (taking store h ch) (idle store now)) x z
      (λ a b adds. client_ended store h ch settled reading now a b is adds)
      (closed_then ch (Took ch (Some [])) x y z (subst (λ (n : ℕ). Told (Adds [] (Took ch (Some (take n buffer)) ∷ [])) x y) none p) q)

  pub told_request : (now : HeldNow) (buffer : List ℕ) (count : ℕ) (piece : List ℕ) (said : Request) → is_reading ch h.clients ≡ true → length buffer ≡ LONGEST_PIECE → count ≤ length buffer → (count ≡ 0 → ⊥)
      → piece ≡ take count buffer → ReadsOn ch piece h.clients now.clients said → now ≡ record h { clients = now.clients }
      → Told (Adds [] (Took ch (Some (take count buffer)) ∷ [])) x y → Told (ServesOn (taking store h ch) (came_to store now ch said)) x y
  told_request now buffer count piece said reading room bound more same read is p =
      told_map (Adds [] (Took ch (Some (take count buffer)) ∷ [])) (ServesOn (taking store h ch) (came_to store now ch said)) x y
      (λ a b adds.
      request_on store h ch settled reading (take count buffer) (some_came buffer count more bound) (piece_fits buffer count room bound) now said
      (subst (λ (t : List ℕ). ReadsOn ch t h.clients now.clients said) same read) is a b adds) p

  -- ---- a client that waits

  pub told_waiter_failed : (now : HeldNow) (z : Option Outer) → is_reading ch h.clients ≡ false → is_waiting ch h.served ≡ true → now ≡ record h { served = waiters_without ch h.served }
      → Told (Adds [] (Took ch None ∷ [])) x y → Told (Adds (Close ch ∷ []) []) y z → Told (ServesOn (taking store h ch) (idle store now)) x z
  told_waiter_failed now z other waiting is p q =
      told_map (Adds (Close ch ∷ []) (Took ch None ∷ [])) (ServesOn (taking store h ch) (idle store now)) x z
      (λ a b adds. waiter_failed store h ch settled other waiting now a b is adds) (closed_then ch (Took ch None) x y z p q)

  pub told_waiter_passed : (buffer : List ℕ) (count : ℕ) → is_reading ch h.clients ≡ false → is_waiting ch h.served ≡ true → length buffer ≡ LONGEST_PIECE → count ≤ length buffer
      → Told (Adds [] (Took ch (Some (take count buffer)) ∷ [])) x y → Told (ServesOn (taking store h ch) (idle store h)) x y
  told_waiter_passed buffer count other waiting room bound p =
      told_map (Adds [] (Took ch (Some (take count buffer)) ∷ [])) (ServesOn (taking store h ch) (idle store h)) x y
      (λ a b adds. waiter_passed store h ch settled other waiting (take count buffer) a b (piece_fits buffer count room bound) adds) p

  -- ---- a channel to the gateway

  pub told_link_heard : {E : Type 0} (now : HeldNow) (said : Heard) (first : List Queued) (channels : Channels) (f g : Faults) → is_reading ch h.clients ≡ false → is_waiting ch h.served ≡ false → IsInstance store h
      → first ≡ inputs_of (heard_of said) → now ≡ record h { links = now.links } → Listens {E = E} h.links now.links ch (Ok said) channels f g x y
      → Told (ServesOn (taking store h ch) (to_judge store now first)) x y
  told_link_heard now said first channels f g no_client none_waits own queued is listens =
      subst (λ (qs : List Queued). Told (ServesOn (taking store h ch) (to_judge store now qs)) x y) (sym queued)
      (told_map (Adds (closing ch (heard_of said)) (Took ch listens.got ∷ [])) (ServesOn (taking store h ch) (to_judge store now (inputs_of (heard_of said)))) x y
      (λ a b adds. link_heard store h ch settled no_client none_waits own now listens.got (heard_of said) a b listens.piece is listens.answers adds) listens.told)

  pub told_link_some : {E : Type 0} (now : LinksNow) (e : E) (channels : Channels) (f g : Faults) → Listens {E = E} h.links now ch (Err e) channels f g x y → Told (ServesSome ⊥ (taking store h ch)) x y
  told_link_some now e channels f g listens =
      told_map (Adds [] (Took ch listens.got ∷ [])) (ServesSome ⊥ (taking store h ch)) x y
      (λ a b adds. took_some store h ch settled ⊥ listens.got a b listens.piece adds) listens.untold

-- a response goes out
pub told_replied : (store : StoreNow) (h now : HeldNow) (ch : Channel) (text bytes : List ℕ) (first : List Queued) (x y : Option Outer) → bytes ≡ text → now ≡ record h { served = waiters_without ch h.served }
    → Told (Sends store.core.state.count (desk_with (to_reply ch bytes ∷ []) h.served) (desk_with [] (waiters_without ch h.served)) []) x y
    → Told (ServesOn (sending store h first (to_reply ch text ∷ [])) (to_judge store now first)) x y
told_replied store h now ch text bytes first x y same is p =
    told_map (Sends store.core.state.count (desk_with (to_reply ch text ∷ []) h.served) (desk_with [] (waiters_without ch h.served)) []) (ServesOn (sending store h first (to_reply ch text ∷ [])) (to_judge store now first)) x y
    (λ a b sends. replied_on store h now ch text first a b is sends)
    (subst (λ (t : List ℕ). Told (Sends store.core.state.count (desk_with (to_reply ch t ∷ []) h.served) (desk_with [] (waiters_without ch h.served)) []) x y) same p)

-- ---- whose channel it is

-- a channel that is listened to, or isn't
pub is_taken : (store : StoreNow) (h : HeldNow) (ch : Channel) → listens_to h ch ≡ true → arrived store h ch ≡ taking store h ch
is_taken store h ch e = ap (λ (b : Bool). record (taking store h ch) { ready = cond b (Some ch) None }) e

pub is_passed : (store : StoreNow) (h : HeldNow) (ch : Channel) → listens_to h ch ≡ false → arrived store h ch ≡ idle store h
is_passed store h ch e = ap (λ (b : Bool). record (taking store h ch) { ready = cond b (Some ch) None }) e

-- a link that is there has its state
pub unlinked : (ch : Channel) (links : List Link) → state_on ch links ≡ None → link_at ch links ≡ None
unlinked ch links e = by (link_at ch links) e
  where
    no_state : (s : LinkState) → Some s ≡ None → ⊥
    no_state s e = cc

    by : (o : Option Link) → option_map link_state o ≡ None → o ≡ None
    by None e = refl
    by (Some l) e = absurd (no_state (link_state l) e)

not_linked : (ch : Channel) (links : List Link) → link_at ch links ≡ None → is_linked ch links ≡ false
not_linked ch [] e = refl
not_linked ch (l ∷ links) e = by (l.ch.0 == ch.0) (not_linked ch links) e
  where
    no_link : (l : Link) → Some l ≡ None → ⊥
    no_link l e = cc

    by : (b : Bool) → (link_at ch links ≡ None → is_linked ch links ≡ false) → cond b (Some l) (link_at ch links) ≡ None → (b || is_linked ch links) ≡ false
    by true rest e = absurd (no_link l e)
    by false rest e = rest e

is_linked_at : (ch : Channel) (links : List Link) → IsSome (link_at ch links) → is_linked ch links ≡ true
is_linked_at ch [] e = e
is_linked_at ch (l ∷ links) e = by (l.ch.0 == ch.0) (is_linked_at ch links) e
  where
    by : (b : Bool) → (IsSome (link_at ch links) → is_linked ch links ≡ true) → IsSome (cond b (Some l) (link_at ch links)) → (b || is_linked ch links) ≡ true
    by true rest e = refl
    by false rest e = rest e

pub listened_reading : (h : HeldNow) (ch : Channel) → is_reading ch h.clients ≡ true → listens_to h ch ≡ true
listened_reading h ch e = ap (λ (b : Bool). b || is_waiting ch h.served || is_linked ch h.links.links) e

pub listened_waiting : (h : HeldNow) (ch : Channel) → is_reading ch h.clients ≡ false → is_waiting ch h.served ≡ true → listens_to h ch ≡ true
listened_waiting h ch e f =
    ap (λ (b : Bool). b || is_waiting ch h.served || is_linked ch h.links.links) e ∙ ap (λ (b : Bool). b || is_linked ch h.links.links) f

pub listened_link : (h : HeldNow) (ch : Channel) → is_reading ch h.clients ≡ false → is_waiting ch h.served ≡ false → IsSome (link_at ch h.links.links) → listens_to h ch ≡ true
listened_link h ch e f g =
    ap (λ (b : Bool). b || is_waiting ch h.served || is_linked ch h.links.links) e ∙ ap (λ (b : Bool). b || is_linked ch h.links.links) f
    ∙ is_linked_at ch h.links.links g

pub listened_none : (h : HeldNow) (ch : Channel) → is_reading ch h.clients ≡ false → is_waiting ch h.served ≡ false → link_at ch h.links.links ≡ None → listens_to h ch ≡ false
listened_none h ch e f g =
    ap (λ (b : Bool). b || is_waiting ch h.served || is_linked ch h.links.links) e ∙ ap (λ (b : Bool). b || is_linked ch h.links.links) f
    ∙ not_linked ch h.links.links g

pub state_there : (ch : Channel) (links : List Link) (s : LinkState) → state_on ch links ≡ Some s → IsSome (link_at ch links)
state_there ch links s e = by (link_at ch links) e
  where
    no_state : (s : LinkState) → None ≡ Some s → ⊥
    no_state s e = cc

    by : (o : Option Link) → option_map link_state o ≡ Some s → IsSome o
    by None e = absurd (no_state s e)
    by (Some l) e = refl
