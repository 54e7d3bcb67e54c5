-- Clients that wait, as contracts see them: by their channels, and by their events.
use Rattle.std.proofs.Common.{◌≡◌, ℕ, ◌<◌, ◌^◌, ◌==◌, Bool, true, false, cond, not, ◌||◌, List, [], ◌∷◌, ◌++◌, map, filter, find, Bor, Option, Some, None, refl, sym, ap, ◌∙◌, subst, arith}
use Rattle.std.specs.Prelude.{option_map, option_copied, bytes_eq, is_some}
use Rattle.std.specs.List.{AllByRecursion}
use Rattle.std.specs.Ordering.{nat_cmp, is_eq}
use Rattle.std.specs.Cmp.Lexicographic.{slice_cmp}
use Rattle.std.specs.BTreeMap.{is_at}
use Rattle.std.specs.Map.{values_of, remove_entry}
use Rattle.std.proofs.lemmas.Map.Text.{is_eq-slice_cmp}
use Rattle.iss_edge.specs.declared.outside.Channel.{Channel}
use Rattle.iss_channels.specs.Places.{Puts, IsFirst, has, AreFound}
use Rattle.iss_channels.specs.Placed.{Placed, ArePlaced, Takes, things_of, thing_at, one_more}
use Rattle.iss_channels.proofs.Lookups.{more_looks, less_looks, none_below, stands_first, none_stands, looked, first_found, none_found, all_stay, others_stay}
use Rattle.iss_channels.proofs.FoundPlaces.{more_found, less_found, back_found}
use Rattle.iss_session.specs.Desks.{Waiter, waiters_without}
use Rattle.iss_session.specs.Hearings.{is_waiting}
use Rattle.iss_session.specs.Sessions.{waiter_for}
use Rattle.iss_store.specs.declared.waiting.Waiting.{Waiting}
use Rattle.iss_store.specs.Waiting.{waiter_of, AreWaitersKept}

-- ---- as contracts see them

pub waiters_left : (ch : Channel) (ws : List Waiting) → map waiter_of (filter (λ w. not (w.ch.0 == ch.0)) ws) ≡ waiters_without ch (map waiter_of ws)
waiters_left ch [] = refl
waiters_left ch (w ∷ ws) = first (w.ch.0 == ch.0) (waiters_left ch ws)
  where
    first : (b : Bool) → map waiter_of (filter (λ w. not (w.ch.0 == ch.0)) ws) ≡ waiters_without ch (map waiter_of ws)
        → map waiter_of (cond (not b) (w ∷ filter (λ w. not (w.ch.0 == ch.0)) ws) (filter (λ w. not (w.ch.0 == ch.0)) ws)) ≡ cond (not b) (waiter_of w ∷ waiters_without ch (map waiter_of ws)) (waiters_without ch (map waiter_of ws))
    first true rest = rest
    first false rest = ap (λ (ts : List Waiter). waiter_of w ∷ ts) rest

some_waits : (ch : Channel) (ws : List Waiting) → is_some (find (λ w. w.ch.0 == ch.0) ws) ≡ is_waiting ch (map waiter_of ws)
some_waits ch [] = refl
some_waits ch (w ∷ ws) = first (w.ch.0 == ch.0) (some_waits ch ws)
  where
    first : (b : Bool) → is_some (find (λ w. w.ch.0 == ch.0) ws) ≡ is_waiting ch (map waiter_of ws) → is_some (cond b (Some w) (find (λ w. w.ch.0 == ch.0) ws)) ≡ (b || is_waiting ch (map waiter_of ws))
    first true rest = refl
    first false rest = rest

-- a client that is found on a channel waits there
pub waits_as : (ch : Channel) (ws : List Waiting) (found : Option (Bor Waiting)) → option_copied found ≡ find (λ w. w.ch.0 == ch.0) ws → is_some found ≡ is_waiting ch (map waiter_of ws)
waits_as ch ws found e = by found ∙ ap is_some e ∙ some_waits ch ws
  where
    by : (o : Option (Bor Waiting)) → is_some o ≡ is_some (option_copied o)
    by None = refl
    by (Some w) = refl

pub channels_as : (ws : List Waiting) → map (λ w. w.ch) ws ≡ map (λ waiter. waiter.ch) (map waiter_of ws)
channels_as [] = refl
channels_as (w ∷ ws) = ap (λ (cs : List Channel). w.ch ∷ cs) (channels_as ws)

pub one_more_waits : (ws : List Waiting) (w : Waiting) → map waiter_of (ws ++ w ∷ []) ≡ map waiter_of ws ++ waiter_of w ∷ []
one_more_waits [] w = refl
one_more_waits (x ∷ ws) w = ap (λ (ts : List Waiter). waiter_of x ∷ ts) (one_more_waits ws w)

-- the client waits for this event
abbrev waits_for : List ℕ → Waiting → Bool
waits_for event w = is_eq (slice_cmp nat_cmp w.event event)

channel_as : (event : List ℕ) (ws : List Waiting) → option_map (λ w. w.ch) (find (waits_for event) ws) ≡ option_map (λ waiter. waiter.ch) (waiter_for event (map waiter_of ws))
channel_as event [] = refl
channel_as event (w ∷ ws) =
    ap (λ (b : Bool). option_map (λ x. x.ch) (cond b (Some w) (find (waits_for event) ws))) (is_eq-slice_cmp w.event event) ∙ first (bytes_eq w.event event) (channel_as event ws)
  where
    first : (b : Bool) → option_map (λ w. w.ch) (find (waits_for event) ws) ≡ option_map (λ waiter. waiter.ch) (waiter_for event (map waiter_of ws))
        → option_map (λ w. w.ch) (cond b (Some w) (find (waits_for event) ws)) ≡ option_map (λ waiter. waiter.ch) (cond b (Some (waiter_of w)) (waiter_for event (map waiter_of ws)))
    first true rest = refl
    first false rest = rest

-- ---- by their events

module _ (events : List (List ℕ × ℕ)) (p : Placed Waiting) (kept : AreWaitersKept events p) where
  module _ (event : List ℕ) where
    first_at : (place : ℕ) → IsFirst (slice_cmp nat_cmp) events event place → thing_at p place ≡ find (waits_for event) (things_of p)
    first_at place first =
        let at =
        stands_first (waits_for event) p.entries place p.next kept.placed.below kept.placed.rising (sym (kept.found.exact event place) ∙ first.there)
        (λ n less passed. first.least n (let few = kept.placed.few in omega (arith, less, few)) (kept.found.exact event n ∙ passed)) in
        looked (waits_for event) place p.entries at ∙ sym (first_found (waits_for event) place p.entries at)

    -- the one at the event's first place is the first that waits for it
    pub channel_at : (place : ℕ) (w : Waiting) → IsFirst (slice_cmp nat_cmp) events event place → Some w ≡ thing_at p place
        → Some w.ch ≡ option_map (λ waiter. waiter.ch) (waiter_for event (map waiter_of (things_of p)))
    channel_at place w first at = ap (option_map (λ (x : Waiting). x.ch)) (at ∙ first_at place first) ∙ channel_as event (things_of p)

    -- one waiter stands at the event's first place
    pub one_there : (place : ℕ) → IsFirst (slice_cmp nat_cmp) events event place → None ≡ thing_at p place
        → None ≡ option_map (λ waiter. waiter.ch) (waiter_for event (map waiter_of (things_of p)))
    one_there place first at = ap (option_map (λ (x : Waiting). x.ch)) (at ∙ first_at place first) ∙ channel_as event (things_of p)

    -- if the event has no place, nobody waits for it
    pub no_channel : ((n : ℕ) → n < 2 ^ 64 → has (slice_cmp nat_cmp) events event n ≡ false) → None ≡ option_map (λ waiter. waiter.ch) (waiter_for event (map waiter_of (things_of p)))
    no_channel none =
        ap (option_map (λ (x : Waiting). x.ch))
        (sym (none_found (waits_for event) (things_of p)
        (none_stands (waits_for event) p.entries p.next kept.placed.below kept.placed.rising
        (λ n less. sym (kept.found.exact event n) ∙ none n (let few = kept.placed.few in omega (arith, less, few))))))
        ∙ channel_as event (things_of p)

  -- one more waits
  pub more_kept : (new : List (List ℕ × ℕ)) (place : ℕ) (w : Waiting) (after : Placed Waiting) → place ≡ p.next → Puts (slice_cmp nat_cmp) w.event place true events new → after ≡ one_more p w → ArePlaced after
      → AreWaitersKept new after
  more_kept new place w after at puts is placed =
      record {
        placed = placed;
        found = subst (λ (q : Placed Waiting). AreFound (slice_cmp nat_cmp) (λ x. x.event) new q.entries) (sym is)
            (more_found (slice_cmp nat_cmp) (λ x. x.event) events new p.entries (p.entries ++ (p.next, w) ∷ []) p.next w kept.found
            (subst (λ (n : ℕ). Puts (slice_cmp nat_cmp) w.event n true events new) at puts) (more_looks p.entries p.next w kept.placed.below) (none_below p.next p.entries kept.placed.below));
      }

  -- a place that was added and taken away again
  pub back_kept : (new last : List (List ℕ × ℕ)) (event : List ℕ) (place : ℕ) (after : Placed Waiting) → place ≡ p.next → Puts (slice_cmp nat_cmp) event place true events new
      → Puts (slice_cmp nat_cmp) event place false new last → after ≡ p → AreWaitersKept last after
  back_kept new last event place after at puts gone same =
      subst (AreWaitersKept last) (sym same)
      (record {
        placed = kept.placed;
        found = back_found (slice_cmp nat_cmp) (λ x. x.event) events new last p.entries event place kept.found puts gone
            (subst (λ (n : ℕ). thing_at p n ≡ None) (sym at) (none_below p.next p.entries kept.placed.below));
      })

  -- a client that waited was taken out
  pub less_kept : (test : Waiting → Bool) (new : List (List ℕ × ℕ)) (place : ℕ) (w : Waiting) (after : Placed Waiting) → Takes test place w p after → Puts (slice_cmp nat_cmp) w.event place false events new
      → ArePlaced after → AreWaitersKept new after
  less_kept test new place w after takes puts placed =
      record {
        placed = placed;
        found = subst (AreFound (slice_cmp nat_cmp) (λ x. x.event) new) (sym takes.entries)
            (less_found (slice_cmp nat_cmp) (λ x. x.event) events new p.entries (remove_entry (is_at (nat_cmp place)) p.entries) place w kept.found puts
            (less_looks p.entries place kept.placed.rising) takes.at);
      }

-- those on other channels are those that they were once one is taken out
pub others_wait : (ch : Channel) (place : ℕ) (w : Waiting) (before after : Placed Waiting) → Takes (λ x. x.ch.0 == ch.0) place w before after
    → filter (λ x. not (x.ch.0 == ch.0)) (things_of after) ≡ filter (λ x. not (x.ch.0 == ch.0)) (things_of before)
others_wait ch place w before after takes =
    ap (λ (es : List (ℕ × Waiting)). filter (λ x. not (x.ch.0 == ch.0)) (values_of es)) takes.entries ∙ others_stay (λ x. x.ch.0 == ch.0) before.entries place w takes.own takes.at

-- all waiters are left if none is on the channel
pub all_wait : (ch : Channel) (before after : Placed Waiting) (old : List Waiting) → AllByRecursion (λ x. (x.ch.0 == ch.0) ≡ false) (things_of before) → after ≡ before
    → filter (λ x. not (x.ch.0 == ch.0)) (things_of before) ≡ filter (λ x. not (x.ch.0 == ch.0)) old → map waiter_of (things_of after) ≡ waiters_without ch (map waiter_of old)
all_wait ch before after old none same left =
    ap (map waiter_of)
    (ap (λ (p : Placed Waiting). things_of p) same ∙ sym (all_stay (λ x. x.ch.0 == ch.0) (things_of before) none) ∙ left)
    ∙ waiters_left ch old
