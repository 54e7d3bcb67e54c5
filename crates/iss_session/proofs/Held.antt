-- The channels that a session holds, and that they stay held until they are closed.
use Rattle.std.proofs.Common.{◌≡◌, refl, sym, ap, ◌∙◌, ℕ, Bool, true, false, not, cond, List, [], ◌∷◌, ◌++◌, map, Option, Some, None}
use Rattle.std.specs.Prelude.{◌==◌, ◌||◌, filter}
use Rattle.std.specs.List.{list_any}
use Rattle.std.proofs.lemmas.Bool.{false≢true, eqb-true}
use Rattle.std.proofs.lemmas.List.{map-append}
use Rattle.std.proofs.lemmas.List.Folds.{list_any-append}
use Rattle.iss_edge.specs.declared.outside.Channel.{Channel}
use Rattle.iss_session.specs.Items.{same_channel}
use Rattle.iss_session.specs.Desks.{Task, to_dial, to_send, to_reply, Waiter}
use Rattle.iss_session.specs.Links.{Link}
use Rattle.iss_session.specs.Sessions.{OpenRequest, Queued, Session}

-- the channel of this number is one of them
abbrev pub is_among : ℕ → List Channel → Bool
is_among n channels = list_any (λ ch. ch.0 == n) channels

abbrev pub reader_channel : OpenRequest → Channel
reader_channel r = r.ch

abbrev pub waiter_channel : Waiter → Channel
waiter_channel w = w.ch

abbrev pub link_channel : Link → Channel
link_channel l = l.ch

-- the channels that texts are to go out on
abbrev pub task_channels : List Task → List Channel
task_channels [] = []
task_channels (to_dial subject text ∷ tasks) = task_channels tasks
task_channels (to_send ch subject text ∷ tasks) = ch ∷ task_channels tasks
task_channels (to_reply ch text ∷ tasks) = ch ∷ task_channels tasks

-- a client's channel, if an input has one
abbrev pub and_client : Option Channel → List Channel → List Channel
and_client None channels = channels
and_client (Some ch) channels = ch ∷ channels

-- the channels of the clients whose lines are to be judged
abbrev pub client_channels : List Queued → List Channel
client_channels [] = []
client_channels (q ∷ queue) = and_client q.client (client_channels queue)

-- where the channel of this number stands in a session
pub data IsHeld (n : ℕ) (s : Session) : Type 0 where
  reads : is_among n (map reader_channel s.readers) ≡ true → IsHeld n s
  sends : is_among n (task_channels s.desk.tasks) ≡ true → IsHeld n s
  awaits : is_among n (map waiter_channel s.desk.waiting) ≡ true → IsHeld n s
  watches : is_among n (map link_channel s.links) ≡ true → IsHeld n s
  queues : is_among n (client_channels s.queue) ≡ true → IsHeld n s

-- tests

pub or_left : (a b : Bool) → a ≡ true → (a || b) ≡ true
or_left true b e = refl
or_left false b e = absurd (false≢true e)

pub or_right : (a b : Bool) → b ≡ true → (a || b) ≡ true
or_right true b e = refl
or_right false b e = e

pub or_rest : (a b : Bool) → a ≡ false → (a || b) ≡ true → b ≡ true
or_rest true b none e = absurd (false≢true (sym none))
or_rest false b none e = e

or_map : (a b c : Bool) → (b ≡ true → c ≡ true) → (a || b) ≡ true → (a || c) ≡ true
or_map true b c f e = refl
or_map false b c f e = f e

pub not_true : (b : Bool) → not b ≡ true → b ≡ false
not_true true e = absurd (false≢true e)
not_true false e = refl

-- by the first list or the second
pub among_first : (n : ℕ) (xs ys : List Channel) → is_among n xs ≡ true → is_among n (xs ++ ys) ≡ true
among_first n xs ys e = list_any-append (λ (ch : Channel). ch.0 == n) xs ys ∙ or_left (is_among n xs) (is_among n ys) e

pub among_second : (n : ℕ) (xs ys : List Channel) → is_among n ys ≡ true → is_among n (xs ++ ys) ≡ true
among_second n xs ys e = list_any-append (λ (ch : Channel). ch.0 == n) xs ys ∙ or_right (is_among n xs) (is_among n ys) e

module _ {A : Type 0} (channel : A → Channel) where
  pub mapped_first : (n : ℕ) (xs ys : List A) → is_among n (map channel xs) ≡ true → is_among n (map channel (xs ++ ys)) ≡ true
  mapped_first n xs ys e = ap (is_among n) (map-append channel xs ys) ∙ among_first n (map channel xs) (map channel ys) e

  pub mapped_second : (n : ℕ) (xs ys : List A) → is_among n (map channel ys) ≡ true → is_among n (map channel (xs ++ ys)) ≡ true
  mapped_second n xs ys e = ap (is_among n) (map-append channel xs ys) ∙ among_second n (map channel xs) (map channel ys) e

  without_one : (n : ℕ) (ch : Channel) (x : A) (xs ys : List A) (same : Bool) → same_channel (channel x) ch ≡ same → (ch.0 == n) ≡ false
      → (is_among n (map channel xs) ≡ true → is_among n (map channel ys) ≡ true) → is_among n (map channel (x ∷ xs)) ≡ true
      → is_among n (map channel (cond (not same) (x ∷ ys) ys)) ≡ true
  without_one n ch x xs ys true is other rest e =
      let number : (channel x).0 ≡ ch.0 = eqb-true (channel x).0 ch.0 is in
      rest (or_rest ((channel x).0 == n) (is_among n (map channel xs)) (ap (λ (m : ℕ). m == n) number ∙ other) e)
  without_one n ch x xs ys false is other rest e = or_map ((channel x).0 == n) (is_among n (map channel xs)) (is_among n (map channel ys)) rest e

  -- a channel stays among them when those of another are left out
  pub among_without : (n : ℕ) (ch : Channel) (xs : List A) → (ch.0 == n) ≡ false → is_among n (map channel xs) ≡ true
      → is_among n (map channel (filter (λ x. not (same_channel (channel x) ch)) xs)) ≡ true
  among_without n ch [] other e = e
  among_without n ch (x ∷ xs) other e =
      without_one n ch x xs (filter (λ x. not (same_channel (channel x) ch)) xs) (same_channel (channel x) ch) refl other (among_without n ch xs other) e

-- queues

pub client_first : (n : ℕ) (client : Option Channel) (xs ys : List Channel)
    → (is_among n xs ≡ true → is_among n ys ≡ true) → is_among n (and_client client xs) ≡ true → is_among n (and_client client ys) ≡ true
client_first n None xs ys f e = f e
client_first n (Some ch) xs ys f e = or_map (ch.0 == n) (is_among n xs) (is_among n ys) f e

pub queued_first : (n : ℕ) (a b : List Queued) → is_among n (client_channels a) ≡ true → is_among n (client_channels (a ++ b)) ≡ true
queued_first n [] b e = absurd (false≢true e)
queued_first n (q ∷ a) b e = client_first n q.client (client_channels a) (client_channels (a ++ b)) (queued_first n a b) e

client_behind : (n : ℕ) (client : Option Channel) (xs : List Channel) → is_among n xs ≡ true → is_among n (and_client client xs) ≡ true
client_behind n None xs e = e
client_behind n (Some ch) xs e = or_right (ch.0 == n) (is_among n xs) e

pub queued_second : (n : ℕ) (a b : List Queued) → is_among n (client_channels b) ≡ true → is_among n (client_channels (a ++ b)) ≡ true
queued_second n [] b e = e
queued_second n (q ∷ a) b e = client_behind n q.client (client_channels (a ++ b)) (queued_second n a b e)

-- a session that holds what another holds, place by place
pub record HoldsMore (n : ℕ) (s t : Session) : Type 0 where
  pub reading : is_among n (map reader_channel s.readers) ≡ true → IsHeld n t
  pub tasks : is_among n (task_channels s.desk.tasks) ≡ true → IsHeld n t
  pub waiting : is_among n (map waiter_channel s.desk.waiting) ≡ true → IsHeld n t
  pub links : is_among n (map link_channel s.links) ≡ true → IsHeld n t
  pub queue : is_among n (client_channels s.queue) ≡ true → IsHeld n t

pub held_more : (n : ℕ) (s t : Session) → HoldsMore n s t → IsHeld n s → IsHeld n t
held_more n s t more (reads h) = more.reading h
held_more n s t more (sends h) = more.tasks h
held_more n s t more (awaits h) = more.waiting h
held_more n s t more (watches h) = more.links h
held_more n s t more (queues h) = more.queue h
