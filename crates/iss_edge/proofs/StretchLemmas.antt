-- Stretches one after the other, and those that write nothing.
use Rattle.std.proofs.Common.{◌≡◌, ℕ, ◌≤◌, ◌⊎◌, inl, inr, Bool, true, false, List, [], ◌∷◌, ◌++◌, refl, sym, ap, ◌∙◌, subst, append_assoc, append-nil, arith}
use Rattle.iss_edge.specs.declared.outside.Channel.{Channel}
use Rattle.iss_edge.specs.declared.outside.Action.{Action}
use Rattle.iss_edge.specs.declared.outside.Action.TheVariants.{Write, Sync, Emit, Dial, Close}
use Rattle.iss_edge.specs.World.{World}
use Rattle.iss_edge.specs.Calls.{Emits, EmitsPart}
use Rattle.iss_edge.specs.Disk.{Disk, after_action, after_actions, IsAtRest, IsImage}
use Rattle.iss_edge.specs.Stretches.{Step, actions_of, sent_level, SentUpTo, ShowsUpTo, IsGood, GoesOn, StretchesJoin, StretchesGoOn, is_still, AreStill, AddsStill, with_levels}
use Rattle.iss_edge.proofs.Images.{rest_image, own_image, rests_synced}

-- a prefix of two lists in a row ends in the first or in the second
pub record EndsInFirst (a before : List Step) : Type 0 where
  pub rest : List Step
  pub is : a ≡ before ++ rest

pub record EndsInSecond (a b before rest : List Step) : Type 0 where
  pub prefix : List Step
  pub is : before ≡ a ++ prefix
  pub cut : b ≡ prefix ++ rest

pub front_of_two : (a b before rest : List Step) → a ++ b ≡ before ++ rest → EndsInFirst a before ⊎ EndsInSecond a b before rest
front_of_two [] b before rest e = inr (record { prefix = before; is = refl; cut = e })
front_of_two (s ∷ ss) b [] rest e = inl (record { rest = s ∷ ss; is = refl })
front_of_two (s ∷ ss) b (t ∷ ts) rest e =
    let heads : s ≡ t = cc in
    let tails : ss ++ b ≡ ts ++ rest = cc in
    elim (front_of_two ss b ts rest tails) [
      | inl h ↦ inl (record { rest = h.rest; is = ap (λ (l : List Step). s ∷ l) h.is ∙ ap (λ (u : Step). u ∷ (ts ++ h.rest)) heads })
      | inr h ↦ inr (record { prefix = h.prefix; is = ap (λ (l : List Step). t ∷ l) h.is ∙ ap (λ (u : Step). u ∷ (ss ++ h.prefix)) (sym heads); cut = h.cut })
    ]

pub actions_of-append : (x y : List Step) → actions_of (x ++ y) ≡ actions_of x ++ actions_of y
actions_of-append [] y = refl
actions_of-append (s ∷ ss) y = ap (λ (l : List Action). s.action ∷ l) (actions_of-append ss y)

pub after_actions-append : (d : Disk) (x y : List Action) → after_actions d (x ++ y) ≡ after_actions (after_actions d x) y
after_actions-append d [] y = refl
after_actions-append d (a ∷ x) y = after_actions-append (after_action d a) x y

-- the device after two lists of steps
pub after_both : (d : Disk) (a b : List Step) → after_actions d (actions_of (a ++ b)) ≡ after_actions (after_actions d (actions_of a)) (actions_of b)
after_both d a b =
    ap (λ (l : List Action). after_actions d l) (actions_of-append a b) ∙ after_actions-append d (actions_of a) (actions_of b)

pub sent_weaker : (i j : ℕ) (steps : List Step) → i ≤ j → SentUpTo i steps → SentUpTo j steps
sent_weaker i j [] le h = tt
sent_weaker i j (s ∷ ss) le h = (omega (arith, h.0), sent_weaker i j ss le h.1)

pub sent_append : (i : ℕ) (x y : List Step) → SentUpTo i x → SentUpTo i y → SentUpTo i (x ++ y)
sent_append i [] y h k = k
sent_append i (s ∷ ss) y h k = (h.0, sent_append i ss y h.1 k)

pub sent_front : (i : ℕ) (x y : List Step) → SentUpTo i (x ++ y) → SentUpTo i x
sent_front i [] y h = tt
sent_front i (s ∷ ss) y h = (h.0, sent_front i ss y h.1)

-- steps whose actions are two lists in a row are two lists in a row
pub record Parts (steps : List Step) (x y : List Action) : Type 0 where
  pub first : List Step
  pub second : List Step
  pub is : steps ≡ first ++ second
  pub first_is : actions_of first ≡ x
  pub second_is : actions_of second ≡ y

pub parts : (steps : List Step) (x y : List Action) → actions_of steps ≡ x ++ y → Parts steps x y
parts steps [] y e = record { first = []; second = steps; is = refl; first_is = refl; second_is = e }
parts [] (a ∷ x) y e = absurd cc
parts (s ∷ ss) (a ∷ x) y e =
    let head : s.action ≡ a = cc in
    let tail : actions_of ss ≡ x ++ y = cc in
    let p : Parts ss x y = parts ss x y tail in
    record {
      first = s ∷ p.first;
      second = p.second;
      is = ap (λ (l : List Step). s ∷ l) p.is;
      first_is = ap (λ (l : List Action). s.action ∷ l) p.first_is ∙ ap (λ (u : Action). u ∷ x) head;
      second_is = p.second_is;
    }

-- a stretch that goes on, and a good one from its end, are a good one together
pub join : (starts stands mids : List ℕ → ℕ → Type 0) → StretchesJoin starts stands mids
join starts stands mids j k l a b first second =
    record {
      each = λ d rest start before after cut image is.
          let mid = after_actions d (actions_of a) in
          let calm : IsAtRest mid = first.at_rest d rest start in
          let mid_start : mids mid.bytes k = first.rest d rest start in
          let whole_a : ShowsUpTo stands j k a mid.bytes = first.good.each d rest start a [] (sym (append-nil a)) mid.bytes (own_image mid) in
          let start_b : ShowsUpTo stands k l [] mid.bytes = second.each mid calm mid_start [] b refl mid.bytes (own_image mid) in
          elim (front_of_two a b before after cut) [
            | inl h ↦
                let one : ShowsUpTo stands j k before image = first.good.each d rest start before h.rest h.is image is in
                record { i = one.i; low = one.low; high = omega (arith, one.high, start_b.low, start_b.high); stand = one.stand; told = one.told }
            | inr h ↦
                let at_front : after_actions d (actions_of before) ≡ after_actions mid (actions_of h.prefix) =
                ap (λ (l : List Step). after_actions d (actions_of l)) h.is ∙ after_both d a h.prefix in
                let two : ShowsUpTo stands k l h.prefix image = second.each mid calm mid_start h.prefix after h.cut image (subst (λ (x : Disk). IsImage x image) at_front is) in
                record {
                  i = two.i;
                  low = omega (arith, two.low, whole_a.low, whole_a.high);
                  high = two.high;
                  stand = two.stand;
                  told = subst (λ (l : List Step). SentUpTo two.i l) (sym h.is) (sent_append two.i a h.prefix (sent_weaker whole_a.i two.i a (omega (arith, whole_a.high, two.low)) whole_a.told) two.told);
                }
          ];
    }

-- two stretches that both go on are together one that goes on
pub join_on : (starts stands mids ends : List ℕ → ℕ → Type 0) → StretchesGoOn starts stands mids ends
join_on starts stands mids ends j k l a b first second =
    record {
      good = join starts stands mids j k l a b first second.good;
      at_rest = λ d rest start.
          subst (λ (x : Disk). IsAtRest x) (sym (after_both d a b)) (second.at_rest (after_actions d (actions_of a)) (first.at_rest d rest start) (first.rest d rest start));
      rest = λ d rest start.
          subst (λ (x : Disk). ends x.bytes l) (sym (after_both d a b)) (second.rest (after_actions d (actions_of a)) (first.at_rest d rest start) (first.rest d rest start));
    }

-- a stretch stays good if more may stand, and for more records
pub good_weaker : (starts stands wider : List ℕ → ℕ → Type 0) (j k : ℕ) (steps : List Step) → ((image : List ℕ) (i : ℕ) → stands image i → wider image i) → IsGood starts stands j k steps → IsGood starts wider j k steps
good_weaker starts stands wider j k steps widens good =
    record {
      each = λ d rest start before after cut image is.
          let shows : ShowsUpTo stands j k before image = good.each d rest start before after cut image is in
          record { i = shows.i; low = shows.low; high = shows.high; stand = widens image shows.i shows.stand; told = shows.told };
    }

pub good_up : (starts stands : List ℕ → ℕ → Type 0) (j k l : ℕ) (steps : List Step) → k ≤ l → IsGood starts stands j k steps → IsGood starts stands j l steps
good_up starts stands j k l steps le good =
    record {
      each = λ d rest start before after cut image is.
          let shows : ShowsUpTo stands j k before image = good.each d rest start before after cut image is in
          record { i = shows.i; low = shows.low; high = omega (arith, shows.high); stand = shows.stand; told = shows.told };
    }

-- a stretch stays good if less may stand at its start
pub good_from : (starts narrower stands : List ℕ → ℕ → Type 0) (j k : ℕ) (steps : List Step) → ((bytes : List ℕ) → narrower bytes j → starts bytes j) → IsGood starts stands j k steps → IsGood narrower stands j k steps
good_from starts narrower stands j k steps narrows good =
    record { each = λ d rest start before after cut image is. good.each d rest (narrows d.bytes start) before after cut image is }

still_action : (d : Disk) (a : Action) → is_still a ≡ true → after_action d a ≡ d
still_action d (Write at bytes ok) e = absurd cc
still_action d (Sync ok) e = absurd cc
still_action d (Emit ch bytes ok) e = refl
still_action d (Dial ch) e = refl
still_action d (Close ch) e = refl

-- actions that are still leave the device as it was
pub still_after : (d : Disk) (actions : List Action) → AreStill actions → after_actions d actions ≡ d
still_after d [] still = refl
still_after d (a ∷ x) still =
    ap (λ (now : Disk). after_actions now x) (still_action d a still.0) ∙ still_after d x still.1

pub still_front : (x y : List Step) → AreStill (actions_of (x ++ y)) → AreStill (actions_of x)
still_front [] y still = tt
still_front (s ∷ ss) y still = (still.0, still_front ss y still.1)

pub still_append : (x y : List Action) → AreStill x → AreStill y → AreStill (x ++ y)
still_append [] y first second = second
still_append (a ∷ x) y first second = (first.0, still_append x y first.1 second)

-- a stretch without a write or a sync, whose texts have at most this level, is good from there to there
pub still_goes_on : (starts stands : List ℕ → ℕ → Type 0) (j : ℕ) (steps : List Step) → ((bytes : List ℕ) → starts bytes j → stands bytes j) → AreStill (actions_of steps) → SentUpTo j steps → GoesOn starts stands starts j j steps
still_goes_on starts stands j steps shows still sent =
    record {
      good =
          record {
            each = λ d rest start before after cut image is.
                let prefix : AreStill (actions_of before) = still_front before after (subst (λ (l : List Step). AreStill (actions_of l)) cut still) in
                let same : image ≡ d.bytes = rest_image d image rest (subst (λ (x : Disk). IsImage x image) (still_after d (actions_of before) prefix) is) in
                record {
                  i = j;
                  low = omega arith;
                  high = omega arith;
                  stand = subst (λ (l : List ℕ). stands l j) (sym same) (shows d.bytes start);
                  told = sent_front j before after (subst (λ (l : List Step). SentUpTo j l) cut sent);
                };
          };
      at_rest = λ d rest start. subst (λ (x : Disk). IsAtRest x) (sym (still_after d (actions_of steps) still)) rest;
      rest = λ d rest start. subst (λ (x : Disk). starts x.bytes j) (sym (still_after d (actions_of steps) still)) start;
    }

silent_none : (i : ℕ) (steps : List Step) → actions_of steps ≡ [] → SentUpTo i steps
silent_none i [] e = tt
silent_none i (s ∷ steps) e = absurd cc

-- a stretch without a step goes on
pub none_goes_on : (starts stands : List ℕ → ℕ → Type 0) (j : ℕ) (steps : List Step) → ((bytes : List ℕ) → starts bytes j → stands bytes j) → actions_of steps ≡ [] → GoesOn starts stands starts j j steps
none_goes_on starts stands j steps shows none =
    still_goes_on starts stands j steps shows (subst (λ (l : List Action). AreStill l) (sym none) tt) (silent_none j steps none)

-- a sync of a device at rest changes nothing, even if it fails
sync_image : (d : Disk) (ok : Bool) (image : List ℕ) → IsAtRest d → IsImage (after_action d (Sync ok)) image → image ≡ d.bytes
sync_image d ok image rest is = rest_image (after_action d (Sync ok)) image (rests_synced d ok rest) is

pub sync_goes_on : (starts stands : List ℕ → ℕ → Type 0) (j : ℕ) (ok : Bool) (steps : List Step) → ((bytes : List ℕ) → starts bytes j → stands bytes j) → actions_of steps ≡ Sync ok ∷ [] → GoesOn starts stands starts j j steps
sync_goes_on starts stands j ok steps shows e =
    record {
      good =
          record {
            each = λ d rest start before after cut image is.
                let prefix : actions_of before ++ actions_of after ≡ Sync ok ∷ [] = sym (actions_of-append before after) ∙ ap actions_of (sym cut) ∙ e in
                record {
                  i = j;
                  low = omega arith;
                  high = omega arith;
                  stand = subst (λ (l : List ℕ). stands l j) (sym (front_image d (actions_of before) (actions_of after) ok image rest prefix is)) (shows d.bytes start);
                  told = silent before after j ok prefix;
                };
          };
      at_rest = λ d rest start. subst (λ (l : List Action). IsAtRest (after_actions d l)) (sym e) (rests_synced d ok rest);
      rest = λ d rest start. subst (λ (l : List Action). starts (after_actions d l).bytes j) (sym e) start;
    }
  where
    front_image : (d : Disk) (x y : List Action) (ok : Bool) (image : List ℕ) → IsAtRest d → x ++ y ≡ Sync ok ∷ [] → IsImage (after_actions d x) image → image ≡ d.bytes
    front_image d [] y ok image rest e is = rest_image d image rest is
    front_image d (a ∷ []) y ok image rest e is =
        let head : a ≡ Sync ok = cc in
        sync_image d ok image rest (subst (λ (u : Action). IsImage (after_action d u) image) head is)
    front_image d (a ∷ b ∷ x) y ok image rest e is = absurd cc

    silent : (x y : List Step) (i : ℕ) (ok : Bool) → actions_of x ++ actions_of y ≡ Sync ok ∷ [] → SentUpTo i x
    silent [] y i ok e = tt
    silent (s ∷ []) y i ok e =
        let head : s.action ≡ Sync ok = cc in
        let none : sent_level s.action s.level ≡ 0 = ap (λ (u : Action). sent_level u s.level) head in
        (omega (arith, none), tt)
    silent (s ∷ t ∷ x) y i ok e = absurd cc

-- an emit is still, even if it failed
pub emit_still : (ch : Channel) (bytes : List ℕ) (a b : World) → Emits ch bytes a b → AddsStill a b
emit_still ch bytes a b emits =
    record { device = emits.device; left = emits.left; added = Emit ch bytes true ∷ []; grew = emits.trace; still = (refl, tt) }

pub emit_failed_still : (ch : Channel) (bytes : List ℕ) (a b : World) → EmitsPart ch bytes a b → AddsStill a b
emit_failed_still ch bytes a b part =
    elim part.trace [
      | inl same ↦
          record { device = part.device; left = part.left; added = []; grew = same ∙ sym (append-nil a.trace); still = tt }
      | inr sends ↦
          record { device = part.device; left = part.left; added = Emit ch sends.prefix false ∷ []; grew = sends.added; still = (refl, tt) }
    ]

-- doing nothing is still, and so are still calls one after the other
pub still_self : (a : World) → AddsStill a a
still_self a = record { device = refl; left = refl; added = []; grew = sym (append-nil a.trace); still = tt }

pub still_then : (a b c : World) → AddsStill a b → AddsStill b c → AddsStill a c
still_then a b c first second =
    record {
      device = second.device ∙ first.device;
      left = second.left ∙ first.left;
      added = first.added ++ second.added;
      grew = second.grew ∙ ap (λ (l : List Action). l ++ second.added) first.grew ∙ append_assoc a.trace first.added second.added;
      still = still_append first.added second.added first.still second.still;
    }

-- the actions of leveled steps, and the level of what they send
pub actions_of-leveled : (level : ℕ) (actions : List Action) → actions_of (with_levels level actions) ≡ actions
actions_of-leveled level [] = refl
actions_of-leveled level (a ∷ x) = ap (λ (l : List Action). a ∷ l) (actions_of-leveled level x)

sent_level_most : (a : Action) (level : ℕ) → sent_level a level ≤ level
sent_level_most (Write at bytes ok) level = omega arith
sent_level_most (Sync ok) level = omega arith
sent_level_most (Emit ch [] ok) level = omega arith
sent_level_most (Emit ch (byte ∷ bytes) ok) level = omega arith
sent_level_most (Dial ch) level = omega arith
sent_level_most (Close ch) level = omega arith

pub sent_leveled : (level : ℕ) (actions : List Action) → SentUpTo level (with_levels level actions)
sent_leveled level [] = tt
sent_leveled level (a ∷ x) = (sent_level_most a level, sent_leveled level x)
