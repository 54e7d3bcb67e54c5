-- Each record is synced twice before a text tells of it: in a part of a run, and in two of them, one after the other.
use Rattle.std.proofs.Common.{◌≡◌, ℕ, ◌+◌, ◌*◌, ◌-◌, ◌/◌, ◌≤◌, List, [], ◌∷◌, ◌++◌, length, ap, subst, ◌∙◌, arith, length-append}
use Rattle.iss_edge.specs.declared.outside.Action.{Action}
use Rattle.iss_edge.specs.Puts.{actions_of_puts}
use Rattle.iss_edge.specs.Stretches.{Step, actions_of, sent_level, SentUpTo, with_levels}
use Rattle.iss_edge.proofs.StretchLemmas.{sent_weaker, sent_leveled}
use Rattle.iss_halves.specs.Forms.{Form, Seat}
use Rattle.iss_model.specs.declared.input.Record.{Record}
use Rattle.iss_standing.specs.Writes.{device_actions, records_puts}
use Rattle.iss_standing.specs.Counts.{total, synced_of, turns, SyncedTwice}
use Rattle.iss_standing.specs.Goings.{AreFirstOf}
use Rattle.iss_standing.proofs.Counts.{puts_are_counted}

-- ---- a part alone

-- texts of at most the level need no sync
pub sent_synced : (count level : ℕ) (steps : List Step) → SentUpTo level steps → SyncedTwice count level steps
sent_synced count level [] sent = tt
sent_synced count level (step ∷ steps) sent = (omega (arith, sent.0), sent_synced (count + synced_of step.action) level steps sent.1)

-- work on the device has no text
pub work_synced : (level : ℕ) (actions : List Action) → SyncedTwice 0 level (with_levels 0 actions)
work_synced level actions =
    sent_synced 0 level (with_levels 0 actions) (sent_weaker 0 level (with_levels 0 actions) (omega arith) (sent_leveled 0 actions))

-- ---- one after the other

more_syncs : (sent count more level low q : ℕ) → level ≤ low + q → count + 2 * q ≤ more → sent ≤ level + count / 2 → sent ≤ low + more / 2
more_syncs sent count more level low q le ge most = omega (arith, le, ge, most)

-- a level that is lower by q, after twice as many syncs more
lower : (count more level low q : ℕ) (steps : List Step) → level ≤ low + q → count + 2 * q ≤ more → SyncedTwice count level steps → SyncedTwice more low steps
lower count more level low q [] le ge synced = tt
lower count more level low q (step ∷ steps) le ge synced = (
  more_syncs (sent_level step.action step.level) count more level low q le ge synced.0,
  lower (count + synced_of step.action) (more + synced_of step.action) level low q steps le (omega (arith, ge)) synced.1,
)

synced_then : (count level : ℕ) (xs ys : List Step) → SyncedTwice count level xs → SyncedTwice (count + total synced_of (actions_of xs)) level ys → SyncedTwice count level (xs ++ ys)
synced_then count level [] ys first second = let same : count + 0 ≡ count = omega arith in subst (λ (n : ℕ). SyncedTwice n level ys) same second
synced_then count level (step ∷ xs) ys first second =
    let one = synced_of step.action in
    let others = total synced_of (actions_of xs) in
    let same : count + (one + others) ≡ count + one + others = omega arith in
    (first.0, synced_then (count + one) level xs ys first.1 (subst (λ (n : ℕ). SyncedTwice n level ys) same second))

-- the first part made its records by the puts of these
pub both_synced : (form : Form) (seat : Seat) (rs rs' : List Record) (xs ys : List Step) (more : AreFirstOf rs rs')
    → device_actions (actions_of xs) ≡ actions_of_puts (records_puts form seat rs more.later)
    → SyncedTwice 0 (length rs) xs → SyncedTwice 0 (length rs') ys → SyncedTwice 0 (length rs) (xs ++ ys)
both_synced form seat rs rs' xs ys more made first second =
    let later = more.later in
    let done : total synced_of (actions_of xs) ≡ 2 * length later + 2 * turns form seat rs later = ((puts_are_counted form seat rs later).whole (actions_of xs) made).synced in
    let longer : length rs' ≡ length rs + length later = ap (λ (l : List Record). length l) more.cut ∙ length-append {A = Record} rs later in
    synced_then 0 (length rs) xs ys first
    (lower 0 (0 + total synced_of (actions_of xs)) (length rs') (length rs) (length later) ys (omega (arith, longer))
    (enough (total synced_of (actions_of xs)) (length later) (turns form seat rs later) done) second)
  where
    enough : (n q t : ℕ) → n ≡ 2 * q + 2 * t → 0 + 2 * q ≤ 0 + n
    enough n q t e = omega (arith, e)

-- ---- each text

pub synced_before : (count level : ℕ) (before rest : List Step) (step : Step) → SyncedTwice count level (before ++ step ∷ rest) → sent_level step.action step.level ≤ level + (count + total synced_of (actions_of before)) / 2
synced_before count level [] rest step synced = let most : sent_level step.action step.level ≤ level + count / 2 = synced.0 in omega (arith, most)
synced_before count level (first ∷ before) rest step synced =
    again (sent_level step.action step.level) level count (synced_of first.action) (total synced_of (actions_of before)) (synced_before (count + synced_of first.action) level before rest step synced.1)
  where
    again : (sent level count one others : ℕ) → sent ≤ level + (count + one + others) / 2 → sent ≤ level + (count + (one + others)) / 2
    again sent level count one others most = omega (arith, most)
