-- What a drill has counted.
use Rattle.std.specs.Prelude.{◌≡◌, ℕ, ◌+◌, ◌*◌, ◌<◌, ◌≤◌, ◌^◌, Bool, List, length, filter}
use Rattle.iss_model.specs.declared.entry.Entry.{Entry}
use Rattle.iss_drill.specs.declared.tally.Tally.{Tally}
use Rattle.iss_drill.specs.Drills.{is_approval, is_decline, is_notice_made}

-- nothing was counted
abbrev pub no_tally : Tally
no_tally = record { approved = 0; declined = 0; lines = 0; notices = 0; repeats = 0 }

-- how many of these entries pass a test
abbrev pub among : (Entry → Bool) → List Entry → ℕ
among test entries = length (filter test entries)

-- these entries were counted
pub record Counts (entries : List Entry) (before after : Tally) : Type 0 where
  pub approved : after.approved ≡ before.approved + among is_approval entries
  pub declined : after.declined ≡ before.declined + among is_decline entries
  pub notices : after.notices ≡ before.notices + among is_notice_made entries
  pub lines : after.lines ≡ before.lines
  pub repeats : after.repeats ≡ before.repeats

-- this number of further entries can be counted
pub record CanCountMore (more : ℕ) (t : Tally) : Type 0 where
  pub approved : t.approved + more < 2 ^ 128
  pub declined : t.declined + more < 2 ^ 128
  pub notices : t.notices + more < 2 ^ 128

-- this number of lines can have been counted: each has fewer entries than a list can have
pub record IsFew (lines : ℕ) (t : Tally) : Type 0 where
  pub approved : t.approved ≤ lines * 2 ^ 64
  pub declined : t.declined ≤ lines * 2 ^ 64
  pub notices : t.notices ≤ lines * 2 ^ 64
  pub repeats : t.repeats ≤ lines
