-- What holds of a connection after a question, whatever that came to.
use Rattle.std.proofs.Common.{◌≡◌, inl, inr, ℕ, ◌≤◌, List, Option, Some, None, Ok, Err, Result, IfOk, IfErr, OnOk, Vec, IsTrue, subst}
use Rattle.std.specs.Global.{Global}
use Rattle.sqlite.specs.Order.{Row}
use Rattle.sqlite.specs.Listing.{understood}
use Rattle.sqlite.specs.declared.error.Error.{Error}
use Rattle.sqlite_resolve.specs.declared.compiled.Compiled.{Compiled}
use Rattle.sqlite_schema.specs.declared.command.Returning.{Returning}
use Rattle.sqlite.specs.State.{State, IsUnchanged, IsRolledBack, KeepsCommit, IsNotRun, RunsCommand, ShowsRows, Shown, FailsToShow, FailsToQuery, CommitsShowing, Survives}
use Rattle.sqlite.proofs.Callers.{IsPlain, never_commits}
use Rattle.iss_tables.specs.Causes.{IsAnswered}

unchanged : (old new : State) → IsUnchanged old new → KeepsCommit old new
unchanged old new same = record { was_open = λ _. same.0.was_open; committed = λ _. same.0.committed_is }

rolled_back : (old new : State) → IsRolledBack old new → KeepsCommit old new
rolled_back old new back = record { was_open = back.was_open; committed = λ is_open. (back.undone is_open).1 }

not_run : (sql : List ℕ) (params : Row) (old new : State) (e : Error) → IsNotRun old new sql params e → KeepsCommit old new
unfolding IsNotRun
not_run sql params old new e (inl h) = unchanged old new h.1
not_run sql params old new e (inr h) = rolled_back old new h.3

failed_run : (sql : List ℕ) (c : Compiled) (params : Row) (old new : State) (e : Error) → RunsCommand old new sql c params (Err e) → KeepsCommit old new
failed_run sql c params old new e (inl h) = unchanged old new h.1
failed_run sql c params old new e (inr h) = rolled_back old new h.3

failed_show : (sql : List ℕ) (c : Compiled) (params : Row) (old new : State) (e : Error) (what : Option Returning) → FailsToShow old new sql c params e what → KeepsCommit old new
failed_show sql c params old new e None h = unchanged old new h.3
failed_show sql c params old new e (Some what) h = failed_run sql c params old new e h

failed_query : (sql : List ℕ) (params : Row) (old new : State) (e : Error) → FailsToQuery sql params old new e → KeepsCommit old new
unfolding FailsToQuery
failed_query sql params old new e (inl h) = not_run sql params old new e h
failed_query sql params old new e (inr h) = failed_show sql h.0 _ old new e h.0.returning h.2

shown_rows : (sql : List ℕ) (c : Compiled) (params : Row) (old new : State) (rows : List Row) (what : Option Returning) → what ≡ None → ShowsRows old new sql c params rows what → KeepsCommit old new
shown_rows sql c params old new rows None plain h = unchanged old new h.3
shown_rows sql c params old new rows (Some what) plain h = absurd cc

shown : (sql : List ℕ) (params : Row) (old new : State) (rows : List Row) → IsPlain (understood old.now.schema sql) → Shown sql params old new rows → KeepsCommit old new
unfolding Shown
shown sql params old new rows plain h = shown_rows sql h.0 _ old new rows h.0.returning (subst IsPlain h.1.is plain).0 h.2

-- a question that was answered changed nothing
unchanged_rows : (sql : List ℕ) (c : Compiled) (params : Row) (old new : State) (rows : List Row) (what : Option Returning) → what ≡ None → ShowsRows old new sql c params rows what → IsUnchanged old new
unchanged_rows sql c params old new rows None plain h = h.3
unchanged_rows sql c params old new rows (Some what) plain h = absurd cc

answered_shown : (old new : State) → IsUnchanged old new → old.faults ≤ new.faults → new.step_limit ≡ old.step_limit → IsAnswered old new
answered_shown old new same counted limit = record {
  done = record { is_open = same.0.is_open; counted = counted; limit = limit; mode = same.0.mode };
  now = same.0.now_is;
}

pub answered : (sql : List ℕ) (params : Row) (old new : State) (r : Result (Vec Row Global) Error) → IsPlain (understood old.now.schema sql) → IfOk r (λ rows. Shown sql params old new rows.items)
    → old.faults ≤ new.faults → new.step_limit ≡ old.step_limit → OnOk r (IsAnswered old new)
unfolding Shown
answered sql params old new (Ok rows) plain h counted limit =
    answered_shown old new (unchanged_rows sql h.0 _ old new rows.items h.0.returning (subst IsPlain h.1.is plain).0 h.2) counted limit
answered sql params old new (Err e) plain h counted limit = tt

-- whatever comes of the answer then
pub answered_anyway : {T E : Type 0} (r : Result T E) (old new : State) → IsAnswered old new → OnOk r (IsAnswered old new)
answered_anyway (Ok x) old new a = a
answered_anyway (Err e) old new a = tt

-- whatever was asked, the connection was open if it is
show_opened : (sql : List ℕ) (c : Compiled) (params : Row) (old new : State) (rows : List Row) (what : Option Returning) → ShowsRows old new sql c params rows what → IsTrue new.is_open → IsTrue old.is_open
show_opened sql c params old new rows None h = λ _. h.3.0.was_open
show_opened sql c params old new rows (Some what) h = λ _. h.1.shown.was_open

pub opened_asked : (sql : List ℕ) (params : Row) (old new : State) (r : Result (Vec Row Global) Error)
    → IfOk r (λ rows. Shown sql params old new rows.items) → IfErr r (FailsToQuery sql params old new) → IsTrue new.is_open → IsTrue old.is_open
unfolding Shown
opened_asked sql params old new (Ok rows) ok err = show_opened sql ok.0 _ old new rows.items ok.0.returning ok.2
opened_asked sql params old new (Err e) ok err = (failed_query sql params old new e err).was_open

-- nothing was committed
pub keeps_asked : (sql : List ℕ) (params : Row) (old new : State) (r : Result (Vec Row Global) Error) → IsPlain (understood old.now.schema sql)
    → IfOk r (λ rows. Shown sql params old new rows.items) → IfErr r (FailsToQuery sql params old new) → KeepsCommit old new
keeps_asked sql params old new (Ok rows) plain ok err = shown sql params old new rows.items plain ok
keeps_asked sql params old new (Err e) plain ok err = failed_query sql params old new e err

-- and a stop leaves nothing new
pub survives_asked : (sql : List ℕ) (params : Row) (old new : State) → IsPlain (understood old.now.schema sql) → Survives old new (CommitsShowing sql params old) → Survives old new (λ _. ⊥)
survives_asked sql params old new plain s =
    record {
      clean = s.clean;
      shield = s.shield;
      counts = s.counts;
      limit = s.limit;
      closes = s.closes;
      crash = λ clean db may. elim (s.crash clean db may) [ inl before ↦ inl before | inr commits ↦ absurd (never_commits sql params old db plain commits) ];
    }
