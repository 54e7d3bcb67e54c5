-- Why a statement failed.
use Rattle.std.proofs.Common.{◌≡◌, ◌⊎◌, inl, inr, ℕ, ◌≤◌, Bool, false, List, length, Option, Some, None, Ok, Err, Result, IsTrue, IsSome, refl, sym, ap, subst, ◌∙◌, arith, append-nil}
use Rattle.sqlite_trees.specs.declared.error.StoreError.{StoreError}
use Rattle.sqlite_trees.specs.declared.error.StoreError.TheVariants.{OutOfMemory, Io, Corrupt, Full, Broken, Unstorable}
use Rattle.sqlite_schema.specs.declared.schema.Schema.{Schema}
use Rattle.sqlite_schema.specs.declared.command.Command.{Command}
use Rattle.sqlite_schema.specs.declared.command.Returning.{Returning}
use Rattle.sqlite_resolve.specs.declared.compiled.Compiled.{Compiled}
use Rattle.sqlite_resolve.specs.declared.error.CompileError.{CompileError}
use Rattle.sqlite.specs.declared.error.ErrorCode.TheVariants as code
use Rattle.sqlite.specs.declared.error.Error.{Error}
use Rattle.sqlite.specs.declared.error.Error.TheVariants.{SqliteFailure}
use Rattle.sqlite.specs.Order.{Row}
use Rattle.sqlite.specs.Effect.{RefusesToRead}
use Rattle.sqlite.specs.Listing.{understood, reads_listing, IsSourceOf}
use Rattle.sqlite.specs.Clock.{timed}
use Rattle.sqlite.specs.State.{State, Fails, HasCause, store_error, IsNotRun, FailsToQuery, IsMisplaced, Escapes, EndsScope, ExecutesIn, Executes, ExecutesInside, RunsCommand, shows_rows, mode_of}
use Rattle.sqlite.specs.Calls.{IsWrite}
use Rattle.sqlite.specs.Does.{Does}
use Rattle.sqlite_schema.specs.declared.command.Command.TheVariants.{Nothing}
use Rattle.std.proofs.Common.{subst₂}
use Rattle.sqlite.proofs.Callers.{IsPlain, command_of, statement_of}
use Rattle.iss_tables.specs.Causes.{FailsByStore}

-- the failure of a store, by the name that it is given
pub by_store : (old new : State) (big : Type 0) (e : Error) → Fails old new big e → FailsByStore old new e ⊎ ((e ≡ SqliteFailure code.TooBig) × big)
by_store old new big e h = by h.0 h.1 h.2
  where
    by : (cause : StoreError) → e ≡ store_error cause → HasCause old new big cause → FailsByStore old new e ⊎ ((e ≡ SqliteFailure code.TooBig) × big)
    by OutOfMemory is why = inl (inl is)
    by Io is why = inl (inr (inl (record { named = rw is refl; counted = why })))
    by Corrupt is why = inl (inr (inl (record { named = rw is refl; counted = why })))
    by Full is why = inl (inr (inl (record { named = rw is refl; counted = why })))
    by Broken is why = inl (inr (inr (is, why)))
    by Unstorable is why = inr (is, why)

-- the same of a store that was asked to keep nothing
pub by_store_alone : (old new : State) (e : Error) → Fails old new ⊥ e → FailsByStore old new e
by_store_alone old new e h = elim (by_store old new ⊥ e h) [ inl failed ↦ failed | inr big ↦ absurd big.1 ]

-- a failure after a call that left the connection open is one of both calls
pub carried : (old mid new : State) (e : Error) → old.faults ≤ mid.faults → (mid.is_open ≡ false → old.is_open ≡ false) → FailsByStore mid new e → FailsByStore old new e
carried old mid new e more shut (inl memory) = inl memory
carried old mid new e more shut (inr (inl disk)) = inr (inl (record { named = disk.named; counted = omega (arith, disk.counted, more) }))
carried old mid new e more shut (inr (inr closed)) = inr (inr (closed.0, shut closed.1))

pub open_not_shut : {X : Type 0} (b : Bool) → IsTrue b → b ≡ false → X
open_not_shut b opened shut = absurd (let no = sym opened ∙ shut in cc)

abbrev none_of : {A : Type 0} → Option A
none_of = None

-- where a text ends, and how many parameters it has
abbrev pub tail_of : Result Compiled CompileError → ℕ
tail_of (Ok c) = c.tail
tail_of (Err e) = 0

abbrev pub names_of : Result Compiled CompileError → ℕ
names_of (Ok c) = length c.names
names_of (Err e) = 0

abbrev pub shows_of : Result Compiled CompileError → Bool
shows_of (Ok c) = shows_rows false c
shows_of (Err e) = false

-- a write is never out of place, and ends no transaction
pub write_placed : (s : State) (k : Command) (e : Error) → IsWrite k → ¬ IsMisplaced s k e
write_placed s k e write (inl h) = elim h.1 [
  | inl begin ↦ subst IsWrite begin.0 write
  | inr ends ↦ elim ends.0 [ inl commit ↦ subst IsWrite commit write | inr back ↦ subst IsWrite back write ]
]
write_placed s k e write (inr h) = elim h.2 [ inl release ↦ subst IsWrite release write | inr back ↦ subst IsWrite back write ]

pub write_stays : (s : State) (k : Command) → IsWrite k → ¬ Escapes 0 s k
write_stays s k write (inl ends) = elim ends [ inl commit ↦ subst IsWrite commit write | inr back ↦ subst IsWrite back write ]
write_stays s k write (inr h) = elim h.1 [ inl release ↦ subst IsWrite release write | inr back ↦ subst IsWrite back write ]

-- nor is a statement that does nothing
pub nothing_placed : (s : State) (k : Command) (e : Error) → k ≡ Nothing → ¬ IsMisplaced s k e
nothing_placed s k e is (inl h) = elim h.1 [
  | inl begin ↦ absurd (let no = sym begin.0 ∙ is in cc)
  | inr ends ↦ elim ends.0 [ inl commit ↦ absurd (let no = sym commit ∙ is in cc) | inr back ↦ absurd (let no = sym back ∙ is in cc) ]
]
nothing_placed s k e is (inr h) = elim h.2 [ inl release ↦ absurd (let no = sym release ∙ is in cc) | inr back ↦ absurd (let no = sym back ∙ is in cc) ]

-- what the rules of a statement say of a stop: an error, or `None` if a row can't be stored
abbrev pub Stops : State → Command → List ℕ → Row → Option Error → Type 0
Stops s command text params stop = Does s.step_limit (mode_of s) params s.now text None command (Err stop)

module _ (sql : List ℕ) (params : Row) (old new : State) (schema : Schema) (has : old.now.schema ≡ schema) (command : Command) (is : command_of (understood schema sql) ≡ command)
    (plain : IsPlain (understood schema sql)) (whole : tail_of (understood schema sql) ≡ length sql) (given : names_of (understood schema sql) ≡ length params) where
  known : (r : Result Compiled CompileError) → understood old.now.schema sql ≡ r → understood schema sql ≡ r
  known r h = sym (ap (λ s. understood s sql) has) ∙ h

  -- the text is one statement, so only the store keeps it from being run
  pub not_run : (e : Error) → IsNotRun old new sql params e → Fails old new ⊥ e
  unfolding IsNotRun
  not_run e (inr failed) = failed
  not_run e (inl (inl bad, same)) = absurd (subst IsPlain (known _ bad.1) plain)
  not_run e (inl (inr many, same)) =
      let is_known = known _ many.1 in
      let end : many.0.tail ≡ length sql = ap tail_of (sym is_known) ∙ whole in
      let names : length many.0.names ≡ length params = ap names_of (sym is_known) ∙ given in
      elim many.2 [
        | inl more ↦ absurd (more.0 (omega (arith, end)))
        | inr (inl count) ↦ absurd (count.0 (sym names))
        | inr (inr clock) ↦ absurd (clock.0 (subst IsPlain is_known plain).1)
      ]

  -- a question that has no answer
  pub not_shown : reads_listing schema sql ≡ false → (e : Error) → FailsToQuery sql params old new e → Fails old new ⊥ e ⊎ RefusesToRead old.step_limit command old.now params e
  unfolding FailsToQuery
  not_shown unlisted e (inl h) = inl (not_run e h)
  not_shown unlisted e (inr h) =
      let is_known = known _ h.1.is in
      let bare = subst IsPlain is_known plain in
      let it = rw (bare.0, bare.1, append-nil params) at h.2 in
      let db : it.0 ≡ old.now = subst (λ b. IsSourceOf b old.now it.0) (ap (λ s. reads_listing s sql) has ∙ unlisted) it.1 in
      let own : h.0.command ≡ command = ap command_of (sym is_known) ∙ is in
      inr (subst (λ k. RefusesToRead old.step_limit k old.now params e) own (subst (λ d. RefusesToRead old.step_limit h.0.command d params e) db it.2))

  module _ (quiet : shows_of (understood schema sql) ≡ false) (placed : (e : Error) → ¬ IsMisplaced old command e) where
    writing : (k : Command) → k ≡ command → IsWrite k ⊎ IsSome (none_of {A = Returning}) → IsWrite command
    writing k is (inl write) = subst IsWrite is write
    writing k is (inr shows) = absurd cc

    -- a statement outside a transaction
    pub not_done : (e : Error) → Executes sql params old new (Err e)
        → Fails old new ⊥ e ⊎ ((IsWrite command × Stops old command (statement_of sql (understood schema sql)) params (Some e)) ⊎ Fails old new (Stops old command (statement_of sql (understood schema sql)) params None) e)
    unfolding ExecutesIn
    not_done e (inl h) = inl (not_run e h)
    not_done e (inr h) =
        let is_known = known _ h.1.is in
        let bare = subst IsPlain is_known plain in
        let runs : shows_rows false h.0 ≡ false = ap shows_of (sym is_known) ∙ quiet in
        let ran : RunsCommand old new sql h.0 (timed params h.0.formats h.1.now) (Err e) = rw runs at h.2 in
        let own : h.0.command ≡ command = ap command_of (sym is_known) ∙ is in
        let words : statement_of sql (Ok h.0) ≡ statement_of sql (understood schema sql) = ap (statement_of sql) (sym is_known) in
        elim (rw (bare.0, bare.1, append-nil params) at ran) [
          | inl ended ↦ elim ended.0 [
            | inl place ↦ absurd (placed e (subst (λ k. IsMisplaced old k e) own place))
            | inr refused ↦ inr (inl (writing h.0.command own refused.0, subst₂ (λ k t. Stops old k t params (Some e)) own words refused.1))
          ]
          | inr failed ↦ inr (inr (subst₂ (λ k t. Fails old new (Stops old k t params None) e) own words failed))
        ]

    -- a statement inside one
    pub not_done_inside : ¬ Escapes 0 old command → (e : Error) → ExecutesInside 0 sql params old new (Err e)
        → Fails old new ⊥ e ⊎ ((IsWrite command × Stops old command (statement_of sql (understood schema sql)) params (Some e)) ⊎ Fails old new (Stops old command (statement_of sql (understood schema sql)) params None) e)
    unfolding EndsScope
    not_done_inside stays e (inl h) = not_done e h.0
    not_done_inside stays e (inr h) = absurd (stays (subst (Escapes 0 old) (ap command_of (sym (known _ h.0.1.is)) ∙ is) h.0.2))
