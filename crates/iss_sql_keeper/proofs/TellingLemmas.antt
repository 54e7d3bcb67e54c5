-- Why a call that answered Ok leaves a database that is told.
use Rattle.std.proofs.Common.{◌≡◌, Bool, Result, Ok, Err, IfOk, OnOk, IsTrue, subst}
use Rattle.sqlite.specs.declared.error.Error.{Error}
use Rattle.sqlite.specs.State.{State}
use Rattle.iss_archive.specs.declared.post.KeepFault.{KeepFault}
use Rattle.iss_tables.specs.Calls.{IsOurs, HasCommitted}
use Rattle.iss_tables.specs.Causes.{DoneAsking}
use Rattle.iss_sql_keeper.specs.Shown.{Tells}
use Rattle.iss_sql_keeper.specs.Telling.{IsTold}
use Rattle.iss_sql_keeper.proofs.ShownLemmas.{told_is}

module _ {T : Type 0} (old new : State) (q : Result T Error) (r : Result T KeepFault) where
  -- a question that was answered left the connection open
  pub told_asked : IsOurs old → Tells q r → DoneAsking q old new → OnOk r (IsTold new)
  told_asked ours same done = by q r same done
    where
      by : (q : Result T Error) (r : Result T KeepFault) → Tells q r → DoneAsking q old new → OnOk r (IsTold new)
      by (Ok x) (Ok y) same done = record { told = λ clean. told_is new (done clean ours).done.is_open clean }
      by (Ok x) (Err f) same done = tt
      by (Err e) (Ok y) same done = absurd same
      by (Err e) (Err f) same done = tt

  -- so did a commit
  pub told_committed : Tells q r → HasCommitted q old new → OnOk r (IsTold new)
  told_committed same committed = by q r same committed
    where
      by : (q : Result T Error) (r : Result T KeepFault) → Tells q r → HasCommitted q old new → OnOk r (IsTold new)
      by (Ok x) (Ok y) same committed = record { told = λ clean. told_is new (committed clean).is_open clean }
      by (Ok x) (Err f) same committed = tt
      by (Err e) (Ok y) same committed = absurd same
      by (Err e) (Err f) same committed = tt

-- whatever comes of the answer then
pub told_anyway : {T : Type 0} (r : Result T KeepFault) (s : State) → IsTold s → OnOk r (IsTold s)
told_anyway (Ok x) s it = it
told_anyway (Err e) s it = tt

pub told_taken : (r : Result Bool KeepFault) (s : State) → OnOk r (IsTold s) → IfOk r (λ yes. IsTrue yes → IsTold s)
told_taken (Ok taken) s it = λ _. it
told_taken (Err e) s it = tt

-- the same of a keeper over a connection that was opened as an archive
pub telling_at : {S R : Type 0} (shown : S → State) (d : S) (opened : Result S R) → opened ≡ Ok d → IfOk opened (λ x. IsTold (shown x)) → IsTold (shown d)
telling_at {S = S} {R = R} shown d opened done told = subst (λ (r : Result S R). IfOk r (λ x. IsTold (shown x))) done told
