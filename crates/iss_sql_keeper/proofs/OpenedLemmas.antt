-- What a keeper tells once it is made.
use Rattle.std.proofs.Common.{◌≡◌, Bool, true, false, cond, ◌&&◌, [], List, map, Option, Some, None, option_map, Result, Ok, Err, IfOk, IfSome, IsTrue, refl, sym, ap, subst, ◌∙◌}
use Rattle.sqlite.specs.Tree.{Trees}
use Rattle.sqlite.specs.Effect.{Database}
use Rattle.sqlite.specs.Order.{Row}
use Rattle.sqlite.specs.State.{State, HasCleanDisk}
use Rattle.iss_tables.specs.Steps.{head_row, IsMadeOf}
use Rattle.iss_sql_keeper.specs.Decoded.{archived_in, head_in, posting_in, seq_of}
use Rattle.iss_sql_keeper.specs.Numbered.{in_order}
use Rattle.iss_sql_keeper.specs.Shown.{Stays, told_in}
use Rattle.iss_sql_keeper.specs.Opened.{IsHeldIn, IsHeldBy, HoldsOn}
use Rattle.iss_sql_keeper.proofs.ShownLemmas.{clean_from}

-- without a posting, only the head is archived
head_alone : (db : Trees) (rows : List Row) → db 0 ≡ rows → db 1 ≡ [] → archived_in db ≡ record { head = option_map head_in (head_row rows); rows = [] }
head_alone db rows head posts = λ i. record { head = option_map head_in (head_row (head i)); rows = in_order seq_of (map posting_in (posts i)) }

-- the tables that were made or left are what is committed in the end
pub holds_on : (old mid new : State) → (HasCleanDisk mid → IsMadeOf old.now mid.now) → (IsTrue mid.is_open → mid.now ≡ mid.committed) → Stays mid new → HoldsOn old new
holds_on old mid new made settled stays clean is_open =
    let mid_clean = stays.clean clean in
    let end : new.committed ≡ mid.now = stays.committed clean is_open ∙ sym (settled (stays.was_open clean is_open)) in
    let now : archived_in new.committed.trees ≡ archived_in mid.now.trees = ap (λ (d : Database). archived_in d.trees) end in
    let it = made mid_clean in record {
      ours = λ has. now ∙ ap (λ (d : Database). archived_in d.trees) (it.ours has);
      half = λ has. let after = it.half has in now ∙ head_alone mid.now.trees (old.now.trees 0) after.head after.posts;
      blank = λ has. let after = it.blank has in now ∙ head_alone mid.now.trees [] after.head after.posts;
    }

-- what is told of the connection is what its tables held
pub told_held : (old new : State) → HoldsOn old new → IfSome (told_in new) (IsHeldIn old)
told_held old new held = by new.is_open new.is_clean refl refl
  where
    by : (o c : Bool) → new.is_open ≡ o → new.is_clean ≡ c → IfSome (cond (o && c) (Some (archived_in new.committed.trees)) None) (IsHeldIn old)
    by true true o c = held (clean_from new.is_clean c) o
    by true false o c = tt
    by false c o d = tt

pub ok_anyway : {T E : Type 0} {P : T → Type 0} (r : Result T E) → ((x : T) → P x) → IfOk r P
ok_anyway (Ok x) all = all x
ok_anyway (Err e) all = tt

-- the same of a keeper over a connection that was opened as an archive
pub told_at : {S R : Type 0} (shown : S → State) (conn : Option S) (c d : S) (opened : Result S R) → conn ≡ Some c → opened ≡ Ok d → IfOk opened (λ x. HoldsOn (shown c) (shown x))
    → IfSome (told_in (shown d)) (IsHeldBy shown conn)
told_at {S = S} {R = R} shown conn c d opened is done held =
    let it : HoldsOn (shown c) (shown d) = subst (λ (r : Result S R). IfOk r (λ x. HoldsOn (shown c) (shown x))) done held in
    subst (λ (o : Option S). IfSome (told_in (shown d)) (IsHeldBy shown o)) (sym is) (told_held (shown c) (shown d) it)
