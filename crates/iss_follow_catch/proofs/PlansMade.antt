-- What planning a record comes to on a store: its plan, or why it gets none.
use Rattle.std.proofs.Common.{◌≡◌, ◌⊎◌, inl, inr, ◌<◌, ◌≤◌, ℕ, max, Bool, true, false, cond, List, length, refl, sym, ap, subst, ◌∙◌, arith}
use Rattle.std.specs.Prelude.{◌≢◌, Result, Ok, Err, IfOk, IfErr, nat_le, nat_lt}
use Rattle.std.proofs.lemmas.Bool.Decides.{nat_tests}
use Rattle.iss_model.specs.declared.decision.Answer.{Answer}
use Rattle.iss_model.specs.declared.decision.Answer.TheVariants as answer
use Rattle.iss_model.specs.declared.decision.Judged.{Judged}
use Rattle.iss_model.specs.declared.decision.Judged.TheVariants as judged
use Rattle.iss_model.specs.declared.input.Input.{Input}
use Rattle.iss_model.specs.declared.input.Record.{Record}
use Rattle.iss_model.specs.declared.limits.TheConstants.{MOST_RECORDS}
use Rattle.iss_model.specs.rules.Histories.{Follows, history_keeper, history_of}
use Rattle.iss_model.specs.rules.Judging.{judge}
use Rattle.iss_model.specs.run.Rooms.{need_of, most_free, fits, unless_spent, judgement_within}
use Rattle.iss_model.specs.state.Cores.{core_keeper}
use Rattle.iss_agreement.proofs.JudgedAgain.{new_at, not_before}
use Rattle.iss_core.specs.Values.{IsNext}
use Rattle.iss_opening.specs.Values.{StoreNow, room_of}
use Rattle.iss_opening.specs.Standing.{StandsFor}
use Rattle.iss_opening.proofs.Afters.{follows_next, next_follows}
use Rattle.iss_opening.proofs.TakenUp.{judged_itself}
use Rattle.iss_store.specs.declared.fault.PlanFault.TheVariants as plan_fault
use Rattle.iss_store.specs.Values.{Plan}
use Rattle.iss_store.specs.Planning.{judged_plan, judged_as, judged_within, judged_at, most_free_at, Plans, PlansOnBook}
use Rattle.iss_follow_runs.specs.declared.stop.Stop.{Stop}
use Rattle.iss_follow_runs.specs.declared.stop.Stop.TheVariants as stop
use Rattle.iss_follow_catch.specs.Rooms.{room_on, FitsNext}
use Rattle.iss_follow_catch.specs.Committing.{stop_told, StopsAt, IsPlanItself}

-- ---- the record of a plan is the one that was judged

new_made : (count : ℕ) (few : Bool) (fit : Bool) (r p : Record) (a : Answer) → judged.New p ≡ cond few (cond fit (judged.New r) (judged.Told a)) (judged.Told answer.Spent) → p ≡ r
new_made count true true r p a e = cc
new_made count true false r p a e = absurd cc
new_made count false fit r p a e = absurd cc

clock_made : (few : Bool) (fit : Bool) (r p : Record) (a : Answer) → judged.New p ≡ cond few (cond fit (judged.Clock r) (judged.Told a)) (judged.Told answer.Spent) → ⊥
clock_made true true r p a e = cc
clock_made true false r p a e = cc
clock_made false fit r p a e = cc

-- a plan that isn't of a clock: judging gave its record
new_planned : (s : StoreNow) (p : Record) (j : Judged) → judged.New p ≡ judged_within s j → j ≡ judged.New p
new_planned s p (judged.New r) e =
    ap judged.New (sym (new_made s.core.state.count (nat_lt s.core.state.count MOST_RECORDS) (nat_le (need_of r) (most_free_at s)) r p (answer.Full (most_free_at s) (need_of r)) e))
new_planned s p (judged.Clock r) e = absurd (clock_made (nat_lt s.core.state.count MOST_RECORDS) (nat_le (need_of r) (most_free_at s)) r p (answer.Full (most_free_at s) (need_of r)) e)
new_planned s p (judged.Told a) e = absurd cc

later_of : (now at : ℕ) → now ≤ at → max at now ≡ at
later_of now at late = grind (arith, nat_tests)

module _ (s : StoreNow) (r : Record) where
  -- it is the record itself, at no earlier stamp than the store's time
  pub planned_itself : (p q : Plan) (now : ℕ) → now ≡ s.core.state.now → (r.at < now → ⊥) → Plans (judged_at s r.input r.at) (Ok p) → IsPlanItself p (Ok q) → q.accepted ≡ r
  planned_itself p q now told late plans its =
      let new : judged.New p.accepted ≡ judged_at s r.input r.at =
      subst (λ (b : Bool). judged_plan p.accepted b ≡ judged_at s r.input r.at) its.1 plans in
      let judges = new_planned s p.accepted (judge core_keeper s.core.state r.input r.at) new in
      let next : IsNext s.core r = judged_itself s.core r p.accepted now told (omega (arith, late)) judges in
      let same : judged.New p.accepted ≡ judged.New r = sym judges ∙ next in
      let accepted : p.accepted ≡ r = cc in
      ap (λ (x : Plan). x.accepted) its.0 ∙ accepted

  -- before the store's time nothing follows
  pub early_stops : (now : ℕ) → now ≡ s.core.state.now → r.at < now → StopsAt s r stop.NotBehind
  early_stops now told early rs stands follows =
      let next : IsNext s.core r = follows_next s.core rs r stands.core follows in
      let late : s.core.state.now ≤ r.at = not_before core_keeper s.core.state r.at r.at (new_at core_keeper s.core.state r.input r.at r next) in
      omega (arith, told, early, late)

  -- ---- on the book

  module _ (rs : List Record) where
    abbrev on_book : Judged
    on_book = judgement_within (room_of s) rs (judge history_keeper (history_of rs) r.input r.at)

    -- what follows is made, if there may be one more and it fits
    made_if : Follows (history_of rs) r → on_book ≡ unless_spent (length rs) (cond (fits (room_on s) rs r) (judged.New r) (judged.Told (answer.Full (most_free (room_on s) rs) (need_of r))))
    made_if follows = ap (judgement_within (room_of s) rs) follows.is_new

-- the cases of one more record: it fits, it doesn't, or there are as many as there may be
abbrev made : Bool → Bool → Record → Answer → Judged
made few fit r a = cond few (cond fit (judged.New r) (judged.Told a)) (judged.Told answer.Spent)

both_true : (few fit : Bool) (r p : Record) (a : Answer) → judged.New p ≡ made few fit r a → (few ≡ true) × (fit ≡ true)
both_true true true r p a e = (refl, refl)
both_true true false r p a e = absurd cc
both_true false fit r p a e = absurd cc

no_clock : (few fit : Bool) (r p : Record) (a : Answer) → judged.Clock p ≡ made few fit r a → ⊥
no_clock true true r p a e = cc
no_clock true false r p a e = cc
no_clock false fit r p a e = cc

told_only : (few fit : Bool) (r : Record) (a b : Answer) → judged.Told b ≡ made few fit r a → (b ≡ a) ⊎ (b ≡ answer.Spent)
told_only true true r a b e = absurd cc
told_only true false r a b e = inl cc
told_only false fit r a b e = inr cc

told_if_not : (few fit : Bool) (r : Record) (a b : Answer) → judged.Told b ≡ made few fit r a → few ≡ true → fit ≡ true → ⊥
told_if_not true true r a b e few_is fit_is = cc
told_if_not true false r a b e few_is fit_is = absurd cc
told_if_not false fit r a b e few_is fit_is = absurd cc

few_so : (n : ℕ) → nat_lt n MOST_RECORDS ≡ true → n < MOST_RECORDS
few_so n few = grind (arith, nat_tests)

so_few : (n : ℕ) → n < MOST_RECORDS → nat_lt n MOST_RECORDS ≡ true
so_few n few = grind (arith, nat_tests)

-- an answer that is neither that of a full device nor that of records that are spent
not_told : (free need : ℕ) (b : Answer) → stop_told b ≡ stop.NotBehind → (b ≡ answer.Full free need) ⊎ (b ≡ answer.Spent) → ⊥
not_told free need b is (inl full) = let e : stop_told (answer.Full free need) ≡ stop.NotBehind = sym (ap stop_told full) ∙ is in cc
not_told free need b is (inr spent) = let e : stop_told answer.Spent ≡ stop.NotBehind = sym (ap stop_told spent) ∙ is in cc

module _ (s : StoreNow) (r : Record) where
  abbrev full_answer : List Record → Answer
  full_answer rs = answer.Full (most_free (room_on s) rs) (need_of r)

  abbrev few_on : List Record → Bool
  few_on rs = nat_lt (length rs) MOST_RECORDS

  abbrev fit_on : List Record → Bool
  fit_on rs = fits (room_on s) rs r

  -- a record that was planned fits
  pub planned_fits : (p q : Plan) (i : Input) (at now : ℕ) → i ≡ r.input → at ≡ r.at → now ≡ s.core.state.now → (r.at < now → ⊥) → Plans (judged_at s i at) (Ok p) → PlansOnBook s i at (Ok p) → IsPlanItself p (Ok q)
      → (rs : List Record) → StandsFor s rs → FitsNext (room_on s) rs r
  planned_fits p q i at now is_input is_at told late plans book its rs stands =
      let here : Plans (judged_at s r.input r.at) (Ok p) = subst (λ (n : ℕ). Plans (judged_at s r.input n) (Ok p)) is_at (subst (λ (x : Input). Plans (judged_at s x at) (Ok p)) is_input plans) in
      let new : judged.New p.accepted ≡ judged_at s r.input r.at =
      subst (λ (b : Bool). judged_plan p.accepted b ≡ judged_at s r.input r.at) its.1 here in
      let judges = new_planned s p.accepted (judge core_keeper s.core.state r.input r.at) new in
      let next : IsNext s.core r = judged_itself s.core r p.accepted now told (omega (arith, late)) judges in
      let follows : Follows (history_of rs) r = next_follows s.core rs r stands.core next in
      let on : judged.New p.accepted ≡ on_book s r rs =
      subst (λ (b : Bool). judged_plan p.accepted b ≡ on_book s r rs) its.1
      (subst (λ (n : ℕ). judged_as p ≡ judgement_within (room_of s) rs (judge history_keeper (history_of rs) r.input n)) is_at
      (subst (λ (x : Input). judged_as p ≡ judgement_within (room_of s) rs (judge history_keeper (history_of rs) x at)) is_input (book rs stands))) in
      let both = both_true (few_on rs) (fit_on rs) r p.accepted (full_answer rs) (on ∙ made_if s r rs follows) in
      (few_so (length rs) both.0, both.1)

  -- one that isn't new, or is told, doesn't follow or doesn't fit
  pub clock_stops : (p : Plan) → IsPlanItself p (Err stop.NotBehind) → PlansOnBook s r.input r.at (Ok p) → StopsAt s r stop.NotBehind
  clock_stops p clock book rs stands follows =
      let on : judged.Clock p.accepted ≡ on_book s r rs = subst (λ (b : Bool). judged_plan p.accepted b ≡ on_book s r rs) clock (book rs stands) in
      no_clock (few_on rs) (fit_on rs) r p.accepted (full_answer rs) (on ∙ made_if s r rs follows)

  other_stops : (a : Answer) → stop_told a ≡ stop.NotBehind → PlansOnBook s r.input r.at (Err (plan_fault.Told a)) → StopsAt s r stop.NotBehind
  other_stops a is book rs stands follows =
      not_told (most_free (room_on s) rs) (need_of r) a is (told_only (few_on rs) (fit_on rs) r (full_answer rs) a (book rs stands ∙ made_if s r rs follows))

  pub told_stops : (a : Answer) → PlansOnBook s r.input r.at (Err (plan_fault.Told a)) → StopsAt s r (stop_told a)
  told_stops (answer.Full free need) book = λ rs stands follows room.
      told_if_not (few_on rs) (fit_on rs) r (full_answer rs) (answer.Full free need) (book rs stands ∙ made_if s r rs follows) (so_few (length rs) room.0) room.1
  told_stops answer.Spent book = λ rs stands follows room.
      told_if_not (few_on rs) (fit_on rs) r (full_answer rs) answer.Spent (book rs stands ∙ made_if s r rs follows) (so_few (length rs) room.0) room.1
  told_stops (answer.Repeat token reply) book = other_stops (answer.Repeat token reply) refl book
  told_stops (answer.Conflict token number) book = other_stops (answer.Conflict token number) refl book
  told_stops (answer.Late call how) book = other_stops (answer.Late call how) refl book
  told_stops (answer.UnknownCall call) book = other_stops (answer.UnknownCall call) refl book
  told_stops (answer.Already number) book = other_stops (answer.Already number) refl book
  told_stops (answer.UnknownNotice number) book = other_stops (answer.UnknownNotice number) refl book
  told_stops answer.Idle book = other_stops answer.Idle refl book

-- ---- what a plan itself comes to, if it isn't one of a clock

pub itself_is : (s : StoreNow) (r : Record) (p : Plan) (result : Result Plan Stop) (now : ℕ) → now ≡ s.core.state.now → (r.at < now → ⊥) → Plans (judged_at s r.input r.at) (Ok p) → IsPlanItself p result
    → IfOk result (λ q. q.accepted ≡ r)
itself_is s r p (Ok q) now told late plans its = planned_itself s r p q now told late plans its
itself_is s r p (Err why) now told late plans its = tt

pub itself_fits : (s : StoreNow) (r : Record) (p : Plan) (result : Result Plan Stop) (now : ℕ) → now ≡ s.core.state.now → (r.at < now → ⊥) → Plans (judged_at s r.input r.at) (Ok p) → PlansOnBook s r.input r.at (Ok p)
    → IsPlanItself p result → IfOk result (λ q. (rs : List Record) → StandsFor s rs → FitsNext (room_on s) rs r)
itself_fits s r p (Ok q) now told late plans book its = planned_fits s r p q r.input r.at now refl refl told late plans book its
itself_fits s r p (Err why) now told late plans book its = tt

pub itself_stops : (s : StoreNow) (r : Record) (p : Plan) (result : Result Plan Stop) → PlansOnBook s r.input r.at (Ok p) → IsPlanItself p result → IfErr result (StopsAt s r)
itself_stops s r p (Ok q) book its = tt
itself_stops s r p (Err stop.NotBehind) book its = clock_stops s r p its book
itself_stops s r p (Err stop.NoRoom) book its = absurd its
itself_stops s r p (Err stop.Disk) book its = absurd its
itself_stops s r p (Err stop.Memory) book its = absurd its
itself_stops s r p (Err stop.Device) book its = absurd its
itself_stops s r p (Err stop.Output) book its = absurd its

pub itself_alone : (p : Plan) (result : Result Plan Stop) → IsPlanItself p result → IfErr result (λ why. why ≢ stop.Disk)
itself_alone p (Ok q) its = tt
itself_alone p (Err stop.NotBehind) its = λ e. cc
itself_alone p (Err stop.NoRoom) its = absurd its
itself_alone p (Err stop.Disk) its = absurd its
itself_alone p (Err stop.Memory) its = absurd its
itself_alone p (Err stop.Device) its = absurd its
itself_alone p (Err stop.Output) its = absurd its

-- no answer blames the disk
pub told_alone : (a : Answer) → stop_told a ≢ stop.Disk
told_alone (answer.Full free need) = λ e. cc
told_alone answer.Spent = λ e. cc
told_alone (answer.Repeat token reply) = λ e. cc
told_alone (answer.Conflict token number) = λ e. cc
told_alone (answer.Late call how) = λ e. cc
told_alone (answer.UnknownCall call) = λ e. cc
told_alone (answer.Already number) = λ e. cc
told_alone (answer.UnknownNotice number) = λ e. cc
told_alone answer.Idle = λ e. cc
