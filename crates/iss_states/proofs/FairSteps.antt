-- A step keeps a fair state fair.
use Rattle.std.proofs.Common.{◌≡◌, ℕ, ℤ, pos, ◌≤ℤ◌, List, [], ◌∷◌, fold, ap, arith}
use Rattle.std.proofs.lemmas.Int.{ints}
use Rattle.std.specs.Prelude.{Option, unwrap_or}
use Rattle.std.specs.FinMap as finite
use Rattle.std.specs.Cmp.Lexicographic.{slice_cmp}
use Rattle.std.specs.Ordering.{nat_cmp}
use Rattle.iss_model.specs.declared.entry.Entry.{Entry}
use Rattle.iss_model.specs.declared.input.Record.{Record}
use Rattle.iss_model.specs.rules.Due.{DueItem, due_items, thing_entries}
use Rattle.iss_model.specs.rules.Keeper.{Growth}
use Rattle.iss_model.specs.rules.Stepping.{after_due, own_entries, settle, step}
use Rattle.iss_model.specs.state.Cores.{CoreState, core_facts, core_keeper, no_core, with_record}
use Rattle.iss_model.specs.state.Kept.{kept_at, nothing_kept}
use Rattle.iss_states.specs.Fairness.{IsFair}
use Rattle.iss_states.proofs.FairSums.{entries_fair, fair_leaves}
use Rattle.iss_states.proofs.FairActs.{thing_fair}
use Rattle.iss_states.proofs.FairRefunds.{own_leaves}

swept : (at : ℕ) (g : Growth CoreState) (items : List DueItem) → IsFair g.world → IsFair (fold (settle core_keeper at) g items).world
swept at g [] fair = fair
swept at g (item ∷ items) fair =
    let s : CoreState = g.world in
    let es : List Entry = thing_entries item.thing at (core_facts s) in
    swept at (settle core_keeper at g item) items (entries_fair s es (λ token. fair_leaves s token es fair (thing_fair token (core_facts s) item.thing at)))

pub step_fair : (s : CoreState) (r : Record) → IsFair s → IsFair (step core_keeper s r).world
unfolding step
step_fair s r fair =
    let up : CoreState = with_record s r in
    let due : Growth CoreState = after_due core_keeper up r.at in
    let before : IsFair due.world = swept r.at (record { world = up; entries = [] }) (due_items (core_facts up) r.at) (record { refunds = fair.refunds; holds = fair.holds }) in
    entries_fair due.world (own_entries r (core_facts due.world)) (λ token. own_leaves due.world token r.input r.at before)

none_kept : (key : List ℕ) → kept_at nothing_kept key ≡ pos 0
none_kept key = ap (λ (o : Option ℤ). unwrap_or o (pos 0)) (finite.get-empty (slice_cmp nat_cmp) key)

pub nothing_fair : IsFair no_core
nothing_fair = record { refunds = λ token. same (kept_at nothing_kept token); holds = λ token. zeros (none_kept _) (none_kept token) }
  where
    same : (x : ℤ) → x ≤ℤ x
    same x = omega (arith, ints)

    zeros : {x y : ℤ} → x ≡ pos 0 → y ≡ pos 0 → x ≤ℤ y
    zeros e f = omega (arith, ints, e, f)
