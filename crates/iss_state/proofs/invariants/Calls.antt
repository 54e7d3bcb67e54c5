-- Calls are numbered one by one.
use Rattle.std.specs.Prelude.{None, Some}
use Rattle.std.proofs.Common.{Bool, List, [], arith, cond, false, fold, length, map, nat_eq, subst, sym, true, ℕ, ◌&&◌, ◌++◌, ◌+◌, ◌∷◌, ◌≡◌}
use Rattle.iss_model.specs.declared.call.How.{How}
use Rattle.iss_model.specs.declared.entry.Entry.{Entry}
use Rattle.iss_model.specs.declared.entry.Entry.TheVariants as entry
use Rattle.iss_model.specs.declared.input.Record.{Record}
use Rattle.iss_model.specs.Forms.{is_in_form}
use Rattle.iss_model.specs.rules.Activity.{CallNow, is_asked}
use Rattle.iss_model.specs.rules.Due.{DueItem, due_items, thing_entries}
use Rattle.iss_model.specs.rules.Keeper.{Growth}
use Rattle.iss_model.specs.rules.Stepping.{after_due, entries_of, settle, step}
use Rattle.iss_model.specs.state.Cores.{CoreState, after_entry, call_after_close, core_facts, core_keeper, with_record}
use Rattle.iss_state.specs.Needs.{AllFit, Fits}
use Rattle.iss_state.proofs.effects.Effects.{setting_calls}
use Rattle.iss_state.specs.Numbers.{CallsNumberedFrom}
use Rattle.iss_state.specs.Sound.{IsNewEvent, IsSoundAt}
use Rattle.iss_state.proofs.invariants.OwnEntries.{own_enters}
use Rattle.iss_state.proofs.invariants.Settled.{thing_enters, thing_settled}
use Rattle.iss_state.proofs.invariants.Steps.{ready_after_due, ready_with_record}

numbered_with_last : (n : ℕ) (cs : List CallNow) (c : CallNow) → CallsNumberedFrom n cs → c.opened.call.0 ≡ length cs + n → CallsNumberedFrom n (cs ++ c ∷ [])
numbered_with_last n [] c h e = (omega (arith, e), tt)
numbered_with_last n (d ∷ ds) c h e = (h.0, numbered_with_last (n + 1) ds c h.1 (omega (arith, e)))

numbered_after_close : (n k : ℕ) (how : How) (cs : List CallNow) → CallsNumberedFrom n cs → CallsNumberedFrom n (map (call_after_close k how) cs)
numbered_after_close n k how [] h = tt
numbered_after_close n k how (c ∷ cs) h = (by (nat_eq k c.opened.call.0 && is_asked c), numbered_after_close (n + 1) k how cs h.1)
  where
    by : (b : Bool) → (cond b (record c { how = Some how }) c).opened.call.0 ≡ n
    by true = h.0
    by false = h.0

-- an entry that fits leaves calls numbered
pub entry_numbered : (s : CoreState) (e : Entry) → Fits s e → CallsNumberedFrom 1 s.calls → CallsNumberedFrom 1 (after_entry s e).calls
entry_numbered s (entry.Conf i) fit h = subst (CallsNumberedFrom 1) (sym (setting_calls s i)) h
entry_numbered s (entry.Opened o) fit h = numbered_with_last 1 s.calls (record { opened = o; how = None }) h fit
entry_numbered s (entry.Closed call how) fit h = numbered_after_close 1 call.0 how s.calls h
entry_numbered s _ fit h = h

-- entries that fit, one after the other, leave calls numbered
pub entries_numbered : (s : CoreState) (es : List Entry) → AllFit s es → CallsNumberedFrom 1 s.calls → CallsNumberedFrom 1 (fold after_entry s es).calls
entries_numbered s [] fit h = h
entries_numbered s (e ∷ es) fit h = entries_numbered (after_entry s e) es fit.1 (entry_numbered s e fit.0 h)

-- what is due leaves them so
items_numbered : (n at : ℕ) (g : Growth CoreState) (items : List DueItem) → IsSoundAt n g.world → CallsNumberedFrom 1 g.world.calls → CallsNumberedFrom 1 (fold (settle core_keeper at) g items).world.calls
items_numbered n at g [] h numbered = numbered
items_numbered n at g (item ∷ items) h numbered =
    items_numbered n at (settle core_keeper at g item) items (thing_settled n g.world item.thing at h).sound
    (entries_numbered g.world (thing_entries item.thing at (core_facts g.world)) (thing_enters n g.world item.thing at h).fit numbered)

-- a step leaves calls numbered
pub step_numbered : (n : ℕ) (s : CoreState) (r : Record) → IsSoundAt n s → is_in_form r.input ≡ true → IsNewEvent s r.input → CallsNumberedFrom 1 s.calls → CallsNumberedFrom 1 (step core_keeper s r).world.calls
unfolding step
step_numbered n s r h form new numbered =
    let up = with_record s r in
    let due = (after_due core_keeper up r.at).world in
    let ready = ready_after_due n up r.input r.at (ready_with_record n s r h new) in
    entries_numbered due (entries_of r.input r.at (core_facts due)) (own_enters n due r.input r.at form ready).fit
    (items_numbered n r.at (record { world = up; entries = [] }) (due_items (core_facts up) r.at) (ready_with_record n s r h new).sound numbered)
