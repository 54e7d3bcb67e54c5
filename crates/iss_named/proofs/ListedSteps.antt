-- What a step makes is of what is listed after it.
use Rattle.std.proofs.Common.{◌≡◌, ◌∙◌, ◌++◌, ◌&&◌, ap, ap₂, Bool, fold, List, refl, sym, true, ℕ}
use Rattle.std.specs.List.{list_all}
use Rattle.std.proofs.lemmas.List.Folds.{list_all-append}
use Rattle.std.proofs.lemmas.List.Sums.{fold-append}
use Rattle.iss_model.specs.declared.entry.Entry.{Entry}
use Rattle.iss_model.specs.declared.input.Input.{Input}
use Rattle.iss_model.specs.declared.input.Record.{Record}
use Rattle.iss_model.specs.rules.Due.{thing_entries}
use Rattle.iss_model.specs.rules.Stepping.{entries_of, step}
use Rattle.iss_model.specs.state.Cores.{CoreState, after_entry, core_facts, core_keeper, with_record}
use Rattle.iss_model.proofs.Lists.{all_weaker}
use Rattle.iss_acts.proofs.Stepping.{GoesThrough, step_leads}
use Rattle.iss_state.specs.Holdings.{IsHeldWell}
use Rattle.iss_state.specs.Pending.{HasTakenUp, IsWell}
use Rattle.iss_state.specs.Sound.{IsNewEvent}
use Rattle.iss_state.proofs.calls.Steps.{ready_settled, ready_taken}
use Rattle.iss_state.proofs.held.Steps.{thing_held}
use Rattle.iss_named.proofs.ListedEntries.{ListMore, due_listed, entries_list, is_of_listed, list_then, listed_later, lists_itself, own_listed}

-- What entries lead from one core to another: more is listed, and the entries are of what is listed then.
pub record LeadsListed (at : ℕ) (c : CoreState) (es : List Entry) (d : CoreState) : Type 0 where
  pub more : ListMore c d
  pub listed : list_all (is_of_listed d at) es ≡ true
  pub entered : d ≡ fold after_entry c es

-- a record was taken up, and all is held well
record IsReadyToList (i : Input) (c : CoreState) : Type 0 where
  taken : HasTakenUp c i
  held : IsHeldWell c

entered_leads : (at : ℕ) (c : CoreState) (es : List Entry) → list_all (is_of_listed (fold after_entry c es) at) es ≡ true → LeadsListed at c es (fold after_entry c es)
entered_leads at c es h = record { more = entries_list c es; listed = h; entered = refl }

both_lead : (at : ℕ) (c d e : CoreState) (xs ys : List Entry) → LeadsListed at c xs d → LeadsListed at d ys e → LeadsListed at c (xs ++ ys) e
both_lead at c d e xs ys first then =
    record {
      more = list_then first.more then.more;
      listed =
          list_all-append (is_of_listed e at) xs ys
          ∙ ap₂ (λ (a b : Bool). a && b) (all_weaker (is_of_listed d at) (is_of_listed e at) (listed_later d e at then.more) xs first.listed) then.listed;
      entered = then.entered ∙ ap (λ (x : CoreState). fold after_entry x ys) first.entered ∙ sym (fold-append after_entry c xs ys);
    }

goes : (i : Input) (at : ℕ) → GoesThrough (IsReadyToList i) (LeadsListed at) i at
goes i at =
    record {
      none = λ c. record { more = lists_itself c; listed = refl; entered = refl };
      then = both_lead at;
      due = λ c thing ready. entered_leads at c (thing_entries thing at (core_facts c)) (due_listed c thing at ready.held);
      own = λ c ready. entered_leads at c (entries_of i at (core_facts c)) (own_listed c i at ready.held);
      stays = λ c thing ready. record { taken = ready_settled c i thing at ready.taken; held = thing_held c i thing at ready.taken ready.held };
    }

pub step_listed_too : (c : CoreState) (r : Record) → IsNewEvent c r.input → IsWell c → IsHeldWell c → LeadsListed r.at (with_record c r) (step core_keeper c r).entries (step core_keeper c r).world
step_listed_too c r new well held = step_leads c r (goes r.input r.at) (record { taken = ready_taken c r well new; held = held })
