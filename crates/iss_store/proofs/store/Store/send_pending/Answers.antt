use Rattle.std.proofs.Common.{◌≡◌, ℕ, List, [], ap, ◌∙◌}
use Rattle.std.specs.List.{flat_map}
use Rattle.iss_edge.specs.Outer.{outer_of}
use Rattle.iss_session.specs.Desks.{Waiter}
use Rattle.iss_opening.specs.Values.{StoreNow}
use Rattle.iss_store.specs.Serving.{tasks_by, tasks_pending, all_gone}
use Rattle.iss_store.proofs.Resumed.{told_resumed}
use Rattle.iss_store.proofs.store.Store.send_pending.Goals as goal

pub returns-clause-sends : goal.returns-clause-sends
returns-clause-sends g c =
    let s = c.args.self.now in
    let entries = c.deref.result.now in
    let instance : c.instance.result ≡ s.core.instance = c.instance.ensures ∙ ap (λ (s : StoreNow). s.core.instance) c.self.view_is in
    let tasks : flat_map (tasks_by c.instance.result c.new-nobody.result) entries ≡ tasks_pending s =
    ap (λ (n : ℕ). flat_map (tasks_by n c.new-nobody.result) entries) instance
    ∙ ap (λ (ws : List Waiter). flat_map (tasks_by s.core.instance ws) entries) c.new-nobody.ensures
    ∙ ap (flat_map (tasks_by s.core.instance [])) c.deref.ensures.value ∙ c.in_ok-entries.ensures.tasks in
    λ waiting.
    let sent =
    told_resumed s (flat_map (tasks_by c.instance.result c.new-nobody.result) entries) s.core.state.count (all_gone c.in_ok-gone.gone.items) c.in_ok-gone.field-0-1.items waiting
    (outer_of (g.E.Edge.told c.args.edge.now) (g.E.Edge.heard c.args.edge.now)) (outer_of (g.E.Edge.told c.send_entries.new.edge) (g.E.Edge.heard c.send_entries.new.edge)) tasks c.in_ok-gone.ensures.sends in
    record { sends = sent; part = tt; short = tt }
