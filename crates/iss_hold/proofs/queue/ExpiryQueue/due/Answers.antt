use Rattle.std.proofs.Common.{rules, ◌≡◌, ℕ, List, map, fold, ap, ◌∙◌}
use Rattle.std.specs.Prelude.{IfOk}
use Rattle.std.specs.BTreeMap as tree
use Rattle.std.proofs.lemmas.Result.{IfOk-weaker}
use Rattle.iss_model.specs.rules.Due.{txn_due}
use Rattle.iss_hold.specs.Expiries.{Expiry, live_ones, expiries, come_of, holds_come}
use Rattle.iss_hold.specs.Indexes.{put_expiry}
use Rattle.iss_hold.proofs.ExpiryOrder.{due_things}
use Rattle.iss_hold.proofs.ExpiriesKept.{late_rising}
use Rattle.iss_hold.proofs.Placed.{put_together}
use Rattle.iss_hold.proofs.queue.ExpiryQueue.due.Goals as goal

pub returns : goal.returns
returns c =
    let hs = c.args.holds.now in
    let o = c.requires.order in
    let entries : c.add_queued.new.due.entries ≡ come_of c.args.now (expiries hs) =
    c.in_ok-add_queued.ensures o.queued o.places
    ∙ ap (λ (es : List Expiry). fold put_expiry es (live_ones (holds_come c.args.now o.queued))) (c.in_ok-due.ensures o.others o.rest)
    ∙ put_together c.args.now hs o.queued o.others c.requires.once o.places.rising (late_rising o.rest) o.whole in
    let found : IfOk c.collect.result (λ v. v.items ≡ tree.values c.add_queued.new.due) = search rules in
    IfOk-weaker c.collect.result _ _
    (λ v e. ap (λ (tokens : List (List ℕ)). map (λ token. txn_due token) tokens) (e ∙ ap (λ (es : List Expiry). map (λ x. x.1) es) entries) ∙ due_things c.args.now hs)
    found
