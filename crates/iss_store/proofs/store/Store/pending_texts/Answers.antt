use Rattle.std.proofs.Common.{ap}
use Rattle.iss_opening.specs.Values.{StoreNow}
use Rattle.iss_store.proofs.Said.{pending_all}
use Rattle.iss_store.proofs.store.Store.pending_texts.Goals as goal

pub returns : goal.returns
returns c =
    pending_all c.args.self.now c.self.inside.core c.instance.result c.instance-2.result c.in_ok-asked.field-0.items c.deref.result.now c.in_ok-pending.field-0.items c.deref-2.result.now
    c.new-texts.result c.put_requests.new.texts c.put_notices.new.texts
    (ap (λ (s : StoreNow). s.core) c.self.view_is) c.instance.ensures c.instance-2.ensures c.in_ok-asked.ensures.value c.deref.ensures.value c.in_ok-pending.ensures.value c.deref-2.ensures.value
    c.new-texts.ensures c.in_ok-put_requests.ensures c.in_ok-put_notices.ensures
