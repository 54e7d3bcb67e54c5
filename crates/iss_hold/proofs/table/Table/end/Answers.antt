use Rattle.std.proofs.Common.{List, set, subst, sym, ap, ◌∙◌}
use Rattle.std.specs.Prelude.{Option, Some}
use Rattle.std.specs.Option.{option_map}
use Rattle.iss_hold.specs.declared.hold.Hold.{Hold}
use Rattle.iss_hold.specs.Indexes.{AreIndexed, AreInOrder, BeginsLive, names}
use Rattle.iss_hold.proofs.IndexesKept.{indexed_own, indexed_end}
use Rattle.iss_hold.proofs.ExpiriesKept.{in_order_end}
use Rattle.iss_hold.proofs.table.Table.end.Goals as goal

pub put-requires : goal.put-requires
put-requires c =
    ap (λ (o : Option Hold). option_map (λ h. h.txn) o) c.requires.there ∙ ap (λ (k : Hold). Some k.txn) (sym c.ended.ensures)

pub drop_ended-requires : goal.drop_ended-requires
drop_ended-requires c =
    let b = c.args.self.now in
    let put = c.put.ensures ∙ ap (λ (k : Hold). set b.holds c.args.place k) c.ended.ensures in
    subst (λ (ks : List Hold). AreInOrder ks b.expiries.places.items c.remove.new.self) (sym put)
    (in_order_end c.args.place c.args.hold.now c.requires.indexed.ordered c.requires.there c.requires.indexed.once c.remove.ensures.entries c.remove.ensures.ordered)

pub returns-clause-indexed : goal.returns-clause-indexed
returns-clause-indexed c =
    let b = c.args.self.now in
    let put = c.put.ensures ∙ ap (λ (k : Hold). set b.holds c.args.place k) c.ended.ensures in
    let e = c.drop_ended.new.self in
    subst (λ (ks : List Hold). AreIndexed ks (names ks) b.sums e.places.items e.late) (sym put)
    (indexed_own
    (indexed_end b.holds (names b.holds) b.sums b.expiries.places.items e.places.items b.expiries.late e.late c.args.place c.args.hold.now c.requires.indexed c.requires.there
    (subst (λ (ks : List Hold). AreInOrder ks e.places.items e.late) put c.drop_ended.ensures.order)
    (subst (λ (ks : List Hold). BeginsLive ks e.places.items) put c.drop_ended.ensures.first)))
