use Rattle.std.proofs.Common.{◌<◌, length, refl, sym, ap, ◌∙◌, arith, w64, to_z, of_z}
use Rattle.std.proofs.lemmas.Int.{to_z-of_z}
use Rattle.iss_velocity.specs.Counting.{at_place}
use Rattle.iss_velocity.proofs.Walks.{index_stands}
use Rattle.iss_velocity.proofs.Turning.{made_so, turned_so}
use Rattle.iss_velocity.proofs.counters.ready.Goals as goal

pub returns-in_default-clause-split : goal.returns-in_default-clause-split
returns-in_default-clause-split c =
    (made_so c.args.user.now c.args.number (to_z w64 (of_z w64 c.args.number)) c.args.list.now.items c.insert.new.self.items c.args.next c.args.place c.past_counter.result c.args.past.now c.requires.split
    (c.in_default.ensures ∙ c.counter_at.ensures ∙ ap (at_place c.args.place) c.deref.ensures.value) c.past_counter.ensures (to_z-of_z w64 c.args.number c.ranges.number) c.in_ok-insert.ensures.items).split

pub returns-in_default-clause-ready : goal.returns-in_default-clause-ready
returns-in_default-clause-ready c =
    (made_so c.args.user.now c.args.number (to_z w64 (of_z w64 c.args.number)) c.args.list.now.items c.insert.new.self.items c.args.next c.args.place c.past_counter.result c.args.past.now c.requires.split
    (c.in_default.ensures ∙ c.counter_at.ensures ∙ ap (at_place c.args.place) c.deref.ensures.value) c.past_counter.ensures (to_z-of_z w64 c.args.number c.ranges.number) c.in_ok-insert.ensures.items).ready

pub returns-in_default-clause-same : goal.returns-in_default-clause-same
returns-in_default-clause-same c =
    (made_so c.args.user.now c.args.number (to_z w64 (of_z w64 c.args.number)) c.args.list.now.items c.insert.new.self.items c.args.next c.args.place c.past_counter.result c.args.past.now c.requires.split
    (c.in_default.ensures ∙ c.counter_at.ensures ∙ ap (at_place c.args.place) c.deref.ensures.value) c.past_counter.ensures (to_z-of_z w64 c.args.number c.ranges.number) c.in_ok-insert.ensures.items).same

pub returns-in_default-clause-kept : goal.returns-in_default-clause-kept
returns-in_default-clause-kept c =
    (made_so c.args.user.now c.args.number (to_z w64 (of_z w64 c.args.number)) c.args.list.now.items c.insert.new.self.items c.args.next c.args.place c.past_counter.result c.args.past.now c.requires.split
    (c.in_default.ensures ∙ c.counter_at.ensures ∙ ap (at_place c.args.place) c.deref.ensures.value) c.past_counter.ensures (to_z-of_z w64 c.args.number c.ranges.number) c.in_ok-insert.ensures.items).kept

pub index_mut-requires : goal.index_mut-requires
index_mut-requires c =
    let below : c.args.next < length c.args.list.now.items =
    index_stands c.args.list.now.items c.args.next c.args.place c.requires.split c.in-Some.counter
    (sym (c.in-Some.ensures ∙ c.counter_at.ensures ∙ ap (at_place c.args.place) c.deref.ensures.value))
    in omega (arith, below, c.args.list.now.ok.0)

pub returns-clause-split : goal.returns-clause-split
returns-clause-split c =
    (turned_so c.args.user.now c.args.number (to_z w64 (of_z w64 c.args.number)) c.args.list.now.items _ c.args.next c.args.place c.in-Some.counter c.in_ok-turned.turned c.args.past.now c.turned.new.past c.requires.split
    (c.in-Some.ensures ∙ c.counter_at.ensures ∙ ap (at_place c.args.place) c.deref.ensures.value) c.in_ok-turned.ensures.turned (to_z-of_z w64 c.args.number c.ranges.number) refl).split

pub returns-clause-ready : goal.returns-clause-ready
returns-clause-ready c =
    (turned_so c.args.user.now c.args.number (to_z w64 (of_z w64 c.args.number)) c.args.list.now.items _ c.args.next c.args.place c.in-Some.counter c.in_ok-turned.turned c.args.past.now c.turned.new.past c.requires.split
    (c.in-Some.ensures ∙ c.counter_at.ensures ∙ ap (at_place c.args.place) c.deref.ensures.value) c.in_ok-turned.ensures.turned (to_z-of_z w64 c.args.number c.ranges.number) refl).ready

pub returns-clause-same : goal.returns-clause-same
returns-clause-same c =
    (turned_so c.args.user.now c.args.number (to_z w64 (of_z w64 c.args.number)) c.args.list.now.items _ c.args.next c.args.place c.in-Some.counter c.in_ok-turned.turned c.args.past.now c.turned.new.past c.requires.split
    (c.in-Some.ensures ∙ c.counter_at.ensures ∙ ap (at_place c.args.place) c.deref.ensures.value) c.in_ok-turned.ensures.turned (to_z-of_z w64 c.args.number c.ranges.number) refl).same

pub returns-clause-kept : goal.returns-clause-kept
returns-clause-kept c =
    (turned_so c.args.user.now c.args.number (to_z w64 (of_z w64 c.args.number)) c.args.list.now.items _ c.args.next c.args.place c.in-Some.counter c.in_ok-turned.turned c.args.past.now c.turned.new.past c.requires.split
    (c.in-Some.ensures ∙ c.counter_at.ensures ∙ ap (at_place c.args.place) c.deref.ensures.value) c.in_ok-turned.ensures.turned (to_z-of_z w64 c.args.number c.ranges.number) refl).kept
