use Rattle.std.proofs.Common.{◌≡◌, List, ℕ, refl, ap, ◌∙◌}
use Rattle.iss_velocity.specs.Counting.{Users, counters_at}
use Rattle.iss_velocity.proofs.Controlling.{controls_stay}
use Rattle.iss_velocity.proofs.Noting.{begun_used, on_any_err}
use Rattle.iss_velocity.proofs.NotedTable.{user_plain, is_begun, either, on_ok, on_err, stay_small, keyed_counted, keyed_same, controls_counted, controls_same}
use Rattle.iss_velocity.proofs.table.Table.note.Goals as goal

pub note-requires-clause-plain : goal.note-requires-clause-plain
note-requires-clause-plain c = user_plain c.args.self.now.users c.args.row.now.user c.in-Some.counters.now c.requires.keyed.keyed.users_plain c.in-Some.ensures.value

pub note-requires-clause-small : goal.note-requires-clause-small
note-requires-clause-small c =
    stay_small c.args.self.now c.args.groups.now c.args.row.now c.args.self.now.users c.in-Some.counters.now c.deref.result.now c.requires.keyed
    (λ u. refl) c.in-Some.ensures.value c.deref.ensures.value
    (user_plain c.args.self.now.users c.args.row.now.user c.in-Some.counters.now c.requires.keyed.keyed.users_plain c.in-Some.ensures.value) c.requires.small

pub returns-in-Some-clause-keyed : goal.returns-in-Some-clause-keyed
returns-in-Some-clause-keyed c =
    let w = c.get_mut.follows.holds c.note.new.self in
    let after = c.get_mut.follows.lender c.note.new.self in
    let written = w.3 (is_begun _ c.in-Some.counters.now c.in-Some.ensures.value) in
    either c.note.result
    (keyed_counted c.args.self.now c.args.groups.now c.args.row.now c.args.self.now.users after c.note.new.past c.in-Some.counters.now c.note.new.self c.deref.result.now
    c.requires.keyed (λ u. refl) c.in-Some.ensures.value written c.requires.keyed.keyed.users_plain w.1 w.4 c.deref.ensures.value)
    (keyed_same c.args.self.now c.args.groups.now c.args.row.now c.args.self.now.users after c.note.new.past c.in-Some.counters.now c.note.new.self c.deref.result.now
    c.requires.keyed (λ u. refl) c.in-Some.ensures.value written c.requires.keyed.keyed.users_plain w.1 w.4 c.deref.ensures.value)
    c.note.ensures.counted c.note.ensures.same

pub returns-in-Some-clause-noted : goal.returns-in-Some-clause-noted
returns-in-Some-clause-noted c =
    let w = c.get_mut.follows.holds c.note.new.self in
    let after = c.get_mut.follows.lender c.note.new.self in
    let written = w.3 (is_begun _ c.in-Some.counters.now c.in-Some.ensures.value) in
    on_ok c.note.result
    (controls_counted c.args.self.now c.args.groups.now c.args.row.now c.args.self.now.users after c.note.new.past c.in-Some.counters.now c.note.new.self c.deref.result.now
    c.requires.keyed (λ u. refl) c.in-Some.ensures.value written c.requires.keyed.keyed.users_plain w.1 w.4 c.deref.ensures.value
    (user_plain c.args.self.now.users c.args.row.now.user c.in-Some.counters.now c.requires.keyed.keyed.users_plain c.in-Some.ensures.value))
    c.note.ensures.counted

pub returns-in-Some-clause-refused : goal.returns-in-Some-clause-refused
returns-in-Some-clause-refused c =
    let w = c.get_mut.follows.holds c.note.new.self in
    let after = c.get_mut.follows.lender c.note.new.self in
    let written = w.3 (is_begun _ c.in-Some.counters.now c.in-Some.ensures.value) in
    on_err c.note.result
    (controls_same c.args.self.now c.args.groups.now c.args.row.now c.args.self.now.users after c.note.new.past c.in-Some.counters.now c.note.new.self c.deref.result.now
    c.requires.keyed (λ u. refl) c.in-Some.ensures.value written c.requires.keyed.keyed.users_plain w.1 w.4 c.deref.ensures.value)
    c.note.ensures.same

pub returns-in_err-begin-clause-refused : goal.returns-in_err-begin-clause-refused
returns-in_err-begin-clause-refused c =
    let same : (u : List ℕ) → counters_at c.begin.new.users u ≡ counters_at c.args.self.now.users u =
    λ u. c.in_err-begin.ensures.same u ∙ ap (λ (m : Users). counters_at m u) c.get_mut.follows.holds-at-none in
    on_any_err c.from_residual.result
    (controls_stay c.args.self.now.users c.begin.new.users c.args.self.now.past c.args.self.now.past c.args.self.now.controls.items c.requires.keyed.keyed
    (record { ordered = c.in_err-begin.ensures.ordered; users_plain = c.in_err-begin.ensures.plain; past_plain = c.requires.keyed.keyed.past_plain })
    (λ u p n h. begun_used c.args.self.now.users c.begin.new.users c.args.self.now.past same u p n))

pub note-requires-2-clause-small : goal.note-requires-2-clause-small
note-requires-2-clause-small c =
    let same : (u : List ℕ) → counters_at c.begin.new.users u ≡ counters_at c.args.self.now.users u =
    λ u. c.in_ok-begin.ensures.same u ∙ ap (λ (m : Users). counters_at m u) c.get_mut.follows.holds-at-none in
    stay_small c.args.self.now c.args.groups.now c.args.row.now c.begin.new.users c.in-Some-get_mut.counters.now c.deref-2.result.now c.requires.keyed
    same c.in-Some-get_mut.ensures.value c.deref-2.ensures.value c.in_ok-begin.ensures.name c.requires.small

pub returns-in_err-note-clause-keyed : goal.returns-in_err-note-clause-keyed
returns-in_err-note-clause-keyed c =
    let w = c.get_mut-2.follows.holds c.note-2.new.self in
    let same : (u : List ℕ) → counters_at c.begin.new.users u ≡ counters_at c.args.self.now.users u =
    λ u. c.in_ok-begin.ensures.same u ∙ ap (λ (m : Users). counters_at m u) c.get_mut.follows.holds-at-none in
    keyed_same c.args.self.now c.args.groups.now c.args.row.now c.begin.new.users (c.get_mut-2.follows.lender c.note-2.new.self) c.note-2.new.past
    c.in-Some-get_mut.counters.now c.note-2.new.self c.deref-2.result.now c.requires.keyed same c.in-Some-get_mut.ensures.value
    (w.3 c.in_ok-begin.ensures.stands) c.in_ok-begin.ensures.plain w.1 w.4 c.deref-2.ensures.value c.in_err-note.ensures.same

pub returns-in_err-note-clause-refused : goal.returns-in_err-note-clause-refused
returns-in_err-note-clause-refused c =
    let w = c.get_mut-2.follows.holds c.note-2.new.self in
    let same : (u : List ℕ) → counters_at c.begin.new.users u ≡ counters_at c.args.self.now.users u =
    λ u. c.in_ok-begin.ensures.same u ∙ ap (λ (m : Users). counters_at m u) c.get_mut.follows.holds-at-none in
    on_any_err _
    (controls_same c.args.self.now c.args.groups.now c.args.row.now c.begin.new.users (c.get_mut-2.follows.lender c.note-2.new.self) c.note-2.new.past
    c.in-Some-get_mut.counters.now c.note-2.new.self c.deref-2.result.now c.requires.keyed same c.in-Some-get_mut.ensures.value
    (w.3 c.in_ok-begin.ensures.stands) c.in_ok-begin.ensures.plain w.1 w.4 c.deref-2.ensures.value c.in_err-note.ensures.same)

pub returns-clause-keyed : goal.returns-clause-keyed
returns-clause-keyed c =
    let w = c.get_mut-2.follows.holds c.note-2.new.self in
    let same : (u : List ℕ) → counters_at c.begin.new.users u ≡ counters_at c.args.self.now.users u =
    λ u. c.in_ok-begin.ensures.same u ∙ ap (λ (m : Users). counters_at m u) c.get_mut.follows.holds-at-none in
    keyed_counted c.args.self.now c.args.groups.now c.args.row.now c.begin.new.users (c.get_mut-2.follows.lender c.note-2.new.self) c.note-2.new.past
    c.in-Some-get_mut.counters.now c.note-2.new.self c.deref-2.result.now c.requires.keyed same c.in-Some-get_mut.ensures.value
    (w.3 c.in_ok-begin.ensures.stands) c.in_ok-begin.ensures.plain w.1 w.4 c.deref-2.ensures.value c.in_ok-note.ensures.counted

pub returns-clause-noted : goal.returns-clause-noted
returns-clause-noted c =
    let w = c.get_mut-2.follows.holds c.note-2.new.self in
    let same : (u : List ℕ) → counters_at c.begin.new.users u ≡ counters_at c.args.self.now.users u =
    λ u. c.in_ok-begin.ensures.same u ∙ ap (λ (m : Users). counters_at m u) c.get_mut.follows.holds-at-none in
    controls_counted c.args.self.now c.args.groups.now c.args.row.now c.begin.new.users (c.get_mut-2.follows.lender c.note-2.new.self) c.note-2.new.past
    c.in-Some-get_mut.counters.now c.note-2.new.self c.deref-2.result.now c.requires.keyed same c.in-Some-get_mut.ensures.value
    (w.3 c.in_ok-begin.ensures.stands) c.in_ok-begin.ensures.plain w.1 w.4 c.deref-2.ensures.value c.in_ok-begin.ensures.name c.in_ok-note.ensures.counted
