use Rattle.std.specs.Prelude.{Option}
use Rattle.iss_chain.specs.declared.sums.PostSums.{PostSums}
use Rattle.std.proofs.Common.{List, length, sym, ap, subst, ◌∙◌}
use Rattle.iss_model.specs.state.Kept.{Kept}
use Rattle.iss_chain.specs.Values.{ChainNow}
use Rattle.iss_chain.specs.Entering.{IsChainSmall}
use Rattle.iss_chain.specs.Rows.{row_in, row_sums, rows_in, AreBooksKept}
use Rattle.iss_chain.proofs.Standing.{found, unknown, never}
use Rattle.iss_chain.proofs.RowSums.{row_small, row_small_after}
use Rattle.iss_chain.proofs.RowPlaces.{sums_there}
use Rattle.iss_chain.proofs.Entered.{roomy_kept, counted_in, put_after}
use Rattle.iss_chain.proofs.books.Books.post_for.Goals as goal

pub unreachable-requires : goal.unreachable-requires
unreachable-requires c =
    never _ (unknown c.args.txn.now c.args.self.now.holds.txns (sym c.place.ensures.place ∙ c.in-None.is)) c.requires.known

pub returns-in_err-make_room-in-Some-clause-kept : goal.returns-in_err-make_room-in-Some-clause-kept
returns-in_err-make_room-in-Some-clause-kept c =
    let b = c.args.self.now in
    let there = found c.args.txn.now b.holds.txns c.in-Some.place (sym c.in-Some.ensures.place) in
    roomy_kept b c.make_room.new.sums c.in-Some.place c.requires.kept there.within c.make_room.ensures.same c.make_room.ensures.later

pub returns-in_err-post-in-Some-clause-kept : goal.returns-in_err-post-in-Some-clause-kept
returns-in_err-post-in-Some-clause-kept c =
    let b = c.args.self.now in
    let there = found c.args.txn.now b.holds.txns c.in-Some.place (sym c.in-Some.ensures.place) in
    let kept = roomy_kept b c.make_room.new.sums c.in-Some.place c.requires.kept there.within c.make_room.ensures.same c.make_room.ensures.later in
    subst (λ (x : Kept). AreBooksKept (record b { ledger = x; sums = c.make_room.new.sums })) (sym c.in_err-post-in-Some.ensures.unchanged) kept

pub after-sums-requires-clause-before : goal.after-sums-requires-clause-before
after-sums-requires-clause-before c =
    let b = c.args.self.now in
    let there = found c.args.txn.now b.holds.txns c.in-Some.place (sym c.in-Some.ensures.place) in
    let row = sums_there (row_in b.sums.items) (length b.holds.txns) c.in-Some.place c.sums_of.result there.within (c.sums_of.ensures ∙ ap (λ (rows : List (Option PostSums)). row_sums (row_in rows c.in-Some.place)) c.deref.ensures.value ∙ ap row_sums (c.make_room.ensures.same c.in-Some.place)) in
    row_small b.holds.txns (rows_in b) c.in-Some.place c.args.txn.now c.sums_of.result c.in-Some.ensures.once there.name_there (sym row) c.requires.kept.small.txn_sums

pub after-sums-requires-clause-after : goal.after-sums-requires-clause-after
after-sums-requires-clause-after c =
    let b = c.args.self.now in
    let there = found c.args.txn.now b.holds.txns c.in-Some.place (sym c.in-Some.ensures.place) in
    let row = sums_there (row_in b.sums.items) (length b.holds.txns) c.in-Some.place c.sums_of.result there.within (c.sums_of.ensures ∙ ap (λ (rows : List (Option PostSums)). row_sums (row_in rows c.in-Some.place)) c.deref.ensures.value ∙ ap row_sums (c.make_room.ensures.same c.in-Some.place)) in
    row_small_after b.holds.txns (rows_in b) c.in-Some.place c.args.txn.now c.sums_of.result c.args.from.now c.args.to.now c.args.amount c.in-Some.ensures.once there.name_there (sym row) c.requires.small.txn_sums

pub returns-clause-entered : goal.returns-clause-entered
returns-clause-entered c =
    let b = c.args.self.now in
    let there = found c.args.txn.now b.holds.txns c.in-Some.place (sym c.in-Some.ensures.place) in
    let row = sums_there (row_in b.sums.items) (length b.holds.txns) c.in-Some.place c.sums_of.result there.within (c.sums_of.ensures ∙ ap (λ (rows : List (Option PostSums)). row_sums (row_in rows c.in-Some.place)) c.deref.ensures.value ∙ ap row_sums (c.make_room.ensures.same c.in-Some.place)) in
    counted_in b c.post.new.self c.make_room.new.sums c.set_sums.new.sums c.in-Some.place c.args.txn.now c.sums_of.result c.after-sums.result c.args.from.now c.args.to.now c.args.amount
    c.make_room.ensures.same c.set_sums.ensures c.after-sums.ensures there.within there.name_there row c.in_ok-post-in-Some.ensures.posted

pub returns-clause-kept : goal.returns-clause-kept
returns-clause-kept c =
    let b = c.args.self.now in
    let there = found c.args.txn.now b.holds.txns c.in-Some.place (sym c.in-Some.ensures.place) in
    let row = sums_there (row_in b.sums.items) (length b.holds.txns) c.in-Some.place c.sums_of.result there.within (c.sums_of.ensures ∙ ap (λ (rows : List (Option PostSums)). row_sums (row_in rows c.in-Some.place)) c.deref.ensures.value ∙ ap row_sums (c.make_room.ensures.same c.in-Some.place)) in
    let entered =
    counted_in b c.post.new.self c.make_room.new.sums c.set_sums.new.sums c.in-Some.place c.args.txn.now c.sums_of.result c.after-sums.result c.args.from.now c.args.to.now c.args.amount
    c.make_room.ensures.same c.set_sums.ensures c.after-sums.ensures there.within there.name_there row c.in_ok-post-in-Some.ensures.posted in
    record {
      none_after = put_after b c.make_room.new.sums c.set_sums.new.sums c.in-Some.place c.after-sums.result c.requires.kept there.within c.make_room.ensures.later c.set_sums.ensures;
      small = subst (λ (x : ChainNow). IsChainSmall x) (sym entered) c.requires.small;
    }
