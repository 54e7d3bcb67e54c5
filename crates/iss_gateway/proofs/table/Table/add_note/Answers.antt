use Rattle.std.proofs.Common.{ℕ, List, [], ◌∷◌, ◌++◌, ℤ, ◌-ℤ◌, Option, refl, sym, subst, ap, ap₂, ◌∙◌}
use Rattle.std.specs.List.{list_any}
use Rattle.std.specs.Ordering.{nat_cmp}
use Rattle.std.specs.BTreeMap.{is_at}
use Rattle.iss_model.specs.Currencies.{iso_number}
use Rattle.iss_gateway.specs.declared.books.Note.{Note}
use Rattle.iss_gateway.specs.declared.books.Promise.{Promise}
use Rattle.iss_gateway.specs.declared.tokens.Known.{Known}
use Rattle.iss_gateway.specs.Tables.{AreIndexed, books_of, known_voided, undone_at, back_at}
use Rattle.iss_gateway.proofs.Indexed.{same_indexed, note_indexed, small_sums, taken_small, undone_low}
use Rattle.iss_gateway.proofs.table.Table.add_note.Goals as goal

pub returns-in_err-begin_voided-clause-indexed : goal.returns-in_err-begin_voided-clause-indexed
returns-in_err-begin_voided-clause-indexed c =
    let t = c.args.self.now in
    same_indexed (books_of t) t.tokens c.begin_voided.new.tokens t.numbers t.numbers t.sums t.sums c.requires.indexed c.begin_voided.ensures.same (λ number. refl) (λ k. refl)

pub returns-in_err-begin_note-clause-indexed : goal.returns-in_err-begin_note-clause-indexed
returns-in_err-begin_note-clause-indexed c =
    let t = c.args.self.now in
    same_indexed (books_of t) t.tokens c.begin_voided.new.tokens t.numbers t.numbers t.sums c.begin_note.new.sums c.requires.indexed c.begin_voided.ensures.same (λ number. refl)
    c.begin_note.ensures.same

pub returns-in_err-reserve-clause-indexed : goal.returns-in_err-reserve-clause-indexed
returns-in_err-reserve-clause-indexed c =
    let t = c.args.self.now in
    subst (λ (ns : List Note). AreIndexed (record { promises = t.promises.items; notes = ns }) c.begin_voided.new.tokens t.numbers c.begin_note.new.sums) (sym c.reserve.ensures.items)
    (same_indexed (books_of t) t.tokens c.begin_voided.new.tokens t.numbers t.numbers t.sums c.begin_note.new.sums c.requires.indexed c.begin_voided.ensures.same (λ number. refl)
    c.begin_note.ensures.same)

pub returns-in_err-insert-clause-indexed : goal.returns-in_err-insert-clause-indexed
returns-in_err-insert-clause-indexed c =
    let t = c.args.self.now in
    subst (λ (ns : List Note). AreIndexed (record { promises = t.promises.items; notes = ns }) c.begin_voided.new.tokens c.insert.new.self c.begin_note.new.sums) (sym c.reserve.ensures.items)
    (same_indexed (books_of t) t.tokens c.begin_voided.new.tokens t.numbers c.insert.new.self t.sums c.begin_note.new.sums c.requires.indexed c.begin_voided.ensures.same
    (λ number. ap (λ (ks : List ℕ). list_any (is_at (nat_cmp number)) ks) c.in_err-insert.ensures.err) c.begin_note.ensures.same)

pub take_undone-requires-clause-low : goal.take_undone-requires-clause-low
take_undone-requires-clause-low c =
    let t = c.args.self.now in
    undone_low (books_of t) t.tokens t.numbers t.sums c.args.note.now.token c.undone_by-undone.result c.requires.indexed c.undone_by-undone.ensures

pub take_undone-requires-clause-small : goal.take_undone-requires-clause-small
take_undone-requires-clause-small c =
    let t = c.args.self.now in
    small_sums (books_of t) t.tokens t.numbers t.sums c.begin_note.new.sums c.requires.indexed c.begin_note.ensures.same

pub take_back-requires-clause-small : goal.take_back-requires-clause-small
take_back-requires-clause-small c =
    let t = c.args.self.now in
    taken_small c.begin_note.new.sums c.take_undone.new.sums c.undone_by-undone.result
    (small_sums (books_of t) t.tokens t.numbers t.sums c.begin_note.new.sums c.requires.indexed c.begin_note.ensures.same)
    (undone_low (books_of t) t.tokens t.numbers t.sums c.args.note.now.token c.undone_by-undone.result c.requires.indexed c.undone_by-undone.ensures)
    c.take_undone.ensures.taken

pub returns-clause-indexed : goal.returns-clause-indexed
returns-clause-indexed c =
    let t = c.args.self.now in
    let n = c.args.note.now in
    subst (λ (ns : List Note). AreIndexed (record { promises = t.promises.items; notes = ns }) c.void.new.tokens c.insert.new.self c.take_back.new.sums)
    (sym (c.in_ok-push.ensures.items ∙ ap (λ (ns : List Note). ns ++ n ∷ []) c.reserve.ensures.items))
    (note_indexed (books_of t) n t.tokens c.void.new.tokens t.numbers c.insert.new.self t.sums c.take_back.new.sums c.requires.indexed c.requires.low c.requires.room
    (λ token. c.void.ensures token ∙ ap (λ (k : Known). known_voided n.token token k) (c.begin_voided.ensures.same token))
    (λ number. c.in_ok-insert.ensures.updates.0 number)
    (λ user currency. c.take_back.ensures user currency
    ∙ ap (λ (z : ℤ). z -ℤ back_at n user currency)
    (c.take_undone.ensures.taken user currency
    ∙ ap₂ (λ (z : ℤ) (o : Option Promise). z -ℤ undone_at o user currency) (c.begin_note.ensures.same (user, iso_number currency)) c.undone_by-undone.ensures)))
