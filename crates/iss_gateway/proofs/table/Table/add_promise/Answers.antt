use Rattle.std.proofs.Common.{rules, ◌≡◌, ℕ, List, ℤ, length, sym, subst, ap, ap₂, ◌∙◌}
use Rattle.iss_model.specs.Currencies.{iso_number}
use Rattle.iss_gateway.specs.declared.books.Promise.{Promise}
use Rattle.iss_gateway.specs.declared.tokens.Known.{Known}
use Rattle.iss_gateway.specs.Books.{amount_or_none}
use Rattle.iss_gateway.specs.Tables.{AreIndexed, books_of, known_placed, sum_in, sum_with}
use Rattle.iss_gateway.proofs.Indexed.{added_fits, low_bits, promise_indexed, small_sums}
use Rattle.iss_gateway.proofs.table.Table.add_promise.Goals as goal

pub add-requires-clause-fits : goal.add-requires-clause-fits
add-requires-clause-fits c =
    let t = c.args.self.now in
    added_fits c.begin_sum.new.sums c.user_key-user.result c.args.promise.now c.amount.result
    (small_sums (books_of t) t.tokens t.numbers t.sums c.begin_sum.new.sums c.requires.indexed c.begin_sum.ensures.same)
    c.user_key-user.ensures c.amount.ensures c.requires.low

pub returns-clause-indexed : goal.returns-clause-indexed
returns-clause-indexed c =
    let t = c.args.self.now in
    let p = c.args.promise.now in
    let place : c.len-place.result ≡ length t.promises.items = search rules in
    subst (λ (ps : List Promise). AreIndexed (record { promises = ps; notes = t.notes.items }) c.place_promise.new.tokens t.numbers c.add.new.sums) (sym c.in_ok-push.ensures.items)
    (promise_indexed (books_of t) p t.tokens c.place_promise.new.tokens t.numbers t.sums c.add.new.sums c.requires.indexed c.requires.first c.requires.clear c.requires.low c.requires.room
    (λ token. c.place_promise.ensures token ∙ ap₂ (λ (n : ℕ) (k : Known). known_placed p.token n token k) place (c.begin_token.ensures.same token))
    (λ k. c.add.ensures.added k
    ∙ ap₂ (λ (key : List ℕ × ℕ) (z : ℤ). sum_with key z k (sum_in c.begin_sum.new.sums k)) c.user_key-user.ensures (low_bits c.amount.result p.funded c.amount.ensures c.requires.low)
    ∙ ap (λ (z : ℤ). sum_with (p.user, iso_number p.currency) (amount_or_none p.funded) k z) (c.begin_sum.ensures.same k)))
