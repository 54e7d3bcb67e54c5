use Rattle.std.proofs.Common.{◌≡◌, ◌-ℤ◌, Option, sym, subst}
use Rattle.iss_model.specs.Currencies.{iso_number}
use Rattle.iss_gateway.specs.declared.books.Promise.{Promise}
use Rattle.iss_gateway.specs.Tables.{sum_in, undone_at, is_low}
use Rattle.std.specs.Prelude.{IfSome, true}
use Rattle.iss_gateway.proofs.Trees.{taken_off, less_of_low}
use Rattle.iss_gateway.proofs.sums.take_undone.Goals as goal

pub returns-in-Some-clause-taken : goal.returns-in-Some-clause-taken
returns-in-Some-clause-taken c user currency =
    let low : is_low c.in-Some.promise.funded ≡ true = subst (λ (o : Option Promise). IfSome o (λ p. is_low p.funded ≡ true)) c.in-Some.is c.requires.low in
    subst (λ (o : Option Promise). sum_in c.add.new.sums (user, iso_number currency) ≡ sum_in c.args.sums.now (user, iso_number currency) -ℤ undone_at o user currency)
    (sym c.in-Some.is)
    (taken_off c.in-Some.promise c.user_key-user.result _ user currency (sum_in c.add.new.sums (user, iso_number currency)) (sum_in c.args.sums.now (user, iso_number currency))
    c.user_key-user.ensures (less_of_low c.amount.result c.in-Some.promise.funded c.amount.ensures low) (c.add.ensures.added (user, iso_number currency)))
