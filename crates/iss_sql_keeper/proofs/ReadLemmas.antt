-- What a column holds, as it is read.
use Rattle.std.proofs.Common.{◌≡◌, ℕ, pos, List, Option, Some, None, IfSome, sym, ap, ◌∙◌}
use Rattle.sqlite.specs.declared.types.Value.{Value}
use Rattle.sqlite.specs.declared.types.Value.TheVariants.{Null, Int, Text}
use Rattle.sqlite.specs.Order.{Row, column}
use Rattle.iss_model.specs.declared.currency.Currency.{Currency}
use Rattle.iss_model.specs.Numbers.{currency_numbered}
use Rattle.iss_archive.specs.declared.post.PostRow.{PostRow}
use Rattle.iss_sql_keeper.specs.Decoded.{number_in, text_in, currency_in, account_in, posting_shown}

pub number_read : (v : Value) (n : ℕ) → v ≡ Int (pos n) → n ≡ number_in v
number_read v n e = ap number_in (sym e)

pub text_read : (v : Value) (text : List ℕ) → Text text ≡ v → Some text ≡ text_in v
text_read v text e = ap text_in e

pub null_read : (v : Value) → Null ≡ v → None ≡ text_in v
null_read v e = ap text_in e

pub currency_read : (v : Value) (n : ℕ) (r : Option Currency) → n ≡ number_in v → r ≡ currency_numbered n → IfSome r (λ c. currency_in v ≡ Some c)
currency_read v n None e h = tt
currency_read v n (Some c) e h = ap currency_numbered (sym e) ∙ sym h

-- the posting whose parts are read is the one that is shown
pub posting_read : (r : Row) (p : PostRow) (currency : Currency) → currency_in (column r 7) ≡ Some currency → p.seq ≡ number_in (column r 0) → p.number ≡ number_in (column r 1)
    → p.at ≡ number_in (column r 2) → p.from ≡ account_in (number_in (column r 3)) (text_in (column r 4)) (Some currency)
    → p.to ≡ account_in (number_in (column r 5)) (text_in (column r 6)) (Some currency) → p.amount ≡ number_in (column r 8) → p.txn ≡ text_in (column r 9) → p ≡ posting_shown r
posting_read r p currency known seq number at from to amount txn =
    let payer : p.from ≡ account_in (number_in (column r 3)) (text_in (column r 4)) (currency_in (column r 7)) =
    from ∙ ap (λ (c : Option Currency). account_in (number_in (column r 3)) (text_in (column r 4)) c) (sym known) in
    let payee : p.to ≡ account_in (number_in (column r 5)) (text_in (column r 6)) (currency_in (column r 7)) =
    to ∙ ap (λ (c : Option Currency). account_in (number_in (column r 5)) (text_in (column r 6)) c) (sym known) in
    λ i. record { seq = seq i; number = number i; at = at i; from = payer i; to = payee i; amount = amount i; txn = txn i }
