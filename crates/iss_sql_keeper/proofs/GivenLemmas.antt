-- The columns of a row, read again, are the row.
use Rattle.std.proofs.Common.{◌≡◌, ℕ, ℤ, pos, List, Option, Some, None, IfSome, option_map, refl, ap, ◌∙◌}
use Rattle.sqlite.specs.declared.types.Value.TheVariants.{Int}
use Rattle.iss_model.specs.declared.currency.Currency.{Currency}
use Rattle.iss_model.specs.declared.currency.Currency.TheVariants.{Usd, Eur, Gbp, Cad, Aud, Jpy, Kwd}
use Rattle.iss_model.specs.declared.account.Account.{Account}
use Rattle.iss_model.specs.declared.account.Account.TheVariants as account
use Rattle.iss_model.specs.Currencies.{iso_number}
use Rattle.iss_model.specs.Sums.{account_currency}
use Rattle.iss_archive.specs.declared.post.Head.{Head}
use Rattle.iss_archive.specs.declared.post.PostRow.{PostRow}
use Rattle.iss_tables.specs.declared.adding.PostColumns.{PostColumns}
use Rattle.iss_tables.specs.declared.adding.HeadColumns.{HeadColumns}
use Rattle.iss_tables.specs.Rows.{text_or_null}
use Rattle.iss_sql_keeper.specs.Decoded.{natural, text_in, currency_in, account_in, head_of}
use Rattle.iss_sql_keeper.specs.Given.{kind_of, user_of, AreColumnsOf, AreHeadColumnsOf, posting_given}

currency_back : (c : Currency) → currency_in (Int (pos (iso_number c))) ≡ Some c
currency_back Usd = refl
currency_back Eur = refl
currency_back Gbp = refl
currency_back Cad = refl
currency_back Aud = refl
currency_back Jpy = refl
currency_back Kwd = refl

text_back : (o : Option (List ℕ)) → text_in (text_or_null o) ≡ o
text_back None = refl
text_back (Some t) = refl

account_back : (a : Account) → account_in (natural (kind_of a)) (user_of a) (Some (account_currency a)) ≡ a
account_back (account.Gateway c) = refl
account_back (account.Network c) = refl
account_back (account.Programme c) = refl
account_back (account.User u c) = refl

-- the account that its columns give
account_is : (a : Account) (kind : ℤ) (user : Option (List ℕ)) (number : ℤ) → kind ≡ kind_of a → user ≡ user_of a → number ≡ pos (iso_number (account_currency a))
    → account_in (natural kind) (text_in (text_or_null user)) (currency_in (Int number)) ≡ a
account_is a kind user number k u n =
    let currency : currency_in (Int number) ≡ Some (account_currency a) = ap (λ (m : ℤ). currency_in (Int m)) n ∙ currency_back (account_currency a) in
    let text : text_in (text_or_null user) ≡ user_of a = text_back user ∙ u in
    ap (λ (c : Option Currency). account_in (natural kind) (text_in (text_or_null user)) c) currency
    ∙ ap (λ (t : Option (List ℕ)). account_in (natural kind) t (Some (account_currency a))) text
    ∙ ap (λ (m : ℤ). account_in (natural m) (user_of a) (Some (account_currency a))) k
    ∙ account_back a

pub posting_is : (row : PostRow) (p : PostColumns) → iso_number (account_currency row.from) ≡ iso_number (account_currency row.to) → AreColumnsOf row p → posting_given p ≡ row
posting_is row p one h =
    let from = account_is row.from p.from_kind (option_map (λ t. t.now) p.from_user) p.currency h.from_kind h.from_user h.currency in
    let to = account_is row.to p.to_kind (option_map (λ t. t.now) p.to_user) p.currency h.to_kind h.to_user (h.currency ∙ ap pos one) in
    let seq : natural p.seq ≡ row.seq = ap natural h.seq in
    let number : natural p.record_ ≡ row.number = ap natural h.record_ in
    let at : natural p.at ≡ row.at = ap natural h.at in
    let amount : natural p.amount ≡ row.amount = ap natural h.amount in
    let txn : text_in (text_or_null (option_map (λ t. t.now) p.txn)) ≡ row.txn = text_back _ ∙ h.txn in
    λ i. record { seq = seq i; number = number i; at = at i; from = from i; to = to i; amount = amount i; txn = txn i }

pub head_is : (head : Head) (c : HeadColumns) → AreHeadColumnsOf head c → head_of c ≡ head
head_is head c h =
    let instance : natural c.instance ≡ head.instance = ap natural h.instance in
    let records : natural c.records ≡ head.records = ap natural h.records in
    let posts : natural c.posts ≡ head.posts = ap natural h.posts in
    λ i. record { instance = instance i; records = records i; posts = posts i }

pub head_given : (head : Head) (o : Option HeadColumns) → IfSome o (AreHeadColumnsOf head) → IfSome o (λ c. head_of c ≡ head)
head_given head None h = tt
head_given head (Some c) h = head_is head c h
