-- The lines of a report, piece by piece.
use Rattle.std.proofs.Common.{◌≡◌, ℕ, ℤ, List, [], ◌∷◌, ◌++◌, codes, decimal, Result, OnOk, sym, ap, ◌∙◌, append_assoc}
use Rattle.std.proofs.lemmas.Result.{on_ok_weaker}
use Rattle.iss_model.specs.declared.account.Account.{Account}
use Rattle.iss_model.specs.declared.account.Account.TheVariants as account
use Rattle.iss_model.specs.Currencies.{currency_code}
use Rattle.iss_model.specs.Amounts.{amount_text}
use Rattle.iss_model.specs.rules.Facts.{Facts}
use Rattle.iss_model.specs.texts.Wordings.{line_of}
use Rattle.iss_model.specs.texts.BalanceLines.{sheet_members, account_line, count_line}
use Rattle.iss_model.specs.Sums.{account_currency}
use Rattle.iss_event.specs.ReportLines.{balance_members, balance_text, counts_text, IsShown, AreCounts, account_piece, counts_piece}
use Rattle.iss_event.proofs.Lines.{four, quoted}

-- pieces in a row
in_a_row : (a n b t c d q : List ℕ) → (a ++ (n ++ b)) ++ (t ++ (c ++ d)) ++ q ≡ a ++ (n ++ (b ++ (t ++ (c ++ (d ++ q)))))
in_a_row a n b t c d q =
    append_assoc (a ++ (n ++ b)) (t ++ (c ++ d)) q
    ∙ ap (λ (r : List ℕ). (a ++ (n ++ b)) ++ r) (append_assoc t (c ++ d) q ∙ ap (λ (r : List ℕ). t ++ r) (append_assoc c d q))
    ∙ append_assoc a (n ++ b) (t ++ (c ++ (d ++ q)))
    ∙ ap (λ (r : List ℕ). a ++ r) (append_assoc n b (t ++ (c ++ (d ++ q))))

-- the end of a line of texts
ended : (d : List ℕ) → d ++ (34 ∷ []) ++ codes "}\n" ≡ d ++ codes "\"}\n"
ended d = append_assoc d (34 ∷ []) (codes "}\n")

-- a line of an account, with x after the name of its currency's member
sheet : (n t x : List ℕ) → n ++ (34 ∷ []) ++ (codes ",\"balance\":\"" ++ (t ++ (34 ∷ []) ++ (codes ",\"currency\":\"" ++ x))) ++ (125 ∷ []) ++ (10 ∷ [])
    ≡ n ++ (codes "\",\"balance\":\"" ++ (t ++ (codes "\",\"currency\":\"" ++ (x ++ codes "}\n"))))
sheet n t x =
    quoted n (codes ",\"balance\":\"" ++ (t ++ (34 ∷ []) ++ (codes ",\"currency\":\"" ++ x)))
    ∙ ap (λ (r : List ℕ). n ++ (codes "\",\"balance\":\"" ++ r)) (four t (34 ∷ []) (codes ",\"currency\":\"" ++ x) (codes "}\n"))

-- an account that is no user's
plain_sheet : (n t d : List ℕ) → codes "{\"account\":\"" ++ (n ++ (34 ∷ []) ++ (codes ",\"balance\":\"" ++ (t ++ (34 ∷ []) ++ (codes ",\"currency\":\"" ++ (d ++ (34 ∷ []))))) ++ (125 ∷ []) ++ (10 ∷ []))
    ≡ (codes "{\"account\":\"" ++ (n ++ codes "\",\"balance\":\"")) ++ (t ++ (codes "\",\"currency\":\"" ++ d)) ++ codes "\"}\n"
plain_sheet n t d =
    ap (λ (r : List ℕ). codes "{\"account\":\"" ++ r)
    (sheet n t (d ++ (34 ∷ [])) ∙ ap (λ (r : List ℕ). n ++ (codes "\",\"balance\":\"" ++ (t ++ (codes "\",\"currency\":\"" ++ r)))) (ended d))
    ∙ sym (in_a_row (codes "{\"account\":\"") n (codes "\",\"balance\":\"") t (codes "\",\"currency\":\"") d (codes "\"}\n"))

-- what follows the currency of a user's account
held_by : (d h u : List ℕ) → d ++ (34 ∷ []) ++ (codes ",\"held\":\"" ++ (h ++ (34 ∷ []) ++ (codes ",\"user\":\"" ++ (u ++ (34 ∷ []))))) ++ codes "}\n"
    ≡ d ++ ((codes "\",\"held\":\"" ++ (h ++ codes "\",\"user\":\"")) ++ (u ++ codes "\"}\n"))
held_by d h u =
    four d (34 ∷ []) (codes ",\"held\":\"" ++ (h ++ (34 ∷ []) ++ (codes ",\"user\":\"" ++ (u ++ (34 ∷ []))))) (codes "}\n")
    ∙ ap (λ (r : List ℕ). d ++ (codes "\",\"held\":\"" ++ r))
    (four h (34 ∷ []) (codes ",\"user\":\"" ++ (u ++ (34 ∷ []))) (codes "}\n") ∙ ap (λ (r : List ℕ). h ++ (codes "\",\"user\":\"" ++ r)) (ended u))
    ∙ ap (λ (r : List ℕ). d ++ (codes "\",\"held\":\"" ++ r)) (sym (append_assoc h (codes "\",\"user\":\"") (u ++ codes "\"}\n")))

user_sheet : (n t d h u : List ℕ) → codes "{\"account\":\"" ++ (n ++ (34 ∷ []) ++ (codes ",\"balance\":\"" ++ (t ++ (34 ∷ []) ++ (codes ",\"currency\":\""
    ++ (d ++ (34 ∷ []) ++ (codes ",\"held\":\"" ++ (h ++ (34 ∷ []) ++ (codes ",\"user\":\"" ++ (u ++ (34 ∷ []))))))))) ++ (125 ∷ []) ++ (10 ∷ []))
    ≡ (codes "{\"account\":\"" ++ (n ++ codes "\",\"balance\":\"")) ++ (t ++ (codes "\",\"currency\":\"" ++ d)) ++ ((codes "\",\"held\":\"" ++ (h ++ codes "\",\"user\":\"")) ++ (u ++ codes "\"}\n"))
user_sheet n t d h u =
    ap (λ (r : List ℕ). codes "{\"account\":\"" ++ r)
    (sheet n t (d ++ (34 ∷ []) ++ (codes ",\"held\":\"" ++ (h ++ (34 ∷ []) ++ (codes ",\"user\":\"" ++ (u ++ (34 ∷ []))))))
    ∙ ap (λ (r : List ℕ). n ++ (codes "\",\"balance\":\"" ++ (t ++ (codes "\",\"currency\":\"" ++ r)))) (held_by d h u))
    ∙ sym (in_a_row (codes "{\"account\":\"") n (codes "\",\"balance\":\"") t (codes "\",\"currency\":\"") d ((codes "\",\"held\":\"" ++ (h ++ codes "\",\"user\":\"")) ++ (u ++ codes "\"}\n")))

-- the line of an account is its pieces, with the amounts as texts
pub account_text : (a : Account) (balance held : ℤ) → account_piece a (amount_text balance (account_currency a)) (amount_text held (account_currency a)) ≡ balance_text a balance held
unfolding balance_text
account_text (account.Gateway c) balance held = sym (plain_sheet (codes "gateway") (amount_text balance c) (currency_code c))
account_text (account.Network c) balance held = sym (plain_sheet (codes "network") (amount_text balance c) (currency_code c))
account_text (account.Programme c) balance held = sym (plain_sheet (codes "programme") (amount_text balance c) (currency_code c))
account_text (account.User user c) balance held = sym (user_sheet (codes "user") (amount_text balance c) (currency_code c) (amount_text held c) user)

-- two pieces, one after the other
pub then_put : {T E : Type 0} (r : Result T E) (old mid new y x : List ℕ) → mid ≡ old ++ y → OnOk r (new ≡ mid ++ x) → OnOk r (new ≡ old ++ (y ++ x))
then_put r old mid new y x is = on_ok_weaker r (λ (e : new ≡ mid ++ x). e ∙ ap (λ (t : List ℕ). t ++ x) is ∙ append_assoc old y x)

-- three of them
pub then_both : {T E : Type 0} (r : Result T E) (old mid last new y x z : List ℕ) → mid ≡ old ++ y → last ≡ mid ++ x → OnOk r (new ≡ last ++ z) → OnOk r (new ≡ old ++ (y ++ (x ++ z)))
then_both r old mid last new y x z is more =
    on_ok_weaker r (λ (e : new ≡ last ++ z).
    e ∙ ap (λ (t : List ℕ). t ++ z) (more ∙ ap (λ (t : List ℕ). t ++ x) is) ∙ four old y x z)

-- a whole line, from pieces after nothing
pub whole : (new old piece text : List ℕ) → old ≡ [] → new ≡ old ++ piece → piece ≡ text → new ≡ text
whole new old piece text none is same = is ∙ ap (λ (t : List ℕ). t ++ piece) none ∙ same

-- ---- counts

pub counts : (calls notices records : ℕ) → counts_text calls notices records ≡ counts_piece calls notices records
unfolding counts_text
counts calls notices records =
    let a = decimal calls in
    let b = decimal notices in
    let c = decimal records in
    ap (λ (r : List ℕ). codes "{\"calls\":" ++ r)
    (four a (codes ",\"notices\":" ++ (b ++ (codes ",\"records\":" ++ c))) (125 ∷ []) (10 ∷ [])
    ∙ ap (λ (r : List ℕ). a ++ (codes ",\"notices\":" ++ r)) (append_assoc b (codes ",\"records\":" ++ c) (codes "}\n"))
    ∙ sym (append_assoc a (codes ",\"notices\":") (b ++ (codes ",\"records\":" ++ (c ++ codes "}\n")))))

-- ---- as the report has them

pub account_as : (f : Facts) (a : Account) (balance held : ℤ) → IsShown f a balance held → balance_text a balance held ≡ account_line f a
unfolding balance_text account_line
account_as f (account.Gateway currency) balance held is = ap (λ (b : ℤ). line_of (sheet_members (codes "gateway") b currency)) is
account_as f (account.Network currency) balance held is = ap (λ (b : ℤ). line_of (sheet_members (codes "network") b currency)) is
account_as f (account.Programme currency) balance held is = ap (λ (b : ℤ). line_of (sheet_members (codes "programme") b currency)) is
account_as f (account.User user currency) balance held is = λ i. line_of (balance_members (account.User user currency) (is.0 i) (is.1 i))

pub counts_as : (f : Facts) (calls notices records : ℕ) → AreCounts f calls notices records → counts_text calls notices records ≡ count_line f
unfolding counts_text count_line
counts_as f calls notices records are = λ i. counts_text (are.calls_open i) (are.notices_pending i) (are.records_made i)
