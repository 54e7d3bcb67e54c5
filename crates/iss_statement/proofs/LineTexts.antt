-- The lines of a statement, piece by piece.
use Rattle.std.proofs.Common.{◌≡◌, ℕ, ℤ, List, [], ◌∷◌, ◌++◌, codes, decimal, Option, Some, None, sym, ap, ◌∙◌, append_assoc}
use Rattle.iss_model.specs.declared.currency.Currency.{Currency}
use Rattle.iss_model.specs.Amounts.{amount_text}
use Rattle.iss_model.specs.texts.Wordings.{with_text, with_number, line_of}
use Rattle.iss_archive.specs.declared.post.PostRow.{PostRow}
use Rattle.iss_archive.specs.Statable.{signed_amount}
use Rattle.iss_archive.specs.Statement.{account_text, other_side, balance_line, row_line, txn_members}
use Rattle.iss_statement.specs.Openings.{end_piece}

four : (a b c d : List ℕ) → a ++ b ++ c ++ d ≡ a ++ (b ++ (c ++ d))
four a b c d = append_assoc (a ++ b) c d ∙ append_assoc a b (c ++ d)

five : (a b c d e : List ℕ) → a ++ b ++ c ++ d ++ e ≡ a ++ (b ++ (c ++ (d ++ e)))
five a b c d e = append_assoc (a ++ b ++ c) d e ∙ four a b c (d ++ e)

-- what follows the name of a balance
of_balance : (b w : List ℕ) → b ++ (34 ∷ []) ++ (codes ",\"line\":\"" ++ (w ++ (34 ∷ []))) ++ (125 ∷ []) ++ (10 ∷ []) ≡ b ++ (codes "\",\"line\":\"" ++ (w ++ codes "\"}\n"))
of_balance b w =
    five b (34 ∷ []) (codes ",\"line\":\"" ++ (w ++ (34 ∷ []))) (125 ∷ []) (10 ∷ [])
    ∙ ap (λ (t : List ℕ). b ++ (codes "\",\"line\":\"" ++ t)) (append_assoc w (34 ∷ []) (codes "}\n"))

-- a line of two texts
two_texts : (b w : List ℕ) → (codes "{\"balance\":\"" ++ b) ++ (codes "\",\"line\":\"" ++ w) ++ codes "\"}\n" ≡ line_of (with_text (codes "balance") b ∷ with_text (codes "line") w ∷ [])
two_texts b w =
    ap (λ (t : List ℕ). codes "{\"balance\":\"" ++ t) (append_assoc b (codes "\",\"line\":\"" ++ w) (codes "\"}\n") ∙ sym (of_balance b w))

pub balance_text : (b w : List ℕ) (balance : ℤ) (c : Currency) → b ≡ amount_text balance c → (codes "{\"balance\":\"" ++ b) ++ (codes "\",\"line\":\"" ++ w) ++ codes "\"}\n" ≡ balance_line w balance c
unfolding balance_line
balance_text b w balance c is =
    two_texts b w ∙ ap (λ (t : List ℕ). line_of (with_text (codes "balance") t ∷ with_text (codes "line") w ∷ [])) is

-- the pieces of a row's line
abbrev pub pieces : List ℕ → List ℕ → List ℕ → List ℕ → List ℕ → List ℕ
pieces amount stamp side number end =
    (codes "{\"amount\":\"" ++ amount) ++ (codes "\",\"at\":" ++ stamp) ++ (codes ",\"other\":\"" ++ side) ++ (codes "\",\"record\":" ++ number) ++ end

-- what follows the name of an amount, with m after that of a record
of_amount : (a t o m : List ℕ) → a ++ (34 ∷ []) ++ (codes ",\"at\":" ++ (t ++ (codes ",\"other\":\"" ++ (o ++ (34 ∷ []) ++ (codes ",\"record\":" ++ m))))) ++ (125 ∷ []) ++ (10 ∷ [])
    ≡ a ++ (codes "\",\"at\":" ++ (t ++ (codes ",\"other\":\"" ++ (o ++ (codes "\",\"record\":" ++ (m ++ codes "}\n"))))))
of_amount a t o m =
    five a (34 ∷ []) (codes ",\"at\":" ++ (t ++ (codes ",\"other\":\"" ++ (o ++ (34 ∷ []) ++ (codes ",\"record\":" ++ m))))) (125 ∷ []) (10 ∷ [])
    ∙ ap (λ (l : List ℕ). a ++ (codes "\",\"at\":" ++ l)) (append_assoc t (codes ",\"other\":\"" ++ (o ++ (34 ∷ []) ++ (codes ",\"record\":" ++ m))) (codes "}\n"))
    ∙ ap (λ (l : List ℕ). a ++ (codes "\",\"at\":" ++ (t ++ (codes ",\"other\":\"" ++ l)))) (four o (34 ∷ []) (codes ",\"record\":" ++ m) (codes "}\n"))

-- a record's number, and the transaction after it
with_txn : (n x : List ℕ) → (n ++ (codes ",\"txn\":\"" ++ (x ++ (34 ∷ [])))) ++ codes "}\n" ≡ n ++ (codes ",\"txn\":\"" ++ (x ++ codes "\"}\n"))
with_txn n x =
    append_assoc n (codes ",\"txn\":\"" ++ (x ++ (34 ∷ []))) (codes "}\n")
    ∙ ap (λ (l : List ℕ). n ++ (codes ",\"txn\":\"" ++ l)) (append_assoc x (34 ∷ []) (codes "}\n"))

members : (a o : List ℕ) (t n : ℕ) (txn : Option (List ℕ)) → pieces a (decimal t) o (decimal n) (end_piece txn)
    ≡ line_of (with_text (codes "amount") a ∷ with_number (codes "at") t ∷ with_text (codes "other") o ∷ with_number (codes "record") n ∷ txn_members txn)
members a o t n None =
    ap (λ (l : List ℕ). codes "{\"amount\":\"" ++ l)
    (five a (codes "\",\"at\":" ++ decimal t) (codes ",\"other\":\"" ++ o) (codes "\",\"record\":" ++ decimal n) (codes "}\n")
    ∙ sym (of_amount a (decimal t) o (decimal n)))
members a o t n (Some x) =
    ap (λ (l : List ℕ). codes "{\"amount\":\"" ++ l)
    (five a (codes "\",\"at\":" ++ decimal t) (codes ",\"other\":\"" ++ o) (codes "\",\"record\":" ++ decimal n) ((codes ",\"txn\":\"" ++ x) ++ codes "\"}\n")
    ∙ ap (λ (l : List ℕ). a ++ (codes "\",\"at\":" ++ (decimal t ++ (codes ",\"other\":\"" ++ (o ++ (codes "\",\"record\":" ++ l)))))) (sym (with_txn (decimal n) x))
    ∙ sym (of_amount a (decimal t) o (decimal n ++ (codes ",\"txn\":\"" ++ (x ++ (34 ∷ []))))))

pub row_text : (u : List ℕ) (c : Currency) (row : PostRow) (a o : List ℕ) → a ≡ amount_text (signed_amount u c row) c → o ≡ account_text (other_side u c row)
    → pieces a (decimal row.at) o (decimal row.number) (end_piece row.txn) ≡ row_line u c row
unfolding row_line
row_text u c row a o is side =
    members a o row.at row.number row.txn
    ∙ (λ i.
    line_of
    (with_text (codes "amount") (is i) ∷ with_number (codes "at") row.at ∷ with_text (codes "other") (side i) ∷ with_number (codes "record") row.number ∷ txn_members row.txn))

-- a line in three pieces after nothing
pub in_three : (first second third line a b e : List ℕ) → first ≡ [] → second ≡ first ++ a → third ≡ second ++ b → line ≡ third ++ e → line ≡ a ++ b ++ e
in_three first second third line a b e none one two three = three ∙ ap (λ (t : List ℕ). t ++ e) (two ∙ ap (λ (t : List ℕ). t ++ b) (one ∙ ap (λ (t : List ℕ). t ++ a) none))
