-- Two accounts with one key are one.
use Rattle.std.proofs.Common.{◌≡◌, ℕ, cond, ◌==◌, List, [], ◌∷◌, ◌++◌, length, map, take, drop, get_or, refl, sym, ap, ◌∙◌, arith, length-append}
use Rattle.std.proofs.Math.Seq.{take-append_seam, drop-append_seam}
use Rattle.iss_model.specs.declared.currency.Currency.{Currency}
use Rattle.iss_model.specs.declared.currency.Currency.TheVariants.{Usd, Eur, Gbp, Cad, Aud, Jpy, Kwd}
use Rattle.iss_model.specs.declared.account.Account.{Account}
use Rattle.iss_model.specs.declared.account.Account.TheVariants as account
use Rattle.iss_model.specs.Currencies.{iso_number}
use Rattle.iss_model.specs.Sums.{account_key}

-- the currency of a number
abbrev numbered : ℕ → Currency
numbered n =
    cond (n == 840) Usd (cond (n == 978) Eur (cond (n == 826) Gbp (cond (n == 124) Cad (cond (n == 36) Aud (cond (n == 392) Jpy Kwd)))))

numbered_is : (c : Currency) → numbered (iso_number c) ≡ c
numbered_is Usd = refl
numbered_is Eur = refl
numbered_is Gbp = refl
numbered_is Cad = refl
numbered_is Aud = refl
numbered_is Jpy = refl
numbered_is Kwd = refl

pub one_currency : (c d : Currency) → iso_number c ≡ iso_number d → c ≡ d
one_currency c d e = sym (numbered_is c) ∙ ap numbered e ∙ numbered_is d

-- the number at the end of a key
pub ends_apart : (u v : List ℕ) (m n : ℕ) → u ++ 0 ∷ m ∷ [] ≡ v ++ 0 ∷ n ∷ [] → (u ≡ v) × (m ≡ n)
ends_apart u v m n e =
    let sizes : length u ≡ length v =
    omega (arith, ap (λ (l : List ℕ). length l) e, length-append {A = ℕ} u (0 ∷ m ∷ []), length-append {A = ℕ} v (0 ∷ n ∷ [])) in
    let front : u ≡ v =
    sym (take-append_seam u (0 ∷ m ∷ []))
    ∙ ap (λ (l : List ℕ). take (length u) l) e
    ∙ ap (λ (k : ℕ). take k (v ++ 0 ∷ n ∷ [])) sizes
    ∙ take-append_seam v (0 ∷ n ∷ []) in
    let back : ◌≡◌ {A = List ℕ} (0 ∷ m ∷ []) (0 ∷ n ∷ []) =
    sym (drop-append_seam u (0 ∷ m ∷ []))
    ∙ ap (λ (l : List ℕ). drop (length u) l) e
    ∙ ap (λ (k : ℕ). drop k (v ++ 0 ∷ n ∷ [])) sizes
    ∙ drop-append_seam v (0 ∷ n ∷ []) in
    (front, ap (λ (l : List ℕ). get_or l 1 0) back)

-- the number of a key that has three
third : (l m : List ℕ) → l ≡ m → get_or l 2 0 ≡ get_or m 2 0
third l m e = ap (λ (x : List ℕ). get_or x 2 0) e

first_number : (l m : List ℕ) → l ≡ m → get_or l 0 0 ≡ get_or m 0 0
first_number l m e = ap (λ (x : List ℕ). get_or x 0 0) e

pub one_account : (a b : Account) → account_key a ≡ account_key b → a ≡ b
one_account (account.Gateway c) (account.Gateway d) e = ap account.Gateway (one_currency c d (third _ _ e))
one_account (account.Network c) (account.Network d) e = ap account.Network (one_currency c d (third _ _ e))
one_account (account.Programme c) (account.Programme d) e = ap account.Programme (one_currency c d (third _ _ e))
one_account (account.User user c) (account.User other d) e =
    let parts = ends_apart (4 ∷ user) (4 ∷ other) (iso_number c) (iso_number d) e in
    let names : user ≡ other = ap (λ (l : List ℕ). drop 1 l) parts.0 in
    let currencies : c ≡ d = one_currency c d parts.1 in
    λ i. account.User (names i) (currencies i)
one_account (account.Gateway c) (account.Network d) e = absurd (let h = first_number _ _ e in cc)
one_account (account.Gateway c) (account.Programme d) e = absurd (let h = first_number _ _ e in cc)
one_account (account.Gateway c) (account.User other d) e = absurd (let h = first_number _ _ e in cc)
one_account (account.Network c) (account.Gateway d) e = absurd (let h = first_number _ _ e in cc)
one_account (account.Network c) (account.Programme d) e = absurd (let h = first_number _ _ e in cc)
one_account (account.Network c) (account.User other d) e = absurd (let h = first_number _ _ e in cc)
one_account (account.Programme c) (account.Gateway d) e = absurd (let h = first_number _ _ e in cc)
one_account (account.Programme c) (account.Network d) e = absurd (let h = first_number _ _ e in cc)
one_account (account.Programme c) (account.User other d) e = absurd (let h = first_number _ _ e in cc)
one_account (account.User user c) (account.Gateway d) e = absurd (let h = first_number _ _ e in cc)
one_account (account.User user c) (account.Network d) e = absurd (let h = first_number _ _ e in cc)
one_account (account.User user c) (account.Programme d) e = absurd (let h = first_number _ _ e in cc)

pub same_accounts : (xs ys : List Account) → map account_key xs ≡ map account_key ys → xs ≡ ys
same_accounts [] [] e = refl
same_accounts [] (y ∷ ys) e = absurd (let h = ap (λ (l : List (List ℕ)). length l) e in cc)
same_accounts (x ∷ xs) [] e = absurd (let h = ap (λ (l : List (List ℕ)). length l) e in cc)
same_accounts (x ∷ xs) (y ∷ ys) e =
    let first : x ≡ y = one_account x y (ap (λ (l : List (List ℕ)). get_or l 0 []) e) in
    let rest : xs ≡ ys = same_accounts xs ys (ap (λ (l : List (List ℕ)). drop 1 l) e) in
    λ i. first i ∷ rest i
