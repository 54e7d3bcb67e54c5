-- One more balance in the list.
use Rattle.std.proofs.Common.{◌≡◌, ℕ, ℤ, Bool, true, false, ◌&&◌, List, [], ◌∷◌, ◌++◌, map, refl, ap, ◌∙◌}
use Rattle.std.specs.List.{list_all}
use Rattle.iss_model.specs.declared.state.Saldo.{Saldo}
use Rattle.iss_ledger.specs.Saldos.{saldo_entry, is_named}

pub listed_more : (ss : List Saldo) (s : Saldo) (rest : List (List ℕ × ℤ)) → map saldo_entry (ss ++ s ∷ []) ++ rest ≡ map saldo_entry ss ++ saldo_entry s ∷ rest
listed_more [] s rest = refl
listed_more (x ∷ ss) s rest = ap (λ (es : List (List ℕ × ℤ)). saldo_entry x ∷ es) (listed_more ss s rest)

both : (a b : Bool) → (a && b) ≡ true → (a ≡ true) × (b ≡ true)
both true b h = (refl, h)
both false b h = cc

pub named_more : (ss : List Saldo) (s : Saldo) → list_all is_named ss ≡ true → is_named s ≡ true → list_all is_named (ss ++ s ∷ []) ≡ true
named_more [] s h e = ap (λ (b : Bool). b && true) e
named_more (x ∷ ss) s h e =
    let parts = both (is_named x) (list_all is_named ss) h in
    ap (λ (b : Bool). b && list_all is_named (ss ++ s ∷ [])) parts.0 ∙ named_more ss s parts.1 e
