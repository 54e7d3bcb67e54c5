use Rattle.std.proofs.Common.{rules, FitsSigned, to_z-of_z, w64, ◌≡◌, true, ℕ, ℤ, ◌++◌, ◌∷◌, [], List, map, ap, subst, sym, refl, ◌∙◌}
use Rattle.std.specs.List.{list_all}
use Rattle.std.specs.FinMap as finite
use Rattle.iss_model.specs.declared.state.Saldo.{Saldo}
use Rattle.iss_model.specs.state.Kept.{Kept}
use Rattle.iss_ledger.specs.Saldos.{saldo_entry, is_named}
use Rattle.iss_ledger.proofs.TreeSums.{entries_in}
use Rattle.iss_ledger.proofs.Listed.{listed_more, named_more}
use Rattle.iss_ledger.proofs.ledger.Ledger.balances.Goals as goal

pub loop-key-init : goal.loop-key-init
loop-key-init c =
    record {
      listed =
          ap (λ (ss : List Saldo). map saldo_entry ss ++ c.into_iter-key-iterator.result) c.new-balances.ensures.items
          ∙ c.into_iter-key-iterator.ensures.into_iter_gives ∙ c.iter-key-items.ensures.rest
          ∙ sym (entries_in c.self.inside.balances c.self.invariant.0)
          ∙ ap (λ (sums : Kept). finite.entries sums) c.self.view_is;
      named = ap (λ (ss : List Saldo). list_all is_named ss) c.new-balances.ensures.items;
    }

pub loop-key-preserved : goal.loop-key-preserved
loop-key-preserved c =
    let ss = c.loop-key.balances.items in
    let fits : FitsSigned w64 c.in-Some.amount.now = search rules in
    record {
      listed =
          ap (λ (xs : List Saldo). map saldo_entry xs ++ c.next.new.self) c.in_ok-push.ensures.items
          ∙ listed_more ss c.with_balance.result c.next.new.self
          ∙ ap (λ (e : List ℕ × ℤ). map saldo_entry ss ++ e ∷ c.next.new.self) c.with_balance.ensures.entry
          ∙ ap (λ (z : ℤ). map saldo_entry ss ++ (c.in-Some.key.now, z) ∷ c.next.new.self) (to_z-of_z fits)
          ∙ ap (λ (es : List (List ℕ × ℤ)). map saldo_entry ss ++ es) (sym c.in-Some.ensures.steps)
          ∙ c.loop-key.invariant.listed;
      named =
          ap (λ (xs : List Saldo). list_all is_named xs) c.in_ok-push.ensures.items
          ∙ named_more ss c.with_balance.result c.loop-key.invariant.named c.with_balance.ensures.named;
    }
