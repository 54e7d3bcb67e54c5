use Rattle.std.proofs.Common.{◌≡◌, ℕ, ◌≤◌, List, length, drop, replicate, IsTrue, sym, ap, subst, ◌∙◌, arith, rules, length-append, length-drop}
use Rattle.std.proofs.lemmas.List.{drop_at, drop-replicate, take_at}
use Rattle.iss_model.specs.Tokens.{is_token}
use Rattle.iss_model.proofs.token.Token.new.Goals as goal

pub invariant_of-result : goal.invariant_of-result
invariant_of-result c =
    let n = length c.args.text.now in
    let spelled : IsTrue (is_token c.args.text.now) = search rules in
    let short : n ≤ 36 = search rules in
    let front : length c.copy_from_slice.new.self ≡ n = omega (arith, c.copy_from_slice.ensures.len, ap (λ (l : List ℕ). length l) c.copy_from_slice.ensures.after) in
    record {
      padded =
          record {
            size = omega (arith, front, short, length-append {A = ℕ} c.copy_from_slice.new.self (drop n (replicate 36 0)), length-drop {A = ℕ} n (replicate 36 0));
            fits = short;
            tail = drop_at c.copy_from_slice.new.self (drop n (replicate 36 0)) n front ∙ drop-replicate n 36 0;
          };
      spelled = subst (λ (l : List ℕ). IsTrue (is_token l)) (sym (take_at c.copy_from_slice.new.self (drop n (replicate 36 0)) n front ∙ c.copy_from_slice.ensures.after)) spelled;
    }
