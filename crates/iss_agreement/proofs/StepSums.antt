-- What a step does to a sum of the book, such as an account's balance: it adds what its entries change there.
use Rattle.std.proofs.Common.{◌≡◌, ℕ, List, [], ◌∷◌, ◌++◌, length, fold, ap, ◌∙◌, arith}
use Rattle.std.specs.Prelude.{ℤ, pos, ◌+ℤ◌}
use Rattle.std.proofs.lemmas.Int.{ints}
use Rattle.std.proofs.lemmas.List.Sums.{fold-append}
use Rattle.iss_model.specs.declared.account.Account.{Account}
use Rattle.iss_model.specs.declared.entry.Entry.{Entry}
use Rattle.iss_model.specs.declared.entry.Row.{Row}
use Rattle.iss_model.specs.declared.input.Record.{Record}
use Rattle.iss_model.specs.Sums.{Change, account_key, balance_changes, changed_at, sum_at}
use Rattle.iss_model.specs.rules.Facts.{balance_in}
use Rattle.iss_model.specs.rules.Histories.{History, history_facts, history_keeper, history_of, numbered_rows}
use Rattle.iss_model.specs.rules.Stepping.{step}
use Rattle.iss_agreement.specs.Laws.{sum_among}
use Rattle.iss_agreement.proofs.Records.{history_more, step_rows}

pub among_summed : (changes : Entry → List Change) (key : List ℕ) (xs ys : List Entry) → sum_among changes key (xs ++ ys) ≡ sum_among changes key xs +ℤ sum_among changes key ys
among_summed changes key [] ys = none (sum_among changes key ys)
  where
    none : (z : ℤ) → z ≡ pos 0 +ℤ z
    none z = omega (arith, ints)
among_summed changes key (x ∷ xs) ys =
    ap (λ (z : ℤ). changed_at key (changes x) +ℤ z) (among_summed changes key xs ys) ∙ regroup (changed_at key (changes x)) (sum_among changes key xs) (sum_among changes key ys)
  where
    regroup : (a b c : ℤ) → a +ℤ (b +ℤ c) ≡ (a +ℤ b) +ℤ c
    regroup a b c = omega (arith, ints)

numbered_from : (changes : Entry → List Change) (key : List ℕ) (z : ℤ) (n : ℕ) (es : List Entry)
    → fold (λ sum row. sum +ℤ changed_at key (changes row.entry)) z (numbered_rows n es) ≡ z +ℤ sum_among changes key es
numbered_from changes key z n [] = none z
  where
    none : (z : ℤ) → z ≡ z +ℤ pos 0
    none z = omega (arith, ints)
numbered_from changes key z n (e ∷ es) =
    numbered_from changes key (z +ℤ changed_at key (changes e)) n es ∙ regroup z (changed_at key (changes e)) (sum_among changes key es)
  where
    regroup : (a b c : ℤ) → (a +ℤ b) +ℤ c ≡ a +ℤ (b +ℤ c)
    regroup a b c = omega (arith, ints)

-- entries after rows add what they change
pub sum_with : (changes : Entry → List Change) (key : List ℕ) (rows : List Row) (n : ℕ) (es : List Entry)
    → sum_at changes key (rows ++ numbered_rows n es) ≡ sum_at changes key rows +ℤ sum_among changes key es
sum_with changes key rows n es =
    fold-append (λ (sum : ℤ) (row : Row). sum +ℤ changed_at key (changes row.entry)) (pos 0) rows (numbered_rows n es) ∙ numbered_from changes key (sum_at changes key rows) n es

pub step_summed : (changes : Entry → List Change) (key : List ℕ) (h : History) (r : Record)
    → sum_at changes key (step history_keeper h r).world.rows ≡ sum_at changes key h.rows +ℤ sum_among changes key (step history_keeper h r).entries
step_summed changes key h r =
    ap (λ (rows : List Row). sum_at changes key rows) (step_rows h r) ∙ sum_with changes key h.rows (length (h.records ++ r ∷ [])) (step history_keeper h r).entries

-- one more record adds what its entries change
pub summed_more : (changes : Entry → List Change) (key : List ℕ) (rs : List Record) (r : Record)
    → sum_at changes key (history_of (rs ++ r ∷ [])).rows ≡ sum_at changes key (history_of rs).rows +ℤ sum_among changes key (step history_keeper (history_of rs) r).entries
summed_more changes key rs r = ap (λ (h : History). sum_at changes key h.rows) (history_more rs r) ∙ step_summed changes key (history_of rs) r

-- an account's balance after a step is its balance before it, and what the step's entries add to it
pub step_balance : (a : Account) (h : History) (r : Record)
    → balance_in (history_facts (step history_keeper h r).world) a ≡ balance_in (history_facts h) a +ℤ sum_among balance_changes (account_key a) (step history_keeper h r).entries
step_balance a h r = step_summed balance_changes (account_key a) h r

pub balance_more : (a : Account) (rs : List Record) (r : Record)
    → balance_in (history_facts (history_of (rs ++ r ∷ []))) a
    ≡ balance_in (history_facts (history_of rs)) a +ℤ sum_among balance_changes (account_key a) (step history_keeper (history_of rs) r).entries
balance_more a rs r = summed_more balance_changes (account_key a) rs r
