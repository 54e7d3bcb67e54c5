-- The lines of a report, one after the other.
use Rattle.std.proofs.Common.{◌≡◌, ℕ, ◌+◌, ◌<◌, List, [], ◌∷◌, ◌++◌, length, map, take, get_or, sym, ap, subst, ◌∙◌}
use Rattle.std.proofs.lemmas.List.{take_more, map-append}
use Rattle.iss_model.specs.declared.account.Account.{Account}
use Rattle.iss_model.specs.declared.input.Record.{Record}
use Rattle.iss_model.specs.Sums.{account_key}
use Rattle.iss_model.specs.rules.Facts.{Facts}
use Rattle.iss_model.specs.rules.Histories.{history_of}
use Rattle.iss_model.specs.state.Cores.{core_facts}
use Rattle.iss_model.specs.texts.BalanceLines.{account_line, count_line, accounts_of, balance_lines}
use Rattle.iss_core.specs.Values.{CoreNow, CoreStandsFor}
use Rattle.iss_core.proofs.OnBook.{facts_on_book}
use Rattle.iss_texts.specs.declared.row.Texts.{Texts}
use Rattle.iss_texts.specs.TextRows.{Gains, HasNone, HasAll}
use Rattle.iss_texts.proofs.Rows.{gains_then, gained_all}
use Rattle.iss_report.specs.Reported.{AreWhole}
use Rattle.iss_model.proofs.Accounts.{same_accounts}

-- the lines of the first of some things, and of one more
pub lines_more : {X : Type 0} (f : X → List ℕ) (xs : List X) (i : ℕ) (x : X) (a b c : Texts) → i < length xs → x ≡ get_or xs i x → Gains (map f (take i xs)) a b → Gains (f x ∷ []) b c → Gains (map f (take (i + 1) xs)) a c
lines_more f xs i x a b c within is p q =
    let here : map f (take (i + 1) xs) ≡ map f (take i xs) ++ f x ∷ [] =
    ap (map f) (take_more xs i x within ∙ ap (λ y. take i xs ++ y ∷ []) (sym is)) ∙ map-append f (take i xs) (x ∷ []) in
    subst (λ (ts : List (List ℕ)). Gains ts a c) (sym here) (gains_then (map f (take i xs)) (f x ∷ []) a b c p q)

-- what a core tells of these accounts, and its counts
abbrev lines_by : Facts → List Account → List (List ℕ)
lines_by f accounts = map (account_line f) accounts ++ count_line f ∷ []

module _ (f : Facts) (accounts : List Account) (before middle after : Texts) (none : HasNone before) (first : Gains (map (account_line f) accounts) before middle) (last : Gains (count_line f ∷ []) middle after) where
  all_lines : HasAll (lines_by f accounts) after
  all_lines =
      gained_all (lines_by f accounts) before after none
      (gains_then (map (account_line f) accounts) (count_line f ∷ []) before middle after first last)

  pub whole_lines : AreWhole after
  whole_lines = record { lines = lines_by f accounts; all = all_lines }

-- what a core tells of these accounts is the report of the book
pub reported : (c : CoreNow) (rs : List Record) (accounts : List Account) (before middle after : Texts) → CoreStandsFor c rs → map account_key accounts ≡ map account_key (accounts_of (history_of rs).rows) → HasNone before
    → Gains (map (account_line (core_facts c.state)) accounts) before middle → Gains (count_line (core_facts c.state) ∷ []) middle after → HasAll (balance_lines (history_of rs)) after
reported c rs accounts before middle after stands keys none first last =
    let book = history_of rs in
    subst (λ (f : Facts). HasAll (lines_by f (accounts_of book.rows)) after) (facts_on_book c rs stands)
    (subst (λ (l : List Account). HasAll (lines_by (core_facts c.state) l) after) (same_accounts accounts (accounts_of book.rows) keys)
    (all_lines (core_facts c.state) accounts before middle after none first last))
