-- What a core answers is what the book of its records answers.
use Rattle.std.proofs.Common.{◌≡◌, ℕ, List, [], ◌∷◌, ◌++◌, length, map, ap, subst, sym, ◌∙◌}
use Rattle.std.specs.Prelude.{Result, Ok, Err, IfOk}
use Rattle.std.specs.FinMap as finite
use Rattle.iss_model.specs.declared.account.Account.{Account}
use Rattle.iss_model.specs.declared.input.Input.{Input}
use Rattle.iss_model.specs.declared.input.Record.{Record}
use Rattle.iss_model.specs.declared.entry.Entry.{Entry}
use Rattle.iss_model.specs.declared.decision.Judged.{Judged}
use Rattle.iss_model.specs.Sums.{account_key}
use Rattle.iss_model.specs.state.Kept.{Kept}
use Rattle.iss_model.specs.rules.Facts.{Facts}
use Rattle.iss_model.specs.texts.BalanceLines.{accounts_of}
use Rattle.iss_model.specs.rules.Stepping.{step}
use Rattle.iss_model.specs.rules.Judging.{judge}
use Rattle.iss_model.specs.rules.Histories.{time_of, history_facts, history_keeper, history_of}
use Rattle.iss_model.specs.state.Cores.{CoreState, core_facts, core_keeper, core_of, no_core}
use Rattle.iss_agreement.proofs.Records.{records_history}
use Rattle.iss_agreement.proofs.CoreOfBook.{facts_history, judge_history, entries_history, core_step}
use Rattle.iss_agreement.proofs.ReportedAccounts.{accounts_history}
use Rattle.iss_agreement.specs.Likeness.{AreAlike}
use Rattle.iss_agreement.proofs.Likeness.{alike_itself, entries_same, facts_alike, judged_same, worlds_alike}
use Rattle.iss_core.specs.Values.{CoreNow, CoreStandsFor, Steps, StepsOnBook}

-- the state without a record stands for none
pub stands_at_first : (s : CoreState) → s ≡ no_core → AreAlike s (core_of [])
stands_at_first s is = subst (λ (x : CoreState). AreAlike x no_core) (sym is) (alike_itself no_core)

-- the facts that a core tells are those of the book
pub facts_on_book : (c : CoreNow) (rs : List Record) → CoreStandsFor c rs → core_facts c.state ≡ history_facts (history_of rs)
facts_on_book c rs stands = facts_alike c.state (core_of rs) stands ∙ facts_history rs

-- each answer by the facts that a core tells is that of the book
pub told_on_book : {A : Type 0} (c : CoreNow) (rs : List Record) (ask : Facts → A) (answer : A) → CoreStandsFor c rs → answer ≡ ask (core_facts c.state) → answer ≡ ask (history_facts (history_of rs))
told_on_book c rs ask answer stands e = e ∙ ap ask (facts_on_book c rs stands)

pub judged_on_book : (c : CoreNow) (rs : List Record) (i : Input) (stamp : ℕ) (j : Judged) → CoreStandsFor c rs → j ≡ judge core_keeper c.state i stamp → j ≡ judge history_keeper (history_of rs) i stamp
judged_on_book c rs i stamp j stands e = e ∙ judged_same c.state (core_of rs) i stamp stands ∙ judge_history rs i stamp

pub accounts_on_book : (c : CoreNow) (rs : List Record) (accounts : List Account) → CoreStandsFor c rs → map account_key accounts ≡ finite.keys c.state.balances
    → map account_key accounts ≡ map account_key (accounts_of (history_of rs).rows)
accounts_on_book c rs accounts stands e = e ∙ ap (λ (s : CoreState). finite.keys s.balances) stands.rest ∙ accounts_history rs

pub steps_on_book : (before after : CoreNow) (rs : List Record) (r : Record) (made : List Entry) → CoreStandsFor before rs → Steps before after r made → StepsOnBook after rs r made
steps_on_book before after rs r made stands steps =
    record {
      stands = subst (λ (s : CoreState). AreAlike s (core_of (rs ++ r ∷ []))) (sym steps.state)
          (subst (λ (s : CoreState). AreAlike (step core_keeper before.state r).world s) (core_step rs r) (worlds_alike before.state (core_of rs) r stands));
      entries = steps.entries ∙ entries_same before.state (core_of rs) r stands ∙ entries_history rs r;
    }

-- how many records the book has, and their time
pub count_of_book : (rs : List Record) → (history_facts (history_of rs)).count ≡ length rs
count_of_book rs = ap (λ (records : List Record). length records) (records_history rs)

pub time_of_book : (rs : List Record) → (history_facts (history_of rs)).now ≡ time_of rs
time_of_book rs = ap time_of (records_history rs)

-- the accounts that are answered are those of the book
pub accounts_told : {A E : Type 0} (items : A → List Account) (c : CoreNow) (rs : List Record) (balances : Kept) (result : Result A E) → CoreStandsFor c rs → finite.keys balances ≡ finite.keys c.state.balances
    → IfOk result (λ v. map account_key (items v) ≡ finite.keys balances) → IfOk result (λ v. map account_key (items v) ≡ map account_key (accounts_of (history_of rs).rows))
accounts_told items c rs balances (Ok v) stands same told = accounts_on_book c rs (items v) stands (told ∙ same)
accounts_told items c rs balances (Err e) stands same told = tt

-- an answer by the facts of the state is that of the book
pub told_by_state : {A : Type 0} (c : CoreNow) (s : CoreState) (rs : List Record) (ask : Facts → A) (answer : A) → s ≡ c.state → answer ≡ ask (core_facts s) → CoreStandsFor c rs → answer ≡ ask (history_facts (history_of rs))
told_by_state c s rs ask answer is e stands = told_on_book c rs ask answer stands (e ∙ ap (λ (x : CoreState). ask (core_facts x)) is)

-- a list that is answered by the facts of the state is that of the book
pub listed_by_state : {A B E : Type 0} (items : A → B) (c : CoreNow) (s : CoreState) (rs : List Record) (ask : Facts → B) (result : Result A E) → s ≡ c.state
    → IfOk result (λ v. items v ≡ ask (core_facts s)) → CoreStandsFor c rs → IfOk result (λ v. items v ≡ ask (history_facts (history_of rs)))
listed_by_state items c s rs ask (Ok v) is e stands = told_by_state c s rs ask (items v) is e stands
listed_by_state items c s rs ask (Err e) is told stands = tt
