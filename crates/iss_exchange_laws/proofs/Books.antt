-- What is asked of the book of the records: numbers, names, causes and the balance of the gateway's account.
use Rattle.std.proofs.Common.{◌≡◌, ℕ, zero, suc, ◌+◌, ◌≤◌, Bool, true, false, cond, ◌&&◌, ◌||◌, nat_eq, List, [], ◌∷◌, length, filter, refl, sym, ap, ◌∙◌, inl, inr, arith}
use Rattle.std.specs.Prelude.{Some, ◌-ℤ◌}
use Rattle.std.specs.List.{list_any, cons_option}
use Rattle.std.proofs.lemmas.Bool.Decides.{nat_tests}
use Rattle.iss_model.specs.declared.account.Account.TheVariants as account
use Rattle.iss_model.specs.declared.call.CallId.{CallId}
use Rattle.iss_model.specs.declared.call.How.TheVariants as how
use Rattle.iss_model.specs.declared.call.Notice.{Notice}
use Rattle.iss_model.specs.declared.currency.Currency.{Currency}
use Rattle.iss_model.specs.declared.entry.Entry.{Entry}
use Rattle.iss_model.specs.declared.entry.Entry.TheVariants as entry
use Rattle.iss_model.specs.declared.entry.Row.{Row}
use Rattle.iss_model.specs.declared.input.Outcome.TheVariants as outcome
use Rattle.iss_model.specs.declared.input.Record.{Record}
use Rattle.iss_model.proofs.Lists.{neither}
use Rattle.iss_model.specs.rules.Activity.{CallNow, acknowledges, calls_of, notice_made, notices_of}
use Rattle.iss_model.specs.rules.Facts.{balance_in}
use Rattle.iss_model.specs.rules.Histories.{history_facts, history_of}
use Rattle.iss_state.proofs.effects.Finds.{number_is, same_number}
use Rattle.iss_state.specs.Numbers.{CallsNumberedFrom, NoticesNumberedFrom}
use Rattle.iss_state.proofs.docket.Closing.{calls_lone}
use Rattle.iss_state.proofs.docket.Lists.{Each, Lone}
use Rattle.iss_laws.specs.Rulings.{is_answer}
use Rattle.iss_laws.specs.CallEntries.{is_call, is_void, names_call}
use Rattle.iss_laws.specs.Calls.{one_where}
use Rattle.iss_laws.specs.Tests.{times}
use Rattle.iss_gateway_laws.specs.Accounts.{back_by, paid_for, sum_over}
use Rattle.iss_gateway_laws.specs.Told.{acks, funds_part}
use Rattle.iss_gateway_laws.proofs.Lists.{Among, lone_same}
use Rattle.iss_exchange_laws.proofs.Sound.{rows_of}

-- What holds of the book of records. Calls and notices are numbered in their order, and no call is beyond the records. A call is named by one
-- notice if it failed or was abandoned, and else by none. What the gateway alone gives is told by a record. And its account has what notices
-- gave back, less what calls cost.
pub record IsBook (rs : List Record) : Type 0 where
  pub calls : CallsNumberedFrom 1 (calls_of (rows_of rs))
  pub notices : NoticesNumberedFrom 1 (notices_of (rows_of rs))
  pub few : (c : CallNow) → Among c (calls_of (rows_of rs)) → c.opened.call.0 ≤ length rs
  pub called : (x : Notice) → Among x (notices_of (rows_of rs)) → (call : CallId) → x.call ≡ Some call → call.0 ≤ length rs
  pub named : Each (λ c. times (names_call c.opened.call.0) (rows_of rs) ≡ one_where (is_void c.how)) (calls_of (rows_of rs))
  pub funded : (c : CallNow) → Among c (calls_of (rows_of rs)) → c.how ≡ Some how.Funded → list_any (λ r. is_answer c.opened.call.0 outcome.Funded r.input) rs ≡ true
  pub partly : (c : CallNow) → Among c (calls_of (rows_of rs)) → (amount : ℕ) → c.how ≡ Some (how.Partial amount) → list_any (λ r. funds_part c.opened.call.0 amount r.input) rs ≡ true
  pub refused : (c : CallNow) → Among c (calls_of (rows_of rs)) → c.how ≡ Some how.Refused → list_any (λ r. is_answer c.opened.call.0 outcome.Refused r.input) rs ≡ true
  pub acked : (number : ℕ) → list_any (λ row. acknowledges number row.entry) (rows_of rs) ≡ true → list_any (λ r. acks number r.input) rs ≡ true
  pub balance : (c : Currency) → balance_in (history_facts (history_of rs)) (account.Gateway c) ≡ sum_over (back_by c) (notices_of (rows_of rs)) -ℤ sum_over (paid_for c) (calls_of (rows_of rs))

-- one alone ----

notices_later : (m n : ℕ) (xs : List Notice) → NoticesNumberedFrom m xs → n + 1 ≤ m → list_any (λ x. nat_eq x.number n) xs ≡ false
notices_later m n [] h less = refl
notices_later m n (x ∷ xs) h less =
    ap (λ (b : Bool). b || list_any (λ (x : Notice). nat_eq x.number n) xs) (differ x.number m n h.0 less) ∙ notices_later (m + 1) n xs h.1 (more n m less)
  where
    differ : (a m n : ℕ) → a ≡ m → n + 1 ≤ m → nat_eq a n ≡ false
    differ a m n e h = grind (arith, nat_tests)

    more : (n m : ℕ) → n + 1 ≤ m → n + 1 ≤ m + 1
    more n m h = omega (arith, h)

pub notices_lone : (m n : ℕ) (xs : List Notice) → NoticesNumberedFrom m xs → Lone (λ x. nat_eq x.number n) xs
notices_lone m n [] h = tt
notices_lone m n (x ∷ xs) h = (λ e. notices_later (m + 1) n xs h.1 (below x.number m n h.0 e), notices_lone (m + 1) n xs h.1)
  where
    below : (a m n : ℕ) → a ≡ m → nat_eq a n ≡ true → n + 1 ≤ m + 1
    below a m n e h = let same : a ≡ n = number_is a n h in omega (arith, same, e)

-- a test at which one alone passes, told otherwise
pub lone_alike : {A : Type 0} (p q : A → Bool) (xs : List A) → ((x : A) → Among x xs → p x ≡ q x) → Lone p xs → Lone q xs
lone_alike p q [] same h = tt
lone_alike {A} p q (x ∷ xs) same h = (λ e. sym (any_alike xs (λ y among. same y (inr among))) ∙ h.0 (same x (inl refl) ∙ e), lone_alike p q xs (λ y among. same y (inr among)) h.1)
  where
    any_alike : (xs : List A) → ((x : A) → Among x xs → p x ≡ q x) → list_any p xs ≡ list_any q xs
    any_alike [] same = refl
    any_alike (x ∷ xs) same = ap (λ (b : Bool). b || list_any p xs) (same x (inl refl)) ∙ ap (λ (b : Bool). q x || b) (any_alike xs (λ y among. same y (inr among)))

pub same_call : (rs : List Record) → IsBook rs → (c d : CallNow) → Among c (calls_of (rows_of rs)) → Among d (calls_of (rows_of rs)) → c.opened.call.0 ≡ d.opened.call.0 → c ≡ d
same_call rs book c d a b e =
    lone_same (λ (x : CallNow). nat_eq x.opened.call.0 d.opened.call.0) c d (calls_of (rows_of rs)) (calls_lone 1 d.opened.call.0 (calls_of (rows_of rs)) book.calls) a b
    (ap (λ (n : ℕ). nat_eq n d.opened.call.0) e ∙ same_number d.opened.call.0) (same_number d.opened.call.0)

pub same_notice : (rs : List Record) → IsBook rs → (m n : Notice) → Among m (notices_of (rows_of rs)) → Among n (notices_of (rows_of rs)) → m.number ≡ n.number → m ≡ n
same_notice rs book m n a b e =
    lone_same (λ (x : Notice). nat_eq x.number n.number) m n (notices_of (rows_of rs)) (notices_lone 1 n.number (notices_of (rows_of rs)) book.notices) a b
    (ap (λ (k : ℕ). nat_eq k n.number) e ∙ same_number n.number) (same_number n.number)

-- notices that name a call ----

abbrev pub some_names : ℕ → List Notice → Bool
some_names number ns = list_any (λ n. is_call number n.call) ns

-- none or more
abbrev is_there : ℕ → Bool
is_there zero = false
is_there (suc n) = true

any_named : (number : ℕ) (rows : List Row) → some_names number (notices_of rows) ≡ is_there (times (names_call number) rows)
any_named number [] = refl
any_named number (row ∷ rows) = by row.entry refl (any_named number rows)
  where
    here : (b : Bool) → some_names number (notices_of rows) ≡ is_there (times (names_call number) rows)
        → (b || some_names number (notices_of rows))
        ≡ is_there (length (cond b (row ∷ filter (λ (row : Row). names_call number row.entry) rows) (filter (λ (row : Row). names_call number row.entry) rows)))
    here true e = refl
    here false e = e

    by : (e : Entry) → row.entry ≡ e → some_names number (notices_of rows) ≡ is_there (times (names_call number) rows)
        → some_names number (cons_option (notice_made e) (notices_of rows))
        ≡ is_there (length (cond (names_call number e) (row ∷ filter (λ (row : Row). names_call number row.entry) rows) (filter (λ (row : Row). names_call number row.entry) rows)))
    by (entry.Notice n) same e = here (is_call number n.call) e
    by _ same e = e

pub call_named : (rows : List Row) (c : CallNow) → times (names_call c.opened.call.0) rows ≡ one_where (is_void c.how) → some_names c.opened.call.0 (notices_of rows) ≡ is_void c.how
call_named rows c e = any_named c.opened.call.0 rows ∙ ap is_there e ∙ by (is_void c.how)
  where
    by : (b : Bool) → is_there (one_where b) ≡ b
    by true = refl
    by false = refl

-- what passes two tests passes each
pub none_of_both : {A : Type 0} (p q : A → Bool) (xs : List A) → list_any q xs ≡ false → list_any (λ x. p x && q x) xs ≡ false
none_of_both p q [] h = refl
none_of_both p q (x ∷ xs) h =
    let parts = neither (q x) (list_any q xs) h in
    ap (λ (b : Bool). b || list_any (λ x. p x && q x) xs) (fails (p x) (q x) parts.0) ∙ none_of_both p q xs parts.1
  where
    fails : (a b : Bool) → b ≡ false → (a && b) ≡ false
    fails true b h = h
    fails false b h = refl
