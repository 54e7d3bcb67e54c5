-- The keys of the kept balances are those of the accounts that the report lists, in its order.
use Rattle.std.proofs.Common.{◌≡◌, ℕ, ℤ, pos, neg_ℤ, Bool, true, false, cond, ◌||◌, T, subst, List, [], ◌∷◌, map, fold, refl, sym, ap, ap₂, ◌∙◌}
use Rattle.std.specs.Prelude.{Option, Some, None, is_some}
use Rattle.std.specs.Str.{bytes_eq}
use Rattle.std.specs.List.{list_any, flat_map}
use Rattle.std.specs.declared.cmp.Ordering.{Ordering}
use Rattle.std.specs.declared.cmp.Ordering.TheVariants.{Less, Equal, Greater}
use Rattle.std.specs.Ordering.{is_lt, is_eq, eq_by_cmp, nat_cmp}
use Rattle.std.specs.Cmp.Lexicographic.{slice_cmp, nat_list_cmp_total}
use Rattle.std.specs.FinMap as finite
use Rattle.std.specs.FinMap.Entries.{by_order, put, find, is_sorted, is_sorted-put, find-put, same_entries}
use Rattle.std.proofs.lemmas.List.{nil_from_length}
use Rattle.std.proofs.lemmas.List.Sums.{fold-append}
use Rattle.std.proofs.lemmas.Map.Text.{is_eq-slice_cmp}
use Rattle.iss_model.specs.declared.account.Account.{Account}
use Rattle.iss_model.specs.declared.input.Record.{Record}
use Rattle.iss_model.specs.declared.entry.Entry.{Entry}
use Rattle.iss_model.specs.declared.entry.Entry.TheVariants as entry
use Rattle.iss_model.specs.declared.entry.Row.{Row}
use Rattle.iss_model.specs.Sums.{Change, account_key, balance_changes}
use Rattle.iss_model.specs.state.Kept.{Kept, nothing_kept, after_change, after_changes, kept_of}
use Rattle.iss_model.specs.texts.BalanceLines.{posted_accounts, accounts_with, accounts_with_once, accounts_of}
use Rattle.iss_model.specs.rules.Histories.{history_of}
use Rattle.iss_model.specs.state.Cores.{CoreState, core_of}
use Rattle.iss_model.proofs.Names.{one_name}
use Rattle.iss_model.proofs.Lists.{map-map, neither}
use Rattle.iss_agreement.proofs.CoreOfBook.{core_history}

-- what stands at each key when keys alone matter
abbrev Mark : Type 0
Mark = Unit {0}

-- the order of keys
abbrev order : List ℕ → List ℕ → Ordering
order = slice_cmp nat_cmp

-- a key put among keys, each with a mark
abbrev marked : List ℕ → List (List ℕ × Mark) → List (List ℕ × Mark)
marked key marks = put order key tt marks

-- each key is above those before it
abbrev IsRising : List (List ℕ × Mark) → Type 0
IsRising marks = T (is_sorted order marks)

-- the keys of kept sums
abbrev kept_marks : List (List ℕ × ℤ) → List (List ℕ × Mark)
kept_marks sums = map (λ sum. (sum.0, tt)) sums

-- the keys of accounts
abbrev account_marks : List Account → List (List ℕ × Mark)
account_marks accounts = map (λ a. (account_key a, tt)) accounts

-- keys that rise still rise with one more
marked_rising : (key : List ℕ) (marks : List (List ℕ × Mark)) → IsRising marks → IsRising (marked key marks)
marked_rising key marks rising = is_sorted-put order nat_list_cmp_total key tt marks rising

-- rising keys that have the same members are the same
same_marks : (ms ns : List (List ℕ × Mark)) → IsRising ms → IsRising ns → ((key : List ℕ) → find order key ms ≡ find order key ns) → ms ≡ ns
same_marks ms ns = same_entries order nat_list_cmp_total (finite.slice_cmp-IsAntisymmetric finite.nat_cmp-IsAntisymmetric) ms ns

-- what is found is the mark
the_mark : (found : Option Mark) → is_some found ≡ true → Some tt ≡ found
the_mark None h = cc
the_mark (Some mark) h = refl

-- a key that is there is found as before if it is put again
found_before : (key name : List ℕ) (marks : List (List ℕ × Mark)) (b : Bool) → is_some (find order key marks) ≡ true → eq_by_cmp order name key ≡ b
    → cond b (Some tt) (find order name marks) ≡ find order name marks
found_before key name marks true h e =
    the_mark (find order name marks) (ap (λ (k : List ℕ). is_some (find order k marks)) (one_name name key (sym (is_eq-slice_cmp name key) ∙ e)) ∙ h)
found_before key name marks false h e = refl

-- a key that is there is put there once
marked_once : (key : List ℕ) (marks : List (List ℕ × Mark)) → IsRising marks → is_some (find order key marks) ≡ true → marked key marks ≡ marks
marked_once key marks rising h =
    same_marks (marked key marks) marks (marked_rising key marks rising) rising
    (λ name. find-put order nat_list_cmp_total name key tt marks ∙ found_before key name marks (eq_by_cmp order name key) h refl)

-- of two choices of one value either may come first
either_first : {A : Type 0} (a b : Bool) (x y : A) → cond a x (cond b x y) ≡ cond b x (cond a x y)
either_first true true x y = refl
either_first true false x y = refl
either_first false b x y = refl

-- two keys may be put in either order
marked_either : (key name : List ℕ) (marks : List (List ℕ × Mark)) → IsRising marks → marked key (marked name marks) ≡ marked name (marked key marks)
marked_either key name marks rising =
    same_marks (marked key (marked name marks)) (marked name (marked key marks))
    (marked_rising key (marked name marks) (marked_rising name marks rising))
    (marked_rising name (marked key marks) (marked_rising key marks rising))
    (λ k. found key name k
    ∙ either_first (eq_by_cmp order k key) (eq_by_cmp order k name) (Some tt) (find order k marks)
    ∙ sym (found name key k))
  where
    found : (key name k : List ℕ) → find order k (marked key (marked name marks)) ≡ cond (eq_by_cmp order k key) (Some tt) (cond (eq_by_cmp order k name) (Some tt) (find order k marks))
    found key name k =
        find-put order nat_list_cmp_total k key tt (marked name marks)
        ∙ ap (cond (eq_by_cmp order k key) (Some tt)) (find-put order nat_list_cmp_total k name tt marks)

-- a sum that is kept at a key puts the key among those of the sums
kept_marks-put : (key : List ℕ) (sum : ℤ) (sums : List (List ℕ × ℤ)) → kept_marks (put order key sum sums) ≡ marked key (kept_marks sums)
kept_marks-put key sum [] = refl
kept_marks-put key sum (s ∷ sums) =
    elim (order key (s.0)) as (λ r. kept_marks (by_order r ((key, sum) ∷ s ∷ sums) ((s.0, sum) ∷ sums) (s ∷ put order key sum sums))
    ≡ by_order r ((key, tt) ∷ (s.0, tt) ∷ kept_marks sums) ((s.0, tt) ∷ kept_marks sums) ((s.0, tt) ∷ marked key (kept_marks sums))) [
      | Less ↦ refl
      | Equal ↦ refl
      | Greater ↦ λ i. (s.0, tt) ∷ kept_marks-put key sum sums i
    ]

-- a change puts its key among those of the sums
changed_marks : (sums : Kept) (c : Change) → kept_marks (finite.entries (after_change sums c)) ≡ marked c.key (kept_marks (finite.entries sums))
changed_marks sums c =
    ap kept_marks (finite.entries-insert nat_list_cmp_total sums c.key _)
    ∙ kept_marks-put c.key _ (finite.entries sums)

-- a mark is found at one key or later
found_here : (here : Bool) (later : Option Mark) → is_some (cond here (Some tt) later) ≡ (here || is_some later)
found_here true later = refl
found_here false later = refl

-- an account is among accounts if its key is among theirs
account_found : (key : List ℕ) (accounts : List Account) → is_some (find order key (account_marks accounts)) ≡ list_any (λ b. bytes_eq key (account_key b)) accounts
account_found key [] = refl
account_found key (a ∷ accounts) =
    found_here (eq_by_cmp order key (account_key a)) (find order key (account_marks accounts))
    ∙ ap₂ (λ (here later : Bool). here || later) (is_eq-slice_cmp key (account_key a)) (account_found key accounts)

-- an account is placed among others by the order of its key and theirs
placed_here : (a b : Account) (accounts : List Account) (r : Ordering) → is_eq r ≡ false → account_marks (accounts_with a accounts) ≡ marked (account_key a) (account_marks accounts)
    → account_marks (cond (is_lt r) (a ∷ b ∷ accounts) (b ∷ accounts_with a accounts))
    ≡ by_order r ((account_key a, tt) ∷ account_marks (b ∷ accounts)) ((account_key b, tt) ∷ account_marks accounts) ((account_key b, tt) ∷ marked (account_key a) (account_marks accounts))
placed_here a b accounts Less h e = refl
placed_here a b accounts Equal h e = cc
placed_here a b accounts Greater h e = λ i. (account_key b, tt) ∷ e i

-- a new account stands where its key is put
placed_marks : (a : Account) (accounts : List Account) → list_any (λ b. bytes_eq (account_key a) (account_key b)) accounts ≡ false
    → account_marks (accounts_with a accounts) ≡ marked (account_key a) (account_marks accounts)
placed_marks a [] h = refl
placed_marks a (b ∷ accounts) h =
    let parts = neither (bytes_eq (account_key a) (account_key b)) (list_any (λ b. bytes_eq (account_key a) (account_key b)) accounts) h in
    placed_here a b accounts (order (account_key a) (account_key b)) (is_eq-slice_cmp (account_key a) (account_key b) ∙ parts.0) (placed_marks a accounts parts.1)

-- an account that joins others puts its key among theirs
joined_marks : (accounts : List Account) (a : Account) → IsRising (account_marks accounts) → account_marks (accounts_with_once accounts a) ≡ marked (account_key a) (account_marks accounts)
joined_marks accounts a rising = by_place (list_any (λ b. bytes_eq (account_key a) (account_key b)) accounts) refl
  where
    by_place : (there : Bool) → list_any (λ b. bytes_eq (account_key a) (account_key b)) accounts ≡ there
        → account_marks (cond there accounts (accounts_with a accounts)) ≡ marked (account_key a) (account_marks accounts)
    by_place true h = sym (marked_once (account_key a) (account_marks accounts) rising (account_found (account_key a) accounts ∙ h))
    by_place false h = placed_marks a accounts h

-- sums are kept for just these accounts, in their order, which is that of their keys
record AreKeptFor (sums : Kept) (accounts : List Account) : Type 0 where
  rising : IsRising (account_marks accounts)
  same : kept_marks (finite.entries sums) ≡ account_marks accounts

-- This stays so after a post. The sums first take in the account that it goes to, and the accounts first the one that it comes from.
posted : (sums : Kept) (accounts : List Account) (from to : Account) (amount : ℕ) (txn : Option (List ℕ)) → AreKeptFor sums accounts
    → AreKeptFor (after_changes sums (balance_changes (entry.Post from to amount txn))) (accounts_with_once (accounts_with_once accounts from) to)
posted sums accounts from to amount txn kept =
    let marks = account_marks accounts in
    let first = joined_marks accounts from kept.rising in
    let first_rising : IsRising (account_marks (accounts_with_once accounts from)) = subst IsRising (sym first) (marked_rising (account_key from) marks kept.rising) in
    let both : account_marks (accounts_with_once (accounts_with_once accounts from) to) ≡ marked (account_key to) (marked (account_key from) marks) = joined_marks (accounts_with_once accounts from) to first_rising ∙ ap (marked (account_key to)) first in
    let changes_to : Change = record { key = account_key to; by = pos amount } in
    let changes_from : Change = record { key = account_key from; by = neg_ℤ (pos amount) } in
    record {
      rising = subst IsRising (sym both) (marked_rising (account_key to) (marked (account_key from) marks) (marked_rising (account_key from) marks kept.rising));
      same =
          changed_marks (after_change sums changes_to) changes_from
          ∙ ap (marked (account_key from)) (changed_marks sums changes_to ∙ ap (marked (account_key to)) kept.same)
          ∙ marked_either (account_key from) (account_key to) marks kept.rising
          ∙ sym both;
    }

-- this stays so after each entry
entered : (sums : Kept) (accounts : List Account) (e : Entry) → AreKeptFor sums accounts
    → AreKeptFor (after_changes sums (balance_changes e)) (fold accounts_with_once accounts (posted_accounts e))
entered sums accounts (entry.Post from to amount txn) kept = posted sums accounts from to amount txn kept
entered sums accounts _ kept = kept

-- this stays so after all rows
entered_all : (sums : Kept) (accounts : List Account) (rows : List Row) → AreKeptFor sums accounts
    → AreKeptFor (fold (λ s row. after_changes s (balance_changes row.entry)) sums rows) (fold accounts_with_once accounts (flat_map (λ row. posted_accounts row.entry) rows))
entered_all sums accounts [] kept = kept
entered_all sums accounts (row ∷ rows) kept =
    subst (AreKeptFor (fold (λ (s : Kept) (row : Row). after_changes s (balance_changes row.entry)) (after_changes sums (balance_changes row.entry)) rows))
    (sym (fold-append accounts_with_once accounts (posted_accounts row.entry) (flat_map (λ (row : Row). posted_accounts row.entry) rows)))
    (entered_all (after_changes sums (balance_changes row.entry)) (fold accounts_with_once accounts (posted_accounts row.entry)) rows (entered sums accounts row.entry kept))

-- nothing is kept if nothing was posted
none_kept : AreKeptFor nothing_kept []
none_kept =
    record {
      rising = tt;
      same =
          ap kept_marks (nil_from_length (finite.entries nothing_kept)
          (sym (finite.len-entries nothing_kept) ∙ finite.len-empty order ℤ));
    }

-- the balances that rows leave are kept for the accounts of the report
accounts_kept : (rows : List Row) → finite.keys (kept_of balance_changes rows) ≡ map account_key (accounts_of rows)
accounts_kept rows =
    let sums = kept_of balance_changes rows in
    sym (map-map (λ (sum : List ℕ × ℤ). (sum.0, tt)) (λ (m : List ℕ × Mark). m.0) (finite.entries sums))
    ∙ ap (λ (marks : List (List ℕ × Mark)). map (λ m. m.0) marks) (entered_all nothing_kept [] rows none_kept).same
    ∙ map-map (λ (a : Account). (account_key a, tt)) (λ (m : List ℕ × Mark). m.0) (accounts_of rows)

-- the balances of a core are kept for the accounts that the report of its book lists, in the report's order
pub accounts_history : (rs : List Record) → finite.keys (core_of rs).balances ≡ map account_key (accounts_of (history_of rs).rows)
accounts_history rs = ap (λ (s : CoreState). finite.keys s.balances) (core_history rs) ∙ accounts_kept (history_of rs).rows
