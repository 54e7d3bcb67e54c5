-- What a record's own entries load is what its event loads, if that is done.
use Rattle.std.proofs.Common.{◌≡◌, ◌∙◌, ◌++◌, ◌∷◌, ◌&&◌, ◌+◌, ◌+ℤ◌, ℕ, ℤ, pos, neg_ℤ, ap, ap₂, append-nil, arith, Bool, cond, false, fold, List, [], refl, sym, true}
use Rattle.std.specs.Prelude.{Option, Some, None, is_some, unwrap_or}
use Rattle.std.specs.List.{list_all}
use Rattle.std.specs.Str.{bytes_eq}
use Rattle.std.proofs.lemmas.Bool.{and_parts}
use Rattle.std.proofs.lemmas.Int.{ints}
use Rattle.iss_model.specs.declared.account.Account.{Account}
use Rattle.iss_model.specs.declared.account.Account.TheVariants as account
use Rattle.iss_model.specs.declared.currency.Currency.{Currency}
use Rattle.iss_model.specs.declared.decision.Reason.{Reason}
use Rattle.iss_model.specs.declared.decision.Verdict.{Verdict}
use Rattle.iss_model.specs.declared.decision.Verdict.TheVariants as verdict
use Rattle.iss_model.specs.declared.entry.Entry.{Entry}
use Rattle.iss_model.specs.declared.entry.Entry.TheVariants as entry
use Rattle.iss_model.specs.declared.input.Input.{Input}
use Rattle.iss_model.specs.declared.input.Input.TheVariants as input
use Rattle.iss_model.specs.Currencies.{same_currency}
use Rattle.iss_model.specs.Inputs.{event_token}
use Rattle.iss_model.specs.Sums.{account_key, changed_at}
use Rattle.iss_model.specs.rules.Acts.{Act, Loads, act_entries, entries_of_acts}
use Rattle.iss_model.specs.rules.Due.{DueThing, thing_entries}
use Rattle.iss_model.specs.rules.Facts.{Accepted, Decision, Facts, verdict_in}
use Rattle.iss_model.specs.rules.Reasons.{load_reason}
use Rattle.iss_model.specs.rules.Stepping.{acts_unless, entries_of}
use Rattle.iss_model.specs.state.Cores.{CoreState, after_entry, core_facts}
use Rattle.iss_acts.specs.Causes.{Cause, ComesOf}
use Rattle.iss_acts.specs.Items.{Item, Loading, has_item, item_entry, may_load}
use Rattle.iss_acts.specs.Sources.{IsMade}
use Rattle.iss_acts.specs.Stages.{Stage}
use Rattle.iss_acts.proofs.Passing.{EachPasses, act_passes, both_pass, none_passes}
use Rattle.iss_acts.proofs.Walk.{Holds, due_holds, own_holds}
use Rattle.iss_state.specs.Pending.{HasTakenUp}
use Rattle.iss_state.proofs.docket.Lists.{not_both}
use Rattle.iss_states.specs.Fairness.{changed_among}
use Rattle.iss_states.specs.Rebuilding.{is_done}
use Rattle.iss_states.specs.Showing.{token_of_event}
use Rattle.iss_states.proofs.SetSteps.{now_decided, undecided}
use Rattle.iss_well_formed.proofs.DoneSums.{done_of, worth_if}
use Rattle.iss_balanced.specs.Owed.{loaded_in, loaded_to}
use Rattle.iss_balanced.proofs.Shares.{user_test}
use Rattle.iss_balanced.proofs.ShareSums.{load_changes}

-- what the loads that are done among accepted events give to an account
abbrev pub loads_of : List Decision → List Accepted → Account → ℤ
loads_of ds xs (account.Programme c) = neg_ℤ (pos (done_of ds (loaded_in c) xs))
loads_of ds xs (account.User user c) = pos (done_of ds (loaded_to user c) xs)
loads_of ds xs _ = pos 0

-- what one event gives
abbrev pub load_given : Account → Option Verdict → Input → ℤ
load_given (account.Programme c) v i = neg_ℤ (pos (worth_if v (loaded_in c i)))
load_given (account.User user c) v i = pos (worth_if v (loaded_to user c i))
load_given _ v i = pos 0

-- entries that load nothing ----

abbrev loads_nothing : Entry → Bool
loads_nothing (entry.Post from to amount None) = false
loads_nothing _ = true

one_unloaded : (key : List ℕ) (e : Entry) → loads_nothing e ≡ true → changed_at key (load_changes e) ≡ pos 0
one_unloaded key (entry.Post from to amount None) h = cc
one_unloaded key (entry.Post from to amount (Some txn)) h = refl
one_unloaded key _ h = refl

unloaded : (key : List ℕ) (es : List Entry) → list_all loads_nothing es ≡ true → changed_among load_changes key es ≡ pos 0
unloaded key [] h = refl
unloaded key (e ∷ es) h =
    let both = and_parts (loads_nothing e) (list_all loads_nothing es) h in
    ap₂ (λ (x y : ℤ). x +ℤ y) (one_unloaded key e both.0) (unloaded key es both.1)

unloading_item : (a : Act) → may_load a ≡ false → (x : Item) → has_item a x ≡ true → loads_nothing (item_entry x) ≡ true
unloading_item a plain (Loading user currency amount) has = not_both (may_load a) has plain
unloading_item a plain _ has = refl

no_load : {f : Facts} {by : Cause} {at : ℕ} → ((event user : List ℕ) (currency : Currency) (amount : ℕ) → by ≡ ComesOf (input.Load event user currency amount) → false ≡ true)
    → Holds f by at (EachPasses loads_nothing)
no_load {f} {by} {at} never = record { none = none_passes; then = both_pass; act = λ g a made. act_passes a (unloading_item a (plain g a made)) }
  where
    plain : (g : Stage) (a : Act) → IsMade f by at g a → may_load a ≡ false
    plain g (Loads event user currency amount) made = sym (never event user currency amount made.from.1)
    plain g _ made = refl

pub due_loads : (s : CoreState) (thing : DueThing) (at : ℕ) (key : List ℕ) → changed_among load_changes key (thing_entries thing at (core_facts s)) ≡ pos 0
due_loads s thing at key = unloaded key (thing_entries thing at (core_facts s)) (due_holds (core_facts s) thing at (no_load (λ event user currency amount e. cc))).all

-- an input's own entries ----

either_none : (b : Bool) → ◌≡◌ {A = ℕ} (cond b 0 0) 0
either_none true = refl
either_none false = refl

none_given : (a : Account) (v : Option Verdict) (i : Input) → ((c : Currency) → loaded_in c i ≡ 0) → ((user : List ℕ) (c : Currency) → loaded_to user c i ≡ 0) → pos 0 ≡ load_given a v i
none_given (account.Programme c) v i h g = ap (λ (n : ℕ). neg_ℤ (pos n)) (sym (ap (worth_if v) (h c) ∙ either_none (is_done v)))
none_given (account.User user c) v i h g = ap (λ (n : ℕ). pos n) (sym (ap (worth_if v) (g user c) ∙ either_none (is_done v)))
none_given (account.Gateway c) v i h g = refl
none_given (account.Network c) v i h g = refl

declined_given : (a : Account) (i : Input) (why : Reason) → pos 0 ≡ load_given a (Some (verdict.Declined why)) i
declined_given (account.Programme c) i why = refl
declined_given (account.User user c) i why = refl
declined_given (account.Gateway c) i why = refl
declined_given (account.Network c) i why = refl

loaded_one : (a : Account) (token user : List ℕ) (d : Currency) (n : ℕ)
    → changed_among load_changes (account_key a) (act_entries (Loads token user d n)) ≡ load_given a (Some verdict.Done) (input.Load token user d n)
loaded_one (account.Programme c) token user d n = by (same_currency d c)
  where
    by : (b : Bool) → (pos 0 +ℤ (cond (b && true) (neg_ℤ (pos n)) (pos 0) +ℤ pos 0)) +ℤ pos 0 ≡ neg_ℤ (pos (cond b n 0))
    by true = omega (arith, ints)
    by false = refl
loaded_one (account.User name c) token user d n = ap (λ (b : Bool). (cond b (pos n) (pos 0) +ℤ (pos 0 +ℤ pos 0)) +ℤ pos 0) (user_test user name d c) ∙ by (bytes_eq user name && same_currency d c)
  where
    by : (b : Bool) → (cond b (pos n) (pos 0) +ℤ (pos 0 +ℤ pos 0)) +ℤ pos 0 ≡ pos (cond b n 0)
    by true = omega (arith, ints)
    by false = refl
loaded_one (account.Gateway c) token user d n = refl
loaded_one (account.Network c) token user d n = refl

pub own_loads : (s : CoreState) (i : Input) (at : ℕ) (a : Account) → HasTakenUp s i
    → changed_among load_changes (account_key a) (entries_of i at (core_facts s)) ≡ load_given a (verdict_in (fold after_entry s (entries_of i at (core_facts s))).decisions (unwrap_or (event_token i) [])) i
own_loads s (input.Load token user d n) at a ready = by (load_reason (core_facts s) user)
  where
    fresh : verdict_in s.decisions token ≡ None
    fresh = undecided (input.Load token user d n) s ready token refl

    row : Option Reason → List Entry
    row why = entries_of_acts (acts_unless why token (Loads token user d n ∷ []))

    by : (why : Option Reason)
        → changed_among load_changes (account_key a) (entries_of_acts (acts_unless why token (Loads token user d n ∷ [])))
        ≡ load_given a (verdict_in (fold after_entry s (entries_of_acts (acts_unless why token (Loads token user d n ∷ [])))).decisions token) (input.Load token user d n)
    by (Some why) = declined_given a (input.Load token user d n) why ∙ ap (λ (v : Option Verdict). load_given a v (input.Load token user d n)) (sym (now_decided s.decisions token (verdict.Declined why) fresh))
    by None = loaded_one a token user d n ∙ ap (λ (v : Option Verdict). load_given a v (input.Load token user d n)) (sym (now_decided s.decisions token verdict.Done fresh))
own_loads s i at a ready =
    unloaded (account_key a) (entries_of i at (core_facts s)) (own_holds (core_facts s) i at (no_load (λ event user currency amount e. cc))).all
    ∙ none_given a (verdict_in (fold after_entry s (entries_of i at (core_facts s))).decisions (unwrap_or (event_token i) [])) i (λ c. refl) (λ user c. refl)

-- events ----

silent_in : (c : Currency) (i : Input) → event_token i ≡ None → loaded_in c i ≡ 0
silent_in c (input.Load token user currency amount) e = cc
silent_in c _ e = refl

silent_to : (user : List ℕ) (c : Currency) (i : Input) → event_token i ≡ None → loaded_to user c i ≡ 0
silent_to user c (input.Load token name currency amount) e = cc
silent_to user c _ e = refl

with_last : (ds : List Decision) (worth : Input → ℕ) (xs : List Accepted) (row : Accepted) → done_of ds worth (xs ++ row ∷ []) ≡ done_of ds worth xs + worth_if (verdict_in ds (token_of_event row)) (worth row.input)
with_last ds worth [] row = end (worth_if (verdict_in ds (token_of_event row)) (worth row.input))
  where
    end : (n : ℕ) → n + 0 ≡ 0 + n
    end n = omega arith
with_last ds worth (x ∷ xs) row =
    more (worth_if (verdict_in ds (token_of_event x)) (worth x.input)) (done_of ds worth xs) (worth_if (verdict_in ds (token_of_event row)) (worth row.input)) (done_of ds worth (xs ++ row ∷ [])) (with_last ds worth xs row)
  where
    more : (m n k z : ℕ) → z ≡ n + k → m + z ≡ m + n + k
    more m n k z e = omega (arith, e)

done_with : (ds : List Decision) (worth : Input → ℕ) (xs : List Accepted) (row : Accepted) (o : Option (List ℕ)) → event_token row.input ≡ o → (event_token row.input ≡ None → worth row.input ≡ 0)
    → done_of ds worth (xs ++ cond (is_some o) (row ∷ []) []) ≡ done_of ds worth xs + worth_if (verdict_in ds (token_of_event row)) (worth row.input)
done_with ds worth xs row (Some token) e silent = with_last ds worth xs row
done_with ds worth xs row None e silent =
    ap (done_of ds worth) (append-nil xs)
    ∙ last (done_of ds worth xs) (worth_if (verdict_in ds (token_of_event row)) (worth row.input)) (ap (worth_if (verdict_in ds (token_of_event row))) (silent e) ∙ either_none (is_done (verdict_in ds (token_of_event row))))
  where
    last : (m n : ℕ) → n ≡ 0 → m ≡ m + n
    last m n e = omega (arith, e)

-- the record's own event gives what it loads
pub loads_with : (ds : List Decision) (xs : List Accepted) (row : Accepted) (a : Account)
    → loads_of ds (xs ++ cond (is_some (event_token row.input)) (row ∷ []) []) a ≡ loads_of ds xs a +ℤ load_given a (verdict_in ds (token_of_event row)) row.input
loads_with ds xs row (account.Programme c) =
    ap (λ (n : ℕ). neg_ℤ (pos n)) (done_with ds (loaded_in c) xs row (event_token row.input) refl (silent_in c row.input))
    ∙ less (done_of ds (loaded_in c) xs) (worth_if (verdict_in ds (token_of_event row)) (loaded_in c row.input))
  where
    less : (m n : ℕ) → neg_ℤ (pos (m + n)) ≡ neg_ℤ (pos m) +ℤ neg_ℤ (pos n)
    less m n = omega (arith, ints)
loads_with ds xs row (account.User user c) =
    ap (λ (n : ℕ). pos n) (done_with ds (loaded_to user c) xs row (event_token row.input) refl (silent_to user c row.input))
    ∙ more (done_of ds (loaded_to user c) xs) (worth_if (verdict_in ds (token_of_event row)) (loaded_to user c row.input))
  where
    more : (m n : ℕ) → pos (m + n) ≡ pos m +ℤ pos n
    more m n = omega (arith, ints)
loads_with ds xs row (account.Gateway c) = refl
loads_with ds xs row (account.Network c) = refl
