-- Each act holds no more for a transaction than it approves, and pays no more for it from the programme than it approves and clears.
use Rattle.std.proofs.Common.{◌≡◌, ◌++◌, ◌∷◌, ◌+◌, ◌-◌, ◌+ℤ◌, ◌≤ℤ◌, ◌≤◌, ℕ, zero, suc, ℤ, pos, neg_ℤ, append_assoc, arith, Bool, cond, false, List, [], nat_eq, not, refl, subst, sym, true}
use Rattle.std.specs.Prelude.{Some, None, int_le}
use Rattle.std.specs.List.{list_all}
use Rattle.std.specs.Str.{bytes_eq}
use Rattle.std.proofs.lemmas.Bool.{and_parts}
use Rattle.std.proofs.lemmas.Int.{ints}
use Rattle.iss_model.specs.declared.account.Account.{Account}
use Rattle.iss_model.specs.declared.account.Account.TheVariants as account
use Rattle.iss_model.specs.declared.account.Part.{Part}
use Rattle.iss_model.specs.declared.account.Part.TheVariants as part
use Rattle.iss_model.specs.declared.call.How.TheVariants as how
use Rattle.iss_model.specs.declared.call.Method.TheVariants as method
use Rattle.iss_model.specs.declared.currency.Currency.{Currency}
use Rattle.iss_model.specs.declared.decision.Verdict.TheVariants as verdict
use Rattle.iss_model.specs.declared.entry.Entry.{Entry}
use Rattle.iss_model.specs.declared.entry.Entry.TheVariants as entry
use Rattle.iss_model.specs.declared.input.Input.{Input}
use Rattle.iss_model.specs.declared.txn.Txn.{Txn}
use Rattle.iss_model.specs.Sums.{cleared_by, paid_by, part_changes, part_key, txn_changes}
use Rattle.iss_model.specs.rules.Acts.{Act, Clears, Funds, FundsPart, HoldsOwn, StandsIn, act_entries}
use Rattle.iss_model.specs.rules.Asks.{rest_given_back, usage_of}
use Rattle.iss_model.specs.rules.CardReasons.{is_account_funded}
use Rattle.iss_model.specs.rules.Facts.{Accepted}
use Rattle.iss_model.specs.rules.Pieces.{Parts, hold_entries, in_all, notice_entry, only_gateway, only_where, post_entries, taken_to_clear, unhold_entries, user_account}
use Rattle.iss_model.specs.state.Cores.{CoreState, core_facts}
use Rattle.iss_acts.specs.Causes.{Cause, ComesOf}
use Rattle.iss_acts.specs.Items.{Freeing, FromProgramme, Holding, Item, Paying, has_item, item_entry}
use Rattle.iss_acts.specs.Sources.{IsMade}
use Rattle.iss_acts.specs.Stages.{Stage}
use Rattle.iss_acts.proofs.Passing.{EachPasses, act_passes, both_pass, one_passes, passing, where_passes}
use Rattle.iss_acts.proofs.Walk.{Holds}
use Rattle.iss_state.proofs.effects.Finds.{number_is}
use Rattle.iss_states.specs.Again.{amount_of_event}
use Rattle.iss_states.proofs.FairSums.{among_append}
use Rattle.iss_decided.specs.Approved.{approved_amount}
use Rattle.iss_decided.proofs.ApprovedSums.{IsApproved, approved_among, approved_append, approved_by, asked_approved, both_approved, cleared_among, held_among, part_among}
use Rattle.iss_decided.proofs.AskedEvents.{CallsWereAsked, IsTakenIn, WasAsked, call_asked, own_asked, settled_asked}
use Rattle.iss_decided.proofs.UnpaidActs.{paid_among}

least : (n : ℕ) → pos 0 ≤ℤ pos n
least n = omega (arith, ints)

-- entries that need no approval ----

-- the programme pays a user
abbrev pays_from_programme : Account → Account → Bool
pays_from_programme (account.Programme c) (account.User user d) = true
pays_from_programme _ _ = false

-- an entry holds no more, and pays nothing from the programme for a transaction
abbrev is_mild : Entry → Bool
is_mild (entry.Post from to amount (Some txn)) = not (pays_from_programme from to)
is_mild (entry.Hold txn user currency p amount) = int_le amount (pos 0)
is_mild _ = true

mild_post : (from to : Account) (n : ℕ) → not (pays_from_programme from to) ≡ true → paid_by from to n ≤ℤ cleared_by from to n
mild_post (account.Programme c) (account.User user d) n h = cc
mild_post (account.User user c) (account.Programme d) n h = below n
  where
    below : (n : ℕ) → neg_ℤ (pos n) ≤ℤ pos 0
    below n = omega (arith, ints)
mild_post (account.User user c) (account.Network d) n h = least n
mild_post _ _ n h = least 0

mild_entry : (token : List ℕ) (xs : List Accepted) (e : Entry) → is_mild e ≡ true → IsApproved token xs (e ∷ [])
mild_entry token xs (entry.Post from to amount (Some txn)) h =
    record { held = least 0; paid = by (bytes_eq txn token) (paid_by from to amount) (cleared_by from to amount) (mild_post from to amount h) }
  where
    by : (b : Bool) (x y : ℤ) → x ≤ℤ y → ((cond b x (pos 0) +ℤ pos 0) +ℤ pos 0) ≤ℤ (pos 0 +ℤ ((cond b y (pos 0) +ℤ pos 0) +ℤ pos 0))
    by true x y h = omega (arith, ints, h)
    by false x y h = omega (arith, ints)
mild_entry token xs (entry.Post from to amount None) h = record { held = least 0; paid = least 0 }
mild_entry token xs (entry.Hold txn user currency p amount) h =
    record {
      held = three (bytes_eq (part_key txn p) (part_key token part.G)) (bytes_eq (part_key txn p) (part_key token part.P)) (bytes_eq (part_key txn p) (part_key token part.S)) amount (at_most amount h);
      paid = least 0;
    }
  where
    at_most : (z : ℤ) → int_le z (pos 0) ≡ true → z ≤ℤ pos 0
    at_most z h = omega (arith, ints, h)

    one : (b : Bool) (z : ℤ) → z ≤ℤ pos 0 → ((cond b z (pos 0) +ℤ pos 0) +ℤ pos 0) ≤ℤ pos 0
    one true z h = omega (arith, ints, h)
    one false z h = least 0

    sum : (x y z : ℤ) → x ≤ℤ pos 0 → y ≤ℤ pos 0 → z ≤ℤ pos 0 → ((x +ℤ y) +ℤ z) ≤ℤ pos 0
    sum x y z e f g = omega (arith, ints, e, f, g)

    three : (a b c : Bool) (z : ℤ) → z ≤ℤ pos 0
        → ((((cond a z (pos 0) +ℤ pos 0) +ℤ pos 0) +ℤ ((cond b z (pos 0) +ℤ pos 0) +ℤ pos 0)) +ℤ ((cond c z (pos 0) +ℤ pos 0) +ℤ pos 0)) ≤ℤ pos 0
    three a b c z h = sum ((cond a z (pos 0) +ℤ pos 0) +ℤ pos 0) ((cond b z (pos 0) +ℤ pos 0) +ℤ pos 0) ((cond c z (pos 0) +ℤ pos 0) +ℤ pos 0) (one a z h) (one b z h) (one c z h)
mild_entry token xs (entry.Decided event v) h = record { held = least (approved_by token event v xs + 0); paid = least_sum (approved_by token event v xs + 0) }
  where
    least_sum : (n : ℕ) → pos 0 ≤ℤ (pos n +ℤ pos 0)
    least_sum n = omega (arith, ints)
mild_entry token xs _ h = record { held = least 0; paid = least 0 }

mild_list : (token : List ℕ) (xs : List Accepted) (es : List Entry) → list_all is_mild es ≡ true → IsApproved token xs es
mild_list token xs [] h = record { held = least 0; paid = least 0 }
mild_list token xs (e ∷ es) h =
    let both = and_parts (is_mild e) (list_all is_mild es) h in
    both_approved (mild_entry token xs e both.0) (mild_list token xs es both.1)

mild : {token : List ℕ} {xs : List Accepted} {es : List Entry} → EachPasses is_mild es → IsApproved token xs es
mild {token} {xs} {es} h = mild_list token xs es h.all

-- what is approved pays for what is held and paid ----

-- entries hold and pay at most this amount for a transaction
record IsWorth (token : List ℕ) (b : Bool) (n : ℕ) (es : List Entry) : Type 0 where
  held : held_among token es ≤ℤ cond b (pos n) (pos 0)
  paid : paid_among token es ≤ℤ (cond b (pos n) (pos 0) +ℤ cleared_among token es)

-- entries that approve this amount, and move nothing
record Approves (token : List ℕ) (xs : List Accepted) (b : Bool) (n : ℕ) (es : List Entry) : Type 0 where
  held : held_among token es ≡ pos 0
  paid : paid_among token es ≡ pos 0
  cleared : cleared_among token es ≡ pos 0
  approved : cond b n 0 ≤ approved_among token xs es

inside_amount : (b : Bool) (n : ℕ) → cond b (pos n) (pos 0) ≡ pos (cond b n 0)
inside_amount true n = refl
inside_amount false n = refl

-- the amount of the first entries is approved by the last ones, which move nothing
held_worth : (g p s a b c d e f z : ℤ) (n m k l : ℕ) → g ≡ a +ℤ b → p ≡ c +ℤ d → s ≡ e +ℤ f → n ≡ m + k → z ≡ pos l → ((a +ℤ c) +ℤ e) ≤ℤ z → ((b +ℤ d) +ℤ f) ≡ pos 0 → l ≤ k → ((g +ℤ p) +ℤ s) ≤ℤ pos n
held_worth g p s a b c d e f z n m k l e1 e2 e3 e4 e5 h i j = omega (arith, ints, e1, e2, e3, e4, e5, h, i, j)

paid_worth : (x y a b c d z : ℤ) (n m k l : ℕ) → x ≡ a +ℤ b → y ≡ c +ℤ d → n ≡ m + k → z ≡ pos l → a ≤ℤ (z +ℤ c) → b ≡ pos 0 → d ≡ pos 0 → l ≤ k → x ≤ℤ (pos n +ℤ y)
paid_worth x y a b c d z n m k l e1 e2 e3 e4 h i j o = omega (arith, ints, e1, e2, e3, e4, h, i, j, o)

worth_approved : {token : List ℕ} {xs : List Accepted} {b : Bool} {n : ℕ} (es fs : List Entry) → IsWorth token b n es → Approves token xs b n fs → IsApproved token xs (es ++ fs)
worth_approved {token} {xs} {b} {n} es fs h k =
    record {
      held =
          held_worth (part_among part.G token (es ++ fs)) (part_among part.P token (es ++ fs)) (part_among part.S token (es ++ fs))
          (part_among part.G token es) (part_among part.G token fs) (part_among part.P token es) (part_among part.P token fs) (part_among part.S token es) (part_among part.S token fs) (cond b (pos n) (pos 0))
          (approved_among token xs (es ++ fs)) (approved_among token xs es) (approved_among token xs fs) (cond b n 0)
          (among_append part_changes (part_key token part.G) es fs) (among_append part_changes (part_key token part.P) es fs) (among_append part_changes (part_key token part.S) es fs)
          (approved_append token xs es fs) (inside_amount b n) h.held k.held k.approved;
      paid =
          paid_worth (paid_among token (es ++ fs)) (cleared_among token (es ++ fs)) (paid_among token es) (paid_among token fs) (cleared_among token es) (cleared_among token fs) (cond b (pos n) (pos 0))
          (approved_among token xs (es ++ fs)) (approved_among token xs es) (approved_among token xs fs) (cond b n 0)
          (among_append (txn_changes paid_by) token es fs) (among_append (txn_changes cleared_by) token es fs) (approved_append token xs es fs) (inside_amount b n) h.paid k.paid k.cleared k.approved;
    }

-- money that comes and is held is worth its amount
own_worth : (token : List ℕ) (t : Txn) (n : ℕ) → IsWorth token (bytes_eq t.token token) n (hold_entries t part.S n)
own_worth token t n = by (nat_eq n 0)
  where
    nothing : (b : Bool) → pos 0 ≤ℤ cond b (pos n) (pos 0)
    nothing true = least n
    nothing false = least 0

    none : (b : Bool) → pos 0 ≤ℤ (cond b (pos n) (pos 0) +ℤ pos 0)
    none true = omega (arith, ints)
    none false = least 0

    its : (b : Bool) → (pos 0 +ℤ ((cond b (pos n) (pos 0) +ℤ pos 0) +ℤ pos 0)) ≤ℤ cond b (pos n) (pos 0)
    its true = omega (arith, ints)
    its false = least 0

    by : (z : Bool) → IsWorth token (bytes_eq t.token token) n (cond z [] (entry.Hold t.token t.user t.currency part.S (pos n) ∷ []))
    by true = record { held = nothing (bytes_eq t.token token); paid = none (bytes_eq t.token token) }
    by false = record { held = its (bytes_eq t.token token); paid = none (bytes_eq t.token token) }

gateway_worth : (token : List ℕ) (t : Txn) (n : ℕ) → IsWorth token (bytes_eq t.token token) n (post_entries t (account.Gateway t.currency) (user_account t) n ++ hold_entries t part.G n)
gateway_worth token t n = by (nat_eq n 0)
  where
    nothing : (b : Bool) → pos 0 ≤ℤ cond b (pos n) (pos 0)
    nothing true = least n
    nothing false = least 0

    none : (b : Bool) → pos 0 ≤ℤ (cond b (pos n) (pos 0) +ℤ pos 0)
    none true = omega (arith, ints)
    none false = least 0

    its : (b : Bool) → (((pos 0 +ℤ ((cond b (pos n) (pos 0) +ℤ pos 0) +ℤ pos 0)) +ℤ pos 0) +ℤ pos 0) ≤ℤ cond b (pos n) (pos 0)
    its true = omega (arith, ints)
    its false = least 0

    paid : (b : Bool) → ((cond b (pos 0) (pos 0) +ℤ pos 0) +ℤ (pos 0 +ℤ pos 0)) ≤ℤ (cond b (pos n) (pos 0) +ℤ ((cond b (pos 0) (pos 0) +ℤ pos 0) +ℤ (pos 0 +ℤ pos 0)))
    paid true = omega (arith, ints)
    paid false = least 0

    by : (z : Bool) → IsWorth token (bytes_eq t.token token) n (cond z [] (entry.Post (account.Gateway t.currency) (user_account t) n (Some t.token) ∷ []) ++ cond z [] (entry.Hold t.token t.user t.currency part.G (pos n) ∷ []))
    by true = record { held = nothing (bytes_eq t.token token); paid = none (bytes_eq t.token token) }
    by false = record { held = its (bytes_eq t.token token); paid = paid (bytes_eq t.token token) }

programme_worth : (token : List ℕ) (t : Txn) (n : ℕ) → IsWorth token (bytes_eq t.token token) n (post_entries t (account.Programme t.currency) (user_account t) n ++ hold_entries t part.P n)
programme_worth token t n = by (nat_eq n 0)
  where
    nothing : (b : Bool) → pos 0 ≤ℤ cond b (pos n) (pos 0)
    nothing true = least n
    nothing false = least 0

    none : (b : Bool) → pos 0 ≤ℤ (cond b (pos n) (pos 0) +ℤ pos 0)
    none true = omega (arith, ints)
    none false = least 0

    its : (b : Bool) → ((pos 0 +ℤ (pos 0 +ℤ ((cond b (pos n) (pos 0) +ℤ pos 0) +ℤ pos 0))) +ℤ pos 0) ≤ℤ cond b (pos n) (pos 0)
    its true = omega (arith, ints)
    its false = least 0

    paid : (b : Bool) → ((cond b (pos n) (pos 0) +ℤ pos 0) +ℤ (pos 0 +ℤ pos 0)) ≤ℤ (cond b (pos n) (pos 0) +ℤ ((cond b (pos 0) (pos 0) +ℤ pos 0) +ℤ (pos 0 +ℤ pos 0)))
    paid true = omega (arith, ints)
    paid false = least 0

    by : (z : Bool) → IsWorth token (bytes_eq t.token token) n (cond z [] (entry.Post (account.Programme t.currency) (user_account t) n (Some t.token) ∷ []) ++ cond z [] (entry.Hold t.token t.user t.currency part.P (pos n) ∷ []))
    by true = record { held = nothing (bytes_eq t.token token); paid = none (bytes_eq t.token token) }
    by false = record { held = its (bytes_eq t.token token); paid = paid (bytes_eq t.token token) }

-- verdicts ----

whole_worth : (amount : ℕ) (i : Input) → amount_of_event i ≡ amount → approved_amount (Some verdict.Approved) i ≡ amount
whole_worth amount i e = e

part_worth : (currency : Currency) (n amount : ℕ) (i : Input) → amount_of_event i ≡ amount → approved_amount (Some (verdict.Partial currency n)) i ≡ n
part_worth currency n amount i e = refl

with_none : (m n : ℕ) → m ≤ n → m ≤ n + 0
with_none m n h = omega (arith, h)

-- an ask of this amount is approved
approves_all : (token : List ℕ) (xs : List Accepted) (event txn : List ℕ) (amount : ℕ) → WasAsked xs event txn amount → Approves token xs (bytes_eq txn token) amount (entry.Decided event verdict.Approved ∷ [])
approves_all token xs event txn amount asked =
    record {
      held = refl;
      paid = refl;
      cleared = refl;
      approved = with_none (cond (bytes_eq txn token) amount 0) (approved_by token event verdict.Approved xs) (asked_approved token event txn amount amount verdict.Approved (whole_worth amount) xs asked);
    }

-- an ask is approved for a part
approves_part : (token : List ℕ) (xs : List Accepted) (event txn : List ℕ) (amount : ℕ) (currency : Currency) (n : ℕ) → WasAsked xs event txn amount
    → Approves token xs (bytes_eq txn token) n (entry.Decided event (verdict.Partial currency n) ∷ [])
approves_part token xs event txn amount currency n asked =
    record {
      held = refl;
      paid = refl;
      cleared = refl;
      approved = with_none (cond (bytes_eq txn token) n 0) (approved_by token event (verdict.Partial currency n) xs) (asked_approved token event txn amount n (verdict.Partial currency n) (part_worth currency n amount) xs asked);
    }

-- a clearing ----

-- the rest that the programme pays is no more than what is cleared
cleared_approved : (token : List ℕ) (xs : List Accepted) (t : Txn) (excess amount : ℕ) → excess ≤ amount
    → IsApproved token xs (only_gateway t (post_entries t (account.Programme t.currency) (user_account t) excess) ++ post_entries t (user_account t) (account.Network t.currency) amount)
cleared_approved token xs t excess amount within = by (is_account_funded t.funding) (nat_eq excess 0) (nat_eq amount 0) refl
  where
    no_rest : (b : Bool) → ((cond b (pos 0) (pos 0) +ℤ pos 0) +ℤ pos 0) ≤ℤ (pos 0 +ℤ ((cond b (pos amount) (pos 0) +ℤ pos 0) +ℤ pos 0))
    no_rest true = omega (arith, ints)
    no_rest false = least 0

    rest_alone : (b : Bool) → amount ≡ 0 → ((cond b (pos excess) (pos 0) +ℤ pos 0) +ℤ pos 0) ≤ℤ (pos 0 +ℤ ((cond b (pos 0) (pos 0) +ℤ pos 0) +ℤ pos 0))
    rest_alone true e = omega (arith, ints, within, e)
    rest_alone false e = least 0

    both : (b : Bool) → ((cond b (pos excess) (pos 0) +ℤ pos 0) +ℤ ((cond b (pos 0) (pos 0) +ℤ pos 0) +ℤ pos 0))
        ≤ℤ (pos 0 +ℤ ((cond b (pos 0) (pos 0) +ℤ pos 0) +ℤ ((cond b (pos amount) (pos 0) +ℤ pos 0) +ℤ pos 0)))
    both true = omega (arith, ints, within)
    both false = least 0

    by : (own none all : Bool) → nat_eq amount 0 ≡ all
        → IsApproved token xs (cond own [] (cond none [] (entry.Post (account.Programme t.currency) (user_account t) excess (Some t.token) ∷ [])) ++ cond all [] (entry.Post (user_account t) (account.Network t.currency) amount (Some t.token) ∷ []))
    by true none true e = record { held = least 0; paid = least 0 }
    by true none false e = record { held = least 0; paid = no_rest (bytes_eq t.token token) }
    by false true true e = record { held = least 0; paid = least 0 }
    by false true false e = record { held = least 0; paid = no_rest (bytes_eq t.token token) }
    by false false true e = record { held = least 0; paid = rest_alone (bytes_eq t.token token) (number_is amount 0 e) }
    by false false false e = record { held = least 0; paid = both (bytes_eq t.token token) }

no_more_held : (n : ℕ) → int_le (neg_ℤ (pos n)) (pos 0) ≡ true
no_more_held zero = refl
no_more_held (suc n) = refl

unhold_mild : (t : Txn) (p : Part) (n : ℕ) → EachPasses is_mild (unhold_entries t p n)
unhold_mild t p n = where_passes n (one_passes (no_more_held n))

clearing_approved : (token : List ℕ) (xs : List Accepted) (t : Txn) (parts : Parts) (amount at : ℕ) → IsApproved token xs (act_entries (Clears t parts amount at))
clearing_approved token xs t parts amount at =
    let taken : Parts = taken_to_clear parts amount in
    let excess : ℕ = amount - in_all taken in
    let freed : List Entry = unhold_entries t part.G taken.g ++ unhold_entries t part.P taken.p ++ unhold_entries t part.S taken.s in
    let rest : List Entry = only_gateway t (post_entries t (account.Programme t.currency) (user_account t) excess) in
    let paid : List Entry = post_entries t (user_account t) (account.Network t.currency) amount in
    let used : List Entry = only_where excess (entry.Usage (usage_of t (pos excess) (pos 0) at) ∷ []) in
    subst (λ (es : List Entry). IsApproved token xs (es ++ used)) (sym (append_assoc freed rest paid))
    (both_approved (both_approved (mild (both_pass (both_pass (unhold_mild t part.G taken.g) (unhold_mild t part.P taken.p)) (unhold_mild t part.S taken.s))) (cleared_approved token xs t excess amount (at_most amount (in_all taken))))
    (mild (where_passes excess (one_passes refl))))
  where
    at_most : (n m : ℕ) → n - m ≤ n
    at_most n m = omega arith

-- acts ----

-- an act that approves and clears nothing
abbrev is_plain : Act → Bool
is_plain (HoldsOwn ask) = false
is_plain (Funds o t) = false
is_plain (FundsPart o t amount) = false
is_plain (StandsIn number ask at set) = false
is_plain (Clears t parts amount at) = false
is_plain _ = true

plain_item : (a : Act) → is_plain a ≡ true → (x : Item) → has_item a x ≡ true → is_mild (item_entry x) ≡ true
plain_item (HoldsOwn ask) plain x has = cc
plain_item (Funds o t) plain x has = cc
plain_item (FundsPart o t amount) plain x has = cc
plain_item (StandsIn number ask at set) plain x has = cc
plain_item (Clears t parts amount at) plain x has = cc
plain_item a plain (Paying FromProgramme t n) has = cc
plain_item a plain (Holding t p n) has = cc
plain_item a plain (Freeing t p n) has = no_more_held n
plain_item a plain _ has = refl

module _ (by : Cause) (at : ℕ) (s : CoreState) (taken : (i : Input) → by ≡ ComesOf i → IsTakenIn i s.accepted) (calls : CallsWereAsked s) where
  act_approved : (token : List ℕ) (g : Stage) (a : Act) → IsMade (core_facts s) by at g a → IsApproved token s.accepted (act_entries a)
  act_approved token g (HoldsOwn ask) made =
      worth_approved (hold_entries ask.txn part.S ask.amount) (entry.Decided ask.event verdict.Approved ∷ []) (own_worth token ask.txn ask.amount) (approves_all token s.accepted ask.event ask.txn.token ask.amount (own_asked s taken made.from.1))
  act_approved token g (Funds o t) made =
      let closed : IsApproved token s.accepted (entry.Closed o.call how.Funded ∷ []) = mild (one_passes refl) in
      both_approved closed
      (worth_approved (post_entries t (account.Gateway t.currency) (user_account t) o.amount ++ hold_entries t part.G o.amount) (entry.Decided o.event verdict.Approved ∷ []) (gateway_worth token t o.amount)
      (approves_all token s.accepted o.event t.token o.amount (call_asked s calls made.from.1)))
  act_approved token g (FundsPart o t amount) made =
      let closed : IsApproved token s.accepted (entry.Closed o.call (how.Partial amount) ∷ entry.Usage (rest_given_back o t amount) ∷ []) = mild (passing refl) in
      both_approved closed
      (worth_approved (post_entries t (account.Gateway t.currency) (user_account t) amount ++ hold_entries t part.G amount) (entry.Decided o.event (verdict.Partial t.currency amount) ∷ []) (gateway_worth token t amount)
      (approves_part token s.accepted o.event t.token o.amount t.currency amount (call_asked s calls made.from.1)))
  act_approved token g (StandsIn number ask when set) made =
      let t : Txn = ask.txn in
      let stood : IsApproved token s.accepted (entry.Stood set.name t.product t.user ask.amount when ∷ []) = mild (one_passes refl) in
      let decided = approves_all token s.accepted ask.event t.token ask.amount (settled_asked s taken calls made.from.1) in
      both_approved stood
      (worth_approved (post_entries t (account.Programme t.currency) (user_account t) ask.amount ++ hold_entries t part.P ask.amount) (notice_entry number method.StandIn t None ask.amount 0 ∷ entry.Decided ask.event verdict.Approved ∷ [])
      (programme_worth token t ask.amount) (record { held = refl; paid = refl; cleared = refl; approved = later (cond (bytes_eq t.token token) ask.amount 0) (approved_among token s.accepted (entry.Decided ask.event verdict.Approved ∷ [])) decided.approved }))
    where
      later : (m n : ℕ) → m ≤ n → m ≤ 0 + n
      later m n h = omega (arith, h)
  act_approved token g (Clears t parts amount when) made = clearing_approved token s.accepted t parts amount when
  act_approved token g a made = mild (act_passes a (plain_item a refl))

  pub all_approved : (token : List ℕ) → Holds (core_facts s) by at (IsApproved token s.accepted)
  all_approved token = record { none = mild (passing refl); then = both_approved; act = act_approved token }
