-- No entry opens more than use counts with it.
use Rattle.std.proofs.Common.{◌≡◌, ℕ, ℤ, pos, neg_ℤ, ◌+ℤ◌, ◌+◌, ◌≤◌, Bool, true, false, cond, ◌&&◌, nat_eq, List, [], ◌∷◌, ◌++◌, fold, refl, sym, ap, ap₂, subst, ◌∙◌, arith}
use Rattle.std.proofs.lemmas.Int.{ints}
use Rattle.std.proofs.lemmas.Bool.{and_parts}
use Rattle.std.proofs.lemmas.List.Sums.{fold-append}
use Rattle.std.specs.Prelude.{◌≤ℤ◌, Option, None}
use Rattle.std.specs.List.{list_all}
use Rattle.iss_model.specs.declared.account.Part.{Part}
use Rattle.iss_model.specs.declared.call.How.{How}
use Rattle.iss_model.specs.declared.call.Opened.{Opened}
use Rattle.iss_model.specs.declared.entry.Entry.{Entry}
use Rattle.iss_model.specs.declared.entry.Entry.TheVariants as entry
use Rattle.iss_model.specs.declared.input.Input.{Input}
use Rattle.iss_model.specs.declared.input.Input.TheVariants as input
use Rattle.iss_model.specs.declared.setting.Moved.TheVariants as moved
use Rattle.iss_model.specs.declared.txn.Txn.{Txn}
use Rattle.iss_model.specs.Sums.{part_key}
use Rattle.iss_model.specs.rules.Activity.{TxnNow, CallNow, is_asked, txn_named}
use Rattle.iss_model.specs.rules.Asks.{Ask, call_ask, usage_of}
use Rattle.iss_model.specs.rules.Pieces.{hold_entries, unhold_entries}
use Rattle.iss_model.specs.rules.Reasons.{is_some_with}
use Rattle.iss_model.specs.state.Cores.{CoreState, after_entry, after_setting, is_live}
use Rattle.iss_model.specs.state.Kept.{after_changes}
use Rattle.iss_state.specs.Stakes.{part_held, whole_held}
use Rattle.iss_state.proofs.effects.Finds.{number_is}
use Rattle.iss_state.proofs.effects.Parts.{change_of, whole_less, whole_more}
use Rattle.iss_acts.proofs.Passing.{EachPasses}
use Rattle.iss_state.specs.Well.{IsAsked}
use Rattle.iss_state.proofs.docket.Closing.{by_itself}
use Rattle.iss_state.proofs.docket.Lists.{Each}
use Rattle.iss_state.specs.Holdings.{HoldsNothing}
use Rattle.iss_agreement.proofs.StepSums.{among_summed}
use Rattle.iss_laws.proofs.OpenCalls.{Counting, is_usage, IsCounting, used, weight, holds_there, reaches, opens, held_open, call_reaches, call_open, calls_open, open_use, Knows, its_open, held_moves, calls_lower, calls_less, calls_more, zero_either, held_begun, IsOfThese, calls_begun, held_ended, calls_ended}

-- entries within a budget ----

-- what entries open is no more than the use that they count and this amount more
pub record Within (k : Counting) (s : CoreState) (es : List Entry) (more : ℤ) : Type 0 where
  pub le : pos (open_use k (fold after_entry s es)) ≤ℤ ((pos (open_use k s) +ℤ more) +ℤ used k es)

-- what entries open is no more than the use that they count
abbrev pub Pays : Counting → CoreState → List Entry → Type 0
Pays k s es = Within k s es (pos 0)

pub both_within : (k : Counting) (s : CoreState) (xs ys : List Entry) (a b : ℤ) → Within k s xs a → Within k (fold after_entry s xs) ys b → Within k s (xs ++ ys) (a +ℤ b)
both_within k s xs ys a b h l =
    record {
      le = subst (λ (q : CoreState). pos (open_use k q) ≤ℤ ((pos (open_use k s) +ℤ (a +ℤ b)) +ℤ used k (xs ++ ys))) (sym (fold-append after_entry s xs ys))
          (omega (arith, ints, among_summed k.changes k.key xs ys, h.le, l.le));
    }

pub weaker : (k : Counting) (s : CoreState) (es : List Entry) (a b : ℤ) → a ≤ℤ b → Within k s es a → Within k s es b
weaker k s es a b le h = record { le = omega (arith, ints, le, h.le) }

pub both_pay : (k : Counting) (s : CoreState) (xs ys : List Entry) → Pays k s xs → Pays k (fold after_entry s xs) ys → Pays k s (xs ++ ys)
both_pay k s xs ys h l = both_within k s xs ys (pos 0) (pos 0) h l

-- entries that count nothing and open nothing ----

abbrev pub is_free : Entry → Bool
is_free (entry.Began t) = false
is_free (entry.Opened o) = false
is_free (entry.Hold txn user currency p amount) = false
is_free (entry.Usage row) = false
is_free _ = true

at_most_itself : (n : ℕ) → n ≤ n
at_most_itself n = omega arith

setting_open : (k : Counting) (s : CoreState) (i : Input) → open_use k (after_setting s i) ≤ open_use k s
setting_open k s (input.Move token (moved.Card card to)) = at_most_itself (open_use k s)
setting_open k s (input.Move token (moved.User user to)) = at_most_itself (open_use k s)
setting_open k s _ = at_most_itself (open_use k s)

free_open : (k : Counting) (s : CoreState) (e : Entry) → is_free e ≡ true → open_use k (after_entry s e) ≤ open_use k s
free_open k s (entry.Conf i) h = setting_open k s i
free_open k s (entry.Began t) h = cc
free_open k s (entry.Opened o) h = cc
free_open k s (entry.Hold txn user currency p amount) h = cc
free_open k s (entry.Usage row) h = cc
free_open k s (entry.Closed call how) h =
    omega (arith, calls_lower k s.holdings.txns call.0 how s.calls)
free_open k s (entry.Ended txn) h =
    omega (arith, ap₂ (λ (m n : ℕ). m + n) (held_ended k s.holdings.parts txn s.holdings.txns) (calls_ended k txn s.holdings.txns s.calls))
free_open k s _ h = at_most_itself (open_use k s)

free_is_no_usage : (e : Entry) → is_free e ≡ true → is_usage e ≡ false
free_is_no_usage (entry.Usage row) h = cc
free_is_no_usage _ h = refl

pub free_pays : (k : Counting) → IsCounting k → (s : CoreState) (es : List Entry) → EachPasses is_free es → Pays k s es
free_pays k counting s es h = by s es h.all
  where
    by : (s : CoreState) (es : List Entry) → list_all is_free es ≡ true → Pays k s es
    by s [] h = record { le = omega (arith, ints) }
    by s (e ∷ es) h =
        let parts = and_parts (is_free e) (list_all is_free es) h in
        let rest : Pays k (after_entry s e) es = by (after_entry s e) es parts.1 in
        record {
          le = omega (arith, ints, counting.others e (free_is_no_usage e parts.0), free_open k s e parts.0, rest.le);
        }

-- single entries ----

-- use is counted, and nothing opened
pub usage_within : (k : Counting) → IsCounting k → (s : CoreState) (t : Txn) (amount count : ℤ) (at : ℕ)
    → Within k s (entry.Usage (usage_of t amount count at) ∷ []) (neg_ℤ (cond (k.counts_at t at) (cond k.by_amount amount count) (pos 0)))
usage_within k counting s t amount count at =
    record {
      le = omega (arith, ints, counting.use_ t amount count at);
    }

-- one entry that counts nothing
alone_within : (k : Counting) → IsCounting k → (s : CoreState) (e : Entry) (more : ℤ) → is_usage e ≡ false → pos (open_use k (after_entry s e)) ≤ℤ (pos (open_use k s) +ℤ more) → Within k s (e ∷ []) more
alone_within k counting s e more none le =
    record { le = omega (arith, ints, counting.others e none, le) }

-- what a hold moves of a transaction that is known
hold_moves : (k : Counting) (s : CoreState) (t : Txn) (p : Part) (x : ℤ) → Knows s.holdings.txns t
    → held_open k (after_changes s.holdings.parts (change_of (part_key t.token p) x)) s.holdings.txns + its_open k s.holdings.parts t
    ≡ held_open k s.holdings.parts s.holdings.txns + its_open k (after_changes s.holdings.parts (change_of (part_key t.token p) x)) t
hold_moves k s t p x knows = held_moves k s.holdings.parts t p x knows.now knows.its s.holdings.txns knows.own knows.stands

pub hold_within : (k : Counting) → IsCounting k → (s : CoreState) (t : Txn) (p : Part) (n : ℕ) → Knows s.holdings.txns t → Within k s (hold_entries t p n) (pos (cond (holds_there k t) n 0))
hold_within k counting s t p n knows = by (nat_eq n 0)
  where
    more : (b : Bool) (a c d v w n : ℕ) → a + cond b v 0 ≡ c + cond b w 0 → w ≤ v + n → pos (a + d) ≤ℤ (pos (c + d) +ℤ pos (cond b n 0))
    more true a c d v w n e h = omega (arith, ints, e, h)
    more false a c d v w n e h = omega (arith, ints, e)

    by : (b : Bool) → Within k s (cond b [] (entry.Hold t.token t.user t.currency p (pos n) ∷ [])) (pos (cond (holds_there k t) n 0))
    by true = record { le = omega (arith, ints) }
    by false =
        alone_within k counting s (entry.Hold t.token t.user t.currency p (pos n)) (pos (cond (holds_there k t) n 0)) refl
        (more (holds_there k t) _ _ (calls_open k s.holdings.txns s.calls) (whole_held s.holdings.parts t.token)
        (whole_held (after_changes s.holdings.parts (change_of (part_key t.token p) (pos n))) t.token) n
        (hold_moves k s t p (pos n) knows) (whole_more s.holdings.parts t.token p n))

pub unhold_within : (k : Counting) → IsCounting k → (s : CoreState) (t : Txn) (p : Part) (n : ℕ) → Knows s.holdings.txns t → n ≤ part_held s.holdings.parts t.token p
    → Within k s (unhold_entries t p n) (neg_ℤ (pos (cond (holds_there k t) n 0)))
unhold_within k counting s t p n knows le = by (nat_eq n 0) refl
  where
    less : (b : Bool) (a c d v w n : ℕ) → a + cond b v 0 ≡ c + cond b w 0 → w + n ≡ v → pos (a + d) ≤ℤ (pos (c + d) +ℤ neg_ℤ (pos (cond b n 0)))
    less true a c d v w n e h = omega (arith, ints, e, h)
    less false a c d v w n e h = omega (arith, ints, e)

    by : (b : Bool) → nat_eq n 0 ≡ b → Within k s (cond b [] (entry.Hold t.token t.user t.currency p (neg_ℤ (pos n)) ∷ [])) (neg_ℤ (pos (cond (holds_there k t) n 0)))
    by true e = record { le = omega (arith, ints, zero_either (holds_there k t) n (number_is n 0 e)) }
    by false e =
        alone_within k counting s (entry.Hold t.token t.user t.currency p (neg_ℤ (pos n))) (neg_ℤ (pos (cond (holds_there k t) n 0))) refl
        (less (holds_there k t) _ _ (calls_open k s.holdings.txns s.calls) (whole_held s.holdings.parts t.token)
        (whole_held (after_changes s.holdings.parts (change_of (part_key t.token p) (neg_ℤ (pos n)))) t.token) n
        (hold_moves k s t p (neg_ℤ (pos n)) knows) (whole_less s.holdings.parts t.token p n le))

-- an asked call opens what its ask may open
call_is_ask : (k : Counting) (txns : List TxnNow) (c : CallNow) (t : Txn) → Knows txns t → c.opened.txn ≡ t.token → is_asked c ≡ true → call_open k txns c ≡ opens k (call_ask c.opened t)
call_is_ask k txns c t knows same asked =
    ap (λ (b : Bool). cond (b && call_reaches k txns c) (weight k c.opened) 0) asked
    ∙ ap (λ (o : Option TxnNow). cond (is_some_with (λ (t : TxnNow). reaches k t.txn c.opened.at) o) (weight k c.opened) 0) (ap (λ (x : List ℕ). txn_named x txns) same ∙ knows.stands)
    ∙ ap (λ (x : Txn). cond (reaches k x c.opened.at) (weight k c.opened) 0) knows.its

pub close_within : (k : Counting) → IsCounting k → (s : CoreState) (n : ℕ) (c : CallNow) (t : Txn) (how : How) → Knows s.holdings.txns t → c.opened.txn ≡ t.token → IsAsked s.calls n c
    → Within k s (entry.Closed c.opened.call how ∷ []) (neg_ℤ (pos (opens k (call_ask c.opened t))))
close_within k counting s n c t how knows same now =
    alone_within k counting s (entry.Closed c.opened.call how) (neg_ℤ (pos (opens k (call_ask c.opened t)))) refl
    (omega (arith, ints, call_is_ask k s.holdings.txns c t knows same now.asked, calls_less k s.holdings.txns c.opened.call.0 how s.calls c (by_itself s.calls n c now).stands now.asked))

pub open_within : (k : Counting) → IsCounting k → (s : CoreState) (o : Opened) (t : Txn) (ask : Ask) → Knows s.holdings.txns t → o.txn ≡ t.token → call_ask o t ≡ ask
    → Within k s (entry.Opened o ∷ []) (pos (opens k ask))
open_within k counting s o t ask knows same its =
    let c : CallNow = record { opened = o; how = None } in
    alone_within k counting s (entry.Opened o) (pos (opens k ask)) refl
    (omega (arith, ints, calls_more k s.holdings.txns s.calls c, call_is_ask k s.holdings.txns c t knows same refl ∙ ap (opens k) its))

pub begin_pays : (k : Counting) → IsCounting k → (s : CoreState) (t : Txn) → HoldsNothing s.holdings.parts t.token → Each (IsOfThese s.holdings.txns) s.calls → Pays k s (entry.Began t ∷ [])
begin_pays k counting s t nothing its =
    alone_within k counting s (entry.Began t) (pos 0) refl
    (omega (
      arith,
      ints,
      ap₂ (λ (m n : ℕ). m + n) (held_begun k s.holdings.parts s.holdings.txns t (is_live s.holdings.txns t.token) nothing)
          (calls_begun k s.holdings.txns (record { txn = t; live = is_live s.holdings.txns t.token }) s.calls its),
    ))
