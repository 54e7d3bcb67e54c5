-- What is sound stays sound if entries are paid, and if a transaction begins.
use Rattle.std.proofs.Common.{Bool, List, [], ap, ap₂, arith, false, fold, nat_le, subst, sym, true, ℕ, ◌&&◌, ◌*◌, ◌++◌, ◌+◌, ◌∙◌, ◌∷◌, ◌≡◌, ◌≤◌}
use Rattle.std.specs.List.{list_all}
use Rattle.std.proofs.lemmas.List.{map-append}
use Rattle.std.proofs.lemmas.List.Folds.{list_all-append}
use Rattle.iss_model.specs.declared.entry.Entry.{Entry}
use Rattle.iss_model.specs.declared.entry.Entry.TheVariants as entry
use Rattle.iss_model.specs.declared.txn.Txn.{Txn}
use Rattle.iss_model.specs.rules.Activity.{TxnNow}
use Rattle.iss_model.specs.rules.Facts.{Accepted}
use Rattle.iss_model.specs.rules.Settings.{is_named_in}
use Rattle.iss_model.specs.state.Cores.{CoreState, after_entry, is_live}
use Rattle.iss_state.specs.Bounds.{SumsAreWithin, moved_money, moved_use, total_of}
use Rattle.iss_state.specs.Effects.{Paid}
use Rattle.iss_state.specs.Needs.{AllFit, begun_txns}
use Rattle.iss_state.specs.Stakes.{IsOrderly, at_stake, total_held, txn_tokens}
use Rattle.iss_state.proofs.effects.Effects.{same_names}
use Rattle.iss_state.proofs.effects.Reach.{entries_within, entry_within, sums_within_more}
use Rattle.iss_state.proofs.effects.TransactionsHeld.{held_after_begin, orderly_after_begin}
use Rattle.iss_state.specs.Sound.{IsSoundAt, is_accepted, reach_of}
use Rattle.iss_state.proofs.invariants.Kept.{entries_accepted, entries_count}

-- each transaction began with one of this many records
abbrev up_to : ℕ → List Txn → Bool
up_to count txns = list_all (λ t. nat_le t.origin count) txns

-- after each of these entries the sums of money and of use lie within one bound
abbrev pub AllAreWithin : ℕ → CoreState → List Entry → Type 0
AllAreWithin bound s [] = Unit {0}
AllAreWithin bound s (e ∷ es) = SumsAreWithin bound bound (after_entry s e) × AllAreWithin bound (after_entry s e) es

-- Entries can be entered one after the other, and leave a sound state.
pub record Enters (records : ℕ) (s : CoreState) (es : List Entry) : Type 0 where
  pub fit : AllFit s es
  pub within : AllAreWithin (reach_of records) s es
  pub sound : IsSoundAt records (fold after_entry s es)

-- ---- entries that are paid

-- moves only add up, so if all of them are within a bound, each part of them is
all_within : (bound m u : ℕ) (s : CoreState) (es : List Entry) → SumsAreWithin m u s → m + total_of moved_money es ≤ bound → u + total_of moved_use es ≤ bound → AllAreWithin bound s es
all_within bound m u s [] h le also = tt
all_within bound m u s (e ∷ es) h le also =
    let first = entry_within m u s e h in (
      sums_within_more (m + moved_money e) bound (u + moved_use e) bound (after_entry s e) (omega (arith, le)) (omega (arith, also)) first,
      all_within bound (m + moved_money e) (u + moved_use e) (after_entry s e) es first (omega (arith, le)) (omega (arith, also)),
    )

-- entries that are paid by what is at stake, and by what further records bring, can be entered
pub paid_enters : {more_money more_use : ℕ} {s : CoreState} {es : List Entry} (n m : ℕ) → reach_of n + more_money ≤ reach_of m → reach_of n + more_use ≤ reach_of m
    → Paid more_money more_use s es → IsSoundAt n s → Enters m s es
paid_enters {more_money} {more_use} {s} {es} n m money_brought use_brought p h =
    let e = p.effect in
    let money_fits : h.money + total_of moved_money es + 2 * at_stake (fold after_entry s es) ≤ reach_of m = omega (arith, h.money_within, e.money, e.stake, p.money, money_brought) in
    let use_fits : h.used + total_of moved_use es + at_stake (fold after_entry s es) ≤ reach_of m = omega (arith, h.use_within, e.usage, e.stake, p.usage, use_brought) in
    record {
      fit = e.fit;
      within = all_within (reach_of m) h.money h.used s es h.within (omega (arith, money_fits)) (omega (arith, use_fits));
      sound =
          record {
            money = h.money + total_of moved_money es;
            used = h.used + total_of moved_use es;
            within = entries_within h.money h.used s es h.within;
            money_within = money_fits;
            use_within = use_fits;
            orderly = e.orderly;
            accepted = ap₂ (λ (a : List Accepted) (ts : List (List ℕ)). list_all (is_accepted a) ts) (entries_accepted s es) (same_names s (fold after_entry s es) e.txns) ∙ h.accepted;
            origins = ap₂ (λ (c : ℕ) (ts : List Txn). up_to c ts) (entries_count s es) e.txns ∙ h.origins;
          };
    }

-- ---- a transaction begins

pub sound_after_begin : (n : ℕ) (s : CoreState) (t : Txn) → nat_le t.origin s.count ≡ true → is_named_in (txn_tokens s.holdings.txns) t.token ≡ false → is_accepted s.accepted t.token ≡ true
    → IsSoundAt n s → IsSoundAt n (after_entry s (entry.Began t))
sound_after_begin n s t origin unknown known h =
    let ts = txn_tokens s.holdings.txns in
    let after = after_entry s (entry.Began t) in
    let row : List TxnNow = record { txn = t; live = is_live s.holdings.txns t.token } ∷ [] in
    let names : txn_tokens after.holdings.txns ≡ ts ++ t.token ∷ [] = map-append (λ (x : TxnNow). x.txn.token) s.holdings.txns row in
    let same : total_held (txn_tokens after.holdings.txns) after.holdings.parts ≡ total_held ts s.holdings.parts =
    ap (λ (xs : List (List ℕ)). total_held xs after.holdings.parts) names ∙ held_after_begin ts s.holdings.parts t unknown h.orderly in
    record {
      money = h.money + 0;
      used = h.used + 0;
      within = entry_within h.money h.used s (entry.Began t) h.within;
      money_within = omega (arith, h.money_within, same);
      use_within = omega (arith, h.use_within, same);
      orderly = subst (λ (xs : List (List ℕ)). IsOrderly xs after.holdings.parts) (sym names) (orderly_after_begin ts s.holdings.parts t unknown h.orderly);
      accepted =
          ap (list_all (is_accepted s.accepted)) names ∙ list_all-append (is_accepted s.accepted) ts (t.token ∷ [])
          ∙ ap₂ (λ (a b : Bool). a && (b && true)) h.accepted known;
      origins =
          ap (up_to s.count) (map-append (λ (x : TxnNow). x.txn) s.holdings.txns row) ∙ list_all-append (λ (x : Txn). nat_le x.origin s.count) (begun_txns s) (t ∷ [])
          ∙ ap₂ (λ (a b : Bool). a && (b && true)) h.origins origin;
    }
