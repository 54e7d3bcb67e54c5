-- A core that is made again from a well-formed state which names what is known shows just that state.
use Rattle.std.proofs.Common.{◌≡◌, ◌∙◌, ◌∷◌, ℕ, pos, ap, Bool, cond, false, List, [], map, refl, sym, true}
use Rattle.std.specs.Prelude.{Option, Some, None}
use Rattle.std.specs.List.{flat_map}
use Rattle.std.specs.Str.{bytes_eq}
use Rattle.iss_model.specs.declared.account.Part.{Part}
use Rattle.iss_model.specs.declared.account.Part.TheVariants as part
use Rattle.iss_model.specs.declared.state.Carried.{Carried}
use Rattle.iss_model.specs.declared.state.State.{State}
use Rattle.iss_model.specs.Sums.{part_key}
use Rattle.iss_model.specs.rules.Activity.{TxnNow, txn_named}
use Rattle.iss_model.specs.rules.Facts.{not_below}
use Rattle.iss_model.specs.state.Cores.{CoreState}
use Rattle.iss_model.specs.state.Kept.{kept_at}
use Rattle.iss_model.proofs.Names.{its_name, one_name}
use Rattle.iss_state.specs.Well.{HaveOwnTokens}
use Rattle.iss_state.proofs.docket.Lists.{Each}
use Rattle.iss_states.specs.Rebuilding.{carried_named, kept_by, part_sums, rebuilt}
use Rattle.iss_states.specs.Showing.{carried_in}
use Rattle.iss_well_formed.specs.Again.{listed, standing}
use Rattle.iss_well_formed.specs.WellFormed.{IsWellFormed}
use Rattle.iss_well_formed.proofs.DoneAgain.{carried_sum, sum_found}
use Rattle.iss_well_formed.proofs.FairAgain.{got}
use Rattle.iss_well_formed.proofs.HeldAgain.{amount_in, carried_part, part_found}
use Rattle.iss_well_formed.proofs.WellAgain.{well_again}
use Rattle.iss_named.specs.Again.{IsShownAgain}
use Rattle.iss_named.specs.Kept.{AreNamesKnown}
use Rattle.iss_named.proofs.ListsAgain.{ShowsItsSums, lists_again, same_head, same_tail}

-- transactions that are carried as they stand ----

absent : (token : List ℕ) (xs : List TxnNow) (ts : List Carried) → map standing xs ≡ map listed ts → txn_named token xs ≡ None → carried_named token ts ≡ None
absent token [] [] e h = refl
absent token [] (t ∷ ts) e h = cc
absent token (x ∷ xs) [] e h = cc
absent token (x ∷ xs) (t ∷ ts) e h = by (bytes_eq x.txn.token token) refl h (λ k. absent token xs ts (same_tail e) k)
  where
    same : x.txn.token ≡ t.txn
    same = ap (λ (p : List ℕ × Bool). p.0) (same_head e)

    by : (b : Bool) → bytes_eq x.txn.token token ≡ b → cond b (Some x) (txn_named token xs) ≡ None → (txn_named token xs ≡ None → carried_named token ts ≡ None) → cond (bytes_eq t.txn token) (Some t) (carried_named token ts) ≡ None
    by true f k rest = cc
    by false f k rest = ap (λ (b : Bool). cond b (Some t) (carried_named token ts)) (ap (λ (name : List ℕ). bytes_eq name token) (sym same) ∙ f) ∙ rest k

-- each of them is found by its token
all_found : (xs : List TxnNow) (ts : List Carried) → map standing xs ≡ map listed ts → HaveOwnTokens xs → Each (λ t. carried_named t.txn ts ≡ Some t) ts
all_found xs [] e own = tt
all_found [] (t ∷ ts) e own = cc
all_found (x ∷ xs) (t ∷ ts) e own =
    (ap (λ (b : Bool). cond b (Some t) (carried_named t.txn ts)) (its_name t.txn), later ts (all_found xs ts (same_tail e) own.1))
  where
    same : x.txn.token ≡ t.txn
    same = ap (λ (p : List ℕ × Bool). p.0) (same_head e)

    none : carried_named t.txn ts ≡ None
    none = ap (λ (name : List ℕ). carried_named name ts) (sym same) ∙ absent x.txn.token xs ts (same_tail e) own.0

    later : (us : List Carried) → Each (λ u. carried_named u.txn ts ≡ Some u) us → Each (λ u. carried_named u.txn (t ∷ ts) ≡ Some u) us
    later [] f = tt
    later (u ∷ us) f = (by (bytes_eq t.txn u.txn) refl, later us f.1)
      where
        by : (b : Bool) → bytes_eq t.txn u.txn ≡ b → cond b (Some t) (carried_named u.txn ts) ≡ Some u
        by false k = f.0
        by true k = let bad : None ≡ Some u = sym none ∙ ap (λ (name : List ℕ). carried_named name ts) (one_name t.txn u.txn k) ∙ f.0 in cc

module _ (s : State) where
  abbrev c : CoreState
  c = rebuilt s

  -- a sum of a transaction is the one that it is carried with
  sum_of : (worth : Carried → ℕ) (token : List ℕ) (t : Carried) → token ≡ t.txn → carried_named t.txn s.txns ≡ Some t
      → not_below (kept_at (kept_by (λ t. (t.txn, pos (worth t))) s.txns) token) ≡ worth t
  sum_of worth token t same found =
      ap not_below
      (got (map (λ t. (t.txn, pos (worth t))) s.txns) token ∙ sum_found worth s.txns token
      ∙ ap (λ (o : Option Carried). carried_sum worth o) (ap (λ (name : List ℕ). carried_named name s.txns) same ∙ found))

  part_of : (p : Part) (token : List ℕ) (t : Carried) → token ≡ t.txn → carried_named t.txn s.txns ≡ Some t → not_below (kept_at c.holdings.parts (part_key token p)) ≡ amount_in p t
  part_of p token t same found =
      ap not_below
      (got (flat_map part_sums s.txns) (part_key token p) ∙ part_found s.txns token p
      ∙ ap (λ (o : Option Carried). carried_part p o) (ap (λ (name : List ℕ). carried_named name s.txns) same ∙ found))

  one_again : (x : TxnNow) (t : Carried) → standing x ≡ listed t → carried_named t.txn s.txns ≡ Some t → carried_in c x ≡ t
  one_again x t e found =
      let token : x.txn.token ≡ t.txn = ap (λ (p : List ℕ × Bool). p.0) e in
      let live : x.live ≡ t.sums.live = ap (λ (p : List ℕ × Bool). p.1) e in
      λ i. record {
        txn = token i;
        sums = record {
          live = live i;
          g = part_of part.G x.txn.token t token found i;
          p = part_of part.P x.txn.token t token found i;
          s = part_of part.S x.txn.token t token found i;
          cleared = sum_of (λ t. t.sums.cleared) x.txn.token t token found i;
          refunded = sum_of (λ t. t.sums.refunded) x.txn.token t token found i;
          paid = sum_of (λ t. t.sums.paid) x.txn.token t token found i;
        };
      }

  all_again : (xs : List TxnNow) (ts : List Carried) → map standing xs ≡ map listed ts → Each (λ t. carried_named t.txn s.txns ≡ Some t) ts → map (carried_in c) xs ≡ ts
  all_again [] [] e h = refl
  all_again [] (t ∷ ts) e h = cc
  all_again (x ∷ xs) [] e h = cc
  all_again (x ∷ xs) (t ∷ ts) e h = λ i. one_again x t (same_head e) h.0 i ∷ all_again xs ts (same_tail e) h.1 i

pub state_again : (s : State) → IsWellFormed s → AreNamesKnown s → IsShownAgain s
state_again s sound h =
    let tokens : HaveOwnTokens (rebuilt s).holdings.txns = (well_again s sound.order sound.pending sound.own).docket.txns.tokens in
    let txns : map (carried_in (rebuilt s)) (rebuilt s).holdings.txns ≡ s.txns =
    all_again s (rebuilt s).holdings.txns s.txns sound.own.begun (all_found (rebuilt s).holdings.txns s.txns sound.own.begun tokens)
    in
    let lists : ShowsItsSums s = lists_again s sound h in
    λ i. record {
      records = s.records;
      now = s.now;
      events = sound.own.events i;
      txns = txns i;
      balances = lists.balances i;
      counters = lists.counters i;
      sums = lists.sums i;
      made = s.made;
      notices = s.notices;
    }
