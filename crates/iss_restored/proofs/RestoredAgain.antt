-- Transactions that are taken up again one after the other leave what a core that is made again keeps of them.
use Rattle.std.proofs.Common.{◌≡◌, ◌∙◌, ◌++◌, ◌∷◌, ◌+◌, ℕ, ap, append-nil, append_assoc, Bool, cond, false, List, [], map, pos, refl, subst, sym, true}
use Rattle.std.specs.Prelude.{Option, Some, None, option_map, unwrap_or}
use Rattle.std.specs.List.{flat_map}
use Rattle.std.specs.Str.{bytes_eq}
use Rattle.std.specs.FinMap as finite
use Rattle.std.proofs.lemmas.List.{map-append}
use Rattle.iss_model.specs.declared.state.Carried.{Carried}
use Rattle.iss_model.specs.Sums.{Change, user_key}
use Rattle.iss_model.specs.rules.Activity.{TxnNow, txn_named}
use Rattle.iss_model.specs.state.Kept.{after_change, after_changes, nothing_kept}
use Rattle.iss_model.proofs.Names.{its_name}
use Rattle.iss_state.specs.Well.{HaveOwnTokens}
use Rattle.iss_state.proofs.docket.Entering.{apart_too}
use Rattle.iss_states.specs.Rebuilding.{carried_named, held_sums, holder_key, kept_by, part_sums}
use Rattle.iss_well_formed.specs.Again.{listed, standing}
use Rattle.iss_chain.specs.Restoring.{with_restored}
use Rattle.iss_chain.specs.Values.{ChainNow}
use Rattle.iss_chain.proofs.Restored.{last_change}
use Rattle.iss_restored.specs.Again.{restored_from}
use Rattle.iss_restored.proofs.Pushed.{amount_pushed, parts_pushed}

-- Each transaction is listed in its place, and live as it is there.
abbrev pub AreListed : List TxnNow → List Carried → Type 0
AreListed [] [] = Unit {0}
AreListed [] (t ∷ ts) = ⊥
AreListed (x ∷ xs) [] = ⊥
AreListed (x ∷ xs) (t ∷ ts) = (x.txn.token ≡ t.txn) × ((x.live ≡ t.sums.live) × AreListed xs ts)

pub listed_again : (xs : List TxnNow) (ts : List Carried) → map standing xs ≡ map listed ts → AreListed xs ts
listed_again [] [] e = tt
listed_again [] (t ∷ ts) e = cc
listed_again (x ∷ xs) [] e = cc
listed_again (x ∷ xs) (t ∷ ts) e =
    let first : standing x ≡ listed t = cc in
    let rest : map standing xs ≡ map listed ts = cc in (ap (λ p. p.0) first, (ap (λ p. p.1) first, listed_again xs ts rest))

pub listed_more : (xs : List TxnNow) (ts : List Carried) (x : TxnNow) (t : Carried) → AreListed xs ts → x.txn.token ≡ t.txn
    → x.live ≡ t.sums.live → AreListed (xs ++ x ∷ []) (ts ++ t ∷ [])
listed_more [] [] x t h its live = (its, (live, tt))
listed_more [] (u ∷ ts) x t h its live = absurd h
listed_more (y ∷ xs) [] x t h its live = absurd h
listed_more (y ∷ xs) (u ∷ ts) x t h its live = (h.0, (h.1.0, listed_more xs ts x t h.1.1 its live))

-- one that isn't known isn't listed
pub none_listed : (token : List ℕ) (xs : List TxnNow) (ts : List Carried) → AreListed xs ts → txn_named token xs ≡ None
    → carried_named token ts ≡ None
none_listed token [] [] h none = refl
none_listed token [] (t ∷ ts) h none = absurd h
none_listed token (x ∷ xs) [] h none = absurd h
none_listed token (x ∷ xs) (t ∷ ts) h none =
    by (bytes_eq x.txn.token token) (bytes_eq t.txn token) (ap (λ (key : List ℕ). bytes_eq key token) h.0) none
    (none_listed token xs ts h.1.1)
  where
    by : (a b : Bool) → a ≡ b → cond a (Some x) (txn_named token xs) ≡ None
        → (txn_named token xs ≡ None → carried_named token ts ≡ None) → cond b (Some t) (carried_named token ts) ≡ None
    by true b e none rest = cc
    by false true e none rest = cc
    by false false e none rest = rest none

-- tokens of their own ----

head_none : (b : Bool) (t : TxnNow) (o : Option TxnNow) → cond b (Some t) o ≡ None → (b ≡ false) × (o ≡ None)
head_none true t o h = cc
head_none false t o h = (refl, h)

none_in_front : (token : List ℕ) (xs : List TxnNow) (x : TxnNow) (rest : List TxnNow) → txn_named token (xs ++ x ∷ rest) ≡ None
    → bytes_eq x.txn.token token ≡ false
none_in_front token [] x rest none = (head_none (bytes_eq x.txn.token token) x (txn_named token rest) none).0
none_in_front token (y ∷ xs) x rest none = none_in_front token xs x rest
    (head_none (bytes_eq y.txn.token token) y (txn_named token (xs ++ x ∷ rest)) none).1

-- no transaction before this one has its token
pub none_before : (xs : List TxnNow) (x : TxnNow) (rest : List TxnNow) → HaveOwnTokens (xs ++ x ∷ rest)
    → txn_named x.txn.token xs ≡ None
none_before [] x rest own = refl
none_before (y ∷ xs) x rest own =
    ap (λ (b : Bool). cond b (Some y) (txn_named x.txn.token xs))
    (apart_too x.txn.token y.txn.token (none_in_front y.txn.token xs x rest own.0)) ∙ none_before xs x rest own.1

pub its_own : (xs : List TxnNow) (x : TxnNow) (rest : List TxnNow) (token : List ℕ) → x.txn.token ≡ token
    → txn_named token xs ≡ None → txn_named token (xs ++ x ∷ rest) ≡ Some x
its_own [] x rest token its none = ap (λ (key : List ℕ). cond (bytes_eq x.txn.token key) (Some x) (txn_named key rest)) (sym its)
    ∙ ap (λ (b : Bool). cond b (Some x) (txn_named x.txn.token rest)) (its_name x.txn.token)
its_own (y ∷ xs) x rest token its none =
    let parts = head_none (bytes_eq y.txn.token token) y (txn_named token xs) none in
    ap (λ (b : Bool). cond b (Some y) (txn_named token (xs ++ x ∷ rest))) parts.0 ∙ its_own xs x rest token its parts.1

-- one after the other ----

-- What a chain keeps of these transactions, if they are among all of these and listed so.
abbrev pub chain_made : List TxnNow → List TxnNow → List Carried → ChainNow
chain_made all xs ts =
    record {
      balances = nothing_kept;
      holdings = record {
        txns = xs;
        parts = finite.from_entries (flat_map part_sums ts);
        held = after_changes nothing_kept (held_sums all ts);
      };
      txn_sums = record {
        cleared = kept_by (λ t. (t.txn, pos t.sums.cleared)) ts;
        refunded = kept_by (λ t. (t.txn, pos t.sums.refunded)) ts;
        paid = kept_by (λ t. (t.txn, pos t.sums.paid)) ts;
      };
    }

-- what a transaction holds of its user
abbrev held_of : List TxnNow → Carried → Change
held_of txns c = record { key = holder_key txns c; by = pos (c.sums.g + c.sums.p + c.sums.s) }

-- what a transaction holds of its user comes last
held_pushed : (all : List TxnNow) (x : TxnNow) (t : Carried) (before : List Carried) → txn_named t.txn all ≡ Some x
    → after_change (after_changes nothing_kept (held_sums all before))
    (record { key = user_key x.txn.user x.txn.currency; by = pos (t.sums.g + t.sums.p + t.sums.s) })
    ≡ after_changes nothing_kept (held_sums all (before ++ t ∷ []))
held_pushed all x t before found =
    let holder : holder_key all t ≡ user_key x.txn.user x.txn.currency = ap
    (λ (o : Option TxnNow). unwrap_or (option_map (λ (now : TxnNow). user_key now.txn.user now.txn.currency) o) []) found in
    ap (λ (key : List ℕ). after_change (after_changes nothing_kept (held_sums all before))
    (record { key = key; by = pos (t.sums.g + t.sums.p + t.sums.s) })) (sym holder)
    ∙ sym (last_change nothing_kept (held_sums all before)
    (record { key = holder_key all t; by = pos (t.sums.g + t.sums.p + t.sums.s) }))
    ∙ ap (λ (cs : List Change). after_changes nothing_kept cs) (sym (map-append (held_of all) before (t ∷ [])))

-- one transaction more is one more of what is kept
pub one_restored : (all xs : List TxnNow) (ts : List Carried) (x : TxnNow) (t : Carried) → AreListed xs ts → x.txn.token ≡ t.txn
    → x.live ≡ t.sums.live → txn_named x.txn.token xs ≡ None → txn_named t.txn all ≡ Some x
    → with_restored (chain_made all xs ts) x.txn t.sums ≡ chain_made all (xs ++ x ∷ []) (ts ++ t ∷ [])
one_restored all xs ts x t listed its live none found =
    let missed = none_listed x.txn.token xs ts listed none in
    let parts = parts_pushed x.txn t ts its missed in
    let held = held_pushed all x t ts found in
    let cleared = amount_pushed (λ c. c.sums.cleared) x.txn.token t ts its missed in
    let refunded = amount_pushed (λ c. c.sums.refunded) x.txn.token t ts its missed in
    let paid = amount_pushed (λ c. c.sums.paid) x.txn.token t ts its missed in
    λ i. record {
      balances = nothing_kept;
      holdings = record { txns = xs ++ record { txn = x.txn; live = sym live i } ∷ []; parts = parts i; held = held i };
      txn_sums = record { cleared = cleared i; refunded = refunded i; paid = paid i };
    }

pub all_restored : (done xs : List TxnNow) (before ts : List Carried) → AreListed done before → AreListed xs ts
    → HaveOwnTokens (done ++ xs)
    → restored_from (chain_made (done ++ xs) done before) xs ts ≡ chain_made (done ++ xs) (done ++ xs) (before ++ ts)
all_restored done [] before [] first rest own =
    ap (λ (txns : List TxnNow). chain_made (done ++ []) txns before) (sym (append-nil done))
    ∙ ap (chain_made (done ++ []) (done ++ [])) (sym (append-nil before))
all_restored done [] before (t ∷ ts) first rest own = absurd rest
all_restored done (x ∷ xs) before [] first rest own = absurd rest
all_restored done (x ∷ xs) before (t ∷ ts) first rest own =
    let none = none_before done x xs own in
    let found = its_own done x xs t.txn rest.0 (ap (λ (key : List ℕ). txn_named key done) (sym rest.0) ∙ none) in
    let grouped : (done ++ x ∷ []) ++ xs ≡ done ++ x ∷ xs = append_assoc done (x ∷ []) xs in
    ap (λ (c : ChainNow). restored_from c xs ts) (one_restored (done ++ x ∷ xs) done before x t first rest.0 rest.1.0 none found)
    ∙ ap (λ (all : List TxnNow). restored_from (chain_made all (done ++ x ∷ []) (before ++ t ∷ [])) xs ts) (sym grouped)
    ∙ all_restored (done ++ x ∷ []) xs (before ++ t ∷ []) ts (listed_more done before x t first rest.0 rest.1.0) rest.1.1
    (subst HaveOwnTokens (sym grouped) own)
    ∙ ap (λ (all : List TxnNow). chain_made all all ((before ++ t ∷ []) ++ ts)) grouped
    ∙ ap (chain_made (done ++ x ∷ xs) (done ++ x ∷ xs)) (append_assoc before (t ∷ []) ts)
