-- Totals with an event more are what the events with it come to.
use Rattle.std.proofs.Common.{◌≡◌, ◌<◌, ◌∙◌, ◌+◌, ℕ, Bool, true, false, cond, List, [], ◌∷◌, ◌++◌, find, length, take, get_or, refl, sym, ap, ap₂, arith, subst}
use Rattle.std.specs.Prelude.{IfSome, Option, Some, None, is_some, unwrap_or}
use Rattle.std.specs.Option.{option_map, option_or}
use Rattle.std.specs.Str.{bytes_eq}
use Rattle.std.proofs.lemmas.List.{take_more}
use Rattle.std.proofs.lemmas.List.Folds.{find-append}
use Rattle.iss_model.specs.declared.state.Seen.{Seen}
use Rattle.iss_model.proofs.Names.{one_name, same_name}
use Rattle.iss_index.specs.Places.{MakesThis, changed_at}
use Rattle.iss_well_formed.specs.Txns.{cleared_amount, refunded_amount}
use Rattle.iss_sound_events.specs.declared.totals.Total.{Total}
use Rattle.iss_sound_events.specs.Totals.{AreTotalsOf, no_total, plus, total_of, with_seen_total, with_worth, worth_of}
use Rattle.iss_sound_events.proofs.SeenWorth.{approved_is, approved_last, cleared_is, done_last, refunded_is, worth_in}

-- the total of this transaction, if there is one
abbrev total_named : List ℕ → List Total → Option Total
total_named token ts = find (λ t. bytes_eq t.txn token) ts

-- a total after this worth, if it is of its transaction
abbrev added : List ℕ → Total → Total → Total
added token w t = cond (bytes_eq w.txn token) (plus w t) t

-- what is found after a change of a transaction's totals
found_changed : (token : List ℕ) (w : Total) (ts : List Total)
    → total_named token (changed_at (λ t. t.txn) w.txn (plus w) ts) ≡ option_map (added token w) (total_named token ts)
found_changed token w [] = refl
found_changed token w (t ∷ ts) = at (bytes_eq w.txn t.txn) (bytes_eq t.txn token) refl refl (found_changed token w ts)
  where
    at : (b c : Bool) → bytes_eq w.txn t.txn ≡ b → bytes_eq t.txn token ≡ c
        → total_named token (changed_at (λ t. t.txn) w.txn (plus w) ts) ≡ option_map (added token w) (total_named token ts)
        → total_named token (changed_at (λ t. t.txn) w.txn (plus w) (t ∷ ts))
        ≡ option_map (added token w) (total_named token (t ∷ ts))
    at true true same its rest =
        let here : bytes_eq w.txn token ≡ true = same_name w.txn token (one_name w.txn t.txn same ∙ one_name t.txn token its) in
        rw (same, its, here) refl
    at false true same its rest =
        let here : bytes_eq w.txn token ≡ false = ap (bytes_eq w.txn) (sym (one_name t.txn token its)) ∙ same in
        rw (same, its, here) refl
    at true false same its rest = rw (same, its) rest
    at false false same its rest = rw (same, its) rest

-- a transaction's total grows by what is added to it, and that of any other stays
pub grown : (part : Total → ℕ) (w : Total) (token : List ℕ) (ts : List Total)
    → ((t : Total) → part (plus w t) ≡ part t + part w) → part (no_total token) ≡ 0
    → part (total_of token (with_worth w ts)) ≡ part (total_of token ts) + worth_in part token (Some w)
grown part w token ts more none = at (total_named w.txn ts) (bytes_eq w.txn token) refl refl
  where
    -- a total that is there
    kept : (o : Option Total) → bytes_eq w.txn token ≡ false
        → part (unwrap_or (option_map (added token w) o) (no_total token))
        ≡ part (unwrap_or o (no_total token)) + worth_in part token (Some w)
    kept None other = rw other (omega arith)
    kept (Some t) other = rw other (omega arith)

    raised : (x : Total) (o : Option Total) → bytes_eq w.txn token ≡ true → o ≡ Some x
        → part (unwrap_or (option_map (added token w) o) (no_total token))
        ≡ part (unwrap_or o (no_total token)) + worth_in part token (Some w)
    raised x o same is = rw (is, same) (more x)

    appended : (o : Option Total) → bytes_eq w.txn token ≡ false
        → part (unwrap_or (option_or o (cond (bytes_eq w.txn token) (Some w) None)) (no_total token))
        ≡ part (unwrap_or o (no_total token)) + worth_in part token (Some w)
    appended None other = rw other (omega arith)
    appended (Some t) other = rw other (omega arith)

    begun : (o : Option Total) → bytes_eq w.txn token ≡ true → o ≡ None
        → part (unwrap_or (option_or o (cond (bytes_eq w.txn token) (Some w) None)) (no_total token))
        ≡ part (unwrap_or o (no_total token)) + worth_in part token (Some w)
    begun o same is = rw (is, same) (omega (arith, none))

    -- the list that stands, by whether there was a total
    taken : (b : Bool) → is_some (total_named w.txn ts) ≡ b
        → part (total_of token (with_worth w ts)) ≡ part (total_of token (cond b (changed_at (λ t. t.txn) w.txn (plus w) ts) (ts ++ w ∷ [])))
    taken b is = ap (λ (b : Bool). part (total_of token (cond b (changed_at (λ t. t.txn) w.txn (plus w) ts) (ts ++ w ∷ [])))) is

    -- what is found in it
    looked_up : (o : Option Total) (xs : List Total) → total_named token xs ≡ o → part (total_of token xs) ≡ part (unwrap_or o (no_total token))
    looked_up o xs is = ap (λ (o : Option Total). part (unwrap_or o (no_total token))) is

    its : (o : Option Total) → total_named w.txn ts ≡ o → bytes_eq w.txn token ≡ true → total_named token ts ≡ o
    its o found same = ap (λ (n : List ℕ). total_named n ts) (sym (one_name w.txn token same)) ∙ found

    at : (o : Option Total) (b : Bool) → total_named w.txn ts ≡ o → bytes_eq w.txn token ≡ b
        → part (total_of token (with_worth w ts)) ≡ part (total_of token ts) + worth_in part token (Some w)
    at (Some x) true found same =
        taken true (ap is_some found)
        ∙ looked_up _ (changed_at (λ t. t.txn) w.txn (plus w) ts) (found_changed token w ts)
        ∙ raised x (total_named token ts) same (its (Some x) found same)
    at (Some x) false found other =
        taken true (ap is_some found)
        ∙ looked_up _ (changed_at (λ t. t.txn) w.txn (plus w) ts) (found_changed token w ts)
        ∙ kept (total_named token ts) other
    at None true found same =
        taken false (ap is_some found)
        ∙ looked_up _ (ts ++ w ∷ []) (find-append (λ t. bytes_eq t.txn token) ts (w ∷ []))
        ∙ begun (total_named token ts) same (its None found same)
    at None false found other =
        taken false (ap is_some found)
        ∙ looked_up _ (ts ++ w ∷ []) (find-append (λ t. bytes_eq t.txn token) ts (w ∷ []))
        ∙ appended (total_named token ts) other

-- what is found has the name that was asked for
its_own : (token : List ℕ) (t : Total) (ts : List Total) → total_named token ts ≡ Some t → t.txn ≡ token
its_own token t [] found = cc
its_own token t (x ∷ ts) found = at (bytes_eq x.txn token) refl (its_own token t ts)
  where
    at : (b : Bool) → bytes_eq x.txn token ≡ b → (total_named token ts ≡ Some t → t.txn ≡ token) → t.txn ≡ token
    at true same rest =
        let here : Some x ≡ Some t = rw same at found in
        let one : x ≡ t = cc in
        ap (λ (y : Total). y.txn) (sym one) ∙ one_name x.txn token same
    at false other rest = rest (rw other at found)

-- a total that stands in the place of the one that was found
pub set_total : (w t thing : Total) (ts after : List Total) → total_named w.txn ts ≡ Some t → thing ≡ plus w t
    → ((change : Total → Total) → MakesThis (λ x. x.txn) change thing ts → after ≡ changed_at (λ x. x.txn) thing.txn change ts)
    → after ≡ with_worth w ts
set_total w t thing ts after found is set =
    let same : thing.txn ≡ w.txn = ap (λ (y : Total). y.txn) is ∙ its_own w.txn t ts found in
    let here : total_named thing.txn ts ≡ Some t = ap (λ (n : List ℕ). total_named n ts) same ∙ found in
    let P : Option Total → Type 0 = λ o. IfSome o (λ x. plus w x ≡ thing) in
    let makes : MakesThis (λ x. x.txn) (plus w) thing ts = subst P (sym here) (sym is) in
    set (plus w) makes
    ∙ ap (λ (n : List ℕ). changed_at (λ x. x.txn) n (plus w) ts) same
    ∙ ap (λ (b : Bool). cond b (changed_at (λ x. x.txn) w.txn (plus w) ts) (ts ++ w ∷ [])) (sym (ap is_some found))

-- so it is with what an event comes to
grown_seen : (part : Total → ℕ) (e : Seen) (token : List ℕ) (ts : List Total)
    → ((w t : Total) → part (plus w t) ≡ part t + part w) → part (no_total token) ≡ 0
    → part (total_of token (with_seen_total e ts)) ≡ part (total_of token ts) + worth_in part token (worth_of e)
grown_seen part e token ts more none = at (worth_of e)
  where
    at : (o : Option Total)
        → part (total_of token (unwrap_or (option_map (λ w. with_worth w ts) o) ts))
        ≡ part (total_of token ts) + worth_in part token o
    at None = omega arith
    at (Some w) = grown part w token ts (more w) none

-- totals are what one event more comes to
pub total_more : (ts : List Total) (es : List Seen) (e : Seen) → AreTotalsOf ts es
    → AreTotalsOf (with_seen_total e ts) (es ++ e ∷ [])
total_more ts es e are =
    record {
      approved = λ token.
          grown_seen (λ t. t.approved) e token ts (λ w t. refl) refl
          ∙ ap₂ (λ (m n : ℕ). m + n) (are.approved token) (sym (approved_is token e.verdict e.body.input))
          ∙ sym (approved_last token es e);
      cleared = λ token.
          grown_seen (λ t. t.cleared) e token ts (λ w t. refl) refl
          ∙ ap₂ (λ (m n : ℕ). m + n) (are.cleared token) (sym (cleared_is token e.verdict e.body.input))
          ∙ sym (done_last (cleared_amount token) es e);
      refunded = λ token.
          grown_seen (λ t. t.refunded) e token ts (λ w t. refl) refl
          ∙ ap₂ (λ (m n : ℕ). m + n) (are.refunded token) (sym (refunded_is token e.verdict e.body.input))
          ∙ sym (done_last (refunded_amount token) es e);
    }

-- so it is of the next event of a list
pub totals_step : (ts later : List Total) (es : List Seen) (i : ℕ) (e : Seen) → i < length es → e ≡ get_or es i e
    → later ≡ with_seen_total e ts → AreTotalsOf ts (take i es) → AreTotalsOf later (take (i + 1) es)
totals_step ts later es i e within is after are =
    subst (λ (xs : List Total). AreTotalsOf xs (take (i + 1) es)) (sym after)
    (subst (λ (xs : List Seen). AreTotalsOf (with_seen_total e ts) xs)
    (sym (take_more es i e within ∙ ap (λ (x : Seen). take i es ++ x ∷ []) (sym is)))
    (total_more ts (take i es) e are))
