-- The pass over events: what is left of them, and that none of it has begun a transaction.
use Rattle.std.proofs.Common.{◌≡◌, ◌∙◌, ◌∷◌, ◌+◌, ◌<◌, ◌≤◌, ℕ, zero, suc, ap, ap₂, arith, Bool, cond, drop, false, get_or, length, List, [], not, refl, subst, sym, true}
use Rattle.std.specs.Prelude.{Option, Some, None, option_map, slice_get, unwrap_or}
use Rattle.std.specs.List.{list_all, list_any}
use Rattle.std.specs.Option.{option_or}
use Rattle.std.specs.Str.{bytes_eq}
use Rattle.std.proofs.lemmas.Bool.{and_parts}
use Rattle.std.proofs.lemmas.List.Folds.{find-append}
use Rattle.std.proofs.lemmas.Option.{slice_get_read}
use Rattle.std.proofs.Math.ListN.{drop_of_length-le}
use Rattle.iss_model.specs.declared.input.Input.{Input}
use Rattle.iss_model.specs.declared.input.Input.TheVariants as input
use Rattle.iss_model.specs.declared.state.Carried.{Carried}
use Rattle.iss_model.specs.declared.state.Seen.{Seen}
use Rattle.iss_model.specs.rules.Activity.{TxnNow, txn_named}
use Rattle.iss_model.specs.rules.Asks.{Ask}
use Rattle.iss_model.proofs.Lists.{neither}
use Rattle.iss_model.proofs.Names.{name-sym}
use Rattle.iss_state.proofs.docket.Lists.{Each}
use Rattle.iss_states.specs.Order.{has_event_token, have_tokens_of_their_own, is_event_record}
use Rattle.iss_states.specs.Rebuilding.{is_done}
use Rattle.iss_rebuilt.proofs.MadeShown.{first_named}
use Rattle.iss_known.specs.Known.{KnownNow}
use Rattle.iss_known.specs.Reading.{ask_known, begun_by, facts_known, known_after, known_in_turn, live_at, makes_its_call, nothing_known, settled_known, with_ask, with_setting_known}
use Rattle.iss_known.proofs.ShownAgain.{no_later, other_token, token_of}

-- a list from a place on
dropped : (xs : List Seen) (i : ℕ) (x : Seen) → slice_get xs i ≡ Some x → drop i xs ≡ x ∷ drop (i + 1) xs
dropped [] i x e = cc
dropped (y ∷ ys) zero x e = (let one : y ≡ x = cc in ap (λ z. z ∷ ys) one)
dropped (y ∷ ys) (suc i) x e = dropped ys i x e ∙ (let same : suc (i + 1) ≡ suc i + 1 = omega arith in ap (λ n. x ∷ drop n (y ∷ ys)) same)

-- an event hasn't begun a transaction
abbrev pub HasNotBegun : List TxnNow → Seen → Type 0
HasNotBegun txns e = txn_named (token_of e) txns ≡ None

-- a setting begins no transaction
set_txns : (k : KnownNow) (i : Input) → (with_setting_known k i).txns ≡ k.txns
set_txns k (input.User token user) = refl
set_txns k (input.Card token card user product active) = refl
set_txns k (input.Product token product currency funding timeout_ms hold_ms) = refl
set_txns k (input.Control token control currency window amount_limit usage_limit association scope offset active) = refl
set_txns k (input.Set token set product currency connection timeout application max day_limit active) = refl
set_txns k _ = refl

pub settled_txns : (k : KnownNow) (e : Seen) → (settled_known k e.verdict e.body.input).txns ≡ k.txns
settled_txns k e = by (is_done e.verdict)
  where
    by : (b : Bool) → (cond b (with_setting_known k e.body.input) k).txns ≡ k.txns
    by true = set_txns k e.body.input
    by false = refl

abbrev begun_as : Ask → Bool → TxnNow
begun_as x l = record { txn = x.txn; live = l }

module _ (live : List ℕ → Option Bool) where
  -- an ask begins no transaction of another token
  begins_other : (token : List ℕ) (x : Ask) → (x.is_first ≡ true → bytes_eq x.txn.token token ≡ false) → txn_named token (begun_by live x) ≡ None
  begins_other token x other = by x.is_first refl
    where
      named : bytes_eq x.txn.token token ≡ false → (o : Option Bool) → txn_named token (unwrap_or {T = List TxnNow} (option_map (λ (l : Bool). begun_as x l ∷ []) o) []) ≡ None
      named apart None = refl
      named apart (Some l) = ap (λ (b : Bool). cond b (Some (begun_as x l)) None) apart

      by : (b : Bool) → x.is_first ≡ b → txn_named token (cond b (unwrap_or {T = List TxnNow} (option_map (λ (l : Bool). begun_as x l ∷ []) (live x.txn.token)) []) []) ≡ None
      by false is = refl
      by true is = named (other is) (live x.txn.token)

  still_not : (k : KnownNow) (e : Seen) (token : List ℕ) → bytes_eq (token_of e) token ≡ false → txn_named token k.txns ≡ None → txn_named token (known_after live k e).txns ≡ None
  still_not k e token apart none = by (ask_known settled e) (λ x is first. ap (λ (t : List ℕ). bytes_eq t token) (first_named (facts_known settled e.number) e.body.at e.body.input x is first) ∙ apart)
    where
      settled : KnownNow
      settled = settled_known k e.verdict e.body.input

      before : txn_named token settled.txns ≡ None
      before = ap (λ (ts : List TxnNow). txn_named token ts) (settled_txns k e) ∙ none

      by : (o : Option Ask) → ((x : Ask) → o ≡ Some x → x.is_first ≡ true → bytes_eq x.txn.token token ≡ false) → txn_named token (with_ask live settled e.mark o).txns ≡ None
      by None other = before
      by (Some x) other =
          find-append (λ (t : TxnNow). bytes_eq t.txn.token token) settled.txns (begun_by live x)
          ∙ ap₂ (λ (o p : Option TxnNow). option_or o p) before (begins_other token x (other x refl))

  pub still_none : (k : KnownNow) (e : Seen) (es : List Seen) → list_all is_event_record es ≡ true → list_any (has_event_token (token_of e)) es ≡ false → Each (HasNotBegun k.txns) es → Each (HasNotBegun (known_after live k e).txns) es
  still_none k e [] forms none h = tt
  still_none k e (x ∷ es) forms none h =
      let form = and_parts (is_event_record x) (list_all is_event_record es) forms in
      let apart = neither (has_event_token (token_of e) x) (list_any (has_event_token (token_of e)) es) none in (
        still_not k e (token_of x) (name-sym (token_of e) (token_of x) ∙ other_token (token_of e) x form.0 apart.0) h.0,
        still_none k e es form.1 apart.1 h.1,
      )

module _ (ts : List Carried) where
  -- what is read of events, and what is left of them
  pub record IsReading (all left : List Seen) (k : KnownNow) : Type 0 where
    pub rest : known_in_turn ts k left ≡ known_in_turn ts nothing_known all
    pub fresh : Each (HasNotBegun k.txns) left
    pub own : have_tokens_of_their_own left ≡ true
    pub forms : list_all is_event_record left ≡ true

  no_txns : (es : List Seen) → Each (HasNotBegun []) es
  no_txns [] = tt
  no_txns (e ∷ es) = (refl, no_txns es)

  pub begins : (all : List Seen) (k : KnownNow) → k ≡ nothing_known → have_tokens_of_their_own all ≡ true → list_all is_event_record all ≡ true → IsReading all all k
  begins all k is own forms = subst (λ (x : KnownNow). IsReading all all x) (sym is) (record { rest = refl; fresh = no_txns all; own = own; forms = forms })

  module _ (all : List Seen) (i : ℕ) (e : Seen) (k : KnownNow) (within : i < length all) (is : e ≡ get_or all i e) where
    next : drop i all ≡ e ∷ drop (i + 1) all
    next = dropped all i e (slice_get_read all (length all) i e refl within is)

    module _ (r : IsReading all (drop i all) k) where
      here : IsReading all (e ∷ drop (i + 1) all) k
      here = subst (λ (left : List Seen). IsReading all left k) next r

      pub its_form : is_event_record e ≡ true
      its_form = (and_parts (is_event_record e) (list_all is_event_record (drop (i + 1) all)) here.forms).0

      pub its_fresh : HasNotBegun k.txns e
      its_fresh = here.fresh.0

      pub goes_on : (after : KnownNow) → after ≡ known_after (live_at ts (length k.txns)) k e → makes_its_call k e ≡ true → IsReading all (drop (i + 1) all) after
      goes_on after same makes =
          let forms = and_parts (is_event_record e) (list_all is_event_record (drop (i + 1) all)) here.forms in
          let own = and_parts (not (list_any (has_event_token (token_of e)) (drop (i + 1) all))) (have_tokens_of_their_own (drop (i + 1) all)) here.own in
          subst (λ (x : KnownNow). IsReading all (drop (i + 1) all) x) (sym same) (record {
            rest = sym (ap (λ (b : Bool). cond b (known_in_turn ts (known_after (live_at ts (length k.txns)) k e) (drop (i + 1) all)) None) makes) ∙ here.rest;
            fresh = still_none (live_at ts (length k.txns)) k e (drop (i + 1) all) forms.1 (no_later e (drop (i + 1) all) here.own) here.fresh.1;
            own = own.1;
            forms = forms.1;
          })

      pub gives_up : makes_its_call k e ≡ false → None ≡ known_in_turn ts nothing_known all
      gives_up makes = sym (ap (λ (b : Bool). cond b (known_in_turn ts (known_after (live_at ts (length k.txns)) k e) (drop (i + 1) all)) None) makes) ∙ here.rest

  pub over : (all : List Seen) (k : KnownNow) (n : ℕ) → length all ≤ n → IsReading all (drop n all) k → Some k ≡ known_in_turn ts nothing_known all
  over all k n len r = (subst (λ (left : List Seen). IsReading all left k) (drop_of_length-le all len) r).rest
