-- A pass that begins a transaction only if it is the next listed one reads the same as one that looks each of them up.
use Rattle.std.proofs.Common.{◌≡◌, ◌∙◌, ◌∷◌, ◌++◌, ◌&&◌, ◌⊎◌, ℕ, zero, suc, ap, append-nil, append_assoc, Bool, cond, false, find, inl, inr, length, List, [], map, not, refl, subst, sym, true}
use Rattle.std.specs.Prelude.{Option, Some, None, is_some, option_and_then, option_map, slice_get, unwrap_or}
use Rattle.std.specs.List.{list_all, list_any}
use Rattle.std.specs.Option.{option_or}
use Rattle.std.specs.Str.{bytes_eq}
use Rattle.std.proofs.lemmas.Bool.{and_parts}
use Rattle.std.proofs.lemmas.List.{map-append}
use Rattle.std.proofs.lemmas.List.Folds.{find-append}
use Rattle.iss_model.specs.declared.state.Carried.{Carried}
use Rattle.iss_model.specs.declared.state.Seen.{Seen}
use Rattle.iss_model.specs.rules.Activity.{TxnNow, txn_named}
use Rattle.iss_model.specs.rules.Asks.{Ask}
use Rattle.iss_model.proofs.Lists.{neither}
use Rattle.iss_model.proofs.Names.{one_name}
use Rattle.iss_state.proofs.docket.Lists.{Each}
use Rattle.iss_states.specs.Order.{has_event_token, have_tokens_of_their_own, is_event_record}
use Rattle.iss_states.specs.Rebuilding.{carried_named}
use Rattle.iss_well_formed.specs.Events.{both_or_neither}
use Rattle.iss_rebuilt.proofs.MadeShown.{first_named}
use Rattle.iss_known.specs.Known.{KnownNow}
use Rattle.iss_known.specs.Reading.{are_listed, ask_known, begun_by, called_by, facts_known, if_listed, is_listed_as, known_after, known_from, known_in_turn, live_among, live_at, live_if_named, makes_its_call, nothing_known, read_by, settled_known, with_ask}
use Rattle.iss_known.proofs.Fresh.{HasNotBegun, settled_txns, still_none}
use Rattle.iss_known.proofs.ShownAgain.{no_later, other_token, token_of}

-- lists ----

abbrev later : List (List ℕ) → List (List ℕ)
later [] = []
later (x ∷ xs) = xs

abbrev first_or : List ℕ → List (List ℕ) → List ℕ
first_or d [] = d
first_or d (x ∷ xs) = x

-- the tokens of listed transactions, and of begun ones
abbrev listed_tokens : List Carried → List (List ℕ)
listed_tokens ts = map (λ t. t.txn) ts

abbrev begun_tokens : List TxnNow → List (List ℕ)
begun_tokens xs = map (λ x. x.txn.token) xs

-- transactions aren't listed if one of them isn't the one at its place
apart_there : (front : List Carried) (xs : List TxnNow) (t : Carried) (rest : List Carried) (x : TxnNow) (zs : List TxnNow)
    → listed_tokens front ≡ begun_tokens xs → bytes_eq t.txn x.txn.token ≡ false → are_listed (front ++ t ∷ rest) ((xs ++ x ∷ []) ++ zs) ≡ false
apart_there [] [] t rest x zs e apart = ap (λ (b : Bool). (b && both_or_neither t.sums.live x.live) && are_listed rest zs) apart
apart_there [] (y ∷ ys) t rest x zs e apart = cc
apart_there (f ∷ fs) [] t rest x zs e apart = cc
apart_there (f ∷ fs) (y ∷ ys) t rest x zs e apart = by (is_listed_as f y) (apart_there fs ys t rest x zs (ap later e) apart)
  where
    by : (b : Bool) → are_listed (fs ++ t ∷ rest) ((ys ++ x ∷ []) ++ zs) ≡ false → (b && are_listed (fs ++ t ∷ rest) ((ys ++ x ∷ []) ++ zs)) ≡ false
    by true h = h
    by false h = refl

-- nor if they are fewer
too_few : (front : List Carried) (xs : List TxnNow) (t : Carried) (rest : List Carried) → listed_tokens front ≡ begun_tokens xs → are_listed (front ++ t ∷ rest) xs ≡ false
too_few [] [] t rest e = refl
too_few [] (y ∷ ys) t rest e = cc
too_few (f ∷ fs) [] t rest e = cc
too_few (f ∷ fs) (y ∷ ys) t rest e = by (is_listed_as f y) (too_few fs ys t rest (ap later e))
  where
    by : (b : Bool) → are_listed (fs ++ t ∷ rest) ys ≡ false → (b && are_listed (fs ++ t ∷ rest) ys) ≡ false
    by true h = h
    by false h = refl

-- a token that hasn't begun isn't listed among those that have
none_in : (front : List Carried) (xs : List TxnNow) (token : List ℕ) → listed_tokens front ≡ begun_tokens xs → txn_named token xs ≡ None → carried_named token front ≡ None
none_in [] xs token e none = refl
none_in (f ∷ fs) [] token e none = cc
none_in (f ∷ fs) (y ∷ ys) token e none =
    ap (λ (n : List ℕ). cond (bytes_eq n token) (Some f) (carried_named token fs)) (ap (first_or []) e) ∙ by (bytes_eq y.txn.token token) none (λ h. none_in fs ys token (ap later e) h)
  where
    by : (b : Bool) → cond b (Some y) (txn_named token ys) ≡ None → (txn_named token ys ≡ None → carried_named token fs ≡ None) → cond b (Some f) (carried_named token fs) ≡ None
    by true h rest = cc
    by false h rest = rest h

-- the first of those that are left
abbrev live_first : List Carried → List ℕ → Option Bool
live_first [] token = None
live_first (t ∷ ts) token = live_if_named token t

-- what comes next is the first of those that are left
next_is : (front : List Carried) (xs : List TxnNow) (rest : List Carried) (token : List ℕ) → listed_tokens front ≡ begun_tokens xs
    → live_at (front ++ rest) (length xs) token ≡ live_first rest token
next_is [] [] [] token e = refl
next_is [] [] (t ∷ rest) token e = refl
next_is [] (y ∷ ys) rest token e = cc
next_is (f ∷ fs) [] rest token e = cc
next_is (f ∷ fs) (y ∷ ys) rest token e = next_is fs ys rest token (ap later e)

-- what an ask begins ----

-- a transaction of an ask, if it is said whether it is live
abbrev begun_as : Ask → Option Bool → List TxnNow
begun_as x o = unwrap_or {T = List TxnNow} (option_map (λ (l : Bool). record { txn = x.txn; live = l } ∷ []) o) []

module _ (ts : List Carried) where
  -- The listed transactions are those that have begun, and those that are left.
  record IsInTurn (front rest : List Carried) (k : KnownNow) : Type 0 where
    whole : ts ≡ front ++ rest
    tokens : listed_tokens front ≡ begun_tokens k.txns

  -- whatever begins, the transactions aren't the listed ones
  abbrev AreNeverListed : KnownNow → Type 0
  AreNeverListed k = (zs : List TxnNow) → are_listed ts (k.txns ++ zs) ≡ false

  -- Both passes go on with the same.
  record GoOn (e : Seen) (rest : List Carried) (turn look : KnownNow) : Type 0 where
    front : List Carried
    left : List Carried
    in_turn : IsInTurn front left turn
    keeps : (token : List ℕ) → bytes_eq (token_of e) token ≡ false → is_some (carried_named token rest) ≡ true → is_some (carried_named token left) ≡ true
    same : look ≡ turn

  -- A transaction is left out whose turn it isn't, so neither pass comes to the listed ones.
  record IsLost (e : Seen) (front rest : List Carried) (turn look : KnownNow) : Type 0 where
    in_turn : IsInTurn front rest turn
    listed : is_some (carried_named (token_of e) rest) ≡ true
    never : AreNeverListed look

  module _ (k : KnownNow) (e : Seen) (front rest : List Carried) (here : IsInTurn front rest k) (fresh : HasNotBegun k.txns e) where
    abbrev settled : KnownNow
    settled = settled_known k e.verdict e.body.input

    -- what is known with an ask and what it begins
    abbrev after : Ask → List TxnNow → KnownNow
    after x w = record settled { txns = settled.txns ++ w; calls = settled.calls ++ called_by settled e.mark x }

    abbrev Outcome : KnownNow → KnownNow → Type 0
    Outcome turn look = GoOn e rest turn look ⊎ IsLost e front rest turn look

    settled_tokens : listed_tokens front ≡ begun_tokens settled.txns
    settled_tokens = here.tokens ∙ ap begun_tokens (sym (settled_txns k e))

    stays : (x : Ask) → GoOn e rest (after x []) (after x [])
    stays x =
        record {
          front = front;
          left = rest;
          in_turn = record { whole = here.whole; tokens = settled_tokens ∙ ap begun_tokens (sym (append-nil settled.txns)) };
          keeps = λ token other named. named;
          same = refl;
        }

    module _ (x : Ask) (own : x.txn.token ≡ token_of e) where
      grown_tokens : (t : Carried) (y : TxnNow) → t.txn ≡ y.txn.token → listed_tokens (front ++ t ∷ []) ≡ begun_tokens (settled.txns ++ y ∷ [])
      grown_tokens t y same =
          map-append (λ (t : Carried). t.txn) front (t ∷ [])
          ∙ ap (λ (ns : List (List ℕ)). ns ++ t.txn ∷ []) settled_tokens
          ∙ ap (λ (n : List ℕ). begun_tokens settled.txns ++ n ∷ []) same
          ∙ sym (map-append (λ (y : TxnNow). y.txn.token) settled.txns (y ∷ []))

      begins : (t : Carried) (r : List Carried) → rest ≡ t ∷ r → bytes_eq t.txn x.txn.token ≡ true → GoOn e rest (after x (begun_as x (Some t.sums.live))) (after x (begun_as x (Some t.sums.live)))
      begins t r is named =
          record {
            front = front ++ t ∷ [];
            left = r;
            in_turn = record {
              whole = here.whole ∙ ap (λ (l : List Carried). front ++ l) is ∙ sym (append_assoc front (t ∷ []) r);
              tokens = grown_tokens t (record { txn = x.txn; live = t.sums.live }) (one_name t.txn x.txn.token named);
            };
            keeps = λ token other listed. further token other (subst (λ (l : List Carried). is_some (carried_named token l) ≡ true) is listed);
            same = refl;
          }
        where
          further : (token : List ℕ) → bytes_eq (token_of e) token ≡ false → is_some (carried_named token (t ∷ r)) ≡ true → is_some (carried_named token r) ≡ true
          further token other listed =
              sym (ap (λ (b : Bool). is_some (cond b (Some t) (carried_named token r)))
              (ap (λ (n : List ℕ). bytes_eq n token) (one_name t.txn x.txn.token named ∙ own) ∙ other)) ∙ listed

      lost : (t : Carried) (r : List Carried) → rest ≡ t ∷ r → bytes_eq t.txn x.txn.token ≡ false → (u : Carried) → carried_named x.txn.token r ≡ Some u
          → IsLost e front rest (after x []) (after x (begun_as x (Some u.sums.live)))
      lost t r is apart u found =
          record {
            in_turn = record { whole = here.whole; tokens = settled_tokens ∙ ap begun_tokens (sym (append-nil settled.txns)) };
            listed =
                ap (λ (n : List ℕ). is_some (carried_named n rest)) (sym own)
                ∙ ap (λ (l : List Carried). is_some (carried_named x.txn.token l)) is
                ∙ ap (λ (b : Bool). is_some (cond b (Some t) (carried_named x.txn.token r))) apart
                ∙ ap is_some found;
            never = λ zs.
                ap (λ (l : List Carried). are_listed l ((settled.txns ++ record { txn = x.txn; live = u.sums.live } ∷ []) ++ zs))
                (here.whole ∙ ap (λ (l : List Carried). front ++ l) is)
                ∙ apart_there front settled.txns t r (record { txn = x.txn; live = u.sums.live }) zs settled_tokens apart;
          }

      first_outcome : (rs : List Carried) → rest ≡ rs → Outcome (after x (begun_as x (live_first rs x.txn.token))) (after x (begun_as x (option_map (λ (t : Carried). t.sums.live) (carried_named x.txn.token rs))))
      first_outcome [] is = inl (stays x)
      first_outcome (t ∷ r) is = by (bytes_eq t.txn x.txn.token) refl
        where
          further : bytes_eq t.txn x.txn.token ≡ false → (o : Option Carried) → carried_named x.txn.token r ≡ o
              → Outcome (after x []) (after x (begun_as x (option_map (λ (t : Carried). t.sums.live) o)))
          further apart None found = inl (stays x)
          further apart (Some u) found = inr (lost t r is apart u found)

          by : (b : Bool) → bytes_eq t.txn x.txn.token ≡ b
              → Outcome (after x (begun_as x (cond b (Some t.sums.live) None)))
              (after x (begun_as x (option_map (λ (t : Carried). t.sums.live) (cond b (Some t) (carried_named x.txn.token r)))))
          by true named = inl (begins t r is named)
          by false apart = further apart (carried_named x.txn.token r) refl

      turn_says : live_at ts (length k.txns) x.txn.token ≡ live_first rest x.txn.token
      turn_says = ap (λ (l : List Carried). live_at l (length k.txns) x.txn.token) here.whole ∙ next_is front k.txns rest x.txn.token here.tokens

      look_says : live_among ts x.txn.token ≡ option_map (λ (t : Carried). t.sums.live) (carried_named x.txn.token rest)
      look_says =
          ap (λ (l : List Carried). option_map (λ (t : Carried). t.sums.live) (carried_named x.txn.token l)) here.whole
          ∙ ap (λ (o : Option Carried). option_map (λ (t : Carried). t.sums.live) o) (find-append (λ (t : Carried). bytes_eq t.txn x.txn.token) front rest)
          ∙ ap (λ (o : Option Carried). option_map (λ (t : Carried). t.sums.live) (option_or o (carried_named x.txn.token rest)))
          (none_in front k.txns x.txn.token here.tokens (ap (λ (n : List ℕ). txn_named n k.txns) own ∙ fresh))

      both_say : Outcome (after x (begun_as x (live_at ts (length k.txns) x.txn.token))) (after x (begun_as x (live_among ts x.txn.token)))
      both_say =
          subst (λ (o : Option Bool). Outcome (after x (begun_as x o)) (after x (begun_as x (live_among ts x.txn.token)))) (sym turn_says)
          (subst (λ (o : Option Bool). Outcome (after x (begun_as x (live_first rest x.txn.token))) (after x (begun_as x o))) (sym look_says) (first_outcome rest refl))

    outcome : Outcome (known_after (live_at ts (length k.txns)) k e) (known_after (live_among ts) k e)
    outcome = by (ask_known settled e) refl
      where
        nothing : GoOn e rest settled settled
        nothing =
            record { front = front; left = rest; in_turn = record { whole = here.whole; tokens = settled_tokens }; keeps = λ token other named. named; same = refl }

        some : (x : Ask) → ask_known settled e ≡ Some x → (b : Bool) → x.is_first ≡ b
            → Outcome (after x (cond b (begun_as x (live_at ts (length k.txns) x.txn.token)) [])) (after x (cond b (begun_as x (live_among ts x.txn.token)) []))
        some x is false e = inl (stays x)
        some x is true first = both_say x (first_named (facts_known settled e.number) e.body.at e.body.input x is first)

        by : (o : Option Ask) → ask_known settled e ≡ o → Outcome (with_ask (live_at ts (length k.txns)) settled e.mark o) (with_ask (live_among ts) settled e.mark o)
        by None is = inl nothing
        by (Some x) is = some x is x.is_first refl

  -- passes ----

  grows : (k : KnownNow) (e : Seen) → AreNeverListed k → AreNeverListed (known_after (live_among ts) k e)
  grows k e never = by (ask_known (settled_known k e.verdict e.body.input) e)
    where
      by : (o : Option Ask) → AreNeverListed (with_ask (live_among ts) (settled_known k e.verdict e.body.input) e.mark o)
      by None zs = ap (λ (xs : List TxnNow). are_listed ts (xs ++ zs)) (settled_txns k e) ∙ never zs
      by (Some x) zs =
          ap (λ (xs : List TxnNow). are_listed ts ((xs ++ begun_by (live_among ts) x) ++ zs)) (settled_txns k e)
          ∙ ap (are_listed ts) (append_assoc k.txns (begun_by (live_among ts) x) zs)
          ∙ never (begun_by (live_among ts) x ++ zs)

  never_known : (k : KnownNow) (es : List Seen) → AreNeverListed k → if_listed ts (known_from (live_among ts) k es) ≡ None
  never_known k [] never = ap (λ (b : Bool). cond b (Some k) None) (ap (are_listed ts) (sym (append-nil k.txns)) ∙ never [])
  never_known k (e ∷ es) never = by (makes_its_call k e) (never_known (known_after (live_among ts) k e) es (grows k e never))
    where
      by : (b : Bool) → if_listed ts (known_from (live_among ts) (known_after (live_among ts) k e) es) ≡ None → if_listed ts (cond b (known_from (live_among ts) (known_after (live_among ts) k e) es) None) ≡ None
      by true h = h
      by false h = refl

  -- events of a pass, none of which has begun
  record AreNew (k : KnownNow) (es : List Seen) : Type 0 where
    fresh : Each (HasNotBegun k.txns) es
    own : have_tokens_of_their_own es ≡ true
    forms : list_all is_event_record es ≡ true

  new_after : (k : KnownNow) (e : Seen) (es : List Seen) → AreNew k (e ∷ es) → AreNew (known_after (live_at ts (length k.txns)) k e) es
  new_after k e es new =
      let forms = and_parts (is_event_record e) (list_all is_event_record es) new.forms in
      record {
        fresh = still_none (live_at ts (length k.txns)) k e es forms.1 (no_later e es new.own) new.fresh.1;
        own = (and_parts (not (list_any (has_event_token (token_of e)) es)) (have_tokens_of_their_own es) new.own).1;
        forms = forms.1;
      }

  -- what the rest of a pass comes to, once a transaction was left out
  abbrev LostRest : KnownNow → List Seen → List ℕ → Type 0
  LostRest turned es token =
      (front rest : List Carried) → IsInTurn front rest turned → is_some (carried_named token rest) ≡ true → if_listed ts (known_in_turn ts turned es) ≡ None

  lost_known : (k : KnownNow) (es : List Seen) (front rest : List Carried) (token : List ℕ) → IsInTurn front rest k → AreNew k es → is_some (carried_named token rest) ≡ true
      → list_any (has_event_token token) es ≡ false → if_listed ts (known_in_turn ts k es) ≡ None
  lost_known k [] front [] token turn new listed none = cc
  lost_known k [] front (t ∷ rest) token turn new listed none =
      ap (λ (b : Bool). cond b (Some k) None) (ap (λ (l : List Carried). are_listed l k.txns) turn.whole ∙ too_few front k.txns t rest turn.tokens)
  lost_known k (e ∷ es) front rest token turn new listed none =
      by (makes_its_call k e) (λ front rest turn listed. lost_known turned es front rest token turn (new_after k e es new) listed apart.1)
    where
      turned : KnownNow
      turned = known_after (live_at ts (length k.txns)) k e

      apart : (has_event_token token e ≡ false) × (list_any (has_event_token token) es ≡ false)
      apart = neither (has_event_token token e) (list_any (has_event_token token) es) none

      other : bytes_eq (token_of e) token ≡ false
      other = other_token token e (and_parts (is_event_record e) (list_all is_event_record es) new.forms).0 apart.0

      on : LostRest turned es token → GoOn e rest turned (known_after (live_among ts) k e) ⊎ IsLost e front rest turned (known_after (live_among ts) k e) → if_listed ts (known_in_turn ts turned es) ≡ None
      on more (inl go) = more go.front go.left go.in_turn (go.keeps token other listed)
      on more (inr lost) = more front rest lost.in_turn listed

      by : (b : Bool) → LostRest turned es token → if_listed ts (cond b (known_in_turn ts turned es) None) ≡ None
      by true more = on more (outcome k e front rest turn new.fresh.0)
      by false more = refl

  -- what the rests of both passes come to
  abbrev SameRest : KnownNow → List Seen → Type 0
  SameRest turned es =
      (front rest : List Carried) → IsInTurn front rest turned → if_listed ts (known_in_turn ts turned es) ≡ if_listed ts (known_from (live_among ts) turned es)

  same_known : (k : KnownNow) (es : List Seen) (front rest : List Carried) → IsInTurn front rest k → AreNew k es
      → if_listed ts (known_in_turn ts k es) ≡ if_listed ts (known_from (live_among ts) k es)
  same_known k [] front rest turn new = refl
  same_known k (e ∷ es) front rest turn new =
      by (makes_its_call k e) (λ front rest turn. same_known (known_after (live_at ts (length k.txns)) k e) es front rest turn (new_after k e es new))
    where
      turned : KnownNow
      turned = known_after (live_at ts (length k.txns)) k e

      looked : KnownNow
      looked = known_after (live_among ts) k e

      on : SameRest turned es → GoOn e rest turned looked ⊎ IsLost e front rest turned looked → if_listed ts (known_in_turn ts turned es) ≡ if_listed ts (known_from (live_among ts) looked es)
      on more (inl go) =
          more go.front go.left go.in_turn ∙ ap (λ (x : KnownNow). if_listed ts (known_from (live_among ts) x es)) (sym go.same)
      on more (inr lost) =
          lost_known turned es front rest (token_of e) lost.in_turn (new_after k e es new) lost.listed (no_later e es new.own)
          ∙ sym (never_known looked es lost.never)

      by : (b : Bool) → SameRest turned es → if_listed ts (cond b (known_in_turn ts turned es) None) ≡ if_listed ts (cond b (known_from (live_among ts) looked es) None)
      by true more = on more (outcome k e front rest turn new.fresh.0)
      by false more = refl

all_new : (es : List Seen) → Each (HasNotBegun []) es
all_new [] = tt
all_new (e ∷ es) = (refl, all_new es)

-- so both read the same if the transactions are to be the listed ones
pub turn_is_listed : (es : List Seen) (ts : List Carried) → have_tokens_of_their_own es ≡ true → list_all is_event_record es ≡ true
    → if_listed ts (known_in_turn ts nothing_known es) ≡ read_by es ts
turn_is_listed es ts own forms =
    same_known ts nothing_known es [] ts (record { whole = refl; tokens = refl }) (record { fresh = all_new es; own = own; forms = forms })
