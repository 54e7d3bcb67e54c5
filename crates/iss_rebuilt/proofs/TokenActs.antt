-- What acts make on a state whose names are tokens names users and products by tokens, and use is of a transaction that stands.
use Rattle.std.proofs.Common.{◌≡◌, ◌∙◌, ◌+◌, ◌||◌, ◌==◌, ◌-◌, ◌++◌, ◌∷◌, ◌&&◌, ap, ap₂, Bool, false, fold, inl, inr, List, [], refl, subst, sym, true, ℕ}
use Rattle.std.specs.Prelude.{Option, Some}
use Rattle.std.specs.List.{list_all}
use Rattle.std.specs.Str.{bytes_eq}
use Rattle.std.proofs.lemmas.Bool.{and_parts}
use Rattle.iss_model.specs.declared.decision.Reason.{Reason}
use Rattle.iss_model.specs.declared.decision.Reason.TheVariants as reason
use Rattle.iss_model.specs.declared.entry.Entry.{Entry}
use Rattle.iss_model.specs.declared.entry.Entry.TheVariants as entry
use Rattle.iss_model.specs.declared.input.Input.{Input}
use Rattle.iss_model.specs.declared.input.Input.TheVariants as input
use Rattle.iss_model.specs.declared.setting.Card.{Card}
use Rattle.iss_model.specs.declared.txn.Txn.{Txn}
use Rattle.iss_model.specs.rules.Activity.{CallNow, TxnNow}
use Rattle.iss_model.specs.rules.Acts.{Abandons, Act, Begins, Clears, Funds, FundsPart, GivesBack, HoldsOwn, LetsGo, Loads, Refuses, Sets, StandsIn, TurnsDown, Uses, act_entries, entries_of_acts}
use Rattle.iss_model.specs.rules.Asks.{Ask, ask_usage, call_ask}
use Rattle.iss_model.specs.rules.CardActs.{authorization_acts, funding_acts}
use Rattle.iss_model.specs.rules.CardReasons.{authorization_reason}
use Rattle.iss_model.specs.rules.Due.{DueThing, thing_entries}
use Rattle.iss_model.specs.rules.Facts.{Facts}
use Rattle.iss_model.specs.rules.Pieces.{abandoned_calls_entries, declined_ask_entries, in_all, taken_to_clear, taken_to_release}
use Rattle.iss_model.specs.rules.Stepping.{acts_unless, entries_of}
use Rattle.iss_model.specs.state.Cores.{CoreState, after_entry, core_facts, is_live}
use Rattle.iss_model.proofs.Lists.{find_passes}
use Rattle.iss_acts.specs.Causes.{Cause, ComesOf, FallsDue}
use Rattle.iss_acts.specs.Sources.{IsFirstAsk, IsMade, IsOwnAsk, IsSettledAsk, IsTxnOf}
use Rattle.iss_acts.specs.Stages.{Stage}
use Rattle.iss_acts.proofs.Begun.{is_begun}
use Rattle.iss_acts.proofs.Passing.{EachPasses, both_pass, either_passes, gateway_passes, none_passes, one_passes, passing, two_pass, where_passes}
use Rattle.iss_acts.proofs.Walk.{Holds, due_holds, own_holds, txn_of_ask, txn_of_call}
use Rattle.iss_state.proofs.docket.Lists.{found_any, or_true}
use Rattle.iss_state.proofs.effects.Finds.{same_number}
use Rattle.iss_states.specs.Keys.{has_no_zero}
use Rattle.iss_rebuilt.proofs.Tokens.{AreNamed, began_with, entries_grow, is_named_card, is_named_entry, is_named_input, is_named_now, is_named_txn}

-- a transaction names users and products so, and is among these
record IsKnown (all : List TxnNow) (t : Txn) : Type 0 where
  named : is_named_txn t ≡ true
  began : began_with all t.origin ≡ true

module _ (all : List TxnNow) where
  -- each of these entries is named
  abbrev AreNamedEntries : List Entry → Type 0
  AreNamedEntries es = EachPasses (is_named_entry all) es

  its_user : (t : Txn) → IsKnown all t → has_no_zero t.user ≡ true
  its_user t known = (and_parts (has_no_zero t.user) (has_no_zero t.product) known.named).0

  its_product : (t : Txn) → IsKnown all t → has_no_zero t.product ≡ true
  its_product t known = (and_parts (has_no_zero t.user) (has_no_zero t.product) known.named).1

  used : (t : Txn) → IsKnown all t → (has_no_zero t.user && began_with all t.origin) ≡ true
  used t known = ap₂ (λ (a b : Bool). a && b) (its_user t known) known.began

  from_user : (t : Txn) → IsKnown all t → (has_no_zero t.user && true) ≡ true
  from_user t known = ap (λ (b : Bool). b && true) (its_user t known)

  stood : (t : Txn) → IsKnown all t → (has_no_zero t.product && has_no_zero t.user) ≡ true
  stood t known = ap₂ (λ (a b : Bool). a && b) (its_product t known) (its_user t known)

  declined_named : (ask : Ask) (why : Reason) → IsKnown all ask.txn → AreNamedEntries (declined_ask_entries ask why)
  declined_named ask why known = two_pass (used ask.txn known) (both_pass (either_passes ask.is_first (one_passes refl) none_passes) (one_passes refl))

  abandoned_named : (n : ℕ) (t : Txn) (why : Reason) (cs : List CallNow) → IsKnown all t → AreNamedEntries (abandoned_calls_entries n t why cs)
  abandoned_named n t why [] known = none_passes
  abandoned_named n t why (c ∷ cs) known = two_pass refl (two_pass refl (two_pass (used t known) (two_pass refl (abandoned_named (n + 1) t why cs known))))

-- What is known of the facts that acts are made on: names, that their transactions are among these, and that one which begins is too.
record AreTold (all : List TxnNow) (f : Facts) (by : Cause) (at : ℕ) : Type 0 where
  cards : list_all is_named_card f.cards ≡ true
  txns : list_all is_named_now f.txns ≡ true
  stay : (origin : ℕ) → began_with f.txns origin ≡ true → began_with all origin ≡ true
  begin : (ask : Ask) → IsFirstAsk f by at ask → began_with all ask.txn.origin ≡ true
  form : (i : Input) → by ≡ ComesOf i → is_named_input i ≡ true

module _ (all : List TxnNow) (f : Facts) (by : Cause) (at : ℕ) (told : AreTold all f by at) where
  known : (t : Txn) → IsTxnOf f t → IsKnown all t
  known t its =
      record {
        named =
            subst (λ (x : Txn). is_named_txn x ≡ true) its.same
            (find_passes (λ (x : TxnNow). bytes_eq x.txn.token its.token) is_named_now f.txns its.now told.txns its.stands);
        began =
            told.stay t.origin
            (found_any (λ (x : TxnNow). bytes_eq x.txn.token its.token) (λ (x : TxnNow). x.txn.origin == t.origin) f.txns its.now its.stands
            (ap (λ (x : Txn). x.origin == t.origin) its.same ∙ same_number t.origin));
      }

  own_known : (ask : Ask) → IsOwnAsk f by at ask → IsKnown all ask.txn
  own_known ask (inl first) =
      let begun = is_begun first in
      record {
        named = ap (λ (x : Ask). is_named_txn x.txn) begun.same ∙ find_passes (λ (c : Card). bytes_eq c.name first.card) is_named_card f.cards begun.card told.cards begun.of_card;
        began = told.begin ask first;
      }
  own_known ask (inr more) = known ask.txn (txn_of_ask more)

  settled_known : (ask : Ask) → IsSettledAsk f by at ask → IsKnown all ask.txn
  settled_known ask (inl call) = subst (λ (x : Ask). IsKnown all x.txn) (sym call.is) (known call.t (txn_of_call call.asked))
  settled_known ask (inr own) = own_known ask own.0

  act_named : (g : Stage) (a : Act) → IsMade f by at g a → AreNamedEntries all (act_entries a)
  act_named g (Sets i event) made = two_pass (told.form i made.from.0) (one_passes refl)
  act_named g (Loads event user currency amount) made =
      let all_its = and_parts (has_no_zero event) (has_no_zero user && true) (told.form (input.Load event user currency amount) made.from.1) in
      two_pass (and_parts (has_no_zero user) true all_its.1).0 (one_passes refl)
  act_named g (Begins ask) made =
      let its = own_known ask (inl made.from.1) in
      two_pass its.named (one_passes (used all ask.txn its))
  act_named g (Uses ask) made = one_passes (used all ask.txn (own_known ask (inr made.from.1)))
  act_named g (HoldsOwn ask) made = both_pass (where_passes ask.amount (one_passes refl)) (one_passes refl)
  act_named g (Funds o t) made =
      let its = known t (txn_of_call made.from.1) in
      two_pass refl (both_pass (both_pass (where_passes o.amount (one_passes (its_user all t its))) (where_passes o.amount (one_passes refl))) (one_passes refl))
  act_named g (FundsPart o t amount) made =
      let its = known t (txn_of_call made.from.1) in
      two_pass refl
      (two_pass (used all t its) (both_pass (both_pass (where_passes amount (one_passes (its_user all t its))) (where_passes amount (one_passes refl))) (one_passes refl)))
  act_named g (Refuses o t) made = two_pass refl (declined_named all (call_ask o t) reason.GatewayDeclined (known t (txn_of_call made.from.1)))
  act_named g (StandsIn number ask when set) made =
      let its = settled_known ask made.from.1 in
      two_pass (stood all ask.txn its)
      (both_pass (both_pass (where_passes ask.amount (one_passes (its_user all ask.txn its))) (where_passes ask.amount (one_passes refl))) (passing refl))
  act_named g (TurnsDown ask why) made = declined_named all ask why (settled_known ask made.from.1)
  act_named g (Abandons number t why calls parts) made = abandoned_named all number t why calls (known t made.from.1)
  act_named g (LetsGo t parts amount) made =
      let its = known t made.from.1 in
      let taken = taken_to_release parts amount in
      both_pass (both_pass (both_pass (both_pass (both_pass (where_passes taken.p (one_passes refl)) (where_passes taken.p (one_passes (from_user all t its))))
      (where_passes taken.g (one_passes refl))) (where_passes taken.g (one_passes (from_user all t its)))) (where_passes taken.s (one_passes refl)))
      (where_passes amount (one_passes (used all t its)))
  act_named g (Clears t parts amount when) made =
      let its = known t made.from.1 in
      let taken = taken_to_clear parts amount in
      let excess = amount - in_all taken in
      both_pass (both_pass (both_pass (both_pass (both_pass (where_passes taken.g (one_passes refl)) (where_passes taken.p (one_passes refl)))
      (where_passes taken.s (one_passes refl))) (gateway_passes t (where_passes excess (one_passes (its_user all t its))))) (where_passes amount (one_passes (from_user all t its))))
      (where_passes excess (one_passes (used all t its)))
  act_named g (GivesBack t amount programme) made =
      let its = known t made.from.0 in
      both_pass (where_passes amount (one_passes (its_user all t its)))
      (gateway_passes t (both_pass (where_passes programme (one_passes (from_user all t its))) (where_passes (amount - programme) (one_passes (from_user all t its)))))
  act_named g _ made = passing refl

  all_named : Holds f by at (AreNamedEntries all)
  all_named = record { none = none_passes; then = both_pass; act = act_named }

-- what is due, and what an input makes ----

-- the state when these entries are entered
abbrev entered : CoreState → List Entry → CoreState
entered s es = fold after_entry s es

pub due_named : (s : CoreState) (thing : DueThing) (at : ℕ) → AreNamed s
    → list_all (is_named_entry (entered s (thing_entries thing at (core_facts s))).holdings.txns) (thing_entries thing at (core_facts s)) ≡ true
due_named s thing at h =
    let f : Facts = core_facts s in
    let es : List Entry = thing_entries thing at f in
    let all : List TxnNow = (entered s es).holdings.txns in
    (due_holds f thing at (all_named all f FallsDue at (told es))).all
  where
    told : (es : List Entry) → AreTold (entered s es).holdings.txns (core_facts s) FallsDue at
    told es = record { cards = h.cards; txns = h.txns; stay = entries_grow s es; begin = λ ask first. never first.its_input; form = λ i e. never e }
      where
        never : {P : Type 0} {i : Input} → FallsDue ≡ ComesOf i → P
        never e = cc

-- the transaction of an authorisation that begins stands after its entries
module _ (s : CoreState) (at : ℕ) where
  begins_first : (i : Input) (ask : Ask) → IsFirstAsk (core_facts s) (ComesOf i) at ask → began_with (entered s (entries_of i at (core_facts s))).holdings.txns ask.txn.origin ≡ true
  begins_first i ask first =
      subst (λ (j : Input). began_with (entered s (entries_of j at f)).holdings.txns ask.txn.origin ≡ true) (sym its)
      (ap (λ (es : List Entry). began_with (entered s es).holdings.txns ask.txn.origin) makes ∙ there)
    where
      f : Facts
      f = core_facts s

      same_input : {i j : Input} → ComesOf i ≡ ComesOf j → i ≡ j
      same_input e = cc

      its : i ≡ input.Authorization first.token first.card first.currency first.amount first.mcc first.mid first.partial
      its = same_input first.its_input

      makes : entries_of (input.Authorization first.token first.card first.currency first.amount first.mcc first.mid first.partial) at f ≡ entries_of_acts (authorization_acts f (Some ask))
      makes =
          ap (λ (o : Option Ask). entries_of_acts (acts_unless (authorization_reason f first.card first.currency o) first.token (authorization_acts f o))) first.made
          ∙ ap (λ (why : Option Reason). entries_of_acts (acts_unless why first.token (authorization_acts f (Some ask)))) first.none

      stands : (x : TxnNow) (xs : List TxnNow) → began_with (xs ++ x ∷ []) x.txn.origin ≡ true
      stands x [] = ap (λ (b : Bool). b || false) (same_number x.txn.origin)
      stands x (y ∷ ys) = or_true (y.txn.origin == x.txn.origin) (began_with (ys ++ x ∷ []) x.txn.origin) (stands x ys)

      there : began_with (entered s (entries_of_acts (authorization_acts f (Some ask)))).holdings.txns ask.txn.origin ≡ true
      there = entries_grow (after_entry s (entry.Began ask.txn)) (entry.Usage (ask_usage ask) ∷ entries_of_acts (funding_acts f ask)) ask.txn.origin (stands (record { txn = ask.txn; live = is_live s.holdings.txns ask.txn.token }) s.holdings.txns)

pub own_named : (s : CoreState) (i : Input) (at : ℕ) → is_named_input i ≡ true → AreNamed s
    → list_all (is_named_entry (entered s (entries_of i at (core_facts s))).holdings.txns) (entries_of i at (core_facts s)) ≡ true
own_named s i at form h =
    let f : Facts = core_facts s in
    let es : List Entry = entries_of i at f in
    let all : List TxnNow = (entered s es).holdings.txns in
    (own_holds f i at (all_named all f (ComesOf i) at (record { cards = h.cards; txns = h.txns; stay = entries_grow s es; begin = begins_first s at i; form = its_form }))).all
  where
    its_form : (j : Input) → ComesOf i ≡ ComesOf j → is_named_input j ≡ true
    its_form j e =
        let same : i ≡ j = cc in
        subst (λ (i : Input). is_named_input i ≡ true) same form
