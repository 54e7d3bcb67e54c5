-- What is made again of a state's events names what is known, and transactions have origins of their own.
use Rattle.std.proofs.Common.{◌≡◌, ◌∙◌, ◌++◌, ◌∷◌, ◌&&◌, ◌||◌, ◌==◌, ℕ, ap, ap₂, append-nil, arith, Bool, cond, false, fold, List, [], map, nat_eq, nat_le, nat_lt, not, refl, subst, sym, true}
use Rattle.std.specs.Prelude.{Option, Some, None, is_some, option_map, option_and_then}
use Rattle.std.specs.List.{list_all, list_any}
use Rattle.std.specs.Str.{bytes_eq}
use Rattle.std.proofs.lemmas.Bool.{and_parts}
use Rattle.std.proofs.lemmas.Bool.Decides.{nat_tests}
use Rattle.std.proofs.lemmas.List.Folds.{list_any-append}
use Rattle.iss_model.specs.declared.call.Opened.{Opened}
use Rattle.iss_model.specs.declared.decision.Reason.{Reason}
use Rattle.iss_model.specs.declared.decision.Verdict.{Verdict}
use Rattle.iss_model.specs.declared.currency.Currency.{Currency}
use Rattle.iss_model.specs.declared.input.Input.{Input}
use Rattle.iss_model.specs.declared.input.Input.TheVariants as input
use Rattle.iss_model.specs.declared.setting.Card.{Card}
use Rattle.iss_model.specs.declared.setting.Product.{Product}
use Rattle.iss_model.specs.declared.state.Seen.{Seen}
use Rattle.iss_model.specs.declared.state.State.{State}
use Rattle.iss_model.specs.declared.txn.Txn.{Txn}
use Rattle.iss_model.specs.Forms.{is_in_form, is_stamp}
use Rattle.iss_model.specs.Inputs.{event_token}
use Rattle.iss_model.specs.Tokens.{is_token}
use Rattle.iss_model.specs.rules.Activity.{TxnNow, txn_named}
use Rattle.iss_model.specs.rules.Asks.{Ask, txn_begun}
use Rattle.iss_model.specs.rules.CardReasons.{first_ask, further_ask, is_account_funded}
use Rattle.iss_model.specs.rules.Facts.{Accepted, Decision, Facts, verdict_in}
use Rattle.iss_model.specs.rules.Reasons.{is_some_with}
use Rattle.iss_model.specs.rules.Settings.{card_named, product_named}
use Rattle.iss_model.specs.state.Cores.{CoreState, after_setting, core_facts, no_core}
use Rattle.iss_model.specs.texts.Spelling.{has_spelling, is_record, tokens_of}
use Rattle.iss_model.proofs.Lists.{all_weaker, find_passes}
use Rattle.iss_acts.specs.Sources.{setting_reason}
use Rattle.iss_state.proofs.docket.Lists.{both_so, by_either}
use Rattle.iss_state.proofs.effects.Finds.{number_is, same_number}
use Rattle.iss_states.specs.Order.{AreInOrder, do_numbers_rise, is_event_record}
use Rattle.iss_states.specs.Rebuilding.{ask_of_event, is_done, rebuilt}
use Rattle.iss_states.specs.Settled.{IsJudged, WereJudged, reason_before, set_part, sets_something, verdict_by, with_done}
use Rattle.iss_states.specs.Showing.{seen_in, token_of_event}
use Rattle.iss_rebuilt.proofs.Made.{Made, first_txns, has_txn, made_again, made_facts, made_set, nothing_made, with_made_of, Words, words_of}
use Rattle.iss_rebuilt.proofs.MadeShown.{IsMade}
use Rattle.iss_rebuilt.proofs.Tokens.{is_named_input, tokens_named}
use Rattle.iss_well_formed.specs.Again.{AreOfTheirEvents}
use Rattle.iss_well_formed.specs.Events.{AreJudged}
use Rattle.iss_well_formed.proofs.Growing.{AtMostOne, none_more, one_more}
use Rattle.iss_well_formed.proofs.MadeAgain.{judged_again, made_too, set_too}
use Rattle.iss_well_formed.proofs.WellAgain.{all_mapped}
use Rattle.iss_named.specs.Known.{is_known_user}
use Rattle.iss_named.specs.Stood.{is_gateway_product}
use Rattle.iss_named.proofs.SetNames.{AreSetWell, KnowMore, all_more, is_of_known_user, nothing_set, part_well, set_well, setting_knows}

-- tests ----

-- the user of a transaction is known, and so is its product with its funding, if the gateway pays it
abbrev pub is_known_txn : CoreState → Txn → Bool
is_known_txn c t = is_known_user c.cardholders.users t.user && (is_account_funded t.funding || is_gateway_product c.products t.product)

-- no two transactions have one origin
abbrev pub HaveOwnOrigins : List Txn → Type 0
HaveOwnOrigins [] = Unit {0}
HaveOwnOrigins (t ∷ ts) = (list_any (λ x. x.origin == t.origin) ts ≡ false) × HaveOwnOrigins ts

-- What is made of events up to the record of this number: settings are well, transactions are known, and each has an origin of its own.
record IsMadeWell (last : ℕ) (m : Made) : Type 0 where
  set : AreSetWell m.set
  txns : list_all (is_known_txn m.set) m.txns ≡ true
  origins : list_all (λ t. nat_le t.origin last) m.txns ≡ true
  apart : HaveOwnOrigins m.txns

-- origins ----

not_equal : (n m last : ℕ) → nat_le n last ≡ true → nat_lt last m ≡ true → nat_eq m n ≡ false
not_equal n m last h k = grind (arith, nat_tests)

up_to : (n m last : ℕ) → nat_le n last ≡ true → nat_lt last m ≡ true → nat_le n m ≡ true
up_to n m last h k = grind (arith, nat_tests)

itself : (n : ℕ) → nat_le n n ≡ true
itself n = grind (arith, nat_tests)

origins_last : (ts : List Txn) (x : Txn) (last : ℕ) → list_all (λ t. nat_le t.origin last) ts ≡ true → nat_lt last x.origin ≡ true → HaveOwnOrigins ts → HaveOwnOrigins (ts ++ x ∷ [])
origins_last [] x last h later own = (refl, tt)
origins_last (t ∷ ts) x last h later own =
    let both = and_parts (nat_le t.origin last) (list_all (λ (t : Txn). nat_le t.origin last) ts) h in (
      list_any-append (λ (y : Txn). y.origin == t.origin) ts (x ∷ [])
          ∙ ap₂ (λ (a b : Bool). a || (b || false)) own.0 (not_equal t.origin x.origin last both.0 later),
      origins_last ts x last both.1 later own.1,
    )

-- an ask that begins a transaction ----

either_way : (b : Bool) → (b || not b) ≡ true
either_way true = refl
either_way false = refl

-- a transaction that began just now is known, and has the number of its record
abbrev is_begun_well : CoreState → ℕ → Txn → Bool
is_begun_well c n t = is_known_txn c t && nat_eq t.origin n

module _ (set : CoreState) (well : AreSetWell set) (txns : List Txn) (calls : List Opened) (n at : ℕ) (b : Bool) where
  -- none, or one that began well
  abbrev BeginsWell : Option Ask → Type 0
  BeginsWell ask = AtMostOne (λ t. is_begun_well set n t ≡ true) (first_txns b ask)

  abbrev f : Facts
  f = made_facts set txns calls n

  its_first : (token : List ℕ) (amount : ℕ) (partial : Bool) (t : Txn) → is_begun_well set n t ≡ true → BeginsWell (Some (first_ask token amount partial at t))
  its_first token amount partial t h = by b
    where
      by : (b : Bool) → AtMostOne (λ t. is_begun_well set n t ≡ true) (cond b (t ∷ []) [])
      by true = one_more t h
      by false = none_more

  its_card : (token : List ℕ) (currency : Currency) (amount mcc : ℕ) (mid : List ℕ) (partial : Bool) (name : List ℕ) (card : Card) → card_named name set.cardholders.cards ≡ Some card
      → (o : Option Product) → product_named card.product (map (λ p. p.product) set.products) ≡ o
      → BeginsWell (option_map (first_ask token amount partial at) (option_map (λ product. txn_begun f card product token currency mcc mid at) o))
  its_card token currency amount mcc mid partial name card found None e = none_more
  its_card token currency amount mcc mid partial name card found (Some product) e =
      its_first token amount partial (txn_begun f card product token currency mcc mid at)
      (both_so (is_known_txn set (txn_begun f card product token currency mcc mid at)) (nat_eq n n)
      (both_so (is_known_user set.cardholders.users card.user) (is_account_funded product.funding || is_gateway_product set.products card.product)
      (find_passes (λ (x : Card). bytes_eq x.name name) (is_of_known_user set.cardholders.users) set.cardholders.cards card well.cards found)
      (ap (λ (o : Option Product). is_account_funded product.funding || is_some_with (λ (p : Product). not (is_account_funded p.funding)) o) e ∙ either_way (is_account_funded product.funding)))
      (same_number n))

  begins_well : (i : Input) → BeginsWell (ask_of_event f at i)
  begins_well (input.Authorization token card currency amount mcc mid partial) = by (card_named card set.cardholders.cards) refl
    where
      by : (o : Option Card) → card_named card set.cardholders.cards ≡ o
          → BeginsWell (option_map (first_ask token amount partial at) (option_and_then (λ c. option_map (λ product. txn_begun f c product token currency mcc mid at) (product_named c.product f.products)) o))
      by None e = none_more
      by (Some c) e = its_card token currency amount mcc mid partial card c e (product_named c.product (map (λ p. p.product) set.products)) refl
  begins_well (input.Increment token txn currency amount) = by (txn_named txn f.txns)
    where
      by : (o : Option TxnNow) → BeginsWell (option_map (λ now. further_ask token amount at now.txn) o)
      by None = none_more
      by (Some now) = none_more
  begins_well _ = none_more

-- one event ----

reasoned : (f : Facts) (i : Input) → sets_something i ≡ true → reason_before f i ≡ Some (setting_reason f i)
reasoned f (input.Load token user currency amount) h = cc
reasoned f (input.User token user) h = refl
reasoned f (input.Card token card user product active) h = refl
reasoned f (input.Move token who) h = refl
reasoned f (input.Product token product currency funding timeout_ms hold_ms) h = refl
reasoned f (input.Group token group mccs) h = refl
reasoned f (input.Control token control currency window amount_limit usage_limit association scope offset active) h = refl
reasoned f (input.Set token set product currency connection timeout application max day_limit active) h = refl
reasoned f (input.Switch token product on) h = refl
reasoned f _ h = cc

-- a setting that is done had no reason against it
undeclined : (why : Option Reason) (v : Option Verdict) → v ≡ Some (verdict_by why) → is_done v ≡ true → why ≡ None
undeclined None v e h = refl
undeclined (Some why) v e h = let never : false ≡ true = sym (ap is_done e) ∙ h in cc

-- what is set after an event
record IsSetAfter (c d : CoreState) : Type 0 where
  well : AreSetWell d
  more : KnowMore c d

set_after : (ds : List Decision) (c : CoreState) (a : Accepted) → is_named_input a.input ≡ true → IsJudged (reason_before (core_facts c) a.input) (verdict_in ds (token_of_event a)) → AreSetWell c
    → IsSetAfter c (with_done ds c a)
set_after ds c a named judged h = by (is_done (verdict_in ds (token_of_event a))) (sets_something a.input) refl refl
  where
    with_it : is_done (verdict_in ds (token_of_event a)) ≡ true → sets_something a.input ≡ true → IsSetAfter c (set_part (after_setting (record c { count = a.number }) a.input))
    with_it done sets =
        let none : setting_reason (core_facts c) a.input ≡ None = undeclined (setting_reason (core_facts c) a.input) (verdict_in ds (token_of_event a))
        (subst (λ (o : Option (Option Reason)). IsJudged o (verdict_in ds (token_of_event a))) (reasoned (core_facts c) a.input sets) judged) done in
        let more : KnowMore (record c { count = a.number }) (after_setting (record c { count = a.number }) a.input) = setting_knows (record c { count = a.number }) a.input in
        record { well = part_well (after_setting (record c { count = a.number }) a.input) (set_well c a.number a.input named none h); more = record { users = more.users; products = more.products } }

    by : (done sets : Bool) → is_done (verdict_in ds (token_of_event a)) ≡ done → sets_something a.input ≡ sets
        → IsSetAfter c (cond (done && sets) (set_part (after_setting (record c { count = a.number }) a.input)) c)
    by true true e k = with_it e k
    by true false e k = record { well = h; more = record { users = λ name k. k; products = λ name k. k } }
    by false sets e k = record { well = h; more = record { users = λ name k. k; products = λ name k. k } }

known_later : (c d : CoreState) → KnowMore c d → (t : Txn) → is_known_txn c t ≡ true → is_known_txn d t ≡ true
known_later c d more t h =
    let both = and_parts (is_known_user c.cardholders.users t.user) (is_account_funded t.funding || is_gateway_product c.products t.product) h in
    both_so (is_known_user d.cardholders.users t.user) (is_account_funded t.funding || is_gateway_product d.products t.product) (more.users t.user both.0) (by (is_account_funded t.funding) both.1)
  where
    by : (b : Bool) → (b || is_gateway_product c.products t.product) ≡ true → (b || is_gateway_product d.products t.product) ≡ true
    by true k = refl
    by false k = more.products t.product k

-- transactions after one more event
record AreTxnsAfter (set : CoreState) (n : ℕ) (ts : List Txn) : Type 0 where
  txns : list_all (is_known_txn set) ts ≡ true
  origins : list_all (λ t. nat_le t.origin n) ts ≡ true
  apart : HaveOwnOrigins ts

txns_after : (set : CoreState) (last n : ℕ) (ts : List Txn) → nat_lt last n ≡ true → list_all (is_known_txn set) ts ≡ true → list_all (λ t. nat_le t.origin last) ts ≡ true → HaveOwnOrigins ts
    → (more : List Txn) → AtMostOne (λ t. is_begun_well set n t ≡ true) more → AreTxnsAfter set n (ts ++ more)
txns_after set last n ts later known origins apart more one =
    by_either {C = AreTxnsAfter set n (ts ++ more)} (λ e. subst (λ (xs : List Txn). AreTxnsAfter set n (ts ++ xs)) (sym e) none) (λ x. subst (λ (xs : List Txn). AreTxnsAfter set n (ts ++ xs)) (sym x.1) (with_one x.0 x.2)) one
  where
    before : list_all (λ (t : Txn). nat_le t.origin n) ts ≡ true
    before = all_weaker (λ (t : Txn). nat_le t.origin last) (λ (t : Txn). nat_le t.origin n) (λ t k. up_to t.origin n last k later) ts origins

    none : AreTxnsAfter set n (ts ++ [])
    none = subst (AreTxnsAfter set n) (sym (append-nil ts)) (record { txns = known; origins = before; apart = apart })

    with_one : (t : Txn) → is_begun_well set n t ≡ true → AreTxnsAfter set n (ts ++ t ∷ [])
    with_one t h =
        let both = and_parts (is_known_txn set t) (nat_eq t.origin n) h in
        let its : t.origin ≡ n = number_is t.origin n both.1 in
        record {
          txns = all_more (is_known_txn set) ts t known both.0;
          origins = all_more (λ (t : Txn). nat_le t.origin n) ts t before (ap (λ (m : ℕ). nat_le m n) its ∙ itself n);
          apart = origins_last ts t last origins (ap (λ (m : ℕ). nat_lt last m) its ∙ later) apart;
        }

one_made : (w : Words) (m : Made) (a : Accepted) (last : ℕ) → nat_lt last a.number ≡ true → is_named_input a.input ≡ true
    → IsJudged (reason_before (core_facts m.set) a.input) (verdict_in w.decisions (token_of_event a)) → IsMadeWell last m → IsMadeWell a.number (with_made_of w m a)
one_made w m a last later named judged h =
    let set : CoreState = with_done w.decisions m.set a in
    let after : IsSetAfter m.set set = set_after w.decisions m.set a named judged h.set in
    let b : Bool = has_txn w.txns (token_of_event a) in
    let txns : AreTxnsAfter set a.number (m.txns ++ first_txns b (ask_of_event (made_facts set m.txns m.calls a.number) a.at a.input)) =
    txns_after set last a.number m.txns later (all_weaker (is_known_txn m.set) (is_known_txn set) (known_later m.set set after.more) m.txns h.txns) h.origins h.apart
    (first_txns b (ask_of_event (made_facts set m.txns m.calls a.number) a.at a.input)) (begins_well set after.well m.txns m.calls a.number a.at b a.input)
    in
    record { set = after.well; txns = txns.txns; origins = txns.origins; apart = txns.apart }

-- all events ----

all_made : (c : CoreState) (w : Words) (last records : ℕ) (m : Made) (xs : List Accepted) → do_numbers_rise last records (map (seen_in c) xs) ≡ true → list_all (λ a. is_named_input a.input) xs ≡ true
    → WereJudged w.decisions m.set xs → IsMadeWell last m → (n : ℕ) × IsMadeWell n (fold (with_made_of w) m xs)
all_made c w last records m [] rise named judged h = (last, h)
all_made c w last records m (a ∷ xs) rise named judged h =
    let parts = and_parts (nat_lt last a.number && nat_le a.number records) (do_numbers_rise a.number records (map (seen_in c) xs)) rise in
    let names = and_parts (is_named_input a.input) (list_all (λ (a : Accepted). is_named_input a.input) xs) named in
    all_made c w a.number records (with_made_of w m a) xs parts.1 names.1 judged.1
    (one_made w m a last (and_parts (nat_lt last a.number) (nat_le a.number records) parts.0).0 names.0 judged.0 h)

-- an event in form names tokens
event_named : (e : Seen) → is_event_record e ≡ true → is_named_input e.body.input ≡ true
event_named e h =
    let form : is_record e.body ≡ true = (and_parts (is_some (event_token e.body.input)) (is_record e.body) h).1 in
    tokens_named e.body.input
    (and_parts (is_in_form e.body.input) (list_all is_token (tokens_of e.body.input)) (and_parts (is_stamp e.body.at) (has_spelling e.body.input) form).1).1

-- What is known of a core: what it has set, and its transactions.
pub record KnowsItsNames (c : CoreState) : Type 0 where
  pub set : AreSetWell (set_part c)
  pub txns : list_all (is_known_txn c) (map (λ t. t.txn) c.holdings.txns) ≡ true
  pub apart : HaveOwnOrigins (map (λ t. t.txn) c.holdings.txns)

module _ (s : State) (order : AreInOrder s) (own : AreOfTheirEvents s) (judged : AreJudged no_core s.events) where
  abbrev c : CoreState
  c = rebuilt s

  named : list_all (λ a. is_named_input a.input) c.accepted ≡ true
  named =
      all_weaker (λ (a : Accepted). is_event_record (seen_in c a)) (λ (a : Accepted). is_named_input a.input) (λ a h. event_named (seen_in c a) h) c.accepted
      (sym (all_mapped is_event_record (seen_in c) c.accepted) ∙ ap (list_all is_event_record) own.events ∙ order.records)

  pub names_again : KnowsItsNames c
  names_again =
      let made : IsMade (words_of c) c.accepted = made_too s own in
      let all = all_made c (words_of c) 0 s.records nothing_made c.accepted (ap (do_numbers_rise 0 s.records) own.events ∙ order.numbers) named (judged_again s own judged)
      (record { set = nothing_set; txns = refl; origins = refl; apart = tt }) in
      let set : (made_again (words_of c) c.accepted).set ≡ set_part c = made_set (words_of c) nothing_made c.accepted ∙ sym (set_too s own) in
      record {
        set = subst AreSetWell set all.1.set;
        txns = subst (λ (d : CoreState). list_all (is_known_txn d) (map (λ t. t.txn) c.holdings.txns) ≡ true) set (subst (λ (ts : List Txn). list_all (is_known_txn (made_again (words_of c) c.accepted).set) ts ≡ true) made.txns all.1.txns);
        apart = subst HaveOwnOrigins made.txns all.1.apart;
      }

-- a core with the same settings and transactions knows as much
pub knows_too : (c d : CoreState) → set_part c ≡ set_part d → c.holdings.txns ≡ d.holdings.txns → KnowsItsNames c → KnowsItsNames d
knows_too c d set txns knows =
    record {
      set = subst AreSetWell set knows.set;
      txns = subst (λ (e : CoreState). list_all (is_known_txn e) (map (λ t. t.txn) d.holdings.txns) ≡ true) set
          (subst (λ (ts : List TxnNow). list_all (is_known_txn c) (map (λ t. t.txn) ts) ≡ true) txns knows.txns);
      apart = subst (λ (ts : List TxnNow). HaveOwnOrigins (map (λ t. t.txn) ts)) txns knows.apart;
    }
