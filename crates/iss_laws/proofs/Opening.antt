-- A call that an authorisation or increment opens is payable.
use Rattle.iss_model.specs.rules.CardReasons.{txn_asked, first_ask}
use Rattle.iss_state.proofs.docket.Lists.{inside}
use Rattle.iss_model.specs.declared.txn.Txn.{Txn}
use Rattle.std.proofs.Common.{fold, subst, ◌≡◌, ℕ, Bool, true, false, nat_eq, nat_le, List, refl, sym, ap, ◌∙◌, arith}
use Rattle.std.specs.Prelude.{Option, Some, None, option_map}
use Rattle.std.proofs.lemmas.Bool.{and_parts}
use Rattle.std.proofs.lemmas.Bool.Decides.{nat_tests}
use Rattle.iss_model.specs.declared.call.Failure.{Failure}
use Rattle.iss_model.specs.declared.input.Input.{Input}
use Rattle.iss_model.specs.declared.input.Input.TheVariants as input
use Rattle.iss_model.specs.declared.input.Outcome.TheVariants as outcome
use Rattle.iss_model.specs.declared.limits.TheConstants.{GREATEST_AMOUNT, LEAST_AMOUNT}
use Rattle.iss_model.specs.Forms.{is_amount, is_in_form, is_mcc}
use Rattle.iss_model.specs.rules.Activity.{TxnNow, txn_named}
use Rattle.iss_model.specs.rules.Asks.{Ask}
use Rattle.iss_model.specs.rules.Facts.{Facts}
use Rattle.iss_model.specs.rules.Stepping.{entries_of}
use Rattle.iss_model.specs.state.Cores.{CoreState, after_entry, core_facts, is_live}
use Rattle.iss_model.specs.rules.Acts.{Act, Asks, Begins, Fails, Uses, act_entries}
use Rattle.iss_acts.specs.Causes.{Cause, ComesOf, fails_call, seeks_funding}
use Rattle.iss_acts.specs.Sources.{IsFirstAsk, IsFurtherAsk, IsMade}
use Rattle.iss_acts.specs.Stages.{Fresh, Seeks, Stage, stage_after}
use Rattle.iss_acts.proofs.Walk.{Goes, from_start, own_goes}
use Rattle.iss_state.specs.Pending.{HasTakenUp}
use Rattle.iss_state.proofs.calls.Due.{its_token}
use Rattle.iss_state.proofs.held.Begun.{begun_stands, first_unnamed}
use Rattle.iss_laws.proofs.Payable.{AllPayable, none_needed, payable_append}
use Rattle.iss_laws.proofs.CallActs.{act_opens_none}

-- an amount isn't 0
pub amount_there : (n : ℕ) → is_amount n ≡ true → nat_eq n 0 ≡ false
amount_there n h = least n LEAST_AMOUNT refl (and_parts (nat_le LEAST_AMOUNT n) (nat_le n GREATEST_AMOUNT) h).0
  where
    least : (n low : ℕ) → low ≡ 1 → nat_le low n ≡ true → nat_eq n 0 ≡ false
    least n low e h = grind (arith, nat_tests)

-- an ask's transaction stands, and it asks for an amount
record MayAsk (txns : List TxnNow) (ask : Ask) : Type 0 where
  live : Bool
  stands : txn_named ask.txn.token txns ≡ Some (record { txn = ask.txn; live = live })
  asks : nat_eq ask.amount 0 ≡ false

-- an ask is for the amount of its event
amount_of_ask : (token : List ℕ) (amount : ℕ) (partial : Bool) (at : ℕ) (o : Option Txn) (x : Ask) → option_map (first_ask token amount partial at) o ≡ Some x → x.amount ≡ amount
amount_of_ask token amount partial at None x e = cc
amount_of_ask token amount partial at (Some t) x e = ap (λ (x : Ask). x.amount) (sym (inside e))

-- a cause that seeks funding fails no call
seeks_or_fails : {P : Type 0} (by : Cause) (why : Failure) → fails_call by why ≡ true → seeks_funding by ≡ true → P
seeks_or_fails (ComesOf (input.Answer call outcome.Connection)) why fails seeks = cc
seeks_or_fails _ why fails seeks = cc

-- if a cause is an input, it is in form and its record is taken up
record IsInForm (by : Cause) (s : CoreState) : Type 0 where
  form : (i : Input) → by ≡ ComesOf i → is_in_form i ≡ true
  taken : (i : Input) → by ≡ ComesOf i → HasTakenUp s i

-- what is known at each stage: an ask of the cause's own may be put to the gateway
abbrev IsKnown : Cause → CoreState → Stage → CoreState → Type 0
IsKnown by s Fresh q = q ≡ s
IsKnown by s (Seeks ask) q = seeks_funding by ≡ true → MayAsk q.holdings.txns ask
IsKnown by s _ q = Unit {0}

module _ (by : Cause) (at : ℕ) (s : CoreState) (ready : IsInForm by s) where
  begun_asks : (ask : Ask) → IsFirstAsk (core_facts s) by at ask → MayAsk (fold after_entry s (act_entries (Begins ask))).holdings.txns ask
  begun_asks ask first =
      let f : Facts = core_facts s in
      let i : Input = input.Authorization first.token first.card first.currency first.amount first.mcc first.mid first.partial in
      record {
        live = is_live s.holdings.txns ask.txn.token;
        stands = begun_stands s.holdings.txns ask.txn (first_unnamed s ask ready.taken first);
        asks = ap (λ (n : ℕ). nat_eq n 0) (amount_of_ask first.token first.amount first.partial at (txn_asked f first.token first.card first.currency first.mcc first.mid at) ask first.made)
            ∙ amount_there first.amount (and_parts (is_amount first.amount) (is_mcc first.mcc) (ready.form i first.its_input)).0;
      }

  raised_asks : (ask : Ask) → IsFurtherAsk (core_facts s) by at ask → MayAsk s.holdings.txns ask
  raised_asks ask more =
      subst (MayAsk s.holdings.txns) (sym more.made)
      (record {
        live = more.now.live;
        stands = ap (λ (k : List ℕ). txn_named k s.holdings.txns) (its_token s.holdings.txns more.txn more.now more.stands) ∙ more.stands;
        asks = amount_there more.amount (ready.form (input.Increment more.token more.txn more.currency more.amount) more.its_input);
      })

  known_next : (g : Stage) (q : CoreState) (a : Act) → IsMade (core_facts s) by at g a → IsKnown by s g q → IsKnown by s (stage_after g a) (fold after_entry q (act_entries a))
  known_next g q (Begins ask) made k =
      let here : q ≡ s = subst (λ (g : Stage). IsKnown by s g q) made.from.0 k in
      λ seeks. subst (λ (q : CoreState). MayAsk (fold after_entry q (act_entries (Begins ask))).holdings.txns ask) (sym here) (begun_asks ask made.from.1)
  known_next g q (Uses ask) made k =
      let here : q ≡ s = subst (λ (g : Stage). IsKnown by s g q) made.from.0 k in
      λ seeks. subst (λ (q : CoreState). MayAsk q.holdings.txns ask) (sym here) (raised_asks ask made.from.1)
  known_next g q (Fails number o t why) made k = λ seeks. seeks_or_fails by why made.cause seeks
  known_next g q _ made k = tt

  act_payable : (g : Stage) (q : CoreState) (a : Act) → IsMade (core_facts s) by at g a → IsKnown by s g q → AllPayable q (act_entries a)
  act_payable g q (Asks f product ask) made k =
      let may : MayAsk q.holdings.txns ask = subst (λ (g : Stage). IsKnown by s g q) made.from.0 k made.cause in
      (record { its = record { txn = ask.txn; live = may.live }; stands = may.stands; of_user = refl; of_currency = refl; asks = may.asks }, tt)
  act_payable g q a made k = none_needed q (act_entries a) (act_opens_none a refl)

  all_payable : Goes (fold after_entry) (core_facts s) by at (IsKnown by s) (λ g q es. AllPayable q es)
  all_payable = record { none = λ g q k. tt; next = known_next; then = λ g q a es made k rest. payable_append q (act_entries a) es (act_payable g q a made k) rest }

pub own_payable : (s : CoreState) (i : Input) (at : ℕ) → is_in_form i ≡ true → HasTakenUp s i → AllPayable s (entries_of i at (core_facts s))
own_payable s i at form ready =
    (own_goes (core_facts s) i at s
    (all_payable (ComesOf i) at s (record { form = λ j e. subst (λ (i : Input). is_in_form i ≡ true) (its_own i j e) form; taken = λ j e. subst (HasTakenUp s) (its_own i j e) ready }))
    (from_start (λ g. IsKnown (ComesOf i) s g s) refl (λ t its. tt))).holds
  where
    its_own : (i j : Input) → ComesOf i ≡ ComesOf j → i ≡ j
    its_own i j e = cc
