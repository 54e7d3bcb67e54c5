-- What is due, and what an input in form makes, is in form on a state in form.
use Rattle.std.proofs.Common.{Bool, List, [], ap, ap₂, cond, false, filter, inl, inr, nat_eq, refl, subst, true, ℕ, ◌&&◌, ◌+◌, ◌-◌, ◌∙◌, ◌∷◌, ◌≡◌}
use Rattle.std.specs.List.{list_all}
use Rattle.std.specs.Str.{bytes_eq}
use Rattle.std.proofs.lemmas.Bool.{and_parts}
use Rattle.iss_model.specs.declared.call.Opened.{Opened}
use Rattle.iss_model.specs.declared.decision.Reason.{Reason}
use Rattle.iss_model.specs.declared.decision.Reason.TheVariants as reason
use Rattle.iss_model.specs.declared.entry.Entry.{Entry}
use Rattle.iss_model.specs.declared.input.Input.{Input}
use Rattle.iss_model.specs.declared.input.Input.TheVariants as input
use Rattle.iss_model.specs.declared.input.Outcome.TheVariants as outcome
use Rattle.iss_model.specs.declared.txn.Txn.{Txn}
use Rattle.iss_model.specs.Forms.{is_amount, is_in_form, is_number, is_stamp}
use Rattle.iss_model.specs.rules.Activity.{CallNow, TxnNow, is_asked}
use Rattle.iss_model.specs.rules.Acts.{Abandons, Act, Asks, Begins, Clears, Funds, FundsPart, GivesBack, HoldsOwn, LetsGo, Refuses, Sets, StandsIn, TurnsDown, Uses, act_entries}
use Rattle.iss_model.specs.rules.Asks.{Ask, call_ask}
use Rattle.iss_model.specs.rules.Due.{DueThing, thing_entries}
use Rattle.iss_model.specs.rules.Facts.{Facts}
use Rattle.iss_model.specs.rules.Pieces.{abandoned_call_entries, abandoned_calls_entries, declined_ask_entries, in_all, taken_to_clear, taken_to_release}
use Rattle.iss_model.specs.rules.Stepping.{entries_of}
use Rattle.iss_model.specs.state.Cores.{CoreState, core_facts}
use Rattle.iss_model.proofs.Lists.{find_passes}
use Rattle.iss_acts.specs.Causes.{Cause, ComesOf, FallsDue}
use Rattle.iss_acts.specs.Sources.{IsAskedCall, IsFundedPart, IsMade, IsOwnAsk, IsSettledAsk, IsTxnOf}
use Rattle.iss_acts.specs.Stages.{Stage}
use Rattle.iss_acts.proofs.Begun.{is_begun}
use Rattle.iss_acts.proofs.Passing.{EachPasses, both_pass, either_passes, gateway_passes, none_passes, one_passes, passing, two_pass, where_passes}
use Rattle.iss_acts.proofs.Walk.{Holds, due_holds, own_holds}
use Rattle.iss_state.specs.InForm.{IsInForm, is_begun_at_stamp, is_entry_in_form, is_opened_at_stamp}

-- each of these entries is in form
abbrev AreFormed : List Entry → Type 0
AreFormed es = EachPasses is_entry_in_form es

all_filtered : {A : Type 0} (p q : A → Bool) (xs : List A) → list_all p xs ≡ true → list_all p (filter q xs) ≡ true
all_filtered p q [] h = refl
all_filtered p q (x ∷ xs) h =
    let both = and_parts (p x) (list_all p xs) h in
    by (q x) both.0 (all_filtered p q xs both.1)
  where
    by : (b : Bool) → p x ≡ true → list_all p (filter q xs) ≡ true → list_all p (cond b (x ∷ filter q xs) (filter q xs)) ≡ true
    by true first later = ap₂ (λ (a b : Bool). a && b) first later
    by false first later = later

abandoned_formed : (n : ℕ) (t : Txn) (why : Reason) (cs : List CallNow) → list_all is_opened_at_stamp cs ≡ true → AreFormed (abandoned_calls_entries n t why cs)
abandoned_formed n t why [] opened = none_passes
abandoned_formed n t why (c ∷ cs) opened =
    let both = and_parts (is_opened_at_stamp c) (list_all is_opened_at_stamp cs) opened in
    let first : AreFormed (abandoned_call_entries n t why c.opened) = passing (ap (λ (b : Bool). b && true) both.0) in
    both_pass first (abandoned_formed (n + 1) t why cs both.1)

declined_formed : (ask : Ask) (why : Reason) → is_stamp ask.at ≡ true → AreFormed (declined_ask_entries ask why)
declined_formed ask why stamp = two_pass stamp (both_pass (either_passes ask.is_first (one_passes refl) none_passes) (one_passes refl))

-- when the transactions that are told of began, and the calls were opened, is a stamp
record AreTimed (f : Facts) : Type 0 where
  txns : list_all is_begun_at_stamp f.txns ≡ true
  calls : list_all is_opened_at_stamp f.calls ≡ true

module _ (f : Facts) (by : Cause) (at : ℕ) (timed : AreTimed f) (stamp : is_stamp at ≡ true) (form : (i : Input) → by ≡ ComesOf i → is_in_form i ≡ true) where
  txn_stamp : (t : Txn) → IsTxnOf f t → is_stamp t.at ≡ true
  txn_stamp t its =
      subst (λ (t : Txn). is_stamp t.at ≡ true) its.same
      (find_passes (λ (t : TxnNow). bytes_eq t.txn.token its.token) is_begun_at_stamp f.txns its.now timed.txns its.stands)

  call_stamp : (o : Opened) (t : Txn) → IsAskedCall f o t → is_stamp o.at ≡ true
  call_stamp o t asked =
      subst (λ (o : Opened). is_stamp o.at ≡ true) asked.opened
      (find_passes (λ (c : CallNow). nat_eq c.opened.call.0 asked.number) is_opened_at_stamp f.calls asked.its timed.calls asked.stands)

  own_stamp : (ask : Ask) → IsOwnAsk f by at ask → is_stamp ask.at ≡ true
  own_stamp ask (inl first) = ap (λ (ask : Ask). is_stamp ask.at) (is_begun first).same ∙ stamp
  own_stamp ask (inr more) = ap (λ (ask : Ask). is_stamp ask.at) more.made ∙ stamp

  settled_stamp : (ask : Ask) → IsSettledAsk f by at ask → is_stamp ask.at ≡ true
  settled_stamp ask (inl call) = ap (λ (ask : Ask). is_stamp ask.at) call.is ∙ call_stamp call.o call.t call.asked
  settled_stamp ask (inr own) = own_stamp ask own.0

  part_amount : (o : Opened) (amount : ℕ) → IsFundedPart by o amount → is_amount amount ≡ true
  part_amount o amount its = (and_parts (is_number its.call.0) (is_amount amount) (form (input.Answer its.call (outcome.Partial its.currency amount)) its.its_input)).1

  act_formed : (g : Stage) (a : Act) → IsMade f by at g a → AreFormed (act_entries a)
  act_formed g (Sets i event) made = two_pass (form i made.from.0) (one_passes refl)
  act_formed g (Begins ask) made =
      two_pass (ap (λ (ask : Ask). is_stamp ask.txn.at) (is_begun made.from.1).same ∙ stamp) (one_passes (own_stamp ask (inl made.from.1)))
  act_formed g (Uses ask) made = one_passes (own_stamp ask (inr made.from.1))
  act_formed g (HoldsOwn ask) made = both_pass (where_passes ask.amount (one_passes refl)) (one_passes refl)
  act_formed g (Asks h product ask) made = one_passes (own_stamp ask made.from.2)
  act_formed g (Funds o t) made = two_pass refl (both_pass (both_pass (where_passes o.amount (one_passes refl)) (where_passes o.amount (one_passes refl))) (one_passes refl))
  act_formed g (FundsPart o t amount) made =
      let paid : is_amount amount ≡ true = part_amount o amount made.from.2 in
      two_pass paid
      (two_pass (call_stamp o t made.from.1) (both_pass (both_pass (where_passes amount (one_passes refl)) (where_passes amount (one_passes refl))) (one_passes paid)))
  act_formed g (Refuses o t) made = two_pass refl (declined_formed (call_ask o t) reason.GatewayDeclined (call_stamp o t made.from.1))
  act_formed g (StandsIn number ask when set) made =
      two_pass (ap is_stamp made.from.2 ∙ stamp) (both_pass (both_pass (where_passes ask.amount (one_passes refl)) (where_passes ask.amount (one_passes refl))) (passing refl))
  act_formed g (TurnsDown ask why) made = declined_formed ask why (settled_stamp ask made.from.1)
  act_formed g (Abandons number t why calls parts) made =
      abandoned_formed number t why calls
      (ap (list_all is_opened_at_stamp) made.from.2
      ∙ all_filtered is_opened_at_stamp (λ (c : CallNow). is_asked c && bytes_eq c.opened.txn t.token) f.calls timed.calls)
  act_formed g (LetsGo t parts amount) made =
      let taken = taken_to_release parts amount in
      both_pass (both_pass (both_pass (both_pass (both_pass (where_passes taken.p (one_passes refl)) (where_passes taken.p (one_passes refl)))
      (where_passes taken.g (one_passes refl))) (where_passes taken.g (one_passes refl))) (where_passes taken.s (one_passes refl)))
      (where_passes amount (one_passes (txn_stamp t made.from.1)))
  act_formed g (Clears t parts amount when) made =
      let taken = taken_to_clear parts amount in
      let excess = amount - in_all taken in
      both_pass (both_pass (both_pass (both_pass (both_pass (where_passes taken.g (one_passes refl)) (where_passes taken.p (one_passes refl)))
      (where_passes taken.s (one_passes refl))) (gateway_passes t (where_passes excess (one_passes refl)))) (where_passes amount (one_passes refl)))
      (where_passes excess (one_passes (ap is_stamp made.from.3 ∙ stamp)))
  act_formed g (GivesBack t amount programme) made =
      both_pass (where_passes amount (one_passes refl))
      (gateway_passes t (both_pass (where_passes programme (one_passes refl)) (where_passes (amount - programme) (one_passes refl))))
  act_formed g _ made = passing refl

  all_formed : Holds f by at (EachPasses is_entry_in_form)
  all_formed = record { none = none_passes; then = both_pass; act = act_formed }

timed_state : (s : CoreState) → IsInForm s → AreTimed (core_facts s)
timed_state s h = record { txns = h.txns; calls = h.calls }

pub thing_formed : (s : CoreState) (thing : DueThing) (at : ℕ) → IsInForm s → is_stamp at ≡ true → list_all is_entry_in_form (thing_entries thing at (core_facts s)) ≡ true
thing_formed s thing at h stamp = (due_holds (core_facts s) thing at (all_formed (core_facts s) FallsDue at (timed_state s h) stamp (λ i e. cc))).all

pub own_formed : (s : CoreState) (i : Input) (at : ℕ) → IsInForm s → is_in_form i ≡ true → is_stamp at ≡ true → list_all is_entry_in_form (entries_of i at (core_facts s)) ≡ true
own_formed s i at h form stamp = (own_holds (core_facts s) i at (all_formed (core_facts s) (ComesOf i) at (timed_state s h) stamp its_form)).all
  where
    its_form : (j : Input) → ComesOf i ≡ ComesOf j → is_in_form j ≡ true
    its_form j e =
        let same : i ≡ j = cc in
        subst (λ (i : Input). is_in_form i ≡ true) same form
