-- A closing that funds a call or a part of it is followed by its post, and no other post comes from the gateway.
use Rattle.std.proofs.Common.{◌≡◌, ℕ, ◌+◌, Bool, true, false, not, cond, ◌&&◌, nat_eq, List, [], ◌∷◌, ◌++◌, fold, refl, sym, ap, subst, ◌∙◌}
use Rattle.std.specs.Prelude.{Option, Some, None, nat_lt}
use Rattle.std.specs.List.{list_all}
use Rattle.std.proofs.lemmas.Bool.{and_parts}
use Rattle.std.proofs.lemmas.List.Sums.{fold-append}
use Rattle.iss_model.specs.declared.account.Account.TheVariants as account
use Rattle.iss_model.specs.declared.account.Part.TheVariants as part
use Rattle.iss_model.specs.declared.call.How.TheVariants as how
use Rattle.iss_model.specs.declared.call.Opened.{Opened}
use Rattle.iss_model.specs.declared.currency.Currency.{Currency}
use Rattle.iss_model.specs.declared.decision.Verdict.{Verdict}
use Rattle.iss_model.specs.declared.decision.Verdict.TheVariants as verdict
use Rattle.iss_model.specs.declared.entry.Entry.{Entry}
use Rattle.iss_model.specs.declared.entry.Entry.TheVariants as entry
use Rattle.iss_model.specs.declared.input.Input.{Input}
use Rattle.iss_model.specs.declared.input.Input.TheVariants as input
use Rattle.iss_model.specs.declared.input.Outcome.TheVariants as outcome
use Rattle.iss_model.specs.declared.txn.Txn.{Txn}
use Rattle.iss_model.specs.Currencies.{iso_number, same_currency}
use Rattle.iss_model.specs.Forms.{is_amount, is_in_form, is_number}
use Rattle.iss_model.specs.Sums.{account_key}
use Rattle.iss_model.specs.rules.Activity.{CallNow, TxnNow, call_numbered}
use Rattle.iss_model.specs.rules.CardActs.{counts_as_part}
use Rattle.iss_model.specs.rules.Due.{DueThing, thing_entries}
use Rattle.iss_model.specs.rules.Facts.{Facts, call_in}
use Rattle.iss_model.specs.declared.decision.Reason.{Reason}
use Rattle.iss_model.specs.rules.Pieces.{abandoned_calls_entries, hold_entries, post_entries, user_account}
use Rattle.iss_model.specs.rules.Stepping.{entries_of}
use Rattle.iss_model.specs.state.Cores.{CoreState, core_facts}
use Rattle.iss_model.proofs.Names.{same_name}
use Rattle.iss_model.specs.rules.Acts.{Abandons, Act, Asks, Fails, Funds, FundsPart, act_entries}
use Rattle.iss_acts.specs.Causes.{Cause, ComesOf, FallsDue}
use Rattle.iss_acts.specs.Sources.{IsAskedCall, IsFrom, IsFundedPart}
use Rattle.iss_acts.specs.Stages.{Stage}
use Rattle.iss_acts.proofs.Passing.{hold_passes}
use Rattle.iss_acts.proofs.Walk.{Holds, due_holds, of_asked, own_holds}
use Rattle.iss_state.proofs.effects.Finds.{same_number}
use Rattle.iss_state.proofs.docket.Closing.{its_number}
use Rattle.iss_state.proofs.docket.Lists.{both_so, inside}
use Rattle.iss_state.proofs.calls.Due.{its_token}
use Rattle.iss_laws.specs.Pairs.{Pairing, is_paid_amount, paired, pairing_after, pays, pays_call, unpaired, waits}
use Rattle.iss_laws.specs.Payable.{ArePayable, CallsStand, IsPayable, StandsAs}
use Rattle.iss_laws.proofs.CallActs.{calm_act, is_calm}
use Rattle.iss_laws.proofs.Opening.{amount_there}

module _ (f : Facts) (m : ℕ) where
  -- closings and posts come in pairs
  pub record Pairs (es : List Entry) : Type 0 where
    pub all : fold (pairing_after f m) paired es ≡ paired

  pub both_pair : {xs ys : List Entry} → Pairs xs → Pairs ys → Pairs (xs ++ ys)
  both_pair {xs} {ys} h k = record { all = fold-append (pairing_after f m) paired xs ys ∙ ap (λ (p : Pairing). fold (pairing_after f m) p ys) h.all ∙ k.all }

  -- calm entries fund no call and post nothing from the gateway ----

  from_another : (b : Bool) → not b ≡ true → cond b unpaired paired ≡ paired
  from_another true h = cc
  from_another false h = refl

  calm_pairs : (e : Entry) → is_calm e ≡ true → pairing_after f m paired e ≡ paired
  calm_pairs (entry.Closed call how.Funded) h = cc
  calm_pairs (entry.Closed call (how.Partial amount)) h = cc
  calm_pairs (entry.Closed call how.Refused) h = refl
  calm_pairs (entry.Closed call (how.Failed why)) h = refl
  calm_pairs (entry.Closed call how.Abandoned) h = refl
  calm_pairs (entry.Post from to amount txn) h = from_another _ h
  calm_pairs _ h = refl

  all_calm : (es : List Entry) → list_all is_calm es ≡ true → fold (pairing_after f m) paired es ≡ paired
  all_calm [] h = refl
  all_calm (e ∷ es) h =
      let parts = and_parts (is_calm e) (list_all is_calm es) h in
      ap (λ (p : Pairing). fold (pairing_after f m) p es) (calm_pairs e parts.0) ∙ all_calm es parts.1

  -- a call that is funded, for all of its amount or a part ----

  -- the post from the gateway pays the call
  post_pays : (o : Opened) (t : Txn) (share : Option ℕ) (n : ℕ) → is_paid_amount o share n ≡ true → t.token ≡ o.txn → t.user ≡ o.user → t.currency ≡ o.currency
      → pays o share (account.Gateway t.currency) (user_account t) n (Some t.token) ≡ true
  post_pays o t share n right token user currency =
      both_so _ _ (both_so _ _ (both_so _ _
      (same_name (account_key (account.Gateway t.currency)) (account_key (account.Gateway o.currency)) (ap (λ (c : Currency). account_key (account.Gateway c)) currency))
      (same_name (account_key (user_account t)) (account_key (account.User o.user o.currency))
      (ap (λ (u : List ℕ). account_key (account.User u t.currency)) user ∙ ap (λ (c : Currency). account_key (account.User o.user c)) currency)))
      right) (same_name t.token o.txn token)

  -- a call stands by the facts of a later time, with a transaction of its own user and currency
  record StandsLater (o : Opened) (t : Txn) : Type 0 where
    c : CallNow
    stands : call_in f o.call.0 ≡ Some c
    opened : c.opened ≡ o
    token : t.token ≡ o.txn
    user : t.user ≡ o.user
    currency : t.currency ≡ o.currency
    asks : nat_eq o.amount 0 ≡ false

  paid : (o : Opened) (t : Txn) (share : Option ℕ) (n : ℕ) → is_paid_amount o share n ≡ true → StandsLater o t
      → pairing_after f m (waits o.call.0 share m) (entry.Post (account.Gateway t.currency) (user_account t) n (Some t.token)) ≡ paired
  paid o t share n right its =
      ap (λ (b : Bool). cond b paired unpaired)
      (both_so (nat_eq m m) _ (same_number m)
      (ap (λ (x : Option CallNow). pays_call x share (account.Gateway t.currency) (user_account t) n (Some t.token)) its.stands
      ∙ ap (λ (x : Opened). pays x share (account.Gateway t.currency) (user_account t) n (Some t.token)) its.opened
      ∙ post_pays o t share n right its.token its.user its.currency))

  -- a closing waits, and then its post, what is held and the decision follow
  settled_pairs : (o : Opened) (t : Txn) (share : Option ℕ) (n : ℕ) (v : Verdict) → is_paid_amount o share n ≡ true → nat_eq n 0 ≡ false → StandsLater o t
      → fold (pairing_after f m) (waits o.call.0 share m) (post_entries t (account.Gateway t.currency) (user_account t) n ++ hold_entries t part.G n ++ entry.Decided o.event v ∷ []) ≡ paired
  settled_pairs o t share n v right there its =
      fold-append (pairing_after f m) (waits o.call.0 share m) (post_entries t (account.Gateway t.currency) (user_account t) n ++ hold_entries t part.G n) (entry.Decided o.event v ∷ [])
      ∙ ap (λ (p : Pairing). fold (pairing_after f m) p (entry.Decided o.event v ∷ []))
      (fold-append (pairing_after f m) (waits o.call.0 share m) (post_entries t (account.Gateway t.currency) (user_account t) n) (hold_entries t part.G n)
      ∙ ap (λ (p : Pairing). fold (pairing_after f m) p (hold_entries t part.G n)) (by (nat_eq n 0) there ∙ paid o t share n right its)
      ∙ all_calm (hold_entries t part.G n) (hold_passes {p = is_calm} t part.G n refl).all)
    where
      by : (b : Bool) → b ≡ false
          → fold (pairing_after f m) (waits o.call.0 share m) (cond b [] (entry.Post (account.Gateway t.currency) (user_account t) n (Some t.token) ∷ []))
          ≡ pairing_after f m (waits o.call.0 share m) (entry.Post (account.Gateway t.currency) (user_account t) n (Some t.token))
      by true h = cc
      by false h = refl

  -- a part that counts in some currency counts in its call's
  counts_in_its_own : (o : Opened) (currency : Currency) (n : ℕ) → counts_as_part o currency n ≡ true → counts_as_part o o.currency n ≡ true
  counts_in_its_own o currency n h =
      let parts = and_parts (o.partial && same_currency currency o.currency) (nat_lt n o.amount) h in
      both_so _ _ (both_so _ _ (and_parts o.partial (same_currency currency o.currency) parts.0).0 (same_number (iso_number o.currency))) parts.1

  part_pairs : (o : Opened) (t : Txn) (n : ℕ) (currency : Currency) → counts_as_part o currency n ≡ true → nat_eq n 0 ≡ false → StandsLater o t → fold (pairing_after f m) paired (act_entries (FundsPart o t n)) ≡ paired
  part_pairs o t n currency counts there its = settled_pairs o t (Some n) n (verdict.Partial t.currency n) (both_so _ _ (same_number n) (counts_in_its_own o currency n counts)) there its

  -- each act ----

  stands_later : (s : CoreState) → CallsStand s.calls f.calls → ArePayable s → (o : Opened) (t : Txn) → IsAskedCall (core_facts s) o t → StandsLater o t
  stands_later s agrees payable o t asked =
      let c : CallNow = asked.its in
      let its : IsPayable s.holdings.txns c.opened = payable asked.number c asked.stands in
      let later : StandsAs f.calls asked.number c.opened = agrees asked.number c asked.stands in
      let same : its.its ≡ asked.now = inside (sym its.stands ∙ asked.txn_stands) in
      of_asked (λ o t. StandsLater o t) asked
      (record {
        c = later.its;
        stands = ap (λ (k : ℕ). call_numbered k f.calls) (its_number s.calls asked.number c asked.stands) ∙ later.stands;
        opened = later.opened;
        token = its_token s.holdings.txns c.opened.txn asked.now asked.txn_stands;
        user = ap (λ (x : TxnNow). x.txn.user) (sym same) ∙ its.of_user;
        currency = ap (λ (x : TxnNow). x.txn.currency) (sym same) ∙ its.of_currency;
        asks = its.asks;
      })

  abandoned_pairs : (number : ℕ) (t : Txn) (why : Reason) (calls : List CallNow) → fold (pairing_after f m) paired (abandoned_calls_entries number t why calls) ≡ paired
  abandoned_pairs number t why [] = refl
  abandoned_pairs number t why (c ∷ calls) = abandoned_pairs (number + 1) t why calls

  -- a part that an input in form funds isn't 0
  part_there : (by : Cause) (o : Opened) (n : ℕ) → ((i : Input) → by ≡ ComesOf i → is_in_form i ≡ true) → IsFundedPart by o n → nat_eq n 0 ≡ false
  part_there by o n form is = amount_there n (and_parts (is_number is.call.0) (is_amount n) (form (input.Answer is.call (outcome.Partial is.currency n)) is.its_input)).1

  act_pairs : (s : CoreState) (by : Cause) (at : ℕ) → ((i : Input) → by ≡ ComesOf i → is_in_form i ≡ true) → CallsStand s.calls f.calls → ArePayable s → (g : Stage) (a : Act) → IsFrom (core_facts s) by at g a → fold (pairing_after f m) paired (act_entries a) ≡ paired
  act_pairs s by at form agrees payable g (Funds o t) from =
      let its = stands_later s agrees payable o t from.1 in settled_pairs o t None o.amount verdict.Approved (same_number o.amount) its.asks its
  act_pairs s by at form agrees payable g (FundsPart o t amount) from =
      part_pairs o t amount from.2.currency from.2.counts (part_there by o amount form from.2) (stands_later s agrees payable o t from.1)
  act_pairs s by at form agrees payable g (Asks h product ask) from = refl
  act_pairs s by at form agrees payable g (Fails number o t why) from = refl
  act_pairs s by at form agrees payable g (Abandons number t why calls parts) from = abandoned_pairs number t why calls
  act_pairs s by at form agrees payable g a from = all_calm (act_entries a) (calm_act a refl).all

  holds_pairs : (s : CoreState) (by : Cause) (at : ℕ) → ((i : Input) → by ≡ ComesOf i → is_in_form i ≡ true) → CallsStand s.calls f.calls → ArePayable s → Holds (core_facts s) by at Pairs
  holds_pairs s by at form agrees payable = record { none = record { all = refl }; then = both_pair; act = λ g a made. record { all = act_pairs s by at form agrees payable g a made.from } }

  pub thing_pairs : (s : CoreState) (thing : DueThing) (at : ℕ) → CallsStand s.calls f.calls → ArePayable s → fold (pairing_after f m) paired (thing_entries thing at (core_facts s)) ≡ paired
  thing_pairs s thing at agrees payable = (due_holds (core_facts s) thing at (holds_pairs s FallsDue at (λ i e. cc) agrees payable)).all

  pub own_pairs : (s : CoreState) (i : Input) (at : ℕ) → is_in_form i ≡ true → CallsStand s.calls f.calls → ArePayable s → fold (pairing_after f m) paired (entries_of i at (core_facts s)) ≡ paired
  own_pairs s i at form agrees payable =
      (own_holds (core_facts s) i at (holds_pairs s (ComesOf i) at (λ j e. subst (λ (i : Input). is_in_form i ≡ true) (its_own i j e) form) agrees payable)).all
    where
      its_own : (i j : Input) → ComesOf i ≡ ComesOf j → i ≡ j
      its_own i j e = cc
