-- Acts make entries that fit: an act is made of what stands, and what it makes is new.
use Rattle.std.proofs.Common.{◌≡◌, ℕ, ℤ, ◌+◌, ◌≤◌, Bool, true, false, cond, ◌&&◌, ◌||◌, nat_le, List, [], ◌∷◌, ◌++◌, map, refl, sym, ap, subst, ◌∙◌, arith, ◌⊎◌, inl, inr}
use Rattle.std.specs.Prelude.{Option, Some, None, is_some, is_none}
use Rattle.std.proofs.lemmas.Bool.{and_parts}
use Rattle.iss_model.specs.declared.currency.Currency.{Currency}
use Rattle.iss_model.specs.declared.decision.Reason.{Reason}
use Rattle.iss_model.specs.declared.decision.Reason.TheVariants as reason
use Rattle.iss_model.specs.declared.decision.Verdict.TheVariants as verdict
use Rattle.iss_model.specs.declared.setting.Moved.{Moved}
use Rattle.iss_model.specs.declared.setting.Moved.TheVariants as moved
use Rattle.iss_model.specs.declared.setting.Card.{Card}
use Rattle.iss_model.specs.declared.setting.CardState.{CardState}
use Rattle.iss_model.specs.declared.setting.User.{User}
use Rattle.iss_model.specs.declared.setting.UserState.{UserState}
use Rattle.iss_model.specs.declared.setting.Window.{Window}
use Rattle.iss_model.specs.declared.setting.Association.{Association}
use Rattle.iss_model.specs.declared.setting.Scope.{Scope}
use Rattle.iss_model.specs.declared.account.Account.TheVariants as account
use Rattle.iss_model.specs.declared.account.Part.TheVariants as part
use Rattle.iss_model.specs.declared.txn.Txn.{Txn}
use Rattle.iss_model.specs.declared.input.Input.{Input}
use Rattle.iss_model.specs.declared.input.Input.TheVariants as input
use Rattle.iss_model.specs.declared.entry.Entry.{Entry}
use Rattle.iss_model.specs.declared.entry.Entry.TheVariants as entry
use Rattle.iss_model.specs.rules.Settings.{card_named, user_named, product_named, is_named_in}
use Rattle.iss_model.specs.rules.Controls.{ControlNow, control_named}
use Rattle.iss_model.specs.rules.Activity.{TxnNow}
use Rattle.iss_model.specs.rules.Facts.{Facts, is_notice, next_call}
use Rattle.iss_model.specs.rules.Acts.{Abandons, Acknowledges, Act, Asks, Begins, Clears, Declines, Does, Ends, Fails, Funds, FundsPart, GivesBack, HoldsOwn, LetsGo, Loads, Refuses, Sets, StandsIn, Tells, TurnsDown, Uses, act_entries, entries_of_acts}
use Rattle.iss_model.specs.rules.Asks.{Ask, ask_usage, call_ask}
use Rattle.iss_model.specs.rules.Pieces.{taken_to_clear}
use Rattle.iss_model.specs.rules.Reasons.{card_reason, card_move_reason, user_move_reason, move_reason, put_control_reason, lacks_user, lacks_product, lacks_group}
use Rattle.iss_model.proofs.Names.{its_name}
use Rattle.iss_model.proofs.Lists.{all_weaker}
use Rattle.iss_acts.specs.Causes.{Cause}
use Rattle.iss_acts.specs.Sources.{AllMade, IsMade, IsRow, setting_reason}
use Rattle.iss_acts.specs.Stages.{Fresh, Over, Seeks, Stage, stage_after}
use Rattle.iss_acts.proofs.Begun.{is_begun}
use Rattle.iss_acts.proofs.Walk.{from_start, txn_of_ask, txn_of_call}
use Rattle.iss_agreement.proofs.Standing.{Bounds, bounds_of, AreFit, IsSettable, Fit}
use Rattle.iss_agreement.proofs.StayStanding.{true_le, both_true}
use Rattle.iss_agreement.proofs.FitPieces.{AreKnown, IsKnown, fit-nil, fit-cons, fit-one, fit-append, fit-held, fit-released, fit-abandoned, fit-declined, fit-funded, fit-part_funded, fit-stood, fit-cleared, fit-refunded, known_txn, known_call, named_later, new_notice}

-- settings ----

first_fails : (b : Bool) (why : Reason) (rest : Option Reason) → cond b (Some why) rest ≡ None → (b ≡ false) × (rest ≡ None)
first_fails true why rest h = cc
first_fails false why rest h = (refl, h)

is_there : {A : Type 0} (o : Option A) → is_none o ≡ false → is_some o ≡ true
is_there None h = cc
is_there (Some x) h = refl

new_card_named : (f : Facts) (card user product : List ℕ) → card_reason f card user product ≡ None → is_some (card_named card f.cards) ≡ false
new_card_named f card user product none =
    let first = first_fails (is_none (user_named user f.users)) reason.UserUnknown _ none in
    let second = first_fails (is_none (product_named product f.products)) reason.ProductUnknown _ first.1 in
    (first_fails (is_some (card_named card f.cards)) reason.Exists None second.1).0

moved_card : (o : Option Card) (to : CardState) → card_move_reason o to ≡ None → is_some o ≡ true
moved_card None to h = cc
moved_card (Some card) to h = refl

moved_user : (o : Option User) (to : UserState) → user_move_reason o to ≡ None → is_some o ≡ true
moved_user None to h = cc
moved_user (Some user) to h = refl

settable_move : (f : Facts) (token : List ℕ) (who : Moved) → move_reason f who ≡ None → IsSettable f (input.Move token who)
settable_move f token (moved.Card card to) none = moved_card (card_named card f.cards) to none
settable_move f token (moved.User user to) none = moved_user (user_named user f.users) to none

known_scope : (o : Option ControlNow) (f : Facts) (currency : Currency) (window : Window) (association : Association) (s : Scope) (offset : ℤ) → put_control_reason o f currency window association s offset ≡ None
    → (is_some o ≡ true) ⊎ (lacks_group f s ≡ false)
known_scope (Some c) f currency window association s offset none = inl refl
known_scope None f currency window association s offset none =
    let first = first_fails (lacks_user f association) reason.UserUnknown _ none in
    let second = first_fails (lacks_product f association) reason.ProductUnknown _ first.1 in
    inr (first_fails (lacks_group f s) reason.GroupUnknown _ second.1).0

settable : (f : Facts) (i : Input) → setting_reason f i ≡ None → IsSettable f i
settable f (input.User token user) none = (first_fails (is_some (user_named user f.users)) reason.Exists None none).0
settable f (input.Card token card user product active) none = new_card_named f card user product none
settable f (input.Move token who) none = settable_move f token who none
settable f (input.Product token product currency funding timeout_ms hold_ms) none = (first_fails (is_some (product_named product f.products)) reason.Exists _ none).0
settable f (input.Control token control currency window amount_limit usage_limit association scope offset active) none =
    known_scope (control_named control f.controls) f currency window association scope offset none
settable f (input.Switch token product on) none =
    is_there (product_named product f.products) (first_fails (is_none (product_named product f.products)) reason.ProductUnknown None none).0
settable f _ none = tt

-- authorisations ----

-- the bounds with a transaction that begins
abbrev with_begun : Facts → Txn → Bounds
with_begun f t = record (bounds_of f) { txns = t.token ∷ map (λ now. now.txn.token) f.txns }

begun_known : (f : Facts) (t : Txn) → AreKnown (bounds_of f) f → AreKnown (with_begun f t) f
begun_known f t all =
    let names : List (List ℕ) = map (λ (t : TxnNow). t.txn.token) f.txns in
    record {
      count = refl;
      calls = refl;
      notices = refl;
      numbers = all.numbers;
      txns = all_weaker (λ (t : TxnNow). nat_le t.txn.origin f.count && is_named_in names t.txn.token) (λ (now : TxnNow). nat_le now.txn.origin f.count && is_named_in (t.token ∷ names) now.txn.token)
          (λ now passes.
          let parts = and_parts (nat_le now.txn.origin f.count) (is_named_in names now.txn.token) passes in
          both_true (nat_le now.txn.origin f.count) (is_named_in (t.token ∷ names) now.txn.token) parts.0 (named_later now.txn.token t.token names parts.1)) f.txns all.txns;
    }

acknowledged : (b : Bounds) (f : Facts) (notice : ℕ) → AreKnown b f → is_notice f notice ≡ true → notice ≤ b.notices
acknowledged b f notice all known = omega (arith, all.notices, true_le notice f.notices_made (and_parts (nat_le 1 notice) (nat_le notice f.notices_made) known).1)

-- acts in a row ----

fit-all : (f : Facts) (es : List Entry) → AreFit (bounds_of f) es → Fit f es
unfolding AreFit
fit-all f [] fit = tt
fit-all f (entry.Conf i ∷ es) fit = absurd fit.0
fit-all f (entry.Began t ∷ es) fit = absurd fit.0
fit-all f (e ∷ es) fit = fit

-- a transaction whose ask is to be settled is known
abbrev IsSought : Bounds → Stage → Type 0
IsSought b (Seeks ask) = IsKnown b ask.txn
IsSought b _ = Unit {0}

-- entries fit from a stage on, whatever the bounds in which that is known
abbrev FitFrom : Facts → Stage → List Entry → Type 0
FitFrom f g es = (b : Bounds) → AreKnown b f → IsSought b g → AreFit b es

-- entries fit at a stage: a row that begins may begin with a setting, or begin a transaction
abbrev FitAt : Facts → Stage → List Entry → Type 0
FitAt f Fresh es = Fit f es
FitAt f g es = FitFrom f g es

module _ {f : Facts} (all : AreKnown (bounds_of f) f) where
  -- entries that fit, and then what fits from the stage that they leave on
  then_fit : (g h : Stage) (xs ys : List Entry) → ((b : Bounds) → AreKnown b f → IsSought b g → AreFit b xs × IsSought b h) → FitFrom f h ys → FitAt f g (xs ++ ys)
  then_fit Fresh h xs ys own later =
      let b : Bounds = bounds_of f in
      let first = own b all tt in
      fit-all f (xs ++ ys) (fit-append b xs ys first.0 (later b all first.1))
  then_fit _ h xs ys own later = λ b known sought. let first = own b known sought in fit-append b xs ys first.0 (later b known first.1)

  -- entries that fit, and then what fits after an act that leaves nothing sought
  over : (g : Stage) (xs ys : List Entry) → ((b : Bounds) → AreKnown b f → IsSought b g → AreFit b xs) → ((b : Bounds) → AreKnown b f → Unit {0} → AreFit b ys) → FitAt f g (xs ++ ys)
  over g xs ys own later = then_fit g Over xs ys (λ b known sought. (own b known sought, tt)) later

module _ {f : Facts} (all : AreKnown (bounds_of f) f) {by : Cause} {at : ℕ} where
  act_fits : (g : Stage) (a : Act) (ys : List Entry) → IsMade f by at g a → FitAt f (stage_after g a) ys → FitAt f g (act_entries a ++ ys)
  act_fits g (Declines event why) ys made later = over all g _ ys (λ b known sought. fit-one b _ tt) later
  act_fits g (Sets i event) ys made later =
      subst (λ (g : Stage). FitAt f g (act_entries (Sets i event) ++ ys)) (sym made.from.2)
      (settable f i made.from.1, fit-cons (bounds_of f) (entry.Decided event verdict.Done) ys tt (later (bounds_of f) all tt))
  act_fits g (Loads event user currency amount) ys made later = over all g _ ys (λ b known sought. fit-cons b _ _ tt (fit-one b _ tt)) later
  act_fits g (Begins ask) ys made later =
      subst (λ (g : Stage). FitAt f g (act_entries (Begins ask) ++ ys)) (sym made.from.0)
      (let t : Txn = ask.txn in
      let origin : t.origin ≤ f.count = omega (arith, ap (λ (ask : Ask). ask.txn.origin) (is_begun made.from.1).same) in
      let named : is_named_in (with_begun f t).txns t.token ≡ true = ap (λ (b : Bool). b || is_named_in (map (λ now. now.txn.token) f.txns) t.token) (its_name t.token) in
      (origin, fit-cons (with_begun f t) (entry.Usage (ask_usage ask)) ys origin (later (with_begun f t) (begun_known f t all) (record { origin = origin; named = named }))))
  act_fits g (Uses ask) ys made later =
      then_fit all g (Seeks ask) _ ys (λ b known sought. let its = known_txn b f ask.txn known (txn_of_ask made.from.1) in (fit-one b _ its.origin, its)) later
  act_fits g (HoldsOwn ask) ys made later = over all g _ ys (λ b known sought. fit-append b _ _ (fit-held b ask.txn part.S ask.amount) (fit-one b _ tt)) later
  act_fits g (Asks h product ask) ys made later =
      over all g _ ys (λ b known sought. fit-one b _ (ap next_call made.from.1 ∙ ap (λ (n : ℕ). n + 1) (sym known.calls))) later
  act_fits g (Funds o t) ys made later =
      over all g _ ys (λ b known sought. fit-cons b _ _ (known_call b f o t known made.from.1) (fit-funded b (call_ask o t) (account.Gateway t.currency) part.G)) later
  act_fits g (FundsPart o t amount) ys made later =
      over all g _ ys (λ b known sought. fit-cons b _ _ (known_call b f o t known made.from.1) (fit-part_funded b o t amount (known_txn b f t known (txn_of_call made.from.1)))) later
  act_fits g (Refuses o t) ys made later =
      over all g _ ys (λ b known sought. fit-cons b _ _ (known_call b f o t known made.from.1) (fit-declined b (call_ask o t) reason.GatewayDeclined (known_txn b f t known (txn_of_call made.from.1)))) later
  act_fits g (Fails number o t why) ys made later =
      then_fit all g (Seeks (call_ask o t)) _ ys
      (λ b known sought. (
        fit-cons b _ _ (known_call b f o t known made.from.1) (fit-one b _ (new_notice b f number known made.from.2)),
        known_txn b f t known (txn_of_call made.from.1),
      )) later
  act_fits g (StandsIn number ask when s) ys made later = over all g _ ys (λ b known sought. fit-stood b number ask when s (new_notice b f number known made.from.3)) later
  act_fits g (TurnsDown ask why) ys made later = over all g _ ys (λ b known sought. fit-declined b ask why (subst (IsSought b) made.from.0 sought)) later
  act_fits g (Abandons number t why calls parts) ys made later =
      over all g _ ys (λ b known sought. fit-abandoned b number f t why calls known (new_notice b f number known made.from.3) (known_txn b f t known made.from.1) made.from.2) later
  act_fits g (LetsGo t parts amount) ys made later = over all g _ ys (λ b known sought. fit-released b t parts amount (known_txn b f t known made.from.1)) later
  act_fits g (Ends t) ys made later = over all g _ ys (λ b known sought. fit-one b _ (known_txn b f t known made.from.1).named) later
  act_fits g (Clears t parts amount when) ys made later = over all g _ ys (λ b known sought. fit-cleared b t (taken_to_clear parts amount) amount when (known_txn b f t known made.from.1)) later
  act_fits g (GivesBack t amount programme) ys made later = over all g _ ys (λ b known sought. fit-refunded b t amount programme) later
  act_fits g (Tells number news t amount gateway) ys made later = over all g _ ys (λ b known sought. fit-one b _ (new_notice b f number known made.from.2)) later
  act_fits g (Does event) ys made later = over all g _ ys (λ b known sought. fit-one b _ tt) later
  act_fits g (Acknowledges notice) ys made later =
      over all g _ ys (λ b known sought. fit-one b _ (acknowledged b f notice known made.from)) later

acts_fit : {f : Facts} → AreKnown (bounds_of f) f → (by : Cause) (at : ℕ) (g : Stage) (acts : List Act) → AllMade f by at g acts → FitAt f g (entries_of_acts acts)
acts_fit all by at Fresh [] made = tt
acts_fit all by at _ [] made = λ b known sought. fit-nil b
acts_fit all by at g (a ∷ acts) made = act_fits all g a (entries_of_acts acts) made.0 (acts_fit all by at (stage_after g a) acts made.1)

-- a row of acts makes entries that fit
pub row_fits : {f : Facts} {by : Cause} {at : ℕ} → AreKnown (bounds_of f) f → (acts : List Act) → IsRow f by at acts → Fit f (entries_of_acts acts)
row_fits {f} {by} {at} all acts row =
    from_start (λ (g : Stage). FitAt f g (entries_of_acts acts) → Fit f (entries_of_acts acts)) (λ h. h) (λ t its h. fit-all f (entries_of_acts acts) (h (bounds_of f) all tt)) row.first row.starts
    (acts_fit all by at row.first acts row.made)
