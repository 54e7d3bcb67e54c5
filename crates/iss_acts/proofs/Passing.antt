-- Entries that pass a test, as acts make them.
use Rattle.std.proofs.Common.{Bool, List, [], ap, ap₂, cond, false, nat_eq, neg_ℤ, pos, refl, true, ℕ, ℤ, ◌&&◌, ◌+◌, ◌-◌, ◌++◌, ◌∙◌, ◌∷◌, ◌≡◌}
use Rattle.std.specs.List.{list_all}
use Rattle.std.proofs.lemmas.List.Folds.{list_all-append}
use Rattle.iss_model.specs.declared.account.Part.{Part}
use Rattle.iss_model.specs.declared.account.Part.TheVariants as part
use Rattle.iss_model.specs.declared.decision.Reason.{Reason}
use Rattle.iss_model.specs.declared.decision.Reason.TheVariants as reason
use Rattle.iss_model.specs.declared.decision.Verdict.TheVariants as verdict
use Rattle.iss_model.specs.declared.entry.Entry.{Entry}
use Rattle.iss_model.specs.declared.txn.Txn.{Txn}
use Rattle.iss_model.specs.rules.Asks.{Ask, ask_count, call_ask}
use Rattle.iss_model.specs.rules.Pieces.{call_for, abandoned_calls_entries, declined_ask_entries, hold_entries, in_all, only_gateway, only_where, taken_to_clear, taken_to_release}
use Rattle.iss_model.specs.declared.call.How.TheVariants as how
use Rattle.iss_model.specs.declared.call.Opened.{Opened}
use Rattle.iss_model.specs.rules.Activity.{CallNow}
use Rattle.iss_model.specs.rules.CardReasons.{is_account_funded}
use Rattle.iss_model.specs.rules.Acts.{Abandons, Acknowledges, Act, Asks, Begins, Clears, Declines, Does, Ends, Fails, Funds, FundsPart, GivesBack, HoldsOwn, LetsGo, Loads, Refuses, Sets, StandsIn, Tells, TurnsDown, Uses, act_entries}
use Rattle.iss_acts.specs.Items.{Acking, Beginning, Closing, Deciding, Ending, Freeing, FromGateway, FromNetwork, FromProgramme, Holding, Item, Loading, Opening, Paying, Setting, StandTelling, Standing, Telling, ToGateway, ToNetwork, ToProgramme, Using, Voiding, item_entry, has_item}

-- each of these entries passes a test
pub record EachPasses (p : Entry → Bool) (es : List Entry) : Type 0 where
  pub all : list_all p es ≡ true

pub none_passes : {p : Entry → Bool} → EachPasses p []
none_passes = record { all = refl }

pub one_passes : {p : Entry → Bool} {e : Entry} → p e ≡ true → EachPasses p (e ∷ [])
one_passes h = record { all = ap (λ (b : Bool). b && true) h }

pub two_pass : {p : Entry → Bool} {e : Entry} {es : List Entry} → p e ≡ true → EachPasses p es → EachPasses p (e ∷ es)
two_pass h k = record { all = ap₂ (λ (a b : Bool). a && b) h k.all }

pub both_pass : {p : Entry → Bool} {xs ys : List Entry} → EachPasses p xs → EachPasses p ys → EachPasses p (xs ++ ys)
both_pass {p} {xs} {ys} h k = record { all = list_all-append p xs ys ∙ ap₂ (λ (a b : Bool). a && b) h.all k.all }

pub either_passes : {p : Entry → Bool} (b : Bool) {xs ys : List Entry} → EachPasses p xs → EachPasses p ys → EachPasses p (cond b xs ys)
either_passes true h k = h
either_passes false h k = k

pub passing : {p : Entry → Bool} {es : List Entry} → list_all p es ≡ true → EachPasses p es
passing h = record { all = h }

pub where_passes : {p : Entry → Bool} (amount : ℕ) {es : List Entry} → EachPasses p es → EachPasses p (only_where amount es)
where_passes amount h = either_passes (nat_eq amount 0) none_passes h

pub gateway_passes : {p : Entry → Bool} (t : Txn) {es : List Entry} → EachPasses p es → EachPasses p (only_gateway t es)
gateway_passes t h = either_passes (is_account_funded t.funding) none_passes h

module _ {p : Entry → Bool} where
  some_passes : (amount : ℕ) (x : Item) → p (item_entry x) ≡ true → EachPasses p (only_where amount (item_entry x ∷ []))
  some_passes amount x h = either_passes (nat_eq amount 0) none_passes (one_passes h)

  declined_passes : (ask : Ask) (why : Reason) → p (item_entry (Using ask.txn (neg_ℤ (pos ask.amount)) (neg_ℤ (ask_count ask)) ask.at)) ≡ true → p (item_entry (Ending ask.txn)) ≡ true
      → p (item_entry (Deciding ask.event (verdict.Declined why))) ≡ true → EachPasses p (declined_ask_entries ask why)
  declined_passes ask why used ended decided = two_pass used (both_pass (either_passes ask.is_first (one_passes ended) none_passes) (one_passes decided))

  abandoned_passes : (number : ℕ) (t : Txn) (why : Reason) (calls : List CallNow) → ((o : Opened) → p (item_entry (Closing o.call how.Abandoned)) ≡ true)
      → ((n : ℕ) (o : Opened) → p (item_entry (Voiding n t o)) ≡ true) → ((amount count : ℤ) (at : ℕ) → p (item_entry (Using t amount count at)) ≡ true)
      → ((event : List ℕ) → p (item_entry (Deciding event (verdict.Declined why))) ≡ true) → EachPasses p (abandoned_calls_entries number t why calls)
  abandoned_passes number t why [] closed voided used decided = none_passes
  abandoned_passes number t why (c ∷ calls) closed voided used decided =
      let o : Opened = c.opened in
      two_pass (closed o) (two_pass (voided number o) (two_pass (used _ _ o.at) (two_pass (decided o.event) (abandoned_passes (number + 1) t why calls closed voided used decided))))

  -- what passes each item of an act passes all its entries
  pub act_passes : (a : Act) → ((x : Item) → has_item a x ≡ true → p (item_entry x) ≡ true) → EachPasses p (act_entries a)
  act_passes (Declines event why) each = one_passes (each (Deciding event (verdict.Declined why)) refl)
  act_passes (Sets i event) each = two_pass (each (Setting i) refl) (one_passes (each (Deciding event verdict.Done) refl))
  act_passes (Loads event user currency amount) each = two_pass (each (Loading user currency amount) refl) (one_passes (each (Deciding event verdict.Done) refl))
  act_passes (Begins ask) each = two_pass (each (Beginning ask.txn) refl) (one_passes (each (Using ask.txn (pos ask.amount) (ask_count ask) ask.at) refl))
  act_passes (Uses ask) each = one_passes (each (Using ask.txn (pos ask.amount) (ask_count ask) ask.at) refl)
  act_passes (HoldsOwn ask) each = both_pass (some_passes ask.amount (Holding ask.txn part.S ask.amount) (each (Holding ask.txn part.S ask.amount) refl)) (one_passes (each (Deciding ask.event verdict.Approved) refl))
  act_passes (Asks f product ask) each = one_passes (each (Opening (call_for f product ask)) refl)
  act_passes (Funds o t) each =
      two_pass (each (Closing o.call how.Funded) refl)
      (both_pass (both_pass (some_passes o.amount (Paying FromGateway t o.amount) (each (Paying FromGateway t o.amount) refl)) (some_passes o.amount (Holding t part.G o.amount) (each (Holding t part.G o.amount) refl))) (one_passes (each (Deciding o.event verdict.Approved) refl)))
  act_passes (FundsPart o t amount) each =
      two_pass (each (Closing o.call (how.Partial amount)) refl)
      (two_pass (each (Using t (neg_ℤ (pos (o.amount - amount))) (pos 0) o.at) refl)
      (both_pass (both_pass (some_passes amount (Paying FromGateway t amount) (each (Paying FromGateway t amount) refl)) (some_passes amount (Holding t part.G amount) (each (Holding t part.G amount) refl))) (one_passes (each (Deciding o.event (verdict.Partial t.currency amount)) refl))))
  act_passes (Refuses o t) each =
      two_pass (each (Closing o.call how.Refused) refl)
      (declined_passes (call_ask o t) reason.GatewayDeclined (each (Using t _ _ o.at) refl) (each (Ending t) refl) (each (Deciding o.event (verdict.Declined reason.GatewayDeclined)) refl))
  act_passes (Fails number o t why) each = two_pass (each (Closing o.call (how.Failed why)) refl) (one_passes (each (Voiding number t o) refl))
  act_passes (StandsIn number ask at s) each =
      two_pass (each (Standing s.name ask.txn.product ask.txn.user ask.amount at) refl)
      (both_pass (both_pass (some_passes ask.amount (Paying FromProgramme ask.txn ask.amount) (each (Paying FromProgramme ask.txn ask.amount) refl)) (some_passes ask.amount (Holding ask.txn part.P ask.amount) (each (Holding ask.txn part.P ask.amount) refl)))
      (two_pass (each (StandTelling number ask.txn ask.amount) refl) (one_passes (each (Deciding ask.event verdict.Approved) refl))))
  act_passes (TurnsDown ask why) each = declined_passes ask why (each (Using ask.txn _ _ ask.at) refl) (each (Ending ask.txn) refl) (each (Deciding ask.event (verdict.Declined why)) refl)
  act_passes (Abandons number t why calls parts) each =
      abandoned_passes number t why calls (λ o. each (Closing o.call how.Abandoned) refl) (λ n o. each (Voiding n t o) refl) (λ amount count at. each (Using t amount count at) refl)
      (λ event. each (Deciding event (verdict.Declined why)) refl)
  act_passes (LetsGo t parts amount) each =
      let taken = taken_to_release parts amount in
      both_pass (both_pass (both_pass (both_pass (both_pass (some_passes taken.p (Freeing t part.P taken.p) (each (Freeing t part.P taken.p) refl)) (some_passes taken.p (Paying ToProgramme t taken.p) (each (Paying ToProgramme t taken.p) refl)))
      (some_passes taken.g (Freeing t part.G taken.g) (each (Freeing t part.G taken.g) refl))) (some_passes taken.g (Paying ToGateway t taken.g) (each (Paying ToGateway t taken.g) refl)))
      (some_passes taken.s (Freeing t part.S taken.s) (each (Freeing t part.S taken.s) refl))) (some_passes amount (Using t (neg_ℤ (pos amount)) (pos 0) t.at) (each (Using t (neg_ℤ (pos amount)) (pos 0) t.at) refl))
  act_passes (Ends t) each = one_passes (each (Ending t) refl)
  act_passes (Clears t parts amount at) each =
      let taken = taken_to_clear parts amount in
      let excess = amount - in_all taken in
      both_pass (both_pass (both_pass (both_pass (both_pass (some_passes taken.g (Freeing t part.G taken.g) (each (Freeing t part.G taken.g) refl)) (some_passes taken.p (Freeing t part.P taken.p) (each (Freeing t part.P taken.p) refl)))
      (some_passes taken.s (Freeing t part.S taken.s) (each (Freeing t part.S taken.s) refl))) (either_passes (is_account_funded t.funding) none_passes (some_passes excess (Paying FromProgramme t excess) (each (Paying FromProgramme t excess) refl))))
      (some_passes amount (Paying ToNetwork t amount) (each (Paying ToNetwork t amount) refl))) (some_passes excess (Using t (pos excess) (pos 0) at) (each (Using t (pos excess) (pos 0) at) refl))
  act_passes (GivesBack t amount programme) each =
      both_pass (some_passes amount (Paying FromNetwork t amount) (each (Paying FromNetwork t amount) refl))
      (either_passes (is_account_funded t.funding) none_passes
      (both_pass (some_passes programme (Paying ToProgramme t programme) (each (Paying ToProgramme t programme) refl)) (some_passes (amount - programme) (Paying ToGateway t (amount - programme)) (each (Paying ToGateway t (amount - programme)) refl))))
  act_passes (Tells number news t amount gateway) each = one_passes (each (Telling number news t amount gateway) refl)
  act_passes (Does event) each = one_passes (each (Deciding event verdict.Done) refl)
  act_passes (Acknowledges notice) each = one_passes (each (Acking notice) refl)

  -- the pieces of acts pass if each item does
  pub hold_passes : (t : Txn) (x : Part) (amount : ℕ) → p (item_entry (Holding t x amount)) ≡ true → EachPasses p (hold_entries t x amount)
  hold_passes t x amount h = some_passes amount (Holding t x amount) h
