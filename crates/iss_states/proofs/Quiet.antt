-- What an input that is no setting makes, and what is due: nothing is set, and nothing is done but its own event.
use Rattle.std.proofs.Common.{◌≡◌, ◌∙◌, ◌++◌, ◌+◌, ◌-◌, ◌∷◌, ℕ, ap, Bool, false, List, [], not, refl, sym, true}
use Rattle.std.specs.Prelude.{Option, Some, None}
use Rattle.iss_model.specs.declared.account.Account.{Account}
use Rattle.iss_model.specs.declared.account.Account.TheVariants as account
use Rattle.iss_model.specs.declared.account.Part.{Part}
use Rattle.iss_model.specs.declared.account.Part.TheVariants as part
use Rattle.iss_model.specs.declared.decision.Reason.{Reason}
use Rattle.iss_model.specs.declared.decision.Verdict.TheVariants as verdict
use Rattle.iss_model.specs.declared.entry.Entry.{Entry}
use Rattle.iss_model.specs.declared.entry.Entry.TheVariants as entry
use Rattle.iss_model.specs.declared.input.Input.{Input}
use Rattle.iss_model.specs.declared.input.Input.TheVariants as input
use Rattle.iss_model.specs.declared.txn.Txn.{Txn}
use Rattle.iss_model.specs.Inputs.{event_token}
use Rattle.iss_model.specs.rules.Activity.{CallNow}
use Rattle.iss_model.specs.rules.Acts.{Abandons, Act, Clears, Does, Funds, FundsPart, GivesBack, HoldsOwn, LetsGo, Loads, Refuses, Sets, StandsIn, TurnsDown, act_entries, entries_of_acts}
use Rattle.iss_model.specs.rules.Asks.{Ask, call_ask}
use Rattle.iss_model.specs.rules.Due.{DueThing, thing_entries}
use Rattle.iss_model.specs.rules.Facts.{Facts}
use Rattle.iss_model.specs.rules.Pieces.{Parts, abandoned_calls_entries, clearing_money_entries, declined_ask_entries, give_back_entries, hold_entries, in_all, post_entries, release_entries, taken_to_clear, taken_to_release, unhold_entries, user_account}
use Rattle.iss_model.specs.rules.Reasons.{card_reason, control_reason, group_reason, move_reason, product_reason, set_reason, switch_reason, user_reason}
use Rattle.iss_model.specs.rules.Stepping.{acts_unless, entries_of}
use Rattle.iss_acts.specs.Causes.{Cause, ComesOf, FallsDue, is_of_event}
use Rattle.iss_acts.specs.Sources.{IsMade}
use Rattle.iss_acts.specs.Stages.{Stage}
use Rattle.iss_acts.proofs.Passing.{EachPasses, both_pass, either_passes, gateway_passes, none_passes, one_passes, passing, two_pass, where_passes}
use Rattle.iss_acts.proofs.Walk.{Holds, due_holds, own_holds}
use Rattle.iss_states.specs.Settled.{sets_something}

-- an entry sets nothing, and decides nothing as done but its cause's event
abbrev pub is_quiet_entry : Cause → Entry → Bool
is_quiet_entry by (entry.Conf i) = not (sets_something i)
is_quiet_entry by (entry.Decided event verdict.Done) = is_of_event by event
is_quiet_entry by _ = true

abbrev pub Quiet : Cause → List Entry → Type 0
Quiet by es = EachPasses (is_quiet_entry by) es

-- a cause is a setting
abbrev pub is_setting_cause : Cause → Bool
is_setting_cause FallsDue = false
is_setting_cause (ComesOf i) = sets_something i

-- pieces ----

module _ (by : Cause) where
  post_quiet : (t : Txn) (from to : Account) (n : ℕ) → Quiet by (post_entries t from to n)
  post_quiet t from to n = where_passes n (passing refl)

  hold_quiet : (t : Txn) (p : Part) (n : ℕ) → Quiet by (hold_entries t p n)
  hold_quiet t p n = where_passes n (passing refl)

  unhold_quiet : (t : Txn) (p : Part) (n : ℕ) → Quiet by (unhold_entries t p n)
  unhold_quiet t p n = where_passes n (passing refl)

  release_quiet : (t : Txn) (parts : Parts) (n : ℕ) → Quiet by (release_entries t parts n)
  release_quiet t parts n =
      let taken = taken_to_release parts n in
      both_pass (both_pass (both_pass (both_pass (both_pass (unhold_quiet t part.P taken.p) (post_quiet t (user_account t) (account.Programme t.currency) taken.p)) (unhold_quiet t part.G taken.g))
      (post_quiet t (user_account t) (account.Gateway t.currency) taken.g)) (unhold_quiet t part.S taken.s)) (where_passes n (passing refl))

  clearing_quiet : (t : Txn) (taken : Parts) (n at : ℕ) → Quiet by (clearing_money_entries t taken n at)
  clearing_quiet t taken n at =
      let excess = n - in_all taken in
      both_pass (both_pass (both_pass (both_pass (both_pass (unhold_quiet t part.G taken.g) (unhold_quiet t part.P taken.p)) (unhold_quiet t part.S taken.s))
      (gateway_passes t (post_quiet t (account.Programme t.currency) (user_account t) excess))) (post_quiet t (user_account t) (account.Network t.currency) n)) (where_passes excess (passing refl))

  given_back_quiet : (t : Txn) (amount programme : ℕ) → Quiet by (give_back_entries t amount programme)
  given_back_quiet t amount programme =
      both_pass (post_quiet t (account.Network t.currency) (user_account t) amount)
      (gateway_passes t (both_pass (post_quiet t (user_account t) (account.Programme t.currency) programme) (post_quiet t (user_account t) (account.Gateway t.currency) (amount - programme))))

  declined_quiet : (ask : Ask) (why : Reason) → Quiet by (declined_ask_entries ask why)
  declined_quiet ask why = two_pass refl (both_pass (either_passes ask.is_first (passing refl) none_passes) (passing refl))

  held_quiet : (t : Txn) (from : Account) (p : Part) (n : ℕ) {es : List Entry} → Quiet by es → Quiet by (post_entries t from (user_account t) n ++ hold_entries t p n ++ es)
  held_quiet t from p n h = both_pass (both_pass (post_quiet t from (user_account t) n) (hold_quiet t p n)) h

  abandoned_quiet : (number : ℕ) (t : Txn) (why : Reason) (cs : List CallNow) → Quiet by (abandoned_calls_entries number t why cs)
  abandoned_quiet number t why [] = none_passes
  abandoned_quiet number t why (c ∷ cs) = two_pass refl (two_pass refl (two_pass refl (two_pass refl (abandoned_quiet (number + 1) t why cs))))

  -- what an act makes is quiet, if its cause is no setting
  act_quiet : {f : Facts} {at : ℕ} → is_setting_cause by ≡ false → (g : Stage) (a : Act) → IsMade f by at g a → Quiet by (act_entries a)
  act_quiet plain g (Sets i event) made = two_pass (ap not (ap is_setting_cause (sym made.from.0) ∙ plain)) (one_passes made.cause)
  act_quiet plain g (Loads event user currency amount) made = two_pass refl (one_passes made.cause)
  act_quiet plain g (Does event) made = one_passes made.cause
  act_quiet plain g (HoldsOwn ask) made = both_pass (hold_quiet ask.txn part.S ask.amount) (passing refl)
  act_quiet plain g (Funds o t) made = two_pass refl (held_quiet t (account.Gateway t.currency) part.G o.amount (passing refl))
  act_quiet plain g (FundsPart o t amount) made = two_pass refl (two_pass refl (held_quiet t (account.Gateway t.currency) part.G amount (passing refl)))
  act_quiet plain g (Refuses o t) made = two_pass refl (declined_quiet (call_ask o t) _)
  act_quiet plain g (StandsIn number ask at set) made = two_pass refl (held_quiet ask.txn (account.Programme ask.txn.currency) part.P ask.amount (passing refl))
  act_quiet plain g (TurnsDown ask why) made = declined_quiet ask why
  act_quiet plain g (Abandons number t why calls parts) made = abandoned_quiet number t why calls
  act_quiet plain g (LetsGo t parts amount) made = release_quiet t parts amount
  act_quiet plain g (Clears t parts amount at) made = clearing_quiet t (taken_to_clear parts amount) amount at
  act_quiet plain g (GivesBack t amount programme) made = given_back_quiet t amount programme
  act_quiet plain g _ made = passing refl

-- acts ----

quiet_acts : {f : Facts} {by : Cause} {at : ℕ} → is_setting_cause by ≡ false → Holds f by at (Quiet by)
quiet_acts plain = record { none = none_passes; then = both_pass; act = act_quiet _ plain }

pub due_quiet : (f : Facts) (thing : DueThing) (at : ℕ) → Quiet FallsDue (thing_entries thing at f)
due_quiet f thing at = due_holds f thing at (quiet_acts refl)

-- what an input makes: it is no setting, or it is declined, or it sets
pub data Settles (i : Input) (es : List Entry) : Type 0 where
  quietly : sets_something i ≡ false → Quiet (ComesOf i) es → Settles i es
  declines : (token : List ℕ) (why : Reason) → event_token i ≡ Some token → es ≡ entry.Decided token (verdict.Declined why) ∷ [] → Settles i es
  sets : (token : List ℕ) → event_token i ≡ Some token → es ≡ entry.Conf i ∷ entry.Decided token verdict.Done ∷ [] → Settles i es

unless_settles : (i : Input) (token : List ℕ) (why : Option Reason) → event_token i ≡ Some token → Settles i (entries_of_acts (acts_unless why token (Sets i token ∷ [])))
unless_settles i token None its = sets token its refl
unless_settles i token (Some why) its = declines token why its refl

pub own_settles : (f : Facts) (at : ℕ) (i : Input) → Settles i (entries_of i at f)
own_settles f at (input.User token user) = unless_settles _ token (user_reason f user) refl
own_settles f at (input.Card token card user product active) = unless_settles _ token (card_reason f card user product) refl
own_settles f at (input.Move token who) = unless_settles _ token (move_reason f who) refl
own_settles f at (input.Product token product currency funding timeout_ms hold_ms) = unless_settles _ token (product_reason f product) refl
own_settles f at (input.Group token group mccs) = unless_settles _ token (group_reason f group) refl
own_settles f at (input.Control token control currency window amount_limit usage_limit association scope offset active) =
    unless_settles _ token (control_reason f control currency window association scope offset) refl
own_settles f at (input.Set token set product currency connection timeout application max day_limit active) = unless_settles _ token (set_reason f set product currency) refl
own_settles f at (input.Switch token product on) = unless_settles _ token (switch_reason f product) refl
own_settles f at i = quietly refl (own_holds f i at (quiet_acts refl))
