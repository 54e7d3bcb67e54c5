-- What transactions hold in every state: no part is below 0, and who has ended or isn't decided yet holds nothing.
use Rattle.std.specs.Prelude.{◌≡◌, ℕ, suc, ℤ, pos, negsuc, ◌≤ℤ◌, ◌+◌, ◌≤◌, Bool, true, false, not, List, [], ◌∷◌, Some, if◌then◌else◌}
use Rattle.iss_model.specs.declared.account.Part.{Part}
use Rattle.iss_model.specs.declared.account.Part.TheVariants as part
use Rattle.iss_model.specs.declared.entry.Entry.{Entry}
use Rattle.iss_model.specs.declared.input.Record.{Record}
use Rattle.iss_agreement.specs.Stepped.{core_after, core_entries}
use Rattle.iss_model.specs.declared.entry.Entry.TheVariants as entry
use Rattle.iss_model.specs.declared.setting.Funding.{Funding}
use Rattle.iss_model.specs.Sums.{part_key}
use Rattle.iss_model.specs.rules.Activity.{TxnNow, CallNow, ends_txn, txn_named}
use Rattle.iss_model.specs.rules.Asks.{is_authorization}
use Rattle.iss_model.specs.rules.CardReasons.{is_account_funded}
use Rattle.iss_model.specs.rules.Reasons.{is_some_with}
use Rattle.iss_model.specs.state.Cores.{CoreState, after_entry}
use Rattle.iss_model.specs.state.Kept.{Kept, kept_at}
use Rattle.iss_state.specs.Dockets.{Docket, docket_of}
use Rattle.iss_state.specs.Well.{IsAsked, NonePendingOf, has_live}

-- the sum of a part of what a transaction holds
abbrev pub part_sum : Kept → List ℕ → Part → ℤ
part_sum parts token p = kept_at parts (part_key token p)

-- a transaction holds nothing in any part
abbrev pub HoldsNothing : Kept → List ℕ → Type 0
HoldsNothing parts token = (p : Part) → part_sum parts token p ≡ pos 0

-- a part is what a purchase of this funding is paid by: the user's own balance, or the gateway and the programme
abbrev pub is_part_of : Part → Funding → Bool
is_part_of part.G funding = not (is_account_funded funding)
is_part_of part.P funding = not (is_account_funded funding)
is_part_of part.S funding = is_account_funded funding

-- a transaction stands that may have such a part, by its funding
abbrev pub may_have : List TxnNow → List ℕ → Part → Bool
may_have txns token p = is_some_with (λ t. is_part_of p t.txn.funding) (txn_named token txns)

-- What holds of all parts: none is below 0. A transaction that isn't live holds nothing, and neither does one whose authorisation's call is asked.
-- None has a part that its funding doesn't give, and calls are asked for transactions that the gateway pays.
pub record AreHeld (parts : Kept) (txns : List TxnNow) (calls : List CallNow) : Type 0 where
  pub not_negative : (token : List ℕ) (p : Part) → pos 0 ≤ℤ part_sum parts token p
  pub ended : (token : List ℕ) → has_live txns token ≡ false → HoldsNothing parts token
  pub pending : (n : ℕ) (c : CallNow) → IsAsked calls n c → is_authorization c.opened.method ≡ true → HoldsNothing parts c.opened.txn
  pub funded : (token : List ℕ) (p : Part) → may_have txns token p ≡ false → part_sum parts token p ≡ pos 0
  pub asked : (n : ℕ) (c : CallNow) → IsAsked calls n c → may_have txns c.opened.txn part.G ≡ true

-- in a state, the transactions hold well
abbrev pub IsHeldWell : CoreState → Type 0
IsHeldWell s = AreHeld s.holdings.parts s.holdings.txns s.calls

-- a transaction may hold more: it is live, and its authorisation's call isn't asked
pub record MayHold (d : Docket) (token : List ℕ) : Type 0 where
  pub its_live : has_live d.txns token ≡ true
  pub none_pending : NonePendingOf d.calls token

-- what is held more is of a transaction that may hold it and is paid so, and what is let go is there
abbrev pub MayChange : CoreState → List ℕ → Part → ℤ → Type 0
MayChange s txn p (pos n) = MayHold (docket_of s) txn × (may_have s.holdings.txns txn p ≡ true)
MayChange s txn p (negsuc n) = pos (suc n) ≤ℤ part_sum s.holdings.parts txn p

-- What an entry needs so that transactions go on holding well. A transaction that ends holds nothing, and neither does one whose
-- authorisation is asked for. A call is for a transaction that the gateway pays, and a transaction begins by now.
abbrev pub KeepsHeld : CoreState → Entry → Type 0
KeepsHeld s (entry.Hold txn user currency p amount) = MayChange s txn p amount
KeepsHeld s (entry.Ended txn) = HoldsNothing s.holdings.parts txn
KeepsHeld s (entry.Opened o) =
    (is_authorization o.method ≡ true → HoldsNothing s.holdings.parts o.txn) × (may_have s.holdings.txns o.txn part.G ≡ true)
KeepsHeld s (entry.Began t) = t.at ≤ s.now
KeepsHeld s _ = Unit {0}

-- transactions began by now
abbrev pub BegunBy : ℕ → List TxnNow → Type 0
BegunBy now txns = (token : List ℕ) (t : TxnNow) → txn_named token txns ≡ Some t → t.txn.at ≤ now

-- each entry finds what it needs after those before it
abbrev pub AllKeepHeld : CoreState → List Entry → Type 0
AllKeepHeld s [] = Unit {0}
AllKeepHeld s (e ∷ es) = KeepsHeld s e × AllKeepHeld (after_entry s e) es

-- on a state whose transactions hold well, each of these entries finds what it needs
abbrev pub KeepHeldWell : CoreState → List Entry → Type 0
KeepHeldWell s es = IsHeldWell s → AllKeepHeld s es

-- how often entries end a transaction
abbrev pub ended_times : List ℕ → List Entry → ℕ
ended_times token [] = 0
ended_times token (e ∷ es) = (if ends_txn token e then 1 else 0) + ended_times token es

-- a transaction has ended
abbrev pub has_ended : List TxnNow → List ℕ → Bool
has_ended txns token = is_some_with (λ t. not t.live) (txn_named token txns)

-- how often a transaction may still end
abbrev pub ends_left : List TxnNow → List ℕ → ℕ
ends_left txns token = if has_ended txns token then 0 else 1

-- a record ends a transaction no more often than it might still end before, less how often it may after
abbrev pub EndsOnce : CoreState → Record → List ℕ → Type 0
EndsOnce s r token =
    ends_left (core_after s r).holdings.txns token + ended_times token (core_entries s r) ≤ ends_left s.holdings.txns token
