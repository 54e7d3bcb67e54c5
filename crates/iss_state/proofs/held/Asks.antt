-- Asks that are settled or put to the gateway find what they need.
use Rattle.std.proofs.Common.{◌≡◌, ℕ, Bool, true, false, not, cond, nat_eq, List, [], ◌∷◌, ◌++◌, fold, pos, refl, sym, ap, subst, ◌∙◌}
use Rattle.std.specs.Prelude.{Some}
use Rattle.iss_model.specs.declared.account.Account.{Account}
use Rattle.iss_model.specs.declared.account.Account.TheVariants as account
use Rattle.iss_model.specs.declared.account.Part.{Part}
use Rattle.iss_model.specs.declared.account.Part.TheVariants as part
use Rattle.iss_model.specs.declared.call.How.{How}
use Rattle.iss_model.specs.declared.call.Opened.{Opened}
use Rattle.iss_model.specs.declared.decision.Reason.{Reason}
use Rattle.iss_model.specs.declared.decision.Verdict.TheVariants as verdict
use Rattle.iss_model.specs.declared.entry.Entry.{Entry}
use Rattle.iss_model.specs.declared.entry.Entry.TheVariants as entry
use Rattle.iss_model.specs.declared.txn.Txn.{Txn}
use Rattle.iss_model.specs.rules.Activity.{TxnNow, CallNow, txn_named}
use Rattle.iss_model.specs.rules.Asks.{Ask, ask_given_back, call_ask, rest_given_back}
use Rattle.iss_model.specs.rules.CardReasons.{is_account_funded}
use Rattle.iss_model.specs.rules.Pieces.{declined_ask_entries, funded_ask_entries, hold_entries, part_funded_entries, post_entries, user_account}
use Rattle.iss_model.specs.rules.Reasons.{is_some_with}
use Rattle.iss_model.specs.state.Cores.{CoreState, after_entry}
use Rattle.iss_model.specs.state.Kept.{Kept}
use Rattle.iss_state.specs.Dockets.{Docket, docket_after, docket_of}
use Rattle.iss_state.specs.Well.{IsAsked, IsWellAmong, Known, has_live}
use Rattle.iss_state.proofs.docket.Closing.{asked_before, its_number}
use Rattle.iss_state.proofs.docket.Docketed.{post_silent}
use Rattle.iss_state.proofs.docket.Lists.{other_number}
use Rattle.iss_state.proofs.calls.Due.{its_token}
use Rattle.iss_state.proofs.calls.Staying.{comes_to}
use Rattle.iss_state.specs.Holdings.{AllKeepHeld, HoldsNothing, IsHeldWell, MayHold, is_part_of, may_have}
use Rattle.iss_state.proofs.held.Changes.{keep_append}
use Rattle.iss_state.proofs.held.Pieces.{calm_keep, post_calm, still_may}

-- an ask's transaction stands with its funding and may hold more; if it is the first ask, it holds nothing yet
pub record MaySettle (d : Docket) (parts : Kept) (ask : Ask) : Type 0 where
  pub its : (p : Part) → may_have d.txns ask.txn.token p ≡ is_part_of p ask.txn.funding
  pub may : MayHold d ask.txn.token
  pub nothing : ask.is_first ≡ true → HoldsNothing parts ask.txn.token

-- more is held of a transaction that may hold it
pub hold_keeps : (s : CoreState) (t : Txn) (p : Part) (n : ℕ) → MayHold (docket_of s) t.token → may_have (docket_of s).txns t.token p ≡ true → AllKeepHeld s (hold_entries t p n)
hold_keeps s t p n may its = by (nat_eq n 0)
  where
    by : (b : Bool) → AllKeepHeld s (cond b [] (entry.Hold t.token t.user t.currency p (pos n) ∷ []))
    by true = tt
    by false = ((may, its), tt)

-- money comes and is held, and calm entries follow
pub paid_keeps : (s : CoreState) (t : Txn) (from : Account) (p : Part) (n : ℕ) → MayHold (docket_of s) t.token → may_have (docket_of s).txns t.token p ≡ true
    → AllKeepHeld s (post_entries t from (user_account t) n ++ hold_entries t p n)
paid_keeps s t from p n may its =
    let post : List Entry = post_entries t from (user_account t) n in
    keep_append s post (hold_entries t p n) (calm_keep s post (post_calm t from (user_account t) n))
    (hold_keeps (fold after_entry s post) t p n (still_may s post t.token (post_silent t from (user_account t) n) may)
    (ap (λ (d : Docket). may_have d.txns t.token p) (comes_to s post [] (post_silent t from (user_account t) n).none) ∙ its))

pub funded_keeps : (s : CoreState) (ask : Ask) (from : Account) (p : Part) → MaySettle (docket_of s) s.holdings.parts ask → is_part_of p ask.txn.funding ≡ true
    → AllKeepHeld s (funded_ask_entries ask from p)
funded_keeps s ask from p settles paid =
    keep_append s (post_entries ask.txn from (user_account ask.txn) ask.amount ++ hold_entries ask.txn p ask.amount) (entry.Decided ask.event verdict.Approved ∷ [])
    (paid_keeps s ask.txn from p ask.amount settles.may (settles.its p ∙ paid)) (tt, tt)

-- the use of the rest comes back first, which moves nothing that is held
pub part_keeps : (s : CoreState) (o : Opened) (t : Txn) (amount : ℕ) → MaySettle (docket_of s) s.holdings.parts (call_ask o t) → is_part_of part.G t.funding ≡ true
    → AllKeepHeld s (part_funded_entries o t amount)
part_keeps s o t amount settles paid =
    let after : CoreState = after_entry s (entry.Usage (rest_given_back o t amount)) in (
      tt,
      keep_append after (post_entries t (account.Gateway t.currency) (user_account t) amount ++ hold_entries t part.G amount) (entry.Decided o.event (verdict.Partial t.currency amount) ∷ [])
          (paid_keeps after t (account.Gateway t.currency) part.G amount settles.may (settles.its part.G ∙ paid)) (tt, tt),
    )

pub declined_keeps : (s : CoreState) (ask : Ask) (why : Reason) → MaySettle (docket_of s) s.holdings.parts ask → AllKeepHeld s (declined_ask_entries ask why)
declined_keeps s ask why settles =
    (tt, keep_append after (cond ask.is_first (entry.Ended ask.txn.token ∷ []) []) (entry.Decided ask.event (verdict.Declined why) ∷ []) (by ask.is_first refl) (tt, tt))
  where
    after : CoreState
    after = after_entry s (entry.Usage (ask_given_back ask))

    by : (b : Bool) → ask.is_first ≡ b → AllKeepHeld (after_entry s (entry.Usage (ask_given_back ask))) (cond b (entry.Ended ask.txn.token ∷ []) [])
    by true e = (settles.nothing e, tt)
    by false e = tt

-- a call is closed ----

-- when a call is closed, its ask may be settled
pub closed_settles : (known : Known) (s : CoreState) (n : ℕ) (c : CallNow) (t : TxnNow) (how : How) → IsWellAmong known (docket_of s) → IsHeldWell s → IsAsked s.calls n c
    → txn_named c.opened.txn s.holdings.txns ≡ Some t
    → MaySettle (docket_after (docket_of s) (entry.Closed c.opened.call how)) s.holdings.parts (call_ask c.opened t.txn)
closed_settles known s n c t how well held now stands =
    let its : t.txn.token ≡ c.opened.txn = its_token s.holdings.txns c.opened.txn t stands in
    record {
      its = λ p. ap (λ (k : List ℕ). may_have s.holdings.txns k p) its ∙ ap (is_some_with (λ (t : TxnNow). is_part_of p t.txn.funding)) stands;
      may = record {
        its_live = ap (has_live s.holdings.txns) its ∙ well.live n c now;
        none_pending = λ m e then same first.
            let was = asked_before s.calls c.opened.call.0 how m e then in
            let one : m ≡ n = well.calls.alone m n e c was.0 now (same ∙ its) first in
            other_number c.opened.call.0 e.opened.call.0 was.1 (its_number s.calls n c now.stands ∙ sym one ∙ sym (its_number s.calls m e was.0.stands));
      };
      nothing = λ first. subst (HoldsNothing s.holdings.parts) (sym its) (held.pending n c now first);
    }

-- the transaction of an asked call is paid by the gateway
pub asked_gateway : (s : CoreState) (n : ℕ) (c : CallNow) (t : TxnNow) → IsHeldWell s → IsAsked s.calls n c → txn_named c.opened.txn s.holdings.txns ≡ Some t → is_account_funded t.txn.funding ≡ false
asked_gateway s n c t held now stands = turned (is_account_funded t.txn.funding) (ap (is_some_with (λ (t : TxnNow). is_part_of part.G t.txn.funding)) (sym stands) ∙ held.asked n c now)
  where
    turned : (b : Bool) → not b ≡ true → b ≡ false
    turned true h = cc
    turned false h = refl
