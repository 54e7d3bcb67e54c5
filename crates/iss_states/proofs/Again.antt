-- Entries leave each call and each transaction as it is made again, if those that they make are.
use Rattle.std.proofs.Common.{◌≡◌, ◌∙◌, ◌∷◌, ap, Bool, false, fold, List, [], nat_eq, refl, subst, sym, true}
use Rattle.std.specs.Prelude.{None}
use Rattle.std.specs.List.{list_all}
use Rattle.std.specs.Str.{bytes_eq}
use Rattle.iss_model.specs.declared.entry.Entry.{Entry}
use Rattle.iss_model.specs.declared.entry.Entry.TheVariants as entry
use Rattle.iss_model.specs.declared.input.Input.{Input}
use Rattle.iss_model.specs.declared.input.Input.TheVariants as input
use Rattle.iss_model.specs.declared.setting.Moved.TheVariants as moved
use Rattle.iss_model.specs.rules.Activity.{CallNow, TxnNow, call_numbered, txn_named}
use Rattle.iss_model.specs.state.Cores.{CoreState, after_entry, after_setting, is_live, txn_after_end}
use Rattle.iss_state.proofs.docket.Closing.{opened_before}
use Rattle.iss_state.proofs.docket.Entering.{call_more, same_txn, txn_more}
use Rattle.iss_state.proofs.docket.Lists.{by_either, either_found, mapped_is}
use Rattle.iss_state.proofs.effects.Effects.{setting_calls}
use Rattle.iss_state.proofs.held.Changes.{txn_ended}
use Rattle.iss_states.specs.Again.{AreCallsAgain, AreTxnsAgain, IsCallAgain, IsTxnAgain}
use Rattle.iss_states.proofs.Found.{call_stays, entry_keeps, txn_stays}

-- an entry opens no call and begins no transaction
abbrev pub makes_none : Entry → Bool
makes_none (entry.Began t) = false
makes_none (entry.Opened o) = false
makes_none _ = true

-- what an entry makes is as it is made again
abbrev pub NeedsAgain : CoreState → Entry → Type 0
NeedsAgain s (entry.Opened o) = IsCallAgain s o
NeedsAgain s (entry.Began t) = IsTxnAgain s t
NeedsAgain s _ = Unit {0}

abbrev pub AllAgain : CoreState → List Entry → Type 0
AllAgain s [] = Unit {0}
AllAgain s (e ∷ es) = NeedsAgain s e × AllAgain (after_entry s e) es

-- each call and each transaction of a core is as it is made again
pub record AreMadeAgain (s : CoreState) : Type 0 where
  pub calls : AreCallsAgain s
  pub txns : AreTxnsAgain s

setting_txns : (s : CoreState) (i : Input) → (after_setting s i).holdings.txns ≡ s.holdings.txns
setting_txns s (input.Move event (moved.Card card to)) = refl
setting_txns s (input.Move event (moved.User user to)) = refl
setting_txns s _ = refl

calls_again : (s : CoreState) (e : Entry) → NeedsAgain s e → AreCallsAgain s → AreCallsAgain (after_entry s e)
calls_again s (entry.Conf i) need h = λ n x e. call_stays x.opened (entry_keeps s (entry.Conf i)) (h n x (ap (call_numbered n) (sym (setting_calls s i)) ∙ e))
calls_again s (entry.Opened o) need h = λ n x e.
    let new : CallNow = record { opened = o; how = None } in
    call_stays x.opened (entry_keeps s (entry.Opened o))
    (by_either {C = IsCallAgain s x.opened} (λ old. h n x old) (λ same. subst (λ (y : CallNow). IsCallAgain s y.opened) same.1 need)
    (either_found (call_numbered n s.calls) new x (nat_eq o.call.0 n) (sym (call_more n s.calls new) ∙ e)))
calls_again s (entry.Closed call how) need h = λ n x e.
    let was = opened_before s.calls call.0 how n x e in
    call_stays x.opened (entry_keeps s (entry.Closed call how)) (subst (IsCallAgain s) was.2 (h n was.0 was.1))
calls_again s a need h = λ n x e. call_stays x.opened (entry_keeps s a) (h n x e)

txns_again : (s : CoreState) (e : Entry) → NeedsAgain s e → AreTxnsAgain s → AreTxnsAgain (after_entry s e)
txns_again s (entry.Conf i) need h = λ token x e. txn_stays x.txn (entry_keeps s (entry.Conf i)) (h token x (ap (txn_named token) (sym (setting_txns s i)) ∙ e))
txns_again s (entry.Began t) need h = λ token x e.
    let new : TxnNow = record { txn = t; live = is_live s.holdings.txns t.token } in
    txn_stays x.txn (entry_keeps s (entry.Began t))
    (by_either {C = IsTxnAgain s x.txn} (λ old. h token x old) (λ same. subst (λ (y : TxnNow). IsTxnAgain s y.txn) same.1 need)
    (either_found (txn_named token s.holdings.txns) new x (bytes_eq t.token token) (sym (txn_more token s.holdings.txns new) ∙ e)))
txns_again s (entry.Ended txn) need h = λ token x e.
    let was = mapped_is (txn_after_end txn) (txn_named token s.holdings.txns) x (sym (txn_ended txn token s.holdings.txns) ∙ e) in
    txn_stays x.txn (entry_keeps s (entry.Ended txn)) (subst (IsTxnAgain s) (sym (same_txn txn was.0) ∙ ap (λ (y : TxnNow). y.txn) was.2) (h token was.0 was.1))
txns_again s a need h = λ token x e. txn_stays x.txn (entry_keeps s a) (h token x e)

pub entries_again : (s : CoreState) (es : List Entry) → AllAgain s es → AreMadeAgain s → AreMadeAgain (fold after_entry s es)
entries_again s [] needs h = h
entries_again s (e ∷ es) needs h = entries_again (after_entry s e) es needs.1 (record { calls = calls_again s e needs.0 h.calls; txns = txns_again s e needs.0 h.txns })

pub none_made : (s : CoreState) (es : List Entry) → list_all makes_none es ≡ true → AllAgain s es
none_made s [] h = tt
none_made s (entry.Opened o ∷ es) h = cc
none_made s (entry.Began t ∷ es) h = cc
none_made s (e ∷ es) h = (tt, none_made (after_entry s e) es h)
