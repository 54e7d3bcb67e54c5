-- Calls stay as they were opened, with transactions of their user and currency.
use Rattle.std.proofs.Common.{◌≡◌, ℕ, true, cond, nat_eq, List, [], ◌∷◌, ◌++◌, map, fold, refl, sym, ap, subst, ◌∙◌}
use Rattle.std.specs.Prelude.{Option, Some, None, option_map}
use Rattle.std.specs.List.{list_all}
use Rattle.std.specs.Option.{option_or}
use Rattle.std.specs.Str.{bytes_eq}
use Rattle.iss_model.specs.declared.call.Opened.{Opened}
use Rattle.iss_model.specs.declared.entry.Entry.{Entry}
use Rattle.iss_model.specs.declared.entry.Entry.TheVariants as entry
use Rattle.iss_model.specs.declared.input.Input.{Input}
use Rattle.iss_model.specs.declared.input.Input.TheVariants as input
use Rattle.iss_model.specs.declared.setting.Moved.TheVariants as moved
use Rattle.iss_model.specs.declared.txn.Txn.{Txn}
use Rattle.iss_model.specs.rules.Activity.{CallNow, TxnNow, call_numbered}
use Rattle.iss_model.specs.state.Cores.{CoreState, after_entry, after_setting, call_after_close, is_live, txn_after_end}
use Rattle.iss_state.proofs.docket.Closing.{opened_before, same_opened, stands_after}
use Rattle.iss_state.proofs.docket.Entering.{call_more, same_txn, txn_more}
use Rattle.iss_state.proofs.docket.Lists.{by_either, either_found}
use Rattle.iss_state.proofs.held.Changes.{txn_ended}
use Rattle.iss_laws.specs.Payable.{ArePayable, CallsStand, IsPayable}
use Rattle.iss_laws.specs.CallEntries.{opens_none}

-- calls stand ----

pub calls_stand : (calls : List CallNow) → CallsStand calls calls
calls_stand calls n c e = record { its = c; stands = e; opened = refl }

pub stand_then : (a b c : List CallNow) → CallsStand a b → CallsStand b c → CallsStand a c
stand_then a b c first second n x e =
    let one = first n x e in
    let two = second n one.its one.stands in
    record { its = two.its; stands = two.stands; opened = two.opened ∙ one.opened }

setting_stand : (s : CoreState) (i : Input) → CallsStand s.calls (after_setting s i).calls
setting_stand s (input.Move event (moved.Card card to)) = calls_stand s.calls
setting_stand s (input.Move event (moved.User user to)) = calls_stand s.calls
setting_stand s _ = calls_stand s.calls

entry_stand : (s : CoreState) (e : Entry) → CallsStand s.calls (after_entry s e).calls
entry_stand s (entry.Conf i) = setting_stand s i
entry_stand s (entry.Opened o) = λ n c e.
    let x : CallNow = record { opened = o; how = None } in
    record { its = c; stands = call_more n s.calls x ∙ ap (λ (was : Option CallNow). option_or was (cond (nat_eq o.call.0 n) (Some x) None)) e; opened = refl }
entry_stand s (entry.Closed call how) = λ n c e.
    record { its = call_after_close call.0 how c; stands = stands_after s.calls call.0 how n c e; opened = same_opened call.0 how c }
entry_stand s _ = calls_stand s.calls

pub entries_stand : (s : CoreState) (es : List Entry) → CallsStand s.calls (fold after_entry s es).calls
entries_stand s [] = calls_stand s.calls
entries_stand s (e ∷ es) = stand_then s.calls (after_entry s e).calls (fold after_entry (after_entry s e) es).calls (entry_stand s e) (entries_stand (after_entry s e) es)

-- calls are payable ----

-- a call that is opened is payable
abbrev pub NeedsPayable : CoreState → Entry → Type 0
NeedsPayable s (entry.Opened o) = IsPayable s.holdings.txns o
NeedsPayable s _ = Unit {0}

-- each call that is opened in its turn is payable
abbrev pub AllPayable : CoreState → List Entry → Type 0
AllPayable s [] = Unit {0}
AllPayable s (e ∷ es) = NeedsPayable s e × AllPayable (after_entry s e) es

payable_more : (txns : List TxnNow) (x : TxnNow) (o : Opened) → IsPayable txns o → IsPayable (txns ++ x ∷ []) o
payable_more txns x o h =
    record {
      its = h.its;
      stands = txn_more o.txn txns x ∙ ap (λ (was : Option TxnNow). option_or was (cond (bytes_eq x.txn.token o.txn) (Some x) None)) h.stands;
      of_user = h.of_user;
      of_currency = h.of_currency;
      asks = h.asks;
    }

payable_ended : (txns : List TxnNow) (txn : List ℕ) (o : Opened) → IsPayable txns o → IsPayable (map (txn_after_end txn) txns) o
payable_ended txns txn o h =
    record {
      its = txn_after_end txn h.its;
      stands = txn_ended txn o.txn txns ∙ ap (option_map (txn_after_end txn)) h.stands;
      of_user = ap (λ (t : Txn). t.user) (same_txn txn h.its) ∙ h.of_user;
      of_currency = ap (λ (t : Txn). t.currency) (same_txn txn h.its) ∙ h.of_currency;
      asks = h.asks;
    }

setting_payable : (s : CoreState) (i : Input) → ArePayable s → ArePayable (after_setting s i)
setting_payable s (input.Move event (moved.Card card to)) h = h
setting_payable s (input.Move event (moved.User user to)) h = h
setting_payable s _ h = h

entry_payable : (s : CoreState) (e : Entry) → NeedsPayable s e → ArePayable s → ArePayable (after_entry s e)
entry_payable s (entry.Conf i) need h = setting_payable s i h
entry_payable s (entry.Began t) need h = λ n c e. payable_more s.holdings.txns (record { txn = t; live = is_live s.holdings.txns t.token }) c.opened (h n c e)
entry_payable s (entry.Ended txn) need h = λ n c e. payable_ended s.holdings.txns txn c.opened (h n c e)
entry_payable s (entry.Opened o) need h = λ n c e.
    let x : CallNow = record { opened = o; how = None } in
    by_either {C = IsPayable s.holdings.txns c.opened} (λ old. h n c old) (λ new. subst (λ (y : CallNow). IsPayable s.holdings.txns y.opened) new.1 need)
    (either_found (call_numbered n s.calls) x c (nat_eq o.call.0 n) (sym (call_more n s.calls x) ∙ e))
entry_payable s (entry.Closed call how) need h = λ n c e.
    let was = opened_before s.calls call.0 how n c e in
    subst (IsPayable s.holdings.txns) was.2 (h n was.0 was.1)
entry_payable s _ need h = h

pub entries_payable : (s : CoreState) (es : List Entry) → AllPayable s es → ArePayable s → ArePayable (fold after_entry s es)
entries_payable s [] needs h = h
entries_payable s (e ∷ es) needs h = entries_payable (after_entry s e) es needs.1 (entry_payable s e needs.0 h)

-- if no call is opened, nothing is needed
pub none_needed : (s : CoreState) (es : List Entry) → list_all opens_none es ≡ true → AllPayable s es
none_needed s [] h = tt
none_needed s (entry.Opened o ∷ es) h = cc
none_needed s (e ∷ es) h = (tt, none_needed (after_entry s e) es h)

pub payable_append : (s : CoreState) (xs ys : List Entry) → AllPayable s xs → AllPayable (fold after_entry s xs) ys → AllPayable s (xs ++ ys)
payable_append s [] ys h k = k
payable_append s (x ∷ xs) ys h k = (h.0, payable_append (after_entry s x) xs ys h.1 k)
