-- Entries leave the time as it is, a record's stamp isn't later than it, and transactions began by then.
use Rattle.std.proofs.Common.{◌≡◌, ◌≤◌, List, [], ◌∷◌, fold, refl, sym, ap, subst, ◌∙◌, arith}
use Rattle.std.specs.Str.{bytes_eq}
use Rattle.iss_model.specs.declared.entry.Entry.{Entry}
use Rattle.iss_model.specs.declared.entry.Entry.TheVariants as entry
use Rattle.iss_model.specs.declared.input.Input.{Input}
use Rattle.iss_model.specs.declared.input.Input.TheVariants as input
use Rattle.iss_model.specs.declared.input.Record.{Record}
use Rattle.iss_model.specs.declared.setting.Moved.TheVariants as moved
use Rattle.iss_model.specs.declared.txn.Txn.{Txn}
use Rattle.iss_model.specs.rules.Activity.{TxnNow, txn_named}
use Rattle.iss_model.specs.state.Cores.{CoreState, after_entry, after_setting, is_live, txn_after_end, with_record}
use Rattle.iss_state.proofs.docket.Entering.{same_txn, txn_more}
use Rattle.iss_state.proofs.docket.Lists.{by_either, either_found, mapped_is}
use Rattle.iss_state.specs.Holdings.{AllKeepHeld, BegunBy, KeepsHeld}
use Rattle.iss_state.proofs.held.Changes.{txn_ended}

-- the time ----

setting_now : (s : CoreState) (i : Input) → (after_setting s i).now ≡ s.now
setting_now s (input.Move token (moved.Card card to)) = refl
setting_now s (input.Move token (moved.User user to)) = refl
setting_now s _ = refl

entry_now : (s : CoreState) (e : Entry) → (after_entry s e).now ≡ s.now
entry_now s (entry.Conf i) = setting_now s i
entry_now s _ = refl

pub entries_now : (s : CoreState) (es : List Entry) → (fold after_entry s es).now ≡ s.now
entries_now s [] = refl
entries_now s (e ∷ es) = entries_now (after_entry s e) es ∙ entry_now s e

pub stamp_by_now : (s : CoreState) (r : Record) → r.at ≤ (with_record s r).now
stamp_by_now s r = omega arith

-- transactions began by then ----

setting_begun : (s : CoreState) (i : Input) → BegunBy s.now s.holdings.txns → BegunBy (after_setting s i).now (after_setting s i).holdings.txns
setting_begun s (input.Move token (moved.Card card to)) h = h
setting_begun s (input.Move token (moved.User user to)) h = h
setting_begun s _ h = h

entry_begun : (s : CoreState) (e : Entry) → KeepsHeld s e → BegunBy s.now s.holdings.txns → BegunBy (after_entry s e).now (after_entry s e).holdings.txns
entry_begun s (entry.Conf i) keeps h = setting_begun s i h
entry_begun s (entry.Began t) keeps h = λ token x e.
    let new : TxnNow = record { txn = t; live = is_live s.holdings.txns t.token } in
    by_either {C = x.txn.at ≤ s.now} (λ old. h token x old) (λ same. subst (λ (y : TxnNow). y.txn.at ≤ s.now) same.1 keeps)
    (either_found (txn_named token s.holdings.txns) new x (bytes_eq t.token token) (sym (txn_more token s.holdings.txns new) ∙ e))
entry_begun s (entry.Ended txn) keeps h = λ token x e.
    let was = mapped_is (txn_after_end txn) (txn_named token s.holdings.txns) x (sym (txn_ended txn token s.holdings.txns) ∙ e) in
    subst (λ (y : Txn). y.at ≤ s.now) (sym (same_txn txn was.0) ∙ ap (λ (y : TxnNow). y.txn) was.2) (h token was.0 was.1)
entry_begun s _ keeps h = h

pub entries_begun : (s : CoreState) (es : List Entry) → AllKeepHeld s es → BegunBy s.now s.holdings.txns → BegunBy (fold after_entry s es).now (fold after_entry s es).holdings.txns
entries_begun s [] keeps h = h
entries_begun s (e ∷ es) keeps h = entries_begun (after_entry s e) es keeps.1 (entry_begun s e keeps.0 h)
