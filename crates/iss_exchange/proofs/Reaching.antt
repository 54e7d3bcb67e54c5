-- What a list of moves leads to is orderly, and both sides meet there.
use Rattle.std.proofs.Common.{ℕ, [], ◌∷◌, ◌++◌, refl, subst, ap, ◌∙◌}
use Rattle.std.proofs.lemmas.List.Sums.{fold-append}
use Rattle.iss_model.specs.declared.currency.Currency.{Currency}
use Rattle.iss_model.specs.texts.CallTokens.{call_uuid}
use Rattle.iss_exchange_laws.specs.declared.moves.Move.{Move}
use Rattle.iss_exchange_laws.specs.Exchanges.{Exchange, new_exchange}
use Rattle.iss_exchange_laws.specs.Laws.{IsEven, IsSettled, Reconciles, facts_of}
use Rattle.iss_exchange_laws.specs.Rules.{moved}
use Rattle.iss_exchange_laws.specs.Statements.{exchange_after}
use Rattle.iss_exchange_laws.proofs.Honest.{honest_even, honest_reconcile, reference_leads}
use Rattle.iss_exchange_laws.proofs.Led.{all_sound, nothing_sound}
use Rattle.iss_exchange_laws.proofs.Sound.{IsSound}
use Rattle.iss_delivery.proofs.Sendable.{sound_sendable}
use Rattle.iss_exchange.specs.Standing.{IsOrderly}
use Rattle.iss_exchange.specs.Values.{ExchangeNow, IsReached, moved_on, start_of}

reached_sound : (x : ExchangeNow) → IsReached x → IsSound (call_uuid x.instance) x.now
reached_sound x h =
    subst (IsSound (call_uuid x.instance)) h.1
    (all_sound (call_uuid x.instance) h.0 new_exchange (exchange_after x.instance x.most x.limit h.0) (reference_leads x.instance x.most x.limit h.0) (nothing_sound (call_uuid x.instance)))

pub reached_orderly : (x : ExchangeNow) → IsReached x → IsOrderly x.now
reached_orderly x h =
    let sound : IsSound (call_uuid x.instance) x.now = reached_sound x h in
    record { legal = sound.legal; form = sound.form; room = sound.room; few = sound.few; sendable = sound_sendable (call_uuid x.instance) x.now sound }

pub reached_first : (instance most limit : ℕ) → IsReached (start_of instance most limit)
reached_first instance most limit = ([], refl)

pub reached_more : (x : ExchangeNow) (m : Move) → IsReached x → IsReached (moved_on x m)
reached_more x m h = (
  h.0 ++ m ∷ [],
  fold-append (moved (call_uuid x.instance) x.most x.limit) new_exchange h.0 (m ∷ [])
      ∙ ap (λ (y : Exchange). moved (call_uuid x.instance) x.most x.limit y m) h.1,
)

pub reached_meets : (x : ExchangeNow) (c : Currency) → IsReached x → Reconciles (call_uuid x.instance) x.now c
reached_meets x c h =
    subst (λ (y : Exchange). Reconciles (call_uuid x.instance) y c) h.1
    (honest_reconcile x.instance h.0 (exchange_after x.instance x.most x.limit h.0) (reference_leads x.instance x.most x.limit h.0) c)

pub reached_even : (x : ExchangeNow) (c : Currency) → IsReached x → IsSettled (facts_of x.now) → IsEven (call_uuid x.instance) x.now c
reached_even x c h =
    subst (λ (y : Exchange). IsSettled (facts_of y) → IsEven (call_uuid x.instance) y c) h.1
    (honest_even x.instance h.0 (exchange_after x.instance x.most x.limit h.0) (reference_leads x.instance x.most x.limit h.0) c)
