-- The text of what is sent is read as its message.
use Rattle.std.proofs.Common.{◌≡◌, ℕ, ◌^◌, ◌<◌, Bool, true, false, not, cond, ◌&&◌, nat_le, List, [], ◌∷◌, refl, ap₂, ◌∙◌, arith}
use Rattle.std.specs.Prelude.{Some, None}
use Rattle.std.proofs.lemmas.Bool.Decides.{nat_tests}
use Rattle.iss_model.specs.declared.call.Notice.{Notice}
use Rattle.iss_model.specs.declared.call.Opened.{Opened}
use Rattle.iss_model.specs.declared.limits.TheConstants.{GREATEST_NUMBER}
use Rattle.iss_model.specs.Forms.{is_limit, is_number}
use Rattle.iss_model.specs.texts.CallTokens.{call_uuid}
use Rattle.iss_model.specs.texts.GatewayTexts.{notice_text}
use Rattle.iss_state.proofs.docket.Lists.{both_so}
use Rattle.iss_gateway.specs.Laws.{IsCall, IsNotice, NoticeIsRead}
use Rattle.iss_gateway.specs.Messages.{message_noted}
use Rattle.iss_gateway.specs.Readings.{message_read}
use Rattle.iss_gateway.proofs.ReadAgain.{notice_read, request_again}
use Rattle.iss_exchange_laws.specs.declared.moves.Sent.{Sent}
use Rattle.iss_exchange_laws.specs.declared.moves.Sent.TheVariants as sent
use Rattle.iss_delivery.specs.Delivering.{AllAreRead, AllAreSendable, IsAsking, IsRead, IsSendable, IsTelling, IsTypedCall, IsTypedNotice, text_sent}

numbered : (n : ℕ) → nat_le 1 n ≡ true → n < 2 ^ 32 → is_number n ≡ true
numbered n h less = both_so (nat_le 1 n) (nat_le n GREATEST_NUMBER) h (within n less)
  where
    within : (n : ℕ) → n < 2 ^ 32 → nat_le n 4294967295 ≡ true
    within n less = grind (arith, nat_tests)

as_call : (o : Opened) → IsAsking o → IsTypedCall o → IsCall o
as_call o asking typed =
    record {
      method_asks = asking.method_asks;
      amount_fits = asking.amount_fits;
      number_fits = numbered o.call.0 asking.numbered typed.number_fits;
      card_is = typed.card_is;
      event_is = typed.event_is;
      mid_is = typed.mid_is;
      txn_is = typed.txn_is;
      user_is = typed.user_is;
    }

as_notice : (n : Notice) → IsTelling n → IsTypedNotice n → IsNotice n
as_notice n telling typed =
    record {
      method_notes = telling.method_notes;
      call_is = telling.call_is;
      number_fits = numbered n.number telling.numbered typed.number_fits;
      amount_fits = typed.amount_fits;
      gateway_fits = typed.gateway_fits;
      txn_is = typed.txn_is;
      user_is = typed.user_is;
    }

pub is_read : (instance : ℕ) (what : Sent) → IsSendable what → IsRead instance what
is_read instance (sent.Request o) asking typed = request_again instance o (as_call o asking typed)
is_read instance (sent.Notice n) telling typed = by (is_limit n.amount) (is_limit n.gateway) refl refl
  where
    read : NoticeIsRead instance n
    read = notice_read instance n (as_notice n telling typed)

    by : (a b : Bool) → is_limit n.amount ≡ a → is_limit n.gateway ≡ b → message_read (notice_text instance n) ≡ cond (a && b) (Some (message_noted instance n)) None
    by true true e h = read.within e h
    by true false e h = read.over (ap₂ (λ (a b : Bool). not (a && b)) e h)
    by false true e h = read.over (ap₂ (λ (a b : Bool). not (a && b)) e h)
    by false false e h = read.over (ap₂ (λ (a b : Bool). not (a && b)) e h)

pub all_read : (instance : ℕ) (whats : List Sent) → AllAreSendable whats → AllAreRead instance whats
all_read instance [] h = tt
all_read instance (what ∷ whats) h = (is_read instance what h.0, all_read instance whats h.1)
