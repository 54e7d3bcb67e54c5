-- Answers that repeat what was asked, or a part of it.
use Rattle.std.specs.Prelude.{◌≡◌, ◌<◌, ℕ, pos, IsTrue, codes, Some}
use Rattle.serde_json.specs.Data.{Data, string}
use Rattle.serde_json.specs.Find.{get}
use Rattle.iss_model.specs.declared.call.Opened.{Opened}
use Rattle.iss_model.specs.Forms.{is_amount}
use Rattle.iss_model.specs.Amounts.{amount_text}
use Rattle.iss_model.specs.texts.GatewayTexts.{token_text}
use Rattle.iss_model.specs.declared.input.Outcome.TheVariants.{Funded, Partial}
use Rattle.iss_jit.specs.Outcomes.{outcome_of_value}

-- the value's member `token` is that of the call's request, and its member `amount` is this amount as a request spells it
pub record IsEcho (instance : ℕ) (o : Opened) (amount : ℕ) (d : Data) : Type 0 where
  pub token : get (codes "token") d ≡ Some (string (token_text instance o.call.0))
  pub amount_is : get (codes "amount") d ≡ Some (string (amount_text (pos amount) o.currency))

-- A value with the request's own token and amount funds the call, if that is an amount of an event. One with a smaller amount funds that part, if
-- the call permits it.
pub record FundsEchoes (instance : ℕ) (o : Opened) : Type 0 where
  pub funds : (d : Data) → IsTrue (is_amount o.amount) → IsEcho instance o o.amount d → outcome_of_value instance o d ≡ Funded
  pub funds_part : (d : Data) (amount : ℕ) → IsTrue (is_amount amount) → IsTrue o.partial → amount < o.amount → IsEcho instance o amount d
      → outcome_of_value instance o d ≡ Partial o.currency amount
