-- An authorisation or increment is approved in full exactly if the rules gave no reason, and it is paid: by its user's own balance, by its
-- funded call, or by a set that stood in. It is approved for a part exactly if they gave no reason, and its call was partly funded with just
-- that part.
use Rattle.std.specs.Prelude.{ℕ, ◌+◌, Bool, true, false, not, ◌&&◌, ◌||◌, ◌==◌, List, [], ◌∷◌, ◌++◌, length, Option, Some, None, if◌then◌else◌}
use Rattle.std.specs.Str.{bytes_eq}
use Rattle.iss_model.specs.declared.call.Failure.TheVariants as failure
use Rattle.iss_model.specs.declared.call.How.{How}
use Rattle.iss_model.specs.declared.call.How.TheVariants as how
use Rattle.iss_model.specs.declared.call.Opened.{Opened}
use Rattle.iss_model.specs.declared.currency.Currency.{Currency}
use Rattle.iss_model.specs.declared.decision.Reason.{Reason}
use Rattle.iss_model.specs.declared.decision.Reply.{Reply}
use Rattle.iss_model.specs.declared.decision.Reply.TheVariants as reply
use Rattle.iss_model.specs.declared.decision.Verdict.{Verdict}
use Rattle.iss_model.specs.declared.decision.Verdict.TheVariants as verdict
use Rattle.iss_model.specs.declared.entry.Entry.{Entry}
use Rattle.iss_model.specs.declared.entry.Entry.TheVariants as entry
use Rattle.iss_model.specs.declared.entry.Row.{Row}
use Rattle.iss_model.specs.declared.input.Input.{Input}
use Rattle.iss_model.specs.declared.input.Input.TheVariants as input
use Rattle.iss_model.specs.declared.input.Outcome.TheVariants as outcome
use Rattle.iss_model.specs.declared.input.Record.{Record}
use Rattle.iss_model.specs.declared.txn.Txn.{Txn}
use Rattle.iss_model.specs.Currencies.{same_currency}
use Rattle.iss_model.specs.rules.Asks.{Ask, call_ask}
use Rattle.iss_model.specs.rules.CardReasons.{is_account_funded, authorization_reason, increment_reason}
use Rattle.iss_model.specs.rules.Facts.{Facts, reply_in, txn_in}
use Rattle.iss_model.specs.rules.Histories.{History, history_facts, history_keeper}
use Rattle.iss_model.specs.rules.Reasons.{is_some_with}
use Rattle.iss_model.specs.rules.Settings.{is_named_in}
use Rattle.iss_model.specs.rules.StandIns.{Stand, allowed, over_limit, uncovered, stand}
use Rattle.iss_model.specs.rules.Stepping.{authorization_ask, increment_ask, after_due}
use Rattle.iss_laws.specs.Rulings.{begun_in, is_answer, is_part_answer, may_fail, opened_in, with_entries}
use Rattle.iss_laws.specs.Decisions.{book_after, entries_in}

-- how much of what is asked is approved: all, or an amount of a currency that is a part of it
pub data Extent : Type 0 where
  in_full : Extent
  in_part : Currency → ℕ → Extent

-- a verdict approves to this extent
abbrev pub is_approval : Extent → Verdict → Bool
is_approval in_full verdict.Approved = true
is_approval in_full (verdict.Partial currency amount) = false
is_approval in_full (verdict.Declined why) = false
is_approval in_full verdict.Done = false
is_approval (in_part currency amount) verdict.Approved = false
is_approval (in_part currency amount) (verdict.Partial other part) = same_currency other currency && part == amount
is_approval (in_part currency amount) (verdict.Declined why) = false
is_approval (in_part currency amount) verdict.Done = false

-- a reply tells such an approval
abbrev pub is_approved : Extent → Reply → Bool
is_approved extent (reply.Decided verdict) = is_approval extent verdict
is_approved extent reply.Pending = false

-- a set stands in
abbrev pub stands_in : Stand → Bool
stands_in (allowed s) = true
stands_in (over_limit s) = false
stands_in uncovered = false

-- An ask is paid at once in full: from the user's own balance, or by a set while the switch of its product is on. No part is paid at once.
abbrev pub is_paid_at_once : Extent → Facts → Ask → Bool
is_paid_at_once (in_part currency amount) f ask = false
is_paid_at_once in_full f ask =
    is_account_funded ask.txn.funding || is_named_in f.switched ask.txn.product && stands_in (stand f ask failure.Switch ask.at)

-- A call that a record closes in this way is paid in full if the record is the answer that funds it, or if the call failed and a set stands
-- in. It is paid in this part if it is partly funded with the part, and the record is the answer of that part.
abbrev pub is_paid_closing : Extent → Record → Facts → Opened → Txn → How → Bool
is_paid_closing in_full r f o t how.Funded = is_answer o.call.0 outcome.Funded r.input
is_paid_closing in_full r f o t (how.Partial part) = false
is_paid_closing in_full r f o t how.Refused = false
is_paid_closing in_full r f o t (how.Failed why) = may_fail r o why && stands_in (stand f (call_ask o t) why r.at)
is_paid_closing in_full r f o t how.Abandoned = false
is_paid_closing (in_part currency amount) r f o t how.Funded = false
is_paid_closing (in_part currency amount) r f o t (how.Partial part) =
    is_part_answer o part r.input && (same_currency t.currency currency && part == amount)
is_paid_closing (in_part currency amount) r f o t how.Refused = false
is_paid_closing (in_part currency amount) r f o t (how.Failed why) = false
is_paid_closing (in_part currency amount) r f o t how.Abandoned = false

-- an entry of a record closes a call for this event, which is paid
abbrev pub pays_for : Extent → List ℕ → Record → Facts → Entry → Bool
pays_for extent event r f (entry.Closed call how) =
    is_some_with (λ o. bytes_eq o.event event && is_some_with (λ t. is_paid_closing extent r f o t how) (begun_in f o.txn))
    (opened_in f call.0)
pays_for extent event r f _ = false

-- one of a record's entries pays for the event, on the book as it stands before that entry
abbrev pub entries_pay_for : Extent → List ℕ → Record → History → List Entry → Bool
entries_pay_for extent event r h [] = false
entries_pay_for extent event r h (e ∷ es) =
    pays_for extent event r (history_facts h) e || entries_pay_for extent event r (with_entries h (e ∷ [])) es

-- a record after the first ones pays for the event, in the rows of the book
abbrev pub records_pay_for : Extent → List ℕ → List Record → List Record → List Row → Bool
records_pay_for extent event before [] rows = false
records_pay_for extent event before (r ∷ rs) rows =
    entries_pay_for extent event r (history_keeper.take_up (book_after before rows) r) (entries_in (length before + 1) rows)
    || records_pay_for extent event (before ++ r ∷ []) rs rows

-- what stands at the turn of the record after the first ones: all that is due at its stamp is settled
abbrev pub facts_at_turn : List Record → Record → List Row → Facts
facts_at_turn before r rows =
    history_facts (after_due history_keeper (history_keeper.take_up (book_after before rows) r) r.at).world

-- An ask is to be approved if no reason held, and it is paid at once or its call is.
abbrev pub is_to_be_approved : Extent → Facts → Option Reason → Option Ask → Bool → Bool
is_to_be_approved extent f (Some why) ask call_is_paid = false
is_to_be_approved extent f None ask call_is_paid = is_some_with (is_paid_at_once extent f) ask || call_is_paid

-- two tests agree
abbrev pub agree : Bool → Bool → Bool
agree a b = if a then b else not b

-- The event of a record between the first ones and the rest is approved to this extent exactly if it is to be. An event that isn't an
-- authorisation or increment passes.
abbrev pub is_approved_rightly : Extent → History → List Record → Record → List Record → Input → Bool
is_approved_rightly extent h before r rs (input.Authorization token card currency amount mcc mid partial) =
    let f = facts_at_turn before r h.rows in
    let ask = authorization_ask f token card currency amount mcc mid partial r.at in
    agree (is_approved extent (reply_in (history_facts h) token))
    (is_to_be_approved extent f (authorization_reason f card currency ask) ask (records_pay_for extent token before (r ∷ rs) h.rows))
is_approved_rightly extent h before r rs (input.Increment token txn currency amount) =
    let f = facts_at_turn before r h.rows in
    let ask = increment_ask f token txn amount r.at in
    agree (is_approved extent (reply_in (history_facts h) token))
    (is_to_be_approved extent f (increment_reason f (txn_in f txn) currency ask) ask (records_pay_for extent token before (r ∷ rs) h.rows))
is_approved_rightly extent h before r rs _ = true

-- each record after the first ones is approved rightly
abbrev pub are_approved_rightly : Extent → History → List Record → List Record → Bool
are_approved_rightly extent h before [] = true
are_approved_rightly extent h before (r ∷ rs) =
    is_approved_rightly extent h before r rs r.input && are_approved_rightly extent h (before ++ r ∷ []) rs

-- each authorisation and increment of the book is approved in full exactly if it is to be
abbrev pub approved_rightly : History → Bool
approved_rightly h = are_approved_rightly in_full h [] h.records

-- each authorisation and increment is approved for a part of this currency and amount exactly if it is to be
abbrev pub partly_approved_rightly : Currency → ℕ → History → Bool
partly_approved_rightly currency amount h = are_approved_rightly (in_part currency amount) h [] h.records
