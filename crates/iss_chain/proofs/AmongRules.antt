-- The entries of the rules are a chain's, with those of calls, notices and decisions between and after them.
use Rattle.std.proofs.Common.{◌≡◌, ℕ, ◌+◌, ◌-◌, min, ◌==◌, Bool, true, false, cond, ◌&&◌, ◌||◌, List, [], ◌∷◌, ◌++◌, refl, sym, ap, ◌∙◌, append_assoc}
use Rattle.std.specs.Prelude.{None, Some}
use Rattle.std.specs.List.{list_all}
use Rattle.iss_model.specs.declared.account.Part.TheVariants as part
use Rattle.iss_model.specs.declared.call.How.TheVariants as how
use Rattle.iss_model.specs.declared.call.Method.TheVariants as method
use Rattle.iss_model.specs.declared.call.Opened.{Opened}
use Rattle.iss_model.specs.declared.setting.Set.{Set}
use Rattle.iss_model.specs.declared.txn.Txn.{Txn}
use Rattle.iss_model.specs.declared.decision.Reason.{Reason}
use Rattle.iss_model.specs.declared.decision.Reason.TheVariants as reason
use Rattle.iss_model.specs.declared.decision.Verdict.TheVariants as verdict
use Rattle.iss_model.specs.declared.entry.Entry.{Entry}
use Rattle.iss_model.specs.declared.entry.Entry.TheVariants as entry
use Rattle.iss_model.specs.rules.Activity.{TxnNow, CallNow}
use Rattle.iss_model.specs.rules.Acts.{Act, Does, Ends, News, StandsIn, Funds, FundsPart, Tells, act_entries, captured, entries_of_acts, refunded, reversed}
use Rattle.iss_model.specs.rules.Asks.{Ask, rest_given_back}
use Rattle.iss_model.specs.rules.CardActs.{acts_for_gateway, acts_where, after_clearing_acts, clearing_acts, end_acts, refund_acts, reversal_acts}
use Rattle.iss_model.specs.rules.CardReasons.{is_account_funded}
use Rattle.iss_model.specs.rules.Facts.{Facts, next_notice, asked_calls_of}
use Rattle.iss_model.specs.rules.Pieces.{Parts, parts_held, in_all, left_of, taken_to_clear, release_entries, notice_entry, abandoned_calls_entries, notice_after_abandonment, clearing_money_entries, owed_to_programme}
use Rattle.iss_chain.specs.Calls.{fund_money_entries, reversal_money_entries, end_money_entries, clearing_end_entries, refund_money_entries}
use Rattle.iss_chain.specs.Among.{is_passed_over, AreMadeOf}

-- entries are these, and then some that a chain passes over
record AreThen (second all : List Entry) : Type 0 where
  after : List Entry
  whole : all ≡ second ++ after
  passed : list_all is_passed_over after ≡ true

all_passed : (es : List Entry) → list_all is_passed_over es ≡ true → AreThen [] es
all_passed es passed = record { after = es; whole = refl; passed = passed }

more_then : (xs second all : List Entry) → AreThen second all → AreThen (xs ++ second) (xs ++ all)
more_then xs second all h = record { after = h.after; whole = ap (λ (es : List Entry). xs ++ es) h.whole ∙ sym (append_assoc xs second h.after); passed = h.passed }

made_of : (first between second all : List Entry) → list_all is_passed_over between ≡ true → AreThen second all → AreMadeOf first second (first ++ (between ++ all))
made_of first between second all passed h =
    record { between = between; after = h.after; whole = ap (λ (es : List Entry). first ++ (between ++ es)) h.whole; between_passed = passed; after_passed = h.passed }

-- what is told and done at last makes no entry of a chain
done_passed : (own none : Bool) (number : ℕ) (news : News) (t : Txn) (amount gateway : ℕ) (token : List ℕ)
    → list_all is_passed_over (entries_of_acts (cond own [] (cond none [] (Tells number news t amount gateway ∷ [])) ++ Does token ∷ [])) ≡ true
done_passed true none number news t amount gateway token = refl
done_passed false true number news t amount gateway token = refl
done_passed false false number news t amount gateway token = refl

abandoned_passed : (number : ℕ) (t : Txn) (why : Reason) (calls : List CallNow) → list_all is_passed_over (abandoned_calls_entries number t why calls) ≡ true
abandoned_passed number t why [] = refl
abandoned_passed number t why (c ∷ cs) = abandoned_passed (number + 1) t why cs

pub ended_of : (number : ℕ) (f : Facts) (t : Txn) (parts : Parts) (why : Reason) → AreMadeOf [] (end_money_entries t parts) (entries_of_acts (end_acts number f t parts why))
ended_of number f t parts why =
    made_of [] _ _ _ (abandoned_passed number t why (asked_calls_of f t.token)) (more_then (release_entries t parts (in_all parts)) _ _ (record { after = []; whole = refl; passed = refl }))

pub reversed_of : (f : Facts) (token : List ℕ) (amount : ℕ) (now : TxnNow) → AreMadeOf [] (reversal_money_entries now.txn (parts_held f now.txn) amount) (entries_of_acts (reversal_acts f token amount (Some now)))
reversed_of f token amount now =
    made_of [] _ _ _ (abandoned_passed (next_notice f) now.txn reason.Reversed (asked_calls_of f now.txn.token))
    (more_then (release_entries now.txn (parts_held f now.txn) freed) _ _ (by (freed == in_all (parts_held f now.txn))))
  where
    freed : ℕ
    freed = min amount (in_all (parts_held f now.txn))

    news : List Act
    news =
        acts_for_gateway now.txn (acts_where freed
        (Tells (notice_after_abandonment (next_notice f) f now.txn) reversed now.txn freed (min (freed - (parts_held f now.txn).p) (parts_held f now.txn).g) ∷ []))

    told : AreThen [] (entries_of_acts (news ++ Does token ∷ []))
    told = all_passed _ (done_passed (is_account_funded now.txn.funding) (freed == 0) _ reversed now.txn freed _ token)

    by : (b : Bool) → AreThen (cond b (entry.Ended now.txn.token ∷ []) []) (entries_of_acts ((cond b (Ends now.txn ∷ []) [] ++ news) ++ Does token ∷ []))
    by true = more_then (entry.Ended now.txn.token ∷ []) [] _ told
    by false = told

pub refunded_of : (f : Facts) (token : List ℕ) (amount : ℕ) (now : TxnNow) → AreMadeOf (refund_money_entries now.txn (owed_to_programme f now.txn) amount) [] (entries_of_acts (refund_acts f token amount (Some now)))
refunded_of f token amount now =
    made_of (refund_money_entries now.txn (owed_to_programme f now.txn) amount) [] [] _ refl (all_passed _ (done_passed (is_account_funded now.txn.funding) false (next_notice f) refunded now.txn amount _ token))

pub cleared_of : (f : Facts) (token : List ℕ) (amount : ℕ) (last : Bool) (at : ℕ) (now : TxnNow)
    → AreMadeOf (clearing_money_entries now.txn (taken_to_clear (parts_held f now.txn) amount) amount at) (clearing_end_entries now (parts_held f now.txn) amount last)
    (entries_of_acts (clearing_acts f token amount last at (Some now)))
cleared_of f token amount last at now = by (now.live && (last || in_all rest == 0))
  where
    rest : Parts
    rest = left_of (parts_held f now.txn) (taken_to_clear (parts_held f now.txn) amount)

    money : List Entry
    money = clearing_money_entries now.txn (taken_to_clear (parts_held f now.txn) amount) amount at

    told : (number gateway : ℕ) → AreThen [] (entries_of_acts (acts_for_gateway now.txn (Tells number captured now.txn amount gateway ∷ []) ++ Does token ∷ []))
    told number gateway = all_passed _ (done_passed (is_account_funded now.txn.funding) false number captured now.txn amount gateway token)

    by : (b : Bool) → AreMadeOf money (cond b (end_money_entries now.txn rest) []) (money ++ entries_of_acts (after_clearing_acts f now.txn rest amount b ++ Does token ∷ []))
    by true =
        made_of money _ _ _ (abandoned_passed (next_notice f) now.txn reason.Cleared (asked_calls_of f now.txn.token))
        (more_then (release_entries now.txn rest (in_all rest)) _ _ (more_then (entry.Ended now.txn.token ∷ []) [] _ (told (notice_after_abandonment (next_notice f) f now.txn) rest.g)))
    by false = made_of money [] [] _ refl (told (next_notice f) 0)

pub funded_of : (o : Opened) (t : Txn) → AreMadeOf [] (fund_money_entries t part.G o.amount) (act_entries (Funds o t))
funded_of o t =
    record {
      between = entry.Closed o.call how.Funded ∷ [];
      after = entry.Decided o.event verdict.Approved ∷ [];
      whole = refl;
      between_passed = refl;
      after_passed = refl;
    }

pub partly_of : (o : Opened) (t : Txn) (amount : ℕ) → AreMadeOf [] (fund_money_entries t part.G amount) (act_entries (FundsPart o t amount))
partly_of o t amount =
    record {
      between = entry.Closed o.call (how.Partial amount) ∷ entry.Usage (rest_given_back o t amount) ∷ [];
      after = entry.Decided o.event (verdict.Partial t.currency amount) ∷ [];
      whole = refl;
      between_passed = refl;
      after_passed = refl;
    }

pub stood_of : (number : ℕ) (ask : Ask) (at : ℕ) (s : Set) → AreMadeOf [] (fund_money_entries ask.txn part.P ask.amount) (act_entries (StandsIn number ask at s))
stood_of number ask at s =
    record {
      between = entry.Stood s.name ask.txn.product ask.txn.user ask.amount at ∷ [];
      after = notice_entry number method.StandIn ask.txn None ask.amount 0 ∷ entry.Decided ask.event verdict.Approved ∷ [];
      whole = refl;
      between_passed = refl;
      after_passed = refl;
    }
