-- The entries of reversals and expiries, piece by piece.
use Rattle.std.proofs.Common.{◌≡◌, ℕ, ◌-◌, Bool, true, false, cond, min, nat_eq, List, [], ◌∷◌, ◌++◌, refl, ap, ap₂, sym, ◌∙◌}
use Rattle.std.specs.Prelude.{None}
use Rattle.std.proofs.lemmas.List.{append_assoc}
use Rattle.iss_model.specs.declared.call.Method.TheVariants as method
use Rattle.iss_model.specs.declared.decision.Reason.TheVariants as reason
use Rattle.iss_model.specs.declared.decision.Verdict.TheVariants as verdict
use Rattle.iss_model.specs.declared.entry.Entry.{Entry}
use Rattle.iss_model.specs.declared.entry.Entry.TheVariants as entry
use Rattle.iss_model.specs.declared.txn.Txn.{Txn}
use Rattle.iss_model.specs.rules.CardReasons.{is_account_funded}
use Rattle.iss_model.specs.rules.Facts.{Facts, asked_calls_of, next_notice}
use Rattle.iss_model.specs.rules.Pieces.{Parts, abandoned_calls_entries, in_all, notice_after_abandonment, notice_entry, only_gateway, only_where, release_entries}
use Rattle.iss_model.specs.rules.Acts.{Act, Does, Ends, News, Tells, entries_of_acts, expired, news_method, reversed}
use Rattle.iss_model.specs.rules.CardActs.{acts_for_gateway, acts_where, reversed_acts}
use Rattle.iss_model.specs.rules.Due.{expired_acts}
use Rattle.iss_acts.proofs.Walk.{acts_append}
use Rattle.iss_chain.specs.Calls.{end_money_entries, reversal_money_entries}

-- a notice of an amount that isn't 0, for a product that a gateway funds
told_so : (t : Txn) (number : ℕ) (news : News) (amount gateway : ℕ)
    → entries_of_acts (acts_for_gateway t (acts_where amount (Tells number news t amount gateway ∷ []))) ≡ only_gateway t (only_where amount (notice_entry number (news_method news) t None amount gateway ∷ []))
told_so t number news amount gateway = by (is_account_funded t.funding) (nat_eq amount 0)
  where
    by : (funded none : Bool) → entries_of_acts (cond funded [] (cond none [] (Tells number news t amount gateway ∷ []))) ≡ cond funded [] (cond none [] (notice_entry number (news_method news) t None amount gateway ∷ []))
    by true none = refl
    by false true = refl
    by false false = refl

-- the end of a transaction, if this amount is all that it holds
ended_so : (b : Bool) (t : Txn) → entries_of_acts (cond b (Ends t ∷ []) []) ≡ cond b (entry.Ended t.token ∷ []) []
ended_so true t = refl
ended_so false t = refl

-- the asked calls are abandoned, all is let go, and the gateway is told
pub expired_so : (f : Facts) (t : Txn) (parts : Parts) (old first second : List Entry) → first ≡ old ++ abandoned_calls_entries (next_notice f) t reason.Expired (asked_calls_of f t.token)
    → second ≡ first ++ end_money_entries t parts
    → second ++ only_gateway t (only_where (in_all parts) (notice_entry (notice_after_abandonment (next_notice f) f t) method.Expiry t None (in_all parts) parts.g ∷ [])) ≡ old ++ entries_of_acts (expired_acts f t parts)
expired_so f t parts old first second is ends =
    let told : List Entry = only_gateway t (only_where (in_all parts) (notice_entry (notice_after_abandonment (next_notice f) f t) method.Expiry t None (in_all parts) parts.g ∷ [])) in
    ap (λ (es : List Entry). es ++ told) (ends ∙ ap (λ (es : List Entry). es ++ end_money_entries t parts) is)
    ∙ regrouped old (abandoned_calls_entries (next_notice f) t reason.Expired (asked_calls_of f t.token)) (release_entries t parts (in_all parts)) (entry.Ended t.token ∷ []) told
    ∙ ap (λ (es : List Entry). old ++ (abandoned_calls_entries (next_notice f) t reason.Expired (asked_calls_of f t.token) ++ (release_entries t parts (in_all parts) ++ (entry.Ended t.token ∷ [] ++ es))))
    (sym (told_so t (notice_after_abandonment (next_notice f) f t) expired (in_all parts) parts.g))
  where
    regrouped : (old a b c d : List Entry) → ((old ++ a) ++ (b ++ c)) ++ d ≡ old ++ (a ++ (b ++ (c ++ d)))
    regrouped old a b c d = simp append_assoc

-- the same, by numbers that were found
pub expired_from : (f : Facts) (t : Txn) (parts : Parts) (start number whole : ℕ) (old first second : List Entry) → start ≡ next_notice f → number ≡ notice_after_abandonment start f t → whole ≡ in_all parts
    → first ≡ old ++ abandoned_calls_entries start t reason.Expired (asked_calls_of f t.token) → second ≡ first ++ end_money_entries t parts
    → second ++ only_gateway t (only_where whole (notice_entry number method.Expiry t None whole parts.g ∷ [])) ≡ old ++ entries_of_acts (expired_acts f t parts)
expired_from f t parts start number whole old first second starts next all is ends =
    ap₂ (λ (n w : ℕ). second ++ only_gateway t (only_where w (notice_entry n method.Expiry t None w parts.g ∷ []))) (next ∙ ap (λ (s : ℕ). notice_after_abandonment s f t) starts) all
    ∙ expired_so f t parts old first second (is ∙ ap (λ (s : ℕ). old ++ abandoned_calls_entries s t reason.Expired (asked_calls_of f t.token)) starts) ends

-- the asked calls are abandoned, up to the amount is let go, an empty transaction ends, the gateway is told, and the event is done
pub reversed_so : (f : Facts) (token : List ℕ) (amount : ℕ) (t : Txn) (parts : Parts) (old first second third : List Entry)
    → first ≡ old ++ abandoned_calls_entries (next_notice f) t reason.Reversed (asked_calls_of f t.token) → second ≡ first ++ reversal_money_entries t parts amount
    → third ≡ second ++ only_gateway t (only_where (min amount (in_all parts))
    (notice_entry (notice_after_abandonment (next_notice f) f t) method.Reversal t None (min amount (in_all parts)) (min (min amount (in_all parts) - parts.p) parts.g) ∷ []))
    → third ++ entry.Decided token verdict.Done ∷ [] ≡ old ++ entries_of_acts (reversed_acts f token amount t parts)
reversed_so f token amount t parts old first second third calls money told =
    ap (λ (es : List Entry). es ++ done)
    (told ∙ ap (λ (es : List Entry). es ++ notice) (money ∙ ap (λ (es : List Entry). es ++ (release_entries t parts (min amount (in_all parts)) ++ end)) calls))
    ∙ regrouped old abandoned (release_entries t parts (min amount (in_all parts))) end notice done
    ∙ ap (λ (es : List Entry). old ++ (abandoned ++ (release_entries t parts (min amount (in_all parts)) ++ es))) (sym (rest ∙ ap (λ (es : List Entry). es ++ done) (both ∙ by_parts)))
  where
    ends : List Act
    ends = cond (nat_eq (min amount (in_all parts)) (in_all parts)) (Ends t ∷ []) []

    news : List Act
    news = acts_for_gateway t (acts_where (min amount (in_all parts))
        (Tells (notice_after_abandonment (next_notice f) f t) reversed t (min amount (in_all parts)) (min (min amount (in_all parts) - parts.p) parts.g) ∷ []))

    abandoned : List Entry
    abandoned = abandoned_calls_entries (next_notice f) t reason.Reversed (asked_calls_of f t.token)

    end : List Entry
    end = cond (nat_eq (min amount (in_all parts)) (in_all parts)) (entry.Ended t.token ∷ []) []

    notice : List Entry
    notice = only_gateway t (only_where (min amount (in_all parts))
        (notice_entry (notice_after_abandonment (next_notice f) f t) method.Reversal t None (min amount (in_all parts)) (min (min amount (in_all parts) - parts.p) parts.g) ∷ []))

    done : List Entry
    done = entry.Decided token verdict.Done ∷ []

    rest : entries_of_acts (ends ++ news ++ Does token ∷ []) ≡ entries_of_acts (ends ++ news) ++ done
    rest = acts_append (ends ++ news) (Does token ∷ [])

    both : entries_of_acts (ends ++ news) ≡ entries_of_acts ends ++ entries_of_acts news
    both = acts_append ends news

    by_parts : entries_of_acts ends ++ entries_of_acts news ≡ end ++ notice
    by_parts =
        ap (λ (es : List Entry). es ++ entries_of_acts news) (ended_so (nat_eq (min amount (in_all parts)) (in_all parts)) t)
        ∙ ap (λ (es : List Entry). end ++ es) (told_so t (notice_after_abandonment (next_notice f) f t) reversed (min amount (in_all parts)) (min (min amount (in_all parts) - parts.p) parts.g))

    regrouped : (old a b c d e : List Entry) → (((old ++ a) ++ (b ++ c)) ++ d) ++ e ≡ old ++ (a ++ (b ++ ((c ++ d) ++ e)))
    regrouped old a b c d e = simp append_assoc

-- the same, by numbers that were found
pub reversed_from : (f : Facts) (token : List ℕ) (amount : ℕ) (t : Txn) (parts : Parts) (start number whole freed gateway : ℕ) (old first second third : List Entry)
    → start ≡ next_notice f → number ≡ notice_after_abandonment start f t → whole ≡ in_all parts → freed ≡ min amount whole → gateway ≡ min (freed - parts.p) parts.g
    → first ≡ old ++ abandoned_calls_entries start t reason.Reversed (asked_calls_of f t.token) → second ≡ first ++ reversal_money_entries t parts amount
    → third ≡ second ++ only_gateway t (only_where freed (notice_entry number method.Reversal t None freed gateway ∷ []))
    → third ++ entry.Decided token verdict.Done ∷ [] ≡ old ++ entries_of_acts (reversed_acts f token amount t parts)
reversed_from f token amount t parts start number whole freed gateway old first second third starts next all let_go part calls money told =
    let as_held : freed ≡ min amount (in_all parts) = let_go ∙ ap (λ (n : ℕ). min amount n) all in
    reversed_so f token amount t parts old first second third (calls ∙ ap (λ (s : ℕ). old ++ abandoned_calls_entries s t reason.Reversed (asked_calls_of f t.token)) starts) money
    (told ∙ ap₂ (λ (n g : ℕ). second ++ only_gateway t (only_where freed (notice_entry n method.Reversal t None freed g ∷ []))) (next ∙ ap (λ (s : ℕ). notice_after_abandonment s f t) starts) part
    ∙ ap (λ (n : ℕ). second ++ only_gateway t (only_where n (notice_entry (notice_after_abandonment (next_notice f) f t) method.Reversal t None n (min (n - parts.p) parts.g) ∷ []))) as_held)
