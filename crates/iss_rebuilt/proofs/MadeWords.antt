-- The words of events as to decisions, transactions and calls, if one more event comes.
use Rattle.std.proofs.Common.{◌≡◌, ◌∙◌, ◌++◌, ◌∷◌, ◌&&◌, ◌+◌, ℕ, ap, append-nil, Bool, cond, false, find, fold, List, [], refl, sym, true}
use Rattle.std.specs.Prelude.{Option, Some, None, is_some, option_map, unwrap_or}
use Rattle.std.specs.Option.{option_or}
use Rattle.std.specs.Str.{bytes_eq}
use Rattle.std.proofs.lemmas.List.Folds.{find-append}
use Rattle.iss_model.specs.declared.call.Opened.{Opened}
use Rattle.iss_model.specs.declared.decision.Verdict.{Verdict}
use Rattle.iss_model.specs.declared.input.Input.{Input}
use Rattle.iss_model.specs.declared.input.Input.TheVariants as input
use Rattle.iss_model.specs.declared.setting.Product.{Product}
use Rattle.iss_model.specs.declared.txn.Txn.{Txn}
use Rattle.iss_model.specs.Inputs.{event_token}
use Rattle.iss_model.specs.rules.Asks.{Ask}
use Rattle.iss_model.specs.rules.Facts.{Accepted, Decision, Facts, verdict_in}
use Rattle.iss_model.specs.rules.Pieces.{call_for}
use Rattle.iss_model.specs.rules.Settings.{product_named}
use Rattle.iss_model.specs.state.Cores.{CoreState, after_setting, core_facts}
use Rattle.iss_model.proofs.Names.{its_name}
use Rattle.iss_acts.specs.Sources.{setting_reason}
use Rattle.iss_state.proofs.docket.Lists.{Each, mapped_is}
use Rattle.iss_states.specs.Rebuilding.{ask_of_event, is_done}
use Rattle.iss_states.specs.Settled.{IsJudged, WereJudged, reason_before, set_part, sets_something, verdict_by, with_done}
use Rattle.iss_states.specs.Showing.{token_of_event}
use Rattle.iss_states.proofs.Found.{find_stays}
use Rattle.iss_rebuilt.proofs.Made.{Made, Words, ask_event, call_of_product, first_calls, first_txns, has_call, has_txn, made_facts, made_on, with_made_of}
use Rattle.iss_rebuilt.proofs.MadeShown.{first_named}

-- more decisions ----

-- a setting that was judged was decided
judged_some : (f : Facts) (i : Input) (v : Option Verdict) → sets_something i ≡ true → IsJudged (reason_before f i) v → (w : Verdict) × (v ≡ Some w)
judged_some f (input.Load token user currency amount) v h j = cc
judged_some f (input.Authorization token card currency amount mcc mid partial) v h j = cc
judged_some f (input.Increment token txn currency amount) v h j = cc
judged_some f (input.Reversal token txn currency amount) v h j = cc
judged_some f (input.Clearing token txn currency amount last) v h j = cc
judged_some f (input.Refund token txn currency amount) v h j = cc
judged_some f (input.Answer call what) v h j = cc
judged_some f (input.Ack notice) v h j = cc
judged_some f input.Time v h j = cc
judged_some f i v h j = (verdict_by (setting_reason f i), j)

-- an event that is decided stays so
still_decided : (ds more : List Decision) (event : List ℕ) (v : Verdict) → verdict_in ds event ≡ Some v → verdict_in (ds ++ more) event ≡ Some v
still_decided ds more event v e =
    let found = mapped_is (λ (d : Decision). d.verdict) (find (λ d. bytes_eq d.event event) ds) v e in
    ap (option_map (λ (d : Decision). d.verdict)) (find_stays (λ (d : Decision). bytes_eq d.event event) ds more found.0 found.1) ∙ ap (λ (v : Verdict). Some v) found.2

done_agrees : (f : Facts) (a : Accepted) (ds more : List Decision) → IsJudged (reason_before f a.input) (verdict_in ds (token_of_event a))
    → (is_done (verdict_in (ds ++ more) (token_of_event a)) && sets_something a.input) ≡ (is_done (verdict_in ds (token_of_event a)) && sets_something a.input)
done_agrees f a ds more j = by (sets_something a.input) refl
  where
    neither_and : (p q : Bool) → (p && false) ≡ (q && false)
    neither_and true true = refl
    neither_and true false = refl
    neither_and false true = refl
    neither_and false false = refl

    by : (b : Bool) → sets_something a.input ≡ b → (is_done (verdict_in (ds ++ more) (token_of_event a)) && b) ≡ (is_done (verdict_in ds (token_of_event a)) && b)
    by false e = neither_and (is_done (verdict_in (ds ++ more) (token_of_event a))) (is_done (verdict_in ds (token_of_event a)))
    by true e =
        let decided = judged_some f a.input (verdict_in ds (token_of_event a)) e j in
        ap (λ (o : Option Verdict). is_done o && true) (still_decided ds more (token_of_event a) decided.0 decided.1 ∙ sym decided.1)

done_again : (d : CoreState) (a : Accepted) (ds more : List Decision) → IsJudged (reason_before (core_facts d) a.input) (verdict_in ds (token_of_event a)) → (m : CoreState) → with_done (ds ++ more) m a ≡ with_done ds m a
done_again d a ds more j m = ap (λ (b : Bool). cond b (set_part (after_setting (record m { count = a.number }) a.input)) m) (done_agrees (core_facts d) a ds more j)

pub sets_stay : (ds more : List Decision) (d m : CoreState) (xs : List Accepted) → WereJudged ds d xs → fold (with_done (ds ++ more)) m xs ≡ fold (with_done ds) m xs
sets_stay ds more d m [] h = refl
sets_stay ds more d m (a ∷ xs) h = ap (λ (x : CoreState). fold (with_done (ds ++ more)) x xs) (done_again d a ds more h.0 m) ∙ sets_stay ds more (with_done ds d a) (with_done ds m a) xs h.1

-- what is made stays ----

-- what is no event asks nothing
pub no_ask : (f : Facts) (at : ℕ) (i : Input) → event_token i ≡ None → ask_of_event f at i ≡ None
no_ask f at (input.Authorization token card currency amount mcc mid partial) e = cc
no_ask f at (input.Increment token txn currency amount) e = cc
no_ask f at _ e = refl

-- the words of these events as to transactions and calls are the same
abbrev pub Untouched : Words → Words → List Accepted → Type 0
Untouched w v xs = Each (λ a. (k : List ℕ) → event_token a.input ≡ Some k → (has_txn v.txns k ≡ has_txn w.txns k) × (has_call v.calls k ≡ has_call w.calls k)) xs

event_stays : (w v : Words) (more : List Decision) (d : CoreState) (m : Made) (a : Accepted) → v.decisions ≡ w.decisions ++ more → IsJudged (reason_before (core_facts d) a.input) (verdict_in w.decisions (token_of_event a))
    → ((k : List ℕ) → event_token a.input ≡ Some k → (has_txn v.txns k ≡ has_txn w.txns k) × (has_call v.calls k ≡ has_call w.calls k)) → with_made_of v m a ≡ with_made_of w m a
event_stays w v more d m a grown judged same =
    ap (λ (x : CoreState). made_on x (has_txn v.txns (token_of_event a)) (has_call v.calls (token_of_event a)) m a) set ∙ by (event_token a.input) refl
  where
    s : CoreState
    s = with_done w.decisions m.set a

    set : with_done v.decisions m.set a ≡ s
    set = ap (λ (ds : List Decision). with_done ds m.set a) grown ∙ done_again d a w.decisions more judged m.set

    -- without an ask the words don't matter
    silent : (b c : Bool) → ask_of_event (made_facts s m.txns m.calls a.number) a.at a.input ≡ None → made_on s b c m a ≡ record { set = s; txns = m.txns ++ []; calls = m.calls ++ [] }
    silent b c none =
        ap (λ (ask : Option Ask). record { set = s; txns = m.txns ++ first_txns b ask; calls = m.calls ++ first_calls (made_facts s m.txns m.calls a.number) c ask }) none

    by : (o : Option (List ℕ)) → event_token a.input ≡ o
        → made_on s (has_txn v.txns (token_of_event a)) (has_call v.calls (token_of_event a)) m a ≡ made_on s (has_txn w.txns (token_of_event a)) (has_call w.calls (token_of_event a)) m a
    by None e =
        let none = no_ask (made_facts s m.txns m.calls a.number) a.at a.input e in
        silent (has_txn v.txns (token_of_event a)) (has_call v.calls (token_of_event a)) none ∙ sym (silent (has_txn w.txns (token_of_event a)) (has_call w.calls (token_of_event a)) none)
    by (Some k) e =
        let its : token_of_event a ≡ k = ap (λ (o : Option (List ℕ)). unwrap_or o []) e in
        let both = same k e in
        λ i. made_on s ((ap (has_txn v.txns) its ∙ both.0 ∙ ap (has_txn w.txns) (sym its)) i) ((ap (has_call v.calls) its ∙ both.1 ∙ ap (has_call w.calls) (sym its)) i) m a

pub made_stays : (w v : Words) (more : List Decision) (d : CoreState) (m : Made) (xs : List Accepted) → v.decisions ≡ w.decisions ++ more → WereJudged w.decisions d xs → Untouched w v xs
    → fold (with_made_of v) m xs ≡ fold (with_made_of w) m xs
made_stays w v more d m [] grown judged same = refl
made_stays w v more d m (a ∷ xs) grown judged same =
    ap (λ (x : Made). fold (with_made_of v) x xs) (event_stays w v more d m a grown judged.0 same.0)
    ∙ made_stays w v more (with_done w.decisions d a) (with_made_of w m a) xs grown judged.1 same.1

-- the words of one more event ----

is_first_or_none : (T : List Txn) (k : List ℕ) (t : Txn) → has_txn T k ≡ false → has_txn (T ++ t ∷ []) k ≡ bytes_eq t.token k
is_first_or_none T k t none = ap is_some (find-append (λ (t : Txn). bytes_eq t.token k) T (t ∷ [])) ∙ by (find (λ t. bytes_eq t.token k) T) none (bytes_eq t.token k)
  where
    by : (o : Option Txn) → is_some o ≡ false → (b : Bool) → is_some (option_or o (cond b (Some t) None)) ≡ b
    by (Some x) h b = cc
    by None h true = refl
    by None h false = refl

is_call_or_none : (O : List Opened) (k : List ℕ) (o : Opened) → has_call O k ≡ false → has_call (O ++ o ∷ []) k ≡ bytes_eq o.event k
is_call_or_none O k o none = ap is_some (find-append (λ (o : Opened). bytes_eq o.event k) O (o ∷ [])) ∙ by (find (λ o. bytes_eq o.event k) O) none (bytes_eq o.event k)
  where
    by : (x : Option Opened) → is_some x ≡ false → (b : Bool) → is_some (option_or x (cond b (Some o) None)) ≡ b
    by (Some x) h b = cc
    by None h true = refl
    by None h false = refl

other_txn : (T : List Txn) (k : List ℕ) (t : Txn) → bytes_eq t.token k ≡ false → has_txn (T ++ t ∷ []) k ≡ has_txn T k
other_txn T k t other = ap is_some (find-append (λ (t : Txn). bytes_eq t.token k) T (t ∷ [])) ∙ ap (λ (b : Bool). is_some (option_or (find (λ t. bytes_eq t.token k) T) (cond b (Some t) None))) other ∙ by (find (λ t. bytes_eq t.token k) T)
  where
    by : (o : Option Txn) → is_some (option_or o None) ≡ is_some o
    by (Some x) = refl
    by None = refl

other_call : (O : List Opened) (k : List ℕ) (o : Opened) → bytes_eq o.event k ≡ false → has_call (O ++ o ∷ []) k ≡ has_call O k
other_call O k o other = ap is_some (find-append (λ (o : Opened). bytes_eq o.event k) O (o ∷ [])) ∙ ap (λ (b : Bool). is_some (option_or (find (λ o. bytes_eq o.event k) O) (cond b (Some o) None))) other ∙ by (find (λ o. bytes_eq o.event k) O)
  where
    by : (x : Option Opened) → is_some (option_or x None) ≡ is_some x
    by (Some x) = refl
    by None = refl

-- an ask of an event of this token
pub record IsAskOf (token : List ℕ) (ask : Ask) : Type 0 where
  pub event : ask.event ≡ token
  pub named : ask.is_first ≡ true → ask.txn.token ≡ token

module _ (T : List Txn) (token : List ℕ) (ask : Option Ask) (of_token : (x : Ask) → ask ≡ Some x → IsAskOf token x) where
  -- what is begun is begun by the words after it
  pub begun_told : (b : Bool) → has_txn T token ≡ false → first_txns (has_txn (T ++ first_txns b ask) token) ask ≡ first_txns b ask
  begun_told b new = by ask refl
    where
      with_ask : (x : Ask) → IsAskOf token x → (first b : Bool) → x.is_first ≡ first
          → cond (first && has_txn (T ++ cond (first && b) (x.txn ∷ []) []) token) (x.txn ∷ []) [] ≡ cond (first && b) (x.txn ∷ []) []
      with_ask x its false b e = refl
      with_ask x its true true e =
          ap (λ (b : Bool). cond b (x.txn ∷ []) []) (is_first_or_none T token x.txn new ∙ ap (λ (k : List ℕ). bytes_eq k token) (its.named e) ∙ its_name token)
      with_ask x its true false e = ap (λ (b : Bool). cond b (x.txn ∷ []) []) (ap (λ (ts : List Txn). has_txn ts token) (append-nil T) ∙ new)

      by : (o : Option Ask) → ask ≡ o → first_txns (has_txn (T ++ first_txns b o) token) o ≡ first_txns b o
      by None e = refl
      by (Some x) e = with_ask x (of_token x e) x.is_first b refl

  -- and no other event's
  pub begun_other : (b : Bool) (k : List ℕ) → bytes_eq token k ≡ false → has_txn (T ++ first_txns b ask) k ≡ has_txn T k
  begun_other b k other = by ask refl
    where
      with_ask : (x : Ask) → IsAskOf token x → (first b : Bool) → x.is_first ≡ first → has_txn (T ++ cond (first && b) (x.txn ∷ []) []) k ≡ has_txn T k
      with_ask x its false b e = ap (λ (ts : List Txn). has_txn ts k) (append-nil T)
      with_ask x its true false e = ap (λ (ts : List Txn). has_txn ts k) (append-nil T)
      with_ask x its true true e = other_txn T k x.txn (ap (λ (n : List ℕ). bytes_eq n k) (its.named e) ∙ other)

      by : (o : Option Ask) → ask ≡ o → has_txn (T ++ first_txns b o) k ≡ has_txn T k
      by None e = ap (λ (ts : List Txn). has_txn ts k) (append-nil T)
      by (Some x) e = with_ask x (of_token x e) x.is_first b refl

module _ (f : Facts) (O : List Opened) (token : List ℕ) (ask : Option Ask) (of_token : (x : Ask) → ask ≡ Some x → IsAskOf token x) where
  -- so it is of what is opened
  pub opened_told : (b : Bool) → has_call O token ≡ false → first_calls f (has_call (O ++ first_calls f b ask) token) ask ≡ first_calls f b ask
  opened_told b new = by ask refl
    where
      sold : (x : Ask) → IsAskOf token x → (b : Bool) (o : Option Product) → cond (has_call (O ++ cond b (call_of_product f x o) []) token) (call_of_product f x o) [] ≡ cond b (call_of_product f x o) []
      sold x its false o = ap (λ (b : Bool). cond b (call_of_product f x o) []) (ap (λ (os : List Opened). has_call os token) (append-nil O) ∙ new)
      sold x its true None = ap (λ (b : Bool). cond b [] []) (ap (λ (os : List Opened). has_call os token) (append-nil O) ∙ new)
      sold x its true (Some product) =
          ap (λ (b : Bool). cond b (call_for f product x ∷ []) []) (is_call_or_none O token (call_for f product x) new ∙ ap (λ (k : List ℕ). bytes_eq k token) its.event ∙ its_name token)

      by : (o : Option Ask) → ask ≡ o → first_calls f (has_call (O ++ first_calls f b o) token) o ≡ first_calls f b o
      by None e = refl
      by (Some x) e = sold x (of_token x e) b (product_named x.txn.product f.products)

  pub opened_other : (b : Bool) (k : List ℕ) → bytes_eq token k ≡ false → has_call (O ++ first_calls f b ask) k ≡ has_call O k
  opened_other b k other = by ask refl
    where
      sold : (x : Ask) → IsAskOf token x → (b : Bool) (o : Option Product) → has_call (O ++ cond b (call_of_product f x o) []) k ≡ has_call O k
      sold x its false o = ap (λ (os : List Opened). has_call os k) (append-nil O)
      sold x its true None = ap (λ (os : List Opened). has_call os k) (append-nil O)
      sold x its true (Some product) = other_call O k (call_for f product x) (ap (λ (n : List ℕ). bytes_eq n k) its.event ∙ other)

      by : (o : Option Ask) → ask ≡ o → has_call (O ++ first_calls f b o) k ≡ has_call O k
      by None e = ap (λ (os : List Opened). has_call os k) (append-nil O)
      by (Some x) e = sold x (of_token x e) b (product_named x.txn.product f.products)

pub ask_of : (f : Facts) (at : ℕ) (i : Input) (token : List ℕ) → event_token i ≡ Some token → (x : Ask) → ask_of_event f at i ≡ Some x → IsAskOf token x
ask_of f at i token e x asked =
    let its : unwrap_or (event_token i) [] ≡ token = ap (λ (o : Option (List ℕ)). unwrap_or o []) e in
    record { event = ask_event f at i x asked ∙ its; named = λ first. first_named f at i x asked first ∙ its }
