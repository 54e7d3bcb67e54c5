-- An allowed entry of what is known leaves a docket well.
use Rattle.std.proofs.Common.{◌≡◌, ℕ, ◌+◌, Bool, true, false, cond, ◌||◌, nat_eq, List, [], ◌∷◌, ◌++◌, length, map, refl, sym, ap, ◌∙◌, arith, ◌⊎◌, inl, inr}
use Rattle.std.specs.Prelude.{Option, Some, None, is_some, option_map}
use Rattle.std.specs.Option.{option_or}
use Rattle.std.specs.Str.{bytes_eq}
use Rattle.std.proofs.lemmas.Bool.{and_parts, false_from_ne_true}
use Rattle.std.proofs.lemmas.List.Folds.{find-append, list_any-append}
use Rattle.iss_model.specs.declared.call.CallId.{CallId}
use Rattle.iss_model.specs.declared.call.How.{How}
use Rattle.iss_model.specs.declared.call.Opened.{Opened}
use Rattle.iss_model.specs.declared.decision.Verdict.{Verdict}
use Rattle.iss_model.specs.declared.entry.Entry.{Entry}
use Rattle.iss_model.specs.declared.entry.Entry.TheVariants as entry
use Rattle.iss_model.specs.declared.txn.Txn.{Txn}
use Rattle.iss_model.specs.rules.Activity.{TxnNow, CallNow, txn_named, call_numbered}
use Rattle.iss_model.specs.rules.Asks.{is_authorization}
use Rattle.iss_model.specs.rules.Facts.{Decision}
use Rattle.iss_model.specs.rules.Reasons.{is_some_with}
use Rattle.iss_model.specs.state.Cores.{is_live, txn_after_end}
use Rattle.iss_model.proofs.Lists.{neither}
use Rattle.iss_model.proofs.Names.{one_name, same_name}
use Rattle.iss_state.proofs.effects.Finds.{find-map, found_passes, number_is}
use Rattle.iss_state.specs.Numbers.{CallsNumberedFrom}
use Rattle.iss_state.specs.Allowed.{IsAllowed, MayDecide, MayOpen, is_of_known}
use Rattle.iss_state.specs.Dockets.{Docket, docket_after}
use Rattle.iss_state.specs.Well.{AreWellCalls, HaveOwnEvents, HaveOwnTokens, IsAsked, IsWellAmong, Known, NoneAskedOf, has_live, is_decided}
use Rattle.iss_state.proofs.docket.Closing.{asked_before, numbered_after, opened_before}
use Rattle.iss_state.proofs.docket.Lists.{by_either, either_found, mapped_is, not_both, some_mapped}

-- a call is closed ----

closed_well : (known : Known) (d : Docket) (call : CallId) (how : How) → IsWellAmong known d → IsWellAmong known (docket_after d (entry.Closed call how))
closed_well known d call how well =
    let k : ℕ = call.0 in
    record {
      calls = record {
        numbers = numbered_after 1 k how d.calls well.calls.numbers;
        once = λ n m c e x y same.
            let a = opened_before d.calls k how n c x in
            let b = opened_before d.calls k how m e y in
            well.calls.once n m a.0 b.0 a.1 b.1 (ap (λ (o : Opened). o.event) a.2 ∙ same ∙ ap (λ (o : Opened). o.event) (sym b.2));
        alone = λ n m c e x y. well.calls.alone n m c e (asked_before d.calls k how n c x).0 (asked_before d.calls k how m e y).0;
        events = λ n c x.
            let a = opened_before d.calls k how n c x in
            ap (λ (o : Opened). known.events o.event) (sym a.2) ∙ well.calls.events n a.0 a.1;
      };
      txns = well.txns;
      decisions = well.decisions;
      live = λ n c now. well.live n c (asked_before d.calls k how n c now).0;
      waits = λ n c now. well.waits n c (asked_before d.calls k how n c now).0;
    }

-- an event is decided ----

pub decided_more : (ds : List Decision) (x : Decision) (event : List ℕ) → is_decided (ds ++ x ∷ []) event ≡ (is_decided ds event || (bytes_eq x.event event || false))
decided_more ds x event = list_any-append (λ (x : Decision). bytes_eq x.event event) ds (x ∷ [])

-- names that differ
pub apart : (a b : List ℕ) → (a ≡ b → ⊥) → bytes_eq a b ≡ false
apart a b h = false_from_ne_true (bytes_eq a b) (λ e. h (one_name a b e))

one_of : (a b : Bool) → (a || (b || false)) ≡ true → (a ≡ true) ⊎ (b ≡ true)
one_of true b h = inl refl
one_of false true h = inr refl
one_of false false h = cc

neither_of : (a b : Bool) → a ≡ false → b ≡ false → (a || (b || false)) ≡ false
neither_of true b h k = cc
neither_of false true h k = cc
neither_of false false h k = refl

-- an event that isn't decided stays so when another one is
pub undecided_still : (ds : List Decision) (x : Decision) (event : List ℕ) → is_decided ds event ≡ false → (x.event ≡ event → ⊥)
    → is_decided (ds ++ x ∷ []) event ≡ false
undecided_still ds x event h other =
    decided_more ds x event ∙ neither_of (is_decided ds event) (bytes_eq x.event event) h (apart x.event event other)

own_events_more : (ds : List Decision) (x : Decision) → HaveOwnEvents ds → is_decided ds x.event ≡ false → HaveOwnEvents (ds ++ x ∷ [])
own_events_more [] x h none = (refl, tt)
own_events_more (y ∷ ys) x h none =
    let parts = neither (bytes_eq y.event x.event) (is_decided ys x.event) none in (
      undecided_still ys x y.event h.0 (λ e. not_both (bytes_eq y.event x.event) (same_name y.event x.event (sym e)) parts.0),
      own_events_more ys x h.1 parts.1,
    )

decided_well : (known : Known) (d : Docket) (event : List ℕ) (verdict : Verdict) → known.events event ≡ true → MayDecide d event → IsWellAmong known d
    → IsWellAmong known (docket_after d (entry.Decided event verdict))
decided_well known d event verdict its may well =
    let x : Decision = record { event = event; verdict = verdict } in
    record {
      calls = well.calls;
      txns = well.txns;
      decisions = record {
        once = own_events_more d.decisions x well.decisions.once may.undecided;
        events = λ other h.
            by_either (well.decisions.events other) (λ e. ap known.events (sym (one_name event other e)) ∙ its)
            (one_of (is_decided d.decisions other) (bytes_eq event other) (sym (decided_more d.decisions x other) ∙ h));
      };
      live = well.live;
      waits = λ n c now. undecided_still d.decisions x c.opened.event (well.waits n c now) (λ e. may.none_asked n c now (sym e));
    }

-- a transaction ends ----

pub same_txn : (token : List ℕ) (t : TxnNow) → (txn_after_end token t).txn ≡ t.txn
same_txn token t = by (bytes_eq token t.txn.token)
  where
    by : (b : Bool) → (cond b (record t { live = false }) t).txn ≡ t.txn
    by true = refl
    by false = refl

txn_ended : (token k : List ℕ) (txns : List TxnNow) → txn_named k (map (txn_after_end token) txns) ≡ option_map (txn_after_end token) (txn_named k txns)
txn_ended token k txns =
    find-map (λ (t : TxnNow). bytes_eq t.txn.token k) (λ (t : TxnNow). bytes_eq t.txn.token k) (txn_after_end token)
    (λ t. ap (λ (x : Txn). bytes_eq x.token k) (same_txn token t)) txns

live_so : (token k : List ℕ) (o : Option TxnNow) → ((t : TxnNow) → o ≡ Some t → bytes_eq token t.txn.token ≡ false)
    → is_some_with (λ t. t.live) (option_map (txn_after_end token) o) ≡ is_some_with (λ t. t.live) o
live_so token k None h = refl
live_so token k (Some t) h = ap (λ (b : Bool). (cond b (record t { live = false }) t).live) (h t refl)

-- another transaction is live as before
live_ended : (token k : List ℕ) (txns : List TxnNow) → bytes_eq token k ≡ false → has_live (map (txn_after_end token) txns) k ≡ has_live txns k
live_ended token k txns other =
    ap (is_some_with (λ (t : TxnNow). t.live)) (txn_ended token k txns)
    ∙ live_so token k (txn_named k txns)
    (λ t e. ap (bytes_eq token) (one_name t.txn.token k (found_passes (λ (t : TxnNow). bytes_eq t.txn.token k) txns t e)) ∙ other)

tokens_ended : (token : List ℕ) (txns : List TxnNow) → HaveOwnTokens txns → HaveOwnTokens (map (txn_after_end token) txns)
tokens_ended token [] h = tt
tokens_ended token (t ∷ ts) h = (
  ap (λ (x : Txn). txn_named x.token (map (txn_after_end token) ts)) (same_txn token t)
      ∙ txn_ended token t.txn.token ts ∙ ap (option_map (txn_after_end token)) h.0,
  tokens_ended token ts h.1,
)

ended_well : (known : Known) (d : Docket) (token : List ℕ) → NoneAskedOf d.calls token → IsWellAmong known d → IsWellAmong known (docket_after d (entry.Ended token))
ended_well known d token none well =
    record {
      calls = well.calls;
      txns = record {
        tokens = tokens_ended token d.txns well.txns.tokens;
        events = λ k h. well.txns.events k (sym (some_mapped (txn_after_end token) (txn_named k d.txns)) ∙ ap is_some (sym (txn_ended token k d.txns)) ∙ h);
        products = λ k t e.
            let was = mapped_is (txn_after_end token) (txn_named k d.txns) t (sym (txn_ended token k d.txns) ∙ e) in
            ap (λ (x : Txn). known.products x.product) (ap (λ (u : TxnNow). u.txn) (sym was.2) ∙ same_txn token was.0) ∙ well.txns.products k was.0 was.1;
      };
      decisions = well.decisions;
      live = λ n c now. live_ended token c.opened.txn d.txns (apart token c.opened.txn (λ e. none n c now (sym e))) ∙ well.live n c now;
      waits = well.waits;
    }

-- a transaction begins ----

pub txn_more : (k : List ℕ) (txns : List TxnNow) (t : TxnNow)
    → txn_named k (txns ++ t ∷ []) ≡ option_or (txn_named k txns) (cond (bytes_eq t.txn.token k) (Some t) None)
txn_more k txns t = find-append (λ (t : TxnNow). bytes_eq t.txn.token k) txns (t ∷ [])

live_or : (o more : Option TxnNow) → is_some_with (λ t. t.live) o ≡ true → is_some_with (λ t. t.live) (option_or o more) ≡ true
live_or None more h = cc
live_or (Some t) more h = h

some_or : (o : Option TxnNow) (b : Bool) (t : TxnNow) → is_some (option_or o (cond b (Some t) None)) ≡ true → (is_some o ≡ true) ⊎ (b ≡ true)
some_or (Some x) b t h = inl refl
some_or None true t h = inr refl
some_or None false t h = cc

head_none : (b : Bool) (t : TxnNow) (o : Option TxnNow) → cond b (Some t) o ≡ None → (b ≡ false) × (o ≡ None)
head_none true t o h = cc
head_none false t o h = (refl, h)

pub apart_too : (a b : List ℕ) → bytes_eq a b ≡ false → bytes_eq b a ≡ false
apart_too a b h = apart b a (λ e. let yes : bytes_eq a b ≡ true = same_name a b (sym e) in cc)

tokens_more : (txns : List TxnNow) (t : TxnNow) → HaveOwnTokens txns → txn_named t.txn.token txns ≡ None → HaveOwnTokens (txns ++ t ∷ [])
tokens_more [] t h none = (refl, tt)
tokens_more (x ∷ xs) t h none =
    let parts = head_none (bytes_eq x.txn.token t.txn.token) x (txn_named t.txn.token xs) none in (
      txn_more x.txn.token xs t
          ∙ ap (λ (o : Option TxnNow). option_or o (cond (bytes_eq t.txn.token x.txn.token) (Some t) None)) h.0
          ∙ ap (λ (b : Bool). option_or None (cond b (Some t) None)) (apart_too x.txn.token t.txn.token parts.0),
      tokens_more xs t h.1 parts.1,
    )

began_well : (known : Known) (d : Docket) (t : Txn) → known.events t.token ≡ true → known.products t.product ≡ true → txn_named t.token d.txns ≡ None
    → IsWellAmong known d
    → IsWellAmong known (docket_after d (entry.Began t))
began_well known d t its its_product none well =
    let x : TxnNow = record { txn = t; live = is_live d.txns t.token } in
    record {
      calls = well.calls;
      txns = record {
        tokens = tokens_more d.txns x well.txns.tokens none;
        events = λ k h.
            by_either (well.txns.events k) (λ e. ap known.events (sym (one_name t.token k e)) ∙ its)
            (some_or (txn_named k d.txns) (bytes_eq t.token k) x (ap is_some (sym (txn_more k d.txns x)) ∙ h));
        products = λ k u e.
            by_either (λ old. well.txns.products k u old) (λ new. ap (λ (u : TxnNow). known.products u.txn.product) (sym new.1) ∙ its_product)
            (either_found (txn_named k d.txns) x u (bytes_eq t.token k) (sym (txn_more k d.txns x) ∙ e));
      };
      decisions = well.decisions;
      live = λ n c now.
          ap (is_some_with (λ (t : TxnNow). t.live)) (txn_more c.opened.txn d.txns x)
          ∙ live_or (txn_named c.opened.txn d.txns) (cond (bytes_eq t.token c.opened.txn) (Some x) None) (well.live n c now);
      waits = well.waits;
    }

-- a call is opened ----

pub call_more : (n : ℕ) (calls : List CallNow) (c : CallNow)
    → call_numbered n (calls ++ c ∷ []) ≡ option_or (call_numbered n calls) (cond (nat_eq c.opened.call.0 n) (Some c) None)
call_more n calls c = find-append (λ (c : CallNow). nat_eq c.opened.call.0 n) calls (c ∷ [])

new_or_old : (calls : List CallNow) (x : CallNow) (n : ℕ) (c : CallNow) → call_numbered n (calls ++ x ∷ []) ≡ Some c
    → (call_numbered n calls ≡ Some c) ⊎ ((nat_eq x.opened.call.0 n ≡ true) × (x ≡ c))
new_or_old calls x n c e = either_found (call_numbered n calls) x c (nat_eq x.opened.call.0 n) (sym (call_more n calls x) ∙ e)

numbered_more : (n : ℕ) (calls : List CallNow) (c : CallNow) → CallsNumberedFrom n calls → c.opened.call.0 ≡ n + length calls → CallsNumberedFrom n (calls ++ c ∷ [])
numbered_more n [] c h e = (omega (arith, e), tt)
numbered_more n (x ∷ xs) c h e = (h.0, numbered_more (n + 1) xs c h.1 (omega (arith, e)))

-- an asked call of the longer list was asked before, or is the new one
asked_new_or_old : (calls : List CallNow) (x : CallNow) (n : ℕ) (c : CallNow) → IsAsked (calls ++ x ∷ []) n c
    → IsAsked calls n c ⊎ ((nat_eq x.opened.call.0 n ≡ true) × (x ≡ c))
asked_new_or_old calls x n c now =
    by_either (λ old. inl (record { stands = old; asked = now.asked })) (λ new. inr new) (new_or_old calls x n c now.stands)

opened_calls : (known : Known) (d : Docket) (o : Opened) → known.events o.event ≡ true → MayOpen d o → AreWellCalls known d.calls
    → AreWellCalls known (d.calls ++ record { opened = o; how = None } ∷ [])
opened_calls known d o its may well =
    let x : CallNow = record { opened = o; how = None } in
    record {
      numbers = numbered_more 1 d.calls x well.numbers (omega (arith, may.number));
      once = λ n m c e now then same.
          by_either
          (λ old. by_either (λ older. well.once n m c e old older same)
          (λ newer. absurd (may.none_opened n c old (same ∙ ap (λ (c : CallNow). c.opened.event) (sym newer.1))))
          (new_or_old d.calls x m e then))
          (λ new. by_either
          (λ older. absurd (may.none_opened m e older (sym same ∙ ap (λ (c : CallNow). c.opened.event) (sym new.1))))
          (λ newer. sym (number_is o.call.0 n new.0) ∙ number_is o.call.0 m newer.0)
          (new_or_old d.calls x m e then))
          (new_or_old d.calls x n c now);
      alone = λ n m c e now then same first.
          by_either
          (λ old. by_either (λ older. well.alone n m c e old older same first)
          (λ newer. absurd (may.none_pending n c old (same ∙ ap (λ (c : CallNow). c.opened.txn) (sym newer.1)) first))
          (asked_new_or_old d.calls x m e then))
          (λ new. by_either
          (λ older. absurd (may.alone (ap (λ (c : CallNow). is_authorization c.opened.method) new.1 ∙ first) m e older (sym same ∙ ap (λ (c : CallNow). c.opened.txn) (sym new.1))))
          (λ newer. sym (number_is o.call.0 n new.0) ∙ number_is o.call.0 m newer.0)
          (asked_new_or_old d.calls x m e then))
          (asked_new_or_old d.calls x n c now);
      events = λ n c now.
          by_either (λ old. well.events n c old) (λ new. ap (λ (c : CallNow). known.events c.opened.event) (sym new.1) ∙ its)
          (new_or_old d.calls x n c now);
    }

opened_well : (known : Known) (d : Docket) (o : Opened) → known.events o.event ≡ true → MayOpen d o → IsWellAmong known d
    → IsWellAmong known (docket_after d (entry.Opened o))
opened_well known d o its may well =
    let x : CallNow = record { opened = o; how = None } in
    record {
      calls = opened_calls known d o its may well.calls;
      txns = well.txns;
      decisions = well.decisions;
      live = λ n c now.
          by_either (λ old. well.live n c old) (λ new. ap (λ (c : CallNow). has_live d.txns c.opened.txn) (sym new.1) ∙ may.its_live)
          (asked_new_or_old d.calls x n c now);
      waits = λ n c now.
          by_either (λ old. well.waits n c old) (λ new. ap (λ (c : CallNow). is_decided d.decisions c.opened.event) (sym new.1) ∙ may.undecided)
          (asked_new_or_old d.calls x n c now);
    }

-- each entry ----

pub entry_well : (known : Known) (d : Docket) (e : Entry) → IsAllowed d e → is_of_known known e ≡ true → IsWellAmong known d → IsWellAmong known (docket_after d e)
entry_well known d (entry.Began t) allowed its well =
    let parts = and_parts (known.events t.token) (known.products t.product) its in
    began_well known d t parts.0 parts.1 allowed well
entry_well known d (entry.Opened o) allowed its well = opened_well known d o its allowed well
entry_well known d (entry.Closed call how) allowed its well = closed_well known d call how well
entry_well known d (entry.Decided event verdict) allowed its well = decided_well known d event verdict its allowed well
entry_well known d (entry.Ended txn) allowed its well = ended_well known d txn allowed.none_asked well
entry_well known d _ allowed its well = well
