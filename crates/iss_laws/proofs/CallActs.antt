-- Each act has a notice for each call that it fails or abandons, and only an authorisation or an increment opens a call.
use Rattle.std.proofs.Common.{◌≡◌, ℕ, ◌+◌, Bool, true, false, not, cond, ◌&&◌, nat_eq, List, [], ◌∷◌, ◌++◌, refl, sym, ap, ap₂, ◌∙◌}
use Rattle.std.specs.Prelude.{Option, Some, None, is_none, is_some}
use Rattle.std.specs.List.{list_all}
use Rattle.std.proofs.lemmas.Bool.{and_parts, false_from_ne_true}
use Rattle.std.proofs.lemmas.List.Folds.{list_all-append}
use Rattle.iss_model.specs.declared.account.Account.TheVariants as account
use Rattle.iss_model.specs.declared.account.Part.TheVariants as part
use Rattle.iss_model.specs.declared.call.CallId.{CallId}
use Rattle.iss_model.specs.declared.call.How.{How}
use Rattle.iss_model.specs.declared.call.How.TheVariants as how
use Rattle.iss_model.specs.declared.call.Opened.{Opened}
use Rattle.iss_model.specs.declared.decision.Verdict.TheVariants as verdict
use Rattle.iss_model.specs.declared.entry.Entry.{Entry}
use Rattle.iss_model.specs.declared.entry.Entry.TheVariants as entry
use Rattle.iss_model.specs.declared.txn.Txn.{Txn}
use Rattle.iss_model.specs.declared.input.Input.TheVariants as input
use Rattle.iss_model.specs.rules.Asks.{rest_given_back}
use Rattle.iss_model.specs.rules.Facts.{Facts}
use Rattle.iss_model.specs.rules.Activity.{CallNow}
use Rattle.iss_model.specs.declared.decision.Reason.{Reason}
use Rattle.iss_model.specs.rules.Pieces.{abandoned_call_entries, abandoned_calls_entries, user_account}
use Rattle.iss_acts.specs.Causes.{may_act, Cause, ComesOf, FallsDue, seeks_funding}
use Rattle.iss_model.specs.rules.Acts.{Abandons, Act, Asks, Fails, Funds, FundsPart, News, Refuses, act_entries, captured, expired, news_method, refunded, reversed}
use Rattle.iss_acts.specs.Items.{Closing, FromGateway, FromNetwork, FromProgramme, Item, Opening, Paying, Payment, Telling, ToGateway, ToNetwork, ToProgramme, Voiding, item_entry, may_close, has_item, may_open_call, may_pay, may_void, payer}
use Rattle.iss_acts.proofs.Passing.{EachPasses, act_passes, hold_passes}
use Rattle.iss_acts.proofs.Walk.{Holds, each_item}
use Rattle.iss_state.proofs.docket.Lists.{both_so, not_both}
use Rattle.iss_laws.specs.CallEntries.{closes_void, is_call, is_void_method, may_open, names_what_it_voids, opens_none, times_among, voids}
use Rattle.iss_laws.specs.Pairs.{is_gateway}
use Rattle.iss_laws.proofs.CallCounting.{among_append}

-- as many void notices of a call as closings that want one, and a notice names a call exactly if it is void
pub record Voids (n : ℕ) (es : List Entry) : Type 0 where
  pub voided : times_among (voids n) es ≡ times_among (closes_void n) es
  pub told : list_all names_what_it_voids es ≡ true

pub both_void : {n : ℕ} {xs ys : List Entry} → Voids n xs → Voids n ys → Voids n (xs ++ ys)
both_void {n} {xs} {ys} h k =
    record {
      voided = among_append (voids n) xs ys ∙ ap₂ (λ (a b : ℕ). a + b) h.voided k.voided ∙ sym (among_append (closes_void n) xs ys);
      told = list_all-append names_what_it_voids xs ys ∙ ap₂ (λ (a b : Bool). a && b) h.told k.told;
    }

none_void : {n : ℕ} → Voids n []
none_void = record { voided = refl; told = refl }

-- calm entries: none closes a call but as refused, none opens or names one, and none posts from the gateway ----

abbrev pub is_calm : Entry → Bool
is_calm (entry.Opened o) = false
is_calm (entry.Closed call how.Funded) = false
is_calm (entry.Closed call (how.Partial amount)) = false
is_calm (entry.Closed call how.Refused) = true
is_calm (entry.Closed call (how.Failed why)) = false
is_calm (entry.Closed call how.Abandoned) = false
is_calm (entry.Notice notice) = is_none notice.call && not (is_void_method notice.method)
is_calm (entry.Post from to amount txn) = not (is_gateway from)
is_calm _ = true

calm_news : (news : News) → not (is_void_method (news_method news)) ≡ true
calm_news reversed = refl
calm_news captured = refl
calm_news refunded = refl
calm_news expired = refl

-- an act neither asks nor funds, fails or abandons a call
abbrev pub is_calm_act : Act → Bool
is_calm_act (Asks f product ask) = false
is_calm_act (Funds o t) = false
is_calm_act (FundsPart o t amount) = false
is_calm_act (Fails number o t why) = false
is_calm_act (Abandons number t why calls parts) = false
is_calm_act _ = true

opens_no_call : {P : Type 0} (a : Act) → is_calm_act a ≡ true → may_open_call a ≡ true → P
opens_no_call (Asks f product ask) h may = cc
opens_no_call _ h may = cc

voids_no_call : {P : Type 0} (a : Act) → is_calm_act a ≡ true → may_void a ≡ true → P
voids_no_call (Fails number o t why) h may = cc
voids_no_call (Abandons number t why calls parts) h may = cc
voids_no_call _ h may = cc

calm_closing : (a : Act) → is_calm_act a ≡ true → (call : CallId) (w : How) → may_close a w ≡ true → is_calm (entry.Closed call w) ≡ true
calm_closing (Refuses o t) h call how.Refused may = refl
calm_closing _ h call w may = cc

calm_paying : (a : Act) → is_calm_act a ≡ true → (k : Payment) → may_pay a k ≡ true → (t : Txn) → not (is_gateway (payer k t)) ≡ true
calm_paying (Funds o u) h FromGateway may t = cc
calm_paying (FundsPart o u amount) h FromGateway may t = cc
calm_paying _ h FromGateway may t = cc
calm_paying _ h FromProgramme may t = refl
calm_paying _ h FromNetwork may t = refl
calm_paying _ h ToProgramme may t = refl
calm_paying _ h ToGateway may t = refl
calm_paying _ h ToNetwork may t = refl

calm_item : (a : Act) → is_calm_act a ≡ true → (x : Item) → has_item a x ≡ true → is_calm (item_entry x) ≡ true
calm_item a h (Opening o) may = opens_no_call a h may
calm_item a h (Closing call w) may = calm_closing a h call w may
calm_item a h (Voiding number t o) may = voids_no_call a h may
calm_item a h (Paying k t amount) may = calm_paying a h k may t
calm_item a h (Telling number news t amount gateway) may = calm_news news
calm_item a h _ may = refl

-- the entries of a calm act are calm
pub calm_act : (a : Act) → is_calm_act a ≡ true → EachPasses is_calm (act_entries a)
calm_act a h = act_passes a (calm_item a h)

-- a calm entry neither voids nor closes a call as void, and names no call but with a void notice
record IsCalm (n : ℕ) (e : Entry) : Type 0 where
  voids_none : voids n e ≡ false
  closes_none : closes_void n e ≡ false
  told : names_what_it_voids e ≡ true

no_void : (b : Bool) → (b && false) ≡ false
no_void true = refl
no_void false = refl

names_none : (n : ℕ) (o : Option CallId) (void : Bool) → (is_none o && not void) ≡ true → ((is_call n o && void) ≡ false) × (cond void (is_some o) (is_none o) ≡ true)
names_none n None true h = cc
names_none n None false h = (refl, refl)
names_none n (Some call) void h = cc

calm_entry : (n : ℕ) (e : Entry) → is_calm e ≡ true → IsCalm n e
calm_entry n (entry.Opened o) h = cc
calm_entry n (entry.Closed call how.Funded) h = cc
calm_entry n (entry.Closed call (how.Partial amount)) h = cc
calm_entry n (entry.Closed call how.Refused) h = record { voids_none = refl; closes_none = no_void (nat_eq call.0 n); told = refl }
calm_entry n (entry.Closed call (how.Failed why)) h = cc
calm_entry n (entry.Closed call how.Abandoned) h = cc
calm_entry n (entry.Notice notice) h =
    let none = names_none n notice.call (is_void_method notice.method) h in
    record { voids_none = none.0; closes_none = refl; told = none.1 }
calm_entry n _ h = record { voids_none = refl; closes_none = refl; told = refl }

calm_voids : {n : ℕ} (es : List Entry) → list_all is_calm es ≡ true → Voids n es
calm_voids [] h = none_void
calm_voids {n} (e ∷ es) h =
    let parts = and_parts (is_calm e) (list_all is_calm es) h in
    let first : IsCalm n e = calm_entry n e parts.0 in
    let rest : Voids n es = calm_voids es parts.1 in
    record {
      voided = ap₂ (λ (b : Bool) (m : ℕ). cond b 1 0 + m) first.voids_none rest.voided
          ∙ ap (λ (b : Bool). cond b 1 0 + times_among (closes_void n) es) (sym first.closes_none);
      told = both_so (names_what_it_voids e) (list_all names_what_it_voids es) first.told rest.told;
    }

-- notices of closings, act by act ----

funds_void : {n : ℕ} (o : Opened) (t : Txn) → Voids n (act_entries (Funds o t))
funds_void {n} o t =
    both_void {xs = entry.Closed o.call how.Funded ∷ []} (record { voided = none (nat_eq o.call.0 n); told = refl })
    (both_void (both_void (posted (nat_eq o.amount 0)) (calm_voids _ (hold_passes {p = is_calm} t part.G o.amount refl).all)) (calm_voids (entry.Decided o.event verdict.Approved ∷ []) refl))
  where
    none : (b : Bool) → 0 + 0 ≡ cond (b && false) 1 0 + 0
    none true = refl
    none false = refl

    posted : (b : Bool) → Voids n (cond b [] (entry.Post (account.Gateway t.currency) (user_account t) o.amount (Some t.token) ∷ []))
    posted true = none_void
    posted false = record { voided = refl; told = refl }

part_void : {n : ℕ} (o : Opened) (t : Txn) (amount : ℕ) → Voids n (act_entries (FundsPart o t amount))
part_void {n} o t amount =
    both_void {xs = entry.Closed o.call (how.Partial amount) ∷ []} (record { voided = none (nat_eq o.call.0 n); told = refl })
    (both_void (calm_voids (entry.Usage (rest_given_back o t amount) ∷ []) refl)
    (both_void (both_void (posted (nat_eq amount 0)) (calm_voids _ (hold_passes {p = is_calm} t part.G amount refl).all)) (calm_voids (entry.Decided o.event (verdict.Partial t.currency amount) ∷ []) refl)))
  where
    none : (b : Bool) → 0 + 0 ≡ cond (b && false) 1 0 + 0
    none true = refl
    none false = refl

    posted : (b : Bool) → Voids n (cond b [] (entry.Post (account.Gateway t.currency) (user_account t) amount (Some t.token) ∷ []))
    posted true = none_void
    posted false = record { voided = refl; told = refl }

abandoned_void : {n : ℕ} (number : ℕ) (t : Txn) (why : Reason) (calls : List CallNow) → Voids n (abandoned_calls_entries number t why calls)
abandoned_void number t why [] = none_void
abandoned_void {n} number t why (c ∷ calls) = both_void one (abandoned_void (number + 1) t why calls)
  where
    voided : (b : Bool) → 0 + (cond (b && true) 1 0 + (0 + (0 + 0))) ≡ cond (b && true) 1 0 + (0 + (0 + (0 + 0)))
    voided true = refl
    voided false = refl

    one : Voids n (abandoned_call_entries number t why c.opened)
    one = record { voided = voided (nat_eq c.opened.call.0 n); told = refl }

act_voids : {n : ℕ} (a : Act) → Voids n (act_entries a)
act_voids (Asks f product ask) = record { voided = refl; told = refl }
act_voids (Funds o t) = funds_void o t
act_voids (FundsPart o t amount) = part_void o t amount
act_voids {n} (Fails number o t why) = record { voided = voided (nat_eq o.call.0 n); told = refl }
  where
    voided : (b : Bool) → 0 + (cond (b && true) 1 0 + 0) ≡ cond (b && true) 1 0 + (0 + 0)
    voided true = refl
    voided false = refl
act_voids (Abandons number t why calls parts) = abandoned_void number t why calls
act_voids a = calm_voids (act_entries a) (calm_act a refl).all

pub all_void : {n : ℕ} {f : Facts} {by : Cause} {at : ℕ} → Holds f by at (Voids n)
all_void = record { none = none_void; then = both_void; act = λ g a made. act_voids a }

-- calls opened ----

-- the cause seeks funding, and so may open a call
abbrev pub may_seek : Cause → Bool
may_seek FallsDue = false
may_seek (ComesOf i) = may_open i

opens_as_it_seeks : (by : Cause) → seeks_funding by ≡ true → may_seek by ≡ true
opens_as_it_seeks (ComesOf (input.Authorization token card currency amount mcc mid partial)) h = refl
opens_as_it_seeks (ComesOf (input.Increment token txn currency amount)) h = refl
opens_as_it_seeks _ h = cc

may_open_as_made : (by : Cause) (a : Act) → may_act by a ≡ true → may_open_call a ≡ true → may_seek by ≡ true
may_open_as_made by (Asks f product ask) cause opens = opens_as_it_seeks by cause
may_open_as_made by _ cause opens = cc

item_opens_none : (a : Act) → may_open_call a ≡ false → (x : Item) → has_item a x ≡ true → opens_none (item_entry x) ≡ true
item_opens_none a none (Opening o) may = not_both (may_open_call a) may none
item_opens_none a none _ may = refl

-- an act that asks nothing opens no call
pub act_opens_none : (a : Act) → may_open_call a ≡ false → list_all opens_none (act_entries a) ≡ true
act_opens_none a none = (act_passes a (item_opens_none a none)).all

-- an act whose cause doesn't seek funding opens no call
pub all_open_none : {f : Facts} {at : ℕ} (by : Cause) → may_seek by ≡ false → Holds f by at (EachPasses opens_none)
all_open_none by other =
    each_item (λ g a made. item_opens_none a (false_from_ne_true (may_open_call a) (λ opens. not_both (may_seek by) (may_open_as_made by a made.cause opens) other)))
