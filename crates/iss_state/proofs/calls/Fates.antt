-- What becomes of an asked call by what is due.
use Rattle.std.proofs.Common.{◌≡◌, ℕ, ◌+◌, Bool, true, false, cond, ◌&&◌, ◌||◌, nat_eq, List, [], ◌∷◌, ◌++◌, fold, refl, sym, ap, subst, ◌∙◌}
use Rattle.std.specs.Prelude.{Option, Some, None}
use Rattle.std.specs.List.{list_any}
use Rattle.std.specs.Option.{option_or}
use Rattle.std.specs.Str.{bytes_eq}
use Rattle.std.proofs.lemmas.Bool.{false_from_ne_true}
use Rattle.std.proofs.lemmas.List.Sums.{fold-append}
use Rattle.iss_model.specs.declared.call.Failure.{Failure}
use Rattle.iss_model.specs.declared.call.Failure.TheVariants as failure
use Rattle.iss_model.specs.declared.call.How.{How}
use Rattle.iss_model.specs.declared.call.How.TheVariants as how
use Rattle.iss_model.specs.declared.call.Opened.{Opened}
use Rattle.iss_model.specs.declared.decision.Reason.{Reason}
use Rattle.iss_model.specs.declared.decision.Reason.TheVariants as reason
use Rattle.iss_model.specs.declared.decision.Verdict.TheVariants as verdict
use Rattle.iss_model.specs.declared.entry.Entry.{Entry}
use Rattle.iss_model.specs.declared.entry.Entry.TheVariants as entry
use Rattle.iss_model.specs.declared.txn.Txn.{Txn}
use Rattle.iss_model.specs.rules.Activity.{CallNow, call_numbered, is_asked}
use Rattle.iss_model.specs.rules.Acts.{Act, entries_of_acts}
use Rattle.iss_model.specs.rules.Asks.{Ask, call_ask}
use Rattle.iss_model.specs.rules.CardActs.{failed_acts, stand_acts}
use Rattle.iss_model.specs.rules.Due.{DueThing, call_due, DueItem, expiry_acts, thing_acts, txn_due, thing_entries}
use Rattle.iss_model.specs.rules.Facts.{Facts, next_notice}
use Rattle.iss_model.specs.rules.Pieces.{failure_reason}
use Rattle.iss_model.specs.rules.StandIns.{Stand, allowed, over_limit, stand, uncovered}
use Rattle.iss_model.specs.rules.Keeper.{Growth}
use Rattle.iss_model.specs.rules.Stepping.{settle}
use Rattle.iss_model.specs.state.Cores.{CoreState, core_facts, call_after_close, core_keeper, after_entry}
use Rattle.iss_model.proofs.Lists.{neither}
use Rattle.iss_model.proofs.Names.{one_name}
use Rattle.iss_acts.proofs.Stepping.{settled_stays}
use Rattle.iss_state.proofs.effects.Finds.{number_is}
use Rattle.iss_state.specs.Numbers.{CallsNumberedFrom}
use Rattle.iss_state.specs.Dockets.{Docket, docket_after, docket_of}
use Rattle.iss_state.specs.Well.{IsAsked, IsWellAmong, Known, has_live}
use Rattle.iss_state.proofs.docket.Abandoning.{after_closing, asked_in, closings_none}
use Rattle.iss_state.proofs.docket.Closing.{calls_lone, its_number, other_stays, own_closed, same_opened, stands_after, stays_closed}
use Rattle.iss_state.proofs.docket.Docketed.{acts_docketed, closings, docketed_by, turned_down}
use Rattle.iss_state.proofs.docket.Entering.{apart_too, call_more}
use Rattle.iss_state.proofs.docket.Lists.{any_filtered, inside, lone_any, not_both}
use Rattle.iss_state.proofs.calls.Due.{expiry_docketed, its_token, if_asked, if_expired}
use Rattle.iss_state.proofs.calls.Staying.{comes_to, entries_docket}
use Rattle.iss_state.proofs.calls.Steps.{thing_well}

-- a closed call stays as it is ----

pub closed_stays : (docket : Docket) (e : Entry) (n : ℕ) (c : CallNow) → call_numbered n docket.calls ≡ Some c → is_asked c ≡ false
    → call_numbered n (docket_after docket e).calls ≡ Some c
closed_stays docket (entry.Opened o) n c stands closed =
    let x : CallNow = record { opened = o; how = None } in
    call_more n docket.calls x ∙ ap (λ (d : Option CallNow). option_or d (cond (nat_eq o.call.0 n) (Some x) None)) stands
closed_stays docket (entry.Closed call how) n c stands closed =
    stands_after docket.calls call.0 how n c stands ∙ ap (λ (d : CallNow). Some d) (stays_closed call.0 how c closed)
closed_stays docket (entry.Began t) n c stands closed = stands
closed_stays docket _ n c stands closed = stands

pub all_closed_stay : (es : List Entry) (docket : Docket) (n : ℕ) (c : CallNow) → call_numbered n docket.calls ≡ Some c → is_asked c ≡ false
    → call_numbered n (fold docket_after docket es).calls ≡ Some c
all_closed_stay [] docket n c stands closed = stands
all_closed_stay (e ∷ es) docket n c stands closed = all_closed_stay es (docket_after docket e) n c (closed_stays docket e n c stands closed) closed

pub entries_leave_closed : (s : CoreState) (es : List Entry) (n : ℕ) (c : CallNow) → call_numbered n s.calls ≡ Some c → is_asked c ≡ false
    → call_numbered n (fold after_entry s es).calls ≡ Some c
entries_leave_closed s es n c stands closed =
    ap (λ (docket : Docket). call_numbered n docket.calls) (entries_docket s es) ∙ all_closed_stay es (docket_of s) n c stands closed

-- a call is closed ----

turned_calls : (docket : Docket) (ask : Ask) (why : Reason) → (fold docket_after docket (turned_down ask why ++ [])).calls ≡ docket.calls
turned_calls docket ask why = by ask.is_first
  where
    by : (b : Bool) → (fold docket_after docket ((cond b (entry.Ended ask.txn.token ∷ []) [] ++ entry.Decided ask.event (verdict.Declined why) ∷ []) ++ [])).calls ≡ docket.calls
    by true = refl
    by false = refl

-- what sets say of an ask leaves the calls as they are
stood_calls : (docket : Docket) (x : Stand) (number : ℕ) (ask : Ask) (why : Failure) (at : ℕ) → (fold docket_after docket (docketed_by (stand_acts x number ask why at))).calls ≡ docket.calls
stood_calls docket (allowed set) number ask why at = refl
stood_calls docket (over_limit set) number ask why at = turned_calls docket ask (reason.StandInLimit set.name)
stood_calls docket uncovered number ask why at = turned_calls docket ask (failure_reason why)

-- which call a due thing closes ----

-- a due thing closes the call n of the transaction k, if that is asked
abbrev pub hits : ℕ → List ℕ → DueThing → Bool
hits n k (call_due number) = nat_eq number n
hits n k (txn_due token) = bytes_eq token k

-- what becomes of a call
pub record Fate (calls : List CallNow) (n : ℕ) (c : CallNow) (hit : Bool) : Type 0 where
  pub now : CallNow
  pub stands : call_numbered n calls ≡ Some now
  pub closed : hit ≡ true → is_asked now ≡ false
  pub left : hit ≡ false → now ≡ c

-- the fate of a call, as acts leave it on the docket
abbrev FateBy : CoreState → ℕ → CallNow → Bool → List Act → Type 0
FateBy s n c hit acts = Fate (fold docket_after (docket_of s) (docketed_by acts)).calls n c hit

left_alone : (s : CoreState) (n : ℕ) (c : CallNow) (hit : Bool) → call_numbered n s.calls ≡ Some c → (hit ≡ true → ⊥) → FateBy s n c hit []
left_alone s n c hit stands never = record { now = c; stands = stands; closed = λ h. absurd (never h); left = λ h. refl }

call_closes : (s : CoreState) (at m n : ℕ) (c d : CallNow) (t : Txn) → call_numbered n s.calls ≡ Some c → call_numbered m s.calls ≡ Some d
    → FateBy s n c (nat_eq m n) (failed_acts (core_facts s) d.opened t failure.Timeout at)
call_closes s at m n c d t stands other =
    let f : Facts = core_facts s in
    let k : ℕ = d.opened.call.0 in
    let w : How = how.Failed failure.Timeout in
    let ask : Ask = call_ask d.opened t in
    let same : nat_eq k c.opened.call.0 ≡ nat_eq m n = (λ i. nat_eq (its_number s.calls m d other i) (its_number s.calls n c stands i)) in
    record {
      now = call_after_close k w c;
      stands = ap (call_numbered n) (stood_calls (docket_after (docket_of s) (entry.Closed d.opened.call w)) (stand f ask failure.Timeout at) (next_notice f + 1) ask failure.Timeout at)
          ∙ stands_after s.calls k w n c stands;
      closed = λ h. own_closed k w c (same ∙ h);
      left = λ h. other_stays k w c (same ∙ h);
    }

-- a transaction that expires ----

opened_alike : (why : Reason) (cs : List CallNow) (docket : Docket) (n : ℕ) (c : CallNow) → call_numbered n docket.calls ≡ Some c
    → (d : CallNow) × (call_numbered n (fold docket_after docket (closings why cs)).calls ≡ Some d) × (d.opened ≡ c.opened)
opened_alike why [] docket n c stands = (c, stands, refl)
opened_alike why (x ∷ xs) docket n c stands =
    let k : ℕ = x.opened.call.0 in
    let rest = opened_alike why xs (after_closing why docket x) n (call_after_close k how.Abandoned c) (stands_after docket.calls k how.Abandoned n c stands) in
    (rest.0, rest.1, rest.2 ∙ same_opened k how.Abandoned c)

closings_leave : (why : Reason) (cs : List CallNow) (docket : Docket) (n : ℕ) (c : CallNow) → call_numbered n docket.calls ≡ Some c
    → list_any (λ x. nat_eq x.opened.call.0 n) cs ≡ false
    → call_numbered n (fold docket_after docket (closings why cs)).calls ≡ Some c
closings_leave why [] docket n c stands none = stands
closings_leave why (x ∷ xs) docket n c stands none =
    let k : ℕ = x.opened.call.0 in
    let parts = neither (nat_eq k n) (list_any (λ (x : CallNow). nat_eq x.opened.call.0 n) xs) none in
    closings_leave why xs (after_closing why docket x) n c
    (stands_after docket.calls k how.Abandoned n c stands
    ∙ ap (λ (d : CallNow). Some d) (other_stays k how.Abandoned c (ap (nat_eq k) (its_number docket.calls n c stands) ∙ parts.0))) parts.1

-- the calls of another transaction don't have this number
other_txns : (calls : List CallNow) (n : ℕ) (c : CallNow) (token : List ℕ) → CallsNumberedFrom 1 calls → call_numbered n calls ≡ Some c
    → bytes_eq c.opened.txn token ≡ false → list_any (λ x. nat_eq x.opened.call.0 n) (asked_in calls token) ≡ false
other_txns calls n c token numbers stands other =
    any_filtered (λ (x : CallNow). nat_eq x.opened.call.0 n) (λ (x : CallNow). is_asked x && bytes_eq x.opened.txn token) calls
    ∙ lone_any (λ (x : CallNow). nat_eq x.opened.call.0 n) (λ (x : CallNow). (is_asked x && bytes_eq x.opened.txn token) && nat_eq x.opened.call.0 n)
    (λ x h. last_false (is_asked x && bytes_eq x.opened.txn token) (nat_eq x.opened.call.0 n) h) calls c (calls_lone 1 n calls numbers) stands
    ∙ middle_false (is_asked c) (bytes_eq c.opened.txn token) (nat_eq c.opened.call.0 n) other
  where
    last_false : (a b : Bool) → b ≡ false → (a && b) ≡ false
    last_false true b h = h
    last_false false b h = refl

    middle_false : (a b d : Bool) → b ≡ false → ((a && b) && d) ≡ false
    middle_false true true d h = cc
    middle_false true false d h = refl
    middle_false false b d h = refl

expired_fate : (known : Known) (s : CoreState) (n : ℕ) (c : CallNow) (t : Txn) → IsWellAmong known (docket_of s) → IsAsked s.calls n c
    → FateBy s n c (bytes_eq t.token c.opened.txn) (expiry_acts (core_facts s) t)
expired_fate known s n c t well asked =
    let docket : Docket = docket_of s in
    let cs : List CallNow = asked_in s.calls t.token in
    let after = opened_alike reason.Expired cs docket n c asked.stands in
    let calls = ap (λ (es : List Entry). (fold docket_after docket es).calls) (expiry_docketed (core_facts s) t)
    ∙ ap (λ (docket : Docket). docket.calls) (fold-append docket_after docket (closings reason.Expired cs) (entry.Ended t.token ∷ [])) in
    record {
      now = after.0;
      stands = ap (call_numbered n) calls ∙ after.1;
      closed = λ hit. false_from_ne_true (is_asked after.0) (λ h.
          closings_none reason.Expired docket t.token n after.0 (record { stands = after.1; asked = h }) (ap (λ (o : Opened). o.txn) after.2 ∙ sym (one_name t.token c.opened.txn hit)));
      left = λ miss. inside (sym after.1
          ∙ closings_leave reason.Expired cs docket n c asked.stands (other_txns s.calls n c t.token well.calls.numbers asked.stands (apart_too t.token c.opened.txn miss)));
    }

acts_fate : (known : Known) (s : CoreState) (at n : ℕ) (c : CallNow) (thing : DueThing) → IsWellAmong known (docket_of s) → IsAsked s.calls n c
    → FateBy s n c (hits n c.opened.txn thing) (thing_acts thing at (core_facts s))
acts_fate known s at n c (call_due number) well asked =
    if_asked (FateBy s n c (nat_eq number n)) s (λ o t. failed_acts (core_facts s) o t failure.Timeout at) number
    (λ none. left_alone s n c (nat_eq number n) asked.stands (λ hit. none c (subst (λ (m : ℕ). IsAsked s.calls m c) (sym (number_is number n hit)) asked) (well.live n c asked)))
    (λ d t other stands. call_closes s at number n c d t.txn asked.stands other.stands)
acts_fate known s at n c (txn_due token) well asked =
    if_expired (FateBy s n c (bytes_eq token c.opened.txn)) s token
    (λ dead. left_alone s n c (bytes_eq token c.opened.txn) asked.stands
    (λ hit. not_both (has_live s.holdings.txns token) (ap (has_live s.holdings.txns) (one_name token c.opened.txn hit) ∙ well.live n c asked) dead))
    (λ t stands live.
    subst (λ (k : List ℕ). FateBy s n c (bytes_eq k c.opened.txn) (expiry_acts (core_facts s) t.txn)) (its_token s.holdings.txns token t stands)
    (expired_fate known s n c t.txn well asked))

pub thing_fate : (known : Known) (s : CoreState) (at n : ℕ) (c : CallNow) (thing : DueThing) → IsWellAmong known (docket_of s) → IsAsked s.calls n c
    → Fate (fold after_entry s (thing_entries thing at (core_facts s))).calls n c (hits n c.opened.txn thing)
thing_fate known s at n c thing well asked =
    let acts : List Act = thing_acts thing at (core_facts s) in
    subst (λ (docket : Docket). Fate docket.calls n c (hits n c.opened.txn thing)) (sym (comes_to s (entries_of_acts acts) (docketed_by acts) (acts_docketed acts))) (acts_fate known s at n c thing well asked)

pub sweep_fate : (known : Known) (at n : ℕ) (c : CallNow) (g : Growth CoreState) (items : List DueItem) → IsWellAmong known (docket_of g.world)
    → IsAsked g.world.calls n c
    → Fate (fold (settle core_keeper at) g items).world.calls n c (list_any (λ i. hits n c.opened.txn i.thing) items)
sweep_fate known at n c g [] well asked = record { now = c; stands = asked.stands; closed = λ h. not_both false h refl; left = λ h. refl }
sweep_fate known at n c g (item ∷ items) well asked =
    let s : CoreState = g.world in
    by (hits n c.opened.txn item.thing) (thing_fate known s at n c item.thing well asked)
    (λ still. sweep_fate known at n c (settle core_keeper at g item) items (thing_well known s item.thing at well) still)
    (λ now stands closed.
    settled_stays (λ s. call_numbered n s.calls ≡ Some now) at (λ s thing h. entries_leave_closed s (thing_entries thing at (core_facts s)) n now h closed)
    (settle core_keeper at g item) items stands)
  where
    by : (b : Bool) → Fate (settle core_keeper at g item).world.calls n c b
        → (IsAsked (settle core_keeper at g item).world.calls n c → Fate (fold (settle core_keeper at) (settle core_keeper at g item) items).world.calls n c (list_any (λ i. hits n c.opened.txn i.thing) items))
        → ((now : CallNow) → call_numbered n (settle core_keeper at g item).world.calls ≡ Some now → is_asked now ≡ false → call_numbered n (fold (settle core_keeper at) (settle core_keeper at g item) items).world.calls ≡ Some now)
        → Fate (fold (settle core_keeper at) (settle core_keeper at g item) items).world.calls n c (b || list_any (λ i. hits n c.opened.txn i.thing) items)
    by true fate rest stays = record { now = fate.now; stands = stays fate.now fate.stands (fate.closed refl); closed = λ h. fate.closed refl; left = λ h. not_both true refl h }
    by false fate rest stays = rest (record { stands = fate.stands ∙ ap (λ (x : CallNow). Some x) (fate.left refl); asked = asked.asked })
