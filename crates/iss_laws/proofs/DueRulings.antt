-- All that is due at a record's stamp rules what goes with the calls that it closes.
use Rattle.std.proofs.Common.{nat_eq, ◌≡◌, ℕ, Bool, true, false, cond, ◌&&◌, nat_le, List, [], ◌∷◌, ◌++◌, map, filter, fold, refl, sym, ap, subst, ◌∙◌, append_assoc}
use Rattle.iss_model.specs.rules.Acts.{Act}
use Rattle.iss_model.specs.rules.CardActs.{acts_of_asked, acts_of_txn, failed_acts}
use Rattle.iss_model.specs.rules.Due.{expiry_acts, live_expiry_acts, thing_acts, DueItem, DueThing, call_due, txn_due, due_call, due_txn, due_items, items_with, is_before, thing_entries}
use Rattle.std.specs.Prelude.{Option, Some, None, option_map}
use Rattle.std.specs.Str.{bytes_eq}
use Rattle.std.proofs.lemmas.Bool.{and_parts}
use Rattle.std.proofs.lemmas.List.{append-nil}
use Rattle.iss_model.specs.declared.call.Failure.TheVariants as failure
use Rattle.iss_model.specs.declared.call.Opened.{Opened}
use Rattle.iss_model.specs.declared.decision.Reason.{Reason}
use Rattle.iss_model.specs.declared.decision.Reason.TheVariants as reason
use Rattle.iss_model.specs.declared.entry.Entry.{Entry}
use Rattle.iss_model.specs.declared.input.Input.{Input}
use Rattle.iss_model.specs.declared.input.Record.{Record}
use Rattle.iss_model.specs.declared.txn.Txn.{Txn}
use Rattle.iss_model.specs.rules.Activity.{TxnNow, CallNow, txn_named, is_asked}
use Rattle.iss_model.specs.rules.Facts.{Facts, txn_in, call_in, asked_calls_of, next_notice}
use Rattle.iss_model.specs.rules.Histories.{History, history_facts, history_keeper}
use Rattle.iss_model.specs.rules.Keeper.{Growth}
use Rattle.iss_model.specs.rules.Pieces.{parts_held, in_all}
use Rattle.iss_model.specs.rules.Stepping.{after_due, settle}
use Rattle.iss_model.specs.state.Cores.{CoreState, after_entry}
use Rattle.iss_model.proofs.Names.{one_name, same_name}
use Rattle.iss_agreement.specs.Shown.{shown_state}
use Rattle.iss_agreement.proofs.BookAndState.{book_kept}
use Rattle.iss_agreement.proofs.CoreOfBook.{core_shows}
use Rattle.iss_agreement.proofs.Fitting.{IsGood, enters}
use Rattle.iss_state.specs.Numbers.{CallsNumberedFrom}
use Rattle.iss_state.specs.Well.{HaveOwnTokens}
use Rattle.iss_state.proofs.docket.Closing.{StandsItself, all_stand}
use Rattle.iss_state.proofs.docket.Lists.{Each, each_weaker, inside}
use Rattle.iss_state.specs.Pending.{HasTakenUp}
use Rattle.iss_state.proofs.calls.Due.{its_token}
use Rattle.iss_state.proofs.calls.Steps.{ready_settled}
use Rattle.iss_laws.specs.Rulings.{abandonment_reason, abandoned_by, begun_in, opened_in, with_entries}
use Rattle.iss_laws.proofs.Ruled.{Rules, rules_none, rules_then, with_both, with_none}
use Rattle.iss_laws.proofs.ClosedCalls.{IsAbandoned, RulesRow, begun_stays, both_acts, either_acts, ends_acts, failed_rules, for_gateway, its_beginning, last_act, no_act, opened_stays}

-- a book on which a record was taken up ----

-- A book with a record taken up, part of whose entries were made: it shows a state that has taken it up.
pub record IsReady (h : History) (i : Input) : Type 0 where
  pub good : IsGood h
  pub taken : HasTakenUp (shown_state h) i

-- calls are numbered there, and transactions have tokens of their own
pub numbered_calls : (h : History) (i : Input) → IsReady h i → CallsNumberedFrom 1 (history_facts h).calls
numbered_calls h i ready = ready.taken.well.calls.numbers

pub own_tokens : (h : History) (i : Input) → IsReady h i → HaveOwnTokens (history_facts h).txns
own_tokens h i ready = ready.taken.well.txns.tokens

thing_ready : (h : History) (i : Input) (thing : DueThing) (at : ℕ) → IsReady h i → IsReady (with_entries h (thing_entries thing at (history_facts h))) i
thing_ready h i thing at ready =
    let es : List Entry = thing_entries thing at (history_facts h) in
    let entered = enters h es ready.good (book_kept.due h thing at ready.good) in
    record {
      good = entered.1;
      taken = subst (λ (s : CoreState). HasTakenUp s i) entered.0
          (subst (λ (f : Facts). HasTakenUp (fold after_entry (shown_state h) (thing_entries thing at f)) i) (core_shows.facts h ready.good) (ready_settled (shown_state h) i thing at ready.taken));
    }

-- what is due ----

-- a call whose deadline has come, and a transaction whose expiry has
pub record IsDueCall (f : Facts) (at n : ℕ) : Type 0 where
  pub its : Opened
  pub stands : opened_in f n ≡ Some its
  pub come : nat_le its.deadline at ≡ true

pub record IsDueTxn (f : Facts) (at : ℕ) (token : List ℕ) : Type 0 where
  pub its : Txn
  pub stands : begun_in f token ≡ Some its
  pub come : nat_le its.expires at ≡ true

abbrev pub IsDueThing : Facts → ℕ → DueThing → Type 0
IsDueThing f at (call_due n) = IsDueCall f at n
IsDueThing f at (txn_due token) = IsDueTxn f at token

abbrev pub IsDueItem : Facts → ℕ → DueItem → Type 0
IsDueItem f at item = IsDueThing f at item.thing

still_due : (h : History) (es : List Entry) (at : ℕ) (thing : DueThing) → IsDueThing (history_facts h) at thing → IsDueThing (history_facts (with_entries h es)) at thing
still_due h es at (call_due n) due = record { its = due.its; stands = opened_stays h es n due.its due.stands; come = due.come }
still_due h es at (txn_due token) due = record { its = due.its; stands = begun_stays h es token due.its due.stands; come = due.come }

-- each element of a list that was put together so
each_placed : (P : DueItem → Type 0) (items : List DueItem) (x : DueItem) → P x → Each P items → Each P (items_with items x)
each_placed P [] x px all = (px, tt)
each_placed P (y ∷ ys) x px all = by (is_before x y) (each_placed P ys x px all.1)
  where
    by : (b : Bool) → Each P (items_with ys x) → Each P (cond b (x ∷ y ∷ ys) (y ∷ items_with ys x))
    by true rest = (px, all)
    by false rest = (all.0, rest)

each_all_placed : (P : DueItem → Type 0) (xs items : List DueItem) → Each P xs → Each P items → Each P (fold items_with items xs)
each_all_placed P [] items new all = all
each_all_placed P (x ∷ xs) items new all = each_all_placed P xs (items_with items x) new.1 (each_placed P items x new.0 all)

each_filtered : {A : Type 0} (P : A → Type 0) (q : A → Bool) (xs : List A) → Each (λ x. q x ≡ true → P x) xs → Each P (filter q xs)
each_filtered P q [] all = tt
each_filtered {A} P q (x ∷ xs) all = by (q x) refl (each_filtered P q xs all.1)
  where
    by : (b : Bool) → q x ≡ b → Each P (filter q xs) → Each P (cond b (x ∷ filter q xs) (filter q xs))
    by true h rest = (all.0 h, rest)
    by false h rest = rest

each_mapped : {A B : Type 0} (P : B → Type 0) (f : A → B) (xs : List A) → Each (λ x. P (f x)) xs → Each P (map f xs)
each_mapped P f [] all = tt
each_mapped P f (x ∷ xs) all = (all.0, each_mapped P f xs all.1)

each_both : {A : Type 0} (P : A → Type 0) (xs ys : List A) → Each P xs → Each P ys → Each P (xs ++ ys)
each_both P [] ys first second = second
each_both P (x ∷ xs) ys first second = (first.0, each_both P xs ys first.1 second)

-- what isn't there isn't this
pub clash : {P A : Type 0} (o : Option A) (x : A) → o ≡ None → o ≡ Some x → P
clash None x h e = cc
clash (Some y) x h e = cc

-- a transaction stands under its own token
abbrev StandsAlone : List TxnNow → TxnNow → Type 0
StandsAlone txns t = txn_named t.txn.token txns ≡ Some t

all_alone : (txns : List TxnNow) → HaveOwnTokens txns → Each (StandsAlone txns) txns
all_alone [] own = tt
all_alone (t ∷ ts) own = (
  ap (λ (b : Bool). cond b (Some t) (txn_named t.txn.token ts)) (same_name t.txn.token t.txn.token refl),
  each_weaker (StandsAlone ts) (StandsAlone (t ∷ ts)) later ts (all_alone ts own.1),
)
  where
    later : (x : TxnNow) → StandsAlone ts x → StandsAlone (t ∷ ts) x
    later x e = by (bytes_eq t.txn.token x.txn.token) refl
      where
        by : (b : Bool) → bytes_eq t.txn.token x.txn.token ≡ b → cond b (Some t) (txn_named x.txn.token ts) ≡ Some x
        by true h = clash (txn_named x.txn.token ts) x (ap (λ (k : List ℕ). txn_named k ts) (sym (one_name t.txn.token x.txn.token h)) ∙ own.0) e
        by false h = e

-- each due item is due on these facts
all_due : (f : Facts) (at : ℕ) → CallsNumberedFrom 1 f.calls → HaveOwnTokens f.txns → Each (IsDueItem f at) (due_items f at)
all_due f at numbers own =
    let P : DueItem → Type 0 = λ item. nat_le item.since at ≡ true → IsDueItem f at item in
    let calls : List CallNow = filter is_asked f.calls in
    let txns : List TxnNow = filter (λ (t : TxnNow). t.live) f.txns in
    each_all_placed (IsDueItem f at) (filter (λ (item : DueItem). nat_le item.since at) (map due_call calls ++ map due_txn txns)) []
    (each_filtered (IsDueItem f at) (λ (item : DueItem). nat_le item.since at) (map due_call calls ++ map due_txn txns)
    (each_both P (map due_call calls) (map due_txn txns)
    (each_mapped P due_call calls (each_filtered (λ (c : CallNow). P (due_call c)) is_asked f.calls
    (each_weaker (StandsItself f.calls) (λ (c : CallNow). is_asked c ≡ true → P (due_call c)) call_is f.calls (all_stand f.calls numbers))))
    (each_mapped P due_txn txns (each_filtered (λ (t : TxnNow). P (due_txn t)) (λ (t : TxnNow). t.live) f.txns
    (each_weaker (StandsAlone f.txns) (λ (t : TxnNow). t.live ≡ true → P (due_txn t)) txn_is f.txns (all_alone f.txns own)))))) tt
  where
    call_is : (c : CallNow) → StandsItself f.calls c → is_asked c ≡ true → nat_le c.opened.deadline at ≡ true → IsDueCall f at c.opened.call.0
    call_is c stands asked come = record { its = c.opened; stands = ap (option_map (λ (c : CallNow). c.opened)) stands; come = come }

    txn_is : (t : TxnNow) → StandsAlone f.txns t → t.live ≡ true → nat_le t.txn.expires at ≡ true → IsDueTxn f at t.txn.token
    txn_is t stands live come = record { its = t.txn; stands = ap (option_map (λ (now : TxnNow). now.txn)) stands; come = come }

-- a due thing ----

-- what comes of an asked call, if there is one, rules what goes with it
pub asked_rules : {r : Record} {h : History} (make : Opened → Txn → List Act) (n : ℕ)
    → ((c : CallNow) (now : TxnNow) → call_in (history_facts h) n ≡ Some c → txn_in (history_facts h) c.opened.txn ≡ Some now → RulesRow r h (make c.opened now.txn) [])
    → RulesRow r h (acts_of_asked make (call_in (history_facts h) n) (history_facts h)) []
asked_rules {r} {h} make n each = of_call (call_in (history_facts h) n) refl
  where
    of_txn : (c : CallNow) → call_in (history_facts h) n ≡ Some c → (now : Option TxnNow) → txn_in (history_facts h) c.opened.txn ≡ now → RulesRow r h (acts_of_txn (make c.opened) now) []
    of_txn c e None its = no_act
    of_txn c e (Some now) its = each c now e its

    of_call : (c : Option CallNow) → call_in (history_facts h) n ≡ c → RulesRow r h (acts_of_asked make c (history_facts h)) []
    of_call None e = no_act
    of_call (Some c) e = either_acts (is_asked c) (of_txn c e (txn_in (history_facts h) c.opened.txn) refl) no_act

-- the asked calls of a transaction may be abandoned for a reason
pub asked_abandoned : (r : Record) (h : History) (i : Input) (token : List ℕ) (now : TxnNow) (why : Reason) → IsReady h i → txn_in (history_facts h) token ≡ Some now
    → ((c : CallNow) → is_asked c ≡ true → StandsItself (history_facts h).calls c → c.opened.txn ≡ now.txn.token → abandonment_reason r now.txn ≡ Some why)
    → Each (IsAbandoned r h now.txn why) (asked_calls_of (history_facts h) now.txn.token)
asked_abandoned r h i token now why ready stands reason_is =
    each_filtered (IsAbandoned r h now.txn why) (λ (c : CallNow). is_asked c && bytes_eq c.opened.txn now.txn.token) calls
    (each_weaker (StandsItself calls) (λ (c : CallNow). (is_asked c && bytes_eq c.opened.txn now.txn.token) ≡ true → IsAbandoned r h now.txn why c) one calls
    (all_stand calls (numbered_calls h i ready)))
  where
    f : Facts
    f = history_facts h

    calls : List CallNow
    calls = (history_facts h).calls

    one : (c : CallNow) → StandsItself calls c → (is_asked c && bytes_eq c.opened.txn now.txn.token) ≡ true → IsAbandoned r h now.txn why c
    one c itself passes =
        let parts = and_parts (is_asked c) (bytes_eq c.opened.txn now.txn.token) passes in
        let same : c.opened.txn ≡ now.txn.token = one_name c.opened.txn now.txn.token parts.1 in
        record {
          stands = ap (option_map (λ (c : CallNow). c.opened)) itself;
          its_txn = ap (begun_in f) (same ∙ its_token f.txns token now stands) ∙ its_beginning f token now stands;
          its_reason = reason_is c parts.0 itself same;
        }

-- a transaction that is due has expired
txn_rules : (r : Record) (h : History) (i : Input) (token : List ℕ) → IsReady h i → IsDueTxn (history_facts h) r.at token → (now : Option TxnNow) → txn_in (history_facts h) token ≡ now
    → RulesRow r h (live_expiry_acts (history_facts h) now) []
txn_rules r h i token ready due None e = no_act
txn_rules r h i token ready due (Some now) e = either_acts now.live expired no_act
  where
    f : Facts
    f = history_facts h

    t : Txn
    t = now.txn

    come : nat_le t.expires r.at ≡ true
    come = ap (λ (t : Txn). nat_le t.expires r.at) (inside (sym (its_beginning f token now e) ∙ due.stands)) ∙ due.come

    expired : RulesRow r h (expiry_acts f t) []
    expired =
        both_acts
        (ends_acts (next_notice f) f t (parts_held f t) reason.Expired
        (asked_abandoned r h i token now reason.Expired ready e (λ c asked itself same. ap (λ (b : Bool). cond b (Some reason.Expired) (abandoned_by t.token r.input)) come)))
        (λ es. for_gateway t (either_acts (nat_eq (in_all (parts_held f t)) 0) no_act (last_act _ refl)))

-- a call that is due has failed by its deadline
thing_acts_rule : (r : Record) (h : History) (i : Input) (thing : DueThing) → IsReady h i → IsDueThing (history_facts h) r.at thing → RulesRow r h (thing_acts thing r.at (history_facts h)) []
thing_acts_rule r h i (call_due n) ready due =
    asked_rules (λ (o : Opened) (t : Txn). failed_acts (history_facts h) o t failure.Timeout r.at) n
    (λ c now e its. failed_rules r h n c now failure.Timeout e its
    (ap (λ (o : Opened). nat_le o.deadline r.at) (sym (inside (sym due.stands ∙ ap (option_map (λ (c : CallNow). c.opened)) e))) ∙ due.come))
thing_acts_rule r h i (txn_due token) ready due = txn_rules r h i token ready due (txn_in (history_facts h) token) refl

thing_rules : (r : Record) (h : History) (i : Input) (thing : DueThing) → IsReady h i → IsDueThing (history_facts h) r.at thing → Rules r h (thing_entries thing r.at (history_facts h)) []
thing_rules r h i thing ready due = (thing_acts_rule r h i thing ready due).rules

-- all that is due ----

-- a growth goes on by entries that rule what goes with the calls that they close
pub record IsSwept (r : Record) (g after : Growth History) : Type 0 where
  pub more : List Entry
  pub entries : after.entries ≡ g.entries ++ more
  pub world : after.world ≡ with_entries g.world more
  pub rules : Rules r g.world more []
  pub ready : IsReady after.world r.input

all_swept : (r : Record) (g : Growth History) (items : List DueItem) → IsReady g.world r.input → Each (IsDueItem (history_facts g.world) r.at) items
    → IsSwept r g (fold (settle history_keeper r.at) g items)
all_swept r g [] ready due =
    record { more = []; entries = sym (append-nil g.entries); world = sym (with_none g.world); rules = rules_none; ready = ready }
all_swept r g (item ∷ items) ready due =
    let h : History = g.world in
    let es : List Entry = thing_entries item.thing r.at (history_facts h) in
    let rest = all_swept r (settle history_keeper r.at g item) items (thing_ready h r.input item.thing r.at ready)
    (each_weaker (IsDueItem (history_facts h) r.at) (IsDueItem (history_facts (with_entries h es)) r.at) (λ x d. still_due h es r.at x.thing d) items due.1) in
    record {
      more = es ++ rest.more;
      entries = rest.entries ∙ append_assoc g.entries es rest.more;
      world = rest.world ∙ with_both h es rest.more;
      rules = rules_then es rest.more (thing_rules r h r.input item.thing ready due.0) rest.rules;
      ready = rest.ready;
    }

pub due_swept : (r : Record) (up : History) → IsReady up r.input → IsSwept r (record { world = up; entries = [] }) (after_due history_keeper up r.at)
due_swept r up ready =
    all_swept r (record { world = up; entries = [] }) (due_items (history_facts up) r.at) ready
    (all_due (history_facts up) r.at (numbered_calls up r.input ready) (own_tokens up r.input ready))
