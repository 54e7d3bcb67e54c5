-- Lists of entries that may be entered into a docket, account for an event of their own, and lose no other one.
use Rattle.std.proofs.Common.{◌≡◌, ℕ, ◌+◌, Bool, true, false, cond, ◌&&◌, ◌||◌, nat_eq, List, [], ◌∷◌, ◌++◌, length, map, filter, fold, refl, sym, ap, subst, ◌∙◌, arith, ◌⊎◌, inl, inr}
use Rattle.std.specs.Prelude.{Option, Some, None}
use Rattle.std.specs.List.{list_all}
use Rattle.std.specs.Option.{option_or}
use Rattle.std.specs.Str.{bytes_eq}
use Rattle.std.proofs.lemmas.Bool.{and_parts}
use Rattle.std.proofs.lemmas.Bool.Decides.{nat_tests}
use Rattle.std.proofs.lemmas.List.Folds.{list_all-append}
use Rattle.std.proofs.lemmas.List.Sums.{fold-append}
use Rattle.iss_model.specs.declared.call.How.{How}
use Rattle.iss_model.specs.declared.call.Opened.{Opened}
use Rattle.iss_model.specs.declared.decision.Verdict.{Verdict}
use Rattle.iss_model.specs.declared.entry.Entry.{Entry}
use Rattle.iss_model.specs.declared.entry.Entry.TheVariants as entry
use Rattle.iss_model.specs.declared.txn.Txn.{Txn}
use Rattle.iss_model.specs.rules.Activity.{CallNow, txn_named, call_numbered}
use Rattle.iss_model.specs.rules.Asks.{is_authorization}
use Rattle.iss_model.specs.rules.Facts.{Decision}
use Rattle.iss_model.specs.state.Cores.{call_after_close}
use Rattle.iss_model.proofs.Lists.{any_grows}
use Rattle.iss_model.proofs.Names.{either, its_name}
use Rattle.iss_state.proofs.effects.Finds.{number_is, same_number}
use Rattle.iss_state.specs.Numbers.{CallsNumberedFrom}
use Rattle.iss_state.specs.Allowed.{IsAllowed, MayClose, MayDecide, MayEnd, MayOpen, is_of_known}
use Rattle.iss_state.specs.Dockets.{Docket, docket_after, is_docketed}
use Rattle.iss_state.specs.Well.{IsAccounted, IsAsked, IsWaiting, IsWellAmong, Known, NoneAskedFor, has_live, is_decided}
use Rattle.iss_state.proofs.docket.Closing.{asked_after, asked_before, by_itself, its_number}
use Rattle.iss_state.proofs.docket.Entering.{call_more, decided_more, entry_well}
use Rattle.iss_state.proofs.docket.Lists.{inside, or_true, other_number}

-- each of these entries may come next in its turn
abbrev pub AreAllowedOn : Docket → List Entry → Type 0
AreAllowedOn d [] = Unit {0}
AreAllowedOn d (e ∷ es) = IsAllowed d e × AreAllowedOn (docket_after d e) es

-- These entries may come in their turn, and are of what is known. They lose no event that is accounted for, and account for one of their own.
pub record Enters (known : Known) (d : Docket) (own : Option (List ℕ)) (es : List Entry) : Type 0 where
  pub allowed : AreAllowedOn d es
  pub of_known : list_all (is_of_known known) es ≡ true
  pub keeps : (event : List ℕ) → IsAccounted d event → IsAccounted (fold docket_after d es) event
  pub accounts : (event : List ℕ) → own ≡ Some event → IsAccounted (fold docket_after d es) event

-- what may come and is of what is known leaves a docket well
all_well : (known : Known) (d : Docket) (es : List Entry) → AreAllowedOn d es → list_all (is_of_known known) es ≡ true → IsWellAmong known d
    → IsWellAmong known (fold docket_after d es)
all_well known d [] allowed its well = well
all_well known d (e ∷ es) allowed its well =
    let parts = and_parts (is_of_known known e) (list_all (is_of_known known) es) its in
    all_well known (docket_after d e) es allowed.1 parts.1 (entry_well known d e allowed.0 parts.0 well)

pub entered_well : (known : Known) (d : Docket) (own : Option (List ℕ)) (es : List Entry) → Enters known d own es → IsWellAmong known d
    → IsWellAmong known (fold docket_after d es)
entered_well known d own es enters well = all_well known d es enters.allowed enters.of_known well

-- what isn't docketed ----

pub docketed_moves : (d : Docket) (es : List Entry) → fold docket_after d es ≡ fold docket_after d (filter is_docketed es)
docketed_moves d [] = refl
docketed_moves d (entry.Began t ∷ es) = docketed_moves (docket_after d (entry.Began t)) es
docketed_moves d (entry.Opened o ∷ es) = docketed_moves (docket_after d (entry.Opened o)) es
docketed_moves d (entry.Closed call how ∷ es) = docketed_moves (docket_after d (entry.Closed call how)) es
docketed_moves d (entry.Decided event verdict ∷ es) = docketed_moves (docket_after d (entry.Decided event verdict)) es
docketed_moves d (entry.Ended txn ∷ es) = docketed_moves (docket_after d (entry.Ended txn)) es
docketed_moves d (_ ∷ es) = docketed_moves d es

docketed_allowed : (d : Docket) (es : List Entry) → AreAllowedOn d (filter is_docketed es) → AreAllowedOn d es
docketed_allowed d [] h = tt
docketed_allowed d (entry.Began t ∷ es) h = (h.0, docketed_allowed (docket_after d (entry.Began t)) es h.1)
docketed_allowed d (entry.Opened o ∷ es) h = (h.0, docketed_allowed (docket_after d (entry.Opened o)) es h.1)
docketed_allowed d (entry.Closed call how ∷ es) h = (h.0, docketed_allowed (docket_after d (entry.Closed call how)) es h.1)
docketed_allowed d (entry.Decided event verdict ∷ es) h = (h.0, docketed_allowed (docket_after d (entry.Decided event verdict)) es h.1)
docketed_allowed d (entry.Ended txn ∷ es) h = (h.0, docketed_allowed (docket_after d (entry.Ended txn)) es h.1)
docketed_allowed d (_ ∷ es) h = (tt, docketed_allowed d es h)

docketed_known : (known : Known) (es : List Entry) → list_all (is_of_known known) es ≡ list_all (is_of_known known) (filter is_docketed es)
docketed_known known [] = refl
docketed_known known (entry.Began t ∷ es) = ap (λ (b : Bool). (known.events t.token && known.products t.product) && b) (docketed_known known es)
docketed_known known (entry.Opened o ∷ es) = ap (λ (b : Bool). known.events o.event && b) (docketed_known known es)
docketed_known known (entry.Closed call how ∷ es) = docketed_known known es
docketed_known known (entry.Decided event verdict ∷ es) = ap (λ (b : Bool). known.events event && b) (docketed_known known es)
docketed_known known (entry.Ended txn ∷ es) = docketed_known known es
docketed_known known (_ ∷ es) = docketed_known known es

-- a list enters as what is docketed of it
pub enters_as : (known : Known) (d : Docket) (own : Option (List ℕ)) (es more : List Entry) → filter is_docketed es ≡ more → Enters known d own more
    → Enters known d own es
enters_as known d own es more e enters =
    let told : Enters known d own (filter is_docketed es) = subst (Enters known d own) (sym e) enters in
    let same : fold docket_after d es ≡ fold docket_after d (filter is_docketed es) = docketed_moves d es in
    record {
      allowed = docketed_allowed d es told.allowed;
      of_known = docketed_known known es ∙ told.of_known;
      keeps = λ event h. subst (λ (x : Docket). IsAccounted x event) (sym same) (told.keeps event h);
      accounts = λ event h. subst (λ (x : Docket). IsAccounted x event) (sym same) (told.accounts event h);
    }

-- one list after another ----

none_own : {P : Type 0} {event : List ℕ} → None ≡ Some event → P
none_own e = cc

pub enters_none : (known : Known) (d : Docket) → Enters known d None []
enters_none known d = record { allowed = tt; of_known = refl; keeps = λ event h. h; accounts = λ event e. none_own e }

allowed_append : (d : Docket) (xs ys : List Entry) → AreAllowedOn d xs → AreAllowedOn (fold docket_after d xs) ys → AreAllowedOn d (xs ++ ys)
allowed_append d [] ys h k = k
allowed_append d (x ∷ xs) ys h k = (h.0, allowed_append (docket_after d x) xs ys h.1 k)

pub enters_append : (known : Known) (d : Docket) (own : Option (List ℕ)) (xs ys : List Entry) → Enters known d None xs → Enters known (fold docket_after d xs) own ys
    → Enters known d own (xs ++ ys)
enters_append known d own xs ys first second =
    let same : fold docket_after d (xs ++ ys) ≡ fold docket_after (fold docket_after d xs) ys = fold-append docket_after d xs ys in
    record {
      allowed = allowed_append d xs ys first.allowed second.allowed;
      of_known = list_all-append (is_of_known known) xs ys ∙ ap (λ (b : Bool). b && list_all (is_of_known known) ys) first.of_known ∙ second.of_known;
      keeps = λ event h. subst (λ (x : Docket). IsAccounted x event) (sym same) (second.keeps event (first.keeps event h));
      accounts = λ event h. subst (λ (x : Docket). IsAccounted x event) (sym same) (second.accounts event h);
    }

-- an event is decided ----

now_decided : (ds : List Decision) (x : Decision) → is_decided (ds ++ x ∷ []) x.event ≡ true
now_decided ds x =
    decided_more ds x x.event ∙ or_true (is_decided ds x.event) (bytes_eq x.event x.event || false) (ap (λ (b : Bool). b || false) (its_name x.event))

accounted_more : (d : Docket) (x : Decision) (event : List ℕ) → IsAccounted d event → (is_decided (d.decisions ++ x ∷ []) event ≡ true) ⊎ IsWaiting d.calls event
accounted_more d x event (inl h) = inl (any_grows (λ (y : Decision). bytes_eq y.event event) d.decisions (x ∷ []) h)
accounted_more d x event (inr w) = inr w

pub enters_decided : (known : Known) (d : Docket) (own : List ℕ) (v : Verdict) → known.events own ≡ true → MayDecide d own
    → Enters known d (Some own) (entry.Decided own v ∷ [])
enters_decided known d own v its may =
    let x : Decision = record { event = own; verdict = v } in
    record {
      allowed = (may, tt);
      of_known = ap (λ (b : Bool). b && true) its;
      keeps = λ event h. accounted_more d x event h;
      accounts = λ event e. inl (ap (is_decided (d.decisions ++ x ∷ [])) (sym (inside e)) ∙ now_decided d.decisions x);
    }

-- a transaction begins or ends ----

pub enters_began : (known : Known) (d : Docket) (t : Txn) → known.events t.token ≡ true → known.products t.product ≡ true → txn_named t.token d.txns ≡ None
    → Enters known d None (entry.Began t ∷ [])
enters_began known d t its its_product unnamed =
    record {
      allowed = (unnamed, tt);
      of_known = ap (λ (b : Bool). (b && known.products t.product) && true) its ∙ ap (λ (b : Bool). b && true) its_product;
      keeps = λ event h. h;
      accounts = λ event e. none_own e;
    }

pub enters_ended : (known : Known) (d : Docket) (token : List ℕ) → MayEnd d token → Enters known d None (entry.Ended token ∷ [])
enters_ended known d token may = record { allowed = (may, tt); of_known = refl; keeps = λ event h. h; accounts = λ event e. none_own e }

-- the transaction may end, and the event is decided
pub enters_settled : (known : Known) (d : Docket) (txn own : List ℕ) (ends : Bool) (v : Verdict) → known.events own ≡ true → (ends ≡ true → MayEnd d txn)
    → MayDecide d own
    → Enters known d (Some own) (cond ends (entry.Ended txn ∷ []) [] ++ entry.Decided own v ∷ [])
enters_settled known d txn own true v its may_end may =
    let q : Docket = docket_after d (entry.Ended txn) in
    enters_append known d (Some own) (entry.Ended txn ∷ []) (entry.Decided own v ∷ []) (enters_ended known d txn (may_end refl))
    (enters_decided known q own v its (record { undecided = may.undecided; none_asked = may.none_asked }))
enters_settled known d txn own false v its may_end may = enters_decided known d own v its may

-- a call is opened ----

opened_last : (n : ℕ) (calls : List CallNow) (c : CallNow) → CallsNumberedFrom n calls → c.opened.call.0 ≡ n + length calls
    → call_numbered c.opened.call.0 (calls ++ c ∷ []) ≡ Some c
opened_last n [] c h e = ap (λ (b : Bool). cond b (Some c) None) (same_number c.opened.call.0)
opened_last n (x ∷ xs) c h e =
    ap (λ (b : Bool). cond b (Some x) (call_numbered c.opened.call.0 (xs ++ c ∷ []))) (differ x.opened.call.0 c.opened.call.0 n (length xs) h.0 (omega (arith, e)))
    ∙ opened_last (n + 1) xs c h.1 (omega (arith, e))
  where
    differ : (a b n m : ℕ) → a ≡ n → b ≡ n + (1 + m) → nat_eq a b ≡ false
    differ a b n m h e = grind (arith, nat_tests)

accounted_opened : (d : Docket) (x : CallNow) (event : List ℕ) → IsAccounted d event → (is_decided d.decisions event ≡ true) ⊎ IsWaiting (d.calls ++ x ∷ []) event
accounted_opened d x event (inl h) = inl h
accounted_opened d x event (inr w) =
    inr (record {
      number = w.number;
      call = w.call;
      asked = record {
        stands = call_more w.number d.calls x
            ∙ ap (λ (o : Option CallNow). option_or o (cond (nat_eq x.opened.call.0 w.number) (Some x) None)) w.asked.stands;
        asked = w.asked.asked;
      };
      its_event = w.its_event;
    })

pub enters_opened : (known : Known) (d : Docket) (o : Opened) → known.events o.event ≡ true → CallsNumberedFrom 1 d.calls → MayOpen d o
    → Enters known d (Some o.event) (entry.Opened o ∷ [])
enters_opened known d o its numbers may =
    let x : CallNow = record { opened = o; how = None } in
    record {
      allowed = (may, tt);
      of_known = ap (λ (b : Bool). b && true) its;
      keeps = λ event h. accounted_opened d x event h;
      accounts = λ event e. inr (record {
        number = o.call.0;
        call = x;
        asked = record { stands = opened_last 1 d.calls x numbers (omega (arith, may.number)); asked = refl };
        its_event = inside e;
      });
    }

-- a call is closed, its transaction may end, and its event is decided ----

closed_accounted : (d : Docket) (n : ℕ) (c : CallNow) (how : How) (v : Verdict) → IsAsked d.calls n c → (event : List ℕ) → IsAccounted d event
    → (is_decided (d.decisions ++ record { event = c.opened.event; verdict = v } ∷ []) event ≡ true) ⊎ IsWaiting (map (call_after_close c.opened.call.0 how) d.calls) event
closed_accounted d n c how v now event (inl h) = inl (any_grows (λ (y : Decision). bytes_eq y.event event) d.decisions (record { event = c.opened.event; verdict = v } ∷ []) h)
closed_accounted d n c how v now event (inr w) = by (either (nat_eq c.opened.call.0 w.call.opened.call.0))
  where
    x : Decision
    x = record { event = c.opened.event; verdict = v }

    by : (nat_eq c.opened.call.0 w.call.opened.call.0 ≡ true) ⊎ (nat_eq c.opened.call.0 w.call.opened.call.0 ≡ false)
        → (is_decided (d.decisions ++ record { event = c.opened.event; verdict = v } ∷ []) event ≡ true) ⊎ IsWaiting (map (call_after_close c.opened.call.0 how) d.calls) event
    by (inl same) =
        let one : n ≡ w.number = sym (its_number d.calls n c now.stands) ∙ number_is c.opened.call.0 w.call.opened.call.0 same ∙ its_number d.calls w.number w.call w.asked.stands in
        let call : c ≡ w.call = inside (sym now.stands ∙ ap (λ (m : ℕ). call_numbered m d.calls) one ∙ w.asked.stands) in
        inl (ap (is_decided (d.decisions ++ record { event = c.opened.event; verdict = v } ∷ [])) (sym w.its_event ∙ ap (λ (y : CallNow). y.opened.event) (sym call))
        ∙ now_decided d.decisions (record { event = c.opened.event; verdict = v }))
    by (inr other) =
        inr (record { number = w.number; call = w.call; asked = asked_after d.calls c.opened.call.0 how w.number w.call w.asked other; its_event = w.its_event })

-- when a call is closed, no call is asked for its event
none_for : (known : Known) (d : Docket) (n : ℕ) (c : CallNow) (how : How) → IsWellAmong known d → IsAsked d.calls n c
    → NoneAskedFor (map (call_after_close c.opened.call.0 how) d.calls) c.opened.event
none_for known d n c how well now m e then same =
    let was = asked_before d.calls c.opened.call.0 how m e then in
    let one : n ≡ m = well.calls.once n m c e now.stands was.0.stands (sym same) in
    other_number c.opened.call.0 e.opened.call.0 was.1 (its_number d.calls n c now.stands ∙ one ∙ sym (its_number d.calls m e was.0.stands))

-- when an authorisation's call is closed, its transaction may end
may_end : (known : Known) (d : Docket) (n : ℕ) (c : CallNow) (how : How) (txn : List ℕ) → IsWellAmong known d → IsAsked d.calls n c → txn ≡ c.opened.txn
    → is_authorization c.opened.method ≡ true → MayEnd (docket_after d (entry.Closed c.opened.call how)) txn
may_end known d n c how txn well now its first =
    record {
      its_live = ap (has_live d.txns) its ∙ well.live n c now;
      none_asked = λ m e then same.
          let was = asked_before d.calls c.opened.call.0 how m e then in
          let one : n ≡ m = well.calls.alone n m c e now was.0 (sym (same ∙ its)) first in
          other_number c.opened.call.0 e.opened.call.0 was.1 (its_number d.calls n c now.stands ∙ one ∙ sym (its_number d.calls m e was.0.stands));
    }

pub enters_closed : (known : Known) (d : Docket) (n : ℕ) (c : CallNow) (how : How) (txn : List ℕ) (ends : Bool) (v : Verdict) → IsWellAmong known d
    → IsAsked d.calls n c
    → txn ≡ c.opened.txn → (ends ≡ true → is_authorization c.opened.method ≡ true)
    → Enters known d None (entry.Closed c.opened.call how ∷ cond ends (entry.Ended txn ∷ []) [] ++ entry.Decided c.opened.event v ∷ [])
enters_closed known d n c how txn ends v well now its first =
    by ends first
  where
    its_event : known.events c.opened.event ≡ true
    its_event = well.calls.events n c now.stands

    closes : MayClose d c.opened.call
    closes = record { its = c; asked = by_itself d.calls n c now }

    by : (b : Bool) → (b ≡ true → is_authorization c.opened.method ≡ true)
        → Enters known d None (entry.Closed c.opened.call how ∷ cond b (entry.Ended txn ∷ []) [] ++ entry.Decided c.opened.event v ∷ [])
    by true first =
        record {
          allowed = (closes, (may_end known d n c how txn well now its (first refl), (record { undecided = well.waits n c now; none_asked = none_for known d n c how well now }, tt)));
          of_known = ap (λ (b : Bool). b && true) its_event;
          keeps = closed_accounted d n c how v now;
          accounts = λ event e. none_own e;
        }
    by false first =
        record {
          allowed = (closes, (record { undecided = well.waits n c now; none_asked = none_for known d n c how well now }, tt));
          of_known = ap (λ (b : Bool). b && true) its_event;
          keeps = closed_accounted d n c how v now;
          accounts = λ event e. none_own e;
        }
