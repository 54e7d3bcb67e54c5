-- A core that is made again from a state in order, whose events and transactions are their own, is well.
use Rattle.std.proofs.Common.{◌≡◌, ◌∙◌, ◌∷◌, ◌&&◌, ◌||◌, ◌⊎◌, ◌==◌, ℕ, ap, ap₂, Bool, cond, false, find, inl, inr, List, [], map, not, refl, subst, sym, true}
use Rattle.std.specs.Prelude.{Option, Some, None, is_none, is_some, option_map, unwrap_or}
use Rattle.std.specs.List.{list_all, list_any}
use Rattle.std.specs.Str.{bytes_eq}
use Rattle.iss_model.specs.declared.call.How.{How}
use Rattle.iss_model.specs.declared.state.Seen.{Seen}
use Rattle.iss_model.specs.declared.state.State.{State}
use Rattle.iss_model.specs.Inputs.{event_token, is_event, is_text}
use Rattle.iss_model.specs.rules.Activity.{CallNow, TxnNow, call_numbered, is_asked, txn_named}
use Rattle.iss_model.specs.rules.Asks.{is_authorization}
use Rattle.iss_model.specs.rules.Facts.{Accepted, Decision, verdict_in}
use Rattle.iss_model.specs.rules.Reasons.{is_some_with}
use Rattle.iss_model.specs.state.Cores.{CoreState}
use Rattle.iss_model.proofs.Lists.{find_passes}
use Rattle.iss_model.proofs.Names.{its_name, one_name, same_name}
use Rattle.iss_state.specs.Pending.{IsWell, is_product}
use Rattle.iss_state.specs.Sound.{is_accepted}
use Rattle.iss_state.specs.Well.{IsAsked, IsWaiting, has_live, is_decided}
use Rattle.iss_state.proofs.docket.Closing.{StandsItself, all_stand}
use Rattle.iss_state.proofs.docket.Lists.{Each, found_any, inside, none_found, not_both}
use Rattle.iss_state.proofs.effects.Finds.{found_passes}
use Rattle.iss_states.specs.Order.{AreInOrder}
use Rattle.iss_states.specs.Rebuilding.{events_again, rebuilt}
use Rattle.iss_states.specs.Showing.{is_asked_mark, mark_in, mark_of, seen_in, token_of_event}
use Rattle.iss_states.proofs.SetSteps.{undecided_verdict}
use Rattle.iss_well_formed.specs.Again.{AreOfTheirEvents, is_alone, is_of_listed, listed, standing}
use Rattle.iss_well_formed.specs.Events.{ArePendingIfAsked, both_or_neither, is_pending_if_asked}
use Rattle.iss_well_formed.proofs.Growing.{CallsGrown, DecisionsGrown, TxnsGrown}
use Rattle.iss_well_formed.proofs.GrownAgain.{Grown, grown_again}

-- lists ----

pub all_mapped : {A B : Type 0} (p : B → Bool) (f : A → B) (xs : List A) → list_all p (map f xs) ≡ list_all (λ x. p (f x)) xs
all_mapped p f [] = refl
all_mapped p f (x ∷ xs) = ap (λ (b : Bool). p (f x) && b) (all_mapped p f xs)

same_of_both : (a b : Bool) → both_or_neither a b ≡ true → a ≡ b
same_of_both true b h = sym h
same_of_both false true h = cc
same_of_both false false h = refl

turned : (b : Bool) → not b ≡ true → b ≡ false
turned true h = cc
turned false h = refl

pub token_is : (a : Accepted) (k : List ℕ) → is_event k a.input ≡ true → token_of_event a ≡ k
token_is a k h = by (event_token a.input) h
  where
    by : (o : Option (List ℕ)) → is_text k o ≡ true → unwrap_or o [] ≡ k
    by None h = cc
    by (Some token) h = one_name token k h

asked_mark : (how : Option How) → is_asked_mark (Some (mark_of how)) ≡ is_none how
asked_mark None = refl
asked_mark (Some how) = refl

no_verdict : (ds : List Decision) (k : List ℕ) → is_none (verdict_in ds k) ≡ true → is_decided ds k ≡ false
no_verdict ds k h = none_found (λ d. bytes_eq d.event k) ds (by (find (λ d. bytes_eq d.event k) ds) h)
  where
    by : (o : Option Decision) → is_none (option_map (λ (d : Decision). d.verdict) o) ≡ true → o ≡ None
    by None h = refl
    by (Some d) h = cc

-- what is found stands by itself, and is of its event
pub found_each : (P : CallNow → Type 0) (event : List ℕ) (xs : List CallNow) (c : CallNow) → Each P xs → find (λ x. bytes_eq x.opened.event event) xs ≡ Some c → P c × (c.opened.event ≡ event)
found_each P event [] c h e = cc
found_each P event (x ∷ xs) c h e = by (bytes_eq x.opened.event event) refl e (λ f. found_each P event xs c h.1 f)
  where
    by : (b : Bool) → bytes_eq x.opened.event event ≡ b → cond b (Some x) (find (λ x. bytes_eq x.opened.event event) xs) ≡ Some c
        → (find (λ x. bytes_eq x.opened.event event) xs ≡ Some c → P c × (c.opened.event ≡ event)) → P c × (c.opened.event ≡ event)
    by true same e rest = let is : x ≡ c = inside e in (subst P is h.0, ap (λ (y : CallNow). y.opened.event) (sym is) ∙ one_name x.opened.event event same)
    by false same e rest = rest e

-- a transaction that isn't live has no asked call
abbrev is_unasked : List CallNow → List ℕ × Bool → Bool
is_unasked calls p = p.1 || not (list_any (λ x. is_asked x && bytes_eq x.opened.txn p.0) calls)

module _ (s : State) (order : AreInOrder s) (pending : ArePendingIfAsked s) (h : AreOfTheirEvents s) where
  abbrev c : CoreState
  c = rebuilt s

  grown : Grown (events_again s)
  grown = grown_again s order.tokens order.records

  calls : CallsGrown c.accepted c.calls
  calls = grown.calls

  txns : TxnsGrown c.accepted (is_product c.products) c.holdings.txns
  txns = grown.txns

  decisions : DecisionsGrown c.accepted c.decisions
  decisions = grown.decisions

  all_pending : list_all (λ a. is_pending_if_asked (seen_in c a)) c.accepted ≡ true
  all_pending = sym (all_mapped is_pending_if_asked (seen_in c) c.accepted) ∙ ap (λ (es : List Seen). list_all is_pending_if_asked es) h.events ∙ pending

  pending_of : (k : List ℕ) → is_accepted c.accepted k ≡ true → is_none (verdict_in c.decisions k) ≡ is_asked_mark (mark_in c.calls k)
  pending_of k known = by (find (λ a. is_event k a.input) c.accepted) refl known
    where
      by : (o : Option Accepted) → find (λ a. is_event k a.input) c.accepted ≡ o → is_some o ≡ true → is_none (verdict_in c.decisions k) ≡ is_asked_mark (mark_in c.calls k)
      by None e g = cc
      by (Some a) e g =
          let token : token_of_event a ≡ k = token_is a k (found_passes (λ (a : Accepted). is_event k a.input) c.accepted a e) in
          let its = find_passes (λ (a : Accepted). is_event k a.input) (λ (a : Accepted). is_pending_if_asked (seen_in c a)) c.accepted a all_pending e in
          subst (λ (t : List ℕ). is_none (verdict_in c.decisions t) ≡ is_asked_mark (mark_in c.calls t)) token
          (same_of_both (is_none (verdict_in c.decisions (token_of_event a))) (is_asked_mark (mark_in c.calls (token_of_event a))) its)

  -- the mark of a call's event is how the call stands
  its_mark : (n : ℕ) (x : CallNow) → call_numbered n c.calls ≡ Some x → mark_in c.calls x.opened.event ≡ Some (mark_of x.how)
  its_mark n x stands = by (find (λ y. bytes_eq y.opened.event x.opened.event) c.calls) refl
    where
      same_call : (n m : ℕ) (x y : CallNow) → n ≡ m → call_numbered n c.calls ≡ Some x → call_numbered m c.calls ≡ Some y → x ≡ y
      same_call n m x y e f g = inside (sym f ∙ ap (λ (k : ℕ). call_numbered k c.calls) e ∙ g)

      there : list_any (λ y. bytes_eq y.opened.event x.opened.event) c.calls ≡ true
      there = found_any (λ y. y.opened.call.0 == n) (λ y. bytes_eq y.opened.event x.opened.event) c.calls x stands (its_name x.opened.event)

      by : (o : Option CallNow) → find (λ y. bytes_eq y.opened.event x.opened.event) c.calls ≡ o → option_map (λ y. mark_of y.how) o ≡ Some (mark_of x.how)
      by None e = not_both (list_any (λ y. bytes_eq y.opened.event x.opened.event) c.calls) there (none_found (λ y. bytes_eq y.opened.event x.opened.event) c.calls e)
      by (Some y) e =
          let its = found_each (StandsItself c.calls) x.opened.event c.calls y (all_stand c.calls calls.numbers) e in
          let one : n ≡ y.opened.call.0 = calls.once n y.opened.call.0 x y stands its.0 (sym its.1) in
          ap (λ (z : CallNow). Some (mark_of z.how)) (sym (same_call n y.opened.call.0 x y one stands its.0))

  waits : (n : ℕ) (x : CallNow) → IsAsked c.calls n x → is_decided c.decisions x.opened.event ≡ false
  waits n x now =
      no_verdict c.decisions x.opened.event
      (pending_of x.opened.event (calls.events n x now.stands) ∙ ap is_asked_mark (its_mark n x now.stands) ∙ asked_mark x.how ∙ now.asked)

  waiting : (k : List ℕ) → is_asked_mark (mark_in c.calls k) ≡ true → IsWaiting c.calls k
  waiting k asked = by (find (λ y. bytes_eq y.opened.event k) c.calls) refl asked
    where
      by : (o : Option CallNow) → find (λ y. bytes_eq y.opened.event k) c.calls ≡ o → is_asked_mark (option_map (λ y. mark_of y.how) o) ≡ true → IsWaiting c.calls k
      by None e g = cc
      by (Some y) e g =
          let its = found_each (StandsItself c.calls) k c.calls y (all_stand c.calls calls.numbers) e in
          record { number = y.opened.call.0; call = y; asked = record { stands = its.0; asked = sym (asked_mark y.how) ∙ g }; its_event = its.1 }

  accounted : (k : List ℕ) → is_accepted c.accepted k ≡ true → (is_decided c.decisions k ≡ true) ⊎ IsWaiting c.calls k
  accounted k known = by (is_decided c.decisions k) refl
    where
      by : (b : Bool) → is_decided c.decisions k ≡ b → (is_decided c.decisions k ≡ true) ⊎ IsWaiting c.calls k
      by true e = inl e
      by false e = inr (waiting k (sym (pending_of k known) ∙ ap is_none (undecided_verdict c.decisions k e)))

  all_unasked : list_all (λ t. is_unasked c.calls (standing t)) c.holdings.txns ≡ true
  all_unasked =
      sym (all_mapped (is_unasked c.calls) standing c.holdings.txns) ∙ ap (λ (ps : List (List ℕ × Bool)). list_all (is_unasked c.calls) ps) h.begun
      ∙ all_mapped (is_unasked c.calls) listed s.txns ∙ h.ended

  live : (n : ℕ) (x : CallNow) → IsAsked c.calls n x → has_live c.holdings.txns x.opened.txn ≡ true
  live n x now = by (txn_named x.opened.txn c.holdings.txns) refl (find_passes (λ (y : CallNow). y.opened.call.0 == n) (is_of_listed c.holdings.txns) c.calls x h.called now.stands)
    where
      alive : (t : TxnNow) → txn_named x.opened.txn c.holdings.txns ≡ Some t → (b : Bool) → t.live ≡ b → b ≡ true
      alive t e true f = refl
      alive t e false f =
          let token : t.txn.token ≡ x.opened.txn = one_name t.txn.token x.opened.txn (found_passes (λ (t : TxnNow). bytes_eq t.txn.token x.opened.txn) c.holdings.txns t e) in
          let unasked = find_passes (λ (t : TxnNow). bytes_eq t.txn.token x.opened.txn) (λ (t : TxnNow). is_unasked c.calls (standing t)) c.holdings.txns t all_unasked e in
          let none = turned (list_any (λ y. is_asked y && bytes_eq y.opened.txn t.txn.token) c.calls)
          (ap (λ (b : Bool). b || not (list_any (λ y. is_asked y && bytes_eq y.opened.txn t.txn.token) c.calls)) (sym f) ∙ unasked) in
          not_both (list_any (λ y. is_asked y && bytes_eq y.opened.txn t.txn.token) c.calls)
          (found_any (λ y. y.opened.call.0 == n) (λ y. is_asked y && bytes_eq y.opened.txn t.txn.token) c.calls x now.stands (ap₂ (λ (a b : Bool). a && b) now.asked (same_name x.opened.txn t.txn.token (sym token)))) none

      by : (o : Option TxnNow) → txn_named x.opened.txn c.holdings.txns ≡ o → is_some o ≡ true → has_live c.holdings.txns x.opened.txn ≡ true
      by None e g = cc
      by (Some t) e g = ap (is_some_with (λ (t : TxnNow). t.live)) e ∙ alive t e t.live refl

  alone : (n m : ℕ) (x y : CallNow) → IsAsked c.calls n x → IsAsked c.calls m y → x.opened.txn ≡ y.opened.txn → is_authorization x.opened.method ≡ true → n ≡ m
  alone n m x y now then same first =
      let its = find_passes (λ (z : CallNow). z.opened.call.0 == n) (is_alone c.calls) c.calls x h.alone now.stands in
      let others = first_alone (is_asked x) (is_authorization x.opened.method) (list_all (λ z. not (is_asked z && bytes_eq z.opened.txn x.opened.txn) || bytes_eq z.opened.event x.opened.event) c.calls) now.asked first its in
      let one = find_passes (λ (z : CallNow). z.opened.call.0 == m) (λ (z : CallNow). not (is_asked z && bytes_eq z.opened.txn x.opened.txn) || bytes_eq z.opened.event x.opened.event) c.calls y others then.stands in
      calls.once n m x y now.stands then.stands
      (sym (one_name y.opened.event x.opened.event
      (first_alone (is_asked y) (bytes_eq y.opened.txn x.opened.txn) (bytes_eq y.opened.event x.opened.event) then.asked (same_name y.opened.txn x.opened.txn (sym same)) one)))
    where
      first_alone : (a b d : Bool) → a ≡ true → b ≡ true → (not (a && b) || d) ≡ true → d ≡ true
      first_alone true true d e f g = g
      first_alone true false d e f g = cc
      first_alone false b d e f g = cc

  some_event : (k : List ℕ) → is_some (txn_named k c.holdings.txns) ≡ true → is_accepted c.accepted k ≡ true
  some_event k g = by (txn_named k c.holdings.txns) refl g
    where
      by : (o : Option TxnNow) → txn_named k c.holdings.txns ≡ o → is_some o ≡ true → is_accepted c.accepted k ≡ true
      by None e g = cc
      by (Some t) e g = txns.events k t e

  pub well_again : IsWell c
  well_again =
      record {
        docket = record {
          calls = record { numbers = calls.numbers; once = calls.once; alone = alone; events = calls.events };
          txns = record { tokens = txns.tokens; events = some_event; products = txns.products };
          decisions = record { once = decisions.once; events = decisions.events };
          live = live;
          waits = waits;
        };
        accounted = accounted;
      }
