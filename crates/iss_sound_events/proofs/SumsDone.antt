-- What a test of sums says is what is asked of them.
use Rattle.std.proofs.Common.{◌≡◌, ◌≤◌, ◌∙◌, ◌+◌, ℕ, Bool, true, false, cond, List, [], ◌∷◌, nat_le, refl, sym, ap, ap₂, arith}
use Rattle.std.specs.Prelude.{◌↔◌, ◌&&◌, ◌==◌, Option, Some, None, IsTrue, is_none, is_some}
use Rattle.std.specs.List.{list_all}
use Rattle.std.specs.Str.{bytes_eq}
use Rattle.std.proofs.lemmas.Bool.{and_parts, eqb-true, le-leb, leb-true}
use Rattle.std.proofs.lemmas.Bool.Decides.{Decides-eqb}
use Rattle.iss_model.specs.declared.input.Input.{Input}
use Rattle.iss_model.specs.declared.input.Input.TheVariants as input
use Rattle.iss_model.specs.declared.limits.TheConstants.{GREATEST_AMOUNT}
use Rattle.iss_model.specs.declared.state.Carried.{Carried}
use Rattle.iss_model.specs.declared.state.Seen.{Seen}
use Rattle.iss_model.specs.declared.state.State.{State}
use Rattle.iss_model.specs.Forms.{is_amount, is_in_form}
use Rattle.iss_model.proofs.Names.{its_name, one_name}
use Rattle.iss_index.specs.Places.{place_of}
use Rattle.iss_states.specs.Order.{is_event_record}
use Rattle.iss_states.specs.Rebuilding.{carried_named, is_done}
use Rattle.iss_well_formed.specs.Txns.{AreWhatWasDone, HasNothingDone, cleared_amount, done_total, is_fair, refunded_amount}
use Rattle.iss_decided.specs.Approved.{AreWithinApproved, approved_total}
use Rattle.iss_sound_events.specs.declared.totals.Total.{Total}
use Rattle.iss_sound_events.specs.Alone.{AreSoundAlone}
use Rattle.iss_sound_events.specs.Done.{AreNamesOf, HasSumsDone, are_sums_done, done_in, done_txn, is_among_if_done, is_as_done, is_as_total, is_as_totalled, is_listed_if_done, is_none_or_passes, is_within_approved, settled_txn, settles_nothing}
use Rattle.iss_sound_events.specs.Totals.{AreTotalsOf, total_of}
use Rattle.iss_sound_events.proofs.Sized.{form_of}

-- done of listed transactions ----

same_passes : (p q : List ℕ → Bool) (o : Option (List ℕ)) → ((token : List ℕ) → p token ≡ q token)
    → is_none_or_passes p o ≡ is_none_or_passes q o
same_passes p q None same = refl
same_passes p q (Some token) same = same token

-- what is tested by names is tested by what is listed
pub among_listed : (names : List (List ℕ)) (ts : List Carried) (es : List Seen) → AreNamesOf names ts
    → list_all (is_among_if_done names) es ≡ list_all (is_listed_if_done ts) es
among_listed names ts [] are = refl
among_listed names ts (e ∷ es) are =
    ap₂ (λ (a b : Bool). a && b)
    (same_passes (λ token. is_some (place_of token names)) (λ token. is_some (carried_named token ts)) (done_txn e.verdict e.body.input) are)
    (among_listed names ts es are)

-- if no event is a done clearing or refund, each such one is of a listed transaction
pub none_settled : (ts : List Carried) (es : List Seen) → list_all settles_nothing es ≡ true → true ≡ list_all (is_listed_if_done ts) es
none_settled ts [] none = refl
none_settled ts (e ∷ es) none =
    let both = and_parts (settles_nothing e) (list_all settles_nothing es) none in
    ap₂ (λ (a b : Bool). a && b) (its (done_txn e.verdict e.body.input) both.0) (none_settled ts es both.1)
  where
    its : (o : Option (List ℕ)) → is_none o ≡ true → true ≡ is_none_or_passes (λ token. is_some (carried_named token ts)) o
    its None h = refl
    its (Some token) h = cc

-- nothing is done of a transaction that isn't listed ----

abbrev passes_listed : List Carried → Bool → Input → Bool
passes_listed ts done i = is_none_or_passes (λ token. is_some (carried_named token ts)) (cond done (settled_txn i) None)

unlisted_cleared : (ts : List Carried) (token : List ℕ) (done : Bool) (i : Input) → carried_named token ts ≡ None
    → passes_listed ts done i ≡ true
    → cond done (cleared_amount token i) 0 ≡ 0
unlisted_cleared ts token false i none listed = refl
unlisted_cleared ts token true (input.Clearing event txn currency amount last) none listed = at (bytes_eq txn token) refl
  where
    at : (b : Bool) → bytes_eq txn token ≡ b → cond b amount 0 ≡ 0
    at false other = refl
    at true same =
        let its : is_some (carried_named txn ts) ≡ false = ap (λ (n : List ℕ). is_some (carried_named n ts)) (one_name txn token same) ∙ ap is_some none in
        absurd cc
unlisted_cleared ts token true _ none listed = refl

unlisted_refunded : (ts : List Carried) (token : List ℕ) (done : Bool) (i : Input) → carried_named token ts ≡ None
    → passes_listed ts done i ≡ true
    → cond done (refunded_amount token i) 0 ≡ 0
unlisted_refunded ts token false i none listed = refl
unlisted_refunded ts token true (input.Refund event txn currency amount) none listed = at (bytes_eq txn token) refl
  where
    at : (b : Bool) → bytes_eq txn token ≡ b → cond b amount 0 ≡ 0
    at false other = refl
    at true same =
        let its : is_some (carried_named txn ts) ≡ false = ap (λ (n : List ℕ). is_some (carried_named n ts)) (one_name txn token same) ∙ ap is_some none in
        absurd cc
unlisted_refunded ts token true _ none listed = refl

nothing_done : (ts : List Carried) (es : List Seen) → list_all (is_listed_if_done ts) es ≡ true → (token : List ℕ)
    → carried_named token ts ≡ None
    → HasNothingDone es token
nothing_done ts [] listed token none = record { cleared = refl; refunded = refl }
nothing_done ts (e ∷ es) listed token none =
    let its = and_parts (is_listed_if_done ts e) (list_all (is_listed_if_done ts) es) listed in
    let rest = nothing_done ts es its.1 token none in
    record {
      cleared = ap₂ (λ (m n : ℕ). m + n) (unlisted_cleared ts token (is_done e.verdict) e.body.input none its.0) rest.cleared;
      refunded = ap₂ (λ (m n : ℕ). m + n) (unlisted_refunded ts token (is_done e.verdict) e.body.input none its.0) rest.refunded;
    }

-- an amount in form isn't nothing
some_amount : (n m : ℕ) → is_amount n ≡ true → n + m ≡ 0 → ⊥
some_amount n m form none =
    let least = leb-true 1 n (and_parts (nat_le 1 n) (nat_le n GREATEST_AMOUNT) form).0 in
    omega (arith, least, none)

-- an event that clears or refunds is of a listed transaction, if nothing is done of one that isn't
first_listed : (ts : List Carried) (done : Bool) (i : Input) (m : (List ℕ) → ℕ) (n : (List ℕ) → ℕ) → is_in_form i ≡ true
    → ((token : List ℕ) → carried_named token ts ≡ None → cond done (cleared_amount token i) 0 + m token ≡ 0)
    → ((token : List ℕ) → carried_named token ts ≡ None → cond done (refunded_amount token i) 0 + n token ≡ 0)
    → passes_listed ts done i ≡ true
first_listed ts false i m n form cleared refunded = refl
first_listed ts true (input.Clearing event txn currency amount last) m n form cleared refunded = at (carried_named txn ts) refl
  where
    at : (o : Option Carried) → carried_named txn ts ≡ o → is_some o ≡ true
    at (Some t) found = refl
    at None none =
        let whole : cond (bytes_eq txn txn) amount 0 ≡ amount = ap (λ (b : Bool). cond b amount 0) (its_name txn) in
        absurd (some_amount amount (m txn) form (ap (λ (k : ℕ). k + m txn) (sym whole) ∙ cleared txn none))
first_listed ts true (input.Refund event txn currency amount) m n form cleared refunded = at (carried_named txn ts) refl
  where
    at : (o : Option Carried) → carried_named txn ts ≡ o → is_some o ≡ true
    at (Some t) found = refl
    at None none =
        let whole : cond (bytes_eq txn txn) amount 0 ≡ amount = ap (λ (b : Bool). cond b amount 0) (its_name txn) in
        absurd (some_amount amount (n txn) form (ap (λ (k : ℕ). k + n txn) (sym whole) ∙ refunded txn none))
first_listed ts true _ m n form cleared refunded = refl

rest_nothing : (a b : ℕ) → a + b ≡ 0 → b ≡ 0
rest_nothing a b none = omega arith

all_listed : (ts : List Carried) (es : List Seen) → list_all is_event_record es ≡ true
    → ((token : List ℕ) → carried_named token ts ≡ None → HasNothingDone es token) → list_all (is_listed_if_done ts) es ≡ true
all_listed ts [] records others = refl
all_listed ts (e ∷ es) records others =
    let its = and_parts (is_event_record e) (list_all is_event_record es) records in
    let cleared : List ℕ → ℕ = λ token. done_total (cleared_amount token) es in
    let refunded : List ℕ → ℕ = λ token. done_total (refunded_amount token) es in
    ap₂ (λ (a b : Bool). a && b)
    (first_listed ts (is_done e.verdict) e.body.input cleared refunded
    (form_of e its.0) (λ token none. (others token none).cleared) (λ token none. (others token none).refunded))
    (all_listed ts es its.1
    (λ token none. record {
      cleared =
          rest_nothing (cond (is_done e.verdict) (cleared_amount token e.body.input) 0) (cleared token) (others token none).cleared;
      refunded =
          rest_nothing (cond (is_done e.verdict) (refunded_amount token e.body.input) 0) (refunded token) (others token none).refunded;
    }))

-- the sums of listed transactions ----

-- what is tested with totals is tested with what was done
pub totalled_done : (totals : List Total) (es : List Seen) (ts : List Carried) → AreTotalsOf totals es
    → list_all (is_as_totalled totals) ts ≡ list_all (is_as_done es) ts
totalled_done totals es [] are = refl
totalled_done totals es (t ∷ ts) are =
    ap₂ (λ (a b : Bool). a && b) (one (are.cleared t.txn) (are.refunded t.txn) (are.approved t.txn)) (totalled_done totals es ts are)
  where
    one : (total_of t.txn totals).cleared ≡ (done_in es t.txn).cleared
        → (total_of t.txn totals).refunded ≡ (done_in es t.txn).refunded
        → (total_of t.txn totals).approved ≡ (done_in es t.txn).approved
        → is_as_total (total_of t.txn totals) t ≡ is_as_total (done_in es t.txn) t
    one cleared refunded approved =
        ap₂ (λ (a b : Bool). a && b)
        (ap (λ (b : Bool). b && is_fair t) (ap₂ (λ (m n : ℕ). (t.sums.cleared == m) && (t.sums.refunded == n)) cleared refunded))
        (ap (λ (n : ℕ). is_within_approved n t.sums) approved)

-- What a test of one transaction says.
record IsWell (es : List Seen) (t : Carried) : Type 0 where
  cleared : t.sums.cleared ≡ done_total (cleared_amount t.txn) es
  refunded : t.sums.refunded ≡ done_total (refunded_amount t.txn) es
  fair : is_fair t ≡ true
  held : t.sums.g + t.sums.p + t.sums.s ≤ approved_total t.txn es
  paid : t.sums.paid ≤ approved_total t.txn es + t.sums.cleared

one_well : (es : List Seen) (t : Carried) → is_as_done es t ≡ true → IsWell es t
one_well es t h =
    let cleared = t.sums.cleared == done_total (cleared_amount t.txn) es in
    let refunded = t.sums.refunded == done_total (refunded_amount t.txn) es in
    let held = nat_le (t.sums.g + t.sums.p + t.sums.s) (approved_total t.txn es) in
    let paid = nat_le t.sums.paid (approved_total t.txn es + t.sums.cleared) in
    let all = and_parts ((cleared && refunded) && is_fair t) (held && paid) h in
    let left = and_parts (cleared && refunded) (is_fair t) all.0 in
    let sums = and_parts cleared refunded left.0 in
    let within = and_parts held paid all.1 in
    record {
      cleared = eqb-true t.sums.cleared (done_total (cleared_amount t.txn) es) sums.0;
      refunded = eqb-true t.sums.refunded (done_total (refunded_amount t.txn) es) sums.1;
      fair = left.1;
      held = leb-true (t.sums.g + t.sums.p + t.sums.s) (approved_total t.txn es) within.0;
      paid = leb-true t.sums.paid (approved_total t.txn es + t.sums.cleared) within.1;
    }

well_one : (es : List Seen) (t : Carried) → IsWell es t → is_as_done es t ≡ true
well_one es t well =
    ap₂ (λ (a b : Bool). a && b)
    (ap₂ (λ (a b : Bool). a && b)
    (ap₂ (λ (a b : Bool). a && b)
    ((Decides-eqb t.sums.cleared (done_total (cleared_amount t.txn) es)).1 well.cleared)
    ((Decides-eqb t.sums.refunded (done_total (refunded_amount t.txn) es)).1 well.refunded))
    well.fair)
    (ap₂ (λ (a b : Bool). a && b)
    (le-leb (t.sums.g + t.sums.p + t.sums.s) (approved_total t.txn es) well.held)
    (le-leb t.sums.paid (approved_total t.txn es + t.sums.cleared) well.paid))

-- What a test of all transactions says.
record AreWell (es : List Seen) (ts : List Carried) : Type 0 where
  done : AreWhatWasDone es ts
  fair : list_all is_fair ts ≡ true
  approved : AreWithinApproved es ts

all_well : (es : List Seen) (ts : List Carried) → list_all (is_as_done es) ts ≡ true → AreWell es ts
all_well es [] all = record { done = tt; fair = refl; approved = tt }
all_well es (t ∷ ts) all =
    let parts = and_parts (is_as_done es t) (list_all (is_as_done es) ts) all in
    let its = one_well es t parts.0 in
    let rest = all_well es ts parts.1 in
    record {
      done = (record { cleared = its.cleared; refunded = its.refunded }, rest.done);
      fair = ap₂ (λ (a b : Bool). a && b) its.fair rest.fair;
      approved = (record { held = its.held; paid = its.paid }, rest.approved);
    }

well_all : (es : List Seen) (ts : List Carried) → AreWell es ts → list_all (is_as_done es) ts ≡ true
well_all es [] well = refl
well_all es (t ∷ ts) well =
    let fair = and_parts (is_fair t) (list_all is_fair ts) well.fair in
    ap₂ (λ (a b : Bool). a && b)
    (well_one es t
    (record {
      cleared = well.done.0.cleared;
      refunded = well.done.0.refunded;
      fair = fair.0;
      held = well.approved.0.held;
      paid = well.approved.0.paid;
    }))
    (well_all es ts (record { done = well.done.1; fair = fair.1; approved = well.approved.1 }))

done_is : (s : State) → are_sums_done s.events s.txns ≡ true → HasSumsDone s
done_is s h =
    let parts = and_parts (list_all (is_listed_if_done s.txns) s.events) (list_all (is_as_done s.events) s.txns) h in
    let well = all_well s.events s.txns parts.1 in
    record {
      done = record { listed = well.done; others = nothing_done s.txns s.events parts.0 };
      fair = well.fair;
      approved = well.approved;
    }

is_done_so : (s : State) → AreSoundAlone s → HasSumsDone s → are_sums_done s.events s.txns ≡ true
is_done_so s sound has =
    ap₂ (λ (a b : Bool). a && b)
    (all_listed s.txns s.events sound.order.records has.done.others)
    (well_all s.events s.txns (record { done = has.done.listed; fair = has.fair; approved = has.approved }))

-- the test says what is asked
pub sums_done : (s : State) (b : Bool) → AreSoundAlone s → b ≡ are_sums_done s.events s.txns → IsTrue b ↔ HasSumsDone s
sums_done s b sound is = (λ h. done_is s (sym is ∙ h), λ has. is ∙ is_done_so s sound has)
