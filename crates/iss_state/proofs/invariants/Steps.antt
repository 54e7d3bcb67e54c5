-- A record is taken up, what is due is settled, and the record makes its entries: what is sound stays sound, for one record more.
use Rattle.std.specs.Prelude.{Option, unwrap_or}
use Rattle.std.proofs.Common.{List, ap, ap₂, arith, fold, nat_le, nat_lt, pos, refl, true, ℕ, ℤ, ◌+◌, ◌∙◌, ◌≡◌}
use Rattle.std.specs.Cmp.Lexicographic.{slice_cmp}
use Rattle.std.specs.FinMap as finite
use Rattle.std.specs.List.{list_all}
use Rattle.std.specs.Ordering.{nat_cmp}
use Rattle.std.proofs.lemmas.Bool.Decides.{nat_tests}
use Rattle.iss_model.specs.declared.account.Part.{Part}
use Rattle.iss_model.specs.declared.account.Part.TheVariants as part
use Rattle.iss_model.specs.declared.input.Input.{Input}
use Rattle.iss_model.specs.declared.input.Record.{Record}
use Rattle.iss_model.specs.declared.txn.Txn.{Txn}
use Rattle.iss_model.specs.Forms.{is_in_form}
use Rattle.iss_model.specs.Sums.{part_key}
use Rattle.iss_model.specs.rules.Due.{DueThing, thing_entries}
use Rattle.iss_model.specs.rules.Facts.{Accepted, not_below}
use Rattle.iss_model.specs.rules.Settings.{is_named_in}
use Rattle.iss_model.specs.rules.Stepping.{after_due, entries_of, step}
use Rattle.iss_model.specs.state.Cores.{CoreState, after_entry, core_facts, core_keeper, no_core, with_record}
use Rattle.iss_model.specs.state.Kept.{nothing_kept}
use Rattle.iss_model.proofs.Lists.{all_weaker}
use Rattle.iss_state.specs.Bounds.{AreWithin}
use Rattle.iss_state.specs.Needs.{begun_txns}
use Rattle.iss_state.specs.Stakes.{part_held, txn_tokens, whole_held}
use Rattle.iss_state.proofs.effects.Effects.{same_names}
use Rattle.iss_state.proofs.effects.Reach.{nothing_within}
use Rattle.iss_state.specs.Sound.{IsNewEvent, IsReady, IsSoundAt, is_accepted}
use Rattle.iss_state.proofs.invariants.NewEvents.{accepted_with_record, still_accepted, unaccepted_unnamed}
use Rattle.iss_state.proofs.invariants.OwnEntries.{own_enters}
use Rattle.iss_state.proofs.invariants.Settled.{Settled, due_settled, thing_enters, thing_settled}

-- ---- a record is taken up

up_to_next : (a b : ℕ) → nat_le a b ≡ true → nat_le a (b + 1) ≡ true
up_to_next a b h = grind (arith, nat_tests)

before_next : (a b : ℕ) → nat_le a b ≡ true → nat_lt a (b + 1) ≡ true
before_next a b h = grind (arith, nat_tests)

sound_with_record : (n : ℕ) (s : CoreState) (r : Record) → IsSoundAt n s → IsSoundAt n (with_record s r)
sound_with_record n s r h =
    let w = h.within in
    record {
      money = h.money;
      used = h.used;
      within = record { balances = w.balances; held = w.held; parts = w.parts; cleared = w.cleared; refunded = w.refunded; paid = w.paid; stood = w.stood; controls = w.controls };
      money_within = h.money_within;
      use_within = h.use_within;
      orderly = h.orderly;
      accepted = all_weaker (is_accepted s.accepted) (is_accepted (with_record s r).accepted) (still_accepted s r) (txn_tokens s.holdings.txns) h.accepted;
      origins = all_weaker (λ (t : Txn). nat_le t.origin s.count) (λ (t : Txn). nat_le t.origin (s.count + 1)) (λ t e. up_to_next t.origin s.count e) (begun_txns s) h.origins;
    }

-- a state is ready for a record's entries once it has taken it up
pub ready_with_record : (n : ℕ) (s : CoreState) (r : Record) → IsSoundAt n s → IsNewEvent s r.input → IsReady n (with_record s r) r.input
ready_with_record n s r h new =
    record {
      sound = sound_with_record n s r h;
      accepted = accepted_with_record s r;
      unnamed = λ token its. unaccepted_unnamed s.accepted (txn_tokens s.holdings.txns) token h.accepted (new token its);
      earlier = all_weaker (λ (t : Txn). nat_le t.origin s.count) (λ (t : Txn). nat_lt t.origin (s.count + 1)) (λ t e. before_next t.origin s.count e) (begun_txns s) h.origins;
    }

-- ---- what is due is settled

-- a state that is ready for an input stays so while what is due is settled
ready_settled : (n : ℕ) (s t : CoreState) (i : Input) → IsReady n s i → Settled n s t → IsReady n t i
ready_settled n s t i h due =
    record {
      sound = due.sound;
      accepted = λ token its. ap (λ (a : List Accepted). is_accepted a token) due.accepted ∙ h.accepted token its;
      unnamed = λ token its. ap (λ (ts : List (List ℕ)). is_named_in ts token) (same_names s t due.txns) ∙ h.unnamed token its;
      earlier = ap₂ (λ (c : ℕ) (ts : List Txn). list_all (λ (t : Txn). nat_lt t.origin c) ts) due.count due.txns ∙ h.earlier;
    }

pub ready_after_thing : (n : ℕ) (s : CoreState) (i : Input) (thing : DueThing) (at : ℕ) → IsReady n s i → IsReady n (fold after_entry s (thing_entries thing at (core_facts s))) i
ready_after_thing n s i thing at h = ready_settled n s (fold after_entry s (thing_entries thing at (core_facts s))) i h (thing_settled n s thing at h.sound)

pub ready_after_due : (n : ℕ) (s : CoreState) (i : Input) (at : ℕ) → IsReady n s i → IsReady n (after_due core_keeper s at).world i
ready_after_due n s i at h = ready_settled n s (after_due core_keeper s at).world i h (due_settled n s at h.sound)

-- ---- what stays sound

pub thing_sound : (n : ℕ) (s : CoreState) (thing : DueThing) (at : ℕ) → IsSoundAt n s → IsSoundAt n (fold after_entry s (thing_entries thing at (core_facts s)))
thing_sound n s thing at h = (thing_enters n s thing at h).sound

pub due_sound : (n : ℕ) (s : CoreState) (at : ℕ) → IsSoundAt n s → IsSoundAt n (after_due core_keeper s at).world
due_sound n s at h = (due_settled n s at h).sound

pub own_sound : (n : ℕ) (s : CoreState) (i : Input) (at : ℕ) → is_in_form i ≡ true → IsReady n s i → IsSoundAt (n + 1) (fold after_entry s (entries_of i at (core_facts s)))
own_sound n s i at form ready = (own_enters n s i at form ready).sound

-- ---- a step

pub step_sound : (n : ℕ) (s : CoreState) (r : Record) → IsSoundAt n s → is_in_form r.input ≡ true → IsNewEvent s r.input → IsSoundAt (n + 1) (step core_keeper s r).world
unfolding step
step_sound n s r h form new =
    let up = with_record s r in
    let ready = ready_after_due n up r.input r.at (ready_with_record n s r h new) in
    own_sound n (after_due core_keeper up r.at).world r.input r.at form ready

-- ---- no record

pub sound_begins : IsSoundAt 0 no_core
sound_begins =
    record {
      money = 0;
      used = 0;
      within = record { balances = none; held = none; parts = none; cleared = none; refunded = none; paid = none; stood = none; controls = tt };
      money_within = omega arith;
      use_within = omega arith;
      orderly = record { distinct = refl; unbegun = λ token e. nothing_of token };
      accepted = refl;
      origins = refl;
    }
  where
    none : AreWithin 0 nothing_kept
    none = nothing_within 0

    part_none : (token : List ℕ) (p : Part) → part_held nothing_kept token p ≡ 0
    part_none token p = ap (λ (o : Option ℤ). not_below (unwrap_or o (pos 0))) (finite.get-empty (slice_cmp nat_cmp) (part_key token p))

    nothing_of : (token : List ℕ) → whole_held nothing_kept token ≡ 0
    nothing_of token = λ i. part_none token part.G i + part_none token part.P i + part_none token part.S i
