-- What a test of events says is what is asked of them.
use Rattle.std.proofs.Common.{◌≡◌, Bool, true, false, List, [], ◌∷◌, refl, sym, ap, ap₂, ◌∙◌}
use Rattle.std.specs.Prelude.{◌↔◌, ◌&&◌, IsTrue, nat_le}
use Rattle.std.specs.List.{list_all}
use Rattle.std.proofs.lemmas.Bool.{and_parts}
use Rattle.iss_model.specs.declared.limits.TheConstants.{MOST_RECORDS}
use Rattle.iss_model.specs.declared.state.Seen.{Seen}
use Rattle.iss_model.specs.declared.state.State.{State}
use Rattle.iss_model.specs.Forms.{is_stamp}
use Rattle.iss_model.specs.texts.Spelling.{is_record}
use Rattle.iss_states.specs.Order.{AreInOrder, do_numbers_rise, do_stamps_rise, is_event_record}
use Rattle.iss_well_formed.specs.Events.{is_marked_well, is_pending_if_asked}
use Rattle.iss_decided.specs.Verdicts.{do_parts_agree, is_decided_by_kind}
use Rattle.iss_least.specs.Least.{is_of_least}
use Rattle.iss_sound_events.specs.Alone.{AreSoundAlone, are_in_order, are_sound_alone, is_sound_seen}
use Rattle.iss_sound_events.specs.Named.{are_named_apart, has_token}
use Rattle.iss_sound_events.proofs.NamedApart.{apart_from_start}

-- what each of a list passes of two tests
pub all_of_both : {A : Type 0} (p q : A → Bool) (xs : List A) → list_all (λ x. p x && q x) xs ≡ (list_all p xs && list_all q xs)
all_of_both p q [] = refl
all_of_both p q (x ∷ xs) =
    ap (λ (b : Bool). (p x && q x) && b) (all_of_both p q xs) ∙ crossed (p x) (q x) (list_all p xs) (list_all q xs)
  where
    crossed : (a b c d : Bool) → ((a && b) && (c && d)) ≡ ((a && c) && (b && d))
    crossed false b c d = refl
    crossed true true c d = refl
    crossed true false true d = refl
    crossed true false false d = refl

-- a record of an event has a token
pub have_tokens : (es : List Seen) → list_all is_event_record es ≡ true → list_all has_token es ≡ true
have_tokens es all =
    (and_parts (list_all has_token es) (list_all (λ e. is_record e.body) es) (sym (all_of_both has_token (λ e. is_record e.body) es) ∙ all)).0

all_six : (a b c d e f : Bool) → (((((a && b) && c) && d) && e) && f) ≡ true
    → (a ≡ true) × ((b ≡ true) × ((c ≡ true) × ((d ≡ true) × ((e ≡ true) × (f ≡ true)))))
all_six true true true true true f h = (refl, (refl, (refl, (refl, (refl, h)))))
all_six true true true true false f h = absurd cc
all_six true true true false e f h = absurd cc
all_six true true false d e f h = absurd cc
all_six true false c d e f h = absurd cc
all_six false b c d e f h = absurd cc

ordered : (s : State) → are_in_order s ≡ true → AreInOrder s
ordered s h =
    let parts =
    all_six (nat_le s.records MOST_RECORDS) (is_stamp s.now) (do_numbers_rise 0 s.records s.events) (do_stamps_rise 0 s.now s.events)
    (list_all is_event_record s.events) (are_named_apart [] s.events) h in
    record {
      few = parts.0;
      time = parts.1.0;
      numbers = parts.1.1.0;
      stamps = parts.1.1.1.0;
      tokens = sym (apart_from_start s.events (have_tokens s.events parts.1.1.1.1.0)) ∙ parts.1.1.1.1.1;
      records = parts.1.1.1.1.0;
    }

six : (a b c d e f : Bool) → a ≡ true → b ≡ true → c ≡ true → d ≡ true → e ≡ true → f ≡ true
    → (((((a && b) && c) && d) && e) && f) ≡ true
six a b c d e f p q r s t u = rw p (rw q (rw r (rw s (rw t u))))

in_order : (s : State) → AreInOrder s → are_in_order s ≡ true
in_order s order =
    six (nat_le s.records MOST_RECORDS) (is_stamp s.now) (do_numbers_rise 0 s.records s.events) (do_stamps_rise 0 s.now s.events)
    (list_all is_event_record s.events) (are_named_apart [] s.events)
    order.few order.time order.numbers order.stamps order.records
    (apart_from_start s.events (have_tokens s.events order.records) ∙ order.tokens)

-- what each event passes of the five tests
five_tests : (es : List Seen)
    → list_all is_sound_seen es
    ≡ ((((list_all is_pending_if_asked es && list_all is_marked_well es) && list_all is_decided_by_kind es) && list_all do_parts_agree es)
    && list_all (λ e. is_of_least e.verdict) es)
five_tests es =
    all_of_both (λ e. ((is_pending_if_asked e && is_marked_well e) && is_decided_by_kind e) && do_parts_agree e) (λ e. is_of_least e.verdict) es
    ∙ ap (λ (b : Bool). b && list_all (λ e. is_of_least e.verdict) es)
    (all_of_both (λ e. (is_pending_if_asked e && is_marked_well e) && is_decided_by_kind e) do_parts_agree es
    ∙ ap (λ (b : Bool). b && list_all do_parts_agree es)
    (all_of_both (λ e. is_pending_if_asked e && is_marked_well e) is_decided_by_kind es
    ∙ ap (λ (b : Bool). b && list_all is_decided_by_kind es) (all_of_both is_pending_if_asked is_marked_well es)))

all_five : (a b c d e : Bool) → ((((a && b) && c) && d) && e) ≡ true
    → (a ≡ true) × ((b ≡ true) × ((c ≡ true) × ((d ≡ true) × (e ≡ true))))
all_five true true true true e h = (refl, (refl, (refl, (refl, h))))
all_five true true true false e h = absurd cc
all_five true true false d e h = absurd cc
all_five true false c d e h = absurd cc
all_five false b c d e h = absurd cc

five : (a b c d e : Bool) → a ≡ true → b ≡ true → c ≡ true → d ≡ true → e ≡ true → ((((a && b) && c) && d) && e) ≡ true
five a b c d e p q r s t = rw p (rw q (rw r (rw s t)))

alone : (s : State) → are_sound_alone s ≡ true → AreSoundAlone s
alone s h =
    let parts = and_parts (list_all is_sound_seen s.events) (are_in_order s) h in
    let each =
    all_five (list_all is_pending_if_asked s.events) (list_all is_marked_well s.events) (list_all is_decided_by_kind s.events)
    (list_all do_parts_agree s.events) (list_all (λ e. is_of_least e.verdict) s.events) (sym (five_tests s.events) ∙ parts.0) in
    record {
      order = ordered s parts.1;
      pending = each.0;
      marked = each.1.0;
      kinds = each.1.1.0;
      parts = each.1.1.1.0;
      least = each.1.1.1.1;
    }

passes : (s : State) → AreSoundAlone s → are_sound_alone s ≡ true
passes s sound =
    ap₂ (λ (a b : Bool). a && b)
    (five_tests s.events
    ∙ five (list_all is_pending_if_asked s.events) (list_all is_marked_well s.events) (list_all is_decided_by_kind s.events)
    (list_all do_parts_agree s.events) (list_all (λ e. is_of_least e.verdict) s.events)
    sound.pending sound.marked sound.kinds sound.parts sound.least)
    (in_order s sound.order)

-- the test says what is asked
pub sound_alone : (s : State) (b : Bool) → b ≡ are_sound_alone s → IsTrue b ↔ AreSoundAlone s
sound_alone s b is = (λ h. alone s (sym is ∙ h), λ sound. is ∙ passes s sound)
