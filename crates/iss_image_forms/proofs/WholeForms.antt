-- A sound state is in image form.
use Rattle.std.proofs.Common.{◌≡◌, ◌&&◌, refl, Bool, List, true, ℕ}
use Rattle.iss_model.specs.declared.state.State.{State}
use Rattle.iss_model.specs.Tokens.{is_token}
use Rattle.iss_sound.specs.Sound.{IsSoundState}
use Rattle.iss_sound.proofs.Apart.{settings_apart}
use Rattle.iss_restored.proofs.CoresAgain.{core_again}
use Rattle.iss_codec.specs.Places.{is_listed}
use Rattle.iss_image_lists.specs.Forms.{has_room, is_list, are_txns, are_balances, are_counters, are_sums_of_stand_ins, are_notices}
use Rattle.iss_image.specs.Images.{tokens_first}
use Rattle.iss_image.specs.Lookups.{window_in, holder_in}
use Rattle.iss_image.specs.States.{are_events, are_lists, is_in_image_form, lists_of}
use Rattle.iss_image_forms.specs.Spans.{are_spans_of_64_bits}
use Rattle.iss_image_forms.proofs.BalancesInForm.{balances_in_form}
use Rattle.iss_image_forms.proofs.CountersInForm.{counters_in_form}
use Rattle.iss_image_forms.proofs.EventsForms.{events_in_form}
use Rattle.iss_image_forms.proofs.EventsTokens.{records_have_room, time_has_room}
use Rattle.iss_image_forms.proofs.ListedKnown.{controls_listed, gateway_product_listed, known_user_listed, txn_listed}
use Rattle.iss_image_forms.proofs.NoticesForm.{notices_in_form}
use Rattle.iss_image_forms.proofs.NoticesNumbers.{made_in_form}
use Rattle.iss_image_forms.proofs.SumsInForm.{sums_in_form}
use Rattle.iss_image_forms.proofs.TxnsForm.{txns_in_form}

six_so : (a b c d e f : Bool) → a ≡ true → b ≡ true → c ≡ true → d ≡ true → e ≡ true → f ≡ true → (a && b && c && d && e && f) ≡ true
six_so a b c d e f h k l m n o = rw (h, k, l, m, n, o) refl

five_so : (a b c d e : Bool) → a ≡ true → b ≡ true → c ≡ true → d ≡ true → e ≡ true → (a && b && c && d && e) ≡ true
five_so a b c d e h k l m n = rw (h, k, l, m, n) refl

-- what a sound state has beside its events is in image form
lists_in_form : (s : State) → IsSoundState s → are_spans_of_64_bits s.counters ≡ true → are_lists (is_listed (tokens_first s.events)) s.events (lists_of s) ≡ true
lists_in_form s sound spans =
    let form = sound.formed in
    let listed : List ℕ → Bool = is_listed (tokens_first s.events) in
    six_so (are_txns listed s.txns) (are_balances listed s.balances) (are_counters listed (window_in s.events) s.counters) (are_sums_of_stand_ins listed s.sums)
    (has_room 4 s.made) (are_notices listed (holder_in s.events) s.notices)
    (txns_in_form s listed form.order form.pending form.marked sound.verdicts form.own sound.approved form.done (txn_listed s))
    (balances_in_form listed s (known_user_listed s) form.order sound.names.balances (core_again s ((settings_apart s).0 sound).0).within sound.few)
    (counters_in_form listed s (known_user_listed s) (controls_listed s) (txn_listed s) spans form.order sound.names.counters sound.bounded sound.few)
    (sums_in_form listed s (known_user_listed s) (gateway_product_listed s) form.order sound.names.stood sound.bounded sound.few)
    (made_in_form s form.order form.few)
    (notices_in_form s listed form.order form.few form.told sound.addressed sound.amounts (txn_listed s))

-- Each sound state is in image form, if the numbers among its counters' spans have 64 bits.
pub whole_in_form : (s : State) → IsSoundState s → are_spans_of_64_bits s.counters ≡ true → is_in_image_form s ≡ true
whole_in_form s sound spans =
    let form = sound.formed in
    let tokens = tokens_first s.events in
    let events = events_in_form s form.order form.judged form.marked sound.verdicts sound.reasons in
    five_so (has_room 4 s.records) (has_room 8 s.now) (is_list is_token tokens) (are_events tokens s.events) (are_lists (is_listed tokens) s.events (lists_of s))
    (records_have_room s form.order) (time_has_room s form.order) events.0 events.1 (lists_in_form s sound spans)
