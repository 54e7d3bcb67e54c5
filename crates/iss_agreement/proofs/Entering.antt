-- Entering entries one by one leaves what the longer book shows, and every row goes on naming only what stands.
use Rattle.std.proofs.Common.{◌≡◌, ℕ, max, List, [], ◌∷◌, ◌++◌, length, refl, sym, ◌∙◌}
use Rattle.std.specs.List.{filter_map}
use Rattle.std.proofs.lemmas.List.Elements.{filter_map-append}
use Rattle.iss_model.specs.declared.setting.Moved.TheVariants as moved
use Rattle.iss_model.specs.declared.input.Input.TheVariants as input
use Rattle.iss_model.specs.declared.entry.Entry.{Entry}
use Rattle.iss_model.specs.declared.entry.Entry.TheVariants as entry
use Rattle.iss_model.specs.declared.entry.Row.{Row}
use Rattle.iss_model.specs.Sums.{balance_changes, txn_changes, cleared_by, refunded_by, paid_by, stood_changes}
use Rattle.iss_model.specs.state.Kept.{after_changes}
use Rattle.iss_model.specs.rules.Controls.{Group, group_made, groups_of}
use Rattle.iss_model.specs.rules.Facts.{Decision, decision_of}
use Rattle.iss_model.specs.rules.Histories.{History}
use Rattle.iss_model.specs.state.Cores.{CoreState, after_entry, with_post}
use Rattle.iss_agreement.specs.Shown.{shown_state, kept_part_changes, kept_held_changes}
use Rattle.iss_agreement.proofs.Standing.{Bounds, IsStanding}
use Rattle.iss_agreement.proofs.Growing.{row_of, made-none}
use Rattle.iss_agreement.proofs.KeptLists.{txns_after, txns-more, calls_after, calls-more, outbox_after, outbox-more, sets_after, sets-more}
use Rattle.iss_agreement.proofs.KeptParties.{IsNew, users_after, users-more, cards_after, cards-more, products_after, products-more}
use Rattle.iss_agreement.proofs.Counting.{kept-more, controls_after, controls-more}

-- a history with one more row of its last record
abbrev pub with_row : History → Entry → History
with_row h e = record h { rows = h.rows ++ row_of (length h.records) e }

decisions_after : List Decision → Entry → List Decision
decisions_after ds (entry.Decided event verdict) = ds ++ record { event = event; verdict = verdict } ∷ []
decisions_after ds _ = ds

decisions-more : (rows : List Row) (n : ℕ) (e : Entry) → filter_map (λ row. decision_of row.entry) (rows ++ row_of n e) ≡ decisions_after (filter_map (λ row. decision_of row.entry) rows) e
unfolding decisions_after
decisions-more rows n (entry.Decided event verdict) = filter_map-append (λ (row : Row). decision_of row.entry) rows (row_of n (entry.Decided event verdict))
decisions-more rows n e = made-none (λ (row : Row). decision_of row.entry) rows (row_of n e) refl

groups_after : List Group → Entry → List Group
groups_after groups (entry.Conf (input.Group token group mccs)) = groups ++ record { name = group; mccs = mccs } ∷ []
groups_after groups _ = groups

groups-more : (rows : List Row) (n : ℕ) (e : Entry) → groups_of (rows ++ row_of n e) ≡ groups_after (groups_of rows) e
unfolding groups_after
groups-more rows n (entry.Conf (input.Group token group mccs)) = filter_map-append (λ (row : Row). group_made row.entry) rows (row_of n (entry.Conf (input.Group token group mccs)))
groups-more rows n e = made-none (λ (row : Row). group_made row.entry) rows (row_of n e) refl

-- what an entry does to each part of the state
by_part : CoreState → Entry → CoreState
by_part s e =
    record {
      now = s.now;
      count = s.count;
      accepted = s.accepted;
      decisions = decisions_after s.decisions e;
      cardholders = record { users = users_after s.cardholders.users e; cards = cards_after s.cardholders.cards e };
      products = products_after s.products e;
      groups = groups_after s.groups e;
      controls = controls_after s.count s.groups s.controls e;
      stand_ins = record { sets = sets_after s.stand_ins.sets e; stood = after_changes s.stand_ins.stood (stood_changes e) };
      balances = after_changes s.balances (balance_changes e);
      holdings = record {
        txns = txns_after s.holdings.txns e;
        parts = after_changes s.holdings.parts (kept_part_changes e);
        held = after_changes s.holdings.held (kept_held_changes e);
      };
      txn_sums = with_post s.txn_sums e;
      calls = calls_after s.calls e;
      outbox = outbox_after s.outbox e;
    }

entered-by_part : (s : CoreState) (e : Entry) → after_entry s e ≡ by_part s e
unfolding by_part decisions_after groups_after
entered-by_part s (entry.Conf (input.User token user)) = refl
entered-by_part s (entry.Conf (input.Card token card user product active)) = refl
entered-by_part s (entry.Conf (input.Move token (moved.Card card to))) = refl
entered-by_part s (entry.Conf (input.Move token (moved.User user to))) = refl
entered-by_part s (entry.Conf (input.Product token product currency funding timeout_ms hold_ms)) = refl
entered-by_part s (entry.Conf (input.Group token group mccs)) = refl
entered-by_part s (entry.Conf (input.Control token control currency window amount_limit usage_limit association scope offset active)) = refl
entered-by_part s (entry.Conf (input.Set token set product currency connection timeout application max day_limit active)) = refl
entered-by_part s (entry.Conf (input.Switch token product on)) = refl
entered-by_part s _ = refl

-- an entry that makes something new leaves what the longer book shows
pub entered-shown : (b : Bounds) (h : History) (e : Entry) → IsStanding b h → IsNew b h.rows e → after_entry (shown_state h) e ≡ shown_state (with_row h e)
unfolding by_part
entered-shown b h e standing new =
    let n = length h.records in
    entered-by_part (shown_state h) e
    ∙ sym (λ i. record {
      now = (shown_state h).now;
      count = n;
      accepted = (shown_state h).accepted;
      decisions = decisions-more h.rows n e i;
      cardholders = record { users = users-more b h.rows n e standing.rows new i; cards = cards-more b h.rows n e standing.rows new i };
      products = products-more b h.rows n e standing.rows new i;
      groups = groups-more h.rows n e i;
      controls = controls-more b h.rows n e standing.rows standing.scopes standing.count i;
      stand_ins = record { sets = sets-more h.rows n e i; stood = kept-more stood_changes h.rows n e i };
      balances = kept-more balance_changes h.rows n e i;
      holdings = record {
        txns = txns-more b h.rows n e standing.rows i;
        parts = kept-more kept_part_changes h.rows n e i;
        held = kept-more kept_held_changes h.rows n e i;
      };
      txn_sums = record {
        cleared = kept-more (txn_changes cleared_by) h.rows n e i;
        refunded = kept-more (txn_changes refunded_by) h.rows n e i;
        paid = kept-more (txn_changes paid_by) h.rows n e i;
      };
      calls = calls-more b h.rows n e standing.rows new i;
      outbox = outbox-more b h.rows n e standing.rows new i;
    })
