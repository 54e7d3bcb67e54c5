-- Cores that are alike show the same state.
use Rattle.std.proofs.Common.{◌≡◌, map}
use Rattle.iss_model.specs.rules.Facts.{not_below}
use Rattle.iss_model.specs.state.Cores.{CoreState}
use Rattle.iss_agreement.specs.Likeness.{AreAlike}
use Rattle.iss_states.specs.Showing.{carried_in, seen_in, shown, token_of_event}

pub shown_alike : (c d : CoreState) → AreAlike c d → shown c ≡ shown d
shown_alike c d h =
    λ i. record (shown (h.rest i)) {
      events = map (λ a. record (seen_in (h.rest i) a) { verdict = h.decided (token_of_event a) i }) (h.rest i).accepted;
      txns = map (λ t. record (carried_in (h.rest i) t) {
        sums = record ((carried_in (h.rest i) t).sums) {
          cleared = not_below (h.cleared t.txn.token i);
          refunded = not_below (h.refunded t.txn.token i);
          paid = not_below (h.paid t.txn.token i);
        };
      }) (h.rest i).holdings.txns;
    }
