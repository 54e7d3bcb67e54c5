-- A core that is made again from what is shown is like the core, so the state after a record is that of the longer history.
use Rattle.std.proofs.Common.{◌≡◌, ◌∙◌, ◌++◌, ◌∷◌, ap, List, [], sym, true}
use Rattle.std.specs.List.{list_all}
use Rattle.std.proofs.lemmas.Bool.{and_parts}
use Rattle.iss_model.specs.declared.input.Record.{Record}
use Rattle.iss_model.specs.Forms.{is_in_form, is_stamp}
use Rattle.iss_model.specs.Tokens.{is_token}
use Rattle.iss_model.specs.rules.Histories.{IsLegal}
use Rattle.iss_model.specs.state.Cores.{CoreState, core_of}
use Rattle.iss_model.specs.texts.Spelling.{has_spelling, is_record, tokens_of}
use Rattle.iss_model.proofs.Lists.{all_weaker}
use Rattle.iss_agreement.specs.Likeness.{AreAlike, all_else}
use Rattle.iss_agreement.specs.Stepped.{core_after}
use Rattle.iss_agreement.proofs.CoreOfBook.{core_step}
use Rattle.iss_agreement.proofs.Likeness.{worlds_alike}
use Rattle.iss_state.specs.Sound.{AreInForm}
use Rattle.iss_states.specs.Rebuilding.{rebuilt, state_after}
use Rattle.iss_states.specs.Showing.{shown}
use Rattle.iss_states.proofs.AlikeShown.{shown_alike}
use Rattle.iss_states.proofs.Rebuilt.{events_rebuilt, settings_rebuilt}
use Rattle.iss_states.proofs.StateOfBook.{state_shown}
use Rattle.iss_rebuilt.specs.Purchases.{HasTxnSumsAgain}
use Rattle.iss_rebuilt.specs.Steps.{StateFollows}
use Rattle.iss_rebuilt.specs.Sums.{AreRecords, HasControlsAgain}
use Rattle.iss_rebuilt.proofs.BalancesAgain.{balances_rebuilt}
use Rattle.iss_rebuilt.proofs.ControlsAgain.{controls_rebuilt}
use Rattle.iss_rebuilt.proofs.DecidedAgain.{decisions_again}
use Rattle.iss_rebuilt.proofs.HeldAgain.{legal_held_rebuilt, legal_parts_rebuilt, legal_txn_sums_rebuilt}
use Rattle.iss_rebuilt.proofs.MadeSteps.{legal_calls_rebuilt, legal_txns_rebuilt}
use Rattle.iss_rebuilt.proofs.StoodAgain.{stand_ins_rebuilt}

pub legal_controls : (rs : List Record) → IsLegal rs → AreRecords rs → HasControlsAgain (core_of rs)
legal_controls rs legal form = controls_rebuilt rs legal form (legal_txns_rebuilt rs legal)

-- records are in form
are_in_form : (rs : List Record) → AreRecords rs → AreInForm rs
are_in_form rs form = all_weaker is_record (λ (r : Record). is_in_form r.input) its_form rs form
  where
    its_form : (r : Record) → is_record r ≡ true → is_in_form r.input ≡ true
    its_form r h = (and_parts (is_in_form r.input) (list_all is_token (tokens_of r.input)) (and_parts (is_stamp r.at) (has_spelling r.input) h).1).0

module _ (rs : List Record) (legal : IsLegal rs) (form : AreRecords rs) where
  rest_again : all_else (rebuilt (shown (core_of rs))) ≡ all_else (core_of rs)
  rest_again =
      λ i. record (all_else (core_of rs)) {
        accepted = events_rebuilt (core_of rs) i;
        cardholders = (settings_rebuilt rs legal i).cardholders;
        products = (settings_rebuilt rs legal i).products;
        groups = (settings_rebuilt rs legal i).groups;
        controls = legal_controls rs legal form i;
        stand_ins = stand_ins_rebuilt rs legal form i;
        balances = balances_rebuilt rs legal form i;
        holdings = record { txns = legal_txns_rebuilt rs legal i; parts = legal_parts_rebuilt rs legal (are_in_form rs form) i; held = legal_held_rebuilt rs legal (are_in_form rs form) i };
        calls = legal_calls_rebuilt rs legal i;
      }

  pub alike_again : AreAlike (rebuilt (shown (core_of rs))) (core_of rs)
  alike_again =
      let sums : HasTxnSumsAgain (core_of rs) = legal_txn_sums_rebuilt rs legal (are_in_form rs form) in
      record { rest = rest_again; decided = decisions_again rs legal; cleared = sums.cleared; refunded = sums.refunded; paid = sums.paid }

-- a core made again takes a record up as the core does
pub state_again : (rs : List Record) (r : Record) → IsLegal rs → AreRecords rs → StateFollows rs r
state_again rs r legal form =
    let c : CoreState = core_of rs in
    ap (λ s. state_after s r) (sym (state_shown rs))
    ∙ shown_alike (core_after (rebuilt (shown c)) r) (core_after c r) (worlds_alike (rebuilt (shown c)) c r (alike_again rs legal form))
    ∙ ap shown (core_step rs r)
    ∙ state_shown (rs ++ r ∷ [])
