-- What was cleared and refunded in a core that is made again is what the state's done events come to.
use Rattle.std.proofs.Common.{◌≡◌, ◌∙◌, ◌∷◌, ℕ, ℤ, pos, ap, Bool, cond, false, List, [], map, refl, subst, sym, true}
use Rattle.std.specs.Prelude.{Option, Some, None, option_map, unwrap_or}
use Rattle.std.specs.Cmp.Lexicographic.{slice_cmp}
use Rattle.std.specs.FinMap.Entries.{find}
use Rattle.std.specs.Ordering.{nat_cmp}
use Rattle.std.specs.Str.{bytes_eq}
use Rattle.iss_model.specs.declared.input.Input.{Input}
use Rattle.iss_model.specs.declared.input.Record.{Record}
use Rattle.iss_model.specs.declared.state.Carried.{Carried}
use Rattle.iss_model.specs.declared.state.Seen.{Seen}
use Rattle.iss_model.specs.declared.state.State.{State}
use Rattle.iss_model.specs.rules.Activity.{TxnNow, txn_named}
use Rattle.iss_model.specs.rules.Facts.{not_below}
use Rattle.iss_model.specs.rules.Histories.{IsLegal}
use Rattle.iss_model.specs.state.Cores.{CoreState, core_of}
use Rattle.iss_model.proofs.Names.{one_name}
use Rattle.iss_state.specs.Pending.{IsWell}
use Rattle.iss_state.proofs.calls.Legal.{nothing_well}
use Rattle.iss_state.proofs.calls.Steps.{step_well}
use Rattle.iss_state.proofs.docket.Lists.{Each, inside, none_mapped}
use Rattle.iss_state.proofs.effects.Finds.{find-map, found_passes}
use Rattle.iss_state.proofs.invariants.Legal.{legal_induction}
use Rattle.iss_states.specs.Rebuilding.{carried_named, rebuilt}
use Rattle.iss_states.specs.Showing.{carried_in, shown}
use Rattle.iss_well_formed.specs.Again.{AreOfTheirEvents}
use Rattle.iss_well_formed.specs.Txns.{AreSumsDone, AreWhatWasDone, IsWhatWasDone, cleared_amount, done_total, refunded_amount}
use Rattle.iss_well_formed.proofs.DoneSums.{done_of}
use Rattle.iss_well_formed.proofs.FairAgain.{found_at, got}
use Rattle.iss_well_formed.proofs.HeldAgain.{carried_live, same_test}
use Rattle.iss_well_formed.proofs.ListedSums.{AreUnkept, sums_unkept}
use Rattle.iss_well_formed.proofs.OwnEvents.{IsOwn, step_own}
use Rattle.iss_well_formed.proofs.SumSteps.{HasDoneSums, cleared_in, done_shown, none_kept, refunded_in, step_sums, total_shown}

-- sums of a state, by token ----

-- what is carried of a token
abbrev pub carried_sum : (Carried → ℕ) → Option Carried → ℤ
carried_sum worth o = unwrap_or (option_map (λ t. pos (worth t)) o) (pos 0)

pub sum_found : (worth : Carried → ℕ) (ts : List Carried) (token : List ℕ) → found_at token (map (λ t. (t.txn, pos (worth t))) ts) ≡ carried_sum worth (carried_named token ts)
sum_found worth [] token = refl
sum_found worth (t ∷ ts) token =
    ap (λ (b : Bool). unwrap_or (cond b (Some (pos (worth t))) (find (slice_cmp nat_cmp) token (map (λ t. (t.txn, pos (worth t))) ts))) (pos 0)) (same_test token t)
    ∙ by (bytes_eq t.txn token) (sum_found worth ts token)
  where
    by : (b : Bool) → found_at token (map (λ t. (t.txn, pos (worth t))) ts) ≡ carried_sum worth (carried_named token ts)
        → unwrap_or (cond b (Some (pos (worth t))) (find (slice_cmp nat_cmp) token (map (λ t. (t.txn, pos (worth t))) ts))) (pos 0) ≡ carried_sum worth (cond b (Some t) (carried_named token ts))
    by true rest = refl
    by false rest = rest

what_of : (es : List Seen) (ts : List Carried) (token : List ℕ) (t : Carried) → AreWhatWasDone es ts → carried_named token ts ≡ Some t → IsWhatWasDone es t
what_of es [] token t h e = cc
what_of es (x ∷ ts) token t h e = by (bytes_eq x.txn token) e (λ f. what_of es ts token t h.1 f)
  where
    by : (b : Bool) → cond b (Some x) (carried_named token ts) ≡ Some t → (carried_named token ts ≡ Some t → IsWhatWasDone es t) → IsWhatWasDone es t
    by true e rest = subst (IsWhatWasDone es) (inside e) h.0
    by false e rest = rest e

module _ (s : State) (own : AreOfTheirEvents s) (h : AreSumsDone s) where
  abbrev c : CoreState
  c = rebuilt s

  total_again : (worth : Input → ℕ) → done_of c.decisions worth c.accepted ≡ done_total worth s.events
  total_again worth = total_shown c worth c.accepted ∙ ap (done_total worth) own.events

  its_token : (token : List ℕ) (t : Carried) → carried_named token s.txns ≡ Some t → t.txn ≡ token
  its_token token t e = one_name t.txn token (found_passes (λ (t : Carried). bytes_eq t.txn token) s.txns t e)

  cleared_again : (token : List ℕ) → cleared_in c token ≡ carried_sum (λ t. t.sums.cleared) (carried_named token s.txns)
  cleared_again token = got (map (λ t. (t.txn, pos t.sums.cleared)) s.txns) token ∙ sum_found (λ t. t.sums.cleared) s.txns token

  refunded_again : (token : List ℕ) → refunded_in c token ≡ carried_sum (λ t. t.sums.refunded) (carried_named token s.txns)
  refunded_again token = got (map (λ t. (t.txn, pos t.sums.refunded)) s.txns) token ∙ sum_found (λ t. t.sums.refunded) s.txns token

  pub sums_again : HasDoneSums c
  sums_again =
      record {
        cleared = λ token. cleared_again token ∙ cleared (carried_named token s.txns) token refl ∙ ap (λ (n : ℕ). pos n) (sym (total_again (cleared_amount token)));
        refunded = λ token. refunded_again token ∙ refunded (carried_named token s.txns) token refl ∙ ap (λ (n : ℕ). pos n) (sym (total_again (refunded_amount token)));
      }
    where
      cleared : (o : Option Carried) (token : List ℕ) → carried_named token s.txns ≡ o → carried_sum (λ t. t.sums.cleared) o ≡ pos (done_total (cleared_amount token) s.events)
      cleared None token e = ap (λ (n : ℕ). pos n) (sym (h.others token e).cleared)
      cleared (Some t) token e = ap (λ (n : ℕ). pos n) ((what_of s.events s.txns token t h.listed e).cleared ∙ ap (λ (k : List ℕ). done_total (cleared_amount k) s.events) (its_token token t e))

      refunded : (o : Option Carried) (token : List ℕ) → carried_named token s.txns ≡ o → carried_sum (λ t. t.sums.refunded) o ≡ pos (done_total (refunded_amount token) s.events)
      refunded None token e = ap (λ (n : ℕ). pos n) (sym (h.others token e).refunded)
      refunded (Some t) token e = ap (λ (n : ℕ). pos n) ((what_of s.events s.txns token t h.listed e).refunded ∙ ap (λ (k : List ℕ). done_total (refunded_amount k) s.events) (its_token token t e))

  not_carried : (token : List ℕ) → txn_named token c.holdings.txns ≡ None → carried_named token s.txns ≡ None
  not_carried token out =
      none_mapped (λ (t : Carried). t.sums.live) (carried_named token s.txns) (carried_live s own token ∙ ap (option_map (λ (t : TxnNow). t.live)) out)

  pub unkept_again : AreUnkept c
  unkept_again =
      record {
        cleared = λ token out. cleared_again token ∙ ap (carried_sum (λ t. t.sums.cleared)) (not_carried token out);
        refunded = λ token out. refunded_again token ∙ ap (carried_sum (λ t. t.sums.refunded)) (not_carried token out);
      }

-- what is shown ----

pub sums_done_shown : (w : CoreState) → HasDoneSums w → AreUnkept w → AreSumsDone (shown w)
sums_done_shown w sums unkept =
    record {
      listed = done_shown w sums;
      others = λ token none.
          let out = unlisted token none in
          record {
            cleared = sym (total_shown w (cleared_amount token) w.accepted) ∙ ap not_below (sym (sums.cleared token) ∙ unkept.cleared token out);
            refunded = sym (total_shown w (refunded_amount token) w.accepted) ∙ ap not_below (sym (sums.refunded token) ∙ unkept.refunded token out);
          };
    }
  where
    unlisted : (token : List ℕ) → carried_named token (shown w).txns ≡ None → txn_named token w.holdings.txns ≡ None
    unlisted token none =
        none_mapped (carried_in w) (txn_named token w.holdings.txns)
        (sym (find-map (λ (x : Carried). bytes_eq x.txn token) (λ (t : TxnNow). bytes_eq t.txn.token token) (carried_in w) (λ t. refl) w.holdings.txns) ∙ none)

-- all records ----

record IsDoneWell (c : CoreState) : Type 0 where
  well : IsWell c
  own : Each (IsOwn c.accepted) c.accepted
  sums : HasDoneSums c
  unkept : AreUnkept c

pub legal_sums_done : (rs : List Record) → IsLegal rs → AreSumsDone (shown (core_of rs))
legal_sums_done rs legal =
    let h = legal_induction (λ rs c. IsDoneWell c)
    (record { well = nothing_well; own = tt; sums = record { cleared = none_kept; refunded = none_kept }; unkept = record { cleared = λ key out. none_kept key; refunded = λ key out. none_kept key } })
    (λ rs r new h. record {
      well = step_well (core_of rs) r new h.well;
      own = step_own (core_of rs) r new h.own;
      sums = step_sums (core_of rs) r new h.well h.own h.sums;
      unkept = sums_unkept (core_of rs) r new h.well h.unkept;
    }) rs legal
    in sums_done_shown (core_of rs) h.sums h.unkept
