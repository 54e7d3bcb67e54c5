-- A record's own entries are paid by what a record brings, so they can be entered.
use Rattle.std.specs.Prelude.{None, Some}
use Rattle.std.proofs.Common.{Bool, List, [], ap, arith, cond, find, fold, map, nat_le, nat_lt, pos, refl, subst, suc, sym, true, false, zero, ℕ, ◌*◌, ◌++◌, ◌+◌, ◌∙◌, ◌∷◌, ◌≡◌, ◌≤◌}
use Rattle.std.specs.List.{list_all}
use Rattle.std.specs.Str.{bytes_eq}
use Rattle.std.proofs.lemmas.Bool.{and_parts}
use Rattle.std.proofs.lemmas.Bool.Decides.{nat_tests}
use Rattle.iss_model.specs.declared.entry.Entry.{Entry}
use Rattle.iss_model.specs.declared.entry.Entry.TheVariants as entry
use Rattle.iss_model.specs.declared.input.Input.{Input}
use Rattle.iss_model.specs.declared.input.Input.TheVariants as input
use Rattle.iss_model.specs.declared.limits.TheConstants.{GREATEST_AMOUNT, LEAST_AMOUNT}
use Rattle.iss_model.specs.declared.txn.Txn.{Txn}
use Rattle.iss_model.specs.Forms.{is_amount, is_in_form, is_mcc}
use Rattle.iss_model.specs.Inputs.{event_token}
use Rattle.iss_model.specs.rules.Activity.{TxnNow}
use Rattle.iss_model.specs.rules.Acts.{Act, Begins, act_entries}
use Rattle.iss_model.specs.rules.Asks.{Ask, ask_count, ask_usage}
use Rattle.iss_model.specs.rules.Settings.{is_named_in}
use Rattle.iss_model.specs.rules.Stepping.{entries_of}
use Rattle.iss_model.specs.state.Cores.{CoreState, after_entry, core_facts, is_live}
use Rattle.iss_model.proofs.Lists.{neither}
use Rattle.iss_model.proofs.Names.{its_name}
use Rattle.iss_acts.specs.Causes.{ComesOf}
use Rattle.iss_acts.specs.Sources.{IsFirstAsk, IsMade, IsStart}
use Rattle.iss_acts.specs.Stages.{Fresh, Keeps, Seeks, Stage, stage_after}
use Rattle.iss_acts.proofs.Begun.{is_begun}
use Rattle.iss_acts.proofs.Walk.{FromStart, Goes, own_goes}
use Rattle.iss_state.specs.Costs.{IsPayable, input_money, input_use, money_left, use_left}
use Rattle.iss_state.specs.Effects.{Paid, PaidByAsk}
use Rattle.iss_state.specs.Needs.{Stands, begun_txns}
use Rattle.iss_state.specs.Sound.{IsReady, IsSoundAt, is_accepted, reach_of, record_reach}
use Rattle.iss_state.specs.Stakes.{at_least_one, txn_tokens}
use Rattle.iss_state.proofs.effects.Abandonment.{one_more}
use Rattle.iss_state.proofs.effects.Asks.{at_most_one}
use Rattle.iss_state.proofs.effects.Effects.{and_then, no_effect, stands_then}
use Rattle.iss_state.proofs.effects.Paid.{costs}
use Rattle.iss_state.proofs.effects.PieceEffects.{usage_effect}
use Rattle.iss_state.proofs.effects.Reach.{sums_within_more}
use Rattle.iss_state.proofs.invariants.Costs.{act_spends, known_next, orderly, spends_then, start_known}
use Rattle.iss_state.proofs.invariants.Sound.{Enters, paid_enters, sound_after_begin}

-- what an input in form brings ----

pub most_amount : (n : ℕ) → is_amount n ≡ true → n ≤ GREATEST_AMOUNT
most_amount n h = at_most n (and_parts (nat_le LEAST_AMOUNT n) (nat_le n GREATEST_AMOUNT) h).1
  where
    at_most : (n : ℕ) → nat_le n GREATEST_AMOUNT ≡ true → n ≤ GREATEST_AMOUNT
    at_most n h = grind (arith, nat_tests)

most_at_least_one : (n : ℕ) → n ≤ GREATEST_AMOUNT → at_least_one n ≤ GREATEST_AMOUNT
most_at_least_one zero le = omega arith
most_at_least_one (suc n) le = omega (arith, le)

-- an input brings no more than a record may
record IsBrought (i : Input) : Type 0 where
  money : input_money i ≤ record_reach
  usage : input_use i ≤ record_reach

four_times : (n : ℕ) → n ≤ GREATEST_AMOUNT → 4 * at_least_one n ≤ record_reach
four_times n le = omega (arith, most_at_least_one n le)

brought : (i : Input) → is_in_form i ≡ true → IsBrought i
brought (input.Load token user currency amount) form = record { money = omega (arith, most_amount amount form); usage = omega arith }
brought (input.Authorization token card currency amount mcc mid partial) form =
    let most = four_times amount (most_amount amount (and_parts (is_amount amount) (is_mcc mcc) form).0) in
    record { money = most; usage = most }
brought (input.Increment token txn currency amount) form = let most = four_times amount (most_amount amount form) in record { money = most; usage = most }
brought (input.Clearing token txn currency amount last) form = let most = most_amount amount form in record { money = omega (arith, most); usage = omega (arith, most) }
brought (input.Refund token txn currency amount) form = record { money = omega (arith, most_amount amount form); usage = omega arith }
brought _ form = record { money = omega arith; usage = omega arith }

-- an authorisation, which alone begins a transaction ----

begun_stands : (txns : List TxnNow) (row : TxnNow) → is_named_in (txn_tokens txns) row.txn.token ≡ false
    → find (λ (x : Txn). bytes_eq x.token row.txn.token) (map (λ (n : TxnNow). n.txn) (txns ++ row ∷ [])) ≡ Some row.txn
begun_stands [] row none = ap (λ (b : Bool). cond b (Some row.txn) None) (its_name row.txn.token)
begun_stands (t ∷ ts) row none =
    let both = neither (bytes_eq t.txn.token row.txn.token) (is_named_in (txn_tokens ts) row.txn.token) none in
    ap (λ (b : Bool). cond b (Some t.txn) (find (λ (x : Txn). bytes_eq x.token row.txn.token) (map (λ (n : TxnNow). n.txn) (ts ++ row ∷ [])))) both.0
    ∙ begun_stands ts row both.1

up_to_itself : (n : ℕ) → nat_le n n ≡ true
up_to_itself n = grind (arith, nat_tests)

module _ (n : ℕ) (s : CoreState) (i : Input) (at : ℕ) (form : is_in_form i ≡ true) (ready : IsReady n s i) where
  -- a transaction begins on a sound state, which stays sound, and it stands there
  record IsBegun (ask : Ask) : Type 0 where
    new : is_named_in (txn_tokens s.holdings.txns) ask.txn.token ≡ false
    its_number : ask.txn.origin ≡ s.count
    sound : IsSoundAt n (after_entry s (entry.Began ask.txn))
    stands : Stands (after_entry s (entry.Began ask.txn)) ask.txn
    least : 4 * at_least_one ask.amount ≤ record_reach

  begun : (ask : Ask) → IsFirstAsk (core_facts s) (ComesOf i) at ask → IsBegun ask
  begun ask first =
      let its = is_begun first in
      let named : ask.txn.token ≡ first.token = ap (λ (ask : Ask). ask.txn.token) its.same in
      let numbered : ask.txn.origin ≡ s.count = ap (λ (ask : Ask). ask.txn.origin) its.same in
      let own : i ≡ input.Authorization first.token first.card first.currency first.amount first.mcc first.mid first.partial = inside first.its_input in
      let event : event_token i ≡ Some first.token = ap event_token own in
      let new = ap (is_named_in (txn_tokens s.holdings.txns)) named ∙ ready.unnamed first.token event in
      record {
        new = new;
        its_number = numbered;
        sound =
            sound_after_begin n s ask.txn (ap (λ (c : ℕ). nat_le c s.count) numbered ∙ up_to_itself s.count) new
            (ap (is_accepted s.accepted) named ∙ ready.accepted first.token event) ready.sound;
        stands = begun_stands s.holdings.txns (record { txn = ask.txn; live = is_live s.holdings.txns ask.txn.token }) new;
        least = subst (λ (m : ℕ). 4 * at_least_one m ≤ record_reach) (sym (ap (λ (ask : Ask). ask.amount) its.same)) (subst (λ (m : ℕ). m ≤ record_reach) (ap input_money own) (brought i form).money);
      }
    where
      inside : {j : Input} → ComesOf i ≡ ComesOf j → i ≡ j
      inside e = cc

  -- use is counted, and an ask is paid
  begun_enters : (ask : Ask) (es : List Entry) → IsBegun ask → PaidByAsk ask.amount (fold after_entry s (act_entries (Begins ask))) es → Enters (n + 1) s (act_entries (Begins ask) ++ es)
  begun_enters ask es its p =
      let s1 = after_entry s (entry.Began ask.txn) in
      let e1 = usage_effect s1 ask.txn (pos ask.amount) (ask_count ask) ask.at its.sound.orderly its.stands in
      let paid : Paid record_reach record_reach s1 (entry.Usage (ask_usage ask) ∷ es) =
      costs record_reach record_reach (and_then e1 p.effect) (omega (arith, p.money, its.least)) (omega (arith, p.usage, its.least, at_most_one ask.is_first, one_more ask.amount)) in
      let rest = paid_enters n (n + 1) (omega arith) (omega arith) paid its.sound in
      record {
        fit = (record { unknown = its.new; later = ap (λ (c : ℕ). list_all (λ x. nat_lt x.origin c) (begun_txns s)) its.its_number ∙ ready.earlier }, rest.fit);
        within = (sums_within_more its.sound.money (reach_of (n + 1)) its.sound.used (reach_of (n + 1)) s1 (omega (arith, its.sound.money_within)) (omega (arith, its.sound.use_within)) its.sound.within, rest.within);
        sound = rest.sound;
      }

  begun_known : (ask : Ask) → IsBegun ask → IsPayable s (Seeks ask) (fold after_entry s (act_entries (Begins ask)))
  begun_known ask its =
      let e1 = usage_effect (after_entry s (entry.Began ask.txn)) ask.txn (pos ask.amount) (ask_count ask) ask.at its.sound.orderly its.stands in
      (e1.orderly, stands_then ask.txn e1 its.stands, refl)

  -- each row ----

  -- at first entries can be entered, and later they are paid
  abbrev Comes : Stage → CoreState → List Entry → Type 0
  Comes Fresh q es = Enters (n + 1) q es
  Comes g q es = Paid (money_left (ComesOf i) g) (use_left (ComesOf i) g) q es

  paid_comes : (g : Stage) (q : CoreState) (es : List Entry) → IsPayable s g q → Paid (money_left (ComesOf i) g) (use_left (ComesOf i) g) q es → Comes g q es
  paid_comes Fresh q es known p = paid_enters n (n + 1) (omega (arith, (brought i form).money)) (omega (arith, (brought i form).usage)) p (subst (IsSoundAt n) (sym known) ready.sound)
  paid_comes (Keeps t parts) q es known p = p
  paid_comes _ q es known p = p

  next : (g : Stage) (q : CoreState) (a : Act) → IsMade (core_facts s) (ComesOf i) at g a → IsPayable s g q → IsPayable s (stage_after g a) (fold after_entry q (act_entries a))
  next g q (Begins ask) made known =
      let same : q ≡ s = subst (λ (g : Stage). IsPayable s g q) made.from.0 known in
      subst (λ (q : CoreState). IsPayable s (Seeks ask) (fold after_entry q (act_entries (Begins ask)))) (sym same) (begun_known ask (begun ask made.from.1))
  next g q a made known = known_next (ComesOf i) at s ready.sound.orderly g q a made refl known

  then_comes : (g : Stage) (q : CoreState) (a : Act) (es : List Entry) → IsMade (core_facts s) (ComesOf i) at g a → IsPayable s g q → Comes (stage_after g a) (fold after_entry q (act_entries a)) es
      → Comes g q (act_entries a ++ es)
  then_comes g q (Begins ask) es made known rest =
      let same : q ≡ s = subst (λ (g : Stage). IsPayable s g q) made.from.0 known in
      subst (λ (g : Stage). Comes g q (act_entries (Begins ask) ++ es)) (sym made.from.0)
      (subst (λ (q : CoreState). Enters (n + 1) q (act_entries (Begins ask) ++ es)) (sym same)
      (begun_enters ask es (begun ask made.from.1) (subst (λ (q : CoreState). PaidByAsk ask.amount (fold after_entry q (act_entries (Begins ask))) es) same rest)))
  then_comes g q a es made known rest = paid_comes g q (act_entries a ++ es) known (spends_then a (act_spends (ComesOf i) at s ready.sound.orderly g q a made refl known) rest)

  all_come : Goes (fold after_entry) (core_facts s) (ComesOf i) at (IsPayable s) Comes
  all_come =
      record {
        none = λ g q known. paid_comes g q [] known (costs (money_left (ComesOf i) g) (use_left (ComesOf i) g) (no_effect q (orderly (ComesOf i) at s ready.sound.orderly g q known)) (omega arith) (omega arith));
        next = next;
        then = then_comes;
      }

  row_enters : {es : List Entry} → FromStart (core_facts s) Comes s es → Enters (n + 1) s es
  row_enters {es} row = enters row.first row.starts row.holds
    where
      enters : (g : Stage) → IsStart (core_facts s) g → Comes g s es → Enters (n + 1) s es
      enters Fresh starts comes = comes
      enters (Keeps t parts) starts comes = paid_enters n (n + 1) (omega arith) (omega arith) comes ready.sound
      enters _ starts comes = elim starts [ ]

-- a record's own entries can be entered
pub own_enters : (n : ℕ) (s : CoreState) (i : Input) (at : ℕ) → is_in_form i ≡ true → IsReady n s i → Enters (n + 1) s (entries_of i at (core_facts s))
own_enters n s i at form ready =
    row_enters n s i at form ready (own_goes (core_facts s) i at s (all_come n s i at form ready) (start_known (ComesOf i) at s ready.sound.orderly))
