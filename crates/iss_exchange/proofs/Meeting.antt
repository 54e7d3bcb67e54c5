-- What an exchange in code comes to by a move, and what its three lists add up to.
use Rattle.std.proofs.Common.{◌≡◌, ℕ, ◌≤◌, ◌+ℤ◌, List, length, map, sym, ap, subst, ◌∙◌, arith}
use Rattle.std.specs.List.{filter_map}
use Rattle.iss_model.specs.declared.call.Notice.{Notice}
use Rattle.iss_model.specs.declared.call.Opened.{Opened}
use Rattle.iss_model.specs.declared.currency.Currency.{Currency}
use Rattle.iss_model.specs.declared.input.Record.{Record}
use Rattle.iss_model.specs.declared.limits.TheConstants.{MOST_RECORDS}
use Rattle.iss_model.specs.rules.Activity.{CallNow}
use Rattle.iss_model.specs.rules.Facts.{Facts}
use Rattle.iss_model.specs.rules.Histories.{IsLegal}
use Rattle.iss_model.specs.state.Cores.{core_facts, core_of}
use Rattle.iss_agreement.proofs.CoreOfBook.{facts_history}
use Rattle.iss_state.specs.Numbers.{CallsNumberedFrom}
use Rattle.iss_state.specs.Sound.{AreInForm}
use Rattle.iss_state.proofs.calls.FewSteps.{few_of_records}
use Rattle.iss_state.proofs.invariants.Legal.{records_numbered}
use Rattle.iss_core.specs.Values.{CoreNow, CoreStandsFor}
use Rattle.iss_core.proofs.OnBook.{facts_on_book}
use Rattle.iss_core.specs.Views.{asked_openings}
use Rattle.iss_exchange_laws.specs.declared.moves.Move.{Move}
use Rattle.iss_exchange_laws.specs.Exchanges.{Exchange}
use Rattle.iss_exchange_laws.specs.Gaps.{Amount, sum_of}
use Rattle.iss_exchange_laws.specs.Laws.{facts_of}
use Rattle.iss_exchange.specs.declared.gaps.Gap.{Gap}
use Rattle.iss_exchange.specs.declared.sides.Sides.{Sides}
use Rattle.iss_exchange.specs.Amounts.{amount_asked, amount_noted, amount_voided}
use Rattle.iss_exchange.specs.Standing.{AreStanding, Becomes, exchange_in, moved_in, shown}
use Rattle.iss_exchange.specs.Values.{EmptyIfSettled, ExchangeNow, IsReached, Meets, asked_of, moved_on, noted_of, voided_of}
use Rattle.iss_exchange.proofs.Listed.{asked_so, noted_so, voided_so}
use Rattle.iss_exchange.proofs.Reaching.{reached_even, reached_meets, reached_more}

abbrev as_now : ℕ → ℕ → ℕ → Exchange → ExchangeNow
as_now instance most limit x = record { instance = instance; most = most; limit = limit; now = x }

pub shown_moved : (s later : Sides) (m : Move) → Becomes s (moved_in s m) later → shown later ≡ moved_on (shown s) m
shown_moved s later m h =
    ap (λ (n : ℕ). as_now n later.gateway.most later.gateway.limit (exchange_in later)) h.instance
    ∙ ap (λ (n : ℕ). as_now s.instance n later.gateway.limit (exchange_in later)) h.most
    ∙ ap (λ (n : ℕ). as_now s.instance s.gateway.most n (exchange_in later)) h.limit
    ∙ ap (λ (x : Exchange). as_now s.instance s.gateway.most s.gateway.limit x) h.is

pub moved_reached : (s later : Sides) (m : Move) → Becomes s (moved_in s m) later → IsReached (shown s) → IsReached (shown later)
moved_reached s later m h reached = subst IsReached (sym (shown_moved s later m h)) (reached_more (shown s) m reached)

-- the calls that a core tells are numbered, and few ----

told_calls : (c : CoreNow) (rs : List Record) → CoreStandsFor c rs → (core_facts c.state).calls ≡ (core_of rs).calls
told_calls c rs stands = ap (λ (f : Facts). f.calls) (facts_on_book c rs stands ∙ sym (facts_history rs))

pub calls_numbered : (c : CoreNow) (rs : List Record) → CoreStandsFor c rs → IsLegal rs → AreInForm rs → CallsNumberedFrom 1 (core_facts c.state).calls
calls_numbered c rs stands legal form = subst (CallsNumberedFrom 1) (sym (told_calls c rs stands)) (records_numbered rs legal form)

pub calls_few : (c : CoreNow) (rs : List Record) → CoreStandsFor c rs → IsLegal rs → length rs ≤ MOST_RECORDS → length (core_facts c.state).calls ≤ MOST_RECORDS
calls_few c rs stands legal room =
    within (length (core_facts c.state).calls) (length (core_of rs).calls) (length rs) MOST_RECORDS (ap (λ (calls : List CallNow). length calls) (told_calls c rs stands)) (few_of_records rs legal).calls room
  where
    within : (a b n m : ℕ) → a ≡ b → b ≤ n → n ≤ m → a ≤ m
    within a b n m e h k = omega (arith, e, h, k)

-- the three lists ----

pub asked_told : (s : Sides) (x : ExchangeNow) (c : Currency) (told slice : List Opened) (amounts : List Amount) → AreStanding s → shown s ≡ x → told ≡ asked_openings (core_facts s.core.state)
    → slice ≡ told → amounts ≡ filter_map (amount_asked s.instance s.gateway.books c) slice → amounts ≡ asked_of x c
asked_told s x c told slice amounts h is openings same made =
    subst (λ (x : ExchangeNow). amounts ≡ asked_of x c) is
    (asked_so s.instance s.gateway.books c (facts_of (exchange_in s)) slice amounts
    (same ∙ openings ∙ ap (λ (f : Facts). asked_openings f) (facts_on_book s.core s.records.items h.core)) made)

pub voided_told : (s : Sides) (x : ExchangeNow) (c : Currency) (told slice : List Opened) (waits slice_2 : List Notice) (amounts : List Amount) → AreStanding s → shown s ≡ x
    → told ≡ map (λ (call : CallNow). call.opened) (core_facts s.core.state).calls → waits ≡ (core_facts s.core.state).pending → slice ≡ told → slice_2 ≡ waits
    → amounts ≡ filter_map (amount_voided s.instance s.gateway.books slice_2 c) slice → amounts ≡ voided_of x c
voided_told s x c told slice waits slice_2 amounts h is calls pending same same_2 made =
    subst (λ (x : ExchangeNow). amounts ≡ voided_of x c) is
    (voided_so s.instance s.gateway.books c (facts_of (exchange_in s)) slice slice_2 amounts
    (same ∙ calls ∙ ap (λ (f : Facts). map (λ (call : CallNow). call.opened) f.calls) (facts_on_book s.core s.records.items h.core))
    (same_2 ∙ pending ∙ ap (λ (f : Facts). f.pending) (facts_on_book s.core s.records.items h.core)) made)

pub noted_told : (s : Sides) (x : ExchangeNow) (c : Currency) (waits slice : List Notice) (amounts : List Amount) → AreStanding s → shown s ≡ x → waits ≡ (core_facts s.core.state).pending
    → slice ≡ waits → amounts ≡ filter_map (amount_noted s.gateway.books c) slice → amounts ≡ noted_of x c
noted_told s x c waits slice amounts h is pending same made =
    subst (λ (x : ExchangeNow). amounts ≡ noted_of x c) is
    (noted_so s.gateway.books c (facts_of (exchange_in s)) slice amounts
    (same ∙ pending ∙ ap (λ (f : Facts). f.pending) (facts_on_book s.core s.records.items h.core)) made)

-- so the totals meet ----

pub meets_so : (x : ExchangeNow) (c : Currency) (g : Gap) → IsReached x → g.asked ≡ asked_of x c → g.voided ≡ voided_of x c → g.noted ≡ noted_of x c → Meets x c g
meets_so x c g reached asked voided noted =
    reached_meets x c reached
    ∙ ap (λ (xs : List Amount). sum_of xs +ℤ sum_of (voided_of x c) +ℤ sum_of (noted_of x c)) (sym asked)
    ∙ ap (λ (xs : List Amount). sum_of g.asked +ℤ sum_of xs +ℤ sum_of (noted_of x c)) (sym voided)
    ∙ ap (λ (xs : List Amount). sum_of g.asked +ℤ sum_of g.voided +ℤ sum_of xs) (sym noted)

pub empty_so : (x : ExchangeNow) (c : Currency) (g : Gap) → IsReached x → g.asked ≡ asked_of x c → g.voided ≡ voided_of x c → g.noted ≡ noted_of x c → EmptyIfSettled x g
empty_so x c g reached asked voided noted settled =
    let even = reached_even x c reached settled in
    record { asked = asked ∙ even.asked; voided = voided ∙ even.voided; noted = noted ∙ even.noted }
