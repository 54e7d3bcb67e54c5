-- Notices pass the test exactly if they are sound.
use Rattle.std.proofs.Common.{◌≡◌, ◌&&◌, ◌+◌, ◌*◌, ◌≤◌, ◌∷◌, ℕ, ap₂, arith, Bool, cond, false, filter, length, List, [], nat_le, refl, subst, suc, sym, true}
use Rattle.std.specs.Prelude.{◌↔◌, IsTrue}
use Rattle.std.specs.List.{list_all}
use Rattle.std.proofs.lemmas.Bool.{and_parts}
use Rattle.std.proofs.lemmas.Bool.Decides.{nat_tests}
use Rattle.iss_model.specs.declared.call.Notice.{Notice}
use Rattle.iss_model.specs.declared.state.State.{State}
use Rattle.iss_model.specs.rules.Activity.{CallNow, TxnNow, is_asked}
use Rattle.iss_model.specs.state.Cores.{CoreState}
use Rattle.iss_state.proofs.docket.Lists.{both_so}
use Rattle.iss_states.specs.Rebuilding.{rebuilt}
use Rattle.iss_well_formed.specs.Notices.{do_notices_rise, is_told_well}
use Rattle.iss_noticed.specs.Addressed.{names_its_call, names_its_txn}
use Rattle.iss_noticed.specs.Commitments.{most_of_records, tells_at_most}
use Rattle.iss_noticed.specs.GivenBack.{gives_back_within}
use Rattle.iss_bounded.specs.Bounds.{asked_number}
use Rattle.iss_bounded.specs.Many.{live_number}
use Rattle.iss_known.specs.Known.{IsKnownOf, KnownNow}
use Rattle.iss_sound_parts.specs.declared.totals.Open.{Open}
use Rattle.iss_sound_parts.specs.Totals.{IsOpenIn}
use Rattle.iss_sound_parts.specs.Notices.{do_notices_pass}
use Rattle.iss_sound_parts.specs.SoundNotices.{AreNoticesSound}

-- numbers ----

asked_is : (calls : List CallNow) → asked_number calls ≡ length (filter is_asked calls)
asked_is [] = refl
asked_is (x ∷ xs) = by (is_asked x) (asked_is xs)
  where
    by : (b : Bool) → asked_number xs ≡ length (filter is_asked xs) → cond b 1 0 + asked_number xs ≡ length (cond b (x ∷ filter is_asked xs) (filter is_asked xs))
    by true e = let next : 1 + asked_number xs ≡ suc (length (filter is_asked xs)) = omega (arith, e) in next
    by false e = let same : 0 + asked_number xs ≡ length (filter is_asked xs) = omega (arith, e) in same

live_is : (txns : List TxnNow) → live_number txns ≡ length (filter (λ t. t.live) txns)
live_is [] = refl
live_is (x ∷ xs) = by x.live (live_is xs)
  where
    by : (b : Bool) → live_number xs ≡ length (filter (λ (t : TxnNow). t.live) xs)
        → cond b 1 0 + live_number xs ≡ length (cond b (x ∷ filter (λ (t : TxnNow). t.live) xs) (filter (λ (t : TxnNow). t.live) xs))
    by true e = let next : 1 + live_number xs ≡ suc (length (filter (λ (t : TxnNow). t.live) xs)) = omega (arith, e) in next
    by false e = let same : 0 + live_number xs ≡ length (filter (λ (t : TxnNow). t.live) xs) = omega (arith, e) in same

at_most : (n m : ℕ) → nat_le n m ≡ true → n ≤ m
at_most n m h = grind (arith, nat_tests)

passes_most : (n m : ℕ) → n ≤ m → nat_le n m ≡ true
passes_most n m h = grind (arith, nat_tests)

-- what each notice has ----

-- a notice is told well, named well, and tells and gives back within bounds
record AreEachSound (ts : List TxnNow) (cs : List CallNow) (most : ℕ) (ns : List Notice) : Type 0 where
  told : list_all is_told_well ns ≡ true
  txns : list_all (names_its_txn ts) ns ≡ true
  calls : list_all (names_its_call cs) ns ≡ true
  amounts : list_all (tells_at_most most) ns ≡ true
  given : list_all gives_back_within ns ≡ true

-- the test of a notice, by transactions and calls
abbrev is_sound_by : List TxnNow → List CallNow → ℕ → Notice → Bool
is_sound_by txns calls most n =
    is_told_well n && (names_its_txn txns n && (names_its_call calls n && (tells_at_most most n && gives_back_within n)))

module _ (ts : List TxnNow) (cs : List CallNow) (most : ℕ) where
  each_sound : (ns : List Notice) → list_all (is_sound_by ts cs most) ns ≡ true → AreEachSound ts cs most ns
  each_sound [] h = record { told = refl; txns = refl; calls = refl; amounts = refl; given = refl }
  each_sound (n ∷ ns) h =
      let both = and_parts (is_sound_by ts cs most n) (list_all (is_sound_by ts cs most) ns) h in
      let one = and_parts (is_told_well n) (names_its_txn ts n && (names_its_call cs n && (tells_at_most most n && gives_back_within n))) both.0 in
      let two = and_parts (names_its_txn ts n) (names_its_call cs n && (tells_at_most most n && gives_back_within n)) one.1 in
      let three = and_parts (names_its_call cs n) (tells_at_most most n && gives_back_within n) two.1 in
      let four = and_parts (tells_at_most most n) (gives_back_within n) three.1 in
      let rest = each_sound ns both.1 in
      record {
        told = both_so (is_told_well n) (list_all is_told_well ns) one.0 rest.told;
        txns = both_so (names_its_txn ts n) (list_all (names_its_txn ts) ns) two.0 rest.txns;
        calls = both_so (names_its_call cs n) (list_all (names_its_call cs) ns) three.0 rest.calls;
        amounts = both_so (tells_at_most most n) (list_all (tells_at_most most) ns) four.0 rest.amounts;
        given = both_so (gives_back_within n) (list_all gives_back_within ns) four.1 rest.given;
      }

  each_passes : (ns : List Notice) → AreEachSound ts cs most ns → list_all (is_sound_by ts cs most) ns ≡ true
  each_passes [] h = refl
  each_passes (n ∷ ns) h =
      let told = and_parts (is_told_well n) (list_all is_told_well ns) h.told in
      let named = and_parts (names_its_txn ts n) (list_all (names_its_txn ts) ns) h.txns in
      let called = and_parts (names_its_call cs n) (list_all (names_its_call cs) ns) h.calls in
      let amounts = and_parts (tells_at_most most n) (list_all (tells_at_most most) ns) h.amounts in
      let given = and_parts (gives_back_within n) (list_all gives_back_within ns) h.given in
      both_so (is_sound_by ts cs most n) (list_all (is_sound_by ts cs most) ns)
      (both_so (is_told_well n) (names_its_txn ts n && (names_its_call cs n && (tells_at_most most n && gives_back_within n))) told.0
      (both_so (names_its_txn ts n) (names_its_call cs n && (tells_at_most most n && gives_back_within n)) named.0
      (both_so (names_its_call cs n) (tells_at_most most n && gives_back_within n) called.0
      (both_so (tells_at_most most n) (gives_back_within n) amounts.0 given.0))))
      (each_passes ns (record { told = told.1; txns = named.1; calls = called.1; amounts = amounts.1; given = given.1 }))

-- all of them ----

-- the test by what a core has
abbrev do_pass_by : List TxnNow → List CallNow → ℕ → ℕ → ℕ → ℕ → List Notice → Bool
do_pass_by txns calls asked live records made ns =
    (nat_le (length calls) records && nat_le (made + 2 * asked + live) (4 * records))
    && (do_notices_rise 0 made ns && list_all (is_sound_by txns calls (most_of_records records)) ns)

module _ (s : State) where
  abbrev c : CoreState
  c = rebuilt s

  abbrev asked : ℕ
  asked = asked_number c.calls

  abbrev live : ℕ
  live = live_number c.holdings.txns

  abbrev most : ℕ
  most = most_of_records s.records

  in_sight : s.made + 2 * asked + live ≡ s.made + 2 * length (filter is_asked c.calls) + length (filter (λ t. t.live) c.holdings.txns)
  in_sight = ap₂ (λ (a l : ℕ). s.made + 2 * a + l) (asked_is c.calls) (live_is c.holdings.txns)

  sound_if : do_pass_by c.holdings.txns c.calls asked live s.records s.made s.notices ≡ true → AreNoticesSound s
  sound_if h =
      let one = and_parts (nat_le (length c.calls) s.records && nat_le (s.made + 2 * asked + live) (4 * s.records)) (do_notices_rise 0 s.made s.notices && list_all (is_sound_by c.holdings.txns c.calls most) s.notices) h in
      let few = and_parts (nat_le (length c.calls) s.records) (nat_le (s.made + 2 * asked + live) (4 * s.records)) one.0 in
      let two = and_parts (do_notices_rise 0 s.made s.notices) (list_all (is_sound_by c.holdings.txns c.calls most) s.notices) one.1 in
      let each = each_sound c.holdings.txns c.calls most s.notices two.1 in
      record {
        told = record { numbers = two.0; each = each.told };
        addressed = record { txns = each.txns; calls = each.calls };
        amounts = each.amounts;
        given = each.given;
        few = record {
          calls = at_most (length c.calls) s.records few.0;
          notices = subst (λ (n : ℕ). n ≤ 4 * s.records) in_sight (at_most (s.made + 2 * asked + live) (4 * s.records) few.1);
        };
      }

  pass_if : AreNoticesSound s → do_pass_by c.holdings.txns c.calls asked live s.records s.made s.notices ≡ true
  pass_if h =
      both_so (nat_le (length c.calls) s.records && nat_le (s.made + 2 * asked + live) (4 * s.records)) (do_notices_rise 0 s.made s.notices && list_all (is_sound_by c.holdings.txns c.calls most) s.notices)
      (both_so (nat_le (length c.calls) s.records) (nat_le (s.made + 2 * asked + live) (4 * s.records)) (passes_most (length c.calls) s.records h.few.calls)
      (passes_most (s.made + 2 * asked + live) (4 * s.records) (subst (λ (n : ℕ). n ≤ 4 * s.records) (sym in_sight) h.few.notices)))
      (both_so (do_notices_rise 0 s.made s.notices) (list_all (is_sound_by c.holdings.txns c.calls most) s.notices) h.told.numbers
      (each_passes c.holdings.txns c.calls most s.notices
      (record { told = h.told.each; txns = h.addressed.txns; calls = h.addressed.calls; amounts = h.amounts; given = h.given })))

  pass_is : IsTrue (do_pass_by c.holdings.txns c.calls asked live s.records s.made s.notices) ↔ AreNoticesSound s
  pass_is = (sound_if, pass_if)

-- Notices pass exactly if they are sound.
pub notices_pass : (k : KnownNow) (o : Open) (s : State) → IsKnownOf k (rebuilt s) → IsOpenIn o s → IsTrue (do_notices_pass k o s.records s.made s.notices) ↔ AreNoticesSound s
notices_pass k o s known counted =
    subst (λ (b : Bool). IsTrue b ↔ AreNoticesSound s)
    (λ i. do_pass_by (sym known.txns i) (sym known.calls i) (sym counted.asked i) (sym counted.live i) s.records s.made s.notices) (pass_is s)
