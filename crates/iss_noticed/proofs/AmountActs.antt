-- What acts tell is no more than what transactions hold and calls ask, or than what their input is for.
use Rattle.std.proofs.Common.{◌≡◌, ◌∷◌, ◌&&◌, ◌||◌, ◌+◌, ◌≤◌, ℕ, ap, arith, Bool, false, List, [], nat_le, refl, true, inl, inr}
use Rattle.std.specs.Str.{bytes_eq}
use Rattle.std.proofs.lemmas.Bool.Decides.{nat_tests}
use Rattle.iss_model.specs.declared.decision.Reason.{Reason}
use Rattle.iss_model.specs.declared.txn.Txn.{Txn}
use Rattle.iss_model.specs.rules.Activity.{CallNow}
use Rattle.iss_model.specs.rules.Acts.{Abandons, Act, Fails, StandsIn, Tells, act_entries, captured, entries_of_acts, expired, refunded, reversed}
use Rattle.iss_model.specs.rules.Asks.{Ask}
use Rattle.iss_model.specs.rules.Pieces.{Parts, abandoned_calls_entries, in_all, parts_held}
use Rattle.iss_model.specs.rules.Settings.{is_named_in}
use Rattle.iss_model.specs.state.Cores.{CoreState, core_facts}
use Rattle.iss_model.specs.state.Kept.{Kept}
use Rattle.iss_model.proofs.Names.{one_name}
use Rattle.iss_acts.specs.Causes.{Cause}
use Rattle.iss_acts.specs.Sources.{AllMade, IsAskedCall, IsMade, IsOwnAsk, IsRow, IsSettledAsk, IsTxnOf}
use Rattle.iss_acts.specs.Stages.{Stage, stage_after}
use Rattle.iss_acts.proofs.Begun.{is_begun}
use Rattle.iss_acts.proofs.Passing.{EachPasses, both_pass, none_passes, one_passes, two_pass, where_passes}
use Rattle.iss_state.specs.Stakes.{IsOrderlyState, at_least_one, total_held, txn_tokens, whole_held}
use Rattle.iss_state.proofs.docket.Lists.{Each, both_so}
use Rattle.iss_state.proofs.effects.Abandonment.{least_one}
use Rattle.iss_state.proofs.effects.Effects.{stands_is_named}
use Rattle.iss_state.proofs.held.Acts.{IsReadyFor}
use Rattle.iss_state.proofs.invariants.Costs.{txn_stands}
use Rattle.iss_noticed.specs.Commitments.{tells_at_most}
use Rattle.iss_noticed.proofs.AddressedActs.{abandoned_asked}
use Rattle.iss_noticed.proofs.Commitments.{added_by}
use Rattle.iss_noticed.proofs.KeptNotices.{silent_passes, tells}
use Rattle.iss_noticed.proofs.News.{AreSaid, IsSaid}
use Rattle.iss_noticed.proofs.Weights.{asked_within, weight}

-- what one of these holds is part of what all hold
one_of_all : (names : List (List ℕ)) (parts : Kept) (token : List ℕ) → is_named_in names token ≡ true → whole_held parts token ≤ total_held names parts
one_of_all [] parts token h = cc
one_of_all (x ∷ xs) parts token h = by (bytes_eq x token) refl h (one_of_all xs parts token)
  where
    by : (b : Bool) → bytes_eq x token ≡ b → (b || is_named_in xs token) ≡ true → (is_named_in xs token ≡ true → whole_held parts token ≤ total_held xs parts) → whole_held parts token ≤ whole_held parts x + total_held xs parts
    by true e named rest = omega (arith, ap (whole_held parts) (one_name x token e))
    by false e named rest = omega (arith, rest named)

gateway_of_all : (g p s : ℕ) → g ≤ g + p + s
gateway_of_all g p s = omega arith

both_at_most : (most amount gateway : ℕ) → amount ≤ most → gateway ≤ most → (nat_le amount most && nat_le gateway most) ≡ true
both_at_most most amount gateway h k = both_so (nat_le amount most) (nat_le gateway most) (below amount most h) (below gateway most k)
  where
    below : (m n : ℕ) → m ≤ n → nat_le m n ≡ true
    below m n h = grind (arith, nat_tests)

module _ (by : Cause) (at : ℕ) (s : CoreState) (ready : IsReadyFor by s) (h : IsOrderlyState s) (own most : ℕ) (held : weight s ≤ most) (added : added_by by ≤ most) (told : own ≤ most) where
  asked_at_most : (amount : ℕ) → at_least_one amount ≤ weight s → amount ≤ most
  asked_at_most amount le = omega (arith, le, held, least_one amount)

  none_at_most : 0 ≤ most
  none_at_most = omega arith

  own_at_most : (ask : Ask) → IsOwnAsk (core_facts s) by at ask → ask.amount ≤ most
  own_at_most ask (inl first) = omega (arith, ap (λ (ask : Ask). ask.amount) (is_begun first).same, ap added_by first.its_input, added, least_one first.amount)
  own_at_most ask (inr more) = omega (arith, ap (λ (ask : Ask). ask.amount) more.made, ap added_by more.its_input, added, least_one more.amount)

  ask_at_most : (ask : Ask) → IsSettledAsk (core_facts s) by at ask → ask.amount ≤ most
  ask_at_most ask (inl call) = omega (arith, ap (λ (ask : Ask). ask.amount) call.is, asked_at_most call.o.amount (asked_within s call.o call.t h call.asked))
  ask_at_most ask (inr own) = own_at_most ask own.0

  whole_at_most : (t : Txn) → IsTxnOf (core_facts s) t → in_all (parts_held (core_facts s) t) ≤ most
  whole_at_most t its = omega (arith, one_of_all (txn_tokens s.holdings.txns) s.holdings.parts t.token (stands_is_named s t (txn_stands s t its)), held)

  part_at_most : (t : Txn) → IsTxnOf (core_facts s) t → (parts_held (core_facts s) t).g ≤ most
  part_at_most t its =
      let parts : Parts = parts_held (core_facts s) t in
      omega (arith, gateway_of_all parts.g parts.p parts.s, whole_at_most t its)

  abandoned_at_most : (number : ℕ) (t : Txn) (why : Reason) (calls : List CallNow) → Each (λ c. IsAskedCall (core_facts s) c.opened t) calls → EachPasses (tells (tells_at_most most)) (abandoned_calls_entries number t why calls)
  abandoned_at_most number t why [] asked = none_passes
  abandoned_at_most number t why (c ∷ calls) asked =
      two_pass refl
      (two_pass (both_at_most most c.opened.amount 0 (asked_at_most c.opened.amount (asked_within s c.opened t h asked.0)) none_at_most)
      (two_pass refl (two_pass refl (abandoned_at_most (number + 1) t why calls asked.1))))

  within : (a b : ℕ) → b ≤ a → a ≤ most → b ≤ most
  within a b le less = omega (arith, le, less)

  same_within : (a b : ℕ) → a ≡ b → b ≤ most → a ≤ most
  same_within a b e less = omega (arith, e, less)

  act_at_most : (g : Stage) (a : Act) → IsMade (core_facts s) by at g a → IsSaid (core_facts s) own a → EachPasses (tells (tells_at_most most)) (act_entries a)
  act_at_most g (Fails number o t why) made said = two_pass refl (one_passes (both_at_most most o.amount 0 (asked_at_most o.amount (asked_within s o t h made.from.1)) none_at_most))
  act_at_most g (StandsIn number ask when set) made said =
      two_pass refl
      (both_pass (both_pass (where_passes ask.amount (one_passes refl)) (where_passes ask.amount (one_passes refl)))
      (two_pass (both_at_most most ask.amount 0 (ask_at_most ask made.from.1) none_at_most) (one_passes refl)))
  act_at_most g (Abandons number t why calls parts) made said = abandoned_at_most number t why calls (abandoned_asked by at s ready t made.from.1 calls made.from.2)
  act_at_most g (Tells number reversed t amount gateway) made said =
      let all : amount ≤ most = within (in_all (parts_held (core_facts s) t)) amount said.0 (whole_at_most t made.from.0) in
      one_passes (both_at_most most amount gateway all (within amount gateway said.1 all))
  act_at_most g (Tells number expired t amount gateway) made said =
      let all : amount ≤ most = within (in_all (parts_held (core_facts s) t)) amount said.0 (whole_at_most t made.from.0) in
      one_passes (both_at_most most amount gateway all (within amount gateway said.1 all))
  act_at_most g (Tells number captured t amount gateway) made said =
      one_passes (both_at_most most amount gateway (same_within amount own said.0 told) (within (parts_held (core_facts s) t).g gateway said.1 (part_at_most t made.from.0)))
  act_at_most g (Tells number refunded t amount gateway) made said =
      let all : amount ≤ most = same_within amount own said.0 told in
      one_passes (both_at_most most amount gateway all (within amount gateway said.1 all))
  act_at_most g a made said = silent_passes (tells_at_most most) a refl refl refl

  acts_at_most : (g : Stage) (acts : List Act) → AllMade (core_facts s) by at g acts → AreSaid (core_facts s) own acts → EachPasses (tells (tells_at_most most)) (entries_of_acts acts)
  acts_at_most g [] made said = none_passes
  acts_at_most g (a ∷ acts) made said = both_pass (act_at_most g a made.0 said.0) (acts_at_most (stage_after g a) acts made.1 said.1)

  pub row_at_most : (acts : List Act) → IsRow (core_facts s) by at acts → AreSaid (core_facts s) own acts → EachPasses (tells (tells_at_most most)) (entries_of_acts acts)
  row_at_most acts row said = acts_at_most row.first acts row.made said
