-- No act pays from the programme for a transaction that the gateway doesn't pay, nor gives back to it.
use Rattle.std.proofs.Common.{◌≡◌, ◌∙◌, ◌++◌, ◌∷◌, ◌&&◌, ◌+ℤ◌, ◌-◌, ◌≤◌, ◌⊎◌, ℕ, ℤ, pos, ap, arith, Bool, cond, false, fold, inl, inr, List, [], min, not, refl, subst, sym, true}
use Rattle.std.specs.Prelude.{Option, Some, None}
use Rattle.std.specs.List.{list_all}
use Rattle.std.specs.Str.{bytes_eq}
use Rattle.std.proofs.lemmas.Bool.{and_parts}
use Rattle.std.proofs.lemmas.Int.{ints}
use Rattle.std.proofs.lemmas.List.Sums.{fold-append}
use Rattle.iss_model.specs.declared.account.Account.{Account}
use Rattle.iss_model.specs.declared.account.Account.TheVariants as account
use Rattle.iss_model.specs.declared.account.Part.{Part}
use Rattle.iss_model.specs.declared.account.Part.TheVariants as part
use Rattle.iss_model.specs.declared.entry.Entry.{Entry}
use Rattle.iss_model.specs.declared.entry.Entry.TheVariants as entry
use Rattle.iss_model.specs.declared.input.Input.{Input}
use Rattle.iss_model.specs.declared.txn.Txn.{Txn}
use Rattle.iss_model.specs.Sums.{changed_at, paid_by, txn_changes}
use Rattle.iss_model.specs.rules.Activity.{TxnNow, txn_named}
use Rattle.iss_model.specs.rules.Acts.{Act, Clears, GivesBack, LetsGo, StandsIn, act_entries}
use Rattle.iss_model.specs.rules.CardReasons.{is_account_funded}
use Rattle.iss_model.specs.rules.Facts.{not_below}
use Rattle.iss_model.specs.rules.Pieces.{Parts, in_all, only_gateway, parts_held, post_entries, taken_to_clear, taken_to_release, user_account}
use Rattle.iss_model.specs.rules.Reasons.{is_some_with}
use Rattle.iss_model.specs.state.Cores.{CoreState, after_entry, core_facts}
use Rattle.iss_model.proofs.Names.{one_name}
use Rattle.iss_acts.specs.Causes.{Cause, ComesOf}
use Rattle.iss_acts.specs.Items.{FromProgramme, Item, Paying, ToProgramme, has_item, item_entry}
use Rattle.iss_acts.specs.Sources.{IsMade, IsStart, IsTxnOf}
use Rattle.iss_acts.specs.Stages.{Stage}
use Rattle.iss_acts.proofs.Passing.{EachPasses, act_passes, both_pass, gateway_passes, none_passes, one_passes, two_pass, where_passes}
use Rattle.iss_acts.proofs.Walk.{Goes}
use Rattle.iss_state.specs.Holdings.{is_part_of, may_have, part_sum}
use Rattle.iss_state.proofs.calls.Due.{its_token}
use Rattle.iss_state.proofs.docket.Lists.{not_both}
use Rattle.iss_state.proofs.held.Acts.{IsKnown, IsReadyFor, all_keep, ask_of_gateway, start_known}
use Rattle.iss_states.specs.Fairness.{changed_among}
use Rattle.iss_states.proofs.FairSums.{among_append}
use Rattle.iss_states.proofs.Found.{entry_keeps}

-- posts of the programme ----

-- money goes from the programme to a user, or back
abbrev moves_programmes : Account → Account → Bool
moves_programmes (account.Programme c) (account.User user d) = true
moves_programmes (account.User user c) (account.Programme d) = true
moves_programmes _ _ = false

-- an entry moves none of the programme's money for a transaction
abbrev moves_none : List ℕ → Entry → Bool
moves_none token (entry.Post from to amount (Some txn)) = not (moves_programmes from to && bytes_eq txn token)
moves_none token _ = true

unmoved : (from to : Account) (n : ℕ) → moves_programmes from to ≡ false → paid_by from to n ≡ pos 0
unmoved (account.Programme c) (account.User user d) n h = cc
unmoved (account.User user c) (account.Programme d) n h = cc
unmoved _ _ n h = refl

entry_unmoved : (token : List ℕ) (e : Entry) → moves_none token e ≡ true → changed_at token (txn_changes paid_by e) ≡ pos 0
entry_unmoved token (entry.Post from to amount (Some txn)) h = by (moves_programmes from to) (bytes_eq txn token) refl h
  where
    still : (z : ℤ) → z ≡ pos 0 → z +ℤ pos 0 ≡ pos 0
    still z e = omega (arith, ints, e)

    by : (a b : Bool) → moves_programmes from to ≡ a → not (a && b) ≡ true → cond b (paid_by from to amount) (pos 0) +ℤ pos 0 ≡ pos 0
    by a false e g = refl
    by true true e g = cc
    by false true e g = still (paid_by from to amount) (unmoved from to amount e)
entry_unmoved token (entry.Post from to amount None) h = refl
entry_unmoved token _ h = refl

-- what entries pay from the programme for a transaction, less what they give back to it
abbrev pub paid_among : List ℕ → List Entry → ℤ
paid_among token es = changed_among (txn_changes paid_by) token es

both_nothing : (x y z : ℤ) → x ≡ y +ℤ z → y ≡ pos 0 → z ≡ pos 0 → x ≡ pos 0
both_nothing x y z e f g = omega (arith, ints, e, f, g)

list_unmoved : (token : List ℕ) (es : List Entry) → list_all (moves_none token) es ≡ true → paid_among token es ≡ pos 0
list_unmoved token [] h = refl
list_unmoved token (e ∷ es) h =
    let both = and_parts (moves_none token e) (list_all (moves_none token) es) h in
    both_nothing (paid_among token (e ∷ es)) (changed_at token (txn_changes paid_by e)) (paid_among token es) refl (entry_unmoved token e both.0) (list_unmoved token es both.1)

unmoved_passes : (token : List ℕ) (es : List Entry) → EachPasses (moves_none token) es → paid_among token es ≡ pos 0
unmoved_passes token es h = list_unmoved token es h.all

-- acts ----

-- an act that moves none of the programme's money for any transaction
abbrev is_apart : Act → Bool
is_apart (StandsIn number ask at set) = false
is_apart (LetsGo t parts amount) = false
is_apart (Clears t parts amount at) = false
is_apart (GivesBack t amount programme) = false
is_apart _ = true

apart_item : (token : List ℕ) (a : Act) → is_apart a ≡ true → (x : Item) → has_item a x ≡ true → moves_none token (item_entry x) ≡ true
apart_item token (StandsIn number ask at set) apart x has = cc
apart_item token (LetsGo t parts amount) apart x has = cc
apart_item token (Clears t parts amount at) apart x has = cc
apart_item token (GivesBack t amount programme) apart x has = cc
apart_item token a apart (Paying FromProgramme t n) has = cc
apart_item token a apart (Paying ToProgramme t n) has = cc
apart_item token a apart _ has = refl

-- a post of another transaction
other_post : (token : List ℕ) (t : Txn) (from to : Account) (n : ℕ) → bytes_eq t.token token ≡ false → EachPasses (moves_none token) (post_entries t from to n)
other_post token t from to n other = where_passes n (one_passes (by (moves_programmes from to)))
  where
    by : (b : Bool) → not (b && bytes_eq t.token token) ≡ true
    by true = ap not other
    by false = refl

-- a post for the gateway's transactions alone, of another transaction or of one that its user pays
gateway_post : (token : List ℕ) (t : Txn) {es : List Entry} → (bytes_eq t.token token ≡ false → EachPasses (moves_none token) es) → (bytes_eq t.token token ≡ false) ⊎ (is_account_funded t.funding ≡ true)
    → EachPasses (moves_none token) (only_gateway t es)
gateway_post token t passes (inl other) = gateway_passes t (passes other)
gateway_post token t {es} passes (inr own) = subst (λ (b : Bool). EachPasses (moves_none token) (cond b [] es)) (sym own) none_passes

-- a transaction that stands stays one that the gateway pays
pub still_of_gateway : (s : CoreState) (es : List Entry) (token : List ℕ) → may_have s.holdings.txns token part.G ≡ true → may_have (fold after_entry s es).holdings.txns token part.G ≡ true
still_of_gateway s [] token h = h
still_of_gateway s (e ∷ es) token h = still_of_gateway (after_entry s e) es token (by (txn_named token s.holdings.txns) refl h)
  where
    by : (o : Option TxnNow) → txn_named token s.holdings.txns ≡ o → is_some_with (λ (t : TxnNow). is_part_of part.G t.txn.funding) o ≡ true → may_have (after_entry s e).holdings.txns token part.G ≡ true
    by None f g = cc
    by (Some x) f g =
        let later = (entry_keeps s e).txns token x f in
        ap (is_some_with (λ (t : TxnNow). is_part_of part.G t.txn.funding)) later.1 ∙ ap (λ (t : Txn). is_part_of part.G t.funding) later.2 ∙ g

-- what isn't one after entries wasn't before
pub before_too : (s : CoreState) (es : List Entry) (token : List ℕ) → may_have (fold after_entry s es).holdings.txns token part.G ≡ false → may_have s.holdings.txns token part.G ≡ false
before_too s es token out = by (may_have s.holdings.txns token part.G) refl
  where
    by : (b : Bool) → may_have s.holdings.txns token part.G ≡ b → b ≡ false
    by false e = refl
    by true e = not_both (may_have (fold after_entry s es).holdings.txns token part.G) (still_of_gateway s es token e) out

-- a row pays nothing from the programme for transactions that the gateway doesn't pay after it
abbrev pub StaysUnpaid : CoreState → List Entry → Type 0
StaysUnpaid q es = (token : List ℕ) → may_have (fold after_entry q es).holdings.txns token part.G ≡ false → paid_among token es ≡ pos 0

module _ (by : Cause) (at : ℕ) (s : CoreState) (ready : IsReadyFor by s) (early : (i : Input) → by ≡ ComesOf i → at ≤ s.now) where
  -- what is known at a stage, and that transactions of the gateway are still known
  pub record IsKnownNow (g : Stage) (q : CoreState) : Type 0 where
    pub known : IsKnown s g q
    pub kept : (token : List ℕ) → may_have s.holdings.txns token part.G ≡ true → may_have q.holdings.txns token part.G ≡ true

  -- a transaction that stands has the parts of its funding
  its_parts : (t : Txn) (p : Part) → IsTxnOf (core_facts s) t → may_have s.holdings.txns t.token p ≡ is_part_of p t.funding
  its_parts t p its =
      ap (λ (k : List ℕ). may_have s.holdings.txns k p) (sym (ap (λ (x : Txn). x.token) its.same) ∙ its_token s.holdings.txns its.token its.now its.stands)
      ∙ ap (is_some_with (λ (x : TxnNow). is_part_of p x.txn.funding)) its.stands ∙ ap (λ (x : Txn). is_part_of p x.funding) its.same

  -- one that isn't the gateway's is another one, or its user pays it
  other_or_own : (token : List ℕ) (q : CoreState) (t : Txn) → ((k : List ℕ) → may_have s.holdings.txns k part.G ≡ true → may_have q.holdings.txns k part.G ≡ true) → IsTxnOf (core_facts s) t
      → may_have q.holdings.txns token part.G ≡ false → (bytes_eq t.token token ≡ false) ⊎ (is_account_funded t.funding ≡ true)
  other_or_own token q t kept its out = with_tests (bytes_eq t.token token) (is_account_funded t.funding) refl refl
    where
      with_tests : (a b : Bool) → bytes_eq t.token token ≡ a → is_account_funded t.funding ≡ b → (a ≡ false) ⊎ (b ≡ true)
      with_tests false b e f = inl refl
      with_tests true true e f = inr refl
      with_tests true false e f =
          let here : may_have q.holdings.txns t.token part.G ≡ true = kept t.token (its_parts t part.G its ∙ ap not f) in
          not_both (may_have q.holdings.txns token part.G) (ap (λ (k : List ℕ). may_have q.holdings.txns k part.G) (sym (one_name t.token token e)) ∙ here) out

  -- a transaction that its user pays has nothing of the programme's to let go
  none_to_release : (t : Txn) (p amount : ℕ) → IsTxnOf (core_facts s) t → is_account_funded t.funding ≡ true → p ≤ (parts_held (core_facts s) t).p → min amount p ≡ 0
  none_to_release t p amount its own within = least amount p (part_sum s.holdings.parts t.token part.P) (ready.held.funded t.token part.P (its_parts t part.P its ∙ ap not own)) within
    where
      none : (amount p : ℕ) → p ≤ 0 → min amount p ≡ 0
      none amount p h = omega (arith, h)

      least : (amount p : ℕ) (z : ℤ) → z ≡ pos 0 → p ≤ not_below z → min amount p ≡ 0
      least amount p z e h = none amount p (subst (λ (z : ℤ). p ≤ not_below z) e h)

  act_unpaid : (g : Stage) (q : CoreState) (a : Act) → IsMade (core_facts s) by at g a → IsKnownNow g q → (token : List ℕ) → may_have q.holdings.txns token part.G ≡ false → paid_among token (act_entries a) ≡ pos 0
  act_unpaid g q (StandsIn number ask when set) made k token out =
      let t : Txn = ask.txn in
      unmoved_passes token (act_entries (StandsIn number ask when set))
      (two_pass refl (both_pass (both_pass (other_post token t (account.Programme t.currency) (user_account t) ask.amount (other (bytes_eq t.token token) refl)) (where_passes ask.amount (one_passes refl))) (two_pass refl (one_passes refl))))
    where
      here : may_have q.holdings.txns ask.txn.token part.G ≡ true
      here = (subst (λ (g : Stage). IsKnown s g q) made.from.0 k.known).its part.G ∙ ap not (ask_of_gateway s ready.held made.from.1)

      other : (b : Bool) → bytes_eq ask.txn.token token ≡ b → b ≡ false
      other false e = refl
      other true e = not_both (may_have q.holdings.txns token part.G) (ap (λ (k : List ℕ). may_have q.holdings.txns k part.G) (sym (one_name ask.txn.token token e)) ∙ here) out
  act_unpaid g q (LetsGo t parts amount) made k token out = by_funding (other_or_own token q t k.kept made.from.1 out)
    where
      taken : Parts
      taken = taken_to_release parts amount

      whole : EachPasses (moves_none token) (post_entries t (user_account t) (account.Programme t.currency) taken.p) → paid_among token (act_entries (LetsGo t parts amount)) ≡ pos 0
      whole back =
          unmoved_passes token (act_entries (LetsGo t parts amount))
          (both_pass (both_pass (both_pass (both_pass (both_pass (where_passes taken.p (one_passes refl)) back) (where_passes taken.g (one_passes refl))) (where_passes taken.g (one_passes refl))) (where_passes taken.s (one_passes refl))) (where_passes amount (one_passes refl)))

      by_funding : (bytes_eq t.token token ≡ false) ⊎ (is_account_funded t.funding ≡ true) → paid_among token (act_entries (LetsGo t parts amount)) ≡ pos 0
      by_funding (inl other) = whole (other_post token t (user_account t) (account.Programme t.currency) taken.p other)
      by_funding (inr own) =
          whole (subst (λ (n : ℕ). EachPasses (moves_none token) (post_entries t (user_account t) (account.Programme t.currency) n)) (sym (none_to_release t parts.p amount made.from.1 own made.from.2.of_programme)) none_passes)
  act_unpaid g q (Clears t parts amount when) made k token out =
      let taken : Parts = taken_to_clear parts amount in
      let excess : ℕ = amount - in_all taken in
      unmoved_passes token (act_entries (Clears t parts amount when))
      (both_pass (both_pass (both_pass (both_pass (both_pass (where_passes taken.g (one_passes refl)) (where_passes taken.p (one_passes refl))) (where_passes taken.s (one_passes refl)))
      (gateway_post token t (λ other. other_post token t (account.Programme t.currency) (user_account t) excess other) (other_or_own token q t k.kept made.from.1 out)))
      (where_passes amount (one_passes refl))) (where_passes excess (one_passes refl)))
  act_unpaid g q (GivesBack t amount programme) made k token out =
      unmoved_passes token (act_entries (GivesBack t amount programme))
      (both_pass (where_passes amount (one_passes refl))
      (gateway_post token t (λ other. both_pass (other_post token t (user_account t) (account.Programme t.currency) programme other) (where_passes (amount - programme) (one_passes refl))) (other_or_own token q t k.kept made.from.0 out)))
  act_unpaid g q a made k token out = unmoved_passes token (act_entries a) (act_passes a (apart_item token a refl))

  pub stay_unpaid : Goes (fold after_entry) (core_facts s) by at IsKnownNow (λ g q es. StaysUnpaid q es)
  stay_unpaid =
      record {
        none = λ g q k token out. refl;
        next = λ g q a made k. record { known = (all_keep by at s ready early).next g q a made k.known; kept = λ token h. still_of_gateway q (act_entries a) token (k.kept token h) };
        then = λ g q a es made k rest token out.
            let whole = fold-append after_entry q (act_entries a) es in
            both_nothing (paid_among token (act_entries a ++ es)) (paid_among token (act_entries a)) (paid_among token es) (among_append (txn_changes paid_by) token (act_entries a) es)
            (act_unpaid g q a made k token (before_too q (act_entries a ++ es) token out)) (rest token (ap (λ (c : CoreState). may_have c.holdings.txns token part.G) (sym whole) ∙ out));
      }

  pub start_now : (g : Stage) → IsStart (core_facts s) g → IsKnownNow g s
  start_now g starts = record { known = start_known by at s ready early g starts; kept = λ token h. h }
