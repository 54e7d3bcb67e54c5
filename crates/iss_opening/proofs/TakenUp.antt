-- A record that is taken up is next, and one that isn't taken up isn't next.
use Rattle.std.proofs.Common.{◌≡◌, ℕ, ◌<◌, ◌≤◌, max, List, inl, inr, sym, ap, subst, ◌∙◌, arith}
use Rattle.std.specs.Prelude.{Option, Some, IfSome}
use Rattle.std.proofs.lemmas.Bool.Decides.{nat_tests}
use Rattle.iss_model.specs.declared.decision.Judged.{Judged}
use Rattle.iss_model.specs.declared.decision.Judged.TheVariants as judged
use Rattle.iss_model.specs.declared.input.Record.{Record}
use Rattle.iss_model.specs.declared.limits.TheConstants.{MOST_RECORDS}
use Rattle.iss_model.specs.rules.Judging.{judge}
use Rattle.iss_model.specs.state.Cores.{CoreState, core_keeper}
use Rattle.iss_agreement.proofs.JudgedAgain.{new_at, new_input, not_before}
use Rattle.iss_codec.specs.Meanings.{IsSpellingOf}
use Rattle.iss_core.specs.Values.{CoreNow, IsNext, Steps}
use Rattle.iss_opening.specs.declared.taking.Taken.{Taken}
use Rattle.iss_opening.specs.Taking.{TakesUp, FollowsNot}
use Rattle.iss_opening.proofs.Counts.{step_count}

later_of : (now at : ℕ) → now ≤ at → max at now ≡ at
later_of now at late = grind (arith, nat_tests)

-- judging the input of a record at no earlier stamp than the time returns that record, if it is new
pub judged_itself : (c : CoreNow) (r made : Record) (now : ℕ) → now ≡ c.state.now → now ≤ r.at → judge core_keeper c.state r.input r.at ≡ judged.New made → IsNext c r
judged_itself c r made now told late new =
    let at : made.at ≡ r.at = sym (new_at core_keeper c.state r.input r.at made new) ∙ later_of c.state.now r.at (omega (arith, told, late)) in
    let its : made.input ≡ r.input = sym (new_input core_keeper c.state r.input r.at made new) in
    let same : made ≡ r = λ i. record { at = at i; input = its i } in
    new ∙ ap judged.New same

-- a record that is next isn't before the time
next_late : (c : CoreNow) (r : Record) → IsNext c r → c.state.now ≤ r.at
next_late c r next = not_before core_keeper c.state r.at r.at (new_at core_keeper c.state r.input r.at r next)

pub spelled_so : (found : Option Record) (r : Record) (body : List ℕ) → found ≡ Some r → IfSome found (λ x. IsSpellingOf x body) → IsSpellingOf r body
spelled_so found r body is spelled = subst (λ (o : Option Record). IfSome o (λ x. IsSpellingOf x body)) is spelled

-- one too many
pub one_too_many : (c : CoreNow) (found : Option Record) (r : Record) (body : List ℕ) (count : ℕ) → found ≡ Some r → IfSome found (λ x. IsSpellingOf x body) → c.state.count ≤ MOST_RECORDS → count ≡ c.state.count → MOST_RECORDS ≤ count
    → FollowsNot c body
one_too_many c found r body count is spelled few counted many =
    record { r = r; spelled = spelled_so found r body is spelled; not_next = inr (omega (arith, few, counted, many)) }

-- before the time
pub goes_back : (c : CoreNow) (found : Option Record) (r : Record) (body : List ℕ) (now : ℕ) → found ≡ Some r → IfSome found (λ x. IsSpellingOf x body) → now ≡ c.state.now → r.at < now → FollowsNot c body
goes_back c found r body now is spelled told early =
    record { r = r; spelled = spelled_so found r body is spelled; not_next = inl (λ next. omega (arith, next_late c r next, told, early)) }

-- not new
pub is_told : (c : CoreNow) (found : Option Record) (r : Record) (body : List ℕ) (j : Judged) → found ≡ Some r → IfSome found (λ x. IsSpellingOf x body) → j ≡ judge core_keeper c.state r.input r.at → ((x : Record) → j ≡ judged.New x → ⊥)
    → FollowsNot c body
is_told c found r body j is spelled judges is_not_new =
    record { r = r; spelled = spelled_so found r body is spelled; not_next = inl (λ next. is_not_new r (judges ∙ next)) }

pub takes_up : (before after : CoreNow) (found : Option Record) (r made : Record) (j : Judged) (body : List ℕ) (now count : ℕ) (t : Taken) → found ≡ Some r → IfSome found (λ x. IsSpellingOf x body)
    → count ≡ before.state.count → count < MOST_RECORDS → now ≡ before.state.now → now ≤ r.at
    → j ≡ judge core_keeper before.state r.input r.at → j ≡ judged.New made → Steps before after r t.entries.items → t.number ≡ after.state.count → t.accepted ≡ r → TakesUp before after body t
takes_up before after found r made j body now count t is spelled counted room told late judges new steps number accepted =
    record {
      r = r;
      spelled = spelled_so found r body is spelled;
      next = judged_itself before r made now told late (sym judges ∙ new);
      room = omega (arith, counted, room);
      core = λ i. record { instance = steps.kept i; state = steps.state i };
      number = number ∙ ap (λ (s : CoreState). s.count) steps.state ∙ step_count before.state r;
      accepted = accepted;
      entries = steps.entries;
    }
