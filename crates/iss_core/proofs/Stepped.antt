-- What a step's calls come to, for a core whose parts keep this state.
use Rattle.std.proofs.Common.{◌≡◌, ℕ, ◌<◌, true, List, ◌++◌, fold, find, sym, ap, subst, ◌∙◌}
use Rattle.std.specs.Prelude.{Some, None}
use Rattle.iss_model.specs.declared.limits.TheConstants.{MOST_RECORDS}
use Rattle.iss_model.specs.declared.decision.Judged.TheVariants as judged
use Rattle.iss_model.specs.declared.input.Record.{Record}
use Rattle.iss_model.specs.declared.entry.Entry.{Entry}
use Rattle.iss_model.specs.Inputs.{event_token, is_event}
use Rattle.iss_model.specs.Forms.{is_in_form, is_stamp}
use Rattle.iss_model.specs.rules.Facts.{Accepted}
use Rattle.iss_model.specs.rules.Keeper.{Growth, grow}
use Rattle.iss_model.specs.rules.Judging.{judge}
use Rattle.iss_model.specs.rules.Stepping.{entries_of, own_entries, after_due, step}
use Rattle.iss_model.specs.state.Cores.{CoreState, after_entry, with_record, core_facts, core_keeper}
use Rattle.iss_state.proofs.invariants.Settled.{due_settled}
use Rattle.iss_core.specs.Values.{CoreNow, IsNext, Steps}
use Rattle.iss_core.specs.Sound.{IsSound, IsTakenUp}
use Rattle.iss_core.proofs.Upheld.{taken_up, next_is_new, next_is_unknown, sound_after}

-- a record is next on the state that the parts keep, too
next_on : (c : CoreNow) (s : CoreState) (r : Record) → s ≡ c.state → IsNext c r → judge core_keeper s r.input r.at ≡ judged.New r
next_on c s r is next = ap (λ (x : CoreState). judge core_keeper x r.input r.at) is ∙ next

-- its event wasn't accepted before
pub unknown_so : (c : CoreNow) (s : CoreState) (r : Record) (token : List ℕ) → s ≡ c.state → IsNext c r → event_token r.input ≡ Some token
    → find (λ (a : Accepted). is_event token a.input) s.accepted ≡ None
unknown_so c s r token is next named = next_is_unknown s r token (next_on c s r is next) named

-- it is taken up
pub taken_so : (c : CoreNow) (s taken : CoreState) (r : Record) → s ≡ c.state → IsSound s → c.state.count < MOST_RECORDS → IsNext c r → is_stamp r.at ≡ true → taken ≡ with_record s r → IsTakenUp r.input taken
taken_so c s taken r is sound room next stamp up =
    subst (IsTakenUp r.input) (sym up)
    (taken_up s r sound (subst (λ (x : CoreState). x.count < MOST_RECORDS) (sym is) room) (next_is_new s r (next_on c s r is next)) stamp)

-- what is due is settled, and then its own entries are made
whole_step : (s taken settled after : CoreState) (r : Record) (before made : List Entry) → taken ≡ with_record s r → record { world = settled; entries = before } ≡ after_due core_keeper taken r.at
    → after ≡ fold after_entry settled (entries_of r.input r.at (core_facts settled)) → made ≡ before ++ entries_of r.input r.at (core_facts settled) → record { world = after; entries = made } ≡ step core_keeper s r
unfolding step
whole_step s taken settled after r before made up due own entries =
    (λ i. record { world = own i; entries = entries i })
    ∙ ap (λ (g : Growth CoreState). grow core_keeper g (own_entries r)) (due ∙ ap (λ (x : CoreState). after_due core_keeper x r.at) up)

pub stepped_so : (c : CoreNow) (n : ℕ) (s taken settled after : CoreState) (r : Record) (before made : List Entry) → record { instance = n; state = s } ≡ c → taken ≡ with_record s r
    → record { world = settled; entries = before } ≡ after_due core_keeper taken r.at → after ≡ fold after_entry settled (entries_of r.input r.at (core_facts settled))
    → made ≡ before ++ entries_of r.input r.at (core_facts settled) → Steps c (record { instance = n; state = after }) r made
stepped_so c n s taken settled after r before made view up due own entries =
    let whole = whole_step s taken settled after r before made up due own entries in
    let here : step core_keeper s r ≡ step core_keeper c.state r = ap (λ (x : CoreNow). step core_keeper x.state r) view in
    record {
      kept = ap (λ (x : CoreNow). x.instance) view;
      state = ap (λ (g : Growth CoreState). g.world) (whole ∙ here);
      entries = ap (λ (g : Growth CoreState). g.entries) (whole ∙ here);
    }

-- the core after it is sound
pub sound_so : (c : CoreNow) (s taken settled after : CoreState) (r : Record) (before made : List Entry) → s ≡ c.state → IsSound s → IsNext c r → is_in_form r.input ≡ true → is_stamp r.at ≡ true
    → IsTakenUp r.input taken → IsTakenUp r.input settled → taken ≡ with_record s r
    → record { world = settled; entries = before } ≡ after_due core_keeper taken r.at → after ≡ fold after_entry settled (entries_of r.input r.at (core_facts settled))
    → made ≡ before ++ entries_of r.input r.at (core_facts settled) → IsSound after
sound_so c s taken settled after r before made is sound next form stamp at_first at_last up due own entries =
    sound_after s settled after r sound (next_is_new s r (next_on c s r is next)) form stamp at_last own
    (ap (λ (g : Growth CoreState). g.world) (whole_step s taken settled after r before made up due own entries))
    (ap (λ (g : Growth CoreState). g.world.count) due ∙ (due_settled at_first.before taken r.at at_first.ready.sound).count ∙ ap (λ (x : CoreState). x.count) up)
