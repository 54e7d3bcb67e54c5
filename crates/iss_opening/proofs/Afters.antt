-- The core after records: one record more, how many it counts, and for which records it stands.
use Rattle.std.proofs.Common.{◌≡◌, ◌+◌, true, List, [], ◌∷◌, ◌++◌, length, refl, sym, ap, subst, ◌∙◌, arith, append-nil, append_assoc}
use Rattle.std.specs.List.{list_all}
use Rattle.std.proofs.lemmas.Bool.{and_parts}
use Rattle.std.proofs.lemmas.List.Sums.{fold-append}
use Rattle.iss_model.specs.declared.input.Record.{Record}
use Rattle.iss_model.specs.declared.decision.Judged.TheVariants as judged
use Rattle.iss_model.specs.texts.Spelling.{is_record}
use Rattle.iss_model.specs.rules.Facts.{Facts}
use Rattle.iss_model.specs.rules.Judging.{judge}
use Rattle.iss_model.specs.rules.Stepping.{step}
use Rattle.iss_model.specs.rules.Histories.{Follows, history_keeper, history_of}
use Rattle.iss_model.specs.state.Cores.{CoreState, core_keeper}
use Rattle.iss_agreement.proofs.JudgedAgain.{new_at, not_before}
use Rattle.iss_core.specs.Values.{CoreNow, IsNext, CoreStandsFor}
use Rattle.iss_core.proofs.OnBook.{judged_on_book, steps_on_book, told_on_book, count_of_book}
use Rattle.iss_standing.specs.Standing.{AreHistory}
use Rattle.iss_standing.proofs.NextRecords.{history_more}
use Rattle.iss_opening.specs.Reading.{core_after, AreNext}
use Rattle.iss_opening.proofs.Counts.{step_count}

abbrev after_step : CoreState → Record → CoreState
after_step s r = (step core_keeper s r).world

pub after_more : (c : CoreNow) (rs : List Record) (r : Record) → core_after c (rs ++ r ∷ []) ≡ core_after (core_after c rs) (r ∷ [])
after_more c rs r =
    ap (λ (s : CoreState). record { instance = c.instance; state = s }) (fold-append after_step c.state rs (r ∷ []))

pub next_more : (c : CoreNow) (rs : List Record) (r : Record) → AreNext c rs → IsNext (core_after c rs) r → AreNext c (rs ++ r ∷ [])
next_more c [] r are next = (next, tt)
next_more c (x ∷ rs) r are next = (are.0, next_more (core_after c (x ∷ [])) rs r are.1 next)

pub after_count : (c : CoreNow) (rs : List Record) → (core_after c rs).state.count ≡ c.state.count + length rs
after_count c [] = omega arith
after_count c (r ∷ rs) =
    let first : (core_after c (r ∷ [])).state.count ≡ c.state.count + 1 = step_count c.state r in
    let rest : (core_after c (r ∷ rs)).state.count ≡ (core_after c (r ∷ [])).state.count + length rs = after_count (core_after c (r ∷ [])) rs in
    omega (arith, first, rest)

-- a core that stands for records stands for these too, once they are taken up
pub stands_after : (c : CoreNow) (xs ys : List Record) → CoreStandsFor c xs → CoreStandsFor (core_after c ys) (xs ++ ys)
stands_after c xs [] stands = subst (λ (l : List Record). CoreStandsFor c l) (sym (append-nil xs)) stands
stands_after c xs (y ∷ ys) stands =
    let next = core_after c (y ∷ []) in
    let made = (step core_keeper c.state y).entries in
    let one = steps_on_book c next xs y made stands (record { kept = refl; state = refl; entries = refl }) in
    subst (λ (l : List Record). CoreStandsFor (core_after next ys) l) (append_assoc xs (y ∷ []) ys) (stands_after next (xs ++ y ∷ []) ys one.stands)

pub count_on_book : (c : CoreNow) (rs : List Record) → CoreStandsFor c rs → c.state.count ≡ length rs
count_on_book c rs stands = told_on_book c rs (λ (f : Facts). f.count) c.state.count stands refl ∙ count_of_book rs

-- ---- a record that is next, and one that follows

-- a record that is next on a core follows on the records that it stands for
pub next_follows : (c : CoreNow) (rs : List Record) (r : Record) → CoreStandsFor c rs → IsNext c r → Follows (history_of rs) r
next_follows c rs r stands next =
    let new : judge history_keeper (history_of rs) r.input r.at ≡ judged.New r =
    sym (judged_on_book c rs r.input r.at (judge core_keeper c.state r.input r.at) stands refl) ∙ next in
    record {
      stamp = not_before history_keeper (history_of rs) r.at r.at (new_at history_keeper (history_of rs) r.input r.at r new);
      is_new = new;
    }

-- and one that follows on them is next
pub follows_next : (c : CoreNow) (rs : List Record) (r : Record) → CoreStandsFor c rs → Follows (history_of rs) r → IsNext c r
follows_next c rs r stands follows =
    judged_on_book c rs r.input r.at (judge core_keeper c.state r.input r.at) stands refl ∙ follows.is_new

-- records that are next are a history with those before them
pub history_next : (c : CoreNow) (xs ys : List Record) → CoreStandsFor c xs → AreHistory xs → AreNext c ys → list_all is_record ys ≡ true → AreHistory (xs ++ ys)
history_next c xs [] stands history next spelled = subst AreHistory (sym (append-nil xs)) history
history_next c xs (y ∷ ys) stands history next spelled =
    let both = and_parts (is_record y) (list_all is_record ys) spelled in
    let one = stands_after c xs (y ∷ []) stands in
    let longer = history_more xs y history (next_follows c xs y stands next.0) both.0 in
    subst AreHistory (append_assoc xs (y ∷ []) ys) (history_next (core_after c (y ∷ [])) (xs ++ y ∷ []) ys one longer next.1 both.1)
