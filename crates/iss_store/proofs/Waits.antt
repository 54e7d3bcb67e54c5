-- What waits for the gateway, and what went out to it, is numbered from 1.
use Rattle.std.proofs.Common.{◌≡◌, Bool, true, ◌&&◌, List, [], ◌∷◌, ◌++◌, map, filter, refl, sym, ap, ap₂, subst, ◌∙◌}
use Rattle.std.specs.List.{list_all}
use Rattle.std.proofs.lemmas.Bool.{and_parts}
use Rattle.std.proofs.lemmas.List.Folds.{list_all-append}
use Rattle.iss_model.specs.declared.call.Notice.{Notice}
use Rattle.iss_model.specs.declared.call.Opened.{Opened}
use Rattle.iss_model.specs.declared.entry.Entry.{Entry}
use Rattle.iss_model.specs.declared.entry.Entry.TheVariants as entry
use Rattle.iss_model.specs.rules.Activity.{CallNow, is_asked}
use Rattle.iss_model.specs.state.Cores.{CoreState, core_facts}
use Rattle.iss_core.specs.Views.{asked_openings}
use Rattle.iss_link.specs.declared.gone.Gone as link
use Rattle.iss_opening.specs.Numbers.{AreNumbered, IsNumbered, is_from_one, is_numbered}
use Rattle.iss_opening.proofs.Numbered.{all_filtered, all_with, call_from_one}
use Rattle.iss_store.specs.Serving.{HaveNumbers, has_number}

opened_numbered : (calls : List CallNow) → list_all call_from_one calls ≡ true → AreNumbered (map entry.Opened (map (λ c. c.opened) calls))
opened_numbered [] h = refl
opened_numbered (c ∷ calls) h =
    let both = and_parts (call_from_one c) (list_all call_from_one calls) h in
    ap₂ (λ (a b : Bool). a && b) both.0 (opened_numbered calls both.1)

notices_numbered : (notices : List Notice) → list_all (λ n. is_from_one n.number) notices ≡ true → AreNumbered (map entry.Notice notices)
notices_numbered [] h = refl
notices_numbered (n ∷ notices) h =
    let both = and_parts (is_from_one n.number) (list_all (λ (x : Notice). is_from_one x.number) notices) h in
    ap₂ (λ (a b : Bool). a && b) both.0 (notices_numbered notices both.1)

-- the entries of calls that are asked and then of notices that wait are numbered from 1
pub pending_numbered : (s : CoreState) (calls : List Opened) (notices : List Notice) (entries : List Entry) → IsNumbered s → calls ≡ asked_openings (core_facts s) → notices ≡ (core_facts s).pending
    → entries ≡ map entry.Opened calls ++ map entry.Notice notices → AreNumbered entries
pending_numbered s calls notices entries h is are e =
    let opened = map entry.Opened (asked_openings (core_facts s)) in
    let asked = opened_numbered (filter is_asked s.calls) (all_filtered call_from_one is_asked s.calls h.calls) in
    subst AreNumbered
    (sym (e ∙ ap (λ (os : List Opened). map entry.Opened os ++ map entry.Notice notices) is ∙ ap (λ (ns : List Notice). opened ++ map entry.Notice ns) are))
    (list_all-append is_numbered opened (map entry.Notice s.outbox.pending) ∙ ap₂ (λ (a b : Bool). a && b) asked (notices_numbered s.outbox.pending h.pending))

-- ---- what went out

pub one_more_has_number : (gone later : List link.Gone) (one : link.Gone) → HaveNumbers gone → has_number one ≡ true → later ≡ gone ++ one ∷ [] → HaveNumbers later
one_more_has_number gone later one h k e = subst HaveNumbers (sym e) (all_with has_number gone one h k)
