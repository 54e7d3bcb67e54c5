-- The first event of each transaction, if the calls go in from the last to the first.
use Rattle.std.proofs.Common.{◌≡◌, ◌∙◌, ◌++◌, ◌∷◌, ◌&&◌, ap, Bool, cond, false, find, List, [], refl, sym, true, ℕ}
use Rattle.std.specs.Prelude.{Option, Some, None, option_map}
use Rattle.std.specs.BTreeMap.{BTreeMap, Updates}
use Rattle.std.specs.Cmp.Lexicographic.{slice_cmp}
use Rattle.std.specs.Option.{option_or}
use Rattle.std.specs.Ordering.{nat_cmp}
use Rattle.std.specs.Str.{bytes_eq}
use Rattle.std.proofs.lemmas.List.Folds.{find-append}
use Rattle.std.proofs.lemmas.Map.Text.{is_eq-slice_cmp}
use Rattle.iss_model.specs.declared.call.Opened.{Opened}
use Rattle.iss_model.specs.rules.Activity.{CallNow}
use Rattle.iss_sound_parts.specs.Asking.{IsEntered, event_asked, event_in, is_looked_for}

pub entered : (only : Bool) (x : CallNow) (o : Opened) (before after : BTreeMap (List ℕ) (List ℕ)) → is_looked_for only x ≡ true → x.opened ≡ o
    → Updates (slice_cmp nat_cmp) before after o.txn (Some o.event) → IsEntered only x before after
entered only x o before after h same put token =
    put.0 token
    ∙ ap (λ (b : Bool). cond b (Some o.event) (event_in before token))
    (is_eq-slice_cmp o.txn token ∙ sym (ap (λ (b : Bool). b && bytes_eq o.txn token) h))
    ∙ ap (λ (y : Opened). cond (is_looked_for only x && bytes_eq y.txn token) (Some y.event) (event_in before token)) (sym same)

-- a map has the events of the calls that went in: for a transaction without one among those that are left, they are those of all
abbrev pub AreEventsFrom : Bool → List CallNow → List CallNow → BTreeMap (List ℕ) (List ℕ) → Type 0
AreEventsFrom only all left events =
    (token : List ℕ) → option_or (event_asked only left token) (event_in events token) ≡ event_asked only all token

more : (x : CallNow) (b : Bool) (o : Option CallNow) (rest : Option (List ℕ))
    → option_or (option_map (λ (y : CallNow). y.opened.event) o) (cond b (Some x.opened.event) rest)
    ≡ option_or (option_map (λ (y : CallNow). y.opened.event) (option_or o (cond b (Some x) None))) rest
more x b (Some y) rest = refl
more x true None rest = refl
more x false None rest = refl

pub one_entered : (only : Bool) (all left : List CallNow) (x : CallNow) (before after : BTreeMap (List ℕ) (List ℕ)) → AreEventsFrom only all (left ++ x ∷ []) before
    → IsEntered only x before after → AreEventsFrom only all left after
one_entered only all left x before after was put token =
    let has = λ (y : CallNow). is_looked_for only y && bytes_eq y.opened.txn token in
    let old = event_in before token in
    ap (option_or (event_asked only left token)) (put token)
    ∙ more x (has x) (find has left) old
    ∙ ap (λ (o : Option CallNow). option_or (option_map (λ (y : CallNow). y.opened.event) o) old) (sym (find-append has left (x ∷ [])))
    ∙ was token
