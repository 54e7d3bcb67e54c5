-- The mark of each event, if the calls go in from the last to the first.
use Rattle.std.proofs.Common.{◌≡◌, ℕ, ◌+◌, Bool, true, false, cond, List, [], ◌∷◌, ◌++◌, length, refl, sym, ap, ap₂, ◌∙◌}
use Rattle.std.specs.Prelude.{Option, Some, None, find, option_map}
use Rattle.std.specs.BTreeMap.{BTreeMap, Updates, get}
use Rattle.std.specs.Cmp.Lexicographic.{slice_cmp}
use Rattle.std.specs.Option.{option_or}
use Rattle.std.specs.Ordering.{nat_cmp}
use Rattle.std.specs.Str.{bytes_eq}
use Rattle.std.proofs.lemmas.List.Folds.{find-append}
use Rattle.std.proofs.lemmas.Map.Text.{is_eq-slice_cmp}
use Rattle.iss_model.specs.declared.call.CallState.{CallState}
use Rattle.iss_model.specs.rules.Activity.{CallNow}
use Rattle.iss_call.specs.declared.rows.CallRow.{CallRow}
use Rattle.iss_call.specs.States.{state_by, mark_among}
use Rattle.iss_call.specs.Named.{call_in, calls_in}
use Rattle.iss_call.proofs.Named.{calls_push}

-- the marks are those of the calls that went in, whatever their other names: for an event without a call among those that are
-- left, they are those of all
abbrev pub AreMarkedFrom : List CallRow → List CallRow → BTreeMap (List ℕ) CallState → Type 0
AreMarkedFrom all left marks =
    (ns : List (List ℕ)) (event : List ℕ) → option_or (mark_among (calls_in ns 1 left) event) (get (slice_cmp nat_cmp) marks event) ≡ mark_among (calls_in ns 1 all) event

more : (c : CallNow) (b : Bool) (o : Option CallNow) (rest : Option CallState)
    → option_or (option_map (λ (x : CallNow). state_by x.how) o) (cond b (Some (state_by c.how)) rest)
    ≡ option_or (option_map (λ (x : CallNow). state_by x.how) (option_or o (cond b (Some c) None))) rest
more c b (Some x) rest = refl
more c true None rest = refl
more c false None rest = refl

pub one_marked : (all left : List CallRow) (row : CallRow) (before after : BTreeMap (List ℕ) CallState) (state : CallState) → state ≡ state_by row.how
    → AreMarkedFrom all (left ++ row ∷ []) before → Updates (slice_cmp nat_cmp) before after row.event (Some state) → AreMarkedFrom all left after
one_marked all left row before after state is marked put ns event =
    let call = call_in ns (1 + length left) row in
    let has = λ (x : CallNow). bytes_eq x.opened.event event in
    let own = bytes_eq row.event event in
    let old = get (slice_cmp nat_cmp) before event in
    ap (λ (o : Option CallState). option_or (mark_among (calls_in ns 1 left) event) o)
    (put.0 event ∙ ap₂ (λ (b : Bool) (s : CallState). cond b (Some s) old) (is_eq-slice_cmp row.event event) is)
    ∙ more call own (find has (calls_in ns 1 left)) old
    ∙ ap (λ (o : Option CallNow). option_or (option_map (λ (x : CallNow). state_by x.how) o) old) (sym (find-append has (calls_in ns 1 left) (call ∷ [])))
    ∙ ap (λ (cs : List CallNow). option_or (mark_among cs event) old) (sym (calls_push ns 1 left row (1 + length left) refl))
    ∙ marked ns event
