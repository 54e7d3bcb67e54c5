use Rattle.std.proofs.Common.{◌≡◌, ◌+◌, ◌<◌, List, [], ◌∷◌, length, drop, true, false, Global, sym, ap, ◌∙◌, subst, arith, rules}
use Rattle.std.proofs.lemmas.List.{drop_more, drop_all}
use Rattle.json.specs.Json as json
use Rattle.json.specs.Tree.{json_tokens, items_tokens, members_tokens}
use Rattle.json.specs.Value.{value_view, items_view, members_view}
use Rattle.json.specs.declared.value.Value.{Value, Number, the_lemmas}
use Rattle.json.proofs.Trees.{item_smaller, member_smaller, view-Array, view-Object}
use Rattle.json.proofs.Unique.Keys.{Key}
use Rattle.iss_field.specs.Seen.{fits, items_fit, members_fit}
use Rattle.iss_field.proofs.Fits.{number_fits, array_fits, object_fits, item_fits, item_refused, no_items_fit, member_fits, member_refused, no_members_fit}
use Rattle.iss_field.proofs.fitting.+fits.Goals as goal

pub fits-returns-in-Number : goal.fits-returns-in-Number
fits-returns-in-Number t c =
    let seen : value_view (Number c.in-Number.text) ≡ json.number c.in-Number.text.now = search (rules, the_lemmas) in
    c.number_fits.ensures ∙ sym (ap (λ (v : Value Global). fits (value_view v)) c.in-Number.is ∙ ap fits seen ∙ number_fits c.in-Number.text.now)

pub fits-returns-in-Array : goal.fits-returns-in-Array
fits-returns-in-Array t c =
    c.items_fit.ensures ∙ sym (ap (λ (v : Value Global). fits (value_view v)) c.in-Array.is ∙ ap fits (view-Array c.in-Array.items) ∙ array_fits (items_view c.in-Array.items.items))

pub fits-returns-in-Object : goal.fits-returns-in-Object
fits-returns-in-Object t c =
    c.members_fit.ensures ∙ sym (ap (λ (v : Value Global). fits (value_view v)) c.in-Object.is ∙ ap fits (view-Object c.in-Object.members) ∙ object_fits (members_view c.in-Object.members.items))

pub items_fit-fits-requires : goal.items_fit-fits-requires
items_fit-fits-requires t c =
    let xs = c.deref-item-items.result.now in
    let x = c.item-item.result in
    let smaller : length (json_tokens (value_view x)) < length (items_tokens (items_view c.args.items.now.items)) =
    subst (λ ys. length (json_tokens (value_view x)) < length (items_tokens (items_view ys))) c.deref-item-items.ensures.value
    (subst (λ y. length (json_tokens (value_view y)) < length (items_tokens (items_view xs))) (sym c.item-item.is) (item_smaller xs c.loop-item.item-index x (omega arith))) in
    search rules

pub items_fit-returns-then-not-fits : goal.items_fit-returns-then-not-fits
items_fit-returns-then-not-fits t c =
    let l = c.loop-item in
    let xs = c.deref-item-items.result.now in
    let x = c.item-item.result in
    let here : drop l.item-index xs ≡ x ∷ drop (l.item-index + 1) xs = drop_more xs l.item-index x (omega arith) ∙ ap (λ y. y ∷ drop (l.item-index + 1) xs) (sym c.item-item.is) in
    let Fit = λ (ys : List (Value Global)). items_fit (items_view ys) in
    let no : fits (value_view x) ≡ false = grind arith in
    sym (ap Fit (sym c.deref-item-items.ensures.value) ∙ sym l.invariant ∙ ap Fit here ∙ item_refused (value_view x) (items_view (drop (l.item-index + 1) xs)) no)

pub items_fit-loop-item-preserved : goal.items_fit-loop-item-preserved
items_fit-loop-item-preserved t c =
    let l = c.loop-item in
    let xs = c.deref-item-items.result.now in
    let x = c.item-item.result in
    let here : drop l.item-index xs ≡ x ∷ drop (l.item-index + 1) xs = drop_more xs l.item-index x (omega arith) ∙ ap (λ y. y ∷ drop (l.item-index + 1) xs) (sym c.item-item.is) in
    let Fit = λ (ys : List (Value Global)). items_fit (items_view ys) in
    let yes : fits (value_view x) ≡ true = grind arith in
    sym (ap Fit here ∙ item_fits (value_view x) (items_view (drop (l.item-index + 1) xs)) yes) ∙ l.invariant

pub items_fit-returns : goal.items_fit-returns
items_fit-returns t c =
    let l = c.loop-item in
    let xs = c.deref-item-items.result.now in
    let Fit = λ (ys : List (Value Global)). items_fit (items_view ys) in
    let over : drop l.item-index xs ≡ [] = drop_all l.item-index xs (omega arith) in
    sym (ap Fit (sym c.deref-item-items.ensures.value) ∙ sym l.invariant ∙ ap Fit over ∙ no_items_fit)

pub members_fit-fits-requires : goal.members_fit-fits-requires
members_fit-fits-requires t c =
    let xs = c.deref-member-items.result.now in
    let x = c.member-item.result in
    let smaller : length (json_tokens (value_view x.1)) < length (members_tokens (members_view c.args.members.now.items)) =
    subst (λ ys. length (json_tokens (value_view x.1)) < length (members_tokens (members_view ys))) c.deref-member-items.ensures.value
    (subst (λ y. length (json_tokens (value_view y.1)) < length (members_tokens (members_view xs))) (sym c.member-item.is) (member_smaller xs c.loop-member.member-index x (omega arith))) in
    search rules

pub members_fit-returns-then-not-fits : goal.members_fit-returns-then-not-fits
members_fit-returns-then-not-fits t c =
    let l = c.loop-member in
    let xs = c.deref-member-items.result.now in
    let x = c.member-item.result in
    let here : drop l.member-index xs ≡ x ∷ drop (l.member-index + 1) xs = drop_more xs l.member-index x (omega arith) ∙ ap (λ y. y ∷ drop (l.member-index + 1) xs) (sym c.member-item.is) in
    let Fit = λ (ys : List (Key × Value Global)). members_fit (members_view ys) in
    let no : fits (value_view x.1) ≡ false = grind arith in
    sym (ap Fit (sym c.deref-member-items.ensures.value) ∙ sym l.invariant ∙ ap Fit here ∙ member_refused x.0.now (value_view x.1) (members_view (drop (l.member-index + 1) xs)) no)

pub members_fit-loop-member-preserved : goal.members_fit-loop-member-preserved
members_fit-loop-member-preserved t c =
    let l = c.loop-member in
    let xs = c.deref-member-items.result.now in
    let x = c.member-item.result in
    let here : drop l.member-index xs ≡ x ∷ drop (l.member-index + 1) xs = drop_more xs l.member-index x (omega arith) ∙ ap (λ y. y ∷ drop (l.member-index + 1) xs) (sym c.member-item.is) in
    let Fit = λ (ys : List (Key × Value Global)). members_fit (members_view ys) in
    let yes : fits (value_view x.1) ≡ true = grind arith in
    sym (ap Fit here ∙ member_fits x.0.now (value_view x.1) (members_view (drop (l.member-index + 1) xs)) yes) ∙ l.invariant

pub members_fit-returns : goal.members_fit-returns
members_fit-returns t c =
    let l = c.loop-member in
    let xs = c.deref-member-items.result.now in
    let Fit = λ (ys : List (Key × Value Global)). members_fit (members_view ys) in
    let over : drop l.member-index xs ≡ [] = drop_all l.member-index xs (omega arith) in
    sym (ap Fit (sym c.deref-member-items.ensures.value) ∙ sym l.invariant ∙ ap Fit over ∙ no_members_fit)
