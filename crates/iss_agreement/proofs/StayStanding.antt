-- A row more leaves every row naming only what stands.
use Rattle.std.proofs.Common.{◌≡◌, ℕ, ◌≤◌, Bool, true, false, cond, not, ◌&&◌, ◌||◌, nat_le, List, [], ◌∷◌, ◌++◌, length, map, refl, ap, ap₂, ◌∙◌, arith, length-append, ◌⊎◌, inl, inr}
use Rattle.std.specs.Prelude.{Option, Some, None, find, option_map, is_some}
use Rattle.std.specs.Option.{option_or}
use Rattle.std.specs.List.{filter_map, list_any, list_all}
use Rattle.std.specs.Str.{bytes_eq}
use Rattle.std.proofs.lemmas.List.{length-map}
use Rattle.std.proofs.lemmas.List.Elements.{filter_map-append}
use Rattle.std.proofs.lemmas.List.Folds.{list_all-append, find-append}
use Rattle.std.proofs.lemmas.Bool.{and_parts}
use Rattle.std.proofs.lemmas.Bool.Decides.{nat_tests}
use Rattle.iss_model.specs.declared.setting.Moved.TheVariants as moved
use Rattle.iss_model.specs.declared.setting.Scope.{Scope}
use Rattle.iss_model.specs.declared.setting.Scope.TheVariants as scope
use Rattle.iss_model.specs.declared.setting.Product.{Product}
use Rattle.iss_model.specs.declared.call.Notice.{Notice}
use Rattle.iss_model.specs.declared.input.Input.{Input}
use Rattle.iss_model.specs.declared.input.Input.TheVariants as input
use Rattle.iss_model.specs.declared.entry.Entry.{Entry}
use Rattle.iss_model.specs.declared.entry.Entry.TheVariants as entry
use Rattle.iss_model.specs.declared.entry.Row.{Row}
use Rattle.iss_model.specs.Inputs.{is_text}
use Rattle.iss_model.specs.rules.Settings.{user_made, card_made, product_made, default_product}
use Rattle.iss_model.specs.rules.Controls.{Group, group_made, groups_of, group_named, ControlPut, ControlNow, control_put, control_replaced, control_now, control_puts_of, controls_of, counted_control, firsts, control_named}
use Rattle.iss_model.specs.rules.Activity.{calls_of, call_opened, call_now, notices_of, notice_made, txn_began}
use Rattle.iss_model.specs.rules.Facts.{Facts}
use Rattle.iss_model.specs.rules.Reasons.{lacks_group}
use Rattle.iss_model.specs.rules.Histories.{History, history_facts}
use Rattle.iss_model.proofs.Names.{name-sym}
use Rattle.iss_model.proofs.Lists.{all_weaker, any_grows}
use Rattle.iss_agreement.proofs.Standing.{Bounds, IsSettable, is_product_made, is_group_known, is_standing, is_row_standing, IsStanding}
use Rattle.iss_agreement.proofs.Growing.{row_of, made-none, last_named, last_named-more, last_named-own}
use Rattle.iss_agreement.proofs.KeptLists.{put-again, put-first, any-map}
use Rattle.iss_agreement.proofs.Counting.{AreScopesKnown, put_name, puts_of}
use Rattle.iss_agreement.proofs.Entering.{with_row}

-- what stood goes on standing ----

pub product_grows : (rows more : List Row) (name : List ℕ) → is_product_made rows name ≡ true → is_product_made (rows ++ more) name ≡ true
product_grows rows more name h =
    by (bytes_eq default_product.name name) h
  where
    found : Row → Bool
    found row = is_text name (option_map (λ (product : Product). product.name) (product_made row.entry))

    by : (b : Bool) → (b || list_any found rows) ≡ true → (b || list_any found (rows ++ more)) ≡ true
    by true h = refl
    by false h = any_grows found rows more h

pub le_true : (a b : ℕ) → a ≤ b → nat_le a b ≡ true
le_true a b h = grind (arith, nat_tests)

pub true_le : (a b : ℕ) → nat_le a b ≡ true → a ≤ b
true_le a b h = grind (arith, nat_tests)

le_more : (a b c : ℕ) → b ≤ c → nat_le a b ≡ true → nat_le a c ≡ true
le_more a b c h e = grind (arith, nat_tests)

-- what is made grows ----

pub made-length : {A B C : Type 0} (made : Row → Option A) (f : A → B) (g : A → C) (rows more : List Row) → length (map f (filter_map made rows)) ≤ length (map g (filter_map made (rows ++ more)))
made-length {A} made f g rows more =
    omega (arith, length-map (filter_map made rows) f, length-map (filter_map made (rows ++ more)) g, ap (λ (xs : List A). length xs) (filter_map-append made rows more), length-append (filter_map made rows) (filter_map made more))

-- the bounds have passed others
pub record Passes (b c : Bounds) : Type 0 where
  pub count : b.count ≤ c.count
  pub calls : b.calls ≤ c.calls
  pub notices : b.notices ≤ c.notices

standing-grows : (b c : Bounds) (rows more : List Row) → Passes b c → (n : ℕ) (e : Entry) → is_standing b rows n e ≡ true → is_standing c (rows ++ more) n e ≡ true
standing-grows b c rows more past n (entry.Conf (input.Move token (moved.Card card to))) h = any_grows (λ (row : Row). is_text card (option_map (λ card. card.name) (card_made row.entry))) rows more h
standing-grows b c rows more past n (entry.Conf (input.Move token (moved.User user to))) h = any_grows (λ (row : Row). is_text user (option_map (λ user. user.name) (user_made row.entry))) rows more h
standing-grows b c rows more past n (entry.Conf (input.Switch token product on)) h = product_grows rows more product h
standing-grows b c rows more past n (entry.Began t) h = h
standing-grows b c rows more past n (entry.Opened o) h =
    le_more o.call.0 (length (calls_of rows)) (length (calls_of (rows ++ more))) (made-length (λ (row : Row). call_opened row.entry) (call_now rows) (call_now (rows ++ more)) rows more) h
standing-grows b c rows more past n (entry.Closed call how) h = le_more call.0 b.calls c.calls past.calls h
standing-grows b c rows more past n (entry.Usage row) h = h
standing-grows b c rows more past n (entry.Acked notice) h = le_more notice b.notices c.notices past.notices h
standing-grows b c rows more past n (entry.Ended txn) h = any_grows (λ (row : Row). is_text txn (option_map (λ t. t.token) (txn_began row.entry))) rows more h
standing-grows b c rows more past n _ h = refl

pub both_true : (a b : Bool) → a ≡ true → b ≡ true → (a && b) ≡ true
both_true true b h k = k
both_true false b h k = cc

pub row-grows : (b c : Bounds) (rows more : List Row) → Passes b c → (row : Row) → is_row_standing b rows row ≡ true → is_row_standing c (rows ++ more) row ≡ true
row-grows b c rows more past row h =
    let parts = and_parts (nat_le row.number b.count) (is_standing b rows row.number row.entry) h in
    both_true (nat_le row.number c.count) (is_standing c (rows ++ more) row.number row.entry) (le_more row.number b.count c.count past.count parts.0) (standing-grows b c rows more past row.number row.entry parts.1)

same_bounds : (b : Bounds) → Passes b b
same_bounds b = record { count = omega arith; calls = omega arith; notices = omega arith }

-- scopes ----

found-grows : {A : Type 0} (p : A → Bool) (xs ys : List A) → is_some (find p xs) ≡ true → is_some (find p (xs ++ ys)) ≡ true
found-grows p xs ys h =
    ap (λ o. is_some o) (find-append p xs ys) ∙ by (find p xs) (find p ys) h
  where
    by : {A : Type 0} (o later : Option A) → is_some o ≡ true → is_some (option_or o later) ≡ true
    by None later h = cc
    by (Some x) later h = refl

known-grows : (groups more : List Group) (s : Scope) → is_group_known groups s ≡ true → is_group_known (groups ++ more) s ≡ true
known-grows groups more (scope.Group name) h = found-grows (λ (group : Group). bytes_eq group.name name) groups more h
known-grows groups more _ h = refl

pub is-some-find : {A : Type 0} (p : A → Bool) (xs : List A) → is_some (find p xs) ≡ list_any p xs
is-some-find p [] = refl
is-some-find {A} p (x ∷ xs) = by (p x) (is-some-find p xs)
  where
    by : (b : Bool) → is_some (find p xs) ≡ list_any p xs → is_some (cond b (Some x) (find p xs)) ≡ (b || list_any p xs)
    by true e = refl
    by false e = e

abbrev knows : List Group → ControlPut → Bool
knows groups put = is_group_known groups put.control.scope

-- a control that stands keeps its scope, whatever is put
abbrev as_replaced : ControlPut → ControlPut → ControlPut
as_replaced p x = cond (bytes_eq p.control.name x.control.name) (record x { control = control_replaced x.control p.control }) x

replaced_knows : (groups : List Group) (x p : ControlPut) (b : Bool) → knows groups (cond b (record x { control = control_replaced x.control p.control }) x) ≡ knows groups x
replaced_knows groups x p true = refl
replaced_knows groups x p false = refl

all-map : {A B : Type 0} (p : B → Bool) (q : A → Bool) (f : A → B) → ((x : A) → p (f x) ≡ q x) → (xs : List A) → list_all p (map f xs) ≡ list_all q xs
all-map p q f same [] = refl
all-map p q f same (x ∷ xs) = ap₂ (λ (a b : Bool). a && b) (same x) (all-map p q f same xs)

now_if_put : (x last p : ControlPut) (b : Bool)
    → record x { control = control_replaced x.control (cond b p last).control }
    ≡ cond b (record (record x { control = control_replaced x.control last.control }) { control = control_replaced (control_replaced x.control last.control) p.control }) (record x { control = control_replaced x.control last.control })
now_if_put x last p true = refl
now_if_put x last p false = refl

now_more : (puts : List ControlPut) (p x : ControlPut) → control_now (puts ++ p ∷ []) x ≡ as_replaced p (control_now puts x)
now_more puts p x =
    ap (λ (last : ControlPut). record x { control = control_replaced x.control last.control }) (last_named-more put_name puts p x)
    ∙ now_if_put x (last_named put_name puts x) p (bytes_eq p.control.name x.control.name)

now_other : (puts : List ControlPut) (p x : ControlPut) → bytes_eq x.control.name p.control.name ≡ false → control_now (puts ++ p ∷ []) x ≡ control_now puts x
now_other puts p x differs =
    now_more puts p x ∙ ap (λ (b : Bool). cond b (record (control_now puts x) { control = control_replaced (control_now puts x).control p.control }) (control_now puts x)) (name-sym p.control.name x.control.name ∙ differs)

-- the scopes are known after a control that is put, if its own is known or it stood before
put_known : (groups : List Group) (puts : List ControlPut) (p : ControlPut) (b : Bool) → list_any (λ k. bytes_eq k.control.name p.control.name) (firsts put_name puts) ≡ b
    → (b ≡ false → knows groups p ≡ true) → list_all (knows groups) (map (control_now puts) (firsts put_name puts)) ≡ true
    → list_all (knows groups) (map (control_now (puts ++ p ∷ [])) (firsts put_name (puts ++ p ∷ []))) ≡ true
put_known groups puts p true stood own known =
    ap (list_all (knows groups)) (put-again put_name control_now (as_replaced p) puts p stood (now_more puts p))
    ∙ all-map (knows groups) (knows groups) (as_replaced p) (λ x. replaced_knows groups x p (bytes_eq p.control.name x.control.name)) (map (control_now puts) (firsts put_name puts))
    ∙ known
put_known groups puts p false new own known =
    ap (list_all (knows groups))
    (put-first put_name control_now puts p p new (now_other puts p)
    (ap (λ (last : ControlPut). record p { control = control_replaced p.control last.control }) (last_named-own put_name puts p)))
    ∙ list_all-append (knows groups) (map (control_now puts) (firsts put_name puts)) (p ∷ [])
    ∙ both_true (list_all (knows groups) (map (control_now puts) (firsts put_name puts))) (knows groups p && true) known (both_true (knows groups p) true (own refl) refl)

-- a control of this name stands if one was put
control_found : (rows : List Row) (name : List ℕ) → is_some (control_named name (controls_of rows)) ≡ list_any (λ k. bytes_eq k.control.name name) (firsts put_name (puts_of rows))
control_found rows name =
    is-some-find (λ (c : ControlNow). bytes_eq c.control.name name) (controls_of rows)
    ∙ any-map (λ (c : ControlNow). bytes_eq c.control.name name) (counted_control rows) (control_puts_of rows)
    ∙ any-map (λ (put : ControlPut). bytes_eq put.control.name name) (control_now (puts_of rows)) (firsts put_name (puts_of rows))

not_false : (b : Bool) → not b ≡ false → b ≡ true
not_false true h = refl
not_false false h = cc

not_lacked : (f : Facts) (s : Scope) → lacks_group f s ≡ false → is_group_known f.groups s ≡ true
not_lacked f (scope.Group name) h = not_false (is_some (group_named name f.groups)) h
not_lacked f _ h = refl

-- the scopes are known after each row that goes on naming what stands
pub scopes-more : (h : History) (n : ℕ) (e : Entry) → AreScopesKnown h.rows
    → ((i : Input) → e ≡ entry.Conf i → IsSettable (history_facts h) i) → AreScopesKnown (h.rows ++ row_of n e)
scopes-more h n (entry.Conf (input.Control token control currency window amount_limit usage_limit association scope offset active)) known settable =
    let i : Input = input.Control token control currency window amount_limit usage_limit association scope offset active in
    let rows : List Row = h.rows in
    ap₂ (λ (groups : List Group) (puts : List ControlPut). list_all (knows groups) (map (control_now puts) (firsts put_name puts)))
    (made-none (λ (row : Row). group_made row.entry) rows (row_of n (entry.Conf i)) refl) (filter_map-append (λ (row : Row). control_put row.number row.entry) rows (row_of n (entry.Conf i)))
    ∙ put_known (groups_of rows) (puts_of rows) _ (list_any (λ (k : ControlPut). bytes_eq k.control.name control) (firsts put_name (puts_of rows))) refl
    (λ new. by new (settable i refl)) known
  where
    by : list_any (λ (k : ControlPut). bytes_eq k.control.name control) (firsts put_name (puts_of h.rows)) ≡ false
        → (is_some (control_named control (controls_of h.rows)) ≡ true) ⊎ (lacks_group (history_facts h) scope ≡ false) → is_group_known (groups_of h.rows) scope ≡ true
    by new (inl stood) = let found = control_found h.rows control in cc
    by new (inr has) = not_lacked (history_facts h) scope has
scopes-more h n (entry.Conf (input.Group token group mccs)) known settable =
    let e : Entry = entry.Conf (input.Group token group mccs) in
    let more : List Group = record { name = group; mccs = mccs } ∷ [] in
    ap₂ (λ (groups : List Group) (puts : List ControlPut). list_all (knows groups) (map (control_now puts) (firsts put_name puts)))
    (filter_map-append (λ (row : Row). group_made row.entry) h.rows (row_of n e)) (made-none (λ (row : Row). control_put row.number row.entry) h.rows (row_of n e) refl)
    ∙ all_weaker (knows (groups_of h.rows)) (knows (groups_of h.rows ++ more)) (λ put passes. known-grows (groups_of h.rows) more put.control.scope passes) (control_puts_of h.rows) known
scopes-more h n e known settable =
    ap₂ (λ (groups : List Group) (puts : List ControlPut). list_all (knows groups) (map (control_now puts) (firsts put_name puts)))
    (made-none (λ (row : Row). group_made row.entry) h.rows (row_of n e) refl) (made-none (λ (row : Row). control_put row.number row.entry) h.rows (row_of n e) refl)
    ∙ known

-- a row more, whose entry names what stands
pub stays-standing : (b : Bounds) (h : History) (e : Entry) → IsStanding b h → is_standing b (h.rows ++ row_of (length h.records) e) (length h.records) e ≡ true
    → ((i : Input) → e ≡ entry.Conf i → IsSettable (history_facts h) i) → IsStanding b (with_row h e)
stays-standing b h e standing its settable =
    let n = length h.records in
    let all = h.rows ++ row_of n e in
    record {
      count = standing.count;
      calls = omega (arith, standing.calls, made-length (λ (row : Row). call_opened row.entry) (call_now h.rows) (call_now all) h.rows (row_of n e));
      notices = omega (
        arith,
        standing.notices,
        made-length (λ (row : Row). notice_made row.entry) (λ (notice : Notice). notice) (λ (notice : Notice). notice) h.rows (row_of n e),
        length-map (notices_of h.rows) (λ (notice : Notice). notice),
        length-map (notices_of all) (λ (notice : Notice). notice),
      );
      txns = λ token named. any_grows (λ (row : Row). is_text token (option_map (λ t. t.token) (txn_began row.entry))) h.rows (row_of n e) (standing.txns token named);
      rows = list_all-append (is_row_standing b all) h.rows (row_of n e)
          ∙ both_true (list_all (is_row_standing b all) h.rows) (is_row_standing b all (record { number = n; entry = e }) && true)
          (all_weaker (is_row_standing b h.rows) (is_row_standing b all) (row-grows b b h.rows (row_of n e) (same_bounds b)) h.rows standing.rows)
          (both_true (is_row_standing b all (record { number = n; entry = e })) true (both_true (nat_le n b.count) (is_standing b all n e) (le_true n b.count (omega (arith, standing.count))) its) refl);
      scopes = scopes-more h n e standing.scopes settable;
    }
