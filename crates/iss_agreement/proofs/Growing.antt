-- What the lists of the book become with one more row.
use Rattle.std.proofs.Common.{◌≡◌, ℕ, Bool, true, false, cond, List, [], ◌∷◌, ◌++◌, map, filter, refl, sym, ap, ◌∙◌}
use Rattle.std.specs.Prelude.{Option, Some, None, unwrap_or}
use Rattle.std.specs.List.{filter_map, cons_option, list_any}
use Rattle.std.specs.Str.{bytes_eq}
use Rattle.std.proofs.lemmas.List.{append-nil, map-append}
use Rattle.std.proofs.lemmas.List.Elements.{filter_map-append, filter-append}
use Rattle.std.proofs.lemmas.List.Sums.{fold-append}
use Rattle.iss_model.specs.declared.entry.Entry.{Entry}
use Rattle.iss_model.specs.declared.entry.Row.{Row}
use Rattle.iss_model.specs.rules.Settings.{latest_of}
use Rattle.iss_model.specs.rules.Controls.{firsts}
use Rattle.iss_model.proofs.Names.{its_name}
use Rattle.iss_model.proofs.Lists.{map-alike, map-map, map-same}

-- the row of an entry
abbrev pub row_of : ℕ → Entry → List Row
row_of n e = record { number = n; entry = e } ∷ []

-- the last value that rows give, with one more row
pub last-more : {S : Type 0} (f : Row → Option S) (first : S) (rows : List Row) (row : Row) (o : Option S) → f row ≡ o
    → latest_of first (filter_map f (rows ++ row ∷ [])) ≡ unwrap_or o (latest_of first (filter_map f rows))
last-more {S} f first rows row None e =
    ap (λ (xs : List S). latest_of first xs) (filter_map-append f rows (row ∷ []) ∙ ap (λ (o : Option S). filter_map f rows ++ cons_option o []) e ∙ append-nil (filter_map f rows))
last-more {S} f first rows row (Some x) e =
    ap (λ (xs : List S). latest_of first xs) (filter_map-append f rows (row ∷ []) ∙ ap (λ (o : Option S). filter_map f rows ++ cons_option o []) e)
    ∙ fold-append (λ (before : S) (x : S). x) first (filter_map f rows) (x ∷ [])

module _ {A B : Type 0} (made : Entry → Option A) (now : List Row → A → B) where
  abbrev pub made_by : List Row → List A
  made_by rows = filter_map (λ row. made row.entry) rows

  pub things-more : (upd : B → B) (rows more : List Row) → ((a : A) → now (rows ++ more) a ≡ upd (now rows a))
      → map (now (rows ++ more)) (made_by (rows ++ more)) ≡ map upd (map (now rows) (made_by rows)) ++ map (now (rows ++ more)) (made_by more)
  things-more upd rows more alike =
      ap (λ (xs : List A). map (now (rows ++ more)) xs) (filter_map-append (λ (row : Row). made row.entry) rows more)
      ∙ map-append (now (rows ++ more)) (made_by rows) (made_by more)
      ∙ ap (λ (bs : List B). bs ++ map (now (rows ++ more)) (made_by more))
      (map-alike (now (rows ++ more)) (λ (a : A). upd (now rows a)) alike (made_by rows) ∙ sym (map-map (now rows) upd (made_by rows)))

  -- a row that makes none changes those that stand
  pub things-changed : (upd : B → B) (rows more : List Row) → ((a : A) → now (rows ++ more) a ≡ upd (now rows a)) → made_by more ≡ []
      → map (now (rows ++ more)) (made_by (rows ++ more)) ≡ map upd (map (now rows) (made_by rows))
  things-changed upd rows more alike none =
      things-more upd rows more alike
      ∙ ap (λ (xs : List A). map upd (map (now rows) (made_by rows)) ++ map (now (rows ++ more)) xs) none
      ∙ append-nil (map upd (map (now rows) (made_by rows)))

  pub things-same : (rows more : List Row) → ((a : A) → now (rows ++ more) a ≡ now rows a) → made_by more ≡ []
      → map (now (rows ++ more)) (made_by (rows ++ more)) ≡ map (now rows) (made_by rows)
  things-same rows more alike none =
      things-changed (λ (b : B). b) rows more alike none ∙ map-same (λ (b : B). b) (λ b. refl) (map (now rows) (made_by rows))

  -- a row that makes one puts it after the others
  pub things-made : (rows more : List Row) (a : A) → ((a : A) → now (rows ++ more) a ≡ now rows a) → made_by more ≡ a ∷ []
      → map (now (rows ++ more)) (made_by (rows ++ more)) ≡ map (now rows) (made_by rows) ++ now (rows ++ more) a ∷ []
  things-made rows more a alike one =
      things-more (λ (b : B). b) rows more alike
      ∙ ap (λ (xs : List A). map (λ (b : B). b) (map (now rows) (made_by rows)) ++ map (now (rows ++ more)) xs) one
      ∙ ap (λ (bs : List B). bs ++ now (rows ++ more) a ∷ []) (map-same (λ (b : B). b) (λ b. refl) (map (now rows) (made_by rows)))

-- a list without changes, whatever is made
pub made-none : {A : Type 0} (made : Row → Option A) (rows more : List Row) → filter_map made more ≡ [] → filter_map made (rows ++ more) ≡ filter_map made rows
made-none {A} made rows more none =
    filter_map-append made rows more ∙ ap (λ (xs : List A). filter_map made rows ++ xs) none ∙ append-nil (filter_map made rows)

module _ {P : Type 0} (name : P → List ℕ) where
  -- the last of a name, with one more
  pub latest-filter : (q : P → Bool) (x : P) (puts : List P) (p : P) (b : Bool) → q p ≡ b
      → latest_of x (filter q (puts ++ p ∷ [])) ≡ cond b p (latest_of x (filter q puts))
  latest-filter q x puts p true e =
      ap (λ (xs : List P). latest_of x xs) (filter-append q puts (p ∷ []) ∙ ap (λ (b : Bool). filter q puts ++ cond b (p ∷ []) []) e)
      ∙ fold-append (λ (before : P) (y : P). y) x (filter q puts) (p ∷ [])
  latest-filter q x puts p false e =
      ap (λ (xs : List P). latest_of x xs)
      (filter-append q puts (p ∷ []) ∙ ap (λ (b : Bool). filter q puts ++ cond b (p ∷ []) []) e ∙ append-nil (filter q puts))

  -- the last of the name of x
  abbrev pub last_named : List P → P → P
  last_named puts x = latest_of x (filter (λ put. bytes_eq (name put) (name x)) puts)

  pub last_named-more : (puts : List P) (p x : P) → last_named (puts ++ p ∷ []) x ≡ cond (bytes_eq (name p) (name x)) p (last_named puts x)
  last_named-more puts p x = latest-filter (λ (put : P). bytes_eq (name put) (name x)) x puts p (bytes_eq (name p) (name x)) refl

  pub last_named-own : (puts : List P) (p : P) → last_named (puts ++ p ∷ []) p ≡ p
  last_named-own puts p = last_named-more puts p p ∙ ap (λ (b : Bool). cond b p (last_named puts p)) (its_name (name p))

  pub firsts-more : (puts : List P) (p : P)
      → firsts name (puts ++ p ∷ []) ≡ cond (list_any (λ k. bytes_eq (name k) (name p)) (firsts name puts)) (firsts name puts) (firsts name puts ++ p ∷ [])
  firsts-more puts p =
      fold-append (λ (kept : List P) (x : P). cond (list_any (λ (k : P). bytes_eq (name k) (name x)) kept) kept (kept ++ x ∷ [])) [] puts (p ∷ [])
