-- A column, a table and a schema are what their parts are.
use Rattle.std.proofs.Common.{◌≡◌, ℕ, Bool, List, [], ◌∷◌, length, Some, arith}
use Rattle.sqlite.specs.Kind.{Kind}
use Rattle.sqlite.specs.Schema.{Schema}
use Rattle.sqlite.specs.Table.{Table}
use Rattle.sqlite_schema.specs.declared.schema.Column.{Column}
use Rattle.iss_tables.specs.Tables.{strict, keyed, head_columns, post_columns, head_table, post_table, archive_schema}
use Rattle.iss_tables.specs.Shapes.{IsStrictAs, BeginAsHead, BeginAsPost, EndAsPost, IsPlainAs}

pub column_is : (c : Column) (name : List ℕ) (kind : Kind) (not_null : Bool) → IsStrictAs name c → c.not_null ≡ not_null → c.kind ≡ kind → c ≡ strict name kind not_null
column_is c name kind not_null s n k =
    λ i. record { name = s.name_ i; kind = k i; is_strict = s.strict_ i; not_null = n i; default = s.default i; collation = s.collation i }

pub table_is : (t : Table) (name : List ℕ) (tree : ℕ) (columns : List Column) → IsPlainAs name tree t → t.columns ≡ columns → t ≡ keyed name tree columns
table_is t name tree columns p c = λ i. record {
  name = p.name_ i;
  tree = p.tree_ i;
  columns = c i;
  key = p.key i;
  primary = p.primary i;
  uniques = p.uniques i;
  orders = p.orders i;
  checks = p.asks.checks i;
  references = p.asks.references i;
  computed = p.asks.computed i;
  stamps = p.asks.stamps i;
  is_counted = p.asks.counted i;
}

pub schema_is : (s : Schema) → s.tables ≡ head_table ∷ post_table ∷ [] → s.indexes ≡ [] → s.views ≡ [] → s ≡ archive_schema
schema_is s t x v = λ i. record { tables = t i; indexes = x i; views = v i }

inside : {A : Type 0} {x y : A} → Some x ≡ Some y → x ≡ y
inside e = cc

pub head_columns_are : (columns : List Column) → length columns ≡ 4 → BeginAsHead columns → columns ≡ head_columns
head_columns_are [] n s = absurd (omega (arith, n))
head_columns_are (a ∷ []) n s = absurd (omega (arith, n))
head_columns_are (a ∷ b ∷ []) n s = absurd (omega (arith, n))
head_columns_are (a ∷ b ∷ c ∷ []) n s = absurd (omega (arith, n))
head_columns_are (a ∷ b ∷ c ∷ d ∷ []) n s =
    let one : a ≡ _ = inside s.id in
    let two : b ≡ _ = inside s.instance in
    let three : c ≡ _ = inside s.records in
    let four : d ≡ _ = inside s.posts in
    λ i. one i ∷ two i ∷ three i ∷ four i ∷ []
head_columns_are (a ∷ b ∷ c ∷ d ∷ e ∷ more) n s = absurd (omega (arith, n))

pub post_columns_are : (columns : List Column) → length columns ≡ 10 → BeginAsPost columns → EndAsPost columns → columns ≡ post_columns
post_columns_are [] n s t = absurd (omega (arith, n))
post_columns_are (a ∷ []) n s t = absurd (omega (arith, n))
post_columns_are (a ∷ b ∷ []) n s t = absurd (omega (arith, n))
post_columns_are (a ∷ b ∷ c ∷ []) n s t = absurd (omega (arith, n))
post_columns_are (a ∷ b ∷ c ∷ d ∷ []) n s t = absurd (omega (arith, n))
post_columns_are (a ∷ b ∷ c ∷ d ∷ e ∷ []) n s t = absurd (omega (arith, n))
post_columns_are (a ∷ b ∷ c ∷ d ∷ e ∷ f ∷ []) n s t = absurd (omega (arith, n))
post_columns_are (a ∷ b ∷ c ∷ d ∷ e ∷ f ∷ g ∷ []) n s t = absurd (omega (arith, n))
post_columns_are (a ∷ b ∷ c ∷ d ∷ e ∷ f ∷ g ∷ h ∷ []) n s t = absurd (omega (arith, n))
post_columns_are (a ∷ b ∷ c ∷ d ∷ e ∷ f ∷ g ∷ h ∷ j ∷ []) n s t = absurd (omega (arith, n))
post_columns_are (a ∷ b ∷ c ∷ d ∷ e ∷ f ∷ g ∷ h ∷ j ∷ k ∷ []) n s t =
    let one : a ≡ _ = inside s.seq in
    let two : b ≡ _ = inside s.record_ in
    let three : c ≡ _ = inside s.at in
    let four : d ≡ _ = inside s.from_kind in
    let five : e ≡ _ = inside s.from_user in
    let six : f ≡ _ = inside t.to_kind in
    let seven : g ≡ _ = inside t.to_user in
    let eight : h ≡ _ = inside t.currency in
    let nine : j ≡ _ = inside t.amount in
    let ten : k ≡ _ = inside t.txn in
    λ i. one i ∷ two i ∷ three i ∷ four i ∷ five i ∷ six i ∷ seven i ∷ eight i ∷ nine i ∷ ten i ∷ []
post_columns_are (a ∷ b ∷ c ∷ d ∷ e ∷ f ∷ g ∷ h ∷ j ∷ k ∷ l ∷ more) n s t = absurd (omega (arith, n))
