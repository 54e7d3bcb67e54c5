-- A value of a line's text as JSON data.
use Rattle.std.specs.Prelude.{ℕ, ◌&&◌, List, Bool, Option, Some, None, is_some, option_and_then}
use Rattle.json.specs.Lex.{tokens}
use Rattle.json.specs.Json as json
use Rattle.json.specs.Json.{Json}
use Rattle.json.specs.Find.{as_object}
use Rattle.json.specs.Value.{value_view, items_view}
use Rattle.json.specs.declared.value.Value.{Value}
use Rattle.serde_json.specs.Data.{Data, array, Items, no_items, item, no_members}
use Rattle.serde_json.specs.Read.{max_depth, of_json, of_items, of_members}

-- the data, if all numbers fit, and else an empty array, of which no field has a form
abbrev pub if_fit : Option Data → Data
if_fit None = array no_items
if_fit (Some d) = d

-- the data that a value of JSON stands for
unfoldable pub data_of : Json → Data
data_of j = if_fit (of_json j)

-- the data that a value stands for
abbrev pub seen : {A : Type 0} → Value A → Data
seen v = data_of (value_view v)

-- the data that items stand for, each by itself
abbrev pub data_items : json.Items → Items
data_items json.no_items = no_items
data_items (json.item j js) = item (data_of j) (data_items js)

-- the data that the items of an array stand for
abbrev pub seen_items : {A : Type 0} → List (Value A) → Items
seen_items vs = data_items (items_view vs)

-- each number in a value of JSON is one that data has
unfoldable pub fits : Json → Bool
fits j = is_some (of_json j)

-- each number in these items is one that data has
unfoldable pub items_fit : json.Items → Bool
items_fit js = is_some (of_items js)

-- each number in these members is one that data has
unfoldable pub members_fit : json.Members → Bool
members_fit ms = is_some (of_members ms no_members)

-- an object each of whose numbers is one that data has
unfoldable pub is_fit_object : Json → Bool
is_fit_object j = is_some (as_object j) && fits j

-- the value of JSON that the whole of a text is
abbrev pub json_text : List ℕ → Option Json
json_text text = option_and_then (λ p. json.if_last p.0 p.1) (json.value max_depth (tokens text))
