-- The text of a JSON value, with no space in it. Values, escapes and the reading of a text are those of the kit's `json`.
use Rattle.std.specs.Prelude.{ℕ, Bool, true, false, cond, List, [], ◌∷◌, ◌++◌, Option, Some, None, codes}
use Rattle.std.specs.Fmt.{decimal}
use Rattle.json.specs.Json.{Json, Items, Members, no_items, item, no_members, member}
use Rattle.json.specs.Json as json
use Rattle.json.specs.Print.{quoted}

-- ---- the text

-- a text between quotation marks, with the shortest escapes
unfoldable pub string_text : List ℕ → List ℕ
string_text s = quoted s

-- a comma behind an item or a field
abbrev pub comma_behind : Bool → List ℕ
comma_behind is_behind = cond is_behind (44 ∷ []) []

-- the name of a field, behind another field or as the first
unfoldable pub name_text : Bool → List ℕ → List ℕ
name_text is_behind name = comma_behind is_behind ++ (string_text name ++ 58 ∷ [])

abbrev pub flag_text : Bool → List ℕ
flag_text b = cond b (codes "true") (codes "false")

abbrev mutual
  pub json_text : Json → List ℕ
  json_text json.null = codes "null"
  json_text (json.boolean b) = flag_text b
  json_text (json.number digits) = digits
  json_text (json.string s) = string_text s
  json_text (json.array items) = 91 ∷ items_text false items
  json_text (json.object fields) = 123 ∷ fields_text false fields

  -- with the closing bracket
  pub items_text : Bool → Items → List ℕ
  items_text is_behind no_items = 93 ∷ []
  items_text is_behind (item j items) = comma_behind is_behind ++ (json_text j ++ items_text true items)

  -- with the closing brace
  pub fields_text : Bool → Members → List ℕ
  fields_text is_behind no_members = 125 ∷ []
  fields_text is_behind (member name j fields) = name_text is_behind name ++ (json_text j ++ fields_text true fields)

-- the text of a value on a line of its own
abbrev pub json_line : Json → List ℕ
json_line j = json_text j ++ 10 ∷ []

-- ---- values

abbrev pub null : Json
null = json.null

abbrev pub flag : Bool → Json
flag b = json.boolean b

abbrev pub number : ℕ → Json
number n = json.number (decimal n)

abbrev pub string : List ℕ → Json
string s = json.string s

abbrev pub number_or_null : Option ℕ → Json
number_or_null None = null
number_or_null (Some n) = number n

abbrev pub flag_or_null : Option Bool → Json
flag_or_null None = null
flag_or_null (Some b) = flag b

abbrev pub string_or_null : Option (List ℕ) → Json
string_or_null None = null
string_or_null (Some s) = string s

abbrev pub items_of : List Json → Items
items_of [] = no_items
items_of (j ∷ js) = item j (items_of js)

abbrev pub array : List Json → Json
array js = json.array (items_of js)

abbrev pub fields_of : List (List ℕ × Json) → Members
fields_of [] = no_members
fields_of (f ∷ fs) = member f.0 f.1 (fields_of fs)

-- an object with these fields, in their order
abbrev pub object : List (List ℕ × Json) → Json
object fs = json.object (fields_of fs)
