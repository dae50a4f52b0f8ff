-- Laws of JSON texts.
use Rattle.std.specs.Prelude.{◌≡◌, ◌≤◌, ◌<◌, ◌^◌, ℕ, true, List, ◌∷◌, ◌++◌, nat_le, Some, ⊤}
use Rattle.std.specs.List.{list_all}
use Rattle.std.specs.Fmt.{decimal}
use Rattle.json.specs.Json.{Json, Items, Members, no_items, item, no_members, member, document}
use Rattle.json.specs.Json as json
use Rattle.json.specs.Text.{content, plain}
use Rattle.json.specs.Tree.{depth}
use Rattle.json.specs.Print.{escape}
use Rattle.cg_json.specs.Text.{json_text, string_text}

-- each number of the value is the decimal digits of one below 2^64
abbrev mutual
  pub HasDecimals : Json → Type 0
  HasDecimals json.null = ⊤
  HasDecimals (json.boolean b) = ⊤
  HasDecimals (json.number digits) = (n : ℕ) × (n < 2 ^ 64) × (digits ≡ decimal n)
  HasDecimals (json.string s) = ⊤
  HasDecimals (json.array items) = ItemsHaveDecimals items
  HasDecimals (json.object fields) = FieldsHaveDecimals fields

  pub ItemsHaveDecimals : Items → Type 0
  ItemsHaveDecimals no_items = ⊤
  ItemsHaveDecimals (item j items) = HasDecimals j × ItemsHaveDecimals items

  pub FieldsHaveDecimals : Members → Type 0
  FieldsHaveDecimals no_members = ⊤
  FieldsHaveDecimals (member name j fields) = HasDecimals j × FieldsHaveDecimals fields

-- The law of reading back: a reader of RFC 8259 finds in the text just the value.
abbrev pub TextsReadBack : Type 0
TextsReadBack = (j : Json) → HasDecimals j → depth j ≤ 128 → document (json_text j) ≡ Some j

-- The law of lines: the text of a value has no byte below 32, so that it stands on one line.
abbrev pub TextsAreLines : Type 0
TextsAreLines = (j : Json) → HasDecimals j → list_all (nat_le 32) (json_text j) ≡ true

-- The law of strings: behind its quotation mark a string's text is read to the next bare one, which is its last byte, whatever comes
-- behind; and what is read are the string's bytes.
abbrev pub StringsEndAtTheirQuote : Type 0
StringsEndAtTheirQuote = (s rest : List ℕ) → (string_text s ++ rest ≡ 34 ∷ (escape s ++ 34 ∷ rest)) × (content plain (escape s ++ 34 ∷ rest) ≡ Some s)
