-- A text of JSON is the print of its value's tokens, and so it is read back.
use Rattle.std.proofs.Common.{◌≡◌, ℕ, Bool, true, false, cond, ◌&&◌, List, [], ◌∷◌, ◌++◌, refl, sym, ap, ◌∙◌, append_assoc, append-nil}
use Rattle.json.specs.Json.{Json, Items, Members, no_items, item, no_members, member, document}
use Rattle.json.specs.Json as json
use Rattle.json.specs.Token.{Token}
use Rattle.json.specs.Print.{escape, print, print_from}
use Rattle.json.specs.Tree.{json_tokens, items_tokens, members_tokens, HasNumbers, ItemsHaveNumbers, MembersHaveNumbers}
use Rattle.json.proofs.Printed.Decimals.{IsNumber-decimal}
use Rattle.json.proofs.Printed.Strings.{content-escape}
use Rattle.json.proofs.Printed.Trees.{document-print}
use Rattle.cg_json.specs.Laws.{HasDecimals, ItemsHaveDecimals, FieldsHaveDecimals, StringsEndAtTheirQuote, TextsReadBack}
use Rattle.cg_json.specs.Text.{comma_behind, json_text, items_text, fields_text, name_text, string_text}

-- what begins a value or a field is behind a comma
comma_before : (b : Bool) → cond (b && true) (44 ∷ []) [] ≡ comma_behind b
comma_before true = refl
comma_before false = refl

-- what ends one is not
none_before : (b : Bool) → cond {A = List ℕ} (b && false) (44 ∷ []) [] ≡ []
none_before true = refl
none_before false = refl

-- a value's text is a piece of the print, behind its comma
mutual
  unfolding print_from string_text name_text

  value_printed : (b : Bool) (j : Json) (ts : List Token) → print_from b (json_tokens j ++ ts) ≡ comma_behind b ++ (json_text j ++ print_from true ts)
  value_printed b json.null ts = ap (λ c. c ++ (json_text json.null ++ print_from true ts)) (comma_before b)
  value_printed b (json.boolean true) ts = ap (λ c. c ++ (json_text (json.boolean true) ++ print_from true ts)) (comma_before b)
  value_printed b (json.boolean false) ts = ap (λ c. c ++ (json_text (json.boolean false) ++ print_from true ts)) (comma_before b)
  value_printed b (json.number s) ts = ap (λ c. c ++ (s ++ print_from true ts)) (comma_before b)
  value_printed b (json.string s) ts = ap (λ c. c ++ (string_text s ++ print_from true ts)) (comma_before b)
  value_printed b (json.array js) ts =
      ap (λ c. c ++ (91 ∷ print_from false (items_tokens js ++ ts))) (comma_before b) ∙ ap (λ l. comma_behind b ++ (91 ∷ l)) (items_printed false js ts)
  value_printed b (json.object ms) ts =
      ap (λ c. c ++ (123 ∷ print_from false (members_tokens ms ++ ts))) (comma_before b) ∙ ap (λ l. comma_behind b ++ (123 ∷ l)) (fields_printed false ms ts)

  items_printed : (b : Bool) (js : Items) (ts : List Token) → print_from b (items_tokens js ++ ts) ≡ items_text b js ++ print_from true ts
  items_printed b no_items ts = ap (λ c. c ++ (93 ∷ print_from true ts)) (none_before b)
  items_printed b (item j js) ts =
      ap (print_from b) (append_assoc (json_tokens j) (items_tokens js) ts)
      ∙ value_printed b j (items_tokens js ++ ts)
      ∙ ap (λ l. comma_behind b ++ (json_text j ++ l)) (items_printed true js ts)
      ∙ ap (λ l. comma_behind b ++ l) (sym (append_assoc (json_text j) (items_text true js) (print_from true ts)))
      ∙ sym (append_assoc (comma_behind b) (json_text j ++ items_text true js) (print_from true ts))

  fields_printed : (b : Bool) (ms : Members) (ts : List Token) → print_from b (members_tokens ms ++ ts) ≡ fields_text b ms ++ print_from true ts
  fields_printed b no_members ts = ap (λ c. c ++ (125 ∷ print_from true ts)) (none_before b)
  fields_printed b (member k j ms) ts =
      let name : List ℕ = string_text k ++ 58 ∷ [] in
      let others : List ℕ = json_text j ++ fields_text true ms in
      ap (λ c. c ++ (name ++ print_from false ((json_tokens j ++ members_tokens ms) ++ ts))) (comma_before b)
      ∙ ap (λ l. comma_behind b ++ (name ++ print_from false l)) (append_assoc (json_tokens j) (members_tokens ms) ts)
      ∙ ap (λ l. comma_behind b ++ (name ++ l)) (value_printed false j (members_tokens ms ++ ts) ∙ ap (λ l. json_text j ++ l) (fields_printed true ms ts) ∙ sym (append_assoc (json_text j) (fields_text true ms) (print_from true ts)))
      ∙ sym (append_assoc (comma_behind b) name (others ++ print_from true ts))
      ∙ sym (append_assoc (name_text b k) others (print_from true ts))

printed : (j : Json) → print (json_tokens j) ≡ json_text j
unfolding print_from
printed j = ap (print_from false) (sym (append-nil (json_tokens j))) ∙ value_printed false j [] ∙ append-nil (json_text j)

-- decimal digits are a number of JSON
mutual
  are_numbers : (j : Json) → HasDecimals j → HasNumbers j
  are_numbers json.null h = tt
  are_numbers (json.boolean b) h = tt
  are_numbers (json.number s) h = rw h.2 (IsNumber-decimal h.0 h.1)
  are_numbers (json.string s) h = tt
  are_numbers (json.array js) h = items_are_numbers js h
  are_numbers (json.object ms) h = fields_are_numbers ms h

  items_are_numbers : (js : Items) → ItemsHaveDecimals js → ItemsHaveNumbers js
  items_are_numbers no_items h = tt
  items_are_numbers (item j js) h = (are_numbers j h.0, items_are_numbers js h.1)

  fields_are_numbers : (ms : Members) → FieldsHaveDecimals ms → MembersHaveNumbers ms
  fields_are_numbers no_members h = tt
  fields_are_numbers (member k j ms) h = (are_numbers j h.0, fields_are_numbers ms h.1)

pub texts_read_back : TextsReadBack
texts_read_back j decimals shallow = ap document (sym (printed j)) ∙ document-print j (are_numbers j decimals) shallow

pub strings_end_at_their_quote : StringsEndAtTheirQuote
unfolding string_text
strings_end_at_their_quote s rest = (ap (λ l. 34 ∷ l) (append_assoc (escape s) (34 ∷ []) rest), content-escape s rest)
