-- What a run outlines: the world at the head of a text.
use Rattle.std.specs.Prelude.{◌≡◌, ℕ, List, Option, IfSome}
use Rattle.cg_json.specs.declared.form.Form.{Form}
use Rattle.cg_model.specs.Tree.{Tree}
use Rattle.cg_outline.specs.Outline.{outline_text}
use Rattle.cg_script.specs.WorldPart.{ReadsWorld}

-- where the text is known, the world at its head has this outline in a form, of its groups of at most so many names
abbrev pub IsOutlineOf : Option (List ℕ) → Form → ℕ → List ℕ → Type 0
IsOutlineOf world form depth outline = IfSome world (λ text. (T : Tree) × (rest : Option (List ℕ)) × ReadsWorld text T rest × (outline ≡ outline_text form depth T))
