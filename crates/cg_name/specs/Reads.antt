-- What readers give that take no memory.
use Rattle.std.specs.Prelude.{◌≡◌, ℕ, List, Result, Ok, Err}
use Rattle.cg_name.specs.declared.refusal.Refusal.{Refusal}
use Rattle.cg_name.specs.declared.refusal.Refusal.TheVariants.{Syntax}

-- a value that the text spells, or Syntax, where it spells none
abbrev pub Reads : {A : Type 0} → (List ℕ → A → Type 0) → List ℕ → Result A Refusal → Type 0
Reads Spells text (Ok x) = Spells text x
Reads {A} Spells text (Err e) = (e ≡ Syntax) × ((x : A) → Spells text x → ⊥)
