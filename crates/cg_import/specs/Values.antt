-- What the texts of interface files say, beside single values.
use Rattle.std.specs.Prelude.{ℕ, ◌↔◌, IsTrue, List, Contains, filter}
use Rattle.std.specs.List.{Any, slice_split}
use Rattle.cg_digits.specs.WhiteSpace.{is_white_space}
use Rattle.cg_name.specs.Controller.{controller_word}
use Rattle.cg_name.specs.declared.controller.Controller.{Controller}
use Rattle.cg_text.specs.Controllers.{has}
use Rattle.cg_text.specs.declared.controllers.Controllers.{Controllers}
use Rattle.cg_text.specs.Reading.{SpellsPid}
use Rattle.cg_text.specs.Words.{Line, is_newline, is_filled}

-- what stands between white space is the controller's name somewhere
abbrev pub NamesController : List ℕ → Controller → Type 0
NamesController text c = Contains (slice_split is_white_space text) (controller_word c)

-- the set has the controllers that the text names
abbrev pub SpellsNamed : List ℕ → Controllers → Type 0
SpellsNamed text s = (c : Controller) → IsTrue (has s c) ↔ NamesController text c

-- the set has the controllers that the text names, of those that may be passed on
abbrev pub SpellsPassedOn : Controllers → List ℕ → Controllers → Type 0
SpellsPassedOn above text s = (c : Controller) → IsTrue (has s c) ↔ (NamesController text c × IsTrue (has above c))

-- the lines that have anything in them
abbrev pub filled_lines : List ℕ → List Line
filled_lines text = filter is_filled (slice_split is_newline text)

-- a line spells the PID
abbrev pub ListsPid : List ℕ → ℕ → Type 0
ListsPid text pid = Any (λ line. SpellsPid line pid) (filled_lines text)
