-- What a history shows.
use Rattle.std.specs.Prelude.{◌≡◌, ℕ, List}
use Rattle.std.specs.List.{AllByRecursion}
use Rattle.std.specs.Str.{IsAscii}
use Rattle.cg_model.specs.System.{Text}
use Rattle.cg_model.specs.Tree.{Tree}
use Rattle.cg_model.specs.Cgroups.{cgroups}
use Rattle.cg_model.specs.History.{Gave, History}
use Rattle.cg_model.specs.Reply.{Legal}

-- each text that a legal history shows is ASCII
abbrev pub TextsAreAscii : Type 0
TextsAreAscii = (opening : Tree) (bound : ℕ) (h : History cgroups) → Legal cgroups opening bound h → AllByRecursion (λ r. (text : List ℕ) → r.answer ≡ Gave (Text text) → IsAscii text) h
