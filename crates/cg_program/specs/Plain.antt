-- What a schedule is answered where nothing stands beside the answers.
use Rattle.std.specs.Prelude.{◌≡◌, ℕ, Bool, false, List}
use Rattle.cg_model.specs.Cgroups.{cgroups}
use Rattle.cg_model.specs.History.{History}
use Rattle.cg_model.specs.Tree.{Tree}
use Rattle.cg_replay.specs.Replay.{IsOutput, IsOutputAndHistory}

-- the output is the plain one; no refusal is looked for
abbrev pub TellsPlain : Tree → ℕ → List ℕ → Bool → List ℕ → Type 0
TellsPlain T limit text is_refused out = (is_refused ≡ false) × IsOutput T limit text out

-- and this history results
abbrev pub PlaysPlain : Tree → ℕ → List ℕ → Bool → List ℕ → History cgroups → Type 0
PlaysPlain T limit text is_refused out h = (is_refused ≡ false) × IsOutputAndHistory T limit text out h
