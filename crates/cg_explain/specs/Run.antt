-- What is written where a schedule is played with comments, and what history results.
use Rattle.std.specs.Prelude.{◌≡◌, ℕ, Bool, List}
use Rattle.cg_model.specs.Cgroups.{cgroups}
use Rattle.cg_model.specs.History.{History}
use Rattle.cg_model.specs.Tree.{Tree}
use Rattle.cg_explain.specs.declared.explainer.Comments.{Comments}
use Rattle.cg_explain.specs.declared.explainer.Explainer.{Explainer}
use Rattle.cg_explain.specs.Explained.{opened_with, IsExplainedFrom}
use Rattle.cg_replay.specs.Replay.{core_ended}

-- this is written for a schedule's text from here on, whether a request was refused is this, and this history results, with the
-- aborts at the end
abbrev pub PlaysExplainedFrom : Explainer → List ℕ → Bool → List ℕ → History cgroups → Type 0
PlaysExplainedFrom s text is_refused out h = (o : IsExplainedFrom s text is_refused out) × (h ≡ (core_ended o.last.player.core).history)

abbrev pub PlaysExplained : Comments → Tree → ℕ → List ℕ → Bool → List ℕ → History cgroups → Type 0
PlaysExplained comments T limit = PlaysExplainedFrom (opened_with comments T limit)
