-- What a publishing at a desk does: that of a machine's commits.
use Rattle.std.specs.Prelude.{◌≡◌, ◌↔◌, Result, OnOk, map}
use Rattle.std.specs.Result.{IsErrOf}
use Rattle.cg_core.specs.State.{CoreState}
use Rattle.cg_core_laws.specs.MachineOf.{Reached}
use Rattle.cg_model.specs.Cgroups.{cgroups}
use Rattle.cg_model.specs.Opens.{commits}
use Rattle.cg_model.specs.Run.{commit_tree}
use Rattle.cg_name.specs.declared.refusal.Refusal.{Refusal}
use Rattle.cg_name.specs.declared.refusal.Refusal.TheVariants.{Disagree, Memory}
use Rattle.cg_view.specs.Committed.{meant, operations_of}
use Rattle.cg_view.specs.Operations.{tree_after}
use Rattle.cg_view.specs.Publishers.{opening, published, IsFrontOf}
use Rattle.cg_view.specs.declared.publisher.Publisher.{Publisher}
use Rattle.cg_view.specs.declared.viewer.Told.{Told}

-- a publisher, and what it is after it was asked to publish the commits of a machine, and answered r
pub record IsPublishing (c : CoreState) (before : Publisher) (after : Publisher) (r : Result Told Refusal) : Type 0 where
  -- steps led to the machine's history
  pub reached : Reached c.opening c.bound c.history
  -- all its commits are published
  pub all : OnOk r (map meant (published after) ≡ operations_of c.history)
  -- so the tree that is shown is that of its commits
  pub tree : OnOk r (tree_after (opening after) (published after) ≡ commit_tree cgroups c.opening (commits c.history) c.history)
  -- they disagree exactly where they don't begin with what was published and appended, on the same opening world
  pub disagree : IsErrOf r Disagree ↔ ¬ IsFrontOf c before
  -- where memory is wanted, a front of them is published and appended
  pub goes_on : IsErrOf r Memory → IsFrontOf c after
