use Rattle.std.proofs.Common.{ℕ, List, ◌++◌, ap, ap₂, ◌∙◌, codes}
use Rattle.cg_text.specs.declared.controllers.Controllers.{Controllers}
use Rattle.cg_world_text.specs.World.{control_text}
use Rattle.cg_diff.specs.Difference.{changed, same_controllers}
use Rattle.std.proofs.lemmas.Result.{on_ok_weaker}
use Rattle.cg_diff.proofs.comparing.append_controllers.Goals as goal

-- the line of two sets
line : Controllers → Controllers → List ℕ
line s t = changed (codes "controllers") (same_controllers s t) (control_text s) (control_text t)

pub returns : goal.returns
unfolding line
returns c = on_ok_weaker c.append_changed.result (λ e. e ∙ ap (λ text. c.args.out.now.items ++ text) (ap₂ line c.controllers.ensures.value c.controllers-2.ensures.value)) c.append_changed.ensures
