use Rattle.std.proofs.Common.{◌||◌, sym, ap, ◌∙◌}
use Rattle.cg_text.specs.Controllers.{is_no_controllers}
use Rattle.cg_text.proofs.Sets.{tells_none}
use Rattle.cg_world.proofs.soundness.may_have_processes.Goals as goal

pub returns-then-is_root : goal.returns-then-is_root
returns-then-is_root c =
    c.if-is_root.true ∙ ap (λ b. b || is_no_controllers c.args.settings.now.control) (sym c.if-is_root.true ∙ c.is_root.ensures)

pub returns-else-is_root : goal.returns-else-is_root
returns-else-is_root c =
    sym (tells_none _ _ c.is_empty.ensures) ∙ ap is_no_controllers c.control.ensures ∙ ap (λ b. b || is_no_controllers c.args.settings.now.control) (sym c.if-is_root.false ∙ c.is_root.ensures)
