use Rattle.std.proofs.Common.{Some, None, option_copied, sym, ap, ◌∙◌}
use Rattle.cg_import.proofs.Taken.{passed_to}
use Rattle.cg_import.proofs.tree.Import.available.Goals as goal

pub returns-in-Some-settings : goal.returns-in-Some-settings
returns-in-Some-settings c =
    ap Some c.control.ensures
    ∙ passed_to c.args.self.now.tree c.args.path.now c.in_ok-parent.field-0 c.in-Some.parent (Some c.in-Some-settings.settings.now) c.in-Some.is c.in_ok-parent.ensures.root c.in_ok-parent.ensures.value (sym c.settings.ensures ∙ ap option_copied c.in-Some-settings.is)

pub returns : goal.returns
returns c =
    passed_to c.args.self.now.tree c.args.path.now c.in_ok-parent.field-0 c.in-Some.parent None c.in-Some.is c.in_ok-parent.ensures.root c.in_ok-parent.ensures.value (sym c.settings.ensures ∙ ap option_copied c.in-None.is)
