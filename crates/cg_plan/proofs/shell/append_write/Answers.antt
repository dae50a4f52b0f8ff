use Rattle.std.proofs.Common.{◌∷◌, [], ◌++◌, codes, ap, ◌∙◌}
use Rattle.cg_name.proofs.Growing.{first, more}
use Rattle.cg_plan.specs.Shell.{file_in}
use Rattle.cg_plan.specs.ShellWord.{shell_word}
use Rattle.cg_plan.proofs.shell.append_write.Goals as goal

pub returns : goal.returns
returns c =
    let name = file_in c.args.root.now c.args.path.now c.args.file in
    let begun = first c.args.out.now.items (codes "printf '%s\\n' ") c.in_ok-extend_from_slice.ensures.items in
    let valued = more (shell_word c.args.value.now) begun c.in_ok-append_word.ensures in
    let into = more (codes " > ") valued c.in_ok-extend_from_slice-2.ensures.items in
    let named =
    more (shell_word name) into
    (c.in_ok-append_word-2.ensures ∙ ap (λ w. c.extend_from_slice-2.new.self.items ++ shell_word w) (c.as_slice.ensures.value ∙ c.in_ok-name.ensures))
    in
    (more (10 ∷ []) named c.in_ok-push.ensures.items).is
