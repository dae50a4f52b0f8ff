use Rattle.std.proofs.Common.{rules, Ok, Err}
use Rattle.cg_name.specs.declared.refusal.Refusal.TheVariants as refusals
use Rattle.cg_lines.specs.Lines.{pending}
use Rattle.cg_program.proofs.ShowLemmas.{file_found}
use Rattle.cg_program.proofs.showing.find.Goals as goal

pub returns-in-Ok-file-clause-value : goal.returns-in-Ok-file-clause-value
returns-in-Ok-file-clause-value g c =
    file_found (pending c.args.world.now) (pending c.read_world.new.reader) c.in_ok-world.world c.in-Ok.tree.tree c.args.path.now c.args.file (Ok c.in-Ok-file.text.items) c.in_ok-world.ensures.value c.in-Ok.ensures.tree c.in-Ok-file.ensures.value

pub returns-in-Err-NoGroup-clause-no_group : goal.returns-in-Err-NoGroup-clause-no_group
returns-in-Err-NoGroup-clause-no_group g c = λ _.
    file_found (pending c.args.world.now) (pending c.read_world.new.reader) c.in_ok-world.world c.in-Ok.tree.tree c.args.path.now c.args.file (Err refusals.NoGroup) c.in_ok-world.ensures.value c.in-Ok.ensures.tree (search rules)

pub returns-in-Err-NoFile-clause-no_file : goal.returns-in-Err-NoFile-clause-no_file
returns-in-Err-NoFile-clause-no_file g c = λ _.
    file_found (pending c.args.world.now) (pending c.read_world.new.reader) c.in_ok-world.world c.in-Ok.tree.tree c.args.path.now c.args.file (Err refusals.NoFile) c.in_ok-world.ensures.value c.in-Ok.ensures.tree (search rules)
