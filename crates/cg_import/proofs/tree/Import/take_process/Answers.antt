use Rattle.cg_text.specs.Reading.{SpellsPid}
use Rattle.cg_import.proofs.Processes.{process_put, line_is_in}
use Rattle.cg_import.proofs.tree.Import.take_process.Goals as goal

pub returns-clause-puts : goal.returns-clause-puts
returns-clause-puts c =
    process_put c.args.self.now.tree c.in-Ok.pid c.in_ok-copy.field-0 c.set_place.new.self c.args.path.now (SpellsPid c.args.line.now) c.in_ok-copy.ensures.value c.in_ok-set_place.ensures.ok c.in-Ok.ensures.value

pub returns-clause-all : goal.returns-clause-all
returns-clause-all c = line_is_in c.args.self.now.tree c.in-Ok.pid c.in_ok-copy.field-0 c.set_place.new.self c.args.line.now c.in_ok-set_place.ensures.ok c.in-Ok.ensures.value
