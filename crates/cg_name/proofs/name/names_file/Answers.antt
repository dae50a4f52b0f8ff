-- What the reader of the files' names says.
use Rattle.cg_name.proofs.Reserved.{file_named}
use Rattle.cg_name.proofs.name.names_file.Goals as goal

pub returns-in-99 : goal.returns-in-99
returns-in-99 c = file_named c.args.text.now c.read.result c.is_ok.result c.is_ok.ensures.value c.read.ensures.value c.read.ensures.syntax c.read.ensures.refusals
