use Rattle.std.specs.List.{slice_split}
use Rattle.cg_text.specs.Words.{is_newline}
use Rattle.cg_world_text.proofs.Lines.{leads, one_spelled}
use Rattle.cg_world_text.proofs.laws.text_spells_one_world.Goals as goal

pub returns : goal.returns
returns c = λ text T U h k. one_spelled (slice_split is_newline text) T U (leads text T h) (leads text U k)
