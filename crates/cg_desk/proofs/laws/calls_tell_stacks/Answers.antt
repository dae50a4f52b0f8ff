use Rattle.cg_desk.proofs.LiveStacks.{calls_tell, none_returned, none_undone}
use Rattle.cg_desk.proofs.laws.calls_tell_stacks.Goals as goal

pub returns-clause-stacks : goal.returns-clause-stacks
returns-clause-stacks c = λ O bound h s. calls_tell O bound h s

pub returns-clause-nothing : goal.returns-clause-nothing
returns-clause-nothing c = λ O bound h s t legal found nothing. (none_undone O bound h s t legal found nothing, none_returned O bound h s t legal found nothing)
