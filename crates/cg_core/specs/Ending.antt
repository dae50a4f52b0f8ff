-- The requests by which a transaction ends.
use Rattle.cg_core.specs.declared.ending.Ending.{Ending}
use Rattle.cg_core.specs.declared.ending.Ending.TheVariants as endings
use Rattle.cg_model.specs.Cgroups.{cgroups}
use Rattle.cg_model.specs.History.{Request, Abort, Commit}

abbrev pub asked_by : Ending → Request cgroups
asked_by endings.Abort = Abort
asked_by endings.Commit = Commit
