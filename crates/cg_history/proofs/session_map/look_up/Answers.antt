use Rattle.indexmap.specs.IndexMap.{keys}
use Rattle.cg_history.proofs.Places.{place_found}
use Rattle.cg_history.proofs.session_map.look_up.Goals as goal

pub returns-clause-place : goal.returns-clause-place
returns-clause-place g c = place_found c.args.session (keys c.args.entries.now) c.get_index_of.result c.get_index_of.ensures.index
