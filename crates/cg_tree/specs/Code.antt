-- A tree with room is data: the code by which a proof tells two apart.
use Rattle.std.specs.Prelude.{refl}
use Rattle.std.specs.Coded.{Coded, code_by, coded×}
use base.Stored.{coded_unit}
use Rattle.cg_maps.specs.Code.{map_code}
use Rattle.cg_maps.specs.FiniteMap.{FiniteMap}
use Rattle.cg_name.specs.Path.{path_cmp}
use Rattle.cg_model.specs.Code.{path_code, tree_code}
use Rattle.cg_model.specs.Tree.{Tree}
use Rattle.cg_tree.specs.Room.{TreeWithRoom}

abbrev pub room_code : Coded TreeWithRoom
room_code =
    code_by (Tree × FiniteMap path_cmp (Unit {0})) (coded× tree_code (map_code path_code coded_unit))
    (λ t. (t.tree, t.entries))
    (λ p. record { tree = p.0; entries = p.1 })
    (λ _. refl)
