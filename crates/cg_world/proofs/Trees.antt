-- Trees with one part changed.
use Rattle.std.specs.Ordering.{nat_cmp}
use Rattle.cg_maps.specs.FiniteMap.{FiniteMap}
use Rattle.cg_name.specs.Path.{Path, path_cmp}
use Rattle.cg_text.specs.declared.settings.Settings.{Settings}
use Rattle.cg_model.specs.Tree.{Tree}

abbrev pub with_groups : Tree → FiniteMap path_cmp Settings → Tree
with_groups T m = record T { groups = m }

abbrev pub with_places : Tree → FiniteMap nat_cmp Path → Tree
with_places T m = record T { places = m }
