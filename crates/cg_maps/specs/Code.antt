-- Maps and sets are data: the codes by which a proof tells them apart.
use Rattle.std.specs.Coded.{Coded, coded×, coded_ℕ, coded_list}
use base.Stored.{coded_via, coded_unit}
use Rattle.std.specs.declared.cmp.Ordering.{Ordering}
use Rattle.cg_maps.specs.FiniteMap.{FiniteMap, same_list}
use Rattle.cg_maps.specs.FiniteSet.{FiniteSet}

-- a map is told apart by its entries
abbrev pub map_code : {K X : Type 0} {R : K → K → Ordering} → Coded K → Coded X → Coded (FiniteMap R X)
map_code k x = coded_via (coded_list (coded× k x)) (λ m. m.list) same_list

-- a set is told apart by its members
abbrev pub set_code : Coded FiniteSet
set_code = map_code coded_ℕ coded_unit
