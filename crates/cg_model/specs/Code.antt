-- A tree is data: the code by which a proof tells trees apart.
use Rattle.std.specs.Prelude.{Bool, refl}
use Rattle.std.specs.Coded.{Coded, code_by, coded×, coded_ℕ, coded_bool, coded_list, coded_option}
use base.Stored.{coded_via}
use Rattle.std.specs.Ordering.{nat_cmp}
use Rattle.cg_maps.specs.Code.{map_code, set_code}
use Rattle.cg_maps.specs.FiniteMap.{FiniteMap}
use Rattle.cg_maps.specs.FiniteSet.{FiniteSet}
use Rattle.cg_name.specs.Path.{Path, path_cmp}
use Rattle.cg_text.specs.Limit.{number_of}
use Rattle.cg_text.specs.declared.controllers.Controllers.{Controllers}
use Rattle.cg_text.specs.declared.limit.Limit.{Limit}
use Rattle.cg_text.specs.declared.settings.Settings.{Settings}
use Rattle.cg_text.proofs.Limits.{limit_is_its_number}
use Rattle.cg_model.specs.Tree.{Tree}

-- a limit, by its number where it has one
abbrev pub limit_code : Coded Limit
limit_code = coded_via (coded_option coded_ℕ) number_of limit_is_its_number

-- a set of controllers, by eight truth values
abbrev pub controllers_code : Coded Controllers
controllers_code =
    code_by (Bool × (Bool × (Bool × (Bool × (Bool × (Bool × (Bool × Bool)))))))
    (coded× coded_bool (coded× coded_bool (coded× coded_bool (coded× coded_bool (coded× coded_bool (coded× coded_bool (coded× coded_bool coded_bool)))))))
    (λ s. (s.cpuset, (s.cpu, (s.io, (s.memory, (s.hugetlb, (s.pids, (s.rdma, s.misc))))))))
    (λ p. record { cpuset = p.0; cpu = p.1.0; io = p.1.1.0; memory = p.1.1.1.0; hugetlb = p.1.1.1.1.0; pids = p.1.1.1.1.1.0; rdma = p.1.1.1.1.1.1.0; misc = p.1.1.1.1.1.1.1 })
    (λ _. refl)

-- settings, by the five of them
abbrev pub settings_code : Coded Settings
settings_code =
    code_by (Controllers × (Bool × (FiniteSet × (Limit × Limit)))) (coded× controllers_code (coded× coded_bool (coded× set_code (coded× limit_code limit_code))))
    (λ s. (s.control, (s.freeze, (s.cpus, (s.max_descendants, s.max_depth)))))
    (λ p. record { control = p.0; freeze = p.1.0; cpus = p.1.1.0; max_descendants = p.1.1.1.0; max_depth = p.1.1.1.1 })
    (λ _. refl)

-- a path, by the bytes of its names
abbrev pub path_code : Coded Path
path_code = coded_list (coded_list coded_ℕ)

-- a tree, by its four parts
abbrev pub tree_code : Coded Tree
tree_code =
    code_by (Controllers × (FiniteSet × (FiniteMap path_cmp Settings × FiniteMap nat_cmp Path))) (coded× controllers_code (coded× set_code (coded× (map_code path_code settings_code) (map_code coded_ℕ path_code))))
    (λ T. (T.controllers, (T.online, (T.groups, T.places))))
    (λ p. record { controllers = p.0; online = p.1.0; groups = p.1.1.0; places = p.1.1.1 })
    (λ _. refl)
