-- What JSON tells of paths, of what a group asks for or has, and of refusals.
use Rattle.std.specs.Prelude.{ℕ, cond, List, [], ◌∷◌, map, filter, Option, Some, None, codes}
use Rattle.json.specs.Json.{Json, Items}
use Rattle.cg_json.specs.Text.{array, items_of, null, number, object, string, string_or_null}
use Rattle.cg_cpus.specs.CpuList.{cpus_text}
use Rattle.cg_maps.specs.FiniteSet.{FiniteSet, is_empty_set}
use Rattle.cg_name.specs.Controller.{controller_word}
use Rattle.cg_name.specs.Path.{Path, path_text}
use Rattle.cg_name.specs.Refusal.{number_of, word_of}
use Rattle.cg_name.specs.declared.controller.Controller.{Controller}
use Rattle.cg_name.specs.declared.refusal.Refusal.{Refusal}
use Rattle.cg_name.specs.declared.refusal.Refusal.TheVariants.{Unavailable, InUse}
use Rattle.cg_text.specs.Controllers.{all_controllers, has}
use Rattle.cg_text.specs.declared.controllers.Controllers.{Controllers}
use Rattle.cg_text.specs.declared.limit.Limit.{Limit}
use Rattle.cg_text.specs.declared.limit.Limit.TheVariants.{Max, UpTo}

-- the path itself, with no quotation marks of its own
abbrev pub path_value : Path → Json
path_value p = string (path_text p)

-- the names of those of these controllers that the set has
abbrev pub controller_items : Controllers → List Controller → Items
controller_items s all = items_of (map (λ c. string (controller_word c)) (filter (has s) all))

-- in the kernel's order
unfoldable pub controllers_value : Controllers → Json
controllers_value s = array (map (λ c. string (controller_word c)) (filter (has s) all_controllers))

-- the list of the CPUs, where there are any
unfoldable pub cpus_value : FiniteSet → Json
cpus_value s = cond (is_empty_set s) null (string (cpus_text s))

abbrev pub limit_value : Limit → Json
limit_value Max = null
limit_value (UpTo most) = number most.number

-- the controller that a refusal names
abbrev pub controller_of : Refusal → Option (List ℕ)
controller_of (Unavailable c) = Some (controller_word c)
controller_of (InUse c) = Some (controller_word c)
controller_of _ = None

abbrev pub refusal_value : Refusal → Json
refusal_value r = object ((codes "number", number (number_of r)) ∷ (codes "word", string (word_of r)) ∷ (codes "controller", string_or_null (controller_of r)) ∷ [])
