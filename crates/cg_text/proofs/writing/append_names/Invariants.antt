use Rattle.std.proofs.Common.{◌≡◌, ◌++◌, map, take, filter, length}
use Rattle.std.specs.List.{join_with_byte}
use Rattle.cg_maps.specs.FiniteMap.{is_nonempty}
use Rattle.cg_name.specs.Controller.{controller_word}
use Rattle.cg_text.specs.Controllers.{has, all_controllers}
use Rattle.cg_text.proofs.writing.append_names.Given as goal

-- the words so far, and whether there is one
abbrev pub invariant-loop-controller : goal.invariant-loop-controller
invariant-loop-controller l = record {
  text : l.out.items ≡ l.fn.out.items ++ join_with_byte l.separator (map controller_word (filter (has l.set) (take l.controller-index l.controller-items)));
  behind : l.behind ≡ is_nonempty (filter (has l.set) (take l.controller-index l.controller-items));
  kept : take (length l.fn.out.items) l.out.items ≡ l.fn.out.items;
  all : l.controller-items ≡ all_controllers;
}
