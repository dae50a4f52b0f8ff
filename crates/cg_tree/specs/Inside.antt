-- What the fields of a tree mean.
use Rattle.std.specs.Prelude.{◌≡◌, false}
use Rattle.cg_maps.specs.FiniteMap.{domain, keys}
use Rattle.cg_tree.specs.declared.tree.Tree.TheInside.{Inside}
use Rattle.cg_tree.specs.Unlimited.{AreUnlimited}
use Rattle.cg_tree.specs.Present.{present}
use Rattle.cg_tree.specs.Room.{TreeWithRoom, IsRooted}

-- the tree of the present groups, and an entry for each path of the map
abbrev pub room_of : Inside → TreeWithRoom
room_of t = record {
  tree = record { controllers = t.controllers; online = t.online; groups = present t.groups.groups; places = t.groups.places };
  entries = domain t.groups.groups;
}

-- what holds of the fields: the list has the PIDs of all processes, ascending, and no group has a limit where none may
pub record IsWhole (t : Inside) : Type 0 where
  pub rooted : IsRooted (room_of t)
  pub pids : t.pids.items ≡ keys t.groups.places
  pub unlimited : t.may_limit ≡ false → AreUnlimited (present t.groups.groups)
