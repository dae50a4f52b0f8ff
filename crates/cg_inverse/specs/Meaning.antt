-- What the changes of the code mean in the model.
use Rattle.std.specs.Prelude.{◌≡◌, true, Option, None, Some}
use Rattle.cg_maps.specs.FiniteSet.{is_empty_set}
use Rattle.cg_model.specs.Change as model
use Rattle.cg_model.specs.Change.{change}
use Rattle.cg_model.specs.Key as keys
use Rattle.cg_model.specs.Key.{value_at, Key, ValueOf}
use Rattle.cg_model.specs.Room.{room_for}
use Rattle.cg_inverse.specs.declared.change.Change.{Change}
use Rattle.cg_inverse.specs.declared.change.Change.TheVariants as changes
use Rattle.cg_model.specs.Tree.{Tree}
use Rattle.cg_text.specs.Settings.{fresh}
use Rattle.cg_text.specs.declared.settings.Settings.{Settings}
use Rattle.cg_tree.specs.Room.{TreeWithRoom, has_entry}

abbrev pub change_of : Change → model.Change
change_of (changes.Made n p) = change (keys.Group p) None (Some fresh)
change_of (changes.Removed n p b) = change (keys.Group p) (Some b) None
change_of (changes.Place k b l) = change (keys.Place k) (Some b) (Some l)
change_of (changes.Control n p b l) = change (keys.Part p keys.Control) (Some b) (Some l)
change_of (changes.Freeze n p b l) = change (keys.Part p keys.Freeze) (Some b) (Some l)
change_of (changes.LowCpus n p b l) = change (keys.Part p keys.Cpus) (Some b) (Some l)
change_of (changes.WideCpus n p both) = change (keys.Part p keys.Cpus) (Some both.value.before) (Some both.value.left)
change_of (changes.MaxDescendants n p b l) = change (keys.Part p keys.MaxDescendants) (Some b) (Some l)
change_of (changes.MaxDepth n p b l) = change (keys.Part p keys.MaxDepth) (Some b) (Some l)
change_of (changes.Online b l) = change keys.Online (Some b) (Some l)

-- the key holds the value left
abbrev pub FitsIn : Tree → model.Change → Type 0
FitsIn T c = value_at T c.key ≡ c.left

-- there is the entry that the value before needs
abbrev pub HasRoomIn : TreeWithRoom → model.Change → Type 0
HasRoomIn t c = room_for (has_entry t) c.key c.before

-- there is the entry that the value left needs
abbrev pub HasRoomToMake : TreeWithRoom → model.Change → Type 0
HasRoomToMake t c = room_for (has_entry t) c.key c.left

-- the key can be put back
abbrev pub MayGoBack : TreeWithRoom → model.Change → Type 0
MayGoBack t c = FitsIn t.tree c × HasRoomIn t c

-- the settings of a group, if there is one, ask for no CPUs
abbrev pub AsksForNone : Option Settings → Type 0
AsksForNone None = Unit {0}
AsksForNone (Some s) = is_empty_set s.cpus ≡ true

-- what is put at the key asks for no CPUs
abbrev pub PutsNoCpus : (k : Key) → Option (ValueOf k) → Type 0
PutsNoCpus (keys.Group p) v = AsksForNone v
PutsNoCpus (keys.Part p keys.Cpus) (Some v) = is_empty_set v ≡ true
PutsNoCpus _ _ = Unit {0}

-- the change leaves no CPUs that a group asks for
abbrev pub LeavesNoCpus : model.Change → Type 0
LeavesNoCpus c = PutsNoCpus c.key c.left
