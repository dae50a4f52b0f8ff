-- The laws of one command and of two, for contracts to cite.
use Rattle.std.specs.Prelude.{◌≡◌, ℕ, false, true, List, [], ◌∷◌, Option, None, is_some}
use Rattle.std.specs.List.{AllByRecursion, list_any}
use Rattle.cg_name.specs.Path.{Path}
use Rattle.cg_name.specs.declared.refusal.Refusal.{Refusal}
use Rattle.cg_model.specs.Tree.{Tree, group, place_of}
use Rattle.cg_model.specs.Sound.{Sound}
use Rattle.cg_model.specs.Key.{Field, Setting, Key, Group, Place, Part, ValueOf, value_at, put, touch}
use Rattle.cg_model.specs.Change.{Change, done, undone, Fits}
use Rattle.cg_model.specs.System.{Outcome, Refuse, Accept}
use Rattle.cg_model.specs.Command.{Command, IsProper}
use Rattle.cg_model.specs.Effect.{effect}
use Rattle.cg_model.specs.History.{is_own_check}
use Rattle.cg_model.specs.Footprint.{Mark, clashes, footprint}
use Rattle.cg_model_laws.specs.Covers.{AgreeOn, IsCounted, may_change}

-- a group's settings may come and go; any other key takes a value where it holds one
abbrev pub CanHold : Tree → (k : Key) → Option (ValueOf k) → Type 0
CanHold T (Group p) v = Unit {0}
CanHold T k v = (is_some (value_at T k) ≡ true) × (is_some v ≡ true)

-- a key holds what is put there, where it can
abbrev pub PutIsHeld : Type 0
PutIsHeld = (T : Tree) (k : Key) (v : Option (ValueOf k)) → CanHold T k v → value_at (put k v T) k ≡ v

-- a key holds what it held where the key that is put doesn't touch it
abbrev pub OthersKeep : Type 0
OthersKeep = (T : Tree) (k l : Key) (v : Option (ValueOf k)) → touch l k ≡ false → value_at (put k v T) l ≡ value_at T l

-- a setting of an absent group, and the place of an unknown PID, can't be put
abbrev pub AbsentStays : Type 0
AbsentStays = (T : Tree) → ((p : Path) (f : Field) (v : Option (Setting f)) → group T p ≡ None → put (Part p f) v T ≡ T) × ((k : ℕ) (v : Option Path) → place_of T k ≡ None → put (Place k) v T ≡ T)

-- after an accepted command its inverse fits, and undoing gives the tree before
abbrev pub Identity : Type 0
Identity = (c : Command) (T : Tree) (o : Outcome) (cs : List Change) → effect c T ≡ Accept o cs → Fits cs (done cs T) × (undone cs (done cs T) ≡ T)

-- no two of the keys touch
abbrev pub NoneTouch : List Change → Type 0
NoneTouch [] = Unit {0}
NoneTouch (c ∷ cs) = AllByRecursion (λ d. touch c.key d.key ≡ false) cs × NoneTouch cs

-- no two keys of one command's inverse touch
abbrev pub KeysApart : Type 0
KeysApart = (c : Command) (T : Tree) (o : Outcome) (cs : List Change) → effect c T ≡ Accept o cs → NoneTouch cs

-- an accepted command keeps a tree sound
abbrev pub SoundKept : Type 0
SoundKept = (c : Command) (T : Tree) (o : Outcome) (cs : List Change) → IsProper c → Sound T → effect c T ≡ Accept o cs → Sound (done cs T)

-- a command is refused by its own checks alone
abbrev pub OwnChecks : Type 0
OwnChecks = (c : Command) (T : Tree) (r : Refusal) → effect c T ≡ Refuse r → is_own_check r ≡ true

-- what its footprint covers decides a command's answer, its changes and its footprint
abbrev pub Locality : Type 0
Locality = (T U : Tree) → T.controllers ≡ U.controllers → (c : Command) → AgreeOn (footprint c T) T U → (effect c T ≡ effect c U) × (footprint c T ≡ footprint c U)

-- an accepted command changes only keys that its marks let it change
abbrev pub ChangesAreMarked : Type 0
ChangesAreMarked = (c : Command) (T : Tree) (o : Outcome) (cs : List Change) → effect c T ≡ Accept o cs → AllByRecursion (λ d. list_any (λ m. may_change m d.key) (footprint c T) ≡ true) cs

-- no key of the one list of changes touches a key of the other
abbrev pub KeysDontTouch : List Change → List Change → Type 0
KeysDontTouch cs ds = AllByRecursion (λ c. AllByRecursion (λ d. touch c.key d.key ≡ false) ds) cs

-- commands whose footprints don't clash, each taken in its own tree, change keys that don't touch
abbrev pub KeysOfBothApart : Type 0
KeysOfBothApart = (c d : Command) (T U : Tree) (o q : Outcome) (cs ds : List Change) → effect c T ≡ Accept o cs → effect d U ≡ Accept q ds
    → clashes (footprint c T) (footprint d U) ≡ false → KeysDontTouch cs ds

-- an accepted command changes nothing that marks cover that clash with none of its own
abbrev pub Frame : Type 0
Frame = (c : Command) (T : Tree) (o : Outcome) (cs : List Change) → effect c T ≡ Accept o cs
    → (g : List Mark) → clashes (footprint c T) g ≡ false → AllByRecursion (IsCounted T) g → AgreeOn g T (done cs T)

-- nor what a command's footprint covers that doesn't clash with its own, taken before or after
abbrev pub FrameOfCommands : Type 0
FrameOfCommands = (c d : Command) (T : Tree) (o : Outcome) (cs : List Change) → effect c T ≡ Accept o cs
    → (clashes (footprint c T) (footprint d T) ≡ false → AgreeOn (footprint d T) T (done cs T))
    × (clashes (footprint c T) (footprint d (done cs T)) ≡ false → AgreeOn (footprint d (done cs T)) T (done cs T))

-- two neighbours c and d are swapped: same answers, same changes, same footprints, same tree
pub record Swapped (c d : Command) (T : Tree) (o q : Outcome) (cs ds : List Change) : Type 0 where
  pub second_first : effect d T ≡ Accept q ds
  pub second_marks : footprint d T ≡ footprint d (done cs T)
  pub first_second : effect c (done ds T) ≡ Accept o cs
  pub first_marks : footprint c (done ds T) ≡ footprint c T
  pub tree : done cs (done ds T) ≡ done ds (done cs T)

-- neighbours whose footprints don't clash may be swapped
abbrev pub Swap : Type 0
Swap = (c d : Command) (T : Tree) (o q : Outcome) (cs ds : List Change) → effect c T ≡ Accept o cs → effect d (done cs T) ≡ Accept q ds
    → clashes (footprint c T) (footprint d (done cs T)) ≡ false → Swapped c d T o q cs ds

-- footprints clash both ways or not at all
abbrev pub ClashesBothWays : Type 0
ClashesBothWays = (f g : List Mark) → clashes f g ≡ clashes g f
