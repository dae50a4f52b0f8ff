-- The changes of a write to cgroup.subtree_control.
use Rattle.std.proofs.Common.{◌≡◌, Bool, true, false, cond, not, ◌&&◌, List, [], ◌∷◌, ◌++◌, map, filter, Option, Some, None, Ok, Err, refl, ap, subst, ◌∙◌}
use Rattle.std.specs.List.{AllByRecursion}
use Rattle.cg_maps.specs.FiniteMap.{empty}
use Rattle.cg_maps.specs.FiniteSet.{is_empty_set, no_members}
use Rattle.cg_maps.proofs.Sets.{empty_has_none, has-no_members}
use Rattle.cg_name.specs.Path.{Path, is_root}
use Rattle.cg_name.specs.declared.controller.Controller.{Controller}
use Rattle.cg_name.specs.declared.refusal.Refusal.TheVariants.{HasProcesses, InUse, Unavailable}
use Rattle.cg_text.specs.Controllers.{is_no_controllers}
use Rattle.cg_text.specs.declared.control_ops.ControlOps.{ControlOps}
use Rattle.cg_text.specs.declared.controllers.Controllers.{Controllers}
use Rattle.cg_text.specs.declared.settings.Settings.{Settings}
use Rattle.cg_model.specs.Change.{Change, change}
use Rattle.cg_model.specs.Command.{IsAccepted, Subtree}
use Rattle.cg_model.specs.Control.{by_plan, control_change, controlled, emptied, in_use, loses_cpuset, not_available, planned, refuse_first, subtree_effect, used_below}
use Rattle.cg_model.specs.Derived.{available, children}
use Rattle.cg_model.specs.Effect.{effect}
use Rattle.cg_model.specs.Key.{Key, ValueOf, Cpus, Group, Place, Part, Online}
use Rattle.cg_model.specs.Room.{RoomFor, room_for}
use Rattle.cg_model.specs.System.{Done, Accept}
use Rattle.cg_model.specs.Tree.{Tree, group}
use Rattle.cg_tree.specs.Listing.{asks_for_cpus}
use Rattle.cg_tree.specs.Room.{TreeWithRoom, has_entry}
use Rattle.cg_command.specs.Subtree.{LeaveNoCpus, NeedNoEntry}

-- ---- parts

-- a key of one setting
abbrev pub IsPart : Key → Type 0
IsPart (Part p f) = Unit {0}
IsPart (Group p) = ⊥
IsPart (Place k) = ⊥
IsPart Online = ⊥

abbrev pub AreParts : List Change → Type 0
AreParts cs = AllByRecursion (λ c. IsPart c.key) cs

part_needs_none : (k : Key) (v : Option (ValueOf k)) → IsPart k → (t : TreeWithRoom) → room_for (has_entry t) k v
part_needs_none (Part p f) v h t = tt
part_needs_none (Group p) v h t = absurd h
part_needs_none (Place k) v h t = absurd h
part_needs_none Online v h t = absurd h

pub parts_need_none : (cs : List Change) → AreParts cs → NeedNoEntry cs
parts_need_none [] h = tt
parts_need_none (c ∷ cs) h = (part_needs_none c.key c.left h.0, parts_need_none cs h.1)

-- ---- what is emptied

emptied_parts : (b : Bool) (p : Path) (s : Settings) (cs : List Change) → AreParts cs → AreParts (cond b cs (change (Part p Cpus) (Some s.cpus) (Some empty) ∷ cs))
emptied_parts true p s cs h = h
emptied_parts false p s cs h = (tt, h)

all_emptied_parts : (es : List (Path × Settings)) (last : List Change) → AreParts last → AreParts (emptied es last)
all_emptied_parts [] last h = h
all_emptied_parts (e ∷ es) last h = emptied_parts (is_empty_set e.1.cpus) e.0 e.1 (emptied es last) (all_emptied_parts es last h)

pub controlled_parts : (p : Path) (s t : Controllers) (es : List (Path × Settings)) → AreParts (controlled p s t es)
controlled_parts p s t es = all_emptied_parts (cond (loses_cpuset s t) es []) (control_change p s t) (tt, tt)

-- the set of no number is empty
none_is_empty : is_empty_set no_members ≡ true
none_is_empty = (empty_has_none no_members).1 has-no_members

emptied_leave : (b : Bool) (p : Path) (s : Settings) (cs : List Change) → LeaveNoCpus cs → LeaveNoCpus (cond b cs (change (Part p Cpus) (Some s.cpus) (Some empty) ∷ cs))
emptied_leave true p s cs h = h
emptied_leave false p s cs h = (none_is_empty, h)

all_emptied_leave : (es : List (Path × Settings)) (last : List Change) → LeaveNoCpus last → LeaveNoCpus (emptied es last)
all_emptied_leave [] last h = h
all_emptied_leave (e ∷ es) last h = emptied_leave (is_empty_set e.1.cpus) e.0 e.1 (emptied es last) (all_emptied_leave es last h)

pub controlled_leave : (p : Path) (s t : Controllers) (es : List (Path × Settings)) → LeaveNoCpus (controlled p s t es)
controlled_leave p s t es = all_emptied_leave (cond (loses_cpuset s t) es []) (control_change p s t) (tt, tt)

then_last : (b : Bool) (c : Change) (cs ds last : List Change) → ds ≡ cs ++ last → cond b ds (c ∷ ds) ≡ cond b cs (c ∷ cs) ++ last
then_last true c cs ds last h = h
then_last false c cs ds last h = ap (λ z. c ∷ z) h

-- what is emptied, and then the last changes
pub emptied_then : (es : List (Path × Settings)) (last : List Change) → emptied es last ≡ emptied es [] ++ last
emptied_then [] last = refl
emptied_then (e ∷ es) last = then_last (is_empty_set e.1.cpus) (change (Part e.0 Cpus) (Some e.1.cpus) (Some empty)) (emptied es []) (emptied es last) last (emptied_then es last)

-- each of these children's CPUs are emptied
abbrev pub each_emptied : List (Path × Settings) → List Change
each_emptied es = map (λ e. change (Part e.0 Cpus) (Some e.1.cpus) (Some empty)) es

-- those are emptied that ask for some
pub asking_emptied : (es : List (Path × Settings)) → each_emptied (filter asks_for_cpus es) ≡ emptied es []
asking_emptied [] = refl
asking_emptied (e ∷ es) = by (is_empty_set e.1.cpus) (asking_emptied es)
  where
    by : (b : Bool) → each_emptied (filter asks_for_cpus es) ≡ emptied es [] → each_emptied (cond (not b) (e ∷ filter asks_for_cpus es) (filter asks_for_cpus es)) ≡ cond b (emptied es []) (change (Part e.0 Cpus) (Some e.1.cpus) (Some empty) ∷ emptied es [])
    by true rest = rest
    by false rest = ap (λ cs. change (Part e.0 Cpus) (Some e.1.cpus) (Some empty) ∷ cs) rest

-- room for undoing changes of settings
pub parts_have_room : (E : Path → Bool) (cs : List Change) → AreParts cs → RoomFor E cs
parts_have_room E [] h = tt
parts_have_room E (c ∷ cs) h = (of_key c.key c.before h.0, parts_have_room E cs h.1)
  where
    of_key : (k : Key) (v : Option (ValueOf k)) → IsPart k → room_for E k v
    of_key (Part p f) v q = tt
    of_key (Group p) v q = absurd q
    of_key (Place k) v q = absurd q
    of_key Online v q = absurd q

-- ---- what an accepted write does

by_lists : (p : Path) (s t : Controllers) (es : List (Path × Settings)) (missing used : List Controller) (b : Bool)
    → IsAccepted (by_plan p s es (refuse_first Unavailable missing (refuse_first InUse used (cond b (Err HasProcesses) (Ok t)))))
    → by_plan p s es (refuse_first Unavailable missing (refuse_first InUse used (cond b (Err HasProcesses) (Ok t)))) ≡ Accept Done (controlled p s t es)
by_lists p s t es [] [] false h = refl
by_lists p s t es [] [] true h = absurd h
by_lists p s t es [] (c ∷ cs) b h = absurd h
by_lists p s t es (c ∷ cs) used b h = absurd h

seen : (p : Path) (ops : ControlOps) (g : Option Settings) (a : Option Controllers) (es : List (Path × Settings)) (own : Bool) (s : Settings) → g ≡ Some s
    → IsAccepted (subtree_effect p ops g a es own) → subtree_effect p ops g a es own ≡ Accept Done (controlled p s.control (planned s.control ops) es)
seen p ops g None es own s e h = absurd (subst (λ x. IsAccepted (subtree_effect p ops x None es own)) e h)
seen p ops g (Some a) es own s e h =
    ap (λ x. subtree_effect p ops x (Some a) es own) e
    ∙ by_lists p s.control (planned s.control ops) es (not_available a s.control ops) (in_use s.control ops (used_below es)) (not (is_root p) && own && not (is_no_controllers (planned s.control ops)))
    (subst (λ x. IsAccepted (subtree_effect p ops x (Some a) es own)) e h)

pub subtree_does : (T : Tree) (p : Path) (ops : ControlOps) (s : Settings) → group T p ≡ Some s → IsAccepted (effect (Subtree p ops) T)
    → effect (Subtree p ops) T ≡ Accept Done (controlled p s.control (planned s.control ops) (children T p))
unfolding effect
subtree_does T p ops s e h = seen p ops (group T p) (available T p) (children T p) _ s e h
