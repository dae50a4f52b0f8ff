-- Going back by a list of changes.
use Rattle.std.proofs.Common.{◌≡◌, ℕ, ◌<◌, Bool, List, [], ◌∷◌, ◌++◌, length, map, is_some, refl, sym, ap, subst, ◌∙◌}
use Rattle.std.proofs.lemmas.Iterator.Search.{true_from_All}
use Rattle.std.proofs.lemmas.List.{map-append}
use Rattle.std.proofs.lemmas.List.Elements.{All-from_all_within, All-from_recursion, recursion_from_All}
use Rattle.std.specs.Bool.{Decides, MatchBool}
use Rattle.std.specs.List.{AllByRecursion, AllWithin, HoldsAt}
use Rattle.cg_maps.specs.FiniteMap.{get}
use Rattle.cg_name.specs.Path.{Path}
use Rattle.cg_model.specs.Change as model
use Rattle.cg_model.specs.Change.{undone, Fits}
use Rattle.cg_model.specs.Key.{put}
use Rattle.cg_model.specs.Room.{room_for, RoomFor}
use Rattle.cg_model.specs.Tree.{Tree}
use Rattle.cg_tree.specs.Room.{TreeWithRoom, has_entry}
use Rattle.cg_inverse.specs.Meaning.{change_of, HasRoomIn, MayGoBack}
use Rattle.cg_inverse.specs.declared.change.Change.{Change}

-- the last change is put back first
pub undone-last : (cs : List model.Change) (c : model.Change) (T : Tree) → undone (cs ++ c ∷ []) T ≡ undone cs (put c.key c.before T)
undone-last [] c T = refl
undone-last (d ∷ cs) c T = ap (put d.key d.before) (undone-last cs c T)

-- all changes can go back where each can
module _ (t : TreeWithRoom) where
  abbrev pub May : Change → Type 0
  May x = MayGoBack t (change_of x)

  abbrev pub AllMay : List Change → Type 0
  AllMay xs = Fits (map change_of xs) t.tree × RoomFor (has_entry t) (map change_of xs)

  all_from_each : (xs : List Change) → AllByRecursion May xs → AllMay xs
  all_from_each [] h = (tt, tt)
  all_from_each (x ∷ xs) h = let rest = all_from_each xs h.1 in ((h.0.0, rest.0), (h.0.1, rest.1))

  each_from_all : (xs : List Change) → AllMay xs → AllByRecursion May xs
  each_from_all [] h = tt
  each_from_all (x ∷ xs) h = ((h.0.0, h.1.0), each_from_all xs (h.0.1, h.1.1))

  pub all_decided : (xs : List Change) (r : Bool) → MatchBool r (AllWithin May xs 0 (length xs)) ((k : ℕ) × (k < length xs) × HoldsAt (λ x. ¬ May x) xs k) → Decides r (AllMay xs)
  all_decided xs r h = (
    λ e. all_from_each xs (recursion_from_All May xs (All-from_all_within May xs (subst (λ b. MatchBool b (AllWithin May xs 0 (length xs)) ((k : ℕ) × (k < length xs) × HoldsAt (λ x. ¬ May x) xs k)) e h))),
    λ a. true_from_All May (λ x. ¬ May x) r xs (λ x p n. n p) h (All-from_recursion May xs (each_from_all xs a)),
  )

-- the tree with the key put back
abbrev pub with_before : Change → Tree → Tree
with_before x T = put (change_of x).key (change_of x).before T

-- the tree with the value left
abbrev pub with_left : Change → Tree → Tree
with_left x T = put (change_of x).key (change_of x).left T

-- ---- one step back

room_in_parts : (E : Path → Bool) (cs : List model.Change) (c : model.Change) → RoomFor E (cs ++ c ∷ []) → RoomFor E cs × room_for E c.key c.before
room_in_parts E [] c h = (tt, h.0)
room_in_parts E (d ∷ cs) c h = let rest = room_in_parts E cs c h.1 in ((h.0, rest.0), rest.1)

module _ (t : TreeWithRoom) (all left : List Change) (x : Change) (is : all ≡ left ++ x ∷ []) where
  in_the_model : map change_of all ≡ map change_of left ++ change_of x ∷ []
  in_the_model = ap (map change_of) is ∙ map-append change_of left (x ∷ [])

  rooms : RoomFor (has_entry t) (map change_of all) → RoomFor (has_entry t) (map change_of left) × HasRoomIn t (change_of x)
  rooms h = room_in_parts (has_entry t) (map change_of left) (change_of x) (subst (RoomFor (has_entry t)) in_the_model h)

  -- there is room for the last
  pub room_for_last : RoomFor (has_entry t) (map change_of all) → HasRoomIn t (change_of x)
  room_for_last h = (rooms h).1

  -- and still for those before it
  pub room_for_rest : (u : TreeWithRoom) → u.entries ≡ t.entries → RoomFor (has_entry t) (map change_of all) → RoomFor (has_entry u) (map change_of left)
  room_for_rest u e h = subst (λ es. RoomFor (λ p. is_some (get es p)) (map change_of left)) (sym e) (rooms h).0

  -- the last is put back, and then those before it
  pub last_back : (T : Tree) → T ≡ put (change_of x).key (change_of x).before t.tree → undone (map change_of left) T ≡ undone (map change_of all) t.tree
  last_back T e =
      ap (undone (map change_of left)) e ∙ sym (undone-last (map change_of left) (change_of x) t.tree) ∙ ap (λ cs. undone cs t.tree) (sym in_the_model)
