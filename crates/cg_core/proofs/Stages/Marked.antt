-- The mark of a changed subtree stands in a footprint once, at its head, or not at all: so how often a stack holds it tells
-- whether one of its items marks that subtree.
use Rattle.std.proofs.Common.{◌≡◌, ℕ, ◌+◌, ◌==◌, ◌||◌, not, Bool, true, false, cond, List, [], ◌∷◌, ◌++◌, Option, Some, None, refl, sym, ap, ◌∙◌, arith, zero-add, add-zero}
use Rattle.std.proofs.lemmas.Bool.{ne_eqb}
use Rattle.std.proofs.lemmas.List.Sums.{sum_by-cons, sum_by-append}
use Rattle.cg_name.specs.Path.{Path, same_path, along}
use Rattle.cg_model.specs.Tree.{Tree, group, place_of}
use Rattle.cg_model.specs.Command.{Command, Create, Remove, Migrate, Subtree, Freeze, Cpus, Show, Online, MaxDescendants, MaxDepth}
use Rattle.cg_model.specs.Cgroups.{cgroups}
use Rattle.cg_model.specs.Footprint.{Mark, X, N, Pid, Count, is_limited, count_of, joined_marks, counts, old_place, footprint, marks_subtree}
use Rattle.cg_model.specs.Live.{Item, Ran, AtSavepoint, Items}
use Rattle.cg_model.specs.Run.{tree_of}
use Rattle.cg_core_laws.specs.LettingGo.{footprint_of, holds_subtree}
use Rattle.cg_locks.specs.Marks.{same_mark, times}
use Rattle.cg_core.specs.Held.{times_on}

-- one after another
times-cons : (m n : Mark) (f : List Mark) → times m (n ∷ f) ≡ cond (same_mark m n) 1 0 + times m f
times-cons m n f = sum_by-cons (λ x. cond (same_mark m x) 1 0) n f

times-append : (m : Mark) (f g : List Mark) → times m (f ++ g) ≡ times m f + times m g
times-append m f g = sum_by-append (λ x. cond (same_mark m x) 1 0) f g

-- marks on numbers of descendants are none
none_joined : (m : Mark) (f : Path → List Mark) → ((a : Path) → times m (f a) ≡ 0) → (q : Path) → times m (joined_marks (along f q)) ≡ 0
none_joined m f none [] = refl
none_joined m f none (n ∷ q) =
    let first : times m (f []) ≡ 0 = none [] in
    let rest : times m (joined_marks (along (λ a. f (n ∷ a)) q)) ≡ 0 = none_joined m (λ a. f (n ∷ a)) (λ a. none (n ∷ a)) q in
    let both : times m (f [] ++ joined_marks (along (λ a. f (n ∷ a)) q)) ≡ times m (f []) + times m (joined_marks (along (λ a. f (n ∷ a)) q)) = times-append m (f []) (joined_marks (along (λ a. f (n ∷ a)) q)) in
    omega (arith, first, rest, both)

module _ (p : Path) where
  none_of_one : (b : Bool) (a : Path) → times (X p) (cond b (Count a ∷ []) []) ≡ 0
  none_of_one true a = refl
  none_of_one false a = refl

  none_counted : (T : Tree) (q : Path) → times (X p) (counts T q) ≡ 0
  none_counted T q = none_joined (X p) (λ a. count_of a (group T a)) (λ a. none_of_one (is_limited (group T a)) a) q

  none_placed : (k : ℕ) (q : Path) (o : Option Path) → times (X p) (Pid k ∷ N q ∷ old_place o) ≡ 0
  none_placed k q None = refl
  none_placed k q (Some r) = refl

  -- of one subtree that is marked first
  first_only : (q : Path) (f : List Mark) → times (X p) f ≡ 0 → times (X p) (X q ∷ f) ≡ cond (same_path p q) 1 0
  first_only q f none = times-cons (X p) (X q) f ∙ ap (λ k. cond (same_path p q) 1 0 + k) none ∙ add-zero (cond (same_path p q) 1 0)

  -- a footprint has it once where it marks the subtree
  once_in_footprint : (c : Command) (T : Tree) → times (X p) (footprint c T) ≡ cond (marks_subtree p (footprint c T)) 1 0
  unfolding footprint
  once_in_footprint (Create q) T = first_only q (counts T q) (none_counted T q)
  once_in_footprint (Remove q) T = first_only q (counts T q) (none_counted T q)
  once_in_footprint (Migrate k q) T = none_placed k q (place_of T k)
  once_in_footprint (Subtree q ops) T = first_only q [] refl
  once_in_footprint (Freeze q v) T = first_only q [] refl
  once_in_footprint (Cpus q v) T = first_only q [] refl
  once_in_footprint (Show q f) T = refl
  once_in_footprint (Online v) T = first_only [] [] refl
  once_in_footprint (MaxDescendants q v) T = first_only q [] refl
  once_in_footprint (MaxDepth q v) T = first_only q [] refl

module _ (O : Tree) (p : Path) where
  once_in_item : (x : Item cgroups) → times (X p) (footprint_of O x) ≡ cond (marks_subtree p (footprint_of O x)) 1 0
  once_in_item (Ran t h c a) = once_in_footprint p c (tree_of cgroups O h)
  once_in_item (AtSavepoint t h n) = refl

  one_more : (b h : Bool) (n : ℕ) → (n == 0) ≡ not h → (cond b 1 0 + n == 0) ≡ not (b || h)
  one_more true h n e = ne_eqb (1 + n) 0 (λ z. omega (arith, z))
  one_more false h n e = ap (λ k. k == 0) (zero-add n) ∙ e

  -- a stack doesn't have it exactly where none of its items marks the subtree
  pub none_where_unmarked : (l : Items cgroups) → (times_on O (X p) l == 0) ≡ not (holds_subtree O p l)
  none_where_unmarked [] = refl
  none_where_unmarked (x ∷ l) =
      ap (λ k. k + times_on O (X p) l == 0) (once_in_item x)
      ∙ one_more (marks_subtree p (footprint_of O x)) (holds_subtree O p l) (times_on O (X p) l) (none_where_unmarked l)

-- the marks of a stack and of what lies below it
pub times_on-append : (O : Tree) (m : Mark) (k l : Items cgroups) → times_on O m (k ++ l) ≡ times_on O m k + times_on O m l
times_on-append O m [] l = sym (zero-add (times_on O m l))
times_on-append O m (x ∷ k) l =
    let rest : times_on O m (k ++ l) ≡ times_on O m k + times_on O m l = times_on-append O m k l in
    omega (arith, rest)
