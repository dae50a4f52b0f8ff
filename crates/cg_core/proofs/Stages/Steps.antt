-- Steps of a list of items, one after another, keep what each of them keeps.
use Rattle.std.proofs.Common.{ℕ, [], ◌∷◌, map, sym, subst₂}
use Rattle.cg_name.specs.Name.{Name}
use Rattle.cg_model.specs.System.{Outcome}
use Rattle.cg_model.specs.Tree.{Tree}
use Rattle.cg_model.specs.Command as model
use Rattle.cg_model.specs.Cgroups.{cgroups}
use Rattle.cg_model.specs.History.{History}
use Rattle.cg_model.specs.Live.{Ran, AtSavepoint, Items}
use Rattle.cg_model.specs.Room.{inverse}
use Rattle.cg_core_laws.specs.LettingGo.{footprint_of}
use Rattle.cg_locks.specs.Holdings.{Holdings}
use Rattle.cg_tree.specs.Room.{TreeWithRoom}
use Rattle.cg_txn.specs.Steps.{Need, Step, MayEach, Each}
use Rattle.cg_core.specs.Parts.{stack_item}

-- what holds before the items that are left
abbrev pub Invariant : Type 1
Invariant = Items cgroups → TreeWithRoom → Holdings → Type 0

-- before an item that is a command its step may be taken, and what holds is kept by it; a savepoint takes none
pub record IsKept (O : Tree) (N : Need) (S : Step) (P : Invariant) : Type 0 where
  pub may : (t : ℕ) (h : History cgroups) (c : model.Command) (a : Outcome) (l : Items cgroups) (R : TreeWithRoom) (H : Holdings) → P (Ran t h c a ∷ l) R H → N (inverse O (Ran t h c a)) (footprint_of O (Ran t h c a)) R H
  pub step : (t : ℕ) (h : History cgroups) (c : model.Command) (a : Outcome) (l : Items cgroups) (R : TreeWithRoom) (H : Holdings) (R' : TreeWithRoom) (H' : Holdings) → P (Ran t h c a ∷ l) R H
      → S (inverse O (Ran t h c a)) (footprint_of O (Ran t h c a)) R H R' H' → P l R' H'
  pub skip : (t : ℕ) (h : History cgroups) (n : Name) (l : Items cgroups) (R : TreeWithRoom) (H : Holdings) → P (AtSavepoint t h n ∷ l) R H → P l R H

module _ (O : Tree) (N : Need) (S : Step) (P : Invariant) (kept : IsKept O N S P) where
  -- each step may be taken
  pub may_each : (l : Items cgroups) (R : TreeWithRoom) (H : Holdings) → P l R H → MayEach N S (map (stack_item O) l) R H
  may_each [] R H p = tt
  may_each (Ran t h c a ∷ l) R H p = (kept.may t h c a l R H p, λ R' H' s. may_each l R' H' (kept.step t h c a l R H R' H' p s))
  may_each (AtSavepoint t h n ∷ l) R H p = may_each l R H (kept.skip t h n l R H p)

  -- and all of them lead to where nothing is left
  pub all_kept : (l : Items cgroups) (R : TreeWithRoom) (H : Holdings) (R' : TreeWithRoom) (H' : Holdings) → P l R H → Each S (map (stack_item O) l) R H R' H' → P [] R' H'
  all_kept [] R H R' H' p (tree, held) = subst₂ (P []) (sym tree) (sym held) p
  all_kept (Ran t h c a ∷ l) R H R' H' p (A, B, s, rest) = all_kept l A B R' H' (kept.step t h c a l R H A B p s) rest
  all_kept (AtSavepoint t h n ∷ l) R H R' H' p s = all_kept l R H R' H' (kept.skip t h n l R H p) s
