-- Whole stacks are let go as their transactions commit: commands one after another, the oldest first.
use Rattle.std.proofs.Common.{◌≡◌, ℕ, true, List, [], ◌∷◌, ◌++◌, map, reverse, refl, sym, ap, ◌∙◌, subst, append-nil, append_assoc}
use Rattle.std.proofs.lemmas.List.{map-append, reverse-append, reverse-reverse}
use Rattle.cg_model.specs.Tree.{Tree}
use Rattle.cg_model.specs.Cgroups.{cgroups}
use Rattle.cg_model.specs.Live.{Item, Ran, AtSavepoint, Items, live}
use Rattle.cg_model.specs.Machine.{Machine}
use Rattle.cg_model.specs.Opens.{among, numbers, opens}
use Rattle.cg_model.specs.Room as room
use Rattle.cg_core_laws.specs.Unwind.{with_items}
use Rattle.cg_core_laws.specs.LettingGo.{LetsGo, OldestLetsGo}
use Rattle.cg_locks.specs.Holdings.{Holdings}
use Rattle.cg_tree.specs.Room.{TreeWithRoom}
use Rattle.cg_core.specs.Stage.{Holds}
use Rattle.cg_txn.specs.TakingOff.{AllMayLetGo, AllLetGo}
use Rattle.cg_txn.specs.LettingGo.{MayLetGo, IsLetGo}
use Rattle.cg_core.proofs.Stages.Alike.{same_stacks, told_alike}
use Rattle.cg_core.proofs.Stages.GoingBack.{oldest_may_let_go, held_after_draining, oldest_savepoint_off}
use Rattle.cg_core.specs.Parts.{stack_item}
use Rattle.cg_core.proofs.Stages.Steps.{IsKept, may_each, all_kept}

-- each item of t's stack lets go what nothing needs any more, once the older ones have
pub record Drainable (O : Tree) (ts : List ℕ) (stacks : ℕ → Items cgroups) (T : Tree) (t : ℕ) : Type 0 where
  pub drains : (newer : Items cgroups) (x : Item cgroups) (older : Items cgroups) → stacks t ≡ newer ++ x ∷ older
      → LetsGo O ts (room.has_entry O (with_items t (newer ++ x ∷ []) stacks) ts T) (with_items t newer stacks) T x newer

-- so it is of a machine by the laws
pub drainable_by_law : (O : Tree) (m : Machine cgroups) → OldestLetsGo O m → (t : ℕ) → among t (numbers (opens m.history)) ≡ true
    → Drainable O (numbers (opens m.history)) (λ u. live u m.history) m.tree t
drainable_by_law O m law t is_open = record { drains = λ newer x older stack. law t newer x older is_open stack }

-- the other way round item by item
reverse-map : {A B : Type 0} (f : A → B) (l : List A) → reverse (map f l) ≡ map f (reverse l)
reverse-map f [] = refl
reverse-map f (x ∷ l) =
    reverse-append (f x ∷ []) (map f l)
    ∙ ap (λ k. k ++ f x ∷ []) (reverse-map f l)
    ∙ sym (map-append f (reverse l) (x ∷ []))
    ∙ ap (map f) (sym (reverse-append (x ∷ []) l))

module _ (O : Tree) (ts : List ℕ) (stacks : ℕ → Items cgroups) (T : Tree) (t : ℕ) (is_open : among t ts ≡ true) (drainable : Drainable O ts stacks T t) where
  -- what holds before the items that are left to let go, the oldest of them first: those older were drained
  record IsUndrained (l : Items cgroups) (R : TreeWithRoom) (H : Holdings) : Type 0 where
    drained : Items cgroups
    holds : Holds O ts (with_items t (reverse l) stacks) T R H
    stack : stacks t ≡ reverse l ++ drained

  -- with the oldest of them last
  oldest_last : (x : Item cgroups) (l : Items cgroups) (R : TreeWithRoom) (H : Holdings) → IsUndrained (x ∷ l) R H → Holds O ts (with_items t (reverse l ++ x ∷ []) stacks) T R H
  oldest_last x l R H p = subst (λ k. Holds O ts (with_items t k stacks) T R H) (reverse-append (x ∷ []) l) p.holds

  stack_with : (x : Item cgroups) (l : Items cgroups) (R : TreeWithRoom) (H : Holdings) (p : IsUndrained (x ∷ l) R H) → stacks t ≡ reverse l ++ x ∷ p.drained
  stack_with x l R H p = p.stack ∙ ap (λ k. k ++ p.drained) (reverse-append (x ∷ []) l) ∙ append_assoc (reverse l) (x ∷ []) p.drained

  law : (x : Item cgroups) (l : Items cgroups) (R : TreeWithRoom) (H : Holdings) → IsUndrained (x ∷ l) R H
      → LetsGo O ts (room.has_entry O (with_items t (reverse l ++ x ∷ []) stacks) ts T) (with_items t (reverse l) stacks) T x (reverse l)
  law x l R H p = drainable.drains (reverse l) x p.drained (stack_with x l R H p)

  next : (x : Item cgroups) (l : Items cgroups) (R : TreeWithRoom) (H : Holdings) → IsUndrained (x ∷ l) R H → (R' : TreeWithRoom) (H' : Holdings) → Holds O ts (with_items t (reverse l) stacks) T R' H' → IsUndrained l R' H'
  next x l R H p R' H' h = record { drained = x ∷ p.drained; holds = h; stack = stack_with x l R H p }

  undrained_kept : IsKept O (λ d f. MayLetGo t f) (λ d f. IsLetGo t f) IsUndrained
  undrained_kept = record {
    may = λ u h c a l R H p. oldest_may_let_go stacks t (reverse l) (Ran u h c a) (oldest_last (Ran u h c a) l R H p) is_open (law (Ran u h c a) l R H p);
    step = λ u h c a l R H R' H' p s. next (Ran u h c a) l R H p R' H' (held_after_draining stacks t (reverse l) (Ran u h c a) (oldest_last (Ran u h c a) l R H p) is_open (law (Ran u h c a) l R H p) R' H' s);
    skip = λ u h n l R H p. next (AtSavepoint u h n) l R H p R H (oldest_savepoint_off stacks t u h n (reverse l) (oldest_last (AtSavepoint u h n) l R H p));
  }

  module _ {R : TreeWithRoom} {H : Holdings} (holds : Holds O ts stacks T R H) where
    undrained : IsUndrained (reverse (stacks t)) R H
    undrained = record {
      drained = [];
      holds = same_stacks (with_items t (reverse (reverse (stacks t))) stacks) stacks (told_alike (λ k. k) t (reverse (reverse (stacks t))) stacks (reverse-reverse (stacks t))) holds;
      stack = sym (reverse-reverse (stacks t)) ∙ sym (append-nil (reverse (reverse (stacks t))));
    }

    -- a whole stack may be let go, of the oldest item first
    pub all_may_let_go : AllMayLetGo t (reverse (map (stack_item O) (stacks t))) R H
    all_may_let_go =
        subst (λ k. AllMayLetGo t k R H) (sym (reverse-map (stack_item O) (stacks t))) (may_each O (λ d f. MayLetGo t f) (λ d f. IsLetGo t f) IsUndrained undrained_kept (reverse (stacks t)) R H undrained)

    -- and after it nothing stands on it
    pub held_after_all_let_go : (R' : TreeWithRoom) (H' : Holdings) → AllLetGo t (reverse (map (stack_item O) (stacks t))) R H R' H' → Holds O ts (with_items t [] stacks) T R' H'
    held_after_all_let_go R' H' let_go =
        (all_kept O (λ d f. MayLetGo t f) (λ d f. IsLetGo t f) IsUndrained undrained_kept (reverse (stacks t)) R H R' H' undrained
        (subst (λ k. AllLetGo t k R H R' H') (reverse-map (stack_item O) (stacks t)) let_go)).holds
