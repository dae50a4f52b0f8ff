-- Stacks that need the same groups and mark the same are held alike: so savepoints come and go.
use Rattle.std.proofs.Common.{◌≡◌, ℕ, ◌==◌, ◌||◌, Bool, true, false, cond, List, ◌∷◌, refl, sym, ap, ◌∙◌, zero-add}
use Rattle.std.proofs.lemmas.Bool.{eqb-true}
use Rattle.cg_name.specs.Name.{Name}
use Rattle.cg_name.specs.Path.{Path}
use Rattle.cg_model.specs.Tree.{Tree, group}
use Rattle.cg_model.specs.Cgroups.{cgroups}
use Rattle.cg_model.specs.Footprint.{Mark}
use Rattle.cg_model.specs.History.{History}
use Rattle.cg_model.specs.Live.{AtSavepoint, Items}
use Rattle.cg_model.specs.Opens.{among}
use Rattle.cg_model.specs.Room.{needs_group}
use Rattle.cg_core_laws.specs.Unwind.{with_items}
use Rattle.cg_core_laws.proofs.ControlGroups.RoomForGoingBack.{needed_alike}
use Rattle.cg_locks.specs.Holdings.{Holdings}
use Rattle.cg_tree.specs.Room.{TreeWithRoom}
use Rattle.cg_core.specs.Held.{times_on}
use Rattle.cg_core.specs.Stage.{Holds}
use Rattle.std.specs.Option.{is_some}

module _ {O : Tree} {ts : List ℕ} (after before : ℕ → Items cgroups) {T : Tree} {R : TreeWithRoom} {H : Holdings} where
  -- stacks that need the same groups and mark the same are held alike
  pub alike : ((u : ℕ) (p : Path) → needs_group O p (after u) ≡ needs_group O p (before u)) → ((u : ℕ) (m : Mark) → times_on O m (after u) ≡ times_on O m (before u))
      → Holds O ts before T R H → Holds O ts after T R H
  alike need mark h = record {
    tree = h.tree;
    entries = λ p. h.entries p ∙ ap (λ b. is_some (group T p) || b) (sym (needed_alike (λ u. needs_group O p (after u)) (λ u. needs_group O p (before u)) (λ u. need u p) ts));
    held = λ u m. h.held u m ∙ ap (λ k. cond (among u ts) k 0) (sym (mark u m));
  }

  -- and so are equal stacks
  pub same_stacks : ((u : ℕ) → after u ≡ before u) → Holds O ts before T R H → Holds O ts after T R H
  same_stacks same h = alike (λ u p. ap (needs_group O p) (same u)) (λ u m. ap (times_on O m) (same u)) h

-- what t's stack tells as before, each stack tells as before
pub told_alike : {A : Type 0} (f : Items cgroups → A) (t : ℕ) (l : Items cgroups) (stacks : ℕ → Items cgroups) → f l ≡ f (stacks t) → (u : ℕ) → f (with_items t l stacks u) ≡ f (stacks u)
told_alike f t l stacks e u = at (u == t) refl
  where
    at : (b : Bool) → (u == t) ≡ b → f (cond b l (stacks u)) ≡ f (stacks u)
    at true k = e ∙ ap (λ v. f (stacks v)) (sym (eqb-true u t k))
    at false k = refl

module _ {O : Tree} {ts : List ℕ} {stacks : ℕ → Items cgroups} {T : Tree} {R : TreeWithRoom} {H : Holdings} (t v : ℕ) (b : History cgroups) (n : Name) where
  -- a savepoint is set
  pub save : Holds O ts stacks T R H → Holds O ts (with_items t (AtSavepoint v b n ∷ stacks t) stacks) T R H
  save h = alike (with_items t (AtSavepoint v b n ∷ stacks t) stacks) stacks
      (λ u p. told_alike (needs_group O p) t (AtSavepoint v b n ∷ stacks t) stacks refl u)
      (λ u m. told_alike (times_on O m) t (AtSavepoint v b n ∷ stacks t) stacks (zero-add (times_on O m (stacks t))) u) h

  -- a savepoint is taken off
  pub savepoint_off : (l : Items cgroups) → stacks t ≡ AtSavepoint v b n ∷ l → Holds O ts stacks T R H → Holds O ts (with_items t l stacks) T R H
  savepoint_off l stack h = alike (with_items t l stacks) stacks
      (λ u p. told_alike (needs_group O p) t l stacks (ap (needs_group O p) (sym stack)) u)
      (λ u m. told_alike (times_on O m) t l stacks (sym (zero-add (times_on O m l)) ∙ ap (times_on O m) (sym stack)) u) h
