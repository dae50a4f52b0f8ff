-- A transaction begins with an empty stack, and ends with one.
use Rattle.std.proofs.Common.{◌≡◌, ℕ, ◌==◌, ◌||◌, ◌&&◌, not, Bool, true, false, cond, List, [], ◌∷◌, refl, sym, ap, ◌∙◌}
use Rattle.std.proofs.lemmas.Bool.{eqb-true}
use Rattle.std.specs.Option.{is_some}
use Rattle.cg_name.specs.Path.{Path}
use Rattle.cg_model.specs.Tree.{Tree, group}
use Rattle.cg_model.specs.Cgroups.{cgroups}
use Rattle.cg_model.specs.Footprint.{Mark}
use Rattle.cg_model.specs.Live.{Items}
use Rattle.cg_model.specs.Opens.{Opens, among, numbers, without}
use Rattle.cg_model.specs.Room.{needs_group, is_needed}
use Rattle.cg_core_laws.specs.Unwind.{with_items}
use Rattle.cg_core_laws.proofs.Interleaving.OpenTransactions.{among_without}
use Rattle.cg_locks.specs.Holdings.{Holdings, holdings}
use Rattle.cg_tree.specs.Room.{TreeWithRoom}
use Rattle.cg_core.specs.Held.{times_on}
use Rattle.cg_core.specs.Stage.{Holds}

module _ {O : Tree} {stacks : ℕ → Items cgroups} {T : Tree} {R : TreeWithRoom} {H : Holdings} where
  -- a transaction with no items is begun
  pub begun : {ts : List ℕ} (n : ℕ) → stacks n ≡ [] → Holds O ts stacks T R H → Holds O (n ∷ ts) stacks T R H
  begun {ts} n empty h = record {
    tree = h.tree;
    entries = λ p. h.entries p ∙ ap (λ b. is_some (group T p) || (b || is_needed O stacks ts p)) (sym (ap (needs_group O p) empty));
    held = λ u m. at u m (u == n) refl;
  }
    where
      at : (u : ℕ) (m : Mark) (b : Bool) → (u == n) ≡ b → holdings H u m ≡ cond (b || among u ts) (times_on O m (stacks u)) 0
      at u m false k = h.held u m
      at u m true k =
          let none : times_on O m (stacks u) ≡ 0 = ap (λ v. times_on O m (stacks v)) (eqb-true u n k) ∙ ap (times_on O m) empty in
          h.held u m ∙ nothing (among u ts) _ none ∙ sym none
        where
          nothing : (b : Bool) (x : ℕ) → x ≡ 0 → cond b x 0 ≡ 0
          nothing true x e = e
          nothing false x e = refl

module _ (stacks : ℕ → Items cgroups) (t : ℕ) (after : ℕ → Items cgroups) (others : (u : ℕ) → (u == t) ≡ false → after u ≡ stacks u) where
  -- an empty stack needs nothing
  needed_without : (O : Tree) (p : Path) (ps : Opens) → is_needed O (with_items t [] stacks) (numbers ps) p ≡ is_needed O after (numbers (without t ps)) p
  needed_without O p [] = refl
  needed_without O p (q ∷ ps) = at (q.1 == t) refl (needed_without O p ps)
    where
      at : (b : Bool) → (q.1 == t) ≡ b → is_needed O (with_items t [] stacks) (numbers ps) p ≡ is_needed O after (numbers (without t ps)) p → (needs_group O p (cond b [] (stacks q.1)) || is_needed O (with_items t [] stacks) (numbers ps) p) ≡ is_needed O after (numbers (cond b (without t ps) (q ∷ without t ps))) p
      at true k rest = rest
      at false k rest = λ i. needs_group O p (sym (others q.1 k) i) || rest i

  -- a transaction with no items left ends
  pub ended : {O : Tree} {T : Tree} {R : TreeWithRoom} {H : Holdings} (ps : Opens) → Holds O (numbers ps) (with_items t [] stacks) T R H → Holds O (numbers (without t ps)) after T R H
  ended {O} {T} {R} {H} ps h = record {
    tree = h.tree;
    entries = λ p. h.entries p ∙ ap (λ b. is_some (group T p) || b) (needed_without O p ps);
    held = λ u m. h.held u m ∙ at u m (u == t) (among u (numbers ps)) refl ∙ ap (λ b. cond b (times_on O m (after u)) 0) (sym (among_without t u ps));
  }
    where
      at : (u : ℕ) (m : Mark) (b c : Bool) → (u == t) ≡ b → cond c (times_on O m (cond b [] (stacks u))) 0 ≡ cond (not b && c) (times_on O m (after u)) 0
      at u m true true k = refl
      at u m true false k = refl
      at u m false c k = ap (λ l. cond c (times_on O m l) 0) (sym (others u k))
