-- No group is needed by the stacks of two transactions: their live commands change keys that don't touch.
use Rattle.std.proofs.Common.{◌≡◌, ◌≢◌, ℕ, Bool, true, false, cond, ◌==◌, List, [], ◌∷◌, inl, inr, refl, sym, ◌∙◌}
use Rattle.std.specs.List.{AllByRecursion, list_any}
use Rattle.std.proofs.lemmas.Bool.{eq-eqb, or_cases, or_from, or_left, or_right, both_ways, false_from_ne_true}
use Rattle.cg_name.specs.Path.{Path}
use Rattle.cg_model.specs.Tree.{Tree}
use Rattle.cg_model.specs.Key.{Key, Group, touch}
use Rattle.cg_model.specs.Change.{Change}
use Rattle.cg_model.specs.Cgroups.{cgroups}
use Rattle.cg_model.specs.Opens.{among, numbers, opens}
use Rattle.cg_model.specs.Live.{Items, live}
use Rattle.cg_model.specs.Machine.{Machine}
use Rattle.cg_model.specs.Room.{is_group_key, changes_group, inverse, needs_group, is_needed}
use Rattle.cg_model_laws.specs.Laws.{KeysDontTouch}
use Rattle.cg_core_laws.specs.Unwind.{with_items}
use Rattle.cg_core_laws.specs.Laws.{LiveKeysApart}
use Rattle.cg_model_laws.proofs.Paths.{never, same_path-is, same_path-from}

-- what follows from an item that passes, where each has P
of_passing : {A : Type 0} {P : A → Type 0} {Q : Type 0} (test : A → Bool) → ((x : A) → test x ≡ true → P x → Q) → (xs : List A) → list_any test xs ≡ true → AllByRecursion P xs → Q
of_passing test f [] e h = never e
of_passing test f (x ∷ xs) e h = elim (or_cases _ _ e) [
  | inl here ↦ f x here h.0
  | inr later ↦ of_passing test f xs later h.1
]

-- two keys of one group touch
one_group : (p : Path) (k l : Key) → is_group_key p k ≡ true → is_group_key p l ≡ true → touch k l ≡ true
one_group p (Group q) (Group r) e f = same_path-from q r (sym (same_path-is p q e) ∙ same_path-is p r f)
one_group p (Group q) l e f = never f
one_group p k l e f = never e

change_apart : (p : Path) (cs ds : List Change) → KeysDontTouch cs ds → changes_group p cs ≡ true → changes_group p ds ≡ true → ⊥
change_apart p cs ds apart e f = of_passing (λ c. is_group_key p c.key) (λ c k h. of_passing (λ d. is_group_key p d.key) (λ d l free. both_ways _ free (one_group p c.key d.key k l)) ds f h) cs e apart

-- a group that one of these transactions needs, no other of them needs
abbrev pub NeededOnce : Tree → List ℕ → (ℕ → Items cgroups) → Type 0
NeededOnce O ts stacks = (p : Path) (t u : ℕ) → among t ts ≡ true → among u ts ≡ true → t ≢ u → needs_group O p (stacks t) ≡ true → needs_group O p (stacks u) ≡ false

module _ (O : Tree) where
  pub needed_once : (m : Machine cgroups) → LiveKeysApart O m → NeededOnce O (numbers (opens m.history)) (λ t. live t m.history)
  needed_once m apart p t u is_open other ne e =
      false_from_ne_true _ (λ f.
      of_passing (λ x. changes_group p (inverse O x)) (λ x k h. of_passing (λ z. changes_group p (inverse O z)) (λ z l free. change_apart p (inverse O x) (inverse O z) free k l) (live u m.history) f h) (live t m.history) e (apart t u is_open other ne))

  module _ (ts : List ℕ) (stacks rest : ℕ → Items cgroups) (fewer : (p : Path) (u : ℕ) → needs_group O p (rest u) ≡ true → needs_group O p (stacks u) ≡ true) where
    -- so it stays where the stacks need no more than they did
    pub needed_once_still : NeededOnce O ts stacks → NeededOnce O ts rest
    needed_once_still once p t u is_open other ne e = false_from_ne_true _ (λ f. both_ways _ (once p t u is_open other ne (fewer p t e)) (fewer p u f))

  -- what none of these transactions needs, they don't need
  none_needs : (f : ℕ → Bool) (ts us : List ℕ) → ((u : ℕ) → among u ts ≡ true → f u ≡ false) → ((u : ℕ) → among u us ≡ true → among u ts ≡ true) → list_any f us ≡ false
  none_needs f ts [] h within = refl
  none_needs f ts (u ∷ us) h within = or_from _ _ (h u (within u (or_left _ _ (eq-eqb u u refl)))) (none_needs f ts us h (λ v m. within v (or_right _ _ m)))

  -- what t's stack needed and what is left of it doesn't, nobody needs
  pub nobody_needs : (ts : List ℕ) (stacks : ℕ → Items cgroups) (t : ℕ) (l : Items cgroups) (p : Path) → NeededOnce O ts stacks → among t ts ≡ true
      → needs_group O p (stacks t) ≡ true → needs_group O p l ≡ false → is_needed O (with_items t l stacks) ts p ≡ false
  nobody_needs ts stacks t l p once is_open own free = none_needs (λ u. needs_group O p (with_items t l stacks u)) ts ts (λ u m. at u m (u == t) refl) (λ u m. m)
    where
      at : (u : ℕ) → among u ts ≡ true → (b : Bool) → (u == t) ≡ b → needs_group O p (cond b l (stacks u)) ≡ false
      at u m true k = free
      at u m false k = once p t u is_open m (λ e. both_ways _ k (eq-eqb u t (sym e))) own
